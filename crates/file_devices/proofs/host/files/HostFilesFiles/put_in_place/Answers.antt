use Rattle.std.proofs.Common.{rules}
use Rattle.file_devices.proofs.Placing.{one_named}
use Rattle.file_devices.proofs.host.files.HostFilesFiles.put_in_place.Goals as goal

pub returns-clause-refused : goal.returns-clause-refused
returns-clause-refused g c = λ refused. one_named (λ name. Unit {0}) c.args.files.items (search rules) (λ name. tt)
