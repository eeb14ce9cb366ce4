-- What the host says of a file, in words.
use Rattle.std.specs.Prelude.{ℕ, List, codes}
use Rattle.file_devices.specs.declared.host_reason.HostReason.{HostReason}
use Rattle.file_devices.specs.declared.host_reason.HostReason.TheVariants.{NotFound, NotAllowed, Directory, NoDirectory, ReadOnly, Full, Name, Busy, Failed}

abbrev pub host_text : HostReason → List ℕ
host_text NotFound = codes "no such file or directory"
host_text NotAllowed = codes "permission denied"
host_text Directory = codes "is a directory"
host_text NoDirectory = codes "a part of the name is no directory"
host_text ReadOnly = codes "read-only file system"
host_text Full = codes "no space left on the device"
host_text Name = codes "no name of a file"
host_text Busy = codes "in use by another program"
host_text Failed = codes "input or output failed"
