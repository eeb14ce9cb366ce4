use Rattle.std.proofs.Common.{length}
use Rattle.file_devices.proofs.memory.MemoryFiles.+put_all.Given as goal

-- the files that are still to be put
abbrev pub decreases-put_all : goal.decreases-put_all
decreases-put_all l = length l.files.items
