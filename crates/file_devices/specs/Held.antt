-- Files that are kept in memory.
use Rattle.std.specs.Prelude.{◌≡◌, ℕ, List, Option, Some, IsSome, option_map, String}
use Rattle.std.specs.BTreeMap.{BTreeMap, get_by_text}
use Rattle.std.specs.Global.{Global, Vec}
use Rattle.file_devices.specs.Devices.{known_bytes}
use Rattle.file_devices.specs.declared.sink.IntoWrite.{IntoWrite}

-- what the file of this name holds, if there is one
abbrev pub held : BTreeMap (String Global) (Vec ℕ) → List ℕ → Option (List ℕ)
held files name = option_map (λ bytes. bytes.items) (get_by_text files name)

-- the file of this name holds these bytes
abbrev pub HeldBy : BTreeMap (String Global) (Vec ℕ) → List ℕ → List ℕ → Type 0
HeldBy files name bytes = held files name ≡ Some bytes

-- what was written to a file in memory is known
abbrev pub IsMemory : IntoWrite (Vec ℕ) → Type 0
IsMemory output = IsSome (Some output.writer.items)

abbrev pub written_to : IntoWrite (Vec ℕ) → List ℕ
written_to output = known_bytes (Some output.writer.items)
