-- Texts that are written to files which aren't in their places yet.
use Rattle.std.specs.Prelude.{◌≡◌, ℕ, List, string_bytes}
use Rattle.std.specs.List.{AllZip}
use Rattle.file_devices.specs.declared.written.Written.{Written}
use Rattle.app_parts_folder.specs.declared.named_text.NamedText.{NamedText}

-- it has the text's name and, where it is known what files hold, the text
abbrev pub IsWritten : {O : Type 0} → (O → Type 0) → (O → List ℕ) → Type 0 → NamedText → Written O → Type 0
IsWritten is_known_output written known text one =
    (string_bytes one.name ≡ string_bytes text.name) × (known → is_known_output one.output × (written one.output ≡ text.text.items))

-- each text is written, in their order
abbrev pub AreWritten : {O : Type 0} → (O → Type 0) → (O → List ℕ) → Type 0 → List NamedText → List (Written O) → Type 0
AreWritten is_known_output written known texts all = AllZip (IsWritten is_known_output written known) texts all
