-- What `make` says.
use Rattle.std.specs.Prelude.{⊤, ℕ, List, Option, map, string_bytes}
use Rattle.std.specs.Io.KnownBytes.{Appends}
use Rattle.file_listing.specs.BodyLines.{body_line}
use Rattle.message_text.specs.Made.{IsMade}
use Rattle.app_messages.specs.declared.make_asking.MakeAsked.{MakeAsked}
use Rattle.app_messages.specs.declared.make_asking.MakeAsked.TheVariants.{Message, Help, Wrong}

-- What is asked for is said, behind what was said before: of a message the line of its body, in hexadecimal.
abbrev pub IsMadeSaid : MakeAsked → Option (List ℕ) → Option (List ℕ) → Type 0
IsMadeSaid (Message kind pairs) before after =
    (body : List ℕ) × IsMade kind.now (map string_bytes pairs.now) body × Appends before after (body_line body)
IsMadeSaid Help before after = ⊤
IsMadeSaid Wrong before after = ⊥
