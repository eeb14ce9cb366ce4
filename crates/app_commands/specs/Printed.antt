-- What was printed.
use Rattle.std.specs.Prelude.{◌≡◌, ◌==◌, ℕ, List, [], ◌∷◌, ◌++◌, Option, Some, None, IfSome, codes, decimal, if◌then◌else◌}
use Rattle.app_jobs.specs.declared.block_count.BlockCount.{BlockCount}
use Rattle.file_batch.specs.declared.body_count.BodyCount.{BodyCount}
use Rattle.app_commands.specs.declared.printer.Printer.{Printer}

-- what the printer's writer holds, where that is known and the writer took every line
abbrev pub printed : {W : Type 0} → (W → Option (List ℕ)) → Printer W → Option (List ℕ)
printed contents printer = if printer.is_stuck then None else contents printer.writer

-- the text stands behind what was printed before, where the writer took it
abbrev pub Prints : Option (List ℕ) → Option (List ℕ) → List ℕ → Type 0
Prints old new text = IfSome new (λ now. IfSome old (λ before. now ≡ before ++ text))

-- the line and a line feed do
abbrev pub PrintsLine : Option (List ℕ) → Option (List ℕ) → List ℕ → Type 0
PrintsLine old new line = Prints old new (line ++ 10 ∷ [])

-- a word, a space and a number
abbrev pub numbered : List ℕ → ℕ → List ℕ
numbered word number = word ++ 32 ∷ decimal number

-- a line feed and the line, if there is one
abbrev pub behind : Option (List ℕ) → List ℕ
behind None = []
behind (Some line) = 10 ∷ line

-- that so many bodies were packed in so many blocks
abbrev pub packed_in_blocks : ℕ → ℕ → List ℕ
packed_in_blocks bodies blocks = numbered (codes "packed") bodies ++ codes " in " ++ decimal blocks ++ codes " blocks"

-- that so many bodies are no message
abbrev pub count_unreadable : ℕ → List ℕ
count_unreadable count = codes ", " ++ decimal count ++ codes " unreadable"

-- how many bodies are no message, where there are such
abbrev pub unreadable : ℕ → List ℕ
unreadable count = if count == 0 then [] else count_unreadable count

-- so many bodies, and how many of them are no message
abbrev pub decided : BodyCount → List ℕ
decided count = numbered (codes "decided") count.bodies ++ unreadable count.unreadable

-- so many bodies in so many blocks, and how many of them are no message
abbrev pub decided_in_blocks : BlockCount → List ℕ
decided_in_blocks count =
    numbered (codes "decided") count.messages.bodies ++ codes " in " ++ decimal count.blocks ++ codes " blocks" ++ unreadable count.messages.unreadable
