-- Messages whose replies are the fold's.
use Rattle.std.specs.Prelude.{◌≡◌, List, [], ◌∷◌, Some}
use Rattle.issuer_words.specs.Words.{Frame, Rows, reply_of, rows_after_one}
use Rattle.stm_core_laws.specs.State.{ExecutionSlot}

-- Each of these messages has a reply, which is what is decided on the rows after those before it.
abbrev pub Follows : Rows → List ExecutionSlot → List Frame → Type 0
Follows rows [] [] = Unit {0}
Follows rows [] (frame ∷ frames) = ⊥
Follows rows (m ∷ ms) [] = ⊥
Follows rows (m ∷ ms) (frame ∷ frames) = (m.reply ≡ Some (reply_of rows frame)) × Follows (rows_after_one rows frame) ms frames
