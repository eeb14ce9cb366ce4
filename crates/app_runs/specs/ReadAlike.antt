-- Books that have a row alike.
use Rattle.std.specs.Prelude.{◌≡◌, ⊤}
use Rattle.std.specs.FinMap as finite
use Rattle.issuer_rows.specs.Fold.{Rows}
use Rattle.stm_journal_text.specs.declared.event.Event.{Event}
use Rattle.stm_journal_text.specs.declared.event.Event.TheVariants.{Read}

-- where the event reads a row, both books have it alike
abbrev pub IsReadAlike : Rows → Rows → Event → Type 0
IsReadAlike a b (Read version key) = finite.get a key ≡ finite.get b key
IsReadAlike a b event = ⊤
