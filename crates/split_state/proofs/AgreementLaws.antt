-- Reads that are looked at one after another.
use Rattle.std.proofs.Common.{◌≡◌, ◌↔◌, ℕ, ◌+◌, Option, Some, drop, slice_get, sym, subst}
use Rattle.issuer_rows.proofs.OverlayLaws.{left_at}
use Rattle.issuer_words.specs.Words.{Agrees, Lookup, Reads, RowKey, RowVal}

-- where the read at this place agrees, it is left to look at those behind it
pub one_less_left : (reads : Reads) (look : Lookup) (i : ℕ) (read : RowKey × Option RowVal) → slice_get reads i ≡ Some read → look read.0 ≡ read.1
    → Agrees (drop i reads) look ↔ Agrees reads look → Agrees (drop (i + 1) reads) look ↔ Agrees reads look
one_less_left reads look i read at agrees h = (
  λ rest. h.0 (subst (λ (left : Reads). Agrees left look) (sym (left_at reads i read at)) (agrees, rest)),
  λ all. (subst (λ (left : Reads). Agrees left look) (left_at reads i read at) (h.1 all)).1,
)
