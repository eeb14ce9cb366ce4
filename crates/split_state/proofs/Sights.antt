-- What is seen of a row by the entry that was found for it.
use Rattle.std.proofs.Common.{◌≡◌, ℕ, Option, Some, None, IfSome, refl, subst}
use Rattle.issuer_words.specs.Words.{IsOfKind, RowKey, RowVal}
use Rattle.stm_memory.specs.Words.{IsSeenOfKind, seen_by, seen_of}
use Rattle.stm_memory.specs.declared.link.Link.{Link}
use Rattle.stm_memory.specs.declared.version.Version.{Version}
use Rattle.split_state.specs.declared.sight.Sight.{Sight}
use Rattle.split_state.specs.declared.sight.Sight.TheVariants.{Put}
use Rattle.split_state.specs.Sighted.{IsSeenSo, entry_sight, over, row_over, sight_of}

value_seen_so : (key : RowKey) (index incarnation : ℕ) (value was : Option RowVal) → IsSeenOfKind key (seen_by index incarnation value)
    → IsSeenSo key (entry_sight index incarnation value) was (over value was)
value_seen_so key index incarnation (Some value) was kind = (value, refl, kind)
value_seen_so key index incarnation None was kind = refl

pub seen_so : (key : RowKey) (entry : Option Link) (was : Option RowVal) → IsSeenOfKind key (seen_of entry)
    → IsSeenSo key (sight_of entry) was (row_over entry was)
seen_so key (Some link) was kind = value_seen_so key link.index link.incarnation link.value was kind
seen_so key None was kind = refl

-- where what was written is seen, it is a row of its key's kind
pub put_of_kind : (key : RowKey) (sight : Sight) (was now : Option RowVal) (version : Version) → IsSeenSo key sight was now → sight ≡ Put version → IfSome now (IsOfKind key)
put_of_kind key sight was now version seen is =
    let s : IsSeenSo key (Put version) was now = subst (λ (x : Sight). IsSeenSo key x was now) is seen in
    rw s.1 s.2
