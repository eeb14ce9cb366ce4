-- Rows that were written one after another, and are given back what they were.
use Rattle.std.proofs.Common.{◌≡◌, ◌≢◌, List, [], ◌∷◌, ◌++◌, None, IfSome, refl, sym, ap, subst, ◌∙◌}
use Rattle.std.proofs.lemmas.Option.{none-some}
use Rattle.std.specs.FinMap as map
use Rattle.issuer_words.specs.Words.{IsOfKind, RowKey, RowVal, Rows}
use Rattle.issuer_fold.specs.Formers.{Former, AreFormersOfKind, AreThere, LeadsBack, given_back}
use Rattle.issuer_fold.specs.Former.{with_former}
use Rattle.issuer_fold.proofs.UndoLaws.{there_now, undone}

-- the one that was written last is given back first
pub given_back-last : (rows : Rows) (formers : List Former) (last : Former) → given_back rows (formers ++ last ∷ []) ≡ given_back (with_former rows last.0 last.1) formers
given_back-last rows [] last = refl
given_back-last rows (former ∷ formers) last = ap (λ (r : Rows). with_former r former.0 former.1) (given_back-last rows formers last)

-- each row is there where the last one is, and the others are behind it
there_before : (rows : Rows) (formers : List Former) (last : Former) → map.get rows last.0 ≢ None → AreThere (with_former rows last.0 last.1) formers → AreThere rows (formers ++ last ∷ [])
there_before rows [] last first rest = (first, tt)
there_before rows (former ∷ formers) last first rest = (
  subst (λ (r : Rows). map.get r former.0 ≢ None) (sym (given_back-last rows formers last)) rest.0,
  there_before rows formers last first rest.1,
)

pub last_there : (rows : Rows) (formers : List Former) (last : Former) → AreThere rows (formers ++ last ∷ []) → (map.get rows last.0 ≢ None) × AreThere (with_former rows last.0 last.1) formers
last_there rows [] last there = (there.0, tt)
last_there rows (former ∷ formers) last there =
    let rest = last_there rows formers last there.1 in
    (rest.0, (subst (λ (r : Rows). map.get r former.0 ≢ None) (given_back-last rows formers last) there.0, rest.1))

-- what is known of the kinds of all, of the last one and of the others
pub last_of_kind : (formers : List Former) (last : Former) → AreFormersOfKind (formers ++ last ∷ []) → IfSome last.1 (IsOfKind last.0) × AreFormersOfKind formers
last_of_kind [] last kinds = (kinds.0, tt)
last_of_kind (former ∷ formers) last kinds = let rest = last_of_kind formers last kinds.1 in (rest.0, (kinds.0, rest.1))

pub one_more_of_kind : (formers : List Former) (last : Former) → AreFormersOfKind formers → IfSome last.1 (IsOfKind last.0) → AreFormersOfKind (formers ++ last ∷ [])
one_more_of_kind [] last kinds kind = (kind, tt)
one_more_of_kind (former ∷ formers) last kinds kind = (kinds.0, one_more_of_kind formers last kinds.1 kind)

-- one row more was written, and what it was is noted
pub leads_back_still : (rows : Rows) (formers : List Former) (earlier : Rows) (key : RowKey) (row : RowVal) → LeadsBack rows formers earlier
    → LeadsBack (map.insert rows key row) (formers ++ (key, map.get rows key) ∷ []) earlier
leads_back_still rows formers earlier key row back =
    let written = map.insert rows key row in
    let last : Former = (key, map.get rows key) in
    let again = sym (undone rows key row) in
    record {
      there = there_before written formers last (rw (there_now rows key row) (λ none. none-some row (sym none))) (subst (λ (r : Rows). AreThere r formers) again back.there);
      same = given_back-last written formers last ∙ ap (λ (r : Rows). given_back r formers) (sym again) ∙ back.same;
    }

-- no row was written yet
pub leads_back_at_once : (rows earlier : Rows) (formers : List Former) → rows ≡ earlier → formers ≡ [] → LeadsBack rows formers earlier
leads_back_at_once rows earlier formers same none = rw (same, none) (let back : LeadsBack earlier [] earlier = record { there = tt; same = refl } in back)
