use Rattle.std.proofs.Common.{◌≡◌, Bool, true, false, cond, ◌||◌, Option, None, refl, sym, ap, ◌∙◌}
use Rattle.std.proofs.lemmas.Bool.{false≢true}
use Rattle.std.specs.FinMap as map
use Rattle.issuer_rows.proofs.KeyLaws.{key_eq_decides}
use Rattle.issuer_words.specs.Words.{RowVal, Rows, key_eq}
use Rattle.book_changes.specs.Archive.{has_paid}
use Rattle.book_changes.proofs.Splitting.{put_seen, none_within, both_put}
use Rattle.book_changes.proofs.archiving.put_past.Goals as goal

pub returns-in_ok-put_copy : goal.returns-in_ok-put_copy
returns-in_ok-put_copy c q =
    let book = c.args.book.now in
    let row = ap (λ (rows : Rows). map.get rows q) c.in_ok-put_row.ensures ∙ put_seen c.args.old.now book c.args.key.now c.args.val.now q c.requires.there in
    let paid =
    ap (λ (rows : Rows). map.get rows q) c.in_ok-put_copy.ensures.ok
    ∙ put_seen c.put_row.new.other book c.in-Some.account c.in-Some-row.row.now q (sym c.in-Some-row.ensures.value)
    ∙ ap (λ (b : Bool). cond b (map.get book q) (map.get c.put_row.new.other q)) (sym (c.in-Some.ensures.some q))
    in
    both_put (key_eq q c.args.key.now) (has_paid q c.args.val.now) _ _ _ _ row paid

-- the payer has no row, here nor there
none_put : (own paid : Bool) (whole before between : Option RowVal) → between ≡ cond own whole before → (paid ≡ true → (whole ≡ None) × (before ≡ None)) → between ≡ cond (own || paid) whole before
none_put true paid whole before between one none = one
none_put false true whole before between one none = one ∙ (none refl).1 ∙ sym (none refl).0
none_put false false whole before between one none = one

pub returns-in_default-row : goal.returns-in_default-row
returns-in_default-row c q =
    let book = c.args.book.now in
    let row = ap (λ (rows : Rows). map.get rows q) c.in_ok-put_row.ensures ∙ put_seen c.args.old.now book c.args.key.now c.args.val.now q c.requires.there in
    none_put (key_eq q c.args.key.now) (has_paid q c.args.val.now) _ _ _ row (λ paid.
    let same = (key_eq_decides q c.in-Some.account).0 (sym (c.in-Some.ensures.some q) ∙ paid) in
    let absent : map.get book q ≡ None = ap (map.get book) same ∙ sym c.in_default-row.ensures.value in
    (absent, none_within c.args.old.now book q c.requires.within absent))

pub returns-in_default : goal.returns-in_default
returns-in_default c q =
    let book = c.args.book.now in
    let row = ap (λ (rows : Rows). map.get rows q) c.in_ok-put_row.ensures ∙ put_seen c.args.old.now book c.args.key.now c.args.val.now q c.requires.there in
    none_put (key_eq q c.args.key.now) (has_paid q c.args.val.now) _ _ _ row (λ paid. absurd (false≢true (sym (c.in_default.ensures.none q) ∙ paid)))
