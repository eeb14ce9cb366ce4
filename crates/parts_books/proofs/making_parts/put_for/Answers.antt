use Rattle.std.proofs.Common.{◌≡◌, ◌&&◌, cond, List, ap, ◌∙◌}
use Rattle.std.specs.FinMap as map
use Rattle.issuer_laws.specs.Parts.{may_need}
use Rattle.issuer_rows.specs.declared.row_key.RowKey.{RowKey}
use Rattle.parts_books.specs.PartBooks.{has_account_at, is_among, lent_keys}
use Rattle.parts_books.proofs.making_parts.put_for.Goals as goal
use Rattle.book_changes.proofs.Splitting.{both_put}

pub returns : goal.returns
returns c q =
    let book = c.args.book.now in
    let needs = may_need book c.args.frame.now in
    let keys : c.deref.result.now ≡ needs = c.deref.ensures.value ∙ c.in_ok-keys.ensures in
    let again : c.deref-2.result.now ≡ needs = c.deref-2.ensures.value ∙ c.in_ok-keys.ensures in
    let lent : c.deref-3.result.now ≡ lent_keys book needs = c.deref-3.ensures.value ∙ c.in_ok-lent.ensures ∙ ap (lent_keys book) again in
    both_put (is_among q needs) (has_account_at book q && is_among q (lent_keys book needs)) _ _ _ _
    (c.in_ok-put_rows.ensures q ∙ ap (λ (ks : List RowKey). cond (is_among q ks) (map.get book q) (map.get c.args.other.now q)) keys)
    (c.in_ok-put_accounts.ensures q ∙ ap (λ (ks : List RowKey). cond (has_account_at book q && is_among q ks) (map.get book q) (map.get c.put_rows.new.other q)) lent)
