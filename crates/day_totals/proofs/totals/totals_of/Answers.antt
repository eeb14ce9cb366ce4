use Rattle.std.proofs.Common.{◌≡◌, ◌∙◌, ℕ, List, ap, sym, subst, unwrap_or, is_some, string_bytes}
use Rattle.std.proofs.lemmas.Result.{IfOk-weaker}
use Rattle.std.specs.BTreeMap.{get_by_text}
use Rattle.std.specs.List.Sorted.{IsStrictlySortedBy}
use Rattle.std.specs.Map.{keys_of, lookup}
use Rattle.std.specs.Ordering.{is_eq, nat_cmp}
use Rattle.std.specs.Cmp.Lexicographic.{slice_cmp}
use Rattle.std.specs.Str.{bytes_eq}
use Rattle.std.specs.String.{string_cmp}
use Rattle.day_totals.specs.Day.{shown}
use Rattle.day_totals.proofs.Listed.{found_shown, rising_shown}
use Rattle.day_totals.proofs.totals.totals_of.Goals as goal

pub returns : goal.returns
returns c =
    let tally = c.in_ok-tallied.field-0 in
    let tallied = c.in_ok-tallied.ensures in
    IfOk-weaker c.listed.result _ _ (λ totals same.
    let found : (name : List ℕ) → lookup (bytes_eq name) (shown totals.items) ≡ get_by_text tally name
    = λ name. found_shown totals.items name ∙ ap (lookup (λ k. is_eq (slice_cmp nat_cmp name (string_bytes k)))) same in
    record {
      sums = λ name. ap (λ o. unwrap_or o 0) (found name) ∙ tallied.sums name;
      names = λ name. ap is_some (found name) ∙ tallied.names name;
      order = rising_shown totals.items (subst (λ es. IsStrictlySortedBy string_cmp (keys_of es)) (sym same) c.listed.ensures.order);
    }) c.listed.ensures.items
