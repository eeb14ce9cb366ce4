use Rattle.std.proofs.Common.{◌∙◌, ℕ, List, ap, sym, string_bytes}
use Rattle.std.proofs.lemmas.List.{take-map}
use Rattle.std.proofs.lemmas.List.Sorted.{IsPermutation-map, answers_always, ranks_by}
use Rattle.std.specs.Ordering.{is_lt}
use Rattle.day_totals.specs.Day.{rank, shown}
use Rattle.day_totals.specs.declared.total.Total.{Total}
use Rattle.day_totals.proofs.Ranked.{sorted_map, rank_total}
use Rattle.day_totals.proofs.greatest.greatest_of.Goals as goal

pub returns : goal.returns
returns c =
    let pair : Total → List ℕ × ℕ = λ t. (string_bytes t.name, t.sum) in
    let sorted = c.in_ok-sort_by.ensures.sorted _ (ranks_by rank_total pair) (answers_always _ _ _ (λ f a r f' k. ap is_lt k.met)) in
    record {
      ranked = shown c.sort_by.new.self.items;
      same = IsPermutation-map pair _ _ c.sort_by.ensures.permutation;
      order = sorted_map pair (λ t u. is_lt (rank t u)) c.sort_by.new.self.items sorted;
      front = ap shown c.truncate.ensures.items ∙ sym (take-map pair 10 c.sort_by.new.self.items);
    }
