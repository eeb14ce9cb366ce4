use Rattle.std.proofs.Common.{◌≤◌, ◌^◌, string_bytes, unwrap_or, arith}
use Rattle.std.proofs.lemmas.Grind.{text_counts}
use Rattle.std.proofs.lemmas.Map.Text.{text_keys}
use Rattle.std.specs.BTreeMap.{get_by_text}
use Rattle.day_totals.proofs.totals.add_counted.Goals as goal

pub overflow_add-tally : goal.overflow_add-tally
overflow_add-tally c =
    let room : unwrap_or (get_by_text c.args.tally.now (string_bytes c.args.counted.name)) 0 ≤ 2 ^ 63 = c.requires.fits (string_bytes c.args.counted.name) in
    grind (arith, text_counts, room, c.requires.bound)

pub returns-clause-sums : goal.returns-clause-sums
returns-clause-sums c = λ name. grind (arith, text_counts)

pub returns-clause-names : goal.returns-clause-names
returns-clause-names c = λ name. grind (arith, text_keys)
