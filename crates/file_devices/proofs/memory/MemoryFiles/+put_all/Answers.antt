use Rattle.std.proofs.Common.{◌∙◌, sym, rules, arith}
use Rattle.std.proofs.lemmas.List.{nil_from_length}
use Rattle.file_devices.proofs.Placing.{by_names, front_and_rest, none_named, none_placed, placed_first}
use Rattle.file_devices.proofs.memory.MemoryFiles.+put_all.Goals as goal

pub returns-then-is_empty-clause-placed : goal.returns-then-is_empty-clause-placed
returns-then-is_empty-clause-placed t c = none_placed _ _ _ _ (nil_from_length _ (search rules))

pub returns-in-Ok-clause-placed : goal.returns-in-Ok-clause-placed
returns-in-Ok-clause-placed t c =
    let are = front_and_rest _ _ _ (omega arith) c.remove-name.ensures.value c.remove-name.ensures.items in
    let put = rw c.as_str.ensures.value at c.in_ok-before.ensures.ok in
    placed_first _ _ _ _ _ _ are (λ known none. c.in-Ok.ensures.others _ none ∙ search (rules, put, c.into_writer.ensures)) c.in-Ok.ensures.placed

pub returns-in-Ok-clause-others : goal.returns-in-Ok-clause-others
returns-in-Ok-clause-others t c other none =
    let are = front_and_rest _ _ _ (omega arith) c.remove-name.ensures.value c.remove-name.ensures.items in
    let apart = none_named other _ _ _ are none in
    c.in-Ok.ensures.others other apart.1 ∙ c.in_ok-before.ensures.others other (λ same. apart.0 (sym (same ∙ c.as_str.ensures.value)))

pub returns-clause-kept : goal.returns-clause-kept
returns-clause-kept t c other =
    by_names other c.as_str.result.now
    (λ same. rw same (search (rules, c.put_back.ensures.back, c.in_ok-before.ensures.before, c.as_str.ensures.value, c.as_str-in-Err.ensures.value)))
    (λ apart. c.put_back.ensures.others other (λ same. apart (same ∙ c.as_str-in-Err.ensures.value ∙ sym c.as_str.ensures.value))
    ∙ c.in-Err.ensures.kept other ∙ c.in_ok-before.ensures.others other apart)

pub returns-clause-others : goal.returns-clause-others
returns-clause-others t c other none = returns-clause-kept t c other
