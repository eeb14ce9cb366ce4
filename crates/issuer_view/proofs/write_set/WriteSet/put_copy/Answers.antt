use Rattle.std.proofs.Common.{◌≡◌, ◌<◌, ℕ, ◌++◌, length, slice_get, sym, ap, subst, ◌∙◌, rules}
use Rattle.std.proofs.lemmas.List.{length-set}
use Rattle.issuer_words.specs.Words.{Writes, key_eq}
use Rattle.issuer_view.specs.Words.{put, value_in}
use Rattle.indexmap.specs.IndexMap.{insert_entry}
use Rattle.issuer_view.proofs.KindLaws.{all_put}
use Rattle.issuer_view.proofs.ListLaws.{put_front, put_behind, put_among, found_behind, on_err}
use Rattle.issuer_view.proofs.write_set.WriteSet.put_copy.Goals as goal

-- the row that is written again keeps its place among the first ones
again : (c : goal.After-set_copy) → insert_entry key_eq (c.self.inside.few ++ c.self.inside.more) c.args.key.now c.args.row.now ≡ c.set_copy.new.self ++ c.self.inside.more
again c =
    let there = c.in-Some.ensures.found in
    put_front c.self.inside.few c.self.inside.more c.in-Some.place c.args.key.now there.0 c.args.row.now c.self.invariant.1
    (ap (λ (rows : Writes). slice_get rows c.in-Some.place) (sym c.as_slice.ensures) ∙ there.1)
    ∙ ap (λ (rows : Writes). rows ++ c.self.inside.more) (sym c.set_copy.ensures)

pub invariant_of-self : goal.invariant_of-self
invariant_of-self c =
    let all = all_put _ _ c.args.key.now c.args.row.now (again c) c.self.invariant.0 c.self.invariant.1 c.requires in
    (all.0, all.1, λ small. c.self.invariant.2 (subst (λ (n : ℕ). n < 8) (ap length c.set_copy.ensures ∙ length-set _ _ _) small))

pub returns-in-Some-clause-ok : goal.returns-in-Some-clause-ok
returns-in-Some-clause-ok c = sym (again c) ∙ ap (λ (rows : Writes). put rows c.args.key.now c.args.row.now) c.self.view_is

-- the row that is written goes last among the first ones
among : (c : goal.In_ok-push_copy-in-None) → insert_entry key_eq (c.self.inside.few ++ c.self.inside.more) c.args.key.now c.args.row.now ≡ c.push_copy.new.self ++ c.self.inside.more
among c =
    let none = ap (λ (rows : Writes). value_in rows c.args.key.now) (sym c.as_slice.ensures) ∙ c.in-None.ensures.absent in
    put_among c.self.inside.few c.self.inside.more c.args.key.now c.args.row.now none c.push_copy.new.self (c.self.invariant.2 (search rules))
    c.in_ok-push_copy-in-None.ensures.ok

pub invariant_of-self-then-len-lt-FEW : goal.invariant_of-self-then-len-lt-FEW
invariant_of-self-then-len-lt-FEW c =
    let all = all_put _ _ c.args.key.now c.args.row.now (among c) c.self.invariant.0 c.self.invariant.1 c.requires in
    (all.0, all.1, λ _. c.self.invariant.2 (search rules))

pub returns-in_ok-push_copy-in-None-clause-ok : goal.returns-in_ok-push_copy-in-None-clause-ok
returns-in_ok-push_copy-in-None-clause-ok c = sym (among c) ∙ ap (λ (rows : Writes). put rows c.args.key.now c.args.row.now) c.self.view_is

-- the row that is written goes behind the first ones
behind : (c : goal.In_ok-insert_copy-in-None-2) → insert_entry key_eq (c.self.inside.few ++ c.self.inside.more) c.args.key.now c.args.row.now ≡ c.self.inside.few ++ c.insert_copy.new.self
behind c =
    let none = ap (λ (rows : Writes). value_in rows c.args.key.now) (sym c.as_slice.ensures) ∙ c.in-None-2.ensures.absent in
    put_behind c.self.inside.few c.self.inside.more c.args.key.now c.args.row.now none
    ∙ ap (λ (rest : Writes). c.self.inside.few ++ rest) (sym c.in_ok-insert_copy-in-None-2.ensures.ok)

pub invariant_of-self-in-None-2 : goal.invariant_of-self-in-None-2
invariant_of-self-in-None-2 c =
    let all = all_put _ _ c.args.key.now c.args.row.now (behind c) c.self.invariant.0 c.self.invariant.1 c.requires in
    (all.0, all.1, λ small. absurd (search rules))

pub returns-in_ok-insert_copy-in-None-2-clause-ok : goal.returns-in_ok-insert_copy-in-None-2-clause-ok
returns-in_ok-insert_copy-in-None-2-clause-ok c = sym (behind c) ∙ ap (λ (rows : Writes). put rows c.args.key.now c.args.row.now) c.self.view_is

pub returns-in_err-insert_copy-in-None-2-clause-absent : goal.returns-in_err-insert_copy-in-None-2-clause-absent
returns-in_err-insert_copy-in-None-2-clause-absent c =
    let none = ap (λ (rows : Writes). value_in rows c.args.key.now) (sym c.as_slice.ensures) ∙ c.in-None-2.ensures.absent in
    on_err _ (ap (λ (rows : Writes). value_in rows c.args.key.now) (sym c.self.view_is) ∙ found_behind c.self.inside.few c.self.inside.more c.args.key.now none ∙ c.in_err-insert_copy-in-None-2.ensures.absent)
