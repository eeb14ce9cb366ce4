use Rattle.std.proofs.Common.{◌≡◌, ◌++◌, None, sym, ap, ◌∙◌, rules}
use Rattle.issuer_words.specs.Words.{Writes, key_eq}
use Rattle.issuer_view.specs.Words.{put, value_in}
use Rattle.indexmap.specs.IndexMap.{insert_entry}
use Rattle.issuer_view.proofs.KindLaws.{all_put}
use Rattle.issuer_view.proofs.ListLaws.{put_behind, put_among, absent_front}
use Rattle.issuer_view.proofs.write_set.WriteSet.put_new.Goals as goal

-- a row that is not written is not among the first ones
none_of_few : (few more writes : Writes) (key : _) → few ++ more ≡ writes → value_in writes key ≡ None → value_in few key ≡ None
none_of_few few more writes key is absent = absent_front few more key (ap (λ (rows : Writes). value_in rows key) is ∙ absent)

-- it goes last among the first ones
among : (c : goal.In_ok-push_copy) → insert_entry key_eq (c.self.inside.few ++ c.self.inside.more) c.args.key.now c.args.row.now ≡ c.push_copy.new.self ++ c.self.inside.more
among c =
    put_among c.self.inside.few c.self.inside.more c.args.key.now c.args.row.now (none_of_few _ _ _ c.args.key.now c.self.view_is c.requires.absent) c.push_copy.new.self
    (c.self.invariant.2 (search rules)) c.in_ok-push_copy.ensures.ok

pub invariant_of-self-then-len-lt-FEW : goal.invariant_of-self-then-len-lt-FEW
invariant_of-self-then-len-lt-FEW c =
    let all = all_put _ _ c.args.key.now c.args.row.now (among c) c.self.invariant.0 c.self.invariant.1 c.requires.kind in
    (all.0, all.1, λ _. c.self.invariant.2 (search rules))

pub returns-then-len-lt-FEW-clause-ok : goal.returns-then-len-lt-FEW-clause-ok
returns-then-len-lt-FEW-clause-ok c = sym (among c) ∙ ap (λ (rows : Writes). put rows c.args.key.now c.args.row.now) c.self.view_is

-- or behind them
behind : (c : goal.In_ok-insert_copy) → insert_entry key_eq (c.self.inside.few ++ c.self.inside.more) c.args.key.now c.args.row.now ≡ c.self.inside.few ++ c.insert_copy.new.self
behind c =
    put_behind c.self.inside.few c.self.inside.more c.args.key.now c.args.row.now (none_of_few _ _ _ c.args.key.now c.self.view_is c.requires.absent)
    ∙ ap (λ (rest : Writes). c.self.inside.few ++ rest) (sym c.in_ok-insert_copy.ensures.ok)

pub invariant_of-self-2 : goal.invariant_of-self-2
invariant_of-self-2 c =
    let all = all_put _ _ c.args.key.now c.args.row.now (behind c) c.self.invariant.0 c.self.invariant.1 c.requires.kind in
    (all.0, all.1, λ small. absurd (search rules))

pub returns-clause-ok : goal.returns-clause-ok
returns-clause-ok c = sym (behind c) ∙ ap (λ (rows : Writes). put rows c.args.key.now c.args.row.now) c.self.view_is
