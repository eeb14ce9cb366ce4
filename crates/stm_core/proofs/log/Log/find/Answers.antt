use Rattle.std.proofs.Common.{◌≡◌, get_or, Some, ap, sym, ◌∙◌, arith}
use Rattle.std.specs.Option.{option_copied}
use Rattle.issuer_words.specs.Words.{key_eq}
use Rattle.issuer_view.specs.Words.{value_in}
use Rattle.stm_core_laws.specs.State.{Log}
use Rattle.stm_core.specs.Origin.{log_of}
use Rattle.stm_core.specs.declared.read.Read.{Read}
use Rattle.stm_core.proofs.Parts.{found_few, found_of_kind, kind_copied, nothing_in, passed_few}
use Rattle.stm_core.proofs.log.Log.find.Goals as goal

pub returns-then-eq-clause-value : goal.returns-then-eq-clause-value
returns-then-eq-clause-value c =
    let read : Read = c.index-read.result.now in
    let here : read ≡ get_or c.self.inside.few.items c.loop-place.place read = c.index-read.ensures in
    let l = c.loop-place-test.true in
    let many = c.len-place-end.ensures in
    let same = ap (λ (r : Read). key_eq c.args.row.now r.row) (sym here) ∙ sym c.eq.ensures ∙ c.if-eq.true in
    let found = found_few c.self.inside.few.items c.self.inside.more.entries c.args.row.now c.loop-place.place read (omega arith) (λ j m. c.loop-place.invariant j read m) same in
    ap (λ (r : Read). Some r.logged) here ∙ sym found ∙ ap (λ (log : Log). value_in log c.args.row.now) c.self.view_is

pub returns-then-eq-clause-kind : goal.returns-then-eq-clause-kind
returns-then-eq-clause-kind c =
    let read : Read = c.index-read.result.now in
    let here : read ≡ get_or c.self.inside.few.items c.loop-place.place read = c.index-read.ensures in
    let l = c.loop-place-test.true in
    let many = c.len-place-end.ensures in
    let same = ap (λ (r : Read). key_eq c.args.row.now r.row) (sym here) ∙ sym c.eq.ensures ∙ c.if-eq.true in
    let found = found_few c.self.inside.few.items c.self.inside.more.entries c.args.row.now c.loop-place.place read (omega arith) (λ j m. c.loop-place.invariant j read m) same in
    found_of_kind (log_of c.self.inside.few.items c.self.inside.more.entries) c.args.row.now (Some read.logged) c.self.invariant (ap (λ (r : Read). Some r.logged) here ∙ sym found)

pub returns-then-is_empty-clause-value : goal.returns-then-is_empty-clause-value
returns-then-is_empty-clause-value c =
    let end = c.loop-place-test.false in
    let many = c.len-place-end.ensures in
    let behind = passed_few c.self.inside.few.items c.self.inside.more.entries c.args.row.now (λ j d l. c.loop-place.invariant j d (omega arith)) in
    sym (behind ∙ nothing_in c.self.inside.more.entries c.args.row.now (c.is_empty.ensures.0 c.if-is_empty.true))
    ∙ ap (λ (log : Log). value_in log c.args.row.now) c.self.view_is

pub returns-clause-value : goal.returns-clause-value
returns-clause-value c =
    let end = c.loop-place-test.false in
    let many = c.len-place-end.ensures in
    let behind = passed_few c.self.inside.few.items c.self.inside.more.entries c.args.row.now (λ j d l. c.loop-place.invariant j d (omega arith)) in
    c.get.ensures.value ∙ sym behind ∙ ap (λ (log : Log). value_in log c.args.row.now) c.self.view_is

pub returns-clause-kind : goal.returns-clause-kind
returns-clause-kind c =
    let end = c.loop-place-test.false in
    let many = c.len-place-end.ensures in
    let behind = passed_few c.self.inside.few.items c.self.inside.more.entries c.args.row.now (λ j d l. c.loop-place.invariant j d (omega arith)) in
    kind_copied c.args.row.now c.get.result (found_of_kind (log_of c.self.inside.few.items c.self.inside.more.entries) c.args.row.now (option_copied c.get.result) c.self.invariant (c.get.ensures.value ∙ sym behind))
