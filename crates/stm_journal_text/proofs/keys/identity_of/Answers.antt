use Rattle.std.proofs.Common.{◌≡◌, ℕ, List, length, sym, subst}
use Rattle.issuer_words.specs.Words.{HasDigits, IsDigits, IsLocalStamp}
use Rattle.stm_journal_text.specs.Marks.{Lacks}
use Rattle.stm_journal_text.proofs.KeyTexts.{identity_marked, identity_first, identity_last}
use Rattle.stm_journal_text.proofs.Marks.{not_lacking}
use Rattle.stm_journal_text.proofs.Anyway.{if_none}
use Rattle.stm_journal_text.proofs.keys.identity_of.Goals as goal

pub returns-in_err-acquirer-clause-none : goal.returns-in_err-acquirer-clause-none
returns-in_err-acquirer-clause-none c =
    if_none c.from_residual.result _ (λ i h same. identity_marked c.args.text.now i c.in_err-acquirer.ensures.none same)

pub returns-in_err-stan-clause-none : goal.returns-in_err-stan-clause-none
returns-in_err-stan-clause-none c =
    if_none c.from_residual-in_err-stan.result _ (λ i h same.
    let found = c.in_ok-acquirer.ensures.found in
    let first = identity_first c.args.text.now c.in_ok-acquirer.acquirer.now c.in_ok-acquirer.rest.now i found.0 found.1 h same in
    not_lacking 58 i.stan.0 i.stamp (subst (Lacks 58) first.1 c.in_err-stan.ensures.none))

pub returns-in_err-new-clause-none : goal.returns-in_err-new-clause-none
returns-in_err-new-clause-none c =
    if_none c.from_residual-in_err-new.result _ (λ i h same.
    let found = c.in_ok-acquirer.ensures.found in
    let first = identity_first c.args.text.now c.in_ok-acquirer.acquirer.now c.in_ok-acquirer.rest.now i found.0 found.1 h same in
    c.in_err-new.ensures (subst (HasDigits 1 11) (sym first.0) h.acquirer))

pub returns-in_err-new-2-clause-none : goal.returns-in_err-new-2-clause-none
returns-in_err-new-2-clause-none c =
    if_none c.from_residual-in_err-new-2.result _ (λ i h same.
    let found = c.in_ok-acquirer.ensures.found in
    let next = c.in_ok-stan.ensures.found in
    let first = identity_first c.args.text.now c.in_ok-acquirer.acquirer.now c.in_ok-acquirer.rest.now i found.0 found.1 h same in
    let last = identity_last c.in_ok-acquirer.rest.now c.in_ok-stan.stan.now c.in_ok-stan.stamp.now i next.0 next.1 h first.1 in
    c.in_err-new-2.ensures (subst (λ (x : List ℕ). (length x ≡ 6) × IsDigits x) (sym last.0) (h.length_of_stan, h.stan)))

pub returns-in_err-new-3-clause-none : goal.returns-in_err-new-3-clause-none
returns-in_err-new-3-clause-none c =
    if_none c.from_residual-in_err-new-3.result _ (λ i h same.
    let found = c.in_ok-acquirer.ensures.found in
    let next = c.in_ok-stan.ensures.found in
    let first = identity_first c.args.text.now c.in_ok-acquirer.acquirer.now c.in_ok-acquirer.rest.now i found.0 found.1 h same in
    let last = identity_last c.in_ok-acquirer.rest.now c.in_ok-stan.stan.now c.in_ok-stan.stamp.now i next.0 next.1 h first.1 in
    c.in_err-new-3.ensures (subst IsLocalStamp (sym last.1) h.stamp))
