use Rattle.std.proofs.Common.{subst}
use Rattle.stm_journal_text.specs.Words.{Lacks, version_text}
use Rattle.stm_journal_text.proofs.EventTexts.{block_only, behind_version}
use Rattle.stm_journal_text.proofs.Marks.{not_lacking}
use Rattle.stm_journal_text.proofs.Anyway.{if_none}
use Rattle.stm_journal_text.proofs.events.block_of.Goals as goal

pub returns-in_err-version-clause-none : goal.returns-in_err-version-clause-none
returns-in_err-version-clause-none c =
    if_none c.from_residual.result _ (λ e h same.
    let parts = block_only c.args.text.now e h same in
    not_lacking 32 (version_text parts.0) _ (subst (Lacks 32) parts.4 c.in_err-version.ensures.none))

pub returns-in_err-version_of-clause-none : goal.returns-in_err-version_of-clause-none
returns-in_err-version_of-clause-none c =
    if_none c.from_residual-in_err-version_of.result _ (λ e h same.
    let parts = block_only c.args.text.now e h same in
    let found = c.in_ok-version.ensures.found in
    let same_parts = behind_version c.args.text.now c.in_ok-version.version.now c.in_ok-version.index.now _ parts.0 found.0 found.1 parts.2 parts.4 in
    c.in_err-version_of.ensures.none parts.0 parts.2 same_parts.0)

pub returns-in_err-number_of-clause-none : goal.returns-in_err-number_of-clause-none
returns-in_err-number_of-clause-none c =
    if_none c.from_residual-in_err-number_of.result _ (λ e h same.
    let parts = block_only c.args.text.now e h same in
    let found = c.in_ok-version.ensures.found in
    let same_parts = behind_version c.args.text.now c.in_ok-version.version.now c.in_ok-version.index.now _ parts.0 found.0 found.1 parts.2 parts.4 in
    c.in_err-number_of.ensures.none parts.1 parts.3 same_parts.1)
