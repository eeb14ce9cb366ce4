use Rattle.std.proofs.Common.{◌<◌, ap, sym, subst, ◌∙◌}
use Rattle.std.proofs.lemmas.Option.{same_Some}
use Rattle.std.specs.List.{slice_get}
use Rattle.stm_memory.proofs.RowLaws.{row_within}
use Rattle.stm_memory.specs.Chains.{room_of}
use Rattle.issuer_words.specs.Words.{IsOfKind, RowKey}
use Rattle.stm_memory.proofs.chains.Chains.put.Goals as goal

pub put_at-is_new-requires-clause-within : goal.put_at-is_new-requires-clause-within
put_at-is_new-requires-clause-within c = row_within _ _ _ c.in-Some.ensures.found

pub put_at-is_new-requires-clause-room : goal.put_at-is_new-requires-clause-room
put_at-is_new-requires-clause-room c row at = subst (λ (r : RowKey). 0 < room_of c.args.self.now r) (same_Some _ _ (sym c.in-Some.ensures.found ∙ at)) c.requires.room

pub put_at-is_new-requires-clause-kind : goal.put_at-is_new-requires-clause-kind
put_at-is_new-requires-clause-kind c row at = subst (λ (r : RowKey). IsOfKind r c.args.value.now) (same_Some _ _ (sym c.in-Some.ensures.found ∙ at)) c.requires.kind

pub returns-clause-changed : goal.returns-clause-changed
returns-clause-changed c = c.put_at-is_new.ensures.changed c.args.row.now c.in-Some.ensures.found

pub returns-clause-number : goal.returns-clause-number
returns-clause-number c = ap (λ rows. slice_get rows c.in-Some.number) c.put_at-is_new.ensures.rows ∙ c.in-Some.ensures.found

pub returns-clause-new : goal.returns-clause-new
returns-clause-new c = c.put_at-is_new.ensures.new c.args.row.now c.in-Some.ensures.found

pub returns-clause-others : goal.returns-clause-others
returns-clause-others c r ne = c.put_at-is_new.ensures.others r (λ at. ne (same_Some _ _ (sym at ∙ c.in-Some.ensures.found)))
