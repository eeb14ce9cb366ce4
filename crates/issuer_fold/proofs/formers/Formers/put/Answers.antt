use Rattle.std.proofs.Common.{Bor, Option, Some, None, IfSome, option_copied}
use Rattle.issuer_fold.proofs.BackLaws.{one_more_of_kind}
use Rattle.issuer_fold.proofs.formers.Formers.put.Goals as goal

-- what holds of a value where it stands holds of its copy
of_copy : {T : Type 0} (P : T → Type 0) (there : Option (Bor T)) → IfSome there (λ val. P val.now) → IfSome (option_copied there) P
of_copy P (Some val) h = h
of_copy P None h = tt

pub invariant_of-self-2 : goal.invariant_of-self-2
invariant_of-self-2 c =
    rw (c.push_reserved.ensures.items, c.in_ok-reserve.ensures.items)
    (one_more_of_kind c.self.inside.rows.items (c.args.key.now, c.copied-former.result) c.self.invariant (rw (c.copied-former.ensures) (of_copy _ c.find.result c.find.ensures.kind)))
