use Rattle.std.proofs.Common.{true, Option, Some, None, ◌≤◌, ◌≡◌, IfSome, ℕ, arith, refl, sym, ◌∙◌}
use Rattle.std.specs.Option.{SomeIff, is_some}
use Rattle.book_laws.proofs.BackingLaws.{stays_le}
use Rattle.book_laws.proofs.checking.is_backing_in_range.Goals as goal

-- a test that holds
is_within : (o : Option ℕ) (n m : ℕ) → SomeIff o (n ≤ m) n → is_some o ≡ true → n ≤ m
is_within None n m h e = absurd (cc)
is_within (Some k) n m h e = h.0

at_some : (o : Option ℕ) (sum n : ℕ) → IfSome o (λ s. n ≤ s) → o ≡ Some sum → n ≤ sum
at_some None sum n h e = absurd (cc)
at_some (Some k) sum n h e = let k_is : k ≡ sum = cc in rw (← k_is) h

pub returns : goal.returns
returns c =
    let sum = is_within _ _ _ c.new.ensures (sym c.is_some.ensures ∙ c.if-is_some.true) in
    let all = at_some _ c.in-Some.all _ c.requires c.in-Some.is in
    (λ _. omega (arith, sum, all, stays_le c.args.paid.now c.args.book.now, c.minor.ensures.value, c.minor-2.ensures.value), λ _. refl)
