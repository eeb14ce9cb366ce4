use Rattle.std.proofs.Common.{◌≡◌, ◌+◌, ◌*◌, ◌^◌, ◌≤◌, ◌∷◌, [], add-one, arith, ap, refl, subst, sym, slice_get, ◌∙◌}
use Rattle.issuer_rows.proofs.RankLaws.{digit_fits, digits_bounded, digit_gone, digit_in, digit_there, digits_of-suc, with_digits-append}
use Rattle.issuer_rows.specs.Rank.{digits_of, with_digits}
use Rattle.issuer_rows.proofs.ranked_row.with_digits.Goals as goal
use Rattle.issuer_rows.proofs.ranked_row.with_digits.Goals.{in-Some, in-None}

-- the digit that is added
digit_is : (c : goal.After-from) → c.from.result ≡ digit_in (slice_get c.args.text.now c.loop-place.place)
digit_is c = c.from.ensures ∙ elim c.match-get.branch [
  | in-Some w ↦ w.digit-is ∙ sym (digit_there c.args.text.now c.loop-place.place w.in-Some.digit.now w.in-Some.ensures.lookup.0 w.in-Some.ensures.lookup.1)
  | in-None w ↦ w.digit-is ∙ sym (digit_gone c.args.text.now c.loop-place.place w.in-None.ensures.lookup.0)
]

pub loop-place-init : goal.loop-place-init
loop-place-init c = refl

pub overflow_mul-number : goal.overflow_mul-number
overflow_mul-number c =
    let fits = digit_fits c.args.number c.args.count c.loop-place.place c.args.text.now c.requires.digits c.requires.fits (omega (arith, c.loop-place-test.true)) in
    omega (arith, fits, c.loop-place.invariant)

pub overflow_add-number : goal.overflow_add-number
overflow_add-number c =
    let fits = digit_fits c.args.number c.args.count c.loop-place.place c.args.text.now c.requires.digits c.requires.fits (omega (arith, c.loop-place-test.true)) in
    let digit = digit_is c in
    omega (arith, fits, c.loop-place.invariant, digit)

pub loop-place-preserved : goal.loop-place-preserved
loop-place-preserved c =
    let digit = digit_in (slice_get c.args.text.now c.loop-place.place) in
    let more = ap (with_digits c.args.number) (digits_of-suc c.loop-place.place c.args.text.now) ∙ with_digits-append c.args.number (digits_of c.loop-place.place c.args.text.now) (digit ∷ []) in
    rw add-one ((λ i. c.loop-place.invariant i * 11 + digit_is c i) ∙ sym more)

-- all digits are in it
all_in : (c : goal.After-loop-place) → c.loop-place.number ≡ with_digits c.args.number (digits_of c.args.count c.args.text.now)
all_in c =
    let end : c.loop-place.place ≡ c.args.count = omega (arith, c.loop-place.auto.place-end, c.loop-place-test.false) in
    c.loop-place.invariant ∙ ap (λ count. with_digits c.args.number (digits_of count c.args.text.now)) end

pub returns-clause-value : goal.returns-clause-value
returns-clause-value c = all_in c

pub returns-clause-bound : goal.returns-clause-bound
returns-clause-bound c =
    subst (λ number. number + 1 ≤ (c.args.number + 1) * 11 ^ c.args.count) (sym (all_in c)) (digits_bounded c.args.number c.args.count c.args.text.now c.requires.digits)
