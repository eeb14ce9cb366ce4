use Rattle.std.proofs.Common.{◌≡◌, ◌<◌, ◌*◌, ℕ, List, ◌++◌, All, length, sym, subst, ap, ◌∙◌, arith, rules}
use Rattle.std.proofs.lemmas.List.{length-append}
use Rattle.std.specs.List.{flat_map}
use Rattle.app_parts_folder.specs.PlanTexts.{digests_text}
use Rattle.app_parts_folder.proofs.Fronts.{long, same_front}
use Rattle.app_parts_folder.proofs.listed.read_listed.Goals as goal

pub returns-then-bytes-count-clause-none : goal.returns-then-bytes-count-clause-none
returns-then-bytes-count-clause-none c = λ digests parts are e.
    absurd (omega (arith, ap length e, length-append (flat_map digests_text digests) parts, long digests are.digest, are.each, are.all, c.if-bytes-count.true))

pub returns-then-not-are_below-clause-none : goal.returns-then-not-are_below-clause-none
returns-then-not-are_below-clause-none c = λ digests parts are e.
    let own = c.in_ok-digests.digests.items in
    let sizes : length (flat_map digests_text own) ≡ length (flat_map digests_text digests) =
    long own c.in_ok-digests.ensures.digest ∙ ap (λ (n : ℕ). 64 * n) (c.in_ok-digests.ensures.each ∙ sym are.each) ∙ sym (long digests are.digest) in
    let same : c.in_ok-digests.behind.now ≡ parts = (same_front (flat_map digests_text own) (flat_map digests_text digests) c.in_ok-digests.behind.now parts sizes (sym c.in_ok-digests.ensures.is ∙ e)).1 in
    let below : All (λ byte. byte < c.args.count) c.in_ok-digests.behind.now = subst (All (λ byte. byte < c.args.count)) (sym same) are.below in
    let no = c.if-not-are_below.ensures.1 below in
    absurd cc

pub returns-clause-some : goal.returns-clause-some
returns-clause-some c =
    let own = c.in_ok-digests.digests.items in
    let parts : c.in_ok-parts.parts.items ≡ c.in_ok-digests.behind.now = c.in_ok-parts.ensures in
    let below : All (λ byte. byte < c.args.count) c.in_ok-digests.behind.now = search rules in (
      record {
        each = c.in_ok-digests.ensures.each;
        all = omega (
          arith,
          ap length parts,
          ap length c.in_ok-digests.ensures.is,
          length-append (flat_map digests_text own) c.in_ok-digests.behind.now,
          long own c.in_ok-digests.ensures.digest,
          c.in_ok-digests.ensures.each,
          c.if-bytes-count.false,
        );
        some = search rules;
        few = search rules;
        fit = search rules;
        below = subst (All (λ byte. byte < c.args.count)) (sym parts) below;
        digest = c.in_ok-digests.ensures.digest;
      },
      c.in_ok-digests.ensures.is ∙ ap (λ (x : List ℕ). flat_map digests_text own ++ x) (sym parts),
    )
