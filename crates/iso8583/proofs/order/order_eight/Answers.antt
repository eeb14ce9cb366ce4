use Rattle.std.proofs.Common.{◌≡◌, nat_cmp, take, drop, ap, ◌∙◌, arith}
use Rattle.std.specs.Int.{w64, from_be_bytes}
use Rattle.iso8583.proofs.OrderLaws.{cmp_eight, bytes_part, length_part}
use Rattle.iso8583.proofs.order.order_eight.Goals as goal

pub returns : goal.returns
returns c =
    let a = c.args.a.now in
    let b = c.args.b.now in
    let p = c.args.place in
    let mine : c.in-Some-Some.mine.now ≡ take 8 (drop p a) = c.in-Some-Some.ensures.cases.same ∙ ap (take 8) c.split_at.ensures.back in
    let theirs : c.in-Some-Some.theirs.now ≡ take 8 (drop p b) = c.in-Some-Some.ensures'.cases.same ∙ ap (take 8) c.split_at-2.ensures.back in
    c.order_numbers.ensures
    ∙ (λ i. nat_cmp (c.from_be_bytes.ensures i) (c.from_be_bytes-in-Some-Some.ensures i))
    ∙ (λ i. nat_cmp (from_be_bytes w64 (mine i)) (from_be_bytes w64 (theirs i)))
    ∙ cmp_eight _ _ (length_part p 8 a c.requires.mine) (length_part p 8 b c.requires.theirs) (bytes_part p 8 a (λ i. omega (arith, c.type_inv.a i)))
    (bytes_part p 8 b (λ i. omega (arith, c.type_inv.b i)))
