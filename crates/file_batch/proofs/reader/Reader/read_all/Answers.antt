use Rattle.std.proofs.Common.{rules, ◌≡◌, ◌+◌, ◌-◌, ◌∷◌, ◌++◌, ℕ, [], length, refl, subst, arith}
use Rattle.std.proofs.lemmas.Result.{err_from_is_err_and}
use Rattle.file_laws.specs.Frames.{IsFrameOf}
use Rattle.rtrb.specs.Ring.{sent}
use Rattle.file_batch.specs.Pieces.{frames_in}
use Rattle.file_batch.specs.Window.{ahead}
use Rattle.file_batch.specs.declared.piece.Piece.{Piece}
use Rattle.file_batch.proofs.Handed.{count_of_one_more, frames_of_one_more, consumer_on, producer_on}
use Rattle.file_batch.proofs.ReadBodies.{ItemsAt, fails, fails_at, goes_on, starts}
use Rattle.file_batch.proofs.reader.Reader.read_all.Goals as goal

pub loop-left-init : goal.loop-left-init
loop-left-init g c =
    let bytes = ahead c.args.window.now (g.R.Source.remaining c.args.source.now) in
    let none : length (frames_in (sent c.args.self.now.outbound)) ≡ 0 = rw c.requires.none refl in
    let no_more : c.args.count - c.args.count ≡ 0 = omega arith in
    record {
      ends = search rules;
      device = search rules;
      count = omega (arith, none);
      so_far = λ known. rw (no_more, c.requires.none) (starts IsFrameOf bytes);
      told = λ head told. told;
    }

pub returns-in_err-piece-clause-ends : goal.returns-in_err-piece-clause-ends
returns-in_err-piece-clause-ends g c =
    let ends = c.loop-left.invariant.ends in
    (rw c.free_piece.ensures.ends.0 ends.0, consumer_on c.args.self.now.inbound c.loop-left.self.inbound c.free_piece.new.self.inbound ends.1 c.free_piece.ensures.ends.1)

pub returns-in_err-piece-clause-few : goal.returns-in_err-piece-clause-few
returns-in_err-piece-clause-few g c = rw c.free_piece.ensures.ends.0 (omega (arith, c.loop-left.invariant.count))

pub returns-in_err-read_into-clause-ends : goal.returns-in_err-read_into-clause-ends
returns-in_err-read_into-clause-ends g c =
    let ends = c.loop-left.invariant.ends in
    (rw c.free_piece.ensures.ends.0 ends.0, consumer_on c.args.self.now.inbound c.loop-left.self.inbound c.free_piece.new.self.inbound ends.1 c.free_piece.ensures.ends.1)

pub returns-in_err-read_into-clause-few : goal.returns-in_err-read_into-clause-few
returns-in_err-read_into-clause-few g c = rw c.free_piece.ensures.ends.0 (omega (arith, c.loop-left.invariant.count))

pub returns-in_err-read_into-clause-gives : goal.returns-in_err-read_into-clause-gives
returns-in_err-read_into-clause-gives g c =
    let p = err_from_is_err_and c.from_residual-in_err-read_into.result c.from_residual-in_err-read_into.ensures.1 in
    let n = c.args.count in
    let left = c.loop-left.left in
    let size = c.min-size.result in
    let mid = ahead c.loop-left.window (g.R.Source.remaining c.loop-left.source) in
    let e = c.in_err-read_into.field-0.0 in
    let all : n ≡ (n - left) + left = omega (arith, c.loop-left.invariant.count) in
    let more : left ≡ size + (left - size) = omega (arith, c.min-size.ensures) in
    rw (p.1, p.2) (λ known of_bytes. fails IsFrameOf (n - left) left n (ahead c.args.window.now (g.R.Source.remaining c.args.source.now)) mid
    (frames_in (sent c.loop-left.self.outbound)) e all (c.loop-left.invariant.so_far known)
    (fails_at size (left - size) left mid e more (c.in_err-read_into.ensures.gives (c.loop-left.invariant.device.known known) of_bytes)))

pub hand_over-requires : goal.hand_over-requires
hand_over-requires g c =
    let outbound = sent c.loop-left.self.outbound in
    let piece : Piece = record { frames = c.read_into.new.frames; replies = c.in_ok-piece.piece.replies } in
    let many : length c.read_into.new.frames.items ≡ c.min-size.result = search rules in
    rw c.free_piece.ensures.ends.0 (omega (arith, count_of_one_more outbound piece (length (frames_in outbound)) refl, many, c.loop-left.invariant.count, c.min-size.ensures, c.requires.few))

pub loop-left-preserved : goal.loop-left-preserved
loop-left-preserved g c =
    let ends = c.loop-left.invariant.ends in
    let outbound = sent c.loop-left.self.outbound in
    let frames = frames_in outbound in
    let piece : Piece = record { frames = c.read_into.new.frames; replies = c.in_ok-piece.piece.replies } in
    let many : length c.read_into.new.frames.items ≡ c.min-size.result = search rules in
    let gone : sent c.hand_over.new.outbound ≡ outbound ++ piece ∷ [] = rw c.free_piece.ensures.ends.0 at c.hand_over.ensures.sent in
    let n = c.args.count in
    let left = c.loop-left.left in
    let size = c.min-size.result in
    let sum : n - (left - size) ≡ (n - left) + size = omega (arith, c.min-size.ensures, c.loop-left.invariant.count) in
    record {
      ends = (
        producer_on c.args.self.now.outbound c.loop-left.self.outbound c.hand_over.new.outbound ends.0 (rw c.free_piece.ensures.ends.0 at c.hand_over.ensures.ring),
        consumer_on c.args.self.now.inbound c.loop-left.self.inbound c.free_piece.new.self.inbound ends.1 c.free_piece.ensures.ends.1,
      );
      device = search rules;
      count = rw gone (omega (arith, count_of_one_more outbound piece (length frames) refl, many, c.loop-left.invariant.count, c.min-size.ensures));
      so_far = λ known. rw (gone, frames_of_one_more outbound piece) (goes_on IsFrameOf (n - left) size (n - (left - size)) _ _
          (ahead c.read_into.new.self (g.R.Source.remaining c.read_into.new.source)) frames c.read_into.new.frames.items sum
          (c.loop-left.invariant.so_far known) (c.in_ok-read_into.ensures.gives (c.loop-left.invariant.device.known known)));
      told = λ head told. c.in_ok-piece.ensures.told head (c.loop-left.invariant.told head told);
    }

pub returns-clause-few : goal.returns-clause-few
returns-clause-few g c = omega (arith, c.loop-left.invariant.count)

pub returns-clause-read : goal.returns-clause-read
returns-clause-read g c = omega (arith, c.loop-left.invariant.count, c.loop-left-test.false)

pub returns-clause-gives : goal.returns-clause-gives
returns-clause-gives g c = λ known.
    let all : c.args.count - c.loop-left.left ≡ c.args.count = omega (arith, c.loop-left-test.false) in
    subst (λ (n : ℕ). ItemsAt IsFrameOf n (ahead c.args.window.now (g.R.Source.remaining c.args.source.now))
    (frames_in (sent c.loop-left.self.outbound)) (ahead c.loop-left.window (g.R.Source.remaining c.loop-left.source))) all
    (c.loop-left.invariant.so_far known)

pub returns-clause-told : goal.returns-clause-told
returns-clause-told g c = c.loop-left.invariant.told
