use Rattle.std.proofs.Common.{rules, ◌≡◌, ℕ, ◌+◌, ◌-◌, ◌++◌, ◌∷◌, [], arith, refl, subst}
use Rattle.std.proofs.lemmas.Result.{err_from_is_err_and}
use Rattle.file_laws.specs.Frames.{IsFrameOf}
use Rattle.file_batch.specs.Window.{ahead}
use Rattle.file_batch.proofs.ReadBodies.{ItemsAt, fails, fails_at, goes_on, one, one_fails, starts}
use Rattle.file_batch.proofs.window.Window.read_into.Goals as goal

pub loop-init : goal.loop-init
loop-init g c = record {
  device = search rules;
  count = search rules;
  within = omega arith;
  room = omega (arith, c.in_ok-reserve.ensures.ok);
  frames = λ known. rw (c.in_ok-reserve.ensures.items, c.clear.ensures.items) (starts IsFrameOf _);
}

pub returns-in_err-read_frame-clause-gives : goal.returns-in_err-read_frame-clause-gives
returns-in_err-read_frame-clause-gives g c = λ known.
    let p = err_from_is_err_and c.from_residual-in_err-read_frame.result c.from_residual-in_err-read_frame.ensures.1 in
    let i = c.loop.counter in
    let n = c.args.count in
    let mid = ahead c.loop.self (g.R.Source.remaining c.loop.source) in
    let e = c.in_err-read_frame.field-0.0 in
    let all : n ≡ i + (n - i) = omega (arith, c.loop-test.true) in
    let more : n - i ≡ 1 + (n - (i + 1)) = omega (arith, c.loop-test.true) in
    rw (p.1, p.2) (λ of_bytes. fails IsFrameOf i (n - i) n (ahead c.args.self.now (g.R.Source.remaining c.args.source.now)) mid c.loop.frames.items e all
    (c.loop.invariant.frames known)
    (fails_at 1 (n - (i + 1)) (n - i) mid e more (one_fails mid e (c.in_err-read_frame.ensures.gives (c.loop.invariant.device.known known) of_bytes))))

pub push_reserved-requires : goal.push_reserved-requires
push_reserved-requires g c = omega (arith, c.loop-test.true, c.loop.invariant.room, c.loop.invariant.count, c.loop.frames.ok)

pub loop-preserved : goal.loop-preserved
loop-preserved g c =
    let after = c.read_frame.new.self in
    let frame = c.in_ok-read_frame.field-0 in
    let added : c.push_reserved.new.self.items ≡ c.loop.frames.items ++ frame ∷ [] = c.push_reserved.ensures.items in
    record {
      device = search rules;
      count = grind arith;
      within = omega (arith, c.loop-test.true);
      room = omega (arith, c.push_reserved.ensures.capacity, c.loop.invariant.room);
      frames = λ known.
          let mid = ahead c.loop.self (g.R.Source.remaining c.loop.source) in
          let left = ahead after (g.R.Source.remaining c.read_frame.new.source) in
          let read = c.in_ok-read_frame.ensures.gives (c.loop.invariant.device.known known) in
          rw added (goes_on IsFrameOf c.loop.counter 1 (c.loop.counter + 1) _ mid left c.loop.frames.items (frame ∷ []) refl
          (c.loop.invariant.frames known) (one IsFrameOf mid read.0 left frame read.1 read.2));
    }

pub returns-clause-gives : goal.returns-clause-gives
returns-clause-gives g c = λ known.
    let same : c.loop.counter ≡ c.args.count = omega (arith, c.loop-test.false, c.loop.invariant.within) in
    subst (λ (n : ℕ). ItemsAt IsFrameOf n (ahead c.args.self.now (g.R.Source.remaining c.args.source.now)) c.loop.frames.items
    (ahead c.loop.self (g.R.Source.remaining c.loop.source))) same
    (c.loop.invariant.frames known)
