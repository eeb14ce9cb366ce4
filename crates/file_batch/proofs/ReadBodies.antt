-- Bodies that are read one after the other, or several at once, and the items that stand for them.
use Rattle.std.proofs.Common.{◌≡◌, ℕ, zero, suc, ◌+◌, List, [], ◌∷◌, ◌++◌, Result, Ok, Err, refl, sym, ap, ◌∙◌, arith}
use Rattle.std.specs.List.{AllZip}
use Rattle.file_laws.specs.Reading.{◌>>=◌, head_at, body_at, bodies_at, bodies_of, ended}
use Rattle.file_laws.specs.declared.batch_fault.BatchFault.{BatchFault}
use Rattle.file_laws.proofs.BodiesRead.{Bodies, Read, with_front, no_front, before_them}

-- so many more bodies behind those that were read
abbrev behind_them : ℕ → Bodies × List ℕ → Read
behind_them m x = with_front x.0 (bodies_at m x.1)

consed : (body : List ℕ) (front : Bodies) (read : Read) → (with_front front read >>= before_them body) ≡ with_front (body ∷ front) read
consed body front (Ok x) = refl
consed body front (Err e) = refl

consed_both : (body : List ℕ) (m : ℕ) (read : Read) → ((read >>= behind_them m) >>= before_them body) ≡ ((read >>= before_them body) >>= behind_them m)
consed_both body m (Ok x) = consed body x.0 (bodies_at m x.1)
consed_both body m (Err e) = refl

-- a body and those behind it
abbrev one_and : (List ℕ → Read) → List ℕ × List ℕ → Read
one_and others body = others body.1 >>= before_them body.0

behind_one : (k m : ℕ) (read : Result (List ℕ × List ℕ) BatchFault) → ((bytes : List ℕ) → bodies_at (k + m) bytes ≡ (bodies_at k bytes >>= behind_them m))
    → (read >>= one_and (bodies_at (k + m))) ≡ ((read >>= one_and (bodies_at k)) >>= behind_them m)
behind_one k m (Ok body) both = ap (λ (read : Read). read >>= before_them body.0) (both body.1) ∙ consed_both body.0 m (bodies_at k body.1)
behind_one k m (Err e) both = refl

-- so many bodies and then so many more are read as all of them
in_two : (k m : ℕ) (bytes : List ℕ) → bodies_at (k + m) bytes ≡ (bodies_at k bytes >>= behind_them m)
unfolding bodies_at
in_two zero m bytes =
    let none : 0 + m ≡ m = omega arith in
    rw none (sym (no_front (bodies_at m bytes)))
in_two (suc k) m bytes =
    let one : suc k + m ≡ suc (k + m) = omega arith in
    rw one (behind_one k m (body_at bytes) (in_two k m))

-- so many bodies are read, with an item for each and these bytes left
abbrev pub ItemsAt : {A : Type 0} → (List ℕ → A → Type 0) → ℕ → List ℕ → List A → List ℕ → Type 0
ItemsAt is count bytes items left = (bodies : Bodies) × (bodies_at count bytes ≡ Ok (bodies, left)) × AllZip is bodies items

both_are : {A : Type 0} (is : List ℕ → A → Type 0) (bodies more : Bodies) (items others : List A) → AllZip is bodies items → AllZip is more others
    → AllZip is (bodies ++ more) (items ++ others)
both_are is [] more [] others here there = there
both_are is [] more (x ∷ items) others here there = absurd here
both_are is (b ∷ bodies) more [] others here there = absurd here
both_are is (b ∷ bodies) more (x ∷ items) others here there = (here.0, both_are is bodies more items others here.1 there)

pub starts : {A : Type 0} (is : List ℕ → A → Type 0) (bytes : List ℕ) → ItemsAt is 0 bytes [] bytes
unfolding bodies_at
starts is bytes = ([], refl, tt)

pub one : {A : Type 0} (is : List ℕ → A → Type 0) (bytes body left : List ℕ) (item : A) → body_at bytes ≡ Ok (body, left) → is body item
    → ItemsAt is 1 bytes (item ∷ []) left
unfolding bodies_at
one is bytes body left item read here = (body ∷ [], rw read refl, (here, tt))

-- so many more are read
pub goes_on : {A : Type 0} (is : List ℕ → A → Type 0) (k m n : ℕ) (bytes mid left : List ℕ) (items more : List A) → n ≡ k + m
    → ItemsAt is k bytes items mid → ItemsAt is m mid more left → ItemsAt is n bytes (items ++ more) left
goes_on is k m n bytes mid left items more sum so_far next =
    let both : bodies_at (k + m) bytes ≡ Ok (so_far.0 ++ next.0, left) =
    in_two k m bytes ∙ ap (λ (read : Read). read >>= behind_them m) so_far.1 ∙ ap (with_front so_far.0) next.1 in
    (so_far.0 ++ next.0, rw sum both, both_are is so_far.0 next.0 items more so_far.2 next.2)

-- or the first of them can't be
pub one_fails : (bytes : List ℕ) (e : BatchFault) → body_at bytes ≡ Err e → bodies_at 1 bytes ≡ Err e
unfolding bodies_at
one_fails bytes e read = rw read refl

pub fails_at : (k m n : ℕ) (bytes : List ℕ) (e : BatchFault) → n ≡ k + m → bodies_at k bytes ≡ Err e → bodies_at n bytes ≡ Err e
fails_at k m n bytes e sum read = rw sum (in_two k m bytes ∙ ap (λ (read : Read). read >>= behind_them m) read)

pub fails : {A : Type 0} (is : List ℕ → A → Type 0) (k m n : ℕ) (bytes mid : List ℕ) (items : List A) (e : BatchFault) → n ≡ k + m
    → ItemsAt is k bytes items mid → bodies_at m mid ≡ Err e → bodies_at n bytes ≡ Err e
fails is k m n bytes mid items e sum so_far next =
    rw sum (in_two k m bytes ∙ ap (λ (read : Read). read >>= behind_them m) so_far.1 ∙ ap (with_front so_far.0) next)

-- a head, so many bodies, and nothing behind them
pub is_whole : (magic bytes : List ℕ) (count : ℕ) (behind : List ℕ) (bodies : Bodies) (left : List ℕ) → head_at magic bytes ≡ Ok (count, behind) → bodies_at count behind ≡ Ok (bodies, left) → ended left ≡ Ok tt
    → bodies_of magic bytes ≡ Ok bodies
unfolding bodies_of
is_whole magic bytes count behind bodies left head read end = rw (head, read, end) refl
