-- One body more behind those that were read.
use Rattle.std.proofs.Common.{◌≡◌, ℕ, zero, suc, ◌≤◌, List, [], ◌∷◌, ◌++◌, length, drop, Result, Ok, Err, refl, ap, ◌∙◌}
use Rattle.std.specs.List.{AllByRecursion}
use Rattle.file_laws.specs.Reading.{◌>>=◌, body_at, bodies_at}
use Rattle.file_laws.specs.declared.batch_fault.BatchFault.{BatchFault}
use Rattle.file_listing.specs.Places.{IsBodyOf, IsBodyAt, IsMessageText, AreBodies}
use Rattle.file_listing.specs.declared.body_kind.BodyKind.{BodyKind}
use Rattle.file_listing.specs.declared.body_kind.BodyKind.TheVariants.{Message}

abbrev pub Read : Type 0
Read = Result (List (List ℕ) × List ℕ) BatchFault

-- a body behind those that were read
abbrev pub behind_them : List (List ℕ) → List ℕ × List ℕ → Read
behind_them front body = Ok (front ++ body.0 ∷ [], body.1)

-- the next body, behind those that were read
abbrev pub then_one : List (List ℕ) × List ℕ → Read
then_one x = body_at x.1 >>= behind_them x.0

-- a body in front of those that were read
abbrev before_them : List ℕ → List (List ℕ) × List ℕ → Read
before_them body x = Ok (body ∷ x.0, x.1)

-- a body and those behind it
abbrev one_and : (List ℕ → Read) → List ℕ × List ℕ → Read
one_and others body = others body.1 >>= before_them body.0

swapped_one : (body : List ℕ) (front : List (List ℕ)) (read : Result (List ℕ × List ℕ) BatchFault)
    → ((read >>= behind_them front) >>= before_them body) ≡ (read >>= behind_them (body ∷ front))
swapped_one body front (Ok b) = refl
swapped_one body front (Err e) = refl

swapped : (body : List ℕ) (read : Read) → ((read >>= then_one) >>= before_them body) ≡ ((read >>= before_them body) >>= then_one)
swapped body (Ok x) = swapped_one body x.0 (body_at x.1)
swapped body (Err e) = refl

behind_one : (n : ℕ) (read : Result (List ℕ × List ℕ) BatchFault) → ((bytes : List ℕ) → bodies_at (suc n) bytes ≡ (bodies_at n bytes >>= then_one))
    → (read >>= one_and (bodies_at (suc n))) ≡ ((read >>= one_and (bodies_at n)) >>= then_one)
behind_one n (Ok body) more = ap (λ (read : Read). read >>= before_them body.0) (more body.1) ∙ swapped body.0 (bodies_at n body.1)
behind_one n (Err e) more = refl

first_one : (read : Result (List ℕ × List ℕ) BatchFault) → (read >>= λ body. before_them body.0 ([], body.1)) ≡ (read >>= behind_them [])
first_one (Ok body) = refl
first_one (Err e) = refl

-- so many bodies and one more are read as so many, and then one
pub one_more_read : (n : ℕ) (bytes : List ℕ) → bodies_at (suc n) bytes ≡ (bodies_at n bytes >>= then_one)
unfolding bodies_at
one_more_read zero bytes = first_one (body_at bytes)
one_more_read (suc n) bytes = behind_one n (body_at bytes) (one_more_read n)

-- what all bodies are, and one more is, all of them are
pub one_more_is : (Is : List ℕ → Type 0) (bodies : List (List ℕ)) (body : List ℕ) → AllByRecursion Is bodies → Is body → AllByRecursion Is (bodies ++ body ∷ [])
one_more_is Is [] body are is = (is, tt)
one_more_is Is (b ∷ bodies) body are is = (are.0, one_more_is Is bodies body are.1 is)

pub no_bodies : (kind : BodyKind) (file : List ℕ) (from : ℕ) → from ≤ length file → AreBodies kind file from 0 from
unfolding bodies_at
no_bodies kind file from inside = record { inside = inside; bodies = []; read = refl; are = tt }

pub one_more : (kind : BodyKind) (file : List ℕ) (from n m mid end : ℕ) → AreBodies kind file from n mid → IsBodyAt kind file mid end → m ≡ suc n
    → AreBodies kind file from m end
one_more kind file from n m mid end so_far next one = record {
  inside = next.0;
  bodies = so_far.bodies ++ next.1.0 ∷ [];
  read = rw one (one_more_read n (drop from file) ∙ ap (λ (read : Read). read >>= then_one) so_far.read ∙ rw next.1.1 refl);
  are = one_more_is (IsBodyOf kind) so_far.bodies next.1.0 so_far.are next.1.2;
}

-- ---- messages

-- so many bodies from the first one on end at this byte, and each is a message
abbrev pub AreMessages : List ℕ → ℕ → ℕ → Type 0
AreMessages file n end = (bodies : AreBodies Message file 10 n end) × AllByRecursion IsMessageText bodies.bodies

pub no_messages : (file : List ℕ) → 10 ≤ length file → AreMessages file 0 10
unfolding bodies_at
no_messages file inside = (record { inside = inside; bodies = []; read = refl; are = tt }, tt)

pub one_more_message : (file : List ℕ) (n m mid end : ℕ) (body : List ℕ) → AreMessages file n mid → end ≤ length file → body_at (drop mid file) ≡ Ok (body, drop end file)
    → IsMessageText body → m ≡ suc n → AreMessages file m end
one_more_message file n m mid end body so_far inside next is one = (
  record {
    inside = inside;
    bodies = so_far.0.bodies ++ body ∷ [];
    read = rw one (one_more_read n (drop 10 file) ∙ ap (λ (read : Read). read >>= then_one) so_far.0.read ∙ rw next refl);
    are = one_more_is (IsBodyOf Message) so_far.0.bodies body so_far.0.are tt;
  },
  one_more_is IsMessageText so_far.0.bodies body so_far.1 is,
)
