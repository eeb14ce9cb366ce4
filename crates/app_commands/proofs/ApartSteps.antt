-- The file that is made of texts, and one text more.
use Rattle.std.proofs.Common.{◌≢◌, ℕ, List, ◌∷◌, inl, inr}
use Rattle.app_commands.specs.Apart.{AreApart, IsApartFault, IsPairFault, made_apart}
use Rattle.app_commands.specs.declared.fault.Fault.{Fault}
use Rattle.app_commands.specs.declared.fault.Fault.TheVariants.{Usage, OutOfMemory, Job, Halted}

-- it is not the first text, and none of those behind it
pub one_more_apart : (known : Type 0) (made text : List ℕ) (texts : List (List ℕ)) (all : List (List ℕ × List ℕ))
    → ((known → AreApart (made_apart made (text ∷ texts))) → known → AreApart all) → (known → made ≢ text)
    → (known → AreApart (made_apart made texts)) → known → AreApart all
one_more_apart known made text texts all so_far apart behind = so_far (λ k. (apart k, behind k))

-- a fault of the texts behind the first
pub behind_fault : (known : Type 0) (made text : List ℕ) (texts : List (List ℕ)) (fault : Fault) → IsApartFault known (made_apart made texts) fault
    → IsApartFault known (made_apart made (text ∷ texts)) fault
behind_fault known made text texts (Usage words) h = λ k. inr (h k)
behind_fault known made text texts OutOfMemory h = tt
behind_fault known made text texts (Job fault) h = absurd h
behind_fault known made text texts (Halted fault kept) h = absurd h

-- a fault of the first
pub first_fault : (known : Type 0) (made text : List ℕ) (texts : List (List ℕ)) (fault : Fault) → IsPairFault known made text fault
    → IsApartFault known (made_apart made (text ∷ texts)) fault
first_fault known made text texts (Usage words) h = λ k. inl (h k)
first_fault known made text texts OutOfMemory h = tt
first_fault known made text texts (Job fault) h = absurd h
first_fault known made text texts (Halted fault kept) h = absurd h
