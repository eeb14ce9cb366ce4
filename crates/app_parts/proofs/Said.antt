-- What is said behind work that is done.
use Rattle.std.proofs.Common.{ℕ, zero, suc, ◌≡◌, ◌≤◌, List, Option, Result, Ok, Err, OnOk, inl, inr, refl, arith}
use Rattle.std.specs.Io.KnownBytes.{Appends}
use Rattle.std.specs.Prelude.{IsOk}
use Rattle.std.proofs.lemmas.Bool.{false≢true}
use Rattle.app_parts.specs.Told.{IsSaid}

-- what is said with status 0 is said
pub said_or_not : {A E : Type 0} (before after : Option (List ℕ)) (text : List ℕ) (status : ℕ) (r : Result A E) → status ≤ 1 → (status ≡ 0 → IsOk r)
    → OnOk r (Appends before after text) → IsSaid before after text status
said_or_not before after text zero (Ok x) low done put = inl (refl, put)
said_or_not before after text zero (Err e) low done put = absurd (false≢true (done refl))
said_or_not before after text (suc zero) r low done put = inr refl
said_or_not before after text (suc (suc n)) r low done put = absurd (omega (arith, low))
