-- Bytes that are handed over, some more at a time.
use Rattle.std.proofs.Common.{◌≡◌, ℕ, ◌+◌, ◌-◌, ◌^◌, ◌<◌, min, Option, None, List, [], ◌∷◌, ◌++◌, length, take, drop, get_or, refl, sym, ap, subst, ◌∙◌, append_assoc, arith}
use Rattle.std.proofs.lemmas.List.{append-nil, take_more, take-append-drop, drop_at, drop_all}
use Rattle.rtrb.specs.Fifo.{Allowed, EachAllowed}
use Rattle.link_frames.specs.Ahead.{most, FitsEnd, MayFail, IsReadAhead}
use Rattle.link_frames.specs.declared.last.Last.{Last}
use Rattle.file_devices.specs.Appending.{Begins}

-- a front of a beginning is a beginning
shorter : (front more bytes : List ℕ) → Begins (front ++ more) bytes → Begins front bytes
shorter front more bytes is = (more ++ is.0, is.1 ∙ append_assoc front more is.0)

-- each byte of the next ones may be handed over
pub each_allowed : (known : Type 0) (bytes before next : List ℕ) → (known → Begins (before ++ next) bytes)
    → EachAllowed (λ (front : List ℕ) (byte : ℕ). known → Begins (front ++ byte ∷ []) bytes) before next
each_allowed known bytes before next is i d near = λ k.
    let b : ℕ = get_or next i d in
    let more : take (i + 1) next ≡ take i next ++ b ∷ [] = take_more next i d near in
    let parts : before ++ next ≡ ((before ++ take i next) ++ b ∷ []) ++ drop (i + 1) next =
    ap (λ (x : List ℕ). before ++ x) (sym (take-append-drop (i + 1) next) ∙ ap (λ (x : List ℕ). x ++ drop (i + 1) next) more)
    ∙ sym (append_assoc before (take i next ++ b ∷ []) (drop (i + 1) next))
    ∙ ap (λ (x : List ℕ). x ++ drop (i + 1) next) (sym (append_assoc before (take i next) (b ∷ []))) in
    shorter ((before ++ take i next) ++ b ∷ []) (drop (i + 1) next) bytes (subst (λ (x : List ℕ). Begins x bytes) parts (is k))

-- those that came, each allowed behind those before it, are a beginning
pub came : (known : Type 0) (bytes before next : List ℕ) → Allowed (λ (front : List ℕ) (byte : ℕ). known → Begins (front ++ byte ∷ []) bytes) before next
    → (known → Begins before bytes) → known → Begins (before ++ next) bytes
came known bytes before [] allowed is k = subst (λ (x : List ℕ). Begins x bytes) (sym (append-nil before)) (is k)
came known bytes before (b ∷ next) allowed is k =
    subst (λ (x : List ℕ). Begins x bytes) (append_assoc before (b ∷ []) next) (came known bytes (before ++ b ∷ []) next allowed.1 allowed.0 k)

-- behind a beginning stands the rest
behind : (bytes front rest : List ℕ) → bytes ≡ front ++ rest → drop (length front) bytes ≡ rest
behind bytes front rest is = ap (drop (length front)) is ∙ drop_at front rest (length front) refl

-- what is left is what came and the rest
pub left : (bytes front next : List ℕ) → Begins (front ++ next) bytes → drop (length front) bytes ≡ next ++ drop (length (front ++ next)) bytes
left bytes front next is =
    behind bytes front (next ++ is.0) (is.1 ∙ append_assoc front next is.0)
    ∙ ap (λ (x : List ℕ). next ++ x) (sym (behind bytes (front ++ next) is.0 is.1))

-- where as many were taken as there are, none is left
pub none_left : (bytes front : List ℕ) (count : ℕ) → length bytes ≡ count → count < most → count ≡ min (length front) (2 ^ 64 - 1) → drop (length front) bytes ≡ []
none_left bytes front count all few counted = drop_all (length front) bytes (omega (arith, all, few, counted))

-- nothing was taken yet
pub none_taken : (reads : Type 0) (bytes front : List ℕ) (last : Option Last) → front ≡ [] → last ≡ None → reads → IsReadAhead reads bytes front last
none_taken reads bytes front last no_front no_last known = record {
  known = known;
  beginning = subst (λ (x : List ℕ). Begins x bytes) (sym no_front) (bytes, refl);
  end = subst (FitsEnd bytes) (sym no_last) tt;
}

-- a call may fail where the link's may
pub fails_alone : (fails : Type 0) (last : Option Last) → last ≡ None → MayFail fails last → fails
fails_alone fails last no_last = subst (λ (x : Option Last). MayFail fails x → fails) (sym no_last) (λ may. may)
