-- Bodies that are taken out of frames, one after another.
use Rattle.std.proofs.Common.{◌≡◌, ℕ, suc, ◌+◌, ◌-◌, ◌<◌, List, [], ◌∷◌, ◌++◌, length, Bor, inl, inr, refl, sym, ap, subst, ◌∙◌, append_assoc, arith}
use Rattle.std.specs.List.{flat_map, AllByRecursion}
use Rattle.std.proofs.lemmas.List.{append-nil}
use Rattle.std.proofs.lemmas.List.Concat.{flat_map-append}
use Rattle.file_laws.specs.Files.{framed, IsBody}
use Rattle.file_laws.specs.Frames.{AreFramesOf}
use Rattle.file_laws.proofs.Again.{framed_apart}
use Rattle.issuer_rows.specs.declared.frame.Frame.{Frame as Message}
use Rattle.link_frames.specs.Front.{IsFront}
use Rattle.link_frames.specs.Link.{AreFrames, AreSoMany, HasFrame}
use Rattle.link_frames.specs.declared.front.Front.{Front}
use Rattle.link_frames.specs.declared.front.Front.TheVariants.{Frame, Part, Wrong}
use Rattle.link_frames.proofs.Fronts.{not_none}
use Rattle.file_laws.proofs.Lists.{each_more}
pub use Rattle.file_laws.proofs.FrameLaws.{as_many}

-- of one or more frames the first stands first
first_of : (n : ℕ) (bytes : List ℕ) (bodies : List (List ℕ)) → length bodies ≡ suc n → AllByRecursion IsBody bodies → bytes ≡ flat_map framed bodies → HasFrame bytes
first_of n bytes [] e all is = absurd (omega (arith, e))
first_of n bytes (body ∷ bodies) e all is = (body, flat_map framed bodies, all.0, is)

some_frame : (n : ℕ) (bytes : List ℕ) → AreSoMany (suc n) bytes → HasFrame bytes
some_frame n bytes many = first_of n bytes many.0 many.1 many.2 many.3

left_of : (n : ℕ) (bytes body behind : List ℕ) (bodies : List (List ℕ)) → length bodies ≡ suc n → AllByRecursion IsBody bodies → bytes ≡ flat_map framed bodies
    → IsBody body → bytes ≡ framed body ++ behind → AreSoMany n behind
left_of n bytes body behind [] e all is is_body first = absurd (omega (arith, e))
left_of n bytes body behind (b ∷ bodies) e all is is_body first =
    (bodies, omega (arith, e), all.1, (framed_apart body b behind (flat_map framed bodies) is_body all.0 (sym first ∙ is)).1)

-- behind the first of them there is one less
pub one_taken : (n : ℕ) (bytes body behind : List ℕ) → AreSoMany (suc n) bytes → IsBody body → bytes ≡ framed body ++ behind → AreSoMany n behind
one_taken n bytes body behind many is first = left_of n bytes body behind many.0 many.1 many.2 many.3 is first

-- frames, and frames behind them
pub frames_more : (bytes left rest : List ℕ) (some more : List (List ℕ)) → AreFrames bytes some left → AreFrames left more rest → AreFrames bytes (some ++ more) rest
frames_more bytes left rest some more front back =
    (each_more IsBody some more front.0 back.0, rw (front.1, back.1, flat_map-append framed some more) (sym (append_assoc (flat_map framed some) (flat_map framed more) rest)))

pub one_more : (bytes rest body behind : List ℕ) (bodies : List (List ℕ)) → AllByRecursion IsBody bodies → bytes ≡ flat_map framed bodies ++ rest → IsBody body → rest ≡ framed body ++ behind
    → AreFrames bytes (bodies ++ body ∷ []) behind
one_more bytes rest body behind bodies are all is first =
    frames_more bytes rest behind bodies (body ∷ []) (are, all) ((is, tt), first ∙ ap (λ (x : List ℕ). x ++ behind) (sym (append-nil (framed body))))

none_left : (bytes : List ℕ) (bodies : List (List ℕ)) → length bodies ≡ 0 → bytes ≡ flat_map framed bodies → bytes ≡ []
none_left bytes [] e is = is
none_left bytes (body ∷ bodies) e is = absurd (omega (arith, e))

-- none is left
pub no_more : (bytes : List ℕ) → AreSoMany 0 bytes → bytes ≡ []
no_more bytes many = none_left bytes many.0 many.1 many.3

-- one frame less is left of so many
pub one_less : (count k : ℕ) (bytes : List ℕ) → k < count → AreSoMany (count - k) bytes → AreSoMany (suc (count - (k + 1))) bytes
one_less count k bytes lt many = subst (λ (n : ℕ). AreSoMany n bytes) (omega (arith, lt)) many

front_stands : (bytes : List ℕ) (front : Front) → HasFrame bytes → IsFront bytes front → ((body : Bor (List ℕ)) (behind : Bor (List ℕ)) → front ≡ Frame body behind → ⊥) → ⊥
front_stands bytes (Frame body behind) frame is other = other body behind refl
front_stands bytes Part frame is other = not_none bytes frame (inl is)
front_stands bytes Wrong frame is other = not_none bytes frame (inr is)

-- of one or more frames the front is one
pub some_front : (n : ℕ) (bytes : List ℕ) (front : Front) → AreSoMany (suc n) bytes → IsFront bytes front → ((body : Bor (List ℕ)) (behind : Bor (List ℕ)) → front ≡ Frame body behind → ⊥) → ⊥
some_front n bytes front many is other = front_stands bytes front (some_frame n bytes many) is other

-- frames of bodies, and of those behind them
pub both_are : (bodies more : List (List ℕ)) (frames others : List Message) → AreFramesOf bodies frames → AreFramesOf more others → AreFramesOf (bodies ++ more) (frames ++ others)
both_are [] more [] others here there = there
both_are [] more (x ∷ frames) others here there = absurd here
both_are (b ∷ bodies) more [] others here there = absurd here
both_are (b ∷ bodies) more (x ∷ frames) others here there = (here.0, both_are bodies more frames others here.1 there)

-- the bodies that were taken out of what was given
pub given_came : (bytes given left : List ℕ) (bodies : List (List ℕ)) → bytes ≡ given ++ left → AreFrames given bodies [] → AreFrames bytes bodies left
given_came bytes given left bodies order taken =
    (taken.0, order ∙ ap (λ (x : List ℕ). x ++ left) (taken.1 ∙ append-nil (flat_map framed bodies)))
