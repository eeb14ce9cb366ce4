-- Frames of bodies.
use Rattle.std.proofs.Common.{◌≡◌, ◌∙◌, ℕ, suc, List, [], ◌∷◌, ◌++◌, length, Err, refl, sym, ap}
use Rattle.issuer_words.specs.Words.{CodecFault, Frame, Message}
use Rattle.iso_laws.specs.Reading.{reading}
use Rattle.iso_laws.specs.Types.{taken_in}
use Rattle.iso_laws.proofs.Messages.{message_are, message_taken, messages_apart}
use Rattle.iso_laws.proofs.Whole.{reading_again}
use Rattle.issuer_rows.specs.declared.frame.Frame.TheVariants.{Good, Bad}
use Rattle.file_laws.specs.Frames.{AreFramesOf, IsFrameOf}

-- there are as many as bodies
pub as_many : (bodies : List (List ℕ)) (frames : List Frame) → AreFramesOf bodies frames → length frames ≡ length bodies
as_many [] [] are = refl
as_many [] (frame ∷ frames) are = absurd are
as_many (body ∷ bodies) [] are = absurd are
as_many (body ∷ bodies) (frame ∷ frames) are = ap suc (as_many bodies frames are.1)

-- a message has no fault
no_fault : (body : List ℕ) (m : Message) (fault : CodecFault) → IsFrameOf body (Good m) → IsFrameOf body (Bad fault) → ⊥
no_fault body m fault good bad =
    let read = reading_again taken_in _ _ (message_are m good.0) (message_taken m) in
    let none = sym read ∙ (ap (reading taken_in) (sym good.1) ∙ bad) in
    absurd cc

same_fault : (fault other : CodecFault) (body : List ℕ) → reading taken_in body ≡ Err fault → reading taken_in body ≡ Err other → fault ≡ other
same_fault fault other body a b =
    let both = sym a ∙ b in
    cc

-- a body is one frame at most
same_frame : (body : List ℕ) (frame other : Frame) → IsFrameOf body frame → IsFrameOf body other → frame ≡ other
same_frame body (Good m) (Good n) a b = ap (λ (x : Message). Good x) (messages_apart m n [] [] a.0 b.0 (ap (λ (text : List ℕ). text ++ []) (sym a.1 ∙ b.1))).0
same_frame body (Good m) (Bad fault) a b = absurd (no_fault body m fault a b)
same_frame body (Bad fault) (Good m) a b = absurd (no_fault body m fault b a)
same_frame body (Bad fault) (Bad other) a b = ap (λ (x : CodecFault). Bad x) (same_fault fault other body a b)

pub same_frames : (bodies : List (List ℕ)) (frames others : List Frame) → AreFramesOf bodies frames → AreFramesOf bodies others → frames ≡ others
same_frames [] [] [] a b = refl
same_frames [] [] (other ∷ others) a b = absurd b
same_frames [] (frame ∷ frames) others a b = absurd a
same_frames (body ∷ bodies) [] others a b = absurd a
same_frames (body ∷ bodies) (frame ∷ frames) [] a b = absurd b
same_frames (body ∷ bodies) (frame ∷ frames) (other ∷ others) a b =
    rw (same_frame body frame other a.0 b.0, same_frames bodies frames others a.1 b.1) refl
