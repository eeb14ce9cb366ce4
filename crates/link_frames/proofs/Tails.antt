-- The parts of a network message's bytes.
use Rattle.std.proofs.Common.{◌≡◌, ℕ, ◌+◌, List, [], ◌∷◌, ◌++◌, length, take, drop, get_or, Option, Some, None, refl, ap, subst, ◌∙◌, append_assoc, arith}
use Rattle.std.proofs.lemmas.List.{take_at, drop_at, length-append}
use Rattle.byteorder.specs.Endian.{big_bytes}
use Rattle.file_laws.specs.Files.{framed}
use Rattle.iso8583.specs.Class.{IsDigits}
use Rattle.iso8583.specs.declared.stan.Stan.{Stan}
use Rattle.iso8583.specs.declared.transmission.Transmission.{Transmission}
use Rattle.link_frames.specs.Network.{function_text, tail_text, network_reply_head, network_reply_spelling, transmission_text, IsNetwork, IsTransmission}
use Rattle.link_frames.specs.declared.network_function.NetworkFunction.{NetworkFunction}
use Rattle.link_frames.specs.declared.network_function.NetworkFunction.TheVariants.{SignOn, SignOff, Echo}
use Rattle.link_frames.specs.declared.network_message.NetworkMessage.{NetworkMessage}

-- elements 11, 12 and 24 of the bytes
pub record Parts (text : List ℕ) (m : NetworkMessage) : Type 0 where
  pub stan : take 6 text ≡ m.stan.0
  pub stamp : take 12 (drop 6 text) ≡ m.stamp
  pub function : drop 12 (drop 6 text) ≡ function_text m.function

pub parts_of : (text : List ℕ) (m : NetworkMessage) → IsNetwork m → text ≡ tail_text m → Parts text m
parts_of text m is same =
    let rest = m.stamp ++ function_text m.function in
    let all : text ≡ m.stan.0 ++ rest = same ∙ append_assoc m.stan.0 m.stamp (function_text m.function) in
    let behind : drop 6 text ≡ rest = ap (drop 6) all ∙ drop_at m.stan.0 rest 6 is.stan.0 in
    record {
      stan = ap (take 6) all ∙ take_at m.stan.0 rest 6 is.stan.0;
      stamp = ap (take 12) behind ∙ take_at m.stamp (function_text m.function) 12 is.stamp.0;
      function = ap (drop 12) behind ∙ drop_at m.stamp (function_text m.function) 12 is.stamp.0;
    }

-- a code is that of one function
pub same_function : (f g : NetworkFunction) → function_text f ≡ function_text g → f ≡ g
same_function SignOn SignOn e = refl
same_function SignOff SignOff e = refl
same_function Echo Echo e = refl
same_function SignOn SignOff e = let third : 49 ≡ 50 = ap (λ (l : List ℕ). get_or l 2 0) e in absurd (omega (arith, third))
same_function SignOff SignOn e = let third : 50 ≡ 49 = ap (λ (l : List ℕ). get_or l 2 0) e in absurd (omega (arith, third))
same_function SignOn Echo e = let second : 48 ≡ 51 = ap (λ (l : List ℕ). get_or l 1 0) e in absurd (omega (arith, second))
same_function Echo SignOn e = let second : 51 ≡ 48 = ap (λ (l : List ℕ). get_or l 1 0) e in absurd (omega (arith, second))
same_function SignOff Echo e = let second : 48 ≡ 51 = ap (λ (l : List ℕ). get_or l 1 0) e in absurd (omega (arith, second))
same_function Echo SignOff e = let second : 51 ≡ 48 = ap (λ (l : List ℕ). get_or l 1 0) e in absurd (omega (arith, second))

-- a message of the same elements
pub same_message : (m : NetworkMessage) (transmission : Option Transmission) (stan : Stan) (stamp : List ℕ) (function : NetworkFunction)
    → m.transmission ≡ transmission → stan ≡ m.stan → stamp ≡ m.stamp → function ≡ m.function
    → Path (Option NetworkMessage) (Some record { transmission = transmission; stan = stan; stamp = stamp; function = function }) (Some m)
same_message m transmission stan stamp function a b c d = rw (← a, b, c, d) refl

-- element 7 of a message that has it
pub dated : (m : NetworkMessage) (t : Transmission) → IsNetwork m → m.transmission ≡ Some t → (length t.0 ≡ 10) × IsDigits t.0
dated m t is has = subst IsTransmission has is.transmission

-- the size of a reply
head_size : (t : Option Transmission) → length (network_reply_head t) ≡ 12
head_size None = refl
head_size (Some t) = refl

pub reply_size : (m : NetworkMessage) → length (tail_text m) ≡ 21 → length (network_reply_spelling m) ≡ 36 + length (transmission_text m.transmission)
reply_size m size =
    let head = network_reply_head m.transmission in
    let date = transmission_text m.transmission in
    omega (arith, size, head_size m.transmission, length-append head date, length-append (head ++ date) (tail_text m), length-append (head ++ date ++ tail_text m) (56 ∷ 48 ∷ 48 ∷ []))

-- the frame of a reply, part by part
pub reply_framed : (old first second last : List ℕ) (m : NetworkMessage) → length (tail_text m) ≡ 21
    → first ≡ old ++ (big_bytes 2 (36 + length (transmission_text m.transmission)) ++ network_reply_head m.transmission ++ transmission_text m.transmission)
    → second ≡ first ++ tail_text m → last ≡ second ++ 56 ∷ 48 ∷ 48 ∷ [] → last ≡ old ++ framed (network_reply_spelling m)
reply_framed old first second last m size a b c =
    let number = big_bytes 2 (36 + length (transmission_text m.transmission)) in
    let head = network_reply_head m.transmission in
    let date = transmission_text m.transmission in
    let tail = tail_text m in
    let sized : framed (network_reply_spelling m) ≡ number ++ network_reply_spelling m = ap (λ (n : ℕ). big_bytes 2 n ++ network_reply_spelling m) (reply_size m size) in
    rw (sized, c, b, a) (simp append_assoc)

abbrev pub the_stan : List ℕ → Stan
the_stan text = record { 0 = text }

abbrev pub the_transmission : List ℕ → Transmission
the_transmission text = record { 0 = text }
