-- Payloads, and the bodies in them.
use Rattle.std.proofs.Common.{◌≡◌, ◌≢◌, ℕ, ◌<◌, ◌≤◌, ◌+◌, ◌*◌, ◌^◌, List, [], ◌∷◌, ◌++◌, length, drop, Result, Ok, sym, ap, ◌∙◌, arith, append_assoc}
use Rattle.std.specs.List.{flat_map, AllByRecursion}
use Rattle.std.proofs.lemmas.List.{length-append}
use Rattle.std.proofs.lemmas.List.Elements.{All-from_recursion}
use Rattle.byteorder.specs.Endian.{big_bytes}
use Rattle.file_laws.specs.Files.{framed, head_text, batch_text, AreBodies, IsBatch, IsBody}
use Rattle.file_laws.specs.Reading.{bodies_of, batch_magic}
use Rattle.file_laws.specs.declared.batch_fault.BatchFault.{BatchFault}
use Rattle.file_laws.proofs.Again.{batch_again}
use Rattle.file_laws.proofs.Once.{batch_taken}
use Rattle.file_laws.specs.Texts.{payload_text}

-- a batch file is its letters and version, and a payload
abbrev letters : List ℕ
letters = batch_magic ++ big_bytes 2 1

as_batch : (bodies : List (List ℕ)) → batch_text bodies ≡ letters ++ payload_text bodies
unfolding payload_text head_text
as_batch bodies = append_assoc letters (big_bytes 4 (length bodies)) (flat_map framed bodies)

-- what a payload is read as
abbrev pub payload_read : List ℕ → Result (List (List ℕ)) BatchFault
payload_read payload = bodies_of batch_magic (letters ++ payload)

pub payload_again : (bodies : List (List ℕ)) → AreBodies bodies → payload_read (payload_text bodies) ≡ Ok bodies
payload_again bodies are = batch_again (letters ++ payload_text bodies) bodies (are, sym (as_batch bodies))

pub ok_is : {A E : Type 0} (x y : A) → Path (Result A E) (Ok x) (Ok y) → x ≡ y
ok_is x y e = cc

pub payloads_apart : (bodies others : List (List ℕ)) → AreBodies bodies → AreBodies others → payload_text bodies ≡ payload_text others → bodies ≡ others
payloads_apart bodies others are are' e = ok_is bodies others (sym (payload_again bodies are) ∙ ap payload_read e ∙ payload_again others are')

abbrev pub AreBytes : List ℕ → Type 0
AreBytes bytes = AllByRecursion (λ byte. byte < 256) bytes

-- a payload that is read is the text of its bodies
pub payload_taken : (payload : List ℕ) (bodies : List (List ℕ)) → AreBytes payload → payload_read payload ≡ Ok bodies → AreBodies bodies × (payload ≡ payload_text bodies)
payload_taken payload bodies all read =
    let bytes : AllByRecursion (λ byte. byte < 256) (letters ++ payload) = (omega arith, (omega arith, (omega arith, (omega arith, (omega arith, (omega arith, all)))))) in
    let batch : IsBatch (letters ++ payload) bodies = batch_taken (letters ++ payload) bodies (All-from_recursion (λ byte. byte < 256) (letters ++ payload) bytes) read in
    (batch.0, ap (drop 6) (batch.1 ∙ as_batch bodies))

-- how long a payload is
pub length-framed : (bodies : List (List ℕ)) → AllByRecursion IsBody bodies → (3 * length bodies ≤ length (flat_map framed bodies)) × (length (flat_map framed bodies) ≤ 514 * length bodies)
length-framed [] all = (omega arith, omega arith)
length-framed (body ∷ bodies) all =
    let more = length-framed bodies all.1 in
    let one = length-append (big_bytes 2 (length body)) body in
    let both = length-append (framed body) (flat_map framed bodies) in
    (omega (arith, more.0, one, both, all.0.0), omega (arith, more.1, one, both, all.0.1))

pub length-payload : (bodies : List (List ℕ)) → length (payload_text bodies) ≡ 4 + length (flat_map framed bodies)
unfolding payload_text
length-payload bodies = length-append (big_bytes 4 (length bodies)) (flat_map framed bodies)

pub payload_fits : (bodies : List (List ℕ)) → AreBodies bodies → length (payload_text bodies) < 2 ^ 32
payload_fits bodies are = omega (arith, length-payload bodies, (length-framed bodies are.1).1, are.0)

-- no payload has six bytes
pub never_six : (bodies : List (List ℕ)) → AreBodies bodies → length (payload_text bodies) ≢ 6
never_six [] are e = absurd (omega (arith, length-payload [], e))
never_six (body ∷ bodies) are e = absurd (omega (arith, length-payload (body ∷ bodies), (length-framed (body ∷ bodies) are.1).0, e))
