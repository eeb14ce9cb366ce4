-- What the places say of reading.
use Rattle.std.proofs.Common.{◌⊎◌, ◌≡◌, ℕ, zero, suc, ◌+◌, ◌-◌, ◌<◌, List, [], ◌∷◌, ◌++◌, length, drop, Ok, Err, refl, ap, ◌∙◌, arith, inl, inr}
use Rattle.std.specs.Prelude.{IsOk}
use Rattle.std.specs.List.{AllByRecursion}
use Rattle.std.proofs.lemmas.List.{length-append, length-drop}
use Rattle.std.proofs.Math.Seq.{drop-length}
use Rattle.issuer_rows.specs.declared.reply_body.ReplyBody.{ReplyBody}
use Rattle.file_laws.specs.Reading.{◌>>=◌, body_at, bodies_at, bodies_of, ended, replies_magic}
use Rattle.file_laws.specs.Replies.{AreRepliesOf, IsReplyFileOf, FailsAsReplies, IsNoReply}
use Rattle.file_laws.specs.declared.batch_fault.BatchFault.{BatchFault}
use Rattle.file_laws.specs.declared.batch_fault.BatchFault.TheVariants.{Body, Trailing}
use Rattle.file_listing.proofs.OneMore.{Read, then_one, one_more_read}
use Rattle.file_listing.specs.Places.{IsBodyOf, IsBlockAt, AreBlocks, IsBlockOf, IsWrongBody, IsWholeFile, IsBatchPlace, fault_of_batch, fault_of_body}
use Rattle.file_listing.specs.declared.batch_place.BatchPlace.{BatchPlace}
use Rattle.file_listing.specs.declared.batch_place.BatchPlace.TheVariants as batch
use Rattle.file_listing.specs.declared.body_kind.BodyKind.{BodyKind}
use Rattle.file_listing.specs.declared.body_kind.BodyKind.TheVariants.{Message, Reply}
use Rattle.file_listing.specs.declared.wrong_body.WrongBody.{WrongBody}
use Rattle.file_listing.specs.declared.wrong_body.WrongBody.TheVariants as wrong
use Rattle.file_laws.proofs.Steps.{ended_more}
use Rattle.file_laws.proofs.InTurn.{one_more}

-- ---- blocks

pub one_more_block : (kind : BodyKind) (file : List ℕ) (from n m mid end : ℕ) → AreBlocks kind file from n mid → IsBlockAt kind file mid end → m ≡ suc n
    → AreBlocks kind file from m end
one_more_block kind file from n m mid end so_far next one = record {
  inside = next.0;
  blocks = so_far.blocks ++ next.1.0 ∷ [];
  number = omega (arith, length-append so_far.blocks (next.1.0 ∷ []), so_far.number, one);
  read = one_more (IsBlockOf kind) (drop from file) so_far.blocks (drop mid file) next.1.0 (drop end file) so_far.read next.1.1;
}

-- ---- bodies that can't be read

still_fails : (n : ℕ) (bytes : List ℕ) (e : BatchFault) → bodies_at n bytes ≡ Err e → bodies_at (suc n) bytes ≡ Err e
still_fails n bytes e fails = one_more_read n bytes ∙ ap (λ (read : Read). read >>= then_one) fails

fails_behind : (n more : ℕ) (bytes : List ℕ) (bodies : List (List ℕ)) (left : List ℕ) (e : BatchFault) → bodies_at n bytes ≡ Ok (bodies, left) → body_at left ≡ Err e
    → (m : ℕ) → m ≡ more + suc n → bodies_at m bytes ≡ Err e
fails_behind n zero bytes bodies left e so_far next m sum =
    let last : m ≡ suc n = omega (arith, sum) in
    rw last (one_more_read n bytes ∙ ap (λ (read : Read). read >>= then_one) so_far ∙ rw next refl)
fails_behind n (suc more) bytes bodies left e so_far next m sum =
    let last : m ≡ suc (more + suc n) = omega (arith, sum) in
    rw last (still_fails (more + suc n) bytes e (fails_behind n more bytes bodies left e so_far next (more + suc n) refl))

-- where a body can't be read, all of them can't
fails_among : (n count : ℕ) (bytes : List ℕ) (bodies : List (List ℕ)) (left : List ℕ) (e : BatchFault) → n < count → bodies_at n bytes ≡ Ok (bodies, left) → body_at left ≡ Err e
    → bodies_at count bytes ≡ Err e
fails_among n count bytes bodies left e within so_far next =
    fails_behind n (count - suc n) bytes bodies left e so_far next count (omega (arith, within))

pub ended_behind : (file : List ℕ) (end more : ℕ) → 0 < more → end + more ≡ length file → ended (drop end file) ≡ Err Trailing
ended_behind file end more some all = ended_more (drop end file) (omega (arith, length-drop end file, some, all))

all_read : (file : List ℕ) → ended (drop (length file) file) ≡ Ok tt
all_read file = rw drop-length refl

message_fails : (file : List ℕ) (at number : ℕ) (is : WrongBody) → IsWrongBody Message file at is → body_at (drop at file) ≡ Err (fault_of_body number is)
message_fails file at number (wrong.Length size) fails = fails.0
message_fails file at number wrong.Ends fails = fails
message_fails file at number wrong.NoReply fails = absurd (fails.3 tt)

-- ---- batches

pub batch_fails : (magic file : List ℕ) (place : BatchPlace) → IsBatchPlace magic Message file place → bodies_of magic file ≡ Err (fault_of_batch place)
unfolding bodies_of
batch_fails magic file (batch.Head wrong) is = rw is.0 refl
batch_fails magic file (batch.Body place) is =
    let next = message_fails file place.at place.number place.wrong is.1.wrong in
    rw (is.0.1, fails_among place.number place.of (drop 10 file) is.1.whole.bodies (drop place.at file) (fault_of_body place.number place.wrong) is.1.within is.1.whole.read next) refl
batch_fails magic file (batch.Behind end more) is =
    rw (is.2.1.1, is.2.2.read, ended_behind file end more is.0 is.1) refl

pub whole_reads : (magic file : List ℕ) (kind : BodyKind) (whole : IsWholeFile magic kind file) → bodies_of magic file ≡ Ok whole.2.bodies
unfolding bodies_of
whole_reads magic file kind whole = rw (whole.1.1, whole.2.read, all_read file) refl

pub batch_is_read : (magic file : List ℕ) → IsWholeFile magic Message file → IsOk (bodies_of magic file)
batch_is_read magic file whole = rw (whole_reads magic file Message whole) refl

-- ---- replies

replies_of : (bodies : List (List ℕ)) → AllByRecursion (IsBodyOf Reply) bodies → (replies : List ReplyBody) × AreRepliesOf bodies replies
replies_of [] are = ([], tt)
replies_of (body ∷ bodies) are =
    let others = replies_of bodies are.1 in
    (are.0.0 ∷ others.0, (are.0.1, others.1))

pub replies_are_read : (file : List ℕ) → IsWholeFile replies_magic Reply file → (replies : List ReplyBody) × IsReplyFileOf file replies
replies_are_read file whole =
    let replies = replies_of whole.2.bodies whole.2.are in
    (replies.0, (whole.2.bodies, whole_reads replies_magic file Reply whole, replies.1))

reply_fails : (file : List ℕ) (at number : ℕ) (is : WrongBody) → IsWrongBody Reply file at is
    → (body_at (drop at file) ≡ Err (fault_of_body number is)) ⊎ IsNoReply (0 + number) (drop at file) (fault_of_body number is)
reply_fails file at number (wrong.Length size) fails = inl fails.0
reply_fails file at number wrong.Ends fails = inl fails
reply_fails file at number wrong.NoReply fails =
    inr (fails.0, fails.1, fails.2, λ reply is. fails.3 (reply, is), ap Body (omega arith))

pub replies_fail : (file : List ℕ) (place : BatchPlace) → IsBatchPlace replies_magic Reply file place → FailsAsReplies file (fault_of_batch place)
replies_fail file (batch.Head wrong) is = inl is.0
replies_fail file (batch.Body place) is =
    let whole = is.1.whole in
    let replies = replies_of whole.bodies whole.are in
    inr (
      place.of,
      drop 10 file,
      is.0.1,
      inl (record {
        number = place.number;
        within = is.1.within;
        replies = replies.0;
        left = drop place.at file;
        read = (whole.bodies, whole.read, replies.1);
        next = reply_fails file place.at place.number place.wrong is.1.wrong;
      }),
    )
replies_fail file (batch.Behind end more) is =
    let whole = is.2.2 in
    let replies = replies_of whole.bodies whole.are in
    inr (is.2.0, drop 10 file, is.2.1.1, inr (replies.0, drop end file, (whole.bodies, whole.read, replies.1), ended_behind file end more is.0 is.1))
