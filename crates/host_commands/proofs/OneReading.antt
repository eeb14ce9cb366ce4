-- A log is read as one list of messages.
use Rattle.std.proofs.Common.{◌≡◌, ◌∙◌, ℕ, List, [], length, Result, Ok, ap, inl, sym, subst, arith}
use Rattle.std.proofs.lemmas.List.{append-nil}
use Rattle.issuer_words.specs.Words.{Frame, ReplyBody, Rows, replies_to, rows_after}
use Rattle.file_laws.specs.Blocks.{all_messages, all_replies, replies_to_blocks}
use Rattle.file_laws.specs.Frames.{AreFramesOf}
use Rattle.file_laws.proofs.FoldedBlocks.{one_book, one_list}
use Rattle.link_frames.specs.Incoming.{answers_of}
use Rattle.file_laws.specs.LogReading.{IsLogOf}
use Rattle.file_laws.specs.Texts.{log_text}
use Rattle.file_laws.specs.declared.log_fault.LogFault.{LogFault}
use Rattle.file_laws.proofs.Readings.{one_reading}
use Rattle.host_commands.specs.Standing.{StandsBehind}
use Rattle.host_serving.specs.declared.host.Host.{Host}
use Rattle.log_replay.specs.Blocks.{AreBlocksOf}
use Rattle.log_replay.specs.Logged.{IsLogOfMessages, all_bodies, book_digest}
use Rattle.host_commands.specs.GivenAgain.{AreGivenAgain}
use Rattle.file_laws.proofs.FrameLaws.{same_frames}
use Rattle.log_replay.proofs.Reading.{Read, entries_of}

same_entries : (digest bytes : List ℕ) (entries others : List (List (List ℕ))) (tail rest : List ℕ) → length digest ≡ 32 → IsLogOf digest bytes entries tail
    → IsLogOf digest bytes others rest → entries ≡ others
same_entries digest bytes entries others tail rest width is other =
    let same : Path (Result Read LogFault) (Ok (entries, tail)) (Ok (others, rest)) = one_reading digest bytes (Ok (entries, tail)) (Ok (others, rest)) width is other in
    ap (λ (read : Result Read LogFault). entries_of read) same

module _ {G : Type 0} (is_known : G → Type 0) (synced unsynced : G → List ℕ) where
  -- what a replay decides is what the host decided
  same_messages : (opening : Rows) (entries : List (List (List ℕ))) (messages decided : List Frame) (host : Host G) → length (book_digest opening) ≡ 32
      → StandsBehind is_known synced unsynced opening (book_digest opening) entries messages host
      → IsLogOfMessages (book_digest opening) (synced host.log.file) decided → decided ≡ messages
  same_messages opening entries messages decided host width stands log =
      let digest = book_digest opening in
      let own : IsLogOf digest (synced host.log.file) entries [] =
      record { stands = record { are = stands.log.are; is = stands.log.text ∙ sym (append-nil (log_text digest entries)) }; torn = inl (omega arith) } in
      let same = same_entries digest (synced host.log.file) log.entries entries log.tail [] width log.is own in
      same_frames (all_bodies entries) decided messages (subst (λ (e : List (List (List ℕ))). AreFramesOf (all_bodies e) decided) same log.spelled) stands.read

  pub given_again : (opening : Rows) (entries : List (List (List ℕ))) (messages decided : List Frame) (blocks : List (List Frame)) (host : Host G) → length (book_digest opening) ≡ 32
      → StandsBehind is_known synced unsynced opening (book_digest opening) entries messages host
      → IsLogOfMessages (book_digest opening) (synced host.log.file) decided → AreBlocksOf decided blocks → AreGivenAgain opening messages decided blocks host
  given_again opening entries messages decided blocks host width stands log cut =
      let same = same_messages opening entries messages decided host width stands log in
      let all : all_messages blocks ≡ messages = cut.all ∙ same in
      let replies : all_replies (replies_to_blocks opening blocks) ≡ replies_to opening messages = one_list opening blocks ∙ ap (replies_to opening) all in
      record {
        same = same;
        replies = replies;
        given = λ incoming. ap (λ (r : List ReplyBody). answers_of incoming r) replies;
        book = one_book opening blocks ∙ ap (rows_after opening) all ∙ sym stands.book;
      }
