-- A host that stands behind its log, and what a repeat gets from it.
use Rattle.std.specs.Prelude.{◌≡◌, ℕ, List, ◌∷◌, ◌++◌}
use Rattle.issuer_words.specs.Words.{Frame, OriginalKind, Rows, Transaction, reply_of, rows_after, rows_after_one}
use Rattle.issuer_laws.specs.Repeated.{IsFirst}
use Rattle.log_file.specs.Writes.{HasLog}
use Rattle.host_serving.specs.Entering.{book_of}
use Rattle.host_serving.specs.Entries.{AreMessagesOf}
use Rattle.host_serving.specs.declared.host.Host.{Host}

-- over the file of a log
module _ {G : Type 0} (is_known : G → Type 0) (synced unsynced : G → List ℕ) where
  -- the log has these entries, all synced, of these messages; and the book is the opening book after them, decided one after another
  pub record StandsBehind (opening : Rows) (digest : List ℕ) (entries : List (List (List ℕ))) (messages : List Frame) (host : Host G) : Type 0 where
    pub read : AreMessagesOf entries messages
    pub log : HasLog is_known synced unsynced digest entries host.log
    pub book : book_of host ≡ rows_after opening messages

  -- The host's log has this message, the first of its identity, with any messages before and behind it: its repeat gets the reply that the
  -- first one has, and changes nothing.
  abbrev pub IsSafe : Rows → List ℕ → List (List (List ℕ)) → List Frame → Frame → List Frame → Frame → Transaction → OriginalKind → Host G → Type 0
  IsSafe opening digest entries before first behind second transaction kind host =
      StandsBehind opening digest entries (before ++ first ∷ behind) host → IsFirst (rows_after opening before) transaction kind
      → (reply_of (book_of host) second ≡ reply_of (rows_after opening before) first) × (rows_after_one (book_of host) second ≡ book_of host)
