-- Messages of a log, and those behind them.
use Rattle.std.proofs.Common.{◌≡◌, ℕ, List, [], ◌∷◌, ◌++◌, sym, ap, subst, ◌∙◌}
use Rattle.std.proofs.lemmas.List.Concat.{flat_map-append}
use Rattle.issuer_fold.proofs.FoldLaws.{rows_after-append}
use Rattle.issuer_laws.specs.Repeated.{GetsSameReply}
use Rattle.issuer_words.specs.Words.{Frame, Rows, overlay, reply_of, rows_after, rows_after_one, writes_of}
use Rattle.file_laws.specs.Frames.{AreFramesOf}
use Rattle.host_serving.specs.Deciding.{Follows}
use Rattle.host_serving.specs.Entering.{Grows}
use Rattle.host_serving.specs.Entries.{all_bodies, AreMessagesOf}
use Rattle.host_serving.specs.declared.host.Host.{Host}
use Rattle.host_serving.proofs.Takes.{both_are}
use Rattle.host_commands.specs.Standing.{StandsBehind}

entries_more : (entries more : List (List (List ℕ))) → all_bodies (entries ++ more) ≡ all_bodies entries ++ all_bodies more
entries_more entries more = flat_map-append (λ (x : List (List ℕ)). x) entries more

-- the book after messages before, one, and those behind it
pub later : (opening : Rows) (before behind : List Frame) (first : Frame) → rows_after opening (before ++ first ∷ behind) ≡ rows_after (rows_after_one (rows_after opening before) first) behind
later opening before behind first = rows_after-append opening before (first ∷ behind)

pub safe : (opening book : Rows) (before behind : List Frame) (first second : Frame) → book ≡ rows_after opening (before ++ first ∷ behind) → GetsSameReply (rows_after opening before) first behind second
    → (reply_of book second ≡ reply_of (rows_after opening before) first) × (rows_after_one book second ≡ book)
safe opening book before behind first second is alike =
    let there : book ≡ rows_after (rows_after_one (rows_after opening before) first) behind = is ∙ later opening before behind first in (
      ap (λ (rows : Rows). reply_of rows second) there ∙ alike.0,
      ap (overlay book) (ap (λ (rows : Rows). writes_of rows second) there ∙ alike.1),
    )

module _ {G : Type 0} (is_known : G → Type 0) (synced unsynced : G → List ℕ) where
  pub stays : (opening : Rows) (digest : List ℕ) (entries more : List (List (List ℕ))) (messages others : List Frame) (old new : Host G)
      → StandsBehind is_known synced unsynced opening digest entries messages old → Grows is_known synced unsynced old.log new.log more
      → AreMessagesOf more others → Follows old.decider new.decider others
      → StandsBehind is_known synced unsynced opening digest (entries ++ more) (messages ++ others) new
  stays opening digest entries more messages others old new stands grows read follows = record {
    read = subst (λ (x : List (List ℕ)). AreFramesOf x (messages ++ others)) (sym (entries_more entries more)) (both_are (all_bodies entries) (all_bodies more) messages others stands.read read);
    log = grows digest entries stands.log;
    book = follows.book ∙ ap (λ (rows : Rows). rows_after rows others) stands.book ∙ sym (rows_after-append opening messages others);
  }
