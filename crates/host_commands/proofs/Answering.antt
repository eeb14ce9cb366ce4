-- What serving a link on a log comes to, by the files.
use Rattle.std.proofs.Common.{◌≡◌, ◌≢◌, ◌⊎◌, ℕ, List, [], ◌++◌, inl, inr, refl, ap, subst, ◌∙◌, arith}
use Rattle.std.specs.Prelude.{⊤}
use Rattle.issuer_rows.specs.Fold.{Rows, rows_after}
use Rattle.file_laws.specs.Frames.{AreFramesOf}
use Rattle.link_frames.specs.Replies.{AppendsPart}
use Rattle.host_serving.specs.Deciding.{answers_to}
use Rattle.host_serving.specs.Entering.{book_of}
use Rattle.link_frames.specs.declared.link_fault.LinkFault.TheVariants.{Ended, Length, Unwritable, Unreadable, OutOfMemory as NoMemory}
use Rattle.host_serving.specs.Serving.{AnsweredAfter, Served, Stopped}
use Rattle.host_serving.specs.declared.host.Host.{Host}
use Rattle.host_serving.specs.declared.host_fault.HostFault.{HostFault}
use Rattle.host_serving.specs.declared.host_fault.HostFault.TheVariants.{Link, Log, OutOfMemory}
use Rattle.host_commands.specs.Opening.{IsOpened}
use Rattle.host_commands.specs.Served.{IsAnswered, IsServed}
use Rattle.host_serving.proofs.Servings.{whole}

-- what was written after a fault is a beginning of the replies
begun : (fault : HostFault) (before after text : List ℕ) → AnsweredAfter fault before after text → AppendsPart before after text
begun (Link Unwritable) before after text is = is
begun (Link NoMemory) before after text is = is
begun (Link Ended) before after text is = whole before after text is
begun (Link Length) before after text is = whole before after text is
begun (Link Unreadable) before after text is = whole before after text is
begun (Log fault) before after text is = whole before after text is
begun OutOfMemory before after text is = whole before after text is

-- over the file of a log
module _ {G : Type 0} (is_known : G → Type 0) (synced unsynced : G → List ℕ) where
  -- a link was served whole by a host that was opened
  pub answered_all : (text log : List ℕ) (old new : Host G) (reads puts : Type 0) (came before after : List ℕ)
      → IsOpened is_known synced unsynced text log old
      → Served is_known synced unsynced old new reads came [] puts before after → reads → puts → IsAnswered text log came before after ⊤
  answered_all text log old new reads puts came before after opened served read put =
      let on = opened.again in
      let same : book_of old ≡ rows_after opened.book on.messages = on.stands.book in
      let said : after ≡ before ++ answers_to (rows_after opened.book on.messages) served.incoming served.messages =
      served.answered put ∙ ap (λ (rows : Rows). before ++ answers_to rows served.incoming served.messages) same in
      record {
        opening = opened.book;
        read = opened.read;
        entries = on.entries;
        held = on.held;
        logged = on.messages;
        spelled = on.stands.read;
        incoming = served.incoming;
        left = [];
        frames = served.came read;
        each = served.are;
        messages = served.messages;
        are = subst (λ (x : List (List ℕ)). AreFramesOf x served.messages) served.logged served.read;
        answered = whole before after (answers_to (rows_after opened.book on.messages) served.incoming served.messages) said;
        whole = λ _. (refl, said);
      }

  -- one that stopped answered a beginning
  pub answered_part : (fault : HostFault) (text log : List ℕ) (old new : Host G) (reads puts : Type 0) (came before after : List ℕ)
      → IsOpened is_known synced unsynced text log old
      → Stopped is_known synced unsynced fault old new reads came puts before after → reads → puts → IsAnswered text log came before after ⊥
  answered_part fault text log old new reads puts came before after opened stopped read put =
      let on = opened.again in
      record {
        opening = opened.book;
        read = opened.read;
        entries = on.entries;
        held = on.held;
        logged = on.messages;
        spelled = on.stands.read;
        incoming = stopped.incoming;
        left = stopped.left;
        frames = stopped.came read;
        each = stopped.are;
        messages = stopped.messages;
        are = subst (λ (x : List (List ℕ)). AreFramesOf x stopped.messages) stopped.logged stopped.read;
        answered = subst (λ (rows : Rows). AppendsPart before after (answers_to rows stopped.incoming stopped.messages)) on.stands.book (begun fault before after (answers_to (book_of old) stopped.incoming stopped.messages) (stopped.answered put));
        whole = λ all. absurd all;
      }

-- with less asked of all, the same is answered
pub answered_for : (text log came before after : List ℕ) (all more : Type 0) → (more → all) → IsAnswered text log came before after all → IsAnswered text log came before after more
answered_for text log came before after all more asks is = record {
  opening = is.opening;
  read = is.read;
  entries = is.entries;
  held = is.held;
  logged = is.logged;
  spelled = is.spelled;
  incoming = is.incoming;
  left = is.left;
  frames = is.frames;
  each = is.each;
  messages = is.messages;
  are = is.are;
  answered = is.answered;
  whole = λ asked. is.whole (asks asked);
}

-- the status of a fault isn't that of all
is_fault : ◌≢◌ {A = ℕ} 1 0
is_fault is = omega (arith, is)

-- all is answered, with status 0
pub by_end : (text log came before after : List ℕ) → IsAnswered text log came before after ⊤ → IsServed text log came 0 before after
by_end text log came before after is = inr (answered_for text log came before after ⊤ (Path ℕ 0 0) (λ _. tt) is)

-- nothing is, or a beginning, with status 1
pub by_fault : (text log came before after : List ℕ) → (after ≡ before) ⊎ IsAnswered text log came before after ⊥ → IsServed text log came 1 before after
by_fault text log came before after (inl same) = inl (is_fault, same)
by_fault text log came before after (inr part) = inr (answered_for text log came before after ⊥ (Path ℕ 1 0) is_fault part)
