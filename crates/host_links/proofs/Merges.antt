-- Turns, and turns behind them.
use Rattle.std.proofs.Common.{◌≡◌, ◌≢◌, ◌⊎◌, ◌∙◌, inl, inr, ℕ, zero, suc, ◌+◌, ◌==◌, Bool, true, false, if◌then◌else◌, List, [], ◌∷◌, ◌++◌, Option, Some, None, IfSome, slice_get, slice_set, replicate, ap, refl, sym, subst, arith, append_assoc}
use Rattle.std.proofs.lemmas.List.{append-nil}
use Rattle.std.proofs.lemmas.List.Concat.{flat_map-append}
use Rattle.std.proofs.lemmas.Bool.Decides.{nat_tests}
use mathlib.Core.List.{IsPrefix}
use Rattle.issuer_words.specs.Words.{Frame, Rows, rows_after}
use Rattle.issuer_fold.proofs.FoldLaws.{rows_after-append}
use Rattle.log_file.specs.declared.log_writer.LogWriter.{LogWriter}
use Rattle.host_serving.specs.Entering.{Grows, book_of}
use Rattle.host_serving.specs.Tally.{counted}
use Rattle.host_serving.specs.Turn.{entry_of}
use Rattle.host_serving.specs.declared.host.Host.{Host}
use Rattle.host_serving.specs.declared.host_fault.HostFault.{HostFault}
use Rattle.host_serving.specs.declared.host_fault.HostFault.TheVariants.{OutOfMemory}
use Rattle.host_serving.specs.declared.tally.Tally.{Tally}
use Rattle.host_serving.proofs.Appendings.{grows_none, grows_more}
use Rattle.host_serving.proofs.Servings.{tallies_more}
use Rattle.host_serving.proofs.Watches.{log_more}
use Rattle.host_links.specs.Kept.{AreCounts, IsBehind, IsKept, LogStands}
use Rattle.host_links.specs.Turning.{Turns, StopsTurning}
use Rattle.host_links.specs.Turns.{IsTurnOfLink, turns_of, came_on, given_to, answer_to_turn, messages_of, entries_of}
use Rattle.host_links.specs.declared.link_turn.LinkTurn.{LinkTurn}
use Rattle.file_laws.proofs.Lists.{each_more}

pub messages_more : (some more : List LinkTurn) → messages_of (some ++ more) ≡ messages_of some ++ messages_of more
messages_more some more = flat_map-append (λ (turn : LinkTurn). turn.messages) some more

pub entries_more : (some more : List LinkTurn) → entries_of (some ++ more) ≡ entries_of some ++ entries_of more
entries_more some more = flat_map-append (λ (turn : LinkTurn). entry_of turn.bodies) some more

pub turns_more : (link : ℕ) (some more : List LinkTurn) → turns_of link (some ++ more) ≡ turns_of link some + turns_of link more
turns_more link [] more = omega arith
turns_more link (turn ∷ some) more = omega (arith, turns_more link some more)

pub came_more : (link : ℕ) (some more : List LinkTurn) → came_on link (some ++ more) ≡ came_on link some ++ came_on link more
came_more link [] more = refl
came_more link (turn ∷ some) more =
    let here : List ℕ = if turn.link == link then turn.bytes else [] in
    ap (λ (x : List ℕ). here ++ x) (came_more link some more) ∙ sym (append_assoc here (came_on link some) (came_on link more))

pub given_more : (link : ℕ) (book : Rows) (some more : List LinkTurn)
    → given_to link book (some ++ more) ≡ given_to link book some ++ given_to link (rows_after book (messages_of some)) more
given_more link book [] more = refl
given_more link book (turn ∷ some) more =
    let here : List ℕ = if turn.link == link then answer_to_turn book turn else [] in
    let next = rows_after book turn.messages in
    let later : rows_after book (turn.messages ++ messages_of some) ≡ rows_after next (messages_of some) = rows_after-append book turn.messages (messages_of some) in
    ap (λ (x : List ℕ). here ++ x) (given_more link next some more) ∙ sym (append_assoc here (given_to link next some) (given_to link (rows_after next (messages_of some)) more))
    ∙ ap (λ (rows : Rows). (here ++ given_to link next some) ++ given_to link rows more) (sym later)

-- where none of the turns is the link's, nothing came on it and it is given nothing
none_here : (link : ℕ) (turn : LinkTurn) (turns : List LinkTurn) → turns_of link (turn ∷ turns) ≡ 0 → ((turn.link == link) ≡ false) × (turns_of link turns ≡ 0)
none_here link turn turns none = by_own (turn.link == link) none
  where
    by_own : (own : Bool) → (if own then 1 else 0) + turns_of link turns ≡ 0 → (own ≡ false) × (turns_of link turns ≡ 0)
    by_own true none = absurd (omega (arith, none))
    by_own false none = (refl, omega (arith, none))

pub none_came : (link : ℕ) (turns : List LinkTurn) → turns_of link turns ≡ 0 → came_on link turns ≡ []
none_came link [] none = refl
none_came link (turn ∷ turns) none = rw (none_here link turn turns none).0 (none_came link turns (none_here link turn turns none).1)

pub none_given : (link : ℕ) (book : Rows) (turns : List LinkTurn) → turns_of link turns ≡ 0 → given_to link book turns ≡ []
none_given link book [] none = refl
none_given link book (turn ∷ turns) none = rw (none_here link turn turns none).0 (none_given link (rows_after book turn.messages) turns (none_here link turn turns none).1)

-- A beginning that has all turns of the link knows all that came on it, and all that it is given.
pub came_whole : (link : ℕ) (some all : List LinkTurn) → IsPrefix some all → turns_of link some ≡ turns_of link all → came_on link all ≡ came_on link some
came_whole link some all p same =
    let rest = p.0 in
    let none : turns_of link rest ≡ 0 = omega (arith, same, ap (turns_of link) p.1, turns_more link some rest) in
    ap (came_on link) (sym p.1) ∙ came_more link some rest ∙ ap (λ (x : List ℕ). came_on link some ++ x) (none_came link rest none) ∙ append-nil (came_on link some)

pub given_whole : (link : ℕ) (book : Rows) (some all : List LinkTurn) → IsPrefix some all → turns_of link some ≡ turns_of link all → given_to link book all ≡ given_to link book some
given_whole link book some all p same =
    let rest = p.0 in
    let none : turns_of link rest ≡ 0 = omega (arith, same, ap (turns_of link) p.1, turns_more link some rest) in
    ap (given_to link book) (sym p.1) ∙ given_more link book some rest
    ∙ ap (λ (x : List ℕ). given_to link book some ++ x) (none_given link (rows_after book (messages_of some)) rest none) ∙ append-nil (given_to link book some)

-- one turn of its own
own_turn : (link : ℕ) (turn : LinkTurn) → turn.link ≡ link → (turn.link == link) ≡ true
own_turn link turn is = grind (arith, nat_tests)

other_turn : (link : ℕ) (turn : LinkTurn) → link ≢ turn.link → (turn.link == link) ≡ false
other_turn link turn other = grind (arith, nat_tests)

pub one_came : (link : ℕ) (turns : List LinkTurn) (turn : LinkTurn) → turn.link ≡ link → came_on link (turns ++ turn ∷ []) ≡ came_on link turns ++ turn.bytes
one_came link turns turn is =
    came_more link turns (turn ∷ []) ∙ rw (own_turn link turn is) (ap (λ (x : List ℕ). came_on link turns ++ x) (append-nil turn.bytes))

pub one_given : (link : ℕ) (book : Rows) (turns : List LinkTurn) (turn : LinkTurn) → turn.link ≡ link
    → given_to link book (turns ++ turn ∷ []) ≡ given_to link book turns ++ answer_to_turn (rows_after book (messages_of turns)) turn
one_given link book turns turn is =
    let answer = answer_to_turn (rows_after book (messages_of turns)) turn in
    given_more link book turns (turn ∷ []) ∙ rw (own_turn link turn is) (ap (λ (x : List ℕ). given_to link book turns ++ x) (append-nil answer))

pub one_turn : (link : ℕ) (turns : List LinkTurn) (turn : LinkTurn) → turn.link ≡ link → turns_of link (turns ++ turn ∷ []) ≡ turns_of link turns + 1
one_turn link turns turn is = turns_more link turns (turn ∷ []) ∙ rw (own_turn link turn is) refl

no_turn : (link : ℕ) (turns : List LinkTurn) (turn : LinkTurn) → link ≢ turn.link → turns_of link (turns ++ turn ∷ []) ≡ turns_of link turns
no_turn link turns turn other = turns_more link turns (turn ∷ []) ∙ rw (other_turn link turn other) (omega arith)

-- a count that was set, or another that stays
set_or_stays : (counts : List ℕ) (k next j count : ℕ) → slice_get (slice_set counts k next) j ≡ Some count → ((j ≡ k) × (count ≡ next)) ⊎ ((j ≢ k) × (slice_get counts j ≡ Some count))
set_or_stays [] k next j count is = absurd cc
set_or_stays (c ∷ counts) zero next zero count is = inl (refl, cc)
set_or_stays (c ∷ counts) zero next (suc j) count is = inr ((λ same. absurd (omega (arith, same))), is)
set_or_stays (c ∷ counts) (suc k) next zero count is = inr ((λ same. absurd (omega (arith, same))), is)
set_or_stays (c ∷ counts) (suc k) next (suc j) count is = stays k j count (set_or_stays counts k next j count is)
  where
    stays : (k j count : ℕ) → ((j ≡ k) × (count ≡ next)) ⊎ ((j ≢ k) × (slice_get counts j ≡ Some count)) → ((suc j ≡ suc k) × (count ≡ next)) ⊎ ((suc j ≢ suc k) × (slice_get counts j ≡ Some count))
    stays k j count (inl both) = inl (ap suc both.0, both.1)
    stays k j count (inr both) = inr ((λ same. both.0 (omega (arith, same))), both.1)

counts_more : (counts : List ℕ) (turns : List LinkTurn) (turn : LinkTurn) (count : ℕ) → AreCounts counts turns → slice_get counts turn.link ≡ Some count
    → AreCounts (slice_set counts turn.link (count + 1)) (turns ++ turn ∷ [])
counts_more counts turns turn count are has link other at = by_link (set_or_stays counts turn.link (count + 1) link other at)
  where
    by_link : ((link ≡ turn.link) × (other ≡ count + 1)) ⊎ ((link ≢ turn.link) × (slice_get counts link ≡ Some other)) → other ≡ turns_of link (turns ++ turn ∷ [])
    by_link (inl both) =
        let own : count ≡ turns_of link turns = are link count (subst (λ (k : ℕ). slice_get counts k ≡ Some count) (sym both.0) has) in
        omega (arith, both.1, own, one_turn link turns turn (sym both.0))
    by_link (inr both) = are link other both.1 ∙ sym (no_turn link turns turn both.0)

if_some : {A : Type 0} {P Q : A → Type 0} (o : Option A) → IfSome o P → ((x : A) → P x → Q x) → IfSome o Q
if_some (Some x) has f = f x has
if_some None has f = tt

module _ {G : Type 0} (is_known : G → Type 0) (synced unsynced : G → List ℕ) where
  -- one turn more
  pub kept_more : (opening : Rows) (before : Tally) (first : Option (LogWriter G)) (old new : Host G) (counts : List ℕ) (turns : List LinkTurn) (turn : LinkTurn) (replies : List ℕ) (count : ℕ)
      → IsKept is_known synced unsynced opening before first old None counts turns → Turns is_known synced unsynced old new turn replies → slice_get counts turn.link ≡ Some count
      → IsKept is_known synced unsynced opening before first new None (slice_set counts turn.link (count + 1)) (turns ++ turn ∷ [])
  kept_more opening before first old new counts turns turn replies count kept t has =
      let was = kept.after refl in
      let messages : messages_of (turns ++ turn ∷ []) ≡ messages_of turns ++ turn.messages =
      messages_more turns (turn ∷ []) ∙ ap (λ (x : List Frame). messages_of turns ++ x) (append-nil turn.messages) in
      let entries : entries_of (turns ++ turn ∷ []) ≡ entries_of turns ++ entry_of turn.bodies =
      entries_more turns (turn ∷ []) ∙ ap (λ (x : List (List (List ℕ))). entries_of turns ++ x) (append-nil (entry_of turn.bodies)) in
      record {
        are = each_more IsTurnOfLink turns (turn ∷ []) kept.are (t.is, tt);
        log = if_some first kept.log
            (λ log had. subst (λ (x : List (List (List ℕ))). Grows is_known synced unsynced log new.log x) (sym entries)
            (grows_more is_known synced unsynced log old.log new.log (entries_of turns) (entry_of turn.bodies) had t.log));
        after = λ _. record {
          book = t.book ∙ ap (λ (rows : Rows). rows_after rows turn.messages) was.book ∙ sym (rows_after-append opening (messages_of turns) turn.messages)
              ∙ ap (rows_after opening) (sym messages);
          tally = t.tally ∙ ap (λ (tally : Tally). counted tally turn.messages) was.tally ∙ sym (tallies_more before (messages_of turns) turn.messages)
              ∙ ap (λ (x : List Frame). counted before x) (sym messages);
        };
        counts = counts_more counts turns turn count kept.counts has;
      }

  -- a fault in a turn
  pub kept_stopped : (opening : Rows) (before : Tally) (first : Option (LogWriter G)) (old new : Host G) (fault : HostFault) (counts : List ℕ) (turns : List LinkTurn)
      → IsKept is_known synced unsynced opening before first old None counts turns → StopsTurning is_known synced unsynced fault old new
      → IsKept is_known synced unsynced opening before first new (Some fault) counts turns
  kept_stopped opening before first old new fault counts turns kept stops =
      record {
        are = kept.are;
        log = if_some first kept.log (λ log had. (stops.0, log_more {N = Unit {0}} 0 (λ had before messages has. Unit {0}) is_known synced unsynced fault log old.log new.log (entries_of turns) stops.0 had stops.1));
        after = λ none. absurd cc;
        counts = kept.counts;
      }

  -- a turn that is not in the history
  pub kept_unadded : (opening : Rows) (before : Tally) (first : Option (LogWriter G)) (old new : Host G) (counts : List ℕ) (turns : List LinkTurn) (turn : LinkTurn) (replies : List ℕ)
      → IsKept is_known synced unsynced opening before first old None counts turns → Turns is_known synced unsynced old new turn replies
      → IsKept is_known synced unsynced opening before first new (Some OutOfMemory) counts turns
  kept_unadded opening before first old new counts turns turn replies kept t =
      kept_stopped opening before first old new OutOfMemory counts turns kept (entry_of turn.bodies, ([], inl t.log))

-- what a link knows of a history that it begins, with one turn of its own behind
pub next_came : (link count : ℕ) (me front all : List LinkTurn) (turn : LinkTurn) → IsPrefix me front → turns_of link me ≡ count → turns_of link front ≡ count → turn.link ≡ link
    → all ≡ front ++ turn ∷ [] → came_on link all ≡ came_on link me ++ turn.bytes
next_came link count me front all turn begins mine own is last =
    ap (came_on link) last ∙ one_came link front turn is ∙ ap (λ (x : List ℕ). x ++ turn.bytes) (came_whole link me front begins (mine ∙ sym own))

pub next_given : (link count : ℕ) (opening book : Rows) (me front all : List LinkTurn) (turn : LinkTurn) → IsPrefix me front → turns_of link me ≡ count → turns_of link front ≡ count
    → turn.link ≡ link → book ≡ rows_after opening (messages_of front) → all ≡ front ++ turn ∷ []
    → given_to link opening all ≡ given_to link opening me ++ answer_to_turn book turn
next_given link count opening book me front all turn begins mine own is here last =
    ap (given_to link opening) last ∙ one_given link opening front turn is
    ∙ ap (λ (x : List ℕ). x ++ answer_to_turn (rows_after opening (messages_of front)) turn) (given_whole link opening me front begins (mine ∙ sym own))
    ∙ ap (λ (rows : Rows). given_to link opening me ++ answer_to_turn rows turn) (sym here)

pub next_turn : (link count next : ℕ) (front all : List LinkTurn) (turn : LinkTurn) → turns_of link front ≡ count → turn.link ≡ link → next ≡ count + 1 → all ≡ front ++ turn ∷ []
    → turns_of link all ≡ next
next_turn link count next front all turn own is more last = ap (turns_of link) last ∙ one_turn link front turn is ∙ ap (λ (n : ℕ). n + 1) own ∙ sym more

none_counted : (links link count : ℕ) → slice_get (replicate links 0) link ≡ Some count → count ≡ 0
none_counted zero link count is = absurd cc
none_counted (suc links) zero count is = cc
none_counted (suc links) (suc link) count is = none_counted links link count is

-- no link had a turn yet
pub kept_none : {G : Type 0} (is_known : G → Type 0) (synced unsynced : G → List ℕ) (opening : Rows) (before : Tally) (first : Option (LogWriter G)) (host : Host G) (numbers : List ℕ) (links : ℕ)
    (turns : List LinkTurn) → turns ≡ [] → book_of host ≡ opening → host.decider.tally ≡ before → first ≡ Some host.log → numbers ≡ replicate links 0
    → IsKept is_known synced unsynced opening before first host None numbers turns
kept_none {G = G} is_known synced unsynced opening before first host numbers links turns none book tally log zeros =
    subst (λ (x : List LinkTurn). IsKept is_known synced unsynced opening before first host None numbers x) (sym none) (
    record {
      are = tt;
      log = subst (λ (x : Option (LogWriter G)). IfSome x (λ old. LogStands is_known synced unsynced None old host.log [])) (sym log) (grows_none is_known synced unsynced host.log);
      after = λ _. record { book = book; tally = tally };
      counts = λ link count is. none_counted links link count (subst (λ (x : List ℕ). slice_get x link ≡ Some count) zeros is);
    }
    )

-- the same, by the host before the first turn
pub kept_behind : {G : Type 0} (is_known : G → Type 0) (synced unsynced : G → List ℕ) (opening : Rows) (before : Tally) (first : Option (LogWriter G)) (old new : Host G) (fault : Option HostFault)
    (numbers : List ℕ) (turns : List LinkTurn) → book_of old ≡ opening → old.decider.tally ≡ before → first ≡ Some old.log
    → IsKept is_known synced unsynced opening before first new fault numbers turns → IsBehind is_known synced unsynced old new fault turns
kept_behind {G = G} is_known synced unsynced opening before first old new fault numbers turns book tally log kept = record {
  are = kept.are;
  log = subst (λ (x : Option (LogWriter G)). IfSome x (λ had. LogStands is_known synced unsynced fault had new.log turns)) log kept.log;
  after = λ none. record {
    book = (kept.after none).book ∙ ap (λ (rows : Rows). rows_after rows (messages_of turns)) (sym book);
    tally = (kept.after none).tally ∙ ap (λ (tally : Tally). counted tally (messages_of turns)) (sym tally);
  };
}

-- no link was served for want of memory
pub none_behind : {G : Type 0} (is_known : G → Type 0) (synced unsynced : G → List ℕ) (host : Host G) → IsBehind is_known synced unsynced host host (Some OutOfMemory) []
none_behind is_known synced unsynced host = record {
  are = tt;
  log = ([], ([], inl (grows_none is_known synced unsynced host.log)));
  after = λ none. absurd cc;
}
