-- What a turn comes to, as an entry of the history.
use Rattle.std.proofs.Common.{◌≡◌, ◌≢◌, inl, ◌∙◌, ℕ, List, [], ◌∷◌, ◌++◌, length, ap, refl, sym, subst}
use Rattle.issuer_words.specs.Words.{Frame, replies_to, rows_after}
use Rattle.issuer_fold.proofs.FoldLaws.{length-replies_to}
use Rattle.file_laws.specs.Frames.{AreFramesOf}
use Rattle.link_frames.specs.Incoming.{Incoming, bodies_of, requests_behind, answers_of, merged}
use Rattle.link_frames.specs.declared.network_request.NetworkRequest.{NetworkRequest}
use Rattle.link_frames.proofs.InOrder.{in_order}
use Rattle.host_serving.specs.Entering.{Grows, Enters, book_of}
use Rattle.host_serving.specs.Serving.{LogAfter}
use Rattle.host_serving.specs.Tally.{counted}
use Rattle.host_serving.specs.Turn.{HasTaken, IsTurn, entry_of}
use Rattle.host_serving.specs.declared.host.Host.{Host}
use Rattle.host_serving.specs.declared.turn.Turn.{Turn}
use Rattle.host_serving.proofs.Takes.{as_many}
use Rattle.host_serving.specs.declared.host_fault.HostFault.{HostFault}
use Rattle.host_serving.specs.declared.host_fault.HostFault.TheVariants.{Link, Log, OutOfMemory}
use Rattle.link_frames.specs.declared.link_fault.LinkFault.{LinkFault}
use Rattle.log_file.specs.declared.log_writer.LogWriter.{LogWriter}
use Rattle.host_links.specs.Turning.{Turns, of_all}
use Rattle.host_links.specs.Turns.{messages_at}
use Rattle.file_laws.proofs.FrameLaws.{same_frames}

-- the messages of the bodies are those at hand
at_hand : (bodies : List (List ℕ)) (messages frames : List Frame) → AreFramesOf bodies messages → (bodies ≢ [] → AreFramesOf bodies frames) → messages ≡ messages_at bodies frames
at_hand [] [] frames read have = refl
at_hand [] (message ∷ messages) frames read have = absurd read
at_hand (body ∷ bodies) messages frames read have =
    same_frames (body ∷ bodies) messages frames read (have (λ none. absurd (let same : body ∷ bodies ≡ [] = none in cc)))

module _ {G : Type 0} (is_known : G → Type 0) (synced unsynced : G → List ℕ) where
  turned_as : (bytes had has : List ℕ) (puts : Type 0) (turn again : Turn) (old new : Host G) (link : ℕ) → (h : HasTaken bytes [] turn) → puts → had ≡ []
      → Enters is_known synced unsynced h.incoming old new puts had has → again.bodies ≡ turn.bodies → again.requests.items ≡ turn.requests.items
      → (turn.bodies ≢ [] → AreFramesOf turn.bodies new.decider.frames.items)
      → Turns is_known synced unsynced old new
      (record { link = link; bytes = bytes; bodies = again.bodies; requests = again.requests.items; messages = messages_at again.bodies new.decider.frames.items }) has
  turned_as bytes had has puts turn again old new link h known none e bodies requests frames =
      let are : again.bodies ≡ bodies_of h.incoming = bodies ∙ h.taken.bodies in
      let ask : again.requests.items ≡ requests_behind 0 h.incoming = requests ∙ h.taken.requests in
      let read : AreFramesOf again.bodies e.messages = subst (λ (x : List (List ℕ)). AreFramesOf x e.messages) (sym are) e.read in
      let have : again.bodies ≢ [] → AreFramesOf again.bodies new.decider.frames.items =
      λ some. subst (λ (x : List (List ℕ)). AreFramesOf x new.decider.frames.items) (sym bodies) (frames (λ empty. some (bodies ∙ empty))) in
      let same : e.messages ≡ messages_at again.bodies new.decider.frames.items = at_hand again.bodies e.messages new.decider.frames.items read have in
      let replies = replies_to (book_of old) e.messages in
      let size : length replies ≡ length (bodies_of h.incoming) = length-replies_to (book_of old) e.messages ∙ as_many (bodies_of h.incoming) e.messages e.read in
      let all : merged again.requests.items replies ≡ answers_of h.incoming replies =
      ap (λ (x : List NetworkRequest). merged x replies) ask ∙ in_order h.incoming replies size in
      record {
        is = record {
          incoming = h.incoming;
          came = h.came;
          are = h.are;
          bodies = are;
          requests = ask;
          read = subst (λ (x : List Frame). AreFramesOf again.bodies x) same read;
        };
        log = subst (λ (x : List (List ℕ)). Grows is_known synced unsynced old.log new.log (entry_of x)) (sym are) e.log;
        book = e.after.book ∙ ap (rows_after (book_of old)) same;
        tally = e.after.tally ∙ ap (λ (x : List Frame). counted old.decider.tally x) same;
        answers = e.answered known ∙ ap (λ (x : List ℕ). x ++ answers_of h.incoming replies) none ∙ sym all
            ∙ ap (λ (x : List Frame). merged again.requests.items (replies_to (book_of old) x)) same;
      }

  pub turned : (bytes had has : List ℕ) (puts : Type 0) (turn came again : Turn) (old new : Host G) (link : ℕ) → HasTaken bytes [] came → turn ≡ came → puts → had ≡ []
      → ((incoming : List Incoming) → IsTurn incoming turn → Enters is_known synced unsynced incoming old new puts had has) → again.bodies ≡ turn.bodies
      → again.requests.items ≡ turn.requests.items → (turn.bodies ≢ [] → AreFramesOf turn.bodies new.decider.frames.items)
      → Turns is_known synced unsynced old new
      (record { link = link; bytes = bytes; bodies = again.bodies; requests = again.requests.items; messages = messages_at again.bodies new.decider.frames.items }) has
  turned bytes had has puts turn came again old new link h same known none e bodies requests frames =
      let own : HasTaken bytes [] turn = subst (λ (t : Turn). HasTaken bytes [] t) (sym same) h in
      turned_as bytes had has puts turn again old new link own known none (e own.incoming own.taken) bodies requests frames

  -- a fault, as one of all links
  pub stops_all : (fault : HostFault) (old new : LogWriter G) (more : List (List (List ℕ))) → LogAfter is_known synced unsynced fault old new more → LogAfter is_known synced unsynced (of_all fault) old new more
  stops_all (Link fault) old new more after = ([], inl (link_after fault old new more after))
    where
      link_after : (fault : LinkFault) (old new : LogWriter G) (more : List (List (List ℕ))) → LogAfter is_known synced unsynced (Link fault) old new more → Grows is_known synced unsynced old new more
      link_after fault old new more after = after
  stops_all (Log fault) old new more after = after
  stops_all OutOfMemory old new more after = after
