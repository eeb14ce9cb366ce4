-- What comes on a link in one turn, one frame after another.
use Rattle.std.proofs.Common.{◌≡◌, ◌≢◌, ℕ, ◌+◌, List, [], ◌∷◌, ◌++◌, Result, Ok, Err, OnOk, refl, sym, ap, subst, ◌∙◌}
use Rattle.std.specs.List.{AllByRecursion}
use Rattle.std.proofs.lemmas.List.{append-nil}
use Rattle.std.proofs.lemmas.List.Concat.{flat_map-append}
use Rattle.file_laws.specs.Files.{framed, IsBody}
use Rattle.link_frames.specs.Incoming.{Incoming, Network, Body, IsIncoming, body_in, frames_of, bodies_of, requests_behind}
use Rattle.link_frames.specs.Link.{AreFrames}
use Rattle.link_frames.specs.declared.network_request.NetworkRequest.{NetworkRequest}
use Rattle.link_frames.proofs.InOrder.{frames_more, bodies_more, requests_more, bodies_behind_more}
use Rattle.link_frames.specs.declared.network_message.NetworkMessage.{NetworkMessage}
use Rattle.host_serving.specs.Entries.{all_bodies, HasBody}
use Rattle.host_serving.specs.Turn.{IsTurn, HasTaken, entry_of}
use Rattle.host_serving.specs.declared.turn.Turn.{Turn}
use Rattle.host_serving.proofs.Takes.{one_more}
use Rattle.file_laws.proofs.Lists.{each_more}

-- what follows from three facts of a result that is `Ok`
pub on_all : {X E A B C D : Type 0} (result : Result X E) → OnOk result A → OnOk result B → OnOk result C → (A → B → C → D) → OnOk result D
on_all (Ok x) a b c f = f a b c
on_all (Err e) a b c f = tt

pub request_taken : (incoming : List Incoming) (message : NetworkMessage) (old new : Turn) → IsTurn incoming old → new.bodies ≡ old.bodies
    → new.requests.items ≡ old.requests.items ++ record { bodies_before = old.between; message = message } ∷ [] → new.between ≡ 0 → IsTurn (incoming ++ Network message ∷ []) new
request_taken incoming message old new is bodies requests between =
    let one : ℕ → List NetworkRequest = λ count. record { bodies_before = count; message = message } ∷ [] in
    record {
      bodies = bodies ∙ is.bodies ∙ sym (append-nil (bodies_of incoming)) ∙ sym (bodies_more incoming (Network message ∷ []));
      requests = requests ∙ ap (λ (x : List NetworkRequest). x ++ one old.between) is.requests ∙ ap (λ (count : ℕ). requests_behind 0 incoming ++ one count) is.between
          ∙ sym (requests_more 0 incoming (Network message ∷ []));
      between = between ∙ sym (bodies_behind_more 0 incoming (Network message ∷ []));
    }

pub body_taken : (incoming : List Incoming) (body : List ℕ) (old new : Turn) → IsTurn incoming old → new.bodies ≡ old.bodies ++ body ∷ []
    → new.requests.items ≡ old.requests.items → new.between ≡ old.between + 1 → IsTurn (incoming ++ Body body ∷ []) new
body_taken incoming body old new is bodies requests between = record {
  bodies = bodies ∙ ap (λ (x : List (List ℕ)). x ++ body ∷ []) is.bodies ∙ sym (bodies_more incoming (Body body ∷ []));
  requests = requests ∙ is.requests ∙ sym (append-nil (requests_behind 0 incoming)) ∙ sym (requests_more 0 incoming (Body body ∷ []));
  between = between ∙ ap (λ (count : ℕ). count + 1) is.between ∙ sym (bodies_behind_more 0 incoming (Body body ∷ []));
}

-- nothing was taken yet
pub none_taken : (bytes : List ℕ) (turn : Turn) → IsTurn [] turn → HasTaken bytes bytes turn
none_taken bytes turn is = record { incoming = []; came = (tt, refl); are = tt; taken = is }

-- one frame more
pub taken_more : (bytes rest body behind : List ℕ) (old new : Turn) → HasTaken bytes rest old → IsBody body → rest ≡ framed body ++ behind
    → ((incoming : List Incoming) → IsTurn incoming old → (item : Incoming) × IsIncoming item × (body ≡ body_in item) × IsTurn (incoming ++ item ∷ []) new) → HasTaken bytes behind new
taken_more bytes rest body behind old new so_far is first takes =
    let more = takes so_far.incoming so_far.taken in
    let item = more.0 in
    let frames : frames_of so_far.incoming ++ body ∷ [] ≡ frames_of (so_far.incoming ++ item ∷ []) =
    ap (λ (x : List ℕ). frames_of so_far.incoming ++ x ∷ []) more.2 ∙ sym (frames_more so_far.incoming (item ∷ [])) in
    record {
      incoming = so_far.incoming ++ item ∷ [];
      came = subst (λ (x : List (List ℕ)). AreFrames bytes x behind) frames (one_more bytes rest body behind (frames_of so_far.incoming) so_far.came.0 so_far.came.1 is first);
      are = each_more IsIncoming so_far.incoming (item ∷ []) so_far.are (more.1, tt);
      taken = more.3;
    }

-- the entry of bodies has these bodies
pub bodies_entered : (entries : List (List (List ℕ))) (bodies : List (List ℕ)) → all_bodies (entries ++ entry_of bodies) ≡ all_bodies entries ++ bodies
bodies_entered entries [] = ap (λ (x : List (List (List ℕ))). all_bodies x) (append-nil entries) ∙ sym (append-nil (all_bodies entries))
bodies_entered entries (body ∷ bodies) =
    flat_map-append (λ (x : List (List ℕ)). x) entries ((body ∷ bodies) ∷ []) ∙ ap (λ (x : List (List ℕ)). all_bodies entries ++ x) (append-nil (body ∷ bodies))

-- it has one at least
pub has_body : (bodies : List (List ℕ)) → AllByRecursion HasBody (entry_of bodies)
has_body [] = tt
has_body (body ∷ bodies) = (λ none. absurd (let same : body ∷ bodies ≡ [] = none in cc), tt)

-- there is one where there are bodies
pub some_entry : (bodies : List (List ℕ)) → bodies ≢ [] → entry_of bodies ≡ bodies ∷ []
some_entry [] some = absurd (some refl)
some_entry (body ∷ bodies) some = refl
