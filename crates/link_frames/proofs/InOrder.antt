-- What comes on a link, one after another, and what is given for it.
use Rattle.std.proofs.Common.{◌≡◌, ℕ, ◌+◌, List, [], ◌∷◌, ◌++◌, length, take, drop, refl, sym, ap, ◌∙◌, append_assoc, arith}
use Rattle.std.proofs.lemmas.List.{append-nil, length-append, take_at, drop_at}
use Rattle.std.proofs.lemmas.List.Concat.{flat_map-append}
use Rattle.issuer_rows.specs.declared.reply_body.ReplyBody.{ReplyBody}
use Rattle.link_frames.specs.Incoming.{Incoming, Network, Body, body_in, frames_of, bodies_of, network_frame, answers_of, requests_behind, bodies_behind, merged, only_bodies}
use Rattle.link_frames.specs.Replies.{reply_frame, reply_frames}
use Rattle.link_frames.specs.declared.network_request.NetworkRequest.{NetworkRequest}

pub frames_more : (some more : List Incoming) → frames_of (some ++ more) ≡ frames_of some ++ frames_of more
frames_more [] more = refl
frames_more (item ∷ some) more = ap (λ (x : List (List ℕ)). body_in item ∷ x) (frames_more some more)

pub bodies_more : (some more : List Incoming) → bodies_of (some ++ more) ≡ bodies_of some ++ bodies_of more
bodies_more [] more = refl
bodies_more (Network message ∷ some) more = bodies_more some more
bodies_more (Body body ∷ some) more = ap (λ (x : List (List ℕ)). body ∷ x) (bodies_more some more)

pub requests_more : (count : ℕ) (some more : List Incoming) → requests_behind count (some ++ more) ≡ requests_behind count some ++ requests_behind (bodies_behind count some) more
requests_more count [] more = refl
requests_more count (Network message ∷ some) more = ap (λ (x : List NetworkRequest). record { bodies_before = count; message = message } ∷ x) (requests_more 0 some more)
requests_more count (Body body ∷ some) more = requests_more (count + 1) some more

pub bodies_behind_more : (count : ℕ) (some more : List Incoming) → bodies_behind count (some ++ more) ≡ bodies_behind (bodies_behind count some) more
bodies_behind_more count [] more = refl
bodies_behind_more count (Network message ∷ some) more = bodies_behind_more 0 some more
bodies_behind_more count (Body body ∷ some) more = bodies_behind_more (count + 1) some more

pub answers_more : (some more : List Incoming) (replies others : List ReplyBody) → length replies ≡ length (bodies_of some)
    → answers_of (some ++ more) (replies ++ others) ≡ answers_of some replies ++ answers_of more others
answers_more [] more [] others e = refl
answers_more [] more (reply ∷ replies) others e = absurd (omega (arith, e))
answers_more (Network message ∷ some) more replies others e =
    ap (λ (x : List ℕ). network_frame message ++ x) (answers_more some more replies others e) ∙ sym (append_assoc (network_frame message) (answers_of some replies) (answers_of more others))
answers_more (Body body ∷ some) more [] others e = absurd (omega (arith, e))
answers_more (Body body ∷ some) more (reply ∷ replies) others e =
    ap (λ (x : List ℕ). reply_frame reply ++ x) (answers_more some more replies others (omega (arith, e))) ∙ sym (append_assoc (reply_frame reply) (answers_of some replies) (answers_of more others))

reply_more : (replies : List ReplyBody) (reply : ReplyBody) → reply_frames (replies ++ reply ∷ []) ≡ reply_frames replies ++ reply_frame reply
reply_more replies reply = flat_map-append reply_frame replies (reply ∷ []) ∙ ap (λ (x : List ℕ). reply_frames replies ++ x) (append-nil (reply_frame reply))

-- the replies to the bodies that came since the last request, and those to what comes behind them
merged_behind : (incoming : List Incoming) (first rest : List ReplyBody) → length rest ≡ length (bodies_of incoming)
    → merged (requests_behind (length first) incoming) (first ++ rest) ≡ reply_frames first ++ answers_of incoming rest
merged_behind [] first [] e = ap (λ (x : List ReplyBody). reply_frames x) (append-nil first) ∙ sym (append-nil (reply_frames first))
merged_behind [] first (reply ∷ rest) e = absurd (omega (arith, e))
merged_behind (Network message ∷ incoming) first rest e =
    let front : take (length first) (first ++ rest) ≡ first = take_at first rest (length first) refl in
    let behind : drop (length first) (first ++ rest) ≡ rest = drop_at first rest (length first) refl in
    let later : merged (requests_behind 0 incoming) rest ≡ answers_of incoming rest = merged_behind incoming [] rest e in
    rw (front, behind, later) (append_assoc (reply_frames first) (network_frame message) (answers_of incoming rest))
merged_behind (Body body ∷ incoming) first [] e = absurd (omega (arith, e))
merged_behind (Body body ∷ incoming) first (reply ∷ rest) e =
    let all : (first ++ reply ∷ []) ++ rest ≡ first ++ reply ∷ rest = append_assoc first (reply ∷ []) rest in
    let size : length (first ++ reply ∷ []) ≡ length first + 1 = length-append first (reply ∷ []) in
    let next : merged (requests_behind (length (first ++ reply ∷ [])) incoming) ((first ++ reply ∷ []) ++ rest) ≡ reply_frames (first ++ reply ∷ []) ++ answers_of incoming rest =
    merged_behind incoming (first ++ reply ∷ []) rest (omega (arith, e)) in
    ap (λ (x : List ReplyBody). merged (requests_behind (length first + 1) incoming) x) (sym all)
    ∙ ap (λ (n : ℕ). merged (requests_behind n incoming) ((first ++ reply ∷ []) ++ rest)) (sym size) ∙ next
    ∙ ap (λ (x : List ℕ). x ++ answers_of incoming rest) (reply_more first reply) ∙ append_assoc (reply_frames first) (reply_frame reply) (answers_of incoming rest)

pub in_order : (incoming : List Incoming) (replies : List ReplyBody) → length replies ≡ length (bodies_of incoming)
    → merged (requests_behind 0 incoming) replies ≡ answers_of incoming replies
in_order incoming replies e = merged_behind incoming [] replies e

pub bodies_alone : (bodies : List (List ℕ)) → bodies_of (only_bodies bodies) ≡ bodies
bodies_alone [] = refl
bodies_alone (body ∷ bodies) = ap (λ (x : List (List ℕ)). body ∷ x) (bodies_alone bodies)

pub frames_alone : (bodies : List (List ℕ)) → frames_of (only_bodies bodies) ≡ bodies
frames_alone [] = refl
frames_alone (body ∷ bodies) = ap (λ (x : List (List ℕ)). body ∷ x) (frames_alone bodies)

pub answers_alone : (bodies : List (List ℕ)) (replies : List ReplyBody) → length replies ≡ length bodies → answers_of (only_bodies bodies) replies ≡ reply_frames replies
answers_alone [] [] e = refl
answers_alone [] (reply ∷ replies) e = absurd (omega (arith, e))
answers_alone (body ∷ bodies) [] e = absurd (omega (arith, e))
answers_alone (body ∷ bodies) (reply ∷ replies) e = ap (λ (x : List ℕ). reply_frame reply ++ x) (answers_alone bodies replies (omega (arith, e)))
