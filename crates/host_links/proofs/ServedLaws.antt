-- One link's turns, one after another.
use Rattle.std.proofs.Common.{◌≡◌, ◌∙◌, ℕ, List, [], ◌++◌, ap, refl, sym, subst, append_assoc, Result, Err}
use Rattle.std.proofs.lemmas.List.{append-nil}
use Rattle.std.proofs.lemmas.Result.{on_ok_weaker, on_err_weaker}
use Rattle.issuer_rows.specs.Fold.{Rows}
use Rattle.link_frames.specs.Replies.{AppendsPart}
use Rattle.host_serving.specs.declared.host_fault.HostFault.{HostFault}
use Rattle.host_links.specs.Lines.{LinkServed, LinkStopped, ServesLink, TakesTurn}
use Rattle.host_links.specs.Turns.{came_on, given_to, turns_of}
use Rattle.host_links.specs.declared.link_turn.LinkTurn.{LinkTurn}

-- no turn was taken, and nothing written
pub stays : (link : ℕ) (opening : Rows) (before after : List LinkTurn) (reads : Type 0) (left : List ℕ) (puts : Type 0) (text : List ℕ) → after ≡ before
    → (rest : List ℕ) × TakesTurn link opening before after reads left rest (λ replies. puts → AppendsPart text text replies)
stays link opening before after reads left puts text same = (
  left,
  record {
    bytes = [];
    replies = [];
    came = ap (came_on link) same ∙ sym (append-nil (came_on link before));
    read = λ _. refl;
    given = ap (given_to link opening) same ∙ sym (append-nil (given_to link opening before));
    answered = λ _. ([], [], sym (append-nil text), refl);
  },
)

pub none_served : (link : ℕ) (opening : Rows) (turns : List LinkTurn) (reads : Type 0) (bytes kept : List ℕ) (puts : Type 0) (text : List ℕ) → turns ≡ [] → kept ≡ []
    → LinkServed link opening turns reads bytes (kept ++ bytes) puts text text
none_served link opening turns reads bytes kept puts text none empty = record {
  came = λ _. sym (ap (λ (x : List LinkTurn). came_on link x ++ (kept ++ bytes)) none ∙ ap (λ (x : List ℕ). x ++ bytes) empty);
  given = λ _. sym (ap (λ (x : List LinkTurn). text ++ given_to link opening x) none ∙ append-nil text);
}

pub served_on : (link : ℕ) (opening : Rows) (before after : List LinkTurn) (reads reads' : Type 0) (bytes left rest : List ℕ) (puts puts' : Type 0) (had mid has : List ℕ) → (reads → reads') → (puts → puts')
    → LinkServed link opening before reads bytes left puts had mid → TakesTurn link opening before after reads' left rest (λ replies. puts' → has ≡ mid ++ replies)
    → LinkServed link opening after reads bytes rest puts had has
served_on link opening before after reads reads' bytes left rest puts puts' had mid has r p s t = record {
  came = λ known. s.came known ∙ ap (λ (x : List ℕ). came_on link before ++ x) (t.read (r known)) ∙ sym (append_assoc (came_on link before) t.bytes rest)
      ∙ ap (λ (x : List ℕ). x ++ rest) (sym t.came);
  given = λ known. t.answered (p known) ∙ ap (λ (x : List ℕ). x ++ t.replies) (s.given known) ∙ append_assoc had (given_to link opening before) t.replies
      ∙ ap (λ (x : List ℕ). had ++ x) (sym t.given);
}

pub stopped_on : (link : ℕ) (opening : Rows) (before after : List LinkTurn) (reads reads' : Type 0) (bytes left : List ℕ) (puts puts' : Type 0) (had mid has : List ℕ) → (reads → reads') → (puts → puts')
    → LinkServed link opening before reads bytes left puts had mid
    → ((rest : List ℕ) × TakesTurn link opening before after reads' left rest (λ replies. puts' → AppendsPart mid has replies))
    → LinkStopped link opening after reads bytes puts had has
stopped_on link opening before after reads reads' bytes left puts puts' had mid has r p s (rest, t) = record {
  left = rest;
  came = λ known. s.came known ∙ ap (λ (x : List ℕ). came_on link before ++ x) (t.read (r known)) ∙ sym (append_assoc (came_on link before) t.bytes rest)
      ∙ ap (λ (x : List ℕ). x ++ rest) (sym t.came);
  given = λ known.
      let part = t.answered (p known) in (
        given_to link opening before ++ part.0,
        part.1,
        part.2 ∙ ap (λ (x : List ℕ). x ++ part.0) (s.given known) ∙ append_assoc had (given_to link opening before) part.0,
        t.given ∙ ap (λ (x : List ℕ). given_to link opening before ++ x) part.3 ∙ sym (append_assoc (given_to link opening before) part.0 part.1),
      );
}

-- a link that stops with a fault that isn't its own
pub stopped_at : (link : ℕ) (opening : Rows) (turns : List LinkTurn) (reads : Type 0) (bytes left : List ℕ) (puts : Type 0) (had has : List ℕ) → LinkServed link opening turns reads bytes left puts had has
    → LinkStopped link opening turns reads bytes puts had has
stopped_at link opening turns reads bytes left puts had has s = record {
  left = left;
  came = s.came;
  given = λ known. (given_to link opening turns, [], s.given known, sym (append-nil (given_to link opening turns)));
}

-- the link's end
pub ended : (link : ℕ) (opening : Rows) (before after : List LinkTurn) (reads reads' : Type 0) (bytes left : List ℕ) (puts : Type 0) (had mid has : List ℕ) → (reads → reads')
    → LinkServed link opening before reads bytes left puts had mid → after ≡ before → has ≡ mid → (reads' → left ≡ []) → LinkServed link opening after reads bytes [] puts had has
ended link opening before after reads reads' bytes left puts had mid has r s same text end = record {
  came = λ known. s.came known ∙ ap (λ (x : List ℕ). came_on link before ++ x) (end (r known)) ∙ ap (λ (x : List LinkTurn). came_on link x ++ []) (sym same);
  given = λ known. text ∙ s.given known ∙ ap (λ (x : List LinkTurn). had ++ given_to link opening x) (sym same);
}

-- nothing was served
none_stopped : (link : ℕ) (opening : Rows) (turns : List LinkTurn) (reads : Type 0) (bytes : List ℕ) (puts : Type 0) (had has : List ℕ) → turns ≡ [] → (puts → has ≡ had)
    → LinkStopped link opening turns reads bytes puts had has
none_stopped link opening turns reads bytes puts had has none same = record {
  left = bytes;
  came = λ _. sym (ap (λ (x : List LinkTurn). came_on link x ++ bytes) none);
  given = λ known. ([], [], same known ∙ sym (append-nil had), ap (given_to link opening) none);
}

-- the same link, where it was opened before
opened_served : (link : ℕ) (opening : Rows) (turns : List LinkTurn) (reads reads' : Type 0) (bytes bytes' left : List ℕ) (puts puts' : Type 0) (had had' has : List ℕ) → (reads → reads') → (reads → bytes' ≡ bytes)
    → (puts → puts') → (puts → had' ≡ had) → LinkServed link opening turns reads' bytes' left puts' had' has → LinkServed link opening turns reads bytes left puts had has
opened_served link opening turns reads reads' bytes bytes' left puts puts' had had' has r read p put s = record {
  came = λ known. sym (read known) ∙ s.came (r known);
  given = λ known. s.given (p known) ∙ ap (λ (x : List ℕ). x ++ given_to link opening turns) (put known);
}

opened_stopped : (link : ℕ) (opening : Rows) (turns : List LinkTurn) (reads reads' : Type 0) (bytes bytes' : List ℕ) (puts puts' : Type 0) (had had' has : List ℕ) → (reads → reads') → (reads → bytes' ≡ bytes)
    → (puts → puts') → (puts → had' ≡ had) → LinkStopped link opening turns reads' bytes' puts' had' has → LinkStopped link opening turns reads bytes puts had has
opened_stopped link opening turns reads reads' bytes bytes' puts puts' had had' has r read p put s = record {
  left = s.left;
  came = λ known. sym (read known) ∙ s.came (r known);
  given = λ known. subst (λ (x : List ℕ). AppendsPart x has (given_to link opening turns)) (put known) (s.given (p known));
}

module _ {I O : Type 0} (is_known : I → Type 0) (remaining : I → List ℕ) (puts : O → Type 0) (written : O → List ℕ) where
  -- nothing was served, and a fault met
  pub none_serves : (link : ℕ) (opening : Rows) (turns : List LinkTurn) (own : ℕ) (source : I) (old new : O) (fault : HostFault) → turns ≡ [] → own ≡ 0 → (puts old → puts new)
      → (puts old → written new ≡ written old) → ServesLink is_known remaining puts written link opening turns own source old new (Err fault)
  none_serves link opening turns own source old new fault unseen uncounted put same = record {
    count = ap (turns_of link) unseen ∙ sym uncounted;
    sink = put;
    ok = tt;
    stopped = none_stopped link opening turns _ _ _ _ _ unseen same;
  }

  pub opened_serves : (link : ℕ) (opening : Rows) (turns : List LinkTurn) (own : ℕ) (source source' : I) (old old' new : O) (result : Result (Unit {0}) HostFault) → (is_known source → is_known source')
      → (is_known source → remaining source' ≡ remaining source) → (puts old → puts old') → (puts old → written old' ≡ written old)
      → ServesLink is_known remaining puts written link opening turns own source' old' new result → ServesLink is_known remaining puts written link opening turns own source old new result
  opened_serves link opening turns own source source' old old' new result r read p put s = record {
    count = s.count;
    sink = λ known. s.sink (p known);
    ok = on_ok_weaker result (opened_served link opening turns _ _ _ _ _ _ _ _ _ _ r read p put) s.ok;
    stopped = on_err_weaker result (opened_stopped link opening turns _ _ _ _ _ _ _ _ _ r read p put) s.stopped;
  }

-- closing the sink leaves what was written
pub closed_served : (link : ℕ) (opening : Rows) (turns : List LinkTurn) (reads : Type 0) (bytes left : List ℕ) (puts : Type 0) (had mid has : List ℕ) → (puts → has ≡ mid)
    → LinkServed link opening turns reads bytes left puts had mid → LinkServed link opening turns reads bytes left puts had has
closed_served link opening turns reads bytes left puts had mid has same s = record {
  came = s.came;
  given = λ known. same known ∙ s.given known;
}

pub closed_stopped : (link : ℕ) (opening : Rows) (turns : List LinkTurn) (reads : Type 0) (bytes : List ℕ) (puts : Type 0) (had mid has : List ℕ) → (puts → has ≡ mid)
    → LinkStopped link opening turns reads bytes puts had mid → LinkStopped link opening turns reads bytes puts had has
closed_stopped link opening turns reads bytes puts had mid has same s = record {
  left = s.left;
  came = s.came;
  given = λ known. subst (λ (x : List ℕ). AppendsPart had x (given_to link opening turns)) (sym (same known)) (s.given known);
}
