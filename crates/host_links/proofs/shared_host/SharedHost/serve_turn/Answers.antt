use Rattle.std.proofs.Common.{◌≡◌, ◌+◌, ◌++◌, ◌∷◌, [], ℕ, List, Option, None, slice_set, arith, ap, sym, refl, subst, ◌∙◌}
use Rattle.std.proofs.Math.Logic.{∥∥₁_elim, ∥∥₁_map}
use Rattle.std.proofs.Math.Nat.{ℕ_set}
use Rattle.std.proofs.Props.{props}
use Rattle.std.proofs.lemmas.Option.{slice_get_within}
use Rattle.host_serving.specs.Entering.{book_of}
use Rattle.host_serving.specs.declared.host_fault.HostFault.{HostFault}
use Rattle.host_links.specs.Kept.{IsKept}
use Rattle.host_links.specs.Turns.{turns_of, given_to, messages_at}
use Rattle.host_links.specs.declared.link_turn.LinkTurn.{LinkTurn}
use Rattle.host_links.proofs.Merges.{kept_more, kept_stopped, kept_unadded, next_came, next_given, next_turn}
use Rattle.host_links.proofs.shared_host.SharedHost.serve_turn.Goals as goal

pub invariant_of-self : goal.invariant_of-self
invariant_of-self g c =
    let file = g.G.GrowingFile in
    let own = c.args.self.now in
    record {
      kept = ∥∥₁_map own.kept
          (λ kept. kept_stopped file.is_known file.synced file.unsynced g.J.Before.opening g.J.Before.tally g.J.Before.log own.host c.turn_at-turned.new.host c.in-Err.fault own.counts.items own.front
          (subst (λ (fault : Option HostFault). IsKept file.is_known file.synced file.unsynced g.J.Before.opening g.J.Before.tally g.J.Before.log own.host fault own.counts.items own.front) c.in-None.is kept)
          (c.in-Err.ensures.stopped));
    }

pub invariant_of-self-then-not-add : goal.invariant_of-self-then-not-add
invariant_of-self-then-not-add g c =
    let file = g.G.GrowingFile in
    let own = c.args.self.now in
    record {
      kept = ∥∥₁_map own.kept
          (λ kept. kept_unadded file.is_known file.synced file.unsynced g.J.Before.opening g.J.Before.tally g.J.Before.log own.host c.turn_at-turned.new.host own.counts.items own.front _ _
          (subst (λ (fault : Option HostFault). IsKept file.is_known file.synced file.unsynced g.J.Before.opening g.J.Before.tally g.J.Before.log own.host fault own.counts.items own.front) c.in-None.is kept)
          c.in-Ok.ensures.turned);
    }

pub index_mut-requires : goal.index_mut-requires
index_mut-requires g c = omega (arith, slice_get_within c.args.self.now.counts.items c.args.link c.args.count (c.if-not-is_met.ensures.count refl), c.args.self.now.counts.ok)

pub invariant_of-self-2 : goal.invariant_of-self-2
invariant_of-self-2 g c =
    let file = g.G.GrowingFile in
    let own = c.args.self.now in
    let at = c.turn_at-turned.new in
    let turn : LinkTurn = record {
      link = c.args.link;
      bytes = c.args.bytes.now;
      bodies = at.buffers.turn.bodies;
      requests = at.buffers.turn.requests.items;
      messages = messages_at at.buffers.turn.bodies at.host.decider.frames.items;
    } in
    let last : c.add.new.self ≡ own.front ++ turn ∷ [] = rw (c.deref.ensures.value, c.messages_behind.ensures, c.again-front.ensures) at c.if-not-add.ensures in
    let has = c.if-not-is_met.ensures.count refl in
    record {
      kept = ∥∥₁_map own.kept
          (λ kept. let before = subst (λ (fault : Option HostFault). IsKept file.is_known file.synced file.unsynced g.J.Before.opening g.J.Before.tally g.J.Before.log own.host fault own.counts.items own.front) c.in-None.is kept in
          let after = kept_more file.is_known file.synced file.unsynced g.J.Before.opening g.J.Before.tally g.J.Before.log own.host at.host own.counts.items own.front turn at.buffers.replies.items c.args.count before c.in-Ok.ensures.turned has in
          subst (λ (fault : Option HostFault). IsKept file.is_known file.synced file.unsynced g.J.Before.opening g.J.Before.tally g.J.Before.log at.host fault
          (slice_set own.counts.items c.args.link (c.args.count + 1)) c.add.new.self) (sym c.in-None.is)
          (subst (λ (turns : List LinkTurn). IsKept file.is_known file.synced file.unsynced g.J.Before.opening g.J.Before.tally g.J.Before.log at.host None
          (slice_set own.counts.items c.args.link (c.args.count + 1)) turns) (sym last) after));
    }

pub returns-clause-came : goal.returns-clause-came
returns-clause-came g c =
    let file = g.G.GrowingFile in
    let own = c.args.self.now in
    let at = c.turn_at-turned.new in
    let turn : LinkTurn = record {
      link = c.args.link;
      bytes = c.args.bytes.now;
      bodies = at.buffers.turn.bodies;
      requests = at.buffers.turn.requests.items;
      messages = messages_at at.buffers.turn.bodies at.host.decider.frames.items;
    } in
    let last : c.add.new.self ≡ own.front ++ turn ∷ [] = rw (c.deref.ensures.value, c.messages_behind.ensures, c.again-front.ensures) at c.if-not-add.ensures in
    let has = c.if-not-is_met.ensures.count refl in
    let all : turns_of c.args.link own.front ≡ c.args.count = sym (∥∥₁_elim own.kept (ℕ_set _ _) (λ kept. kept.counts c.args.link c.args.count has)) in
    next_came c.args.link c.args.count c.args.me.now own.front c.again.result turn (c.if-not-is_met.ensures.begins refl) c.requires.count all refl (c.again.ensures ∙ last)

pub returns-clause-given : goal.returns-clause-given
returns-clause-given g c =
    let file = g.G.GrowingFile in
    let own = c.args.self.now in
    let at = c.turn_at-turned.new in
    let turn : LinkTurn = record {
      link = c.args.link;
      bytes = c.args.bytes.now;
      bodies = at.buffers.turn.bodies;
      requests = at.buffers.turn.requests.items;
      messages = messages_at at.buffers.turn.bodies at.host.decider.frames.items;
    } in
    let last : c.add.new.self ≡ own.front ++ turn ∷ [] = rw (c.deref.ensures.value, c.messages_behind.ensures, c.again-front.ensures) at c.if-not-add.ensures in
    let has = c.if-not-is_met.ensures.count refl in
    let all : turns_of c.args.link own.front ≡ c.args.count = sym (∥∥₁_elim own.kept (ℕ_set _ _) (λ kept. kept.counts c.args.link c.args.count has)) in
    let mine = c.if-not-is_met.ensures.begins refl in
    ∥∥₁_elim own.kept (Prim.hlevel props)
    (λ kept. next_given c.args.link c.args.count g.J.Before.opening (book_of own.host) c.args.me.now own.front c.again.result turn mine c.requires.count all refl (kept.after c.in-None.is).book
    (c.again.ensures ∙ last) ∙ ap (λ (x : List ℕ). given_to c.args.link g.J.Before.opening c.args.me.now ++ x) (sym c.in-Ok.ensures.turned.answers))

pub returns-clause-count : goal.returns-clause-count
returns-clause-count g c =
    let file = g.G.GrowingFile in
    let own = c.args.self.now in
    let at = c.turn_at-turned.new in
    let turn : LinkTurn = record {
      link = c.args.link;
      bytes = c.args.bytes.now;
      bodies = at.buffers.turn.bodies;
      requests = at.buffers.turn.requests.items;
      messages = messages_at at.buffers.turn.bodies at.host.decider.frames.items;
    } in
    let last : c.add.new.self ≡ own.front ++ turn ∷ [] = rw (c.deref.ensures.value, c.messages_behind.ensures, c.again-front.ensures) at c.if-not-add.ensures in
    let has = c.if-not-is_met.ensures.count refl in
    let all : turns_of c.args.link own.front ≡ c.args.count = sym (∥∥₁_elim own.kept (ℕ_set _ _) (λ kept. kept.counts c.args.link c.args.count has)) in
    next_turn c.args.link c.args.count (c.args.count + 1) own.front c.again.result turn all refl refl (c.again.ensures ∙ last)
