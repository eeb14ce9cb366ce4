use Rattle.std.proofs.Common.{◌≡◌, ◌∙◌, ◌++◌, List, ℕ, drop, refl, subst}
use Rattle.std.specs.Prelude.{IsTrue, ◌↔◌}
use Rattle.file_laws.specs.LogReading.{IsUnbegun}
use Rattle.log_file.specs.Ahead.{held}
use Rattle.log_file.proofs.Ahead.{all_held, ok_of}
use Rattle.log_file.proofs.unbegun.is_unbegun.Goals as goal

pub returns-clause-unbegun : goal.returns-clause-unbegun
returns-clause-unbegun g c = λ known.
    let file = c.args.file.now in
    let whole = g.G.GrowingFile.synced file ++ g.G.GrowingFile.unsynced file in
    let old = c.in_ok-input.input.source in
    let new = c.fill.new.self.source in
    let known1 : g.G.GrowingFile.is_known old.file.now = rw (c.in_ok-input.ensures.source, c.new.ensures.file) known in
    let start : held c.in_ok-input.input ++ drop old.at (g.G.GrowingFile.synced old.file.now ++ g.G.GrowingFile.unsynced old.file.now) ≡ whole =
    rw (c.in_ok-input.ensures.held, c.in_ok-input.ensures.source, c.new.ensures.at, c.new.ensures.file) refl in
    let all : held c.fill.new.self ≡ whole =
    all_held whole (held c.fill.new.self) (drop new.at (g.G.GrowingFile.synced new.file.now ++ g.G.GrowingFile.unsynced new.file.now))
    (c.in_ok-fill.ensures.bytes known1 ∙ start) (c.in_ok-fill.ensures.end (ok_of _ _ c.if-branch.false) known1) in
    subst (λ (bytes : List ℕ). IsTrue c.is_less.result ↔ IsUnbegun c.args.book.now bytes) (c.held.ensures ∙ all)
    (c.is_less.ensures c.args.book.now (c.deref.ensures.value ∙ c.in_ok-header.ensures))
