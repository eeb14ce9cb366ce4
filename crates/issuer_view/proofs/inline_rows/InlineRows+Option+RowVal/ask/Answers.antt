use Rattle.std.proofs.Common.{◌≡◌, Ok, IfSome, inl, ◌∙◌}
use Rattle.std.specs.FinMap as map
use Rattle.issuer_words.specs.Words.{IsOfKind, Rows}
use Rattle.issuer_view.specs.Words.{latest}
use Rattle.issuer_view.proofs.LogLaws.{as_written, asked_last}
use Rattle.issuer_view.proofs.inline_rows.InlineRows+Option+RowVal.ask.Goals as goal

pub returns-clause-asked : goal.returns-clause-asked
returns-clause-asked g c =
    inl (as_written c.make_place.new.rows c.read_at.new.rows c.deref_mut.result.now c.args.self.now c.self.inside.used c.args.key.now c.read_at.ensures.length c.deref_mut.ensures.value
    (λ rows. g.S.RowSource.answers c.args.source.now c.args.key.now (Ok (latest rows)) c.read_at.new.source) c.in_ok-read_at.ensures.answers)

pub returns-clause-ok : goal.returns-clause-ok
returns-clause-ok g c =
    asked_last c.make_place.new.rows c.read_at.new.rows c.deref_mut.result.now c.args.self.now c.self.inside.used c.args.key.now c.read_at.ensures.length c.deref_mut.ensures.value
    c.in_ok-make_place.ensures.ok (c.make_place.ensures.kept ∙ c.self.view_is) c.in_ok-read_at.ensures.ok

pub returns-clause-kind : goal.returns-clause-kind
returns-clause-kind g c =
    as_written c.make_place.new.rows c.read_at.new.rows c.deref_mut.result.now c.args.self.now c.self.inside.used c.args.key.now c.read_at.ensures.length c.deref_mut.ensures.value
    (λ rows. IfSome (latest rows) (IsOfKind c.args.key.now)) c.in_ok-read_at.ensures.kind

pub returns-clause-known : goal.returns-clause-known
returns-clause-known g c =
    as_written c.make_place.new.rows c.read_at.new.rows c.deref_mut.result.now c.args.self.now c.self.inside.used c.args.key.now c.read_at.ensures.length c.deref_mut.ensures.value
    (λ rows. IfSome (g.S.RowSource.book c.args.source.now) (λ (known : Rows). latest rows ≡ map.get known c.args.key.now)) c.in_ok-read_at.ensures.known
