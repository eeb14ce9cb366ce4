use Rattle.std.proofs.Common.{◌≡◌, ℕ, ◌+◌, ◌<◌, length, take, set, None, Option, OnOk, IfSome, sym, ap, subst}
use Rattle.std.specs.FinMap as map
use Rattle.issuer_words.specs.Words.{IsOfKind, Reads, RowKey, RowVal, Rows}
use Rattle.issuer_view.specs.Words.{latest}
use Rattle.issuer_view.specs.Recording.{answer_of}
use Rattle.issuer_view.proofs.ListLaws.{on_ok}
use Rattle.issuer_view.proofs.LogLaws.{latest_set}
use Rattle.issuer_view.proofs.inline_rows.read_at.Goals as goal

-- what was read last is what the source wrote
written : (rows : Reads) (place : ℕ) (key : RowKey) (row : Option RowVal) → place < length rows → row ≡ latest (take (place + 1) (set rows place (key, row)))
written rows place key row within = sym (latest_set None rows place (key, row) within)

pub returns-clause-ok : goal.returns-clause-ok
returns-clause-ok g c = on_ok c.read_into-read.result (ap (λ (row : Option RowVal). set c.args.rows.now c.args.place (c.args.key.now, row)) (written c.args.rows.now c.args.place c.args.key.now c.read_into-read.new.row c.requires))

pub returns-clause-answers : goal.returns-clause-answers
returns-clause-answers g c = subst (λ (row : Option RowVal). g.S.RowSource.answers c.args.source.now c.args.key.now (answer_of c.read_into-read.result row) c.read_into-read.new.self) (written c.args.rows.now c.args.place c.args.key.now c.read_into-read.new.row c.requires) c.read_into-read.ensures.answers

pub returns-clause-kind : goal.returns-clause-kind
returns-clause-kind g c = subst (λ (row : Option RowVal). OnOk c.read_into-read.result (IfSome row (IsOfKind c.args.key.now))) (written c.args.rows.now c.args.place c.args.key.now c.read_into-read.new.row c.requires) c.read_into-read.ensures.kind

pub returns-clause-known : goal.returns-clause-known
returns-clause-known g c =
    subst (λ (row : Option RowVal). OnOk c.read_into-read.result (IfSome (g.S.RowSource.book c.args.source.now) (λ (rows : Rows). row ≡ map.get rows c.args.key.now))) (written c.args.rows.now c.args.place c.args.key.now c.read_into-read.new.row c.requires) c.read_into-read.ensures.known
