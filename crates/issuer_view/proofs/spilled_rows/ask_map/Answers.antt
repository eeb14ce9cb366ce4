use Rattle.std.proofs.Common.{◌≡◌, inl, None, Option, Ok, IfSome, sym, ap, subst, ◌∙◌}
use Rattle.std.specs.FinMap as map
use Rattle.issuer_words.specs.Words.{IsOfKind, Reads, RowVal, Rows}
use Rattle.issuer_view.specs.Words.{latest, logged}
use Rattle.issuer_view.proofs.LogLaws.{latest_last, logged_last}
use Rattle.issuer_view.proofs.spilled_rows.ask_map.Goals as goal

-- the answer goes last
behind : (g : _) (c : goal.In-Ok g) → c.insert_copy.new.rows.entries ≡ logged c.args.rows.now.entries c.args.key.now c.read_into.new.row
behind g c = logged_last c.reserve.new.self _ _ _ _ c.in_ok-reserve.ensures.entries c.requires c.in-Ok.ensures.ok

-- and is what was read last
last : (g : _) (c : goal.In-Ok g) → c.read_into.new.row ≡ latest c.insert_copy.new.rows.entries
last g c = sym (ap (λ (reads : Reads). latest reads) (behind g c) ∙ latest_last None c.args.rows.now.entries c.args.key.now c.read_into.new.row)

pub returns-clause-asked : goal.returns-clause-asked
returns-clause-asked g c = inl (subst (λ (row : Option RowVal). g.S.RowSource.answers c.args.source.now c.args.key.now (Ok row) c.read_into.new.self) (last g c) c.in_ok-read_into.ensures.answers)

pub returns-clause-ok : goal.returns-clause-ok
returns-clause-ok g c = behind g c ∙ ap (λ (row : Option RowVal). logged c.args.rows.now.entries c.args.key.now row) (last g c)

pub returns-clause-kind : goal.returns-clause-kind
returns-clause-kind g c = subst (λ (row : Option RowVal). IfSome row (IsOfKind c.args.key.now)) (last g c) c.in_ok-read_into.ensures.kind

pub returns-clause-known : goal.returns-clause-known
returns-clause-known g c =
    subst (λ (row : Option RowVal). IfSome (g.S.RowSource.book c.args.source.now) (λ (rows : Rows). row ≡ map.get rows c.args.key.now)) (last g c) c.in_ok-read_into.ensures.known
