use Rattle.std.proofs.Common.{◌∙◌}
use Rattle.indexmap.proofs.CallerLemmas.{insert_entry-new}
use Rattle.issuer_rows.specs.RowKey.{key_eq}
use Rattle.stm_core_laws.specs.declared.logged.Logged.{Logged}
use Rattle.stm_core.proofs.log.push_more.Goals as goal

pub returns-in-Ok-clause-ok : goal.returns-in-Ok-clause-ok
returns-in-Ok-clause-ok c =
    let logged : Logged = record { origin = c.args.origin; value = c.args.value.now } in
    c.in-Ok.ensures.entries ∙ insert_entry-new key_eq c.args.more.now c.args.row.now logged c.requires
