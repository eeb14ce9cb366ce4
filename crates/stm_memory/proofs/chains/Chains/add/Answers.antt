use Rattle.stm_memory.proofs.Made.{grown, grown_room, grown_rows, grown_sound, grown_stands, made_row}
use Rattle.stm_memory.proofs.chains.Chains.add.Goals as goal

pub invariant_of-self : goal.invariant_of-self
invariant_of-self c =
    grown_sound c.self.inside.rows.entries c.make_chain.new.rows.entries c.args.row.now c.self.invariant c.make_chain.ensures.once (grown c.self.inside.rows c.make_chain.new.rows.entries c.args.row.now c.make_chain.result c.make_chain.ensures.made c.make_chain.ensures.err)

pub returns-clause-number : goal.returns-clause-number
returns-clause-number c = made_row c.self.inside.rows c.make_chain.new.rows.entries c.args.row.now c.make_chain.result c.make_chain.ensures.made c.make_chain.ensures.number

pub returns-clause-stands : goal.returns-clause-stands
returns-clause-stands c =
    grown_stands c.self.inside.rows.entries c.make_chain.new.rows.entries c.args.self.now c.args.row.now (grown c.self.inside.rows c.make_chain.new.rows.entries c.args.row.now c.make_chain.result c.make_chain.ensures.made c.make_chain.ensures.err) c.self.view_is

pub returns-clause-others : goal.returns-clause-others
returns-clause-others c =
    grown_room c.self.inside.rows.entries c.make_chain.new.rows.entries c.args.self.now c.args.row.now (grown c.self.inside.rows c.make_chain.new.rows.entries c.args.row.now c.make_chain.result c.make_chain.ensures.made c.make_chain.ensures.err) c.self.view_is

pub returns-clause-numbers : goal.returns-clause-numbers
returns-clause-numbers c =
    grown_rows c.self.inside.rows.entries c.make_chain.new.rows.entries c.args.self.now c.args.row.now (grown c.self.inside.rows c.make_chain.new.rows.entries c.args.row.now c.make_chain.result c.make_chain.ensures.made c.make_chain.ensures.err) c.self.view_is
