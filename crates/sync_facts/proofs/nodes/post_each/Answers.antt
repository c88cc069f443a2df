use Rattle.std.proofs.Common.{sym, ◌∙◌}
use Rattle.air_base.specs.declared.air.Send.{Send}
use Rattle.sync_facts.proofs.Counted.{next_send}
use Rattle.sync_facts.proofs.nodes.post_each.Goals as goal

abbrev none : Send
none = record { node = 0; cycle = 0; byte = 0 }

pub try_post-requires-clause-node : goal.try_post-requires-clause-node
try_post-requires-clause-node g c =
    (next_send g.N.Session.world c.args.node.number c.loop-place.place c.args.sends.now none c.requires.sends c.loop-place-test.true).1 ∙ sym c.loop-place.invariant.number

pub try_post-requires-clause-number : goal.try_post-requires-clause-number
try_post-requires-clause-number g c =
    (next_send g.N.Session.world c.args.node.number c.loop-place.place c.args.sends.now none c.requires.sends c.loop-place-test.true).0
