use Rattle.std.proofs.Common.{ℕ, [], ◌∙◌, ap}
use Rattle.world_core.specs.Chain.{log_of}
use Rattle.neighbour_sync.proofs.Keeps.{held_first}
use Rattle.neighbour_sync.proofs.record.Air.new.Goals as goal

pub invariant_of-result : goal.invariant_of-result
invariant_of-result g c =
    held_first c.args.seat (g.W.World.facts c.args.world.now) c.in_ok-topo.topo c.in_ok-log.log c.new-2.result.items c.topo.ensures.lawful c.requires.world c.requires.sent
    (c.in_ok-topo.ensures ∙ c.topo.ensures.same)
    (c.in_ok-log.ensures ∙ ap (λ (n : ℕ). log_of [] n) c.room_for.ensures) c.new-2.ensures.items
