use Rattle.std.proofs.Common.{◌≡◌, [], ◌∷◌, ◌++◌, rules}
use Rattle.fleet_flight.proofs.EachNode.{none_begun, one_begun}
use Rattle.fleet_plain.specs.Run.{at_reset}
use Rattle.fleet_plain.proofs.begun.nodes_at_reset.Goals as goal

pub loop-k-init : goal.loop-k-init
loop-k-init c = none_begun (at_reset c.args.scenario.now) _ c.new-nodes.ensures.items

pub loop-k-preserved : goal.loop-k-preserved
loop-k-preserved c =
    let pushed : c.push.new.self.items ≡ c.loop-k.nodes.items ++ c.in_ok-node.node ∷ [] = search rules in
    one_begun (at_reset c.args.scenario.now) c.loop-k.k c.loop-k.nodes.items c.push.new.self.items c.in_ok-node.node c.loop-k.invariant c.in_ok-node.ensures pushed
