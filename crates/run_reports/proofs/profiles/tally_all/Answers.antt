use Rattle.std.proofs.Common.{[], sym, ◌∙◌}
use Rattle.run_reports.proofs.TalliesMore.{tallies-none, tallies-grow}
use Rattle.run_reports.proofs.profiles.tally_all.Goals as goal

pub loop-node-init : goal.loop-node-init
loop-node-init c = c.new-all.ensures.items ∙ sym (tallies-none c.window-window.result [])

pub loop-node-preserved : goal.loop-node-preserved
loop-node-preserved c = tallies-grow c.loop-node.node c.window-window.result c.loop-node.all.items c.push.new.self.items c.new.result c.loop-node.invariant c.new.ensures c.in_ok-push.ensures.items
