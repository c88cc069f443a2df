use Rattle.std.proofs.Common.{◌≡◌, sym, ◌∙◌, subst}
use Rattle.node_runner.specs.Scenario.{ScenarioOf, with_script}
use Rattle.checkpoint_text.specs.Onward.{CanResume}
use Rattle.command_plans.specs.Ends.{stream}
use Rattle.command_plans.specs.Parts.{Written}
use Rattle.commands.specs.Parts.{IsTail}
use Rattle.commands.specs.Tails.{tail_text}
use Rattle.commands.proofs.SweepRuns.{fit_moved, moved_back, same_nodes, tail_moved}
use Rattle.commands.proofs.sweeps.write_run.Goals as goal

pub write_tail-outcome-requires-clause-fit : goal.write_tail-outcome-requires-clause-fit
write_tail-outcome-requires-clause-fit g c =
    subst (λ (n : ScenarioOf). CanResume n c.args.state.now) (sym c.swap_script-own.ensures.after) (fit_moved c.args.network.now c.args.state.now c.node-node.result c.in-Ok.script c.requires.fit)

pub write_tail-outcome-requires-clause-tail : goal.write_tail-outcome-requires-clause-tail
write_tail-outcome-requires-clause-tail g c =
    subst (λ (n : ScenarioOf). IsTail n c.args.state.now c.args.tail.now) (sym c.swap_script-own.ensures.after) (tail_moved c.args.network.now c.args.state.now c.node-node.result c.in-Ok.script c.args.tail.now c.requires.tail)

pub swap_script-requires : goal.swap_script-requires
swap_script-requires g c =
    same_nodes c.args.network.now c.swap_script-own.new.self c.node-node.result c.args.one.now.node c.in-Ok.script c.swap_script-own.ensures.after c.node-node.ensures c.requires.known

pub returns-clause-written : goal.returns-clause-written
returns-clause-written g c =
    let moved : c.swap_script-own.new.self ≡ with_script c.args.network.now c.args.one.now.node c.args.one.now.script =
    c.swap_script-own.ensures.after ∙ (λ i. with_script c.args.network.now (c.node-node.ensures i) (c.in-Ok.ensures i)) in
    subst (λ (n : ScenarioOf). Written (tail_text c.args.tail.now n c.args.state.now) (stream (g.O.Sink.taken c.args.out.now) (g.O.Sink.faults c.args.out.now)) (stream (g.O.Sink.taken c.write_tail-outcome.new.out) (g.O.Sink.faults c.write_tail-outcome.new.out)) c.write_tail-outcome.result)
    moved c.write_tail-outcome.ensures

pub returns-clause-same : goal.returns-clause-same
returns-clause-same g c =
    moved_back c.args.network.now c.swap_script-own.new.self c.swap_script.new.self c.node-node.result c.in-Ok.script c.swap_script-own.result c.swap_script-own.ensures.after c.swap_script-own.ensures.before c.swap_script.ensures.after
