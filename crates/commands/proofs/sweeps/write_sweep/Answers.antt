use Rattle.std.proofs.Common.{◌<◌, ℕ, List, get_or, refl, sym, ap, ◌∙◌, subst, arith}
use Rattle.sim_io.proofs.Pages.{stands_first}
use Rattle.node_runner.specs.Scenario.{ScenarioOf}
use Rattle.moves_text.specs.Moves.{MoveOf}
use Rattle.checkpoint_text.specs.Onward.{CanResume}
use Rattle.command_plans.specs.Ends.{Stream, stream}
use Rattle.command_plans.specs.Parts.{Written}
use Rattle.commands.specs.Parts.{IsTail}
use Rattle.commands.specs.Tails.{moved_text}
use Rattle.commands.proofs.SweepRuns.{all_taken, piece_stopped, piece_taken, pieces_more, pieces_none}
use Rattle.commands.proofs.sweeps.write_sweep.Goals as goal

pub loop-one-init : goal.loop-one-init
loop-one-init g c = record { same = refl; stands = stands_first _ _ _ _ refl refl; count = refl }

pub write_run-requires-clause-fit : goal.write_run-requires-clause-fit
write_run-requires-clause-fit g c = subst (λ (n : ScenarioOf). CanResume n c.args.state.now) (sym c.loop-one.invariant.same) c.requires.sweep.fit

pub write_run-requires-clause-tail : goal.write_run-requires-clause-tail
write_run-requires-clause-tail g c = subst (λ (n : ScenarioOf). IsTail n c.args.state.now c.args.tail.now) (sym c.loop-one.invariant.same) c.requires.tail

pub write_run-requires-clause-known : goal.write_run-requires-clause-known
write_run-requires-clause-known g c =
    let one : MoveOf = c.one-item.result in
    let at : (get_or c.args.moves.now c.loop-one.one-index one).node < c.args.network.topo.nodes = c.requires.sweep.known c.loop-one.one-index one (omega arith) in
    let known : one.node < c.args.network.topo.nodes = subst (λ (m : MoveOf). m.node < c.args.network.topo.nodes) (sym c.one-item.is) at in
    subst (λ (n : ScenarioOf). one.node < n.topo.nodes) (sym c.loop-one.invariant.same) known

pub returns-in-Err : goal.returns-in-Err
returns-in-Err g c =
    let i = c.loop-one.invariant in
    let f : MoveOf → List ℕ = moved_text c.args.tail.now c.args.network c.args.state.now in
    let wrote = subst (λ (n : ScenarioOf). Written (moved_text c.args.tail.now n c.args.state.now c.one-item.result) (stream (g.O.Sink.taken c.loop-one.out) (g.O.Sink.faults c.loop-one.out)) (stream (g.O.Sink.taken c.write_run.new.out) (g.O.Sink.faults c.write_run.new.out)) c.write_run.result) i.same c.write_run.ensures.written in
    piece_stopped (Unit {0}) (Unit {0}) _ _ _ _ _ (f c.one-item.result) _ _ _ _ c.in-Err.trouble i.stands (pieces_more f c.args.moves.now c.loop-one.one-index c.one-item.result (omega arith) c.one-item.is) i.count
    (rw c.in-Err.is at wrote)

pub loop-one-preserved : goal.loop-one-preserved
loop-one-preserved g c =
    let i = c.loop-one.invariant in
    let f : MoveOf → List ℕ = moved_text c.args.tail.now c.args.network c.args.state.now in
    let wrote = subst (λ (n : ScenarioOf). Written (moved_text c.args.tail.now n c.args.state.now c.one-item.result) (stream (g.O.Sink.taken c.loop-one.out) (g.O.Sink.faults c.loop-one.out)) (stream (g.O.Sink.taken c.write_run.new.out) (g.O.Sink.faults c.write_run.new.out)) c.write_run.result) i.same c.write_run.ensures.written in
    let took = rw c.in-Ok.is at wrote in
    record {
      same = c.write_run.ensures.same ∙ i.same;
      stands = piece_taken _ _ _ _ _ (f c.one-item.result) _ i.stands (pieces_more f c.args.moves.now c.loop-one.one-index c.one-item.result (omega arith) c.one-item.is) (ap (λ (s : Stream). s.taken) took);
      count = ap (λ (s : Stream). s.faults) took ∙ i.count;
    }

pub returns : goal.returns
returns g c =
    let i = c.loop-one.invariant in
    let f : MoveOf → List ℕ = moved_text c.args.tail.now c.args.network c.args.state.now in
    let taken = all_taken _ _ _ _ i.stands (pieces_none f c.args.moves.now c.loop-one.one-index (omega arith)) in
    λ k. stream (taken k) (i.count k)
