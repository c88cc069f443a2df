use Rattle.std.proofs.Common.{◌≡◌, ℕ, ◌<◌, false, List, subst}
use Rattle.std.specs.Prelude.{slice_index_or}
use Rattle.air_base.specs.NodeRun.{Timed}
use Rattle.world_core.specs.Order.{node_at}
use Rattle.node_core.specs.declared.row.Row.{Row}
use Rattle.node_core.specs.State.{NodeState}
use Rattle.node_runner.specs.Run.{RunAt}
use Rattle.node_runner.specs.Scenario.{ScenarioOf, fleet_of}
use Rattle.commands.proofs.checkpoints.write_saved.Goals as goal

all_at : (sc : ScenarioOf) (end : ℕ) (r : RunAt) (vs : List (Timed NodeState Row)) → r ≡ record { scenario = sc; floor = end; failed = false }
    → ((k : ℕ) (d : Timed NodeState Row) → k < r.scenario.topo.nodes → (slice_index_or vs k d).state ≡ node_at (fleet_of r.scenario) k r.floor)
    → (k : ℕ) (d : Timed NodeState Row) → k < sc.topo.nodes → (slice_index_or vs k d).state ≡ node_at (fleet_of sc) k end
all_at sc end r vs is =
    subst (λ (r : RunAt). (k : ℕ) (d : Timed NodeState Row) → k < r.scenario.topo.nodes → (slice_index_or vs k d).state ≡ node_at (fleet_of r.scenario) k r.floor) is

pub write_state-requires-clause-states : goal.write_state-requires-clause-states
write_state-requires-clause-states g c = all_at c.args.network.now c.args.cycle c.run_up_to.new.run c.nodes.result.now c.in-Ok-run_up_to.ensures c.nodes.ensures.states
