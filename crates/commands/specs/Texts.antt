-- What the commands that cut a run, or go on with one, write.
use Rattle.std.specs.Prelude.{ℕ, ◌+◌, ◌*◌, List}
use Rattle.std.specs.List.{flat_map}
use Rattle.world_core.specs.Kept.{epoch}
use Rattle.world_core.specs.Order.{run_rows, world_at}
use Rattle.changes_text.specs.Line.{changes_text}
use Rattle.fleet_flight.specs.Watched.{groups_in, watched}
use Rattle.moves_text.specs.Moves.{MoveOf}
use Rattle.node_places.specs.declared.Place.{Place}
use Rattle.node_runner.specs.Scenario.{ScenarioOf, fleet_of, with_script}
use Rattle.checkpoint_text.specs.Onward.{onward}
use Rattle.checkpoint_text.specs.State.{saved_at, saved_from}
use Rattle.state_text.specs.Text.{StateOf, state_text}
use Rattle.trace_writer.specs.Line.{rows_text}
use Rattle.commands.specs.Sweep.{run_text}

-- `head`: the trace of the first epochs of a network
abbrev pub head_text : ScenarioOf → ℕ → List ℕ
head_text network epochs = rows_text (world_at (fleet_of network) (epochs * epoch)).rows

-- `save`: the state in which it is then
abbrev pub save_text : ScenarioOf → ℕ → List ℕ
save_text network epochs = state_text (saved_at network (epochs * epoch))

-- `look`: the state in which it is as a cycle begins
abbrev pub look_text : ScenarioOf → ℕ → List ℕ
look_text network cycle = state_text (saved_at network cycle)

-- `resume`: the trace of a network from a state on
abbrev pub resume_text : ScenarioOf → StateOf → List ℕ
resume_text network state = rows_text (run_rows (onward network state))

-- `head` from a state on: the trace of so many epochs
abbrev pub head_on_text : ScenarioOf → StateOf → ℕ → List ℕ
head_on_text network state epochs = rows_text (world_at (onward network state) (state.cycle + epochs * epoch)).rows

-- `look` and `save` from a state on: the state in which it is as a cycle begins
abbrev pub look_on_text : ScenarioOf → StateOf → ℕ → List ℕ
look_on_text network state cycle = state_text (saved_from network state cycle)

-- `watch`: what is seen at these places of a network, in the cycles from one on and below another
abbrev pub watch_text : ScenarioOf → List Place → ℕ → ℕ → List ℕ
watch_text network places from to = changes_text (watched (fleet_of network) (groups_in network.topo.nodes places) from to)

-- `watch` from a state on
abbrev pub watch_on_text : ScenarioOf → StateOf → List Place → ℕ → ℕ → List ℕ
watch_on_text network state places from to = changes_text (watched (onward network state) (groups_in network.topo.nodes places) from to)

-- `sweep`: the traces of a network from a state on, one for each of these moves, one behind another
abbrev pub sweep_text : ScenarioOf → StateOf → List MoveOf → List ℕ
sweep_text network state moves = flat_map (run_text network state) moves

-- `watch` over the moves of a sweep: what is seen in the run of each of them, one behind another
abbrev pub watch_run_text : ScenarioOf → StateOf → List Place → ℕ → ℕ → MoveOf → List ℕ
watch_run_text network state places from to m = watch_on_text (with_script network m.node m.script) state places from to

abbrev pub watch_sweep_text : ScenarioOf → StateOf → List MoveOf → List Place → ℕ → ℕ → List ℕ
watch_sweep_text network state moves places from to = flat_map (watch_run_text network state places from to) moves
