-- A run of a `sweep`.
use Rattle.std.specs.Prelude.{ℕ, List}
use Rattle.checkpoint_text.specs.Onward.{onward}
use Rattle.moves_text.specs.Moves.{MoveOf}
use Rattle.node_runner.specs.Scenario.{ScenarioOf, with_script}
use Rattle.state_text.specs.Text.{StateOf}
use Rattle.trace_writer.specs.Line.{rows_text}
use Rattle.world_core.specs.Order.{run_rows}

-- the trace of a network from a state on, where at a node arrives what a move says
abbrev pub run_text : ScenarioOf → StateOf → MoveOf → List ℕ
run_text network state m = rows_text (run_rows (onward (with_script network m.node m.script) state))
