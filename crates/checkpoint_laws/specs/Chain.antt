-- One save behind another, each from the state that the one before has written. Own to this simulator.
use Rattle.std.specs.Prelude.{ℕ, ◌+◌, List, [], ◌∷◌, ◌++◌}
use Rattle.world_core.specs.Order.{world_at}
use Rattle.node_core.specs.declared.row.Row.{Row}
use Rattle.node_runner.specs.Scenario.{ScenarioOf}
use Rattle.state_text.specs.Text.{StateOf}
use Rattle.checkpoint_text.specs.Onward.{onward}
use Rattle.checkpoint_text.specs.State.{saved_from}

-- the state behind the last of them, where they go on by so many cycles each
abbrev pub saved_behind : ScenarioOf → StateOf → List ℕ → StateOf
saved_behind sc st [] = st
saved_behind sc st (n ∷ ns) = saved_behind sc (saved_from sc st (st.cycle + n)) ns

-- and the rows of the runs onward from one to the next
abbrev pub rows_behind : ScenarioOf → StateOf → List ℕ → List Row
rows_behind sc st [] = []
rows_behind sc st (n ∷ ns) = (world_at (onward sc st) (st.cycle + n)).rows ++ rows_behind sc (saved_from sc st (st.cycle + n)) ns
