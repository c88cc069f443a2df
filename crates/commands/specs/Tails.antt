-- What is written of each run that goes on from one state with the moves of a sweep: its trace, or what is seen at places.
use Rattle.std.specs.Prelude.{ℕ, List}
use Rattle.std.specs.List.{flat_map}
use Rattle.moves_text.specs.Moves.{MoveOf}
use Rattle.node_runner.specs.Scenario.{ScenarioOf, with_script}
use Rattle.state_text.specs.Text.{StateOf}
use Rattle.commands.specs.Texts.{resume_text, watch_on_text}
use Rattle.commands.specs.declared.watch.Tail.{Tail}
use Rattle.commands.specs.declared.watch.Tail.TheVariants as tail

abbrev pub tail_text : Tail → ScenarioOf → StateOf → List ℕ
tail_text tail.Trace network state = resume_text network state
tail_text (tail.Watch w) network state = watch_on_text network state w.places.items w.from w.to

-- where at a node arrives what a move says
abbrev pub moved_text : Tail → ScenarioOf → StateOf → MoveOf → List ℕ
moved_text what network state m = tail_text what (with_script network m.node m.script) state

abbrev pub tails_text : Tail → ScenarioOf → StateOf → List MoveOf → List ℕ
tails_text what network state moves = flat_map (moved_text what network state) moves
