-- The state of a scenario that a text says, and the one that is written of a run at a cycle. Own to this simulator.
use Rattle.std.specs.Prelude.{ℕ, ◌^◌, ◌<◌, ◌==◌, ◌&&◌, nat_le, Bool, List, length, map, slice_index, is_none, Result}
use Rattle.std.specs.List.{AllByRecursion, filter, list_all, range_with_len}
use Rattle.world_core.specs.Kept.{is_kept}
use Rattle.world_core.specs.Order.{Fleet, node_at, world_at}
use Rattle.air_base.specs.Bounds.{LAST_CYCLE}
use Rattle.air_base.specs.declared.air.Send.{Send}
use Rattle.air_base.specs.NodeRun.{Timed}
use Rattle.board_io.specs.Kept.{first_refused, io_of}
use Rattle.board_io.specs.Saved.{ports_fit, timers_fit}
use Rattle.device_base.specs.Numbers.{all_fit}
use Rattle.node_core.specs.Numbers.{core_fits, ends_from, numbers_of}
use Rattle.data_space.specs.declared.regions.TheConstants.{IO_COUNT, SRAM_LEN}
use Rattle.node_core.specs.declared.row.Row.{Row}
use Rattle.node_core.specs.State.{NodeState}
use Rattle.node_runner.specs.Scenario.{ScenarioOf, fleet_of}
use Rattle.state_text.specs.Bounds.{NodeRules, Rules, rules}
use Rattle.state_text.specs.Reading.{state_of}
use Rattle.state_text.specs.Text.{NodeOf, StateOf}
use Rattle.state_text.specs.declared.fault.StateFault.{StateFault}
use Rattle.checkpoint_text.specs.Onward.{onward}

-- ---- what is read

abbrev pub readable : List ℕ → Bool
readable io = length io == IO_COUNT && is_none (first_refused io)

-- the bounds of a node's lines are those of its restoring
abbrev pub node_rules : NodeRules
node_rules = record {
  core = λ n. all_fit (core_fits n);
  timers = λ n. all_fit (timers_fit n);
  ports = λ cycle core n. all_fit (ports_fit (ends_from cycle core) n);
  io = readable;
}

abbrev pub rules_of : ScenarioOf → Rules
rules_of sc = rules sc.topo node_rules

-- numbers of 64 bits, and bytes
pub record HasBytes (n : NodeOf) : Type 0 where
  pub wide : AllByRecursion (λ x. x < 2 ^ 64) n.numbers
  pub io : AllByRecursion (λ x. x < 256) n.io
  pub sram : AllByRecursion (λ x. x < 256) n.sram

-- the state that a text says, or the fault of its first faulty line
abbrev pub state_in : ScenarioOf → List ℕ → Result StateOf StateFault
state_in sc text = state_of (rules_of sc) text

-- ---- what is written

-- what is saved of a node: its numbers, the bytes that its board keeps, and those of its SRAM
abbrev pub parts_of : NodeState → NodeOf
parts_of s = record {
  numbers = numbers_of s;
  io = io_of s.board;
  sram = map (λ k. slice_index s.sram k) (range_with_len 0 SRAM_LEN);
}

-- the sends of a run that may still be heard at cycle c, in order of cycle, then node
abbrev pub kept_of : Fleet NodeState Row → ℕ → List Send
kept_of f c = filter (is_kept f.topo c) (world_at f c).sends

-- all nodes of a run as they are at cycle c, beside these sends
abbrev pub state_with : Fleet NodeState Row → ℕ → List Send → StateOf
state_with f c sends = record {
  cycle = c;
  nodes = map (λ k. parts_of (node_at f k c)) (range_with_len 0 f.topo.nodes);
  sends = sends;
}

-- the state of a run at cycle c: all nodes, and the sends that may still be heard
abbrev pub saved_of : Fleet NodeState Row → ℕ → StateOf
saved_of f c = state_with f c (kept_of f c)

-- that of a run from reset on
abbrev pub saved_at : ScenarioOf → ℕ → StateOf
saved_at sc c = saved_of (fleet_of sc) c

-- and that of the run onward from a state
abbrev pub saved_from : ScenarioOf → StateOf → ℕ → StateOf
saved_from sc st c = saved_of (onward sc st) c

-- no node of a run has executed more instructions before cycle c than a state can say
abbrev pub counts_fit : Fleet NodeState Row → ℕ → Bool
counts_fit f c = list_all (λ k. nat_le (node_at f k c).count LAST_CYCLE) (range_with_len 0 f.topo.nodes)

abbrev pub saved_with : ScenarioOf → ℕ → List Send → StateOf
saved_with sc c sends = state_with (fleet_of sc) c sends

-- of nodes
abbrev pub stood : List (Timed NodeState Row) → List NodeOf
stood vs = map (λ v. parts_of v.state) vs
