-- The bounds of a state's lines.
use Rattle.std.specs.Prelude.{◌≡◌, ℕ, ◌+◌, ◌%◌, ◌^◌, ◌<◌, ◌==◌, ◌&&◌, ◌||◌, nat_le, nat_lt, Bool, true, List, [], ◌∷◌, length, Option, Some, None}
use Rattle.std.specs.List.{AllByRecursion}
use Rattle.world_core.specs.Topology.{Topology, reach}
use Rattle.world_core.specs.Kept.{epoch}
use Rattle.air_base.specs.declared.air.Send.{Send}
use Rattle.device_base.specs.declared.numbers.TheConstants.{NUMBERS}
use Rattle.data_space.specs.declared.regions.TheConstants.{IO_COUNT, SRAM_LEN}
use Rattle.state_text.specs.Text.{NodeOf, StateOf, core_of, ports_of, timers_of}

-- which lines of a node keep their bounds
pub record NodeRules : Type 0 where
  -- the numbers of its core, and of its timers
  pub core : List ℕ → Bool
  pub timers : List ℕ → Bool
  -- the numbers of its ports, in a state at this cycle, where its core has these numbers
  pub ports : ℕ → List ℕ → List ℕ → Bool
  -- the bytes from 0x20 on, as the board can read them
  pub io : List ℕ → Bool

pub record Rules : Type 0 where
  pub topo : Topology
  pub node : NodeRules

abbrev pub rules : Topology → NodeRules → Rules
rules topo node = record { topo = topo; node = node }

-- the end of an epoch, below the limit
abbrev pub is_cut : Topology → ℕ → Bool
is_cut t c = c % epoch == 0 && (nat_le epoch c && nat_lt c t.limit)

-- a send of one of the nodes, before the state's cycle, that may still be heard in it
abbrev pub is_kept : Topology → ℕ → Send → Bool
is_kept t cycle x = nat_lt x.node t.nodes && (nat_lt x.cycle cycle && nat_lt cycle (x.cycle + reach t + t.byte_time))

-- a send behind another one is later, or in the same cycle of a higher node
abbrev pub follows : Option Send → Send → Bool
follows None x = true
follows (Some y) x = nat_lt y.cycle x.cycle || (y.cycle == x.cycle && nat_lt y.node x.node)

abbrev pub kept_behind : Topology → ℕ → Option Send → Send → Bool
kept_behind t cycle before x = is_kept t cycle x && follows before x

-- sends that are kept, in order, behind another one
abbrev pub are_sends : Topology → ℕ → Option Send → List Send → Bool
are_sends t cycle before [] = true
are_sends t cycle before (x ∷ xs) = kept_behind t cycle before x && are_sends t cycle (Some x) xs

-- what a state can have of a node
pub record HasNode (r : Rules) (cycle : ℕ) (n : NodeOf) : Type 0 where
  pub count : length n.numbers ≡ NUMBERS
  pub wide : AllByRecursion (λ x. x < 2 ^ 64) n.numbers
  pub core : r.node.core (core_of n.numbers) ≡ true
  pub timers : r.node.timers (timers_of n.numbers) ≡ true
  pub ports : r.node.ports cycle (core_of n.numbers) (ports_of n.numbers) ≡ true
  pub io_count : length n.io ≡ IO_COUNT
  pub io_bytes : AllByRecursion (λ x. x < 256) n.io
  pub io : r.node.io n.io ≡ true
  pub sram_count : length n.sram ≡ SRAM_LEN
  pub sram_bytes : AllByRecursion (λ x. x < 256) n.sram

pub record IsState (r : Rules) (st : StateOf) : Type 0 where
  pub cycle : is_cut r.topo st.cycle ≡ true
  pub count : length st.nodes ≡ r.topo.nodes
  pub nodes : AllByRecursion (HasNode r st.cycle) st.nodes
  pub sends : are_sends r.topo st.cycle None st.sends ≡ true
  pub send_bytes : AllByRecursion (λ (x : Send). x.byte < 256) st.sends
