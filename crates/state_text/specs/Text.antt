-- The text of a saved state: a title, the cycle, five lines of each node in order, a line of each send that is kept,
-- and `end`. Numbers are decimal without leading zeros, bytes two upper-case hexadecimal digits. Own to this simulator.
use Rattle.std.specs.Prelude.{ℕ, ◌+◌, List, [], ◌∷◌, ◌++◌, map, take, drop, codes, decimal}
use Rattle.std.specs.List.{flat_map}
use Rattle.hex.specs.Hex.{encode_upper}
use Rattle.air_base.specs.declared.air.Send.{Send}
use Rattle.device_base.specs.declared.numbers.TheConstants.{CORE_NUMBERS, TIMER_NUMBERS}
use Rattle.state_text.specs.Parts.{line_of, ended}

pub record NodeOf : Type 0 where
  -- those of the core, then of the timers, then of the ports
  pub numbers : List ℕ
  -- the bytes from 0x20 to 0xFF that the board itself keeps
  pub io : List ℕ
  -- the bytes from 0x100 to 0x10FF
  pub sram : List ℕ

-- the numbers of each of its three lines
abbrev pub core_of : List ℕ → List ℕ
core_of ns = take CORE_NUMBERS ns

abbrev pub timers_of : List ℕ → List ℕ
timers_of ns = take TIMER_NUMBERS (drop CORE_NUMBERS ns)

abbrev pub ports_of : List ℕ → List ℕ
ports_of ns = drop (CORE_NUMBERS + TIMER_NUMBERS) ns

pub record StateOf : Type 0 where
  pub cycle : ℕ
  pub nodes : List NodeOf
  -- the sends that may still be heard
  pub sends : List Send

-- a line of numbers, and a line of bytes, of node k
unfoldable pub numbers_line : List ℕ → ℕ → List ℕ → List ℕ
numbers_line word k ns = line_of (word ∷ decimal k ∷ map decimal ns)

unfoldable pub bytes_line : List ℕ → ℕ → List ℕ → List ℕ
bytes_line word k bytes = line_of (word ∷ decimal k ∷ encode_upper bytes ∷ [])

-- the lines of node k
unfoldable pub node_lines : ℕ → NodeOf → List (List ℕ)
node_lines k n =
    numbers_line (codes "core") k (core_of n.numbers)
    ∷ numbers_line (codes "timers") k (timers_of n.numbers)
    ∷ numbers_line (codes "ports") k (ports_of n.numbers)
    ∷ bytes_line (codes "io") k n.io
    ∷ bytes_line (codes "sram") k n.sram
    ∷ []

-- the lines of nodes from node k on
abbrev pub nodes_lines : ℕ → List NodeOf → List (List ℕ)
nodes_lines k [] = []
nodes_lines k (n ∷ ns) = node_lines k n ++ nodes_lines (k + 1) ns

unfoldable pub send_line : Send → List ℕ
send_line x = line_of (codes "send" ∷ decimal x.node ∷ decimal x.cycle ∷ encode_upper (x.byte ∷ []) ∷ [])

unfoldable pub cycle_line : ℕ → List ℕ
cycle_line cycle = line_of (codes "cycle" ∷ decimal cycle ∷ [])

abbrev pub title : List ℕ
title = codes "avrora state 1"

-- the lines behind the nodes
abbrev pub tail_lines : List Send → List (List ℕ)
tail_lines sends = map send_line sends ++ codes "end" ∷ []

unfoldable pub state_lines : StateOf → List (List ℕ)
state_lines st = title ∷ cycle_line st.cycle ∷ (nodes_lines 0 st.nodes ++ tail_lines st.sends)

unfoldable pub state_text : StateOf → List ℕ
state_text st = flat_map ended (state_lines st)
