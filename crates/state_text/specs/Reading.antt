-- What a text says, line by line, or its first faulty line: one that is missing, that stands behind `end`, that has not
-- the form of its place, or that has it and breaks a bound.
use Rattle.std.specs.Prelude.{◌≡◌, ℕ, zero, suc, ◌+◌, ◌^◌, ◌==◌, ◌&&◌, nat_lt, Bool, true, if◌then◌else◌, List, [], ◌∷◌, ◌++◌, length, map, slice_index, codes, decimal, Option, Some, None, Result, Ok, Err}
use Rattle.std.specs.List.{list_all, list_any}
use Rattle.std.specs.Str.{bytes_eq}
use Rattle.hex.specs.Hex.{decode_sized}
use Rattle.hex.specs.declared.error.FromHexError.{FromHexError}
use Rattle.device_base.specs.declared.numbers.TheConstants.{CORE_NUMBERS, PORT_NUMBERS, TIMER_NUMBERS}
use Rattle.data_space.specs.declared.regions.TheConstants.{IO_COUNT, SRAM_LEN}
use Rattle.world_core.specs.Topology.{Topology}
use Rattle.air_base.specs.declared.air.Send.{Send}
use Rattle.state_text.specs.declared.fault.StateFault.{StateFault}
use Rattle.state_text.specs.declared.fault.StateFault.TheVariants as fault
use Rattle.state_text.specs.Parts.{parts_of, pieces_of, is_decimal, value, is_lower}
use Rattle.state_text.specs.Text.{NodeOf, StateOf, title}
use Rattle.state_text.specs.Bounds.{Rules, is_cut, kept_behind}

infixl 10 ◌>>=◌
abbrev pub ◌>>=◌ : {A B : Type 0} → Result A StateFault → (A → Result B StateFault) → Result B StateFault
(Ok x) >>= f = f x
(Err e) >>= f = Err e

-- What a function returned, seen by view, is what reading gives, unless memory ran out.
abbrev pub Fails : {Y : Type 0} → StateFault → Result Y StateFault → Type 0
Fails (fault.NotAState line) read = read ≡ Err (fault.NotAState line)
Fails (fault.OutOfBounds line) read = read ≡ Err (fault.OutOfBounds line)
Fails fault.PastEnd read = read ≡ Err fault.PastEnd
Fails fault.NoMemory read = Unit {0}

abbrev pub Gives : {X Y : Type 0} → (X → Y) → Result X StateFault → Result Y StateFault → Type 0
Gives view (Ok x) read = read ≡ Ok (view x)
Gives view (Err e) read = Fails e read

-- the number of the next line, from 1, and what stands between the LFs from there on
pub record Place : Type 0 where
  pub number : ℕ
  pub pieces : List (List ℕ)

abbrev pub place : ℕ → List (List ℕ) → Place
place number pieces = record { number = number; pieces = pieces }

-- the fault of a line that has not the form of its place, and of one that breaks a bound, in line 2 that of the cycle
abbrev pub no_form : {X : Type 0} → ℕ → Result X StateFault
no_form number = Err (fault.NotAState number)

abbrev pub out_of_bounds : ℕ → StateFault
out_of_bounds number = if number == 2 then fault.PastEnd else fault.OutOfBounds number

-- the next line, which ends with LF, and the place behind it
abbrev pub line_in : ℕ → List (List ℕ) → Result (List ℕ × Place) StateFault
line_in number [] = no_form number
line_in number (last ∷ []) = no_form number
line_in number (line ∷ more ∷ pieces) = Ok (line, place (number + 1) (more ∷ pieces))

abbrev pub next_line : Place → Result (List ℕ × Place) StateFault
next_line at = line_in at.number at.pieces

-- a value that keeps its bound
abbrev pub bounded : {X : Type 0} → ℕ → Bool → X → Result X StateFault
bounded number holds x = if holds then Ok x else Err (out_of_bounds number)

-- a value of the right form
abbrev pub formed : {X : Type 0} → ℕ → Bool → X → Result X StateFault
formed number holds x = if holds then Ok x else no_form number

-- a number of 64 bits
abbrev pub fits_word : List ℕ → Bool
fits_word part = nat_lt (value part) (2 ^ 64)

-- so many numbers, one in each part
unfoldable pub numbers_in : ℕ → ℕ → List (List ℕ) → Result (List ℕ) StateFault
numbers_in number count parts =
    if length parts == count && list_all is_decimal parts then bounded number (list_all fits_word parts) (map value parts) else no_form number

abbrev pub decoded : ℕ → Result (List ℕ) FromHexError → Result (List ℕ) StateFault
decoded number (Ok bytes) = Ok bytes
decoded number (Err e) = no_form number

-- so many bytes
unfoldable pub bytes_in : ℕ → ℕ → List ℕ → Result (List ℕ) StateFault
bytes_in number count part = if list_any is_lower part then no_form number else decoded number (decode_sized part count)

-- so many bytes, in the only part
unfoldable pub only_bytes : ℕ → ℕ → List (List ℕ) → Result (List ℕ) StateFault
only_bytes number count [] = no_form number
only_bytes number count (part ∷ []) = bytes_in number count part
only_bytes number count (part ∷ other ∷ parts) = no_form number

-- the parts behind a word
unfoldable pub behind_word : ℕ → List ℕ → List (List ℕ) → Result (List (List ℕ)) StateFault
behind_word number word [] = no_form number
behind_word number word (w ∷ parts) = formed number (bytes_eq w word) parts

-- the parts behind a word and the number of a node
unfoldable pub behind_node : ℕ → List ℕ → ℕ → List ℕ → Result (List (List ℕ)) StateFault
behind_node number word k line = do
  parts ← behind_word number word (parts_of line)
  behind_word number (decimal k) parts

-- the title
unfoldable pub title_at : Place → Result Place StateFault
title_at at = do
  line ← next_line at
  formed at.number (bytes_eq line.0 title) line.1

abbrev pub one_number : List ℕ → ℕ
one_number ns = slice_index ns 0

-- the cycle
unfoldable pub cycle_at : Topology → Place → Result (ℕ × Place) StateFault
cycle_at t at = do
  line ← next_line at
  parts ← behind_word at.number (codes "cycle") (parts_of line.0)
  ns ← numbers_in at.number 1 parts
  bounded at.number (is_cut t (one_number ns)) (one_number ns, line.1)

-- a line of so many numbers of node k, within their bounds
unfoldable pub numbers_at : (List ℕ → Bool) → List ℕ → ℕ → ℕ → Place → Result (List ℕ × Place) StateFault
numbers_at within word k count at = do
  line ← next_line at
  parts ← behind_node at.number word k line.0
  ns ← numbers_in at.number count parts
  bounded at.number (within ns) (ns, line.1)

-- a line of bytes of node k
unfoldable pub bytes_at : (List ℕ → Bool) → List ℕ → ℕ → ℕ → Place → Result (List ℕ × Place) StateFault
bytes_at readable word k count at = do
  line ← next_line at
  parts ← behind_node at.number word k line.0
  bytes ← only_bytes at.number count parts
  bounded at.number (readable bytes) (bytes, line.1)

-- the five lines of node k
unfoldable pub node_at : Rules → ℕ → ℕ → Place → Result (NodeOf × Place) StateFault
node_at r cycle k at = do
  core ← numbers_at r.node.core (codes "core") k CORE_NUMBERS at
  timers ← numbers_at r.node.timers (codes "timers") k TIMER_NUMBERS core.1
  ports ← numbers_at (r.node.ports cycle core.0) (codes "ports") k PORT_NUMBERS timers.1
  io ← bytes_at r.node.io (codes "io") k IO_COUNT ports.1
  sram ← bytes_at (λ bytes. true) (codes "sram") k SRAM_LEN io.1
  Ok (record { numbers = core.0 ++ timers.0 ++ ports.0; io = io.0; sram = sram.0 }, sram.1)

-- so many nodes, from node k on
unfoldable pub nodes_at : Rules → ℕ → ℕ → ℕ → Place → Result (List NodeOf × Place) StateFault
nodes_at r cycle k zero at = Ok ([], at)
nodes_at r cycle k (suc count) at = do
  first ← node_at r cycle k at
  others ← nodes_at r cycle (k + 1) count first.1
  Ok (first.0 ∷ others.0, others.1)

-- the only three parts
abbrev pub three_of : List (List ℕ) → Option (List ℕ × List ℕ × List ℕ)
three_of [] = None
three_of (a ∷ []) = None
three_of (a ∷ b ∷ []) = None
three_of (a ∷ b ∷ c ∷ []) = Some (a, b, c)
three_of (a ∷ b ∷ c ∷ d ∷ parts) = None

abbrev pub send : ℕ → ℕ → List ℕ → Send
send node cycle bytes = record { node = node; cycle = cycle; byte = slice_index bytes 0 }

-- a send that keeps its bounds
abbrev pub if_kept : Topology → ℕ → Option Send → Send → Option Send
if_kept t cycle before x = if kept_behind t cycle before x then Some x else None

abbrev pub some_or_out : ℕ → Option Send → Result Send StateFault
some_or_out number None = Err (out_of_bounds number)
some_or_out number (Some x) = Ok x

-- the send of the parts behind a line's word: its node, its cycle and its byte
unfoldable pub send_in : Topology → ℕ → Option Send → ℕ → Option (List ℕ × List ℕ × List ℕ) → Result Send StateFault
send_in t cycle before number None = no_form number
send_in t cycle before number (Some x) =
    if is_decimal x.0 && is_decimal x.1
    then (bytes_in number 1 x.2 >>= λ bytes. some_or_out number (if_kept t cycle before (send (value x.0) (value x.1) bytes)))
    else no_form number

unfoldable pub send_of : Topology → ℕ → Option Send → ℕ → List ℕ → Result Send StateFault
send_of t cycle before number line = do
  parts ← behind_word number (codes "send") (parts_of line)
  send_in t cycle before number (three_of parts)

-- nothing stands behind `end`
abbrev pub over : ℕ → List (List ℕ) → Result (List Send) StateFault
over number ([] ∷ []) = Ok []
over number pieces = no_form number

-- the sends up to `end`, behind another one
unfoldable pub sends_in : Topology → ℕ → Option Send → ℕ → List (List ℕ) → Result (List Send) StateFault
sends_in t cycle before number [] = no_form number
sends_in t cycle before number (last ∷ []) = no_form number
sends_in t cycle before number (line ∷ more ∷ pieces) =
    if bytes_eq line (codes "end") then over (number + 1) (more ∷ pieces)
    else (send_of t cycle before number line >>= λ x. sends_in t cycle (Some x) (number + 1) (more ∷ pieces) >>= λ xs. Ok (x ∷ xs))

-- the state that a text says, or the fault of its first faulty line
unfoldable pub state_of : Rules → List ℕ → Result StateOf StateFault
state_of r text = do
  start ← title_at (place 1 (pieces_of text))
  cycle ← cycle_at r.topo start
  nodes ← nodes_at r cycle.0 0 r.topo.nodes cycle.1
  sends ← sends_in r.topo cycle.0 None nodes.1.number nodes.1.pieces
  Ok (record { cycle = cycle.0; nodes = nodes.0; sends = sends })
