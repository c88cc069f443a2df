-- What contracts see of the clock words and of the seats, and what each call makes of a seat. Own to this simulator.
use Rattle.std.specs.Prelude.{◌≡◌, ℕ, ◌+◌, ◌<◌, Bool, true, false, List, [], ◌∷◌, ◌++◌, length, slice_index_or, slice_set, replicate, if◌then◌else◌}
use Rattle.atomic_table.specs.Seated.{TableId}
use Rattle.world_core.specs.declared.world.WorldFacts.{WorldFacts}
use Rattle.world_core.specs.Posted.{sent_of}

-- which table the words are, and whose clocks they are
pub record ClocksFacts : Type 0 where
  pub table : TableId
  pub world : WorldFacts

-- The air's seat: how many sends of each node are posted, and each clock that it loaded, with its node, in order.
pub record AirFacts : Type 0 where
  pub table : TableId
  pub world : WorldFacts
  pub sent : List ℕ
  pub loads : List (ℕ × ℕ)

-- A node's seat: the node, the clock that it stored last, how many of its sends it saw to be posted, each clock that it
-- loaded, with its node, and each value of the halt that it loaded, in order, and whether it has stored the halt.
pub record NodeFacts : Type 0 where
  pub table : TableId
  pub world : WorldFacts
  pub number : ℕ
  pub clock : ℕ
  pub told : ℕ
  pub loads : List (ℕ × ℕ)
  pub halts : List ℕ
  pub stopped : Bool

-- the seats at first
abbrev pub first_air : TableId → WorldFacts → AirFacts
first_air z w = record { table = z; world = w; sent = replicate w.topo.nodes 0; loads = [] }

abbrev pub first_node : TableId → WorldFacts → ℕ → NodeFacts
first_node z w k = record { table = z; world = w; number = k; clock = 0; told = 0; loads = []; halts = []; stopped = false }

-- one seat for each node of the world, in the order of their numbers
abbrev pub AreFirstNodes : TableId → WorldFacts → List NodeFacts → Type 0
AreFirstNodes z w xs = (length xs ≡ w.topo.nodes) × ((k : ℕ) (d : NodeFacts) → k < length xs → slice_index_or xs k d ≡ first_node z w k)

-- the clock of node k was loaded, and was c
abbrev pub air_loaded : AirFacts → ℕ → ℕ → AirFacts
air_loaded a k c = record a { loads = a.loads ++ (k, c) ∷ [] }

-- one more send of node k is posted
abbrev pub air_counted : AirFacts → ℕ → AirFacts
air_counted a k = record a { sent = slice_set a.sent k (sent_of a.sent k + 1) }

abbrev pub node_peeked : NodeFacts → ℕ → ℕ → NodeFacts
node_peeked n k c = record n { loads = n.loads ++ (k, c) ∷ [] }

abbrev pub node_raised : NodeFacts → ℕ → NodeFacts
node_raised n c = record n { clock = c }

abbrev pub node_told : NodeFacts → ℕ → NodeFacts
node_told n count = record n { told = count }

abbrev pub node_stopped : NodeFacts → NodeFacts
node_stopped n = record n { stopped = true }

-- the halt was loaded, and was 1 or 0
abbrev pub node_asked : NodeFacts → Bool → NodeFacts
node_asked n halted = record n { halts = n.halts ++ (if halted then 1 else 0) ∷ [] }
