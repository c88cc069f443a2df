-- Nodes that run by themselves behind the others, to be watched. These are words of contracts, and no part of what is
-- seen.
use Rattle.std.specs.Prelude.{◌≡◌, ℕ, suc, ◌+◌, ◌-◌, ◌<◌, ◌≤◌, false, Option, List, [], ◌++◌, length, map, slice_index, slice_index_or}
use Rattle.std.specs.List.{All}
use Rattle.air_base.specs.Each.{each_below}
use Rattle.air_base.specs.NodeKind.{ticked}
use Rattle.air_base.specs.NodeRun.{Timed}
use Rattle.air_base.specs.declared.air.Heard.{Heard}
use Rattle.air_base.specs.declared.air.Send.{Send}
use Rattle.data_space.specs.declared.regions.TheConstants.{SRAM_LAST, SRAM_LEN, SRAM_START}
use Rattle.node_core.specs.Cycle.{node_kind}
use Rattle.node_core.specs.State.{NodeState}
use Rattle.node_core.specs.declared.row.Row.{Row}
use Rattle.node_places.specs.declared.Spot.{Spot}
use Rattle.node_places.specs.declared.Spot.TheVariants as spot
use Rattle.node_places.specs.declared.Place.{Place}
use Rattle.node_places.specs.declared.Change.{Change}
use Rattle.world_core.specs.Heard.{heard}
use Rattle.world_core.specs.Order.{Fleet, node_at}
use Rattle.world_core.specs.Topology.{Topology}
use Rattle.fleet_flight.specs.Alone.{alone}
use Rattle.fleet_flight.specs.Origin.{Origin, flown}
use Rattle.fleet_flight.specs.Paused.{HasRun, IsPaused}
use Rattle.fleet_flight.specs.Watched.{Group, byte_of, no_place, seen_by, seen_from}
use Rattle.fleet_flight.specs.declared.shadow.Shadow.{Shadow}
use Rattle.fleet_flight.specs.declared.sights.Sights.{Sights}

-- a byte's address is one of the data space
abbrev pub IsSpot : Spot → Type 0
IsSpot (spot.Byte at) = at ≤ SRAM_LAST
IsSpot (spot.At at) = Unit {0}

-- what is looked at of each place before a cycle that begins in state s
pub record AreBytes (ps : List Place) (s : NodeState) (xs : List ℕ) : Type 0 where
  pub count : length xs ≡ length ps
  pub each : (j : ℕ) → j < length ps → slice_index xs j ≡ byte_of (slice_index_or ps j no_place).spot s

-- what is seen in cycle t at places where this was looked at before it, and the instruction at this address begins, if one
-- does: the first n of them
abbrev pub seen_first : ℕ → List Place → List ℕ → Option ℕ → ℕ → NodeState → List Change
seen_first n ps xs begun t u = each_below n (λ j. seen_from (slice_index_or ps j no_place).spot t (slice_index_or ps j no_place).node (slice_index xs j) begun u)

abbrev pub seen_of_all : List Place → List ℕ → Option ℕ → ℕ → NodeState → List Change
seen_of_all ps xs begun t u = seen_first (length ps) ps xs begun t u

-- the first n of these places are compared in such a cycle: what is seen of them stands behind the changes cs, and of them
-- what is looked at is as it is then, of the others as it was
pub record Compared (ps : List Place) (xs : List ℕ) (begun : Option ℕ) (t : ℕ) (u : NodeState) (cs : List Change) (n : ℕ) (ys : List ℕ) (ds : List Change) : Type 0 where
  pub count : length ys ≡ length ps
  pub changes : ds ≡ cs ++ seen_first n ps xs begun t u
  pub done : (j : ℕ) → j < n → slice_index ys j ≡ byte_of (slice_index_or ps j no_place).spot u
  pub left : (j : ℕ) → n ≤ j → slice_index ys j ≡ slice_index xs j

-- where a place stands in the SRAM, or in the flash
abbrev pub key_of : Spot → ℕ
key_of (spot.Byte at) = at - SRAM_START
key_of (spot.At at) = at

-- this byte of the SRAM; the instruction at this address
abbrev pub IsOfSram : Spot → ℕ → Type 0
IsOfSram x key = (x ≡ spot.Byte (SRAM_START + key)) × (key < SRAM_LEN)

abbrev pub IsInstruction : Spot → ℕ → Type 0
IsInstruction x key = x ≡ spot.At key

-- which places are bytes of the SRAM, and which instructions
pub record AreGrouped (ps : List Place) (g : Sights) : Type 0 where
  pub count : length g.keys.items ≡ length ps
  pub order : g.sram ≤ g.at
  pub within : g.at ≤ length ps
  pub bytes : (j : ℕ) → g.sram ≤ j → j < g.at → IsOfSram (slice_index_or ps j no_place).spot (slice_index g.keys.items j)
  pub instructions : (j : ℕ) → g.at ≤ j → j < length ps → IsInstruction (slice_index_or ps j no_place).spot (slice_index g.keys.items j)

-- what node k hears in each cycle, by a record of sends
abbrev pub ear_of : Topology → List Send → ℕ → ℕ → Heard
ear_of t xs k c = heard t xs k c

-- what is seen of the places in n cycles from cycle t on, of a node that hears so
abbrev pub seen_along : (ℕ → Heard) → List Place → ℕ → ℕ → NodeState → List Change
seen_along h ps t n s = each_below n (λ i. seen_by ps (t + i) (alone node_kind h t i s) (alone node_kind h t (suc i) s))

-- a node at v made its next cycle, in which it hears this, and is at w
pub record Ticks (v : Timed NodeState Row) (h : Heard) (w : Timed NodeState Row) : Type 0 where
  pub cycle : w.cycle ≡ v.cycle + 1
  pub calm : w.asking ≡ false
  pub state : w.state ≡ ticked node_kind v.cycle v.state h

-- a shadow between two cycles
pub record IsShadow (v : Shadow) : Type 0 where
  pub calm : v.node.asking ≡ false
  pub rows : v.node.rows ≡ []
  pub bytes : AreBytes v.places.items v.node.state v.last.items
  pub grouped : AreGrouped v.places.items v.sights
  pub spots : All (λ p. IsSpot p.spot) v.places.items

-- it went n cycles on from cycle t, v and the changes cs, to w and the changes ds
pub record Goes (h : ℕ → Heard) (t n : ℕ) (v : Shadow) (cs : List Change) (w : Shadow) (ds : List Change) : Type 0 where
  pub state : w.node.state ≡ alone node_kind h t n v.node.state
  pub changes : ds ≡ cs ++ seen_along h v.places.items t n v.node.state
  pub number : w.number ≡ v.number
  pub places : w.places ≡ v.places

-- the shadow of a node of the run f at cycle c
pub record IsBehind (f : Fleet NodeState Row) (c : ℕ) (v : Shadow) : Type 0 where
  pub shadow : IsShadow v
  pub has : HasRun node_kind c v.node
  pub state : v.node.state ≡ node_at f v.number c
  pub number : v.number < f.topo.nodes

abbrev pub group_of : Shadow → Group
group_of v = record { node = v.number; places = v.places.items }

abbrev pub groups_of : List Shadow → List Group
groups_of vs = map group_of vs

-- a node in the cycle reached, that can be copied
pub record IsStill (v : Timed NodeState Row) : Type 0 where
  pub calm : v.asking ≡ false
  pub rows : v.rows ≡ []
  pub sram : length v.state.sram ≡ SRAM_LEN

-- the shadow of one of these nodes, with which nothing was done yet
pub record IsNew (vs : List (Timed NodeState Row)) (v : Shadow) : Type 0 where
  pub shadow : IsShadow v
  pub within : v.number < length vs
  pub node : (d : Timed NodeState Row) → v.node ≡ slice_index_or vs v.number d

-- the SRAM of each node has its size in the moment in which a run begins
abbrev pub AreSized : Origin → Type 0
AreSized o = (k : ℕ) → k < o.topo.nodes → length (o.states k).sram ≡ SRAM_LEN

-- a run at cycle c whose nodes are watched
pub record IsWatching (o : Origin) (c : ℕ) (vs : List (Timed NodeState Row)) (xs : List Send) (watching : List Shadow) : Type 0 where
  pub paused : IsPaused (flown o) c c vs xs
  pub shadows : All (IsBehind (flown o) c) watching
