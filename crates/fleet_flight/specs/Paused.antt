-- All nodes of a run at one cycle, and the record of the sends that may still be heard. These are words of contracts.
use Rattle.std.specs.Prelude.{◌≡◌, ◌⊎◌, ℕ, ◌<◌, ◌≤◌, true, false, List, [], ◌∷◌, length, slice_index_or}
use Rattle.std.specs.List.{All, filter}
use Rattle.air_base.specs.declared.air.Send.{Send}
use Rattle.world_core.specs.Chain.{Rises}
use Rattle.world_core.specs.Kept.{is_kept}
use Rattle.air_base.specs.NodeKind.{NodeKind}
use Rattle.air_base.specs.NodeRun.{Timed}
use Rattle.world_core.specs.Order.{Fleet, node_at, rows_between, world_at}
use Rattle.world_core.specs.Sends.{sends_of}
use Rattle.node_core.specs.declared.row.Row.{Row}
use Rattle.node_core.specs.State.{NodeState}
use Rattle.node_core.specs.Cycle.{end_row}
use Rattle.air_base.specs.Each.{each_below}
use Rattle.fleet_flight.specs.Origin.{Origin}
use Rattle.air_base.specs.declared.bounds.TheConstants.{MOST_NODES}

-- node k of a list
abbrev pub node_in : {S R : Type 0} → List (Timed S R) → ℕ → Timed S R → Timed S R
node_in vs k d = slice_index_or vs k d

-- it has come to the cycle `end`, or stopped before
pub record HasRun {S R : Type 0} (m : NodeKind S R) (end : ℕ) (w : Timed S R) : Type 0 where
  pub within : w.cycle ≤ end
  pub over : (m.is_stopped w.state ≡ true) ⊎ (w.cycle ≡ end)

-- node k has come to cycle c, or stopped before it, and has its rows from the cycle `since` on
pub record AtRest {S R : Type 0} (f : Fleet S R) (since c k : ℕ) (v : Timed S R) : Type 0 where
  pub calm : v.asking ≡ false
  pub has : HasRun f.kind c v
  pub state : v.state ≡ node_at f k c
  pub rows : v.rows ≡ rows_between f k since c

-- of each node's sends below the cycle c that are not over at the cycle `hold` the record has all, in order
abbrev pub IsHeld : {S R : Type 0} → Fleet S R → ℕ → ℕ → List Send → Type 0
IsHeld f hold c xs = (k : ℕ) → sends_of k (filter (is_kept f.topo hold) xs) ≡ sends_of k (filter (is_kept f.topo hold) (world_at f c).sends)

-- so have all nodes; of each node's sends the record has in order those that are kept
pub record IsPaused {S R : Type 0} (f : Fleet S R) (since c : ℕ) (vs : List (Timed S R)) (xs : List Send) : Type 0 where
  pub begun : f.start ≤ since
  pub later : since ≤ c
  pub count : length vs ≡ f.topo.nodes
  pub nodes : (k : ℕ) (d : Timed S R) → k < f.topo.nodes → AtRest f since c k (node_in vs k d)
  pub kept : IsHeld f c c xs
  pub inside : All (λ x. (x.node < f.topo.nodes) × (x.cycle < c)) xs
  pub rises : Rises xs

-- the rows are taken from all nodes
pub record AreTaken {S R : Type 0} (vs ws : List (Timed S R)) : Type 0 where
  pub count : length ws ≡ length vs
  pub nodes : (k : ℕ) (d : Timed S R) → k < length vs → node_in ws k d ≡ record (node_in vs k d) { rows = [] }

-- the rows of the first n nodes, one node's after another's
abbrev pub rows_of : {S R : Type 0} → ℕ → List (Timed S R) → Timed S R → List R
rows_of n vs d = each_below n (λ k. (node_in vs k d).rows)

-- the last rows of the first n nodes
abbrev pub ends_of : ℕ → ℕ → List (Timed NodeState Row) → Timed NodeState Row → List Row
ends_of limit n vs d = each_below n (λ k. end_row limit (node_in vs k d).state ∷ [])

-- the first n nodes, as they are where the run begins
pub record HaveBegun (o : Origin) (n : ℕ) (vs : List (Timed NodeState Row)) : Type 0 where
  pub count : length vs ≡ n
  pub nodes : (k : ℕ) (d : Timed NodeState Row) → k < n → node_in vs k d ≡ record { cycle = o.cycle; asking = false; state = o.states k; rows = [] }

-- a record of these sends takes one of node k of the cycle c or later
pub record CanPost (k c : ℕ) (xs : List Send) : Type 0 where
  pub nodes : All (λ x. x.node < MOST_NODES) xs
  pub rises : Rises xs
  pub behind : All (λ x. x.node ≡ k → x.cycle < c) xs
