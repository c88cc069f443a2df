-- One node of the global order, at the beginning of a cycle or in the middle of one that samples. Own to this
-- simulator.
use Rattle.std.specs.Prelude.{◌≡◌, ℕ, ◌<◌, ◌≤◌, Bool, true, if◌then◌else◌, List, [], ◌++◌}
use Rattle.air_base.specs.NodeRun.{Timed, IsQuiet}
use Rattle.world_core.specs.Order.{Fleet, node_at, rows_between}

abbrev pub state_of : {S R : Type 0} → Fleet S R → ℕ → ℕ → Bool → S
state_of f k c asking = if asking then f.kind.begun c (node_at f k c) else node_at f k c

-- the rows of node k from cycle a on and below cycle c, and those that a cycle made before its sample
abbrev pub rows_shown : {S R : Type 0} → Fleet S R → ℕ → ℕ → ℕ → Bool → List R
rows_shown f k a c asking = rows_between f k a c ++ (if asking then f.kind.begun_rows c (node_at f k c) else [])

-- node k of the order is at v, where its rows were taken last at the beginning of cycle `since`
pub record Stands {S R : Type 0} (f : Fleet S R) (k since : ℕ) (v : Timed S R) : Type 0 where
  pub begun : f.start ≤ since
  pub taken : since ≤ v.cycle
  pub within : v.cycle ≤ f.topo.limit
  pub asks : v.asking ≡ true → (v.cycle < f.topo.limit) × (f.kind.asks v.cycle (node_at f k v.cycle) ≡ true)
  pub state : v.state ≡ state_of f k v.cycle v.asking
  pub rows : v.rows ≡ rows_shown f k since v.cycle v.asking

-- node k neither samples nor sends from cycle a on and below cycle b
abbrev pub QuietBetween : {S R : Type 0} → Fleet S R → ℕ → ℕ → ℕ → Type 0
QuietBetween f k a b = (t : ℕ) → a ≤ t → t < b → IsQuiet f.kind t (node_at f k t)
