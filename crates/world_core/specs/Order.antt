-- The single global order of cycles, over any kind of node, from any moment on. Own to this simulator.
use Rattle.std.specs.Prelude.{ℕ, zero, suc, ◌+◌, ◌-◌, Bool, if◌then◌else◌, Option, Some, None, List, [], ◌∷◌, ◌++◌}
use Rattle.air_base.specs.declared.air.Send.{Send}
use Rattle.air_base.specs.declared.air.Ask.{Ask}
use Rattle.air_base.specs.declared.air.Heard.{Heard}
use Rattle.world_core.specs.declared.world.WorldFacts.{WorldFacts}
use Rattle.air_base.specs.Each.{each_below}
use Rattle.world_core.specs.Topology.{Topology}
use Rattle.world_core.specs.Heard.{heard}
use Rattle.air_base.specs.NodeKind.{NodeKind, ticked, ticked_rows}

-- all nodes of a network, and the moment in which they begin
pub record Fleet (S R : Type 0) : Type 0 where
  pub kind : NodeKind S R
  pub topo : Topology
  -- the first cycle: 0 for a run from reset
  pub start : ℕ
  -- each node's state then, by its number
  pub begins : ℕ → S
  -- the sends of earlier cycles that can still be heard
  pub sent : List Send

-- between two cycles: each node's state by its number, and all that was made so far
pub record Moment (S R : Type 0) : Type 0 where
  pub state : ℕ → S
  pub sends : List Send
  pub asks : List Ask
  pub rows : List R

abbrev pub send_of : ℕ → ℕ → Option ℕ → List Send
send_of t k None = []
send_of t k (Some b) = record { node = k; cycle = t; byte = b } ∷ []

abbrev pub ask_of : ℕ → ℕ → Bool → List Ask
ask_of t k b = if b then record { node = k; cycle = t } ∷ [] else []

-- what node k hears in cycle t: as each latency is at least 1, no send of this cycle
abbrev pub hears : {S R : Type 0} → Fleet S R → ℕ → Moment S R → ℕ → Heard
hears f t w k = heard f.topo w.sends k t

-- each node makes its cycle t, in order of number
abbrev pub stepped : {S R : Type 0} → Fleet S R → ℕ → Moment S R → Moment S R
stepped f t w = record {
  state = λ k. ticked f.kind t (w.state k) (hears f t w k);
  sends = w.sends ++ each_below f.topo.nodes (λ k. send_of t k (f.kind.sends t (w.state k)));
  asks = w.asks ++ each_below f.topo.nodes (λ k. ask_of t k (f.kind.asks t (w.state k)));
  rows = w.rows ++ each_below f.topo.nodes (λ k. ticked_rows f.kind t (w.state k) (hears f t w k));
}

-- the world after n cycles
unfoldable pub world_after : {S R : Type 0} → Fleet S R → ℕ → Moment S R
world_after f zero = record { state = f.begins; sends = f.sent; asks = []; rows = [] }
world_after f (suc n) = stepped f (f.start + n) (world_after f n)

-- the world at the beginning of cycle c
abbrev pub world_at : {S R : Type 0} → Fleet S R → ℕ → Moment S R
world_at f c = world_after f (c - f.start)

-- the air of the whole run
abbrev pub facts_of : {S R : Type 0} → Fleet S R → WorldFacts
facts_of f = record { topo = f.topo; sends = (world_at f f.topo.limit).sends; asks = (world_at f f.topo.limit).asks }

-- one node by itself: its state at the beginning of cycle c, and the rows of that cycle
abbrev pub node_at : {S R : Type 0} → Fleet S R → ℕ → ℕ → S
node_at f k c = (world_at f c).state k

abbrev pub rows_in : {S R : Type 0} → Fleet S R → ℕ → ℕ → List R
rows_in f k c = ticked_rows f.kind c (node_at f k c) (hears f c (world_at f c) k)

-- the rows of node k from cycle a on and below cycle b
abbrev pub rows_between : {S R : Type 0} → Fleet S R → ℕ → ℕ → ℕ → List R
rows_between f k a b = each_below (b - a) (λ i. rows_in f k (a + i))

-- one last row a node
abbrev pub end_rows : {S R : Type 0} → Fleet S R → List R
end_rows f = each_below f.topo.nodes (λ k. f.kind.end_row f.topo.limit (node_at f k f.topo.limit) ∷ [])

-- the rows of the whole run: cycle by cycle, node by node, in the order in which they are made; then the last rows
abbrev pub run_rows : {S R : Type 0} → Fleet S R → List R
run_rows f = (world_at f f.topo.limit).rows ++ end_rows f

-- the nodes of a fleet, begun again in the moment w at the beginning of cycle c
abbrev pub resumed : {S R : Type 0} → Fleet S R → ℕ → Moment S R → Fleet S R
resumed f c w = record f { start = c; begins = w.state; sent = w.sends }
