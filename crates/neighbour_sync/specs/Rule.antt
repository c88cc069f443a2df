-- The rule of the clock words: what holds of the words and of what each seat knows, between any two steps. Own to this
-- simulator.
use Rattle.std.specs.Prelude.{◌≡◌, ℕ, suc, ◌≤◌, ◌<◌, true, false, List, [], length, slice_index, replicate}
use mathlib.Core.Option.{some}
use lib.ListN.{get_elem?}
use Rattle.atomic_table.specs.Table.{State}
use Rattle.world_core.specs.declared.world.WorldFacts.{WorldFacts}
use Rattle.world_core.specs.Sends.{sends_of, sends_below}
use Rattle.world_core.specs.Posted.{sent_of}
use Rattle.neighbour_sync.specs.declared.rule.View.{View}
use Rattle.neighbour_sync.specs.Layout.{clock_at, sent_at, halt_at, word_count}

-- the air's seat: how many nodes have seats, and a number for each node
pub record IsAirView (w : WorldFacts) (v : View) : Type 0 where
  pub is_air : v.is_air ≡ true
  pub world : v.world ≡ w
  pub made : v.made ≤ w.topo.nodes
  pub sent : length v.sent ≡ w.topo.nodes

-- the seat of node k: its clock word is what it stored last, its sent word is no less than what it saw there, and where
-- it has stored the halt the halt is 1
pub record IsNodeView (w : WorldFacts) (words : List ℕ) (k : ℕ) (v : View) : Type 0 where
  pub is_node : v.is_air ≡ false
  pub world : v.world ≡ w
  pub number : v.number ≡ k
  pub clock : slice_index words (clock_at k) ≡ v.clock
  pub told : v.told ≤ slice_index words (sent_at w.topo.nodes k)
  pub stopped : v.stopped ≡ true → slice_index words (halt_at w.topo.nodes) ≡ 1

-- The first seat is the air's. Behind it stand the seats of the nodes 0, 1, .. in order, one each, as many as the air's
-- seat has made. Nothing is said of the want words, and nothing rests on them: they only tell whom to wake.
pub record KeepsRule (w : WorldFacts) (s : State (Unit {0}) View) : Type 0 where
  pub words : length s.words ≡ word_count w.topo.nodes
  pub air : View
  pub first : get_elem? s.views 0 ≡ some air
  pub is_air : IsAirView w air
  pub seats : length s.views ≡ suc air.made
  pub nodes : (k : ℕ) (v : View) → get_elem? s.views (suc k) ≡ some v → IsNodeView w s.words k v
  -- a node that has no seat yet stands at cycle 0
  pub unmade : (k : ℕ) → air.made ≤ k → k < w.topo.nodes → slice_index s.words (clock_at k) ≡ 0
  -- each sent word is what the air's seat says, and no more than the node sends
  pub counts : (k : ℕ) → k < w.topo.nodes → slice_index s.words (sent_at w.topo.nodes k) ≡ sent_of air.sent k
  pub enough : (k : ℕ) → k < w.topo.nodes → sent_of air.sent k ≤ length (sends_of k w.sends)
  -- no clock is past the limit, and none has passed a send that is not posted
  pub within : (k : ℕ) → k < w.topo.nodes → slice_index s.words (clock_at k) ≤ w.topo.limit
  pub passed : (k : ℕ) → k < w.topo.nodes → sends_below w.sends k (slice_index s.words (clock_at k)) ≤ sent_of air.sent k
  pub halt : slice_index s.words (halt_at w.topo.nodes) ≤ 1

-- what the air's seat knows when it has made so many seats of nodes, and no send is posted
abbrev pub air_view : WorldFacts → ℕ → View
air_view w made = record { world = w; loads = []; is_air = true; made = made; sent = replicate w.topo.nodes 0; number = 0; clock = 0; told = 0; halts = []; stopped = false }

-- what the seat of node k knows at first
abbrev pub node_view : WorldFacts → ℕ → View
node_view w k = record { world = w; loads = []; is_air = false; made = 0; sent = []; number = k; clock = 0; told = 0; halts = []; stopped = false }
