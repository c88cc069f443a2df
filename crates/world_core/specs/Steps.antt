-- The steps of clocks, sends and samples: where each is allowed and what it does. Own to this simulator.
use Rattle.std.specs.Prelude.{◌≡◌, ℕ, ◌+◌, ◌-◌, ◌≤◌, ◌<◌, true, nat_le, [], ◌∷◌, ◌++◌, length, take, drop, slice_set, replicate}
use Rattle.std.specs.List.{Contains, filter}
use Rattle.world_core.specs.declared.world.WorldFacts.{WorldFacts}
use Rattle.world_core.specs.Topology.{is_needed, latency_of}
use Rattle.world_core.specs.Heard.{heard}
use Rattle.world_core.specs.Sends.{sends_of, sends_below}
use Rattle.world_core.specs.Posted.{sent_of}
use Rattle.world_core.specs.Kept.{is_kept, IsPostedTo}
use Rattle.world_core.specs.Consistent.{AirState, clock_of}

-- before the first step: all clocks and counts are 0, and the record is empty
abbrev pub opening : WorldFacts → AirState
opening w = record { world = w; clocks = replicate w.topo.nodes 0; sent = replicate w.topo.nodes 0; floor = 0; sends = []; samples = [] }

-- Node k raises its clock to the cycle c. No clock falls or passes the limit, and all sends below it are posted.
pub record MayRaise (a : AirState) (k c : ℕ) : Type 0 where
  pub node : k < a.world.topo.nodes
  pub rises : clock_of a.clocks k ≤ c
  pub within : c ≤ a.world.topo.limit
  pub posted : sends_below a.world.sends k c ≤ sent_of a.sent k

abbrev pub after_raise : AirState → ℕ → ℕ → AirState
after_raise a k c = record a { clocks = slice_set a.clocks k c }

-- Node k posts its next send, where it has one.
abbrev pub MayPost : AirState → ℕ → Type 0
MayPost a k = sent_of a.sent k < length (sends_of k a.world.sends)

abbrev pub after_post : AirState → ℕ → AirState
after_post a k = record a {
  sent = slice_set a.sent k (sent_of a.sent k + 1);
  sends = a.sends ++ take 1 (drop (sent_of a.sent k) (sends_of k a.world.sends));
}

-- every node that node j could hear in cycle s has a clock past the last cycle whose sends it could hear
abbrev pub AllPassed : AirState → ℕ → ℕ → Type 0
AllPassed a j s = (k : ℕ) → is_needed a.world.topo k j s ≡ true → s - latency_of a.world.topo k j < clock_of a.clocks k

-- Node j samples in cycle s, one of the world's samples and not below the floor, and hears what the recorded sends
-- give.
pub record MaySample (a : AirState) (j s : ℕ) : Type 0 where
  pub asked : Contains a.world.asks (record { node = j; cycle = s })
  pub kept : a.floor ≤ s
  pub passed : AllPassed a j s

abbrev pub after_sample : AirState → ℕ → ℕ → AirState
after_sample a j s = record a { samples = a.samples ++ (record { node = j; cycle = s }, heard a.world.topo a.sends j s) ∷ [] }

-- The record is cut up to the cycle f: all sends below it are posted.
pub record MayCut (a : AirState) (f : ℕ) : Type 0 where
  pub rises : a.floor ≤ f
  pub within : f ≤ a.world.topo.limit
  pub posted : IsPostedTo a.world f a.sent

-- the sends that are over at f, which nobody can hear from there on, and the samples below f, are gone
abbrev pub after_cut : AirState → ℕ → AirState
after_cut a f = record a { floor = f; sends = filter (is_kept a.world.topo f) a.sends; samples = filter (λ x. nat_le f x.0.cycle) a.samples }
