-- What the walk back along a node's sends meets. Own to this simulator.
use Rattle.std.specs.Prelude.{◌≡◌, ℕ, ◌+◌, ◌-◌, ◌<◌, List, [], ◌∷◌}
use Rattle.air_base.specs.declared.air.Send.{Send}
use Rattle.air_base.specs.declared.air.Heard.{Heard}
use Rattle.world_core.specs.Topology.{Topology, latency_of}
use Rattle.world_core.specs.HeardMore.{heard_with}
use Rattle.world_core.specs.Chain.{send_at}

-- what is heard with more sends, the last one first
abbrev pub heard_over : (Send → ℕ) → Heard → List Send → Heard
heard_over age h [] = h
heard_over age h (x ∷ xs) = heard_with age (heard_over age h xs) x

-- at this place, counted from 1, stands a send of node k that node j does not hear yet in cycle s
pub record IsYoung (t : Topology) (sends : List Send) (k j s place : ℕ) : Type 0 where
  pub some : 0 < place
  pub own : (send_at sends (place - 1)).node ≡ k
  pub young : s < (send_at sends (place - 1)).cycle + latency_of t k j
