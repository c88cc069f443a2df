-- The laws of a world of the air, and the first entry of a list that breaks one. Own to this simulator.
use Rattle.std.specs.Prelude.{ℕ, ◌+◌, ◌≤◌, List}
use Rattle.std.specs.List.{All, AllPairs}
use Rattle.air_base.specs.declared.air.Send.{Send}
use Rattle.air_base.specs.declared.air.Ask.{Ask}
use Rattle.world_core.specs.declared.world.WorldFacts.{WorldFacts}
use Rattle.world_core.specs.declared.faults.WorldFault.{WorldFault}
use Rattle.world_core.specs.declared.faults.WorldFault.TheVariants.{SendOrder, AskOrder}
use Rattle.world_core.specs.FirstFault.{AllKeep, IsFirstFault}
use Rattle.world_core.specs.Topology.{Topology, IsTopology, IsInside}
use Rattle.world_core.specs.Sends.{sends_of, asks_of}

-- the sends of each node lie at least the byte time apart, its samples rise, and all of them lie inside
pub record IsLawful (w : WorldFacts) : Type 0 where
  pub topo : IsTopology w.topo
  pub sends_in : All (λ x. IsInside w.topo x.node x.cycle) w.sends
  pub asks_in : All (λ x. IsInside w.topo x.node x.cycle) w.asks
  pub sends_apart : (k : ℕ) → AllPairs (λ x y. x.cycle + w.topo.byte_time ≤ y.cycle) (sends_of k w.sends)
  pub asks_rise : (k : ℕ) → AllPairs (λ x y. x.cycle + 1 ≤ y.cycle) (asks_of k w.asks)

-- the send x may stand behind these
abbrev pub IsNextSend : Topology → List Send → Send → Type 0
IsNextSend t before x = IsInside t x.node x.cycle × All (λ y. y.cycle + t.byte_time ≤ x.cycle) (sends_of x.node before)

-- the sample x may stand behind these
abbrev pub IsNextAsk : Topology → List Ask → Ask → Type 0
IsNextAsk t before x = IsInside t x.node x.cycle × All (λ y. y.cycle + 1 ≤ x.cycle) (asks_of x.node before)

-- why these lists are no world's: the first send at fault, and where there is none the first sample
abbrev pub IsWorldFault : WorldFacts → WorldFault → Type 0
IsWorldFault w (SendOrder p) = IsFirstFault (IsNextSend w.topo) w.sends p
IsWorldFault w (AskOrder p) = AllKeep (IsNextSend w.topo) w.sends × IsFirstFault (IsNextAsk w.topo) w.asks p
