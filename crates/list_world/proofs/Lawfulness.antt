-- A world's laws are what its lists keep entry by entry.
use Rattle.air_base.specs.declared.air.Send.{Send}
use Rattle.air_base.specs.declared.air.Ask.{Ask}
use Rattle.world_core.specs.declared.world.WorldFacts.{WorldFacts}
use Rattle.world_core.specs.FirstFault.{AllKeep}
use Rattle.world_core.specs.Topology.{IsTopology}
use Rattle.world_core.specs.Lawful.{IsLawful, IsNextSend, IsNextAsk}
use Rattle.list_world.proofs.NextEntry.{inside_all, apart_all, keep_all}

pub lawful_from : (w : WorldFacts) → IsTopology w.topo → AllKeep (IsNextSend w.topo) w.sends → AllKeep (IsNextAsk w.topo) w.asks → IsLawful w
lawful_from w topo sends asks = record {
  topo = topo;
  sends_in = inside_all (λ (x : Send). x.node) (λ x. x.cycle) w.topo w.topo.byte_time w.sends sends;
  asks_in = inside_all (λ (x : Ask). x.node) (λ x. x.cycle) w.topo 1 w.asks asks;
  sends_apart = λ k. apart_all (λ (x : Send). x.node) (λ x. x.cycle) w.topo w.topo.byte_time w.sends k sends;
  asks_rise = λ k. apart_all (λ (x : Ask). x.node) (λ x. x.cycle) w.topo 1 w.asks k asks;
}

pub sends_keep : (w : WorldFacts) → IsLawful w → AllKeep (IsNextSend w.topo) w.sends
sends_keep w law = keep_all (λ (x : Send). x.node) (λ x. x.cycle) w.topo w.topo.byte_time w.sends law.sends_in law.sends_apart

pub asks_keep : (w : WorldFacts) → IsLawful w → AllKeep (IsNextAsk w.topo) w.asks
asks_keep w law = keep_all (λ (x : Ask). x.node) (λ x. x.cycle) w.topo 1 w.asks law.asks_in law.asks_rise
