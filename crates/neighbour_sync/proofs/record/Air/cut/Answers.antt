use Rattle.std.proofs.Common.{◌≡◌, ℕ, ◌≤◌, List, sym, ◌∙◌, ap, subst}
use Rattle.std.specs.List.{filter}
use Rattle.air_base.specs.declared.air.Send.{Send}
use Rattle.world_core.specs.Topology.{Topology}
use Rattle.world_core.specs.Kept.{is_kept}
use Rattle.world_core.specs.Chain.{LogFacts}
use Rattle.neighbour_sync.specs.Seats.{AirFacts}
use Rattle.neighbour_sync.specs.declared.record.Air.TheInside.{Inside}
use Rattle.neighbour_sync.specs.Loads.{looked, AreReached}
use Rattle.neighbour_sync.specs.Record.{AirRecord, with_loads, cut_at}
use Rattle.neighbour_sync.specs.Held.{record_of}
use Rattle.neighbour_sync.proofs.Keeps.{held_looked, held_cut}
use Rattle.neighbour_sync.proofs.record.Air.cut.Goals as goal

abbrev before : Inside → AirRecord
before s = record_of s.seat s.floor s.log.sends s.samples.items

pub invariant_of-self-2 : goal.invariant_of-self-2
invariant_of-self-2 g c =
    let f = c.self.inside in
    let rises : f.floor ≤ c.args.floor = subst (λ (r : AirRecord). r.floor ≤ c.args.floor) (sym c.self.view_is) c.requires.rises in
    let within : c.args.floor ≤ f.seat.world.topo.limit = subst (λ (r : AirRecord). c.args.floor ≤ r.world.topo.limit) (sym c.self.view_is) c.requires.within in
    let looks = c.in_default.ensures.looks in
    held_looked f.seat c.first_below.new.seat f.topo c.cut.new.self c.args.floor c.drop_below.new.samples.items looks.0
    (held_cut f.seat f.topo f.log c.cut.new.self f.floor c.args.floor f.samples.items c.drop_below.new.samples.items c.self.invariant rises within c.in_default.ensures.none c.cut.ensures c.drop_below.ensures) looks.2

pub returns-clause-cut : goal.returns-clause-cut
returns-clause-cut g c =
    let f = c.self.inside in
    let looks = c.in_default.ensures.looks in
    let nodes : f.topo.nodes ≡ c.args.self.now.world.topo.nodes = ap (λ (t : Topology). t.nodes) c.self.invariant.topo ∙ ap (λ (r : AirRecord). r.world.topo.nodes) c.self.view_is in
    let sends : c.cut.new.self.sends ≡ filter (is_kept f.seat.world.topo c.args.floor) f.log.sends = ap (λ (l : LogFacts). l.sends) c.cut.ensures ∙ ap (λ (t : Topology). filter (is_kept t c.args.floor) f.log.sends) c.self.invariant.topo in
    let new = ap (λ (a : AirFacts). record_of a c.args.floor c.cut.new.self.sends c.drop_below.new.samples.items) looks.2
    ∙ ap (λ (l : List Send). record_of (looked f.seat looks.0) c.args.floor l c.drop_below.new.samples.items) sends
    ∙ ap (λ l. record_of (looked f.seat looks.0) c.args.floor (filter (is_kept f.seat.world.topo c.args.floor) f.log.sends) l) c.drop_below.ensures
    ∙ ap (λ (r : AirRecord). cut_at (with_loads r looks.0) c.args.floor) c.self.view_is in
    (looks.0, subst (λ (n : ℕ). AreReached n c.args.floor looks.0) nodes looks.1, new)
