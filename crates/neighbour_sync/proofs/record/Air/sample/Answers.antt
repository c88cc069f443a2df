use Rattle.std.proofs.Common.{◌≡◌, List, ◌≤◌, [], ◌∷◌, ◌++◌, sym, ◌∙◌, ap, subst}
use Rattle.std.specs.List.{Contains}
use Rattle.air_base.specs.declared.air.Ask.{Ask}
use Rattle.air_base.specs.declared.air.Heard.{Heard}
use Rattle.world_core.specs.Settled.{truth}
use Rattle.neighbour_sync.specs.Seats.{AirFacts}
use Rattle.neighbour_sync.specs.declared.record.Air.TheInside.{Inside}
use Rattle.neighbour_sync.specs.Loads.{looked}
use Rattle.neighbour_sync.specs.Looks.{AreSeenPast}
use Rattle.neighbour_sync.specs.Record.{AirRecord, with_loads, with_sample}
use Rattle.neighbour_sync.specs.Held.{record_of}
use Rattle.neighbour_sync.proofs.Keeps.{held_looked, held_sampled, sample_true}
use Rattle.neighbour_sync.proofs.record.Air.sample.Goals as goal

abbrev before : Inside → AirRecord
before s = record_of s.seat s.floor s.log.sends s.samples.items

pub invariant_of-self-2 : goal.invariant_of-self-2
invariant_of-self-2 g c =
    let f = c.self.inside in
    let asked : Contains f.seat.world.asks record { node = c.args.node; cycle = c.args.cycle } = subst (λ (r : AirRecord). Contains r.world.asks record { node = c.args.node; cycle = c.args.cycle }) (sym c.self.view_is) c.requires.asked in
    let late : f.floor ≤ c.args.cycle = subst (λ (r : AirRecord). r.floor ≤ c.args.cycle) (sym c.self.view_is) c.requires.floor in
    let looks = c.in_default.ensures.looks in
    let pushed : c.push_reserved.new.self.items ≡ f.samples.items ++ (record { node = c.args.node; cycle = c.args.cycle }, c.heard-heard.result) ∷ [] = c.push_reserved.ensures.items ∙ ap (λ (l : List (Ask × Heard)). l ++ (record { node = c.args.node; cycle = c.args.cycle }, c.heard-heard.result) ∷ []) c.reserve.ensures.items in
    held_looked f.seat c.first_behind.new.seat f.topo f.log f.floor c.push_reserved.new.self.items looks.0
    (held_sampled f.seat f.topo f.log f.floor f.samples.items c.push_reserved.new.self.items c.args.node c.args.cycle c.heard-heard.result c.self.invariant asked late c.in_default.ensures.none c.heard-heard.ensures pushed)
    looks.1

pub returns-clause-step : goal.returns-clause-step
returns-clause-step g c =
    let f = c.self.inside in
    let late : f.floor ≤ c.args.cycle = subst (λ (r : AirRecord). r.floor ≤ c.args.cycle) (sym c.self.view_is) c.requires.floor in
    let looks = c.in_default.ensures.looks in
    let pushed : c.push_reserved.new.self.items ≡ f.samples.items ++ (record { node = c.args.node; cycle = c.args.cycle }, c.heard-heard.result) ∷ [] = c.push_reserved.ensures.items ∙ ap (λ (l : List (Ask × Heard)). l ++ (record { node = c.args.node; cycle = c.args.cycle }, c.heard-heard.result) ∷ []) c.reserve.ensures.items in
    let right : c.heard-heard.result ≡ truth f.seat.world c.args.node c.args.cycle = sample_true f.seat f.topo f.log f.floor f.samples.items c.args.node c.args.cycle c.heard-heard.result c.self.invariant late c.in_default.ensures.none c.heard-heard.ensures in
    let new = ap (λ (a : AirFacts). record_of a f.floor f.log.sends c.push_reserved.new.self.items) looks.1
    ∙ ap (λ (l : List (Ask × Heard)). record_of (looked f.seat looks.0) f.floor f.log.sends l) pushed
    ∙ ap (λ (r : AirRecord). with_sample (with_loads r looks.0) c.args.node c.args.cycle c.heard-heard.result) c.self.view_is in (
      looks.0,
      record {
        right = right ∙ ap (λ (r : AirRecord). truth r.world c.args.node c.args.cycle) c.self.view_is;
        past = subst (λ (r : AirRecord). AreSeenPast r.world c.args.node c.args.cycle looks.0) c.self.view_is looks.2;
        recorded = new;
      },
    )
