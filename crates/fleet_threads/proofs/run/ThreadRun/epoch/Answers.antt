use Rattle.std.proofs.Common.{◌≡◌, ℕ, ◌+◌, ◌++◌, Option, IfSome, min, refl, sym, subst, ap, ◌∙◌, arith}
use Rattle.world_core.specs.Kept.{epoch}
use Rattle.node_runner.specs.Scenario.{ScenarioOf, fleet_of}
use Rattle.node_runner.specs.Run.{RunAt}
use Rattle.fleet_flight.specs.Rows.{rows_upto}
use Rattle.fleet_threads.specs.declared.parts.Parts.{Parts}
use Rattle.fleet_threads.specs.Run.{IsTied}
use Rattle.fleet_threads.proofs.run.ThreadRun.epoch.Goals as goal

pub invariant_of-self-2 : goal.invariant_of-self-2
invariant_of-self-2 g c =
    let i = c.self.inside in
    let sc : ScenarioOf = c.args.scenario.now in
    let same : sc ≡ i.scenario.value = c.requires.same ∙ ap (λ (r : RunAt). r.scenario) (sym c.self.view_is) in
    let e : c.min-end.result ≡ min (i.floor + epoch) i.limit = c.min-end.ensures in
    record {
      scenario = c.self.invariant.scenario;
      limit = c.self.invariant.limit;
      within = omega arith;
      tied = subst (λ (s : ScenarioOf). IsTied s c.min-end.result c.min-end.result c.in_ok-passed.passed.parts) same c.in_ok-passed.ensures.tied;
    }

pub invariant_of-self : goal.invariant_of-self
invariant_of-self g c = record {
  scenario = c.self.invariant.scenario;
  limit = c.self.invariant.limit;
  within = c.self.invariant.within;
  tied = subst (λ (o : Option Parts). IfSome o (IsTied c.self.inside.scenario.value c.self.inside.floor c.self.inside.floor)) (sym c.take.ensures.after) tt;
}

pub through-requires-clause-epoch : goal.through-requires-clause-epoch
through-requires-clause-epoch g c κs within =
    let i = c.self.inside in
    let sc : ScenarioOf = c.args.scenario.now in
    let same : sc ≡ i.scenario.value = c.requires.same ∙ ap (λ (r : RunAt). r.scenario) (sym c.self.view_is) in
    let lim : i.limit ≡ sc.topo.limit = c.self.invariant.limit ∙ ap (λ (s : ScenarioOf). s.topo.limit) (sym same) in
    let below = c.self.invariant.within in
    let e : c.min-end.result ≡ min (i.floor + epoch) i.limit = c.min-end.ensures in
    record { sound = c.lawful_topo-lawful.ensures.sound; world = refl; rises = omega arith; span = omega arith; within = omega arith }

pub returns-clause-rows : goal.returns-clause-rows
returns-clause-rows g c =
    subst (λ (n : ℕ). rows_upto (fleet_of c.args.scenario.now) c.min-end.result ≡ rows_upto (fleet_of c.args.scenario.now) n ++ c.in_ok-passed.passed.rows.items) (ap (λ (r : RunAt). r.floor) c.self.view_is) c.in_ok-passed.ensures.rows

pub returns-clause-scenario : goal.returns-clause-scenario
returns-clause-scenario g c = ap (λ (r : RunAt). r.scenario) c.self.view_is

pub returns-clause-after : goal.returns-clause-after
returns-clause-after g c =
    let view = c.self.view_is in
    let limit = c.self.invariant.limit ∙ ap (λ (r : RunAt). r.scenario.topo.limit) view in
    let end = c.min-end.ensures ∙ (λ j. min (ap (λ (r : RunAt). r.floor) view j + epoch) (limit j)) in
    λ j. record { scenario = ap (λ (r : RunAt). r.scenario) view j; floor = end j; failed = sym c.requires.sound j }
