use Rattle.std.proofs.Common.{◌≡◌, ℕ, ◌<◌, length, vec_len, List, sym, ap, ◌∙◌, refl, subst, arith, rules}
use Rattle.std.specs.List.{Contains}
use Rattle.air_base.specs.declared.air.Sampled.{Sampled}
use Rattle.air_base.specs.declared.air.Sampled.TheVariants.{Heard, NoMemory}
use Rattle.air_base.specs.declared.air.Heard.{Heard as HeardValue}
use Rattle.world_core.specs.Topology.{Topology}
use Rattle.world_core.specs.Heard.{heard}
use Rattle.world_core.specs.Settled.{truth}
use Rattle.world_core.specs.Consistent.{AirState, clock_of}
use Rattle.world_core.specs.Steps.{AllPassed, MaySample, after_sample}
use Rattle.sync_core.specs.declared.machine.Core.TheInside.{Inside}
use Rattle.sync_core.specs.Sampling.{IsSampled, IsFirstBehind}
use Rattle.sync_core.proofs.Inductive.{count_at, pushed, pushed_keeps, same_keeps, sample_right, with_samples}
use Rattle.sync_core.proofs.Waiting.{all_passed}
use Rattle.sync_core.proofs.machine.Core.sample.Given
use Rattle.sync_core.proofs.machine.Core.sample.Goals as goal
use Rattle.sync_core.proofs.machine.Core.sample.Goals.{in-Ok, in-Err}

abbrev before : (g : Given.Over) → Inside g.row.W.Denot → AirState
before g s = record { world = g.W.World.facts s.world; clocks = s.clocks.items; sent = s.sent.items; floor = 0; sends = s.log.sends; samples = s.samples.items }

is_sampled : (a old : AirState) (j s : ℕ) (r : Sampled) (h : HeardValue) (new : AirState) → a ≡ old → r ≡ Heard h → AllPassed a j s → new ≡ after_sample a j s → h ≡ truth a.world j s → IsSampled old j s r new
is_sampled a old j s r h new e f p n t = subst (λ (o : AirState). IsSampled o j s r new) e (subst (λ (v : Sampled). IsSampled a j s v new) (sym f) (p, n, t))

is_none : (a old : AirState) (j s : ℕ) (r : Sampled) (new : AirState) → a ≡ old → r ≡ NoMemory → AllPassed a j s → new ≡ a → IsSampled old j s r new
is_none a old j s r new e f p n = subst (λ (o : AirState). IsSampled o j s r new) e (subst (λ (v : Sampled). IsSampled a j s v new) (sym f) (p, n))

passed : (g : Given.Over) (c : goal.Joined-push g) → AllPassed (before g c.self.inside) c.args.node c.args.cycle
passed g c = all_passed (before g c.self.inside) c.args.node c.args.cycle (rw (c.topo-topo.ensures.same, c.deref.ensures.value) at c.in_default.ensures.first)

may : (g : Given.Over) (c : goal.Joined-push g) → MaySample (before g c.self.inside) c.args.node c.args.cycle
may g c = record {
  asked = subst (λ (a : AirState). Contains a.world.asks record { node = c.args.node; cycle = c.args.cycle }) (sym c.self.view_is) c.requires;
  kept = omega arith;
  passed = passed g c;
}

heard_is : (g : Given.Over) (c : goal.Joined-push g) → c.heard-heard.result ≡ heard (before g c.self.inside).world.topo (before g c.self.inside).sends c.args.node c.args.cycle
heard_is g c = c.heard-heard.ensures ∙ ap (λ (t : Topology). heard t c.self.inside.log.sends c.args.node c.args.cycle) c.topo-topo.ensures.same

pub index-requires : goal.index-requires
index-requires g c =
    let e : vec_len c.self.inside.clocks ≡ length c.self.inside.clocks.items = search rules in
    let k = c.in-Some.ensures.inside in
    let n = c.self.invariant.0.nodes in
    let t = ap (λ (t : Topology). t.nodes) c.topo-topo.ensures.same in
    let f = c.from.ensures in
    omega arith

pub returns-in-Some-clause-step : goal.returns-in-Some-clause-step
returns-in-Some-clause-step g c =
    let k = c.in-Some.behind in
    let old = before g c.self.inside in
    let lt : k < length old.clocks = let n = c.self.invariant.0.nodes in let t = ap (λ (t : Topology). t.nodes) c.topo-topo.ensures.same in let h = c.in-Some.ensures.inside in omega arith in
    let topo = c.topo-topo.ensures.same ∙ ap (λ (a : AirState). a.world.topo) c.self.view_is in
    let clocks = c.deref.ensures.value ∙ ap (λ (a : AirState). a.clocks) c.self.view_is in
    let first = subst (λ (p : Topology × List ℕ). IsFirstBehind p.0 p.1 c.args.node c.args.cycle k) (λ i. (topo i, clocks i)) c.in-Some.ensures.first in
    (first, count_at old.clocks c.from.result k c.index.result.now c.from.ensures lt c.index.ensures ∙ ap (λ (a : AirState). clock_of a.clocks k) c.self.view_is, refl)

pub invariant_of-self : goal.invariant_of-self
invariant_of-self g c = elim c.match-push.branch [
  | in-Ok w ↦ (pushed_keeps (before g c.self.inside) c.args.node c.args.cycle c.heard-heard.result c.push.new.self.items c.self.invariant.0 (may g c) (heard_is g c) w.in-Ok.ensures.items, c.self.invariant.1)
  | in-Err w ↦ (same_keeps (before g c.self.inside) c.push.new.self.items c.self.invariant.0 w.in-Err.ensures.items, c.self.invariant.1)
]

pub returns-clause-consistent : goal.returns-clause-consistent
returns-clause-consistent g c = elim c.match-push.branch [
  | in-Ok w ↦ pushed_keeps (before g c.self.inside) c.args.node c.args.cycle c.heard-heard.result c.push.new.self.items c.self.invariant.0 (may g c) (heard_is g c) w.in-Ok.ensures.items
  | in-Err w ↦ same_keeps (before g c.self.inside) c.push.new.self.items c.self.invariant.0 w.in-Err.ensures.items
]

pub returns-clause-step : goal.returns-clause-step
returns-clause-step g c =
    let a = before g c.self.inside in elim c.match-push.branch [
      | in-Ok w ↦ is_sampled a c.args.self.now c.args.node c.args.cycle c.match-push.result c.heard-heard.result (with_samples a c.push.new.self.items) c.self.view_is w.result-is (passed g c)
          (pushed a c.args.node c.args.cycle c.heard-heard.result c.push.new.self.items (heard_is g c) w.in-Ok.ensures.items)
          (heard_is g c ∙ sample_right a c.args.node c.args.cycle c.self.invariant.0 (omega arith) (passed g c))
      | in-Err w ↦ is_none a c.args.self.now c.args.node c.args.cycle c.match-push.result (with_samples a c.push.new.self.items) c.self.view_is w.result-is (passed g c) (ap (with_samples a) w.in-Err.ensures.items)
    ]
