use Rattle.std.proofs.Common.{◌≡◌, ℕ, [], ◌∷◌, ◌++◌, sym, ◌∙◌, ap, subst}
use Rattle.std.specs.List.{Contains}
use Rattle.air_base.specs.declared.air.Sampled.{Sampled}
use Rattle.world_core.specs.Settled.{truth}
use Rattle.neighbour_sync.specs.Seats.{NodeFacts}
use Rattle.neighbour_sync.specs.Told.{IsTold}
use Rattle.neighbour_sync.proofs.Seeing.{look_peek}
use Rattle.neighbour_sync.proofs.Trying.{come_again, far_enough}
use Rattle.neighbour_sync.proofs.steps.try_once.Goals as goal

pub first_behind-requires : goal.first_behind-requires
first_behind-requires g c =
    let same = c.loop.invariant.looks.1 in
    record {
      table = ap (λ (n : NodeFacts). n.table) same ∙ c.requires.session.0 ∙ sym c.clocks-clocks.ensures;
      topo = c.requires.topo ∙ sym (ap (λ (n : NodeFacts). n.world.topo) same);
    }

pub sample-requires : goal.sample-requires
sample-requires g c = record {
  asked = subst (λ (n : ℕ). Contains g.N.Session.world.asks record { node = n; cycle = c.args.cycle }) (sym c.number-node.ensures) c.requires.asked;
  floor = c.requires.floor;
}

pub loop-preserved : goal.loop-preserved
loop-preserved g c =
    let before = c.loop.invariant.looks in
    let seen = c.in_default.ensures.none in
    record {
      next = tt;
      finite = tt;
      looks = (before.0 ++ seen.0, look_peek c.args.seat.now c.loop.seat c.first_behind.new.seat before.0 seen.0 (0 ∷ []) before.1 seen.1);
    }

pub returns-in-Some-first_behind : goal.returns-in-Some-first_behind
returns-in-Some-first_behind g c =
    let before = c.loop.invariant.looks in
    let b = c.in-Some-first_behind.behind in
    let load = c.in-Some-first_behind.ensures.load in
    come_again g.N.Session.world c.args.cycle c.args.seat.now c.loop.seat c.first_behind.new.seat before.0 load.0 b.node b.clock c.requires.session.1 before.1 c.in-Some-first_behind.ensures.some load.1

pub returns-in-Heard : goal.returns-in-Heard
returns-in-Heard g c =
    let w = g.N.Session.world in
    let before = c.loop.invariant.looks in
    let seen = c.in_default.ensures.none in
    let told : c.in-Heard.heard ≡ truth w c.number-node.result c.args.cycle = subst (λ (r : Sampled). IsTold w c.number-node.result c.args.cycle r) c.in-Heard.is c.sample.ensures in (
      told ∙ ap (λ (n : ℕ). truth w n c.args.cycle) c.number-node.ensures,
      far_enough w c.args.cycle c.args.seat.now c.loop.seat c.first_behind.new.seat before.0 seen.0 c.requires.session.1 before.1 seen.2 seen.1,
    )

pub returns-in-NoMemory : goal.returns-in-NoMemory
returns-in-NoMemory g c =
    let before = c.loop.invariant.looks in
    let seen = c.in_default.ensures.none in
    far_enough g.N.Session.world c.args.cycle c.args.seat.now c.loop.seat c.first_behind.new.seat before.0 seen.0 c.requires.session.1 before.1 seen.2 seen.1
