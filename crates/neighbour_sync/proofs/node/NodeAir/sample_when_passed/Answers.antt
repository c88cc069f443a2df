use Rattle.std.proofs.Common.{◌∷◌, [], ◌++◌, ◌∙◌, ap, sym, subst, Result, Ok, Err}
use Rattle.std.specs.List.{Contains}
use Rattle.neighbour_sync.specs.Seats.{NodeFacts}
use Rattle.neighbour_sync.specs.declared.answers.Behind.{Behind}
use Rattle.neighbour_sync.specs.declared.answers.SampleOutcome.{SampleOutcome}
use Rattle.neighbour_sync.specs.Tries.{IsTried}
use Rattle.neighbour_sync.proofs.Trying.{waits_on, waits_over}
use Rattle.neighbour_sync.proofs.node.NodeAir.sample_when_passed.Goals as goal

pub try_sample-requires : goal.try_sample-requires
try_sample-requires g c =
    let same = c.loop.invariant.tries.2 in
    record {
      session = (ap (λ (n : NodeFacts). n.table) same ∙ c.requires.session.0, ap (λ (n : NodeFacts). n.world) same ∙ c.requires.session.1);
      asked = subst (λ (n : NodeFacts). Contains g.N.Session.world.asks record { node = n.number; cycle = c.args.cycle }) (sym same) c.requires.asked;
      floor = c.requires.floor;
    }

pub loop-preserved : goal.loop-preserved
loop-preserved g c =
    let before = c.loop.invariant.tries in
    let b = c.in-Err.behind in
    let tried : IsTried g.N.Session.world c.loop.self c.args.cycle (Err b) c.try_sample.new.self = subst (λ (r : Result SampleOutcome Behind). IsTried g.N.Session.world c.loop.self c.args.cycle r c.try_sample.new.self) c.in-Err.is c.try_sample.ensures in
    let load = tried.1 in record {
      next = tt;
      finite = tt;
      tries = waits_on c.args.self.now c.loop.self c.sleep.new.self before.0 before.1 (load.0 ++ (b.node, b.clock) ∷ []) before.2 (c.sleep.ensures ∙ load.1);
    }

pub returns-in-Ok : goal.returns-in-Ok
returns-in-Ok g c =
    let w = g.N.Session.world in
    let before = c.loop.invariant.tries in
    let r = c.in-Ok.outcome in
    let tried : IsTried w c.loop.self c.args.cycle (Ok r) c.try_sample.new.self = subst (λ (r : Result SampleOutcome Behind). IsTried w c.loop.self c.args.cycle r c.try_sample.new.self) c.in-Ok.is c.try_sample.ensures in
    waits_over w c.args.cycle c.args.self.now c.loop.self c.try_sample.new.self before.0 before.1 before.2 r tried
