use Rattle.std.proofs.Common.{◌≤◌, [], ◌∷◌, ◌++◌, ap, subst, arith}
use native.Mathlib.Decide.{ℕ_discrete}
use Rattle.world_core.specs.Topology.{Topology}
use Rattle.world_core.specs.Sends.{sends_below}
use Rattle.world_core.specs.Posted.{sent_of}
use Rattle.neighbour_sync.specs.Seats.{AirFacts}
use Rattle.neighbour_sync.proofs.Reached.{look_more, reached_next, one_more, all_posted}
use Rattle.neighbour_sync.proofs.loading.first_below.Goals as goal

pub loop-node-preserved : goal.loop-node-preserved
loop-node-preserved g c =
    let old = c.args.seat.now in
    let n = c.loop-node.node in
    let clock = c.load_clock-clock.result in
    let l = c.loop-node.invariant.looks in
    let le : c.args.floor ≤ clock = omega (arith, c.if-clock-floor.false) in
    let below : sends_below old.world.sends n clock ≤ sent_of old.sent n = subst (λ (a : AirFacts). sends_below a.world.sends n clock ≤ sent_of a.sent n) l.2 c.load_clock-clock.ensures.counted in record {
      looks = (l.0 ++ (n, clock) ∷ [], reached_next n c.args.floor clock l.0 l.1 le, look_more old c.loop-node.seat c.load_clock-clock.new.seat l.0 ((n, clock) ∷ []) l.2 c.load_clock-clock.ensures.seat);
      posted = λ k lt. one_more old.world old.sent n c.args.floor clock k c.loop-node.invariant.posted below le lt (ℕ_discrete k n);
    }

pub returns-clause-none : goal.returns-clause-none
returns-clause-none g c =
    let old = c.args.seat.now in
    all_posted old.world old.sent c.args.floor c.requires.lawful
    (λ k lt. c.loop-node.invariant.posted k (let e = lt in omega (arith, c.loop-node-test.false, c.nodes-node-end.ensures.value, ap (λ (t : Topology). t.nodes) c.requires.topo)))
