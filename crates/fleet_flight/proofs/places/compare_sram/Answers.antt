use Rattle.std.proofs.Common.{◌≡◌, ℕ, List, subst}
use Rattle.std.specs.Prelude.{slice_index}
use Rattle.fleet_flight.specs.declared.sights.Sights.{Sights}
use Rattle.fleet_flight.proofs.Quiet.{still_compared}
use Rattle.fleet_flight.proofs.places.compare_sram.Goals as goal

pub returns-then-is_still : goal.returns-then-is_still
returns-then-is_still c = λ xs cs.
    (let g : Sights = c.args.sights.now in
    let u = c.args.node.now.state in
    still_compared c.args.places.now xs c.args.begun c.args.cycle u cs c.args.last.now.items c.args.changes.now.items g c.requires.grouped
    (λ j f l.
    subst (λ (ys : List ℕ). slice_index ys j ≡ slice_index u.sram (slice_index g.keys.items j)) c.deref-2.ensures.value
    (subst (λ (ks : List ℕ). slice_index c.deref-2.result.now j ≡ slice_index u.sram (slice_index ks j)) c.deref.ensures.value (c.is_still.ensures c.if-is_still.true j f l))))
