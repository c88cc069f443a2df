use Rattle.std.proofs.Common.{◌≡◌, ℕ, ◌<◌, ◌≤◌, false, List, length, subst, arith}
use Rattle.std.specs.Prelude.{slice_index}
use Rattle.fleet_flight.specs.Watched.{is_at}
use Rattle.fleet_flight.specs.declared.sights.Sights.{Sights}
use Rattle.fleet_flight.proofs.Quiet.{none_compared}
use Rattle.fleet_flight.proofs.places.compare_begun.Goals as goal

pub returns-then-begins_none : goal.returns-then-begins_none
returns-then-begins_none c = λ xs cs.
    (let g : Sights = c.args.sights.now in
    let none = subst (λ (ks : List ℕ). (j : ℕ) → g.at ≤ j → j < length ks → is_at c.args.begun (slice_index ks j) ≡ false) c.deref.ensures.value (c.begins_none.ensures c.if-begins_none.true) in
    let count = c.requires.grouped.count in
    none_compared c.args.places.now xs c.args.begun c.args.cycle c.args.node.now.state cs c.args.last.now.items c.args.changes.now.items g c.requires.grouped c.requires.none
    (λ j f l. none j f (omega (arith, l, count))))
