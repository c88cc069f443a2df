use Rattle.std.proofs.Common.{ℕ, ◌++◌, List, refl, ap, ◌∙◌}
use Rattle.air_base.specs.NodeRun.{Timed}
use Rattle.node_core.specs.State.{NodeState}
use Rattle.node_core.specs.declared.row.Row.{Row}
use Rattle.node_places.specs.declared.Change.{Change}
use Rattle.node_places.specs.declared.Place.{Place}
use Rattle.fleet_flight.specs.Shadows.{ear_of, seen_of_all}
use Rattle.fleet_flight.specs.Watched.{seen_by}
use Rattle.fleet_flight.specs.declared.shadow.Shadow.{Shadow}
use Rattle.fleet_flight.proofs.Following.{goes_one, seen_all}
use Rattle.fleet_flight.proofs.shadow.step.Goals as goal

pub returns-clause-goes : goal.returns-clause-goes
returns-clause-goes c =
    let v : Shadow = c.args.shadow.now in
    let w : Shadow = record { node = c.forget_rows.new.node; number = v.number; places = v.places; sights = v.sights; last = c.compare.new.last } in
    let left = ap (λ (z : Timed NodeState Row). z.state) c.forget_rows.ensures in
    let seen = c.in_ok-compare.ensures.seen
    ∙ ap (λ (l : List Place). c.args.changes.now.items ++ seen_of_all l v.last.items c.begun-begun.result c.cycle-cycle.result c.forget_rows.new.node.state) c.deref.ensures.value
    ∙ ap (λ (l : List Change). c.args.changes.now.items ++ l)
    (seen_all v.places.items v.last.items c.begun-begun.result c.cycle-cycle.result v.node.state c.forget_rows.new.node.state c.requires.shadow.bytes c.begun-begun.ensures) in
    goes_one (ear_of c.args.topo.now c.args.log.now.sends v.number) v w c.args.changes.now.items c.compare.new.changes.items (left ∙ c.in_ok-one_cycle.ensures.state)
    (seen ∙ ap (λ (t : ℕ). c.args.changes.now.items ++ seen_by v.places.items t v.node.state c.forget_rows.new.node.state) c.cycle-cycle.ensures) refl refl
