use Rattle.std.proofs.Common.{refl}
use Rattle.fleet_flight.specs.Shadows.{ear_of}
use Rattle.fleet_flight.specs.declared.shadow.Shadow.{Shadow}
use Rattle.fleet_flight.proofs.Following.{goes_rest, rest_shadow, turn_goes}
use Rattle.fleet_flight.proofs.shadow.turn.Goals as goal

pub step-requires-clause-shadow : goal.step-requires-clause-shadow
step-requires-clause-shadow c =
    let v : Shadow = c.args.shadow.now in
    let w : Shadow = record { node = c.rest.new.node; number = v.number; places = v.places; sights = v.sights; last = v.last } in
    let e = c.rest.ensures in
    rest_shadow (ear_of c.args.topo.now c.args.log.now.sends v.number) v w c.args.changes.now.items c.requires.shadow e.rests e.only refl refl e.rows refl refl

pub returns-then-cycle-end-clause-goes : goal.returns-then-cycle-end-clause-goes
returns-then-cycle-end-clause-goes c =
    let v : Shadow = c.args.shadow.now in
    let w : Shadow = record { node = c.rest.new.node; number = v.number; places = v.places; sights = v.sights; last = v.last } in
    let e = c.rest.ensures in
    turn_goes (ear_of c.args.topo.now c.args.log.now.sends v.number) v w c.step.new.shadow c.args.changes.now.items c.step.new.changes.items c.requires.shadow e.rests e.only refl refl c.in_ok-step.ensures.cycle c.in_ok-step.ensures.goes

pub returns-clause-goes : goal.returns-clause-goes
returns-clause-goes c =
    let v : Shadow = c.args.shadow.now in
    let w : Shadow = record { node = c.rest.new.node; number = v.number; places = v.places; sights = v.sights; last = v.last } in
    let e = c.rest.ensures in
    goes_rest (ear_of c.args.topo.now c.args.log.now.sends v.number) v w c.args.changes.now.items c.requires.shadow e.rests e.only refl refl

pub returns-clause-shadow : goal.returns-clause-shadow
returns-clause-shadow c =
    let v : Shadow = c.args.shadow.now in
    let w : Shadow = record { node = c.rest.new.node; number = v.number; places = v.places; sights = v.sights; last = v.last } in
    let e = c.rest.ensures in
    rest_shadow (ear_of c.args.topo.now c.args.log.now.sends v.number) v w c.args.changes.now.items c.requires.shadow e.rests e.only refl refl e.rows refl refl
