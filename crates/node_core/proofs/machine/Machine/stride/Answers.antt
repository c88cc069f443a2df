use Rattle.std.proofs.Common.{ℕ, ◌+◌, is_some, refl, add-zero, sym, subst, ap, arith}
use Rattle.air_base.proofs.QuietCycles.{comes_none}
use Rattle.node_core.specs.Cycle.{node_kind}
use Rattle.node_core.specs.Pace.Midway.{IsMidway}
use Rattle.node_core.specs.Shown.{shown}
use Rattle.node_core.proofs.Acts.{one_more, one_row}
use Rattle.node_core.proofs.Sprints.{silent}
use Rattle.node_core.proofs.Striding.{ends, goes_on, inside_midway, inside_room, may_act, silent_on, timed}
use Rattle.node_core.proofs.machine.Machine.stride.Goals as goal

pub loop-cycle-init : goal.loop-cycle-init
loop-cycle-init c = record {
  from = omega arith;
  within = omega arith;
  comes = comes_none node_kind (timed c.args.cycle c.args.self.now);
  going = c.requires.going;
  free = omega (arith, c.if-self-gt0.false);
  awake = c.if-self.false;
  clock = c.requires.now;
  script = refl;
  count = c.requires.few;
  room = c.requires.room;
}

pub returns-then-self-gt0-clause-midway : goal.returns-then-self-gt0-clause-midway
returns-then-self-gt0-clause-midway c =
    let t : ℕ = c.args.cycle in
    let v = timed t c.args.self.now in
    let u = shown c.idle.new.self in
    let k = c.idle.new.self.rows.items in
    let here : IsMidway v t u k = record { state = v.state; rows = v.rows; comes = comes_none node_kind v; going = ap is_some c.requires.going; part = c.idle.ensures.state; told = c.idle.ensures.rows } in
    subst (λ (at : ℕ). IsMidway v at u k) (sym (add-zero t)) here

pub returns-then-self-gt0-clause-room : goal.returns-then-self-gt0-clause-room
returns-then-self-gt0-clause-room c =
    let few = one_row c.args.cycle (shown c.args.self.now) c.args.self.now.rows.items c.idle.new.self.rows.items c.idle.ensures.rows in
    omega (arith, few, c.requires.room, c.idle.ensures.room)

pub returns-then-self-gt0-clause-count : goal.returns-then-self-gt0-clause-count
returns-then-self-gt0-clause-count c =
    let more = one_more c.args.cycle (shown c.args.self.now) (shown c.idle.new.self) c.idle.ensures.state in
    omega (arith, more, c.requires.few)

pub sprint-sprinted-requires-clause-may : goal.sprint-sprinted-requires-clause-may
sprint-sprinted-requires-clause-may c =
    let i = c.loop-cycle.invariant in
    record {
      going = i.going;
      free = i.free;
      awake = i.awake;
      now = i.clock;
      few = i.count;
      early = omega (arith, i.within, c.quiet.ensures.within, c.requires.early);
      room = omega (arith, i.room);
    }

pub sprint-sprinted-requires-clause-none : goal.sprint-sprinted-requires-clause-none
sprint-sprinted-requires-clause-none c =
    let i = c.loop-cycle.invariant in
    silent c.args.cycle c.loop-cycle.at (c.args.cycle + c.quiet.result) c.args.self.now c.loop-cycle.self i.script i.from (λ j l. c.quiet.ensures.none j (omega (arith, l)))

pub returns-then-sprinted-clause-midway : goal.returns-then-sprinted-clause-midway
returns-then-sprinted-clause-midway c = inside_midway c.loop-cycle.invariant c.sprint-sprinted.ensures.sprinted c.if-sprinted.true

pub returns-then-sprinted-clause-room : goal.returns-then-sprinted-clause-room
returns-then-sprinted-clause-room c = inside_room c.loop-cycle.invariant c.sprint-sprinted.ensures.sprinted

pub act-taken-requires : goal.act-taken-requires
act-taken-requires c = may_act c.loop-cycle.invariant c.sprint-sprinted.ensures.sprinted c.if-sprinted.false c.sprint-sprinted.ensures.within (omega (arith, c.quiet.ensures.within, c.requires.early))

pub returns-then-not-has_room-clause-midway : goal.returns-then-not-has_room-clause-midway
returns-then-not-has_room-clause-midway c = (ends c.loop-cycle.invariant c.sprint-sprinted.ensures.sprinted c.if-sprinted.false c.act-taken.ensures refl).0

pub returns-then-not-has_room-clause-room : goal.returns-then-not-has_room-clause-room
returns-then-not-has_room-clause-room c = (ends c.loop-cycle.invariant c.sprint-sprinted.ensures.sprinted c.if-sprinted.false c.act-taken.ensures refl).1

pub returns-then-not-has_room-clause-count : goal.returns-then-not-has_room-clause-count
returns-then-not-has_room-clause-count c = (ends c.loop-cycle.invariant c.sprint-sprinted.ensures.sprinted c.if-sprinted.false c.act-taken.ensures refl).2

pub returns-then-not-finish_instruction-clause-midway : goal.returns-then-not-finish_instruction-clause-midway
returns-then-not-finish_instruction-clause-midway c = (ends c.loop-cycle.invariant c.sprint-sprinted.ensures.sprinted c.if-sprinted.false c.act-taken.ensures (c.finish_instruction.ensures.same c.if-not-finish_instruction.true)).0

pub returns-then-not-finish_instruction-clause-room : goal.returns-then-not-finish_instruction-clause-room
returns-then-not-finish_instruction-clause-room c = (ends c.loop-cycle.invariant c.sprint-sprinted.ensures.sprinted c.if-sprinted.false c.act-taken.ensures (c.finish_instruction.ensures.same c.if-not-finish_instruction.true)).1

pub returns-then-not-finish_instruction-clause-count : goal.returns-then-not-finish_instruction-clause-count
returns-then-not-finish_instruction-clause-count c = (ends c.loop-cycle.invariant c.sprint-sprinted.ensures.sprinted c.if-sprinted.false c.act-taken.ensures (c.finish_instruction.ensures.same c.if-not-finish_instruction.true)).2

pub finish_instruction-requires-clause-none : goal.finish_instruction-requires-clause-none
finish_instruction-requires-clause-none c = silent_on c.loop-cycle.invariant c.sprint-sprinted.ensures.sprinted c.if-sprinted.false c.act-taken.ensures (λ j l. c.quiet.ensures.none j (omega (arith, l)))

pub loop-cycle-preserved : goal.loop-cycle-preserved
loop-cycle-preserved c =
    let f = c.finish_instruction.ensures in
    let done = c.if-not-finish_instruction.false in
    goes_on c.loop-cycle.invariant c.sprint-sprinted.ensures.sprinted c.if-sprinted.false c.act-taken.ensures (f.passed done) f.rows (f.clock done) (f.within done) (omega (arith, c.has_room.ensures c.if-not-has_room.false)) (omega (arith, c.from-at.ensures))
