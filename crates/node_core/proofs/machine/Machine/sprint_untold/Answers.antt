use Rattle.std.proofs.Common.{ℕ, not, true, false, refl, sym, subst, ap, ◌∙◌, arith}
use Rattle.board_io.specs.Lagging.{IsUneventful}
use Rattle.node_core.specs.declared.machine.Machine.{Machine}
use Rattle.node_core.specs.Pace.Midway.{over}
use Rattle.node_core.proofs.Sprints.{begins, may, silent, stands, untold}
use Rattle.node_core.proofs.Turns.{IsPast, Turn, adds, at_it, below, carried, few, fewer, fewer_left, free, gathered, keeps, keeps_calm, leapt, left, may_end, owed_no_more, parted, same_side, stepped_same, stepped_turned, stopped, stopped_room, turn}
use Rattle.node_core.proofs.machine.Machine.sprint_untold.Goals.{In-Single, In-Plain, In-Jumped, In-Loaded, Then-is_on, After-is_on-on, In-Enabled, Else-not-leap_within, Else-not-leap_within-2, Else-not-leap_within-3, Else-not-leap_within-4, Else-not-leap_within-5, Else-not-leap_within-6, Else-not-leap_within-7}
use Rattle.node_core.proofs.machine.Machine.sprint_untold.Goals as goal

-- ---- the turn of each arm, and that its cycles passed
abbrev single : (c : In-Single) → Turn c.args.cycle c.args.end c.args.self.now
single c = turn c.loop-self-2.invariant c.requires.early c.requires.may.room c.requires.untold c.requires.none 1 false c.one_step.new.regs c.one_step.new.core c.one_step.new.bus c.one_step.new.count c.in-Single.ensures.step

single_past : (c : Else-not-leap_within) → IsPast 1 c.loop-self-2.bound c.one_step.new.bus.io c.leap_within.new.self
single_past c = let e = c.if-not-leap_within.ensures in record { within = e.within refl; idle = e.idle refl; state = e.state refl; lines = e.lines refl; calm = e.calm refl; clock = e.clock refl }

abbrev plain : (c : In-Plain) → Turn c.args.cycle c.args.end c.args.self.now
plain c = turn c.loop-self-2.invariant c.requires.early c.requires.may.room c.requires.untold c.requires.none c.in-Plain.taken false c.one_step.new.regs c.one_step.new.core c.one_step.new.bus c.one_step.new.count c.in-Plain.ensures.step

plain_past : (c : Else-not-leap_within-2) → IsPast c.in-Plain.taken c.loop-self-2.bound c.one_step.new.bus.io c.leap_within-in-Plain.new.self
plain_past c = let e = c.if-not-leap_within-2.ensures in record { within = e.within refl; idle = e.idle refl; state = e.state refl; lines = e.lines refl; calm = e.calm refl; clock = e.clock refl }

abbrev jumped : (c : In-Jumped) → Turn c.args.cycle c.args.end c.args.self.now
jumped c = turn c.loop-self-2.invariant c.requires.early c.requires.may.room c.requires.untold c.requires.none c.in-Jumped.taken false c.one_step.new.regs c.one_step.new.core c.one_step.new.bus c.one_step.new.count c.in-Jumped.ensures.step

jumped_past : (c : Else-not-leap_within-3) → IsPast c.in-Jumped.taken c.loop-self-2.bound c.one_step.new.bus.io c.leap_within-in-Jumped.new.self
jumped_past c = let e = c.if-not-leap_within-3.ensures in record { within = e.within refl; idle = e.idle refl; state = e.state refl; lines = e.lines refl; calm = e.calm refl; clock = e.clock refl }

abbrev loaded : (c : In-Loaded) → Turn c.args.cycle c.args.end c.args.self.now
loaded c = turn c.loop-self-2.invariant c.requires.early c.requires.may.room c.requires.untold c.requires.none c.in-Loaded.taken false c.one_step.new.regs c.one_step.new.core c.one_step.new.bus c.one_step.new.count c.in-Loaded.ensures.step

loaded_past : (c : Else-not-leap_within-4) → IsPast c.in-Loaded.taken c.clear_to-bound.result c.one_step.new.bus.io c.leap_within-in-Loaded.new.self
loaded_past c = let e = c.if-not-leap_within-4.ensures in record { within = e.within refl; idle = e.idle refl; state = e.state refl; lines = e.lines refl; calm = e.calm refl; clock = e.clock refl }

abbrev stored : (c : Then-is_on) → Turn c.args.cycle c.args.end c.args.self.now
stored c = turn c.loop-self-2.invariant c.requires.early c.requires.may.room c.requires.untold c.requires.none c.in-Stored.taken false c.one_step.new.regs c.one_step.new.core c.one_step.new.bus c.one_step.new.count
    (λ m e acts told. stepped_same c.loop-self-2.flags c.loop-self-2.core.sreg.bits c.one_step.new.core.sreg.bits c.is_on.result c.is_on-in-Stored.result c.loop-self-2.invariant.flag c.is_on.ensures c.is_on-in-Stored.ensures _ _ _ (over c.one_step.new.regs c.one_step.new.core c.one_step.new.bus c.one_step.new.count m) c.if-is_on.true (c.in-Stored.ensures.step m e acts told))

stored_past : (c : Else-not-leap_within-5) → IsPast c.in-Stored.taken c.clear_to-bound-in-Stored.result c.one_step.new.bus.io c.leap_within-then-is_on.new.self
stored_past c = let e = c.if-not-leap_within-5.ensures in record { within = e.within refl; idle = e.idle refl; state = e.state refl; lines = e.lines refl; calm = e.calm refl; clock = e.clock refl }

abbrev turned : (c : After-is_on-on) → Turn c.args.cycle c.args.end c.args.self.now
turned c = turn c.loop-self-2.invariant c.requires.early c.requires.may.room c.requires.untold c.requires.none c.in-Stored.taken (not c.is_on-on.result) c.one_step.new.regs c.one_step.new.core c.one_step.new.bus c.one_step.new.count
    (λ m e acts told. stepped_turned c.loop-self-2.flags c.loop-self-2.core.sreg.bits c.one_step.new.core.sreg.bits c.is_on.result c.is_on-in-Stored.result c.loop-self-2.invariant.flag c.is_on.ensures c.is_on-in-Stored.ensures _ _ _ (over c.one_step.new.regs c.one_step.new.core c.one_step.new.bus c.one_step.new.count m) c.is_on-on.result c.is_on-on.ensures c.if-is_on.false (c.in-Stored.ensures.step m e acts told))

turned_past : (c : Else-not-leap_within-6) → IsPast c.in-Stored.taken c.clear_to-bound-in-Stored.result c.one_step.new.bus.io c.leap_within-else-is_on.new.self
turned_past c = let e = c.if-not-leap_within-6.ensures in record { within = e.within refl; idle = e.idle refl; state = e.state refl; lines = e.lines refl; calm = e.calm refl; clock = e.clock refl }

abbrev enabled : (c : In-Enabled) → Turn c.args.cycle c.args.end c.args.self.now
enabled c = turn c.loop-self-2.invariant c.requires.early c.requires.may.room c.requires.untold c.requires.none c.in-Enabled.taken true c.one_step.new.regs c.one_step.new.core c.one_step.new.bus c.one_step.new.count c.in-Enabled.ensures.step

enabled_past : (c : Else-not-leap_within-7) → IsPast c.in-Enabled.taken c.clear_to-bound-in-Enabled.result c.one_step.new.bus.io c.leap_within-in-Enabled.new.self
enabled_past c = let e = c.if-not-leap_within-7.ensures in record { within = e.within refl; idle = e.idle refl; state = e.state refl; lines = e.lines refl; calm = e.calm refl; clock = e.clock refl }

-- ---- before the loops
pub returns-then-self-clause-sprinted : goal.returns-then-self-clause-sprinted
returns-then-self-clause-sprinted c = let m = c.requires.may in stands c.args.cycle c.args.self.now m.going m.free m.awake m.now m.few

pub loop-self-init : goal.loop-self-init
loop-self-init c =
    let m = c.requires.may in
    record {
      turning = parted (begins c.args.cycle c.args.self.now m.going m.free m.awake m.now m.few) c.requires.within c.if-self.false c.parts.ensures (c.is_let_in.ensures c.if-is_let_in.false);
      flag = refl;
    }

pub loop-self-2-init : goal.loop-self-2-init
loop-self-2-init c =
    record {
      turns = c.loop-self.invariant.turning;
      words = c.slots-slots.ensures;
      flag = c.loop-self.invariant.flag;
      within = c.calm_to-bound.ensures.within;
      ahead = c.calm_to-bound.ensures.calm;
      on = omega arith;
    }

pub one_step-requires-clause-few : goal.one_step-requires-clause-few
one_step-requires-clause-few c =
    let few = c.loop-self-2.invariant.turns.runs.count in
    let within = c.loop-self-2.invariant.turns.within in
    omega (arith, few, within, c.requires.early)

-- ---- each arm: its cycles are still to pass, and end the sprint, or pass
pub leap_within-requires : goal.leap_within-requires
leap_within-requires c = let upto = c.loop-self-2.invariant.within in record { some = omega arith; early = omega (arith, upto, c.requires.early); calm = subst (IsUneventful c.loop-self-2.bound) (sym (c.in-Single.ensures.apart refl)) c.loop-self-2.invariant.ahead }

pub end_sprint-requires : goal.end_sprint-requires
end_sprint-requires c = record { may = may_end (single (goal.at.end_sprint-requires c).In-Single) (c.if-not-leap_within.ensures.same refl) }

pub returns-then-not-leap_within-clause-sprinted : goal.returns-then-not-leap_within-clause-sprinted
returns-then-not-leap_within-clause-sprinted c = let x = single (goal.at.returns-then-not-leap_within-clause-sprinted c).In-Single in let same = c.if-not-leap_within.ensures.same refl in c.end_sprint.ensures.sprinted _ _ _ (at_it x same) (free x) (carried x same)

pub loop-self-2-smaller-else-not-leap_within : goal.loop-self-2-smaller-else-not-leap_within
loop-self-2-smaller-else-not-leap_within c = let s = goal.at.loop-self-2-smaller-else-not-leap_within c in fewer (single s.In-Single) c.loop-self-2.invariant.within (single_past s.Else-not-leap_within)

pub loop-self-2-preserved-else-not-leap_within : goal.loop-self-2-preserved-else-not-leap_within
loop-self-2-preserved-else-not-leap_within c = let s = goal.at.loop-self-2-preserved-else-not-leap_within c in keeps_calm (single s.In-Single) (single_past s.Else-not-leap_within) refl (c.in-Single.ensures.apart refl) (c.in-Single.ensures.flag refl)

pub leap_within-requires-in-Plain : goal.leap_within-requires-in-Plain
leap_within-requires-in-Plain c = let upto = c.loop-self-2.invariant.within in record { some = (plain (goal.at.leap_within-requires-in-Plain c).In-Plain).step.some; early = omega (arith, upto, c.requires.early); calm = subst (IsUneventful c.loop-self-2.bound) (sym (c.in-Plain.ensures.apart refl)) c.loop-self-2.invariant.ahead }

pub end_sprint-requires-then-not-leap_within-2 : goal.end_sprint-requires-then-not-leap_within-2
end_sprint-requires-then-not-leap_within-2 c = record { may = may_end (plain (goal.at.end_sprint-requires-then-not-leap_within-2 c).In-Plain) (c.if-not-leap_within-2.ensures.same refl) }

pub returns-then-not-leap_within-2-clause-sprinted : goal.returns-then-not-leap_within-2-clause-sprinted
returns-then-not-leap_within-2-clause-sprinted c = let x = plain (goal.at.returns-then-not-leap_within-2-clause-sprinted c).In-Plain in let same = c.if-not-leap_within-2.ensures.same refl in c.end_sprint-then-not-leap_within-2.ensures.sprinted _ _ _ (at_it x same) (free x) (carried x same)

pub loop-self-2-smaller-else-not-leap_within-2 : goal.loop-self-2-smaller-else-not-leap_within-2
loop-self-2-smaller-else-not-leap_within-2 c = let s = goal.at.loop-self-2-smaller-else-not-leap_within-2 c in fewer (plain s.In-Plain) c.loop-self-2.invariant.within (plain_past s.Else-not-leap_within-2)

pub loop-self-2-preserved-else-not-leap_within-2 : goal.loop-self-2-preserved-else-not-leap_within-2
loop-self-2-preserved-else-not-leap_within-2 c = let s = goal.at.loop-self-2-preserved-else-not-leap_within-2 c in keeps_calm (plain s.In-Plain) (plain_past s.Else-not-leap_within-2) refl (c.in-Plain.ensures.apart refl) (c.in-Plain.ensures.flag refl)

pub leap_within-requires-in-Jumped : goal.leap_within-requires-in-Jumped
leap_within-requires-in-Jumped c = let upto = c.loop-self-2.invariant.within in record { some = (jumped (goal.at.leap_within-requires-in-Jumped c).In-Jumped).step.some; early = omega (arith, upto, c.requires.early); calm = subst (IsUneventful c.loop-self-2.bound) (sym (c.in-Jumped.ensures.apart refl)) c.loop-self-2.invariant.ahead }

pub end_sprint-requires-then-not-leap_within-3 : goal.end_sprint-requires-then-not-leap_within-3
end_sprint-requires-then-not-leap_within-3 c = record { may = may_end (jumped (goal.at.end_sprint-requires-then-not-leap_within-3 c).In-Jumped) (c.if-not-leap_within-3.ensures.same refl) }

pub returns-then-not-leap_within-3-clause-sprinted : goal.returns-then-not-leap_within-3-clause-sprinted
returns-then-not-leap_within-3-clause-sprinted c = let x = jumped (goal.at.returns-then-not-leap_within-3-clause-sprinted c).In-Jumped in let same = c.if-not-leap_within-3.ensures.same refl in c.end_sprint-then-not-leap_within-3.ensures.sprinted _ _ _ (at_it x same) (free x) (carried x same)

pub loop-self-2-smaller-in-Jumped : goal.loop-self-2-smaller-in-Jumped
loop-self-2-smaller-in-Jumped c = let s = goal.at.loop-self-2-smaller-in-Jumped c in fewer (jumped s.In-Jumped) c.loop-self-2.invariant.within (jumped_past s.Else-not-leap_within-3)

pub loop-self-2-preserved-in-Jumped : goal.loop-self-2-preserved-in-Jumped
loop-self-2-preserved-in-Jumped c = let s = goal.at.loop-self-2-preserved-in-Jumped c in keeps_calm (jumped s.In-Jumped) (jumped_past s.Else-not-leap_within-3) refl (c.in-Jumped.ensures.apart refl) (c.in-Jumped.ensures.flag refl)

pub leap_within-requires-in-Loaded : goal.leap_within-requires-in-Loaded
leap_within-requires-in-Loaded c = let upto = c.clear_to-bound.ensures.within in record { some = (loaded (goal.at.leap_within-requires-in-Loaded c).In-Loaded).step.some; early = omega (arith, upto, c.requires.early); calm = c.clear_to-bound.ensures.calm }

pub end_sprint-requires-then-not-leap_within-4 : goal.end_sprint-requires-then-not-leap_within-4
end_sprint-requires-then-not-leap_within-4 c = record { may = may_end (loaded (goal.at.end_sprint-requires-then-not-leap_within-4 c).In-Loaded) (c.if-not-leap_within-4.ensures.same refl) }

pub returns-then-not-leap_within-4-clause-sprinted : goal.returns-then-not-leap_within-4-clause-sprinted
returns-then-not-leap_within-4-clause-sprinted c = let x = loaded (goal.at.returns-then-not-leap_within-4-clause-sprinted c).In-Loaded in let same = c.if-not-leap_within-4.ensures.same refl in c.end_sprint-then-not-leap_within-4.ensures.sprinted _ _ _ (at_it x same) (free x) (carried x same)

pub loop-self-2-smaller-else-not-leap_within-4 : goal.loop-self-2-smaller-else-not-leap_within-4
loop-self-2-smaller-else-not-leap_within-4 c = let s = goal.at.loop-self-2-smaller-else-not-leap_within-4 c in fewer (loaded s.In-Loaded) c.clear_to-bound.ensures.within (loaded_past s.Else-not-leap_within-4)

pub loop-self-2-preserved-else-not-leap_within-4 : goal.loop-self-2-preserved-else-not-leap_within-4
loop-self-2-preserved-else-not-leap_within-4 c =
    let s = goal.at.loop-self-2-preserved-else-not-leap_within-4 c in
    let x = loaded s.In-Loaded in
    let p = loaded_past s.Else-not-leap_within-4 in
    keeps x c.clear_to-bound.ensures.within p refl (c.loop-self-2.invariant.flag ∙ sym (c.in-Loaded.ensures.flag refl)) (λ _. c.clear_to-bound.ensures.down (below x c.clear_to-bound.ensures.within p))

pub leap_within-requires-then-is_on : goal.leap_within-requires-then-is_on
leap_within-requires-then-is_on c = let upto = c.clear_to-bound-in-Stored.ensures.within in record { some = (stored (goal.at.leap_within-requires-then-is_on c).Then-is_on).step.some; early = omega (arith, upto, c.requires.early); calm = c.clear_to-bound-in-Stored.ensures.calm }

pub end_sprint-requires-then-not-leap_within-5 : goal.end_sprint-requires-then-not-leap_within-5
end_sprint-requires-then-not-leap_within-5 c = record { may = may_end (stored (goal.at.end_sprint-requires-then-not-leap_within-5 c).Then-is_on) (c.if-not-leap_within-5.ensures.same refl) }

pub returns-then-not-leap_within-5-clause-sprinted : goal.returns-then-not-leap_within-5-clause-sprinted
returns-then-not-leap_within-5-clause-sprinted c = let x = stored (goal.at.returns-then-not-leap_within-5-clause-sprinted c).Then-is_on in let same = c.if-not-leap_within-5.ensures.same refl in c.end_sprint-then-not-leap_within-5.ensures.sprinted _ _ _ (at_it x same) (free x) (carried x same)

pub loop-self-2-smaller-else-not-leap_within-5 : goal.loop-self-2-smaller-else-not-leap_within-5
loop-self-2-smaller-else-not-leap_within-5 c = let s = goal.at.loop-self-2-smaller-else-not-leap_within-5 c in fewer (stored s.Then-is_on) c.clear_to-bound-in-Stored.ensures.within (stored_past s.Else-not-leap_within-5)

pub loop-self-2-preserved-else-not-leap_within-5 : goal.loop-self-2-preserved-else-not-leap_within-5
loop-self-2-preserved-else-not-leap_within-5 c =
    let s = goal.at.loop-self-2-preserved-else-not-leap_within-5 c in
    let x = stored s.Then-is_on in
    let p = stored_past s.Else-not-leap_within-5 in
    keeps x c.clear_to-bound-in-Stored.ensures.within p refl (same_side c.loop-self-2.flags c.loop-self-2.core.sreg.bits c.one_step.new.core.sreg.bits c.is_on.result c.is_on-in-Stored.result c.loop-self-2.invariant.flag c.is_on.ensures c.is_on-in-Stored.ensures c.if-is_on.true) (λ _. c.clear_to-bound-in-Stored.ensures.down (below x c.clear_to-bound-in-Stored.ensures.within p))

pub leap_within-requires-else-is_on : goal.leap_within-requires-else-is_on
leap_within-requires-else-is_on c = let upto = c.clear_to-bound-in-Stored.ensures.within in record { some = (turned (goal.at.leap_within-requires-else-is_on c).After-is_on-on).step.some; early = omega (arith, upto, c.requires.early); calm = c.clear_to-bound-in-Stored.ensures.calm }

pub end_sprint-requires-then-not-leap_within-6 : goal.end_sprint-requires-then-not-leap_within-6
end_sprint-requires-then-not-leap_within-6 c = record { may = may_end (turned (goal.at.end_sprint-requires-then-not-leap_within-6 c).After-is_on-on) (c.if-not-leap_within-6.ensures.same refl) }

pub returns-then-not-leap_within-6-clause-sprinted : goal.returns-then-not-leap_within-6-clause-sprinted
returns-then-not-leap_within-6-clause-sprinted c = let x = turned (goal.at.returns-then-not-leap_within-6-clause-sprinted c).After-is_on-on in let same = c.if-not-leap_within-6.ensures.same refl in c.end_sprint-then-not-leap_within-6.ensures.sprinted _ _ _ (at_it x same) (free x) (carried x same)

pub loop-self-2-smaller-then-on : goal.loop-self-2-smaller-then-on
loop-self-2-smaller-then-on c = let s = goal.at.loop-self-2-smaller-then-on c in fewer (turned s.After-is_on-on) c.clear_to-bound-in-Stored.ensures.within (turned_past s.Else-not-leap_within-6)

pub loop-self-2-preserved-then-on : goal.loop-self-2-preserved-then-on
loop-self-2-preserved-then-on c =
    let s = goal.at.loop-self-2-preserved-then-on c in
    let x = turned s.After-is_on-on in
    let p = turned_past s.Else-not-leap_within-6 in
    adds x c.clear_to-bound-in-Stored.ensures.within p (ap not c.if-on.true) refl (λ _. c.clear_to-bound-in-Stored.ensures.down (below x c.clear_to-bound-in-Stored.ensures.within p))

pub loop-self-2-smaller-else-on : goal.loop-self-2-smaller-else-on
loop-self-2-smaller-else-on c = let s = goal.at.loop-self-2-smaller-else-on c in fewer (turned s.After-is_on-on) c.clear_to-bound-in-Stored.ensures.within (turned_past s.Else-not-leap_within-6)

pub loop-self-2-preserved-else-on : goal.loop-self-2-preserved-else-on
loop-self-2-preserved-else-on c =
    let s = goal.at.loop-self-2-preserved-else-on c in
    let x = turned s.After-is_on-on in
    let p = turned_past s.Else-not-leap_within-6 in
    keeps x c.clear_to-bound-in-Stored.ensures.within p (ap not c.if-on.false) refl (λ _. c.clear_to-bound-in-Stored.ensures.down (below x c.clear_to-bound-in-Stored.ensures.within p))

pub overflow_add-owed_to : goal.overflow_add-owed_to
overflow_add-owed_to c = let few = few (turned (goal.at.overflow_add-owed_to c).After-is_on-on) in omega (arith, few)

pub leap_within-requires-in-Enabled : goal.leap_within-requires-in-Enabled
leap_within-requires-in-Enabled c = let upto = c.clear_to-bound-in-Enabled.ensures.within in record { some = (enabled (goal.at.leap_within-requires-in-Enabled c).In-Enabled).step.some; early = omega (arith, upto, c.requires.early); calm = c.clear_to-bound-in-Enabled.ensures.calm }

pub end_sprint-requires-then-not-leap_within-7 : goal.end_sprint-requires-then-not-leap_within-7
end_sprint-requires-then-not-leap_within-7 c = record { may = may_end (enabled (goal.at.end_sprint-requires-then-not-leap_within-7 c).In-Enabled) (c.if-not-leap_within-7.ensures.same refl) }

pub returns-then-not-leap_within-7-clause-sprinted : goal.returns-then-not-leap_within-7-clause-sprinted
returns-then-not-leap_within-7-clause-sprinted c = let x = enabled (goal.at.returns-then-not-leap_within-7-clause-sprinted c).In-Enabled in let same = c.if-not-leap_within-7.ensures.same refl in c.end_sprint-then-not-leap_within-7.ensures.sprinted _ _ _ (at_it x same) (free x) (carried x same)

pub loop-self-2-smaller : goal.loop-self-2-smaller
loop-self-2-smaller c = let s = goal.at.loop-self-2-smaller c in fewer (enabled s.In-Enabled) c.clear_to-bound-in-Enabled.ensures.within (enabled_past s.Else-not-leap_within-7)

pub loop-self-2-preserved : goal.loop-self-2-preserved
loop-self-2-preserved c =
    let s = goal.at.loop-self-2-preserved c in
    let x = enabled s.In-Enabled in
    let p = enabled_past s.Else-not-leap_within-7 in
    adds x c.clear_to-bound-in-Enabled.ensures.within p refl refl (λ _. c.clear_to-bound-in-Enabled.ensures.down (below x c.clear_to-bound-in-Enabled.ensures.within p))

pub overflow_add-owed_to-in-Enabled : goal.overflow_add-owed_to-in-Enabled
overflow_add-owed_to-in-Enabled c = let few = few (enabled (goal.at.overflow_add-owed_to-in-Enabled c).In-Enabled) in omega (arith, few)

-- ---- an instruction that is none of a sprint's, and one that stops
pub returns-in-Left : goal.returns-in-Left
returns-in-Left c = let e = left c.loop-self-2.invariant c.requires.early c.requires.may.room c.requires.untold c.one_step.new.regs c.one_step.new.core c.one_step.new.bus c.one_step.new.count c.gather-at.result c.gather-at.new.self c.gather-at.ensures.value c.gather-at.ensures.state c.in-Left.ensures.step in record { sprinted = e.0; within = e.1 }

pub halt-requires : goal.halt-requires
halt-requires c = record { room = stopped_room c.loop-self-2.invariant c.requires.early c.requires.may.room c.requires.untold c.one_step.new.regs c.one_step.new.core c.one_step.new.bus c.one_step.new.count c.gather-at-in-Stopped.result c.gather-at-in-Stopped.new.self c.gather-at-in-Stopped.ensures.value c.gather-at-in-Stopped.ensures.state c.in-Stopped.cause c.in-Stopped.ensures.step }

pub returns-in-Stopped : goal.returns-in-Stopped
returns-in-Stopped c =
    let r = c.halt.ensures in
    let e = stopped c.loop-self-2.invariant c.requires.early c.requires.may.room c.requires.untold c.one_step.new.regs c.one_step.new.core c.one_step.new.bus c.one_step.new.count c.gather-at-in-Stopped.result c.gather-at-in-Stopped.new.self c.gather-at-in-Stopped.ensures.value c.gather-at-in-Stopped.ensures.state c.in-Stopped.cause c.in-Stopped.ensures.step c.halt.new.self r.state r.rows r.room r.clock in
    record { sprinted = e.0; within = e.1 }

-- ---- a short jump back: whether a loop waits there
pub leap-requires : goal.leap-requires
leap-requires c =
    let s = goal.at.leap-requires c in
    let on = keeps_calm (jumped s.In-Jumped) (jumped_past s.Else-not-leap_within-3) refl (c.in-Jumped.ensures.apart refl) (c.in-Jumped.ensures.flag refl) in
    let g = c.gather-at-in-loop-self.ensures in
    let b = gathered on.turns g.value g.state in
    let within = on.turns.within in
    let now = g.value in
    let t : ℕ = c.args.cycle in
    let r : ℕ = c.gather-at-in-loop-self.result in
    let x : Machine = c.gather-at-in-loop-self.new.self in
    record {
      may = may t r c.args.self.now x b g.early c.requires.may.room;
      untold = λ i late. untold t r c.args.end c.args.self.now x b.opens b.closes b.from c.requires.untold i (omega (arith, late));
      within = omega (arith, within, now);
      early = c.requires.early;
      none = silent t r c.args.end c.args.self.now x b.script b.from c.requires.none;
    }

pub loop-self-smaller : goal.loop-self-smaller
loop-self-smaller c =
    let s = goal.at.loop-self-smaller c in
    fewer_left (jumped s.In-Jumped) c.loop-self-2.invariant.within (jumped_past s.Else-not-leap_within-3) c.gather-at-in-loop-self.result c.leap.result c.gather-at-in-loop-self.ensures.value c.leap.ensures.sprinted.clock c.leap.ensures.within

pub loop-self-preserved : goal.loop-self-preserved
loop-self-preserved c =
    let s = goal.at.loop-self-preserved c in
    let on = keeps_calm (jumped s.In-Jumped) (jumped_past s.Else-not-leap_within-3) refl (c.in-Jumped.ensures.apart refl) (c.in-Jumped.ensures.flag refl) in
    let g = c.gather-at-in-loop-self.ensures in
    let q = c.leap.ensures in
    record {
      turning = leapt on.turns (owed_no_more (jumped s.In-Jumped)) g.value g.state q.sprinted q.others q.lines q.flags q.within c.parts-in-loop-self.ensures;
      flag = refl;
    }
