use Rattle.std.proofs.Common.{sym, ◌∙◌}
use Rattle.node_core.specs.Cycle.{instructed, instructed_rows}
use Rattle.node_core.specs.Shown.{shown}
use Rattle.node_core.specs.State.{NodeState}
use Rattle.node_core.proofs.Ran.{Part, acted_as, goes_on, goes_on_owed, lets_in}
use Rattle.node_core.proofs.machine.Machine.act.Goals as goal
use Rattle.node_core.proofs.machine.Machine.act.Goals.{in-Some+else-not-self, in_default}

pub returns-then-not-self : goal.returns-then-not-self
returns-then-not-self c =
    let part = lets_in c.args.cycle (shown c.args.self.now) c.requires.free c.requires.awake c.in-Some.vector (sym c.due.ensures ∙ c.in-Some.is) c.if-not-self.true in
    acted_as _ _ _ _ _ _ _ part.0 part.1 c.enter.ensures

pub returns : goal.returns
returns c =
    let t = c.args.cycle in
    let s : NodeState = shown c.args.self.now in
    let part : Part t s (instructed t s) (instructed_rows t s) = elim c.match-due.branch [
      | in-Some+else-not-self w ↦ goes_on_owed t s c.requires.free c.requires.awake w.in-Some.vector (sym c.due.ensures ∙ w.in-Some.is) w.if-not-self.false
      | in_default w ↦ goes_on t s c.requires.free c.requires.awake (sym c.due.ensures ∙ w.in_default.is)
    ] in
    acted_as _ _ _ _ _ _ _ part.0 part.1 c.instruct.ensures
