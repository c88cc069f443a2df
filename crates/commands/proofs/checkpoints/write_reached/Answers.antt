use Rattle.std.proofs.Common.{◌≡◌, sym, ap, ◌∙◌, subst}
use Rattle.sim_io.specs.Outside.{TookFront, extended}
use Rattle.checkpoint_text.specs.Onward.{onward}
use Rattle.checkpoint_text.specs.State.{saved_from, state_with}
use Rattle.state_text.specs.Text.{StateOf, state_text}
use Rattle.command_plans.specs.Ends.{stream}
use Rattle.commands.proofs.checkpoints.write_reached.Goals as goal

pub returns-in-Ok-write_onward_state : goal.returns-in-Ok-write_onward_state
returns-in-Ok-write_onward_state g c =
    let a = c.args.saved.now in
    let sends = c.as_slice.ensures.value ∙ c.in-Ok.ensures in
    let is : state_with (onward a.scenario a.state) a.floor c.as_slice.result.now ≡ saved_from c.args.network.now a.state a.floor =
    (λ i. state_with (onward (sym c.requires.same i) a.state) a.floor (sends i)) in
    let taken = c.in-Ok-write_onward_state.ensures.taken ∙ ap (λ (st : StateOf). extended (g.O.Sink.taken c.args.out.now) (state_text st)) is in
    λ i. stream (taken i) (c.in-Ok-write_onward_state.ensures.ok i)

pub returns : goal.returns
returns g c =
    let a = c.args.saved.now in
    let sends = c.as_slice.ensures.value ∙ c.in-Ok.ensures in
    let is : state_with (onward a.scenario a.state) a.floor c.as_slice.result.now ≡ saved_from c.args.network.now a.state a.floor =
    (λ i. state_with (onward (sym c.requires.same i) a.state) a.floor (sends i)) in
    record {
      front = subst (λ (st : StateOf). TookFront (g.O.Sink.taken c.args.out.now) (state_text st) (g.O.Sink.taken c.write_onward_state.new.sink)) is c.in-Err.ensures.front;
      rose = c.in-Err.ensures.rose;
    }
