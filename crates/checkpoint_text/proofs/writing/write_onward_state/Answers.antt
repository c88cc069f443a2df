use Rattle.std.proofs.Common.{◌≡◌, subst}
use Rattle.std.specs.Prelude.{OnErr, OnOk}
use Rattle.sim_io.specs.Outside.{TookFront, extended}
use Rattle.state_text.specs.Text.{StateOf, state_text}
use Rattle.checkpoint_text.specs.Onward.{onward}
use Rattle.checkpoint_text.specs.State.{state_with, stood}
use Rattle.checkpoint_text.proofs.Saving.{stood_nodes, stood_sized}
use Rattle.checkpoint_text.proofs.writing.write_onward_state.Goals as goal

pub write-requires : goal.write-requires
write-requires g c = record { sized = stood_sized c.nodes-nodes.result.now }

pub returns-clause-taken : goal.returns-clause-taken
returns-clause-taken g c =
    let f = onward c.args.saved.now.scenario c.args.saved.now.state in
    let at : (record { cycle = c.cycle.result; nodes = stood c.nodes-nodes.result.now; sends = c.args.sends.now }) ≡ state_with f c.args.saved.now.floor c.args.sends.now =
    (λ i. record { cycle = c.cycle.ensures i; nodes = stood_nodes f c.args.saved.now.floor c.nodes-nodes.result.now c.nodes-nodes.ensures.count c.nodes-nodes.ensures.states i; sends = c.args.sends.now }) in
    subst (λ (st : StateOf). OnOk c.write.result (g.O.Sink.taken c.write.new.sink ≡ extended (g.O.Sink.taken c.args.sink.now) (state_text st))) at c.write.ensures.taken

pub returns-clause-front : goal.returns-clause-front
returns-clause-front g c =
    let f = onward c.args.saved.now.scenario c.args.saved.now.state in
    let at : (record { cycle = c.cycle.result; nodes = stood c.nodes-nodes.result.now; sends = c.args.sends.now }) ≡ state_with f c.args.saved.now.floor c.args.sends.now =
    (λ i. record { cycle = c.cycle.ensures i; nodes = stood_nodes f c.args.saved.now.floor c.nodes-nodes.result.now c.nodes-nodes.ensures.count c.nodes-nodes.ensures.states i; sends = c.args.sends.now }) in
    subst (λ (st : StateOf). OnErr c.write.result (TookFront (g.O.Sink.taken c.args.sink.now) (state_text st) (g.O.Sink.taken c.write.new.sink))) at c.write.ensures.front
