use Rattle.std.proofs.Common.{◌≡◌, subst, ◌∙◌, ap}
use Rattle.std.specs.Prelude.{IfOk}
use Rattle.node_core.specs.Restored.{fault_of}
use Rattle.node_core.proofs.Saved.{no-fault}
use Rattle.node_runner.specs.Scenario.{IsRestoredIn}
use Rattle.state_text.specs.Text.{NodeOf}
use Rattle.checkpoint_text.proofs.NodeIs.{if_restored}
use Rattle.checkpoint_text.proofs.saved.node_of.Goals as goal

pub restored-requires-clause-sound : goal.restored-requires-clause-sound
restored-requires-clause-sound c =
    let own = c.parts.view_is in
    let numbers = ap (λ (p : NodeOf). p.numbers) own in
    let io = c.deref.ensures.value ∙ ap (λ (p : NodeOf). p.io) own in
    (λ i. fault_of c.args.cycle (numbers i) (io i)) ∙ c.requires.fits.fault

pub returns : goal.returns
returns c =
    let n : NodeOf = c.args.parts.now in
    let own = c.parts.view_is in
    let numbers : c.parts.inside.numbers ≡ n.numbers = ap (λ (p : NodeOf). p.numbers) own in
    let io : c.deref.result.now ≡ n.io = c.deref.ensures.value ∙ ap (λ (p : NodeOf). p.io) own in
    let sram : c.deref-2.result.now ≡ n.sram = c.deref-2.ensures.value ∙ ap (λ (p : NodeOf). p.sram) own in
    let is = subst (λ (x : NodeOf). IfOk c.restored.result (λ v. IsRestoredIn c.args.scenario.now c.args.number x.numbers x.io x.sram v.state))
    (λ i. record { numbers = numbers i; io = io i; sram = sram i }) c.restored.ensures.state in
    if_restored c.args.scenario.now c.args.number c.args.cycle n c.restored.result (no-fault _ _ c.requires.fits.fault) c.restored.ensures.node is
