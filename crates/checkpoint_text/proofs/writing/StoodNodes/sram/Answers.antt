use Rattle.std.proofs.Common.{◌≡◌, ◌+◌, ◌-◌, ◌∙◌, ap, arith}
use Rattle.std.specs.Prelude.{List, slice_index}
use Rattle.air_base.specs.NodeRun.{Timed}
use Rattle.node_core.specs.declared.row.Row.{Row}
use Rattle.node_core.specs.State.{NodeState}
use Rattle.state_text.specs.Text.{NodeOf}
use Rattle.state_text.specs.Writing.{node_of}
use Rattle.checkpoint_text.specs.State.{stood}
use Rattle.checkpoint_text.proofs.Saving.{sram_shown}
use Rattle.checkpoint_text.proofs.writing.StoodNodes.sram.Goals as goal

pub returns : goal.returns
returns c =
    let at : 256 + c.args.place - 256 ≡ c.args.place = omega arith in
    c.sram.ensures
    ∙ (ap (λ k. slice_index c.stood_at.result.now.state.sram k) at
    ∙ (sram_shown c.stood_at.result.now.state.sram c.args.place c.requires.place
    ∙ ap (λ (n : NodeOf). slice_index n.sram c.args.place) (c.stood_at.ensures ∙ ap (λ (vs : List (Timed NodeState Row)). node_of (stood vs) c.args.node) c.self.view_is)))
