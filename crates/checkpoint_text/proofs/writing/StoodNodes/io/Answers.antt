use Rattle.std.proofs.Common.{◌∙◌, ap}
use Rattle.std.specs.Prelude.{List, slice_index}
use Rattle.air_base.specs.NodeRun.{Timed}
use Rattle.node_core.specs.declared.row.Row.{Row}
use Rattle.node_core.specs.State.{NodeState}
use Rattle.state_text.specs.Text.{NodeOf}
use Rattle.state_text.specs.Writing.{node_of}
use Rattle.checkpoint_text.specs.State.{stood}
use Rattle.checkpoint_text.proofs.Saving.{io_shown}
use Rattle.checkpoint_text.proofs.writing.StoodNodes.io.Goals as goal

pub returns : goal.returns
returns c = c.io.ensures ∙ (io_shown c.stood_at.result.now.state.board c.args.place c.requires.place ∙ ap (λ (n : NodeOf). slice_index n.io c.args.place) (c.stood_at.ensures ∙ ap (λ (vs : List (Timed NodeState Row)). node_of (stood vs) c.args.node) c.self.view_is))
