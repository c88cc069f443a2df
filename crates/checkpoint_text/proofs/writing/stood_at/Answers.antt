use Rattle.std.proofs.Common.{sym}
use Rattle.checkpoint_text.proofs.Saving.{stood_at}
use Rattle.checkpoint_text.proofs.writing.stood_at.Goals as goal

pub returns : goal.returns
returns c = sym (stood_at c.args.nodes.now c.args.node _ c.requires c.index-nodes-node.is)
