use Rattle.std.proofs.Common.{sym, ◌∷◌, []}
use Rattle.state_text.specs.Parts.{value}
use Rattle.state_text.proofs.Taken.{never_kept}
use Rattle.state_text.proofs.reading.kept_send.Goals as goal

pub returns-in-None : goal.returns-in-None
returns-in-None c = sym (never_kept c.args.topo.now c.args.cycle c.args.before (value c.args.node.now) (value c.args.at.now) (c.args.byte ∷ []) c.nodes-lawful.ensures.lawful c.in-None.ensures.none)
