use Rattle.std.proofs.Common.{arith}
use Rattle.state_text.proofs.Pieced.{put_nodes}
use Rattle.state_text.proofs.writing.put_nodes.Goals as goal

pub loop-node-preserved : goal.loop-node-preserved
loop-node-preserved g c =
    let low = c.loop-node-test.true in
    let end = c.count-node-end.ensures in
    put_nodes _ _ _ _ _ (omega (arith, low, end)) c.loop-node.invariant c.put_node.ensures
