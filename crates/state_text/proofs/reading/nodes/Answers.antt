use Rattle.std.proofs.Common.{◌++◌, arith}
use Rattle.std.proofs.lemmas.Result.{err_from_is_err_and}
use Rattle.state_text.proofs.Loops.{fails_on, node_fails, one_node, nodes_done}
use Rattle.state_text.proofs.reading.nodes.Goals as goal

pub returns-in_err-parts : goal.returns-in_err-parts
returns-in_err-parts g c =
    let p = err_from_is_err_and c.from_residual.result c.from_residual.ensures.1 in
    let end = c.nodes-k-end.ensures.value in
    let test = c.loop-k-test.true in
    rw (p.1, p.2) (fails_on _ (λ x. (c.loop-k.nodes.items ++ x.0, x.1)) _ _ (node_fails _ _ c.args.cycle c.loop-k.k c.args.topo.now.nodes c.loop-k.lines (omega (arith, end, test)) c.in_err-parts.ensures) c.loop-k.invariant)

pub loop-k-preserved : goal.loop-k-preserved
loop-k-preserved g c =
    let end = c.nodes-k-end.ensures.value in
    let test = c.loop-k-test.true in
    rw c.in_ok-push.ensures.items (one_node _ c.args.cycle c.loop-k.k c.args.topo.now.nodes c.loop-k.lines c.node.new.lines c.loop-k.nodes.items _ _ (omega (arith, end, test)) c.in_ok-parts.ensures c.loop-k.invariant)

pub returns : goal.returns
returns g c =
    let end = c.nodes-k-end.ensures.value in
    let test = c.loop-k-test.false in
    nodes_done _ c.args.cycle c.loop-k.k c.args.topo.now.nodes c.loop-k.lines c.loop-k.nodes.items _ (omega (arith, end, test)) c.loop-k.invariant
