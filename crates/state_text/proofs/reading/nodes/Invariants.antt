use Rattle.std.proofs.Common.{◌≡◌, ◌-◌}
use Rattle.state_text.specs.Bounds.{rules}
use Rattle.state_text.specs.Reading.{nodes_at}
use Rattle.state_text.proofs.Loops.{with_nodes}
use Rattle.state_text.proofs.reading.nodes.Given as goal

abbrev pub invariant-loop-k : goal.invariant-loop-k
invariant-loop-k g l = with_nodes l.nodes.items (nodes_at (rules l.topo (g.B.Bounds.rules l.bounds)) l.cycle l.k (l.topo.nodes - l.k) l.lines) ≡ nodes_at (rules l.topo (g.B.Bounds.rules l.bounds)) l.cycle 0 l.topo.nodes l.fn.lines
