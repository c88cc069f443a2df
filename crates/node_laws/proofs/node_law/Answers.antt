use Rattle.node_laws.proofs.Nodes.{node_reset_within, node_sends_within, ticked_within}
use Rattle.node_laws.proofs.node_law.Goals as goal

pub returns : goal.returns
returns c = record {
  reset = node_reset_within;
  cycle = λ t s h early heard w. ticked_within t s w h early heard;
  sends = λ t s early w. node_sends_within t s w early;
}
