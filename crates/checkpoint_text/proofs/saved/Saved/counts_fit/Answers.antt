use Rattle.std.proofs.Common.{ap, ◌∙◌}
use Rattle.std.specs.Prelude.{nat_le}
use Rattle.air_base.specs.Bounds.{LAST_CYCLE}
use Rattle.node_core.specs.State.{NodeState}
use Rattle.world_core.specs.Order.{node_at}
use Rattle.checkpoint_text.specs.Onward.{onward}
use Rattle.checkpoint_text.proofs.Counted.{of_all}
use Rattle.checkpoint_text.proofs.saved.Saved.counts_fit.Goals as goal

pub returns : goal.returns
returns c =
    let a = c.args.self.now in
    c.few_each.ensures
    ∙ of_all (λ v. nat_le v.state.count LAST_CYCLE) (λ k. nat_le (node_at (onward a.scenario a.state) k a.floor).count LAST_CYCLE) c.nodes.result.now a.scenario.topo.nodes c.nodes.ensures.count
    (λ k d lt. ap (λ (s : NodeState). nat_le s.count LAST_CYCLE) (c.nodes.ensures.states k d lt))
