use Rattle.std.proofs.Common.{◌≡◌, false, length, ◌∙◌, ap, subst}
use Rattle.std.specs.Prelude.{List, slice_index_or}
use Rattle.air_base.specs.NodeRun.{Timed}
use Rattle.node_core.specs.declared.row.Row.{Row}
use Rattle.node_core.specs.State.{NodeState}
use Rattle.checkpoint_text.specs.Onward.{SavedAt, onward}
use Rattle.fleet_flight.specs.Paused.{IsPaused}
use Rattle.checkpoint_text.proofs.saved.Saved.nodes.Goals as goal

pub returns-clause-count : goal.returns-clause-count
returns-clause-count c =
    let i = c.self.inside in
    let calm : i.failed ≡ false = ap (λ (a : SavedAt). a.failed) c.self.view_is ∙ c.requires in
    let paused = subst (λ (a : SavedAt). IsPaused (onward a.scenario a.state) a.floor a.floor i.nodes.items i.log.sends) c.self.view_is (c.self.invariant.paused calm) in
    ap length c.deref.ensures.value ∙ paused.count

pub returns-clause-states : goal.returns-clause-states
returns-clause-states c =
    let i = c.self.inside in
    let calm : i.failed ≡ false = ap (λ (a : SavedAt). a.failed) c.self.view_is ∙ c.requires in
    let paused = subst (λ (a : SavedAt). IsPaused (onward a.scenario a.state) a.floor a.floor i.nodes.items i.log.sends) c.self.view_is (c.self.invariant.paused calm) in
    λ k d l. ap (λ (vs : List (Timed NodeState Row)). (slice_index_or vs k d).state) c.deref.ensures.value ∙ (paused.nodes k d l).state
