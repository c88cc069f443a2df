use Rattle.std.proofs.Common.{◌+◌, ◌<◌, ℕ, sym, subst, ◌∙◌}
use Rattle.world_core.specs.declared.world.WorldFacts.{WorldFacts}
use Rattle.world_core.specs.Sends.{IsSendNumber}
use Rattle.world_core.specs.Kept.{epoch}
use Rattle.neighbour_sync.specs.Record.{AirRecord, IsPost}
use Rattle.neighbour_sync.proofs.shared.Locked.post.Goals as goal

pub post-requires-clause-table : goal.post-requires-clause-table
post-requires-clause-table g c = c.self.invariant.0 ∙ sym c.requires.table

pub post-requires-clause-number : goal.post-requires-clause-number
post-requires-clause-number g c = subst (λ (w : WorldFacts). IsSendNumber w c.args.number c.args.send) (sym c.self.invariant.1) c.requires.number

pub post-requires-clause-early : goal.post-requires-clause-early
post-requires-clause-early g c = subst (λ (f : ℕ). c.args.send.cycle < f + epoch) (sym c.self.invariant.2) c.requires.early

pub invariant_of-self : goal.invariant_of-self
invariant_of-self g c =
    let same = c.post.ensures.same in
    let was = c.self.invariant in
    (same.0 ∙ was.0, same.1 ∙ was.1, same.2 ∙ was.2)

pub returns : goal.returns
returns g c = subst (λ (r : AirRecord). IsPost r c.args.send c.args.number c.post.result c.post.new.self) c.self.view_is c.post.ensures.step
