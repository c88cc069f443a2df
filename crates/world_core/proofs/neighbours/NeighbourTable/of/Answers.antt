use Rattle.std.proofs.Common.{ℕ, ◌+◌, ◌<◌, length, set, sym, subst, ◌∙◌, length-set, arith}
use Rattle.world_core.specs.NeighbourTable.{AreEntered}
use Rattle.world_core.proofs.NeighbourRows.{entered_more}
use Rattle.world_core.proofs.neighbours.NeighbourTable.of.Goals as goal

pub loop-to-preserved : goal.loop-to-preserved
loop-to-preserved c =
    let rows = c.loop-to.rows in
    let lt : c.loop-to.to < length rows = let h = c.loop-to-test.true in let n = c.loop-to.invariant.1 in omega arith in (
      subst (λ (n : ℕ). AreEntered c.args.table.now.rows c.args.nodes (c.loop-to.to + 1) (set rows n c.heard_by.result)) (sym c.from.ensures)
          (entered_more c.args.table.now.rows c.args.nodes c.loop-to.to rows c.heard_by.result lt c.loop-to.invariant.0 c.heard_by.ensures.list c.heard_by.ensures.count),
      length-set rows c.from.result c.heard_by.result ∙ c.loop-to.invariant.1,
    )
