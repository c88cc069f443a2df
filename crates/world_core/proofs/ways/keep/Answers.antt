use Rattle.std.proofs.Common.{sym, arith}
use Rattle.world_core.proofs.Cutting.{none_gone}
use Rattle.world_core.proofs.ways.keep.Goals as goal

pub returns-else-span-floor-clause-items : goal.returns-else-span-floor-clause-items
returns-else-span-floor-clause-items c =
    sym (none_gone c.args.topo.now c.args.floor c.args.sends.now.items (let h = c.if-span-floor.false in let r = c.reach.ensures.value in let b = c.byte_time.ensures.value in omega arith))
