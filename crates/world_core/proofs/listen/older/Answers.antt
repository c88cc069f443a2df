use Rattle.std.proofs.Common.{◌-◌, arith}
use Rattle.world_core.specs.Chain.{way_at}
use Rattle.world_core.proofs.Looks.{young_place, back_place, back_young, jump_young}
use Rattle.world_core.proofs.listen.older.Goals as goal

pub returns-then-is_young-clause-rest : goal.returns-then-is_young-clause-rest
returns-then-is_young-clause-rest c =
    let place = c.args.place in
    let back = c.requires.chain.fars (place - 1) (let h = c.requires.young.some in let p = c.requires.chain.places in let q = c.requires.place in omega arith) in
    jump_young c.args.topo.now c.args.sends.now c.args.from c.args.node c.args.cycle (way_at c.args.ways.now (place - 1)).far place (let h = c.requires.young.some in omega arith) c.requires.place c.requires.rises (c.is_young.ensures.0 c.if-is_young.true)

pub returns-clause-place : goal.returns-clause-place
returns-clause-place c =
    let y = c.requires.young in
    back_place c.args.sends.now c.args.ways.now c.args.from c.args.place c.requires.chain c.requires.place y.some (young_place c.args.topo.now c.args.sends.now c.args.from c.args.node c.args.cycle c.args.place y)

pub returns-clause-rest : goal.returns-clause-rest
returns-clause-rest c = back_young c.args.topo.now c.args.sends.now c.args.ways.now c.args.from c.args.node c.args.cycle c.args.place c.requires.chain c.requires.place c.requires.young
