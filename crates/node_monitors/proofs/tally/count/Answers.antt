use Rattle.std.proofs.Common.{◌≡◌, ◌+◌, length, vec_len, arith, rules}
use Rattle.node_monitors.proofs.Growing.{grown-long}
use Rattle.node_monitors.proofs.tally.count.Goals as goal

pub index_mut-slot-requires : goal.index_mut-slot-requires
index_mut-slot-requires c =
    let long = grown-long (c.from-place.result + 1) c.from-place.result c.args.slots.now.items c.grow.new.slots.items c.in_ok-grow.ensures.grown (omega arith) in
    let len : length c.grow.new.slots.items ≡ vec_len c.grow.new.slots = search rules in
    omega arith
