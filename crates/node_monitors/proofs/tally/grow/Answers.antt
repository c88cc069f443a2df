use Rattle.std.proofs.Common.{length, ap, arith}
use Rattle.node_monitors.proofs.Growing.{growing-length, growing-more}
use Rattle.node_monitors.proofs.tally.grow.Goals as goal

pub returns-in_err-push-clause-most : goal.returns-in_err-push-clause-most
returns-in_err-push-clause-most c =
    let long = growing-length c.args.slots.now.items c.loop-word.slots.items c.loop-word.word c.loop-word.invariant.low c.loop-word.invariant.slots in
    let same = ap length c.in_err-push.ensures.items in
    let below = c.loop-word-test.true in
    let most = c.requires in
    λ few. omega arith

pub loop-word-preserved : goal.loop-word-preserved
loop-word-preserved c =
    let low = c.loop-word.invariant.low in
    let high = c.loop-word.invariant.high in
    let below = c.loop-word-test.true in
    record {
      slots = growing-more c.args.slots.now.items c.loop-word.slots.items c.loop-word.word low c.loop-word.invariant.slots c.push.new.self.items c.in_ok-push.ensures.items;
      low = omega arith;
      high = omega arith;
    }

pub returns-clause-most : goal.returns-clause-most
returns-clause-most c =
    let long = growing-length c.args.slots.now.items c.loop-word.slots.items c.loop-word.word c.loop-word.invariant.low c.loop-word.invariant.slots in
    let high = c.loop-word.invariant.high in
    let most = c.requires in
    λ few. omega arith
