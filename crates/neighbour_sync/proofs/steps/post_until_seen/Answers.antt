use Rattle.neighbour_sync.proofs.Telling.{told_again, told_rises}
use Rattle.neighbour_sync.proofs.steps.post_until_seen.Goals as goal

pub loop-preserved : goal.loop-preserved
loop-preserved g c =
    let i = c.loop.invariant in
    let seen = c.post_once.ensures in
    let new = c.post_once.new.seat in
    record {
      next = tt;
      finite = tt;
      same = told_again c.args.seat.now c.loop.seat new new.told i.same seen.same;
      rises = told_rises c.args.seat.now c.loop.seat new new.told i.rises seen.rises seen.same;
    }

pub returns-then-post_once : goal.returns-then-post_once
returns-then-post_once g c =
    let i = c.loop.invariant in
    let seen = c.post_once.ensures in
    let new = c.post_once.new.seat in
    record {
      told = seen.told c.if-post_once.true;
      rises = told_rises c.args.seat.now c.loop.seat new new.told i.rises seen.rises seen.same;
      same = told_again c.args.seat.now c.loop.seat new new.told i.same seen.same;
    }
