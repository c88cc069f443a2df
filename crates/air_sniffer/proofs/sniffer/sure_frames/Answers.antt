use Rattle.std.proofs.Common.{◌∙◌, sym, rules}
use Rattle.air_sniffer.proofs.Walks.{goes, closed, sure_on, open_on, sure_end, open_end, sure_stop, open_stop}
use Rattle.air_sniffer.proofs.sniffer.sure_frames.Goals as goal
use Rattle.air_sniffer.proofs.sniffer.sure_frames.Goals.{then-loop-at-test+else-not-is_open, else-loop-at-test}

pub overflow_add-at : goal.overflow_add-at
overflow_add-at c = let g = goes c.args.sends.now c.loop-at.at c.in_ok-at.field-0 c.loop-at-test.true c.in_ok-at.ensures.passed in search rules

pub loop-at-smaller : goal.loop-at-smaller
loop-at-smaller c = let g = goes c.args.sends.now c.loop-at.at c.in_ok-at.field-0 c.loop-at-test.true c.in_ok-at.ensures.passed in search rules

pub loop-at-preserved : goal.loop-at-preserved
loop-at-preserved c =
    let g = goes c.args.sends.now c.loop-at.at c.in_ok-at.field-0 c.loop-at-test.true c.in_ok-at.ensures.passed in
    let shut = closed c.args.sends.now c.loop-at.at (sym c.if-not-is_open.ensures) in
    record {
      within = g.within;
      frames = sure_on c.args.sends.now c.loop-at.at c.in_ok-at.field-0 c.loop-at.frames.items c.step.new.frames.items g shut c.in_ok-at.ensures.frames ∙ c.loop-at.invariant.frames;
      rest = open_on c.args.sends.now c.loop-at.at c.in_ok-at.field-0 g shut ∙ c.loop-at.invariant.rest;
    }

pub returns-clause-frames : goal.returns-clause-frames
returns-clause-frames c = elim c.loop-at-test.branch [
  | then-loop-at-test+else-not-is_open w ↦ sure_stop c.args.sends.now c.loop-at.at c.loop-at.frames.items (sym w.if-not-is_open.ensures) c.loop-at.invariant.frames
  | else-loop-at-test w ↦ sure_end c.args.sends.now c.loop-at.at c.loop-at.frames.items c.loop-at.invariant.within w.loop-at-test.false c.loop-at.invariant.frames
]

pub returns-clause-rest : goal.returns-clause-rest
returns-clause-rest c = elim c.loop-at-test.branch [
  | then-loop-at-test+else-not-is_open w ↦ open_stop c.args.sends.now c.loop-at.at (sym w.if-not-is_open.ensures) c.loop-at.invariant.rest
  | else-loop-at-test w ↦ open_end c.args.sends.now c.loop-at.at c.loop-at.invariant.within w.loop-at-test.false c.loop-at.invariant.rest
]
