use Rattle.std.proofs.Common.{◌∙◌, rules}
use Rattle.air_sniffer.proofs.Walks.{goes, frames_on, frames_end}
use Rattle.air_sniffer.proofs.sniffer.all_frames.Goals as goal

pub overflow_add-at : goal.overflow_add-at
overflow_add-at c = let g = goes c.args.sends.now c.loop-at.at c.in_ok-at.field-0 c.loop-at-test.true c.in_ok-at.ensures.passed in search rules

pub loop-at-smaller : goal.loop-at-smaller
loop-at-smaller c = let g = goes c.args.sends.now c.loop-at.at c.in_ok-at.field-0 c.loop-at-test.true c.in_ok-at.ensures.passed in search rules

pub loop-at-preserved : goal.loop-at-preserved
loop-at-preserved c =
    let g = goes c.args.sends.now c.loop-at.at c.in_ok-at.field-0 c.loop-at-test.true c.in_ok-at.ensures.passed in
    record {
      within = g.within;
      frames = frames_on c.args.sends.now c.loop-at.at c.in_ok-at.field-0 c.loop-at.frames.items c.step.new.frames.items g c.in_ok-at.ensures.frames ∙ c.loop-at.invariant.frames;
    }

pub returns : goal.returns
returns c = frames_end c.args.sends.now c.loop-at.at c.loop-at.frames.items c.loop-at.invariant.within c.loop-at-test.false c.loop-at.invariant.frames
