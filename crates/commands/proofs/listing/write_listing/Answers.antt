use Rattle.std.proofs.Common.{◌≡◌, ◌<◌, ◌≤◌, ◌∙◌, if◌then◌else◌, arith, refl, subst, ℕ}
use Rattle.sim_io.proofs.Pages.{stands_first, stands_moved, stands_more, stands_front, stands_all}
use Rattle.sim_io.specs.Outside.{Rose}
use Rattle.avr_decoder.specs.Words.{is_two_words}
use Rattle.ihex_loader.specs.Flash.{word_at}
use Rattle.command_plans.specs.Ends.{stream}
use Rattle.commands.specs.Listing.{words_used}
use Rattle.commands.proofs.Lines.{lines_left_all, lines_left_none, lines_left_step, first_step, two_at_most, word_0_first}
use Rattle.commands.proofs.listing.write_listing.Goals as goal

pub loop-pc-init : goal.loop-pc-init
loop-pc-init g c = record {
  stands = stands_first _ _ _ _ c.new-page.ensures (lines_left_all c.args.flash.now);
  count = refl;
  first = word_0_first (word_at c.args.flash.now.bytes);
  small = omega arith;
}

pub returns-in_default : goal.returns-in_default
returns-in_default g c = record {
  front = stands_front _ _ _ _ _ _ c.loop-pc.invariant.stands c.in_default.ensures.front;
  rose = subst (λ (n : ℕ). Rose n (g.O.Sink.faults c.make_room.new.sink)) c.loop-pc.invariant.count c.in_default.ensures.rose;
}

pub loop-pc-preserved : goal.loop-pc-preserved
loop-pc-preserved g c =
    let word = word_at c.args.flash.now.bytes in
    let pc = c.loop-pc.pc in
    let words : c.from-pc.result ≡ (if is_two_words (word pc) then 2 else 1) = c.from-pc.ensures ∙ c.put_instruction.ensures.words in
    let most : c.from-pc.result ≤ 2 = two_at_most (is_two_words (word pc)) c.from-pc.result words in
    let within : pc < words_used c.args.flash.now = omega arith in
    record {
      stands = stands_more _ _ _ _ _ _ _ _
          (stands_moved _ _ _ _ _ _ _ c.loop-pc.invariant.stands c.in-Ok.ensures.moved)
          (lines_left_step word _ pc c.from-pc.result within c.loop-pc.invariant.first words) c.put_instruction.ensures.line;
      count = c.in-Ok.ensures.ok ∙ c.loop-pc.invariant.count;
      first = first_step word pc c.from-pc.result c.loop-pc.invariant.first words;
      small = omega arith;
    }

pub returns-in-Ok-write_all : goal.returns-in-Ok-write_all
returns-in-Ok-write_all g c =
    let past : words_used c.args.flash.now ≤ c.loop-pc.pc = omega arith in
    let taken = stands_all _ _ _ _ _ _ c.loop-pc.invariant.stands (lines_left_none _ _ c.loop-pc.pc past)
    (rw (c.as_bytes.ensures.value, c.as_str.ensures.value) at c.in-Ok-write_all.ensures.taken) in
    λ i. stream (taken i) ((c.in-Ok-write_all.ensures.ok ∙ c.loop-pc.invariant.count) i)

pub returns-in-Err : goal.returns-in-Err
returns-in-Err g c = record {
  front = stands_front _ _ _ _ _ _ c.loop-pc.invariant.stands (rw (c.as_bytes.ensures.value, c.as_str.ensures.value) at c.in-Err.ensures.front);
  rose = subst (λ (n : ℕ). Rose n (g.O.Sink.faults c.write_all.new.sink)) c.loop-pc.invariant.count c.in-Err.ensures.rose;
}
