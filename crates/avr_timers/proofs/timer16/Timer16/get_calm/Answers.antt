use Rattle.std.proofs.Common.{◌≡◌, inl, inr, ap, ◌∙◌, false}
use Rattle.avr_timers.specs.Clock.{cycles}
use Rattle.avr_timers.specs.Registers16.{get_of}
use Rattle.avr_timers.specs.Timer16.{timer_cycle}
use Rattle.avr_timers.proofs.Later16.{get_count, get_other, is_count, temp_alone}
use Rattle.avr_timers.proofs.timer16.Timer16.get_calm.Goals as goal

pub returns-in-CountL-clause-got : goal.returns-in-CountL-clause-got
returns-in-CountL-clause-got c =
    ap (get_of (cycles timer_cycle c.args.cycle c.args.n c.args.self.now)) c.in-CountL.is
    ∙ get_count c.args.cycle c.args.n c.count_calm-count.result c.low_first.result c.args.self.now c.low_first.new.self c.count_calm-count.ensures c.low_first.ensures.value c.low_first.ensures.state

pub returns-in-ControlA-clause-got : goal.returns-in-ControlA-clause-got
returns-in-ControlA-clause-got c =
    let other : is_count c.args.reg ≡ false =
    elim c.in-ControlA.is [
      | inl a ↦ ap is_count a
      | inr (inl a) ↦ ap is_count a
      | inr (inr (inl a)) ↦ ap is_count a
      | inr (inr (inr (inl a))) ↦ ap is_count a
      | inr (inr (inr (inr (inl a)))) ↦ ap is_count a
      | inr (inr (inr (inr (inr (inl a))))) ↦ ap is_count a
      | inr (inr (inr (inr (inr (inr (inl a)))))) ↦ ap is_count a.1
      | inr (inr (inr (inr (inr (inr (inr a)))))) ↦ ap is_count a.1
    ] in
    get_other c.args.cycle c.args.n c.args.self.now c.args.reg c.get.result c.get.new.self other c.get.ensures

pub returns-in-ControlA-clause-others : goal.returns-in-ControlA-clause-others
returns-in-ControlA-clause-others c = temp_alone c.args.self.now c.args.reg c.get.result c.get.new.self c.get.ensures
