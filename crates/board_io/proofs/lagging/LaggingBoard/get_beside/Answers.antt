use Rattle.std.proofs.Common.{◌≡◌, ℕ, ◌-◌, sym, ◌∙◌, subst}
use Rattle.avr_timers.specs.Clock.{cycles}
use Rattle.avr_timers.specs.Registers16 as reg16
use Rattle.avr_timers.specs.Registers8 as reg8
use Rattle.avr_timers.specs.Timer16 as timer16
use Rattle.avr_timers.specs.Timer8 as timer8
use Rattle.board_io.specs.Table.{rule_of}
use Rattle.board_io.proofs.Apart.{ahead_t1, ahead_t3, read_t0, read_t1, read_t2, read_t3}
use Rattle.board_io.proofs.lagging.LaggingBoard.get_beside.Goals as goal

pub returns-in-Timer0 : goal.returns-in-Timer0
returns-in-Timer0 c =
    let i = c.self.inside in
    let s = i.ahead.settled in
    let got = subst (λ (k : ℕ). c.late_8.result ≡ reg8.get_of (cycles timer8.timer_cycle s (k - s) i.held.board.t0) c.in-Timer0.reg) c.get.ensures.value c.late_8.ensures in
    read_t0 (rule_of c.args.at) i.held.board c.args.self.now c.args.at s i.held.clock c.late_8.result c.self.view_is c.in-Timer0.reg (sym c.listed_rule-rule.ensures ∙ c.in-Timer0.is) got

pub returns-in-Timer1 : goal.returns-in-Timer1
returns-in-Timer1 c =
    let i = c.self.inside in
    let s = i.ahead.settled in
    let got = subst (λ (k : ℕ). reg16.get_of (cycles timer16.timer_cycle s (k - s) i.held.board.t1) c.in-Timer1.reg ≡ (c.late_16.result, cycles timer16.timer_cycle s (k - s) c.late_16.new.timer)) c.get.ensures.value c.late_16.ensures.got in
    read_t1 (rule_of c.args.at) i.held.board c.args.self.now c.args.at s i.held.clock c.late_16.result c.self.view_is c.in-Timer1.reg c.late_16.new.timer (sym c.listed_rule-rule.ensures ∙ c.in-Timer1.is) got

pub returns-in-Timer2 : goal.returns-in-Timer2
returns-in-Timer2 c =
    let i = c.self.inside in
    let s = i.ahead.settled in
    let got = subst (λ (k : ℕ). c.late_8-in-Timer2.result ≡ reg8.get_of (cycles timer8.timer_cycle s (k - s) i.held.board.t2) c.in-Timer2.reg) c.get.ensures.value c.late_8-in-Timer2.ensures in
    read_t2 (rule_of c.args.at) i.held.board c.args.self.now c.args.at s i.held.clock c.late_8-in-Timer2.result c.self.view_is c.in-Timer2.reg (sym c.listed_rule-rule.ensures ∙ c.in-Timer2.is) got

pub returns-in-Timer3 : goal.returns-in-Timer3
returns-in-Timer3 c =
    let i = c.self.inside in
    let s = i.ahead.settled in
    let got = subst (λ (k : ℕ). reg16.get_of (cycles timer16.timer_cycle s (k - s) i.held.board.t3) c.in-Timer3.reg ≡ (c.late_16-in-Timer3.result, cycles timer16.timer_cycle s (k - s) c.late_16-in-Timer3.new.timer)) c.get.ensures.value c.late_16-in-Timer3.ensures.got in
    read_t3 (rule_of c.args.at) i.held.board c.args.self.now c.args.at s i.held.clock c.late_16-in-Timer3.result c.self.view_is c.in-Timer3.reg c.late_16-in-Timer3.new.timer (sym c.listed_rule-rule.ensures ∙ c.in-Timer3.is) got

pub invariant_of-self : goal.invariant_of-self
invariant_of-self c = ahead_t1 c.self.inside.ahead c.self.inside.held.clock c.self.inside.held.board c.late_16.new.timer c.late_16.ensures.others c.self.invariant

pub invariant_of-self-in-Timer3 : goal.invariant_of-self-in-Timer3
invariant_of-self-in-Timer3 c = ahead_t3 c.self.inside.ahead c.self.inside.held.clock c.self.inside.held.board c.late_16-in-Timer3.new.timer c.late_16-in-Timer3.ensures.others c.self.invariant
