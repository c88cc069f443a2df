use Rattle.std.proofs.Common.{ℕ, sym, ap, ◌∙◌}
use Rattle.avr_timers.specs.Registers16.{get_of}
use Rattle.avr_timers.specs.declared.timer16.Timer16.{Timer16}
use Rattle.avr_timers.proofs.Later16.{temp_alone, temp_cycles, with_temp}
use Rattle.board_io.proofs.lagging_registers.late_16.Goals as goal

pub returns-clause-got : goal.returns-clause-got
returns-clause-got c =
    let s : ℕ = c.args.cycle in
    let n : ℕ = c.args.n in
    let x : ℕ = c.get-byte.new.self.temp in
    let alone = temp_alone c.leap.new.self c.args.reg c.get-byte.result c.get-byte.new.self c.get-byte.ensures in
    ap (λ (u : Timer16). get_of u c.args.reg) (sym c.leap.ensures)
    ∙ (c.get-byte.ensures
    ∙ ap (λ (u : Timer16). (c.get-byte.result, u)) (alone ∙ (ap (with_temp x) c.leap.ensures ∙ sym (temp_cycles s n x c.args.timer.now))))
