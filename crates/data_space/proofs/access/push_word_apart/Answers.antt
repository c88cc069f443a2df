use Rattle.std.proofs.Common.{refl, sym, ap, ◌∙◌}
use Rattle.data_space.specs.declared.cpu.Core.{Core}
use Rattle.data_space.specs.declared.cpu.Cpu.{Cpu}
use Rattle.data_space.specs.Core.{whole}
use Rattle.data_space.proofs.Stops.{pushed_word_pc}
use Rattle.data_space.proofs.access.push_word_apart.Goals as goal

pub returns-clause-core : goal.returns-clause-core
returns-clause-core g c =
    let e = c.push_both-result.ensures.core in
    let a = c.args in
    let pc = ap (λ (cpu : Cpu). cpu.pc) e ∙ pushed_word_pc g.B.Bus.put_gives a.core.pc a.word (whole a.regs.now a.core) a.bus.now refl in
    let there = c.push_both-result.new.core in
    (λ i. whole c.push_both-result.new.regs (let x : Core = record { sreg = there.sreg; pc = (sym pc) i } in x)) ∙ e
