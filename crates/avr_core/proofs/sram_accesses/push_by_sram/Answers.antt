use Rattle.std.proofs.Common.{◌≡◌, ap, sym, ◌∙◌}
use Rattle.data_space.specs.Core.{core_of, whole}
use Rattle.data_space.specs.Sequence.{pushed_word}
use Rattle.data_space.specs.Space.{Access}
use Rattle.avr_core.specs.Execute.{pushed_as}
use Rattle.avr_core.proofs.Pushes.{word_core}
use Rattle.avr_core.proofs.sram_accesses.push_by_sram.Goals as goal
use Rattle.avr_core.proofs.sram_accesses.push_by_sram.Goals.{in-Ok, in-Err}

pub returns-then-is_in_sram-2-clause-pushed : goal.returns-then-is_in_sram-2-clause-pushed
returns-then-is_in_sram-2-clause-pushed g c h =
    let p = c.push_both in
    let e : (let a : Access (Unit {0}) g.row.B.Denot = record { result = p.result; cpu = whole p.new.regs p.new.core; bus = p.new.bus } in a) ≡ pushed_word g.B.Bus.put_gives c.args.word (whole c.args.regs.now c.args.core) c.args.bus.now =
    λ i. let a : Access (Unit {0}) g.row.B.Denot = record { result = p.ensures.result i; cpu = p.ensures.core i; bus = p.ensures.bus i } in a in
    let same : p.new.core ≡ c.args.core = ap (λ (a : Access (Unit {0}) g.row.B.Denot). core_of a.cpu) e ∙ word_core g.B.Bus.put_gives c.args.word (whole c.args.regs.now c.args.core) c.args.bus.now h in
    let told : pushed_as c.match-push_both.result ≡ p.result = elim c.match-push_both.branch [
      | in-Ok w ↦ ap pushed_as w.result-is ∙ sym w.in-Ok.is
      | in-Err w ↦ ap pushed_as w.result-is ∙ sym w.in-Err.is
    ] in
    (λ i. let a : Access (Unit {0}) g.row.B.Denot = record { result = told i; cpu = whole p.new.regs (sym same i); bus = p.new.bus } in a) ∙ e
