use Rattle.std.proofs.Common.{◌≡◌, ◌≢◌, ◌-◌, ◌%◌, ◌<◌, ℕ, sym, subst, ap, ◌∙◌, arith}
use Rattle.avr_decoder.specs.declared.op.Op.{Op}
use Rattle.avr_decoder.specs.declared.op.Op.TheVariants as op
use Rattle.data_space.specs.declared.cpu.Cpu.{Cpu}
use Rattle.node_core.specs.declared.pace.countdowns.Lowering.{Lowering}
use Rattle.node_core.specs.Pace.Leaps.{IsLongLowering, counter_at}
use Rattle.node_core.proofs.Borrows.{long_lowers}
use Rattle.node_core.proofs.pace.countdowns.long_lowered_by.Goals as goal

pub returns : goal.returns
returns c =
    let from : Cpu = c.args.core.now in
    let d : ℕ = c.in-Subi.d in
    let e : ℕ = c.in-Sbci.high in
    let l : Lowering = record { low = d; high = e; spare = c.saturating_sub-spare.result } in
    let p = c.counter-value.ensures in
    let word : counter_at d e from < 65536 = omega (arith, p.value, c.counter-value.type_inv) in
    let other : e ≢ d = λ same. c.if-get.false (c.get.ensures.value ∙ (same ∙ sym c.get-else-none-ne0.ensures.value)) in
    let spare : c.saturating_sub-spare.result ≡ counter_at d e from % 4096 - 1 = c.saturating_sub-spare.ensures ∙ ap (λ (k : ℕ). k % 4096 - 1) p.value in
    let first : op.Subi d 1 ≡ c.args.op.now = ap (op.Subi d) (sym c.if-k-ne1.false) ∙ sym c.in-Subi.is in
    let next : op.Sbci e 0 ≡ c.args.next.now = ap (op.Sbci e) (sym c.if-none-ne0.false) ∙ sym c.in-Sbci.is in
    subst (λ (o : Op). IsLongLowering o c.args.next.now from l) first
    (subst (λ (o : Op). IsLongLowering (op.Subi d 1) o from l) next
    (long_lowers d e from l (λ i. let k : Lowering = record { low = d; high = e; spare = spare i } in k) word p.byte p.low_there p.high_there other))
