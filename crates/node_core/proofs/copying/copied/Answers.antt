use Rattle.std.proofs.Common.{◌≡◌, ℕ, ◌+◌, ◌-◌, ◌∙◌, ap, arith, length, refl, slice_index, slice_set, sym, take}
use Rattle.std.proofs.lemmas.List.{length-set, length-replicate, take_all}
use Rattle.data_space.specs.Memory.{zeros}
use Rattle.node_core.proofs.Saved.{copied}
use Rattle.node_core.proofs.copying.copied.Goals as goal

pub loop-k-init : goal.loop-k-init
unfolding zeros
loop-k-init c = let zero : ℕ = 0 in record { len = ap length c.in_ok-sram.ensures ∙ length-replicate 4096 zero; same = refl }

pub loop-k-preserved : goal.loop-k-preserved
loop-k-preserved c =
    let len = c.loop-k.invariant.len in
    let low = c.loop-k-test.true in
    let long = c.requires in
    let at : 256 + c.loop-k.k - 256 ≡ c.loop-k.k = omega arith in
    let byte = c.get.ensures ∙ ap (slice_index c.args.from.now) at in
    let put = c.put.ensures ∙ ap (λ k. slice_set c.loop-k.sram k c.get.result) at in
    record {
      len = ap length put ∙ length-set c.loop-k.sram c.loop-k.k c.get.result ∙ len;
      same = ap (take (c.loop-k.k + 1)) put ∙ copied c.loop-k.sram c.args.from.now c.loop-k.k c.get.result (omega arith) (omega arith) byte c.loop-k.invariant.same;
    }

pub returns : goal.returns
returns c =
    let len = c.loop-k.invariant.len in
    let past = c.loop-k-test.false in
    let long = c.requires in
    sym (take_all c.loop-k.k c.loop-k.sram (omega arith)) ∙ c.loop-k.invariant.same ∙ take_all c.loop-k.k c.args.from.now (omega arith)
