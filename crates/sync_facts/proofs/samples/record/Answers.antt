use Rattle.std.proofs.Common.{◌≡◌, ◌<◌, ◌*◌, ◌+◌, ◌%◌, ◌==◌, ℕ, ◌++◌, [], ◌∷◌, length, length-append, subst, sym, ◌∙◌, ap, arith}
use Rattle.std.specs.List.{All}
use Rattle.std.proofs.lemmas.List.Elements.{All-filter, All-push, All-weaker}
use Rattle.air_base.specs.declared.air.Send.{Send}
use Rattle.world_core.specs.Topology.{IsInside}
use Rattle.world_core.specs.Chain.{LogFacts}
use Rattle.sync_facts.proofs.samples.record.Goals as goal

pub push-requires-clause-after : goal.push-requires-clause-after
push-requires-clause-after c =
    All-filter (λ (x : Send). x.node == c.loop-number.number % 64) (λ (x : Send). x.cycle < 16 * c.loop-number.number) c.loop-number.log.sends c.loop-number.invariant.below

pub loop-number-preserved : goal.loop-number-preserved
loop-number-preserved c =
    let n : ℕ = c.loop-number.number in
    let l = c.loop-number.log.sends in
    let i = c.loop-number.invariant in
    let x : Send = record { node = n % 64; cycle = 16 * n; byte = n % 251 } in
    let more : c.push.new.self.sends ≡ l ++ x ∷ [] = ap (λ (f : LogFacts). f.sends) c.push.ensures in
    let lt = c.loop-number-test.true in
    record {
      inside = subst (All (λ (y : Send). IsInside c.args.topo.now y.node y.cycle)) (sym more) (All-push (λ (y : Send). IsInside c.args.topo.now y.node y.cycle) l x i.inside
          (let w = c.requires.within in let m = c.requires.nodes in let e = c.loop-number.auto.number-end in (omega arith, omega arith)));
      below = subst (All (λ (y : Send). y.cycle < 16 * (n + 1))) (sym more) (All-push (λ (y : Send). y.cycle < 16 * (n + 1)) l x (All-weaker (λ (y : Send). y.cycle < 16 * n) (λ (y : Send). y.cycle < 16 * (n + 1)) (λ y h. omega arith) l i.below) (omega arith));
      count = ap length more ∙ length-append l (x ∷ []) ∙ (let q = i.count in omega arith);
      room = ap (λ (f : LogFacts). f.room) c.push.ensures ∙ i.room;
    }
