use Rattle.std.proofs.Common.{filter, ◌≡◌, ◌<◌, ◌≤◌, length, List, sym, subst, ◌∙◌, ap, arith, rules}
use Rattle.std.specs.Prelude.{vec_len, vec_capacity}
use Rattle.std.specs.List.{All}
use Rattle.std.proofs.lemmas.List.Elements.{All-filter}
use Rattle.air_base.specs.declared.air.Send.{Send}
use Rattle.world_core.specs.Kept.{is_kept}
use Rattle.world_core.specs.Chain.{IsChain, AreNewest}
use Rattle.world_core.proofs.Cutting.{shorter, log_cut}
use Rattle.world_core.proofs.log.SendLog.cut.Goals as goal

pub chained-self-inside-requires-clause-nodes : goal.chained-self-inside-requires-clause-nodes
chained-self-inside-requires-clause-nodes c =
    subst (All (λ (x : Send). x.node < 64)) (sym (c.deref.ensures.value ∙ c.keep.ensures.items))
    (All-filter (is_kept c.args.topo.now c.args.floor) (λ (x : Send). x.node < 64) c.self.inside.sends.items c.self.invariant.0.nodes)

pub chained-self-inside-requires-clause-room : goal.chained-self-inside-requires-clause-room
chained-self-inside-requires-clause-room c =
    let h = shorter (is_kept c.args.topo.now c.args.floor) c.self.inside.sends.items in
    let e = ap length (c.deref.ensures.value ∙ c.keep.ensures.items) in
    let p = c.self.invariant.0.chain.places in
    let a : vec_len c.self.inside.ways ≡ length c.self.inside.ways.items = search rules in
    let b : vec_len c.self.inside.ways ≤ vec_capacity c.self.inside.ways = search rules in
    omega arith

pub invariant_of-self : goal.invariant_of-self
invariant_of-self c =
    let m = c.keep.new.sends.items in
    let ways = c.chained-self-inside.new.ways.items in
    let chain : IsChain m ways = subst (λ (l : List Send). IsChain l ways) c.deref.ensures.value c.chained-self-inside.ensures.chain in
    let ends : AreNewest m c.chained-self-inside.result = subst (λ (l : List Send). AreNewest l c.chained-self-inside.result) c.deref.ensures.value c.chained-self-inside.ensures.last in (
      log_cut (is_kept c.args.topo.now c.args.floor) c.self.inside.sends.items m c.self.inside.ways.items c.self.inside.last ways c.chained-self-inside.result c.self.invariant.0 c.keep.ensures.items chain ends,
      (let a = c.keep.ensures.capacity in let b = c.self.invariant.1 in omega arith),
      (let a = c.chained-self-inside.ensures.capacity in let b = c.self.invariant.2 in omega arith),
    )
