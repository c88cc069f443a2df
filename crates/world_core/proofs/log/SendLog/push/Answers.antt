use Rattle.std.proofs.Common.{◌≡◌, ℕ, suc, ◌<◌, ◌≤◌, ◌++◌, [], ◌∷◌, length, get_or, List, sym, subst, ◌∙◌, ap, arith, rules}
use Rattle.std.specs.Prelude.{slice_index, slice_set, vec_len}
use Rattle.std.specs.List.{All}
use Rattle.air_base.specs.declared.air.Send.{Send}
use Rattle.world_core.specs.Sends.{sends_of}
use Rattle.world_core.specs.declared.ways.JumpPointer.{JumpPointer}
use Rattle.world_core.specs.Chain.{IsLog, IsAfter, LogFacts}
use Rattle.world_core.proofs.Chained.{newest_le}
use Rattle.world_core.proofs.Building.{log_push, after_own}
use Rattle.world_core.proofs.log.SendLog.push.Goals as goal

pub way_from-way-requires-clause-before : goal.way_from-way-requires-clause-before
way_from-way-requires-clause-before c =
    let l = c.self.inside.sends.items in
    let g = c.self.invariant.0 in
    let e = g.places c.args.send.node c.requires.node in
    let h = newest_le l c.args.send.node (length l) in
    let q = ap (λ (k : ℕ). get_or c.self.inside.last k 0) c.from-node.ensures in
    let d = ap length c.deref.ensures.value in
    let p = g.chain.places in
    omega arith

log_at : (l m : List Send) (x : Send) (b c : List JumpPointer) (last : List ℕ) (w : JumpPointer) (k n : ℕ) → length last ≡ 64 → x.node < 64 → w.before ≡ slice_index last x.node → w.far ≤ length l → All (IsAfter x) l → IsLog l b last → k ≡ x.node → n ≡ suc (length l)
    → m ≡ l ++ x ∷ [] → c ≡ b ++ w ∷ [] → IsLog m c (slice_set last k n)
log_at l m x b c last w k n size lt before far after g e f p q =
    subst (λ (v : ℕ × ℕ × List Send × List JumpPointer). IsLog v.2 v.3 (slice_set last v.0 v.1)) (λ i. (sym e i, sym f i, sym p i, sym q i))
    (log_push l x b last w size lt before far after g)

pub invariant_of-self : goal.invariant_of-self
invariant_of-self c =
    let l = c.self.inside.sends.items in
    let g = c.self.invariant.0 in
    let x = c.args.send in
    let way : JumpPointer = c.way_from-way.result in
    let after : All (IsAfter x) l = after_own x l (subst (λ (f : LogFacts). All (λ (y : Send). y.cycle < x.cycle) (sends_of x.node f.sends)) (sym c.self.view_is) c.requires.after) in
    let len : c.len.result ≡ suc (length l) =
    let a : vec_len c.self.inside.sends ≡ length l = search rules in
    let b = c.push_reserved-2.ensures.len in let d = c.len.ensures in omega arith in
    let before : way.before ≡ slice_index c.self.inside.last x.node = c.way_from-way.ensures.before ∙ ap (λ (k : ℕ). get_or c.self.inside.last k 0) c.from-node.ensures in
    let far : way.far ≤ length l = (let h = newest_le l x.node (length l) in let e = g.places x.node c.requires.node in let f = c.way_from-way.ensures.far in let b = c.way_from-way.ensures.before in let d = before in omega arith) in (
      log_at l c.push_reserved-2.new.self.items x c.self.inside.ways.items c.push_reserved.new.self.items c.self.inside.last way c.from-node.result c.len.result c.self.told c.requires.node before far after g c.from-node.ensures len
          c.push_reserved-2.ensures.items c.push_reserved.ensures.items,
      (let a = c.push_reserved-2.ensures.capacity in let b = c.self.invariant.1 in omega arith),
      (let a = c.push_reserved.ensures.capacity in let b = c.self.invariant.2 in omega arith),
    )
