use Rattle.std.proofs.Common.{◌≡◌, ◌≤◌, ◌<◌, ◌+◌, ℕ, suc, List, length, ◌++◌, [], ◌∷◌, get_or, sym, subst, ◌∙◌, ap, arith}
use Rattle.std.specs.Prelude.{slice_set}
use Rattle.world_core.specs.declared.ways.JumpPointer.{JumpPointer}
use Rattle.world_core.specs.Chain.{no_send, send_at, newest}
use Rattle.world_core.proofs.Chained.{newest_le}
use Rattle.world_core.proofs.Building.{Built, built_more}
use Rattle.world_core.proofs.ways.chained.Goals as goal

-- the place handed on is no more than the sends so far
pub way_from-way-requires-clause-before : goal.way_from-way-requires-clause-before
way_from-way-requires-clause-before c =
    let l = c.args.sends.now in
    let n : ℕ = c.loop-place.place in
    let b = c.loop-place.invariant.built in
    let lt = c.requires.nodes n no_send c.loop-place-test.true in
    let e = b.ends (send_at l n).node lt in
    let h = newest_le l (send_at l n).node n in
    let q = ap (λ (k : ℕ). get_or c.loop-place.last k 0) c.from-node.ensures in
    let d = ap length c.deref.ensures.value in
    let p = b.places in
    omega arith

pub loop-place-preserved : goal.loop-place-preserved
loop-place-preserved c =
    let l = c.args.sends.now in
    let n : ℕ = c.loop-place.place in
    let b = c.loop-place.invariant.built in
    let k : ℕ = (send_at l n).node in
    let lt : k < 64 = c.requires.nodes n no_send c.loop-place-test.true in
    let way : JumpPointer = c.way_from-way.result in
    let same : c.from-node.result ≡ k = c.from-node.ensures in
    let before = c.way_from-way.ensures.before ∙ ap (λ (m : ℕ). get_or c.loop-place.last m 0) same in
    let far : way.far ≤ n = (let h = newest_le l k n in let e = b.ends k lt in let f = c.way_from-way.ensures.far in let g = c.way_from-way.ensures.before in omega arith) in
    let q : suc n ≡ n + 1 = omega arith in
    record {
      built = subst (λ (v : ℕ × ℕ × List JumpPointer). Built l v.2 (slice_set c.loop-place.last v.0 v.1) v.1) (λ i. (sym same i, q i, sym c.push_reserved.ensures.items i)) (built_more l c.loop-place.ways.items c.loop-place.last n way lt before far b);
      capacity = c.push_reserved.ensures.capacity ∙ c.loop-place.invariant.capacity;
    }
