use Rattle.std.proofs.Common.{◌≡◌, ℕ, ◌+◌, ◌*◌, ◌/◌, ◌≤◌, ◌∙◌, ap, subst, arith}
use Rattle.world_core.specs.Topology.{Topology}
use Rattle.world_core.specs.Settled.{room_of}
use Rattle.world_core.specs.Chain.{LogFacts}
use Rattle.sync_core.proofs.Inductive.{opens_as}
use Rattle.sync_core.proofs.machine.Core.new.Goals as goal

room : (t u : Topology) (n m l b cap : ℕ) → u ≡ t → n ≡ m → m ≡ u.nodes → l ≡ u.limit → b ≡ u.byte_time → n * (l / b + 1) ≤ cap → room_of t ≤ cap
room t u n m l b cap q e f x y h = subst (λ (v : Topology). room_of v ≤ cap) q (rw (← y, ← x, ← f, ← e) h)

pub invariant_of-result : goal.invariant_of-result
invariant_of-result g c = (
  opens_as (g.W.World.facts c.args.world) c.from-nodes.result c.in_ok-vec.field-0.items c.in_ok-vec-2.field-0.items c.in_ok-new.field-0.sends c.new-2.result.items c.topo-topo.ensures.lawful
      (c.from-nodes.ensures ∙ c.nodes.ensures.value ∙ ap (λ (t : Topology). t.nodes) c.topo-topo.ensures.same)
      (c.in_ok-vec.ensures.items_if_clones_equal (λ y h. h)) (c.in_ok-vec-2.ensures.items_if_clones_equal (λ y h. h)) (ap (λ (l : LogFacts). l.sends) c.in_ok-new.ensures) c.new-2.ensures.items,
  room (g.W.World.facts c.args.world).topo c.topo-topo.result.now c.from-nodes.result c.nodes.result c.limit.result c.byte_time.result c.in_ok-new.field-0.room c.topo-topo.ensures.same
      c.from-nodes.ensures c.nodes.ensures.value c.limit.ensures.value c.byte_time.ensures.value (let r = ap (λ (l : LogFacts). l.room) c.in_ok-new.ensures in omega arith),
)

pub returns-clause-consistent : goal.returns-clause-consistent
returns-clause-consistent g c =
    opens_as (g.W.World.facts c.args.world) c.from-nodes.result c.in_ok-vec.field-0.items c.in_ok-vec-2.field-0.items c.in_ok-new.field-0.sends c.new-2.result.items c.topo-topo.ensures.lawful
    (c.from-nodes.ensures ∙ c.nodes.ensures.value ∙ ap (λ (t : Topology). t.nodes) c.topo-topo.ensures.same)
    (c.in_ok-vec.ensures.items_if_clones_equal (λ y h. h)) (c.in_ok-vec-2.ensures.items_if_clones_equal (λ y h. h)) (ap (λ (l : LogFacts). l.sends) c.in_ok-new.ensures) c.new-2.ensures.items
