-- The SRAM of each node of a run has the size that it has where the run begins.
use Rattle.std.proofs.Common.{◌≡◌, ℕ, zero, suc, ◌+◌, ◌-◌, ◌<◌, ◌≤◌, Bool, true, false, cond, length, refl, ◌∙◌, ap, arith}
use Rattle.air_base.specs.NodeKind.{ticked}
use Rattle.air_base.specs.declared.air.Heard.{Heard}
use Rattle.data_space.specs.declared.regions.TheConstants.{SRAM_LEN}
use Rattle.node_core.specs.Cycle.{begun_in, finished_in, node_kind}
use Rattle.node_core.specs.State.{NodeState}
use Rattle.node_core.specs.declared.row.Row.{Row}
use Rattle.node_core.proofs.Sized.{begun_size, finished_size}
use Rattle.world_core.specs.Order.{Moment, hears, node_at, world_at}
use Rattle.world_core.proofs.Sends.{first}
use Rattle.fleet_flight.specs.Alone.{alone}
use Rattle.fleet_flight.specs.Origin.{Origin, flown}
use Rattle.fleet_flight.specs.Shadows.{AreSized}
use Rattle.fleet_flight.proofs.Ordered.{along}

size_case : (n : ℕ) (b : Bool) (p q : NodeState) → length p.sram ≡ n → length q.sram ≡ n → length (cond b p q).sram ≡ n
size_case n true p q h k = h
size_case n false p q h k = k

ticked_size : (t : ℕ) (s : NodeState) (h : Heard) → length (ticked node_kind t s h).sram ≡ length s.sram
ticked_size t s h =
    size_case (length s.sram) (node_kind.asks t s) (finished_in t (begun_in t s) h) (begun_in t s) (finished_size t (begun_in t s) h ∙ begun_size t s) (begun_size t s)

alone_size : (h : ℕ → Heard) (t n : ℕ) (s : NodeState) → length (alone node_kind h t n s).sram ≡ length s.sram
unfolding alone
alone_size h t zero s = refl
alone_size h t (suc n) s = ticked_size (t + n) (alone node_kind h t n s) (h (t + n)) ∙ alone_size h t n s

pub sized_at : (o : Origin) → AreSized o → (k c : ℕ) → k < o.topo.nodes → o.cycle ≤ c → length (node_at (flown o) k c).sram ≡ SRAM_LEN
sized_at o sized k c lt le =
    let n : ℕ = c - o.cycle in
    let e : c ≡ o.cycle + n = omega arith in
    let hear : ℕ → Heard = λ t. hears (flown o) t (world_at (flown o) t) k in
    let begun : node_at (flown o) k o.cycle ≡ o.states k = ap (λ (w : Moment NodeState Row). w.state k) (first (flown o)) in
    ap (λ (t : ℕ). length (node_at (flown o) k t).sram) e
    ∙ (ap (λ (s : NodeState). length s.sram) (along (flown o) k o.cycle hear (omega arith) n (λ i l. refl))
    ∙ (alone_size hear o.cycle n (node_at (flown o) k o.cycle) ∙ (ap (λ (s : NodeState). length s.sram) begun ∙ sized k lt)))
