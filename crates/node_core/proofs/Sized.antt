-- The SRAM of a node has as many bytes after a cycle as before.
use Rattle.std.proofs.Common.{◌≡◌, ℕ, Bool, true, false, cond, is_some, length, refl, ap, ◌∙◌, length-set}
use Rattle.air_base.specs.declared.air.Heard.{Heard}
use Rattle.node_core.specs.Cycle.{begun_in, cpu_cycle, devices_cycle, finished_in}
use Rattle.node_core.specs.State.{NodeState}
use Rattle.node_core.specs.declared.bus.NodeBus.{NodeBus}
use Rattle.node_core.proofs.Untouched.{cpu_keeps}

abbrev bus_size : NodeBus → ℕ
bus_size bus = length bus.sram

abbrev size_of : NodeState → ℕ
size_of s = length s.sram

cpu_size : (t : ℕ) (s : NodeState) → size_of (cpu_cycle t s) ≡ size_of s
cpu_size =
    cpu_keeps {part = bus_size} {of_state = size_of}
    (record { got = λ bus io at x e. refl; put = λ bus io at x e. refl; stored = λ bus i x. length-set bus.sram i x })
    (record { same = λ s bus e f. ap (λ xs. length xs) f; served = λ s bus word e f. ap (λ xs. length xs) f })

state_case : (v : ℕ) (b : Bool) (p q : NodeState) → size_of p ≡ v → size_of q ≡ v → size_of (cond b p q) ≡ v
state_case v true p q h k = h
state_case v false p q h k = k

devices_size : (t : ℕ) (s : NodeState) → size_of (devices_cycle t s) ≡ size_of s
unfolding devices_cycle
devices_size t s = state_case (size_of s) (is_some s.stop) _ _ refl refl

pub begun_size : (t : ℕ) (s : NodeState) → length (begun_in t s).sram ≡ length s.sram
unfolding begun_in
begun_size t s = state_case (size_of s) (is_some s.stop) _ _ refl (devices_size t (cpu_cycle t s) ∙ cpu_size t s)

pub finished_size : (t : ℕ) (s : NodeState) (h : Heard) → length (finished_in t s h).sram ≡ length s.sram
finished_size t s h = refl
