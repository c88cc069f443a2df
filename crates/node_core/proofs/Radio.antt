-- The radio through a cycle: the processor leaves it as it is, and two sends lie apart.
use Rattle.std.proofs.Common.{◌≡◌, ℕ, ◌+◌, ◌≤◌, Bool, true, false, Some, None, is_some, refl, sym, subst, ap, ◌∙◌, arith}
use Rattle.board_io.specs.declared.board.Board.{Board}
use Rattle.board_io.proofs.Radio as board
use Rattle.serial_ports.specs.declared.radio.Radio.{Radio}
use Rattle.serial_ports.specs.Script.{script_byte}
use Rattle.air_base.specs.declared.air.Heard.{Heard}
use Rattle.node_core.specs.declared.bus.NodeBus.{NodeBus}
use Rattle.node_core.specs.State.{NodeState}
use Rattle.node_core.specs.Cycle.{asks_after, asks_in, begun_in, cpu_cycle, devices_cycle, finished_in, sends_after, sends_in}
use Rattle.node_core.proofs.Cycles.{asks_parts, begun_parts, devices_ask, devices_move, devices_send, sends_parts}
use Rattle.node_core.proofs.Untouched.{cpu_keeps}

abbrev bus_radio : NodeBus → Radio
bus_radio bus = bus.io.board.radio

abbrev radio_of : NodeState → Radio
radio_of s = s.board.radio

-- ---- accesses leave the radio, so does the processor
cpu_radio : (t : ℕ) (s : NodeState) → radio_of (cpu_cycle t s) ≡ radio_of s
cpu_radio =
    cpu_keeps {part = bus_radio} {of_state = radio_of}
    (record {
      got = λ bus io at x e. board.get_radio bus.io io at x e;
      put = λ bus io at x e. board.put_radio bus.io io at x e;
      stored = λ bus i x. refl;
    })
    (record {
      same = λ s bus e f. ap (λ (b : Board). b.radio) e;
      served = λ s bus word e f. ap (λ (b : Board). b.radio) e ∙ board.entered_radio word bus.io.board;
    })

-- ---- through the devices' part
devices_stopped : (t : ℕ) (s : NodeState) → is_some s.stop ≡ true → devices_cycle t s ≡ s
unfolding devices_cycle
devices_stopped t s e = rw e refl

-- no send becomes possible earlier, and two lie as far apart as before
abbrev Onward : Radio → Radio → Type 0
Onward a b = (a.free ≤ b.free) × (b.byte_time ≡ a.byte_time)

devices_on : (t : ℕ) (s : NodeState) (b : Bool) → is_some s.stop ≡ b → Onward (radio_of s) (radio_of (devices_cycle t s))
devices_on t s true e = subst (λ (u : NodeState). Onward (radio_of s) (radio_of u)) (sym (devices_stopped t s e)) (omega arith, refl)
devices_on t s false e =
    subst (λ (u : NodeState). Onward (radio_of s) (radio_of u)) (sym (devices_move t s e))
    (board.begun_free t (script_byte s.script t) s.board, board.begun_gap t (script_byte s.script t) s.board)

none_some : (b : ℕ) → None ≡ Some b → ⊥
none_some b e = cc

true_false : true ≡ false → ⊥
true_false e = cc

silenced : (t : ℕ) (s : NodeState) → is_some s.stop ≡ true → sends_after t s ≡ None
unfolding sends_after
silenced t s e = rw e refl

devices_sends : (t b : ℕ) (s : NodeState) (c : Bool) → is_some s.stop ≡ c → sends_after t s ≡ Some b
    → ((radio_of s).free ≤ t) × (t + (radio_of s).byte_time ≡ (radio_of (devices_cycle t s)).free)
devices_sends t b s true e h = absurd (none_some b (sym (silenced t s e) ∙ h))
devices_sends t b s false e h =
    let both = board.sends_free t b (script_byte s.script t) s.board (sym (devices_send t s e) ∙ h) in
    (both.0, both.1 ∙ ap (λ (u : NodeState). (radio_of u).free) (sym (devices_move t s e)))

deafened : (t : ℕ) (s : NodeState) → is_some s.stop ≡ true → asks_after t s ≡ false
unfolding asks_after
deafened t s e = rw e refl

devices_apart : (t : ℕ) (s : NodeState) (c : Bool) → is_some s.stop ≡ c → asks_after t s ≡ true → sends_after t s ≡ None
devices_apart t s true e h = silenced t s e
devices_apart t s false e h = devices_send t s e ∙ board.asks_apart t s.board (sym (devices_ask t s e) ∙ h)

-- ---- through a cycle
pub stopped_begun : (t : ℕ) (s : NodeState) → is_some s.stop ≡ true → begun_in t s ≡ s
unfolding begun_in
stopped_begun t s e = rw e refl

pub stopped_sends : (t : ℕ) (s : NodeState) → is_some s.stop ≡ true → sends_in t s ≡ None
unfolding sends_in
stopped_sends t s e = rw e refl

on_case : (t : ℕ) (s : NodeState) (b : Bool) → is_some s.stop ≡ b → Onward (radio_of s) (radio_of (begun_in t s))
on_case t s true e = subst (λ (u : NodeState). Onward (radio_of s) (radio_of u)) (sym (stopped_begun t s e)) (omega arith, refl)
on_case t s false e =
    let c : NodeState = cpu_cycle t s in
    subst (λ (u : NodeState). Onward (radio_of s) (radio_of u)) (sym (begun_parts t s e))
    (subst (λ (r : Radio). Onward r (radio_of (devices_cycle t c))) (cpu_radio t s) (devices_on t c (is_some c.stop) refl))

pub free_begun : (t : ℕ) (s : NodeState) → (radio_of s).free ≤ (radio_of (begun_in t s)).free
free_begun t s = (on_case t s (is_some s.stop) refl).0

pub gap_begun : (t : ℕ) (s : NodeState) → (radio_of (begun_in t s)).byte_time ≡ (radio_of s).byte_time
gap_begun t s = (on_case t s (is_some s.stop) refl).1

sends_case : (t b : ℕ) (s : NodeState) (c : Bool) → is_some s.stop ≡ c → sends_in t s ≡ Some b
    → ((radio_of s).free ≤ t) × (t + (radio_of s).byte_time ≡ (radio_of (begun_in t s)).free)
sends_case t b s true e h = absurd (none_some b (sym (stopped_sends t s e) ∙ h))
sends_case t b s false e h =
    let c : NodeState = cpu_cycle t s in
    let both = devices_sends t b c (is_some c.stop) refl (sym (sends_parts t s e) ∙ h) in
    subst (λ (r : Radio). (r.free ≤ t) × (t + r.byte_time ≡ (radio_of (begun_in t s)).free)) (cpu_radio t s)
    (both.0, both.1 ∙ ap (λ (u : NodeState). (radio_of u).free) (sym (begun_parts t s e)))

pub sends_free : (t b : ℕ) (s : NodeState) → sends_in t s ≡ Some b → (radio_of s).free ≤ t
sends_free t b s h = (sends_case t b s (is_some s.stop) refl h).0

pub sends_next : (t b : ℕ) (s : NodeState) → sends_in t s ≡ Some b → t + (radio_of s).byte_time ≤ (radio_of (begun_in t s)).free
sends_next t b s h = let e = (sends_case t b s (is_some s.stop) refl h).1 in omega arith

pub stopped_asks : (t : ℕ) (s : NodeState) → is_some s.stop ≡ true → asks_in t s ≡ false
unfolding asks_in
stopped_asks t s e = rw e refl

apart_case : (t : ℕ) (s : NodeState) (c : Bool) → is_some s.stop ≡ c → asks_in t s ≡ true → sends_in t s ≡ None
apart_case t s true e h = stopped_sends t s e
apart_case t s false e h =
    let c : NodeState = cpu_cycle t s in
    sends_parts t s e ∙ devices_apart t c (is_some c.stop) refl (sym (asks_parts t s e) ∙ h)

pub apart : (t : ℕ) (s : NodeState) → asks_in t s ≡ true → sends_in t s ≡ None
apart t s h = apart_case t s (is_some s.stop) refl h

pub gap_finished : (t : ℕ) (s : NodeState) (h : Heard) → (radio_of (finished_in t s h)).byte_time ≡ (radio_of s).byte_time
gap_finished t s h = board.answered_gap h s.board

pub free_finished : (t : ℕ) (s : NodeState) (h : Heard) → (radio_of s).free ≤ (radio_of (finished_in t s h)).free
free_finished t s h = let e = board.answered_free h s.board in omega arith
