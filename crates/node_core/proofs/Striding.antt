-- A stride: what holds of it at the beginning of an instruction, and how a sprint and the processor's part of a cycle take
-- it on or end it.
use Rattle.std.proofs.Common.{◌≡◌, ℕ, ◌+◌, ◌-◌, ◌<◌, ◌≤◌, Bool, true, false, None, is_some, sym, subst, ap, ◌∙◌, arith}
use Rattle.std.specs.Prelude.{vec_len, vec_capacity}
use Rattle.air_base.specs.Bounds.{LAST_CYCLE}
use Rattle.air_base.specs.NodeRun.{Comes, Timed}
use Rattle.serial_ports.specs.Script.{script_byte}
use Rattle.node_core.specs.declared.machine.Machine.{Machine}
use Rattle.node_core.specs.declared.row.Row.{Row}
use Rattle.node_core.specs.Cycle.{cpu_cycle, cpu_rows, node_kind}
use Rattle.node_core.specs.Inside.{IsPassed, MayAct}
use Rattle.node_core.specs.Pace.Midway.{IsActed, IsMidway, IsSprinted}
use Rattle.node_core.specs.Shown.{shown}
use Rattle.node_core.specs.State.{NodeState}
use Rattle.node_core.proofs.Acts.{arrives_still, one_more, one_row}
use Rattle.node_core.proofs.Sprints.{silent}
use Rattle.node_core.proofs.Steps.{comes_on}
use Rattle.node_core.proofs.Strides.{joined, passed_there}

abbrev pub timed : ℕ → Machine → Timed NodeState Row
timed t m = record { cycle = t; asking = false; state = shown m; rows = m.rows.items }

-- from cycle t on it came to the beginning of an instruction in cycle `at`, and there is room for the rows of a cycle
pub record IsStriding (t at end : ℕ) (old m : Machine) : Type 0 where
  pub from : t ≤ at
  pub within : at ≤ end
  pub comes : Comes node_kind (timed t old) at (shown m) m.rows.items
  pub going : m.stop ≡ None
  pub free : m.wait ≡ 0
  pub awake : m.asleep ≡ false
  pub clock : m.bus.io.clock ≡ at
  pub script : m.script ≡ old.script
  pub count : m.count ≤ LAST_CYCLE + at
  pub room : vec_len m.rows + 4 ≤ vec_capacity m.rows

-- a sprint from there on
module _ {t at end c : ℕ} {inside : Bool} {old m x : Machine} (i : IsStriding t at end old m) (q : IsSprinted at c inside m x) where
  place : c ≡ t + (c - t)
  place = let from = i.from in let later = q.from in omega (arith, from, later)

  pub inside_midway : inside ≡ true → IsMidway (timed t old) (t + (c - t)) (shown x) x.rows.items
  inside_midway is =
      subst (λ (u : ℕ). IsMidway (timed t old) u (shown x) x.rows.items) place
      (joined (timed t old) at c (shown m) (shown x) m.rows.items x.rows.items i.comes (q.midway is))

  pub inside_room : vec_len x.rows + 3 ≤ vec_capacity x.rows
  inside_room = let len = q.len in let wide = q.room in let room = i.room in omega (arith, len, wide, room)

  module _ (none : inside ≡ false) where
    len : vec_len x.rows ≡ vec_len m.rows
    len = ap (λ r. vec_len r) (q.same none)

    pub may_act : c ≤ end → end ≤ LAST_CYCLE → MayAct c x
    may_act upto early =
        let long = len in
        let wide = q.room in
        let room = i.room in
        record { going = q.going none; free = q.free none; awake = q.awake none; now = q.clock; few = q.few none; early = omega (arith, upto, early); room = omega (arith, long, wide, room) }

    -- and what the processor's part of the cycle does, behind it
    module _ {n : ℕ} {y : Machine} (a : IsActed n (cpu_cycle c (shown x)) (cpu_rows c (shown x)) x y) where
      midway : IsMidway (timed t old) c (shown y) y.rows.items
      midway = record {
        state = shown x;
        rows = x.rows.items;
        comes = comes_on (timed t old) at c (shown m) (shown x) m.rows.items x.rows.items i.comes (q.comes none);
        going = ap is_some (q.going none);
        part = a.state;
        told = a.rows;
      }

      more : y.count ≤ LAST_CYCLE + c + 1
      more = let few = q.few none in let one = one_more c (shown x) (shown y) a.state in omega (arith, few, one)

      script : y.script ≡ old.script
      script = arrives_still c (shown x) (shown y) a.state ∙ (q.script none ∙ i.script)

      pub silent_on : ((j : ℕ) → t + j < end → script_byte old.script (t + j) ≡ None) → (j : ℕ) → c + j < end → script_byte y.script (c + j) ≡ None
      silent_on =
          let from = i.from in
          let later = q.from in
          silent t c end old y script (omega (arith, from, later))

      -- the stride ends there
      pub ends : {z : Machine} → z ≡ y → IsMidway (timed t old) (t + (c - t)) (shown z) z.rows.items × (vec_len z.rows + 3 ≤ vec_capacity z.rows) × (z.count ≤ LAST_CYCLE + t + (c - t) + 1)
      ends same =
          let few = one_row c (shown x) x.rows.items y.rows.items a.rows in
          let long = len in
          let wide = q.room in
          let room = i.room in
          let wider = a.room in
          let count = more in
          let from = i.from in
          let later = q.from in
          subst (λ (z : Machine). IsMidway (timed t old) (t + (c - t)) (shown z) z.rows.items × (vec_len z.rows + 3 ≤ vec_capacity z.rows) × (z.count ≤ LAST_CYCLE + t + (c - t) + 1)) (sym same) (
            subst (λ (u : ℕ). IsMidway (timed t old) u (shown y) y.rows.items) place midway,
            omega (arith, few, long, wide, room, wider),
            omega (arith, count, from, later),
          )

      -- it goes on where the cycles of the instruction pass
      pub goes_on : {z : Machine} {next : ℕ} → IsPassed c n (shown y) (shown z) → z.rows ≡ y.rows → z.bus.io.clock ≡ c + n → c + n ≤ end → vec_len y.rows + 4 ≤ vec_capacity y.rows → next ≡ c + n
          → IsStriding t next end old z
      goes_on {z} passed rows clock upto room next =
          let some : 0 < n = (let wait = passed.wait in omega (arith, wait)) in
          let going = a.going some in
          let from = i.from in
          let later = q.from in
          let count = more in
          let same : z.count ≡ y.count = ap (λ (w : NodeState). w.count) passed.after in
          let there : Comes node_kind (timed t old) (c + n) (shown z) y.rows.items = passed_there (timed t old) c n (shown y) (shown z) y.rows.items midway passed in
          let long : vec_len z.rows ≡ vec_len y.rows = ap (λ r. vec_len r) rows in
          let wide : vec_capacity z.rows ≡ vec_capacity y.rows = ap (λ r. vec_capacity r) rows in
          record {
            from = omega (arith, from, later, next);
            within = omega (arith, upto, next);
            comes = subst (λ (u : ℕ). Comes node_kind (timed t old) u (shown z) z.rows.items) (sym next) (subst (Comes node_kind (timed t old) (c + n) (shown z)) (sym (ap (λ r. r.items) rows)) there);
            going = ap (λ (w : NodeState). w.stop) passed.after ∙ going.going;
            free = ap (λ (w : NodeState). w.wait) passed.after;
            awake = ap (λ (w : NodeState). w.asleep) passed.after ∙ going.awake;
            clock = clock ∙ sym next;
            script = ap (λ (w : NodeState). w.script) passed.after ∙ script;
            count = omega (arith, count, same, some, next);
            room = omega (arith, long, wide, room);
          }
