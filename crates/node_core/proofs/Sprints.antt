-- A sprint: what holds of it at the beginning of a cycle, and how a step takes it on or ends it.
use Rattle.std.proofs.Common.{◌≡◌, ℕ, ◌+◌, ◌-◌, ◌/◌, ◌%◌, ◌≤◌, ◌<◌, ◌++◌, nat_lt, Bool, cond, true, false, Option, Some, None, List, is_some, refl, sym, subst, ap, ◌∙◌, arith}
use Rattle.std.proofs.lemmas.Bool.{false≢true}
use Rattle.std.proofs.lemmas.Bool.Decides.{nat_tests}
use Rattle.std.specs.Prelude.{vec_len, vec_capacity}
use Rattle.air_base.specs.Bounds.{LAST_CYCLE}
use Rattle.avr_base.specs.Flags.{I, has_flag}
use Rattle.avr_base.specs.Lines.{lowest_line, pending_of, vector_of}
use Rattle.board_io.specs.Cycle.{timers_leap}
use Rattle.board_io.specs.Lines.{lines_of}
use Rattle.air_base.specs.NodeRun.{Comes, Timed}
use Rattle.air_base.proofs.QuietCycles.{comes_none}
use Rattle.node_core.specs.declared.bus.NodeBus.{NodeBus}
use Rattle.node_core.specs.declared.machine.Machine.{Machine}
use Rattle.node_core.specs.declared.row.Row.{Row}
use Rattle.node_core.specs.declared.row.Kind.TheVariants as kind
use Rattle.avr_base.specs.declared.stop.StopCause.{StopCause}
use Rattle.serial_ports.specs.Script.{ScriptBytes, script_byte}
use Rattle.node_core.specs.Cycle.{instructed, instructed_rows, node_kind, row}
use Rattle.node_core.specs.Inside.{IsCalm, MayAct, is_told}
use Rattle.node_core.specs.Interrupts.{due}
use Rattle.node_core.specs.Pace.Midway.{IsActed, IsMidway, IsSprinted, IsSprinting, IsStepped, IsStopping}
use Rattle.node_core.specs.Shown.{shown}
use Rattle.node_core.specs.State.{NodeState}
use Rattle.node_core.proofs.Acts.{one_more, one_row}
use Rattle.node_core.proofs.Ran.{goes_on}
use Rattle.node_core.proofs.Steps.{began, comes_on, ended, went}

pub none_of : {A : Type 0} (o : Option A) → is_some o ≡ false → o ≡ None
none_of None e = refl
none_of (Some a) e = absurd (false≢true (sym e))

none_up : vector_of (lowest_line 0) ≡ None
unfolding lowest_line
none_up = refl

-- the flag I is the highest of a byte
is_high : (bits : ℕ) → has_flag bits I ≡ true → nat_lt bits 128 ≡ false
is_high bits on =
    let half : bits / 128 % 2 ≡ 1 = grind (arith, nat_tests) in
    let high : 128 ≤ bits = omega (arith, half) in
    grind (arith, nat_tests)

-- no interrupt is due while no line is up or the flag I is off
pub clear_due : (m : Machine) → (nat_lt m.cpu.sreg.bits 128 ≡ false → (lines_of m.bus.io.board).bits ≡ 0) → due (shown m) ≡ None
clear_due m e = by_flag (has_flag m.cpu.sreg.bits I) refl
  where
    by_flag : (b : Bool) → has_flag m.cpu.sreg.bits I ≡ b → cond b (pending_of (lines_of m.bus.io.board)) None ≡ None
    by_flag true on = ap (λ (n : ℕ). vector_of (lowest_line n)) (e (is_high m.cpu.sreg.bits on)) ∙ none_up
    by_flag false on = refl

-- at its beginning
pub begins : (t : ℕ) (m : Machine) → m.stop ≡ None → m.wait ≡ 0 → m.asleep ≡ false → m.bus.io.clock ≡ t
    → m.count ≤ LAST_CYCLE + t → IsSprinting t t m m
begins t m going free awake clock count =
    let v : Timed NodeState Row = record { cycle = t; asking = false; state = shown m; rows = m.rows.items } in
    record {
      from = omega arith;
      comes = comes_none node_kind v;
      going = going;
      free = free;
      awake = awake;
      opens = refl;
      closes = refl;
      clock = clock;
      script = refl;
      count = count;
      rows = refl;
    }

module _ (t at : ℕ) (old m : Machine) (h : IsSprinting t at old m) where
  abbrev v : Timed NodeState Row
  v = record { cycle = t; asking = false; state = shown old; rows = old.rows.items }

  pub stays : IsSprinted t at false old m
  stays =
      let count = h.count in
      let len : vec_len m.rows ≡ vec_len old.rows = ap (λ x. vec_len x) h.rows in
      record {
        comes = λ e. h.comes;
        midway = λ e. absurd (false≢true e);
        same = λ e. h.rows;
        len = omega (arith, len);
        room = ap (λ x. vec_capacity x) h.rows;
        script = λ e. h.script;
        going = λ e. h.going;
        awake = λ e. h.awake;
        free = λ e. h.free;
        clock = h.clock;
        few = λ e. count;
        one_more = omega (arith, count);
        from = h.from;
      }

  -- and comes to the middle of that cycle
  inside : (new : Machine) → IsMidway v at (shown new) new.rows.items → vec_len new.rows ≤ vec_len old.rows + 1
      → vec_capacity new.rows ≡ vec_capacity old.rows → new.bus.io.clock ≡ at → new.count ≤ m.count + 1 → IsSprinted t at true old new
  inside new midway len room clock more =
      let count = h.count in
      record {
        comes = λ e. cc;
        midway = λ e. midway;
        same = λ e. cc;
        len = len;
        room = room;
        script = λ e. cc;
        going = λ e. cc;
        awake = λ e. cc;
        free = λ e. cc;
        clock = clock;
        few = λ e. cc;
        one_more = omega (arith, more, count);
        from = h.from;
      }

  pub may : at ≤ LAST_CYCLE → vec_len old.rows < vec_capacity old.rows → MayAct at m
  may early room =
      let count = h.count in
      let len : vec_len m.rows ≡ vec_len old.rows = ap (λ x. vec_len x) h.rows in
      let wide : vec_capacity m.rows ≡ vec_capacity old.rows = ap (λ x. vec_capacity x) h.rows in
      record { going = h.going; free = h.free; awake = h.awake; now = h.clock; few = count; early = early; room = omega (arith, len, wide, room) }

  -- and goes on as another does from there
  pub joins : (c : ℕ) (x : Machine) → IsSprinted at c false m x → x.from ≡ m.from → x.to ≡ m.to → IsSprinting t c old x
  joins c x q opens closes =
      let from = h.from in
      let on = q.from in
      record {
        from = omega (arith, from, on);
        comes = comes_on v at c (shown m) (shown x) m.rows.items x.rows.items h.comes (q.comes refl);
        going = q.going refl;
        free = q.free refl;
        awake = q.awake refl;
        opens = opens ∙ h.opens;
        closes = closes ∙ h.closes;
        clock = q.clock;
        script = q.script refl ∙ h.script;
        count = q.few refl;
        rows = q.same refl ∙ h.rows;
      }

  module _ (new : Machine) (none : due (shown m) ≡ None) where
    pub ends : IsActed 0 (instructed at (shown m)) (instructed_rows at (shown m)) m new → IsSprinted t at true old new
    ends a =
        let on = goes_on at (shown m) h.free h.awake none in
        let few = one_row at (shown m) m.rows.items new.rows.items (a.rows ∙ ap (λ (l : List Row). m.rows.items ++ l) on.1) in
        let more = one_more at (shown m) (shown new) (a.state ∙ on.0) in
        let len : vec_len m.rows ≡ vec_len old.rows = ap (λ x. vec_len x) h.rows in
        let midway = ended v at 0 m new m.rows.items h.comes h.going h.free h.awake none a refl in
        inside new midway (omega (arith, few, len)) (a.room ∙ ap (λ x. vec_capacity x) h.rows) (a.clock ∙ h.clock) more

  module _ (n : ℕ) (w : Machine) (none : due (shown m) ≡ None) (p : IsStepped at n m w) where
    pub breaks : IsSprinted t at true old (let x : Machine = record w { wait = n - 1 } in x)
    breaks =
        let rows : w.rows.items ≡ m.rows.items = ap (λ x. x.items) p.same in
        let u : NodeState = record (shown w) { wait = n - 1 } in
        let mid : IsMidway v at u m.rows.items = began v at n m w m.rows.items h.comes h.going h.free h.awake none p in
        let more = p.count in
        let len : vec_len w.rows ≡ vec_len old.rows = ap (λ x. vec_len x) (p.same ∙ h.rows) in
        inside (let x : Machine = record w { wait = n - 1 } in x) (subst (IsMidway v at u) (sym rows) mid) (omega (arith, len))
        (ap (λ x. vec_capacity x) (p.same ∙ h.rows)) (p.clock ∙ h.clock) (omega (arith, more))

    pub goes : (bus : NodeBus) → IsCalm at n (shown w)
        → (let x : Machine = record w { bus = bus } in shown x) ≡ (let s : NodeState = record (shown w) { board = timers_leap at n (shown w).board } in s)
        → bus.io.clock ≡ at + n → IsSprinting t (at + n) old (let x : Machine = record w { bus = bus } in x)
    goes bus calm state clock =
        let rows : w.rows.items ≡ m.rows.items = ap (λ x. x.items) p.same in
        let some = p.some in
        let count = h.count in
        let more = p.count in
        let from = h.from in
        let x : Machine = record w { bus = bus } in
        let there = went v at n m w m.rows.items h.comes h.going h.free h.awake none p calm in
        record {
          from = omega (arith, from);
          comes = subst (Comes node_kind v (at + n) (shown x)) (sym rows) (subst (λ (s : NodeState). Comes node_kind v (at + n) s m.rows.items) (sym state) there);
          going = p.going;
          free = p.free;
          awake = p.awake;
          opens = p.opens ∙ h.opens;
          closes = p.closes ∙ h.closes;
          clock = clock;
          script = p.script ∙ h.script;
          count = omega (arith, count, more, some);
          rows = p.same ∙ h.rows;
        }

-- none at all
pub stands : (t : ℕ) (m : Machine) → m.stop ≡ None → m.wait ≡ 0 → m.asleep ≡ false → m.bus.io.clock ≡ t
    → m.count ≤ LAST_CYCLE + t → IsSprinted t t false m m
stands t m going free awake clock count = stays t t m m (begins t m going free awake clock count)

-- a step whose cycles pass whole
pub steps_on : (t at n : ℕ) (old m w x : Machine) → IsSprinting t at old m → due (shown m) ≡ None → IsStepped at n m w
    → IsCalm at n (shown w) → shown x ≡ (let u : NodeState = record (shown w) { board = timers_leap at n (shown w).board } in u)
    → x ≡ (let y : Machine = record w { bus = x.bus } in y) → x.bus.io.clock ≡ at + n → IsSprinting t (at + n) old x
steps_on t at n old m w x h none p calm state others clock =
    subst (IsSprinting t (at + n) old) (sym others) (goes t at old m h n w none p x.bus calm (ap shown (sym others) ∙ state) clock)

-- one that stops
pub stops : (t at : ℕ) (old m w new : Machine) (cause : StopCause) → IsSprinting t at old m → due (shown m) ≡ None → IsStopping at cause m w
    → shown new ≡ (let u : NodeState = record (shown w) { stop = Some cause } in u) → new.rows.items ≡ w.rows.items ++ row at (shown w) (kind.Stop w.cpu.pc cause)
    → vec_capacity new.rows ≡ vec_capacity w.rows → new.bus.io.clock ≡ w.bus.io.clock → IsSprinted t at true old new
stops t at old m w new cause h none q state rows room clock =
    ends t at old m h new none record {
      state = state ∙ q.state;
      rows = rows ∙ (λ i. (ap (λ x. x.items) q.same) i ++ q.told i);
      going = λ l. absurd (omega arith);
      room = room ∙ ap (λ x. vec_capacity x) q.same;
      clock = clock ∙ q.clock;
    }

-- up to `end` no byte arrives
pub silent : (t at end : ℕ) (old m : Machine) → m.script ≡ old.script → t ≤ at → ((i : ℕ) → t + i < end → script_byte old.script (t + i) ≡ None) → (i : ℕ) → at + i < end → script_byte m.script (at + i) ≡ None
silent t at end old m same from none i l =
    let there : t + (at - t + i) ≡ at + i = omega (arith, from) in
    ap (λ (x : ScriptBytes). script_byte x (at + i)) same
    ∙ subst (λ (u : ℕ). script_byte old.script u ≡ None) there (none (at - t + i) (omega (arith, l, from)))

-- and no instruction is told
pub untold : (t at end : ℕ) (old m : Machine) → m.from ≡ old.from → m.to ≡ old.to → t ≤ at → ((i : ℕ) → t + i ≤ end → is_told old.from old.to (t + i) ≡ false) → (i : ℕ) → at + i ≤ end → is_told m.from m.to (at + i) ≡ false
untold t at end old m opens closes from none i l =
    let there : t + (at - t + i) ≡ at + i = omega (arith, from) in
    (λ j. is_told (opens j) (closes j) (at + i))
    ∙ subst (λ (u : ℕ). is_told old.from old.to u ≡ false) there (none (at - t + i) (omega (arith, l, from)))
