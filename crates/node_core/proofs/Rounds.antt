-- Rounds of a loop that waits: where a round leads from a core back to it, so do many at once.
use Rattle.std.proofs.Common.{◌≡◌, ℕ, zero, suc, ◌+◌, ◌*◌, ◌≤◌, ◌<◌, add-zero, true, false, None, refl, sym, subst, ap, ◌∙◌, arith}
use Rattle.std.specs.Prelude.{Ok}
use Rattle.air_base.specs.Bounds.{LAST_CYCLE}
use Rattle.avr_base.specs.Lines.{due_of}
use Rattle.board_io.specs.declared.board.Board.{Board}
use Rattle.board_io.specs.declared.clocked.ClockedBoard.{ClockedBoard}
use Rattle.board_io.specs.Board.{clocked}
use Rattle.board_io.specs.Cycle.{board_quiet, timers_leap}
use Rattle.board_io.specs.Lagging.{IsIdle}
use Rattle.board_io.specs.Lines.{lines_of}
use Rattle.board_io.proofs.Lags.{leap_add}
use Rattle.board_io.proofs.Leaps.{leap_quiet, leap_zero}
use Rattle.data_space.specs.declared.cpu.Cpu.{Cpu}
use Rattle.data_space.specs.Sequence.{Outcome, done}
use Rattle.serial_ports.specs.Script.{script_byte}
use Rattle.node_core.specs.declared.bus.NodeBus.{NodeBus}
use Rattle.node_core.specs.declared.machine.Machine.{Machine}
use Rattle.node_core.specs.Bus.{with_io}
use Rattle.node_core.specs.Inside.{IsCalm, MayAct, is_told}
use Rattle.node_core.specs.Interrupts.{due}
use Rattle.node_core.specs.Pace.Leaps.{IsStillStep, Walk, stays, goes, bus_later}
use Rattle.node_core.specs.Pace.Midway.{IsSprinted, IsSprinting, IsStepped}
use Rattle.node_core.specs.Shown.{shown}
use Rattle.node_core.specs.State.{NodeState}
use Rattle.node_core.proofs.Sprints.{begins}
use Rattle.node_core.proofs.Sprints as sprint
use Rattle.node_core.proofs.Steps.{gone, runs_on}

-- none at all
pub none_at_all : (t : ℕ) (m x : Machine) → MayAct t m → x ≡ m → IsSprinted t (t + 0) false m x
none_at_all t m x may same =
    subst (λ (y : Machine). IsSprinted t (t + 0) false m y) (sym same)
    (subst (λ (u : ℕ). IsSprinted t u false m m) (sym (add-zero t)) (sprint.stands t m may.going may.free may.awake may.now may.few))

-- a node that executes instructions from cycle t on, where nothing happens in n cycles
pub record IsOpen (t n : ℕ) (m : Machine) : Type 0 where
  pub owed : m.owed ≡ false
  pub going : m.stop ≡ None
  pub free : m.wait ≡ 0
  pub awake : m.asleep ≡ false
  pub untold : (i : ℕ) → i < n → is_told m.from m.to (t + i) ≡ false
  pub now : m.bus.io.clock ≡ t
  pub few : m.count ≤ LAST_CYCLE + t
  pub idle : IsIdle t n m.bus.io.board
  pub script : (i : ℕ) → i < n → script_byte m.script (t + i) ≡ None

-- it n cycles and c instructions later, with this core
abbrev pub later : ℕ → ℕ → ℕ → Cpu → Machine → Machine
later t n c cpu m = record m { cpu = cpu; bus = bus_later (t + n) t n m.bus; count = m.count + c }

module _ (t all : ℕ) (m : Machine) (open_ : IsOpen t all m) where
  abbrev leapt : ℕ → Board
  leapt n = timers_leap t n m.bus.io.board

  start : IsSprinting t (t + 0) m (later t 0 0 m.cpu m)
  start =
      let o = open_ in
      let at : t ≡ t + 0 = omega arith in
      let io : m.bus.io ≡ clocked (t + 0) (leapt 0) = λ i. clocked ((o.now ∙ at) i) (sym (leap_zero t m.bus.io.board) i) in
      let count : m.count ≡ m.count + 0 = omega arith in
      let same : m ≡ later t 0 0 m.cpu m = λ i. let x : Machine = record m { bus = with_io m.bus (io i); count = count i } in x in
      subst (λ (x : Machine). IsSprinting t (t + 0) m x) same
      (subst (λ (u : ℕ). IsSprinting t u m m) at (begins t m o.going o.free o.awake o.now o.few))

  none_at : (n c : ℕ) (cpu : Cpu) → n < all → due_of cpu.sreg.bits (lines_of m.bus.io.board) ≡ None → due (shown (later t n c cpu m)) ≡ None
  none_at n c cpu l none = ap (due_of cpu.sreg.bits) (open_.idle.same n l) ∙ none

  stepped : (n c k : ℕ) (from to : Cpu) → n < all → IsStillStep k m from to
      → IsStepped (t + n) k (later t n c from m) (let x : Machine = record (later t n c from m) { cpu = to; owed = false; count = m.count + c + 1 } in x)
  stepped n c k from to l s =
      let o = open_ in
      let x : Machine = later t n c from m in
      let a : Outcome NodeBus = record { result = Ok (done k); cpu = to; bus = x.bus } in
      gone (t + n) x s.op s.fetched (runs_on (shown x) s.op s.wakes) refl (o.untold n l) a m.program.bytes refl (s.does (t + n) t n) (done k) refl false
      s.settled refl s.some o.awake o.going o.free

  next : (n c k : ℕ) (from to : Cpu) → n + k ≤ all → IsStillStep k m from to → IsSprinting t (t + n) m (later t n c from m) → IsSprinting t (t + (n + k)) m (later t (n + k) (c + 1) to m)
  next n c k from to l s h =
      let some = s.some in
      let x : Machine = later t n c from m in
      let w : Machine = record x { cpu = to; owed = false; count = m.count + c + 1 } in
      let bus : NodeBus = bus_later (t + (n + k)) t (n + k) m.bus in
      let on : t + n + k ≡ t + (n + k) = omega arith in
      let count : m.count + c + 1 ≡ m.count + (c + 1) = omega arith in
      let board : leapt (n + k) ≡ timers_leap (t + n) k (shown w).board = leap_add t n k m.bus.io.board in
      let calm : IsCalm (t + n) k (shown w) = record {
        ends = λ j lt.
            (let same : t + (n + j) ≡ t + n + j = omega arith in
            leap_quiet (t + n + j) t n m.bus.io.board
            ∙ subst (λ (u : ℕ). board_quiet u m.bus.io.board ≡ true) same (open_.idle.quiet (n + j) (omega (arith, l, lt))));
        none = λ j lt.
            (let same : t + (n + j) ≡ t + n + j = omega arith in
            subst (λ (u : ℕ). script_byte m.script u ≡ None) same (open_.script (n + j) (omega (arith, l, lt))));
      } in
      let state : (let y : Machine = record w { bus = bus } in shown y)
      ≡ (let s : NodeState = record (shown w) { board = timers_leap (t + n) k (shown w).board } in s) =
      λ z. (let s : NodeState = record (shown w) { board = board z } in s) in
      let went = sprint.goes t (t + n) m x h k w (none_at n c from (omega (arith, l, some)) s.none) (stepped n c k from to (omega (arith, l, some)) s) bus calm state (sym on) in
      subst (λ (u : ℕ). IsSprinting t u m (later t (n + k) (c + 1) to m)) on
      (subst (λ (y : Machine). IsSprinting t (t + n + k) m y)
      (λ z. let y : Machine = record m { cpu = to; bus = bus; owed = sym open_.owed z; count = count z } in y) went)

  walk : (head : Cpu) (length count : ℕ) (cpu : Cpu) → Walk m head length count cpu → (n c : ℕ) → n + length ≤ all → IsSprinting t (t + n) m (later t n c head m)
      → IsSprinting t (t + (n + length)) m (later t (n + length) (c + count) cpu m)
  walk head _ _ _ stays n c l h =
      let on : n ≡ n + 0 = omega arith in
      let more : c ≡ c + 0 = omega arith in
      subst (λ (i : ℕ). IsSprinting t (t + i) m (later t i (c + 0) head m)) on (subst (λ (j : ℕ). IsSprinting t (t + n) m (later t n j head m)) more h)
  walk head _ _ _ (goes length count k from to w s) n c l h =
      let on : n + length + k ≡ n + (length + k) = omega arith in
      let more : c + count + 1 ≡ c + (count + 1) = omega arith in
      let here = walk head length count from w n c (omega (arith, l)) h in
      let there = next (n + length) (c + count) k from to (omega (arith, l)) s here in
      subst (λ (i : ℕ). IsSprinting t (t + i) m (later t i (c + (count + 1)) to m)) on
      (subst (λ (j : ℕ). IsSprinting t (t + (n + length + k)) m (later t (n + length + k) j to m)) more there)

  -- k rounds, each from the core that the one before it left
  module _ (k length count : ℕ) (after : ℕ → Cpu) (first : after 0 ≡ m.cpu) (round : (j : ℕ) → j < k → Walk m (after j) length count (after (suc j))) where
    rounds : (i : ℕ) → i ≤ k → i * length ≤ all → IsSprinting t (t + i * length) m (later t (i * length) (i * count) (after i) m)
    rounds zero few l =
        let on : 0 ≡ 0 * length = omega arith in
        let more : 0 ≡ 0 * count = omega arith in
        subst (λ (n : ℕ). IsSprinting t (t + n) m (later t n (0 * count) (after 0) m)) on
        (subst (λ (c : ℕ). IsSprinting t (t + 0) m (later t 0 c (after 0) m)) more
        (subst (λ (cpu : Cpu). IsSprinting t (t + 0) m (later t 0 0 cpu m)) (sym first) start))
    rounds (suc i) few l =
        let on : i * length + length ≡ suc i * length = omega arith in
        let more : i * count + count ≡ suc i * count = omega arith in
        let here = rounds i (omega (arith, few)) (omega (arith, l, on)) in
        let there = walk (after i) length count (after (suc i)) (round i (omega (arith, few))) (i * length) (i * count) (omega (arith, l, on)) here in
        subst (λ (n : ℕ). IsSprinting t (t + n) m (later t n (suc i * count) (after (suc i)) m)) on
        (subst (λ (c : ℕ). IsSprinting t (t + (i * length + length)) m (later t (i * length + length) c (after (suc i)) m)) more there)

    pub all_rounds : k * length ≡ all → (bus : NodeBus) → bus.sram ≡ m.bus.sram → bus.io.board ≡ leapt all → bus.io.clock ≡ t + all
        → IsSprinted t (t + all) false m (let x : Machine = record m { cpu = after k; bus = bus; count = m.count + k * count } in x)
    all_rounds e bus sram board clock =
        let io : bus.io ≡ clocked (t + all) (leapt all) = λ i. clocked (clock i) (board i) in
        let same : (let x : Machine = record m { cpu = after k; bus = bus; count = m.count + k * count } in x) ≡ later t all (k * count) (after k) m =
        λ i. (let x : Machine = record m { cpu = after k; bus = (let n : NodeBus = record { io = io i; sram = sram i } in n); count = m.count + k * count } in x) in
        let there : IsSprinting t (t + all) m (later t all (k * count) (after k) m) =
        subst (λ (n : ℕ). IsSprinting t (t + n) m (later t n (k * count) (after k) m)) e (rounds k (omega arith) (omega (arith, e))) in
        subst (λ (x : Machine). IsSprinted t (t + all) false m x) (sym same) (sprint.stays t (t + all) m (later t all (k * count) (after k) m) there)

-- rounds that the board passed, of a node that is m still
module _ (t k length count : ℕ) (m x : Machine) (same : x ≡ m) (may : MayAct t m) (untold : (i : ℕ) → i < k * length → is_told m.from m.to (t + i) ≡ false) (owed : m.owed ≡ false) (none : (i : ℕ) → i < k * length → script_byte m.script (t + i) ≡ None)
    (after : ℕ → Cpu) (first : after 0 ≡ m.cpu) (round : (j : ℕ) → j < k → Walk m (after j) length count (after (suc j))) (io : ClockedBoard)
    (idle : IsIdle x.bus.io.clock (k * length) x.bus.io.board) (state : io.board ≡ timers_leap x.bus.io.clock (k * length) x.bus.io.board)
    (clock : io.clock ≡ x.bus.io.clock + k * length) where
  now : x.bus.io.clock ≡ t
  now = ap (λ (y : Machine). y.bus.io.clock) same ∙ may.now

  open_here : IsOpen t (k * length) m
  open_here = record {
    owed = owed;
    going = may.going;
    free = may.free;
    awake = may.awake;
    untold = untold;
    now = may.now;
    few = may.few;
    idle = subst (λ (y : Machine). IsIdle t (k * length) y.bus.io.board) same (subst (λ (u : ℕ). IsIdle u (k * length) x.bus.io.board) now idle);
    script = none;
  }

  pub leapt_over : IsSprinted t (t + k * length) false m (let z : Machine = record x { cpu = after k; bus = (let b : NodeBus = record { io = io; sram = x.bus.sram } in b); count = x.count + k * count } in z)
  leapt_over =
      let bus : NodeBus = record { io = io; sram = x.bus.sram } in
      let there = all_rounds t (k * length) m open_here k length count after first round refl bus (ap (λ (y : Machine). y.bus.sram) same)
      (state ∙ (ap (λ (u : ℕ). timers_leap u (k * length) x.bus.io.board) now ∙ ap (λ (y : Machine). timers_leap t (k * length) y.bus.io.board) same))
      (clock ∙ ap (λ (u : ℕ). u + k * length) now) in
      subst (λ (z : Machine). IsSprinted t (t + k * length) false m z)
      (λ i. let z : Machine = record (sym same i) { cpu = after k; bus = bus; count = (sym same i).count + k * count } in z) there
