-- The turns of a sprint's loops: what holds between two instructions, what an instruction did, and how its cycles pass
-- or end the sprint.
use Rattle.std.proofs.Common.{◌≡◌, ℕ, ◌+◌, ◌-◌, ◌≤◌, ◌<◌, ◌++◌, ◌&&◌, nat_le, nat_lt, Bool, not, true, false, Some, None, List, refl, sym, subst, ap, ◌∙◌, arith}
use Rattle.std.proofs.lemmas.Bool.{false≢true}
use Rattle.std.proofs.lemmas.Bool.Decides.{nat_tests}
use Rattle.std.specs.Bool.{beq}
use Rattle.std.specs.Prelude.{vec_len, vec_capacity}
use Rattle.air_base.specs.Bounds.{LAST_CYCLE}
use Rattle.avr_base.specs.declared.interrupts.Lines.{Lines}
use Rattle.avr_base.specs.declared.stop.StopCause.{StopCause}
use Rattle.avr_program.specs.Program.{slots_below}
use Rattle.avr_program.specs.declared.decoded.Slot.{Slot}
use Rattle.avr_base.specs.declared.sreg.Sreg.{Sreg}
use Rattle.board_io.specs.declared.clocked.ClockedBoard.{ClockedBoard}
use Rattle.board_io.specs.Cycle.{timers_leap}
use Rattle.board_io.specs.Lagging.{IsIdle, IsUneventful}
use Rattle.board_io.specs.Lines.{lines_of}
use Rattle.data_space.specs.Core.{core_of, registers_of, whole}
use Rattle.data_space.specs.declared.cpu.Core.{Core}
use Rattle.data_space.specs.declared.cpu.Registers.{Registers}
use Rattle.serial_ports.specs.Script.{script_byte}
use Rattle.node_core.specs.declared.bus.NodeBus.{NodeBus}
use Rattle.node_core.specs.declared.machine.Machine.{Machine}
use Rattle.node_core.specs.declared.row.Kind.TheVariants as kind
use Rattle.node_core.specs.Bus.{with_io}
use Rattle.node_core.specs.Cycle.{row}
use Rattle.node_core.specs.Inside.{IsCalm, MayAct, is_told}
use Rattle.node_core.specs.Interrupts.{due}
use Rattle.node_core.specs.Pace.Midway.{IsSprinted, IsSprinting, IsStepped, IsStopping, IsTurning, MayEnd, beside, over, owing, turned_on}
use Rattle.node_core.specs.Shown.{shown}
use Rattle.node_core.specs.State.{NodeState}
use Rattle.node_core.proofs.Cores.{same_bits}
use Rattle.node_core.proofs.Sprints.{clear_due, goes, joins, may, silent, stays, stops, untold}

-- behind an instruction none is owed that was owed up to it
pub not_owed : (n k : ℕ) → k ≤ n + 1 → nat_lt (n + 1) k ≡ false
not_owed n k top = grind (arith, nat_tests, top)

pub still_owed : (n : ℕ) → nat_lt n (n + 1) ≡ true
still_owed n = grind (arith, nat_tests)

pub none_owed : (n : ℕ) → nat_lt n 0 ≡ false
none_owed n = grind (arith, nat_tests)

-- a machine whose core stands beside it, with what it owes
abbrev pub turning : Machine → Registers → Core → ℕ → Machine
turning self regs core owed_to = owing (nat_lt self.count owed_to) (beside regs core self)

-- between two instructions of the inner loop, which began at a machine, has the slots of its program, and passes cycles up to `bound`
pub record IsInner (t end : ℕ) (first began m : Machine) (regs : Registers) (core : Core) (owed_to : ℕ) (slots : List Slot) (flags bound : ℕ) : Type 0 where
  pub turns : IsTurning t end first m regs core owed_to
  pub words : slots ≡ slots_below 65536 began.program.bytes
  pub flag : nat_lt flags 128 ≡ nat_lt core.sreg.bits 128
  pub within : bound ≤ end
  pub ahead : IsUneventful bound m.bus.io
  pub on : began.bus.io.clock ≤ m.bus.io.clock

-- n cycles of a board passed by the beginning of cycle `bound`, up to which nothing happens
pub record IsPast (n bound : ℕ) (old new : ClockedBoard) : Type 0 where
  pub within : old.clock + n ≤ bound
  pub idle : IsIdle old.clock n old.board
  pub state : new.board ≡ timers_leap old.clock n old.board
  pub lines : lines_of new.board ≡ lines_of old.board
  pub calm : IsUneventful bound new
  pub clock : new.clock ≡ old.clock + n

-- a turn of the inner loop: where it stood, and what the instruction of n cycles left, which then began
pub record Turn (t end : ℕ) (first : Machine) : Type 0 where
  pub began : Machine
  pub self : Machine
  pub regs : Registers
  pub core : Core
  pub owed_to : ℕ
  pub slots : List Slot
  pub flags : ℕ
  pub bound : ℕ
  pub inner : IsInner t end first began self regs core owed_to slots flags bound
  pub early : end ≤ LAST_CYCLE
  pub none : (i : ℕ) → t + i < end → script_byte first.script (t + i) ≡ None
  pub n : ℕ
  pub to : Registers
  pub on : Core
  pub bus : NodeBus
  pub count : ℕ
  pub owes : Bool
  pub step : IsStepped self.bus.io.clock n (turning self regs core owed_to) (owing owes (over to on bus count self))

-- what a step says of any machine with these parts that may act and whose instruction is not told
abbrev pub Does : Machine → Registers → Core → Registers → Core → NodeBus → ℕ → (Machine → Machine → Type 0) → Type 0
Does self regs core to on bus count R =
    (m : Machine) → m.program ≡ self.program → MayAct self.bus.io.clock (over regs core self.bus self.count m) → is_told m.from m.to self.bus.io.clock ≡ false
    → R (over regs core self.bus self.count m) (over to on bus count m)

module _ {t end : ℕ} {first began self : Machine} {regs : Registers} {core : Core} {owed_to : ℕ} {slots : List Slot} {flags bound : ℕ}
    (k : IsInner t end first began self regs core owed_to slots flags bound) (early : end ≤ LAST_CYCLE) (room : vec_len first.rows < vec_capacity first.rows)
    (quiet : (i : ℕ) → t + i ≤ end → is_told first.from first.to (t + i) ≡ false) where
  pub does : (R : Machine → Machine → Type 0) (to : Registers) (on : Core) (bus : NodeBus) (count : ℕ) → Does self regs core to on bus count R
      → R (turning self regs core owed_to) (over to on bus count (turning self regs core owed_to))
  does R to on bus count step =
      let at : ℕ = self.bus.io.clock in
      let m : Machine = turning self regs core owed_to in
      let within = k.turns.within in
      let here : at + 0 ≡ at = omega arith in
      step m refl (may t at first m k.turns.runs (omega (arith, within, early)) room)
      (subst (λ (u : ℕ). is_told self.from self.to u ≡ false) here (untold t at end first m k.turns.runs.opens k.turns.runs.closes k.turns.runs.from quiet 0 (omega (arith, within))))

  abbrev pub turn : (none : (i : ℕ) → t + i < end → script_byte first.script (t + i) ≡ None) (n : ℕ) (owes : Bool) (to : Registers) (on : Core) (bus : NodeBus) (count : ℕ)
      → Does self regs core to on bus count (λ a z. IsStepped self.bus.io.clock n a (owing owes z)) → Turn t end first
  turn none n owes to on bus count step = record {
    began = began;
    self = self;
    regs = regs;
    core = core;
    owed_to = owed_to;
    slots = slots;
    flags = flags;
    bound = bound;
    inner = k;
    early = early;
    none = none;
    n = n;
    to = to;
    on = on;
    bus = bus;
    count = count;
    owes = owes;
    step = does (λ a z. IsStepped self.bus.io.clock n a (owing owes z)) to on bus count step;
  }

  -- the sprint ends before it, or where it stopped: the core stands in the machine again
  module _ (to : Registers) (on : Core) (bus : NodeBus) (count at : ℕ) (new : Machine) (clock : at ≡ bus.io.clock)
      (state : new ≡ owing (nat_lt count owed_to) (over to on bus count self)) where
    abbrev m : Machine
    m = turning self regs core owed_to

    pub left : Does self regs core to on bus count (λ a z. z ≡ a) → IsSprinted t at false first new × (at ≤ end)
    left step =
        let within = k.turns.within in
        let e : over to on bus count m ≡ m = does (λ a z. z ≡ a) to on bus count step in
        let there : at ≡ self.bus.io.clock = clock ∙ ap (λ (z : Machine). z.bus.io.clock) e in
        let here : new ≡ m = state ∙ (ap (λ (n : ℕ). owing (nat_lt n owed_to) (over to on bus count self)) (ap (λ (z : Machine). z.count) e) ∙ e) in (
          subst (λ (u : ℕ). IsSprinted t u false first new) (sym there) (subst (IsSprinted t self.bus.io.clock false first) (sym here) (stays t self.bus.io.clock first m k.turns.runs)),
          omega (arith, there, within),
        )

    module _ (cause : StopCause) (step : Does self regs core to on bus count (λ a z. IsStopping self.bus.io.clock cause a z)) where
      q : IsStopping self.bus.io.clock cause m (over to on bus count m)
      q = does (λ a z. IsStopping self.bus.io.clock cause a z) to on bus count step

      here : new ≡ over to on bus count m
      here = state ∙ ap (λ (n : ℕ). owing (nat_lt n owed_to) (over to on bus count self)) q.count

      there : at ≡ self.bus.io.clock
      there = clock ∙ q.clock

      pub stopped_room : vec_len new.rows < vec_capacity new.rows
      stopped_room =
          let rows : vec_len new.rows ≡ vec_len first.rows = ap (λ (z : Machine). vec_len z.rows) here ∙ ap (λ z. vec_len z) (q.same ∙ k.turns.runs.rows) in
          let wide : vec_capacity new.rows ≡ vec_capacity first.rows = ap (λ (z : Machine). vec_capacity z.rows) here ∙ ap (λ z. vec_capacity z) (q.same ∙ k.turns.runs.rows) in
          omega (arith, rows, wide, room)

      pub stopped : (x : Machine) → shown x ≡ (let u : NodeState = record (shown new) { stop = Some cause } in u) → x.rows.items ≡ new.rows.items ++ row at (shown new) (kind.Stop on.pc cause)
          → vec_capacity x.rows ≡ vec_capacity new.rows → x.bus.io.clock ≡ new.bus.io.clock → IsSprinted t at true first x × (at ≤ end)
      stopped x told rows wide same =
          let u : ℕ = self.bus.io.clock in
          let within = k.turns.within in
          let row_is : x.rows.items ≡ new.rows.items ++ row u (shown new) (kind.Stop new.cpu.pc cause) = rows ∙ (λ i. new.rows.items ++ row (there i) (shown new) (kind.Stop (sym (ap (λ (z : Machine). z.cpu.pc) here) i) cause)) in
          let is : IsStopping u cause m new = subst (λ (z : Machine). IsStopping u cause m z) (sym here) q in (
            subst (λ (v : ℕ). IsSprinted t v true first x) (sym there) (stops t u first m new x cause k.turns.runs (clear_due m k.turns.clear) is told row_is wide same),
            omega (arith, there, within),
          )

module _ {t end : ℕ} {first : Machine} (x : Turn t end first) where
  abbrev pub stood : Machine
  stood = turning x.self x.regs x.core x.owed_to

  abbrev pub at_io : ClockedBoard → Machine
  at_io io = record x.self { bus = with_io x.bus io; count = x.count }

  pub free : due (shown stood) ≡ None
  free = clear_due stood x.inner.turns.clear

  pub few : x.count ≤ LAST_CYCLE + LAST_CYCLE + 1
  few =
      let more = x.step.count in let most = x.inner.turns.runs.count in let within = x.inner.turns.within in let early = x.early in omega (arith, more, most, within, early)

  -- an instruction that was owed up to this one is none
  pub owed_no_more : nat_lt x.count x.owed_to ≡ false
  owed_no_more = subst (λ (n : ℕ). nat_lt n x.owed_to ≡ false) (sym x.step.count) (not_owed x.self.count x.owed_to x.inner.turns.top)

  -- its cycles are still to pass, on a board that is the same
  module _ {io : ClockedBoard} (same : io ≡ x.bus.io) where
    stays_at : io.clock ≡ x.self.bus.io.clock
    stays_at = ap (λ (b : ClockedBoard). b.clock) same ∙ x.step.clock

    pub may_end : MayEnd end x.n (at_io io)
    may_end =
        let at = stays_at in
        let within = x.inner.turns.within in
        let from = x.inner.turns.runs.from in
        let early = x.early in
        record {
          some = x.step.some;
          early = omega (arith, at, within, early);
          within = omega (arith, at, within);
          none = silent t io.clock end first (at_io io) x.inner.turns.runs.script (omega (arith, from, at)) x.none;
        }

    pub at_it : IsSprinting t io.clock first stood
    at_it = subst (λ (c : ℕ). IsSprinting t c first stood) (sym stays_at) x.inner.turns.runs

    pub carried : IsStepped io.clock x.n stood (owing x.owes (beside x.to x.on (at_io io)))
    carried =
        subst (λ (c : ℕ). IsStepped c x.n stood (owing x.owes (beside x.to x.on (at_io io)))) (sym stays_at)
        (subst (λ (b : ClockedBoard). IsStepped x.self.bus.io.clock x.n stood (owing x.owes (beside x.to x.on (at_io b)))) (sym same) x.step)

  -- they passed by the beginning of cycle `bound`
  module _ {bound : ℕ} {io : ClockedBoard} (upto : bound ≤ end) (p : IsPast x.n bound x.bus.io io) where
    past : IsSprinting t io.clock first (owing x.owes (beside x.to x.on (at_io io)))
    past =
        let at : ℕ = x.self.bus.io.clock in
        let w : Machine = owing x.owes (over x.to x.on x.bus x.count x.self) in
        let same : x.bus.io.clock ≡ at = x.step.clock in
        let there : io.clock ≡ at + x.n = p.clock ∙ ap (λ (u : ℕ). u + x.n) same in
        let here : IsIdle at x.n x.bus.io.board = subst (λ (u : ℕ). IsIdle u x.n x.bus.io.board) same p.idle in
        let next : io.board ≡ timers_leap at x.n x.bus.io.board = subst (λ (u : ℕ). io.board ≡ timers_leap u x.n x.bus.io.board) same p.state in
        let from = x.inner.turns.runs.from in
        let within = p.within in
        let calm : IsCalm at x.n (shown w) = record {
          ends = here.quiet;
          none = λ i l. silent t at end first w (x.step.script ∙ x.inner.turns.runs.script) from x.none i (omega (arith, l, within, upto, same));
        } in
        subst (λ (u : ℕ). IsSprinting t u first (owing x.owes (beside x.to x.on (at_io io)))) (sym there)
        (goes t at first stood x.inner.turns.runs x.n w free x.step (with_io x.bus io) calm (λ i. let u : NodeState = record (shown w) { board = next i } in u) there)

    later : x.self.bus.io.clock < io.clock
    later = let some = x.step.some in let same = x.step.clock in let clock = p.clock in omega (arith, some, same, clock)

    pub below : x.bus.io.clock < bound
    below = let some = x.step.some in let within = p.within in omega (arith, some, within)

    pub fewer : end - io.clock < end - x.self.bus.io.clock
    fewer = let on = later in let clock = p.clock in let within = p.within in omega (arith, on, clock, within, upto)

    goes_on : (owed flags : ℕ) → owed ≤ x.count + 1 → nat_lt x.count owed ≡ x.owes → nat_lt flags 128 ≡ nat_lt x.on.sreg.bits 128
        → (nat_lt x.on.sreg.bits 128 ≡ false → (lines_of x.bus.io.board).bits ≡ 0) → IsInner t end first x.began (at_io io) x.to x.on owed x.slots flags bound
    goes_on owed flags top is flag down =
        let within = p.within in
        let clock = p.clock in
        let last = x.inner.on in
        let on = later in
        record {
          turns = record {
            within = omega (arith, within, clock, upto);
            off = x.inner.turns.off;
            clear = λ up. ap (λ (l : Lines). l.bits) p.lines ∙ down up;
            top = top;
            runs = subst (λ (c : Bool). IsSprinting t io.clock first (owing c (beside x.to x.on (at_io io)))) (sym is) past;
          };
          words = x.inner.words;
          flag = flag;
          within = upto;
          ahead = p.calm;
          on = omega (arith, last, on);
        }

    -- an instruction is owed behind it, or none is
    pub adds : {flags : ℕ} → x.owes ≡ true → nat_lt flags 128 ≡ nat_lt x.on.sreg.bits 128 → (nat_lt x.on.sreg.bits 128 ≡ false → (lines_of x.bus.io.board).bits ≡ 0)
        → IsInner t end first x.began (at_io io) x.to x.on (x.count + 1) x.slots flags bound
    adds {flags} e = goes_on (x.count + 1) flags (omega arith) (still_owed x.count ∙ sym e)

    pub keeps : {flags : ℕ} → x.owes ≡ false → nat_lt flags 128 ≡ nat_lt x.on.sreg.bits 128 → (nat_lt x.on.sreg.bits 128 ≡ false → (lines_of x.bus.io.board).bits ≡ 0)
        → IsInner t end first x.began (at_io io) x.to x.on x.owed_to x.slots flags bound
    keeps {flags} e =
        let more = x.step.count in
        let up = x.inner.turns.top in
        goes_on x.owed_to flags (omega (arith, more, up)) (owed_no_more ∙ sym e)

    -- a leap of n cycles behind it, from cycle r on
    pub fewer_left : (r n : ℕ) {c : ℕ} → r ≡ io.clock → c ≡ r + n → r + n ≤ end → end - c < end - x.began.bus.io.clock
    fewer_left r n now there up = let last = x.inner.on in let on = later in omega (arith, last, on, now, there, up)

  -- it left the board and the flag I
  pub keeps_calm : {io : ClockedBoard} → IsPast x.n x.bound x.bus.io io → x.owes ≡ false → x.bus.io ≡ x.self.bus.io → nat_lt x.on.sreg.bits 128 ≡ nat_lt x.core.sreg.bits 128
      → IsInner t end first x.began (at_io io) x.to x.on x.owed_to x.slots x.flags x.bound
  keeps_calm p e apart flag = keeps x.inner.within p e (x.inner.flag ∙ sym flag) (λ up. ap (λ (b : ClockedBoard). (lines_of b.board).bits) apart ∙ x.inner.turns.clear (sym flag ∙ up))

-- the core stands in the machine again
pub gathered : {t end : ℕ} {first m : Machine} {regs : Registers} {core : Core} {owed_to : ℕ} → IsTurning t end first m regs core owed_to
    → {r : ℕ} {z : Machine} → r ≡ m.bus.io.clock → z ≡ turning m regs core owed_to → IsSprinting t r first z
gathered {t} {first = first} {m = m} h {z = z} now state = subst (λ (u : ℕ). IsSprinting t u first z) (sym now) (subst (λ (x : Machine). IsSprinting t m.bus.io.clock first x) (sym state) h.runs)

-- and its parts beside it
pub parted : {t r end : ℕ} {first z : Machine} {k : Registers × Core} → IsSprinting t r first z → r ≤ end → z.owed ≡ false → k ≡ (registers_of z.cpu, core_of z.cpu)
    → (nat_lt z.cpu.sreg.bits 128 ≡ false → (lines_of z.bus.io.board).bits ≡ 0) → IsTurning t end first z k.0 k.1 0
parted {t} {first = first} {z = z} {k = k} h upto owed parts down =
    let clock = h.clock in
    let is : z ≡ owing (nat_lt z.count 0) (beside k.0 k.1 z) =
    λ i. let w : Machine = record z { cpu = (ap (λ (y : Registers × Core). whole y.0 y.1) (sym parts)) i; owed = (owed ∙ sym (none_owed z.count)) i } in w in
    record {
      within = omega (arith, clock, upto);
      off = owed;
      clear = λ up. down (ap (λ (y : Registers × Core). nat_lt y.1.sreg.bits 128) (sym parts) ∙ up);
      top = omega arith;
      runs = subst (λ (w : Machine). IsSprinting t z.bus.io.clock first w) is (subst (λ (u : ℕ). IsSprinting t u first z) (sym clock) h);
    }

-- a leap to cycle c behind a turn
pub leapt : {t r c end : ℕ} {first m x z : Machine} {regs : Registers} {core : Core} {owed_to : ℕ} {k : Registers × Core} → IsTurning t end first m regs core owed_to → nat_lt m.count owed_to ≡ false
    → r ≡ m.bus.io.clock → x ≡ turning m regs core owed_to → IsSprinted r c false x z → z ≡ (let y : Machine = record x { cpu = z.cpu; bus = z.bus; count = z.count } in y)
    → lines_of z.bus.io.board ≡ lines_of x.bus.io.board → z.cpu.sreg ≡ x.cpu.sreg → c ≤ end → k ≡ (registers_of z.cpu, core_of z.cpu) → IsTurning t end first z k.0 k.1 0
leapt {t} {r} {c} {first = first} {x = x} {z = z} h off now state q others lines flags upto parts =
    parted (joins t r first x (gathered h now state) c z q (ap (λ (w : Machine). w.from) others) (ap (λ (w : Machine). w.to) others)) upto
    (ap (λ (w : Machine). w.owed) others ∙ (ap (λ (w : Machine). w.owed) state ∙ off)) parts
    (λ up. ap (λ (w : Lines). w.bits) lines ∙ ap (λ (w : Machine). (lines_of w.bus.io.board).bits) state
    ∙ h.clear (sym (ap (λ (y : Sreg). nat_lt y.bits 128) flags ∙ ap (λ (w : Machine). nat_lt w.cpu.sreg.bits 128) state) ∙ up))

-- ---- whether the flag I was turned on, by a byte in which it is as it was before, and by that behind
module _ (flags before after : ℕ) (a b : Bool) (same : nat_lt flags 128 ≡ nat_lt before 128) (was : a ≡ nat_le 128 flags) (is : b ≡ nat_le 128 after) where
  off_is : (n : ℕ) → nat_lt n 128 ≡ not (nat_le 128 n)
  off_is n = grind (arith, nat_tests)

  turned_by : turned_on before after ≡ (not a && b)
  turned_by = (λ i. (sym same ∙ off_is flags ∙ ap not (sym was)) i && (sym is) i)

  pub same_side : beq a b ≡ true → nat_lt flags 128 ≡ nat_lt after 128
  same_side h = off_is flags ∙ ap not (sym was ∙ same_bits a b h ∙ is) ∙ sym (off_is after)

  -- it is as it was: it was not
  pub stepped_same : (t n : ℕ) (m x : Machine) → beq a b ≡ true → IsStepped t n m (owing (turned_on before after) x) → IsStepped t n m (owing false x)
  stepped_same t n m x h = subst (λ (o : Bool). IsStepped t n m (owing o x)) (turned_by ∙ none a b h)
    where
      none : (a b : Bool) → beq a b ≡ true → (not a && b) ≡ false
      none true b h = refl
      none false true h = absurd (false≢true h)
      none false false h = refl

  -- it is another: it was where it was off
  pub stepped_turned : (t n : ℕ) (m x : Machine) (r : Bool) → r ≡ nat_le 128 flags → beq a b ≡ false → IsStepped t n m (owing (turned_on before after) x) → IsStepped t n m (owing (not r) x)
  stepped_turned t n m x r e h = subst (λ (o : Bool). IsStepped t n m (owing o x)) (turned_by ∙ where_off a b h ∙ ap not (was ∙ sym e))
    where
      where_off : (a b : Bool) → beq a b ≡ false → (not a && b) ≡ not a
      where_off true b h = refl
      where_off false true h = refl
      where_off false false h = absurd (false≢true (sym h))
