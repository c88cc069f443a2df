-- A step of a sprint: the processor's part of its cycle, of an instruction that goes on.
use Rattle.std.proofs.Common.{◌≡◌, ℕ, ◌+◌, ◌-◌, ◌≤◌, ◌&&◌, ◌++◌, nat_lt, Bool, true, false, cond, Option, None, Some, List, [], is_some, append-nil, refl, sym, subst, ap, ◌∙◌, arith}
use Rattle.std.proofs.lemmas.Bool.{false≢true}
use Rattle.std.specs.Prelude.{Result, Ok, Err, IfOk, IfSome, IfNone, ◌||◌}
use Rattle.avr_base.specs.declared.stop.StopCause.{StopCause}
use Rattle.avr_decoder.specs.declared.op.Op.{Op}
use Rattle.board_io.specs.Board.{sleep_mode}
use Rattle.board_io.specs.Cycle.{timers_leap}
use Rattle.data_space.specs.declared.bus.Done.{Done}
use Rattle.data_space.specs.Sequence.{Outcome}
use Rattle.air_base.specs.NodeRun.{Comes, Timed, passed_rows}
use Rattle.air_base.proofs.QuietCycles.{comes_step}
use Rattle.node_core.specs.declared.bus.NodeBus.{NodeBus}
use Rattle.data_space.specs.declared.cpu.Core.{Core}
use Rattle.data_space.specs.declared.cpu.Cpu.{Cpu}
use Rattle.data_space.specs.declared.cpu.Registers.{Registers}
use Rattle.data_space.specs.Core.{whole}
use Rattle.avr_core.specs.declared.instructions.After.{After}
use Rattle.avr_core.specs.declared.instructions.After.TheVariants as after
use Rattle.node_core.specs.declared.machine.Machine.{Machine}
use Rattle.node_core.specs.declared.row.Row.{Row}
use Rattle.node_core.specs.declared.row.Kind.TheVariants as kind
use Rattle.node_core.specs.Bus.{bus_get, bus_put}
use Rattle.avr_core.specs.Execute.{is_sleep, after_at, is_plain}
use Rattle.node_core.specs.Cycle.{first_word, instructed, instructed_rows, is_idle, is_other, is_refused, node_kind, op_now, owes, row, second_word}
use Rattle.node_core.specs.Execute.{executed}
use Rattle.node_core.specs.Inside.{IsCalm, MayAct, is_told}
use Rattle.node_core.specs.Interrupts.{due}
use Rattle.node_core.specs.Pace.Midway.{IsActed, IsMidway, IsStep, IsStepped, IsStopping, counted, leaves_board, leaves_i, owing, step_of, turned_on}
use Rattle.node_core.specs.declared.pace.sprint.Step.{Step}
use Rattle.node_core.specs.Shown.{shown}
use Rattle.node_core.specs.State.{NodeState}
use Rattle.node_core.proofs.Clocks.{executed_clock}
use Rattle.node_core.proofs.Quiet.{is_enabled, may_access, may_change, quiet}
use Rattle.avr_core.proofs.Executes.{plain_awake, takes}
use Rattle.node_core.proofs.Stops.{stops_there}
use Rattle.node_core.proofs.Wakes.{wakes}
use Rattle.node_core.proofs.Ran.{goes_on, ran, ran_rows}
use Rattle.node_core.proofs.Sram.{enables_at, keeps_board, keeps_i_at, single_cycle_at}
use Rattle.node_core.proofs.Strides.{passed_there}

pub runs_on : (s : NodeState) (o : Op) → is_sleep o ≡ false → is_refused s o ≡ false
runs_on s o e = ap (λ (b : Bool). b && is_other (sleep_mode s.board)) e

-- of an instruction that is not told and does not sleep
module _ (t : ℕ) (m : Machine) (o : Op) (fetched : o ≡ op_now (shown m)) (runs : is_refused (shown m) o ≡ false) (now : m.bus.io.clock ≡ t) (untold : is_told m.from m.to t ≡ false)
    (a : Outcome NodeBus) (flash : List ℕ) (kept : flash ≡ m.program.bytes) (done : a ≡ executed flash o m.cpu m.bus) (d : Done) (ok : a.result ≡ Ok d) where
  abbrev s : NodeState
  s = shown m

  pub stepped_state : (b : Bool) → b ≡ owes o m.cpu.sreg.bits a.cpu.sreg.bits → d.sleep ≡ false → m.asleep ≡ false
      → (let u : NodeState = record (shown m) { cpu = a.cpu; board = a.bus.io.board; sram = a.bus.sram; wait = d.cycles - 1; owed = b; count = m.count + 1 } in u) ≡ instructed t (shown m)
  stepped_state b owed wakes awake =
      (λ i. let u : NodeState = record s {
        cpu = a.cpu;
        board = a.bus.io.board;
        sram = a.bus.sram;
        wait = d.cycles - 1;
        owed = owed i;
        asleep = (awake ∙ sym (ap (λ (b : Bool). b && is_idle (sleep_mode a.bus.io.board)) wakes)) i;
        count = m.count + 1;
      } in u)
      ∙ ran t m o fetched runs now a flash kept done (Ok d) ok

  pub stepped_rows : instructed_rows t (shown m) ≡ []
  stepped_rows =
      sym (ran_rows t m o fetched runs now a flash kept done [] (Ok d) ok)
      ∙ ap (λ (b : Bool). cond b (row t s (kind.Instr s.cpu.pc (first_word s) (second_word s))) []) untold

  pub gone : (b : Bool) → b ≡ owes o m.cpu.sreg.bits a.cpu.sreg.bits → d.sleep ≡ false → 1 ≤ d.cycles → m.asleep ≡ false → m.stop ≡ None → m.wait ≡ 0
      → IsStepped t d.cycles m (let x : Machine = record m { cpu = a.cpu; bus = a.bus; owed = b; count = m.count + 1 } in x)
  gone b owed wakes some awake going free = record {
    some = some;
    state = stepped_state b owed wakes awake;
    told = stepped_rows;
    same = refl;
    going = going;
    awake = awake;
    free = free;
    opens = refl;
    closes = refl;
    script = refl;
    count = refl;
    clock = ap (λ (x : Outcome NodeBus). x.bus.io.clock) done ∙ executed_clock flash o m.cpu m.bus;
  }

-- ---- a plain instruction that is not told
module _ (t : ℕ) (m : Machine) (o : Op) (fetched : o ≡ op_now (shown m)) (plain : is_plain o ≡ true) (may : MayAct t m)
    (a : Outcome NodeBus) (flash : List ℕ) (kept : flash ≡ m.program.bytes) (done : a ≡ executed flash o m.cpu m.bus) where
  runs : is_refused (shown m) o ≡ false
  runs = runs_on (shown m) o (plain_awake o plain)

  -- owing what is owed behind it
  pub plain_goes : (b : Bool) → b ≡ owes o m.cpu.sreg.bits a.cpu.sreg.bits → (d : Done) → a.result ≡ Ok d → is_told m.from m.to t ≡ false
      → IsStepped t d.cycles m (let x : Machine = record m { cpu = a.cpu; bus = a.bus; owed = b; count = m.count + 1 } in x)
  plain_goes b owed d ok untold =
      let some : IfOk {E = StopCause} (Ok d) (λ (e : Done). 1 ≤ e.cycles) = subst (λ (r : Result Done StopCause). IfOk r (λ (e : Done). 1 ≤ e.cycles)) ok (takes bus_get bus_put a flash o m.cpu m.bus done) in
      gone t m o fetched runs may.now untold a flash kept done d ok b owed
      (wakes a flash o m.cpu m.bus d done ok (plain_awake o plain)) some may.awake may.going may.free

  -- by what it leaves
  pub enabled_owes : is_enabled (after_at o m.cpu) ≡ true → true ≡ owes o m.cpu.sreg.bits a.cpu.sreg.bits
  enabled_owes on = sym (ap (λ (s : Bool). s || turned_on m.cpu.sreg.bits a.cpu.sreg.bits) (enables_at o m.cpu ∙ on))

  pub stored_owes : is_enabled (after_at o m.cpu) ≡ false → turned_on m.cpu.sreg.bits a.cpu.sreg.bits ≡ owes o m.cpu.sreg.bits a.cpu.sreg.bits
  stored_owes off = sym (ap (λ (s : Bool). s || turned_on m.cpu.sreg.bits a.cpu.sreg.bits) (enables_at o m.cpu ∙ off))

  pub quiet_owes : is_enabled (after_at o m.cpu) ≡ false → may_change (after_at o m.cpu) ≡ false → false ≡ owes o m.cpu.sreg.bits a.cpu.sreg.bits
  quiet_owes off apart =
      sym (ap (λ (x : Outcome NodeBus). turned_on m.cpu.sreg.bits x.cpu.sreg.bits) done ∙ quiet m.cpu.sreg.bits (executed flash o m.cpu m.bus).cpu.sreg.bits (keeps_i_at flash o m.cpu m.bus apart)) ∙ stored_owes off

  pub plain_stops : (cause : StopCause) → a.result ≡ Err cause → IsStopping t cause m (let x : Machine = record m { cpu = a.cpu; bus = a.bus } in x)
  plain_stops cause stop = record {
    state = ran t m o fetched runs may.now a flash kept done (Err cause) stop;
    told =
        let pc = ap (λ (x : Outcome NodeBus). x.cpu.pc) done ∙ stops_there bus_get bus_put flash o m.cpu m.bus cause (sym (ap (λ (x : Outcome NodeBus). x.result) done) ∙ stop) in
        ap (λ (n : ℕ). row t (let x : NodeState = shown m in record x { cpu = a.cpu; board = a.bus.io.board; sram = a.bus.sram }) (kind.Stop n cause)) pc
        ∙ ran_rows t m o fetched runs may.now a flash kept done [] (Err cause) stop;
    same = refl;
    count = refl;
    clock = ap (λ (x : Outcome NodeBus). x.bus.io.clock) done ∙ executed_clock flash o m.cpu m.bus;
  }

-- ---- an instruction that is not told as a step of a sprint
module _ (t : ℕ) (m : Machine) (o : Op) (fetched : o ≡ op_now (shown m)) (may : MayAct t m) (untold : is_told m.from m.to t ≡ false)
    (to : Cpu) (there : NodeBus) (flash : List ℕ) (kept : flash ≡ m.program.bytes) where
  abbrev reached : ℕ → Machine
  reached count = record m { cpu = to; bus = there; count = count }

  abbrev Left_so : Result Done StopCause → Type 0
  Left_so r = (let a : Outcome NodeBus = record { result = r; cpu = to; bus = there } in a ≡ executed flash o m.cpu m.bus)

  module _ (d : Done) (plain : is_plain o ≡ true) (some : Left_so (Ok d)) where
    abbrev a : Outcome NodeBus
    a = record { result = Ok d; cpu = to; bus = there }

    goes : (b : Bool) → b ≡ owes o m.cpu.sreg.bits to.sreg.bits → IsStepped t d.cycles m (owing b (reached (m.count + 1)))
    goes b owed = plain_goes t m o fetched plain may a flash kept some b owed d refl untold

    by_after : (k : After) → k ≡ after_at o m.cpu → IsStep t (step_of k (Some (Ok d))) m (reached (m.count + 1))
    by_after after.Single e =
        let one : d.cycles ≡ 1 = single_cycle_at flash o m.cpu m.bus d (sym e) (sym (ap (λ (x : Outcome NodeBus). x.result) some)) in
        subst (λ (n : ℕ). IsStepped t n m (owing false (reached (m.count + 1)))) one
        (goes false (quiet_owes t m o fetched plain may a flash kept some (ap is_enabled (sym e)) (ap may_change (sym e))))
    by_after after.Nothing e = goes false (quiet_owes t m o fetched plain may a flash kept some (ap is_enabled (sym e)) (ap may_change (sym e)))
    by_after after.Back e = goes false (quiet_owes t m o fetched plain may a flash kept some (ap is_enabled (sym e)) (ap may_change (sym e)))
    by_after after.Loaded e = goes false (quiet_owes t m o fetched plain may a flash kept some (ap is_enabled (sym e)) (ap may_change (sym e)))
    by_after after.Store e = goes (turned_on m.cpu.sreg.bits to.sreg.bits) (stored_owes t m o fetched plain may a flash kept some (ap is_enabled (sym e)))
    by_after after.Enabled e = goes true (enabled_owes t m o fetched plain may a flash kept some (ap is_enabled (sym e)))

  pub did : (k : After) (x : Option (Result Done StopCause)) → k ≡ after_at o m.cpu → is_some x ≡ is_plain o → IfSome x Left_so → IfNone x ((to ≡ m.cpu) × (there ≡ m.bus))
      → IsStep t (step_of k x) m (reached (counted x m.count))
  did k None e which some none = λ i. let x : Machine = record m { cpu = none.0 i; bus = none.1 i } in x
  did k (Some (Err cause)) e which some none =
      let a : Outcome NodeBus = record { result = Err cause; cpu = to; bus = there } in plain_stops t m o fetched (sym which) may a flash kept some cause refl
  did k (Some (Ok d)) e which some none = by_after d (sym which) some k e

-- by which the flag I stays as it was
pub leaves_flag : (flash : List ℕ) (o : Op) (from to : Cpu) (bus there : NodeBus) (k : After) (x : Option (Result Done StopCause)) → k ≡ after_at o from
    → IfSome x (λ (r : Result Done StopCause). (let a : Outcome NodeBus = record { result = r; cpu = to; bus = there } in a ≡ executed flash o from bus))
    → (step : Step) → step ≡ step_of k x → leaves_i step ≡ true → nat_lt to.sreg.bits 128 ≡ nat_lt from.sreg.bits 128
leaves_flag flash o from to bus there k None e some step is i = absurd (false≢true (sym (ap leaves_i is) ∙ i))
leaves_flag flash o from to bus there k (Some (Err cause)) e some step is i = absurd (false≢true (sym (ap leaves_i is) ∙ i))
leaves_flag flash o from to bus there k (Some (Ok d)) e some step is i =
    ap (λ (x : Outcome NodeBus). nat_lt x.cpu.sreg.bits 128) some ∙ keeps_i_at flash o from bus (ap may_change (sym e) ∙ apart k d (sym (ap leaves_i is) ∙ i))
  where
    apart : (k : After) (d : Done) → leaves_i (step_of k (Some (Ok d))) ≡ true → may_change k ≡ false
    apart after.Single d h = refl
    apart _ d h = cc

-- and by which the board does
pub leaves_devices : (flash : List ℕ) (o : Op) (from to : Cpu) (bus there : NodeBus) (k : After) (x : Option (Result Done StopCause)) → k ≡ after_at o from
    → IfSome x (λ (r : Result Done StopCause). (let a : Outcome NodeBus = record { result = r; cpu = to; bus = there } in a ≡ executed flash o from bus))
    → (step : Step) → step ≡ step_of k x → leaves_board step ≡ true → there.io ≡ bus.io
leaves_devices flash o from to bus there k None e some step is i = absurd (false≢true (sym (ap leaves_board is) ∙ i))
leaves_devices flash o from to bus there k (Some (Err cause)) e some step is i = absurd (false≢true (sym (ap leaves_board is) ∙ i))
leaves_devices flash o from to bus there k (Some (Ok d)) e some step is i =
    ap (λ (x : Outcome NodeBus). x.bus.io) some ∙ keeps_board flash o from bus (ap may_access (sym e) ∙ apart k d (sym (ap leaves_board is) ∙ i))
  where
    apart : (k : After) (d : Done) → leaves_board (step_of k (Some (Ok d))) ≡ true → may_access k ≡ false
    apart after.Single d h = refl
    apart _ d h = cc

-- what is not executed leaves the parts of the core as they were
pub as_it_was : (regs to : Registers) (core on : Core) (bus there : NodeBus) (x : Option (Result Done StopCause)) → IfNone x ((to ≡ regs) × (on ≡ core) × (there ≡ bus))
    → IfNone x ((whole to on ≡ whole regs core) × (there ≡ bus))
as_it_was regs to core on bus there None e = ((λ i. whole (e.0 i) (e.1 i)), e.2)
as_it_was regs to core on bus there (Some r) e = tt

-- ---- a run that came to such a cycle
module _ (v : Timed NodeState Row) (t n : ℕ) (m new : Machine) (k : List Row) (first : Comes node_kind v t (shown m) k) (going : m.stop ≡ None)
    (free : m.wait ≡ 0) (awake : m.asleep ≡ false) (none : due (shown m) ≡ None) where
  -- it ended in it
  pub ended : IsActed 0 (instructed t (shown m)) (instructed_rows t (shown m)) m new → m.rows.items ≡ k → IsMidway v t (shown new) new.rows.items
  ended h same =
      let on = goes_on t (shown m) free awake none in
      record {
        state = shown m;
        rows = k;
        comes = first;
        going = ap is_some going;
        part = h.state ∙ on.0;
        told = h.rows ∙ (λ i. same i ++ on.1 i);
      }

  -- it goes on
  pub began : IsStepped t n m new → IsMidway v t (let u : NodeState = record (shown new) { wait = n - 1 } in u) k
  began h =
      let on = goes_on t (shown m) free awake none in
      record {
        state = shown m;
        rows = k;
        comes = first;
        going = ap is_some going;
        part = h.state ∙ on.0;
        told = sym (append-nil k) ∙ ap (λ (l : List Row). k ++ l) (sym h.told ∙ on.1);
      }

  pub went : (h : IsStepped t n m new) → IsCalm t n (shown new) →
      Comes node_kind v (t + n) (let w : NodeState = record (shown new) { board = timers_leap t n (shown new).board } in w) k
  went h calm =
      let begun : NodeState = record (shown new) { wait = n - 1 } in
      let w : NodeState = record (shown new) { board = timers_leap t n (shown new).board } in
      let some = h.some in
      passed_there v t n begun w k (began h) record {
        going = h.going;
        calm = record { ends = calm.ends; none = calm.none };
        wait = omega (arith, some);
        after = (λ i. let x : NodeState = record w { wait = h.free i } in x);
      }

-- a run that came to where another begins
pub comes_on : (v : Timed NodeState Row) (at c : ℕ) (s u : NodeState) (l k : List Row) → Comes node_kind v at s l
    → Comes node_kind (record { cycle = at; asking = false; state = s; rows = l }) c u k → Comes node_kind v c u k
comes_on v at c s u l k first h =
    let n : ℕ = c - at in
    let later = h.later in
    let there : at + n ≡ c = omega arith in
    let all = comes_step node_kind v at n s l first h.quiet in
    subst (λ (t : ℕ). Comes node_kind v t u k) there
    (subst (λ (x : List Row). Comes node_kind v (at + n) u x) (sym h.rows)
    (subst (λ (x : NodeState). Comes node_kind v (at + n) x (l ++ passed_rows node_kind at n s)) (sym h.state) all))
