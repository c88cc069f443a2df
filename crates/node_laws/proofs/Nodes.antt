-- A cycle of a node leaves its registers, its memory and its counts within their bounds.
use Rattle.std.proofs.Common.{◌≡◌, ℕ, ◌+◌, ◌-◌, ◌*◌, ◌%◌, ◌^◌, ◌<◌, ◌≤◌, nat_le, nat_lt, Bool, true, false, if◌then◌else◌, List, [], ◌∷◌, slice_index, slice_set, replicate, refl, arith, Option, Some, None, is_some, inl, inr}
use Rattle.std.specs.Prelude.{IfOk, Result, Ok, Err, find}
use Rattle.air_base.specs.declared.bounds.TheConstants.{LONGEST_BYTE}
use Rattle.std.specs.List.{list_all, range_with_len}
use Rattle.std.proofs.lemmas.List.{get_or-replicate, length-replicate}
use Rattle.std.proofs.lemmas.Bool.{and_parts, cases_lt, cond_both, leb-true}
use Rattle.std.proofs.lemmas.Bool.Decides.{nat_tests}
use Rattle.std.proofs.Math.ListN.{get_or-eq_default}
use Rattle.avr_base.specs.Flags.{I, has_flag}
use Rattle.avr_base.specs.Lines.{line_set, lowest_line, pending_of, vector_of}
use Rattle.avr_base.specs.declared.interrupts.Vector.{Vector}
use Rattle.avr_base.specs.declared.stop.StopCause.{StopCause}
use Rattle.avr_decoder.specs.Class.{class_of}
use Rattle.avr_decoder.specs.declared.op.Class.{Class}
use Rattle.avr_decoder.specs.declared.op.Class.TheVariants as class
use Rattle.avr_decoder.specs.declared.op.Op.{Op}
use Rattle.board_io.specs.declared.board.Board.{Board}
use Rattle.board_io.specs.declared.clocked.ClockedBoard.{ClockedBoard}
use Rattle.board_io.specs.Cycle.{board_answered, board_asks, board_begun}
use Rattle.board_io.specs.Lines.{lines_of}
use Rattle.board_io.specs.Registers.{io_get, io_put}
use Rattle.data_space.specs.declared.bus.Done.{Done}
use Rattle.data_space.specs.declared.cpu.Cpu.{Cpu}
use Rattle.data_space.specs.Memory.{zeros}
use Rattle.data_space.specs.declared.regions.TheConstants.{SRAM_LEN}
use Rattle.data_space.specs.Sequence.{pushed_word}
use Rattle.data_space.specs.Space.{Access}
use Rattle.device_laws.specs.States.{IsBoard}
use Rattle.device_laws.proofs.Boards as device
use Rattle.device_laws.proofs.Timers.{kept_if}
use Rattle.ihex_loader.specs.Flash.{word_at}
use Rattle.node_core.specs.Bus.{board_got, board_put, bus_at, bus_get, bus_put}
use Rattle.node_core.specs.Cycle.{acted, after_entry, after_instruction, asks_after, asks_in, begun_in, cpu_cycle, devices_cycle, entered, first_word, finished_in, instructed, is_refused, node_kind, op_now, second_word, sends_after, sends_in}
use Rattle.avr_core.specs.Execute.{executed_over}
use Rattle.node_core.specs.Execute.{executed, executed_by}
use Rattle.node_core.specs.Interrupts.{due, entry}
use Rattle.node_core.specs.State.{NodeState, reset}
use Rattle.node_core.specs.declared.bus.NodeBus.{NodeBus}
use Rattle.serial_ports.specs.Script.{ScriptBytes, script_byte}
use Rattle.air_base.specs.NodeKind.{ticked}
use Rattle.air_base.specs.declared.air.Heard.{Heard}
use Rattle.node_laws.specs.Within.{BoardWithin, ByteWithin, HeardWithin, ReadWithin, WrittenWithin}
use Rattle.node_laws.specs.Node.{AreBytes, CoreWithin, NodeWithin, SpaceWithin}
use Rattle.node_laws.proofs.Boards.{board_from, cycle_within, entered_within, read_within, reset_within, sends_within, write_within}
use Rattle.node_laws.proofs.Cores.{OpWithin, arith_in, arith_short, flag_in, set_bytes, set_count}
use Rattle.node_laws.proofs.Decoded.{op_in}
use Rattle.node_laws.proofs.Accesses.{Gives, GotIn, IsAny, IsShort, Leaves, PutIn, flow_in, memory_in, then_in, word_pushed_in}

-- the data space, as an instruction of cycle t finds it
record BusWithin (t : ℕ) (bus : NodeBus) : Type 0 where
  pub space : SpaceWithin t bus.io.board bus.sram
  pub clock : bus.io.clock ≡ t

bus_in : (t : ℕ) (s : NodeState) → SpaceWithin t s.board s.sram → BusWithin t (bus_at t s)
bus_in t s h = record { space = h; clock = refl }

module _ (t : ℕ) where
  got_board : (bus : NodeBus) (at : ℕ) (r : Result (ℕ × ClockedBoard) StopCause) → io_get bus.io at ≡ r → BusWithin t bus → ReadWithin t r → GotIn (BusWithin t) (board_got bus r)
  got_board bus at (Ok given) e q h = let states = device.io_read_kept bus.io given.1 at given.0 q.space.states e in assumption
  got_board bus at (Err cause) e q h = tt

  bus_gets : (bus : NodeBus) (at : ℕ) → BusWithin t bus → GotIn (BusWithin t) (bus_get bus at)
  unfolding bus_get
  bus_gets bus at q =
      kept_if (GotIn (BusWithin t)) (nat_lt 0x10FF at) _ _ tt
      (kept_if (GotIn (BusWithin t)) (nat_lt 0xFF at) _ _ (q.space.sram (at - 0x100), q)
      (got_board bus at (io_get bus.io at) refl q (read_within t bus.io at q.clock q.space.states q.space.board)))

  put_board : (bus : NodeBus) (at value : ℕ) (r : Result ClockedBoard StopCause) → io_put bus.io at value ≡ r → value ≤ 255 → BusWithin t bus → WrittenWithin t r
      → PutIn (BusWithin t) (board_put bus r)
  put_board bus at value (Ok given) e small q h = let states = device.io_write_kept bus.io given at value (omega arith) q.space.states e in assumption
  put_board bus at value (Err cause) e small q h = tt

  put_sram : (bus : NodeBus) (i value : ℕ) → value ≤ 255 → BusWithin t bus → BusWithin t (record bus { sram = slice_set bus.sram i value })
  put_sram bus i value small q = assumption (set_count bus.sram i value SRAM_LEN q.space.count, set_bytes bus.sram i value q.space.sram small)

  bus_puts : t < 2 ^ 40 → (bus : NodeBus) (at value : ℕ) → value ≤ 255 → BusWithin t bus → PutIn (BusWithin t) (bus_put bus at value)
  unfolding bus_put
  bus_puts early bus at value small q =
      cond_both (nat_lt 0x10FF at) _ _ (PutIn (BusWithin t)) (λ _. tt)
      (λ e. cond_both (nat_lt 0xFF at) _ _ (PutIn (BusWithin t)) (λ _. put_sram bus (at - 0x100) value small q)
      (λ f. (let low : at < 256 = grind (arith, nat_tests) in
      put_board bus at value (io_put bus.io at value) refl small q (write_within t bus.io at value low small early q.clock q.space.states q.space.board))))

  gives : t < 2 ^ 40 → Gives (BusWithin t) bus_get bus_put
  gives early = record { gets = bus_gets; puts = bus_puts early }

  -- an instruction and an entry

  by_class : t < 2 ^ 40 → (k : Class) (flash : List ℕ) (o : Op) (cpu : Cpu) (bus : NodeBus) → AreBytes flash → OpWithin o → CoreWithin cpu → BusWithin t bus
      → Leaves (BusWithin t) IsShort (executed_by k flash o cpu bus)
  by_class early class.Arith flash o cpu bus bytes w c q = record { core = arith_in o cpu w c; bus = q; answer = arith_short o }
  by_class early class.Flow flash o cpu bus bytes w c q = flow_in (gives early) flash o cpu bus w c q
  by_class early class.Memory flash o cpu bus bytes w c q = memory_in (gives early) flash bytes o cpu bus c q
  by_class early (class.Halting cause) flash o cpu bus bytes w c q = assumption

  entry_in : t < 2 ^ 40 → (word : ℕ) (cpu : Cpu) (bus : NodeBus) → word ≤ 65535 → CoreWithin cpu → BusWithin t bus → Leaves (BusWithin t) IsAny (entry word cpu bus)
  unfolding entry
  entry_in early word cpu bus small c q =
      let back = pushed_word bus_put cpu.pc cpu bus in
      let k : Leaves (BusWithin t) IsAny back = word_pushed_in (gives early) cpu.pc cpu bus c.pc c q in
      then_in (gives early) IsAny IsAny back back.result _ k.core k.bus k.answer
      (λ u d b p e r. assumption (flag_in d.sreg.bits I false e.sreg (omega arith)))

-- a node that runs, in cycle t, which has executed no more than so many instructions
pub record StepWithin (t most : ℕ) (s : NodeState) : Type 0 where
  pub flash : AreBytes s.flash
  pub core : CoreWithin s.cpu
  pub space : SpaceWithin t s.board s.sram
  pub wait : s.wait ≤ 7
  pub count : s.count ≤ most

word_small : (flash : List ℕ) → AreBytes flash → (at : ℕ) → word_at flash at < 65536
word_small flash h at = omega (arith, h (2 * at), h (2 * at + 1))

-- the vector that is due

abbrev LineIn : Option ℕ → Type 0
LineIn None = Unit {0}
LineIn (Some n) = n ≤ 34

abbrev VectorIn : Option Vector → Type 0
VectorIn None = Unit {0}
VectorIn (Some v) = v.word ≤ 65535

found_in : (p : ℕ → Bool) (xs : List ℕ) → list_all (λ n. nat_le n 34) xs ≡ true → LineIn (find p xs)
found_in p [] h = tt
found_in p (x ∷ xs) h =
    let parts = and_parts (nat_le x 34) (list_all (λ n. nat_le n 34) xs) h in
    kept_if LineIn (p x) (Some x) (find p xs) (leb-true x 34 parts.0) (found_in p xs parts.1)

lowest_in : (bits : ℕ) → LineIn (lowest_line bits)
unfolding lowest_line
lowest_in bits = found_in (line_set bits) (range_with_len 1 34) refl

vector_in : (o : Option ℕ) → LineIn o → VectorIn (vector_of o)
vector_in None h = tt
vector_in (Some n) h = omega arith

due_in : (s : NodeState) → VectorIn (due s)
due_in s =
    kept_if VectorIn (has_flag s.cpu.sreg.bits I) (pending_of (lines_of s.board)) None
    (vector_in (lowest_line (lines_of s.board).bits) (lowest_in (lines_of s.board).bits)) tt

-- the processor's part

module _ (t : ℕ) (s : NodeState) (h : StepWithin t t s) where
  after_in : (o : Op) (r : Result Done StopCause) (cpu : Cpu) (bus : NodeBus) → CoreWithin cpu → BusWithin t bus → IfOk r IsShort
      → StepWithin t (t + 1) (after_instruction s o r cpu bus)
  after_in o (Ok d) cpu bus c q short = search arith
  after_in o (Err cause) cpu bus c q short = search arith

  now_in : OpWithin (op_now s)
  now_in = op_in (first_word s) (second_word s) (word_small s.flash h.flash ((s.cpu.pc + 1) % 65536))

  instructed_in : t < 2 ^ 40 → StepWithin t (t + 1) (instructed t s)
  unfolding instructed executed_over
  instructed_in early =
      let o = executed s.flash (op_now s) s.cpu (bus_at t s) in
      let k : Leaves (BusWithin t) IsShort o = by_class t early (class_of (op_now s)) s.flash (op_now s) s.cpu (bus_at t s) h.flash now_in h.core (bus_in t s h.space) in
      kept_if (StepWithin t (t + 1)) (is_refused s (op_now s)) _ _ (search arith) (after_in (op_now s) o.result o.cpu o.bus k.core k.bus k.answer)

  entry_by : (wait : ℕ) (v : Vector) (a : Access (Unit {0}) NodeBus) (r : Result (Unit {0}) StopCause) → wait ≤ 7 → CoreWithin a.cpu → BusWithin t a.bus
      → StepWithin t (t + 1) (after_entry wait v s a r)
  entry_by wait v a (Ok done) few c q =
      let states = device.entered_kept v.word a.bus.io.board q.space.states in
      let board = entered_within t v.word a.bus.io.board q.space.board in
      search arith
  entry_by wait v a (Err cause) few c q = search arith

  entered_in : t < 2 ^ 40 → (wait : ℕ) (v : Vector) → wait ≤ 7 → v.word ≤ 65535 → StepWithin t (t + 1) (entered t wait v s)
  unfolding entered
  entered_in early wait v few small =
      let a = entry v.word s.cpu (bus_at t s) in
      let k : Leaves (BusWithin t) IsAny a = entry_in t early v.word s.cpu (bus_at t s) small h.core (bus_in t s h.space) in
      entry_by wait v a a.result few k.core k.bus

  acted_in : t < 2 ^ 40 → (o : Option Vector) → VectorIn o → StepWithin t (t + 1) (acted t s o)
  acted_in early None small = kept_if (StepWithin t (t + 1)) s.asleep s (instructed t s) (search arith) (instructed_in early)
  acted_in early (Some v) small =
      kept_if (StepWithin t (t + 1)) s.asleep _ _ (entered_in early 7 v (omega arith) small)
      (kept_if (StepWithin t (t + 1)) s.owed _ _ (instructed_in early) (entered_in early 3 v (omega arith) small))

  cpu_cycle_in : t < 2 ^ 40 → StepWithin t (t + 1) (cpu_cycle t s)
  unfolding cpu_cycle
  cpu_cycle_in early = kept_if (StepWithin t (t + 1)) (nat_lt 0 s.wait) _ (acted t s (due s)) (search arith) (acted_in early (due s) (due_in s))

-- the devices' part

-- by a test, with what it says
either_way : {P : Type 0} (b : Bool) → (b ≡ true → P) → (b ≡ false → P) → P
either_way true f g = f refl
either_way false f g = g refl

module _ (t : ℕ) (s : NodeState) (h : StepWithin t (t + 1) s) where
  -- it stopped in this cycle
  halted_in : is_some s.stop ≡ true → NodeWithin (t + 1) s
  halted_in e =
      let board = board_from t 0 s.board (omega arith) h.space.board in
      let space : SpaceWithin (if is_some s.stop then 0 else t + 1) s.board s.sram = rw e (assumption) in
      assumption

  -- its devices went on
  moved_in : is_some s.stop ≡ false → (b : Board) → IsBoard b → BoardWithin (t + 1) b → NodeWithin (t + 1) (record s { board = b })
  moved_in e b states w =
      let space : SpaceWithin (if is_some s.stop then 0 else t + 1) b s.sram = rw e (assumption) in assumption

  devices_in : (x : Heard) → t < 2 ^ 40 → HeardWithin x
      → NodeWithin (t + 1) (if asks_after t s then finished_in t (devices_cycle t s) x else devices_cycle t s)
  unfolding devices_cycle asks_after
  devices_in x early heard =
      let b : Board = board_begun t (script_byte s.script t) s.board in
      let states = device.begun_kept t (script_byte s.script t) s.board h.space.states in
      let w = cycle_within t (script_byte s.script t) x s.board early heard h.space.states h.space.board in
      either_way (is_some s.stop) (λ e. rw e (halted_in e))
      (λ e. rw e (cond_both (board_asks t s.board) _ _ (NodeWithin (t + 1)) (λ a. moved_in e (board_answered x b) (device.answered_kept x b states) (rw a at w)) (λ a. moved_in e b states (rw a at w))))

  send_in : t < 2 ^ 40 → ByteWithin (sends_after t s)
  unfolding sends_after
  send_in early = kept_if ByteWithin (is_some s.stop) None _ tt (sends_within t s.board early h.space.states h.space.board)

-- a whole cycle

module _ (t : ℕ) (s : NodeState) (h : NodeWithin t s) where
  running : is_some s.stop ≡ false → StepWithin t t s
  running e = let space = rw e at h.space in assumption

  stays : is_some s.stop ≡ true → NodeWithin (t + 1) s
  stays e =
      let here = rw e at h.space in
      let space : SpaceWithin (if is_some s.stop then 0 else t + 1) s.board s.sram = rw e here in
      search arith

  pub ticked_within : (x : Heard) → t < 2 ^ 40 → HeardWithin x → NodeWithin (t + 1) (ticked node_kind t s x)
  unfolding begun_in asks_in
  ticked_within x early heard =
      either_way (is_some s.stop) (λ e. rw e (stays e)) (λ e. rw e (devices_in t (cpu_cycle t s) (cpu_cycle_in t s (running e) early) x early heard))

  pub node_sends_within : t < 2 ^ 40 → ByteWithin (sends_in t s)
  unfolding sends_in
  node_sends_within early =
      cond_both (is_some s.stop) None _ ByteWithin (λ _. tt) (λ e. send_in t (cpu_cycle t s) (cpu_cycle_in t s (running e) early) early)

-- after reset

zero_at : (n k : ℕ) → slice_index (replicate n 0) k ≤ 255
zero_at n k =
    elim (cases_lt k n) [
      | inl low ↦ omega (arith, get_or-replicate {A = ℕ} n k 0 0 low)
      | inr high ↦ omega (arith, get_or-eq_default {A = ℕ} (replicate n 0) 0 {n = k} (omega (arith, length-replicate {A = ℕ} n 0, high)))
    ]

pub node_reset_within : (k : ℕ) (flash : List ℕ) (script : ScriptBytes) (first last byte_time : ℕ) → AreBytes flash → byte_time ≤ LONGEST_BYTE
    → NodeWithin 0 (reset k flash script first last byte_time)
unfolding zeros
node_reset_within k flash script first last byte_time bytes gap =
    search (length-replicate {A = ℕ}, zero_at, device.reset_kept byte_time gap, reset_within, arith)
