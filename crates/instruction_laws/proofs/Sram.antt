-- The SRAM of a node: a memory, which no cycle makes longer or shorter.
use Rattle.std.proofs.Common.{◌≡◌, ℕ, ◌-◌, ◌≤◌, ◌<◌, ◌==◌, nat_lt, Bool, true, false, cond, List, length, slice_index, length-set, refl, sym, ap, subst, ◌∙◌, Option, Some, None, Result, Ok, Err, arith}
use Rattle.std.specs.Prelude.{is_some}
use Rattle.std.proofs.lemmas.List.{get_or-set_same, get_or-set_other, length-replicate}
use Rattle.std.proofs.lemmas.Bool.Decides.{nat_tests}
use Rattle.avr_base.specs.declared.interrupts.Vector.{Vector}
use Rattle.avr_base.specs.declared.stop.StopCause.{StopCause}
use Rattle.avr_decoder.specs.Class.{class_of}
use Rattle.avr_decoder.specs.declared.op.Class.{Class}
use Rattle.avr_decoder.specs.declared.op.Class.TheVariants as class
use Rattle.avr_decoder.specs.declared.op.Op.{Op}
use Rattle.board_io.specs.declared.clocked.ClockedBoard.{ClockedBoard}
use Rattle.board_io.specs.Registers.{io_get, io_put}
use Rattle.data_space.specs.declared.bus.Done.{Done}
use Rattle.data_space.specs.declared.cpu.Cpu.{Cpu}
use Rattle.data_space.specs.Memory.{zeros}
use Rattle.data_space.specs.declared.regions.TheConstants.{SRAM_LEN}
use Rattle.data_space.specs.Space.{Access}
use Rattle.data_space.specs.Sequence.{pushed_word}
use Rattle.data_space.proofs.Keeps.{Got, Keeps, Put, then_kept, word_pushed}
use Rattle.avr_core.proofs.FlowKeeps.{flow_keeps}
use Rattle.avr_core.proofs.MemoryKeeps.{memory_keeps}
use Rattle.node_core.specs.declared.bus.NodeBus.{NodeBus}
use Rattle.node_core.specs.Bus.{board_got, board_put, bus_at, bus_get, bus_put}
use Rattle.node_core.specs.Cycle.{acted, after_entry, after_instruction, begun_in, cpu_cycle, devices_cycle, entered, instructed, is_refused, op_now}
use Rattle.avr_core.specs.Execute.{executed_over}
use Rattle.node_core.specs.Execute.{executed, executed_by}
use Rattle.node_core.specs.Interrupts.{due, entry}
use Rattle.node_core.specs.State.{NodeState}
use Rattle.instruction_laws.specs.Stack.{IsMemory}
use Rattle.instruction_laws.specs.Sram.{has_sram, is_sram, node_accesses, sram_first, sram_last, with_byte}

-- a memory

abbrev size : NodeBus → ℕ
size bus = length bus.sram

in_sram : (bus : NodeBus) (at : ℕ) → has_sram bus ≡ true → sram_first ≤ at → at ≤ sram_last → at - 0x100 < size bus
in_sram bus at h low high = grind (arith, nat_tests)

pub still_sized : (xs ys : List ℕ) → length ys ≡ length xs → is_sram xs ≡ true → is_sram ys ≡ true
still_sized xs ys e h = ap (λ n. n == 4096) e ∙ h

outside : (at : ℕ) → at ≤ sram_last → nat_lt 0x10FF at ≡ false
outside at h = grind (arith, nat_tests)

inside : (at : ℕ) → sram_first ≤ at → nat_lt 0xFF at ≡ true
inside at h = grind (arith, nat_tests)

pub put_done : (bus : NodeBus) (at x : ℕ) → sram_first ≤ at → at ≤ sram_last → bus_put bus at x ≡ Ok (with_byte at x bus)
unfolding bus_put
put_done bus at x low high = rw (outside at high, inside at low) refl

got_done : (bus : NodeBus) (at : ℕ) → sram_first ≤ at → at ≤ sram_last → bus_get bus at ≡ Ok (slice_index bus.sram (at - 0x100), bus)
unfolding bus_get
got_done bus at low high = rw (outside at high, inside at low) refl

given_is : {R : Type 0} (r s : R) → let one : Result R StopCause = Ok r in one ≡ Ok s → r ≡ s
given_is r s e = cc

-- what such a store gave
put_is : (bus bus' : NodeBus) (at x : ℕ) → sram_first ≤ at → at ≤ sram_last → bus_put bus at x ≡ Ok bus' → with_byte at x bus ≡ bus'
put_is bus bus' at x low high e = given_is _ _ (sym (put_done bus at x low high) ∙ e)

byte_kept : (at x : ℕ) (bus : NodeBus) → size (with_byte at x bus) ≡ size bus
byte_kept at x bus = length-set bus.sram (at - 0x100) x

pub memory : IsMemory node_accesses has_sram sram_first sram_last
memory = record {
  kept = λ bus bus' at x h low high e.
      subst (λ b. has_sram b ≡ true) (put_is bus bus' at x low high e) (still_sized bus.sram (with_byte at x bus).sram (byte_kept at x bus) h);
  back = λ bus bus' at x h low high e.
      subst (λ b. bus_get b at ≡ Ok (x, b)) (put_is bus bus' at x low high e)
      (got_done (with_byte at x bus) at low high
      ∙ ap (λ n. Ok (n, with_byte at x bus)) (get_or-set_same bus.sram (at - 0x100) x 0 (in_sram bus at h low high)));
  others = λ bus bus' at other x y h low high from to apart got e.
      let here : slice_index bus.sram (other - 0x100) ≡ y = ap (λ p. p.0) (given_is _ _ (sym (got_done bus other from to) ∙ got)) in
      subst (λ b. bus_get b other ≡ Ok (y, b)) (put_is bus bus' at x low high e)
      (got_done (with_byte at x bus) other from to
      ∙ ap (λ n. Ok (n, with_byte at x bus)) (get_or-set_other bus.sram (at - 0x100) (other - 0x100) x 0 (λ f. apart (omega (arith, f, low, from))) ∙ here));
}

pub reset_sized : is_sram (zeros SRAM_LEN) ≡ true
unfolding zeros
reset_sized = ap (λ n. n == 4096) (length-replicate {A = ℕ} 4096 0)

-- through a cycle

either : {R : Type 0} (P : R → Type 0) (b : Bool) (p q : R) → P p → P q → P (cond b p q)
either P true p q h k = h
either P false p q h k = k

got_board : (bus : NodeBus) (r : Result (ℕ × ClockedBoard) StopCause) → Got size (size bus) (board_got bus r)
got_board bus (Ok given) = refl
got_board bus (Err cause) = tt

put_board : (bus : NodeBus) (r : Result ClockedBoard StopCause) → Put size (size bus) (board_put bus r)
put_board bus (Ok given) = refl
put_board bus (Err cause) = tt

get_keeps : (bus : NodeBus) (at : ℕ) → Got size (size bus) (bus_get bus at)
unfolding bus_get
get_keeps bus at =
    either (Got size (size bus)) (nat_lt 0x10FF at) _ _ tt
    (either (Got size (size bus)) (nat_lt 0xFF at) _ _ refl (got_board bus (io_get bus.io at)))

put_keeps : (bus : NodeBus) (at x : ℕ) → Put size (size bus) (bus_put bus at x)
unfolding bus_put
put_keeps bus at x =
    either (Put size (size bus)) (nat_lt 0x10FF at) _ _ tt
    (either (Put size (size bus)) (nat_lt 0xFF at) _ _ (byte_kept at x bus) (put_board bus (io_put bus.io at x)))

keeps : Keeps size bus_get bus_put
keeps = record { gets = get_keeps; puts = put_keeps }

by_class : (k : Class) (flash : List ℕ) (o : Op) (cpu : Cpu) (bus : NodeBus) → size (executed_by k flash o cpu bus).bus ≡ size bus
by_class class.Arith flash o cpu bus = refl
by_class class.Flow flash o cpu bus = flow_keeps keeps (size bus) flash o cpu bus refl
by_class class.Memory flash o cpu bus = memory_keeps keeps (size bus) flash o cpu bus refl
by_class (class.Halting cause) flash o cpu bus = refl

executed_keeps : (flash : List ℕ) (o : Op) (cpu : Cpu) (bus : NodeBus) → size (executed flash o cpu bus).bus ≡ size bus
unfolding executed_over
executed_keeps flash o cpu bus = by_class (class_of o) flash o cpu bus

entry_keeps : (word : ℕ) (cpu : Cpu) (bus : NodeBus) → size (entry word cpu bus).bus ≡ size bus
unfolding entry
entry_keeps word cpu bus =
    let back = pushed_word bus_put cpu.pc cpu bus in
    then_kept keeps (size bus) back back.result _ (word_pushed keeps (size bus) cpu.pc cpu bus refl) (λ done c b h. h)

abbrev IsAsLong : NodeState → NodeState → Type 0
IsAsLong s new = length new.sram ≡ length s.sram

after_sized : (s : NodeState) (o : Op) (r : Result Done StopCause) (cpu : Cpu) (bus : NodeBus) → length (after_instruction s o r cpu bus).sram ≡ size bus
after_sized s o (Ok d) cpu bus = refl
after_sized s o (Err cause) cpu bus = refl

instructed_sized : (t : ℕ) (s : NodeState) → IsAsLong s (instructed t s)
unfolding instructed
instructed_sized t s =
    let o = executed s.flash (op_now s) s.cpu (bus_at t s) in
    either (IsAsLong s) (is_refused s (op_now s)) _ _ refl
    (after_sized s (op_now s) o.result o.cpu o.bus ∙ executed_keeps s.flash (op_now s) s.cpu (bus_at t s))

entry_sized : (wait : ℕ) (v : Vector) (s : NodeState) (a : Access (Unit {0}) NodeBus) (r : Result (Unit {0}) StopCause) → length (after_entry wait v s a r).sram ≡ size a.bus
entry_sized wait v s a (Ok done) = refl
entry_sized wait v s a (Err cause) = refl

entered_sized : (t wait : ℕ) (v : Vector) (s : NodeState) → IsAsLong s (entered t wait v s)
unfolding entered
entered_sized t wait v s =
    let a = entry v.word s.cpu (bus_at t s) in
    entry_sized wait v s a a.result ∙ entry_keeps v.word s.cpu (bus_at t s)

acted_sized : (t : ℕ) (s : NodeState) (v : Option Vector) → IsAsLong s (acted t s v)
acted_sized t s None = either (IsAsLong s) s.asleep _ _ refl (instructed_sized t s)
acted_sized t s (Some v) =
    either (IsAsLong s) s.asleep _ _ (entered_sized t 7 v s)
    (either (IsAsLong s) s.owed _ _ (instructed_sized t s) (entered_sized t 3 v s))

cpu_sized : (t : ℕ) (s : NodeState) → IsAsLong s (cpu_cycle t s)
unfolding cpu_cycle
cpu_sized t s = either (IsAsLong s) (nat_lt 0 s.wait) _ _ refl (acted_sized t s (due s))

pub begun_sized : (t : ℕ) (s : NodeState) → IsAsLong s (begun_in t s)
unfolding begun_in devices_cycle
begun_sized t s =
    let c : NodeState = cpu_cycle t s in
    either (IsAsLong s) (is_some s.stop) _ _ refl (either (IsAsLong s) (is_some c.stop) _ _ (cpu_sized t s) (cpu_sized t s))
