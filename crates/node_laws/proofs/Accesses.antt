-- An instruction over a bus that gives bytes leaves the core within its widths, whatever each access gives.
use Rattle.std.proofs.Common.{ℕ, ◌+◌, ◌*◌, ◌/◌, ◌%◌, ◌≤◌, Bool, true, false, cond, List, length, ◌≡◌, ℤ, arith}
use Rattle.std.specs.Prelude.{IfOk, Result, Ok, Err, if◌then◌else◌}
use Rattle.std.proofs.lemmas.Bool.{leb-true}
use Rattle.avr_base.specs.declared.sreg.Sreg.{Sreg}
use Rattle.avr_base.specs.declared.stop.StopCause.{StopCause}
use Rattle.avr_decoder.specs.declared.op.Op.{Op}
use Rattle.avr_decoder.specs.declared.op.Op.TheVariants as op
use Rattle.data_space.specs.declared.bus.Done.{Done}
use Rattle.data_space.specs.declared.cpu.Cpu.{Cpu}
use Rattle.data_space.specs.Core.{pair_at}
use Rattle.data_space.specs.Space.{Access, answered, loaded, lowered, popped, pushed, stored, taken, unless_stopped}
use Rattle.data_space.specs.Sequence.{done, popped_word, pushed_word, then_do}
use Rattle.avr_core.specs.FlowShapes.{bit_is, branched, calls, jumped, pushes_return, relative, returns, returns_enabling, skipped, skipping, skips_by_io}
use Rattle.avr_core.specs.FlowShapes as flow
use Rattle.avr_core.specs.FlowTable.{flow_effect}
use Rattle.avr_core.specs.MemoryShapes.{loads, loads_extended_post_increment, loads_post_increment, loads_pre_decrement, loads_program_post_increment, pops, pushes, sets_bit, stores, stores_post_increment, stores_pre_decrement}
use Rattle.avr_core.specs.MemoryTable.{memory_effect}
use Rattle.ihex_loader.specs.Flash.{byte_at}
use Rattle.node_laws.specs.Node.{AreBytes, CoreWithin}
use Rattle.node_laws.proofs.Cores.{OpWithin, core_of, flag_in, reg_most, set_bytes, set_count}

-- what an access answers: a byte, a word, nothing, or the end of an instruction of at most eight cycles
abbrev pub IsByte : ℕ → Type 0
IsByte value = value ≤ 255

abbrev pub IsWord : ℕ → Type 0
IsWord value = value ≤ 65535

abbrev pub IsAny : Unit {0} → Type 0
IsAny value = Unit {0}

abbrev pub IsShort : Done → Type 0
IsShort d = d.cycles ≤ 8

-- an access left the core within its widths and the bus as Q says, and its answer is as P says
pub record Leaves {R B : Type 0} (Q : B → Type 0) (P : R → Type 0) (a : Access R B) : Type 0 where
  pub core : CoreWithin a.cpu
  pub bus : Q a.bus
  pub answer : IfOk a.result P

-- what a load and a store of the bus give
abbrev pub GotIn : {B : Type 0} → (B → Type 0) → Result (ℕ × B) StopCause → Type 0
GotIn Q (Ok given) = (given.0 ≤ 255) × Q given.1
GotIn Q (Err cause) = Unit {0}

abbrev pub PutIn : {B : Type 0} → (B → Type 0) → Result B StopCause → Type 0
PutIn Q (Ok given) = Q given
PutIn Q (Err cause) = Unit {0}

pub record Gives {B : Type 0} (Q : B → Type 0) (get : B → ℕ → Result (ℕ × B) StopCause) (put : B → ℕ → ℕ → Result B StopCause) : Type 0 where
  pub gets : (bus : B) (at : ℕ) → Q bus → GotIn Q (get bus at)
  pub puts : (bus : B) (at value : ℕ) → value ≤ 255 → Q bus → PutIn Q (put bus at value)

-- what follows on an answer that is as P says
abbrev Goes : {R S B : Type 0} → (B → Type 0) → (R → Type 0) → (S → Type 0) → (R → Cpu → B → Access S B) → Type 0
Goes {R} {S} {B} Q P P' rest =
    (value : R) (r : List ℕ) (s : Sreg) (sp pc : ℕ) (rampz : Bool) (bus : B)
    → P value → length r ≡ 32 → AreBytes r → s.bits ≤ 255 → sp ≤ 65535 → pc ≤ 65535 → Q bus
    → Leaves Q P' (rest value (record { r = r; sreg = s; sp = sp; pc = pc; rampz = rampz }) bus)

low_of : (n : ℕ) → n % 256 ≤ 255
low_of n = omega arith

flag_of : (n : ℕ) → n % 8 ≤ 7
flag_of n = omega arith

word_of : (n : ℕ) → n % 65536 ≤ 65535
word_of n = omega arith

high_of : (n : ℕ) → n % 65536 / 256 ≤ 255
high_of n = omega arith

flash_most : (flash : List ℕ) (at : ℕ) → AreBytes flash → byte_at flash at ≤ 255
flash_most flash at bytes = bytes at

pair_most : (d : ℕ) (cpu : Cpu) → CoreWithin cpu → pair_at d cpu ≤ 65535
pair_most d cpu c = omega (arith, c.bytes d, c.bytes ((d + 1) % 32))

joined : (above below : ℕ) → above ≤ 255 → below ≤ 255 → 256 * above + below ≤ 65535
joined above below a b = omega arith

-- a core with other registers, and numbers that fit
ruleset parts = (core_of, reg_most, set_count, set_bytes, leb-true, flag_of, low_of, word_of, high_of)

module _ {B : Type 0} {Q : B → Type 0} {get : B → ℕ → Result (ℕ × B) StopCause} {put : B → ℕ → ℕ → Result B StopCause} (gives : Gives Q get put) where
  if_in : {R : Type 0} (P : R → Type 0) (b : Bool) (p q : Access R B) → Leaves Q P p → Leaves Q P q → Leaves Q P (cond b p q)
  if_in P true p q h k = h
  if_in P false p q h k = k

  pub then_in : {R S : Type 0} (P : R → Type 0) (P' : S → Type 0) (a : Access R B) (r : Result R StopCause) (rest : R → Cpu → B → Access S B)
      → CoreWithin a.cpu → Q a.bus → IfOk r P → ((value : R) (cpu : Cpu) (bus : B) → P value → CoreWithin cpu → Q bus → Leaves Q P' (rest value cpu bus))
      → Leaves Q P' (then_do a r rest)
  then_in P P' a (Ok value) rest c q p k = k value a.cpu a.bus p c q
  then_in P P' a (Err cause) rest c q p k = record { core = c; bus = q; answer = tt }

  -- one access after another
  next_in : {R : Type 0} (P : R → Type 0) (S : Type 0) (P' : S → Type 0) (a : Access R B) (rest : R → Cpu → B → Access S B) → Leaves Q P a → Goes Q P P' rest
      → Leaves Q P' (then_do a a.result rest)
  next_in P S P' a rest h k =
      then_in P P' a a.result rest h.core h.bus h.answer
      (λ value cpu bus p c q. k value cpu.r cpu.sreg cpu.sp cpu.pc cpu.rampz bus p c.count c.bytes c.sreg c.sp c.pc q)

  after_any : {S : Type 0} (P : S → Type 0) (a : Access (Unit {0}) B) (rest : Unit {0} → Cpu → B → Access S B) → Leaves Q IsAny a → Goes Q IsAny P rest
      → Leaves Q P (then_do a a.result rest)
  after_any {S} P = next_in IsAny S P

  after_byte : {S : Type 0} (P : S → Type 0) (a : Access ℕ B) (rest : ℕ → Cpu → B → Access S B) → Leaves Q IsByte a → Goes Q IsByte P rest
      → Leaves Q P (then_do a a.result rest)
  after_byte {S} P = next_in IsByte S P

  after_word : {S : Type 0} (P : S → Type 0) (a : Access ℕ B) (rest : ℕ → Cpu → B → Access S B) → Leaves Q IsWord a → Goes Q IsWord P rest
      → Leaves Q P (then_do a a.result rest)
  after_word {S} P = next_in IsWord S P

  -- one that ends
  ends_in : {R : Type 0} (P : R → Type 0) (r : Result R StopCause) (cpu : Cpu) (bus : B) → CoreWithin cpu → Q bus → IfOk r P
      → Leaves Q P (record { result = r; cpu = cpu; bus = bus })
  ends_in P r cpu bus c q p = assumption

  answered_in : (cpu : Cpu) (bus : B) (r : Result (ℕ × B) StopCause) → CoreWithin cpu → Q bus → GotIn Q r → Leaves Q IsByte (answered cpu bus r)
  answered_in cpu bus (Ok given) c q got = assumption
  answered_in cpu bus (Err cause) c q got = assumption

  one_most : (on : Bool) → (if on then 1 else 0) ≤ 255
  one_most on = grind arith

  loaded_in : (at : ℕ) (cpu : Cpu) (bus : B) → CoreWithin cpu → Q bus → Leaves Q IsByte (loaded get at cpu bus)
  unfolding loaded
  loaded_in at cpu bus c q = search (if_in, answered_in, ends_in, one_most, gives.gets, reg_most, arith) depth 12

  taken_in : (cpu : Cpu) (bus : B) (r : Result B StopCause) → CoreWithin cpu → Q bus → PutIn Q r → Leaves Q IsAny (taken cpu bus r)
  taken_in cpu bus (Ok given) c q got = assumption
  taken_in cpu bus (Err cause) c q got = assumption

  stored_in : (at value : ℕ) (cpu : Cpu) (bus : B) → value ≤ 255 → CoreWithin cpu → Q bus → Leaves Q IsAny (stored put at value cpu bus)
  unfolding stored
  stored_in at value cpu bus small c q = search (if_in, taken_in, ends_in, core_of, set_count, set_bytes, gives.puts, arith) depth 12

  lowered_in : (sp : ℕ) (a : Access (Unit {0}) B) (r : Result (Unit {0}) StopCause) → sp ≤ 65535 → Leaves Q IsAny a → Leaves Q IsAny (lowered sp a r)
  lowered_in sp a (Ok done) small h = search
  lowered_in sp a (Err cause) small h = h

  pushed_in : (value : ℕ) (cpu : Cpu) (bus : B) → value ≤ 255 → CoreWithin cpu → Q bus → Leaves Q IsAny (pushed put value cpu bus)
  unfolding pushed
  pushed_in value cpu bus small c q = search (lowered_in, stored_in, word_of)

  stopped_in : {R : Type 0} (P : R → Type 0) (cpu : Cpu) (a : Access R B) (r : Result R StopCause) → CoreWithin cpu → Leaves Q P a → Leaves Q P (unless_stopped cpu a r)
  stopped_in P cpu a (Ok value) c h = h
  stopped_in P cpu a (Err cause) c h = assumption

  popped_in : (cpu : Cpu) (bus : B) → CoreWithin cpu → Q bus → Leaves Q IsByte (popped get cpu bus)
  unfolding popped
  popped_in cpu bus c q = search (stopped_in, loaded_in, parts)

  pub word_pushed_in : (word : ℕ) (cpu : Cpu) (bus : B) → word ≤ 65535 → CoreWithin cpu → Q bus → Leaves Q IsAny (pushed_word put word cpu bus)
  unfolding pushed_word
  word_pushed_in word cpu bus small c q = let high : word / 256 ≤ 255 = omega arith in search (after_any, pushed_in, low_of)

  word_popped_in : (cpu : Cpu) (bus : B) → CoreWithin cpu → Q bus → Leaves Q IsWord (popped_word get cpu bus)
  unfolding popped_word
  word_popped_in cpu bus c q = search (after_byte, popped_in, ends_in, joined)

  -- instructions

  branched_in : (on : Bool) (k : ℤ) (cpu : Cpu) (bus : B) → CoreWithin cpu → Q bus → Leaves Q IsShort (flow.ends (branched on k cpu) bus)
  unfolding branched
  branched_in true k cpu bus c q = search (ends_in, parts)
  branched_in false k cpu bus c q = search (ends_in, parts)

  skip_most : (flash : List ℕ) (on : Bool) (cpu : Cpu) → skipping flash on cpu ≤ 8
  unfolding skipping
  skip_most flash on cpu = grind arith

  ruleset steps = (after_any, after_byte, after_word, loaded_in, stored_in, pushed_in, popped_in, stopped_in, word_pushed_in, word_popped_in, branched_in, skip_most, pair_most, flash_most, flag_in, ends_in, parts)

  pub flow_in : (flash : List ℕ) (o : Op) (cpu : Cpu) (bus : B) → OpWithin o → CoreWithin cpu → Q bus → Leaves Q IsShort (flow_effect get put flash o cpu bus)
  unfolding flow_effect skips_by_io calls returns returns_enabling
  flow_in flash (op.Jmp k) cpu bus w c q = search (ends_in, parts)
  flow_in flash _ cpu bus w c q = search steps depth 10

  stores_in : (at value words cycles : ℕ) (cpu : Cpu) (bus : B) → value ≤ 255 → cycles ≤ 8 → CoreWithin cpu → Q bus → Leaves Q IsShort (stores put at value words cycles cpu bus)
  unfolding stores
  stores_in at value words cycles cpu bus small short c q = search (after_any, stored_in, ends_in, parts)

  ruleset memory_steps = (stores_in, steps)

  pub memory_in : (flash : List ℕ) (bytes : AreBytes flash) (o : Op) (cpu : Cpu) (bus : B) → CoreWithin cpu → Q bus → Leaves Q IsShort (memory_effect get put flash o cpu bus)
  unfolding memory_effect loads loads_post_increment loads_pre_decrement stores_post_increment stores_pre_decrement pushes pops sets_bit loads_program_post_increment loads_extended_post_increment
  memory_in flash bytes op.Nop cpu bus c q = search (ends_in, parts)
  memory_in flash bytes _ cpu bus c q = search memory_steps depth 10
