-- A push and the pop behind it, and a call and the return behind it, over a memory.
use Rattle.std.proofs.Common.{◌≡◌, ℕ, ◌+◌, ◌-◌, ◌*◌, ◌/◌, ◌%◌, Bool, true, List, Ok, sym, ap, subst, ◌∙◌, arith}
use Rattle.avr_decoder.specs.declared.op.Op.{Op}
use Rattle.avr_decoder.specs.declared.op.Op.TheVariants as op
use Rattle.data_space.specs.declared.bus.Done.{Done}
use Rattle.data_space.specs.declared.cpu.Cpu.{Cpu}
use Rattle.data_space.specs.Core.{advanced, with_reg}
use Rattle.data_space.specs.Space.{Access, answers, popped, pushed}
use Rattle.data_space.specs.Sequence.{popped_word, pushed_word, then_do}
use Rattle.avr_core.specs.FlowShapes as flow
use Rattle.avr_core.specs.FlowShapes.{at_pc, calls, jumped, pushes_return, returns}
use Rattle.avr_core.specs.FlowTable.{flow_effect}
use Rattle.avr_core.specs.MemoryShapes as memory
use Rattle.avr_core.specs.MemoryShapes.{pops, pushes}
use Rattle.avr_core.specs.MemoryTable.{memory_effect}
use Rattle.instruction_laws.specs.Branches.{reg}
use Rattle.instruction_laws.specs.Stack.{Accesses, ComesBack, IsStack, TakesReturn, ended, then_flow, then_memory}
use Rattle.instruction_laws.proofs.Stack.{at_sp, popped_out, pushed_out}

module _ {B : Type 0} (a : Accesses B) (is_sound : B → Bool) (first last : ℕ) (flash : List ℕ) where
  module _ (r d : ℕ) (cpu : Cpu) (bus bus' : B) (stack : IsStack a is_sound first last 1 cpu) (sound : is_sound bus ≡ true) (taken : a.put bus cpu.sp (reg r cpu) ≡ Ok bus') where
    abbrev Pushed : Cpu
    Pushed = advanced 1 (at_sp ((cpu.sp + 65535) % 65536) cpu)

    pub push_done : memory_effect a.get a.put flash (op.Push r) cpu bus ≡ ended 2 Pushed bus'
    unfolding memory_effect pushes
    push_done =
        ap (λ (it : Access (Unit {0}) B). then_do it it.result (λ _ cpu bus. memory.ends 1 2 cpu bus))
        (pushed_out a.get a.put (reg r cpu) cpu bus bus' (omega (arith, stack.behind, stack.within.low)) taken)

    pub pop_done : memory_effect a.get a.put flash (op.Pop d) Pushed bus' ≡ ended 2 (advanced 2 (with_reg d (reg r cpu) cpu)) bus'
    unfolding memory_effect pops
    pop_done =
        let pc : ((cpu.pc + 1) % 65536 + 1) % 65536 ≡ (cpu.pc + 2) % 65536 = omega arith in
        ap (λ (it : Access ℕ B). then_do it it.result (λ byte cpu bus. memory.ends 1 2 (with_reg d byte cpu) bus))
        (popped_out a.get a.put cpu.sp (reg r cpu) Pushed bus' (omega (arith, stack.behind, stack.within.low, stack.within.high, stack.small))
        (omega (arith, stack.behind, stack.within.low))
        (stack.memory.back bus bus' cpu.sp (reg r cpu) sound (omega (arith, stack.within.low)) stack.within.high taken))
        ∙ ap (λ n. ended 2 (at_pc n (with_reg d (reg r cpu) cpu)) bus') pc

    pub push_pop : then_memory a flash (op.Pop d) (memory_effect a.get a.put flash (op.Push r) cpu bus)
        ≡ ended 2 (advanced 2 (with_reg d (reg r cpu) cpu)) bus'
    push_pop = ap (then_memory a flash (op.Pop d)) push_done ∙ pop_done

  module _ (words : ℕ) (cpu : Cpu) (bus mid bus' : B) (stack : IsStack a is_sound first last 2 cpu) (sound : is_sound bus ≡ true) (takes : TakesReturn a words cpu bus mid bus') where
    abbrev Back : ℕ
    Back = (cpu.pc + words) % 65536

    abbrev Low : Cpu
    Low = at_sp ((cpu.sp + 65535) % 65536) cpu

    -- the core behind both pushes
    abbrev pub Both : Cpu
    Both = at_sp ((Low.sp + 65535) % 65536) cpu

    below : Low.sp ≡ cpu.sp - 1
    below = omega (arith, stack.behind, stack.within.low, stack.within.high, stack.small)

    high_taken : a.put mid Low.sp (Back / 256) ≡ Ok bus'
    high_taken = subst (λ (n : ℕ). a.put mid n (Back / 256) ≡ Ok bus') (sym below) takes.high

    pub both_pushed : pushes_return a.put words cpu bus ≡ record { result = Ok tt; cpu = Both; bus = bus' }
    unfolding pushed_word
    both_pushed =
        ap (λ (it : Access (Unit {0}) B). then_do it it.result (λ _ cpu bus. pushed a.put (Back / 256) cpu bus))
        (pushed_out a.get a.put (Back % 256) cpu bus mid (omega (arith, stack.behind, stack.within.low)) takes.low)
        ∙ pushed_out a.get a.put (Back / 256) Low mid bus' (omega (arith, stack.behind, stack.within.low, below)) high_taken

    still : is_sound mid ≡ true
    still = stack.memory.kept bus mid cpu.sp (Back % 256) sound (omega (arith, stack.within.low)) stack.within.high takes.low

    high_back : a.get bus' (cpu.sp - 1) ≡ Ok (Back / 256, bus')
    high_back = stack.memory.back mid bus' (cpu.sp - 1) (Back / 256) still (omega (arith, stack.within.low)) (omega (arith, stack.within.high)) takes.high

    low_back : a.get bus' cpu.sp ≡ Ok (Back % 256, bus')
    low_back =
        stack.memory.others mid bus' (cpu.sp - 1) cpu.sp (Back / 256) (Back % 256) still (omega (arith, stack.within.low)) (omega (arith, stack.within.high))
        (omega (arith, stack.within.low)) stack.within.high (omega (arith, stack.behind, stack.within.low))
        (stack.memory.back bus mid cpu.sp (Back % 256) sound (omega (arith, stack.within.low)) stack.within.high takes.low) takes.high

    -- from any program address
    popped_back : (pc : ℕ) → popped_word a.get (at_pc pc Both) bus' ≡ answers (256 * (Back / 256) + Back % 256) (at_pc pc cpu) bus'
    unfolding popped_word
    popped_back pc =
        ap (λ (it : Access ℕ B). then_do it it.result (λ above cpu bus.
        (let low = popped a.get cpu bus in then_do low low.result (λ below cpu bus. answers (256 * above + below) cpu bus))))
        (popped_out a.get a.put (cpu.sp - 1) (Back / 256) (at_pc pc Both) bus' (omega (arith, stack.behind, stack.within.low, stack.within.high, stack.small))
        (omega (arith, stack.behind, stack.within.low)) high_back)
        ∙ ap (λ (it : Access ℕ B). then_do it it.result (λ below cpu bus. answers (256 * (Back / 256) + below) cpu bus))
        (popped_out a.get a.put cpu.sp (Back % 256) (at_sp (cpu.sp - 1) (at_pc pc Both)) bus' (omega (arith, stack.behind, stack.within.low, stack.within.high, stack.small))
        (omega (arith, stack.behind, stack.within.low)) low_back)

    -- a call that goes to `target`, and a return from wherever that is
    pub call_done : (call : Op) (cycles : ℕ) (target : Cpu → ℕ) → flow_effect a.get a.put flash call cpu bus ≡ calls a.put cycles words target cpu bus
        → flow_effect a.get a.put flash call cpu bus ≡ flow.ends (jumped cycles (target Both) Both) bus'
    unfolding calls
    call_done call cycles target e =
        e ∙ ap (λ (it : Access (Unit {0}) B). then_do it it.result (λ _ cpu bus. flow.ends (jumped cycles (target cpu) cpu) bus)) both_pushed

    pub return_done : (pc : ℕ) → flow_effect a.get a.put flash op.Ret (at_pc pc Both) bus' ≡ ended 4 (advanced words cpu) bus'
    unfolding flow_effect returns
    return_done pc =
        let same : 256 * (Back / 256) + Back % 256 ≡ Back = omega arith in
        ap (λ (it : Access ℕ B). then_do it it.result (λ pc cpu bus. flow.ends (jumped 4 pc cpu) bus)) (popped_back pc)
        ∙ ap (λ n. ended 4 (at_pc n cpu) bus') same

    pub comes_back : (call : Op) (cycles : ℕ) (target : Cpu → ℕ) → flow_effect a.get a.put flash call cpu bus ≡ calls a.put cycles words target cpu bus
        → ComesBack a flash call words cpu bus bus'
    comes_back call cycles target e = ap (λ (it : Access Done B). then_flow a flash op.Ret it) (call_done call cycles target e) ∙ return_done (target Both)
