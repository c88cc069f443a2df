-- An instruction that accesses the internal SRAM, and no other data, leaves the board and SREG, and so does a
-- branch that is not taken. And what any instruction leaves, by what a loop over instructions is told.
use Rattle.std.proofs.Common.{◌≡◌, ℕ, ℤ, ◌+◌, ◌-◌, ◌*◌, ◌/◌, ◌%◌, if◌then◌else◌, not, nat_lt, Bool, true, false, List, refl, ap, sym, subst, ◌∙◌, arith}
use Rattle.std.proofs.lemmas.Bool.{and_parts, false≢true}
use Rattle.std.proofs.lemmas.Bool.Decides.{nat_tests}
use Rattle.std.specs.Prelude.{Result, Ok, IfOk, slice_index, slice_set}
use Rattle.avr_base.specs.declared.stop.StopCause.{StopCause}
use Rattle.avr_base.specs.declared.sreg.Sreg.{Sreg}
use Rattle.avr_decoder.specs.Words.{words_of}
use Rattle.avr_decoder.specs.declared.op.Op.{Op}
use Rattle.avr_decoder.specs.declared.op.Op.TheVariants as op
use Rattle.avr_core.specs.FlowShapes.{bit_is, branched, calls, jumped, relative, returns}
use Rattle.avr_core.specs.FlowShapes.{ends as flow_ends}
use Rattle.avr_core.specs.FlowTable.{flow_effect}
use Rattle.avr_core.specs.MemoryShapes.{decremented, displaced, ends, loads, loads_post_increment, loads_pre_decrement, pops, pushes, stores, stores_post_increment, stores_pre_decrement}
use Rattle.avr_core.specs.MemoryTable.{memory_effect, x, y, z}
use Rattle.data_space.specs.declared.bus.Done.{Done}
use Rattle.data_space.specs.declared.cpu.Cpu.{Cpu}
use Rattle.data_space.specs.Core.{advanced, pair_at, with_pair, with_reg}
use Rattle.data_space.specs.Sequence.{Outcome, done, popped_word, pushed_word, then_do}
use Rattle.data_space.specs.Space.{Access, answered, answers, loaded, lowered, popped, pushed, stored, taken, takes, unless_stopped}
use Rattle.node_core.specs.declared.bus.NodeBus.{NodeBus}
use Rattle.avr_core.specs.declared.instructions.After.{After}
use Rattle.avr_core.specs.declared.instructions.After.TheVariants as after
use Rattle.avr_core.specs.Execute.{in_sram, after_at, after_of, executed_over, accesses_sram, calls_by_sram, falls_through, returns_by_sram}
use Rattle.node_core.specs.Bus.{bus_get, bus_put}
use Rattle.node_core.specs.Cycle.{is_sei}
use Rattle.node_core.specs.Execute.{executed}
use Rattle.node_core.proofs.Quiet.{enables, is_enabled, is_single, keeps_bus, keeps_i, may_access, may_change, single_cycle}

-- ---- an access
got : (bus : NodeBus) (at : ℕ) → in_sram at ≡ true → bus_get bus at ≡ Ok (slice_index bus.sram (at - 0x100), bus)
unfolding bus_get
got bus at h = grind (arith, nat_tests, h)

put : (bus : NodeBus) (at b : ℕ) → in_sram at ≡ true → bus_put bus at b ≡ Ok (let n : NodeBus = record bus { sram = slice_set bus.sram (at - 0x100) b } in n)
unfolding bus_put
put bus at b h = grind (arith, nat_tests, h)

load_is : (at : ℕ) (cpu : Cpu) (bus : NodeBus) → in_sram at ≡ true → loaded bus_get at cpu bus ≡ answers (slice_index bus.sram (at - 0x100)) cpu bus
unfolding loaded
load_is at cpu bus h = grind (arith, nat_tests, h) ∙ ap (answered cpu bus) (got bus at h)

store_is : (at b : ℕ) (cpu : Cpu) (bus : NodeBus) → in_sram at ≡ true → stored bus_put at b cpu bus ≡ takes cpu (let n : NodeBus = record bus { sram = slice_set bus.sram (at - 0x100) b } in n)
unfolding stored
store_is at b cpu bus h = grind (arith, nat_tests, h) ∙ ap (taken cpu bus) (put bus at b h)

-- ---- an instruction that leaves the board and SREG
abbrev pub Leaves : Cpu → NodeBus → Outcome NodeBus → Type 0
Leaves cpu bus o = (o.bus.io ≡ bus.io) × (o.cpu.sreg ≡ cpu.sreg)

load_leaves : (d at words cycles : ℕ) (cpu : Cpu) (bus : NodeBus) → in_sram at ≡ true → Leaves cpu bus (loads bus_get d at words cycles cpu bus)
unfolding loads
load_leaves d at words cycles cpu bus h =
    subst (λ (a : Access ℕ NodeBus). Leaves cpu bus (then_do a a.result (λ byte c b. ends words cycles (with_reg d byte c) b))) (sym (load_is at cpu bus h)) (refl, refl)

store_leaves : (at b words cycles : ℕ) (cpu : Cpu) (bus : NodeBus) → in_sram at ≡ true → Leaves cpu bus (stores bus_put at b words cycles cpu bus)
unfolding stores
store_leaves at b words cycles cpu bus h =
    subst (λ (a : Access (Unit {0}) NodeBus). Leaves cpu bus (then_do a a.result (λ _ c n. ends words cycles c n))) (sym (store_is at b cpu bus h)) (refl, refl)

load_on_leaves : (d p : ℕ) (cpu : Cpu) (bus : NodeBus) → in_sram (pair_at p cpu) ≡ true → Leaves cpu bus (loads_post_increment bus_get d p cpu bus)
unfolding loads_post_increment
load_on_leaves d p cpu bus h =
    subst (λ (a : Access ℕ NodeBus). Leaves cpu bus (then_do a a.result (λ byte c b. ends 1 2 (with_pair p (displaced p 1 cpu) (with_reg d byte c)) b))) (sym (load_is (pair_at p cpu) cpu bus h)) (refl, refl)

store_on_leaves : (p r : ℕ) (cpu : Cpu) (bus : NodeBus) → in_sram (pair_at p cpu) ≡ true → Leaves cpu bus (stores_post_increment bus_put p r cpu bus)
unfolding stores_post_increment
store_on_leaves p r cpu bus h =
    subst (λ (a : Access (Unit {0}) NodeBus). Leaves cpu bus (then_do a a.result (λ _ c n. ends 1 2 (with_pair p (displaced p 1 cpu) c) n))) (sym (store_is (pair_at p cpu) (slice_index cpu.r r) cpu bus h)) (refl, refl)

load_before_leaves : (d p : ℕ) (cpu : Cpu) (bus : NodeBus) → in_sram (decremented p cpu) ≡ true → Leaves cpu bus (loads_pre_decrement bus_get d p cpu bus)
unfolding loads_pre_decrement
load_before_leaves d p cpu bus h =
    let at : ℕ = decremented p cpu in
    subst (λ (a : Access ℕ NodeBus). Leaves cpu bus (then_do (unless_stopped cpu a a.result) (unless_stopped cpu a a.result).result (λ byte c b. ends 1 2 (with_reg d byte c) b))) (sym (load_is at (with_pair p at cpu) bus h)) (refl, refl)

store_before_leaves : (p r : ℕ) (cpu : Cpu) (bus : NodeBus) → in_sram (decremented p cpu) ≡ true → Leaves cpu bus (stores_pre_decrement bus_put p r cpu bus)
unfolding stores_pre_decrement
store_before_leaves p r cpu bus h =
    let at : ℕ = decremented p cpu in
    let lower : Cpu = with_pair p at cpu in
    subst (λ (a : Access (Unit {0}) NodeBus). Leaves cpu bus (then_do (unless_stopped cpu a a.result) (unless_stopped cpu a a.result).result (λ _ c n. ends 1 2 c n))) (sym (store_is at (slice_index lower.r r) lower bus h)) (refl, refl)

push_leaves : (r : ℕ) (cpu : Cpu) (bus : NodeBus) → in_sram cpu.sp ≡ true → Leaves cpu bus (pushes bus_put r cpu bus)
unfolding pushes pushed
push_leaves r cpu bus h =
    subst (λ (a : Access (Unit {0}) NodeBus). (let s = lowered ((cpu.sp + 65535) % 65536) a a.result in Leaves cpu bus (then_do s s.result (λ _ c n. ends 1 2 c n))))
    (sym (store_is cpu.sp (slice_index cpu.r r) cpu bus h)) (refl, refl)

pop_leaves : (d : ℕ) (cpu : Cpu) (bus : NodeBus) → in_sram ((cpu.sp + 1) % 65536) ≡ true → Leaves cpu bus (pops bus_get d cpu bus)
unfolding pops popped
pop_leaves d cpu bus h =
    let sp : ℕ = (cpu.sp + 1) % 65536 in
    let raised : Cpu = record cpu { sp = sp } in
    subst (λ (a : Access ℕ NodeBus). (let s = unless_stopped cpu a a.result in Leaves cpu bus (then_do s s.result (λ byte c b. ends 1 2 (with_reg d byte c) b))))
    (sym (load_is sp raised bus h)) (refl, refl)

pop_is : (cpu : Cpu) (bus : NodeBus) → in_sram ((cpu.sp + 1) % 65536) ≡ true → popped bus_get cpu bus ≡ answers (slice_index bus.sram ((cpu.sp + 1) % 65536 - 0x100)) (let c : Cpu = record cpu { sp = (cpu.sp + 1) % 65536 } in c) bus
unfolding popped
pop_is cpu bus h =
    let sp : ℕ = (cpu.sp + 1) % 65536 in
    let raised : Cpu = record cpu { sp = sp } in
    ap (λ (a : Access ℕ NodeBus). unless_stopped cpu a a.result) (load_is sp raised bus h)

-- the end of a return, by the access that gives the high byte of the address, and by that which gives the low one
abbrev returned_by : ℕ → Access ℕ NodeBus → Outcome NodeBus
returned_by above low =
    let back = then_do low low.result (λ below c b. answers (256 * above + below) c b) in
    then_do back back.result (λ pc c b. flow_ends (jumped 4 pc c) b)

abbrev returned_from : Access ℕ NodeBus → Outcome NodeBus
returned_from high =
    let back = then_do high high.result (λ above c b.
    (let low = popped bus_get c b in
    then_do low low.result (λ below c b. answers (256 * above + below) c b))) in
    then_do back back.result (λ pc c b. flow_ends (jumped 4 pc c) b)

return_leaves : (cpu : Cpu) (bus : NodeBus) → returns_by_sram cpu.sp ≡ true → Leaves cpu bus (returns bus_get cpu bus)
unfolding returns popped_word
return_leaves cpu bus h =
    let sp : ℕ = (cpu.sp + 1) % 65536 in
    let raised : Cpu = record cpu { sp = sp } in
    let both = and_parts _ _ h in
    let above : ℕ = slice_index bus.sram (sp - 0x100) in
    let low : Leaves cpu bus (returned_by above (popped bus_get raised bus)) = subst (λ (a : Access ℕ NodeBus). Leaves cpu bus (returned_by above a)) (sym (pop_is raised bus both.1)) (refl, refl) in
    subst (λ (a : Access ℕ NodeBus). Leaves cpu bus (returned_from a)) (sym (pop_is cpu bus both.0)) low

-- ---- a call: its two pushes
push_is : (b : ℕ) (cpu : Cpu) (bus : NodeBus) → in_sram cpu.sp ≡ true → pushed bus_put b cpu bus ≡ takes (let c : Cpu = record cpu { sp = (cpu.sp + 65535) % 65536 } in c) (let n : NodeBus = record bus { sram = slice_set bus.sram (cpu.sp - 0x100) b } in n)
unfolding pushed
push_is b cpu bus h =
    ap (λ (a : Access (Unit {0}) NodeBus). lowered ((cpu.sp + 65535) % 65536) a a.result) (store_is cpu.sp b cpu bus h)

-- the end of a call, by the access that pushes the high byte of the address, and by that which pushes the low one
module _ (cycles words : ℕ) (target : Cpu → ℕ) where
  abbrev called_by : Access (Unit {0}) NodeBus → Outcome NodeBus
  called_by high = then_do high high.result (λ _ c b. flow_ends (jumped cycles (target c) c) b)

  abbrev called_from : ℕ → Access (Unit {0}) NodeBus → Outcome NodeBus
  called_from word low = called_by (then_do low low.result (λ _ c b. pushed bus_put (word / 256) c b))

  call_leaves : (cpu : Cpu) (bus : NodeBus) → calls_by_sram cpu.sp ≡ true → Leaves cpu bus (calls bus_put cycles words target cpu bus)
  unfolding calls pushed_word
  call_leaves cpu bus h =
      let word : ℕ = (cpu.pc + words) % 65536 in
      let lower : Cpu = record cpu { sp = (cpu.sp + 65535) % 65536 } in
      let both = and_parts _ _ h in
      let there : NodeBus = record bus { sram = slice_set bus.sram (cpu.sp - 0x100) (word % 256) } in
      let high : Leaves cpu bus (called_by (pushed bus_put (word / 256) lower there)) = subst (λ (a : Access (Unit {0}) NodeBus). Leaves cpu bus (called_by a)) (sym (push_is (word / 256) lower there both.1)) (refl, refl) in
      subst (λ (a : Access (Unit {0}) NodeBus). Leaves cpu bus (called_from word a)) (sym (push_is (word % 256) cpu bus both.0)) high

module _ (flash : List ℕ) (cpu : Cpu) (bus : NodeBus) where
  pub sram_leaves : (o : Op) → accesses_sram o cpu ≡ true → Leaves cpu bus (executed flash o cpu bus)
  unfolding executed_over memory_effect flow_effect
  sram_leaves (op.Call k) h = call_leaves 4 2 (λ _. k) cpu bus h
  sram_leaves (op.Rcall k) h = call_leaves 3 1 (relative k) cpu bus h
  sram_leaves op.Icall h = call_leaves 3 1 (pair_at 30) cpu bus h
  sram_leaves op.Ret h = return_leaves cpu bus h
  sram_leaves (op.LdX d) h = load_leaves d (pair_at x cpu) 1 2 cpu bus h
  sram_leaves (op.LddY d q) h = load_leaves d (displaced y q cpu) 1 2 cpu bus h
  sram_leaves (op.LddZ d q) h = load_leaves d (displaced z q cpu) 1 2 cpu bus h
  sram_leaves (op.Lds d k) h = load_leaves d k (words_of (op.Lds d k)) 2 cpu bus h
  sram_leaves (op.LdXInc d) h = load_on_leaves d x cpu bus h
  sram_leaves (op.LdYInc d) h = load_on_leaves d y cpu bus h
  sram_leaves (op.LdZInc d) h = load_on_leaves d z cpu bus h
  sram_leaves (op.LdXDec d) h = load_before_leaves d x cpu bus h
  sram_leaves (op.LdYDec d) h = load_before_leaves d y cpu bus h
  sram_leaves (op.LdZDec d) h = load_before_leaves d z cpu bus h
  sram_leaves (op.StX r) h = store_leaves (pair_at x cpu) (slice_index cpu.r r) 1 2 cpu bus h
  sram_leaves (op.StdY q r) h = store_leaves (displaced y q cpu) (slice_index cpu.r r) 1 2 cpu bus h
  sram_leaves (op.StdZ q r) h = store_leaves (displaced z q cpu) (slice_index cpu.r r) 1 2 cpu bus h
  sram_leaves (op.Sts k r) h = store_leaves k (slice_index cpu.r r) (words_of (op.Sts k r)) 2 cpu bus h
  sram_leaves (op.StXInc r) h = store_on_leaves x r cpu bus h
  sram_leaves (op.StYInc r) h = store_on_leaves y r cpu bus h
  sram_leaves (op.StZInc r) h = store_on_leaves z r cpu bus h
  sram_leaves (op.StXDec r) h = store_before_leaves x r cpu bus h
  sram_leaves (op.StYDec r) h = store_before_leaves y r cpu bus h
  sram_leaves (op.StZDec r) h = store_before_leaves z r cpu bus h
  sram_leaves (op.Push r) h = push_leaves r cpu bus h
  sram_leaves (op.Pop d) h = pop_leaves d cpu bus h
  sram_leaves _ h = absurd (false≢true h)

-- ---- a branch that is not taken: it takes a cycle, and leaves the data space and SREG
abbrev FallsThrough : Cpu → NodeBus → Outcome NodeBus → Type 0
FallsThrough cpu bus o = (o.result ≡ Ok (done 1)) × (o.bus ≡ bus) × (o.cpu.sreg ≡ cpu.sreg)

not_on : (b : Bool) → not b ≡ true → b ≡ false
not_on true h = absurd (false≢true h)
not_on false h = refl

branch_falls : (on : Bool) (k : ℤ) (cpu : Cpu) (bus : NodeBus) → not on ≡ true → FallsThrough cpu bus (flow_ends (branched on k cpu) bus)
unfolding branched
branch_falls on k cpu bus h = subst (λ b. FallsThrough cpu bus (flow_ends (if b then jumped 2 (relative k cpu) cpu else (done 1, advanced 1 cpu)) bus)) (sym (not_on on h)) (refl, refl, refl)

falls : (flash : List ℕ) (o : Op) (cpu : Cpu) (bus : NodeBus) → falls_through o cpu ≡ true → FallsThrough cpu bus (executed flash o cpu bus)
unfolding executed_over flow_effect
falls flash (op.Brbs s k) cpu bus h = branch_falls (bit_is true (s % 8) cpu.sreg.bits) k cpu bus h
falls flash (op.Brbc s k) cpu bus h = branch_falls (bit_is false (s % 8) cpu.sreg.bits) k cpu bus h
falls flash _ cpu bus h = absurd (false≢true h)

-- ---- what an instruction on this core leaves
no_sei : (o : Op) (cpu : Cpu) → accesses_sram o cpu ≡ true → is_sei o ≡ false
no_sei op.Nop cpu h = refl
no_sei _ cpu h = cc

no_branch_sei : (o : Op) (cpu : Cpu) → falls_through o cpu ≡ true → is_sei o ≡ false
no_branch_sei op.Nop cpu h = refl
no_branch_sei _ cpu h = cc

-- by whether it is a branch that is not taken, and whether it accesses a byte of the SRAM
module _ (o : Op) (cpu : Cpu) (P : After → Type 0) (fall : falls_through o cpu ≡ true → P after.Single) (sram : accesses_sram o cpu ≡ true → P after.Nothing) (other : P (after_of o)) where
  by_sram : (b : Bool) → accesses_sram o cpu ≡ b → P (if b then after.Nothing else after_of o)
  by_sram true e = sram e
  by_sram false e = other

  by_fall : (b : Bool) → falls_through o cpu ≡ b → P (if b then after.Single else (if accesses_sram o cpu then after.Nothing else after_of o))
  by_fall true e = fall e
  by_fall false e = by_sram (accesses_sram o cpu) refl

  by_after : P (after_at o cpu)
  by_after = by_fall (falls_through o cpu) refl

pub enables_at : (o : Op) (cpu : Cpu) → is_sei o ≡ is_enabled (after_at o cpu)
enables_at o cpu = by_after o cpu (λ k. is_sei o ≡ is_enabled k) (no_branch_sei o cpu) (no_sei o cpu) (enables o)

module _ (flash : List ℕ) (o : Op) (cpu : Cpu) (bus : NodeBus) where
  pub keeps_i_at : may_change (after_at o cpu) ≡ false → nat_lt (executed flash o cpu bus).cpu.sreg.bits 128 ≡ nat_lt cpu.sreg.bits 128
  keeps_i_at =
      by_after o cpu (λ k. may_change k ≡ false → nat_lt (executed flash o cpu bus).cpu.sreg.bits 128 ≡ nat_lt cpu.sreg.bits 128)
      (λ e h. ap (λ (s : Sreg). nat_lt s.bits 128) (falls flash o cpu bus e).2)
      (λ e h. ap (λ (s : Sreg). nat_lt s.bits 128) (sram_leaves flash cpu bus o e).1)
      (keeps_i flash o cpu bus)

  pub single_cycle_at : (d : Done) → after_at o cpu ≡ after.Single → (executed flash o cpu bus).result ≡ Ok d → d.cycles ≡ 1
  single_cycle_at d =
      by_after o cpu (λ k. k ≡ after.Single → (executed flash o cpu bus).result ≡ Ok d → d.cycles ≡ 1)
      (λ e h ok. subst (λ (r : Result Done StopCause). IfOk r (λ (x : Done). x.cycles ≡ 1)) (sym (falls flash o cpu bus e).0 ∙ ok) refl)
      (λ e h ok. absurd (false≢true (ap is_single h)))
      (single_cycle flash o cpu bus d)

  pub keeps_board : may_access (after_at o cpu) ≡ false → (executed flash o cpu bus).bus.io ≡ bus.io
  keeps_board =
      by_after o cpu (λ k. may_access k ≡ false → (executed flash o cpu bus).bus.io ≡ bus.io)
      (λ e h. ap (λ (n : NodeBus). n.io) (falls flash o cpu bus e).1)
      (λ e h. (sram_leaves flash cpu bus o e).0)
      (λ h. ap (λ (n : NodeBus). n.io) (keeps_bus flash cpu bus o h))
