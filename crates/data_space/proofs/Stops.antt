-- An access leaves the program counter as it is, and so an instruction that stops at one leaves it too.
use Rattle.std.proofs.Common.{◌≡◌, ℕ, ◌+◌, ◌/◌, ◌%◌, ◌==◌, nat_lt, Bool, true, false, cond, ap, ◌∙◌}
use Rattle.std.specs.Prelude.{OnErr, Result, Ok, Err}
use Rattle.avr_base.specs.declared.stop.StopCause.{StopCause}
use Rattle.data_space.specs.declared.cpu.Cpu.{Cpu}
use Rattle.data_space.specs.Space.{Access, loaded, lowered, popped, pushed, stored, taken, unless_stopped}
use Rattle.data_space.specs.Sequence.{popped_word, pushed_word, then_do}
use Rattle.data_space.proofs.Flags.{loaded_same}

-- where it stopped, the program counter is p
abbrev pub Stops : {R B : Type 0} → ℕ → Access R B → Type 0
Stops p a = OnErr a.result (a.cpu.pc ≡ p)

module _ {B : Type 0} (p : ℕ) where
  -- of an access and what follows on its answer, which may move it where it ends
  pub then_stops : {R S : Type 0} (a : Access R B) (r : Result R StopCause) (rest : R → Cpu → B → Access S B) → a.cpu.pc ≡ p → ((value : R) (cpu : Cpu) (bus : B) → cpu.pc ≡ p → Stops p (rest value cpu bus)) → Stops p (then_do a r rest)
  then_stops a (Ok value) rest h k = k value a.cpu a.bus h
  then_stops a (Err cause) rest h k = h

  -- of one that no access of what follows moves
  then_pc : {R S : Type 0} (a : Access R B) (r : Result R StopCause) (rest : R → Cpu → B → Access S B) → a.cpu.pc ≡ p → ((value : R) (cpu : Cpu) (bus : B) → cpu.pc ≡ p → (rest value cpu bus).cpu.pc ≡ p) → (then_do a r rest).cpu.pc ≡ p
  then_pc a (Ok value) rest h k = k value a.cpu a.bus h
  then_pc a (Err cause) rest h k = h

  pub settled_pc : {R : Type 0} (cpu : Cpu) (a : Access R B) (r : Result R StopCause) → cpu.pc ≡ p → a.cpu.pc ≡ p → (unless_stopped cpu a r).cpu.pc ≡ p
  settled_pc cpu a (Ok value) h k = k
  settled_pc cpu a (Err cause) h k = h

  if_pc : {R : Type 0} (b : Bool) (x y : Access R B) → x.cpu.pc ≡ p → y.cpu.pc ≡ p → (cond b x y).cpu.pc ≡ p
  if_pc true x y h k = h
  if_pc false x y h k = k

  taken_pc : (cpu : Cpu) (bus : B) (r : Result B StopCause) → cpu.pc ≡ p → (taken cpu bus r).cpu.pc ≡ p
  taken_pc cpu bus (Ok given) h = h
  taken_pc cpu bus (Err cause) h = h

  lowered_pc : (sp : ℕ) (a : Access (Unit {0}) B) (r : Result (Unit {0}) StopCause) → a.cpu.pc ≡ p → (lowered sp a r).cpu.pc ≡ p
  lowered_pc sp a (Ok done) h = h
  lowered_pc sp a (Err cause) h = h

module _ {B : Type 0} (get : B → ℕ → Result (ℕ × B) StopCause) (p : ℕ) where
  pub loaded_pc : (at : ℕ) (cpu : Cpu) (bus : B) → cpu.pc ≡ p → (loaded get at cpu bus).cpu.pc ≡ p
  loaded_pc at cpu bus h = ap (λ (c : Cpu). c.pc) (loaded_same get at cpu bus) ∙ h

  pub popped_pc : (cpu : Cpu) (bus : B) → cpu.pc ≡ p → (popped get cpu bus).cpu.pc ≡ p
  unfolding popped
  popped_pc cpu bus h =
      let sp : ℕ = (cpu.sp + 1) % 65536 in
      let raised : Cpu = record cpu { sp = sp } in
      let a = loaded get sp raised bus in
      settled_pc p cpu a a.result h (loaded_pc sp raised bus h)

  pub popped_word_pc : (cpu : Cpu) (bus : B) → cpu.pc ≡ p → (popped_word get cpu bus).cpu.pc ≡ p
  unfolding popped_word
  popped_word_pc cpu bus h =
      let high = popped get cpu bus in
      then_pc p high high.result _ (popped_pc cpu bus h) (λ above c b k. (let low = popped get c b in then_pc p low low.result _ (popped_pc c b k) (λ below d e l. l)))

module _ {B : Type 0} (put : B → ℕ → ℕ → Result B StopCause) (p : ℕ) where
  pub stored_pc : (at value : ℕ) (cpu : Cpu) (bus : B) → cpu.pc ≡ p → (stored put at value cpu bus).cpu.pc ≡ p
  unfolding stored
  stored_pc at value cpu bus h =
      if_pc p (nat_lt at 0x20) _ _ h
      (if_pc p (at == 0x5B) _ _ h
      (if_pc p (at == 0x5D) _ _ h
      (if_pc p (at == 0x5E) _ _ h
      (if_pc p (at == 0x5F) _ _ h (taken_pc p cpu bus (put bus at value) h)))))

  pub pushed_pc : (value : ℕ) (cpu : Cpu) (bus : B) → cpu.pc ≡ p → (pushed put value cpu bus).cpu.pc ≡ p
  unfolding pushed
  pushed_pc value cpu bus h =
      let a = stored put cpu.sp value cpu bus in lowered_pc p ((cpu.sp + 65535) % 65536) a a.result (stored_pc cpu.sp value cpu bus h)

  pub pushed_word_pc : (word : ℕ) (cpu : Cpu) (bus : B) → cpu.pc ≡ p → (pushed_word put word cpu bus).cpu.pc ≡ p
  unfolding pushed_word
  pushed_word_pc word cpu bus h =
      let low = pushed put (word % 256) cpu bus in
      then_pc p low low.result _ (pushed_pc (word % 256) cpu bus h) (λ value c b k. pushed_pc (word / 256) c b k)
