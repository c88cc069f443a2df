-- A load leaves the core as it is; a pop changes the stack pointer alone, and so no flag.
use Rattle.std.proofs.Common.{◌≡◌, ℕ, ◌+◌, ◌%◌, ◌==◌, nat_lt, Bool, true, false, cond, refl, ap, ◌∙◌}
use Rattle.std.specs.Prelude.{Result, Ok, Err}
use Rattle.avr_base.specs.declared.sreg.Sreg.{Sreg}
use Rattle.avr_base.specs.declared.stop.StopCause.{StopCause}
use Rattle.data_space.specs.declared.cpu.Cpu.{Cpu}
use Rattle.data_space.specs.Space.{Access, answered, loaded, popped, unless_stopped}
use Rattle.data_space.specs.Sequence.{then_do, popped_word}

module _ {B : Type 0} (cpu : Cpu) where
  if_same : (b : Bool) (p q : Access ℕ B) → p.cpu ≡ cpu → q.cpu ≡ cpu → (cond b p q).cpu ≡ cpu
  if_same true p q h k = h
  if_same false p q h k = k

  answered_same : (bus : B) (r : Result (ℕ × B) StopCause) → (answered cpu bus r).cpu ≡ cpu
  answered_same bus (Ok given) = refl
  answered_same bus (Err cause) = refl

pub loaded_same : {B : Type 0} (get : B → ℕ → Result (ℕ × B) StopCause) (at : ℕ) (cpu : Cpu) (bus : B) → (loaded get at cpu bus).cpu ≡ cpu
unfolding loaded
loaded_same get at cpu bus =
    if_same cpu (nat_lt at 0x20) _ _ refl
    (if_same cpu (at == 0x5B) _ _ refl
    (if_same cpu (at == 0x5D) _ _ refl
    (if_same cpu (at == 0x5E) _ _ refl
    (if_same cpu (at == 0x5F) _ _ refl (answered_same cpu bus (get bus at))))))

-- the flags stay what they were, s, where they do in the access and in what follows on its answer
module _ {B : Type 0} (s : Sreg) where
  pub then_flags : {R S : Type 0} (a : Access R B) (r : Result R StopCause) (rest : R → Cpu → B → Access S B) → a.cpu.sreg ≡ s → ((value : R) (cpu : Cpu) (bus : B) → cpu.sreg ≡ s → (rest value cpu bus).cpu.sreg ≡ s) → (then_do a r rest).cpu.sreg ≡ s
  then_flags a (Ok value) rest h k = k value a.cpu a.bus h
  then_flags a (Err cause) rest h k = h

  pub stopped_flags : {R : Type 0} (cpu : Cpu) (a : Access R B) (r : Result R StopCause) → cpu.sreg ≡ s → a.cpu.sreg ≡ s → (unless_stopped cpu a r).cpu.sreg ≡ s
  stopped_flags cpu a (Ok value) h k = k
  stopped_flags cpu a (Err cause) h k = h

module _ {B : Type 0} (get : B → ℕ → Result (ℕ × B) StopCause) where
  pub loaded_flags : (at : ℕ) (cpu : Cpu) (bus : B) → (loaded get at cpu bus).cpu.sreg ≡ cpu.sreg
  loaded_flags at cpu bus = ap (λ (c : Cpu). c.sreg) (loaded_same get at cpu bus)

  pub popped_flags : (cpu : Cpu) (bus : B) → (popped get cpu bus).cpu.sreg ≡ cpu.sreg
  unfolding popped
  popped_flags cpu bus =
      let sp : ℕ = (cpu.sp + 1) % 65536 in
      let raised : Cpu = record cpu { sp = sp } in
      let a = loaded get sp raised bus in
      stopped_flags cpu.sreg cpu a a.result refl (loaded_flags sp raised bus)

  pub popped_word_flags : (cpu : Cpu) (bus : B) → (popped_word get cpu bus).cpu.sreg ≡ cpu.sreg
  unfolding popped_word
  popped_word_flags cpu bus =
      let high = popped get cpu bus in
      then_flags cpu.sreg high high.result _ (popped_flags cpu bus) (λ above c b h. (let low = popped get c b in then_flags cpu.sreg low low.result _ (popped_flags c b ∙ h) (λ below d e k. k)))
