-- What accesses leave as it is: whatever each load and each store of the bus leaves.
use Rattle.std.proofs.Common.{◌≡◌, ℕ, ◌+◌, ◌/◌, ◌%◌, ◌==◌, nat_lt, Bool, true, false, cond, subst}
use Rattle.std.specs.Prelude.{Result, Ok, Err}
use Rattle.avr_base.specs.declared.stop.StopCause.{StopCause}
use Rattle.data_space.specs.declared.cpu.Cpu.{Cpu}
use Rattle.data_space.specs.Space.{Access, answered, loaded, taken, stored, lowered, pushed, unless_stopped, popped}
use Rattle.data_space.specs.Sequence.{then_do, pushed_word, popped_word}

-- a bus that a load or a store gives shows v still
abbrev pub Got : {B V : Type 0} → (B → V) → V → Result (ℕ × B) StopCause → Type 0
Got view v (Ok given) = view given.1 ≡ v
Got view v (Err cause) = Unit {0}

abbrev pub Put : {B V : Type 0} → (B → V) → V → Result B StopCause → Type 0
Put view v (Ok given) = view given ≡ v
Put view v (Err cause) = Unit {0}

-- no load and no store of the bus changes what `view` shows of it
pub record Keeps {B V : Type 0} (view : B → V) (get : B → ℕ → Result (ℕ × B) StopCause) (put : B → ℕ → ℕ → Result B StopCause) : Type 0 where
  pub gets : (bus : B) (at : ℕ) → Got view (view bus) (get bus at)
  pub puts : (bus : B) (at value : ℕ) → Put view (view bus) (put bus at value)

module _ {B V : Type 0} {view : B → V} {get : B → ℕ → Result (ℕ × B) StopCause} {put : B → ℕ → ℕ → Result B StopCause}
    (keeps : Keeps view get put) (v : V) where
  if_kept : {R : Type 0} (b : Bool) (p q : Access R B) → view p.bus ≡ v → view q.bus ≡ v → view (cond b p q).bus ≡ v
  if_kept true p q h k = h
  if_kept false p q h k = k

  pub then_kept : {R S : Type 0} (a : Access R B) (r : Result R StopCause) (rest : R → Cpu → B → Access S B) → view a.bus ≡ v → ((value : R) (cpu : Cpu) (bus : B) → view bus ≡ v → view (rest value cpu bus).bus ≡ v) → view (then_do a r rest).bus ≡ v
  then_kept a (Ok value) rest h k = k value a.cpu a.bus h
  then_kept a (Err cause) rest h k = h

  answered_kept : (cpu : Cpu) (bus : B) (r : Result (ℕ × B) StopCause) → view bus ≡ v → Got view v r → view (answered cpu bus r).bus ≡ v
  answered_kept cpu bus (Ok given) h k = k
  answered_kept cpu bus (Err cause) h k = h

  pub loaded_kept : (at : ℕ) (cpu : Cpu) (bus : B) → view bus ≡ v → view (loaded get at cpu bus).bus ≡ v
  unfolding loaded
  loaded_kept at cpu bus h =
      if_kept (nat_lt at 0x20) _ _ h
      (if_kept (at == 0x5B) _ _ h
      (if_kept (at == 0x5D) _ _ h
      (if_kept (at == 0x5E) _ _ h
      (if_kept (at == 0x5F) _ _ h (answered_kept cpu bus (get bus at) h (subst (λ (w : V). Got view w (get bus at)) h (keeps.gets bus at)))))))

  taken_kept : (cpu : Cpu) (bus : B) (r : Result B StopCause) → view bus ≡ v → Put view v r → view (taken cpu bus r).bus ≡ v
  taken_kept cpu bus (Ok given) h k = k
  taken_kept cpu bus (Err cause) h k = h

  pub stored_kept : (at value : ℕ) (cpu : Cpu) (bus : B) → view bus ≡ v → view (stored put at value cpu bus).bus ≡ v
  unfolding stored
  stored_kept at value cpu bus h =
      if_kept (nat_lt at 0x20) _ _ h
      (if_kept (at == 0x5B) _ _ h
      (if_kept (at == 0x5D) _ _ h
      (if_kept (at == 0x5E) _ _ h
      (if_kept (at == 0x5F) _ _ h (taken_kept cpu bus (put bus at value) h (subst (λ (w : V). Put view w (put bus at value)) h (keeps.puts bus at value)))))))

  lowered_kept : (sp : ℕ) (a : Access (Unit {0}) B) (r : Result (Unit {0}) StopCause) → view a.bus ≡ v → view (lowered sp a r).bus ≡ v
  lowered_kept sp a (Ok done) h = h
  lowered_kept sp a (Err cause) h = h

  pub pushed_kept : (value : ℕ) (cpu : Cpu) (bus : B) → view bus ≡ v → view (pushed put value cpu bus).bus ≡ v
  unfolding pushed
  pushed_kept value cpu bus h =
      let a = stored put cpu.sp value cpu bus in lowered_kept ((cpu.sp + 65535) % 65536) a a.result (stored_kept cpu.sp value cpu bus h)

  pub stopped_kept : {R : Type 0} (cpu : Cpu) (a : Access R B) (r : Result R StopCause) → view a.bus ≡ v → view (unless_stopped cpu a r).bus ≡ v
  stopped_kept cpu a (Ok value) h = h
  stopped_kept cpu a (Err cause) h = h

  pub popped_kept : (cpu : Cpu) (bus : B) → view bus ≡ v → view (popped get cpu bus).bus ≡ v
  unfolding popped
  popped_kept cpu bus h =
      let sp : ℕ = (cpu.sp + 1) % 65536 in
      let raised : Cpu = record cpu { sp = sp } in
      let a = loaded get sp raised bus in
      stopped_kept cpu a a.result (loaded_kept sp raised bus h)

  pub word_pushed : (word : ℕ) (cpu : Cpu) (bus : B) → view bus ≡ v → view (pushed_word put word cpu bus).bus ≡ v
  unfolding pushed_word
  word_pushed word cpu bus h =
      let low = pushed put (word % 256) cpu bus in
      then_kept low low.result _ (pushed_kept (word % 256) cpu bus h) (λ value c b k. pushed_kept (word / 256) c b k)

  pub word_popped : (cpu : Cpu) (bus : B) → view bus ≡ v → view (popped_word get cpu bus).bus ≡ v
  unfolding popped_word
  word_popped cpu bus h =
      let high = popped get cpu bus in
      then_kept high high.result _ (popped_kept cpu bus h) (λ above c b k. (let low = popped get c b in then_kept low low.result _ (popped_kept c b k) (λ below d e l. l)))
