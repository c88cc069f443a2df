-- A read of a timer of sixteen bits before cycles that it is not told of.
use Rattle.std.proofs.Common.{◌≡◌, ℕ, ◌/◌, ◌%◌, Bool, true, false, refl, sym, ap, subst, ◌∙◌}
use Rattle.avr_timers.specs.Clock.{cycles}
use Rattle.avr_timers.specs.Registers16.{compare_of, control_b, get_of}
use Rattle.avr_timers.specs.Timer as counter
use Rattle.avr_timers.specs.Timer16.{counter_of, timer_cycle, with_counter}
use Rattle.avr_timers.specs.declared.registers16.Channel.{Channel}
use Rattle.avr_timers.specs.declared.registers16.Channel.TheVariants.{A, B, C}
use Rattle.avr_timers.specs.declared.registers16.Reg16.{Reg16}
use Rattle.avr_timers.specs.declared.registers16.Reg16.TheVariants.{ControlA, ControlB, ControlC, CountL, CountH, IcrL, IcrH, CompL, CompH}
use Rattle.avr_timers.specs.declared.timer16.Timer16.{Timer16}
use Rattle.avr_timers.specs.declared.timer_counter.TimerCounter.{TimerCounter}
use Rattle.avr_timers.proofs.Clocks16.{cycles-with}

abbrev pub with_temp : ℕ → Timer16 → Timer16
with_temp x tm = record tm { temp = x }

-- cycles leave TEMP alone
pub temp_cycles : (t n x : ℕ) (tm : Timer16) → cycles timer_cycle t n (with_temp x tm) ≡ with_temp x (cycles timer_cycle t n tm)
temp_cycles t n x tm = cycles-with t n (with_temp x tm) ∙ ap (with_temp x) (sym (cycles-with t n tm))

pub get_count : (t n count r : ℕ) (tm new : Timer16) → count ≡ (cycles timer_cycle t n tm).count → r ≡ count % 256 → new ≡ with_temp (count / 256) tm
    → get_of (cycles timer_cycle t n tm) CountL ≡ (r, cycles timer_cycle t n new)
get_count t n count r tm new e low is =
    let later = cycles timer_cycle t n tm in
    let after : cycles timer_cycle t n new ≡ with_temp (later.count / 256) later = ap (cycles timer_cycle t n) is ∙ (temp_cycles t n (count / 256) tm ∙ ap (λ x. with_temp (x / 256) later) e) in
    let value : r ≡ later.count % 256 = low ∙ ap (λ x. x % 256) e in
    λ i. (sym value i, sym after i)

-- the other registers are not the counter's
abbrev pub is_count : Reg16 → Bool
is_count ControlA = false
is_count ControlB = false
is_count ControlC = false
is_count CountL = true
is_count CountH = false
is_count IcrL = false
is_count IcrH = false
is_count (CompL chan) = false
is_count (CompH chan) = false

same_compare : (chan : Channel) (tm : Timer16) (c : TimerCounter) → compare_of (with_counter tm c) chan ≡ compare_of tm chan
same_compare A tm c = refl
same_compare B tm c = refl
same_compare C tm c = refl

module _ (t n : ℕ) (tm : Timer16) where
  abbrev later : Timer16
  later = cycles timer_cycle t n tm

  is : later ≡ with_counter tm (cycles counter.counter_cycle t n (counter_of tm))
  is = cycles-with t n tm

  other : (reg : Reg16) → is_count reg ≡ false → get_of later reg ≡ ((get_of tm reg).0, cycles timer_cycle t n (get_of tm reg).1)
  other ControlA e = refl
  other ControlB e = ap (λ (u : Timer16). (control_b u, later)) is
  other ControlC e = refl
  other CountL e = absurd (cc)
  other CountH e = ap (λ (u : Timer16). (u.temp, later)) is
  other IcrL e = ap (λ (u : Timer16). (u.icr % 256, with_temp (u.icr / 256) later)) is ∙ ap (λ (u : Timer16). (tm.icr % 256, u)) (sym (temp_cycles t n (tm.icr / 256) tm))
  other IcrH e = ap (λ (u : Timer16). (u.temp, later)) is
  other (CompL chan) e = ap (λ (u : Timer16). (compare_of u chan % 256, later)) is ∙ ap (λ x. (x % 256, later)) (same_compare chan tm (cycles counter.counter_cycle t n (counter_of tm)))
  other (CompH chan) e = ap (λ (u : Timer16). (compare_of u chan / 256, later)) is ∙ ap (λ x. (x / 256, later)) (same_compare chan tm (cycles counter.counter_cycle t n (counter_of tm)))

  pub get_other : (reg : Reg16) (r : ℕ) (new : Timer16) → is_count reg ≡ false → get_of tm reg ≡ (r, new) → get_of later reg ≡ (r, cycles timer_cycle t n new)
  get_other reg r new e g = other reg e ∙ ap (λ (p : ℕ × Timer16). (p.0, cycles timer_cycle t n p.1)) g

-- a read changes nothing else than TEMP
temp_by : (tm : Timer16) (reg : Reg16) → (get_of tm reg).1 ≡ with_temp (get_of tm reg).1.temp tm
temp_by tm ControlA = refl
temp_by tm ControlB = refl
temp_by tm ControlC = refl
temp_by tm CountL = refl
temp_by tm CountH = refl
temp_by tm IcrL = refl
temp_by tm IcrH = refl
temp_by tm (CompL chan) = refl
temp_by tm (CompH chan) = refl

pub temp_alone : (tm : Timer16) (reg : Reg16) (r : ℕ) (new : Timer16) → get_of tm reg ≡ (r, new) → new ≡ with_temp new.temp tm
temp_alone tm reg r new e = subst (λ (p : ℕ × Timer16). p.1 ≡ with_temp p.1.temp tm) e (temp_by tm reg)
