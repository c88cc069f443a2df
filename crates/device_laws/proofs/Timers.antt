-- What the calls of a timer keep.
use Rattle.std.proofs.Common.{◌≡◌, ℕ, zero, suc, ◌+◌, ◌%◌, ◌≤◌, Bool, true, false, if◌then◌else◌, refl, sym, ap, subst, ◌∙◌, Option, Some, None, Result, Ok, Err, arith}
use Rattle.std.proofs.lemmas.Bool.Decides.{nat_tests}
use Rattle.avr_base.specs.declared.stop.StopCause.{StopCause}
use Rattle.avr_base.specs.declared.stop.StopCause.TheVariants as stop
use Rattle.avr_timers.specs.declared.flags.TimerFlags.{TimerFlags}
use Rattle.device_base.specs.Bits.{any_bit}
use Rattle.avr_timers.specs.Clock.{cycles}
use Rattle.avr_timers.specs.declared.prescaler.Prescaler.{Prescaler}
use Rattle.avr_timers.specs.declared.prescaler.Prescaler.TheVariants.{Shared}
use Rattle.avr_timers.specs.Prescaler.{is_pin}
use Rattle.avr_timers.specs.declared.registers8.Reg8.{Reg8}
use Rattle.avr_timers.specs.declared.registers8.Reg8.TheVariants as reg8
use Rattle.avr_timers.specs.declared.timer8.Timer8.{Timer8}
use Rattle.avr_timers.specs.Registers8.{put_of as put_8}
use Rattle.avr_timers.specs.Timer8 as timer8
use Rattle.avr_timers.specs.declared.mode.Mode16.{Mode16}
use Rattle.avr_timers.specs.declared.registers16.Reg16.{Reg16}
use Rattle.avr_timers.specs.declared.registers16.Reg16.TheVariants as reg16
use Rattle.avr_timers.specs.declared.registers16.Channel.{Channel}
use Rattle.avr_timers.specs.declared.registers16.Channel.TheVariants as chan
use Rattle.avr_timers.specs.declared.timer16.Timer16.{Timer16}
use Rattle.avr_timers.specs.Registers16.{get_of as get_16, put_of as put_16, with_compare, with_control_a, with_control_b}
use Rattle.avr_timers.specs.Timer16 as timer16
use Rattle.device_laws.specs.States.{IsTimer16, IsTimer8}

-- two results of a write that did not stop
pub same_ok : {A : Type 0} (x y : A) (r : Result A StopCause) → r ≡ Ok x → r ≡ Ok y → x ≡ y
same_ok x y r e f = cc

-- what a chosen one of two keeps
pub kept_if : {A : Type 0} (P : A → Type 0) (c : Bool) (x y : A) → P x → P y → P (if c then x else y)
kept_if P true x y h k = h
kept_if P false x y h k = k

module _ (prescaler : Prescaler) where
  pub cycle_8 : (t : ℕ) (tm : Timer8) → IsTimer8 prescaler tm → IsTimer8 prescaler (timer8.timer_cycle t tm)
  cycle_8 t tm h = record { prescaler_is = h.prescaler_is; select = h.select; no_pin = h.no_pin }

  pub leap_8 : (t n : ℕ) (tm : Timer8) → IsTimer8 prescaler tm → IsTimer8 prescaler (cycles timer8.timer_cycle t n tm)
  unfolding cycles
  leap_8 t zero tm h = h
  leap_8 t (suc n) tm h = cycle_8 (t + n) (cycles timer8.timer_cycle t n tm) (leap_8 t n tm h)

  -- by the four tests of a write of TCCR
  control_8 : (tm tm' : Timer8) (b : ℕ) (forced pwm out pin : Bool) → IsTimer8 prescaler tm → is_pin tm.prescaler (b % 8) ≡ pin
      → (if forced then Err stop.ForcedCompare else if pwm then Err stop.PwmMode else if out then Err stop.CompareOutput
      else if pin then Err stop.ExternalTimerClock else Ok (record tm { ctc = any_bit b 0x08; select = b % 8 })) ≡ Ok tm'
      → IsTimer8 prescaler tm'
  control_8 tm tm' b true pwm out pin h p e = absurd (cc)
  control_8 tm tm' b false true out pin h p e = absurd (cc)
  control_8 tm tm' b false false true pin h p e = absurd (cc)
  control_8 tm tm' b false false false true h p e = absurd (cc)
  control_8 tm tm' b false false false false h p e =
      let same : record tm { ctc = any_bit b 0x08; select = b % 8 } ≡ tm' = same_ok _ _ _ refl e in
      subst (IsTimer8 prescaler) same (record {
        prescaler_is = h.prescaler_is;
        select = omega arith;
        no_pin = ap (λ w. is_pin w (b % 8)) (sym h.prescaler_is) ∙ p;
      })

  pub put_8_kept : (tm tm' : Timer8) (reg : Reg8) (b : ℕ) → IsTimer8 prescaler tm → put_8 tm reg b ≡ Ok tm' → IsTimer8 prescaler tm'
  put_8_kept tm tm' reg8.Control b h e =
      control_8 tm tm' b (any_bit b 0x80) (any_bit b 0x40) (any_bit b 0x30) (is_pin tm.prescaler (b % 8)) h refl e
  put_8_kept tm tm' reg8.Count b h e =
      subst (IsTimer8 prescaler) (same_ok _ _ _ refl e) (record { prescaler_is = h.prescaler_is; select = h.select; no_pin = h.no_pin })
  put_8_kept tm tm' reg8.Compare b h e =
      subst (IsTimer8 prescaler) (same_ok _ _ _ refl e) (record { prescaler_is = h.prescaler_is; select = h.select; no_pin = h.no_pin })

  -- another timer with the same select
  pub again_8 : (tm tm' : Timer8) → tm'.prescaler ≡ tm.prescaler → tm'.select ≡ tm.select → IsTimer8 prescaler tm → IsTimer8 prescaler tm'
  again_8 tm tm' e f h = record {
    prescaler_is = e ∙ h.prescaler_is;
    select = omega (arith, h.select);
    no_pin = ap (is_pin prescaler) f ∙ h.no_pin;
  }

  pub cleared_8 : (tm : Timer8) (f : TimerFlags) → IsTimer8 prescaler tm → IsTimer8 prescaler (timer8.cleared tm f)
  cleared_8 tm f h = record { prescaler_is = h.prescaler_is; select = h.select; no_pin = h.no_pin }

pub cycle_16 : (t : ℕ) (tm : Timer16) → IsTimer16 tm → IsTimer16 (timer16.timer_cycle t tm)
cycle_16 t tm h = record { select = h.select }

pub leap_16 : (t n : ℕ) (tm : Timer16) → IsTimer16 tm → IsTimer16 (cycles timer16.timer_cycle t n tm)
unfolding cycles
leap_16 t zero tm h = h
leap_16 t (suc n) tm h = cycle_16 (t + n) (cycles timer16.timer_cycle t n tm) (leap_16 t n tm h)

pub again_16 : (tm tm' : Timer16) → tm'.select ≡ tm.select → IsTimer16 tm → IsTimer16 tm'
again_16 tm tm' f h = record { select = omega (arith, h.select) }

pub cleared_16 : (tm : Timer16) (f : TimerFlags) → IsTimer16 tm → IsTimer16 (timer16.cleared tm f)
cleared_16 tm f h = record { select = h.select }

pub get_16_kept : (tm : Timer16) (reg : Reg16) → IsTimer16 tm → IsTimer16 (get_16 tm reg).1
get_16_kept tm reg16.ControlA h = h
get_16_kept tm reg16.ControlB h = h
get_16_kept tm reg16.ControlC h = h
get_16_kept tm reg16.CountL h = record { select = h.select }
get_16_kept tm reg16.CountH h = h
get_16_kept tm reg16.IcrL h = record { select = h.select }
get_16_kept tm reg16.IcrH h = h
get_16_kept tm (reg16.CompL c) h = h
get_16_kept tm (reg16.CompH c) h = h

control_a : (tm tm' : Timer16) (b : ℕ) (out : Bool) (mode : Option Mode16) → IsTimer16 tm
    → (if out then Err stop.CompareOutput else with_control_a tm mode) ≡ Ok tm' → IsTimer16 tm'
control_a tm tm' b true mode h e = absurd (cc)
control_a tm tm' b false None h e = absurd (cc)
control_a tm tm' b false (Some mode) h e = subst IsTimer16 (same_ok _ _ _ refl e) (record { select = h.select })

control_b : (tm tm' : Timer16) (b : ℕ) (pin : Bool) (mode : Mode16) → IsTimer16 tm → is_pin Shared (b % 8) ≡ pin
    → (if pin then Err stop.ExternalTimerClock
    else Ok (record tm { mode = mode; select = b % 8; noise_canceler = any_bit b 0x80; rising_edge = any_bit b 0x40 })) ≡ Ok tm'
    → IsTimer16 tm'
control_b tm tm' b true mode h p e = absurd (cc)
control_b tm tm' b false mode h p e =
    let few : b % 8 ≤ 5 = grind (arith, nat_tests) in
    subst IsTimer16 (same_ok _ _ _ refl e) (record { select = few })

in_mode : (tm tm' : Timer16) (b : ℕ) (mode : Option Mode16) → IsTimer16 tm → with_control_b tm mode b ≡ Ok tm' → IsTimer16 tm'
in_mode tm tm' b None h e = absurd (cc)
in_mode tm tm' b (Some mode) h e = control_b tm tm' b (is_pin Shared (b % 8)) mode h refl e

control_c : (tm tm' : Timer16) (forced : Bool) → IsTimer16 tm → (if forced then Err stop.ForcedCompare else Ok tm) ≡ Ok tm' → IsTimer16 tm'
control_c tm tm' true h e = absurd (cc)
control_c tm tm' false h e = subst IsTimer16 (same_ok _ _ _ refl e) h

compare_kept : (tm : Timer16) (c : Channel) (value : ℕ) → IsTimer16 tm → IsTimer16 (with_compare tm c value)
compare_kept tm chan.A value h = record { select = h.select }
compare_kept tm chan.B value h = record { select = h.select }
compare_kept tm chan.C value h = record { select = h.select }

pub put_16_kept : (tm tm' : Timer16) (reg : Reg16) (b : ℕ) → IsTimer16 tm → put_16 tm reg b ≡ Ok tm' → IsTimer16 tm'
put_16_kept tm tm' reg16.ControlA b h e = control_a tm tm' b (any_bit b 0xFC) _ h e
put_16_kept tm tm' reg16.ControlB b h e = in_mode tm tm' b _ h e
put_16_kept tm tm' reg16.ControlC b h e = control_c tm tm' (any_bit b 0xE0) h e
put_16_kept tm tm' reg16.CountL b h e = subst IsTimer16 (same_ok _ _ _ refl e) (record { select = h.select })
put_16_kept tm tm' reg16.CountH b h e = subst IsTimer16 (same_ok _ _ _ refl e) (record { select = h.select })
put_16_kept tm tm' reg16.IcrL b h e =
    subst IsTimer16 (same_ok _ _ _ refl e) (kept_if IsTimer16 (timer16.clears_at_icr tm.mode) _ tm (record { select = h.select }) h)
put_16_kept tm tm' reg16.IcrH b h e = subst IsTimer16 (same_ok _ _ _ refl e) (record { select = h.select })
put_16_kept tm tm' (reg16.CompL c) b h e = subst IsTimer16 (same_ok _ _ _ refl e) (compare_kept tm c _ h)
put_16_kept tm tm' (reg16.CompH c) b h e = subst IsTimer16 (same_ok _ _ _ refl e) (record { select = h.select })
