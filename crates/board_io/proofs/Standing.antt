-- A write of a timer that stands, before it and after it, is the same on a board whose timers lag, and leaves what is
-- known of it.
use Rattle.std.proofs.Common.{◌≡◌, ℕ, ◌+◌, ◌*◌, ◌/◌, ◌%◌, ◌==◌, ◌||◌, if◌then◌else◌, Bool, true, false, Option, Some, None, Result, Ok, Err, refl, sym, ap, ◌∙◌, subst}
use Rattle.std.proofs.lemmas.Bool.{and_parts, eqb-true}
use Rattle.avr_base.specs.declared.stop.StopCause.{StopCause}
use Rattle.avr_timers.specs.Mode.{mode_of, number_of}
use Rattle.avr_timers.specs.Prescaler.{is_pin}
use Rattle.avr_timers.specs.Registers16 as reg16s
use Rattle.avr_timers.specs.Registers8 as reg8s
use Rattle.avr_timers.specs.Timer16 as timer16
use Rattle.avr_timers.specs.Timer8 as timer8
use Rattle.avr_timers.specs.declared.mode.Mode16.{Mode16}
use Rattle.avr_timers.specs.declared.prescaler.Prescaler.TheVariants.{Shared}
use Rattle.avr_timers.specs.declared.registers16.Channel.{Channel}
use Rattle.avr_timers.specs.declared.registers16.Channel.TheVariants as chan
use Rattle.avr_timers.specs.declared.registers16.Reg16.{Reg16}
use Rattle.avr_timers.specs.declared.registers16.Reg16.TheVariants as r16
use Rattle.avr_timers.specs.declared.registers8.Reg8.{Reg8}
use Rattle.avr_timers.specs.declared.registers8.Reg8.TheVariants as r8
use Rattle.avr_timers.specs.declared.timer16.Timer16.{Timer16}
use Rattle.avr_timers.specs.declared.timer8.Timer8.{Timer8}
use Rattle.board_io.specs.Cycle.{board_quiet, timers_leap}
use Rattle.board_io.specs.Lagging.{is_standing, stays_16, stays_8}
use Rattle.board_io.specs.Registers.{put_by, with_t0, with_t1, with_t2, with_t3}
use Rattle.board_io.specs.declared.board.Board.{Board}
use Rattle.board_io.specs.declared.rules.Rule.{Rule}
use Rattle.board_io.specs.declared.rules.Rule.TheVariants.{Timer0, Timer1, Timer2, Timer3}
use Rattle.board_io.proofs.Apart.{IsLike, PutApart}
use Rattle.board_io.proofs.Steady.{calm_16, calm_8, kept_16, kept_8, lines_by, stopped_16, stopped_8}
use Rattle.device_base.specs.Bits.{any_bit}
use Rattle.device_base.specs.Names.{COM, COM_ABC, FOC, FOC_ABC, WGM0}

false_true : false ≡ true → ⊥
false_true e = cc

-- ---- a write leaves a timer that stands, with its flags
abbrev Stood8 : Timer8 → Result Timer8 StopCause → Type 0
Stood8 tm (Ok u) = (u.select ≡ 0) × (timer8.flags_of u ≡ timer8.flags_of tm)
Stood8 tm (Err cause) = tm ≡ tm

either_8 : (tm : Timer8) (c : Bool) (p q : Result Timer8 StopCause) → Stood8 tm p → Stood8 tm q → Stood8 tm (if c then p else q)
either_8 tm true p q h k = h
either_8 tm false p q h k = k

stood_8 : (tm : Timer8) (reg : Reg8) (x : ℕ) → tm.select ≡ 0 → stays_8 reg x ≡ true → Stood8 tm (reg8s.put_of tm reg x)
stood_8 tm r8.Control x e f =
    either_8 tm (any_bit x FOC) _ _ refl (either_8 tm (any_bit x WGM0) _ _ refl (either_8 tm (any_bit x COM) _ _ refl (either_8 tm (is_pin tm.prescaler (x % 8)) _ _ refl
    (eqb-true (x % 8) 0 f, refl))))
stood_8 tm r8.Count x e f = (e, refl)
stood_8 tm r8.Compare x e f = (e, refl)

abbrev Stood16 : Timer16 → Result Timer16 StopCause → Type 0
Stood16 tm (Ok u) = (u.select ≡ 0) × (u.flags ≡ tm.flags)
Stood16 tm (Err cause) = tm ≡ tm

either_16 : (tm : Timer16) (c : Bool) (p q : Result Timer16 StopCause) → Stood16 tm p → Stood16 tm q → Stood16 tm (if c then p else q)
either_16 tm true p q h k = h
either_16 tm false p q h k = k

stood_a : (tm : Timer16) (mode : Option Mode16) → tm.select ≡ 0 → Stood16 tm (reg16s.with_control_a tm mode)
stood_a tm None e = refl
stood_a tm (Some mode) e = (e, refl)

stood_b : (tm : Timer16) (mode : Option Mode16) (x : ℕ) → x % 8 ≡ 0 → Stood16 tm (reg16s.with_control_b tm mode x)
stood_b tm None x e = refl
stood_b tm (Some mode) x e = either_16 tm (is_pin Shared (x % 8)) _ _ refl (e, refl)

stood_icr : (tm : Timer16) (there : Bool) (w : ℕ) → tm.select ≡ 0 → Stood16 tm (Ok (if there then (let u : Timer16 = record tm { icr = w } in u) else tm))
stood_icr tm true w e = (e, refl)
stood_icr tm false w e = (e, refl)

stood_compare : (tm : Timer16) (which : Channel) (w : ℕ) → tm.select ≡ 0 → Stood16 tm (Ok (reg16s.with_compare tm which w))
stood_compare tm chan.A w e = (e, refl)
stood_compare tm chan.B w e = (e, refl)
stood_compare tm chan.C w e = (e, refl)

stood_16 : (tm : Timer16) (reg : Reg16) (x : ℕ) → tm.select ≡ 0 → stays_16 reg x ≡ true → Stood16 tm (reg16s.put_of tm reg x)
stood_16 tm r16.ControlA x e f = either_16 tm (any_bit x COM_ABC) _ _ refl (stood_a tm (mode_of (number_of tm.mode / 4 * 4 + x % 4)) e)
stood_16 tm r16.ControlB x e f = stood_b tm (mode_of (x / 8 % 4 * 4 + number_of tm.mode % 4)) x (eqb-true (x % 8) 0 f)
stood_16 tm r16.ControlC x e f = either_16 tm (any_bit x FOC_ABC) _ _ refl (e, refl)
stood_16 tm r16.CountL x e f = (e, refl)
stood_16 tm r16.CountH x e f = (e, refl)
stood_16 tm r16.IcrL x e f = stood_icr tm (timer16.clears_at_icr tm.mode) (reg16s.word_with tm x) e
stood_16 tm r16.IcrH x e f = (e, refl)
stood_16 tm (r16.CompL which) x e f = stood_compare tm which (reg16s.word_with tm x) e
stood_16 tm (r16.CompH which) x e f = (e, refl)

-- ---- a board with another timer that stands
module _ (b : Board) where
  like_t0 : (tm : Timer8) → b.t0.select ≡ 0 → tm.select ≡ 0 → timer8.flags_of tm ≡ timer8.flags_of b.t0 → IsLike b (let c : Board = record b { t0 = tm } in c)
  unfolding board_quiet
  like_t0 tm e f same = record {
    quiet = λ t. refl;
    calm = λ t i. ap (λ (x : Bool). x || timer16.changes_flag_at t b.t1 i || timer8.changes_flag_at t b.t2 i || timer16.changes_flag_at t b.t3 i) (kept_8 t i tm f ∙ sym (kept_8 t i b.t0 e));
    steady = λ t i. ap (λ (x : Bool). x || timer16.sets_flag_at t b.t1 i || timer8.sets_flag_at t b.t2 i || timer16.sets_flag_at t b.t3 i) (calm_8 t i tm f ∙ sym (calm_8 t i b.t0 e));
    lines = lines_by b tm b.t2 b.t1 b.t3 same refl refl refl;
  }

  like_t1 : (tm : Timer16) → b.t1.select ≡ 0 → tm.select ≡ 0 → tm.flags ≡ b.t1.flags → IsLike b (let c : Board = record b { t1 = tm } in c)
  unfolding board_quiet
  like_t1 tm e f same = record {
    quiet = λ t. refl;
    calm = λ t i. ap (λ (x : Bool). timer8.changes_flag_at t b.t0 i || x || timer8.changes_flag_at t b.t2 i || timer16.changes_flag_at t b.t3 i) (kept_16 t i tm f ∙ sym (kept_16 t i b.t1 e));
    steady = λ t i. ap (λ (x : Bool). timer8.sets_flag_at t b.t0 i || x || timer8.sets_flag_at t b.t2 i || timer16.sets_flag_at t b.t3 i) (calm_16 t i tm f ∙ sym (calm_16 t i b.t1 e));
    lines = lines_by b b.t0 b.t2 tm b.t3 refl same refl refl;
  }

  like_t2 : (tm : Timer8) → b.t2.select ≡ 0 → tm.select ≡ 0 → timer8.flags_of tm ≡ timer8.flags_of b.t2 → IsLike b (let c : Board = record b { t2 = tm } in c)
  unfolding board_quiet
  like_t2 tm e f same = record {
    quiet = λ t. refl;
    calm = λ t i. ap (λ (x : Bool). timer8.changes_flag_at t b.t0 i || timer16.changes_flag_at t b.t1 i || x || timer16.changes_flag_at t b.t3 i) (kept_8 t i tm f ∙ sym (kept_8 t i b.t2 e));
    steady = λ t i. ap (λ (x : Bool). timer8.sets_flag_at t b.t0 i || timer16.sets_flag_at t b.t1 i || x || timer16.sets_flag_at t b.t3 i) (calm_8 t i tm f ∙ sym (calm_8 t i b.t2 e));
    lines = lines_by b b.t0 tm b.t1 b.t3 refl refl same refl;
  }

  like_t3 : (tm : Timer16) → b.t3.select ≡ 0 → tm.select ≡ 0 → tm.flags ≡ b.t3.flags → IsLike b (let c : Board = record b { t3 = tm } in c)
  unfolding board_quiet
  like_t3 tm e f same = record {
    quiet = λ t. refl;
    calm = λ t i. ap (λ (x : Bool). timer8.changes_flag_at t b.t0 i || timer16.changes_flag_at t b.t1 i || timer8.changes_flag_at t b.t2 i || x) (kept_16 t i tm f ∙ sym (kept_16 t i b.t3 e));
    steady = λ t i. ap (λ (x : Bool). timer8.sets_flag_at t b.t0 i || timer16.sets_flag_at t b.t1 i || timer8.sets_flag_at t b.t2 i || x) (calm_16 t i tm f ∙ sym (calm_16 t i b.t3 e));
    lines = lines_by b b.t0 b.t2 b.t1 tm refl refl refl same;
  }

  -- what is written before the cycles that are made up for stands there behind them
  module _ (s n : ℕ) where
    apart_0 : b.t0.select ≡ 0 → (o : Result Timer8 StopCause) → Stood8 b.t0 o → PutApart b s n (with_t0 b o) (with_t0 (timers_leap s n b) o)
    unfolding timers_leap
    apart_0 e (Ok u) h = (ap (λ (v : Timer8). let c : Board = record (timers_leap s n b) { t0 = v } in let r : Result Board StopCause = Ok c in r) (sym (stopped_8 s n u h.0)), like_t0 u e h.0 h.1)
    apart_0 e (Err cause) h = refl

    apart_1 : b.t1.select ≡ 0 → (o : Result Timer16 StopCause) → Stood16 b.t1 o → PutApart b s n (with_t1 b o) (with_t1 (timers_leap s n b) o)
    unfolding timers_leap
    apart_1 e (Ok u) h = (ap (λ (v : Timer16). let c : Board = record (timers_leap s n b) { t1 = v } in let r : Result Board StopCause = Ok c in r) (sym (stopped_16 s n u h.0)), like_t1 u e h.0 h.1)
    apart_1 e (Err cause) h = refl

    apart_2 : b.t2.select ≡ 0 → (o : Result Timer8 StopCause) → Stood8 b.t2 o → PutApart b s n (with_t2 b o) (with_t2 (timers_leap s n b) o)
    unfolding timers_leap
    apart_2 e (Ok u) h = (ap (λ (v : Timer8). let c : Board = record (timers_leap s n b) { t2 = v } in let r : Result Board StopCause = Ok c in r) (sym (stopped_8 s n u h.0)), like_t2 u e h.0 h.1)
    apart_2 e (Err cause) h = refl

    apart_3 : b.t3.select ≡ 0 → (o : Result Timer16 StopCause) → Stood16 b.t3 o → PutApart b s n (with_t3 b o) (with_t3 (timers_leap s n b) o)
    unfolding timers_leap
    apart_3 e (Ok u) h = (ap (λ (v : Timer16). let c : Board = record (timers_leap s n b) { t3 = v } in let r : Result Board StopCause = Ok c in r) (sym (stopped_16 s n u h.0)), like_t3 u e h.0 h.1)
    apart_3 e (Err cause) h = refl

pub standing_apart : (t : ℕ) (rule : Rule) (b : Board) (at x s n : ℕ) → is_standing rule x b ≡ true → PutApart b s n (put_by t rule b at x) (put_by t rule (timers_leap s n b) at x)
unfolding timers_leap
standing_apart t (Timer0 reg) b at x s n e =
    let p = and_parts (b.t0.select == 0) (stays_8 reg x) e in
    let z = eqb-true b.t0.select 0 p.0 in
    subst (λ (u : Timer8). PutApart b s n (with_t0 b (reg8s.put_of b.t0 reg x)) (with_t0 (timers_leap s n b) (reg8s.put_of u reg x))) (sym (stopped_8 s n b.t0 z))
    (apart_0 b s n z (reg8s.put_of b.t0 reg x) (stood_8 b.t0 reg x z p.1))
standing_apart t (Timer1 reg) b at x s n e =
    let p = and_parts (b.t1.select == 0) (stays_16 reg x) e in
    let z = eqb-true b.t1.select 0 p.0 in
    subst (λ (u : Timer16). PutApart b s n (with_t1 b (reg16s.put_of b.t1 reg x)) (with_t1 (timers_leap s n b) (reg16s.put_of u reg x))) (sym (stopped_16 s n b.t1 z))
    (apart_1 b s n z (reg16s.put_of b.t1 reg x) (stood_16 b.t1 reg x z p.1))
standing_apart t (Timer2 reg) b at x s n e =
    let p = and_parts (b.t2.select == 0) (stays_8 reg x) e in
    let z = eqb-true b.t2.select 0 p.0 in
    subst (λ (u : Timer8). PutApart b s n (with_t2 b (reg8s.put_of b.t2 reg x)) (with_t2 (timers_leap s n b) (reg8s.put_of u reg x))) (sym (stopped_8 s n b.t2 z))
    (apart_2 b s n z (reg8s.put_of b.t2 reg x) (stood_8 b.t2 reg x z p.1))
standing_apart t (Timer3 reg) b at x s n e =
    let p = and_parts (b.t3.select == 0) (stays_16 reg x) e in
    let z = eqb-true b.t3.select 0 p.0 in
    subst (λ (u : Timer16). PutApart b s n (with_t3 b (reg16s.put_of b.t3 reg x)) (with_t3 (timers_leap s n b) (reg16s.put_of u reg x))) (sym (stopped_16 s n b.t3 z))
    (apart_3 b s n z (reg16s.put_of b.t3 reg x) (stood_16 b.t3 reg x z p.1))
standing_apart t _ b at x s n e = absurd (false_true e)
