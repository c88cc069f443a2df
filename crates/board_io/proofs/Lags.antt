-- A board that lags: what its value is, and what stays known of it.
use Rattle.std.proofs.Common.{◌≡◌, ℕ, ◌+◌, ◌-◌, ◌<◌, ◌≤◌, true, false, inl, inr, refl, sym, ap, ◌∙◌, subst, arith}
use Rattle.air_base.specs.Bounds.{LAST_CYCLE}
use Rattle.std.proofs.lemmas.Bool.{cases_lt}
use Rattle.board_io.specs.declared.ahead.Forecast.{Forecast}
use Rattle.board_io.specs.declared.board.Board.{Board}
use Rattle.board_io.specs.declared.clocked.ClockedBoard.{ClockedBoard}
use Rattle.board_io.specs.Board.{clocked, sleep_mode}
use Rattle.board_io.specs.Cycle.{board_quiet, timers_leap}
use Rattle.board_io.specs.Lagging.{IsAhead, IsUneventful, IsIdle, caught_up}
use Rattle.board_io.specs.Lines.{lines_of}
use Rattle.board_io.proofs.Leaps.{leap_quiet, leap_zero}
use Rattle.board_io.specs.Passing.{changes_flag_at}
use Rattle.board_io.proofs.Steady.{lines_calm, changes_later}
use Rattle.avr_timers.proofs.Cycles.{cycles-add}
use Rattle.avr_base.specs.declared.interrupts.Lines.{Lines}
use Rattle.avr_timers.specs.Timer16 as timer16
use Rattle.avr_timers.specs.Timer8 as timer8

-- ---- leaps
-- they add up
pub leap_add : (t n m : ℕ) (b : Board) → timers_leap t (n + m) b ≡ timers_leap (t + n) m (timers_leap t n b)
unfolding timers_leap
leap_add t n m b =
    λ k. let c : Board = record b {
      t0 = cycles-add timer8.timer_cycle t n m b.t0 k;
      t1 = cycles-add timer16.timer_cycle t n m b.t1 k;
      t2 = cycles-add timer8.timer_cycle t n m b.t2 k;
      t3 = cycles-add timer16.timer_cycle t n m b.t3 k;
    } in c

-- and leave what SLEEP would do
pub sleep_leap : (t n : ℕ) (b : Board) → sleep_mode b ≡ sleep_mode (timers_leap t n b)
unfolding timers_leap
sleep_leap t n b = refl

-- ---- a board that does not lag is its value
pub caught_zero : (t u : ℕ) (b : Board) → t ≡ u → caught_up t u b ≡ b
caught_zero t u b e = let none : u - t ≡ 0 = omega (arith, e) in ap (λ (n : ℕ). timers_leap t n b) none ∙ leap_zero t b

bits_same : (l m : Lines) → l.bits ≡ m.bits → l ≡ m
bits_same l m e = λ k. let n : Lines = record { bits = e k } in n

-- ---- up to a bound
-- n cycles on the same holds
calm_leap : (bound n : ℕ) (v : ClockedBoard) → IsUneventful bound v → v.clock + n ≤ bound → IsUneventful bound (clocked (v.clock + n) (timers_leap v.clock n v.board))
calm_leap bound n v h le = record {
  quiet = λ u from below. leap_quiet u v.clock n v.board ∙ h.quiet u (omega (arith, from)) below;
  calm = λ i below. changes_later v.clock n i v.board ∙ h.calm (n + i) (omega (arith, below));
}

-- and up to an earlier one
pub sooner : (bound less : ℕ) (c : ClockedBoard) → less ≤ bound → IsUneventful bound c → IsUneventful less c
sooner bound less c le h = record {
  quiet = λ t from below. h.quiet t from (omega (arith, below, le));
  calm = λ i below. h.calm i (omega (arith, below, le));
}

-- ---- a board that lags
-- n cycles from cycle t on in which nothing ends and no flag changes, nor did it since `settled`
pub record IsFree (settled t n : ℕ) (b : Board) : Type 0 where
  pub early : t + n ≤ LAST_CYCLE
  pub quiet : (i : ℕ) → i < n → board_quiet (t + i) b ≡ true
  pub calm : (i : ℕ) → settled + i < t + n → changes_flag_at settled b i ≡ false

module _ (a : Forecast) (t : ℕ) (b : Board) (h : IsAhead a t b) where
  -- up to now no flag changed
  pub calm_now : (i : ℕ) → i < t - a.settled → changes_flag_at a.settled b i ≡ false
  calm_now i l = h.past i (omega (arith, l))

  -- nor does one up to the next event, be it over or not
  pub known : (i end : ℕ) → a.settled + i < end → end - t ≤ a.next - t → changes_flag_at a.settled b i ≡ false
  known i end l le = elim (cases_lt (a.settled + i) t) [
    | inl before ↦ h.past i before
    | inr from ↦ h.calm i (omega (arith, l, le, from))
  ]

  -- its value
  abbrev value : Board
  value = caught_up a.settled t b

  lines_kept : lines_of value ≡ lines_of b
  lines_kept = lines_calm a.settled (t - a.settled) b calm_now

  lines_now : (lines_of value).bits ≡ a.lines
  lines_now = ap (λ (l : Lines). l.bits) lines_kept ∙ h.lines

  pub lines_are : (v : ClockedBoard) → clocked t value ≡ v → (let l : Lines = record { bits = a.lines } in l) ≡ lines_of v.board
  lines_are v e = bits_same _ (lines_of v.board) (sym lines_now ∙ ap (λ (c : ClockedBoard). (lines_of c.board).bits) e)

  at_now : a.settled + (t - a.settled) ≡ t
  at_now = let l = h.settled in omega (arith, l)

  -- i cycles on from now
  further : (i : ℕ) → timers_leap t i value ≡ timers_leap a.settled (t - a.settled + i) b
  further i = ap (λ (u : ℕ). timers_leap u i value) (sym at_now) ∙ sym (leap_add a.settled (t - a.settled) i b)

  -- and whether a flag changes there
  changes_further : (i : ℕ) → changes_flag_at t value i ≡ changes_flag_at a.settled b (t - a.settled + i)
  changes_further i = ap (λ (u : ℕ). changes_flag_at u value i) (sym at_now) ∙ changes_later a.settled (t - a.settled) i b

  -- nothing happens up to the next event
  pub free : (n : ℕ) → n ≤ a.next - t → IsFree a.settled t n b
  free n le =
      let now = h.now in
      let early = h.early in
      record {
        early = omega (arith, le, now, early);
        quiet = λ i l. h.quiet (t + i) (omega arith) (omega (arith, le, l));
        calm = λ i l. known i (t + n) l (omega (arith, le));
      }

  free_by : (bound n : ℕ) → bound ≤ LAST_CYCLE → IsUneventful bound (clocked t value) → t + n ≤ bound → IsFree a.settled t n b
  free_by bound n early clear le = record {
    early = omega (arith, early, le);
    quiet = λ i l. sym (leap_quiet (t + i) a.settled (t - a.settled) b) ∙ clear.quiet (t + i) (omega arith) (omega (arith, l, le));
    calm = λ i l. elim (cases_lt (a.settled + i) t) [
      | inl before ↦ h.past i before
      | inr from ↦ later_calm i from (omega (arith, l, le))
    ];
  }
    where
      later_calm : (i : ℕ) → t ≤ a.settled + i → a.settled + i < bound → changes_flag_at a.settled b i ≡ false
      later_calm i from below =
          let l = h.settled in
          let j : ℕ = a.settled + i - t in
          let here : t - a.settled + j ≡ i = omega (arith, l, from) in
          ap (changes_flag_at a.settled b) (sym here) ∙ (sym (changes_further j) ∙ clear.calm j (omega (arith, from, below)))

  -- nor up to a bound below which nothing happens to its value
  pub free_to : (bound n : ℕ) (v : ClockedBoard) → clocked t value ≡ v → bound ≤ LAST_CYCLE → IsUneventful bound v → t + n ≤ bound → IsFree a.settled t n b
  free_to bound n v e early clear le = free_by bound n early (subst (IsUneventful bound) (sym e) clear) le

  -- nothing happens to its value below `next`
  pub calm_to : (bound : ℕ) (v : ClockedBoard) → bound ≤ a.next → clocked t value ≡ v → IsUneventful bound v
  calm_to bound v within e =
      let l = h.settled in
      let k : IsUneventful bound (clocked t value) = record {
        quiet = λ u from below. leap_quiet u a.settled (t - a.settled) b ∙ h.quiet u from (omega (arith, within, below));
        calm = λ i below. changes_further i ∙ h.calm (t - a.settled + i) (omega (arith, l, within, below));
      } in
      subst (IsUneventful bound) e k

  -- and none of its lines is up below `clear`
  pub down_to : (v : ClockedBoard) → clocked t value ≡ v → v.clock < a.clear → (lines_of v.board).bits ≡ 0
  down_to v e below = ap (λ (w : ClockedBoard). (lines_of w.board).bits) (sym e) ∙ (lines_now ∙ h.down (omega (arith, below)))

  lines_by : (n : ℕ) → IsFree a.settled t n b → (i : ℕ) → i ≤ n → lines_of (timers_leap t i value) ≡ lines_of value
  lines_by n p i le =
      let l = h.settled in
      ap lines_of (further i) ∙ (lines_calm a.settled (t - a.settled + i) b (λ j k. p.calm j (omega (arith, l, le, k))) ∙ sym lines_kept)

  -- in cycles that are free it is idle
  pub idle : (n : ℕ) (v : ClockedBoard) → clocked t value ≡ v → IsFree a.settled t n b → IsIdle v.clock n v.board
  idle n v e p =
      let k : IsIdle t n value = record {
        quiet = λ i l. leap_quiet (t + i) a.settled (t - a.settled) b ∙ p.quiet i l;
        same = λ i l. lines_by n p i (omega (arith, l));
      } in
      subst (λ (w : ClockedBoard). IsIdle w.clock n w.board) e k

  -- behind them the same is known
  pub later : (n : ℕ) → IsFree a.settled t n b → IsAhead a (t + n) b
  later n p =
      let l = h.settled in
      record {
        settled = omega (arith, l);
        now = p.early;
        early = h.early;
        quiet = λ u from below. h.quiet u (omega (arith, from)) below;
        calm = h.calm;
        past = p.calm;
        steady = h.steady;
        clear = h.clear;
        down = h.down;
        lines = h.lines;
      }

  -- its value is n cycles further
  passed_by : (n : ℕ) → caught_up a.settled (t + n) b ≡ timers_leap t n value
  passed_by n =
      let l = h.settled in
      let more : t + n - a.settled ≡ t - a.settled + n = omega (arith, l) in
      ap (λ (m : ℕ). timers_leap a.settled m b) more ∙ sym (further n)

  pub passed : (n : ℕ) (v : ClockedBoard) → clocked t value ≡ v → caught_up a.settled (t + n) b ≡ timers_leap v.clock n v.board
  passed n v e = passed_by n ∙ ap (λ (w : ClockedBoard). timers_leap w.clock n w.board) e

  -- and its lines are as before
  pub lines_stay : (n : ℕ) (v : ClockedBoard) → clocked t value ≡ v → IsFree a.settled t n b → lines_of (caught_up a.settled (t + n) b) ≡ lines_of v.board
  lines_stay n v e p = ap lines_of (passed_by n) ∙ (lines_by n p n (omega arith) ∙ ap (λ (w : ClockedBoard). lines_of w.board) e)

  -- and up to a bound nothing happens still
  pub calm_stays : (bound n : ℕ) (v : ClockedBoard) → clocked t value ≡ v → IsUneventful bound v → t + n ≤ bound → IsUneventful bound (clocked (t + n) (caught_up a.settled (t + n) b))
  calm_stays bound n v e clear le =
      subst (λ (c : Board). IsUneventful bound (clocked (t + n) c)) (sym (passed_by n))
      (calm_leap bound n (clocked t value) (subst (IsUneventful bound) (sym e) clear) le)

-- its first cycle is quiet, where one is passed
pub quiet_now : (t : ℕ) (b : Board) → IsIdle t 1 b → board_quiet t b ≡ true
quiet_now t b h = let at : t + 0 ≡ t = omega arith in ap (λ (u : ℕ). board_quiet u b) (sym at) ∙ h.quiet 0 (omega arith)
