-- Many cycles of a node that waits or sleeps.
use Rattle.std.proofs.Common.{◌≡◌, ℕ, zero, suc, ◌+◌, ◌-◌, ◌<◌, ◌≤◌, ◌++◌, add-zero, Bool, true, false, cond, ◌⊎◌, inl, inr, not, ◌&&◌, ◌||◌, ◌==◌, None, [], is_some, refl, sym, ap, ◌∙◌, arith, nat_lt}
use Rattle.std.proofs.Math.Nat.{sub-zero}
use Rattle.std.proofs.lemmas.Bool.{false≢true, lt-ltb}
use Rattle.std.proofs.lemmas.Bool.Decides.{nat_tests}
use Rattle.board_io.specs.declared.board.Board.{Board}
use Rattle.board_io.specs.Cycle.{board_quiet, timers_cycle, timers_leap}
use Rattle.board_io.specs.Lines.{lines_of}
use Rattle.board_io.proofs.Leaps.{leap_next, leap_quiet, leap_zero}
use Rattle.avr_base.specs.declared.interrupts.Lines.{Lines}
use Rattle.avr_base.specs.Lines.{due_of}
use Rattle.air_base.specs.NodeRun.{passed, passed_rows, AllQuiet}
use Rattle.node_core.specs.State.{NodeState}
use Rattle.node_core.specs.Cycle.{node_kind, acted, acted_rows, asks_in, begins, begun_in, begun_rows, cpu_cycle, cpu_rows, instructed, instructed_rows, sends_in}
use Rattle.node_core.specs.Inside.{IsCalm}
use Rattle.node_core.specs.Pace.Midway.{OnlyRests, rested}
use Rattle.node_core.specs.Interrupts.{due}
use Rattle.node_core.proofs.Cycles.{asks_calm, begun_calm, rows_calm, sends_calm}

-- in cycle t the processor does nothing but count off a cycle, if there is one to be counted
pub record Idles (t : ℕ) (s : NodeState) : Type 0 where
  pub part : cpu_cycle t s ≡ record s { wait = s.wait - 1 }
  pub rows : cpu_rows t s ≡ []

leap_more : (t i : ℕ) (b : Board) → timers_leap (t + i) 1 (timers_leap t i b) ≡ timers_leap t (suc i) b
leap_more t i b =
    let c : Board = timers_leap t i b in
    leap_next (t + i) 0 c ∙ ((λ k. timers_cycle (add-zero (t + i) k) (leap_zero (t + i) c k)) ∙ sym (leap_next t i b))

pub passed_next : (t n : ℕ) (s : NodeState) → passed node_kind t (suc n) s ≡ begun_in (t + n) (passed node_kind t n s)
unfolding passed
passed_next t n s = refl

passed_none : (t : ℕ) (s : NodeState) → passed node_kind t 0 s ≡ rested t 0 s
unfolding passed
passed_none t s =
    let wait : s.wait ≡ s.wait - 0 = sym (sub-zero s.wait) in
    let board : s.board ≡ timers_leap t 0 s.board = sym (leap_zero t s.board) in
    (λ k. let u : NodeState = record s { wait = wait k; board = board k } in u)

module _ (t : ℕ) (s : NodeState) (going : is_some s.stop ≡ false) (n : ℕ) (calm : IsCalm t n s) (idles : (i : ℕ) → i < n → Idles (t + i) (rested t i s)) where
  quiet_at : (i : ℕ) → i < n → board_quiet (t + i) (timers_leap t i s.board) ≡ true
  quiet_at i l = leap_quiet (t + i) t i s.board ∙ calm.ends i l

  one_more : (i : ℕ) → i < n → begun_in (t + i) (rested t i s) ≡ rested t (suc i) s
  one_more i l =
      let w : NodeState = rested t i s in
      let u : NodeState = record w { wait = w.wait - 1 } in
      let less : s.wait - i - 1 ≡ s.wait - suc i = omega arith in
      begun_calm (t + i) w u going going (idles i l).part (quiet_at i l) (calm.none i l)
      ∙ (λ k. let v : NodeState = record s { wait = less k; board = leap_more t i s.board k } in v)

  pub passed_rested : (i : ℕ) → i ≤ n → passed node_kind t i s ≡ rested t i s
  passed_rested zero l = passed_none t s
  passed_rested (suc i) l = passed_next t i s ∙ (ap (begun_in (t + i)) (passed_rested i (omega arith)) ∙ one_more i (omega arith))

  rows_at : (i : ℕ) → i < n → begun_rows (t + i) (passed node_kind t i s) ≡ []
  rows_at i l =
      let w : NodeState = rested t i s in
      let u : NodeState = record w { wait = w.wait - 1 } in
      ap (begun_rows (t + i)) (passed_rested i (omega arith))
      ∙ (rows_calm (t + i) w u going going (idles i l).part (quiet_at i l) (calm.none i l) ∙ (idles i l).rows)

  rested_rows : (i : ℕ) → i ≤ n → passed_rows node_kind t i s ≡ []
  rested_rows zero l = refl
  rested_rows (suc i) l = λ k. rested_rows i (omega arith) k ++ rows_at i (omega arith) k

  pub no_rows : passed_rows node_kind t n s ≡ []
  no_rows = rested_rows n (omega arith)

  pub all_quiet : AllQuiet node_kind t n s
  all_quiet i l =
      let w : NodeState = rested t i s in
      let u : NodeState = record w { wait = w.wait - 1 } in
      let at = passed_rested i (omega arith) in (
        ap (asks_in (t + i)) at ∙ asks_calm (t + i) w u going going (idles i l).part (quiet_at i l) (calm.none i l),
        ap (sends_in (t + i)) at ∙ sends_calm (t + i) w u going going (idles i l).part (quiet_at i l) (calm.none i l),
      )

-- ---- a wait
counts_off : (t : ℕ) (s : NodeState) → 0 < s.wait → Idles t s
unfolding cpu_cycle cpu_rows
counts_off t s h = let l = lt-ltb 0 s.wait h in record { part = rw l refl; rows = rw l refl }

pub waits : (t n : ℕ) (s : NodeState) → n ≤ s.wait → (i : ℕ) → i < n → Idles (t + i) (rested t i s)
waits t n s h i l = counts_off (t + i) (rested t i s) (omega arith)

-- ---- sleep
sleeps_on : (t : ℕ) (s : NodeState) → s.wait ≡ 0 → s.asleep ≡ true → due s ≡ None → Idles t s
unfolding cpu_cycle cpu_rows
sleeps_on t s free asleep none =
    let less : s.wait ≡ s.wait - 1 = omega arith in
    let part : acted t s (due s) ≡ s = ap (acted t s) none ∙ ap (λ (b : Bool). cond b s (instructed t s)) asleep in
    let rows : acted_rows t s (due s) ≡ [] = ap (acted_rows t s) none ∙ ap (λ (b : Bool). cond b [] (instructed_rows t s)) asleep in
    record {
      part = ap (λ (w : ℕ). cond (nat_lt 0 w) (let u : NodeState = record s { wait = s.wait - 1 } in u) (acted t s (due s))) free
          ∙ (part ∙ ap (λ (w : ℕ). let u : NodeState = record s { wait = w } in u) less);
      rows = ap (λ (w : ℕ). cond (nat_lt 0 w) [] (acted_rows t s (due s))) free ∙ rows;
    }

pub sleeps : (t n : ℕ) (s : NodeState) → s.wait ≡ 0 → s.asleep ≡ true → due s ≡ None
    → ((i : ℕ) → i < n → lines_of (timers_leap t i s.board) ≡ lines_of s.board) → (i : ℕ) → i < n → Idles (t + i) (rested t i s)
sleeps t n s free asleep none same i l =
    sleeps_on (t + i) (rested t i s) (omega arith) asleep (ap (λ (lines : Lines). due_of s.cpu.sreg.bits lines) (same i l) ∙ none)

-- ---- fewer cycles, and none
pub calm_less : (t n m : ℕ) (s : NodeState) → n ≤ m → IsCalm t m s → IsCalm t n s
calm_less t n m s le calm = record { ends = λ i l. calm.ends i (omega arith); none = λ i l. calm.none i (omega arith) }

pub passed_zero : (t : ℕ) (s : NodeState) → s ≡ passed node_kind t 0 s
unfolding passed
passed_zero t s = refl

-- ---- no instruction begins while it rests
none_begins : (stopped free asleep owed entered : Bool) → (free ≡ false) ⊎ (asleep ≡ true) → (not stopped && (free && (not asleep && (owed || not entered)))) ≡ false
none_begins true free asleep owed entered h = refl
none_begins false false asleep owed entered h = refl
none_begins false true true owed entered h = refl
none_begins false true false owed entered (inl e) = absurd (false≢true (sym e))
none_begins false true false owed entered (inr e) = absurd (false≢true e)

not_free : (w : ℕ) → 0 < w → (w == 0) ≡ false
not_free w h = grind (arith, nat_tests)

waiting_none : (t n : ℕ) (s : NodeState) → n ≤ s.wait → (i : ℕ) → i < n → begins (rested t i s) ≡ false
waiting_none t n s h i l =
    let u : NodeState = rested t i s in none_begins (is_some u.stop) (u.wait == 0) u.asleep u.owed (is_some (due u)) (inl (not_free u.wait (omega arith)))

sleeping_none : (t n : ℕ) (s : NodeState) → s.asleep ≡ true → (i : ℕ) → i < n → begins (rested t i s) ≡ false
sleeping_none t n s h i l =
    let u : NodeState = rested t i s in none_begins (is_some u.stop) (u.wait == 0) u.asleep u.owed (is_some (due u)) (inr h)

module _ (t : ℕ) (s : NodeState) (going : is_some s.stop ≡ false) (n : ℕ) (calm : IsCalm t n s) where
  pub only_waits : n ≤ s.wait → OnlyRests t n s
  only_waits h = record { still = passed_rested t s going n calm (waits t n s h); none = waiting_none t n s h }

  pub only_sleeps : s.asleep ≡ true → ((i : ℕ) → i < n → Idles (t + i) (rested t i s)) → OnlyRests t n s
  only_sleeps asleep idles = record { still = passed_rested t s going n calm idles; none = sleeping_none t n s asleep }

pub only_none : (t : ℕ) (s : NodeState) → OnlyRests t 0 s
only_none t s = record {
  still = λ i l. (let e : i ≡ 0 = omega arith in ap (λ (n : ℕ). passed node_kind t n s) e ∙ (passed_none t s ∙ ap (λ (n : ℕ). rested t n s) (sym e)));
  none = λ i l. absurd (omega arith);
}
