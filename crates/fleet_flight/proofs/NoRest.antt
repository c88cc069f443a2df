-- A rest of no cycles.
use Rattle.std.proofs.Common.{◌≡◌, ℕ, ◌-◌, false, ◌++◌, sym, subst, ◌∙◌, ap, arith, append-nil, refl}
use Rattle.std.proofs.Math.Nat.{sub-zero}
use Rattle.air_base.specs.NodeRun.{Timed, Rests, passed, passed_rows}
use Rattle.board_io.specs.Cycle.{timers_leap}
use Rattle.board_io.proofs.Leaps.{leap_zero}
use Rattle.node_core.specs.Cycle.{node_kind}
use Rattle.node_core.specs.Pace.Midway.{OnlyRests, rested}
use Rattle.node_core.specs.State.{NodeState}
use Rattle.node_core.specs.declared.row.Row.{Row}

passed_none : (t : ℕ) (s : NodeState) → passed node_kind t 0 s ≡ s
unfolding passed
passed_none t s = refl

rested_none : (t : ℕ) (s : NodeState) → s ≡ rested t 0 s
rested_none t s =
    let wait : s.wait ≡ s.wait - 0 = sym (sub-zero s.wait) in
    let board : s.board ≡ timers_leap t 0 s.board = sym (leap_zero t s.board) in
    (λ k. let u : NodeState = record s { wait = wait k; board = board k } in u)

module _ (v : Timed NodeState Row) where
  none : v.cycle - v.cycle ≡ 0
  none = omega arith

  pub none_rests : v.asking ≡ false → Rests node_kind v v.cycle v
  none_rests calm = record {
    cycle = refl;
    asking = calm;
    comes = record {
      later = omega arith;
      quiet = λ i l. absurd (omega (arith, l));
      state = sym (ap (λ (n : ℕ). passed node_kind v.cycle n v.state) none ∙ passed_none v.cycle v.state);
      rows = sym (ap (λ (n : ℕ). v.rows ++ passed_rows node_kind v.cycle n v.state) none ∙ append-nil v.rows);
    };
  }

  pub none_only : OnlyRests v.cycle (v.cycle - v.cycle) v.state
  none_only = record {
    still = λ i l. (let e : 0 ≡ i = omega (arith, l) in subst (λ (i : ℕ). passed node_kind v.cycle i v.state ≡ rested v.cycle i v.state) e (passed_none v.cycle v.state ∙ rested_none v.cycle v.state));
    none = λ i l. absurd (omega (arith, l));
  }
