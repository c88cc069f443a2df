-- A run in the middle of a cycle: how it gets there, how it goes on where the devices end nothing, and how its cycle
-- ends.
use Rattle.std.proofs.Common.{◌≡◌, ℕ, ◌+◌, ◌-◌, ◌++◌, ◌<◌, Bool, true, false, Option, None, List, is_some, refl, sym, subst, ap, ◌∙◌, arith, append_assoc, Some, cond}
use Rattle.board_io.specs.Cycle.{board_air, board_quiet, is_asks, sent_by, timers_leap}
use Rattle.board_io.proofs.Lags.{leap_add}
use Rattle.board_io.proofs.Leaps.{leap_quiet}
use Rattle.node_core.specs.declared.row.Row.{Row}
use Rattle.serial_ports.specs.Script.{script_byte}
use Rattle.air_base.specs.NodeRun.{Comes, Timed, passed_rows}
use Rattle.air_base.proofs.QuietCycles.{comes_step}
use Rattle.board_io.specs.declared.cycle.OnAir.{OnAir}
use Rattle.board_io.specs.declared.cycle.OnAir.TheVariants.{Quiet, Sent, Asks}
use Rattle.node_core.specs.Cycle.{air_after, asks_after, asks_in, begun_in, begun_rows, cpu_cycle, cpu_rows, device_rows, devices_cycle, node_kind, sends_after, sends_in}
use Rattle.node_core.specs.Inside.{IsCalm, IsPassed}
use Rattle.node_core.specs.Pace.Midway.{IsMidway, rested}
use Rattle.node_core.specs.State.{NodeState}
use Rattle.node_core.proofs.Cycles.{asks_calm, asks_parts, begun_calm, begun_parts, rows_calm, rows_parts, sends_calm, sends_parts}
use Rattle.node_core.proofs.Idling.{Idles, all_quiet, no_rows, passed_rested, waits}
use Rattle.node_core.proofs.Runs.{begun_comes, rested_comes}

-- one more, where nothing ends and no byte arrives: the timers alone move
module _ (v : Timed NodeState Row) (c : ℕ) (u : NodeState) (k : List Row) (h : IsMidway v c u k) (still : is_some u.stop ≡ false) (calm : board_quiet c u.board ≡ true) (none : script_byte u.script c ≡ None) where
  abbrev moved : NodeState
  moved = record u { board = timers_leap c 1 u.board }

  stands : begun_in c h.state ≡ moved
  stands = begun_calm c h.state u h.going still (sym h.part) calm none

  told_all : k ≡ h.rows ++ begun_rows c h.state
  told_all =
      h.told ∙ ap (λ (l : List Row). h.rows ++ l) (sym (rows_calm c h.state u h.going still (sym h.part) calm none))

  comes_there : Comes node_kind v (c + 1) (let w : NodeState = record u { board = timers_leap c 1 u.board } in w) k
  comes_there =
      begun_comes v c h.state moved h.rows k h.comes (asks_calm c h.state u h.going still (sym h.part) calm none)
      (sends_calm c h.state u h.going still (sym h.part) calm none) (sym stands) told_all

-- and the cycles that its instruction waits
module _ (v : Timed NodeState Row) (c n : ℕ) (u w : NodeState) (k : List Row) (h : IsMidway v c u k) (p : IsPassed c n u w) where
  abbrev begun : NodeState
  begun = record u { board = timers_leap c 1 u.board }

  first : Comes node_kind v (c + 1) begun k
  first =
      let some = p.wait in
      let here : c + 0 ≡ c = omega arith in
      let quiet = subst (λ (t : ℕ). board_quiet t u.board ≡ true) here (p.calm.ends 0 (omega (arith, some))) in
      let none = subst (λ (t : ℕ). script_byte u.script t ≡ None) here (p.calm.none 0 (omega (arith, some))) in
      comes_there v c u k h (ap is_some p.going) quiet none

  calm_after : IsCalm (c + 1) u.wait begun
  calm_after =
      let some = p.wait in
      record {
        ends = λ i l.
            (let there : c + (i + 1) ≡ c + 1 + i = omega arith in
            leap_quiet (c + 1 + i) c 1 u.board ∙ subst (λ (t : ℕ). board_quiet t u.board ≡ true) there (p.calm.ends (i + 1) (omega (arith, some, l))));
        none = λ i l.
            (let there : c + (i + 1) ≡ c + 1 + i = omega arith in
            subst (λ (t : ℕ). script_byte u.script t ≡ None) there (p.calm.none (i + 1) (omega (arith, some, l))));
      }

  idles : (i : ℕ) → i < u.wait → Idles (c + 1 + i) (rested (c + 1) i begun)
  idles = waits (c + 1) u.wait begun (omega arith)

  over : rested (c + 1) u.wait begun ≡ w
  over =
      let less : u.wait - u.wait ≡ 0 = omega arith in
      let all : 1 + u.wait ≡ n = omega (arith, p.wait) in
      let board = sym (leap_add c 1 u.wait u.board) ∙ ap (λ (m : ℕ). timers_leap c m u.board) all in
      (λ i. let x : NodeState = record u { wait = less i; board = board i } in x) ∙ sym p.after

  pub passed_there : Comes node_kind v (c + n) w k
  passed_there =
      let still : is_some u.stop ≡ false = ap is_some p.going in
      let some = p.wait in
      let there : c + 1 + u.wait ≡ c + n = omega (arith, some) in
      let quiet = all_quiet (c + 1) begun still u.wait calm_after idles in
      let state = sym over ∙ sym (passed_rested (c + 1) begun still u.wait calm_after idles u.wait (omega arith)) in
      subst (λ (t : ℕ). Comes node_kind v t w k) there
      (rested_comes v (c + 1) u.wait begun w k k first quiet state (no_rows (c + 1) begun still u.wait calm_after idles) refl)

-- a run that came to where another begins
pub joined : (v : Timed NodeState Row) (at c : ℕ) (s u : NodeState) (l k : List Row) → Comes node_kind v at s l
    → IsMidway (record { cycle = at; asking = false; state = s; rows = l }) c u k → IsMidway v c u k
joined v at c s u l k first h =
    let n : ℕ = c - at in
    let later = h.comes.later in
    let there : at + n ≡ c = omega arith in
    let all = comes_step node_kind v at n s l first h.comes.quiet in
    record {
      state = h.state;
      rows = h.rows;
      comes = subst (λ (t : ℕ). Comes node_kind v t h.state h.rows) there
          (subst (λ (x : List Row). Comes node_kind v (at + n) h.state x) (sym h.comes.rows)
          (subst (λ (x : NodeState). Comes node_kind v (at + n) x (l ++ passed_rows node_kind at n s)) (sym h.comes.state) all));
      going = h.going;
      part = h.part;
      told = h.told;
    }

-- ---- what the radio does on the air, by whether it samples and what it sends
abbrev pub IsOnAir : Bool → Option ℕ → OnAir → Type 0
IsOnAir asks sends Quiet = (asks ≡ false) × (sends ≡ None)
IsOnAir asks sends (Sent byte) = (asks ≡ false) × (sends ≡ Some byte)
IsOnAir asks sends Asks = asks ≡ true

air_told_by : (stopped : Bool) (air : OnAir) → IsOnAir (cond stopped false (is_asks air)) (cond stopped None (sent_by air)) (cond stopped Quiet air)
air_told_by true air = (refl, refl)
air_told_by false Quiet = (refl, refl)
air_told_by false (Sent byte) = (refl, refl)
air_told_by false Asks = refl

pub air_told : (t : ℕ) (s : NodeState) → IsOnAir (asks_after t s) (sends_after t s) (air_after t s)
unfolding air_after asks_after sends_after
air_told t s = air_told_by (is_some s.stop) (board_air t s.board)

-- the end of the cycle
module _ (v : Timed NodeState Row) (c : ℕ) (u : NodeState) (k : List Row) (h : IsMidway v c u k) where
  pub ended : (w : NodeState) → w ≡ devices_cycle c u → w ≡ begun_in c h.state
  ended w e = e ∙ (ap (devices_cycle c) h.part ∙ sym (begun_parts c h.state h.going))

  pub ended_rows : (r : List Row) → r ≡ k ++ device_rows c u → r ≡ h.rows ++ begun_rows c h.state
  ended_rows r e =
      e ∙ ((λ i. h.told i ++ device_rows c (h.part i))
      ∙ (append_assoc h.rows (cpu_rows c h.state) (device_rows c (cpu_cycle c h.state)) ∙ ap (λ (l : List Row). h.rows ++ l) (sym (rows_parts c h.state h.going))))

  pub ended_air : (a : OnAir) → a ≡ air_after c u → IsOnAir (asks_in c h.state) (sends_in c h.state) a
  ended_air a air =
      subst (λ (o : Option ℕ). IsOnAir (asks_in c h.state) o a) (sym (sends_parts c h.state h.going))
      (subst (λ (b : Bool). IsOnAir b (sends_after c (cpu_cycle c h.state)) a) (sym (asks_parts c h.state h.going))
      (subst (λ (x : NodeState). IsOnAir (asks_after c x) (sends_after c x) a) h.part (subst (IsOnAir (asks_after c u) (sends_after c u)) (sym air) (air_told c u))))
