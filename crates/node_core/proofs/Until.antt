-- A round of a run: a rest, room for rows, a stride, and the devices' part of the cycle in which the stride ended.
use Rattle.std.proofs.Common.{◌≡◌, ℕ, ◌+◌, ◌++◌, false, List, is_some, ap, ◌∙◌, subst}
use Rattle.board_io.specs.declared.cycle.OnAir.{OnAir}
use Rattle.node_core.specs.declared.machine.Machine.{Machine}
use Rattle.node_core.specs.declared.row.Row.{Row}
use Rattle.node_core.specs.Cycle.{air_after, asks_in, begun_in, begun_rows, device_rows, devices_cycle, node_kind, sends_in}
use Rattle.node_core.specs.Pace.Midway.{IsMidway, IsRested}
use Rattle.node_core.specs.Shown.{shown}
use Rattle.node_core.specs.State.{NodeState}
use Rattle.air_base.specs.NodeRun.{Comes, Timed}
use Rattle.node_core.proofs.Runs.{rested_comes}
use Rattle.node_core.proofs.Strides.{IsOnAir, ended, ended_air, ended_rows, joined}

-- from v on the node came through quiet cycles to the beginning of cycle c; in it, up to its sample, it came to w with
-- rows k, and this happened on the air
pub record IsRound (v : Timed NodeState Row) (c : ℕ) (w : NodeState) (k : List Row) (air : OnAir) : Type 0 where
  pub state : NodeState
  pub rows : List Row
  pub comes : Comes node_kind v c state rows
  pub going : is_some state.stop ≡ false
  pub happened : IsOnAir (asks_in c state) (sends_in c state) air
  pub after : w ≡ begun_in c state
  pub told : k ≡ rows ++ begun_rows c state

-- a rest of n cycles from cycle t on, and room for rows
module _ (v : Timed NodeState Row) (t n : ℕ) (old resting : Machine) (room : List Row) (before : Comes node_kind v t (shown old) old.rows.items) (rest : IsRested t n old resting) (kept : room ≡ resting.rows.items) where
  pub rested_there : Comes node_kind v (t + n) (shown resting) room
  rested_there =
      rested_comes v t n (shown old) (shown resting) old.rows.items room before rest.quiet rest.state rest.rows (kept ∙ ap (λ x. x.items) rest.same)

  -- behind it a stride to the middle of cycle c, whose end comes to w and k
  pub round : (c : ℕ) (u w : NodeState) (l k : List Row) (a air : OnAir) → IsMidway (record { cycle = t + n; asking = false; state = shown resting; rows = room }) c u l
      → w ≡ devices_cycle c u → k ≡ l ++ device_rows c u → a ≡ air_after c u → a ≡ air → IsRound v c w k air
  round c u w l k a air midway state rows told is =
      let mid : IsMidway v c u l = joined v (t + n) c (shown resting) u room l rested_there midway in
      record {
        state = mid.state;
        rows = mid.rows;
        comes = mid.comes;
        going = mid.going;
        happened = subst (IsOnAir (asks_in c mid.state) (sends_in c mid.state)) is (ended_air v c u l mid a told);
        after = ended v c u l mid w state;
        told = ended_rows v c u l mid k rows;
      }
