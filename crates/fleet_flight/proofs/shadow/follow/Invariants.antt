use Rattle.std.proofs.Common.{◌≡◌, ◌⊎◌, ◌≤◌, ◌-◌, true, is_some}
use Rattle.fleet_flight.specs.Shadows.{Goes, IsShadow, ear_of}
use Rattle.fleet_flight.proofs.shadow.follow.Given as goal

abbrev pub invariant-loop-shadow : goal.invariant-loop-shadow
invariant-loop-shadow l = record {
  goes : Goes (ear_of l.topo l.log.sends l.fn.shadow.number) l.floor (l.shadow.node.cycle - l.floor) l.fn.shadow l.fn.changes.items l.shadow l.changes.items;
  shadow : IsShadow l.shadow;
  within : l.shadow.node.cycle ≤ l.end;
  over : (is_some l.shadow.node.state.stop ≡ true) ⊎ (l.floor ≤ l.shadow.node.cycle);
}

abbrev pub decreases-loop-shadow : goal.decreases-loop-shadow
decreases-loop-shadow l = l.end - l.shadow.node.cycle
