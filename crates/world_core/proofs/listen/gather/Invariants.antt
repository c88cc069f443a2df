use Rattle.std.proofs.Common.{◌≡◌, length, ◌≤◌, take}
use Rattle.std.specs.List.{filter}
use Rattle.world_core.specs.Heard.{is_audible, age_of}
use Rattle.world_core.specs.Sends.{sends_of}
use Rattle.world_core.specs.Chain.{IsPlaceOf}
use Rattle.world_core.specs.Over.{heard_over}
use Rattle.world_core.proofs.listen.gather.Given as goal

abbrev pub invariant-loop-place : goal.invariant-loop-place
invariant-loop-place l = record {
  within : l.place ≤ length l.sends;
  own : IsPlaceOf l.sends l.from l.place;
  rest : heard_over (age_of l.topo l.node l.cycle) l.so_far (filter (is_audible l.topo l.node l.cycle) (sends_of l.from (take l.place l.sends)))
      ≡ heard_over (age_of l.topo l.node l.cycle) l.fn.heard (filter (is_audible l.topo l.node l.cycle) (sends_of l.from l.sends));
}

abbrev pub decreases-loop-place : goal.decreases-loop-place
decreases-loop-place l = l.place
