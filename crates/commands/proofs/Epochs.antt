-- Where epochs end.
use Rattle.std.proofs.Common.{◌≡◌, ℕ, suc, ◌+◌, ◌*◌, ◌<◌, ◌≤◌, min, arith}
use Rattle.world_core.specs.Kept.{epoch}
use Rattle.node_runner.specs.Scenario.{ScenarioOf}
use Rattle.commands.specs.Parts.{EndsEpoch, EndsFrom}

pub epoch_zero : (sc : ScenarioOf) (c : ℕ) → c ≡ 0 → EndsEpoch sc c
epoch_zero sc c e = record { count = 0; at = omega arith }

-- the limit is such an end, however many epochs are counted
pub epoch_limit : (sc : ScenarioOf) (c : ℕ) → c ≡ sc.topo.limit → EndsEpoch sc c
epoch_limit sc c e = record { count = sc.topo.limit; at = omega arith }

pub epoch_below : (sc : ScenarioOf) (n c : ℕ) → n * epoch < sc.topo.limit → c ≡ n * epoch → EndsEpoch sc c
epoch_below sc n c h e = record { count = n; at = omega arith }

module _ (sc : ScenarioOf) (c next end : ℕ) (at : EndsEpoch sc c) (last : EndsEpoch sc end) (more : c < end) (is : next ≡ min (c + epoch) sc.topo.limit) where
  pub epoch_next : EndsEpoch sc next
  epoch_next =
      let a : c ≡ min (at.count * epoch) sc.topo.limit = at.at in
      let b : end ≡ min (last.count * epoch) sc.topo.limit = last.at in
      record { count = suc at.count; at = omega arith }

  pub epoch_within : next ≤ end
  epoch_within =
      let a : c ≡ min (at.count * epoch) sc.topo.limit = at.at in
      let b : end ≡ min (last.count * epoch) sc.topo.limit = last.at in
      omega arith

pub epoch_last : (sc : ScenarioOf) (end : ℕ) → EndsEpoch sc end → end ≤ sc.topo.limit
epoch_last sc end last = let b : end ≡ min (last.count * epoch) sc.topo.limit = last.at in omega arith

-- ---- of a run that began in a cycle of its own

pub from_zero : (sc : ScenarioOf) (start c : ℕ) → c ≡ start → start < sc.topo.limit → EndsFrom sc start c
from_zero sc start c e h = record { count = 0; at = omega arith }

pub from_limit : (sc : ScenarioOf) (start c : ℕ) → c ≡ sc.topo.limit → EndsFrom sc start c
from_limit sc start c e = record { count = sc.topo.limit; at = omega arith }

pub from_below : (sc : ScenarioOf) (start n c : ℕ) → start + n * epoch < sc.topo.limit → c ≡ start + n * epoch → EndsFrom sc start c
from_below sc start n c h e = record { count = n; at = omega arith }

module _ (sc : ScenarioOf) (start c next end : ℕ) (at : EndsFrom sc start c) (last : EndsFrom sc start end) (more : c < end) (is : next ≡ min (c + epoch) sc.topo.limit) where
  pub from_next : EndsFrom sc start next
  from_next =
      let a : c ≡ min (start + at.count * epoch) sc.topo.limit = at.at in
      let b : end ≡ min (start + last.count * epoch) sc.topo.limit = last.at in
      record { count = suc at.count; at = omega arith }

  pub from_within : next ≤ end
  from_within =
      let a : c ≡ min (start + at.count * epoch) sc.topo.limit = at.at in
      let b : end ≡ min (start + last.count * epoch) sc.topo.limit = last.at in
      omega arith

pub from_last : (sc : ScenarioOf) (start end : ℕ) → EndsFrom sc start end → end ≤ sc.topo.limit
from_last sc start end last = let b : end ≡ min (start + last.count * epoch) sc.topo.limit = last.at in omega arith

pub from_begun : (sc : ScenarioOf) (start end : ℕ) → start < sc.topo.limit → EndsFrom sc start end → start ≤ end
from_begun sc start end early last = let b : end ≡ min (start + last.count * epoch) sc.topo.limit = last.at in omega arith
