use Rattle.std.proofs.Common.{arith}
use Rattle.world_core.proofs.Alone.{hears_truth}
use Rattle.node_runner.specs.Scenario.{fleet_of}
use Rattle.node_runner.proofs.Sound.{sound}
use Rattle.node_runner.proofs.law.order_law.Goals as goal

pub returns-clause-sound : goal.returns-clause-sound
returns-clause-sound g = λ s ok. sound s ok

pub returns-clause-heard : goal.returns-clause-heard
returns-clause-heard g = λ s k t ok le. hears_truth (fleet_of s) (sound s ok) k t (omega arith) le
