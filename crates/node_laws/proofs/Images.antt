-- The program memories of a scenario that accepted texts give have bytes.
use Rattle.std.proofs.Common.{arith}
use Rattle.std.specs.List.{All}
use Rattle.node_runner.specs.Accepted.{IsAccepted}
use Rattle.node_runner.specs.Scenario.{ScenarioOf}
use Rattle.node_runner.proofs.Accepted.{images_bytes}
use Rattle.node_laws.specs.Node.{AreBytes}

abbrev pub AreImages : ScenarioOf → Type 0
AreImages sc = All (λ image. AreBytes image.bytes) sc.images

pub images_are : (sc : ScenarioOf) → IsAccepted sc → AreImages sc
images_are sc is = λ k d lt i. let small = images_bytes sc is k d lt i in omega (arith, small)
