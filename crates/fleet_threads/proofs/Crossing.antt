-- What may be moved to a thread, and what threads may share.
use denote.Param.Send.{IsSend, sendable}
use Rattle.std.proofs.Crossing.{crosses}
use Rattle.node_core.proofs.node.Node.TheSendSync.{the_send as node}
use Rattle.node_runner.specs.contracts.runner.Runner as Runner
use Rattle.neighbour_sync.proofs.node.NodeAir.TheSendSync.{the_send as node_air}
use Rattle.fleet_threads.specs.contracts.member.Member as Member

pub runner : IsSend Runner.the_row
runner = search (sendable, crosses, node) depth 20

pub member : IsSend (Member.the_field).row
member = search (sendable, crosses, runner, node_air) depth 20

pub handed : IsSend Member.the_row
handed = search (sendable, crosses, runner, node_air) depth 40 fits 5000
