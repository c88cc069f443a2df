use Rattle.std.proofs.Common.{arith}
use Rattle.node_monitors.proofs.Rooms.{sent-most}
use Rattle.run_facts.proofs.profiles.profile_of.Goals as goal

pub of-requires : goal.of-requires
of-requires c = omega (arith, sent-most 0 (c.from.result, c.from-2.result) c.args.rows.now)
