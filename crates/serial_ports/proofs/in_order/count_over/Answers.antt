use Rattle.std.proofs.Common.{rules, of_calls, nat_le}
use Rattle.std.proofs.lemmas.Fn.{always_returns_same}
use Rattle.std.proofs.lemmas.List.Sorted.{IsPartitionedBy-leb}
use Rattle.serial_ports.specs.InOrder.{behind}
use Rattle.serial_ports.specs.Script.{StretchBytes}
use Rattle.serial_ports.proofs.InOrder.{rises}
use Rattle.serial_ports.proofs.in_order.count_over.Goals as goal

pub returns-clause-point : goal.returns-clause-point
returns-clause-point c =
    c.partition_point.ensures.partitioned (λ (s : StretchBytes). nat_le (behind s) c.args.cycle) (always_returns_same _ _ _ (λ a r f k. search (rules, of_calls)))
    (IsPartitionedBy-leb behind c.args.stretches.now c.args.cycle (rises c.args.stretches.now c.requires))
