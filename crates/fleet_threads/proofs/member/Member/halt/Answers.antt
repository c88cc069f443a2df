use Rattle.std.proofs.Common.{true, refl, ap}
use Rattle.neighbour_sync.specs.Seats.{NodeFacts}
use Rattle.fleet_threads.specs.declared.member.Member.{Member}
use Rattle.fleet_threads.proofs.Steps.{stopped}
use Rattle.fleet_threads.proofs.member.Member.halt.Goals as goal

pub returns-clause-on : goal.returns-clause-on
returns-clause-on g c =
    let old : Member = c.args.self.now in
    let new : Member = record { runner = old.runner; air = c.halt.new.self; turn = old.turn; gap = old.gap; halted = true } in
    (stopped _ _ _ _ _ old c.requires new refl refl c.halt.ensures, refl)

pub returns-clause-looks : goal.returns-clause-looks
returns-clause-looks g c = ap (λ (a : NodeFacts). a.halts) c.halt.ensures
