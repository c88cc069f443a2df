use Rattle.std.proofs.Common.{◌≡◌, take, false}
use Rattle.std.specs.List.{All}
use Rattle.fleet_threads.proofs.ending.any_halted.Given as goal

abbrev pub invariant-loop-member : goal.invariant-loop-member
invariant-loop-member l = All (λ m. m.halted ≡ false) (take l.member-index l.members)
