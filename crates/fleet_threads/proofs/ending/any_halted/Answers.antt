use Rattle.std.proofs.Common.{◌≡◌, false, subst, arith}
use Rattle.std.specs.List.{All}
use Rattle.std.proofs.lemmas.List.{take_all}
use Rattle.fleet_threads.specs.declared.member.Member.{Member}
use Rattle.fleet_threads.proofs.Ends.{one_more_goes}
use Rattle.fleet_threads.proofs.ending.any_halted.Goals as goal

pub loop-member-init : goal.loop-member-init
loop-member-init c = λ k d lt. absurd (omega arith)

pub loop-member-preserved : goal.loop-member-preserved
loop-member-preserved c = one_more_goes c.args.members.now c.loop-member.member-index c.member-item.result c.loop-member-test.true c.member-item.is c.if-member.false c.loop-member.invariant

pub returns : goal.returns
returns c = λ none. subst (All (λ (m : Member). m.halted ≡ false)) (take_all c.loop-member.member-index c.args.members.now c.loop-member-test.false) c.loop-member.invariant
