use Rattle.std.proofs.Common.{◌≡◌, List, [], ◌∷◌, ◌++◌, map, sym, subst, ap, ◌∙◌, rules, append-nil}
use Rattle.std.proofs.lemmas.List.{take_all}
use Rattle.fleet_threads.specs.declared.member.Member.{Member}
use Rattle.fleet_threads.specs.Ending.{HasEndedAt, end_row_at}
use Rattle.fleet_threads.proofs.Ends.{ends_on}
use Rattle.fleet_threads.proofs.ending.add_ends.Goals as goal

pub end_row-requires : goal.end_row-requires
end_row-requires c = subst HasEndedAt (sym c.member-item.is) (c.requires c.loop-member.member-index c.member-item.result c.loop-member-test.true)

pub loop-member-preserved : goal.loop-member-preserved
loop-member-preserved c =
    let m : Member = c.member-item.result in
    let pushed : c.push.new.self.items ≡ c.loop-member.rows.items ++ c.end_row.result ∷ [] = search rules in
    ends_on c.args.members.now c.loop-member.member-index m c.end_row.result c.args.rows.now.items c.loop-member.rows.items c.push.new.self.items c.loop-member-test.true c.member-item.is c.loop-member.invariant c.end_row.ensures pushed

pub loop-member-init : goal.loop-member-init
loop-member-init c = sym (append-nil c.args.rows.now.items)

pub returns : goal.returns
returns c = c.loop-member.invariant ∙ ap (λ (l : List Member). c.args.rows.now.items ++ map end_row_at l) (take_all c.loop-member.member-index c.args.members.now c.loop-member-test.false)
