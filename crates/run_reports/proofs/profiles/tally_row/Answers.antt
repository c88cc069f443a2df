use Rattle.std.proofs.Common.{◌≡◌, length, vec_len, arith, rules, ap, ◌∙◌}
use Rattle.node_monitors.specs.Tally.{tallied}
use Rattle.run_reports.proofs.TalliesMore.{row-taken, row-passed}
use Rattle.run_reports.proofs.profiles.tally_row.Goals as goal

pub returns-in_ok-take : goal.returns-in_ok-take
returns-in_ok-take c =
    let len : length c.args.all.now.items ≡ vec_len c.args.all.now = search rules in
    let long = c.len.ensures in
    let number : c.from-number.result ≡ c.args.row.now.node = c.from-number.ensures in
    let below = c.if-number-len.true in
    λ nodes window before is.
    rw number
    (row-taken nodes window before c.args.row.now c.args.all.now.items c.index_mut.result.now c.take.new.self is (omega arith)
    (c.in_ok-take.ensures ∙ ap (tallied c.args.row.now) (search rules)))

pub returns-else-number-len : goal.returns-else-number-len
returns-else-number-len c =
    let len : length c.args.all.now.items ≡ vec_len c.args.all.now = search rules in
    let long = c.len.ensures in
    let number : c.from-number.result ≡ c.args.row.now.node = c.from-number.ensures in
    let past = c.if-number-len.false in
    λ nodes window before is. row-passed nodes window before c.args.row.now c.args.all.now.items is (omega arith)
