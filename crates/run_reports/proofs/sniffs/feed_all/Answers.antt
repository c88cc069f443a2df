use Rattle.std.proofs.Common.{◌<◌, ℕ, List, length, sym, ap, ◌∙◌, arith}
use Rattle.std.proofs.Math.ListN.{set}
use Rattle.std.proofs.lemmas.List.Edits.{map_over_more}
use Rattle.run_reports.specs.Sniffing.{Watch, fed_more}
use Rattle.run_reports.proofs.sniffs.feed_all.Goals as goal

pub loop-sniffing-preserved : goal.loop-sniffing-preserved
loop-sniffing-preserved c =
    let old : List Watch = c.args.all.now.items in
    let items : List Watch = c.loop-sniffing.sniffing-items in
    let i : ℕ = c.loop-sniffing.sniffing-index in
    let within : i < length old = omega (arith, c.loop-sniffing-test.true, c.loop-sniffing.auto.sniffing-items, c.deref_mut-sniffing-items.ensures.len) in
    ap (λ (w : Watch). set items i w) (c.in_ok-feed.ensures ∙ ap (fed_more c.args.sends.now) (sym c.sniffing-item.is))
    ∙ map_over_more (fed_more c.args.sends.now) old items i c.sniffing-item.result within c.loop-sniffing.invariant c.sniffing-item.is
