use Rattle.std.proofs.Common.{◌≡◌, ◌+◌, ◌*◌, ◌<◌, ℕ, length, get_or, ap, ◌∙◌, arith}
use Rattle.world_core.proofs.LinkRows.{count_set}
use Rattle.world_core.proofs.link_table.LinkTable.add.Goals as goal

pub returns-clause-filled : goal.returns-clause-filled
returns-clause-filled c =
    let rows = c.args.self.now.rows in
    let at : 64 * c.from.result + c.from-2.result ≡ 64 * c.args.link.to + c.args.link.from = let a = c.from.ensures in let b = c.from-2.ensures in omega arith in
    let within : 64 * c.from.result + c.from-2.result < length rows = let a = c.requires.ends.0 in let b = c.requires.ends.1 in omega arith in
    count_set rows (64 * c.from.result + c.from-2.result) (c.args.place + 1) within (ap (λ (n : ℕ). get_or rows n 0) at ∙ c.requires.free) (omega arith)
