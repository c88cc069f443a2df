use Rattle.std.proofs.Common.{◌≤◌, ◌<◌, ◌*◌, ◌/◌, ◌^◌, arith}
use Rattle.std.proofs.Math.Nat.{mod-eq_of_lt}
use Rattle.std.proofs.Math.Pow.{pow_mono}
use Rattle.board_io.proofs.lines.line.Goals as goal

pub returns-then-enabled-clause-most : goal.returns-then-enabled-clause-most
returns-then-enabled-clause-most c =
    let half : c.args.word / 2 ≤ 29 = omega (arith, c.requires) in
    let most : 2 ^ (c.args.word / 2) ≤ 2 ^ 29 = pow_mono half in
    let fits : 1 * 2 ^ (c.args.word / 2) < 18446744073709551616 = omega (arith, most) in
    let same = mod-eq_of_lt fits in
    omega (arith, most, same)
