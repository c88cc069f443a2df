use Rattle.std.proofs.Common.{◌≡◌, ◌<◌, length, get_or, sym, subst, ◌∙◌, ap, arith}
use Rattle.world_core.specs.Sends.{sends_of}
use Rattle.air_cases.proofs.Numbers.{is_number}
use Rattle.air_cases.proofs.asking.send_number.Goals as goal

pub returns : goal.returns
returns c =
    let xs = c.in_ok-sends.sends.items in
    let x = c.index.result.now in
    let same : xs ≡ sends_of c.args.node c.args.world.now.sends = c.in_ok-sends.ensures ∙ ap (sends_of c.args.node) c.sends.ensures in
    let lt : c.args.number < length xs = omega (arith, c.if-number-len.false, c.len.ensures) in
    let here : get_or xs c.args.number x ≡ x = sym c.index.ensures in
    is_number c.args.world.now c.args.node c.args.number x x (subst (λ l. c.args.number < length l) same lt) (subst (λ l. get_or l c.args.number x ≡ x) same here)
