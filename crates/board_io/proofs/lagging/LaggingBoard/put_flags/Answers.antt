use Rattle.std.proofs.Common.{◌≤◌, ap, arith}
use Rattle.avr_base.specs.declared.interrupts.Lines.{Lines}
use Rattle.board_io.proofs.Served.{flags_ahead, flags_put}
use Rattle.board_io.proofs.lagging.LaggingBoard.put_flags.Goals as goal

pub invariant_of-self : goal.invariant_of-self
invariant_of-self c =
    let i = c.self.inside in
    let at = c.get.ensures.value in
    let within : i.held.clock ≤ i.ahead.steady = omega (arith, at) in
    let bits = ap (λ (l : Lines). l.bits) c.lines-lines.ensures in
    let clear = c.clear_until-self-inside.ensures in
    flags_ahead i.ahead i.held.clock i.held.board c.self.invariant within c.args.rule c.requires c.args.at c.args.x c.put_by-put.result c.put_by-put.new.self c.put_by-put.ensures
    c.min-next.result c.lines-lines.result.bits c.clear_until-self-inside.result (omega arith) (omega arith) bits clear.within clear.down

pub returns : goal.returns
returns c =
    let i = c.self.inside in
    let at = c.get.ensures.value in
    let within : i.held.clock ≤ i.ahead.steady = omega (arith, at) in
    flags_put i.ahead i.held.clock i.held.board c.self.invariant within c.args.rule c.requires c.args.at c.args.x c.put_by-put.result c.put_by-put.new.self c.put_by-put.ensures c.args.self.now c.self.view_is
