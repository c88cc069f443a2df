use Rattle.std.proofs.Common.{sym, ◌∙◌, refl}
use Rattle.serial_ports.proofs.StretchArrivals.{arrives, stretch-at, stretch-none}
use Rattle.serial_ports.proofs.stretch.Stretch.byte_at.Goals as goal

pub returns-in-Some-clause-value : goal.returns-in-Some-clause-value
returns-in-Some-clause-value c =
    c.byte.ensures ∙ sym (stretch-at c.args.self.now c.args.cycle c.in-Some.number c.number_at.ensures.some c.in-Some.ensures.found)

pub returns-in-None-clause-value : goal.returns-in-None-clause-value
returns-in-None-clause-value c =
    sym (stretch-none c.args.self.now c.args.cycle c.number_at.ensures.some (λ i l. c.in-None.ensures.none refl i))

pub returns-in-Some-clause-law : goal.returns-in-Some-clause-law
returns-in-Some-clause-law c =
    arrives c.args.self.now c.args.cycle c.byte.result c.number_at.ensures.some (returns-in-Some-clause-value c)
