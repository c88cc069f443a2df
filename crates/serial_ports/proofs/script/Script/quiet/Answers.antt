use Rattle.std.proofs.Common.{◌≡◌, ◌∷◌, [], ◌+◌, is_some, ap, ◌∙◌}
use Rattle.serial_ports.specs.Script.{ScriptBytes, script_byte}
use Rattle.serial_ports.proofs.ScriptArrivals.{no-byte, one-byte}
use Rattle.serial_ports.proofs.script.Script.quiet.Goals as goal

pub returns-in-Nothing-clause-none : goal.returns-in-Nothing-clause-none
unfolding script_byte
returns-in-Nothing-clause-none c =
    let is : c.args.self.now ≡ record { stretches = [] } = cc in
    λ i l. ap (λ (s : ScriptBytes). script_byte s (c.args.cycle + i)) is ∙ no-byte (c.args.cycle + i)

pub returns-in-One-clause-none : goal.returns-in-One-clause-none
unfolding script_byte
returns-in-One-clause-none c =
    let is : c.args.self.now ≡ record { stretches = c.in-One.stretch ∷ [] } = cc in
    λ i l. ap (λ (s : ScriptBytes). script_byte s (c.args.cycle + i)) is ∙ one-byte c.in-One.stretch (c.args.cycle + i) ∙ c.quiet.ensures.none i l

pub returns-in-One-clause-first : goal.returns-in-One-clause-first
unfolding script_byte
returns-in-One-clause-first c =
    let is : c.args.self.now ≡ record { stretches = c.in-One.stretch ∷ [] } = cc in
    λ l. ap (λ (s : ScriptBytes). is_some (script_byte s (c.args.cycle + c.quiet.result))) is ∙ ap is_some (one-byte c.in-One.stretch (c.args.cycle + c.quiet.result)) ∙ c.quiet.ensures.first l

pub returns-in-Many-clause-none : goal.returns-in-Many-clause-none
unfolding script_byte
returns-in-Many-clause-none c =
    let is : c.args.self.now ≡ record { stretches = c.deref.result.now } = cc in
    λ i l. ap (λ (s : ScriptBytes). script_byte s (c.args.cycle + i)) is ∙ c.quiet-in-Many.ensures.none i l

pub returns-in-Many-clause-first : goal.returns-in-Many-clause-first
unfolding script_byte
returns-in-Many-clause-first c =
    let is : c.args.self.now ≡ record { stretches = c.deref.result.now } = cc in
    λ l. ap (λ (s : ScriptBytes). is_some (script_byte s (c.args.cycle + c.quiet-in-Many.result))) is ∙ c.quiet-in-Many.ensures.first l

pub returns-in-InOrder-clause-none : goal.returns-in-InOrder-clause-none
unfolding script_byte
returns-in-InOrder-clause-none c =
    let is : c.args.self.now ≡ record { stretches = c.in-InOrder.stretches } = cc in
    λ i l. ap (λ (s : ScriptBytes). script_byte s (c.args.cycle + i)) is ∙ c.quiet-in-InOrder.ensures.none i l

pub returns-in-InOrder-clause-first : goal.returns-in-InOrder-clause-first
unfolding script_byte
returns-in-InOrder-clause-first c =
    let is : c.args.self.now ≡ record { stretches = c.in-InOrder.stretches } = cc in
    λ l. ap (λ (s : ScriptBytes). is_some (script_byte s (c.args.cycle + c.quiet-in-InOrder.result))) is ∙ c.quiet-in-InOrder.ensures.first l
