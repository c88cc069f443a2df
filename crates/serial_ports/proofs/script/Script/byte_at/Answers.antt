use Rattle.std.proofs.Common.{◌≡◌, ◌∷◌, [], sym, ap, subst, ◌∙◌}
use Rattle.serial_ports.specs.Script.{Arrives, ScriptBytes, script_byte}
use Rattle.serial_ports.proofs.ScriptArrivals.{no-byte, one-byte, one-arrives}
use Rattle.serial_ports.proofs.script.Script.byte_at.Goals as goal

pub returns-in-Nothing-clause-value : goal.returns-in-Nothing-clause-value
unfolding script_byte
returns-in-Nothing-clause-value c =
    let is : record { stretches = [] } ≡ c.args.self.now = cc in
    sym (no-byte c.args.cycle) ∙ ap (λ (s : ScriptBytes). script_byte s c.args.cycle) is

pub returns-in-One-clause-value : goal.returns-in-One-clause-value
unfolding script_byte
returns-in-One-clause-value c =
    let is : record { stretches = c.in-One.stretch ∷ [] } ≡ c.args.self.now = cc in
    c.byte_at.ensures.value ∙ sym (one-byte c.in-One.stretch c.args.cycle) ∙ ap (λ (s : ScriptBytes). script_byte s c.args.cycle) is

pub returns-in-One-clause-law : goal.returns-in-One-clause-law
returns-in-One-clause-law c =
    let is : record { stretches = c.in-One.stretch ∷ [] } ≡ c.args.self.now = cc in
    subst (λ (s : ScriptBytes). Arrives s c.args.cycle c.byte_at.result) is (one-arrives c.in-One.stretch c.args.cycle c.byte_at.result c.byte_at.ensures.law)

pub returns-in-Many-clause-value : goal.returns-in-Many-clause-value
unfolding script_byte
returns-in-Many-clause-value c =
    let is : record { stretches = c.deref.result.now } ≡ c.args.self.now = cc in
    c.first_byte.ensures.value ∙ ap (λ (s : ScriptBytes). script_byte s c.args.cycle) is

pub returns-in-InOrder-clause-value : goal.returns-in-InOrder-clause-value
unfolding script_byte
returns-in-InOrder-clause-value c =
    let is : record { stretches = c.in-InOrder.stretches } ≡ c.args.self.now = cc in
    c.byte_at-in-InOrder.ensures.value ∙ ap (λ (s : ScriptBytes). script_byte s c.args.cycle) is

pub returns-in-InOrder-clause-law : goal.returns-in-InOrder-clause-law
returns-in-InOrder-clause-law c =
    let is : record { stretches = c.in-InOrder.stretches } ≡ c.args.self.now = cc in
    subst (λ (s : ScriptBytes). Arrives s c.args.cycle c.byte_at-in-InOrder.result) is c.byte_at-in-InOrder.ensures.law
