use Rattle.std.proofs.Common.{◌≡◌, Bool, true, subst, ◌∙◌, ap, arith}
use Rattle.node_runner.specs.Place.{Place, IsRunner}
use Rattle.node_runner.proofs.Events.{place, few_noted}
use Rattle.node_runner.proofs.runner.Runner.note_posted.Goals as goal

pub overflow_add-self : goal.overflow_add-self
overflow_add-self c =
    let i = c.self.inside in
    let on : i.unnoted ≡ true = ap (λ (p : Place). p.unnoted) c.self.view_is ∙ c.requires in
    let h = few_noted i.scenario.value i.number i.since i.node i.count i.limit (subst (λ (b : Bool). IsRunner (place i.scenario.value i.number i.since i.node b) i.node i.count i.limit) on c.self.invariant) in
    omega (arith, h)
