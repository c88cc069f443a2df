use Rattle.std.proofs.Common.{subst, ◌∙◌, ap}
use Rattle.state_text.specs.Bounds.{rules}
use Rattle.state_text.specs.Reading.{Gives, state_of}
use Rattle.state_text.proofs.Laws.{gives_found}
use Rattle.state_text.proofs.Again.{state_again}
use Rattle.state_text.proofs.reading.read.Goals as goal

pub returns-clause-found : goal.returns-clause-found
returns-clause-found g c = gives_found (rules c.args.topo.now (g.B.Bounds.rules c.args.bounds.now)) c.args.bytes.now _ c.nodes-lawful.ensures.lawful c.state.ensures

pub returns-clause-only : goal.returns-clause-only
returns-clause-only g c = λ st fits e. subst (λ f. Gives (λ state. state) c.state.result f) (ap (state_of (rules c.args.topo.now (g.B.Bounds.rules c.args.bounds.now))) e ∙ state_again (rules c.args.topo.now (g.B.Bounds.rules c.args.bounds.now)) st c.nodes-lawful.ensures.lawful fits) c.state.ensures
