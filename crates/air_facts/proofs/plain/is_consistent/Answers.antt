use Rattle.std.proofs.Common.{◌≡◌, refl, subst, ◌∙◌, ap, arith, take_all}
use Rattle.std.specs.List.{All}
use Rattle.std.proofs.lemmas.List.Elements.{All-more}
use Rattle.air_base.specs.declared.air.Ask.{Ask}
use Rattle.air_base.specs.declared.air.Heard.{Heard}
use Rattle.world_core.specs.Topology.{Topology, IsInside}
use Rattle.world_core.specs.Consistent.{AirState}
use Rattle.air_facts.specs.ByNode.{SampleAgrees}
use Rattle.air_facts.proofs.ByNodes.{consistent_from}
use Rattle.air_facts.proofs.plain.is_consistent.Goals as goal

abbrev none : Ask × Heard
none = (record { node = 0; cycle = 0 }, record { status = 0; byte = 0; age = 0 })

pub loop-ask-preserved : goal.loop-ask-preserved
loop-ask-preserved c =
    All-more (SampleAgrees c.args.world.now c.args.floor c.args.sent.now) c.args.samples.now c.loop-ask.ask-index none c.loop-ask-test.true c.loop-ask.invariant
    (c.sample_agrees.ensures.0 c.if-not-sample_agrees.false)

pub returns : goal.returns
returns c =
    let a : AirState = record { world = c.args.world.now; clocks = c.args.clocks.now; sent = c.args.sent.now; floor = c.args.floor; sends = c.args.sends.now; samples = c.args.samples.now } in
    let law = c.topo-topo.ensures.lawful in
    let same = c.topo-topo.ensures.same in
    let n : c.nodes-nodes.result ≡ c.args.world.now.topo.nodes = c.nodes-nodes.ensures.value ∙ ap (λ (t : Topology). t.nodes) same in
    let inside = subst (λ (t : Topology). All (λ x. IsInside t x.node x.cycle) c.args.sends.now) same (c.are_inside.ensures.0 c.if-not-are_inside.false) in
    let whole = take_all c.loop-ask.ask-index c.args.samples.now c.loop-ask-test.false in
    ((λ e. consistent_from a law (omega arith) (omega arith) inside (λ k lt. c.loop-node.invariant k (omega arith)) (subst (All (SampleAgrees a.world a.floor a.sent)) whole c.loop-ask.invariant)), (λ h. refl))
