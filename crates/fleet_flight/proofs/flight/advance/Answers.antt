use Rattle.std.proofs.Common.{◌≡◌, ◌<◌, List, inl, inr, sym, subst, refl, ◌∙◌, arith, rules}
use Rattle.std.proofs.lemmas.List.Elements.{All-weaker}
use Rattle.air_base.specs.declared.air.Send.{Send}
use Rattle.node_core.specs.Reached.{IsReached}
use Rattle.node_core.specs.declared.node.Reached.{Reached}
use Rattle.fleet_flight.proofs.flight.advance.Goals as goal

pub returns-then-asking : goal.returns-then-asking
returns-then-asking c = inl (record { asking = sym c.asking.ensures ∙ c.if-asking.true; node = search rules; sends = refl })

pub returns-in-Cycle : goal.returns-in-Cycle
returns-in-Cycle c =
    let r = subst (λ (r : Reached). IsReached c.args.node.now c.args.end r c.run_until.new.self) c.in-Cycle.is c.run_until.ensures in
    inr (inl (record { calm = sym c.asking.ensures ∙ c.if-asking.false; rests = inl r.0; sends = refl }))

pub returns-in-Stopped : goal.returns-in-Stopped
returns-in-Stopped c =
    let r = subst (λ (r : Reached). IsReached c.args.node.now c.args.end r c.run_until.new.self) c.in-Stopped.is c.run_until.ensures in
    inr (inl (record { calm = sym c.asking.ensures ∙ c.if-asking.false; rests = inr (r.0, r.1); sends = refl }))

pub returns-in-Ask : goal.returns-in-Ask
returns-in-Ask c =
    let r = subst (λ (r : Reached). IsReached c.args.node.now c.args.end r c.run_until.new.self) c.in-Ask.is c.run_until.ensures in
    inr (inr (inl (record { calm = sym c.asking.ensures ∙ c.if-asking.false; cycle = c.in-Ask.cycle; early = r.0; asks = r.1; sends = refl })))

pub post-requires-clause-behind : goal.post-requires-clause-behind
post-requires-clause-behind c =
    let r = subst (λ (r : Reached). IsReached c.args.node.now c.args.end r c.run_until.new.self) c.in-Sent.is c.run_until.ensures in
    let from = r.1.comes.later in
    let xs : List Send = c.args.log.now.sends in
    record {
      nodes = c.requires.post.nodes;
      rises = c.requires.post.rises;
      behind = All-weaker (λ (x : Send). x.node ≡ c.args.number → x.cycle < c.args.node.now.cycle) (λ (x : Send). x.node ≡ c.args.number → x.cycle < c.in-Sent.cycle) (λ x h same. let a = h same in omega arith) xs c.requires.post.behind;
    }

pub returns-in_ok-post-in-Sent : goal.returns-in_ok-post-in-Sent
returns-in_ok-post-in-Sent c =
    let r = subst (λ (r : Reached). IsReached c.args.node.now c.args.end r c.run_until.new.self) c.in-Sent.is c.run_until.ensures in
    inr (inr (inr (record { calm = sym c.asking.ensures ∙ c.if-asking.false; cycle = c.in-Sent.cycle; byte = c.in-Sent.byte; early = r.0; sends = r.1; grows = c.in_ok-post-in-Sent.ensures })))
