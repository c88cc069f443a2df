use Rattle.std.proofs.Common.{ℕ, ◌+◌, subst, ap, ◌∙◌, is_some}
use Rattle.node_core.specs.Reached.{IsReached}
use Rattle.node_core.specs.declared.node.Reached.{Reached}
use Rattle.world_core.specs.Heard.{heard}
use Rattle.fleet_flight.specs.Shadows.{ear_of}
use Rattle.fleet_flight.proofs.Following.{ticks_asks, ticks_rests, ticks_sends, ticks_stops}
use Rattle.fleet_flight.proofs.shadow.one_cycle.Goals as goal

pub returns-in-Cycle : goal.returns-in-Cycle
returns-in-Cycle c =
    let to : ℕ = c.cycle-cycle.result + 1 in
    let next = ap (λ (t : ℕ). t + 1) c.cycle-cycle.ensures in
    let r = subst (λ (r : Reached). IsReached c.args.node.now to r c.run_until.new.self) c.in-Cycle.is c.run_until.ensures in
    ticks_rests (ear_of c.args.topo.now c.args.log.now.sends c.args.number) c.args.node.now c.run_until.new.self (ap is_some c.requires.going) to next r.0

pub returns-in-Stopped : goal.returns-in-Stopped
returns-in-Stopped c =
    let to : ℕ = c.cycle-cycle.result + 1 in
    let next = ap (λ (t : ℕ). t + 1) c.cycle-cycle.ensures in
    let r = subst (λ (r : Reached). IsReached c.args.node.now to r c.run_until.new.self) c.in-Stopped.is c.run_until.ensures in
    ticks_stops (ear_of c.args.topo.now c.args.log.now.sends c.args.number) c.args.node.now c.run_until.new.self (ap is_some c.requires.going) to next r.0 r.1

pub returns-in-Sent : goal.returns-in-Sent
returns-in-Sent c =
    let to : ℕ = c.cycle-cycle.result + 1 in
    let next = ap (λ (t : ℕ). t + 1) c.cycle-cycle.ensures in
    let r = subst (λ (r : Reached). IsReached c.args.node.now to r c.run_until.new.self) c.in-Sent.is c.run_until.ensures in
    ticks_sends (ear_of c.args.topo.now c.args.log.now.sends c.args.number) c.args.node.now c.run_until.new.self (ap is_some c.requires.going) to next c.in-Sent.cycle c.in-Sent.byte r.0 r.1

pub returns-in-Ask : goal.returns-in-Ask
returns-in-Ask c =
    let to : ℕ = c.cycle-cycle.result + 1 in
    let next = ap (λ (t : ℕ). t + 1) c.cycle-cycle.ensures in
    let r = subst (λ (r : Reached). IsReached c.args.node.now to r c.run_until.new.self) c.in-Ask.is c.run_until.ensures in
    let same = c.heard.ensures ∙ ap (heard c.args.topo.now c.args.log.now.sends c.args.number) c.cycle-cycle.ensures in
    ticks_asks (ear_of c.args.topo.now c.args.log.now.sends c.args.number) c.args.node.now c.run_until.new.self (ap is_some c.requires.going) to next c.in-Ask.cycle r.0 r.1 c.heard.result same c.answer.new.self c.answer.ensures
