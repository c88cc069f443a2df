-- What a node's runs make of a runner.
use Rattle.std.proofs.Common.{◌≡◌, ℕ, ◌+◌, ◌-◌, ◌<◌, ◌≤◌, min, Bool, true, false, cond, not, ◌&&◌, ◌||◌, Some, [], length, refl, sym, subst, ◌∙◌, ap, arith, inl, inr, add-zero, length-append}
use Rattle.std.specs.Prelude.{is_some, nat_lt}
use Rattle.std.proofs.Math.Nat.{sub-zero}
use Rattle.air_base.specs.declared.air.Heard.{Heard}
use Rattle.world_core.specs.Sends.{sends_of, sends_below, IsSendNumber}
use Rattle.world_core.specs.Settled.{truth}
use Rattle.air_base.specs.NodeRun.{Timed, Rests, Sends, Asks, answered}
use Rattle.node_core.specs.declared.row.Row.{Row}
use Rattle.node_core.specs.State.{NodeState}
use Rattle.node_core.specs.Cycle.{node_kind}
use Rattle.world_core.specs.Order.{Fleet, Moment, facts_of, node_at, world_at}
use Rattle.world_core.specs.Sound.{IsSound}
use Rattle.world_core.specs.Stands.{Stands, QuietBetween}
use Rattle.world_core.proofs.Sends.{count_is, first, sends_front}
use Rattle.world_core.proofs.Alone.{rows_none}
use Rattle.world_core.proofs.OrderSteps.{stands_plain, rests_stands, sends_stands, asks_stands, answered_stands, plain_state, come_state, come_quiet, count_quiet, count_sent, sent_number, asked, count_answered}
use Rattle.node_runner.specs.declared.runner.Event.TheVariants.{Ask, Sent, Turn, Ended, NoMemory}
use Rattle.node_runner.specs.Scenario.{ScenarioOf, IsScenario, fleet_of}
use Rattle.node_runner.specs.Place.{Place, IsRunner, is_live, noted_of, state_at}
use Rattle.node_runner.specs.Event.{IsEvent, GoesOn}
use Rattle.world_core.proofs.Records.{few_sends}
use Rattle.node_runner.proofs.Sound.{sound, scenario_lawful}

abbrev pub place : ScenarioOf → ℕ → ℕ → Timed NodeState Row → Bool → Place
place sc num since v u = record { scenario = sc; number = num; since = since; cycle = v.cycle; asking = v.asking; unnoted = u }

-- a runner at reset
pub begins : (sc : ScenarioOf) (num : ℕ) → IsScenario sc → num < sc.topo.nodes
    → IsRunner (place sc num 0 (record { cycle = 0; asking = false; state = (fleet_of sc).begins num; rows = [] }) false) (record { cycle = 0; asking = false; state = (fleet_of sc).begins num; rows = [] }) 0 sc.topo.limit
begins sc num i h =
    let f : Fleet NodeState Row = fleet_of sc in
    let ok : IsSound f = sound sc i in
    let none : sends_below (facts_of f).sends num 0 ≡ 0 = count_is f ok num 0 (omega arith) (omega arith) ∙ ap (λ (w : Moment NodeState Row). length (sends_of num w.sends)) (first f) in
    record {
      scenario = i;
      number = h;
      limit = refl;
      stands = stands_plain f ok num 0 0 (f.begins num) [] (omega arith) (omega arith) (omega arith) (sym (ap (λ (w : Moment NodeState Row). w.state num) (first f))) (sym (rows_none f num 0));
      count = sym none;
    }

module _ (sc : ScenarioOf) (num since : ℕ) (v new : Timed NodeState Row) (u : Bool) (n lim q to : ℕ)
    (inv : IsRunner (place sc num since v u) v n lim) (calm : v.asking ≡ false) (noted : u ≡ false) (to_is : to ≡ min (v.cycle + q) lim) where
  abbrev f : Fleet NodeState Row
  f = fleet_of sc

  ok : IsSound (fleet_of sc)
  ok = sound sc inv.scenario

  to_le : to ≤ sc.topo.limit
  to_le = let e = inv.limit in omega arith

  to_q : to ≤ v.cycle + q
  to_q = omega arith

  count_here : n ≡ sends_below (facts_of f).sends num v.cycle
  count_here = sym (add-zero n) ∙ ap (λ (b : Bool). n + cond b 1 0) (sym noted) ∙ inv.count

  noted_is : noted_of (place sc num since v u) ≡ sends_below (facts_of f).sends num v.cycle
  noted_is = ap (λ (b : Bool). sends_below (facts_of f).sends num v.cycle - cond b 1 0) noted ∙ sub-zero (sends_below (facts_of f).sends num v.cycle)

  same_count : (c : ℕ) → v.cycle ≤ c → c ≤ to → QuietBetween f num v.cycle c → sends_below (facts_of f).sends num c ≡ n
  same_count c h l quiet = count_quiet f ok num v.cycle c (omega arith) inv.number h (let t = to_le in omega arith) quiet ∙ sym count_here

  -- a rest
  module _ (c : ℕ) (r : Rests node_kind v c new) (le : c ≤ to) where
    rests_quiet : QuietBetween f num v.cycle c
    rests_quiet = come_quiet f ok num since v inv.stands calm c new.state new.rows r.comes

    pub rests_keeps : IsRunner (place sc num since new u) new n lim
    rests_keeps = record {
      scenario = inv.scenario;
      number = inv.number;
      limit = inv.limit;
      stands = rests_stands f ok num since c v new inv.stands calm r (let t = to_le in omega arith);
      count = (let a = inv.count in
          let b : sends_below (facts_of f).sends num c ≡ sends_below (facts_of f).sends num v.cycle = same_count c r.comes.later le rests_quiet ∙ count_here in
          let d : sends_below (facts_of f).sends num new.cycle ≡ sends_below (facts_of f).sends num c = ap (sends_below (facts_of f).sends num) r.cycle in
          a ∙ sym (d ∙ b));
    }

    rests_place : place sc num since new u ≡ record (place sc num since v u) { cycle = c }
    rests_place = (λ i. record { scenario = sc; number = num; since = since; cycle = r.cycle i; asking = (r.asking ∙ sym calm) i; unnoted = u })

    rests_on : GoesOn (place sc num since v u) (place sc num since new u) c
    rests_on = record { later = r.comes.later; within = (let e = r.cycle in let t = to_le in omega arith); quiet = rests_quiet }

    rests_state : new.state ≡ state_at (place sc num since new u)
    rests_state = come_state f ok num since v inv.stands calm c new.state new.rows r.comes ∙ ap (node_at f num) (sym r.cycle)

    pub event_turn : c ≡ to → to < lim → is_some new.state.stop ≡ false → IsEvent (place sc num since v u) q (Turn c) (place sc num since new u)
    event_turn e lt s = (rests_place, (let l = inv.limit in omega arith), rests_on, (let l = inv.limit in omega arith), ap (λ (x : NodeState). is_some x.stop) (sym rests_state) ∙ s)

    over : (place sc num since new u).asking ≡ false
    over = r.asking

    ends : Place → Type 0
    ends p = IsEvent (place sc num since v u) q Ended p

    self_place : place sc num since new u ≡ record (place sc num since v u) { cycle = new.cycle }
    self_place = (λ i. record { scenario = sc; number = num; since = since; cycle = new.cycle; asking = (r.asking ∙ sym calm) i; unnoted = u })

    self_on : GoesOn (place sc num since v u) (place sc num since new u) new.cycle
    self_on = subst (GoesOn (place sc num since v u) (place sc num since new u)) (sym r.cycle) rests_on

    self_q : new.cycle ≤ v.cycle + q
    self_q = let e = r.cycle in let t = to_q in omega arith

    pub event_limit : c ≡ to → lim ≤ to → IsEvent (place sc num since v u) q Ended (place sc num since new u)
    event_limit e l = (self_place, self_q, self_on, record { calm = r.asking; noted = noted; over = inr (let x = r.cycle in let y = inv.limit in let t = to_le in omega arith) })

    pub event_stopped : is_some new.state.stop ≡ true → IsEvent (place sc num since v u) q Ended (place sc num since new u)
    event_stopped s = (self_place, self_q, self_on, record { calm = r.asking; noted = noted; over = inl (ap (λ (x : NodeState). is_some x.stop) (sym rests_state) ∙ s) })

    pub event_no_memory : IsEvent (place sc num since v u) q NoMemory (place sc num since new u)
    event_no_memory = (self_place, self_q, self_on)

  -- a send
  module _ (c b : ℕ) (lt : c < to) (r : Sends node_kind v c b new) where
    sends_quiet : QuietBetween f num v.cycle c
    sends_quiet = come_quiet f ok num since v inv.stands calm c r.state r.rows r.comes

    below : c < sc.topo.limit
    below = let t = to_le in omega arith

    both : Stands f num since new × (node_kind.sends c (node_at f num c) ≡ Some b)
    both = sends_stands f ok num since c b v new inv.stands calm r below

    after_cycle : new.cycle ≡ c + 1
    after_cycle = ap (λ (x : Timed NodeState Row). x.cycle) r.after

    count_c : sends_below (facts_of f).sends num c ≡ n
    count_c = same_count c r.comes.later (omega arith) sends_quiet

    pub sends_keeps : IsRunner (place sc num since new true) new n lim
    sends_keeps = record {
      scenario = inv.scenario;
      number = inv.number;
      limit = inv.limit;
      stands = both.0;
      count = ap (λ (x : ℕ). x + 1) (sym count_c) ∙ sym (count_sent f ok num c b (omega arith) inv.number below both.1) ∙ ap (sends_below (facts_of f).sends num) (sym after_cycle);
    }

    pub event_sent : IsEvent (place sc num since v u) q (Sent (record { node = num; cycle = c; byte = b })) (place sc num since new true)
    event_sent = (
      (λ i. record { scenario = sc; number = num; since = since; cycle = after_cycle i; asking = (ap (λ (x : Timed NodeState Row). x.asking) r.after ∙ sym calm) i; unnoted = true }),
      (let t = to_q in omega arith),
      record { later = r.comes.later; within = (let e = after_cycle in let l = below in omega arith); quiet = sends_quiet },
      below,
      refl,
      subst (λ (m : ℕ). IsSendNumber (facts_of f) m (record { node = num; cycle = c; byte = b })) (count_c ∙ count_here ∙ sym noted_is) (sent_number f ok num c b (omega arith) inv.number below both.1),
      both.1,
    )

  -- a sample
  module _ (lt : new.cycle < to) (r : Asks node_kind v new.cycle new) where
    asks_quiet : QuietBetween f num v.cycle new.cycle
    asks_quiet = come_quiet f ok num since v inv.stands calm new.cycle r.state r.rows r.comes

    ask_below : new.cycle < sc.topo.limit
    ask_below = let t = to_le in omega arith

    ask_now : node_kind.asks new.cycle (node_at f num new.cycle) ≡ true
    ask_now = ap (node_kind.asks new.cycle) (sym (come_state f ok num since v inv.stands calm new.cycle r.state r.rows r.comes)) ∙ r.asks

    pub asks_keeps : IsRunner (place sc num since new u) new n lim
    asks_keeps = record {
      scenario = inv.scenario;
      number = inv.number;
      limit = inv.limit;
      stands = asks_stands f ok num since new.cycle v new inv.stands calm r ask_below;
      count = inv.count ∙ sym (same_count new.cycle r.comes.later (omega arith) asks_quiet ∙ count_here);
    }

    pub event_ask : IsEvent (place sc num since v u) q Ask (place sc num since new u)
    event_ask = (
      (λ i. record { scenario = sc; number = num; since = since; cycle = new.cycle; asking = ap (λ (x : Timed NodeState Row). x.asking) r.after i; unnoted = u }),
      (let t = to_q in omega arith),
      record { later = r.comes.later; within = (let l = ask_below in omega arith); quiet = asks_quiet },
      ask_below,
      ask_now,
      asked f ok num new.cycle (omega arith) inv.number ask_below ask_now,
    )

-- a node that is not over
live_case : (sc : ScenarioOf) (num since : ℕ) (v : Timed NodeState Row) (end : ℕ) (a : Bool) → IsSound (fleet_of sc) → v.asking ≡ a → Stands (fleet_of sc) num since v
    → (a || (not (is_some v.state.stop) && nat_lt v.cycle end)) ≡ (a || (not (is_some (node_at (fleet_of sc) num v.cycle).stop) && nat_lt v.cycle end))
live_case sc num since v end true ok e s = refl
live_case sc num since v end false ok e s = ap (λ (w : NodeState). not (is_some w.stop) && nat_lt v.cycle end) (plain_state (fleet_of sc) ok num since v s e)

pub live_is : (sc : ScenarioOf) (num since : ℕ) (v : Timed NodeState Row) (u : Bool) (n lim end : ℕ) → IsRunner (place sc num since v u) v n lim → (v.asking || (not (is_some v.state.stop) && nat_lt v.cycle end)) ≡ is_live end (place sc num since v u)
live_is sc num since v u n lim end inv = live_case sc num since v end v.asking (sound sc inv.scenario) refl inv.stands

-- an answer
pub answer_keeps : (sc : ScenarioOf) (num since : ℕ) (v new : Timed NodeState Row) (u : Bool) (n lim : ℕ) (h : Heard) → IsRunner (place sc num since v u) v n lim → v.asking ≡ true
    → h ≡ truth (facts_of (fleet_of sc)) num v.cycle → new ≡ answered node_kind v h → IsRunner (place sc num since new u) new n lim
answer_keeps sc num since v new u n lim h inv on right e =
    let f : Fleet NodeState Row = fleet_of sc in
    let ok : IsSound f = sound sc inv.scenario in
    let here = inv.stands.asks on in
    subst (λ (w : Timed NodeState Row). IsRunner (place sc num since w u) w n lim) (sym e)
    (record {
      scenario = inv.scenario;
      number = inv.number;
      limit = inv.limit;
      stands = answered_stands f ok num since v h inv.stands on right;
      count = inv.count ∙ sym (count_answered f ok num v.cycle (omega arith) inv.number here.0 here.1);
    })

-- the count fits its type
pub few_noted : (sc : ScenarioOf) (num since : ℕ) (v : Timed NodeState Row) (n lim : ℕ) → IsRunner (place sc num since v true) v n lim → n + 1 < 18446744073709551616
few_noted sc num since v n lim inv =
    let f : Fleet NodeState Row = fleet_of sc in
    let ok : IsSound f = sound sc inv.scenario in
    let few = few_sends (facts_of f) num (scenario_lawful sc inv.scenario) in
    let front = sends_front f ok num v.cycle f.topo.limit (omega arith) inv.stands.within in
    let long = ap length front.1 ∙ length-append (sends_of num (world_at f v.cycle).sends) front.0 in
    let here : n + 1 ≡ sends_below (facts_of f).sends num v.cycle = inv.count in
    let is = count_is f ok num v.cycle (omega arith) inv.stands.within in
    omega arith
