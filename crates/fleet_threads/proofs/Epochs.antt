-- From one epoch to the next.
use Rattle.std.specs.Prelude.{is_some, nat_lt}
use Rattle.std.proofs.Common.{◌≡◌, ℕ, ◌<◌, ◌≤◌, ◌⊎◌, inl, inr, Bool, true, false, not, ◌&&◌, List, [], ◌∷◌, map, length, get_or, refl, sym, subst, ◌∙◌, ap, arith}
use Rattle.std.specs.List.{All}
use Rattle.std.proofs.lemmas.Bool.{false≢true}
use Rattle.std.proofs.lemmas.List.{length-map, get_or-map}
use Rattle.atomic_table.specs.Seated.{TableId}
use Rattle.world_core.specs.declared.world.WorldFacts.{WorldFacts}
use Rattle.world_core.specs.Sends.{sends_below}
use Rattle.world_core.specs.Kept.{IsPostedTo}
use Rattle.world_core.proofs.Counts.{none_at_zero}
use Rattle.neighbour_sync.specs.Seats.{NodeFacts, ClocksFacts, AreFirstNodes, first_node}
use Rattle.neighbour_sync.specs.Record.{AirRecord, first_record, with_loads, cut_at}
use Rattle.world_core.specs.Order.{facts_of, node_at}
use Rattle.node_runner.specs.Scenario.{ScenarioOf, IsScenario, fleet_of}
use Rattle.node_runner.specs.Place.{Place, is_live, state_at, sends_passed}
use Rattle.neighbour_sync.specs.Parts.{AreParts}
use Rattle.node_runner.specs.Flight.{IsAt, IsTaken}
use Rattle.node_runner.specs.Gather.{start_of, taken}
use Rattle.node_runner.proofs.Places.{still_calm, still_over}
use Rattle.fleet_threads.specs.declared.member.Member.{Member}
use Rattle.fleet_threads.specs.declared.parts.Parts.{Parts}
use Rattle.fleet_threads.specs.Member.{IsEpoch, IsPlaced, IsUnderWay, IsBack, InOrder, AreAtEnd, numbers}
use Rattle.fleet_threads.specs.Ending.{taken_at}
use Rattle.fleet_threads.specs.Run.{IsTied, IsResting, IsFirst, air_of}
use Rattle.fleet_threads.proofs.Lists.{ordered}

-- ---- a node that rests goes on to the next end
pub begins : (t : TableId) (sc : ScenarioOf) (floor end : ℕ) (m : Member) → IsEpoch (facts_of (fleet_of sc)) sc floor end → IsResting t sc floor floor m → IsUnderWay t (facts_of (fleet_of sc)) sc floor end m
begins t sc floor end m ep r =
    let p : Place = m.runner in
    let u = r.is in
    let calm : p.asking ≡ false = still_calm floor p r.still in
    let rises = ep.rises in
    let at : IsAt sc end p.number p = record {
      scenario = u.place.at.scenario;
      number = refl;
      noted = u.place.at.noted;
      within = (let x = u.place.at.within in omega arith);
      early = (λ e. absurd (false≢true (sym calm ∙ e)));
      asks = (λ e. absurd (false≢true (sym calm ∙ e)));
    } in
    record {
      epoch = ep;
      place = record { node = u.place.node; at = at; taken = u.place.taken };
      number = u.number;
      table = u.table;
      world = u.world;
      told = u.told;
      gap = u.gap;
      clock = (let c = r.clock in omega arith);
      passed = u.passed;
    }

pub all_begin : (t : TableId) (sc : ScenarioOf) (floor end : ℕ) (ms : List Member) → IsEpoch (facts_of (fleet_of sc)) sc floor end → All (IsResting t sc floor floor) ms → All (IsUnderWay t (facts_of (fleet_of sc)) sc floor end) ms
all_begin t sc floor end ms ep all = λ k d lt. begins t sc floor end (get_or ms k d) ep (all k d lt)

-- ---- all came back, and nobody halted
pub all_rest : (t : TableId) (sc : ScenarioOf) (floor end : ℕ) (ms : List Member) → All (IsBack t (facts_of (fleet_of sc)) sc floor end) ms → All (λ m. m.halted ≡ false) ms → All (IsResting t sc floor end) ms
all_rest t sc floor end ms back goes = λ k d lt.
    let b = back k d lt in
    let g = goes k d lt in
    record { is = b.is; still = (b.over g).0; clock = (b.over g).1; goes = g }

pub tied : (sc : ScenarioOf) (floor end : ℕ) (x y : Parts) (a : AirRecord) (waits : List (ℕ × ℕ)) → IsTied sc floor floor x → AreParts x.air.table (facts_of (fleet_of sc)) x.air.floor y.clocks a
    → y.air.table ≡ a.table → y.air.world ≡ a.world → IsPostedTo a.world end a.sent → y.air ≡ cut_at (with_loads a waits) end
    → numbers y.members.items ≡ numbers x.members.items → All (IsBack x.air.table (facts_of (fleet_of sc)) sc x.air.floor end) y.members.items → All (λ m. m.halted ≡ false) y.members.items
    → IsTied sc floor end y
tied sc floor end x y a waits was parts same_table same_world posted cut order back goes =
    let ms : List Member = y.members.items in
    let table : y.air.table ≡ x.air.table = same_table ∙ parts.table in
    record {
      parts = record {
        words = parts.words ∙ sym table;
        scene = parts.scene;
        table = refl;
        world = same_world ∙ parts.world;
        floor = ap (λ (r : AirRecord). r.floor) cut;
      };
      posted = subst (λ (v : WorldFacts). IsPostedTo v end y.air.sent) parts.world (subst (IsPostedTo a.world end) (sym (ap (λ (r : AirRecord). r.sent) cut)) posted);
      order = ordered sc.topo.nodes x.members.items ms was.order order;
      rests = subst (λ (z : TableId). All (IsResting z sc floor end) ms) (sym table) (subst (λ (n : ℕ). All (IsResting x.air.table sc n end) ms) was.parts.floor (all_rest x.air.table sc x.air.floor end ms back goes));
    }

pub at_end : (sc : ScenarioOf) (floor end : ℕ) (x : Parts) → IsTied sc floor end x → AreAtEnd sc floor end x.members.items
at_end sc floor end x t = record { order = t.order; placed = (λ k d lt. (t.rests k d lt).is.place); still = (λ k d lt. (t.rests k d lt).still) }

-- ---- its rows are taken
taken_case : (sc : ScenarioOf) (end : ℕ) (p : Place) → IsAt sc end p.number p → (is_some (node_at (fleet_of sc) p.number p.cycle).stop ≡ true) ⊎ (end ≤ p.cycle) → IsTaken sc end p.number (taken p)
taken_case sc end p a (inl stop) = inr (stop, refl, a.within)
taken_case sc end p a (inr past) = inl ((let x = a.within in omega arith), past)

takes : (t : TableId) (sc : ScenarioOf) (floor end : ℕ) (m : Member) → IsResting t sc floor end m → IsResting t sc end end (taken_at m)
takes t sc floor end m r =
    let p : Place = m.runner in
    let u = r.is in
    let a = u.place.at in
    record {
      is = record {
        epoch = record { sound = u.epoch.sound; world = refl; rises = omega arith; span = omega arith; within = u.epoch.within };
        place = record {
          node = u.place.node;
          at = record { scenario = a.scenario; number = refl; noted = a.noted; within = a.within; early = a.early; asks = a.asks };
          taken = taken_case sc end p a (subst (λ (z : ScenarioOf). (is_some (node_at (fleet_of z) p.number p.cycle).stop ≡ true) ⊎ (end ≤ p.cycle)) a.scenario (still_over end p r.still));
        };
        number = u.number;
        table = u.table;
        world = u.world;
        told = u.told;
        gap = u.gap;
        clock = (let c = r.clock in omega arith);
        passed = u.passed;
      };
      still = r.still;
      clock = r.clock;
      goes = r.goes;
    }

taken_numbers : (ms : List Member) → numbers (map taken_at ms) ≡ numbers ms
taken_numbers [] = refl
taken_numbers (m ∷ ms) = ap (λ (l : List ℕ). m.runner.number ∷ l) (taken_numbers ms)

all_take : (t : TableId) (sc : ScenarioOf) (floor end : ℕ) (ms : List Member) → All (IsResting t sc floor end) ms → All (IsResting t sc end end) (map taken_at ms)
all_take t sc floor end ms all = λ k d lt.
    let n = length-map ms taken_at in
    subst (IsResting t sc end end) (sym (get_or-map taken_at ms k d d (omega arith))) (takes t sc floor end (get_or ms k d) (all k d (omega arith)))

pub tied_taken : (sc : ScenarioOf) (floor end : ℕ) (x y : Parts) → IsTied sc floor end x → y.clocks ≡ x.clocks → y.air ≡ x.air → y.members.items ≡ map taken_at x.members.items → IsTied sc end end y
tied_taken sc floor end x y t clocks air ms =
    let here : AreParts x.air.table (facts_of (fleet_of sc)) end x.clocks x.air × IsPostedTo (facts_of (fleet_of sc)) end x.air.sent × All (IsResting x.air.table sc end end) (map taken_at x.members.items)
    = (t.parts, t.posted, all_take x.air.table sc floor end x.members.items t.rests) in
    let there : AreParts y.air.table (facts_of (fleet_of sc)) end y.clocks y.air × IsPostedTo (facts_of (fleet_of sc)) end y.air.sent × All (IsResting y.air.table sc end end) y.members.items
    = subst (λ (l : List Member). AreParts y.air.table (facts_of (fleet_of sc)) end y.clocks y.air × IsPostedTo (facts_of (fleet_of sc)) end y.air.sent × All (IsResting y.air.table sc end end) l) (sym ms)
    (subst (λ (a : AirRecord). AreParts a.table (facts_of (fleet_of sc)) end y.clocks a × IsPostedTo (facts_of (fleet_of sc)) end a.sent × All (IsResting a.table sc end end) (map taken_at x.members.items)) (sym air)
    (subst (λ (c : ClocksFacts). AreParts x.air.table (facts_of (fleet_of sc)) end c x.air × IsPostedTo (facts_of (fleet_of sc)) end x.air.sent × All (IsResting x.air.table sc end end) (map taken_at x.members.items)) (sym clocks) here)) in
    record {
      parts = there.0;
      posted = there.1;
      order = ordered sc.topo.nodes x.members.items y.members.items t.order (ap numbers ms ∙ taken_numbers x.members.items);
      rests = there.2;
    }

-- ---- before the first cycle
still_at : (b : Bool) → (not b && nat_lt 0 0) ≡ false
still_at true = refl
still_at false = refl

first_rests : (t : TableId) (sc : ScenarioOf) (k : ℕ) (m : Member) → IsScenario sc → k < sc.topo.nodes → m.runner ≡ start_of sc k → m.air ≡ first_node t (facts_of (fleet_of sc)) k → m.halted ≡ false → m.gap ≡ sc.topo.byte_time → IsResting t sc 0 0 m
first_rests t sc k m ok lt r a goes gap =
    let w : WorldFacts = facts_of (fleet_of sc) in
    let none = none_at_zero w k in
    let told : sends_passed m.runner ≡ 0 = ap sends_passed r ∙ none in
    let clock : m.air.clock ≡ 0 = ap (λ (n : NodeFacts). n.clock) a in
    let place : IsPlaced sc 0 0 (start_of sc k) = record {
      node = lt;
      at = record { scenario = refl; number = refl; noted = refl; within = omega arith; early = (λ x. absurd (false≢true x)); asks = (λ x. absurd (false≢true x)) };
      taken = inl (refl, omega arith);
    } in
    record {
      is = record {
        epoch = record { sound = ok; world = refl; rises = omega arith; span = omega arith; within = omega arith };
        place = subst (IsPlaced sc 0 0) (sym r) place;
        number = ap (λ (n : NodeFacts). n.number) a ∙ ap (λ (p : Place). p.number) (sym r);
        table = ap (λ (n : NodeFacts). n.table) a;
        world = ap (λ (n : NodeFacts). n.world) a;
        told = omega arith;
        gap = gap;
        clock = omega arith;
        passed = (let z : sends_below w.sends m.air.number m.air.clock ≡ 0 = ap (λ (n : NodeFacts). sends_below w.sends n.number n.clock) a ∙ none in omega arith);
      };
      still = subst (λ (p : Place). is_live 0 p ≡ false) (sym r) (still_at (is_some (state_at (start_of sc k)).stop));
      clock = clock;
      goes = goes;
    }

module _ (sc : ScenarioOf) (t : TableId) (airs : List NodeFacts) (ms : List Member) (ok : IsScenario sc) (nodes : AreFirstNodes t (facts_of (fleet_of sc)) airs) (same : map air_of ms ≡ airs) (all : All (IsFirst sc) ms) where
  long : length ms ≡ sc.topo.nodes
  long = sym (length-map ms air_of) ∙ ap length same ∙ nodes.0

  seat : (k : ℕ) (d : Member) → k < length ms → (get_or ms k d).air ≡ first_node t (facts_of (fleet_of sc)) k
  seat k d lt =
      let n : length airs ≡ length ms = sym (ap length same) ∙ length-map ms air_of in
      sym (get_or-map air_of ms k d d.air lt) ∙ ap (λ (l : List NodeFacts). get_or l k d.air) same ∙ nodes.1 k d.air (omega arith)

  runner : (k : ℕ) (d : Member) → k < length ms → (get_or ms k d).runner ≡ start_of sc k
  runner k d lt = (all k d lt).0 ∙ ap (λ (n : NodeFacts). start_of sc n.number) (seat k d lt)

  first_order : InOrder sc.topo.nodes ms
  first_order = record { count = long; each = (λ k d lt. let n = long in ap (λ (p : Place). p.number) (runner k d (omega arith))) }

  first_all : All (IsResting t sc 0 0) ms
  first_all k d lt = let n = long in first_rests t sc k (get_or ms k d) ok (omega arith) (runner k d lt) (seat k d lt) (all k d lt).1 (all k d lt).2

  pub first_tied : (x : Parts) → x.members.items ≡ ms → x.clocks.table ≡ t → x.clocks.world ≡ facts_of (fleet_of sc) → x.air ≡ first_record t (facts_of (fleet_of sc)) [] → IsTied sc 0 0 x
  first_tied x e table scene air =
      let own : x.air.table ≡ t = ap (λ (r : AirRecord). r.table) air in
      record {
        parts = record { words = table ∙ sym own; scene = scene; table = refl; world = ap (λ (r : AirRecord). r.world) air; floor = ap (λ (r : AirRecord). r.floor) air };
        posted = (λ k. let none = none_at_zero (facts_of (fleet_of sc)) k in omega arith);
        order = subst (InOrder sc.topo.nodes) (sym e) first_order;
        rests = subst (λ (z : TableId). All (IsResting z sc 0 0) x.members.items) (sym own) (subst (All (IsResting t sc 0 0)) (sym e) first_all);
      }

  pub few : All (λ a. a.number < sc.topo.nodes) airs
  few k d lt = let n = nodes.0 in let e = ap (λ (a : NodeFacts). a.number) (nodes.1 k d lt) in omega arith

-- at the floor, where the record is cut
pub all_go_on : (sc : ScenarioOf) (floor end : ℕ) (x : Parts) → IsTied sc floor floor x → IsEpoch (facts_of (fleet_of sc)) sc floor end → All (IsUnderWay x.air.table (facts_of (fleet_of sc)) sc x.air.floor end) x.members.items
all_go_on sc floor end x y e =
    subst (λ (n : ℕ). All (IsUnderWay x.air.table (facts_of (fleet_of sc)) sc n end) x.members.items) (sym y.parts.floor) (all_begin x.air.table sc floor end x.members.items e y.rests)
