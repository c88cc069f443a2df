-- The bounds of a state's text are those from which a node can be restored.
use Rattle.std.proofs.Common.{◌≡◌, ℕ, ◌<◌, ◌≤◌, Bool, true, false, eqb, ltb, ◌==◌, ◌&&◌, ◌||◌, not, List, [], ◌∷◌, length, drop, if◌then◌else◌, Option, Some, None, Result, Ok, Err, refl, sym, ap, ◌∙◌, arith, inl, inr}
use Rattle.std.specs.Prelude.{IfOk, is_none}
use Rattle.std.specs.List.{All, AllByRecursion, position}
use Rattle.std.proofs.lemmas.Bool.{and_from, and_parts, cases_eq, cases_lt, eq-eqb, eqb-true, ltb-true}
use Rattle.std.proofs.lemmas.List.{get_or-take, length-drop, take_all}
use Rattle.std.proofs.lemmas.List.Elements.{All-cons, All-nil, All-weaker}
use Rattle.std.proofs.lemmas.List.Folds.{list_all-append}
use Rattle.std.proofs.lemmas.List.Kept.{AllPairs-cons}
use Rattle.world_core.specs.Chain.{Rises}
use Rattle.world_core.specs.Topology.{Topology}
use Rattle.air_base.specs.declared.air.Send.{Send}
use Rattle.device_base.specs.Numbers.{all_fit, part}
use Rattle.device_base.proofs.Places.{none_outside, part-part}
use Rattle.board_io.specs.Kept.{first_refused}
use Rattle.board_io.specs.Saved.{fits as fits_board, ports_fit, timers_fit}
use Rattle.board_io.proofs.OneBoard.{both-parts}
use Rattle.node_core.specs.Numbers.{core_fits, ends_from, first_outside, fits}
use Rattle.node_core.specs.Restored.{fault_by}
use Rattle.node_runner.specs.Scenario.{ScenarioOf}
use Rattle.state_text.specs.Bounds.{HasNode, IsState, is_kept, follows, kept_behind, are_sends}
use Rattle.state_text.specs.Text.{NodeOf, StateOf, core_of, ports_of, state_text, timers_of}
use Rattle.state_text.specs.declared.fault.StateFault.{StateFault}
use Rattle.checkpoint_text.specs.Onward.{CanResume, IsFit}
use Rattle.checkpoint_text.specs.State.{HasBytes, rules_of}

-- ---- a node's numbers are within their bounds where those of its three lines are

abbrev IsWithin : ℕ → List ℕ → Bool
IsWithin cycle n =
    all_fit (core_fits (core_of n)) && (all_fit (timers_fit (timers_of n)) && all_fit (ports_fit (ends_from cycle (core_of n)) (ports_of n)))

lines_fit : (cycle : ℕ) (n : List ℕ) → length n ≡ 108 → all_fit (fits cycle n) ≡ IsWithin cycle n
unfolding fits
lines_fit cycle n many =
    let devices = part 41 67 n in
    let timers : part 0 38 devices ≡ timers_of n = part-part n 41 67 0 38 (omega arith) in
    let rest : length (drop 79 n) ≡ 29 = omega (arith, many, length-drop 79 n) in
    let ports : part 38 29 devices ≡ ports_of n = part-part n 41 67 38 29 (omega arith) ∙ take_all 29 (drop 79 n) (omega (arith, rest)) in
    let stop : ends_from cycle n ≡ ends_from cycle (core_of n) = ap (λ c. if c == 0 then cycle else 0) (sym (get_or-take 41 n 39 0 (omega arith))) in
    list_all-append (λ fit. fit) (core_fits (part 0 41 n)) (fits_board (ends_from cycle n) devices)
    ∙ ap (λ x. all_fit (core_fits (part 0 41 n)) && x) (both-parts (ends_from cycle n) devices ∙ (λ i. all_fit (timers_fit (timers i)) && all_fit (ports_fit (stop i) (ports i))))

-- ---- a node

is_none_none : {X : Type 0} (o : Option X) → is_none o ≡ true → o ≡ None
is_none_none None h = refl
is_none_none (Some x) h = absurd cc

none_outside_of : (tests : List Bool) → all_fit tests ≡ true → position not tests ≡ None
none_outside_of tests h = is_none_none (position not tests) (none_outside tests ∙ h)

is_fit : (sc : ScenarioOf) (cycle : ℕ) (n : NodeOf) → HasNode (rules_of sc) cycle n → IsFit cycle n
is_fit sc cycle n h =
    let lines = and_from (all_fit (core_fits (core_of n.numbers))) _ h.core (and_from (all_fit (timers_fit (timers_of n.numbers))) _ h.timers h.ports) in
    let numbers : first_outside cycle n.numbers ≡ None = none_outside_of (fits cycle n.numbers) (lines_fit cycle n.numbers h.count ∙ lines) in
    let io = is_none_none (first_refused n.io) (and_parts (eqb (length n.io) 224) (is_none (first_refused n.io)) h.io).1 in
    record {
      count = h.count;
      io_count = h.io_count;
      sram_count = h.sram_count;
      fault = ap (λ o. fault_by o (first_refused n.io)) numbers ∙ ap (fault_by None) io;
    }

none_of_both : (o p : Option ℕ) → fault_by o p ≡ None → (o ≡ None) × (p ≡ None)
none_of_both None None h = (refl, refl)
none_of_both None (Some k) h = absurd cc
none_of_both (Some place) p h = absurd cc

pub has_node : (sc : ScenarioOf) (cycle : ℕ) (n : NodeOf) → IsFit cycle n → HasBytes n → HasNode (rules_of sc) cycle n
has_node sc cycle n h b =
    let fit = none_of_both (first_outside cycle n.numbers) (first_refused n.io) h.fault in
    let all : all_fit (fits cycle n.numbers) ≡ true = sym (none_outside (fits cycle n.numbers)) ∙ ap is_none fit.0 in
    let lines = and_parts _ _ (sym (lines_fit cycle n.numbers h.count) ∙ all) in
    let devices = and_parts _ _ lines.1 in
    record {
      count = h.count;
      wide = b.wide;
      core = lines.0;
      timers = devices.0;
      ports = devices.1;
      io_count = h.io_count;
      io_bytes = b.io;
      io = and_from _ _ (eq-eqb (length n.io) 224 h.io_count) (ap is_none fit.1);
      sram_count = h.sram_count;
      sram_bytes = b.sram;
    }

are_fit : (sc : ScenarioOf) (cycle : ℕ) (ns : List NodeOf) → AllByRecursion (HasNode (rules_of sc) cycle) ns → All (IsFit cycle) ns
are_fit sc cycle [] h = All-nil (IsFit cycle)
are_fit sc cycle (n ∷ ns) h = All-cons (IsFit cycle) n ns (is_fit sc cycle n h.0) (are_fit sc cycle ns h.1)

-- ---- sends

abbrev pub IsInside : Topology → ℕ → Send → Type 0
IsInside t cycle x = (x.node < t.nodes) × (x.cycle < cycle)

inside : (t : Topology) (cycle : ℕ) (x : Send) → is_kept t cycle x ≡ true → IsInside t cycle x
inside t cycle x h =
    let node = and_parts (ltb x.node t.nodes) _ h in
    let at = and_parts (ltb x.cycle cycle) _ node.1 in
    (ltb-true x.node t.nodes node.0, ltb-true x.cycle cycle at.0)

pub are_inside : (t : Topology) (cycle : ℕ) (before : Option Send) (xs : List Send) → are_sends t cycle before xs ≡ true → All (IsInside t cycle) xs
are_inside t cycle before [] h = All-nil (IsInside t cycle)
are_inside t cycle before (x ∷ xs) h =
    let both = and_parts (kept_behind t cycle before x) (are_sends t cycle (Some x) xs) h in
    let kept = and_parts (is_kept t cycle x) (follows before x) both.0 in
    All-cons (IsInside t cycle) x xs (inside t cycle x kept.0) (are_inside t cycle (Some x) xs both.1)

-- a send behind another one: not of the same node in the same cycle, and in no earlier cycle
pub record IsBehind (y x : Send) : Type 0 where
  pub later : y.cycle ≤ x.cycle
  pub same : y.cycle ≡ x.cycle → y.node < x.node

follows_behind : (y x : Send) → follows (Some y) x ≡ true → IsBehind y x
follows_behind y x h = go (ltb y.cycle x.cycle) refl h
  where
    go : (b : Bool) → ltb y.cycle x.cycle ≡ b → (b || (eqb y.cycle x.cycle && ltb y.node x.node)) ≡ true → IsBehind y x
    go true e k =
        let less = ltb-true y.cycle x.cycle e in
        record { later = omega (arith, less); same = λ q. absurd (omega (arith, less, q)) }
    go false e k =
        let both = and_parts (eqb y.cycle x.cycle) (ltb y.node x.node) k in
        let equal = eqb-true y.cycle x.cycle both.0 in
        let above = ltb-true y.node x.node both.1 in
        record { later = omega (arith, equal); same = λ q. above }

behind_behind : (x y z : Send) → IsBehind x y → IsBehind y z → IsBehind x z
behind_behind x y z a b =
    let p = a.later in
    let q = b.later in
    record {
      later = omega (arith, p, q);
      same = λ e.
          let first = a.same (omega (arith, p, q, e)) in
          let second = b.same (omega (arith, p, q, e)) in
          omega (arith, first, second);
    }

rises : (y z : Send) → IsBehind y z → y.node ≡ z.node → y.cycle < z.cycle
rises y z b same =
    let later = b.later in
    elim (cases_eq y.cycle z.cycle) [
      | inl equal ↦
          let above = b.same equal in
          absurd (omega (arith, above, same))
      | inr apart ↦ elim (cases_lt y.cycle z.cycle) [
        | inl less ↦ less
        | inr more ↦ absurd (apart (omega (arith, more, later)))
      ]
    ]

later_all : (t : Topology) (cycle : ℕ) (y x : Send) (xs : List Send) → IsBehind y x → are_sends t cycle (Some x) xs ≡ true → All (IsBehind y) xs
later_all t cycle y x [] a h = All-nil (IsBehind y)
later_all t cycle y x (z ∷ xs) a h =
    let both = and_parts (kept_behind t cycle (Some x) z) (are_sends t cycle (Some z) xs) h in
    let kept = and_parts (is_kept t cycle z) (follows (Some x) z) both.0 in
    let b = behind_behind y x z a (follows_behind x z kept.1) in
    All-cons (IsBehind y) z xs b (later_all t cycle y z xs b both.1)

all_behind : (t : Topology) (cycle : ℕ) (x : Send) (xs : List Send) → are_sends t cycle (Some x) xs ≡ true → All (IsBehind x) xs
all_behind t cycle x [] h = All-nil (IsBehind x)
all_behind t cycle x (z ∷ xs) h =
    let both = and_parts (kept_behind t cycle (Some x) z) (are_sends t cycle (Some z) xs) h in
    let kept = and_parts (is_kept t cycle z) (follows (Some x) z) both.0 in
    let b = follows_behind x z kept.1 in
    All-cons (IsBehind x) z xs b (later_all t cycle x z xs b both.1)

-- each is behind all before it
pub are_behind : (t : Topology) (cycle : ℕ) (before : Option Send) (x : Send) (xs : List Send) → are_sends t cycle before (x ∷ xs) ≡ true → All (IsBehind x) xs × (are_sends t cycle (Some x) xs ≡ true)
are_behind t cycle before x xs h =
    let both = and_parts (kept_behind t cycle before x) (are_sends t cycle (Some x) xs) h in
    (all_behind t cycle x xs both.1, both.1)

they_rise : (t : Topology) (cycle : ℕ) (before : Option Send) (xs : List Send) → are_sends t cycle before xs ≡ true → Rises xs
they_rise t cycle before [] h = λ i j d low high. absurd (omega (arith, low, high))
they_rise t cycle before (x ∷ xs) h =
    let behind = are_behind t cycle before x xs h in
    AllPairs-cons (λ (x : Send) (y : Send). x.node ≡ y.node → x.cycle < y.cycle) x xs
    (All-weaker (IsBehind x) (λ z. x.node ≡ z.node → x.cycle < z.cycle) (rises x) xs behind.0) (they_rise t cycle (Some x) xs behind.1)

-- ---- the state

pub can_resume : (sc : ScenarioOf) (st : StateOf) → IsState (rules_of sc) st → CanResume sc st
can_resume sc st h =
    let cut = and_parts _ _ h.cycle in
    let late = and_parts _ _ cut.1 in
    record {
      early = ltb-true st.cycle sc.topo.limit late.1;
      count = h.count;
      nodes = are_fit sc st.cycle st.nodes h.nodes;
      sends = are_inside sc.topo st.cycle None st.sends h.sends;
      rises = they_rise sc.topo st.cycle None st.sends h.sends;
      order = h.sends;
    }

pub if_can_resume : (sc : ScenarioOf) (text : List ℕ) (read : Result StateOf StateFault) → IfOk read (λ st. IsState (rules_of sc) st × (text ≡ state_text st)) → IfOk read (λ st. CanResume sc st)
if_can_resume sc text (Ok st) h = can_resume sc st h.0
if_can_resume sc text (Err e) h = tt
