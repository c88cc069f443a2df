-- The rows of a run that count in a profile: those of the cycles below the window's end, however far the run goes on.
use Rattle.std.proofs.Common.{◌≡◌, ◌≢◌, ℕ, zero, suc, ◌+◌, ◌-◌, ◌*◌, ◌^◌, ◌<◌, ◌≤◌, ◌&&◌, ◌||◌, ◌==◌, ◌⊎◌, inl, inr, nat_le, nat_lt, Bool, true, false, cond, List, [], ◌∷◌, ◌++◌, map, get_or, length, length-append, refl, sym, subst, ap, ◌∙◌, arith, append-nil}
use Rattle.air_base.specs.Bounds.{LAST_CYCLE}
use Rattle.std.specs.List.{All, filter, range_with_len}
use Rattle.std.specs.List.Sorted.{IsNonDecreasingBy}
use Rattle.std.proofs.lemmas.Bool.Decides.{nat_tests}
use Rattle.std.proofs.lemmas.List.Elements.{filter-append, All-append, All-cons, All-nil}
use native.Mathlib.Decide.{ℕ_discrete}
use Rattle.air_base.specs.Each.{each_below}
use Rattle.world_core.specs.Order.{Fleet, world_at, world_after, hears, node_at, rows_in, end_rows, run_rows}
use Rattle.air_base.proofs.Each.{filter_none, All_each}
use Rattle.world_core.proofs.OrderRows.{rows_from, rows_bear}
use Rattle.world_core.proofs.Sorted.{Sorted, sorted_append, sorted_cycles, sorted_level}
use Rattle.node_core.specs.declared.row.Row.{Row}
use Rattle.node_core.specs.State.{NodeState}
use Rattle.node_runner.specs.Scenario.{ScenarioOf, IsScenario, fleet_of}
use Rattle.fleet_flight.specs.Rows.{rows_upto}
use Rattle.fleet_flight.proofs.Epoch.{first_rows}
use Rattle.node_runner.proofs.Sound.{sound}
use Rattle.node_monitors.specs.Account.{Account, account}
use Rattle.node_monitors.specs.Matters.{matters, IsBelow}
use Rattle.node_monitors.specs.Tally.{TallyOf, ended, tallied, tallied_all, tallied_kind, told, untallied}
use Rattle.node_monitors.proofs.Tallies.{all-kept, ended-most, sent-few, tallied-kept, tally-account}
use Rattle.run_reports.specs.Profiles.{profile_at, profile_text, profiles_text, window_of}
use Rattle.run_reports.specs.Tallies.{tallies, tally_of}
use Rattle.run_reports.proofs.Given.{given_after}
use Rattle.run_reports.proofs.Cycles.{cycle_few, cycle_below}
use Rattle.node_monitors.specs.declared.spent.TheConstants.{AWAKE_CHARGE, SENT_CHARGE}

-- how long a list is that is made number by number
few_each : (m n : ℕ) (g : ℕ → List Row) → ((k : ℕ) → length (g k) ≤ m) → length (each_below n g) ≤ n * m
few_each m zero g few = omega arith
few_each m (suc n) g few =
    let rest = few_each m n g few in
    let last = few n in
    let long = length-append (each_below n g) (g n) in
    let more : suc n * m ≡ n * m + m = omega arith in
    omega arith

late : (t s : Bool) (cycle from end c : ℕ) → cycle ≡ c → end ≤ c → ((t || (s && nat_le from cycle)) && nat_lt cycle end) ≡ false
late true s cycle from end c e h = grind (arith, nat_tests)
late false true cycle from end c e h = grind (arith, nat_tests)
late false false cycle from end c e h = refl

equal : (a b : ℕ) → a ≡ b → (a == b) ≡ true
equal a b e = grind (arith, nat_tests)

differ : (a b : ℕ) → a ≢ b → (a == b) ≡ false
differ a b e = grind (arith, nat_tests)

pub over_at : (m n : ℕ) → true ≡ (m == n) → m ≡ n
over_at m n e = grind (arith, nat_tests)

-- at the limit the rows are those of the whole run
pub rows_whole : (f : Fleet NodeState Row) (c : ℕ) → c ≡ f.topo.limit → rows_upto f c ≡ run_rows f
rows_whole f c e =
    ap (λ (b : Bool). (world_at f c).rows ++ cond b (end_rows f) []) (equal c f.topo.limit e)
    ∙ ap (λ (t : ℕ). (world_at f t).rows ++ end_rows f) e

-- a list in order, position by position
rising : {X : Type 0} (key : X → ℕ) (xs : List X) → Sorted key xs → IsNonDecreasingBy key xs
rising key [] s i j d le lt = absurd (omega arith)
rising key (x ∷ xs) s zero zero d le lt = omega arith
rising key (x ∷ xs) s zero (suc j) d le lt = s.0 j d (omega arith)
rising key (x ∷ xs) s (suc i) zero d le lt = absurd (omega arith)
rising key (x ∷ xs) s (suc i) (suc j) d le lt = rising key xs s.1 i j d (omega arith) (omega arith)

map_same : {X Y : Type 0} (g h : X → Y) → ((x : X) → g x ≡ h x) → (xs : List X) → map g xs ≡ map h xs
map_same g h same [] = refl
map_same g h same (x ∷ xs) = λ i. same x i ∷ map_same g h same xs i

-- only rows that matter are taken
tallied_matter : (window : ℕ × ℕ) (rows : List Row) (t : TallyOf) → t.window ≡ window → tallied_all (filter (matters window) rows) t ≡ tallied_all rows t
unfolding tallied_all
tallied_matter window [] t e = refl
tallied_matter window (r ∷ rows) t e = case_of (matters window r) refl (tallied_matter window rows (tallied r t) ((tallied-kept r t).1 ∙ e))
  where
    both_false : (b : Bool) → (b && false) ≡ false
    both_false true = refl
    both_false false = refl

    case_of : (b : Bool) → matters window r ≡ b → tallied_all (filter (matters window) rows) (tallied r t) ≡ tallied_all rows (tallied r t) → tallied_all (cond b (r ∷ filter (matters window) rows) (filter (matters window) rows)) t ≡ tallied_all rows (tallied r t)
    case_of true q rest = rest
    case_of false q rest =
        let none : tallied r t ≡ t = ap (λ (b : Bool). cond b (tallied_kind r r.kind t) t) (ap (λ (w : ℕ × ℕ). (r.node == t.node) && matters w r) e ∙ ap (λ (b : Bool). (r.node == t.node) && b) q ∙ both_false (r.node == t.node)) in
        ap (tallied_all (filter (matters window) rows)) (sym none) ∙ rest

module _ (sc : ScenarioOf) (ok : IsScenario sc) where
  abbrev f : Fleet NodeState Row
  f = fleet_of sc

  -- the rows of a cycle behind the window do not count
  late_cycle : (k c : ℕ) → sc.to ≤ c → All (λ r. matters (window_of sc) r ≡ false) (rows_in f k c)
  late_cycle k c h i d lt = late _ _ _ sc.from sc.to c (rows_bear f (sound sc ok).kind k c i d lt) h

  -- nor do last rows
  last_none : filter (matters (window_of sc)) (end_rows f) ≡ []
  last_none =
      filter_none (matters (window_of sc)) (end_rows f)
      (All_each (λ r. matters (window_of sc) r ≡ false) f.topo.nodes (λ k. f.kind.end_row f.topo.limit (node_at f k f.topo.limit) ∷ [])
      (λ k lt. All-cons (λ r. matters (window_of sc) r ≡ false) _ [] refl (All-nil (λ r. matters (window_of sc) r ≡ false))))

  -- the rows from a cycle behind the window on do not count
  late_rows : (c n : ℕ) → sc.to ≤ c → filter (matters (window_of sc)) (each_below n (λ i. each_below f.topo.nodes (λ k. rows_in f k (c + i)))) ≡ []
  late_rows c n h =
      filter_none (matters (window_of sc)) _
      (All_each (λ r. matters (window_of sc) r ≡ false) n _
      (λ i lt. All_each (λ r. matters (window_of sc) r ≡ false) f.topo.nodes _ (λ k l. late_cycle k (c + i) (omega arith))))

  counted_early : (c : ℕ) → sc.to ≤ c → c ≤ sc.topo.limit → filter (matters (window_of sc)) (world_at f c).rows ≡ filter (matters (window_of sc)) (run_rows f)
  counted_early c h le =
      let n : ℕ = sc.topo.limit - c in
      let e : c + n ≡ sc.topo.limit = omega arith in
      let p = matters (window_of sc) in
      let later : (world_at f sc.topo.limit).rows ≡ (world_at f c).rows ++ each_below n (λ i. each_below f.topo.nodes (λ k. rows_in f k (c + i))) =
      ap (λ (t : ℕ). (world_at f t).rows) (sym e) ∙ rows_from f c n (omega arith) in
      sym
      (filter-append p (world_at f sc.topo.limit).rows (end_rows f)
      ∙ ap (λ (l : List Row). filter p (world_at f sc.topo.limit).rows ++ l) last_none ∙ append-nil (filter p (world_at f sc.topo.limit).rows)
      ∙ ap (filter p) later ∙ filter-append p (world_at f c).rows _
      ∙ ap (λ (l : List Row). filter p (world_at f c).rows ++ l) (late_rows c n h) ∙ append-nil (filter p (world_at f c).rows))

  counted_case : (c : ℕ) → c ≤ sc.topo.limit → Dec (c ≡ sc.topo.limit) → (c ≡ sc.topo.limit) ⊎ (sc.to ≤ c)
      → filter (matters (window_of sc)) (rows_upto f c) ≡ filter (matters (window_of sc)) (run_rows f)
  counted_case c le (yes e) over = ap (filter (matters (window_of sc))) (rows_whole f c e)
  counted_case c le (no d) (inl e) = absurd (d e)
  counted_case c le (no d) (inr h) =
      ap (filter (matters (window_of sc)))
      (ap (λ (b : Bool). (world_at f c).rows ++ cond b (end_rows f) []) (differ c sc.topo.limit d) ∙ append-nil (world_at f c).rows)
      ∙ counted_early c h le

  -- where a run is over, or has come to the window's end, all rows that count are there
  pub counted : (c : ℕ) → c ≤ sc.topo.limit → (c ≡ sc.topo.limit) ⊎ (sc.to ≤ c) → filter (matters (window_of sc)) (rows_upto f c) ≡ filter (matters (window_of sc)) (run_rows f)
  counted c le over = counted_case c le (ℕ_discrete c sc.topo.limit) over

  -- the rows of the whole run from its first cycle on
  whole : (world_at f sc.topo.limit).rows ≡ each_below sc.topo.limit (λ i. each_below f.topo.nodes (λ k. rows_in f k (0 + i)))
  unfolding world_after
  whole =
      let e : 0 + sc.topo.limit ≡ sc.topo.limit = omega arith in
      ap (λ (t : ℕ). (world_at f t).rows) (sym e) ∙ rows_from f 0 sc.topo.limit (omega arith)

  below_cycle : (k t : ℕ) → All (IsBelow sc.to) (rows_in f k t)
  below_cycle k t = cycle_below sc.to t (node_at f k t) (hears f t (world_at f t) k) (given_after sc k (t - f.start)).to

  below_run : All (IsBelow sc.to) (run_rows f)
  below_run =
      All-append (IsBelow sc.to) (world_at f sc.topo.limit).rows (end_rows f)
      (subst (λ (l : List Row). All (IsBelow sc.to) l) (sym whole)
      (All_each (IsBelow sc.to) sc.topo.limit _ (λ i lt. All_each (IsBelow sc.to) f.topo.nodes _ (λ k l. below_cycle k (0 + i)))))
      (All_each (IsBelow sc.to) f.topo.nodes _ (λ k lt. All-cons (IsBelow sc.to) _ [] (λ e. absurd (cc)) (All-nil (IsBelow sc.to))))

  -- the rows of a run are in order of cycle
  rows_rise : IsNonDecreasingBy (λ r. r.cycle) (run_rows f)
  rows_rise =
      let bears = λ (k i : ℕ). rows_bear f (sound sc ok).kind k (0 + i) in
      let early : All (λ r. r.cycle ≤ sc.topo.limit) (world_at f sc.topo.limit).rows =
      subst (λ (l : List Row). All (λ r. r.cycle ≤ sc.topo.limit) l) (sym whole)
      (All_each (λ r. r.cycle ≤ sc.topo.limit) sc.topo.limit _
      (λ i lt. All_each (λ r. r.cycle ≤ sc.topo.limit) f.topo.nodes _ (λ k l j d h. let e : (get_or (rows_in f k (0 + i)) j d).cycle ≡ 0 + i = bears k i j d h in omega arith))) in
      let level : All (λ r. r.cycle ≡ sc.topo.limit) (end_rows f) =
      All_each (λ r. r.cycle ≡ sc.topo.limit) f.topo.nodes _ (λ k lt. All-cons (λ r. r.cycle ≡ sc.topo.limit) _ [] refl (All-nil (λ r. r.cycle ≡ sc.topo.limit))) in
      let sorted : Sorted (λ (r : Row). r.cycle) (world_at f sc.topo.limit).rows =
      subst (Sorted (λ (r : Row). r.cycle)) (sym whole) (sorted_cycles (λ (r : Row). r.cycle) 0 (λ k i. rows_in f k (0 + i)) bears f.topo.nodes sc.topo.limit) in
      rising (λ (r : Row). r.cycle) (run_rows f)
      (sorted_append (λ (r : Row). r.cycle) sc.topo.limit (world_at f sc.topo.limit).rows (end_rows f) early
      (λ j d h. let e : (get_or (end_rows f) j d).cycle ≡ sc.topo.limit = level j d h in omega arith)
      sorted (sorted_level (λ (r : Row). r.cycle) sc.topo.limit (end_rows f) level))

  few_rows : length (run_rows f) ≤ sc.topo.limit * 256 + 64
  few_rows =
      let nodes : sc.topo.nodes ≤ 64 = ok.topo.ranges.nodes_to in
      let cycle = λ (i : ℕ). few_each 4 f.topo.nodes (λ k. rows_in f k (0 + i)) (λ k. cycle_few (0 + i) (node_at f k (0 + i)) (hears f (0 + i) (world_at f (0 + i)) k)) in
      let all = few_each 256 sc.topo.limit (λ i. each_below f.topo.nodes (λ k. rows_in f k (0 + i))) (λ i. let c = cycle i in omega arith) in
      let last = few_each 1 f.topo.nodes (λ k. f.kind.end_row f.topo.limit (node_at f k f.topo.limit) ∷ []) (λ k. omega arith) in
      let long = length-append (world_at f sc.topo.limit).rows (end_rows f) in
      let same = ap length whole in
      omega arith

  few : length (run_rows f) ≤ 281474976710656 + 64
  few =
      let limit : sc.topo.limit ≤ LAST_CYCLE = ok.topo.ranges.limit_to in
      let rows = few_rows in
      omega arith

  -- ---- the tallies of a run

  -- what was taken up to the window's end is what counts of the whole run
  tally_whole : (c k : ℕ) → sc.to ≤ c → c ≤ sc.topo.limit → tally_of (window_of sc) (rows_upto f c) k ≡ tally_of (window_of sc) (run_rows f) k
  tally_whole c k over le =
      sym (tallied_matter (window_of sc) (rows_upto f c) (untallied k (window_of sc)) refl)
      ∙ ap (λ (l : List Row). tallied_all l (untallied k (window_of sc))) (counted c le (inr over))
      ∙ tallied_matter (window_of sc) (run_rows f) (untallied k (window_of sc)) refl

  pub tallies_whole : (window : ℕ × ℕ) (c : ℕ) (all : List TallyOf) → window.0 ≡ sc.from → window.1 ≡ sc.to → window.1 ≤ c → c ≤ sc.topo.limit
      → all ≡ tallies sc.topo.nodes (window_of sc) (rows_upto f c) → all ≡ tallies sc.topo.nodes (window_of sc) (run_rows f)
  unfolding tallies
  tallies_whole window c all from to over le is =
      is ∙ map_same (tally_of (window_of sc) (rows_upto f c)) (tally_of (window_of sc) (run_rows f)) (λ k. tally_whole c k (omega arith) le) (range_with_len 0 sc.topo.nodes)

  -- before the first row
  pub tallies_first : (c : ℕ) (all : List TallyOf) → c ≡ 0 → all ≡ tallies sc.topo.nodes (window_of sc) [] → all ≡ tallies sc.topo.nodes (window_of sc) (rows_upto f c)
  tallies_first c all e is =
      is ∙ ap (tallies sc.topo.nodes (window_of sc)) (sym (ap (rows_upto f) e ∙ first_rows (fleet_of sc) (let x = ok.topo.ranges.limit_from in omega arith)))

  -- the charge fits
  pub tally_fits : (k : ℕ) (t : TallyOf) → sc.to ≤ sc.topo.limit → t ≡ tally_of (window_of sc) (run_rows f) k → AWAKE_CHARGE * (t.window.1 - t.window.0) + (ended t).asleep + SENT_CHARGE * t.sent < 2 ^ 64
  tally_fits k t within e = rw e fits
    where
      fits : AWAKE_CHARGE * ((tally_of (window_of sc) (run_rows f) k).window.1 - (tally_of (window_of sc) (run_rows f) k).window.0) + (ended (tally_of (window_of sc) (run_rows f) k)).asleep
          + SENT_CHARGE * (tally_of (window_of sc) (run_rows f) k).sent < 2 ^ 64
      fits =
          let limit : sc.topo.limit ≤ LAST_CYCLE = ok.topo.ranges.limit_to in
          let rows = few in
          let narrow : sc.to < 2 ^ 64 = omega arith in
          let short : length (run_rows f) < 2 ^ 64 - 1 = omega arith in
          let asleep = ended-most k (window_of sc) (run_rows f) short narrow rows_rise below_run in
          let sent = sent-few k (window_of sc) (run_rows f) short narrow rows_rise below_run in
          let same = (all-kept (run_rows f) (untallied k (window_of sc))).1 in
          let from : (tally_of (window_of sc) (run_rows f) k).window.0 ≡ sc.from = ap (λ (w : ℕ × ℕ). w.0) same in
          let to : (tally_of (window_of sc) (run_rows f) k).window.1 ≡ sc.to = ap (λ (w : ℕ × ℕ). w.1) same in
          omega arith

  -- the profile of a node's tally is its account
  pub tally_told : (k : ℕ) (t : TallyOf) (a : Account) → sc.to ≤ sc.topo.limit → t ≡ tally_of (window_of sc) (run_rows f) k → length (ended t).at ≤ 65536 → length (ended t).entered ≤ 65536
      → a ≡ told (ended t) → a ≡ account k (window_of sc) (run_rows f)
  tally_told k t a within e at entered is =
      let limit : sc.topo.limit ≤ LAST_CYCLE = ok.topo.ranges.limit_to in
      let rows = few in
      let narrow : sc.to < 2 ^ 64 = omega arith in
      let short : length (run_rows f) < 2 ^ 64 - 1 = omega arith in
      is ∙ ap (λ (u : TallyOf). told (ended u)) e
      ∙ tally-account k (window_of sc) (run_rows f) short narrow rows_rise below_run
      (subst (λ (u : TallyOf). length (ended u).at ≤ 65536) e at) (subst (λ (u : TallyOf). length (ended u).entered ≤ 65536) e entered)

  -- one node's profile more
  pub profile_next : (k : ℕ) (a : Account) (before after : List ℕ) → a ≡ account k (window_of sc) (run_rows f) → before ≡ each_below k (profile_at (window_of sc) (run_rows f)) → after ≡ before ++ profile_text k a
      → after ≡ each_below (suc k) (profile_at (window_of sc) (run_rows f))
  unfolding profile_at
  profile_next k a before after is so more = more ∙ (λ i. so i ++ profile_text k (is i))

  pub profiles_all : (nodes : ℕ) (text : List ℕ) → nodes ≡ sc.topo.nodes → text ≡ each_below nodes (profile_at (window_of sc) (run_rows f)) → text ≡ profiles_text sc
  unfolding profiles_text
  profiles_all nodes text count is = is ∙ ap (λ (n : ℕ). each_below n (profile_at (window_of sc) (run_rows f))) count
