-- A sample that is reached hears what the world gives it, however many sends come later.
use Rattle.std.proofs.Common.{◌≡◌, ℕ, zero, suc, ◌+◌, ◌-◌, ◌≤◌, Bool, true, false, cond, ◌&&◌, ◌==◌, List, [], ◌∷◌, ◌++◌, length, take, drop, refl, sym, subst, ◌∙◌, ap, arith, get_or, append-nil, take-append-drop}
use Rattle.std.specs.Prelude.{nat_le, nat_lt, not, ◌||◌, slice_index_or}
use Rattle.std.specs.List.{All, filter, list_any}
use Rattle.std.proofs.lemmas.List.Elements.{filter-append}
use Rattle.std.proofs.lemmas.List.Folds.{Any-from_list_any, list_any-from_Any}
use Rattle.std.proofs.lemmas.Bool.Decides.{nat_tests}
use Rattle.air_base.specs.declared.air.Send.{Send}
use Rattle.world_core.specs.declared.spans.Span.{Span}
use Rattle.world_core.specs.declared.world.WorldFacts.{WorldFacts}
use Rattle.world_core.specs.Topology.{Topology, IsTopology, is_linked, is_open, is_open_in, is_in_time, is_reached_in, is_needed, latency_of, place_in, greatest, reach, has_span}
use Rattle.world_core.specs.Heard.{is_audible, age_of, heard}
use Rattle.world_core.specs.Sends.{sends_of, sends_below}
use Rattle.world_core.specs.Posted.{sent_of, AllPostedFor, IsWhole}
use Rattle.world_core.specs.Kept.{is_kept, IsPosted}
use Rattle.world_core.specs.Settled.{truth}
use Rattle.world_core.specs.Lawful.{IsLawful}
use Rattle.world_core.proofs.Spaced.{is_spaced, spaced}
use Rattle.world_core.proofs.Order.{SameByNode, heard_same, Only, only_own}

module _ {X : Type 0} where
  filter_cond : (p : X → Bool) (b : Bool) (x : X) (xs : List X) → filter p (cond b (x ∷ xs) xs) ≡ cond b (cond (p x) (x ∷ filter p xs) (filter p xs)) (filter p xs)
  filter_cond p true x xs = refl
  filter_cond p false x xs = refl

  cond_swap : (a b : Bool) (x : X) (m n : List X) → m ≡ n → cond a (cond b (x ∷ m) m) m ≡ cond b (cond a (x ∷ n) n) n
  cond_swap true true x m n e = ap (λ (l : List X). x ∷ l) e
  cond_swap true false x m n e = e
  cond_swap false true x m n e = e
  cond_swap false false x m n e = e

  pub filter_swap : (p q : X → Bool) (xs : List X) → filter p (filter q xs) ≡ filter q (filter p xs)
  filter_swap p q [] = refl
  filter_swap p q (x ∷ xs) =
      filter_cond p (q x) x (filter q xs) ∙ cond_swap (q x) (p x) x (filter p (filter q xs)) (filter q (filter p xs)) (filter_swap p q xs) ∙ sym (filter_cond q (p x) x (filter p xs))

  filter_off : (p : X → Bool) (x : X) (xs : List X) → p x ≡ false → filter p (x ∷ xs) ≡ filter p xs
  filter_off p x xs e = ap (λ (b : Bool). cond b (x ∷ filter p xs) (filter p xs)) e

  filter_on : (p : X → Bool) (x : X) (xs : List X) → p x ≡ true → filter p (x ∷ xs) ≡ x ∷ filter p xs
  filter_on p x xs e = ap (λ (b : Bool). cond b (x ∷ filter p xs) (filter p xs)) e

from_c : (c gap from : ℕ) (x : Send) (xs : List Send) → is_spaced gap from (x ∷ xs) ≡ true → c ≤ x.cycle → is_spaced gap c (x ∷ xs) ≡ true
from_c c gap from x xs e h = grind (arith, nat_tests)

-- of node k, nothing passes from the cycle c on
module _ (pass : Send → Bool) (k c : ℕ) (late : (x : Send) → x.node ≡ k → c ≤ x.cycle → pass x ≡ false) where
  all_late : (gap from n : ℕ) (l : List Send) → Only k l → c ≤ from → is_spaced gap from l ≡ true → filter pass (drop n l) ≡ []
  all_late gap from zero [] o h e = refl
  all_late gap from (suc n) [] o h e = refl
  all_late gap from zero (x ∷ xs) o h e =
      let a : (from ≤ x.cycle) × (is_spaced gap (x.cycle + gap) xs ≡ true) = grind (arith, nat_tests) in
      filter_off pass x xs (late x o.0 (omega arith)) ∙ all_late gap (x.cycle + gap) zero xs o.1 (omega arith) a.1
  all_late gap from (suc n) (x ∷ xs) o h e =
      let a : (from ≤ x.cycle) × (is_spaced gap (x.cycle + gap) xs ≡ true) = grind (arith, nat_tests) in
      all_late gap (x.cycle + gap) n xs o.1 (omega arith) a.1

  late_case : (gap from n : ℕ) (x : Send) (xs : List Send) (b : Bool) → nat_lt x.cycle c ≡ b → Only k (x ∷ xs) → is_spaced gap from (x ∷ xs) ≡ true
      → length (filter (λ y. nat_lt y.cycle c) (x ∷ xs)) ≤ n
      → ((m : ℕ) → length (filter (λ y. nat_lt y.cycle c) xs) ≤ m → filter pass (drop m xs) ≡ [])
      → filter pass (drop n (x ∷ xs)) ≡ []
  late_case gap from n x xs false t o e h next =
      let a : (c ≤ x.cycle) × (from ≤ x.cycle) = grind (arith, nat_tests) in
      all_late gap c n (x ∷ xs) o (omega arith) (from_c c gap from x xs e a.0)
  late_case gap from zero x xs true t o e h next =
      let i = ap length (filter_on (λ (y : Send). nat_lt y.cycle c) x xs t) in absurd (omega arith)
  late_case gap from (suc n) x xs true t o e h next =
      let i = ap length (filter_on (λ (y : Send). nat_lt y.cycle c) x xs t) in next n (omega arith)

  pub late_drop : (gap from n : ℕ) (l : List Send) → Only k l → is_spaced gap from l ≡ true → length (filter (λ y. nat_lt y.cycle c) l) ≤ n → filter pass (drop n l) ≡ []
  late_drop gap from zero [] o e h = refl
  late_drop gap from (suc n) [] o e h = refl
  late_drop gap from n (x ∷ xs) o e h =
      let a : is_spaced gap (x.cycle + gap) xs ≡ true = grind (arith, nat_tests) in
      late_case gap from n x xs (nat_lt x.cycle c) refl o e h (λ m i. late_drop gap (x.cycle + gap) m xs o.1 a i)

  -- so it passes only what stands among the first n
  pub early : (gap from n : ℕ) (l : List Send) → Only k l → is_spaced gap from l ≡ true → length (filter (λ y. nat_lt y.cycle c) l) ≤ n → filter pass (take n l) ≡ filter pass l
  early gap from n l o e h =
      sym (append-nil (filter pass (take n l))) ∙ ap (λ (r : List Send). filter pass (take n l) ++ r) (sym (late_drop gap from n l o e h))
      ∙ sym (filter-append pass (take n l) (drop n l)) ∙ ap (filter pass) (take-append-drop n l)

-- ---- the two facts on what is heard in time
and_false : (b : Bool) → (b && false) ≡ false
and_false true = refl
and_false false = refl

-- a cycle that is open and heard lies in a span that is reached
hit_of : (p l d s c : ℕ) (y : Span) → ((y.link == p) && (nat_le y.from c && nat_lt c y.until)) ≡ true → is_in_time l d s c ≡ true → ((y.link == p) && (nat_le (y.from + l) s && nat_lt (s + 1) (y.until + l + d))) ≡ true
hit_of p l d s c y o e = grind (arith, nat_tests)

reached_case : (xs : List Span) (p l d s c : ℕ) (b : Bool) → (not b || list_any (λ y. (y.link == p) && (nat_le y.from c && nat_lt c y.until)) xs) ≡ true → is_in_time l d s c ≡ true
    → cond b (list_any (λ y. (y.link == p) && (nat_le (y.from + l) s && nat_lt (s + 1) (y.until + l + d))) xs) (nat_le l s) ≡ true
reached_case xs p l d s c false o e = grind (arith, nat_tests)
reached_case xs p l d s c true o e =
    let (k, y, lt, at, q) = Any-from_list_any (λ (y : Span). (y.link == p) && (nat_le y.from c && nat_lt c y.until)) xs o in
    list_any-from_Any (λ (y : Span). (y.link == p) && (nat_le (y.from + l) s && nat_lt (s + 1) (y.until + l + d))) xs (k, y, lt, at, hit_of p l d s c y q e)

pub hears_reached : (xs : List Span) (p l d s c : ℕ) → is_open_in xs p c ≡ true → is_in_time l d s c ≡ true → is_reached_in xs p l d s ≡ true
hears_reached xs p l d s c o e = reached_case xs p l d s c (has_span xs p) o e

not_needed_case : (linked reached opened in_time : Bool) → (opened ≡ true → in_time ≡ true → reached ≡ true) → (linked && reached) ≡ false → (linked && (opened && in_time)) ≡ false
not_needed_case false reached opened in_time h e = refl
not_needed_case true reached false in_time h e = refl
not_needed_case true reached true false h e = refl
not_needed_case true reached true true h e = sym (h refl refl) ∙ e

too_late_case : (linked opened : Bool) (l s t d : ℕ) → s - l + 1 ≤ t → (linked && (opened && is_in_time l d s t)) ≡ false
too_late_case false opened l s t d h = refl
too_late_case true false l s t d h = refl
too_late_case true true l s t d h = grind (arith, nat_tests)

-- of a node that is not needed nothing is heard
pub not_needed : (t : Topology) (j s : ℕ) (x : Send) → is_needed t x.node j s ≡ false → is_audible t j s x ≡ false
not_needed t j s x e =
    not_needed_case (is_linked t x.node j) (is_reached_in t.spans (place_in t.links x.node j) (latency_of t x.node j) t.byte_time s) (is_open t x.node j x.cycle) (is_in_time (latency_of t x.node j) t.byte_time s x.cycle)
    (hears_reached t.spans (place_in t.links x.node j) (latency_of t x.node j) t.byte_time s x.cycle) e

-- of no node anything of cycle s - L + 1 or later is heard
pub too_late : (t : Topology) (j s : ℕ) (x : Send) → s - latency_of t x.node j + 1 ≤ x.cycle → is_audible t j s x ≡ false
too_late t j s x h = too_late_case (is_linked t x.node j) (is_open t x.node j x.cycle) (latency_of t x.node j) s x.cycle t.byte_time h

-- what is heard at the floor or later is kept
keeps_case : (linked opened : Bool) (l r d f s t : ℕ) → l ≤ r → f ≤ s → nat_lt f (t + r + d) ≡ false → (linked && (opened && is_in_time l d s t)) ≡ false
keeps_case false opened l r d f s t le h e = refl
keeps_case true false l r d f s t le h e = refl
keeps_case true true l r d f s t le h e = grind (arith, nat_tests)

greatest_base : (xs : List ℕ) (n : ℕ) → n ≤ greatest xs n
greatest_base [] n = omega arith
greatest_base (x ∷ xs) n = let a = greatest_base xs n in omega arith

greatest_at : (xs : List ℕ) (i n : ℕ) → get_or xs i n ≤ greatest xs n
greatest_at [] i n = omega arith
greatest_at (x ∷ xs) zero n = omega arith
greatest_at (x ∷ xs) (suc i) n = let a = greatest_at xs i n in omega arith

number_from : (xs : List ℕ) (p n : ℕ) → All (λ m. (1 ≤ m) × (m ≤ 65535)) xs → 1 ≤ n → 1 ≤ slice_index_or xs p n
number_from [] p n all h = h
number_from (x ∷ xs) zero n all h = (all 0 x (omega arith)).0
number_from (x ∷ xs) (suc p) n all h = number_from xs p n (λ i d lt. all (suc i) d (omega arith)) h

-- each latency is at least 1, so that nothing is heard in the cycle in which it is sent
pub latency_from : (t : Topology) (k j : ℕ) → IsTopology t → 1 ≤ latency_of t k j
latency_from t k j law = number_from t.own (place_in t.links k j) t.latency law.ranges.own_in law.ranges.latency_from

pub latency-le-reach : (t : Topology) (k j : ℕ) → latency_of t k j ≤ reach t
latency-le-reach t k j = greatest_at t.own (place_in t.links k j) t.latency

pub not_kept : (t : Topology) (j s f : ℕ) (x : Send) → f ≤ s → is_kept t f x ≡ false → is_audible t j s x ≡ false
not_kept t j s f x h e = keeps_case (is_linked t x.node j) (is_open t x.node j x.cycle) (latency_of t x.node j) (reach t) t.byte_time f s x.cycle (latency-le-reach t x.node j) h e

-- a filter by p is a filter by p of what passes q, where p passes only that
module _ (p q : Send → Bool) (h : (x : Send) → q x ≡ false → p x ≡ false) where
  through_case : (x : Send) (xs : List Send) (b : Bool) → q x ≡ b → filter p (filter q xs) ≡ filter p xs → filter p (cond b (x ∷ filter q xs) (filter q xs)) ≡ filter p (x ∷ xs)
  through_case x xs true t next = ap (λ (l : List Send). cond (p x) (x ∷ l) l) next
  through_case x xs false t next = next ∙ sym (filter_off p x xs (h x t))

  pub through : (xs : List Send) → filter p (filter q xs) ≡ filter p xs
  through [] = refl
  through (x ∷ xs) = through_case x xs (q x) refl (through xs)

-- ---- each node's sends that are heard
none_case : (p : Send → Bool) (k : ℕ) (x : Send) (xs : List Send) (b : Bool) → (x.node == k) ≡ b → ((y : Send) → y.node ≡ k → p y ≡ false) → filter p (sends_of k xs) ≡ [] → filter p (sends_of k (x ∷ xs)) ≡ []
none_case p k x xs true b h next =
    let n : x.node ≡ k = grind (arith, nat_tests) in
    ap (filter p) (filter_on (λ (y : Send). y.node == k) x xs b) ∙ filter_off p x (sends_of k xs) (h x n) ∙ next
none_case p k x xs false b h next = ap (filter p) (filter_off (λ (y : Send). y.node == k) x xs b) ∙ next

-- nothing of one node's sends
none_of : (p : Send → Bool) (k : ℕ) (l : List Send) → ((x : Send) → x.node ≡ k → p x ≡ false) → filter p (sends_of k l) ≡ []
none_of p k [] h = refl
none_of p k (x ∷ xs) h = none_case p k x xs (x.node == k) refl h (none_of p k xs h)

nil_left : (xs ys : List Send) → xs ++ ys ≡ [] → xs ≡ []
nil_left [] ys e = refl
nil_left (x ∷ xs) ys e = absurd cc

-- what nothing passes in a list, nothing passes in its beginning
nil_take : (p : Send → Bool) (n : ℕ) (l : List Send) → filter p l ≡ [] → filter p (take n l) ≡ []
nil_take p n l h =
    let e : filter p (take n l) ++ filter p (drop n l) ≡ [] = sym (filter-append p (take n l) (drop n l)) ∙ ap (filter p) (take-append-drop n l) ∙ h in
    nil_left (filter p (take n l)) (filter p (drop n l)) e

needed_case : (w : WorldFacts) (sent : List ℕ) (j s k : ℕ) (b : Bool) → is_needed w.topo k j s ≡ b → IsLawful w → AllPostedFor w sent j s
    → filter (is_audible w.topo j s) (take (sent_of sent k) (sends_of k w.sends)) ≡ filter (is_audible w.topo j s) (sends_of k w.sends)
unfolding sends_below
needed_case w sent j s k false e law reached =
    let p = is_audible w.topo j s in
    let u = none_of p k w.sends (λ x n. not_needed w.topo j s x (ap (λ (m : ℕ). is_needed w.topo m j s) n ∙ e)) in
    nil_take p (sent_of sent k) (sends_of k w.sends) u ∙ sym u
needed_case w sent j s k true e law reached =
    early (is_audible w.topo j s) k (s - latency_of w.topo k j + 1)
    (λ x n h. too_late w.topo j s x (subst (λ (m : ℕ). s - latency_of w.topo m j + 1 ≤ x.cycle) (sym n) h))
    w.topo.byte_time 0 (sent_of sent k) (sends_of k w.sends) (only_own k w.sends) (spaced w k law) (reached k e)

pub needed_same : (w : WorldFacts) (sent : List ℕ) (j s k : ℕ) → IsLawful w → AllPostedFor w sent j s
    → filter (is_audible w.topo j s) (take (sent_of sent k) (sends_of k w.sends)) ≡ filter (is_audible w.topo j s) (sends_of k w.sends)
needed_same w sent j s k law reached = needed_case w sent j s k (is_needed w.topo k j s) refl law reached

-- the sends of each node k that are heard are the same: what is gone is not heard at the floor or later
same_heard : (w : WorldFacts) (floor : ℕ) (sent : List ℕ) (xs : List Send) (j s : ℕ) → IsLawful w → IsPosted w floor sent xs → floor ≤ s → AllPostedFor w sent j s
    → SameByNode (filter (is_audible w.topo j s) xs) (filter (is_audible w.topo j s) w.sends)
same_heard w floor sent xs j s law post h reached k =
    let p = is_audible w.topo j s in
    filter_swap (λ (x : Send). x.node == k) p xs ∙ ap (filter p) (post k)
    ∙ through p (is_kept w.topo floor) (λ x e. not_kept w.topo j s floor x h e) (take (sent_of sent k) (sends_of k w.sends))
    ∙ needed_case w sent j s k (is_needed w.topo k j s) refl law reached ∙ filter_swap p (λ (x : Send). x.node == k) w.sends

-- what is heard of a kept record, at its floor or later
pub heard_kept : (w : WorldFacts) (floor : ℕ) (sent : List ℕ) (xs : List Send) (j s : ℕ) → IsLawful w → IsPosted w floor sent xs → floor ≤ s → AllPostedFor w sent j s → heard w.topo xs j s ≡ truth w j s
unfolding heard
heard_kept w floor sent xs j s law post h reached =
    heard_same (age_of w.topo j s) (filter (is_audible w.topo j s) xs) (filter (is_audible w.topo j s) w.sends) (same_heard w floor sent xs j s law post h reached)

-- what is heard of all that is posted
same_whole : (w : WorldFacts) (sent : List ℕ) (xs : List Send) (j s : ℕ) → IsLawful w → IsWhole w sent xs → AllPostedFor w sent j s
    → SameByNode (filter (is_audible w.topo j s) xs) (filter (is_audible w.topo j s) w.sends)
same_whole w sent xs j s law post reached k =
    let p = is_audible w.topo j s in
    filter_swap (λ (x : Send). x.node == k) p xs ∙ ap (filter p) (post k)
    ∙ needed_case w sent j s k (is_needed w.topo k j s) refl law reached ∙ filter_swap p (λ (x : Send). x.node == k) w.sends

pub heard_final : (w : WorldFacts) (sent : List ℕ) (xs : List Send) (j s : ℕ) → IsLawful w → IsWhole w sent xs → AllPostedFor w sent j s → heard w.topo xs j s ≡ truth w j s
unfolding heard
heard_final w sent xs j s law post reached =
    heard_same (age_of w.topo j s) (filter (is_audible w.topo j s) xs) (filter (is_audible w.topo j s) w.sends) (same_whole w sent xs j s law post reached)
