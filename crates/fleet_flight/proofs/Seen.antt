-- What is seen in spans that are joined, and a byte behind the changes that are seen of it.
use Rattle.std.proofs.Common.{◌≡◌, inl, inr, ℕ, zero, suc, ◌+◌, ◌-◌, ◌<◌, ◌≤◌, ◌==◌, Bool, true, false, cond, not, List, [], ◌∷◌, ◌++◌, length, refl, sym, subst, ◌∙◌, ap, arith}
use Rattle.std.specs.Prelude.{◌⊎◌, slice_index_or}
use Rattle.std.specs.List.{All, Contains}
use Rattle.std.proofs.lemmas.Bool.Decides.{nat_tests}
use Rattle.std.proofs.lemmas.List.Elements.{All-cons, All-head, All-nil, All-tail, All-weaker, filter_passes}
use Rattle.std.proofs.lemmas.List.{get_or_default}
use native.Mathlib.Decide.{ℕ_discrete}
use Rattle.air_base.specs.Each.{each_below}
use Rattle.air_base.proofs.Each.{All_each, each_contains, each_same}
use Rattle.node_core.specs.Cycle.{begun_at}
use Rattle.node_core.specs.State.{NodeState}
use Rattle.node_core.specs.declared.row.Row.{Row}
use Rattle.node_places.specs.declared.Change.{Change}
use Rattle.node_places.specs.declared.Place.{Place}
use Rattle.node_places.specs.declared.Seen.{Seen}
use Rattle.node_places.specs.declared.Seen.TheVariants as seen
use Rattle.node_places.specs.declared.Spot.{Spot}
use Rattle.node_places.specs.declared.Spot.TheVariants as spot
use Rattle.world_core.specs.Order.{Fleet, node_at}
use Rattle.fleet_flight.specs.Watched.{Group, byte_at, byte_of, group_with, groups_in, no_group, no_place, places_of, put_in, put_one, seen_at, seen_from, seen_if, seen_in, watched}
use Rattle.fleet_flight.proofs.Trails.{each_add}

-- ---- spans joined
pub joined : (f : Fleet NodeState Row) (gs : List Group) (a b c : ℕ) → a ≤ b → b ≤ c → watched f gs a b ++ watched f gs b c ≡ watched f gs a c
joined f gs a b c from to =
    let n : ℕ = b - a in
    let m : ℕ = c - b in
    let all : n + m ≡ c - a = omega arith in
    let in_cycle : ℕ → List Change = λ t. each_below (length gs) (λ g. seen_in f (slice_index_or gs g no_group) t) in
    sym (sym (ap (λ (l : ℕ). each_below l (λ i. in_cycle (a + i))) all)
    ∙ (each_add n m (λ i. in_cycle (a + i))
    ∙ ap (λ (l : List Change). watched f gs a b ++ l)
    (each_same m (λ i. in_cycle (a + (n + i))) (λ i. in_cycle (b + i)) (λ i l. (let e : a + (n + i) ≡ b + i = omega arith in ap in_cycle e)))))

-- ---- a byte behind changes, of which none says of it anything but this
abbrev Says : ℕ → ℕ → ℕ → Change → Type 0
Says k at v c = (was : ℕ) → (put_one k at c was ≡ was) ⊎ (put_one k at c was ≡ v)

put_none : (k at was : ℕ) → put_in k at [] was ≡ was
unfolding put_in
put_none k at was = refl

put_more : (k at was : ℕ) (c : Change) (cs : List Change) → put_in k at (c ∷ cs) was ≡ put_in k at cs (put_one k at c was)
unfolding put_in
put_more k at was c cs = refl

put_both : (k at : ℕ) (xs ys : List Change) (was : ℕ) → put_in k at (xs ++ ys) was ≡ put_in k at ys (put_in k at xs was)
put_both k at [] ys was = ap (put_in k at ys) (sym (put_none k at was))
put_both k at (x ∷ xs) ys was = put_more k at was x (xs ++ ys) ∙ (put_both k at xs ys (put_one k at x was) ∙ ap (put_in k at ys) (sym (put_more k at was x xs)))

same_case : (x v : ℕ) → (x ≡ v) ⊎ (x ≡ v) → x ≡ v
same_case x v (inl e) = e
same_case x v (inr e) = e

-- it is this already
stays : (k at v : ℕ) (cs : List Change) → All (Says k at v) cs → put_in k at cs v ≡ v
stays k at v [] all = put_none k at v
stays k at v (c ∷ cs) all =
    put_more k at v c cs ∙ (ap (put_in k at cs) (same_case (put_one k at c v) v (All-head (Says k at v) c cs all v)) ∙ stays k at v cs (All-tail (Says k at v) c cs all))

-- or one of them says so
comes : (k at v : ℕ) (cs : List Change) (x : Change) (was j : ℕ) → All (Says k at v) cs → ((old : ℕ) → put_one k at x old ≡ v) → j < length cs → slice_index_or cs j x ≡ x → put_in k at cs was ≡ v
comes k at v [] x was j all it l e = absurd (omega (arith, l))
comes k at v (c ∷ cs) x was zero all it l e =
    put_more k at was c cs ∙ (ap (put_in k at cs) (ap (λ (y : Change). put_one k at y was) e ∙ it was) ∙ stays k at v cs (All-tail (Says k at v) c cs all))
comes k at v (c ∷ cs) x was (suc j) all it l e =
    put_more k at was c cs ∙ comes k at v cs x (put_one k at c was) j (All-tail (Says k at v) c cs all) it (omega (arith, l)) e

-- ---- what is seen in a cycle says of a byte what it is then
alike : (a b : ℕ) → a ≡ b → (a == b) ≡ true
alike a b e = grind (arith, nat_tests)

other : (a b : ℕ) → (a ≡ b → ⊥) → (a == b) ≡ false
other a b e = grind (arith, nat_tests)

-- places that bear the number of their group
abbrev Own : Group → Type 0
Own g = All (λ (p : Place). p.node ≡ g.node) g.places

module _ (f : Fleet NodeState Row) (k at t : ℕ) where
  abbrev v : ℕ
  v = byte_at at (node_at f k (t + 1))

  abbrev later : ℕ → ℕ → ℕ
  later j address = byte_at address (node_at f j (t + 1))

  -- a byte of node j, as the next cycle begins
  byte_says : (j address : ℕ) → Says k at v (record { cycle = t; node = j; seen = seen.Byte address (byte_at address (node_at f j (t + 1))) })
  byte_says j address was = node_case (ℕ_discrete j k)
    where
      byte_case : j ≡ k → Dec (address ≡ at) → (cond (j == k) (cond (address == at) (later j address) was) was ≡ was) ⊎ (cond (j == k) (cond (address == at) (later j address) was) was ≡ v)
      byte_case e (yes q) =
          inr (ap (λ (b : Bool). cond b (cond (address == at) (later j address) was) was) (alike j k e) ∙ (ap (λ (b : Bool). cond b (later j address) was) (alike address at q)
          ∙ (λ i. byte_at (q i) (node_at f (e i) (t + 1)))))
      byte_case e (no q) = inl (ap (λ (b : Bool). cond b (cond (address == at) (later j address) was) was) (alike j k e) ∙ ap (λ (b : Bool). cond b (later j address) was) (other address at q))

      node_case : Dec (j ≡ k) → (cond (j == k) (cond (address == at) (later j address) was) was ≡ was) ⊎ (cond (j == k) (cond (address == at) (later j address) was) was ≡ v)
      node_case (yes e) = byte_case e (ℕ_discrete address at)
      node_case (no e) = inl (ap (λ (b : Bool). cond b (cond (address == at) (later j address) was) was) (other j k e))

  at_says : (j address : ℕ) → Says k at v (record { cycle = t; node = j; seen = seen.At address })
  at_says j address was = inl (either (j == k))
    where
      either : (b : Bool) → cond b was was ≡ was
      either true = refl
      either false = refl

  if_says : (b : Bool) (j : ℕ) (x : Seen) → Says k at v (record { cycle = t; node = j; seen = x }) → All (Says k at v) (seen_if b t j x)
  if_says true j x h = All-cons (Says k at v) (record { cycle = t; node = j; seen = x }) [] h (All-nil (Says k at v))
  if_says false j x h = All-nil (Says k at v)

  spot_says : (x : Spot) (j : ℕ) (s : NodeState) → All (Says k at v) (seen_from x t j (byte_of x s) (begun_at s) (node_at f j (t + 1)))
  spot_says (spot.Byte address) j s = if_says _ j _ (byte_says j address)
  spot_says (spot.At address) j s = if_says _ j _ (at_says j address)

  group_says : (g : Group) → Own g → All (Says k at v) (seen_in f g t)
  group_says g own =
      All_each (Says k at v) (length g.places) (λ j. seen_at (slice_index_or g.places j no_place) t (node_at f g.node t) (node_at f g.node (t + 1)))
      (λ j l.
      let p : Place = slice_index_or g.places j no_place in
      subst (λ (i : ℕ). All (Says k at v) (seen_at p t (node_at f g.node t) (node_at f i (t + 1)))) (own j no_place l) (spot_says p.spot p.node (node_at f g.node t)))

  groups_say : (gs : List Group) → All Own gs → All (Says k at v) (each_below (length gs) (λ g. seen_in f (slice_index_or gs g no_group) t))
  groups_say gs all = All_each (Says k at v) (length gs) (λ g. seen_in f (slice_index_or gs g no_group) t) (λ g l. group_says (slice_index_or gs g no_group) (all g no_group l))

  -- ---- and where it becomes another, one of them says it
  abbrev told : Change
  told = record { cycle = t; node = k; seen = seen.Byte at v }

  tells : (was : ℕ) → put_one k at told was ≡ v
  tells was = ap (λ (b : Bool). cond b (cond (at == at) v was) was) (alike k k refl) ∙ ap (λ (b : Bool). cond b v was) (alike at at refl)

  in_spot : (byte_at at (node_at f k (t + 1)) ≡ byte_at at (node_at f k t) → ⊥) → Contains (seen_at (record { node = k; spot = spot.Byte at }) t (node_at f k t) (node_at f k (t + 1))) told
  in_spot ne =
      let e : not (byte_at at (node_at f k (t + 1)) == byte_at at (node_at f k t)) ≡ true = ap not (other (byte_at at (node_at f k (t + 1))) (byte_at at (node_at f k t)) ne) in
      subst (λ (b : Bool). Contains (seen_if b t k (seen.Byte at v)) told) (sym e) (0, (omega arith), refl)

  in_group : (byte_at at (node_at f k (t + 1)) ≡ byte_at at (node_at f k t) → ⊥) → (ps : List Place) → Contains ps (record { node = k; spot = spot.Byte at }) → Contains (seen_in f (record { node = k; places = ps }) t) told
  in_group ne ps has =
      let it : slice_index_or ps has.0 no_place ≡ record { node = k; spot = spot.Byte at } = get_or_default ps has.0 no_place (record { node = k; spot = spot.Byte at }) has.1 ∙ has.2 in
      each_contains (length ps) has.0 (λ j. seen_at (slice_index_or ps j no_place) t (node_at f k t) (node_at f k (t + 1))) told has.1
      (subst (λ (p : Place). Contains (seen_at p t (node_at f k t) (node_at f k (t + 1))) told) (sym it) (in_spot ne))

  in_groups : (gs : List Group) (ps : List Place) → Contains gs (record { node = k; places = ps }) → Contains (seen_in f (record { node = k; places = ps }) t) told
      → Contains (each_below (length gs) (λ g. seen_in f (slice_index_or gs g no_group) t)) told
  in_groups gs ps has there =
      let it : slice_index_or gs has.0 no_group ≡ record { node = k; places = ps } = get_or_default gs has.0 no_group (record { node = k; places = ps }) has.1 ∙ has.2 in
      each_contains (length gs) has.0 (λ g. seen_in f (slice_index_or gs g no_group) t) told has.1 (subst (λ (g : Group). Contains (seen_in f g t) told) (sym it) there)

-- ---- the groups of places
is_own : (k : ℕ) (p : Place) → (p.node == k) ≡ true → p.node ≡ k
is_own k p e = grind (arith, nat_tests)

group_own : (k : ℕ) (ps : List Place) → All (λ (p : Place). p.node ≡ k) ps → All Own (group_with k ps)
group_own k [] own = All-nil Own
group_own k (p ∷ ps) own = All-cons Own (record { node = k; places = p ∷ ps }) [] own (All-nil Own)

groups_own : (n : ℕ) (ps : List Place) → All Own (groups_in n ps)
groups_own n ps =
    All_each Own n (λ k. group_with k (places_of k ps))
    (λ k l. group_own k (places_of k ps)
    (All-weaker (λ (p : Place). (p.node == k) ≡ true) (λ (p : Place). p.node ≡ k) (is_own k) (places_of k ps) (filter_passes (λ (p : Place). p.node == k) ps)))

kept_at : (k : ℕ) (ps : List Place) (x : Place) (j : ℕ) → j < length ps → slice_index_or ps j x ≡ x → (x.node == k) ≡ true → Contains (places_of k ps) x
kept_at k [] x j l e own = absurd (omega (arith, l))
kept_at k (p ∷ ps) x zero l e own =
    subst (λ (b : Bool). Contains (cond b (p ∷ places_of k ps) (places_of k ps)) x) (sym (ap (λ (y : Place). y.node == k) e ∙ own)) (0, (omega arith), e)
kept_at k (p ∷ ps) x (suc j) l e own = more (p.node == k) (kept_at k ps x j (omega (arith, l)) e own)
  where
    more : (b : Bool) → Contains (places_of k ps) x → Contains (cond b (p ∷ places_of k ps) (places_of k ps)) x
    more true h = (suc h.0, (let l = h.1 in omega (arith, l)), h.2)
    more false h = h

in_with : (k : ℕ) (ps : List Place) (x : Place) → Contains ps x → Contains (group_with k ps) (record { node = k; places = ps })
in_with k [] x has = absurd (let l = has.1 in omega (arith, l))
in_with k (p ∷ ps) x has = (0, (omega arith), refl)

-- ---- cycle by cycle
module _ (f : Fleet NodeState Row) (n : ℕ) (ps : List Place) (k at : ℕ) (low : k < n) (has : Contains ps (record { node = k; spot = spot.Byte at })) where
  abbrev gs : List Group
  gs = groups_in n ps

  abbrev in_cycle : ℕ → List Change
  in_cycle t = each_below (length gs) (λ g. seen_in f (slice_index_or gs g no_group) t)

  abbrev byte : ℕ → ℕ
  byte t = byte_at at (node_at f k t)

  own_has : Contains (places_of k ps) (record { node = k; spot = spot.Byte at })
  own_has = kept_at k ps (record { node = k; spot = spot.Byte at }) has.0 has.1 has.2 (alike k k refl)

  group_has : Contains gs (record { node = k; places = places_of k ps })
  group_has =
      each_contains n k (λ j. group_with j (places_of j ps)) (record { node = k; places = places_of k ps }) low (in_with k (places_of k ps) (record { node = k; spot = spot.Byte at }) own_has)

  cycle_case : (t : ℕ) → Dec (byte (t + 1) ≡ byte t) → put_in k at (in_cycle t) (byte t) ≡ byte (t + 1)
  cycle_case t (yes e) = ap (put_in k at (in_cycle t)) (sym e) ∙ stays k at (byte (t + 1)) (in_cycle t) (groups_say f k at t gs (groups_own n ps))
  cycle_case t (no ne) =
      let c = in_groups f k at t gs (places_of k ps) group_has (in_group f k at t ne (places_of k ps) own_has) in
      comes k at (byte (t + 1)) (in_cycle t) (told f k at t) (byte t) c.0 (groups_say f k at t gs (groups_own n ps)) (tells f k at t) c.1 c.2

  cycles : (a m : ℕ) → put_in k at (each_below m (λ i. in_cycle (a + i))) (byte a) ≡ byte (a + m)
  cycles a zero = put_none k at (byte a) ∙ (let e : a ≡ a + 0 = omega arith in ap byte e)
  cycles a (suc m) =
      put_both k at (each_below m (λ i. in_cycle (a + i))) (in_cycle (a + m)) (byte a)
      ∙ (ap (put_in k at (in_cycle (a + m))) (cycles a m)
      ∙ (cycle_case (a + m) (ℕ_discrete (byte (a + m + 1)) (byte (a + m))) ∙ (let e : a + m + 1 ≡ a + suc m = omega arith in ap byte e)))

  pub put_in_all : (a b : ℕ) → a ≤ b → put_in k at (watched f gs a b) (byte a) ≡ byte b
  put_in_all a b le = cycles a (b - a) ∙ (let e : a + (b - a) ≡ b = omega arith in ap byte e)
