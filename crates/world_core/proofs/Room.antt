-- How many sends there can be.
use Rattle.std.proofs.Common.{◌≡◌, ℕ, zero, suc, ◌+◌, ◌*◌, ◌/◌, ◌<◌, ◌≤◌, ◌≢◌, Bool, true, false, cond, ◌==◌, List, [], ◌∷◌, ◌-◌, length, take, get_or, refl, sym, subst, ◌∙◌, ap, arith, suc-mul}
use Rattle.std.specs.List.{All, filter}
use Rattle.std.proofs.Math.Nat.{le-div_iff_mul-le}
use Rattle.std.proofs.lemmas.List.Elements.{All-filter, filter_passes}
use Rattle.std.proofs.lemmas.List.{length-take}
use Rattle.std.proofs.lemmas.Bool.Decides.{nat_tests}
use native.Mathlib.Decide.{ℕ_discrete}
use Rattle.air_base.specs.declared.air.Send.{Send}
use Rattle.world_core.specs.declared.world.WorldFacts.{WorldFacts}
use Rattle.world_core.specs.Topology.{Topology, IsInside, reach}
use Rattle.world_core.specs.Sends.{sends_of}
use Rattle.world_core.specs.Posted.{sent_of}
use Rattle.world_core.specs.Kept.{is_kept, IsPosted, kept_room_of}
use Rattle.world_core.specs.Lawful.{IsLawful}
use Rattle.world_core.proofs.Spaced.{is_spaced, spaced}

-- the last of n + 1 spaced sends is n gaps on
last : (gap from limit n : ℕ) (l : List Send) → is_spaced gap from l ≡ true → All (λ x. x.cycle < limit) l → length l ≡ suc n → from + n * gap < limit
last gap from limit n [] e a h = absurd (omega arith)
last gap from limit zero (x ∷ xs) e a h = let b = a 0 x (omega arith) in let f : from ≤ x.cycle = grind (arith, nat_tests) in omega arith
last gap from limit (suc n) (x ∷ xs) e a h =
    let f : (from ≤ x.cycle) × (is_spaced gap (x.cycle + gap) xs ≡ true) = grind (arith, nat_tests) in
    let r = last gap (x.cycle + gap) limit n xs f.1 (λ k d lt. a (suc k) d (omega arith)) (omega arith) in
    omega (arith, suc-mul n gap)

few_case : (gap limit : ℕ) (l : List Send) (n : ℕ) → length l ≡ n → 0 < gap → is_spaced gap 0 l ≡ true → All (λ x. x.cycle < limit) l → n ≤ limit / gap + 1
few_case gap limit l zero h pos e a = omega arith
few_case gap limit l (suc n) h pos e a =
    let r = last gap 0 limit n l e a h in
    let q : n ≤ limit / gap = (le-div_iff_mul-le {k = gap} {x = n} {y = limit} pos).1 (omega arith) in omega arith

pub few : (w : WorldFacts) (k : ℕ) → IsLawful w → length (sends_of k w.sends) ≤ w.topo.limit / w.topo.byte_time + 1
few w k law =
    let pos = law.topo.ranges.byte_from in
    few_case w.topo.byte_time w.topo.limit (sends_of k w.sends) (length (sends_of k w.sends)) refl (omega arith) (spaced w k law)
    (All-filter (λ (x : Send). x.node == k) (λ x. x.cycle < w.topo.limit) w.sends (λ i d lt. (law.sends_in i d lt).1))

-- by node
abbrev by_node : List Send → ℕ → ℕ
by_node xs zero = 0
by_node xs (suc n) = by_node xs n + length (sends_of n xs)

len_on : (x : Send) (xs : List Send) (k : ℕ) → x.node ≡ k → length (sends_of k (x ∷ xs)) ≡ length (sends_of k xs) + 1
len_on x xs k e = let t : (x.node == k) ≡ true = grind (arith, nat_tests) in ap (λ (b : Bool). length (cond b (x ∷ sends_of k xs) (sends_of k xs))) t ∙ omega arith

len_off : (x : Send) (xs : List Send) (k : ℕ) → x.node ≢ k → length (sends_of k (x ∷ xs)) ≡ length (sends_of k xs)
len_off x xs k e = let t : (x.node == k) ≡ false = grind (arith, nat_tests) in ap (λ (b : Bool). length (cond b (x ∷ sends_of k xs) (sends_of k xs))) t

past : (x : Send) (xs : List Send) (n : ℕ) → n ≤ x.node → by_node (x ∷ xs) n ≡ by_node xs n
past x xs zero h = refl
past x xs (suc n) h = let a = past x xs n (omega arith) in let b = len_off x xs n (λ e. absurd (omega arith)) in omega arith

within_case : (x : Send) (xs : List Send) (n : ℕ) → Dec (x.node ≡ n) → x.node < suc n → (x.node < n → by_node (x ∷ xs) n ≡ by_node xs n + 1) → by_node (x ∷ xs) (suc n) ≡ by_node xs (suc n) + 1
within_case x xs n (yes e) h next = let a = past x xs n (omega arith) in let b = len_on x xs n e in omega arith
within_case x xs n (no d) h next = let a = next (omega arith) in let b = len_off x xs n d in omega arith

within : (x : Send) (xs : List Send) (n : ℕ) → x.node < n → by_node (x ∷ xs) n ≡ by_node xs n + 1
within x xs zero h = absurd (omega arith)
within x xs (suc n) h = within_case x xs n (ℕ_discrete x.node n) h (λ lt. within x xs n lt)

none_by : (n : ℕ) → by_node [] n ≡ 0
none_by zero = refl
none_by (suc n) = let a = none_by n in omega arith

whole : (t : Topology) (xs : List Send) → All (λ x. IsInside t x.node x.cycle) xs → by_node xs t.nodes ≡ length xs
whole t [] a = none_by t.nodes
whole t (x ∷ xs) a = let r = whole t xs (λ k d lt. a (suc k) d (omega arith)) in let w = within x xs t.nodes (a 0 x (omega arith)).0 in omega arith

bounded : (xs : List Send) (b n : ℕ) → ((k : ℕ) → length (sends_of k xs) ≤ b) → by_node xs n ≤ n * b
bounded xs b zero h = omega arith
bounded xs b (suc n) h = let a = bounded xs b n h in let c = h n in omega (arith, suc-mul n b)

short_case : (p : Send → Bool) (x : Send) (xs : List Send) (b : Bool) → length (filter p xs) ≤ length xs → length (cond b (x ∷ filter p xs) (filter p xs)) ≤ suc (length xs)
short_case p x xs true h = omega arith
short_case p x xs false h = omega arith

shorter : (p : Send → Bool) (xs : List Send) → length (filter p xs) ≤ length xs
shorter p [] = omega arith
shorter p (x ∷ xs) = short_case p x xs (p x) (shorter p xs)

-- there is room for all that can be posted
pub room : (w : WorldFacts) (floor : ℕ) (sent : List ℕ) (xs : List Send) → IsLawful w → IsPosted w floor sent xs → All (λ x. IsInside w.topo x.node x.cycle) xs → length xs ≤ w.topo.nodes * (w.topo.limit / w.topo.byte_time + 1)
room w floor sent xs law post inside =
    let b = bounded xs (w.topo.limit / w.topo.byte_time + 1) w.topo.nodes (λ k.
    let f = few w k law in let t = length-take (sent_of sent k) (sends_of k w.sends) in let e = ap length (post k) in
    let c = shorter (is_kept w.topo floor) (take (sent_of sent k) (sends_of k w.sends)) in omega arith) in
    let n = whole w.topo xs inside in omega arith

-- ---- what is kept at a floor, and lies below the floor and an epoch
kept_at : (t : Topology) (f : ℕ) (x : Send) → is_kept t f x ≡ true → f < x.cycle + reach t + t.byte_time
kept_at t f x e = grind (arith, nat_tests)

pub spaced_part : (gap from n : ℕ) (l : List Send) → is_spaced gap from l ≡ true → is_spaced gap from (take n l) ≡ true
spaced_part gap from zero l e = refl
spaced_part gap from (suc n) [] e = refl
spaced_part gap from (suc n) (x ∷ xs) e =
    let a : (from ≤ x.cycle) × (is_spaced gap (x.cycle + gap) xs ≡ true) = grind (arith, nat_tests) in
    let b = spaced_part gap (x.cycle + gap) n xs a.1 in grind (arith, nat_tests)

sooner : (gap from to : ℕ) (l : List Send) → to ≤ from → is_spaced gap from l ≡ true → is_spaced gap to l ≡ true
sooner gap from to [] h e = refl
sooner gap from to (x ∷ xs) h e = grind (arith, nat_tests)

spaced_case : (p : Send → Bool) (gap from : ℕ) (x : Send) (xs : List Send) (b : Bool) → from ≤ x.cycle → is_spaced gap (x.cycle + gap) (filter p xs) ≡ true → is_spaced gap from (cond b (x ∷ filter p xs) (filter p xs)) ≡ true
spaced_case p gap from x xs true h e = grind (arith, nat_tests)
spaced_case p gap from x xs false h e = sooner gap (x.cycle + gap) from (filter p xs) (omega arith) e

spaced_filter : (p : Send → Bool) (gap from : ℕ) (l : List Send) → is_spaced gap from l ≡ true → is_spaced gap from (filter p l) ≡ true
spaced_filter p gap from [] e = refl
spaced_filter p gap from (x ∷ xs) e =
    let a : (from ≤ x.cycle) × (is_spaced gap (x.cycle + gap) xs ≡ true) = grind (arith, nat_tests) in
    spaced_case p gap from x xs (p x) a.0 (spaced_filter p gap (x.cycle + gap) xs a.1)

-- a spaced list between two cycles
between_case : (gap from until width : ℕ) (l : List Send) (n : ℕ) → length l ≡ n → 0 < gap → is_spaced gap 0 l ≡ true → All (λ x. (from ≤ x.cycle) × (x.cycle < until)) l → until ≤ from + width → n ≤ width / gap + 1
between_case gap from until width l zero h pos e a w = omega arith
between_case gap from until width [] (suc n) h pos e a w = absurd (omega arith)
between_case gap from until width (x ∷ xs) (suc n) h pos e a w =
    let here = a 0 x (omega arith) in
    let s : is_spaced gap from (x ∷ xs) ≡ true = grind (arith, nat_tests) in
    let r = last gap from until n (x ∷ xs) s (λ k d lt. (a k d lt).1) h in
    let q : n ≤ width / gap = (le-div_iff_mul-le {k = gap} {x = n} {y = width} pos).1 (omega arith) in omega arith

few_kept : (w : WorldFacts) (floor epoch : ℕ) (sent : List ℕ) (xs : List Send) (k : ℕ) → IsLawful w → IsPosted w floor sent xs → All (λ x. x.cycle < floor + epoch) xs
    → length (sends_of k xs) ≤ (reach w.topo + w.topo.byte_time + epoch) / w.topo.byte_time + 1
few_kept w floor epoch sent xs k law post below =
    let pos = law.topo.ranges.byte_from in
    let t = w.topo in
    let p = is_kept t floor in
    let l = sends_of k xs in
    let own = take (sent_of sent k) (sends_of k w.sends) in
    let s : is_spaced t.byte_time 0 l ≡ true = ap (is_spaced t.byte_time 0) (post k) ∙ spaced_filter p t.byte_time 0 own (spaced_part t.byte_time 0 (sent_of sent k) (sends_of k w.sends) (spaced w k law)) in
    let kept : All (λ x. p x ≡ true) l = subst (All (λ x. p x ≡ true)) (sym (post k)) (filter_passes p own) in
    let under : All (λ x. x.cycle < floor + epoch) l = All-filter (λ (x : Send). x.node == k) (λ x. x.cycle < floor + epoch) xs below in
    between_case t.byte_time (floor + 1 - (reach t + t.byte_time)) (floor + epoch) (reach t + t.byte_time + epoch) l (length l) refl (omega arith) s
    (λ i d lt. let a = kept_at t floor (get_or l i d) (kept i d lt) in (omega arith, under i d lt)) (omega arith)

-- a record whose sends lie below its floor and an epoch is small
pub kept_room : (w : WorldFacts) (floor epoch : ℕ) (sent : List ℕ) (xs : List Send) → IsLawful w → IsPosted w floor sent xs → All (λ x. IsInside w.topo x.node x.cycle) xs → All (λ x. x.cycle < floor + epoch) xs
    → length xs ≤ kept_room_of w.topo epoch
kept_room w floor epoch sent xs law post inside below =
    let b = bounded xs ((reach w.topo + w.topo.byte_time + epoch) / w.topo.byte_time + 1) w.topo.nodes (λ k. few_kept w floor epoch sent xs k law post below) in
    let n = whole w.topo xs inside in omega arith
