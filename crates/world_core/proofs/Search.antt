-- The search among spans that stand in order.
use Rattle.std.proofs.Common.{◌≡◌, ◌≢◌, ℕ, ◌+◌, ◌-◌, ◌<◌, ◌≤◌, Bool, true, false, cond, ◌&&◌, ◌||◌, ◌==◌, List, length, get_or, refl, sym, subst, ◌∙◌, ap, arith}
use Rattle.std.specs.Prelude.{nat_le, nat_lt, not}
use Rattle.air_base.specs.Bounds.{LAST_CYCLE}
use Rattle.std.specs.List.{All, AllPairs, list_any}
use Rattle.std.specs.List.Sorted.{IsPartitionPoint, IsPartitionedBy}
use Rattle.std.proofs.lemmas.List.Folds.{list_any-from_Any, list_any_none}
use Rattle.std.proofs.lemmas.List.{get_or_default}
use Rattle.std.proofs.lemmas.Bool.Decides.{nat_tests}
use native.Mathlib.Decide.{ℕ_discrete, dec_le}
use Rattle.world_core.specs.declared.spans.Span.{Span}
use Rattle.world_core.specs.Topology.{IsSpanOrder, has_span, is_open_in, is_reached_in}
use Rattle.world_core.specs.SpanSearch.{begins_by, EndsAt}

earlier : (p c : ℕ) (x y : Span) → x.from < x.until → IsSpanOrder x y → begins_by p c y ≡ true → Dec (x.link ≡ y.link) → begins_by p c x ≡ true
earlier p c x y w o e (yes q) = let a = o.1 q in let le : x.from ≤ y.from = omega arith in grind (arith, nat_tests)
earlier p c x y w o e (no q) = let a = o.0 in let lt : x.link < y.link = omega arith in grind (arith, nat_tests)

parts_case : (xs : List Span) (p c i j : ℕ) (d : Span) → AllPairs IsSpanOrder xs → All (λ x. x.from < x.until) xs → i ≤ j → j < length xs → begins_by p c (get_or xs j d) ≡ true → Dec (i ≡ j) → begins_by p c (get_or xs i d) ≡ true
parts_case xs p c i j d apart wide le lt e (yes q) = subst (λ (m : ℕ). begins_by p c (get_or xs m d) ≡ true) (sym q) e
parts_case xs p c i j d apart wide le lt e (no q) = earlier p c (get_or xs i d) (get_or xs j d) (wide i d (omega arith)) (apart i j d (omega arith) lt) e (ℕ_discrete (get_or xs i d).link (get_or xs j d).link)

pub parts : (xs : List Span) (p c : ℕ) → AllPairs IsSpanOrder xs → All (λ x. x.from < x.until) xs → IsPartitionedBy (begins_by p c) xs
parts xs p c apart wide i j d le lt e = parts_case xs p c i j d apart wide le lt e (ℕ_discrete i j)

begun_at : (p c : ℕ) (x : Span) → begins_by p c x ≡ true → x.link ≡ p → x.from ≤ c
begun_at p c x e l = grind (arith, nat_tests)

begun_link : (p c : ℕ) (x : Span) → begins_by p c x ≡ true → x.link ≤ p
begun_link p c x e = grind (arith, nat_tests)

not_begun : (p c : ℕ) (x : Span) → begins_by p c x ≡ false → x.link ≡ p → c < x.from
not_begun p c x e l = grind (arith, nat_tests)

not_link : (p c : ℕ) (x : Span) → begins_by p c x ≡ false → p ≤ x.link
not_link p c x e = grind (arith, nat_tests)

-- the count n of the spans that have begun
module _ (xs : List Span) (p c n : ℕ) (apart : AllPairs IsSpanOrder xs) (wide : All (λ x. x.from < x.until) xs) (bound : n ≤ length xs) (point : IsPartitionPoint (λ y. begins_by p c y ≡ true) (λ y. begins_by p c y ≡ false) xs n) where
  below : (i : ℕ) (d : Span) → i < n → begins_by p c (get_or xs i d) ≡ true
  below i d lt = point.0 i d (omega arith) lt

  above : (i : ℕ) (d : Span) → n ≤ i → i < length xs → begins_by p c (get_or xs i d) ≡ false
  above i d le lt = point.1 i d le lt

  last_case : (i : ℕ) (d : Span) (u : ℕ) → 0 < n → i < n → (get_or xs (n - 1) d).link ≡ p → (get_or xs (n - 1) d).until ≡ u → (get_or xs i d).link ≡ p → Dec (i ≡ n - 1) → (get_or xs i d).until ≤ u
  last_case i d u pos lt l e k (yes q) = let s = ap (λ (m : ℕ). (get_or xs m d).until) q in omega arith
  last_case i d u pos lt l e k (no q) = let o = apart i (n - 1) d (omega arith) (omega arith) in let a = o.1 (k ∙ sym l) in let w = wide (n - 1) d (omega arith) in omega arith

  most_case : (i : ℕ) (d : Span) (u : ℕ) → 0 < n → i < length xs → (get_or xs (n - 1) d).link ≡ p → (get_or xs (n - 1) d).until ≡ u → (get_or xs i d).link ≡ p → (get_or xs i d).from ≤ c → Dec (n ≤ i) → (get_or xs i d).until ≤ u
  most_case i d u pos lt l e k f (yes q) = let a = not_begun p c (get_or xs i d) (above i d q lt) k in absurd (omega arith)
  most_case i d u pos lt l e k f (no q) = last_case i d u pos (omega arith) l e k (ℕ_discrete i (n - 1))

  pub ends : (u : ℕ) → 0 < n → ((d : Span) → (get_or xs (n - 1) d).link ≡ p) → ((d : Span) → (get_or xs (n - 1) d).until ≡ u) → EndsAt xs p c u
  ends u pos link until = record {
    place = n - 1;
    lt = omega arith;
    link = link;
    from = λ d. begun_at p c (get_or xs (n - 1) d) (below (n - 1) d (omega arith)) (link d);
    until = until;
    most = λ i d lt k f. most_case i d u pos lt (link d) (until d) k f (dec_le n i);
  }

  -- none below n is of the link, where the last of them is not
  last_link : (i : ℕ) (d : Span) → i < n → (get_or xs i d).link ≡ p → Dec (i ≡ n - 1) → (get_or xs (n - 1) d).link ≡ p
  last_link i d lt k (yes q) = subst (λ (m : ℕ). (get_or xs m d).link ≡ p) q k
  last_link i d lt k (no q) = let o = (apart i (n - 1) d (omega arith) (omega arith)).0 in let b = begun_link p c (get_or xs (n - 1) d) (below (n - 1) d (omega arith)) in omega arith

  not_yet_case : (i : ℕ) (d : Span) → ((d : Span) → 0 < n → (get_or xs (n - 1) d).link ≢ p) → i < length xs → (get_or xs i d).link ≡ p → Dec (n ≤ i) → c < (get_or xs i d).from
  not_yet_case i d none lt k (yes q) = not_begun p c (get_or xs i d) (above i d q lt) k
  not_yet_case i d none lt k (no q) = absurd (none d (omega arith) (last_link i d (omega arith) k (ℕ_discrete i (n - 1))))

  pub not_yet : ((d : Span) → 0 < n → (get_or xs (n - 1) d).link ≢ p) → All (λ x. x.link ≡ p → c < x.from) xs
  not_yet none i d lt k = not_yet_case i d none lt k (dec_le n i)

  beyond_case : (i : ℕ) (d : Span) → n ≤ i → i < length xs → ((d : Span) → n < length xs → (get_or xs n d).link ≢ p) → Dec (i ≡ n) → (get_or xs i d).link ≢ p
  beyond_case i d le lt next (yes q) k = next d (omega arith) (subst (λ (m : ℕ). (get_or xs m d).link ≡ p) q k)
  beyond_case i d le lt next (no q) k =
      let o = (apart n i d (omega arith) lt).0 in let b = not_link p c (get_or xs n d) (above n d (omega arith) (omega arith)) in
      let e : (get_or xs n d).link ≡ p = omega arith in next d (omega arith) e

  always_case : (i : ℕ) (d : Span) → ((d : Span) → 0 < n → (get_or xs (n - 1) d).link ≢ p) → ((d : Span) → n < length xs → (get_or xs n d).link ≢ p) → i < length xs → Dec (n ≤ i) → (get_or xs i d).link ≢ p
  always_case i d none next lt (yes q) k = beyond_case i d q lt next (ℕ_discrete i n) k
  always_case i d none next lt (no q) k = none d (omega arith) (last_link i d (omega arith) k (ℕ_discrete i (n - 1)))

  pub always : ((d : Span) → 0 < n → (get_or xs (n - 1) d).link ≢ p) → ((d : Span) → n < length xs → (get_or xs n d).link ≢ p) → has_span xs p ≡ false
  always none next = list_any_none (λ (x : Span). x.link == p) xs (λ i d lt. off (get_or xs i d).link (always_case i d none next lt (dec_le n i)))
    where
      off : (a : ℕ) → a ≢ p → (a == p) ≡ false
      off a h = grind (arith, nat_tests)

abbrev pub no_span : Span
no_span = record { link = 0; from = 0; until = 0 }

same : (a b : ℕ) → a ≡ b → (a == b) ≡ true
same a b e = grind (arith, nat_tests)

pub has_at : (xs : List Span) (p n : ℕ) → n < length xs → ((d : Span) → (get_or xs n d).link ≡ p) → has_span xs p ≡ true
has_at xs p n lt link = list_any-from_Any (λ (x : Span). x.link == p) xs (n, get_or xs n no_span, lt, get_or_default xs n (get_or xs n no_span) no_span lt, same (get_or xs n no_span).link p (link no_span))

-- ---- what is open, from what has begun
pub open_always : (xs : List Span) (p c : ℕ) → has_span xs p ≡ false → is_open_in xs p c ≡ true
open_always xs p c e = ap (λ (b : Bool). not b || list_any (λ x. (x.link == p) && (nat_le x.from c && nat_lt c x.until)) xs) e

out_of : (p c : ℕ) (x : Span) → (x.link ≡ p → c < x.from) → Dec (x.link ≡ p) → ((x.link == p) && (nat_le x.from c && nat_lt c x.until)) ≡ false
out_of p c x h (yes e) = let a = h e in grind (arith, nat_tests)
out_of p c x h (no e) = grind (arith, nat_tests)

pub open_not_yet : (xs : List Span) (p c : ℕ) → has_span xs p ≡ true → All (λ x. x.link ≡ p → c < x.from) xs → is_open_in xs p c ≡ false
open_not_yet xs p c e h =
    ap (λ (b : Bool). not b || list_any (λ x. (x.link == p) && (nat_le x.from c && nat_lt c x.until)) xs) e
    ∙ list_any_none (λ (x : Span). (x.link == p) && (nat_le x.from c && nat_lt c x.until)) xs (λ i d lt. out_of p c (get_or xs i d) (h i d lt) (ℕ_discrete (get_or xs i d).link p))

hit : (p c u : ℕ) (x : Span) → x.link ≡ p → x.from ≤ c → x.until ≡ u → c < u → ((x.link == p) && (nat_le x.from c && nat_lt c x.until)) ≡ true
hit p c u x a b e lt = grind (arith, nat_tests)

miss : (p c u : ℕ) (x : Span) → (x.link ≡ p → x.from ≤ c → x.until ≤ u) → u ≤ c → Dec (x.link ≡ p) → Dec (x.from ≤ c) → ((x.link == p) && (nat_le x.from c && nat_lt c x.until)) ≡ false
miss p c u x h le (yes a) (yes b) = let k = h a b in grind (arith, nat_tests)
miss p c u x h le (yes a) (no b) = grind (arith, nat_tests)
miss p c u x h le (no a) e = grind (arith, nat_tests)

until_case : (xs : List Span) (p c u : ℕ) → EndsAt xs p c u → (b : Bool) → nat_lt c u ≡ b → list_any (λ x. (x.link == p) && (nat_le x.from c && nat_lt c x.until)) xs ≡ b
until_case xs p c u e true t =
    let x = get_or xs e.place no_span in
    list_any-from_Any (λ (x : Span). (x.link == p) && (nat_le x.from c && nat_lt c x.until)) xs (e.place, x, e.lt, get_or_default xs e.place x no_span e.lt, hit p c u x (e.link no_span) (e.from no_span) (e.until no_span) (grind (arith, nat_tests)))
until_case xs p c u e false t =
    let le : u ≤ c = grind (arith, nat_tests) in
    list_any_none (λ (x : Span). (x.link == p) && (nat_le x.from c && nat_lt c x.until)) xs (λ i d lt. miss p c u (get_or xs i d) (e.most i d lt) le (ℕ_discrete (get_or xs i d).link p) (dec_le (get_or xs i d).from c))

pub open_until : (xs : List Span) (p c u : ℕ) → EndsAt xs p c u → is_open_in xs p c ≡ nat_lt c u
open_until xs p c u e =
    ap (λ (b : Bool). not b || list_any (λ x. (x.link == p) && (nat_le x.from c && nat_lt c x.until)) xs) (has_at xs p e.place e.lt e.link) ∙ until_case xs p c u e (nat_lt c u) refl

-- ---- what is reached, from what has begun by the cycle s - l
abbrev meets : ℕ → ℕ → ℕ → ℕ → Span → Bool
meets p l d s x = (x.link == p) && (nat_le (x.from + l) s && nat_lt (s + 1) (x.until + l + d))

late_out : (p l d s : ℕ) (x : Span) → s < l → meets p l d s x ≡ false
late_out p l d s x h = let a : nat_le (x.from + l) s ≡ false = grind (arith, nat_tests) in grind (arith, nat_tests)

reached_low_case : (xs : List Span) (p l d s : ℕ) (b : Bool) → s < l → cond b (list_any (meets p l d s) xs) (nat_le l s) ≡ false
reached_low_case xs p l d s true h = list_any_none (meets p l d s) xs (λ i x lt. late_out p l d s (get_or xs i x) h)
reached_low_case xs p l d s false h = grind (arith, nat_tests)

pub reached_low : (xs : List Span) (p l d s : ℕ) → s < l → is_reached_in xs p l d s ≡ false
reached_low xs p l d s h = reached_low_case xs p l d s (has_span xs p) h

yes_le : (l s : ℕ) → l ≤ s → nat_le l s ≡ true
yes_le l s h = grind (arith, nat_tests)

pub reached_always : (xs : List Span) (p l d s : ℕ) → l ≤ s → has_span xs p ≡ false → is_reached_in xs p l d s ≡ true
reached_always xs p l d s h e = ap (λ (b : Bool). cond b (list_any (meets p l d s) xs) (nat_le l s)) e ∙ yes_le l s h

not_met : (p l d s : ℕ) (x : Span) → l ≤ s → (x.link ≡ p → s - l < x.from) → Dec (x.link ≡ p) → meets p l d s x ≡ false
not_met p l d s x le h (yes e) = let a = h e in let b : s < x.from + l = omega arith in grind (arith, nat_tests)
not_met p l d s x le h (no e) = grind (arith, nat_tests)

pub reached_not_yet : (xs : List Span) (p l d s : ℕ) → l ≤ s → has_span xs p ≡ true → All (λ x. x.link ≡ p → s - l < x.from) xs → is_reached_in xs p l d s ≡ false
reached_not_yet xs p l d s le e h =
    ap (λ (b : Bool). cond b (list_any (meets p l d s) xs) (nat_le l s)) e
    ∙ list_any_none (meets p l d s) xs (λ i x lt. not_met p l d s (get_or xs i x) le (h i x lt) (ℕ_discrete (get_or xs i x).link p))

is_met : (p l d s u : ℕ) (x : Span) → l ≤ s → x.link ≡ p → x.from ≤ s - l → x.until ≡ u → s + 1 < u + l + d → meets p l d s x ≡ true
is_met p l d s u x le a b e lt = let f : x.from + l ≤ s = omega arith in let g : s + 1 < x.until + l + d = omega arith in grind (arith, nat_tests)

over : (p l d s u : ℕ) (x : Span) → l ≤ s → (x.link ≡ p → x.from ≤ s - l → x.until ≤ u) → u + l + d ≤ s + 1 → Dec (x.link ≡ p) → Dec (x.from ≤ s - l) → meets p l d s x ≡ false
over p l d s u x le h o (yes a) (yes b) = let k = h a b in let g : x.until + l + d ≤ s + 1 = omega arith in grind (arith, nat_tests)
over p l d s u x le h o (yes a) (no b) = let g : s < x.from + l = omega arith in grind (arith, nat_tests)
over p l d s u x le h o (no a) e = grind (arith, nat_tests)

reach_case : (xs : List Span) (p l d s u : ℕ) → l ≤ s → EndsAt xs p (s - l) u → (b : Bool) → nat_lt (s + 1) (u + l + d) ≡ b → list_any (meets p l d s) xs ≡ b
reach_case xs p l d s u le e true t =
    let x = get_or xs e.place no_span in
    list_any-from_Any (meets p l d s) xs (e.place, x, e.lt, get_or_default xs e.place x no_span e.lt, is_met p l d s u x le (e.link no_span) (e.from no_span) (e.until no_span) (grind (arith, nat_tests)))
reach_case xs p l d s u le e false t =
    let o : u + l + d ≤ s + 1 = grind (arith, nat_tests) in
    list_any_none (meets p l d s) xs (λ i x lt. over p l d s u (get_or xs i x) le (e.most i x lt) o (ℕ_discrete (get_or xs i x).link p) (dec_le (get_or xs i x).from (s - l)))

pub reached_until : (xs : List Span) (p l d s u : ℕ) → l ≤ s → EndsAt xs p (s - l) u → is_reached_in xs p l d s ≡ nat_lt (s + 1) (u + l + d)
reached_until xs p l d s u le e =
    ap (λ (b : Bool). cond b (list_any (meets p l d s) xs) (nat_le l s)) (has_at xs p e.place e.lt e.link) ∙ reach_case xs p l d s u le e (nat_lt (s + 1) (u + l + d)) refl

pub link_all : (xs : List Span) (n p : ℕ) (d e : Span) → n < length xs → (get_or xs n d).link ≡ p → (get_or xs n e).link ≡ p
link_all xs n p d e lt h = ap (λ (x : Span). x.link) (get_or_default xs n e d lt) ∙ h

pub until_all : (xs : List Span) (n : ℕ) (d e : Span) → n < length xs → (get_or xs n e).until ≡ (get_or xs n d).until
until_all xs n d e lt = ap (λ (x : Span). x.until) (get_or_default xs n e d lt)

pub wide_all : (count : ℕ) (xs : List Span) → All (λ x. (x.link < count) × (x.from < x.until) × (x.until ≤ LAST_CYCLE)) xs → All (λ x. x.from < x.until) xs
wide_all count xs a i d lt = (a i d lt).1
