-- A cut keeps a state consistent; which sends are gone, by number; and what a needed node is.
use Rattle.std.proofs.Common.{◌≡◌, ℕ, zero, suc, ◌+◌, ◌-◌, ◌<◌, ◌≤◌, max, Bool, true, false, cond, ◌&&◌, ◌||◌, ◌==◌, List, [], ◌∷◌, length, take, drop, refl, sym, subst, ◌∙◌, ap, arith}
use Rattle.std.specs.Prelude.{nat_le, nat_lt, not}
use Rattle.std.specs.List.{filter, All, list_any}
use Rattle.std.proofs.lemmas.List.Folds.{Any-from_list_any, list_any-from_Any}
use Rattle.std.proofs.lemmas.Bool.Decides.{nat_tests}
use Rattle.air_base.specs.declared.air.Send.{Send}
use Rattle.world_core.specs.declared.spans.Span.{Span}
use Rattle.world_core.specs.declared.world.WorldFacts.{WorldFacts}
use Rattle.world_core.specs.Topology.{Topology, IsTopology, IsHearable, is_linked, is_needed, is_open_in, is_in_time, is_reached_in, has_span, latency_of, place_in, reach}
use Rattle.world_core.specs.Sends.{sends_of, sends_below}
use Rattle.world_core.specs.Posted.{sent_of}
use Rattle.world_core.specs.Kept.{gone_of, IsPosted, IsPostedTo, IsPart}
use Rattle.world_core.specs.Lawful.{IsLawful}
use Rattle.world_core.specs.Consistent.{AirState, IsConsistent}
use Rattle.world_core.specs.Steps.{MayCut, after_cut}
use Rattle.world_core.proofs.Spaced.{is_spaced, spaced}
use Rattle.world_core.proofs.Room.{spaced_part}
use Rattle.world_core.proofs.Order.{only_own}
use Rattle.world_core.proofs.Final.{early, hears_reached}
use Rattle.world_core.proofs.Records.{record_cut}

pub cut_keeps : (a : AirState) (f : ℕ) → IsConsistent a → MayCut a f → IsConsistent (after_cut a f)
cut_keeps a f i may = record {
  lawful = i.lawful;
  nodes = i.nodes;
  within = i.within;
  passed = i.passed;
  recorded = record_cut a.world a.floor f a.sent a.sends a.samples i.recorded may.rises may.posted;
}

-- ---- what is gone, by number: in a list whose cycles rise, the sends that are over stand first
abbrev over : ℕ → ℕ → Send → Bool
over w f x = nat_le (x.cycle + w) f

abbrev stays : ℕ → ℕ → Send → Bool
stays w f x = nat_lt f (x.cycle + w)

all_stay : (w f gap from : ℕ) (l : List Send) → f < from + w → is_spaced gap from l ≡ true → (filter (stays w f) l ≡ l) × (filter (over w f) l ≡ [])
all_stay w f gap from [] h e = (refl, refl)
all_stay w f gap from (x ∷ xs) h e =
    let a : (from ≤ x.cycle) × (is_spaced gap (x.cycle + gap) xs ≡ true) = grind (arith, nat_tests) in
    let r = all_stay w f gap (x.cycle + gap) xs (omega arith) a.1 in
    let s : stays w f x ≡ true = grind (arith, nat_tests) in
    let o : over w f x ≡ false = grind (arith, nat_tests) in
    (ap (λ (b : Bool). cond b (x ∷ filter (stays w f) xs) (filter (stays w f) xs)) s ∙ ap (λ (m : List Send). x ∷ m) r.0, ap (λ (b : Bool). cond b (x ∷ filter (over w f) xs) (filter (over w f) xs)) o ∙ r.1)

-- what stays is what stands behind what is over, and what stands before that is over
record Parted (w f : ℕ) (l : List Send) : Type 0 where
  pub rest : filter (stays w f) l ≡ drop (length (filter (over w f) l)) l
  pub gone : All (λ x. x.cycle + w ≤ f) (take (length (filter (over w f) l)) l)

over_all : (w f : ℕ) (x : Send) (m : List Send) → x.cycle + w ≤ f → All (λ x. x.cycle + w ≤ f) m → All (λ x. x.cycle + w ≤ f) (x ∷ m)
over_all w f x m h a zero d lt = h
over_all w f x m h a (suc i) d lt = a i d (omega arith)

parted_case : (w f gap from : ℕ) (x : Send) (xs : List Send) (b : Bool) → over w f x ≡ b → from ≤ x.cycle → is_spaced gap (x.cycle + gap) xs ≡ true → Parted w f xs → Parted w f (x ∷ xs)
parted_case w f gap from x xs true t h e next =
    let s : stays w f x ≡ false = grind (arith, nat_tests) in
    let le : x.cycle + w ≤ f = grind (arith, nat_tests) in
    let n : filter (over w f) (x ∷ xs) ≡ x ∷ filter (over w f) xs = ap (λ (b : Bool). cond b (x ∷ filter (over w f) xs) (filter (over w f) xs)) t in
    record {
      rest = ap (λ (b : Bool). cond b (x ∷ filter (stays w f) xs) (filter (stays w f) xs)) s ∙ next.rest ∙ ap (λ (m : List Send). drop (length m) (x ∷ xs)) (sym n);
      gone = subst (λ (m : List Send). All (λ x. x.cycle + w ≤ f) (take (length m) (x ∷ xs))) (sym n) (over_all w f x (take (length (filter (over w f) xs)) xs) le next.gone);
    }
parted_case w f gap from x xs false t h e next =
    let lt : f < x.cycle + w = grind (arith, nat_tests) in
    let whole : is_spaced gap x.cycle (x ∷ xs) ≡ true = grind (arith, nat_tests) in
    let r = all_stay w f gap x.cycle (x ∷ xs) lt whole in
    record {
      rest = r.0 ∙ ap (λ (m : List Send). drop (length m) (x ∷ xs)) (sym r.1);
      gone = subst (λ (m : List Send). All (λ x. x.cycle + w ≤ f) (take (length m) (x ∷ xs))) (sym r.1) (λ i d lt. absurd (omega arith));
    }

parted : (w f gap from : ℕ) (l : List Send) → is_spaced gap from l ≡ true → Parted w f l
parted w f gap from [] e = record { rest = refl; gone = λ i d lt. absurd (omega arith) }
parted w f gap from (x ∷ xs) e =
    let a : (from ≤ x.cycle) × (is_spaced gap (x.cycle + gap) xs ≡ true) = grind (arith, nat_tests) in
    parted_case w f gap from x xs (over w f x) refl a.0 a.1 (parted w f gap (x.cycle + gap) xs a.1)

-- ---- a node is needed exactly where it may be heard
both_true : (a b : Bool) → a ≡ true → b ≡ true → (a && b) ≡ true
both_true true b h e = e
both_true false b h e = absurd cc

in_time : (l d s c : ℕ) → c + l ≤ s → s < c + l + d → is_in_time l d s c ≡ true
in_time l d s c a b = grind (arith, nat_tests)

pub needed_from : (t : Topology) (k j s : ℕ) → IsHearable t k j s → is_needed t k j s ≡ true
needed_from t k j s h =
    let i : is_in_time (latency_of t k j) t.byte_time s h.cycle ≡ true = in_time (latency_of t k j) t.byte_time s h.cycle h.from h.until in
    both_true (is_linked t k j) (is_reached_in t.spans (place_in t.links k j) (latency_of t k j) t.byte_time s) h.linked
    (hears_reached t.spans (place_in t.links k j) (latency_of t k j) t.byte_time s h.cycle h.is_open i)

linked_of : (a b : Bool) → (a && b) ≡ true → (a ≡ true) × (b ≡ true)
linked_of true b e = (refl, e)
linked_of false b e = absurd cc

-- the cycle that is heard, of spans
record Found (xs : List Span) (p l d s : ℕ) : Type 0 where
  pub cycle : ℕ
  pub is_open : is_open_in xs p cycle ≡ true
  pub from : cycle + l ≤ s
  pub until : s < cycle + l + d

met : (p l d s : ℕ) (y : Span) → ((y.link == p) && (nat_le (y.from + l) s && nat_lt (s + 1) (y.until + l + d))) ≡ true → (y.link ≡ p) × (y.from + l ≤ s) × (s + 1 < y.until + l + d)
met p l d s y e = grind (arith, nat_tests)

within : (p c : ℕ) (y : Span) → y.link ≡ p → y.from ≤ c → c < y.until → ((y.link == p) && (nat_le y.from c && nat_lt c y.until)) ≡ true
within p c y e a b = grind (arith, nat_tests)

or_true : (b : Bool) → (b || true) ≡ true
or_true true = refl
or_true false = refl

found_case : (xs : List Span) (p l d s : ℕ) (b : Bool) → has_span xs p ≡ b → All (λ x. x.from < x.until) xs → 0 < d
    → cond b (list_any (λ y. (y.link == p) && (nat_le (y.from + l) s && nat_lt (s + 1) (y.until + l + d))) xs) (nat_le l s) ≡ true → Found xs p l d s
found_case xs p l d s false t spans pos e =
    let le : l ≤ s = grind (arith, nat_tests) in
    record {
      cycle = s - l;
      is_open = ap (λ (b : Bool). not b || list_any (λ y. (y.link == p) && (nat_le y.from (s - l) && nat_lt (s - l) y.until)) xs) t;
      from = omega arith;
      until = omega arith;
    }
found_case xs p l d s true t spans pos e =
    let (k, y, lt, at, q) = Any-from_list_any (λ (y : Span). (y.link == p) && (nat_le (y.from + l) s && nat_lt (s + 1) (y.until + l + d))) xs e in
    let m = met p l d s y q in
    let c = max y.from (s + 1 - (l + d)) in
    let wide : y.from < y.until = subst (λ (z : Span). z.from < z.until) at (spans k y lt) in
    let hit = within p c y m.0 (omega arith) (omega arith) in
    let any = list_any-from_Any (λ (y : Span). (y.link == p) && (nat_le y.from c && nat_lt c y.until)) xs (k, y, lt, at, hit) in
    record {
      cycle = c;
      is_open = ap (λ (b : Bool). not (has_span xs p) || b) any ∙ or_true (not (has_span xs p));
      from = omega arith;
      until = omega arith;
    }

pub needed_hears : (t : Topology) (k j s : ℕ) → IsTopology t → is_needed t k j s ≡ true → IsHearable t k j s
needed_hears t k j s law e =
    let b = linked_of (is_linked t k j) (is_reached_in t.spans (place_in t.links k j) (latency_of t k j) t.byte_time s) e in
    let pos = law.ranges.byte_from in
    let f = found_case t.spans (place_in t.links k j) (latency_of t k j) t.byte_time s (has_span t.spans (place_in t.links k j)) refl (λ i d lt. (law.ranges.spans_in i d lt).1) (omega arith) b.1 in
    record { linked = b.0; cycle = f.cycle; is_open = f.is_open; from = f.from; until = f.until }

-- ---- the kept part by number
early_over : (t : Topology) (f : ℕ) (x : Send) → 0 < t.byte_time → f ≤ x.cycle → nat_le (x.cycle + reach t + t.byte_time) f ≡ false
early_over t f x pos h = grind (arith, nat_tests)

same_over : (r d f : ℕ) (l : List Send) → (filter (over (r + d) f) l ≡ filter (λ x. nat_le (x.cycle + r + d) f) l) × (filter (stays (r + d) f) l ≡ filter (λ x. nat_lt f (x.cycle + r + d)) l)
same_over r d f [] = (refl, refl)
same_over r d f (x ∷ xs) =
    let n = same_over r d f xs in
    let e : x.cycle + (r + d) ≡ x.cycle + r + d = omega arith in
    (λ i. cond (nat_le (e i) f) (x ∷ n.0 i) (n.0 i), λ i. cond (nat_lt f (e i)) (x ∷ n.1 i) (n.1 i))

-- of each node the record has the sends from number gone on and below number sent
pub kept_part : (w : WorldFacts) (f : ℕ) (sent : List ℕ) (xs : List Send) → IsLawful w → IsPostedTo w f sent → IsPosted w f sent xs → IsPart w f (gone_of w f) sent xs
unfolding sends_below
kept_part w f sent xs law below post = record {
  part = λ k.
      let l = sends_of k w.sends in
      let m = take (sent_of sent k) l in
      let r = reach w.topo in
      let d = w.topo.byte_time in
      let pos : 0 < d = let b = law.topo.ranges.byte_from in omega arith in
      let q = parted (r + d) f d 0 m (spaced_part d 0 (sent_of sent k) l (spaced w k law)) in
      let whole : filter (over (r + d) f) m ≡ filter (λ x. nat_le (x.cycle + r + d) f) l =
      (same_over r d f m).0 ∙ early (λ x. nat_le (x.cycle + r + d) f) k f (λ x _ h. early_over w.topo f x pos h) d 0 (sent_of sent k) l (only_own k w.sends) (spaced w k law) (below k) in
      post k ∙ sym (same_over r d f m).1 ∙ q.rest ∙ ap (λ (n : List Send). drop (length n) m) whole;
  over = λ k i x lt.
      let l = sends_of k w.sends in
      let r = reach w.topo in
      let d = w.topo.byte_time in
      let q = parted (r + d) f d 0 l (spaced w k law) in
      let same : take (length (filter (over (r + d) f) l)) l ≡ take (gone_of w f k) l = ap (λ (n : List Send). take (length n) l) (same_over r d f l).0 in
      let a = subst (All (λ x. x.cycle + (r + d) ≤ f)) same q.gone in
      let b = a i x lt in omega arith;
}
