-- The topology of a document without a fault is one.
use Rattle.std.proofs.Common.{◌≡◌, ◌≢◌, ap, ℕ, zero, suc, ◌+◌, ◌<◌, ◌≤◌, ◌==◌, ◌&&◌, nat_lt, nat_le, Bool, true, false, pos, negsuc, List, [], ◌∷◌, ◌++◌, length, map, sum, Option, Some, None, is_some, codes, refl, sym, ◌∙◌, arith, lit≤}
use Rattle.air_base.specs.Bounds.{LAST_CYCLE}
use Rattle.air_base.specs.declared.bounds.TheConstants.{LONGEST_BYTE, LONGEST_LATENCY, SHORTEST_BYTE}
use Rattle.std.specs.List.{All, AllPairs, list_all, list_any}
use Rattle.std.specs.Option.{option_map_or}
use Rattle.std.proofs.lemmas.Bool.{and_parts}
use Rattle.std.proofs.lemmas.Bool.Decides.{nat_tests}
use Rattle.std.proofs.lemmas.List.Kept.{AllPairs-cons}
use Rattle.std.proofs.lemmas.List.{length-append}
use Rattle.std.proofs.lemmas.List.Elements.{All-cons}
use Rattle.std.proofs.lemmas.List.Sums.{sum_by-cons}
use Rattle.toml.specs.Data.{Data, integer, array, table, Members, get_member}
use Rattle.world_core.specs.declared.link_table.Link.{Link}
use Rattle.world_core.specs.declared.spans.Span.{Span}
use Rattle.world_core.specs.Topology.{topology, IsTopology, IsSpan, IsSpanOrder}
use Rattle.scenario_file.specs.Document.{on_table, on_array, at_key, array_elements, values_in, elements, members_of, is_whole, number_of, number_at, pair_of, pair_or}
use Rattle.scenario_file.specs.Rules.{version_of, most_cycles, fits, is_node, is_span_behind, end_of, are_spans_behind, are_spans, has_window, has_ranges}
use Rattle.scenario_file.specs.Faults.{nodes, links, link_of, two_equal, goes_to_itself, any_self_link, all_in_range, amount_of, is_few}
use Rattle.scenario_file.specs.Scenario.{latency_of, span_of, spans_at, spans_from, topology_of}
use Rattle.scenario_file.specs.declared.keys.Keys.TheVariants.{Top, OfLink}
use Rattle.scenario_file.specs.declared.keys.Version.{Version}
use Rattle.scenario_file.specs.declared.keys.Version.TheVariants.{First, Second, Third}
use Rattle.scenario_file.proofs.Numbers.{and4, number_bounds, node_bound}
use Rattle.scenario_file.proofs.Lists.{length_map}
use Rattle.scenario_file.proofs.LinkLists.{or_parts, keeps_from}
use Rattle.scenario_file.proofs.Clean.{Early, Clean}
use Rattle.scenario_file.specs.declared.defaults.TheConstants.{BYTE_TIME, LATENCY}

-- ---- what a test of all elements says of their images
all_map : {X Y : Type 0} (P : Y → Type 0) (f : X → Y) (p : X → Bool) → ((x : X) → p x ≡ true → P (f x)) → (xs : List X) → list_all p xs ≡ true → All P (map f xs)
all_map P f p step [] h k d lt = absurd (omega arith)
all_map P f p step (x ∷ xs) h zero d lt = step x (and_parts (p x) (list_all p xs) h).0
all_map P f p step (x ∷ xs) h (suc k) d lt = all_map P f p step xs (and_parts (p x) (list_all p xs) h).1 k d (omega arith)

none_map : {X Y : Type 0} (P : Y → Type 0) (f : X → Y) (p : X → Bool) → ((x : X) → p x ≡ false → P (f x)) → (xs : List X) → list_any p xs ≡ false → All P (map f xs)
none_map P f p step [] h k d lt = absurd (omega arith)
none_map P f p step (x ∷ xs) h zero d lt = step x (or_parts (p x) (list_any p xs) h).0
none_map P f p step (x ∷ xs) h (suc k) d lt = none_map P f p step xs (or_parts (p x) (list_any p xs) h).1 k d (omega arith)

-- ---- a link
record LinkRow (count : ℕ) (d : Data) : Type 0 where
  from : (link_of d).from < count
  to : (link_of d).to < count
  latency : (n : ℕ) → 1 ≤ n → n ≤ 65535 → (1 ≤ latency_of n d) × (latency_of n d ≤ 65535)
  spans : are_spans_behind 0 (elements (codes "open") (members_of d)) ≡ true

open_spans : (o : Option Data) → option_map_or (on_array are_spans) o true ≡ true → are_spans_behind 0 (array_elements o) ≡ true
unfolding are_spans_behind
open_spans None h = refl
open_spans (Some (array ds)) h = (and_parts (nat_lt 0 (length (values_in ds))) (are_spans_behind 0 (values_in ds)) h).1
open_spans (Some _) h = absurd cc

link_row : (version : Version) (count : ℕ) (d : Data) → 0 < count → on_table (has_ranges version count OfLink) d ≡ true → LinkRow count d
link_row version count (table ms) some h =
    let p = and4 (at_key (is_node count) (codes "from") ms) (at_key (is_node count) (codes "to") ms) (at_key (fits 1 65535) (codes "latency") ms) (at_key (on_array are_spans) (codes "open") ms) h in
    record {
      from = node_bound count (get_member (codes "from") ms) some p.0;
      to = node_bound count (get_member (codes "to") ms) some p.1;
      latency = λ n low high. number_bounds 1 65535 n (get_member (codes "latency") ms) low high p.2;
      spans = open_spans (get_member (codes "open") ms) p.3;
    }
link_row version count _ some h = absurd cc

-- ---- spans
-- a span of the link at this place that begins at this cycle or later, or a span of a later link
abbrev IsBehind : ℕ → ℕ → Span → Type 0
IsBehind place last x = (place ≤ x.link) × (x.link ≡ place → last ≤ x.from)

-- spans of so many links that may stand one behind the other, all of links from this place on
record Stands (count place last : ℕ) (xs : List Span) : Type 0 where
  pairs : AllPairs IsSpanOrder xs
  spans : All (IsSpan count) xs
  behind : All (IsBehind place last) xs

span_parts : (last : ℕ) (p : Option (ℕ × ℕ)) → is_span_behind last p ≡ true → (last ≤ (pair_or p).0) × ((pair_or p).0 < (pair_or p).1) × ((pair_or p).1 ≤ LAST_CYCLE) × ((pair_or p).1 ≡ end_of p)
span_parts last None h = absurd cc
span_parts last (Some (a, b)) h = span_case last a b h
  where
    span_case : (last a b : ℕ) → (nat_le last a && nat_lt a b && nat_le b LAST_CYCLE) ≡ true → (last ≤ a) × (a < b) × (b ≤ LAST_CYCLE) × (b ≡ b)
    span_case last a b h =
        let p = and_parts (nat_le last a && nat_lt a b) (nat_le b LAST_CYCLE) h in
        let q = and_parts (nat_le last a) (nat_lt a b) p.0 in
        (grind (arith, nat_tests, q.0), grind (arith, nat_tests, q.1), grind (arith, nat_tests, p.1), refl)

-- one span before them
stands_cons : (count place last next : ℕ) (x : Span) (xs : List Span) → x.link ≡ place → place < count → last ≤ x.from → x.from < x.until → x.until ≤ LAST_CYCLE → x.until ≡ next → Stands count place next xs → Stands count place last (x ∷ xs)
stands_cons count place last next x xs e inside a b c n s = record {
  pairs = AllPairs-cons IsSpanOrder x xs (λ k d lt. let h = s.behind k d lt in (let m = h.0 in omega (arith, m, e), λ same. let f = h.1 (sym same ∙ e) in omega (arith, f, n))) s.pairs;
  spans = All-cons (IsSpan count) x xs (omega (arith, e, inside), b, c) s.spans;
  behind = All-cons (IsBehind place last) x xs (omega (arith, e), λ _. a) (λ k d lt. let h = s.behind k d lt in (h.0, λ same. let f = h.1 same in omega (arith, f, a, b, n)));
}

-- those of one link before those of the links behind it
stands_row : (count place last : ℕ) (es : List Data) (rest : List Span) → place < count → are_spans_behind last es ≡ true → Stands count (place + 1) 0 rest → Stands count place last (map (span_of place) es ++ rest)
unfolding are_spans_behind
stands_row count place last [] rest inside h s = record {
  pairs = s.pairs;
  spans = s.spans;
  behind = λ k d lt. let b = s.behind k d lt in let m = b.0 in (omega (arith, m), λ same. absurd (omega (arith, m, same)));
}
stands_row count place last (e ∷ es) rest inside h s =
    let p = and_parts (is_span_behind last (pair_of e)) (are_spans_behind (end_of (pair_of e)) es) h in
    let q = span_parts last (pair_of e) p.0 in
    stands_cons count place last (end_of (pair_of e)) (span_of place e) (map (span_of place) es ++ rest) refl inside q.0 q.1 q.2 q.3 (stands_row count place (end_of (pair_of e)) es rest inside p.1 s)

no_spans : (count place : ℕ) → Stands count place 0 []
no_spans count place = record { pairs = λ i j d lt len. absurd (omega arith); spans = λ k d lt. absurd (omega arith); behind = λ k d lt. absurd (omega arith) }

stands_all : (version : Version) (nodes count place : ℕ) (ds : List Data) → 0 < nodes → place + length ds ≤ count → list_all (on_table (has_ranges version nodes OfLink)) ds ≡ true → Stands count place 0 (spans_from place ds)
unfolding spans_from
stands_all version nodes count place [] some fits h = no_spans count place
stands_all version nodes count place (d ∷ ds) some fits h =
    let p = and_parts (on_table (has_ranges version nodes OfLink) d) (list_all (on_table (has_ranges version nodes OfLink)) ds) h in
    stands_row count place 0 (elements (codes "open") (members_of d)) (spans_from (place + 1) ds) (omega (arith, fits)) (link_row version nodes d some p.0).spans (stands_all version nodes count (place + 1) ds some (omega (arith, fits)) p.1)

span_count : (place : ℕ) (ds : List Data) → length (spans_from place ds) ≡ sum (map (amount_of OfLink) ds)
unfolding spans_from
span_count place [] = refl
span_count place (d ∷ ds) =
    let a = length-append (spans_at place d) (spans_from (place + 1) ds) in
    let b = length_map (span_of place) (elements (codes "open") (members_of d)) in
    let ih = span_count (place + 1) ds in
    let e = sum_by-cons (λ (n : ℕ). n) (amount_of OfLink d) (map (amount_of OfLink) ds) in
    omega (arith, a, b, ih, e)

-- ---- the numbers
le_from : (n most : ℕ) → nat_le n most ≡ true → n ≤ most
le_from n most h = grind (arith, nat_tests)

few_spans : (ds : List Data) → is_few OfLink ds ≡ true → length (spans_from 0 ds) ≤ 4096
unfolding is_few
few_spans ds h = let f = le_from (sum (map (amount_of OfLink) ds)) 4096 h in let e = span_count 0 ds in omega (arith, f, e)

whole_bounds : (least most : ℕ) (o : Option Data) → is_some o ≡ true → option_map_or is_whole o true ≡ true → option_map_or (fits least most) o true ≡ true → (least ≤ number_of o 0) × (number_of o 0 ≤ most)
whole_bounds least most None there whole h = absurd cc
whole_bounds least most (Some (integer (pos n))) there whole h =
    let p = and_parts (nat_le least n) (nat_le n most) h in (grind (arith, nat_tests, p.0), grind (arith, nat_tests, p.1))
whole_bounds least most (Some (integer (negsuc n))) there whole h = absurd cc
whole_bounds least most (Some _) there whole h = absurd cc

most_long : (version : Version) → most_cycles version ≤ LAST_CYCLE
most_long First = lit≤ tt
most_long Second = lit≤ tt
most_long Third = lit≤ tt

-- ---- no link goes to itself
other_ends : (d : Data) → goes_to_itself d ≡ false → (link_of d).from ≢ (link_of d).to
other_ends d h = ends_case (link_of d).from (link_of d).to h
  where
    ends_case : (a b : ℕ) → (a == b) ≡ false → a ≢ b
    ends_case a b h e = grind (arith, nat_tests)

pub no_self_links : (ds : List Data) → any_self_link ds ≡ false → All (λ l. l.from ≢ l.to) (map link_of ds)
unfolding any_self_link
no_self_links ds h = none_map (λ (l : Link). l.from ≢ l.to) link_of goes_to_itself other_ends ds h

pub link_ends : (version : Version) (count : ℕ) (ds : List Data) → 0 < count → all_in_range version count OfLink ds ≡ true → All (λ l. (l.from < count) × (l.to < count)) (map link_of ds)
unfolding all_in_range
link_ends version count ds some h = all_map (λ (l : Link). (l.from < count) × (l.to < count)) link_of (on_table (has_ranges version count OfLink)) (λ d p. let r = link_row version count d some p in (r.from, r.to)) ds h

own_in : (version : Version) (count latency : ℕ) (ds : List Data) → 0 < count → 1 ≤ latency → latency ≤ 65535 → all_in_range version count OfLink ds ≡ true → All (λ n. (1 ≤ n) × (n ≤ 65535)) (map (latency_of latency) ds)
unfolding all_in_range
own_in version count latency ds some low high h = all_map (λ (n : ℕ). (1 ≤ n) × (n ≤ 65535)) (latency_of latency) (on_table (has_ranges version count OfLink)) (λ d p. (link_row version count d some p).latency latency low high) ds h

stands_in : (version : Version) (nodes count : ℕ) (ds : List Data) → 0 < nodes → length ds ≤ count → all_in_range version nodes OfLink ds ≡ true → Stands count 0 0 (spans_from 0 ds)
unfolding all_in_range
stands_in version nodes count ds some fits h = stands_all version nodes count 0 ds some (omega (arith, fits)) h

-- ---- the topology
pub record TopRow (version : Version) (ms : Members) : Type 0 where
  pub cycles : at_key (fits 1 (most_cycles version)) (codes "cycles") ms ≡ true
  pub latency : at_key (fits 1 65535) (codes "latency") ms ≡ true
  pub byte_time : at_key (fits SHORTEST_BYTE LONGEST_BYTE) (codes "byte_time") ms ≡ true
  pub window : has_window ms ≡ true

pub top_row : (version : Version) (count : ℕ) (ms : Members) → has_ranges version count Top ms ≡ true → TopRow version ms
top_row version count ms h =
    let p = and_parts (at_key (fits 1 3) (codes "version") ms && at_key (fits 1 (most_cycles version)) (codes "cycles") ms && at_key (fits 1 65535) (codes "latency") ms && at_key (fits SHORTEST_BYTE LONGEST_BYTE) (codes "byte_time") ms) (has_window ms) h in
    let q = and4 (at_key (fits 1 3) (codes "version") ms) (at_key (fits 1 (most_cycles version)) (codes "cycles") ms) (at_key (fits 1 65535) (codes "latency") ms) (at_key (fits SHORTEST_BYTE LONGEST_BYTE) (codes "byte_time") ms) p.0 in
    record { cycles = q.1; latency = q.2; byte_time = q.3; window = p.1 }

pub topology_is : (ms : Members) → Clean ms → IsTopology (topology_of ms)
unfolding topology_of
topology_is ms clean =
    let e = clean.before in
    let v = version_of ms in
    let n = length (nodes ms) in
    let latency = number_at (codes "latency") LATENCY ms in
    let t = top_row v n ms e.top in
    let c = whole_bounds 1 (most_cycles v) (get_member (codes "cycles") ms) e.cycles_there e.cycles_whole t.cycles in
    let m = most_long v in
    let l = number_bounds 1 LONGEST_LATENCY LATENCY (get_member (codes "latency") ms) (lit≤ tt) (lit≤ tt) t.latency in
    let b = number_bounds SHORTEST_BYTE LONGEST_BYTE BYTE_TIME (get_member (codes "byte_time") ms) (lit≤ tt) (lit≤ tt) t.byte_time in
    let count = length_map link_of (links ms) in
    let own = length_map (latency_of latency) (links ms) in
    let s = stands_in v n (length (map link_of (links ms))) (links ms) e.some (omega (arith, count)) e.links_in in
    record {
      ranges = record {
        nodes_from = e.some;
        nodes_to = e.few;
        limit_from = c.0;
        limit_to = let h = c.1 in omega (arith, h, m);
        latency_from = l.0;
        latency_to = l.1;
        byte_from = b.0;
        byte_to = b.1;
        ends = link_ends v n (links ms) e.some e.links_in;
        own_count = λ _. own ∙ sym count;
        own_in = own_in v n latency (links ms) e.some l.0 l.1 e.links_in;
        span_count = few_spans (links ms) e.few_spans;
        spans_in = s.spans;
        spans_apart = s.pairs;
      };
      links = keeps_from (map link_of (links ms)) (no_self_links (links ms) e.no_self) clean.no_twice;
    }

-- the topology of the links alone
pub links_are : (ms : Members) → Early ms → two_equal (map link_of (links ms)) ≡ false → IsTopology (topology (length (nodes ms)) 1 1 256 (map link_of (links ms)) [] [])
links_are ms e none = record {
  ranges = record {
    nodes_from = e.some;
    nodes_to = e.few;
    limit_from = lit≤ tt;
    limit_to = lit≤ tt;
    latency_from = lit≤ tt;
    latency_to = lit≤ tt;
    byte_from = lit≤ tt;
    byte_to = lit≤ tt;
    ends = link_ends (version_of ms) (length (nodes ms)) (links ms) e.some e.links_in;
    own_count = λ h. absurd (omega (arith, h));
    own_in = λ k d lt. absurd (omega (arith, lt));
    span_count = lit≤ tt;
    spans_in = λ k d lt. absurd (omega (arith, lt));
    spans_apart = λ i j d lt len. absurd (omega (arith, len));
  };
  links = keeps_from (map link_of (links ms)) (no_self_links (links ms) e.no_self) none;
}

-- a topology made of equal parts
pub topology_made : (ms : Members) (count cycles latency byte_time : ℕ) (ds : List Data) (ls : List Link) (own : List ℕ) (spans : List Span) → count ≡ length (nodes ms) → cycles ≡ number_at (codes "cycles") 0 ms
    → latency ≡ number_at (codes "latency") LATENCY ms → byte_time ≡ number_at (codes "byte_time") BYTE_TIME ms → ds ≡ links ms → ls ≡ map link_of ds → own ≡ map (latency_of latency) ds → spans ≡ spans_from 0 ds
    → topology count cycles latency byte_time ls own spans ≡ topology_of ms
unfolding topology_of
topology_made ms count cycles latency byte_time ds ls own spans n c l b rows are own_are spans_are =
    let all_links = are ∙ ap (map link_of) rows in
    let all_own : own ≡ map (latency_of (number_at (codes "latency") LATENCY ms)) (links ms) = own_are ∙ (λ i. map (latency_of (l i)) (rows i)) in
    let all_spans = spans_are ∙ ap (spans_from 0) rows in
    λ i. topology (n i) (c i) (l i) (b i) (all_links i) (all_own i) (all_spans i)
