-- The links of a ring.
use Rattle.std.proofs.Common.{◌≡◌, ◌≢◌, ◌↔◌, ℕ, ◌+◌, ◌%◌, ◌<◌, ◌≤◌, ◌==◌, ◌⊎◌, inl, inr, Bool, true, false, if◌then◌else◌, List, [], length, map, take, get_or, refl, sym, ap, subst, ◌∙◌, arith, length-take, min, lit≤, eqb-true, eq-eqb}
use Rattle.std.proofs.Math.Nat.{mod_self, mod-eq_of_lt, eq-or-lt_of_le}
use Rattle.std.proofs.lemmas.List.FromFn.{length-map-range_with_len, get_or-map-range_with_len}
use Rattle.std.proofs.lemmas.List.{get_or-take}
use Rattle.std.specs.List.{Contains, range_with_len}
use Rattle.world_core.specs.declared.link_table.Link.{Link}
use Rattle.world_core.specs.Topology.{HasRanges, IsNewLink, IsTopology, is_linked}
use Rattle.world_core.proofs.Links.{contains_from, any_from}
use Rattle.sample_maker.specs.Network.{IsNext, link_from, ring_links, ring_topology}
use Rattle.air_base.specs.declared.bounds.TheConstants.{MOST_NODES}

abbrev links_by : Bool → ℕ → List Link
links_by b nodes = if b then [] else map (link_from nodes) (range_with_len 0 nodes)

-- the link at place k
record IsAt (nodes k : ℕ) (l : Link) : Type 0 where
  pub is : l ≡ link_from nodes k
  pub below : k < nodes
  pub several : nodes ≢ 1

at_by : (b : Bool) (nodes k : ℕ) (d : Link) → b ≡ (nodes == 1) → k < length (links_by b nodes) → IsAt nodes k (get_or (links_by b nodes) k d)
at_by true nodes k d e h = absurd (omega arith)
at_by false nodes k d e h =
    let below : k < nodes = omega (arith, length-map-range_with_len (link_from nodes) 0 nodes) in
    record {
      is = get_or-map-range_with_len (link_from nodes) 0 nodes k k d below (omega arith);
      below = below;
      several = λ q. let one : (nodes == 1) ≡ true = eq-eqb nodes 1 q in absurd (cc);
    }

at : (nodes k : ℕ) (d : Link) → k < length (ring_links nodes) → IsAt nodes k (get_or (ring_links nodes) k d)
unfolding ring_links
at nodes k d h = at_by (nodes == 1) nodes k d refl h

count_by_test : (b : Bool) (nodes : ℕ) → length (links_by b nodes) ≡ (if b then 0 else nodes)
count_by_test true nodes = refl
count_by_test false nodes = length-map-range_with_len (link_from nodes) 0 nodes

pub count : (nodes : ℕ) → length (ring_links nodes) ≡ (if nodes == 1 then 0 else nodes)
unfolding ring_links
count nodes = count_by_test (nodes == 1) nodes

-- the next node is another one
record IsOther (nodes k : ℕ) : Type 0 where
  pub below : (k + 1) % nodes < nodes
  pub other : k ≢ (k + 1) % nodes

other_by : (nodes k : ℕ) → nodes ≢ 1 → (k + 1 ≡ nodes) ⊎ (k + 1 < nodes) → IsOther nodes k
other_by nodes k several (inl e) =
    let z : (k + 1) % nodes ≡ 0 = rw e (mod_self nodes) in
    record { below = omega arith; other = λ q. several (omega arith) }
other_by nodes k several (inr h) =
    let z : (k + 1) % nodes ≡ k + 1 = mod-eq_of_lt h in
    record { below = omega arith; other = λ q. absurd (omega arith) }

other : (nodes k : ℕ) → nodes ≢ 1 → k < nodes → IsOther nodes k
other nodes k several h = other_by nodes k several (eq-or-lt_of_le (omega arith))

ranges : (number nodes : ℕ) → 1 ≤ nodes → nodes ≤ MOST_NODES → HasRanges (ring_topology number nodes)
ranges number nodes some few = record {
  nodes_from = some;
  nodes_to = few;
  limit_from = lit≤ tt;
  limit_to = lit≤ tt;
  latency_from = omega arith;
  latency_to = omega arith;
  byte_from = lit≤ tt;
  byte_to = lit≤ tt;
  ends = λ k d h.
      let a = at nodes k d h in
      subst (λ (l : Link). (l.from < nodes) × (l.to < nodes)) (sym a.is) (a.below, (other nodes k a.several a.below).below);
  own_count = λ h. absurd (omega arith);
  own_in = λ k d h. absurd (omega arith);
  span_count = omega arith;
  spans_in = λ k d h. absurd (omega arith);
  spans_apart = λ i j d h lt. absurd (omega arith);
}

new_link : (nodes i : ℕ) (d : Link) → i < length (ring_links nodes) → IsNewLink (take i (ring_links nodes)) (get_or (ring_links nodes) i d)
new_link nodes i d h =
    let links = ring_links nodes in
    let a = at nodes i d h in
    subst (λ (l : Link). IsNewLink (take i links) l) (sym a.is) (
      (other nodes i a.several a.below).other,
      λ (j, lt, same).
          let short : length (take i links) ≡ min i (length links) = length-take i links in
          let before : j < i = omega arith in
          let within : j < length links = omega arith in
          let b = at nodes j (link_from nodes i) within in
          let e : link_from nodes j ≡ link_from nodes i = sym b.is ∙ (sym (get_or-take i links j (link_from nodes i) before) ∙ same) in
          let bad : j ≡ i = ap (λ (l : Link). l.from) e in
          absurd (omega arith),
    )

pub lawful : (number nodes : ℕ) → 1 ≤ nodes → nodes ≤ MOST_NODES → IsTopology (ring_topology number nodes)
lawful number nodes some few = record { ranges = ranges number nodes some few; links = λ i d h. new_link nodes i d h }

-- ---- who hears whom
next_of : (nodes from to : ℕ) → Contains (ring_links nodes) (record { from = from; to = to }) → IsNext nodes from to
next_of nodes from to (k, lt, same) =
    let x : Link = record { from = from; to = to } in
    let a = at nodes k x lt in
    let e : link_from nodes k ≡ x = sym a.is ∙ same in
    let f : k ≡ from = ap (λ (l : Link). l.from) e in
    let t : (k + 1) % nodes ≡ to = ap (λ (l : Link). l.to) e in
    (a.several, subst (λ i. i < nodes) f a.below, sym t ∙ ap (λ i. (i + 1) % nodes) f)

several_count : (b : Bool) (nodes : ℕ) → b ≡ (nodes == 1) → nodes ≢ 1 → (if b then 0 else nodes) ≡ nodes
several_count true nodes e h = absurd (h (eqb-true nodes 1 (sym e)))
several_count false nodes e h = refl

is_there : (nodes from to : ℕ) → IsNext nodes from to → Contains (ring_links nodes) (record { from = from; to = to })
is_there nodes from to n =
    let x : Link = record { from = from; to = to } in
    let all : length (ring_links nodes) ≡ nodes = count nodes ∙ several_count (nodes == 1) nodes refl n.0 in
    let within : from < length (ring_links nodes) = subst (λ m. from < m) (sym all) n.1 in
    let a = at nodes from x within in
    let same : link_from nodes from ≡ x = λ i. record { from = from; to = sym n.2 i } in
    (from, within, a.is ∙ same)

pub hears : (number nodes from to : ℕ) → (is_linked (ring_topology number nodes) from to ≡ true) ↔ IsNext nodes from to
hears number nodes from to =
    let x : Link = record { from = from; to = to } in
    (λ h. next_of nodes from to (contains_from (ring_links nodes) x h), λ n. any_from (ring_links nodes) x (is_there nodes from to n))
