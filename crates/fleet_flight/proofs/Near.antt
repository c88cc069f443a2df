-- A bound of the latencies of all links.
use Rattle.std.proofs.Common.{◌≡◌, ℕ, ◌≤◌, true, ◌&&◌, ◌==◌, subst, arith}
use Rattle.std.specs.List.{All}
use Rattle.std.proofs.lemmas.Bool.Decides.{nat_tests}
use Rattle.std.proofs.lemmas.List.Folds.{Any-from_list_any}
use Rattle.world_core.specs.declared.link_table.Link.{Link}
use Rattle.world_core.specs.Topology.{Topology, is_linked, latency_of}

-- a bound of the latency of each link is one of the latency from a node to one that hears it
joined : (m k : ℕ) (y : Link) → ((y.from == m) && (y.to == k)) ≡ true → (y.from ≡ m) × (y.to ≡ k)
joined m k y e = (grind (arith, nat_tests), grind (arith, nat_tests))

pub near_link : (t : Topology) (ahead m k : ℕ) → All (λ l. ahead ≤ latency_of t l.from l.to) t.links → is_linked t m k ≡ true → ahead ≤ latency_of t m k
near_link t ahead m k each e =
    let (i, y, lt, at, q) = Any-from_list_any (λ (l : Link). (l.from == m) && (l.to == k)) t.links e in
    let own : ahead ≤ latency_of t y.from y.to = subst (λ (l : Link). ahead ≤ latency_of t l.from l.to) at (each i y lt) in
    let ends = joined m k y q in
    subst (λ (n : ℕ). ahead ≤ latency_of t n k) ends.0 (subst (λ (n : ℕ). ahead ≤ latency_of t y.from n) ends.1 own)
