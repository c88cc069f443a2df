-- Links that a topology takes, and those that it refuses.
use Rattle.std.proofs.Common.{◌≡◌, ◌≢◌, ◌⊎◌, inl, inr, ℕ, ◌+◌, ◌*◌, cond, ◌<◌, ◌≤◌, Bool, true, false, ◌&&◌, ◌==◌, List, length, take, get_or, sym, ◌∙◌, ap, subst, arith}
use Rattle.std.specs.Prelude.{◌↔◌, IsTrue}
use Rattle.std.specs.List.{Contains, list_any}
use Rattle.std.proofs.lemmas.List.{get_or_default, take_more, length-take-le}
use Rattle.std.proofs.lemmas.List.Folds.{Any-from_list_any, list_any-from_Any, list_any_none}
use Rattle.std.proofs.lemmas.Bool.{false≢true}
use Rattle.std.proofs.lemmas.Bool.Decides.{nat_tests}
use Rattle.world_core.specs.declared.link_table.Link.{Link}
use Rattle.world_core.specs.declared.faults.TopoFault.{TopoFault}
use Rattle.world_core.specs.declared.faults.TopoFault.TheVariants.{Range, SelfLink, TwiceLinked}
use Rattle.world_core.specs.FirstFault.{KeepsBelow}
use Rattle.world_core.specs.Topology.{Topology, HasRanges, IsTopology, IsNewLink, IsLinkFault, IsTopoFault, is_linked}
use Rattle.world_core.specs.LinkTable.{entry_at, entry_in, filled, IsTableOf}
use Rattle.world_core.proofs.LinkRows.{entry_none, entry_some, entry_push, room_left}
use Rattle.world_core.proofs.FirstFaults.{keeps_more, fault_excludes}

-- whether l is the link between these two nodes
abbrev joins : ℕ → ℕ → Link → Bool
joins from to l = (l.from == from) && (l.to == to)

both : (from to : ℕ) (l : Link) → joins from to l ≡ true → (l.from ≡ from) × (l.to ≡ to)
both from to l e = grind (arith, nat_tests)

joins_itself : (l : Link) → joins l.from l.to l ≡ true
joins_itself l = grind (arith, nat_tests)

pub contains_from : (xs : List Link) (x : Link) → list_any (joins x.from x.to) xs ≡ true → Contains xs x
contains_from xs x e =
    let (k, y, lt, at, p) = Any-from_list_any (joins x.from x.to) xs e in
    let b = both x.from x.to y p in
    let same : y ≡ x = λ i. record { from = b.0 i; to = b.1 i } in
    (k, lt, get_or_default xs k x y lt ∙ at ∙ same)

pub any_from : (xs : List Link) (x : Link) → Contains xs x → list_any (joins x.from x.to) xs ≡ true
any_from xs x (k, lt, at) = list_any-from_Any (joins x.from x.to) xs (k, x, lt, at, joins_itself x)

-- a node past the topology is linked with nobody
outside : (n from to : ℕ) (l : Link) → (l.from < n) × (l.to < n) → (n ≤ from) ⊎ (n ≤ to) → joins from to l ≡ false
outside n from to l h (inl a) = grind (arith, nat_tests)
outside n from to l h (inr a) = grind (arith, nat_tests)

pub not_linked : (t : Topology) (from to : ℕ) → IsTopology t → (t.nodes ≤ from) ⊎ (t.nodes ≤ to) → false ≡ is_linked t from to
not_linked t from to law out =
    sym (list_any_none (joins from to) t.links (λ k d lt. outside t.nodes from to (get_or t.links k d) (law.ranges.ends k d lt) out))

-- ---- the loop over the links
module _ (links : List Link) (p : ℕ) (rows : List ℕ) (lt : p < length links) (old : KeepsBelow IsNewLink links p) (table : IsTableOf (take p links) rows) where
  pub twice_at : (d : Link) → (get_or links p d).from < 64 → (get_or links p d).to < 64 → entry_at rows (get_or links p d).from (get_or links p d).to ≢ 0 → IsLinkFault links (TwiceLinked p)
  twice_at d a b e =
      let x = get_or links p d in
      let some : list_any (joins x.from x.to) (take p links) ≡ true = entry_some (take p links) x.from x.to (λ z. e (table.entries x.from x.to a b ∙ z)) in
      let here : (d2 : Link) → Contains (take p links) (get_or links p d2) = λ d2.
      subst (λ (y : Link). Contains (take p links) y) (get_or_default links p d d2 lt) (contains_from (take p links) x some) in
      (record { place = lt; before = old; fault = λ d2 f. f.1 (here d2) }, here)

  free : (d : Link) → (get_or links p d).from < 64 → (get_or links p d).to < 64 → entry_at rows (get_or links p d).from (get_or links p d).to ≡ 0 → list_any (joins (get_or links p d).from (get_or links p d).to) (take p links) ≡ false
  free d a b e = let x = get_or links p d in entry_none (take p links) x.from x.to (sym (table.entries x.from x.to a b) ∙ e)

  pub new_at : (d : Link) → (get_or links p d).from < 64 → (get_or links p d).to < 64 → (get_or links p d).from ≢ (get_or links p d).to → entry_at rows (get_or links p d).from (get_or links p d).to ≡ 0 → KeepsBelow IsNewLink links (p + 1)
  new_at d a b n e =
      let here : IsNewLink (take p links) (get_or links p d) = (n, λ has. false≢true (sym (free d a b e) ∙ any_from (take p links) (get_or links p d) has)) in
      keeps_more IsNewLink links p old (λ d2. subst (λ (x : Link). IsNewLink (take p links) x) (get_or_default links p d d2 lt) here)

  pub table_at : (d : Link) (new : List ℕ) → (get_or links p d).from < 64 → (get_or links p d).to < 64 → entry_at rows (get_or links p d).from (get_or links p d).to ≡ 0
      → ((from to : ℕ) → from < 64 → to < 64 → entry_at new from to ≡ cond (joins from to (get_or links p d)) (p + 1) (entry_at rows from to))
      → filled new ≡ filled rows + 1 → IsTableOf (take (p + 1) links) new
  table_at d new a b e entries count =
      let x = get_or links p d in
      let size : length (take p links) ≡ p = length-take-le p links (omega arith) in
      record {
        entries = λ from to h g.
            entries from to h g ∙ ap (λ (n : ℕ). cond (joins from to x) (p + 1) n) (table.entries from to h g) ∙ ap (λ (n : ℕ). cond (joins from to x) (n + 1) (entry_in (take p links) from to)) (sym size)
            ∙ sym (entry_push (take p links) x from to (free d a b e)) ∙ ap (λ (l : List Link). entry_in l from to) (sym (take_more links p d lt));
        full = let f = table.full in let s = length-take-le (p + 1) links (omega arith) in omega arith;
      }

  pub itself_at : (d : Link) → (get_or links p d).from ≡ (get_or links p d).to → IsLinkFault links (SelfLink p)
  itself_at d e =
      let here : (d2 : Link) → (get_or links p d2).from ≡ (get_or links p d2).to = λ d2. subst (λ (x : Link). x.from ≡ x.to) (get_or_default links p d d2 lt) e in
      (record { place = lt; before = old; fault = λ d2 f. f.0 (here d2) }, here)

  -- the place fits an entry
  pub place_fits : (d : Link) → (get_or links p d).from < 64 → (get_or links p d).to < 64 → length rows ≡ 4096 → entry_at rows (get_or links p d).from (get_or links p d).to ≡ 0 → p < 4096
  place_fits d a b n e =
      let x = get_or links p d in
      let r = room_left rows (64 * x.to + x.from) (omega arith) e in
      let f = table.full in let s = length-take-le p links (omega arith) in omega arith

-- ---- what a refusal says
pub no_ranges : (t : Topology) → ¬ HasRanges t → IsTrue false ↔ HasRanges t
no_ranges t none = ((λ e. absurd (false≢true e)), (λ r. absurd (none r)))

pub fault_of : (t : Topology) (f : TopoFault) → HasRanges t → IsLinkFault t.links f → IsTopoFault t f
fault_of t Range r h = absurd h
fault_of t (SelfLink p) r h = (r, h)
fault_of t (TwiceLinked p) r h = (r, h)

abbrev no_link : Link
no_link = record { from = 0; to = 0 }

pub no_topology : (t : Topology) (f : TopoFault) → IsLinkFault t.links f → IsTopology t → ⊥
no_topology t Range h law = h
no_topology t (SelfLink p) h law = fault_excludes IsNewLink t.links p no_link h.0 law.links
no_topology t (TwiceLinked p) h law = fault_excludes IsNewLink t.links p no_link h.0 law.links
