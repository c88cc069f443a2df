-- What a node hears shortly after a cycle: of the sends before that cycle, and of no others. A send that is over
-- changes nothing.
use Rattle.std.proofs.Common.{◌≡◌, ℕ, ◌+◌, ◌-◌, ◌<◌, ◌≤◌, Bool, true, false, ◌&&◌, ◌==◌, List, ◌++◌, refl, sym, ◌∙◌, ap, arith, append-nil}
use Rattle.std.specs.Prelude.{nat_le, nat_lt}
use Rattle.std.specs.List.{All, filter}
use Rattle.std.proofs.lemmas.List.Elements.{filter-append}
use Rattle.std.proofs.lemmas.Bool.Decides.{nat_tests}
use Rattle.air_base.specs.declared.air.Send.{Send}
use Rattle.world_core.specs.Topology.{Topology, is_linked, is_open, is_in_time, latency_of}
use Rattle.world_core.specs.Heard.{age_of, heard, is_audible}
use Rattle.world_core.specs.Kept.{is_kept}
use Rattle.air_base.specs.Each.{each_below}
use Rattle.world_core.specs.Order.{Fleet, world_at}
use Rattle.world_core.specs.Sends.{sends_of}
use Rattle.air_base.proofs.Each.{filter_none}
use Rattle.world_core.proofs.Final.{filter_swap, not_kept, through}
use Rattle.world_core.proofs.Order.{heard_same}
use Rattle.fleet_flight.proofs.Near.{near_link}
use Rattle.fleet_flight.proofs.Ordered.{sends_from, sent_all, sent_in}

not_yet_case : (linked opened : Bool) (l s t d : ℕ) → (linked ≡ true → s < t + l) → (linked && (opened && is_in_time l d s t)) ≡ false
not_yet_case false opened l s t d h = refl
not_yet_case true false l s t d h = refl
not_yet_case true true l s t d h =
    let lt : s < t + l = h refl in
    let early : nat_le (t + l) s ≡ false = grind (arith, nat_tests) in
    ap (λ (v : Bool). v && nat_lt s (t + l + d)) early

-- what is sent from cycle c on is not heard before a latency has passed
not_yet : (t : Topology) (k c s ahead : ℕ) (x : Send) → All (λ l. ahead ≤ latency_of t l.from l.to) t.links → c ≤ x.cycle → s < c + ahead → is_audible t k s x ≡ false
not_yet t k c s ahead x each from early =
    not_yet_case (is_linked t x.node k) (is_open t x.node k x.cycle) (latency_of t x.node k) s x.cycle t.byte_time
    (λ on. let near = near_link t ahead x.node k each on in omega arith)

-- of each node what is heard is heard of the sends that are kept
pub heard_in : (t : Topology) (c s k : ℕ) → c ≤ s → (zs : List Send) (m : ℕ) → sends_of m (filter (is_audible t k s) zs) ≡ filter (is_audible t k s) (sends_of m (filter (is_kept t c) zs))
heard_in t c s k late zs m =
    ap (sends_of m) (sym (through (is_audible t k s) (is_kept t c) (λ x e. not_kept t k s c x late e) zs))
    ∙ filter_swap (λ (x : Send). x.node == m) (is_audible t k s) (filter (is_kept t c) zs)

-- two lists whose kept sends are the same of each node
pub kept_heard : (t : Topology) (c s k : ℕ) (xs ys : List Send) → c ≤ s → ((m : ℕ) → sends_of m (filter (is_kept t c) xs) ≡ sends_of m (filter (is_kept t c) ys)) → heard t xs k s ≡ heard t ys k s
unfolding heard
kept_heard t c s k xs ys late same =
    heard_same (age_of t k s) (filter (is_audible t k s) xs) (filter (is_audible t k s) ys)
    (λ m. heard_in t c s k late xs m ∙ ap (filter (is_audible t k s)) (same m) ∙ sym (heard_in t c s k late ys m))

module _ {S R : Type 0} (f : Fleet S R) where
  -- what is sent from cycle a on is not heard in a cycle that is no further than a latency behind it
  pub audible_before : (k s a b ahead : ℕ) → f.start ≤ a → a ≤ b → s < a + ahead → All (λ l. ahead ≤ latency_of f.topo l.from l.to) f.topo.links
      → filter (is_audible f.topo k s) (world_at f b).sends ≡ filter (is_audible f.topo k s) (world_at f a).sends
  audible_before k s a b ahead from later near each =
      let p : Send → Bool = is_audible f.topo k s in
      let n : ℕ = b - a in
      let at : b ≡ a + n = omega arith in
      let made : List Send = each_below n (λ i. each_below f.topo.nodes (sent_in f (a + i))) in
      let none = filter_none p made (sent_all f (λ x. p x ≡ false) a n (λ x low high node. not_yet f.topo k a s ahead x each low near)) in
      ap (λ (t : ℕ). filter p (world_at f t).sends) at ∙ ap (filter p) (sends_from f a n from) ∙ filter-append p (world_at f a).sends made
      ∙ ap (λ (l : List Send). filter p (world_at f a).sends ++ l) none ∙ append-nil (filter p (world_at f a).sends)
