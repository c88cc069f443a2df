-- Up to a send of a node and with it, the node sends no more than the send's number and one.
use Rattle.std.proofs.Common.{◌≡◌, ℕ, ◌+◌, ◌<◌, ◌≤◌, ◌==◌, List, length, get_or, sym, subst, ◌∙◌, ap, arith}
use Rattle.std.specs.List.{All}
use Rattle.std.proofs.lemmas.List.Elements.{All-filter}
use Rattle.air_base.specs.declared.air.Send.{Send}
use Rattle.world_core.specs.declared.world.WorldFacts.{WorldFacts}
use Rattle.world_core.specs.Lawful.{IsLawful}
use Rattle.world_core.specs.Sends.{sends_of, sends_below, IsSendNumber}
use Rattle.world_core.proofs.Ahead.{below_ahead}
use Rattle.air_cases.proofs.Numbers.{of_node, is_number}

pub below_next : (w : WorldFacts) (n told : ℕ) (x : Send) → IsLawful w → IsSendNumber w n x → n < told → sends_below w.sends x.node (x.cycle + 1) ≤ told
below_next w n told x law is lt =
    let r = below_ahead w n (x.cycle + 1) x law is (let b = law.topo.ranges.byte_from in omega arith) in omega arith

-- what stands at a place among the sends of a node is its send of that number, and lies below the limit
pub next_send : (w : WorldFacts) (k n : ℕ) (xs : List Send) (d : Send) → xs ≡ sends_of k w.sends → n < length xs → IsSendNumber w n (get_or xs n d) × ((get_or xs n d).node ≡ k)
next_send w k n xs d same lt =
    let x = get_or xs n d in
    let here : n < length (sends_of k w.sends) = subst (λ (l : List Send). n < length l) same lt in
    let is : get_or (sends_of k w.sends) n d ≡ x = ap (λ (l : List Send). get_or l n d) (sym same) in
    (is_number w k n d x here is, ap (λ (y : Send). y.node) (sym is) ∙ of_node w.sends k n d here)

pub below_limit : (w : WorldFacts) (k n : ℕ) (xs : List Send) (d : Send) → IsLawful w → xs ≡ sends_of k w.sends → n < length xs → (get_or xs n d).cycle < w.topo.limit
below_limit w k n xs d law same lt =
    let all : All (λ (x : Send). x.cycle < w.topo.limit) (sends_of k w.sends) = All-filter (λ (x : Send). x.node == k) (λ x. x.cycle < w.topo.limit) w.sends (λ i e l. (law.sends_in i e l).1) in
    subst (λ (l : List Send). All (λ (x : Send). x.cycle < w.topo.limit) l) (sym same) all n d lt
