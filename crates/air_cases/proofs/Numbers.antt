-- What stands at a place among the sends of a node is the node's send of that number.
use Rattle.std.proofs.Common.{◌≡◌, ℕ, ◌<◌, ◌==◌, true, List, length, get_or, sym, subst, ◌∙◌, ap, arith}
use Rattle.std.proofs.lemmas.List.Elements.{filter_passes}
use Rattle.std.proofs.lemmas.List.{get_or_default}
use Rattle.std.proofs.lemmas.Bool.Decides.{nat_tests}
use Rattle.air_base.specs.declared.air.Send.{Send}
use Rattle.world_core.specs.declared.world.WorldFacts.{WorldFacts}
use Rattle.world_core.specs.Sends.{sends_of, IsSendNumber}

same_node : (a b : ℕ) → (a == b) ≡ true → a ≡ b
same_node a b e = grind (arith, nat_tests)

pub of_node : (xs : List Send) (k n : ℕ) (d : Send) → n < length (sends_of k xs) → (get_or (sends_of k xs) n d).node ≡ k
of_node xs k n d lt = same_node (get_or (sends_of k xs) n d).node k (filter_passes (λ (x : Send). x.node == k) xs n d lt)

pub is_number : (w : WorldFacts) (k n : ℕ) (d x : Send) → n < length (sends_of k w.sends) → get_or (sends_of k w.sends) n d ≡ x → IsSendNumber w n x
is_number w k n d x lt e =
    let node : x.node ≡ k = ap (λ (y : Send). y.node) (sym e) ∙ of_node w.sends k n d lt in
    subst (λ (j : ℕ). (n < length (sends_of j w.sends)) × (get_or (sends_of j w.sends) n x ≡ x)) (sym node) (lt, get_or_default (sends_of k w.sends) n x d lt ∙ e)
