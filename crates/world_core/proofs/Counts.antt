-- Sends below a cycle, and what is posted.
use Rattle.std.proofs.Common.{◌≡◌, ℕ, zero, suc, ◌<◌, ◌≤◌, ◌≢◌, Bool, true, false, cond, ◌==◌, List, [], ◌∷◌, ◌++◌, length, take, refl, sym, subst, ◌∙◌, ap, arith, append-nil}
use Rattle.std.specs.Prelude.{nat_lt}
use Rattle.std.specs.List.{filter, All}
use Rattle.std.proofs.lemmas.List.Elements.{filter-append, All-filter}
use Rattle.std.proofs.lemmas.Bool.Decides.{nat_tests}
use native.Mathlib.Decide.{dec_le, ℕ_discrete}
use Rattle.air_base.specs.declared.air.Send.{Send}
use Rattle.world_core.specs.declared.world.WorldFacts.{WorldFacts}
use Rattle.world_core.specs.Topology.{IsInside}
use Rattle.world_core.specs.Sends.{sends_of, sends_below, IsSendNumber}
use Rattle.world_core.specs.Posted.{sent_of, posted, IsWhole}
use Rattle.world_core.specs.Lawful.{IsLawful}
use Rattle.air_base.specs.Each.{each_below}
use Rattle.world_core.proofs.Order.{Only, only_own, test, untest}

fewer_case : (b d : ℕ) (x : Send) (xs : List Send) (u v : Bool) → nat_lt x.cycle b ≡ u → nat_lt x.cycle d ≡ v → b ≤ d
    → length (filter (λ y. nat_lt y.cycle b) xs) ≤ length (filter (λ y. nat_lt y.cycle d) xs)
    → length (cond u (x ∷ filter (λ y. nat_lt y.cycle b) xs) (filter (λ y. nat_lt y.cycle b) xs)) ≤ length (cond v (x ∷ filter (λ y. nat_lt y.cycle d) xs) (filter (λ y. nat_lt y.cycle d) xs))
fewer_case b d x xs true true s t h next = omega arith
fewer_case b d x xs true false s t h next = grind (arith, nat_tests)
fewer_case b d x xs false true s t h next = omega arith
fewer_case b d x xs false false s t h next = next

fewer_below : (b d : ℕ) (l : List Send) → b ≤ d → length (filter (λ y. nat_lt y.cycle b) l) ≤ length (filter (λ y. nat_lt y.cycle d) l)
fewer_below b d [] h = omega arith
fewer_below b d (x ∷ xs) h = fewer_case b d x xs (nat_lt x.cycle b) (nat_lt x.cycle d) refl refl h (fewer_below b d xs h)

pub sends_below-le : (sends : List Send) (k b d : ℕ) → b ≤ d → sends_below sends k b ≤ sends_below sends k d
unfolding sends_below
sends_below-le sends k b d h = fewer_below b d (sends_of k sends) h

only_take : (m n : ℕ) (l : List Send) → Only m l → Only m (take n l)
only_take m zero l o = tt
only_take m (suc n) [] o = tt
only_take m (suc n) (x ∷ xs) o = (o.0, only_take m n xs o.1)

pub all_own : (m : ℕ) (l : List Send) → Only m l → sends_of m l ≡ l
all_own m [] o = refl
all_own m (x ∷ xs) o = ap (λ (b : Bool). cond b (x ∷ sends_of m xs) (sends_of m xs)) (test x.node m o.0) ∙ ap (λ (l : List Send). x ∷ l) (all_own m xs o.1)

pub no_other : (k m : ℕ) (l : List Send) → k ≢ m → Only m l → sends_of k l ≡ []
no_other k m [] n o = refl
no_other k m (x ∷ xs) n o = ap (λ (b : Bool). cond b (x ∷ sends_of k xs) (sends_of k xs)) (untest x.node k (λ e. n (sym e ∙ o.0))) ∙ no_other k m xs n o.1

pub none_past : (nodes limit k : ℕ) (xs : List Send) → nodes ≤ k → All (λ x. (x.node < nodes) × (x.cycle < limit)) xs → sends_of k xs ≡ []
none_past nodes limit k [] h a = refl
none_past nodes limit k (x ∷ xs) h a =
    let here : x.node < nodes = (a 0 x (omega arith)).0 in
    ap (λ (b : Bool). cond b (x ∷ sends_of k xs) (sends_of k xs)) (untest x.node k (λ q. absurd (omega arith))) ∙ none_past nodes limit k xs h (λ i d lt. a (suc i) d (omega arith))

pub no_sends_past : (w : WorldFacts) (k : ℕ) → IsLawful w → w.topo.nodes ≤ k → sends_of k w.sends ≡ []
no_sends_past w k law h = none_past w.topo.nodes w.topo.limit k w.sends h law.sends_in

-- a send of the world is inside
pub send_inside : (w : WorldFacts) (n : ℕ) (x : Send) → IsLawful w → IsSendNumber w n x → IsInside w.topo x.node x.cycle
send_inside w n x law next =
    let P : Send → Type 0 = λ y. IsInside w.topo y.node y.cycle in
    subst P next.1 (All-filter (λ (y : Send). y.node == x.node) P w.sends law.sends_in n x next.0)

-- the posted sends of the nodes below n
abbrev posted_below : List Send → List ℕ → ℕ → List Send
posted_below sends sent n = each_below n (λ k. take (sent_of sent k) (sends_of k sends))

-- the posted sends of node k
posted_miss : (sends : List Send) (sent : List ℕ) (n k : ℕ) → n ≤ k → sends_of k (posted_below sends sent n) ≡ []
posted_miss sends sent zero k h = refl
posted_miss sends sent (suc n) k h =
    filter-append (λ (x : Send). x.node == k) (posted_below sends sent n) (take (sent_of sent n) (sends_of n sends))
    ∙ ap (λ (l : List Send). l ++ sends_of k (take (sent_of sent n) (sends_of n sends))) (posted_miss sends sent n k (omega arith))
    ∙ no_other k n (take (sent_of sent n) (sends_of n sends)) (λ e. absurd (omega arith)) (only_take n (sent_of sent n) (sends_of n sends) (only_own n sends))

posted_hit_case : (sends : List Send) (sent : List ℕ) (n k : ℕ) → Dec (k ≡ n) → k < suc n
    → (k < n → sends_of k (posted_below sends sent n) ≡ take (sent_of sent k) (sends_of k sends))
    → sends_of k (posted_below sends sent n) ++ sends_of k (take (sent_of sent n) (sends_of n sends)) ≡ take (sent_of sent k) (sends_of k sends)
posted_hit_case sends sent n k (yes e) h next =
    ap (λ (l : List Send). l ++ sends_of k (take (sent_of sent n) (sends_of n sends))) (posted_miss sends sent n k (omega arith))
    ∙ ap (λ (m : ℕ). sends_of k (take (sent_of sent m) (sends_of m sends))) (sym e)
    ∙ all_own k (take (sent_of sent k) (sends_of k sends)) (only_take k (sent_of sent k) (sends_of k sends) (only_own k sends))
posted_hit_case sends sent n k (no d) h next =
    ap (λ (l : List Send). sends_of k (posted_below sends sent n) ++ l) (no_other k n (take (sent_of sent n) (sends_of n sends)) d (only_take n (sent_of sent n) (sends_of n sends) (only_own n sends)))
    ∙ append-nil (sends_of k (posted_below sends sent n)) ∙ next (omega arith)

posted_hit : (sends : List Send) (sent : List ℕ) (n k : ℕ) → k < n → sends_of k (posted_below sends sent n) ≡ take (sent_of sent k) (sends_of k sends)
posted_hit sends sent zero k h = absurd (omega arith)
posted_hit sends sent (suc n) k h =
    filter-append (λ (x : Send). x.node == k) (posted_below sends sent n) (take (sent_of sent n) (sends_of n sends))
    ∙ posted_hit_case sends sent n k (ℕ_discrete k n) h (λ g. posted_hit sends sent n k g)

take_nil : (n : ℕ) (l : List Send) → l ≡ [] → take n l ≡ []
take_nil zero l e = refl
take_nil (suc n) l e = ap (take (suc n)) e

posted_is_case : (w : WorldFacts) (sent : List ℕ) (k : ℕ) → Dec (w.topo.nodes ≤ k) → IsLawful w → sends_of k (posted w sent) ≡ take (sent_of sent k) (sends_of k w.sends)
posted_is_case w sent k (yes d) law = posted_miss w.sends sent w.topo.nodes k d ∙ sym (take_nil (sent_of sent k) (sends_of k w.sends) (no_sends_past w k law d))
posted_is_case w sent k (no d) law = posted_hit w.sends sent w.topo.nodes k (omega arith)

pub posted_is : (w : WorldFacts) (sent : List ℕ) → IsLawful w → IsWhole w sent (posted w sent)
posted_is w sent law k = posted_is_case w sent k (dec_le w.topo.nodes k) law

none_before : (l : List Send) → length (filter (λ y. nat_lt y.cycle 0) l) ≡ 0
none_before [] = refl
none_before (x ∷ xs) = let t : nat_lt x.cycle 0 ≡ false = grind (arith, nat_tests) in ap (λ (b : Bool). length (cond b (x ∷ filter (λ y. nat_lt y.cycle 0) xs) (filter (λ y. nat_lt y.cycle 0) xs))) t ∙ none_before xs

pub none_at_zero : (w : WorldFacts) (k : ℕ) → sends_below w.sends k 0 ≡ 0
unfolding sends_below
none_at_zero w k = none_before (sends_of k w.sends)
