-- What the loads of clocks show.
use Rattle.std.proofs.Common.{◌≡◌, ℕ, zero, suc, ◌+◌, ◌<◌, ◌≤◌, Bool, true, false, cond, ◌&&◌, List, [], ◌∷◌, ◌++◌, length, get_or, refl, sym, subst, ◌∙◌, ap, arith, append_assoc, append-nil, length-append}
use Rattle.std.specs.List.{All}
use native.Mathlib.Decide.{ℕ_discrete, dec_le}
use Rattle.world_core.specs.declared.world.WorldFacts.{WorldFacts}
use Rattle.air_base.specs.Each.{each_below}
use Rattle.world_core.specs.Topology.{Topology, is_linked, is_reached_in, place_in, latency_of, neighbours}
use Rattle.world_core.specs.Sends.{sends_below}
use Rattle.world_core.specs.Posted.{sent_of, AllPostedFor}
use Rattle.world_core.specs.Kept.{IsPostedTo}
use Rattle.world_core.specs.Lawful.{IsLawful}
use Rattle.world_core.proofs.Counts.{sends_below-le}
use Rattle.world_core.proofs.Steps.{none_below, reached_in}
use Rattle.neighbour_sync.specs.Seats.{AirFacts}
use Rattle.neighbour_sync.specs.Loads.{looked, IsReached, AreReached}

-- ---- every linked node stands among the neighbours
abbrev one : Topology → ℕ → ℕ → List ℕ
one t j k = cond (is_linked t k j) (k ∷ []) []

module _ (P : ℕ → Type 0) where
  all_left : (xs ys : List ℕ) → All P (xs ++ ys) → All P xs
  all_left [] ys a i d h = absurd (omega arith)
  all_left (x ∷ xs) ys a zero d h = a 0 d (omega arith)
  all_left (x ∷ xs) ys a (suc i) d h = all_left xs ys (λ n e g. a (suc n) e (omega arith)) i d (omega arith)

  all_right : (xs ys : List ℕ) → All P (xs ++ ys) → All P ys
  all_right [] ys a = a
  all_right (x ∷ xs) ys a = all_right xs ys (λ n e g. a (suc n) e (omega arith))

  among_case : (t : Topology) (j n k : ℕ) → Dec (k ≡ n) → All P (each_below n (one t j) ++ one t j n) → k < suc n → is_linked t k j ≡ true → (k < n → P k) → P k
  among_case t j n k (yes e) a lt linked next =
      let here : is_linked t n j ≡ true = subst (λ (m : ℕ). is_linked t m j ≡ true) e linked in
      let last : All P (n ∷ []) = subst (λ (b : Bool). All P (cond b (n ∷ []) [])) here (all_right (each_below n (one t j)) (one t j n) a) in
      subst P (sym e) (last 0 0 (omega arith))
  among_case t j n k (no d) a lt linked next = next (omega arith)

  pub among : (t : Topology) (j n k : ℕ) → All P (each_below n (one t j)) → k < n → is_linked t k j ≡ true → P k
  among t j zero k a lt linked = absurd (omega arith)
  among t j (suc n) k a lt linked = among_case t j n k (ℕ_discrete k n) a lt linked (λ less. among t j n k (all_left (each_below n (one t j)) (one t j n) a) less linked)

pub left_of : (a b : Bool) → (a && b) ≡ true → a ≡ true
left_of true b e = refl
left_of false b e = e

-- where each neighbour is far enough, all that may be heard is posted
pub all_reached : (w : WorldFacts) (sent : List ℕ) (j s : ℕ) → IsLawful w → All (IsReached w sent j s) (neighbours w.topo j) → AllPostedFor w sent j s
all_reached w sent j s law all =
    reached_in w sent j s law (λ k lt needed.
    among (IsReached w sent j s) w.topo j w.topo.nodes k all lt (left_of (is_linked w.topo k j) (is_reached_in w.topo.spans (place_in w.topo.links k j) (latency_of w.topo k j) w.topo.byte_time s) needed) needed)

-- ---- what a seat has loaded, one look after another
pub look_more : (a b c : AirFacts) (m n : List (ℕ × ℕ)) → b ≡ looked a m → c ≡ looked b n → c ≡ looked a (m ++ n)
look_more a b c m n e f = f ∙ ap (λ (x : AirFacts). looked x n) e ∙ ap (λ (l : List (ℕ × ℕ)). record a { loads = l }) (append_assoc a.loads m n)

pub look_none : (a : AirFacts) → a ≡ looked a []
look_none a = ap (λ (l : List (ℕ × ℕ)). record a { loads = l }) (sym (append-nil a.loads))

-- ---- the clocks of all nodes, in order
pub reached_none : (f : ℕ) → AreReached 0 f []
reached_none f = (refl, λ k d lt. absurd (omega arith))

last_is : (l : List (ℕ × ℕ)) (x d : ℕ × ℕ) → get_or (l ++ x ∷ []) (length l) d ≡ x
last_is [] x d = refl
last_is (y ∷ l) x d = last_is l x d

before_is : (l : List (ℕ × ℕ)) (x : ℕ × ℕ) (k : ℕ) (d : ℕ × ℕ) → k < length l → get_or (l ++ x ∷ []) k d ≡ get_or l k d
before_is [] x k d h = absurd (omega arith)
before_is (y ∷ l) x zero d h = refl
before_is (y ∷ l) x (suc k) d h = before_is l x k d (omega arith)

reached_case : (n f c : ℕ) (more : List (ℕ × ℕ)) (k : ℕ) (d : ℕ × ℕ) → length more ≡ n → Dec (k ≡ n) → k < suc n → (k < n → ((get_or more k d).0 ≡ k) × (f ≤ (get_or more k d).1)) → f ≤ c
    → ((get_or (more ++ (n, c) ∷ []) k d).0 ≡ k) × (f ≤ (get_or (more ++ (n, c) ∷ []) k d).1)
reached_case n f c more k d len (yes e) lt old le =
    let at : get_or (more ++ (n, c) ∷ []) k d ≡ (n, c) = ap (λ (m : ℕ). get_or (more ++ (n, c) ∷ []) m d) (e ∙ sym len) ∙ last_is more (n, c) d in
    (ap (λ (p : ℕ × ℕ). p.0) at ∙ sym e, subst (λ (p : ℕ × ℕ). f ≤ p.1) (sym at) le)
reached_case n f c more k d len (no x) lt old le =
    let at : get_or (more ++ (n, c) ∷ []) k d ≡ get_or more k d = before_is more (n, c) k d (omega arith) in
    subst (λ (p : ℕ × ℕ). (p.0 ≡ k) × (f ≤ p.1)) (sym at) (old (omega arith))

pub reached_next : (n f c : ℕ) (more : List (ℕ × ℕ)) → AreReached n f more → f ≤ c → AreReached (n + 1) f (more ++ (n, c) ∷ [])
reached_next n f c more all le =
    (length-append more ((n, c) ∷ []) ∙ ap (λ (m : ℕ). m + 1) all.0, λ k d lt. reached_case n f c more k d all.0 (ℕ_discrete k n) (omega arith) (all.1 k d) le)

-- a node whose clock was at least f has all its sends below f posted
pub posted_to : (w : WorldFacts) (sent : List ℕ) (k f c : ℕ) → sends_below w.sends k c ≤ sent_of sent k → f ≤ c → sends_below w.sends k f ≤ sent_of sent k
posted_to w sent k f c below le = let a = sends_below-le w.sends k f c le in omega arith

pub one_more : (w : WorldFacts) (sent : List ℕ) (n f c k : ℕ) → ((k : ℕ) → k < n → sends_below w.sends k f ≤ sent_of sent k) → sends_below w.sends n c ≤ sent_of sent n → f ≤ c → k < n + 1 → Dec (k ≡ n) → sends_below w.sends k f ≤ sent_of sent k
one_more w sent n f c k old below le lt (yes e) = subst (λ (m : ℕ). sends_below w.sends m f ≤ sent_of sent m) (sym e) (posted_to w sent n f c below le)
one_more w sent n f c k old below le lt (no d) = old k (omega arith)

all_case : (w : WorldFacts) (sent : List ℕ) (f k : ℕ) → IsLawful w → Dec (w.topo.nodes ≤ k) → (k < w.topo.nodes → sends_below w.sends k f ≤ sent_of sent k) → sends_below w.sends k f ≤ sent_of sent k
all_case w sent f k law (yes le) all = let z = none_below w k f law le in omega arith
all_case w sent f k law (no d) all = all (omega arith)

-- where each node's are, all sends below f are posted
pub all_posted : (w : WorldFacts) (sent : List ℕ) (f : ℕ) → IsLawful w → ((k : ℕ) → k < w.topo.nodes → sends_below w.sends k f ≤ sent_of sent k) → IsPostedTo w f sent
all_posted w sent f law all k = all_case w sent f k law (dec_le w.topo.nodes k) (all k)
