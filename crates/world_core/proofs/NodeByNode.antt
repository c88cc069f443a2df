-- The audible sends of one node after another are all audible sends.
use Rattle.std.proofs.Common.{◌≡◌, ℕ, zero, suc, ◌<◌, ◌≤◌, ◌+◌, ◌≢◌, Bool, true, false, cond, ◌&&◌, ◌==◌, List, [], ◌∷◌, ◌++◌, refl, sym, subst, ◌∙◌, ap, arith, append-nil, append_assoc, length, take, take-suc, take_all, get_or}
use Rattle.std.specs.Prelude.{bit_or, nat_le, nat_lt}
use Rattle.std.specs.List.{All, filter}
use Rattle.std.specs.Int.Bits.{or_zero_r}
use Rattle.std.proofs.lemmas.Nat.{or_comm}
use Rattle.std.proofs.lemmas.List.Elements.{filter-append, All-append}
use native.Mathlib.Decide.{dec_le, ℕ_discrete}
use Rattle.air_base.specs.declared.air.Send.{Send}
use Rattle.air_base.specs.declared.air.Heard.{Heard}
use Rattle.air_base.specs.Each.{each_below}
use Rattle.world_core.specs.Topology.{Topology, is_linked, is_open, is_in_time, latency_of, neighbours}
use Rattle.world_core.specs.Heard.{heard, heard_as, heard_from, or_of, is_audible, age_of}
use Rattle.world_core.specs.HeardMore.{heard_with}
use Rattle.world_core.specs.Sends.{sends_of}
use Rattle.world_core.proofs.Order.{Only, only_own, heard_same}
use Rattle.world_core.proofs.Final.{filter_swap}
use Rattle.world_core.proofs.Counts.{none_past, all_own, no_other}
use Rattle.world_core.specs.Over.{heard_over}

push_front : (age : Send → ℕ) (x : Send) (zs : List Send) → heard_with age (heard_from age zs) x ≡ heard_from age (x ∷ zs)
push_front age x [] = refl
push_front age x (y ∷ []) = ap (λ (n : ℕ). heard_as 2 n 0) (or_comm y.byte x.byte ∙ ap (bit_or x.byte) (sym (or_zero_r y.byte)))
push_front age x (y ∷ z ∷ zs) = ap (λ (n : ℕ). heard_as 2 n 0) (or_comm (or_of (y ∷ z ∷ zs)) x.byte)

pub over_is : (age : Send → ℕ) (ys xs : List Send) → heard_over age (heard_from age ys) xs ≡ heard_from age (xs ++ ys)
over_is age ys [] = refl
over_is age ys (x ∷ xs) = ap (λ (h : Heard). heard_with age h x) (over_is age ys xs) ∙ push_front age x (xs ++ ys)

-- the audible sends of the nodes below n
abbrev pub below : Topology → List Send → ℕ → ℕ → ℕ → List Send
below t l j s zero = []
below t l j s (suc n) = filter (is_audible t j s) (sends_of n l) ++ below t l j s n

split : (t : Topology) (l : List Send) (j s m n : ℕ) → sends_of m (below t l j s (suc n)) ≡ filter (is_audible t j s) (sends_of m (sends_of n l)) ++ sends_of m (below t l j s n)
split t l j s m n =
    filter-append (λ (x : Send). x.node == m) (filter (is_audible t j s) (sends_of n l)) (below t l j s n)
    ∙ ap (λ (r : List Send). r ++ sends_of m (below t l j s n)) (filter_swap (λ (x : Send). x.node == m) (is_audible t j s) (sends_of n l))

others : (t : Topology) (l : List Send) (j s m n : ℕ) → m ≢ n → sends_of m (below t l j s (suc n)) ≡ sends_of m (below t l j s n)
others t l j s m n d = split t l j s m n ∙ ap (λ (r : List Send). filter (is_audible t j s) r ++ sends_of m (below t l j s n)) (no_other m n (sends_of n l) d (only_own n l))

past : (t : Topology) (l : List Send) (j s m n : ℕ) → n ≤ m → sends_of m (below t l j s n) ≡ []
past t l j s m zero h = refl
past t l j s m (suc n) h = others t l j s m n (λ e. absurd (omega arith)) ∙ past t l j s m n (omega arith)

there_case : (t : Topology) (l : List Send) (j s m n : ℕ) → Dec (m ≡ n) → m < suc n → (m < n → sends_of m (below t l j s n) ≡ filter (is_audible t j s) (sends_of m l))
    → sends_of m (below t l j s (suc n)) ≡ filter (is_audible t j s) (sends_of m l)
there_case t l j s m n (yes e) h next =
    subst (λ (k : ℕ). sends_of m (below t l j s (suc k)) ≡ filter (is_audible t j s) (sends_of m l)) e
    (split t l j s m m ∙ ap (λ (r : List Send). filter (is_audible t j s) (sends_of m (sends_of m l)) ++ r) (past t l j s m m (omega arith)) ∙ append-nil (filter (is_audible t j s) (sends_of m (sends_of m l)))
    ∙ ap (filter (is_audible t j s)) (all_own m (sends_of m l) (only_own m l)))
there_case t l j s m n (no d) h next = others t l j s m n d ∙ next (omega arith)

there : (t : Topology) (l : List Send) (j s m n : ℕ) → m < n → sends_of m (below t l j s n) ≡ filter (is_audible t j s) (sends_of m l)
there t l j s m zero h = absurd (omega arith)
there t l j s m (suc n) h = there_case t l j s m n (ℕ_discrete m n) h (λ lt. there t l j s m n lt)

same_case : (t : Topology) (l : List Send) (j s m n limit : ℕ) → Dec (n ≤ m) → All (λ x. (x.node < n) × (x.cycle < limit)) l → sends_of m (below t l j s n) ≡ filter (is_audible t j s) (sends_of m l)
same_case t l j s m n limit (yes h) a = past t l j s m n h ∙ sym (ap (filter (is_audible t j s)) (none_past n limit m l h a))
same_case t l j s m n limit (no d) a = there t l j s m n (omega arith)

pub heard_below : (t : Topology) (l : List Send) (j s n limit : ℕ) → All (λ x. (x.node < n) × (x.cycle < limit)) l → heard_from (age_of t j s) (below t l j s n) ≡ heard t l j s
unfolding heard
heard_below t l j s n limit a =
    heard_same (age_of t j s) (below t l j s n) (filter (is_audible t j s) l) (λ m.
    same_case t l j s m n limit (dec_le n m) a ∙ filter_swap (is_audible t j s) (λ (x : Send). x.node == m) l)

deaf_case : (linked a : Bool) → linked ≡ false → (linked && a) ≡ false
deaf_case linked a e = ap (λ (b : Bool). b && a) e

pub deaf_all : (t : Topology) (j s k : ℕ) (l : List Send) → is_linked t k j ≡ false → Only k l → filter (is_audible t j s) l ≡ []
deaf_all t j s k [] e o = refl
deaf_all t j s k (x ∷ xs) e o =
    let off : is_audible t j s x ≡ false = deaf_case (is_linked t x.node j) (is_open t x.node j x.cycle && is_in_time (latency_of t x.node j) t.byte_time s x.cycle)
    (subst (λ (n : ℕ). is_linked t n j ≡ false) (sym o.0) e) in
    ap (λ (b : Bool). cond b (x ∷ filter (is_audible t j s) xs) (filter (is_audible t j s) xs)) off ∙ deaf_all t j s k xs e o.1

-- of a node that is not linked, nothing
pub below_deaf : (t : Topology) (l : List Send) (j s n : ℕ) → is_linked t n j ≡ false → below t l j s n ≡ below t l j s (suc n)
below_deaf t l j s n e = sym (ap (λ (r : List Send). r ++ below t l j s n) (deaf_all t j s n (sends_of n l) e (only_own n l)))

pub below_more : (t : Topology) (l : List Send) (j s n : ℕ) (h : Heard) → h ≡ heard_from (age_of t j s) (below t l j s n)
    → heard_over (age_of t j s) h (filter (is_audible t j s) (sends_of n l)) ≡ heard_from (age_of t j s) (below t l j s (suc n))
below_more t l j s n h e =
    ap (λ (g : Heard). heard_over (age_of t j s) g (filter (is_audible t j s) (sends_of n l))) e ∙ over_is (age_of t j s) (below t l j s n) (filter (is_audible t j s) (sends_of n l))

-- ---- node by node of a list
-- the audible sends of one node
abbrev pub loud : Topology → List Send → ℕ → ℕ → ℕ → List Send
loud t l j s k = filter (is_audible t j s) (sends_of k l)

-- those of the nodes of a list, the last node first
abbrev pub among : Topology → List Send → ℕ → ℕ → List ℕ → List Send
among t l j s [] = []
among t l j s (k ∷ ks) = among t l j s ks ++ loud t l j s k

among_more : (t : Topology) (l : List Send) (j s : ℕ) (ks : List ℕ) (k : ℕ) → among t l j s (ks ++ k ∷ []) ≡ loud t l j s k ++ among t l j s ks
among_more t l j s [] k = sym (append-nil (loud t l j s k))
among_more t l j s (a ∷ bs) k =
    ap (λ (r : List Send). r ++ loud t l j s a) (among_more t l j s bs k) ∙ append_assoc (loud t l j s k) (among t l j s bs) (loud t l j s a)

pub among_next : (t : Topology) (l : List Send) (j s : ℕ) (ks : List ℕ) (i d : ℕ) (h : Heard) → i < length ks → h ≡ heard_from (age_of t j s) (among t l j s (take i ks))
    → heard_over (age_of t j s) h (loud t l j s (get_or ks i d)) ≡ heard_from (age_of t j s) (among t l j s (take (i + 1) ks))
among_next t l j s ks i d h lt e =
    let k : ℕ = get_or ks i d in
    let q : i + 1 ≡ suc i = omega arith in
    ap (λ (g : Heard). heard_over (age_of t j s) g (loud t l j s k)) e ∙ over_is (age_of t j s) (among t l j s (take i ks)) (loud t l j s k)
    ∙ ap (heard_from (age_of t j s)) (sym (ap (λ (n : ℕ). among t l j s (take n ks)) q ∙ ap (among t l j s) (take-suc ks i d lt) ∙ among_more t l j s (take i ks) k))

-- the nodes below n that node j hears are all that give something
more_case : (t : Topology) (l : List Send) (j s n : ℕ) (ks : List ℕ) (b : Bool) → is_linked t n j ≡ b → among t l j s ks ≡ below t l j s n → among t l j s (ks ++ cond b (n ∷ []) []) ≡ below t l j s (suc n)
more_case t l j s n ks true e h = among_more t l j s ks n ∙ ap (λ (r : List Send). loud t l j s n ++ r) h
more_case t l j s n ks false e h = ap (among t l j s) (append-nil ks) ∙ h ∙ below_deaf t l j s n e

among_below : (t : Topology) (l : List Send) (j s n : ℕ) → among t l j s (each_below n (λ k. cond (is_linked t k j) (k ∷ []) [])) ≡ below t l j s n
among_below t l j s zero = refl
among_below t l j s (suc n) = more_case t l j s n (each_below n (λ k. cond (is_linked t k j) (k ∷ []) [])) (is_linked t n j) refl (among_below t l j s n)

pub among_all : (t : Topology) (l : List Send) (j s i : ℕ) (ks : List ℕ) (h : Heard) → ks ≡ neighbours t j → length ks ≤ i → All (λ x. (x.node < t.nodes) × (x.cycle < t.limit)) l → h ≡ heard_from (age_of t j s) (among t l j s (take i ks)) → h ≡ heard t l j s
among_all t l j s i ks h same le inside e =
    e ∙ ap (λ (m : List ℕ). heard_from (age_of t j s) (among t l j s m)) (take_all i ks le ∙ same)
    ∙ ap (heard_from (age_of t j s)) (among_below t l j s t.nodes) ∙ heard_below t l j s t.nodes t.limit inside

-- each of them is a node of the topology, and linked
one_in : (t : Topology) (j n k : ℕ) (b : Bool) → is_linked t n j ≡ b → n < t.nodes → All (λ k. (k < t.nodes) × (is_linked t k j ≡ true)) (cond b (n ∷ []) [])
one_in t j n k true e lt zero d h = (lt, e)
one_in t j n k true e lt (suc i) d h = absurd (omega arith)
one_in t j n k false e lt i d h = absurd (omega arith)

all_in : (t : Topology) (j n : ℕ) → n ≤ t.nodes → All (λ k. (k < t.nodes) × (is_linked t k j ≡ true)) (each_below n (λ k. cond (is_linked t k j) (k ∷ []) []))
all_in t j zero le = λ i d h. absurd (omega arith)
all_in t j (suc n) le = All-append (λ (k : ℕ). (k < t.nodes) × (is_linked t k j ≡ true)) (each_below n (λ k. cond (is_linked t k j) (k ∷ []) [])) (cond (is_linked t n j) (n ∷ []) []) (all_in t j n (omega arith)) (one_in t j n n (is_linked t n j) refl (omega arith))

pub are_linked : (t : Topology) (j : ℕ) → All (λ k. (k < t.nodes) × (is_linked t k j ≡ true)) (neighbours t j)
are_linked t j = all_in t j t.nodes (omega arith)
