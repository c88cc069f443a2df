-- What the walk back along one node's sends may leave out.
use Rattle.std.proofs.Common.{◌≡◌, ℕ, zero, suc, ◌<◌, ◌≤◌, ◌+◌, ◌-◌, Bool, true, false, ◌&&◌, List, [], length, take, refl, sym, subst, ◌∙◌, ap, arith, take_all}
use Rattle.std.specs.Prelude.{nat_le, nat_lt}
use Rattle.std.specs.List.{filter}
use Rattle.std.proofs.lemmas.Bool.Decides.{nat_tests}
use native.Mathlib.Decide.{ℕ_discrete}
use Rattle.air_base.specs.declared.air.Send.{Send}
use Rattle.world_core.specs.Topology.{Topology, is_linked, is_open, is_in_time, latency_of}
use Rattle.world_core.specs.Heard.{is_audible}
use Rattle.world_core.specs.Sends.{sends_of}
use Rattle.world_core.specs.declared.ways.JumpPointer.{JumpPointer}
use Rattle.world_core.specs.Chain.{no_send, send_at, way_at, newest, Rises, IsChain, IsPlaceOf}
use Rattle.world_core.specs.Over.{IsYoung}
use Rattle.world_core.proofs.Chained.{take_newest, newest_le, newest_node, none_pass, pass_one}

old_case : (linked opened : Bool) (t l d s : ℕ) → t + l + d ≤ s → (linked && (opened && (nat_le (t + l) s && nat_lt s (t + l + d)))) ≡ false
old_case false opened t l d s h = refl
old_case true false t l d s h = refl
old_case true true t l d s h = grind (arith, nat_tests)

soon_case : (linked opened : Bool) (t l d s : ℕ) → s < t + l → (linked && (opened && (nat_le (t + l) s && nat_lt s (t + l + d)))) ≡ false
soon_case false opened t l d s h = refl
soon_case true false t l d s h = refl
soon_case true true t l d s h = grind (arith, nat_tests)

within_case : (t l d s : ℕ) → t + l ≤ s → s < t + l + d → (nat_le (t + l) s && nat_lt s (t + l + d)) ≡ true
within_case t l d s h g = grind (arith, nat_tests)

all_case : (linked opened timely : Bool) → linked ≡ true → opened ≡ true → timely ≡ true → (linked && (opened && timely)) ≡ true
all_case linked opened timely a b c = λ i. a i && (b i && c i)

shut_case : (linked opened timely : Bool) → opened ≡ false → (linked && (opened && timely)) ≡ false
shut_case true opened timely e = ap (λ (b : Bool). b && timely) e
shut_case false opened timely e = refl

pub too_old : (t : Topology) (k j s : ℕ) (x : Send) → x.node ≡ k → x.cycle + latency_of t k j + t.byte_time ≤ s → is_audible t j s x ≡ false
too_old t k j s x e h =
    let g : x.cycle + latency_of t x.node j + t.byte_time ≤ s = subst (λ (n : ℕ). x.cycle + latency_of t n j + t.byte_time ≤ s) (sym e) h in
    old_case (is_linked t x.node j) (is_open t x.node j x.cycle) x.cycle (latency_of t x.node j) t.byte_time s g

pub too_soon : (t : Topology) (k j s : ℕ) (x : Send) → x.node ≡ k → s < x.cycle + latency_of t k j → is_audible t j s x ≡ false
too_soon t k j s x e h =
    let g : s < x.cycle + latency_of t x.node j = subst (λ (n : ℕ). s < x.cycle + latency_of t n j) (sym e) h in
    soon_case (is_linked t x.node j) (is_open t x.node j x.cycle) x.cycle (latency_of t x.node j) t.byte_time s g

pub shut : (t : Topology) (k j s : ℕ) (x : Send) → x.node ≡ k → is_open t k j x.cycle ≡ false → is_audible t j s x ≡ false
shut t k j s x e h =
    shut_case (is_linked t x.node j) (is_open t x.node j x.cycle) (is_in_time (latency_of t x.node j) t.byte_time s x.cycle) (subst (λ (n : ℕ). is_open t n j x.cycle ≡ false) (sym e) h)

pub in_time : (t : Topology) (k j s : ℕ) (x : Send) → x.node ≡ k → is_linked t k j ≡ true → is_open t k j x.cycle ≡ true → x.cycle + latency_of t k j ≤ s → s < x.cycle + latency_of t k j + t.byte_time → is_audible t j s x ≡ true
in_time t k j s x e on opened h g =
    subst (λ (n : ℕ). (is_linked t n j && (is_open t n j x.cycle && is_in_time (latency_of t n j) t.byte_time s x.cycle)) ≡ true) (sym e)
    (all_case (is_linked t k j) (is_open t k j x.cycle) (is_in_time (latency_of t k j) t.byte_time s x.cycle) on opened (within_case x.cycle (latency_of t k j) t.byte_time s h g))

earlier_case : (l : List Send) (i m : ℕ) → Dec (i ≡ m) → Rises l → i ≤ m → m < length l → (send_at l i).node ≡ (send_at l m).node → (send_at l i).cycle ≤ (send_at l m).cycle
earlier_case l i m (yes e) up le lt same = subst (λ (n : ℕ). (send_at l i).cycle ≤ (send_at l n).cycle) e (omega arith)
earlier_case l i m (no d) up le lt same =
    let below : i < m = omega arith in
    let h = up i m no_send below lt same in omega arith

-- where the newest send of a node among the first so many is too old, all are
pub stop : (t : Topology) (l : List Send) (k j s place : ℕ) → place ≤ length l → 0 < place → ((i : ℕ) → suc i ≡ place → (send_at l i).node ≡ k) → Rises l
    → (send_at l (place - 1)).cycle + latency_of t k j + t.byte_time ≤ s → filter (is_audible t j s) (sends_of k (take place l)) ≡ []
stop t l k j s place le pos own up old =
    none_pass (is_audible t j s) l k place le (λ i lt e.
    let m : ℕ = place - 1 in
    let q : suc m ≡ place = omega arith in
    let same : (send_at l i).node ≡ (send_at l m).node = e ∙ sym (own m q) in
    let c : (send_at l i).cycle ≤ (send_at l m).cycle = earlier_case l i m (ℕ_discrete i m) up (omega arith) (omega arith) same in
    let o : (send_at l i).cycle + latency_of t k j + t.byte_time ≤ s = omega arith in
    too_old t k j s (send_at l i) e o)

-- up to its last send stand all sends of the node
pub whole : (l : List Send) (k n : ℕ) → n ≡ newest l k (length l) → sends_of k (take n l) ≡ sends_of k l
whole l k n e =
    ap (λ (m : ℕ). sends_of k (take m l)) e ∙ sym (take_newest l k (length l) (omega arith)) ∙ ap (sends_of k) (take_all (length l) l (omega arith))

pub back_is : (l : List Send) (ways : List JumpPointer) (k place : ℕ) → IsChain l ways → place ≤ length l → 0 < place → IsPlaceOf l k place
    → (way_at ways (place - 1)).before ≡ newest l k (place - 1)
back_is l ways k place ch le pos own =
    let q : suc (place - 1) ≡ place = omega arith in
    ch.back (place - 1) (omega arith) ∙ ap (λ (n : ℕ). newest l n (place - 1)) (own (place - 1) q)

skip_case : (t : Topology) (l : List Send) (k j s q n : ℕ) → Dec (q ≡ suc n) → q ≤ suc n → n < length l
    → ((i : ℕ) → q ≤ i → i < suc n → (send_at l i).node ≡ k → s < (send_at l i).cycle + latency_of t k j)
    → (q ≤ n → filter (is_audible t j s) (sends_of k (take n l)) ≡ filter (is_audible t j s) (sends_of k (take q l)))
    → filter (is_audible t j s) (sends_of k (take (suc n) l)) ≡ filter (is_audible t j s) (sends_of k (take q l))
skip_case t l k j s q n (yes e) le lt young next = ap (λ (m : ℕ). filter (is_audible t j s) (sends_of k (take m l))) (sym e)
skip_case t l k j s q n (no d) le lt young next =
    let h : q ≤ n = omega arith in
    pass_one (is_audible t j s) l k n lt (λ e. too_soon t k j s (send_at l n) e (young n h (omega arith) e)) ∙ next h

-- between two places with none but sends that are too young, the walk may jump
skip : (t : Topology) (l : List Send) (k j s q n : ℕ) → q ≤ n → n ≤ length l
    → ((i : ℕ) → q ≤ i → i < n → (send_at l i).node ≡ k → s < (send_at l i).cycle + latency_of t k j)
    → filter (is_audible t j s) (sends_of k (take n l)) ≡ filter (is_audible t j s) (sends_of k (take q l))
skip t l k j s q zero le within young = let e : 0 ≡ q = omega arith in ap (λ (m : ℕ). filter (is_audible t j s) (sends_of k (take m l))) e
skip t l k j s q (suc n) le within young =
    skip_case t l k j s q n (ℕ_discrete q (suc n)) le (omega arith) young (λ h. skip t l k j s q n h (omega arith) (λ i a b e. young i a (omega arith) e))

-- to a send of this node that is too young itself
pub jump : (t : Topology) (l : List Send) (k j s m n : ℕ) → suc m ≤ n → n ≤ length l → (send_at l m).node ≡ k → Rises l → s < (send_at l m).cycle + latency_of t k j
    → filter (is_audible t j s) (sends_of k (take n l)) ≡ filter (is_audible t j s) (sends_of k (take (suc m) l))
jump t l k j s m n le within own up young =
    skip t l k j s (suc m) n le within (λ i a b e.
    let h : (send_at l m).cycle < (send_at l i).cycle = up m i no_send (omega arith) (omega arith) (own ∙ sym e) in
    omega arith)

pub young_place : (t : Topology) (l : List Send) (k j s place : ℕ) → IsYoung t l k j s place → IsPlaceOf l k place
young_place t l k j s place y i e = let q : place - 1 ≡ i = omega arith in subst (λ (n : ℕ). (send_at l n).node ≡ k) q y.own

-- ---- one step back over a send that is too young
pub back_place : (l : List Send) (ways : List JumpPointer) (k place : ℕ) → IsChain l ways → place ≤ length l → 0 < place → IsPlaceOf l k place
    → ((way_at ways (place - 1)).before < place) × IsPlaceOf l k (way_at ways (place - 1)).before
back_place l ways k place ch le pos own =
    let e = back_is l ways k place ch le pos own in
    ((let h = newest_le l k (place - 1) in omega arith), (λ i f. newest_node l k (place - 1) i (f ∙ e)))

pub back_young : (t : Topology) (l : List Send) (ways : List JumpPointer) (k j s place : ℕ) → IsChain l ways → place ≤ length l → IsYoung t l k j s place
    → filter (is_audible t j s) (sends_of k (take (way_at ways (place - 1)).before l)) ≡ filter (is_audible t j s) (sends_of k (take place l))
back_young t l ways k j s place ch le y =
    let n : ℕ = place - 1 in
    let q : suc n ≡ place = (let h = y.some in omega arith) in
    let lt : n < length l = (let h = y.some in omega arith) in
    let e = back_is l ways k place ch le y.some (young_place t l k j s place y) in
    ap (λ (m : ℕ). filter (is_audible t j s) (sends_of k (take m l))) e
    ∙ ap (filter (is_audible t j s)) (sym (take_newest l k n (omega arith)))
    ∙ sym (pass_one (is_audible t j s) l k n lt (λ f. too_soon t k j s (send_at l n) f y.young))
    ∙ ap (λ (m : ℕ). filter (is_audible t j s) (sends_of k (take m l))) q

pub jump_young : (t : Topology) (l : List Send) (k j s far place : ℕ) → far < place → place ≤ length l → Rises l → IsYoung t l k j s far
    → filter (is_audible t j s) (sends_of k (take far l)) ≡ filter (is_audible t j s) (sends_of k (take place l))
jump_young t l k j s far place lt le up y =
    let m : ℕ = far - 1 in
    let q : suc m ≡ far = (let h = y.some in omega arith) in
    ap (λ (n : ℕ). filter (is_audible t j s) (sends_of k (take n l))) (sym q) ∙ sym (jump t l k j s m place (omega arith) le y.own up y.young)
