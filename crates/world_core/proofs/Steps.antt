-- What each step of the record keeps.
use Rattle.std.proofs.Common.{◌≡◌, ℕ, suc, ◌+◌, ◌-◌, ◌<◌, ◌≤◌, ◌≢◌, Bool, true, false, cond, ◌==◌, List, [], ◌∷◌, ◌++◌, length, take, drop, drop-cons, get_or, set, refl, sym, subst, ◌∙◌, ap, arith, append-nil}
use Rattle.std.specs.List.{filter, Contains}
use Rattle.std.specs.Prelude.{nat_lt}
use Rattle.std.proofs.lemmas.List.Elements.{filter-append}
use Rattle.std.proofs.lemmas.List.{take_more, get_or-set_same, get_or-set_other}
use Rattle.std.proofs.lemmas.Bool.Decides.{nat_tests}
use native.Mathlib.Decide.{ℕ_discrete, dec_le}
use Rattle.air_base.specs.declared.air.Send.{Send}
use Rattle.air_base.specs.declared.air.Ask.{Ask}
use Rattle.air_base.specs.declared.air.Heard.{Heard}
use Rattle.world_core.specs.declared.world.WorldFacts.{WorldFacts}
use Rattle.world_core.specs.Topology.{Topology, is_needed, latency_of, reach}
use Rattle.world_core.specs.Sends.{sends_of, sends_below, IsSendNumber}
use Rattle.world_core.specs.Posted.{sent_of, posted, AllPostedFor}
use Rattle.world_core.specs.Kept.{is_kept, IsPosted, IsPostedTo}
use Rattle.world_core.specs.Settled.{truth, IsFinal}
use Rattle.world_core.specs.Lawful.{IsLawful}
use Rattle.world_core.proofs.Final.{heard_final, late_drop}
use Rattle.world_core.proofs.Order.{only_own}
use Rattle.world_core.proofs.Spaced.{spaced}
use Rattle.world_core.proofs.Counts.{posted_is, sends_below-le, no_sends_past}

-- a reached sample stays reached, and so settled, when more is posted
pub reached_more : (w : WorldFacts) (sent more : List ℕ) (j s : ℕ) → ((k : ℕ) → sent_of sent k ≤ sent_of more k) → AllPostedFor w sent j s → AllPostedFor w more j s
reached_more w sent more j s le r k l = let a = r k l in let b = le k in omega arith

pub final_from : (w : WorldFacts) (sent : List ℕ) (x : Ask) (h : Heard) → IsLawful w → Contains w.asks x → h ≡ truth w x.node x.cycle → AllPostedFor w sent x.node x.cycle → IsFinal w sent (x, h)
final_from w sent x h law asked right r = record {
  asked = asked;
  right = right;
  settled = record { value = right ∙ sym (heard_final w sent (posted w sent) x.node x.cycle law (posted_is w sent law) r); reached = r };
}

pub final_more : (w : WorldFacts) (sent more : List ℕ) (x : Ask × Heard) → IsLawful w → ((k : ℕ) → sent_of sent k ≤ sent_of more k) → IsFinal w sent x → IsFinal w more x
final_more w sent more x law le f = final_from w more x.0 x.1 law f.asked f.right (reached_more w sent more x.0.node x.0.cycle le f.settled.reached)

-- it is enough to look at the nodes of the topology
pub none_below : (w : WorldFacts) (k c : ℕ) → IsLawful w → w.topo.nodes ≤ k → sends_below w.sends k c ≡ 0
unfolding sends_below
none_below w k c law h = ap (λ (l : List Send). length (filter (λ y. nat_lt y.cycle c) l)) (no_sends_past w k law h)

in_case : (w : WorldFacts) (sent : List ℕ) (k c : ℕ) → IsLawful w → Dec (w.topo.nodes ≤ k) → (k < w.topo.nodes → sends_below w.sends k c ≤ sent_of sent k) → sends_below w.sends k c ≤ sent_of sent k
in_case w sent k c law (yes d) h = let e = none_below w k c law d in omega arith
in_case w sent k c law (no d) h = h (omega arith)

pub reached_in : (w : WorldFacts) (sent : List ℕ) (j s : ℕ) → IsLawful w
    → ((k : ℕ) → k < w.topo.nodes → is_needed w.topo k j s ≡ true → sends_below w.sends k (s - latency_of w.topo k j + 1) ≤ sent_of sent k) → AllPostedFor w sent j s
reached_in w sent j s law h k l = in_case w sent k (s - latency_of w.topo k j + 1) law (dec_le w.topo.nodes k) (λ lt. h k lt l)

-- a clock that has passed
pub passed_by : (w : WorldFacts) (sent : List ℕ) (k c clock : ℕ) → sends_below w.sends k clock ≤ sent_of sent k → c < clock → sends_below w.sends k (c + 1) ≤ sent_of sent k
passed_by w sent k c clock passed lt = let m = sends_below-le w.sends k (c + 1) clock (omega arith) in omega arith

pub reached_by : (w : WorldFacts) (sent clocks : List ℕ) (j s : ℕ) → IsLawful w → ((k : ℕ) → sends_below w.sends k (get_or clocks k 0) ≤ sent_of sent k)
    → ((k : ℕ) → k < w.topo.nodes → is_needed w.topo k j s ≡ true → s - latency_of w.topo k j < get_or clocks k 0) → AllPostedFor w sent j s
reached_by w sent clocks j s law passed clear = reached_in w sent j s law (λ k lt l. passed_by w sent k (s - latency_of w.topo k j) (get_or clocks k 0) (passed k) (clear k lt l))

-- one post
sent_here : (sent : List ℕ) (n v : ℕ) → n < length sent → sent_of (set sent n v) n ≡ v
sent_here sent n v h = grind (arith, get_or-set_same)

sent_else : (sent : List ℕ) (n k v : ℕ) → k ≢ n → sent_of (set sent n v) k ≡ sent_of sent k
sent_else sent n k v h = grind (arith, get_or-set_other)

sent_le_case : (sent : List ℕ) (n v k : ℕ) → n < length sent → sent_of sent n ≤ v → Dec (k ≡ n) → sent_of sent k ≤ sent_of (set sent n v) k
sent_le_case sent n v k h le (yes e) = rw (e, sent_here sent n v h) le
sent_le_case sent n v k h le (no d) = rw (sent_else sent n k v d) (omega arith)

pub sent_le : (sent : List ℕ) (n v k : ℕ) → n < length sent → sent_of sent n ≤ v → sent_of sent k ≤ sent_of (set sent n v) k
sent_le sent n v k h le = sent_le_case sent n v k h le (ℕ_discrete k n)

one : (x : Send) (k : ℕ) → k ≡ x.node → sends_of k (x ∷ []) ≡ x ∷ []
one x k e = let t : (x.node == k) ≡ true = grind (arith, nat_tests) in ap (λ (b : Bool). cond b (x ∷ []) []) t

none : (x : Send) (k : ℕ) → k ≢ x.node → sends_of k (x ∷ []) ≡ []
none x k d = let t : (x.node == k) ≡ false = grind (arith, nat_tests) in ap (λ (b : Bool). cond b (x ∷ []) []) t

-- the next send of a spaced list is not below a cycle below which all are posted
not_before : (c : ℕ) (x : Send) (xs : List Send) (b : Bool) → nat_lt x.cycle c ≡ b → filter (λ y. nat_lt y.cycle c) (x ∷ xs) ≡ [] → c ≤ x.cycle
not_before c x xs true t e = let f : x ∷ filter (λ y. nat_lt y.cycle c) xs ≡ [] = sym (ap (λ (b : Bool). cond b (x ∷ filter (λ y. nat_lt y.cycle c) xs) (filter (λ y. nat_lt y.cycle c) xs)) t) ∙ e in absurd cc
not_before c x xs false t e = grind (arith, nat_tests)

late_off : (c : ℕ) (x : Send) → c ≤ x.cycle → nat_lt x.cycle c ≡ false
late_off c x h = grind (arith, nat_tests)

pub next_late : (w : WorldFacts) (c n : ℕ) (x : Send) → IsLawful w → IsSendNumber w n x → sends_below w.sends x.node c ≤ n → c ≤ x.cycle
unfolding sends_below
next_late w c n x law next below =
    let l = sends_of x.node w.sends in
    let p : Send → Bool = λ y. nat_lt y.cycle c in
    let e : filter p (drop n l) ≡ [] = late_drop p x.node c (λ y _ h. late_off c y h) w.topo.byte_time 0 n l (only_own x.node w.sends) (spaced w x.node law) below in
    let d : drop n l ≡ x ∷ drop (suc n) l = drop-cons l n x next.0 ∙ ap (λ (y : Send). y ∷ drop (suc n) l) next.1 in
    not_before c x (drop (suc n) l) (nat_lt x.cycle c) refl (sym (ap (filter p) d) ∙ e)

kept_late : (f c r d : ℕ) → 0 < d → f ≤ c → nat_lt f (c + r + d) ≡ true
kept_late f c r d pos h = grind (arith, nat_tests)

kept_one : (t : Topology) (f : ℕ) (x : Send) → 0 < t.byte_time → f ≤ x.cycle → filter (is_kept t f) (x ∷ []) ≡ x ∷ []
kept_one t f x pos h =
    let k : is_kept t f x ≡ true = kept_late f x.cycle (reach t) t.byte_time pos h in
    ap (λ (b : Bool). cond b (x ∷ []) []) k

posted_case : (w : WorldFacts) (floor : ℕ) (sent : List ℕ) (xs : List Send) (x : Send) (k : ℕ) → x.node < length sent → IsPosted w floor sent xs → IsSendNumber w (sent_of sent x.node) x
    → filter (is_kept w.topo floor) (x ∷ []) ≡ x ∷ [] → Dec (k ≡ x.node) → sends_of k (xs ++ x ∷ []) ≡ filter (is_kept w.topo floor) (take (sent_of (set sent x.node (sent_of sent x.node + 1)) k) (sends_of k w.sends))
posted_case w floor sent xs x k h post next kept (yes e) =
    let n = sent_of sent x.node in
    let l = sends_of x.node w.sends in
    let p = is_kept w.topo floor in
    let more : filter p (take (n + 1) l) ≡ filter p (take n l) ++ x ∷ [] =
    ap (filter p) (take_more l n x next.0 ∙ ap (λ (y : Send). take n l ++ y ∷ []) next.1) ∙ filter-append p (take n l) (x ∷ []) ∙ ap (λ (m : List Send). filter p (take n l) ++ m) kept in
    let at : sends_of x.node (xs ++ x ∷ []) ≡ filter p (take (sent_of (set sent x.node (n + 1)) x.node) l) =
    filter-append (λ (y : Send). y.node == x.node) xs (x ∷ []) ∙ ap (λ (m : List Send). m ++ sends_of x.node (x ∷ [])) (post x.node)
    ∙ ap (λ (m : List Send). filter p (take n l) ++ m) (one x x.node refl) ∙ sym more ∙ ap (λ (m : ℕ). filter p (take m l)) (sym (sent_here sent x.node (n + 1) h)) in
    subst (λ (m : ℕ). sends_of m (xs ++ x ∷ []) ≡ filter p (take (sent_of (set sent x.node (n + 1)) m) (sends_of m w.sends))) (sym e) at
posted_case w floor sent xs x k h post next kept (no d) =
    let n = sent_of sent x.node in
    let p = is_kept w.topo floor in
    filter-append (λ (y : Send). y.node == k) xs (x ∷ []) ∙ ap (λ (m : List Send). m ++ sends_of k (x ∷ [])) (post k)
    ∙ ap (λ (m : List Send). filter p (take (sent_of sent k) (sends_of k w.sends)) ++ m) (none x k d) ∙ append-nil (filter p (take (sent_of sent k) (sends_of k w.sends)))
    ∙ ap (λ (m : ℕ). filter p (take m (sends_of k w.sends))) (sym (sent_else sent x.node k (n + 1) d))

pub posted_more : (w : WorldFacts) (floor : ℕ) (sent : List ℕ) (xs : List Send) (x : Send) → IsLawful w → x.node < length sent → IsPostedTo w floor sent → IsPosted w floor sent xs → IsSendNumber w (sent_of sent x.node) x
    → IsPosted w floor (set sent x.node (sent_of sent x.node + 1)) (xs ++ x ∷ [])
posted_more w floor sent xs x law h below post next k =
    let pos = law.topo.ranges.byte_from in
    posted_case w floor sent xs x k h post next (kept_one w.topo floor x (omega arith) (next_late w floor (sent_of sent x.node) x law next (below x.node))) (ℕ_discrete k x.node)

counts_case : (w : WorldFacts) (sent : List ℕ) (x : Send) (k : ℕ) → x.node < length sent → ((k : ℕ) → sent_of sent k ≤ length (sends_of k w.sends)) → IsSendNumber w (sent_of sent x.node) x
    → Dec (k ≡ x.node) → sent_of (set sent x.node (sent_of sent x.node + 1)) k ≤ length (sends_of k w.sends)
counts_case w sent x k h counts next (yes e) =
    let a = sent_here sent x.node (sent_of sent x.node + 1) h in
    let b : sent_of sent x.node < length (sends_of x.node w.sends) = next.0 in
    subst (λ (m : ℕ). sent_of (set sent x.node (sent_of sent x.node + 1)) m ≤ length (sends_of m w.sends)) (sym e) (omega arith)
counts_case w sent x k h counts next (no d) = let a = sent_else sent x.node k (sent_of sent x.node + 1) d in let b = counts k in omega arith

-- the counts stay within the world's sends
pub counts_more : (w : WorldFacts) (sent : List ℕ) (x : Send) (k : ℕ) → x.node < length sent → ((k : ℕ) → sent_of sent k ≤ length (sends_of k w.sends)) → IsSendNumber w (sent_of sent x.node) x
    → sent_of (set sent x.node (sent_of sent x.node + 1)) k ≤ length (sends_of k w.sends)
counts_more w sent x k h counts next = counts_case w sent x k h counts next (ℕ_discrete k x.node)

-- the next send of a node, as a step of the record takes it
pub next_one : (l : List Send) (n : ℕ) (x : Send) → n < length l → get_or l n x ≡ x → take 1 (drop n l) ≡ x ∷ []
next_one l n x lt e = ap (take 1) (drop-cons l n x lt) ∙ ap (λ (y : Send). y ∷ []) e
