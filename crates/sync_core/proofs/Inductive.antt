-- Each step keeps the state consistent, and no list of steps changes a recorded sample.
use Rattle.std.proofs.Common.{◌≡◌, ℕ, zero, suc, ◌+◌, ◌<◌, ◌≤◌, false, Bool, cond, List, [], ◌∷◌, ◌++◌, length, get_or, set, replicate, refl, sym, subst, ◌∙◌, ap, arith, length-set}
use Rattle.std.specs.List.{All, filter}
use Rattle.std.specs.Prelude.{nat_lt}
use Rattle.std.proofs.lemmas.Bool.Decides.{nat_tests}
use Rattle.std.proofs.lemmas.List.{get_or-set_same, get_or-set_other, get_or_default, length-replicate}
use native.Mathlib.Decide.{ℕ_discrete}
use Rattle.air_base.specs.declared.air.Send.{Send}
use Rattle.air_base.specs.declared.air.Ask.{Ask}
use Rattle.air_base.specs.declared.air.Heard.{Heard}
use Rattle.world_core.specs.declared.world.WorldFacts.{WorldFacts}
use Rattle.world_core.specs.Heard.{heard}
use Rattle.world_core.specs.Sends.{sends_of, sends_below, IsSendNumber}
use Rattle.world_core.specs.Posted.{sent_of, AllPostedFor}
use Rattle.world_core.specs.Settled.{truth}
use Rattle.world_core.specs.Lawful.{IsLawful}
use Rattle.world_core.specs.Consistent.{AirState, IsConsistent, clock_of}
use Rattle.world_core.specs.Steps.{opening, MayRaise, MayPost, MaySample, AllPassed, after_raise, after_post, after_sample}
use Rattle.world_core.proofs.Records.{in_nodes, record_opens, record_posted, record_sampled, record_right}
use Rattle.world_core.proofs.Order.{Only, only_own}
use Rattle.world_core.proofs.Steps.{reached_by, reached_more, sent_le, next_one}
use Rattle.sync_core.specs.declared.steps.Step.{Step}
use Rattle.sync_core.specs.declared.steps.Step.TheVariants.{Raise, Post, Sample}
use Rattle.sync_core.specs.Run.{MayStep, after_step, after_steps, AllAllowed, IsUnchanged}

-- a fact of every clock, after one is set
set_keeps : (P : ℕ → ℕ → Type 0) (l : List ℕ) (n v k : ℕ) → n < length l → P n v → P k (get_or l k 0) → Dec (k ≡ n) → P k (get_or (set l n v) k 0)
set_keeps P l n v k h new old (yes e) = subst (λ (m : ℕ). P m (get_or (set l n v) m 0)) (sym e) (subst (P n) (sym (get_or-set_same l n v 0 h)) new)
set_keeps P l n v k h new old (no d) = subst (P k) (sym (get_or-set_other l n k v 0 d)) old

pub raise_keeps : (a : AirState) (k v : ℕ) → IsConsistent a → MayRaise a k v → IsConsistent (after_raise a k v)
raise_keeps a k v i may =
    let h : k < length a.clocks = rw i.nodes may.node in
    record {
      lawful = i.lawful;
      nodes = length-set a.clocks k v ∙ i.nodes;
      within = λ m. set_keeps (λ _ n. n ≤ a.world.topo.limit) a.clocks k v m h may.within (i.within m) (ℕ_discrete m k);
      passed = λ m. set_keeps (λ b n. sends_below a.world.sends b n ≤ sent_of a.sent b) a.clocks k v m h may.posted (i.passed m) (ℕ_discrete m k);
      recorded = i.recorded;
    }

-- ---- posts
-- the state after the send x is posted
abbrev pub with_send : AirState → Send → AirState
with_send a x = record a { sent = set a.sent x.node (sent_of a.sent x.node + 1); sends = a.sends ++ x ∷ [] }

pub post_is : (a : AirState) (x : Send) → IsSendNumber a.world (sent_of a.sent x.node) x → with_send a x ≡ after_post a x.node
post_is a x next =
    ap (λ (l : List Send). record a { sent = set a.sent x.node (sent_of a.sent x.node + 1); sends = a.sends ++ l })
    (sym (next_one (sends_of x.node a.world.sends) (sent_of a.sent x.node) x next.0 next.1))

send_keeps : (a : AirState) (x : Send) → IsConsistent a → IsSendNumber a.world (sent_of a.sent x.node) x → IsConsistent (with_send a x)
send_keeps a x i next =
    let n = sent_of a.sent x.node in
    let h : x.node < length a.sent = let b = in_nodes a.world n x i.lawful next in let e = i.recorded.nodes in omega arith in
    record {
      lawful = i.lawful;
      nodes = i.nodes;
      within = i.within;
      passed = λ k. let b = i.passed k in let c = sent_le a.sent x.node (n + 1) k h (omega arith) in omega arith;
      recorded = record_posted a.world a.floor a.sent a.sends a.samples x i.lawful i.recorded next;
    }

pub send_posts : (a : AirState) (x : Send) → IsConsistent a → IsSendNumber a.world (sent_of a.sent x.node) x → IsConsistent (after_post a x.node)
send_posts a x i next = subst IsConsistent (post_is a x next) (send_keeps a x i next)

no_send : Send
no_send = record { node = 0; cycle = 0; byte = 0 }

only_at : (k : ℕ) (l : List Send) (n : ℕ) (d : Send) → Only k l → n < length l → (get_or l n d).node ≡ k
only_at k [] n d o lt = absurd (omega arith)
only_at k (x ∷ xs) zero d o lt = o.0
only_at k (x ∷ xs) (suc n) d o lt = only_at k xs n d o.1 (omega arith)

-- the next send of node k
pub next_of : (w : WorldFacts) (k n : ℕ) → n < length (sends_of k w.sends) → (x : Send) × (x.node ≡ k) × IsSendNumber w n x
next_of w k n lt =
    let l = sends_of k w.sends in
    let x = get_or l n no_send in
    let e : x.node ≡ k = only_at k l n no_send (only_own k w.sends) lt in
    (x, e, subst (λ (m : ℕ). (n < length (sends_of m w.sends)) × (get_or (sends_of m w.sends) n x ≡ x)) (sym e) (lt, get_or_default l n x no_send lt))

pub post_keeps : (a : AirState) (k : ℕ) → IsConsistent a → MayPost a k → IsConsistent (after_post a k)
post_keeps a k i may =
    let (x, e, next) = next_of a.world k (sent_of a.sent k) may in
    subst (λ (m : ℕ). IsConsistent (after_post a m)) e (send_posts a x i (subst (λ (m : ℕ). IsSendNumber a.world (sent_of a.sent m) x) (sym e) next))

-- ---- samples
pub all_posted : (a : AirState) (j s : ℕ) → IsConsistent a → AllPassed a j s → AllPostedFor a.world a.sent j s
all_posted a j s i passed = reached_by a.world a.sent a.clocks j s i.lawful i.passed (λ k _ n. passed k n)

-- what the recorded sends give is what the world gives
pub sample_right : (a : AirState) (j s : ℕ) → IsConsistent a → a.floor ≤ s → AllPassed a j s → heard a.world.topo a.sends j s ≡ truth a.world j s
sample_right a j s i late passed = record_right a.world a.floor a.sent a.sends a.samples j s i.lawful i.recorded late (all_posted a j s i passed)

pub sample_keeps : (a : AirState) (j s : ℕ) → IsConsistent a → MaySample a j s → IsConsistent (after_sample a j s)
sample_keeps a j s i may = record {
  lawful = i.lawful;
  nodes = i.nodes;
  within = i.within;
  passed = i.passed;
  recorded = record_sampled a.world a.floor a.sent a.sends a.samples j s (heard a.world.topo a.sends j s) i.lawful i.recorded may.asked may.kept (all_posted a j s i may.passed) refl;
}

-- ---- lists of steps
pub step_keeps : (a : AirState) (x : Step) → IsConsistent a → MayStep a x → IsConsistent (after_step a x)
step_keeps a (Raise k c) i may = raise_keeps a k c i may
step_keeps a (Post k) i may = post_keeps a k i may
step_keeps a (Sample j s) i may = sample_keeps a j s i may

pub post_reaches : (a : AirState) (k j s : ℕ) → IsConsistent a → MayPost a k → AllPostedFor a.world a.sent j s → AllPostedFor a.world (after_post a k).sent j s
post_reaches a k j s i may reached =
    let (x, e, next) = next_of a.world k (sent_of a.sent k) may in
    let b = in_nodes a.world (sent_of a.sent k) x i.lawful next in
    let h : k < length a.sent = let f = i.recorded.nodes in omega arith in
    reached_more a.world a.sent (after_post a k).sent j s (λ m. sent_le a.sent k (sent_of a.sent k + 1) m h (omega arith)) reached

-- what is posted for it is enough for ever
stays : (a : AirState) (x : Ask × Heard) (more : List Step) → IsConsistent a → a.floor ≤ x.0.cycle → x.1 ≡ truth a.world x.0.node x.0.cycle → AllPostedFor a.world a.sent x.0.node x.0.cycle → AllAllowed a more
    → heard a.world.topo (after_steps a more).sends x.0.node x.0.cycle ≡ x.1
stays a x [] i late right reached all = record_right a.world a.floor a.sent a.sends a.samples x.0.node x.0.cycle i.lawful i.recorded late reached ∙ sym right
stays a x (Raise k c ∷ more) i late right reached all = stays (after_raise a k c) x more (raise_keeps a k c i all.0) late right reached all.1
stays a x (Post k ∷ more) i late right reached all = stays (after_post a k) x more (post_keeps a k i all.0) late right (post_reaches a k x.0.node x.0.cycle i all.0 reached) all.1
stays a x (Sample j s ∷ more) i late right reached all = stays (after_sample a j s) x more (sample_keeps a j s i all.0) late right reached all.1

pub all_stay : (a : AirState) → IsConsistent a → All (IsUnchanged a) a.samples
all_stay a i k d lt more all = let f = i.recorded.final k d lt in stays a (get_or a.samples k d) more i (i.recorded.late k d lt) f.right f.settled.reached all

-- ---- the opening
none_before : (l : List Send) → length (filter (λ y. nat_lt y.cycle 0) l) ≡ 0
none_before [] = refl
none_before (x ∷ xs) = let t : nat_lt x.cycle 0 ≡ false = grind (arith, nat_tests) in ap (λ (b : Bool). length (cond b (x ∷ filter (λ y. nat_lt y.cycle 0) xs) (filter (λ y. nat_lt y.cycle 0) xs))) t ∙ none_before xs

none_below : (w : WorldFacts) (k c : ℕ) → c ≡ 0 → sends_below w.sends k c ≡ 0
unfolding sends_below
none_below w k c e = ap (λ (m : ℕ). length (filter (λ y. nat_lt y.cycle m) (sends_of k w.sends))) e ∙ none_before (sends_of k w.sends)

zeros : (n i : ℕ) → sent_of (replicate n 0) i ≡ 0
zeros zero i = refl
zeros (suc n) zero = refl
zeros (suc n) (suc i) = zeros n i

pub opens : (w : WorldFacts) → IsLawful w → IsConsistent (opening w)
opens w law = record {
  lawful = law;
  nodes = length-replicate w.topo.nodes 0;
  within = λ k. let z = zeros w.topo.nodes k in omega arith;
  passed = λ k. let z = none_below w k (clock_of (opening w).clocks k) (zeros w.topo.nodes k) in omega arith;
  recorded = record_opens w;
}

pub opens_as : (w : WorldFacts) (n : ℕ) (clocks sent : List ℕ) (sends : List Send) (samples : List (Ask × Heard)) → IsLawful w → n ≡ w.topo.nodes → clocks ≡ replicate n 0 → sent ≡ replicate n 0 → sends ≡ [] → samples ≡ []
    → IsConsistent record { world = w; clocks = clocks; sent = sent; floor = 0; sends = sends; samples = samples }
opens_as w n clocks sent sends samples law e a b d f =
    let zeros_are = ap (λ (m : ℕ). replicate m 0) e in
    let same : opening w ≡ record { world = w; clocks = clocks; sent = sent; floor = 0; sends = sends; samples = samples } =
    λ i. record { world = w; clocks = sym (a ∙ zeros_are) i; sent = sym (b ∙ zeros_are) i; floor = 0; sends = sym d i; samples = sym f i } in
    subst IsConsistent same (opens w law)

-- ---- what a post leaves in the fields
pub count_at : (l : List ℕ) (n k v : ℕ) → n ≡ k → k < length l → v ≡ get_or l n v → v ≡ sent_of l k
count_at l n k v e lt h = let at : n < length l = omega arith in h ∙ get_or_default l n v 0 at ∙ ap (λ (m : ℕ). get_or l m 0) e

pub posts_as : (a : AirState) (x : Send) (n v : ℕ) (sends : List Send) → IsConsistent a → IsSendNumber a.world (sent_of a.sent x.node) x → n ≡ x.node → v ≡ sent_of a.sent x.node → sends ≡ a.sends ++ x ∷ []
    → IsConsistent (record a { sent = set a.sent n (v + 1); sends = sends })
posts_as a x n v sends i next e f q =
    let same : with_send a x ≡ record a { sent = set a.sent n (v + 1); sends = sends } = λ k. record a { sent = set a.sent (sym e k) (sym f k + 1); sends = sym q k } in
    subst IsConsistent same (send_keeps a x i next)

-- ---- what a sample leaves in the fields
abbrev pub with_samples : AirState → List (Ask × Heard) → AirState
with_samples a xs = record a { samples = xs }

pub pushed : (a : AirState) (j s : ℕ) (h : Heard) (xs : List (Ask × Heard)) → h ≡ heard a.world.topo a.sends j s → xs ≡ a.samples ++ (record { node = j; cycle = s }, h) ∷ [] → with_samples a xs ≡ after_sample a j s
pushed a j s h xs e f = ap (with_samples a) (f ∙ ap (λ (v : Heard). a.samples ++ (record { node = j; cycle = s }, v) ∷ []) e)

pub pushed_keeps : (a : AirState) (j s : ℕ) (h : Heard) (xs : List (Ask × Heard)) → IsConsistent a → MaySample a j s → h ≡ heard a.world.topo a.sends j s → xs ≡ a.samples ++ (record { node = j; cycle = s }, h) ∷ []
    → IsConsistent (with_samples a xs)
pushed_keeps a j s h xs i may e f = subst IsConsistent (sym (pushed a j s h xs e f)) (sample_keeps a j s i may)

pub same_keeps : (a : AirState) (xs : List (Ask × Heard)) → IsConsistent a → xs ≡ a.samples → IsConsistent (with_samples a xs)
same_keeps a xs i f = subst IsConsistent (ap (with_samples a) (sym f)) i
