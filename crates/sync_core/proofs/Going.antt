-- The node that is furthest behind waits for nobody, and each node below the limit may go on.
use Rattle.std.proofs.Common.{◌≡◌, inl, inr, ℕ, ◌+◌, ◌-◌, ◌<◌, ◌≤◌, Bool, true, length, refl, sym, subst, ◌∙◌, arith}
use Rattle.std.specs.Prelude.{nat_lt, not}
use Rattle.std.specs.List.{Contains}
use Rattle.std.proofs.lemmas.Bool.{false≢true}
use Rattle.std.proofs.lemmas.List.{get_or-set_same}
use Rattle.std.proofs.lemmas.List.Filters.{length-filter_both}
use native.Mathlib.Decide.{dec_le}
use Rattle.air_base.specs.declared.air.Send.{Send}
use Rattle.world_core.specs.Topology.{is_linked, is_needed, is_reached_in, latency_of, place_in}
use Rattle.world_core.specs.Sends.{sends_of, sends_below, IsSendNumber}
use Rattle.world_core.specs.Posted.{sent_of}
use Rattle.world_core.specs.Consistent.{AirState, IsConsistent, clock_of}
use Rattle.world_core.specs.Steps.{AllPassed, MayPost, MayRaise, MaySample, after_post}
use Rattle.world_core.proofs.Ahead.{below_ahead}
use Rattle.world_core.proofs.Cuts.{needed_hears}
use Rattle.world_core.proofs.Final.{latency_from}
use Rattle.world_core.proofs.Links.{not_linked}
use Rattle.world_core.proofs.Steps.{next_late}
use Rattle.sync_core.specs.Going.{IsFurthestBehind, MayGoOn}
use Rattle.sync_core.proofs.Inductive.{next_of}
use Rattle.sync_core.proofs.Waiting.{first_true}

-- ---- samples
-- only nodes that there are can be heard
passed_case : (a : AirState) (j k : ℕ) → IsConsistent a → IsFurthestBehind a j → is_needed a.world.topo k j (clock_of a.clocks j) ≡ true → Dec (a.world.topo.nodes ≤ k) → clock_of a.clocks j - latency_of a.world.topo k j < clock_of a.clocks k
passed_case a j k i last needed (yes d) =
    let t = a.world.topo in
    absurd (false≢true (not_linked t k j i.lawful.topo (inl d) ∙ first_true (is_linked t k j) (is_reached_in t.spans (place_in t.links k j) (latency_of t k j) t.byte_time (clock_of a.clocks j)) needed))
passed_case a j k i last needed (no d) =
    let hears = needed_hears a.world.topo k j (clock_of a.clocks j) i.lawful.topo needed in
    let one = latency_from a.world.topo k j i.lawful.topo in
    let from = hears.from in
    let le = last k (omega arith) in omega arith

all_passed : (a : AirState) (j : ℕ) → IsConsistent a → IsFurthestBehind a j → AllPassed a j (clock_of a.clocks j)
all_passed a j i last k needed = passed_case a j k i last needed (dec_le a.world.topo.nodes k)

pub may_sample : (a : AirState) (j : ℕ) → IsConsistent a → IsFurthestBehind a j → Contains a.world.asks record { node = j; cycle = clock_of a.clocks j } → a.floor ≤ clock_of a.clocks j → MaySample a j (clock_of a.clocks j)
may_sample a j i last asked kept = record { asked = asked; kept = kept; passed = all_passed a j i last }

-- ---- clocks
raised : (a : AirState) (k : ℕ) → k < a.world.topo.nodes → clock_of a.clocks k < a.world.topo.limit → sends_below a.world.sends k (clock_of a.clocks k + 1) ≤ sent_of a.sent k → MayRaise a k (clock_of a.clocks k + 1)
raised a k node within posted = record { node = node; rises = omega arith; within = omega arith; posted = posted }

-- a node has at most one send in a cycle
one_send : (a : AirState) (k : ℕ) (x : Send) → IsConsistent a → x.node ≡ k → IsSendNumber a.world (sent_of a.sent k) x → sends_below a.world.sends k (clock_of a.clocks k + 1) ≤ sent_of a.sent k + 1
one_send a k x i e next =
    let c = clock_of a.clocks k in
    let below : sends_below a.world.sends x.node c ≤ sent_of a.sent k = subst (λ (m : ℕ). sends_below a.world.sends m c ≤ sent_of a.sent k) (sym e) (i.passed k) in
    let late = next_late a.world c (sent_of a.sent k) x i.lawful next below in
    let long = i.lawful.topo.ranges.byte_from in
    subst (λ (m : ℕ). sends_below a.world.sends m (c + 1) ≤ sent_of a.sent k + 1) e (below_ahead a.world (sent_of a.sent k) (c + 1) x i.lawful next (omega arith))

posts_then : (a : AirState) (k : ℕ) → IsConsistent a → k < a.world.topo.nodes → clock_of a.clocks k < a.world.topo.limit → MayPost a k → MayRaise (after_post a k) k (clock_of a.clocks k + 1)
posts_then a k i node within may =
    let (x, e, next) = next_of a.world k (sent_of a.sent k) may in
    let one = one_send a k x i e next in
    let h : k < length a.sent = let n = i.recorded.nodes in omega arith in
    let now : sent_of (after_post a k).sent k ≡ sent_of a.sent k + 1 = get_or-set_same a.sent k (sent_of a.sent k + 1) 0 h in
    raised (after_post a k) k node within (omega arith)

below_all : (a : AirState) (k : ℕ) → sends_below a.world.sends k (clock_of a.clocks k + 1) ≤ length (sends_of k a.world.sends)
unfolding sends_below
below_all a k =
    let p : Send → Bool = λ x. nat_lt x.cycle (clock_of a.clocks k + 1) in
    let e = length-filter_both p (λ x. not (p x)) (λ x. refl) (sends_of k a.world.sends) in omega arith

goes_case : (a : AirState) (k : ℕ) → IsConsistent a → k < a.world.topo.nodes → clock_of a.clocks k < a.world.topo.limit → Dec (sends_below a.world.sends k (clock_of a.clocks k + 1) ≤ sent_of a.sent k) → Dec (length (sends_of k a.world.sends) ≤ sent_of a.sent k) → MayGoOn a k
goes_case a k i node within (yes posted) d = inl (raised a k node within posted)
goes_case a k i node within (no unposted) (no more) = let may : MayPost a k = omega arith in inr (may, posts_then a k i node within may)
goes_case a k i node within (no unposted) (yes all) = absurd (let le = below_all a k in omega arith)

pub may_go_on : (a : AirState) (k : ℕ) → IsConsistent a → k < a.world.topo.nodes → clock_of a.clocks k < a.world.topo.limit → MayGoOn a k
may_go_on a k i node within =
    goes_case a k i node within (dec_le (sends_below a.world.sends k (clock_of a.clocks k + 1)) (sent_of a.sent k)) (dec_le (length (sends_of k a.world.sends)) (sent_of a.sent k))
