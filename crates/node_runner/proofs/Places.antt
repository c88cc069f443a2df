-- A runner that is live, and one that is not.
use Rattle.std.proofs.Common.{◌≡◌, ℕ, ◌≤◌, ◌⊎◌, inl, inr, Bool, true, false, not, ◌&&◌, ◌||◌, refl, sym, subst, ◌∙◌, arith}
use Rattle.std.specs.Prelude.{nat_lt, is_some}
use Rattle.std.proofs.lemmas.Bool.{false≢true}
use Rattle.std.proofs.lemmas.Bool.Decides.{nat_tests}
use Rattle.node_core.specs.State.{NodeState}
use Rattle.node_core.specs.Cycle.{node_kind}
use Rattle.node_core.proofs.Steady.{steady}
use Rattle.world_core.specs.Order.{node_at}
use Rattle.node_runner.specs.Scenario.{ScenarioOf, fleet_of}
use Rattle.node_runner.specs.Place.{Place, is_live, state_at}
use Rattle.node_runner.specs.Flight.{IsAt, IsTaken}

-- what is not live: it stopped, or came to the end
still_case : (a stopped : Bool) (c end : ℕ) → (a || (not stopped && nat_lt c end)) ≡ false → (stopped ≡ true) ⊎ (end ≤ c)
still_case true stopped c end e = absurd (false≢true (sym e))
still_case false true c end e = inl refl
still_case false false c end e = inr (let h : end ≤ c = grind (arith, nat_tests) in h)

calm_case : (a b : Bool) → (a || b) ≡ false → a ≡ false
calm_case true b e = e
calm_case false b e = refl

pub still_calm : (end : ℕ) (p : Place) → is_live end p ≡ false → p.asking ≡ false
still_calm end p e = calm_case p.asking (not (is_some (state_at p).stop) && nat_lt p.cycle end) e

pub still_over : (end : ℕ) (p : Place) → is_live end p ≡ false → (is_some (state_at p).stop ≡ true) ⊎ (end ≤ p.cycle)
still_over end p e = still_case p.asking (is_some (state_at p).stop) p.cycle end e

steady_deaf : (t : ℕ) (s : NodeState) → is_some s.stop ≡ true → node_kind.asks t s ≡ false
steady_deaf t s e = steady.deaf t s e

pub bool_cases : (b : Bool) → (b ≡ true) ⊎ (b ≡ false)
bool_cases true = inl refl
bool_cases false = inr refl

-- a runner is one of this scenario and this node
pub home : (P : ScenarioOf → ℕ → Type 0) (p : Place) (sc : ScenarioOf) (k : ℕ) → p.scenario ≡ sc → p.number ≡ k → P p.scenario p.number → P sc k
home P p sc k a b x = subst (λ (z : ScenarioOf). P z k) a (subst (P p.scenario) b x)

pub away : (P : ScenarioOf → ℕ → Type 0) (p : Place) (sc : ScenarioOf) (k : ℕ) → p.scenario ≡ sc → p.number ≡ k → P sc k → P p.scenario p.number
away P p sc k a b x = subst (P p.scenario) (sym b) (subst (λ (z : ScenarioOf). P z k) (sym a) x)

-- ---- a live runner's rows were taken at the floor
live_case : (sc : ScenarioOf) (end k : ℕ) (p : Place) → IsAt sc end k p → is_live end p ≡ true → (p.asking ≡ true) ⊎ (p.asking ≡ false) → is_some (node_at (fleet_of sc) k p.cycle).stop ≡ true → ⊥
live_case sc end k p at live (inl on) stop = false≢true (sym (steady_deaf p.cycle (node_at (fleet_of sc) k p.cycle) stop) ∙ at.asks on)
live_case sc end k p at live (inr off) stop =
    let here : is_some (state_at p).stop ≡ true = away (λ z n. is_some (node_at (fleet_of z) n p.cycle).stop ≡ true) p sc k at.scenario at.number stop in
    false≢true (sym (λ i. off i || (not (here i) && nat_lt p.cycle end)) ∙ live)

pub live_taken : (sc : ScenarioOf) (floor end k : ℕ) (p : Place) → IsAt sc end k p → IsTaken sc floor k p → is_live end p ≡ true → (p.since ≡ floor) × (floor ≤ p.cycle)
live_taken sc floor end k p at (inl t) live = t
live_taken sc floor end k p at (inr r) live = absurd (live_case sc end k p at live (bool_cases p.asking) r.0)
