-- The steps of one node after another, and whose turn it is. These are words of contracts, and no part of what a run is.
use Rattle.std.specs.Prelude.{◌≡◌, ◌⊎◌, ℕ, ◌+◌, ◌≤◌, ◌<◌, Bool, true, false, not, ◌&&◌, ◌||◌, nat_lt, List, [], ◌∷◌, ◌++◌, length, MatchOption}
use Rattle.std.specs.declared.option.Option.{Option}
use Rattle.std.specs.List.{All, filter}
use Rattle.air_base.specs.declared.air.Send.{Send}
use Rattle.air_base.specs.NodeKind.{NodeKind}
use Rattle.air_base.specs.NodeRun.{Timed, Asks, Rests, Sends, Stops, answered}
use Rattle.world_core.specs.Heard.{heard}
use Rattle.world_core.specs.Kept.{is_kept}
use Rattle.world_core.specs.Topology.{Topology}
use Rattle.fleet_flight.specs.Paused.{node_in}
use Rattle.fleet_flight.specs.declared.turns.Turn.{Turn}

-- ---- one step

-- the send stands behind the record xs in ys, from which those may be gone that are over at the cycle `low`
abbrev pub Grows : Topology → ℕ → List Send → Send → List Send → Type 0
Grows t low xs x ys = (ys ≡ xs ++ x ∷ []) ⊎ (ys ≡ filter (is_kept t low) xs ++ x ∷ [])

-- node k, which waits at its sample, is answered from the record
pub record Answers {S R : Type 0} (m : NodeKind S R) (t : Topology) (k : ℕ) (v : Timed S R) (xs : List Send) (w : Timed S R) (ys : List Send) : Type 0 where
  pub asking : v.asking ≡ true
  pub node : w ≡ answered m v (heard t xs k v.cycle)
  pub sends : ys ≡ xs

-- it comes to the cycle `end`, or is stopped before; or it comes to a cycle before that samples
pub record Passes {S R : Type 0} (m : NodeKind S R) (end : ℕ) (v : Timed S R) (xs : List Send) (w : Timed S R) (ys : List Send) : Type 0 where
  pub calm : v.asking ≡ false
  pub rests : Rests m v end w ⊎ ((w.cycle ≤ end) × Stops m v w)
  pub sends : ys ≡ xs

pub record Samples {S R : Type 0} (m : NodeKind S R) (end : ℕ) (v : Timed S R) (xs : List Send) (w : Timed S R) (ys : List Send) : Type 0 where
  pub calm : v.asking ≡ false
  pub cycle : ℕ
  pub early : cycle < end
  pub asks : Asks m v cycle w
  pub sends : ys ≡ xs

-- it comes through a cycle before that sends
pub record Posts {S R : Type 0} (m : NodeKind S R) (t : Topology) (k low end : ℕ) (v : Timed S R) (xs : List Send) (w : Timed S R) (ys : List Send) : Type 0 where
  pub calm : v.asking ≡ false
  pub cycle : ℕ
  pub byte : ℕ
  pub early : cycle < end
  pub sends : Sends m v cycle byte w
  pub grows : Grows t low xs (record { node = k; cycle = cycle; byte = byte }) ys

abbrev pub Takes : {S R : Type 0} → NodeKind S R → Topology → ℕ → ℕ → ℕ → Timed S R → List Send → Timed S R → List Send → Type 0
Takes m t k low end v xs w ys = Answers m t k v xs w ys ⊎ (Passes m end v xs w ys ⊎ (Samples m end v xs w ys ⊎ Posts m t k low end v xs w ys))

-- ---- whose turn it is

-- it can go on before the cycle `end`: it waits for an answer, or has neither stopped nor come so far
abbrev pub is_live : {S R : Type 0} → NodeKind S R → ℕ → Timed S R → Bool
is_live m end v = v.asking || (not (m.is_stopped v.state) && nat_lt v.cycle end)

-- no live node has a lower cycle
abbrev pub IsLow : {S R : Type 0} → NodeKind S R → ℕ → ℕ → List (Timed S R) → Type 0
IsLow m end low vs = (j : ℕ) (d : Timed _ _) → j < length vs → is_live m end (node_in vs j d) ≡ true → low ≤ (node_in vs j d).cycle

-- a node that is live, and not as far as `ahead` cycles beyond one that no live node is below
pub record MayStep {S R : Type 0} (m : NodeKind S R) (end ahead : ℕ) (vs : List (Timed S R)) (t : Turn) : Type 0 where
  pub within : t.number < length vs
  pub live : (d : Timed S R) → is_live m end (node_in vs t.number d) ≡ true
  pub near : (d : Timed S R) → (node_in vs t.number d).cycle < t.low + ahead
  pub low : IsLow m end t.low vs

-- no node is live, or this one may take a step
abbrev pub IsTurn : {S R : Type 0} → NodeKind S R → ℕ → ℕ → List (Timed S R) → Option Turn → Type 0
IsTurn m end ahead vs r = MatchOption r (All (λ v. is_live m end v ≡ false) vs) (MayStep m end ahead vs)
