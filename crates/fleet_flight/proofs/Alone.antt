-- One node that runs by itself, cycle after cycle, where what it hears in each cycle is given.
use Rattle.std.proofs.Common.{◌≡◌, ◌⊎◌, inl, inr, ℕ, ◌+◌, Bool, true, false, List, ◌++◌, refl}
use Rattle.air_base.specs.declared.air.Heard.{Heard}
use Rattle.air_base.specs.declared.air.Send.{Send}
use Rattle.air_base.specs.Each.{each_below}
use Rattle.air_base.specs.NodeKind.{NodeKind, ticked_rows}
use Rattle.air_base.specs.NodeRun.{Timed}
use Rattle.world_core.specs.Order.{send_of}
use Rattle.fleet_flight.specs.Alone.{alone}

pub bool_cases : (b : Bool) → (b ≡ true) ⊎ (b ≡ false)
bool_cases true = inl refl
bool_cases false = inr refl

-- the rows of these cycles, and what node k sends in them
abbrev pub alone_rows : {S R : Type 0} → NodeKind S R → (ℕ → Heard) → ℕ → ℕ → S → List R
alone_rows m h t n s = each_below n (λ i. ticked_rows m (t + i) (alone m h t i s) (h (t + i)))

abbrev pub alone_sends : {S R : Type 0} → NodeKind S R → (ℕ → Heard) → ℕ → ℕ → ℕ → S → List Send
alone_sends m h k t n s = each_below n (λ i. send_of (t + i) k (m.sends (t + i) (alone m h t i s)))

-- node k went on from v to w by so many cycles, and what it sent stands behind xs in ys
pub record GoesAlone {S R : Type 0} (m : NodeKind S R) (h : ℕ → Heard) (k : ℕ) (v : Timed S R) (xs : List Send) (w : Timed S R) (ys : List Send) : Type 0 where
  pub count : ℕ
  pub calm : w.asking ≡ false
  pub cycle : w.cycle ≡ v.cycle + count
  pub state : w.state ≡ alone m h v.cycle count v.state
  pub rows : w.rows ≡ v.rows ++ alone_rows m h v.cycle count v.state
  pub sends : ys ≡ xs ++ alone_sends m h k v.cycle count v.state
