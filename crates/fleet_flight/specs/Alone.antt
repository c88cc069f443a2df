-- One node that runs by itself, where what it hears in each cycle is given. Own to this simulator.
use Rattle.std.specs.Prelude.{ℕ, zero, suc, ◌+◌}
use Rattle.air_base.specs.declared.air.Heard.{Heard}
use Rattle.air_base.specs.NodeKind.{NodeKind, ticked}

-- the state after n cycles from cycle t on, where h says what is heard in a cycle
unfoldable pub alone : {S R : Type 0} → NodeKind S R → (ℕ → Heard) → ℕ → ℕ → S → S
alone m h t zero s = s
alone m h t (suc n) s = ticked m (t + n) (alone m h t n s) (h (t + n))
