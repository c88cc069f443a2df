-- The first of many numbers at which a test holds, and what a flag is after as many.
use Rattle.std.specs.Prelude.{◌≡◌, ℕ, zero, suc, ◌<◌, nat_lt, ◌||◌, if◌then◌else◌, Bool, true, false, Option, Some, None}

-- the first number at which a test holds; none where it holds nowhere
abbrev pub First : (ℕ → Bool) → Option ℕ → Type 0
First p (Some w) = (p w ≡ true) × ((i : ℕ) → i < w → p i ≡ false)
First p None = (i : ℕ) → p i ≡ false

-- whether a first number is one of the k numbers below k
abbrev pub is_before : Option ℕ → ℕ → Bool
is_before None k = false
is_before (Some w) k = nat_lt w k

-- the lesser of two first numbers
abbrev pub earlier_of : Option ℕ → Option ℕ → Option ℕ
earlier_of None b = b
earlier_of (Some v) None = Some v
earlier_of (Some v) (Some w) = if nat_lt v w then Some v else Some w

-- a flag after k clocks, of which those set it at which the test holds
unfoldable pub seen : Bool → (ℕ → Bool) → ℕ → Bool
seen flag p zero = flag
seen flag p (suc k) = seen flag p k || p k
