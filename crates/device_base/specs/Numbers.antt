-- Lists of numbers by which devices are saved and restored, one device's after another's.
use Rattle.std.specs.Prelude.{ℕ, Bool, List, take, drop}
use Rattle.std.specs.List.{list_all}

-- so many numbers from a place on
abbrev pub part : ℕ → ℕ → List ℕ → List ℕ
part at count n = take count (drop at n)

-- whether each number is within its bound, by the test of each
abbrev pub all_fit : List Bool → Bool
all_fit fits = list_all (λ fit. fit) fits
