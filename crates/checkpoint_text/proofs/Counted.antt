-- What a test says of the nodes of a list, and of those of a run.
use Rattle.std.proofs.Common.{◌≡◌, ℕ, suc, ◌+◌, ◌<◌, ◌&&◌, Bool, List, [], ◌∷◌, length, get_or, refl, ap, ◌∙◌, arith}
use Rattle.std.specs.List.{list_all, range_with_len}

from : {X : Type 0} (p : X → Bool) (q : ℕ → Bool) (xs : List X) (a : ℕ) → ((k : ℕ) (d : X) → k < length xs → p (get_or xs k d) ≡ q (a + k)) → list_all p xs ≡ list_all q (range_with_len a (length xs))
from p q [] a h = refl
from p q (x ∷ xs) a h =
    let here : p x ≡ q a = h 0 x (omega arith) ∙ ap q (omega arith) in
    let rest = from p q xs (a + 1) (λ k d lt. h (suc k) d (omega arith) ∙ ap q (omega arith)) in
    (λ i. here i && rest i)

pub of_all : {X : Type 0} (p : X → Bool) (q : ℕ → Bool) (xs : List X) (n : ℕ) → length xs ≡ n → ((k : ℕ) (d : X) → k < n → p (get_or xs k d) ≡ q k) → list_all p xs ≡ list_all q (range_with_len 0 n)
of_all p q xs n len h =
    from p q xs 0 (λ k d lt. h k d (omega (arith, len, lt)) ∙ ap q (omega arith)) ∙ ap (λ m. list_all q (range_with_len 0 m)) len
