-- The table of places, with no link and with one link more.
use Rattle.std.proofs.Common.{◌≡◌, ◌≢◌, ℕ, zero, suc, ◌+◌, ◌*◌, ◌<◌, ◌≤◌, Bool, true, false, cond, ◌&&◌, ◌||◌, ◌==◌, List, [], ◌∷◌, ◌++◌, length, get_or, set, replicate, refl, sym, ◌∙◌, ap, arith, length-set}
use Rattle.std.specs.Prelude.{nat_lt}
use Rattle.std.specs.List.{list_any}
use Rattle.std.proofs.lemmas.List.{get_or-set_same, get_or-set_other}
use Rattle.std.proofs.lemmas.Bool.Decides.{nat_tests}
use native.Mathlib.Decide.{ℕ_discrete}
use Rattle.world_core.specs.declared.link_table.Link.{Link}
use Rattle.world_core.specs.Topology.{place_in}
use Rattle.world_core.specs.LinkTable.{entry_at, entry_in, filled}
use Rattle.world_core.proofs.Latencies.{joins, none_case}

pub zeros : (n k : ℕ) → let z : ℕ = 0 in get_or (replicate n z) k z ≡ z
zeros zero k = refl
zeros (suc n) zero = refl
zeros (suc n) (suc k) = zeros n k

-- ---- one entry more is filled
one : (n : ℕ) → 1 + n ≡ 0 + n + 1
one n = omega arith

sum_step : (c m n : ℕ) → m ≡ n + 1 → c + m ≡ c + n + 1
sum_step c m n e = omega arith

pub count_set : (rows : List ℕ) (i v : ℕ) → i < length rows → get_or rows i 0 ≡ 0 → 0 < v → filled (set rows i v) ≡ filled rows + 1
count_set [] i v lt e pos = absurd (omega arith)
count_set (x ∷ xs) zero v lt e pos =
    let a : nat_lt 0 v ≡ true = grind (arith, nat_tests) in
    let b : nat_lt 0 x ≡ false = grind (arith, nat_tests) in
    ap (λ (t : Bool). cond t 1 0 + filled xs) a ∙ one (filled xs) ∙ sym (ap (λ (t : Bool). cond t 1 0 + filled xs + 1) b)
count_set (x ∷ xs) (suc i) v lt e pos = sum_step (cond (nat_lt 0 x) 1 0) (filled (set xs i v)) (filled xs) (count_set xs i v (omega arith) e pos)

bit_le : (b : Bool) (m n : ℕ) → m ≤ n → cond b 1 0 + m ≤ suc n
bit_le true m n h = omega arith
bit_le false m n h = omega arith

filled-le : (xs : List ℕ) → filled xs ≤ length xs
filled-le [] = omega arith
filled-le (x ∷ xs) = bit_le (nat_lt 0 x) (filled xs) (length xs) (filled-le xs)

pub room_left : (rows : List ℕ) (i : ℕ) → i < length rows → get_or rows i 0 ≡ 0 → filled rows < length rows
room_left rows i lt e = let a = count_set rows i 1 lt e (omega arith) in let b = filled-le (set rows i 1) in let c = length-set rows i 1 in omega arith

-- ---- an entry is written
same : (a b : ℕ) → a ≡ b → (a == b) ≡ true
same a b e = grind (arith, nat_tests)

apart : (f t k j : ℕ) → ((f ≡ k) × (t ≡ j) → ⊥) → ((f == k) && (t == j)) ≡ false
apart f t k j h = apart_case f t k j h (ℕ_discrete f k) (ℕ_discrete t j)
  where
    apart_case : (f t k j : ℕ) → ((f ≡ k) × (t ≡ j) → ⊥) → Dec (f ≡ k) → Dec (t ≡ j) → ((f == k) && (t == j)) ≡ false
    apart_case f t k j h (yes a) (yes b) = absurd (h (a, b))
    apart_case f t k j h (yes a) (no b) = grind (arith, nat_tests)
    apart_case f t k j h (no a) e = grind (arith, nat_tests)

entry_case : (rows : List ℕ) (f t k j v : ℕ) → f < 64 → t < 64 → k < 64 → j < 64 → length rows ≡ 4096 → Dec (64 * j + k ≡ 64 * t + f) → entry_at (set rows (64 * t + f) v) k j ≡ cond ((f == k) && (t == j)) v (entry_at rows k j)
entry_case rows f t k j v hf ht hk hj size (yes e) =
    let a : f ≡ k = omega arith in
    let b : t ≡ j = omega arith in
    let c : ((f == k) && (t == j)) ≡ true = grind (arith, nat_tests) in
    ap (λ (m : ℕ). get_or (set rows (64 * t + f) v) m 0) e ∙ get_or-set_same rows (64 * t + f) v 0 (omega arith) ∙ sym (ap (λ (x : Bool). cond x v (entry_at rows k j)) c)
entry_case rows f t k j v hf ht hk hj size (no d) =
    let c : ((f == k) && (t == j)) ≡ false = apart f t k j (λ h. d (omega (arith, h.0, h.1))) in
    get_or-set_other rows (64 * t + f) (64 * j + k) v 0 d ∙ sym (ap (λ (x : Bool). cond x v (entry_at rows k j)) c)

pub entry_set : (rows : List ℕ) (f t k j v : ℕ) → f < 64 → t < 64 → k < 64 → j < 64 → length rows ≡ 4096 → entry_at (set rows (64 * t + f) v) k j ≡ cond ((f == k) && (t == j)) v (entry_at rows k j)
entry_set rows f t k j v hf ht hk hj size = entry_case rows f t k j v hf ht hk hj size (ℕ_discrete (64 * j + k) (64 * t + f))

-- ---- a list of links, one longer
or_case : (b r m c : Bool) → r ≡ (m || c) → (b || r) ≡ ((b || m) || c)
or_case true r m c e = refl
or_case false r m c e = e

or_false : (b : Bool) → (b || false) ≡ b
or_false true = refl
or_false false = refl

pub any_push : (q : Link → Bool) (xs : List Link) (x : Link) → list_any q (xs ++ x ∷ []) ≡ (list_any q xs || q x)
any_push q [] x = or_false (q x)
any_push q (y ∷ ys) x = or_case (q y) (list_any q (ys ++ x ∷ [])) (list_any q ys) (q x) (any_push q ys x)

place_end : (xs : List Link) (x : Link) (k j : ℕ) → list_any (joins k j) xs ≡ false → joins k j x ≡ true → place_in (xs ++ x ∷ []) k j ≡ length xs
place_end [] x k j e t = ap (λ (b : Bool). cond b 0 1) t
place_end (y ∷ ys) x k j e t = none_case (joins k j y) (list_any (joins k j) ys) (place_in (ys ++ x ∷ []) k j) (length ys) e (λ f. place_end ys x k j f t)

keep_case : (b rest : Bool) (m n : ℕ) → (b || rest) ≡ true → (rest ≡ true → m ≡ n) → cond b 0 (suc m) ≡ cond b 0 (suc n)
keep_case true rest m n e next = refl
keep_case false rest m n e next = ap (λ (k : ℕ). suc k) (next e)

place_keep : (xs : List Link) (x : Link) (k j : ℕ) → list_any (joins k j) xs ≡ true → place_in (xs ++ x ∷ []) k j ≡ place_in xs k j
place_keep [] x k j e = absurd cc
place_keep (y ∷ ys) x k j e = keep_case (joins k j y) (list_any (joins k j) ys) (place_in (ys ++ x ∷ []) k j) (place_in ys k j) e (λ f. place_keep ys x k j f)

both : (k j : ℕ) (x : Link) → joins k j x ≡ true → (x.from ≡ k) × (x.to ≡ j)
both k j x e = grind (arith, nat_tests)

push_case : (xs : List Link) (x : Link) (k j : ℕ) (old at : Bool) → list_any (joins k j) xs ≡ old → joins k j x ≡ at → list_any (joins x.from x.to) xs ≡ false
    → cond (old || at) (place_in (xs ++ x ∷ []) k j + 1) 0 ≡ cond at (length xs + 1) (cond old (place_in xs k j + 1) 0)
push_case xs x k j true true e t new =
    let b = both k j x t in
    let f : list_any (joins k j) xs ≡ false = (λ i. list_any (joins (sym b.0 i) (sym b.1 i)) xs) ∙ new in absurd (cc)
push_case xs x k j false true e t new = ap (λ (n : ℕ). n + 1) (place_end xs x k j e t)
push_case xs x k j true false e t new = ap (λ (n : ℕ). n + 1) (place_keep xs x k j e)
push_case xs x k j false false e t new = refl

pub entry_push : (xs : List Link) (x : Link) (k j : ℕ) → list_any (joins x.from x.to) xs ≡ false → entry_in (xs ++ x ∷ []) k j ≡ cond (joins k j x) (length xs + 1) (entry_in xs k j)
entry_push xs x k j new = ap (λ (b : Bool). cond b (place_in (xs ++ x ∷ []) k j + 1) 0) (any_push (joins k j) xs x) ∙ push_case xs x k j (list_any (joins k j) xs) (joins k j x) refl refl new

-- ---- what an entry says
none_of_zero : (b : Bool) (n : ℕ) → cond b (n + 1) 0 ≡ 0 → b ≡ false
none_of_zero true n e = absurd (omega arith)
none_of_zero false n e = refl

some_of_other : (b : Bool) (n : ℕ) → cond b (n + 1) 0 ≢ 0 → b ≡ true
some_of_other true n e = refl
some_of_other false n e = absurd (e refl)

pub entry_none : (xs : List Link) (k j : ℕ) → entry_in xs k j ≡ 0 → list_any (joins k j) xs ≡ false
entry_none xs k j e = none_of_zero (list_any (joins k j) xs) (place_in xs k j) e

pub entry_some : (xs : List Link) (k j : ℕ) → entry_in xs k j ≢ 0 → list_any (joins k j) xs ≡ true
entry_some xs k j e = some_of_other (list_any (joins k j) xs) (place_in xs k j) e

pub entry_place : (xs : List Link) (k j : ℕ) → entry_in xs k j ≢ 0 → entry_in xs k j ≡ place_in xs k j + 1
entry_place xs k j e = ap (λ (b : Bool). cond b (place_in xs k j + 1) 0) (entry_some xs k j e)
