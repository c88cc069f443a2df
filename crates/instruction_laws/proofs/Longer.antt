-- Sums and differences of numbers of which the lower part is below m: what a carry or a borrow from it comes to above.
use Rattle.std.proofs.Common.{◌≡◌, ℕ, ◌+◌, ◌*◌, ◌<◌, ◌≤◌, ◌==◌, ◌&&◌, nat_le, nat_lt, int_lt, ap, ◌∙◌, ◌⊎◌, inl, inr, ⊎_elim, arith, mul-le-mul_left}
use Rattle.std.proofs.lemmas.Bool.Decides.{nat_tests}
use Rattle.std.proofs.lemmas.Bool.{cases_lt}
use Rattle.std.proofs.lemmas.Int.{ints}
use Rattle.avr_base.specs.Flags.{has_flag}
use Rattle.avr_base.specs.declared.sreg.Sreg.{Sreg}
use Rattle.arith_step.specs.Bytes.{added, subtracted}
use Rattle.arith_step.specs.Whole.{one_if, signed}
use Rattle.instruction_laws.proofs.Compared.{going_on}
use Rattle.instruction_laws.proofs.Flags.{carry_of, sign_of, zero_of}
use Rattle.instruction_laws.proofs.Signs.{is_zero, sign}

-- a bound on y times m, from one on y
next_below : (m x y : ℕ) → x < y → m * x + m ≤ m * y
next_below m x y h = let e : m * (x + 1) ≤ m * y = mul-le-mul_left m (omega (arith, h)) in omega (arith, e)

-- in which half of the bytes x lies, with bounds on x times m
side : (m x : ℕ) → x < 256 → ((x < 128) × (m * x + m ≤ m * 128)) ⊎ ((128 ≤ x) × (m * 128 ≤ m * x) × (m * x + m ≤ m * 256))
side m x p =
    ⊎_elim
    (λ (h : x < 128). inl (h, next_below m x 128 h))
    (λ (h : 128 ≤ x). inr (h, mul-le-mul_left m h, next_below m x 256 p))
    (cases_lt x 128)

-- which of x and y is the lesser, with bounds on their products
order : (m x y : ℕ) → ((x < y) × (m * x + m ≤ m * y)) ⊎ (((y < x) × (m * y + m ≤ m * x)) ⊎ ((x ≡ y) × (m * x ≡ m * y)))
order m x y =
    ⊎_elim
    (λ (h : x < y). inl (h, next_below m x y h))
    (λ (h : y ≤ x). inr (⊎_elim
    (λ (k : y < x). inl (k, next_below m y x k))
    (λ (k : x ≤ y). let s : x ≡ y = omega (arith, h, k) in inr (s, ap (λ n. m * n) s))
    (cases_lt y x)))
    (cases_lt x y)

module _ (m a b x y : ℕ) (f : a < m) (g : b < m) where
  fits : nat_le 256 (x + y + one_if (nat_le m (a + b))) ≡ nat_le (m * 256) (a + m * x + (b + m * y))
  fits =
      let whole : m * (x + y) ≡ m * x + m * y = omega arith in
      ⊎_elim
      (λ (h : x + y < 255). let e = next_below m (x + y) 255 h in grind (arith, nat_tests, e, whole, h))
      (λ (h : 255 ≤ x + y). ⊎_elim
      (λ (k : 255 < x + y). let e = next_below m 255 (x + y) k in grind (arith, nat_tests, e, whole, k))
      (λ (k : x + y ≤ 255). let s : x + y ≡ 255 = omega (arith, h, k) in let e : m * (x + y) ≡ m * 255 = ap (λ n. m * n) s in grind (arith, nat_tests, e, whole, s))
      (cases_lt 255 (x + y)))
      (cases_lt (x + y) 255)

  below : nat_lt x (y + one_if (nat_lt a b)) ≡ nat_lt (a + m * x) (b + m * y)
  below =
      ⊎_elim
      (λ (h : x < y). let e = next_below m x y h in grind (arith, nat_tests, e, h))
      (λ (h : y ≤ x). ⊎_elim
      (λ (k : y < x). let e = next_below m y x k in grind (arith, nat_tests, e, k))
      (λ (k : x ≤ y). let s : x ≡ y = omega (arith, h, k) in let e : m * x ≡ m * y = ap (λ n. m * n) s in grind (arith, nat_tests, e, s))
      (cases_lt y x))
      (cases_lt x y)

  same : x < 256 → y < 256 → (a == b && is_zero x y (nat_lt a b)) ≡ (a + m * x == b + m * y)
  same p q =
      ⊎_elim
      (λ (h : x < y). let e = next_below m x y h in grind (arith, nat_tests, e, h))
      (λ (h : y ≤ x). ⊎_elim
      (λ (k : y < x). let e = next_below m y x k in grind (arith, nat_tests, e, k))
      (λ (k : x ≤ y). let s : x ≡ y = omega (arith, h, k) in let e : m * x ≡ m * y = ap (λ n. m * n) s in grind (arith, nat_tests, e, s))
      (cases_lt y x))
      (cases_lt x y)

  less_in : ((x < 128) × (m * x + m ≤ m * 128)) ⊎ ((128 ≤ x) × (m * 128 ≤ m * x) × (m * x + m ≤ m * 256))
      → ((y < 128) × (m * y + m ≤ m * 128)) ⊎ ((128 ≤ y) × (m * 128 ≤ m * y) × (m * y + m ≤ m * 256))
      → ((x < y) × (m * x + m ≤ m * y)) ⊎ (((y < x) × (m * y + m ≤ m * x)) ⊎ ((x ≡ y) × (m * x ≡ m * y)))
      → x < 256 → y < 256 → sign x y (nat_lt a b) ≡ int_lt (signed (m * 128) (a + m * x)) (signed (m * 128) (b + m * y))
  less_in (inl (h, i)) (inl (k, l)) (inl (o, e)) p q = grind (arith, ints, nat_tests, h, i, k, l, o, e)
  less_in (inl (h, i)) (inl (k, l)) (inr (inl (o, e))) p q = grind (arith, ints, nat_tests, h, i, k, l, o, e)
  less_in (inl (h, i)) (inl (k, l)) (inr (inr (o, e))) p q = grind (arith, ints, nat_tests, h, i, k, l, o, e)
  less_in (inl (h, i)) (inr (k, l, j)) o p q = grind (arith, ints, nat_tests, h, i, k, l, j)
  less_in (inr (h, i, n)) (inl (k, l)) o p q = grind (arith, ints, nat_tests, h, i, n, k, l)
  less_in (inr (h, i, n)) (inr (k, l, j)) (inl (o, e)) p q = grind (arith, ints, nat_tests, h, i, n, k, l, j, o, e)
  less_in (inr (h, i, n)) (inr (k, l, j)) (inr (inl (o, e))) p q = grind (arith, ints, nat_tests, h, i, n, k, l, j, o, e)
  less_in (inr (h, i, n)) (inr (k, l, j)) (inr (inr (o, e))) p q = grind (arith, ints, nat_tests, h, i, n, k, l, j, o, e)

  pub longer_less : x < 256 → y < 256 → (s : Sreg) → has_flag s.bits 0 ≡ nat_lt a b
      → has_flag (going_on x y s).bits 4 ≡ int_lt (signed (m * 128) (a + m * x)) (signed (m * 128) (b + m * y))
  unfolding subtracted
  longer_less p q s e = sign_of _ _ _ _ ∙ ap (sign x y) e ∙ less_in (side m x p) (side m y q) (order m x y) p q

  pub longer_sum : (s : Sreg) → has_flag s.bits 0 ≡ nat_le m (a + b)
      → has_flag (added x y (has_flag s.bits 0) s).1.bits 0 ≡ nat_le (m * 256) (a + m * x + (b + m * y))
  unfolding added
  longer_sum s e = carry_of _ _ _ _ _ s.bits ∙ ap (λ c. nat_le 256 (x + y + one_if c)) e ∙ fits

  pub longer_below : (s : Sreg) → has_flag s.bits 0 ≡ nat_lt a b → has_flag (going_on x y s).bits 0 ≡ nat_lt (a + m * x) (b + m * y)
  unfolding subtracted
  longer_below s e = carry_of _ _ _ _ _ s.bits ∙ ap (λ c. nat_lt x (y + one_if c)) e ∙ below

  pub longer_same : x < 256 → y < 256 → (s : Sreg) → has_flag s.bits 0 ≡ nat_lt a b → has_flag s.bits 1 ≡ (a == b)
      → has_flag (going_on x y s).bits 1 ≡ (a + m * x == b + m * y)
  unfolding subtracted
  longer_same p q s e z =
      zero_of _ _ _ _ ∙ ap (λ c. has_flag s.bits 1 && is_zero x y c) e ∙ ap (λ t. t && is_zero x y (nat_lt a b)) z ∙ same p q
