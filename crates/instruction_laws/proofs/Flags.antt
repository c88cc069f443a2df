-- Single flags of a flags byte that others were put into.
use Rattle.std.proofs.Common.{◌≡◌, ℕ, ◌==◌, Bool, true, false, ap, ◌∙◌, arith}
use Rattle.avr_base.specs.Flags.{has_flag, with_flag}
use Rattle.arith_step.specs.Whole.{with_carries, with_sign, xor}

set_0 : (s : ℕ) (on : Bool) → has_flag (with_flag s 0 on) 0 ≡ on
unfolding with_flag
set_0 s true = ap (λ n. n == 1) {y = 1} (omega arith)
set_0 s false = ap (λ n. n == 1) {y = 0} (omega arith)

set_1 : (s : ℕ) (on : Bool) → has_flag (with_flag s 1 on) 1 ≡ on
unfolding with_flag
set_1 s true = ap (λ n. n == 1) {y = 1} (omega arith)
set_1 s false = ap (λ n. n == 1) {y = 0} (omega arith)

set_4 : (s : ℕ) (on : Bool) → has_flag (with_flag s 4 on) 4 ≡ on
unfolding with_flag
set_4 s true = ap (λ n. n == 1) {y = 1} (omega arith)
set_4 s false = ap (λ n. n == 1) {y = 0} (omega arith)

set_5 : (s : ℕ) (on : Bool) → has_flag (with_flag s 5 on) 5 ≡ on
unfolding with_flag
set_5 s true = ap (λ n. n == 1) {y = 1} (omega arith)
set_5 s false = ap (λ n. n == 1) {y = 0} (omega arith)

keeps_0_1 : (s : ℕ) (on : Bool) → has_flag (with_flag s 1 on) 0 ≡ has_flag s 0
unfolding with_flag
keeps_0_1 s true = ap (λ n. n == 1) (omega arith)
keeps_0_1 s false = ap (λ n. n == 1) (omega arith)

keeps_0_2 : (s : ℕ) (on : Bool) → has_flag (with_flag s 2 on) 0 ≡ has_flag s 0
unfolding with_flag
keeps_0_2 s true = ap (λ n. n == 1) (omega arith)
keeps_0_2 s false = ap (λ n. n == 1) (omega arith)

keeps_0_3 : (s : ℕ) (on : Bool) → has_flag (with_flag s 3 on) 0 ≡ has_flag s 0
unfolding with_flag
keeps_0_3 s true = ap (λ n. n == 1) (omega arith)
keeps_0_3 s false = ap (λ n. n == 1) (omega arith)

keeps_0_4 : (s : ℕ) (on : Bool) → has_flag (with_flag s 4 on) 0 ≡ has_flag s 0
unfolding with_flag
keeps_0_4 s true = ap (λ n. n == 1) (omega arith)
keeps_0_4 s false = ap (λ n. n == 1) (omega arith)

keeps_0_5 : (s : ℕ) (on : Bool) → has_flag (with_flag s 5 on) 0 ≡ has_flag s 0
unfolding with_flag
keeps_0_5 s true = ap (λ n. n == 1) (omega arith)
keeps_0_5 s false = ap (λ n. n == 1) (omega arith)

keeps_1_2 : (s : ℕ) (on : Bool) → has_flag (with_flag s 2 on) 1 ≡ has_flag s 1
unfolding with_flag
keeps_1_2 s true = ap (λ n. n == 1) (omega arith)
keeps_1_2 s false = ap (λ n. n == 1) (omega arith)

keeps_1_3 : (s : ℕ) (on : Bool) → has_flag (with_flag s 3 on) 1 ≡ has_flag s 1
unfolding with_flag
keeps_1_3 s true = ap (λ n. n == 1) (omega arith)
keeps_1_3 s false = ap (λ n. n == 1) (omega arith)

keeps_1_4 : (s : ℕ) (on : Bool) → has_flag (with_flag s 4 on) 1 ≡ has_flag s 1
unfolding with_flag
keeps_1_4 s true = ap (λ n. n == 1) (omega arith)
keeps_1_4 s false = ap (λ n. n == 1) (omega arith)

keeps_5_0 : (s : ℕ) (on : Bool) → has_flag (with_flag s 0 on) 5 ≡ has_flag s 5
unfolding with_flag
keeps_5_0 s true = ap (λ n. n == 1) (omega arith)
keeps_5_0 s false = ap (λ n. n == 1) (omega arith)

keeps_5_1 : (s : ℕ) (on : Bool) → has_flag (with_flag s 1 on) 5 ≡ has_flag s 5
unfolding with_flag
keeps_5_1 s true = ap (λ n. n == 1) (omega arith)
keeps_5_1 s false = ap (λ n. n == 1) (omega arith)

keeps_5_2 : (s : ℕ) (on : Bool) → has_flag (with_flag s 2 on) 5 ≡ has_flag s 5
unfolding with_flag
keeps_5_2 s true = ap (λ n. n == 1) (omega arith)
keeps_5_2 s false = ap (λ n. n == 1) (omega arith)

keeps_5_3 : (s : ℕ) (on : Bool) → has_flag (with_flag s 3 on) 5 ≡ has_flag s 5
unfolding with_flag
keeps_5_3 s true = ap (λ n. n == 1) (omega arith)
keeps_5_3 s false = ap (λ n. n == 1) (omega arith)

keeps_5_4 : (s : ℕ) (on : Bool) → has_flag (with_flag s 4 on) 5 ≡ has_flag s 5
unfolding with_flag
keeps_5_4 s true = ap (λ n. n == 1) (omega arith)
keeps_5_4 s false = ap (λ n. n == 1) (omega arith)

-- C, H, Z and S of a result
pub carry_of : (n z v c h : Bool) (s : ℕ) → has_flag (with_sign n z v (with_carries c h s)) 0 ≡ c
unfolding with_sign with_carries
carry_of n z v c h s =
    keeps_0_4 _ (xor n v) ∙ keeps_0_3 _ v ∙ keeps_0_2 _ n ∙ keeps_0_1 _ z ∙ keeps_0_5 _ h ∙ set_0 s c

pub half_of : (n z v c h : Bool) (s : ℕ) → has_flag (with_sign n z v (with_carries c h s)) 5 ≡ h
unfolding with_sign with_carries
half_of n z v c h s = keeps_5_4 _ (xor n v) ∙ keeps_5_3 _ v ∙ keeps_5_2 _ n ∙ keeps_5_1 _ z ∙ set_5 _ h

-- C and H of a result that leaves H
pub carry_alone : (n z v c : Bool) (s : ℕ) → has_flag (with_sign n z v (with_flag s 0 c)) 0 ≡ c
unfolding with_sign
carry_alone n z v c s = keeps_0_4 _ (xor n v) ∙ keeps_0_3 _ v ∙ keeps_0_2 _ n ∙ keeps_0_1 _ z ∙ set_0 s c

pub half_left : (n z v c : Bool) (s : ℕ) → has_flag (with_sign n z v (with_flag s 0 c)) 5 ≡ has_flag s 5
unfolding with_sign
half_left n z v c s = keeps_5_4 _ (xor n v) ∙ keeps_5_3 _ v ∙ keeps_5_2 _ n ∙ keeps_5_1 _ z ∙ keeps_5_0 s c

pub zero_of : (n z v : Bool) (s : ℕ) → has_flag (with_sign n z v s) 1 ≡ z
unfolding with_sign
zero_of n z v s = keeps_1_4 _ (xor n v) ∙ keeps_1_3 _ v ∙ keeps_1_2 _ n ∙ set_1 s z

pub sign_of : (n z v : Bool) (s : ℕ) → has_flag (with_sign n z v s) 4 ≡ xor n v
unfolding with_sign
sign_of n z v s = set_4 _ (xor n v)
