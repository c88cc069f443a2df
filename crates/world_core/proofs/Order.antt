-- What is heard does not depend on the order in which the sends of different nodes stand.
use Rattle.std.proofs.Common.{◌≡◌, ℕ, zero, suc, ◌+◌, min, max, ◌≢◌, Bool, true, false, cond, ◌==◌, List, [], ◌∷◌, ◌++◌, refl, sym, ◌∙◌, ap, subst, arith}
use Rattle.std.specs.Prelude.{bit_or}
use Rattle.std.specs.Int.{bit_at}
use Rattle.std.proofs.lemmas.Nat.Bits.{bit_at_or, same_from_bits}
use Rattle.std.proofs.lemmas.List.Elements.{filter-append}
use Rattle.std.proofs.lemmas.Bool.Decides.{nat_tests}
use Rattle.std.specs.Int.Bits.{or_zero_r}
use Rattle.air_base.specs.declared.air.Send.{Send}
use Rattle.air_base.specs.declared.air.Heard.{Heard}
use Rattle.world_core.specs.Heard.{or_of, heard_as, heard_from}
use Rattle.world_core.specs.Sends.{sends_of}

swap3 : (x y z : ℕ) → max x (max y z) ≡ max y (max x z)
swap3 x y z = omega arith

or_swap : (a b c : ℕ) → bit_or a (bit_or b c) ≡ bit_or b (bit_or a c)
or_swap a b c =
    same_from_bits (bit_or a (bit_or b c)) (bit_or b (bit_or a c)) (λ i.
    let l : bit_at (bit_or a (bit_or b c)) i ≡ max (bit_at a i) (max (bit_at b i) (bit_at c i)) = bit_at_or a (bit_or b c) i ∙ ap (λ (n : ℕ). max (bit_at a i) n) (bit_at_or b c i) in
    let r : bit_at (bit_or b (bit_or a c)) i ≡ max (bit_at b i) (max (bit_at a i) (bit_at c i)) = bit_at_or b (bit_or a c) i ∙ ap (λ (n : ℕ). max (bit_at b i) n) (bit_at_or a c i) in
    l ∙ swap3 (bit_at a i) (bit_at b i) (bit_at c i) ∙ sym r)

assoc3 : (x y z : ℕ) → max (max x y) z ≡ max x (max y z)
assoc3 x y z = omega arith

pub or_assoc : (a b c : ℕ) → bit_or (bit_or a b) c ≡ bit_or a (bit_or b c)
or_assoc a b c =
    same_from_bits (bit_or (bit_or a b) c) (bit_or a (bit_or b c)) (λ i.
    let l : bit_at (bit_or (bit_or a b) c) i ≡ max (max (bit_at a i) (bit_at b i)) (bit_at c i) = bit_at_or (bit_or a b) c i ∙ ap (λ (n : ℕ). max n (bit_at c i)) (bit_at_or a b i) in
    let r : bit_at (bit_or a (bit_or b c)) i ≡ max (bit_at a i) (max (bit_at b i) (bit_at c i)) = bit_at_or a (bit_or b c) i ∙ ap (λ (n : ℕ). max (bit_at a i) n) (bit_at_or b c i) in
    l ∙ assoc3 (bit_at a i) (bit_at b i) (bit_at c i) ∙ sym r)

-- what the audible sends add up to: how many, the OR of their bytes, and the sum of their ages
abbrev tally : (Send → ℕ) → List Send → ℕ × ℕ × ℕ
tally age [] = (0, 0, 0)
tally age (x ∷ xs) = (suc (tally age xs).0, bit_or x.byte (tally age xs).1, age x + (tally age xs).2)

abbrev told : ℕ → ℕ → ℕ → Heard
told zero byte age = heard_as 0 0 0
told (suc zero) byte age = heard_as 1 byte (min 255 age)
told (suc (suc n)) byte age = heard_as 2 byte 0

tally_or : (age : Send → ℕ) (xs : List Send) → (tally age xs).1 ≡ or_of xs
tally_or age [] = refl
tally_or age (x ∷ xs) = ap (λ (n : ℕ). bit_or x.byte n) (tally_or age xs)

from_tally : (age : Send → ℕ) (xs : List Send) → heard_from age xs ≡ (let t = tally age xs in told t.0 t.1 t.2)
from_tally age [] = refl
from_tally age (x ∷ []) =
    let b : bit_or x.byte 0 ≡ x.byte = or_zero_r x.byte in
    let a : age x + 0 ≡ age x = omega arith in
    λ i. heard_as 1 (sym b i) (min 255 (sym a i))
from_tally age (x ∷ y ∷ xs) = ap (λ (n : ℕ). heard_as 2 n 0) (sym (tally_or age (x ∷ y ∷ xs)))

-- all of one node
abbrev pub Only : ℕ → List Send → Type 0
Only m [] = Unit {0}
Only m (x ∷ xs) = (x.node ≡ m) × Only m xs

pub test : (a b : ℕ) → a ≡ b → (a == b) ≡ true
test a b e = grind (arith, nat_tests)

pub untest : (a b : ℕ) → a ≢ b → (a == b) ≡ false
untest a b e = grind (arith, nat_tests)

only_case : (m : ℕ) (x : Send) (l : List Send) (b : Bool) → (x.node == m) ≡ b → Only m l → Only m (cond b (x ∷ l) l)
only_case m x l true t o = (grind (arith, nat_tests), o)
only_case m x l false t o = o

pub only_own : (m : ℕ) (xs : List Send) → Only m (sends_of m xs)
only_own m [] = tt
only_own m (x ∷ xs) = only_case m x (sends_of m xs) (x.node == m) refl (only_own m xs)

-- two lists have equal sends of each node, in equal order
abbrev pub SameByNode : List Send → List Send → Type 0
SameByNode xs ys = (k : ℕ) → sends_of k xs ≡ sends_of k ys

-- the first send of node k, taken out
record Cut (k : ℕ) (x : Send) (rest ys : List Send) : Type 0 where
  pub before : List Send
  pub after : List Send
  pub whole : ys ≡ before ++ x ∷ after
  pub none : sends_of k before ≡ []
  pub others : sends_of k after ≡ rest

abbrev here : ℕ → Send → Bool
here k x = x.node == k

keep : (k : ℕ) (y : Send) (ys : List Send) → (y.node == k) ≡ true → sends_of k (y ∷ ys) ≡ y ∷ sends_of k ys
keep k y ys t = ap (λ (b : Bool). cond b (y ∷ sends_of k ys) (sends_of k ys)) t

skip : (k : ℕ) (y : Send) (ys : List Send) → (y.node == k) ≡ false → sends_of k (y ∷ ys) ≡ sends_of k ys
skip k y ys t = ap (λ (b : Bool). cond b (y ∷ sends_of k ys) (sends_of k ys)) t

cut_case : (k : ℕ) (x : Send) (rest : List Send) (y : Send) (ys : List Send) (b : Bool) → (y.node == k) ≡ b
    → (sends_of k ys ≡ x ∷ rest → Cut k x rest ys) → sends_of k (y ∷ ys) ≡ x ∷ rest → Cut k x rest (y ∷ ys)
cut_case k x rest y ys true t next e =
    let f : y ∷ sends_of k ys ≡ x ∷ rest = sym (keep k y ys t) ∙ e in
    let a : y ≡ x = cc in
    record { before = []; after = ys; whole = λ i. a i ∷ ys; none = refl; others = cc }
cut_case k x rest y ys false t next e =
    let c = next (sym (skip k y ys t) ∙ e) in
    record { before = y ∷ c.before; after = c.after; whole = λ i. y ∷ c.whole i; none = skip k y c.before t ∙ c.none; others = c.others }

cut_at : (k : ℕ) (x : Send) (rest ys : List Send) → sends_of k ys ≡ x ∷ rest → Cut k x rest ys
cut_at k x rest [] e = absurd cc
cut_at k x rest (y ∷ ys) e = cut_case k x rest y ys (y.node == k) refl (λ e'. cut_at k x rest ys e') e

-- without that send on both sides, the lists still agree
fewer : (x : Send) (xs ys : List Send) (c : Cut x.node x (sends_of x.node xs) ys) → SameByNode (x ∷ xs) ys → (m : ℕ) (b : Bool) → (x.node == m) ≡ b
    → sends_of m xs ≡ sends_of m (c.before ++ c.after)
fewer x xs ys c h m true t =
    let e : x.node ≡ m = grind (arith, nat_tests) in
    let g : sends_of x.node xs ≡ sends_of x.node (c.before ++ c.after) =
    sym c.others ∙ sym (filter-append (here x.node) c.before c.after ∙ ap (λ (l : List Send). l ++ sends_of x.node c.after) c.none) in
    subst (λ (n : ℕ). sends_of n xs ≡ sends_of n (c.before ++ c.after)) e g
fewer x xs ys c h m false t =
    sym (skip m x xs t) ∙ h m ∙ ap (sends_of m) c.whole ∙ filter-append (here m) c.before (x ∷ c.after)
    ∙ ap (λ (l : List Send). sends_of m c.before ++ l) (skip m x c.after t) ∙ sym (filter-append (here m) c.before c.after)

-- a fold by a step whose order does not matter
module _ {M : Type 0} (f : Send → M → M) (e : M) (swap : (x y : Send) (m : M) → f x (f y m) ≡ f y (f x m)) where
  abbrev fold_up : List Send → M
  fold_up [] = e
  fold_up (x ∷ xs) = f x (fold_up xs)

  to_front : (x : Send) (us bs : List Send) → fold_up (us ++ x ∷ bs) ≡ f x (fold_up (us ++ bs))
  to_front x [] bs = refl
  to_front x (a ∷ us) bs = ap (f a) (to_front x us bs) ∙ swap a x (fold_up (us ++ bs))

  fold_same : (xs ys : List Send) → SameByNode xs ys → fold_up xs ≡ fold_up ys
  fold_same [] [] h = refl
  fold_same [] (y ∷ ys) h =
      let k : (y.node == y.node) ≡ true = grind (arith, nat_tests) in
      let z = h y.node ∙ keep y.node y ys k in absurd cc
  fold_same (x ∷ xs) ys h =
      let k = x.node in
      let t : (x.node == x.node) ≡ true = grind (arith, nat_tests) in
      let c = cut_at k x (sends_of k xs) ys (sym (h k) ∙ keep k x xs t) in
      let less : SameByNode xs (c.before ++ c.after) = λ m. fewer x xs ys c h m (x.node == m) refl in
      ap (f x) (fold_same xs (c.before ++ c.after) less) ∙ sym (to_front x c.before c.after) ∙ ap fold_up (sym c.whole)

abbrev step_of : (Send → ℕ) → Send → ℕ × ℕ × ℕ → ℕ × ℕ × ℕ
step_of age x t = (suc t.0, bit_or x.byte t.1, age x + t.2)

step_swap : (age : Send → ℕ) (x y : Send) (m : ℕ × ℕ × ℕ) → step_of age x (step_of age y m) ≡ step_of age y (step_of age x m)
step_swap age x y m =
    let a : age x + (age y + m.2) ≡ age y + (age x + m.2) = omega arith in
    λ i. (suc (suc m.0), or_swap x.byte y.byte m.1 i, a i)

fold_is : (age : Send → ℕ) (xs : List Send) → tally age xs ≡ fold_up (step_of age) (0, 0, 0) (step_swap age) xs
fold_is age [] = refl
fold_is age (x ∷ xs) = ap (step_of age x) (fold_is age xs)

same_tally : (age : Send → ℕ) (xs ys : List Send) → SameByNode xs ys → tally age xs ≡ tally age ys
same_tally age xs ys h =
    fold_is age xs ∙ fold_same (step_of age) (0, 0, 0) (step_swap age) xs ys h ∙ sym (fold_is age ys)

-- what is heard of two lists with the same sends of each node is the same
pub heard_same : (age : Send → ℕ) (xs ys : List Send) → SameByNode xs ys → heard_from age xs ≡ heard_from age ys
heard_same age xs ys h =
    from_tally age xs ∙ ap (λ (t : ℕ × ℕ × ℕ). told t.0 t.1 t.2) (same_tally age xs ys h) ∙ sym (from_tally age ys)
