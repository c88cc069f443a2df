-- What the loader has behind the lines of the records.
use Rattle.std.proofs.Common.{◌≡◌, ℕ, zero, suc, ◌+◌, ◌-◌, ◌<◌, ◌≤◌, eqb, cond, ◌≢◌, if◌then◌else◌, Bool, false, List, [], ◌∷◌, ◌++◌, length, get_or, None, length-append, refl, sym, ap, ◌∙◌, arith, append_assoc, inl, inr}
use Rattle.std.specs.Prelude.{replicate}
use Rattle.std.proofs.lemmas.Bool.{cases_eq, eq-eqb, ne_eqb}
use Rattle.std.proofs.lemmas.List.{append-nil}
use Rattle.ihex_loader.specs.Line.{Line, Blank, Record}
use Rattle.ihex_loader.specs.Flash.{padded}
use Rattle.ihex_loader.specs.Image.{first_fault, fault_behind, fault_or, last_put, placed, bases, last_or}
use Rattle.ihex_loader.specs.Pass.{Stands}
use Rattle.ihex_loader.proofs.Good.{data_good, other_good, blank_good}

-- lines without a fault that give these bytes and this base
pub record Wrote (lines : List Line) (bytes : List ℕ) (base : ℕ) (ended : Bool) : Type 0 where
  pub quiet : (rest : List Line) → first_fault [] (lines ++ rest) ≡ first_fault lines rest
  pub stands : Stands lines (padded 131072 bytes) (length bytes) base ended

quiet_more : (lines : List Line) (line : Line) → ((rest : List Line) → first_fault [] (lines ++ rest) ≡ first_fault lines rest) → fault_behind lines line ≡ None
    → (rest : List Line) → first_fault [] ((lines ++ line ∷ []) ++ rest) ≡ first_fault (lines ++ line ∷ []) rest
unfolding first_fault
quiet_more lines line quiet none rest =
    ap (first_fault []) (append_assoc lines (line ∷ []) rest)
    ∙ (quiet (line ∷ rest) ∙ ap (λ f. fault_or f (length lines + 1) (first_fault (lines ++ line ∷ []) rest)) none)

-- a record that puts nothing
pub other_wrote : (lines : List Line) (bytes : List ℕ) (b c kind : ℕ) (own : List ℕ) (o : Bool) → Wrote lines bytes b false
    → (kind ≡ 0 → length own ≡ 0) → c ≡ last_or b (bases (Record kind 0 own)) → o ≡ eqb kind 1
    → Wrote (lines ++ Record kind 0 own ∷ []) bytes c o
other_wrote lines bytes b c kind own o w nothing base ended =
    let good = other_good lines (padded 131072 bytes) (length bytes) b c kind 0 own false o w.stands refl nothing base ended in
    record { quiet = quiet_more lines (Record kind 0 own) w.quiet good.0; stands = good.1 }

pub blank_wrote : (lines : List Line) (bytes : List ℕ) (b : ℕ) (o : Bool) → Wrote lines bytes b o → Wrote (lines ++ Blank ∷ []) bytes b o
blank_wrote lines bytes b o w =
    let good = blank_good lines (padded 131072 bytes) (length bytes) b o w.stands in
    record { quiet = quiet_more lines Blank w.quiet good.0; stands = good.1 }

-- one byte in the place of another
at_same : (xs zs : List ℕ) (y : ℕ) → get_or (xs ++ y ∷ zs) (length xs) 0 ≡ y
at_same [] zs y = refl
at_same (x ∷ xs) zs y = at_same xs zs y

at_other : (xs zs : List ℕ) (y z a : ℕ) → length xs ≢ a → get_or (xs ++ y ∷ zs) a 0 ≡ get_or (xs ++ z ∷ zs) a 0
at_other [] zs y z zero ne = absurd (ne refl)
at_other [] zs y z (suc a) ne = refl
at_other (x ∷ xs) zs y z zero ne = refl
at_other (x ∷ xs) zs y z (suc a) ne = at_other xs zs y z a (λ e. ne (ap suc e))

at_place : (xs zs : List ℕ) (y z a : ℕ) → get_or (xs ++ y ∷ zs) a 0 ≡ (if eqb (length xs) a then y else get_or (xs ++ z ∷ zs) a 0)
at_place xs zs y z a =
    elim (cases_eq (length xs) a) [
      | inl e ↦ (ap (λ k. get_or (xs ++ y ∷ zs) k 0) (sym e) ∙ at_same xs zs y) ∙ sym (ap (λ b. cond b y (get_or (xs ++ z ∷ zs) a 0)) (eq-eqb (length xs) a e))
      | inr ne ↦ at_other xs zs y z a ne ∙ sym (ap (λ b. cond b y (get_or (xs ++ z ∷ zs) a 0)) (ne_eqb (length xs) a ne))
    ]

rest_of : (n m : ℕ) → m < n → n - m ≡ suc (n - (m + 1))
rest_of n m lt = omega arith

pad_more : (n : ℕ) (xs : List ℕ) (y a : ℕ) → length xs < n → get_or (padded n (xs ++ y ∷ [])) a 0 ≡ (if eqb (length xs) a then y else get_or (padded n xs) a 0)
unfolding padded
pad_more n xs y a lt =
    let len : length (xs ++ y ∷ []) ≡ length xs + 1 = length-append xs (y ∷ []) in
    let left : (xs ++ y ∷ []) ++ replicate (n - length (xs ++ y ∷ [])) 255 ≡ xs ++ y ∷ replicate (n - (length xs + 1)) 255 =
    append_assoc xs (y ∷ []) (replicate (n - length (xs ++ y ∷ [])) 255) ∙ ap (λ k. xs ++ y ∷ replicate (n - k) 255) len in
    let right : xs ++ replicate (n - length xs) 255 ≡ xs ++ 255 ∷ replicate (n - (length xs + 1)) 255 = ap (λ k. xs ++ replicate k 255) (rest_of n (length xs) lt) in
    ap (λ (l : List ℕ). get_or l a 0) left
    ∙ (at_place xs (replicate (n - (length xs + 1)) 255) y 255 a ∙ ap (λ (l : List ℕ). if eqb (length xs) a then y else get_or l a 0) (sym right))

-- bytes behind others are put at the addresses behind them
pad_put : (n : ℕ) (xs ys : List ℕ) (a : ℕ) → length xs + length ys ≤ n → get_or (padded n (xs ++ ys)) a 0 ≡ last_put (get_or (padded n xs) a 0) a (placed (length xs) ys)
pad_put n xs [] a le = ap (λ (l : List ℕ). get_or (padded n l) a 0) (append-nil xs)
pad_put n xs (y ∷ ys) a le =
    let len : length (xs ++ y ∷ []) ≡ length xs + 1 = length-append xs (y ∷ []) in
    ap (λ (l : List ℕ). get_or (padded n l) a 0) (sym (append_assoc xs (y ∷ []) ys))
    ∙ (pad_put n (xs ++ y ∷ []) ys a (omega (arith, len))
    ∙ (ap (λ d. last_put d a (placed (length (xs ++ y ∷ [])) ys)) (pad_more n xs y a (omega arith))
    ∙ ap (λ k. last_put (if eqb (length xs) a then y else get_or (padded n xs) a 0) a (placed k ys)) len))

pub length-padded : (n : ℕ) (xs : List ℕ) → length xs ≤ n → length (padded n xs) ≡ n
unfolding padded
length-padded n xs le = length-append xs (replicate (n - length xs) 255) ∙ by_rest (length-replicate (n - length xs))
  where
    length-replicate : (k : ℕ) → length {A = ℕ} (replicate k 255) ≡ k
    length-replicate zero = refl
    length-replicate (suc k) = ap suc (length-replicate k)

    by_rest : length {A = ℕ} (replicate (n - length xs) 255) ≡ n - length xs → length xs + length {A = ℕ} (replicate (n - length xs) 255) ≡ n
    by_rest e = omega (arith, e)

-- a data record
pub data_wrote : (lines : List Line) (xs ys : List ℕ) (b off : ℕ) → Wrote lines xs b false → b + off ≡ length xs → 0 < length ys → off + length ys ≤ 65536 → length xs + length ys ≤ 131072
    → Wrote (lines ++ Record 0 off ys ∷ []) (xs ++ ys) b false
data_wrote lines xs ys b off w at some cross past =
    let len : length (xs ++ ys) ≡ length xs + length ys = length-append xs ys in
    let good = data_good lines (padded 131072 xs) (padded 131072 (xs ++ ys)) (length xs) (length (xs ++ ys)) b off ys false false w.stands refl refl cross (omega arith) some
    (length-padded 131072 (xs ++ ys) (omega arith))
    (λ a. pad_put 131072 xs ys a past ∙ ap (λ k. last_put (get_or (padded 131072 xs) a 0) a (placed k ys)) (sym at))
    (omega arith) in
    record { quiet = quiet_more lines (Record 0 off ys) w.quiet good.0; stands = good.1 }
