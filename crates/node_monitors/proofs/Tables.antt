-- Tables of the words of flash.
use Rattle.std.proofs.Common.{◌≡◌, ◌≢◌, ℕ, zero, suc, ◌+◌, ◌-◌, ◌<◌, ◌≤◌, nat_lt, append-nil, ◌++◌, List, [], ◌∷◌, Bool, true, false, cond, length, get_or, arith, refl, sym, ap, ◌∙◌, inl, inr, ◌⊎◌}
use Rattle.std.proofs.Math.ListN.{set}
use Rattle.std.specs.List.{filter, sum_by, All}
use Rattle.std.proofs.lemmas.Bool.{cases_eq, ltb-false}
use Rattle.std.proofs.lemmas.List.{ext_get_or, get_or-set_same, get_or-set_other, length-set}
use Rattle.std.proofs.lemmas.List.Elements.{All-set, filter-append}
use Rattle.std.proofs.lemmas.List.FromFn.{map-range_with_len_more, length-map-range_with_len, get_or-map-range_with_len}
use Rattle.std.proofs.lemmas.List.Sums.{sum_by-cons, sum_by-set}
use Rattle.node_monitors.specs.declared.spent.Spent.{Spent}
use Rattle.node_monitors.specs.Spent.{table, unused, more, is_used, cycles_in}
use Rattle.node_monitors.specs.Taken.{IsQuiet}

pub table-zero : (said : ℕ → Spent) → table 0 said ≡ []
unfolding table
table-zero said = refl

pub table-more : (words : ℕ) (said : ℕ → Spent) → table (words + 1) said ≡ table words said ++ said words ∷ []
unfolding table
table-more words said = map-range_with_len_more said 0 words words (omega arith)

pub table-length : (words : ℕ) (said : ℕ → Spent) → length (table words said) ≡ words
unfolding table
table-length words said = length-map-range_with_len said 0 words

pub table-at : (words : ℕ) (said : ℕ → Spent) (word : ℕ) (d : Spent) → word < words → get_or (table words said) word d ≡ said word
unfolding table
table-at words said word d h = get_or-map-range_with_len said 0 words word word d h (omega arith)

-- two tables that say the same
pub table-same : (words : ℕ) (f g : ℕ → Spent) → ((word : ℕ) → f word ≡ g word) → table words f ≡ table words g
table-same words f g h =
    ext_get_or (unused 0) (table words f) (table words g) (table-length words f ∙ sym (table-length words g))
    (λ i in'. let lt : i < words = omega (arith, table-length words f) in table-at words f i (unused 0) lt ∙ h i ∙ sym (table-at words g i (unused 0) lt))

-- a table that says something else of one word
pub table-set : (words : ℕ) (f g : ℕ → Spent) (at : ℕ) (x : Spent) → at < words → ((word : ℕ) → word ≢ at → g word ≡ f word) → g at ≡ x → table words g ≡ set (table words f) at x
table-set words f g at x within other here =
    ext_get_or (unused 0) (table words g) (set (table words f) at x)
    (table-length words g ∙ sym (length-set (table words f) at x ∙ table-length words f))
    (λ i in'. let lt : i < words = omega (arith, table-length words g) in entry i lt (cases_eq i at))
  where
    entry : (i : ℕ) → i < words → (i ≡ at) ⊎ (i ≡ at → ⊥) → get_or (table words g) i (unused 0) ≡ get_or (set (table words f) at x) i (unused 0)
    entry i lt (inl e) =
        let long : at < length (table words f) = omega (arith, table-length words f) in
        table-at words g i (unused 0) lt ∙ ap g e ∙ here ∙ sym (rw e (get_or-set_same (table words f) at x (unused 0) long))
    entry i lt (inr ne) =
        table-at words g i (unused 0) lt ∙ other i ne ∙ sym (get_or-set_other (table words f) at i x (unused 0) ne ∙ table-at words f i (unused 0) lt)

pub cycles-set : (slots : List Spent) (at n : ℕ) → at < length slots → cycles_in (set slots at (more n (get_or slots at (unused at)))) ≡ cycles_in slots + n
unfolding cycles_in
cycles-set slots at n h = omega (arith, sum_by-set (λ s. s.cycles) slots at (more n (get_or slots at (unused at))) (unused at) h)

pub quiet-set : (slots : List Spent) (at n : ℕ) → All IsQuiet slots → All IsQuiet (set slots at (more n (get_or slots at (unused at))))
quiet-set slots at n h = All-set IsQuiet slots at (more n (get_or slots at (unused at))) (λ e. absurd (omega arith)) h

-- words that have no row have no cycles
pub cycles-used : (slots : List Spent) → All IsQuiet slots → cycles_in (filter is_used slots) ≡ cycles_in slots
unfolding cycles_in
cycles-used [] h = refl
cycles-used (s ∷ slots) h =
    let rest : sum_by (λ s. s.cycles) (filter is_used slots) ≡ sum_by (λ s. s.cycles) slots = cycles-used slots (λ k d in'. h (suc k) d (omega arith)) in
    used (is_used s) refl rest
  where
    used : (b : Bool) → is_used s ≡ b → sum_by (λ s. s.cycles) (filter is_used slots) ≡ sum_by (λ s. s.cycles) slots →
        sum_by (λ s. s.cycles) (cond b (s ∷ filter is_used slots) (filter is_used slots)) ≡ sum_by (λ s. s.cycles) (s ∷ slots)
    used true e rest = omega (arith, sum_by-cons (λ s. s.cycles) s (filter is_used slots), sum_by-cons (λ s. s.cycles) s slots)
    used false e rest =
        let none : s.count ≡ 0 = omega (arith, ltb-false 0 s.count e) in
        omega (arith, sum_by-cons (λ s. s.cycles) s slots, h 0 s (omega arith) none)

-- words without rows are not used
used_more : (n words : ℕ) (said : ℕ → Spent) → ((w : ℕ) → words ≤ w → (said w).count ≡ 0) → filter is_used (table (words + n) said) ≡ filter is_used (table words said)
used_more zero words said none = let e : words + 0 ≡ words = omega arith in ap (λ k. filter is_used (table k said)) e
used_more (suc n) words said none =
    let e : words + suc n ≡ words + n + 1 = omega arith in
    let zero' : (said (words + n)).count ≡ 0 = none (words + n) (omega arith) in
    let last : filter is_used (said (words + n) ∷ []) ≡ [] = ap (λ (k : ℕ). cond (nat_lt 0 k) (said (words + n) ∷ []) []) zero' in
    ap (λ k. filter is_used (table k said)) e ∙ ap (filter is_used) (table-more (words + n) said)
    ∙ filter-append is_used (table (words + n) said) (said (words + n) ∷ [])
    ∙ (λ i. used_more n words said none i ++ last i) ∙ append-nil (filter is_used (table words said))

pub used-whole : (words all : ℕ) (said : ℕ → Spent) → words ≤ all → ((w : ℕ) → words ≤ w → (said w).count ≡ 0) → filter is_used (table words said) ≡ filter is_used (table all said)
used-whole words all said le none =
    let e : words + (all - words) ≡ all = omega arith in
    sym (used_more (all - words) words said none) ∙ ap (λ k. filter is_used (table k said)) e
