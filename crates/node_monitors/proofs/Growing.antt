-- Tables that grow.
use Rattle.std.proofs.Common.{◌≡◌, ◌≢◌, ℕ, zero, suc, ◌+◌, ◌-◌, ◌≤◌, ◌<◌, List, [], ◌∷◌, ◌++◌, append_assoc, length, length-append, map, max, get_or, arith, refl, sym, ap, ◌∙◌}
use Rattle.std.proofs.Math.ListN.{get_or-append}
use Rattle.std.proofs.Math.Seq.{get_or-append_right}
use Rattle.std.specs.List.{All, range_with_len, sum_by}
use Rattle.std.proofs.lemmas.List.{get_or-set_same, get_or-set_other, get_or_past, length-set}
use Rattle.std.proofs.lemmas.List.Elements.{All-append, All-cons, All-nil, All-set}
use Rattle.std.proofs.lemmas.List.FromFn.{length-map-range_with_len, get_or-map-range_with_len, map-range_with_len_more}
use Rattle.std.proofs.lemmas.List.Sums.{sum_by-append, sum_by-cons, sum_by-set}
use native.Mathlib.Decide.{dec_le}
use Rattle.node_monitors.specs.declared.spent.Spent.{Spent}
use Rattle.node_monitors.specs.Spent.{unused, cycles_in}
use Rattle.node_monitors.specs.Taken.{IsQuiet}
use Rattle.node_monitors.specs.Tally.{capped, counted, grown, with_row}

-- the words that a table grows by
abbrev new_words : ℕ → List Spent → List Spent
new_words words slots = map unused (range_with_len (length slots) (words - length slots))

new_length : (words : ℕ) (slots : List Spent) → length (new_words words slots) ≡ words - length slots
new_length words slots = length-map-range_with_len unused (length slots) (words - length slots)

pub grown-length : (words : ℕ) (slots : List Spent) → length (grown words slots) ≡ max (length slots) words
unfolding grown
grown-length words slots = omega (arith, length-append slots (new_words words slots), new_length words slots)

new_at : (words w : ℕ) (slots : List Spent) → length slots ≤ w → Dec (w + 1 ≤ words) → get_or (new_words words slots) (w - length slots) (unused w) ≡ unused w
new_at words w slots past (yes lt) =
    get_or-map-range_with_len unused (length slots) (words - length slots) (w - length slots) w (unused w) (omega arith) (omega arith)
new_at words w slots past (no ge) =
    let le : words ≤ w = (omega arith) in
    get_or_past (new_words words slots) (w - length slots) (unused w) (omega (arith, new_length words slots))

grown_case : (words : ℕ) (slots : List Spent) (w : ℕ) → Dec (w + 1 ≤ length slots) → get_or (slots ++ new_words words slots) w (unused w) ≡ get_or slots w (unused w)
grown_case words slots w (yes lt) = get_or-append slots (new_words words slots) (unused w) w (omega arith)
grown_case words slots w (no ge) =
    let past : length slots ≤ w = omega arith in
    get_or-append_right slots (new_words words slots) w (unused w) past ∙ new_at words w slots past (dec_le (w + 1) words) ∙ sym (get_or_past slots w (unused w) past)

-- nothing is said anew of any word
pub grown-at : (words : ℕ) (slots : List Spent) (w : ℕ) → get_or (grown words slots) w (unused w) ≡ get_or slots w (unused w)
unfolding grown
grown-at words slots w = grown_case words slots w (dec_le (w + 1) (length slots))

unused_cycles : (a n : ℕ) → sum_by (λ (s : Spent). s.cycles) (map unused (range_with_len a n)) ≡ 0
unused_cycles a zero = refl
unused_cycles a (suc n) = omega (arith, sum_by-cons (λ (s : Spent). s.cycles) (unused a) (map unused (range_with_len (a + 1) n)), unused_cycles (a + 1) n)

grown-cycles : (words : ℕ) (slots : List Spent) → sum_by (λ (s : Spent). s.cycles) (grown words slots) ≡ sum_by (λ (s : Spent). s.cycles) slots
unfolding grown
grown-cycles words slots =
    omega (arith, sum_by-append (λ (s : Spent). s.cycles) slots (new_words words slots), unused_cycles (length slots) (words - length slots))

unused_quiet : (a n : ℕ) → All IsQuiet (map unused (range_with_len a n))
unused_quiet a zero = All-nil IsQuiet
unused_quiet a (suc n) = All-cons IsQuiet (unused a) (map unused (range_with_len (a + 1) n)) (λ e. refl) (unused_quiet (a + 1) n)

grown-quiet : (words : ℕ) (slots : List Spent) → All IsQuiet slots → All IsQuiet (grown words slots)
unfolding grown
grown-quiet words slots h = All-append IsQuiet slots (new_words words slots) h (unused_quiet (length slots) (words - length slots))

-- ---- one row more

pub with_row-here : (word n : ℕ) (slots : List Spent) → get_or (with_row word n slots) word (unused word) ≡ counted n (get_or slots word (unused word))
unfolding with_row
with_row-here word n slots =
    let long : word + 1 ≤ length (grown (word + 1) slots) = omega (arith, grown-length (word + 1) slots) in
    get_or-set_same (grown (word + 1) slots) word (counted n (get_or (grown (word + 1) slots) word (unused word))) (unused word) (omega arith)
    ∙ ap (counted n) (grown-at (word + 1) slots word)

pub with_row-other : (word n : ℕ) (slots : List Spent) (w : ℕ) → w ≢ word → get_or (with_row word n slots) w (unused w) ≡ get_or slots w (unused w)
unfolding with_row
with_row-other word n slots w other =
    get_or-set_other (grown (word + 1) slots) word w (counted n (get_or (grown (word + 1) slots) word (unused word))) (unused w) other ∙ grown-at (word + 1) slots w

pub with_row-length : (word n : ℕ) (slots : List Spent) → length (with_row word n slots) ≡ max (length slots) (word + 1)
unfolding with_row
with_row-length word n slots = length-set (grown (word + 1) slots) word (counted n (get_or (grown (word + 1) slots) word (unused word))) ∙ grown-length (word + 1) slots

pub with_row-cycles : (word n : ℕ) (slots : List Spent) → (get_or slots word (unused word)).cycles + n ≤ 18446744073709551615 → cycles_in (with_row word n slots) ≡ cycles_in slots + n
unfolding with_row cycles_in
with_row-cycles word n slots fits =
    let long : word + 1 ≤ length (grown (word + 1) slots) = omega (arith, grown-length (word + 1) slots) in
    let old : (get_or (grown (word + 1) slots) word (unused word)).cycles ≡ (get_or slots word (unused word)).cycles = ap (λ (s : Spent). s.cycles) (grown-at (word + 1) slots word) in
    let new : capped (get_or (grown (word + 1) slots) word (unused word)).cycles n ≡ (get_or (grown (word + 1) slots) word (unused word)).cycles + n = omega arith in
    omega (arith, sum_by-set (λ (s : Spent). s.cycles) (grown (word + 1) slots) word (counted n (get_or (grown (word + 1) slots) word (unused word))) (unused word) (omega arith), grown-cycles (word + 1) slots)

pub with_row-quiet : (word n : ℕ) (slots : List Spent) → All IsQuiet slots → All IsQuiet (with_row word n slots)
unfolding with_row
with_row-quiet word n slots h =
    All-set IsQuiet (grown (word + 1) slots) word (counted n (get_or (grown (word + 1) slots) word (unused word))) (λ e. absurd (omega arith)) (grown-quiet (word + 1) slots h)

-- ---- growing word by word

module _ (first slots : List Spent) (word : ℕ) (low : length first ≤ word) (is : slots ≡ first ++ map unused (range_with_len (length first) (word - length first))) where
  -- it is as long as its next word says
  pub growing-length : length slots ≡ word
  growing-length = let e = ap length is in omega (arith, length-append first (new_words word first), new_length word first)

  pub growing-more : (more : List Spent) → more ≡ slots ++ unused word ∷ [] → more ≡ first ++ map unused (range_with_len (length first) (word + 1 - length first))
  growing-more more e =
      let next : word + 1 - length first ≡ word - length first + 1 = omega arith in
      e ∙ ap (λ (l : List Spent). l ++ unused word ∷ []) is ∙ append_assoc first (new_words word first) (unused word ∷ [])
      ∙ ap (λ (l : List Spent). first ++ l)
      (sym (map-range_with_len_more unused (length first) (word - length first) word (omega arith)) ∙ ap (λ (n : ℕ). map unused (range_with_len (length first) n)) (sym next))

-- where a table was made so long
pub grown-long : (words place : ℕ) (slots more : List Spent) → more ≡ grown words slots → place < words → place < length more
grown-long words place slots more e lt = let l = ap length e in omega (arith, grown-length words slots)
