-- The rows of the opcode table whose instructions take two words are those of four patterns, so the second word changes
-- nothing, and a test of the bits of the first one tells.
use Rattle.std.proofs.Common.{◌≡◌, ℕ, ◌==◌, ◌≤◌, Bool, true, false, refl, sym, ap, subst, ◌∙◌, List, [], ◌∷◌, length, if◌then◌else◌, arith, inl, inr, ◌⊎◌}
use Rattle.std.specs.Prelude.{codes, filter}
use Rattle.std.proofs.lemmas.Bool.{false≢true, cases_Bool}
use Rattle.std.proofs.lemmas.Bool.Decides.{nat_tests}
use Rattle.avr_decoder.specs.Opcodes.{Row, bits, fits, matches, matches_any, op_at, rows_at, spelled, table, undefined}
use Rattle.avr_decoder.specs.Words.{words_of, is_two_words}
use Rattle.avr_decoder.specs.declared.op.Op.{Op}
use Rattle.avr_decoder.specs.declared.op.Op.TheVariants as op
use Rattle.avr_decoder.proofs.Apart.{one_row}

-- LDS, STS, JMP and CALL
abbrev pub two_word_patterns : List (List ℕ)
two_word_patterns =
    codes "1001000ddddd0000" ∷
    codes "1001001rrrrr0000" ∷
    codes "1001010kkkkk110k" ∷
    codes "1001010kkkkk111k" ∷
    []

abbrev pub by_patterns : ℕ → Bool
by_patterns w = matches_any two_word_patterns (bits 16 w)

abbrev is_long : Row → Bool
is_long row = words_of (row.made (λ _. 0) 0) == 2

-- the patterns of the long rows, and whether there is one
abbrev long_patterns : List Row → List (List ℕ)
long_patterns [] = []
long_patterns (r ∷ rs) = elim (is_long r) [ true ↦ r.pattern ∷ long_patterns rs | false ↦ long_patterns rs ]

abbrev any_long : List Row → Bool
any_long [] = false
any_long (r ∷ rs) = elim (is_long r) [ true ↦ true | false ↦ any_long rs ]

-- the rows that these bits match
abbrev fit : List ℕ → List Row → List Row
fit bs rows = filter (λ row. matches row.pattern bs) rows

some_long : (rows : List Row) (bs : List ℕ) → matches_any (long_patterns rows) bs ≡ any_long (fit bs rows)
some_long [] bs = refl
some_long (r ∷ rs) bs =
    elim (cases_Bool (is_long r)) [
      | inl long ↦ elim (cases_Bool (matches r.pattern bs)) [
        | inl holds ↦ rw (long, long_patterns, matches_any, holds) (rw (long, any_long) refl)
        | inr fails ↦ rw (long, long_patterns, matches_any, any_long, fails) (some_long rs bs)
      ]
      | inr short ↦ elim (cases_Bool (matches r.pattern bs)) [
        | inl holds ↦ rw (short, long_patterns, holds) (rw (short, any_long) (some_long rs bs))
        | inr fails ↦ rw (short, long_patterns, any_long, fails) (some_long rs bs)
      ]
    ]

table_long : two_word_patterns ≡ long_patterns table
table_long = refl

-- each row makes instructions of as many words, whatever the letters of its pattern spell
abbrev steady : (ℕ → ℕ) → ℕ → List Row → Bool
steady n next [] = true
steady n next (r ∷ rs) = elim (words_of (r.made n next) == (if is_long r then 2 else 1)) [ true ↦ steady n next rs | false ↦ false ]

table_steady : (n : ℕ → ℕ) (next : ℕ) → steady n next table ≡ true
table_steady n next = refl

both : (b c : Bool) → elim b [ true ↦ c | false ↦ false ] ≡ true → (b ≡ true) × (c ≡ true)
both true c h = (refl, h)
both false c h = absurd (false≢true h)

equal : (a b : ℕ) → (a == b) ≡ true → a ≡ b
equal a b h = grind (arith, nat_tests)

first_steady : (n : ℕ → ℕ) (next : ℕ) (bs : List ℕ) (rows rest : List Row) (row : Row) → steady n next rows ≡ true → fit bs rows ≡ row ∷ rest
    → words_of (row.made n next) ≡ (if is_long row then 2 else 1)
first_steady n next bs [] rest row h e = cc
first_steady n next bs (r ∷ rs) rest row h e =
    let parts = both (words_of (r.made n next) == (if is_long r then 2 else 1)) (steady n next rs) h in
    elim (cases_Bool (matches r.pattern bs)) [
      | inl holds ↦
          let f : r ∷ fit bs rs ≡ row ∷ rest = rw holds at e in
          let same : r ≡ row = cc in
          ap (λ it. words_of (it.made n next)) (sym same) ∙ equal _ _ parts.0 ∙ ap (λ it. if is_long it then 2 else 1) same
      | inr fails ↦ first_steady n next bs rs rest row parts.1 (rw fails at e)
    ]

-- one of two characters is 0 and the other 1, and two patterns have such at one place
abbrev opposite : ℕ → ℕ → Bool
opposite c e = elim (c == 48) [ true ↦ e == 49 | false ↦ elim (c == 49) [ true ↦ e == 48 | false ↦ false ] ]

abbrev clash : List ℕ → List ℕ → Bool
clash [] es = false
clash (c ∷ cs) [] = false
clash (c ∷ cs) (e ∷ es) = elim (opposite c e) [ true ↦ true | false ↦ clash cs es ]

either : (b c : Bool) → elim b [ true ↦ true | false ↦ c ] ≡ true → (b ≡ true) ⊎ (c ≡ true)
either true c h = inl refl
either false c h = inr h

opposite_fit : (c e bit : ℕ) → opposite c e ≡ true → fits c bit ≡ true → fits e bit ≡ true → ⊥
opposite_fit c e bit o f g = grind (arith, nat_tests)

clash_match : (p q bs : List ℕ) → clash p q ≡ true → matches p bs ≡ true → matches q bs ≡ true → ⊥
clash_match [] q bs k m n = absurd (false≢true k)
clash_match (c ∷ cs) [] bs k m n = absurd (false≢true k)
clash_match (c ∷ cs) (e ∷ es) [] k m n = absurd (false≢true m)
clash_match (c ∷ cs) (e ∷ es) (b ∷ bs) k m n =
    let first = both (fits c b) (matches cs bs) m in
    let second = both (fits e b) (matches es bs) n in
    elim (either (opposite c e) (clash cs es) k) [
      | inl here ↦ opposite_fit c e b here first.0 second.0
      | inr behind ↦ clash_match cs es bs behind first.1 second.1
    ]

abbrev clash_each : List ℕ → List (List ℕ) → Bool
clash_each p [] = true
clash_each p (q ∷ qs) = elim (clash p q) [ true ↦ clash_each p qs | false ↦ false ]

abbrev clash_all : List (List ℕ) → List (List ℕ) → Bool
clash_all [] qs = true
clash_all (p ∷ ps) qs = elim (clash_each p qs) [ true ↦ clash_all ps qs | false ↦ false ]

none_of : (p bs : List ℕ) (qs : List (List ℕ)) → clash_each p qs ≡ true → matches p bs ≡ true → matches_any qs bs ≡ false
none_of p bs [] k m = refl
none_of p bs (q ∷ qs) k m =
    let parts = both (clash p q) (clash_each p qs) k in
    elim (cases_Bool (matches q bs)) [
      | inl holds ↦ absurd (clash_match p q bs parts.0 m holds)
      | inr fails ↦ rw (fails, matches_any) (none_of p bs qs parts.1 m)
    ]

none_with : (ps qs : List (List ℕ)) (bs : List ℕ) → clash_all ps qs ≡ true → matches_any ps bs ≡ true → matches_any qs bs ≡ false
none_with [] qs bs k m = absurd (false≢true m)
none_with (p ∷ ps) qs bs k m =
    let parts = both (clash_each p qs) (clash_all ps qs) k in
    elim (cases_Bool (matches p bs)) [
      | inl holds ↦ none_of p bs qs parts.0 holds
      | inr fails ↦ none_with ps qs bs parts.1 (rw (fails, matches_any) at m)
    ]

undefined_short : (w : ℕ) → matches_any undefined (bits 16 w) ≡ true → by_patterns w ≡ false
undefined_short w h = none_with undefined two_word_patterns (bits 16 w) refl h

long_by_rows : (w : ℕ) → by_patterns w ≡ any_long (rows_at w)
unfolding rows_at
long_by_rows w = ap (λ ps. matches_any ps (bits 16 w)) table_long ∙ some_long table (bits 16 w)

by_long : (b : Bool) (n : ℕ) → n ≡ (if b then 2 else 1) → n ≡ (if elim b [ true ↦ true | false ↦ false ] then 2 else 1)
by_long true n h = h
by_long false n h = h

-- the instruction, by whether its word is undefined and by the rows of its word
abbrev op_by : Bool → List Row → ℕ → ℕ → Op
op_by is_undefined rows w next =
    elim is_undefined [
      | true ↦ op.Undefined w
      | false ↦ elim rows [
        | [] ↦ op.Reserved w
        | row ∷ _ ↦ row.made (λ letter. spelled letter row.pattern w) next
      ]
    ]

op_is : (w next : ℕ) (is_undefined : Bool) (rows : List Row) → matches_any undefined (bits 16 w) ≡ is_undefined → rows_at w ≡ rows
    → words_of (op_at w next) ≡ words_of (op_by is_undefined rows w next)
unfolding op_at
op_is w next is_undefined rows h e =
    ap (λ b. words_of (op_by b (rows_at w) w next)) h ∙ ap (λ it. words_of (op_by is_undefined it w next)) e

not_two : (w : ℕ) (row other : Row) (rest : List Row) → rows_at w ≡ row ∷ other ∷ rest → ⊥
not_two w row other rest e =
    let few : length (row ∷ other ∷ rest) ≤ 1 = subst (λ (rows : List Row). length rows ≤ 1) e (one_row w) in
    omega arith

-- the words of the instruction that the rows of a word give
of_rows : (w next : ℕ) (rows : List Row) → rows_at w ≡ rows → words_of (op_by false rows w next) ≡ (if any_long rows then 2 else 1)
unfolding rows_at
of_rows w next [] e = refl
of_rows w next (row ∷ []) e =
    let n : ℕ → ℕ = λ letter. spelled letter row.pattern w in
    by_long (is_long row) (words_of (row.made n next)) (first_steady n next (bits 16 w) table [] row (table_steady n next) e)
of_rows w next (row ∷ other ∷ rest) e =
    absurd (not_two w row other rest e)

words_by_first : (w next : ℕ) → words_of (op_at w next) ≡ (if by_patterns w then 2 else 1)
words_by_first w next =
    elim (cases_Bool (matches_any undefined (bits 16 w))) [
      | inl holds ↦ op_is w next true (rows_at w) holds refl ∙ ap (λ b. if b then 2 else 1) (sym (undefined_short w holds))
      | inr fails ↦ op_is w next false (rows_at w) fails refl ∙ of_rows w next (rows_at w) refl ∙ ap (λ b. if b then 2 else 1) (sym (long_by_rows w))
    ]

two_or_one : (b : Bool) → ((if b then 2 else 1) == 2) ≡ b
two_or_one true = refl
two_or_one false = refl

pub is_two_words-by_patterns : (w : ℕ) → is_two_words w ≡ by_patterns w
unfolding is_two_words
is_two_words-by_patterns w = ap (λ n. n == 2) (words_by_first w 0) ∙ two_or_one (by_patterns w)

pub words_by_word : (w next : ℕ) → words_of (op_at w next) ≡ (if is_two_words w then 2 else 1)
words_by_word w next = words_by_first w next ∙ ap (λ b. if b then 2 else 1) (sym (is_two_words-by_patterns w))
