-- The bytes that some lines put are, address by address, the last that one of them says; and `used` is behind them.
use Rattle.std.proofs.Common.{◌≡◌, ℕ, zero, suc, ◌+◌, ◌-◌, ◌<◌, ◌≤◌, max, true, Some, List, [], ◌∷◌, length, get_or, take, slice_get, take-suc, eqb, cond, refl, sym, ap, ◌∙◌, subst, inl, inr, arith}
use Rattle.std.proofs.lemmas.Bool.{cases_eq, cases_lt}
use Rattle.std.proofs.lemmas.Bool.Decides.{nat_tests}
use Rattle.std.proofs.lemmas.Option.{slice_get-get_or, slice_get_within}
use Rattle.ihex_loader.specs.Line.{Line, Blank, Faulty, Record}
use Rattle.ihex_loader.specs.Image.{base_after, puts, puts_behind, placed, last_put, used_of}
use Rattle.ihex_loader.specs.Accepted.{IsLast, IsBase, PutsAt, IsTop, NoByte, Highest}
use Rattle.ihex_loader.proofs.Puts.{last_put-append, used_of-append, used_of-placed}
use Rattle.ihex_loader.proofs.Lines.{puts-more}
use Rattle.ihex_loader.proofs.Good.{≢-eqb-false}
use Rattle.ihex_loader.proofs.LastSaid.{SaysOne, last_zero, last_same, last_new}
use Rattle.ihex_loader.proofs.Bases.{line_at, there, base_unique, same_line, record_kind, base_is_last}

-- bytes placed above an address, or below it
placed_above : (u a at : ℕ) (bs : List ℕ) → a < at → last_put u a (placed at bs) ≡ u
placed_above u a at [] h = refl
placed_above u a at (b ∷ bs) h =
    ap (λ t. last_put (cond t b u) a (placed (at + 1) bs)) (≢-eqb-false at a (λ e. absurd (omega arith))) ∙ placed_above u a (at + 1) bs (omega arith)

placed_below : (u a at : ℕ) (bs : List ℕ) → at + length bs ≤ a → last_put u a (placed at bs) ≡ u
placed_below u a at [] h = refl
placed_below u a at (b ∷ bs) h =
    ap (λ t. last_put (cond t b u) a (placed (at + 1) bs)) (≢-eqb-false at a (λ e. absurd (omega arith))) ∙ placed_below u a (at + 1) bs (omega arith)

eqb_same : (m n : ℕ) → m ≡ n → eqb m n ≡ true
eqb_same m n e = grind (arith, nat_tests)

-- the byte placed at an address
placed_at : (u a at i : ℕ) (bs : List ℕ) (b : ℕ) → slice_get bs i ≡ Some b → a ≡ at + i → last_put u a (placed at bs) ≡ b
placed_at u a at i [] b e h = absurd (cc)
placed_at u a at zero (x ∷ xs) b e h =
    let x_is : x ≡ b = cc in
    ap (λ t. last_put (cond t x u) a (placed (at + 1) xs)) (eqb_same at a (omega arith)) ∙ (placed_above x a (at + 1) xs (omega arith) ∙ x_is)
placed_at u a at (suc i) (x ∷ xs) b e h = placed_at (cond (eqb at a) x u) a (at + 1) i xs b e (omega arith)

-- what a line says of an address, by the base there
pub record Read (lines : List Line) (n base offset : ℕ) (bytes : List ℕ) (a b : ℕ) : Type 0 where
  pub place : ℕ
  pub byte_is : slice_get bytes place ≡ Some b
  pub address : a ≡ base + offset + place

read_by : (lines : List Line) (n base k offset : ℕ) (bytes : List ℕ) (a b : ℕ) → slice_get lines n ≡ Some (Record k offset bytes) → IsBase lines n base
    → PutsAt lines a n b → (k ≡ 0) × Read lines n base offset bytes a b
read_by lines n base k offset bytes a b e is p =
    let same = same_line lines n _ _ e p.line_is in
    let bs : bytes ≡ p.bytes = cc in
    let o : offset ≡ p.offset = cc in
    let base_same : base ≡ p.base = base_unique lines n base p.base is p.base_is in
    (record_kind k 0 _ _ _ _ same, record { place = p.place; byte_is = rw bs p.byte_is; address = rw (base_same, o) p.address })

pub puts_one : (lines : List Line) (a : ℕ) → SaysOne (PutsAt lines a)
puts_one lines a n x y p q =
    let r = (read_by lines n p.base 0 p.offset p.bytes a y p.line_is p.base_is q).1 in
    let place : p.place ≡ r.place = omega (arith, p.address, r.address) in
    let e : slice_get p.bytes p.place ≡ Some y = rw place r.byte_is in
    let f : Some x ≡ Some y = sym p.byte_is ∙ e in
    cc

-- a line that is no record puts no byte
puts_none : (lines : List Line) (n : ℕ) (line : Line) (a b : ℕ) → slice_get lines n ≡ Some line → ((o : ℕ) (bs : List ℕ) → line ≡ Record 0 o bs → ⊥) → PutsAt lines a n b → ⊥
puts_none lines n line a b e none p = none p.offset p.bytes (same_line lines n _ _ e p.line_is)

-- what one line puts, by the base there
abbrev put_by : ℕ → Line → List (ℕ × ℕ)
put_by base Blank = []
put_by base (Faulty f) = []
put_by base (Record k offset bytes) = cond (eqb k 0) (placed (base + offset) bytes) []

put_by-puts_behind : (before : List Line) (line : Line) → puts_behind before line ≡ put_by (base_after before) line
put_by-puts_behind before Blank = refl
put_by-puts_behind before (Faulty f) = refl
put_by-puts_behind before (Record k offset bytes) = refl

byte_step : (lines : List Line) (n base u a : ℕ) (line : Line) → slice_get lines n ≡ Some line → IsBase lines n base
    → IsLast (PutsAt lines a) n 255 u → IsLast (PutsAt lines a) (suc n) 255 (last_put u a (put_by base line))
byte_step lines n base u a Blank e is last = last_same (PutsAt lines a) n 255 u u last (λ b. puts_none lines n Blank a b e (λ o bs c. cc)) refl
byte_step lines n base u a (Faulty f) e is last = last_same (PutsAt lines a) n 255 u u last (λ b. puts_none lines n (Faulty f) a b e (λ o bs c. cc)) refl
byte_step lines n base u a (Record k offset bytes) e is last =
    elim (cases_eq k 0) [
      | inr not0 ↦ rw (≢-eqb-false k 0 not0) (last_same (PutsAt lines a) n 255 u u last
          (λ b. puts_none lines n (Record k offset bytes) a b e (λ o bs c. not0 (record_kind k 0 _ _ _ _ c))) refl)
      | inl data_kind ↦ rw data_kind (data_step (rw data_kind at e))
    ]
  where
    data_step : slice_get lines n ≡ Some (Record 0 offset bytes) → IsLast (PutsAt lines a) (suc n) 255 (last_put u a (placed (base + offset) bytes))
    data_step e0 = elim (cases_lt a (base + offset)) [
      | inl above ↦ last_same (PutsAt lines a) n 255 u _ last (λ b p. let r = (read_by lines n base 0 offset bytes a b e0 is p).1 in absurd (omega (arith, r.address)))
          (placed_above u a (base + offset) bytes above)
      | inr from ↦ elim (cases_lt a (base + offset + length bytes)) [
        | inr below ↦ last_same (PutsAt lines a) n 255 u _ last
            (λ b p. let r = (read_by lines n base 0 offset bytes a b e0 is p).1 in absurd (omega (arith, r.address, slice_get_within bytes r.place b r.byte_is)))
            (placed_below u a (base + offset) bytes below)
        | inl within ↦
            let i = a - (base + offset) in
            let address : a ≡ base + offset + i = omega arith in
            let byte : slice_get bytes i ≡ Some (get_or bytes i 0) = slice_get-get_or bytes i 0 (omega arith) in
            rw (placed_at u a (base + offset) i bytes (get_or bytes i 0) byte address) (last_new (PutsAt lines a) n 255 (get_or bytes i 0) (record {
              offset = offset;
              bytes = bytes;
              base = base;
              place = i;
              line_is = e0;
              base_is = is;
              byte_is = byte;
              address = address;
            }))
      ]
    ]

pub byte_is_last : (lines : List Line) (a n : ℕ) → n ≤ length lines → IsLast (PutsAt lines a) n 255 (last_put 255 a (puts [] (take n lines)))
unfolding puts
byte_is_last lines a zero h = last_zero (PutsAt lines a) 255 255 refl
byte_is_last lines a (suc n) h =
    let base = base_after (take n lines) in
    rw (
      take-suc lines n Blank (omega arith),
      puts-more (take n lines) (line_at lines n),
      last_put-append 255 a (puts [] (take n lines)) (puts_behind (take n lines) (line_at lines n)),
      put_by-puts_behind (take n lines) (line_at lines n),
    )
    (byte_step lines n base _ a (line_at lines n) (there lines n (omega arith)) (base_is_last lines n (omega arith)) (byte_is_last lines a n (omega arith)))

-- `used` is above each byte that is put, by no more than one
pub record IsUsed (lines : List Line) (n used : ℕ) : Type 0 where
  pub below : (a m b : ℕ) → m < n → PutsAt lines a m b → a < used
  pub top : IsTop lines used

used_zero : (lines : List Line) → IsUsed lines 0 0
used_zero lines = record { below = λ a m b lt p. absurd (omega arith); top = NoByte refl }

-- a line that puts no byte
used_same : (lines : List Line) (n u v : ℕ) → IsUsed lines n u → ((a b : ℕ) → PutsAt lines a n b → ⊥) → v ≡ u → IsUsed lines (suc n) v
used_same lines n u v is none e = subst (IsUsed lines (suc n)) (sym e) (record {
  below = λ a m b lt p. elim (cases_lt m n) [
    | inl early ↦ is.below a m b early p
    | inr top ↦ let at : m ≡ n = omega arith in absurd (none a b (subst (λ i. PutsAt lines a i b) at p))
  ];
  top = is.top;
})

used_step : (lines : List Line) (n base u : ℕ) (line : Line) → slice_get lines n ≡ Some line → IsBase lines n base
    → IsUsed lines n u → IsUsed lines (suc n) (max u (used_of (put_by base line)))
used_step lines n base u Blank e is used = used_same lines n u _ used (λ a b. puts_none lines n Blank a b e (λ o bs c. cc)) (omega arith)
used_step lines n base u (Faulty f) e is used = used_same lines n u _ used (λ a b. puts_none lines n (Faulty f) a b e (λ o bs c. cc)) (omega arith)
used_step lines n base u (Record k offset bytes) e is used =
    elim (cases_eq k 0) [
      | inr not0 ↦ rw (≢-eqb-false k 0 not0) (used_same lines n u _ used (λ a b. puts_none lines n (Record k offset bytes) a b e (λ o bs c. not0 (record_kind k 0 _ _ _ _ c))) (omega arith))
      | inl data_kind ↦ rw data_kind (data_used bytes (rw data_kind at e))
    ]
  where
    data_used : (bs : List ℕ) → slice_get lines n ≡ Some (Record 0 offset bs) → IsUsed lines (suc n) (max u (used_of (placed (base + offset) bs)))
    data_used [] e0 = used_same lines n u _ used (λ a b p. let r = (read_by lines n base 0 offset [] a b e0 is p).1 in absurd (omega (arith, slice_get_within [] r.place b r.byte_is))) (omega arith)
    data_used (x ∷ xs) e0 =
        let end = base + offset + length (x ∷ xs) in
        rw (used_of-placed (base + offset) x xs) (record {
          below = λ a m b lt p. elim (cases_lt m n) [
            | inl early ↦ let h = used.below a m b early p in omega (arith, h)
            | inr late ↦
                let at : m ≡ n = omega arith in
                let r = (read_by lines n base 0 offset (x ∷ xs) a b e0 is (subst (λ i. PutsAt lines a i b) at p)).1 in
                omega (arith, r.address, slice_get_within (x ∷ xs) r.place b r.byte_is)
          ];
          top = elim (cases_lt u end) [
            | inr high ↦ let same : max u end ≡ u = omega arith in subst (IsTop lines) (sym same) used.top
            | inl low ↦
                let byte = slice_get-get_or (x ∷ xs) (length xs) 0 (omega arith) in
                Highest (base + offset + length xs) n (get_or (x ∷ xs) (length xs) 0) (record {
                  offset = offset;
                  bytes = x ∷ xs;
                  base = base;
                  place = length xs;
                  line_is = e0;
                  base_is = is;
                  byte_is = byte;
                  address = refl;
                }) (omega arith)
          ];
        })

pub used_is_top : (lines : List Line) (n : ℕ) → n ≤ length lines → IsUsed lines n (used_of (puts [] (take n lines)))
unfolding puts
used_is_top lines zero h = used_zero lines
used_is_top lines (suc n) h =
    let base = base_after (take n lines) in
    rw (
      take-suc lines n Blank (omega arith),
      puts-more (take n lines) (line_at lines n),
      used_of-append (puts [] (take n lines)) (puts_behind (take n lines) (line_at lines n)),
      put_by-puts_behind (take n lines) (line_at lines n),
    )
    (used_step lines n base _ (line_at lines n) (there lines n (omega arith)) (base_is_last lines n (omega arith)) (used_is_top lines n (omega arith)))

-- two numbers that are one more than the highest address are one
pub top_unique : (lines : List Line) (u v : ℕ) → ((a n b : ℕ) → PutsAt lines a n b → a < u) → ((a n b : ℕ) → PutsAt lines a n b → a < v)
    → IsTop lines u → IsTop lines v → u ≡ v
top_unique lines u v below below' (NoByte e) (NoByte e') = omega arith
top_unique lines u v below below' (NoByte e) (Highest a n b p e') = absurd (omega (arith, below a n b p))
top_unique lines u v below below' (Highest a n b p e) (NoByte e') = absurd (omega (arith, below' a n b p))
top_unique lines u v below below' (Highest a n b p e) (Highest a' n' b' p' e') = omega (arith, below' a n b p, below a' n' b' p')
