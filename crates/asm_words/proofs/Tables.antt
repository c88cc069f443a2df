-- The tables of mnemonics and pointers in the code are those of the definitions.
use Rattle.std.proofs.Common.{◌≡◌, ℕ, zero, suc, ◌+◌, ◌<◌, ◌≤◌, Bool, true, false, List, [], ◌∷◌, Bor, length, map, take, drop, get_or, option_map, Option, Some, None, refl, sym, ap, ◌∙◌, if◌then◌else◌}
use Rattle.std.specs.Str.{bytes_eq}
use Rattle.std.proofs.lemmas.List.{drop_more, drop_all}
use Rattle.asm_words.specs.declared.form.Field.{Field}
use Rattle.asm_words.specs.declared.opcodes.TheConstants.{BARE, ONE, TWO}
use Rattle.asm_words.specs.declared.form.OneForm.{OneForm}
use Rattle.asm_words.specs.declared.form.TwoForm.{TwoForm}
use Rattle.asm_words.specs.declared.field.TheConstants.{POINTERS, FLASH_POINTERS}
use Rattle.asm_words.specs.Fields.{pointer, flash_pointer}
use Rattle.asm_words.specs.Table.{found}
use Rattle.asm_words.specs.Opcodes.{bare, one, two, or_else, one_plain, one_alias, two_registers, two_narrow, two_signed, two_constant, two_memory, two_bits}

-- ---- from a row of a table on
abbrev pub row_of : {F : Type 0} → Bor (List ℕ) × F → List ℕ × F
row_of r = (r.0.now, r.1)

from_here : {F : Type 0} (m : List ℕ) (rs : List (Bor (List ℕ) × F)) (i : ℕ) (r : Bor (List ℕ) × F) (b : Bool) → i < length rs → r ≡ get_or rs i r → b ≡ bytes_eq m r.0.now
    → found m (map row_of (drop i rs)) ≡ (if b then Some r.1 else found m (map row_of (drop (i + 1) rs)))
from_here {F = F} m rs i r b h is e =
    let here : drop i rs ≡ r ∷ drop (i + 1) rs = drop_more rs i r h ∙ ap (λ (t : Bor (List ℕ) × F). t ∷ drop (i + 1) rs) (sym is) in
    ap (λ (t : List (Bor (List ℕ) × F)). found m (map row_of t)) here ∙ ap (λ (t : Bool). if t then Some r.1 else found m (map row_of (drop (i + 1) rs))) (sym e)

pub found_more : {F : Type 0} (m : List ℕ) (rs : List (Bor (List ℕ) × F)) (i : ℕ) (r : Bor (List ℕ) × F) → i < length rs → r ≡ get_or rs i r → false ≡ bytes_eq m r.0.now
    → found m (map row_of (drop i rs)) ≡ found m (map row_of (drop (i + 1) rs))
found_more m rs i r h is e = from_here m rs i r false h is e

pub found_here : {F : Type 0} (m : List ℕ) (rs : List (Bor (List ℕ) × F)) (i : ℕ) (r : Bor (List ℕ) × F) → i < length rs → r ≡ get_or rs i r → true ≡ bytes_eq m r.0.now
    → found m (map row_of (drop i rs)) ≡ Some r.1
found_here m rs i r h is e = from_here m rs i r true h is e

pub found_none : {F : Type 0} (m : List ℕ) (rs : List (Bor (List ℕ) × F)) (i : ℕ) → length rs ≤ i → found m (map row_of (drop i rs)) ≡ None
found_none {F = F} m rs i h = ap (λ (t : List (Bor (List ℕ) × F)). found m (map row_of t)) (drop_all i rs h)

-- ---- the first rows of a table, or those behind them
or_else_if : {F : Type 0} (b : Bool) (x : F) (a c : Option F) → or_else (if b then Some x else a) c ≡ (if b then Some x else or_else a c)
or_else_if true x a c = refl
or_else_if false x a c = refl

cut : {F : Type 0} (m : List ℕ) (n : ℕ) (rows : List (List ℕ × F)) → found m rows ≡ or_else (found m (take n rows)) (found m (drop n rows))
cut m zero rows = refl
cut m (suc n) [] = refl
cut {F = F} m (suc n) (r ∷ rs) = ap (λ (t : Option F). if bytes_eq m r.0 then Some r.1 else t) (cut m n rs) ∙ sym (or_else_if (bytes_eq m r.0) r.1 (found m (take n rs)) (found m (drop n rs)))

-- a table is two, one behind the other
behind : {F : Type 0} (m : List ℕ) (n : ℕ) (rows : List (List ℕ × F)) (a c : Option F) → found m (take n rows) ≡ a → found m (drop n rows) ≡ c → found m rows ≡ or_else a c
behind m n rows a c first rest = cut m n rows ∙ (λ i. or_else (first i) (rest i))

made_if : {F G : Type 0} (f : F → G) (b : Bool) (x : F) (rest : Option F) → option_map f (if b then Some x else rest) ≡ (if b then Some (f x) else option_map f rest)
made_if f true x rest = refl
made_if f false x rest = refl

-- what is made of the form that is found
made : {F G : Type 0} (f : F → G) (m : List ℕ) (rows : List (List ℕ × F)) → option_map f (found m rows) ≡ found m (map (λ row. (row.0, f row.1)) rows)
made f m [] = refl
made {G = G} f m (r ∷ rs) = made_if f (bytes_eq m r.0) r.1 (found m rs) ∙ ap (λ (t : Option G). if bytes_eq m r.0 then Some (f r.1) else t) (made f m rs)

-- ---- without operands
pub bare_is : (m : List ℕ) → found m (map (λ row. (row.0.now, row.1)) BARE) ≡ bare m
unfolding bare
bare_is m = refl

-- ---- pointers
pub pointer_is : (text : List ℕ) → found text (map (λ row. (row.0.now, row.1)) POINTERS) ≡ pointer text
unfolding pointer
pointer_is text = refl

pub flash_pointer_is : (text : List ℕ) → found text (map (λ row. (row.0.now, row.1)) FLASH_POINTERS) ≡ flash_pointer text
unfolding flash_pointer
flash_pointer_is text = refl

-- ---- with one operand
abbrev pub one_form : Field × ℕ → OneForm
one_form f = record { field = f.0; opcode = f.1 }

abbrev one_rows : List (List ℕ × OneForm)
one_rows = map (λ row. (row.0.now, one_form row.1)) ONE

plain_is : (m : List ℕ) → found m (take 17 one_rows) ≡ one_plain m
unfolding one_plain
plain_is m = refl

alias_is : (m : List ℕ) → found m (drop 17 one_rows) ≡ one_alias m
unfolding one_alias
alias_is m = refl

pub one_is : (m : List ℕ) → option_map one_form (found m (map (λ row. (row.0.now, row.1)) ONE)) ≡ one m
one_is m = made one_form m (map (λ row. (row.0.now, row.1)) ONE) ∙ behind m 17 one_rows _ _ (plain_is m) (alias_is m)

-- ---- with two operands
abbrev pub two_form : Field × Field × ℕ → TwoForm
two_form f = record { first = f.0; second = f.1; opcode = f.2 }

abbrev two_rows : List (List ℕ × TwoForm)
two_rows = map (λ row. (row.0.now, two_form row.1)) TWO

registers_are : (m : List ℕ) → found m (take 12 two_rows) ≡ two_registers m
unfolding two_registers
registers_are m = refl

narrow_are : (m : List ℕ) → found m (take 3 (drop 12 two_rows)) ≡ two_narrow m
unfolding two_narrow
narrow_are m = refl

signed_are : (m : List ℕ) → found m (take 3 (drop 15 two_rows)) ≡ two_signed m
unfolding two_signed
signed_are m = refl

constant_are : (m : List ℕ) → found m (take 8 (drop 18 two_rows)) ≡ two_constant m
unfolding two_constant
constant_are m = refl

memory_are : (m : List ℕ) → found m (take 10 (drop 26 two_rows)) ≡ two_memory m
unfolding two_memory
memory_are m = refl

bits_are : (m : List ℕ) → found m (drop 36 two_rows) ≡ two_bits m
unfolding two_bits
bits_are m = refl

pub two_is : (m : List ℕ) → option_map two_form (found m (map (λ row. (row.0.now, row.1)) TWO)) ≡ two m
two_is m =
    made two_form m (map (λ row. (row.0.now, row.1)) TWO)
    ∙ behind m 12 two_rows _ _ (registers_are m) (behind m 3 (drop 12 two_rows) _ _ (narrow_are m) (behind m 3 (drop 15 two_rows) _ _ (signed_are m)
    (behind m 8 (drop 18 two_rows) _ _ (constant_are m) (behind m 10 (drop 26 two_rows) _ _ (memory_are m) (bits_are m)))))
