-- A line's text that is an instruction.
use Rattle.std.proofs.Common.{◌≡◌, ℕ, ◌==◌, true, false, List, length, position, is_some, Option, refl, sym, ap, ◌∙◌, arith}
use Rattle.std.specs.List.{list_all}
use Rattle.std.proofs.lemmas.Bool.Decides.{nat_tests}
use Rattle.asm_words.specs.Text.{is_printed, address_of}
use Rattle.asm_words.specs.Line.{statement_of, code_of}

some_bytes : (n : ℕ) → false ≡ (n == 0) → (0 == n) ≡ false
some_bytes n h = grind (arith, nat_tests)

pub code_is : (body : List ℕ) (place at : Option ℕ) → true ≡ list_all is_printed body → false ≡ (length body == 0) → place ≡ position (λ c. c == 58) body → false ≡ is_some place → address_of body ≡ at
    → code_of at body ≡ statement_of body
code_is body place at printed some is none named =
    let colon : is_some (position (λ c. c == 58) body) ≡ false = ap is_some (sym is) ∙ sym none in
    rw (sym printed, some_bytes (length body) some, colon, named) refl
