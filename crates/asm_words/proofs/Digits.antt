-- The digits of a number, one after another.
use Rattle.std.proofs.Common.{◌≡◌, ℕ, ◌+◌, ◌*◌, ◌<◌, Bool, true, false, List, length, drop, get_or, min, None, sym, ap, ◌∙◌, if◌then◌else◌}
use Rattle.std.proofs.lemmas.List.{drop_more}
use Rattle.asm_words.specs.Number.{digit, is_digit, digits_from}

from_here : (base value : ℕ) (text : List ℕ) (i : ℕ) (b : Bool) → i < length text → b ≡ is_digit base (get_or text i 0)
    → digits_from base value (drop i text) ≡ (if b then digits_from base (min (base * value + digit (get_or text i 0)) 65536) (drop (i + 1) text) else None)
from_here base value text i b h e =
    ap (digits_from base value) (drop_more text i 0 h) ∙ ap (λ (t : Bool). if t then digits_from base (min (base * value + digit (get_or text i 0)) 65536) (drop (i + 1) text) else None) (sym e)

pub one_more : (base value : ℕ) (text : List ℕ) (i : ℕ) → i < length text → true ≡ is_digit base (get_or text i 0)
    → digits_from base value (drop i text) ≡ digits_from base (min (base * value + digit (get_or text i 0)) 65536) (drop (i + 1) text)
one_more base value text i h e = from_here base value text i true h e

pub no_digit : (base value : ℕ) (text : List ℕ) (i : ℕ) → i < length text → false ≡ is_digit base (get_or text i 0) → digits_from base value (drop i text) ≡ None
no_digit base value text i h e = from_here base value text i false h e
