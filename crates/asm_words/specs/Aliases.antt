-- What an alias means: the same words as its long form, whatever its operand is, and the same fault.
use Rattle.std.specs.Prelude.{◌≡◌, ℕ, List, Option, codes}
use Rattle.asm_words.specs.Line.{Zero, One, Two}
use Rattle.asm_words.specs.Encoded.{encoded}
use Rattle.asm_words.specs.declared.labels.Label.{Label}

-- without operands: the long form has one
abbrev pub IsBare : List ℕ → List ℕ → List ℕ → Type 0
IsBare short long operand = (at : ℕ) (labels : List ℕ → Option Label) → encoded short Zero at labels ≡ encoded long (One operand) at labels

-- with a target: the long form has a flag before it
abbrev pub IsBranch : List ℕ → List ℕ → List ℕ → Type 0
IsBranch short long flag = (target : List ℕ) (at : ℕ) (labels : List ℕ → Option Label) → encoded short (One target) at labels ≡ encoded long (Two flag target) at labels

-- with a register: the long form has it twice
abbrev pub IsTwice : List ℕ → List ℕ → Type 0
IsTwice short long = (register : List ℕ) (at : ℕ) (labels : List ℕ → Option Label) → encoded short (One register) at labels ≡ encoded long (Two register register) at labels

-- with a pointer alone: the long form has a displacement of 0
abbrev pub IsLoad : List ℕ → List ℕ → Type 0
IsLoad pointer displaced =
    (register : List ℕ) (at : ℕ) (labels : List ℕ → Option Label) → encoded (codes "ld") (Two register pointer) at labels ≡ encoded (codes "ldd") (Two register displaced) at labels

abbrev pub IsStore : List ℕ → List ℕ → Type 0
IsStore pointer displaced =
    (register : List ℕ) (at : ℕ) (labels : List ℕ → Option Label) → encoded (codes "st") (Two pointer register) at labels ≡ encoded (codes "std") (Two displaced register) at labels
