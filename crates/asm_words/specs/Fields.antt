-- The bits that an operand puts into a word, where it is one that may stand there.
use Rattle.std.specs.Prelude.{ℕ, ◌+◌, ◌-◌, ◌*◌, ◌/◌, ◌%◌, ◌==◌, ◌||◌, nat_lt, not, if◌then◌else◌, List, ◌∷◌, codes, Option, Some, None}
use Rattle.std.specs.Str.{bytes_eq}
use Rattle.asm_words.specs.declared.form.RegisterField.{RegisterField}
use Rattle.asm_words.specs.declared.form.RegisterField.TheVariants as register
use Rattle.asm_words.specs.declared.form.NumberField.{NumberField}
use Rattle.asm_words.specs.declared.form.NumberField.TheVariants as number_field
use Rattle.asm_words.specs.Number.{number}

-- a register's number, 0 to 31, in its field
unfoldable pub register_bits : RegisterField → ℕ → Option ℕ
register_bits register.Middle n = Some (16 * n)
register_bits register.Split n = Some (n / 16 * 512 + n % 16)
register_bits register.Both n = Some (16 * n + (n / 16 * 512 + n % 16))
register_bits register.UpperMiddle n = if nat_lt n 16 then None else Some (16 * (n - 16))
register_bits register.UpperLow n = if nat_lt n 16 then None else Some (n - 16)
register_bits register.ShortMiddle n = if nat_lt n 16 || nat_lt 23 n then None else Some (16 * (n - 16))
register_bits register.ShortLow n = if nat_lt n 16 || nat_lt 23 n then None else Some (n - 16)
register_bits register.PairMiddle n = if n % 2 == 1 then None else Some (8 * n)
register_bits register.PairLow n = if n % 2 == 1 then None else Some (n / 2)
register_bits register.WordPair n = if nat_lt n 24 || n % 2 == 1 then None else Some (8 * (n - 24))

-- a number in its field
unfoldable pub number_bits : NumberField → ℕ → Option ℕ
number_bits number_field.Constant n = if nat_lt 255 n then None else Some (n / 16 * 256 + n % 16)
number_bits number_field.ShortConstant n = if nat_lt 63 n then None else Some (n / 16 * 64 + n % 16)
number_bits number_field.Address n = if nat_lt 63 n then None else Some (n / 16 * 512 + n % 16)
number_bits number_field.LowAddress n = if nat_lt 31 n then None else Some (8 * n)
number_bits number_field.LowThree n = if nat_lt 7 n then None else Some n
number_bits number_field.Flag n = if nat_lt 7 n then None else Some (16 * n)
number_bits number_field.Word n = if nat_lt 65535 n then None else Some n

-- the pointers of LD and ST; Y and Z are Y+0 and Z+0
unfoldable pub pointer : List ℕ → Option ℕ
pointer text =
    if bytes_eq text (codes "X") then Some 0x100C
    else if bytes_eq text (codes "X+") then Some 0x100D
    else if bytes_eq text (codes "-X") then Some 0x100E
    else if bytes_eq text (codes "Y") then Some 0x0008
    else if bytes_eq text (codes "Y+") then Some 0x1009
    else if bytes_eq text (codes "-Y") then Some 0x100A
    else if bytes_eq text (codes "Z") then Some 0x0000
    else if bytes_eq text (codes "Z+") then Some 0x1001
    else if bytes_eq text (codes "-Z") then Some 0x1002
    else None

-- the pointers of LPM and ELPM
unfoldable pub flash_pointer : List ℕ → Option ℕ
flash_pointer text =
    if bytes_eq text (codes "Z") then Some 0
    else if bytes_eq text (codes "Z+") then Some 1
    else None

-- Y, 89, and Z, 90
abbrev pub base_of : ℕ → Option ℕ
base_of letter = if letter == 89 then Some 8 else if letter == 90 then Some 0 else None

abbrev pub displaced : Option ℕ → Option ℕ
displaced None = None
displaced (Some q) = if nat_lt 63 q then None else Some (q / 32 * 8192 + q / 8 % 4 * 1024 + q % 8)

abbrev pub both_bits : Option ℕ → Option ℕ → Option ℕ
both_bits None q = None
both_bits (Some base) None = None
both_bits (Some base) (Some bits) = Some ((bits + base) % 65536)

-- Y or Z, +, 43, and a displacement of 0 to 63
unfoldable pub displaced_of : List ℕ → Option ℕ
displaced_of (letter ∷ plus ∷ digits) = if not (plus == 43) then None else both_bits (base_of letter) (displaced (number digits))
displaced_of _ = None
