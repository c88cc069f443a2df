-- A flash that a file gives has bytes: what a record says is pairs of digits, and what no record gives is 0xFF.
use Rattle.std.proofs.Common.{◌≡◌, ℕ, ◌+◌, ◌<◌, cond, eqb, Bool, true, false, List, [], ◌∷◌, length, get_or, take, drop, slice_get, Result, Ok, Err, Some, refl, sym, ap, ◌∙◌, subst, inl, inr, arith}
use Rattle.std.proofs.lemmas.Bool.{cases_lt}
use Rattle.std.proofs.lemmas.List.{get_or-take, get_or-drop, get_or_past, get_or-map, length-take, length-map}
use Rattle.std.proofs.lemmas.Option.{slice_get-get_or, slice_get_within}
use Rattle.std.proofs.Math.Seq.{take-length}
use Rattle.std.specs.List.{slice_split}
use Rattle.hex.specs.Hex.{IsBytes, decode_of}
use Rattle.hex.specs.declared.error.FromHexError.{FromHexError}
use Rattle.hex.proofs.HexLemmas.{decode_of-ok}
use Rattle.ihex_loader.specs.declared.fault.LineFault.{LineFault}
use Rattle.ihex_loader.specs.declared.fault.LineFault.TheVariants.{NotARecord, BadSum, BadType, BadLength}
use Rattle.ihex_loader.specs.Flash.{byte_at}
use Rattle.ihex_loader.specs.Line.{Line, Blank, Faulty, Record, kind_of, offset_of, data_of, record_of, record_of_pairs, marked_line, line_of, without_cr}
use Rattle.ihex_loader.specs.Image.{image, lines_of, last_put, puts}
use Rattle.ihex_loader.specs.Accepted.{IsLast, NoneSays, LineSays, PutsAt}
use Rattle.ihex_loader.proofs.Given.{byte_is_last}
use Rattle.ihex_loader.proofs.OnePass.{gives_image}

-- the data of a line, where it is a record, are bytes
record HasBytes (line : Line) : Type 0 where
  bytes : (kind offset : ℕ) (given : List ℕ) → line ≡ Record kind offset given → IsBytes given

blank_has : HasBytes Blank
blank_has = record { bytes = λ kind offset given e. cc }

faulty_has : (fault : LineFault) → HasBytes (Faulty fault)
faulty_has fault = record { bytes = λ kind offset given e. cc }

record_has : (kind offset : ℕ) (given : List ℕ) → IsBytes given → HasBytes (Record kind offset given)
record_has kind offset given are = record { bytes = λ k o other e. let same : given ≡ other = cc in subst IsBytes same are }

taken_bytes : (n : ℕ) (xs : List ℕ) → IsBytes xs → IsBytes (take n xs)
taken_bytes n xs are i = elim (cases_lt i n) [
  | inl within ↦ rw (get_or-take n xs i 0 within) (are i)
  | inr past ↦ rw (get_or_past (take n xs) i 0 (let e = length-take n xs in omega (arith, e))) (omega arith)
]

dropped_bytes : (n : ℕ) (xs : List ℕ) → IsBytes xs → IsBytes (drop n xs)
dropped_bytes n xs are i = rw (get_or-drop n xs i 0) (are (n + i))

data_bytes : (bytes : List ℕ) → IsBytes bytes → IsBytes (data_of bytes)
data_bytes bytes are = taken_bytes _ (drop 4 bytes) (dropped_bytes 4 bytes are)

chosen : (b : Bool) (x y : Line) → HasBytes x → HasBytes y → HasBytes (cond b x y)
chosen true x y h g = h
chosen false x y h g = g

bytes_have : (bytes : List ℕ) → IsBytes bytes → HasBytes (record_of bytes)
bytes_have bytes are =
    chosen _ _ _ (faulty_has NotARecord) (chosen _ _ _ (faulty_has BadSum) (chosen _ _ _ (faulty_has BadType) (chosen _ _ _ (faulty_has BadLength)
    (record_has (kind_of bytes) (offset_of bytes) (data_of bytes) (data_bytes bytes are)))))

pairs_have : (decoded : Result (List ℕ) FromHexError) → ((bytes : List ℕ) → decoded ≡ Ok bytes → IsBytes bytes) → HasBytes (record_of_pairs decoded)
pairs_have (Ok bytes) are = bytes_have bytes (are bytes refl)
pairs_have (Err e) are = faulty_has NotARecord

marked_has : (text : List ℕ) → HasBytes (marked_line text)
marked_has [] = faulty_has NotARecord
marked_has (c ∷ digits) = chosen _ _ _ (pairs_have (decode_of digits) (λ bytes e. (decode_of-ok digits bytes e).3)) (faulty_has NotARecord)

line_has : (text : List ℕ) → HasBytes (line_of text)
unfolding line_of
line_has text = chosen _ _ _ blank_has (marked_has text)

-- a record among the lines of a file has bytes
record_in : (text : List ℕ) (n kind offset : ℕ) (given : List ℕ) → slice_get (lines_of text) n ≡ Some (Record kind offset given) → IsBytes given
record_in text n kind offset given is =
    let pieces = slice_split (λ b. eqb b 10) text in
    let within = slice_get_within (lines_of text) n _ is in
    let many = length-map pieces (λ piece. line_of (without_cr piece)) in
    let at : get_or (lines_of text) n Blank ≡ line_of (without_cr (get_or pieces n [])) =
    get_or-map (λ piece. line_of (without_cr piece)) pieces n [] Blank (omega (arith, within, many)) in
    let same : Record kind offset given ≡ line_of (without_cr (get_or pieces n [])) = cc (is, slice_get-get_or (lines_of text) n Blank within, at) in
    (line_has (without_cr (get_or pieces n []))).bytes kind offset given (sym same)

last_byte : (text : List ℕ) (a n b : ℕ) → IsLast (PutsAt (lines_of text) a) n 255 b → b < 256
last_byte text a n b (NoneSays none is) = omega (arith, is)
last_byte text a n b (LineSays m before says last) =
    let are = record_in text m 0 says.offset says.bytes says.line_is says.place in
    let within = slice_get_within says.bytes says.place b says.byte_is in
    let at : get_or says.bytes says.place 0 ≡ b = cc (says.byte_is, slice_get-get_or says.bytes says.place 0 within) in
    omega (arith, are, at)

pub image_bytes : (text : List ℕ) → IsBytes (image text).bytes
image_bytes text a =
    let gives = gives_image text in
    let lines = lines_of text in
    elim (cases_lt a 131072) [
      | inr past ↦ rw (get_or_past (image text).bytes a 0 (let len = gives.len in omega (arith, len))) (omega arith)
      | inl within ↦
          let last = byte_is_last lines a (length lines) (omega arith) in
          let same : last_put 255 a (puts [] (take (length lines) lines)) ≡ byte_at (image text).bytes a =
          ap (λ l. last_put 255 a (puts [] l)) (take-length lines) ∙ sym (gives.each a within) in
          last_byte text a (length lines) _ (subst (IsLast (PutsAt lines a) (length lines) 255) same last)
    ]
