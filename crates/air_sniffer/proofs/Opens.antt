-- An open list is one of which more sends can make a frame.
use Rattle.std.proofs.Common.{◌≡◌, ℕ, ◌<◌, ◌&&◌, Bool, true, false, List, [], ◌∷◌, ◌++◌, length, replicate, refl, sym, ap, ◌∙◌, arith, length-append}
use Rattle.air_base.specs.declared.air.Send.{Send}
use Rattle.air_sniffer.specs.Head.{no_send, head_fits, is_whole, begins_frame, is_open}
use Rattle.air_sniffer.proofs.Heads.{open_parts, same_head, is_whole_of, fourth_most, same_at, none, some, start_of}

pub open_no_frame : (l : List Send) → is_open l ≡ true → begins_frame l ≡ false
open_no_frame l e = let h = open_parts (head_fits l) (is_whole l) e in λ i. h.0 i && h.1 i

pub closed_same : (l m : List Send) → is_open l ≡ false → begins_frame (l ++ m) ≡ begins_frame l
closed_same l m e = elim (start_of l m e) [ none a b ↦ b ∙ sym a | some a b w ↦ b ∙ sym a ]

-- a byte that node 0 sends
byte : ℕ → Send
byte b = record { node = 0; cycle = 0; byte = b }

-- any 32 bytes of payload
any : List Send
any = replicate 32 no_send

long : length any ≡ 32
unfolding any
long = refl

both : (a b : Bool) → a ≡ true → b ≡ true → (a && b) ≡ true
both a b p q = λ i. p i && q i

long_more : (l : List Send) → 3 < length l → head_fits l ≡ true → begins_frame (l ++ any) ≡ true
long_more l h e =
    let len = length-append l any in
    let more = long in
    let same = ap (λ (x : Send). x.byte) (same_at l any 3 h) in
    let most = fourth_most l e h in
    both (head_fits (l ++ any)) (is_whole (l ++ any)) (same_head l any h ∙ e) (is_whole_of (l ++ any) (record { head = omega arith; bytes = omega arith }))

pub open_some : (l : List Send) → is_open l ≡ true → (m : List Send) × (begins_frame (l ++ m) ≡ true)
unfolding head_fits is_whole byte any
open_some [] e = (byte 0xAA ∷ byte 0xAA ∷ byte 0x7E ∷ byte 1 ∷ no_send ∷ [], refl)
open_some (a ∷ []) e = (byte 0xAA ∷ byte 0x7E ∷ byte 1 ∷ no_send ∷ [], e)
open_some (a ∷ b ∷ []) e = (byte 0x7E ∷ byte 1 ∷ no_send ∷ [], e)
open_some (a ∷ b ∷ c ∷ []) e = (byte 1 ∷ no_send ∷ [], e)
open_some (a ∷ b ∷ c ∷ d ∷ l) e =
    let h = open_parts (head_fits (a ∷ b ∷ c ∷ d ∷ l)) (is_whole (a ∷ b ∷ c ∷ d ∷ l)) e in
    (any, long_more (a ∷ b ∷ c ∷ d ∷ l) (omega arith) h.0)
