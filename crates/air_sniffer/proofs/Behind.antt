-- The frames, the sure frames and the open part of a list, one step on.
use Rattle.std.proofs.Common.{◌≡◌, ℕ, zero, suc, ◌+◌, ◌-◌, ◌<◌, Bool, true, false, cond, List, [], ◌∷◌, ◌++◌, length, drop, refl, ap, ◌∙◌, arith}
use Rattle.air_base.specs.declared.air.Send.{Send}
use Rattle.air_sniffer.specs.declared.frame.Frame.{Frame}
use Rattle.air_sniffer.specs.Head.{send_at, begins_frame, is_open}
use Rattle.air_sniffer.specs.Frames.{frame_of, begun, passed, frames_behind, frames}
use Rattle.air_sniffer.specs.Sniffed.{sure_behind, open_behind, sure, open_part}
use Rattle.air_sniffer.proofs.Heads.{passed_pos, begun_some, begun_none, Begins, no, yes, begins}

pub frames_drop : (k : ℕ) (l : List Send) → frames_behind k l ≡ frames (drop k l)
unfolding frames_behind
frames_drop zero [] = refl
frames_drop zero (x ∷ l) = refl
frames_drop (suc k) [] = refl
frames_drop (suc k) (x ∷ l) = frames_drop k l

pub sure_drop : (k : ℕ) (l : List Send) → sure_behind k l ≡ sure (drop k l)
unfolding sure_behind
sure_drop zero [] = refl
sure_drop zero (x ∷ l) = refl
sure_drop (suc k) [] = refl
sure_drop (suc k) (x ∷ l) = sure_drop k l

pub open_drop : (k : ℕ) (l : List Send) → open_behind k l ≡ open_part (drop k l)
unfolding open_behind
open_drop zero [] = refl
open_drop zero (x ∷ l) = refl
open_drop (suc k) [] = refl
open_drop (suc k) (x ∷ l) = open_drop k l

-- behind the first n sends, of which the first is one
rest_of : (x : Send) (l : List Send) (n : ℕ) → 0 < n → drop (n - 1) l ≡ drop n (x ∷ l)
rest_of x l zero h = absurd (omega arith)
rest_of x l (suc n) h = let e : suc n - 1 ≡ n = omega arith in ap (λ (k : ℕ). drop k l) e

pub frames_step : (l : List Send) → 0 < length l → frames l ≡ begun l ++ frames (drop (passed l) l)
unfolding frames_behind
frames_step [] h = absurd (omega arith)
frames_step (x ∷ l) h =
    ap (λ (v : List Frame). begun (x ∷ l) ++ v) (frames_drop (passed (x ∷ l) - 1) l ∙ ap frames (rest_of x l (passed (x ∷ l)) (passed_pos (x ∷ l))))

pub sure_step : (l : List Send) → 0 < length l → is_open l ≡ false → sure l ≡ begun l ++ sure (drop (passed l) l)
unfolding sure_behind
sure_step [] h e = absurd (omega arith)
sure_step (x ∷ l) h e =
    ap (λ (b : Bool). cond b [] (begun (x ∷ l) ++ sure_behind (passed (x ∷ l) - 1) l)) e
    ∙ ap (λ (v : List Frame). begun (x ∷ l) ++ v) (sure_drop (passed (x ∷ l) - 1) l ∙ ap sure (rest_of x l (passed (x ∷ l)) (passed_pos (x ∷ l))))

pub open_step : (l : List Send) → 0 < length l → is_open l ≡ false → open_part l ≡ open_part (drop (passed l) l)
unfolding open_behind
open_step [] h e = absurd (omega arith)
open_step (x ∷ l) h e =
    ap (λ (b : Bool). cond b (x ∷ l) (open_behind (passed (x ∷ l) - 1) l)) e
    ∙ open_drop (passed (x ∷ l) - 1) l ∙ ap open_part (rest_of x l (passed (x ∷ l)) (passed_pos (x ∷ l)))

pub sure_open : (l : List Send) → is_open l ≡ true → sure l ≡ []
unfolding sure_behind
sure_open [] e = refl
sure_open (x ∷ l) e = ap (λ (b : Bool). cond b [] (begun (x ∷ l) ++ sure_behind (passed (x ∷ l) - 1) l)) e

pub open_open : (l : List Send) → is_open l ≡ true → open_part l ≡ l
unfolding open_behind
open_open [] e = refl
open_open (x ∷ l) e = ap (λ (b : Bool). cond b (x ∷ l) (open_behind (passed (x ∷ l) - 1) l)) e

pub sure_none : sure [] ≡ []
unfolding sure_behind
sure_none = refl

pub open_none : open_part [] ≡ []
unfolding open_behind
open_none = refl

pub frames_none : frames [] ≡ []
unfolding frames_behind
frames_none = refl

some_frame : (l : List Send) → begins_frame l ≡ true → Begins l → (0 < length l) × (passed l ≡ 4 + (send_at l 3).byte)
some_frame l e (no f p) = cc
some_frame l e (yes f p w) = (let h = w.head in omega arith, p)

pub frames_some : (l : List Send) → begins_frame l ≡ true → frames l ≡ frame_of l ∷ frames (drop (4 + (send_at l 3).byte) l)
frames_some l e =
    let h = some_frame l e (begins l) in
    frames_step l h.0 ∙ (λ i. begun_some l e i ++ frames (drop (h.1 i) l))

one_passed : (l : List Send) → begins_frame l ≡ false → Begins l → passed l ≡ 1
one_passed l e (no f p) = p
one_passed l e (yes f p w) = cc

pub frames_other : (x : Send) (l : List Send) → begins_frame (x ∷ l) ≡ false → frames (x ∷ l) ≡ frames l
frames_other x l e =
    let p = one_passed (x ∷ l) e (begins (x ∷ l)) in
    frames_step (x ∷ l) (omega arith) ∙ (λ i. begun_none (x ∷ l) e i ++ frames (drop (p i) (x ∷ l)))
