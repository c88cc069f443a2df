-- A walk along a list of sends, by frames or single sends.
use Rattle.std.proofs.Common.{◌≡◌, ℕ, ◌+◌, ◌-◌, ◌<◌, ◌≤◌, true, false, List, [], ◌++◌, length, take, drop, sym, ap, ◌∙◌, arith, append_assoc}
use Rattle.std.proofs.lemmas.List.{take_rest, length-drop, drop-drop, append-nil}
use Rattle.std.proofs.Math.Seq.{drop-length}
use Rattle.air_base.specs.declared.air.Send.{Send}
use Rattle.air_sniffer.specs.declared.frame.Frame.{Frame}
use Rattle.air_sniffer.specs.Head.{is_open}
use Rattle.air_sniffer.specs.Frames.{begun, passed, frames}
use Rattle.air_sniffer.specs.Sniffed.{sure, open_part}
use Rattle.air_sniffer.proofs.Heads.{passed_pos, passed_within}
use Rattle.air_sniffer.proofs.Cuts.{cut_short}
use Rattle.air_sniffer.proofs.Behind.{frames_step, sure_step, open_step, sure_open, open_open, sure_none, open_none, frames_none}

-- how far a step goes
pub record Goes (s : List Send) (at n : ℕ) : Type 0 where
  pub on : 0 < n
  pub within : at + n ≤ length s
  pub by : n ≡ passed (drop at s)
  pub long : 0 < length (drop at s)

pub goes : (s : List Send) (at n : ℕ) → at < length s → n ≡ passed (take (length s - at) (drop at s)) → Goes s at n
goes s at n lt e =
    let r = take_rest s at in
    let by = e ∙ ap passed r in
    let len = length-drop at s in
    let long : 0 < length (drop at s) = omega arith in
    let pos = passed_pos (drop at s) in
    let most = passed_within (drop at s) long in
    record { on = omega arith; within = omega arith; by = by; long = long }

-- behind the step
behind : (s : List Send) (at n : ℕ) → Goes s at n → drop (at + n) s ≡ drop (passed (drop at s)) (drop at s)
behind s at n g = sym (drop-drop n at s) ∙ ap (λ (k : ℕ). drop k (drop at s)) g.by

pub frames_on : (s : List Send) (at n : ℕ) (old new : List Frame) → Goes s at n → new ≡ old ++ begun (take (length s - at) (drop at s)) → new ++ frames (drop (at + n) s) ≡ old ++ frames (drop at s)
frames_on s at n old new g e =
    (λ i. (e ∙ ap (λ (l : List Send). old ++ begun l) (take_rest s at)) i ++ frames (behind s at n g i))
    ∙ append_assoc old (begun (drop at s)) (frames (drop (passed (drop at s)) (drop at s)))
    ∙ ap (λ (v : List Frame). old ++ v) (sym (frames_step (drop at s) g.long))

-- where the list is not open there
pub closed : (s : List Send) (at : ℕ) → is_open (take (length s - at) (drop at s)) ≡ false → is_open (drop at s) ≡ false
closed s at e = ap is_open (sym (take_rest s at)) ∙ e

pub sure_on : (s : List Send) (at n : ℕ) (old new : List Frame) → Goes s at n → is_open (drop at s) ≡ false → new ≡ old ++ begun (take (length s - at) (drop at s)) → new ++ sure (drop (at + n) s) ≡ old ++ sure (drop at s)
sure_on s at n old new g c e =
    (λ i. (e ∙ ap (λ (l : List Send). old ++ begun l) (take_rest s at)) i ++ sure (behind s at n g i))
    ∙ append_assoc old (begun (drop at s)) (sure (drop (passed (drop at s)) (drop at s)))
    ∙ ap (λ (v : List Frame). old ++ v) (sym (sure_step (drop at s) g.long c))

pub open_on : (s : List Send) (at n : ℕ) → Goes s at n → is_open (drop at s) ≡ false → open_part (drop (at + n) s) ≡ open_part (drop at s)
open_on s at n g c = ap open_part (behind s at n g) ∙ sym (open_step (drop at s) g.long c)

-- where the walk ends
at_end : (s : List Send) (at : ℕ) → at ≤ length s → length s ≤ at → drop at s ≡ []
at_end s at a b = let e : at ≡ length s = omega arith in ap (λ (k : ℕ). drop k s) e ∙ drop-length s

pub frames_end : (s : List Send) (at : ℕ) (all : List Frame) → at ≤ length s → length s ≤ at → all ++ frames (drop at s) ≡ frames s → all ≡ frames s
frames_end s at all a b e = sym (ap (λ (l : List Send). all ++ frames l) (at_end s at a b) ∙ ap (λ (v : List Frame). all ++ v) frames_none ∙ append-nil all) ∙ e

pub sure_end : (s : List Send) (at : ℕ) (all : List Frame) → at ≤ length s → length s ≤ at → all ++ sure (drop at s) ≡ sure s → all ≡ sure s
sure_end s at all a b e = sym (ap (λ (l : List Send). all ++ sure l) (at_end s at a b) ∙ ap (λ (v : List Frame). all ++ v) sure_none ∙ append-nil all) ∙ e

pub open_end : (s : List Send) (at : ℕ) → at ≤ length s → length s ≤ at → open_part (drop at s) ≡ open_part s → drop at s ≡ open_part s
open_end s at a b e = at_end s at a b ∙ sym open_none ∙ ap open_part (sym (at_end s at a b)) ∙ e

opened : (s : List Send) (at : ℕ) → is_open (take (length s - at) (drop at s)) ≡ true → is_open (drop at s) ≡ true
opened s at o = ap is_open (sym (take_rest s at)) ∙ o

pub sure_stop : (s : List Send) (at : ℕ) (all : List Frame) → is_open (take (length s - at) (drop at s)) ≡ true → all ++ sure (drop at s) ≡ sure s → all ≡ sure s
sure_stop s at all o e = sym (ap (λ (v : List Frame). all ++ v) (sure_open (drop at s) (opened s at o)) ∙ append-nil all) ∙ e

pub open_stop : (s : List Send) (at : ℕ) → is_open (take (length s - at) (drop at s)) ≡ true → open_part (drop at s) ≡ open_part s → drop at s ≡ open_part s
open_stop s at o e = sym (open_open (drop at s) (opened s at o)) ∙ e

-- what a sniffer holds behind the walk
pub held_short : (s t : List Send) (at : ℕ) → t ≡ s → drop at s ≡ open_part s → length (take (length t - at) (drop at t)) ≤ 35
held_short s t at e o =
    let r = ap length (take_rest t at ∙ ap (drop at) e ∙ o) in
    let h = cut_short s in
    omega arith
