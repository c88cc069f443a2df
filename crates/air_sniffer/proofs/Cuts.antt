-- What more sends change: nothing in the sure frames, and of what is held only the open part counts.
use Rattle.std.proofs.Common.{◌≡◌, ℕ, zero, suc, ◌-◌, ◌≤◌, Bool, true, false, cond, List, [], ◌∷◌, ◌++◌, length, refl, sym, ap, ◌∙◌, arith, append_assoc}
use Rattle.std.proofs.lemmas.List.{append-nil}
use Rattle.std.proofs.lemmas.List.Elements.{filter-append}
use Rattle.std.specs.Prelude.{◌==◌}
use Rattle.world_core.specs.Sends.{sends_of}
use Rattle.air_base.specs.declared.air.Send.{Send}
use Rattle.air_sniffer.specs.declared.frame.Frame.{Frame}
use Rattle.air_sniffer.specs.Head.{is_open}
use Rattle.air_sniffer.specs.Frames.{begun, passed, frames_behind, frames}
use Rattle.air_sniffer.specs.Sniffed.{sure_behind, open_behind, sure, open_part, SnifferFacts, sniffer_of, line_of, fed, IsFed, sniffed, joined}
use Rattle.air_sniffer.proofs.Heads.{passed_within, same_begun, same_passed, still_closed, open_short}
use Rattle.air_sniffer.proofs.Behind.{sure_none, open_none}

-- the skip behind a frame lies within the list
skip_within : (x : Send) (l : List Send) → passed (x ∷ l) - 1 ≤ length l
skip_within x l = let h = passed_within (x ∷ l) (omega arith) in omega arith

frames_case : (b : Bool) (x : Send) (l m : List Send) → is_open (x ∷ l) ≡ b
    → ((k : ℕ) → k ≤ length l → frames_behind k (l ++ m) ≡ sure_behind k l ++ frames (open_behind k l ++ m))
    → frames_behind 0 (x ∷ l ++ m) ≡ sure_behind 0 (x ∷ l) ++ frames (open_behind 0 (x ∷ l) ++ m)
unfolding frames_behind sure_behind open_behind
frames_case true x l m e next =
    sym (λ i. cond (e i) [] (begun (x ∷ l) ++ sure_behind (passed (x ∷ l) - 1) l) ++ frames (cond (e i) (x ∷ l) (open_behind (passed (x ∷ l) - 1) l) ++ m))
frames_case false x l m e next =
    let k : ℕ = passed (x ∷ l) - 1 in
    (λ i. same_begun (x ∷ l) m e i ++ frames_behind (same_passed (x ∷ l) m e i - 1) (l ++ m))
    ∙ ap (λ (v : List Frame). begun (x ∷ l) ++ v) (next k (skip_within x l))
    ∙ sym (append_assoc (begun (x ∷ l)) (sure_behind k l) (frames (open_behind k l ++ m)))
    ∙ sym (λ i. cond (e i) [] (begun (x ∷ l) ++ sure_behind k l) ++ frames (cond (e i) (x ∷ l) (open_behind k l) ++ m))

frames_cut : (k : ℕ) (l m : List Send) → k ≤ length l → frames_behind k (l ++ m) ≡ sure_behind k l ++ frames (open_behind k l ++ m)
unfolding frames_behind sure_behind open_behind
frames_cut zero [] m h = refl
frames_cut (suc k) [] m h = absurd (omega arith)
frames_cut (suc k) (x ∷ l) m h = frames_cut k l m (omega arith)
frames_cut zero (x ∷ l) m h = frames_case (is_open (x ∷ l)) x l m refl (λ k g. frames_cut k l m g)

sure_case : (b : Bool) (x : Send) (l m : List Send) → is_open (x ∷ l) ≡ b
    → ((k : ℕ) → k ≤ length l → sure_behind k (l ++ m) ≡ sure_behind k l ++ sure (open_behind k l ++ m))
    → sure_behind 0 (x ∷ l ++ m) ≡ sure_behind 0 (x ∷ l) ++ sure (open_behind 0 (x ∷ l) ++ m)
unfolding sure_behind open_behind
sure_case true x l m e next =
    sym (λ i. cond (e i) [] (begun (x ∷ l) ++ sure_behind (passed (x ∷ l) - 1) l) ++ sure (cond (e i) (x ∷ l) (open_behind (passed (x ∷ l) - 1) l) ++ m))
sure_case false x l m e next =
    let k : ℕ = passed (x ∷ l) - 1 in
    (λ i. cond (still_closed (x ∷ l) m e i) [] (same_begun (x ∷ l) m e i ++ sure_behind (same_passed (x ∷ l) m e i - 1) (l ++ m)))
    ∙ ap (λ (v : List Frame). begun (x ∷ l) ++ v) (next k (skip_within x l))
    ∙ sym (append_assoc (begun (x ∷ l)) (sure_behind k l) (sure (open_behind k l ++ m)))
    ∙ sym (λ i. cond (e i) [] (begun (x ∷ l) ++ sure_behind k l) ++ sure (cond (e i) (x ∷ l) (open_behind k l) ++ m))

sure_cut : (k : ℕ) (l m : List Send) → k ≤ length l → sure_behind k (l ++ m) ≡ sure_behind k l ++ sure (open_behind k l ++ m)
unfolding sure_behind open_behind
sure_cut zero [] m h = refl
sure_cut (suc k) [] m h = absurd (omega arith)
sure_cut (suc k) (x ∷ l) m h = sure_cut k l m (omega arith)
sure_cut zero (x ∷ l) m h = sure_case (is_open (x ∷ l)) x l m refl (λ k g. sure_cut k l m g)

open_case : (b : Bool) (x : Send) (l m : List Send) → is_open (x ∷ l) ≡ b
    → ((k : ℕ) → k ≤ length l → open_behind k (l ++ m) ≡ open_part (open_behind k l ++ m))
    → open_behind 0 (x ∷ l ++ m) ≡ open_part (open_behind 0 (x ∷ l) ++ m)
unfolding open_behind
open_case true x l m e next = sym (λ i. open_part (cond (e i) (x ∷ l) (open_behind (passed (x ∷ l) - 1) l) ++ m))
open_case false x l m e next =
    let k : ℕ = passed (x ∷ l) - 1 in
    (λ i. cond (still_closed (x ∷ l) m e i) (x ∷ l ++ m) (open_behind (same_passed (x ∷ l) m e i - 1) (l ++ m)))
    ∙ next k (skip_within x l)
    ∙ sym (λ i. open_part (cond (e i) (x ∷ l) (open_behind k l) ++ m))

open_cut : (k : ℕ) (l m : List Send) → k ≤ length l → open_behind k (l ++ m) ≡ open_part (open_behind k l ++ m)
unfolding open_behind
open_cut zero [] m h = refl
open_cut (suc k) [] m h = absurd (omega arith)
open_cut (suc k) (x ∷ l) m h = open_cut k l m (omega arith)
open_cut zero (x ∷ l) m h = open_case (is_open (x ∷ l)) x l m refl (λ k g. open_cut k l m g)

short_case : (b : Bool) (k : ℕ) (x : Send) (l : List Send) → is_open (x ∷ l) ≡ b → length (open_behind k l) ≤ 35 → length (cond b (x ∷ l) (open_behind k l)) ≤ 35
short_case true k x l e h = open_short (x ∷ l) e
short_case false k x l e h = h

short_behind : (k : ℕ) (l : List Send) → length (open_behind k l) ≤ 35
unfolding open_behind
short_behind zero [] = omega arith
short_behind (suc k) [] = omega arith
short_behind (suc k) (x ∷ l) = short_behind k l
short_behind zero (x ∷ l) = short_case (is_open (x ∷ l)) (passed (x ∷ l) - 1) x l refl (short_behind (passed (x ∷ l) - 1) l)

pub cut_frames : (l m : List Send) → frames (l ++ m) ≡ sure l ++ frames (open_part l ++ m)
cut_frames l m = frames_cut 0 l m (omega arith)

pub cut_sure : (l m : List Send) → sure (l ++ m) ≡ sure l ++ sure (open_part l ++ m)
cut_sure l m = sure_cut 0 l m (omega arith)

pub cut_open : (l m : List Send) → open_part (l ++ m) ≡ open_part (open_part l ++ m)
cut_open l m = open_cut 0 l m (omega arith)

pub cut_short : (l : List Send) → length (open_part l) ≤ 35
cut_short l = short_behind 0 l

pub fed_start : (node : ℕ) → IsFed (sniffer_of node []) [] []
fed_start node = record { frames = sym sure_none; held = sym open_none }

pub fed_more : (s : SnifferFacts) (all piece : List Send) (gave : List Frame) → IsFed s all gave → IsFed (fed s piece) (all ++ piece) (gave ++ sure (line_of s piece))
fed_more s all piece gave f =
    let mine = sends_of s.node all in
    let more = sends_of s.node piece in
    let split : sends_of s.node (all ++ piece) ≡ mine ++ more = filter-append (λ (x : Send). x.node == s.node) all piece in
    record {
      frames = (λ i. f.frames i ++ sure (f.held i ++ more)) ∙ sym (cut_sure mine more) ∙ ap sure (sym split);
      held = ap (λ (l : List Send). open_part (l ++ more)) f.held ∙ sym (cut_open mine more) ∙ ap open_part (sym split);
    }

pub fed_end : (s : SnifferFacts) (all : List Send) (gave : List Frame) → IsFed s all gave → gave ++ frames s.held ≡ frames (sends_of s.node all)
fed_end s all gave f =
    let mine = sends_of s.node all in
    (λ i. f.frames i ++ frames (f.held i))
    ∙ ap (λ (l : List Send). sure mine ++ frames l) (sym (append-nil (open_part mine)))
    ∙ sym (cut_frames mine [])
    ∙ ap frames (append-nil mine)

pub sniffed_whole : (s : SnifferFacts) (pieces : List (List Send)) → sniffed s pieces ≡ frames (line_of s (joined pieces))
unfolding sniffed joined
sniffed_whole s [] = ap frames (sym (append-nil s.held))
sniffed_whole s (piece ∷ rest) =
    let more = sends_of s.node piece in
    let last = sends_of s.node (joined rest) in
    let split : sends_of s.node (piece ++ joined rest) ≡ more ++ last = filter-append (λ (x : Send). x.node == s.node) piece (joined rest) in
    ap (λ (v : List Frame). sure (line_of s piece) ++ v) (sniffed_whole (fed s piece) rest)
    ∙ sym (cut_frames (s.held ++ more) last)
    ∙ ap frames (append_assoc s.held more last ∙ ap (λ (l : List Send). s.held ++ l) (sym split))
