-- The ways back, one send more.
use Rattle.std.proofs.Common.{◌≡◌, ℕ, zero, suc, ◌<◌, ◌≤◌, ◌-◌, ◌==◌, Bool, true, false, cond, List, [], ◌∷◌, ◌++◌, length, get_or, refl, sym, subst, ◌∙◌, ap, arith}
use Rattle.std.specs.Prelude.{slice_index, slice_set}
use Rattle.std.specs.List.{All}
use Rattle.std.proofs.lemmas.Bool.Decides.{nat_tests}
use Rattle.std.proofs.lemmas.List.{get_or_append_left, get_or-append_right, get_or-set_same, get_or-set_other, length-append, length-set}
use Rattle.std.proofs.lemmas.List.Quantifiers.{all_pairs_push}
use Rattle.std.proofs.lemmas.List.Elements.{All-push}
use Rattle.std.proofs.lemmas.Bool.{false≢true}
use native.Mathlib.Decide.{ℕ_discrete}
use Rattle.air_base.specs.declared.air.Send.{Send}
use Rattle.world_core.specs.Sends.{sends_of}
use Rattle.world_core.specs.declared.ways.JumpPointer.{JumpPointer}
use Rattle.world_core.specs.Chain.{no_send, send_at, way_at, newest, Rises, AreBack, IsLog, IsAfter}

abbrev no_way : JumpPointer
no_way = record { before = 0; far = 0; depth = 0 }

-- the ways back of the first n sends
pub record Built (l : List Send) (ways : List JumpPointer) (last : List ℕ) (n : ℕ) : Type 0 where
  pub places : length ways ≡ n
  pub width : length last ≡ 64
  pub back : (i : ℕ) → i < n → (way_at ways i).before ≡ newest l (send_at l i).node i
  pub fars : AreBack ways
  pub ends : (k : ℕ) → k < 64 → slice_index last k ≡ newest l k n

pub built_none : (l : List Send) (ways : List JumpPointer) (last : List ℕ) → ways ≡ [] → length last ≡ 64 → ((k : ℕ) → k < 64 → slice_index last k ≡ 0) → Built l ways last 0
built_none l ways last b w h = record { places = ap length b; width = w; back = λ i lt. absurd (omega arith); fars = λ i lt. absurd (let e = ap length b in omega arith); ends = h }

-- the way at place i of a list with one more
way_case : (P : JumpPointer → ℕ → Type 0) (ways : List JumpPointer) (v : JumpPointer) (n i : ℕ) → Dec (i ≡ n) → length ways ≡ n → i < suc n → P v n → (i < n → P (way_at ways i) i) → P (way_at (ways ++ v ∷ []) i) i
way_case P ways v n i (yes e) len lt here there =
    subst (λ (m : ℕ). P (way_at (ways ++ v ∷ []) m) m) (sym e)
    (let z : n - n ≡ 0 = omega arith in
    subst (λ (w : JumpPointer). P w n) (sym (get_or-append_right ways (v ∷ []) n n no_way len (omega arith) ∙ ap (λ (m : ℕ). get_or (v ∷ []) m no_way) z)) here)
way_case P ways v n i (no d) len lt here there = subst (λ (w : JumpPointer). P w i) (sym (get_or_append_left ways (v ∷ []) no_way i (omega arith))) (there (omega arith))

ends_case : (l : List Send) (last : List ℕ) (n k : ℕ) → Dec ((send_at l n).node ≡ k) → length last ≡ 64 → k < 64 → slice_index last k ≡ newest l k n
    → slice_index (slice_set last (send_at l n).node (suc n)) k ≡ newest l k (suc n)
ends_case l last n k (yes e) w lt next =
    let t : ((send_at l n).node == k) ≡ true = grind (arith, nat_tests) in
    ap (λ (m : ℕ). slice_index (slice_set last m (suc n)) k) e ∙ get_or-set_same last k (suc n) 0 (omega arith) ∙ sym (ap (λ (b : Bool). cond b (suc n) (newest l k n)) t)
ends_case l last n k (no d) w lt next =
    let t : ((send_at l n).node == k) ≡ false = grind (arith, nat_tests) in
    get_or-set_other last (send_at l n).node k (suc n) 0 (λ e. d (sym e)) ∙ next ∙ sym (ap (λ (b : Bool). cond b (suc n) (newest l k n)) t)

pub built_more : (l : List Send) (ways : List JumpPointer) (last : List ℕ) (n : ℕ) (w : JumpPointer) → (send_at l n).node < 64 → w.before ≡ slice_index last (send_at l n).node → w.far ≤ n → Built l ways last n
    → Built l (ways ++ w ∷ []) (slice_set last (send_at l n).node (suc n)) (suc n)
built_more l ways last n w lt e far b =
    let k : ℕ = (send_at l n).node in
    let size : length (ways ++ w ∷ []) ≡ suc n = let h = length-append ways (w ∷ []) in let p = b.places in omega arith in record {
      places = size;
      width = length-set last k (suc n) ∙ b.width;
      back = λ i h. way_case (λ (v : JumpPointer) (m : ℕ). v.before ≡ newest l (send_at l m).node m) ways w n i (ℕ_discrete i n) b.places h (e ∙ b.ends k lt) (b.back i);
      fars = λ i h. way_case (λ (v : JumpPointer) (m : ℕ). v.far ≤ m) ways w n i (ℕ_discrete i n) b.places (omega arith) far (λ g. b.fars i (let p = b.places in omega arith));
      ends = λ m h. ends_case l last n m (ℕ_discrete k m) b.width h (b.ends m h);
    }

-- ---- a list with one send more at its end
same_at : (l : List Send) (x : Send) (i : ℕ) → i < length l → send_at (l ++ x ∷ []) i ≡ send_at l i
same_at l x i h = get_or_append_left l (x ∷ []) no_send i h

pub at_end : (l : List Send) (x : Send) → send_at (l ++ x ∷ []) (length l) ≡ x
at_end l x =
    let z : length l - length l ≡ 0 = omega arith in
    get_or-append_right l (x ∷ []) (length l) (length l) no_send refl (omega arith) ∙ ap (λ (m : ℕ). get_or (x ∷ []) m no_send) z

same_newest : (l : List Send) (x : Send) (k n : ℕ) → n ≤ length l → newest (l ++ x ∷ []) k n ≡ newest l k n
same_newest l x k zero h = refl
same_newest l x k (suc n) h =
    let e = same_at l x n (omega arith) in
    let r = same_newest l x k n (omega arith) in
    λ i. cond ((e i).node == k) (suc n) (r i)

built_grown : (l : List Send) (x : Send) (ways : List JumpPointer) (last : List ℕ) → Built l ways last (length l) → Built (l ++ x ∷ []) ways last (length l)
built_grown l x ways last b = record {
  places = b.places;
  width = b.width;
  back = λ i h. b.back i h ∙ sym (ap (λ (y : Send). newest (l ++ x ∷ []) y.node i) (same_at l x i h) ∙ same_newest l x (send_at l i).node i (omega arith));
  fars = b.fars;
  ends = λ k h. b.ends k h ∙ sym (same_newest l x k (length l) (omega arith));
}

pub built_push : (l : List Send) (x : Send) (ways : List JumpPointer) (last : List ℕ) (w : JumpPointer) → x.node < 64 → w.before ≡ slice_index last x.node → w.far ≤ length l → Built l ways last (length l)
    → Built (l ++ x ∷ []) (ways ++ w ∷ []) (slice_set last x.node (suc (length l))) (suc (length l))
built_push l x ways last w lt e far b =
    let q = at_end l x in
    subst (λ (y : Send). Built (l ++ x ∷ []) (ways ++ w ∷ []) (slice_set last y.node (suc (length l))) (suc (length l))) q
    (built_more (l ++ x ∷ []) ways last (length l) w (subst (λ (y : Send). y.node < 64) (sym q) lt) (e ∙ ap (λ (y : Send). slice_index last y.node) (sym q)) far (built_grown l x ways last b))

pub log_built : (l : List Send) (ways : List JumpPointer) (last : List ℕ) → length last ≡ 64 → IsLog l ways last → Built l ways last (length l)
log_built l ways last w g = record { places = g.chain.places; width = w; back = g.chain.back; fars = g.chain.fars; ends = g.places }

pub built_log : (l : List Send) (ways : List JumpPointer) (last : List ℕ) (n : ℕ) → n ≡ length l → Built l ways last n → Rises l → All (λ x. x.node < 64) l → IsLog l ways last
built_log l ways last n e b up nodes =
    let c : Built l ways last (length l) = subst (Built l ways last) e b in
    record { chain = record { places = c.places; back = c.back; fars = c.fars }; places = c.ends; rises = up; nodes = nodes }

pub log_push : (l : List Send) (x : Send) (ways : List JumpPointer) (last : List ℕ) (w : JumpPointer) → length last ≡ 64 → x.node < 64 → w.before ≡ slice_index last x.node → w.far ≤ length l → All (IsAfter x) l → IsLog l ways last
    → IsLog (l ++ x ∷ []) (ways ++ w ∷ []) (slice_set last x.node (suc (length l)))
log_push l x ways last w size lt e far after g =
    built_log (l ++ x ∷ []) (ways ++ w ∷ []) (slice_set last x.node (suc (length l))) (suc (length l))
    (let h = length-append l (x ∷ []) in omega arith)
    (built_push l x ways last w lt e far (log_built l ways last size g))
    (all_pairs_push (λ (y z : Send). y.node ≡ z.node → y.cycle < z.cycle) l x g.rises (λ k d h. after k d h))
    (All-push (λ (y : Send). y.node < 64) l x g.nodes lt)

after_case : (x y : Send) (m : List Send) (b : Bool) → (y.node == x.node) ≡ b → All (λ z. z.cycle < x.cycle) (cond b (y ∷ m) m) → IsAfter x y × All (λ z. z.cycle < x.cycle) m
after_case x y m true t a = ((λ e. a 0 y (omega arith)), (λ i d lt. a (suc i) d (omega arith)))
after_case x y m false t a = ((λ e. absurd (let z : y.node ≡ x.node = e in let q : (y.node == x.node) ≡ true = grind (arith, nat_tests) in false≢true (sym t ∙ q))), a)

after_at : (x y : Send) (l : List Send) → IsAfter x y → All (IsAfter x) l → All (IsAfter x) (y ∷ l)
after_at x y l h a zero d lt = h
after_at x y l h a (suc i) d lt = a i d (omega arith)

-- above the earlier sends of its own node
pub after_own : (x : Send) (l : List Send) → All (λ z. z.cycle < x.cycle) (sends_of x.node l) → All (IsAfter x) l
after_own x [] a = λ i d lt. absurd (omega arith)
after_own x (y ∷ ys) a =
    let h = after_case x y (sends_of x.node ys) (y.node == x.node) refl a in
    after_at x y ys h.0 (after_own x ys h.1)
