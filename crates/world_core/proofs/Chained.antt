-- What lies on the way back along one node's sends.
use Rattle.std.proofs.Common.{◌≡◌, ℕ, zero, suc, ◌<◌, ◌≤◌, ◌+◌, Bool, true, false, cond, ◌==◌, List, [], ◌∷◌, ◌++◌, length, take, refl, sym, subst, ◌∙◌, ap, arith, append-nil}
use Rattle.std.specs.List.{filter}
use Rattle.std.proofs.lemmas.List.Elements.{filter_more, filter-append}
use Rattle.std.proofs.lemmas.Bool.Decides.{nat_tests}
use Rattle.air_base.specs.declared.air.Send.{Send}
use Rattle.air_base.specs.declared.air.Heard.{Heard}
use Rattle.world_core.specs.HeardMore.{heard_with}
use Rattle.world_core.specs.Sends.{sends_of}
use Rattle.world_core.specs.Chain.{no_send, send_at, newest}
use Rattle.world_core.specs.Over.{heard_over}

le_case : (b : Bool) (m n : ℕ) → m ≤ n → cond b (suc n) m ≤ suc n
le_case true m n h = omega arith
le_case false m n h = omega arith

pub newest_le : (l : List Send) (k n : ℕ) → newest l k n ≤ n
newest_le l k zero = omega arith
newest_le l k (suc n) = le_case ((send_at l n).node == k) (newest l k n) n (newest_le l k n)

node_case : (l : List Send) (k n i : ℕ) (b : Bool) → ((send_at l n).node == k) ≡ b → suc i ≡ cond b (suc n) (newest l k n)
    → (suc i ≡ newest l k n → (send_at l i).node ≡ k) → (send_at l i).node ≡ k
node_case l k n i true t e next =
    let q : n ≡ i = omega arith in
    let h : (send_at l n).node ≡ k = grind (arith, nat_tests) in
    subst (λ (m : ℕ). (send_at l m).node ≡ k) q h
node_case l k n i false t e next = next e

pub newest_node : (l : List Send) (k n i : ℕ) → suc i ≡ newest l k n → (send_at l i).node ≡ k
newest_node l k zero i e = absurd (omega arith)
newest_node l k (suc n) i e = node_case l k n i ((send_at l n).node == k) refl e (λ f. newest_node l k n i f)

more : (p : Send → Bool) (l : List Send) (n : ℕ) → n < length l → filter p (take (suc n) l) ≡ filter p (take n l) ++ cond (p (send_at l n)) (send_at l n ∷ []) []
more p l n h =
    let e : n + 1 ≡ suc n = omega arith in
    subst (λ (m : ℕ). filter p (take m l) ≡ filter p (take n l) ++ cond (p (send_at l n)) (send_at l n ∷ []) []) e (filter_more p l n no_send h)

last_case : (l : List Send) (k n : ℕ) (b : Bool) → ((send_at l n).node == k) ≡ b → n < length l → sends_of k (take n l) ≡ sends_of k (take (newest l k n) l)
    → sends_of k (take (suc n) l) ≡ sends_of k (take (cond b (suc n) (newest l k n)) l)
last_case l k n true t h next = refl
last_case l k n false t h next =
    more (λ x. x.node == k) l n h ∙ ap (λ (b : Bool). sends_of k (take n l) ++ cond b (send_at l n ∷ []) []) t ∙ append-nil (sends_of k (take n l)) ∙ next

-- behind the newest send of a node stands no send of it
pub take_newest : (l : List Send) (k n : ℕ) → n ≤ length l → sends_of k (take n l) ≡ sends_of k (take (newest l k n) l)
take_newest l k zero h = refl
take_newest l k (suc n) h = last_case l k n ((send_at l n).node == k) refl (omega arith) (take_newest l k n (omega arith))

-- the sends up to one of this node: those up to the one before, and it
pub one_back : (l : List Send) (k i : ℕ) → i < length l → (send_at l i).node ≡ k → sends_of k (take (suc i) l) ≡ sends_of k (take (newest l k i) l) ++ send_at l i ∷ []
one_back l k i h e =
    let t : ((send_at l i).node == k) ≡ true = grind (arith, nat_tests) in
    more (λ x. x.node == k) l i h ∙ ap (λ (b : Bool). sends_of k (take i l) ++ cond b (send_at l i ∷ []) []) t
    ∙ ap (λ (m : List Send). m ++ send_at l i ∷ []) (take_newest l k i (omega arith))

over_last : (age : Send → ℕ) (h : Heard) (xs : List Send) (x : Send) → heard_over age h (xs ++ x ∷ []) ≡ heard_over age (heard_with age h x) xs
over_last age h [] x = refl
over_last age h (y ∷ ys) x = ap (λ (g : Heard). heard_with age g y) (over_last age h ys x)

over_case : (age : Send → ℕ) (p : Send → Bool) (h new : Heard) (xs : List Send) (x : Send) (b : Bool) → p x ≡ b
    → (p x ≡ true → new ≡ heard_with age h x) → (p x ≡ false → new ≡ h) → heard_over age new xs ≡ heard_over age h (xs ++ cond b (x ∷ []) [])
over_case age p h new xs x true t on off = ap (λ (g : Heard). heard_over age g xs) (on t) ∙ sym (over_last age h xs x)
over_case age p h new xs x false t on off = ap (λ (g : Heard). heard_over age g xs) (off t) ∙ ap (heard_over age h) (sym (append-nil xs))

-- the loop's step: one send less to look at
pub over_step : (age : Send → ℕ) (p : Send → Bool) (l : List Send) (k i : ℕ) (h new : Heard) → i < length l → (send_at l i).node ≡ k
    → (p (send_at l i) ≡ true → new ≡ heard_with age h (send_at l i)) → (p (send_at l i) ≡ false → new ≡ h)
    → heard_over age new (filter p (sends_of k (take (newest l k i) l))) ≡ heard_over age h (filter p (sends_of k (take (suc i) l)))
over_step age p l k i h new lt e on off =
    let xs = sends_of k (take (newest l k i) l) in
    over_case age p h new (filter p xs) (send_at l i) (p (send_at l i)) refl on off
    ∙ ap (heard_over age h) (sym (ap (filter p) (one_back l k i lt e) ∙ filter-append p xs (send_at l i ∷ [])))

none_case : (p : Send → Bool) (xs : List Send) (x : Send) (b : Bool) → filter p xs ≡ [] → (b ≡ true → p x ≡ false) → filter p (xs ++ cond b (x ∷ []) []) ≡ []
none_case p xs x true e off =
    filter-append p xs (x ∷ []) ∙ ap (λ (m : List Send). m ++ filter p (x ∷ [])) e ∙ ap (λ (b : Bool). cond b (x ∷ []) []) (off refl)
none_case p xs x false e off = ap (filter p) (append-nil xs) ∙ e

-- none of one node's sends among the first n passes
pub none_pass : (p : Send → Bool) (l : List Send) (k n : ℕ) → n ≤ length l → ((i : ℕ) → i < n → (send_at l i).node ≡ k → p (send_at l i) ≡ false) → filter p (sends_of k (take n l)) ≡ []
none_pass p l k zero h off = refl
none_pass p l k (suc n) h off =
    ap (filter p) (more (λ x. x.node == k) l n (omega arith))
    ∙ none_case p (sends_of k (take n l)) (send_at l n) ((send_at l n).node == k) (none_pass p l k n (omega arith) (λ i lt e. off i (omega arith) e))
    (λ t. off n (omega arith) (let q : (send_at l n).node ≡ k = grind (arith, nat_tests) in q))

one_case : (p : Send → Bool) (xs : List Send) (x : Send) (b : Bool) → (b ≡ true → p x ≡ false) → filter p (xs ++ cond b (x ∷ []) []) ≡ filter p xs
one_case p xs x true off =
    filter-append p xs (x ∷ []) ∙ ap (λ (b : Bool). filter p xs ++ cond b (x ∷ []) []) (off refl) ∙ append-nil (filter p xs)
one_case p xs x false off = ap (filter p) (append-nil xs)

-- one send less, where it is another node's or does not pass
pub pass_one : (p : Send → Bool) (l : List Send) (k n : ℕ) → n < length l → ((send_at l n).node ≡ k → p (send_at l n) ≡ false)
    → filter p (sends_of k (take (suc n) l)) ≡ filter p (sends_of k (take n l))
pass_one p l k n lt off =
    ap (filter p) (more (λ x. x.node == k) l n lt)
    ∙ one_case p (sends_of k (take n l)) (send_at l n) ((send_at l n).node == k) (λ t. off (let q : (send_at l n).node ≡ k = grind (arith, nat_tests) in q))
