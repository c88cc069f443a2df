-- Inputs and scripts.
use Rattle.std.proofs.Common.{◌≡◌, ◌≢◌, ℕ, zero, suc, ◌+◌, ◌/◌, ◌<◌, ◌≤◌, ◌==◌, ◌||◌, cond, Bool, true, false, List, [], ◌∷◌, length, map, sum, get_or, drop, Result, Ok, Err, codes, refl, sym, ap, subst, ◌∙◌, arith, nat_lt, nat_le}
use Rattle.air_base.specs.Bounds.{LAST_CYCLE}
use Rattle.std.specs.List.{count_by}
use Rattle.std.proofs.lemmas.List.{map-append, drop_more}
use Rattle.std.proofs.lemmas.Bool.Decides.{nat_tests}
use Rattle.serial_ports.specs.Script.{ScriptBytes}
use Rattle.std.proofs.lemmas.List.Sums.{sum_by-cons, sum_by_push}
use Rattle.hex.specs.Hex.{decode_of}
use Rattle.hex.specs.declared.error.FromHexError.{FromHexError}
use Rattle.hex.proofs.HexLemmas.{decode_of-ok}
use Rattle.toml.specs.Data.{Data, table, get_member}
use Rattle.scenario_file.specs.Document.{on_table, at_key, members_of, text_at, number_at}
use Rattle.scenario_file.specs.Rules.{has_ranges, is_node, fits, is_hex}
use Rattle.scenario_file.specs.Faults.{any_twice, amount_of, node_of, is_few}
use Rattle.scenario_file.specs.Scenario.{bytes_or, bytes_in, script_of, script_for, scripts_below, script_size}
use Rattle.scenario_file.specs.declared.keys.Keys.TheVariants.{OfInput}
use Rattle.scenario_file.specs.declared.keys.Version.{Version}
use Rattle.scenario_file.proofs.Numbers.{and4, number_bounds}
use native.Mathlib.Decide.{ℕ_discrete}

le_from : (n most : ℕ) → nat_le n most ≡ true → n ≤ most
le_from n most h = grind (arith, nat_tests)

-- ---- a node with more than one input
or_right : (a : Bool) → (a || true) ≡ true
or_right true = refl
or_right false = refl

twice_case : (n i : ℕ) (ns : List ℕ) → Dec (i ≡ n) → nat_lt 1 (count_by (λ m. m == i) ns) ≡ true → (i ≢ n → any_twice n ns ≡ true) → (any_twice n ns || nat_lt 1 (count_by (λ m. m == n) ns)) ≡ true
twice_case n i ns (yes e) t below = ap (λ (k : ℕ). any_twice n ns || nat_lt 1 (count_by (λ m. m == k) ns)) (sym e) ∙ ap (λ (b : Bool). any_twice n ns || b) t ∙ or_right (any_twice n ns)
twice_case n i ns (no d) t below = ap (λ (b : Bool). b || nat_lt 1 (count_by (λ m. m == n) ns)) (below d)

pub any_twice_at : (n i : ℕ) (ns : List ℕ) → i < n → nat_lt 1 (count_by (λ m. m == i) ns) ≡ true → any_twice n ns ≡ true
unfolding any_twice
any_twice_at zero i ns h t = absurd (omega arith)
any_twice_at (suc n) i ns h t = twice_case n i ns (ℕ_discrete i n) t (λ d. any_twice_at n i ns (omega arith) t)

-- ---- how many bytes a text of digits writes
size_case : (t : List ℕ) (r : Result (List ℕ) FromHexError) → decode_of t ≡ r → length (bytes_or r) ≤ length t / 2
size_case t (Ok bytes) e = let h = (decode_of-ok t bytes e).2 in omega (arith, h)
size_case t (Err f) e = omega arith

pub bytes_size : (t : List ℕ) → length (bytes_in t) ≤ length t / 2
bytes_size t = size_case t (decode_of t) refl

-- ---- one of the terms of a sum
pub sum_at : {X Y : Type 0} (f : Y → ℕ) (g : X → Y) (xs : List X) (i : ℕ) (d : X) → i < length xs → f (g (get_or xs i d)) ≤ sum (map f (map g xs))
sum_at f g [] i d h = absurd (omega arith)
sum_at f g (x ∷ xs) zero d h = let e = sum_by-cons (λ (n : ℕ). n) (f (g x)) (map f (map g xs)) in omega (arith, e)
sum_at f g (x ∷ xs) (suc i) d h = let e = sum_by-cons (λ (n : ℕ). n) (f (g x)) (map f (map g xs)) in let ih = sum_at f g xs i d (omega arith) in omega (arith, e, ih)

-- ---- the bytes of all scripts are no more than those of all inputs
abbrev total : ℕ → List Data → ℕ
total n ds = sum (map script_size (scripts_below n ds))

total_more : (n : ℕ) (ds : List Data) → total (suc n) ds ≡ total n ds + script_size (script_for n ds)
unfolding scripts_below
total_more n ds = ap sum (map-append script_size (scripts_below n ds) (script_for n ds ∷ [])) ∙ sum_by_push (λ (n : ℕ). n) (map script_size (scripts_below n ds)) (script_size (script_for n ds))

total_none : (n : ℕ) → total n [] ≡ 0
unfolding scripts_below script_for
total_none zero = refl
total_none (suc n) = let e : script_size (script_for n []) ≡ 0 = refl in let a = total_more n [] in let b = total_none n in omega (arith, a, b, e)

abbrev share : Bool → ℕ → ℕ
share b n = cond b n 0

share_most : (b : Bool) (n : ℕ) → share b n ≤ n
share_most true n = omega arith
share_most false n = omega arith

share_self : (n size rest front back : ℕ) (b : Bool) → (b ≡ true) → front ≤ share (nat_lt n n) size + back → front + size ≤ share (nat_lt n (suc n)) size + (back + rest)
share_self n size rest front back b e h =
    let a : nat_lt n n ≡ false = grind (arith, nat_tests) in
    let z : nat_lt n (suc n) ≡ true = grind (arith, nat_tests) in
    let u : share (nat_lt n n) size ≡ 0 = ap (λ (t : Bool). share t size) a in
    let v : share (nat_lt n (suc n)) size ≡ size = ap (λ (t : Bool). share t size) z in
    omega (arith, h, u, v)

share_other : (n k size rest front back : ℕ) → k ≢ n → front ≤ share (nat_lt k n) size + back → front + rest ≤ share (nat_lt k (suc n)) size + (back + rest)
share_other n k size rest front back d h =
    let same : nat_lt k (suc n) ≡ nat_lt k n = grind (arith, nat_tests) in
    let u : share (nat_lt k (suc n)) size ≡ share (nat_lt k n) size = ap (λ (t : Bool). share t size) same in
    omega (arith, h, u)

step_case : (n k size rest front back : ℕ) → Dec (k ≡ n) → front ≤ share (nat_lt k n) size + back → front + cond (k == n) size rest ≤ share (nat_lt k (suc n)) size + (back + rest)
step_case n k size rest front back (yes e) h =
    let t : (k == n) ≡ true = grind (arith, nat_tests) in
    let c : cond (k == n) size rest ≡ size = ap (λ (b : Bool). cond b size rest) t in
    let g : front ≤ share (nat_lt n n) size + back = subst (λ (m : ℕ). front ≤ share (nat_lt m n) size + back) e h in
    let r = share_self n size rest front back true refl g in
    let q : share (nat_lt k (suc n)) size ≡ share (nat_lt n (suc n)) size = ap (λ (m : ℕ). share (nat_lt m (suc n)) size) e in
    omega (arith, r, c, q)
step_case n k size rest front back (no d) h =
    let t : (k == n) ≡ false = grind (arith, nat_tests) in
    let c : cond (k == n) size rest ≡ rest = ap (λ (b : Bool). cond b size rest) t in
    let r = share_other n k size rest front back d h in
    omega (arith, r, c)

size_cond : (b : Bool) (x y : ScriptBytes) → script_size (cond b x y) ≡ cond b (script_size x) (script_size y)
size_cond true x y = refl
size_cond false x y = refl

for_cons : (n : ℕ) (d : Data) (ds : List Data) → script_size (script_for n (d ∷ ds)) ≡ cond (node_of d == n) (script_size (script_of d)) (script_size (script_for n ds))
unfolding script_for
for_cons n d ds = size_cond (node_of d == n) (script_of d) (script_for n ds)

total_cons : (n : ℕ) (d : Data) (ds : List Data) → total n (d ∷ ds) ≤ share (nat_lt (node_of d) n) (script_size (script_of d)) + total n ds
unfolding scripts_below
total_cons zero d ds = omega arith
total_cons (suc n) d ds =
    let a = total_more n (d ∷ ds) in
    let b = total_more n ds in
    let e = for_cons n d ds in
    let r = step_case n (node_of d) (script_size (script_of d)) (script_size (script_for n ds)) (total n (d ∷ ds)) (total n ds) (ℕ_discrete (node_of d) n) (total_cons n d ds) in
    omega (arith, a, b, e, r)

pub total_most : (n : ℕ) (ds : List Data) → total n ds ≤ sum (map (amount_of OfInput) ds)
total_most n [] = let e = total_none n in omega (arith, e)
total_most n (d ∷ ds) =
    let a = total_cons n d ds in
    let s = share_most (nat_lt (node_of d) n) (script_size (script_of d)) in
    let b = bytes_size (text_at (codes "hex") (members_of d)) in
    let ih = total_most n ds in
    let e = sum_by-cons (λ (n : ℕ). n) (amount_of OfInput d) (map (amount_of OfInput) ds) in
    omega (arith, a, s, b, ih, e)

-- ---- the script of a node, one input after another
pub for_more : {X : Type 0} (g : X → Data) (xs : List X) (i : ℕ) (d : X) (k : ℕ) → i < length xs → (node_of (g (get_or xs i d)) == k) ≡ false → script_for k (map g (drop i xs)) ≡ script_for k (map g (drop (i + 1) xs))
unfolding script_for
for_more g xs i d k h e = ap (λ t. script_for k (map g t)) (drop_more xs i d h) ∙ ap (λ (b : Bool). cond b (script_of (g (get_or xs i d))) (script_for k (map g (drop (i + 1) xs)))) e

pub for_here : {X : Type 0} (g : X → Data) (xs : List X) (i : ℕ) (d : X) (k : ℕ) → i < length xs → (node_of (g (get_or xs i d)) == k) ≡ true → script_for k (map g (drop i xs)) ≡ script_of (g (get_or xs i d))
unfolding script_for
for_here g xs i d k h e = ap (λ t. script_for k (map g t)) (drop_more xs i d h) ∙ ap (λ (b : Bool). cond b (script_of (g (get_or xs i d))) (script_for k (map g (drop (i + 1) xs)))) e

-- ---- what a passed test says of an input
pub input_every : (version : Version) (count : ℕ) (d : Data) → on_table (has_ranges version count OfInput) d ≡ true → (1 ≤ number_at (codes "every") 7680 (members_of d)) × (number_at (codes "every") 7680 (members_of d) ≤ 65535)
input_every version count (table ms) h =
    let p = and4 (at_key (is_node count) (codes "node") ms) (at_key (fits 0 LAST_CYCLE) (codes "at") ms) (at_key (fits 1 65535) (codes "every") ms) (at_key is_hex (codes "hex") ms) h in
    number_bounds 1 65535 7680 (get_member (codes "every") ms) (omega arith) (omega arith) p.2
input_every version count _ h = absurd cc

pub input_at : (version : Version) (count : ℕ) (d : Data) → on_table (has_ranges version count OfInput) d ≡ true → number_at (codes "at") 0 (members_of d) ≤ LAST_CYCLE
input_at version count (table ms) h =
    let p = and4 (at_key (is_node count) (codes "node") ms) (at_key (fits 0 LAST_CYCLE) (codes "at") ms) (at_key (fits 1 65535) (codes "every") ms) (at_key is_hex (codes "hex") ms) h in
    (number_bounds 0 LAST_CYCLE 0 (get_member (codes "at") ms) (omega arith) (omega arith) p.1).1
input_at version count _ h = absurd cc

pub few_sum : (ds : List Data) → is_few OfInput ds ≡ true → sum (map (amount_of OfInput) ds) ≤ 65536
unfolding is_few
few_sum ds h = le_from (sum (map (amount_of OfInput) ds)) 65536 h
