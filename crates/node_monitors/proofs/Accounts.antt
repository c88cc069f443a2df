-- The account of the rows that matter is that of all rows.
use Rattle.std.proofs.Common.{◌≡◌, ℕ, ◌+◌, ◌-◌, ◌<◌, ◌≤◌, Bool, true, false, ◌&&◌, ◌||◌, ◌==◌, nat_le, nat_lt, cond, get_or, Option, Some, None, List, [], ◌∷◌, arith, refl, sym, ap, ◌∙◌}
use Rattle.std.specs.List.{All, count_by, filter}
use Rattle.std.specs.Option.{option_or, is_none}
use Rattle.std.proofs.lemmas.Bool.Decides.{nat_tests}
use Rattle.std.proofs.lemmas.List.Elements.{All-head, All-tail}
use Rattle.std.proofs.lemmas.List.Sums.{sum_by-cons}
use Rattle.node_core.specs.declared.row.Row.{Row}
use Rattle.node_core.specs.declared.row.Kind.{Kind}
use Rattle.node_core.specs.declared.row.Kind.TheVariants.{Instr, Enter, Serial, Sent, Heard, Stop, End}
use Rattle.node_monitors.specs.declared.spent.Spent.{Spent}
use Rattle.node_monitors.specs.Account.{lead, rows_that, at_word, at_vector, bytes_sent, charge, account, spent}
use Rattle.node_monitors.specs.Owner.{owner, owned, owns, passes, takes_over, is_sent, is_asleep, is_stopped, is_instr, is_entry, is_executing, is_entering}
use Rattle.node_monitors.specs.Matters.{matters, is_traced, IsBelow}
use Rattle.node_monitors.proofs.Counts.{bit, count-same}
use Rattle.node_monitors.proofs.Tables.{table-same}

-- a row that does not matter owns no cycle of the window
unowned : (n t s : Bool) (cycle from end c : ℕ) → ((t || (s && nat_le from cycle)) && nat_lt cycle end) ≡ false → c < end → (n && t && nat_le cycle c) ≡ false
unowned false t s cycle from end c h below = refl
unowned true false s cycle from end c h below = refl
unowned true true s cycle from end c h below = grind (arith, nat_tests)

-- a row that a node's account over a window does not ask for
pub record Idle (node : ℕ) (window : ℕ × ℕ) (r : Row) : Type 0 where
  pub unowned : (c : ℕ) → c < window.1 → (owns node r && nat_le r.cycle c) ≡ false
  pub uncounted : ((r.node == node) && is_traced r.kind) ≡ false
  pub unsent : ((r.node == node) && (is_sent r.kind && (nat_le window.0 r.cycle && nat_lt r.cycle window.1))) ≡ false

-- what a list of rows is kept of: all that is left out is idle
abbrev pub Keeps : ℕ → ℕ × ℕ → (Row → Bool) → Row → Type 0
Keeps node window p r = p r ≡ false → Idle node window r

module _ (node : ℕ) (window : ℕ × ℕ) (p : Row → Bool) where
  owner_case : (b : Bool) (r : Row) (kept rows : List Row) (c : ℕ) → (b ≡ false → Idle node window r) → c < window.1 → owner node kept c ≡ owner node rows c
      → owner node (cond b (r ∷ kept) kept) c ≡ owner node (r ∷ rows) c
  unfolding owner
  owner_case true r kept rows c idle below same = ap (λ (o : Option Row). option_or o (cond (owns node r && nat_le r.cycle c) (Some r) None)) same
  owner_case false r kept rows c idle below same =
      same ∙ sym (or_none (owner node rows c)) ∙ ap (λ (b : Bool). option_or (owner node rows c) (cond b (Some r) None)) (sym ((idle refl).unowned c below))
    where
      or_none : (o : Option Row) → option_or o None ≡ o
      or_none None = refl
      or_none (Some x) = refl

  owner-kept : (rows : List Row) (c : ℕ) → All (Keeps node window p) rows → c < window.1 → owner node (filter p rows) c ≡ owner node rows c
  owner-kept [] c all below = refl
  owner-kept (r ∷ rows) c all below =
      owner_case (p r) r (filter p rows) rows c (All-head (Keeps node window p) r rows all) below (owner-kept rows c (All-tail (Keeps node window p) r rows all) below)

within : (window : ℕ × ℕ) (c : ℕ) → c < window.0 + (window.1 - window.0) → window.0 ≤ c → c < window.1
within window c high low = omega arith

lead-kept : (node : ℕ) (window : ℕ × ℕ) (p : Row → Bool) (rows : List Row) → All (Keeps node window p) rows → lead node window (filter p rows) ≡ lead node window rows
unfolding lead
lead-kept node window p rows all =
    count-same (λ c. is_none (owner node (filter p rows) c)) (λ c. is_none (owner node rows c)) window.0 (window.1 - window.0)
    (λ c low high. ap is_none (owner-kept node window p rows c all (within window c high low)))

owned-kept : (test : ℕ → Row → Bool) (node : ℕ) (window : ℕ × ℕ) (p : Row → Bool) (rows : List Row) → All (Keeps node window p) rows
    → owned test node window (filter p rows) ≡ owned test node window rows
unfolding owned
owned-kept test node window p rows all =
    count-same (λ c. passes (test c) (owner node (filter p rows) c)) (λ c. passes (test c) (owner node rows c)) window.0 (window.1 - window.0)
    (λ c low high. ap (passes (test c)) (owner-kept node window p rows c all (within window c high low)))

-- a count does not change where what is left out is not counted
count_case : (b : Bool) (q : Row → Bool) (r : Row) (kept rows : List Row) → (b ≡ false → q r ≡ false) → count_by q kept ≡ count_by q rows
    → count_by q (cond b (r ∷ kept) kept) ≡ count_by q (r ∷ rows)
count_case true q r kept rows none same = omega (arith, sum_by-cons (λ x. bit (q x)) r kept, sum_by-cons (λ x. bit (q x)) r rows, same)
count_case false q r kept rows none same =
    let zero : bit (q r) ≡ 0 = ap bit (none refl) in
    omega (arith, sum_by-cons (λ x. bit (q x)) r rows, same, zero)

count-kept : (p q : Row → Bool) (rows : List Row) → All (λ r. p r ≡ false → q r ≡ false) rows → count_by q (filter p rows) ≡ count_by q rows
count-kept p q [] all = refl
count-kept p q (r ∷ rows) all =
    count_case (p r) q r (filter p rows) rows (All-head (λ (x : Row). p x ≡ false → q x ≡ false) r rows all)
    (count-kept p q rows (All-tail (λ (x : Row). p x ≡ false → q x ≡ false) r rows all))

pub not_counted : (n : Bool) (test : Kind → Bool) (k : Kind) → (test k ≡ true → is_traced k ≡ true) → (n && is_traced k) ≡ false → (n && test k) ≡ false
not_counted false test k traced h = refl
not_counted true test k traced h = case_of (test k) refl
  where
    case_of : (b : Bool) → test k ≡ b → test k ≡ false
    case_of false e = e
    case_of true e = let is = traced e in absurd (cc)

rows_that-kept : (test : Kind → Bool) (node : ℕ) (window : ℕ × ℕ) (p : Row → Bool) (rows : List Row) → ((k : Kind) → test k ≡ true → is_traced k ≡ true) → All (Keeps node window p) rows
    → rows_that test node (filter p rows) ≡ rows_that test node rows
unfolding rows_that
rows_that-kept test node window p rows traced all =
    count-kept p (λ r. (r.node == node) && test r.kind) rows
    (λ i d lt h. let r = get_or rows i d in not_counted (r.node == node) test r.kind (traced r.kind) (all i d lt h).uncounted)

pub instr_traced : (at : ℕ) (k : Kind) → is_instr at k ≡ true → is_traced k ≡ true
instr_traced at (Instr pc word next) h = refl
instr_traced at (Enter vector back) h = refl
instr_traced at (Serial byte) h = h
instr_traced at (Sent byte) h = h
instr_traced at (Heard heard) h = h
instr_traced at (Stop pc cause) h = h
instr_traced at (End state instructions) h = h

pub entry_traced : (at : ℕ) (k : Kind) → is_entry at k ≡ true → is_traced k ≡ true
entry_traced at (Instr pc word next) h = refl
entry_traced at (Enter vector back) h = refl
entry_traced at (Serial byte) h = h
entry_traced at (Sent byte) h = h
entry_traced at (Heard heard) h = h
entry_traced at (Stop pc cause) h = h
entry_traced at (End state instructions) h = h

bytes-kept : (node : ℕ) (window : ℕ × ℕ) (p : Row → Bool) (rows : List Row) → All (Keeps node window p) rows → bytes_sent node window (filter p rows) ≡ bytes_sent node window rows
unfolding bytes_sent
bytes-kept node window p rows all =
    count-kept p (λ r. (r.node == node) && (is_sent r.kind && (nat_le window.0 r.cycle && nat_lt r.cycle window.1))) rows (λ i d lt h. (all i d lt h).unsent)

module _ (node : ℕ) (window : ℕ × ℕ) (p : Row → Bool) (rows : List Row) (all : All (Keeps node window p) rows) where
  at-kept : (w : ℕ) → at_word node window (filter p rows) w ≡ at_word node window rows w
  unfolding at_word
  at-kept w = λ i. record {
    word = w;
    count = rows_that-kept (is_instr w) node window p rows (instr_traced w) all i;
    cycles = owned-kept (is_executing w) node window p rows all i;
  }

  vector-kept : (w : ℕ) → at_vector node window (filter p rows) w ≡ at_vector node window rows w
  unfolding at_vector
  vector-kept w = λ i. record {
    word = w;
    count = rows_that-kept (is_entry w) node window p rows (entry_traced w) all i;
    cycles = owned-kept (is_entering w) node window p rows all i;
  }

  spent-kept : (f g : ℕ → Spent) → ((w : ℕ) → f w ≡ g w) → spent f ≡ spent g
  spent-kept f g same = ap (filter (λ (s : Spent). nat_lt 0 s.count)) (table-same 65536 f g same)

  account-kept : account node window (filter p rows) ≡ account node window rows
  unfolding account
  account-kept =
      let at = spent-kept (at_word node window (filter p rows)) (at_word node window rows) at-kept in
      let entered = spent-kept (at_vector node window (filter p rows)) (at_vector node window rows) vector-kept in
      let asleep = owned-kept is_asleep node window p rows all in
      let bytes = bytes-kept node window p rows all in
      λ i. record {
        lead = lead-kept node window p rows all i;
        at = at i;
        entered = entered i;
        asleep = asleep i;
        stopped = owned-kept is_stopped node window p rows all i;
        charge = charge (at i) (entered i) (asleep i) (bytes i);
      }

-- ---- rows that do not matter

unsent : (n t s : Bool) (cycle from end : ℕ) → ((t || (s && nat_le from cycle)) && nat_lt cycle end) ≡ false → (n && (s && (nat_le from cycle && nat_lt cycle end))) ≡ false
unsent false t s cycle from end h = refl
unsent true t false cycle from end h = refl
unsent true true true cycle from end h = grind (arith, nat_tests)
unsent true false true cycle from end h = h

traced_takes : (k : Kind) → is_traced k ≡ true → takes_over k ≡ true
traced_takes (Instr pc word next) h = refl
traced_takes (Enter vector back) h = refl
traced_takes (Serial byte) h = h
traced_takes (Sent byte) h = h
traced_takes (Heard heard) h = h
traced_takes (Stop pc cause) h = refl
traced_takes (End state instructions) h = h

matters_below : (t s : Bool) (cycle from end : ℕ) → ((t || (s && nat_le from cycle)) && nat_lt cycle end) ≡ false → t ≡ true → cycle < end → ⊥
matters_below false s cycle from end h e below = cc
matters_below true s cycle from end h e below = let yes : nat_lt cycle end ≡ true = grind (arith, nat_tests) in cc

untraced : (n b : Bool) → (b ≡ true → ⊥) → (n && b) ≡ false
untraced false b h = refl
untraced true false h = refl
untraced true true h = absurd (h refl)

pub matters_keeps : (node : ℕ) (window : ℕ × ℕ) (r : Row) → IsBelow window.1 r → Keeps node window (matters window) r
matters_keeps node window r below h = record {
  unowned = λ c lt. unowned (r.node == node) (takes_over r.kind) (is_sent r.kind) r.cycle window.0 window.1 c h lt;
  uncounted = untraced (r.node == node) (is_traced r.kind) (λ is. matters_below (takes_over r.kind) (is_sent r.kind) r.cycle window.0 window.1 h (traced_takes r.kind is) (below is));
  unsent = unsent (r.node == node) (takes_over r.kind) (is_sent r.kind) r.cycle window.0 window.1 h;
}

pub account_that_matters : (node : ℕ) (window : ℕ × ℕ) (rows : List Row) → All (IsBelow window.1) rows → account node window (filter (matters window) rows) ≡ account node window rows
account_that_matters node window rows below = account-kept node window (matters window) rows (λ i d lt. matters_keeps node window (get_or rows i d) (below i d lt))

-- ---- rows of other nodes

pub other_keeps : (node : ℕ) (window : ℕ × ℕ) (p : Row → Bool) (r : Row) → (r.node ≡ node → p r ≡ true) → Keeps node window p r
other_keeps node window p r own h =
    let none : (r.node == node) ≡ false = not_own (r.node == node) refl in
    record {
      unowned = λ c lt. ap (λ (b : Bool). b && takes_over r.kind && nat_le r.cycle c) none;
      uncounted = ap (λ (b : Bool). b && is_traced r.kind) none;
      unsent = ap (λ (b : Bool). b && (is_sent r.kind && (nat_le window.0 r.cycle && nat_lt r.cycle window.1))) none;
    }
  where
    not_own : (b : Bool) → (r.node == node) ≡ b → (r.node == node) ≡ false
    not_own false e = e
    not_own true e =
        let same : r.node ≡ node = grind (arith, nat_tests) in
        let is = own same in
        absurd (cc)

pub account_of_own : (node : ℕ) (window : ℕ × ℕ) (p : Row → Bool) (rows : List Row) → ((r : Row) → r.node ≡ node → p r ≡ true) → account node window (filter p rows) ≡ account node window rows
account_of_own node window p rows own = account-kept node window p rows (λ i d lt. other_keeps node window p (get_or rows i d) (own (get_or rows i d)))
