-- That one row more fits, and what the sums of all rows are.
use Rattle.std.proofs.Common.{◌≡◌, ℕ, suc, ◌+◌, ◌-◌, ◌*◌, ◌^◌, ◌<◌, ◌≤◌, Bool, true, false, ◌&&◌, cond, nat_eq, nat_le, nat_lt, List, [], ◌∷◌, length, drop, take, max, length-drop, get_or, arith, refl, sym, subst, ap, ◌∙◌}
use Rattle.std.specs.List.{All, count_by, filter, sum_by}
use Rattle.std.proofs.Math.ListN.{drop_of_length-le}
use Rattle.std.proofs.lemmas.Bool.Decides.{nat_tests}
use Rattle.std.proofs.lemmas.List.{drop_more, take_more}
use Rattle.std.proofs.lemmas.List.Elements.{All-from_get_or, All-head, All-push, All-tail}
use Rattle.std.proofs.lemmas.List.Sums.{count_by-le-length, get_or-le-sum_by, sum_by-cons}
use Rattle.node_core.specs.declared.row.Row.{Row}
use Rattle.node_core.specs.declared.row.Kind.{Kind}
use Rattle.node_core.specs.declared.row.Kind.TheVariants.{Instr, Enter, Serial, Sent, Heard, Stop, End}
use Rattle.node_monitors.specs.declared.spent.Spent.{Spent}
use Rattle.node_monitors.specs.Account.{Account, rows_that, at_word, at_vector, bytes_sent, account, spent, whole}
use Rattle.node_monitors.specs.Owner.{is_sent, is_asleep, is_stopped, is_executing, is_entering, is_instr, is_entry, owner, owned}
use Rattle.node_monitors.specs.Spent.{table, unused, is_used, cycles_in}
use Rattle.node_monitors.specs.Sums.{Sums, took, took_kind, no_rows}
use Rattle.node_monitors.specs.Taken.{unowned, IsTaken, IsQuiet, IsWithin, HasRoom}
use Rattle.node_monitors.proofs.Counts.{bit, count-none}
use Rattle.node_monitors.proofs.Owners.{lead-is}
use Rattle.node_monitors.proofs.Steps.{took-taken}
use Rattle.node_monitors.proofs.Tables.{table-at, table-length, table-same, cycles-used, used-whole}
use Rattle.node_monitors.specs.declared.spent.TheConstants.{AWAKE_CHARGE, SENT_CHARGE}

-- no more rows of a kind than rows
pub rows_most : (test : Kind → Bool) (node : ℕ) (rows : List Row) → rows_that test node rows ≤ length rows
unfolding rows_that
rows_most test node rows = count_by-le-length (λ r. nat_eq r.node node && test r.kind) rows

-- no more bytes than rows
pub sent-most : (node : ℕ) (window : ℕ × ℕ) (rows : List Row) → bytes_sent node window rows ≤ length rows
unfolding bytes_sent
sent-most node window rows = count_by-le-length (λ r. nat_eq r.node node && (is_sent r.kind && (nat_le window.0 r.cycle && nat_lt r.cycle window.1))) rows

counts_fit : (words : ℕ) (said : ℕ → Spent) (slots : List Spent) (n : ℕ) → slots ≡ table words said → ((w : ℕ) → (said w).count ≤ n) → n + 1 < 2 ^ 64 →
    All (λ (x : Spent). x.count + 1 < 2 ^ 64) slots
counts_fit words said slots n e most fits =
    All-from_get_or (λ (x : Spent). x.count + 1 < 2 ^ 64) slots (unused 0)
    (λ i in'. let lt : i < words = omega (arith, ap length e, table-length words said) in
    let slot : get_or slots i (unused 0) ≡ said i = ap (λ slots. get_or slots i (unused 0)) e ∙ table-at words said i (unused 0) lt in
    omega (arith, ap (λ (x : Spent). x.count) slot, most i))

cycles_fit : (slots : List Spent) (n : ℕ) → cycles_in slots ≤ n → All (λ (x : Spent). x.cycles ≤ n) slots
unfolding cycles_in
cycles_fit slots n most =
    All-from_get_or (λ (x : Spent). x.cycles ≤ n) slots (unused 0)
    (λ i in'. omega (arith, get_or-le-sum_by (λ (x : Spent). x.cycles) slots i (unused 0) in'))

at_count : (node : ℕ) (window : ℕ × ℕ) (rows : List Row) (w : ℕ) → (at_word node window rows w).count ≤ length rows
unfolding at_word
at_count node window rows w = rows_most _ node rows

vector_count : (node : ℕ) (window : ℕ × ℕ) (rows : List Row) (w : ℕ) → (at_vector node window rows w).count ≤ length rows
unfolding at_vector
vector_count node window rows w = rows_most _ node rows

pub has_room : (rows : List Row) (s : Sums) → s.window.1 < 2 ^ 64 → length rows + 1 < 2 ^ 64 → IsTaken rows s → HasRoom s
has_room rows s width fits h = record {
  cycles = omega (arith, h.whole);
  sent = omega (arith, h.sent, sent-most s.node s.window rows);
  at = ap length h.at ∙ table-length s.words (at_word s.node s.window rows);
  entered = ap length h.entered ∙ table-length s.words (at_vector s.node s.window rows);
  count_at = counts_fit s.words (at_word s.node s.window rows) s.at (length rows) h.at (at_count s.node s.window rows) fits;
  count_entered = counts_fit s.words (at_vector s.node s.window rows) s.entered (length rows) h.entered (vector_count s.node s.window rows) fits;
  cycles_at = cycles_fit s.at s.awake (omega (arith, h.awake));
  cycles_entered = cycles_fit s.entered s.awake (omega (arith, h.awake));
}

-- a row changes neither the node nor the window
pub took-node : (r : Row) (s : Sums) → (took r s).node ≡ s.node
took-node r s = both (nat_eq r.node s.node) r.kind
  where
    both : (b : Bool) (k : Kind) → (cond b (took_kind r.cycle k s) s).node ≡ s.node
    both false k = refl
    both true (Instr pc word next) = refl
    both true (Enter vector back) = refl
    both true (Stop pc cause) = refl
    both true (Sent byte) = refl
    both true (Serial byte) = refl
    both true (Heard heard) = refl
    both true (End state instructions) = refl

pub took-window : (r : Row) (s : Sums) → (took r s).window ≡ s.window
took-window r s = both (nat_eq r.node s.node) r.kind
  where
    both : (b : Bool) (k : Kind) → (cond b (took_kind r.cycle k s) s).window ≡ s.window
    both false k = refl
    both true (Instr pc word next) = refl
    both true (Enter vector back) = refl
    both true (Stop pc cause) = refl
    both true (Sent byte) = refl
    both true (Serial byte) = refl
    both true (Heard heard) = refl
    both true (End state instructions) = refl

pub took-words : (r : Row) (s : Sums) → (took r s).words ≡ s.words
took-words r s = both (nat_eq r.node s.node) r.kind
  where
    both : (b : Bool) (k : Kind) → (cond b (took_kind r.cycle k s) s).words ≡ s.words
    both false k = refl
    both true (Instr pc word next) = refl
    both true (Enter vector back) = refl
    both true (Stop pc cause) = refl
    both true (Sent byte) = refl
    both true (Serial byte) = refl
    both true (Heard heard) = refl
    both true (End state instructions) = refl

table_none : (words : ℕ) (said : ℕ → Spent) → ((w : ℕ) → said w ≡ unused w) → table words unused ≡ table words said
table_none words said h = table-same words unused said (λ w. sym (h w))

quiet_none : (words : ℕ) → All IsQuiet (table words unused)
quiet_none words =
    All-from_get_or IsQuiet (table words unused) (unused 0)
    (λ i in' e. ap (λ (x : Spent). x.cycles) (table-at words unused i (unused 0) (omega (arith, table-length words unused))))

cycles_none : (words : ℕ) → cycles_in (table words unused) ≡ 0
unfolding cycles_in
cycles_none words = zero_all (table words unused)
    (All-from_get_or (λ (x : Spent). x.cycles ≡ 0) (table words unused) (unused 0)
    (λ i in'. ap (λ (x : Spent). x.cycles) (table-at words unused i (unused 0) (omega (arith, table-length words unused)))))
  where
    zero_all : (slots : List Spent) → All (λ (x : Spent). x.cycles ≡ 0) slots → sum_by (λ (x : Spent). x.cycles) slots ≡ 0
    zero_all [] h = refl
    zero_all (s ∷ slots) h =
        let rest : sum_by (λ (x : Spent). x.cycles) slots ≡ 0 = zero_all slots (λ k d in'. h (suc k) d (omega arith)) in
        omega (arith, sum_by-cons (λ (x : Spent). x.cycles) s slots, h 0 s (omega arith))

owned_none : (test : ℕ → Row → Bool) (node : ℕ) (window : ℕ × ℕ) → owned test node window [] ≡ 0
unfolding owned owner
owned_none test node window = count-none (λ c. false) window.0 (window.1 - window.0) (λ c l h. refl)

none_at : (node : ℕ) (window : ℕ × ℕ) (w : ℕ) → at_word node window [] w ≡ unused w
unfolding at_word rows_that
none_at node window w = rw (owned_none (is_executing w) node window) refl

none_vector : (node : ℕ) (window : ℕ × ℕ) (w : ℕ) → at_vector node window [] w ≡ unused w
unfolding at_vector rows_that
none_vector node window w = rw (owned_none (is_entering w) node window) refl

pub none-taken : (node : ℕ) (window : ℕ × ℕ) (words : ℕ) → IsTaken [] (no_rows node window words)
unfolding unowned bytes_sent
none-taken node window words = record {
  free = refl;
  at = table_none words (at_word node window []) (none_at node window);
  entered = table_none words (at_vector node window []) (none_vector node window);
  asleep = sym (owned_none is_asleep node window);
  stopped = sym (owned_none is_stopped node window);
  sent = refl;
  awake = omega (arith, cycles_none words);
  whole = omega arith;
  quiet_at = quiet_none words;
  quiet_entered = quiet_none words;
}

-- a row more, at its place in the list
pub step-taken : (rows : List Row) (place : ℕ) (d : Row) (s t : Sums) → 0 < place → place ≤ length rows → t ≡ took (get_or rows (place - 1) d) s →
    IsWithin s.words (get_or rows (place - 1) d).kind → IsTaken (drop place rows) s → IsTaken (drop (place - 1) rows) t
step-taken rows place d s t some within e word h =
    let back : place - 1 + 1 ≡ place = omega arith in
    let more : drop (place - 1) rows ≡ get_or rows (place - 1) d ∷ drop place rows =
    drop_more rows (place - 1) d (omega arith) ∙ ap (λ k. get_or rows (place - 1) d ∷ drop k rows) back in
    rw (more, e) (took-taken (get_or rows (place - 1) d) (drop place rows) s word h)

pub room-at : (rows : List Row) (place : ℕ) (s : Sums) → 0 < place → place ≤ length rows → length rows < 2 ^ 64 → s.window.1 < 2 ^ 64 → IsTaken (drop place rows) s → HasRoom s
room-at rows place s some within fits narrow h = has_room (drop place rows) s narrow (omega (arith, length-drop place rows)) h

pub begin-taken : (rows : List Row) (node : ℕ) (window : ℕ × ℕ) (words : ℕ) (s : Sums) → s ≡ no_rows node window words → IsTaken (drop (length rows) rows) s
begin-taken rows node window words s e = rw (drop_all, e) (none-taken node window words)
  where
    drop_all : drop (length rows) rows ≡ []
    drop_all = drop_of_length-le rows (omega arith)

-- ---- words behind those that the rows speak of

none_counted : (q : Row → Bool) (rows : List Row) → All (λ r. q r ≡ false) rows → count_by q rows ≡ 0
none_counted q [] all = refl
none_counted q (r ∷ rows) all =
    let rest = none_counted q rows (All-tail (λ (x : Row). q x ≡ false) r rows all) in
    let here : bit (q r) ≡ 0 = ap bit (All-head (λ (x : Row). q x ≡ false) r rows all) in
    omega (arith, sum_by-cons (λ (x : Row). bit (q x)) r rows, rest, here)

and_false : (b : Bool) → (b && false) ≡ false
and_false true = refl
and_false false = refl

other_word : (n : Bool) (pc w words : ℕ) → pc < words → words ≤ w → (n && nat_eq pc w) ≡ false
other_word false pc w words h k = refl
other_word true pc w words h k = grind (arith, nat_tests)

no_instr : (n : Bool) (k : Kind) (w words : ℕ) → IsWithin words k → words ≤ w → (n && is_instr w k) ≡ false
no_instr n (Instr pc word next) w words h le = other_word n pc w words h le
no_instr n (Enter vector back) w words h le = and_false n
no_instr n (Serial byte) w words h le = and_false n
no_instr n (Sent byte) w words h le = and_false n
no_instr n (Heard heard) w words h le = and_false n
no_instr n (Stop pc cause) w words h le = and_false n
no_instr n (End state instructions) w words h le = and_false n

no_entry : (n : Bool) (k : Kind) (w words : ℕ) → IsWithin words k → words ≤ w → (n && is_entry w k) ≡ false
no_entry n (Instr pc word next) w words h le = and_false n
no_entry n (Enter vector back) w words h le = other_word n vector w words h le
no_entry n (Serial byte) w words h le = and_false n
no_entry n (Sent byte) w words h le = and_false n
no_entry n (Heard heard) w words h le = and_false n
no_entry n (Stop pc cause) w words h le = and_false n
no_entry n (End state instructions) w words h le = and_false n

module _ (node : ℕ) (window : ℕ × ℕ) (rows : List Row) (words : ℕ) (most : words ≤ 65536) (within : All (λ r. IsWithin words r.kind) rows) where
  no_at : (w : ℕ) → words ≤ w → (at_word node window rows w).count ≡ 0
  unfolding at_word rows_that
  no_at w le = none_counted (λ r. nat_eq r.node node && is_instr w r.kind) rows (λ i d lt. no_instr (nat_eq (get_or rows i d).node node) (get_or rows i d).kind w words (within i d lt) le)

  no_vector : (w : ℕ) → words ≤ w → (at_vector node window rows w).count ≡ 0
  unfolding at_vector rows_that
  no_vector w le = none_counted (λ r. nat_eq r.node node && is_entry w r.kind) rows (λ i d lt. no_entry (nat_eq (get_or rows i d).node node) (get_or rows i d).kind w words (within i d lt) le)

  all_at : filter is_used (table words (at_word node window rows)) ≡ spent (at_word node window rows)
  all_at = used-whole words 65536 (at_word node window rows) most no_at

  all_entered : filter is_used (table words (at_vector node window rows)) ≡ spent (at_vector node window rows)
  all_entered = used-whole words 65536 (at_vector node window rows) most no_vector

-- more words hold all that fewer do
within_more : (words more : ℕ) (k : Kind) → words ≤ more → IsWithin words k → IsWithin more k
within_more words more (Instr pc word next) le h = omega arith
within_more words more (Enter vector back) le h = omega arith
within_more words more (Serial byte) le h = tt
within_more words more (Sent byte) le h = tt
within_more words more (Heard heard) le h = tt
within_more words more (Stop pc cause) le h = tt
within_more words more (End state instructions) le h = tt

pub words_more : (rows : List Row) (i : ℕ) (d : Row) (own words more : ℕ) → i < length rows → more ≡ max own words → IsWithin own (get_or rows i d).kind
    → All (λ r. IsWithin words r.kind) (take i rows) → All (λ r. IsWithin more r.kind) (take (i + 1) rows)
words_more rows i d own words more lt e here before =
    let all : All (λ r. IsWithin more r.kind) (take i rows) = λ k c h. within_more words more (get_or (take i rows) k c).kind (omega arith) (before k c h) in
    let last : IsWithin more (get_or rows i d).kind = within_more own more (get_or rows i d).kind (omega arith) here in
    subst (All (λ r. IsWithin more r.kind)) (sym (take_more rows i d lt)) (All-push (λ r. IsWithin more r.kind) (take i rows) (get_or rows i d) all last)

-- the account of all rows

-- all words of the rows are in the tables
pub record Covers (rows : List Row) (s : Sums) : Type 0 where
  pub most : s.words ≤ 65536
  pub within : All (λ r. IsWithin s.words r.kind) rows

pub taken-charge : (rows : List Row) (s : Sums) → Covers rows s → IsTaken rows s → AWAKE_CHARGE * s.awake + s.asleep + SENT_CHARGE * s.sent ≡ (account s.node s.window rows).charge
unfolding account
taken-charge rows s v h =
    let at : cycles_in (spent (at_word s.node s.window rows)) ≡ cycles_in s.at =
    ap cycles_in (sym (all_at s.node s.window rows s.words v.most v.within)) ∙ ap (λ slots. cycles_in (filter is_used slots)) (sym h.at) ∙ cycles-used s.at h.quiet_at in
    let entered : cycles_in (spent (at_vector s.node s.window rows)) ≡ cycles_in s.entered =
    ap cycles_in (sym (all_entered s.node s.window rows s.words v.most v.within)) ∙ ap (λ slots. cycles_in (filter is_used slots)) (sym h.entered) ∙ cycles-used s.entered h.quiet_entered in
    omega (arith, at, entered, h.awake, h.asleep, h.sent)

pub account_same : (a b : ℕ) (c d e f : List Spent) (g h i j k l : ℕ) → a ≡ b → c ≡ d → e ≡ f → g ≡ h → i ≡ j → k ≡ l →
    ◌≡◌ {A = Account} (record { lead = a; at = c; entered = e; asleep = g; stopped = i; charge = k }) (record { lead = b; at = d; entered = f; asleep = h; stopped = j; charge = l })
account_same a b c d e f g h i j k l p q r s t u = cc

-- what the readers of the sums give
pub record AreRead (s : Sums) (a : Account) : Type 0 where
  pub lead : a.lead ≡ s.free - s.window.0
  pub at : a.at ≡ filter is_used s.at
  pub entered : a.entered ≡ filter is_used s.entered
  pub asleep : a.asleep ≡ s.asleep
  pub stopped : a.stopped ≡ s.stopped
  pub charge : a.charge ≡ AWAKE_CHARGE * s.awake + s.asleep + SENT_CHARGE * s.sent

own_account : (rows : List Row) (s : Sums) (a : Account) → Covers rows s → IsTaken rows s → AreRead s a → a ≡ account s.node s.window rows
unfolding account
own_account rows s a v h r =
    account_same a.lead _ a.at _ a.entered _ a.asleep _ a.stopped _ a.charge _
    (r.lead ∙ ap (λ free. free - s.window.0) h.free ∙ sym (lead-is s.node s.window rows)) (r.at ∙ ap (filter is_used) h.at ∙ all_at s.node s.window rows s.words v.most v.within)
    (r.entered ∙ ap (filter is_used) h.entered ∙ all_entered s.node s.window rows s.words v.most v.within)
    (r.asleep ∙ h.asleep) (r.stopped ∙ h.stopped) (r.charge ∙ taken-charge rows s v h)

pub taken-account : (node : ℕ) (window : ℕ × ℕ) (rows : List Row) (s : Sums) (a : Account) → s.node ≡ node → s.window ≡ window → Covers rows s → IsTaken rows s → AreRead s a →
    a ≡ account node window rows
taken-account node window rows s a e f v h r = own_account rows s a v h r ∙ ap (λ n. account n s.window rows) e ∙ ap (λ w. account node w rows) f

pub taken-whole : (window : ℕ × ℕ) (rows : List Row) (s : Sums) (a : Account) → s.window ≡ window → IsTaken rows s → AreRead s a → whole a ≡ window.1 - window.0
taken-whole window rows s a f h r =
    let at : cycles_in a.at ≡ cycles_in s.at = ap cycles_in r.at ∙ cycles-used s.at h.quiet_at in
    let entered : cycles_in a.entered ≡ cycles_in s.entered = ap cycles_in r.entered ∙ cycles-used s.entered h.quiet_entered in
    let own : whole a ≡ s.window.1 - s.window.0 = omega (arith, at, entered, h.awake, h.whole, r.lead, r.asleep, r.stopped) in
    own ∙ ap (λ (w : ℕ × ℕ). w.1 - w.0) f

pub charge-fits : (node : ℕ) (window : ℕ × ℕ) (rows : List Row) (s : Sums) → s.node ≡ node → s.window ≡ window → IsTaken rows s →
    AWAKE_CHARGE * (window.1 - window.0) + SENT_CHARGE * bytes_sent node window rows < 2 ^ 64 → AWAKE_CHARGE * s.awake + s.asleep + SENT_CHARGE * s.sent < 2 ^ 64
charge-fits node window rows s e f h fits =
    let bytes : s.sent ≡ bytes_sent node window rows = h.sent ∙ ap (λ n. bytes_sent n s.window rows) e ∙ ap (λ w. bytes_sent node w rows) f in
    let width : s.window.1 - s.window.0 ≡ window.1 - window.0 = ap (λ (w : ℕ × ℕ). w.1 - w.0) f in
    omega (arith, bytes, width, h.whole)
