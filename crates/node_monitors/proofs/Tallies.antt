-- One row more is tallied, and what the sums of all rows are.
use Rattle.std.proofs.Common.{◌≡◌, ℕ, ◌+◌, ◌-◌, ◌^◌, ◌<◌, ◌≤◌, Bool, true, false, ◌&&◌, ◌||◌, cond, nat_le, nat_lt, max, Option, Some, None, List, [], ◌∷◌, ◌++◌, append-nil, append_assoc, length, length-append, get_or, arith, refl, sym, subst, ap, ◌∙◌}
use Rattle.std.proofs.Math.Dec.{leb, ltb, eqb}
use Rattle.std.proofs.Math.ListN.{get_or-append}
use Rattle.std.proofs.Math.Seq.{get_or-append_seam}
use Rattle.std.specs.List.{All, count_by, filter, range_with_len}
use Rattle.std.specs.List.Sorted.{IsNonDecreasingBy}
use Rattle.std.specs.Option.{option_or, is_none}
use Rattle.std.proofs.lemmas.Bool.Decides.{nat_tests}
use Rattle.std.proofs.lemmas.List.{ext_get_or, get_or_default, get_or_past}
use Rattle.std.proofs.lemmas.List.Elements.{All-nil}
use Rattle.std.proofs.lemmas.List.Sums.{sum_by-append, sum_by-cons}
use Rattle.node_core.specs.declared.row.Row.{Row}
use Rattle.node_core.specs.declared.row.Kind.{Kind}
use Rattle.node_core.specs.declared.row.Kind.TheVariants.{Instr, Enter, Serial, Sent, Heard, Stop, End}
use Rattle.node_monitors.specs.declared.spent.Spent.{Spent}
use Rattle.node_monitors.specs.Account.{account, at_word, at_vector, bytes_sent, charge, lead, rows_that, spent}
use Rattle.node_monitors.specs.Matters.{matters, IsBelow}
use Rattle.node_monitors.specs.Owner.{owner, owned, owns, passes, takes_over, is_asleep, is_stopped, is_instr, is_executing, is_entry, is_entering, is_sent}
use Rattle.node_monitors.specs.Spent.{cycles_in, is_used, table, unused}
use Rattle.node_monitors.specs.Taken.{IsQuiet}
use Rattle.node_monitors.specs.Tallied.{AreSums, IsTallied, with_last}
use Rattle.node_monitors.specs.Tally.{TallyOf, capped, charge_of, ended, followed, shared, shared_by, shared_to, tallied, tallied_all, tallied_kind, told, untallied}
use Rattle.node_monitors.proofs.Accounts.{Idle, entry_traced, instr_traced, matters_keeps, not_counted, other_keeps}
use Rattle.node_monitors.proofs.Counts.{bit, count-same}
use Rattle.node_monitors.proofs.Rooms.{account_same, sent-most}
use Rattle.node_monitors.proofs.Shares.{at-is, lead-most, owned-most, shared-sums, spent-ext, vector-is}
use Rattle.node_monitors.proofs.Tables.{cycles-used, table-at, table-length, used-whole}

-- ---- a row behind all others

push_case : (b : Bool) (o y : Option Row) (r : Row) → option_or (cond b (Some r) o) y ≡ cond b (Some r) (option_or o y)
push_case true o y r = refl
push_case false o y r = refl

owner-push : (node : ℕ) (rows : List Row) (r : Row) (c : ℕ) → owner node (rows ++ r ∷ []) c ≡ cond (owns node r && nat_le r.cycle c) (Some r) (owner node rows c)
unfolding owner
owner-push node [] r c = refl
owner-push node (x ∷ rows) r c =
    let y : Option Row = cond (owns node x && nat_le x.cycle c) (Some x) None in
    ap (λ (o : Option Row). option_or o (cond (owns node x && nat_le x.cycle c) (Some x) None)) (owner-push node rows r c)
    ∙ push_case (owns node r && nat_le r.cycle c) (owner node rows c) y r

rows-push : (test : Kind → Bool) (node : ℕ) (rows : List Row) (r : Row) → rows_that test node (rows ++ r ∷ []) ≡ rows_that test node rows + bit (eqb r.node node && test r.kind)
unfolding rows_that
rows-push test node rows r =
    let one = sum_by-cons (λ (x : Row). bit (eqb x.node node && test x.kind)) r [] in
    omega (arith, sum_by-append (λ (x : Row). bit (eqb x.node node && test x.kind)) rows (r ∷ []), one)

abbrev sends_in : ℕ → ℕ × ℕ → Row → Bool
sends_in node window r = eqb r.node node && (is_sent r.kind && (leb window.0 r.cycle && ltb r.cycle window.1))

sent-push : (node : ℕ) (window : ℕ × ℕ) (rows : List Row) (r : Row) → bytes_sent node window (rows ++ r ∷ []) ≡ bytes_sent node window rows + bit (sends_in node window r)
unfolding bytes_sent
sent-push node window rows r =
    let one = sum_by-cons (λ (x : Row). bit (sends_in node window x)) r [] in
    omega (arith, sum_by-append (λ (x : Row). bit (sends_in node window x)) rows (r ∷ []), one)

same_owned : (test : ℕ → Row → Bool) (node first done : ℕ) (rows more : List Row) → ((c : ℕ) → first ≤ c → c < done → owner node more c ≡ owner node rows c)
    → owned test node (first, done) more ≡ owned test node (first, done) rows
unfolding owned
same_owned test node first done rows more same =
    count-same (λ c. passes (test c) (owner node more c)) (λ c. passes (test c) (owner node rows c)) first (done - first)
    (λ c low high. ap (passes (test c)) (same c low (omega arith)))

same_lead : (node first done : ℕ) (rows more : List Row) → ((c : ℕ) → first ≤ c → c < done → owner node more c ≡ owner node rows c)
    → lead node (first, done) more ≡ lead node (first, done) rows
unfolding lead
same_lead node first done rows more same =
    count-same (λ c. is_none (owner node more c)) (λ c. is_none (owner node rows c)) first (done - first) (λ c low high. ap is_none (same c low (omega arith)))

-- the sums with one row more, which has none of the cycles that are shared out
module _ (rows : List Row) (r : Row) (last now : Option Row) (t : TallyOf) (sent : ℕ) (s : AreSums rows last t)
    (same : (c : ℕ) → t.window.0 ≤ c → c < t.done → owner t.node (rows ++ r ∷ []) c ≡ owner t.node rows c)
    (instrs : (w : ℕ) → bit (passes (λ x. is_instr w x.kind) now) ≡ bit (passes (λ x. is_instr w x.kind) last) + bit (eqb r.node t.node && is_instr w r.kind))
    (entries : (w : ℕ) → bit (passes (λ x. is_entry w x.kind) now) ≡ bit (passes (λ x. is_entry w x.kind) last) + bit (eqb r.node t.node && is_entry w r.kind))
    (bytes : sent ≡ t.sent + bit (sends_in t.node t.window r)) where
  at_push : (w : ℕ) → with_last (is_instr w) now (get_or t.at w (unused w)) ≡ at_word t.node (t.window.0, t.done) (rows ++ r ∷ []) w
  at_push w =
      let was : with_last (is_instr w) last (get_or t.at w (unused w)) ≡ record { word = w; count = rows_that (is_instr w) t.node rows; cycles = owned (is_executing w) t.node (t.window.0, t.done) rows } =
      s.at w ∙ at-is t.node (t.window.0, t.done) rows w in
      let count = ap (λ (x : Spent). x.count) was in
      let push = rows-push (is_instr w) t.node rows r in
      let bits = instrs w in
      spent-ext (with_last (is_instr w) now (get_or t.at w (unused w)))
      (record { word = w; count = rows_that (is_instr w) t.node (rows ++ r ∷ []); cycles = owned (is_executing w) t.node (t.window.0, t.done) (rows ++ r ∷ []) })
      (ap (λ (x : Spent). x.word) was) (omega arith)
      (ap (λ (x : Spent). x.cycles) was ∙ sym (same_owned (is_executing w) t.node t.window.0 t.done rows (rows ++ r ∷ []) same))
      ∙ sym (at-is t.node (t.window.0, t.done) (rows ++ r ∷ []) w)

  entered_push : (w : ℕ) → with_last (is_entry w) now (get_or t.entered w (unused w)) ≡ at_vector t.node (t.window.0, t.done) (rows ++ r ∷ []) w
  entered_push w =
      let was : with_last (is_entry w) last (get_or t.entered w (unused w)) ≡ record { word = w; count = rows_that (is_entry w) t.node rows; cycles = owned (is_entering w) t.node (t.window.0, t.done) rows } =
      s.entered w ∙ vector-is t.node (t.window.0, t.done) rows w in
      let count = ap (λ (x : Spent). x.count) was in
      let push = rows-push (is_entry w) t.node rows r in
      let bits = entries w in
      spent-ext (with_last (is_entry w) now (get_or t.entered w (unused w)))
      (record { word = w; count = rows_that (is_entry w) t.node (rows ++ r ∷ []); cycles = owned (is_entering w) t.node (t.window.0, t.done) (rows ++ r ∷ []) })
      (ap (λ (x : Spent). x.word) was) (omega arith)
      (ap (λ (x : Spent). x.cycles) was ∙ sym (same_owned (is_entering w) t.node t.window.0 t.done rows (rows ++ r ∷ []) same))
      ∙ sym (vector-is t.node (t.window.0, t.done) (rows ++ r ∷ []) w)

  sums_push : (own : Option Row) → AreSums (rows ++ r ∷ []) now (record t { last = own; sent = sent })
  sums_push own = record {
    lead = s.lead ∙ sym (same_lead t.node t.window.0 t.done rows (rows ++ r ∷ []) same);
    at = at_push;
    entered = entered_push;
    asleep = s.asleep ∙ sym (same_owned is_asleep t.node t.window.0 t.done rows (rows ++ r ∷ []) same);
    stopped = s.stopped ∙ sym (same_owned is_stopped t.node t.window.0 t.done rows (rows ++ r ∷ []) same);
    sent = let was = s.sent in let push = sent-push t.node t.window rows r in omega arith;
    whole = s.whole;
    quiet_at = s.quiet_at;
    quiet_entered = s.quiet_entered;
  }

-- a row is one of a list and itself
early_left : (rows : List Row) (r : Row) (c : ℕ) → All (λ x. x.cycle ≤ c) (rows ++ r ∷ []) → All (λ x. x.cycle ≤ c) rows
early_left rows r c all i d lt =
    subst (λ (x : Row). x.cycle ≤ c) (get_or-append rows (r ∷ []) d i lt) (all i d (omega (arith, length-append rows (r ∷ []))))

early_last : (rows : List Row) (r : Row) (c : ℕ) → All (λ x. x.cycle ≤ c) (rows ++ r ∷ []) → r.cycle ≤ c
early_last rows r c all = subst (λ (x : Row). x.cycle ≤ c) (get_or-append_seam rows r [] r) (all (length rows) r (omega (arith, length-append rows (r ∷ []))))

not_now : (b x : Bool) (r : Row) (o : Option Row) → b ≡ false → cond b (Some r) o ≡ o
not_now b x r o e = ap (λ (c : Bool). cond c (Some r) o) e

-- a row that is passed over
idle-tallied : (rows : List Row) (r : Row) (t : TallyOf) → IsTallied rows t → Idle t.node t.window r → IsTallied (rows ++ r ∷ []) t
idle-tallied rows r t h idle =
    let same : (c : ℕ) → c < t.window.1 → owner t.node (rows ++ r ∷ []) c ≡ owner t.node rows c =
    λ c lt. owner-push t.node rows r c ∙ not_now (owns t.node r && nat_le r.cycle c) true r (owner t.node rows c) (idle.unowned c lt) in
    record {
      sums = sums_push rows r t.last t.last t t.sent h.sums (λ c low high. let e = h.high in same c (omega arith))
          (λ w. let none : bit (eqb r.node t.node && is_instr w r.kind) ≡ 0 = ap bit (not_counted (eqb r.node t.node) (is_instr w) r.kind (instr_traced w r.kind) idle.uncounted) in omega arith)
          (λ w. let none : bit (eqb r.node t.node && is_entry w r.kind) ≡ 0 = ap bit (not_counted (eqb r.node t.node) (is_entry w) r.kind (entry_traced w r.kind) idle.uncounted) in omega arith)
          (let none : bit (sends_in t.node t.window r) ≡ 0 = ap bit idle.unsent in omega arith) t.last;
      last = λ c low lt. same c lt ∙ h.last c low lt;
      takes = h.takes;
      early = λ c all. h.early c (early_left rows r c all);
      low = h.low;
      high = h.high;
    }

-- what sharing out leaves as it was
pub record Left (to : ℕ) (t u : TallyOf) : Type 0 where
  pub node : u.node ≡ t.node
  pub window : u.window ≡ t.window
  pub done : u.done ≡ to
  pub sent : u.sent ≡ t.sent

left_kind : (to cycle : ℕ) (k : Kind) (t : TallyOf) → Left to t (shared_to to cycle k t)
left_kind to cycle (Instr pc word next) t = record { node = refl; window = refl; done = refl; sent = refl }
left_kind to cycle (Enter vector back) t = record { node = refl; window = refl; done = refl; sent = refl }
left_kind to cycle (Stop pc cause) t = record { node = refl; window = refl; done = refl; sent = refl }
left_kind to cycle (Serial byte) t = record { node = refl; window = refl; done = refl; sent = refl }
left_kind to cycle (Sent byte) t = record { node = refl; window = refl; done = refl; sent = refl }
left_kind to cycle (Heard heard) t = record { node = refl; window = refl; done = refl; sent = refl }
left_kind to cycle (End state instructions) t = record { node = refl; window = refl; done = refl; sent = refl }

left_by : (o : Option Row) (to : ℕ) (t : TallyOf) → Left to t (shared_by o to t)
left_by None to t = record { node = refl; window = refl; done = refl; sent = refl }
left_by (Some r) to t = left_kind to r.cycle r.kind t

pub left : (to : ℕ) (t : TallyOf) → Left to t (shared to t)
left to t = left_by t.last to t

-- a row that takes over
module _ (rows : List Row) (r : Row) (t : TallyOf) (few : length rows < 2 ^ 64) (narrow : t.window.1 < 2 ^ 64) (h : IsTallied rows t) (order : All (λ x. x.cycle ≤ r.cycle) rows)
    (mine : eqb r.node t.node ≡ true) (takes : takes_over r.kind ≡ true) (silent : is_sent r.kind ≡ false) (below : r.cycle < t.window.1) where
  abbrev to : ℕ
  to = max r.cycle t.window.0

  abbrev u : TallyOf
  u = shared to t

  mine_now : eqb r.node u.node ≡ true
  mine_now = ap (eqb r.node) (left to t).node ∙ mine

  own : owns t.node r ≡ true
  own = rw (mine, takes) refl

  own_now : owns u.node r ≡ true
  own_now = rw (mine_now, takes) refl

  start : u.window.0 ≡ t.window.0
  start = ap (λ (w : ℕ × ℕ). w.0) (left to t).window

  end : u.window.1 ≡ t.window.1
  end = ap (λ (w : ℕ × ℕ). w.1) (left to t).window

  shared_sums : AreSums rows None u
  shared_sums = let e = h.early r.cycle order in shared-sums rows t to few narrow h (omega arith) (omega arith)

  before_it : (c : ℕ) → u.window.0 ≤ c → c < u.done → owner u.node (rows ++ r ∷ []) c ≡ owner u.node rows c
  before_it c low high =
      let d = (left to t).done in
      let s = start in
      let late : nat_le r.cycle c ≡ false = later (leb r.cycle c) refl (omega arith) in
      owner-push u.node rows r c ∙ not_now (owns u.node r && nat_le r.cycle c) true r (owner u.node rows c) (rw (own_now, late) refl)
    where
      later : (b : Bool) → leb r.cycle c ≡ b → c < r.cycle → leb r.cycle c ≡ false
      later false e lt = e
      later true e lt = let le : r.cycle ≤ c = grind (arith, nat_tests) in absurd (omega arith)

  from_it : (c : ℕ) → u.done ≤ c → owner u.node (rows ++ r ∷ []) c ≡ Some r
  from_it c low =
      let d = (left to t).done in
      let le : r.cycle ≤ c = omega arith in
      let early : nat_le r.cycle c ≡ true = grind (arith, nat_tests) in
      owner-push u.node rows r c ∙ (rw (own_now, early) refl)

  followed-tallied : IsTallied (rows ++ r ∷ []) (followed r t)
  followed-tallied = record {
    sums = sums_push rows r None (Some r) u u.sent shared_sums before_it
        (λ w. let own : bit (eqb r.node u.node && is_instr w r.kind) ≡ bit (is_instr w r.kind) = ap (λ (b : Bool). bit (b && is_instr w r.kind)) mine_now in omega arith)
        (λ w. let own : bit (eqb r.node u.node && is_entry w r.kind) ≡ bit (is_entry w r.kind) = ap (λ (b : Bool). bit (b && is_entry w r.kind)) mine_now in omega arith)
        (let none : bit (sends_in u.node u.window r) ≡ 0 = rw (mine_now, silent) refl in omega arith) (Some r);
    last = λ c low lt. from_it c low;
    takes = rw takes refl;
    early = λ c all. let e = early_last rows r c all in let d = (left to t).done in let s = start in omega arith;
    low = let d = (left to t).done in let s = start in omega arith;
    high = let d = (left to t).done in let s = start in let e = end in omega arith;
  }

-- a byte that was sent
sent-tallied : (rows : List Row) (r : Row) (byte : ℕ) (t : TallyOf) → length rows < 2 ^ 64 - 1 → IsTallied rows t → eqb r.node t.node ≡ true → r.kind ≡ Sent byte → sends_in t.node t.window r ≡ true
    → IsTallied (rows ++ r ∷ []) (record t { sent = capped t.sent 1 })
sent-tallied rows r byte t few h mine k counts =
    let same : (c : ℕ) → owner t.node (rows ++ r ∷ []) c ≡ owner t.node rows c =
    λ c. owner-push t.node rows r c ∙ not_now (owns t.node r && nat_le r.cycle c) true r (owner t.node rows c) (rw (mine, k) refl) in
    record {
      sums = sums_push rows r t.last t.last t (capped t.sent 1) h.sums (λ c low high. same c)
          (λ w. let none : bit (eqb r.node t.node && is_instr w r.kind) ≡ 0 = rw (mine, k) refl in omega arith)
          (λ w. let none : bit (eqb r.node t.node && is_entry w r.kind) ≡ 0 = rw (mine, k) refl in omega arith)
          (let one : bit (sends_in t.node t.window r) ≡ 1 = ap bit counts in let was = h.sums.sent in let most = sent-most t.node t.window rows in omega arith) t.last;
      last = λ c low lt. same c ∙ h.last c low lt;
      takes = h.takes;
      early = λ c all. h.early c (early_left rows r c all);
      low = h.low;
      high = h.high;
    }

-- what a row that matters says of its cycle
takes_below : (r : Row) (window : ℕ × ℕ) → takes_over r.kind ≡ true → matters window r ≡ true → r.cycle < window.1
takes_below r window takes m = below (takes_over r.kind) (is_sent r.kind && nat_le window.0 r.cycle) takes m
  where
    below : (a b : Bool) → a ≡ true → ((a || b) && nat_lt r.cycle window.1) ≡ true → r.cycle < window.1
    below true b e q = grind (arith, nat_tests)
    below false b e q = absurd (cc)

sent_counts : (r : Row) (byte node : ℕ) (window : ℕ × ℕ) → eqb r.node node ≡ true → r.kind ≡ Sent byte → matters window r ≡ true → sends_in node window r ≡ true
sent_counts r byte node window mine k m =
    let counts : ((takes_over (Sent byte) || (is_sent (Sent byte) && nat_le window.0 r.cycle)) && nat_lt r.cycle window.1) ≡ true =
    subst (λ (x : Kind). ((takes_over x || (is_sent x && nat_le window.0 r.cycle)) && nat_lt r.cycle window.1) ≡ true) k m in
    rw (mine, k) counts

module _ (rows : List Row) (r : Row) (t : TallyOf) (few : length rows < 2 ^ 64 - 1) (narrow : t.window.1 < 2 ^ 64) (h : IsTallied rows t) (order : All (λ x. x.cycle ≤ r.cycle) rows) (below : IsBelow t.window.1 r) where
  kind_tallied : (k : Kind) → r.kind ≡ k → eqb r.node t.node ≡ true → matters t.window r ≡ true → IsTallied (rows ++ r ∷ []) (tallied_kind r k t)
  kind_tallied (Instr pc word next) k mine m = followed-tallied rows r t (omega arith) narrow h order mine (rw k refl) (rw k refl) (takes_below r t.window (rw k refl) m)
  kind_tallied (Enter vector back) k mine m = followed-tallied rows r t (omega arith) narrow h order mine (rw k refl) (rw k refl) (takes_below r t.window (rw k refl) m)
  kind_tallied (Stop pc cause) k mine m = followed-tallied rows r t (omega arith) narrow h order mine (rw k refl) (rw k refl) (takes_below r t.window (rw k refl) m)
  kind_tallied (Sent byte) k mine m = sent-tallied rows r byte t few h mine k (sent_counts r byte t.node t.window mine k m)
  kind_tallied (Serial byte) k mine m = absurd (let no : matters t.window r ≡ false = rw k refl in cc)
  kind_tallied (Heard heard) k mine m = absurd (let no : matters t.window r ≡ false = rw k refl in cc)
  kind_tallied (End state instructions) k mine m = absurd (let no : matters t.window r ≡ false = rw k refl in cc)

  is_own : (r.node ≡ t.node) → eqb r.node t.node ≡ true
  is_own e = grind (arith, nat_tests)

  both_tallied : (a b : Bool) → eqb r.node t.node ≡ a → matters t.window r ≡ b → IsTallied (rows ++ r ∷ []) (cond (a && b) (tallied_kind r r.kind t) t)
  both_tallied true true e m = kind_tallied r.kind refl e m
  both_tallied true false e m = idle-tallied rows r t h (matters_keeps t.node t.window r below m)
  both_tallied false b e m = idle-tallied rows r t h (other_keeps t.node t.window (λ x. eqb x.node t.node) r is_own e)

  pub row-tallied : IsTallied (rows ++ r ∷ []) (tallied r t)
  row-tallied = both_tallied (eqb r.node t.node) (matters t.window r) refl refl

-- ---- all rows

kept_kind : (r : Row) (k : Kind) (t : TallyOf) → ((tallied_kind r k t).node ≡ t.node) × ((tallied_kind r k t).window ≡ t.window)
kept_kind r (Instr pc word next) t = ((left (max r.cycle t.window.0) t).node, (left (max r.cycle t.window.0) t).window)
kept_kind r (Enter vector back) t = ((left (max r.cycle t.window.0) t).node, (left (max r.cycle t.window.0) t).window)
kept_kind r (Stop pc cause) t = ((left (max r.cycle t.window.0) t).node, (left (max r.cycle t.window.0) t).window)
kept_kind r (Sent byte) t = (refl, refl)
kept_kind r (Serial byte) t = (refl, refl)
kept_kind r (Heard heard) t = (refl, refl)
kept_kind r (End state instructions) t = (refl, refl)

kept_case : (b : Bool) (r : Row) (t : TallyOf) → ((cond b (tallied_kind r r.kind t) t).node ≡ t.node) × ((cond b (tallied_kind r r.kind t) t).window ≡ t.window)
kept_case true r t = kept_kind r r.kind t
kept_case false r t = (refl, refl)

-- a row changes neither the node nor the window
pub tallied-kept : (r : Row) (t : TallyOf) → ((tallied r t).node ≡ t.node) × ((tallied r t).window ≡ t.window)
tallied-kept r t = kept_case (eqb r.node t.node && matters t.window r) r t

pub all-kept : (rows : List Row) (t : TallyOf) → ((tallied_all rows t).node ≡ t.node) × ((tallied_all rows t).window ≡ t.window)
unfolding tallied_all
all-kept [] t = (refl, refl)
all-kept (r ∷ rows) t = ((all-kept rows (tallied r t)).0 ∙ (tallied-kept r t).0, (all-kept rows (tallied r t)).1 ∙ (tallied-kept r t).1)

-- rows in two parts
pub all-append : (before rows : List Row) (t : TallyOf) → tallied_all (before ++ rows) t ≡ tallied_all rows (tallied_all before t)
unfolding tallied_all
all-append [] rows t = refl
all-append (r ∷ before) rows t = all-append before rows (tallied r t)

owned_none : (test : ℕ → Row → Bool) (node first : ℕ) → owned test node (first, first) [] ≡ 0
owned_none test node first = omega (arith, owned-most test node first first [])

rows_none : (test : Kind → Bool) (node : ℕ) → rows_that test node [] ≡ 0
unfolding rows_that
rows_none test node = refl

none-tallied : (node : ℕ) (window : ℕ × ℕ) → IsTallied [] (untallied node window)
unfolding owner bytes_sent cycles_in
none-tallied node window = record {
  sums = record {
    lead = omega (arith, lead-most node window.0 window.0 []);
    at = λ w. spent-ext _ (record { word = w; count = rows_that (is_instr w) node []; cycles = owned (is_executing w) node (window.0, window.0) [] })
        refl (sym (rows_none (is_instr w) node)) (sym (owned_none (is_executing w) node window.0)) ∙ sym (at-is node (window.0, window.0) [] w);
    entered = λ w. spent-ext _ (record { word = w; count = rows_that (is_entry w) node []; cycles = owned (is_entering w) node (window.0, window.0) [] })
        refl (sym (rows_none (is_entry w) node)) (sym (owned_none (is_entering w) node window.0)) ∙ sym (vector-is node (window.0, window.0) [] w);
    asleep = sym (owned_none is_asleep node window.0);
    stopped = sym (owned_none is_stopped node window.0);
    sent = refl;
    whole = omega arith;
    quiet_at = All-nil IsQuiet;
    quiet_entered = All-nil IsQuiet;
  };
  last = λ c low lt. refl;
  takes = refl;
  early = λ c all. omega arith;
  low = omega arith;
  high = omega arith;
}

-- the rows before one in order
order_at : (before : List Row) (r : Row) (rows : List Row) → IsNonDecreasingBy (λ x. x.cycle) (before ++ r ∷ rows) → All (λ x. x.cycle ≤ r.cycle) before
order_at before r rows up i d lt =
    let le : (get_or (before ++ r ∷ rows) i d).cycle ≤ (get_or (before ++ r ∷ rows) (length before) d).cycle = up i (length before) d (omega arith) (omega (arith, length-append before (r ∷ rows))) in
    let left : (get_or (before ++ r ∷ rows) i d).cycle ≡ (get_or before i d).cycle = ap (λ (x : Row). x.cycle) (get_or-append before (r ∷ rows) d i lt) in
    let right : (get_or (before ++ r ∷ rows) (length before) d).cycle ≡ r.cycle = ap (λ (x : Row). x.cycle) (get_or-append_seam before r rows d) in
    omega arith

below_at : (end : ℕ) (before : List Row) (r : Row) (rows : List Row) → All (IsBelow end) (before ++ r ∷ rows) → IsBelow end r
below_at end before r rows all =
    subst (IsBelow end) (get_or-append_seam before r rows r) (all (length before) r (omega (arith, length-append before (r ∷ rows))))

all-tallied : (rows before : List Row) (t : TallyOf) → length (before ++ rows) < 2 ^ 64 - 1 → t.window.1 < 2 ^ 64 → IsNonDecreasingBy (λ x. x.cycle) (before ++ rows) → All (IsBelow t.window.1) (before ++ rows)
    → IsTallied before t → IsTallied (before ++ rows) (tallied_all rows t)
unfolding tallied_all
all-tallied [] before t few narrow up below h = subst (λ (l : List Row). IsTallied l t) (sym (append-nil before)) h
all-tallied (r ∷ rows) before t few narrow up below h =
    let split : (before ++ r ∷ []) ++ rows ≡ before ++ r ∷ rows = append_assoc before (r ∷ []) rows in
    let end : (tallied r t).window.1 ≡ t.window.1 = ap (λ (w : ℕ × ℕ). w.1) (tallied-kept r t).1 in
    let long = length-append before (r ∷ rows) in
    let same = ap length split in
    let next : IsTallied (before ++ r ∷ []) (tallied r t) = row-tallied before r t (omega arith) narrow h (order_at before r rows up) (below_at t.window.1 before r rows below) in
    subst (λ (l : List Row). IsTallied l (tallied_all rows (tallied r t))) split
    (all-tallied rows (before ++ r ∷ []) (tallied r t) (omega arith) (omega arith)
    (subst (IsNonDecreasingBy (λ (x : Row). x.cycle)) (sym split) up)
    (subst (λ (l : List Row). All (IsBelow (tallied r t).window.1) l) (sym split) (rw end below))
    next)

-- ---- the account

with_none : (test : Kind → Bool) (s : Spent) → with_last test None s ≡ s
with_none test s = spent-ext (with_last test None s) s refl (omega arith) refl

-- a table that says the same of each word has the same words with rows
used_all : (slots : List Spent) (said : ℕ → Spent) → length slots ≤ 65536 → ((w : ℕ) → get_or slots w (unused w) ≡ said w) → filter is_used slots ≡ spent said
used_all slots said most says =
    let whole : slots ≡ table (length slots) said =
    ext_get_or (unused 0) slots (table (length slots) said) (sym (table-length (length slots) said))
    (λ i in'. get_or_default slots i (unused 0) (unused i) in' ∙ says i ∙ sym (table-at (length slots) said i (unused 0) in')) in
    ap (filter is_used) whole
    ∙ used-whole (length slots) 65536 said most (λ w le. ap (λ (s : Spent). s.count) (sym (says w) ∙ get_or_past slots w (unused w) le))

module _ (rows : List Row) (u : TallyOf) (s : AreSums rows None u) (end : u.done ≡ max u.window.0 u.window.1) where
  width : u.done - u.window.0 ≡ u.window.1 - u.window.0
  width = omega arith

  lead_all : lead u.node (u.window.0, u.done) rows ≡ lead u.node u.window rows
  unfolding lead
  lead_all = ap (λ (n : ℕ). count_by (λ c. is_none (owner u.node rows c)) (range_with_len u.window.0 n)) width

  owned_all : (test : ℕ → Row → Bool) → owned test u.node (u.window.0, u.done) rows ≡ owned test u.node u.window rows
  unfolding owned
  owned_all test = ap (λ (n : ℕ). count_by (λ c. passes (test c) (owner u.node rows c)) (range_with_len u.window.0 n)) width

  at_all : (w : ℕ) → get_or u.at w (unused w) ≡ at_word u.node u.window rows w
  at_all w =
      sym (with_none (is_instr w) (get_or u.at w (unused w))) ∙ s.at w ∙ at-is u.node (u.window.0, u.done) rows w
      ∙ spent-ext (record { word = w; count = rows_that (is_instr w) u.node rows; cycles = owned (is_executing w) u.node (u.window.0, u.done) rows })
      (record { word = w; count = rows_that (is_instr w) u.node rows; cycles = owned (is_executing w) u.node u.window rows }) refl refl (owned_all (is_executing w))
      ∙ sym (at-is u.node u.window rows w)

  vector_all : (w : ℕ) → get_or u.entered w (unused w) ≡ at_vector u.node u.window rows w
  vector_all w =
      sym (with_none (is_entry w) (get_or u.entered w (unused w))) ∙ s.entered w ∙ vector-is u.node (u.window.0, u.done) rows w
      ∙ spent-ext (record { word = w; count = rows_that (is_entry w) u.node rows; cycles = owned (is_entering w) u.node (u.window.0, u.done) rows })
      (record { word = w; count = rows_that (is_entry w) u.node rows; cycles = owned (is_entering w) u.node u.window rows }) refl refl (owned_all (is_entering w))
      ∙ sym (vector-is u.node u.window rows w)

  told-account : length u.at ≤ 65536 → length u.entered ≤ 65536 → told u ≡ account u.node u.window rows
  unfolding account
  told-account at_most entered_most =
      let at : filter is_used u.at ≡ spent (at_word u.node u.window rows) = used_all u.at (at_word u.node u.window rows) at_most at_all in
      let entered : filter is_used u.entered ≡ spent (at_vector u.node u.window rows) = used_all u.entered (at_vector u.node u.window rows) entered_most vector_all in
      let asleep : u.asleep ≡ owned is_asleep u.node u.window rows = s.asleep ∙ owned_all is_asleep in
      let whole = s.whole in
      let wide = width in
      let awake_at = cycles-used u.at s.quiet_at in
      let awake_entered = cycles-used u.entered s.quiet_entered in
      let own : charge_of u ≡ charge (filter is_used u.at) (filter is_used u.entered) u.asleep u.sent = omega arith in
      account_same u.lead _ (filter is_used u.at) _ (filter is_used u.entered) _ u.asleep _ u.stopped _ (charge_of u) _
      (s.lead ∙ lead_all) at entered asleep (s.stopped ∙ owned_all is_stopped) (own ∙ (λ i. charge (at i) (entered i) (asleep i) (s.sent i)))

-- the end of the rows
module _ (node : ℕ) (window : ℕ × ℕ) (rows : List Row) (few : length rows < 2 ^ 64 - 1) (narrow : window.1 < 2 ^ 64) (up : IsNonDecreasingBy (λ x. x.cycle) rows) (below : All (IsBelow window.1) rows) where
  abbrev pub t : TallyOf
  t = tallied_all rows (untallied node window)

  tallied_end : IsTallied rows t
  tallied_end = all-tallied rows [] (untallied node window) few narrow up below (none-tallied node window)

  named : t.node ≡ node
  named = (all-kept rows (untallied node window)).0

  over : t.window ≡ window
  over = (all-kept rows (untallied node window)).1

  ended_sums : AreSums rows None (ended t)
  ended_sums =
      let high = tallied_end.high in
      let end : t.window.1 ≡ window.1 = ap (λ (w : ℕ × ℕ). w.1) over in
      shared-sums rows t (max t.window.0 t.window.1) (omega arith) (omega arith) tallied_end high (omega arith)

  -- no more cycles of sleep than the window has, no more bytes than rows
  pub ended-most : (ended t).asleep ≤ window.1 - window.0
  ended-most =
      let whole = ended_sums.whole in
      let l = left (max t.window.0 t.window.1) t in
      let done = l.done in
      let first : (ended t).window.0 ≡ window.0 = ap (λ (w : ℕ × ℕ). w.0) (l.window ∙ over) in
      let from : t.window.0 ≡ window.0 = ap (λ (w : ℕ × ℕ). w.0) over in
      let to : t.window.1 ≡ window.1 = ap (λ (w : ℕ × ℕ). w.1) over in
      omega arith

  pub sent-few : t.sent ≤ length rows
  sent-few = let s = tallied_end.sums.sent in omega (arith, sent-most t.node t.window rows)

  pub tally-account : length (ended t).at ≤ 65536 → length (ended t).entered ≤ 65536 → told (ended t) ≡ account node window rows
  tally-account at_most entered_most =
      let l = left (max t.window.0 t.window.1) t in
      let w : (ended t).window ≡ t.window = l.window in
      let done : (ended t).done ≡ max (ended t).window.0 (ended t).window.1 = l.done ∙ ap (λ (w : ℕ × ℕ). max w.0 w.1) (sym l.window) in
      told-account rows (ended t) ended_sums done at_most entered_most ∙ (λ i. account ((l.node ∙ named) i) ((l.window ∙ over) i) rows)
