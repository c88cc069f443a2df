-- What the last row gets of cycles that are shared out.
use Rattle.std.proofs.Common.{◌≡◌, ℕ, ◌+◌, ◌-◌, ◌^◌, ◌<◌, ◌≤◌, Bool, true, false, ◌&&◌, not, cond, max, Option, Some, None, List, length, get_or, arith, refl, sym, subst, ap, ◌∙◌, inl, inr, ◌⊎◌}
use Rattle.std.proofs.Math.Dec.{leb, ltb, eqb}
use Rattle.std.specs.List.{count_by, range_with_len}
use Rattle.std.specs.Option.{is_none}
use Rattle.std.proofs.lemmas.Bool.{cases_eq, eq-eqb, ne_eqb, leb-true, ltb-true}
use Rattle.avr_base.specs.declared.stop.StopCause.{StopCause}
use Rattle.node_core.specs.declared.row.Row.{Row}
use Rattle.node_core.specs.declared.row.Kind.{Kind}
use Rattle.node_core.specs.declared.row.Kind.TheVariants.{Instr, Enter, Serial, Sent, Heard, Stop, End}
use Rattle.node_monitors.specs.declared.spent.Spent.{Spent}
use Rattle.node_monitors.specs.Account.{lead, rows_that, at_word, at_vector}
use Rattle.node_monitors.specs.Owner.{owner, owned, passes, takes_over, is_asleep, is_stopped, is_instr, is_executing, is_entry, is_entering}
use Rattle.node_monitors.specs.Spent.{cycles_in, unused}
use Rattle.node_monitors.specs.Tallied.{AreSums, IsTallied, with_last}
use Rattle.node_monitors.specs.Tally.{TallyOf, capped, counted, executes, shared, shared_by, shared_to, with_row}
use Rattle.node_monitors.proofs.Counts.{bit, between, count-all, count-equal, count-most, count-none, count-rest, count-same, count-split}
use Rattle.node_monitors.proofs.Growing.{with_row-here, with_row-other, with_row-cycles, with_row-quiet}
use Rattle.node_monitors.proofs.Rooms.{rows_most}

-- how many of n cycles from a on pass a test where the last row has them
abbrev gain : (ℕ → Row → Bool) → Option Row → ℕ → ℕ → ℕ
gain test last a n = count_by (λ c. passes (test c) last) (range_with_len a n)

-- the cycles from `done` on have one owner, or none
module _ (node first done to : ℕ) (rows : List Row) (last : Option Row) (low : first ≤ done) (high : done ≤ to) (has : (c : ℕ) → done ≤ c → c < to → owner node rows c ≡ last) where
  both_parts : (p : ℕ → Bool) → count_by p (range_with_len first (to - first)) ≡ count_by p (range_with_len first (done - first)) + count_by p (range_with_len done (to - done))
  both_parts p =
      let all : to - first ≡ (done - first) + (to - done) = omega arith in
      let at : first + (done - first) ≡ done = omega arith in
      ap (λ (k : ℕ). count_by p (range_with_len first k)) all ∙ count-split p first (done - first) (to - done)
      ∙ ap (λ (k : ℕ). count_by p (range_with_len first (done - first)) + count_by p (range_with_len k (to - done))) at

  pub owned-more : (test : ℕ → Row → Bool) → owned test node (first, to) rows ≡ owned test node (first, done) rows + gain test last done (to - done)
  unfolding owned
  owned-more test =
      both_parts (λ c. passes (test c) (owner node rows c))
      ∙ ap (λ (k : ℕ). count_by (λ c. passes (test c) (owner node rows c)) (range_with_len first (done - first)) + k)
      (count-same (λ c. passes (test c) (owner node rows c)) (λ c. passes (test c) last) done (to - done) (λ c l h. ap (passes (test c)) (has c l (omega arith))))

  pub lead-more : lead node (first, to) rows ≡ lead node (first, done) rows + count_by (λ c. is_none last) (range_with_len done (to - done))
  unfolding lead
  lead-more =
      both_parts (λ c. is_none (owner node rows c))
      ∙ ap (λ (k : ℕ). count_by (λ c. is_none (owner node rows c)) (range_with_len first (done - first)) + k)
      (count-same (λ c. is_none (owner node rows c)) (λ c. is_none last) done (to - done) (λ c l h. ap is_none (has c l (omega arith))))

pub owned-most : (test : ℕ → Row → Bool) (node first to : ℕ) (rows : List Row) → owned test node (first, to) rows ≤ to - first
unfolding owned
owned-most test node first to rows = count-most (λ c. passes (test c) (owner node rows c)) first (to - first)

pub lead-most : (node first to : ℕ) (rows : List Row) → lead node (first, to) rows ≤ to - first
unfolding lead
lead-most node first to rows = count-most (λ c. is_none (owner node rows c)) first (to - first)

pub at-is : (node : ℕ) (window : ℕ × ℕ) (rows : List Row) (word : ℕ) →
    at_word node window rows word ≡ record { word = word; count = rows_that (is_instr word) node rows; cycles = owned (is_executing word) node window rows }
unfolding at_word
at-is node window rows word = refl

pub vector-is : (node : ℕ) (window : ℕ × ℕ) (rows : List Row) (word : ℕ) →
    at_vector node window rows word ≡ record { word = word; count = rows_that (is_entry word) node rows; cycles = owned (is_entering word) node window rows }
unfolding at_vector
vector-is node window rows word = refl

pub spent-ext : (a b : Spent) → a.word ≡ b.word → a.count ≡ b.count → a.cycles ≡ b.cycles → a ≡ b
spent-ext a b p q r = λ i. record { word = p i; count = q i; cycles = r i }

-- one word of a table
module _ (word count cycles after : ℕ) (test : Kind → Bool) where
  abbrev before : Spent
  before = record { word = word; count = count; cycles = cycles }

  abbrev behind : Spent
  behind = record { word = word; count = count; cycles = after }

  pub slot-same : (last : Option Row) (old : Spent) → with_last test last old ≡ before → passes (λ r. test r.kind) last ≡ false → after ≡ cycles → with_last test None old ≡ behind
  slot-same last old e out same =
      let none : bit (passes (λ r. test r.kind) last) ≡ 0 = ap bit out in
      let counts : old.count + bit (passes (λ r. test r.kind) last) ≡ count = ap (λ (s : Spent). s.count) e in
      let left : old.count + 0 ≡ count = omega arith in
      let long : old.cycles ≡ cycles = ap (λ (s : Spent). s.cycles) e in
      let names : old.word ≡ word = ap (λ (s : Spent). s.word) e in
      spent-ext (with_last test None old) behind names left (long ∙ sym same)

  pub slot-counted : (r : Row) (old : Spent) (n : ℕ) → with_last test (Some r) old ≡ before → test r.kind ≡ true → after ≡ cycles + n → count < 2 ^ 64 → after < 2 ^ 64 → with_last test None (counted n old) ≡ behind
  slot-counted r old n e mine more few short =
      let one : bit (test r.kind) ≡ 1 = ap bit mine in
      let counts : old.count + bit (test r.kind) ≡ count = ap (λ (s : Spent). s.count) e in
      let long : old.cycles ≡ cycles = ap (λ (s : Spent). s.cycles) e in
      let names : old.word ≡ word = ap (λ (s : Spent). s.word) e in
      let left : capped old.count 1 + 0 ≡ count = omega arith in
      let sum : capped old.cycles n ≡ after = omega arith in
      spent-ext (with_last test None (counted n old)) behind names left sum

-- the tests of a row

exec_is : (r : Row) (pc word next w c : ℕ) → r.kind ≡ Instr pc word next → is_executing w c r ≡ (eqb pc w && not (eqb word 0x9588 && not (eqb r.cycle c)))
exec_is r pc word next w c e = rw e refl

sleep_is : (r : Row) (pc word next c : ℕ) → r.kind ≡ Instr pc word next → is_asleep c r ≡ (eqb word 0x9588 && not (eqb r.cycle c))
sleep_is r pc word next c e = rw e refl

not_not : (b : Bool) → not (not b) ≡ b
not_not true = refl
not_not false = refl

gain_equal : (p : ℕ → Bool) (k done to : ℕ) → done ≤ to → ((c : ℕ) → p c ≡ eqb k c) → count_by p (range_with_len done (to - done)) ≡ bit (between done to k)
gain_equal p k done to le h =
    let end : done + (to - done) ≡ to = omega arith in
    count-same p (λ c. eqb k c) done (to - done) (λ c low high. h c) ∙ count-equal k done (to - done) ∙ ap (λ (e : ℕ). bit (between done e k)) end

gain_rest : (p : ℕ → Bool) (k done to : ℕ) → done ≤ to → ((c : ℕ) → p c ≡ not (eqb k c)) → count_by p (range_with_len done (to - done)) ≡ (to - done) - bit (between done to k)
gain_rest p k done to le h =
    let end : done + (to - done) ≡ to = omega arith in
    let own : bit (between done (done + (to - done)) k) ≡ bit (between done to k) = ap (λ (e : ℕ). bit (between done e k)) end in
    omega (arith, own, count-rest p k done (to - done) h)

exec_gain : (b : Bool) (r : Row) (pc word next done to : ℕ) → eqb word 0x9588 ≡ b → r.kind ≡ Instr pc word next → done ≤ to →
    gain (is_executing pc) (Some r) done (to - done) ≡ cond b (bit (between done to r.cycle)) (to - done)
exec_gain true r pc word next done to k e le =
    let same : eqb pc pc ≡ true = eq-eqb pc pc refl in
    gain_equal (λ c. is_executing pc c r) r.cycle done to le (λ c. exec_is r pc word next pc c e ∙ rw (same, k) (not_not (eqb r.cycle c)))
exec_gain false r pc word next done to k e le =
    let same : eqb pc pc ≡ true = eq-eqb pc pc refl in
    count-all (λ c. is_executing pc c r) done (to - done) (λ c. exec_is r pc word next pc c e ∙ rw (same, k) refl)

sleep_gain : (b : Bool) (r : Row) (pc word next done to : ℕ) → eqb word 0x9588 ≡ b → r.kind ≡ Instr pc word next → done ≤ to →
    gain is_asleep (Some r) done (to - done) ≡ (to - done) - cond b (bit (between done to r.cycle)) (to - done)
sleep_gain true r pc word next done to k e le = gain_rest (λ c. is_asleep c r) r.cycle done to le (λ c. sleep_is r pc word next c e ∙ rw k refl)
sleep_gain false r pc word next done to k e le =
    let none = count-none (λ c. is_asleep c r) done (to - done) (λ c low high. sleep_is r pc word next c e ∙ rw k refl) in
    omega (arith, none)

exec_most : (b : Bool) (done to k : ℕ) → cond b (bit (between done to k)) (to - done) ≤ to - done
exec_most true done to k = one (leb done k) (ltb k to) refl refl
  where
    one : (x y : Bool) → leb done k ≡ x → ltb k to ≡ y → bit (x && y) ≤ to - done
    one false y p q = omega arith
    one true false p q = omega arith
    one true true p q =
        let low : done ≤ k = leb-true done k p in
        let high : k < to = ltb-true k to q in
        omega arith
exec_most false done to k = omega arith

-- ---- the sums up to a cycle `to`

module _ (rows : List Row) (t : TallyOf) (to : ℕ) (few : length rows < 2 ^ 64) (narrow : t.window.1 < 2 ^ 64) (h : IsTallied rows t) (le : t.done ≤ to) (end : to ≤ max t.window.0 t.window.1) where
  abbrev node : ℕ
  node = t.node

  abbrev first : ℕ
  first = t.window.0

  has : (o : Option Row) → t.last ≡ o → (c : ℕ) → t.done ≤ c → c < to → owner t.node rows c ≡ o
  has o e c low high = let l = h.low in h.last c low (omega arith) ∙ e

  sums : (o : Option Row) → t.last ≡ o → AreSums rows o t
  sums o e = subst (λ (l : Option Row). AreSums rows l t) e h.sums

  more : (o : Option Row) → t.last ≡ o → (test : ℕ → Row → Bool) → owned test t.node (t.window.0, to) rows ≡ owned test t.node (t.window.0, t.done) rows + gain test o t.done (to - t.done)
  more o e = owned-more t.node t.window.0 t.done to rows o h.low le (has o e)

  kept : (o : Option Row) → t.last ≡ o → (test : ℕ → Row → Bool) → ((c : ℕ) → passes (test c) o ≡ false) → owned test t.node (t.window.0, to) rows ≡ owned test t.node (t.window.0, t.done) rows
  kept o e test none =
      let zero' = count-none (λ c. passes (test c) o) t.done (to - t.done) (λ c low high. none c) in
      omega (arith, more o e test, zero')

  lead_kept : (r : Row) → t.last ≡ Some r → lead t.node (t.window.0, to) rows ≡ lead t.node (t.window.0, t.done) rows
  lead_kept r e =
      let zero' : count_by (λ c. is_none (Some r)) (range_with_len t.done (to - t.done)) ≡ 0 = count-none (λ c. is_none (Some r)) t.done (to - t.done) (λ c low high. refl) in
      omega (arith, lead-more t.node t.window.0 t.done to rows (Some r) h.low le (has (Some r) e), zero')

  -- a word whose row is not the last one
  at_kept : (o : Option Row) → t.last ≡ o → (w : ℕ) → passes (λ r. is_instr w r.kind) o ≡ false → ((c : ℕ) → passes (is_executing w c) o ≡ false)
      → with_last (is_instr w) None (get_or t.at w (unused w)) ≡ at_word t.node (t.window.0, to) rows w
  at_kept o e w out none =
      slot-same w (rows_that (is_instr w) t.node rows) (owned (is_executing w) t.node (t.window.0, t.done) rows) (owned (is_executing w) t.node (t.window.0, to) rows) (is_instr w)
      o (get_or t.at w (unused w)) ((sums o e).at w ∙ at-is t.node (t.window.0, t.done) rows w) out (kept o e (is_executing w) none)
      ∙ sym (at-is t.node (t.window.0, to) rows w)

  entered_kept : (o : Option Row) → t.last ≡ o → (w : ℕ) → passes (λ r. is_entry w r.kind) o ≡ false → ((c : ℕ) → passes (is_entering w c) o ≡ false)
      → with_last (is_entry w) None (get_or t.entered w (unused w)) ≡ at_vector t.node (t.window.0, to) rows w
  entered_kept o e w out none =
      slot-same w (rows_that (is_entry w) t.node rows) (owned (is_entering w) t.node (t.window.0, t.done) rows) (owned (is_entering w) t.node (t.window.0, to) rows) (is_entry w)
      o (get_or t.entered w (unused w)) ((sums o e).entered w ∙ vector-is t.node (t.window.0, t.done) rows w) out (kept o e (is_entering w) none)
      ∙ sym (vector-is t.node (t.window.0, to) rows w)

  abbrev nobody : Option Row
  nobody = None

  none_case : t.last ≡ None → AreSums rows None (shared_by None to t)
  none_case e =
      let s = sums None e in
      let l = h.low in
      let all : count_by (λ c. is_none nobody) (range_with_len t.done (to - t.done)) ≡ to - t.done = count-all (λ c. true) t.done (to - t.done) (λ c. refl) in
      let now : lead t.node (t.window.0, to) rows ≡ lead t.node (t.window.0, t.done) rows + (to - t.done) =
      omega (arith, lead-more t.node t.window.0 t.done to rows None h.low le (has None e), all) in
      let most = lead-most t.node t.window.0 to rows in
      let was = s.lead in
      let sum : capped t.lead (to - t.done) ≡ t.lead + (to - t.done) = omega arith in
      record {
        lead = omega arith;
        at = λ w. at_kept None e w refl (λ c. refl);
        entered = λ w. entered_kept None e w refl (λ c. refl);
        asleep = s.asleep ∙ sym (kept None e is_asleep (λ c. refl));
        stopped = s.stopped ∙ sym (kept None e is_stopped (λ c. refl));
        sent = s.sent;
        whole = let w = s.whole in omega arith;
        quiet_at = s.quiet_at;
        quiet_entered = s.quiet_entered;
      }

  instr_case : (r : Row) (pc word next : ℕ) → t.last ≡ Some r → r.kind ≡ Instr pc word next → AreSums rows None (shared_to to r.cycle (Instr pc word next) t)
  instr_case r pc word next e k =
      let s = sums (Some r) e in
      let l = h.low in
      let n : ℕ = executes r.cycle word to t in
      let most : n ≤ to - t.done = exec_most (eqb word 0x9588) t.done to r.cycle in
      let at_now : owned (is_executing pc) t.node (t.window.0, to) rows ≡ owned (is_executing pc) t.node (t.window.0, t.done) rows + n =
      more (Some r) e (is_executing pc) ∙ ap (λ (g : ℕ). owned (is_executing pc) t.node (t.window.0, t.done) rows + g) (exec_gain (eqb word 0x9588) r pc word next t.done to refl k le) in
      let asleep_now : owned is_asleep t.node (t.window.0, to) rows ≡ owned is_asleep t.node (t.window.0, t.done) rows + ((to - t.done) - n) =
      more (Some r) e is_asleep ∙ ap (λ (g : ℕ). owned is_asleep t.node (t.window.0, t.done) rows + g) (sleep_gain (eqb word 0x9588) r pc word next t.done to refl k le) in
      let at_most = owned-most (is_executing pc) t.node t.window.0 to rows in
      let asleep_most = owned-most is_asleep t.node t.window.0 to rows in
      let asleep_was = s.asleep in
      let same : eqb pc pc ≡ true = eq-eqb pc pc refl in
      let mine : is_instr pc r.kind ≡ true = rw k same in
      let counts = rows_most (is_instr pc) t.node rows in
      let old : with_last (is_instr pc) (Some r) (get_or t.at pc (unused pc)) ≡ record { word = pc; count = rows_that (is_instr pc) t.node rows; cycles = owned (is_executing pc) t.node (t.window.0, t.done) rows } =
      s.at pc ∙ at-is t.node (t.window.0, t.done) rows pc in
      let old_cycles : (get_or t.at pc (unused pc)).cycles ≡ owned (is_executing pc) t.node (t.window.0, t.done) rows = ap (λ (x : Spent). x.cycles) old in
      let table : cycles_in (with_row pc n t.at) ≡ cycles_in t.at + n = with_row-cycles pc n t.at (omega arith) in
      let sum : capped t.asleep ((to - t.done) - n) ≡ t.asleep + ((to - t.done) - n) = omega arith in
      let here : with_last (is_instr pc) None (get_or (with_row pc n t.at) pc (unused pc)) ≡ at_word t.node (t.window.0, to) rows pc =
      ap (with_last (is_instr pc) None) (with_row-here pc n t.at)
      ∙ slot-counted pc (rows_that (is_instr pc) t.node rows) (owned (is_executing pc) t.node (t.window.0, t.done) rows) (owned (is_executing pc) t.node (t.window.0, to) rows) (is_instr pc)
      r (get_or t.at pc (unused pc)) n old mine at_now (omega arith) (omega arith)
      ∙ sym (at-is t.node (t.window.0, to) rows pc) in
      let there : (w : ℕ) → (w ≡ pc → ⊥) → with_last (is_instr w) None (get_or (with_row pc n t.at) w (unused w)) ≡ at_word t.node (t.window.0, to) rows w =
      λ w ne.
      let other : eqb pc w ≡ false = ne_eqb pc w (λ q. ne (sym q)) in
      ap (with_last (is_instr w) None) (with_row-other pc n t.at w ne)
      ∙ at_kept (Some r) e w (rw k other) (λ c. exec_is r pc word next w c k ∙ rw other refl) in
      record {
        lead = s.lead ∙ sym (lead_kept r e);
        at = λ w. at_case (with_row pc n t.at) w pc here there (cases_eq w pc);
        entered = λ w. entered_kept (Some r) e w (rw k refl) (λ c. rw k refl);
        asleep = omega arith;
        stopped = s.stopped ∙ sym (kept (Some r) e is_stopped (λ c. rw k refl));
        sent = s.sent;
        whole = let w = s.whole in omega arith;
        quiet_at = with_row-quiet pc n t.at s.quiet_at;
        quiet_entered = s.quiet_entered;
      }
    where
      at_case : (slots : List Spent) (w pc : ℕ) → with_last (is_instr pc) None (get_or slots pc (unused pc)) ≡ at_word t.node (t.window.0, to) rows pc
          → ((w : ℕ) → (w ≡ pc → ⊥) → with_last (is_instr w) None (get_or slots w (unused w)) ≡ at_word t.node (t.window.0, to) rows w)
          → (w ≡ pc) ⊎ (w ≡ pc → ⊥) → with_last (is_instr w) None (get_or slots w (unused w)) ≡ at_word t.node (t.window.0, to) rows w
      at_case slots w pc here there (inl e) = rw e here
      at_case slots w pc here there (inr ne) = there w ne

  enter_case : (r : Row) (vector back : ℕ) → t.last ≡ Some r → r.kind ≡ Enter vector back → AreSums rows None (shared_to to r.cycle (Enter vector back) t)
  enter_case r vector back e k =
      let s = sums (Some r) e in
      let l = h.low in
      let n : ℕ = to - t.done in
      let same : eqb vector vector ≡ true = eq-eqb vector vector refl in
      let all : gain (is_entering vector) (Some r) t.done (to - t.done) ≡ to - t.done = count-all (λ c. is_entering vector c r) t.done (to - t.done) (λ c. rw k same) in
      let now : owned (is_entering vector) t.node (t.window.0, to) rows ≡ owned (is_entering vector) t.node (t.window.0, t.done) rows + (to - t.done) =
      more (Some r) e (is_entering vector) ∙ ap (λ (g : ℕ). owned (is_entering vector) t.node (t.window.0, t.done) rows + g) all in
      let most = owned-most (is_entering vector) t.node t.window.0 to rows in
      let mine : is_entry vector r.kind ≡ true = rw k same in
      let counts = rows_most (is_entry vector) t.node rows in
      let old : with_last (is_entry vector) (Some r) (get_or t.entered vector (unused vector)) ≡ record { word = vector; count = rows_that (is_entry vector) t.node rows; cycles = owned (is_entering vector) t.node (t.window.0, t.done) rows } =
      s.entered vector ∙ vector-is t.node (t.window.0, t.done) rows vector in
      let old_cycles : (get_or t.entered vector (unused vector)).cycles ≡ owned (is_entering vector) t.node (t.window.0, t.done) rows = ap (λ (x : Spent). x.cycles) old in
      let table : cycles_in (with_row vector (to - t.done) t.entered) ≡ cycles_in t.entered + (to - t.done) = with_row-cycles vector (to - t.done) t.entered (omega arith) in
      let here : with_last (is_entry vector) None (get_or (with_row vector (to - t.done) t.entered) vector (unused vector)) ≡ at_vector t.node (t.window.0, to) rows vector =
      ap (with_last (is_entry vector) None) (with_row-here vector (to - t.done) t.entered)
      ∙ slot-counted vector (rows_that (is_entry vector) t.node rows) (owned (is_entering vector) t.node (t.window.0, t.done) rows) (owned (is_entering vector) t.node (t.window.0, to) rows) (is_entry vector)
      r (get_or t.entered vector (unused vector)) (to - t.done) old mine now (omega arith) (omega arith)
      ∙ sym (vector-is t.node (t.window.0, to) rows vector) in
      let there : (w : ℕ) → (w ≡ vector → ⊥) → with_last (is_entry w) None (get_or (with_row vector (to - t.done) t.entered) w (unused w)) ≡ at_vector t.node (t.window.0, to) rows w =
      λ w ne.
      let other : eqb vector w ≡ false = ne_eqb vector w (λ q. ne (sym q)) in
      ap (with_last (is_entry w) None) (with_row-other vector (to - t.done) t.entered w ne)
      ∙ entered_kept (Some r) e w (rw k other) (λ c. rw k other) in
      record {
        lead = s.lead ∙ sym (lead_kept r e);
        at = λ w. at_kept (Some r) e w (rw k refl) (λ c. rw k refl);
        entered = λ w. entered_case (with_row vector (to - t.done) t.entered) w vector here there (cases_eq w vector);
        asleep = s.asleep ∙ sym (kept (Some r) e is_asleep (λ c. rw k refl));
        stopped = s.stopped ∙ sym (kept (Some r) e is_stopped (λ c. rw k refl));
        sent = s.sent;
        whole = let w = s.whole in omega arith;
        quiet_at = s.quiet_at;
        quiet_entered = with_row-quiet vector (to - t.done) t.entered s.quiet_entered;
      }
    where
      entered_case : (slots : List Spent) (w vector : ℕ) → with_last (is_entry vector) None (get_or slots vector (unused vector)) ≡ at_vector t.node (t.window.0, to) rows vector
          → ((w : ℕ) → (w ≡ vector → ⊥) → with_last (is_entry w) None (get_or slots w (unused w)) ≡ at_vector t.node (t.window.0, to) rows w)
          → (w ≡ vector) ⊎ (w ≡ vector → ⊥) → with_last (is_entry w) None (get_or slots w (unused w)) ≡ at_vector t.node (t.window.0, to) rows w
      entered_case slots w vector here there (inl e) = rw e here
      entered_case slots w vector here there (inr ne) = there w ne

  stop_case : (r : Row) (pc : ℕ) (cause : StopCause) → t.last ≡ Some r → r.kind ≡ Stop pc cause → AreSums rows None (shared_to to r.cycle (Stop pc cause) t)
  stop_case r pc cause e k =
      let s = sums (Some r) e in
      let l = h.low in
      let all : gain is_stopped (Some r) t.done (to - t.done) ≡ to - t.done = count-all (λ c. is_stopped c r) t.done (to - t.done) (λ c. rw k refl) in
      let now : owned is_stopped t.node (t.window.0, to) rows ≡ owned is_stopped t.node (t.window.0, t.done) rows + (to - t.done) =
      more (Some r) e is_stopped ∙ ap (λ (g : ℕ). owned is_stopped t.node (t.window.0, t.done) rows + g) all in
      let most = owned-most is_stopped t.node t.window.0 to rows in
      let was = s.stopped in
      let sum : capped t.stopped (to - t.done) ≡ t.stopped + (to - t.done) = omega arith in
      record {
        lead = s.lead ∙ sym (lead_kept r e);
        at = λ w. at_kept (Some r) e w (rw k refl) (λ c. rw k refl);
        entered = λ w. entered_kept (Some r) e w (rw k refl) (λ c. rw k refl);
        asleep = s.asleep ∙ sym (kept (Some r) e is_asleep (λ c. rw k refl));
        stopped = omega arith;
        sent = s.sent;
        whole = let w = s.whole in omega arith;
        quiet_at = s.quiet_at;
        quiet_entered = s.quiet_entered;
      }

  -- a row that does not take over is never the last one
  takes : (r : Row) → t.last ≡ Some r → not (takes_over r.kind) ≡ false
  takes r e = subst (λ (o : Option Row). passes (λ (x : Row). not (takes_over x.kind)) o ≡ false) e h.takes

  kind_case : (r : Row) (k : Kind) → t.last ≡ Some r → r.kind ≡ k → not (takes_over k) ≡ false → AreSums rows None (shared_to to r.cycle k t)
  kind_case r (Instr pc word next) e k q = instr_case r pc word next e k
  kind_case r (Enter vector back) e k q = enter_case r vector back e k
  kind_case r (Stop pc cause) e k q = stop_case r pc cause e k
  kind_case r (Serial byte) e k q = absurd (cc)
  kind_case r (Sent byte) e k q = absurd (cc)
  kind_case r (Heard heard) e k q = absurd (cc)
  kind_case r (End state instructions) e k q = absurd (cc)

  last_case : (o : Option Row) → t.last ≡ o → AreSums rows None (shared_by o to t)
  last_case None e = none_case e
  last_case (Some r) e = kind_case r r.kind e refl (takes r e)

  pub shared-sums : AreSums rows None (shared to t)
  shared-sums = last_case t.last refl
