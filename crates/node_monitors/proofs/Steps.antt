-- What the sums are with one row more.
use Rattle.std.proofs.Common.{◌≡◌, ℕ, ◌+◌, ◌-◌, ◌<◌, ◌≤◌, Bool, true, false, ◌&&◌, not, cond, min, max, List, ◌∷◌, length, get_or, arith, refl, sym, ap, ◌∙◌}
use Rattle.std.proofs.Math.Dec.{leb, ltb, eqb}
use Rattle.std.proofs.Math.ListN.{set}
use Rattle.std.proofs.lemmas.Bool.{eq-eqb, ne_eqb}
use Rattle.std.proofs.lemmas.Bool.Decides.{nat_tests}
use Rattle.std.proofs.lemmas.List.Sums.{sum_by-cons}
use Rattle.avr_base.specs.declared.stop.StopCause.{StopCause}
use Rattle.node_core.specs.declared.row.Row.{Row}
use Rattle.node_core.specs.declared.row.Kind.{Kind}
use Rattle.node_core.specs.declared.row.Kind.TheVariants.{Instr, Enter, Serial, Sent, Heard, Stop, End}
use Rattle.node_monitors.specs.declared.spent.Spent.{Spent}
use Rattle.node_monitors.specs.Account.{rows_that, at_word, at_vector, bytes_sent}
use Rattle.node_monitors.specs.Owner.{owned, owns, is_asleep, is_stopped, is_instr, is_executing, is_entry, is_entering, is_sent}
use Rattle.node_monitors.specs.Spent.{unused, more}
use Rattle.node_monitors.specs.Sums.{Sums, newly_owned, is_within, executing, executed, vectored, halted, told, took_kind, took}
use Rattle.node_monitors.specs.Taken.{unowned, IsTaken, IsWithin}
use Rattle.node_monitors.proofs.Counts.{bit, between}
use Rattle.node_monitors.proofs.Owners.{unowned-low, unowned-high, gets, owned-step, owned-other, gets-none, gets-all, gets-own, gets-rest}
use Rattle.node_monitors.proofs.Tables.{table-same, table-set, table-at, table-length, cycles-set, quiet-set}

rows_more : (test : Kind → Bool) (node : ℕ) (r : Row) (rows : List Row) → rows_that test node (r ∷ rows) ≡ bit (eqb r.node node && test r.kind) + rows_that test node rows
unfolding rows_that
rows_more test node r rows = sum_by-cons (λ r. bit (eqb r.node node && test r.kind)) r rows

rows_same : (test : Kind → Bool) (node : ℕ) (r : Row) (rows : List Row) → (eqb r.node node && test r.kind) ≡ false → rows_that test node (r ∷ rows) ≡ rows_that test node rows
rows_same test node r rows e = rows_more test node r rows ∙ rw e (omega arith)

sent_more : (node : ℕ) (window : ℕ × ℕ) (r : Row) (rows : List Row) →
    bytes_sent node window (r ∷ rows) ≡ bit (eqb r.node node && (is_sent r.kind && (leb window.0 r.cycle && ltb r.cycle window.1))) + bytes_sent node window rows
unfolding bytes_sent
sent_more node window r rows = sum_by-cons (λ r. bit (eqb r.node node && (is_sent r.kind && (leb window.0 r.cycle && ltb r.cycle window.1)))) r rows

at_is : (node : ℕ) (window : ℕ × ℕ) (rows : List Row) (word : ℕ) →
    at_word node window rows word ≡ record { word = word; count = rows_that (is_instr word) node rows; cycles = owned (is_executing word) node window rows }
unfolding at_word
at_is node window rows word = refl

vector_is : (node : ℕ) (window : ℕ × ℕ) (rows : List Row) (word : ℕ) →
    at_vector node window rows word ≡ record { word = word; count = rows_that (is_entry word) node rows; cycles = owned (is_entering word) node window rows }
unfolding at_vector
vector_is node window rows word = refl

spent_same : (word : ℕ) (a b c d : ℕ) → a ≡ b → c ≡ d → ◌≡◌ {A = Spent} (record { word = word; count = a; cycles = c }) (record { word = word; count = b; cycles = d })
spent_same word a b c d e f = cc

at_same : (node : ℕ) (window : ℕ × ℕ) (r : Row) (rows : List Row) (word : ℕ) → (eqb r.node node && is_instr word r.kind) ≡ false →
    owned (is_executing word) node window (r ∷ rows) ≡ owned (is_executing word) node window rows →
    at_word node window (r ∷ rows) word ≡ at_word node window rows word
at_same node window r rows word e f =
    at_is node window (r ∷ rows) word ∙ spent_same word _ _ _ _ (rows_same (is_instr word) node r rows e) f ∙ sym (at_is node window rows word)

vector_same : (node : ℕ) (window : ℕ × ℕ) (r : Row) (rows : List Row) (word : ℕ) → (eqb r.node node && is_entry word r.kind) ≡ false →
    owned (is_entering word) node window (r ∷ rows) ≡ owned (is_entering word) node window rows →
    at_vector node window (r ∷ rows) word ≡ at_vector node window rows word
vector_same node window r rows word e f =
    vector_is node window (r ∷ rows) word ∙ spent_same word _ _ _ _ (rows_same (is_entry word) node r rows e) f ∙ sym (vector_is node window rows word)

unowned_other : (node : ℕ) (window : ℕ × ℕ) (r : Row) (rows : List Row) → owns node r ≡ false → unowned node window (r ∷ rows) ≡ unowned node window rows
unfolding unowned
unowned_other node window r rows e = rw e refl

unowned_own : (node : ℕ) (window : ℕ × ℕ) (r : Row) (rows : List Row) → owns node r ≡ true → unowned node window (r ∷ rows) ≡ min (max r.cycle window.0) (unowned node window rows)
unfolding unowned
unowned_own node window r rows e = rw e refl

-- a row that owns nothing
still : (r : Row) (rows : List Row) (s : Sums) (x : ℕ) → owns s.node r ≡ false → ((w : ℕ) → (eqb r.node s.node && is_instr w r.kind) ≡ false) →
    ((w : ℕ) → (eqb r.node s.node && is_entry w r.kind) ≡ false) → x ≡ bytes_sent s.node s.window (r ∷ rows) → IsTaken rows s → IsTaken (r ∷ rows) (record s { sent = x })
still r rows s x out instr entry sent h = record {
  free = h.free ∙ sym (unowned_other s.node s.window r rows out);
  at = h.at ∙ table-same s.words (at_word s.node s.window rows) (at_word s.node s.window (r ∷ rows))
      (λ w. sym (at_same s.node s.window r rows w (instr w) (owned-other (is_executing w) s.node s.window r rows out)));
  entered = h.entered ∙ table-same s.words (at_vector s.node s.window rows) (at_vector s.node s.window (r ∷ rows))
      (λ w. sym (vector_same s.node s.window r rows w (entry w) (owned-other (is_entering w) s.node s.window r rows out)));
  asleep = h.asleep ∙ sym (owned-other is_asleep s.node s.window r rows out);
  stopped = h.stopped ∙ sym (owned-other is_stopped s.node s.window r rows out);
  sent = sent;
  awake = h.awake;
  whole = h.whole;
  quiet_at = h.quiet_at;
  quiet_entered = h.quiet_entered;
}

-- what an owner gets, in the sums' own words
owned_more : (test : ℕ → Row → Bool) (r : Row) (rows : List Row) (s : Sums) → owns s.node r ≡ true → IsTaken rows s →
    owned test s.node s.window (r ∷ rows) ≡ owned test s.node s.window rows + gets test s.window s.free r
owned_more test r rows s own h =
    owned-step test s.node s.window r rows own ∙ ap (λ free. owned test s.node s.window rows + gets test s.window free r) (sym h.free)

owned_none : (test : ℕ → Row → Bool) (r : Row) (rows : List Row) (s : Sums) → owns s.node r ≡ true → ((c : ℕ) → test c r ≡ false) → IsTaken rows s →
    owned test s.node s.window (r ∷ rows) ≡ owned test s.node s.window rows
owned_none test r rows s own none h = omega (arith, owned_more test r rows s own h, gets-none test s.window s.free r none)

low : (rows : List Row) (s : Sums) → IsTaken rows s → s.window.0 ≤ s.free
low rows s h = omega (arith, h.free, unowned-low s.node s.window rows)

high : (rows : List Row) (s : Sums) → IsTaken rows s → s.free ≤ max s.window.0 s.window.1
high rows s h = omega (arith, h.free, unowned-high s.node s.window rows)

not_not : (b : Bool) → not (not b) ≡ b
not_not true = refl
not_not false = refl

-- an instruction's row

exec_is : (r : Row) (pc word next w c : ℕ) → r.kind ≡ Instr pc word next → is_executing w c r ≡ (eqb pc w && not (eqb word 0x9588 && not (eqb r.cycle c)))
exec_is r pc word next w c e = rw e refl

sleep_is : (r : Row) (pc word next c : ℕ) → r.kind ≡ Instr pc word next → is_asleep c r ≡ (eqb word 0x9588 && not (eqb r.cycle c))
sleep_is r pc word next c e = rw e refl

exec_gets : (b : Bool) (r : Row) (rows : List Row) (s : Sums) (pc word next : ℕ) → eqb word 0x9588 ≡ b → r.kind ≡ Instr pc word next → IsTaken rows s →
    gets (is_executing pc) s.window s.free r ≡ cond b (bit (between s.window.0 s.free r.cycle)) (s.free - min (max r.cycle s.window.0) s.free)
exec_gets true r rows s pc word next k e h =
    let same : eqb pc pc ≡ true = eq-eqb pc pc refl in
    gets-own (is_executing pc) s.window s.free r (low rows s h) (high rows s h)
    (λ c. exec_is r pc word next pc c e ∙ rw (same, k) (not_not (eqb r.cycle c)))
exec_gets false r rows s pc word next k e h =
    let same : eqb pc pc ≡ true = eq-eqb pc pc refl in
    gets-all (is_executing pc) s.window s.free r (low rows s h) (high rows s h)
    (λ c. exec_is r pc word next pc c e ∙ rw (same, k) refl)

sleep_gets : (b : Bool) (r : Row) (rows : List Row) (s : Sums) (pc word next : ℕ) → eqb word 0x9588 ≡ b → r.kind ≡ Instr pc word next → IsTaken rows s →
    gets is_asleep s.window s.free r
    ≡ (s.free - min (max r.cycle s.window.0) s.free) - cond b (bit (between s.window.0 s.free r.cycle)) (s.free - min (max r.cycle s.window.0) s.free)
sleep_gets true r rows s pc word next k e h =
    gets-rest is_asleep s.window s.free r (low rows s h) (high rows s h) (λ c. sleep_is r pc word next c e ∙ rw k refl)
sleep_gets false r rows s pc word next k e h =
    gets-none is_asleep s.window s.free r (λ c. sleep_is r pc word next c e ∙ rw k refl) ∙ omega arith

-- the sum of all parts stays as it was
whole_own : (first free t awake asleep stopped total owned executed : ℕ) → first ≤ free → owned ≡ free - min (max t first) free → executed ≤ owned →
    (free - first) + awake + asleep + stopped ≡ total → (min (max t first) free - first) + (awake + executed) + (asleep + (owned - executed)) + stopped ≡ total
whole_own first free t awake asleep stopped total owned executed h k l m = omega arith

bit_most : (first free t : ℕ) → bit (between first free t) ≤ free - min (max t first) free
bit_most first free t = grind (arith, nat_tests)

exec_most : (b : Bool) (first free t : ℕ) → cond b (bit (between first free t)) (free - min (max t first) free) ≤ free - min (max t first) free
exec_most true first free t = bit_most first free t
exec_most false first free t = omega arith

more_is : (word n : ℕ) (x : Spent) (a b : ℕ) → x.word ≡ word → a ≡ x.count + 1 → b ≡ x.cycles + n → ◌≡◌ {A = Spent} (record { word = word; count = a; cycles = b }) (more n x)
more_is word n x a b e f g = cc

executed-taken : (r : Row) (rows : List Row) (s : Sums) (pc word next : ℕ) → pc < s.words → eqb r.node s.node ≡ true → r.kind ≡ Instr pc word next → IsTaken rows s →
    IsTaken (r ∷ rows) (executed r.cycle pc word s)
executed-taken r rows s pc word next within mine e h =
    let own : owns s.node r ≡ true = rw (mine, e) refl in
    let long : pc < length s.at = omega (arith, ap length h.at, table-length s.words (at_word s.node s.window rows)) in
    let slot : get_or s.at pc (unused pc) ≡ at_word s.node s.window rows pc =
    ap (λ slots. get_or slots pc (unused pc)) h.at ∙ table-at s.words (at_word s.node s.window rows) pc (unused pc) within in
    let gain : gets (is_executing pc) s.window s.free r ≡ executing r.cycle word s = exec_gets (eqb word 0x9588) r rows s pc word next refl e h in
    let same : eqb pc pc ≡ true = eq-eqb pc pc refl in
    let rows_now : rows_that (is_instr pc) s.node (r ∷ rows) ≡ rows_that (is_instr pc) s.node rows + 1 =
    rows_more (is_instr pc) s.node r rows ∙ rw (mine, e, same) (omega arith) in
    let cycles_now : owned (is_executing pc) s.node s.window (r ∷ rows) ≡ owned (is_executing pc) s.node s.window rows + executing r.cycle word s =
    owned_more (is_executing pc) r rows s own h ∙ ap (λ n. owned (is_executing pc) s.node s.window rows + n) gain in
    let here : at_word s.node s.window (r ∷ rows) pc ≡ more (executing r.cycle word s) (at_word s.node s.window rows pc) =
    at_is s.node s.window (r ∷ rows) pc ∙ ap (λ (x : Spent). x) (more_is pc (executing r.cycle word s)
    (record { word = pc; count = rows_that (is_instr pc) s.node rows; cycles = owned (is_executing pc) s.node s.window rows }) _ _ refl rows_now cycles_now)
    ∙ ap (more (executing r.cycle word s)) (sym (at_is s.node s.window rows pc)) in
    record {
      free = ap (λ free. min (max r.cycle s.window.0) free) h.free ∙ sym (unowned_own s.node s.window r rows own);
      at = ap (λ x. set s.at pc (more (executing r.cycle word s) x)) slot
          ∙ ap (λ slots. set slots pc (more (executing r.cycle word s) (at_word s.node s.window rows pc))) h.at
          ∙ sym (table-set s.words (at_word s.node s.window rows) (at_word s.node s.window (r ∷ rows)) pc (more (executing r.cycle word s) (at_word s.node s.window rows pc)) within
          (λ w ne. let other : eqb pc w ≡ false = ne_eqb pc w (λ q. ne (sym q)) in
          at_same s.node s.window r rows w (rw (mine, e, other) refl) (owned_none (is_executing w) r rows s own (λ c. exec_is r pc word next w c e ∙ rw other refl) h))
          here);
      entered = h.entered ∙ table-same s.words (at_vector s.node s.window rows) (at_vector s.node s.window (r ∷ rows))
          (λ w. sym (vector_same s.node s.window r rows w (rw (mine, e) refl) (owned_none (is_entering w) r rows s own (λ c. rw e refl) h)));
      asleep = ap (λ n. n + (newly_owned r.cycle s - executing r.cycle word s)) h.asleep
          ∙ sym (owned_more is_asleep r rows s own h ∙ ap (λ n. owned is_asleep s.node s.window rows + n) (sleep_gets (eqb word 0x9588) r rows s pc word next refl e h));
      stopped = h.stopped ∙ sym (owned_none is_stopped r rows s own (λ c. rw e refl) h);
      sent = h.sent ∙ sym (sent_more s.node s.window r rows ∙ rw (mine, e) (omega arith));
      awake = omega (arith, h.awake, cycles-set s.at pc (executing r.cycle word s) long);
      whole = whole_own s.window.0 s.free r.cycle s.awake s.asleep s.stopped (s.window.1 - s.window.0) (newly_owned r.cycle s) (executing r.cycle word s)
          (low rows s h) refl (exec_most (eqb word 0x9588) s.window.0 s.free r.cycle) h.whole;
      quiet_at = quiet-set s.at pc (executing r.cycle word s) h.quiet_at;
      quiet_entered = h.quiet_entered;
    }

-- an entry's row

owned_all : (test : ℕ → Row → Bool) (r : Row) (rows : List Row) (s : Sums) → owns s.node r ≡ true → ((c : ℕ) → test c r ≡ true) → IsTaken rows s →
    owned test s.node s.window (r ∷ rows) ≡ owned test s.node s.window rows + newly_owned r.cycle s
owned_all test r rows s own all h = omega (arith, owned_more test r rows s own h, gets-all test s.window s.free r (low rows s h) (high rows s h) all)

vectored-taken : (r : Row) (rows : List Row) (s : Sums) (vector back : ℕ) → vector < s.words → eqb r.node s.node ≡ true → r.kind ≡ Enter vector back → IsTaken rows s →
    IsTaken (r ∷ rows) (vectored r.cycle vector s)
vectored-taken r rows s vector back within mine e h =
    let own : owns s.node r ≡ true = rw (mine, e) refl in
    let long : vector < length s.entered = omega (arith, ap length h.entered, table-length s.words (at_vector s.node s.window rows)) in
    let slot : get_or s.entered vector (unused vector) ≡ at_vector s.node s.window rows vector =
    ap (λ slots. get_or slots vector (unused vector)) h.entered ∙ table-at s.words (at_vector s.node s.window rows) vector (unused vector) within in
    let same : eqb vector vector ≡ true = eq-eqb vector vector refl in
    let rows_now : rows_that (is_entry vector) s.node (r ∷ rows) ≡ rows_that (is_entry vector) s.node rows + 1 =
    rows_more (is_entry vector) s.node r rows ∙ rw (mine, e, same) (omega arith) in
    let cycles_now : owned (is_entering vector) s.node s.window (r ∷ rows) ≡ owned (is_entering vector) s.node s.window rows + newly_owned r.cycle s =
    owned_all (is_entering vector) r rows s own (λ c. rw e same) h in
    let here : at_vector s.node s.window (r ∷ rows) vector ≡ more (newly_owned r.cycle s) (at_vector s.node s.window rows vector) =
    vector_is s.node s.window (r ∷ rows) vector ∙ more_is vector (newly_owned r.cycle s)
    (record { word = vector; count = rows_that (is_entry vector) s.node rows; cycles = owned (is_entering vector) s.node s.window rows }) _ _ refl rows_now cycles_now
    ∙ ap (more (newly_owned r.cycle s)) (sym (vector_is s.node s.window rows vector)) in
    record {
      free = ap (λ free. min (max r.cycle s.window.0) free) h.free ∙ sym (unowned_own s.node s.window r rows own);
      at = h.at ∙ table-same s.words (at_word s.node s.window rows) (at_word s.node s.window (r ∷ rows))
          (λ w. sym (at_same s.node s.window r rows w (rw (mine, e) refl) (owned_none (is_executing w) r rows s own (λ c. rw e refl) h)));
      entered = ap (λ x. set s.entered vector (more (newly_owned r.cycle s) x)) slot
          ∙ ap (λ slots. set slots vector (more (newly_owned r.cycle s) (at_vector s.node s.window rows vector))) h.entered
          ∙ sym (table-set s.words (at_vector s.node s.window rows) (at_vector s.node s.window (r ∷ rows)) vector (more (newly_owned r.cycle s) (at_vector s.node s.window rows vector)) within
          (λ w ne. let other : eqb vector w ≡ false = ne_eqb vector w (λ q. ne (sym q)) in
          vector_same s.node s.window r rows w (rw (mine, e, other) refl) (owned_none (is_entering w) r rows s own (λ c. rw e other) h))
          here);
      asleep = h.asleep ∙ sym (owned_none is_asleep r rows s own (λ c. rw e refl) h);
      stopped = h.stopped ∙ sym (owned_none is_stopped r rows s own (λ c. rw e refl) h);
      sent = h.sent ∙ sym (sent_more s.node s.window r rows ∙ rw (mine, e) (omega arith));
      awake = omega (arith, h.awake, cycles-set s.entered vector (newly_owned r.cycle s) long);
      whole = omega (arith, h.whole, low rows s h);
      quiet_at = h.quiet_at;
      quiet_entered = quiet-set s.entered vector (newly_owned r.cycle s) h.quiet_entered;
    }

-- a stop's row

halted-taken : (r : Row) (rows : List Row) (s : Sums) (pc : ℕ) (cause : StopCause) → eqb r.node s.node ≡ true → r.kind ≡ Stop pc cause → IsTaken rows s →
    IsTaken (r ∷ rows) (halted r.cycle s)
halted-taken r rows s pc cause mine e h =
    let own : owns s.node r ≡ true = rw (mine, e) refl in
    record {
      free = ap (λ free. min (max r.cycle s.window.0) free) h.free ∙ sym (unowned_own s.node s.window r rows own);
      at = h.at ∙ table-same s.words (at_word s.node s.window rows) (at_word s.node s.window (r ∷ rows))
          (λ w. sym (at_same s.node s.window r rows w (rw (mine, e) refl) (owned_none (is_executing w) r rows s own (λ c. rw e refl) h)));
      entered = h.entered ∙ table-same s.words (at_vector s.node s.window rows) (at_vector s.node s.window (r ∷ rows))
          (λ w. sym (vector_same s.node s.window r rows w (rw (mine, e) refl) (owned_none (is_entering w) r rows s own (λ c. rw e refl) h)));
      asleep = h.asleep ∙ sym (owned_none is_asleep r rows s own (λ c. rw e refl) h);
      stopped = omega (arith, h.stopped, owned_all is_stopped r rows s own (λ c. rw e refl) h);
      sent = h.sent ∙ sym (sent_more s.node s.window r rows ∙ rw (mine, e) (omega arith));
      awake = h.awake;
      whole = omega (arith, h.whole, low rows s h);
      quiet_at = h.quiet_at;
      quiet_entered = h.quiet_entered;
    }

-- a row that tells of no cycles

silent-taken : (r : Row) (rows : List Row) (s : Sums) → owns s.node r ≡ false → ((w : ℕ) → (eqb r.node s.node && is_instr w r.kind) ≡ false) →
    ((w : ℕ) → (eqb r.node s.node && is_entry w r.kind) ≡ false) → (eqb r.node s.node && is_sent r.kind) ≡ false → IsTaken rows s → IsTaken (r ∷ rows) s
silent-taken r rows s out instr entry quiet h =
    still r rows s s.sent out instr entry (h.sent ∙ sym (sent_more s.node s.window r rows ∙ ap (λ b. bit b + bytes_sent s.node s.window rows) (never (eqb r.node s.node) (is_sent r.kind) quiet) ∙ omega arith)) h
  where
    never : (a b : Bool) → (a && b) ≡ false → (a && (b && (leb s.window.0 r.cycle && ltb r.cycle s.window.1))) ≡ false
    never true true e = absurd (cc)
    never true false e = refl
    never false b e = refl

told-taken : (r : Row) (rows : List Row) (s : Sums) (byte : ℕ) → eqb r.node s.node ≡ true → r.kind ≡ Sent byte → IsTaken rows s → IsTaken (r ∷ rows) (told r.cycle s)
told-taken r rows s byte mine e h =
    still r rows s (s.sent + (bit (is_within r.cycle s))) (rw (mine, e) refl) (λ w. rw (mine, e) refl) (λ w. rw (mine, e) refl)
    (let now : bytes_sent s.node s.window (r ∷ rows) ≡ bit (is_within r.cycle s) + bytes_sent s.node s.window rows = sent_more s.node s.window r rows ∙ rw (mine, e) refl in
    omega (arith, h.sent, now)) h

mine-taken : (k : Kind) (r : Row) (rows : List Row) (s : Sums) → IsWithin s.words k → eqb r.node s.node ≡ true → r.kind ≡ k → IsTaken rows s →
    IsTaken (r ∷ rows) (took_kind r.cycle k s)
mine-taken (Instr pc word next) r rows s within mine e h = executed-taken r rows s pc word next within mine e h
mine-taken (Enter vector back) r rows s within mine e h = vectored-taken r rows s vector back within mine e h
mine-taken (Stop pc cause) r rows s within mine e h = halted-taken r rows s pc cause mine e h
mine-taken (Sent byte) r rows s within mine e h = told-taken r rows s byte mine e h
mine-taken (Serial byte) r rows s within mine e h = silent-taken r rows s (rw (mine, e) refl) (λ w. rw (mine, e) refl) (λ w. rw (mine, e) refl) (rw (mine, e) refl) h
mine-taken (Heard heard) r rows s within mine e h = silent-taken r rows s (rw (mine, e) refl) (λ w. rw (mine, e) refl) (λ w. rw (mine, e) refl) (rw (mine, e) refl) h
mine-taken (End state instructions) r rows s within mine e h = silent-taken r rows s (rw (mine, e) refl) (λ w. rw (mine, e) refl) (λ w. rw (mine, e) refl) (rw (mine, e) refl) h

pub took-taken : (r : Row) (rows : List Row) (s : Sums) → IsWithin s.words r.kind → IsTaken rows s → IsTaken (r ∷ rows) (took r s)
took-taken r rows s within h = both (eqb r.node s.node) refl
  where
    both : (b : Bool) → eqb r.node s.node ≡ b → IsTaken (r ∷ rows) (cond b (took_kind r.cycle r.kind s) s)
    both true e = mine-taken r.kind r rows s within e refl h
    both false e = silent-taken r rows s (rw e refl) (λ w. rw e refl) (λ w. rw e refl) (rw e refl) h
