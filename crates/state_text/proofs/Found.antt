-- What is read is what would be written.
use Rattle.std.proofs.Common.{◌≡◌, ℕ, zero, suc, ◌+◌, ◌<◌, ◌^◌, Bool, true, false, cond, ltb, ◌&&◌, List, [], ◌∷◌, ◌++◌, length, map, take, drop, codes, decimal, Option, Some, None, Ok, refl, sym, ap, subst, ◌∙◌, append_assoc, arith}
use Rattle.std.specs.List.{AllByRecursion, join_with_byte}
use Rattle.std.specs.Prelude.{slice_index}
use Rattle.std.specs.Str.{bytes_eq}
use Rattle.std.proofs.lemmas.Bool.{and_parts, and_from, ltb-true}
use Rattle.std.proofs.lemmas.List.{length-append, take_at, drop_at}
use Rattle.std.proofs.lemmas.List.Splits.{join_with_byte-slice_split}
use Rattle.std.proofs.lemmas.Slice.Eq.{bytes_eq-Decides}
use Rattle.hex.specs.Hex.{encode_upper}
use Rattle.air_base.specs.declared.air.Send.{Send}
use Rattle.world_core.specs.Topology.{Topology, IsTopology}
use Rattle.state_text.specs.Parts.{is_decimal, value, parts_of, line_of, pieces_of}
use Rattle.state_text.specs.Text.{NodeOf, StateOf, numbers_line, bytes_line, node_lines, nodes_lines, send_line, cycle_line, title, tail_lines, state_lines, state_text}
use Rattle.state_text.specs.Bounds.{Rules, HasNode, IsState, is_cut, is_kept, follows, kept_behind, are_sends}
use Rattle.state_text.specs.Reading.{◌>>=◌, Place, place, line_in, next_line, no_form, behind_word, behind_node, numbers_in, only_bytes, bytes_in, title_at, cycle_at, numbers_at, bytes_at, node_at, nodes_at, three_of, send, if_kept, some_or_out, send_in, send_of, over, sends_in, state_of, one_number}
use Rattle.state_text.proofs.Taken.{bind_ok, ok_is, formed_ok, bounded_ok, numbers_count, numbers_taken}
use Rattle.state_text.proofs.Visible.{AreBytes, joined}
use Rattle.state_text.proofs.Numerals.{AreWide, decimal_of, decimals_of}
use Rattle.state_text.proofs.HexBytes.{bytes_of}

line_taken : (number : ℕ) (pieces : List (List ℕ)) (line : List ℕ) (next : Place) → line_in number pieces ≡ Ok (line, next) → pieces ≡ line ∷ next.pieces
line_taken number [] line next h = absurd cc
line_taken number (last ∷ []) line next h = absurd cc
line_taken number (l ∷ more ∷ pieces) line next h =
    let e : (l, place (number + 1) (more ∷ pieces)) ≡ (line, next) = cc in
    ap (λ (x : List ℕ × Place). x.0 ∷ x.1.pieces) e

same : (a b : List ℕ) → bytes_eq a b ≡ true → a ≡ b
same a b h = (bytes_eq-Decides a b).0 h

word_taken : (number : ℕ) (word : List ℕ) (parts rest : List (List ℕ)) → behind_word number word parts ≡ Ok rest → parts ≡ word ∷ rest
unfolding behind_word
word_taken number word [] rest h = absurd cc
word_taken number word (p ∷ ps) rest h =
    let f = formed_ok number (bytes_eq p word) ps rest h in
    ap (λ x. x ∷ ps) (same p word f.0) ∙ ap (λ xs. word ∷ xs) f.1

cut_line : (line : List ℕ) (parts : List (List ℕ)) → parts_of line ≡ parts → line ≡ line_of parts
cut_line line parts h = sym (join_with_byte-slice_split 32 line) ∙ ap line_of h

node_word : (number : ℕ) (word : List ℕ) (k : ℕ) (line : List ℕ) (parts : List (List ℕ)) → behind_node number word k line ≡ Ok parts → line ≡ line_of (word ∷ decimal k ∷ parts)
unfolding behind_node
node_word number word k line parts h =
    let b = bind_ok (behind_word number word (parts_of line)) (λ ps. behind_word number (decimal k) ps) parts h in
    cut_line line (word ∷ decimal k ∷ parts) (word_taken number word (parts_of line) b.0 b.1 ∙ ap (λ xs. word ∷ xs) (word_taken number (decimal k) b.0 parts b.2))

-- ---- lines of a node

record NumbersTaken (within : List ℕ → Bool) (word : List ℕ) (k count : ℕ) (at : Place) (ns : List ℕ) (next : Place) : Type 0 where
  line : at.pieces ≡ numbers_line word k ns ∷ next.pieces
  many : length ns ≡ count
  wide : AreWide ns
  holds : within ns ≡ true

numbers_found : (within : List ℕ → Bool) (word : List ℕ) (k count : ℕ) (at : Place) (ns : List ℕ) (next : Place) → numbers_at within word k count at ≡ Ok (ns, next) → NumbersTaken within word k count at ns next
unfolding numbers_at numbers_line
numbers_found within word k count at ns next h =
    let a = bind_ok (next_line at) _ (ns, next) h in
    let b = bind_ok (behind_node at.number word k a.0.0) _ (ns, next) a.2 in
    let c = bind_ok (numbers_in at.number count b.0) _ (ns, next) b.2 in
    let d = bounded_ok at.number (within c.0) (c.0, a.0.1) (ns, next) c.2 in
    let t = numbers_taken at.number count b.0 c.0 c.1 in
    let dec = decimals_of b.0 t.decimals t.fit in
    let text : a.0.0 ≡ line_of (word ∷ decimal k ∷ map decimal c.0) = node_word at.number word k a.0.0 b.0 b.1 ∙ ap (λ xs. line_of (word ∷ decimal k ∷ xs)) (sym dec.0 ∙ ap (map decimal) t.are) in
    let made : NumbersTaken within word k count at c.0 a.0.1 = record {
      line = line_taken at.number at.pieces a.0.0 a.0.1 a.1 ∙ ap (λ x. x ∷ a.0.1.pieces) text;
      many = numbers_count at.number count b.0 c.0 c.1;
      wide = subst AreWide t.are dec.1;
      holds = d.0;
    } in
    subst (λ (x : List ℕ × Place). NumbersTaken within word k count at x.0 x.1) d.1 made

record BytesTaken (readable : List ℕ → Bool) (word : List ℕ) (k count : ℕ) (at : Place) (bytes : List ℕ) (next : Place) : Type 0 where
  line : at.pieces ≡ bytes_line word k bytes ∷ next.pieces
  many : length bytes ≡ count
  small : AreBytes bytes
  holds : readable bytes ≡ true

only_taken : (number count : ℕ) (parts : List (List ℕ)) (bytes : List ℕ) → only_bytes number count parts ≡ Ok bytes → (parts ≡ encode_upper bytes ∷ []) × (length bytes ≡ count) × AreBytes bytes
unfolding only_bytes
only_taken number count [] bytes h = absurd cc
only_taken number count (p ∷ q ∷ parts) bytes h = absurd cc
only_taken number count (p ∷ []) bytes h =
    let t = bytes_of number count p bytes h in
    (ap (λ x. x ∷ []) (sym t.0), t.1, t.2)

bytes_found : (readable : List ℕ → Bool) (word : List ℕ) (k count : ℕ) (at : Place) (bytes : List ℕ) (next : Place) → bytes_at readable word k count at ≡ Ok (bytes, next) → BytesTaken readable word k count at bytes next
unfolding bytes_at bytes_line
bytes_found readable word k count at bytes next h =
    let a = bind_ok (next_line at) _ (bytes, next) h in
    let b = bind_ok (behind_node at.number word k a.0.0) _ (bytes, next) a.2 in
    let c = bind_ok (only_bytes at.number count b.0) _ (bytes, next) b.2 in
    let d = bounded_ok at.number (readable c.0) (c.0, a.0.1) (bytes, next) c.2 in
    let t = only_taken at.number count b.0 c.0 c.1 in
    let text : a.0.0 ≡ line_of (word ∷ decimal k ∷ encode_upper c.0 ∷ []) = node_word at.number word k a.0.0 b.0 b.1 ∙ ap (λ xs. line_of (word ∷ decimal k ∷ xs)) t.0 in
    let made : BytesTaken readable word k count at c.0 a.0.1 = record {
      line = line_taken at.number at.pieces a.0.0 a.0.1 a.1 ∙ ap (λ x. x ∷ a.0.1.pieces) text;
      many = t.1;
      small = t.2;
      holds = d.0;
    } in
    subst (λ (x : List ℕ × Place). BytesTaken readable word k count at x.0 x.1) d.1 made

wide_append : (a b : List ℕ) → AreWide a → AreWide b → AreWide (a ++ b)
wide_append [] b h k = k
wide_append (x ∷ a) b h k = (h.0, wide_append a b h.1 k)

record Thirds (a b c ns : List ℕ) : Type 0 where
  first : a ≡ take 41 ns
  second : b ≡ take 38 (drop 41 ns)
  third : c ≡ drop 79 ns

thirds : (a b c ns : List ℕ) → (a ++ b) ++ c ≡ ns → length a ≡ 41 → length b ≡ 38 → Thirds a b c ns
thirds a b c ns e la lb =
    let grouped : ns ≡ a ++ (b ++ c) = sym e ∙ append_assoc a b c in
    let lab : length (a ++ b) ≡ 79 = omega (arith, la, lb, length-append a b) in
    let behind : drop 41 ns ≡ b ++ c = ap (drop 41) grouped ∙ drop_at a (b ++ c) 41 la in
    record {
      first = sym (ap (take 41) grouped ∙ take_at a (b ++ c) 41 la);
      second = sym (ap (take 38) behind ∙ take_at b c 38 lb);
      third = sym (ap (drop 79) (sym e) ∙ drop_at (a ++ b) c 79 lab);
    }

record NodeTaken (r : Rules) (cycle k : ℕ) (at : Place) (n : NodeOf) (next : Place) : Type 0 where
  lines : at.pieces ≡ node_lines k n ++ next.pieces
  have : HasNode r cycle n

node_found : (r : Rules) (cycle k : ℕ) (at : Place) (n : NodeOf) (next : Place) → node_at r cycle k at ≡ Ok (n, next) → NodeTaken r cycle k at n next
unfolding node_at node_lines
node_found r cycle k at n next h =
    let a = bind_ok (numbers_at r.node.core (codes "core") k 41 at) _ (n, next) h in
    let b = bind_ok (numbers_at r.node.timers (codes "timers") k 38 a.0.1) _ (n, next) a.2 in
    let c = bind_ok (numbers_at (r.node.ports cycle a.0.0) (codes "ports") k 29 b.0.1) _ (n, next) b.2 in
    let d = bind_ok (bytes_at r.node.io (codes "io") k 224 c.0.1) _ (n, next) c.2 in
    let e = bind_ok (bytes_at (λ bytes. true) (codes "sram") k 4096 d.0.1) _ (n, next) d.2 in
    let ta = numbers_found r.node.core (codes "core") k 41 at a.0.0 a.0.1 a.1 in
    let tb = numbers_found r.node.timers (codes "timers") k 38 a.0.1 b.0.0 b.0.1 b.1 in
    let tc = numbers_found (r.node.ports cycle a.0.0) (codes "ports") k 29 b.0.1 c.0.0 c.0.1 c.1 in
    let td = bytes_found r.node.io (codes "io") k 224 c.0.1 d.0.0 d.0.1 d.1 in
    let te = bytes_found (λ bytes. true) (codes "sram") k 4096 d.0.1 e.0.0 e.0.1 e.1 in
    let all : List ℕ = a.0.0 ++ b.0.0 ++ c.0.0 in
    let t = thirds a.0.0 b.0.0 c.0.0 all refl ta.many tb.many in
    let la = ta.many in
    let lb = tb.many in
    let lc = tc.many in
    let made : NodeOf = record { numbers = all; io = d.0.0; sram = e.0.0 } in
    let have : HasNode r cycle made = record {
      count = omega (arith, la, lb, lc, length-append (a.0.0 ++ b.0.0) c.0.0, length-append a.0.0 b.0.0);
      wide = wide_append (a.0.0 ++ b.0.0) c.0.0 (wide_append a.0.0 b.0.0 ta.wide tb.wide) tc.wide;
      core = ap r.node.core (sym t.first) ∙ ta.holds;
      timers = ap r.node.timers (sym t.second) ∙ tb.holds;
      ports = (λ i. r.node.ports cycle (sym t.first i) (sym t.third i)) ∙ tc.holds;
      io_count = td.many;
      io_bytes = td.small;
      io = td.holds;
      sram_count = te.many;
      sram_bytes = te.small;
    } in
    let lines : at.pieces ≡ node_lines k made ++ e.0.1.pieces =
    ta.line ∙ (ap (λ x. numbers_line (codes "core") k x ∷ a.0.1.pieces) t.first
    ∙ ap (λ x. numbers_line (codes "core") k (take 41 all) ∷ x) (tb.line ∙ (ap (λ x. numbers_line (codes "timers") k x ∷ b.0.1.pieces) t.second
    ∙ ap (λ x. numbers_line (codes "timers") k (take 38 (drop 41 all)) ∷ x) (tc.line ∙ (ap (λ x. numbers_line (codes "ports") k x ∷ c.0.1.pieces) t.third
    ∙ ap (λ x. numbers_line (codes "ports") k (drop 79 all) ∷ x) (td.line ∙ ap (λ x. bytes_line (codes "io") k d.0.0 ∷ x) te.line)))))) in
    let whole : NodeTaken r cycle k at made e.0.1 = record { lines = lines; have = have } in
    subst (λ (x : NodeOf × Place). NodeTaken r cycle k at x.0 x.1) (ok_is (made, e.0.1) (n, next) e.2) whole

record NodesTaken (r : Rules) (cycle k count : ℕ) (at : Place) (ns : List NodeOf) (next : Place) : Type 0 where
  lines : at.pieces ≡ nodes_lines k ns ++ next.pieces
  many : length ns ≡ count
  have : AllByRecursion (HasNode r cycle) ns

nodes_found : (r : Rules) (cycle k count : ℕ) (at : Place) (ns : List NodeOf) (next : Place) → nodes_at r cycle k count at ≡ Ok (ns, next) → NodesTaken r cycle k count at ns next
unfolding nodes_at
nodes_found r cycle k zero at ns next h =
    let made : NodesTaken r cycle k 0 at [] at = record { lines = refl; many = refl; have = tt } in
    subst (λ (x : List NodeOf × Place). NodesTaken r cycle k 0 at x.0 x.1) (ok_is ([], at) (ns, next) h) made
nodes_found r cycle k (suc count) at ns next h =
    let a = bind_ok (node_at r cycle k at) _ (ns, next) h in
    let b = bind_ok (nodes_at r cycle (k + 1) count a.0.1) _ (ns, next) a.2 in
    let ta = node_found r cycle k at a.0.0 a.0.1 a.1 in
    let tb = nodes_found r cycle (k + 1) count a.0.1 b.0.0 b.0.1 b.1 in
    let made : NodesTaken r cycle k (suc count) at (a.0.0 ∷ b.0.0) b.0.1 = record {
      lines = ta.lines ∙ (ap (λ x. node_lines k a.0.0 ++ x) tb.lines ∙ sym (append_assoc (node_lines k a.0.0) (nodes_lines (k + 1) b.0.0) b.0.1.pieces));
      many = ap suc tb.many;
      have = (ta.have, tb.have);
    } in
    subst (λ (x : List NodeOf × Place). NodesTaken r cycle k (suc count) at x.0 x.1) (ok_is (a.0.0 ∷ b.0.0, b.0.1) (ns, next) b.2) made

-- ---- the first lines

title_found : (at next : Place) → title_at at ≡ Ok next → at.pieces ≡ title ∷ next.pieces
unfolding title_at
title_found at next h =
    let a = bind_ok (next_line at) _ next h in
    let f = formed_ok at.number (bytes_eq a.0.0 title) a.0.1 next a.2 in
    line_taken at.number at.pieces a.0.0 a.0.1 a.1 ∙ (ap (λ x. x ∷ a.0.1.pieces) (same a.0.0 title f.0) ∙ ap (λ (x : Place). title ∷ x.pieces) f.1)

one_of : (ns : List ℕ) → length ns ≡ 1 → ns ≡ slice_index ns 0 ∷ []
one_of [] h = absurd (omega arith)
one_of (n ∷ []) h = refl
one_of (n ∷ m ∷ ns) h = absurd (omega arith)

record CycleTaken (t : Topology) (at : Place) (cycle : ℕ) (next : Place) : Type 0 where
  line : at.pieces ≡ cycle_line cycle ∷ next.pieces
  holds : is_cut t cycle ≡ true

cycle_found : (t : Topology) (at : Place) (cycle : ℕ) (next : Place) → cycle_at t at ≡ Ok (cycle, next) → CycleTaken t at cycle next
unfolding cycle_at cycle_line
cycle_found t at cycle next h =
    let a = bind_ok (next_line at) _ (cycle, next) h in
    let b = bind_ok (behind_word at.number (codes "cycle") (parts_of a.0.0)) _ (cycle, next) a.2 in
    let c = bind_ok (numbers_in at.number 1 b.0) _ (cycle, next) b.2 in
    let d = bounded_ok at.number (is_cut t (one_number c.0)) (one_number c.0, a.0.1) (cycle, next) c.2 in
    let t1 = numbers_taken at.number 1 b.0 c.0 c.1 in
    let dec = decimals_of b.0 t1.decimals t1.fit in
    let mapped : map decimal c.0 ≡ b.0 = ap (map decimal) (sym t1.are) ∙ dec.0 in
    let many = t1.many in
    let len : length (map decimal c.0) ≡ length b.0 = ap length mapped in
    let one : c.0 ≡ one_number c.0 ∷ [] = one_of c.0 (omega (arith, len, many, length_map c.0)) in
    let parts : parts_of a.0.0 ≡ codes "cycle" ∷ decimal (one_number c.0) ∷ [] = word_taken at.number (codes "cycle") (parts_of a.0.0) b.0 b.1 ∙ ap (λ xs. codes "cycle" ∷ xs) (sym mapped ∙ ap (map decimal) one) in
    let made : CycleTaken t at (one_number c.0) a.0.1 = record {
      line = line_taken at.number at.pieces a.0.0 a.0.1 a.1 ∙ ap (λ x. x ∷ a.0.1.pieces) (cut_line a.0.0 (codes "cycle" ∷ decimal (one_number c.0) ∷ []) parts);
      holds = d.0;
    } in
    subst (λ (x : ℕ × Place). CycleTaken t at x.0 x.1) d.1 made
  where
    length_map : (ns : List ℕ) → length (map decimal ns) ≡ length ns
    length_map [] = refl
    length_map (n ∷ ns) = ap suc (length_map ns)

-- ---- sends

kept_ok : (number : ℕ) (holds : Bool) (x y : Send) → some_or_out number (cond holds (Some x) None) ≡ Ok y → (holds ≡ true) × (x ≡ y)
kept_ok number true x y h = (refl, ok_is x y h)
kept_ok number false x y h = absurd cc

record SendTaken (t : Topology) (cycle : ℕ) (before : Option Send) (parts : List (List ℕ)) (x : Send) : Type 0 where
  are : parts ≡ decimal x.node ∷ decimal x.cycle ∷ encode_upper (x.byte ∷ []) ∷ []
  holds : kept_behind t cycle before x ≡ true
  small : x.byte < 256

first_small : (bytes : List ℕ) → AreBytes bytes → length bytes ≡ 1 → slice_index bytes 0 < 256
first_small [] h one = absurd (omega arith)
first_small (b ∷ bytes) h one = h.0

send_parts : (t : Topology) (cycle : ℕ) (before : Option Send) (number : ℕ) (parts : List (List ℕ)) (x : Send) → IsTopology t → cycle < 2 ^ 64 → send_in t cycle before number (three_of parts) ≡ Ok x → SendTaken t cycle before parts x
unfolding send_in
send_parts t cycle before number [] x lawful early h = absurd cc
send_parts t cycle before number (k ∷ []) x lawful early h = absurd cc
send_parts t cycle before number (k ∷ c ∷ []) x lawful early h = absurd cc
send_parts t cycle before number (k ∷ c ∷ d ∷ e ∷ parts) x lawful early h = absurd cc
send_parts t cycle before number (k ∷ c ∷ d ∷ []) x lawful early h = go (is_decimal k && is_decimal c) refl h
  where
    go : (b : Bool) → (is_decimal k && is_decimal c) ≡ b → cond b (bytes_in number 1 d >>= λ bytes. some_or_out number (if_kept t cycle before (send (value k) (value c) bytes))) (no_form number) ≡ Ok x → SendTaken t cycle before (k ∷ c ∷ d ∷ []) x
    go false e r = absurd cc
    go true e r =
        let both = and_parts (is_decimal k) (is_decimal c) e in
        let a = bind_ok (bytes_in number 1 d) _ x r in
        let s : Send = send (value k) (value c) a.0 in
        let kept = kept_ok number (kept_behind t cycle before s) s x a.2 in
        let bounds = and_parts (is_kept t cycle s) (follows before s) kept.0 in
        let node = and_parts (ltb (value k) t.nodes) _ bounds.0 in
        let at = and_parts (ltb (value c) cycle) _ node.1 in
        let below = ltb-true (value k) t.nodes node.0 in
        let sooner = ltb-true (value c) cycle at.0 in
        let most = lawful.ranges.nodes_to in
        let t1 = bytes_of number 1 d a.0 a.1 in
        let one : a.0 ≡ slice_index a.0 0 ∷ [] = one_of a.0 t1.1 in
        let made : SendTaken t cycle before (k ∷ c ∷ d ∷ []) s = record {
          are =
              ap (λ v. v ∷ c ∷ d ∷ []) (sym (decimal_of k both.0 (omega (arith, below, most))))
              ∙ (ap (λ v. decimal (value k) ∷ v ∷ d ∷ []) (sym (decimal_of c both.1 (omega (arith, sooner, early))))
              ∙ ap (λ v. decimal (value k) ∷ decimal (value c) ∷ v ∷ []) (sym t1.0 ∙ ap encode_upper one));
          holds = kept.0;
          small = first_small a.0 t1.2 t1.1;
        } in
        subst (SendTaken t cycle before (k ∷ c ∷ d ∷ [])) kept.1 made

record LineTaken (t : Topology) (cycle : ℕ) (before : Option Send) (line : List ℕ) (x : Send) : Type 0 where
  is : line ≡ send_line x
  holds : kept_behind t cycle before x ≡ true
  small : x.byte < 256

send_found : (t : Topology) (cycle : ℕ) (before : Option Send) (number : ℕ) (line : List ℕ) (x : Send) → IsTopology t → cycle < 2 ^ 64 → send_of t cycle before number line ≡ Ok x → LineTaken t cycle before line x
unfolding send_of send_line
send_found t cycle before number line x lawful early h =
    let a = bind_ok (behind_word number (codes "send") (parts_of line)) _ x h in
    let s = send_parts t cycle before number a.0 x lawful early a.2 in
    let parts : parts_of line ≡ codes "send" ∷ decimal x.node ∷ decimal x.cycle ∷ encode_upper (x.byte ∷ []) ∷ [] = word_taken number (codes "send") (parts_of line) a.0 a.1 ∙ ap (λ xs. codes "send" ∷ xs) s.are in
    record { is = cut_line line (codes "send" ∷ decimal x.node ∷ decimal x.cycle ∷ encode_upper (x.byte ∷ []) ∷ []) parts; holds = s.holds; small = s.small }

over_taken : (number : ℕ) (pieces : List (List ℕ)) (xs : List Send) → over number pieces ≡ Ok xs → (pieces ≡ [] ∷ []) × ([] ≡ xs)
over_taken number ([] ∷ []) xs h = (refl, ok_is [] xs h)
over_taken number [] xs h = absurd cc
over_taken number ((c ∷ line) ∷ pieces) xs h = absurd cc
over_taken number ([] ∷ line ∷ pieces) xs h = absurd cc

record SendsTaken (t : Topology) (cycle : ℕ) (before : Option Send) (pieces : List (List ℕ)) (xs : List Send) : Type 0 where
  lines : pieces ≡ tail_lines xs ++ [] ∷ []
  holds : are_sends t cycle before xs ≡ true
  small : AllByRecursion (λ (x : Send). x.byte < 256) xs

sends_found : (t : Topology) (cycle : ℕ) (before : Option Send) (number : ℕ) (pieces : List (List ℕ)) (xs : List Send) → IsTopology t → cycle < 2 ^ 64 → sends_in t cycle before number pieces ≡ Ok xs → SendsTaken t cycle before pieces xs
unfolding sends_in
sends_found t cycle before number [] xs lawful early h = absurd cc
sends_found t cycle before number (last ∷ []) xs lawful early h = absurd cc
sends_found t cycle before number (line ∷ more ∷ pieces) xs lawful early h = go (bytes_eq line (codes "end")) refl h (λ x ys e. sends_found t cycle (Some x) (number + 1) (more ∷ pieces) ys lawful early e)
  where
    go : (b : Bool) → bytes_eq line (codes "end") ≡ b
        → cond b (over (number + 1) (more ∷ pieces)) (send_of t cycle before number line >>= λ x. sends_in t cycle (Some x) (number + 1) (more ∷ pieces) >>= λ ys. Ok (x ∷ ys)) ≡ Ok xs
        → ((x : Send) (ys : List Send) → sends_in t cycle (Some x) (number + 1) (more ∷ pieces) ≡ Ok ys → SendsTaken t cycle (Some x) (more ∷ pieces) ys) → SendsTaken t cycle before (line ∷ more ∷ pieces) xs
    go true e r rest =
        let o = over_taken (number + 1) (more ∷ pieces) xs r in
        let made : SendsTaken t cycle before (line ∷ more ∷ pieces) [] = record { lines = ap (λ x. x ∷ more ∷ pieces) (same line (codes "end") e) ∙ ap (λ ps. codes "end" ∷ ps) o.0; holds = refl; small = tt } in
        subst (SendsTaken t cycle before (line ∷ more ∷ pieces)) o.1 made
    go false e r rest =
        let a = bind_ok (send_of t cycle before number line) _ xs r in
        let b = bind_ok (sends_in t cycle (Some a.0) (number + 1) (more ∷ pieces)) _ xs a.2 in
        let s = send_found t cycle before number line a.0 lawful early a.1 in
        let others = rest a.0 b.0 b.1 in
        let made : SendsTaken t cycle before (line ∷ more ∷ pieces) (a.0 ∷ b.0) = record {
          lines = ap (λ x. x ∷ more ∷ pieces) s.is ∙ ap (λ ps. send_line a.0 ∷ ps) others.lines;
          holds = and_from (kept_behind t cycle before a.0) (are_sends t cycle (Some a.0) b.0) s.holds others.holds;
          small = (s.small, others.small);
        } in
        subst (SendsTaken t cycle before (line ∷ more ∷ pieces)) (ok_is (a.0 ∷ b.0) xs b.2) made

-- ---- the state

cut_early : (t : Topology) (cycle : ℕ) → IsTopology t → is_cut t cycle ≡ true → cycle < 2 ^ 64
cut_early t cycle lawful h =
    let a = and_parts _ _ h in
    let b = and_parts _ _ a.1 in
    let below = ltb-true cycle t.limit b.1 in
    let most = lawful.ranges.limit_to in
    omega (arith, below, most)

pub state_found : (r : Rules) (text : List ℕ) (st : StateOf) → IsTopology r.topo → state_of r text ≡ Ok st → IsState r st × (text ≡ state_text st)
unfolding state_of state_lines state_text
state_found r text st lawful h =
    let a = bind_ok (title_at (place 1 (pieces_of text))) _ st h in
    let b = bind_ok (cycle_at r.topo a.0) _ st a.2 in
    let c = bind_ok (nodes_at r b.0.0 0 r.topo.nodes b.0.1) _ st b.2 in
    let d = bind_ok (sends_in r.topo b.0.0 None c.0.1.number c.0.1.pieces) _ st c.2 in
    let tb = cycle_found r.topo a.0 b.0.0 b.0.1 b.1 in
    let tc = nodes_found r b.0.0 0 r.topo.nodes b.0.1 c.0.0 c.0.1 c.1 in
    let td = sends_found r.topo b.0.0 None c.0.1.number c.0.1.pieces d.0 lawful (cut_early r.topo b.0.0 lawful tb.holds) d.1 in
    let made : StateOf = record { cycle = b.0.0; nodes = c.0.0; sends = d.0 } in
    let pieces : pieces_of text ≡ state_lines made ++ [] ∷ [] =
    title_found (place 1 (pieces_of text)) a.0 a.1 ∙ ap (λ x. title ∷ x) (tb.line ∙ ap (λ x. cycle_line b.0.0 ∷ x) (tc.lines ∙ (ap (λ x. nodes_lines 0 c.0.0 ++ x) td.lines ∙ sym (append_assoc (nodes_lines 0 c.0.0) (tail_lines d.0) ([] ∷ []))))) in
    let whole : text ≡ state_text made = sym (join_with_byte-slice_split 10 text) ∙ (ap (join_with_byte 10) pieces ∙ joined (state_lines made)) in
    let holds : IsState r made = record { cycle = tb.holds; count = tc.many; nodes = tc.have; sends = td.holds; send_bytes = td.small } in
    subst (λ s. IsState r s × (text ≡ state_text s)) (ok_is made st d.2) (holds, whole)
