-- What is written is read as what was written.
use Rattle.std.proofs.Common.{◌≡◌, ℕ, zero, suc, ◌+◌, ◌<◌, ◌≤◌, ◌^◌, Bool, true, false, eqb, ltb, List, [], ◌∷◌, ◌++◌, length, map, take, drop, codes, decimal, Option, Some, None, Ok, refl, sym, ap, ◌∙◌, append_assoc, arith}
use Rattle.std.specs.List.{AllByRecursion}
use Rattle.std.specs.Str.{bytes_eq}
use Rattle.std.proofs.Math.Seq.{take-add}
use Rattle.std.proofs.lemmas.Bool.{and_parts, ltb-true, eq-eqb}
use Rattle.std.proofs.lemmas.List.{length-take, length-drop, take-append-drop}
use Rattle.std.proofs.lemmas.Slice.Eq.{bytes_eq-Decides}
use Rattle.hex.specs.Hex.{encode_upper}
use Rattle.air_base.specs.declared.air.Send.{Send}
use Rattle.world_core.specs.Topology.{Topology, IsTopology}
use Rattle.state_text.specs.Parts.{parts_of, line_of, pieces_of}
use Rattle.state_text.specs.Text.{NodeOf, StateOf, numbers_line, bytes_line, node_lines, nodes_lines, send_line, cycle_line, title, tail_lines, state_lines, state_text}
use Rattle.state_text.specs.Bounds.{Rules, HasNode, IsState, is_cut, is_kept, follows, kept_behind, are_sends}
use Rattle.state_text.specs.Reading.{◌>>=◌, place, next_line, behind_word, behind_node, numbers_in, only_bytes, title_at, cycle_at, numbers_at, bytes_at, node_at, nodes_at, send_in, send_of, sends_in, state_of}
use Rattle.state_text.proofs.Loops.{sends_are}
use Rattle.state_text.proofs.Visible.{IsAbove, AreBytes, hex_above, parts_again, line_above, pieces_again}
use Rattle.state_text.proofs.Numerals.{AreWide, decimal_again, decimal_above, decimals_again}
use Rattle.state_text.proofs.HexBytes.{bytes_again}

-- lines, with nothing behind the last
abbrev whole : List (List ℕ) → List (List ℕ)
whole lines = lines ++ [] ∷ []

next_again : (number : ℕ) (line : List ℕ) (lines : List (List ℕ)) → next_line (place number (line ∷ whole lines)) ≡ Ok (line, place (number + 1) (whole lines))
next_again number line [] = refl
next_again number line (l ∷ lines) = refl

self : (a : List ℕ) → bytes_eq a a ≡ true
self a = (bytes_eq-Decides a a).1 refl

abbrev AreVisible : List (List ℕ) → Type 0
AreVisible parts = AllByRecursion (IsAbove 32) parts

word_again : (number : ℕ) (word : List ℕ) (parts : List (List ℕ)) → behind_word number word (word ∷ parts) ≡ Ok parts
unfolding behind_word
word_again number word parts = rw (self word) refl

node_again_word : (number : ℕ) (word : List ℕ) (k : ℕ) (parts : List (List ℕ)) → IsAbove 32 word → k < 2 ^ 64 → AreVisible parts → behind_node number word k (line_of (word ∷ decimal k ∷ parts)) ≡ Ok parts
unfolding behind_node
node_again_word number word k parts hw hk hp =
    ap (λ ps. behind_word number word ps >>= λ rest. behind_word number (decimal k) rest) (parts_again word (decimal k ∷ parts) (hw, (decimal_above k hk, hp)))
    ∙ (ap (λ r. r >>= λ rest. behind_word number (decimal k) rest) (word_again number word (decimal k ∷ parts))
    ∙ word_again number (decimal k) parts)

length_map : (ns : List ℕ) → length (map decimal ns) ≡ length ns
length_map [] = refl
length_map (n ∷ ns) = ap suc (length_map ns)

numbers_read : (number count : ℕ) (ns : List ℕ) → length ns ≡ count → AreWide ns → numbers_in number count (map decimal ns) ≡ Ok ns
unfolding numbers_in
numbers_read number count ns len wide =
    let d = decimals_again ns wide in
    let many : eqb (length (map decimal ns)) count ≡ true = eq-eqb (length (map decimal ns)) count (length_map ns ∙ len) in
    rw (many, d.decimals, d.fit, d.values) refl

numbers_again : (within : List ℕ → Bool) (word : List ℕ) (k count : ℕ) (ns : List ℕ) (number : ℕ) (lines : List (List ℕ)) → IsAbove 32 word → k < 2 ^ 64 → length ns ≡ count → AreWide ns → within ns ≡ true
    → numbers_at within word k count (place number (numbers_line word k ns ∷ whole lines)) ≡ Ok (ns, place (number + 1) (whole lines))
unfolding numbers_at numbers_line
numbers_again within word k count ns number lines hw hk len wide holds =
    rw (next_again number (line_of (word ∷ decimal k ∷ map decimal ns)) lines, node_again_word number word k (map decimal ns) hw hk (decimals_again ns wide).visible, numbers_read number count ns len wide, holds) refl

only_again : (number count : ℕ) (bytes : List ℕ) → length bytes ≡ count → AreBytes bytes → only_bytes number count (encode_upper bytes ∷ []) ≡ Ok bytes
unfolding only_bytes
only_again number count bytes len small = bytes_again number count bytes len small

bytes_at_again : (readable : List ℕ → Bool) (word : List ℕ) (k count : ℕ) (bytes : List ℕ) (number : ℕ) (lines : List (List ℕ)) → IsAbove 32 word → k < 2 ^ 64 → length bytes ≡ count → AreBytes bytes → readable bytes ≡ true
    → bytes_at readable word k count (place number (bytes_line word k bytes ∷ whole lines)) ≡ Ok (bytes, place (number + 1) (whole lines))
unfolding bytes_at bytes_line
bytes_at_again readable word k count bytes number lines hw hk len small holds =
    rw (next_again number (line_of (word ∷ decimal k ∷ encode_upper bytes ∷ [])) lines, node_again_word number word k (encode_upper bytes ∷ []) hw hk (hex_above bytes small, tt), only_again number count bytes len small, holds) refl

wide_take : (n : ℕ) (ns : List ℕ) → AreWide ns → AreWide (take n ns)
wide_take zero ns h = tt
wide_take (suc n) [] h = tt
wide_take (suc n) (x ∷ ns) h = (h.0, wide_take n ns h.1)

wide_drop : (n : ℕ) (ns : List ℕ) → AreWide ns → AreWide (drop n ns)
wide_drop zero ns h = h
wide_drop (suc n) [] h = tt
wide_drop (suc n) (x ∷ ns) h = wide_drop n ns h.1

node_again : (r : Rules) (cycle k : ℕ) (n : NodeOf) (number : ℕ) (lines : List (List ℕ)) → k < 2 ^ 64 → HasNode r cycle n → node_at r cycle k (place number (node_lines k n ++ whole lines)) ≡ Ok (n, place (number + 1 + 1 + 1 + 1 + 1) (whole lines))
unfolding node_at node_lines
node_again r cycle k n number lines hk h =
    let ns = n.numbers in
    let count : length ns ≡ 108 = h.count in
    let l5 = bytes_line (codes "sram") k n.sram ∷ lines in
    let l4 = bytes_line (codes "io") k n.io ∷ l5 in
    let l3 = numbers_line (codes "ports") k (drop 79 ns) ∷ l4 in
    let l2 = numbers_line (codes "timers") k (take 38 (drop 41 ns)) ∷ l3 in
    let s1 = numbers_again r.node.core (codes "core") k 41 (take 41 ns) number l2 refl hk (omega (arith, count, length-take 41 ns)) (wide_take 41 ns h.wide) h.core in
    let s2 = numbers_again r.node.timers (codes "timers") k 38 (take 38 (drop 41 ns)) (number + 1) l3 refl hk (omega (arith, count, length-take 38 (drop 41 ns), length-drop 41 ns)) (wide_take 38 (drop 41 ns) (wide_drop 41 ns h.wide)) h.timers in
    let s3 = numbers_again (r.node.ports cycle (take 41 ns)) (codes "ports") k 29 (drop 79 ns) (number + 1 + 1) l4 refl hk (omega (arith, count, length-drop 79 ns)) (wide_drop 79 ns h.wide) h.ports in
    let s4 = bytes_at_again r.node.io (codes "io") k 224 n.io (number + 1 + 1 + 1) l5 refl hk h.io_count h.io_bytes h.io in
    let s5 = bytes_at_again (λ bytes. true) (codes "sram") k 4096 n.sram (number + 1 + 1 + 1 + 1) lines refl hk h.sram_count h.sram_bytes refl in
    let all : take 41 ns ++ take 38 (drop 41 ns) ++ drop 79 ns ≡ ns = ap (λ xs. xs ++ drop 79 ns) (sym (take-add 41 38 ns)) ∙ take-append-drop 79 ns in
    rw (s1, s2, s3, s4, s5, all) refl

record NodesAgain (r : Rules) (cycle k count number : ℕ) (ns : List NodeOf) (lines : List (List ℕ)) : Type 0 where
  next : ℕ
  are : nodes_at r cycle k count (place number (nodes_lines k ns ++ whole lines)) ≡ Ok (ns, place next (whole lines))

nodes_again : (r : Rules) (cycle k count : ℕ) (ns : List NodeOf) (number : ℕ) (lines : List (List ℕ)) → k + count ≤ 64 → length ns ≡ count → AllByRecursion (HasNode r cycle) ns → NodesAgain r cycle k count number ns lines
unfolding nodes_at
nodes_again r cycle k zero [] number lines few len have = record { next = number; are = refl }
nodes_again r cycle k zero (n ∷ ns) number lines few len have = absurd (omega arith)
nodes_again r cycle k (suc count) [] number lines few len have = absurd (omega arith)
nodes_again r cycle k (suc count) (n ∷ ns) number lines few len have =
    let one : node_at r cycle k (place number (node_lines k n ++ whole (nodes_lines (k + 1) ns ++ lines))) ≡ Ok (n, place (number + 1 + 1 + 1 + 1 + 1) (whole (nodes_lines (k + 1) ns ++ lines))) =
    node_again r cycle k n number (nodes_lines (k + 1) ns ++ lines) (omega arith) have.0 in
    let others = nodes_again r cycle (k + 1) count ns (number + 1 + 1 + 1 + 1 + 1) lines (omega arith) (omega (arith, len)) have.1 in
    let inner : whole (nodes_lines (k + 1) ns ++ lines) ≡ nodes_lines (k + 1) ns ++ whole lines = append_assoc (nodes_lines (k + 1) ns) lines ([] ∷ []) in
    let here : node_at r cycle k (place number (nodes_lines k (n ∷ ns) ++ whole lines)) ≡ Ok (n, place (number + 1 + 1 + 1 + 1 + 1) (nodes_lines (k + 1) ns ++ whole lines)) =
    ap (λ x. node_at r cycle k (place number x)) (append_assoc (node_lines k n) (nodes_lines (k + 1) ns) (whole lines) ∙ ap (λ x. node_lines k n ++ x) (sym inner))
    ∙ (one ∙ ap (λ x. Ok (n, place (number + 1 + 1 + 1 + 1 + 1) x)) inner) in
    record { next = others.next; are = rw (here, others.are) refl }

-- ---- sends

send_again : (t : Topology) (cycle : ℕ) (before : Option Send) (number : ℕ) (x : Send) → IsTopology t → cycle < 2 ^ 64 → kept_behind t cycle before x ≡ true → x.byte < 256 → send_of t cycle before number (send_line x) ≡ Ok x
unfolding send_of send_in send_line
send_again t cycle before number x lawful early holds small =
    let bounds = and_parts (is_kept t cycle x) (follows before x) holds in
    let node = and_parts (ltb x.node t.nodes) _ bounds.0 in
    let at = and_parts (ltb x.cycle cycle) _ node.1 in
    let below = ltb-true x.node t.nodes node.0 in
    let sooner = ltb-true x.cycle cycle at.0 in
    let most = lawful.ranges.nodes_to in
    let wide_node : x.node < 2 ^ 64 = omega (arith, below, most) in
    let wide_cycle : x.cycle < 2 ^ 64 = omega (arith, sooner, early) in
    let n = decimal_again x.node wide_node in
    let c = decimal_again x.cycle wide_cycle in
    let parts : parts_of (line_of (codes "send" ∷ decimal x.node ∷ decimal x.cycle ∷ encode_upper (x.byte ∷ []) ∷ [])) ≡ codes "send" ∷ decimal x.node ∷ decimal x.cycle ∷ encode_upper (x.byte ∷ []) ∷ [] =
    parts_again (codes "send") (decimal x.node ∷ decimal x.cycle ∷ encode_upper (x.byte ∷ []) ∷ []) (refl, (decimal_above x.node wide_node, (decimal_above x.cycle wide_cycle, (hex_above (x.byte ∷ []) (small, tt), tt)))) in
    rw (parts, word_again number (codes "send") (decimal x.node ∷ decimal x.cycle ∷ encode_upper (x.byte ∷ []) ∷ []), n.0, c.0, bytes_again number 1 (x.byte ∷ []) refl (small, tt), n.1, c.1, holds) refl

no_end : (x : Send) → bytes_eq (send_line x) (codes "end") ≡ false
unfolding send_line
no_end x = refl

sends_again : (t : Topology) (cycle : ℕ) (before : Option Send) (number : ℕ) (xs : List Send) → IsTopology t → cycle < 2 ^ 64 → are_sends t cycle before xs ≡ true → AllByRecursion (λ (x : Send). x.byte < 256) xs → sends_in t cycle before number (whole (tail_lines xs)) ≡ Ok xs
unfolding sends_in
sends_again t cycle before number [] lawful early holds small = refl
sends_again t cycle before number (x ∷ xs) lawful early holds small =
    let both = and_parts (kept_behind t cycle before x) (are_sends t cycle (Some x) xs) holds in
    sends_are t cycle before number (send_line x ∷ whole (tail_lines xs))
    ∙ rw (next_again number (send_line x) (tail_lines xs), no_end x, send_again t cycle before number x lawful early both.0 small.0, sends_again t cycle (Some x) (number + 1) xs lawful early both.1 small.1) refl

-- ---- the state

abbrev AreLines : List (List ℕ) → Type 0
AreLines lines = AllByRecursion (IsAbove 10) lines

lines_append : (a b : List (List ℕ)) → AreLines a → AreLines b → AreLines (a ++ b)
lines_append [] b h k = k
lines_append (x ∷ a) b h k = (h.0, lines_append a b h.1 k)

node_are : (r : Rules) (cycle k : ℕ) (n : NodeOf) → k < 2 ^ 64 → HasNode r cycle n → AreLines (node_lines k n)
unfolding node_lines numbers_line bytes_line
node_are r cycle k n hk h =
    let d = decimal_above k hk in
    let numbers = λ (ns : List ℕ) (w : AreWide ns). (decimals_again ns w).visible in (
      line_above (codes "core" ∷ decimal k ∷ map decimal (take 41 n.numbers)) (refl, (d, numbers (take 41 n.numbers) (wide_take 41 n.numbers h.wide))),
      (
        line_above (codes "timers" ∷ decimal k ∷ map decimal (take 38 (drop 41 n.numbers))) (refl, (d, numbers (take 38 (drop 41 n.numbers)) (wide_take 38 (drop 41 n.numbers) (wide_drop 41 n.numbers h.wide)))),
        (
          line_above (codes "ports" ∷ decimal k ∷ map decimal (drop 79 n.numbers)) (refl, (d, numbers (drop 79 n.numbers) (wide_drop 79 n.numbers h.wide))),
          (
            line_above (codes "io" ∷ decimal k ∷ encode_upper n.io ∷ []) (refl, (d, (hex_above n.io h.io_bytes, tt))),
            (line_above (codes "sram" ∷ decimal k ∷ encode_upper n.sram ∷ []) (refl, (d, (hex_above n.sram h.sram_bytes, tt))), tt),
          ),
        ),
      ),
    )

nodes_are : (r : Rules) (cycle k : ℕ) (ns : List NodeOf) → k + length ns ≤ 64 → AllByRecursion (HasNode r cycle) ns → AreLines (nodes_lines k ns)
nodes_are r cycle k [] few h = tt
nodes_are r cycle k (n ∷ ns) few h = lines_append (node_lines k n) (nodes_lines (k + 1) ns) (node_are r cycle k n (omega arith) h.0) (nodes_are r cycle (k + 1) ns (omega arith) h.1)

send_is : (t : Topology) (cycle : ℕ) (before : Option Send) (x : Send) → IsTopology t → cycle < 2 ^ 64 → kept_behind t cycle before x ≡ true → x.byte < 256 → IsAbove 10 (send_line x)
unfolding send_line
send_is t cycle before x lawful early holds small =
    let bounds = and_parts (is_kept t cycle x) (follows before x) holds in
    let node = and_parts (ltb x.node t.nodes) _ bounds.0 in
    let at = and_parts (ltb x.cycle cycle) _ node.1 in
    let below = ltb-true x.node t.nodes node.0 in
    let sooner = ltb-true x.cycle cycle at.0 in
    let most = lawful.ranges.nodes_to in
    line_above (codes "send" ∷ decimal x.node ∷ decimal x.cycle ∷ encode_upper (x.byte ∷ []) ∷ []) (refl, (decimal_above x.node (omega (arith, below, most)), (decimal_above x.cycle (omega (arith, sooner, early)), (hex_above (x.byte ∷ []) (small, tt), tt))))

tail_are : (t : Topology) (cycle : ℕ) (before : Option Send) (xs : List Send) → IsTopology t → cycle < 2 ^ 64 → are_sends t cycle before xs ≡ true → AllByRecursion (λ (x : Send). x.byte < 256) xs → AreLines (tail_lines xs)
tail_are t cycle before [] lawful early holds small = (refl, tt)
tail_are t cycle before (x ∷ xs) lawful early holds small =
    let both = and_parts (kept_behind t cycle before x) (are_sends t cycle (Some x) xs) holds in
    (send_is t cycle before x lawful early both.0 small.0, tail_are t cycle (Some x) xs lawful early both.1 small.1)

cut_early : (t : Topology) (cycle : ℕ) → IsTopology t → is_cut t cycle ≡ true → cycle < 2 ^ 64
cut_early t cycle lawful h =
    let a = and_parts _ _ h in
    let b = and_parts _ _ a.1 in
    let below = ltb-true cycle t.limit b.1 in
    let most = lawful.ranges.limit_to in
    omega (arith, below, most)

title_again : (lines : List (List ℕ)) → title_at (place 1 (title ∷ whole lines)) ≡ Ok (place 2 (whole lines))
unfolding title_at
title_again lines = rw (next_again 1 title lines) refl

cycle_again : (t : Topology) (cycle : ℕ) (lines : List (List ℕ)) → cycle < 2 ^ 64 → is_cut t cycle ≡ true → cycle_at t (place 2 (cycle_line cycle ∷ whole lines)) ≡ Ok (cycle, place 3 (whole lines))
unfolding cycle_at cycle_line
cycle_again t cycle lines early holds =
    rw (next_again 2 (line_of (codes "cycle" ∷ decimal cycle ∷ [])) lines, parts_again (codes "cycle") (decimal cycle ∷ []) (refl, (decimal_above cycle early, tt)), word_again 2 (codes "cycle") (decimal cycle ∷ []), numbers_read 2 1 (cycle ∷ []) refl (early, tt), holds) refl

pub state_again : (r : Rules) (st : StateOf) → IsTopology r.topo → IsState r st → state_of r (state_text st) ≡ Ok st
unfolding state_of state_text state_lines cycle_line
state_again r st lawful h =
    let early = cut_early r.topo st.cycle lawful h.cycle in
    let most = lawful.ranges.nodes_to in
    let count = h.count in
    let tail = tail_lines st.sends in
    let nodes = nodes_lines 0 st.nodes in
    let are : AreLines (state_lines st) = (refl, (line_above (codes "cycle" ∷ decimal st.cycle ∷ []) (refl, (decimal_above st.cycle early, tt)), lines_append nodes tail (nodes_are r st.cycle 0 st.nodes (omega (arith, most, count)) h.nodes) (tail_are r.topo st.cycle None st.sends lawful early h.sends h.send_bytes))) in
    let pieces : pieces_of (state_text st) ≡ title ∷ whole (cycle_line st.cycle ∷ (nodes ++ tail)) = pieces_again (state_lines st) are in
    let n = nodes_again r st.cycle 0 r.topo.nodes st.nodes 3 tail (omega (arith, most)) h.count h.nodes in
    let grouped : whole (nodes ++ tail) ≡ nodes ++ whole tail = append_assoc nodes tail ([] ∷ []) in
    let read : nodes_at r st.cycle 0 r.topo.nodes (place 3 (whole (nodes ++ tail))) ≡ Ok (st.nodes, place n.next (whole tail)) = ap (λ x. nodes_at r st.cycle 0 r.topo.nodes (place 3 x)) grouped ∙ n.are in
    rw (pieces, title_again (cycle_line st.cycle ∷ (nodes ++ tail)), cycle_again r.topo st.cycle (nodes ++ tail) early h.cycle, read, sends_again r.topo st.cycle None n.next st.sends lawful early h.sends h.send_bytes) refl
