-- How long the text of a state is.
use Rattle.std.proofs.Common.{◌≡◌, ℕ, zero, suc, ◌+◌, ◌*◌, ◌^◌, ◌<◌, ◌≤◌, List, [], ◌∷◌, ◌++◌, length, map, take, drop, refl, arith, lit≤}
use Rattle.std.specs.Prelude.{codes, decimal}
use Rattle.std.specs.List.{All, AllByRecursion, flat_map}
use Rattle.std.proofs.lemmas.Fmt.{length-decimal-le}
use Rattle.std.proofs.lemmas.List.{length-append, length-take, length-drop}
use Rattle.std.proofs.lemmas.List.Elements.{All-head, All-tail}
use Rattle.hex.specs.Hex.{encode_upper, upper_digits}
use Rattle.hex.proofs.HexLemmas.{length-encode_with}
use Rattle.air_base.specs.declared.air.Send.{Send}
use Rattle.state_text.specs.Bounds.{HasNode, Rules}
use Rattle.state_text.specs.Parts.{ended, line_of}
use Rattle.state_text.specs.Text.{NodeOf, StateOf, bytes_line, cycle_line, node_lines, nodes_lines, numbers_line, send_line, state_lines, state_text, tail_lines, title}
use Rattle.command_plans.specs.declared.files.TheConstants.{MOST_STATE_BYTES}

-- ---- lines
-- with the LF at the end of each
abbrev size : List (List ℕ) → ℕ
size [] = 0
size (line ∷ lines) = length line + 1 + size lines

size_is : (lines : List (List ℕ)) → length (flat_map ended lines) ≡ size lines
size_is [] = refl
size_is (line ∷ lines) =
    let a = length-append (ended line) (flat_map ended lines) in
    let b = length-append line (10 ∷ []) in
    let rest = size_is lines in
    omega (arith, a, b, rest)

size_both : (xs ys : List (List ℕ)) → size (xs ++ ys) ≡ size xs + size ys
size_both [] ys = omega arith
size_both (x ∷ xs) ys = let rest = size_both xs ys in omega (arith, rest)

-- parts behind a space each
abbrev spread : List (List ℕ) → ℕ
spread [] = 0
spread (part ∷ parts) = 1 + length part + spread parts

line_is : (part : List ℕ) (parts : List (List ℕ)) → length (line_of (part ∷ parts)) ≡ length part + spread parts
line_is part [] = omega arith
line_is part (next ∷ parts) =
    let a = length-append part (32 ∷ line_of (next ∷ parts)) in
    let rest = line_is next parts in
    omega (arith, a, rest)

-- ---- numbers and bytes
abbrev IsWord : ℕ → Type 0
IsWord n = n < 2 ^ 64

short : (n : ℕ) → IsWord n → length (decimal n) ≤ 20
short n small = length-decimal-le 20 n (omega arith) (omega arith) small

spread_numbers : (ns : List ℕ) → AllByRecursion IsWord ns → spread (map decimal ns) ≤ 21 * length ns
spread_numbers [] all = omega arith
spread_numbers (n ∷ ns) all =
    let one = short n all.0 in
    let rest = spread_numbers ns all.1 in
    omega (arith, one, rest)

taken : (n : ℕ) (xs : List ℕ) → AllByRecursion IsWord xs → AllByRecursion IsWord (take n xs)
taken zero xs all = tt
taken (suc n) [] all = tt
taken (suc n) (x ∷ xs) all = (all.0, taken n xs all.1)

dropped : (n : ℕ) (xs : List ℕ) → AllByRecursion IsWord xs → AllByRecursion IsWord (drop n xs)
dropped zero xs all = all
dropped (suc n) [] all = tt
dropped (suc n) (x ∷ xs) all = dropped n xs all.1

numbers_short : (word : List ℕ) (k : ℕ) (ns : List ℕ) → length word ≤ 6 → IsWord k → AllByRecursion IsWord ns → length (numbers_line word k ns) ≤ 27 + 21 * length ns
unfolding numbers_line
numbers_short word k ns few small all =
    let line = line_is word (decimal k ∷ map decimal ns) in
    let number = short k small in
    let rest = spread_numbers ns all in
    omega (arith, line, number, rest)

bytes_short : (word : List ℕ) (k : ℕ) (bytes : List ℕ) → length word ≤ 4 → IsWord k → length (bytes_line word k bytes) ≤ 26 + 2 * length bytes
unfolding bytes_line
bytes_short word k bytes few small =
    let line = line_is word (decimal k ∷ encode_upper bytes ∷ []) in
    let number = short k small in
    let digits = length-encode_with upper_digits bytes in
    omega (arith, line, number, digits)

-- ---- a node
node_short : (r : Rules) (cycle k : ℕ) (n : NodeOf) → IsWord k → HasNode r cycle n → size (node_lines k n) ≤ 11046
unfolding node_lines
node_short r cycle k n small has =
    let ns = n.numbers in
    let wide = has.wide in
    let core = numbers_short (codes "core") k (take 41 ns) (lit≤ tt) small (taken 41 ns wide) in
    let timers = numbers_short (codes "timers") k (take 38 (drop 41 ns)) (lit≤ tt) small (taken 38 (drop 41 ns) (dropped 41 ns wide)) in
    let ports = numbers_short (codes "ports") k (drop 79 ns) (lit≤ tt) small (dropped 79 ns wide) in
    let io = bytes_short (codes "io") k n.io (lit≤ tt) small in
    let sram = bytes_short (codes "sram") k n.sram (lit≤ tt) small in
    let a = length-take 41 ns in
    let b = length-take 38 (drop 41 ns) in
    let c = length-drop 79 ns in
    let count = has.count in
    let io_count = has.io_count in
    let sram_count = has.sram_count in
    omega (arith, core, timers, ports, io, sram, a, b, c, count, io_count, sram_count)

nodes_short : (r : Rules) (cycle k : ℕ) (ns : List NodeOf) → k + length ns ≤ 64 → AllByRecursion (HasNode r cycle) ns → size (nodes_lines k ns) ≤ 11046 * length ns
nodes_short r cycle k [] few all = omega arith
nodes_short r cycle k (n ∷ ns) few all =
    let both = size_both (node_lines k n) (nodes_lines (k + 1) ns) in
    let one = node_short r cycle k n (omega arith) all.0 in
    let rest = nodes_short r cycle (k + 1) ns (omega arith) all.1 in
    omega (arith, both, one, rest)

-- ---- the sends
abbrev IsSmall : Send → Type 0
IsSmall x = IsWord x.node × IsWord x.cycle

send_short : (x : Send) → IsSmall x → length (send_line x) ≤ 49
unfolding send_line
send_short x small =
    let line = line_is (codes "send") (decimal x.node ∷ decimal x.cycle ∷ encode_upper (x.byte ∷ []) ∷ []) in
    let word : length (codes "send") ≡ 4 = refl in
    let node = short x.node small.0 in
    let cycle = short x.cycle small.1 in
    let digits = length-encode_with upper_digits (x.byte ∷ []) in
    omega (arith, line, word, node, cycle, digits)

sends_short : (xs : List Send) → All IsSmall xs → size (map send_line xs) ≤ 50 * length xs
sends_short [] all = omega arith
sends_short (x ∷ xs) all =
    let one = send_short x (All-head IsSmall x xs all) in
    let rest = sends_short xs (All-tail IsSmall x xs all) in
    omega (arith, one, rest)

tail_short : (xs : List Send) → All IsSmall xs → size (tail_lines xs) ≤ 50 * length xs + 4
tail_short xs all =
    let both = size_both (map send_line xs) (codes "end" ∷ []) in
    let word : size (codes "end" ∷ []) ≡ 4 = refl in
    let sends = sends_short xs all in
    omega (arith, both, word, sends)

-- ---- the whole
cycle_short : (cycle : ℕ) → IsWord cycle → length (cycle_line cycle) ≤ 26
unfolding cycle_line
cycle_short cycle small =
    let line = line_is (codes "cycle") (decimal cycle ∷ []) in
    let word : length (codes "cycle") ≡ 5 = refl in
    let number = short cycle small in
    omega (arith, line, word, number)

-- so the text of a state of at most 64 nodes and as many sends as can be kept is a third of what is read
pub text_short : (r : Rules) (st : StateOf) → length st.nodes ≤ 64 → AllByRecursion (HasNode r st.cycle) st.nodes → IsWord st.cycle → All IsSmall st.sends → length st.sends ≤ 16448
    → length (state_text st) ≤ MOST_STATE_BYTES
unfolding state_text state_lines
text_short r st few nodes cycle sends count =
    let is = size_is (title ∷ cycle_line st.cycle ∷ (nodes_lines 0 st.nodes ++ tail_lines st.sends)) in
    let head : length title ≡ 14 = refl in
    let second = cycle_short st.cycle cycle in
    let both = size_both (nodes_lines 0 st.nodes) (tail_lines st.sends) in
    let body = nodes_short r st.cycle 0 st.nodes (omega arith) nodes in
    let tail = tail_short st.sends sends in
    omega (arith, is, head, second, both, body, tail)
