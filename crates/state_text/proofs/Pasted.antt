-- The pieces of which a state's text is put together.
use Rattle.std.proofs.Common.{◌≡◌, ℕ, zero, suc, ◌+◌, ◌<◌, ◌/◌, ◌%◌, true, eqb, List, [], ◌∷◌, ◌++◌, length, map, take, get_or, codes, decimal, refl, sym, ap, ◌∙◌, append_assoc, arith}
use Rattle.std.specs.List.{AllByRecursion, flat_map}
use Rattle.std.specs.Prelude.{slice_index, drop}
use Rattle.std.specs.Fmt.{digit_glyph}
use Rattle.std.proofs.lemmas.Bool.{agree_below_at, eqb-true}
use Rattle.std.proofs.lemmas.Grind.{flat_map-append}
use Rattle.std.proofs.lemmas.List.{append-nil, take_more}
use Rattle.std.proofs.lemmas.List.Folds.{flat_map-map}
use Rattle.hex.specs.Hex.{encode_with, encode_upper, upper_digits}
use Rattle.sim_io.specs.Digits.{hex2}
use Rattle.air_base.specs.declared.air.Send.{Send}
use Rattle.state_text.specs.Parts.{line_of, ended}
use Rattle.state_text.specs.Text.{NodeOf, StateOf, numbers_line, bytes_line, node_lines, nodes_lines, send_line, cycle_line, tail_lines, state_lines, state_text}
use Rattle.state_text.specs.Writing.{IsSized, head, node_of, numbers_text, spaced}

-- ---- loops

-- one piece more of a list
pub flat_more : {A : Type 0} (f : A → List ℕ) (xs : List A) (i : ℕ) (d : A) → i < length xs → flat_map f (take i xs) ++ f (get_or xs i d) ≡ flat_map f (take (i + 1) xs)
flat_more f xs i d h =
    let last : f (get_or xs i d) ≡ flat_map f (get_or xs i d ∷ []) = sym (append-nil (f (get_or xs i d))) in
    ap (λ s. flat_map f (take i xs) ++ s) last
    ∙ (sym (flat_map-append f (take i xs) (get_or xs i d ∷ [])) ∙ ap (flat_map f) (sym (take_more xs i d h)))

glyph_same : (d : ℕ) → d < 16 → digit_glyph true d ≡ slice_index upper_digits d
glyph_same d lt = eqb-true (digit_glyph true d) (slice_index upper_digits d) (agree_below_at (λ n. eqb (digit_glyph true n) (slice_index upper_digits n)) (λ n. true) 16 d refl lt)

-- the digits of a byte
pub hex_one : (b : ℕ) → b < 256 → hex2 b ≡ encode_upper (b ∷ [])
unfolding hex2 encode_with
hex_one b lt =
    let high = glyph_same (b / 16) (omega (arith, lt)) in
    let low = glyph_same (b % 16) (omega (arith, lt)) in
    ap (λ x. x ∷ digit_glyph true (b % 16) ∷ []) high ∙ ap (λ x. slice_index upper_digits (b / 16) ∷ x ∷ []) low

hex_append : (a b : List ℕ) → encode_upper (a ++ b) ≡ encode_upper a ++ encode_upper b
unfolding encode_with
hex_append [] b = refl
hex_append (x ∷ a) b = ap (λ s. slice_index upper_digits (x / 16) ∷ slice_index upper_digits (x % 16) ∷ s) (hex_append a b)

-- one byte more
pub hex_more : (bytes : List ℕ) (i x : ℕ) → i < length bytes → x ≡ slice_index bytes i → x < 256 → encode_upper (take i bytes) ++ hex2 x ≡ encode_upper (take (i + 1) bytes)
hex_more bytes i x h e lt =
    ap (λ s. encode_upper (take i bytes) ++ s) (hex_one x lt)
    ∙ (sym (hex_append (take i bytes) (x ∷ []))
    ∙ ap encode_upper (ap (λ y. take i bytes ++ y ∷ []) e ∙ sym (take_more bytes i 0 h)))

nodes_from : (j : ℕ) (ns : List NodeOf) (i : ℕ) (d : NodeOf) → i < length ns → flat_map ended (nodes_lines j (take i ns)) ++ flat_map ended (node_lines (j + i) (get_or ns i d)) ≡ flat_map ended (nodes_lines j (take (i + 1) ns))
nodes_from j [] i d h = absurd (omega arith)
nodes_from j (n ∷ ns) zero d h =
    let zero_more : j + 0 ≡ j = omega arith in
    ap (λ k. flat_map ended (node_lines k n)) zero_more ∙ sym (ap (flat_map ended) (append-nil (node_lines j n)))
nodes_from j (n ∷ ns) (suc i) d h =
    let rest = nodes_from (j + 1) ns i d (omega arith) in
    let place : j + suc i ≡ j + 1 + i = omega arith in
    let front = flat_map ended (node_lines j n) in
    let here : flat_map ended (nodes_lines j (take (suc i) (n ∷ ns))) ≡ front ++ flat_map ended (nodes_lines (j + 1) (take i ns)) = flat_map-append ended (node_lines j n) (nodes_lines (j + 1) (take i ns)) in
    let longer : suc i + 1 ≡ suc (i + 1) = omega arith in
    let there : flat_map ended (nodes_lines j (take (suc i + 1) (n ∷ ns))) ≡ front ++ flat_map ended (nodes_lines (j + 1) (take (i + 1) ns)) =
    ap (λ m. flat_map ended (nodes_lines j (take m (n ∷ ns)))) longer ∙ flat_map-append ended (node_lines j n) (nodes_lines (j + 1) (take (i + 1) ns)) in
    ap (λ s. s ++ flat_map ended (node_lines (j + suc i) (get_or ns i d))) here
    ∙ (append_assoc front (flat_map ended (nodes_lines (j + 1) (take i ns))) (flat_map ended (node_lines (j + suc i) (get_or ns i d)))
    ∙ (ap (λ k. front ++ (flat_map ended (nodes_lines (j + 1) (take i ns)) ++ flat_map ended (node_lines k (get_or ns i d)))) place
    ∙ (ap (λ s. front ++ s) rest ∙ sym there)))

-- one node more
pub nodes_more : (ns : List NodeOf) (i : ℕ) → i < length ns → flat_map ended (nodes_lines 0 (take i ns)) ++ flat_map ended (node_lines i (node_of ns i)) ≡ flat_map ended (nodes_lines 0 (take (i + 1) ns))
nodes_more ns i h =
    let place : 0 + i ≡ i = omega arith in
    ap (λ k. flat_map ended (nodes_lines 0 (take i ns)) ++ flat_map ended (node_lines k (node_of ns i))) (sym place) ∙ nodes_from 0 ns i (record { numbers = []; io = []; sram = [] }) h

pub sized_at : (ns : List NodeOf) (i : ℕ) → AllByRecursion IsSized ns → i < length ns → IsSized (node_of ns i)
sized_at [] i all h = absurd (omega arith)
sized_at (n ∷ ns) zero all h = all.0
sized_at (n ∷ ns) (suc i) all h = sized_at ns i all.1 (omega arith)

-- ---- lines

-- parts behind the first
parts_behind : (p : List ℕ) (ps : List (List ℕ)) → line_of (p ∷ ps) ≡ p ++ flat_map spaced ps
parts_behind p [] = sym (append-nil p)
parts_behind p (q ∷ ps) = ap (λ s. p ++ 32 ∷ s) (parts_behind q ps)

pub numbers_pasted : (word : List ℕ) (k : ℕ) (ns : List ℕ) → head word k ++ (flat_map (λ n. spaced (decimal n)) ns ++ codes "\n") ≡ ended (numbers_line word k ns)
unfolding numbers_line
numbers_pasted word k ns =
    let spread : flat_map spaced (map decimal ns) ≡ flat_map (λ n. spaced (decimal n)) ns = flat_map-map spaced decimal ns in
    let line : line_of (word ∷ decimal k ∷ map decimal ns) ≡ word ++ (spaced (decimal k) ++ flat_map (λ n. spaced (decimal n)) ns) =
    parts_behind word (decimal k ∷ map decimal ns) ∙ ap (λ s. word ++ (spaced (decimal k) ++ s)) spread in
    sym (append_assoc (head word k) (flat_map (λ n. spaced (decimal n)) ns) (10 ∷ []))
    ∙ ap ended (append_assoc word (spaced (decimal k)) (flat_map (λ n. spaced (decimal n)) ns) ∙ sym line)

pub send_pasted : (x : Send) → x.byte < 256 → head (codes "send") x.node ++ (spaced (decimal x.cycle) ++ (codes " " ++ (hex2 x.byte ++ codes "\n"))) ≡ ended (send_line x)
unfolding send_line
send_pasted x lt =
    let line : line_of (codes "send" ∷ decimal x.node ∷ decimal x.cycle ∷ encode_upper (x.byte ∷ []) ∷ []) ≡ codes "send" ++ (spaced (decimal x.node) ++ (spaced (decimal x.cycle) ++ spaced (encode_upper (x.byte ∷ [])))) =
    parts_behind (codes "send") (decimal x.node ∷ decimal x.cycle ∷ encode_upper (x.byte ∷ []) ∷ [])
    ∙ ap (λ s. codes "send" ++ (spaced (decimal x.node) ++ (spaced (decimal x.cycle) ++ s))) (append-nil (spaced (encode_upper (x.byte ∷ [])))) in
    ap (λ s. head (codes "send") x.node ++ (spaced (decimal x.cycle) ++ (codes " " ++ (s ++ codes "\n")))) (hex_one x.byte lt)
    ∙ (ap (λ s. head (codes "send") x.node ++ s) (sym (append_assoc (spaced (decimal x.cycle)) (spaced (encode_upper (x.byte ∷ []))) (10 ∷ [])))
    ∙ (sym (append_assoc (head (codes "send") x.node) (spaced (decimal x.cycle) ++ spaced (encode_upper (x.byte ∷ []))) (10 ∷ []))
    ∙ ap ended (append_assoc (codes "send") (spaced (decimal x.node)) (spaced (decimal x.cycle) ++ spaced (encode_upper (x.byte ∷ []))) ∙ sym line)))

-- a line of bytes, and what stands behind it
bytes_pasted : (word : List ℕ) (k : ℕ) (bytes rest : List ℕ) → head word k ++ (codes " " ++ (encode_upper bytes ++ (10 ∷ rest))) ≡ ended (bytes_line word k bytes) ++ rest
unfolding bytes_line
bytes_pasted word k bytes rest =
    let digits = encode_upper bytes in
    let line : line_of (word ∷ decimal k ∷ digits ∷ []) ≡ head word k ++ spaced digits =
    parts_behind word (decimal k ∷ digits ∷ [])
    ∙ (ap (λ s. word ++ (spaced (decimal k) ++ s)) (append-nil (spaced digits))
    ∙ sym (append_assoc word (spaced (decimal k)) (spaced digits))) in
    sym (append_assoc (head word k) (spaced digits) (10 ∷ rest))
    ∙ (ap (λ s. s ++ 10 ∷ rest) (sym line)
    ∙ sym (append_assoc (line_of (word ∷ decimal k ∷ digits ∷ [])) (10 ∷ []) rest))

pub node_pasted : (k : ℕ) (n : NodeOf) (ns : List ℕ) → ns ≡ n.numbers
    → numbers_text k ns ++ (head (codes "io") k ++ (codes " " ++ (encode_upper n.io ++ (head (codes "\nsram") k ++ (codes " " ++ (encode_upper n.sram ++ codes "\n"))))))
    ≡ flat_map ended (node_lines k n)
unfolding node_lines
node_pasted k n ns e =
    let core = ended (numbers_line (codes "core") k (take 41 n.numbers)) in
    let timers = ended (numbers_line (codes "timers") k (take 38 (drop 41 n.numbers))) in
    let ports = ended (numbers_line (codes "ports") k (drop 79 n.numbers)) in
    let sram : head (codes "sram") k ++ (codes " " ++ (encode_upper n.sram ++ codes "\n")) ≡ ended (bytes_line (codes "sram") k n.sram) ++ [] = bytes_pasted (codes "sram") k n.sram [] in
    let bytes : head (codes "io") k ++ (codes " " ++ (encode_upper n.io ++ (head (codes "\nsram") k ++ (codes " " ++ (encode_upper n.sram ++ codes "\n"))))) ≡ ended (bytes_line (codes "io") k n.io) ++ (ended (bytes_line (codes "sram") k n.sram) ++ []) =
    bytes_pasted (codes "io") k n.io (head (codes "sram") k ++ (codes " " ++ (encode_upper n.sram ++ codes "\n")))
    ∙ ap (λ s. ended (bytes_line (codes "io") k n.io) ++ s) sram in
    let rest = ended (bytes_line (codes "io") k n.io) ++ (ended (bytes_line (codes "sram") k n.sram) ++ []) in
    ap (λ m. numbers_text k m ++ (head (codes "io") k ++ (codes " " ++ (encode_upper n.io ++ (head (codes "\nsram") k ++ (codes " " ++ (encode_upper n.sram ++ codes "\n"))))))) e
    ∙ (ap (λ s. numbers_text k n.numbers ++ s) bytes
    ∙ (append_assoc core (timers ++ ports) rest ∙ ap (λ s. core ++ s) (append_assoc timers ports rest)))

-- ---- the text

pub state_pasted : (st : StateOf) → codes "avrora state 1\ncycle" ++ (spaced (decimal st.cycle) ++ (codes "\n" ++ (flat_map ended (nodes_lines 0 st.nodes) ++ (flat_map (λ x. ended (send_line x)) st.sends ++ codes "end\n")))) ≡ state_text st
unfolding state_text state_lines cycle_line
state_pasted st =
    let nodes = nodes_lines 0 st.nodes in
    let tail : flat_map ended (tail_lines st.sends) ≡ flat_map (λ x. ended (send_line x)) st.sends ++ codes "end\n" =
    flat_map-append ended (map send_line st.sends) (codes "end" ∷ [])
    ∙ ap (λ s. s ++ codes "end\n") (flat_map-map ended send_line st.sends) in
    let rest : flat_map ended (nodes ++ tail_lines st.sends) ≡ flat_map ended nodes ++ (flat_map (λ x. ended (send_line x)) st.sends ++ codes "end\n") =
    flat_map-append ended nodes (tail_lines st.sends) ∙ ap (λ s. flat_map ended nodes ++ s) tail in
    ap (λ s. codes "avrora state 1\ncycle" ++ (spaced (decimal st.cycle) ++ (codes "\n" ++ s))) (sym rest)
    ∙ ap (λ s. codes "avrora state 1\ncycle" ++ s) (sym (append_assoc (spaced (decimal st.cycle)) (10 ∷ []) (flat_map ended (nodes ++ tail_lines st.sends))))
