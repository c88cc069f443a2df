-- What the functions of the writer append, of what those below them did.
use Rattle.std.proofs.Common.{◌≡◌, ℕ, ◌+◌, ◌<◌, ◌≤◌, List, length, take, drop, get_or, codes, decimal, ap, subst, ◌∙◌}
use Rattle.std.specs.List.{flat_map}
use Rattle.std.specs.Prelude.{slice_index}
use Rattle.std.proofs.lemmas.List.{drop-drop, take_all}
use Rattle.hex.specs.Hex.{encode_upper}
use Rattle.sim_io.specs.Digits.{hex2}
use Rattle.air_base.specs.declared.air.Send.{Send}
use Rattle.state_text.specs.Parts.{ended}
use Rattle.state_text.specs.Text.{NodeOf, StateOf, numbers_line, node_lines, nodes_lines, send_line, state_text}
use Rattle.state_text.specs.Writing.{Out, IsPut, head, node_of, numbers_text, spaced}
use Rattle.state_text.proofs.Pasted.{flat_more, hex_more, node_pasted, nodes_more, numbers_pasted, send_pasted, state_pasted}
use Rattle.state_text.proofs.Put.{put_more}

as_text : (a b : List ℕ) (o p : Out) → a ≡ b → IsPut a o p → IsPut b o p
as_text a b o p e h = subst (λ t. IsPut t o p) e h

-- ---- loops

pub put_flat : {A : Type 0} (f : A → List ℕ) (xs : List A) (i : ℕ) (d : A) (o p q : Out) → i < length xs → IsPut (flat_map f (take i xs)) o p → IsPut (f (get_or xs i d)) p q → IsPut (flat_map f (take (i + 1) xs)) o q
put_flat f xs i d o p q lt h k = as_text _ _ o q (flat_more f xs i d lt) (put_more _ _ o p q h k)

pub put_flat_all : {A : Type 0} (f : A → List ℕ) (xs : List A) (i : ℕ) (o p : Out) → length xs ≤ i → IsPut (flat_map f (take i xs)) o p → IsPut (flat_map f xs) o p
put_flat_all f xs i o p le h = subst (λ ys. IsPut (flat_map f ys) o p) (take_all i xs le) h

pub put_hex : (bytes : List ℕ) (i x : ℕ) (o p q : Out) → i < length bytes → x ≡ slice_index bytes i → x < 256 → IsPut (encode_upper (take i bytes)) o p → IsPut (hex2 x) p q → IsPut (encode_upper (take (i + 1) bytes)) o q
put_hex bytes i x o p q lt e small h k = as_text _ _ o q (hex_more bytes i x lt e small) (put_more _ _ o p q h k)

pub put_hex_all : (bytes : List ℕ) (i : ℕ) (o p : Out) → length bytes ≤ i → IsPut (encode_upper (take i bytes)) o p → IsPut (encode_upper bytes) o p
put_hex_all bytes i o p le h = subst (λ ys. IsPut (encode_upper ys) o p) (take_all i bytes le) h

pub put_nodes : (ns : List NodeOf) (i : ℕ) (o p q : Out) → i < length ns → IsPut (flat_map ended (nodes_lines 0 (take i ns))) o p → IsPut (flat_map ended (node_lines i (node_of ns i))) p q → IsPut (flat_map ended (nodes_lines 0 (take (i + 1) ns))) o q
put_nodes ns i o p q lt h k = as_text _ _ o q (nodes_more ns i lt) (put_more _ _ o p q h k)

pub put_nodes_all : (ns : List NodeOf) (i : ℕ) (o p : Out) → length ns ≤ i → IsPut (flat_map ended (nodes_lines 0 (take i ns))) o p → IsPut (flat_map ended (nodes_lines 0 ns)) o p
put_nodes_all ns i o p le h = subst (λ ys. IsPut (flat_map ended (nodes_lines 0 ys)) o p) (take_all i ns le) h

-- ---- lines

pub put_numbers_line : (word : List ℕ) (k : ℕ) (ns : List ℕ) (o p q r : Out) → IsPut (head word k) o p → IsPut (flat_map (λ n. spaced (decimal n)) ns) p q → IsPut (codes "\n") q r → IsPut (ended (numbers_line word k ns)) o r
put_numbers_line word k ns o p q r a b c = as_text _ _ o r (numbers_pasted word k ns) (put_more _ _ o p r a (put_more _ _ p q r b c))

pub put_numbers_lines : (k : ℕ) (ns core devices timers ports : List ℕ) (o p q r : Out) → core ≡ take 41 ns → devices ≡ drop 41 ns → timers ≡ take 38 devices → ports ≡ drop 38 devices
    → IsPut (ended (numbers_line (codes "core") k core)) o p → IsPut (ended (numbers_line (codes "timers") k timers)) p q → IsPut (ended (numbers_line (codes "ports") k ports)) q r → IsPut (numbers_text k ns) o r
put_numbers_lines k ns core devices timers ports o p q r e1 e2 e3 e4 a b c =
    let a' = subst (λ m. IsPut (ended (numbers_line (codes "core") k m)) o p) e1 a in
    let b' = subst (λ m. IsPut (ended (numbers_line (codes "timers") k m)) p q) (e3 ∙ ap (take 38) e2) b in
    let c' = subst (λ m. IsPut (ended (numbers_line (codes "ports") k m)) q r) (e4 ∙ (ap (drop 38) e2 ∙ drop-drop 38 41 ns)) c in
    put_more _ _ o p r a' (put_more _ _ p q r b' c')

pub put_node : (k : ℕ) (n : NodeOf) (ns : List ℕ) (o r s t u v w x y : Out) → ns ≡ n.numbers → IsPut (numbers_text k ns) o r
    → IsPut (head (codes "io") k) r s → IsPut (codes " ") s t → IsPut (encode_upper n.io) t u
    → IsPut (head (codes "\nsram") k) u v → IsPut (codes " ") v w → IsPut (encode_upper n.sram) w x → IsPut (codes "\n") x y
    → IsPut (flat_map ended (node_lines k n)) o y
put_node k n ns o r s t u v w x y e a b c d f g h i =
    as_text _ _ o y (node_pasted k n ns e)
    (put_more _ _ o r y a (put_more _ _ r s y b (put_more _ _ s t y c (put_more _ _ t u y d (put_more _ _ u v y f (put_more _ _ v w y g (put_more _ _ w x y h i)))))))

pub put_send : (x : Send) (o p q r s t : Out) → x.byte < 256 → IsPut (head (codes "send") x.node) o p → IsPut (spaced (decimal x.cycle)) p q → IsPut (codes " ") q r → IsPut (hex2 x.byte) r s → IsPut (codes "\n") s t → IsPut (ended (send_line x)) o t
put_send x o p q r s t small a b c d e = as_text _ _ o t (send_pasted x small) (put_more _ _ o p t a (put_more _ _ p q t b (put_more _ _ q r t c (put_more _ _ r s t d e))))

-- ---- the text

pub put_state : (st : StateOf) (o p q r s t u : Out) → IsPut (codes "avrora state 1\ncycle") o p → IsPut (spaced (decimal st.cycle)) p q → IsPut (codes "\n") q r → IsPut (flat_map ended (nodes_lines 0 st.nodes)) r s → IsPut (flat_map (λ x. ended (send_line x)) st.sends) s t → IsPut (codes "end\n") t u → IsPut (state_text st) o u
put_state st o p q r s t u a b c d e f = as_text _ _ o u (state_pasted st) (put_more _ _ o p u a (put_more _ _ p q u b (put_more _ _ q r u c (put_more _ _ r s u d (put_more _ _ s t u e f)))))
