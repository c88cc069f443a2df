-- Words as bytes, and what is behind them.
use Rattle.std.proofs.Common.{◌≡◌, ℕ, zero, suc, ◌+◌, ◌-◌, ◌*◌, ◌/◌, ◌%◌, ◌<◌, false, List, [], ◌∷◌, ◌++◌, length, take, get_or, refl, ap, ◌∙◌, arith}
use Rattle.std.proofs.lemmas.List.{get_or-replicate, get_or_append_left, take_more}
use Rattle.std.proofs.lemmas.List.Concat.{flat_map-append}
use Rattle.ihex_loader.specs.Flash.{Image, bytes_of_words, padded, word_at, image_of_words}
use Rattle.ihex_loader.specs.Pass.{Stands}
use Rattle.ihex_loader.proofs.Lines.{Stands_nothing}

pub length-bytes_of_words : (words : List ℕ) → length (bytes_of_words words) ≡ 2 * length words
length-bytes_of_words [] = refl
length-bytes_of_words (w ∷ ws) = let e = length-bytes_of_words ws in omega (arith, e)

-- the bytes of one word more, as the code makes them
high_fits : (w : ℕ) → w < 65536 → w / 256 ≡ w / 256 % 256
high_fits w h = omega (arith, h)

pub bytes_more : (words : List ℕ) (i : ℕ) → i < length words → get_or words i 0 < 65536 → bytes_of_words (take (i + 1) words) ≡ bytes_of_words (take i words) ++ get_or words i 0 % 256 ∷ get_or words i 0 / 256 % 256 ∷ []
bytes_more words i h fits =
    ap bytes_of_words (take_more words i 0 h) ∙ flat_map-append (λ (w : ℕ). w % 256 ∷ w / 256 ∷ []) (take i words) (get_or words i 0 ∷ [])
    ∙ ap (λ (b : ℕ). bytes_of_words (take i words) ++ get_or words i 0 % 256 ∷ b ∷ []) (high_fits (get_or words i 0) fits)

-- the bytes of a word in its place
pub low_byte : (words : List ℕ) (pc : ℕ) → get_or (bytes_of_words words) (2 * pc) 0 ≡ get_or words pc 0 % 256
low_byte [] pc = refl
low_byte (w ∷ ws) zero = refl
low_byte (w ∷ ws) (suc pc) =
    let e : 2 * suc pc ≡ suc (suc (2 * pc)) = omega arith in
    ap (λ n. get_or (bytes_of_words (w ∷ ws)) n 0) e ∙ low_byte ws pc

pub high_byte : (words : List ℕ) (pc : ℕ) → get_or (bytes_of_words words) (2 * pc + 1) 0 ≡ get_or words pc 0 / 256
high_byte [] pc = refl
high_byte (w ∷ ws) zero = refl
high_byte (w ∷ ws) (suc pc) =
    let e : 2 * suc pc + 1 ≡ suc (suc (2 * pc + 1)) = omega arith in
    ap (λ n. get_or (bytes_of_words (w ∷ ws)) n 0) e ∙ high_byte ws pc

-- words that a flash begins with read back
pub words_read_back : (n : ℕ) (words : List ℕ) (pc : ℕ) → pc < length words → word_at (padded n (bytes_of_words words)) pc ≡ get_or words pc 0
unfolding padded
words_read_back n words pc lt =
    let len = length-bytes_of_words words in
    let low = low_byte words pc in
    let high = high_byte words pc in
    rw (get_or_append_left (bytes_of_words words) _ 0 (2 * pc) (omega arith), get_or_append_left (bytes_of_words words) _ 0 (2 * pc + 1) (omega arith)) (omega arith)

pub get_or-padded_none : (n a : ℕ) → a < n → get_or (padded n []) a 0 ≡ 255
unfolding padded
get_or-padded_none n a lt =
    let e : n - 0 ≡ n = omega arith in
    rw e (get_or-replicate n a 255 0 lt)

-- erased flash is what no lines give
pub Stands_erased : (flash : Image) → length flash.bytes ≡ 131072 → flash ≡ image_of_words [] → Stands [] flash.bytes flash.used 0 false
Stands_erased flash len e =
    rw (ap (λ (i : Image). i.used) e) (Stands_nothing flash.bytes len (λ a lt. ap (λ (i : Image). get_or i.bytes a 0) e ∙ get_or-padded_none 131072 a lt))
