-- Words that a subcommand takes one by one, each at the next of its places: a step of the walk for each word, so that what
-- is computed stays small however many there are.
use Rattle.std.proofs.Common.{◌≡◌, ℕ, ◌+◌, ◌&&◌, fold, Bool, true, false, List, Option, Some, None, [], ◌∷◌, codes, refl, ap, ◌∙◌, is_some}
use Rattle.std.specs.Prelude.{find, unwrap_or}
use Rattle.std.specs.List.{list_all}
use Rattle.std.specs.Option.{option_map_or}
use Rattle.std.specs.Str.{bytes_eq}
use Rattle.clap.specs.Lexer.{strip_byte}
use Rattle.clap.specs.Simple.{Shape, built, entered, label_of, names_of, new_shape, subcommand_of}
use Rattle.clap.specs.Takes.{entered_passes, level_passes, default_passes, is_valid, positional_passes, settle_passes, takes, walk_passes}
use Rattle.clap.specs.Walk.{Held, Rule, Text, Walk, idle, answers_to, arg_by_index, finished, nothing_held, to_positional, walk, walked}
use Rattle.command_words.specs.Apps.{the_app}

-- a word that `clap` takes for a value
pub record Plain (word : Text) : Type 0 where
  pub short : strip_byte 45 word ≡ None
  pub long : bytes_eq word (45 ∷ 45 ∷ []) ≡ false

-- the walk between two words, of which the next goes to this place
abbrev pub standing : Held → ℕ → Walk
standing h k = record { held = h; waiting = idle; position = k; is_trailing = false; stopped = None }

abbrev pub put_at : List Rule → ℕ → Text → Held → Walk
put_at c k word h = to_positional c (arg_by_index c k) word (standing h k) h

abbrev pub may_put : Shape → ℕ → Held → Bool
may_put s k h = option_map_or (λ a. positional_passes s.rules s.args_override_self a h) (arg_by_index s.rules k) false

one_word : (c : List Rule) (h : Held) (k : ℕ) (word : Text) → Plain word → walked c [] (standing h k) word ≡ put_at c k word h
unfolding walked
one_word c h k word p = simp (p.short, p.long) refl

one_passes : (s : Shape) (h : Held) (k : ℕ) (word : Text) (rest : List Text) → Plain word
    → walk_passes s [] (standing h k) (word ∷ rest) ≡ (may_put s k h && walk_passes s [] (walked s.rules [] (standing h k) word) rest)
unfolding walk_passes
one_passes s h k word rest p = simp (p.short, p.long) refl

-- the walk over words that go to the places from this one on comes here, and passes
pub record Level (s : Shape) (h : Held) (k : ℕ) (words : List Text) (end : Walk) : Type 0 where
  pub walked_to : fold (walked s.rules []) (standing h k) words ≡ end
  pub passes : walk_passes s [] (standing h k) words ≡ true

pub no_more : (s : Shape) (h : Held) (k : ℕ) → Level s h k [] (standing h k)
unfolding walk_passes
no_more s h k = record { walked_to = refl; passes = refl }

pub one_more : (s : Shape) (h next : Held) (k : ℕ) (word : Text) (words : List Text) (end : Walk) → Plain word → put_at s.rules k word h ≡ standing next (k + 1) → may_put s k h ≡ true
    → Level s next (k + 1) words end → Level s h k (word ∷ words) end
one_more s h next k word words end p at may more =
    let is : walked s.rules [] (standing h k) word ≡ standing next (k + 1) = one_word s.rules h k word p ∙ at in
    record {
      walked_to = ap (λ w. fold (walked s.rules []) w words) is ∙ more.walked_to;
      passes = one_passes s h k word words p ∙ rw (may, is) more.passes;
    }

both : (a b : Bool) → a ≡ true → b ≡ true → (a && b) ≡ true
both true b e f = f
both false b e f = absurd (cc)

-- ---- the subcommand `watch`

abbrev pub watch_shape : Shape
watch_shape = unwrap_or (find (λ s. answers_to (codes "watch") (label_of s)) (built the_app).subs) (new_shape [])

-- what is held behind one word more
abbrev pub held_at : ℕ → Text → Held → Held
held_at k word h = (put_at watch_shape.rules k word h).held

abbrev pub Ends : Held → Bool
Ends h = settle_passes watch_shape.rules watch_shape.args_override_self h && (list_all default_passes watch_shape.rules && is_valid watch_shape (finished watch_shape.rules h) false)

level_of : (words : List Text) (h : Held) (k : ℕ) → Level watch_shape nothing_held 1 words (standing h k) → Ends h ≡ true → level_passes watch_shape [] nothing_held words false ≡ true
level_of words h k l rest = both _ _ l.passes (ap (λ (w : Walk). Ends w.held) l.walked_to ∙ rest)

-- where the walk over all words comes to the subcommand
abbrev pub Stops : List Text → Type 0
Stops words = (walk (built the_app).top.rules (names_of (built the_app)) nothing_held (codes "watch" ∷ words)).stopped ≡ Some (codes "watch", words)

abbrev pub Tops : List Text → Type 0
Tops words = level_passes (built the_app).top (names_of (built the_app)) nothing_held (codes "watch" ∷ words) true ≡ true

pub watch_taken : (words : List Text) (h : Held) (k : ℕ) → Stops words → Tops words → Level watch_shape nothing_held 1 words (standing h k) → Ends h ≡ true
    → takes the_app (codes "watch" ∷ words) ≡ true
watch_taken words h k stops tops l ends =
    let all = codes "watch" ∷ words in
    both _ _ (ap (entered_passes (built the_app)) stops ∙ level_of words h k l ends)
    (ap (λ (o : Option (Text × List Text)). level_passes (built the_app).top (names_of (built the_app)) nothing_held all (is_some (entered (built the_app) o))) stops ∙ tops)

pub watch_entered : (words : List Text) (h : Held) (k : ℕ) → Stops words → Level watch_shape nothing_held 1 words (standing h k)
    → subcommand_of the_app (codes "watch" ∷ words) ≡ Some (codes "watch", finished watch_shape.rules h)
watch_entered words h k stops l =
    ap (entered (built the_app)) stops ∙ ap (λ (w : Walk). Some (codes "watch", finished watch_shape.rules w.held)) l.walked_to
