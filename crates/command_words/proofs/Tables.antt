-- The commands that a table gives.
use Rattle.std.proofs.Common.{◌≡◌, ◌∙◌, ◌||◌, ◌<◌, ◌+◌, ◌++◌, ℕ, Bool, true, false, List, [], ◌∷◌, length, map, get_or, take, ap, sym, refl}
use Rattle.std.proofs.lemmas.List.{map_more, map_push}
use Rattle.clap.specs.Words.{App, Rule, AddsArg, AddsInTurn, AddsSubcommand, app_of, rule_of, with_rule, with_subcommand}
use Rattle.clap.specs.declared.builder.arg.Arg.{Arg}
use Rattle.clap.specs.declared.builder.command.Command.{Command}
use Rattle.clap.specs.declared.Command.TheViews.{out-Command}
use Rattle.command_words.specs.Table.{form_app, rule_in, with_words}
use Rattle.command_words.specs.declared.building.Form.{Form}
use Rattle.command_words.specs.declared.building.Word.{Word}

-- what a command takes of an argument, and of a subcommand; whether it is global is the second part
pub seen : Arg → Rule × Bool
seen a = (rule_of a, a.global)

pub met : Command → App × Bool
met c = (app_of c, (out-Command c).has_globals)

-- and what the table says of them
pub word_seen : Word → Rule × Bool
word_seen w = (rule_in w, false)

pub local : App → App × Bool
local app = (app, false)

unfoldable pub form_met : Form → App × Bool
form_met f = local (form_app f)

-- one more, on both sides
pub one_more : {X Y Z : Type 0} (f : X → Z) (g : Y → Z) (xs : List X) (ys : List Y) (i : ℕ) (x : X) (d : Y) → i < length ys → f x ≡ g (get_or ys i d)
    → map f xs ≡ map g (take i ys) → map f (xs ++ x ∷ []) ≡ map g (take (i + 1) ys)
one_more f g xs ys i x d lt e h = map_push f xs x ∙ (λ k. h k ++ e k ∷ []) ∙ sym (map_more g ys i d lt)

pub word_seen_of : (w : Word) (a : Arg) → rule_of a ≡ rule_in w → a.global ≡ false → seen a ≡ word_seen w
unfolding seen word_seen
word_seen_of w a rule local = λ k. (rule k, local k)

pub form_met_of : (f : Form) (c : Command) → (app_of c ≡ form_app f) × ((out-Command c).has_globals ≡ false) → met c ≡ form_met f
unfolding met local form_met
form_met_of f c is = λ k. (is.0 k, is.1 k)

word_parts : (w : Word) (a : Arg) → seen a ≡ word_seen w → (rule_of a ≡ rule_in w) × (a.global ≡ false)
unfolding seen word_seen
word_parts w a e = (ap (λ p. p.0) e, ap (λ p. p.1) e)

met_parts : (sub : App) (c : Command) → met c ≡ local sub → (app_of c ≡ sub) × ((out-Command c).has_globals ≡ false)
unfolding met local form_met
met_parts sub c e = (ap (λ p. p.0) e, ap (λ p. p.1) e)

or_none : (b : Bool) → (b || false) ≡ b
or_none true = refl
or_none false = refl

-- a command with an argument for each word
pub words_added : (old new : Command) (args : List Arg) (words : List Word) → AddsInTurn AddsArg old args new → map seen args ≡ map word_seen words
    → (app_of new ≡ with_words (app_of old) words) × ((out-Command new).has_globals ≡ (out-Command old).has_globals)
words_added old new [] [] h e = rw (← h) (refl, refl)
words_added old new (a ∷ args) [] h e = absurd (cc)
words_added old new [] (w ∷ words) h e = absurd (cc)
words_added old new (a ∷ args) (w ∷ words) h e =
    let is = word_parts w a (cc) in
    let more = words_added h.0 new args words h.2 (cc) in
    let app : app_of h.0 ≡ with_rule (app_of old) (rule_in w) = h.1.shape is.1 ∙ ap (with_rule (app_of old)) is.0 in
    let globals : (out-Command h.0).has_globals ≡ (out-Command old).has_globals = h.1.globals ∙ rw is.1 (or_none _) in
    (more.0 ∙ ap (λ app. with_words app words) app, more.1 ∙ globals)

abbrev pub with_all : App → List App → App
with_all app [] = app
with_all app (sub ∷ subs) = with_all (with_subcommand app sub.top) subs

-- a command with these subcommands
pub all_added : (old new : Command) (commands : List Command) (subs : List App) → AddsInTurn AddsSubcommand old commands new → map met commands ≡ map local subs
    → app_of new ≡ with_all (app_of old) subs
all_added old new [] [] h e = ap app_of (sym h)
all_added old new (c ∷ commands) [] h e = absurd (cc)
all_added old new [] (sub ∷ subs) h e = absurd (cc)
all_added old new (c ∷ commands) (sub ∷ subs) h e =
    let is = met_parts sub c (cc) in
    let app : app_of h.0 ≡ with_subcommand (app_of old) sub.top = h.1.shape is.1 ∙ ap (λ sub. with_subcommand (app_of old) sub.top) is.0 in
    all_added h.0 new commands subs h.2 (cc) ∙ ap (λ app. with_all app subs) app
