-- How the words of each form are split.
use Rattle.std.proofs.Common.{◌≡◌, ℕ, is_some, ◌==◌, Bool, true, false, not, List, Option, Some, None, [], ◌∷◌, refl, sym, ap, ◌∙◌, option_map}
use Rattle.air_base.specs.Bounds.{LAST_CYCLE}
use Rattle.std.specs.Str.{bytes_eq}
use Rattle.clap.specs.Lexer.{strip_byte}
use Rattle.clap.specs.Walk.{Held, Walk, nothing_held}
use Rattle.clap.specs.Words.{subcommand_of, takes}
use Rattle.clap.proofs.OnLiterals.{clap_on_literals}
use Rattle.command_words.specs.Words.{Asked, Node, Run, RunPlain, Monitor, Sniff, Check, Disasm, Asm, Make, Head, Save, Resume, HeadOn, SaveOn, MonitorSpan, Sweep, Look, LookOn, Watch, WatchOn, WatchSweep, asked_by, bound_of, epochs_of, is_file, span_of}
use Rattle.command_words.specs.Apps.{the_app}
use Rattle.command_words.specs.Split.{asked_in, asked_of, cut_in, from_in, read_in, seeing_in, watched_in, within_in}
use Rattle.command_words.proofs.Numerals.{number_file}
use Rattle.command_words.proofs.Positionals.{Level, Plain, held_at, no_more, one_more, standing, watch_entered, watch_shape, watch_taken}
use Rattle.command_words.proofs.Forms.{Form, Span, IsNode, IsRun, IsPlainRun, IsMonitor, IsSniff, IsCheck, IsDisasm, IsAsm, IsMake, IsHead, IsSave, IsResume, IsHeadOn, IsSaveOn, IsMonitorSpan, IsSweep, IsLook, IsLookOn, IsWatch, IsWatchOn, IsWatchSweep, form_of}
use Rattle.air_base.specs.declared.bounds.TheConstants.{LAST_SHORT_CYCLE}
use Rattle.command_words.specs.declared.operands.TheConstants.{MOST_EPOCHS}

not_false : (b : Bool) → not b ≡ true → b ≡ false
not_false true h = absurd (cc)
not_false false h = refl

plain_file : (word : List ℕ) → is_file word ≡ true → Plain word
plain_file [] h = absurd (cc)
plain_file (x ∷ xs) h =
    let no : (x == 45) ≡ false = not_false (x == 45) h in
    record { short = rw no refl; long = rw no refl }

span_is : (from to : List ℕ) (m n : ℕ) → Span from to m n → span_of from to ≡ Some (m, n)
unfolding span_of
span_is from to m n s = rw (s.from_is, s.to_is, s.order) refl

-- ---- `watch`, word by word

record Plains (file from to places : List ℕ) : Type 0 where
  file_is : Plain file
  from_is : Plain from
  to_is : Plain to
  places_is : Plain places

span_plain : {file places : List ℕ} (from to : List ℕ) (m n : ℕ) → is_file file ≡ true → is_file places ≡ true → Span from to m n → Plains file from to places
span_plain {file} {places} from to m n f g s = record {
  file_is = plain_file file f;
  from_is = plain_file from (number_file 13 0 LAST_CYCLE from m s.from_is);
  to_is = plain_file to (number_file 13 0 LAST_CYCLE to n s.to_is);
  places_is = plain_file places g;
}

abbrev held_4 : List ℕ → List ℕ → List ℕ → List ℕ → Held
held_4 file from to places = held_at 4 places (held_at 3 to (held_at 2 from (held_at 1 file nothing_held)))

four : (file from to places : List ℕ) (more : List (List ℕ)) (end : Walk) → Plains file from to places → Level watch_shape (held_4 file from to places) 5 more end
    → Level watch_shape nothing_held 1 (file ∷ from ∷ to ∷ places ∷ more) end
four file from to places more end p rest =
    one_more watch_shape nothing_held (held_at 1 file nothing_held) 1 file (from ∷ to ∷ places ∷ more) end p.file_is refl refl
    (one_more watch_shape (held_at 1 file nothing_held) (held_at 2 from (held_at 1 file nothing_held)) 2 from (to ∷ places ∷ more) end p.from_is refl refl
    (one_more watch_shape (held_at 2 from (held_at 1 file nothing_held)) (held_at 3 to (held_at 2 from (held_at 1 file nothing_held))) 3 to (places ∷ more) end p.to_is refl refl
    (one_more watch_shape (held_at 3 to (held_at 2 from (held_at 1 file nothing_held))) (held_4 file from to places) 4 places more end p.places_is refl refl rest)))

reset_level : (file from to places : List ℕ) → Plains file from to places → Level watch_shape nothing_held 1 (file ∷ from ∷ to ∷ places ∷ []) (standing (held_4 file from to places) 5)
reset_level file from to places p = four file from to places [] _ p (no_more watch_shape (held_4 file from to places) 5)

abbrev held_5 : List ℕ → List ℕ → List ℕ → List ℕ → List ℕ → Held
held_5 file from to places state = held_at 5 state (held_4 file from to places)

state_level : (file from to places state : List ℕ) → Plains file from to places → Plain state
    → Level watch_shape nothing_held 1 (file ∷ from ∷ to ∷ places ∷ state ∷ []) (standing (held_5 file from to places state) 6)
state_level file from to places state p q =
    four file from to places (state ∷ []) _ p
    (one_more watch_shape (held_4 file from to places) (held_5 file from to places state) 5 state [] _ q refl refl (no_more watch_shape (held_5 file from to places state) 6))

moves_level : (file from to places state moves : List ℕ) → Plains file from to places → Plain state → Plain moves
    → Level watch_shape nothing_held 1 (file ∷ from ∷ to ∷ places ∷ state ∷ moves ∷ []) (standing (held_at 6 moves (held_5 file from to places state)) 7)
moves_level file from to places state moves p q r =
    let last = held_at 6 moves (held_5 file from to places state) in
    four file from to places (state ∷ moves ∷ []) _ p
    (one_more watch_shape (held_4 file from to places) (held_5 file from to places state) 5 state (moves ∷ []) _ q refl refl
    (one_more watch_shape (held_5 file from to places state) last 6 moves [] _ r refl refl (no_more watch_shape last 7)))

-- it takes the words
pub taken : (words : List (List ℕ)) (asked : Asked) → Form words asked → takes the_app words ≡ true
unfolding clap_on_literals
taken _ _ (IsNode file cycles n f e) =
    let a = plain_file file f in
    let b = plain_file cycles (number_file 8 1 LAST_SHORT_CYCLE cycles n e) in
    simp (a.short, a.long, b.short, b.long) (refl {a = true})
taken _ _ (IsRun file f) = let a = plain_file file f in simp (a.short, a.long) (refl {a = true})
taken _ _ (IsPlainRun file f) = let a = plain_file file f in simp (a.short, a.long) (refl {a = true})
taken _ _ (IsMonitor file f) = let a = plain_file file f in simp (a.short, a.long) (refl {a = true})
taken _ _ (IsSniff file f) = let a = plain_file file f in simp (a.short, a.long) (refl {a = true})
taken _ _ (IsCheck file f) = let a = plain_file file f in simp (a.short, a.long) (refl {a = true})
taken _ _ (IsDisasm file f) = let a = plain_file file f in simp (a.short, a.long) (refl {a = true})
taken _ _ (IsAsm file f) = let a = plain_file file f in simp (a.short, a.long) (refl {a = true})
taken _ _ (IsMake number n e) = let a = plain_file number (number_file 5 0 65535 number n e) in simp (a.short, a.long) (refl {a = true})
taken _ _ (IsHead file epochs n f e) =
    let a = plain_file file f in
    let b = plain_file epochs (number_file 7 1 MOST_EPOCHS epochs n e) in
    simp (a.short, a.long, b.short, b.long) (refl {a = true})
taken _ _ (IsSave file epochs n f e) =
    let a = plain_file file f in
    let b = plain_file epochs (number_file 7 1 MOST_EPOCHS epochs n e) in
    simp (a.short, a.long, b.short, b.long) (refl {a = true})
taken _ _ (IsResume file state f g) =
    let a = plain_file file f in
    let b = plain_file state g in
    simp (a.short, a.long, b.short, b.long) (refl {a = true})
taken _ _ (IsHeadOn file epochs state n f e g) =
    let a = plain_file file f in
    let b = plain_file epochs (number_file 7 1 MOST_EPOCHS epochs n e) in
    let c = plain_file state g in
    simp (a.short, a.long, b.short, b.long, c.short, c.long) (refl {a = true})
taken _ _ (IsSaveOn file epochs state n f e g) =
    let a = plain_file file f in
    let b = plain_file epochs (number_file 7 1 MOST_EPOCHS epochs n e) in
    let c = plain_file state g in
    simp (a.short, a.long, b.short, b.long, c.short, c.long) (refl {a = true})
taken _ _ (IsMonitorSpan file from to m n f s) =
    let a = plain_file file f in
    let b = plain_file from (number_file 13 0 LAST_CYCLE from m s.from_is) in
    let c = plain_file to (number_file 13 0 LAST_CYCLE to n s.to_is) in
    simp (a.short, a.long, b.short, b.long, c.short, c.long) (refl {a = true})
taken _ _ (IsSweep file state moves f g h) =
    let a = plain_file file f in
    let b = plain_file state g in
    let c = plain_file moves h in
    simp (a.short, a.long) (simp (b.short, b.long) (simp (c.short, c.long) (refl {a = true})))
taken _ _ (IsLook file cycle n f e) =
    let a = plain_file file f in
    let b = plain_file cycle (number_file 13 0 LAST_CYCLE cycle n e) in
    simp (a.short, a.long, b.short, b.long) (refl {a = true})
taken _ _ (IsLookOn file cycle state n f e g) =
    let a = plain_file file f in
    let b = plain_file cycle (number_file 13 0 LAST_CYCLE cycle n e) in
    let c = plain_file state g in
    simp (a.short, a.long, b.short, b.long, c.short, c.long) (refl {a = true})
taken _ _ (IsWatch file from to places m n f g s) =
    watch_taken (file ∷ from ∷ to ∷ places ∷ []) _ 5 refl refl (reset_level file from to places (span_plain from to m n f g s)) refl
taken _ _ (IsWatchOn file from to places state m n f g h s) =
    watch_taken (file ∷ from ∷ to ∷ places ∷ state ∷ []) _ 6 refl refl (state_level file from to places state (span_plain from to m n f g s) (plain_file state h)) refl
taken _ _ (IsWatchSweep file from to places state moves m n f g h i s) =
    watch_taken (file ∷ from ∷ to ∷ places ∷ state ∷ moves ∷ []) _ 7 refl refl (moves_level file from to places state moves (span_plain from to m n f g s) (plain_file state h) (plain_file moves i)) refl

-- and its matches ask for what the words ask for
pub kept : (words : List (List ℕ)) (asked : Asked) → Form words asked → asked_of (subcommand_of the_app words) ≡ Some asked
unfolding clap_on_literals asked_of asked_in seeing_in read_in cut_in
kept _ _ (IsNode file cycles n f e) =
    let a = plain_file file f in
    let b = plain_file cycles (number_file 8 1 LAST_SHORT_CYCLE cycles n e) in
    simp (a.short, a.long, b.short, b.long, e) (refl {a = Some (Node file n)})
kept _ _ (IsRun file f) = let a = plain_file file f in simp (a.short, a.long) (refl {a = Some (Run file)})
kept _ _ (IsPlainRun file f) = let a = plain_file file f in simp (a.short, a.long) (refl {a = Some (RunPlain file)})
kept _ _ (IsMonitor file f) = let a = plain_file file f in simp (a.short, a.long) (refl {a = Some (Monitor file)})
kept _ _ (IsSniff file f) = let a = plain_file file f in simp (a.short, a.long) (refl {a = Some (Sniff file)})
kept _ _ (IsCheck file f) = let a = plain_file file f in simp (a.short, a.long) (refl {a = Some (Check file)})
kept _ _ (IsDisasm file f) = let a = plain_file file f in simp (a.short, a.long) (refl {a = Some (Disasm file)})
kept _ _ (IsAsm file f) = let a = plain_file file f in simp (a.short, a.long) (refl {a = Some (Asm file)})
kept _ _ (IsMake number n e) = let a = plain_file number (number_file 5 0 65535 number n e) in simp (a.short, a.long, e) (refl {a = Some (Make n)})
kept _ _ (IsHead file epochs n f e) =
    let a = plain_file file f in
    let b = plain_file epochs (number_file 7 1 MOST_EPOCHS epochs n e) in
    simp (a.short, a.long, b.short, b.long, e) (refl {a = Some (Head file n)})
kept _ _ (IsSave file epochs n f e) =
    let a = plain_file file f in
    let b = plain_file epochs (number_file 7 1 MOST_EPOCHS epochs n e) in
    simp (a.short, a.long, b.short, b.long, e) (refl {a = Some (Save file n)})
kept _ _ (IsResume file state f g) =
    let a = plain_file file f in
    let b = plain_file state g in
    simp (a.short, a.long, b.short, b.long) (refl {a = Some (Resume file state)})
kept _ _ (IsHeadOn file epochs state n f e g) =
    let a = plain_file file f in
    let b = plain_file epochs (number_file 7 1 MOST_EPOCHS epochs n e) in
    let c = plain_file state g in
    let asked : option_map (from_in Head HeadOn file (Some state)) (epochs_of epochs) ≡ Some (HeadOn file n state) = ap (option_map (from_in Head HeadOn file (Some state))) e in
    simp (a.short, a.long, b.short, b.long, c.short, c.long) asked
kept _ _ (IsSaveOn file epochs state n f e g) =
    let a = plain_file file f in
    let b = plain_file epochs (number_file 7 1 MOST_EPOCHS epochs n e) in
    let c = plain_file state g in
    let asked : option_map (from_in Save SaveOn file (Some state)) (epochs_of epochs) ≡ Some (SaveOn file n state) = ap (option_map (from_in Save SaveOn file (Some state))) e in
    simp (a.short, a.long, b.short, b.long, c.short, c.long) asked
kept _ _ (IsMonitorSpan file from to m n f s) =
    let a = plain_file file f in
    let b = plain_file from (number_file 13 0 LAST_CYCLE from m s.from_is) in
    let c = plain_file to (number_file 13 0 LAST_CYCLE to n s.to_is) in
    let asked : within_in file (Some from) to ≡ Some (MonitorSpan file m n) = ap (option_map (λ span. MonitorSpan file span.0 span.1)) (span_is from to m n s) in
    simp (a.short, a.long, b.short, b.long, c.short, c.long) asked
kept _ _ (IsSweep file state moves f g h) =
    let a = plain_file file f in
    let b = plain_file state g in
    let c = plain_file moves h in
    simp (a.short, a.long, b.short, b.long, c.short, c.long) (refl {a = Some (Sweep file state moves)})
kept _ _ (IsLook file cycle n f e) =
    let a = plain_file file f in
    let b = plain_file cycle (number_file 13 0 LAST_CYCLE cycle n e) in
    simp (a.short, a.long, b.short, b.long, e) (refl {a = Some (Look file n)})
kept _ _ (IsLookOn file cycle state n f e g) =
    let a = plain_file file f in
    let b = plain_file cycle (number_file 13 0 LAST_CYCLE cycle n e) in
    let c = plain_file state g in
    let asked : option_map (from_in Look LookOn file (Some state)) (bound_of cycle) ≡ Some (LookOn file n state) = ap (option_map (from_in Look LookOn file (Some state))) e in
    simp (a.short, a.long, b.short, b.long, c.short, c.long) asked
kept _ _ (IsWatch file from to places m n f g s) =
    ap asked_of (watch_entered (file ∷ from ∷ to ∷ places ∷ []) _ 5 refl (reset_level file from to places (span_plain from to m n f g s)))
    ∙ ap (option_map (watched_in file places None None)) (span_is from to m n s)
kept _ _ (IsWatchOn file from to places state m n f g h s) =
    ap asked_of (watch_entered (file ∷ from ∷ to ∷ places ∷ state ∷ []) _ 6 refl (state_level file from to places state (span_plain from to m n f g s) (plain_file state h)))
    ∙ ap (option_map (watched_in file places (Some state) None)) (span_is from to m n s)
kept _ _ (IsWatchSweep file from to places state moves m n f g h i s) =
    ap asked_of (watch_entered (file ∷ from ∷ to ∷ places ∷ state ∷ moves ∷ []) _ 7 refl (moves_level file from to places state moves (span_plain from to m n f g s) (plain_file state h) (plain_file moves i)))
    ∙ ap (option_map (watched_in file places (Some state) (Some moves))) (span_is from to m n s)

some_of : (o : Option Asked) → is_some o ≡ true → (asked : Asked) × (o ≡ Some asked)
some_of None h = absurd (cc)
some_of (Some asked) h = (asked, refl)

pub accepted_taken : (words : List (List ℕ)) → is_some (asked_by words) ≡ true → takes the_app words ≡ true
accepted_taken words h = let s = some_of (asked_by words) h in taken words s.0 (form_of words s.0 s.1)

pub accepted_kept : (words : List (List ℕ)) → is_some (asked_by words) ≡ true → asked_of (subcommand_of the_app words) ≡ asked_by words
accepted_kept words h = let s = some_of (asked_by words) h in kept words s.0 (form_of words s.0 s.1) ∙ sym s.1
