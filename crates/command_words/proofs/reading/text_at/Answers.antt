use Rattle.std.proofs.Common.{◌≡◌, option_map, Some, None, sym, ap, ◌∙◌, refl}
use Rattle.clap.specs.Words.{found_of, rows_of, first_of}
use Rattle.command_words.proofs.reading.text_at.Goals as goal

pub returns-in-Some : goal.returns-in-Some
returns-in-Some c =
    let e : first_of c.args.id.now (rows_of (found_of c.args.matches.now)) ≡ Some c.in-Some.text.now = sym c.word_at.ensures ∙ ap (option_map (λ s. s.now)) c.in-Some.is in
    rw e refl

pub returns-in-None : goal.returns-in-None
returns-in-None c =
    let e : first_of c.args.id.now (rows_of (found_of c.args.matches.now)) ≡ None = sym c.word_at.ensures ∙ ap (option_map (λ s. s.now)) c.in-None.is in
    rw e refl
