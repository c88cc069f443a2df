use Rattle.std.proofs.Common.{◌≡◌, ap, sym, ◌∙◌, map, option_map}
use Rattle.command_words.specs.Split.{asked_of}
use Rattle.command_words.specs.Words.{asked_by, shown}
use Rattle.command_words.proofs.Forms.{command_in_limits}
use Rattle.command_words.proofs.Splits.{accepted_kept}
use Rattle.command_words.proofs.splitting.read_words.Goals.{Joined-matches}
use Rattle.command_words.proofs.splitting.read_words.Goals as goal

asks : (c : Joined-matches) → option_map shown c.command_of.result ≡ asked_by (map (λ w. w.now) c.args.words.now)
asks c = c.command_of.ensures ∙ ap asked_of c.in-Ok.ensures.ok ∙ accepted_kept _ (sym c.is_accepted.ensures ∙ c.if-not-is_accepted.false)

pub returns-in-Ok-clause-asked : goal.returns-in-Ok-clause-asked
returns-in-Ok-clause-asked c = asks c

pub returns-in-Ok-clause-limits : goal.returns-in-Ok-clause-limits
returns-in-Ok-clause-limits c = command_in_limits _ c.command_of.result (asks c)
