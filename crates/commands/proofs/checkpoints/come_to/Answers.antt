use Rattle.std.proofs.Common.{◌≡◌, refl, sym, ap, ◌∙◌, false, true}
use Rattle.checkpoint_text.specs.Onward.{SavedAt, onward}
use Rattle.checkpoint_text.specs.State.{counts_fit}
use Rattle.commands.proofs.Coming.{come_gives, come_refuses}
use Rattle.commands.proofs.checkpoints.come_to.Goals as goal

pub returns-then-counts_fit-clause-read : goal.returns-then-counts_fit-clause-read
returns-then-counts_fit-clause-read c =
    let fits = sym (c.counts_fit.ensures ∙ ap (λ (a : SavedAt). counts_fit (onward a.scenario a.state) a.floor) c.in-Ok.ensures) ∙ c.if-counts_fit.true in
    λ files store. (refl, come_gives files c.args.name.now c.args.network.now c.args.saved.state c.args.end fits)

pub returns-clause-read : goal.returns-clause-read
returns-clause-read c =
    let not_fit = sym (c.counts_fit.ensures ∙ ap (λ (a : SavedAt). counts_fit (onward a.scenario a.state) a.floor) c.in-Ok.ensures) ∙ c.if-counts_fit.false in
    λ files store. (refl, come_refuses files c.args.name.now c.args.network.now c.args.saved.state c.args.end not_fit)
