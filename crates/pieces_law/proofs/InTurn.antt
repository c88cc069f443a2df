-- Saves in turn are one save.
use Rattle.std.proofs.Common.{◌≡◌, ℕ, ◌+◌, ◌*◌, ◌<◌, ◌≤◌, nat_le, nat_lt, Bool, true, if◌then◌else◌, List, Some, sym, ap, ◌∙◌, subst, arith}
use Rattle.std.proofs.lemmas.Bool.{le-leb, ltb-true}
use Rattle.world_core.specs.Kept.{epoch}
use Rattle.node_runner.specs.Accepted.{IsAccepted}
use Rattle.node_runner.specs.Scenario.{IsScenario, ScenarioOf}
use Rattle.node_runner.proofs.Accepted.{is_scenario}
use Rattle.node_laws.proofs.Images.{images_are}
use Rattle.state_text.specs.Text.{StateOf, state_text}
use Rattle.state_text.specs.declared.fault.StateFault.TheVariants.{PastEnd}
use Rattle.checkpoint_text.specs.Onward.{onward}
use Rattle.checkpoint_text.specs.State.{counts_fit, saved_at, saved_from}
use Rattle.checkpoint_laws.proofs.Kept.{counted, saved_on}
use Rattle.command_words.specs.Words.{HeadOn, Look, Save, SaveOn}
use Rattle.command_words.proofs.Forms.{form_of, in_limits}
use Rattle.command_plans.specs.Plan.{Give, Refuse, BadState, and_then}
use Rattle.command_plans.specs.Reading.{Files, Accepted, verdict}
use Rattle.command_plans.specs.declared.trouble.StateCause.TheVariants as cause
use Rattle.commands.specs.Plan.{come_or, cut_on_or, cut_on_plan, look_or, look_plan, network_plan, plan_for, plan_of, state_plan}
use Rattle.commands.specs.Texts.{head_on_text, look_on_text, look_text, save_text}
use Rattle.pieces_law.specs.Pieces.{AreInTurn, AreOneSave}
use Rattle.pieces_law.proofs.Joined.{cut_of, gives, not_long, read_again, state_accepted}
use Rattle.pieces_law.proofs.Networks.{network_accepted}
use Rattle.pieces_law.proofs.Verdicts as verdicts
use Rattle.command_words.specs.declared.operands.TheConstants.{MOST_EPOCHS}

module _ (files : Files) (file name : List ℕ) (further : ℕ) (network : ScenarioOf) (state : StateOf) (first : verdict files (network_plan file) ≡ Accepted network)
    (read : verdict files (state_plan network name) ≡ Accepted state) (early : nat_lt (state.cycle + further * epoch) network.topo.limit ≡ true) where
  chosen : verdict files (cut_on_or name further network state) ≡ Accepted (network, state)
  chosen = ap (λ (b : Bool). verdict files (if b then Give (network, state) else Refuse (BadState name (cause.Faulty PastEnd)))) early ∙ gives files (network, state)

  cut_accepted : verdict files (cut_on_plan file further name) ≡ Accepted (network, state)
  cut_accepted =
      verdicts.joined files (network_plan file) (λ n. and_then (state_plan n name) (cut_on_or name further n)) network (network, state) first
      (verdicts.joined files (state_plan network name) (cut_on_or name further network) state (network, state) read chosen)

  more_accepted : verdict files (plan_of (HeadOn file further name)) ≡ Accepted (head_on_text network state further)
  unfolding plan_of
  more_accepted =
      verdicts.joined files (cut_on_plan file further name) (λ at. Give (head_on_text at.0 at.1 further)) (network, state) (head_on_text network state further) cut_accepted
      (gives files (head_on_text network state further))

  next_accepted : counts_fit (onward network state) (state.cycle + further * epoch) ≡ true
      → verdict files (plan_of (SaveOn file further name)) ≡ Accepted (look_on_text network state (state.cycle + further * epoch))
  unfolding plan_of
  next_accepted fits =
      let text = look_on_text network state (state.cycle + further * epoch) in
      verdicts.joined files (cut_on_plan file further name) (λ at. come_or name at.0 at.1 (at.1.cycle + further * epoch)) (network, state) text cut_accepted
      (ap (λ (b : Bool). verdict files (if b then Give text else Refuse (BadState name cause.TooMany))) fits ∙ gives files text)

look_accepted : (files : Files) (file : List ℕ) (cycle : ℕ) (network : ScenarioOf) → verdict files (network_plan file) ≡ Accepted network → nat_le cycle network.topo.limit ≡ true
    → verdict files (plan_of (Look file cycle)) ≡ Accepted (look_text network cycle)
unfolding plan_of
look_accepted files file cycle network first within =
    let there : verdict files (look_or file cycle network) ≡ Accepted network =
    ap (λ (b : Bool). verdict files (if b then Give network else Refuse (BadState file (cause.Faulty PastEnd)))) within ∙ gives files network in
    verdicts.joined files (look_plan file cycle) (λ n. Give (look_text n cycle)) network (look_text network cycle)
    (verdicts.joined files (network_plan file) (look_or file cycle) network network first there) (gives files (look_text network cycle))

-- the same network
same_network : (files : Files) (file : List ℕ) (a b : ScenarioOf) → verdict files (network_plan file) ≡ Accepted a → verdict files (network_plan file) ≡ Accepted b → a ≡ b
same_network files file a b e f = let same : Accepted a ≡ Accepted b = sym e ∙ f in cc

pub one_save : (files later : Files) (first next more whole look : List (List ℕ)) (calls : AreInTurn files later first next more whole look) → AreOneSave files later next more look calls.last
one_save files later first next more whole look calls =
    let n : ℕ = calls.epochs * epoch in
    let m : ℕ = calls.further * epoch in
    let l : ℕ = (calls.epochs + calls.further) * epoch in
    let there : n + m ≡ l = omega arith in
    let c = cut_of files calls.file calls.epochs calls.saved (sym (ap (λ o. verdict files (plan_for o)) calls.first_asks) ∙ calls.accepted) in
    let w = cut_of files calls.file (calls.epochs + calls.further) calls.last (sym (ap (λ o. verdict files (plan_for o)) calls.whole_asks) ∙ calls.whole_is) in
    let network : ScenarioOf = c.network in
    let one : w.network ≡ network = same_network files calls.file w.network network w.accepted_is c.accepted_is in
    let is : IsAccepted network = network_accepted files calls.file network c.accepted_is in
    let ok : IsScenario network = is_scenario network is in
    let limits : (1 ≤ calls.epochs) × (calls.epochs ≤ MOST_EPOCHS) = in_limits first (Save calls.file calls.epochs) (form_of first (Save calls.file calls.epochs) calls.first_asks) in
    let state : StateOf = saved_at network n in
    let last_early : nat_lt l network.topo.limit ≡ true = subst (λ (s : ScenarioOf). nat_lt l s.topo.limit ≡ true) one w.early in
    let below : l < network.topo.limit = ltb-true l network.topo.limit last_early in
    let early : nat_lt (n + m) network.topo.limit ≡ true = ap (λ (k : ℕ). nat_lt k network.topo.limit) there ∙ last_early in
    let read = state_accepted later calls.state (state_text state) network state (calls.written ∙ ap Some c.is) (not_long network is calls.epochs limits.0 c.early) (read_again network is calls.epochs limits.0 c.early) in
    let fits : counts_fit (onward network state) (n + m) ≡ true = counted network n ok (images_are network is) (omega (arith, there, below)) (n + m) (omega arith) (omega (arith, there, below)) in
    let saved_there : saved_from network state (n + m) ≡ saved_at network l =
    saved_on network n ok (images_are network is) (omega (arith, there, below)) (n + m) (omega arith) ∙ ap (saved_at network) there in
    let last : calls.last ≡ state_text (saved_at network l) = w.is ∙ ap (λ (s : ScenarioOf). save_text s (calls.epochs + calls.further)) one in
    record {
      next_is = ap (λ o. verdict later (plan_for o)) calls.next_asks
          ∙ next_accepted later calls.file calls.state calls.further network state (calls.unchanged ∙ c.accepted_is) read early fits
          ∙ ap Accepted (ap state_text saved_there ∙ sym last);
      rows = head_on_text network state calls.further;
      more_is = ap (λ o. verdict later (plan_for o)) calls.more_asks ∙ more_accepted later calls.file calls.state calls.further network state (calls.unchanged ∙ c.accepted_is) read early;
      look_is = ap (λ o. verdict files (plan_for o)) calls.look_asks
          ∙ look_accepted files calls.file l network c.accepted_is (le-leb l network.topo.limit (omega (arith, below)))
          ∙ ap Accepted (sym last);
    }
