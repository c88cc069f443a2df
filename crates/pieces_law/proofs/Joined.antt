-- The pieces of a run that is saved and resumed are the whole run.
use Rattle.std.proofs.Common.{◌≡◌, ℕ, ◌*◌, ◌%◌, ◌^◌, ◌<◌, ◌≤◌, ◌==◌, ◌&&◌, nat_le, nat_lt, Bool, true, false, if◌then◌else◌, List, ◌++◌, length, Some, Result, Ok, refl, sym, ap, ◌∙◌, subst, arith}
use Rattle.std.proofs.lemmas.Bool.{ltb-true}
use Rattle.std.proofs.lemmas.Bool.Decides.{nat_tests}
use Rattle.std.proofs.lemmas.List.Concat.{flat_map-append}
use Rattle.std.proofs.lemmas.List.Elements.{All-weaker}
use Rattle.world_core.specs.Kept.{epoch}
use Rattle.world_core.specs.Order.{run_rows, world_at}
use Rattle.node_core.specs.declared.row.Row.{Row}
use Rattle.node_runner.specs.Accepted.{IsAccepted}
use Rattle.node_runner.specs.Run.{kept_at}
use Rattle.node_runner.specs.Scenario.{IsScenario, ScenarioOf, fleet_of}
use Rattle.node_runner.proofs.Accepted.{is_scenario}
use Rattle.node_laws.proofs.Images.{images_are}
use Rattle.state_text.specs.Bounds.{IsState}
use Rattle.state_text.specs.Text.{StateOf, state_text}
use Rattle.state_text.specs.declared.fault.StateFault.{StateFault}
use Rattle.state_text.specs.declared.fault.StateFault.TheVariants.{PastEnd}
use Rattle.state_text.proofs.Again.{state_again}
use Rattle.checkpoint_text.specs.Onward.{onward}
use Rattle.checkpoint_text.specs.State.{rules_of, saved_at, state_in}
use Rattle.checkpoint_laws.proofs.Accepted.{accepted}
use Rattle.checkpoint_laws.proofs.Kept.{goes_on}
use Rattle.trace_writer.specs.Line.{row_line, rows_text}
use Rattle.command_words.specs.Words.{Head, Save, Run, Resume}
use Rattle.command_words.proofs.Forms.{form_of, in_limits}
use Rattle.command_plans.specs.Plan.{Plan, Give, Refuse, BadState, and_then}
use Rattle.command_plans.specs.Reading.{Files, Accepted, Accepts, Says, verdict}
use Rattle.command_plans.specs.declared.trouble.StateCause.TheVariants as cause
use Rattle.commands.specs.Network.{trace_of}
use Rattle.commands.specs.Plan.{cut_or, cut_plan, network_plan, plan, plan_for, plan_of, state_or, state_plan}
use Rattle.commands.specs.Texts.{head_text, resume_text, save_text}
use Rattle.pieces_law.specs.Pieces.{AreThePieces, IsInPieces}
use Rattle.pieces_law.proofs.Networks.{network_accepted}
use Rattle.pieces_law.proofs.Room.{few_kept, inside}
use Rattle.pieces_law.proofs.Sizes.{text_short}
use Rattle.pieces_law.proofs.Verdicts as verdicts
use Rattle.command_words.specs.declared.operands.TheConstants.{MOST_EPOCHS}
use Rattle.command_plans.specs.declared.files.TheConstants.{MOST_STATE_BYTES}

-- ---- what was saved
pub record IsCut (files : Files) (file : List ℕ) (epochs : ℕ) (saved : List ℕ) : Type 0 where
  pub network : ScenarioOf
  pub accepted_is : verdict files (network_plan file) ≡ Accepted network
  pub early : nat_lt (epochs * epoch) network.topo.limit ≡ true
  pub is : saved ≡ save_text network epochs

pub given : {A : Type 0} (files : Files) (got last : A) → verdict files (Give got) ≡ Accepted last → last ≡ got
unfolding verdict
given files got last e = cc

early_case : (files : Files) (file : List ℕ) (b : Bool) (network last : ScenarioOf)
    → verdict files (if b then Give network else Refuse (BadState file (cause.Faulty PastEnd))) ≡ Accepted last → (b ≡ true) × (last ≡ network)
unfolding verdict
early_case files file true network last e = (refl, cc)
early_case files file false network last e = absurd (cc)

pub cut_of : (files : Files) (file : List ℕ) (epochs : ℕ) (saved : List ℕ) → verdict files (plan_of (Save file epochs)) ≡ Accepted saved → IsCut files file epochs saved
unfolding plan_of
cut_of files file epochs saved e =
    let p = verdicts.parts files (cut_plan file epochs) (λ network. Give (save_text network epochs)) saved e in
    let q = verdicts.parts files (network_plan file) (cut_or file (epochs * epoch)) p.got p.first in
    let b = early_case files file (nat_lt (epochs * epoch) q.got.topo.limit) q.got p.got q.after in
    record {
      network = q.got;
      accepted_is = q.first;
      early = b.0;
      is = given files (save_text p.got epochs) saved p.after ∙ ap (λ n. save_text n epochs) b.1;
    }

-- ---- what else is accepted
pub gives : {A : Type 0} (files : Files) (got : A) → verdict files (Give got) ≡ Accepted got
unfolding verdict
gives files got = refl

cut_again : (files : Files) (file : List ℕ) (epochs : ℕ) (network : ScenarioOf) → verdict files (network_plan file) ≡ Accepted network → nat_lt (epochs * epoch) network.topo.limit ≡ true
    → verdict files (cut_plan file epochs) ≡ Accepted network
cut_again files file epochs network first early =
    let after : verdict files (cut_or file (epochs * epoch) network) ≡ Accepted network =
    ap (λ (b : Bool). verdict files (if b then Give network else Refuse (BadState file (cause.Faulty PastEnd)))) early ∙ gives files network in
    verdicts.joined files (network_plan file) (cut_or file (epochs * epoch)) network network first after

head_accepted : (files : Files) (file : List ℕ) (epochs : ℕ) (network : ScenarioOf) → verdict files (network_plan file) ≡ Accepted network → nat_lt (epochs * epoch) network.topo.limit ≡ true
    → verdict files (plan_of (Head file epochs)) ≡ Accepted (head_text network epochs)
unfolding plan_of
head_accepted files file epochs network first early =
    verdicts.joined files (cut_plan file epochs) (λ n. Give (head_text n epochs)) network (head_text network epochs) (cut_again files file epochs network first early) (gives files (head_text network epochs))

run_accepted : (files : Files) (file : List ℕ) (network : ScenarioOf) → verdict files (network_plan file) ≡ Accepted network
    → verdict files (plan_of (Run file)) ≡ Accepted (trace_of network)
unfolding plan_of
run_accepted files file network first =
    verdicts.joined files (network_plan file) (λ n. Give (trace_of n)) network (trace_of network) first (gives files (trace_of network))

pub state_accepted : (files : Files) (name text : List ℕ) (network : ScenarioOf) (state : StateOf) → files name ≡ Some text → length text ≤ MOST_STATE_BYTES → state_in network text ≡ Ok state
    → verdict files (state_plan network name) ≡ Accepted state
state_accepted files name text network state there le says =
    verdicts.reads files name MOST_STATE_BYTES (BadState name cause.TooLong) (λ bytes. state_or name (state_in network bytes)) text state there le
    (ap (λ (r : Result StateOf StateFault). verdict files (state_or name r)) says ∙ gives files state)

resume_accepted : (files : Files) (file name text : List ℕ) (network : ScenarioOf) (state : StateOf) → verdict files (network_plan file) ≡ Accepted network
    → files name ≡ Some text → length text ≤ MOST_STATE_BYTES → state_in network text ≡ Ok state
    → verdict files (plan_of (Resume file name)) ≡ Accepted (resume_text network state)
unfolding plan_of
resume_accepted files file name text network state first there le says =
    verdicts.joined files (network_plan file) (λ n. and_then (state_plan n name) (λ saved. Give (resume_text n saved))) network (resume_text network state) first
    (verdicts.joined files (state_plan network name) (λ saved. Give (resume_text network saved)) state (resume_text network state)
    (state_accepted files name text network state there le says) (gives files (resume_text network state)))

-- ---- the state is one that can be read
whole_epochs : (epochs limit : ℕ) → 1 ≤ epochs → nat_lt (epochs * epoch) limit ≡ true → ((epochs * epoch) % epoch == 0 && (nat_le epoch (epochs * epoch) && nat_lt (epochs * epoch) limit)) ≡ true
whole_epochs epochs limit some early =
    let rest : ((epochs * epoch) % epoch == 0) ≡ true = grind (arith, nat_tests) in
    let first : nat_le epoch (epochs * epoch) ≡ true = grind (arith, nat_tests) in
    (λ i. rest i && (first i && early i))

module _ (network : ScenarioOf) (is : IsAccepted network) (epochs : ℕ) (some : 1 ≤ epochs) (early : nat_lt (epochs * epoch) network.topo.limit ≡ true) where
  abbrev cycle : ℕ
  cycle = epochs * epoch

  abbrev state : StateOf
  state = saved_at network cycle

  lower : cycle < network.topo.limit
  lower = ltb-true cycle network.topo.limit early

  ok : IsScenario network
  ok = is_scenario network is

  state_is : IsState (rules_of network) state
  state_is = accepted network cycle ok (images_are network is) (whole_epochs epochs network.topo.limit some early)

  pub read_again : state_in network (state_text state) ≡ Ok state
  read_again = state_again (rules_of network) state ok.topo state_is

  pub not_long : length (state_text state) ≤ MOST_STATE_BYTES
  not_long =
      let r = ok.topo.ranges in
      let nodes = r.nodes_to in
      let limit = r.limit_to in
      let low = lower in
      let count : length state.nodes ≡ network.topo.nodes = state_is.count in
      let word : cycle < 2 ^ 64 = omega (arith, low, limit) in
      text_short (rules_of network) state (omega (arith, count, nodes)) state_is.nodes word
      (All-weaker (λ x. (x.node < network.topo.nodes) × (x.cycle < cycle)) (λ x. (x.node < 2 ^ 64) × (x.cycle < 2 ^ 64))
      (λ x h. (omega (arith, h.0, nodes), omega (arith, h.1, low, limit))) (kept_at network cycle) (inside network ok cycle (omega (arith, low))))
      (few_kept network ok cycle (omega (arith, low)))

  both_texts : (xs ys : List Row) → rows_text (xs ++ ys) ≡ rows_text xs ++ rows_text ys
  unfolding rows_text
  both_texts xs ys = flat_map-append row_line xs ys

  pub pieces_are : head_text network epochs ++ resume_text network state ≡ trace_of network
  pieces_are =
      let rows = goes_on network cycle ok (images_are network is) (let low = lower in omega (arith, low)) in
      sym (both_texts (world_at (fleet_of network) cycle).rows (run_rows (onward network state))) ∙ ap rows_text (sym rows)

pub pieces : (files later : Files) (head save resume run : List (List ℕ)) (calls : IsInPieces files later head save resume run) → AreThePieces files later head save resume run calls.saved
pieces files later head save resume run calls =
    let c = cut_of files calls.file calls.epochs calls.saved (sym (ap (λ o. verdict files (plan_for o)) calls.save_asks) ∙ calls.accepted) in
    let limits : (1 ≤ calls.epochs) × (calls.epochs ≤ MOST_EPOCHS) = in_limits save (Save calls.file calls.epochs) (form_of save (Save calls.file calls.epochs) calls.save_asks) in
    let some = limits.0 in
    let network = c.network in
    let is = network_accepted files calls.file network c.accepted_is in
    let state = saved_at network (calls.epochs * epoch) in
    let text : calls.saved ≡ state_text state = c.is in
    let long = not_long network is calls.epochs some c.early in
    record {
      first = head_text network calls.epochs;
      rest = resume_text network state;
      whole = trace_of network;
      head_is = ap (λ o. verdict files (plan_for o)) calls.head_asks ∙ head_accepted files calls.file calls.epochs network c.accepted_is c.early;
      resume_is = ap (λ o. verdict later (plan_for o)) calls.resume_asks
          ∙ resume_accepted later calls.file calls.state (state_text state) network state (calls.kept ∙ c.accepted_is) (calls.written ∙ ap Some text) long (read_again network is calls.epochs some c.early);
      run_is = ap (λ o. verdict files (plan_for o)) calls.run_asks ∙ run_accepted files calls.file network c.accepted_is;
      short = subst (λ t. length t ≤ MOST_STATE_BYTES) (sym text) long;
      joined = pieces_are network is calls.epochs some c.early;
    }

-- ---- whatever the calls are accepted with
same_text : {A : Type 0} (files : Files) (p : Plan A) (is got : A) → verdict files p ≡ Accepted is → Accepts files p got → is ≡ got
same_text files p is got e a = let same : Accepted is ≡ Accepted got = subst (λ v. Says v (Accepted got)) e a.verdict_is in cc

pub joined : (files later : Files) (head save resume run : List (List ℕ)) (first rest whole : List ℕ) → IsInPieces files later head save resume run
    → Accepts files (plan head) first → Accepts later (plan resume) rest → Accepts files (plan run) whole
    → first ++ rest ≡ whole
joined files later head save resume run first rest whole calls a b c =
    let p = pieces files later head save resume run calls in
    let x = same_text files (plan head) p.first first p.head_is a in
    let y = same_text later (plan resume) p.rest rest p.resume_is b in
    let z = same_text files (plan run) p.whole whole p.run_is c in
    (λ i. sym x i ++ sym y i) ∙ p.joined ∙ z
