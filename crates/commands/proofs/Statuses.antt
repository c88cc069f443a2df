-- What each status says of a call.
use Rattle.std.proofs.Common.{◌≡◌, ◌≢◌, ◌⊎◌, ℕ, ◌+◌, ◌*◌, nat_le, nat_lt, Bool, if◌then◌else◌, List, Option, Some, None, is_some, true, false, Result, Ok, Err, inl, inr, refl, sym, ap, ◌∙◌, subst}
use Rattle.sim_io.specs.Outside.{Rose}
use Rattle.command_words.specs.Words.{Asked, Node, Run, RunPlain, Monitor, Sniff, Check, Disasm, Asm, Make, Head, Save, Resume, HeadOn, SaveOn, MonitorSpan, Sweep, Look, LookOn, Watch, WatchOn, WatchSweep, asked_by, shown}
use Rattle.command_words.specs.declared.command.Command.{Command}
use Rattle.world_core.specs.Kept.{epoch}
use Rattle.scenario_file.specs.Scenario.{ScenarioParts}
use Rattle.scenario_file.specs.declared.fault.ScenarioFault.TheVariants.{OutOfRange}
use Rattle.node_runner.specs.Scenario.{ScenarioOf}
use Rattle.checkpoint_text.specs.Onward.{onward}
use Rattle.checkpoint_text.specs.State.{counts_fit, state_in}
use Rattle.state_text.specs.Text.{StateOf}
use Rattle.state_text.specs.declared.fault.StateFault.{StateFault}
use Rattle.state_text.specs.declared.fault.StateFault.TheVariants.{PastEnd}
use Rattle.command_plans.specs.Plan.{Plan, Give, Refuse, Refusal, BadWords, BadScenario, BadImage, BadSource, BadState, BadMoves, BadPlaces, and_then, image_plan, images_plan, moves_plan, places_plan, scenario_plan, source_plan}
use Rattle.command_plans.specs.Reading.{Files, Reached, Here, Verdict, Untold, Refused as RefusedVerdict, Accepted, Says, verdict}
use Rattle.command_plans.specs.Ends.{Ends, End, Done, OutFailed, NoMemory, ReadFailed, Refused, Reads, Stream, status_due, EndedSaying, EndedUnsaid, HasStatus}
use Rattle.command_plans.specs.Parts.{Told, Said, Unsaid, Reported, Stopped, Written, end_of}
use Rattle.command_plans.specs.declared.trouble.Trouble.{Trouble}
use Rattle.command_plans.specs.declared.trouble.ImageCause.{ImageCause}
use Rattle.command_plans.specs.declared.trouble.ScenarioCause.{ScenarioCause}
use Rattle.command_plans.specs.declared.trouble.ScenarioCause.TheVariants as scenario_cause
use Rattle.command_plans.specs.declared.trouble.SourceCause.{SourceCause}
use Rattle.command_plans.specs.declared.trouble.StateCause.{StateCause}
use Rattle.command_plans.specs.declared.trouble.MovesCause.{MovesCause}
use Rattle.command_plans.specs.declared.trouble.PlacesCause.{PlacesCause}
use Rattle.command_plans.specs.declared.trouble.StateCause.TheVariants as cause
use Rattle.command_plans.specs.declared.status.Status.{Status}
use Rattle.command_plans.specs.declared.status.Status.TheVariants as case
use Rattle.command_plans.proofs.Endings.{KeepsWords, ends_written, ends_stopped, keeps_both, keeps_image, keeps_images, keeps_moves, keeps_places, keeps_reached, keeps_scenario, keeps_source, reported_stop, state_is_no_words}
use Rattle.commands.specs.Plan.{begun_plan, come_or, cut_on_or, cut_on_plan, cut_plan, images_for, look_from_or, look_from_plan, look_plan, network_plan, plan, plan_for, plan_of, span_or, span_plan, state_or, state_plan, sweep_plan, up_to_or, up_to_plan, watch_begun_plan, watch_from_or, watch_on_plan, watch_plan, watch_sweep_plan}
use Rattle.commands.specs.TopClause.{TopClause}
use Rattle.commands.specs.Parts.{JobRead, Prepared, Prepares, Ready, output}
use Rattle.commands.specs.declared.job.Job.{Job}

asked_not_none : (o : Option Asked) (asked : Asked) → o ≡ Some asked → o ≡ None → ⊥
asked_not_none o asked e none = cc

keeps_images_for : (parts : ScenarioParts) → KeepsWords (images_for parts)
keeps_images_for parts = keeps_both (images_plan parts.images) _ (keeps_images _ parts.images) (λ images. tt)

keeps_network : (name : List ℕ) → KeepsWords (network_plan name)
keeps_network name = keeps_both (scenario_plan name) images_for (keeps_scenario name) keeps_images_for

keeps_if : {A : Type 0} (b : Bool) (got : A) (refusal : Refusal) → refusal ≢ BadWords → KeepsWords (if b then Give got else Refuse refusal)
keeps_if true got refusal h = tt
keeps_if false got refusal h = h

past_run_is_no_words : (name : List ℕ) (why : ScenarioCause) → BadScenario name why ≢ BadWords
past_run_is_no_words name why e = cc

keeps_span : (name : List ℕ) (from to : ℕ) → KeepsWords (span_plan name from to)
keeps_span name from to =
    keeps_both (and_then (scenario_plan name) (span_or name from to)) images_for
    (keeps_both (scenario_plan name) (span_or name from to) (keeps_scenario name)
    (λ parts. keeps_if (nat_le to parts.topology.limit) _ _ (past_run_is_no_words name (scenario_cause.Faulty OutOfRange))))
    keeps_images_for

keeps_cut : (name : List ℕ) (epochs : ℕ) → KeepsWords (cut_plan name epochs)
keeps_cut name epochs =
    keeps_both (network_plan name) _ (keeps_network name)
    (λ network. keeps_if (nat_lt (epochs * epoch) network.topo.limit) network _ (state_is_no_words name (cause.Faulty PastEnd)))

keeps_state_or : (name : List ℕ) (r : Result StateOf StateFault) → KeepsWords (state_or name r)
keeps_state_or name (Ok state) = tt
keeps_state_or name (Err fault) = state_is_no_words name (cause.Faulty fault)

keeps_state : (network : ScenarioOf) (name : List ℕ) → KeepsWords (state_plan network name)
keeps_state network name = (state_is_no_words name cause.TooLong, λ bytes. keeps_state_or name (state_in network bytes))

keeps_cut_on : (file : List ℕ) (epochs : ℕ) (name : List ℕ) → KeepsWords (cut_on_plan file epochs name)
keeps_cut_on file epochs name =
    keeps_both (network_plan file) _ (keeps_network file)
    (λ network. keeps_both (state_plan network name) (cut_on_or name epochs network) (keeps_state network name)
    (λ state. keeps_if (nat_lt (state.cycle + epochs * epoch) network.topo.limit) _ _ (state_is_no_words name (cause.Faulty PastEnd))))

keeps_look : (name : List ℕ) (cycle : ℕ) → KeepsWords (look_plan name cycle)
keeps_look name cycle =
    keeps_both (network_plan name) _ (keeps_network name)
    (λ network. keeps_if (nat_le cycle network.topo.limit) network _ (state_is_no_words name (cause.Faulty PastEnd)))

keeps_unless : {A : Type 0} (b : Bool) (refusal : Refusal) (rest : Plan A) → refusal ≢ BadWords → KeepsWords rest → KeepsWords (if b then Refuse refusal else rest)
keeps_unless true refusal rest h k = h
keeps_unless false refusal rest h k = k

keeps_look_from : (file : List ℕ) (cycle : ℕ) (name : List ℕ) → KeepsWords (look_from_plan file cycle name)
keeps_look_from file cycle name =
    keeps_both (network_plan file) _ (keeps_network file)
    (λ network. keeps_both (state_plan network name) (look_from_or name cycle network) (keeps_state network name)
    (λ state. keeps_unless (nat_lt cycle state.cycle) _ _ (state_is_no_words name cause.PastCycle)
    (keeps_if (nat_le cycle network.topo.limit) _ _ (state_is_no_words name (cause.Faulty PastEnd)))))

keeps_come : (name : List ℕ) (network : ScenarioOf) (state : StateOf) (cycle : ℕ) → KeepsWords (come_or name network state cycle)
keeps_come name network state cycle = keeps_if (counts_fit (onward network state) cycle) _ _ (state_is_no_words name cause.TooMany)

keeps_begun : (file name : List ℕ) → KeepsWords (begun_plan file name)
keeps_begun file name = keeps_both (network_plan file) _ (keeps_network file) (λ network. keeps_both (state_plan network name) _ (keeps_state network name) (λ state. tt))

keeps_sweep : (file state name : List ℕ) → KeepsWords (sweep_plan file state name)
keeps_sweep file state name =
    keeps_both (begun_plan file state) _ (keeps_begun file state) (λ begun. keeps_both (moves_plan begun.0.topo.nodes name) _ (keeps_moves begun.0.topo.nodes name) (λ moves. tt))

keeps_up_to : (name : List ℕ) (to : ℕ) → KeepsWords (up_to_plan name to)
keeps_up_to name to =
    keeps_both (and_then (scenario_plan name) (up_to_or name to)) images_for
    (keeps_both (scenario_plan name) (up_to_or name to) (keeps_scenario name)
    (λ parts. keeps_if (nat_le to parts.topology.limit) _ _ (past_run_is_no_words name (scenario_cause.Faulty OutOfRange))))
    keeps_images_for

keeps_watch : (file : List ℕ) (to : ℕ) (name : List ℕ) → KeepsWords (watch_plan file to name)
keeps_watch file to name =
    keeps_both (up_to_plan file to) _ (keeps_up_to file to)
    (λ network. keeps_both (places_plan network.topo.nodes name) _ (keeps_places network.topo.nodes name) (λ places. tt))

keeps_watch_begun : (file : List ℕ) (to : ℕ) (places name : List ℕ) → KeepsWords (watch_begun_plan file to places name)
keeps_watch_begun file to places name =
    keeps_both (watch_plan file to places) _ (keeps_watch file to places) (λ it. keeps_both (state_plan it.0 name) _ (keeps_state it.0 name) (λ state. tt))

keeps_watch_on : (file : List ℕ) (from to : ℕ) (places name : List ℕ) → KeepsWords (watch_on_plan file from to places name)
keeps_watch_on file from to places name =
    keeps_both (watch_begun_plan file to places name) (watch_from_or name from) (keeps_watch_begun file to places name)
    (λ it. keeps_unless (nat_lt from it.1.cycle) _ _ (state_is_no_words name cause.PastCycle) tt)

keeps_watch_sweep : (file : List ℕ) (from to : ℕ) (places state name : List ℕ) → KeepsWords (watch_sweep_plan file from to places state name)
keeps_watch_sweep file from to places state name =
    keeps_both (watch_on_plan file from to places state) _ (keeps_watch_on file from to places state)
    (λ it. keeps_both (moves_plan it.0.0.topo.nodes name) _ (keeps_moves it.0.0.topo.nodes name) (λ moves. tt))

keeps_plan : (asked : Asked) → KeepsWords (plan_of asked)
unfolding plan_of
keeps_plan (Node file cycles) = keeps_both (image_plan file) _ (keeps_image file) (λ flash. tt)
keeps_plan (Run file) = keeps_both (network_plan file) _ (keeps_network file) (λ network. tt)
keeps_plan (RunPlain file) = keeps_both (network_plan file) _ (keeps_network file) (λ network. tt)
keeps_plan (Monitor file) = keeps_both (network_plan file) _ (keeps_network file) (λ network. tt)
keeps_plan (Sniff file) = keeps_both (network_plan file) _ (keeps_network file) (λ network. tt)
keeps_plan (Check file) = keeps_both (network_plan file) _ (keeps_network file) (λ network. tt)
keeps_plan (Disasm file) = keeps_both (image_plan file) _ (keeps_image file) (λ flash. tt)
keeps_plan (Asm file) = keeps_both (source_plan file) _ (keeps_source file) (λ words. tt)
keeps_plan (Make number) = tt
keeps_plan (Head file epochs) = keeps_both (cut_plan file epochs) _ (keeps_cut file epochs) (λ network. tt)
keeps_plan (Save file epochs) = keeps_both (cut_plan file epochs) _ (keeps_cut file epochs) (λ network. tt)
keeps_plan (Resume file state) =
    keeps_both (network_plan file) _ (keeps_network file) (λ network. keeps_both (state_plan network state) _ (keeps_state network state) (λ saved. tt))
keeps_plan (HeadOn file epochs state) = keeps_both (cut_on_plan file epochs state) _ (keeps_cut_on file epochs state) (λ at. tt)
keeps_plan (SaveOn file epochs state) =
    keeps_both (cut_on_plan file epochs state) _ (keeps_cut_on file epochs state) (λ at. keeps_come state at.0 at.1 (at.1.cycle + epochs * epoch))
keeps_plan (Look file cycle) = keeps_both (look_plan file cycle) _ (keeps_look file cycle) (λ network. tt)
keeps_plan (LookOn file cycle state) = keeps_both (look_from_plan file cycle state) _ (keeps_look_from file cycle state) (λ at. keeps_come state at.0 at.1 cycle)
keeps_plan (Sweep file state moves) = keeps_both (sweep_plan file state moves) _ (keeps_sweep file state moves) (λ it. tt)
keeps_plan (Watch file from to places) = keeps_both (watch_plan file to places) _ (keeps_watch file to places) (λ it. tt)
keeps_plan (WatchOn file from to places state) = keeps_both (watch_on_plan file from to places state) _ (keeps_watch_on file from to places state) (λ it. tt)
keeps_plan (WatchSweep file from to places state moves) =
    keeps_both (watch_sweep_plan file from to places state moves) _ (keeps_watch_sweep file from to places state moves) (λ it. tt)
keeps_plan (MonitorSpan file from to) = keeps_both (span_plan file from to) _ (keeps_span file from to) (λ network. tt)

-- words are refused only where nothing is asked for
asked_none : (files : Files) (asked : Option Asked) → Reached files (plan_for asked) (Refuse BadWords) → asked ≡ None
asked_none files None r = refl
asked_none files (Some asked) r = absurd (keeps_reached files (plan_of asked) (Refuse BadWords) r (keeps_plan asked) refl)

-- the ends that have this status
abbrev EndsWith : Status → End → Type 0
EndsWith case.Done end = end ≡ Done
EndsWith case.SinkFailed end = end ≡ OutFailed
EndsWith case.BadWords end = end ≡ Refused BadWords
EndsWith case.ReadFailed end = (name : List ℕ) × (end ≡ ReadFailed name)
EndsWith case.BadScenario end = (name : List ℕ) × ((why : ScenarioCause) × (end ≡ Refused (BadScenario name why)))
EndsWith case.BadImage end = (name : List ℕ) × ((why : ImageCause) × (end ≡ Refused (BadImage name why)))
EndsWith case.NoMemory end = end ≡ NoMemory
EndsWith case.BadSource end = (name : List ℕ) × ((why : SourceCause) × (end ≡ Refused (BadSource name why)))
EndsWith case.BadState end =
    ((name : List ℕ) × ((why : StateCause) × (end ≡ Refused (BadState name why))))
    ⊎ (((name : List ℕ) × ((why : MovesCause) × (end ≡ Refused (BadMoves name why)))) ⊎ ((name : List ℕ) × ((why : PlacesCause) × (end ≡ Refused (BadPlaces name why)))))

ends_with_due : (end : End) → EndsWith (status_due end) end
ends_with_due Done = refl
ends_with_due OutFailed = refl
ends_with_due NoMemory = refl
ends_with_due (ReadFailed name) = (name, refl)
ends_with_due (Refused BadWords) = refl
ends_with_due (Refused (BadScenario name why)) = (name, (why, refl))
ends_with_due (Refused (BadImage name why)) = (name, (why, refl))
ends_with_due (Refused (BadSource name why)) = (name, (why, refl))
ends_with_due (Refused (BadState name why)) = inl (name, (why, refl))
ends_with_due (Refused (BadMoves name why)) = inr (inl (name, (why, refl)))
ends_with_due (Refused (BadPlaces name why)) = inr (inr (name, (why, refl)))

ends_with : (x answer : Status) (end : End) → answer ≡ status_due end → answer ≡ x → EndsWith x end
ends_with x answer end e f = subst (λ s. EndsWith s end) (sym e ∙ f) (ends_with_due end)

has_status : {A : Type 0} (v w : Verdict A) (answer : Status) → Says v w → HasStatus w answer → HasStatus v answer
has_status Untold w answer s h = tt
has_status (RefusedVerdict r) w answer s h = subst (λ x. HasStatus x answer) (sym s) h
has_status (Accepted j) w answer s h = subst (λ x. HasStatus x answer) (sym s) h

-- all was done; or an end was told; or it could not be told
data How (files : Files) (plan : Plan (List ℕ)) (store store' : Reads) (out out' err err' : Stream) (answer : Status) : Type 0 where
  AllDone : Ends files plan store store' out out' Done → answer ≡ case.Done → err' ≡ err → How files plan store store' out out' err err' answer
  Saying : (end : End) → end ≢ Done → answer ≡ status_due end → EndedSaying files plan store store' out out' err err' end → How files plan store store' out out' err err' answer
  Unsaying : (end : End) → answer ≡ case.SinkFailed → EndedUnsaid files plan store store' out out' err err' end → How files plan store store' out out' err err' answer

module _ (files : Files) (words : List (List ℕ)) (store store' : Reads) (out out' err err' : Stream) (answer : Status) where
  abbrev SaidSo : End → Type 0
  SaidSo end = EndedSaying files (plan words) store store' out out' err err' end

  abbrev HowNow : Type 0
  HowNow = How files (plan words) store store' out out' err err' answer

  how_told : (end : End) → end ≢ Done → Ends files (plan words) store store' out out' end → Told end err err' answer → HowNow
  how_told end not_done ends (Said s t) = Saying end not_done s (ends, t)
  how_told end not_done ends (Unsaid s f) = Unsaying end s (not_done, ends, f)

  how_ended : (end : End) → Ends files (plan words) store store' out out' end → Reported end err err' answer → HowNow
  how_ended Done ends r = AllDone ends r.0 r.1
  how_ended OutFailed ends r = how_told OutFailed (λ e. cc) ends r
  how_ended NoMemory ends r = how_told NoMemory (λ e. cc) ends r
  how_ended (ReadFailed name) ends r = how_told (ReadFailed name) (λ e. cc) ends r
  how_ended (Refused refusal) ends r = how_told (Refused refusal) (λ e. cc) ends r

  -- the end that was told, where the status is neither 0 nor 1
  said : HowNow → (x : Status) → answer ≡ x → x ≢ case.Done → x ≢ case.SinkFailed → (end : End) × EndsWith x end × SaidSo end
  said (AllDone ends s same) x e no_done no_sink = absurd (no_done (sym e ∙ s))
  said (Saying end not_done s so) x e no_done no_sink = (end, ends_with x answer end s e, so)
  said (Unsaying end s un) x e no_done no_sink = absurd (no_sink (sym e ∙ s))

  done_from : HowNow → answer ≡ case.Done → Ends files (plan words) store store' out out' Done × (err' ≡ err)
  done_from (AllDone ends s same) e = (ends, same)
  done_from (Saying end not_done s so) e = absurd (not_done (ends_with case.Done answer end s e))
  done_from (Unsaying end s un) e = absurd (cc)

  sink_from : HowNow → answer ≡ case.SinkFailed
      → SaidSo OutFailed ⊎ ((end : End) × EndedUnsaid files (plan words) store store' out out' err err' end)
  sink_from (AllDone ends s same) e = absurd (cc)
  sink_from (Saying end not_done s so) e = inl (subst SaidSo (ends_with case.SinkFailed answer end s e) so)
  sink_from (Unsaying end s un) e = inr (end, un)

  words_from : HowNow → answer ≡ case.BadWords → (asked_by words ≡ None) × SaidSo (Refused BadWords)
  words_from h e =
      let s = said h case.BadWords e (λ f. cc) (λ f. cc) in
      let so = subst SaidSo s.1 s.2 in
      (asked_none files (asked_by words) so.0.1.reached, so)

  read_from : HowNow → answer ≡ case.ReadFailed → (name : List ℕ) × SaidSo (ReadFailed name)
  read_from h e =
      let s = said h case.ReadFailed e (λ f. cc) (λ f. cc) in
      (s.1.0, subst SaidSo s.1.1 s.2)

  scenario_from : HowNow → answer ≡ case.BadScenario → (name : List ℕ) × ((why : ScenarioCause) × SaidSo (Refused (BadScenario name why)))
  scenario_from h e =
      let s = said h case.BadScenario e (λ f. cc) (λ f. cc) in
      (s.1.0, (s.1.1.0, subst SaidSo s.1.1.1 s.2))

  image_from : HowNow → answer ≡ case.BadImage → (name : List ℕ) × ((why : ImageCause) × SaidSo (Refused (BadImage name why)))
  image_from h e =
      let s = said h case.BadImage e (λ f. cc) (λ f. cc) in
      (s.1.0, (s.1.1.0, subst SaidSo s.1.1.1 s.2))

  source_from : HowNow → answer ≡ case.BadSource → (name : List ℕ) × ((why : SourceCause) × SaidSo (Refused (BadSource name why)))
  source_from h e =
      let s = said h case.BadSource e (λ f. cc) (λ f. cc) in
      (s.1.0, (s.1.1.0, subst SaidSo s.1.1.1 s.2))

  state_from : HowNow → answer ≡ case.BadState
      → ((name : List ℕ) × ((why : StateCause) × SaidSo (Refused (BadState name why))))
      ⊎ (((name : List ℕ) × ((why : MovesCause) × SaidSo (Refused (BadMoves name why)))) ⊎ ((name : List ℕ) × ((why : PlacesCause) × SaidSo (Refused (BadPlaces name why)))))
  state_from h e =
      let s = said h case.BadState e (λ f. cc) (λ f. cc) in
      elim s.1 [
        | inl state ↦ inl (state.0, (state.1.0, subst SaidSo state.1.1 s.2))
        | inr (inl moves) ↦ inr (inl (moves.0, (moves.1.0, subst SaidSo moves.1.1 s.2)))
        | inr (inr places) ↦ inr (inr (places.0, (places.1.0, subst SaidSo places.1.1 s.2)))
      ]

  memory_from : HowNow → answer ≡ case.NoMemory → SaidSo NoMemory
  memory_from h e =
      let s = said h case.NoMemory e (λ f. cc) (λ f. cc) in
      subst SaidSo s.1 s.2

  abbrev Expected : Type 0
  Expected =
      HasStatus (verdict files (plan words)) answer
      ⊎ ((answer ≡ case.NoMemory)
      ⊎ ((answer ≡ case.SinkFailed) × (Rose out.faults out'.faults ⊎ Rose err.faults err'.faults)))

  expected_end : (end : End) → Ends files (plan words) store store' out out' end → answer ≡ status_due end → (Rose store.faults store'.faults → ⊥) → Expected
  expected_end Done h s no_read = inl (has_status _ (Accepted h.1.0) answer h.1.1.verdict_is s)
  expected_end OutFailed h s no_read = inr (inr (s, inl h.1.2.rose))
  expected_end NoMemory h s no_read = inr (inl s)
  expected_end (ReadFailed name) h s no_read = absurd (no_read h.0.rose)
  expected_end (Refused refusal) h s no_read = inl (has_status _ (RefusedVerdict refusal) answer h.1.verdict_is s)

  expected_from : HowNow → (Rose store.faults store'.faults → ⊥) → Expected
  expected_from (AllDone ends s same) no_read = expected_end Done ends s no_read
  expected_from (Saying end not_done s so) no_read = expected_end end so.0 s no_read
  expected_from (Unsaying end s un) no_read = inr (inr (s, inr un.2.rose))

  words_told : Told (Refused BadWords) err err' answer → (answer ≡ case.BadWords) ⊎ ((answer ≡ case.SinkFailed) × Rose err.faults err'.faults)
  words_told (Said s t) = inl s
  words_told (Unsaid s f) = inr (s, f.rose)

  top_clause : (files' : Files) → files' ≡ files → HowNow → (asked_by words ≡ None → Reported (Refused BadWords) err err' answer)
      → TopClause files files' words store store' out out' err err' answer
  top_clause files' same how none = record {
    held = same;
    done = done_from how;
    sink_failed = sink_from how;
    bad_words = words_from how;
    read_failed = read_from how;
    bad_scenario = scenario_from how;
    bad_image = image_from how;
    no_memory = memory_from how;
    bad_source = source_from how;
    bad_state = state_from how;
    words_first = λ e. words_told (none e);
    complete = expected_from how;
  }

-- a call that was prepared ends with its job
pub done_clause : {A : Type 0} (files files' : Files) (words : List (List ℕ)) (store store' : Reads) (out out' err mid err' : Stream) (todo : Job) (r : Result A Trouble) (answer : Status)
    → Prepared files files' words store store' err mid todo → Written (output todo) out out' r → Reported (end_of r) mid err' answer
    → TopClause files files' words store store' out out' err err' answer
done_clause files files' words store store' out out' err mid err' todo r answer prepared ends reported =
    top_clause files words store store' out out' err err' answer files' prepared.held
    (how_ended files words store store' out out' err err' answer (end_of r)
    (ends_written files (plan words) (output todo) store store' out out' r prepared.ready.reached prepared.ready.same ends)
    (subst (λ e. Reported (end_of r) e err' answer) prepared.ready.silent reported))
    (λ none. let bad : false ≡ true = ap is_some (sym none) ∙ prepared.asked in absurd (cc))

-- a call whose reading stopped ends by the top clause
stopped_clause : (files files' : Files) (words : List (List ℕ)) (store store' : Reads) (err err' : Stream) (answer : Status) → files' ≡ files
    → Stopped files (plan words) store store' err err' answer → (asked_by words ≡ None → Reported (Refused BadWords) err err' answer) → (out : Stream)
    → TopClause files files' words store store' out out err err' answer
stopped_clause files files' words store store' err err' answer same h none out =
    top_clause files words store store' out out err err' answer files' same
    (how_ended files words store store' out out err err' answer h.end
    (ends_stopped files (plan words) store store' out h.end h.stops)
    (reported_stop files (plan words) store store' h.end err err' answer h.stops h.told))
    none

-- words that ask for something are followed by it
pub asked_prepares : (files files' : Files) (words : List (List ℕ)) (command : Command) (store store' : Reads) (err err' : Stream) (r : Result Job Status)
    → files' ≡ files → Some (shown command) ≡ asked_by words → JobRead files (plan_of (shown command)) store store' err err' r
    → Prepares files files' words store store' err err' r
asked_prepares files files' words command store store' err err' (Ok todo) same asked read = record {
  held = same;
  asked = ap is_some (sym asked);
  ready = subst (λ o. Ready files (plan_for o) store store' err err' todo) asked read;
}
asked_prepares files files' words command store store' err err' (Err answer) same asked stopped =
    stopped_clause files files' words store store' err err' answer same
    (subst (λ o. Stopped files (plan_for o) store store' err err' answer) asked stopped)
    (λ none. absurd (asked_not_none (asked_by words) (shown command) (sym asked) none))

-- words that ask for nothing are refused
pub refused_prepares : (files : Files) (words : List (List ℕ)) (store : Reads) (err err' : Stream) (answer : Status)
    → None ≡ asked_by words → Told (Refused BadWords) err err' answer → (out : Stream) → TopClause files files words store store out out err err' answer
refused_prepares files words store err err' answer none told =
    let refused : Reached files (plan_for None) (Refuse BadWords) = Here (Refuse BadWords) in
    stopped_clause files files words store store err err' answer refl
    (record { end = Refused BadWords; stops = (refl, subst (λ o. Reached files (plan_for o) (Refuse BadWords)) none refused); told = told })
    (λ e. told)

-- where memory is short for words that ask for something, nothing is done
pub short_prepares : (files : Files) (words : List (List ℕ)) (store : Reads) (err err' : Stream) (answer : Status)
    → is_some (asked_by words) ≡ true → Told NoMemory err err' answer → (out : Stream) → TopClause files files words store store out out err err' answer
short_prepares files words store err err' answer accepted told =
    stopped_clause files files words store store err err' answer refl
    (record { end = NoMemory; stops = refl; told = told })
    (λ none. let bad : false ≡ true = ap is_some (sym none) ∙ accepted in absurd (cc))
