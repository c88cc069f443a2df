use Rattle.std.proofs.Common.{ℕ, List, refl, sym, ap, arith}
use Rattle.std.proofs.lemmas.Result.{err_from_is_err_and}
use Rattle.node_runner.specs.Scenario.{ScenarioOf}
use Rattle.ihex_loader.specs.Hex.{hex_of}
use Rattle.run_reports.specs.Frames.{frames_text}
use Rattle.run_reports.specs.Profiles.{profiles_text}
use Rattle.command_plans.specs.Plan.{Give, image_plan, source_plan}
use Rattle.command_plans.specs.Parts.{end_at}
use Rattle.command_plans.specs.Reading.{Here}
use Rattle.command_plans.proofs.Steps.{stopped_behind}
use Rattle.commands.specs.Listing.{listing}
use Rattle.commands.specs.Network.{lone_node, size_line, trace_of}
use Rattle.commands.specs.Parts.{output}
use Rattle.commands.specs.Plan.{cut_on_plan, cut_plan, look_plan, network_plan, plan_of, span_plan, sweep_plan, watch_on_plan, watch_plan, watch_sweep_plan}
use Rattle.commands.specs.Sample.{sample_line}
use Rattle.commands.specs.Texts.{head_on_text, head_text, look_text, save_text, sweep_text, watch_on_text, watch_sweep_text, watch_text}
use Rattle.commands.proofs.Networks.{network_ready, ready}
use Rattle.commands.proofs.Placed.{same_span}
use Rattle.commands.proofs.States.{resume_ready, resume_stopped}
use Rattle.commands.proofs.reading.read_job.Goals as goal

pub returns-in_ok-read_network-in-Run-clause-read : goal.returns-in_ok-read_network-in-Run-clause-read
unfolding plan_of output
returns-in_ok-read_network-in-Run-clause-read g c = rw c.in-Run.is (network_ready _ (network_plan c.in-Run.file.now) trace_of _ _ _ _ _ _ c.in_ok-read_network-in-Run.ensures.ok refl tt)

pub returns-in_err-read_network-in-Run-clause-read : goal.returns-in_err-read_network-in-Run-clause-read
unfolding plan_of output
returns-in_err-read_network-in-Run-clause-read g c =
    let p = err_from_is_err_and c.from_residual.result c.from_residual.ensures.1 in
    rw (p.1, p.2, c.in-Run.is) (stopped_behind _ (network_plan c.in-Run.file.now) _ _ _ _ _ _ c.in_err-read_network-in-Run.ensures.err)

pub returns-in_ok-read_network-in-RunPlain-clause-read : goal.returns-in_ok-read_network-in-RunPlain-clause-read
unfolding plan_of output
returns-in_ok-read_network-in-RunPlain-clause-read g c = rw c.in-RunPlain.is (network_ready _ (network_plan c.in-RunPlain.file.now) trace_of _ _ _ _ _ _ c.in_ok-read_network-in-RunPlain.ensures.ok refl tt)

pub returns-in_err-read_network-in-RunPlain-clause-read : goal.returns-in_err-read_network-in-RunPlain-clause-read
unfolding plan_of output
returns-in_err-read_network-in-RunPlain-clause-read g c =
    let p = err_from_is_err_and c.from_residual-in_err-read_network-in-RunPlain.result c.from_residual-in_err-read_network-in-RunPlain.ensures.1 in
    rw (p.1, p.2, c.in-RunPlain.is) (stopped_behind _ (network_plan c.in-RunPlain.file.now) _ _ _ _ _ _ c.in_err-read_network-in-RunPlain.ensures.err)

pub returns-in_ok-read_network-in-Monitor-clause-read : goal.returns-in_ok-read_network-in-Monitor-clause-read
unfolding plan_of output
returns-in_ok-read_network-in-Monitor-clause-read g c = rw c.in-Monitor.is (network_ready _ (network_plan c.in-Monitor.file.now) profiles_text _ _ _ _ _ _ c.in_ok-read_network-in-Monitor.ensures.ok refl c.in_ok-read_network-in-Monitor.ensures.ok.within)

pub returns-in_err-read_network-in-Monitor-clause-read : goal.returns-in_err-read_network-in-Monitor-clause-read
unfolding plan_of output
returns-in_err-read_network-in-Monitor-clause-read g c =
    let p = err_from_is_err_and c.from_residual-in_err-read_network-in-Monitor.result c.from_residual-in_err-read_network-in-Monitor.ensures.1 in
    rw (p.1, p.2, c.in-Monitor.is) (stopped_behind _ (network_plan c.in-Monitor.file.now) _ _ _ _ _ _ c.in_err-read_network-in-Monitor.ensures.err)

pub returns-in_ok-read_network-in-Sniff-clause-read : goal.returns-in_ok-read_network-in-Sniff-clause-read
unfolding plan_of output
returns-in_ok-read_network-in-Sniff-clause-read g c = rw c.in-Sniff.is (network_ready _ (network_plan c.in-Sniff.file.now) frames_text _ _ _ _ _ _ c.in_ok-read_network-in-Sniff.ensures.ok refl tt)

pub returns-in_err-read_network-in-Sniff-clause-read : goal.returns-in_err-read_network-in-Sniff-clause-read
unfolding plan_of output
returns-in_err-read_network-in-Sniff-clause-read g c =
    let p = err_from_is_err_and c.from_residual-in_err-read_network-in-Sniff.result c.from_residual-in_err-read_network-in-Sniff.ensures.1 in
    rw (p.1, p.2, c.in-Sniff.is) (stopped_behind _ (network_plan c.in-Sniff.file.now) _ _ _ _ _ _ c.in_err-read_network-in-Sniff.ensures.err)

pub returns-in_ok-read_network-in-Check-clause-read : goal.returns-in_ok-read_network-in-Check-clause-read
unfolding plan_of output
returns-in_ok-read_network-in-Check-clause-read g c = rw c.in-Check.is (network_ready _ (network_plan c.in-Check.file.now) size_line _ _ _ _ _ _ c.in_ok-read_network-in-Check.ensures.ok refl tt)

pub returns-in_err-read_network-in-Check-clause-read : goal.returns-in_err-read_network-in-Check-clause-read
unfolding plan_of output
returns-in_err-read_network-in-Check-clause-read g c =
    let p = err_from_is_err_and c.from_residual-in_err-read_network-in-Check.result c.from_residual-in_err-read_network-in-Check.ensures.1 in
    rw (p.1, p.2, c.in-Check.is) (stopped_behind _ (network_plan c.in-Check.file.now) _ _ _ _ _ _ c.in_err-read_network-in-Check.ensures.err)

pub returns-in-Ok-lone_node-clause-read : goal.returns-in-Ok-lone_node-clause-read
unfolding plan_of output
returns-in-Ok-lone_node-clause-read g c =
    let read = c.in-Ok.ensures.read in
    let work : ScenarioOf → List ℕ = trace_of in
    rw c.in-Node.is
    (ready _ (image_plan c.in-Node.file.now) (λ flash. trace_of (lone_node flash c.in-Node.cycles)) _ _ _ _ _ _ read.1 (ap work (sym c.in-Ok-lone_node.ensures)) read.0 refl tt)

pub returns-in-Err-clause-read : goal.returns-in-Err-clause-read
unfolding plan_of output
returns-in-Err-clause-read g c =
    rw c.in-Node.is
    (stopped_behind _ (image_plan c.in-Node.file.now) _ _ _ _ _ _
    (record { end = end_at c.in-Err.trouble; stops = c.in-Err.ensures.read; told = c.tell-in-Err.ensures }))

pub returns-in-Ok-read_image-clause-read : goal.returns-in-Ok-read_image-clause-read
unfolding plan_of output
returns-in-Ok-read_image-clause-read g c =
    let read = c.in-Ok-read_image.ensures.read in
    rw c.in-Disasm.is (ready _ (image_plan c.in-Disasm.file.now) listing _ _ _ _ _ _ read.1 refl read.0 refl tt)

pub returns-in-Err-read_image-clause-read : goal.returns-in-Err-read_image-clause-read
unfolding plan_of output
returns-in-Err-read_image-clause-read g c =
    rw c.in-Disasm.is
    (stopped_behind _ (image_plan c.in-Disasm.file.now) _ _ _ _ _ _
    (record { end = end_at c.in-Err-read_image.trouble; stops = c.in-Err-read_image.ensures.read; told = c.tell-in-Err-read_image.ensures }))

pub returns-in-Ok-read_source-clause-read : goal.returns-in-Ok-read_source-clause-read
unfolding plan_of output
returns-in-Ok-read_source-clause-read g c =
    let read = c.in-Ok-read_source.ensures.read in
    rw c.in-Asm.is (ready _ (source_plan c.in-Asm.file.now) hex_of _ _ _ _ _ _ read.1 refl read.0 refl c.in-Ok-read_source.ensures.few)

pub returns-in-Err-read_source-clause-read : goal.returns-in-Err-read_source-clause-read
unfolding plan_of output
returns-in-Err-read_source-clause-read g c =
    rw c.in-Asm.is
    (stopped_behind _ (source_plan c.in-Asm.file.now) _ _ _ _ _ _
    (record { end = end_at c.in-Err-read_source.trouble; stops = c.in-Err-read_source.ensures.read; told = c.tell-in-Err-read_source.ensures }))

pub returns-in-Make-clause-read : goal.returns-in-Make-clause-read
unfolding plan_of output
returns-in-Make-clause-read g c = rw c.in-Make.is (record { reached = Here (Give (sample_line c.in-Make.number)); same = refl; silent = refl; short = tt })

pub returns-in_ok-network-in-Head-clause-read : goal.returns-in_ok-network-in-Head-clause-read
unfolding plan_of output
returns-in_ok-network-in-Head-clause-read g c = rw c.in-Head.is (network_ready _ (cut_plan c.in-Head.file.now c.in-Head.epochs) (λ network. head_text network c.in-Head.epochs) _ _ _ _ _ _ c.in_ok-network-in-Head.ensures.ok refl c.in_ok-network-in-Head.ensures.within)

pub returns-in_err-network-in-Head-clause-read : goal.returns-in_err-network-in-Head-clause-read
unfolding plan_of output
returns-in_err-network-in-Head-clause-read g c =
    let p = err_from_is_err_and c.from_residual-in_err-network-in-Head.result c.from_residual-in_err-network-in-Head.ensures.1 in
    rw (p.1, p.2, c.in-Head.is) (stopped_behind _ (cut_plan c.in-Head.file.now c.in-Head.epochs) _ _ _ _ _ _ c.in_err-network-in-Head.ensures.err)

pub returns-in_ok-network-in-Save-clause-read : goal.returns-in_ok-network-in-Save-clause-read
unfolding plan_of output
returns-in_ok-network-in-Save-clause-read g c =
    let early = c.in_ok-network-in-Save.ensures.within in
    rw c.in-Save.is (network_ready _ (cut_plan c.in-Save.file.now c.in-Save.epochs) (λ network. save_text network c.in-Save.epochs) _ _ _ _ _ _ c.in_ok-network-in-Save.ensures.ok refl (omega (arith, early)))

pub returns-in_err-network-in-Save-clause-read : goal.returns-in_err-network-in-Save-clause-read
unfolding plan_of output
returns-in_err-network-in-Save-clause-read g c =
    let p = err_from_is_err_and c.from_residual-in_err-network-in-Save.result c.from_residual-in_err-network-in-Save.ensures.1 in
    rw (p.1, p.2, c.in-Save.is) (stopped_behind _ (cut_plan c.in-Save.file.now c.in-Save.epochs) _ _ _ _ _ _ c.in_err-network-in-Save.ensures.err)

pub returns-in_err-network-in-Resume-clause-read : goal.returns-in_err-network-in-Resume-clause-read
unfolding plan_of output
returns-in_err-network-in-Resume-clause-read g c =
    let p = err_from_is_err_and c.from_residual-in_err-network-in-Resume.result c.from_residual-in_err-network-in-Resume.ensures.1 in
    rw (p.1, p.2, c.in-Resume.is) (stopped_behind _ (network_plan c.in-Resume.file.now) _ _ _ _ _ _ c.in_err-network-in-Resume.ensures.err)

pub returns-in-Ok-read_saved-clause-read : goal.returns-in-Ok-read_saved-clause-read
unfolding plan_of output
returns-in-Ok-read_saved-clause-read g c =
    rw c.in-Resume.is
    (resume_ready _ _ c.in-Resume.file.now c.in-Resume.state.now c.in_ok-network-in-Resume.network _ _ _ _ _ c.in_ok-network-in-Resume.ensures.ok c.in_ok-network-in-Resume.ensures.held
    c.in-Ok-read_saved.saved c.in-Ok-read_saved.ensures.read c.in-Ok-read_saved.ensures.fresh)

pub returns-in-Err-read_saved-clause-read : goal.returns-in-Err-read_saved-clause-read
unfolding plan_of output
returns-in-Err-read_saved-clause-read g c =
    rw c.in-Resume.is
    (resume_stopped _ _ c.in-Resume.file.now c.in-Resume.state.now c.in_ok-network-in-Resume.network _ _ _ _ _ c.in_ok-network-in-Resume.ensures.ok c.in_ok-network-in-Resume.ensures.held
    (end_at c.in-Err-read_saved.trouble) _ _ c.in-Err-read_saved.ensures.read c.tell-in-Err-read_saved.ensures)

pub returns-in_ok-network-in-HeadOn-clause-read : goal.returns-in_ok-network-in-HeadOn-clause-read
unfolding plan_of output
returns-in_ok-network-in-HeadOn-clause-read g c =
    let read = c.in_ok-network-in-HeadOn.ensures.ok in
    rw c.in-HeadOn.is (ready _ (cut_on_plan c.in-HeadOn.file.now c.in-HeadOn.epochs c.in-HeadOn.state.now) (λ at. head_on_text at.0 at.1 c.in-HeadOn.epochs) _ _ _ _ _ _ read.reached refl read.same read.silent c.in_ok-network-in-HeadOn.ensures.cut)

pub returns-in_err-network-in-HeadOn-clause-read : goal.returns-in_err-network-in-HeadOn-clause-read
unfolding plan_of output
returns-in_err-network-in-HeadOn-clause-read g c =
    let p = err_from_is_err_and c.from_residual-in_err-network-in-HeadOn.result c.from_residual-in_err-network-in-HeadOn.ensures.1 in
    rw (p.1, p.2, c.in-HeadOn.is) (stopped_behind _ (cut_on_plan c.in-HeadOn.file.now c.in-HeadOn.epochs c.in-HeadOn.state.now) _ _ _ _ _ _ c.in_err-network-in-HeadOn.ensures.err)

pub returns-in_ok-network-in-SaveOn-clause-read : goal.returns-in_ok-network-in-SaveOn-clause-read
unfolding plan_of output
returns-in_ok-network-in-SaveOn-clause-read g c =
    let read = c.in_ok-network-in-SaveOn.ensures.ok in
    rw c.in-SaveOn.is (record { reached = read.reached; same = read.same; silent = read.silent; short = c.in_ok-network-in-SaveOn.ensures.come })

pub returns-in_err-network-in-SaveOn-clause-read : goal.returns-in_err-network-in-SaveOn-clause-read
unfolding plan_of output
returns-in_err-network-in-SaveOn-clause-read g c =
    let p = err_from_is_err_and c.from_residual-in_err-network-in-SaveOn.result c.from_residual-in_err-network-in-SaveOn.ensures.1 in
    rw (p.1, p.2, c.in-SaveOn.is) c.in_err-network-in-SaveOn.ensures.err

pub returns-in_ok-network-in-Look-clause-read : goal.returns-in_ok-network-in-Look-clause-read
unfolding plan_of output
returns-in_ok-network-in-Look-clause-read g c = rw c.in-Look.is (network_ready _ (look_plan c.in-Look.file.now c.in-Look.cycle) (λ network. look_text network c.in-Look.cycle) _ _ _ _ _ _ c.in_ok-network-in-Look.ensures.ok refl c.in_ok-network-in-Look.ensures.within)

pub returns-in_err-network-in-Look-clause-read : goal.returns-in_err-network-in-Look-clause-read
unfolding plan_of output
returns-in_err-network-in-Look-clause-read g c =
    let p = err_from_is_err_and c.from_residual-in_err-network-in-Look.result c.from_residual-in_err-network-in-Look.ensures.1 in
    rw (p.1, p.2, c.in-Look.is) (stopped_behind _ (look_plan c.in-Look.file.now c.in-Look.cycle) _ _ _ _ _ _ c.in_err-network-in-Look.ensures.err)

pub returns-in_ok-network-in-LookOn-clause-read : goal.returns-in_ok-network-in-LookOn-clause-read
unfolding plan_of output
returns-in_ok-network-in-LookOn-clause-read g c =
    let read = c.in_ok-network-in-LookOn.ensures.ok in
    rw c.in-LookOn.is (record { reached = read.reached; same = read.same; silent = read.silent; short = c.in_ok-network-in-LookOn.ensures.come })

pub returns-in_err-network-in-LookOn-clause-read : goal.returns-in_err-network-in-LookOn-clause-read
unfolding plan_of output
returns-in_err-network-in-LookOn-clause-read g c =
    let p = err_from_is_err_and c.from_residual-in_err-network-in-LookOn.result c.from_residual-in_err-network-in-LookOn.ensures.1 in
    rw (p.1, p.2, c.in-LookOn.is) c.in_err-network-in-LookOn.ensures.err

pub returns-in_ok-network-in-MonitorSpan-clause-read : goal.returns-in_ok-network-in-MonitorSpan-clause-read
unfolding plan_of output
returns-in_ok-network-in-MonitorSpan-clause-read g c = rw c.in-MonitorSpan.is (network_ready _ (span_plan c.in-MonitorSpan.file.now c.in-MonitorSpan.from c.in-MonitorSpan.to) profiles_text _ _ _ _ _ _ c.in_ok-network-in-MonitorSpan.ensures.ok refl c.in_ok-network-in-MonitorSpan.ensures.ok.within)

pub returns-in_err-network-in-MonitorSpan-clause-read : goal.returns-in_err-network-in-MonitorSpan-clause-read
unfolding plan_of output
returns-in_err-network-in-MonitorSpan-clause-read g c =
    let p = err_from_is_err_and c.from_residual-in_err-network-in-MonitorSpan.result c.from_residual-in_err-network-in-MonitorSpan.ensures.1 in
    rw (p.1, p.2, c.in-MonitorSpan.is) (stopped_behind _ (span_plan c.in-MonitorSpan.file.now c.in-MonitorSpan.from c.in-MonitorSpan.to) _ _ _ _ _ _ c.in_err-network-in-MonitorSpan.ensures.err)

pub returns-in_ok-network-in-Sweep-clause-read : goal.returns-in_ok-network-in-Sweep-clause-read
unfolding plan_of output
returns-in_ok-network-in-Sweep-clause-read g c =
    let read = c.in_ok-network-in-Sweep.ensures.ok in
    rw c.in-Sweep.is (ready _ (sweep_plan c.in-Sweep.file.now c.in-Sweep.state.now c.in-Sweep.moves.now) (λ it. sweep_text it.0.0 it.0.1 it.1) _ _ _ _ _ _ read.reached refl read.same read.silent (record { sweep = c.in_ok-network-in-Sweep.ensures.fit; tail = tt }))

pub returns-in_err-network-in-Sweep-clause-read : goal.returns-in_err-network-in-Sweep-clause-read
unfolding plan_of output
returns-in_err-network-in-Sweep-clause-read g c =
    let p = err_from_is_err_and c.from_residual-in_err-network-in-Sweep.result c.from_residual-in_err-network-in-Sweep.ensures.1 in
    rw (p.1, p.2, c.in-Sweep.is) (stopped_behind _ (sweep_plan c.in-Sweep.file.now c.in-Sweep.state.now c.in-Sweep.moves.now) _ _ _ _ _ _ c.in_err-network-in-Sweep.ensures.err)

pub returns-in_ok-network-in-Watch-clause-read : goal.returns-in_ok-network-in-Watch-clause-read
unfolding plan_of output
returns-in_ok-network-in-Watch-clause-read g c =
    let read = c.in_ok-network-in-Watch.ensures.ok in
    rw c.in-Watch.is (ready _ (watch_plan c.in-Watch.file.now c.in-Watch.to c.in-Watch.places.now) (λ it. watch_text it.0 it.1 c.in-Watch.from c.in-Watch.to) (c.in_ok-network-in-Watch.network, c.in_ok-network-in-Watch.watch.places.items) _ _ _ _ _ read.reached (same_span (λ a b. watch_text c.in_ok-network-in-Watch.network c.in_ok-network-in-Watch.watch.places.items a b) c.in_ok-network-in-Watch.watch.from c.in_ok-network-in-Watch.watch.to c.in-Watch.from c.in-Watch.to c.in_ok-network-in-Watch.ensures.span) read.same read.silent c.in_ok-network-in-Watch.ensures.fit)

pub returns-in_err-network-in-Watch-clause-read : goal.returns-in_err-network-in-Watch-clause-read
unfolding plan_of output
returns-in_err-network-in-Watch-clause-read g c =
    let p = err_from_is_err_and c.from_residual-in_err-network-in-Watch.result c.from_residual-in_err-network-in-Watch.ensures.1 in
    rw (p.1, p.2, c.in-Watch.is) (stopped_behind _ (watch_plan c.in-Watch.file.now c.in-Watch.to c.in-Watch.places.now) _ _ _ _ _ _ c.in_err-network-in-Watch.ensures.err)

pub returns-in_ok-network-in-WatchOn-clause-read : goal.returns-in_ok-network-in-WatchOn-clause-read
unfolding plan_of output
returns-in_ok-network-in-WatchOn-clause-read g c =
    let read = c.in_ok-network-in-WatchOn.ensures.ok in
    rw c.in-WatchOn.is (ready _ (watch_on_plan c.in-WatchOn.file.now c.in-WatchOn.from c.in-WatchOn.to c.in-WatchOn.places.now c.in-WatchOn.state.now) (λ it. watch_on_text it.0.0 it.1 it.0.1 c.in-WatchOn.from c.in-WatchOn.to) ((c.in_ok-network-in-WatchOn.network, c.in_ok-network-in-WatchOn.watch.places.items), c.in_ok-network-in-WatchOn.state) _ _ _ _ _ read.reached (same_span (λ a b. watch_on_text c.in_ok-network-in-WatchOn.network c.in_ok-network-in-WatchOn.state c.in_ok-network-in-WatchOn.watch.places.items a b) c.in_ok-network-in-WatchOn.watch.from c.in_ok-network-in-WatchOn.watch.to c.in-WatchOn.from c.in-WatchOn.to c.in_ok-network-in-WatchOn.ensures.span) read.same read.silent c.in_ok-network-in-WatchOn.ensures.fit)

pub returns-in_err-network-in-WatchOn-clause-read : goal.returns-in_err-network-in-WatchOn-clause-read
unfolding plan_of output
returns-in_err-network-in-WatchOn-clause-read g c =
    let p = err_from_is_err_and c.from_residual-in_err-network-in-WatchOn.result c.from_residual-in_err-network-in-WatchOn.ensures.1 in
    rw (p.1, p.2, c.in-WatchOn.is) (stopped_behind _ (watch_on_plan c.in-WatchOn.file.now c.in-WatchOn.from c.in-WatchOn.to c.in-WatchOn.places.now c.in-WatchOn.state.now) _ _ _ _ _ _ c.in_err-network-in-WatchOn.ensures.err)

pub returns-in_ok-network-in-WatchSweep-clause-read : goal.returns-in_ok-network-in-WatchSweep-clause-read
unfolding plan_of output
returns-in_ok-network-in-WatchSweep-clause-read g c =
    let read = c.in_ok-network-in-WatchSweep.ensures.ok in
    rw c.in-WatchSweep.is (ready _ (watch_sweep_plan c.in-WatchSweep.file.now c.in-WatchSweep.from c.in-WatchSweep.to c.in-WatchSweep.places.now c.in-WatchSweep.state.now c.in-WatchSweep.moves.now) (λ it. watch_sweep_text it.0.0.0 it.0.1 it.1 it.0.0.1 c.in-WatchSweep.from c.in-WatchSweep.to) (((c.in_ok-network-in-WatchSweep.network, c.in_ok-network-in-WatchSweep.watch.places.items), c.in_ok-network-in-WatchSweep.state), c.in_ok-network-in-WatchSweep.moves.items) _ _ _ _ _ read.reached (same_span (λ a b. watch_sweep_text c.in_ok-network-in-WatchSweep.network c.in_ok-network-in-WatchSweep.state c.in_ok-network-in-WatchSweep.moves.items c.in_ok-network-in-WatchSweep.watch.places.items a b) c.in_ok-network-in-WatchSweep.watch.from c.in_ok-network-in-WatchSweep.watch.to c.in-WatchSweep.from c.in-WatchSweep.to c.in_ok-network-in-WatchSweep.ensures.span) read.same read.silent c.in_ok-network-in-WatchSweep.ensures.fit)

pub returns-in_err-network-in-WatchSweep-clause-read : goal.returns-in_err-network-in-WatchSweep-clause-read
unfolding plan_of output
returns-in_err-network-in-WatchSweep-clause-read g c =
    let p = err_from_is_err_and c.from_residual-in_err-network-in-WatchSweep.result c.from_residual-in_err-network-in-WatchSweep.ensures.1 in
    rw (p.1, p.2, c.in-WatchSweep.is) (stopped_behind _ (watch_sweep_plan c.in-WatchSweep.file.now c.in-WatchSweep.from c.in-WatchSweep.to c.in-WatchSweep.places.now c.in-WatchSweep.state.now c.in-WatchSweep.moves.now) _ _ _ _ _ _ c.in_err-network-in-WatchSweep.ensures.err)
