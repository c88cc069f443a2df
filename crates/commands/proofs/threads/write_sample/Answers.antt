use Rattle.std.proofs.Common.{◌≡◌, ℕ, List, [], Option, None, Some, refl, sym, ap}
use Rattle.std.proofs.lemmas.List.{append-nil}
use Rattle.sim_io.specs.Outside.{extended}
use Rattle.commands.specs.Sample.{sample_line}
use Rattle.commands.proofs.threads.write_sample.Goals as goal

nothing : (o : Option (List ℕ)) → o ≡ extended o []
nothing None = refl
nothing (Some old) = ap Some (sym (append-nil old))

-- nothing was taken
pub returns-in_default-run_threads : goal.returns-in_default-run_threads
returns-in_default-run_threads g c = (record { front = []; rest = sample_line c.args.number; parts = refl; taken = nothing _ }, refl)
