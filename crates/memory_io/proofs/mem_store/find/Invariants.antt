use Rattle.std.proofs.Common.{◌≡◌, drop}
use Rattle.memory_io.specs.Files.{file_of}
use Rattle.memory_io.proofs.mem_store.find.Given as goal

abbrev pub invariant-loop-held : goal.invariant-loop-held
invariant-loop-held l = file_of l.files l.name ≡ file_of (drop l.held-index l.files) l.name
