-- An instruction of the program's flow that ends takes a cycle or more.
use Rattle.std.proofs.Common.{ℕ, ◌+◌, ◌%◌, ◌≤◌, ◌==◌, Bool, true, false, if◌then◌else◌, List, arith}
use Rattle.std.specs.Prelude.{ℤ, Result, slice_index}
use Rattle.avr_base.specs.declared.stop.StopCause.{StopCause}
use Rattle.avr_decoder.specs.Words.{is_two_words}
use Rattle.avr_decoder.specs.declared.op.Op.{Op}
use Rattle.avr_decoder.specs.declared.op.Op.TheVariants as op
use Rattle.data_space.specs.declared.cpu.Cpu.{Cpu}
use Rattle.data_space.specs.Core.{pair_at}
use Rattle.data_space.specs.Space.{loaded}
use Rattle.data_space.specs.Sequence.{popped_word}
use Rattle.data_space.proofs.Takes.{Takes, then_takes}
use Rattle.ihex_loader.specs.Flash.{word_at}
use Rattle.avr_core.specs.FlowShapes.{bit_is, branched, calls, pushes_return, relative, returns, returns_enabling, skipping, skips_by_io}
use Rattle.avr_core.specs.FlowTable.{flow_effect}

branch_takes : (on : Bool) (k : ℤ) (cpu : Cpu) → 1 ≤ (branched on k cpu).0.cycles
unfolding branched
branch_takes true k cpu = omega arith
branch_takes false k cpu = omega arith

two_or_three : (long : Bool) → 1 ≤ (if long then 3 else 2)
two_or_three true = omega arith
two_or_three false = omega arith

some_words : (flash : List ℕ) (on : Bool) (cpu : Cpu) → 1 ≤ skipping flash on cpu
unfolding skipping
some_words flash true cpu = two_or_three (is_two_words (word_at flash ((cpu.pc + 1) % 65536)))
some_words flash false cpu = omega arith

module _ {B : Type 0} (get : B → ℕ → Result (ℕ × B) StopCause) (put : B → ℕ → ℕ → Result B StopCause) where
  skips_takes : (flash : List ℕ) (a b : ℕ) (on : Bool) (cpu : Cpu) (bus : B) → Takes (skips_by_io get flash a b on cpu bus)
  unfolding skips_by_io
  skips_takes flash a b on cpu bus = let got = loaded get (a + 0x20) cpu bus in then_takes got got.result _ (λ byte c d. some_words flash (bit_is on b byte) c)

  calls_takes : (cycles words : ℕ) (target : Cpu → ℕ) (cpu : Cpu) (bus : B) → 1 ≤ cycles → Takes (calls put cycles words target cpu bus)
  unfolding calls
  calls_takes cycles words target cpu bus some = let back = pushes_return put words cpu bus in then_takes back back.result _ (λ u c b. some)

  returns_takes : (cpu : Cpu) (bus : B) → Takes (returns get cpu bus)
  unfolding returns
  returns_takes cpu bus = let back = popped_word get cpu bus in then_takes back back.result _ (λ pc c b. omega arith)

  enabling_takes : (cpu : Cpu) (bus : B) → Takes (returns_enabling get cpu bus)
  unfolding returns_enabling
  enabling_takes cpu bus = let back = popped_word get cpu bus in then_takes back back.result _ (λ pc c b. omega arith)

  pub flow_takes : (flash : List ℕ) (o : Op) (cpu : Cpu) (bus : B) → Takes (flow_effect get put flash o cpu bus)
  unfolding flow_effect
  flow_takes flash (op.Brbs s k) cpu bus = branch_takes (bit_is true (s % 8) cpu.sreg.bits) k cpu
  flow_takes flash (op.Brbc s k) cpu bus = branch_takes (bit_is false (s % 8) cpu.sreg.bits) k cpu
  flow_takes flash (op.Cpse d r) cpu bus = some_words flash (slice_index cpu.r d == slice_index cpu.r r) cpu
  flow_takes flash (op.Sbrs r b) cpu bus = some_words flash (bit_is true (b % 8) (slice_index cpu.r r)) cpu
  flow_takes flash (op.Sbrc r b) cpu bus = some_words flash (bit_is false (b % 8) (slice_index cpu.r r)) cpu
  flow_takes flash (op.Sbis a b) cpu bus = skips_takes flash a (b % 8) true cpu bus
  flow_takes flash (op.Sbic a b) cpu bus = skips_takes flash a (b % 8) false cpu bus
  flow_takes flash (op.Call k) cpu bus = calls_takes 4 2 (λ _. k) cpu bus (omega arith)
  flow_takes flash (op.Rcall k) cpu bus = calls_takes 3 1 (relative k) cpu bus (omega arith)
  flow_takes flash op.Icall cpu bus = calls_takes 3 1 (pair_at 30) cpu bus (omega arith)
  flow_takes flash op.Ret cpu bus = returns_takes cpu bus
  flow_takes flash op.Reti cpu bus = enabling_takes cpu bus
  flow_takes flash _ cpu bus = omega arith
