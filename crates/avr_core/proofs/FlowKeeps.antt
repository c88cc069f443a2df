-- What an instruction of the program's flow leaves as it is: whatever each load and each store of the bus leaves.
use Rattle.std.proofs.Common.{◌≡◌, ℕ, ◌+◌, ◌%◌, Bool, true, false, List}
use Rattle.std.specs.Prelude.{Result}
use Rattle.avr_base.specs.declared.stop.StopCause.{StopCause}
use Rattle.avr_decoder.specs.declared.op.Op.{Op}
use Rattle.avr_decoder.specs.declared.op.Op.TheVariants as op
use Rattle.data_space.specs.declared.cpu.Cpu.{Cpu}
use Rattle.data_space.specs.Core.{pair_at}
use Rattle.data_space.specs.Space.{loaded}
use Rattle.data_space.specs.Sequence.{popped_word}
use Rattle.data_space.proofs.Keeps.{Keeps, loaded_kept, then_kept, word_popped, word_pushed}
use Rattle.avr_core.specs.FlowShapes.{calls, pushes_return, returns, returns_enabling, skips_by_io}
use Rattle.avr_core.specs.FlowTable.{flow_effect}

module _ {B V : Type 0} {view : B → V} {get : B → ℕ → Result (ℕ × B) StopCause} {put : B → ℕ → ℕ → Result B StopCause}
    (keeps : Keeps view get put) (v : V) where
  skips_kept : (flash : List ℕ) (a b : ℕ) (on : Bool) (cpu : Cpu) (bus : B) → view bus ≡ v → view (skips_by_io get flash a b on cpu bus).bus ≡ v
  unfolding skips_by_io
  skips_kept flash a b on cpu bus h =
      let got = loaded get (a + 0x20) cpu bus in then_kept keeps v got got.result _ (loaded_kept keeps v (a + 0x20) cpu bus h) (λ value c b k. k)

  calls_kept : (cycles words : ℕ) (target : Cpu → ℕ) (cpu : Cpu) (bus : B) → view bus ≡ v → view (calls put cycles words target cpu bus).bus ≡ v
  unfolding calls
  calls_kept cycles words target cpu bus h =
      let back = pushes_return put words cpu bus in
      then_kept keeps v back back.result _ (word_pushed keeps v ((cpu.pc + words) % 65536) cpu bus h) (λ value c b k. k)

  returns_kept : (cpu : Cpu) (bus : B) → view bus ≡ v → view (returns get cpu bus).bus ≡ v
  unfolding returns
  returns_kept cpu bus h = let back = popped_word get cpu bus in then_kept keeps v back back.result _ (word_popped keeps v cpu bus h) (λ value c b k. k)

  enabling_kept : (cpu : Cpu) (bus : B) → view bus ≡ v → view (returns_enabling get cpu bus).bus ≡ v
  unfolding returns_enabling
  enabling_kept cpu bus h = let back = popped_word get cpu bus in then_kept keeps v back back.result _ (word_popped keeps v cpu bus h) (λ value c b k. k)

  pub flow_keeps : (flash : List ℕ) (o : Op) (cpu : Cpu) (bus : B) → view bus ≡ v → view (flow_effect get put flash o cpu bus).bus ≡ v
  unfolding flow_effect
  flow_keeps flash (op.Sbis a b) cpu bus h = skips_kept flash a (b % 8) true cpu bus h
  flow_keeps flash (op.Sbic a b) cpu bus h = skips_kept flash a (b % 8) false cpu bus h
  flow_keeps flash (op.Call k) cpu bus h = calls_kept 4 2 (λ _. k) cpu bus h
  flow_keeps flash (op.Rcall k) cpu bus h = calls_kept 3 1 _ cpu bus h
  flow_keeps flash op.Icall cpu bus h = calls_kept 3 1 (pair_at 30) cpu bus h
  flow_keeps flash op.Ret cpu bus h = returns_kept cpu bus h
  flow_keeps flash op.Reti cpu bus h = enabling_kept cpu bus h
  flow_keeps flash _ cpu bus h = h
