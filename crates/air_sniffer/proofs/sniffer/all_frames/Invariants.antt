use Rattle.std.proofs.Common.{length, ◌-◌, ◌≡◌, ◌≤◌, ◌++◌, drop}
use Rattle.air_sniffer.specs.Frames.{frames}
use Rattle.air_sniffer.proofs.sniffer.all_frames.Given as goal

abbrev pub invariant-loop-at : goal.invariant-loop-at
invariant-loop-at l = record {
  within : l.at ≤ length l.sends;
  frames : l.frames.items ++ frames (drop l.at l.sends) ≡ frames l.sends;
}

abbrev pub decreases-loop-at : goal.decreases-loop-at
decreases-loop-at l = length l.sends - l.at
