use Rattle.std.proofs.Common.{length, ◌-◌, ◌≡◌, ◌≤◌, ◌++◌, drop}
use Rattle.air_sniffer.specs.Sniffed.{sure, open_part}
use Rattle.air_sniffer.proofs.sniffer.sure_frames.Given as goal

abbrev pub invariant-loop-at : goal.invariant-loop-at
invariant-loop-at l = record {
  within : l.at ≤ length l.sends;
  frames : l.frames.items ++ sure (drop l.at l.sends) ≡ sure l.sends;
  rest : open_part (drop l.at l.sends) ≡ open_part l.sends;
}

abbrev pub decreases-loop-at : goal.decreases-loop-at
decreases-loop-at l = length l.sends - l.at
