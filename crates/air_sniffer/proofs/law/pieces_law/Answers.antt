use Rattle.std.proofs.Common.{[]}
use Rattle.air_sniffer.specs.Sniffed.{sniffer_of}
use Rattle.air_sniffer.proofs.Cuts.{sniffed_whole}
use Rattle.air_sniffer.proofs.law.pieces_law.Goals as goal

pub returns : goal.returns
returns c = λ node pieces. sniffed_whole (sniffer_of node []) pieces
