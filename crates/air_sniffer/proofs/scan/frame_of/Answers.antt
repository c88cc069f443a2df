use Rattle.std.proofs.Common.{◌+◌, ◌-◌, drop, arith, rules}
use Rattle.std.proofs.lemmas.List.{length-drop, length-take-le}
use Rattle.air_sniffer.proofs.Heads.{framed}
use Rattle.air_sniffer.proofs.scan.frame_of.Goals as goal

pub bounds-sends-3 : goal.bounds-sends-3
bounds-sends-3 c = let w = framed c.args.sends.now c.requires in search rules

pub bounds-sends-0 : goal.bounds-sends-0
bounds-sends-0 c = let w = framed c.args.sends.now c.requires in search rules

pub bounds-sends-0-2 : goal.bounds-sends-0-2
bounds-sends-0-2 c = let w = framed c.args.sends.now c.requires in search rules

pub slice_bounds-of-end : goal.slice_bounds-of-end
slice_bounds-of-end c = let w = framed c.args.sends.now c.requires in let e = c.from-end.ensures in search rules

pub of-requires : goal.of-requires
of-requires c =
    let w = framed c.args.sends.now c.requires in
    let e = c.from-end.ensures in
    let d = length-drop 4 c.args.sends.now in
    let t = length-take-le (4 + c.from-end.result - 4) (drop 4 c.args.sends.now) (omega arith) in
    omega arith
