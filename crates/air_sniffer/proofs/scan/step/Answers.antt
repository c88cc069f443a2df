use Rattle.std.proofs.Common.{◌+◌, ◌++◌, ◌∷◌, [], List, sym, ap, ◌∙◌, rules}
use Rattle.std.proofs.lemmas.List.{append-nil}
use Rattle.air_sniffer.specs.declared.frame.Frame.{Frame}
use Rattle.air_sniffer.proofs.Heads.{framed, passed_some, passed_none, begun_some, begun_none}
use Rattle.air_sniffer.proofs.scan.step.Goals as goal

pub returns-then-not-begins_frame-clause-passed : goal.returns-then-not-begins_frame-clause-passed
returns-then-not-begins_frame-clause-passed c = sym (passed_none c.args.sends.now (sym c.if-not-begins_frame.ensures))

pub returns-then-not-begins_frame-clause-frames : goal.returns-then-not-begins_frame-clause-frames
returns-then-not-begins_frame-clause-frames c =
    let all = c.args.frames.now.items in
    sym (ap (λ (v : List Frame). all ++ v) (begun_none c.args.sends.now (sym c.if-not-begins_frame.ensures)) ∙ append-nil all)

pub bounds-sends-3 : goal.bounds-sends-3
bounds-sends-3 c = let w = framed c.args.sends.now (sym c.if-not-begins_frame.ensures) in search rules

pub returns-clause-passed : goal.returns-clause-passed
returns-clause-passed c = ap (λ n. 4 + n) c.from.ensures ∙ sym (passed_some c.args.sends.now (sym c.if-not-begins_frame.ensures))

pub returns-clause-frames : goal.returns-clause-frames
returns-clause-frames c =
    let all = c.args.frames.now.items in
    c.in_ok-push.ensures.items
    ∙ ap (λ (v : List Frame). all ++ v) (ap (λ (f : Frame). f ∷ []) c.frame_of.ensures ∙ sym (begun_some c.args.sends.now (sym c.if-not-begins_frame.ensures)))
