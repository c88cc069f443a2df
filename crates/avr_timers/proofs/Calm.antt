-- Flags that a clock leaves alone.
use Rattle.std.proofs.Common.{◌≡◌, Bool, true, false, ◌&&◌, ◌||◌, not, refl, sym, ap, ◌∙◌}
use Rattle.std.proofs.lemmas.Bool.{or_parts}
use Rattle.avr_timers.specs.Flags.{any_flag, flags_or, flags_without}
use Rattle.avr_timers.specs.declared.flags.TimerFlags.{TimerFlags}

pub or-none : (a b : Bool) → b ≡ false → (a || b) ≡ a
or-none true b e = refl
or-none false b e = e

-- where no flag is set in g, the flags set in f or g are those of f
pub flags_or-none : (f g : TimerFlags) → any_flag g ≡ false → flags_or f g ≡ f
flags_or-none f g e =
    let d = or_parts (g.tov || g.ocf_a || g.ocf_b || g.ocf_c) g.icf e in
    let c = or_parts (g.tov || g.ocf_a || g.ocf_b) g.ocf_c d.0 in
    let b = or_parts (g.tov || g.ocf_a) g.ocf_b c.0 in
    let a = or_parts g.tov g.ocf_a b.0 in
    let tov = or-none f.tov g.tov a.0 in
    let ocf_a = or-none f.ocf_a g.ocf_a a.1 in
    let ocf_b = or-none f.ocf_b g.ocf_b b.1 in
    let ocf_c = or-none f.ocf_c g.ocf_c c.1 in
    let icf = or-none f.icf g.icf d.1 in
    let fields : TimerFlags = record { tov = f.tov; ocf_a = f.ocf_a; ocf_b = f.ocf_b; ocf_c = f.ocf_c; icf = f.icf } in
    let same : flags_or f g ≡ fields = cc in
    same

pub same_or : (f g : TimerFlags) → any_flag g ≡ false → f ≡ flags_or f g
same_or f g e = sym (flags_or-none f g e)

or-set : (a b : Bool) → (b && not a) ≡ false → (a || b) ≡ a
or-set true b e = refl
or-set false true e = e
or-set false false e = refl

-- where no flag is set in g that is not set in f, too
pub flags_or-set : (f g : TimerFlags) → any_flag (flags_without g f) ≡ false → flags_or f g ≡ f
flags_or-set f g e =
    let h : TimerFlags = flags_without g f in
    let d = or_parts (h.tov || h.ocf_a || h.ocf_b || h.ocf_c) h.icf e in
    let c = or_parts (h.tov || h.ocf_a || h.ocf_b) h.ocf_c d.0 in
    let b = or_parts (h.tov || h.ocf_a) h.ocf_b c.0 in
    let a = or_parts h.tov h.ocf_a b.0 in
    let tov = or-set f.tov g.tov a.0 in
    let ocf_a = or-set f.ocf_a g.ocf_a a.1 in
    let ocf_b = or-set f.ocf_b g.ocf_b b.1 in
    let ocf_c = or-set f.ocf_c g.ocf_c c.1 in
    let icf = or-set f.icf g.icf d.1 in
    let fields : TimerFlags = record { tov = f.tov; ocf_a = f.ocf_a; ocf_b = f.ocf_b; ocf_c = f.ocf_c; icf = f.icf } in
    let same : flags_or f g ≡ fields = cc in
    same

either : (a b : Bool) → a ≡ false → b ≡ false → (a || b) ≡ false
either a b e f = ap (λ x. x || b) e ∙ f

-- and where none is set in g
pub without-none : (g f : TimerFlags) → any_flag g ≡ false → any_flag (flags_without g f) ≡ false
without-none g f e =
    let h : TimerFlags = flags_without g f in
    let d = or_parts (g.tov || g.ocf_a || g.ocf_b || g.ocf_c) g.icf e in
    let c = or_parts (g.tov || g.ocf_a || g.ocf_b) g.ocf_c d.0 in
    let b = or_parts (g.tov || g.ocf_a) g.ocf_b c.0 in
    let a = or_parts g.tov g.ocf_a b.0 in
    either (h.tov || h.ocf_a || h.ocf_b || h.ocf_c) h.icf
    (either (h.tov || h.ocf_a || h.ocf_b) h.ocf_c
    (either (h.tov || h.ocf_a) h.ocf_b
    (either h.tov h.ocf_a (ap (λ x. x && not f.tov) a.0) (ap (λ x. x && not f.ocf_a) a.1))
    (ap (λ x. x && not f.ocf_b) b.1)) (ap (λ x. x && not f.ocf_c) c.1)) (ap (λ x. x && not f.icf) d.1)
