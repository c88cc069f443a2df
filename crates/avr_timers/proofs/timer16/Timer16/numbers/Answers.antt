use Rattle.std.proofs.Common.{rules, ◌≡◌, ◌∙◌, ap, refl, arith}
use Rattle.device_base.specs.Bits.{bit}
use Rattle.avr_timers.specs.Numbers16.{are_numbers}
use Rattle.device_base.proofs.Places.{same-list}
use Rattle.avr_timers.proofs.Saved16.{IsPlain, numbers-within}
use Rattle.avr_timers.proofs.timer16.Timer16.numbers.Goals as goal

pub returns-clause-within : goal.returns-clause-within
returns-clause-within c = λ select.
    let plain : IsPlain c.args.self.now = record { count = omega arith; compare_a = omega arith; compare_b = omega arith; compare_c = omega arith; icr = omega arith; temp = omega arith } in
    let within = numbers-within c.args.self.now select plain in
    let match_blocked : c.from-8.result ≡ bit c.args.self.now.match_blocked 1 = search rules in
    let tov : c.from-9.result ≡ bit c.args.self.now.flags.tov 1 = search rules in
    let ocf_a : c.from-10.result ≡ bit c.args.self.now.flags.ocf_a 1 = search rules in
    let ocf_b : c.from-11.result ≡ bit c.args.self.now.flags.ocf_b 1 = search rules in
    let ocf_c : c.from-12.result ≡ bit c.args.self.now.flags.ocf_c 1 = search rules in
    let icf : c.from-13.result ≡ bit c.args.self.now.flags.icf 1 = search rules in
    let flags = same-list match_blocked (same-list tov (same-list ocf_a (same-list ocf_b (same-list ocf_c (same-list icf refl))))) in
    let last = same-list c.from-5.ensures (same-list c.from-6.ensures (same-list c.from-7.ensures flags)) in
    let words = same-list c.from-2.ensures (same-list c.from-3.ensures (same-list c.from-4.ensures last)) in
    let same = same-list (c.from.ensures ∙ c.control_b.ensures) words in
    ap are_numbers same ∙ within
