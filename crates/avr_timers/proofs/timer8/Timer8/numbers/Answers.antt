use Rattle.std.proofs.Common.{rules, ◌≡◌, ◌∙◌, ap, refl, arith}
use Rattle.device_base.specs.Bits.{bit}
use Rattle.avr_timers.specs.Numbers8.{are_numbers}
use Rattle.device_base.proofs.Places.{same-list}
use Rattle.avr_timers.proofs.Saved8.{numbers-within}
use Rattle.avr_timers.proofs.timer8.Timer8.numbers.Goals as goal

pub returns-clause-within : goal.returns-clause-within
returns-clause-within c = λ select.
    let within = numbers-within c.args.self.now select (omega arith) (omega arith) in
    let match_blocked : c.from-4.result ≡ bit c.args.self.now.match_blocked 1 = search rules in
    let tov : c.from-5.result ≡ bit c.args.self.now.tov 1 = search rules in
    let ocf_a : c.from-6.result ≡ bit c.args.self.now.ocf_a 1 = search rules in
    let flags = same-list match_blocked (same-list tov (same-list ocf_a refl)) in
    let same = same-list (c.from.ensures ∙ c.get.ensures) (same-list c.from-2.ensures (same-list c.from-3.ensures flags)) in
    ap (are_numbers c.args.self.now.prescaler) same ∙ within
