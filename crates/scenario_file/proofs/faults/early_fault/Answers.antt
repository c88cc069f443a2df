use Rattle.std.proofs.Common.{◌≡◌, ◌∙◌, ◌==◌, ◌<◌, ◌≤◌, ℕ, nat_lt, Bool, true, false, not, List, [], ◌∷◌, length, Some, if◌then◌else◌, ap, sym, arith}
use Rattle.std.proofs.lemmas.Bool.Decides.{nat_tests}
use Rattle.toml.specs.Data.{Members}
use Rattle.toml.specs.View.{table_view}
use Rattle.scenario_file.specs.Rules.{version_of}
use Rattle.scenario_file.specs.Faults.{nodes, links, unknown_key, missing, right_kinds, in_range, any_self_link, early_tests, first_of}
use Rattle.scenario_file.specs.Holds.{holds_in}
use Rattle.scenario_file.specs.declared.keys.Version.{Version}
use Rattle.scenario_file.specs.declared.rules.Rule.TheVariants.{NoOtherKey, Complete}
use Rattle.scenario_file.specs.declared.fault.ScenarioFault.{ScenarioFault}
use Rattle.scenario_file.specs.declared.fault.ScenarioFault.TheVariants.{UnknownKey, Missing, WrongKind, OutOfRange, NoNodes, TooManyNodes, SelfLink}
use Rattle.scenario_file.proofs.Held.{unknown_is, missing_is}
use Rattle.scenario_file.proofs.faults.early_fault.Goals as goal

-- the first test holds, or the fault is that of those behind it
here : (b : Bool) (f : ScenarioFault) (ts : List (Bool × ScenarioFault)) → b ≡ true → first_of ((b, f) ∷ ts) ≡ Some f
here b f ts h = ap (λ b. if b then Some f else first_of ts) h

behind : (b : Bool) (f : ScenarioFault) (ts : List (Bool × ScenarioFault)) → b ≡ false → first_of ((b, f) ∷ ts) ≡ first_of ts
behind b f ts h = ap (λ b. if b then Some f else first_of ts) h

unknown : (version : Version) (ms : Members) (r b : Bool) → version ≡ version_of ms → r ≡ holds_in (NoOtherKey version) ms → r ≡ b → unknown_key (version_of ms) ms ≡ not b
unknown version ms r b v is h = ap (λ v. unknown_key v ms) (sym v) ∙ sym (unknown_is version ms) ∙ ap not (sym is ∙ h)

lacks : (ms : Members) (r b : Bool) → r ≡ holds_in Complete ms → r ≡ b → missing ms ≡ not b
lacks ms r b is h = sym (missing_is ms) ∙ ap not (sym is ∙ h)

out : (version : Version) (ms : Members) (r b : Bool) → version ≡ version_of ms → r ≡ in_range version ms → r ≡ b → not (in_range (version_of ms) ms) ≡ not b
out version ms r b v is h = ap (λ v. not (in_range v ms)) (sym v) ∙ ap not (sym is ∙ h)

none : (n : ℕ) → n ≡ 0 → (n == 0) ≡ true
none n h = grind (arith, nat_tests)

some : (n : ℕ) → (n ≡ 0 → ⊥) → (n == 0) ≡ false
some n h = grind (arith, nat_tests)

many : (n : ℕ) → 64 < n → nat_lt 64 n ≡ true
many n h = grind (arith, nat_tests)

few : (n : ℕ) → n ≤ 64 → nat_lt 64 n ≡ false
few n h = grind (arith, nat_tests)

-- the tests behind the first, the second and so on
abbrev after_self : Members → List (Bool × ScenarioFault)
after_self ms = []

abbrev after_many : Members → List (Bool × ScenarioFault)
after_many ms = (any_self_link (links ms), SelfLink) ∷ after_self ms

abbrev after_none : Members → List (Bool × ScenarioFault)
after_none ms = (nat_lt 64 (length (nodes ms)), TooManyNodes) ∷ after_many ms

abbrev after_ranges : Members → List (Bool × ScenarioFault)
after_ranges ms = (length (nodes ms) == 0, NoNodes) ∷ after_none ms

abbrev after_kinds : Members → List (Bool × ScenarioFault)
after_kinds ms = (not (in_range (version_of ms) ms), OutOfRange) ∷ after_ranges ms

abbrev after_missing : Members → List (Bool × ScenarioFault)
after_missing ms = (not (right_kinds ms), WrongKind) ∷ after_kinds ms

abbrev after_unknown : Members → List (Bool × ScenarioFault)
after_unknown ms = (missing ms, Missing) ∷ after_missing ms

pub returns-then-not-holds_in : goal.returns-then-not-holds_in
unfolding early_tests
returns-then-not-holds_in c =
    let ms = table_view c.args.table.now in
    let e0 : (unknown_key (version_of ms) ms) ≡ true = unknown c.args.version ms c.holds_in.result false c.requires c.holds_in.ensures c.if-not-holds_in.true in
    sym (here (unknown_key (version_of ms) ms) UnknownKey (after_unknown ms) e0)

pub returns-then-not-holds_in-2 : goal.returns-then-not-holds_in-2
unfolding early_tests
returns-then-not-holds_in-2 c =
    let ms = table_view c.args.table.now in
    let e0 : (unknown_key (version_of ms) ms) ≡ false = unknown c.args.version ms c.holds_in.result true c.requires c.holds_in.ensures c.if-not-holds_in.false in
    let e1 : (missing ms) ≡ true = lacks ms c.holds_in-else-not-holds_in.result false c.holds_in-else-not-holds_in.ensures c.if-not-holds_in-2.true in
    sym (behind (unknown_key (version_of ms) ms) UnknownKey (after_unknown ms) e0 ∙ (here (missing ms) Missing (after_missing ms) e1))

pub returns-then-not-right_kinds : goal.returns-then-not-right_kinds
unfolding early_tests
returns-then-not-right_kinds c =
    let ms = table_view c.args.table.now in
    let e0 : (unknown_key (version_of ms) ms) ≡ false = unknown c.args.version ms c.holds_in.result true c.requires c.holds_in.ensures c.if-not-holds_in.false in
    let e1 : (missing ms) ≡ false = lacks ms c.holds_in-else-not-holds_in.result true c.holds_in-else-not-holds_in.ensures c.if-not-holds_in-2.false in
    let e2 : (not (right_kinds ms)) ≡ true = ap not (sym c.right_kinds.ensures ∙ c.if-not-right_kinds.true) in
    sym (behind (unknown_key (version_of ms) ms) UnknownKey (after_unknown ms) e0 ∙ (behind (missing ms) Missing (after_missing ms) e1 ∙ (here (not (right_kinds ms)) WrongKind (after_kinds ms) e2)))

pub returns-then-not-in_range : goal.returns-then-not-in_range
unfolding early_tests
returns-then-not-in_range c =
    let ms = table_view c.args.table.now in
    let e0 : (unknown_key (version_of ms) ms) ≡ false = unknown c.args.version ms c.holds_in.result true c.requires c.holds_in.ensures c.if-not-holds_in.false in
    let e1 : (missing ms) ≡ false = lacks ms c.holds_in-else-not-holds_in.result true c.holds_in-else-not-holds_in.ensures c.if-not-holds_in-2.false in
    let e2 : (not (right_kinds ms)) ≡ false = ap not (sym c.right_kinds.ensures ∙ c.if-not-right_kinds.false) in
    let e3 : (not (in_range (version_of ms) ms)) ≡ true = out c.args.version ms c.in_range.result false c.requires c.in_range.ensures c.if-not-in_range.true in
    sym (behind (unknown_key (version_of ms) ms) UnknownKey (after_unknown ms) e0 ∙ (behind (missing ms) Missing (after_missing ms) e1 ∙ (behind (not (right_kinds ms)) WrongKind (after_kinds ms) e2 ∙ (here (not (in_range (version_of ms) ms)) OutOfRange (after_ranges ms) e3))))

pub returns-then-count-eq0 : goal.returns-then-count-eq0
unfolding early_tests
returns-then-count-eq0 c =
    let ms = table_view c.args.table.now in
    let e0 : (unknown_key (version_of ms) ms) ≡ false = unknown c.args.version ms c.holds_in.result true c.requires c.holds_in.ensures c.if-not-holds_in.false in
    let e1 : (missing ms) ≡ false = lacks ms c.holds_in-else-not-holds_in.result true c.holds_in-else-not-holds_in.ensures c.if-not-holds_in-2.false in
    let e2 : (not (right_kinds ms)) ≡ false = ap not (sym c.right_kinds.ensures ∙ c.if-not-right_kinds.false) in
    let e3 : (not (in_range (version_of ms) ms)) ≡ false = out c.args.version ms c.in_range.result true c.requires c.in_range.ensures c.if-not-in_range.false in
    let e4 : (length (nodes ms) == 0) ≡ true = ap (λ (n : ℕ). n == 0) (sym c.node_count-count.ensures) ∙ none c.node_count-count.result c.if-count-eq0.true in
    sym (behind (unknown_key (version_of ms) ms) UnknownKey (after_unknown ms) e0 ∙ (behind (missing ms) Missing (after_missing ms) e1 ∙ (behind (not (right_kinds ms)) WrongKind (after_kinds ms) e2 ∙ (behind (not (in_range (version_of ms) ms)) OutOfRange (after_ranges ms) e3 ∙ (here (length (nodes ms) == 0) NoNodes (after_none ms) e4)))))

pub returns-then-count-gt-MOST : goal.returns-then-count-gt-MOST
unfolding early_tests
returns-then-count-gt-MOST c =
    let ms = table_view c.args.table.now in
    let e0 : (unknown_key (version_of ms) ms) ≡ false = unknown c.args.version ms c.holds_in.result true c.requires c.holds_in.ensures c.if-not-holds_in.false in
    let e1 : (missing ms) ≡ false = lacks ms c.holds_in-else-not-holds_in.result true c.holds_in-else-not-holds_in.ensures c.if-not-holds_in-2.false in
    let e2 : (not (right_kinds ms)) ≡ false = ap not (sym c.right_kinds.ensures ∙ c.if-not-right_kinds.false) in
    let e3 : (not (in_range (version_of ms) ms)) ≡ false = out c.args.version ms c.in_range.result true c.requires c.in_range.ensures c.if-not-in_range.false in
    let e4 : (length (nodes ms) == 0) ≡ false = ap (λ (n : ℕ). n == 0) (sym c.node_count-count.ensures) ∙ some c.node_count-count.result c.if-count-eq0.false in
    let e5 : (nat_lt 64 (length (nodes ms))) ≡ true = ap (λ (n : ℕ). nat_lt 64 n) (sym c.node_count-count.ensures) ∙ many c.node_count-count.result c.if-count-gt-MOST.true in
    sym (behind (unknown_key (version_of ms) ms) UnknownKey (after_unknown ms) e0 ∙ (behind (missing ms) Missing (after_missing ms) e1 ∙ (behind (not (right_kinds ms)) WrongKind (after_kinds ms) e2 ∙ (behind (not (in_range (version_of ms) ms)) OutOfRange (after_ranges ms) e3 ∙ (behind (length (nodes ms) == 0) NoNodes (after_none ms) e4 ∙ (here (nat_lt 64 (length (nodes ms))) TooManyNodes (after_many ms) e5))))))
