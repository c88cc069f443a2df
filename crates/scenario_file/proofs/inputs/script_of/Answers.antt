use Rattle.std.proofs.Common.{codes, ap, arith, length}
use Rattle.toml.specs.View.{view}
use Rattle.scenario_file.specs.Document.{members_of, text_at}
use Rattle.scenario_file.specs.Scenario.{bytes_in}
use Rattle.scenario_file.proofs.Scripts.{bytes_size, input_every}
use Rattle.scenario_file.proofs.inputs.script_of.Goals as goal

pub new-requires-clause-some : goal.new-requires-clause-some
new-requires-clause-some c = let b = input_every c.args.version c.args.count (view c.args.value.now) c.requires.fits in let e = c.number_in-every.ensures in omega (arith, b.0, e)

pub new-requires-clause-every : goal.new-requires-clause-every
new-requires-clause-every c = let b = input_every c.args.version c.args.count (view c.args.value.now) c.requires.fits in let e = c.number_in-every.ensures in omega (arith, b.1, e)

pub new-requires-clause-few : goal.new-requires-clause-few
new-requires-clause-few c =
    let bytes = ap length c.in_ok-bytes.ensures in
    let text = ap (λ t. length (bytes_in t)) c.text_in.ensures in
    let size = bytes_size (text_at (codes "hex") (members_of (view c.args.value.now))) in
    let few = c.requires.few in
    omega (arith, bytes, text, size, few)
