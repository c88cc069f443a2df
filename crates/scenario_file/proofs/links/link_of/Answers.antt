use Rattle.std.proofs.Common.{arith}
use Rattle.toml.specs.View.{view}
use Rattle.scenario_file.proofs.Numbers.{link_small}
use Rattle.scenario_file.proofs.links.link_of.Goals as goal

pub overflow_cast-result : goal.overflow_cast-result
overflow_cast-result c = let b = link_small c.args.version c.args.count (view c.args.value.now) c.requires.few c.requires.fits in let e = c.number_in-from.ensures in omega (arith, b.0, e)

pub overflow_cast-result-2 : goal.overflow_cast-result-2
overflow_cast-result-2 c = let b = link_small c.args.version c.args.count (view c.args.value.now) c.requires.few c.requires.fits in let e = c.number_in-to.ensures in omega (arith, b.1, e)
