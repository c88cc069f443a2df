use Rattle.std.proofs.Common.{◌≡◌, length, take, nat_le, map}
use Rattle.node_core.proofs.numbers.register_fits.Given as goal

abbrev pub invariant-loop-d : goal.invariant-loop-d
invariant-loop-d l = record { len : length l.fits ≡ 33; same : take l.d l.fits ≡ map (λ byte. nat_le byte 255) (take l.d l.numbers) }
