-- How many units a second has.
use Rattle.std.proofs.Common.{◌<◌, arith}
use Rattle.std.proofs.Math.Nat.{one-le-pow}
use Rattle.babel_capture.specs.declared.clock.Resolution.{Resolution}
use Rattle.babel_capture.specs.declared.clock.Resolution.TheVariants as resolutions
use Rattle.babel_capture.specs.Times.{per_second}

-- there is one at least
pub some_units : (resolution : Resolution) → 0 < per_second resolution
some_units (resolutions.Ten power) = one-le-pow power 10 (omega arith)
some_units (resolutions.Two power) = one-le-pow power 2 (omega arith)
