-- What `--expiry` takes.
use Rattle.std.specs.Prelude.{◌≡◌, ℕ, ◌+◌, ◌*◌, ◌<◌, ◌≤◌, List}
use Rattle.babel_dump.specs.Decimals.{DecimalText}

-- a number above 0 and at most 1,000, with at most seven digits after the point: so many
-- ten-millionths
pub record FactorText (text : List ℕ) (factor : ℕ) : Type 0 where
  pub whole : ℕ
  pub units : ℕ
  pub decimal : DecimalText 7 text whole units
  pub is : factor ≡ whole * 10000000 + units
  pub some : 0 < factor
  pub most : factor ≤ 10000000000
