-- The limits that a user asks for: this project's own.
use Rattle.std.specs.Prelude.{ℕ, ◌*◌, ◌-◌, ◌^◌, max, min, Option}
use Rattle.std.specs.Option.{unwrap_or}
use Rattle.babel_table.specs.Bounds.{Bounds, bounds}

-- the routes that may be: as many as asked for, or 262,144
abbrev pub routes_within : Option ℕ → ℕ
routes_within routes = unwrap_or routes 262144

-- the octets that may be: as many as asked for, or 33,554,432, or 83 for each route if that is more
-- and a number of 32 bits
abbrev pub octets_within : Option ℕ → ℕ → ℕ
octets_within octets routes = unwrap_or octets (max 33554432 (min (routes * 83) (2 ^ 32 - 1)))

abbrev pub asked_bounds : Option ℕ → Option ℕ → Bounds
asked_bounds octets routes =
    bounds (octets_within octets (routes_within routes)) (routes_within routes)
