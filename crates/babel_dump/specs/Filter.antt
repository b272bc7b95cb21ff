-- Which rows and pairs `--within`, `--match`, `--source` and `--id` keep: this project's own.
use Rattle.std.specs.Prelude.{ℕ, Bool, true, false, ◌&&◌, ◌==◌, nat_le, List, filter}
use Rattle.std.specs.Prelude.{Option, None, Some}
use Rattle.std.specs.Str.{bytes_eq}
use Rattle.babel_prefix.specs.Address.{AddressPrefix}
use Rattle.babel_prefix.specs.Block.{leading_bits}
use Rattle.babel_prefix.specs.Width.{same_family, width_of}
use Rattle.babel_tlv.specs.declared.held.Held.{Held}
use Rattle.babel_tlv.specs.declared.held.Held.TheVariants as helds
use Rattle.babel_tlv.specs.declared.view.View.{View}
use Rattle.babel_tlv.specs.Pair.{Pair}
use Rattle.babel_tlv.specs.Route.{RouteKey}
use Rattle.babel_dump.specs.InFormat.{pairs_or_counts_in}
use Rattle.babel_dump.specs.declared.filter.Filter.{Filter}
use Rattle.babel_dump.specs.declared.format.Format.{Format}

-- RFC 8966, 4.1.5: whether a prefix is another, or a longer one that has only addresses of it
abbrev pub is_within : (inner outer : AddressPrefix) → Bool
is_within inner outer =
    let first = leading_bits (width_of outer.address.family) outer.len in
    nat_le outer.len inner.len && same_family outer.address.family inner.address.family
    && (first inner.address.bits == first outer.address.bits)

-- whether two prefixes are one
abbrev pub is_same_prefix : AddressPrefix → AddressPrefix → Bool
is_same_prefix prefix other =
    same_family prefix.address.family other.address.family
    && (prefix.address.bits == other.address.bits) && (prefix.len == other.len)

-- whether it is a route with this router-id; what is unreachable has none
abbrev pub has_id : List ℕ → Held → Bool
has_id id (helds.Route ann) = bytes_eq ann.router_id id
has_id id helds.Unreachable = false

-- whether this holds of what is asked for, if anything is
abbrev pub if_asked : {A : Type 0} → Option A → (A → Bool) → Bool
if_asked None holds = true
if_asked (Some asked) holds = holds asked

-- whether the destination has what the filter asks for
abbrev pub keeps_dst : Filter → AddressPrefix → Bool
keeps_dst filter dst =
    if_asked filter.within (is_within dst)
    && if_asked filter.matching (λ inner. is_within inner dst)

-- and the source
abbrev pub keeps_key : Filter → RouteKey → Bool
keeps_key filter key =
    keeps_dst filter key.dst && if_asked filter.source (is_same_prefix key.src)

-- whether the router-id is the one that it asks for
abbrev pub keeps_id : Filter → Held → Bool
keeps_id filter held = if_asked filter.router_id (λ id. has_id id held)

-- whether the row has all that the filter asks for
abbrev pub is_kept : Filter → Pair → Bool
is_kept filter row = keeps_key filter row.0 && keeps_id filter row.1

-- the rows that it keeps, in their order
abbrev pub kept_rows : Filter → List Pair → List Pair
kept_rows asked rows = filter (is_kept asked) rows

-- the filter that asks for nothing
abbrev pub keeps_every : Filter
keeps_every = record { within = None; matching = None; source = None; router_id = None }

-- `pairs`: a line for each pair that it keeps, or how many rows and pairs it keeps
abbrev pub kept_pairs_in : Format → View → Filter → Bool → (rows pairs : List Pair) → List ℕ
kept_pairs_in format view filter count rows pairs =
    pairs_or_counts_in format view count (kept_rows filter rows) (kept_rows filter pairs)
