-- What `lookup` without `--src` promises: the answer for the source 0.0.0.0 or ::, and whether
-- other sources may have another. These are this project's own.
use Rattle.std.specs.Prelude.{ℕ, Bool, ◌≡◌, ◌<◌, List, Option, Any}
use Rattle.std.specs.Option.{SomeIff}
use Rattle.babel_prefix.specs.declared.family.Family.{Family}
use Rattle.babel_prefix.specs.Address.{Address}
use Rattle.babel_prefix.specs.Covers.{Covers}
use Rattle.babel_tlv.specs.declared.held.Held.{Held}
use Rattle.babel_tlv.specs.Route.{RouteKey}
use Rattle.babel_table.specs.Rows.{Routes}
use Rattle.babel_dump.specs.InFormat.{lookup_in}
use Rattle.babel_dump.specs.RunText.{answer_in, lookup_status, row_in}
use Rattle.babel_dump.specs.declared.format.Format.{Format}
use Rattle.babel_dump.specs.declared.outcome.Outcome.{Outcome}
use Rattle.babel_dump.specs.declared.outcome.Reports.TheVariants as reports

-- the source that an answer is for where none is asked for: 0.0.0.0, or ::
abbrev pub any_source : Family → Address
any_source family = record { family = family; bits = 0 }

-- RFC 9079, 3.2: the key is for the destination, and not for every source
abbrev pub IsSourceSpecific : Address → RouteKey → Type 0
IsSourceSpecific dst key = Covers key.dst dst × (0 < key.src.len)

-- a row for the destination is so
abbrev pub HasSourceSpecific : Address → List (RouteKey × Held) → Type 0
HasSourceSpecific dst rows = Any (λ row. IsSourceSpecific dst row.0) rows

-- what a table answers for a destination and this source; which the outcome has exactly if a row
-- for the destination is source-specific
pub record LooksUpAnySource (format : Format) (with_prefix : Bool) (dst : Address)
    (table : Routes) (text : List ℕ) (outcome : Outcome) : Type 0 where
  pub text_is : let src = any_source dst.family in
      text ≡ lookup_in format with_prefix dst src (row_in table dst src)
  pub told : Option Address
  pub told_if : SomeIff told (HasSourceSpecific dst table.rows) (any_source dst.family)
  pub outcome_is : outcome ≡ record {
    status = lookup_status (answer_in table dst (any_source dst.family));
    reports = reports.AnySource table.report told;
  }
