-- What a view sees of rows: they are rows again.
use Rattle.std.proofs.Common.{◌≡◌, Bool, true, false, List, [], ◌∷◌, ◌++◌, refl, ap, ◌∙◌, inl, rules}
use Rattle.std.specs.Prelude.{if◌then◌else◌}
use Rattle.std.specs.List.{AllByRecursion}
use Rattle.std.specs.Map.{keys_of}
use Rattle.babel_prefix.specs.declared.family.Family.{Family}
use Rattle.babel_prefix.specs.Address.{Address, IsAddress}
use Rattle.babel_tlv.specs.declared.held.Held.{Held}
use Rattle.babel_tlv.specs.declared.held.Held.TheVariants as helds
use Rattle.babel_tlv.specs.declared.view.View.{View}
use Rattle.babel_tlv.specs.Keys.{IsAnnouncement}
use Rattle.babel_tlv.specs.Pair.{Pair}
use Rattle.babel_tlv.specs.Pairs.{IsPair}
use Rattle.babel_tlv.specs.Route.{RouteKey}
use Rattle.babel_tlv.specs.Views.{seen, seen_announcement, no_address, keeps_all}
use Rattle.babel_tlv.proofs.ViewLaws.{seen_fits, all_is_seen}
use Rattle.babel_table.specs.Compact.{AreOf, CanKeep, key_in}
use Rattle.babel_table.specs.Rows.{Routes}
use Rattle.babel_table.specs.Seen.{seen_row, seen_rows, seen_table}
use Rattle.babel_table.specs.TableRows.{AreRows}

kept_or : {A : Type 0} (P : A → Type 0) (b : Bool) (x s : A) → P x → P s → P (if b then x else s)
kept_or P true x s is stated = is
kept_or P false x s is stated = stated

-- what a view sees can be kept where what it puts for a next hop can be
pub keeps_seen : (Fits : Address → Type 0) (view : View) (family : Family) (held : Held) → Fits (no_address family) → CanKeep Fits held → CanKeep Fits (seen view family held)
keeps_seen Fits view family (helds.Route ann) none fits =
    let is : IsAnnouncement (seen_announcement view ann.next_hop.family ann) = (seen_fits view (key_in ann.next_hop.family 0 0 0 0) (helds.Route ann) (fits.0, inl refl)).0 in (
      record {
        eight = is.eight;
        octets = is.octets;
        unreserved = is.unreserved;
        seqno_fits = is.seqno_fits;
        metric_fits = is.metric_fits;
        finite = is.finite;
        next_hop_fits = kept_or IsAddress view.next_hop ann.next_hop (no_address family) fits.0.next_hop_fits (search rules);
      },
      kept_or Fits view.next_hop ann.next_hop (no_address family) fits.1 none,
    )
keeps_seen Fits view family helds.Unreachable none fits = tt

pub seen_keys : (view : View) (rows : List Pair) → keys_of (seen_rows view rows) ≡ keys_of rows
seen_keys view [] = refl
seen_keys view (row ∷ rows) = ap (λ (keys : List RouteKey). row.0 ∷ keys) (seen_keys view rows)

seen_pair : (view : View) (pair : Pair) → IsPair pair → IsPair (seen_row view pair)
seen_pair view pair is = record { dst = is.dst; src = is.src; one_family = is.one_family; fits = seen_fits view pair.0 pair.1 is.fits }

seen_each : (view : View) (rows : List Pair) → AllByRecursion IsPair rows → AllByRecursion IsPair (seen_rows view rows)
seen_each view [] all = tt
seen_each view (row ∷ rows) all = (seen_pair view row all.0, seen_each view rows all.1)

pub seen_are_rows : (view : View) (rows : List Pair) → AreRows rows → AreRows (seen_rows view rows)
seen_are_rows view rows are = record {
  rising = rw seen_keys are.rising;
  each = seen_each view rows are.each;
}

pub seen_are_of : (view : View) (family : Family) (rows : List Pair) → AreOf family rows → AreOf family (seen_rows view rows)
seen_are_of view family [] all = tt
seen_are_of view family (row ∷ rows) all = (all.0, seen_are_of view family rows all.1)

pub seen_append : (view : View) (rows others : List Pair) → seen_rows view (rows ++ others) ≡ seen_rows view rows ++ seen_rows view others
seen_append view [] others = refl
seen_append view (row ∷ rows) others = ap (λ (l : List Pair). seen_row view row ∷ l) (seen_append view rows others)

pub ruleset seeing = (seen_are_rows, seen_are_of, seen_append)

-- the view that keeps all changes nothing
pub all_rows : (rows : List Pair) → seen_rows keeps_all rows ≡ rows
all_rows [] = refl
all_rows (row ∷ rows) = ap (λ (held : Held). (row.0, held) ∷ seen_rows keeps_all rows) (all_is_seen row.0.dst.address.family row.1) ∙ ap (λ (l : List Pair). row ∷ l) (all_rows rows)

pub all_table : (table : Routes) → seen_table keeps_all table ≡ table
all_table table = ap (λ (rows : List Pair). record { rows = rows; report = table.report }) (all_rows table.rows)
