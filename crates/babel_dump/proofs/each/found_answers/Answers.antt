-- The lines by the places are those of what the table answers, and the outcome is by the statuses.
use Rattle.std.proofs.Common.{◌≡◌, ℕ, ◌++◌, List, map, ap, subst, ◌∙◌, append-nil}
use Rattle.std.specs.List.{AllZip, zip}
use Rattle.babel_table.specs.RowFor.{IsPlaceFor}
use Rattle.babel_table.specs.declared.row_place.RowPlace.{RowPlace}
use Rattle.babel_dump.specs.Command.{IsOutcome}
use Rattle.babel_dump.specs.InFormat.{each_in, placed_in}
use Rattle.babel_dump.specs.RunText.{each_status, pair_status, status_of_all}
use Rattle.babel_dump.specs.declared.addr_pair.AddrPair.{AddrPair}
use Rattle.babel_dump.specs.declared.format.Format.{Format}
use Rattle.babel_dump.proofs.FoundLaws.{told}
use Rattle.babel_dump.proofs.PlacedLaws.{placed_each}
use Rattle.babel_dump.proofs.each.found_answers.Goals as goal

pub returns-clause-found : goal.returns-clause-found
returns-clause-found c = λ (format : Format).
    let table = c.args.table in
    let asked : List AddrPair = c.args.asked.items in
    let places : List RowPlace = c.in_ok-places.places.items in
    let lines : List ℕ = placed_in format c.args.with_prefix table (zip asked places) in
    let words : List ℕ = each_in format c.args.with_prefix table asked in
    let all : AllZip (λ (pair : AddrPair) (place : RowPlace). IsPlaceFor table.rows pair.dst pair.src place) asked places =
    subst (λ (l : List AddrPair). AllZip (λ (pair : AddrPair) (place : RowPlace). IsPlaceFor table.rows pair.dst pair.src place) l places) c.deref.ensures.value c.in_ok-places.ensures.places in
    let status : c.status_of_all.result ≡ each_status table asked =
    c.status_of_all.ensures ∙ ap status_of_all (c.deref-2.ensures.value ∙ c.in_ok-places.ensures.statuses ∙ ap (map (pair_status table)) c.deref.ensures.value) in
    told c.report.result.now table.report (each_status table asked) lines words c.of_dump-outcome.result format c.rows.result
    (c.rows.ensures.text format ∙ ap (λ (after : List ℕ). lines ++ after) c.new.ensures.items ∙ append-nil lines) c.rows.ensures.outcome
    (placed_each format c.args.with_prefix table asked places all)
    (subst (λ (n : ℕ). IsOutcome c.of_dump-outcome.result n c.report.result.now) status c.of_dump-outcome.ensures) c.report.ensures
