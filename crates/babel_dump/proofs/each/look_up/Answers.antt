-- One more pair: its place, and its status.
use Rattle.std.proofs.Common.{◌≡◌, ℕ, suc, ◌+◌, ◌<◌, ◌++◌, ◌∷◌, [], List, length, get_or, take, map, sym, subst, ap, ◌∙◌, arith}
use Rattle.std.specs.List.{AllZip}
use Rattle.std.proofs.Math.Seq.{take-suc}
use Rattle.std.proofs.lemmas.List.{map-append}
use Rattle.std.proofs.lemmas.Slice.Zip.{all_zipped_more}
use Rattle.babel_prefix.specs.declared.family.Family.{Family}
use Rattle.babel_tlv.specs.Pair.{Pair}
use Rattle.std.specs.Prelude.{Option}
use Rattle.babel_table.specs.RowFor.{IsPlaceFor, held_of, row_at}
use Rattle.babel_table.specs.TableRows.{family_rows}
use Rattle.babel_table.specs.declared.row_place.RowPlace.{RowPlace}
use Rattle.babel_dump.specs.RunText.{lookup_status, pair_status, row_in}
use Rattle.babel_dump.specs.declared.addr_pair.AddrPair.{AddrPair}
use Rattle.babel_dump.proofs.each.look_up.Goals as goal

one_more : {A : Type 0} (xs : List A) (i : ℕ) (x : A) → i < length xs → x ≡ get_or xs i x → take (i + 1) xs ≡ take i xs ++ x ∷ []
one_more xs i x inside is =
    let next : i + 1 ≡ suc i = omega arith in
    ap (λ n. take n xs) next ∙ take-suc xs i x inside ∙ ap (λ y. take i xs ++ y ∷ []) (sym is)

pub loop-pair-preserved : goal.loop-pair-preserved
loop-pair-preserved c =
    let table = c.args.table.now in
    let asked : List AddrPair = c.args.asked.now in
    let i = c.loop-pair.pair-index in
    let pair : AddrPair = c.pair-item.result in
    let place : RowPlace = c.best_place-place.result in
    let far = take i asked in
    let taken = one_more asked i pair (omega arith) c.pair-item.is in
    let row : c.row_at.result ≡ row_in table pair.dst pair.src =
    c.row_at.ensures ∙ ap (λ (family : Family). row_at (family_rows family table.rows) place) c.family.ensures ∙ c.best_place-place.ensures.row in
    let status : c.lookup_status.result ≡ pair_status table pair = c.lookup_status.ensures ∙ ap (λ (r : Option Pair). lookup_status (held_of r)) row in
    let zips = λ (pair : AddrPair) (place : RowPlace). IsPlaceFor table.rows pair.dst pair.src place in
    record {
      places = rw (taken, c.in_ok-push.ensures.items) (all_zipped_more zips far c.loop-pair.places.items pair place c.loop-pair.invariant.places c.best_place-place.ensures.row);
      statuses =
          c.in_ok-push-2.ensures.items
          ∙ ap (λ (all : List ℕ). all ++ c.lookup_status.result ∷ []) c.loop-pair.invariant.statuses
          ∙ ap (λ (n : ℕ). map (pair_status table) far ++ n ∷ []) status
          ∙ sym (map-append (pair_status table) far (pair ∷ []))
          ∙ ap (map (pair_status table)) (sym taken);
    }
