-- What the canonical octets, and the canonical pairs, of a table are.
use Rattle.std.proofs.Common.{◌≡◌, ℕ, List, ap, subst, ◌∙◌, arith}
use Rattle.babel_tlv.specs.declared.view.View.{View}
use Rattle.babel_tlv.specs.Group.{IsCanonicalText}
use Rattle.babel_tlv.specs.Pair.{Pair}
use Rattle.babel_tlv.specs.Views.{keeps_all}
use Rattle.babel_table.specs.Bounds.{Bounds, AreBounds}
use Rattle.babel_table.specs.Rows.{Routes}
use Rattle.babel_table.specs.Seen.{seen_rows, seen_table}
use Rattle.babel_table.specs.TableRows.{AreRows}
use Rattle.babel_table.proofs.SeenLaws.{all_rows}
use Rattle.babel_canon.specs.Sizes.{IsBodySize}
use Rattle.babel_canon.specs.Canonical.{AreCanonical, SaysCanonical}
use Rattle.babel_canon.specs.Answers.{AnswerTheSame}
use Rattle.babel_canon.specs.AnswersAreTold.{AnswersAreTold}
use Rattle.babel_canon.specs.AnswersTell.{AnswersTell}
use Rattle.babel_canon.specs.Fewest.{AreFewest}
use Rattle.babel_canon.specs.Routes.{RoutesHeadline}
use Rattle.babel_canon.specs.Sent.{Sent, sent}
use Rattle.babel_canon.specs.Normalises.{Headline, NormaliseFault, Normalises, SaysFewest, as_they_are}
use Rattle.babel_canon.specs.Packing.{TextIsOne}
use Rattle.babel_canon.specs.Views.{HeadlineUnder}
use Rattle.babel_canon.specs.ViewsTell.{AllNormalises}
use Rattle.babel_dump.specs.Command.{ListsPairs, Tells}
use Rattle.babel_dump.specs.Octets.{AreNormal, AreRoutes, HasTable, IsNormal, IsNormalOfDump}
use Rattle.babel_dump.specs.declared.outcome.Outcome.{Outcome}
use Rattle.babel_dump.specs.declared.reading.Reading.{Reading}

-- the canonical octets of what is seen of the table are those of the dump under the view
normal_of_dump : Headline → HeadlineUnder → AllNormalises → AnswersAreTold
    → (reading : Reading) (view : View) (body : ℕ) (table : Routes) (octets : List ℕ) → AreBounds reading.limits
    → IsBodySize body → SaysCanonical reading.limits body (seen_rows view table.rows) octets → (dump : List ℕ) → HasTable reading dump table
    → IsNormalOfDump reading view body dump octets
normal_of_dump headline under all are_told reading view body table octets bounds size says dump has =
    let it : Sent = sent reading.sender dump in
    let normal : Normalises (seen_rows view) reading.limits reading.mode body it octets = record {
      no_fault = has.accepted;
      table = table;
      is_table = has.is_table;
      boxes = says.pairs;
      are_boxes = says.are_canonical.boxes;
      few = says.are_canonical.few;
      text = says.text;
    } in
    let fewest : SaysFewest (seen_rows view) reading.limits reading.mode body it octets =
    record { table = table; is_table = has.is_table; pairs = says.pairs; fewest = says.are_canonical.fewest; text = says.text } in
    let told = under view reading.limits reading.mode body bounds size it octets normal in
    let plain_of : view ≡ keeps_all → Normalises as_they_are reading.limits reading.mode body it octets =
    λ keeps. (all reading.limits reading.mode body it octets).0 (subst (λ (v : View). Normalises (seen_rows v) reading.limits reading.mode body it octets) keeps normal) in
    let plain_told_of : view ≡ keeps_all →
    AnswersTell (Normalises as_they_are reading.limits reading.mode body) (NormaliseFault as_they_are reading.limits reading.mode) reading.limits.via_v6 reading.mode it octets =
    λ keeps. are_told reading.limits reading.mode body bounds size it octets (plain_of keeps) in
    let whole : view ≡ keeps_all → IsNormal AnswerTheSame as_they_are reading.limits reading.mode body it octets = λ keeps.
    let plain = plain_of keeps in
    let rows : seen_rows view table.rows ≡ table.rows = ap (λ (v : View). seen_rows v table.rows) keeps ∙ all_rows table.rows in
    let plain_fewest : SaysFewest as_they_are reading.limits reading.mode body it octets =
    record { table = table; is_table = has.is_table; pairs = says.pairs; fewest = subst (λ (l : List Pair). AreFewest l says.pairs) rows says.are_canonical.fewest; text = says.text } in
    let plain_told = headline reading.limits reading.mode body bounds size it octets plain in
    record { normalises = plain; fewest = plain_fewest; tells_apart = plain_told.0; reads_again = plain_told.1 } in
    record {
      under = record { normalises = normal; fewest = fewest; tells_apart = told.0; reads_again = λ any. (told.1 any).0 };
      reads_without = λ any. (told.1 any).1;
      whole = whole;
      told = plain_told_of;
    }

-- the canonical pairs have a text
pub lists_pairs : TextIsOne → (limits : Bounds) (view : View) (in_text : List Pair → List Pair → List ℕ) (table seen : Routes) (pairs : List Pair)
    → seen ≡ seen_table view table → AreCanonical limits seen.rows pairs → (text : List ℕ) (outcome : Outcome) → Tells table.report (in_text table.rows pairs) 0 text outcome
    → ListsPairs limits view in_text table text outcome
lists_pairs one limits view in_text table seen pairs seen_is are_seen text outcome tells =
    let size : IsBodySize 1024 = record { room = omega arith; said = omega arith } in
    let are : AreCanonical limits (seen_rows view table.rows) pairs = subst (λ (t : Routes). AreCanonical limits t.rows pairs) seen_is are_seen in
    let whole = one 1024 pairs size are.boxes.are_rows.each in
    record {
      canon = record { pairs = pairs; octets = whole.text };
      is_canon = record { boxes = are.boxes; few = are.few; text = whole.is_text };
      fewest = are.fewest;
      tells = tells;
    }

-- ---- what is made of what is seen of a table is made of the table

module _ (reading : Reading) (view : View) (body : ℕ) (table seen : Routes) (seen_is : seen ≡ seen_table view table) where
  pub normal_of : Headline → HeadlineUnder → AllNormalises → AnswersAreTold → AreBounds reading.limits → IsBodySize body
      → (octets : List ℕ) → SaysCanonical reading.limits body seen.rows octets → AreNormal reading view body table octets
  normal_of headline under all told bounds size octets says_seen =
      let says = subst (λ (t : Routes). SaysCanonical reading.limits body t.rows octets) seen_is says_seen in
      record { says = says; of_dump = normal_of_dump headline under all told reading view body table octets bounds size says }

  pub routes_of : RoutesHeadline → AreBounds reading.limits → IsBodySize body → AreRows table.rows → (octets : List ℕ) → IsCanonicalText body seen.rows octets
      → AreRoutes reading view body table octets
  routes_of headline bounds size rows octets text_seen =
      let text = subst (λ (t : Routes). IsCanonicalText body t.rows octets) seen_is text_seen in record {
        text = text;
        of_dump = λ dump has. headline view reading.limits reading.mode body bounds size _ octets
            (record { no_fault = has.accepted; table = table; is_table = has.is_table; rows = rows; text = text });
      }
