-- The headline for routes, from what the text of rows is read as.
use Rattle.std.proofs.Common.{◌≡◌, ℕ, ◌≤◌, List, [], ◌∷◌, ◌++◌, length, refl, sym, ap, subst, ◌∙◌, arith, inl, inr}
use Rattle.babel_prefix.specs.Address.{Address}
use Rattle.babel_prefix.specs.Entries.{answer_for}
use Rattle.babel_tlv.specs.declared.event.Event.{Event}
use Rattle.babel_tlv.specs.declared.fault.Fault.{Fault}
use Rattle.babel_tlv.specs.declared.fault.Fault.TheVariants as faults
use Rattle.babel_tlv.specs.declared.mode.Mode.{Mode}
use Rattle.babel_tlv.specs.declared.view.View.{View}
use Rattle.babel_tlv.specs.Group.{IsCanonicalText}
use Rattle.babel_tlv.specs.Pair.{Pair}
use Rattle.babel_tlv.specs.Says.{Saying, sayings}
use Rattle.babel_tlv.specs.Views.{keeps_all}
use Rattle.babel_table.specs.Bounds.{Bounds, AreBounds, start_of}
use Rattle.babel_table.specs.DumpFault.{HasNoFault}
use Rattle.babel_table.specs.Holds.{HoldsAtMost}
use Rattle.babel_table.specs.Rows.{Routes, entries_of}
use Rattle.babel_table.specs.Seen.{seen_rows, seen_table}
use Rattle.babel_table.specs.TableRows.{AreRows}
use Rattle.babel_table.specs.TableOf.{AreFine, IsTableOf}
use Rattle.babel_table.proofs.RowsLaws.{rows-none, rows-one}
use Rattle.babel_table.proofs.SeenLaws.{all_rows, seen_are_rows}
use Rattle.babel_table.proofs.HopLaws.{hops_fit}
use Rattle.babel_canon.specs.Headline.{TellsApart}
use Rattle.babel_canon.specs.Routes.{AreRouteOctets, AreRoutes, RoutesFault, RoutesHeadline, RoutesReadAgain, RoutesTheSame, SameRoutesAnswer, SaysRoutes}
use Rattle.babel_canon.specs.Sent.{Sent, sent}
use Rattle.babel_canon.specs.Sizes.{IsBodySize}
use Rattle.babel_canon.proofs.Headline.{back, pairs_one, rows_readable}
use Rattle.babel_canon.proofs.OneOutcome.{on_tables, rows_one, texts_one}
use Rattle.babel_canon.proofs.Tables.{table_of_pairs}
use Rattle.babel_canon.proofs.Views.{all_seen, seen_answers_tell, seen_are_seen, seen_hops, seen_readable}

-- ---- rows are never too many

few_said : (mode : Mode) (entries : ℕ) (before : List Event) (front : List Saying) (said : List Event) → HoldsAtMost mode entries before → AreFine mode entries before front said
    → HoldsAtMost mode entries said
few_said mode entries before [] said few fine = subst (HoldsAtMost mode entries) (sym fine) few
few_said mode entries before (saying ∷ later) said few (event, is, more, fine) = few_said mode entries (before ++ event ∷ []) later said more fine

few_rows : (limits : Bounds) (mode : Mode) (sender : Address) (dump : List ℕ) (table : Routes) → IsTableOf limits mode sender dump table → length table.rows ≤ limits.entries
few_rows limits mode sender dump table is =
    let few = few_said mode limits.entries [] (sayings (start_of limits sender) is.packets) is.said ([], rows-none mode, omega arith) is.fine in
    let same = ap (λ (rows : List Pair). length rows) (rows-one mode is.said few.0 table.rows few.1 is.rows) in
    omega (arith, same, few.2)

length-seen : (view : View) (rows : List Pair) → length (seen_rows view rows) ≡ length rows
length-seen view [] = refl
length-seen view (row ∷ rows) = omega (arith, length-seen view rows)

-- ---- the headline

module _ (view : View) (limits : Bounds) (mode : Mode) (body : ℕ) (size : IsBodySize body) where
  tells_apart : (one : Sent) (octets : List ℕ) → SaysRoutes view limits mode body one octets → TellsApart (RoutesTheSame view) (SaysRoutes view limits mode body) limits mode one octets
  tells_apart it octets one other_it other_octets other = (
    (λ same. on_tables limits mode it other_it one.table other.table one.is_table other.is_table (RoutesTheSame view)
        (pairs_one body (seen_rows view one.table.rows) (seen_rows view other.table.rows) other_octets size (seen_are_rows view one.table.rows one.rows)
        (seen_are_rows view other.table.rows other.rows) (subst (IsCanonicalText body (seen_rows view one.table.rows)) same one.text) other.text)),
    (λ same. texts_one body (seen_rows view one.table.rows) (seen_rows view other.table.rows) octets other_octets (same one.table other.table one.is_table other.is_table) one.text other.text),
  )

  read_again : AreBounds limits → (it : Sent) (octets : List ℕ) (one : SaysRoutes view limits mode body it octets) (any : Address)
      (again : View) → seen_rows again (seen_rows view one.table.rows) ≡ seen_rows view one.table.rows → RoutesReadAgain view again limits mode body it octets any
  read_again bounds it octets one any again stays =
      let rows = seen_rows view one.table.rows in
      let are_rows = seen_are_rows view one.table.rows one.rows in
      let reads = seen_readable view mode one.table.rows (rows_readable limits mode it.sender it.dump one.table one.is_table) in
      let few : length rows ≤ limits.entries = rw (length-seen view one.table.rows) (few_rows limits mode it.sender it.dump one.table one.is_table) in
      let hops = seen_hops limits.via_v6 view one.table.rows (hops_fit limits mode it.sender it.dump one.table one.is_table) in
      let read = back mode body rows octets (start_of limits any) size are_rows hops reads one.text in
      let is_table = table_of_pairs limits mode any octets rows are_rows.rising reads few read.tells in
      let no_fault = read.no_fault limits refl few (omega (arith, few, bounds.room)) in
      record {
        no_fault = no_fault;
        answers = on_tables limits mode (sent any octets) it _ one.table is_table one.is_table (AreRoutes view) refl;
        again = record {
          no_fault = no_fault;
          table = _;
          is_table = is_table;
          rows = are_rows;
          text = subst (λ (l : List Pair). IsCanonicalText body l octets) (sym stays) one.text;
        };
        unchanged = λ other made.
            let same = ap (seen_rows again) (rows_one limits mode any octets made.table _ made.is_table is_table) ∙ stays in
            texts_one body (seen_rows again made.table.rows) rows other octets same made.text one.text;
        only_memory = λ fault refused. memory fault no_fault refused;
      }
    where
      memory : (fault : Fault) → HasNoFault limits mode any octets → RoutesFault limits mode (sent any octets) fault → fault ≡ faults.Memory
      memory fault no_fault (inl of_dump) = absurd (no_fault fault of_dump)
      memory fault no_fault (inr is) = is

pub routes_headline : RoutesHeadline
routes_headline view limits mode body bounds size one octets says = record {
  says = says;
  tells_apart = tells_apart view limits mode body size one octets says;
  reads_again = λ any. read_again view limits mode body size bounds one octets says any view
      (all_seen view (seen_rows view says.table.rows) (seen_are_seen view says.table.rows));
  reads_without = λ any. read_again view limits mode body size bounds one octets says any keeps_all (all_rows (seen_rows view says.table.rows));
}

-- of what is written of a dump's table
pub told : (view : View) (limits : Bounds) (mode : Mode) (body : ℕ) → AreBounds limits → IsBodySize body → (one : Sent) (octets : List ℕ) (table seen : Routes)
    → HasNoFault limits mode one.sender one.dump → IsTableOf limits mode one.sender one.dump table → AreRows table.rows → seen ≡ seen_table view table → IsCanonicalText body seen.rows octets
    → AreRouteOctets view limits mode body one octets
told view limits mode body bounds size one octets table seen no_fault is_table rows seen_is text =
    routes_headline view limits mode body bounds size one octets (record {
      no_fault = no_fault;
      table = table;
      is_table = is_table;
      rows = rows;
      text = subst (λ (t : Routes). IsCanonicalText body t.rows octets) seen_is text;
    })

-- ---- the same routes answer the same

pub same_routes_answer : SameRoutesAnswer
same_routes_answer view rows others are_rows are_others same =
    (seen_answers_tell view rows others are_rows are_others).1 (λ d s d_in s_in one. ap (λ (l : List Pair). answer_for (entries_of l) d s) same)
