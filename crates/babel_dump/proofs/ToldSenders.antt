-- What is told of the senders in a capture, all together.
use Rattle.std.proofs.Common.{◌≡◌, ◌+◌, ◌≤◌, ℕ, Less, Bool, List, [], ◌∷◌, ◌++◌, map, Option, Some, Result, Ok, Err, refl, sym, ap, subst, ◌∙◌, true, false, append_assoc, append-nil, arith}
use Rattle.std.specs.Prelude.{IfErr, IfOk}
use Rattle.std.specs.BTreeMap.{is_at}
use Rattle.std.specs.List.{AllByRecursion}
use Rattle.std.specs.List.Sorted.{IsStrictlySortedBy}
use Rattle.std.specs.Map.{keys_of}
use Rattle.std.specs.Ordering.{is_eq}
use Rattle.std.specs.declared.cmp.Ordering.{Ordering}
use Rattle.std.proofs.lemmas.Cmp.{tied_itself}
use Rattle.std.proofs.lemmas.Grind.{flat_map-append}
use Rattle.std.proofs.lemmas.List.{map-append}
use Rattle.std.proofs.lemmas.List.Sums.{fold-append}
use Rattle.std.proofs.lemmas.Map.Entries.{lookup_head, lookup_tail}
use Rattle.babel_capture.specs.Counts.{Made}
use Rattle.babel_capture.specs.Gathering.{Gathering, name_of}
use Rattle.babel_capture.specs.Tallies.{origin_cmp}
use Rattle.babel_capture.specs.declared.tallies.Origin.{Origin}
use Rattle.babel_capture.specs.contracts.tallies.OriginOrd.TheImpl.{ghosts}
use Rattle.babel_capture.proofs.TallyLaws.{origin_order, origin_total}
use Rattle.babel_prefix.proofs.Insertion.{is_at-sym}
use Rattle.babel_timeline.proofs.WordLaws.{all_more}
use Rattle.babel_dump.specs.Fed.{AreWhole}
use Rattle.babel_dump.specs.declared.input_fault.InputFault.{InputFault}
use Rattle.babel_dump.specs.declared.key.TableText.{TableText}
use Rattle.babel_dump.specs.Packets.{packets_made}
use Rattle.babel_dump.specs.ToldSenders.{AreTexts, FoundText, IsFound, TellsSenders, first_statuses, line_of, rows_of, statuses_with, told_by, told_of}
use Rattle.babel_dump.specs.EachSender.{AreOwn, IsFedOwn, IsOwn, IsSenderText, NoSenderText, first_missed, is_asked, own_packets, table_at}
use Rattle.babel_dump.specs.declared.done.ToldSender.{ToldSender}
use Rattle.babel_dump.specs.declared.told_senders.ToldSenders.{ToldSenders}
use Rattle.babel_dump.specs.declared.each_sender.EachSender.{EachSender}
use Rattle.babel_dump.specs.declared.sender_tables.SenderTable.{SenderTable}

-- of none
pub tells_none : (each : EachSender) (gathering : Gathering) (made : ToldSenders) → made.senders.items ≡ [] → made.lines.items ≡ [] → made.rows ≡ 0
    → made.statuses.items ≡ first_statuses each.task each.asked.items
    → TellsSenders each gathering [] made
tells_none each gathering made senders lines rows statuses = record {
  senders = ap (map told_by) senders;
  lines = lines;
  rows = rows;
  few = omega (arith, rows);
  statuses = statuses;
}

-- one more is told of
module _ (each : EachSender) (gathering : Gathering) (found : List FoundText) (one : FoundText) (old new : ToldSenders) where
  pub tells_more : (sender : ToldSender) → TellsSenders each gathering found old → new.senders.items ≡ old.senders.items ++ sender ∷ [] → told_by sender ≡ told_of gathering one
      → new.lines.items ≡ old.lines.items ++ line_of one.key → new.rows ≡ old.rows + rows_of one.key → new.rows ≤ each.limits.entries
      → new.statuses.items ≡ statuses_with old.statuses.items one.key → TellsSenders each gathering (found ++ one ∷ []) new
  tells_more sender tells pushed told lines rows few statuses =
      let senders_before = map-append told_by old.senders.items (sender ∷ []) in
      let senders_after = map-append (told_of gathering) found (one ∷ []) in
      let lines_after = flat_map-append (λ (f : FoundText). line_of f.key) found (one ∷ []) in
      let rows_after = fold-append (λ sum (f : FoundText). sum + rows_of f.key) 0 found (one ∷ []) in
      let statuses_after = fold-append (λ (before : List ℕ) (f : FoundText). statuses_with before f.key) (first_statuses each.task each.asked.items) found (one ∷ []) in
      let one_line = append-nil (line_of one.key) in
      let senders_were = tells.senders in
      let lines_were = tells.lines in
      let rows_were = tells.rows in
      let statuses_were = tells.statuses in
      record { senders = cc; lines = cc; rows = cc; few = few; statuses = cc }

-- ---- the table of each sender is its own

abbrev pub Entries : Type 0
Entries = List (Origin × SenderTable)

abbrev IsHere : Entries → Origin × SenderTable → Type 0
IsHere entries entry = table_at entries entry.0 ≡ Some entry.1

below : (first : Origin × SenderTable) (all some : Entries) → AllByRecursion (λ origin. origin_cmp first.0 origin ≡ Less) (keys_of some) → AllByRecursion (IsHere all) some
    → AllByRecursion (IsHere (first ∷ all)) some
below first all [] less here = tt
below first all (entry ∷ some) (less, more) (here, later) =
    (lookup_tail (is_at (origin_cmp entry.0)) first all (is_at-sym origin_total entry.0 first.0 ∙ ap is_eq less) ∙ here, below first all some more later)

are_here : (entries : Entries) → IsStrictlySortedBy origin_cmp (keys_of entries) → AllByRecursion (IsHere entries) entries
unfolding IsStrictlySortedBy
are_here [] sorted = tt
are_here (entry ∷ entries) sorted = (lookup_head (is_at (origin_cmp entry.0)) entry entries (ap is_eq (tied_itself origin_total entry.0)), below entry entries entries sorted.0 (are_here entries sorted.1))

abbrev pub IsFedIn : EachSender → List Made → Origin × SenderTable → Type 0
IsFedIn each records entry = IsFedOwn each entry.0 (own_packets entry.0 records) (first_missed entry.0 records) entry.1

module _ (each : EachSender) (records : List Made) (entries : Entries) (own : AreOwn each records entries) where
  fed_by : (entry : Origin × SenderTable) (asked : Bool) → is_asked each.place entry.0 ≡ asked → IsHere entries entry → IsFedIn each records entry
  fed_by entry true is here = (subst (IsOwn each entry.0 (own_packets entry.0 records) (first_missed entry.0 records)) here (own.own entry.0 is)).0
  fed_by entry false is here = absurd (let none = own.others entry.0 is in cc)

  are_fed : (some : Entries) → AllByRecursion (IsHere entries) some → AllByRecursion (IsFedIn each records) some
  are_fed [] here = tt
  are_fed (entry ∷ some) (here, later) = (fed_by entry (is_asked each.place entry.0) refl here, are_fed some later)

pub all_fed : (each : EachSender) (records : List Made) (entries : Entries) → IsStrictlySortedBy ghosts.cmp (keys_of entries) → AreOwn each records entries
    → AllByRecursion (IsFedIn each records) entries
all_fed each records entries sorted own =
    are_fed each records entries own entries (are_here entries (subst (λ (k : Origin → Origin → Ordering). IsStrictlySortedBy k (keys_of entries)) origin_order sorted))

-- the key of one, or why it has none
pub found_so : (each : EachSender) (moment : Option ℕ) (gathering : Gathering) (origin : Origin) (table : SenderTable) (key : Result TableText InputFault)
    → IfOk key (λ k. (records : List Made) → AreWhole (packets_made records) → IsFedIn each records (origin, table)
    → IsSenderText each records moment origin (name_of gathering origin.place.interface) k)
    → IfErr key (λ f. (records : List Made) → AreWhole (packets_made records) → IsFedIn each records (origin, table) → NoSenderText each records moment origin f)
    → (records : List Made) → AreWhole (packets_made records) → IsFedIn each records (origin, table) → IsFound each records moment gathering (record { origin = origin; key = key })
found_so each moment gathering origin table (Ok key) ok err = ok
found_so each moment gathering origin table (Err fault) ok err = err

-- ---- one after another

-- what is told of some senders was made, and these are left
pub record Making (each : EachSender) (moment : Option ℕ) (gathering : Gathering) (entries left : Entries) (made : ToldSenders) : Type 0 where
  pub found : List FoundText
  pub of_each : map (λ one. one.origin) found ++ keys_of left ≡ keys_of entries
  pub are_found : (records : List Made) → AreWhole (packets_made records) → AreOwn each records entries → AllByRecursion (IsFound each records moment gathering) found
  pub fed : (records : List Made) → AreOwn each records entries → AllByRecursion (IsFedIn each records) left
  pub told : TellsSenders each gathering found made

module _ (each : EachSender) (moment : Option ℕ) (gathering : Gathering) (entries : Entries) where
  pub making_none : (left : Entries) (made : ToldSenders) → left ≡ entries → IsStrictlySortedBy ghosts.cmp (keys_of entries) → TellsSenders each gathering [] made
      → Making each moment gathering entries left made
  making_none left made all sorted told = subst (λ (some : Entries). Making each moment gathering entries some made) (sym all) (record {
    found = [];
    of_each = refl;
    are_found = λ records whole own. tt;
    fed = λ records own. all_fed each records entries sorted own;
    told = told;
  })

  pub making_more : (origin : Origin) (table : SenderTable) (left : Entries) (key : Result TableText InputFault) (old new : ToldSenders)
      → Making each moment gathering entries ((origin, table) ∷ left) old
      → ((records : List Made) → AreWhole (packets_made records) → IsFedIn each records (origin, table) → IsFound each records moment gathering (record { origin = origin; key = key }))
      → ((found : List FoundText) → TellsSenders each gathering found old → TellsSenders each gathering (found ++ record { origin = origin; key = key } ∷ []) new)
      → Making each moment gathering entries left new
  making_more origin table left key old new was is_found tells =
      let one : FoundText = record { origin = origin; key = key } in
      let origins = map-append (λ (f : FoundText). f.origin) was.found (one ∷ []) in
      let assoc = append_assoc (map (λ (f : FoundText). f.origin) was.found) (origin ∷ []) (keys_of left) in
      let were = was.of_each in
      record {
        found = was.found ++ one ∷ [];
        of_each = cc;
        are_found = λ records whole own. all_more (IsFound each records moment gathering) was.found one (was.are_found records whole own) (is_found records whole (was.fed records own).0);
        fed = λ records own. (was.fed records own).1;
        told = tells was.found was.told;
      }

  pub making_all : (made : ToldSenders) (records : List Made) → AreWhole (packets_made records) → AreOwn each records entries → Making each moment gathering entries [] made
      → AreTexts each records moment gathering (keys_of entries) made
  making_all made records whole own all = record {
    found = all.found;
    of_each = sym (append-nil (map (λ (f : FoundText). f.origin) all.found)) ∙ all.of_each;
    are_found = all.are_found records whole own;
    told = all.told;
  }
