-- What is told of the senders in two captures, one pair after another.
use Rattle.std.proofs.Common.{◌≡◌, ◌≢◌, ℕ, Bool, true, false, cond, List, [], ◌∷◌, ◌++◌, map, fold, max, Option, None, Some, refl, sym, ap, subst, ◌∙◌, append-nil, arith}
use Rattle.std.specs.Prelude.{Result, Ok, Err, OnOk}
use Rattle.std.specs.BTreeMap.{is_at}
use Rattle.std.specs.List.{AllByRecursion, flat_map}
use Rattle.std.specs.Map.{keys_of, lookup}
use Rattle.std.proofs.lemmas.Grind.{flat_map-append}
use Rattle.std.proofs.lemmas.List.{map-append}
use Rattle.std.proofs.lemmas.List.Sums.{fold-append}
use Rattle.babel_capture.specs.Counts.{Made}
use Rattle.babel_capture.specs.contracts.tallies.OriginOrd.TheImpl.{ghosts}
use Rattle.babel_capture.specs.declared.tallies.Origin.{Origin}
use Rattle.babel_timeline.proofs.WordLaws.{all_more}
use Rattle.babel_table.specs.Rows.{Routes}
use Rattle.babel_dump.specs.declared.run_fault.Side.{Side}
use Rattle.babel_dump.specs.EachSender.{AreOwn, IsFedOwn, IsOwn, first_missed, is_asked, own_packets, table_at}
use Rattle.babel_dump.specs.Fed.{AreWhole}
use Rattle.babel_dump.specs.Fellows.{AreFellows}
use Rattle.babel_dump.specs.Packets.{packets_made}
use Rattle.babel_dump.specs.PairsMade.{HasTables, Leaves, TellsMore, heard_in}
use Rattle.babel_dump.specs.ToldPairs.{ArePairsTold, IsPairTold, PairTold, TellsAlone, TellsBoth}
use Rattle.babel_dump.specs.declared.capture_input.CaptureRead.{CaptureRead}
use Rattle.babel_dump.specs.declared.each_pair.EachPair.{EachPair}
use Rattle.babel_dump.specs.declared.each_sender.EachSender.{EachSender}
use Rattle.babel_dump.specs.declared.fellows.Fellows.{Fellows}
use Rattle.babel_dump.specs.declared.sender_tables.SenderTable.{SenderTable}
use Rattle.babel_dump.specs.declared.told_pairs.ToldPairs.{ToldPairs}
use Rattle.babel_dump.proofs.OwnTables.{there_so}

abbrev pub Entries : Type 0
Entries = List (Origin × SenderTable)

-- ---- a table is taken out

pub leaves_all : (entries : Entries) → Leaves entries entries
leaves_all entries origin table is = is

pub leaves_after : (first mid last : Entries) → Leaves first mid → Leaves mid last → Leaves first last
leaves_after first mid last left more origin table is = left origin table (more origin table is)

pub leaves_so : (entries after : Entries) (origin : Origin)
    → ((q : Origin) → lookup (is_at (ghosts.cmp q)) after ≡ cond (is_at (ghosts.cmp origin) q) None (lookup (is_at (ghosts.cmp q)) entries)) → Leaves entries after
leaves_so entries after origin updates q table is = by (is_at (ghosts.cmp origin) q) (sym (there_so after q _ (updates q)) ∙ is)
  where
    by : (here : Bool) → cond here None (lookup (is_at (ghosts.cmp q)) entries) ≡ Some table → table_at entries q ≡ Some table
    by true is = absurd (let bad : None ≡ Some table = is in cc)
    by false is = there_so entries q (Some table) is

pub has_tables : (each : EachSender) (made : List Made) (entries : Entries) → AreOwn each made entries → HasTables each made entries
has_tables each made entries own origin table is = by (is_asked each.place origin) refl
  where
    by : (asked : Bool) → is_asked each.place origin ≡ asked → IsFedOwn each origin (own_packets origin made) (first_missed origin made) table
    by true asked = (subst (IsOwn each origin (own_packets origin made) (first_missed origin made)) is (own.own origin asked)).0
    by false asked = absurd (let none = own.others origin asked in cc)

pub still_has : (each : EachSender) (made : List Made) (entries after : Entries) → Leaves entries after → HasTables each made entries → HasTables each made after
still_has each made entries after left has origin table is = has origin table (left origin table is)

-- ---- more is told

pub on_ok : {T E A B : Type 0} (result : Result T E) → OnOk result A → (A → B) → OnOk result B
on_ok (Ok value) holds then = then holds
on_ok (Err fault) holds then = tt

max_zero : (n : ℕ) → n ≡ max n 0
max_zero n = omega arith

pub tells_none : (old : ToldPairs) (Are : List ℕ → ℕ → Type 0) → Are [] 0 → TellsMore old old Are
tells_none old Are are = record { lines = []; status = 0; are = are; lines_are = sym (append-nil old.lines.items); status_is = max_zero old.status }

pub tells_after : (old mid new : ToldPairs) (Are Then : List ℕ → ℕ → Type 0) → mid.lines.items ≡ old.lines.items → mid.status ≡ old.status
    → ((lines : List ℕ) (status : ℕ) → Are lines status → Then lines status) → TellsMore mid new Are → TellsMore old new Then
tells_after old mid new Are Then lines status so more = record {
  lines = more.lines;
  status = more.status;
  are = so more.lines more.status more.are;
  lines_are = more.lines_are ∙ ap (λ (l : List ℕ). l ++ more.lines) lines;
  status_is = more.status_is ∙ ap (λ (n : ℕ). max n more.status) status;
}

-- nothing where a sender is refused
module _ (pairs : EachPair) (name : List ℕ) where
  pub alone_none : (side : Side) (origin : Origin) (table : Option Routes) → ((t : Routes) → table ≢ Some t) → TellsAlone pairs side origin name table [] 0
  alone_none side origin (Some table) not = absurd (not table refl)
  alone_none side origin None not = (refl, refl)

  pub left_none : (left right : Origin) (table other : Option Routes) → ((t : Routes) → table ≢ Some t) → TellsBoth pairs left right name table other [] 0
  left_none left right (Some table) other not = absurd (not table refl)
  left_none left right None other not = (refl, refl)

  pub right_none : (left right : Origin) (table other : Option Routes) → ((t : Routes) → other ≢ Some t) → TellsBoth pairs left right name table other [] 0
  right_none left right table (Some other) not = absurd (not other refl)
  right_none left right (Some table) None not = (refl, refl)
  right_none left right None None not = (refl, refl)

-- ---- one after another

module _ (pairs : EachPair) (read other_read : CaptureRead) (tables other_tables : Entries) where
  -- this is told of a pair, by what the captures' records made
  abbrev pub Tells : (left right : Entries) → Fellows → (lines : List ℕ) → (status : ℕ) → Type 0
  Tells left right fellows lines status =
      (made other_made : List Made) → AreWhole (packets_made made) → HasTables pairs.left made left → AreWhole (packets_made other_made) → HasTables pairs.right other_made right
      → IsPairTold pairs (heard_in read made) (heard_in other_read other_made) fellows lines status

  abbrev AreTold : (made other_made : List Made) → List PairTold → Type 0
  AreTold made other_made told =
      AllByRecursion (λ (one : PairTold). IsPairTold pairs (heard_in read made) (heard_in other_read other_made) one.fellows one.lines one.status) told

  -- what is told of these pairs was made, and these tables are left
  pub record Making (done : List Fellows) (left right : Entries) (now : ToldPairs) : Type 0 where
    pub told : List PairTold
    pub of_each : map (λ one. one.fellows) told ≡ done
    pub are_told : (made other_made : List Made) → AreWhole (packets_made made) → HasTables pairs.left made tables → AreWhole (packets_made other_made)
        → HasTables pairs.right other_made other_tables → AreTold made other_made told
    pub kept : Leaves tables left
    pub other_kept : Leaves other_tables right
    pub lines : now.lines.items ≡ flat_map (λ (one : PairTold). one.lines) told
    pub status : now.status ≡ fold (λ status (one : PairTold). max status one.status) 0 told

  pub making_none : (now : ToldPairs) → now.lines.items ≡ [] → now.status ≡ 0 → Making [] tables other_tables now
  making_none now lines status = record {
    told = [];
    of_each = refl;
    are_told = λ made other_made whole has other_whole other_has. tt;
    kept = leaves_all tables;
    other_kept = leaves_all other_tables;
    lines = lines;
    status = status;
  }

  pub making_more : (done more : List Fellows) (fellows : Fellows) (left right left_after right_after : Entries) (old new : ToldPairs) → more ≡ done ++ fellows ∷ []
      → Making done left right old → Leaves left left_after → Leaves right right_after → TellsMore old new (Tells left right fellows) → Making more left_after right_after new
  making_more done more fellows left right left_after right_after old new is was left_now right_now tells =
      let one : PairTold = record { fellows = fellows; lines = tells.lines; status = tells.status } in
      let each_after = map-append (λ (o : PairTold). o.fellows) was.told (one ∷ []) in
      let lines_after = flat_map-append (λ (o : PairTold). o.lines) was.told (one ∷ []) in
      let status_after = fold-append (λ (status : ℕ) (o : PairTold). max status o.status) 0 was.told (one ∷ []) in
      let one_line = append-nil tells.lines in
      let were = was.of_each in
      let lines_were = was.lines in
      let status_was = was.status in
      let lines_now = tells.lines_are in
      let status_now = tells.status_is in
      record {
        told = was.told ++ one ∷ [];
        of_each = cc;
        are_told = λ made other_made whole has other_whole other_has.
            all_more (λ (o : PairTold). IsPairTold pairs (heard_in read made) (heard_in other_read other_made) o.fellows o.lines o.status) was.told one
            (was.are_told made other_made whole has other_whole other_has)
            (tells.are made other_made whole (still_has pairs.left made tables left was.kept has) other_whole (still_has pairs.right other_made other_tables right was.other_kept other_has));
        kept = leaves_after tables left left_after was.kept left_now;
        other_kept = leaves_after other_tables right right_after was.other_kept right_now;
        lines = cc;
        status = cc;
      }

  pub making_all : (done list : List Fellows) (left right : Entries) (now : ToldPairs) → done ≡ list → AreFellows (keys_of tables) (keys_of other_tables) list → Making done left right now
      → (made other_made : List Made) → AreWhole (packets_made made) → AreOwn pairs.left made tables → AreWhole (packets_made other_made)
      → AreOwn pairs.right other_made other_tables
      → ArePairsTold pairs (heard_in read made) (heard_in other_read other_made) (keys_of tables) (keys_of other_tables) now
  making_all done list left right now all are making made other_made whole own other_whole other_own = record {
    told = making.told;
    are_fellows = subst (AreFellows (keys_of tables) (keys_of other_tables)) (sym (making.of_each ∙ all)) are;
    are_told = making.are_told made other_made whole (has_tables pairs.left made tables own) other_whole (has_tables pairs.right other_made other_tables other_own);
    lines = making.lines;
    status = making.status;
  }
