-- The headline, from what the boxes of rows answer and what their text is read as.
use Rattle.std.proofs.Common.{◌≡◌, ◌↔◌, ℕ, Bool, true, Option, None, List, [], ◌∷◌, map, refl, sym, ap, subst, ◌∙◌, arith, Contains}
use Rattle.std.specs.Prelude.{IfSome}
use Rattle.std.specs.List.{AllByRecursion}
use Rattle.babel_prefix.specs.declared.family.Family.{Family}
use Rattle.babel_prefix.specs.declared.family.Family.TheVariants.{V4}
use Rattle.babel_prefix.specs.Address.{Address}
use Rattle.babel_prefix.proofs.Members.{Contains-from_Listed}
use Rattle.babel_tlv.specs.declared.held.Held.{Held}
use Rattle.babel_tlv.specs.declared.held.Held.TheVariants as helds
use Rattle.babel_tlv.specs.declared.start.Start.{Start}
use Rattle.babel_tlv.specs.declared.mode.Mode.{Mode}
use Rattle.babel_tlv.specs.declared.mode.Mode.TheVariants as modes
use Rattle.babel_tlv.specs.Route.{RouteKey}
use Rattle.babel_tlv.specs.Pair.{Pair}
use Rattle.babel_tlv.specs.Pairs.{HopFits, IsHopFor, IsPair}
use Rattle.babel_tlv.specs.Group.{IsCanonicalText}
use Rattle.babel_tlv.specs.Framing.{TlvAt}
use Rattle.babel_tlv.specs.Says.{sayings}
use Rattle.babel_tlv.specs.News.{spoken, pair_event}
use Rattle.babel_tlv.proofs.GroupTold.{HopsFit}
use Rattle.babel_tlv.proofs.Telling.{what_of}
use Rattle.babel_table.specs.Bounds.{Bounds, AreBounds, start_of}
use Rattle.babel_table.specs.Rows.{Routes}
use Rattle.babel_table.specs.TableRows.{AreRows}
use Rattle.babel_table.specs.TableOf.{IsTableOf}
use Rattle.babel_table.proofs.HopLaws.{hops_fit}
use Rattle.babel_canon.specs.Sizes.{IsBodySize}
use Rattle.babel_canon.specs.RoundTrip.{IsRoute, AreReadableIn, TellsPairs, ReadsBack}
use Rattle.babel_canon.specs.Boxes.{AreBoxes}
use Rattle.babel_canon.specs.Answers.{AnswerTheSame}
use Rattle.babel_canon.specs.Headline.{TellsApart, ReadsAgain}
use Rattle.babel_canon.specs.Sent.{Sent, sent}
use Rattle.babel_canon.specs.Normalises.{Normalises, NormaliseFault, as_they_are, Headline}
use Rattle.babel_canon.proofs.NoFault.{oks_one}
use Rattle.babel_canon.proofs.PairRows.{rising-apart}
use Rattle.babel_canon.proofs.RoundTrip.{text_reads_back}
use Rattle.babel_canon.proofs.Boxes.{each_is, same_back, same_on, boxes_one, boxes_answer, boxes_each, boxes_too}
use Rattle.babel_table.proofs.ReadingLaws.{framed_one}
use Rattle.babel_canon.proofs.Tables.{table_of_pairs}
use Rattle.babel_canon.proofs.HeldFor.{plain_held}
use Rattle.babel_canon.proofs.OneOutcome.{on_tables, texts_one, form_is_one, form_has_no_fault}

-- ---- boxes can be read in the mode of their rows

-- in mode Plain each row of a dump is a route
pub rows_readable : (limits : Bounds) (mode : Mode) (sender : Address) (dump : List ℕ) (table : Routes) → IsTableOf limits mode sender dump table → AreReadableIn mode table.rows
rows_readable limits modes.Hold sender dump table is_table = tt
rows_readable limits modes.Plain sender dump table is_table = each_is (λ (pair : Pair). IsRoute pair.1) table.rows (λ row at. route row.1 row.0 (Contains-from_Listed table.rows row at))
  where
    route : (held : Held) (key : RouteKey) → Contains table.rows (key, held) → IsRoute held
    route held key c = subst (λ (o : Option Held). IfSome o IsRoute) (is_table.rows.held key held c) (plain_held key None is_table.said tt)

readable : (mode : Mode) (rows boxes : List Pair) → AreReadableIn mode rows → AreBoxes rows boxes → AreReadableIn mode boxes
readable modes.Hold rows boxes reads are = tt
readable modes.Plain rows boxes reads are = boxes_each (λ (pair : Pair). IsRoute pair.1) (λ pair box family held. subst IsRoute held) rows boxes are reads

-- ---- next hops fit the keys

-- what boxes have for next hops, rows of the same family have
boxes_hop : (via_v6 : Bool) (rows boxes : List Pair) → HopsFit via_v6 rows → AreBoxes rows boxes → HopsFit via_v6 boxes
boxes_hop via_v6 rows boxes hops are =
    boxes_each (λ (pair : Pair). HopFits via_v6 pair.0 pair.1) (λ pair box family held fits. moved pair.0 box.0 box.1 family (subst (HopFits via_v6 pair.0) held fits)) rows boxes are hops
  where
    moved : (key other : RouteKey) (held : Held) → key.dst.address.family ≡ other.dst.address.family → HopFits via_v6 key held → HopFits via_v6 other held
    moved key other (helds.Route ann) same fits = subst (λ (f : Family). IsHopFor via_v6 f ann.next_hop.family) same fits
    moved key other helds.Unreachable same fits = tt

-- each pair can be read where encoding 4 is read
wide_hops : (pairs : List Pair) → AllByRecursion IsPair pairs → HopsFit true pairs
wide_hops [] fits = tt
wide_hops ((key, helds.Route ann) ∷ pairs) fits = (fits.0.fits.1, wide_hops pairs fits.1)
wide_hops ((key, helds.Unreachable) ∷ pairs) fits = (tt, wide_hops pairs fits.1)

-- ---- equal octets are the text of equal pairs

events_tell : (ps qs : List Pair) → map pair_event ps ≡ map pair_event qs → ps ≡ qs
events_tell [] [] e = refl
events_tell [] (q ∷ qs) e = absurd cc
events_tell (p ∷ ps) [] e = absurd cc
events_tell (p ∷ ps) (q ∷ qs) e =
    let heads : pair_event p ≡ pair_event q = cc in
    let later : map pair_event ps ≡ map pair_event qs = cc in
    ap (λ (pair : Pair). pair ∷ ps) (one p.0 q.0 p.1 q.1 heads) ∙ ap (λ (l : List Pair). q ∷ l) (events_tell ps qs later)
  where
    pair : RouteKey → Held → Pair
    pair key held = (key, held)

    one : (key other : RouteKey) (held its : Held) → pair_event (key, held) ≡ pair_event (other, its) → pair key held ≡ pair other its
    one key other (helds.Route a) (helds.Route b) e = cc
    one key other (helds.Route a) helds.Unreachable e = absurd cc
    one key other helds.Unreachable (helds.Route b) e = absurd cc
    one key other helds.Unreachable helds.Unreachable e = cc

told_one : (start : Start) (octets : List ℕ) (ps qs : List Pair) → TellsPairs start octets ps → TellsPairs start octets qs → ps ≡ qs
told_one start octets ps qs one other =
    let packets_are : one.packets ≡ other.packets = framed_one octets one.packets other.packets one.reads other.reads in
    let said_are : one.said ≡ other.said = oks_one one.said other.said
    (sym one.fine ∙ ap (λ (packets : List (List TlvAt)). map what_of (sayings start packets)) packets_are ∙ other.fine) in
    events_tell ps qs (sym one.news ∙ ap spoken said_are ∙ other.news)

abbrev any_start : Start
any_start = record { sender = record { family = V4; bits = 0 }; via_v6 = true }

pub back : (mode : Mode) (body : ℕ) (pairs : List Pair) (octets : List ℕ) (start : Start) → IsBodySize body → AreRows pairs → HopsFit start.via_v6 pairs → AreReadableIn mode pairs
    → IsCanonicalText body pairs octets → ReadsBack mode start octets pairs
back mode body pairs octets start size rows hops reads text = text_reads_back mode body pairs octets start size.said rows.each hops (rising-apart pairs rows.rising) reads text

pub pairs_one : (body : ℕ) (ps qs : List Pair) (octets : List ℕ) → IsBodySize body → AreRows ps → AreRows qs → IsCanonicalText body ps octets → IsCanonicalText body qs octets → ps ≡ qs
pairs_one body ps qs octets size p_rows q_rows p_text q_text =
    told_one any_start octets ps qs (back modes.Hold body ps octets any_start size p_rows (wide_hops ps p_rows.each) tt p_text).tells
    (back modes.Hold body qs octets any_start size q_rows (wide_hops qs q_rows.each) tt q_text).tells

-- ---- equal octets are of equal answers

pub forms_tell : (body : ℕ) → IsBodySize body → (rows others boxes other_boxes : List Pair) (octets other_octets : List ℕ) → AreBoxes rows boxes → AreBoxes others other_boxes
    → IsCanonicalText body boxes octets → IsCanonicalText body other_boxes other_octets → (octets ≡ other_octets) ↔ AnswerTheSame rows others
forms_tell body size rows others boxes other_boxes octets other_octets are other_are text other_text = (answers_same, octets_same)
  where
    octets_same : AnswerTheSame rows others → octets ≡ other_octets
    octets_same same = texts_one body boxes other_boxes octets other_octets (boxes_one rows others boxes other_boxes same are other_are) text other_text

    answers_same : octets ≡ other_octets → AnswerTheSame rows others
    answers_same same =
        let boxes_are : boxes ≡ other_boxes =
        pairs_one body boxes other_boxes other_octets size are.are_rows other_are.are_rows (subst (λ (o : List ℕ). IsCanonicalText body boxes o) same text) other_text in
        same_on rows boxes others (same_back boxes rows (boxes_answer rows boxes are))
        (subst (λ (l : List Pair). AnswerTheSame l others) (sym boxes_are) (boxes_answer others other_boxes other_are))

-- ---- the text of boxes is its own canonical form

-- the octets are a dump with these rows, and its canonical form
pub record IsItsOwn (limits : Bounds) (mode : Mode) (body : ℕ) (boxes : List Pair) (octets : List ℕ) (any : Address) : Type 0 where
  pub again : Normalises as_they_are limits mode body (sent any octets) octets
  pub rows_are : again.table.rows ≡ boxes

pub its_own : (limits : Bounds) (mode : Mode) (body : ℕ) → AreBounds limits → IsBodySize body → (see : List Pair → List Pair) (it : Sent) (octets : List ℕ)
    → (one : Normalises see limits mode body it octets) → AreReadableIn mode (see one.table.rows) → HopsFit limits.via_v6 (see one.table.rows)
    → (any : Address) → IsItsOwn limits mode body one.boxes octets any
its_own limits mode body bounds size see it octets one reads_rows hops_rows any =
    let rows = see one.table.rows in
    let are = one.are_boxes in
    let reads = readable mode rows one.boxes reads_rows are in
    let read = back mode body one.boxes octets (start_of limits any) size are.are_rows (boxes_hop limits.via_v6 rows one.boxes hops_rows are) reads one.text in
    record {
      again = record {
        no_fault = read.no_fault limits refl one.few (omega (arith, one.few, bounds.room));
        table = _;
        is_table = table_of_pairs limits mode any octets one.boxes are.are_rows.rising reads one.few read.tells;
        boxes = one.boxes;
        are_boxes = boxes_too rows one.boxes one.boxes (same_back one.boxes rows (boxes_answer rows one.boxes are)) are;
        few = one.few;
        text = one.text;
      };
      rows_are = refl;
    }

-- ---- the headline

-- where what is the same is what is seen as the same
pub tells_apart : (see : List Pair → List Pair) (Same : List Pair → List Pair → Type 0) → ((rows others : List Pair) → Same rows others ↔ AnswerTheSame (see rows) (see others))
    → (limits : Bounds) (mode : Mode) (body : ℕ) → IsBodySize body → (one : Sent) (octets : List ℕ) → Normalises see limits mode body one octets
    → TellsApart Same (Normalises see limits mode body) limits mode one octets
tells_apart see Same law limits mode body size it octets one other_it other_octets other =
    let tell = forms_tell body size (see one.table.rows) (see other.table.rows) one.boxes other.boxes octets other_octets one.are_boxes other.are_boxes one.text other.text in
    let same = law one.table.rows other.table.rows in (
      (λ equal. on_tables limits mode it other_it one.table other.table one.is_table other.is_table Same (same.1 (tell.0 equal))),
      (λ answers. tell.1 (same.0 (answers one.table other.table one.is_table other.is_table))),
    )

-- what the octets are made of is `made` of their own table's rows
pub reads_again : (Same : List Pair → List Pair → Type 0) (limits : Bounds) (mode : Mode) (body : ℕ) (one : Sent) (octets : List ℕ) (any : Address)
    → (table : Routes) → IsTableOf limits mode one.sender one.dump table → (made : List Pair → List Pair) (own : Normalises made limits mode body (sent any octets) octets)
    → Same own.table.rows table.rows → ReadsAgain Same (Normalises made limits mode body) (NormaliseFault made limits mode) limits mode one octets any
reads_again Same limits mode body it octets any table is_table made own same = record {
  no_fault = own.no_fault;
  answers = on_tables limits mode (sent any octets) it own.table table own.is_table is_table Same same;
  again = own;
  unchanged = λ other normal. form_is_one made limits mode body (sent any octets) other octets normal own;
  only_memory = λ fault faulty. form_has_no_fault made limits mode body (sent any octets) octets fault own faulty;
}

pub headline : Headline
headline limits mode body bounds size it octets one = (
  tells_apart as_they_are AnswerTheSame (λ rows others. ((λ same. same), (λ same. same))) limits mode body size it octets one,
  (λ any.
      let own = its_own limits mode body bounds size as_they_are it octets one (rows_readable limits mode it.sender it.dump one.table one.is_table)
      (hops_fit limits mode it.sender it.dump one.table one.is_table) any in
      reads_again AnswerTheSame limits mode body it octets any one.table one.is_table as_they_are own.again
      (subst (λ (l : List Pair). AnswerTheSame l one.table.rows) (sym own.rows_are) (boxes_answer one.table.rows one.boxes one.are_boxes))),
)
