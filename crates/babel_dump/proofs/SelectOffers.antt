-- The routes that senders announce are taken, one sender after another.
use Rattle.std.proofs.Common.{◌≡◌, Bool, true, false, cond, List, [], ◌∷◌, ◌++◌, flat_map, map, Option, None, Some, refl, sym, ap, subst, ◌∙◌, append_assoc, append-nil}
use Rattle.std.proofs.Math.Path.{fun_ext}
use Rattle.std.specs.List.{AllByRecursion, filter_map}
use Rattle.std.specs.List.Sorted.{IsStrictlySortedBy}
use Rattle.std.specs.Map.{keys_of}
use Rattle.std.specs.Option.{option_and_then}
use Rattle.std.proofs.lemmas.Grind.{flat_map-append}
use Rattle.std.proofs.lemmas.List.{map-append}
use Rattle.std.proofs.lemmas.List.Elements.{filter_map-append}
use Rattle.babel_capture.specs.Counts.{Made}
use Rattle.babel_capture.specs.contracts.tallies.OriginOrd.TheImpl.{ghosts}
use Rattle.babel_capture.specs.declared.tallies.Origin.{Origin}
use Rattle.babel_table.specs.Rows.{Routes}
use Rattle.babel_tlv.specs.Pair.{Pair}
use Rattle.babel_timeline.proofs.WordLaws.{all_more}
use Rattle.babel_selection.specs.Hearing.{AreLast, LastIhus}
use Rattle.babel_selection.specs.Links.{rxcost_at}
use Rattle.babel_selection.specs.declared.ihu_from.IhuFrom.{IhuFrom}
use Rattle.babel_selection.specs.declared.ihu_from.IhuSaid.{IhuSaid}
use Rattle.babel_selection.specs.declared.offer.Offer.{Offer}
use Rattle.babel_dump.specs.EachSender.{AreOwn}
use Rattle.babel_dump.specs.Fed.{AreWhole}
use Rattle.babel_dump.specs.Ignored.{IgnoresNone}
use Rattle.babel_dump.specs.Nodes.{node_cmp}
use Rattle.babel_dump.specs.Packets.{packets_made}
use Rattle.babel_dump.specs.PairsMade.{heard_in}
use Rattle.babel_dump.specs.SelectKept.{OffersMore, list_of, said_kept}
use Rattle.babel_dump.specs.SelectOffers.{beside_it, is_at, offers_from, said_at}
use Rattle.babel_dump.specs.ToldOrigins.{OwnRoutes}
use Rattle.babel_dump.specs.ToldPairs.{IsOwnRead}
use Rattle.babel_dump.specs.declared.capture_input.CaptureRead.{CaptureRead}
use Rattle.babel_dump.specs.declared.each_sender.EachSender.{EachSender}
use Rattle.babel_dump.specs.declared.link_costs.LinkCosts.{LinkCosts}
use Rattle.babel_dump.specs.declared.links.Judged.{Judged}
use Rattle.babel_dump.specs.declared.node.Node.{Node}
use Rattle.babel_dump.specs.declared.sender_tables.SenderTable.{SenderTable}
use Rattle.babel_dump.specs.declared.speaker.Speaker.{Speaker}
use Rattle.babel_dump.proofs.OriginsTold.{IsReadOwn}
use Rattle.babel_dump.proofs.ToldSenders.{Entries, IsFedIn, all_fed}

abbrev pub Offers : Type 0
Offers = List (Offer Speaker)

-- what a sender announces, by what is kept of IHUs
abbrev pub offers_kept : LinkCosts → OwnRoutes → Offers
offers_kept costs = offers_from costs.select.now (said_kept costs.judged costs.links.now.ihus) costs.gathered.now.senders

abbrev pub beside : LinkCosts → List Origin → List Origin
beside costs origins = beside_it costs.select.now costs.gathered.now.senders origins

abbrev pub is_beside : LinkCosts → Origin → Bool
is_beside costs origin = is_at costs.select.now.routers.items costs.gathered.now.senders origin.place

-- the routes of some senders are taken, and these are left
pub record Offering (costs : LinkCosts) (each : EachSender) (read : CaptureRead) (entries left : Entries) (before now : Offers) : Type 0 where
  pub found : List OwnRoutes
  pub of_each : map (λ one. one.origin) found ++ beside costs (keys_of left) ≡ beside costs (keys_of entries)
  pub are_own : (made : List Made) → AreWhole (packets_made made) → AreOwn each made entries → AllByRecursion (IsReadOwn each read made) found
  pub fed : (made : List Made) → AreOwn each made entries → AllByRecursion (IsFedIn each made) left
  pub strict : costs.select.now.strict ≡ true → AllByRecursion (λ one. IgnoresNone one.table.report) found
  pub takes : now ≡ before ++ flat_map (offers_kept costs) found

module _ (costs : LinkCosts) (each : EachSender) (read : CaptureRead) (entries : Entries) (before : Offers) where
  pub offering_none : (left : Entries) → left ≡ entries → IsStrictlySortedBy ghosts.cmp (keys_of entries) → Offering costs each read entries left before before
  offering_none left all sorted = subst (λ (some : Entries). Offering costs each read entries some before before) (sym all) (record {
    found = [];
    of_each = refl;
    are_own = λ made whole own. tt;
    fed = λ made own. all_fed each made entries sorted own;
    strict = λ is. tt;
    takes = sym (append-nil before);
  })

  -- a sender elsewhere
  pub offering_past : (origin : Origin) (table : SenderTable) (left : Entries) (now : Offers) → is_beside costs origin ≡ false → Offering costs each read entries ((origin, table) ∷ left) before now
      → Offering costs each read entries left before now
  offering_past origin table left now past was =
      let rest : List Origin = beside costs (keys_of left) in
      record {
        found = was.found;
        of_each = ap (λ (b : Bool). map (λ (o : OwnRoutes). o.origin) was.found ++ cond b (origin ∷ rest) rest) (sym past) ∙ was.of_each;
        are_own = was.are_own;
        fed = λ made has. (was.fed made has).1;
        strict = was.strict;
        takes = was.takes;
      }

  -- one where the router sends
  pub offering_more : (origin : Origin) (table : SenderTable) (left : Entries) (own : Routes) (now after : Offers) → is_beside costs origin ≡ true
      → Offering costs each read entries ((origin, table) ∷ left) before now
      → ((made : List Made) → AreWhole (packets_made made) → IsFedIn each made (origin, table) → IsOwnRead each (heard_in read made) origin (Some own))
      → (costs.select.now.strict ≡ true → IgnoresNone own.report) → after ≡ now ++ offers_kept costs (record { origin = origin; table = own }) → Offering costs each read entries left before after
  offering_more origin table left own now after here was is_own reads takes =
      let one : OwnRoutes = record { origin = origin; table = own } in
      let origins_of : List OwnRoutes → List Origin = map (λ (o : OwnRoutes). o.origin) in
      let rest : List Origin = beside costs (keys_of left) in
      let rows : flat_map (offers_kept costs) (was.found ++ one ∷ []) ≡ flat_map (offers_kept costs) was.found ++ offers_kept costs one =
      flat_map-append (offers_kept costs) was.found (one ∷ []) ∙ ap (λ (l : Offers). flat_map (offers_kept costs) was.found ++ l) (append-nil (offers_kept costs one)) in
      record {
        found = was.found ++ one ∷ [];
        of_each = ap (λ (l : List Origin). l ++ rest) (map-append (λ (o : OwnRoutes). o.origin) was.found (one ∷ []))
            ∙ append_assoc (origins_of was.found) (origin ∷ []) rest
            ∙ ap (λ (b : Bool). origins_of was.found ++ cond b (origin ∷ rest) rest) (sym here)
            ∙ was.of_each;
        are_own = λ made whole has. all_more (IsReadOwn each read made) was.found one (was.are_own made whole has) (is_own made whole (was.fed made has).0);
        fed = λ made has. (was.fed made has).1;
        strict = λ is. all_more (λ (o : OwnRoutes). IgnoresNone o.table.report) was.found one (was.strict is) (reads is);
        takes = takes ∙ ap (λ (l : Offers). l ++ offers_kept costs one) was.takes ∙ append_assoc before (flat_map (offers_kept costs) was.found) (offers_kept costs one)
            ∙ ap (λ (l : Offers). before ++ l) (sym rows);
      }

  pub offering_all : (left : Entries) (after : Offers) → left ≡ [] → Offering costs each read entries left before after → (made : List Made) → AreWhole (packets_made made) → AreOwn each made entries
      → OffersMore costs (heard_in read made) each (keys_of entries) before after
  offering_all left after none all made whole own = record {
    found = all.found;
    are_read = record {
      of_each = sym (append-nil (map (λ (o : OwnRoutes). o.origin) all.found)) ∙ ap (λ (l : Entries). map (λ (o : OwnRoutes). o.origin) all.found ++ beside costs (keys_of l)) (sym none) ∙ all.of_each;
      are_own = all.are_own made whole own;
    };
    strict = all.strict;
    takes = all.takes;
  }

-- what is kept of IHUs says what they do
pub said_same : (judged : Judged) (ihus : List (IhuFrom Node)) (kept : LastIhus Node) → AreLast node_cmp ihus kept → said_kept judged kept ≡ said_at judged.factor judged.moment ihus
said_same judged ihus kept last = fun_ext (λ router. fun_ext (λ neighbour. ap (λ (said : Option IhuSaid). option_and_then (rxcost_at judged.factor judged.moment) said) (last router neighbour true)))

-- ---- the rows of one sender

of_one : (offer : Pair → Option (Offer Speaker)) (row : Pair) (one : Option (Offer Speaker)) → one ≡ offer row → filter_map offer (row ∷ []) ≡ list_of one
of_one offer row None is = cc
of_one offer row (Some o) is = cc

list_first : (offer : Pair → Option (Offer Speaker)) (row : Pair) (rest : List Pair) (one : Option (Offer Speaker)) → one ≡ offer row → filter_map offer (row ∷ rest) ≡ list_of one ++ filter_map offer rest
list_first offer row rest one is = filter_map-append offer (row ∷ []) rest ∙ ap (λ (l : Offers). l ++ filter_map offer rest) (of_one offer row one is)

-- the rows so far, and those that are left
pub offers_next : (offer : Pair → Option (Offer Speaker)) (row : Pair) (left rest : List Pair) (before after all : Offers) (one : Option (Offer Speaker))
    → left ≡ row ∷ rest → before ++ filter_map offer left ≡ all → one ≡ offer row → after ≡ before ++ list_of one → after ++ filter_map offer rest ≡ all
offers_next offer row left rest before after all one steps so_far is pushed =
    ap (λ (l : Offers). l ++ filter_map offer rest) pushed ∙ append_assoc before (list_of one) (filter_map offer rest)
    ∙ ap (λ (l : Offers). before ++ l) (sym (list_first offer row rest one is)) ∙ ap (λ (l : List Pair). before ++ filter_map offer l) (sym steps) ∙ so_far
