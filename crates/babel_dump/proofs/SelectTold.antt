-- What is told of a router that selects, by what was read of a capture.
use Rattle.std.proofs.Common.{◌≡◌, ℕ, List, [], ◌++◌, Option, sym, ap, subst, ◌∙◌, flat_map}
use Rattle.std.specs.Io.KnownBytes.{Appends}
use Rattle.std.specs.List.Sorted.{IsPermutation}
use Rattle.std.specs.Map.{keys_of}
use Rattle.std.specs.Option.{unwrap_or}
use Rattle.babel_capture.specs.Counts.{Made}
use Rattle.babel_capture.specs.Gathering.{Gathering}
use Rattle.babel_capture.specs.declared.tallies.Origin.{Origin}
use Rattle.babel_selection.specs.Announcing.{AreDistances}
use Rattle.babel_selection.specs.Hearing.{AreLast}
use Rattle.babel_selection.specs.Offers.{chosen_rows}
use Rattle.babel_selection.specs.declared.distance.Distance.{Distance}
use Rattle.babel_selection.specs.declared.offers.ChosenRoute.{ChosenRoute}
use Rattle.babel_selection.specs.declared.source.Source.{Source}
use Rattle.babel_dump.specs.AskedRun.{WroteSelection}
use Rattle.babel_dump.specs.CaptureGiven.{made_in}
use Rattle.babel_dump.specs.Device.{InputState}
use Rattle.babel_dump.specs.EachSender.{AreOwn, each_from}
use Rattle.babel_dump.specs.Fed.{AreWhole}
use Rattle.babel_dump.specs.LinksHeard.{ihus_made}
use Rattle.babel_dump.specs.Nodes.{node_cmp}
use Rattle.babel_dump.specs.Packets.{packets_made}
use Rattle.babel_dump.specs.PairsMade.{heard_in}
use Rattle.babel_dump.specs.Run.{Output}
use Rattle.babel_dump.specs.SelectHeard.{GaveSelecting, updates_made}
use Rattle.babel_dump.specs.SelectKept.{AreChosen, OffersMore, said_kept}
use Rattle.babel_dump.specs.SelectOffers.{beside_it, offers_from, said_at}
use Rattle.babel_dump.specs.SelectTold.{TellsSelection, best_for, route_line, told_routes, told_status}
use Rattle.babel_dump.specs.ToldOrigins.{AreAllRead, OwnRoutes}
use Rattle.babel_dump.specs.ToldPairs.{Heard}
use Rattle.babel_dump.specs.declared.done.Done.{Done}
use Rattle.babel_dump.specs.declared.link_costs.LinkCosts.{LinkCosts}
use Rattle.babel_dump.specs.declared.node.Node.{Node}
use Rattle.babel_dump.specs.declared.select_job.Select.{Select}
use Rattle.babel_dump.specs.declared.selection_read.SelectionRead.{SelectionRead}
use Rattle.babel_dump.specs.declared.speaker.Speaker.{Speaker}
use Rattle.babel_dump.specs.declared.told_routes.ToldRoutes.{ToldRoutes}
use Rattle.babel_dump.proofs.AskedRuns.{keeps_itself, keeps_left}
use Rattle.babel_dump.proofs.SelectOffers.{Offers, said_same}

-- what senders announce, by what was heard
abbrev pub offers_said : Select → (said : Node → Node → Option ℕ) → Gathering → List OwnRoutes → Offers
offers_said select said gathering found = flat_map (offers_from select said gathering.senders) found

module _ (select : Select) (costs : LinkCosts) (heard : Heard) (selects : costs.select.now ≡ select) (gathers : costs.gathered.now ≡ heard.gathering) where
  said_so : (moment : ℕ) → costs.judged.factor ≡ select.expiry → costs.judged.moment ≡ moment → AreLast node_cmp (ihus_made heard.made) costs.links.now.ihus
      → said_kept costs.judged costs.links.now.ihus ≡ said_at select.expiry moment (ihus_made heard.made)
  said_so moment factor then last =
      said_same costs.judged (ihus_made heard.made) costs.links.now.ihus last
      ∙ ap (λ (f : ℕ). said_at f costs.judged.moment (ihus_made heard.made)) factor ∙ ap (λ (m : ℕ). said_at select.expiry m (ihus_made heard.made)) then

  offers_so : (said : Node → Node → Option ℕ) (found : List OwnRoutes) → said_kept costs.judged costs.links.now.ihus ≡ said
      → flat_map (offers_from costs.select.now (said_kept costs.judged costs.links.now.ihus) costs.gathered.now.senders) found ≡ offers_said select said heard.gathering found
  offers_so said found is =
      ap (λ (s : Select). offers_said s (said_kept costs.judged costs.links.now.ihus) costs.gathered.now found) selects
      ∙ ap (λ (f : Node → Node → Option ℕ). offers_said select f costs.gathered.now found) is
      ∙ ap (λ (g : Gathering). offers_said select said g found) gathers

  beside_so : (senders : List Origin) → beside_it costs.select.now costs.gathered.now.senders senders ≡ beside_it select heard.gathering.senders senders
  beside_so senders = ap (λ (s : Select). beside_it s costs.gathered.now.senders senders) selects ∙ ap (λ (g : Gathering). beside_it select g.senders senders) gathers

  pub tells_so : (senders : List Origin) (moment : ℕ) (first all : Offers) (sources : List (Source × Distance)) (routes : List (ChosenRoute Speaker)) (told : ToldRoutes) (text : List ℕ) (status : ℕ)
      → costs.judged.factor ≡ select.expiry → costs.judged.moment ≡ moment → moment ≡ unwrap_or heard.moment 0 → AreLast node_cmp (ihus_made heard.made) costs.links.now.ihus
      → OffersMore costs heard select.each senders first all → first ≡ [] → AreDistances (updates_made select heard.made) sources
      → AreChosen moment sources all routes → told ≡ told_routes select.filter select.pair routes
      → text ≡ flat_map (route_line select.each.format heard.gathering told) routes → status ≡ told_status told.pair told.best → TellsSelection select heard senders text status
  tells_so senders moment first all sources routes told text status factor then now last more none are chosen told_is text_is status_is =
      let at : ℕ = unwrap_or heard.moment 0 in
      let said = said_at select.expiry at (ihus_made heard.made) in
      let said_is = said_so at factor (then ∙ now) last in
      let all_is : all ≡ offers_said select said heard.gathering more.found =
      more.takes ∙ ap (λ (f : Offers). f ++ flat_map (offers_from costs.select.now (said_kept costs.judged costs.links.now.ihus) costs.gathered.now.senders) more.found) none
      ∙ offers_so said more.found said_is in
      let rows_are : routes ≡ chosen_rows at sources chosen.sorted = chosen.rows ∙ ap (λ (m : ℕ). chosen_rows m sources chosen.sorted) now in
      record {
        found = more.found;
        are_read = subst (λ (l : List Origin). AreAllRead select.each heard l more.found) (beside_so senders) more.are_read;
        strict = λ is. more.strict (ap (λ (s : Select). s.strict) selects ∙ is);
        offers = chosen.sorted;
        are_offers = subst (λ (l : Offers). IsPermutation l chosen.sorted) all_is chosen.permutes;
        in_order = chosen.in_order;
        sources = sources;
        are_sources = are;
        text_is = text_is ∙ ap (λ (t : ToldRoutes). flat_map (route_line select.each.format heard.gathering t) routes) told_is
            ∙ ap (λ (r : List (ChosenRoute Speaker)). flat_map (route_line select.each.format heard.gathering (told_routes select.filter select.pair r)) r) rows_are;
        status_is = status_is ∙ ap (λ (t : ToldRoutes). told_status t.pair t.best) told_is
            ∙ ap (λ (r : List (ChosenRoute Speaker)). told_status select.pair (best_for select.pair r)) rows_are;
      }

-- all that is told, by what was taken
pub tells_all : (select : Select) (costs : LinkCosts) (heard : Heard) (senders : List Origin) (moment : ℕ) (first all : Offers) (sources : List (Source × Distance)) (routes : List (ChosenRoute Speaker))
    (told : ToldRoutes) (text : List ℕ) (status : ℕ) → OffersMore costs heard select.each senders first all → costs.select.now ≡ select → costs.gathered.now ≡ heard.gathering
    → costs.judged.factor ≡ select.expiry → costs.judged.moment ≡ moment → moment ≡ unwrap_or heard.moment 0 → AreLast node_cmp (ihus_made heard.made) costs.links.now.ihus
    → first ≡ [] → AreDistances (updates_made select heard.made) sources → AreChosen moment sources all routes → told ≡ told_routes select.filter select.pair routes
    → text ≡ flat_map (route_line select.each.format heard.gathering told) routes → status ≡ told_status told.pair told.best → TellsSelection select heard senders text status
tells_all select costs heard senders moment first all sources routes told text status more selects gathers factor then now last none are chosen told_is text_is status_is =
    tells_so select costs heard selects gathers senders moment first all sources routes told text status factor then now last more none are chosen told_is text_is status_is

pub wrote_selection : (select : Select) (stream : Option (List ℕ)) (old new given : InputState) (writer : Output) (read : SelectionRead) (lines text : List ℕ) (status : ℕ) (done : Done)
    → old ≡ given → given.left ≡ stream → GaveSelecting select (each_from select.each old new) read
    → ((made : List Made) → AreWhole (packets_made made) → AreOwn select.each made read.senders.tables.entries → AreLast node_cmp (ihus_made made) read.links.ihus
    → AreDistances (updates_made select made) read.sources → TellsSelection select (heard_in read.senders.read made) (keys_of read.senders.tables.entries) lines status)
    → text ≡ lines → Appends writer.old.taken writer.new.taken text → done.status ≡ status → WroteSelection select stream writer done
wrote_selection select stream old new given writer read lines text status done is left gave tells same wrote done_is =
    let told = tells (made_in gave.gave.given) gave.whole gave.are_own gave.ihus gave.updates in
    record {
      reader = record { old = old; new = new };
      keeps = keeps_left stream old.left stream (ap (λ (s : InputState). s.left) is ∙ left) (keeps_itself stream);
      read = read;
      gave = gave;
      text = lines;
      tells = subst (λ (s : ℕ). TellsSelection select (heard_in read.senders.read (made_in gave.gave.given)) (keys_of read.senders.tables.entries) lines s) (sym done_is) told;
      wrote = subst (Appends writer.old.taken writer.new.taken) same wrote;
    }
