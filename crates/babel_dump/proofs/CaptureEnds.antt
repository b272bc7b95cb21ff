-- Datagrams of which fragments are missing at the end of a capture have no packet, and count for no sender.
use Rattle.std.proofs.Common.{Bool, true, false, ◌≡◌, refl, sym, ap, subst, ◌∙◌, ℕ, List, [], ◌∷◌, ◌++◌, map, append-nil, Option}
use Rattle.std.specs.Prelude.{fold}
use Rattle.std.specs.List.{filter}
use Rattle.std.proofs.lemmas.List.Concat.{flat_map-append}
use Rattle.babel_capture.specs.Counts.{Made}
use Rattle.babel_capture.specs.Findings.{Found, found, left, passed, refused, untold}
use Rattle.babel_capture.specs.Fragments.{Known}
use Rattle.babel_capture.specs.Gathering.{AreMade, IsUncounted}
use Rattle.babel_capture.specs.Passage.{Sighting, is_lost, missing_in, missing_of}
use Rattle.babel_capture.specs.Tallies.{Senders, senders_listed, senders_with}
use Rattle.babel_capture.specs.Times.{time_of}
use Rattle.babel_capture.specs.declared.datagram.Datagram.{Datagram}
use Rattle.babel_capture.specs.declared.wanted.Wanted.{Wanted}
use Rattle.babel_capture.proofs.GatherLaws.{uncounted-same}
use Rattle.babel_capture.proofs.LostLaws.{lost-uncounted}
use Rattle.babel_dump.specs.Packets.{packets_made, timed_found}

-- ---- what is made in two parts

pub record MadeInTwo (wanted : Wanted) (front back : List Sighting) (made : List Made) : Type 0 where
  pub first : List Made
  pub later : List Made
  pub whole : made ≡ first ++ later
  pub are_first : AreMade wanted front first
  pub are_later : AreMade wanted back later

pub made_in_two : (wanted : Wanted) (front back : List Sighting) (made : List Made) → AreMade wanted (front ++ back) made → MadeInTwo wanted front back made
made_in_two wanted [] back made are = record { first = []; later = made; whole = refl; are_first = refl; are_later = are }
made_in_two wanted (sighting ∷ front) back made (one, others, is, number, link, came, finds, takes, are) =
    let parts = made_in_two wanted front back others are in
    record {
      first = one ∷ parts.first;
      later = parts.later;
      whole = is ∙ ap (λ (ms : List Made). one ∷ ms) parts.whole;
      are_first = (one, parts.first, refl, number, link, came, finds, takes, parts.are_first);
      are_later = parts.are_later;
    }

-- ---- what counts for no sender

abbrev pub AreUncounted : List Made → Type 0
AreUncounted [] = Unit {0}
AreUncounted (one ∷ made) = IsUncounted one.what × AreUncounted made

uncounted_of : (wanted : Wanted) (ones : List (ℕ × Datagram)) (made : List Made) → AreMade wanted (map missing_of ones) made → AreUncounted made
uncounted_of wanted [] made are = subst AreUncounted (sym are) tt
uncounted_of wanted (one ∷ ones) made (here, others, is, number, link, came, finds, takes, are) =
    subst AreUncounted (sym is) (lost-uncounted wanted one.1 here.what finds takes, uncounted_of wanted ones others are)

pub uncounted_at_end : (wanted : Wanted) (known : Known) (made : List Made) → AreMade wanted (missing_in known) made → AreUncounted made
uncounted_at_end wanted known made are = uncounted_of wanted (filter (λ (one : ℕ × Datagram). is_lost one.1) known) made are

none_timed : (time : Option ℕ) (what : Found) → IsUncounted what → timed_found time what ≡ []
none_timed time passed uncounted = refl
none_timed time (left reason missed) uncounted = refl
none_timed time untold uncounted = absurd uncounted
none_timed time (refused lack) uncounted = absurd uncounted
none_timed time (found place ends packet has_trailer) uncounted = absurd uncounted

none_packets : (made : List Made) → AreUncounted made → packets_made made ≡ []
none_packets [] uncounted = refl
none_packets (one ∷ made) (here, later) =
    ap (λ (t : List (ℕ × List ℕ)). t ++ packets_made made) (none_timed (time_of one.came) one.what here) ∙ none_packets made later

-- they have no packet
pub packets_on : (made later : List Made) → AreUncounted later → packets_made (made ++ later) ≡ packets_made made
packets_on made later uncounted =
    flat_map-append (λ (one : Made). timed_found (time_of one.came) one.what) made later
    ∙ ap (λ (t : List (ℕ × List ℕ)). packets_made made ++ t) (none_packets later uncounted) ∙ append-nil (packets_made made)

abbrev senders_more : Senders → List Made → Senders
senders_more senders made = fold (λ (s : Senders) (one : Made). senders_with s (time_of one.came) one.what) senders made

none_more : (senders : Senders) (made : List Made) → AreUncounted made → senders_more senders made ≡ senders
none_more senders [] uncounted = refl
none_more senders (one ∷ made) (here, later) =
    ap (λ (s : Senders). senders_more s made) (uncounted-same senders (time_of one.came) one.what here) ∙ none_more senders made later

more_on : (senders : Senders) (made later : List Made) → AreUncounted later → senders_more senders (made ++ later) ≡ senders_more senders made
more_on senders [] later uncounted = none_more senders later uncounted
more_on senders (one ∷ made) later uncounted = more_on (senders_with senders (time_of one.came) one.what) made later uncounted

-- and they count for none
pub listed_on : (listed : Bool) (made later : List Made) → AreUncounted later → senders_listed listed (made ++ later) ≡ senders_listed listed made
listed_on true made later uncounted = more_on [] made later uncounted
listed_on false made later uncounted = refl
