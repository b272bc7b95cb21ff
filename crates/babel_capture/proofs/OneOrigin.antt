-- What is read of one sender at one place.
use Rattle.std.proofs.Common.{◌≡◌, ◌≤◌, ◌⊎◌, ℕ, Bool, true, false, ◌&&◌, cond, List, [], ◌∷◌, ◌++◌, Option, length, refl, sym, ap, subst, ◌∙◌, inl, inr, arith}
use Rattle.std.specs.Prelude.{None, Some, fold}
use Rattle.std.specs.declared.cmp.Ordering.{Ordering}
use Rattle.std.specs.declared.cmp.Ordering.TheVariants.{Equal}
use Rattle.std.specs.BTreeMap.{insert_entry, is_at}
use Rattle.std.specs.Ordering.{is_eq, match_ordering}
use Rattle.std.proofs.lemmas.Cmp.{tied_itself}
use Rattle.std.proofs.lemmas.List.Elements.{filter-append}
use Rattle.babel_prefix.specs.Address.{Address}
use Rattle.babel_capture.specs.declared.ends.Ends.{Ends}
use Rattle.babel_capture.specs.declared.place.Place.{Place}
use Rattle.babel_capture.specs.declared.tallies.Origin.{Origin}
use Rattle.babel_capture.specs.declared.tallies.Tally.{Tally}
use Rattle.babel_capture.specs.declared.wanted.Wanted.{Wanted}
use Rattle.babel_capture.specs.Blocks.{BlockAt, sightings_to_end}
use Rattle.babel_capture.specs.Passage.{Sighting}
use Rattle.babel_capture.specs.Counts.{Made, counts_of}
use Rattle.babel_capture.specs.Dumps.{packets_made, timed_found}
use Rattle.babel_capture.specs.Findings.{CarriedIs, Finds, Found, PayloadIs, found, missed_found, left, passed, refused, untold}
use Rattle.babel_capture.specs.Gathering.{AreMade, IsTaken}
use Rattle.babel_capture.specs.OneOrigin.{AloneIsTheSame, MissingIsNone, NamedIsOne, all_senders, is_missed, missed_from, only}
use Rattle.babel_capture.specs.Lack.{lack_reason, lacks_fragments}
use Rattle.babel_capture.specs.Senders.{is_from, made_from}
use Rattle.babel_capture.specs.Sight.{Carried, Sight, carries, datagram, fragmented, lacking, not_link_local, other, other_port, too_short}
use Rattle.babel_capture.specs.Tallies.{Senders, origin_cmp, senders_listed, senders_of, senders_with}
use Rattle.babel_capture.specs.Times.{time_of}
use Rattle.babel_capture.proofs.OneCapture.{same_blocks}
use Rattle.babel_capture.proofs.SinkLaws.{packets-append}
use Rattle.babel_capture.proofs.TallyLaws.{origin_exact, origin_total}

abbrev at : Place → Address → Origin
at place sender = record { place = place; sender = sender }

-- ---- a packet that is found is of its datagram's ends at its place

payload_of : (place : Place) (ends : Ends) (payload : List ℕ) (there : Place) (from : Ends) (packet : List ℕ) (has_trailer : Bool)
    → PayloadIs place ends payload (found there from packet has_trailer) → (there ≡ place) × (from ≡ ends)
payload_of place ends payload there from packet has_trailer (inl (body, begins, is)) = (cc, cc)
payload_of place ends payload there from packet has_trailer (inr (inl (short, is))) = absurd cc
payload_of place ends payload there from packet has_trailer (inr (inr (inl (long, magic, is)))) = absurd cc
payload_of place ends payload there from packet has_trailer (inr (inr (inr (long, magic, version, is)))) = absurd cc

carried_of : (wanted : Wanted) (place : Place) (ends : Ends) (carried : Carried) (there : Place) (from : Ends) (packet : List ℕ) (has_trailer : Bool)
    → CarriedIs wanted place ends carried (found there from packet has_trailer) → (there ≡ place) × (from ≡ ends)
carried_of wanted place ends other_port there from packet has_trailer is = absurd cc
carried_of wanted place ends not_link_local there from packet has_trailer is = absurd cc
carried_of wanted place ends (lacking lack) there from packet has_trailer is = absurd (by (wanted.accepts_missing && lacks_fragments lack) wanted.sender is)
  where
    by : (accepted : Bool) (named : Option Address) → found there from packet has_trailer ≡ cond accepted (left (lack_reason lack) None) (missed_found named place ends.sender lack) → ⊥
    by true named is = cc
    by false None is = cc
    by false (Some one) is = cc
carried_of wanted place ends (carries payload) there from packet has_trailer is = payload_of place ends payload there from packet has_trailer is

module _ (accepts : Bool) (origin : Origin) where
  -- ---- this sender at this place

  abbrev is_own : Place → Address → Bool
  is_own place sender = is_at (origin_cmp origin) (at place sender)

  itself : origin_cmp origin origin ≡ Equal
  itself = tied_itself origin_total origin

  -- it is wanted exactly there
  own_wanted : (place : Place) (sender : Address) → is_own place sender ≡ true → (sender ≡ origin.sender) × (place ≡ origin.place)
  own_wanted place sender is = let same = origin_exact origin (at place sender) is in (ap (λ (o : Origin). o.sender) (sym same), ap (λ (o : Origin). o.place) (sym same))

  wanted_own : (place : Place) (sender : Address) → (sender ≡ origin.sender) × (place ≡ origin.place) → is_own place sender ≡ true
  wanted_own place sender same = ap (λ (p : Place). is_own p sender) same.1 ∙ ap (is_own origin.place) same.0 ∙ ap is_eq itself

  unwanted : (place : Place) (sender : Address) → ((sender ≡ origin.sender) × (place ≡ origin.place) → ⊥) → is_own place sender ≡ false
  unwanted place sender not = by (is_own place sender) refl
    where
      by : (b : Bool) → is_own place sender ≡ b → is_own place sender ≡ false
      by true is = absurd (not (own_wanted place sender is))
      by false is = is

  found_of : (sight : Sight) (place : Place) (ends : Ends) (packet : List ℕ) (has_trailer : Bool) → Finds (only accepts origin) sight (found place ends packet has_trailer)
      → (ends.sender ≡ origin.sender) × (place ≡ origin.place)
  found_of other place ends packet has_trailer is = absurd cc
  found_of too_short place ends packet has_trailer is = absurd cc
  found_of (fragmented fragment) place sender packet has_trailer is = absurd cc
  found_of (datagram there from carried) place ends packet has_trailer (inl (wants, is)) =
      let parts = carried_of (only accepts origin) there from carried place ends packet has_trailer is in (ap (λ (e : Ends). e.sender) parts.1 ∙ wants.0, parts.0 ∙ wants.1)
  found_of (datagram there from carried) place ends packet has_trailer (inr (not, is)) = absurd cc

  -- ---- where it alone is wanted, it alone is counted

  abbrev IsOneAtMost : Senders → Type 0
  IsOneAtMost senders = (senders ≡ []) ⊎ ((tally : Tally) × (senders ≡ (origin, tally) ∷ []))

  put_one : (tally put : Tally) → insert_entry origin_cmp ((origin, tally) ∷ []) origin put ≡ (origin, put) ∷ []
  put_one tally put =
      ap (λ (o : Ordering). match_ordering o ((origin, put) ∷ (origin, tally) ∷ []) ((origin, put) ∷ []) ((origin, tally) ∷ insert_entry origin_cmp [] origin put)) itself

  put_at_most : (senders : Senders) (put : Tally) → IsOneAtMost senders → IsOneAtMost (insert_entry origin_cmp senders origin put)
  put_at_most senders put (inl none) = inr (put, ap (λ (s : Senders). insert_entry origin_cmp s origin put) none)
  put_at_most senders put (inr (tally, is)) = inr (put, ap (λ (s : Senders). insert_entry origin_cmp s origin put) is ∙ put_one tally put)

  with_at_most : (sight : Sight) (senders : Senders) (time : Option ℕ) (what : Found) → Finds (only accepts origin) sight what → IsOneAtMost senders → IsOneAtMost (senders_with senders time what)
  with_at_most sight senders time passed finds most = most
  with_at_most sight senders time untold finds most = most
  with_at_most sight senders time (left reason missed) finds most = most
  with_at_most sight senders time (refused lack) finds most = most
  with_at_most sight senders time (found place ends packet has_trailer) finds most =
      let same = found_of sight place ends packet has_trailer finds in
      let is : at place ends.sender ≡ origin = ap (λ (p : Place). at p ends.sender) same.1 ∙ ap (at origin.place) same.0 in
      subst (λ (o : Origin). IsOneAtMost (senders_with senders time (found o.place (record { sender = o.sender; destination = ends.destination }) packet has_trailer))) (sym is) (put_at_most senders _ most)

  all_at_most : (sightings : List Sighting) (made : List Made) (senders : Senders) → AreMade (only accepts origin) sightings made → IsOneAtMost senders
      → IsOneAtMost (fold (λ (s : Senders) (one : Made). senders_with s (time_of one.came) one.what) senders made)
  all_at_most [] made senders are most =
      subst (λ (ms : List Made). IsOneAtMost (fold (λ (s : Senders) (one : Made). senders_with s (time_of one.came) one.what) senders ms)) (sym are) most
  all_at_most (sighting ∷ later) made senders (one, others, is, number, link, came, finds, takes, are) most =
      subst (λ (ms : List Made). IsOneAtMost (fold (λ (s : Senders) (m : Made). senders_with s (time_of m.came) m.what) senders ms)) (sym is)
      (all_at_most later others (senders_with senders (time_of one.came) one.what) are (with_at_most sighting.what senders (time_of one.came) one.what finds most))

  few : (senders : Senders) → IsOneAtMost senders → length senders ≤ 1
  few senders (inl none) = omega (arith, ap length none)
  few senders (inr (tally, is)) = omega (arith, ap length is)

  one_at_most : (sightings : List Sighting) (made : List Made) → AreMade (only accepts origin) sightings made → length (senders_of made) ≤ 1
  one_at_most sightings made are = few (senders_of made) (all_at_most sightings made [] are (inl refl))

  -- ---- and what is found is all of it

  abbrev if_from : Found → List Made → List Made
  if_from what made = cond (is_from origin what) made []

  from_cons : (one : Made) (made : List Made) → made_from origin (one ∷ made) ≡ if_from one.what (one ∷ []) ++ made_from origin made
  from_cons one made = filter-append (λ (m : Made). is_from origin m.what) (one ∷ []) made

  found_own : (sight : Sight) (one : Made) (what : Found) → one.what ≡ what → Finds (only accepts origin) sight what → packets_made (one ∷ []) ≡ packets_made (if_from what (one ∷ []))
  found_own sight one passed is finds = ap (λ (w : Found). timed_found one.came w ++ []) is
  found_own sight one untold is finds = ap (λ (w : Found). timed_found one.came w ++ []) is
  found_own sight one (left reason missed) is finds = ap (λ (w : Found). timed_found one.came w ++ []) is
  found_own sight one (refused lack) is finds = ap (λ (w : Found). timed_found one.came w ++ []) is
  found_own sight one (found place ends packet has_trailer) is finds =
      ap (λ (b : Bool). packets_made (cond b (one ∷ []) [])) (sym (wanted_own place ends.sender (found_of sight place ends packet has_trailer finds)))

  all_own : (sightings : List Sighting) (made : List Made) → AreMade (only accepts origin) sightings made → packets_made made ≡ packets_made (made_from origin made)
  all_own [] made are = ap packets_made are ∙ sym (ap (λ (m : List Made). packets_made (made_from origin m)) are)
  all_own (sighting ∷ later) made (one, others, is, number, link, came, finds, takes, are) =
      ap packets_made is ∙ packets-append (one ∷ []) others
      ∙ ap (λ (t : List (Option ℕ × List ℕ)). t ++ packets_made others) (found_own sighting.what one one.what refl finds)
      ∙ ap (λ (t : List (Option ℕ × List ℕ)). packets_made (if_from one.what (one ∷ [])) ++ t) (all_own later others are)
      ∙ sym (packets-append (if_from one.what (one ∷ [])) (made_from origin others))
      ∙ ap packets_made (sym (from_cons one others)) ∙ ap (λ (m : List Made). packets_made (made_from origin m)) (sym is)

  -- ---- what is made of each packet where it alone is wanted, by what is made where nobody is named

  not_from : (place : Place) (ends : Ends) (carried : Carried) (what : Found) → is_own place ends.sender ≡ false → CarriedIs (all_senders accepts) place ends carried what → is_from origin what ≡ false
  not_from place ends carried passed is made = refl
  not_from place ends carried untold is made = refl
  not_from place ends carried (left reason missed) is made = refl
  not_from place ends carried (refused lack) is made = refl
  not_from place ends carried (found there from packet has_trailer) is made =
      let parts = carried_of (all_senders accepts) place ends carried there from packet has_trailer made in
      ap (λ (p : Place). is_own p from.sender) parts.0 ∙ ap (λ (e : Ends). is_own place e.sender) parts.1 ∙ is

  own_carried : (place : Place) (ends : Ends) (carried : Carried) (what : Found) → is_own place ends.sender ≡ true → is_missed origin what ≡ false → CarriedIs (all_senders accepts) place ends carried what
      → CarriedIs (only accepts origin) place ends carried what
  own_carried place ends other_port what is there made = made
  own_carried place ends not_link_local what is there made = made
  own_carried place ends (carries payload) what is there made = made
  own_carried place ends (lacking lack) what is there made = by (accepts && lacks_fragments lack) made
    where
      by : (accepted : Bool) → what ≡ cond accepted (left (lack_reason lack) None) (missed_found None place ends.sender lack)
          → what ≡ cond accepted (left (lack_reason lack) None) (missed_found (Some origin.sender) place ends.sender lack)
      by true made = made
      by false made = (let wrong : true ≡ false = sym is ∙ sym (ap (is_missed origin) made) ∙ there in absurd cc)

  -- it is the same, or passed
  record IsMine (sight : Sight) (what : Found) : Type 0 where
    mine : Found
    finds : Finds (only accepts origin) sight mine
    taken : IsTaken mine
    same : (made : Found → Made) → if_from mine (made mine ∷ []) ≡ if_from what (made what ∷ [])

  one_mine : (sight : Sight) (what : Found) → Finds (all_senders accepts) sight what → IsTaken what → is_missed origin what ≡ false → IsMine sight what
  one_mine other what is taken there = record { mine = passed; finds = refl; taken = tt; same = λ made. ap (λ (w : Found). if_from w (made w ∷ [])) (sym is) }
  one_mine too_short what is taken there = record { mine = untold; finds = refl; taken = tt; same = λ made. ap (λ (w : Found). if_from w (made w ∷ [])) (sym is) }
  one_mine (fragmented fragment) what is taken there = record { mine = passed; finds = refl; taken = tt; same = λ made. ap (λ (w : Found). if_from w (made w ∷ [])) (sym is) }
  one_mine (datagram place ends carried) what (inr (not, is)) taken there = absurd (not (tt, tt))
  one_mine (datagram place ends carried) what (inl (wants, is)) taken there = by (is_own place ends.sender) refl
    where
      by : (b : Bool) → is_own place ends.sender ≡ b → IsMine (datagram place ends carried) what
      by true own = record { mine = what; finds = inl (own_wanted place ends.sender own, own_carried place ends carried what own there is); taken = taken; same = λ made. refl }
      by false own = record {
        mine = passed;
        finds = inr ((λ same. (let wrong : true ≡ false = sym (wanted_own place ends.sender same) ∙ own in cc)), refl);
        taken = tt;
        same = λ made. ap (λ (b : Bool). cond b (made what ∷ []) []) (sym (not_from place ends carried what own is));
      }

  -- none is missed
  none_here : (one : Made) (others : List Made) → missed_from origin (one ∷ others) ≡ [] → (is_missed origin one.what ≡ false) × (missed_from origin others ≡ [])
  none_here one others none = by (is_missed origin one.what) refl none
    where
      by : (b : Bool) → is_missed origin one.what ≡ b → cond b (one ∷ missed_from origin others) (missed_from origin others) ≡ []
          → (is_missed origin one.what ≡ false) × (missed_from origin others ≡ [])
      by true is none = absurd cc
      by false is none = (is, none)

  record AreMine (sightings : List Sighting) (made : List Made) : Type 0 where
    mine : List Made
    are_made : AreMade (only accepts origin) sightings mine
    same : made_from origin mine ≡ made_from origin made

  all_mine : (sightings : List Sighting) (made : List Made) → AreMade (all_senders accepts) sightings made → missed_from origin made ≡ [] → AreMine sightings made
  all_mine [] made are none = record { mine = []; are_made = refl; same = ap (made_from origin) (sym are) }
  all_mine (sighting ∷ later) made (one, others, is, number, link, came, finds, takes, are) none =
      let there = none_here one others (ap (missed_from origin) (sym is) ∙ none) in
      let first = one_mine sighting.what one.what finds takes there.0 in
      let rest = all_mine later others are there.1 in
      let of : Found → Made = λ w. record { number = one.number; link = one.link; came = one.came; what = w } in record {
        mine = of first.mine ∷ rest.mine;
        are_made = (of first.mine, rest.mine, refl, number, link, came, first.finds, first.taken, rest.are_made);
        same = from_cons (of first.mine) rest.mine ∙ ap (λ (t : List Made). t ++ made_from origin rest.mine) (first.same of)
            ∙ ap (λ (t : List Made). if_from one.what (one ∷ []) ++ t) rest.same ∙ sym (from_cons one others) ∙ ap (made_from origin) (sym is);
      }

  -- ---- where it is taken alone, none is missed

  payload_there : (place : Place) (ends : Ends) (payload : List ℕ) (what : Found) → PayloadIs place ends payload what → is_missed origin what ≡ false
  payload_there place ends payload what (inl (body, begins, is)) = ap (is_missed origin) is
  payload_there place ends payload what (inr (inl (short, is))) = ap (is_missed origin) is
  payload_there place ends payload what (inr (inr (inl (long, magic, is)))) = ap (is_missed origin) is
  payload_there place ends payload what (inr (inr (inr (long, magic, version, is)))) = ap (is_missed origin) is

  one_there : (sight : Sight) (what mine : Found) → Finds (all_senders accepts) sight what → Finds (only accepts origin) sight mine → IsTaken mine → is_missed origin what ≡ false
  one_there other what mine is finds taken = ap (is_missed origin) is
  one_there too_short what mine is finds taken = ap (is_missed origin) is
  one_there (fragmented fragment) what mine is finds taken = ap (is_missed origin) is
  one_there (datagram place ends carried) what mine (inr (not, is)) finds taken = absurd (not (tt, tt))
  one_there (datagram place ends other_port) what mine (inl (wants, is)) finds taken = ap (is_missed origin) is
  one_there (datagram place ends not_link_local) what mine (inl (wants, is)) finds taken = ap (is_missed origin) is
  one_there (datagram place ends (carries payload)) what mine (inl (wants, is)) finds taken = payload_there place ends payload what is
  one_there (datagram place ends (lacking lack)) what mine (inl (wants, is)) (inl (own, refuses)) taken = by (accepts && lacks_fragments lack) is refuses
    where
      by : (accepted : Bool) → what ≡ cond accepted (left (lack_reason lack) None) (missed_found None place ends.sender lack)
          → mine ≡ cond accepted (left (lack_reason lack) None) (missed_found (Some origin.sender) place ends.sender lack) → is_missed origin what ≡ false
      by true is refuses = ap (is_missed origin) is
      by false is refuses = absurd (subst IsTaken refuses taken)
  one_there (datagram place ends (lacking lack)) what mine (inl (wants, is)) (inr (not, passes)) taken = by (accepts && lacks_fragments lack) is
    where
      by : (accepted : Bool) → what ≡ cond accepted (left (lack_reason lack) None) (missed_found None place ends.sender lack) → is_missed origin what ≡ false
      by true is = ap (is_missed origin) is
      by false is = ap (is_missed origin) is ∙ unwanted place ends.sender not

  all_there : (sightings : List Sighting) (made mine : List Made) → AreMade (all_senders accepts) sightings made → AreMade (only accepts origin) sightings mine → missed_from origin made ≡ []
  all_there [] made mine are are_mine = ap (missed_from origin) are
  all_there (sighting ∷ later) made mine (one, others, is, number, link, came, finds, takes, are) (my_one, my_others, my_is, my_number, my_link, my_came, my_finds, my_takes, are_mine) =
      ap (missed_from origin) is
      ∙ ap (λ (b : Bool). cond b (one ∷ missed_from origin others) (missed_from origin others)) (one_there sighting.what one.what my_one.what finds my_finds my_takes)
      ∙ all_there later others my_others are are_mine

-- ---- so with captures

pub named_is_one : NamedIsOne
named_is_one limit octets gathering cut accepts origin read wanted =
    let gathered = read.is_read.gathered in
    subst (λ (s : Senders). length s ≤ 1) (sym (gathered.senders ∙ ap (λ (w : Wanted). senders_listed w.are_listed gathered.made) wanted))
    (one_at_most accepts origin (sightings_to_end read.is_read.blocks) gathered.made
    (subst (λ (w : Wanted). AreMade w (sightings_to_end read.is_read.blocks) gathered.made) wanted gathered.taken.are_made))

pub alone_is_the_same : AloneIsTheSame
alone_is_the_same limit octets all cut accepts origin read wanted none =
    let sightings = sightings_to_end read.is_read.blocks in
    let gathered = read.is_read.gathered in
    let are = all_mine accepts origin sightings gathered.made (subst (λ (w : Wanted). AreMade w sightings gathered.made) wanted gathered.taken.are_made) none in
    let most = one_at_most accepts origin sightings are.mine are.are_made in (
      record { wanted = only accepts origin; names = all.names; report = counts_of are.mine; senders = senders_of are.mine },
      record {
        read = read.read;
        rest = read.rest;
        whole = read.whole;
        is_read = record {
          blocks = read.is_read.blocks;
          whole = read.is_read.whole;
          are_blocks = read.is_read.are_blocks;
          started = read.is_read.started;
          gathered = record { made = are.mine; taken = record { are_made = are.are_made; few = omega (arith, most) }; report = refl; senders = refl };
          names = read.is_read.names;
        };
        partial = read.partial;
        where_cut = read.where_cut;
      },
      refl,
      are.same,
      all_own accepts origin sightings are.mine are.are_made ∙ ap packets_made are.same,
    )

pub missing_is_none : MissingIsNone
missing_is_none limit octets all own cut own_cut accepts origin read wanted some alone alone_wanted =
    let gathered = read.is_read.gathered in
    let own_gathered = alone.is_read.gathered in
    let same : read.is_read.blocks ≡ alone.is_read.blocks = (same_blocks limit octets all own cut own_cut read alone).0 in
    some (all_there accepts origin (sightings_to_end read.is_read.blocks) gathered.made own_gathered.made
    (subst (λ (w : Wanted). AreMade w (sightings_to_end read.is_read.blocks) gathered.made) wanted gathered.taken.are_made)
    (subst (λ (b : List BlockAt). AreMade (only accepts origin) (sightings_to_end b) own_gathered.made) (sym same)
    (subst (λ (w : Wanted). AreMade w (sightings_to_end alone.is_read.blocks) own_gathered.made) alone_wanted own_gathered.taken.are_made)))
