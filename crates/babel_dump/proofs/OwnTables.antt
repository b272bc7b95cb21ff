-- The table of each sender in a capture is that of its own packets.
use Rattle.std.proofs.Common.{◌≡◌, ◌≢◌, ℕ, Bool, true, false, cond, List, [], ◌∷◌, ◌++◌, Option, None, Some, refl, sym, ap, subst, ◌∙◌, append-nil}
use Rattle.std.specs.Prelude.{IfSome, Result, Ok, Err, OnOk, is_err}
use Rattle.std.specs.Cmp.{IsTotalOrder}
use Rattle.std.specs.declared.cmp.Ordering.{Ordering}
use Rattle.std.specs.BTreeMap.{insert_entry, is_at}
use Rattle.std.specs.List.Sorted.{IsStrictlySortedBy}
use Rattle.std.specs.Map.{keys_of, lookup, set_value}
use Rattle.std.specs.Option.{option_or, unwrap_or}
use Rattle.std.specs.Ordering.{is_eq}
use Rattle.std.proofs.lemmas.Cmp.{tied_itself}
use Rattle.std.proofs.lemmas.List.Concat.{flat_map-append}
use Rattle.std.proofs.lemmas.List.Elements.{filter-append}
use Rattle.std.proofs.lemmas.List.Sums.{fold-append}
use Rattle.babel_prefix.proofs.Insertion.{is_at-sym, lookup-insert}
use Rattle.babel_table.specs.Feeding.{HasHeard}
use Rattle.babel_capture.specs.Counts.{Made}
use Rattle.babel_capture.specs.Findings.{Found, found, left, missed_in, passed, refused, untold}
use Rattle.babel_capture.specs.Senders.{is_from, made_from}
use Rattle.babel_capture.specs.Sinking.{IsPacketOf, IsTold, missed_said, packet_said}
use Rattle.babel_capture.specs.Tallies.{origin_cmp}
use Rattle.babel_capture.specs.Times.{time_of}
use Rattle.babel_capture.specs.contracts.tallies.OriginOrd.TheImpl.{ghosts}
use Rattle.babel_capture.specs.declared.missed.Missed.{Missed}
use Rattle.babel_capture.specs.declared.sink.BabelPacket.{BabelPacket}
use Rattle.babel_capture.specs.declared.sink.Record.{Record}
use Rattle.babel_capture.specs.declared.sink.Said.{Said}
use Rattle.babel_capture.specs.declared.sink.Said.TheVariants as saids
use Rattle.babel_capture.specs.declared.tallies.Origin.{Origin}
use Rattle.babel_capture.proofs.Entries.{set_value-insert}
use Rattle.babel_capture.proofs.TallyLaws.{origin_exact, origin_order, origin_total}
use Rattle.babel_dump.specs.CaptureGiven.{Took}
use Rattle.babel_dump.specs.Fed.{AreWhole, HearsMore}
use Rattle.babel_dump.specs.Packets.{packets_made, timed_found}
use Rattle.babel_dump.specs.EachSender.{AreHeard, AreOwn, FeedsOwn, KeepsOwn, IsFedOwn, IsNothing, IsOwn, MissesOwn, first_missed, is_asked, missed_by, own_packets, table_at}
use Rattle.babel_dump.specs.declared.left_out.LeftOutDatagram.{LeftOutDatagram}
use Rattle.babel_dump.specs.declared.each_sender.EachSender.{EachSender}
use Rattle.babel_dump.specs.declared.sender_tables.SenderTable.{SenderTable}
use Rattle.babel_dump.specs.declared.sender_tables.SenderTables.{SenderTables}
use Rattle.babel_dump.proofs.PacketsFed.{packet_told}
use Rattle.babel_dump.proofs.WholePackets.{whole_both, whole_front}

abbrev Entries : Type 0
Entries = List (Origin × SenderTable)

-- ---- a table that is put

pub put_so : (entries after : Entries) (origin : Origin) (table : SenderTable) → after ≡ insert_entry ghosts.cmp entries origin table → after ≡ insert_entry origin_cmp entries origin table
put_so entries after origin table put = put ∙ ap (λ (k : Origin → Origin → Ordering). insert_entry k entries origin table) origin_order

pub there_so : (entries : Entries) (origin : Origin) (old : Option SenderTable) → lookup (is_at (ghosts.cmp origin)) entries ≡ old → table_at entries origin ≡ old
there_so entries origin old is = subst (λ (k : Origin → Origin → Ordering). lookup (is_at (k origin)) entries ≡ old) origin_order is

-- one that is there is written in its place
pub written_so : (entries after : Entries) (origin : Origin) (before next : SenderTable) → lookup (is_at (ghosts.cmp origin)) entries ≡ Some before → IsStrictlySortedBy ghosts.cmp (keys_of entries)
    → after ≡ set_value (is_at (ghosts.cmp origin)) entries next → after ≡ insert_entry origin_cmp entries origin next
written_so entries after origin before next there sorted written =
    put_so entries after origin next (written ∙ set_value-insert (subst IsTotalOrder (sym origin_order) origin_total) origin next before entries sorted there)

pub on_ok : {T E A B : Type 0} (result : Result T E) → OnOk result A → (A → B) → OnOk result B
on_ok (Ok value) holds then = then holds
on_ok (Err fault) holds then = tt

pub not_err : {T E A : Type 0} (result : Result T E) → is_err result ≡ false → OnOk result A → A
not_err (Ok value) ok holds = holds
not_err (Err fault) ok holds = absurd cc

-- ---- one more packet, and one more datagram that is missed

module _ (each : EachSender) (origin : Origin) where
  fed_more : (packets : List (ℕ × List ℕ)) (missed : Option LeftOutDatagram) (packet : ℕ × List ℕ) (old new : SenderTable) → IsFedOwn each origin packets missed old
      → HearsMore old.packets.feeder new.packets.feeder (packet ∷ []) → new.missed ≡ old.missed → IsFedOwn each origin (packets ++ packet ∷ []) missed new
  fed_more packets missed packet old new was more same = record {
    limits = more.limits ∙ was.limits;
    mode = more.mode ∙ was.mode;
    sender = more.sender ∙ was.sender;
    factor = subst (λ (n : ℕ). IfSome each.expiry (λ factor. n ≡ factor)) (sym more.factor) was.factor;
    heard = λ whole. more.heard packets whole (was.heard (whole_front packets (packet ∷ []) whole));
    missed_is = same ∙ was.missed_is;
  }

  pub fed_again : (packet : ℕ × List ℕ) (old new : SenderTable) → HearsMore old.packets.feeder new.packets.feeder (packet ∷ []) → new.missed ≡ old.missed
      → FeedsOwn each origin (Some old) packet new
  fed_again packet old new more same = λ packets missed was. fed_more packets missed packet old new was.0 more same

  pub fed_first : (packet : ℕ × List ℕ) (old new : SenderTable) → IsFedOwn each origin [] None old → HearsMore old.packets.feeder new.packets.feeder (packet ∷ []) → new.missed ≡ old.missed
      → FeedsOwn each origin None packet new
  fed_first packet old new was more same = λ packets missed none.
      subst (λ (m : Option LeftOutDatagram). IsFedOwn each origin (packets ++ packet ∷ []) m new) (sym none.1)
      (subst (λ (p : List (ℕ × List ℕ)). IsFedOwn each origin (p ++ packet ∷ []) None new) (sym none.0) (fed_more [] None packet old new was more same))

  missed_more : (packets : List (ℕ × List ℕ)) (missed : Option LeftOutDatagram) (datagram : LeftOutDatagram) (old new : SenderTable) → IsFedOwn each origin packets missed old
      → new.packets ≡ old.packets → new.missed ≡ option_or old.missed (Some datagram) → IsFedOwn each origin packets (option_or missed (Some datagram)) new
  missed_more packets missed datagram old new was same is = record {
    limits = ap (λ p. p.feeder.limits) same ∙ was.limits;
    mode = ap (λ p. p.feeder.mode) same ∙ was.mode;
    sender = ap (λ p. p.feeder.sender) same ∙ was.sender;
    factor = subst (λ p. IfSome each.expiry (λ factor. p.feeder.factor ≡ factor)) (sym same) was.factor;
    heard = λ whole. subst (λ p. HasHeard p.feeder packets) (sym same) (was.heard whole);
    missed_is = is ∙ ap (λ (m : Option LeftOutDatagram). option_or m (Some datagram)) was.missed_is;
  }

  pub missed_again : (datagram : LeftOutDatagram) (old new : SenderTable) → new.packets ≡ old.packets → new.missed ≡ option_or old.missed (Some datagram)
      → MissesOwn each origin (Some old) datagram new
  missed_again datagram old new same is = λ packets missed was. missed_more packets missed datagram old new was.0 same is

  pub missed_first : (datagram : LeftOutDatagram) (old new : SenderTable) → IsFedOwn each origin [] None old → new.packets ≡ old.packets → new.missed ≡ Some datagram
      → MissesOwn each origin None datagram new
  missed_first datagram old new was same is = λ packets missed none.
      subst (λ (m : Option LeftOutDatagram). IsFedOwn each origin packets (option_or m (Some datagram)) new) (sym none.1)
      (subst (λ (p : List (ℕ × List ℕ)). IsFedOwn each origin p (Some datagram) new) (sym none.0)
      (missed_more [] None datagram old new was same (is ∙ ap (λ (m : Option LeftOutDatagram). option_or m (Some datagram)) (sym was.missed_is))))

-- ---- what a record tells of a sender

abbrev here_of : Origin → Option BabelPacket → Option ℕ → List (ℕ × List ℕ)
here_of origin None time = []
here_of origin (Some packet) time = cond (is_at (origin_cmp origin) packet.origin) ((unwrap_or time 0, packet.octets.now) ∷ []) []

none_here : (origin : Origin) (one : Made) (what : Found) → one.what ≡ what → is_from origin what ≡ false → packets_made (made_from origin (one ∷ [])) ≡ []
none_here origin one what is none = ap (λ (b : Bool). packets_made (cond b (one ∷ []) [])) (ap (is_from origin) is ∙ none)

own_one : (origin : Origin) (one : Made) (what : Found) (packet : Option BabelPacket) → one.what ≡ what → IsPacketOf what packet
    → packets_made (made_from origin (one ∷ [])) ≡ here_of origin packet (time_of one.came)
own_one origin one passed None is told = none_here origin one passed is refl
own_one origin one untold None is told = none_here origin one untold is refl
own_one origin one (left reason missed) None is told = none_here origin one (left reason missed) is refl
own_one origin one (refused lack) None is told = none_here origin one (refused lack) is refl
own_one origin one (found place ends octets has_trailer) None is told = absurd (let bad = told.0 in cc)
own_one origin one passed (Some packet) is told = absurd (let bad = told.0 in cc)
own_one origin one untold (Some packet) is told = absurd (let bad = told.0 in cc)
own_one origin one (left reason missed) (Some packet) is told = absurd (let bad = told.0 in cc)
own_one origin one (refused lack) (Some packet) is told = absurd (let bad = told.0 in cc)
own_one origin one (found place ends octets has_trailer) (Some packet) is told =
    let from : record { place = place; sender = ends.sender } ≡ packet.origin = let same = told.0 in cc in
    ap (λ (b : Bool). packets_made (cond b (one ∷ []) [])) (ap (is_from origin) is ∙ ap (is_at (origin_cmp origin)) from) ∙ by (is_at (origin_cmp origin) packet.origin)
  where
    by : (b : Bool) → packets_made (cond b (one ∷ []) []) ≡ cond b ((unwrap_or (time_of one.came) 0, packet.octets.now) ∷ []) []
    by true =
        append-nil (timed_found (time_of one.came) one.what) ∙ ap (timed_found (time_of one.came)) is
        ∙ packet_told (found place ends octets has_trailer) packet (time_of one.came) told
    by false = refl

pub own_told : (origin : Origin) (made : List Made) (one : Made) (told : Record) → IsTold one told
    → own_packets origin (made ++ one ∷ []) ≡ own_packets origin made ++ here_of origin (packet_said told.said) told.time
own_told origin made one told is =
    ap packets_made (filter-append (λ (m : Made). is_from origin m.what) made (one ∷ []))
    ∙ flat_map-append (λ (m : Made). timed_found (time_of m.came) m.what) (made_from origin made) (made_from origin (one ∷ []))
    ∙ ap (λ (t : List (ℕ × List ℕ)). own_packets origin made ++ t)
    (own_one origin one one.what (packet_said told.said) refl is.packet ∙ ap (here_of origin (packet_said told.said)) (sym is.time))

pub missed_told : (origin : Origin) (made : List Made) (one : Made) (told : Record) → IsTold one told
    → first_missed origin (made ++ one ∷ []) ≡ option_or (first_missed origin made) (missed_by origin told.number (missed_said told.said))
missed_told origin made one told is =
    fold-append (λ (first : Option LeftOutDatagram) (m : Made). option_or first (missed_by origin m.number (missed_in m.what))) None made (one ∷ [])
    ∙ ap (λ (n : ℕ). option_or (first_missed origin made) (missed_by origin n (missed_in one.what))) (sym is.number)
    ∙ ap (λ (m : Option Missed). option_or (first_missed origin made) (missed_by origin told.number m)) (sym is.missed)

or_none : {A : Type 0} (o : Option A) → option_or o None ≡ o
or_none None = refl
or_none (Some a) = refl

-- ---- the tables

apart_from : (each : EachSender) (q origin : Origin) → is_asked each.place q ≡ true → is_asked each.place origin ≡ false → (b : Bool) → is_at (origin_cmp q) origin ≡ b → b ≡ false
apart_from each q origin asked not true same = absurd (let one : is_asked each.place q ≡ is_asked each.place origin = ap (is_asked each.place) (origin_exact q origin same) in cc)
apart_from each q origin asked not false same = refl

-- nothing more of a sender whose key is asked for
pub unchanged : (each : EachSender) (made more : List Made) (entries : Entries)
    → ((q : Origin) → is_asked each.place q ≡ true → (own_packets q more ≡ own_packets q made) × (first_missed q more ≡ first_missed q made)) → AreOwn each made entries → AreOwn each more entries
unchanged each made more entries same are = record {
  own = λ q asked. subst (λ (m : Option LeftOutDatagram). IsOwn each q (own_packets q more) m (table_at entries q)) (sym (same q asked).1)
      (subst (λ (p : List (ℕ × List ℕ)). IsOwn each q p (first_missed q made) (table_at entries q)) (sym (same q asked).0) (are.own q asked));
  others = are.others;
}

pub changed : (each : EachSender) (made more : List Made) (old new : Entries) (origin : Origin) (table : SenderTable) → new ≡ insert_entry origin_cmp old origin table
    → is_asked each.place origin ≡ true
    → ((q : Origin) → is_at (origin_cmp q) origin ≡ false → (own_packets q more ≡ own_packets q made) × (first_missed q more ≡ first_missed q made))
    → IsFedOwn each origin (own_packets origin more) (first_missed origin more) table → (¬ IsNothing (own_packets origin more) (first_missed origin more)) → AreOwn each made old → AreOwn each more new
changed each made more old new origin table put asked_for apart own some are = record {
  own = λ q asked. subst (IsOwn each q (own_packets q more) (first_missed q more)) (sym (at q)) (own_by q asked (is_at (origin_cmp origin) q) refl);
  others = λ q not. at q ∙ ap (λ (b : Bool). cond b (Some table) (table_at old q)) (unasked q not (is_at (origin_cmp origin) q) refl) ∙ are.others q not;
}
  where
    at : (q : Origin) → table_at new q ≡ cond (is_at (origin_cmp origin) q) (Some table) (table_at old q)
    at q = ap (λ (e : Entries). table_at e q) put ∙ lookup-insert origin_total q origin table old

    unasked : (q : Origin) → is_asked each.place q ≡ false → (b : Bool) → is_at (origin_cmp origin) q ≡ b → is_at (origin_cmp origin) q ≡ false
    unasked q not b is = is ∙ apart_from each origin q asked_for not b is

    own_by : (q : Origin) → is_asked each.place q ≡ true → (b : Bool) → is_at (origin_cmp origin) q ≡ b
        → IsOwn each q (own_packets q more) (first_missed q more) (cond b (Some table) (table_at old q))
    own_by q asked true same =
        subst (λ (o : Origin). IsFedOwn each o (own_packets o more) (first_missed o more) table × (¬ IsNothing (own_packets o more) (first_missed o more))) (origin_exact origin q same) (own, some)
    own_by q asked false same =
        let none = apart q (is_at-sym origin_total q origin ∙ same) in
        subst (λ (m : Option LeftOutDatagram). IsOwn each q (own_packets q more) m (table_at old q)) (sym none.1)
        (subst (λ (p : List (ℕ × List ℕ)). IsOwn each q p (first_missed q made) (table_at old q)) (sym none.0) (are.own q asked))

some_packet : (packets : List (ℕ × List ℕ)) (packet : ℕ × List ℕ) → (packets ++ packet ∷ []) ≢ []
some_packet [] packet = λ none. absurd cc
some_packet (one ∷ packets) packet = λ none. absurd cc

some_missed : (first : Option LeftOutDatagram) (datagram : LeftOutDatagram) → option_or first (Some datagram) ≢ None
some_missed None datagram = λ none. absurd cc
some_missed (Some one) datagram = λ none. absurd cc

itself : (origin : Origin) → is_at (origin_cmp origin) origin ≡ true
itself origin = ap is_eq (tied_itself origin_total origin)

module _ (each : EachSender) (made : List Made) (one : Made) (told : Record) (is : IsTold one told) (old : Entries) (are : AreOwn each made old) where
  abbrev more : List Made
  more = made ++ one ∷ []

  packets_apart : (q : Origin) → here_of q (packet_said told.said) told.time ≡ [] → own_packets q more ≡ own_packets q made
  packets_apart q none = own_told q made one told is ∙ ap (λ (t : List (ℕ × List ℕ)). own_packets q made ++ t) none ∙ append-nil (own_packets q made)

  missed_apart : (q : Origin) → missed_by q told.number (missed_said told.said) ≡ None → first_missed q more ≡ first_missed q made
  missed_apart q none = missed_told q made one told is ∙ ap (option_or (first_missed q made)) none ∙ or_none (first_missed q made)

  -- nothing is told
  pub told_none : told.said ≡ saids.Nothing → AreOwn each more old
  told_none nothing = unchanged each made more old (λ q asked. (
    packets_apart q (ap (λ (s : Said). here_of q (packet_said s) told.time) nothing),
    missed_apart q (ap (λ (s : Said). missed_by q told.number (missed_said s)) nothing),
  )) are

  -- a packet
  module _ (packet : BabelPacket) (said : told.said ≡ saids.Packet packet) where
    here_so : (q : Origin) → here_of q (packet_said told.said) told.time ≡ cond (is_at (origin_cmp q) packet.origin) ((unwrap_or told.time 0, packet.octets.now) ∷ []) []
    here_so q = ap (λ (s : Said). here_of q (packet_said s) told.time) said

    none_missed : (q : Origin) → first_missed q more ≡ first_missed q made
    none_missed q = missed_apart q (ap (λ (s : Said). missed_by q told.number (missed_said s)) said)

    not_here : (q : Origin) → is_at (origin_cmp q) packet.origin ≡ false → own_packets q more ≡ own_packets q made
    not_here q apart = packets_apart q (here_so q ∙ ap (λ (b : Bool). cond b ((unwrap_or told.time 0, packet.octets.now) ∷ []) []) apart)

    pub packet_passed : is_asked each.place packet.origin ≡ false → AreOwn each more old
    packet_passed not = unchanged each made more old
        (λ q asked. (let same = is_at (origin_cmp q) packet.origin in not_here q (apart_from each q packet.origin asked not same refl), none_missed q)) are

    pub packet_fed : (new : Entries) (table : SenderTable) → is_asked each.place packet.origin ≡ true → new ≡ insert_entry origin_cmp old packet.origin table
        → FeedsOwn each packet.origin (table_at old packet.origin) (unwrap_or told.time 0, packet.octets.now) table → AreOwn each more new
    packet_fed new table asked put fed =
        let origin = packet.origin in
        let entry : ℕ × List ℕ = (unwrap_or told.time 0, packet.octets.now) in
        let packets : own_packets origin more ≡ own_packets origin made ++ entry ∷ [] = own_told origin made one told is
        ∙ ap (λ (t : List (ℕ × List ℕ)). own_packets origin made ++ t) (here_so origin ∙ ap (λ (b : Bool). cond b (entry ∷ []) []) (itself origin)) in
        let own = fed (own_packets origin made) (first_missed origin made) (are.own origin asked) in
        changed each made more old new origin table put asked (λ q apart. (not_here q apart, none_missed q))
        (subst (λ (m : Option LeftOutDatagram). IsFedOwn each origin (own_packets origin more) m table) (sym (none_missed origin))
        (subst (λ (p : List (ℕ × List ℕ)). IsFedOwn each origin p (first_missed origin made) table) (sym packets) own))
        (λ none. some_packet (own_packets origin made) entry (sym packets ∙ none.0)) are

  -- a datagram that is missed
  module _ (missed : Missed) (said : told.said ≡ saids.Missed missed) where
    abbrev datagram : LeftOutDatagram
    datagram = record { packet = told.number; reason = missed.reason }

    missed_so : (q : Origin) → missed_by q told.number (missed_said told.said) ≡ cond (is_at (origin_cmp q) missed.origin) (Some datagram) None
    missed_so q = ap (λ (s : Said). missed_by q told.number (missed_said s)) said

    no_packet : (q : Origin) → own_packets q more ≡ own_packets q made
    no_packet q = packets_apart q (ap (λ (s : Said). here_of q (packet_said s) told.time) said)

    not_missed : (q : Origin) → is_at (origin_cmp q) missed.origin ≡ false → first_missed q more ≡ first_missed q made
    not_missed q apart = missed_apart q (missed_so q ∙ ap (λ (b : Bool). cond b (Some datagram) None) apart)

    pub missed_passed : is_asked each.place missed.origin ≡ false → AreOwn each more old
    missed_passed not = unchanged each made more old
        (λ q asked. (no_packet q, let same = is_at (origin_cmp q) missed.origin in not_missed q (apart_from each q missed.origin asked not same refl))) are

    pub missed_noted : (new : Entries) (table : SenderTable) → is_asked each.place missed.origin ≡ true → new ≡ insert_entry origin_cmp old missed.origin table
        → MissesOwn each missed.origin (table_at old missed.origin) datagram table → AreOwn each more new
    missed_noted new table asked put misses =
        let origin = missed.origin in
        let first : first_missed origin more ≡ option_or (first_missed origin made) (Some datagram) = missed_told origin made one told is
        ∙ ap (option_or (first_missed origin made)) (missed_so origin ∙ ap (λ (b : Bool). cond b (Some datagram) None) (itself origin)) in
        let own = misses (own_packets origin made) (first_missed origin made) (are.own origin asked) in
        changed each made more old new origin table put asked (λ q apart. (no_packet q, not_missed q apart))
        (subst (λ (p : List (ℕ × List ℕ)). IsFedOwn each origin p (first_missed origin more) table) (sym (no_packet origin))
        (subst (λ (m : Option LeftOutDatagram). IsFedOwn each origin (own_packets origin made) m table) (sym first) own))
        (λ none. some_missed (first_missed origin made) datagram (sym first ∙ none.1)) are

-- ---- all of them

whole_back : (front back : List (ℕ × List ℕ)) → AreWhole (front ++ back) → AreWhole back
whole_back [] back are = are
whole_back (packet ∷ front) back (whole, are) = whole_back front back are

pub whole_own : (origin : Origin) (made : List Made) → AreWhole (packets_made made) → AreWhole (own_packets origin made)
whole_own origin [] whole = tt
whole_own origin (one ∷ made) whole =
    by (whole_front (timed_found (time_of one.came) one.what) (packets_made made) whole) (whole_own origin made (whole_back (timed_found (time_of one.came) one.what) (packets_made made) whole))
    (is_from origin one.what)
  where
    by : AreWhole (timed_found (time_of one.came) one.what) → AreWhole (own_packets origin made) → (b : Bool)
        → AreWhole (packets_made (cond b (one ∷ made_from origin made) (made_from origin made)))
    by first rest true = whole_both (timed_found (time_of one.came) one.what) (own_packets origin made) first rest
    by first rest false = rest

pub own_all : (each : EachSender) (first now : SenderTables) (made : List Made) → first.each.now ≡ each → AreHeard first [] → Took KeepsOwn first now made → now.has_failed ≡ false
    → AreOwn each made now.tables.entries
own_all each first now made keys_are none took sound =
    let nothing : KeepsOwn first first [] = (refl, λ before heard. subst (AreHeard first) (sym (append-nil before)) heard) in
    let all = took first [] nothing in
    subst (λ (k : EachSender). AreOwn k made now.tables.entries) (all.0 ∙ keys_are) (all.1 [] none sound)
