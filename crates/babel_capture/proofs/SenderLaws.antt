-- The senders that the fold over the packets gives are those of whom a packet was found, in order, each with the tally of its
-- packets: packet by packet.
use Rattle.std.proofs.Common.{◌≡◌, ℕ, ◌+◌, Bool, true, false, cond, List, [], ◌∷◌, ◌++◌, length, Option, Some, None, refl, sym, ap, subst, ◌∙◌, arith}
use Rattle.std.specs.Prelude.{count_by, fold, map, sum_by}
use Rattle.std.proofs.Math.Path.{fun_ext}
use Rattle.std.specs.List.{filter}
use Rattle.std.specs.List.Sorted.{IsStrictlySortedBy}
use Rattle.std.specs.BTreeMap.{is_at}
use Rattle.std.specs.Map.{lookup}
use Rattle.std.specs.Option.{unwrap_or}
use Rattle.std.specs.Ordering.{is_eq}
use Rattle.std.proofs.lemmas.List.{append-nil, append_assoc, map-append, length-append}
use Rattle.std.proofs.lemmas.List.Elements.{filter-append}
use Rattle.std.proofs.lemmas.List.Sums.{fold-append, sum_by-append}
use Rattle.babel_capture.specs.declared.tallies.Origin.{Origin}
use Rattle.babel_capture.specs.declared.tallies.Tally.{Tally}
use Rattle.babel_capture.specs.Capture.{IsRead}
use Rattle.babel_capture.specs.Counts.{Made, has_trailer}
use Rattle.babel_capture.specs.Findings.{Found, passed, untold, left, refused, found, octets_found}
use Rattle.babel_capture.specs.Gathering.{Gathering}
use Rattle.babel_capture.specs.Times.{time_of}
use Rattle.babel_capture.specs.Timing.{greatest, least}
use Rattle.babel_capture.specs.Updates.{interval_in, updates_in}
use Rattle.babel_capture.specs.Senders.{AreSenders, Sent, is_from, packets_from, sent_of, tally_for}
use Rattle.babel_capture.specs.Tallies.{Senders, no_packets, one_more, origin_cmp, senders_listed, senders_of, senders_with, tallied, tally_of}
use Rattle.babel_capture.proofs.TallyLaws.{origin_total}
use Rattle.babel_prefix.proofs.Counted.{count-push}
use Rattle.babel_prefix.proofs.Insertion.{equal_of, is_at-sym, lookup-insert, sorted-insert}
use Rattle.babel_capture.specs.Window.{Extent}

-- ---- one packet more

-- the packets that one finding adds
abbrev here : Origin → Option ℕ → Found → List Sent
here origin time what = cond (is_from origin what) (record { time = time; octets = octets_found what; has_trailer = has_trailer what } ∷ []) []

packets-here : (origin : Origin) (one : Made) → packets_from origin (one ∷ []) ≡ here origin (time_of one.came) one.what
packets-here origin one = by (is_from origin one.what)
  where
    by : (b : Bool) → map sent_of (cond b (one ∷ []) []) ≡ cond b (sent_of one ∷ []) []
    by true = refl
    by false = refl

packets-push : (origin : Origin) (before : List Made) (one : Made) → packets_from origin (before ++ one ∷ []) ≡ packets_from origin before ++ here origin (time_of one.came) one.what
packets-push origin before one =
    ap (map sent_of) (filter-append (λ (m : Made). is_from origin m.what) before (one ∷ []))
    ∙ map-append sent_of (filter (λ (m : Made). is_from origin m.what) before) (filter (λ (m : Made). is_from origin m.what) (one ∷ []))
    ∙ ap (λ (l : List Sent). packets_from origin before ++ l) (packets-here origin one)

-- the sums of packets, and what folds over them give
abbrev tally_with : ℕ → ℕ → ℕ → ℕ → List Sent → Option Tally
tally_with packets octets updates trailers all = Some (record {
  packets = packets;
  octets = octets;
  updates = updates;
  trailers = trailers;
  interval = fold (λ (i : Option ℕ) (sent : Sent). greatest i (interval_in sent.octets)) None all;
  first = fold (λ (t : Option ℕ) (sent : Sent). least t sent.time) None all;
  last = fold (λ (t : Option ℕ) (sent : Sent). greatest t sent.time) None all;
})

abbrev octets_in : List Sent → ℕ
octets_in packets = sum_by (λ (sent : Sent). length sent.octets) packets

abbrev updates_all : List Sent → ℕ
updates_all packets = sum_by (λ (sent : Sent). updates_in sent.octets) packets

abbrev trailers_in : List Sent → ℕ
trailers_in packets = count_by (λ (sent : Sent). sent.has_trailer) packets

tally-push : (packets : List Sent) (sent : Sent) → tally_for (packets ++ sent ∷ []) ≡ Some (one_more (unwrap_or (tally_for packets) no_packets) sent.time sent.octets sent.has_trailer)
tally-push [] sent =
    let octets : octets_in (sent ∷ []) ≡ 0 + length sent.octets = omega arith in
    let updates : updates_all (sent ∷ []) ≡ 0 + updates_in sent.octets = omega arith in
    let trailers : trailers_in (sent ∷ []) ≡ 0 + cond sent.has_trailer 1 0 = count-push (λ (s : Sent). s.has_trailer) [] sent in
    let same : tally_with 1 (octets_in (sent ∷ [])) (updates_all (sent ∷ [])) (trailers_in (sent ∷ [])) (sent ∷ [])
    ≡ tally_with 1 (0 + length sent.octets) (0 + updates_in sent.octets) (0 + cond sent.has_trailer 1 0) (sent ∷ []) = cc in
    same
tally-push (first ∷ packets) sent =
    let before = first ∷ packets in
    let all = before ++ sent ∷ [] in
    let count = length-append before (sent ∷ []) in
    let octets : octets_in all ≡ octets_in before + length sent.octets = sum_by-append (λ (s : Sent). length s.octets) before (sent ∷ []) ∙ ap (λ (n : ℕ). octets_in before + n) (omega arith) in
    let updates : updates_all all ≡ updates_all before + updates_in sent.octets =
    sum_by-append (λ (s : Sent). updates_in s.octets) before (sent ∷ []) ∙ ap (λ (n : ℕ). updates_all before + n) (omega arith) in
    let trailers = count-push (λ (s : Sent). s.has_trailer) before sent in
    let interval = fold-append (λ (i : Option ℕ) (s : Sent). greatest i (interval_in s.octets)) None before (sent ∷ []) in
    let earliest = fold-append (λ (t : Option ℕ) (s : Sent). least t s.time) None before (sent ∷ []) in
    let latest = fold-append (λ (t : Option ℕ) (s : Sent). greatest t s.time) None before (sent ∷ []) in
    let same : tally_for all ≡ Some (one_more (unwrap_or (tally_for before) no_packets) sent.time sent.octets sent.has_trailer) = cc in
    same

-- the same sender has one tally
same-tally : (senders : Senders) (k q : Origin) → is_at (origin_cmp k) q ≡ true → tally_of senders k ≡ tally_of senders q
same-tally senders k q same =
    ap (λ (compare : Origin → Bool). lookup compare senders) (fun_ext (λ x. ap is_eq (origin_total.congr k q x (equal_of (origin_cmp k q) same))))

-- ---- what holds of the senders so far holds with one finding more

unchanged : (before : List Made) (senders : Senders) (one : Made) → ((origin : Origin) → here origin (time_of one.came) one.what ≡ []) → AreSenders before senders
    → AreSenders (before ++ one ∷ []) senders
unchanged before senders one none are = record {
  in_order = are.in_order;
  tallies = λ origin. are.tallies origin ∙ ap tally_for (sym (packets-push origin before one ∙ ap (λ (l : List Sent). packets_from origin before ++ l) (none origin)
      ∙ append-nil (packets_from origin before)));
}

with_packet : (before : List Made) (senders : Senders) (one : Made) (k : Origin) (sent : Sent)
    → ((origin : Origin) → here origin (time_of one.came) one.what ≡ cond (is_at (origin_cmp origin) k) (sent ∷ []) [])
    → AreSenders before senders → AreSenders (before ++ one ∷ []) (tallied senders k sent.time sent.octets sent.has_trailer)
with_packet before senders one k sent is are = record {
  in_order = sorted-insert origin_total k after senders are.in_order;
  tallies = λ q. lookup-insert origin_total q k after senders ∙ by q (is_at (origin_cmp k) q) refl ∙ ap tally_for
      (sym (packets-push q before one ∙ ap (λ (l : List Sent). packets_from q before ++ l) (is q)));
}
  where
    after : Tally
    after = one_more (unwrap_or (tally_of senders k) no_packets) sent.time sent.octets sent.has_trailer

    by : (q : Origin) (b : Bool) → is_at (origin_cmp k) q ≡ b → cond b (Some after) (tally_of senders q) ≡ tally_for (packets_from q before ++ cond (is_at (origin_cmp q) k) (sent ∷ []) [])
    by q true same =
        ap (λ (t : Option Tally). Some (one_more (unwrap_or t no_packets) sent.time sent.octets sent.has_trailer)) (same-tally senders k q same ∙ are.tallies q)
        ∙ sym (tally-push (packets_from q before) sent)
        ∙ ap (λ (b : Bool). tally_for (packets_from q before ++ cond b (sent ∷ []) [])) (sym (is_at-sym origin_total q k ∙ same))
    by q false apart =
        are.tallies q
        ∙ ap tally_for (sym (append-nil (packets_from q before)))
        ∙ ap (λ (b : Bool). tally_for (packets_from q before ++ cond b (sent ∷ []) [])) (sym (is_at-sym origin_total q k ∙ apart))

with_one : (before : List Made) (senders : Senders) (one : Made) (what : Found) → one.what ≡ what → AreSenders before senders
    → AreSenders (before ++ one ∷ []) (senders_with senders (time_of one.came) what)
with_one before senders one passed is are = unchanged before senders one (λ origin. ap (here origin (time_of one.came)) is) are
with_one before senders one untold is are = unchanged before senders one (λ origin. ap (here origin (time_of one.came)) is) are
with_one before senders one (left reason missed) is are = unchanged before senders one (λ origin. ap (here origin (time_of one.came)) is) are
with_one before senders one (refused lack) is are = unchanged before senders one (λ origin. ap (here origin (time_of one.came)) is) are
with_one before senders one (found place ends packet has_trailer) is are =
    with_packet before senders one (record { place = place; sender = ends.sender }) (record { time = time_of one.came; octets = packet; has_trailer = has_trailer }) (λ origin. ap (here origin (time_of one.came)) is) are

-- ---- and so with all of them

with_all : (before rest : List Made) (senders : Senders) → AreSenders before senders
    → AreSenders (before ++ rest) (fold (λ s (one : Made). senders_with s (time_of one.came) one.what) senders rest)
with_all before [] senders are = subst (λ (made : List Made). AreSenders made senders) (sym (append-nil before)) are
with_all before (one ∷ rest) senders are =
    subst (λ (made : List Made). AreSenders made (fold (λ s (one : Made). senders_with s (time_of one.came) one.what) senders (one ∷ rest))) (append_assoc before (one ∷ []) rest)
    (with_all (before ++ one ∷ []) rest (senders_with senders (time_of one.came) one.what) (with_one before senders one one.what refl are))

nobody : AreSenders [] []
unfolding IsStrictlySortedBy
nobody = record { in_order = tt; tallies = λ origin. refl }

pub senders_stand : (made : List Made) → AreSenders made (senders_of made)
senders_stand made = with_all [] made [] nobody

pub senders_read : (limit : Extent) (octets : List ℕ) (gathering : Gathering) → (read : IsRead limit octets gathering) → gathering.wanted.are_listed ≡ true → AreSenders read.gathered.made gathering.senders
senders_read limit octets gathering read listed =
    subst (AreSenders read.gathered.made) (sym (read.gathered.senders ∙ ap (λ (b : Bool). senders_listed b read.gathered.made) listed)) (senders_stand read.gathered.made)
