-- The TLVs of a packet, read one by one up to the first that is ignored.
use Rattle.std.proofs.Common.{◌≡◌, ℕ, ◌+◌, ◌-◌, ◌≤◌, List, [], ◌∷◌, ◌++◌, length, take, drop, refl, sym, ap, subst, ◌∙◌, append_assoc, arith}
use Rattle.std.specs.Prelude.{Option, Result, Ok, Err, Some, None}
use Rattle.std.specs.List.{flat_map}
use Rattle.std.proofs.lemmas.List.{length-append, take_at}
use Rattle.std.proofs.lemmas.List.Concat.{flat_map-append}
use Rattle.std.proofs.lemmas.List.Sums.{fold-append}
use Rattle.babel_tlv.specs.declared.event.Event.{Event}
use Rattle.babel_tlv.specs.declared.fault.Fault.{Fault}
use Rattle.babel_tlv.specs.declared.start.Start.{Start}
use Rattle.babel_tlv.specs.Context.{Context, context_after, first_context, updated}
use Rattle.babel_tlv.specs.FrameFaults.{AreTlvs, BeginsPacket}
use Rattle.babel_tlv.specs.Framing.{ArePlaced, IsBody, TlvAt, framed, packet_octets, tlv_octets, tlvs_of}
use Rattle.babel_tlv.specs.Says as says
use Rattle.babel_tlv.specs.Says.{Saying, sayings_after}
use Rattle.babel_table.specs.Counting.{counted_with}
use Rattle.babel_table.specs.Counts.{Counts, counts_of}
use Rattle.babel_table.specs.Feeding.{event_at}
use Rattle.babel_table.proofs.CountLaws.{counts-push}
use Rattle.babel_timeline.specs.Refusing.{context_behind}
use Rattle.babel_dump.specs.EventsCause.{RefusesTlvIn}
use Rattle.babel_dump.specs.Ignored.{IgnoresNone, first_ignored}
use Rattle.babel_dump.specs.StrictPackets.{IsFirstIn, IsFirstOf, IsOfTlvs, IsRefusedLast, fault_of, tlvs_report}
use Rattle.babel_dump.specs.declared.unread_tlv.UnreadTlv.{UnreadTlv}
use Rattle.babel_dump.proofs.FirstIgnored.{ignores_none}

pub none_of_none : IgnoresNone (counts_of [])
none_of_none = ignores_none (counts_of []) refl

-- some TLVs of a body were read: the latest first, and in order
pub record ReadTo (start : Start) (all : List TlvAt) (context : Context) (left : List TlvAt) (report : Counts) : Type 0 where
  pub earlier : List TlvAt
  pub front : List TlvAt
  pub context_is : context ≡ context_after start earlier
  pub behind : context ≡ context_behind start front
  pub whole : all ≡ front ++ left
  pub said : (more : List TlvAt) → sayings_after start [] (front ++ more) ≡ sayings_after start [] front ++ sayings_after start earlier more
  pub counts : report ≡ tlvs_report start front

pub read_none : (start : Start) (all left : List TlvAt) (context : Context) (report : Counts) → context ≡ context_after start [] → left ≡ all → report ≡ counts_of []
    → ReadTo start all context left report
read_none start all left context report is same none = record { earlier = []; front = []; context_is = is; behind = is; whole = sym same; said = λ more. refl; counts = none }

placed_at : (at : ℕ) (front : List TlvAt) (tlv : TlvAt) (back : List TlvAt) → ArePlaced at (front ++ tlv ∷ back) → tlv.at ≡ at + length (flat_map tlv_octets front)
placed_at at [] tlv back placed = omega (arith, placed.0)
placed_at at (first ∷ front) tlv back placed =
    omega (arith, placed_at (at + length (tlv_octets first)) front tlv back placed.2, length-append (tlv_octets first) (flat_map tlv_octets front))

-- what the next says is a fault
pub read_refused : (start : Start) (all : List TlvAt) (context : Context) (tlv : TlvAt) (left rest : List TlvAt) (report : Counts) (fault : Fault) → ReadTo start all context left report
    → left ≡ tlv ∷ rest → Err fault ≡ says.said context tlv → RefusesTlvIn start all fault
read_refused start all context tlv left rest report fault to is told =
    (to.front, tlv, rest, to.whole ∙ ap (λ (t : List TlvAt). to.front ++ t) is, ap (λ (c : Context). says.said c tlv) (sym to.behind) ∙ sym told)

-- one more is read
module _ (start : Start) (all : List TlvAt) (context : Context) (tlv : TlvAt) (event : Event) (left rest : List TlvAt) (report next : Counts) (to : ReadTo start all context left report)
    (is : left ≡ tlv ∷ rest) (told : Ok event ≡ says.said context tlv) (counted : next ≡ counted_with report tlv event) where
  abbrev done : List Saying
  done = sayings_after start [] to.front

  whole_more : all ≡ to.front ++ tlv ∷ rest
  whole_more = to.whole ∙ ap (λ (t : List TlvAt). to.front ++ t) is

  counts_more : next ≡ tlvs_report start (to.front ++ tlv ∷ [])
  counts_more =
      let saying_of : Result Event Fault → Saying = λ what. record { at = tlv.at; kind = tlv.kind; body = tlv.body; what = what } in
      let here : event_at tlv event ≡ saying_of (says.said (context_after start to.earlier) tlv) = ap saying_of (told ∙ ap (λ (c : Context). says.said c tlv) to.context_is) in
      counted ∙ ap (λ (c : Counts). counted_with c tlv event) to.counts ∙ sym (counts-push done tlv event)
      ∙ ap (λ (s : Saying). counts_of (done ++ s ∷ [])) here ∙ sym (ap counts_of (to.said (tlv ∷ [])))

  pub read_more : (after : Context) → ((begin : Start) (earlier : List TlvAt) → context ≡ context_after begin earlier → after ≡ context_after begin (tlv ∷ earlier))
      → ReadTo start all after rest next
  read_more after goes = record {
    earlier = tlv ∷ to.earlier;
    front = to.front ++ tlv ∷ [];
    context_is = goes start to.earlier to.context_is;
    behind = goes start to.earlier to.context_is ∙ ap (λ (c : Context). updated c tlv) (sym to.context_is ∙ to.behind) ∙ sym (fold-append updated (first_context start) to.front (tlv ∷ []));
    whole = whole_more ∙ sym (append_assoc to.front (tlv ∷ []) rest);
    said = λ more.
        let later : List Saying = sayings_after start (tlv ∷ to.earlier) more in
        let one : List Saying = sayings_after start to.earlier (tlv ∷ []) in
        ap (sayings_after start []) (append_assoc to.front (tlv ∷ []) more) ∙ to.said (tlv ∷ more) ∙ sym (append_assoc done one later)
        ∙ ap (λ (s : List Saying). s ++ later) (sym (to.said (tlv ∷ [])));
    counts = counts_more;
  }

  -- it is ignored, and none before it
  pub refused_here : (at : ℕ) → ArePlaced at all → IgnoresNone report → (unread : UnreadTlv) → first_ignored next ≡ Some unread.tlv → unread.ignores_encoding_4 ≡ next.ignores_4
      → unread.before ≡ tlv.at - at
      → (front : List TlvAt) × (last : TlvAt) × (back : List TlvAt) × (all ≡ front ++ last ∷ back) × (unread.before ≡ length (flat_map tlv_octets front))
      × IsRefusedLast start front last (fault_of unread)
  refused_here at placed none unread first is_4 before = (
    to.front,
    tlv,
    rest,
    whole_more,
    omega (arith, before, placed_at at to.front tlv rest (subst (ArePlaced at) whole_more placed)),
    record {
      none = subst IgnoresNone to.counts none;
      unread = (ap first_ignored (sym counts_more) ∙ first, is_4 ∙ ap (λ (c : Counts). c.ignores_4) counts_more);
    },
  )

  pub not_before : (at : ℕ) → ArePlaced at all → at ≤ tlv.at
  not_before at placed = omega (arith, placed_at at to.front tlv rest (subst (ArePlaced at) whole_more placed))

-- ---- a packet with this body

pub of_tlvs : (at : ℕ) (packet body : List ℕ) (tlvs : List TlvAt) → BeginsPacket packet body → AreTlvs (at + 4) body tlvs → IsOfTlvs at packet tlvs
of_tlvs at packet body tlvs begins are = record {
  rest = begins.1;
  whole = begins.2 ∙ ap (λ (t : List ℕ). framed t ++ begins.1) are.whole;
  short = subst IsBody are.whole begins.0;
  placed = are.placed;
}

pub first_of_packet : (start : Start) (at : ℕ) (packet body : List ℕ) (found : Option UnreadTlv) → BeginsPacket packet body → AreTlvs (at + 4) body (tlvs_of (at + 4) body)
    → IsFirstIn start (at + 4) body found → IsFirstOf start at packet found
first_of_packet start at packet body None begins are none = (tlvs_of (at + 4) body, of_tlvs at packet body (tlvs_of (at + 4) body) begins are, none)
first_of_packet start at packet body (Some unread) begins are (front, last, back, whole, before, refused) = (
  front,
  record {
    last = last;
    back = back;
    of_tlvs = subst (IsOfTlvs at packet) whole (of_tlvs at packet body (tlvs_of (at + 4) body) begins are);
    refused = refused;
  },
  before,
)

-- the octets of the TLVs before it are the first of the body
front_octets : (front back : List TlvAt) (rest : List ℕ) (n : ℕ) → n ≡ length (flat_map tlv_octets front)
    → take n (flat_map tlv_octets (front ++ back) ++ rest) ≡ flat_map tlv_octets front
front_octets front back rest n size =
    ap (λ (t : List ℕ). take n (t ++ rest)) (flat_map-append tlv_octets front back) ∙ ap (take n) (append_assoc (flat_map tlv_octets front) (flat_map tlv_octets back) rest)
    ∙ take_at (flat_map tlv_octets front) (flat_map tlv_octets back ++ rest) n (sym size)

pub front_of_packet : (at : ℕ) (packet : List ℕ) (front back : List TlvAt) (n : ℕ) → IsOfTlvs at packet (front ++ back) → n ≡ length (flat_map tlv_octets front)
    → framed (take n (drop 4 packet)) ≡ packet_octets front
front_of_packet at packet front back n of size = ap (λ (p : List ℕ). framed (take n (drop 4 p))) of.whole ∙ ap framed (front_octets front back of.rest n size)
