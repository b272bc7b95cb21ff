-- Packets that are heard, each at its time.
use Rattle.std.proofs.Common.{◌≡◌, ℕ, ◌+◌, Bool, true, false, cond, List, [], ◌∷◌, ◌++◌, length, map, drop, Option, Some, None, Result, Ok, Err, OnOk, refl, sym, ap, subst, ◌∙◌, append_assoc, arith}
use Rattle.std.specs.List.{flat_map}
use Rattle.std.proofs.lemmas.List.{append-nil, drop_at, length-append, map-append}
use Rattle.std.proofs.lemmas.List.Concat.{flat_map-append}
use Rattle.babel_tlv.specs.declared.event.Event.{Event}
use Rattle.babel_tlv.specs.declared.event.Event.TheVariants as events
use Rattle.babel_tlv.specs.declared.fault.Fault.{Fault}
use Rattle.babel_tlv.specs.declared.fault.Fault.TheVariants as faults
use Rattle.babel_tlv.specs.declared.reason.Reason.{Reason}
use Rattle.babel_tlv.specs.declared.start.Start.{Start}
use Rattle.babel_tlv.specs.Context.{Context, context_after, first_context, updated}
use Rattle.babel_tlv.specs.FrameFaults.{BeginsPacket, AreTlvs}
use Rattle.babel_tlv.specs.Framing.{TlvAt, ArePackets, IsBody, framed, tlv_octets, packet_octets, tlvs_of}
use Rattle.babel_tlv.specs.Says.{ignored_for, refuses, said, tells, unless_ignored}
use Rattle.babel_tlv.proofs.TellsLaws.{ignored_tells_nothing}
use Rattle.babel_tlv.specs.declared.mode.Mode.{Mode}
use Rattle.babel_table.specs.Moments.{AreHeard, Heard, Told, Stamp, dump_of, octets_heard, told_at, told_from, told_in, told_of}
use Rattle.babel_table.specs.Words.{HearsPackets, TimedRows, after_all, after_event, after_told, told_then}
use Rattle.babel_table.proofs.DumpLaws.{placed-append}
use Rattle.babel_table.proofs.PacketLaws.{length-framed, placed-push}

heard-octets : (all : List Heard) → dump_of (map octets_heard all) ≡ flat_map packet_octets (flat_map (λ heard. heard.packets) all)
heard-octets [] = refl
heard-octets (one ∷ all) =
    ap (λ (t : List ℕ). flat_map packet_octets one.packets ++ t) (heard-octets all)
    ∙ sym (flat_map-append packet_octets one.packets (flat_map (λ (heard : Heard). heard.packets) all))

pub dump_of-push : (given : List (ℕ × List ℕ)) (time : ℕ) (octets : List ℕ) → dump_of (given ++ (time, octets) ∷ []) ≡ dump_of given ++ octets
dump_of-push given time octets =
    flat_map-append (λ (piece : ℕ × List ℕ). piece.1) given ((time, octets) ∷ []) ∙ ap (λ (t : List ℕ). dump_of given ++ t) (append-nil octets)

-- ---- the same mode, factor and time

pub told-as : (m n : Mode) (f g t u : ℕ) (context : Context) (tlv : TlvAt) (old new : TimedRows) → m ≡ n → f ≡ g → t ≡ u → new ≡ after_told m f (told_at t context tlv) old
    → new ≡ after_told n g (told_at u context tlv) old
told-as m n f g t u context tlv old new modes factors times is =
    is ∙ ap (λ (x : Mode). after_told x f (told_at t context tlv) old) modes ∙ ap (λ (x : ℕ). after_told n x (told_at t context tlv) old) factors
    ∙ ap (λ (x : ℕ). after_told n g (told_at x context tlv) old) times

pub all-as : (m n : Mode) (f g t u : ℕ) (context : Context) (tlvs : List TlvAt) (old new : TimedRows) → m ≡ n → f ≡ g → t ≡ u → new ≡ after_all m f (told_from t context tlvs) old
    → new ≡ after_all n g (told_from u context tlvs) old
all-as m n f g t u context tlvs old new modes factors times is =
    is ∙ ap (λ (x : Mode). after_all x f (told_from t context tlvs) old) modes ∙ ap (λ (x : ℕ). after_all n x (told_from t context tlvs) old) factors
    ∙ ap (λ (x : ℕ). after_all n g (told_from x context tlvs) old) times

module _ (mode : Mode) (factor : ℕ) where
  pub after-append : (front back : List Told) (words : TimedRows) → after_all mode factor (front ++ back) words ≡ after_all mode factor back (after_all mode factor front words)
  after-append [] back words = refl
  after-append (word ∷ front) back words = after-append front back (after_told mode factor word words)

  -- ---- the TLVs of a packet, one by one

  -- what a TLV tells leaves the words that what it says leaves: nothing is told by one that is ignored
  told-said : (when : Stamp) (context : Context) (tlv : TlvAt) (event : Event) (words : TimedRows) → Ok event ≡ said context tlv
      → after_event mode factor when event words ≡ after_event mode factor when (tells context tlv) words
  told-said when context tlv event words is = by (refuses context.via_v6 tlv) (ignored_for context tlv) refl is
    where
      by : (refused : Bool) (reason : Option Reason) → ignored_for context tlv ≡ reason
          → Ok event ≡ cond refused (Err (faults.EncodingSetsRouterId tlv.at)) (Ok (unless_ignored reason (tells context tlv)))
          → after_event mode factor when event words ≡ after_event mode factor when (tells context tlv) words
      by true reason ignored e = absurd cc
      by false None ignored e = ap (λ (v : Event). after_event mode factor when v words) (let same : event ≡ tells context tlv = cc in same)
      by false (Some reason) ignored e =
          ap (λ (v : Event). after_event mode factor when v words) (let same : event ≡ events.Ignored reason = cc in same)
          ∙ ap (λ (v : Event). after_event mode factor when v words) (sym ((ignored_tells_nothing context tlv).0 reason ignored))

  -- what a TLV tells is what the state says
  pub told-taken : {T : Type 0} (r : Result T Fault) (time : ℕ) (context : Context) (tlv : TlvAt) (event : Event) (old new : TimedRows) → Ok event ≡ said context tlv
      → OnOk r (new ≡ after_told mode factor (told_then time tlv event) old) → OnOk r (new ≡ after_told mode factor (told_at time context tlv) old)
  told-taken (Ok x) time context tlv event old new is ok = ok ∙ told-said (told_then time tlv event).when context tlv event old is
  told-taken (Err fault) time context tlv event old new is ok = tt

  -- the TLVs that are left lead from the words so far to these
  pub record LeadsTo (time : ℕ) (start : Start) (context : Context) (left : List TlvAt) (words last : TimedRows) : Type 0 where
    pub earlier : List TlvAt
    pub context_is : context ≡ context_after start earlier
    pub leads : after_all mode factor (told_from time context left) words ≡ last

  pub leads-begin : (time : ℕ) (start : Start) (context : Context) (all left : List TlvAt) (words : TimedRows) → context ≡ context_after start [] → left ≡ all
      → LeadsTo time start context left words (after_all mode factor (told_from time (first_context start) all) words)
  leads-begin time start context all left words is same = record {
    earlier = [];
    context_is = is;
    leads = ap (λ (t : List TlvAt). after_all mode factor (told_from time context t) words) same ∙ ap (λ (c : Context). after_all mode factor (told_from time c all) words) is;
  }

  pub leads-next : (time : ℕ) (start : Start) (context after : Context) (tlv : TlvAt) (all left : List TlvAt) (words next last : TimedRows) → all ≡ tlv ∷ left
      → ((start : Start) (earlier : List TlvAt) → context ≡ context_after start earlier → after ≡ context_after start (tlv ∷ earlier))
      → next ≡ after_told mode factor (told_at time context tlv) words → LeadsTo time start context all words last → LeadsTo time start after left next last
  leads-next time start context after tlv all left words next last is goes here leads = record {
    earlier = tlv ∷ leads.earlier;
    context_is = goes start leads.earlier leads.context_is;
    leads =
        let goes_on : after ≡ updated context tlv = goes start leads.earlier leads.context_is ∙ ap (λ (c : Context). updated c tlv) (sym leads.context_is) in
        ap (λ (c : Context). after_all mode factor (told_from time c left) next) goes_on ∙ ap (after_all mode factor (told_from time (updated context tlv) left)) here
        ∙ ap (λ (t : List TlvAt). after_all mode factor (told_from time context t) words) (sym is) ∙ leads.leads;
  }

  pub leads-end : (time : ℕ) (start : Start) (context : Context) (left : List TlvAt) (words last : TimedRows) → left ≡ [] → LeadsTo time start context left words last → words ≡ last
  leads-end time start context left words last none leads =
      ap (λ (t : List TlvAt). after_all mode factor (told_from time context t) words) (sym none) ∙ leads.leads

  -- ---- packets, one by one

  -- packets that were heard, and where the next begins
  pub record HeardTo (time : ℕ) (start : Start) (at : ℕ) (octets : List ℕ) (old new : TimedRows) (rest : List ℕ) (place : ℕ) : Type 0 where
    pub packets : List (List TlvAt)
    pub whole : octets ≡ flat_map packet_octets packets ++ rest
    pub placed : ArePackets at packets
    pub here : place ≡ at + length (flat_map packet_octets packets)
    pub words : new ≡ after_all mode factor (told_in start time packets) old

  pub heard-none : (time : ℕ) (start : Start) (at : ℕ) (octets : List ℕ) (old : TimedRows) → HeardTo time start at octets old old octets at
  heard-none time start at octets old = record { packets = []; whole = refl; placed = tt; here = omega arith; words = refl }

  pub heard-next : (time : ℕ) (start : Start) (at : ℕ) (octets : List ℕ) (old now next : TimedRows) (rest body : List ℕ) (place used : ℕ) → used ≡ 4 + length body
      → HeardTo time start at octets old now rest place → BeginsPacket rest body → AreTlvs (place + 4) body (tlvs_of (place + 4) body)
      → next ≡ after_all mode factor (told_from time (first_context start) (tlvs_of (place + 4) body)) now → HeardTo time start at octets old next (drop used rest) (place + used)
  heard-next time start at octets old now next rest body place used is_used heard (fits, behind, is_rest) parts goes =
      let tlvs : List TlvAt = tlvs_of (place + 4) body in
      let is_body : flat_map tlv_octets tlvs ≡ body = sym parts.whole in
      let is_packet : packet_octets tlvs ≡ framed body = ap framed is_body in
      let dropped : drop used rest ≡ behind = ap (drop used) is_rest ∙ drop_at (framed body) behind used (length-framed body ∙ sym is_used) in
      let joined : flat_map packet_octets (heard.packets ++ tlvs ∷ []) ≡ flat_map packet_octets heard.packets ++ framed body =
      flat_map-append packet_octets heard.packets (tlvs ∷ []) ∙ ap (λ (t : List ℕ). flat_map packet_octets heard.packets ++ t) (append-nil (packet_octets tlvs) ∙ is_packet) in
      let told : told_in start time (heard.packets ++ tlvs ∷ []) ≡ told_in start time heard.packets ++ told_from time (first_context start) tlvs =
      flat_map-append (told_from time (first_context start)) heard.packets (tlvs ∷ [])
      ∙ ap (λ (t : List Told). told_in start time heard.packets ++ t) (append-nil (told_from time (first_context start) tlvs)) in
      record {
        packets = heard.packets ++ tlvs ∷ [];
        whole = heard.whole ∙ ap (λ (t : List ℕ). flat_map packet_octets heard.packets ++ t) is_rest ∙ sym (append_assoc (flat_map packet_octets heard.packets) (framed body) behind)
            ∙ ap (λ (t : List ℕ). t ++ behind) (sym joined) ∙ ap (λ (t : List ℕ). flat_map packet_octets (heard.packets ++ tlvs ∷ []) ++ t) (sym dropped);
        placed = placed-push at heard.packets tlvs place heard.placed heard.here (subst IsBody (sym is_body) fits) parts.placed;
        here = rw joined (omega (arith, heard.here, is_used, length-append (flat_map packet_octets heard.packets) (framed body), length-framed body));
        words = goes ∙ ap (after_all mode factor (told_from time (first_context start) tlvs)) heard.words
            ∙ sym (after-append (told_in start time heard.packets) (told_from time (first_context start) tlvs) old)
            ∙ ap (λ (t : List Told). after_all mode factor t old) (sym told);
      }

  pub heard-hears : (time : ℕ) (start : Start) (at : ℕ) (octets : List ℕ) (old new : TimedRows) (rest left : List ℕ) (place : ℕ) → rest ≡ left → HeardTo time start at octets old new rest place
      → HearsPackets mode factor time start at octets old new left
  heard-hears time start at octets old new rest left place same heard = record {
    packets = heard.packets;
    whole = heard.whole ∙ ap (λ (t : List ℕ). flat_map packet_octets heard.packets ++ t) same;
    placed = heard.placed;
    words = heard.words;
  }

  -- ---- one time more

  module _ (given : List (ℕ × List ℕ)) (all : List Heard) (heard : AreHeard given all) (start : Start) (at time : ℕ) (octets : List ℕ) (old new : TimedRows)
      (here : at ≡ length (dump_of given)) (before : old ≡ after_all mode factor (told_of start all) []) (hears : HearsPackets mode factor time start at octets old new []) where
    one : Heard
    one = record { time = time; packets = hears.packets }

    pub heard_then : List Heard
    heard_then = all ++ one ∷ []

    pub are_heard : AreHeard (given ++ (time, octets) ∷ []) heard_then
    unfolding one heard_then
    are_heard =
        let place : at ≡ 0 + length (flat_map packet_octets (flat_map (λ (h : Heard). h.packets) all)) =
        here ∙ ap (λ (g : List (ℕ × List ℕ)). length (dump_of g)) heard.octets ∙ ap (λ (t : List ℕ). length t) (heard-octets all) ∙ omega arith in
        record {
          octets = ap (λ (g : List (ℕ × List ℕ)). g ++ (time, octets) ∷ []) heard.octets
              ∙ ap (λ (t : List ℕ). map octets_heard all ++ (time, t) ∷ []) (hears.whole ∙ append-nil (flat_map packet_octets hears.packets))
              ∙ sym (map-append octets_heard all (one ∷ []));
          placed = subst (ArePackets 0)
              (sym (flat_map-append (λ (h : Heard). h.packets) all (one ∷ []) ∙ ap (λ (t : List (List TlvAt)). flat_map (λ (h : Heard). h.packets) all ++ t) (append-nil hears.packets)))
              (placed-append 0 at (flat_map (λ (h : Heard). h.packets) all) hears.packets heard.placed place hears.placed);
        }

    pub words_then : new ≡ after_all mode factor (told_of start heard_then) []
    unfolding one heard_then
    words_then =
        hears.words ∙ ap (after_all mode factor (told_in start time hears.packets)) before ∙ sym (after-append (told_of start all) (told_in start time hears.packets) [])
        ∙ ap (λ (t : List Told). after_all mode factor t [])
        (sym (flat_map-append (λ (h : Heard). told_in start h.time h.packets) all (one ∷ []) ∙ ap (λ (t : List Told). told_of start all ++ t) (append-nil (told_in start time hears.packets))))
