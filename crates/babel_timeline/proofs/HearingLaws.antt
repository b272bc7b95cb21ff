-- A report counts TLVs one after the other.
use Rattle.std.proofs.Common.{◌≡◌, ℕ, ◌+◌, List, [], ◌∷◌, ◌++◌, length, Result, Ok, Err, sym, ap, subst, ◌∙◌, append_assoc}
use Rattle.std.specs.Prelude.{OnOk}
use Rattle.std.specs.declared.cmp.Ordering.{Ordering}
use Rattle.std.specs.BTreeMap.{insert_entry}
use Rattle.std.proofs.lemmas.List.{append-nil}
use Rattle.babel_tlv.specs.declared.event.Event.{Event}
use Rattle.babel_tlv.specs.declared.fault.Fault.{Fault}
use Rattle.babel_tlv.specs.declared.start.Start.{Start}
use Rattle.babel_tlv.specs.Context.{Context, context_after}
use Rattle.babel_tlv.specs.FrameFaults.{AreTlvs, BeginsPacket}
use Rattle.babel_tlv.specs.Framing.{IsBody, TlvAt, framed, tlvs_of}
use Rattle.babel_tlv.specs.Says as says
use Rattle.babel_tlv.specs.Says.{Saying, sayings_after}
use Rattle.babel_table.specs.Counting.{counted_with}
use Rattle.babel_table.specs.Counts.{Counts, counts_of}
use Rattle.babel_table.specs.Feeding.{event_at}
use Rattle.babel_table.proofs.CountLaws.{counts-push}
use Rattle.babel_timeline.specs.declared.heard.Heard.{Heard}
use Rattle.babel_timeline.specs.Hearing.{CountsAt, CountsMore, CountsPacket, heard_of}

abbrev saying_at : TlvAt → Result Event Fault → Saying
saying_at tlv what = record { at = tlv.at; kind = tlv.kind; body = tlv.body; what = what }

pub counts_none : (old : Counts) → CountsMore old [] old
counts_none old before is = is ∙ ap counts_of (sym (append-nil before))

pub counts_then : (old mid new : Counts) (more later : List Saying) → CountsMore old more mid → CountsMore mid later new → CountsMore old (more ++ later) new
counts_then old mid new more later first second before is = second (before ++ more) (first before is) ∙ ap counts_of (append_assoc before more later)

-- a report that the TLVs were counted in so far, once it has those that are left, has all
pub record CountsTo (start : Start) (all : List TlvAt) (old : Counts) (context : Context) (tlvs : List TlvAt) (now : Counts) : Type 0 where
  pub earlier : List TlvAt
  pub context_is : context ≡ context_after start earlier
  pub leads : (new : Counts) → CountsMore now (sayings_after start earlier tlvs) new → CountsMore old (sayings_after start [] all) new

pub counts-begin : (start : Start) (all : List TlvAt) (old : Counts) (context : Context) (tlvs : List TlvAt) → context ≡ context_after start [] → tlvs ≡ all → CountsTo start all old context tlvs old
counts-begin start all old context tlvs is same = record {
  earlier = [];
  context_is = is;
  leads = λ new counts. subst (λ (t : List TlvAt). CountsMore old (sayings_after start [] t) new) same counts;
}

pub counts-next : (start : Start) (all : List TlvAt) (old : Counts) (context after : Context) (tlv : TlvAt) (event : Event) (tlvs rest : List TlvAt) (now next : Counts) → tlvs ≡ tlv ∷ rest
    → ((begin : Start) (earlier : List TlvAt) → context ≡ context_after begin earlier → after ≡ context_after begin (tlv ∷ earlier))
    → Ok event ≡ says.said context tlv → next ≡ counted_with now tlv event → CountsTo start all old context tlvs now → CountsTo start all old after rest next
counts-next start all old context after tlv event tlvs rest now next is goes told counted to = record {
  earlier = tlv ∷ to.earlier;
  context_is = goes start to.earlier to.context_is;
  leads = λ new counts.
      let first : CountsMore now (event_at tlv event ∷ []) next = λ before same. counted ∙ ap (λ (c : Counts). counted_with c tlv event) same ∙ sym (counts-push before tlv event) in
      let later : List Saying = sayings_after start (tlv ∷ to.earlier) rest in
      let saying : event_at tlv event ∷ later ≡ sayings_after start to.earlier (tlv ∷ rest) =
      ap (λ (w : Result Event Fault). saying_at tlv w ∷ later) (told ∙ ap (λ (c : Context). says.said c tlv) to.context_is) in
      let both : CountsMore now (event_at tlv event ∷ later) new = counts_then now next new (event_at tlv event ∷ []) later first counts in
      to.leads new (subst (λ (t : List TlvAt). CountsMore now (sayings_after start to.earlier t) new) (sym is) (subst (λ (s : List Saying). CountsMore now s new) saying both));
}

pub counts-end : (start : Start) (all : List TlvAt) (old : Counts) (context : Context) (tlvs : List TlvAt) (now : Counts) → tlvs ≡ [] → CountsTo start all old context tlvs now
    → CountsMore old (sayings_after start [] all) now
counts-end start all old context tlvs now none to =
    to.leads now (subst (λ (t : List TlvAt). CountsMore now (sayings_after start to.earlier t) now) (sym none) (counts_none now))

-- ---- packets

pub counts_at : {T E : Type 0} (r : Result T E) (at : ℕ) (start : Start) (packet body : List ℕ) (old new : Counts) → BeginsPacket packet body → OnOk r (AreTlvs (at + 4) body (tlvs_of (at + 4) body))
    → OnOk r (CountsMore old (sayings_after start [] (tlvs_of (at + 4) body)) new) → OnOk r (CountsAt at start packet old new)
counts_at (Ok x) at start packet body old new begins are counts = record {
  tlvs = tlvs_of (at + 4) body;
  rest = begins.1;
  whole = begins.2 ∙ ap (λ (t : List ℕ). framed t ++ begins.1) are.whole;
  placed = (subst IsBody are.whole begins.0, are.placed, tt);
  counts = counts;
}
counts_at (Err e) at start packet body old new begins are counts = tt

module _ {S : Type 0} (cmp : S → S → Ordering) (sender : S) (start : Start) (packet : List ℕ) (old new : List (S × Heard)) (before after : Heard) where
  pub counts_packet : before ≡ heard_of cmp old sender → after.octets ≡ before.octets + length packet → CountsAt before.octets start packet before.report after.report → new ≡ insert_entry cmp old sender after
      → CountsPacket cmp sender start packet old new
  counts_packet is size counts put = record {
    report = after.report;
    counts = subst (λ (h : Heard). CountsAt h.octets start packet h.report after.report) is counts;
    heard = put ∙ ap (λ (n : ℕ). insert_entry cmp old sender (record { octets = n; report = after.report })) (size ∙ ap (λ (h : Heard). h.octets + length packet) is);
  }

  pub counts_if_ok : {T E : Type 0} (r : Result T E) → before ≡ heard_of cmp old sender → OnOk r (after.octets ≡ before.octets + length packet) → OnOk r (CountsAt before.octets start packet before.report after.report)
      → new ≡ insert_entry cmp old sender after → OnOk r (CountsPacket cmp sender start packet old new)
  counts_if_ok (Ok x) is size counts put = counts_packet is size counts put
  counts_if_ok (Err e) is size counts put = tt
