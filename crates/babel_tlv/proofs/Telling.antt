-- Octets that are TLVs, what these say in a context, and the context behind them.
use Rattle.std.proofs.Common.{◌≡◌, ℕ, ◌+◌, List, [], ◌∷◌, ◌++◌, length, map, Result, Ok, refl, sym, ap, subst, ◌∙◌, arith}
use Rattle.std.specs.List.{flat_map}
use Rattle.std.proofs.lemmas.List.{length-append, append-nil}
use Rattle.std.proofs.lemmas.List.Concat.{flat_map-append}
use Rattle.babel_tlv.specs.declared.start.Start.{Start}
use Rattle.babel_tlv.specs.declared.event.Event.{Event}
use Rattle.babel_tlv.specs.declared.event.Event.TheVariants as events
use Rattle.babel_tlv.specs.declared.fault.Fault.{Fault}
use Rattle.babel_tlv.specs.Framing.{TlvAt, IsTlv, ArePlaced, laid_out, tlv_octets}
use Rattle.babel_tlv.specs.Context.{Context, context_after, updated}
use Rattle.babel_tlv.specs.Says.{Saying, said, sayings_after}
use Rattle.babel_tlv.specs.News.{spoken}
use Rattle.babel_tlv.proofs.Reading.{one}

abbrev pub as_ok : Event → Result Event Fault
as_ok event = Ok event

-- what TLVs say from a context on, and the context behind them
abbrev pub says_in : Context → List TlvAt → List (Result Event Fault)
says_in context [] = []
says_in context (tlv ∷ tlvs) = said context tlv ∷ says_in (updated context tlv) tlvs

abbrev pub context_over : Context → List TlvAt → Context
context_over context [] = context
context_over context (tlv ∷ tlvs) = context_over (updated context tlv) tlvs

-- the octets, the first at this offset, are TLVs that none refuses, say this and nothing else, and leave this context
pub record Tells (context : Context) (at : ℕ) (octets : List ℕ) (news : List Event) (behind : Context) : Type 0 where
  pub tlvs : List TlvAt
  pub told : List Event
  pub whole : octets ≡ flat_map tlv_octets tlvs
  pub placed : ArePlaced at tlvs
  pub fine : says_in context tlvs ≡ map as_ok told
  pub news_are : spoken told ≡ news
  pub leaves : context_over context tlvs ≡ behind

pub Tells-none : (context : Context) (at : ℕ) → Tells context at [] [] context
Tells-none context at = record { tlvs = []; told = []; whole = refl; placed = tt; fine = refl; news_are = refl; leaves = refl }

pub Tells-one : (context : Context) (at kind : ℕ) (body : List ℕ) (event : Event) (behind : Context) → IsTlv (one at kind body)
    → said context (one at kind body) ≡ Ok event → updated context (one at kind body) ≡ behind
    → Tells context at (laid_out kind body) (spoken (event ∷ [])) behind
Tells-one context at kind body event behind fits says leaves = record {
  tlvs = one at kind body ∷ [];
  told = event ∷ [];
  whole = sym (append-nil (laid_out kind body));
  placed = (refl, fits, tt);
  fine = ap (λ (r : Result Event Fault). r ∷ []) says;
  news_are = refl;
  leaves = leaves;
}

pub spoken-append : (front back : List Event) → spoken (front ++ back) ≡ spoken front ++ spoken back
spoken-append [] back = refl
spoken-append (events.Announce key ann ∷ later) back = ap (λ (es : List Event). events.Announce key ann ∷ es) (spoken-append later back)
spoken-append (events.Retract key ∷ later) back = ap (λ (es : List Event). events.Retract key ∷ es) (spoken-append later back)
spoken-append (events.RetractAll ∷ later) back = ap (λ (es : List Event). events.RetractAll ∷ es) (spoken-append later back)
spoken-append (events.Nothing ∷ later) back = spoken-append later back
spoken-append (events.Ignored reason ∷ later) back = ap (λ (es : List Event). events.Ignored reason ∷ es) (spoken-append later back)

says_in-append : (context : Context) (front back : List TlvAt) → says_in context (front ++ back) ≡ says_in context front ++ says_in (context_over context front) back
says_in-append context [] back = refl
says_in-append context (tlv ∷ front) back = ap (λ (rs : List (Result Event Fault)). said context tlv ∷ rs) (says_in-append (updated context tlv) front back)

context_over-append : (context : Context) (front back : List TlvAt) → context_over context (front ++ back) ≡ context_over (context_over context front) back
context_over-append context [] back = refl
context_over-append context (tlv ∷ front) back = context_over-append (updated context tlv) front back

pub oks-append : (front back : List Event) → map as_ok (front ++ back) ≡ map as_ok front ++ map as_ok back
oks-append [] back = refl
oks-append (event ∷ front) back = ap (λ (rs : List (Result Event Fault)). as_ok event ∷ rs) (oks-append front back)

pub ArePlaced-append : (at : ℕ) (front back : List TlvAt) → ArePlaced at front → ArePlaced (at + length (flat_map tlv_octets front)) back → ArePlaced at (front ++ back)
ArePlaced-append at [] back placed behind = subst (λ (a : ℕ). ArePlaced a back) (let e : at + 0 ≡ at = omega arith in e) behind
ArePlaced-append at (tlv ∷ front) back placed behind =
    let e : at + length (flat_map tlv_octets (tlv ∷ front)) ≡ at + length (tlv_octets tlv) + length (flat_map tlv_octets front) =
    omega (arith, length-append (tlv_octets tlv) (flat_map tlv_octets front)) in
    (placed.0, placed.1, ArePlaced-append (at + length (tlv_octets tlv)) front back placed.2 (subst (λ (a : ℕ). ArePlaced a back) e behind))

pub Tells-append : (context middle behind : Context) (at : ℕ) (front back : List ℕ) (first later : List Event)
    → Tells context at front first middle → Tells middle (at + length front) back later behind → Tells context at (front ++ back) (first ++ later) behind
Tells-append context middle behind at front back first later one_told other_told = record {
  tlvs = one_told.tlvs ++ other_told.tlvs;
  told = one_told.told ++ other_told.told;
  whole = ap (λ (o : List ℕ). o ++ back) one_told.whole ∙ ap (λ (o : List ℕ). flat_map tlv_octets one_told.tlvs ++ o) other_told.whole
      ∙ sym (flat_map-append tlv_octets one_told.tlvs other_told.tlvs);
  placed = ArePlaced-append at one_told.tlvs other_told.tlvs one_told.placed
      (subst (λ (o : List ℕ). ArePlaced (at + length o) other_told.tlvs) one_told.whole other_told.placed);
  fine = says_in-append context one_told.tlvs other_told.tlvs
      ∙ ap (λ (rs : List (Result Event Fault)). rs ++ says_in (context_over context one_told.tlvs) other_told.tlvs) one_told.fine
      ∙ ap (λ (c : Context). map as_ok one_told.told ++ says_in c other_told.tlvs) one_told.leaves
      ∙ ap (λ (rs : List (Result Event Fault)). map as_ok one_told.told ++ rs) other_told.fine
      ∙ sym (oks-append one_told.told other_told.told);
  news_are = spoken-append one_told.told other_told.told
      ∙ ap (λ (es : List Event). es ++ spoken other_told.told) one_told.news_are
      ∙ ap (λ (es : List Event). first ++ es) other_told.news_are;
  leaves = context_over-append context one_told.tlvs other_told.tlvs
      ∙ ap (λ (c : Context). context_over c other_told.tlvs) one_told.leaves
      ∙ other_told.leaves;
}

-- what stands behind the earlier TLVs of a packet
abbrev pub what_of : Saying → Result Event Fault
what_of saying = saying.what

pub sayings_after-says_in : (start : Start) (earlier tlvs : List TlvAt) → map what_of (sayings_after start earlier tlvs) ≡ says_in (context_after start earlier) tlvs
sayings_after-says_in start earlier [] = refl
sayings_after-says_in start earlier (tlv ∷ tlvs) =
    ap (λ (rs : List (Result Event Fault)). said (context_after start earlier) tlv ∷ rs) (sayings_after-says_in start (tlv ∷ earlier) tlvs)
