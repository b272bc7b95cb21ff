-- What is heard of links, TLV by TLV, is what the TLVs of a packet say.
use Rattle.std.proofs.Common.{◌≡◌, ℕ, ◌+◌, ◌-◌, ◌<◌, Bool, true, false, cond, eqb, List, [], ◌∷◌, ◌++◌, Option, Some, None, length, length-drop, take, drop, refl, sym, ap, subst, ◌∙◌, append_assoc, append-nil, arith}
use Rattle.std.specs.Prelude.{Err, MatchResult, Ok, Result, is_err}
use Rattle.std.specs.declared.cmp.Ordering.{Ordering}
use Rattle.std.specs.List.{flat_map}
use Rattle.std.proofs.lemmas.Bool.Decides.{nat_tests}
use Rattle.std.proofs.lemmas.List.{length-append, take_all}
use Rattle.std.proofs.lemmas.Map.Lookups.{CmpEqualImpliesEq}
use Rattle.babel_prefix.specs.Address.{Address}
use Rattle.babel_tlv.specs.FrameFaults.{AreTlvs, BeginsNoTlv, HasNoTlvAt, TlvPastEndAt}
use Rattle.babel_tlv.specs.Framing.{ArePlaced, TlvAt, tlv_octets, tlvs_of}
use Rattle.babel_tlv.specs.Hellos.{hello_of}
use Rattle.babel_tlv.specs.Ihus.{ihu_of}
use Rattle.babel_tlv.specs.declared.fault.Fault.{Fault}
use Rattle.babel_tlv.specs.declared.hello.Hello.{Hello}
use Rattle.babel_tlv.specs.declared.ihu.Ihu.{Ihu}
use Rattle.babel_tlv.proofs.Reading.{tlvs_of-append}
use Rattle.babel_tlv.proofs.SubTlvLaws.{tlvs_of-stuck}
use Rattle.babel_timeline.specs.RequestsTold.{body_of}
use Rattle.babel_selection.specs.declared.ihu_from.IhuFrom.{IhuFrom}
use Rattle.babel_selection.specs.declared.link_hearing.LinkHearing.{LinkHearing}
use Rattle.babel_selection.specs.Hearing.{AreCounts, AreLast, CountsHello, TakesIhu}
use Rattle.babel_selection.specs.HeardLinks.{Hears, hellos_among, ihu_from, ihus_among, whole_tlvs}
use Rattle.babel_selection.proofs.HearingLaws.{hello_keeps_counts, ihu_keeps_last}

module _ {S : Type 0} (cmp : S → S → Ordering) where
  pub hears_none : (it : LinkHearing S) → Hears cmp [] [] it it
  hears_none it = record {
    counts = λ before are. subst (λ (l : List (S × Hello)). AreCounts cmp l it.hellos) (sym (append-nil before)) are;
    last = λ before are. subst (λ (l : List (IhuFrom S)). AreLast cmp l it.ihus) (sym (append-nil before)) are;
  }

  pub hears_then : (hellos hellos_too : List (S × Hello)) (ihus ihus_too : List (IhuFrom S)) (a b c : LinkHearing S) → Hears cmp hellos ihus a b → Hears cmp hellos_too ihus_too b c
      → Hears cmp (hellos ++ hellos_too) (ihus ++ ihus_too) a c
  hears_then hellos hellos_too ihus ihus_too a b c one two = record {
    counts = λ before are. subst (λ (l : List (S × Hello)). AreCounts cmp l c.hellos) (append_assoc before hellos hellos_too)
        (two.counts (before ++ hellos) (one.counts before are));
    last = λ before are. subst (λ (l : List (IhuFrom S)). AreLast cmp l c.ihus) (append_assoc before ihus ihus_too)
        (two.last (before ++ ihus) (one.last before are));
  }

  -- a TLV that is no Hello, or no IHU, and one that is
  pub hears_no_hello : (node : S) (tlv : TlvAt) (it : LinkHearing S) → hello_of tlv ≡ None → Hears cmp (hellos_among node (tlv ∷ [])) [] it it
  hears_no_hello node tlv it none = rw none (hears_none it)

  pub hears_hello : CmpEqualImpliesEq cmp → (node : S) (tlv : TlvAt) (hello : Hello) (old new : LinkHearing S) → hello_of tlv ≡ Some hello
      → CountsHello cmp node hello old.hellos new.hellos → new.ihus ≡ old.ihus → Hears cmp (hellos_among node (tlv ∷ [])) [] old new
  hears_hello exact node tlv hello old new is takes same = rw is (record {
    counts = λ before are. hello_keeps_counts cmp exact before node hello old.hellos new.hellos are takes;
    last = λ before are. subst (AreLast cmp (before ++ [])) (sym same) (subst (λ (l : List (IhuFrom S)). AreLast cmp l old.ihus) (sym (append-nil before)) are);
  })

  module _ (beside : S → Address → S) (router : S) (destination : Address) (time : ℕ) where
    pub hears_no_ihu : (tlv : TlvAt) (it : LinkHearing S) → ihu_of tlv ≡ None → Hears cmp [] (ihus_among beside router destination time (tlv ∷ [])) it it
    hears_no_ihu tlv it none = rw none (hears_none it)

    pub hears_ihu : (tlv : TlvAt) (ihu : Ihu) (old new : LinkHearing S) → ihu_of tlv ≡ Some ihu
        → TakesIhu cmp (ihu_from beside router destination time ihu) old.ihus new.ihus → new.hellos ≡ old.hellos → Hears cmp [] (ihus_among beside router destination time (tlv ∷ [])) old new
    hears_ihu tlv ihu old new is takes same = rw is (record {
      counts = λ before are. subst (AreCounts cmp (before ++ [])) (sym same) (subst (λ (l : List (S × Hello)). AreCounts cmp l old.hellos) (sym (append-nil before)) are);
      last = λ before are. ihu_keeps_last cmp before (ihu_from beside router destination time ihu) old.ihus new.ihus are takes;
    })

    -- the Hellos and IHUs of these TLVs
    abbrev pub HearsTlvs : List TlvAt → LinkHearing S → LinkHearing S → Type 0
    HearsTlvs tlvs = Hears cmp (hellos_among router tlvs) (ihus_among beside router destination time tlvs)

    hellos_first : (tlv : TlvAt) (tlvs : List TlvAt) → hellos_among router (tlv ∷ []) ++ hellos_among router tlvs ≡ hellos_among router (tlv ∷ tlvs)
    hellos_first tlv tlvs = by (hello_of tlv) refl
      where
        by : (hello : Option Hello) → hello_of tlv ≡ hello → hellos_among router (tlv ∷ []) ++ hellos_among router tlvs ≡ hellos_among router (tlv ∷ tlvs)
        by None is = rw is refl
        by (Some hello) is = rw is refl

    ihus_first : (tlv : TlvAt) (tlvs : List TlvAt)
        → ihus_among beside router destination time (tlv ∷ []) ++ ihus_among beside router destination time tlvs ≡ ihus_among beside router destination time (tlv ∷ tlvs)
    ihus_first tlv tlvs = by (ihu_of tlv) refl
      where
        by : (ihu : Option Ihu) → ihu_of tlv ≡ ihu
            → ihus_among beside router destination time (tlv ∷ []) ++ ihus_among beside router destination time tlvs ≡ ihus_among beside router destination time (tlv ∷ tlvs)
        by None is = rw is refl
        by (Some ihu) is = rw is refl

    -- a TLV, and then those behind it
    pub hears_first : (tlv : TlvAt) (tlvs : List TlvAt) (a b c : LinkHearing S) → HearsTlvs (tlv ∷ []) a b → HearsTlvs tlvs b c → HearsTlvs (tlv ∷ tlvs) a c
    hears_first tlv tlvs a b c one two =
        subst (λ (hellos : List (S × Hello)). Hears cmp hellos (ihus_among beside router destination time (tlv ∷ tlvs)) a c) (hellos_first tlv tlvs)
        (subst (λ (ihus : List (IhuFrom S)). Hears cmp (hellos_among router (tlv ∷ []) ++ hellos_among router tlvs) ihus a c) (ihus_first tlv tlvs)
        (hears_then _ _ _ _ a b c one two))

    -- what was heard of TLVs, if those that are left lead to what is heard of all
    abbrev pub HearsRest : (all left : List TlvAt) → (first now : LinkHearing S) → Type 0
    HearsRest all left first now = (end : LinkHearing S) → HearsTlvs left now end → HearsTlvs all first end

    pub hears_next : (all left rest : List TlvAt) (tlv : TlvAt) (first old new : LinkHearing S) → HearsRest all left first old → left ≡ tlv ∷ rest → HearsTlvs (tlv ∷ []) old new
        → HearsRest all rest first new
    hears_next all left rest tlv first old new before is one = λ end more.
        before end (subst (λ (tlvs : List TlvAt). HearsTlvs tlvs old end) (sym is) (hears_first tlv rest old new end one more))

    pub hears_all : (all left : List TlvAt) (first now : LinkHearing S) → HearsRest all left first now → left ≡ [] → HearsTlvs all first now
    hears_all all left first now before none = before now (subst (λ (tlvs : List TlvAt). HearsTlvs tlvs now now) (sym none) (hears_none now))

-- ---- whole packets

-- the TLVs of a body that are all of it, and of one that is not
pub whole_all : (packet : List ℕ) → AreTlvs 0 (body_of packet) (tlvs_of 0 (body_of packet)) → whole_tlvs packet ≡ tlvs_of 0 (body_of packet)
whole_all packet are =
    let tlvs : List TlvAt = tlvs_of 0 (body_of packet) in
    let long : length (flat_map tlv_octets tlvs) ≡ length (body_of packet) = sym (ap length are.whole) in
    let same : eqb (length (flat_map tlv_octets tlvs)) (length (body_of packet)) ≡ true = grind (arith, nat_tests, long) in
    ap (λ (b : Bool). cond b tlvs []) same

read_up_to : (at : ℕ) (tlvs : List TlvAt) (rest : List ℕ) → ArePlaced at tlvs → BeginsNoTlv rest → tlvs_of at (flat_map tlv_octets tlvs ++ rest) ≡ tlvs
read_up_to at [] rest placed stuck = tlvs_of-stuck at rest stuck
read_up_to at (tlv ∷ tlvs) rest placed stuck =
    ap (tlvs_of at) (append_assoc (tlv_octets tlv) (flat_map tlv_octets tlvs) rest)
    ∙ tlvs_of-append at tlv (flat_map tlv_octets tlvs ++ rest) placed.1 placed.0
    ∙ ap (λ (l : List TlvAt). tlv ∷ l) (read_up_to (at + length (tlv_octets tlv)) tlvs rest placed.2 stuck)

not_empty : (rest : List ℕ) → BeginsNoTlv rest → 0 < length rest
not_empty [] stuck = absurd stuck
not_empty (octet ∷ octets) stuck = omega arith

pub whole_none : (packet : List ℕ) (place : ℕ) → HasNoTlvAt 0 (body_of packet) place → whole_tlvs packet ≡ []
whole_none packet place (tlvs, rest, is, placed, stuck, here) =
    let read : tlvs_of 0 (body_of packet) ≡ tlvs = ap (tlvs_of 0) is ∙ read_up_to 0 tlvs rest placed stuck in
    let more : 0 < length rest = not_empty rest stuck in
    let long : length (body_of packet) ≡ length (flat_map tlv_octets tlvs) + length rest = ap length is ∙ length-append (flat_map tlv_octets tlvs) rest in
    let differ : eqb (length (flat_map tlv_octets tlvs)) (length (body_of packet)) ≡ false = grind (arith, nat_tests, more, long) in
    rw read (rw differ refl)

-- ---- what is known of a body that was tried

pub body_all : (packet : List ℕ) → take (length packet - 4) (drop 4 packet) ≡ body_of packet
body_all packet = take_all (length packet - 4) (drop 4 packet) (omega (arith, length-drop 4 packet))

pub none_whole : (packet body : List ℕ) (result : Result (Unit {0}) Fault) → is_err result ≡ true
    → MatchResult result (λ _. AreTlvs 0 body (tlvs_of 0 body)) (λ fault. TlvPastEndAt 0 body fault) → body ≡ body_of packet → whole_tlvs packet ≡ []
none_whole packet body (Ok done) failed tried same = absurd cc
none_whole packet body (Err fault) failed (place, stuck, is) same = whole_none packet place (subst (λ (octets : List ℕ). HasNoTlvAt 0 octets place) same stuck)

pub all_whole : (packet body : List ℕ) (result : Result (Unit {0}) Fault) → is_err result ≡ false
    → MatchResult result (λ _. AreTlvs 0 body (tlvs_of 0 body)) (λ fault. TlvPastEndAt 0 body fault) → body ≡ body_of packet → tlvs_of 0 body ≡ whole_tlvs packet
all_whole packet body (Ok done) failed tried same =
    ap (tlvs_of 0) same ∙ sym (whole_all packet (subst (λ (octets : List ℕ). AreTlvs 0 octets (tlvs_of 0 octets)) same tried))
all_whole packet body (Err fault) failed tried same = absurd cc
