-- What is kept after some TLVs of a packet, and what those that are left announce.
use Rattle.std.proofs.Common.{◌≡◌, ℕ, List, [], ◌∷◌, ◌++◌, Result, Ok, Err, OnOk, refl, sym, ap, subst, ◌∙◌, append_assoc, append-nil}
use Rattle.babel_tlv.specs.Context.{Context, context_after, updated}
use Rattle.babel_tlv.specs.Framing.{TlvAt}
use Rattle.babel_tlv.specs.Says.{said}
use Rattle.babel_tlv.specs.Route.{Announcement, RouteKey}
use Rattle.babel_tlv.specs.declared.event.Event.{Event}
use Rattle.babel_tlv.specs.declared.event.Event.TheVariants as events
use Rattle.babel_tlv.specs.declared.fault.Fault.{Fault}
use Rattle.babel_tlv.specs.declared.start.Start.{Start}
use Rattle.babel_selection.specs.declared.distance.Distance.{Distance}
use Rattle.babel_selection.specs.declared.source.Source.{Source}
use Rattle.babel_selection.specs.Announcing.{AreDistances, TakesUpdate}
use Rattle.babel_selection.specs.Distances.{OwnUpdate, source_of}
use Rattle.babel_selection.specs.OwnUpdates.{update_of, updates_in, updates_on}
use Rattle.babel_selection.proofs.SourceLaws.{update_keeps_distances}

-- with what is left it is all
pub record IsSoFar (before all : List OwnUpdate) (now : List (Source × Distance)) (left : List OwnUpdate) : Type 0 where
  pub so_far : List OwnUpdate
  pub are : AreDistances so_far now
  pub whole : so_far ++ left ≡ before ++ all

pub record HasHeard (start : Start) (time : ℕ) (all : List OwnUpdate) (first now : List (Source × Distance)) (state : Context) (left : List TlvAt) : Type 0 where
  pub earlier : List TlvAt
  pub context_is : state ≡ context_after start earlier
  pub heard : (before : List OwnUpdate) → AreDistances before first → IsSoFar before all now (updates_in state time left)

pub begins : (start : Start) (time : ℕ) (entries : List (Source × Distance)) (state : Context) (tlvs left : List TlvAt)
    → state ≡ context_after start [] → left ≡ tlvs
    → HasHeard start time (updates_in (context_after start []) time tlvs) entries entries state left
begins start time entries state tlvs left is none = record {
  earlier = [];
  context_is = is;
  heard = λ before are. record {
    so_far = before;
    are = are;
    whole = ap (λ (c : Context). before ++ updates_in c time left) is ∙ ap (λ (l : List TlvAt). before ++ updates_in (context_after start []) time l) none;
  };
}

one_more : (context : Context) (time : ℕ) (tlv : TlvAt) (tlvs : List TlvAt)
    → updates_in context time (tlv ∷ tlvs) ≡ updates_on time (said context tlv) (updates_in (updated context tlv) time tlvs)
unfolding updates_in
one_more context time tlv tlvs = refl

pub none_left : (context : Context) (time : ℕ) → updates_in context time [] ≡ []
unfolding updates_in
none_left context time = refl

pub goes_on : (start : Start) (time : ℕ) (all : List OwnUpdate) (first now next : List (Source × Distance)) (state after : Context)
    (tlv : TlvAt) (left rest : List TlvAt) (event : Event)
    → left ≡ tlv ∷ rest
    → (let result : Result Event Fault = Ok event in result) ≡ said state tlv
    → ((start : Start) (earlier : List TlvAt) → state ≡ context_after start earlier → after ≡ context_after start (tlv ∷ earlier))
    → ((before : List OwnUpdate) → AreDistances before now → AreDistances (before ++ update_of time event) next)
    → HasHeard start time all first now state left → HasHeard start time all first next after rest
goes_on start time all first now next state after tlv left rest event left_is says moves hears has = record {
  earlier = tlv ∷ has.earlier;
  context_is = moves start has.earlier has.context_is;
  heard = λ before are.
      let old = has.heard before are in
      let moved : after ≡ updated state tlv = moves start has.earlier has.context_is ∙ ap (λ (c : Context). updated c tlv) (sym has.context_is) in
      record {
        so_far = old.so_far ++ update_of time event;
        are = hears old.so_far old.are;
        whole = append_assoc old.so_far (update_of time event) (updates_in after time rest)
            ∙ ap (λ (c : Context). old.so_far ++ (update_of time event ++ updates_in c time rest)) moved
            ∙ ap (λ (r : Result Event Fault). old.so_far ++ updates_on time r (updates_in (updated state tlv) time rest)) says
            ∙ ap (λ (l : List OwnUpdate). old.so_far ++ l) (sym (one_more state time tlv rest))
            ∙ ap (λ (l : List TlvAt). old.so_far ++ updates_in state time l) (sym left_is)
            ∙ old.whole;
      };
}

pub ends : (start : Start) (time : ℕ) (all : List OwnUpdate) (first now : List (Source × Distance)) (state : Context) (left : List TlvAt)
    → left ≡ [] → HasHeard start time all first now state left
    → (before : List OwnUpdate) → AreDistances before first → AreDistances (before ++ all) now
ends start time all first now state left none has before are =
    let last = has.heard before are in
    let whole : last.so_far ≡ before ++ all =
    sym (append-nil last.so_far)
    ∙ ap (λ (l : List OwnUpdate). last.so_far ++ l) (sym (none_left state time))
    ∙ ap (λ (l : List TlvAt). last.so_far ++ updates_in state time l) (sym none)
    ∙ last.whole in
    subst (λ (l : List OwnUpdate). AreDistances l now) whole last.are

pub on_ok_at : {T E P : Type 0} (r : Result T E) (t : T) → r ≡ Ok t → OnOk r P → P
on_ok_at {T} {E} {P} r t is holds = subst (λ (x : Result T E). OnOk x P) is holds

-- a TLV that refuses the packet leaves none
pub ends_refused : (start : Start) (time : ℕ) (all : List OwnUpdate) (first now : List (Source × Distance)) (state : Context) (tlv : TlvAt) (left rest : List TlvAt) (fault : Fault)
    → left ≡ tlv ∷ rest → (let result : Result Event Fault = Err fault in result) ≡ said state tlv → HasHeard start time all first now state left
    → (before : List OwnUpdate) → AreDistances before first → AreDistances (before ++ all) now
ends_refused start time all first now state tlv left rest fault left_is says has before are =
    let last = has.heard before are in
    let whole : last.so_far ≡ before ++ all =
    sym (append-nil last.so_far)
    ∙ ap (λ (r : Result Event Fault). last.so_far ++ updates_on time r (updates_in (updated state tlv) time rest)) says
    ∙ ap (λ (l : List OwnUpdate). last.so_far ++ l) (sym (one_more state time tlv rest))
    ∙ ap (λ (l : List TlvAt). last.so_far ++ updates_in state time l) (sym left_is)
    ∙ last.whole in
    subst (λ (l : List OwnUpdate). AreDistances l now) whole last.are

on_ok : {T E : Type 0} (r : Result T E) (P Q : Type 0) → (P → Q) → OnOk r P → OnOk r Q
on_ok (Ok x) P Q follows p = follows p
on_ok (Err e) P Q follows p = tt

pub heard_one : {T E : Type 0} (time : ℕ) (key : RouteKey) (ann : Announcement) (event : Event) (old new : List (Source × Distance)) (r : Result T E)
    → event ≡ events.Announce key ann
    → OnOk r (TakesUpdate time (source_of key ann) ann old new)
    → OnOk r ((before : List OwnUpdate) → AreDistances before old → AreDistances (before ++ update_of time event) new)
heard_one time key ann event old new r is takes =
    on_ok r (TakesUpdate time (source_of key ann) ann old new)
    ((before : List OwnUpdate) → AreDistances before old → AreDistances (before ++ update_of time event) new)
    (λ one before are. subst (λ (e : Event). AreDistances (before ++ update_of time e) new) (sym is)
    (update_keeps_distances before (record { key = key; ann = ann; time = time }) old new are one))
    takes
