-- A packet is refused at a TLV, and what changed by those before it is told.
use Rattle.std.proofs.Common.{◌≡◌, ◌⊎◌, ℕ, ◌+◌, List, [], ◌∷◌, ◌++◌, Option, Result, Err, Ok, inl, inr, refl, sym, ap, subst, ◌∙◌, append_assoc}
use Rattle.std.specs.Prelude.{IfErr, fold}
use Rattle.std.specs.declared.cmp.Ordering.{Ordering}
use Rattle.std.specs.Cmp.{IsTotalOrder}
use Rattle.std.proofs.lemmas.List.{append-nil, map-append}
use Rattle.std.proofs.lemmas.List.Sums.{fold-append}
use Rattle.std.proofs.lemmas.Map.Lookups.{CmpEqualImpliesEq}
use Rattle.babel_tlv.specs.declared.event.Event.{Event}
use Rattle.babel_tlv.specs.declared.fault.Fault.{Fault}
use Rattle.babel_tlv.specs.declared.start.Start.{Start}
use Rattle.babel_tlv.specs.declared.view.View.{View}
use Rattle.babel_tlv.specs.Context.{Context, first_context, updated}
use Rattle.babel_tlv.specs.FrameFaults.{BeginsPacket, TlvPastEndAt}
use Rattle.babel_tlv.specs.Framing.{TlvAt, tlvs_of}
use Rattle.babel_tlv.specs.Says.{said as said_at}
use Rattle.babel_table.specs.Moments.{Told, told_at, told_from}
use Rattle.babel_timeline.specs.declared.telling.Telling.{Telling}
use Rattle.babel_timeline.specs.Accounts.{Said}
use Rattle.babel_timeline.specs.Refusing.{RefusesBehind, RefusesEvent, RefusesPacket, RefusesTlv, RefusesTlvs, context_behind}
use Rattle.babel_timeline.specs.Rows.{AllLast, Held, Rows}
use Rattle.babel_timeline.specs.Telling.{AskedFor, Tells, TellsEnds, of_rows, said_of}
use Rattle.babel_timeline.proofs.SilenceTold.{tells_of_rows}
use Rattle.babel_timeline.proofs.TellingLaws.{ends_tell, is_told-no, tells_then}

pub if_err_so : {T E : Type 0} {P Q : E → Type 0} (r : Result T E) → ((y : E) → P y → Q y) → IfErr r P → IfErr r Q
if_err_so (Ok x) leads holds = tt
if_err_so (Err y) leads holds = leads y holds

told_more : (time : ℕ) (context : Context) (front : List TlvAt) (tlv : TlvAt) → told_from time context (front ++ tlv ∷ []) ≡ told_from time context front ++ told_at time (fold updated context front) tlv ∷ []
told_more time context [] tlv = refl
told_more time context (one ∷ front) tlv = ap (λ (t : List Told). told_at time context one ∷ t) (told_more time (updated context one) front tlv)

-- these TLVs are left of all, and what changes by those before them is told
pub record TakenTo {S : Type 0} (cmp : S → S → Ordering) (factor : Option ℕ) (asked : AskedFor) (view : View) (sender : S) (time : ℕ) (start : Start) (all : List TlvAt) (rows : Rows S)
    (old : List (Telling S)) (context : Context) (tlvs : List TlvAt) (now : Rows S) (so_far : List (Telling S)) : Type 0 where
  pub front : List TlvAt
  pub parts : all ≡ front ++ tlvs
  pub context_is : context ≡ context_behind start front
  pub leads : (more : List (Said S)) (after : Rows S) (new : List (Telling S)) → Tells cmp factor asked more time now after so_far new
      → Tells cmp factor asked (said_of asked view sender (told_from time (first_context start) front) ++ more) time rows after old new

module _ {S : Type 0} (cmp : S → S → Ordering) (total : IsTotalOrder cmp) (exact : CmpEqualImpliesEq cmp) (factor : Option ℕ) (asked : AskedFor) where
  module _ (view : View) (sender : S) (time : ℕ) (start : Start) (all : List TlvAt) (rows : Rows S) (old : List (Telling S)) where
    abbrev says_so : List TlvAt → List (Said S)
    says_so front = said_of asked view sender (told_from time (first_context start) front)

    pub taken-begin : (context : Context) (tlvs : List TlvAt) → context ≡ first_context start → tlvs ≡ all → TakenTo cmp factor asked view sender time start all rows old context tlvs rows old
    taken-begin context tlvs is same = record { front = []; parts = sym same; context_is = is; leads = λ more after new tells. tells }

    pub taken-next : (context next_context : Context) (tlv : TlvAt) (tlvs rest : List TlvAt) (now next : Rows S) (so_far later : List (Telling S)) → tlvs ≡ tlv ∷ rest → next_context ≡ updated context tlv
        → Tells cmp factor asked (said_of asked view sender (told_at time context tlv ∷ [])) time now next so_far later → TakenTo cmp factor asked view sender time start all rows old context tlvs now so_far
        → TakenTo cmp factor asked view sender time start all rows old next_context rest next later
    taken-next context next_context tlv tlvs rest now next so_far later is goes tells to =
        let here : List (Said S) = said_of asked view sender (told_at time context tlv ∷ []) in
        let more_said : says_so (to.front ++ tlv ∷ []) ≡ says_so to.front ++ here =
        ap (said_of asked view sender) (told_more time (first_context start) to.front tlv)
        ∙ map-append _ (told_from time (first_context start) to.front) (told_at time (context_behind start to.front) tlv ∷ [])
        ∙ ap (λ (c : Context). says_so to.front ++ said_of asked view sender (told_at time c tlv ∷ [])) (sym to.context_is) in
        record {
          front = to.front ++ tlv ∷ [];
          parts = to.parts ∙ ap (λ (t : List TlvAt). to.front ++ t) is ∙ sym (append_assoc to.front (tlv ∷ []) rest);
          context_is = goes ∙ ap (λ (c : Context). updated c tlv) to.context_is ∙ sym (fold-append updated (first_context start) to.front (tlv ∷ []));
          leads = λ more after new last.
              subst (λ (s : List (Said S)). Tells cmp factor asked s time rows after old new)
              (sym (append_assoc (says_so to.front) here more) ∙ ap (λ (s : List (Said S)). s ++ more) (sym more_said))
              (to.leads (here ++ more) after new (tells_then cmp total exact factor asked here more time now next after so_far later new tells last));
        }

    pub taken-refused : (limit its_limit : ℕ) (its_factor : Option ℕ) (context : Context) (tlv : TlvAt) (tlvs rest : List TlvAt) (now after : Rows S) (so_far new : List (Telling S)) (fault : Fault)
        → tlvs ≡ tlv ∷ rest → TakenTo cmp factor asked view sender time start all rows old context tlvs now so_far → (its_factor ≡ factor) × (its_limit ≡ limit)
        → Tells cmp its_factor asked [] time now after so_far new × RefusesTlv cmp its_limit asked sender after tlv.at (said_at context tlv) fault
        → RefusesTlvs cmp limit asked sender factor view start time all rows after old new fault
    taken-refused limit its_limit its_factor context tlv tlvs rest now after so_far new fault is to same refused = record {
      front = to.front;
      tells = subst (λ (s : List (Said S)). Tells cmp factor asked s time rows after old new) (append-nil (says_so to.front))
          (to.leads [] after new (subst (λ (f : Option ℕ). Tells cmp f asked [] time now after so_far new) same.0 refused.0));
      next = record {
        tlv = tlv;
        back = rest;
        are = to.parts ∙ ap (λ (t : List TlvAt). to.front ++ t) is;
        refused = subst (λ (c : Context). RefusesTlv cmp limit asked sender after tlv.at (said_at c tlv) fault) to.context_is
            (subst (λ (n : ℕ). RefusesTlv cmp n asked sender after tlv.at (said_at context tlv) fault) same.1 refused.1);
      };
    }

  -- where all has expired that does by then, nothing is told besides
  pub nothing_tells : (time : ℕ) (rows : Rows S) (old : List (Telling S)) → AllLast cmp factor time rows → Tells cmp factor asked [] time rows rows old old
  nothing_tells time rows old last =
      ends_tell cmp total exact factor asked time rows rows old old (record { changes = []; ends = (refl, last); told = is_told-no cmp total exact factor asked asked rows old })

  -- what a TLV says is a fault
  pub said_refused : (limit : ℕ) (sender : S) (rows : Rows S) (at : ℕ) (what : Result Event Fault) (fault : Fault) → Err fault ≡ what → RefusesTlv cmp limit asked sender rows at what fault
  said_refused limit sender rows at what fault is = subst (λ (w : Result Event Fault). RefusesTlv cmp limit asked sender rows at w fault) is refl

  -- what a TLV says is refused, once what has expired was told
  pub taken_refused : (limit its_limit : ℕ) (sender : S) (time : ℕ) (rows : Rows S) (mid after : Held S) (old ended later : List (Telling S)) (at : ℕ) (what : Result Event Fault) (event : Event) (fault : Fault)
      → TellsEnds cmp factor asked time rows mid.rows old ended → its_limit ≡ limit → Ok event ≡ what → RefusesEvent cmp its_limit asked sender mid after ended later at event fault
      → Tells cmp factor asked [] time rows after.rows old later × RefusesTlv cmp limit asked sender after.rows at what fault
  taken_refused limit its_limit sender time rows mid after old ended later at what event fault ends its is refused = (
    subst (λ (h : Held S). Tells cmp factor asked [] time rows h.rows old later) (sym refused.0)
        (subst (λ (t : List (Telling S)). Tells cmp factor asked [] time rows mid.rows old t) (sym refused.1) (ends_tell cmp total exact factor asked time rows mid.rows old ended ends)),
    subst (λ (h : Held S). RefusesTlv cmp limit asked sender h.rows at what fault) (sym refused.0)
        (subst (λ (w : Result Event Fault). RefusesTlv cmp limit asked sender mid.rows at w fault) is
        (subst (λ (n : ℕ). RefusesTlv cmp n asked sender mid.rows at (Ok event) fault) its refused.2)),
  )

  -- what ends by the time of a packet is told before it
  pub refuses_then : (limit : ℕ) (view : View) (sender : S) (start : Start) (time at tlvs : ℕ) (packet : List ℕ) (rows mid after : Rows S) (a b c : List (Telling S)) (fault : Fault)
      → TellsEnds cmp factor asked time rows mid (of_rows asked a) (of_rows asked b) → RefusesPacket cmp limit asked sender factor view start time at tlvs packet mid after b c fault
      → RefusesPacket cmp limit asked sender factor view start time at tlvs packet rows after (of_rows asked a) (of_rows asked c) fault
  refuses_then limit view sender start time at tlvs packet rows mid after a b c fault ends refuses = record {
    front = refuses.front;
    tells = tells_then cmp total exact factor asked [] _ time rows mid after (of_rows asked a) (of_rows asked b) (of_rows asked c)
        (ends_tell cmp total exact factor asked time rows mid (of_rows asked a) (of_rows asked b) ends) (tells_of_rows cmp factor asked _ time mid after b c refuses.tells);
    cause = refuses.cause;
  }

  -- a packet that begins so far, of whose TLVs none was taken
  pub untaken : (limit : ℕ) (view : View) (sender : S) (start : Start) (time at tlvs : ℕ) (packet : List ℕ) (rows : Rows S) (old : List (Telling S)) (fault : Fault) → AllLast cmp factor time rows
      → RefusesBehind cmp limit asked sender start at tlvs packet [] rows fault → RefusesPacket cmp limit asked sender factor view start time at tlvs packet rows rows old old fault
  untaken limit view sender start time at tlvs packet rows old fault last cause = record { front = []; tells = nothing_tells time rows old last; cause = cause }

  -- the body of a packet has the fault
  pub body_refused : (limit : ℕ) (view : View) (sender : S) (start : Start) (time at tlvs : ℕ) (packet body : List ℕ) (held after : Held S) (old new : List (Telling S)) (fault : Fault) → AllLast cmp factor time held.rows
      → BeginsPacket packet body
      → ((after ≡ held) × (new ≡ old) × TlvPastEndAt (at + 4) body fault) ⊎ RefusesTlvs cmp limit asked sender factor view start time (tlvs_of (at + 4) body) held.rows after.rows old new fault
      → RefusesPacket cmp limit asked sender factor view start time at tlvs packet held.rows after.rows old new fault
  body_refused limit view sender start time at tlvs packet body held after old new fault last begins (inl past) =
      subst (λ (h : Held S). RefusesPacket cmp limit asked sender factor view start time at tlvs packet held.rows h.rows old new fault) (sym past.0)
      (subst (λ (t : List (Telling S)). RefusesPacket cmp limit asked sender factor view start time at tlvs packet held.rows held.rows old t fault) (sym past.1)
      (untaken limit view sender start time at tlvs packet held.rows old fault last (inr (inl (refl, inr (inr (body, begins, past.2)))))))
  body_refused limit view sender start time at tlvs packet body held after old new fault last begins (inr refuses) =
      record { front = refuses.front; tells = refuses.tells; cause = inr (inr (body, begins, refuses.next)) }
