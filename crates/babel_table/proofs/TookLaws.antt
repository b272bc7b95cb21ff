-- TLVs of a packet, taken one by one.
use Rattle.std.proofs.Common.{◌≡◌, ℕ, zero, suc, ◌+◌, ◌≤◌, ltb, Bool, true, false, cond, take, List, [], ◌∷◌, ◌++◌, length, refl, sym, ap, subst, ◌∙◌, append_assoc, inl, inr, arith}
use Rattle.std.specs.Prelude.{Result, Ok, Err, IfErr, OnOk}
use Rattle.std.specs.List.{Contains}
use Rattle.std.proofs.lemmas.List.{append-nil}
use Rattle.std.proofs.lemmas.List.Elements.{Contains-append_right}
use Rattle.babel_tlv.specs.declared.start.Start.{Start}
use Rattle.babel_tlv.specs.declared.event.Event.{Event}
use Rattle.babel_tlv.specs.declared.fault.Fault.{Fault}
use Rattle.babel_tlv.specs.declared.mode.Mode.{Mode}
use Rattle.babel_tlv.specs.Framing.{TlvAt, tlvs_past, tlvs_of}
use Rattle.babel_tlv.specs.Context.{Context, context_after}
use Rattle.babel_tlv.specs.Says.{Saying, refuses, said, sayings_after}
use Rattle.babel_table.specs.DumpFault.{Refuses, RefusedBy}
use Rattle.babel_table.specs.Feeding.{StandsBehind, Fails, TookSome, MayGrowAt, IsRefused, IsLasting, event_at}
use Rattle.babel_table.specs.Rows.{Routes}
use Rattle.babel_table.proofs.FineLaws.{refused_by}

pub record Lasts (r : Result Event Fault) : Type 0 where
  pub lasts : IfErr r IsLasting

either_lasts : (b : Bool) {x y : Result Event Fault} → Lasts x → Lasts y → Lasts (cond b x y)
either_lasts true here there = here
either_lasts false here there = there

event_lasts : {event : Event} → Lasts (Ok event)
event_lasts = record { lasts = tt }

pub said_lasts : (context : Context) (tlv : TlvAt) → Lasts (said context tlv)
said_lasts context tlv = either_lasts (refuses context.via_v6 tlv) (record { lasts = tt }) event_lasts

-- what a TLV refuses the dump for is no want of octets, nor of memory
said-lasting : (context : Context) (tlv : TlvAt) (fault : Fault) → said context tlv ≡ Err fault → IsLasting fault
said-lasting context tlv fault is = subst (λ (r : Result Event Fault). IfErr r IsLasting) is (said_lasts context tlv).lasts

module _ (mode : Mode) (entries : ℕ) (start : Start) (old : Routes) (all : List TlvAt) where
  here_said : (context : Context) (tlv : TlvAt) (some : List TlvAt) (event : Event) → context ≡ context_after start some
      → said context tlv ≡ Ok event → said (context_after start some) tlv ≡ Ok event
  here_said context tlv some event is e = subst (λ (c : Context). said c tlv ≡ Ok event) is e

  abbrev what : TlvAt → Result Event Fault → Saying
  what tlv r = record { at = tlv.at; kind = tlv.kind; body = tlv.body; what = r }

  pub took-next : (now next : Routes) (context after : Context) (tlv : TlvAt) (left : List TlvAt) (event : Event) → TookSome mode entries start old all now context (tlv ∷ left)
      → said context tlv ≡ Ok event → ((earlier : List TlvAt) → context ≡ context_after start earlier → after ≡ context_after start (tlv ∷ earlier))
      → ((before : List Saying) → StandsBehind mode entries now before → StandsBehind mode entries next (before ++ event_at tlv event ∷ []))
      → TookSome mode entries start old all next after left
  took-next now next context after tlv left event some is_said goes takes =
      let here : what tlv (said (context_after start some.earlier) tlv) ≡ event_at tlv event = ap (what tlv) (here_said context tlv some.earlier event some.context_is is_said) in
      record {
        earlier = tlv ∷ some.earlier;
        done = some.done ++ event_at tlv event ∷ [];
        context_is = goes some.earlier some.context_is;
        whole = some.whole ∙ ap (λ (s : Saying). some.done ++ s ∷ sayings_after start (tlv ∷ some.earlier) left) here
            ∙ sym (append_assoc some.done (event_at tlv event ∷ []) (sayings_after start (tlv ∷ some.earlier) left));
        stands = λ before stands. subst (StandsBehind mode entries next) (append_assoc before some.done (event_at tlv event ∷ [])) (takes (before ++ some.done) (some.stands before stands));
      }

  -- the TLV refuses the dump
  pub took-refused : (now : Routes) (context : Context) (tlv : TlvAt) (left : List TlvAt) (fault : Fault) → TookSome mode entries start old all now context (tlv ∷ left)
      → said context tlv ≡ Err fault → Fails mode entries (sayings_after start [] all) old fault
  took-refused now context tlv left fault some is_said =
      let here : said (context_after start some.earlier) tlv ≡ Err fault = subst (λ (c : Context). said c tlv ≡ Err fault) some.context_is is_said in
      let one : Saying = what tlv (said (context_after start some.earlier) tlv) in
      let rest : List Saying = sayings_after start (tlv ∷ some.earlier) left in
      let whole : sayings_after start [] all ≡ some.done ++ (one ∷ rest) = some.whole in
      inl (
        said-lasting (context_after start some.earlier) tlv fault here,
        λ before later stands.
            subst (λ (s : List Saying). RefusedBy mode entries s fault)
            (append_assoc before some.done (one ∷ rest ++ later)
            ∙ ap (λ (s : List Saying). before ++ s) (sym (append_assoc some.done (one ∷ rest) later))
            ∙ ap (λ (s : List Saying). before ++ (s ++ later)) (sym whole) ∙ sym (append_assoc before (sayings_after start [] all) later))
            (refused_by mode entries now (before ++ some.done) one (rest ++ later) fault (some.stands before stands)
            (λ events are. subst (λ (r : Result Event Fault). Refuses mode entries events tlv.at r fault) (sym here) refl)),
      )

  -- there would be too many rows, or there is no memory
  pub took-failed : (now : Routes) (context : Context) (tlv : TlvAt) (left : List TlvAt) (event : Event) (fault : Fault) → TookSome mode entries start old all now context (tlv ∷ left)
      → said context tlv ≡ Ok event → IsRefused mode entries tlv.at event now.rows fault → Fails mode entries (sayings_after start [] all) old fault
  took-failed now context tlv left event fault some is_said (inl (is, over)) =
      let here : said (context_after start some.earlier) tlv ≡ Ok event = here_said context tlv some.earlier event some.context_is is_said in
      let one : Saying = what tlv (said (context_after start some.earlier) tlv) in
      let rest : List Saying = sayings_after start (tlv ∷ some.earlier) left in
      let whole : sayings_after start [] all ≡ some.done ++ (one ∷ rest) = some.whole in
      inl (
        subst IsLasting (sym is) tt,
        λ before later stands.
            subst (λ (s : List Saying). RefusedBy mode entries s fault)
            (append_assoc before some.done (one ∷ rest ++ later)
            ∙ ap (λ (s : List Saying). before ++ s) (sym (append_assoc some.done (one ∷ rest) later))
            ∙ ap (λ (s : List Saying). before ++ (s ++ later)) (sym whole) ∙ sym (append_assoc before (sayings_after start [] all) later))
            (refused_by mode entries now (before ++ some.done) one (rest ++ later) fault (some.stands before stands)
            (λ events are. subst (λ (r : Result Event Fault). Refuses mode entries events tlv.at r fault) (sym here) (is, over events are))),
      )
  took-failed now context tlv left event fault some is_said (inr (memory, grow)) =
      let here : said (context_after start some.earlier) tlv ≡ Ok event = here_said context tlv some.earlier event some.context_is is_said in
      let one : Saying = what tlv (said (context_after start some.earlier) tlv) in
      let rest : List Saying = sayings_after start (tlv ∷ some.earlier) left in
      let whole : sayings_after start [] all ≡ some.done ++ (one ∷ rest) = some.whole in
      inr (
        memory,
        (
          one,
          subst (λ (s : List Saying). Contains s one) (sym whole) (Contains-append_right some.done (one ∷ rest) one (0, omega arith, refl)),
          subst (λ (r : Result Event Fault). MayGrowAt mode r) (sym here) grow,
        ),
      )

-- a body has at most as many TLVs as octets
pub length-tlvs_past : (past at : ℕ) (octets : List ℕ) → length (tlvs_past past at octets) ≤ length octets
length-tlvs_past (suc past) at [] = omega arith
length-tlvs_past (suc past) at (x ∷ octets) = (let le = length-tlvs_past past at octets in omega (arith, le))
length-tlvs_past zero at [] = omega arith
length-tlvs_past zero at (zero ∷ octets) = (let le = length-tlvs_past zero (at + 1) octets in omega (arith, le))
length-tlvs_past zero at (suc kind ∷ []) = omega arith
length-tlvs_past zero at (suc kind ∷ len ∷ octets) = by (ltb (length octets) len) (length-tlvs_past len (at + (2 + len)) octets)
  where
    by : (b : Bool) → length (tlvs_past len (at + (2 + len)) octets) ≤ length octets
        → length (cond b [] (record { at = at; kind = suc kind; body = take len octets } ∷ tlvs_past len (at + (2 + len)) octets)) ≤ suc (suc (length octets))
    by true le = omega arith
    by false le = omega arith

pub length-tlvs_of : (at : ℕ) (octets : List ℕ) → length (tlvs_of at octets) ≤ length octets
length-tlvs_of at octets = length-tlvs_past 0 at octets

-- ---- the same as the code meets them

module _ (mode : Mode) (entries : ℕ) (now next : Routes) (context after : Context) (tlv : TlvAt) where
  pub tlv-taken : {T : Type 0} (event : Event) (taken : Result T Fault) → Ok event ≡ said context tlv
      → ((start : Start) (earlier : List TlvAt) → context ≡ context_after start earlier → after ≡ context_after start (tlv ∷ earlier))
      → OnOk taken ((before : List Saying) → StandsBehind mode entries now before → StandsBehind mode entries next (before ++ event_at tlv event ∷ []))
      → OnOk taken ((start : Start) (old : Routes) (all left : List TlvAt) → TookSome mode entries start old all now context (tlv ∷ left) → TookSome mode entries start old all next after left)
  tlv-taken event (Ok x) is_said goes takes = λ start old all left some. took-next mode entries start old all now next context after tlv left event some (sym is_said) (goes start) takes
  tlv-taken event (Err fault) is_said goes takes = tt

  pub tlv-failed : {T : Type 0} (event : Event) (taken : Result T Fault) → Ok event ≡ said context tlv → IfErr taken (IsRefused mode entries tlv.at event now.rows)
      → IfErr taken (λ fault. (start : Start) (old : Routes) (all left : List TlvAt) → TookSome mode entries start old all now context
      (tlv ∷ left) → Fails mode entries (sayings_after start [] all) old fault)
  tlv-failed event (Ok x) is_said refused = tt
  tlv-failed event (Err fault) is_said refused = λ start old all left some. took-failed mode entries start old all now context tlv left event fault some (sym is_said) refused

-- a TLV is the next of its packet, at the mode and the limit of the packet's start
module _ (mode m : Mode) (entries e : ℕ) (is_m : m ≡ mode) (is_e : e ≡ entries) (start : Start) (old : Routes) (all : List TlvAt) (now : Routes)
    (context : Context) (tlv : TlvAt) (all_left left : List TlvAt) (is_left : all_left ≡ tlv ∷ left) where
  here : TookSome mode entries start old all now context all_left → TookSome m e start old all now context (tlv ∷ left)
  here some = subst (λ (o : Mode). TookSome o e start old all now context (tlv ∷ left)) (sym is_m)
      (subst (λ (n : ℕ). TookSome mode n start old all now context (tlv ∷ left)) (sym is_e) (subst (λ (l : List TlvAt). TookSome mode entries start old all now context l) is_left some))

  pub body-failed : (fault : Fault) → TookSome mode entries start old all now context all_left
      → (TookSome m e start old all now context (tlv ∷ left) → Fails m e (sayings_after start [] all) old fault)
      → Fails mode entries (sayings_after start [] all) old fault
  body-failed fault some fails =
      subst (λ (o : Mode). Fails o entries (sayings_after start [] all) old fault) is_m (subst (λ (n : ℕ). Fails m n (sayings_after start [] all) old fault) is_e (fails (here some)))

  pub body-taken : (next : Routes) (after : Context) → TookSome mode entries start old all now context all_left
      → (TookSome m e start old all now context (tlv ∷ left) → TookSome m e start old all next after left)
      → TookSome mode entries start old all next after left
  body-taken next after some takes =
      subst (λ (o : Mode). TookSome o entries start old all next after left) is_m (subst (λ (n : ℕ). TookSome m n start old all next after left) is_e (takes (here some)))

pub took-start : (mode : Mode) (entries : ℕ) (start : Start) (old : Routes) (all : List TlvAt) (context : Context) (left : List TlvAt) → context ≡ context_after start [] → left ≡ all
    → TookSome mode entries start old all old context left
took-start mode entries start old all context left is_context is_left = record {
  earlier = [];
  done = [];
  context_is = is_context;
  whole = ap (λ (l : List TlvAt). sayings_after start [] l) (sym is_left);
  stands = λ before stands. subst (StandsBehind mode entries old) (sym (append-nil before)) stands;
}
