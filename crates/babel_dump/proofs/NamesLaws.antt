-- What lines of names give, one line more at a time.
use Rattle.std.proofs.Common.{◌≡◌, ◌≢◌, ◌↔◌, ◌⊎◌, inl, inr, refl, zero, suc, lit<, Bor, ℕ, ◌+◌, ◌<◌, ◌≤◌, Bool, true, false, not}
use Rattle.std.proofs.Common.{cond, List, [], ◌∷◌, ◌++◌, length, map, take, drop, get_or, Option, None, Some, ap, sym, subst, ◌∙◌, add-one, append-nil, arith}
use Rattle.std.specs.Prelude.{Result, Ok, Err, IfErr, IfOk, OnOk, IsSome, is_none}
use Rattle.std.specs.declared.alloc.AllocError.{AllocError}
use Rattle.std.specs.BTreeMap.{get, is_at}
use Rattle.std.specs.Cmp.Lexicographic.{slice_cmp}
use Rattle.std.specs.List.{AllZip, Contains}
use Rattle.std.specs.Option.{option_map}
use Rattle.std.specs.Ordering.{nat_cmp}
use Rattle.std.specs.declared.cmp.Ordering.{Ordering}
use Rattle.std.proofs.Math.Seq.{split_at, take-suc}
use Rattle.std.proofs.lemmas.Cmp.{nat_list_cmp_total, tied_itself}
use Rattle.std.proofs.lemmas.List.{get_or-map, length-map, length-take-le, map-append}
use Rattle.std.proofs.lemmas.List.Elements.{Contains-append_cases, Contains-append_left, Contains-append_right, Contains-get_or, filter-append}
use Rattle.std.proofs.lemmas.List.Quantifiers.{all_pairs_push}
use Rattle.std.proofs.lemmas.Map.Lookups.{exact_bytes}
use Rattle.babel_prefix.specs.Address.{Address}
use Rattle.babel_prefix.specs.Order.{address_cmp}
use Rattle.babel_prefix.specs.contracts.addr.AddrOrd.TheImpl.{ghosts}
use Rattle.babel_prefix.proofs.Insertion.{equal_of}
use Rattle.babel_prefix.proofs.OrderLaws.{address_equality}
use Rattle.babel_prefix.proofs.TextLaws.{one_address}
use Rattle.babel_dump.specs.AskedPairs.{asking, is_passed_over, lines_of, words_of}
use Rattle.babel_dump.specs.Each.{GaveText}
use Rattle.babel_dump.specs.Given.{Input}
use Rattle.babel_dump.specs.NamesRead.{AreNamed, GaveNames, HasNone, HasOneMore, InsertsName, IsFaultOfNames, IsFirstUnnamed, IsNamed, NamesCause, PutsName, SaysName, TakesWords, given_to}
use Rattle.babel_dump.specs.declared.name.Name.{Name}
use Rattle.babel_dump.proofs.SummaryLaws.{hop_order}
use Rattle.babel_dump.specs.declared.named.Named.{Named}
use Rattle.babel_dump.specs.declared.named.Named.TheVariants as nameds
use Rattle.babel_dump.specs.declared.names.Names.{Names}
use Rattle.babel_dump.specs.declared.names_fault.NamesFault.{NamesFault}
use Rattle.babel_dump.specs.declared.names_fault.NamesFault.TheVariants as names_faults

-- ---- a name more

abbrev octets_in : Option Name → Option (List ℕ)
octets_in found = option_map (λ (name : Name). name.octets.items) found

one_more : (is_it : Bool) (was now : Option Name) (name : Name) (its : List ℕ) → now ≡ cond is_it (Some name) was → (is_it ≡ true → was ≡ None)
    → (octets_in now ≡ Some its) ↔ (((is_it ≡ true) × (its ≡ name.octets.items)) ⊎ (octets_in was ≡ Some its))
one_more true was now name its is none = (
  λ h. let same : name.octets.items ≡ its = cc (rw is at h) in inl (refl, sym same),
  λ h. elim h [ inl same ↦ rw is (ap Some (sym same.1)) | inr before ↦ absurd (cc (rw (none refl) at before)) ],
)
one_more false was now name its is none = (
  λ h. inr (rw is at h),
  λ h. elim h [ inl same ↦ absurd (cc (same.0)) | inr before ↦ rw is before ],
)

one_by : (A B C D : Type 0) → A ↔ ((B × C) ⊎ D) → {E : Type 0} → B ↔ E → A ↔ ((E × C) ⊎ D)
one_by A B C D is same = (
  λ h. elim (is.0 h) [ inl one ↦ inl (same.0 one.0, one.1) | inr before ↦ inr before ],
  λ h. is.1 (elim h [ inl one ↦ inl (same.1 one.0, one.1) | inr before ↦ inr before ]),
)

pub one_address_more : (before after : Names) (addr : Address) (name : Name) → get address_cmp before.addresses addr ≡ None
    → ((q : Address) → get address_cmp after.addresses q ≡ cond (is_at (address_cmp addr) q) (Some name) (get address_cmp before.addresses q)) → after.routers ≡ before.routers
    → HasOneMore before (nameds.Address addr) name.octets.items after
one_address_more before after addr name none put same = record {
  had_none = rw none refl;
  gives = gives;
}
  where
    named_so : (q : Address) → (is_at (address_cmp addr) q ≡ true) ↔ (nameds.Address q ≡ nameds.Address addr)
    named_so q = (
      λ at. ap nameds.Address (sym ((address_equality addr q).0 (equal_of (address_cmp addr q) at))),
      λ same. let one : q ≡ addr = cc in rw one (rw ((address_equality addr addr).1 refl) refl),
    )

    gives : (other : Named) (its : List ℕ) → (given_to after other ≡ Some its) ↔ (((other ≡ nameds.Address addr) × (its ≡ name.octets.items)) ⊎ (given_to before other ≡ Some its))
    gives (nameds.Router id) its = (λ h. inr (rw same at h), λ h. elim h [ inl one ↦ absurd (cc (one.0)) | inr was ↦ rw same was ])
    gives (nameds.Address q) its =
        one_by _ _ _ _ (one_more (is_at (address_cmp addr) q) (get address_cmp before.addresses q) (get address_cmp after.addresses q) name its (put q)
        (λ at. subst (λ a. get address_cmp before.addresses a ≡ None) ((address_equality addr q).0 (equal_of (address_cmp addr q) at)) none)) (named_so q)

pub one_router_more : (before after : Names) (id : List ℕ) (name : Name) → get (slice_cmp nat_cmp) before.routers id ≡ None
    → ((q : List ℕ) → get (slice_cmp nat_cmp) after.routers q ≡ cond (is_at (slice_cmp nat_cmp id) q) (Some name) (get (slice_cmp nat_cmp) before.routers q))
    → after.addresses ≡ before.addresses → HasOneMore before (nameds.Router id) name.octets.items after
one_router_more before after id name none put same = record {
  had_none = rw none refl;
  gives = gives;
}
  where
    named_so : (q : List ℕ) → (is_at (slice_cmp nat_cmp id) q ≡ true) ↔ (nameds.Router q ≡ nameds.Router id)
    named_so q = (
      λ at. ap nameds.Router (sym (exact_bytes id q (equal_of (slice_cmp nat_cmp id q) at))),
      λ same. let one : q ≡ id = cc in rw one (rw (tied_itself nat_list_cmp_total id) refl),
    )

    gives : (other : Named) (its : List ℕ) → (given_to after other ≡ Some its) ↔ (((other ≡ nameds.Router id) × (its ≡ name.octets.items)) ⊎ (given_to before other ≡ Some its))
    gives (nameds.Address addr) its = (λ h. inr (rw same at h), λ h. elim h [ inl one ↦ absurd (cc (one.0)) | inr was ↦ rw same was ])
    gives (nameds.Router q) its =
        one_by _ _ _ _ (one_more (is_at (slice_cmp nat_cmp id) q) (get (slice_cmp nat_cmp) before.routers q) (get (slice_cmp nat_cmp) after.routers q) name its (put q)
        (λ at. subst (λ a. get (slice_cmp nat_cmp) before.routers a ≡ None) (exact_bytes id q (equal_of (slice_cmp nat_cmp id q) at)) none)) (named_so q)

inserts_address : (before after : Names) (addr : Address) (name : Name) (old : Option Name) (is_new : Bool) → old ≡ get address_cmp before.addresses addr → is_new ≡ is_none old
    → ((q : Address) → get address_cmp after.addresses q ≡ cond (is_at (address_cmp addr) q) (Some name) (get address_cmp before.addresses q)) → after.routers ≡ before.routers
    → InsertsName (nameds.Address addr) name.octets.items before after is_new
inserts_address before after addr name None is_new old is put same = rw is (one_address_more before after addr name (sym old) put same)
inserts_address before after addr name (Some was) is_new old is put same = rw is (rw (← old) refl)

-- the same of the order that the code goes by
pub inserts_by_order : (before after : Names) (addr : Address) (name : Name) (old : Option Name) (is_new : Bool) → old ≡ get ghosts.cmp before.addresses addr → is_new ≡ is_none old
    → ((q : Address) → get ghosts.cmp after.addresses q ≡ cond (is_at (ghosts.cmp addr) q) (Some name) (get ghosts.cmp before.addresses q)) → after.routers ≡ before.routers
    → InsertsName (nameds.Address addr) name.octets.items before after is_new
inserts_by_order before after addr name old is_new was is put same =
    inserts_address before after addr name old is_new (subst (λ (cmp : Address → Address → Ordering). old ≡ get cmp before.addresses addr) hop_order was) is
    (subst (λ (cmp : Address → Address → Ordering). (q : Address) → get cmp after.addresses q ≡ cond (is_at (cmp addr) q) (Some name) (get cmp before.addresses q)) hop_order put) same

pub inserts_router : (before after : Names) (id : List ℕ) (name : Name) (old : Option Name) (is_new : Bool) → old ≡ get (slice_cmp nat_cmp) before.routers id → is_new ≡ is_none old
    → ((q : List ℕ) → get (slice_cmp nat_cmp) after.routers q ≡ cond (is_at (slice_cmp nat_cmp id) q) (Some name) (get (slice_cmp nat_cmp) before.routers q))
    → after.addresses ≡ before.addresses → InsertsName (nameds.Router id) name.octets.items before after is_new
inserts_router before after id name None is_new old is put same = rw is (one_router_more before after id name (sym old) put same)
inserts_router before after id name (Some was) is_new old is put same = rw is (rw (← old) refl)

-- ---- what words say

one_named : (word : List ℕ) (one two : Named) → IsNamed word one → IsNamed word two → one ≡ two
one_named word (nameds.Router id) (nameds.Router other) is is_too = let same : id ≡ other = cc (sym is ∙ is_too) in ap nameds.Router same
one_named word (nameds.Router id) (nameds.Address addr) is is_too = absurd (cc (sym is ∙ is_too.0))
one_named word (nameds.Address addr) (nameds.Router id) is is_too = absurd (cc (sym is.0 ∙ is_too))
one_named word (nameds.Address addr) (nameds.Address other) is is_too = ap nameds.Address (one_address word addr other is.2 is_too.2)

-- three words tell as much as all
passed_by_three : (words : List (List ℕ)) → is_passed_over (take 3 words) ≡ is_passed_over words
passed_by_three [] = refl
passed_by_three (word ∷ rest) = refl

two_of_three : (words : List (List ℕ)) (one two : List ℕ) → take 3 words ≡ one ∷ two ∷ [] → words ≡ one ∷ two ∷ []
two_of_three [] one two is = absurd cc
two_of_three (a ∷ []) one two is = absurd cc
two_of_three (a ∷ b ∷ []) one two is = is
two_of_three (a ∷ b ∷ c ∷ rest) one two is = absurd cc

takes_by_three : (words : List (List ℕ)) (before after : Names) (is_taken : Bool) → TakesWords (take 3 words) before after is_taken → TakesWords words before after is_taken
takes_by_three words before after true takes = elim takes [
  | inl skips ↦ inl (sym (passed_by_three words) ∙ skips.0, skips.1)
  | inr (asks, named, name, (word, are, says, short), more) ↦ inr (sym (passed_by_three words) ∙ asks, named, name, (word, two_of_three words word name are, says, short), more)
]
takes_by_three words before after false takes =
    (sym (passed_by_three words) ∙ takes.0, λ named name says. takes.1 named name (says.0, ap (λ (w : List (List ℕ)). take 3 w) says.1, says.2, says.3))

pub takes_line : (words three : List (List ℕ)) (before after : Names) (taken : Result Bool AllocError) → three ≡ take 3 words → IfOk taken (λ is_taken. TakesWords three before after is_taken)
    → IfOk taken (λ is_taken. TakesWords words before after is_taken)
takes_line words three before after (Ok is_taken) are takes = takes_by_three words before after is_taken (rw are at takes)
takes_line words three before after (Err error) are takes = tt

pub puts : (word octets : List ℕ) (named : Named) (name : Name) (before after : Names) (is_new : Result Bool AllocError) → IsNamed word named
    → (length octets ≤ 64) × (name.octets.items ≡ octets) → IfOk is_new (λ is_new. InsertsName named name.octets.items before after is_new)
    → IfOk is_new (λ is_put. PutsName word octets before after is_put)
puts word octets named name before after (Ok true) says short inserts = (named, says, short.0, rw (← short.1) inserts)
puts word octets named name before after (Ok false) says short inserts =
    λ other says_too within. subst (λ (n : Named). IsSome (given_to before n)) (one_named word named other says says_too) inserts
puts word octets named name before after (Err error) says short inserts = tt

-- ---- one line more

the_one : {A : Type 0} (x : A) → Contains (x ∷ []) x
the_one x = (0, lit< tt, refl)

only_one : {A : Type 0} (y x : A) → Contains (y ∷ []) x → x ≡ y
only_one y x (zero, within, is) = sym is
only_one y x (suc k, within, is) = absurd (omega (arith, within))

zip_append : {A B : Type 0} (R : A → B → Type 0) (xs more : List A) (ys others : List B) → AllZip R xs ys → AllZip R more others → AllZip R (xs ++ more) (ys ++ others)
zip_append R [] more [] others all rest = rest
zip_append R [] more (y ∷ ys) others all rest = absurd all
zip_append R (x ∷ xs) more [] others all rest = absurd all
zip_append R (x ∷ xs) more (y ∷ ys) others all rest = (all.0, zip_append R xs more ys others all.1 rest)

asking-append : (lines more : List (List ℕ)) → asking (lines ++ more) ≡ asking lines ++ asking more
asking-append lines more = rw (map-append words_of lines more, filter-append (λ (words : List (List ℕ)). not (is_passed_over words)) (map words_of lines) (map words_of more)) refl

abbrev Given : Type 0
Given = List (Named × List ℕ)

abbrev Said : List (List (List ℕ)) → Given → Type 0
Said words given = AllZip (λ (w : List (List ℕ)) (one : Named × List ℕ). SaysName w one.0 one.1) words given

pub named_none : (names : Names) → HasNone names → AreNamed [] names
named_none names none = record {
  given = [];
  said = tt;
  are = λ named name. (λ h. absurd (no_name named name h), λ h. absurd (omega (arith, h.1)));
  once = λ i j d before within. absurd (omega (arith, within));
}
  where
    no_name : (named : Named) (name : List ℕ) → given_to names named ≡ Some name → ⊥
    no_name (nameds.Address addr) name h = cc (rw none.0 at h)
    no_name (nameds.Router id) name h = cc (rw none.1 at h)

named_skips : (lines : List (List ℕ)) (line : List ℕ) (names : Names) → AreNamed lines names → is_passed_over (words_of line) ≡ true → AreNamed (lines ++ line ∷ []) names
named_skips lines line names so_far skips =
    let no_more : asking (line ∷ []) ≡ [] = rw skips refl in
    let same : asking (lines ++ line ∷ []) ≡ asking lines = asking-append lines (line ∷ []) ∙ ap (λ (more : List (List (List ℕ))). asking lines ++ more) no_more ∙ append-nil (asking lines) in record {
      given = so_far.given;
      said = subst (λ (words : List (List (List ℕ))). Said words so_far.given) (sym same) so_far.said;
      are = so_far.are;
      once = so_far.once;
    }

named_adds : (lines : List (List ℕ)) (line : List ℕ) (before after : Names) (named : Named) (name : List ℕ) → AreNamed lines before → is_passed_over (words_of line) ≡ false
    → SaysName (words_of line) named name → HasOneMore before named name after → AreNamed (lines ++ line ∷ []) after
named_adds lines line before after named name so_far asks says more = record {
  given = given ++ one ∷ [];
  said = subst (λ (words : List (List (List ℕ))). Said words (given ++ one ∷ [])) (sym words_are)
      (zip_append (λ (w : List (List ℕ)) (o : Named × List ℕ). SaysName w o.0 o.1) (asking lines) (words_of line ∷ []) given (one ∷ []) so_far.said (says, tt));
  are = λ n x. (now_given n x, given_now n x);
  once = all_pairs_push (λ (a b : Named × List ℕ). a.0 ≢ b.0) given one so_far.once
      (λ k d within same. not_yet (get_or given k d) (Contains-get_or given k d within) same);
}
  where
    given : Given
    given = so_far.given

    one : Named × List ℕ
    one = (named, name)

    words_are : asking (lines ++ line ∷ []) ≡ asking lines ++ words_of line ∷ []
    words_are = let last : asking (line ∷ []) ≡ words_of line ∷ [] = rw asks refl in asking-append lines (line ∷ []) ∙ ap (λ (m : List (List (List ℕ))). asking lines ++ m) last

    now_given : (n : Named) (x : List ℕ) → given_to after n ≡ Some x → Contains (given ++ one ∷ []) (n, x)
    now_given n x h = elim ((more.gives n x).0 h) [
      | inl same ↦ Contains-append_right given (one ∷ []) (n, x) (rw (same.0, same.1) (the_one one))
      | inr was ↦ Contains-append_left given (one ∷ []) (n, x) ((so_far.are n x).0 was)
    ]

    given_now : (n : Named) (x : List ℕ) → Contains (given ++ one ∷ []) (n, x) → given_to after n ≡ Some x
    given_now n x h = elim (Contains-append_cases given (one ∷ []) (n, x) h) [
      | inl was ↦ (more.gives n x).1 (inr ((so_far.are n x).1 was))
      | inr last ↦
          let same : (n, x) ≡ one = only_one one (n, x) last in
          (more.gives n x).1 (inl (ap (λ (o : Named × List ℕ). o.0) same, ap (λ (o : Named × List ℕ). o.1) same))
    ]

    not_yet : (other : Named × List ℕ) → Contains given other → other.0 ≡ named → ⊥
    not_yet other is same =
        let was : given_to before named ≡ Some other.1 = rw same at ((so_far.are other.0 other.1).1 is) in
        cc (sym more.had_none ∙ was)

-- ---- a loop over the lines

-- the lines as far as a loop over them has come
pub record AreTaken (items : List (Bor (List ℕ))) (lines : List (List ℕ)) (i : ℕ) (names : Names) : Type 0 where
  pub lines_are : map (λ line. line.now) items ≡ lines
  pub named : AreNamed (take i lines) names

next_line : (items : List (Bor (List ℕ))) (lines : List (List ℕ)) (i : ℕ) (d : Bor (List ℕ)) → map (λ line. line.now) items ≡ lines → i < length items
    → (i < length lines) × (get_or lines i [] ≡ (get_or items i d).now)
next_line items lines i d are within =
    (rw (← are) (rw length-map within), rw (← are) (get_or-map (λ (line : Bor (List ℕ)). line.now) items i d [] within))

pub taken_more : (items : List (Bor (List ℕ))) (lines : List (List ℕ)) (i : ℕ) (d : Bor (List ℕ)) (before after : Names) (is_taken : Bool) → AreTaken items lines i before
    → i < length items → is_taken ≡ true → TakesWords (words_of (get_or items i d).now) before after is_taken → AreNamed (take (i + 1) lines) after
taken_more items lines i d before after is_taken so_far within is takes =
    let line : List ℕ = (get_or items i d).now in
    let next = next_line items lines i d so_far.lines_are within in
    let longer : take (suc i) lines ≡ take i lines ++ line ∷ [] = take-suc lines i [] next.0 ∙ ap (λ (l : List ℕ). take i lines ++ l ∷ []) next.1 in
    let by : TakesWords (words_of line) before after true = rw is at takes in
    rw (add-one, longer) (elim by [
      | inl skips ↦ rw (skips.1) (named_skips (take i lines) line before so_far.named skips.0)
      | inr (asks, named, name, says, more) ↦ named_adds (take i lines) line before after named name so_far.named asks says more
    ])

-- the next line is the first that says no new name
pub first_unnamed : (items : List (Bor (List ℕ))) (lines : List (List ℕ)) (i : ℕ) (d : Bor (List ℕ)) (before after : Names) (is_taken : Bool) → AreTaken items lines i before
    → i < length items → is_taken ≡ false → TakesWords (words_of (get_or items i d).now) before after is_taken → IsFirstUnnamed lines (i + 1)
first_unnamed items lines i d before after is_taken so_far within is takes =
    let next = next_line items lines i d so_far.lines_are within in
    let by : TakesWords (words_of (get_or items i d).now) before after false = rw is at takes in record {
      before = take i lines;
      line = (get_or items i d).now;
      after = drop (suc i) lines;
      cut = split_at lines i [] next.0 ∙ ap (λ (line : List ℕ). take i lines ++ line ∷ drop (suc i) lines) next.1;
      counted = let all = length-take-le i lines (omega (arith, next.0)) in omega (arith, all);
      names = before;
      named = so_far.named;
      is_asking = by.0;
      wrong = by.1;
    }

-- ---- of what a reader gives

pub read_ok : (reader : Input) (text : List ℕ) (names : Names) (result : Result (Unit {0}) NamesFault) → GaveText reader text → OnOk result (AreNamed (lines_of text) names)
    → OnOk result (GaveNames reader names)
read_ok reader text names (Ok unit) gave named = record { text = text; gave = gave; named = named }
read_ok reader text names (Err fault) gave named = tt

pub unread : (reader : Input) (text : List ℕ) (result : Result (Unit {0}) NamesFault) → GaveText reader text → IfErr result (IsFaultOfNames (lines_of text)) → IfErr result (NamesCause reader)
unread reader text (Ok unit) gave why = tt
unread reader text (Err (names_faults.NotAName line)) gave why = record { text = text; gave = gave; wrong = why }
unread reader text (Err names_faults.TooLong) gave why = absurd why
unread reader text (Err names_faults.Read) gave why = absurd why
unread reader text (Err names_faults.Memory) gave why = tt
