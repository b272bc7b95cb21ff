-- Who is told to be silent is, step by step.
use Rattle.std.proofs.Common.{◌≡◌, ℕ, ◌+◌, ◌*◌, ◌<◌, ◌≤◌, Bool, true, false, cond, ◌⊎◌, inl, inr, List, [], ◌∷◌, ◌++◌, map, fold, Option, Some, None, refl, sym, ap, subst, ◌∙◌, arith, append_assoc}
use Rattle.std.specs.Prelude.{◌&&◌, ◌||◌, not, nat_lt}
use Rattle.std.specs.declared.cmp.Ordering.{Ordering}
use Rattle.std.specs.Cmp.{IsTotalOrder}
use Rattle.std.specs.BTreeMap.{is_at}
use Rattle.std.specs.List.{AllByRecursion, Contains, cons_option, filter_map}
use Rattle.std.proofs.lemmas.Bool.Decides.{nat_tests}
use Rattle.std.proofs.lemmas.List.{append-nil}
use Rattle.std.proofs.lemmas.List.Elements.{Contains-append_left}
use Rattle.std.proofs.lemmas.List.Sums.{fold-append}
use Rattle.std.proofs.lemmas.Map.Lookups.{CmpEqualImpliesEq}
use Rattle.babel_prefix.proofs.Insertion.{equal_of}
use Rattle.babel_tlv.specs.declared.hello.Hello.{Hello}
use Rattle.babel_tlv.specs.Framing.{TlvAt}
use Rattle.babel_tlv.specs.Hellos.{hello_of}
use Rattle.babel_table.specs.Moments.{Stamp, end_after}
use Rattle.babel_timeline.specs.declared.change.Change.{Change}
use Rattle.babel_timeline.specs.declared.telling.Telling.{Telling}
use Rattle.babel_timeline.specs.declared.telling.Telling.TheVariants as tellings
use Rattle.babel_timeline.specs.declared.watch.Silence.{Silence}
use Rattle.babel_timeline.specs.Silence.{FallsSilent, IsSilentAt, NoneFallsSilent, TakesHello, Watching, awaited, is_silent, last_hello, patience}
use Rattle.babel_timeline.specs.SilencesTold.{IsSo, IsWatched, IsWatchedWhole, TellsReturns, TellsSilences, TellsWhoIsSilent, hello_at, hellos_among, interval_of, is_told_silent, scheduled, silent_after, watches}
use Rattle.babel_timeline.specs.Telling.{AskedFor}
use Rattle.babel_timeline.proofs.MadeLaws.{all_map, has_first, has_last, has_later}
use Rattle.babel_timeline.proofs.WatchLaws.{awaited_last, hello_keeps, one_some, silence_keeps, silent_told, still_expired}
use Rattle.babel_timeline.proofs.WordLaws.{all_more}

pub watches_all : (factor : Option ℕ) (asked : AskedFor) → watches factor asked ≡ true → asked ≡ None
watches_all factor None watching = refl
watches_all factor (Some pair) watching = absurd cc

-- ---- Hellos

positive : (hello : Option Hello) (interval : ℕ) → interval_of hello ≡ Some interval → 0 < interval
positive None interval e = absurd cc
positive (Some hello) interval e = by hello.is_unicast (nat_lt 0 hello.interval) refl e
  where
    by : (unicast later : Bool) → nat_lt 0 hello.interval ≡ later → cond (not unicast && later) (Some hello.interval) None ≡ Some interval → 0 < interval
    by true later is e = absurd cc
    by false false is e = absurd cc
    by false true is e =
        let same : hello.interval ≡ interval = cc in
        let some : 0 < hello.interval = grind (arith, nat_tests) in
        omega (arith, some, same)

ends_later : (time interval end : ℕ) → 0 < interval → end_after patience (record { time = time; interval = interval }) ≡ Some end → time < end
ends_later time interval end some is = by (nat_lt 0 interval) refl is
  where
    by : (later : Bool) → nat_lt 0 interval ≡ later → cond later (Some (time + patience * interval)) None ≡ Some end → time < end
    by true later e = let same : time + patience * interval ≡ end = one_some (time + patience * interval) end e in omega (arith, same, some)
    by false later e = absurd cc

module _ {S : Type 0} (sender : S) (time : ℕ) where
  pub first_hello : (tlv : TlvAt) (rest : List TlvAt) → hellos_among sender time (tlv ∷ rest) ≡ hellos_among sender time (tlv ∷ []) ++ hellos_among sender time rest
  first_hello tlv rest = by (scheduled tlv)
    where
      by : (interval : Option ℕ) → map (hello_at sender time) (cons_option interval (filter_map scheduled rest)) ≡ map (hello_at sender time) (cons_option interval []) ++ hellos_among sender time rest
      by None = refl
      by (Some interval) = refl

  hellos_in : (tlv : TlvAt) (interval : Option ℕ) → scheduled tlv ≡ interval → hellos_among sender time (tlv ∷ []) ≡ map (hello_at sender time) (cons_option interval [])
  hellos_in tlv interval is = ap (λ (o : Option ℕ). map (hello_at sender time) (cons_option o [])) is

-- ---- what is told

module _ {S : Type 0} (cmp : S → S → Ordering) where
  told_more : (told more : List (Telling S)) (sender : S) → is_told_silent cmp (told ++ more) sender ≡ fold (silent_after cmp sender) (is_told_silent cmp told sender) more
  told_more told more sender = fold-append (silent_after cmp sender) false told more

  after_changes : (changes : List (Change S)) (sender : S) (was : Bool) → fold (silent_after cmp sender) was (map tellings.Change changes) ≡ was
  after_changes [] sender was = refl
  after_changes (told ∷ changes) sender was = after_changes changes sender was

  so_only : (hellos : List (S × Stamp)) (changes : List (Change S)) → AllByRecursion (IsSo hellos) (map tellings.Change changes)
  so_only hellos [] = tt
  so_only hellos (one ∷ changes) = (tt, so_only hellos changes)

  so_changes : (hellos : List (S × Stamp)) (told : List (Telling S)) (changes : List (Change S)) → AllByRecursion (IsSo hellos) told → AllByRecursion (IsSo hellos) (told ++ map tellings.Change changes)
  so_changes hellos [] changes so = so_only hellos changes
  so_changes hellos (first ∷ told) changes so = (so.0, so_changes hellos told changes so.1)

  so_then : (hellos more : List (S × Stamp)) (told : Telling S) → IsSo hellos told → IsSo (hellos ++ more) told
  so_then hellos more (tellings.Change told) so = tt
  so_then hellos more (tellings.Answer time sender answer before) so = tt
  so_then hellos more (tellings.Request time sender to request) so = tt
  so_then hellos more (tellings.Silent time sender since routes) so = (so.0, Contains-append_left hellos more (sender, so.0) so.1, so.2, so.3)
  so_then hellos more (tellings.Returns time sender) so = (so.0, Contains-append_left hellos more (sender, so.0) so.1, so.2)

  -- changes tell nothing of who is silent
  pub watched_changes : (hellos : List (S × Stamp)) (moment : ℕ) (before old new : List (Telling S)) (watching : Watching S) (changes : List (Change S)) → new ≡ old ++ map tellings.Change changes
      → IsWatched cmp hellos moment (before ++ old) watching → IsWatched cmp hellos moment (before ++ new) watching
  watched_changes hellos moment before old new watching changes is watched =
      subst (λ (t : List (Telling S)). IsWatched cmp hellos moment t watching) (append_assoc before old (map tellings.Change changes) ∙ ap (λ (t : List (Telling S)). before ++ t) (sym is)) (record {
        watch = watched.watch;
        told_is = λ sender. told_more (before ++ old) (map tellings.Change changes) sender ∙ after_changes changes sender (is_told_silent cmp (before ++ old) sender) ∙ watched.told_is sender;
        so = so_changes hellos (before ++ old) changes watched.so;
      })

  pub watched_later : (hellos : List (S × Stamp)) (moment until : ℕ) (told : List (Telling S)) (watching : Watching S) → moment ≤ until
      → IsWatched cmp hellos moment told watching → IsWatched cmp hellos until told watching
  watched_later hellos moment until told watching le watched = record {
    watch = record {
      awaited_is = watched.watch.awaited_is;
      silent_is = λ sender silent. (let at : IsSilentAt cmp moment hellos sender = watched.watch.silent_is sender silent in (at.0, at.1, still_expired moment until at.0 le at.2));
    };
    told_is = watched.told_is;
    so = watched.so;
  }

  -- some of those who fall silent by a time are told
  abbrev pub TellsSome : (until : ℕ) → (old new : List (Telling S)) → (was now : Watching S) → Type 0
  TellsSome until old new was now = (hellos : List (S × Stamp)) (moment : ℕ) (before : List (Telling S)) → moment ≤ until
      → IsWatched cmp hellos moment (before ++ old) was → IsWatched cmp hellos until (before ++ new) now

  -- the last Hello is one of them
  among : CmpEqualImpliesEq cmp → (hellos : List (S × Stamp)) (sender : S) (hello : Stamp) (last : Option Stamp)
      → fold (λ (o : Option Stamp) (one : S × Stamp). cond (is_at (cmp one.0) sender) (Some one.1) o) last hellos ≡ Some hello → (last ≡ Some hello) ⊎ Contains hellos (sender, hello)
  among exact [] sender hello last is = inl is
  among exact (one ∷ hellos) sender hello last is =
      by (is_at (cmp one.0) sender) refl (among exact hellos sender hello (cond (is_at (cmp one.0) sender) (Some one.1) last) is)
    where
      by : (here : Bool) → is_at (cmp one.0) sender ≡ here → (cond (is_at (cmp one.0) sender) (Some one.1) last ≡ Some hello) ⊎ Contains hellos (sender, hello)
          → (last ≡ Some hello) ⊎ Contains (one ∷ hellos) (sender, hello)
      by here at (inr later) = inr (has_later one hellos (sender, hello) later)
      by true at (inl is) =
          let own : one.0 ≡ sender = exact one.0 sender (equal_of (cmp one.0 sender) at) in
          let it : one.1 ≡ hello = one_some one.1 hello (sym (ap (λ (b : Bool). cond b (Some one.1) last) at) ∙ is) in
          inr (subst (Contains (one ∷ hellos)) (ap (λ (s : S). (s, one.1)) own ∙ ap (λ (h : Stamp). (sender, h)) it) (has_first one hellos))
      by false at (inl is) = inl (sym (ap (λ (b : Bool). cond b (Some one.1) last) at) ∙ is)

module _ {S : Type 0} (cmp : S → S → Ordering) (total : IsTotalOrder cmp) (exact : CmpEqualImpliesEq cmp) where
  last_among : (hellos : List (S × Stamp)) (sender : S) (hello : Stamp) → last_hello cmp hellos sender ≡ Some hello → Contains hellos (sender, hello)
  last_among hellos sender hello is = elim (among cmp exact hellos sender hello None is) [ inl none ↦ absurd cc | inr has ↦ has ]

  -- a sender falls silent
  pub watched_silence : (hellos : List (S × Stamp)) (until : ℕ) (before old new : List (Telling S)) (was now : Watching S) (silence : Silence S) (routes : ℕ) → silence.time ≤ until
      → FallsSilent cmp silence was now → new ≡ old ++ tellings.Silent silence.time silence.sender silence.since routes ∷ []
      → IsWatched cmp hellos until (before ++ old) was → IsWatched cmp hellos until (before ++ new) now
  watched_silence hellos until before old new was now silence routes by falls is watched =
      let one : Telling S = tellings.Silent silence.time silence.sender silence.since routes in
      let last = awaited_last cmp total exact (is_silent cmp was silence.sender) (last_hello cmp hellos silence.sender) falls.hello (sym (watched.watch.awaited_is silence.sender) ∙ falls.last) in
      subst (λ (t : List (Telling S)). IsWatched cmp hellos until t now) (append_assoc before old (one ∷ []) ∙ ap (λ (t : List (Telling S)). before ++ t) (sym is)) (record {
        watch = silence_keeps cmp total exact hellos until until was now silence watched.watch (omega arith) by falls;
        told_is = λ sender. told_more cmp (before ++ old) (one ∷ []) sender ∙ ap (λ (b : Bool). is_at (cmp silence.sender) sender || b) (watched.told_is sender) ∙ sym (falls.silent_is sender);
        so = all_more (IsSo hellos) (before ++ old) one watched.so (falls.hello, last_among hellos silence.sender falls.hello last, falls.since, falls.time);
      })

  -- a Hello is taken
  module _ (sender : S) (time interval : ℕ) (was now : Watching S) (takes : TakesHello cmp sender (record { time = time; interval = interval }) was now) where
    abbrev hello : Stamp
    hello = record { time = time; interval = interval }

    none_falls : 0 < interval → NoneFallsSilent cmp time was → NoneFallsSilent cmp time now
    none_falls some none other later end is ends = by (is_at (cmp sender) other) refl
      where
        by : (here : Bool) → is_at (cmp sender) other ≡ here → time < end
        by true at =
            let it : hello ≡ later = one_some hello later (sym (takes.awaited_is other ∙ ap (λ (b : Bool). cond b (Some hello) (awaited cmp was other)) at) ∙ is) in
            ends_later time interval end some (ap (end_after patience) it ∙ ends)
        by false at = none other later end (sym (takes.awaited_is other ∙ ap (λ (b : Bool). cond b (Some hello) (awaited cmp was other)) at) ∙ is) ends

    returned : (told new : List (Telling S)) (returns : Bool) → returns ≡ is_silent cmp was sender → new ≡ cond returns (told ++ tellings.Returns time sender ∷ []) told
        → ((other : S) → is_told_silent cmp told other ≡ is_silent cmp was other) → (other : S) → is_told_silent cmp new other ≡ is_silent cmp now other
    returned told new true silent is told_is other =
        ap (λ (t : List (Telling S)). is_told_silent cmp t other) is ∙ told_more cmp told (tellings.Returns time sender ∷ []) other
        ∙ ap (λ (b : Bool). not (is_at (cmp sender) other) && b) (told_is other) ∙ sym (takes.silent_is other)
    returned told new false silent is told_is other =
        ap (λ (t : List (Telling S)). is_told_silent cmp t other) is ∙ told_is other ∙ by (is_at (cmp sender) other) refl ∙ sym (takes.silent_is other)
      where
        by : (here : Bool) → is_at (cmp sender) other ≡ here → is_silent cmp was other ≡ not here && is_silent cmp was other
        by true at = sym (ap (is_silent cmp was) (exact sender other (equal_of (cmp sender other) at))) ∙ sym silent
        by false at = refl

    so_hello : (hellos : List (S × Stamp)) (told new : List (Telling S)) (returns : Bool) → new ≡ cond returns (told ++ tellings.Returns time sender ∷ []) told
        → AllByRecursion (IsSo hellos) told → AllByRecursion (IsSo (hellos ++ (sender, hello) ∷ [])) new
    so_hello hellos told new returns is so =
        let more : List (S × Stamp) = hellos ++ (sender, hello) ∷ [] in
        let still = all_map (IsSo hellos) (IsSo more) told (so_then cmp hellos ((sender, hello) ∷ [])) so in
        subst (AllByRecursion (IsSo more)) (sym is) (by more returns still (has_last hellos (sender, hello)))
      where
        by : (more : List (S × Stamp)) (returns : Bool) → AllByRecursion (IsSo more) told → Contains more (sender, hello)
            → AllByRecursion (IsSo more) (cond returns (told ++ tellings.Returns time sender ∷ []) told)
        by more true still has = all_more (IsSo more) told (tellings.Returns time sender) still (hello, has, refl)
        by more false still has = still

    watched_hello : (hellos : List (S × Stamp)) (told new : List (Telling S)) (returns : Bool) → 0 < interval → returns ≡ is_silent cmp was sender
        → new ≡ cond returns (told ++ tellings.Returns time sender ∷ []) told → IsWatchedWhole cmp hellos time told was → IsWatchedWhole cmp (hellos ++ (sender, hello) ∷ []) time new now
    watched_hello hellos told new returns some silent is whole =
        let watched = whole.0 in (
          record {
            watch = hello_keeps cmp total exact hellos time was now sender hello watched.watch (omega arith) takes;
            told_is = returned told new returns silent is watched.told_is;
            so = so_hello hellos told new returns is watched.so;
          },
          none_falls some whole.1,
        )

    -- a TLV that is a Hello
    pub hello_heard : (tlv : TlvAt) (old new : List (Telling S)) (returns : Bool) → Some interval ≡ scheduled tlv → returns ≡ is_silent cmp was sender
        → new ≡ cond returns (old ++ tellings.Returns time sender ∷ []) old → TellsReturns cmp (hellos_among sender time (tlv ∷ [])) time old new was now
    hello_heard tlv old new returns scheduled_is silent is hellos before whole =
        subst (λ (h : List (S × Stamp)). IsWatchedWhole cmp (hellos ++ h) time (before ++ new) now) (sym (hellos_in sender time tlv (Some interval) (sym scheduled_is)))
        (watched_hello hellos (before ++ old) (before ++ new) returns (positive (hello_of tlv) interval (sym scheduled_is)) silent
        (ap (λ (t : List (Telling S)). before ++ t) is ∙ behind before old returns) whole)
      where
        behind : (before old : List (Telling S)) (returns : Bool)
            → before ++ cond returns (old ++ tellings.Returns time sender ∷ []) old ≡ cond returns ((before ++ old) ++ tellings.Returns time sender ∷ []) (before ++ old)
        behind before old true = sym (append_assoc before old (tellings.Returns time sender ∷ []))
        behind before old false = refl

  pub nothing : (hellos : List (S × Stamp)) (time : ℕ) (told : List (Telling S)) (watching : Watching S) → IsWatchedWhole cmp hellos time told watching → IsWatchedWhole cmp (hellos ++ []) time told watching
  nothing hellos time told watching = subst (λ (h : List (S × Stamp)). IsWatchedWhole cmp h time told watching) (sym (append-nil hellos))

  -- one that is none
  pub none_heard : (sender : S) (time : ℕ) (tlv : TlvAt) (told : List (Telling S)) (watching : Watching S) → None ≡ scheduled tlv
      → TellsReturns cmp (hellos_among sender time (tlv ∷ [])) time told told watching watching
  none_heard sender time tlv told watching is hellos before whole =
      subst (λ (h : List (S × Stamp)). IsWatchedWhole cmp (hellos ++ h) time (before ++ told) watching) (sym (hellos_in sender time tlv None (sym is))) (nothing hellos time (before ++ told) watching whole)

  -- ---- one after another

  pub returns_then : (time : ℕ) (more later : List (S × Stamp)) (a b c : List (Telling S)) (u v w : Watching S) → TellsReturns cmp more time a b u v → TellsReturns cmp later time b c v w
      → TellsReturns cmp (more ++ later) time a c u w
  returns_then time more later a b c u v w first second hellos before whole =
      subst (λ (h : List (S × Stamp)). IsWatchedWhole cmp h time (before ++ c) w) (append_assoc hellos more later) (second (hellos ++ more) before (first hellos before whole))

  pub silences_then : (time : ℕ) (more : List (S × Stamp)) (a b c d : List (Telling S)) (u v w : Watching S) (changes : List (Change S)) → TellsSilences cmp [] time a b u v → TellsReturns cmp more time b c v w
      → d ≡ c ++ map tellings.Change changes → TellsSilences cmp more time a d u w
  silences_then time more a b c d u v w changes first second is hellos moment before le watched =
      let mid = subst (λ (h : List (S × Stamp)). IsWatchedWhole cmp h time (before ++ b) v) (append-nil hellos) (first hellos moment before le watched) in
      let last = second hellos before mid in
      (watched_changes cmp (hellos ++ more) time before c d w changes is last.0, last.1)

  pub some_none : (until : ℕ) (told : List (Telling S)) (watching : Watching S) → TellsSome cmp until told told watching watching
  some_none until told watching hellos moment before le = watched_later cmp hellos moment until (before ++ told) watching le

  pub some_more : (until : ℕ) (a b c d : List (Telling S)) (u v w : Watching S) (changes : List (Change S)) (silence : Silence S) (routes : ℕ) → TellsSome cmp until a b u v → silence.time ≤ until
      → FallsSilent cmp silence v w → c ≡ b ++ map tellings.Change changes → d ≡ c ++ tellings.Silent silence.time silence.sender silence.since routes ∷ [] → TellsSome cmp until a d u w
  some_more until a b c d u v w changes silence routes some by falls is adds hellos moment before le watched =
      watched_silence hellos until before c d v w silence routes by falls adds (watched_changes cmp hellos until before b c v changes is (some hellos moment before le watched))

  pub some_all : (until : ℕ) (a b c : List (Telling S)) (u v w : Watching S) (changes : List (Change S)) → TellsSome cmp until a b u v → NoneFallsSilent cmp until v → w ≡ v → c ≡ b ++ map tellings.Change changes
      → TellsSilences cmp [] until a c u w
  some_all until a b c u v w changes some none same is hellos moment before le watched =
      nothing hellos until (before ++ c) w (subst (λ (x : Watching S). IsWatchedWhole cmp hellos until (before ++ c) x) (sym same)
      (watched_changes cmp hellos until before b c v changes is (some hellos moment before le watched), none))

  -- ---- what it says

  pub told_who : (hellos : List (S × Stamp)) (moment : ℕ) (told : List (Telling S)) (watching : Watching S) → IsWatchedWhole cmp hellos moment told watching → TellsWhoIsSilent cmp hellos moment told
  told_who hellos moment told watching whole =
      let watched = whole.0 in
      record {
        silent = λ sender. (
          (λ silent. (silent_told cmp total exact hellos moment moment watching watched.watch (omega arith) whole.1 sender).0 (sym (watched.told_is sender) ∙ silent)),
          (λ at. watched.told_is sender ∙ (silent_told cmp total exact hellos moment moment watching watched.watch (omega arith) whole.1 sender).1 at),
        );
        so = watched.so;
      }
