-- Hellos that are kept as rows, and who is silent by them.
use Rattle.std.proofs.Common.{◌≡◌, ℕ, ◌<◌, ◌≤◌, Bool, true, false, cond, inl, inr, List, [], ◌∷◌, ◌++◌, Option, Some, None, refl, sym, ap, subst, ◌∙◌, arith}
use Rattle.std.specs.Prelude.{◌&&◌, ◌||◌, IsSome, not}
use Rattle.std.specs.declared.cmp.Ordering.{Ordering}
use Rattle.std.specs.declared.cmp.Ordering.TheVariants.{Less, Equal, Greater}
use Rattle.std.specs.Ordering.{is_eq, nat_cmp, ordering_then}
use Rattle.std.specs.Cmp.{IsTotalOrder}
use Rattle.std.specs.BTreeMap.{insert_entry, is_at}
use Rattle.std.specs.BTreeSet.{BTreeSet, contains}
use Rattle.std.specs.Map.{keys_of, remove_entry}
use Rattle.std.specs.List.Sorted.{IsStrictlySortedBy}
use Rattle.std.specs.Option.{option_map}
use Rattle.std.proofs.lemmas.Cmp.{nat_cmp_total, tied_itself}
use Rattle.std.proofs.lemmas.List.Sums.{fold-append}
use Rattle.std.proofs.lemmas.Map.Lookups.{CmpEqualImpliesEq}
use Rattle.babel_prefix.proofs.Insertion.{equal_of, sorted-insert}
use Rattle.babel_tlv.specs.Keys.{key_cmp}
use Rattle.babel_tlv.specs.Route.{RouteKey}
use Rattle.babel_tlv.proofs.OrderLaws.{key_total}
use Rattle.babel_table.specs.Moments.{Stamp, end_after}
use Rattle.babel_table.proofs.Entries.{sorted-remove}
use Rattle.babel_timeline.specs.declared.row.Row.{Row}
use Rattle.babel_timeline.specs.declared.subject.Subject.{Subject}
use Rattle.babel_timeline.specs.declared.watch.Silence.{Silence}
use Rattle.babel_timeline.specs.Accounts.{HasExpired}
use Rattle.babel_timeline.specs.Rows.{AllLast, Ends, EndsFirst, Held, Rows, row_at, subject_cmp, subject_of}
use Rattle.babel_timeline.specs.Silence as laws
use Rattle.babel_timeline.specs.Silence.{AreHellos, FallsSilent, IsSilentAt, IsWatch, NoneFallsSilent, TakesHello, Watching, awaited, hello_key, is_silent, last_hello, patience}
use Rattle.babel_timeline.proofs.KeptLaws.{not_before}
use Rattle.babel_timeline.proofs.Subjects.{Becomes, becomes_cases, becomes_inserted, becomes_removed, subject_total}

abbrev when_of : Option Row → Option Stamp
when_of row = option_map (λ (r : Row). r.when) row

-- a row that stands for a Hello
row_of : (row : Option Row) (hello : Stamp) → when_of row ≡ Some hello → (r : Row) × (row ≡ Some r) × (r.when ≡ hello)
row_of None hello e = absurd cc
row_of (Some r) hello e = (r, refl, (let same : r.when ≡ hello = cc in same))

pub one_some : {X : Type 0} (a b : X) → Some a ≡ Some b → a ≡ b
one_some a b e = cc

not_some : {X : Type 0} (a : X) → None ≡ Some a → ⊥
not_some a e = cc

-- of one key, the sender alone tells subjects apart
by_sender : (a : Ordering) → is_eq (ordering_then a (key_cmp hello_key hello_key)) ≡ is_eq a
by_sender Less = refl
by_sender Equal = ap is_eq (tied_itself key_total hello_key)
by_sender Greater = refl

cond_not : (here there : Bool) → cond here false there ≡ not here && there
cond_not true there = refl
cond_not false there = refl

cond_or : (here there : Bool) → cond here true there ≡ here || there
cond_or true there = refl
cond_or false there = refl

when_cond : (here : Bool) (new old : Option Row) → when_of (cond here new old) ≡ cond here (when_of new) (when_of old)
when_cond true new old = refl
when_cond false new old = refl

pub still_expired : (moment later : ℕ) (hello : Stamp) → moment ≤ later → HasExpired (Some patience) moment hello → HasExpired (Some patience) later hello
still_expired moment later hello le ended = record { time = ended.time; end = ended.end; past = omega (arith, ended.past) }

module _ {S : Type 0} (cmp : S → S → Ordering) (total : IsTotalOrder cmp) (exact : CmpEqualImpliesEq cmp) where
  abbrev subject : S → Subject S
  subject sender = subject_of sender hello_key

  -- ---- rows of one key

  awaited_becomes : (old new : Watching S) (sender other : S) (row : Option Row) → Becomes cmp old.rows (subject sender) row new.rows
      → awaited cmp new other ≡ cond (is_at (cmp sender) other) (when_of row) (awaited cmp old other)
  awaited_becomes old new sender other row becomes =
      ap when_of (becomes (subject other)) ∙ ap (λ (b : Bool). when_of (cond b row (row_at cmp old.rows (subject other)))) (by_sender (cmp sender other))
      ∙ when_cond (is_at (cmp sender) other) row (row_at cmp old.rows (subject other))

  of_key : (rows after : Rows S) (sender : S) (row : Option Row) → Becomes cmp rows (subject sender) row after
      → ((other : Subject S) → IsSome (row_at cmp rows other) → other.key ≡ hello_key) → (other : Subject S) → IsSome (row_at cmp after other) → other.key ≡ hello_key
  of_key rows after sender row becomes was other there = elim (becomes_cases cmp exact rows (subject sender) row after becomes other) [
    | inl at ↦ ap (λ (s : Subject S). s.key) (sym at.0)
    | inr apart ↦ was other (subst IsSome apart.1 there)
  ]

  pub hello_kept : (old new : Held S) (sender : S) (row : Row) → AreHellos cmp old
      → new ≡ record old { rows = insert_entry (subject_cmp cmp) old.rows (subject sender) row } → AreHellos cmp new
  hello_kept old new sender row kept is = subst (AreHellos cmp) (sym is) (record {
    factor = kept.factor;
    rising = sorted-insert (subject_total cmp total) (subject sender) row old.rows kept.rising;
    of_key = of_key old.rows (insert_entry (subject_cmp cmp) old.rows (subject sender) row) sender (Some row) (becomes_inserted cmp total old.rows (subject sender) row) kept.of_key;
  })

  pub silence_kept : (old new : Held S) (sender : S) → AreHellos cmp old → new ≡ record old { rows = remove_entry (is_at (subject_cmp cmp (subject sender))) old.rows } → AreHellos cmp new
  silence_kept old new sender kept is = subst (AreHellos cmp) (sym is) (record {
    factor = kept.factor;
    rising = sorted-remove (subject_total cmp total) (is_at (subject_cmp cmp (subject sender))) old.rows kept.rising;
    of_key = of_key old.rows (remove_entry (is_at (subject_cmp cmp (subject sender))) old.rows) sender None (becomes_removed cmp total old.rows (subject sender) kept.rising) kept.of_key;
  })

  -- ---- steps

  pub takes_hello : (old new : Watching S) (sender : S) (row : Row) → new.rows ≡ insert_entry (subject_cmp cmp) old.rows (subject sender) row
      → ((other : S) → contains cmp new.silent other ≡ cond (is_at (cmp sender) other) false (contains cmp old.silent other)) → TakesHello cmp sender row.when old new
  takes_hello old new sender row is removed = record {
    awaited_is = λ other. awaited_becomes old new sender other (Some row)
        (subst (Becomes cmp old.rows (subject sender) (Some row)) (sym is) (becomes_inserted cmp total old.rows (subject sender) row));
    silent_is = λ other. removed other ∙ cond_not (is_at (cmp sender) other) (is_silent cmp old other);
  }

  awaited_ends : (watching : Watching S) (sender : S) (hello : Stamp) (time : ℕ) → awaited cmp watching sender ≡ Some hello → end_after patience hello ≡ Some time
      → Ends cmp (Some patience) watching.rows (subject sender) time
  awaited_ends watching sender hello time is end =
      let row = row_of (row_at cmp watching.rows (subject sender)) hello is in
      record { row = row.0; held = row.1; end = ap (λ (h : Stamp). end_after patience h) row.2 ∙ end }

  pub none_silent : (until : ℕ) (watching : Watching S) → AllLast cmp (Some patience) until watching.rows → NoneFallsSilent cmp until watching
  none_silent until watching last sender hello time is end = last (subject sender) time (awaited_ends watching sender hello time is end)

  less_then : (rest : Ordering) (a b : ℕ) → b ≡ a → rest ≡ Less → ordering_then (nat_cmp a b) (ordering_then (key_cmp hello_key hello_key) rest) ≡ Less
  less_then rest a b same less =
      ap (λ (n : ℕ). ordering_then (nat_cmp a n) (ordering_then (key_cmp hello_key hello_key) rest)) same
      ∙ ap (λ (o : Ordering). ordering_then o (ordering_then (key_cmp hello_key hello_key) rest)) (tied_itself nat_cmp_total a)
      ∙ ap (λ (o : Ordering). ordering_then o rest) (tied_itself key_total hello_key) ∙ less

  pub falls_silent : (old new : Watching S) (silence : Silence S) (row : Row) → EndsFirst cmp (Some patience) old.rows (subject silence.sender) silence.time
      → row_at cmp old.rows (subject silence.sender) ≡ Some row → silence.since ≡ row.when.time → IsStrictlySortedBy (subject_cmp cmp) (keys_of old.rows)
      → new.rows ≡ remove_entry (is_at (subject_cmp cmp (subject silence.sender))) old.rows
      → ((other : S) → contains cmp new.silent other ≡ cond (is_at (cmp silence.sender) other) true (contains cmp old.silent other)) → FallsSilent cmp silence old new
  falls_silent old new silence row ends held since rising is added = record {
    hello = row.when;
    last = ap when_of held;
    since = since;
    time = ap (λ (r : Row). end_after patience r.when) (one_some row ends.ends.row (sym held ∙ ends.ends.held)) ∙ ends.ends.end;
    first = λ other later time is end. (
      not_before time silence.time _ (ends.first (subject other) time (awaited_ends old other later time is end)),
      λ same less. ends.first (subject other) time (awaited_ends old other later time is end) (less_then (cmp other silence.sender) time silence.time same less),
    );
    awaited_is = λ other. awaited_becomes old new silence.sender other None
        (subst (Becomes cmp old.rows (subject silence.sender) None) (sym is) (becomes_removed cmp total old.rows (subject silence.sender) rising));
    silent_is = λ other. added other ∙ cond_or (is_at (cmp silence.sender) other) (is_silent cmp old other);
  }

  -- the subject of a row that stands for a Hello
  its_key : (rows : Rows S) (it : Subject S) → ((other : Subject S) → IsSome (row_at cmp rows other) → other.key ≡ hello_key) → IsSome (row_at cmp rows it) → it ≡ subject it.sender
  its_key rows it of there = ap (λ (k : RouteKey). subject_of it.sender k) (of it there)

  some_is : (row : Option Row) (r : Row) → row ≡ Some r → IsSome row
  some_is None r e = absurd cc
  some_is (Some row) r e = refl

  pub held_there : (factor : Option ℕ) (rows : Rows S) (it : Subject S) (time : ℕ) → EndsFirst cmp factor rows it time → IsSome (row_at cmp rows it)
  held_there factor rows it time ends = some_is (row_at cmp rows it) ends.ends.row ends.ends.held

  -- the row that ends first goes
  pub first_kept : (old new : Held S) (it : Subject S) (time : ℕ) → AreHellos cmp old → EndsFirst cmp old.factor old.rows it time
      → new ≡ record old { rows = remove_entry (is_at (subject_cmp cmp it)) old.rows } → AreHellos cmp new
  first_kept old new it time kept ends is =
      silence_kept old new it.sender kept
      (is ∙ ap (λ (s : Subject S). record old { rows = remove_entry (is_at (subject_cmp cmp s)) old.rows }) (its_key old.rows it kept.of_key (held_there old.factor old.rows it time ends)))

  pub first_falls : (old new : Held S) (was now : BTreeSet S) (silence : Silence S) (it : Subject S) (row : Row) → AreHellos cmp old → it.sender ≡ silence.sender
      → EndsFirst cmp old.factor old.rows it silence.time → row_at cmp old.rows it ≡ Some row → silence.since ≡ row.when.time
      → new ≡ record old { rows = remove_entry (is_at (subject_cmp cmp it)) old.rows }
      → ((other : S) → contains cmp now other ≡ cond (is_at (cmp silence.sender) other) true (contains cmp was other))
      → FallsSilent cmp silence (record { rows = old.rows; silent = was }) (record { rows = new.rows; silent = now })
  first_falls old new was now silence it row kept own ends held since is added =
      let same : it ≡ subject silence.sender = its_key old.rows it kept.of_key (held_there old.factor old.rows it silence.time ends) ∙ ap subject own in
      falls_silent (record { rows = old.rows; silent = was }) (record { rows = new.rows; silent = now }) silence row
      (subst (λ (f : Option ℕ). EndsFirst cmp f old.rows (subject silence.sender) silence.time) kept.factor (subst (λ (s : Subject S). EndsFirst cmp old.factor old.rows s silence.time) same ends))
      (subst (λ (s : Subject S). row_at cmp old.rows s ≡ Some row) same held) since kept.rising
      (ap (λ (h : Held S). h.rows) is ∙ ap (λ (s : Subject S). remove_entry (is_at (subject_cmp cmp s)) old.rows) same) added

  pub none_falls : (until : ℕ) (hellos : Held S) (silent : BTreeSet S) → AreHellos cmp hellos → AllLast cmp hellos.factor until hellos.rows
      → NoneFallsSilent cmp until (record { rows = hellos.rows; silent = silent })
  none_falls until hellos silent kept last =
      none_silent until (record { rows = hellos.rows; silent = silent }) (subst (λ (f : Option ℕ). AllLast cmp f until hellos.rows) kept.factor last)

  -- ---- laws

  pub begins : laws.BeginsWatch cmp
  begins = record { awaited_is = λ sender. refl; silent_is = λ sender silent. absurd cc }

  last_more : (hellos : List (S × Stamp)) (sender : S) (hello : Stamp) (other : S)
      → last_hello cmp (hellos ++ (sender, hello) ∷ []) other ≡ cond (is_at (cmp sender) other) (Some hello) (last_hello cmp hellos other)
  last_more hellos sender hello other =
      fold-append (λ (last : Option Stamp) (one : S × Stamp). cond (is_at (cmp one.0) other) (Some one.1) last) None hellos ((sender, hello) ∷ [])

  hello_awaited : (here was : Bool) (silent : Bool) (hello : Stamp) (now old last more : Option Stamp) → now ≡ cond here (Some hello) old → silent ≡ (not here && was)
      → more ≡ cond here (Some hello) last → old ≡ cond was None last → now ≡ cond silent None more
  hello_awaited true was silent hello now old last more is quiet told before =
      is ∙ ap (λ (b : Bool). cond b None (Some hello)) (sym quiet) ∙ ap (λ (l : Option Stamp). cond silent None l) (sym told)
  hello_awaited false was silent hello now old last more is quiet told before =
      is ∙ before ∙ ap (λ (b : Bool). cond b None last) (sym quiet) ∙ ap (λ (l : Option Stamp). cond silent None l) (sym told)

  pub hello_keeps : laws.HelloKeepsWatch cmp
  hello_keeps hellos moment old new sender hello watch later takes = record {
    awaited_is = λ other. hello_awaited (is_at (cmp sender) other) (is_silent cmp old other) (is_silent cmp new other) hello (awaited cmp new other) (awaited cmp old other)
        (last_hello cmp hellos other) (last_hello cmp more other) (takes.awaited_is other) (takes.silent_is other) (last_more hellos sender hello other) (watch.awaited_is other);
    silent_is = λ other silent. was other (is_at (cmp sender) other) refl silent;
  }
    where
      more : List (S × Stamp)
      more = hellos ++ (sender, hello) ∷ []

      was : (other : S) (here : Bool) → is_at (cmp sender) other ≡ here → is_silent cmp new other ≡ true → IsSilentAt cmp hello.time more other
      was other true e silent =
          let quiet : is_silent cmp new other ≡ false = takes.silent_is other ∙ ap (λ (b : Bool). not b && is_silent cmp old other) e in
          absurd cc
      was other false e silent =
          let before : is_silent cmp old other ≡ true = sym (takes.silent_is other ∙ ap (λ (b : Bool). not b && is_silent cmp old other) e) ∙ silent in
          let at : IsSilentAt cmp moment hellos other = watch.silent_is other before in
          (at.0, last_more hellos sender hello other ∙ ap (λ (b : Bool). cond b (Some hello) (last_hello cmp hellos other)) e ∙ at.1, still_expired moment hello.time at.0 later at.2)

  silence_awaited : (here was : Bool) (silent : Bool) (now old last : Option Stamp) → now ≡ cond here None old → silent ≡ (here || was)
      → old ≡ cond was None last → now ≡ cond silent None last
  silence_awaited true was silent now old last is quiet before = is ∙ ap (λ (b : Bool). cond b None last) (sym quiet)
  silence_awaited false was silent now old last is quiet before = is ∙ before ∙ ap (λ (b : Bool). cond b None last) (sym quiet)

  pub awaited_last : (was : Bool) (last : Option Stamp) (hello : Stamp) → cond was None last ≡ Some hello → last ≡ Some hello
  awaited_last true last hello e = absurd cc
  awaited_last false last hello e = e

  pub silence_keeps : laws.SilenceKeepsWatch cmp
  silence_keeps hellos moment until old new silence watch later by falls = record {
    awaited_is = λ other. silence_awaited (is_at (cmp silence.sender) other) (is_silent cmp old other) (is_silent cmp new other) (awaited cmp new other) (awaited cmp old other)
        (last_hello cmp hellos other) (falls.awaited_is other) (falls.silent_is other) (watch.awaited_is other);
    silent_is = λ other silent. was other (is_at (cmp silence.sender) other) refl silent;
  }
    where
      fallen : IsSilentAt cmp until hellos silence.sender
      fallen =
          let last = awaited_last (is_silent cmp old silence.sender) (last_hello cmp hellos silence.sender) falls.hello (sym (watch.awaited_is silence.sender) ∙ falls.last) in
          (falls.hello, last, record { time = silence.time; end = falls.time; past = by })

      was : (other : S) (here : Bool) → is_at (cmp silence.sender) other ≡ here → is_silent cmp new other ≡ true → IsSilentAt cmp until hellos other
      was other true e silent = subst (IsSilentAt cmp until hellos) (exact silence.sender other (equal_of (cmp silence.sender other) e)) fallen
      was other false e silent =
          let before : is_silent cmp old other ≡ true = sym (falls.silent_is other ∙ ap (λ (b : Bool). b || is_silent cmp old other) e) ∙ silent in
          let at : IsSilentAt cmp moment hellos other = watch.silent_is other before in
          (at.0, at.1, still_expired moment until at.0 later at.2)

  pub silent_told : laws.SilentAreTold cmp
  silent_told hellos moment until watching watch later none sender = (
    λ silent. (let at : IsSilentAt cmp moment hellos sender = watch.silent_is sender silent in (at.0, at.1, still_expired moment until at.0 later at.2)),
    λ at. told (is_silent cmp watching sender) refl at,
  )
    where
      told : (silent : Bool) → is_silent cmp watching sender ≡ silent → IsSilentAt cmp until hellos sender → is_silent cmp watching sender ≡ true
      told true e at = e
      told false e at =
          let is : awaited cmp watching sender ≡ Some at.0 = watch.awaited_is sender ∙ ap (λ (b : Bool). cond b None (last_hello cmp hellos sender)) e ∙ at.1 in
          let later : until < at.2.time = none sender at.0 at.2.time is at.2.end in
          absurd (omega (arith, later, at.2.past))
