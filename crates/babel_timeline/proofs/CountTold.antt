-- How many rows who falls silent holds, step by step.
use Rattle.std.proofs.Common.{◌≡◌, ℕ, ◌≤◌, Bool, true, false, cond, List, [], ◌∷◌, ◌++◌, map, Option, Some, None, refl, sym, ap, subst, ◌∙◌, arith, append_assoc}
use Rattle.std.specs.declared.cmp.Ordering.{Ordering}
use Rattle.std.specs.Cmp.{IsTotalOrder}
use Rattle.std.specs.BTreeMap.{is_at}
use Rattle.std.proofs.lemmas.List.{append-nil, map-append}
use Rattle.std.proofs.lemmas.Map.Lookups.{CmpEqualImpliesEq}
use Rattle.babel_table.specs.Moments.{Stamp, end_after}
use Rattle.babel_timeline.specs.declared.change.Change.{Change}
use Rattle.babel_timeline.specs.declared.telling.Telling.{Telling}
use Rattle.babel_timeline.specs.declared.telling.Telling.TheVariants as tellings
use Rattle.babel_timeline.specs.declared.watch.Silence.{Silence}
use Rattle.babel_timeline.specs.Laws.{without}
use Rattle.babel_timeline.specs.Rows.{AllLast, Rows}
use Rattle.babel_timeline.specs.Silence.{FallsSilent, Watching, awaited, patience, row_count}
use Rattle.babel_timeline.specs.SilencesTold.{CountsRows, EachCounts, Leaving, LeavesRows, TellsCounts, TellsOnlyReturns}
use Rattle.babel_timeline.specs.Telling.{AllEnd, TellsEnds, of_rows}
use Rattle.babel_timeline.proofs.SilenceTold.{ends_all, ends_of_rows, ends_to-then, silent_adds}
use Rattle.babel_timeline.proofs.TellingLaws.{EndsTo, ends-begin}

module _ {S : Type 0} where
  pub returns_none : (time : ℕ) (told : List (Telling S)) → TellsOnlyReturns time told told
  returns_none time told = ([], sym (append-nil told))

  pub returns_one : (time : ℕ) (sender : S) (old new : List (Telling S)) → new ≡ old ++ tellings.Returns time sender ∷ [] → TellsOnlyReturns time old new
  returns_one time sender old new is = (sender ∷ [], is)

  pub returns_more : (time : ℕ) (a b c : List (Telling S)) → TellsOnlyReturns time a b → TellsOnlyReturns time b c → TellsOnlyReturns time a c
  returns_more time a b c (first, one) (second, two) = (
    first ++ second,
    two ∙ ap (λ (t : List (Telling S)). t ++ map (tellings.Returns time) second) one ∙ append_assoc a (map (tellings.Returns time) first) (map (tellings.Returns time) second)
        ∙ ap (λ (t : List (Telling S)). a ++ t) (sym (map-append (tellings.Returns time) first second)),
  )

module _ {S : Type 0} (Leaves : Leaving S) where
  each_then : (told more later : List (Telling S)) → EachCounts Leaves told more → EachCounts Leaves (told ++ more) later → EachCounts Leaves told (more ++ later)
  each_then told [] later each rest = subst (λ (t : List (Telling S)). EachCounts Leaves t later) (append-nil told) rest
  each_then told (one ∷ more) later each rest =
      (each.0, each_then (told ++ one ∷ []) more later each.1 (subst (λ (t : List (Telling S)). EachCounts Leaves t later) (sym (append_assoc told (one ∷ []) more)) rest))

  each_change : (told : List (Telling S)) (changes : List (Change S)) → EachCounts Leaves told (map tellings.Change changes)
  each_change told [] = tt
  each_change told (one ∷ changes) = (tt, each_change (told ++ tellings.Change one ∷ []) changes)

  each_return : (told : List (Telling S)) (time : ℕ) (senders : List S) → EachCounts Leaves told (map (tellings.Returns time) senders)
  each_return told time [] = tt
  each_return told time (one ∷ senders) = (tt, each_return (told ++ tellings.Returns time one ∷ []) time senders)

  -- the same of what is told behind more
  module _ (Also : Leaving S) (before : List (Telling S)) (also : (told : List (Telling S)) (time : ℕ) (sender : S) (routes : ℕ) → Leaves told time sender routes → Also (before ++ told) time sender routes) where
    counts_also : (told : List (Telling S)) (one : Telling S) → CountsRows Leaves told one → CountsRows Also (before ++ told) one
    counts_also told (tellings.Change change) counts = tt
    counts_also told (tellings.Answer time sender answer was) counts = tt
    counts_also told (tellings.Request time sender to request) counts = tt
    counts_also told (tellings.Silent time sender since routes) counts = also told time sender routes counts
    counts_also told (tellings.Returns time sender) counts = tt

    pub each_also : (told more : List (Telling S)) → EachCounts Leaves told more → EachCounts Also (before ++ told) more
    each_also told [] each = tt
    each_also told (one ∷ more) each = (
      counts_also told one each.0,
      subst (λ (t : List (Telling S)). EachCounts Also t more) (sym (append_assoc before told (one ∷ []))) (each_also (told ++ one ∷ []) more each.1),
    )

pub all_end-last : {S : Type 0} (cmp : S → S → Ordering) (factor : Option ℕ) (until : ℕ) (changes : List (Change S)) (rows after : Rows S) → AllEnd cmp factor until rows changes after
    → AllLast cmp factor until after
all_end-last cmp factor until [] rows after ends = subst (AllLast cmp factor until) ends.0 ends.1
all_end-last cmp factor until (told ∷ later) rows after ends = all_end-last cmp factor until later (without cmp told.subject rows) after ends.3

module _ {S : Type 0} (cmp : S → S → Ordering) (factor : Option ℕ) (rows : Rows S) where
  module _ (old : List (Telling S)) where
    abbrev Leaves : Leaving S
    Leaves = LeavesRows cmp factor rows old

    counts_then : (b c later : List (Telling S)) → TellsCounts cmp factor rows old b → c ≡ b ++ later → EachCounts Leaves b later → TellsCounts cmp factor rows old c
    counts_then b c later (more, is, all) then rest = (
      more ++ later,
      then ∙ ap (λ (t : List (Telling S)). t ++ later) is ∙ append_assoc old more later,
      each_then Leaves old more later all (subst (λ (t : List (Telling S)). EachCounts Leaves t later) is rest),
    )

    pub counts_none : TellsCounts cmp factor rows old old
    counts_none = ([], sym (append-nil old), tt)

    pub counts_changes : (b c : List (Telling S)) (changes : List (Change S)) → c ≡ b ++ map tellings.Change changes → TellsCounts cmp factor rows old b → TellsCounts cmp factor rows old c
    counts_changes b c changes is counts = counts_then b c (map tellings.Change changes) counts is (each_change Leaves b changes)

    pub counts_returns : (b c : List (Telling S)) (time : ℕ) → TellsOnlyReturns time b c → TellsCounts cmp factor rows old b → TellsCounts cmp factor rows old c
    counts_returns b c time (senders, is) counts = counts_then b c (map (tellings.Returns time) senders) counts is (each_return Leaves b time senders)

  -- Who fell silent so far did so by a moment, and all that ends by then was told, and how many rows
  -- each held. Whose Hello is waited for falls silent then or later.
  pub record EndsSoFar (until : ℕ) (now : Rows S) (old new : List (Telling S)) (watching : Watching S) : Type 0 where
    pub moment : ℕ
    pub by : moment ≤ until
    pub ends : (time : ℕ) → moment ≤ time → EndsTo cmp factor None time rows now (of_rows None old) (of_rows None new)
    pub awaits : (sender : S) (hello : Stamp) (time : ℕ) → awaited cmp watching sender ≡ Some hello → end_after patience hello ≡ Some time → moment ≤ time
    pub counts : TellsCounts cmp factor rows old new

  module _ (total : IsTotalOrder cmp) (exact : CmpEqualImpliesEq cmp) (until : ℕ) where
    pub so_far_none : (old : List (Telling S)) (watching : Watching S) → EndsSoFar until rows old old watching
    so_far_none old watching = record {
      moment = 0;
      by = omega arith;
      ends = λ time le. ends-begin cmp total exact factor None time rows (of_rows None old);
      awaits = λ sender hello time is end. omega arith;
      counts = counts_none old;
    }

    pub so_far_more : (now after : Rows S) (a b c d : List (Telling S)) (was watching : Watching S) (silence : Silence S) (routes : ℕ) → EndsSoFar until now a b was → silence.time ≤ until
        → FallsSilent cmp silence was watching → TellsEnds cmp factor None silence.time now after b c → routes ≡ row_count cmp silence.sender after
        → d ≡ c ++ tellings.Silent silence.time silence.sender silence.since routes ∷ [] → EndsSoFar until after a d watching
    so_far_more now after a b c d was watching silence routes so by falls ends are adds = record {
      moment = silence.time;
      by = by;
      ends = λ time le. subst (λ (t : List (Telling S)). EndsTo cmp factor None time rows after (of_rows None a) t) (sym same)
          (ends_to-then cmp total exact factor None silence.time time le rows now after (of_rows None a) (of_rows None b) (of_rows None c) (so.ends time (omega (arith, reached, le))) here);
      awaits = awaits;
      counts = counts_then a b d (map tellings.Change ends.changes ++ last ∷ []) so.counts (adds ∙ ap (λ (t : List (Telling S)). t ++ last ∷ []) ends.told ∙ append_assoc b (map tellings.Change ends.changes) (last ∷ []))
          (each_then (LeavesRows cmp factor rows a) b (map tellings.Change ends.changes) (last ∷ []) (each_change (LeavesRows cmp factor rows a) b ends.changes) (leaves, tt));
    }
      where
        last : Telling S
        last = tellings.Silent silence.time silence.sender silence.since routes

        reached : so.moment ≤ silence.time
        reached = so.awaits silence.sender falls.hello silence.time falls.last falls.time

        same : of_rows None d ≡ of_rows None c
        same = ap (of_rows None) adds ∙ silent_adds c silence.time silence.sender silence.since routes

        here : TellsEnds cmp factor None silence.time now after (of_rows None b) (of_rows None c)
        here = ends_of_rows cmp factor None silence.time now after b c ends

        leaves : LeavesRows cmp factor rows a (b ++ map tellings.Change ends.changes) silence.time silence.sender routes
        leaves = subst (λ (t : List (Telling S)). LeavesRows cmp factor rows a t silence.time silence.sender routes) ends.told (record {
          left = after;
          ends = ends_all cmp total exact factor None silence.time rows now after (of_rows None a) (of_rows None b) (of_rows None c) (so.ends silence.time reached) here;
          are = are;
        })

        awaits : (sender : S) (hello : Stamp) (time : ℕ) → awaited cmp watching sender ≡ Some hello → end_after patience hello ≡ Some time → silence.time ≤ time
        awaits sender hello time is end = of (is_at (cmp silence.sender) sender) refl
          where
            of : (here : Bool) → is_at (cmp silence.sender) sender ≡ here → silence.time ≤ time
            of true at = absurd (let bad : None ≡ Some hello = sym (falls.awaited_is sender ∙ ap (λ (b : Bool). cond b None (awaited cmp was sender)) at) ∙ is in cc)
            of false at = (falls.first sender hello time (sym (falls.awaited_is sender ∙ ap (λ (b : Bool). cond b None (awaited cmp was sender)) at) ∙ is) end).0
