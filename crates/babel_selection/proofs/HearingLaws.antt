-- What is kept of Hellos and IHUs is what all of them say.
use Rattle.std.proofs.Common.{◌≡◌, ℕ, ◌<◌, ◌≤◌, Bool, true, false, cond, ltb, lt-ltb, le-ltb, List, [], ◌∷◌, Option, Some, None, refl, sym, ap, subst, ◌∙◌, arith}
use Rattle.std.specs.Prelude.{◌&&◌, not}
use Rattle.std.specs.declared.cmp.Ordering.{Ordering}
use Rattle.std.specs.declared.cmp.Ordering.TheVariants.{Less, Equal, Greater}
use Rattle.std.specs.Ordering.{is_eq, ordering_then}
use Rattle.std.specs.BTreeMap.{is_at}
use Rattle.std.proofs.lemmas.List.Sums.{fold-append}
use Rattle.std.proofs.lemmas.Map.Lookups.{CmpEqualImpliesEq}
use Rattle.babel_prefix.proofs.Insertion.{equal_of}
use Rattle.babel_tlv.specs.declared.hello.Hello.{Hello}
use Rattle.babel_selection.specs.declared.hello_count.HelloCount.{HelloCount}
use Rattle.babel_selection.specs.declared.ihu_from.IhuFrom.{IhuFrom}
use Rattle.babel_selection.specs.declared.ihu_from.IhuSaid.{IhuSaid}
use Rattle.babel_selection.specs.declared.ihus.Numbered.{Numbered}
use Rattle.babel_selection.specs.declared.ihus.Pair.{Pair}
use Rattle.babel_selection.specs.Hearing.{AreNumbered, BeginsCounts, BeginsLast, HelloKeepsCounts, IhuKeepsLast, LastIhus, TakesAll, TakesNamed, entry_at, later, pair_cmp, pair_of}
use Rattle.babel_selection.specs.Links.{after_hello, hello_count, names}

both : (a b : Bool) → (a && b) ≡ true → b ≡ true
both true b e = e
both false b e = absurd cc

-- one pair is another if router and neighbour are
pair_same : (a b : Ordering) → is_eq (ordering_then a b) ≡ (is_eq a && is_eq b)
pair_same Less b = refl
pair_same Equal b = refl
pair_same Greater b = refl

nothing_later : (b : Bool) → later None (cond b None None) ≡ None
nothing_later true = refl
nothing_later false = refl

-- an IHU with a larger number is the later one, on either side
named_later : (same : Bool) (x : Numbered) (own all : Option Numbered) (heard : ℕ) → ((one : Numbered) → all ≡ Some one → one.number ≤ heard) → heard < x.number
    → later (cond same (Some x) own) all ≡ cond same (Some x.said) (later own all)
named_later false x own all heard few more = refl
named_later true x own None heard few more = refl
named_later true x own (Some one) heard few more =
    let at_most : one.number ≤ heard = few one refl in
    let not_less : ltb x.number one.number ≡ false = le-ltb _ _ (omega (arith, at_most, more)) in
    rw not_less refl

all_later : (same guard : Bool) (x : Numbered) (own all : Option Numbered) (heard : ℕ) → ((one : Numbered) → own ≡ Some one → one.number ≤ heard) → heard < x.number
    → later own (cond guard (cond same (Some x) all) None) ≡ cond (same && guard) (Some x.said) (later own (cond guard all None))
all_later false true x own all heard few more = refl
all_later false false x own all heard few more = refl
all_later true false x own all heard few more = refl
all_later true true x None all heard few more = refl
all_later true true x (Some one) all heard few more =
    let at_most : one.number ≤ heard = few one refl in
    let less : ltb one.number x.number ≡ true = lt-ltb _ _ (omega (arith, at_most, more)) in
    rw less refl

-- a new entry's number, and those of the old ones
one_number : (same : Bool) (x one : Numbered) (old : Option Numbered) (heard : ℕ) → x.number ≤ heard → ((it : Numbered) → old ≡ Some it → it.number ≤ heard)
    → cond same (Some x) old ≡ Some one → one.number ≤ heard
one_number true x one old heard new few e = let is : x ≡ one = cc in subst (λ (it : Numbered). it.number ≤ heard) is new
one_number false x one old heard new few e = few one e

module _ {S : Type 0} (cmp : S → S → Ordering) where
  -- ---- Hellos

  pub begins_counts : BeginsCounts cmp
  begins_counts sender = refl

  pub hello_keeps_counts : CmpEqualImpliesEq cmp → HelloKeepsCounts cmp
  hello_keeps_counts exact hellos sender hello old new are counts other =
      counts other
      ∙ by (not hello.is_unicast && is_at (cmp sender) other)
      (λ e. exact sender other (equal_of (cmp sender other) (both (not hello.is_unicast) (is_at (cmp sender) other) e)))
      ∙ sym (fold-append (λ (count : Option HelloCount) (one : S × Hello). cond (not one.1.is_unicast && is_at (cmp one.0) other)
      (Some (after_hello one.1 count)) count) None hellos ((sender, hello) ∷ []))
    where
      by : (b : Bool) → (b ≡ true → sender ≡ other)
          → cond b (Some (after_hello hello (entry_at cmp old sender))) (entry_at cmp old other) ≡ cond b (Some (after_hello hello (hello_count cmp hellos other))) (hello_count cmp hellos other)
      by true same =
          ap (λ (s : S). let count : Option HelloCount = Some (after_hello hello (entry_at cmp old s)) in count) (same refl)
          ∙ ap (λ (c : Option HelloCount). let count : Option HelloCount = Some (after_hello hello c) in count) (are other)
      by false same = are other

  -- ---- IHUs

  pub begins_last : BeginsLast cmp
  begins_last router neighbour sends = nothing_later (sends && not (is_at (cmp router) neighbour))

  pub ihu_keeps_last : IhuKeepsLast cmp
  ihu_keeps_last ihus ihu old new are takes router neighbour sends =
      takes router neighbour sends
      ∙ ap (λ (last : Option IhuSaid). cond (names cmp ihu router neighbour sends) (Some ihu.said) last) (are router neighbour sends)
      ∙ sym (fold-append (λ (last : Option IhuSaid) (one : IhuFrom S). cond (names cmp one router neighbour sends) (Some one.said) last) None ihus (ihu ∷ []))

  -- what a map has, once it has this IHU
  abbrev pub HasNamed : Pair S → Numbered → LastIhus S → LastIhus S → Type 0
  HasNamed pair x old new = (other : Pair S) → entry_at (pair_cmp cmp) new.named other ≡ cond (is_at (pair_cmp cmp pair) other) (Some x) (entry_at (pair_cmp cmp) old.named other)

  abbrev pub HasAll : S → Numbered → LastIhus S → LastIhus S → Type 0
  HasAll router x old new = (other : S) → entry_at cmp new.to_all other ≡ cond (is_at (cmp router) other) (Some x) (entry_at cmp old.to_all other)

  pub takes_named : (pair : Pair S) (x : Numbered) (old new : LastIhus S) → AreNumbered cmp old → old.heard < x.number → HasNamed pair x old new → new.to_all ≡ old.to_all
      → TakesNamed cmp pair x.said old new
  takes_named pair x old new numbered more has same router neighbour sends =
      let other : Pair S = pair_of router neighbour in
      let guard : Bool = sends && not (is_at (cmp router) neighbour) in
      let all : Option Numbered = cond guard (entry_at cmp old.to_all router) None in
      ap (λ (m : List (S × Numbered)). later (entry_at (pair_cmp cmp) new.named other) (cond guard (entry_at cmp m router) None)) same
      ∙ ap (λ (o : Option Numbered). later o all) (has other)
      ∙ ap (λ (b : Bool). later (cond b (Some x) (entry_at (pair_cmp cmp) old.named other)) all) (pair_same (cmp pair.router router) (cmp pair.neighbour neighbour))
      ∙ named_later (is_at (cmp pair.router) router && is_at (cmp pair.neighbour) neighbour) x (entry_at (pair_cmp cmp) old.named other) all old.heard (few guard) more
    where
      few : (b : Bool) (one : Numbered) → cond b (entry_at cmp old.to_all router) None ≡ Some one → one.number ≤ old.heard
      few true one e = numbered.to_all router one e
      few false one e = absurd cc

  pub takes_all : (router : S) (x : Numbered) (old new : LastIhus S) → AreNumbered cmp old → old.heard < x.number → HasAll router x old new → new.named ≡ old.named → TakesAll cmp router x.said old new
  takes_all router x old new numbered more has same it neighbour sends =
      let other : Pair S = pair_of it neighbour in
      let guard : Bool = sends && not (is_at (cmp it) neighbour) in
      ap (λ (m : List (Pair S × Numbered)). later (entry_at (pair_cmp cmp) m other) (cond guard (entry_at cmp new.to_all it) None)) same
      ∙ ap (λ (o : Option Numbered). later (entry_at (pair_cmp cmp) old.named other) (cond guard o None)) (has it)
      ∙ all_later (is_at (cmp router) it) guard x (entry_at (pair_cmp cmp) old.named other) (entry_at cmp old.to_all it) old.heard (numbered.named other) more

  pub numbered_named : (pair : Pair S) (x : Numbered) (old new : LastIhus S) → AreNumbered cmp old → HasNamed pair x old new → new.to_all ≡ old.to_all → old.heard ≤ new.heard
      → x.number ≤ new.heard → AreNumbered cmp new
  numbered_named pair x old new numbered has same more fits = record {
    named = λ other one e. one_number (is_at (pair_cmp cmp pair) other) x one (entry_at (pair_cmp cmp) old.named other) new.heard fits
        (λ it is. let at_most : it.number ≤ old.heard = numbered.named other it is in omega (arith, at_most, more)) (sym (has other) ∙ e);
    to_all = λ router one e. let at_most : one.number ≤ old.heard = numbered.to_all router one (ap (λ (m : List (S × Numbered)). entry_at cmp m router) (sym same) ∙ e) in omega (arith, at_most, more);
  }

  pub numbered_all : (router : S) (x : Numbered) (old new : LastIhus S) → AreNumbered cmp old → HasAll router x old new → new.named ≡ old.named → old.heard ≤ new.heard
      → x.number ≤ new.heard → AreNumbered cmp new
  numbered_all router x old new numbered has same more fits = record {
    named = λ other one e. let at_most : one.number ≤ old.heard = numbered.named other one
        (ap (λ (m : List (Pair S × Numbered)). entry_at (pair_cmp cmp) m other) (sym same) ∙ e) in omega (arith, at_most, more);
    to_all = λ other one e. one_number (is_at (cmp router) other) x one (entry_at cmp old.to_all other) new.heard fits
        (λ it is. let at_most : it.number ≤ old.heard = numbered.to_all other it is in omega (arith, at_most, more)) (sym (has other) ∙ e);
  }
