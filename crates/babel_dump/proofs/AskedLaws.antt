-- What lines ask for, one line more at a time, and that it is one.
use Rattle.std.proofs.Common.{◌≡◌, refl, suc, Bor, ℕ, ◌+◌, ◌<◌, false, not, List, [], ◌∷◌, ◌++◌, length, map, take, drop, get_or, ap, sym, subst, ◌∙◌, add-one, append-nil, arith}
use Rattle.std.specs.List.{AllZip, flat_map}
use Rattle.std.proofs.lemmas.List.{get_or-map, length-map, length-take-le, map-append}
use Rattle.std.proofs.lemmas.List.Elements.{filter-append}
use Rattle.std.proofs.Math.Seq.{split_at, take-suc}
use Rattle.babel_prefix.specs.Address.{Address}
use Rattle.babel_prefix.specs.Text.{AddressText}
use Rattle.babel_prefix.proofs.TextLaws.{one_address}
use Rattle.babel_dump.specs.AskedPairs.{AskFor, AsksBy, IsFirstWrong, SaysPair, asking, is_passed_over, words_of}
use Rattle.babel_dump.specs.declared.addr_pair.AddrPair.{AddrPair}
use Rattle.babel_dump.specs.declared.asked_pairs.Asked.{Asked}
use Rattle.babel_dump.specs.declared.asked_pairs.Asked.TheVariants as asks

-- three words tell as much as all
passed_by_three : (words : List (List ℕ)) → is_passed_over (take 3 words) ≡ is_passed_over words
passed_by_three [] = refl
passed_by_three (word ∷ rest) = refl

two_of_three : (words : List (List ℕ)) (dst src : List ℕ) → take 3 words ≡ dst ∷ src ∷ [] → words ≡ dst ∷ src ∷ []
two_of_three [] dst src is = absurd cc
two_of_three (a ∷ []) dst src is = absurd cc
two_of_three (a ∷ b ∷ []) dst src is = is
two_of_three (a ∷ b ∷ c ∷ rest) dst src is = absurd cc

says_by_three : (words : List (List ℕ)) (pair : AddrPair) → SaysPair (take 3 words) pair → SaysPair words pair
says_by_three words pair says = record {
  dst = says.dst;
  src = says.src;
  are = two_of_three words says.dst says.src says.are;
  are_texts = says.are_texts;
  is_dst = says.is_dst;
  is_src = says.is_src;
}

three_say : (words : List (List ℕ)) (pair : AddrPair) → SaysPair words pair → SaysPair (take 3 words) pair
three_say words pair says = record {
  dst = says.dst;
  src = says.src;
  are = ap (λ (w : List (List ℕ)). take 3 w) says.are;
  are_texts = says.are_texts;
  is_dst = says.is_dst;
  is_src = says.is_src;
}

pub asks_by_three : (words : List (List ℕ)) (asked : Asked) → AsksBy (take 3 words) asked → AsksBy words asked
asks_by_three words asks.Nothing by = sym (passed_by_three words) ∙ by
asks_by_three words (asks.Pair pair) by = (sym (passed_by_three words) ∙ by.0, says_by_three words pair by.1)
asks_by_three words asks.Wrong by = (sym (passed_by_three words) ∙ by.0, λ pair says. by.1 pair (three_say words pair says))

-- one more line
zip_append : {A B : Type 0} (R : A → B → Type 0) (xs more : List A) (ys others : List B) → AllZip R xs ys → AllZip R more others → AllZip R (xs ++ more) (ys ++ others)
zip_append R [] more [] others all rest = rest
zip_append R [] more (y ∷ ys) others all rest = absurd all
zip_append R (x ∷ xs) more [] others all rest = absurd all
zip_append R (x ∷ xs) more (y ∷ ys) others all rest = (all.0, zip_append R xs more ys others all.1 rest)

asking-append : (lines more : List (List ℕ)) → asking (lines ++ more) ≡ asking lines ++ asking more
asking-append lines more = rw (map-append words_of lines more, filter-append (λ (words : List (List ℕ)). not (is_passed_over words)) (map words_of lines) (map words_of more)) refl

pub asked_more : (lines more : List (List ℕ)) (pairs others : List AddrPair) → AskFor lines pairs → AskFor more others → AskFor (lines ++ more) (pairs ++ others)
asked_more lines more pairs others asked rest =
    subst (λ (words : List (List (List ℕ))). AllZip SaysPair words (pairs ++ others)) (sym (asking-append lines more))
    (zip_append SaysPair (asking lines) (asking more) pairs others asked rest)

pub asks_nothing : (line : List ℕ) → AsksBy (words_of line) asks.Nothing → AskFor (line ∷ []) []
asks_nothing line by = rw by tt

pub asks_pair : (line : List ℕ) (pair : AddrPair) → AsksBy (words_of line) (asks.Pair pair) → AskFor (line ∷ []) (pair ∷ [])
asks_pair line pair by = rw by.0 (by.1, tt)

-- the lines as far as a loop over them has come, and the next
pub record AreAsked (items : List (Bor (List ℕ))) (lines : List (List ℕ)) (i : ℕ) (pairs : List AddrPair) : Type 0 where
  pub lines_are : map (λ line. line.now) items ≡ lines
  pub asked : AskFor (take i lines) pairs

next_line : (items : List (Bor (List ℕ))) (lines : List (List ℕ)) (i : ℕ) (d : Bor (List ℕ)) → map (λ line. line.now) items ≡ lines → i < length items
    → (i < length lines) × (get_or lines i [] ≡ (get_or items i d).now)
next_line items lines i d are within =
    (rw (← are) (rw length-map within), rw (← are) (get_or-map (λ (line : Bor (List ℕ)). line.now) items i d [] within))

pub asked_step : (items : List (Bor (List ℕ))) (lines : List (List ℕ)) (i : ℕ) (d : Bor (List ℕ)) (pairs others : List AddrPair) → AreAsked items lines i pairs → i < length items
    → AskFor ((get_or items i d).now ∷ []) others → AskFor (take (i + 1) lines) (pairs ++ others)
asked_step items lines i d pairs others so_far within rest =
    let next = next_line items lines i d so_far.lines_are within in
    let line : take (suc i) lines ≡ take i lines ++ (get_or items i d).now ∷ [] = take-suc lines i [] next.0 ∙ ap (λ (line : List ℕ). take i lines ++ line ∷ []) next.1 in
    rw (add-one, line) (asked_more (take i lines) ((get_or items i d).now ∷ []) pairs others so_far.asked rest)

pub nothing_step : (items : List (Bor (List ℕ))) (lines : List (List ℕ)) (i : ℕ) (d : Bor (List ℕ)) (pairs : List AddrPair) (asked : Asked) → AreAsked items lines i pairs
    → i < length items → AsksBy (words_of (get_or items i d).now) asked → asked ≡ asks.Nothing → AskFor (take (i + 1) lines) pairs
nothing_step items lines i d pairs asked so_far within by is =
    rw (append-nil pairs) at (asked_step items lines i d pairs [] so_far within (asks_nothing (get_or items i d).now (rw is at by)))

pub pair_step : (items : List (Bor (List ℕ))) (lines : List (List ℕ)) (i : ℕ) (d : Bor (List ℕ)) (pairs : List AddrPair) (asked : Asked) (pair : AddrPair) → AreAsked items lines i pairs
    → i < length items → AsksBy (words_of (get_or items i d).now) asked → asked ≡ asks.Pair pair → AskFor (take (i + 1) lines) (pairs ++ pair ∷ [])
pair_step items lines i d pairs asked pair so_far within by is =
    asked_step items lines i d pairs (pair ∷ []) so_far within (asks_pair (get_or items i d).now pair (rw is at by))

-- the next line is the first that is wrong
pub wrong_step : (items : List (Bor (List ℕ))) (lines : List (List ℕ)) (i : ℕ) (d : Bor (List ℕ)) (pairs : List AddrPair) (asked : Asked) → AreAsked items lines i pairs
    → i < length items → AsksBy (words_of (get_or items i d).now) asked → asked ≡ asks.Wrong → IsFirstWrong lines (i + 1)
wrong_step items lines i d pairs asked so_far within by is =
    let next = next_line items lines i d so_far.lines_are within in record {
      before = take i lines;
      line = (get_or items i d).now;
      after = drop (suc i) lines;
      cut = split_at lines i [] next.0 ∙ ap (λ (line : List ℕ). take i lines ++ line ∷ drop (suc i) lines) next.1;
      counted = let all = length-take-le i lines (omega (arith, next.0)) in omega (arith, all);
      pairs = pairs;
      asked = so_far.asked;
      wrong = rw is at by;
    }

-- two words, and what they say
pub two_words : (words : List (Bor (List ℕ))) (d e : Bor (List ℕ)) → length words ≡ 2 → map (λ word. word.now) words ≡ (get_or words 0 d).now ∷ (get_or words 1 e).now ∷ []
two_words [] d e two = absurd (omega (arith, two))
two_words (a ∷ []) d e two = absurd (omega (arith, two))
two_words (a ∷ b ∷ []) d e two = refl
two_words (a ∷ b ∷ c ∷ rest) d e two = absurd (omega (arith, two))

pub other_family : (d s : List ℕ) (dst src : Address) → AddressText d dst → AddressText s src → ¬ (dst.family ≡ src.family) → (pair : AddrPair) → SaysPair (d ∷ s ∷ []) pair → ⊥
other_family d s dst src is_dst is_src differ pair says =
    let first : says.dst ≡ d = cc (says.are) in
    let second : says.src ≡ s = cc (says.are) in
    let same_dst = one_address d dst pair.dst is_dst (rw first at says.is_dst) in
    let same_src = one_address s src pair.src is_src (rw second at says.is_src) in
    differ (ap (λ (a : Address). a.family) same_dst ∙ pair.one_family ∙ sym (ap (λ (a : Address). a.family) same_src))

-- one text asks for one list of destinations and sources
same_pair : (words : List (List ℕ)) (one two : AddrPair) → SaysPair words one → SaysPair words two → (one.dst ≡ two.dst) × (one.src ≡ two.src)
same_pair words one two is is_too =
    let both : is.dst ∷ is.src ∷ [] ≡ is_too.dst ∷ is_too.src ∷ [] = sym is.are ∙ is_too.are in
    let dst : is.dst ≡ is_too.dst = cc in
    let src : is.src ≡ is_too.src = cc in
    (one_address is_too.dst one.dst two.dst (rw dst at is.is_dst) is_too.is_dst, one_address is_too.src one.src two.src (rw src at is.is_src) is_too.is_src)

pub same_texts : (text_of : Address → Address → List ℕ) (words : List (List (List ℕ))) (one two : List AddrPair) → AllZip SaysPair words one → AllZip SaysPair words two
    → flat_map (λ pair. text_of pair.dst pair.src) one ≡ flat_map (λ pair. text_of pair.dst pair.src) two
same_texts text_of [] [] [] is is_too = refl
same_texts text_of [] [] (q ∷ two) is is_too = absurd is_too
same_texts text_of [] (p ∷ one) two is is_too = absurd is
same_texts text_of (w ∷ words) [] two is is_too = absurd is
same_texts text_of (w ∷ words) (p ∷ one) [] is is_too = absurd is_too
same_texts text_of (w ∷ words) (p ∷ one) (q ∷ two) is is_too =
    let same = same_pair w p q is.0 is_too.0 in
    let rest = same_texts text_of words one two is.1 is_too.1 in
    rw (same.0, same.1, rest) refl

pub same_statuses : (status : Address → Address → ℕ) (words : List (List (List ℕ))) (one two : List AddrPair) → AllZip SaysPair words one → AllZip SaysPair words two
    → map (λ pair. status pair.dst pair.src) one ≡ map (λ pair. status pair.dst pair.src) two
same_statuses status [] [] [] is is_too = refl
same_statuses status [] [] (q ∷ two) is is_too = absurd is_too
same_statuses status [] (p ∷ one) two is is_too = absurd is
same_statuses status (w ∷ words) [] two is is_too = absurd is
same_statuses status (w ∷ words) (p ∷ one) [] is is_too = absurd is_too
same_statuses status (w ∷ words) (p ∷ one) (q ∷ two) is is_too =
    let same = same_pair w p q is.0 is_too.0 in
    let rest = same_statuses status words one two is.1 is_too.1 in
    rw (same.0, same.1, rest) refl

asks_first : (line : List ℕ) (after : List (List ℕ)) → is_passed_over (words_of line) ≡ false → asking (line ∷ after) ≡ words_of line ∷ asking after
asks_first line after is = rw is refl

no_pair : (before after : List (List (List ℕ))) (words : List (List ℕ)) (pairs : List AddrPair) → AllZip SaysPair (before ++ words ∷ after) pairs
    → ((pair : AddrPair) → SaysPair words pair → ⊥) → ⊥
no_pair [] after words [] all none = absurd all
no_pair [] after words (pair ∷ pairs) all none = none pair all.0
no_pair (w ∷ before) after words [] all none = absurd all
no_pair (w ∷ before) after words (pair ∷ pairs) all none = no_pair before after words pairs all.1 none

-- no line that asks is wrong among lines that ask for pairs
says_within : (before after : List (List ℕ)) (line : List ℕ) (pairs : List AddrPair) → AskFor (before ++ line ∷ after) pairs → AsksBy (words_of line) asks.Wrong → ⊥
says_within before after line pairs asked wrong =
    let words : asking (before ++ line ∷ after) ≡ asking before ++ words_of line ∷ asking after = asking-append before (line ∷ after)
    ∙ ap (λ (rest : List (List (List ℕ))). asking before ++ rest) (asks_first line after wrong.0) in
    no_pair (asking before) (asking after) (words_of line) pairs (rw words at asked) wrong.1

pub not_wrong : (lines : List (List ℕ)) (pairs : List AddrPair) (at : ℕ) → AskFor lines pairs → IsFirstWrong lines at → ⊥
not_wrong lines pairs at asked is = says_within is.before is.after is.line pairs (rw is.cut at asked) is.wrong

-- one line is the first that is wrong
same_place : {A : Type 0} (one two rest others : List A) (x y : A) → one ++ x ∷ rest ≡ two ++ y ∷ others → ((more : List A) → two ≡ one ++ x ∷ more → ⊥)
    → ((more : List A) → one ≡ two ++ y ∷ more → ⊥) → length one ≡ length two
same_place [] [] rest others x y is later sooner = refl
same_place [] (b ∷ two) rest others x y is later sooner = let same : b ≡ x = cc in absurd (later two (ap (λ (a : _). a ∷ two) same))
same_place (a ∷ one) [] rest others x y is later sooner = let same : a ≡ y = cc in absurd (sooner one (ap (λ (b : _). b ∷ one) same))
same_place (a ∷ one) (b ∷ two) rest others x y is later sooner =
    let first : a ≡ b = cc in
    let tails : one ++ x ∷ rest ≡ two ++ y ∷ others = cc in
    ap suc (same_place one two rest others x y tails (λ more e. later more (rw (first, e) refl)) (λ more e. sooner more (rw (first, e) refl)))

pub first_wrong_one : (lines : List (List ℕ)) (one two : ℕ) → IsFirstWrong lines one → IsFirstWrong lines two → one ≡ two
first_wrong_one lines one two is is_too =
    let places = same_place is.before is_too.before is.after is_too.after is.line is_too.line (sym is.cut ∙ is_too.cut)
    (λ more e. says_within is.before more is.line is_too.pairs (rw e at is_too.asked) is.wrong)
    (λ more e. says_within is_too.before more is_too.line is.pairs (rw e at is.asked) is_too.wrong) in
    omega (arith, places, is.counted, is_too.counted)
