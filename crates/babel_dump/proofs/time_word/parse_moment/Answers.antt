-- Only seconds since the first packet begin with `+`.
use Rattle.std.proofs.Common.{◌≡◌, ◌<◌, ℕ, true, cond, Some, None, ap, sym, ◌∙◌, arith, lit<}
use Rattle.std.specs.Prelude.{nat_lt}
use Rattle.std.proofs.lemmas.Bool.Decides.{nat_tests}
use Rattle.std.proofs.lemmas.Str.Pattern.{strip_prefix_char}
use Rattle.babel_capture.specs.declared.window.Moment.{Moment}
use Rattle.babel_capture.specs.declared.window.Moment.TheVariants as moments
use Rattle.babel_dump.specs.declared.decimal.Decimal.{Decimal}
use Rattle.babel_dump.proofs.MomentLaws.{no_plus, plus}
use Rattle.babel_dump.proofs.time_word.parse_moment.Goals as goal

same_after : (d : Decimal) (whole units : ℕ) (moment : Moment) → Some d ≡ Some (record { whole = whole; units = units }) → moment ≡ moments.After whole units
    → Some (moments.After d.whole d.units) ≡ Some moment
same_after d whole units moment e is = let same : d ≡ record { whole = whole; units = units } = cc in ap (λ (m : Moment). Some m) (ap (λ (d : Decimal). moments.After d.whole d.units) same ∙ sym is)

in_limit : (a b limit : ℕ) → Some a ≡ Some b → b < limit → cond (nat_lt a limit) (Some a) None ≡ Some b
in_limit a b limit e early =
    let same : a ≡ b = cc in
    let below : nat_lt a limit ≡ true = rw same (lt-of b limit early) in
    rw below e
  where
    lt-of : (a b : ℕ) → a < b → nat_lt a b ≡ true
    lt-of a b lt = grind (arith, nat_tests)

no_time : {P : Type 0} (time : ℕ) → None ≡ Some time → P
no_time time e = absurd cc

same_at : (a b : ℕ) (moment : Moment) → Some a ≡ Some b → moment ≡ moments.At b → Some (moments.At a) ≡ Some moment
same_at a b moment e is = let same : a ≡ b = cc in rw same (ap (λ (m : Moment). Some m) (sym is))

pub returns-in_err-whole-in-Some-clause-reads : goal.returns-in_err-whole-in-Some-clause-reads
returns-in_err-whole-in-Some-clause-reads c = λ moment text.
    let its = plus c.args.word.now c.in-Some.seconds.now moment (strip_prefix_char 43 c.args.word.now (Some c.in-Some.seconds) c.in-Some.ensures.cases (lit< tt)) text in
    absurd (let none = c.in_err-whole-in-Some.ensures.reads its.0 its.1 its.3 its.4 in cc)

pub returns-in_err-parse_time-in-None-clause-reads : goal.returns-in_err-parse_time-in-None-clause-reads
returns-in_err-parse_time-in-None-clause-reads c = λ moment text.
    let its = no_plus c.args.word.now moment (strip_prefix_char 43 c.args.word.now None c.in-None.ensures.cases (lit< tt)) text in
    absurd (let none = c.in_err-parse_time-in-None.ensures.reads its.0 its.2 its.3 in cc)

pub returns-in_err-new-in-None-clause-reads : goal.returns-in_err-new-in-None-clause-reads
returns-in_err-new-in-None-clause-reads c = λ moment text.
    let its = no_plus c.args.word.now moment (strip_prefix_char 43 c.args.word.now None c.in-None.ensures.cases (lit< tt)) text in
    let read = c.in_ok-parse_time-in-None.ensures.reads its.0 its.2 its.3 in
    no_time its.0 (c.in_err-new-in-None.ensures ∙ in_limit c.in_ok-parse_time-in-None.field-0 its.0 253402300800000000000 read its.3)

pub returns-in_ok-whole-in-Some-clause-reads : goal.returns-in_ok-whole-in-Some-clause-reads
returns-in_ok-whole-in-Some-clause-reads c = λ moment text.
    let its = plus c.args.word.now c.in-Some.seconds.now moment (strip_prefix_char 43 c.args.word.now (Some c.in-Some.seconds) c.in-Some.ensures.cases (lit< tt)) text in
    let read = c.in_ok-whole-in-Some.ensures.reads its.0 its.1 its.3 its.4 in
    same_after c.in_ok-whole-in-Some.field-0 its.0 its.1 moment read its.2

pub returns-in_ok-new-in-None-clause-reads : goal.returns-in_ok-new-in-None-clause-reads
returns-in_ok-new-in-None-clause-reads c = λ moment text.
    let its = no_plus c.args.word.now moment (strip_prefix_char 43 c.args.word.now None c.in-None.ensures.cases (lit< tt)) text in
    let read = c.in_ok-parse_time-in-None.ensures.reads its.0 its.2 its.3 in
    same_at c.in_ok-new-in-None.field-0 its.0 moment (c.in_ok-new-in-None.ensures ∙ in_limit c.in_ok-parse_time-in-None.field-0 its.0 253402300800000000000 read its.3) its.1
