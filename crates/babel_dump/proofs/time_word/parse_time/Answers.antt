-- Only seconds begin with `@`.
use Rattle.std.proofs.Common.{◌≡◌, ◌+◌, ◌*◌, ℕ, Some, None, ap, sym, ◌∙◌, arith, lit<}
use Rattle.std.proofs.lemmas.Str.Pattern.{strip_prefix_char}
use Rattle.babel_dump.specs.declared.decimal.Decimal.{Decimal}
use Rattle.babel_dump.proofs.MomentLaws.{at_sign, no_at_sign}
use Rattle.babel_dump.proofs.time_word.parse_time.Goals as goal

same_time : (a b : Decimal) → Some a ≡ Some b → a.whole * 1000000000 + a.units ≡ b.whole * 1000000000 + b.units
same_time a b e = let same : a ≡ b = cc in ap (λ (d : Decimal). d.whole * 1000000000 + d.units) same

pub returns-in_err-parse_decimal-in-Some-clause-reads : goal.returns-in_err-parse_decimal-in-Some-clause-reads
returns-in_err-parse_decimal-in-Some-clause-reads c = λ time text early.
    let its = at_sign c.args.word.now c.in-Some.seconds.now time (strip_prefix_char 64 c.args.word.now (Some c.in-Some.seconds) c.in-Some.ensures.cases (lit< tt)) text in
    absurd (let none = c.in_err-parse_decimal-in-Some.ensures.reads its.0 its.1 its.2 (omega (arith, its.3, early)) in cc)

pub returns-in_ok-parse_decimal-in-Some-clause-reads : goal.returns-in_ok-parse_decimal-in-Some-clause-reads
returns-in_ok-parse_decimal-in-Some-clause-reads c = λ time text early.
    let its = at_sign c.args.word.now c.in-Some.seconds.now time (strip_prefix_char 64 c.args.word.now (Some c.in-Some.seconds) c.in-Some.ensures.cases (lit< tt)) text in
    let read = c.in_ok-parse_decimal-in-Some.ensures.reads its.0 its.1 its.2 (omega (arith, its.3, early)) in
    ap (λ (t : ℕ). Some t) (c.nanoseconds_of.ensures ∙ same_time c.in_ok-parse_decimal-in-Some.field-0 (record { whole = its.0; units = its.1 }) read ∙ sym its.3)

pub returns-in-None-clause-reads : goal.returns-in-None-clause-reads
returns-in-None-clause-reads c = λ time text early.
    c.parse_date_time.ensures.reads time (no_at_sign c.args.word.now time (strip_prefix_char 64 c.args.word.now None c.in-None.ensures.cases (lit< tt)) text)
