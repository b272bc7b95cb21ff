-- The block of the first row that the last lies in.
use Rattle.std.proofs.Common.{◌≡◌, ◌+◌, ◌-◌, ◌/◌, ◌^◌, ◌<◌, ◌≤◌, length, sym, ◌∙◌, ap, subst, arith}
use Rattle.std.proofs.Math.Nat.{div-mul-le_self}
use Rattle.std.proofs.Math.Pow.{pow_mono}
use Rattle.std.proofs.lemmas.Nat.{le-div, pow_pos}
use Rattle.babel_prefix.specs.Address.{Address}
use Rattle.babel_trie.specs.Rows.{source_block, InBlock, IsPlace}
use Rattle.babel_trie.proofs.PartLaws.{first_listed}
use Rattle.babel_trie.proofs.InnerLaws.{start_of, start_fits, inner_rows, place_of, path_start, path_few, same_above, to_last, some_listed}
use Rattle.babel_trie.proofs.rows.inner_block.Goals as goal

pub common_bits-requires : goal.common_bits-requires
common_bits-requires g c =
    let rows = c.args.rows.now in
    let f = c.in_ok-first.field-0.now in
    let l = c.in_ok-last.field-0.now in
    let from_is : c.bits-from.result ≡ (source_block f).start = c.bits-from.ensures.value ∙ ap (λ (q : Address). q.bits) c.addr.ensures.value in
    let last_is : c.bits-last.result ≡ (source_block l).start = c.bits-last.ensures.value ∙ ap (λ (q : Address). q.bits) c.addr-2.ensures.value in
    let first_in = first_listed rows f (sym c.in_ok-first.ensures.value) in
    omega (arith, from_is, last_is, to_last source_block rows (length rows - 1) l f (omega (arith, some_listed rows f first_in)) (sym c.in_ok-last.ensures.value) c.requires.rows.in_order first_in)

pub overflow_sub-width : goal.overflow_sub-width
overflow_sub-width g c =
    let f = c.in_ok-first.field-0.now in
    omega (arith, c.len.ensures.value, (c.requires.rows.prefixes f (first_listed c.args.rows.now f (sym c.in_ok-first.ensures.value))).len_in_range)

pub returns : goal.returns
returns g c =
    let rows = c.args.rows.now in
    let f = c.in_ok-first.field-0.now in
    let l = c.in_ok-last.field-0.now in
    let from_is : c.bits-from.result ≡ (source_block f).start = c.bits-from.ensures.value ∙ ap (λ (q : Address). q.bits) c.addr.ensures.value in
    let last_is : c.bits-last.result ≡ (source_block l).start = c.bits-last.ensures.value ∙ ap (λ (q : Address). q.bits) c.addr-2.ensures.value in
    let first_in = first_listed rows f (sym c.in_ok-first.ensures.value) in
    let n = c.max-inner.result in
    let low : c.args.start ≤ c.bits-from.result = omega (arith, from_is, c.requires.rows.from_start f first_in) in
    let high : c.bits-from.result < c.args.start + 2 ^ c.args.bits = omega (arith, from_is, c.requires.rows.before_end f first_in) in
    let few : n ≤ c.args.bits = omega (arith, c.if-inner-bits.false) in
    let fits = start_fits c.bits-from.result n (omega (arith, c.requires.place.room, high, pow_mono {i = c.args.width} {j = 128} c.requires.width)) in
    let place = place_of c.args.width n c.bits-from.result (omega (arith, few, c.requires.place.bits_in)) (omega (arith, c.requires.place.room, high)) in
    let same : (source_block f).start / 2 ^ n ≡ (source_block l).start / 2 ^ n =
    ap (λ a. a / 2 ^ n) (sym from_is) ∙ same_above c.bits-from.result c.bits-last.result c.common_bits.result n (omega (arith, c.max-inner.ensures))
    c.common_bits.ensures.same ∙ ap (λ a. a / 2 ^ n) last_is in
    let inner = inner_rows source_block c.args.width c.args.bits c.args.start n rows f l (length rows - 1) c.requires.rows
    (sym c.in_ok-first.ensures.value) (omega (arith, some_listed rows f first_in)) (sym c.in_ok-last.ensures.value)
    (omega (arith, c.max-inner.ensures, c.len.ensures.value)) (omega (arith, few, c.requires.place.bits_in)) same in
    record {
      smaller = omega (arith, c.if-inner-bits.false);
      path_in = path_few c.args.width c.args.bits c.args.start n c.bits-from.result c.requires.place few low high;
      start_is = fits ∙ path_start c.args.width c.args.bits c.args.start n c.bits-from.result c.requires.place few low high;
      place = subst (IsPlace c.args.width n) (sym fits) place;
      rows_in = subst (λ s. InBlock source_block c.args.width n s rows) (ap (λ a. start_of a n) (sym from_is) ∙ sym fits) inner;
    }

pub overflow_shr-place : goal.overflow_shr-place
overflow_shr-place g c = omega (arith, c.if-inner-bits.false, c.requires.place.bits_in, c.requires.width)

pub overflow_shr-above : goal.overflow_shr-above
overflow_shr-above g c = omega (arith, c.if-inner-bits.false, c.requires.place.bits_in, c.requires.width)

pub overflow_sub-result : goal.overflow_sub-result
overflow_sub-result g c =
    let f = c.in_ok-first.field-0.now in
    let from_is : c.bits-from.result ≡ (source_block f).start = c.bits-from.ensures.value ∙ ap (λ (q : Address). q.bits) c.addr.ensures.value in
    let low = c.requires.rows.from_start f (first_listed c.args.rows.now f (sym c.in_ok-first.ensures.value)) in
    let n = c.max-inner.result in
    le-div (c.args.start / 2 ^ n) c.bits-from.result (2 ^ n) (pow_pos n) (omega (arith, div-mul-le_self c.args.start (2 ^ n), from_is, low))
