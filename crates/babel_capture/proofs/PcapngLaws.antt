-- A pcapng file is read as the packets of its blocks.
use Rattle.std.proofs.Common.{◌≡◌, ◌≢◌, ℕ, ◌+◌, ◌-◌, ◌%◌, ◌^◌, ◌<◌, ◌≤◌, ◌⊎◌, inl, inr, true, false, List, [], ◌∷◌, ◌++◌, length, take, drop, refl, sym, ap, ◌∙◌, length-append, append_assoc, arith}
use Rattle.std.proofs.Common.{nat_lt, ◌==◌, ◌||◌}
use Rattle.std.proofs.Math.Seq.{take-append_seam}
use Rattle.std.proofs.lemmas.Bool.Decides.{nat_tests}
use Rattle.std.specs.Prelude.{None, Ok, nat_le, slice_range}
use Rattle.std.specs.List.{flat_map}
use Rattle.byteorder.specs.Endian.{big_bytes, little_bytes}
use Rattle.babel_capture.specs.declared.layout.Interface.{Interface}
use Rattle.babel_capture.specs.declared.layout.Layout.TheVariants as layouts
use Rattle.babel_capture.specs.declared.order.Order.{Order}
use Rattle.babel_capture.specs.declared.order.Order.TheVariants as orders
use Rattle.babel_capture.specs.Blocks.{BlockAt, AreBlocks, IsBlock, context_behind, octets_of, start}
use Rattle.babel_capture.specs.Contents.{Captured, section, describes, holds, nothing, block_said, kept_len, section_said, typed_said}
use Rattle.babel_capture.specs.Context.{Before}
use Rattle.babel_capture.specs.Lengths.{block_len, len_within, section_len, pcap_order, is_section, section_order}
use Rattle.babel_capture.specs.Numbers.{number_at}
use Rattle.babel_capture.specs.Options.{all_options}
use Rattle.babel_capture.specs.PcapFiles.{written, held_in, IsReadAs}
use Rattle.babel_capture.specs.PcapngFiles.{block_octets, SectionHeader, section_body, PcapngBlock, described, enhanced, old, simple, another, begins, body_of}
use Rattle.babel_capture.specs.PcapngFiles.{octets_in, octets_from, pcapng_octets, Fits, NoneOf, IsSection, IsPacket, Hold, halves, interface_of, packet_at}
use Rattle.babel_capture.specs.Reading.{HasStarted}
use Rattle.babel_capture.specs.Times.{moment_in}
use Rattle.babel_capture.proofs.PcapLaws.{written-back}
use Rattle.babel_capture.specs.declared.window.Window.TheVariants as windows
use Rattle.babel_capture.specs.Window.{all_times}

-- ---- a block of any type

block_long : (order : Order) (kind : ℕ) (body : List ℕ) → length (block_octets order kind body) ≡ 12 + length body
block_long orders.Big kind body = omega (arith, length-append body (big_bytes 4 (12 + length body)))
block_long orders.Little kind body = omega (arith, length-append body (little_bytes 4 (12 + length body)))

at_kind : (order : Order) (kind : ℕ) (body : List ℕ) → kind < 2 ^ 32 → number_at order 4 (block_octets order kind body) 0 ≡ kind
at_kind order kind body fits = written-back order 4 kind [] (written order 4 (12 + length body) ++ (body ++ written order 4 (12 + length body))) fits

-- by its header of 12 octets
at_total : (order : Order) (kind : ℕ) (body : List ℕ) → 12 + length body < 2 ^ 32 → number_at order 4 (take 12 (block_octets order kind body)) 4 ≡ 12 + length body
at_total orders.Big kind body fits = written-back orders.Big 4 (12 + length body) (big_bytes 4 kind) (take 4 (body ++ big_bytes 4 (12 + length body))) fits
at_total orders.Little kind body fits = written-back orders.Little 4 (12 + length body) (little_bytes 4 kind) (take 4 (body ++ little_bytes 4 (12 + length body))) fits

at_end : (order : Order) (kind : ℕ) (body : List ℕ) → 12 + length body < 2 ^ 32 → number_at order 4 (block_octets order kind body) (length (block_octets order kind body) - 4) ≡ 12 + length body
at_end orders.Big kind body fits =
    let total = 12 + length body in
    let front = big_bytes 4 kind ++ (big_bytes 4 total ++ body) in
    let place : length (block_octets orders.Big kind body) - 4 ≡ length front = omega (arith, block_long orders.Big kind body) in
    ap (number_at orders.Big 4 (block_octets orders.Big kind body)) place ∙ written-back orders.Big 4 total front [] fits
at_end orders.Little kind body fits =
    let total = 12 + length body in
    let front = little_bytes 4 kind ++ (little_bytes 4 total ++ body) in
    let place : length (block_octets orders.Little kind body) - 4 ≡ length front = omega (arith, block_long orders.Little kind body) in
    ap (number_at orders.Little 4 (block_octets orders.Little kind body)) place ∙ written-back orders.Little 4 total front [] fits

-- the type of a section is one number in either order
no_section : (order : Order) (kind : ℕ) (rest : List ℕ) → kind < 2 ^ 32 → kind ≢ 0x0a0d0d0a → (number_at orders.Big 4 (written order 4 kind ++ rest) 0 == 0x0a0d0d0a) ≡ false
unfolding number_at
no_section orders.Big kind rest fits none = let said = written-back orders.Big 4 kind [] rest fits in grind (arith, nat_tests, none, said)
no_section orders.Little kind rest fits none = grind (arith, nat_tests, none)

front_12 : (order : Order) (kind : ℕ) (body : List ℕ)
    → take 12 (block_octets order kind body) ≡ written order 4 kind ++ take 8 (written order 4 (12 + length body) ++ (body ++ written order 4 (12 + length body)))
front_12 orders.Big kind body = refl
front_12 orders.Little kind body = refl

-- within a section, where these interfaces were described, its own from this one on
abbrev inside : Order → ℕ → ℕ → List Interface → Before
inside order limit first interfaces = record { limit = limit; layout = layouts.Section order; first = first; interfaces = interfaces; window = windows.Whole; start = None; to_cut = false }

module _ (order : Order) (limit at first : ℕ) (interfaces : List Interface) (kind : ℕ) (body : List ℕ) (kind_fits : kind < 2 ^ 32) (none : kind ≢ 0x0a0d0d0a) (is : Fits body) where
  block_is : at + (12 + length body) ≤ limit → IsBlock (inside order limit first interfaces) at (block_octets order kind body)
  block_is there =
      let octets = block_octets order kind body in
      let total = 12 + length body in
      let long = block_long order kind body in
      let few = is.few in
      let words = is.words in
      let plain : is_section (take 12 octets) ≡ false =
      ap is_section (front_12 order kind body) ∙ no_section order kind (take 8 (written order 4 total ++ (body ++ written order 4 total))) kind_fits none in
      let said : number_at order 4 (take 12 octets) 4 ≡ total = at_total order kind body (omega arith) in
      let least : nat_lt total 12 ≡ false = grind (arith, nat_tests) in
      let most : nat_lt 16777216 total ≡ false = grind (arith, nat_tests) in
      let rest : total % 4 ≡ 0 = omega arith in
      let within : nat_lt (limit - at) total ≡ false = grind (arith, nat_tests) in
      let len : block_len (inside order limit first interfaces) at (take 12 octets) ≡ Ok total = rw (plain, said, least, most, rest, within) refl in
      record { header = omega (arith, long); len = len ∙ ap Ok (sym long) }

  typed : block_said (inside order limit first interfaces) at (block_octets order kind body) ≡ typed_said (inside order limit first interfaces) at order (block_octets order kind body) kind
  unfolding block_said
  typed =
      let octets = block_octets order kind body in
      let long = block_long order kind body in
      let few = is.few in
      let kind_is : number_at order 4 octets 0 ≡ kind = at_kind order kind body kind_fits in
      let no : (kind == 0x0a0d0d0a) ≡ false = grind (arith, nat_tests, none) in
      let last : number_at order 4 octets (length octets - 4) ≡ length octets = at_end order kind body (omega arith) ∙ sym long in
      let same : (length octets == length octets) ≡ true = grind (arith, nat_tests) in
      rw (kind_is, no, last, same) refl

-- ---- what each holds

described_fields : (order : Order) (number reserved snap : ℕ) (options : List ℕ) → number < 2 ^ 16 → snap < 2 ^ 32
    → (number_at order 2 (octets_in order (described number reserved snap options)) 8 ≡ number) × (number_at order 4 (octets_in order (described number reserved snap options)) 12 ≡ snap)
    × (drop 16 (octets_in order (described number reserved snap options)) ≡ options ++ written order 4 (12 + length (body_of order (described number reserved snap options))))
described_fields orders.Big number reserved snap options fits snap_fits =
    let total = big_bytes 4 (12 + length (body_of orders.Big (described number reserved snap options))) in
    let front = big_bytes 4 1 ++ total in (
      written-back orders.Big 2 number front (big_bytes 2 reserved ++ (big_bytes 4 snap ++ (options ++ total))) fits,
      written-back orders.Big 4 snap (front ++ (big_bytes 2 number ++ big_bytes 2 reserved)) (options ++ total) snap_fits,
      refl,
    )
described_fields orders.Little number reserved snap options fits snap_fits =
    let total = little_bytes 4 (12 + length (body_of orders.Little (described number reserved snap options))) in
    let front = little_bytes 4 1 ++ total in (
      written-back orders.Little 2 number front (little_bytes 2 reserved ++ (little_bytes 4 snap ++ (options ++ total))) fits,
      written-back orders.Little 4 snap (front ++ (little_bytes 2 number ++ little_bytes 2 reserved)) (options ++ total) snap_fits,
      refl,
    )

described_long : (order : Order) (number reserved snap : ℕ) (options : List ℕ) → length (body_of order (described number reserved snap options)) ≡ 8 + length options
described_long orders.Big number reserved snap options = omega arith
described_long orders.Little number reserved snap options = omega arith

enhanced_fields : (order : Order) (number high low whole : ℕ) (frame more : List ℕ) → number < 2 ^ 32 → high < 2 ^ 32 → low < 2 ^ 32 → whole < 2 ^ 32 → length frame < 2 ^ 32
    → (number_at order 4 (octets_in order (enhanced number high low whole frame more)) 8 ≡ number) × (number_at order 4 (octets_in order (enhanced number high low whole frame more)) 20 ≡ length frame)
    × (number_at order 4 (octets_in order (enhanced number high low whole frame more)) 24 ≡ whole)
    × (number_at order 4 (octets_in order (enhanced number high low whole frame more)) 12 ≡ high) × (number_at order 4 (octets_in order (enhanced number high low whole frame more)) 16 ≡ low)
    × (drop 28 (octets_in order (enhanced number high low whole frame more)) ≡ frame ++ (more ++ written order 4 (12 + length (body_of order (enhanced number high low whole frame more)))))
enhanced_fields orders.Big number high low whole frame more fits high_fits low_fits whole_fits len_fits =
    let total = big_bytes 4 (12 + length (body_of orders.Big (enhanced number high low whole frame more))) in
    let front = big_bytes 4 6 ++ total in
    let times = front ++ (big_bytes 4 number ++ (big_bytes 4 high ++ big_bytes 4 low)) in
    let last = (frame ++ more) ++ total in (
      written-back orders.Big 4 number front (big_bytes 4 high ++ (big_bytes 4 low ++ (big_bytes 4 (length frame) ++ (big_bytes 4 whole ++ last)))) fits,
      written-back orders.Big 4 (length frame) times (big_bytes 4 whole ++ last) len_fits,
      written-back orders.Big 4 whole (times ++ big_bytes 4 (length frame)) last whole_fits,
      written-back orders.Big 4 high (front ++ big_bytes 4 number) (big_bytes 4 low ++ (big_bytes 4 (length frame) ++ (big_bytes 4 whole ++ last))) high_fits,
      written-back orders.Big 4 low (front ++ big_bytes 4 number ++ big_bytes 4 high) (big_bytes 4 (length frame) ++ (big_bytes 4 whole ++ last)) low_fits,
      append_assoc frame more total,
    )
enhanced_fields orders.Little number high low whole frame more fits high_fits low_fits whole_fits len_fits =
    let total = little_bytes 4 (12 + length (body_of orders.Little (enhanced number high low whole frame more))) in
    let front = little_bytes 4 6 ++ total in
    let times = front ++ (little_bytes 4 number ++ (little_bytes 4 high ++ little_bytes 4 low)) in
    let last = (frame ++ more) ++ total in (
      written-back orders.Little 4 number front (little_bytes 4 high ++ (little_bytes 4 low ++ (little_bytes 4 (length frame) ++ (little_bytes 4 whole ++ last)))) fits,
      written-back orders.Little 4 (length frame) times (little_bytes 4 whole ++ last) len_fits,
      written-back orders.Little 4 whole (times ++ little_bytes 4 (length frame)) last whole_fits,
      written-back orders.Little 4 high (front ++ little_bytes 4 number) (little_bytes 4 low ++ (little_bytes 4 (length frame) ++ (little_bytes 4 whole ++ last))) high_fits,
      written-back orders.Little 4 low (front ++ little_bytes 4 number ++ little_bytes 4 high) (little_bytes 4 (length frame) ++ (little_bytes 4 whole ++ last)) low_fits,
      append_assoc frame more total,
    )

enhanced_long : (order : Order) (number high low whole : ℕ) (frame more : List ℕ) → length (body_of order (enhanced number high low whole frame more)) ≡ 20 + length frame + length more
enhanced_long orders.Big number high low whole frame more = omega (arith, length-append frame more)
enhanced_long orders.Little number high low whole frame more = omega (arith, length-append frame more)

old_fields : (order : Order) (number drops high low whole : ℕ) (frame more : List ℕ) → number < 2 ^ 16 → high < 2 ^ 32 → low < 2 ^ 32 → whole < 2 ^ 32 → length frame < 2 ^ 32
    → (number_at order 2 (octets_in order (old number drops high low whole frame more)) 8 ≡ number)
    × (number_at order 4 (octets_in order (old number drops high low whole frame more)) 20 ≡ length frame)
    × (number_at order 4 (octets_in order (old number drops high low whole frame more)) 24 ≡ whole)
    × (number_at order 4 (octets_in order (old number drops high low whole frame more)) 12 ≡ high) × (number_at order 4 (octets_in order (old number drops high low whole frame more)) 16 ≡ low)
    × (drop 28 (octets_in order (old number drops high low whole frame more)) ≡ frame ++ (more ++ written order 4 (12 + length (body_of order (old number drops high low whole frame more)))))
old_fields orders.Big number drops high low whole frame more fits high_fits low_fits whole_fits len_fits =
    let total = big_bytes 4 (12 + length (body_of orders.Big (old number drops high low whole frame more))) in
    let front = big_bytes 4 2 ++ total in
    let times = front ++ (big_bytes 2 number ++ (big_bytes 2 drops ++ (big_bytes 4 high ++ big_bytes 4 low))) in
    let last = (frame ++ more) ++ total in (
      written-back orders.Big 2 number front (big_bytes 2 drops ++ (big_bytes 4 high ++ (big_bytes 4 low ++ (big_bytes 4 (length frame) ++ (big_bytes 4 whole ++ last))))) fits,
      written-back orders.Big 4 (length frame) times (big_bytes 4 whole ++ last) len_fits,
      written-back orders.Big 4 whole (times ++ big_bytes 4 (length frame)) last whole_fits,
      written-back orders.Big 4 high (front ++ (big_bytes 2 number ++ big_bytes 2 drops)) (big_bytes 4 low ++ (big_bytes 4 (length frame) ++ (big_bytes 4 whole ++ last))) high_fits,
      written-back orders.Big 4 low (front ++ (big_bytes 2 number ++ big_bytes 2 drops) ++ big_bytes 4 high) (big_bytes 4 (length frame) ++ (big_bytes 4 whole ++ last)) low_fits,
      append_assoc frame more total,
    )
old_fields orders.Little number drops high low whole frame more fits high_fits low_fits whole_fits len_fits =
    let total = little_bytes 4 (12 + length (body_of orders.Little (old number drops high low whole frame more))) in
    let front = little_bytes 4 2 ++ total in
    let times = front ++ (little_bytes 2 number ++ (little_bytes 2 drops ++ (little_bytes 4 high ++ little_bytes 4 low))) in
    let last = (frame ++ more) ++ total in (
      written-back orders.Little 2 number front (little_bytes 2 drops ++ (little_bytes 4 high ++ (little_bytes 4 low ++ (little_bytes 4 (length frame) ++ (little_bytes 4 whole ++ last))))) fits,
      written-back orders.Little 4 (length frame) times (little_bytes 4 whole ++ last) len_fits,
      written-back orders.Little 4 whole (times ++ little_bytes 4 (length frame)) last whole_fits,
      written-back orders.Little 4 high (front ++ (little_bytes 2 number ++ little_bytes 2 drops)) (little_bytes 4 low ++ (little_bytes 4 (length frame) ++ (little_bytes 4 whole ++ last))) high_fits,
      written-back orders.Little 4 low (front ++ (little_bytes 2 number ++ little_bytes 2 drops) ++ little_bytes 4 high) (little_bytes 4 (length frame) ++ (little_bytes 4 whole ++ last)) low_fits,
      append_assoc frame more total,
    )

old_long : (order : Order) (number drops high low whole : ℕ) (frame more : List ℕ) → length (body_of order (old number drops high low whole frame more)) ≡ 20 + length frame + length more
old_long orders.Big number drops high low whole frame more = omega (arith, length-append frame more)
old_long orders.Little number drops high low whole frame more = omega (arith, length-append frame more)

simple_fields : (order : Order) (whole : ℕ) (frame padding : List ℕ) → whole < 2 ^ 32
    → (number_at order 4 (octets_in order (simple whole frame padding)) 8 ≡ whole)
    × (drop 12 (octets_in order (simple whole frame padding)) ≡ frame ++ (padding ++ written order 4 (12 + length (body_of order (simple whole frame padding)))))
simple_fields orders.Big whole frame padding fits =
    let total = big_bytes 4 (12 + length (body_of orders.Big (simple whole frame padding))) in
    (written-back orders.Big 4 whole (big_bytes 4 3 ++ total) ((frame ++ padding) ++ total) fits, append_assoc frame padding total)
simple_fields orders.Little whole frame padding fits =
    let total = little_bytes 4 (12 + length (body_of orders.Little (simple whole frame padding))) in
    (written-back orders.Little 4 whole (little_bytes 4 3 ++ total) ((frame ++ padding) ++ total) fits, append_assoc frame padding total)

simple_long : (order : Order) (whole : ℕ) (frame padding : List ℕ) → length (body_of order (simple whole frame padding)) ≡ 4 + length frame + length padding
simple_long orders.Big whole frame padding = omega (arith, length-append frame padding)
simple_long orders.Little whole frame padding = omega (arith, length-append frame padding)

-- what is sliced out of what was dropped to
sliced : (octets front rest : List ℕ) (place : ℕ) → drop place octets ≡ front ++ rest → slice_range octets place (place + length front) ≡ front
sliced octets front rest place dropped =
    let count : place + length front - place ≡ length front = omega arith in
    ap (λ (n : ℕ). take n (drop place octets)) count ∙ ap (take (length front)) dropped ∙ take-append_seam front rest

module _ (order : Order) (limit at first : ℕ) (interfaces : List Interface) where
  described_says : (number reserved snap : ℕ) (options : List ℕ) → Fits (body_of order (described number reserved snap options)) → number < 2 ^ 16 → snap < 2 ^ 32 → length interfaces < 65536
      → (all_options order options).is_bad ≡ false
      → block_said (inside order limit first interfaces) at (octets_in order (described number reserved snap options))
      ≡ Ok (describes (interface_of number snap (all_options order options)) (all_options order options).name)
  described_says number reserved snap options is number_fits snap_fits few whole =
      let octets = octets_in order (described number reserved snap options) in
      let body = body_of order (described number reserved snap options) in
      let fields = described_fields order number reserved snap options number_fits snap_fits in
      let long : length octets ≡ 20 + length options = block_long order 1 body ∙ omega (arith, described_long order number reserved snap options) in
      let end : length octets - 4 ≡ 16 + length options = omega (arith, long) in
      let least : nat_lt (length octets) 20 ≡ false = grind (arith, nat_tests, long) in
      let room : nat_le 65536 (length interfaces) ≡ false = grind (arith, nat_tests) in
      let read : slice_range octets 16 (16 + length options) ≡ options = sliced octets options (written order 4 (12 + length body)) 16 fields.2 in
      typed order limit at first interfaces 1 body (omega arith) (λ (e : 1 ≡ 0x0a0d0d0a). absurd (omega (arith, e))) is ∙ rw (least, room, end, read, whole, fields.0, fields.1) refl

  enhanced_says : (number high low whole : ℕ) (frame more : List ℕ) (packets later : List Captured) → Fits (body_of order (enhanced number high low whole frame more)) → number < 2 ^ 32
      → high < 2 ^ 32 → low < 2 ^ 32 → (is : IsPacket first interfaces (first + number) (halves high low) whole frame packets later)
      → block_said (inside order limit first interfaces) at (octets_in order (enhanced number high low whole frame more))
      ≡ Ok (holds (packet_at first (first + number) is.link (moment_in is.interface.clock (halves high low)) frame whole))
  enhanced_says number high low whole frame more packets later fits number_fits high_fits low_fits is =
      let octets = octets_in order (enhanced number high low whole frame more) in
      let body = body_of order (enhanced number high low whole frame more) in
      let few = fits.few in
      let sized = enhanced_long order number high low whole frame more in
      let fields = enhanced_fields order number high low whole frame more number_fits high_fits low_fits is.len_fits (omega arith) in
      let long : length octets ≡ 32 + length frame + length more = block_long order 6 body ∙ omega (arith, sized) in
      let least : nat_lt (length octets) 32 ≡ false = grind (arith, nat_tests, long) in
      let room : nat_lt (length octets) (32 + length frame) ≡ false = grind (arith, nat_tests, long) in
      let read : slice_range octets 28 (28 + length frame) ≡ frame = sliced octets frame (more ++ written order 4 (12 + length body)) 28 fields.5 in
      typed order limit at first interfaces 6 body (omega arith) (λ (e : 6 ≡ 0x0a0d0d0a). absurd (omega (arith, e))) fits
      ∙ rw (least, fields.0, fields.1, room, read, fields.2, fields.3, fields.4, is.is_described, is.is_link) refl

  old_says : (number drops high low whole : ℕ) (frame more : List ℕ) (packets later : List Captured) → Fits (body_of order (old number drops high low whole frame more))
      → number < 2 ^ 16 → high < 2 ^ 32 → low < 2 ^ 32 → (is : IsPacket first interfaces (first + number) (halves high low) whole frame packets later)
      → block_said (inside order limit first interfaces) at (octets_in order (old number drops high low whole frame more))
      ≡ Ok (holds (packet_at first (first + number) is.link (moment_in is.interface.clock (halves high low)) frame whole))
  old_says number drops high low whole frame more packets later fits short high_fits low_fits is =
      let octets = octets_in order (old number drops high low whole frame more) in
      let body = body_of order (old number drops high low whole frame more) in
      let few = fits.few in
      let sized = old_long order number drops high low whole frame more in
      let fields = old_fields order number drops high low whole frame more short high_fits low_fits is.len_fits (omega arith) in
      let long : length octets ≡ 32 + length frame + length more = block_long order 2 body ∙ omega (arith, sized) in
      let least : nat_lt (length octets) 32 ≡ false = grind (arith, nat_tests, long) in
      let room : nat_lt (length octets) (32 + length frame) ≡ false = grind (arith, nat_tests, long) in
      let read : slice_range octets 28 (28 + length frame) ≡ frame = sliced octets frame (more ++ written order 4 (12 + length body)) 28 fields.5 in
      typed order limit at first interfaces 2 body (omega arith) (λ (e : 2 ≡ 0x0a0d0d0a). absurd (omega (arith, e))) fits
      ∙ rw (least, fields.0, fields.1, room, read, fields.2, fields.3, fields.4, is.is_described, is.is_link) refl

  simple_says : (whole : ℕ) (frame padding : List ℕ) (packets later : List Captured) → Fits (body_of order (simple whole frame padding))
      → (is : IsPacket first interfaces first None whole frame packets later)
      → length frame ≡ kept_len is.interface.snap_len whole
      → block_said (inside order limit first interfaces) at (octets_in order (simple whole frame padding)) ≡ Ok (holds (packet_at first first is.link None frame whole))
  simple_says whole frame padding packets later fits is kept =
      let octets = octets_in order (simple whole frame padding) in
      let body = body_of order (simple whole frame padding) in
      let sized = simple_long order whole frame padding in
      let fields = simple_fields order whole frame padding is.len_fits in
      let long : length octets ≡ 16 + length frame + length padding = block_long order 3 body ∙ omega (arith, sized) in
      let least : nat_lt (length octets) 16 ≡ false = grind (arith, nat_tests, long) in
      let room : nat_lt (length octets) (16 + length frame) ≡ false = grind (arith, nat_tests, long) in
      let read : slice_range octets 12 (12 + length frame) ≡ frame = sliced octets frame (padding ++ written order 4 (12 + length body)) 12 fields.1 in
      typed order limit at first interfaces 3 body (omega arith) (λ (e : 3 ≡ 0x0a0d0d0a). absurd (omega (arith, e))) fits
      ∙ rw (least, is.is_described, fields.0, sym kept, room, read, is.is_described, is.is_link) refl

  another_says : (kind : ℕ) (body : List ℕ) → Fits body → kind < 2 ^ 32 → NoneOf kind → block_said (inside order limit first interfaces) at (octets_in order (another kind body)) ≡ Ok nothing
  another_says kind body fits kind_fits (no_section_type, no_description, no_old, no_simple, no_enhanced) =
      let one : (kind == 1) ≡ false = grind (arith, nat_tests, no_description) in
      let two : (kind == 2) ≡ false = grind (arith, nat_tests, no_old) in
      let three : (kind == 3) ≡ false = grind (arith, nat_tests, no_simple) in
      let six : (kind == 6) ≡ false = grind (arith, nat_tests, no_enhanced) in
      typed order limit at first interfaces kind body kind_fits no_section_type fits ∙ rw (one, two, three, six) refl

-- ---- the header of a section

module _ (order : Order) (head : SectionHeader) where
  abbrev header : List ℕ
  header = block_octets order 0x0a0d0d0a (section_body order head)

section_long : (order : Order) (head : SectionHeader) → length (section_body order head) ≡ 8 + length head.len + length head.options
section_long orders.Big head = omega (arith, length-append head.len head.options)
section_long orders.Little head = omega (arith, length-append head.len head.options)

-- it begins no pcap file, and tells its byte order
header_told : (order : Order) (head : SectionHeader)
    → (pcap_order (header order head) ≡ None) × (is_section (header order head) ≡ true) × ((at : ℕ) → section_order at (header order head) ≡ Ok order)
unfolding number_at
header_told orders.Big head = (refl, refl, (λ (at : ℕ). refl))
header_told orders.Little head = (refl, refl, (λ (at : ℕ). refl))

front_told : (order : Order) (head : SectionHeader)
    → (pcap_order (take 24 (header order head)) ≡ None) × (is_section (take 24 (header order head)) ≡ true) × ((at : ℕ) → section_order at (take 24 (header order head)) ≡ Ok order)
unfolding number_at
front_told orders.Big head = (refl, refl, (λ (at : ℕ). refl))
front_told orders.Little head = (refl, refl, (λ (at : ℕ). refl))

later_told : (order : Order) (head : SectionHeader) → (is_section (take 12 (header order head)) ≡ true) × ((at : ℕ) → section_order at (take 12 (header order head)) ≡ Ok order)
unfolding number_at
later_told orders.Big head = (refl, (λ (at : ℕ). refl))
later_told orders.Little head = (refl, (λ (at : ℕ). refl))

-- its type is one number in either order
kind_told : (before order : Order) (head : SectionHeader) → number_at before 4 (header order head) 0 ≡ 0x0a0d0d0a
unfolding number_at
kind_told orders.Big orders.Big head = refl
kind_told orders.Big orders.Little head = refl
kind_told orders.Little orders.Big head = refl
kind_told orders.Little orders.Little head = refl

front_total : (order : Order) (head : SectionHeader) → 12 + length (section_body order head) < 2 ^ 32 → number_at order 4 (take 24 (header order head)) 4 ≡ 12 + length (section_body order head)
front_total orders.Big head fits =
    let body = section_body orders.Big head in
    written-back orders.Big 4 (12 + length body) (big_bytes 4 0x0a0d0d0a) (take 16 (body ++ big_bytes 4 (12 + length body))) fits
front_total orders.Little head fits =
    let body = section_body orders.Little head in
    written-back orders.Little 4 (12 + length body) (little_bytes 4 0x0a0d0d0a) (take 16 (body ++ little_bytes 4 (12 + length body))) fits

minor_fits : (minor : ℕ) → (minor ≡ 0) ⊎ (minor ≡ 2) → minor < 2 ^ 16
minor_fits minor (inl none) = omega arith
minor_fits minor (inr two) = omega arith

version : (order : Order) (head : SectionHeader) → head.minor < 2 ^ 16 → (number_at order 2 (header order head) 12 ≡ 1) × (number_at order 2 (header order head) 14 ≡ head.minor)
version orders.Big head fits =
    let total = big_bytes 4 (12 + length (section_body orders.Big head)) in
    let front = big_bytes 4 0x0a0d0d0a ++ (total ++ big_bytes 4 0x1a2b3c4d) in
    let last = (head.len ++ head.options) ++ total in
    (written-back orders.Big 2 1 front (big_bytes 2 head.minor ++ last) (omega arith), written-back orders.Big 2 head.minor (front ++ big_bytes 2 1) last fits)
version orders.Little head fits =
    let total = little_bytes 4 (12 + length (section_body orders.Little head)) in
    let front = little_bytes 4 0x0a0d0d0a ++ (total ++ little_bytes 4 0x1a2b3c4d) in
    let last = (head.len ++ head.options) ++ total in
    (written-back orders.Little 2 1 front (little_bytes 2 head.minor ++ last) (omega arith), written-back orders.Little 2 head.minor (front ++ little_bytes 2 1) last fits)

minor_read : (minor : ℕ) → (minor ≡ 0) ⊎ (minor ≡ 2) → (minor == 0 || minor == 2) ≡ true
minor_read minor (inl none) = rw none refl
minor_read minor (inr two) = rw two refl

module _ (order : Order) (head : SectionHeader) (is : IsSection order head) where
  section_says : (at : ℕ) → section_said at (header order head) ≡ Ok (section order)
  section_says at =
      let octets = header order head in
      let long = block_long order 0x0a0d0d0a (section_body order head) in
      let sized = section_long order head in
      let few = is.fits.few in
      let len_sized = is.len_sized in
      let told = header_told order head in
      let ordered = told.2 at in
      let last : number_at order 4 octets (length octets - 4) ≡ length octets = at_end order 0x0a0d0d0a (section_body order head) (omega arith) ∙ sym long in
      let same : (length octets == length octets) ≡ true = grind (arith, nat_tests) in
      let least : nat_lt (length octets) 28 ≡ false = grind (arith, nat_tests, long) in
      let numbers = version order head (minor_fits head.minor is.is_minor) in
      let minor = minor_read head.minor is.is_minor in
      rw (ordered, last, same, least, numbers.0, numbers.1, minor) refl

  -- by its header, in a file's first block and in a later one
  section_total : (limit at : ℕ) (front : List ℕ) → section_order at front ≡ Ok order → number_at order 4 front 4 ≡ 12 + length (section_body order head) → at + length (header order head) ≤ limit
      → len_within limit at (section_len at front) ≡ Ok (length (header order head))
  section_total limit at front ordered said there =
      let total = 12 + length (section_body order head) in
      let long = block_long order 0x0a0d0d0a (section_body order head) in
      let sized = section_long order head in
      let few = is.fits.few in
      let words = is.fits.words in
      let len_sized = is.len_sized in
      let least : nat_lt total 28 ≡ false = grind (arith, nat_tests) in
      let most : nat_lt 16777216 total ≡ false = grind (arith, nat_tests) in
      let rest : total % 4 ≡ 0 = omega arith in
      let within : nat_lt (limit - at) total ≡ false = grind (arith, nat_tests, long) in
      let len : len_within limit at (section_len at front) ≡ Ok total = rw (ordered, said, least, most, rest, within) refl in
      len ∙ ap Ok (sym long)

  small : 12 + length (section_body order head) < 2 ^ 32
  small = (let few = is.fits.few in omega arith)

  header_is : (limit : ℕ) → length (header order head) ≤ limit → IsBlock (start (all_times limit)) 0 (header order head)
  header_is limit there =
      let long = block_long order 0x0a0d0d0a (section_body order head) in
      let sized = section_long order head in
      let len_sized = is.len_sized in
      let told = front_told order head in
      let none = told.0 in
      let plain = told.1 in
      let total = section_total limit 0 (take 24 (header order head)) (told.2 0) (front_total order head small) (omega arith) in
      record { header = omega (arith, long); len = rw (none, plain) total }

  header_says : (limit : ℕ) → block_said (start (all_times limit)) 0 (header order head) ≡ Ok (section order)
  unfolding block_said
  header_says limit =
      let none = (header_told order head).0 in
      rw none (section_says 0)

  module _ (before : Order) (limit at first : ℕ) (interfaces : List Interface) where
    later_is : at + length (header order head) ≤ limit → IsBlock (inside before limit first interfaces) at (header order head)
    later_is there =
        let long = block_long order 0x0a0d0d0a (section_body order head) in
        let told = later_told order head in
        let plain = told.0 in
        let total = section_total limit at (take 12 (header order head)) (told.1 at) (at_total order 0x0a0d0d0a (section_body order head) small) there in
        record { header = omega (arith, long); len = rw plain total }

    later_says : block_said (inside before limit first interfaces) at (header order head) ≡ Ok (section order)
    unfolding block_said
    later_says =
        let kind = kind_told before order head in
        rw kind (section_says at)

-- ---- blocks

-- octets that are blocks within a section, and hold these packets
record Laid (order : Order) (limit at first : ℕ) (interfaces : List Interface) (octets : List ℕ) (packets : List Captured) : Type 0 where
  blocks : List BlockAt
  whole : octets ≡ octets_of blocks
  are_blocks : AreBlocks (inside order limit first interfaces) at blocks
  started : HasStarted (context_behind (inside order limit first interfaces) blocks)
  held : flat_map (λ (block : BlockAt). held_in block.content) blocks ≡ packets

module _ (order : Order) (limit at first : ℕ) (interfaces : List Interface) (octets rest : List ℕ) where
  -- with a packet before them, or a block that holds none
  with_packet : (packet : Captured) (packets later : List Captured) → IsBlock (inside order limit first interfaces) at octets
      → block_said (inside order limit first interfaces) at octets ≡ Ok (holds packet)
      → packets ≡ packet ∷ later → Laid order limit (at + length octets) first interfaces rest later → Laid order limit at first interfaces (octets ++ rest) packets
  with_packet packet packets later is says are laid = record {
    blocks = record { at = at; octets = octets; content = holds packet } ∷ laid.blocks;
    whole = ap (λ (r : List ℕ). octets ++ r) laid.whole;
    are_blocks = (refl, is, says, laid.are_blocks);
    started = laid.started;
    held = ap (λ (l : List Captured). packet ∷ l) laid.held ∙ sym are;
  }

  with_another : (packets : List Captured) → IsBlock (inside order limit first interfaces) at octets → block_said (inside order limit first interfaces) at octets ≡ Ok nothing
      → Laid order limit (at + length octets) first interfaces rest packets → Laid order limit at first interfaces (octets ++ rest) packets
  with_another packets is says laid = record {
    blocks = record { at = at; octets = octets; content = nothing } ∷ laid.blocks;
    whole = ap (λ (r : List ℕ). octets ++ r) laid.whole;
    are_blocks = (refl, is, says, laid.are_blocks);
    started = laid.started;
    held = laid.held;
  }

  with_interface : (interface : Interface) (name : List ℕ) (packets : List Captured) → IsBlock (inside order limit first interfaces) at octets
      → block_said (inside order limit first interfaces) at octets ≡ Ok (describes interface name)
      → Laid order limit (at + length octets) first (interfaces ++ interface ∷ []) rest packets → Laid order limit at first interfaces (octets ++ rest) packets
  with_interface interface name packets is says laid = record {
    blocks = record { at = at; octets = octets; content = describes interface name } ∷ laid.blocks;
    whole = ap (λ (r : List ℕ). octets ++ r) laid.whole;
    are_blocks = (refl, is, says, laid.are_blocks);
    started = laid.started;
    held = laid.held;
  }

-- with the header of a section before them
with_section : (order next : Order) (limit at first : ℕ) (interfaces : List Interface) (octets rest : List ℕ) (packets : List Captured) → IsBlock (inside order limit first interfaces) at octets
    → block_said (inside order limit first interfaces) at octets ≡ Ok (section next)
    → Laid next limit (at + length octets) (length interfaces) interfaces rest packets → Laid order limit at first interfaces (octets ++ rest) packets
with_section order next limit at first interfaces octets rest packets is says laid = record {
  blocks = record { at = at; octets = octets; content = section next } ∷ laid.blocks;
  whole = ap (λ (r : List ℕ). octets ++ r) laid.whole;
  are_blocks = (refl, is, says, laid.are_blocks);
  started = laid.started;
  held = laid.held;
}

blocks_laid : (order : Order) (limit at first : ℕ) (interfaces : List Interface) (blocks : List PcapngBlock) (packets : List Captured) → Hold order first interfaces blocks packets
    → at + length (octets_from order blocks) ≤ limit → Laid order limit at first interfaces (octets_from order blocks) packets
blocks_laid order limit at first interfaces [] packets none fits = record { blocks = []; whole = refl; are_blocks = tt; started = tt; held = sym none }
blocks_laid order limit at first interfaces (described number reserved snap options ∷ blocks) packets (is, number_fits, snap_fits, few, whole, hold) fits =
    let body = body_of order (described number reserved snap options) in
    let octets = octets_in order (described number reserved snap options) in
    let rest = octets_from order blocks in
    let count = length-append octets rest in
    let block = block_is order limit at first interfaces 1 body (omega arith) (λ (e : 1 ≡ 0x0a0d0d0a). absurd (omega (arith, e))) is (omega (arith, count, block_long order 1 body)) in
    with_interface order limit at first interfaces octets rest (interface_of number snap (all_options order options)) (all_options order options).name packets block
    (described_says order limit at first interfaces number reserved snap options is number_fits snap_fits few whole)
    (blocks_laid order limit (at + length octets) first (interfaces ++ interface_of number snap (all_options order options) ∷ []) blocks packets hold (omega (arith, count)))
blocks_laid order limit at first interfaces (enhanced number high low whole frame more ∷ blocks) packets (is, number_fits, high_fits, low_fits, (later, packet, hold)) fits =
    let body = body_of order (enhanced number high low whole frame more) in
    let octets = octets_in order (enhanced number high low whole frame more) in
    let rest = octets_from order blocks in
    let count = length-append octets rest in
    let block = block_is order limit at first interfaces 6 body (omega arith) (λ (e : 6 ≡ 0x0a0d0d0a). absurd (omega (arith, e))) is (omega (arith, count, block_long order 6 body)) in
    with_packet order limit at first interfaces octets rest (packet_at first (first + number) packet.link (moment_in packet.interface.clock (halves high low)) frame whole) packets later block
    (enhanced_says order limit at first interfaces number high low whole frame more packets later is number_fits high_fits low_fits packet) packet.is_packet
    (blocks_laid order limit (at + length octets) first interfaces blocks later hold (omega (arith, count)))
blocks_laid order limit at first interfaces (old number drops high low whole frame more ∷ blocks) packets (is, short, high_fits, low_fits, (later, packet, hold)) fits =
    let body = body_of order (old number drops high low whole frame more) in
    let octets = octets_in order (old number drops high low whole frame more) in
    let rest = octets_from order blocks in
    let count = length-append octets rest in
    let block = block_is order limit at first interfaces 2 body (omega arith) (λ (e : 2 ≡ 0x0a0d0d0a). absurd (omega (arith, e))) is (omega (arith, count, block_long order 2 body)) in
    with_packet order limit at first interfaces octets rest (packet_at first (first + number) packet.link (moment_in packet.interface.clock (halves high low)) frame whole) packets later block
    (old_says order limit at first interfaces number drops high low whole frame more packets later is short high_fits low_fits packet) packet.is_packet
    (blocks_laid order limit (at + length octets) first interfaces blocks later hold (omega (arith, count)))
blocks_laid order limit at first interfaces (simple whole frame padding ∷ blocks) packets (is, (later, packet, kept, hold)) fits =
    let body = body_of order (simple whole frame padding) in
    let octets = octets_in order (simple whole frame padding) in
    let rest = octets_from order blocks in
    let count = length-append octets rest in
    let block = block_is order limit at first interfaces 3 body (omega arith) (λ (e : 3 ≡ 0x0a0d0d0a). absurd (omega (arith, e))) is (omega (arith, count, block_long order 3 body)) in
    with_packet order limit at first interfaces octets rest (packet_at first first packet.link None frame whole) packets later block
    (simple_says order limit at first interfaces whole frame padding packets later is packet kept) packet.is_packet
    (blocks_laid order limit (at + length octets) first interfaces blocks later hold (omega (arith, count)))
blocks_laid order limit at first interfaces (another kind body ∷ blocks) packets (is, kind_fits, none, hold) fits =
    let octets = octets_in order (another kind body) in
    let rest = octets_from order blocks in
    let count = length-append octets rest in
    let block = block_is order limit at first interfaces kind body kind_fits none.0 is (omega (arith, count, block_long order kind body)) in
    with_another order limit at first interfaces octets rest packets block (another_says order limit at first interfaces kind body is kind_fits none)
    (blocks_laid order limit (at + length octets) first interfaces blocks packets hold (omega (arith, count)))
blocks_laid order limit at first interfaces (begins next head ∷ blocks) packets (is, hold) fits =
    let octets = header next head in
    let rest = octets_from next blocks in
    let count = length-append octets rest in
    with_section order next limit at first interfaces octets rest packets (later_is next head is order limit at first interfaces (omega (arith, count)))
    (later_says next head is order limit at first interfaces)
    (blocks_laid next limit (at + length octets) (length interfaces) interfaces blocks packets hold (omega (arith, count)))

pub pcapng_is_read : (limit : ℕ) (order : Order) (head : SectionHeader) (blocks : List PcapngBlock) (packets : List Captured) → IsSection order head → Hold order 0 [] blocks packets
    → length (pcapng_octets order head blocks) ≤ limit → IsReadAs (all_times limit) (pcapng_octets order head blocks) packets
pcapng_is_read limit order head blocks packets is hold there =
    let octets = header order head in
    let later = octets_from order blocks in
    let count = length-append octets later in
    let laid = blocks_laid order limit (0 + length octets) 0 [] blocks packets hold (omega (arith, count)) in
    record {
      blocks = record { at = 0; octets = octets; content = section order } ∷ laid.blocks;
      whole = ap (λ (rest : List ℕ). octets ++ rest) laid.whole;
      are_blocks = (refl, header_is order head is limit (omega (arith, count)), header_says order head is limit, laid.are_blocks);
      started = laid.started;
      held = laid.held;
    }
