-- How many octets a capture without a fault has at most.
use Rattle.std.proofs.Common.{◌≡◌, refl, ℕ, ◌+◌, ◌-◌, ◌<◌, ◌≤◌, Bool, true, false, if◌then◌else◌, List, [], ◌∷◌, length, nat_lt, arith, ap, sym, ◌∙◌, subst, inl, inr, length-append}
use Rattle.std.specs.Prelude.{Result, Ok, Err, Option, ℤ}
use Rattle.babel_capture.specs.declared.window.Window.{Window}
use Rattle.babel_capture.specs.declared.window.Window.TheVariants as windows
use Rattle.std.specs.Result.{IsOkAnd}
use Rattle.std.proofs.lemmas.Bool.Decides.{nat_tests}
use Rattle.babel_capture.specs.declared.fault.Fault.{Fault}
use Rattle.babel_capture.specs.declared.fault.Fault.TheVariants as faults
use Rattle.babel_capture.specs.declared.layout.Layout.{Layout}
use Rattle.babel_capture.specs.declared.layout.Layout.TheVariants as layouts
use Rattle.babel_capture.specs.Blocks.{AreBlocks, BlockAt, IsPartial, context_behind, header_of, octets_of, start}
use Rattle.babel_capture.specs.Contents.{Content, context_after, describes, file, holds, nothing, section, skips, started_with}
use Rattle.babel_capture.specs.Context.{Before}
use Rattle.babel_capture.specs.Lengths.{block_len, header_len, layout_len, len_within}
use Rattle.babel_capture.specs.Reading.{HasTaken, Progress}
use Rattle.babel_capture.specs.Window.{Extent}

not_past : (b : Bool) (at len n : ℕ) → (if b then Err (faults.TooLong at) else Ok n) ≡ Ok len → (b ≡ false) × (n ≡ len)
not_past true at len n is = absurd cc
not_past false at len n is = (refl, cc)

-- a block that has a length ends within the limit
within_ok : (limit at : ℕ) (said : Result ℕ Fault) (len : ℕ) → len_within limit at said ≡ Ok len → len ≤ limit - at
within_ok limit at (Err fault) len is = absurd cc
within_ok limit at (Ok n) len is =
    let not : (nat_lt (limit - at) n ≡ false) × (n ≡ len) = not_past (nat_lt (limit - at) n) at len n is in
    let enough : nat_lt (limit - at) n ≡ false = not.0 in
    let fits : n ≤ limit - at = grind (arith, nat_tests) in
    let same : n ≡ len = not.1 in
    omega (arith, fits, same)

limit_started : (window : Window) (before : Before) (moment : Option ℤ) → (started_with window before moment).limit ≡ before.limit
limit_started windows.Whole before moment = refl
limit_started (windows.Between since until) before moment = refl

limit_after : (before : Before) (content : Content) → (context_after before content).limit ≡ before.limit
limit_after before (file order interface) = refl
limit_after before (section order) = refl
limit_after before (describes interface name) = refl
limit_after before (holds packet) = limit_started before.window before packet.moment
limit_after before (skips packet) = limit_started before.window before packet.moment
limit_after before nothing = refl

limit_behind : (before : Before) (blocks : List BlockAt) → (context_behind before blocks).limit ≡ before.limit
limit_behind before [] = refl
limit_behind before (block ∷ blocks) = limit_behind (context_after before block.content) blocks ∙ limit_after before block.content

blocks_within : (before : Before) (at : ℕ) (blocks : List BlockAt) → at ≤ before.limit → AreBlocks before at blocks
    → at + length (octets_of blocks) ≤ before.limit
blocks_within before at [] within are = omega arith
blocks_within before at (block ∷ blocks) within (here, is_block, said, are) =
    let one : length block.octets ≤ before.limit - at = within_ok before.limit at (layout_len before.to_cut before.layout at (header_of before block.octets)) (length block.octets) is_block.len in
    let same : (context_after before block.content).limit ≡ before.limit = limit_after before block.content in
    let rest : at + length block.octets + length (octets_of blocks) ≤ (context_after before block.content).limit =
    blocks_within (context_after before block.content) (at + length block.octets) blocks (omega (arith, one, same, within)) are in
    omega (arith, length-append block.octets (octets_of blocks), rest, same)

header_short : (layout : Layout) → header_len layout ≤ 24
header_short layouts.Start = omega arith
header_short (layouts.Pcap order) = omega arith
header_short (layouts.Section order) = omega arith

short_of : (limit at : ℕ) (said : Result ℕ Fault) (pending : List ℕ) → IsOkAnd (len_within limit at said) (λ len. length pending < len)
    → (r : Result ℕ Fault) → len_within limit at said ≡ r → length pending < limit - at
short_of limit at said pending less (Err fault) is = absurd (subst (λ (r : Result ℕ Fault). IsOkAnd r (λ len. length pending < len)) is less)
short_of limit at said pending less (Ok len) is =
    let below : length pending < len = subst (λ (r : Result ℕ Fault). IsOkAnd r (λ n. length pending < n)) is less in
    let within : len ≤ limit - at = within_ok limit at said len is in
    omega (arith, below, within)

partial_short : (before : Before) (at : ℕ) (pending : List ℕ) → at ≤ before.limit → IsPartial before at pending → at + length pending < before.limit + 24
partial_short before at pending within (inl less) = omega (arith, less, within, header_short before.layout)
partial_short before at pending within (inr (inr (end, few))) = omega (arith, few, within)
partial_short before at pending within (inr (inl (header, less))) =
    let below : length pending < before.limit - at =
    short_of before.limit at (layout_len before.to_cut before.layout at (header_of before pending)) pending less (block_len before at (header_of before pending)) refl in
    omega (arith, below, within)

-- octets without a fault are fewer than the limit and 24
pub taken_within : (extent : Extent) (progress : Progress) (pending fed : List ℕ) → HasTaken extent progress pending fed → length fed < extent.octets + 24
taken_within extent progress pending fed taken =
    let behind : progress.context.limit ≡ extent.octets =
    ap (λ (c : Before). c.limit) taken.leads.context ∙ limit_behind (start extent) taken.leads.blocks in
    let blocks : 0 + length (octets_of taken.leads.blocks) ≤ extent.octets =
    blocks_within (start extent) 0 taken.leads.blocks (omega arith) taken.leads.are_blocks in
    let place : progress.at ≡ length (octets_of taken.leads.blocks) = taken.leads.place ∙ ap length taken.leads.whole in
    let read : length taken.read ≡ progress.at = sym taken.leads.place in
    let short : progress.at + length taken.rest < progress.context.limit + 24 =
    partial_short progress.context progress.at taken.rest (omega (arith, behind, blocks, place)) taken.partial in
    let all : length fed ≡ length taken.read + length taken.rest = ap length taken.whole ∙ length-append taken.read taken.rest in
    omega (arith, all, read, short, behind)
