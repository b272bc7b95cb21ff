-- Where no tag comes next, or no extension header, none is skipped.
use Rattle.std.proofs.Common.{◌≡◌, ℕ, zero, suc, false, refl, sym, ap, arith, ◌∙◌}
use Rattle.babel_capture.specs.Ethernet.{Payload, is_tag, past_tag, past_tags}
use Rattle.babel_capture.specs.Headers.{NextHeader, past_header, past_headers, telling_len}

no_tag_next : (payload : Payload) → is_tag payload.ether_type ≡ false → past_tag payload ≡ payload
unfolding past_tag
no_tag_next payload none = grind arith

pub no_tag : (payload : Payload) → is_tag payload.ether_type ≡ false → (n : ℕ) → payload ≡ past_tags n payload
unfolding past_tags
no_tag payload none zero = refl
no_tag payload none (suc n) = sym (no_tag_next payload none) ∙ ap past_tag (no_tag payload none n)

no_header_next : (header : NextHeader) → telling_len header.number ≡ 0 → past_header header ≡ header
unfolding past_header
no_header_next header none = grind arith

pub no_header : (header : NextHeader) → telling_len header.number ≡ 0 → (n : ℕ) → header ≡ past_headers n header
unfolding past_headers
no_header header none zero = refl
no_header header none (suc n) = sym (no_header_next header none) ∙ ap past_header (no_header header none n)
