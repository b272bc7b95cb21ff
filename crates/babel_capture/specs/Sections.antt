-- In how many sections of a capture datagrams of Babel came, as draft-ietf-opsawg-pcapng, 4.1, has
-- sections: each describes its interfaces anew. A pcap file is one. It is this project's own.
use Rattle.std.specs.Prelude.{ℕ, Bool, true, not, ◌+◌, ◌==◌, if◌then◌else◌, Option, None, Some}
use Rattle.babel_capture.specs.declared.sections.Sections.{Sections}
use Rattle.babel_capture.specs.Times.{Came, skipped, missing, kept}

abbrev pub no_sections : Sections
no_sections = record { count = 0; last = None }

-- the section whose first interface has this number is another than the last one
abbrev pub is_next : (last : Option ℕ) → ℕ → Bool
is_next None section = true
is_next (Some last) section = not (section == last)

-- with one packet more, which came in this section, if it is a datagram of Babel
abbrev pub with_section : Sections → Option ℕ → Sections
with_section sections None = sections
with_section sections (Some section) =
    if is_next sections.last section then record {
      count = sections.count + 1;
      last = Some section;
    } else sections

-- one that is skipped does not count, and neither does a datagram of which fragments are missing
abbrev pub sectioned : Sections → Came → Sections
sectioned sections skipped = sections
sectioned sections missing = sections
sectioned sections (kept time section) = with_section sections section
