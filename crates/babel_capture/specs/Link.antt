-- The link types that are read: the registry at tcpdump.org/linktypes.html.
use Rattle.std.specs.Prelude.{ℕ, ◌==◌, ◌||◌, if◌then◌else◌, Option, Some, None}
use Rattle.babel_capture.specs.declared.link.Link.{Link}
use Rattle.babel_capture.specs.declared.link.Link.TheVariants as links

-- the link type of a number, if its frames are read
abbrev pub link_of : ℕ → Option Link
link_of number =
    if number == 0 then Some links.Null
    else if number == 1 then Some links.Ethernet
    else if number == 12 || number == 14 || number == 101 then Some links.RawIp
    else if number == 108 then Some links.Loop
    else if number == 113 then Some links.Cooked
    else if number == 228 then Some links.RawIpv4
    else if number == 229 then Some links.RawIpv6
    else if number == 276 then Some links.Cooked2
    else None
