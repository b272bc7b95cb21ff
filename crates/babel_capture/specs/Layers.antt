-- Headers and payloads as the code holds them, without where their octets lie in memory.
use Rattle.babel_capture.specs.declared.ethernet.Payload.{Payload as HeldPayload}
use Rattle.babel_capture.specs.declared.headers.NextHeader.{NextHeader as HeldHeader}
use Rattle.babel_capture.specs.declared.ip_fragment.IpFragment.{IpFragment as HeldFragment}
use Rattle.babel_capture.specs.declared.options.Options.{Options as HeldOptions}
use Rattle.babel_capture.specs.Ethernet.{Payload}
use Rattle.babel_capture.specs.Headers.{NextHeader}
use Rattle.babel_capture.specs.IpFragments.{IpFragment}
use Rattle.babel_capture.specs.Options.{Options}

abbrev pub payload : HeldPayload → Payload
payload held = record {
  ether_type = held.ether_type;
  vlans = held.vlans;
  octets = held.part.octets.now;
  whole = held.part.whole;
}

abbrev pub next_header : HeldHeader → NextHeader
next_header held = record {
  number = held.number;
  octets = held.part.octets.now;
  whole = held.part.whole;
  in_fragment = held.in_fragment;
}

abbrev pub ip_fragment : HeldFragment → IpFragment
ip_fragment held = record {
  id = held.id;
  offset = held.offset;
  more = held.more;
  is_cut = held.is_cut;
  carried = next_header held.carried;
}

abbrev pub options : HeldOptions → Options
options held = record {
  name = held.name.now;
  resolution = held.resolution;
  offset = held.offset;
  octets = held.octets.now;
  is_bad = held.is_bad;
}
