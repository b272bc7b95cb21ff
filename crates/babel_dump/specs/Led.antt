-- Lines that are told of each sender in a capture: each is led by the sender and its place. It is
-- this project's own.
use Rattle.std.specs.Prelude.{ℕ, Bool, true, false, ◌==◌, List, [], ◌∷◌, ◌++◌, codes}
use Rattle.babel_capture.specs.declared.tallies.Origin.{Origin}
use Rattle.babel_dump.specs.CaptureText.{link_text, place_json}
use Rattle.babel_dump.specs.CaptureText.{vlans_text}
use Rattle.babel_dump.specs.EventText.{interface_text}
use Rattle.babel_dump.specs.InFormat.{in_format}
use Rattle.babel_dump.specs.NameText.{name_json, name_text}
use Rattle.babel_dump.specs.Names.{named_address, named_sender}
use Rattle.babel_dump.specs.declared.format.Format.{Format}
use Rattle.babel_dump.specs.declared.format.Format.TheVariants as formats
use Rattle.babel_dump.specs.declared.style.Style.{Style}

-- `ADDRESS (NAME) interface N (NAME) link N vlan N.N `; the place is left out where it is
-- interface 0 alone
abbrev pub lead_text : Style → Origin → (name : List ℕ) → List ℕ
lead_text style origin name =
    named_address style origin.sender ++ interface_text origin.place name ++ name_text name
    ++ link_text origin.place.link ++ vlans_text origin.place.vlans ++ codes " "

-- `{"sender":"ADDRESS","sender_name":"NAME","interface":N,"link":N,"vlans":[N,N],"name":"NAME",`
abbrev pub lead_json : Style → Origin → (name : List ℕ) → List ℕ
lead_json style origin name =
    codes "{\"sender\":" ++ named_sender style origin.sender ++ place_json origin.place
    ++ name_json name ++ codes ","

abbrev pub lead_in : Format → Origin → (name : List ℕ) → List ℕ
lead_in (formats.Text style) origin name = lead_text style origin name
lead_in (formats.Json style) origin name = lead_json style origin name

-- an octet, and before the first of a line the lead, which in JSON takes the place of its brace
abbrev pub led_octet : Format → (lead : List ℕ) → (is_first : Bool) → ℕ → List ℕ
led_octet format lead false octet = octet ∷ []
led_octet format lead true octet = in_format format (lead ++ octet ∷ []) lead

-- a text of which each line begins with the lead; its first octet may be the first of a line
unfoldable pub led : Format → (lead : List ℕ) → (is_first : Bool) → List ℕ → List ℕ
led format lead is_first [] = []
led format lead is_first (octet ∷ octets) =
    led_octet format lead is_first octet ++ led format lead (octet == 10) octets
