-- The canonical text of pairs is read back as the pairs.
use Rattle.std.proofs.Common.{◌≡◌, ℕ, ◌*◌, ◌≤◌, List, [], length, map, sym, ap, subst, ◌∙◌, arith, Contains}
use Rattle.std.specs.Prelude.{◌↔◌}
use Rattle.std.specs.List.{flat_map}
use Rattle.std.proofs.lemmas.List.{append-nil}
use Rattle.babel_prefix.specs.Address.{Address}
use Rattle.babel_tlv.specs.declared.mode.Mode.{Mode}
use Rattle.babel_tlv.specs.Framing.{TlvAt, packet_octets}
use Rattle.babel_tlv.specs.Pair.{Pair}
use Rattle.babel_tlv.specs.Says.{sayings}
use Rattle.babel_tlv.specs.News.{spoken, pair_event}
use Rattle.babel_tlv.proofs.Telling.{what_of}
use Rattle.babel_table.proofs.ReadingLaws.{framed_one}
use Rattle.babel_tlv.proofs.TextTold.{text_told, length-text}
use Rattle.babel_tlv.specs.declared.start.Start.{Start}
use Rattle.babel_table.specs.Bounds.{Bounds, start_of}
use Rattle.babel_table.specs.Rows.{Routes}
use Rattle.babel_table.specs.TableOf.{IsTableOf}
use Rattle.babel_canon.specs.RoundTrip.{HaveDistinctKeys, AreReadableIn, TellsPairs, TextReadsBack}
use Rattle.babel_canon.proofs.PairRows.{pairs_hold}
use Rattle.babel_canon.proofs.NoFault.{AreFine-said, begins_so, oks_one, no_fault}

-- what is told is all that any table of the octets was made from
table_news : (limits : Bounds) (mode : Mode) (sender : Address) (octets : List ℕ) (pairs : List Pair) (table : Routes) → TellsPairs (start_of limits sender) octets pairs
    → (is_table : IsTableOf limits mode sender octets table) → spoken is_table.said ≡ map pair_event pairs
table_news limits mode sender octets pairs table tells is_table =
    let packets_are : tells.packets ≡ is_table.packets = framed_one octets tells.packets is_table.packets tells.reads is_table.reads in
    let said = AreFine-said mode limits.entries [] (sayings (start_of limits sender) is_table.packets) is_table.said is_table.fine in
    let told_is : said.told ≡ tells.said = oks_one said.told tells.said
    (sym said.whats ∙ ap (λ (ps : List (List TlvAt)). map what_of (sayings (start_of limits sender) ps)) (sym packets_are) ∙ tells.fine) in
    ap spoken (said.parts ∙ told_is) ∙ tells.news

table_rows : (limits : Bounds) (mode : Mode) (sender : Address) (octets : List ℕ) (pairs : List Pair) (table : Routes) → TellsPairs (start_of limits sender) octets pairs → HaveDistinctKeys pairs
    → AreReadableIn mode pairs → IsTableOf limits mode sender octets table → (pair : Pair) → Contains table.rows pair ↔ Contains pairs pair
table_rows limits mode sender octets pairs table tells apart readable is_table pair =
    let holds = pairs_hold mode is_table.said pairs apart readable (table_news limits mode sender octets pairs table tells is_table) pair.0 pair.1 in
    ((λ c. holds.0 (is_table.rows.held pair.0 pair.1 c)), (λ c. is_table.rows.all pair.0 pair.1 (holds.1 c)))

pub text_reads_back : TextReadsBack
text_reads_back mode body pairs octets start room fits hops apart readable text =
    let told = text_told start 0 body pairs text.0 room text.1 fits hops in
    let tells : TellsPairs start octets pairs = record {
      packets = told.packets;
      said = told.told;
      reads = record { whole = text.2 ∙ told.whole ∙ sym (append-nil (flat_map packet_octets told.packets)); placed = told.placed };
      fine = told.fine;
      news = told.news_are;
    } in
    let short : length octets ≤ 83 * length pairs = omega (arith, ap length text.2, length-text body pairs text.0 text.1 fits) in
    let tells_in : (limits : Bounds) → limits.via_v6 ≡ start.via_v6 → TellsPairs (start_of limits start.sender) octets pairs =
    λ limits same. subst (λ (s : Start). TellsPairs s octets pairs) (sym (begins_so limits start same)) tells in
    record {
      tells = tells;
      holds = pairs_hold mode tells.said pairs apart readable tells.news;
      no_fault = λ limits same entries bytes. no_fault mode limits start.sender octets pairs (tells_in limits same) entries (omega (arith, short, bytes));
      short = short;
      table = λ limits table same is_table. table_rows limits mode start.sender octets pairs table (tells_in limits same) apart readable is_table;
    }
