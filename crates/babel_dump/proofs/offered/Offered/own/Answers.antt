use Rattle.std.proofs.Common.{List, subst}
use Rattle.std.specs.Prelude.{Result}
use Rattle.std.specs.Result.{result_ok}
use Rattle.babel_capture.specs.Counts.{Made}
use Rattle.babel_table.specs.Rows.{Routes}
use Rattle.babel_dump.specs.EachSender.{IsFedOwn, first_missed, own_packets}
use Rattle.babel_dump.specs.Fed.{AreWhole}
use Rattle.babel_dump.specs.Packets.{packets_made}
use Rattle.babel_dump.specs.PairsMade.{heard_in}
use Rattle.babel_dump.specs.ToldPairs.{IsOwnRead}
use Rattle.babel_dump.specs.declared.input_fault.InputFault.{InputFault}
use Rattle.babel_dump.proofs.offered.Offered.own.Goals as goal

pub returns-in-None-clause-own : goal.returns-in-None-clause-own
returns-in-None-clause-own c =
    let each = c.args.captured.now.each.now in
    subst (λ (own : Result Routes InputFault). (made : List Made) → AreWhole (packets_made made)
    → IsFedOwn each c.args.origin (own_packets c.args.origin made) (first_missed c.args.origin made) c.args.table
    → IsOwnRead each (heard_in c.args.captured.now.read.now made) c.args.origin (result_ok own)) c.in-Ok.is c.in_ok-own.ensures.own
