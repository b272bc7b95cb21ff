-- What ends by the time of the packet is told before it, and who returns.
use Rattle.std.proofs.Common.{◌≡◌, ◌∙◌, ℕ, List, None, Option, ap, subst, sym, true}
use Rattle.std.specs.BTreeMap.{BTreeMap}
use Rattle.babel_timeline.specs.declared.heard.Heard.{Heard}
use Rattle.babel_timeline.specs.declared.interest.Interest.{Interest}
use Rattle.babel_timeline.specs.declared.telling.Telling.{Telling}
use Rattle.babel_timeline.specs.Hearing.{octets_heard, report_of}
use Rattle.babel_timeline.specs.Refusing.{RefusesPacket}
use Rattle.babel_timeline.specs.Rows.{AllLast, Held}
use Rattle.babel_table.specs.Moments.{Stamp}
use Rattle.babel_timeline.specs.Silence.{Watching}
use Rattle.babel_timeline.specs.SilencesTold.{TellsSilences, hellos_heard, watches}
use Rattle.babel_timeline.specs.Telling.{AskedFor, Hears, IsTold, TellsEnds, of_rows}
use Rattle.babel_timeline.proofs.CountTold.{counts_changes, counts_returns}
use Rattle.babel_timeline.proofs.RefusedLaws.{if_err_so, refuses_then}
use Rattle.babel_timeline.proofs.SilenceTold.{hears_then}
use Rattle.babel_timeline.proofs.TakingLaws.{on_ok_then}
use Rattle.babel_timeline.proofs.WatchTold.{silences_then, watches_all}
use Rattle.babel_timeline.proofs.teller.Teller.hear.Goals as goal

pub returns-clause-ok : goal.returns-clause-ok
returns-clause-ok g c =
    let cmp = g.S.Ord.cmp in
    let old = c.args.self.now in
    let mid = c.hear_hellos.new.self in
    let new = c.hear_packet.new.self in
    let asked = old.interest.asked in
    let told = c.hear_hellos.new.told.items in
    let same_told : of_rows asked told ≡ of_rows asked c.expire.new.told.items =
    subst (λ (i : Interest). of_rows i.asked told ≡ of_rows i.asked c.expire.new.told.items) c.expire.ensures.same.1 c.in_ok-hear_hellos.ensures.told in
    on_ok_then c.hear_packet.result c.hear_packet.ensures.ok (λ hears.
    hears_then cmp g.met.S.Ord.total g.met.S.Sender.exact old.timeline.factor asked old.interest.view c.args.sender c.args.start c.args.time (octets_heard cmp old.heard.entries c.args.sender) c.args.packet.now
    old.timeline.rows mid.timeline.rows new.timeline.rows c.args.told.now.items told c.hear_packet.new.told.items
    (subst (λ (h : Held g.row.S.Denot). TellsEnds cmp old.timeline.factor asked c.args.time old.timeline.rows h.rows (of_rows asked c.args.told.now.items) (of_rows asked told)) (sym c.hear_hellos.ensures.same.0)
    (subst (λ (t : List (Telling g.row.S.Denot)). TellsEnds cmp old.timeline.factor asked c.args.time old.timeline.rows c.expire.new.self.timeline.rows (of_rows asked c.args.told.now.items) t) (sym same_told)
    c.in_ok-expire.ensures.ok))
    (subst (λ (f : Option ℕ). Hears cmp f asked old.interest.view c.args.sender c.args.start c.args.time (octets_heard cmp old.heard.entries c.args.sender) c.args.packet.now
    mid.timeline.rows new.timeline.rows told c.hear_packet.new.told.items) (ap (λ (h : Held g.row.S.Denot). h.factor) c.hear_hellos.ensures.same.0 ∙ c.expire.ensures.same.0)
    (subst (λ (i : Interest). Hears cmp mid.timeline.factor i.asked i.view c.args.sender c.args.start c.args.time (octets_heard cmp old.heard.entries c.args.sender) c.args.packet.now
    mid.timeline.rows new.timeline.rows told c.hear_packet.new.told.items) (c.hear_hellos.ensures.same.1 ∙ c.expire.ensures.same.1)
    (subst (λ (m : BTreeMap g.row.S.Denot Heard). Hears cmp mid.timeline.factor mid.interest.asked mid.interest.view c.args.sender c.args.start c.args.time (octets_heard cmp m.entries c.args.sender) c.args.packet.now
    mid.timeline.rows new.timeline.rows told c.hear_packet.new.told.items) (c.hear_hellos.ensures.same.2 ∙ c.expire.ensures.heard) hears))))

-- Who was silent and who returns is told.
pub returns-clause-silences : goal.returns-clause-silences
returns-clause-silences g c watching =
    let cmp = g.S.Ord.cmp in
    let old = c.args.self.now in
    let more : List (g.row.S.Denot × Stamp) = hellos_heard c.args.sender c.args.time c.args.packet.now in
    let none : c.hear_hellos.new.self.interest.asked ≡ None = ap (λ (i : Interest). i.asked) (c.hear_hellos.ensures.same.1 ∙ c.expire.ensures.same.1) ∙ watches_all old.timeline.factor old.interest.asked watching in
    let still : watches c.expire.new.self.timeline.factor c.expire.new.self.interest.asked ≡ true =
    ap (λ (f : Option ℕ). watches f c.expire.new.self.interest.asked) c.expire.ensures.same.0 ∙ ap (λ (i : Interest). watches old.timeline.factor i.asked) c.expire.ensures.same.1 ∙ watching in
    on_ok_then c.hear_packet.result c.hear_packet.ensures.ok (λ hears.
    subst (λ (w : Watching g.row.S.Denot). TellsSilences cmp more c.args.time c.args.told.now.items c.hear_packet.new.told.items old.watch w) (sym c.hear_packet.ensures.same.2)
    (silences_then cmp g.met.S.Ord.total g.met.S.Sender.exact c.args.time more c.args.told.now.items c.expire.new.told.items c.hear_hellos.new.told.items c.hear_packet.new.told.items
    old.watch c.expire.new.self.watch c.hear_hellos.new.self.watch hears.tells.changes (c.in_ok-expire.ensures.silences watching) (c.in_ok-hear_hellos.ensures.returns still)
    (subst (λ (q : AskedFor). IsTold cmp q hears.tells.changes c.hear_hellos.new.self.timeline.rows c.hear_packet.new.self.timeline.rows c.hear_hellos.new.told.items c.hear_packet.new.told.items) none hears.tells.told)))

-- How many rows who fell silent holds is told.
pub returns-clause-holding : goal.returns-clause-holding
returns-clause-holding g c watching =
    let cmp = g.S.Ord.cmp in
    let old = c.args.self.now in
    let told = c.args.told.now.items in
    let hellos = c.hear_hellos.new.told.items in
    let none : c.hear_hellos.new.self.interest.asked ≡ None = ap (λ (i : Interest). i.asked) (c.hear_hellos.ensures.same.1 ∙ c.expire.ensures.same.1) ∙ watches_all old.timeline.factor old.interest.asked watching in
    on_ok_then c.hear_packet.result c.hear_packet.ensures.ok (λ hears.
    counts_changes cmp old.timeline.factor old.timeline.rows told hellos c.hear_packet.new.told.items hears.tells.changes
    (subst (λ (q : AskedFor). IsTold cmp q hears.tells.changes c.hear_hellos.new.self.timeline.rows c.hear_packet.new.self.timeline.rows hellos c.hear_packet.new.told.items) none hears.tells.told)
    (counts_returns cmp old.timeline.factor old.timeline.rows told c.expire.new.told.items hellos c.args.time c.in_ok-hear_hellos.ensures.only (c.in_ok-expire.ensures.holding watching)))

-- What changed by the TLVs before a fault is told behind what ended.
pub returns-clause-refused : goal.returns-clause-refused
returns-clause-refused g c =
    let cmp = g.S.Ord.cmp in
    let old = c.args.self.now in
    let mid = c.hear_hellos.new.self in
    let new = c.hear_packet.new.self in
    let asked = old.interest.asked in
    let told = c.hear_hellos.new.told.items in
    let last = c.hear_packet.new.told.items in
    let at : ℕ = octets_heard cmp old.heard.entries c.args.sender in
    let tlvs : ℕ = (report_of cmp old.heard.entries c.args.sender).tlvs in
    let same_told : of_rows asked told ≡ of_rows asked c.expire.new.told.items =
    subst (λ (i : Interest). of_rows i.asked told ≡ of_rows i.asked c.expire.new.told.items) c.expire.ensures.same.1 c.in_ok-hear_hellos.ensures.told in
    if_err_so c.hear_packet.result (λ fault refuses not_memory.
    refuses_then cmp g.met.S.Ord.total g.met.S.Sender.exact old.timeline.factor asked old.timeline.limit old.interest.view c.args.sender c.args.start c.args.time at tlvs c.args.packet.now
    old.timeline.rows mid.timeline.rows new.timeline.rows c.args.told.now.items told last fault
    (subst (λ (h : Held g.row.S.Denot). TellsEnds cmp old.timeline.factor asked c.args.time old.timeline.rows h.rows (of_rows asked c.args.told.now.items) (of_rows asked told)) (sym c.hear_hellos.ensures.same.0)
    (subst (λ (t : List (Telling g.row.S.Denot)). TellsEnds cmp old.timeline.factor asked c.args.time old.timeline.rows c.expire.new.self.timeline.rows (of_rows asked c.args.told.now.items) t) (sym same_told)
    c.in_ok-expire.ensures.ok))
    (subst (λ (n : ℕ). RefusesPacket cmp n asked c.args.sender old.timeline.factor old.interest.view c.args.start c.args.time at tlvs c.args.packet.now mid.timeline.rows new.timeline.rows told last fault)
    (ap (λ (h : Held g.row.S.Denot). h.limit) c.hear_hellos.ensures.same.0 ∙ c.expire.ensures.limit)
    (subst (λ (f : Option ℕ). RefusesPacket cmp mid.timeline.limit asked c.args.sender f old.interest.view c.args.start c.args.time at tlvs c.args.packet.now mid.timeline.rows new.timeline.rows told last fault)
    (ap (λ (h : Held g.row.S.Denot). h.factor) c.hear_hellos.ensures.same.0 ∙ c.expire.ensures.same.0)
    (subst (λ (i : Interest). RefusesPacket cmp mid.timeline.limit i.asked c.args.sender mid.timeline.factor i.view c.args.start c.args.time at tlvs c.args.packet.now mid.timeline.rows new.timeline.rows told last fault)
    (c.hear_hellos.ensures.same.1 ∙ c.expire.ensures.same.1)
    (subst (λ (m : BTreeMap g.row.S.Denot Heard). RefusesPacket cmp mid.timeline.limit mid.interest.asked c.args.sender mid.timeline.factor mid.interest.view c.args.start c.args.time
    (octets_heard cmp m.entries c.args.sender) (report_of cmp m.entries c.args.sender).tlvs c.args.packet.now mid.timeline.rows new.timeline.rows told last fault)
    (c.hear_hellos.ensures.same.2 ∙ c.expire.ensures.heard) (refuses not_memory)))))) c.hear_packet.ensures.refused

pub hear_packet-requires-clause-last : goal.hear_packet-requires-clause-last
hear_packet-requires-clause-last g c =
    subst (λ (h : Held g.row.S.Denot). AllLast g.S.Ord.cmp h.factor c.args.time h.rows) (sym c.hear_hellos.ensures.same.0)
    (subst (λ (f : Option ℕ). AllLast g.S.Ord.cmp f c.args.time c.expire.new.self.timeline.rows) (sym c.expire.ensures.same.0) c.in_ok-expire.ensures.last)
