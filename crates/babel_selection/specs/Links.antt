-- What routers say of the links to their neighbours, and what a link costs: RFC 8966, 3.4 and
-- appendix A. What was heard is listed in the order in which it came, of all senders.
use Rattle.std.specs.Prelude.{ℕ, ◌+◌, ◌-◌, ◌*◌, ◌/◌, ◌^◌, Bool, not, ◌==◌, ◌&&◌, ◌||◌, nat_lt, min}
use Rattle.std.specs.Prelude.{max, if◌then◌else◌, List, fold, Option, Some, None}
use Rattle.std.specs.declared.cmp.Ordering.{Ordering}
use Rattle.std.specs.BTreeMap.{is_at}
use Rattle.std.specs.Option.{option_map_or}
use Rattle.babel_tlv.specs.declared.hello.Hello.{Hello}
use Rattle.babel_table.specs.Moments.{has_expired}
use Rattle.babel_selection.specs.declared.hello_count.HelloCount.{HelloCount}
use Rattle.babel_selection.specs.declared.ihu_from.IhuFrom.{IhuFrom}
use Rattle.babel_selection.specs.declared.ihu_from.IhuSaid.{IhuSaid}
use Rattle.babel_selection.specs.Seqnos.{steps_to}

-- ---- Hellos

-- how many seqnos are left out between a Hello and the next one. RFC 8966, appendix A.1: with no
-- step, or with more than 16 of them, the sender has begun anew, and none is
abbrev pub missed_between : ℕ → ℕ → ℕ
missed_between before seqno =
    let steps = steps_to seqno before in
    if steps == 0 || nat_lt 16 steps then 0 else steps - 1

-- so many more, as far as 64 bits can say
abbrev pub counted : ℕ → ℕ → ℕ
counted count more = min (count + more) (2 ^ 64 - 1)

-- what is counted after one more multicast Hello; the Interval is that of the last one with one
abbrev pub after_hello : Hello → Option HelloCount → HelloCount
after_hello hello None =
    record { heard = 1; missed = 0; seqno = hello.seqno; interval = hello.interval }
after_hello hello (Some count) = record {
  heard = counted count.heard 1;
  missed = counted count.missed (missed_between count.seqno hello.seqno);
  seqno = hello.seqno;
  interval = if hello.interval == 0 then count.interval else hello.interval;
}

-- where none came
abbrev pub no_hellos : HelloCount
no_hellos = record { heard = 0; missed = 0; seqno = 0; interval = 0 }

module _ {S : Type 0} (cmp : S → S → Ordering) where
  -- what is counted of a sender's Hellos
  abbrev pub hello_count : List (S × Hello) → S → Option HelloCount
  hello_count hellos sender =
      fold (λ count one. if not one.1.is_unicast && is_at (cmp one.0) sender
      then Some (after_hello one.1 count) else count) None hellos

-- ---- IHUs

module _ {S : Type 0} (cmp : S → S → Ordering) where
  -- RFC 8966, 4.6.6: whether an IHU of the router names the neighbour, by its address, or as each
  -- other one that sends there, if it does
  abbrev pub names : IhuFrom S → S → S → Bool → Bool
  names ihu router neighbour sends = is_at (cmp ihu.router) router
      && option_map_or (λ named. is_at (cmp named) neighbour) ihu.neighbour
      (sends && not (is_at (cmp router) neighbour))

  -- the last IHU of a router that names the neighbour, which sends there or not
  abbrev pub last_ihu : List (IhuFrom S) → S → S → Bool → Option IhuSaid
  last_ihu ihus router neighbour sends =
      fold (λ last ihu. if names ihu router neighbour sends then Some ihu.said else last) None ihus

-- RFC 8966, appendix B: its Rxcost at a moment, unless it has lapsed, so many times its Interval
-- after it
abbrev pub rxcost_at : ℕ → ℕ → IhuSaid → Option ℕ
rxcost_at factor moment said =
    if has_expired factor moment said.when then None else Some said.rxcost

-- ---- what a link costs

-- RFC 8966, 3.4.3: an infinite cost, or metric
abbrev pub infinite : ℕ
infinite = 65535

-- RFC 8966, appendix A.2.2: the cost by ETX, which is at most infinite
abbrev pub etx : ℕ → ℕ → ℕ
etx txcost rxcost = min infinite (max txcost 256 * rxcost / 256)

-- RFC 8966, 3.4.3, appendix A.2: the cost of a link, of the Rxcost that the neighbour says of it
-- (the Txcost) and the one that is said to the neighbour. Where one of them is not said, or is
-- infinite, the cost is infinite; else it is the Txcost (2-out-of-3), or by ETX
abbrev pub link_cost : Bool → Option ℕ → Option ℕ → ℕ
link_cost is_etx None rxcost = infinite
link_cost is_etx (Some txcost) None = infinite
link_cost is_etx (Some txcost) (Some rxcost) =
    if txcost == infinite || rxcost == infinite then infinite
    else if is_etx then etx txcost rxcost else txcost
