-- The source table of a router, by its own Updates, and what is feasible by it: RFC 8966, 3.2.5,
-- 3.5.1, 3.7.3.
use Rattle.std.specs.Prelude.{ℕ, ◌+◌, Bool, true, ◌==◌, ◌&&◌, ◌||◌, nat_lt, nat_le, if◌then◌else◌}
use Rattle.std.specs.Prelude.{List, fold, Option, Some, None}
use Rattle.std.specs.declared.cmp.Ordering.{Ordering}
use Rattle.std.specs.Ordering.{nat_cmp, on, then_cmp}
use Rattle.std.specs.BTreeMap.{is_at}
use Rattle.std.specs.Cmp.Lexicographic.{slice_cmp}
use Rattle.babel_tlv.specs.Keys.{key_cmp}
use Rattle.babel_tlv.specs.Route.{Announcement, RouteKey}
use Rattle.babel_selection.specs.declared.distance.Distance.{Distance}
use Rattle.babel_selection.specs.declared.source.Source.{Source}
use Rattle.babel_selection.specs.Seqnos.{is_later}

-- RFC 8966, 3.5.1: whether a route is nearer than an entry of the source table: it has a larger
-- seqno, or the same one and a smaller metric
abbrev pub is_nearer : Announcement → Distance → Bool
is_nearer ann distance = is_later ann.seqno distance.seqno
    || (ann.seqno == distance.seqno && nat_lt ann.metric distance.metric)

-- RFC 8966, 3.5.1: what is feasible by the entry of its source, or by none
abbrev pub is_feasible : Option Distance → Announcement → Bool
is_feasible None ann = true
is_feasible (Some distance) ann = is_nearer ann distance

-- RFC 8966, 3.2.5, appendix B: whether an entry is gone, 180 s after the last Update of its source
abbrev pub is_gone : ℕ → Distance → Bool
is_gone moment distance = nat_le (distance.time + 180000000000) moment

abbrev pub anew : ℕ → Announcement → Distance
anew time ann = record { seqno = ann.seqno; metric = ann.metric; time = time }

-- RFC 8966, 3.7.3: an entry after the router's own Update of its source. One that is gone begins
-- anew.
abbrev pub after_update : ℕ → Announcement → Option Distance → Distance
after_update time ann None = anew time ann
after_update time ann (Some old) =
    if is_gone time old || is_nearer ann old then anew time ann else record old { time = time }

-- ---- all entries

-- RFC 8966, 3.2.5: an entry is of a key and a router-id. By key, then by router-id, octet by octet
abbrev pub source_cmp : Source → Source → Ordering
source_cmp = then_cmp (on (λ s. s.key) key_cmp) (on (λ s. s.router_id) (slice_cmp nat_cmp))

-- a router's own Update with a finite metric, and when it came
pub record OwnUpdate : Type 0 where
  pub key : RouteKey
  pub ann : Announcement
  pub time : ℕ

abbrev pub source_of : RouteKey → Announcement → Source
source_of key ann = record { key = key; router_id = ann.router_id }

-- the entry of a source after these Updates, in order; retractions make and change none
abbrev pub distance_of : List OwnUpdate → Source → Option Distance
distance_of updates source =
    fold (λ old one. if is_at (source_cmp (source_of one.key one.ann)) source
    then Some (after_update one.time one.ann old) else old) None updates

-- an entry, unless it is gone at the moment
abbrev pub standing : ℕ → Option Distance → Option Distance
standing moment None = None
standing moment (Some distance) = if is_gone moment distance then None else Some distance
