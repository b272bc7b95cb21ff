-- Which senders of a capture `events` follows, and what it takes of the records: this project's own.
use Rattle.std.specs.Prelude.{◌≡◌, ◌≤◌, Bool, true, false, ◌||◌, ◌&&◌, nat_lt, if◌then◌else◌}
use Rattle.std.specs.Prelude.{ℕ, length, fold}
use Rattle.std.specs.Prelude.{List, [], ◌∷◌, ◌++◌, Option, None, Some}
use Rattle.std.specs.BTreeMap.{insert_entry, is_at}
use Rattle.std.specs.List.{filter}
use Rattle.std.specs.Map.{keys_of, lookup}
use Rattle.std.specs.Option.{is_some, option_map, unwrap_or}
use Rattle.babel_capture.specs.declared.tallies.Origin.{Origin}
use Rattle.babel_capture.specs.Counts.{Made}
use Rattle.babel_capture.specs.Findings.{Found, found, left, octets_found, passed}
use Rattle.babel_capture.specs.Tallies.{origin_cmp}
use Rattle.babel_capture.specs.Updates.{updates_in}

-- senders, each at each place, by place, then by address; and whether a packet of it came, or only
-- datagrams that are missed
abbrev pub Senders : Type 0
Senders = List (Origin × Bool)

-- whose packet was found, or whose datagram that is missed; and whether it is a packet
abbrev pub sender_of : Found → Option (Origin × Bool)
sender_of (found place ends packet has_trailer) =
    Some (record { place = place; sender = ends.sender }, true)
sender_of (left reason missed) = option_map (λ origin. (origin, false)) missed
sender_of what = None

-- with it, if there is one
abbrev pub with_sender : Senders → Option (Origin × Bool) → Senders
with_sender senders None = senders
with_sender senders (Some sender) = insert_entry origin_cmp senders sender.0
    (sender.1 || unwrap_or (lookup (is_at (origin_cmp sender.0)) senders) false)

-- these octets of a packet have an Update
abbrev pub has_update : List ℕ → Bool
has_update octets = nat_lt 0 (updates_in octets)

-- There is room for a sender where fewer than 65,536 are followed; for one of whom such octets came
-- also where fewer than 131,072 are, so that senders who announce nothing keep out nobody who does.
abbrev pub has_room : Senders → (octets : List ℕ) → Bool
has_room senders octets = nat_lt (length senders) 65536
    || (has_update octets && nat_lt (length senders) 131072)

-- a sender is followed if it was before, or if there is room
abbrev pub follows : Senders → Origin → (octets : List ℕ) → Bool
follows senders origin octets = is_some (lookup (is_at (origin_cmp origin)) senders)
    || has_room senders octets

abbrev pub follows_any : Senders → Option (Origin × Bool) → (octets : List ℕ) → Bool
follows_any senders None octets = true
follows_any senders (Some sender) octets = follows senders sender.0 octets

abbrev pub is_followed : Senders → Found → Bool
is_followed senders what = follows_any senders (sender_of what) (octets_found what)

-- so that it is from then on
abbrev pub with_followed : Senders → Found → Senders
with_followed senders what =
    if is_followed senders what then with_sender senders (sender_of what) else senders

-- the senders that are followed after these records
abbrev pub senders_followed : List Made → Senders
senders_followed made = fold (λ senders one. with_followed senders one.what) [] made

-- what is taken of a record: of a sender that is not followed nothing, but that the record came
abbrev pub followed_of : Senders → Made → Made
followed_of senders one =
    if is_followed senders one.what then one else record one { what = passed }

abbrev pub followed_after : Senders → List Made → List Made
followed_after senders [] = []
followed_after senders (one ∷ made) =
    followed_of senders one ∷ followed_after (with_followed senders one.what) made

abbrev pub followed : List Made → List Made
followed made = followed_after [] made

-- those of whom a packet came
abbrev pub with_packets : Senders → List Origin
with_packets senders = keys_of (filter (λ sender. sender.1) senders)

-- where no more than 65,536 senders are met, all records are taken as they are
abbrev pub senders_met : List Made → Senders
senders_met made = fold (λ senders one. with_sender senders (sender_of one.what)) [] made

abbrev pub FewAreFollowed : Type 0
FewAreFollowed = (made : List Made) → length (senders_met made) ≤ 65536 → followed made ≡ made

-- of whom packets with an Update came
abbrev pub senders_announcing : List Made → Senders
senders_announcing made = senders_met (filter (λ one. has_update (octets_found one.what)) made)

abbrev pub has_announced : List Made → Origin → Bool
has_announced made origin = is_some (lookup (is_at (origin_cmp origin)) (senders_announcing made))

-- Where no more than 65,536 senders announce anything, each of them is followed, from its first
-- Update on, however many others there are.
abbrev pub WhoAnnouncesIsFollowed : Type 0
WhoAnnouncesIsFollowed = (made : List Made) (one : Made) (sender : Origin × Bool)
    → length (senders_announcing (made ++ one ∷ [])) ≤ 65536 → sender_of one.what ≡ Some sender
    → has_announced (made ++ one ∷ []) sender.0 ≡ true
    → is_followed (senders_followed made) one.what ≡ true
