-- How far the keys around a key reach, and the best match that is found so.
use Rattle.std.proofs.Common.{◌≡◌, ◌≢◌, inl, inr, ℕ, ◌+◌, ◌-◌, ◌*◌, ◌/◌, ◌^◌, ◌<◌, ◌≤◌, true, false, List, [], ◌∷◌, ◌++◌, Some, None, get_or, length, refl, sym, ◌∙◌, ap, subst, arith, length-append}
use Rattle.std.specs.List.{AllByRecursion, AllWithin, Contains, HoldsAt}
use Rattle.std.specs.List.Sorted.{IsStrictlySortedBy, IsPartitionedBy}
use Rattle.std.specs.Map.{keys_of}
use Rattle.std.specs.Cmp.{nat_cmp_is}
use Rattle.std.specs.Ordering.{eq_by_cmp, is_eq, is_le, nat_cmp, ordering_reverse, ordering_then}
use Rattle.std.specs.declared.cmp.Ordering.{Ordering}
use Rattle.std.specs.declared.cmp.Ordering.TheVariants.{Less, Equal, Greater}
use Rattle.std.proofs.Math.ListN.{get_or-map, get_or-append}
use Rattle.std.proofs.Math.Nat.{div-mul-le_self}
use Rattle.std.proofs.Math.Seq.{get_or-append_seam}
use Rattle.std.proofs.lemmas.Bool.{cases_lt, cases_order}
use Rattle.std.proofs.lemmas.Cmp.{tied_itself}
use Rattle.std.proofs.lemmas.List.{get_or_default}
use Rattle.std.proofs.lemmas.List.Elements.{All-get_or, All-from_recursion}
use Rattle.std.proofs.lemmas.Map.Entries.{length-keys_of}
use Rattle.std.proofs.lemmas.Map.Keys.{Less-from_sorted, le_from_is_le}
use Rattle.std.proofs.lemmas.Nat.{le-div, pow_pos}
use Rattle.babel_prefix.specs.declared.family.Family.{Family}
use Rattle.babel_prefix.specs.Address.{Address, AddressPrefix, block_of, prefix_of}
use Rattle.babel_prefix.specs.Block.{Block}
use Rattle.babel_prefix.specs.Covers.{BlockCovers, IsBlock, IsAddressPrefix, Covers}
use Rattle.babel_prefix.specs.Order.{family_cmp, address_cmp, prefix_cmp}
use Rattle.babel_prefix.specs.Width.{width_of}
use Rattle.babel_prefix.proofs.BlockLaws.{block_at-itself, within_shorter, same_block}
use Rattle.babel_prefix.proofs.Insertion.{equal_of}
use Rattle.babel_prefix.proofs.OrderLaws.{family_equality, address_equality, prefix_exact, prefix_total, prefix_equality}
use Rattle.babel_tlv.specs.declared.held.Held.TheVariants.{Unreachable}
use Rattle.babel_tlv.specs.Keys.{key_cmp, IsKey}
use Rattle.babel_tlv.specs.Pair.{Pair}
use Rattle.babel_tlv.specs.Pairs.{IsPair}
use Rattle.babel_tlv.specs.Route.{RouteKey}
use Rattle.babel_tlv.proofs.OrderLaws.{key_total, key_exact}
use Rattle.babel_table.specs.BestMatch.{ContainsBoth, IsMoreSpecific, IsBestMatch}
use Rattle.babel_table.specs.RowFor.{IsBestRow}
use Rattle.babel_table.specs.Compact.{AreOf}
use Rattle.babel_table.specs.Nested.{AreUpTo, ArePast, LeadsTo, LeadsFrom, LeadsAround, NoneWithin, IsNestedAt, IsNested, IsKeyOf}
use Rattle.babel_table.specs.Rows.{IsRising}
use Rattle.babel_table.specs.TableRows.{AreRows}
use Rattle.babel_table.specs.declared.nested_rows.Around.{Around}
use Rattle.babel_table.proofs.EntryLaws.{key_of}

-- ---- orders of two parts

first_le : (r s : Ordering) → is_le (ordering_then r s) ≡ true → is_le r ≡ true
first_le Less s e = refl
first_le Equal s e = refl
first_le Greater s e = e

next_le : (r s : Ordering) → is_le (ordering_then r s) ≡ true → r ≡ Equal → is_le s ≡ true
next_le r s e same = subst (λ (o : Ordering). is_le (ordering_then o s) ≡ true) same e

both_le : (r s : Ordering) → is_le r ≡ true → is_le s ≡ true → is_le (ordering_then r s) ≡ true
both_le Less s e f = refl
both_le Equal s e f = f
both_le Greater s e f = e

turned_le : (r s : Ordering) → r ≡ ordering_reverse s → is_le r ≡ true → is_le s ≡ true → r ≡ Equal
turned_le Equal s e f g = refl
turned_le Less Less e f g = cc
turned_le Less Equal e f g = cc
turned_le Less Greater e f g = cc
turned_le Greater s e f g = cc

nat_le : (m n : ℕ) → m ≤ n → is_le (nat_cmp m n) ≡ true
nat_le m n le =
    elim (cases_lt m n) [
      | inl lt ↦ ap is_le (sym (nat_cmp_is m n Less lt))
      | inr ge ↦ let same : m ≡ n = omega arith in ap is_le (sym (nat_cmp_is m n Equal same))
    ]

-- ---- prefixes in order

starts_by : (p q : AddressPrefix) → p.address.family ≡ q.address.family → is_le (prefix_cmp p q) ≡ true → p.address.bits ≤ q.address.bits
starts_by p q family e =
    let address : is_le (address_cmp p.address q.address) ≡ true = first_le (address_cmp p.address q.address) (nat_cmp p.len q.len) e in
    le_from_is_le _ _ (next_le (family_cmp p.address.family q.address.family) (nat_cmp p.address.bits q.address.bits) address ((family_equality _ _).1 family))

shorter_first : (p q : AddressPrefix) → p.address ≡ q.address → is_le (prefix_cmp p q) ≡ true → p.len ≤ q.len
shorter_first p q same e = le_from_is_le _ _ (next_le (address_cmp p.address q.address) (nat_cmp p.len q.len) e ((address_equality _ _).1 same))

one_prefix : (p q : AddressPrefix) → is_le (prefix_cmp p q) ≡ true → is_le (prefix_cmp q p) ≡ true → p ≡ q
one_prefix p q e f = (prefix_equality p q).0 (turned_le _ _ (prefix_total.antisymm p q) e f)

-- a prefix starts no later than its addresses
start_le : (w : ℕ) (b : Block) (n : ℕ) → IsBlock w b → BlockCovers w b n → b.start ≤ n
start_le w b n is covers =
    let k : ℕ = 2 ^ (w - b.len) in
    let start : n / k * k ≡ b.start = ap (λ m. m * k) covers ∙ ap (λ (c : Block). c.start) (block_at-itself w b is) in
    omega (arith, start, div-mul-le_self n k)

pub covers_of : {p q r s : AddressPrefix} → p ≡ q → r ≡ s → Covers p r.address → Covers q s.address
covers_of {p} {q} {r} {s} first second covers = subst (λ (x : AddressPrefix). Covers q x.address) second (subst (λ (x : AddressPrefix). Covers x r.address) first covers)

-- what lies between the start of a prefix and one of its addresses is its address
covers_between : (w : ℕ) (b : Block) (m n : ℕ) → b.start ≤ m → m ≤ n → BlockCovers w b n → BlockCovers w b m
covers_between w b m n low high covers =
    let k : ℕ = 2 ^ (w - b.len) in
    let above : b.start / k ≤ m / k = le-div (b.start / k) m k (pow_pos (w - b.len)) (omega (arith, low, div-mul-le_self b.start k)) in
    let below : m / k ≤ n / k = le-div (m / k) n k (pow_pos (w - b.len)) (omega (arith, high, div-mul-le_self m k)) in
    let at_end : n / k ≡ b.start / k = covers in
    omega (arith, above, below, at_end)

-- of two prefixes that have an address the later is the longer
later_longer : (p q : AddressPrefix) (a : Address) → IsAddressPrefix q → Covers p a → Covers q a → is_le (prefix_cmp p q) ≡ true → p.len ≤ q.len
later_longer p q a q_is in_p in_q e =
    elim (cases_lt q.len p.len) [
      | inr le ↦ le
      | inl lt ↦
          let w = width_of q.address.family in
          let one : p.address.family ≡ q.address.family = in_p.0 ∙ sym in_q.0 in
          let p_has : BlockCovers w (block_of p) a.bits = subst (λ (f : Family). BlockCovers (width_of f) (block_of p) a.bits) one in_p.1 in
          let shorter : q.len ≤ p.len = omega arith in
          let before : q.address.bits ≤ p.address.bits = start_le w (block_of q) p.address.bits q_is (within_shorter w (block_of q) (block_of p) a.bits shorter in_q.1 p_has p.address.bits refl) in
          let bits : p.address.bits ≡ q.address.bits = omega (arith, before, starts_by p q one e) in
          let address = λ (f : Family) (n : ℕ). let r : Address = record { family = f; bits = n } in r in
          shorter_first p q (ap (λ f. address f p.address.bits) one ∙ ap (λ n. address q.address.family n) bits) e
    ]

-- two of one length that have an address are one
same_len : (p q : AddressPrefix) (a : Address) → IsAddressPrefix p → IsAddressPrefix q → Covers p a → Covers q a → p.len ≡ q.len → p ≡ q
same_len p q a p_is q_is in_p in_q e =
    let w = width_of p.address.family in
    let one : q.address.family ≡ p.address.family = in_q.0 ∙ sym in_p.0 in
    let is : IsBlock w (block_of q) = subst (λ (f : Family). IsBlock (width_of f) (block_of q)) one q_is in
    let has : BlockCovers w (block_of q) a.bits = subst (λ (f : Family). BlockCovers (width_of f) (block_of q) a.bits) one in_q.1 in
    ap (λ (f : Family). prefix_of f (block_of p)) (sym one) ∙ ap (prefix_of q.address.family) (same_block w (block_of p) (block_of q) a.bits p_is is e in_p.1 has)

abbrev pub host_of : Address → AddressPrefix
host_of a = record { address = a; len = width_of a.family }

-- a prefix that has an address is no later than that of the address alone
up_to_host : (p : AddressPrefix) (a : Address) → IsAddressPrefix p → Covers p a → is_le (prefix_cmp p (host_of a)) ≡ true
up_to_host p a is covers =
    let start = start_le (width_of p.address.family) (block_of p) a.bits is covers.1 in
    let len : p.len ≤ width_of a.family = subst (λ (f : Family). p.len ≤ width_of f) covers.0 is.len_in_range in
    both_le (address_cmp p.address a) (nat_cmp p.len (width_of a.family))
    (both_le (family_cmp p.address.family a.family) (nat_cmp p.address.bits a.bits) (ap is_le ((family_equality _ _).1 covers.0)) (nat_le _ _ start)) (nat_le _ _ len)

-- ---- keys in order

dst_le : (k l : RouteKey) → is_le (key_cmp k l) ≡ true → is_le (prefix_cmp k.dst l.dst) ≡ true
dst_le k l e = first_le (prefix_cmp k.dst l.dst) (prefix_cmp k.src l.src) e

src_le : (k l : RouteKey) → k.dst ≡ l.dst → is_le (key_cmp k l) ≡ true → is_le (prefix_cmp k.src l.src) ≡ true
src_le k l same e = next_le (prefix_cmp k.dst l.dst) (prefix_cmp k.src l.src) e ((prefix_equality _ _).1 same)

less_le : (k l m : RouteKey) → key_cmp k l ≡ Less → is_le (key_cmp l m) ≡ true → is_le (key_cmp k m) ≡ true
less_le k l m less = by (key_cmp l m) refl
  where
    by : (o : Ordering) → key_cmp l m ≡ o → is_le o ≡ true → is_le (key_cmp k m) ≡ true
    by Less e f = ap is_le (key_total.trans k l m less e)
    by Equal e f = subst (λ (n : RouteKey). is_le (key_cmp k n) ≡ true) (key_exact l m e) (ap is_le less)
    by Greater e f = absurd cc

-- of two keys that contain both addresses the earlier is not more specific
pub earlier_not_better : (k l : RouteKey) (d s : Address) → IsKey k → IsKey l → ContainsBoth d s k → ContainsBoth d s l → is_le (key_cmp k l) ≡ true → IsMoreSpecific k l → ⊥
earlier_not_better k l d s k_is l_is in_k in_l e (inl longer) = omega (arith, longer, later_longer k.dst l.dst d l_is.dst in_k.0 in_l.0 (dst_le k l e))
earlier_not_better k l d s k_is l_is in_k in_l e (inr (same, longer)) =
    let one = same_len k.dst l.dst d k_is.dst l_is.dst in_k.0 in_l.0 same in
    omega (arith, longer, later_longer k.src l.src s l_is.src in_k.1 in_l.1 (src_le k l one e))

-- a key that contains both addresses is no later than that of the two alone
pub both_up_to : (key : RouteKey) (d s : Address) → IsKey key → ContainsBoth d s key → is_le (key_cmp key (key_of (host_of d) (host_of s))) ≡ true
both_up_to key d s is has = both_le (prefix_cmp key.dst (host_of d)) (prefix_cmp key.src (host_of s)) (up_to_host key.dst d is.dst has.0) (up_to_host key.src s is.src has.1)

up_to : (keys : List RouteKey) (i j : ℕ) (d : RouteKey) → IsStrictlySortedBy key_cmp keys → i ≤ j → j < length keys → is_le (key_cmp (get_or keys i d) (get_or keys j d)) ≡ true
up_to keys i j d rising le inside =
    elim (cases_lt i j) [
      | inl lt ↦ ap is_le (Less-from_sorted key_cmp keys i j d rising lt inside)
      | inr ge ↦
          let same : i ≡ j = omega arith in
          subst (λ (n : ℕ). is_le (key_cmp (get_or keys i d) (get_or keys n d)) ≡ true) same (ap is_le (tied_itself key_total (get_or keys i d)))
    ]

-- a rising key is past those before it
pub are_up_to : (keys : List RouteKey) (place : ℕ) (key : RouteKey) → IsStrictlySortedBy key_cmp keys → place < length keys → HoldsAt (λ other. other ≡ key) keys place → AreUpTo keys place key
are_up_to keys place key rising inside at k d low lt = subst (λ (l : RouteKey). is_le (key_cmp (get_or keys k d) l) ≡ true) (at d) (up_to keys k place d rising (omega (arith, lt)) inside)

-- rising keys are parted by a key
pub parted : {V : Type 0} (rows : List (RouteKey × V)) (key : RouteKey) → IsRising rows → IsPartitionedBy (λ row. is_le (key_cmp row.0 key)) rows
parted rows key rising i j d le inside passes =
    let first : RouteKey × _ → RouteKey = λ row. row.0 in
    let long : j < length (keys_of rows) = subst (λ n. j < n) (sym (length-keys_of rows)) inside in
    elim (cases_lt i j) [
      | inl lt ↦
          let less = Less-from_sorted key_cmp (keys_of rows) i j d.0 rising lt long in
          less_le (get_or rows i d).0 (get_or rows j d).0 key (rw (← get_or-map first rows i d, ← get_or-map first rows j d) less) passes
      | inr ge ↦ let same : j ≡ i = omega arith in subst (λ n. is_le (key_cmp (get_or rows n d).0 key) ≡ true) same passes
    ]

-- what holds of rows' keys holds of the keys
pub keys_within : (P : RouteKey → Type 0) (rows : List Pair) (low high : ℕ) → AllWithin (λ row. P row.0) rows low high → AllWithin P (keys_of rows) low high
keys_within P rows low high within k d at_least below =
    let e : Pair = (d, Unreachable) in
    let first : Pair → RouteKey = λ row. row.0 in
    subst P (sym (get_or-map first rows k e)) (within k e at_least below)

pub past_within : (rows : List Pair) (n : ℕ) (key : RouteKey) → AllWithin (λ row. is_le (key_cmp row.0 key) ≡ false) rows n (length rows) → ArePast (keys_of rows) n key
past_within rows n key within k d low high = keys_within (λ other. is_le (key_cmp other key) ≡ false) rows n (length rows) within k d low (subst (λ m. k < m) (length-keys_of rows) high)

-- the key of a row that was read
pub key_at : (rows : List Pair) (place : ℕ) (e : Pair) → place < length rows → HoldsAt (λ key. key ≡ (get_or rows place e).0) (keys_of rows) place
key_at rows place e inside d =
    let first : Pair → RouteKey = λ r. r.0 in
    let other : Pair = (d, Unreachable) in
    get_or-map first rows place other ∙ ap first (get_or_default rows place other e inside)

pub none_join : (P : RouteKey → Type 0) (keys : List RouteKey) (low mid high : ℕ) → NoneWithin P keys low mid → NoneWithin P keys mid high → NoneWithin P keys low high
none_join P keys low mid high front rest k d at_least below =
    elim (cases_lt k mid) [ inl lt ↦ front k d at_least lt | inr ge ↦ rest k d ge below ]

-- ---- how far the keys around a key reach

module _ {family : Family} (keys : List RouteKey) (around : List Around) (nested : IsNested family keys around) (asked : RouteKey) (c : ℕ) (inside : c < length around) where
  key_is : (k : ℕ) (d : RouteKey) → k ≤ c → IsKeyOf family (get_or keys k d)
  key_is k d le = let k_in : k < length keys = omega (arith, inside, le, nested.short) in All-get_or (IsKeyOf family) keys k d k_in nested.of

  before : (k : ℕ) (d : RouteKey) → k ≤ c → is_le (key_cmp (get_or keys k d) (get_or keys c d)) ≡ true
  before k d le = let c_in : c < length keys = omega (arith, inside, nested.short) in up_to keys k c d nested.rising le c_in

  one_family : (k : ℕ) (d : RouteKey) → k ≤ c → (get_or keys k d).dst.address.family ≡ (get_or keys c d).dst.address.family
  one_family k d le = (key_is k d le).1 ∙ sym (key_is c d (omega arith)).1

  one_source_family : (k : ℕ) (d : RouteKey) → k ≤ c → (get_or keys k d).src.address.family ≡ (get_or keys c d).src.address.family
  one_source_family k d le = sym (key_is k d le).0.one_family ∙ one_family k d le ∙ (key_is c d (omega arith)).0.one_family

  -- a key before, that leads elsewhere and has the address, leads around this one
  around_dst : (a : Around) (k : ℕ) (d : RouteKey) → is_le (key_cmp (get_or keys c d) asked) ≡ true → LeadsTo asked.dst.address (get_or keys k d) → (get_or keys k d).dst ≢ (get_or keys c d).dst
      → (get_or around c a).dst ≤ k → k < c → ⊥
  around_dst a k d below has apart low lt =
      let key = get_or keys k d in
      let other = get_or keys c d in
      let le : k ≤ c = omega (arith, lt) in
      let one = one_family k d le in
      let from = starts_by key.dst other.dst one (dst_le key other (before k d le)) in
      let to = starts_by other.dst asked.dst (sym one ∙ has.0) (dst_le other asked below) in
      (nested.each c inside a).dst d k d low lt (apart, (one, covers_between _ (block_of key.dst) other.dst.address.bits asked.dst.address.bits from to has.1))

  around_src : (a : Around) (k : ℕ) (d : RouteKey) → is_le (key_cmp (get_or keys c d) asked) ≡ true → (get_or keys c d).dst ≡ asked.dst → LeadsFrom asked.dst asked.src.address (get_or keys k d)
      → (get_or around c a).src ≤ k → k < c → ⊥
  around_src a k d below same has low lt =
      let key = get_or keys k d in
      let other = get_or keys c d in
      let le : k ≤ c = omega (arith, lt) in
      let one = one_source_family k d le in
      let dst : key.dst ≡ other.dst = has.0 ∙ sym same in
      let from = starts_by key.src other.src one (src_le key other dst (before k d le)) in
      let to = starts_by other.src asked.src (sym one ∙ has.1.0) (src_le other asked same below) in
      (nested.each c inside a).src d k d low lt (dst, (one, covers_between _ (block_of key.src) other.src.address.bits asked.src.address.bits from to has.1.1))

  module _ (end : ℕ) (c_end : c < end) (reach : AreUpTo keys end asked) where
    -- a key that does not lead to the address is passed with all between it and those around it
    pub to_skips : (key : RouteKey) (a : Around) → HoldsAt (λ other. other ≡ key) keys c → (LeadsTo asked.dst.address key → ⊥) → NoneWithin (LeadsTo asked.dst.address) keys (c + 1) end
        → NoneWithin (LeadsTo asked.dst.address) keys (get_or around c a).dst end
    to_skips key a at not after k d low high has =
        elim (cases_order k c) [
          | inl same ↦ not (subst (LeadsTo asked.dst.address) (subst (λ n. get_or keys n d ≡ key) (sym same) (at d)) has)
          | inr either ↦ elim either [
            | inl lt ↦
                around_dst a k d (reach c d (omega arith) c_end) has
                (λ e. not (subst (λ (p : AddressPrefix). Covers p asked.dst.address) (e ∙ ap (λ (l : RouteKey). l.dst) (at d)) has)) low lt
            | inr gt ↦ after k d (omega (arith, gt)) high has
          ]
        ]

    pub from_skips : (key : RouteKey) (a : Around) → HoldsAt (λ other. other ≡ key) keys c → key.dst ≡ asked.dst → (Covers key.src asked.src.address → ⊥)
        → NoneWithin (LeadsFrom asked.dst asked.src.address) keys (c + 1) end → NoneWithin (LeadsFrom asked.dst asked.src.address) keys (get_or around c a).src end
    from_skips key a at to not after k d low high has =
        elim (cases_order k c) [
          | inl same ↦ not (subst (λ (l : RouteKey). Covers l.src asked.src.address) (subst (λ n. get_or keys n d ≡ key) (sym same) (at d)) has.1)
          | inr either ↦ elim either [
            | inl lt ↦ around_src a k d (reach c d (omega arith) c_end) (ap (λ (l : RouteKey). l.dst) (at d) ∙ to) has low lt
            | inr gt ↦ after k d (omega (arith, gt)) high has
          ]
        ]

    -- before a key to a lesser destination none leads to this one
    pub from_ends : (key : RouteKey) → HoldsAt (λ other. other ≡ key) keys c → (key.dst ≡ asked.dst → ⊥) → NoneWithin (LeadsFrom asked.dst asked.src.address) keys (c + 1) end
        → NoneWithin (LeadsFrom asked.dst asked.src.address) keys 0 end
    from_ends key at apart after k d low high has =
        elim (cases_lt c k) [
          | inl gt ↦ after k d (omega (arith, gt)) high has
          | inr le ↦
              let first = subst (λ (p : AddressPrefix). is_le (prefix_cmp p (get_or keys c d).dst) ≡ true) has.0 (dst_le (get_or keys k d) (get_or keys c d) (before k d le)) in
              let second = dst_le (get_or keys c d) asked (reach c d (omega arith) c_end) in
              apart (sym (ap (λ (l : RouteKey). l.dst) (at d)) ∙ one_prefix _ _ second first)
        ]

-- before a key to the same destination the keys around are those of the last one
pub same_around : {family : Family} (keys : List RouteKey) (around : List Around) (c : ℕ) (dst : AddressPrefix) (a : Around)
    → IsNested family keys around → c < length around → HoldsAt (λ other. other.dst ≡ dst) keys c
    → NoneWithin (LeadsAround dst) keys (get_or around c a).dst (c + 1)
same_around keys around c dst a nested inside at k d low high has =
    elim (cases_lt k c) [
      | inl lt ↦ (nested.each c inside a).dst d k d low lt (subst (λ (p : AddressPrefix). LeadsAround p (get_or keys k d)) (sym (at d)) has)
      | inr ge ↦ let same : c ≡ k = omega (arith, ge, high) in has.0 (subst (λ n. (get_or keys n d).dst ≡ dst) same (at d))
    ]

-- equal prefixes are one
pub same_of : (p q : AddressPrefix) → eq_by_cmp prefix_cmp p q ≡ true → p ≡ q
same_of p q e = prefix_exact p q (equal_of (prefix_cmp p q) e)

pub apart_of : (p q : AddressPrefix) → eq_by_cmp prefix_cmp p q ≡ false → p ≡ q → ⊥
apart_of p q e same = let tied : is_eq (prefix_cmp p q) ≡ true = ap is_eq ((prefix_equality p q).1 same) in absurd cc

-- one more key, and how far those around it reach
pub nested-push : {family : Family} (keys : List RouteKey) (around : List Around) (next : Around) → IsNested family keys around → length around < length keys → IsNestedAt keys (length around) next
    → IsNested family keys (around ++ next ∷ [])
nested-push keys around next nested room at = record {
  rising = nested.rising;
  of = nested.of;
  short = omega (arith, room, length-append around (next ∷ []));
  each = λ place inside a. elim (cases_lt place (length around)) [
    | inl lt ↦ subst (IsNestedAt keys place) (sym (get_or-append around (next ∷ []) a place lt)) (nested.each place lt a)
    | inr ge ↦
        let same : length around ≡ place = omega (arith, ge, inside, length-append around (next ∷ [])) in
        subst (λ n. IsNestedAt keys n (get_or (around ++ next ∷ []) n a)) same (subst (IsNestedAt keys (length around)) (sym (get_or-append_seam around next [] a)) at)
  ];
}

-- ---- the best match

module _ {family : Family} (keys : List RouteKey) (around : List Around) (nested : IsNested family keys around) (d s : Address) where
  -- past the keys up to that of the two addresses none contains both
  pub past_both : (n : ℕ) → ArePast keys n (key_of (host_of d) (host_of s)) → NoneWithin (ContainsBoth d s) keys n (length keys)
  past_both n past k e low high has =
      let key = get_or keys k e in
      let is = All-get_or (IsKeyOf family) keys k e high nested.of in
      let le = both_up_to key d s is.0 has in
      let other = past k e low high in
      cc

  pub past_from : (to : AddressPrefix) (n : ℕ) → ArePast keys n (key_of to (host_of s)) → NoneWithin (LeadsFrom to s) keys n (length keys)
  past_from to n past k e low high has =
      let key = get_or keys k e in
      let is = All-get_or (IsKeyOf family) keys k e high nested.of in
      let le = both_le (prefix_cmp key.dst to) (prefix_cmp key.src (host_of s)) (ap is_le ((prefix_equality _ _).1 has.0)) (up_to_host key.src s is.0.src has.1) in
      let other = past k e low high in
      cc

  -- none leads from the source, as far as is known, nor past there
  pub from_all : (asked : RouteKey) (to : AddressPrefix) (low mid : ℕ) → asked ≡ key_of to (host_of s) → NoneWithin (LeadsFrom asked.dst asked.src.address) keys low mid → ArePast keys mid asked
      → NoneWithin (LeadsFrom to s) keys low (length keys)
  from_all asked to low mid is none past =
      let front = subst (λ (k : RouteKey). NoneWithin (LeadsFrom k.dst k.src.address) keys low mid) is none in
      none_join (LeadsFrom to s) keys low mid (length keys) front (past_from to mid (subst (ArePast keys mid) is past))

  -- none contains both where none leads to the destination, nor past there
  pub both_from : (asked : RouteKey) (low mid high : ℕ) → asked ≡ key_of (host_of d) (host_of s) → NoneWithin (LeadsTo asked.dst.address) keys low mid → NoneWithin (ContainsBoth d s) keys mid high
      → NoneWithin (ContainsBoth d s) keys low high
  both_from asked low mid high is none rest =
      let to_none = subst (λ (a : RouteKey). NoneWithin (LeadsTo a.dst.address) keys low mid) is none in
      none_join (ContainsBoth d s) keys low mid high (λ k e at_least below has. to_none k e at_least below has.0) rest

  module _ (to : AddressPrefix) (c : ℕ) (at : HoldsAt (λ key. key.dst ≡ to) keys c) where
    -- no key after the last one from the source contains both
    pub found_last : (last : ℕ) → c < length keys → HoldsAt (LeadsFrom to s) keys last → NoneWithin (LeadsFrom to s) keys (last + 1) (length keys)
        → NoneWithin (ContainsBoth d s) keys (c + 1) (length keys)
        → NoneWithin (ContainsBoth d s) keys (last + 1) (length keys)
    found_last last inside leads none after k e low high has =
        elim (cases_lt c k) [
          | inl gt ↦ after k e (omega (arith, gt)) high has
          | inr le ↦
              let first = subst (λ (p : AddressPrefix). is_le (prefix_cmp p (get_or keys k e).dst) ≡ true) (leads e).0
              (dst_le (get_or keys last e) (get_or keys k e) (up_to keys last k e nested.rising (omega (arith, low)) high)) in
              let second = subst (λ (p : AddressPrefix). is_le (prefix_cmp (get_or keys k e).dst p) ≡ true) (at e)
              (dst_le (get_or keys k e) (get_or keys c e) (up_to keys k c e nested.rising le inside)) in
              none k e low high (one_prefix _ _ second first, has.1)
        ]

    -- where none leads from the source, none contains both from those around on
    pub next_around : (a : Around) → c < length around → HoldsAt (λ key. is_le (key_cmp key (key_of (host_of d) (host_of s))) ≡ true) keys c → NoneWithin (LeadsFrom to s) keys 0 (length keys)
        → NoneWithin (ContainsBoth d s) keys (c + 1) (length keys) → NoneWithin (ContainsBoth d s) keys (get_or around c a).dst (length keys)
    next_around a inside below none after k e low high has =
        elim (cases_order k c) [
          | inl same ↦ none k e (omega arith) high (subst (λ n. (get_or keys n e).dst ≡ to) (sym same) (at e), has.1)
          | inr either ↦ elim either [
            | inl lt ↦ around_dst keys around nested (key_of (host_of d) (host_of s)) c inside a k e (below e) has.0 (λ one. none k e (omega arith) high (one ∙ at e, has.1)) low lt
            | inr gt ↦ after k e (omega (arith, gt)) high has
          ]
        ]

-- the place of a row is that of its key
listed_key : (rows : List Pair) (row : Pair) (c : Contains rows row) → get_or (keys_of rows) c.0 row.0 ≡ row.0
listed_key rows row c = let first : Pair → RouteKey = λ r. r.0 in get_or-map first rows c.0 row ∙ ap first c.2

pub no_match : (rows : List Pair) (d s : Address) → NoneWithin (ContainsBoth d s) (keys_of rows) 0 (length (keys_of rows)) → IsBestMatch rows d s None
no_match rows d s none key held c both =
    none c.0 key (omega arith) (subst (λ n. c.0 < n) (sym (length-keys_of rows)) c.1) (subst (ContainsBoth d s) (sym (listed_key rows (key, held) c)) both)

pub best_row : {family : Family} (rows : List Pair) (around : List Around) (d s : Address) (place : ℕ) (e : Pair) → IsNested family (keys_of rows) around → place < length rows
    → ContainsBoth d s (get_or rows place e).0 → NoneWithin (ContainsBoth d s) (keys_of rows) (place + 1) (length (keys_of rows)) → IsBestRow rows d s (get_or rows place e)
best_row {family} rows around d s place e nested inside both after = record {
  listed = (place, inside, sym (get_or_default rows place e (get_or rows place e) inside));
  matching = both;
  best = λ other c in_other more.
      let keys = keys_of rows in
      let long : length keys ≡ length rows = length-keys_of rows in
      let row : Pair = get_or rows place e in
      let here = key_at rows place e inside other.0 in
      let there = listed_key rows other c in
      let c_in : c.0 < length keys = subst (λ n. c.0 < n) (sym long) c.1 in
      let p_in : place < length keys = subst (λ n. place < n) (sym long) inside in
      elim (cases_lt place c.0) [
        | inl gt ↦ after c.0 other.0 (omega (arith, gt)) c_in (subst (ContainsBoth d s) (sym there) in_other)
        | inr le ↦
            let row_is = subst (IsKeyOf family) here (All-get_or (IsKeyOf family) keys place other.0 p_in nested.of) in
            let other_is = subst (IsKeyOf family) there (All-get_or (IsKeyOf family) keys c.0 other.0 c_in nested.of) in
            let order = subst (λ (l : RouteKey). is_le (key_cmp (get_or keys c.0 other.0) l) ≡ true) here (up_to keys c.0 place other.0 nested.rising le p_in) in
            earlier_not_better other.0 row.0 d s other_is.0 row_is.0 in_other both (subst (λ (l : RouteKey). is_le (key_cmp l row.0) ≡ true) there order) more
      ];
}

-- ---- the rows of a table

keys_are : (family : Family) (rows : List Pair) → AllByRecursion IsPair rows → AreOf family rows → AllByRecursion (IsKeyOf family) (keys_of rows)
keys_are family [] each of = tt
keys_are family (row ∷ rows) each of = ((record { dst = each.0.dst; src = each.0.src; one_family = each.0.one_family }, of.0), keys_are family rows each.1 of.1)

pub nested-none : (family : Family) (rows : List Pair) → AreRows rows → AreOf family rows → IsNested family (keys_of rows) []
nested-none family rows are of = record {
  rising = are.rising;
  of = All-from_recursion (IsKeyOf family) (keys_of rows) (keys_are family rows are.each of);
  short = omega arith;
  each = λ place inside. absurd (omega (arith, inside));
}
