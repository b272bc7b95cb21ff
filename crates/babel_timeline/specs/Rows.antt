-- The rows of many senders: what each announced last for a key, and when. Their orders are this
-- project's own.
use Rattle.std.specs.Prelude.{◌≡◌, ℕ, ◌<◌, IsSome, List}
use Rattle.std.specs.Prelude.{Option, Some, None}
use Rattle.std.specs.declared.cmp.Ordering.{Ordering}
use Rattle.std.specs.declared.cmp.Ordering.TheVariants.{Less}
use Rattle.std.specs.Ordering.{nat_cmp, on, then_cmp}
use Rattle.std.specs.BTreeMap.{is_at}
use Rattle.std.specs.BTreeMap.Range.{IsLeBy}
use Rattle.std.specs.Map.{lookup}
use Rattle.babel_tlv.specs.Route.{RouteKey}
use Rattle.babel_tlv.specs.Keys.{key_cmp}
use Rattle.babel_table.specs.Moments.{Stamp, end_after}
use Rattle.babel_timeline.specs.declared.queue.Expiry.{Expiry}
use Rattle.babel_timeline.specs.declared.row.Row.{Row}
use Rattle.babel_timeline.specs.declared.subject.Subject.{Subject}

-- ---- when a row ends

-- when what was said then ends, so many times its Interval later, or never without a factor
abbrev pub end_of : Option ℕ → Stamp → Option ℕ
end_of None when = None
end_of (Some factor) when = end_after factor when

-- ---- rows

abbrev pub subject_of : {S : Type 0} → S → RouteKey → Subject S
subject_of sender key = record { sender = sender; key = key }

abbrev pub Rows : Type 0 → Type 0
Rows S = List (Subject S × Row)

-- by sender, then by key
abbrev pub subject_cmp : {S : Type 0} → (S → S → Ordering) → Subject S → Subject S → Ordering
subject_cmp cmp = then_cmp (on (λ s. s.sender) cmp) (on (λ s. s.key) key_cmp)

module _ {S : Type 0} (cmp : S → S → Ordering) where
  -- what is held for a subject
  abbrev pub row_at : Rows S → Subject S → Option Row
  row_at rows subject = lookup (is_at (subject_cmp cmp subject)) rows

  -- nothing is held for the sender
  abbrev pub HasNone : S → Rows S → Type 0
  HasNone sender rows = (key : RouteKey) → row_at rows (subject_of sender key) ≡ None

  -- of all for which something of the sender's is held, the subject is the first
  pub record IsFirstOf (sender : S) (rows : Rows S) (subject : Subject S) : Type 0 where
    pub own : subject.sender ≡ sender
    pub held : IsSome (row_at rows subject)
    pub first : (key : RouteKey) → IsSome (row_at rows (subject_of sender key))
        → IsLeBy key_cmp subject.key key

  -- nothing is held for the sender and a key up to this one
  abbrev pub HasNoneUpTo : S → RouteKey → Rows S → Type 0
  HasNoneUpTo sender most rows =
      (key : RouteKey) → IsLeBy key_cmp key most → row_at rows (subject_of sender key) ≡ None

  -- of the keys up to this one for which something of the sender's is held, this is the last one,
  -- with its row
  pub record IsLastUpTo (sender : S) (most : RouteKey) (rows : Rows S) (found : RouteKey × Row)
      : Type 0 where
    pub near : IsLeBy key_cmp found.0 most
    pub held : row_at rows (subject_of sender found.0) ≡ Some found.1
    pub last : (other : RouteKey) → IsLeBy key_cmp other most
        → IsSome (row_at rows (subject_of sender other)) → IsLeBy key_cmp other found.0

-- ---- what ends first

abbrev pub expiry_of : {S : Type 0} → ℕ → Subject S → Expiry S
expiry_of time subject =
    record { time = time; key = subject.key; sender = subject.sender }

-- by time, then by key, then by sender
abbrev pub expiry_cmp : {S : Type 0} → (S → S → Ordering) → Expiry S → Expiry S → Ordering
expiry_cmp cmp = then_cmp (on (λ e. e.time) nat_cmp)
    (then_cmp (on (λ e. e.key) key_cmp) (on (λ e. e.sender) cmp))

module _ {S : Type 0} (cmp : S → S → Ordering) (factor : Option ℕ) where
  -- what is held for the subject ends at this time
  pub record Ends (rows : Rows S) (subject : Subject S) (time : ℕ) : Type 0 where
    pub row : Row
    pub held : row_at cmp rows subject ≡ Some row
    pub end : end_of factor row.when ≡ Some time

  -- all that ends ends after this time
  abbrev pub AllLast : ℕ → Rows S → Type 0
  AllLast moment rows = (subject : Subject S) (time : ℕ) → Ends rows subject time → moment < time

  -- what is held for the subject ends at this time, and nothing before it
  pub record EndsFirst (rows : Rows S) (subject : Subject S) (time : ℕ) : Type 0 where
    pub ends : Ends rows subject time
    pub first : (other : Subject S) (later : ℕ) → Ends rows other later
        → ¬ (expiry_cmp cmp (expiry_of later other) (expiry_of time subject) ≡ Less)

-- ---- a timeline

-- a timeline (`Timeline` in the code): its rows, of which there are at most so many, and after how
-- many ten-millionths of an Interval they end, if they do
pub record Held (S : Type 0) : Type 0 where
  pub factor : Option ℕ
  pub limit : ℕ
  pub rows : Rows S
