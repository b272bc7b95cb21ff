-- Seqnos are counted modulo 2^16: RFC 8966, 3.2.1.
use Rattle.std.specs.Prelude.{ℕ, ◌+◌, ◌-◌, ◌%◌, ◌^◌, Bool, ◌&&◌, nat_lt}

-- how many steps lead to a seqno from the one before it
abbrev pub steps_to : ℕ → ℕ → ℕ
steps_to seqno before = (seqno + (2 ^ 16 - before)) % 2 ^ 16

-- whether a seqno is larger than another: fewer than 2^15 steps lead to it, and not none
abbrev pub is_later : ℕ → ℕ → Bool
is_later seqno other = nat_lt 0 (steps_to seqno other) && nat_lt (steps_to seqno other) 32768
