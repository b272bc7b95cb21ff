-- What the readings of a TLV's body hold: RFC 8966, 4.6.7, 4.6.8, 4.6.9.
use Rattle.std.specs.Prelude.{◌≡◌, ℕ, ◌≤◌, List, length, slice_index}
use Rattle.babel_tlv.specs.Forming.{update_encoding, prefix_len, omitted, update_seqno}
use Rattle.babel_tlv.specs.Forming.{update_metric, field_len}

-- RFC 8966, 4.6.9: the fixed part of an Update's body, and how many octets of the prefix stand
-- after it
pub record AreUpdateFields (body : List ℕ)
    (encoding flags plen omit seqno metric brought : ℕ) : Type 0 where
  pub long : 10 ≤ length body
  pub encoding_is : encoding ≡ update_encoding body
  pub flags_is : flags ≡ slice_index body 1
  pub plen_is : plen ≡ prefix_len body
  pub omitted_is : omit ≡ omitted body
  pub seqno_is : seqno ≡ update_seqno body
  pub metric_is : metric ≡ update_metric body
  pub brought_is : brought ≡ field_len body
