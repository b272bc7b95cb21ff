-- A Hello that is written is read back.
use Rattle.std.proofs.Common.{◌≡◌, ℕ, ◌+◌, ◌*◌, ◌/◌, ◌%◌, ◌^◌, ◌<◌, Bool, true, false, ltb, List, ◌∷◌, length, Option, Some, refl, ap, ◌∙◌, arith}
use Rattle.std.specs.Prelude.{◌==◌, is_ok}
use Rattle.std.specs.Int.{byte_at}
use Rattle.std.proofs.lemmas.Bool.{le-ltb}
use Rattle.babel_tlv.specs.declared.hello.Hello.{Hello}
use Rattle.babel_tlv.specs.declared.place.Place.TheVariants as places
use Rattle.babel_tlv.specs.Hellos.{HelloIsRead, hello_in, unicast_flag}
use Rattle.babel_tlv.specs.SubTlv.{sub_tlvs}

abbrev as_hello : Bool → ℕ → ℕ → Option Hello
as_hello is_unicast seqno interval = Some (record { is_unicast = is_unicast; seqno = seqno; interval = interval })

flag_back : (is_unicast : Bool) → (unicast_flag is_unicast / 128 % 2 == 1) ≡ is_unicast
flag_back true = refl
flag_back false = refl

two_back : (n : ℕ) → n < 2 ^ 16 → byte_at 1 n * 256 + byte_at 0 n ≡ n
two_back n fits = omega arith

hello_back : (f s0 s1 i0 i1 : ℕ) (octets : List ℕ) → is_ok (sub_tlvs places.Elsewhere octets) ≡ true
    → hello_in (f ∷ 0 ∷ s0 ∷ s1 ∷ i0 ∷ i1 ∷ octets) ≡ as_hello (f / 128 % 2 == 1) (s0 * 256 + s1) (i0 * 256 + i1)
hello_back f s0 s1 i0 i1 octets fine =
    let long : ltb (length (f ∷ 0 ∷ s0 ∷ s1 ∷ i0 ∷ i1 ∷ octets)) 6 ≡ false = le-ltb _ _ (omega arith) in
    rw (long, fine) refl

pub hello_is_read : HelloIsRead
hello_is_read at hello octets seqno_fits interval_fits fine =
    let seqno = hello.seqno in
    let interval = hello.interval in
    hello_back (unicast_flag hello.is_unicast) (byte_at 1 seqno) (byte_at 0 seqno) (byte_at 1 interval) (byte_at 0 interval) octets fine
    ∙ ap (λ (b : Bool). as_hello b (byte_at 1 seqno * 256 + byte_at 0 seqno) (byte_at 1 interval * 256 + byte_at 0 interval)) (flag_back hello.is_unicast)
    ∙ ap (λ (n : ℕ). as_hello hello.is_unicast n (byte_at 1 interval * 256 + byte_at 0 interval)) (two_back seqno seqno_fits)
    ∙ ap (λ (n : ℕ). as_hello hello.is_unicast seqno n) (two_back interval interval_fits)
