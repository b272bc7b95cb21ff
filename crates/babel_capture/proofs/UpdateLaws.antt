-- TLVs counted one by one: how many are Updates, and how many octets they are.
use Rattle.std.proofs.Common.{◌≡◌, ℕ, zero, suc, ◌+◌, ◌-◌, ◌≤◌, Bool, true, false, cond, List, [], ◌∷◌, length, take, refl, ap, ◌∙◌, length-append, arith, nat_lt, if◌then◌else◌, ◌==◌}
use Rattle.std.specs.Prelude.{count_by}
use Rattle.std.specs.List.{flat_map}
use Rattle.std.proofs.lemmas.List.{length-take}
use Rattle.std.proofs.lemmas.Bool.Decides.{nat_tests}
use Rattle.std.proofs.lemmas.List.Sums.{sum_by-append}
use Rattle.babel_tlv.specs.Framing.{TlvAt, laid_out, tlv_octets, tlvs_of, tlvs_past}
use Rattle.babel_capture.specs.Updates.{is_update}

pub laid_out_len : (kind : ℕ) (body : List ℕ) → length (laid_out kind body) ≡ (if kind == 0 then 1 else 2 + length body)
laid_out_len zero body = refl
laid_out_len (suc kind) body =
    let apart : (suc kind == 0) ≡ false = grind (arith, nat_tests) in
    rw apart (omega arith)

octets-some : (kind : ℕ) (body : List ℕ) → 1 ≤ length (laid_out kind body)
octets-some zero body = omega arith
octets-some (suc kind) body = omega arith

zero_more : (n : ℕ) → 0 + n ≡ n
zero_more n = omega arith

count-cons : (p : TlvAt → Bool) (x : TlvAt) (xs : List TlvAt) → count_by p (x ∷ xs) ≡ cond (p x) 1 0 + count_by p xs
count-cons p x xs = sum_by-append (λ s. cond (p s) 1 0) (x ∷ []) xs ∙ ap (λ (n : ℕ). n + count_by p xs) (zero_more (cond (p x) 1 0))

pub updates-step : (left next : List TlvAt) (tlv : TlvAt) → left ≡ tlv ∷ next → count_by is_update left ≡ cond (is_update tlv) 1 0 + count_by is_update next
updates-step left next tlv is = ap (count_by is_update) is ∙ count-cons is_update tlv next

pub update-step : (left next : List TlvAt) (tlv : TlvAt) → left ≡ tlv ∷ next → tlv.kind ≡ 8 → count_by is_update left ≡ 1 + count_by is_update next
update-step left next tlv is update = updates-step left next tlv is ∙ ap (λ (kind : ℕ). cond (kind == 8) 1 0 + count_by is_update next) update

pub octets-step : (left next : List TlvAt) (tlv : TlvAt) → left ≡ tlv ∷ next → length (flat_map tlv_octets left) ≡ length (tlv_octets tlv) + length (flat_map tlv_octets next)
octets-step left next tlv is = ap (λ (t : List TlvAt). length (flat_map tlv_octets t)) is ∙ length-append (tlv_octets tlv) (flat_map tlv_octets next)

one_at_most : (b : Bool) → cond b 1 0 ≤ 1
one_at_most true = omega arith
one_at_most false = omega arith

pub updates-few : (tlvs : List TlvAt) → count_by is_update tlvs ≤ length (flat_map tlv_octets tlvs)
updates-few [] = omega arith
updates-few (tlv ∷ tlvs) =
    let some = octets-some tlv.kind tlv.body in
    let one = one_at_most (is_update tlv) in
    omega (arith, updates-step (tlv ∷ tlvs) tlvs tlv refl, octets-step (tlv ∷ tlvs) tlvs tlv refl, updates-few tlvs)

-- where a TLV fits, it and those after it have no more octets than there are
tlv-few : (at kind len : ℕ) (octets : List ℕ) (later : List TlvAt) (b : Bool) → nat_lt (length octets) len ≡ b → length (flat_map tlv_octets later) ≤ length octets - len
    → length (flat_map tlv_octets (if b then [] else (record { at = at; kind = suc kind; body = take len octets } ∷ later))) ≤ length (suc kind ∷ len ∷ octets) - 0
tlv-few at kind len octets later true is few = omega arith
tlv-few at kind len octets later false is few =
    let fits : len ≤ length octets = grind (arith, nat_tests) in
    omega (arith, length-take len octets, length-append (suc kind ∷ length (take len octets) ∷ take len octets) (flat_map tlv_octets later))

past-few : (past at : ℕ) (octets : List ℕ) → length (flat_map tlv_octets (tlvs_past past at octets)) ≤ length octets - past
past-few (suc past) at [] = omega arith
past-few (suc past) at (octet ∷ octets) = (let few = past-few past at octets in omega arith)
past-few zero at [] = omega arith
past-few zero at (zero ∷ octets) = (let few = past-few zero (at + 1) octets in omega arith)
past-few zero at (suc kind ∷ []) = omega arith
past-few zero at (suc kind ∷ len ∷ octets) =
    tlv-few at kind len octets (tlvs_past len (at + (2 + len)) octets) (nat_lt (length octets) len) refl (past-few len (at + (2 + len)) octets)

pub octets-few : (at : ℕ) (octets : List ℕ) → length (flat_map tlv_octets (tlvs_of at octets)) ≤ length octets
octets-few at octets = (let few = past-few 0 at octets in omega arith)
