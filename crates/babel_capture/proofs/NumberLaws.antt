-- Numbers in octets.
use Rattle.std.specs.Prelude.{Result, Ok, Err, IfErr, if◌then◌else◌, Bool, true, false}
use Rattle.std.proofs.Common.{◌≡◌, ℕ, ◌-◌, List, length, take, drop, length-drop, arith, sym, ap, ◌∙◌}
use Rattle.std.proofs.lemmas.List.{take_all}
use Rattle.byteorder.specs.Endian.{big_number, little_number}
use Rattle.babel_capture.specs.declared.order.Order.{Order}
use Rattle.babel_capture.specs.declared.order.Order.TheVariants as orders
use Rattle.babel_capture.specs.Numbers.{number_at}

-- what a slice from a place on is
pub rest_is : (place : ℕ) (octets : List ℕ) → take (length octets - place) (drop place octets) ≡ drop place octets
rest_is place octets = take_all (length octets - place) (drop place octets) (omega (arith, length-drop place octets))

module _ (order : Order) (count place : ℕ) (octets : List ℕ) (number : ℕ) where
  pub read_big : order ≡ orders.Big → number ≡ big_number count (take (length octets - place) (drop place octets)) → number ≡ number_at order count octets place
  unfolding number_at
  read_big is read =
      read ∙ ap (big_number count) (rest_is place octets) ∙ ap (λ (o : Order). number_at o count octets place) (sym is)

  pub read_little : order ≡ orders.Little → number ≡ little_number count (take (length octets - place) (drop place octets)) → number ≡ number_at order count octets place
  unfolding number_at
  read_little is read =
      read ∙ ap (little_number count) (rest_is place octets) ∙ ap (λ (o : Order). number_at o count octets place) (sym is)

-- what is answered where a test fails, if the other answer is this
pub err_where : {A B E : Type 0} (r : Result A E) (b : Bool) (x y : Result B E) → b ≡ false → IfErr r (λ fault. y ≡ Err fault) → IfErr r (λ fault. (if b then x else y) ≡ Err fault)
err_where (Ok value) b x y fails holds = tt
err_where (Err fault) true x y fails holds = absurd cc
err_where (Err fault) false x y fails holds = holds
