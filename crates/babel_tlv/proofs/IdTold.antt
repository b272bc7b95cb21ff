-- A Router-Id that is written is read as one.
use Rattle.std.proofs.Common.{◌≡◌, ℕ, List, [], ◌∷◌, length, Some, refl, arith}
use Rattle.babel_tlv.specs.declared.event.Event.TheVariants as events
use Rattle.babel_tlv.specs.Context.{Context}
use Rattle.babel_tlv.specs.Group.{router_id_tlv}
use Rattle.babel_tlv.proofs.Telling.{Tells, Tells-one}

abbrev pub with_id : Context → List ℕ → Context
with_id context id = record context { router_id = Some id }

pub id_told : (context : Context) (at : ℕ) (id : List ℕ) → length id ≡ 8 → Tells context at (router_id_tlv id) [] (with_id context id)
id_told context at [] eight = absurd (omega arith)
id_told context at (a ∷ []) eight = absurd (omega arith)
id_told context at (a ∷ b ∷ []) eight = absurd (omega arith)
id_told context at (a ∷ b ∷ c ∷ []) eight = absurd (omega arith)
id_told context at (a ∷ b ∷ c ∷ d ∷ []) eight = absurd (omega arith)
id_told context at (a ∷ b ∷ c ∷ d ∷ e ∷ []) eight = absurd (omega arith)
id_told context at (a ∷ b ∷ c ∷ d ∷ e ∷ f ∷ []) eight = absurd (omega arith)
id_told context at (a ∷ b ∷ c ∷ d ∷ e ∷ f ∷ g ∷ []) eight = absurd (omega arith)
id_told context at (a ∷ b ∷ c ∷ d ∷ e ∷ f ∷ g ∷ h ∷ []) eight =
    Tells-one context at 6 (0 ∷ 0 ∷ a ∷ b ∷ c ∷ d ∷ e ∷ f ∷ g ∷ h ∷ []) events.Nothing (with_id context (a ∷ b ∷ c ∷ d ∷ e ∷ f ∷ g ∷ h ∷ []))
    (record { kind_fits = omega arith; len_fits = omega arith; pad1 = λ e. absurd cc }) refl refl
id_told context at (a ∷ b ∷ c ∷ d ∷ e ∷ f ∷ g ∷ h ∷ i ∷ id) eight = absurd (omega arith)
