-- What is told of an order and of a list, in words: the number, and the length or the place that the call answered.
-- Assumes nothing.
use mathlib.Core.Path.{◌≡◌, ap, ap₂, ◌∙◌}
use mathlib.Core.List.{List, [], ◌∷◌}
use Prim.Native.Nat.{ℕ}
use lib.ListN.{length}
use Rattle.order.specs.declared.Ordered.{Ordered}
use Rattle.order.specs.declared.Checked.{Checked}
use Rattle.order.specs.Order.{Orders, check_of}
use Rattle.nuvaleta.specs.Orders.{OrderAnswered, CheckAnswered}

pub order_told : (nodes : List ℕ) (n : ℕ) (edges : List ℕ) (m : ℕ) (table : List ℕ) {r : Ordered} {after a : List ℕ} {k : ℕ} → Orders nodes n edges m table r after
    → k ≡ r.number → a ≡ k ∷ r.length ∷ [] → OrderAnswered nodes n edges m table k after a
order_told nodes n edges m table h q e = record {
  told = record { number = q ∙ h.number; answered = e ∙ ap₂ (λ x y. x ∷ y ∷ []) (q ∙ h.number) h.count };
  written = h.written;
}

pub check_told : (nodes : List ℕ) (n : ℕ) (edges : List ℕ) (m : ℕ) (list : List ℕ) {r : Checked} {a : List ℕ} {k : ℕ} → r ≡ check_of (length nodes) n edges m list
    → k ≡ r.number → a ≡ k ∷ r.place ∷ [] → CheckAnswered nodes n edges m list k a
check_told nodes n edges m list {r} h q e =
    record { number = q ∙ ap (λ c. c.number) h; answered = e ∙ ap (λ (x : ℕ). x ∷ r.place ∷ []) q ∙ ap (λ c. c.number ∷ c.place ∷ []) h }
