-- What a host is answered for an order and for a list. answer[2] of an order: number, how many nodes are written; of a list: number, place. Each call
-- returns the number.
-- Assumes nothing.
use Rattle.std.specs.Prelude.{ℕ, ◌≡◌, List, [], ◌∷◌, length}
use Rattle.text_lent.specs.Padded.{padded}
use Rattle.order.specs.declared.Checked.{Checked}
use Rattle.order.specs.Order.{Sorted, order_of, check_of}
use Rattle.nuvaleta.specs.Finds.{Told}

abbrev pub order_words : Sorted → List ℕ
order_words x = x.number ∷ length x.nodes ∷ []

-- table: the order table at entry; after: at exit
pub record OrderAnswered (nodes : List ℕ) (n : ℕ) (edges : List ℕ) (m : ℕ) (table : List ℕ) (r : ℕ) (after answer : List ℕ) : Type 0 where
  pub told : Told (order_words (order_of (length nodes) n edges m (length table))) r answer
  pub written : after ≡ padded (length table) (order_of (length nodes) n edges m (length table)).nodes

abbrev pub check_words : Checked → List ℕ
check_words x = x.number ∷ x.place ∷ []

abbrev pub CheckAnswered : (nodes : List ℕ) (n : ℕ) (edges : List ℕ) (m : ℕ) (list : List ℕ) (r : ℕ) (answer : List ℕ) → Type 0
CheckAnswered nodes n edges m list r answer = Told (check_words (check_of (length nodes) n edges m list)) r answer
