-- For those who go through the table: where an item's name lies, and the items from one on are those still to come.
-- Assumes nothing.
use mathlib.Core.Path.{◌≡◌, sym, ap, ◌∙◌}
use mathlib.Core.List.{List, [], ◌∷◌, ◌++◌, append-nil, append_assoc}
use Prim.Native.Nat.{ℕ, zero, suc, ◌+◌}
use native.Mathlib.Omega.{arith}
use native.Mathlib.Numerals.{add-one}
use Rattle.library_items.specs.Items.{items_at}
use Rattle.library_items.specs.Table.{item_in, item_word, items_in, items_from, Itemized}

pub items_from_lem : (s tab : List ℕ) (k i : ℕ) → items_in s tab (i + k) ≡ items_in s tab i ++ items_from s tab i k
unfolding items_in items_from
items_from_lem s tab zero i = let e : i + 0 ≡ i = omega arith in ap (items_in s tab) e ∙ sym (append-nil (items_in s tab i))
items_from_lem s tab (suc k) i =
    let e : i + suc k ≡ i + 1 + k = omega arith in
    let one : items_in s tab (i + 1) ≡ items_in s tab i ++ (item_word s (item_in tab i) ∷ []) = ap (items_in s tab) (add-one i) in
    ap (items_in s tab) e ∙ items_from_lem s tab k (i + 1)
    ∙ ap (λ xs. xs ++ items_from s tab (i + 1) k) one
    ∙ append_assoc (items_in s tab i) (item_word s (item_in tab i) ∷ []) (items_from s tab (i + 1) k)

-- from the first on they are the library's
pub items_all : {s tab : List ℕ} {n : ℕ} → Itemized s n tab → items_from s tab 0 n ≡ items_at s
unfolding items_in
items_all {s} {tab} {n} e = let z : 0 + n ≡ n = omega arith in sym (items_from_lem s tab n 0) ∙ ap (items_in s tab) z ∙ e.items
