-- Request 2026-10: only entries and what they include, by any chain, are read; so there are no more readings than nodes.
-- Assumes nothing.
use Prim.Native.Nat.{ℕ, zero, suc, ◌≤◌, ◌<◌}
use mathlib.Core.Path.{◌≡◌, refl, sym, ap, subst}
use mathlib.Core.Logic.{⊎_elim}
use mathlib.Core.Bool.{Bool, true, false, cond}
use mathlib.Core.List.Memᴰ
use mathlib.Core.List.{List, [], ◌∷◌, ◌++◌, Memᴰ}
use mathlib.Core.List.{map}
use native.Mathlib.Omega.{arith}
use lib.ListN.{length, get_or}
use lib.Dec.{eqb}
use borrow.Author.Tests.{eqb-true, eqb-false}
use Rattle.text.specs.Refusal.{no_refusal}
use Rattle.library_image.specs.Library.{Name, PlainLibrary}
use Rattle.graph.specs.Nodes.{Mode, nodes_of, memb}
use Rattle.graph.specs.Meaning.{Revised}
use Rattle.graph.specs.Graph.{Text, missing, refusing, deps, World, world, entries}
use Rattle.graph.specs.Graph.{no_entry_text, no_included_text, too_deep, deepest, Out, built, refused, on_out}
use Rattle.graph.specs.Numbers.{number_of, submodule_code, codes_of, codes_at, entry_code}
use Rattle.graph.specs.Numbers.{Row, row, add_row, Codes, no_text, refused_scan, codes, each_o, import_code, given_code, EntryCode}
use Rattle.graph.specs.Once.{reading, Marks, nothing_read, mark, Went, walked, halted, Below, walk_once, on_walked, is_unread, ReadsBelow, includes_read}
use Rattle.graph.specs.Once.{visit_read, walk_read, entries_read}
use Rattle.graph.proofs.Demand.{no_longer}
use Rattle.graph.proofs.Tests.{both_bools, memb_mem}
use Rattle.graph.proofs.Numbers.{number_small}
use Rattle.graph.proofs.Entries.{entry_is_node}
use Rattle.graph.proofs.ReadOnce.{once_demand}

-- ---- what holds of the entries, and of an include of each text of which it holds, holds of all that is read

module _ (P : ℕ → Type 0) where
  abbrev All : List ℕ → Type 0
  All xs = (u : ℕ) → Memᴰ u xs → P u

  none : All []
  none u m = absurd (Memᴰ.not-nil m)

  both : (xs ys : List ℕ) → All xs → All ys → All (xs ++ ys)
  both xs ys f g u m = ⊎_elim (f u) (g u) (Memᴰ.append_cases xs m)

  first : (v : ℕ) (xs : List ℕ) → P v → All xs → All (v ∷ xs)
  first v xs p f u m = ⊎_elim (λ e. subst P (sym e) p) (f u) (Memᴰ.cases_cons m)

  -- of includes by their codes
  abbrev Included : List ℕ → Type 0
  Included cs = (u : ℕ) → Memᴰ (suc (suc u)) cs → P u

  module _ (limit : ℕ) (f : Below) (t : ReadsBelow) (right : (u : ℕ) → P u → (rs : List Row) (m : Marks) → All (t u rs m)) (v : ℕ) where
    includes_all : (cs : List ℕ) → Included cs → (rs : List Row) (m : Marks) → All (includes_read limit f t v cs rs m)
    unfolding includes_read
    includes_all [] i rs m = none
    includes_all (zero ∷ cs) i rs m = none
    includes_all (suc zero ∷ cs) i rs m = none
    includes_all (suc (suc u) ∷ cs) i rs m = go (add_row limit rs (row u v)) (includes_all cs (λ w n. i w (Memᴰ.tail n)))
      where
        on : (w : Went) → ((rs₂ : List Row) (m₂ : Marks) → All (includes_read limit f t v cs rs₂ m₂))
            → All (on_walked w (λ rs₂ m₂. includes_read limit f t v cs rs₂ m₂) (λ n a. []))
        on (walked rs₂ m₂ h) ih = ih rs₂ m₂
        on (halted n a) ih = none

        go : (o : Out Row) → ((rs₂ : List Row) (m₂ : Marks) → All (includes_read limit f t v cs rs₂ m₂))
            → All (on_out o (λ rs₁. t u rs₁ m ++ on_walked (f u rs₁ m) (λ rs₂ m₂. includes_read limit f t v cs rs₂ m₂) (λ n a. [])) (λ n a. []))
        go (built rs₁) ih = both (t u rs₁ m) _ (right u (i u (Memᴰ.head refl)) rs₁ m) (on (f u rs₁ m) ih)
        go (refused n a) ih = none

    visit_all : P v → (c : Codes) → ((is us : List ℕ) → c ≡ codes is us → Included us) → (rs : List Row) (m : Marks) → All (visit_read limit f t v c rs m)
    visit_all p no_text i rs m = none
    visit_all p (refused_scan a) i rs m = first v [] p none
    visit_all p (codes is us) i rs m = first v _ p (go (each_o (import_code limit v) is rs))
      where
        go : (o : Out Row) → All (on_out o (λ rs₁. includes_read limit f t v us rs₁ (mark m v reading)) (λ n a. []))
        go (built rs₁) = includes_all us (i is us refl) rs₁ (mark m v reading)
        go (refused n a) = none

  met_all : (b : Bool) (xs : List ℕ) → All xs → All (cond b xs [])
  met_all true xs f = f
  met_all false xs f = none

  module _ (at : ℕ → Codes) (limit : ℕ) (follows : (v : ℕ) → P v → (is us : List ℕ) → at v ≡ codes is us → Included us) where
    walk_all : (left v : ℕ) → P v → (rs : List Row) (m : Marks) → All (walk_read at limit left v rs m)
    unfolding walk_read
    walk_all zero v p rs m =
        met_all (is_unread (m v)) _
        (visit_all limit (λ u rs₁ m₁. halted too_deep no_refusal) (λ u rs₁ m₁. []) (λ u q rs₁ m₁. none) v p (at v) (follows v p) rs m)
    walk_all (suc left) v p rs m =
        met_all (is_unread (m v)) _
        (visit_all limit (walk_once at limit left no_included_text) (walk_read at limit left) (walk_all left) v p (at v) (follows v p) rs m)

    entries_all : (es : List EntryCode) → ((e : EntryCode) → Memᴰ e es → P e.number) → (rs : List Row) (m : Marks)
        → All (entries_read at limit rs m es)
    unfolding entries_read
    entries_all [] i rs m = none
    entries_all (e ∷ es) i rs m =
        both (walk_read at limit deepest e.number rs m) _ (walk_all deepest e.number (i e (Memᴰ.head refl)) rs m)
        (go (walk_once at limit deepest no_entry_text e.number rs m) (entries_all es (λ x n. i x (Memᴰ.tail n))))
      where
        listed : (m₁ : Marks) → ((rs₂ : List Row) (m₂ : Marks) → All (entries_read at limit rs₂ m₂ es)) → (o : Out Row)
            → All (on_out o (λ rs₂. entries_read at limit rs₂ m₁ es) (λ n a. []))
        listed m₁ ih (built rs₂) = ih rs₂ m₁
        listed m₁ ih (refused n a) = none

        go : (w : Went) → ((rs₂ : List Row) (m₂ : Marks) → All (entries_read at limit rs₂ m₂ es))
            → All (on_walked w
            (λ rs₁ m₁. on_out (each_o (given_code limit e.number) e.lists rs₁) (λ rs₂. entries_read at limit rs₂ m₁ es) (λ n a. []))
            (λ n a. []))
        go (walked rs₁ m₁ h) ih = listed m₁ ih (each_o (given_code limit e.number) e.lists rs₁)
        go (halted n a) ih = none

-- ---- n nodes

-- entries and what their texts include are nodes
pub record AllNodes (at : ℕ → Codes) (n : ℕ) (es : List EntryCode) : Type 0 where
  pub entries : (e : EntryCode) → Memᴰ e es → e.number < n
  pub includes : (v : ℕ) → v < n → (is us : List ℕ) → at v ≡ codes is us → (u : ℕ) → Memᴰ (suc (suc u)) us → u < n

unfoldable down : ℕ → List ℕ
down zero = []
down (suc n) = n ∷ down n

down_length : (n : ℕ) → length (down n) ≡ n
unfolding down
down_length zero = refl
down_length (suc n) = ap suc (down_length n)

down_has : (n u : ℕ) → u < n → Memᴰ u (down n)
unfolding down
down_has zero u l = absurd (omega arith)
down_has (suc n) u l = go (eqb u n) refl (down_has n u)
  where
    go : (b : Bool) → eqb u n ≡ b → (u < n → Memᴰ u (down n)) → Memᴰ u (n ∷ down n)
    go true q ih = Memᴰ.head (eqb-true u n q)
    go false q ih = Memᴰ.tail (ih (omega (arith, eqb-false u n q)))

abbrev is_codes : Codes → Bool
is_codes (codes is us) = false
is_codes no_text = true
is_codes (refused_scan a) = true

abbrev includes_of : Codes → List ℕ
includes_of (codes is us) = us
includes_of no_text = []
includes_of (refused_scan a) = []

pub read_few : (at : ℕ → Codes) (limit n : ℕ) (es : List EntryCode) → AllNodes at n es → length (entries_read at limit [] nothing_read es) ≤ n
read_few at limit n es w =
    let all = entries_all (λ u. u < n) at limit w.includes es w.entries [] nothing_read in
    let k = no_longer (entries_read at limit [] nothing_read es) (down n) (once_demand at limit es).once (λ u m. down_has n u (all u m)) in
    omega (arith, k, down_length n)

-- ---- a library

module _ (mode : Mode) (text : Name → Text) (l : PlainLibrary) (revised : Revised l) where
  abbrev W : World
  W = world mode text l

  abbrev ns : List Name
  ns = nodes_of mode l

  include_small : (w : Name) (u : ℕ) → submodule_code W ns w ≡ suc (suc u) → u < length ns
  include_small w u e = go (W.listed w) (W.node w) refl e
    where
      go : (a b : Bool) → memb w ns ≡ b → cond a (cond b (suc (suc (number_of ns w))) 1) 0 ≡ suc (suc u) → u < length ns
      go true true q p = let k = number_small ns w (memb_mem w ns q) in omega (arith, p)
      go true false q p = absurd (omega (arith, p))
      go false b q p = absurd (omega (arith, p))

  text_small : (t : Text) (is us : List ℕ) → codes_of W ns t ≡ codes is us → (u : ℕ) → Memᴰ (suc (suc u)) us → u < length ns
  text_small missing is us e u m = both_bools refl (ap is_codes e)
  text_small (refusing a) is us e u m = both_bools refl (ap is_codes e)
  text_small (deps imports includes) is us e u m =
      let q = Memᴰ.of_map (submodule_code W ns) includes (subst (λ (cs : List ℕ). Memᴰ (suc (suc u)) cs) (sym (ap includes_of e)) m) in
      include_small q.0 u q.2

  pub library_nodes : AllNodes (codes_at W ns) (length ns) (map (entry_code W ns) (entries l))
  unfolding codes_at
  library_nodes = record {
    entries = λ e m. let q = Memᴰ.of_map (entry_code W ns) (entries l) m in
        subst (λ (x : EntryCode). x.number < length ns) q.2 (number_small ns q.0.name (entry_is_node mode l revised q.0 q.1));
    includes = λ v h is us e. text_small (W.text (get_or ns v [])) is us e;
  }
