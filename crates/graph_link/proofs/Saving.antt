-- The words of a text's includes, saved one after another: those saved and those to come are the codes of all.
-- Assumes nothing.
use Prim.Native.Nat.{ℕ, zero, suc, ◌+◌, ◌-◌, ◌*◌, ◌≤◌, ◌<◌}
use mathlib.Core.Path.{◌≡◌, refl, sym, ap, ap₂, ◌∙◌}
use mathlib.Core.Bool.{Bool, true, false}
use mathlib.Core.List.{List, [], ◌∷◌, ◌++◌, map, append-nil, append_assoc}
use native.Mathlib.Omega.{arith}
use native.Mathlib.Nat.{sub-zero}
use lib.Dec.{ltb}
use borrow.Author.Tests.{ltb-true, ltb-false}
use lib.ListN.{length, get_or, set, drop, length-set}
use lib.Seq.{get_or-set_same, get_or-set_other, drop-set-lt}
use Rattle.library_image.specs.Library.{Name}
use Rattle.scan_rows.specs.Span.{value_in}
use Rattle.scan_rows.specs.Rows.{include_size, include_at, rows_of, includes_in, most_rows}
use Rattle.scan_rows.specs.declared.YangInclude.{YangInclude}
use Rattle.scan_rows.proofs.Laws.{rows_done, rows_more}
use Rattle.graph.specs.Limits.{most_nodes}
use Rattle.graph_marks.specs.Marks.{Desk, included_at, included_code, IncludedNode}
use Rattle.graph_marks.specs.declared.Included.{Included}
use Rattle.graph_marks.specs.declared.Included.TheVariants.{NotFound, NotNode, Node as Below}
use Rattle.graph_texts.specs.Texts.{include_names}
use Rattle.graph_link.specs.Link.{level_words, include_codes, words_from, Words, IncludeRows, Saved}

-- ---- words of a level

words_snoc : (w : List ℕ) (base n : ℕ) → words_from w base (suc n) ≡ words_from w base n ++ (get_or w (base + n) 0 ∷ [])
unfolding words_from
words_snoc w base zero = let q : base + 0 ≡ base = omega arith in rw q
words_snoc w base (suc n) =
    let q : base + 1 + n ≡ base + suc n = omega arith in
    ap (λ l. get_or w base 0 ∷ l) (words_snoc w (base + 1) n ∙ ap (λ j. words_from w (base + 1) n ++ (get_or w j 0 ∷ [])) q)

words_before : (w : List ℕ) (at x base n : ℕ) → base + n ≤ at → words_from (set w at x) base n ≡ words_from w base n
unfolding words_from
words_before w at x base zero h = refl
words_before w at x base (suc n) h =
    ap₂ (λ a l. a ∷ l) (get_or-set_other w at base x 0 (λ e. omega arith)) (words_before w at x (base + 1) n (omega arith))

pub code_low : (r : Included) (n : ℕ) → IncludedNode r n → included_code r < n + 2
code_low NotFound n h = omega arith
code_low NotNode n h = omega arith
code_low (Below v) n h = omega arith

pub included_low : (s tab : List ℕ) (n : ℕ) (marks : List ℕ) (r : Included) → Desk s tab n marks → IncludedNode r n → IncludedNode r most_nodes
included_low s tab n marks NotFound d h = tt
included_low s tab n marks NotNode d h = tt
included_low s tab n marks (Below v) d h = omega (arith, d.holding.few)

-- the codes of the includes from the i-th on
unfoldable pub includes_from : (s : List ℕ) (ns : List Name) (store includes : List ℕ) → (k i : ℕ) → List ℕ
includes_from s ns store includes k i = map (included_at s ns) (include_names store (rows_of (include_at includes) include_size (k - i) (i * include_size)))

-- what the loop keeps
pub record Saving (n : ℕ) (s : List ℕ) (ns : List Name) (store includes : List ℕ) (k base : ℕ) (levels₀ levels : List ℕ) (i : ℕ) : Type 0 where
  pub room : i ≤ k
  pub few : k ≤ most_rows
  pub inside : base + level_words ≤ length levels₀
  pub sofar : words_from levels base i ++ includes_from s ns store includes k i ≡ include_codes s ns store includes k
  pub low : Words n levels base i
  pub under : (j : ℕ) → j < base → get_or levels j 0 ≡ get_or levels₀ j 0
  pub above : drop (base + level_words) levels ≡ drop (base + level_words) levels₀
  pub long : length levels ≡ length levels₀

pub saving_begins : (n : ℕ) (s : List ℕ) (ns : List Name) (store includes : List ℕ) (k base : ℕ) (levels : List ℕ) → IncludeRows includes k levels base
    → Saving n s ns store includes k base levels levels 0
unfolding words_from include_codes includes_from includes_in
saving_begins n s ns store includes k base levels h = record {
  room = omega arith;
  few = h.few;
  inside = h.level_room;
  sofar = rw (sub-zero k);
  low = record { low = λ j z. absurd (omega arith) };
  under = λ j z. refl;
  above = refl;
  long = refl;
}

module _ (n : ℕ) (s : List ℕ) (ns : List Name) (store includes : List ℕ) (k base : ℕ) (levels₀ levels : List ℕ) (i : ℕ)
    (g : Saving n s ns store includes k base levels₀ levels i) where
  pub all_saved : k ≤ i → Saved n (include_codes s ns store includes k) base k levels₀ levels
  unfolding includes_from include_names
  all_saved h =
      let q : i ≡ k = omega (arith, g.room) in
      record {
        words = ap (words_from levels base) (sym q) ∙ sym (append-nil (words_from levels base i))
            ∙ ap (λ l. words_from levels base i ++ map (included_at s ns) (include_names store l)) (sym (rows_done (include_at includes) include_size k i h))
            ∙ g.sofar;
        low = rw q at g.low;
        under = g.under;
        above = g.above;
        kept = g.long;
      }

  pub level_in : i < k → base + i < length levels
  level_in h = omega (arith, g.few, g.inside, g.long)

  module _ (x : YangInclude) (name : List ℕ) (e : x ≡ include_at includes (i * include_size)) (f : name ≡ value_in store x.submodule_name)
      (r : Included) (q : included_code r ≡ included_at s ns name) (b : IncludedNode r n) (w : ℕ) (z : w ≡ included_code r) (h : i < k) where
    due : includes_from s ns store includes k i ≡ w ∷ includes_from s ns store includes k (i + 1)
    unfolding includes_from include_names
    due =
        let p : w ≡ included_at s ns (value_in store (include_at includes (i * include_size)).submodule_name) = z ∙ q
        ∙ ap (included_at s ns) (f ∙ ap (λ (x : YangInclude). value_in store x.submodule_name) e) in
        rw (rows_more (include_at includes) include_size k i h, p)

    pub saved_on : Saving n s ns store includes k base levels₀ (set levels (base + i) w) (i + 1)
    saved_on =
        let l : base + i < length levels = level_in h in
        let one : i + 1 ≡ suc i = omega arith in
        let same : get_or (set levels (base + i) w) (base + i) 0 ≡ w = get_or-set_same levels (base + i) w 0 l in
        record {
          room = omega arith;
          few = g.few;
          inside = g.inside;
          sofar =
              ap (λ l. l ++ includes_from s ns store includes k (i + 1)) (ap (words_from (set levels (base + i) w) base) one
              ∙ words_snoc (set levels (base + i) w) base i ∙ ap₂ (λ a b. a ++ (b ∷ [])) (words_before levels (base + i) w base i (omega arith)) same)
              ∙ append_assoc (words_from levels base i) (w ∷ []) (includes_from s ns store includes k (i + 1))
              ∙ ap (λ l. words_from levels base i ++ l) (sym due)
              ∙ g.sofar;
          low = record { low = λ j y. go j y (ltb j i) refl };
          under = λ j y. get_or-set_other levels (base + i) j w 0 (λ e. omega arith) ∙ g.under j y;
          above = drop-set-lt (base + level_words) levels (base + i) w (omega (arith, g.few)) ∙ g.above;
          long = length-set levels (base + i) w ∙ g.long;
        }
      where
        go : (j : ℕ) → j < i + 1 → (b : Bool) → ltb j i ≡ b → get_or (set levels (base + i) w) (base + j) 0 < n + 2
        go j y true t =
            let l : j < i = ltb-true j i t in
            rw (get_or-set_other levels (base + i) (base + j) w 0 (λ e. omega arith)) (g.low.low j l)
        go j y false t =
            let m : i ≤ j = ltb-false j i t in
            let e : j ≡ i = omega arith in
            rw (e, get_or-set_same levels (base + i) w 0 (level_in h), z) (code_low r n b)
