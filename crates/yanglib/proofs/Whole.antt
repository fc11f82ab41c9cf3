-- From the readings to the whole call: the tables hold the words of the result, which the laws of Ways name; a refusal leaves them zero, and scratch is cleared
-- whatever came of it.
-- Assumes nothing.
use Rattle.std.specs.Prelude.{Ok, Err, Result as Answer}
use Prim.Native.Nat.{ℕ}
use mathlib.Core.Path.{◌≡◌, refl, sym, ap, ap₂, ◌∙◌, subst}
use mathlib.Core.Bool.{Bool, true, false}
use mathlib.Core.List.{List}
use native.Mathlib.Omega.{arith}
use lib.ListN.{length}
use Rattle.text_lent.specs.Padded.{zeros, padded}
use Rattle.library_image.specs.Image.{image_at}
use Rattle.library_bundle.specs.Reading.{OpenedAs, longest_text}
use Rattle.library_lists.specs.Lists.{done, read_seen}
use Rattle.graph.specs.Nodes.{Mode}
use Rattle.text.specs.Refusal.{no_refusal}
use Rattle.graph_tables.specs.Tables.{node_words, row_words}
use Rattle.graph_build.specs.Result.{Result, refused_at, refusal, draw_result}
use Rattle.yanglib.specs.ToGraph.{graphed, Leaves}
use Rattle.graph_tables.specs.Lengths.{Lengths, lengths_of, is_too_short}
use Rattle.graph_draw.specs.Draw.{BothRead, Lent}
use Rattle.graph_draw.proofs.Drawing.{no_rows}
use Rattle.graph_build.specs.Between.{LentNodes, Holds}
use Rattle.graph_build.specs.declared.GraphRefusal.{GraphRefusal}
use Rattle.graph_tables.proofs.Short.{Enough, long_enough}
use Rattle.graph_draw.proofs.Drawing.{cleared_long}
use Rattle.graph_visit.proofs.Visiting.{same_long}
use Rattle.yanglib.proofs.Ways.{image_reads, image_wrong, bundle_wrong, too_little, enough}
use Rattle.graph_build.proofs.Holds.{no_nodes}

-- ---- `read_and_draw`

pub both_read : (s b tab : List ℕ) (texts : ℕ) {r : Answer ℕ ℕ} {j : ℕ} {o : Answer ℕ ℕ} → r ≡ Ok j → read_seen r ≡ done (image_at s) → OpenedAs b o tab
    → o ≡ Ok texts
    → BothRead s b tab texts
both_read s b tab texts {r} e q h f = record { reads = image_reads s r e q; held = h.held texts f }

pub lent : (b store imports includes levels edges : List ℕ) (longest : ℕ) (k : Lengths) {short : Bool} → longest ≡ longest_text b
    → short ≡ is_too_short longest k
    → short ≡ false
    → k.store ≡ length store → k.imports ≡ length imports → k.includes ≡ length includes → k.levels ≡ length levels → k.edges ≡ length edges
    → edges ≡ zeros (length edges) → Lent b store imports includes levels edges
lent b store imports includes levels edges longest k l t u d f g v e z =
    let w : Enough longest k = long_enough longest k (sym t ∙ u) in
    record {
      scan = record { store_room = omega (arith, w.store, l, d); import_room = omega (arith, w.imports, f); include_room = omega (arith, w.includes, g) };
      levels_room = omega (arith, w.levels, v);
      edges_room = omega (arith, w.edges, e);
      edges_zero = z;
    }

pub lent_nodes : (nodes : List ℕ) (longest : ℕ) (k : Lengths) {short : Bool} → short ≡ is_too_short longest k → short ≡ false → k.nodes ≡ length nodes
    → nodes ≡ zeros (length nodes) → LentNodes nodes
lent_nodes nodes longest k t u n z = let w : Enough longest k = long_enough longest k (sym t ∙ u) in record { room = omega (arith, w.nodes, n); zero = z }

module _ (mode : Mode) (s b nodes edges store imports includes levels : List ℕ) (zn : nodes ≡ zeros (length nodes)) (ze : edges ≡ zeros (length edges)) where
  abbrev k : Lengths
  k = lengths_of nodes edges store imports includes levels

  refusing : {y : GraphRefusal} {number place : ℕ} → y ≡ refused_at number place → graphed mode s b k ≡ refusal number 0 no_refusal place
      → Holds (graphed mode s b k) nodes edges store imports includes levels (Err y) nodes edges store imports includes levels
  refusing z x = record {
    answer = ap Err z ∙ sym (ap (λ (y : Result). y.answer) x);
    nodes = zn ∙ no_nodes (length nodes) ∙ sym (ap (λ (y : Result). padded (length nodes) (node_words y.nodes)) x);
    edges = ze ∙ no_rows (length edges) ∙ sym (ap (λ (y : Result). padded (length edges) (row_words y.rows)) x);
    kept = same_long store imports includes levels;
  }

  pub no_image : {r : Answer ℕ ℕ} {p : ℕ} {y : GraphRefusal} → r ≡ Err p → read_seen r ≡ done (image_at s) → y ≡ refused_at 20 p
      → Holds (graphed mode s b k) nodes edges store imports includes levels (Err y) nodes edges store imports includes levels
  no_image {r} e q z = refusing z (image_wrong mode s b k r e q)

  pub no_bundle : {r : Answer ℕ ℕ} {j : ℕ} {o : Answer ℕ ℕ} {tab : List ℕ} {p : ℕ} {y : GraphRefusal} → r ≡ Ok j → read_seen r ≡ done (image_at s)
      → OpenedAs b o tab
      → o ≡ Err p → y ≡ refused_at 21 p
      → Holds (graphed mode s b k) nodes edges store imports includes levels (Err y) nodes edges store imports includes levels
  no_bundle {r} {o = o} {tab = tab} e q h f z = refusing z (bundle_wrong mode s b k (image_reads s r e q) o tab f h)

  pub not_enough : {tab : List ℕ} {texts : ℕ} {longest : ℕ} {short : Bool} {y : GraphRefusal} → BothRead s b tab texts → longest ≡ longest_text b
      → short ≡ is_too_short longest k → short ≡ true → y ≡ refused_at 22 0
      → Holds (graphed mode s b k) nodes edges store imports includes levels (Err y) nodes edges store imports includes levels
  not_enough {tab} {texts} o l t u z = refusing z (too_little mode s b k o.reads tab texts o.held l t u)

  pub all_held : {tab : List ℕ} {texts : ℕ} {longest : ℕ} {short : Bool} → BothRead s b tab texts → longest ≡ longest_text b → short ≡ is_too_short longest k
      → short ≡ false
      → {y : Answer (ℕ × ℕ) GraphRefusal} {n₁ e₁ d₁ f₁ g₁ l₁ : List ℕ}
      → Holds (draw_result mode s b) nodes edges store imports includes levels y n₁ e₁ d₁ f₁ g₁ l₁
      → Holds (graphed mode s b k) nodes edges store imports includes levels y n₁ e₁ d₁ f₁ g₁ l₁
  all_held {tab} {texts} o l t u {y} {n₁} {e₁} {d₁} {f₁} {g₁} {l₁} w =
      subst (λ (x : Result). Holds x nodes edges store imports includes levels y n₁ e₁ d₁ f₁ g₁ l₁)
      (sym (enough mode s b k o.reads tab texts o.held l t u)) w

-- ---- `to_graph`

pub now_zero : (v : List ℕ) {w : List ℕ} → w ≡ zeros (length v) → w ≡ zeros (length w)
now_zero v {w} h = h ∙ ap zeros (sym (cleared_long {k = length v} refl h))

module _ (mode : Mode) (s b n e d f g l n₀ e₀ : List ℕ) (p : n₀ ≡ zeros (length n)) (q : e₀ ≡ zeros (length e)) where
  abbrev lengths : ℕ → ℕ → Lengths
  lengths i j = record { nodes = i; edges = j; store = length d; imports = length f; includes = length g; levels = length l }

  pub all_left : {r : Answer (ℕ × ℕ) GraphRefusal} {n₁ e₁ d₁ f₁ g₁ l₁ d₂ f₂ g₂ l₂ : List ℕ}
      → Holds (graphed mode s b (lengths_of n₀ e₀ d f g l)) n₀ e₀ d f g l r n₁ e₁ d₁ f₁ g₁ l₁
      → d₂ ≡ zeros (length d₁) → f₂ ≡ zeros (length f₁) → g₂ ≡ zeros (length g₁) → l₂ ≡ zeros (length l₁)
      → Leaves (graphed mode s b (lengths_of n e d f g l)) n e d f g l r n₁ e₁ d₂ f₂ g₂ l₂
  all_left h zd zf zg zl =
      let x : graphed mode s b (lengths (length n₀) (length e₀)) ≡ graphed mode s b (lengths (length n) (length e)) =
      ap₂ (λ (i j : ℕ). graphed mode s b (lengths i j)) (cleared_long refl p) (cleared_long refl q) in
      record {
        answer = h.answer ∙ ap (λ (y : Result). y.answer) x;
        nodes = h.nodes ∙ ap₂ (λ (i : ℕ) (y : Result). padded i (node_words y.nodes)) (cleared_long refl p) x;
        edges = h.edges ∙ ap₂ (λ (i : ℕ) (y : Result). padded i (row_words y.rows)) (cleared_long refl q) x;
        store = zd ∙ ap zeros h.kept.store_long;
        imports = zf ∙ ap zeros h.kept.imports_long;
        includes = zg ∙ ap zeros h.kept.includes_long;
        levels = zl ∙ ap zeros h.kept.levels_long;
      }
