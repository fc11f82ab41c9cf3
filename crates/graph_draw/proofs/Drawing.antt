-- From the walk of all items to the edges that are left: a table that is zero at first holds no edge; at the end it holds the words of the rows, and a
-- refusal leaves it zero.
-- Assumes nothing.
use Rattle.std.specs.Prelude.{Ok, Err, Result}
use Rattle.std.specs.Result.{is_err}
use Prim.Native.Nat.{ℕ, ◌≤◌}
use mathlib.Core.Path.{◌≡◌, refl, sym, ap, ◌∙◌}
use mathlib.Core.Bool.{true, false, true≢false}
use mathlib.Core.List.{List, []}
use native.Mathlib.Omega.{arith}
use lib.ListN.{length, get_or, length-replicate}
use Rattle.graph_link.specs.declared.Stopped.{Stopped}
use Rattle.text_lent.specs.Padded.{zeros, padded}
use Rattle.text_lent.proofs.Clears.{padded_none}
use Rattle.text_lent.proofs.Zeros.{zeros_zero}
use Rattle.library_image.specs.Library.{Name}
use Rattle.graph_edges.specs.Edges.{rows_in, Filed}
use Rattle.graph_edges.proofs.Chains.{empty_filed}
use Rattle.graph_marks.specs.Marks.{mark_table}
use Rattle.graph_memory.specs.Memory.{remembered}
use Rattle.graph_memory.proofs.Words.{blank}
use Rattle.graph.specs.Once.{nothing_read}
use Rattle.graph_visit.specs.Visit.{Room, AsLong, Kept}
use Rattle.graph_visit.proofs.Visiting.{same_long, longer, other_levels}
use Rattle.graph_tables.specs.Tables.{row_words}
use Rattle.graph_tables.proofs.Tables.{rows_table}
use Rattle.graph_entries.specs.Entries.{Walks, drawn_seen}
use Rattle.graph_draw.specs.Draw.{Lent, Edged}

pub no_rows : (n : ℕ) → zeros n ≡ padded n (row_words [])
unfolding row_words
no_rows n = padded_none n

pub marks_long : length (zeros 2048) ≡ 2048
marks_long = length-replicate {A = ℕ} 2048 0

pub no_marks : zeros 2048 ≡ zeros (length (zeros 2048))
no_marks = ap zeros (sym marks_long)

pub marks_room : mark_table ≤ length (zeros 2048)
marks_room = omega (arith, marks_long)

pub cleared_long : {k n : ℕ} {edges : List ℕ} → k ≡ n → edges ≡ zeros k → length edges ≡ n
cleared_long {k} e z = ap length z ∙ length-replicate {A = ℕ} k 0 ∙ e

-- the tables of the walk, once the levels are cleared
module _ {b store imports includes levels edges : List ℕ} (g : Lent b store imports includes levels edges) {levels₀ : List ℕ}
    (z : levels₀ ≡ zeros (length levels)) where
  pub no_edges : Room b store imports includes levels₀ edges (zeros 16384) 8 0
  no_edges = record {
    scan = g.scan;
    deep = omega arith;
    level_room = let e : length levels₀ ≡ length levels = cleared_long refl z in omega (arith, g.levels_room);
    edges_so_far = empty_filed edges (zeros 16384) (record {
      long = g.edges_room;
      wide = let e : length (zeros 16384) ≡ 16384 = length-replicate {A = ℕ} 16384 0 in omega (arith, e);
      no_edges = λ j. ap (λ (w : List ℕ). get_or w j 0) g.edges_zero ∙ zeros_zero (length edges) j;
      no_chains = λ j. zeros_zero 16384 j;
    });
  }

  pub none_read : remembered levels₀ ≡ nothing_read
  none_read = blank levels₀ (length levels) z

kept_long : {above : ℕ} {store imports includes levels levels₀ store₁ imports₁ includes₁ levels₁ : List ℕ} → length levels₀ ≡ length levels
    → Kept above store imports includes levels₀ store₁ imports₁ includes₁ levels₁ → AsLong store imports includes levels store₁ imports₁ includes₁ levels₁
kept_long {store = store} {imports = imports} {includes = includes} {levels = levels} e k =
    longer (other_levels (same_long store imports includes levels) e) k.long

module _ {s b : List ℕ} {ns : List Name} {store imports includes levels levels₀ edges chains : List ℕ} {r : Result ℕ (ℕ × Stopped)}
    {store₁ imports₁ includes₁ levels₁ edges₁ chains₁ : List ℕ} (l : length levels₀ ≡ length levels)
    (g : Walks s b ns store imports includes levels₀ edges chains r store₁ imports₁ includes₁ levels₁ edges₁ chains₁) where
  pub edges_refused : is_err r ≡ true → {edges₂ : List ℕ} → edges₂ ≡ zeros (length edges₁)
      → Edged s b ns store imports includes levels edges r store₁ imports₁ includes₁ levels₁ edges₂
  edges_refused e {edges₂} z = go r refl e
    where
      go : (q : Result ℕ (ℕ × Stopped)) → r ≡ q → is_err q ≡ true
          → Edged s b ns store imports includes levels edges r store₁ imports₁ includes₁ levels₁ edges₂
      go (Ok m) p e = absurd (true≢false (sym e))
      go (Err (entry, y)) p e = record {
        seen = ap (λ (q : Result ℕ (ℕ × Stopped)). drawn_seen q edges₂) p ∙ sym (ap (λ (q : Result ℕ (ℕ × Stopped)). drawn_seen q edges₁) p) ∙ g.seen;
        table = rw p (z ∙ ap zeros g.kept_edges ∙ no_rows (length edges));
        kept = kept_long l g.kept;
      }

  pub edges_built : is_err r ≡ false → Edged s b ns store imports includes levels edges r store₁ imports₁ includes₁ levels₁ edges₁
  edges_built e = go r refl e
    where
      go : (q : Result ℕ (ℕ × Stopped)) → r ≡ q → is_err q ≡ false
          → Edged s b ns store imports includes levels edges r store₁ imports₁ includes₁ levels₁ edges₁
      go (Ok m) p e =
          let h : Filed edges₁ chains₁ m = rw p at g.filed in
          record {
            seen = g.seen;
            table = rw p (rows_table edges₁ chains₁ m h ∙ ap (λ (k : ℕ). padded k (row_words (rows_in m edges₁))) g.kept_edges);
            kept = kept_long l g.kept;
          }
      go (Err q) p e = absurd (true≢false e)
