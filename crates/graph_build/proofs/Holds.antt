-- From the drawing of the edges to the tables: at the end they hold the words of the result, which the laws of Ways name; a refusal leaves them zero.
-- Assumes nothing.
use Rattle.std.specs.Prelude.{Some, None, Ok, Err, Option, Result as Answer}
use Prim.Native.Nat.{ℕ, ◌≤◌, ◌<◌}
use mathlib.Core.Path.{◌≡◌, refl, sym, ap, ◌∙◌}
use mathlib.Core.List.{List, []}
use native.Mathlib.Omega.{arith}
use lib.ListN.{length}
use Rattle.graph_link.specs.declared.Stopped.{Stopped}
use Rattle.text_lent.specs.Padded.{zeros, padded}
use Rattle.text_lent.proofs.Clears.{padded_none}
use Rattle.library_form.specs.Writer.{AllBytes}
use Rattle.library_image.proofs.ImageLaws.{accepted}
use Rattle.library_items.specs.Table.{Itemized}
use Rattle.graph.specs.Nodes.{Mode}
use Rattle.graph.specs.Limits.{most_nodes}
use Rattle.graph_nodes.specs.Adding.{words_at, names_held, Holding, Constructed}
use Rattle.graph_nodes.proofs.Looking.{Bytes, as_held, held_entries}
use Rattle.graph_tables.specs.Tables.{Puts, Named, node_words, row_words}
use Rattle.graph_build.specs.Result.{Result, refused_at, draw_result}
use Rattle.graph_build.specs.declared.GraphRefusal.{GraphRefusal}
use Rattle.graph_draw.specs.Draw.{BothRead, Prepared, Lent, Edged}
use Rattle.graph_draw.proofs.Drawing.{no_rows}
use Rattle.graph_build.specs.Between.{LentNodes, Holds}
use Rattle.graph_visit.proofs.Visiting.{same_long}
use Rattle.graph_build.proofs.Ways.{Ready, too_many, draw_refused, draw_built, nodes_asked, nodes_laid}

pub no_nodes : (n : ℕ) → zeros n ≡ padded n (node_words [])
unfolding node_words
no_nodes n = padded_none n

all_bytes : (s : List ℕ) → Bytes s → AllBytes s
all_bytes s b k = omega (arith, b k)

pub image_short : {s b btab : List ℕ} {texts : ℕ} → BothRead s b btab texts → length s ≤ 65536
image_short {s} p = (accepted s p.reads.read).short

module _ {mode : Mode} {s b btab : List ℕ} {texts : ℕ} (p : BothRead s b btab texts) {tab : List ℕ} {r : Option ℕ} {ntab : List ℕ}
    (c : Constructed mode s tab r ntab) where
  pub nodes_held : {n : ℕ} → r ≡ Some n → Holding s ntab n (words_at mode s)
  nodes_held e = rw e at c.answer

  module _ (bytes : Bytes s) where
    pub prepared : {n : ℕ} → r ≡ Some n → {table : List ℕ} {count : ℕ} → Itemized s count table
        → Prepared s b btab texts ntab n table count
    prepared e i = record { opened = p; holding = as_held mode (nodes_held e); entries = held_entries mode (nodes_held e) bytes; itemized = i }

    ready : Ready mode s b (draw_result mode s b)
    ready = record { reads = p.reads; bytes = all_bytes s bytes; result = refl }

    module _ {store imports includes levels edges nodes : List ℕ} (f : Lent b store imports includes levels edges) (h : LentNodes nodes) where
      pub nodes_many : r ≡ None → {y : GraphRefusal} → y ≡ refused_at 30 0
          → Holds (draw_result mode s b) nodes edges store imports includes levels (Err y) nodes edges store imports includes levels
      nodes_many e z =
          let many : most_nodes < length (words_at mode s) = rw e at c.answer in
          let x = too_many s b (draw_result mode s b) ready many in
          record {
            answer = ap Err z ∙ sym (ap (λ (y : Result). y.answer) x);
            nodes = h.zero ∙ no_nodes (length nodes) ∙ sym (ap (λ (y : Result). padded (length nodes) (node_words y.nodes)) x);
            edges = f.edges_zero ∙ no_rows (length edges) ∙ sym (ap (λ (y : Result). padded (length edges) (row_words y.rows)) x);
            kept = same_long store imports includes levels;
          }

      module _ {n : ℕ} (e : r ≡ Some n) {d : Answer ℕ (ℕ × Stopped)} {store₁ imports₁ includes₁ levels₁ edges₁ : List ℕ}
          (g : Edged s b (names_held s ntab n) store imports includes levels edges d store₁ imports₁ includes₁ levels₁ edges₁) where
        pub nodes_room : Puts ntab n nodes
        nodes_room = nodes_asked mode s ntab n nodes (nodes_held e) p.reads h.room h.zero

        pub held_refused : {entry : ℕ} {y : Stopped} → d ≡ Err (entry, y)
            → Holds (draw_result mode s b) nodes edges store imports includes levels
            (Err (record { number = y.number; entry = entry; scan = y.scan; place = 0 })) nodes edges₁ store₁ imports₁ includes₁ levels₁
        held_refused q =
            let x = draw_refused s b (draw_result mode s b) ready ntab n (nodes_held e) d edges₁ q g.seen in
            record {
              answer = sym (ap (λ (y : Result). y.answer) x);
              nodes = h.zero ∙ no_nodes (length nodes) ∙ sym (ap (λ (y : Result). padded (length nodes) (node_words y.nodes)) x);
              edges = (rw q at g.table) ∙ sym (ap (λ (y : Result). padded (length edges) (row_words y.rows)) x);
              kept = g.kept;
            }

        pub held_built : {m : ℕ} → d ≡ Ok m → {nodes₁ : List ℕ} → Named ntab n nodes nodes₁
            → Holds (draw_result mode s b) nodes edges store imports includes levels (Ok (n, m)) nodes₁ edges₁ store₁ imports₁ includes₁ levels₁
        held_built {m} q t =
            let x = draw_built s b (draw_result mode s b) ready ntab n (nodes_held e) d edges₁ q g.seen in
            record {
              answer = sym (ap (λ (y : Result). y.answer) x);
              nodes = nodes_laid mode s ntab n nodes (nodes_held e) t ∙ sym (ap (λ (y : Result). padded (length nodes) (node_words y.nodes)) x);
              edges = (rw q at g.table) ∙ sym (ap (λ (y : Result). padded (length edges) (row_words y.rows)) x);
              kept = g.kept;
            }
