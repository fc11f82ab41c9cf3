-- The mode `complete` from bytes: what crate graph says of it (Complete), through the readings of image and bundle.
-- Assumes nothing.
use Rattle.std.specs.Prelude.{Err}
use Prim.Native.Nat.{ℕ, ◌<◌}
use mathlib.Core.Path.{◌≡◌, refl, sym, ap, ap₂, ◌∙◌, subst}
use mathlib.Core.Bool.{false}
use mathlib.Core.List.{List}
use native.Mathlib.Omega.{arith}
use lib.ListN.{length}
use Rattle.text.specs.declared.Refusal.{Refusal}
use Rattle.library_image.specs.Image.{image_at}
use Rattle.library_image.specs.Library.{Name}
use Rattle.library_items.specs.Items.{library_of}
use Rattle.library_items.specs.Table.{Reads}
use Rattle.library_bundle.specs.Bundle.{bundle_at}
use Rattle.library_bundle.specs.Reading.{longest_text}
use Rattle.graph.specs.Nodes.{pass_over, complete, nodes_of}
use Rattle.graph.specs.Meaning.{Revised}
use Rattle.graph.specs.Demand3.{all_names, Once}
use Rattle.graph.specs.Complete.{EachOnce}
use Rattle.graph.specs.Limits.{most_edges, most_nodes}
use Rattle.graph.proofs.Complete.{nodes_each, as_many, cause_many, complete_demand3}
use Rattle.graph_nodes.specs.Adding.{plain_at, words_at}
use Rattle.graph_texts.specs.Texts.{text_of}
use Rattle.graph_tables.specs.Lengths.{Lengths, is_too_short}
use Rattle.graph_build.specs.Result.{Result, result_of}
use Rattle.graph_build.proofs.Outcome.{revised_here}
use Rattle.yanglib.specs.ToGraph.{graphed}
use Rattle.demands.specs.Demand1.{GraphCause, image, bundle, lent, graph}
use Rattle.demands.specs.Demand3.{WellFormed}
use Rattle.demands.specs.Complete.{BytesComplete, NowAlike}
use Rattle.demands.proofs.Graphing.{result_here, before, graph_reached, alike, bytes_demand3}
use Rattle.demands.proofs.Numbers.{caused}
use Rattle.demands.proofs.Needs.{formed, computed, permuted, same_entries}

-- the nodes of the library are its names
all_names_lem : (s : List ℕ) {ws : List Name} → ws ≡ nodes_of complete (plain_at s) → EachOnce ws (all_names (plain_at s))
all_names_lem s e = subst (λ ws. EachOnce ws (all_names (plain_at s))) (sym e) (nodes_each (plain_at s))

-- ---- 30

module _ (s b : List ℕ) (k : Lengths) (ws : List Name) (o : EachOnce ws (all_names (plain_at s))) where
  abbrev TooMany : Type 0
  TooMany = Reads (image_at s) × Reads (bundle_at b) × (is_too_short (longest_text b) k ≡ false) × (1024 < length ws)

  many_names : {number entry place : ℕ} {a : Refusal} → GraphCause complete s b k number entry a place → number ≡ 30 → TooMany
  many_names (image h) q = absurd (omega (arith, q))
  many_names (bundle r h) q = absurd (omega (arith, q))
  many_names (lent r i h) q = absurd (omega (arith, q))
  many_names (graph r i h c) q =
      let l = plain_at s in
      (r, i, h, omega (arith, cause_many (text_of b) l 1024 8192 c q, as_many ws (nodes_of complete l) (all_names l) o (nodes_each l)))

  names_many : TooMany → (entry place : ℕ) × (a : Refusal) × ((graphed complete s b k).answer ≡ Err (record { number = 30; entry = entry; scan = a; place = place }))
  names_many t =
      let x = ((complete_demand3 most_nodes most_edges (text_of b)).too_many (plain_at s) ws o).1 t.3 in
      let e = graph_reached complete s b k t.0 t.1 t.2 ∙ ap (result_of (words_at complete s)) x.2 in
      (x.0, 0, x.1, ap (λ (y : Result). y.answer) e)

-- ---- each name once

same_result : (s b : List ℕ) → Once (plain_at s) → result_here complete s b ≡ result_here pass_over s b
unfolding words_at
same_result s b once =
    let c = complete_demand3 most_nodes most_edges (text_of b) in
    ap₂ result_of (c.places (library_of s) once) (c.once (plain_at s) once)

same_graphed : (s b : List ℕ) (k : Lengths) → Once (plain_at s) → graphed complete s b k ≡ graphed pass_over s b k
unfolding graphed
same_graphed s b k once = ap (before (image_at s) (bundle_at b) (is_too_short (longest_text b) k)) (same_result s b once)

pub bytes_complete : BytesComplete
bytes_complete = record {
  right = λ s b k n m bytes h. let r = (bytes_demand3 complete).right s b k n m bytes h in (r, all_names_lem s r.nodes);
  called = λ s b n e d f g l i j bytes h. let r = (bytes_demand3 complete).called s b n e d f g l i j bytes h in (r, all_names_lem s r.nodes);
  too_many = λ s b k ws o. (λ x. many_names s b k ws o (caused complete s b k 30 x.0 x.1 x.2 x.3) refl, names_many s b k ws o);
  permuted = λ s s₁ b k f f₁ p.
      alike complete s s₁ b k f f₁ ((complete_demand3 most_nodes most_edges (text_of b)).permuted (plain_at s) (plain_at s₁) p);
  spread = λ s s₁ b k f f₁ p.
      alike complete s s₁ b k f f₁ ((complete_demand3 most_nodes most_edges (text_of b)).spread (plain_at s) (plain_at s₁) p (revised s f) (revised s₁ f₁));
  once = same_graphed;
}
  where
    revised : (s : List ℕ) (f : WellFormed s) → Revised (plain_at s)
    revised s f = revised_here s f.reads f.bytes

pub now_alike : NowAlike
now_alike = record {
  once = bytes_complete.permuted _ _ _ _ formed.0 formed.1 permuted;
  once_built = computed.empty_complete;
  single = bytes_complete.spread _ _ _ _ formed.2 formed.3 same_entries;
  single_built = computed.s_complete;
}
