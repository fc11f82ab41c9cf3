-- The imports of a text, linked one after another: what the rows from here on come to is what all of them come to.
-- Assumes nothing.
use Rattle.std.specs.Prelude.{Ok, Err, Result}
use Prim.Native.Nat.{ℕ, ◌+◌, ◌-◌, ◌*◌, ◌≤◌, ◌<◌}
use mathlib.Core.Path.{◌≡◌, refl, sym, ap, ◌∙◌}
use mathlib.Core.List.{List, map}
use native.Mathlib.Omega.{arith}
use native.Mathlib.Nat.{sub-zero}
use lib.ListN.{length}
use Rattle.library_image.specs.Library.{Name}
use Rattle.scan_rows.specs.Span.{value_in}
use Rattle.scan_rows.specs.Rows.{most_rows, import_size, import_at, rows_of, imports_in}
use Rattle.scan_rows.specs.declared.YangImport.{YangImport}
use Rattle.scan_rows.proofs.Laws.{rows_done, rows_more}
use Rattle.graph.specs.Graph.{built, refused, then_o}
use Rattle.graph.specs.Numbers.{Row, each_o, import_code}
use Rattle.graph.specs.Limits.{most_edges}
use Rattle.graph_edges.specs.Edges.{rows_in, Filed}
use Rattle.graph_marks.specs.Marks.{known_at}
use Rattle.graph_texts.specs.Texts.{import_names}
use Rattle.graph_link.specs.Link.{ImportRows, import_codes, walk_seen, Drew}
use Rattle.graph_link.specs.declared.Stopped.{Stopped}

-- the codes of the imports from the i-th on
unfoldable pub imports_from : (s : List ℕ) (ns : List Name) (store imports : List ℕ) → (m i : ℕ) → List ℕ
imports_from s ns store imports m i = map (known_at s ns) (import_names store (rows_of (import_at imports) import_size (m - i) (i * import_size)))

-- what the loop keeps
pub record Naming (s : List ℕ) (ns : List Name) (store imports : List ℕ) (m v : ℕ) (rs : List Row) (edges₀ chains₀ edges chains : List ℕ)
    (total i : ℕ) : Type 0 where
  pub room : i ≤ m
  pub few : m ≤ most_rows
  pub filed : Filed edges chains total
  pub long_edges : length edges ≡ length edges₀
  pub long_chains : length chains ≡ length chains₀
  pub rest : each_o (import_code most_edges v) (import_codes s ns store imports m) rs
      ≡ each_o (import_code most_edges v) (imports_from s ns store imports m i) (rows_in total edges)

pub naming_begins : (s : List ℕ) (ns : List Name) (store imports : List ℕ) (m v : ℕ) (edges chains : List ℕ) (count : ℕ) → Filed edges chains count
    → ImportRows imports m
    → Naming s ns store imports m v (rows_in count edges) edges chains edges chains count 0
unfolding import_codes imports_from imports_in
naming_begins s ns store imports m v edges chains count h f = record {
  room = omega arith;
  few = f.few;
  filed = h;
  long_edges = refl;
  long_chains = refl;
  rest = rw (sub-zero m);
}

module _ (s : List ℕ) (ns : List Name) (store imports : List ℕ) (m v : ℕ) (rs : List Row) (edges₀ chains₀ edges chains : List ℕ) (total i : ℕ)
    (g : Naming s ns store imports m v rs edges₀ chains₀ edges chains total i) where
  pub all_named : m ≤ i → Drew (each_o (import_code most_edges v) (import_codes s ns store imports m) rs) edges₀ chains₀ (Ok total) edges chains
  unfolding imports_from import_names each_o
  all_named h = record {
    seen = sym (g.rest ∙ rw (rows_done (import_at imports) import_size m i h));
    filed = g.filed;
    kept_edges = g.long_edges;
    kept_chains = g.long_chains;
  }

  module _ (x : YangImport) (name : List ℕ) (e : x ≡ import_at imports (i * import_size)) (f : name ≡ value_in store x.module_name) (h : i < m) where
    turn : each_o (import_code most_edges v) (import_codes s ns store imports m) rs
        ≡ then_o (import_code most_edges v (known_at s ns name) (rows_in total edges)) (each_o (import_code most_edges v)
        (imports_from s ns store imports m (i + 1)))
    unfolding imports_from import_names each_o
    turn =
        let q : name ≡ value_in store (import_at imports (i * import_size)).module_name = f ∙ ap (λ (x : YangImport). value_in store x.module_name) e in
        g.rest ∙ rw (rows_more (import_at imports) import_size m i h, q)

    module _ (r : Result ℕ Stopped) (edges₁ chains₁ : List ℕ) (d : Drew (import_code most_edges v (known_at s ns name)
        (rows_in total edges)) edges chains r edges₁ chains₁)
      where
        pub named_wrong : {y : Stopped} → r ≡ Err y
            → Drew (each_o (import_code most_edges v) (import_codes s ns store imports m) rs) edges₀ chains₀ (Err y) edges₁ chains₁
        named_wrong {y} z =
            let q : import_code most_edges v (known_at s ns name) (rows_in total edges) ≡ refused y.number y.scan = sym d.seen
            ∙ ap (λ r. walk_seen r edges₁) z in
            record {
              seen = sym (turn ∙ ap (λ o. then_o o (each_o (import_code most_edges v) (imports_from s ns store imports m (i + 1)))) q);
              filed = tt;
              kept_edges = d.kept_edges ∙ g.long_edges;
              kept_chains = d.kept_chains ∙ g.long_chains;
            }

        pub named_on : {k : ℕ} → r ≡ Ok k → Naming s ns store imports m v rs edges₀ chains₀ edges₁ chains₁ k (i + 1)
        named_on {k} z =
            let q : import_code most_edges v (known_at s ns name) (rows_in total edges) ≡ built (rows_in k edges₁) = sym d.seen
            ∙ ap (λ r. walk_seen r edges₁) z in
            record {
              room = omega arith;
              few = g.few;
              filed = rw z at d.filed;
              long_edges = d.kept_edges ∙ g.long_edges;
              long_chains = d.kept_chains ∙ g.long_chains;
              rest = turn ∙ ap (λ o. then_o o (each_o (import_code most_edges v) (imports_from s ns store imports m (i + 1)))) q;
            }
