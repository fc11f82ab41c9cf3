-- One edge more, and one include up to the walk of its text: one law for each way out.
-- Assumes nothing.
use Rattle.std.specs.Prelude.{Some, None, Ok, Err, Option, Result}
use Rattle.std.specs.Option.{ok_or}
use Prim.Native.Nat.{ℕ, zero, suc, ◌+◌, ◌-◌, ◌<◌}
use mathlib.Core.Path.{◌≡◌, refl, sym, ap, ◌∙◌, subst}
use mathlib.Core.Bool.{Bool, true, false, cond}
use mathlib.Core.List.{List}
use native.Mathlib.Omega.{arith}
use native.Mathlib.Nat.{pos_of_ne-zero}
use mir.Syntax.{w32}
use mir.Val.{Fits}
use Rattle.library_image.specs.Library.{Name}
use Rattle.text.specs.Refusal.{no_refusal}
use Rattle.graph.specs.Graph.{Out, built, refused}
use Rattle.graph.specs.Numbers.{Row, row, add_row}
use Rattle.graph.specs.Once.{Marks, then_rows, Below, include_once, below_once}
use Rattle.graph_edges.specs.Edges.{link_seen, Linked, rows_in}
use Rattle.graph.specs.declared.NodeIndex.{NodeIndex}
use Rattle.graph.specs.Limits.{most_edges, most_nodes}
use Rattle.graph_marks.specs.Marks.{Desk, known_at, resolved_code, included_code, ResolvedNode, IncludedNode}
use Rattle.graph_marks.specs.declared.Included.{Included}
use Rattle.graph_marks.specs.declared.Included.TheVariants.{Node as Among}
use Rattle.graph_link.specs.Link.{stopped_at, either_code, Drew, Stepped}
use Rattle.graph_link.specs.declared.Stopped.{Stopped}

-- ---- the word of an include

module _ (r : Included) (v : NodeIndex) (row : ℕ) (e : r ≡ Among v) (z : row ≡ v.0) where
  code_low : IncludedNode r most_nodes → row < most_nodes
  code_low h = let k : v.0 < most_nodes = rw e at h in omega arith

  pub code_fits : IncludedNode r most_nodes → Fits w32 (row + 2)
  code_fits h = record { fits = omega (arith, code_low h) }

  pub code_is : row + 2 ≡ included_code r
  code_is = let q : row + 2 ≡ suc (suc v.0) = omega arith in q ∙ sym (ap included_code e)

-- ---- an edge

-- what an edge more comes to
abbrev linked : Option ℕ → Result ℕ Stopped
linked x = ok_or x (stopped_at 31)

pub one_more : {x : Option ℕ} {n : ℕ} → x ≡ Some n → Ok n ≡ linked x
one_more e = sym (ap linked e)

pub full : {x : Option ℕ} {y : Stopped} → x ≡ None → y ≡ stopped_at 31 → Err y ≡ linked x
full e z = ap Err z ∙ sym (ap linked e)

drew : (x : Option ℕ) (rs : List Row) (r : Row) (edges chains edges₁ chains₁ : List ℕ) (w : Result ℕ Stopped) → Linked rs r edges chains x edges₁ chains₁
    → w ≡ linked x → Drew (add_row most_edges rs r) edges chains w edges₁ chains₁
drew (Some n) rs r edges chains edges₁ chains₁ w l e = record {
  seen = rw e l.seen;
  filed = rw e l.filed;
  kept_edges = l.kept_edges;
  kept_chains = l.kept_chains;
}
drew None rs r edges chains edges₁ chains₁ w l e =
    record { seen = rw e l.seen; filed = rw e tt; kept_edges = l.kept_edges; kept_chains = l.kept_chains }

module _ (s tab : List ℕ) (n : ℕ) (marks : List ℕ) (d : Desk s tab n marks) where
  pub known_low : (r : Option NodeIndex) (u : NodeIndex) → r ≡ Some u → ResolvedNode r n → u.0 < most_nodes
  known_low r u e h = let k : u.0 < n = rw e at h in omega (arith, d.holding.few)

  pub node_low : (v : NodeIndex) → v.0 < n → v.0 < most_nodes
  node_low v h = omega (arith, d.holding.few)

module _ (s : List ℕ) (ns : List Name) (u : Name) (r : Option NodeIndex) (k : resolved_code r ≡ known_at s ns u) (given : Bool) (v : NodeIndex) (rs : List Row)
    (edges chains : List ℕ) where
  pub unknown : {y : Stopped} → r ≡ None → y ≡ stopped_at 26 → Drew (either_code given v.0 (known_at s ns u) rs) edges chains (Err y) edges chains
  unknown e z =
      let p : known_at s ns u ≡ 0 = sym k ∙ ap resolved_code e in
      record { seen = rw (p, z) (none given); filed = tt; kept_edges = refl; kept_chains = refl }
    where
      none : (b : Bool) → ◌≡◌ {A = Out Row} (refused 26 no_refusal) (cond b (refused 26 no_refusal) (refused 26 no_refusal))
      none true = refl
      none false = refl

  module _ (y : NodeIndex) (e : r ≡ Some y) (edges₁ chains₁ : List ℕ) (x : Option ℕ) {w : Result ℕ Stopped} (o : w ≡ linked x)
      {p : NodeIndex × NodeIndex} (l : Linked rs (row p.0.0 p.1.0) edges chains x edges₁ chains₁) where
    code : known_at s ns u ≡ suc y.0
    code = sym k ∙ ap resolved_code e

    pub listed_drew : given ≡ true → p ≡ (v, y) → Drew (either_code given v.0 (known_at s ns u) rs) edges chains w edges₁ chains₁
    listed_drew g q = rw (g, code) (drew x rs (row v.0 y.0) edges chains edges₁ chains₁ w (rw q at l) o)

    pub import_drew : given ≡ false → p ≡ (y, v) → Drew (either_code given v.0 (known_at s ns u) rs) edges chains w edges₁ chains₁
    import_drew g q = rw (g, code) (drew x rs (row y.0 v.0) edges chains edges₁ chains₁ w (rw q at l) o)

-- ---- an include

module _ (word left v : ℕ) (rs : List Row) (edges chains : List ℕ) where
  pub no_submodule : {y : Stopped} → word ≡ 0 → y ≡ stopped_at 27 → Stepped word left v rs edges chains (Err y) edges chains
  no_submodule e z = record { seen = λ at m. rw (e, z); ready = tt; kept_edges = refl; kept_chains = refl }

  pub no_node : {y : Stopped} → word ≡ 1 → y ≡ stopped_at 28 → Stepped word left v rs edges chains (Err y) edges chains
  no_node e z = record { seen = λ at m. rw (e, z); ready = tt; kept_edges = refl; kept_chains = refl }

-- a word that is a node
by_node : (word v : ℕ) (rs : List Row) (f : Below) (m : Marks) → (word ≡ 0 → ⊥) → (word ≡ 1 → ⊥)
    → include_once most_edges f v word rs m ≡ then_rows (add_row most_edges rs (row (word - 2) v)) (λ rs₁. f (word - 2) rs₁ m)
by_node zero v rs f m h k = absurd (h refl)
by_node (suc zero) v rs f m h k = absurd (k refl)
by_node (suc (suc u)) v rs f m h k = let q : suc (suc u) - 2 ≡ u = omega arith in rw q

module _ (word left v : ℕ) (rs : List Row) (edges chains edges₁ chains₁ : List ℕ) (x : Option ℕ) (u : NodeIndex) (z : u.0 ≡ word - 2)
    (o : Linked rs (row u.0 v) edges chains x edges₁ chains₁) (h₀ : word ≡ 0 → ⊥) (k : word ≡ 1 → ⊥) where
  l : Linked rs (row (word - 2) v) edges chains x edges₁ chains₁
  l = subst (λ (j : ℕ). Linked rs (row j v) edges chains x edges₁ chains₁) z o

  pub no_room : {y : Stopped} → x ≡ None → y ≡ stopped_at 31 → Stepped word left v rs edges chains (Err y) edges₁ chains₁
  no_room e p =
      let q : add_row most_edges rs (row (word - 2) v) ≡ refused 31 no_refusal = sym l.seen ∙ ap (λ x. link_seen x edges₁) e in
      record {
        seen = λ at marks. rw p (sym (by_node word v rs (below_once at most_edges left) marks h₀ k ∙ rw q));
        ready = tt;
        kept_edges = l.kept_edges;
        kept_chains = l.kept_chains;
      }

  module _ (m : ℕ) (e : x ≡ Some m) where
    added : (f : Below) (marks : Marks) → include_once most_edges f v word rs marks ≡ f (word - 2) (rows_in m edges₁) marks
    added f marks =
        let q : add_row most_edges rs (row (word - 2) v) ≡ built (rows_in m edges₁) = sym l.seen ∙ ap (λ x. link_seen x edges₁) e in
        by_node word v rs f marks h₀ k ∙ rw q

    pub too_deep_lem : {y : Stopped} → left ≡ 0 → y ≡ stopped_at 29 → Stepped word left v rs edges chains (Err y) edges₁ chains₁
    unfolding below_once
    too_deep_lem d w = record {
      seen = λ at marks. rw w (sym (added (below_once at most_edges left) marks ∙ rw d));
      ready = tt;
      kept_edges = l.kept_edges;
      kept_chains = l.kept_chains;
    }

    pub down : (left ≡ 0 → ⊥) → Stepped word left v rs edges chains (Ok (u, m)) edges₁ chains₁
    down d = record {
      seen = λ at marks. ap (λ j. below_once at most_edges left j (rows_in m edges₁) marks) z ∙ sym (added (below_once at most_edges left) marks);
      ready = record { node = go word h₀ k z; deep = pos_of_ne-zero d; filed = rw e at l.filed };
      kept_edges = l.kept_edges;
      kept_chains = l.kept_chains;
    }
      where
        go : (w : ℕ) → (w ≡ 0 → ⊥) → (w ≡ 1 → ⊥) → u.0 ≡ w - 2 → u.0 + 2 ≡ w
        go zero h k z = absurd (h refl)
        go (suc zero) h k z = absurd (k refl)
        go (suc (suc w)) h k z = omega arith
