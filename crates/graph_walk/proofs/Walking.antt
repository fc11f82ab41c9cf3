-- The includes of a text, taken one after another: what the words from here on come to is what all of them come to. A walk below leaves this level's words.
-- Assumes nothing.
use Rattle.std.specs.Prelude.{Ok, Err, Some, None, Result, Option}
use Prim.Native.Nat.{ℕ, zero, suc, ◌+◌, ◌-◌, ◌≤◌, ◌<◌}
use mathlib.Core.Path.{◌≡◌, refl, sym, ap, ap₂, ◌∙◌}
use mathlib.Core.Bool.{true≢false}
use mathlib.Core.List.{List}
use native.Mathlib.Omega.{arith}
use native.Mathlib.Nat.{sub-zero}
use native.Mathlib.Numerals.{sub-one}
use lib.ListN.{length, get_or, drop}
use lib.Seq.{get_or-drop}
use Rattle.graph.specs.Numbers.{Row, Codes}
use Rattle.graph.specs.Once.{unread, below, Marks, Went, walked, halted, then_w, Below, include_once, includes_once, ended, walk_once, below_once, raised}
use Rattle.graph.specs.declared.NodeIndex.{NodeIndex}
use Rattle.graph.specs.Limits.{most_edges, most_nodes}
use Rattle.graph.proofs.Remembering.{is_below, once_is, mark_here}
use Rattle.graph_edges.specs.Edges.{rows_in, Filed}
use Rattle.graph_marks.specs.Marks.{Desk}
use Rattle.graph_memory.specs.Memory.{memory_words, height_in, remembered, StaysRead, Remembers}
use Rattle.graph_memory.proofs.Words.{later, below_height, stays_same, stays_on, stays_marked}
use Rattle.graph_link.specs.Link.{level_words, level_at, words_from, Words, step_seen, Descends, Stepped}
use Rattle.graph_link.specs.declared.Stopped.{Stopped}
use Rattle.graph_visit.specs.Visit.{Room, AsLong, Kept, visit_seen, Recalls, Ready, Called, met_here, visited}
use Rattle.graph_visit.proofs.Visiting.{longer, other_levels}
use Rattle.graph_walk.specs.Walk.{walked_seen, Through}

-- a walk by what lies below it
pub opened : (at : ℕ → Codes) (left absent v : ℕ) (rs : List Row) (levels edges chains : List ℕ) (r : Result ℕ Stopped) (levels₁ edges₁ chains₁ : List ℕ)
    → Through (met_here at left absent v rs levels (below_once at most_edges left)) left v edges chains r levels₁ edges₁ chains₁
    → Through (walk_once at most_edges left absent v rs (remembered levels)) left v edges chains r levels₁ edges₁ chains₁
unfolding met_here visited
opened at left absent v rs levels edges chains r levels₁ edges₁ chains₁ t = record {
  seen = t.seen ∙ sym (once_is at most_edges left absent v rs (remembered levels));
  ready = t.ready;
  kept_edges = t.kept_edges;
  kept_chains = t.kept_chains;
}

one_less : (at : ℕ → Codes) (left u : ℕ) (rs : List Row) (m : Marks) → 0 < left
    → below_once at most_edges left u rs m ≡ walk_once at most_edges (left - 1) 24 u rs m
unfolding below_once
one_less at zero u rs m h = absurd (omega arith)
one_less at (suc left) u rs m h = rw sub-one

-- what all includes come to
abbrev pub ahead : (at : ℕ → Codes) → (left v : ℕ) → (words : List ℕ) → List Row → Marks → (most : ℕ) → Went
ahead at left v words rs m most = includes_once most_edges (below_once at most_edges left) v words rs m most

-- what the loop keeps
pub record Walking (at : ℕ → Codes) (n left v base k : ℕ) (levels₀ edges₀ chains₀ : List ℕ) (linked : ℕ) (levels edges chains : List ℕ)
    (total most i : ℕ) : Type 0 where
  pub room : i ≤ k
  pub few : k ≤ level_words
  pub based : base ≡ level_at left
  pub inside : base + level_words ≤ length levels₀
  pub long : length levels ≡ length levels₀
  pub kept : drop base levels ≡ drop base levels₀
  pub stays_read : StaysRead levels₀ levels
  pub low : Words n levels₀ base k
  pub filed : Filed edges chains total
  pub high : most ≤ left
  pub long_edges : length edges ≡ length edges₀
  pub long_chains : length chains ≡ length chains₀
  pub rest : ahead at left v (words_from levels₀ base k) (rows_in linked edges₀) (remembered levels₀) 0
      ≡ ahead at left v (words_from levels₀ (base + i) (k - i)) (rows_in total edges) (remembered levels) most

below_read : {h : ℕ} → below h ≡ unread → ⊥
below_read q = true≢false (ap is_below q)

-- ---- before the loop

module _ (at : ℕ → Codes) (left : ℕ) {n v count : ℕ} {edges chains : List ℕ} {r : Result (Option (ℕ × ℕ)) Stopped}
    {levels₁ edges₁ chains₁ : List ℕ} {E : Below → Went}
    (d : Called E n left v count edges chains r levels₁ edges₁ chains₁) where
  abbrev expected : Went
  expected = E (below_once at most_edges left)

  all_seen : expected ≡ visit_seen (below_once at most_edges left) left v count r levels₁ edges₁
  all_seen = sym (d.seen (below_once at most_edges left))

  pub not_visited : {y : Stopped} → r ≡ Err y → Through expected left v edges chains (Err y) levels₁ edges₁ chains₁
  not_visited z = record {
    seen = sym (all_seen ∙ ap (λ r. visit_seen (below_once at most_edges left) left v count r levels₁ edges₁) z);
    ready = tt;
    kept_edges = d.kept_edges;
    kept_chains = d.kept_chains;
  }

  pub known : r ≡ (Ok None) → Through expected left v edges chains (Ok count) levels₁ edges₁ chains₁
  known z = record {
    seen = sym (all_seen ∙ ap (λ r. visit_seen (below_once at most_edges left) left v count r levels₁ edges₁) z);
    ready = rw z at d.ready;
    kept_edges = d.kept_edges;
    kept_chains = d.kept_chains;
  }

  all_ahead : (k linked : ℕ) → r ≡ Ok (Some (k, linked))
      → expected ≡ then_w (ahead at left v (words_from levels₁ (level_at left) k) (rows_in linked edges₁) (remembered levels₁) 0) (ended v)
  all_ahead k linked z = all_seen ∙ ap (λ r. visit_seen (below_once at most_edges left) left v count r levels₁ edges₁) z

  pub begun : {k linked : ℕ} {bundle store imports includes levels store₁ imports₁ includes₁ : List ℕ} → r ≡ Ok (Some (k, linked))
      → Room bundle store imports includes levels edges chains left count
      → Kept (level_at (left + 1)) store imports includes levels store₁ imports₁ includes₁ levels₁
      → Walking at n left v (level_at left) k levels₁ edges₁ chains₁ linked levels₁ edges₁ chains₁ linked 0 0
  begun {k} {linked} z t p =
      let y : Ready n (level_at left) k linked levels₁ edges₁ chains₁ = rw z at d.ready in
      let o : level_at left + 0 ≡ level_at left = omega arith in
      record {
        room = omega arith;
        few = y.few;
        based = refl;
        inside = omega (arith, t.level_room, p.long.levels_long);
        long = refl;
        kept = refl;
        stays_read = stays_same levels₁;
        low = y.low;
        filed = y.filed;
        high = omega arith;
        long_edges = refl;
        long_chains = refl;
        rest = rw (o, sub-zero k);
      }

-- ---- in the loop

module _ {at : ℕ → Codes} {n left v base k : ℕ} {levels₀ edges₀ chains₀ : List ℕ} {linked : ℕ} {levels edges chains : List ℕ} {total most i : ℕ}
    (g : Walking at n left v base k levels₀ edges₀ chains₀ linked levels edges chains total most i) where
  here : get_or levels₀ (base + i) 0 ≡ get_or levels (base + i) 0
  here = sym (get_or-drop base levels₀ i 0) ∙ ap (λ l. get_or l i 0) (sym g.kept) ∙ get_or-drop base levels i 0

  pub in_level : i < k → base + i < length levels
  in_level h = omega (arith, g.few, g.inside, g.long)

  pub memory_in : memory_words ≤ length levels
  memory_in = omega (arith, g.based, g.inside, g.long)

  pub word_low : i < k → get_or levels (base + i) 0 < n + 2
  word_low h = rw (← here) (g.low.low i h)

  pub word_node : {s tab marks : List ℕ} → Desk s tab n marks → i < k → get_or levels (base + i) 0 < most_nodes + 2
  word_node d h = omega (arith, d.holding.few, word_low h)

  abbrev onwards : List Row → Marks → ℕ → Went
  onwards rs m h = ahead at left v (words_from levels₀ (base + (i + 1)) (k - (i + 1))) rs m (raised most h)

  turn : i < k → ahead at left v (words_from levels₀ base k) (rows_in linked edges₀) (remembered levels₀) 0
      ≡ then_w (include_once most_edges (below_once at most_edges left) v (get_or levels (base + i) 0) (rows_in total edges) (remembered levels)) onwards
  unfolding includes_once words_from
  turn h =
      let q : k - i ≡ suc (k - (i + 1)) = omega arith in
      let o : base + i + 1 ≡ base + (i + 1) = omega arith in
      g.rest ∙ rw (q, o, here)

  -- the levels above
  kept_loop : {store imports includes levelsE store₀ imports₀ includes₀ store₁ imports₁ includes₁ levels₁ : List ℕ}
      → Kept (level_at (left + 1)) store imports includes levelsE store₀ imports₀ includes₀ levels₀
      → AsLong store₀ imports₀ includes₀ levels₀ store₁ imports₁ includes₁ levels₁ → StaysRead levels levels₁ → drop base levels₁ ≡ drop base levels
      → Kept (level_at (left + 1)) store imports includes levelsE store₁ imports₁ includes₁ levels₁
  kept_loop {levels₁ = levels₁} p l y q = record {
    long = longer p.long l;
    stays_read = stays_on p.stays_read (stays_on g.stays_read y);
    above_kept = later base (level_at (left + 1)) levels₁ levels₀ (omega (arith, g.based)) (q ∙ g.kept) ∙ p.above_kept;
  }

  pub kept_out : {store imports includes levelsE store₀ imports₀ includes₀ store₁ imports₁ includes₁ : List ℕ}
      → Kept (level_at (left + 1)) store imports includes levelsE store₀ imports₀ includes₀ levels₀
      → AsLong store₀ imports₀ includes₀ levels₀ store₁ imports₁ includes₁ levels
      → Kept (level_at (left + 1)) store imports includes levelsE store₁ imports₁ includes₁ levels
  kept_out p l = kept_loop p l (stays_same levels) refl

  module _ {count : ℕ} {edgesE chainsE : List ℕ} {r : Result (Option (ℕ × ℕ)) Stopped} {E : Below → Went}
      (d : Called E n left v count edgesE chainsE r levels₀ edges₀ chains₀)
      (z : r ≡ Ok (Some (k, linked))) where
    all_words : expected at left d ≡ then_w (ahead at left v (words_from levels₀ base k) (rows_in linked edges₀) (remembered levels₀) 0) (ended v)
    all_words = all_ahead at left d k linked z
        ∙ ap (λ (j : ℕ). then_w (ahead at left v (words_from levels₀ j k) (rows_in linked edges₀) (remembered levels₀) 0) (ended v)) (sym g.based)

    -- the end, where the includes below are put down
    module _ (l : v < most_nodes) {levels₁ : List ℕ} (y : Remembers levels v (below most) levels₁) where
      pub ended_all : k ≤ i → Through (expected at left d) left v edgesE chainsE (Ok total) levels₁ edges chains
      unfolding includes_once words_from
      ended_all h =
          let q : k - i ≡ 0 = omega arith in
          let all : ahead at left v (words_from levels₀ base k) (rows_in linked edges₀) (remembered levels₀) 0
          ≡ walked (rows_in total edges) (remembered levels) most = g.rest ∙ rw q in
          let own : height_in levels₁ v ≡ most =
          below_height levels₁ v most l (ap (λ (m : Marks). m v) y.marks ∙ mark_here (remembered levels) v (below most)) in
          record {
            seen = ap₂ (λ (m : Marks) (h : ℕ). walked (rows_in total edges) m h) y.marks own ∙ sym (all_words ∙ ap (λ (w : Went). then_w w (ended v)) all);
            ready = record { filed = g.filed; low = omega (arith, own, g.high) };
            kept_edges = g.long_edges ∙ d.kept_edges;
            kept_chains = g.long_chains ∙ d.kept_chains;
          }

    module _ {x : Result (NodeIndex × ℕ) Stopped} {edges₁ chains₁ : List ℕ} (s : Stepped (get_or levels (base + i) 0) left v
        (rows_in total edges) edges chains x edges₁ chains₁)
        (h : i < k) where
      pub halted_here : {y : Stopped} → x ≡ Err y
          → Through (expected at left d) left v edgesE chainsE (Err y) levels edges₁ chains₁
      halted_here {y} e =
          let q : include_once most_edges (below_once at most_edges left) v (get_or levels (base + i) 0) (rows_in total edges) (remembered levels)
          ≡ halted y.number y.scan = sym (s.seen at (remembered levels)) ∙ ap (λ x. step_seen (below_once at most_edges left) x edges₁ (remembered levels)) e in
          record {
            seen = sym (all_words ∙ ap (λ (w : Went). then_w w (ended v)) (turn h ∙ ap (λ (w : Went). then_w w onwards) q));
            ready = tt;
            kept_edges = s.kept_edges ∙ g.long_edges ∙ d.kept_edges;
            kept_chains = s.kept_chains ∙ g.long_chains ∙ d.kept_chains;
          }

  pub kept_end : {store imports includes levelsE store₀ imports₀ includes₀ store₁ imports₁ includes₁ : List ℕ}
      → Kept (level_at (left + 1)) store imports includes levelsE store₀ imports₀ includes₀ levels₀
      → AsLong store₀ imports₀ includes₀ levels₀ store₁ imports₁ includes₁ levels → {levels₁ : List ℕ} → Remembers levels v (below most) levels₁
      → Kept (level_at (left + 1)) store imports includes levelsE store₁ imports₁ includes₁ levels₁
  kept_end p l {levels₁} y =
      kept_loop p (other_levels l y.long) (stays_marked y below_read) (later memory_words base levels₁ levels (omega (arith, g.based)) y.above)

  module _ {x : Result (NodeIndex × ℕ) Stopped} {edges₁ chains₁ : List ℕ} (s : Stepped (get_or levels (base + i) 0) left v
      (rows_in total edges) edges chains x edges₁ chains₁)
      (h : i < k) {u : NodeIndex} {m : ℕ} (e : x ≡ Ok (u, m)) where
    descends : Descends (get_or levels (base + i) 0) left u.0 m edges₁ chains₁
    descends = rw e at s.ready

    pub some_left : 0 < left
    some_left = descends.deep

    pub child_low : u.0 < n
    child_low = omega (arith, descends.node, word_low h)

    pub child_room : {bundle store imports includes levelsE edgesE chainsE store₀ imports₀ includes₀ store₁ imports₁ includes₁ : List ℕ} {count : ℕ}
        → Room bundle store imports includes levelsE edgesE chainsE left count
        → Kept (level_at (left + 1)) store imports includes levelsE store₀ imports₀ includes₀ levels₀
        → AsLong store₀ imports₀ includes₀ levels₀ store₁ imports₁ includes₁ levels
        → Room bundle store₁ imports₁ includes₁ levels edges₁ chains₁ (left - 1) m
    child_room t p l = record {
      scan = record {
        store_room = omega (arith, t.scan.store_room, l.store_long, p.long.store_long);
        import_room = omega (arith, t.scan.import_room, l.imports_long, p.long.imports_long);
        include_room = omega (arith, t.scan.include_room, l.includes_long, p.long.includes_long);
      };
      deep = omega (arith, t.deep);
      level_room = omega (arith, some_left, g.inside, g.based, g.long);
      edges_so_far = descends.filed;
    }

    module _ {w : Result ℕ Stopped} {levels₂ edges₂ chains₂ : List ℕ}
        (o : Through (walk_once at most_edges (left - 1) 24 u.0 (rows_in m edges₁) (remembered levels)) (left - 1) u.0 edges₁ chains₁
        w levels₂ edges₂ chains₂)
      where
        child : include_once most_edges (below_once at most_edges left) v (get_or levels (base + i) 0) (rows_in total edges) (remembered levels)
            ≡ walked_seen u.0 w levels₂ edges₂
        child =
            sym (s.seen at (remembered levels)) ∙ ap (λ x. step_seen (below_once at most_edges left) x edges₁ (remembered levels)) e
            ∙ one_less at left u.0 (rows_in m edges₁) (remembered levels) some_left ∙ sym o.seen

        pub sent_up : {count : ℕ} {edgesE chainsE : List ℕ} {r : Result (Option (ℕ × ℕ)) Stopped} {E : Below → Went} {y : Stopped}
            → (d : Called E n left v count edgesE chainsE r levels₀ edges₀ chains₀)
            → r ≡ Ok (Some (k, linked)) → w ≡ Err y → Through (expected at left d) left v edgesE chainsE (Err y) levels₂ edges₂ chains₂
        sent_up {y = y} d z f =
            let q : include_once most_edges (below_once at most_edges left) v (get_or levels (base + i) 0) (rows_in total edges) (remembered levels)
            ≡ halted y.number y.scan =
            child ∙ ap (λ w. walked_seen u.0 w levels₂ edges₂) f in
            record {
              seen = sym (all_words d z ∙ ap (λ (w : Went). then_w w (ended v)) (turn h ∙ ap (λ (w : Went). then_w w onwards) q));
              ready = tt;
              kept_edges = o.kept_edges ∙ s.kept_edges ∙ g.long_edges ∙ d.kept_edges;
              kept_chains = o.kept_chains ∙ s.kept_chains ∙ g.long_chains ∙ d.kept_chains;
            }

        module _ {store imports includes store₁ imports₁ includes₁ : List ℕ}
            (p : Kept (level_at (left - 1 + 1)) store imports includes levels store₁ imports₁ includes₁ levels₂) where
          same_words : drop base levels₂ ≡ drop base levels
          same_words = let q : base ≡ level_at (left - 1 + 1) = omega (arith, g.based, some_left) in rw q p.above_kept

          pub child_height : {t : ℕ} → w ≡ Ok t → height_in levels₂ u.0 + 1 ≤ left
          child_height {t} y = let q : Recalls (left - 1) u.0 t levels₂ edges₂ chains₂ = rw y at o.ready in omega (arith, q.low, some_left)

          pub went_on : {t most₁ : ℕ} → w ≡ Ok t → most₁ ≡ raised most (height_in levels₂ u.0)
              → Walking at n left v base k levels₀ edges₀ chains₀ linked levels₂ edges₂ chains₂ t most₁ (i + 1)
          went_on {t} {most₁} y f =
              let q : include_once most_edges (below_once at most_edges left) v (get_or levels (base + i) 0) (rows_in total edges) (remembered levels)
              ≡ walked (rows_in t edges₂) (remembered levels₂) (height_in levels₂ u.0) = child ∙ ap (λ w. walked_seen u.0 w levels₂ edges₂) y in
              let c : Recalls (left - 1) u.0 t levels₂ edges₂ chains₂ = rw y at o.ready in
              record {
                room = omega arith;
                few = g.few;
                based = g.based;
                inside = g.inside;
                long = p.long.levels_long ∙ g.long;
                kept = same_words ∙ g.kept;
                stays_read = stays_on g.stays_read p.stays_read;
                low = g.low;
                filed = c.filed;
                high = omega (arith, f, child_height y, g.high);
                long_edges = o.kept_edges ∙ s.kept_edges ∙ g.long_edges;
                long_chains = o.kept_chains ∙ s.kept_chains ∙ g.long_chains;
                rest = turn h ∙ ap (λ (w : Went). then_w w onwards) q
                    ∙ ap (λ (j : ℕ). ahead at left v (words_from levels₀ (base + (i + 1)) (k - (i + 1))) (rows_in t edges₂) (remembered levels₂) j) (sym f);
              }

          pub kept_sent : {storeE importsE includesE levelsE store₀ imports₀ includes₀ : List ℕ}
              → Kept (level_at (left + 1)) storeE importsE includesE levelsE store₀ imports₀ includes₀ levels₀
              → AsLong store₀ imports₀ includes₀ levels₀ store imports includes levels
              → Kept (level_at (left + 1)) storeE importsE includesE levelsE store₁ imports₁ includes₁ levels₂
          kept_sent f l = kept_loop f (longer l p.long) p.stays_read same_words
