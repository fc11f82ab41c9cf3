-- The items walked one after another: the drawing of all of them is that of those still to come, from the entry, node and edges so far. The first item
-- is an entry, so that every other one stands behind an entry; and an entry's name is a node.
-- Assumes nothing.
use Rattle.std.specs.Prelude.{Ok, Err, Result}
use Prim.Native.Nat.{ℕ, zero, suc, ◌+◌, ◌-◌, ◌*◌, ◌≤◌, ◌<◌}
use mathlib.Core.Path.{◌≡◌, refl, sym, ap, ap₂, ◌∙◌, subst}
use mathlib.Core.Bool.{Bool, true, false, cond}
use mathlib.Core.List.{List, [], ◌∷◌, ◌++◌, flat_map}
use native.Mathlib.Omega.{arith}
use lib.ListN.{length, take, drop}
use Rattle.library_form.specs.Form.{PlacedName, word_at}
use Rattle.library_form.proofs.Bounds.{part_word}
use Rattle.library_image.specs.Library.{Name, Module, ImportOnly, ModuleSet, Library}
use Rattle.library_items.specs.declared.Item.{Item}
use Rattle.library_items.specs.declared.Kind.{Kind}
use Rattle.library_items.specs.Items.{ItemOf, module_items, import_items, set_items, items_of, library_of, items_at}
use Rattle.library_items.specs.Table.{item_in, item_word, items_in, items_from, ItemFits, Itemized}
use Rattle.library_items.proofs.Through.{items_from_lem, items_all}
use Rattle.graph.specs.Graph.{Out, built, on_out, entry_names}
use Rattle.graph.specs.Nodes.{memb}
use Rattle.graph.specs.Numbers.{Row, Codes, number_of, Drawing, faulty, given_code, walk_codes}
use Rattle.graph.specs.Once.{Went, walked, halted, nothing_read, walk_once, Grows, Between}
use Rattle.graph.proofs.Rowing.{OnBuilt, given_grows}
use Rattle.graph.proofs.Remembering.{Right, entry_right, at_first, between_through, between_grows}
use Rattle.graph.proofs.Tests.{both_bools, same_refl, or_right}
use Rattle.graph.specs.Limits.{most_edges}
use Rattle.graph_edges.specs.Edges.{rows_in, Filed}
use Rattle.graph_nodes.specs.Adding.{is_entry, plain_at, names_held, Stands}
use Rattle.graph_marks.specs.Marks.{among_kind, known_at, Desk}
use Rattle.graph_marks.proofs.OfKind.{kind_append, known_items}
use Rattle.graph_link.specs.Link.{walk_seen, WalkFiled, Drew, all_levels}
use Rattle.graph_link.specs.declared.Stopped.{Stopped}
use Rattle.graph_memory.specs.Memory.{height_in, remembered}
use Rattle.graph_walk.specs.Walk.{walked_seen, WalkReady, Through}
use Rattle.graph_visit.specs.Visit.{codes_here, Room, Kept}
use Rattle.graph_memory.proofs.Words.{stays_on}
use Rattle.graph_visit.proofs.Visiting.{longer, kept_same}
use Rattle.graph_entries.specs.Entries.{is_listed, item_node, item_walk, next_node, next_entry, draw_items, Next, Placed, WalkBetween, Walks}

-- ---- the ways out of `next_entry`

module _ (k : Kind) (entry : ℕ) {r : Bool} (e : r ≡ is_entry k) where
  pub entry_more : r ≡ true → entry + 1 ≡ cond (is_entry k) (entry + 1) entry
  entry_more t = ap (λ (b : Bool). cond b (entry + 1) entry) (sym t ∙ e)

  pub entry_same : r ≡ false → entry ≡ cond (is_entry k) (entry + 1) entry
  entry_same t = ap (λ (b : Bool). cond b (entry + 1) entry) (sym t ∙ e)

-- ---- the ways out of `next_node`

module _ {s tab : List ℕ} {n : ℕ} {x : Item} {v : ℕ} (g : Next s tab n x v) {r : Bool} (e : r ≡ is_entry x.kind) where
  pub entry_stands : r ≡ true → Stands s tab n x.place x.size
  entry_stands t = record { holding = g.holding; inside = g.fits.inside; node = g.node (sym e ∙ t) }

  pub node_own : r ≡ true → {w : ℕ} → w ≡ number_of (names_held s tab n) (word_at s x.place x.size).text → w ≡ next_node (names_held s tab n) (item_word s x) v
  node_own t {w} q = q ∙ ap (λ (b : Bool). cond b (item_node (names_held s tab n) (item_word s x)) v) (sym t ∙ e)

  pub node_kept : r ≡ false → v ≡ next_node (names_held s tab n) (item_word s x) v
  node_kept t = ap (λ (b : Bool). cond b (item_node (names_held s tab n) (item_word s x)) v) (sym t ∙ e)

  pub node_behind : r ≡ false → v < n
  node_behind t = g.behind (sym e ∙ t)

-- ---- the ways out of `walk_item`

module _ (s b : List ℕ) (ns : List Name) (x : Item) (v : ℕ) (rs : List Row) where
  abbrev asks : (entry listed : Bool) → Out Row
  asks e l =
      cond e (walk_codes (codes_here s b ns) most_edges 8 23 (item_node ns (item_word s x)) rs)
      (cond l (given_code most_edges v (known_at s ns (word_at s x.place x.size).text) rs) (built rs))

  asked : {e l : Bool} → e ≡ is_entry x.kind → l ≡ is_listed x.kind → item_walk s b ns (item_word s x) v rs ≡ asks e l
  unfolding item_walk
  asked p q = ap₂ asks (sym p) (sym q)

-- what the walk with a memory leaves is what the plain walk leaves, and what the next entry asks
as_plain : (at : ℕ → Codes) (v : ℕ) (rs : List Row) (levels levels₁ edges₁ : List ℕ) → Between at most_edges (remembered levels) rs → (w : Result ℕ Stopped)
    → walked_seen v w levels₁ edges₁ ≡ walk_once at most_edges 8 23 v rs (remembered levels)
    → (walk_seen w edges₁ ≡ walk_codes at most_edges 8 23 v rs) × WalkBetween at w levels₁ edges₁
as_plain at v rs levels levels₁ edges₁ h (Ok n) q =
    let r : Right at most_edges (remembered levels) rs v (walked (rows_in n edges₁) (remembered levels₁) (height_in levels₁ v))
    (walk_codes at most_edges 8 23 v rs) =
    subst (λ (o : Went). Right at most_edges (remembered levels) rs v o (walk_codes at most_edges 8 23 v rs)) (sym q)
    (entry_right at most_edges 23 v rs (remembered levels) h 8) in
    (sym r.same, between_through at most_edges h r)
as_plain at v rs levels levels₁ edges₁ h (Err y) q =
    let r : Right at most_edges (remembered levels) rs v (halted y.number y.scan) (walk_codes at most_edges 8 23 v rs) =
    subst (λ (o : Went). Right at most_edges (remembered levels) rs v o (walk_codes at most_edges 8 23 v rs)) (sym q)
    (entry_right at most_edges 23 v rs (remembered levels) h 8) in
    (sym r, tt)

walk_filed : (left v : ℕ) (levels edges chains : List ℕ) (w : Result ℕ Stopped) → WalkReady left v w levels edges chains → WalkFiled w edges chains
walk_filed left v levels edges chains (Ok n) r = r.filed
walk_filed left v levels edges chains (Err y) r = tt

-- an edge more
pub between_linked : (at : ℕ → Codes) (v c : ℕ) (rs : List Row) (levels edges₁ : List ℕ) → Between at most_edges (remembered levels) rs → (w : Result ℕ Stopped)
    → walk_seen w edges₁ ≡ given_code most_edges v c rs → WalkBetween at w levels edges₁
between_linked at v c rs levels edges₁ h (Ok n) q =
    between_grows at most_edges (remembered levels) rs (rows_in n edges₁) (subst (λ (o : Out Row). OnBuilt o (Grows rs)) (sym q)
    (given_grows most_edges v c rs)) h
between_linked at v c rs levels edges₁ h (Err y) q = tt

module _ (s b : List ℕ) {ns : List Name} {n : ℕ} {x : Item} {v : ℕ} (g : Placed s ns n x v) {edges chains : List ℕ} (count : ℕ) {e : Bool}
    (p : e ≡ is_entry x.kind) where
  module _ (t : e ≡ true) (levels : List ℕ) (h : Between (codes_here s b ns) most_edges (remembered levels) (rows_in count edges)) {w : Result ℕ Stopped}
      {levels₁ edges₁ chains₁ : List ℕ}
      (d : Through (walk_once (codes_here s b ns) most_edges 8 23 v (rows_in count edges) (remembered levels)) 8 v edges chains w levels₁ edges₁ chains₁) where
    plain : (walk_seen w edges₁ ≡ walk_codes (codes_here s b ns) most_edges 8 23 v (rows_in count edges)) × WalkBetween (codes_here s b ns) w levels₁ edges₁
    plain = as_plain (codes_here s b ns) v (rows_in count edges) levels levels₁ edges₁ h w d.seen

    pub item_walked : Drew (item_walk s b ns (item_word s x) v (rows_in count edges)) edges chains w edges₁ chains₁
    item_walked = record {
      seen = plain.0 ∙ (ap (λ (u : ℕ). walk_codes (codes_here s b ns) most_edges 8 23 u (rows_in count edges)) (g.own (sym p ∙ t))
          ∙ sym (asked s b ns x v (rows_in count edges) (sym t ∙ p) refl));
      filed = walk_filed 8 v levels₁ edges₁ chains₁ w d.ready;
      kept_edges = d.kept_edges;
      kept_chains = d.kept_chains;
    }

    pub between_walked : WalkBetween (codes_here s b ns) w levels₁ edges₁
    between_walked = plain.1

  module _ (f : e ≡ false) {l : Bool} (q : l ≡ is_listed x.kind) where
    pub item_linked : l ≡ true → {w : Result ℕ Stopped} {edges₁ chains₁ : List ℕ}
        → Drew (given_code most_edges v (known_at s ns (take (x.place + x.size - x.place) (drop x.place s))) (rows_in count edges)) edges chains w edges₁
        chains₁
        → Drew (item_walk s b ns (item_word s x) v (rows_in count edges)) edges chains w edges₁ chains₁
    item_linked t {w} {edges₁} {chains₁} d =
        subst (λ (o : Out Row). Drew o edges chains w edges₁ chains₁)
        (ap (λ (u : Name). given_code most_edges v (known_at s ns u) (rows_in count edges)) (part_word s x.place x.size)
        ∙ sym (asked s b ns x v (rows_in count edges) (sym f ∙ p) (sym t ∙ q))) d

    pub item_silent : l ≡ false → Filed edges chains count → Drew (item_walk s b ns (item_word s x) v (rows_in count edges)) edges chains
        (Ok count) edges chains
    item_silent t h = record {
      seen = sym (asked s b ns x v (rows_in count edges) (sym f ∙ p) (sym t ∙ q));
      filed = h;
      kept_edges = refl;
      kept_chains = refl;
    }

-- ---- the first item is an entry

abbrev Headed : List (ItemOf PlacedName) → Type 0
Headed [] = Unit {0}
Headed (x ∷ xs) = is_entry x.kind ≡ true

headed_append : (xs ys : List (ItemOf PlacedName)) → Headed xs → Headed ys → Headed (xs ++ ys)
headed_append [] ys g h = h
headed_append (x ∷ xs) ys g h = g

each_headed : {A : Type 0} (f : A → List (ItemOf PlacedName)) → ((a : A) → Headed (f a)) → (l : List A) → Headed (flat_map f l)
unfolding flat_map
each_headed f h [] = tt
each_headed f h (a ∷ l) = headed_append (f a) (flat_map f l) (h a) (each_headed f h l)

items_headed : (l : Library) → Headed (items_of l)
unfolding items_of
items_headed l =
    each_headed set_items
    (λ (x : ModuleSet). headed_append (flat_map module_items x.modules) (flat_map import_items x.import_only)
    (each_headed module_items (λ (m : Module). refl) x.modules) (each_headed import_items (λ (i : ImportOnly). refl) x.import_only)) l

first_entry : {s tab : List ℕ} {n : ℕ} → Itemized s n tab → 0 < n → is_entry (item_in tab 0).kind ≡ true
unfolding items_from
first_entry {s} {tab} {n} g l =
    let q : n ≡ suc (n - 1) = omega arith in
    subst Headed (sym (items_all g) ∙ ap (items_from s tab 0) q) (items_headed (library_of s))

-- ---- an entry's name is one that an import may have

entry_among : {s tab : List ℕ} {n : ℕ} → Itemized s n tab → (i : ℕ) → i < n → is_entry (item_in tab i).kind ≡ true
    → among_kind is_entry (item_word s (item_in tab i)).name.text (items_at s) ≡ true
unfolding items_from among_kind
entry_among {s} {tab} {n} g i l h =
    let u = (item_word s (item_in tab i)).name.text in
    let q : n ≡ i + suc (n - (i + 1)) = omega arith in
    let own : among_kind is_entry u (items_from s tab i (suc (n - (i + 1)))) ≡ true =
    ap₂ (λ (a c : Bool). cond a (cond c true (among_kind is_entry u (items_from s tab (i + 1) (n - (i + 1)))))
    (among_kind is_entry u (items_from s tab (i + 1) (n - (i + 1))))) h (same_refl u) in
    ap (among_kind is_entry u) (sym g.items ∙ ap (items_in s tab) q ∙ items_from_lem s tab (suc (n - (i + 1))) i)
    ∙ kind_append is_entry u (items_in s tab i) (items_from s tab i (suc (n - (i + 1))))
    ∙ or_right (among_kind is_entry u (items_in s tab i)) (among_kind is_entry u (items_from s tab i (suc (n - (i + 1))))) own

entry_known : {s tab : List ℕ} {n : ℕ} → Itemized s n tab → (i : ℕ) → i < n → is_entry (item_in tab i).kind ≡ true
    → memb (item_word s (item_in tab i)).name.text (entry_names (plain_at s)) ≡ true
entry_known {s} {tab} g i l h = known_items (item_word s (item_in tab i)).name.text (library_of s) ∙ entry_among g i l h

-- ---- what the loop keeps

walk_same : (s b : List ℕ) (ns : List Name) (x : ItemOf PlacedName) (v : ℕ) (rs : List Row) → item_walk s b ns x v rs ≡ item_walk s b ns x (next_node ns x v) rs
unfolding item_walk
walk_same s b ns x v rs = go (is_entry x.kind) (is_listed x.kind)
  where
    go : (e l : Bool) → cond e (walk_codes (codes_here s b ns) most_edges 8 23 (item_node ns x) rs)
        (cond l (given_code most_edges v (known_at s ns x.name.text) rs) (built rs))
        ≡ cond e (walk_codes (codes_here s b ns) most_edges 8 23 (item_node ns x) rs)
        (cond l (given_code most_edges (cond e (item_node ns x) v) (known_at s ns x.name.text) rs) (built rs))
    go true l = refl
    go false l = refl

pub record Going (s b : List ℕ) (ns : List Name) (n : ℕ) (table : List ℕ) (items : ℕ)
    (store₀ imports₀ includes₀ levels₀ edges₀ chains₀ store imports includes levels edges chains : List ℕ) (total entry v i : ℕ) : Type 0 where
  pub rest : draw_items s b ns 0 0 [] (items_at s) ≡ draw_items s b ns entry v (rows_in total edges) (items_from s table i (items - i))
  pub listed : Itemized s items table
  pub some : i ≤ items
  pub entries : entry ≤ i
  pub low : 0 < i → v < n
  pub tables : Room b store imports includes levels edges chains 8 total
  pub between : Between (codes_here s b ns) most_edges (remembered levels) (rows_in total edges)
  pub kept : Kept all_levels store₀ imports₀ includes₀ levels₀ store imports includes levels
  pub kept_edges : length edges ≡ length edges₀
  pub kept_chains : length chains ≡ length chains₀

pub going_none : (s b : List ℕ) (ns : List Name) (n : ℕ) (table : List ℕ) (items : ℕ) (store imports includes levels edges chains : List ℕ) (v : ℕ) → v ≡ 0
    → Room b store imports includes levels edges chains 8 0 → remembered levels ≡ nothing_read → Itemized s items table
    → Going s b ns n table items store imports includes levels edges chains store imports includes levels edges chains 0 0 v 0
unfolding rows_in
going_none s b ns n table items store imports includes levels edges chains v z t m g =
    let q : items ≡ items - 0 = omega arith in
    record {
      rest = ap₂ (λ (j : ℕ) (xs : List (ItemOf PlacedName)). draw_items s b ns 0 j [] xs) (sym z) (sym (items_all g) ∙ ap (items_from s table 0) q);
      listed = g;
      some = omega arith;
      entries = omega arith;
      low = λ l. absurd (omega arith);
      tables = t;
      between = rw m (at_first (codes_here s b ns) most_edges);
      kept = kept_same all_levels store imports includes levels;
      kept_edges = refl;
      kept_chains = refl;
    }

module _ {s b : List ℕ} {ns : List Name} {n : ℕ} {table : List ℕ} {items : ℕ}
    {store₀ imports₀ includes₀ levels₀ edges₀ chains₀ store imports includes levels edges chains : List ℕ} {total entry v i : ℕ}
    (g : Going s b ns n table items store₀ imports₀ includes₀ levels₀ edges₀ chains₀ store imports includes levels edges chains total entry v i) where
  pub all_drawn : items ≤ i → Walks s b ns store₀ imports₀ includes₀ levels₀ edges₀ chains₀ (Ok total) store imports includes levels edges chains
  unfolding items_from draw_items
  all_drawn h =
      let q : items - i ≡ 0 = omega arith in
      record {
        seen = sym (g.rest ∙ ap (λ (k : ℕ). draw_items s b ns entry v (rows_in total edges) (items_from s table i k)) q);
        filed = g.tables.edges_so_far;
        kept_edges = g.kept_edges;
        kept_chains = g.kept_chains;
        kept = g.kept;
      }

  module _ (l : i < items) where
    pub item_there : i * 2 + 2 ≤ length table
    item_there = omega (arith, g.listed.long)

    pub entry_low : entry < 32768
    entry_low = omega (arith, g.entries, g.listed.few)

    module _ {x : Item} (e : x ≡ item_in table i) where
      item_fits : ItemFits s x
      item_fits = subst (ItemFits s) (sym e) (g.listed.fits i l)

      behind_entry : is_entry x.kind ≡ false → v < n
      behind_entry f = go i refl
        where
          go : (j : ℕ) → i ≡ j → v < n
          go zero q = both_bools (ap (λ (k : ℕ). is_entry (item_in table k).kind) q ∙ first_entry g.listed (omega arith))
              (ap (λ (y : Item). is_entry y.kind) (sym e) ∙ f)
          go (suc j) q = g.low (omega arith)

      pub next_asked : {ntab marks : List ℕ} → Desk s ntab n marks → Next s ntab n x v
      next_asked {ntab} d = record {
        holding = d.holding;
        fits = item_fits;
        node = λ h. d.entries (word_at s x.place x.size).text (ap (λ (y : Item). memb (word_at s y.place y.size).text (entry_names (plain_at s))) e
            ∙ entry_known g.listed i l (ap (λ (y : Item). is_entry y.kind) (sym e) ∙ h));
        behind = behind_entry;
      }

      module _ {u : ℕ} (p : u ≡ next_node ns (item_word s x) v) (o : u < n) where
        pub placed : Placed s ns n x u
        placed = record {
          fits = item_fits;
          low = o;
          own = λ h. p ∙ ap (λ (c : Bool). cond c (item_node ns (item_word s x)) v) h;
        }

        module _ {k : ℕ} (q : k ≡ cond (is_entry x.kind) (entry + 1) entry) {w : Result ℕ Stopped} {edges₁ chains₁ : List ℕ}
            (d : Drew (item_walk s b ns (item_word s x) u (rows_in total edges)) edges chains w edges₁ chains₁) where
          abbrev behind : (y : ItemOf PlacedName) → Out Row → (k u : ℕ) → Drawing
          behind y out k u = on_out out (λ rs. draw_items s b ns k u rs (items_from s table (i + 1) (items - (i + 1)))) (λ number a. faulty number k a)

          turn : draw_items s b ns 0 0 [] (items_at s) ≡ behind (item_word s x) (walk_seen w edges₁) k u
          unfolding items_from draw_items
          turn =
              let j : items - i ≡ suc (items - (i + 1)) = omega arith in
              g.rest
              ∙ ap (λ (m : ℕ). draw_items s b ns entry v (rows_in total edges) (items_from s table i m)) j
              ∙ ap (λ (y : Item). behind (item_word s y) (item_walk s b ns (item_word s y) v (rows_in total edges)) (next_entry (item_word s y) entry)
              (next_node ns (item_word s y) v)) (sym e)
              ∙ ap (λ (out : Out Row). behind (item_word s x) out (next_entry (item_word s x) entry) (next_node ns (item_word s x) v))
              (walk_same s b ns (item_word s x) v (rows_in total edges))
              ∙ ap₂ (λ (m z : ℕ). behind (item_word s x) (item_walk s b ns (item_word s x) z (rows_in total edges)) m z) (sym q) (sym p)
              ∙ ap (λ (out : Out Row). behind (item_word s x) out k u) (sym d.seen)

          module _ {store₁ imports₁ includes₁ levels₁ : List ℕ} (c : Kept all_levels store imports includes levels store₁ imports₁ includes₁ levels₁) where
            kept_on : Kept all_levels store₀ imports₀ includes₀ levels₀ store₁ imports₁ includes₁ levels₁
            kept_on = record {
              long = longer g.kept.long c.long;
              stays_read = stays_on g.kept.stays_read c.stays_read;
              above_kept = c.above_kept ∙ g.kept.above_kept;
            }

            pub sent_out : {y : Stopped} → w ≡ Err y
                → Walks s b ns store₀ imports₀ includes₀ levels₀ edges₀ chains₀ (Err (k, y)) store₁ imports₁ includes₁ levels₁ edges₁ chains₁
            sent_out z = record {
              seen = sym (turn ∙ ap (λ (w : Result ℕ Stopped). behind (item_word s x) (walk_seen w edges₁) k u) z);
              filed = tt;
              kept_edges = d.kept_edges ∙ g.kept_edges;
              kept_chains = d.kept_chains ∙ g.kept_chains;
              kept = kept_on;
            }

            entries_on : k ≤ i + 1
            entries_on = go (is_entry x.kind) q
              where
                go : (t : Bool) → k ≡ cond t (entry + 1) entry → k ≤ i + 1
                go true z = omega (arith, g.entries)
                go false z = omega (arith, g.entries)

            pub going_on : {m : ℕ} → w ≡ Ok m → WalkBetween (codes_here s b ns) w levels₁ edges₁
                → Going s b ns n table items store₀ imports₀ includes₀ levels₀ edges₀ chains₀ store₁ imports₁ includes₁ levels₁ edges₁ chains₁ m k u (i + 1)
            going_on {m} y q = record {
              rest = turn ∙ ap (λ (w : Result ℕ Stopped). behind (item_word s x) (walk_seen w edges₁) k u) y;
              listed = g.listed;
              some = omega arith;
              entries = entries_on;
              low = λ z. o;
              tables = record {
                scan = record {
                  store_room = omega (arith, g.tables.scan.store_room, c.long.store_long);
                  import_room = omega (arith, g.tables.scan.import_room, c.long.imports_long);
                  include_room = omega (arith, g.tables.scan.include_room, c.long.includes_long);
                };
                deep = g.tables.deep;
                level_room = omega (arith, g.tables.level_room, c.long.levels_long);
                edges_so_far = rw y at d.filed;
              };
              between = rw y at q;
              kept = kept_on;
              kept_edges = d.kept_edges ∙ g.kept_edges;
              kept_chains = d.kept_chains ∙ g.kept_chains;
            }
