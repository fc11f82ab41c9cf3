-- A text that is read by the name of its node: what there is under the name, the imports linked, the includes saved. One law for each way out.
-- Assumes nothing.
use Rattle.std.specs.Prelude.{Ok, Err, None, Some, Result, Option}
use Prim.Native.Nat.{ℕ, ◌+◌, ◌≤◌, ◌<◌}
use mathlib.Core.Path.{◌≡◌, refl, sym, ap, ◌∙◌}
use mathlib.Core.Bool.{Bool, true, false, cond, true≢false}
use mathlib.Core.List.{List, []}
use native.Mathlib.Omega.{arith}
use lib.ListN.{length, get_or}
use lib.Dec.{leb}
use borrow.Author.Tests.{eq-eqb, le-leb}
use Rattle.text.specs.declared.Refusal.{Refusal}
use Rattle.scan_rows.specs.Rows.{most_rows}
use Rattle.library_image.specs.Library.{Name}
use Rattle.text.specs.Refusal.{no_refusal}
use Rattle.graph.specs.Graph.{Text, built, refused}
use Rattle.graph.specs.Numbers.{Row, Codes, no_text, refused_scan, codes, codes_of, codes_at, each_o, import_code}
use Rattle.graph.specs.Limits.{most_edges, most_nodes}
use Rattle.graph.specs.Once.{Mark, unread, reading, below, Marks, mark, Went, walked, halted, Below, met}
use Rattle.graph_edges.specs.Edges.{rows_in, Filed}
use Rattle.graph_marks.specs.Marks.{known_at, included_at}
use Rattle.graph_memory.specs.Memory.{memory_words, height_in, remembered, recalled, Remembers}
use Rattle.graph_memory.specs.declared.Recalled.{Recalled}
use Rattle.graph_memory.specs.declared.Recalled.TheVariants.{Unread, Known as Recall, TooDeep}
use Rattle.graph_memory.proofs.Words.{later, same_memory, stays_same, stays_on, stays_equal, stays_marked, known_height, is_known}
use Rattle.graph_texts.specs.Texts.{text_of, text_seen, SeenAs, ScanRoom}
use Rattle.graph_link.specs.Link.{stopped_at, level_words, level_at, import_codes, include_codes, ImportRows, IncludeRows, walk_seen, Drew, Saved}
use Rattle.graph_link.specs.declared.Stopped.{Stopped}
use Rattle.graph_visit.specs.Visit.{world_of, codes_here, Room, AsLong, Kept, Called, visited, met_here}
use Rattle.graph.proofs.Tests.{both_bools}
use Rattle.graph.proofs.Remembering.{is_reading}

-- ---- the marks

pub reading_read : reading ≡ unread → ⊥
reading_read q = true≢false (ap is_reading q)

-- saved words lie above the memory
pub saved_same : (left : ℕ) {n : ℕ} {cs : List ℕ} {k : ℕ} {levels levels₁ : List ℕ} → Saved n cs (level_at left) k levels levels₁
    → remembered levels₁ ≡ remembered levels
saved_same left {levels = levels} {levels₁ = levels₁} a = same_memory levels levels₁ (λ j h. a.under j (omega arith))

saved_marks : (left : ℕ) {n v : ℕ} {cs : List ℕ} {k : ℕ} {levels levels₀ levels₁ : List ℕ} → Remembers levels v reading levels₀
    → Saved n cs (level_at left) k levels₀ levels₁ → remembered levels₁ ≡ mark (remembered levels) v reading
saved_marks left y a = saved_same left a ∙ y.marks

-- the mark of v after that
pub marked_read : {levels : List ℕ} {v : ℕ} {levels₀ : List ℕ} → Remembers levels v reading levels₀ → (levels₁ : List ℕ)
    → remembered levels₁ ≡ remembered levels₀ → remembered levels₁ v ≡ unread → ⊥
marked_read {levels} {v} y levels₁ q e =
    reading_read (sym (ap (λ (b : Bool). cond b reading (remembered levels v)) (eq-eqb v v refl)) ∙ ap (λ (m : Marks). m v) (sym (q ∙ y.marks)) ∙ e)

module _ (s b : List ℕ) (ns : List Name) (v : ℕ) (name : List ℕ) (p : name ≡ get_or ns v []) where
  under : codes_here s b ns v ≡ codes_of (world_of s b ns) ns (text_of b name)
  unfolding codes_here codes_at world_of
  under = rw p

  module _ (d f₀ g₀ : List ℕ) (r : Result (Option (ℕ × ℕ)) Refusal) (e f g : List ℕ) (l : SeenAs (text_of b name) d f₀ g₀ r e f g) where
    no_text_lem : r ≡ (Ok None) → codes_here s b ns v ≡ no_text
    no_text_lem z = under ∙ ap (codes_of (world_of s b ns) ns) (sym l.seen ∙ ap (λ r. text_seen r e f g) z)

    refused_text : (a : Refusal) → r ≡ Err a → codes_here s b ns v ≡ refused_scan a
    refused_text a z = under ∙ ap (codes_of (world_of s b ns) ns) (sym l.seen ∙ ap (λ r. text_seen r e f g) z)

    read : (m k : ℕ) → r ≡ Ok (Some (m, k)) → codes_here s b ns v ≡ codes (import_codes s ns e f m) (include_codes s ns e g k)
    unfolding import_codes include_codes known_at included_at world_of
    read m k z = under ∙ ap (codes_of (world_of s b ns) ns) (sym l.seen ∙ ap (λ r. text_seen r e f g) z)

    module _ (n left absent count : ℕ) (levels edges chains : List ℕ) where
      abbrev expected : Below → Went
      expected f = visited (codes_here s b ns) absent v (rows_in count edges) levels f

      pub text_missing : {y : Stopped} (levels₁ : List ℕ) → r ≡ (Ok None) → y ≡ stopped_at absent
          → Called expected n left v count edges chains (Err y) levels₁ edges chains
      unfolding visited
      text_missing levels₁ z t = record { seen = λ below. rw (no_text_lem z, t); ready = tt; kept_edges = refl; kept_chains = refl }

      pub text_refused : (a : Refusal) (levels₁ : List ℕ) → r ≡ Err a
          → Called expected n left v count edges chains (Err (record { number = 25; scan = a })) levels₁ edges chains
      unfolding visited
      text_refused a levels₁ z = record { seen = λ below. rw (refused_text a z); ready = tt; kept_edges = refl; kept_chains = refl }

      module _ (m k : ℕ) (z : r ≡ Ok (Some (m, k))) (w : Result ℕ Stopped) (edges₁ chains₁ : List ℕ)
          (o : Drew (each_o (import_code most_edges v) (import_codes s ns e f m) (rows_in count edges)) edges chains w edges₁ chains₁) where
        pub import_refused : {y : Stopped} (levels₁ : List ℕ) → w ≡ Err y
            → Called expected n left v count edges chains (Err y) levels₁ edges₁ chains₁
        unfolding visited
        import_refused {y} levels₁ t =
            let q : each_o (import_code most_edges v) (import_codes s ns e f m) (rows_in count edges) ≡ refused y.number y.scan = sym o.seen
            ∙ ap (λ w. walk_seen w edges₁) t in
            record { seen = λ below. rw (read m k z, q); ready = tt; kept_edges = o.kept_edges; kept_chains = o.kept_chains }

        pub called : (total : ℕ) (levels₀ levels₁ : List ℕ) → Remembers levels v reading levels₀
            → Saved n (include_codes s ns e g k) (level_at left) k levels₀ levels₁ → w ≡ Ok total
            → Called expected n left v count edges chains (Ok (Some (k, total))) levels₁ edges₁ chains₁
        unfolding visited
        called total levels₀ levels₁ y a t =
            let q : each_o (import_code most_edges v) (import_codes s ns e f m) (rows_in count edges) ≡ built (rows_in total edges₁) = sym o.seen
            ∙ ap (λ w. walk_seen w edges₁) t in
            let few : (m ≤ most_rows) × (k ≤ most_rows) = rw z at l.few in
            record {
              seen = λ below. rw (read m k z, q, saved_marks left y a, a.words);
              ready = record { filed = rw t at o.filed; few = few.1; low = a.low };
              kept_edges = o.kept_edges;
              kept_chains = o.kept_chains;
            }

-- ---- the tables

module _ (t : Text) (d f₀ g₀ : List ℕ) (r : Result (Option (ℕ × ℕ)) Refusal) (e f g : List ℕ) (l : SeenAs t d f₀ g₀ r e f g) where
  pub import_rows : (m k size : ℕ) → r ≡ Ok (Some (m, k)) → ScanRoom size d f₀ g₀ → ImportRows f m
  import_rows m k size z o =
      let few : (m ≤ most_rows) × (k ≤ most_rows) = rw z at l.few in
      record { few = few.0; room = omega (arith, o.import_room, l.kept_imports) }

  pub include_rows : (m k size : ℕ) (levels : List ℕ) (base : ℕ) → r ≡ Ok (Some (m, k)) → ScanRoom size d f₀ g₀ → base + level_words ≤ length levels
      → IncludeRows g k levels base
  include_rows m k size levels base z o h =
      let few : (m ≤ most_rows) × (k ≤ most_rows) = rw z at l.few in
      record { few = few.1; room = omega (arith, o.include_room, l.kept_includes); level_room = h }

  seen_long : {levels levels₁ : List ℕ} → length levels₁ ≡ length levels → AsLong d f₀ g₀ levels e f g levels₁
  seen_long k = record { store_long = l.kept_store; imports_long = l.kept_imports; includes_long = l.kept_includes; levels_long = k }

  module _ (left : ℕ) {v : ℕ} {levels levels₀ : List ℕ} (y : Remembers levels v reading levels₀) where
    pub kept_levels : Kept (level_at (left + 1)) d f₀ g₀ levels e f g levels₀
    kept_levels = record {
      long = seen_long y.long;
      stays_read = stays_marked y reading_read;
      above_kept = later memory_words (level_at (left + 1)) levels₀ levels (omega arith) y.above;
    }

    pub kept_above : (n : ℕ) (cs : List ℕ) (k : ℕ) (levels₁ : List ℕ) → Saved n cs (level_at left) k levels₀ levels₁
        → Kept (level_at (left + 1)) d f₀ g₀ levels e f g levels₁
    kept_above n cs k levels₁ a =
        let q : level_at left + level_words ≡ level_at (left + 1) = omega arith in
        record {
          long = seen_long (a.kept ∙ y.long);
          stays_read = stays_on (stays_marked y reading_read) (stays_equal levels₀ levels₁ (saved_same left a));
          above_kept = rw q at a.above ∙ later memory_words (level_at (left + 1)) levels₀ levels (omega arith) y.above;
        }

pub level_in : {bundle store imports includes levels edges chains : List ℕ} {left count : ℕ} → Room bundle store imports includes levels edges chains left count
    → {v : ℕ} {x : Mark} {levels₀ : List ℕ} → Remembers levels v x levels₀ → level_at left + level_words ≤ length levels₀
level_in r y = omega (arith, r.level_room, y.long)

-- ---- a text that is met

abbrev is_deep : Recalled → Bool
is_deep TooDeep = true
is_deep Unread = false
is_deep Recall = false

pub same_long : (store imports includes levels : List ℕ) → AsLong store imports includes levels store imports includes levels
same_long store imports includes levels = record { store_long = refl; imports_long = refl; includes_long = refl; levels_long = refl }

pub longer : {store₀ imports₀ includes₀ levels₀ store imports includes levels store₁ imports₁ includes₁ levels₁ : List ℕ}
    → AsLong store₀ imports₀ includes₀ levels₀ store imports includes levels → AsLong store imports includes levels store₁ imports₁ includes₁ levels₁
    → AsLong store₀ imports₀ includes₀ levels₀ store₁ imports₁ includes₁ levels₁
longer l p = record {
  store_long = p.store_long ∙ l.store_long;
  imports_long = p.imports_long ∙ l.imports_long;
  includes_long = p.includes_long ∙ l.includes_long;
  levels_long = p.levels_long ∙ l.levels_long;
}

pub other_levels : {store imports includes levels store₁ imports₁ includes₁ levels₁ levels₂ : List ℕ}
    → AsLong store imports includes levels store₁ imports₁ includes₁ levels₁ → length levels₂ ≡ length levels₁
    → AsLong store imports includes levels store₁ imports₁ includes₁ levels₂
other_levels l e =
    record { store_long = l.store_long; imports_long = l.imports_long; includes_long = l.includes_long; levels_long = e ∙ l.levels_long }

pub kept_same : (above : ℕ) (store imports includes levels : List ℕ) → Kept above store imports includes levels store imports includes levels
kept_same above store imports includes levels =
    record { long = same_long store imports includes levels; stays_read = stays_same levels; above_kept = refl }

module _ (left v : ℕ) (levels : List ℕ) (q : Recalled) (e : q ≡ recalled left (remembered levels v)) where
  pub visit_asked : q ≡ Unread → remembered levels v ≡ unread
  visit_asked z = go (remembered levels v) (sym e ∙ z)
    where
      go : (x : Mark) → recalled left x ≡ Unread → x ≡ unread
      go unread p = refl
      go reading p = both_bools refl (ap is_deep p)
      go (below h) p = by (leb h left) p
        where
          by : (b : Bool) → cond b Recall TooDeep ≡ Unread → below h ≡ unread
          by true y = both_bools refl (ap is_known y)
          by false y = both_bools refl (ap is_deep y)

  too_deep_lem : q ≡ TooDeep → (rs : List Row) (m : Marks) (w : Went) → met (remembered levels v) left rs m w ≡ halted 29 no_refusal
  too_deep_lem z rs m w = go (remembered levels v) (sym e ∙ z)
    where
      go : (x : Mark) → recalled left x ≡ TooDeep → met x left rs m w ≡ halted 29 no_refusal
      go unread p = both_bools (ap is_deep p) refl
      go reading p = refl
      go (below h) p = by (leb h left) p
        where
          by : (b : Bool) → cond b Recall TooDeep ≡ TooDeep → cond b (walked rs m h) (halted 29 no_refusal) ≡ halted 29 no_refusal
          by true y = both_bools (ap is_deep y) refl
          by false y = refl

  module _ (at : ℕ → Codes) (n absent count : ℕ) (edges chains : List ℕ) where
    abbrev meeting : Below → Went
    meeting f = met_here at left absent v (rows_in count edges) levels f

    pub met_deep : {y : Stopped} → q ≡ TooDeep → y ≡ stopped_at 29 → Called meeting n left v count edges chains (Err y) levels edges chains
    unfolding met_here
    met_deep z t = record {
      seen = λ f. ap (λ (x : Stopped). halted x.number x.scan) t
          ∙ sym (too_deep_lem z (rows_in count edges) (remembered levels) (visited at absent v (rows_in count edges) levels f));
      ready = tt;
      kept_edges = refl;
      kept_chains = refl;
    }

    pub met_known : q ≡ Recall → v < most_nodes → Filed edges chains count → Called meeting n left v count edges chains (Ok None) levels edges chains
    unfolding met_here
    met_known z l o =
        let k = known_height levels left v l (sym z ∙ e) in
        record {
          seen = λ f. sym (ap (λ (x : Mark). met x left (rows_in count edges) (remembered levels) (visited at absent v (rows_in count edges) levels f)) k.0
              ∙ rw (le-leb (height_in levels v) left k.1));
          ready = record { filed = o; low = k.1 };
          kept_edges = refl;
          kept_chains = refl;
        }

    pub met_unread : q ≡ Unread → {r : Result (Option (ℕ × ℕ)) Stopped} {levels₁ edges₁ chains₁ : List ℕ}
        → Called (visited at absent v (rows_in count edges) levels) n left v count edges chains r levels₁ edges₁ chains₁
        → Called meeting n left v count edges chains r levels₁ edges₁ chains₁
    unfolding met_here
    met_unread z d = record {
      seen = λ f. d.seen f
          ∙ sym (ap (λ (x : Mark). met x left (rows_in count edges) (remembered levels) (visited at absent v (rows_in count edges) levels f)) (visit_asked z));
      ready = d.ready;
      kept_edges = d.kept_edges;
      kept_chains = d.kept_chains;
    }
