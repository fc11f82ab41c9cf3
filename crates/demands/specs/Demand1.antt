-- Which refusals each call but an order can give, by number, keyword, entry, scan answer and place, and when a graph is built, over the definitions that
-- the calls promise; those of an order are in OrderCalls, and what the refusals of a scan are in crate demands_scans (Refusals). 20 to 22 are given exactly
-- when they are due. Of 23 to 31 each has its cause in crate graph (Meaning).
-- And every refusal leaves zeros, over what the functions and a host's calls promise.
-- Assumes nothing.
use Rattle.std.specs.Prelude.{ℕ, ◌≡◌, Bool, true, false, ◌↔◌, ◌⊎◌, length, get_or, drop, Err, Ok}
use mathlib.Core.List.{List, [], ◌∷◌, Memᴰ}
use Rattle.text.specs.declared.Refusal.{Refusal}
use Rattle.library_form.specs.Form.{bad}
use Rattle.library_image.specs.Image.{image_at}
use Rattle.library_image.specs.Library.{Name}
use Rattle.library_find.specs.Find.{find_module, find_submodule, find_import_module}
use Rattle.library_bundle.specs.Bundle.{bundle_at, look_up, text_under}
use Rattle.library_bundle.specs.Reading.{longest_text}
use Rattle.text_lent.specs.Padded as Padded
use Rattle.yangparser.specs.Dependencies as Dependencies
use Rattle.yangparser.specs.Promises.{Extracts}
use Rattle.scan_page.specs.Page.{Prints}
use Rattle.scan_page.specs.declared.Page.{Page}
use Rattle.scan_metadata.specs.Metadata as Metadata
use Rattle.scan_metadata.specs.Promises as MetadataPromises
use Rattle.scan_metadata.specs.declared.YangModuleMetadata.{YangModuleMetadata}
use Rattle.nuvaleta.specs.Host.{DependenciesAnswered, PrintedAnswered}
use Rattle.nuvaleta.specs.Record.{MetadataAnswered}
use Rattle.nuvaleta.specs.Graphs.{GraphAnswered}
use Rattle.library_items.specs.Table.{Reads}
use Rattle.graph.specs.Nodes.{Mode, complete}
use Rattle.text.specs.Refusal.{no_refusal}
use Rattle.graph.specs.Meaning.{Sound, Cause}
use Rattle.graph_nodes.specs.Adding.{plain_at}
use Rattle.graph_texts.specs.Texts.{text_of}
use Rattle.yanglib.specs.ToGraph.{graphed, Graphs}
use Rattle.graph_tables.specs.Lengths.{Lengths, is_too_short}
use Rattle.demands_scans.specs.Refusals.{FirstRefusal, RefusedAs, DependenciesRefusal, MetadataRefusal, ModeRefusal}

-- ---- graphs

-- why: the first of image, bundle, what is lent, and then what crate graph says of the library and the texts
pub data GraphCause (mode : Mode) (s b : List ℕ) (k : Lengths) : (number entry : ℕ) → Refusal → (place : ℕ) → Type 0 where
  image : {p : ℕ} → image_at s ≡ bad p → GraphCause mode s b k 20 0 no_refusal p
  bundle : {p : ℕ} → Reads (image_at s) → bundle_at b ≡ bad p → GraphCause mode s b k 21 0 no_refusal p
  lent : Reads (image_at s) → Reads (bundle_at b) → is_too_short (longest_text b) k ≡ true → GraphCause mode s b k 22 0 no_refusal 0
  graph : {n e : ℕ} {a : Refusal} → Reads (image_at s) → Reads (bundle_at b) → is_too_short (longest_text b) k ≡ false
      → Cause mode (text_of b) (plain_at s) 1024 8192 n e a → GraphCause mode s b k n e a 0

pub record GraphNumbers (number entry : ℕ) (a : Refusal) (place : ℕ) : Type 0 where
  pub number_in : Memᴰ number (20 ∷ 21 ∷ 22 ∷ 23 ∷ 24 ∷ 25 ∷ 26 ∷ 27 ∷ 28 ∷ 29 ∷ 30 ∷ 31 ∷ [])
  -- entry 0 exactly before the walk, a scan answer only at 25, a place only at 20 and 21
  pub entry_none : (entry ≡ 0) ↔ Memᴰ number (20 ∷ 21 ∷ 22 ∷ 30 ∷ [])
  pub scan_none : (a ≡ no_refusal) ⊎ (number ≡ 25)
  pub place_none : (place ≡ 0) ⊎ Memᴰ number (20 ∷ 21 ∷ [])

-- what it takes to be built
pub record Buildable (mode : Mode) (s b : List ℕ) (k : Lengths) : Type 0 where
  pub image : Reads (image_at s)
  pub bundle : Reads (bundle_at b)
  pub lent : is_too_short (longest_text b) k ≡ false
  pub sound : Sound mode (text_of b) (plain_at s) 1024 8192

-- ---- zeros

-- a lent slice d is as long as it was, and every word of it is 0 at exit
abbrev pub Zeroed : (d e : List ℕ) → Type 0
Zeroed d e = e ≡ Padded.zeros (length d)

-- what a graph's call was lent: node table, edge table, value store, import table, include table, levels
pub record ZeroedGraph (n e d f g l n₁ e₁ d₁ f₁ g₁ l₁ : List ℕ) : Type 0 where
  pub nodes : Zeroed n n₁
  pub edges : Zeroed e e₁
  pub store : Zeroed d d₁
  pub imports : Zeroed f f₁
  pub includes : Zeroed g g₁
  pub levels : Zeroed l l₁

-- of the functions, and of a host's calls, in each mode
pub record Zeros : Type 0 where
  -- d, t, u, p: store, import table, include table and page at entry, of any length; e, f, g, q: at exit
  pub dependencies : (whole : Bool) (s : List ℕ) (short : Bool) (d t u : List ℕ) {r : Refusal} {e f g : List ℕ}
      → Extracts whole s short d t u (Err r) e f g
      → Zeroed d e × Zeroed t f × Zeroed u g
  pub printed : (whole : Bool) (s d t u p : List ℕ) {x : Page} {r : Refusal} {e f g q : List ℕ} → Prints whole s d t u p x e f g q → x.parsed ≡ Err r
      → (x.length ≡ 0) × Zeroed d e × Zeroed t f × Zeroed u g × Zeroed p q
  pub metadata : (whole : Bool) (s d : List ℕ) {x : YangModuleMetadata} {e : List ℕ} → MetadataPromises.Extracts whole s d x e → (x.answer.number ≡ 0 → ⊥)
      → (x.values ≡ Metadata.no_values) × (x.used ≡ 0) × Zeroed d e
  pub graph : (mode : Mode) (s b n e d f g l : List ℕ) {number entry place : ℕ} {a : Refusal} {n₁ e₁ d₁ f₁ g₁ l₁ : List ℕ}
      → Graphs mode s b n e d f g l (Err (record { number = number; entry = entry; scan = a; place = place })) n₁ e₁ d₁ f₁ g₁ l₁ → ZeroedGraph n e d f g l n₁ e₁ d₁ f₁ g₁ l₁
  -- the same of a host's calls: i is the number returned, a the answer, w the record. Behind the words that tell the refusal the answer is 0 too
  pub host_dependencies : (whole : Bool) (s d t u : List ℕ) {i : ℕ} {e f g a : List ℕ} → DependenciesAnswered whole s d t u i e f g a → (i ≡ 0 → ⊥)
      → Zeroed d e × Zeroed t f × Zeroed u g × (drop 3 a ≡ Padded.zeros 3)
  pub host_printed : (whole : Bool) (s d t u p : List ℕ) {i : ℕ} {e f g q a : List ℕ} → PrintedAnswered whole s d t u p i e f g q a → (i ≡ 0 → ⊥)
      → Zeroed d e × Zeroed t f × Zeroed u g × Zeroed p q × (drop 3 a ≡ Padded.zeros 4)
  pub host_metadata : (whole : Bool) (s d : List ℕ) {i : ℕ} {e w a : List ℕ} → MetadataAnswered whole s d i e w a → (i ≡ 0 → ⊥)
      → Zeroed d e × (w ≡ Padded.zeros 18) × (drop 3 a ≡ Padded.zeros 1)
  pub host_graph : (mode : Mode) (s b n e d f g l : List ℕ) {i : ℕ} {n₁ e₁ d₁ f₁ g₁ l₁ a : List ℕ}
      → GraphAnswered mode s b n e d f g l i n₁ e₁ d₁ f₁ g₁ l₁ a → (i ≡ 0 → ⊥) → ZeroedGraph n e d f g l n₁ e₁ d₁ f₁ g₁ l₁ × (drop 6 a ≡ Padded.zeros 2)

-- ---- the demand

pub record Demand1 : Type 0 where
  -- extract_yang_dependencies, print_yang_dependencies; extract_yang_metadata, in each mode: 11 is given in the whole-text mode only
  pub dependencies : (whole : Bool) (s : List ℕ) (short : Bool) (r : Refusal) (d : Dependencies.Dependencies)
      → Dependencies.dependencies whole s short ≡ Dependencies.bad r d → RefusedAs (ModeRefusal whole DependenciesRefusal s) s short r
  pub metadata : (whole : Bool) (s : List ℕ) (short : Bool) (r : Refusal) (bs : List ℕ)
      → Metadata.metadata whole s short ≡ Metadata.bad r bs → RefusedAs (ModeRefusal whole MetadataRefusal s) s short r
  -- and 1, 2 and 12 are given whenever they are due
  pub first_refused : (whole : Bool) (s : List ℕ) (short : Bool) (r : Refusal) → FirstRefusal s short r
      → (Dependencies.dependencies whole s short ≡ Dependencies.bad r Dependencies.none) × (Metadata.metadata whole s short ≡ Metadata.bad r [])
  -- the finds: 20 exactly if the image is wrong there; the text under a name: 21 exactly if the bundle is
  pub module_found : (s t : List ℕ) (p : ℕ) → (find_module s t ≡ Err p) ↔ (image_at s ≡ bad p)
  pub submodule_found : (s t : List ℕ) (p : ℕ) → (find_submodule s t ≡ Err p) ↔ (image_at s ≡ bad p)
  pub import_found : (s t : List ℕ) (p : ℕ) → (find_import_module s t ≡ Err p) ↔ (image_at s ≡ bad p)
  pub text_found : (s t : List ℕ) (p : ℕ) → (look_up s t ≡ Err p) ↔ (bundle_at s ≡ bad p)
  -- to_graph, in each mode
  pub graph_refused : (mode : Mode) (s b : List ℕ) (k : Lengths) (number entry place : ℕ) (a : Refusal)
      → (graphed mode s b k).answer ≡ Err (record { number = number; entry = entry; scan = a; place = place }) → GraphCause mode s b k number entry a place × GraphNumbers number entry a place
  -- 25 carries the answer of the scan of a text in the bundle, in the old mode: so it is never 11
  pub scan_carried : (mode : Mode) (s b : List ℕ) (k : Lengths) (entry place : ℕ) (a : Refusal) → (graphed mode s b k).answer ≡ Err (record { number = 25; entry = entry; scan = a; place = place })
      → (v : Name) × (d : Dependencies.Dependencies) × (Dependencies.dependencies false (text_under b v) false ≡ Dependencies.bad a d)
  pub graph_built : (mode : Mode) (s b : List ℕ) (k : Lengths) → ((n : ℕ) × (m : ℕ) × ((graphed mode s b k).answer ≡ Ok (n, m))) ↔ Buildable mode s b k
  -- nuvaleta_graph_complete never answers 28: i is the number returned, a the answer
  pub has_node : (s b n e d f g l : List ℕ) {i : ℕ} {n₁ e₁ d₁ f₁ g₁ l₁ a : List ℕ}
      → GraphAnswered complete s b n e d f g l i n₁ e₁ d₁ f₁ g₁ l₁ a → (i ≡ 28 → ⊥) × (get_or a 0 0 ≡ 28 → ⊥)
  -- every refusal leaves zeros
  pub zeros : Zeros
