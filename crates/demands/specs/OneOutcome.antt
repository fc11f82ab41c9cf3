-- A promise allows one outcome only: any two that it allows are equal, in what is returned and in every word that is left, on refusals too. A promise that is
-- an equation has it by `equal`; one that speaks of a view of the answer by `viewed`, since no view loses anything (`Views`); one that is a record of
-- equations has a field of `OneOutcome`. docs/PROMISES.md says for every public function which of these it is.
-- Assumes nothing.
use Rattle.std.specs.Prelude.{ℕ, ◌≡◌, Bool, List, length, Result}
use Rattle.text.specs.declared.Cursor.{Cursor}
use Rattle.library_form.specs.Form.{number_seen, name_seen}
use Rattle.library_image.specs.Image.{image_broken}
use Rattle.library_lists.specs.Lists.{read_seen}
use Rattle.library_find.specs.Find.{find_module, find_submodule, find_import_module}
use Rattle.library_bundle.specs.Bundle.{bundle_broken, looked, look_up}
use Rattle.graph.specs.Nodes.{Mode}
use Rattle.graph.specs.declared.NodeIndex.{NodeIndex}
use Rattle.graph_marks.specs.Marks.{resolved_code, included_code}
use Rattle.graph_tables.specs.Tables.{Named}
use Rattle.yangparser.specs.Promises as Dependencies
use Rattle.yangparser.specs.declared.Rows.{Rows}
use Rattle.scan_line.specs.Wrote.{Wrote}
use Rattle.scan_page.specs.Page.{Prints}
use Rattle.scan_page.specs.declared.Page.{Page}
use Rattle.scan_metadata.specs.Promises as Metadata
use Rattle.scan_metadata.specs.declared.YangModuleMetadata.{YangModuleMetadata}
use Rattle.nuvaleta.specs.Host.{DependenciesAnswered, PrintedAnswered}
use Rattle.nuvaleta.specs.Record.{MetadataAnswered}
use Rattle.host_words.specs.Words.{told_words}
use Rattle.nuvaleta.specs.Finds.{Told}
use Rattle.nuvaleta.specs.Graphs.{GraphAnswered}
use Rattle.yanglib.specs.ToGraph.{Graphs}
use Rattle.graph_tables.specs.Lengths.{lengths_of}
use Rattle.graph_build.specs.declared.GraphRefusal.{GraphRefusal}
use Rattle.order.specs.declared.Ordered.{Ordered}
use Rattle.order.specs.Order.{Orders}
use Rattle.nuvaleta.specs.Orders.{OrderAnswered, CheckAnswered}
use Rattle.text.specs.declared.Refusal.{Refusal}

-- ---- equations

-- two answers that a view shows alike are equal
abbrev pub LosesNothing : {A B : Type 0} → (view : A → B) → Type 0
LosesNothing {A} view = (r r' : A) → view r ≡ view r' → r ≡ r'

pub record Views : Type 0 where
  -- ImageCursor::number and read_count; ImageCursor::name; read_names, read_rest and read_image
  pub number : LosesNothing number_seen
  pub name : (s : List ℕ) → LosesNothing (name_seen s)
  pub read : LosesNothing read_seen
  -- library_bundle::find
  pub place : LosesNothing looked
  -- find_known; find_included; node_of and node_at
  pub known : LosesNothing resolved_code
  pub included : LosesNothing included_code
  pub node : LosesNothing (λ (v : NodeIndex). v.0)
  -- skip_whitespace_and_comments
  pub cursor : LosesNothing (λ (c : Cursor). c.at)

-- ---- all promises; of what is lent to an entry or to a host's call only the lengths enter: equal lengths, equal outcomes. What scan_over and the inner
-- writers leave depends on what was there too

-- d, t, u, p: store, tables and page at entry; e, f, g, q: at exit; the second outcome has an accent
pub record OneOutcome : Type 1 where
  -- what is returned, or left in a buffer, is x
  pub equal : {A : Type 0} {x r r' : A} → r ≡ x → r' ≡ x → r ≡ r'
  pub viewed : {A B : Type 0} (view : A → B) → LosesNothing view → {x : B} {r r' : A} → view r ≡ x → view r' ≡ x → r ≡ r'
  pub views : Views
  -- scan_lent, and with nothing else too short extract_yang_dependencies; whole: the mode
  pub dependencies : (whole : Bool) (s : List ℕ) (short : Bool) (d t u d' t' u' : List ℕ) → length d ≡ length d' → length t ≡ length t' → length u ≡ length u'
      → {r r' : Result Rows Refusal} {e f g e' f' g' : List ℕ} → Dependencies.Extracts whole s short d t u r e f g → Dependencies.Extracts whole s short d' t' u' r' e' f' g'
      → (r ≡ r') × (e ≡ e') × (f ≡ f') × (g ≡ g')
  -- scan_over, which clears nothing: what it leaves depends on what was there
  pub over : (whole : Bool) (s : List ℕ) (short : Bool) (d t u : List ℕ) {r r' : Result Rows Refusal} {e f g e' f' g' : List ℕ}
      → Dependencies.Scans whole s short d t u r e f g → Dependencies.Scans whole s short d t u r' e' f' g' → (r ≡ r') × (e ≡ e') × (f ≡ f') × (g ≡ g')
  -- put and put_number; d: the page at entry, bs: the bytes that are written from a place on
  pub wrote : (d : List ℕ) (at : ℕ) (bs : List ℕ) {e e' : List ℕ} {r r' : ℕ} → Wrote d at bs e r → Wrote d at bs e' r' → (e ≡ e') × (r ≡ r')
  -- print_yang_dependencies
  pub printed : (whole : Bool) (s d t u p d' t' u' p' : List ℕ) → length d ≡ length d' → length t ≡ length t' → length u ≡ length u' → length p ≡ length p'
      → {r r' : Page} {e f g q e' f' g' q' : List ℕ} → Prints whole s d t u p r e f g q → Prints whole s d' t' u' p' r' e' f' g' q'
      → (r.parsed ≡ r'.parsed) × (r.length ≡ r'.length) × (e ≡ e') × (f ≡ f') × (g ≡ g') × (q ≡ q')
  -- extract_yang_metadata
  pub metadata : (whole : Bool) (s d d' : List ℕ) → length d ≡ length d'
      → {r r' : YangModuleMetadata} {e e' : List ℕ} → Metadata.Extracts whole s d r e → Metadata.Extracts whole s d' r' e' → (r ≡ r') × (e ≡ e')
  -- nuvaleta_dependencies, nuvaleta_printed, nuvaleta_metadata, and in the whole-text mode nuvaleta_dependencies_whole, nuvaleta_printed_whole,
  -- nuvaleta_metadata_whole; n: the number returned, a: the answer, w: the record
  pub host_dependencies : (whole : Bool) (s d t u d' t' u' : List ℕ) → length d ≡ length d' → length t ≡ length t' → length u ≡ length u'
      → {n n' : ℕ} {e f g a e' f' g' a' : List ℕ} → DependenciesAnswered whole s d t u n e f g a → DependenciesAnswered whole s d' t' u' n' e' f' g' a'
      → (n ≡ n') × (e ≡ e') × (f ≡ f') × (g ≡ g') × (a ≡ a')
  pub host_printed : (whole : Bool) (s d t u p d' t' u' p' : List ℕ) → length d ≡ length d' → length t ≡ length t' → length u ≡ length u' → length p ≡ length p'
      → {n n' : ℕ} {e f g q a e' f' g' q' a' : List ℕ} → PrintedAnswered whole s d t u p n e f g q a → PrintedAnswered whole s d' t' u' p' n' e' f' g' q' a'
      → (n ≡ n') × (e ≡ e') × (f ≡ f') × (g ≡ g') × (q ≡ q') × (a ≡ a')
  pub host_metadata : (whole : Bool) (s d d' : List ℕ) → length d ≡ length d'
      → {n n' : ℕ} {e w a e' w' a' : List ℕ} → MetadataAnswered whole s d n e w a → MetadataAnswered whole s d' n' e' w' a' → (n ≡ n') × (e ≡ e') × (w ≡ w')
      × (a ≡ a')
  -- nuvaleta_find_module, nuvaleta_find_submodule, nuvaleta_find_import_module, nuvaleta_text
  pub host_module : (s t : List ℕ) {n n' : ℕ} {a a' : List ℕ} → let w = told_words image_broken (find_module s t) in
      Told w n a → Told w n' a' → (n ≡ n') × (a ≡ a')
  pub host_submodule : (s t : List ℕ) {n n' : ℕ} {a a' : List ℕ} → let w = told_words image_broken (find_submodule s t) in
      Told w n a → Told w n' a' → (n ≡ n') × (a ≡ a')
  pub host_import : (s t : List ℕ) {n n' : ℕ} {a a' : List ℕ} → let w = told_words image_broken (find_import_module s t) in
      Told w n a → Told w n' a' → (n ≡ n') × (a ≡ a')
  pub host_text : (s t : List ℕ) {n n' : ℕ} {a a' : List ℕ} → let w = told_words bundle_broken (look_up s t) in Told w n a → Told w n' a' → (n ≡ n') × (a ≡ a')
  -- put_nodes; x: index table, n: names in it, t: node table
  pub put : (x : List ℕ) (n : ℕ) (t t' : List ℕ) → length t ≡ length t' → {y y' : List ℕ} → Named x n t y → Named x n t' y' → y ≡ y'
  -- to_graph; nuvaleta_graph and nuvaleta_graph_complete; s: image, b: bundle; x₁ to x₆: node table, edge table, value store, import table, include table,
  -- levels; y: at exit
  pub graph : (mode : Mode) (s b x₁ x₂ x₃ x₄ x₅ x₆ x₁' x₂' x₃' x₄' x₅' x₆' : List ℕ) → lengths_of x₁ x₂ x₃ x₄ x₅ x₆ ≡ lengths_of x₁' x₂' x₃' x₄' x₅' x₆'
      → {r r' : Result (ℕ × ℕ) GraphRefusal} {y₁ y₂ y₃ y₄ y₅ y₆ y₁' y₂' y₃' y₄' y₅' y₆' : List ℕ}
      → Graphs mode s b x₁ x₂ x₃ x₄ x₅ x₆ r y₁ y₂ y₃ y₄ y₅ y₆ → Graphs mode s b x₁' x₂' x₃' x₄' x₅' x₆' r' y₁' y₂' y₃' y₄' y₅' y₆'
      → (r ≡ r') × (y₁ ≡ y₁') × (y₂ ≡ y₂') × (y₃ ≡ y₃') × (y₄ ≡ y₄') × (y₅ ≡ y₅') × (y₆ ≡ y₆')
  pub host_graph : (mode : Mode) (s b x₁ x₂ x₃ x₄ x₅ x₆ x₁' x₂' x₃' x₄' x₅' x₆' : List ℕ) → lengths_of x₁ x₂ x₃ x₄ x₅ x₆ ≡ lengths_of x₁' x₂' x₃' x₄' x₅' x₆'
      → {n n' : ℕ} {y₁ y₂ y₃ y₄ y₅ y₆ a y₁' y₂' y₃' y₄' y₅' y₆' a' : List ℕ}
      → GraphAnswered mode s b x₁ x₂ x₃ x₄ x₅ x₆ n y₁ y₂ y₃ y₄ y₅ y₆ a → GraphAnswered mode s b x₁' x₂' x₃' x₄' x₅' x₆' n' y₁' y₂' y₃' y₄' y₅' y₆' a'
      → (n ≡ n') × (y₁ ≡ y₁') × (y₂ ≡ y₂') × (y₃ ≡ y₃') × (y₄ ≡ y₄') × (y₅ ≡ y₅') × (y₆ ≡ y₆') × (a ≡ a')
  -- order and nuvaleta_order; x: node table, w: edge table, t: order table
  pub order : (x : List ℕ) (i : ℕ) (w : List ℕ) (j : ℕ) (t t' : List ℕ) → length t ≡ length t' → {r r' : Ordered} {y y' : List ℕ}
      → Orders x i w j t r y → Orders x i w j t' r' y' → (r ≡ r') × (y ≡ y')
  pub host_order : (x : List ℕ) (i : ℕ) (w : List ℕ) (j : ℕ) (t t' : List ℕ) → length t ≡ length t' → {n n' : ℕ} {y a y' a' : List ℕ}
      → OrderAnswered x i w j t n y a → OrderAnswered x i w j t' n' y' a' → (n ≡ n') × (y ≡ y') × (a ≡ a')
  -- nuvaleta_order_check; l: the list
  pub host_check : (x : List ℕ) (i : ℕ) (w : List ℕ) (j : ℕ) (l : List ℕ) {n n' : ℕ} {a a' : List ℕ} → CheckAnswered x i w j l n a
      → CheckAnswered x i w j l n' a' → (n ≡ n') × (a ≡ a')
