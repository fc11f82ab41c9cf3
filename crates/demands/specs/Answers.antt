-- The answers of inner functions in document 01's numbers. Where the answer is an enum, a definition gives the number of every case: `lent_refusal`,
-- `import_refusal`, `include_refusal` and `heard_refusal` with keyword and position, `read_number`, `nodes_number`, and of a find or look-up `told_words`. Here
-- stands which number is given when: 0 exactly where nothing is refused, else the number of a refusal that can come.
-- Assumes nothing.
use Rattle.std.specs.Prelude.{ℕ, ◌≤◌, ◌<◌, ◌≡◌, Bool, ◌↔◌, List, length, get_or, Err, Result, Option}
use Rattle.text.specs.Refusal.{no_refusal}
use Rattle.text.specs.declared.Refusal.{Refusal}
use Rattle.text_lent.specs.Lent.{lent_at, lent_refusal}
use Rattle.scan_imports.specs.Statement.{import_at, import_refusal, include_at, include_refusal}
use Rattle.scan_header.specs.Header.{said_at, heard_refusal}
use Rattle.library_form.specs.Form.{bad}
use Rattle.library_image.specs.Image.{image_at}
use Rattle.library_lists.specs.Lists.{done, read_seen}
use Rattle.library_read.specs.Reading.{read_number}
use Rattle.library_items.specs.Table.{Reads}
use Rattle.graph.specs.Limits.{most_nodes}
use Rattle.graph.specs.Nodes.{Mode}
use Rattle.graph_nodes.specs.Adding.{words_at, Constructed, nodes_number}
use Rattle.host_words.specs.Words.{told_words}
use Rattle.demands_scans.specs.Refusals.{FirstRefusal, StatementRefusal, HeaderRefusal, ModeRefusal}

-- x: an answer; `No r`: the case of the refusal r; refusal: the definition that gives every case its refusal; Due: which refusals can come
pub record Refuses {A : Type 0} (No : Refusal → A) (refusal : A → Refusal) (Due : Refusal → Type 0) (x : A) : Type 0 where
  -- a refusal is one that can come, and the definition gives it
  pub due : (r : Refusal) → x ≡ No r → Due r × (refusal x ≡ r)
  -- the number is 0 exactly in the other cases, and then so are keyword and position
  pub zero : ((refusal x).number ≡ 0) ↔ ((r : Refusal) → x ≡ No r → ⊥)
  pub none : (refusal x).number ≡ 0 → refusal x ≡ no_refusal

pub record Answers : Type 0 where
  -- check_lent: 1 to 3, and each whenever it is due
  pub lent : (s : List ℕ) (short : Bool) → Refuses Err lent_refusal (FirstRefusal s short) (lent_at s short)
  pub lent_due : (s : List ℕ) (short : Bool) (r : Refusal) → FirstRefusal s short r → lent_at s short ≡ Err r
  -- parse_import, parse_include and hear, in each mode
  pub import : (whole : Bool) (s : List ℕ) (at used : ℕ)
      → Refuses Err import_refusal (ModeRefusal whole (StatementRefusal 8) s) (import_at whole s at used).answer
  pub include : (whole : Bool) (s : List ℕ) (at used : ℕ)
      → Refuses Err include_refusal (ModeRefusal whole (StatementRefusal 9) s) (include_at whole s at used).answer
  pub heard : (whole : Bool) (s : List ℕ) (at used : ℕ) (prefixed : Bool)
      → Refuses Err heard_refusal (ModeRefusal whole HeaderRefusal s) (said_at whole s at used prefixed).answer
  -- read_image: 0 exactly if the image has its form, 20 exactly if it is wrong somewhere
  pub read : (s : List ℕ) (r : Result ℕ ℕ) → read_seen r ≡ done (image_at s) → (read_number r ≡ 0) ↔ Reads (image_at s)
  pub read_wrong : (s : List ℕ) (r : Result ℕ ℕ) → read_seen r ≡ done (image_at s) → (read_number r ≡ 20) ↔ ((p : ℕ) × (image_at s ≡ bad p))
  -- construct_nodes: 0 exactly if there are few enough names, 30 exactly if there are too many
  pub nodes : (mode : Mode) (s tab : List ℕ) {r : Option ℕ} {after : List ℕ} → Constructed mode s tab r after
      → (nodes_number r ≡ 0) ↔ (length (words_at mode s) ≤ most_nodes)
  pub nodes_many : (mode : Mode) (s tab : List ℕ) {r : Option ℕ} {after : List ℕ} → Constructed mode s tab r after
      → (nodes_number r ≡ 30) ↔ (most_nodes < length (words_at mode s))
  -- the first word of a find or look-up is its number: of what is broken it is `number`, 20 of an image and 21 of a bundle, and else 0
  pub told : (number : ℕ) (x : Result (Option (ℕ × ℕ)) ℕ) → 0 < number → (get_or (told_words number x) 0 0 ≡ 0) ↔ ((p : ℕ) → x ≡ Err p → ⊥)
  pub told_broken : (number p : ℕ) → get_or (told_words number (Err p)) 0 0 ≡ number
