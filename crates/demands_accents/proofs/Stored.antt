-- All that a scan stores of valid UTF-8 is valid UTF-8, also the values that later ones take the place of: it is values one behind the other.
-- Assumes nothing.
use Rattle.std.specs.Prelude.{Ok, Err, Some, None, Result, Option}
use mathlib.Core.Bool.{Bool, cond}
use mathlib.Core.List.{List, ◌++◌}
use Prim.Native.Nat.{ℕ, suc, ◌+◌}
use lib.Dec.{eqb, leb}
use lib.ListN.{length}
use Rattle.text.specs.Bytes.{look}
use Rattle.text.specs.Scan.{gap_end}
use Rattle.text.proofs.Here.{by_test}
use Rattle.text_value.specs.Value.{value_at, value_bytes}
use Rattle.text_value.specs.Argument.{argument_at, line_at}
use Rattle.scan_block.specs.Block.{line_kind, after_kind, inside_here, inside_at, Stored, after_inside, block_turn, block_from, block_at}
use Rattle.scan_block.specs.Left.{Left}
use Rattle.scan_block.specs.declared.Body.{Body}
use Rattle.scan_block.specs.declared.Inside.{Inside}
use Rattle.scan_block.specs.declared.Inside.TheVariants.{On, Closed}
use Rattle.scan_imports.specs.Statement.{with_name, after_name, import_at, block_of, open_or_plain, after_value, include_at}
use Rattle.scan_head.specs.Head.{head_at}
use Rattle.scan_head.specs.declared.Head.{Head}
use Rattle.scan_head.specs.declared.Head.TheVariants.{Import, Include, Last, Other as Token}
use Rattle.yangparser.specs.Dependencies.{Dependencies, joined, import_step, include_step, unless_full, import_here, include_here, head_step, step_here, step_at}
use Rattle.yangparser.specs.Dependencies.{Scanning, Scan, good, after_step, scan_turn, scan_from, scanned, none, Step, read_of}
use Rattle.yangparser.specs.declared.Sofar.{Sofar}
use Rattle.text.specs.Words.{belongs_to_keyword, namespace_keyword, prefix_keyword, revision_keyword, yang_version_keyword}
use Rattle.scan_rows.specs.declared.Span.{Span}
use Rattle.scan_tag.specs.Tag.{tag_at}
use Rattle.scan_tag.specs.declared.Tag.{Tag}
use Rattle.scan_tag.specs.declared.Tag.TheVariants.{Statement, Last as Final, Other as Unnamed}
use Rattle.scan_header.specs.Header.{Said, field_at, later_prefix, statement_said, tag_said, said_here, said_at}
use Rattle.scan_header.specs.declared.Heard.{Heard}
use Rattle.scan_header.specs.declared.Heard.TheVariants.{Value, Passed, Done}
use Rattle.scan_metadata.specs.Metadata as Metadata
use Rattle.scan_metadata.specs.Metadata.{Metadata, told}
use Rattle.demands_accents.proofs.Chars as C
use Rattle.demands_accents.proofs.Chars.{Chars}
use Rattle.demands_accents.proofs.Kept.{Keeps, turns_kept}
use Rattle.demands_accents.proofs.Values.{append_chars, value_chars}
use Rattle.text.specs.declared.Cursor.{Cursor}
use Rattle.scan_rows.specs.declared.YangImport.{YangImport}
use Rattle.scan_rows.specs.declared.YangInclude.{YangInclude}
use Rattle.text.specs.declared.Refusal.{Refusal}

-- ---- a test leaves characters either way

test_chars : {A : Type 0} (bytes : A → List ℕ) (t : Bool) (x y : A) → Chars (bytes x) → Chars (bytes y) → Chars (bytes (cond t x y))
test_chars bytes t x y p q = by_test t (λ e. rw e p) (λ e. rw e q)

module _ (whole : Bool) {s : List ℕ} (c : Chars s) where
  -- ---- a block

  abbrev AllStored : Stored → Type 0
  AllStored g = Chars g.bytes

  abbrev AllLeft : {A : Type 0} → Left A → Type 0
  AllLeft x = Chars x.bytes

  kind_chars : (at : ℕ) (b : Body) (l : Option (ℕ × Cursor)) → AllLeft (after_kind whole s at b l)
  unfolding after_kind
  kind_chars at b (Some (j, n)) = value_chars c n.at
  kind_chars at b None = C.none

  inside_chars : (k : ℕ) (b : Body) → AllLeft (inside_at whole s k b)
  unfolding inside_at inside_here
  inside_chars k b =
      let at = gap_end s b.at in
      test_chars (λ (x : Left (Result Inside Refusal)). x.bytes) (eqb (look s at) 256) _ _ C.none
      (test_chars (λ (x : Left (Result Inside Refusal)). x.bytes) (eqb (look s at) 125) _ _ C.none (kind_chars at b (line_kind s at k)))

  after_chars : (bs : List ℕ) → Chars bs → (x : Result Inside Refusal) → Keeps AllStored AllLeft (after_inside bs x)
  unfolding after_inside
  after_chars bs k (Ok (On b)) = k
  after_chars bs k (Ok (Closed b)) = k
  after_chars bs k (Err r) = k

  block_chars : (at u k : ℕ) → AllLeft (block_at whole s at u k)
  unfolding block_at block_from block_turn
  block_chars at u k =
      turns_kept AllStored AllLeft (block_turn whole s k) _ C.none
      (λ g p. after_chars (g.bytes ++ (inside_at whole s k g.body).bytes) (append_chars p (inside_chars k g.body)) _)
      (suc (length s)) _ C.none

  -- ---- an import, an include

  import_chars : (at u : ℕ) → AllLeft (import_at whole s at u)
  unfolding import_at after_name with_name
  import_chars at u = of (line_at whole s at u 8 123)
    where
      of : (x : Result (Cursor × ℕ) Refusal) → AllLeft (after_name whole s u (value_bytes (value_at s at)) x)
      of (Ok (n, m)) = append_chars (value_chars c at) (block_chars n.at m 8)
      of (Err r) = value_chars c at

  include_chars : (at u : ℕ) → AllLeft (include_at whole s at u)
  unfolding include_at after_value open_or_plain block_of
  include_chars at u = of (argument_at whole s at u 9)
    where
      of : (x : Result (Cursor × ℕ) Refusal) → AllLeft (after_value whole s u (value_bytes (value_at s at)) x)
      of (Ok (n, m)) =
          test_chars (λ (x : Left (Result (Cursor × ℕ × YangInclude) Refusal)). x.bytes) (eqb (look s (gap_end s n.at)) 123) _ _
          (append_chars (value_chars c at) (block_chars (gap_end s n.at + 1) m 9)) (value_chars c at)
      of (Err r) = value_chars c at

  -- ---- dependencies

  abbrev AllScanning : Scanning → Type 0
  AllScanning g = Chars g.read.bytes

  abbrev AllRead : Scan → Type 0
  AllRead x = Chars (read_of x).bytes

  abbrev AllAdded : Step → Type 0
  AllAdded x = Chars x.adds.bytes

  import_adds : (far : Sofar) (bs : List ℕ) → Chars bs → (x : Result (Cursor × ℕ × YangImport) Refusal) → AllAdded (import_step far bs x)
  unfolding import_step
  import_adds far bs k (Ok (n, m, i)) = k
  import_adds far bs k (Err r) = k

  include_adds : (far : Sofar) (bs : List ℕ) → Chars bs → (x : Result (Cursor × ℕ × YangInclude) Refusal) → AllAdded (include_step far bs x)
  unfolding include_step
  include_adds far bs k (Ok (n, m, i)) = k
  include_adds far bs k (Err r) = k

  head_chars : (far : Sofar) (at : ℕ) (h : Head) → AllAdded (head_step whole s far at h)
  unfolding head_step import_here include_here unless_full
  head_chars far at (Import n) =
      test_chars (λ (x : Step). x.adds.bytes) (leb 256 far.imports) _ _ C.none (import_adds far _ (import_chars n.at far.used) _)
  head_chars far at (Include n) =
      test_chars (λ (x : Step). x.adds.bytes) (leb 256 far.includes) _ _ C.none (include_adds far _ (include_chars n.at far.used) _)
  head_chars far at (Last n) = C.none
  head_chars far at Token = C.none

  step_chars : (far : Sofar) → AllAdded (step_at whole s far)
  unfolding step_at step_here
  step_chars far =
      let at = gap_end s far.at in
      test_chars (λ (x : Step). x.adds.bytes) (leb (length s) at) _ _ C.none (head_chars far at (head_at s at))

  next_chars : (d : Dependencies) → Chars d.bytes → (x : Result (Option Sofar) Refusal) → Keeps AllScanning AllRead (after_step d x)
  unfolding after_step read_of
  next_chars d k (Ok (Some far)) = k
  next_chars d k (Ok None) = k
  next_chars d k (Err r) = k

  pub scan_chars : AllRead (scanned whole s)
  unfolding scanned scan_from scan_turn joined read_of
  scan_chars =
      turns_kept AllScanning AllRead (scan_turn whole s) (good none) C.none
      (λ g p. next_chars (joined g.read (step_at whole s g.far).adds) (append_chars p (step_chars g.far)) _)
      (suc (length s)) _ C.none

  -- ---- metadata

  abbrev AllReading : Metadata.Reading → Type 0
  AllReading g = Chars g.read.bytes

  abbrev AllKept : Metadata.Scan → Type 0
  AllKept x = Chars (Metadata.stored_of x)

  abbrev AllSaid : Said → Type 0
  AllSaid x = Chars x.bytes

  tag_chars : (at u : ℕ) (y : Bool) (t : Tag) → AllSaid (tag_said whole s at u y t)
  unfolding tag_said statement_said field_at
  tag_chars at u y (Statement k n) =
      test_chars (λ (x : Said). x.bytes) (eqb k yang_version_keyword) _ _ C.none
      (test_chars (λ (x : Said). x.bytes) (later_prefix k y) _ _ C.none (value_chars c n.at))
  tag_chars at u y (Final n) = C.none
  tag_chars at u y Unnamed = C.none

  said_chars : (at u : ℕ) (y : Bool) → AllSaid (said_at whole s at u y)
  unfolding said_at said_here
  said_chars at u y =
      let g = gap_end s at in
      test_chars (λ (x : Said). x.bytes) (leb (length s) g) _ _ C.none (tag_chars g u y (tag_at s g))

  told_chars : (m : Metadata) (k : ℕ) (x : Span) (bs : List ℕ) → Chars (m.bytes ++ bs) → Chars (told m k x bs).bytes
  unfolding told
  told_chars m k x bs l =
      test_chars (λ (z : Metadata). z.bytes) (eqb k revision_keyword) _ _ l
      (test_chars (λ (z : Metadata). z.bytes) (eqb k belongs_to_keyword) _ _ l
      (test_chars (λ (z : Metadata). z.bytes) (eqb k namespace_keyword) _ _ l (test_chars (λ (z : Metadata). z.bytes) (eqb k prefix_keyword) _ _ l l)))

  heard_chars : (m : Metadata) (bs : List ℕ) → Chars m.bytes → Chars bs → (h : Result Heard Refusal) → Keeps AllReading AllKept (Metadata.after_heard m bs h)
  unfolding Metadata.after_heard Metadata.ended Metadata.stored_of
  heard_chars m bs k l (Ok (Value j x n u)) = told_chars m j x bs (append_chars k l)
  heard_chars m bs k l (Ok (Passed n)) = k
  heard_chars m bs k l (Ok (Done n)) = test_chars Metadata.stored_of m.name.present _ _ k k
  heard_chars m bs k l (Err r) = append_chars k l

  pub metadata_chars : AllKept (Metadata.scanned whole s)
  unfolding Metadata.scanned Metadata.scan_from Metadata.metadata_turn Metadata.stored_of
  metadata_chars =
      turns_kept AllReading AllKept (Metadata.metadata_turn whole s) (Metadata.good Metadata.nothing) C.none
      (λ g p. heard_chars g.read _ p (said_chars g.at (length g.read.bytes) g.read.prefix.present) _)
      (suc (length s)) _ C.none
