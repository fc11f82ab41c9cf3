-- The rows of the dependency scan: each is added where its keyword stands, with its values behind it; what is stored later changes nothing of that.
-- Assumes nothing.
use Rattle.std.specs.Prelude.{Some, None, Ok, Err, Option, Result}
use Prim.Native.Nat.{ℕ, suc, ◌+◌}
use mathlib.Core.Path.{◌≡◌, refl, subst, ◌∙◌}
use mathlib.Core.Bool.{false}
use mathlib.Core.List.{List, ◌++◌}
use native.Mathlib.Omega.{arith}
use lib.Dec.{leb}
use lib.ListN.{length}
use Rattle.text.specs.Keyword.{match_at}
use Rattle.text.specs.Scan.{gap_end}
use Rattle.text.specs.Turns.{stop, on}
use Rattle.text.specs.Words.{import_word, include_word, revision_date_word}
use Rattle.text.specs.declared.Cursor.{Cursor}
use Rattle.text.proofs.Here.{by_test}
use Rattle.scan_rows.specs.declared.Span.{Span}
use Rattle.scan_rows.specs.declared.YangImport.{YangImport}
use Rattle.scan_rows.specs.declared.YangInclude.{YangInclude}
use Rattle.scan_head.specs.Head.{last_at, or_head, head_at}
use Rattle.scan_head.specs.declared.Head.{Head}
use Rattle.scan_head.specs.declared.Head.TheVariants.{Import, Include, Last, Other}
use Rattle.scan_imports.specs.Statement.{import_at, include_at}
use Rattle.yangparser.specs.Dependencies.{Dependencies, none, joined, Step, import_step, include_step, unless_full, import_here, include_here, head_step, step_here}
use Rattle.yangparser.specs.Dependencies.{step_at, Scanning, Scan, good, bad, after_step, scan_turn, scan_from, start, scanned}
use Rattle.yangparser.specs.declared.Sofar.{Sofar}
use Rattle.yangparser.proofs.FarLaws.{step_said}
use Rattle.yangparser.proofs.ScanLaws.{Stands, stands_first, stands_step}
use Rattle.demands_values.specs.Behind.{Either, Reaches, first, next, InBlock, NotInBlock, ImportRead, IncludeRead}
use Rattle.demands_values.proofs.BehindLaws.{either_map, behind_more, block_more}
use Rattle.demands_scans.proofs.Loops.{turns_keep}
use Rattle.demands_values.proofs.RowLaws.{EachFrom, from_of, from_append}
use Rattle.demands_values.proofs.StatementValues.{ImportHas, import_has, NoRevision, IncludeHas, include_has}
use Rattle.text.specs.declared.Refusal.{Refusal}

-- ---- which keyword matched

module _ (s : List ℕ) (at : ℕ) where
  abbrev HeadIs : Head → Type 0
  HeadIs (Import c) = match_at s at import_word ≡ Some c
  HeadIs (Include c) = match_at s at include_word ≡ Some c
  HeadIs (Last c) = Unit {0}
  HeadIs Other = Unit {0}

  or_is : (f : Cursor → Head) (m : Option Cursor) (w : Head) → ((c : Cursor) → m ≡ Some c → HeadIs (f c)) → HeadIs w → HeadIs (or_head f m w)
  unfolding or_head
  or_is f (Some c) w k h = k c refl
  or_is f None w k h = h

  head_is : HeadIs (head_at s at)
  unfolding head_at
  head_is =
      or_is Import (match_at s at import_word) _ (λ c e. e)
      (or_is Include (match_at s at include_word) _ (λ c e. e) (or_is Last (last_at s at) Other (λ c e. tt) tt))

-- ---- more bytes behind

module _ (s bytes zs : List ℕ) (k : ℕ) where
  either_more : (No : Type 0) (j end : ℕ) (word : List ℕ) (x : Span) → Either No (InBlock s j end word bytes) x
      → Either No (InBlock s j end word (bytes ++ zs)) x
  either_more No j end word x m = either_map No (InBlock s j end word bytes) (InBlock s j end word (bytes ++ zs)) x (block_more bytes zs) m

  pub import_more : (i : YangImport) → ImportRead s bytes k i → ImportRead s (bytes ++ zs) k i
  import_more i r = record {
    state = r.state;
    reached = r.reached;
    before = r.before;
    name = behind_more bytes zs r.name;
    prefix = block_more bytes zs r.prefix;
    revision = either_more (NotInBlock s 8 r.name.end revision_date_word) 8 r.name.end revision_date_word i.revision_date r.revision;
  }

  pub include_more : (i : YangInclude) → IncludeRead s bytes k i → IncludeRead s (bytes ++ zs) k i
  include_more i r = record {
    state = r.state;
    reached = r.reached;
    before = r.before;
    name = behind_more bytes zs r.name;
    revision = either_more (NoRevision s r.name.end) 9 r.name.end revision_date_word i.revision_date r.revision;
  }

-- ---- a step from the state g

module _ (s : List ℕ) (g : Scanning) (reached : Reaches (scan_turn false s) (record { far = start; read = none }) g)
    (count : g.far.used ≡ length g.read.bytes) where
  abbrev Adds : Dependencies → Type 0
  Adds d =
      EachFrom (ImportRead s (g.read.bytes ++ d.bytes)) g.far.imports d.imports
      × EachFrom (IncludeRead s (g.read.bytes ++ d.bytes)) g.far.includes d.includes

  adds_none : Adds none
  unfolding EachFrom
  adds_none = (tt, tt)

  unless_adds : (rows k at : ℕ) (x : Step) → Adds x.adds → Adds (unless_full rows k at x).adds
  unfolding unless_full
  unless_adds rows k at x h = by_test (leb 256 rows) (λ t. rw t adds_none) (λ t. rw t h)

  import_adds : (bs : List ℕ) (x : Result (Cursor × ℕ × YangImport) Refusal) → ImportHas s (gap_end s g.far.at) (g.read.bytes ++ bs) x → Adds (import_step g.far bs x).adds
  unfolding import_step EachFrom
  import_adds bs (Ok (c, n, i)) h =
      ((record { state = g; reached = reached; before = refl; name = h.0; prefix = h.1; revision = h.2 }, tt), tt)
  import_adds bs (Err r) h = (tt, tt)

  include_adds : (bs : List ℕ) (x : Result (Cursor × ℕ × YangInclude) Refusal) → IncludeHas s (gap_end s g.far.at) (g.read.bytes ++ bs) x → Adds (include_step g.far bs x).adds
  unfolding include_step EachFrom
  include_adds bs (Ok (c, n, i)) h = (tt, (record { state = g; reached = reached; before = refl; name = h.0; revision = h.1 }, tt))
  include_adds bs (Err r) h = (tt, tt)

  head_adds : (w : Head) → HeadIs s (gap_end s g.far.at) w → Adds (head_step false s g.far (gap_end s g.far.at) w).adds
  unfolding head_step import_here include_here
  head_adds (Import c) m =
      let x = import_at false s c.at g.far.used in
      unless_adds g.far.imports 8 c.at (import_step g.far x.bytes x.answer)
      (import_adds x.bytes x.answer (import_has s (gap_end s g.far.at) c m g.far.used g.read.bytes count))
  head_adds (Include c) m =
      let x = include_at false s c.at g.far.used in
      unless_adds g.far.includes 9 c.at (include_step g.far x.bytes x.answer)
      (include_adds x.bytes x.answer (include_has s (gap_end s g.far.at) c m g.far.used g.read.bytes count))
  head_adds (Last c) m = adds_none
  head_adds Other m = adds_none

  step_adds : Adds (step_at false s g.far).adds
  unfolding step_at step_here
  step_adds =
      let p = gap_end s g.far.at in
      by_test (leb (length s) p) (λ t. rw t adds_none) (λ t. rw t (head_adds (head_at s p) (head_is s p)))

-- ---- all of them

pub record Rows (s : List ℕ) (d : Dependencies) : Type 0 where
  pub imports : EachFrom (ImportRead s d.bytes) 0 d.imports
  pub includes : EachFrom (IncludeRead s d.bytes) 0 d.includes

module _ (s : List ℕ) where
  -- more rows behind
  module _ (g : Scanning) (f : Stands s g) (rows : Rows s g.read) (d : Dependencies) where
    rows_joined : (reached : Reaches (scan_turn false s) (record { far = start; read = none }) g) → Adds s g reached f.used d → Rows s (joined g.read d)
    unfolding joined
    rows_joined reached a =
        let bytes = g.read.bytes in
        record {
          imports =
              from_append (ImportRead s (bytes ++ d.bytes)) 0 g.read.imports d.imports
              (from_of (ImportRead s bytes) (ImportRead s (bytes ++ d.bytes)) (import_more s bytes d.bytes) 0 g.read.imports rows.imports)
              (subst (λ n. EachFrom (ImportRead s (bytes ++ d.bytes)) n d.imports) (f.imports ∙ from_zero (length g.read.imports)) a.0);
          includes =
              from_append (IncludeRead s (bytes ++ d.bytes)) 0 g.read.includes d.includes
              (from_of (IncludeRead s bytes) (IncludeRead s (bytes ++ d.bytes)) (include_more s bytes d.bytes) 0 g.read.includes rows.includes)
              (subst (λ n. EachFrom (IncludeRead s (bytes ++ d.bytes)) n d.includes) (f.includes ∙ from_zero (length g.read.includes)) a.1);
        }
      where
        from_zero : (n : ℕ) → n ≡ 0 + n
        from_zero n = omega arith

  -- the state that a turn goes on from
  pub turn_is : (g h : Scanning) → scan_turn false s g ≡ on h
      → (n : Sofar) × ((step_at false s g.far).answer ≡ Ok (Some n)) × (record { far = n; read = joined g.read (step_at false s g.far).adds } ≡ h)
  unfolding scan_turn after_step
  turn_is g h t = of (step_at false s g.far).answer refl t
    where
      d : Dependencies
      d = joined g.read (step_at false s g.far).adds

      of : (r : Result (Option Sofar) Refusal) → (step_at false s g.far).answer ≡ r → after_step d r ≡ on h
          → (n : Sofar) × ((step_at false s g.far).answer ≡ Ok (Some n)) × (record { far = n; read = d } ≡ h)
      of (Ok (Some n)) e t = (n, e, cc)
      of (Ok None) e t = let z : ◌≡◌ {A = ℕ} 0 1 = cc in absurd (omega arith)
      of (Err r) e t = let z : ◌≡◌ {A = ℕ} 0 1 = cc in absurd (omega arith)

  abbrev Stays : Scanning → Type 0
  Stays g = Reaches (scan_turn false s) (record { far = start; read = none }) g × Stands s g × Rows s g.read

  abbrev ScanHas : Scan → Type 0
  ScanHas (good d) = Rows s d
  ScanHas (bad r d) = Unit {0}

  module _ (g : Scanning) (i : Stays g) where
    step_rows : Rows s (joined g.read (step_at false s g.far).adds)
    step_rows = rows_joined g i.1 i.2 (step_at false s g.far).adds i.0 (step_adds s g i.0 i.1.used)

    turn_on : (h : Scanning) → scan_turn false s g ≡ on h → Stands s h × Rows s h.read
    turn_on h t =
        let w = turn_is g h t in
        subst (λ (z : Scanning). Stands s z × Rows s z.read) w.2
        (stands_step s g i.1 (step_at false s g.far) (step_said false s g.far) w.0 w.1, step_rows)

    turn_stop : (x : Scan) → scan_turn false s g ≡ stop x → ScanHas x
    unfolding scan_turn after_step
    turn_stop x t = of (step_at false s g.far).answer t
      where
        d : Dependencies
        d = joined g.read (step_at false s g.far).adds

        of : (r : Result (Option Sofar) Refusal) → after_step d r ≡ stop x → ScanHas x
        of (Ok (Some n)) t = let z : ◌≡◌ {A = ℕ} 0 1 = cc in absurd (omega arith)
        of (Ok None) t = let q : good d ≡ x = cc in subst ScanHas q step_rows
        of (Err r) t = let q : bad r d ≡ x = cc in subst ScanHas q tt

  rows_none : Rows s none
  unfolding EachFrom
  rows_none = record { imports = tt; includes = tt }

  scan_has : ScanHas (scanned false s)
  unfolding scanned scan_from
  scan_has =
      turns_keep (scan_turn false s) (good none) Stays ScanHas (λ a b i t. let w = turn_on a i b t in (next i.0 t, w.0, w.1))
      (λ a x i t. turn_stop a i x t) rows_none (suc (length s)) (record { far = start; read = none }) (first, stands_first s, rows_none)

  pub scan_rows : (d : Dependencies) → scanned false s ≡ good d → Rows s d
  scan_rows d h = subst ScanHas h scan_has
