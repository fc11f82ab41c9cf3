-- A step that reads an import or include, or refuses it: the row's words are those of the import or include read, and they are words, since the
-- store's places lie within the text's length.
-- Assumes nothing.
use Rattle.std.specs.Prelude.{Ok, Err, Some, Result, Option}
use mathlib.Core.Path.{◌≡◌, refl, sym, ap, subst, ◌∙◌}
use mathlib.Core.Bool.{Bool, cond}
use mathlib.Core.List.{List, []}
use Prim.Native.Nat.{ℕ, ◌+◌, ◌-◌, ◌*◌, ◌<◌, ◌≤◌}
use native.Mathlib.Omega.{arith}
use lib.ListN.{length}
use lib.Seq.{sets}
use borrow.Author.Tests.{le-leb, lt-leb}
use Rattle.text.specs.declared.Cursor.{Cursor}
use Rattle.text.specs.declared.Refusal.{Refusal}
use Rattle.scan_rows.specs.Span.{Fits}
use Rattle.scan_rows.specs.Rows.{import_size, include_size, most_rows, import_words, include_words, import_table, include_table, table, FitsImport, FitsInclude}
use Rattle.scan_rows.specs.declared.Span.{Span}
use Rattle.scan_rows.specs.declared.YangImport.{YangImport}
use Rattle.scan_rows.specs.declared.YangInclude.{YangInclude}
use Rattle.scan_imports.specs.Statement.{import_at, include_at}
use Rattle.scan_imports.proofs.ReachLaws.{import_room, import_lies, include_room, include_lies}
use Rattle.scan_block.proofs.Spans.{MayLie, Lies, may_end}
use Rattle.yangparser.specs.Dependencies.{Dependencies, none, import_words_of, include_words_of, Step, adding, import_step, include_step, full, unless_full}
use Rattle.yangparser.specs.Dependencies.{import_here, include_here}
use Rattle.yangparser.specs.Promises.{Adds, AddsImport, AddsInclude}
use Rattle.yangparser.specs.declared.Sofar.{Sofar}

-- ---- rows of any kind

pub full_is : (rows k at : ℕ) (x : Step) → most_rows ≤ rows → unless_full rows k at x ≡ adding (full k at) none
unfolding unless_full
full_is rows k at x h = ap (λ t. cond t (adding (full k at) none) x) (le-leb most_rows rows h)

pub room_is : (rows k at : ℕ) (x : Step) → rows < most_rows → unless_full rows k at x ≡ x
unfolding unless_full
room_is rows k at x h = ap (λ t. cond t (adding (full k at) none) x) (lt-leb most_rows rows h)

-- x: the step where there is room, u: the store's place, w: the row's first word; d, t: the store and the table at entry
module _ (words : Dependencies → List ℕ) (rows k at : ℕ) (x : Step) (u w : ℕ) {d t : List ℕ} where
  adds_full : words none ≡ [] → most_rows ≤ rows → {r : Result (Option Sofar) Refusal} → r ≡ full k at → Adds words (unless_full rows k at x) u w d t r d t
  adds_full blank h {r} e =
      subst (λ z. Adds words z u w d t r d t) (sym (full_is rows k at x h))
      (record { answer = e; stored = refl; written = ap (sets t w) (sym blank) })

  -- y: the step that x is
  adds_room : rows < most_rows → {y : Step} → x ≡ y → {r : Result (Option Sofar) Refusal} {e f : List ℕ} → Adds words y u w d t r e f → Adds words (unless_full rows k at x) u w d t r e f
  adds_room h {y} q {r} {e} {f} a = subst (λ z. Adds words z u w d t r e f) (sym (room_is rows k at x h ∙ q)) a

-- ---- an import

module _ (whole : Bool) (s : List ℕ) (far : Sofar) (at : ℕ) (d t : List ℕ) where
  abbrev import_read : Result (Cursor × ℕ × YangImport) Refusal → Step
  import_read = import_step far (import_at whole s at far.used).bytes

  pub import_full : most_rows ≤ far.imports → {r : Result (Option Sofar) Refusal} → r ≡ full 8 at → AddsImport whole s far at d t r d t
  unfolding import_here import_words_of import_table table
  import_full h e =
      adds_full import_words_of far.imports 8 at (import_read (import_at whole s at far.used).answer) far.used (far.imports * import_size) refl h e

  -- x: what reading it answered, e: the store then
  module _ (h : far.imports < most_rows) {x : Result (Cursor × ℕ × YangImport) Refusal} {e : List ℕ} (xe : x ≡ (import_at whole s at far.used).answer)
      (ee : e ≡ sets d far.used (import_at whole s at far.used).bytes) where
    import_room_for : {y : Result (Cursor × ℕ × YangImport) Refusal} → x ≡ y → {r : Result (Option Sofar) Refusal} {f : List ℕ}
        → Adds import_words_of (import_read y) far.used (far.imports * import_size) d t r e f → AddsImport whole s far at d t r e f
    unfolding import_here
    import_room_for q a =
        adds_room import_words_of far.imports 8 at (import_read (import_at whole s at far.used).answer) far.used (far.imports * import_size) h
        (ap import_read (sym xe ∙ q)) a

    pub import_added : (c : Cursor) (n : ℕ) (i : YangImport) → x ≡ Ok (c, n, i)
        → {f : List ℕ} → f ≡ sets t (far.imports * import_size) (import_words i)
        → AddsImport whole s far at d t (Ok (Some (record { at = c.at; used = n; imports = far.imports + 1; includes = far.includes }))) e f
    unfolding import_step import_words_of import_table table import_words
    import_added c n i q fe = import_room_for q (record { answer = refl; stored = ee; written = fe })

    pub import_not : (r : Refusal) → x ≡ Err r → {a : Result (Option Sofar) Refusal} → a ≡ Err r → AddsImport whole s far at d t a e t
    unfolding import_step import_words_of import_table table
    import_not r q h = import_room_for q (record { answer = h; stored = ee; written = refl })

-- ---- an include

module _ (whole : Bool) (s : List ℕ) (far : Sofar) (at : ℕ) (d t : List ℕ) where
  abbrev include_read : Result (Cursor × ℕ × YangInclude) Refusal → Step
  include_read = include_step far (include_at whole s at far.used).bytes

  pub include_full : most_rows ≤ far.includes → {r : Result (Option Sofar) Refusal} → r ≡ full 9 at → AddsInclude whole s far at d t r d t
  unfolding include_here include_words_of include_table table
  include_full h e =
      adds_full include_words_of far.includes 9 at (include_read (include_at whole s at far.used).answer) far.used (far.includes * include_size) refl h e

  module _ (h : far.includes < most_rows) {x : Result (Cursor × ℕ × YangInclude) Refusal} {e : List ℕ} (xe : x ≡ (include_at whole s at far.used).answer)
      (ee : e ≡ sets d far.used (include_at whole s at far.used).bytes) where
    include_room_for : {y : Result (Cursor × ℕ × YangInclude) Refusal} → x ≡ y → {r : Result (Option Sofar) Refusal} {f : List ℕ}
        → Adds include_words_of (include_read y) far.used (far.includes * include_size) d t r e f → AddsInclude whole s far at d t r e f
    unfolding include_here
    include_room_for q a =
        adds_room include_words_of far.includes 9 at (include_read (include_at whole s at far.used).answer) far.used (far.includes * include_size) h
        (ap include_read (sym xe ∙ q)) a

    pub include_added : (c : Cursor) (n : ℕ) (i : YangInclude) → x ≡ Ok (c, n, i)
        → {f : List ℕ} → f ≡ sets t (far.includes * include_size) (include_words i)
        → AddsInclude whole s far at d t (Ok (Some (record { at = c.at; used = n; imports = far.imports; includes = far.includes + 1 }))) e f
    unfolding include_step include_words_of include_table table include_words
    include_added c n i q fe = include_room_for q (record { answer = refl; stored = ee; written = fe })

    pub include_not : (r : Refusal) → x ≡ Err r → {a : Result (Option Sofar) Refusal} → a ≡ Err r → AddsInclude whole s far at d t a e t
    unfolding include_step include_words_of include_table table
    include_not r q h = include_room_for q (record { answer = h; stored = ee; written = refl })

-- ---- a row holds words

may_fit : {u n : ℕ} {x : Span} → n < 4294967296 → MayLie u n x → Fits x
may_fit h m = (omega (arith, may_end m), omega (arith, may_end m))

lies_fit : {u n : ℕ} (x : Span) → n < 4294967296 → Lies u n x → Fits x
lies_fit x h l = (omega (arith, l.2), omega (arith, l.2))

-- u: the store's place
module _ (whole : Bool) (s : List ℕ) (at u : ℕ) (room : u + (length s - at) ≤ length s) (words : length s < 4294967296) (c : Cursor) (n : ℕ) where
  pub import_words_fit : (i : YangImport) {x : Result (Cursor × ℕ × YangImport) Refusal} → x ≡ (import_at whole s at u).answer → x ≡ Ok (c, n, i) → FitsImport i
  import_words_fit i xe q =
      let k = sym xe ∙ q in
      let l = import_lies whole s at u c n i k in
      let m : n < 4294967296 = omega (arith, import_room whole s at u c n i k (length s) room) in
      (lies_fit i.module_name m l.0, lies_fit i.prefix m l.1, may_fit m l.2)

  pub include_words_fit : (i : YangInclude) {x : Result (Cursor × ℕ × YangInclude) Refusal} → x ≡ (include_at whole s at u).answer → x ≡ Ok (c, n, i) → FitsInclude i
  include_words_fit i xe q =
      let k = sym xe ∙ q in
      let l = include_lies whole s at u c n i k in
      let m : n < 4294967296 = omega (arith, include_room whole s at u c n i k (length s) room) in
      (lies_fit i.submodule_name m l.0, may_fit m l.1)
