-- Where the values of what was read lie: each within the bytes from the store's place u up to n, and no two at one place, so that their lengths
-- together are no more than the bytes. What is read next lies behind, so both hold of the two joined.
-- Assumes nothing.
use mathlib.Core.Path.{◌≡◌, sym, ap, ◌∙◌}
use mathlib.Core.Logic.{⊎_elim}
use mathlib.Core.Bool.{cond}
use mathlib.Core.List.{List, [], ◌∷◌, ◌++◌}
use Prim.Native.Nat.{ℕ, ◌+◌, ◌≤◌}
use native.Mathlib.Omega.{arith}
use Rattle.scan_rows.proofs.Laws.{each_of}
use Rattle.scan_rows.specs.Rows.{There, Plain, PlainImport, PlainInclude, Each}
use Rattle.scan_rows.specs.Sizes.{total, import_values, include_values}
use Rattle.scan_rows.specs.Span.{held, missing}
use Rattle.scan_rows.specs.declared.Span.{Span}
use Rattle.scan_rows.specs.declared.YangImport.{YangImport}
use Rattle.scan_rows.specs.declared.YangInclude.{YangInclude}
use Rattle.scan_block.proofs.Spans.{Lies, MayLie, lies_more, may_more}
use Rattle.yangparser.specs.Dependencies.{Dependencies, joined}

-- ---- lists of any kind

module _ {A : Type 0} where
  pub total_append : (f : A → ℕ) (is js : List A) → total f (is ++ js) ≡ total f is + total f js
  unfolding total
  total_append f [] js = omega arith
  total_append f (i ∷ is) js = omega (arith, total_append f is js)

  pub each_append : (P : A → Type 0) (is js : List A) → Each P is → Each P js → Each P (is ++ js)
  unfolding Each
  each_append P [] js h k = k
  each_append P (i ∷ is) js h k = (h.0, each_append P is js h.1 k)

-- ---- imports and includes

abbrev pub ImportIn : ℕ → ℕ → YangImport → Type 0
ImportIn u n i = Lies u n i.module_name × Lies u n i.prefix × MayLie u n i.revision_date

abbrev pub IncludeIn : ℕ → ℕ → YangInclude → Type 0
IncludeIn u n i = Lies u n i.submodule_name × MayLie u n i.revision_date

pub import_more : {u v n m : ℕ} → v ≤ u → n ≤ m → (i : YangImport) → ImportIn u n i → ImportIn v m i
import_more h k i l = (lies_more i.module_name h k l.0, lies_more i.prefix h k l.1, may_more h k l.2)

pub include_more : {u v n m : ℕ} → v ≤ u → n ≤ m → (i : YangInclude) → IncludeIn u n i → IncludeIn v m i
include_more h k i l = (lies_more i.submodule_name h k l.0, may_more h k l.1)

pub record Placed (u n : ℕ) (x : Dependencies) : Type 0 where
  pub imports : Each (ImportIn u n) x.imports
  pub includes : Each (IncludeIn u n) x.includes
  pub sizes : u + (total import_values x.imports + total include_values x.includes) ≤ n

-- bytes with no rows
pub placed_bytes : (u n : ℕ) → u ≤ n → (bs : List ℕ) → Placed u n (record { imports = []; includes = []; bytes = bs })
unfolding Each total
placed_bytes u n h bs = record { imports = tt; includes = tt; sizes = omega arith }

pub placed_import : (u n : ℕ) (i : YangImport) (bs : List ℕ) → ImportIn u n i → u + import_values i ≤ n
    → Placed u n (record { imports = i ∷ []; includes = []; bytes = bs })
unfolding Each total
placed_import u n i bs l h = record { imports = (l, tt); includes = tt; sizes = omega arith }

pub placed_include : (u n : ℕ) (i : YangInclude) (bs : List ℕ) → IncludeIn u n i → u + include_values i ≤ n
    → Placed u n (record { imports = []; includes = i ∷ []; bytes = bs })
unfolding Each total
placed_include u n i bs l h = record { imports = tt; includes = (l, tt); sizes = omega arith }

pub placed_joined : (u m n : ℕ) (x y : Dependencies) → Placed u m x → Placed m n y → Placed u n (joined x y)
unfolding joined
placed_joined u m n x y p q =
    let a : u ≤ m = omega (arith, p.sizes) in
    let b : m ≤ n = omega (arith, q.sizes) in
    record {
      imports =
          each_append (ImportIn u n) x.imports y.imports
          (each_of (ImportIn u m) (ImportIn u n) (import_more (omega arith) b) x.imports p.imports)
          (each_of (ImportIn m n) (ImportIn u n) (import_more a (omega arith)) y.imports q.imports);
      includes =
          each_append (IncludeIn u n) x.includes y.includes
          (each_of (IncludeIn u m) (IncludeIn u n) (include_more (omega arith) b) x.includes p.includes)
          (each_of (IncludeIn m n) (IncludeIn u n) (include_more a (omega arith)) y.includes q.includes);
      sizes =
          omega (arith, p.sizes, q.sizes, total_append import_values x.imports y.imports, total_append include_values x.includes y.includes);
    }

-- ---- a row tells them whole

lies_there : {u n : ℕ} (x : Span) → Lies u n x → There x
lies_there x l = ap (λ b. record { present = b; start = x.start; size = x.size }) l.0

may_plain : {u n : ℕ} (x : Span) → MayLie u n x → Plain x
may_plain x m =
    ⊎_elim (λ e. e ∙ ap (λ y. cond y.present (held y.start y.size) missing) (sym e))
    (λ l. lies_there x l ∙ ap (λ b. cond b (held x.start x.size) missing) (sym l.0)) m

pub import_plain : {u n : ℕ} (i : YangImport) → ImportIn u n i → PlainImport i
import_plain i l = (lies_there i.module_name l.0, lies_there i.prefix l.1, may_plain i.revision_date l.2)

pub include_plain : {u n : ℕ} (i : YangInclude) → IncludeIn u n i → PlainInclude i
include_plain i l = (lies_there i.submodule_name l.0, may_plain i.revision_date l.1)
