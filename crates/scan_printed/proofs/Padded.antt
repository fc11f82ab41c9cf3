-- The printed form reads the store only where values lie, so zeros behind the stored bytes change nothing.
-- Assumes nothing.
use mathlib.Core.Path.{◌≡◌, refl, ap}
use mathlib.Core.List.{List, [], ◌∷◌, ◌++◌, map, flatten}
use Prim.Native.Nat.{ℕ}
use lib.ListN.{length}
use Rattle.scan_rows.specs.Span.{Within}
use Rattle.scan_rows.specs.Rows.{Each, ImportWithin, IncludeWithin}
use Rattle.scan_rows.specs.declared.Span.{Span}
use Rattle.scan_rows.specs.declared.YangImport.{YangImport}
use Rattle.scan_rows.specs.declared.YangInclude.{YangInclude}
use Rattle.scan_rows.proofs.Values.{value_more}
use Rattle.scan_printed.specs.Printed.{revision, import_line, include_line, import_lines, include_lines, printed}

-- lines that are the same, one by one
module _ {A : Type 0} (P : A → Type 0) (f g : A → List ℕ) (each : (i : A) → P i → f i ≡ g i) where
  lines_same : (is : List A) → Each P is → flatten (map f is) ≡ flatten (map g is)
  unfolding Each flatten
  lines_same [] h = refl
  lines_same (i ∷ is) h = rw (each i h.0) (ap (λ l. g i ++ l) (lines_same is h.1))

module _ (bytes zs : List ℕ) where
  revision_more : (x : Span) → Within (length bytes) x → revision (bytes ++ zs) x ≡ revision bytes x
  unfolding revision
  revision_more x h = rw (value_more bytes zs x h) refl

  import_more : (i : YangImport) → ImportWithin (length bytes) i → import_line (bytes ++ zs) i ≡ import_line bytes i
  unfolding import_line
  import_more i h =
      rw (value_more bytes zs i.module_name h.0) (rw (value_more bytes zs i.prefix h.1) (rw (revision_more i.revision_date h.2) refl))

  include_more : (i : YangInclude) → IncludeWithin (length bytes) i → include_line (bytes ++ zs) i ≡ include_line bytes i
  unfolding include_line
  include_more i h = rw (value_more bytes zs i.submodule_name h.0) (rw (revision_more i.revision_date h.1) refl)

  pub printed_more : (is : List YangImport) (js : List YangInclude) → Each (ImportWithin (length bytes)) is → Each (IncludeWithin (length bytes)) js
      → printed (bytes ++ zs) is js ≡ printed bytes is js
  unfolding printed import_lines include_lines
  printed_more is js h k =
      rw (lines_same (ImportWithin (length bytes)) (import_line (bytes ++ zs)) (import_line bytes) import_more is h)
      (rw (lines_same (IncludeWithin (length bytes)) (include_line (bytes ++ zs)) (include_line bytes) include_more js k) refl)
