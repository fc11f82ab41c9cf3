-- The refusals of a scan in both modes, by number and keyword: in the whole-text mode a scan is 11 or the old mode's, so its refusals are 11 and the old ones.
-- Assumes nothing.
use Rattle.std.specs.Prelude.{Ok, Err, Result}
use mathlib.Core.Path.{◌≡◌, refl, sym, ap, subst, ◌∙◌}
use mathlib.Core.Bool.{Bool, true, false}
use mathlib.Core.Logic.{⊎_elim}
use mathlib.Core.List.{List, [], ◌∷◌}
use Prim.Native.Nat.{ℕ}
use native.Mathlib.Omega.{arith}
use lib.ListN.{length}
use Rattle.text.specs.Refusal.{cut_at}
use Rattle.text.specs.declared.Refusal.{Refusal}
use Rattle.text_value.specs.Argument.{breaks_off, argument_at}
use Rattle.text_past.specs.Past.{past_of}
use Rattle.text_lent.specs.Lent.{lent_at}
use Rattle.scan_imports.specs.Statement.{import_at, include_at}
use Rattle.scan_header.specs.Header.{said_at}
use Rattle.scan_header.specs.declared.Heard.{Heard}
use Rattle.scan_header.specs.declared.Heard.TheVariants.{Value, Passed, Done}
use Rattle.yangparser.specs.Dependencies as Deps
use Rattle.scan_metadata.specs.Metadata as Meta
use Rattle.demands_scans.specs.Refusals.{FirstRefusal, RefusedAs, first, read, StatementRefusal, DependenciesRefusal, HeaderRefusal, MetadataRefusal}
use Rattle.demands_scans.specs.Refusals.{MetRefusal, high, other, WholeRefusal, cut_short, as_before, ModeRefusal}
use Rattle.demands_scans.specs.Whole.{OldMode, told_dependencies, told_metadata, WholeOrOld, same, cut, old_dependencies, old_metadata}
use Rattle.demands_scans.proofs.ScanNumbers.{FourToTen, Stated, ImportedIs, IncludedIs, import_is, include_is, LentIs, lent_is, dependencies_refused}
use Rattle.demands_scans.proofs.ScanNumbers as Scans
use Rattle.demands_scans.proofs.MetadataNumbers.{M, HeardIs, said_is, metadata_refused}
use Rattle.demands_scans.proofs.MetadataNumbers as Headers
use Rattle.demands_scans.proofs.WholeDependencies.{import_modes, include_modes}
use Rattle.demands_scans.proofs.WholeDependencies as Dependencies
use Rattle.demands_scans.proofs.WholeMetadata.{said_modes}
use Rattle.demands_scans.proofs.WholeMetadata as Metadata
use Rattle.text.specs.declared.Cursor.{Cursor}
use Rattle.scan_rows.specs.declared.YangImport.{YangImport}
use Rattle.scan_rows.specs.declared.YangInclude.{YangInclude}

-- the old mode is what it was
pub old_mode : OldMode
unfolding past_of argument_at breaks_off
old_mode = record { skipped = λ n c h. refl; value = λ s at u k. refl }

-- no refusal has the number 0
met_number : {Read : Refusal → Type 0} → ((q : Refusal) → Read q → FourToTen q.number) → (s : List ℕ) (q : Refusal) → MetRefusal Read s q
    → q.number ≡ 0 → ⊥
met_number f s q (high m) z = omega (arith, z, ap (λ r. r.number) m.0)
met_number f s q (other h) z = omega (arith, z, f q h)

pub mode_number : {Read : Refusal → Type 0} → ((q : Refusal) → Read q → FourToTen q.number) → (s : List ℕ) (whole : Bool) (q : Refusal)
    → ModeRefusal whole Read s q → q.number ≡ 0 → ⊥
mode_number f s true q (cut_short e) z = omega (arith, z, ap (λ r. r.number) e)
mode_number f s true q (as_before h) z = met_number f s q h z
mode_number f s false q h z = met_number f s q h z

-- ---- one statement

import_before : (s : List ℕ) (x : Result (Cursor × ℕ × YangImport) Refusal) → ImportedIs (Stated s 8) x → ImportedIs (WholeRefusal (Stated s 8) s) x
import_before s (Ok (c, n, i)) h = tt
import_before s (Err r) h = as_before h

include_before : (s : List ℕ) (x : Result (Cursor × ℕ × YangInclude) Refusal) → IncludedIs (Stated s 9) x → IncludedIs (WholeRefusal (Stated s 9) s) x
include_before s (Ok (c, n, i)) h = tt
include_before s (Err r) h = as_before h

heard_before : (s : List ℕ) (x : Result Heard Refusal) → HeardIs (M s) x → HeardIs (WholeRefusal (M s) s) x
heard_before s (Ok (Value k v c n)) h = tt
heard_before s (Ok (Passed c)) h = tt
heard_before s (Ok (Done c)) h = tt
heard_before s (Err r) h = as_before h

module _ (s : List ℕ) (at u : ℕ) where
  pub import_mode : (whole : Bool) → ImportedIs (ModeRefusal whole (StatementRefusal 8) s) (import_at whole s at u).answer
  import_mode true =
      ⊎_elim
      (λ e. subst (λ x. ImportedIs (WholeRefusal (Stated s 8) s) x.answer) (sym e)
      (import_before s (import_at false s at u).answer (import_is s at u)))
      (λ e. subst (ImportedIs (WholeRefusal (Stated s 8) s)) (sym e.0) (cut_short refl)) (import_modes s at u)
  import_mode false = import_is s at u

  pub include_mode : (whole : Bool) → IncludedIs (ModeRefusal whole (StatementRefusal 9) s) (include_at whole s at u).answer
  include_mode true =
      ⊎_elim
      (λ e. subst (λ x. IncludedIs (WholeRefusal (Stated s 9) s) x.answer) (sym e)
      (include_before s (include_at false s at u).answer (include_is s at u)))
      (λ e. subst (IncludedIs (WholeRefusal (Stated s 9) s)) (sym e.0) (cut_short refl)) (include_modes s at u)
  include_mode false = include_is s at u

  pub heard_mode : (p whole : Bool) → HeardIs (ModeRefusal whole HeaderRefusal s) (said_at whole s at u p).answer
  heard_mode p true =
      ⊎_elim
      (λ e. subst (λ x. HeardIs (WholeRefusal (M s) s) x.answer) (sym e) (heard_before s (said_at false s at u p).answer (said_is s at u p)))
      (λ e. subst (HeardIs (WholeRefusal (M s) s)) (sym e.0) (cut_short refl)) (said_modes s at u p)
  heard_mode p false = said_is s at u p

-- ---- a scan

module _ (s : List ℕ) (short : Bool) where
  module _ (r : Refusal) (d : Deps.Dependencies) where
    scan_read : (x : Deps.Scan) → WholeOrOld told_dependencies old_dependencies s x (Deps.scanned false s) → x ≡ Deps.bad r d
        → WholeRefusal (MetRefusal DependenciesRefusal s) s r
    scan_read x (same e) h = as_before (subst (Scans.ScanIs s) (sym e ∙ h) (Scans.scanned_is s))
    scan_read x (cut e m) h = cut_short (sym (ap told_dependencies h) ∙ e)

    dependencies_whole_refused : Deps.dependencies true s short ≡ Deps.bad r d → RefusedAs (WholeRefusal (MetRefusal DependenciesRefusal s) s) s short r
    unfolding Deps.dependencies Deps.if_fit
    dependencies_whole_refused h = go (lent_at s short) (lent_is s short) h
      where
        go : (x : Result (Unit {0}) Refusal) → LentIs s short x → Deps.if_fit x (Deps.scanned true s) ≡ Deps.bad r d → RefusedAs (WholeRefusal (MetRefusal DependenciesRefusal s) s) s short r
        go (Ok tt) f h = read f (scan_read (Deps.scanned true s) (Dependencies.scanned_whole s) h)
        go (Err q) f h = let e : q ≡ r = cc in first (subst (FirstRefusal s short) e f)

    -- in either mode
    pub dependencies_mode_refused : (whole : Bool) → Deps.dependencies whole s short ≡ Deps.bad r d
        → RefusedAs (ModeRefusal whole DependenciesRefusal s) s short r
    dependencies_mode_refused true h = dependencies_whole_refused h
    dependencies_mode_refused false h = dependencies_refused s short r d h

  module _ (r : Refusal) (bs : List ℕ) where
    header_read : (x : Meta.Scan) → WholeOrOld told_metadata old_metadata s x (Meta.scanned false s) → x ≡ Meta.bad r bs → WholeRefusal (MetRefusal MetadataRefusal s) s r
    header_read x (same e) h = as_before (subst (Headers.ScanIs s) (sym e ∙ h) (Headers.scanned_is s))
    header_read x (cut e m) h = cut_short (sym (ap told_metadata h) ∙ e)

    metadata_whole_refused : Meta.metadata true s short ≡ Meta.bad r bs → RefusedAs (WholeRefusal (MetRefusal MetadataRefusal s) s) s short r
    unfolding Meta.metadata Meta.if_fit
    metadata_whole_refused h = go (lent_at s short) (lent_is s short) h
      where
        go : (x : Result (Unit {0}) Refusal) → LentIs s short x → Meta.if_fit x (Meta.scanned true s) ≡ Meta.bad r bs → RefusedAs (WholeRefusal (MetRefusal MetadataRefusal s) s) s short r
        go (Ok tt) f h = read f (header_read (Meta.scanned true s) (Metadata.scanned_whole s) h)
        go (Err q) f h = let e : q ≡ r = cc in first (subst (FirstRefusal s short) e f)

    pub metadata_mode_refused : (whole : Bool) → Meta.metadata whole s short ≡ Meta.bad r bs → RefusedAs (ModeRefusal whole MetadataRefusal s) s short r
    metadata_mode_refused true h = metadata_whole_refused h
    metadata_mode_refused false h = metadata_refused s short r bs h
