-- A text that is scanned: the rows read back are the rows that were read, and the names among the stored bytes are the same in the store, whatever it
-- held before.
-- Assumes nothing.
use Rattle.std.specs.Prelude.{Ok, Err, Some, Result}
use mathlib.Core.Path.{◌≡◌, refl, sym, ap, ap₂, subst, ◌∙◌}
use mathlib.Core.Bool.{false}
use mathlib.Core.List.{List, [], ◌∷◌}
use Prim.Native.Nat.{ℕ, ◌*◌, ◌≤◌}
use native.Mathlib.Omega.{arith}
use lib.ListN.{length}
use lib.Seq.{sets}
use borrow.Author.Tests.{le-ltb}
use Rattle.text.specs.declared.Refusal.{Refusal}
use Rattle.scan_rows.specs.Rows.{imports_in, includes_in, Each}
use Rattle.scan_rows.specs.declared.YangImport.{YangImport}
use Rattle.scan_rows.specs.declared.YangInclude.{YangInclude}
use Rattle.scan_rows.proofs.Values.{value_stored}
use Rattle.yangparser.specs.Dependencies.{Dependencies, dependencies, read_of}
use Rattle.scan_rows.specs.Short.{is_too_short}
use Rattle.yangparser.specs.Promises.{Holds, lent_scan, Scans}
use Rattle.yangparser.specs.declared.Rows.{Rows}
use Rattle.yangparser.proofs.KeptLaws.{entry_good, parsed_good, parsed_refused, held_imports, held_includes}
use Rattle.yangparser.proofs.Placed.{ImportIn, IncludeIn}
use Rattle.yangparser.proofs.ScanLaws.{Sound, scan_sound}
use Rattle.graph.specs.Graph.{deps}
use Rattle.graph_texts.specs.Texts.{import_names, include_names, scan_seen, scan_text, SeenAs, ScanRoom}

-- ---- names among the stored bytes

module _ (bytes d : List ℕ) {e : List ℕ} (h : e ≡ sets d 0 bytes) (room : length bytes ≤ length d) where
  import_names_lem : (is : List YangImport) → Each (ImportIn 0 (length bytes)) is → import_names e is ≡ import_names bytes is
  unfolding import_names Each
  import_names_lem [] k = refl
  import_names_lem (i ∷ is) k = ap₂ ◌∷◌ (value_stored bytes d i.module_name k.0.0.2 h room) (import_names_lem is k.1)

  include_names_lem : (is : List YangInclude) → Each (IncludeIn 0 (length bytes)) is → include_names e is ≡ include_names bytes is
  unfolding include_names Each
  include_names_lem [] k = refl
  include_names_lem (i ∷ is) k = ap₂ ◌∷◌ (value_stored bytes d i.submodule_name k.0.0.2 h room) (include_names_lem is k.1)

-- ---- what the scan wrote reads back as what it read

module _ {s : List ℕ} (x : Dependencies) (k : Sound s x) {d t u e f g : List ℕ} (h : Holds x d t u e f g) (m : ScanRoom (length s) d t u) where
  stored_room : length x.bytes ≤ length d
  stored_room = omega (arith, k.short, m.store_room)

  names_back : deps (import_names e (imports_in f (length x.imports))) (include_names e (includes_in g (length x.includes)))
      ≡ deps (import_names x.bytes x.imports) (include_names x.bytes x.includes)
  names_back =
      ap₂ deps
      (ap (import_names e) (held_imports x k h m.import_room) ∙ import_names_lem x.bytes d h.stored stored_room x.imports k.placed.imports)
      (ap (include_names e) (held_includes x k h m.include_room) ∙ include_names_lem x.bytes d h.stored stored_room x.includes k.placed.includes)

-- ---- the ways out of `scan_text`

-- with room, nothing is too short
module _ (s : List ℕ) {d t u : List ℕ} (m : ScanRoom (length s) d t u) where
  enough : is_too_short false (length s) (length d) (length t) (length u) ≡ false
  unfolding is_too_short
  enough =
      rw (le-ltb (length d) (length s) m.store_room)
      (rw (le-ltb (length t) (256 * 7) m.import_room) (rw (le-ltb (length u) (256 * 5) m.include_room) refl))

  text_is : scan_text s ≡ scan_seen (lent_scan false s false d t u)
  unfolding scan_text
  text_is = ap (λ b. scan_seen (dependencies false s b)) (sym enough)

  module _ {r : Result Rows Refusal} {e f g : List ℕ} (p : Scans false s false d t u r e f g)
      (el : length e ≡ length d) (fl : length f ≡ length t) (gl : length g ≡ length u) where
    pub scan_refused_lem : {q : Refusal} → r ≡ Err q → SeenAs (scan_text s) d t u (Err q) e f g
    scan_refused_lem {q} h =
        let k = parsed_refused (lent_scan false s false d t u) q (sym p.answer ∙ h) in
        record { seen = sym (text_is ∙ ap scan_seen k.1); few = tt; kept_store = el; kept_imports = fl; kept_includes = gl }

    pub scan_read : {q : Rows} → r ≡ Ok q → SeenAs (scan_text s) d t u (Ok (Some (q.imports, q.includes))) e f g
    unfolding read_of
    scan_read {q} h =
        let y = lent_scan false s false d t u in
        let k = parsed_good y q.imports q.includes q.used (sym p.answer ∙ h) in
        let x = k.0 in
        let good = entry_good false s (is_too_short false (length s) (length d) (length t) (length u)) x k.1 in
        let w : Sound s x = subst (λ y. Sound s (read_of y)) good.0 (scan_sound false s) in
        let o : Holds x d t u e f g = subst (λ y. Holds (read_of y) d t u e f g) k.1 p.holds in
        record {
          seen =
              ap₂ (λ a b. deps (import_names e (imports_in f a)) (include_names e (includes_in g b))) k.2 k.3
              ∙ names_back x w o m
              ∙ sym (text_is ∙ ap scan_seen k.1);
          few = (omega (arith, k.2, w.few_imports), omega (arith, k.3, w.few_includes));
          kept_store = el;
          kept_imports = fl;
          kept_includes = gl;
        }
