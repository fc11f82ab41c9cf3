-- In a library that is read from an image each import-only module has a revision: an image has at least one of them for each.
-- Assumes nothing.
use Prim.Native.Nat.{ℕ, ◌≤◌}
use mathlib.Core.Path.{◌≡◌, refl, sym, subst}
use mathlib.Core.Logic.{⊎_elim}
use mathlib.Core.List.Memᴰ
use mathlib.Core.List.{List, [], ◌∷◌, ◌++◌, Memᴰ}
use native.Mathlib.Omega.{arith}
use lib.ListN.{length}
use Rattle.library_form.specs.Form.{good}
use Rattle.library_form.specs.Writer.{AllBytes}
use Rattle.library_image.specs.Image.{image_at}
use Rattle.library_image.specs.ImageWriter.{EachOf, FormedSet, FormedImportOnly, Formed}
use Rattle.library_image.specs.Library.{PlainLibrary, Library, plain}
use Rattle.library_image.proofs.ImageLaws.{image_formed}
use Rattle.graph.specs.Meaning.{Revised}
use Rattle.graph.proofs.Sets.{import_only_out}

one_of : {B : Type 0} (Right : List B → B → Type 0) (before bs : List B) {b : B} → EachOf Right before bs → Memᴰ b bs → (k : List B) × Right k b
unfolding EachOf
one_of Right before [] h m = absurd (Memᴰ.not-nil m)
one_of Right before (x ∷ bs) {b} h m =
    ⊎_elim (λ p. (before, subst (λ y. Right before y) (sym p) h.0)) (λ n. one_of Right (before ++ (x ∷ [])) bs h.1 n) (Memᴰ.cases_cons m)

first_of : {A : Type 0} (l : List A) → 1 ≤ length l → (x : A) × Memᴰ x l
first_of [] h = absurd (omega arith)
first_of (x ∷ l) h = (x, Memᴰ.head refl)

pub formed_revised : (l : PlainLibrary) → Formed l → Revised l
formed_revised l f i m =
    let r = import_only_out l m in
    let s = one_of FormedSet [] l f.sets.each r.1 in
    let k = one_of FormedImportOnly [] r.0.import_only s.1.import_only.each r.2 in
    first_of i.revisions k.1.revisions.enough

pub image_revised : (s : List ℕ) {l : Library} {n : ℕ} → image_at s ≡ good l n → AllBytes s → Revised (plain l)
image_revised s {l} e bytes = formed_revised (plain l) (image_formed s e bytes)
