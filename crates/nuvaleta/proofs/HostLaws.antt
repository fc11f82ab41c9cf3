-- An answer in words: counts are at most 256 or the text's length, a place lies within the text, and a text that is too long is refused at 0, so each fits its
-- word.
-- Assumes nothing.
use Rattle.std.specs.Prelude.{Result}
use mathlib.Core.Path.{◌≡◌, refl, sym, ap, ap₂, subst, ◌∙◌}
use mathlib.Core.Bool.{Bool}
use mathlib.Core.List.{List, [], ◌∷◌, ◌++◌}
use Prim.Native.Nat.{ℕ, ◌<◌, ◌≤◌}
use native.Mathlib.Omega.{arith}
use lib.Dec.{ltb}
use lib.ListN.{length, get_or}
use borrow.Author.Tests.{ltb-true, ltb-false}
use Rattle.text.specs.declared.Refusal.{Refusal}
use Rattle.text.proofs.Here.{by_test}
use Rattle.text_lent.proofs.LentLaws.{lent_long}
use Rattle.scan_page.specs.declared.Page.{Page}
use Rattle.scan_page.specs.Page.{PageLeft}
use Rattle.scan_page.proofs.PageLaws.{good_sound, page_fits}
use Rattle.yangparser.specs.Dependencies.{Dependencies, none, Scan, good, bad, scanned, if_fit, dependencies, parsed_of}
use Rattle.yangparser.specs.Promises.{Leaves}
use Rattle.yangparser.specs.declared.Rows.{Rows}
use Rattle.yangparser.proofs.KeptLaws.{entry_good, entry_refusal}
use Rattle.nuvaleta.specs.Words.{answer_words, WordsFit}
use Rattle.nuvaleta.specs.Host.{Answered, AnsweredPage}
use Rattle.nuvaleta.proofs.WordsLaws.{first_word}

-- ---- a word for each count and place

too_long : (whole : Bool) (s : List ℕ) (z : Bool) → 1048576 < length s → dependencies whole s z ≡ bad (record { number = 1; keyword = 0; at = 0 }) none
unfolding dependencies if_fit
too_long whole s z h = ap (λ x. if_fit x (scanned whole s)) (sym (lent_long s z h))

refused_small : (whole : Bool) (s : List ℕ) (z : Bool) (r : Refusal) (d : Dependencies) → dependencies whole s z ≡ bad r d → r.at ≤ 1048576
refused_small whole s z r d h =
    by_test (ltb 1048576 (length s))
    (λ t. let e : bad (record { number = 1; keyword = 0; at = 0 }) none ≡ bad r d = sym (too_long whole s z (ltb-true 1048576 (length s) t)) ∙ h in
    let k : 0 ≡ r.at = cc in omega (arith, k))
    (λ f. omega (arith, ltb-false 1048576 (length s) f, entry_refusal whole s z r d h))

fits : (whole : Bool) (s : List ℕ) (z : Bool) (x : Scan) → dependencies whole s z ≡ x → WordsFit (parsed_of x)
unfolding parsed_of WordsFit
fits whole s z (good d) h =
    let k = good_sound whole s z d h in
    let l = entry_good whole s z d h in
    (omega (arith, k.few_imports), omega (arith, k.few_includes), omega (arith, k.short, l.1))
fits whole s z (bad r d) h = omega (arith, refused_small whole s z r d h)

module _ (whole : Bool) (s : List ℕ) (z : Bool) (d t u : List ℕ) {r : Result Rows Refusal} {e f g : List ℕ} (w : Leaves (dependencies whole s z) d t u r e f g) where
  pub words_fit : WordsFit r
  words_fit = subst WordsFit (sym w.answer) (fits whole s z (dependencies whole s z) refl)

  again : Leaves (dependencies whole s z) d t u (parsed_of (dependencies whole s z)) e f g
  again = record { answer = refl; stored = w.stored; imports = w.imports; includes = w.includes }

  -- the words are answered, and the first is returned
  pub answered : {v : List ℕ} → v ≡ answer_words r → Answered (dependencies whole s z) d t u (get_or v 0 0) e f g v
  answered ve =
      let k = ve ∙ ap answer_words w.answer in
      record { scan = again; number = ap (λ v. get_or v 0 0) k ∙ first_word (parsed_of (dependencies whole s z)); answer = k }

module _ (whole : Bool) (s : List ℕ) (z : Bool) (d t u p : List ℕ) (r : Page) {e f g q : List ℕ} (w : PageLeft (dependencies whole s z) d t u p r e f g q) where
  pub page_words_fit : WordsFit r.parsed
  page_words_fit = words_fit whole s z d t u w.scan

  pub page_size_fits : r.length < 4294967296
  page_size_fits = omega (arith, w.length_is, page_fits whole s z)

  pub page_answered : {v a : List ℕ} → v ≡ answer_words r.parsed → a ≡ v ++ (r.length ∷ [])
      → AnsweredPage (dependencies whole s z) d t u p (get_or v 0 0) e f g q a
  page_answered ve ae =
      let scan = answered whole s z d t u w.scan ve in
      record {
        scan = scan.scan;
        page = w.page;
        number = scan.number;
        answer = ae ∙ ap₂ (λ x n. x ++ (n ∷ [])) scan.answer w.length_is;
      }
