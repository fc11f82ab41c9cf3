-- What those who call a scan use: its answer tells what was read, and the rows that it wrote read back as they were.
-- Assumes nothing.
use Rattle.std.specs.Prelude.{Ok, Err, Result}
use mathlib.Core.Path.{◌≡◌, refl, ap, ◌∙◌}
use mathlib.Core.Bool.{Bool, false}
use mathlib.Core.List.{List}
use Prim.Native.Nat.{ℕ, ◌*◌, ◌≤◌}
use native.Mathlib.Omega.{arith}
use lib.ListN.{length}
use Rattle.text.specs.declared.Refusal.{Refusal}
use Rattle.text_lent.specs.Lent.{lent_at}
use Rattle.text_lent.specs.Padded.{padded}
use Rattle.text_lent.proofs.LentLaws.{fit_said, lent_within}
use Rattle.scan_rows.specs.Rows.{import_size, include_size, most_rows, imports_in, includes_in}
use Rattle.scan_rows.proofs.Reading.{imports_back, includes_back, imports_written, includes_written}
use Rattle.yangparser.specs.Dependencies.{Dependencies, import_words_of, include_words_of, Scan, good, bad, scanned, if_fit, dependencies, parsed_of}
use Rattle.yangparser.specs.Promises.{Holds}
use Rattle.yangparser.specs.declared.Rows.{Rows}
use Rattle.yangparser.proofs.ScanLaws.{Sound, scan_refusal, sound_imports_plain, sound_includes_plain}

-- ---- the entry

module _ (whole : Bool) (s : List ℕ) where
  fit_good : (x : Result (Unit {0}) Refusal) (d : Dependencies) → if_fit x (scanned whole s) ≡ good d → (x ≡ (Ok tt)) × (scanned whole s ≡ good d)
  unfolding if_fit
  fit_good (Ok tt) d h = (refl, h)
  fit_good (Err r) d h = let z : ◌≡◌ {A = ℕ} 0 1 = cc in absurd (omega arith)

  -- a good scan is the inner one's, of a text that is not too long, with enough lent
  pub entry_good : (short : Bool) (d : Dependencies) → dependencies whole s short ≡ good d → (scanned whole s ≡ good d) × (length s ≤ 1048576) × (short ≡ false)
  unfolding dependencies
  entry_good short d h =
      let k = fit_good (lent_at s short) d h in
      let l = fit_said s short k.0 in
      (k.1, l.0, l.1)

  fit_within : (x : Result (Unit {0}) Refusal) → ((q : Refusal) → x ≡ Err q → q.at ≤ length s) → (r : Refusal) (d : Dependencies) → if_fit x (scanned whole s) ≡ bad r d
      → r.at ≤ length s
  unfolding if_fit
  fit_within (Ok tt) w r d h = scan_refusal whole s r d h
  fit_within (Err q) w r d h = let k : q.at ≡ r.at = cc in omega (arith, w q refl)

  pub entry_refusal : (short : Bool) (r : Refusal) (d : Dependencies) → dependencies whole s short ≡ bad r d → r.at ≤ length s
  unfolding dependencies
  entry_refusal short r d h = fit_within (lent_at s short) (lent_within s short) r d h

-- ---- what an answer tells of the scan

pub parsed_good : (x : Scan) (i j n : ℕ) → parsed_of x ≡ Ok (record { imports = i; includes = j; used = n })
    → (d : Dependencies) × (x ≡ good d) × (i ≡ length d.imports) × (j ≡ length d.includes) × (n ≡ length d.bytes)
unfolding parsed_of
parsed_good (good d) i j n h =
    let e : ◌≡◌ {A = Rows} (record { imports = i; includes = j; used = n }) (record { imports = length d.imports; includes = length d.includes; used = length d.bytes })
    = cc in
    (d, refl, ap (λ (z : Rows). z.imports) e, ap (λ (z : Rows). z.includes) e, ap (λ (z : Rows). z.used) e)
parsed_good (bad r d) i j n h = let z : ◌≡◌ {A = ℕ} 0 1 = cc in absurd (omega arith)

pub parsed_refused : (x : Scan) (r : Refusal) → parsed_of x ≡ Err r → (d : Dependencies) × (x ≡ bad r d)
unfolding parsed_of
parsed_refused (good d) r h = let z : ◌≡◌ {A = ℕ} 0 1 = cc in absurd (omega arith)
parsed_refused (bad q d) r h = (d, cc)

-- ---- rows read back, from what the inner scan wrote and from what the entry leaves

module _ {s : List ℕ} (x : Dependencies) (k : Sound s x) where
  module _ {d t u e f g : List ℕ} (h : Holds x d t u e f g) where
    pub held_imports : most_rows * import_size ≤ length t → imports_in f (length x.imports) ≡ x.imports
    unfolding import_words_of
    held_imports room =
        ap (λ l. imports_in l (length x.imports)) h.imports
        ∙ imports_written x.imports t (sound_imports_plain k) (omega (arith, k.few_imports))

    pub held_includes : most_rows * include_size ≤ length u → includes_in g (length x.includes) ≡ x.includes
    unfolding include_words_of
    held_includes room =
        ap (λ l. includes_in l (length x.includes)) h.includes
        ∙ includes_written x.includes u (sound_includes_plain k) (omega (arith, k.few_includes))

  pub padded_imports : (n : ℕ) → imports_in (padded n (import_words_of x)) (length x.imports) ≡ x.imports
  unfolding import_words_of padded
  padded_imports n = imports_back x.imports _ (sound_imports_plain k)

  pub padded_includes : (n : ℕ) → includes_in (padded n (include_words_of x)) (length x.includes) ≡ x.includes
  unfolding include_words_of padded
  padded_includes n = includes_back x.includes _ (sound_includes_plain k)
