-- The entries: what a scan writes into zeros is what it read and zeros behind it, and a refusal leaves zeros, whatever was written before it.
-- Assumes nothing.
use Rattle.std.specs.Prelude.{Ok, Err, Result}
use Rattle.std.specs.Result.{is_err}
use mathlib.Core.Path.{◌≡◌, refl, sym, ap, subst, ◌∙◌}
use mathlib.Core.Bool.{Bool, true, false}
use mathlib.Core.List.{List}
use Prim.Native.Nat.{ℕ, ◌*◌, ◌<◌, ◌≤◌}
use native.Mathlib.Omega.{arith}
use lib.ListN.{length}
use Rattle.text.specs.declared.Refusal.{Refusal}
use Rattle.text_lent.specs.Lent.{lent_at}
use Rattle.text_lent.specs.Padded.{zeros, padded}
use Rattle.text_lent.proofs.Clears.{written_zero, padded_none}
use Rattle.text_lent.proofs.LentLaws.{fit_said}
use Rattle.scan_rows.specs.Rows.{import_size, include_size, most_rows, import_table, include_table, table}
use Rattle.yangparser.specs.Dependencies.{Dependencies, none, import_words_of, include_words_of, Scan, good, bad, scanned, if_fit, dependencies, parsed_of}
use Rattle.yangparser.specs.Dependencies.{read_of, kept_of}
use Rattle.scan_rows.specs.Short.{is_too_short}
use Rattle.yangparser.specs.Promises.{Holds, Parses, Leaves, lent_scan, Scans, Extracts}
use Rattle.yangparser.specs.declared.Rows.{Rows}
use Rattle.scan_rows.proofs.ShortLaws.{long_enough}
use Rattle.yangparser.proofs.LoopLaws.{import_words_count, include_words_count}
use Rattle.yangparser.proofs.ScanLaws.{Sound, scan_sound}
use Rattle.yangparser.proofs.KeptLaws.{parsed_good, entry_good}

-- ---- what is kept

kept_bad : (x : Scan) (r : Refusal) → parsed_of x ≡ Err r → kept_of x ≡ none
unfolding parsed_of kept_of
kept_bad (good d) r h = let z : ◌≡◌ {A = ℕ} 0 1 = cc in absurd (omega arith)
kept_bad (bad q d) r h = refl

-- y: what x keeps
leaves_is : (x : Scan) (y : Dependencies) (d t u : List ℕ) {r : Result Rows Refusal} {e f g : List ℕ} → kept_of x ≡ y → r ≡ parsed_of x
    → e ≡ padded (length d) y.bytes → f ≡ padded (length t) (import_words_of y) → g ≡ padded (length u) (include_words_of y) → Leaves x d t u r e f g
leaves_is x y d t u k a p q w = record {
  answer = a;
  stored = p ∙ ap (λ z. padded (length d) z.bytes) (sym k);
  imports = q ∙ ap (λ z. padded (length t) (import_words_of z)) (sym k);
  includes = w ∙ ap (λ z. padded (length u) (include_words_of z)) (sym k);
}

-- all is zero, with the lengths that were lent
leaves_zero : (x : Scan) (d t u : List ℕ) {r : Result Rows Refusal} {e f g : List ℕ} → kept_of x ≡ none → r ≡ parsed_of x
    → e ≡ zeros (length d) → f ≡ zeros (length t) → g ≡ zeros (length u) → Leaves x d t u r e f g
unfolding import_words_of include_words_of import_table include_table table
leaves_zero x d t u k a p q w =
    leaves_is x none d t u k a (p ∙ padded_none (length d)) (q ∙ padded_none (length t)) (w ∙ padded_none (length u))

-- ---- the scan over what was lent, d, t and u

module _ (whole : Bool) (s : List ℕ) (else : Bool) (d t u : List ℕ) {short : Bool} (se : short ≡ is_too_short else (length s) (length d) (length t) (length u))
    {lent : Result (Unit {0}) Refusal} (le : lent ≡ lent_at s short) where
  scan_is : {x : Result (Unit {0}) Refusal} → lent ≡ x → lent_scan whole s else d t u ≡ if_fit x (scanned whole s)
  unfolding dependencies
  scan_is h = ap (λ b. if_fit (lent_at s b) (scanned whole s)) (sym se) ∙ ap (λ l. if_fit l (scanned whole s)) (sym le ∙ h)

  pub over_fits : lent ≡ (Ok tt)
      → (length s ≤ length d) × (length s < 4294967296) × (most_rows * import_size ≤ length t) × (most_rows * include_size ≤ length u)
  over_fits h =
      let k = fit_said s short (sym le ∙ h) in
      let l = long_enough else (length s) (length d) (length t) (length u) (sym se ∙ k.1) in
      (l.0, omega (arith, k.0), l.1, l.2)

  pub over_scanned : lent ≡ (Ok tt) → {r : Result Rows Refusal} {e f g : List ℕ} → Parses (scanned whole s) d t u r e f g → Scans whole s else d t u r e f g
  unfolding if_fit
  over_scanned h {r} {e} {f} {g} w = subst (λ x. Parses x d t u r e f g) (sym (scan_is h)) w

  pub over_refused : (r : Refusal) → lent ≡ Err r → {p : Result Rows Refusal} → p ≡ Err r → Scans whole s else d t u p d t u
  unfolding if_fit read_of parsed_of import_words_of include_words_of import_table include_table table
  over_refused r h {p} e =
      subst (λ x. Parses x d t u p d t u) (sym (scan_is h))
      (record { answer = e; holds = record { stored = refl; imports = refl; includes = refl } })

-- ---- what the test of an answer tells

said_good : (p : Result Rows Refusal) → is_err p ≡ false → (x : Rows) × (p ≡ Ok x)
said_good (Ok x) h = (x, refl)
said_good (Err r) h = absurd (cc)

said_bad : (p : Result Rows Refusal) → is_err p ≡ true → (r : Refusal) × (p ≡ Err r)
said_bad (Ok x) h = absurd (cc)
said_bad (Err r) h = (r, refl)

-- ---- the entry; d, t and u: what was lent, e, f and g: the same cleared, after the scan e', f' and g'

module _ (whole : Bool) (s : List ℕ) (else : Bool) (d t u : List ℕ) {e f g : List ℕ} (ee : e ≡ zeros (length d)) (fe : f ≡ zeros (length t))
    (ge : g ≡ zeros (length u))
    (el : length e ≡ length d) (fl : length f ≡ length t) (gl : length g ≡ length u)
    {p : Result Rows Refusal} {e' f' g' : List ℕ} (w : Scans whole s else e f g p e' f' g') where
  lent_is : lent_scan whole s else e f g ≡ lent_scan whole s else d t u
  lent_is = rw el (rw fl (rw gl refl))

  entry_scanned : (i j n : ℕ) → p ≡ Ok (record { imports = i; includes = j; used = n }) → Extracts whole s else d t u p e' f' g'
  unfolding read_of kept_of
  entry_scanned i j n h =
      let k = parsed_good (lent_scan whole s else e f g) i j n (sym w.answer ∙ h) in
      let x = k.0 in
      let good = entry_good whole s (is_too_short else (length s) (length e) (length f) (length g)) x k.1 in
      let l = long_enough else (length s) (length e) (length f) (length g) good.2 in
      let read : Sound s x = subst (λ y. Sound s (read_of y)) good.0 (scan_sound whole s) in
      let v : Holds x e f g e' f' g' = subst (λ y. Holds (read_of y) e f g e' f' g') k.1 w.holds in
      let y = lent_scan whole s else d t u in
      leaves_is y x d t u (ap kept_of (sym lent_is ∙ k.1)) (w.answer ∙ ap parsed_of lent_is)
      (written_zero e x.bytes (ee ∙ ap zeros (sym el)) v.stored (omega (arith, read.short, l.0)) ∙ ap (λ n. padded n x.bytes) el)
      (written_zero f (import_words_of x) (fe ∙ ap zeros (sym fl)) v.imports (omega (arith, read.few_imports, import_words_count x, l.1))
      ∙ ap (λ n. padded n (import_words_of x)) fl)
      (written_zero g (include_words_of x) (ge ∙ ap zeros (sym gl)) v.includes (omega (arith, read.few_includes, include_words_count x, l.2))
      ∙ ap (λ n. padded n (include_words_of x)) gl)

  entry_refused : (r : Refusal) → p ≡ Err r → length e' ≡ length e → length f' ≡ length f → length g' ≡ length g
      → {e'' f'' g'' : List ℕ} → e'' ≡ zeros (length e') → f'' ≡ zeros (length f') → g'' ≡ zeros (length g') → Extracts whole s else d t u p e'' f'' g''
  entry_refused r h l m n {e''} {f''} {g''} a b q =
      let x = lent_scan whole s else e f g in
      subst (λ y. Leaves y d t u p e'' f'' g'') lent_is
      (leaves_zero x d t u (kept_bad x r (sym w.answer ∙ h)) w.answer (a ∙ ap zeros (l ∙ el)) (b ∙ ap zeros (m ∙ fl)) (q ∙ ap zeros (n ∙ gl)))

  -- b: whether it is refused
  module _ {b : Bool} (be : b ≡ is_err p) where
    pub entry_kept : b ≡ false → Extracts whole s else d t u p e' f' g'
    entry_kept h = let k = said_good p (sym be ∙ h) in entry_scanned k.0.imports k.0.includes k.0.used k.1

    pub entry_cleared : b ≡ true → length e' ≡ length e → length f' ≡ length f → length g' ≡ length g
        → {e'' f'' g'' : List ℕ} → e'' ≡ zeros (length e') → f'' ≡ zeros (length f') → g'' ≡ zeros (length g') → Extracts whole s else d t u p e'' f'' g''
    entry_cleared h l m n a o q = let k = said_bad p (sym be ∙ h) in entry_refused k.0 k.1 l m n a o q
