-- No import or include that the scan meets is passed over: a good scan goes on behind it with one row more, and rows stay to the end.
-- Assumes nothing.
use Rattle.std.specs.Prelude.{Some, Ok, Err, None, Result, Option}
use Prim.Native.Nat.{ℕ, zero, suc, ◌+◌, ◌-◌, ◌<◌, ◌≤◌}
use mathlib.Core.Path.{◌≡◌, refl, sym, ap, subst, ◌∙◌}
use mathlib.Core.Bool.{false}
use mathlib.Core.List.{List}
use native.Mathlib.Nat.{not-suc-le-zero}
use native.Mathlib.Omega.{arith}
use lib.Dec.{leb}
use lib.ListN.{length, get_or, length-append}
use Rattle.text.specs.Keyword.{match_at}
use Rattle.text.specs.Scan.{gap_end}
use Rattle.text.specs.Words.{import_word, include_word}
use Rattle.text.specs.declared.Cursor.{Cursor}
use Rattle.text.specs.declared.Refusal.{Refusal}
use Rattle.text.proofs.Here.{by_test}
use Rattle.text.proofs.KeywordLaws.{match_far}
use Rattle.scan_head.proofs.HeadLaws.{head_import, head_include}
use Rattle.scan_imports.specs.Statement.{import_at, include_at}
use Rattle.yangparser.specs.Dependencies.{Dependencies, none, joined, Step, import_step, include_step, unless_full, import_here, include_here, head_step, step_at}
use Rattle.yangparser.specs.Dependencies.{Scanning, good, bad, scan_turn, scan_from, start, scanned}
use Rattle.yangparser.specs.declared.Sofar.{Sofar}
use Rattle.yangparser.proofs.FarLaws.{step_said}
use Rattle.yangparser.proofs.ScanLaws.{Stands, stands_first, step_on, stands_step, scan_on, scan_done, scan_stop}
use Rattle.yangparser.proofs.StepLaws.{step_head}
use Rattle.demands_values.specs.Behind.{Reaches, first, next}
use Rattle.demands_values.proofs.BehindLaws.{other_not}
use Rattle.demands_values.proofs.ScanValues.{turn_is}
use Rattle.scan_rows.specs.declared.YangImport.{YangImport}
use Rattle.scan_rows.specs.declared.YangInclude.{YangInclude}

good_bad : {A : Type 0} {d e : Dependencies} {r : Refusal} → good d ≡ bad r e → A
good_bad h = let z : ◌≡◌ {A = ℕ} 0 1 = cc in absurd (omega arith)

same_read : {x y : Dependencies} → good x ≡ good y → x ≡ y
same_read h = cc

joined_counts : (x y : Dependencies)
    → (length (joined x y).imports ≡ length x.imports + length y.imports) × (length (joined x y).includes ≡ length x.includes + length y.includes)
unfolding joined
joined_counts x y = (length-append x.imports y.imports, length-append x.includes y.includes)

module _ (s : List ℕ) (d : Dependencies) where
  -- rows stay to the end; m: more than the bytes that are left
  rows_stay : (m : ℕ) (g : Scanning) → length s - g.far.at < m → Stands s g → scan_from false s g ≡ good d
      → (g.far.imports ≤ length d.imports) × (g.far.includes ≤ length d.includes)
  rows_stay zero g l f h = absurd (not-suc-le-zero l)
  rows_stay (suc m) g l f h = of (step_at false s g.far).answer refl (rows_stay m)
    where
      x : Step
      x = step_at false s g.far

      of : (r : Result (Option Sofar) Refusal) → x.answer ≡ r
          → ((b : Scanning) → length s - b.far.at < m → Stands s b → scan_from false s b ≡ good d
          → (b.far.imports ≤ length d.imports) × (b.far.includes ≤ length d.includes))
          → (g.far.imports ≤ length d.imports) × (g.far.includes ≤ length d.includes)
      of (Ok (Some n)) e go =
          let w = step_on s g f x (step_said false s g.far) n e in
          let k = go (record { far = n; read = joined g.read x.adds }) (omega (arith, w.0, w.1)) (stands_step s g f x (step_said false s g.far) n e)
          (sym (scan_on false s g n e) ∙ h) in
          (omega (arith, w.3, k.0), omega (arith, w.4, k.1))
      of (Ok None) e go =
          let q : joined g.read x.adds ≡ d = same_read (sym (scan_done false s g e) ∙ h) in
          let w = joined_counts g.read x.adds in
          (omega (arith, f.imports, w.0, ap (λ z. length z.imports) q), omega (arith, f.includes, w.1, ap (λ z. length z.includes) q))
      of (Err r) e go = good_bad (sym h ∙ scan_stop false s g r e)

  -- a state that is reached stands as said, and what is read from there is what is read of the whole
  reached_good : (g : Scanning) → Reaches (scan_turn false s) (record { far = start; read = none }) g → scanned false s ≡ good d → Stands s g
      × (scan_from false s g ≡ good d)
  unfolding scanned
  reached_good g first h = (stands_first s, h)
  reached_good g (next {b = b} r t) h =
      let k = reached_good b r h in
      let w = turn_is s b g t in
      subst (λ z. Stands s z × (scan_from false s z ≡ good d)) w.2
      (stands_step s b k.0 (step_at false s b.far) (step_said false s b.far) w.0 w.1, sym (scan_on false s b w.0 w.1) ∙ k.1)

-- ---- a step at a keyword: one row more, or a refusal

module _ (far : Sofar) where
  abbrev OneMore : (Sofar → ℕ) → Result (Option Sofar) Refusal → Type 0
  OneMore count (Ok (Some n)) = count n ≡ count far + 1
  OneMore count (Ok None) = ⊥
  OneMore count (Err r) = Unit {0}

  unless_full_lem : (count : Sofar → ℕ) (rows k at : ℕ) (x : Step) → OneMore count x.answer → OneMore count (unless_full rows k at x).answer
  unfolding unless_full
  unless_full_lem count rows k at x h = by_test (leb 256 rows) (λ t. rw t tt) (λ t. rw t h)

  import_one : (bs : List ℕ) (x : Result (Cursor × ℕ × YangImport) Refusal) → OneMore (λ n. n.imports) (import_step far bs x).answer
  unfolding import_step
  import_one bs (Ok (c, n, i)) = refl
  import_one bs (Err r) = tt

  include_one : (bs : List ℕ) (x : Result (Cursor × ℕ × YangInclude) Refusal) → OneMore (λ n. n.includes) (include_step far bs x).answer
  unfolding include_step
  include_one bs (Ok (c, n, i)) = refl
  include_one bs (Err r) = tt

differ : include_word ≡ import_word → ⊥
differ e = omega (arith, ap (λ l. get_or l 1 0) e)

module _ (s : List ℕ) (far : Sofar) (c : Cursor) where
  met_import : match_at s (gap_end s far.at) import_word ≡ Some c → OneMore far (λ n. n.imports) (step_at false s far).answer
  unfolding head_step import_here
  met_import m =
      let x = import_at false s c.at far.used in
      subst (λ z. OneMore far (λ n. n.imports) z.answer)
      (sym (step_head false s far refl (omega (arith, match_far s (gap_end s far.at) import_word c m)) refl (head_import s (gap_end s far.at) refl c m)))
      (unless_full_lem far (λ n. n.imports) far.imports 8 c.at (import_step far x.bytes x.answer) (import_one far x.bytes x.answer))

  met_include : match_at s (gap_end s far.at) include_word ≡ Some c → OneMore far (λ n. n.includes) (step_at false s far).answer
  unfolding head_step include_here
  met_include m =
      let p = gap_end s far.at in
      let x = include_at false s c.at far.used in
      subst (λ z. OneMore far (λ n. n.includes) z.answer)
      (sym (step_head false s far refl (omega (arith, match_far s p include_word c m)) refl
      (head_include s p refl (other_not s p include_word import_word m differ) refl c m)))
      (unless_full_lem far (λ n. n.includes) far.includes 9 c.at (include_step far x.bytes x.answer) (include_one far x.bytes x.answer))

-- ---- so each has its row

module _ (s : List ℕ) (d : Dependencies) (h : scanned false s ≡ good d) (g : Scanning)
    (reached : Reaches (scan_turn false s) (record { far = start; read = none }) g) where
  -- count: of imports or of includes, in d they are n
  row_more : (count : Sofar → ℕ) (n : ℕ)
      → ((b : Scanning) → Stands s b → scan_from false s b ≡ good d → count b.far ≤ n)
      → OneMore g.far count (step_at false s g.far).answer → count g.far < n
  row_more count n stay = of (step_at false s g.far).answer refl
    where
      k : Stands s g × (scan_from false s g ≡ good d)
      k = reached_good s d g reached h

      of : (r : Result (Option Sofar) Refusal) → (step_at false s g.far).answer ≡ r → OneMore g.far count r → count g.far < n
      of (Ok (Some m)) e o =
          let x = step_at false s g.far in
          omega (
            arith,
            o,
            stay (record { far = m; read = joined g.read x.adds }) (stands_step s g k.0 x (step_said false s g.far) m e)
                (sym (scan_on false s g m e) ∙ k.1),
          )
      of (Ok None) e o = absurd o
      of (Err r) e o = good_bad (sym k.1 ∙ scan_stop false s g r e)

  stays : (b : Scanning) → Stands s b → scan_from false s b ≡ good d → (b.far.imports ≤ length d.imports) × (b.far.includes ≤ length d.includes)
  stays b f e = rows_stay s d (suc (length s - b.far.at)) b (omega arith) f e

  pub import_has_row : (c : Cursor) → match_at s (gap_end s g.far.at) import_word ≡ Some c → g.far.imports < length d.imports
  import_has_row c m = row_more (λ n. n.imports) (length d.imports) (λ b f e. (stays b f e).0) (met_import s g.far c m)

  pub include_has_row : (c : Cursor) → match_at s (gap_end s g.far.at) include_word ≡ Some c → g.far.includes < length d.includes
  include_has_row c m = row_more (λ n. n.includes) (length d.includes) (λ b f e. (stays b f e).1) (met_include s g.far c m)
