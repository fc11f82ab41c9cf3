-- The page: rows read back are the rows that were read, values lie among the bytes that were stored, and what goes around them fits into the 6,944 bytes by
-- which the page is longer than the text.
-- Assumes nothing.
use Rattle.std.specs.Prelude.{Ok, Err, Result}
use mathlib.Core.Path.{◌≡◌, refl, sym, ap, subst, ◌∙◌}
use mathlib.Core.Bool.{Bool, true, false}
use mathlib.Core.List.{List, []}
use Prim.Native.Nat.{ℕ, ◌+◌, ◌-◌, ◌*◌, ◌≤◌}
use native.Mathlib.Omega.{arith}
use lib.ListN.{length}
use lib.Seq.{sets}
use borrow.Author.Tests.{ltb-false}
use Rattle.text.specs.declared.Refusal.{Refusal}
use Rattle.text_lent.specs.Padded.{zeros, padded}
use Rattle.text_lent.proofs.Clears.{written_zero, padded_none}
use Rattle.scan_rows.specs.Rows.{ImportWithin, IncludeWithin}
use Rattle.scan_rows.specs.Sizes.{import_sizes, include_sizes}
use Rattle.scan_rows.specs.declared.YangImport.{YangImport}
use Rattle.scan_rows.specs.declared.YangInclude.{YangInclude}
use Rattle.scan_block.proofs.Spans.{may_end}
use Rattle.scan_printed.specs.Printed.{printed, printed_rows}
use Rattle.scan_printed.proofs.Padded.{printed_more}
use Rattle.scan_printed.proofs.Sizes.{printed_size}
use Rattle.yangparser.specs.Dependencies.{Dependencies, import_words_of, include_words_of, Scan, good, bad, page_short, dependencies, read_of, kept_of}
use Rattle.scan_rows.specs.Short.{is_too_short}
use Rattle.yangparser.specs.Promises.{Leaves, Extracts}
use Rattle.yangparser.specs.declared.Rows.{Rows}
use Rattle.yangparser.proofs.KeptLaws.{entry_good, parsed_good, parsed_refused, padded_imports, padded_includes}
use Rattle.scan_rows.proofs.ShortLaws.{long_enough}
use Rattle.scan_rows.proofs.Laws.{each_of}
use Rattle.yangparser.proofs.Placed.{ImportIn, IncludeIn}
use Rattle.yangparser.proofs.ScanLaws.{Sound, scan_sound}
use Rattle.scan_page.specs.Page.{page_of, Prints}

-- ---- lengths

module _ (text page : ℕ) where
  -- nothing else is too short
  not_else : (a : Bool) (store imports includes : ℕ) → is_too_short a text store imports includes ≡ false → a ≡ false
  unfolding is_too_short
  not_else true store imports includes h = h
  not_else false store imports includes h = refl

  page_long : page_short text page ≡ false → text + 6944 ≤ page
  unfolding page_short
  page_long h = ltb-false page (text + 6944) h

-- ---- a good scan

-- its values lie among its bytes
import_within : {n : ℕ} (i : YangImport) → ImportIn 0 n i → ImportWithin n i
import_within i l = (l.0.2, l.1.2, may_end l.2)

include_within : {n : ℕ} (i : YangInclude) → IncludeIn 0 n i → IncludeWithin n i
include_within i l = (l.0.2, may_end l.1)

module _ {s : List ℕ} (x : Dependencies) (k : Sound s x) where
  -- read back from what the scan left
  page_is : (a b c : ℕ) → printed_rows (padded a x.bytes) (padded b (import_words_of x)) (length x.imports) (padded c (include_words_of x))
      (length x.includes)
      ≡ printed x.bytes x.imports x.includes
  unfolding padded
  page_is a b c =
      let bs = x.bytes in
      rw (padded_imports x k b) (rw (padded_includes x k c)
      (printed_more bs (zeros (a - length bs)) x.imports x.includes
      (each_of (ImportIn 0 (length bs)) (ImportWithin (length bs)) import_within x.imports k.placed.imports)
      (each_of (IncludeIn 0 (length bs)) (IncludeWithin (length bs)) include_within x.includes k.placed.includes)))

  page_size : length (printed x.bytes x.imports x.includes) ≤ 6944 + length s
  unfolding import_sizes include_sizes
  page_size = omega (arith, printed_size x.bytes x.imports x.includes k.few_imports k.few_includes, k.placed.sizes, k.short)

pub good_sound : (whole : Bool) (s : List ℕ) (z : Bool) (x : Dependencies) → dependencies whole s z ≡ good x → Sound s x
unfolding read_of
good_sound whole s z x h = subst (λ y. Sound s (read_of y)) (entry_good whole s z x h).0 (scan_sound whole s)

-- of any scan
pub page_fits : (whole : Bool) (s : List ℕ) (z : Bool) → length (page_of (dependencies whole s z)) ≤ 6944 + 1048576
unfolding page_of
page_fits whole s z = by_scan (dependencies whole s z) refl
  where
    by_scan : (x : Scan) → dependencies whole s z ≡ x → length (page_of x) ≤ 6944 + 1048576
    by_scan (good x) h = omega (arith, page_size x (good_sound whole s z x h), (entry_good whole s z x h).1)
    by_scan (bad r x) h = omega arith

same_rows : {a b c e f g : List ℕ} {m n i j : ℕ} → a ≡ e → b ≡ f → m ≡ i → c ≡ g → n ≡ j → printed_rows a b m c n ≡ printed_rows e f i g j
same_rows p q o v w = rw p (rw q (rw o (rw v (rw w refl))))

-- ---- what a scan left, and the page of it; z: whether something lent was too short

module _ (whole : Bool) (s : List ℕ) (z : Bool) (d t u : List ℕ) {r : Result Rows Refusal} {e f g : List ℕ} (w : Leaves (dependencies whole s z) d t u r e f g) where
  refused_page : (y : Refusal) → r ≡ Err y → [] ≡ page_of (dependencies whole s z)
  unfolding page_of
  refused_page y h = sym (ap page_of (parsed_refused (dependencies whole s z) y (sym w.answer ∙ h)).1)

  module _ (m n k : ℕ) (h : r ≡ Ok (record { imports = m; includes = n; used = k })) where
    was : (x : Dependencies) × (dependencies whole s z ≡ good x) × (m ≡ length x.imports) × (n ≡ length x.includes) × (k ≡ length x.bytes)
    was = parsed_good (dependencies whole s z) m n k (sym w.answer ∙ h)

    it : Dependencies
    it = was.0

    sound : Sound s it
    unfolding it
    sound = good_sound whole s z it was.1

    kept : kept_of (dependencies whole s z) ≡ it
    unfolding kept_of it
    kept = ap kept_of was.1

    good_page : page_of (dependencies whole s z) ≡ printed it.bytes it.imports it.includes
    unfolding page_of it
    good_page = ap page_of was.1

    pub rows_are : printed_rows e f m g n ≡ page_of (dependencies whole s z)
    unfolding it
    rows_are =
        let x = it in
        let ee : e ≡ padded (length d) x.bytes = w.stored ∙ ap (λ y. padded (length d) y.bytes) kept in
        let fe : f ≡ padded (length t) (import_words_of x) = w.imports ∙ ap (λ y. padded (length t) (import_words_of y)) kept in
        let ge : g ≡ padded (length u) (include_words_of x) = w.includes ∙ ap (λ y. padded (length u) (include_words_of y)) kept in
        same_rows ee fe was.2 ge was.3 ∙ page_is x sound (length d) (length t) (length u) ∙ sym good_page

    fits : length (page_of (dependencies whole s z)) ≤ 6944 + length s
    fits = rw good_page (page_size it sound)

    few : (m ≤ 256) × (n ≤ 256)
    unfolding it
    few = (omega (arith, was.2, sound.few_imports), omega (arith, was.3, sound.few_includes))

    enough : z ≡ false
    unfolding it
    enough = (entry_good whole s z it was.1).2

-- ---- the function; d, t, u and p: what was lent, q: the page cleared, e, f and g: what the scan left

module _ (whole : Bool) (s d t u p : List ℕ) {q : List ℕ} (qe : q ≡ zeros (length p)) (ql : length q ≡ length p) {short : Bool}
    (se : short ≡ page_short (length s) (length q))
    {r : Result Rows Refusal} {e f g : List ℕ} (w : Extracts whole s short d t u r e f g) where
  left : Extracts whole s (page_short (length s) (length p)) d t u r e f g
  left =
      subst (λ b. Extracts whole s b d t u r e f g) (se ∙ ap (page_short (length s)) ql) w

  pub page_refused : (y : Refusal) → r ≡ Err y → Prints whole s d t u p (record { parsed = r; length = 0 }) e f g q
  page_refused y h =
      let b = is_too_short (page_short (length s) (length p)) (length s) (length d) (length t) (length u) in
      let none = refused_page whole s b d t u left y h in
      record { scan = left; length_is = ap length none; page = qe ∙ padded_none (length p) ∙ ap (padded (length p)) none }

  module _ (m n k : ℕ) (h : r ≡ Ok (record { imports = m; includes = n; used = k })) where
    -- all that was lent is long enough
    long : is_too_short (page_short (length s) (length p)) (length s) (length d) (length t) (length u) ≡ false
    long = enough whole s (is_too_short (page_short (length s) (length p)) (length s) (length d) (length t) (length u)) d t u left m n k h

    all : printed_rows e f m g n ≡ page_of (dependencies whole s (is_too_short (page_short (length s) (length p)) (length s) (length d) (length t) (length u)))
    all = rows_are whole s (is_too_short (page_short (length s) (length p)) (length s) (length d) (length t) (length u)) d t u left m n k h

    page_room : length (printed_rows e f m g n) ≤ length q
    page_room =
        let a = page_short (length s) (length p) in
        let b = is_too_short a (length s) (length d) (length t) (length u) in
        let v = page_long (length s) (length p) (not_else (length s) (length p) a (length d) (length t) (length u) long) in
        omega (arith, ap length all, fits whole s b d t u left m n k h, v, ql)

    pub print_room : length e ≡ length d → length f ≡ length t → length g ≡ length u
        → (m ≤ 256) × (256 * 7 ≤ length f) × (n ≤ 256) × (256 * 5 ≤ length g) × (length (printed_rows e f m g n) ≤ length q)
    print_room el fl gl =
        let a = page_short (length s) (length p) in
        let b = is_too_short a (length s) (length d) (length t) (length u) in
        let l = long_enough a (length s) (length d) (length t) (length u) long in
        let c = few whole s b d t u left m n k h in
        (c.0, omega (arith, l.1, fl), c.1, omega (arith, l.2, gl), page_room)

    pub page_printed : {l : ℕ} {o : List ℕ} → l ≡ length (printed_rows e f m g n) → o ≡ sets q 0 (printed_rows e f m g n)
        → Prints whole s d t u p (record { parsed = Ok (record { imports = m; includes = n; used = k }); length = l }) e f g o
    page_printed {l} {o} le oe = record {
      scan = subst (λ y. Extracts whole s (page_short (length s) (length p)) d t u y e f g) h left;
      length_is = le ∙ ap length all;
      page = written_zero p (printed_rows e f m g n) qe oe (omega (arith, ql, page_room)) ∙ ap (padded (length p)) all;
    }
