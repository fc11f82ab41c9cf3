-- The loop of the scan: what was read so far stands in the store and the tables, and the scan from here is the scan of the text.
-- Assumes nothing.
use Rattle.std.specs.Prelude.{Ok, Some, None, Err, Result, Option}
use mathlib.Core.Path.{◌≡◌, refl, sym, ap, subst, ◌∙◌}
use mathlib.Core.Bool.{Bool}
use mathlib.Core.List.{List, [], ◌∷◌, ◌++◌, append_assoc}
use Prim.Native.Nat.{ℕ, ◌+◌, ◌-◌, ◌*◌, ◌<◌, ◌≤◌}
use native.Mathlib.Omega.{arith}
use lib.ListN.{length, length-append}
use lib.Seq.{sets, length-sets}
use Rattle.text.specs.declared.Refusal.{Refusal}
use Rattle.text_value.proofs.JoinLaws.{sets_twice}
use Rattle.scan_rows.specs.Rows.{import_size, include_size, table, import_table, include_table, import_words, include_words}
use Rattle.scan_rows.proofs.Laws.{imports_length, includes_length}
use Rattle.yangparser.specs.Dependencies.{Dependencies, none, joined, import_words_of, include_words_of, Scanning, Scan, good, bad, scan_from, start}
use Rattle.yangparser.specs.Dependencies.{scanned, parsed_of, read_of}
use Rattle.yangparser.specs.Promises.{Steps, Holds, Parses}
use Rattle.yangparser.specs.Seek.{step_from}
use Rattle.yangparser.specs.declared.Rows.{Rows}
use Rattle.yangparser.specs.declared.Sofar.{Sofar}
use Rattle.yangparser.proofs.ScanLaws.{Stands, stands_first, step_on, stands_step}
use Rattle.yangparser.proofs.SeekLaws.{from_said, from_ends, from_on, from_done, from_stop}

-- ---- tables of what is joined

table_append : {A : Type 0} (words : A → List ℕ) (is js : List A) → table words (is ++ js) ≡ table words is ++ table words js
unfolding table
table_append words [] js = refl
table_append words (i ∷ is) js = ap (λ l. words i ++ l) (table_append words is js) ∙ sym (append_assoc (words i) (table words is) (table words js))

module _ (x y : Dependencies) where
  import_words_joined : import_words_of x ++ import_words_of y ≡ import_words_of (joined x y)
  unfolding import_words_of import_table joined
  import_words_joined = sym (table_append import_words x.imports y.imports)

  include_words_joined : include_words_of x ++ include_words_of y ≡ include_words_of (joined x y)
  unfolding include_words_of include_table joined
  include_words_joined = sym (table_append include_words x.includes y.includes)

pub import_words_count : (x : Dependencies) → length (import_words_of x) ≡ length x.imports * import_size
unfolding import_words_of
import_words_count x = imports_length x.imports

pub include_words_count : (x : Dependencies) → length (include_words_of x) ≡ length x.includes * include_size
unfolding include_words_of
include_words_count x = includes_length x.includes

good_is : {i j b i' j' b' : ℕ} → i ≡ i' → j ≡ j' → b ≡ b'
    → ◌≡◌ {A = Result Rows Refusal} (Ok (record { imports = i; includes = j; used = b })) (Ok (record { imports = i'; includes = j'; used = b' }))
good_is p q r = rw p (rw q (rw r refl))

-- ---- the invariant: d, t and u at entry, e, f and g now

pub record Reading (whole : Bool) (s d t u e f g : List ℕ) (far : Sofar) : Type 0 where
  pub read : Dependencies
  pub same : scan_from whole s (record { far = far; read = read }) ≡ scanned whole s
  pub stands : Stands s (record { far = far; read = read })
  pub holds : Holds read d t u e f g

module _ {whole : Bool} {s d t u : List ℕ} where
  pub read_begun : Reading whole s d t u d t u start
  unfolding scanned import_words_of include_words_of import_table include_table table
  read_begun = record { read = none; same = refl; stands = stands_first s; holds = record { stored = refl; imports = refl; includes = refl } }

  module _ {e f g : List ℕ} {far : Sofar} (j : Reading whole s d t u e f g far) where
    pub read_long : (length e ≡ length d) × (length f ≡ length t) × (length g ≡ length u)
    read_long =
        let h = j.holds in
        let x = j.read in (
          ap length h.stored ∙ length-sets d 0 x.bytes,
          ap length h.imports ∙ length-sets t 0 (import_words_of x),
          ap length h.includes
              ∙ length-sets u 0 (include_words_of x),
        )

    pub read_room : far.used + (length s - far.at) ≤ length s
    read_room = j.stands.room

    -- r: what the step answered; e', f' and g' then
    module _ {r : Result (Option Sofar) Refusal} {e' f' g' : List ℕ} (w : Steps (step_from whole s far) far e f g r e' f' g') where
      read_holds : Holds (joined j.read (step_from whole s far).adds) d t u e' f' g'
      unfolding joined
      read_holds =
          let x = j.read in
          let y = (step_from whole s far).adds in
          let h = j.holds in
          let c = j.stands in
          record {
            stored = sets_twice d e e' 0 far.used x.bytes y.bytes h.stored (omega (arith, c.used)) w.stored;
            imports =
                sets_twice t f f' 0 (far.imports * import_size) (import_words_of x) (import_words_of y) h.imports
                (omega (arith, c.imports, import_words_count x)) w.imports
                ∙ ap (sets t 0) (import_words_joined x y);
            includes =
                sets_twice u g g' 0 (far.includes * include_size) (include_words_of x) (include_words_of y) h.includes
                (omega (arith, c.includes, include_words_count x)) w.includes
                ∙ ap (sets u 0) (include_words_joined x y);
          }

      pub read_nearer : (n : Sofar) → r ≡ Ok (Some n) → length s - n.at < length s - far.at
      read_nearer n h =
          let z = step_on s (record { far = far; read = j.read }) j.stands (step_from whole s far) (from_said whole s far) n (sym w.answer ∙ h) in
          omega (arith, z.0, z.1)

      pub read_more : (n : Sofar) → r ≡ Ok (Some n) → Reading whole s d t u e' f' g' n
      read_more n h =
          let k = sym w.answer ∙ h in
          let a : Scanning = record { far = far; read = j.read } in
          record {
            read = joined j.read (step_from whole s far).adds;
            same = sym (from_on whole s a n k) ∙ j.same;
            stands = stands_step s a j.stands (step_from whole s far) (from_said whole s far) n k;
            holds = read_holds;
          }

      -- x: the scan from here
      read_ends : (x : Scan) → scan_from whole s (record { far = far; read = j.read }) ≡ x → {p : Result Rows Refusal} → p ≡ parsed_of x → Holds (read_of x) d t u e' f' g'
          → Parses (scanned whole s) d t u p e' f' g'
      read_ends x q a h =
          let k : scanned whole s ≡ x = sym j.same ∙ q in
          record { answer = a ∙ ap parsed_of (sym k); holds = subst (λ y. Holds (read_of y) d t u e' f' g') (sym k) h }

      pub read_done : r ≡ (Ok None) → Parses (scanned whole s) d t u (Ok (record { imports = far.imports; includes = far.includes; used = far.used })) e' f' g'
      unfolding parsed_of read_of joined
      read_done h =
          let k = sym w.answer ∙ h in
          let x = j.read in
          let y = (step_from whole s far).adds in
          let c = j.stands in
          let n : y ≡ none = from_ends whole s far k in
          let i : far.imports ≡ length (x.imports ++ y.imports) = omega
          (arith, c.imports, length-append x.imports y.imports, ap (λ z. length z.imports) n) in
          let l : far.includes ≡ length (x.includes ++ y.includes) = omega
          (arith, c.includes, length-append x.includes y.includes, ap (λ z. length z.includes) n) in
          let b : far.used ≡ length (x.bytes ++ y.bytes) = omega (arith, c.used, length-append x.bytes y.bytes, ap (λ z. length z.bytes) n) in
          read_ends (good (joined x y)) (from_done whole s (record { far = far; read = x }) k) (good_is i l b) read_holds

      pub read_refused : (q : Refusal) → r ≡ Err q → {p : Result Rows Refusal} → p ≡ Err q → Parses (scanned whole s) d t u p e' f' g'
      unfolding parsed_of read_of
      read_refused q h pe =
          let k = sym w.answer ∙ h in
          read_ends (bad q (joined j.read (step_from whole s far).adds)) (from_stop whole s (record { far = far; read = j.read }) q k) pe read_holds
