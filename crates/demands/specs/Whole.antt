-- 2026-07: "Downloads break off inside a skipped statement, and the metadata comes out as if the text were whole." In the whole-text mode such an end is
-- refused by 11. Here stands what that mode is beside the old one, of the scans and of a host's calls; and the readings of the request, as one list with one
-- claim: the definitions compute each answer.
-- Assumes nothing.
use Rattle.std.specs.Prelude.{ℕ, ◌≡◌, Bool, true, false, ◌&&◌, ◌⊎◌, T, length}
use mathlib.Core.List.{List, [], ◌∷◌, Memᴰ}
use Rattle.text.specs.Keyword.{same}
use Rattle.text.specs.declared.Refusal.{Refusal}
use Rattle.yangparser.specs.Dependencies.{dependencies}
use Rattle.scan_metadata.specs.Metadata.{metadata}
use Rattle.nuvaleta.specs.Host.{DependenciesAnswered, PrintedAnswered}
use Rattle.nuvaleta.specs.Record.{MetadataAnswered}
use Rattle.demands_scans.specs.Whole.{OldMode, told_dependencies, told_metadata, DependenciesWhole, MetadataWhole, old_dependencies, old_metadata}

-- ---- the readings: D is the dependency scan, M the metadata scan

-- a text, and number, keyword and position in the old mode and in the whole-text mode; 0, 0, 0 where the scan is good
pub data Reading : Type 0 where
  D : List ℕ → (old whole : List ℕ) → Reading
  M : List ℕ → (old whole : List ℕ) → Reading

unfoldable pub answer : Refusal → List ℕ
answer r = r.number ∷ r.keyword ∷ r.at ∷ []

unfoldable pub holds : Reading → Bool
holds (D s old whole) =
    same (answer (told_dependencies (dependencies false s false))) old && same (answer (told_dependencies (dependencies true s false))) whole
holds (M s old whole) = same (answer (told_metadata (metadata false s false))) old && same (answer (told_metadata (metadata true s false))) whole

unfoldable pub all : List Reading → Bool
all [] = true
all (x ∷ xs) = holds x && all xs

-- the texts: M module m{belongs-to p | M module m{prefix p;prefix | M module m{revision 2020-01-01{ | D import a{x | D import a{x/*c | D x "abc | M " |
-- D "\" | D import "a | D import "a"+"b | M module m{belongs-to "p"+"x | M yang-version "1 | D import a{ | D import a{x; | D import a{/*c |
-- D import a{prefix | D include a | M module m{revision 2020-01-01 | M module m{/*cut | M module m{ description cut | D //cut | D description "cut |
-- M module m{belongs-to p} | D import a{} "x | D import a b "x
unfoldable pub readings : List Reading
readings =
    M (109 ∷ 111 ∷ 100 ∷ 117 ∷ 108 ∷ 101 ∷ 32 ∷ 109 ∷ 123 ∷ 98 ∷ 101 ∷ 108 ∷ 111 ∷ 110 ∷ 103 ∷ 115 ∷ 45 ∷ 116 ∷ 111 ∷ 32 ∷ 112 ∷ []) (0 ∷ 0 ∷ 0 ∷ [])
    (11 ∷ 0 ∷ 21 ∷ [])
    ∷ M (109 ∷ 111 ∷ 100 ∷ 117 ∷ 108 ∷ 101 ∷ 32 ∷ 109 ∷ 123 ∷ 112 ∷ 114 ∷ 101 ∷ 102 ∷ 105 ∷ 120 ∷ 32 ∷ 112 ∷ 59 ∷ 112 ∷ 114 ∷ 101 ∷ 102 ∷ 105 ∷ 120 ∷ [])
    (0 ∷ 0 ∷ 0 ∷ []) (11 ∷ 0 ∷ 24 ∷ [])
    ∷ M (109 ∷ 111 ∷ 100 ∷ 117 ∷ 108 ∷ 101 ∷ 32 ∷ 109 ∷ 123 ∷ 114 ∷ 101 ∷ 118 ∷ 105 ∷ 115 ∷ 105 ∷ 111 ∷ 110 ∷ 32 ∷ 50 ∷ 48 ∷ 50 ∷ 48 ∷ 45 ∷ 48 ∷ 49 ∷ 45 ∷ 48
    ∷ 49 ∷ 123 ∷ []) (0 ∷ 0 ∷ 0 ∷ []) (11 ∷ 0 ∷ 29 ∷ [])
    ∷ D (105 ∷ 109 ∷ 112 ∷ 111 ∷ 114 ∷ 116 ∷ 32 ∷ 97 ∷ 123 ∷ 120 ∷ []) (8 ∷ 8 ∷ 10 ∷ []) (11 ∷ 0 ∷ 10 ∷ [])
    ∷ D (105 ∷ 109 ∷ 112 ∷ 111 ∷ 114 ∷ 116 ∷ 32 ∷ 97 ∷ 123 ∷ 120 ∷ 47 ∷ 42 ∷ 99 ∷ []) (8 ∷ 8 ∷ 13 ∷ []) (11 ∷ 0 ∷ 13 ∷ [])
    ∷ D (120 ∷ 32 ∷ 34 ∷ 97 ∷ 98 ∷ 99 ∷ []) (0 ∷ 0 ∷ 0 ∷ []) (11 ∷ 0 ∷ 6 ∷ [])
    ∷ M (34 ∷ []) (9 ∷ 0 ∷ 1 ∷ []) (11 ∷ 0 ∷ 1 ∷ [])
    ∷ D (34 ∷ 92 ∷ 34 ∷ []) (0 ∷ 0 ∷ 0 ∷ []) (11 ∷ 0 ∷ 3 ∷ [])
    ∷ D (105 ∷ 109 ∷ 112 ∷ 111 ∷ 114 ∷ 116 ∷ 32 ∷ 34 ∷ 97 ∷ []) (4 ∷ 8 ∷ 9 ∷ []) (11 ∷ 0 ∷ 9 ∷ [])
    ∷ D (105 ∷ 109 ∷ 112 ∷ 111 ∷ 114 ∷ 116 ∷ 32 ∷ 34 ∷ 97 ∷ 34 ∷ 43 ∷ 34 ∷ 98 ∷ []) (6 ∷ 8 ∷ 13 ∷ []) (11 ∷ 0 ∷ 13 ∷ [])
    ∷ M (109 ∷ 111 ∷ 100 ∷ 117 ∷ 108 ∷ 101 ∷ 32 ∷ 109 ∷ 123 ∷ 98 ∷ 101 ∷ 108 ∷ 111 ∷ 110 ∷ 103 ∷ 115 ∷ 45 ∷ 116 ∷ 111 ∷ 32 ∷ 34 ∷ 112 ∷ 34 ∷ 43 ∷ 34 ∷ 120 ∷
    []) (0 ∷ 0 ∷ 0 ∷ []) (11 ∷ 0 ∷ 26 ∷ [])
    ∷ M (121 ∷ 97 ∷ 110 ∷ 103 ∷ 45 ∷ 118 ∷ 101 ∷ 114 ∷ 115 ∷ 105 ∷ 111 ∷ 110 ∷ 32 ∷ 34 ∷ 49 ∷ []) (6 ∷ 6 ∷ 15 ∷ []) (11 ∷ 0 ∷ 15 ∷ [])
    ∷ D (105 ∷ 109 ∷ 112 ∷ 111 ∷ 114 ∷ 116 ∷ 32 ∷ 97 ∷ 123 ∷ []) (8 ∷ 8 ∷ 9 ∷ []) (8 ∷ 8 ∷ 9 ∷ [])
    ∷ D (105 ∷ 109 ∷ 112 ∷ 111 ∷ 114 ∷ 116 ∷ 32 ∷ 97 ∷ 123 ∷ 120 ∷ 59 ∷ []) (8 ∷ 8 ∷ 11 ∷ []) (8 ∷ 8 ∷ 11 ∷ [])
    ∷ D (105 ∷ 109 ∷ 112 ∷ 111 ∷ 114 ∷ 116 ∷ 32 ∷ 97 ∷ 123 ∷ 47 ∷ 42 ∷ 99 ∷ []) (8 ∷ 8 ∷ 12 ∷ []) (8 ∷ 8 ∷ 12 ∷ [])
    ∷ D (105 ∷ 109 ∷ 112 ∷ 111 ∷ 114 ∷ 116 ∷ 32 ∷ 97 ∷ 123 ∷ 112 ∷ 114 ∷ 101 ∷ 102 ∷ 105 ∷ 120 ∷ []) (4 ∷ 5 ∷ 15 ∷ []) (4 ∷ 5 ∷ 15 ∷ [])
    ∷ D (105 ∷ 110 ∷ 99 ∷ 108 ∷ 117 ∷ 100 ∷ 101 ∷ 32 ∷ 97 ∷ []) (6 ∷ 9 ∷ 9 ∷ []) (6 ∷ 9 ∷ 9 ∷ [])
    ∷ M (109 ∷ 111 ∷ 100 ∷ 117 ∷ 108 ∷ 101 ∷ 32 ∷ 109 ∷ 123 ∷ 114 ∷ 101 ∷ 118 ∷ 105 ∷ 115 ∷ 105 ∷ 111 ∷ 110 ∷ 32 ∷ 50 ∷ 48 ∷ 50 ∷ 48 ∷ 45 ∷ 48 ∷ 49 ∷ 45 ∷ 48
    ∷ 49 ∷ []) (6 ∷ 7 ∷ 28 ∷ []) (6 ∷ 7 ∷ 28 ∷ [])
    ∷ M (109 ∷ 111 ∷ 100 ∷ 117 ∷ 108 ∷ 101 ∷ 32 ∷ 109 ∷ 123 ∷ 47 ∷ 42 ∷ 99 ∷ 117 ∷ 116 ∷ []) (0 ∷ 0 ∷ 0 ∷ []) (0 ∷ 0 ∷ 0 ∷ [])
    ∷ M (109 ∷ 111 ∷ 100 ∷ 117 ∷ 108 ∷ 101 ∷ 32 ∷ 109 ∷ 123 ∷ 32 ∷ 100 ∷ 101 ∷ 115 ∷ 99 ∷ 114 ∷ 105 ∷ 112 ∷ 116 ∷ 105 ∷ 111 ∷ 110 ∷ 32 ∷ 99 ∷ 117 ∷ 116 ∷ [])
    (0 ∷ 0 ∷ 0 ∷ []) (0 ∷ 0 ∷ 0 ∷ [])
    ∷ D (47 ∷ 47 ∷ 99 ∷ 117 ∷ 116 ∷ []) (0 ∷ 0 ∷ 0 ∷ []) (0 ∷ 0 ∷ 0 ∷ [])
    ∷ D (100 ∷ 101 ∷ 115 ∷ 99 ∷ 114 ∷ 105 ∷ 112 ∷ 116 ∷ 105 ∷ 111 ∷ 110 ∷ 32 ∷ 34 ∷ 99 ∷ 117 ∷ 116 ∷ []) (0 ∷ 0 ∷ 0 ∷ []) (0 ∷ 0 ∷ 0 ∷ [])
    ∷ M (109 ∷ 111 ∷ 100 ∷ 117 ∷ 108 ∷ 101 ∷ 32 ∷ 109 ∷ 123 ∷ 98 ∷ 101 ∷ 108 ∷ 111 ∷ 110 ∷ 103 ∷ 115 ∷ 45 ∷ 116 ∷ 111 ∷ 32 ∷ 112 ∷ 125 ∷ []) (0 ∷ 0 ∷ 0 ∷ [])
    (0 ∷ 0 ∷ 0 ∷ [])
    ∷ D (105 ∷ 109 ∷ 112 ∷ 111 ∷ 114 ∷ 116 ∷ 32 ∷ 97 ∷ 123 ∷ 125 ∷ 32 ∷ 34 ∷ 120 ∷ []) (7 ∷ 8 ∷ 10 ∷ []) (7 ∷ 8 ∷ 10 ∷ [])
    ∷ D (105 ∷ 109 ∷ 112 ∷ 111 ∷ 114 ∷ 116 ∷ 32 ∷ 97 ∷ 32 ∷ 98 ∷ 32 ∷ 34 ∷ 120 ∷ []) (5 ∷ 8 ∷ 9 ∷ []) (5 ∷ 8 ∷ 9 ∷ [])
    ∷ []

-- ---- the demand

-- Of a host's calls: what was lent is the same. n, a, w and what else is left with an accent: the old call's. The two are equal; or the call in the whole-text
-- mode is 11 with the text's length, and the old one's number is one of four. That all which was lent is zero then is in Demand1.
pub record WholeMode : Type 0 where
  -- the old mode is what it was
  pub old_mode : OldMode
  -- the scans, of every text, whatever is lent
  pub dependencies : DependenciesWhole
  pub metadata : MetadataWhole
  -- nuvaleta_dependencies_whole, nuvaleta_printed_whole, nuvaleta_metadata_whole; d, t, u, p: store, tables and page, of any length
  pub host_dependencies : (s d t u : List ℕ) {n n' : ℕ} {e f g a e' f' g' a' : List ℕ}
      → DependenciesAnswered true s d t u n e f g a → DependenciesAnswered false s d t u n' e' f' g' a'
      → ((n ≡ n') × (e ≡ e') × (f ≡ f') × (g ≡ g') × (a ≡ a'))
      ⊎ ((n ≡ 11) × (a ≡ 11 ∷ 0 ∷ length s ∷ 0 ∷ 0 ∷ 0 ∷ []) × Memᴰ n' old_dependencies)
  pub host_printed : (s d t u p : List ℕ) {n n' : ℕ} {e f g q a e' f' g' q' a' : List ℕ}
      → PrintedAnswered true s d t u p n e f g q a → PrintedAnswered false s d t u p n' e' f' g' q' a'
      → ((n ≡ n') × (e ≡ e') × (f ≡ f') × (g ≡ g') × (q ≡ q') × (a ≡ a'))
      ⊎ ((n ≡ 11) × (a ≡ 11 ∷ 0 ∷ length s ∷ 0 ∷ 0 ∷ 0 ∷ 0 ∷ []) × Memᴰ n' old_dependencies)
  pub host_metadata : (s d : List ℕ) {n n' : ℕ} {e w a e' w' a' : List ℕ} → MetadataAnswered true s d n e w a → MetadataAnswered false s d n' e' w' a'
      → ((n ≡ n') × (e ≡ e') × (w ≡ w') × (a ≡ a'))
      ⊎ ((n ≡ 11) × (a ≡ 11 ∷ 0 ∷ length s ∷ 0 ∷ []) × Memᴰ n' old_metadata)
  -- neither side is empty: both come among the readings
  pub readings_right : T (all readings)
