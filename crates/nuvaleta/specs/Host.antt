-- What a host is answered. answer[6]: number, keyword, position, import rows, include rows, stored bytes; with a page its length is the seventh word.
-- A good scan answers 0, 0, 0 and its counts. Each call returns the number. whole: the whole-text mode (2026-07), which the calls `_whole` have.
-- Assumes nothing.
use Rattle.std.specs.Prelude.{ℕ, Bool, false, ◌≡◌, List, [], ◌∷◌, ◌++◌, length}
use Rattle.text_lent.specs.Padded.{padded}
use Rattle.scan_page.specs.Page.{page_of}
use Rattle.yangparser.specs.Dependencies.{Scan, page_short, dependencies, parsed_of}
use Rattle.scan_rows.specs.Short.{is_too_short}
use Rattle.yangparser.specs.Promises.{Leaves}
use Rattle.nuvaleta.specs.Words.{number_of, answer_words}

-- the answer to a scan x, beside what it leaves
pub record Answered (x : Scan) (d t u : List ℕ) (r : ℕ) (e f g a : List ℕ) : Type 0 where
  pub scan : Leaves x d t u (parsed_of x) e f g
  pub number : r ≡ number_of (parsed_of x)
  pub answer : a ≡ answer_words (parsed_of x)

pub record AnsweredPage (x : Scan) (d t u p : List ℕ) (r : ℕ) (e f g q a : List ℕ) : Type 0 where
  pub scan : Leaves x d t u (parsed_of x) e f g
  pub page : q ≡ padded (length p) (page_of x)
  pub number : r ≡ number_of (parsed_of x)
  pub answer : a ≡ answer_words (parsed_of x) ++ (length (page_of x) ∷ [])

abbrev pub DependenciesAnswered : Bool → List ℕ → List ℕ → List ℕ → List ℕ → ℕ → List ℕ → List ℕ → List ℕ → List ℕ → Type 0
DependenciesAnswered whole s d t u r e f g a =
    Answered (dependencies whole s (is_too_short false (length s) (length d) (length t) (length u))) d t u r e f g a

abbrev pub PrintedAnswered : Bool → List ℕ → List ℕ → List ℕ → List ℕ → List ℕ → ℕ → List ℕ → List ℕ → List ℕ → List ℕ → List ℕ → Type 0
PrintedAnswered whole s d t u p r e f g q a =
    AnsweredPage (dependencies whole s (is_too_short (page_short (length s) (length p)) (length s) (length d) (length t) (length u))) d t u p r e f g q a
