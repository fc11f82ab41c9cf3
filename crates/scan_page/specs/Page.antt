-- The printed form adds a page at least 6,944 bytes longer than the text, and its length. All beyond what is used is zero; every refusal leaves the page
-- zero.
-- Assumes nothing.
use Rattle.std.specs.Prelude.{ℕ, ◌≡◌, Bool, List, [], length}
use Rattle.text_lent.specs.Padded.{padded}
use Rattle.scan_printed.specs.Printed.{printed}
use Rattle.yangparser.specs.Dependencies.{Scan, good, bad, page_short, dependencies}
use Rattle.scan_rows.specs.Short.{is_too_short}
use Rattle.yangparser.specs.Promises.{Leaves}
use Rattle.scan_page.specs.declared.Page.{Page}

unfoldable pub page_of : Scan → List ℕ
page_of (good d) = printed d.bytes d.imports d.includes
page_of (bad r d) = []

-- what is left of a scan x; p and q: the page at entry and at exit
pub record PageLeft (x : Scan) (d t u p : List ℕ) (r : Page) (e f g q : List ℕ) : Type 0 where
  pub scan : Leaves x d t u r.parsed e f g
  pub length_is : r.length ≡ length (page_of x)
  pub page : q ≡ padded (length p) (page_of x)

abbrev pub Prints : Bool → List ℕ → List ℕ → List ℕ → List ℕ → List ℕ → Page → List ℕ → List ℕ → List ℕ → List ℕ → Type 0
Prints whole s d t u p r e f g q =
    PageLeft (dependencies whole s (is_too_short (page_short (length s) (length p)) (length s) (length d) (length t) (length u))) d t u p r e f g q
