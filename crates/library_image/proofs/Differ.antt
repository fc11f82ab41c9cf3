-- The test of a name against the words before it fails exactly if it differs from each.
-- Assumes nothing.
use mathlib.Core.Path.{◌≡◌, refl}
use mathlib.Core.List.{List, [], ◌∷◌, map}
use mathlib.Core.Bool.{false}
use Rattle.text.specs.Keyword.{same}
use Rattle.text.proofs.Here.{never, neither}
use Rattle.text.proofs.KeywordLaws.{same_yes, same_no}
use Rattle.library_form.specs.Form.{PlacedName}
use Rattle.library_index.specs.Names.{among, memb}
use Rattle.library_image.specs.Library.{Name, plain_name}
use Rattle.library_image.specs.ImageWriter.{NoneOf}

pub none_of : (t : Name) (ws : List PlacedName) → memb t ws ≡ false → NoneOf t (map plain_name ws)
unfolding NoneOf among
none_of t [] e = tt
none_of t (w ∷ ws) e = let q = neither (same w.text t) (memb t ws) e in (λ h. never q.0 (same_yes w.text t h), none_of t ws q.1)

pub not_among : (t : Name) (ws : List PlacedName) → NoneOf t (map plain_name ws) → memb t ws ≡ false
unfolding NoneOf among
not_among t [] h = refl
not_among t (w ∷ ws) h = rw (same_no w.text t h.0) (not_among t ws h.1)
