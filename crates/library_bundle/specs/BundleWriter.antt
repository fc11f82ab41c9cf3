-- Bundle, at most 16,777,216 bytes: texts (0 to 2,048), each name, length, bytes; names differ. Nothing follows. Here written, where Bundle reads.
-- Assumes nothing.
use Rattle.std.specs.Prelude.{ℕ, ◌≤◌, ◌≡◌, List, [], ◌∷◌, ◌++◌, map, length, take, drop}
use Rattle.library_form.specs.Form.{most_number}
use Rattle.library_form.specs.Writer.{write_number, write_name, NameBytes}
use Rattle.library_bundle.specs.Bundle.{most_bytes, most_texts, Text}

-- a text as it is handed in: its name and its bytes
pub record Named : Type 0 where
  pub name : List ℕ
  pub bytes : List ℕ

unfoldable pub write_text : Named → List ℕ
write_text t = write_name t.name ++ (write_number (length t.bytes) ++ t.bytes)

unfoldable pub write_texts : List Named → List ℕ
write_texts [] = []
write_texts (t ∷ ts) = write_text t ++ write_texts ts

unfoldable pub write_bundle : List Named → List ℕ
write_bundle ts = write_number (length ts) ++ write_texts ts

-- what a text that was read says
abbrev pub named : List ℕ → Text → Named
named s e = record { name = e.word.text; bytes = take e.size (drop e.from s) }

abbrev pub all_named : List ℕ → List Text → List Named
all_named s es = map (named s) es

-- texts that make a bundle
pub record TextBytes (t : Named) : Type 0 where
  pub name : NameBytes t.name
  pub few : length t.bytes ≤ most_number

abbrev pub AllTexts : List Named → Type 0
AllTexts [] = Unit
AllTexts (t ∷ ts) = TextBytes t × AllTexts ts

-- none of them has this name
abbrev pub Others : List ℕ → List Named → Type 0
Others n [] = Unit
Others n (t ∷ ts) = (n ≡ t.name → ⊥) × Others n ts

abbrev pub Differ : List Named → Type 0
Differ [] = Unit
Differ (t ∷ ts) = Others t.name ts × Differ ts

pub record BundleTexts (ts : List Named) : Type 0 where
  pub few : length ts ≤ most_texts
  pub each : AllTexts ts
  pub differ : Differ ts
  pub short : length (write_bundle ts) ≤ most_bytes
