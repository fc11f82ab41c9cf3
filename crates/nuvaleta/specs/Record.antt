-- What a host is answered for metadata. record[18]: present, start and length of name, namespace, prefix, first revision, parent and newest revision.
-- answer[4]: number, keyword, position, stored bytes. A good scan answers 0, 0, 0 and its count. The call returns the number.
-- whole: the whole-text mode (2026-07), which nuvaleta_metadata_whole has.
-- Assumes nothing.
use Rattle.std.specs.Prelude.{ℕ, ◌≡◌, Bool, List, [], ◌∷◌, ltb, length}
use Rattle.text_lent.specs.Padded.{padded}
use Rattle.host_words.specs.Words.{record_words}
use Rattle.scan_metadata.specs.Metadata.{Scan, metadata, answer_of, kept_of}

-- the answer to a scan x; d and e: the store at entry and exit, w: the record, a: the answer
pub record Described (x : Scan) (d : List ℕ) (r : ℕ) (e w a : List ℕ) : Type 0 where
  pub stored : e ≡ padded (length d) (kept_of x)
  pub words : w ≡ record_words (answer_of x).values
  pub number : r ≡ (answer_of x).answer.number
  pub answer : a ≡ (answer_of x).answer.number ∷ (answer_of x).answer.keyword ∷ (answer_of x).answer.at ∷ (answer_of x).used ∷ []

abbrev pub MetadataAnswered : Bool → List ℕ → List ℕ → ℕ → List ℕ → List ℕ → List ℕ → Type 0
MetadataAnswered whole s d r e w a = Described (metadata whole s (ltb (length d) (length s))) d r e w a
