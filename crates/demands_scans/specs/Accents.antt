-- 2026-01: "Valid bytes above 127 are then allowed inside quoted strings and comments and copied. Elsewhere they are refused at the place the scan meets them.
-- Refusals: 12 not UTF-8, in the place of 3, at the start of the first wrong sequence, keyword 0; 3 then in reading order, before 4 and 5 at one place."
-- Assumes nothing.
use Rattle.std.specs.Prelude.{◌≡◌, Bool, List, ℕ, ◌<◌, length, get_or}
use Rattle.text.specs.declared.Refusal.{Refusal}
use Rattle.text_utf8.specs.Utf8.{wrong_from}
use Rattle.scan_rows.specs.Rows.{Each}
use Rattle.yangparser.specs.Dependencies as Deps
use Rattle.scan_metadata.specs.Metadata as Meta
use Rattle.demands_scans.specs.Refusals.{FirstRefusal}

-- ---- what 3 and 12 tell; s: the text, short: whether something lent is too short

-- 3: keyword 0, and a byte above 127 stands at the position
pub record Three (s : List ℕ) (r : Refusal) : Type 0 where
  pub keyword : r.keyword ≡ 0
  pub within : r.at < length s
  pub above : 127 < get_or s r.at 0

pub record Tells (s : List ℕ) (short : Bool) (r : Refusal) : Type 0 where
  pub three : r.number ≡ 3 → Three s r
  -- 12: it is due, after 1 and 2; that it is then given is `first_refused` in Demand1
  pub twelve : r.number ≡ 12 → FirstRefusal s short r

-- of every scan in either mode
pub record Met : Type 0 where
  pub dependencies : (whole : Bool) (s : List ℕ) (short : Bool) (r : Refusal) (d : Deps.Dependencies)
      → Deps.dependencies whole s short ≡ Deps.bad r d → Tells s short r
  pub metadata : (whole : Bool) (s : List ℕ) (short : Bool) (r : Refusal) (bs : List ℕ) → Meta.metadata whole s short ≡ Meta.bad r bs → Tells s short r

-- ---- a text of bytes below 128 gets neither

abbrev pub Neither : Refusal → Type 0
Neither r = (r.number ≡ 3 → ⊥) × (r.number ≡ 12 → ⊥)

pub record LowAsBefore : Type 0 where
  pub end : (s : List ℕ) → Each (λ b. b < 128) s → wrong_from s 0 ≡ length s
  pub dependencies : (whole : Bool) (s : List ℕ) (short : Bool) (r : Refusal) (d : Deps.Dependencies) → Each (λ b. b < 128) s
      → Deps.dependencies whole s short ≡ Deps.bad r d → Neither r
  pub metadata : (whole : Bool) (s : List ℕ) (short : Bool) (r : Refusal) (bs : List ℕ) → Each (λ b. b < 128) s → Meta.metadata whole s short ≡ Meta.bad r bs
      → Neither r
