-- Dependencies: tokens are skipped until `import` or `include` matches; a matched `organization`, `contact`, `description` or `reference` ends the scan.
-- The code takes all these tokens and the statement behind them as one step, `step_from`. That this is the scan's own steps, one after the other, is a law
-- (proofs/SeekLaws).
-- Assumes nothing.
use Rattle.std.specs.Prelude.{ℕ, suc, Bool, cond, List, leb, length, Ok, Err, None, Result}
use Rattle.text.specs.Scan.{gap_end}
use Rattle.text.specs.Turns.{Turn, stop, on, turns}
use Rattle.text_skip.specs.Skip.{past_token}
use Rattle.scan_head.specs.Head.{head_at}
use Rattle.scan_head.specs.declared.Head.{Head}
use Rattle.scan_head.specs.declared.Head.TheVariants.{Import as ImportHead, Include as IncludeHead, Last, Other}
use Rattle.yangparser.specs.Dependencies.{none, Step, adding, import_here, include_here}
use Rattle.yangparser.specs.declared.Look.{Look}
use Rattle.yangparser.specs.declared.Look.TheVariants.{Past, Met}
use Rattle.yangparser.specs.declared.Sofar.{Sofar}
use Rattle.yangparser.specs.declared.Sought.{Sought}
use Rattle.yangparser.specs.declared.Sought.TheVariants.{Import, Include, End}
use Rattle.text.specs.declared.Cursor.{Cursor}
use Rattle.text.specs.declared.Refusal.{Refusal}

-- ---- what stands here; whole: the whole-text mode

-- past a token, or its refusal
unfoldable pub look_past : Result Cursor Refusal → Result Look Refusal
look_past (Ok c) = Ok (Past c)
look_past (Err r) = Err r

unfoldable pub look_head : Bool → List ℕ → ℕ → Head → Result Look Refusal
look_head whole s at (ImportHead c) = Ok (Met (Import c))
look_head whole s at (IncludeHead c) = Ok (Met (Include c))
look_head whole s at (Last c) = Ok (Met End)
look_head whole s at Other = look_past (past_token whole s at)

-- at the place after the gap
unfoldable pub look_here : Bool → List ℕ → ℕ → Result Look Refusal
look_here whole s at = cond (leb (length s) at) (Ok (Met End)) (look_head whole s at (head_at s at))

unfoldable pub look_at : Bool → List ℕ → ℕ → Result Look Refusal
look_at whole s at = look_here whole s (gap_end s at)

-- ---- past all tokens

unfoldable pub of_look : Result Look Refusal → Turn ℕ (Result Sought Refusal)
of_look (Ok (Past c)) = on c.at
of_look (Ok (Met x)) = stop (Ok x)
of_look (Err r) = stop (Err r)

unfoldable pub seek_turn : Bool → List ℕ → ℕ → Turn ℕ (Result Sought Refusal)
seek_turn whole s at = of_look (look_at whole s at)

unfoldable pub sought_at : Bool → List ℕ → ℕ → Result Sought Refusal
sought_at whole s at = turns (seek_turn whole s) (Ok End) (suc (length s)) at

-- and the statement behind them
unfoldable pub sought_step : Bool → List ℕ → Sofar → Result Sought Refusal → Step
sought_step whole s far (Ok (Import c)) = import_here whole s far c.at
sought_step whole s far (Ok (Include c)) = include_here whole s far c.at
sought_step whole s far (Ok End) = adding (Ok None) none
sought_step whole s far (Err r) = adding (Err r) none

unfoldable pub step_from : Bool → List ℕ → Sofar → Step
step_from whole s far = sought_step whole s far (sought_at whole s far.at)
