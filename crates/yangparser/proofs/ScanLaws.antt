-- The scan as a whole: each step comes nearer the text's end, so the turns end; what was read stays sound with each step, so it is when the scan
-- ends, on a refusal too.
-- Assumes nothing.
use Rattle.std.specs.Prelude.{Ok, Some, None, Err, Result, Option}
use mathlib.Core.Path.{◌≡◌, refl, ap, subst}
use mathlib.Core.Bool.{Bool}
use mathlib.Core.List.{List, [], ◌++◌}
use Prim.Native.Nat.{ℕ, suc, ◌+◌, ◌-◌, ◌<◌, ◌≤◌}
use native.Mathlib.Omega.{arith}
use lib.ListN.{length, length-append}
use Rattle.text.specs.Turns.{stop, on}
use Rattle.text.specs.declared.Refusal.{Refusal}
use Rattle.text.proofs.Turns.{turns_stop, turns_on, turns_rule}
use Rattle.scan_rows.proofs.Laws.{each_of}
use Rattle.scan_rows.specs.Rows.{most_rows, PlainImport, PlainInclude, Each}
use Rattle.yangparser.specs.Dependencies.{Dependencies, none, joined, Step, step_at, Scanning, Scan, good, bad, after_step, scan_turn, scan_from, start}
use Rattle.yangparser.specs.Dependencies.{scanned, read_of}
use Rattle.yangparser.specs.declared.Sofar.{Sofar}
use Rattle.yangparser.proofs.FarLaws.{Went, Said, step_said}
use Rattle.yangparser.proofs.Placed.{ImportIn, IncludeIn, Placed, placed_bytes, placed_joined, import_plain, include_plain}

-- ---- what is read of a text

pub record Sound (s : List ℕ) (x : Dependencies) : Type 0 where
  pub short : length x.bytes ≤ length s
  pub few_imports : length x.imports ≤ most_rows
  pub few_includes : length x.includes ≤ most_rows
  pub placed : Placed 0 (length x.bytes) x

pub sound_none : (s : List ℕ) → Sound s none
sound_none s = record { short = omega arith; few_imports = omega arith; few_includes = omega arith; placed = placed_bytes 0 0 (omega arith) [] }

-- where the scan stands, and how that counts what was read
pub record Stands (s : List ℕ) (g : Scanning) : Type 0 where
  pub sound : Sound s g.read
  pub used : g.far.used ≡ length g.read.bytes
  pub imports : g.far.imports ≡ length g.read.imports
  pub includes : g.far.includes ≡ length g.read.includes
  pub room : g.far.used + (length s - g.far.at) ≤ length s
  pub inside : g.far.at ≤ length s

pub stands_first : (s : List ℕ) → Stands s (record { far = start; read = none })
stands_first s = record { sound = sound_none s; used = refl; imports = refl; includes = refl; room = omega arith; inside = omega arith }

-- ---- a step x from there

module _ (s : List ℕ) (g : Scanning) (f : Stands s g) (x : Step) (said : Said s g.far x) where
  pub sound_step : Sound s (joined g.read x.adds)
  unfolding joined
  sound_step =
      let m = length g.read.bytes in
      let l = length-append g.read.bytes x.adds.bytes in
      let to : g.far.used + length x.adds.bytes ≡ length (g.read.bytes ++ x.adds.bytes) = omega (arith, l, f.used) in
      let behind : Placed m (length (g.read.bytes ++ x.adds.bytes)) x.adds
      = subst (λ n. Placed m n x.adds) to (subst (λ u. Placed u (g.far.used + length x.adds.bytes) x.adds) f.used said.placed) in
      record {
        short = omega (arith, l, f.used, f.room, said.fits);
        few_imports = omega (
          arith,
          length-append g.read.imports x.adds.imports,
          f.imports,
          said.few_imports
              (omega (arith, f.imports, f.sound.few_imports)),
        );
        few_includes = omega (
          arith,
          length-append g.read.includes x.adds.includes,
          f.includes,
          said.few_includes
              (omega (arith, f.includes, f.sound.few_includes)),
        );
        placed = placed_joined 0 m (length (g.read.bytes ++ x.adds.bytes)) g.read x.adds f.sound.placed behind;
      }

  pub step_on : (n : Sofar) → x.answer ≡ Ok (Some n) → Went s g.far x.adds (Ok (Some n))
  step_on n h = subst (Went s g.far x.adds) h said.went

  pub stands_step : (n : Sofar) → x.answer ≡ Ok (Some n) → Stands s (record { far = n; read = joined g.read x.adds })
  unfolding joined
  stands_step n h =
      let w = step_on n h in
      record {
        sound = sound_step;
        used = omega (arith, w.2, f.used, length-append g.read.bytes x.adds.bytes);
        imports = omega (arith, w.3, f.imports, length-append g.read.imports x.adds.imports);
        includes = omega (arith, w.4, f.includes, length-append g.read.includes x.adds.includes);
        room = omega (arith, w.0, w.1, w.2, f.room);
        inside = w.1;
      }

-- ---- the turns

on_next : (d : Dependencies) (r : Result (Option Sofar) Refusal) (b : Scanning) → after_step d r ≡ on b → (r ≡ Ok (Some b.far)) × (d ≡ b.read)
unfolding after_step
on_next d (Ok (Some n)) b h = (cc, cc)
on_next d (Ok None) b h = (cc, cc)
on_next d (Err r) b h = (cc, cc)

stop_read : (d : Dependencies) (r : Result (Option Sofar) Refusal) (x : Scan) → after_step d r ≡ stop x → d ≡ read_of x
unfolding after_step read_of
stop_read d (Ok (Some n)) x h = let z : ◌≡◌ {A = ℕ} 0 1 = cc in absurd (omega arith)
stop_read d (Ok None) x h = let e : good d ≡ x = cc in ap read_of e
stop_read d (Err r) x h = let e : bad r d ≡ x = cc in ap read_of e

scan_falls : (whole : Bool) (s : List ℕ) (a b : Scanning) → scan_turn whole s a ≡ on b → length s - b.far.at < length s - a.far.at
unfolding scan_turn
scan_falls whole s a b h =
    let x = step_at whole s a.far in
    let n = on_next (joined a.read x.adds) x.answer b h in
    let w : Went s a.far x.adds (Ok (Some b.far)) = subst (Went s a.far x.adds) n.0 (step_said whole s a.far).went in
    omega (arith, w.0, w.1)

-- from g with the step x
module _ (whole : Bool) (s : List ℕ) (g : Scanning) where
  pub scan_on : (n : Sofar) → (step_at whole s g.far).answer ≡ Ok (Some n) → scan_from whole s g
      ≡ scan_from whole s (record { far = n; read = joined g.read (step_at whole s g.far).adds })
  unfolding scan_from scan_turn after_step
  scan_on n h =
      turns_on (scan_turn whole s) (good none) (λ b. length s - b.far.at) (scan_falls whole s)
      (suc (length s)) (suc (length s)) g _ (omega arith) (omega arith) (ap (after_step (joined g.read (step_at whole s g.far).adds)) h)

  pub scan_done : (step_at whole s g.far).answer ≡ (Ok None) → scan_from whole s g ≡ good (joined g.read (step_at whole s g.far).adds)
  unfolding scan_from scan_turn after_step
  scan_done h =
      turns_stop (scan_turn whole s) (good none) (λ b. length s - b.far.at) (scan_falls whole s)
      (suc (length s)) g _ (omega arith) (ap (after_step (joined g.read (step_at whole s g.far).adds)) h)

  pub scan_stop : (r : Refusal) → (step_at whole s g.far).answer ≡ Err r → scan_from whole s g ≡ bad r (joined g.read (step_at whole s g.far).adds)
  unfolding scan_from scan_turn after_step
  scan_stop r h =
      turns_stop (scan_turn whole s) (good none) (λ b. length s - b.far.at) (scan_falls whole s)
      (suc (length s)) g _ (omega arith) (ap (after_step (joined g.read (step_at whole s g.far).adds)) h)

-- ---- the whole text

-- what a scan read is sound, and a refusal's place is within the text
abbrev pub Within : List ℕ → Scan → Type 0
Within s (good d) = Unit {0}
Within s (bad r d) = r.at ≤ length s

stop_within : (s : List ℕ) (far : Sofar) (a d : Dependencies) (r : Result (Option Sofar) Refusal) (x : Scan) → far.at ≤ length s → Went s far a r → after_step d r ≡ stop x → Within s x
unfolding after_step
stop_within s far a d (Ok (Some n)) x i w h = let z : ◌≡◌ {A = ℕ} 0 1 = cc in absurd (omega arith)
stop_within s far a d (Ok None) x i w h = let e : good d ≡ x = cc in subst (Within s) e tt
stop_within s far a d (Err r) x i w h = let e : bad r d ≡ x = cc in subst (Within s) e (w i)

from_said : (whole : Bool) (s : List ℕ) (g : Scanning) → Stands s g → Sound s (read_of (scan_from whole s g)) × Within s (scan_from whole s g)
unfolding scan_from scan_turn
from_said whole s g =
    turns_rule (scan_turn whole s) (good none) (λ b. length s - b.far.at) (scan_falls whole s)
    (λ a r. Stands s a → Sound s (read_of r) × Within s r) (ends whole s) (goes whole s) (suc (length s)) g (omega arith)
  where
    ends : (whole : Bool) (s : List ℕ) (a : Scanning) (r : Scan) → scan_turn whole s a ≡ stop r → Stands s a → Sound s (read_of r) × Within s r
    ends whole s a r h f =
        let x = step_at whole s a.far in
        let said = step_said whole s a.far in
        let d = joined a.read x.adds in (
          subst (Sound s) (stop_read d x.answer r h) (sound_step s a f x said),
          stop_within s a.far x.adds d x.answer r f.inside said.went h,
        )

    goes : (whole : Bool) (s : List ℕ) (a b : Scanning) (r : Scan) → scan_turn whole s a ≡ on b → (Stands s b → Sound s (read_of r) × Within s r) → Stands s a
        → Sound s (read_of r) × Within s r
    goes whole s a b r h k f =
        let x = step_at whole s a.far in
        let n = on_next (joined a.read x.adds) x.answer b h in
        k (subst (λ z. Stands s (record { far = b.far; read = z })) n.1 (stands_step s a f x (step_said whole s a.far) b.far n.0))

-- Laws for those who use a scan. Each holds of a refused scan too: of what it had read.
module _ (whole : Bool) (s : List ℕ) where
  pub scan_sound : Sound s (read_of (scanned whole s))
  unfolding scanned
  scan_sound = (from_said whole s (record { far = start; read = none }) (stands_first s)).0

  -- a refusal's place
  pub scan_refusal : (r : Refusal) (d : Dependencies) → scanned whole s ≡ bad r d → r.at ≤ length s
  unfolding scanned
  scan_refusal r d h = subst (Within s) h (from_said whole s (record { far = start; read = none }) (stands_first s)).1

-- rows read back from the words written are the rows
pub sound_imports_plain : {s : List ℕ} {x : Dependencies} → Sound s x → Each PlainImport x.imports
sound_imports_plain {s} {x} h = each_of (ImportIn 0 (length x.bytes)) PlainImport import_plain x.imports h.placed.imports

pub sound_includes_plain : {s : List ℕ} {x : Dependencies} → Sound s x → Each PlainInclude x.includes
sound_includes_plain {s} {x} h = each_of (IncludeIn 0 (length x.bytes)) PlainInclude include_plain x.includes h.placed.includes
