-- The code's step, past all tokens to the next statement: one law for each way out of its functions; and it is the scan's own steps one after the other,
-- since at a token only the place moves.
-- Assumes nothing.
use Rattle.std.specs.Prelude.{Ok, Err, Some, None, Result, Option}
use mathlib.Core.Path.{◌≡◌, refl, sym, ap, subst, ◌∙◌}
use mathlib.Core.Bool.{Bool}
use mathlib.Core.List.{List, [], ◌++◌, append-nil}
use Prim.Native.Nat.{ℕ, suc, ◌+◌, ◌-◌, ◌*◌, ◌<◌, ◌≤◌}
use native.Mathlib.Omega.{arith}
use lib.Dec.{leb}
use lib.ListN.{length}
use lib.Seq.{sets}
use borrow.Author.Tests.{leb-false}
use Rattle.text.specs.Scan.{gap_end}
use Rattle.text.specs.Turns.{stop, on}
use Rattle.text.specs.declared.Cursor.{Cursor}
use Rattle.text.specs.declared.Refusal.{Refusal}
use Rattle.text.proofs.Here.{by_test}
use Rattle.text.proofs.Laws.{gap_from}
use Rattle.text.proofs.Turns.{turns_stop, turns_on, turns_rule}
use Rattle.text_skip.specs.Skip.{past_token}
use Rattle.text_skip.proofs.PastLaws.{past_token_far}
use Rattle.scan_rows.specs.Rows.{import_size, include_size, import_table, include_table, table}
use Rattle.scan_imports.specs.Statement.{import_at, include_at}
use Rattle.scan_head.specs.Head.{head_at}
use Rattle.scan_head.specs.declared.Head.{Head}
use Rattle.scan_head.specs.declared.Head.TheVariants.{Import as ImportHead, Include as IncludeHead, Last, Other}
use Rattle.scan_head.proofs.HeadLaws.{head_import_far, head_include_far}
use Rattle.yangparser.specs.Dependencies.{Dependencies, none, import_words_of, include_words_of, joined, Step, adding, import_step, include_step, unless_full}
use Rattle.yangparser.specs.Dependencies.{import_here, include_here, moved_to, after_token, head_step, step_here, step_at, Scanning, good, bad, scan_from}
use Rattle.yangparser.specs.Promises.{AddsImport, AddsInclude, Steps}
use Rattle.yangparser.specs.Seek.{look_past, look_head, look_here, look_at, of_look, seek_turn, sought_at, sought_step, step_from}
use Rattle.yangparser.specs.declared.Look.{Look}
use Rattle.yangparser.specs.declared.Look.TheVariants.{Past, Met}
use Rattle.yangparser.specs.declared.Sofar.{Sofar}
use Rattle.yangparser.specs.declared.Sought.{Sought}
use Rattle.yangparser.specs.declared.Sought.TheVariants.{Import, Include, End}
use Rattle.yangparser.proofs.StepLaws.{import_only, include_only}
use Rattle.yangparser.proofs.FarLaws.{Went, Said, step_said}
use Rattle.yangparser.proofs.ScanLaws.{scan_on, scan_done, scan_stop}
use Rattle.scan_rows.specs.declared.YangImport.{YangImport}
use Rattle.scan_rows.specs.declared.YangInclude.{YangInclude}

-- ---- past all tokens

-- behind the start and within the text
abbrev Ahead : List ℕ → ℕ → Cursor → Type 0
Ahead s at c = (at < c.at) × (c.at ≤ length s)

-- so is what was sought, and what a look passes
abbrev Found : List ℕ → ℕ → Result Sought Refusal → Type 0
Found s at (Ok (Import c)) = Ahead s at c
Found s at (Ok (Include c)) = Ahead s at c
Found s at (Ok End) = Unit {0}
Found s at (Err r) = Unit {0}

abbrev Tells : List ℕ → ℕ → Result Look Refusal → Type 0
Tells s at (Ok (Past c)) = Ahead s at c
Tells s at (Ok (Met x)) = Found s at (Ok x)
Tells s at (Err r) = Unit {0}

token_tells : (whole : Bool) (s : List ℕ) (at g : ℕ) → at ≤ g → g < length s → (k : Result Cursor Refusal) → past_token whole s g ≡ k → Tells s at (look_past k)
unfolding look_past
token_tells whole s at g l i (Ok c) h = let f = past_token_far whole s g i c h in (omega (arith, f.0), f.1)
token_tells whole s at g l i (Err r) h = tt

head_tells : (whole : Bool) (s : List ℕ) (at g : ℕ) → at ≤ g → g < length s → (w : Head) → head_at s g ≡ w → Tells s at (look_head whole s g w)
unfolding look_head
head_tells whole s at g l i (ImportHead c) h = let f = head_import_far s g c h in (omega (arith, f.0), f.1)
head_tells whole s at g l i (IncludeHead c) h = let f = head_include_far s g c h in (omega (arith, f.0), f.1)
head_tells whole s at g l i (Last c) h = tt
head_tells whole s at g l i Other h = token_tells whole s at g l i (past_token whole s g) refl

look_tells : (whole : Bool) (s : List ℕ) (at : ℕ) → Tells s at (look_at whole s at)
unfolding look_at look_here
look_tells whole s at =
    let g = gap_end s at in
    by_test (leb (length s) g) (λ t. rw t tt)
    (λ t. rw t (head_tells whole s at g (gap_from s at) (leb-false (length s) g t) (head_at s g) refl))

of_on : (x : Result Look Refusal) (b : ℕ) → of_look x ≡ on b → (c : Cursor) × (x ≡ Ok (Past c)) × (c.at ≡ b)
unfolding of_look
of_on (Ok (Past c)) b h = (c, refl, cc)
of_on (Ok (Met x)) b h = (record { at = b }, cc, cc)
of_on (Err r) b h = (record { at = b }, cc, cc)

-- the look that ends a search so
met : Result Sought Refusal → Result Look Refusal
met (Ok x) = Ok (Met x)
met (Err r) = Err r

of_stop : (x : Result Look Refusal) (y : Result Sought Refusal) → of_look x ≡ stop y → x ≡ met y
unfolding of_look met
of_stop (Ok (Past c)) y h = cc
of_stop (Ok (Met x)) y h = let e : ◌≡◌ {A = Result Sought Refusal} (Ok x) y = cc in ap met e
of_stop (Err r) y h = let e : ◌≡◌ {A = Result Sought Refusal} (Err r) y = cc in ap met e

seek_falls : (whole : Bool) (s : List ℕ) (a b : ℕ) → seek_turn whole s a ≡ on b → length s - b < length s - a
unfolding seek_turn
seek_falls whole s a b h =
    let k = of_on (look_at whole s a) b h in
    let f = subst (Tells s a) k.1 (look_tells whole s a) in
    omega (arith, f.0, f.1, k.2)

-- x: what the look answered
module _ (whole : Bool) (s : List ℕ) (at : ℕ) {x : Result Look Refusal} (xe : x ≡ look_at whole s at) where
  turn_is : seek_turn whole s at ≡ of_look x
  unfolding seek_turn
  turn_is = ap of_look (sym xe)

  -- z: what is sought from the start
  pub sought_on : (c : Cursor) → x ≡ Ok (Past c) → {z : Result Sought Refusal} → sought_at whole s at ≡ z → sought_at whole s c.at ≡ z
  unfolding sought_at of_look
  sought_on c h e =
      sym (turns_on (seek_turn whole s) (Ok End) (λ i. length s - i) (seek_falls whole s) (suc (length s)) (suc (length s)) at c.at (omega arith) (omega arith)
      (turn_is ∙ ap of_look h)) ∙ e

  pub sought_nearer : (c : Cursor) → x ≡ Ok (Past c) → length s - c.at < length s - at
  unfolding of_look
  sought_nearer c h = seek_falls whole s at c.at (turn_is ∙ ap of_look h)

  -- y: what ends the search here
  sought_ends : (y : Result Sought Refusal) → of_look x ≡ stop y → {z : Result Sought Refusal} → sought_at whole s at ≡ z → y ≡ z
  unfolding sought_at
  sought_ends y h e =
      sym (turns_stop (seek_turn whole s) (Ok End) (λ i. length s - i) (seek_falls whole s) (suc (length s)) at y (omega arith) (turn_is ∙ h)) ∙ e

  pub sought_met : (y : Sought) → x ≡ Ok (Met y) → {z : Result Sought Refusal} → sought_at whole s at ≡ z → Ok y ≡ z
  unfolding of_look
  sought_met y h e = sought_ends (Ok y) (ap of_look h) e

  pub sought_refused : (r : Refusal) → x ≡ Err r → {z : Result Sought Refusal} → sought_at whole s at ≡ z → Err r ≡ z
  unfolding of_look
  sought_refused r h e = sought_ends (Err r) (ap of_look h) e

found_on : (s : List ℕ) (at b : ℕ) (x : Result Sought Refusal) → at < b → Found s b x → Found s at x
found_on s at b (Ok (Import c)) l h = (omega (arith, h.0), h.1)
found_on s at b (Ok (Include c)) l h = (omega (arith, h.0), h.1)
found_on s at b (Ok End) l h = tt
found_on s at b (Err r) l h = tt

found_met : (s : List ℕ) (at : ℕ) (x : Result Sought Refusal) → Tells s at (met x) → Found s at x
unfolding met
found_met s at (Ok x) h = h
found_met s at (Err r) h = tt

sought_found : (whole : Bool) (s : List ℕ) (at : ℕ) → Found s at (sought_at whole s at)
unfolding sought_at seek_turn
sought_found whole s at =
    turns_rule (seek_turn whole s) (Ok End) (λ i. length s - i) (seek_falls whole s) (λ a x. Found s a x)
    (λ a x h. found_met s a x (subst (Tells s a) (of_stop (look_at whole s a) x h) (look_tells whole s a)))
    (λ a b x h k. let q = of_on (look_at whole s a) b h in
    let f = subst (Tells s a) q.1 (look_tells whole s a) in
    found_on s a b x (omega (arith, f.0, q.2)) k)
    (suc (length s)) at (omega arith)

-- room in the store behind the keyword
room_behind : (s : List ℕ) (at used : ℕ) (c : Cursor) → used + (length s - at) ≤ length s → Ahead s at c → used + (length s - c.at) ≤ length s
room_behind s at used c room f = omega (arith, f.0)

module _ (whole : Bool) (s : List ℕ) (at used : ℕ) {x : Result Sought Refusal} (xe : x ≡ sought_at whole s at) (c : Cursor) (room : used + (length s - at) ≤ length s) where
  pub import_step_room : x ≡ Ok (Import c) → used + (length s - c.at) ≤ length s
  import_step_room q = room_behind s at used c room (subst (Found s at) (sym xe ∙ q) (sought_found whole s at))

  pub include_step_room : x ≡ Ok (Include c) → used + (length s - c.at) ≤ length s
  include_step_room q = room_behind s at used c room (subst (Found s at) (sym xe ∙ q) (sought_found whole s at))

-- ---- the contract of the code's step; x: what was sought

module _ (whole : Bool) (s : List ℕ) (far : Sofar) {d t u : List ℕ} {x : Result Sought Refusal} (xe : x ≡ sought_at whole s far.at) where
  steps_is : {y : Result Sought Refusal} → x ≡ y → {r : Result (Option Sofar) Refusal} {e f h : List ℕ} → Steps (sought_step whole s far y) far d t u r e f h
      → Steps (step_from whole s far) far d t u r e f h
  unfolding step_from
  steps_is q {r} {e} {f} {h} a = subst (λ z. Steps (sought_step whole s far z) far d t u r e f h) (sym q ∙ xe) a

  pub steps_import : (c : Cursor) → x ≡ Ok (Import c) → {r : Result (Option Sofar) Refusal} {e f : List ℕ} → AddsImport whole s far c.at d t r e f
      → Steps (step_from whole s far) far d t u r e f u
  unfolding sought_step include_words_of include_table table
  steps_import c q a =
      steps_is q
      (record {
        answer = a.answer;
        stored = a.stored;
        imports = a.written;
        includes = ap (λ l. sets u (far.includes * include_size) (include_table l)) (sym (import_only whole s far c.at));
      })

  pub steps_include : (c : Cursor) → x ≡ Ok (Include c) → {r : Result (Option Sofar) Refusal} {e f : List ℕ} → AddsInclude whole s far c.at d u r e f
      → Steps (step_from whole s far) far d t u r e t f
  unfolding sought_step import_words_of import_table table
  steps_include c q a =
      steps_is q
      (record {
        answer = a.answer;
        stored = a.stored;
        includes = a.written;
        imports = ap (λ l. sets t (far.imports * import_size) (import_table l)) (sym (include_only whole s far c.at));
      })

  pub steps_end : x ≡ Ok End → Steps (step_from whole s far) far d t u (Ok None) d t u
  unfolding sought_step import_words_of include_words_of import_table include_table table
  steps_end q = steps_is q (record { answer = refl; stored = refl; imports = refl; includes = refl })

  pub steps_refused : (r : Refusal) → x ≡ Err r → {a : Result (Option Sofar) Refusal} → a ≡ Err r → Steps (step_from whole s far) far d t u a d t u
  unfolding sought_step import_words_of include_words_of import_table include_table table
  steps_refused r q e = steps_is q (record { answer = e; stored = refl; imports = refl; includes = refl })

-- ---- it is the scan's own steps

-- one look as a step of the scan
look_step : Bool → List ℕ → Sofar → Result Look Refusal → Step
look_step whole s far (Ok (Past c)) = adding (Ok (Some (moved_to far c.at))) none
look_step whole s far (Ok (Met x)) = sought_step whole s far (Ok x)
look_step whole s far (Err r) = sought_step whole s far (Err r)

met_step : (whole : Bool) (s : List ℕ) (far : Sofar) (x : Result Sought Refusal) → look_step whole s far (met x) ≡ sought_step whole s far x
unfolding look_step met
met_step whole s far (Ok x) = refl
met_step whole s far (Err r) = refl

past_step : (whole : Bool) (s : List ℕ) (far : Sofar) (k : Result Cursor Refusal) → adding (after_token far k) none ≡ look_step whole s far (look_past k)
unfolding look_step look_past after_token sought_step
past_step whole s far (Ok c) = refl
past_step whole s far (Err r) = refl

head_step_lem : (whole : Bool) (s : List ℕ) (far : Sofar) (g : ℕ) (w : Head) → head_step whole s far g w ≡ look_step whole s far (look_head whole s g w)
unfolding head_step look_step look_head sought_step
head_step_lem whole s far g (ImportHead c) = refl
head_step_lem whole s far g (IncludeHead c) = refl
head_step_lem whole s far g (Last c) = refl
head_step_lem whole s far g Other = past_step whole s far (past_token whole s g)

look_step_lem : (whole : Bool) (s : List ℕ) (far : Sofar) → step_at whole s far ≡ look_step whole s far (look_at whole s far.at)
unfolding step_at step_here look_at look_here look_step sought_step
look_step_lem whole s far =
    let g = gap_end s far.at in
    by_test (leb (length s) g) (λ t. rw t refl) (λ t. rw t (head_step_lem whole s far g (head_at s g)))

-- a statement's step does not look at the place
import_moved : (far : Sofar) (at : ℕ) (bs : List ℕ) (x : Result (Cursor × ℕ × YangImport) Refusal) → import_step (moved_to far at) bs x ≡ import_step far bs x
unfolding import_step moved_to
import_moved far at bs (Ok (c, n, i)) = refl
import_moved far at bs (Err r) = refl

include_moved : (far : Sofar) (at : ℕ) (bs : List ℕ) (x : Result (Cursor × ℕ × YangInclude) Refusal) → include_step (moved_to far at) bs x ≡ include_step far bs x
unfolding include_step moved_to
include_moved far at bs (Ok (c, n, i)) = refl
include_moved far at bs (Err r) = refl

step_moved : (whole : Bool) (s : List ℕ) (far : Sofar) (at : ℕ) (x : Result Sought Refusal) → sought_step whole s (moved_to far at) x ≡ sought_step whole s far x
unfolding sought_step import_here include_here moved_to
step_moved whole s far at (Ok (Import c)) =
    let x = import_at whole s c.at far.used in
    ap (unless_full far.imports 8 c.at) (import_moved far at x.bytes x.answer)
step_moved whole s far at (Ok (Include c)) =
    let x = include_at whole s c.at far.used in
    ap (unless_full far.includes 9 c.at) (include_moved far at x.bytes x.answer)
step_moved whole s far at (Ok End) = refl
step_moved whole s far at (Err r) = refl

joined_none : (d : Dependencies) → joined d none ≡ d
unfolding joined
joined_none d =
    ap (λ l. record { imports = l; includes = d.includes ++ []; bytes = d.bytes ++ [] }) (append-nil d.imports)
    ∙ ap (λ l. record { imports = d.imports; includes = l; bytes = d.bytes ++ [] }) (append-nil d.includes)
    ∙ ap (λ l. record { imports = d.imports; includes = d.includes; bytes = l }) (append-nil d.bytes)

-- from far the scan comes to the same state at a place further on, and there its next step is the one of x
record Seen (whole : Bool) (s : List ℕ) (far : Sofar) (x : Result Sought Refusal) : Type 0 where
  place : ℕ
  from : far.at ≤ place
  within : far.at ≤ length s → place ≤ length s
  same : (d : Dependencies) → scan_from whole s (record { far = far; read = d }) ≡ scan_from whole s (record { far = moved_to far place; read = d })
  step : sought_step whole s far x ≡ step_at whole s (moved_to far place)

-- the statement, or the end, is next
seen_here : (whole : Bool) (s : List ℕ) (far : Sofar) (x : Result Sought Refusal) → look_at whole s far.at ≡ met x → Seen whole s far x
unfolding moved_to look_step
seen_here whole s far x h = record {
  place = far.at;
  from = omega arith;
  within = λ i. i;
  same = λ d. refl;
  step = sym (look_step_lem whole s far ∙ ap (look_step whole s far) h ∙ met_step whole s far x);
}

-- a token is
seen_on : (whole : Bool) (s : List ℕ) (far : Sofar) (c : Cursor) (x : Result Sought Refusal) → look_at whole s far.at ≡ Ok (Past c) → Seen whole s (moved_to far c.at) x
    → Seen whole s far x
unfolding moved_to look_step
seen_on whole s far c x h k =
    let e : step_at whole s far ≡ adding (Ok (Some (moved_to far c.at))) none = look_step_lem whole s far ∙ ap (look_step whole s far) h in
    let f = subst (Tells s far.at) h (look_tells whole s far.at) in
    record {
      place = k.place;
      from = omega (arith, f.0, k.from);
      within = λ i. k.within f.1;
      same = λ d. scan_on whole s (record { far = far; read = d }) (moved_to far c.at) (ap (λ z. z.answer) e)
          ∙ ap (λ z. scan_from whole s (record { far = moved_to far c.at; read = z })) (ap (λ z. joined d z.adds) e ∙ joined_none d)
          ∙ k.same d;
      step = sym (step_moved whole s far c.at x) ∙ k.step;
    }

seen : (whole : Bool) (s : List ℕ) (far : Sofar) → Seen whole s far (sought_at whole s far.at)
unfolding sought_at seek_turn moved_to
seen whole s far =
    turns_rule (seek_turn whole s) (Ok End) (λ i. length s - i) (seek_falls whole s) (λ a x. (f : Sofar) → f.at ≡ a → Seen whole s f x)
    (λ a x h f e. seen_here whole s f x (ap (look_at whole s) e ∙ of_stop (look_at whole s a) x h))
    (λ a b x h k f e. let q = of_on (look_at whole s a) b h in
    seen_on whole s f q.0 x (ap (look_at whole s) e ∙ q.1) (k (moved_to f q.0.at) q.2))
    (suc (length s)) far.at (omega arith) far refl

module _ (whole : Bool) (s : List ℕ) (g : Scanning) where
  there : Seen whole s g.far (sought_at whole s g.far.at)
  there = seen whole s g.far

  later : Sofar
  unfolding there
  later = moved_to g.far there.place

  step_is : step_from whole s g.far ≡ step_at whole s later
  unfolding step_from later
  step_is = there.step

  adds_is : joined g.read (step_from whole s g.far).adds ≡ joined g.read (step_at whole s later).adds
  adds_is = ap (λ z. joined g.read z.adds) step_is

  same_scan : scan_from whole s g ≡ scan_from whole s (record { far = later; read = g.read })
  unfolding later
  same_scan = there.same g.read

  pub from_on : (n : Sofar) → (step_from whole s g.far).answer ≡ Ok (Some n) → scan_from whole s g
      ≡ scan_from whole s (record { far = n; read = joined g.read (step_from whole s g.far).adds })
  from_on n h =
      same_scan ∙ scan_on whole s (record { far = later; read = g.read }) n (sym (ap (λ z. z.answer) step_is) ∙ h)
      ∙ ap (λ z. scan_from whole s (record { far = n; read = z })) (sym adds_is)

  pub from_done : (step_from whole s g.far).answer ≡ (Ok None) → scan_from whole s g ≡ good (joined g.read (step_from whole s g.far).adds)
  from_done h =
      same_scan ∙ scan_done whole s (record { far = later; read = g.read }) (sym (ap (λ z. z.answer) step_is) ∙ h) ∙ ap good (sym adds_is)

  pub from_stop : (r : Refusal) → (step_from whole s g.far).answer ≡ Err r
      → scan_from whole s g ≡ bad r (joined g.read (step_from whole s g.far).adds)
  from_stop r h =
      same_scan ∙ scan_stop whole s (record { far = later; read = g.read }) r (sym (ap (λ z. z.answer) step_is) ∙ h) ∙ ap (bad r) (sym adds_is)

-- how far it goes: what is said of a step from further on holds from here
went_from : (s : List ℕ) (far : Sofar) (place : ℕ) (a : Dependencies) (r : Result (Option Sofar) Refusal) → far.at ≤ place → (far.at ≤ length s → place ≤ length s)
    → Went s (moved_to far place) a r → Went s far a r
unfolding moved_to
went_from s far place a (Ok (Some n)) l i w = (omega (arith, w.0), w.1, w.2, w.3, w.4)
went_from s far place a (Ok None) l i w = w
went_from s far place a (Err r) l i w = λ h. w (i h)

said_from : (s : List ℕ) (far : Sofar) (place : ℕ) (x : Step) → far.at ≤ place → (far.at ≤ length s → place ≤ length s) → Said s (moved_to far place) x
    → Said s far x
unfolding moved_to
said_from s far place x l i k = record {
  went = went_from s far place x.adds x.answer l i k.went;
  fits = omega (arith, k.fits);
  placed = k.placed;
  few_imports = k.few_imports;
  few_includes = k.few_includes;
}

pub from_said : (whole : Bool) (s : List ℕ) (far : Sofar) → Said s far (step_from whole s far)
unfolding step_from
from_said whole s far =
    let k = seen whole s far in
    subst (Said s far) (sym k.step) (said_from s far k.place (step_at whole s (moved_to far k.place)) k.from k.within (step_said whole s _))

-- a scan that ends here read nothing more
pub from_ends : (whole : Bool) (s : List ℕ) (far : Sofar) → (step_from whole s far).answer ≡ (Ok None) → (step_from whole s far).adds ≡ none
from_ends whole s far h = subst (Went s far (step_from whole s far).adds) h (from_said whole s far).went
