-- The dependency scan in the whole-text mode and in the old one, side by side: where they part, the one is 11 and the other stands at the text's end, so that
-- it is refused there by 4, 6 or 8, or ends.
-- Assumes nothing.
use Rattle.std.specs.Prelude.{Ok, Err, Some, None, Result, Option}
use Prim.Native.Nat.{ℕ, ◌+◌, ◌-◌, ◌<◌, ◌≤◌}
use mathlib.Core.Path.{◌≡◌, refl, sym, ap, ap₂, subst, ◌∙◌}
use mathlib.Core.Bool.{Bool, true, false}
use mathlib.Core.Logic.{◌⊎◌, inl, inr, ⊎_elim}
use mathlib.Core.List.{List, [], ◌∷◌, ◌++◌, Memᴰ}
use native.Mathlib.Omega.{arith}
use lib.Dec.{eqb, leb}
use lib.ListN.{length, get_or}
use borrow.Author.Tests.{eqb-true, eqb-false, leb-true, leb-false}
use Rattle.text.specs.Due.{due_here, due_at}
use Rattle.text.specs.Refusal.{cut_at, no_refusal}
use Rattle.text.specs.Scan.{gap_end}
use Rattle.text.specs.declared.Cursor.{Cursor}
use Rattle.text.specs.declared.Refusal.{Refusal}
use Rattle.text.proofs.Here.{by_test, here, past}
use Rattle.text.proofs.Laws.{gap_from, gap_twice}
use Rattle.text_value.specs.Argument.{argument_at, line_at}
use Rattle.text_value.specs.Value.{value_at, value_bytes}
use Rattle.text_value.proofs.ArgumentLaws.{FourOrSix, argument_modes, argument_open, line_modes, due_past}
use Rattle.text_skip.specs.Skip.{past_token}
use Rattle.text_past.proofs.PastLaws.{SameOrCut}
use Rattle.text_skip.proofs.PastLaws.{token_modes}
use Rattle.text_statement.specs.Statement.{past_statement}
use Rattle.text_statement.proofs.PastLaws.{statement_modes}
use Rattle.text_lent.specs.Lent.{lent_at}
use Rattle.scan_rows.specs.Span.{held}
use Rattle.scan_rows.specs.declared.Span.{Span}
use Rattle.scan_block.specs.Left.{Left}
use Rattle.scan_block.specs.Block.{line_kind, with_value, with_skipped, moved, after_kind, inside_at, Stored, block_from, begun, block_at}
use Rattle.scan_block.specs.declared.Body.{Body}
use Rattle.scan_block.specs.declared.Inside.{Inside}
use Rattle.scan_block.specs.declared.Inside.TheVariants.{On, Closed}
use Rattle.scan_block.proofs.InsideLaws.{inside_end, inside_close, inside_kind}
use Rattle.scan_block.proofs.FarLaws.{Went, inside_went}
use Rattle.scan_block.proofs.BlockLaws.{block_on, block_close, block_broken}
use Rattle.scan_imports.specs.Statement.{import_of, with_name, after_name, import_at, include_of, plain_of, block_of, open_or_plain, after_value, include_at}
use Rattle.scan_head.specs.Head.{head_at}
use Rattle.scan_head.specs.declared.Head.{Head}
use Rattle.scan_head.specs.declared.Head.TheVariants.{Import, Include, Last, Other}
use Rattle.yangparser.specs.Dependencies as Deps
use Rattle.yangparser.specs.Dependencies.{Step, adding, import_step, include_step, full, unless_full, import_here, include_here, moved_to, after_token, head_step}
use Rattle.yangparser.specs.Dependencies.{step_at}
use Rattle.yangparser.specs.Dependencies.{Scanning, scan_from}
use Rattle.yangparser.specs.declared.Sofar.{Sofar}
use Rattle.yangparser.proofs.AddLaws.{full_is, room_is}
use Rattle.yangparser.proofs.StepLaws.{step_past, step_head}
use Rattle.yangparser.proofs.FarLaws.{Went as StepWent, step_said}
use Rattle.yangparser.proofs.ScanLaws.{scan_on, scan_done, scan_stop}
use Rattle.demands_scans.specs.Whole.{told_dependencies, WholeOrOld, same, cut, DependenciesWhole, old_dependencies}
use Rattle.demands_scans.proofs.Loops.{by_falling}
use Rattle.scan_rows.specs.declared.YangImport.{YangImport}
use Rattle.scan_rows.specs.declared.YangInclude.{YangInclude}

-- ---- the old mode's refusals

abbrev pub Old : Refusal → Type 0
Old r = Memᴰ r.number (4 ∷ 6 ∷ 8 ∷ [])

four_or_six : (r : Refusal) → FourOrSix r → Old r
four_or_six r (inl e) = Memᴰ.head e
four_or_six r (inr e) = Memᴰ.tail (Memᴰ.head e)

-- ---- one statement of a block

-- what the old mode answers where the other is 11: it goes on at the text's end, or it is refused there
abbrev pub OldInside : List ℕ → Result Inside Refusal → Type 0
OldInside s (Ok (On y)) = y.at ≡ length s
OldInside s (Ok (Closed y)) = ⊥
OldInside s (Err r) = FourOrSix r

abbrev pub InsideModes : List ℕ → Left (Result Inside Refusal) → Left (Result Inside Refusal) → Type 0
InsideModes s x y = (x ≡ y) ⊎ ((x.answer ≡ Err (cut_at (length s))) × OldInside s y.answer)

skipped_modes : (s : List ℕ) (b : Body) (x y : Result Cursor Refusal) → SameOrCut (length s) x y
    → InsideModes s (record { answer = with_skipped b x; bytes = [] }) (record { answer = with_skipped b y; bytes = [] })
unfolding with_skipped
skipped_modes s b x y (inl e) = inl (ap (λ d. record { answer = with_skipped b d; bytes = [] }) e)
skipped_modes s b x y (inr e) =
    inr (ap (with_skipped b) e.0, subst (λ d. OldInside s (with_skipped b d)) (sym e.2) e.3)

value_modes : (s : List ℕ) (b : Body) (j : ℕ) (bs : List ℕ) (x y : Result (Cursor × ℕ) Refusal)
    → (x ≡ y) ⊎ ((x ≡ Err (cut_at (length s))) × (r : Refusal) × (y ≡ Err r) × FourOrSix r)
    → InsideModes s (record { answer = with_value b j x; bytes = bs }) (record { answer = with_value b j y; bytes = bs })
unfolding with_value
value_modes s b j bs x y (inl e) = inl (ap (λ a. record { answer = with_value b j a; bytes = bs }) e)
value_modes s b j bs x y (inr e) = inr (ap (with_value b j) e.0, subst (λ a. OldInside s (with_value b j a)) (sym e.2) e.3)

kind_modes : (s : List ℕ) (g : ℕ) (b : Body) (l : Option (ℕ × Cursor)) → g ≤ length s → InsideModes s (after_kind true s g b l) (after_kind false s g b l)
unfolding after_kind
kind_modes s g b (Some (j, c)) i =
    value_modes s b j (value_bytes (value_at s c.at)) (line_at true s c.at b.used j 59) (line_at false s c.at b.used j 59)
    (line_modes s c.at b.used j 59 (omega arith))
kind_modes s g b None i = skipped_modes s b (past_statement true s g) (past_statement false s g) (statement_modes s g i)

inside_modes : (s : List ℕ) (k : ℕ) (b : Body) → InsideModes s (inside_at true s k b) (inside_at false s k b)
inside_modes s k b =
    let g = gap_end s b.at in
    by_test (eqb (get_or s g 256) 256)
    (λ t. let e = eqb-true (get_or s g 256) 256 t in inl (inside_end true s k b refl refl e ∙ sym (inside_end false s k b refl refl e)))
    (λ t. let n : (get_or s g 256 ≡ 256 → ⊥) = eqb-false _ _ t in
    by_test (eqb (get_or s g 256) 125)
    (λ v. let e = eqb-true (get_or s g 256) 125 v in inl (inside_close true s k b refl refl n e ∙ sym (inside_close false s k b refl refl n e)))
    (λ v. let m : (get_or s g 256 ≡ 125 → ⊥) = eqb-false _ _ v in
    let i = here s g n in
    of (inside_kind true s k b refl refl n m refl) (inside_kind false s k b refl refl n m refl) (kind_modes s g b (line_kind s g k) (omega arith))))
  where
    of : {x y v w : Left (Result Inside Refusal)} → x ≡ v → y ≡ w → InsideModes s v w → InsideModes s x y
    of {x} p q (inl e) = inl (p ∙ e ∙ sym q)
    of {x} p q (inr e) = inr (ap (λ z. z.answer) p ∙ e.0, subst (λ z. OldInside s z.answer) (sym q) e.1)

-- ---- a block

abbrev pub BlockModes : List ℕ → Left (Result Body Refusal) → Left (Result Body Refusal) → Type 0
BlockModes s x y = (x ≡ y) ⊎ ((x.answer ≡ Err (cut_at (length s))) × (r : Refusal) × (y.answer ≡ Err r) × Old r)

-- at the text's end it is refused by 8
block_past : (s : List ℕ) (k : ℕ) (g : Stored) → g.body.at ≡ length s → (r : Refusal) × ((block_from false s k g).answer ≡ Err r) × Old r
block_past s k g e =
    let at = gap_end s g.body.at in
    let p : get_or s at 256 ≡ 256 = past s at (omega (arith, gap_from s g.body.at)) in
    let r : Refusal = record { number = 8; keyword = k; at = at } in
    let i = ap (λ x. x.answer) (inside_end false s k g.body refl refl p) in
    (r, ap (λ x. x.answer) (block_broken false s k g r i), Memᴰ.tail (Memᴰ.tail (Memᴰ.head refl)))

module _ (s : List ℕ) (k : ℕ) where
  abbrev BothBlocks : Stored → Type 0
  BothBlocks g = BlockModes s (block_from true s k g) (block_from false s k g)

  -- the state after a statement y
  abbrev next : Stored → Body → Stored
  next g y = record { body = y; bytes = g.bytes ++ (inside_at false s k g.body).bytes }

  module _ (g : Stored) (later : (y : Body) → (inside_at false s k g.body).answer ≡ Ok (On y) → BothBlocks (next g y)) where
    -- both read the same statement
    block_same : (x : Left (Result Inside Refusal)) → inside_at true s k g.body ≡ x → inside_at false s k g.body ≡ x → (i : Result Inside Refusal) → x.answer ≡ i → BothBlocks g
    block_same x p q (Ok (On y)) h =
        let e : g.bytes ++ (inside_at true s k g.body).bytes ≡ g.bytes ++ (inside_at false s k g.body).bytes
        = ap (λ z. g.bytes ++ z.bytes) (p ∙ sym q) in
        let l = block_on true s k g y (ap (λ z. z.answer) p ∙ h) ∙ ap (λ bs. block_from true s k (record { body = y; bytes = bs })) e in
        let m = ap (λ z. z.answer) q ∙ h in
        let r = block_on false s k g y m in
        on l r (later y m)
      where
        on : {x y v w : Left (Result Body Refusal)} → x ≡ v → y ≡ w → BlockModes s v w → BlockModes s x y
        on p q (inl e) = inl (p ∙ e ∙ sym q)
        on p q (inr e) = inr (ap (λ z. z.answer) p ∙ e.0, e.1, ap (λ z. z.answer) q ∙ e.2, e.3)
    block_same x p q (Ok (Closed y)) h =
        inl (block_close true s k g y (ap (λ z. z.answer) p ∙ h)
        ∙ ap (λ z. record { answer = Ok y; bytes = g.bytes ++ z.bytes }) (p ∙ sym q)
        ∙ sym (block_close false s k g y (ap (λ z. z.answer) q ∙ h)))
    block_same x p q (Err r) h =
        inl (block_broken true s k g r (ap (λ z. z.answer) p ∙ h)
        ∙ ap (λ z. record { answer = Err r; bytes = g.bytes ++ z.bytes }) (p ∙ sym q)
        ∙ sym (block_broken false s k g r (ap (λ z. z.answer) q ∙ h)))

    -- the whole-text mode is 11
    block_cut : (inside_at true s k g.body).answer ≡ Err (cut_at (length s)) → (i : Result Inside Refusal) → (inside_at false s k g.body).answer ≡ i
        → OldInside s i → BothBlocks g
    block_cut c i h o =
        let e = ap (λ x. x.answer) (block_broken true s k g (cut_at (length s)) c) in
        let q = old i h o in
        inr (e, q.0, q.1, q.2)
      where
        old : (i : Result Inside Refusal) → (inside_at false s k g.body).answer ≡ i → OldInside s i → (r : Refusal) × ((block_from false s k g).answer ≡ Err r) × Old r
        old (Ok (On y)) h o =
            let z = block_past s k (next g y) o in
            (z.0, ap (λ x. x.answer) (block_on false s k g y h) ∙ z.1, z.2)
        old (Ok (Closed y)) h o = absurd o
        old (Err r) h o = (r, ap (λ x. x.answer) (block_broken false s k g r h), four_or_six r o)

    block_one : BothBlocks g
    block_one =
        ⊎_elim (λ e. block_same (inside_at false s k g.body) e refl (inside_at false s k g.body).answer refl)
        (λ e. block_cut e.0 (inside_at false s k g.body).answer refl e.1) (inside_modes s k g.body)

  block_modes : (g : Stored) → BothBlocks g
  block_modes =
      by_falling (λ g. length s - g.body.at) BothBlocks
      (λ g later. block_one g
      (λ y h. let f = subst (Went s g.body (inside_at false s k g.body).bytes) h (inside_went false s k g.body) in
      later (next g y) (omega (arith, f.0, f.1))))

-- behind its brace
block_begun : (s : List ℕ) (at u k : ℕ) → BlockModes s (block_at true s at u k) (block_at false s at u k)
unfolding block_at
block_begun s at u k = block_modes s k (record { body = begun at u; bytes = [] })

-- ---- an import and an include

abbrev pub ImportModes : List ℕ → Left (Result (Cursor × ℕ × YangImport) Refusal) → Left (Result (Cursor × ℕ × YangImport) Refusal) → Type 0
ImportModes s x y = (x ≡ y) ⊎ ((x.answer ≡ Err (cut_at (length s))) × (r : Refusal) × (y.answer ≡ Err r) × Old r)

import_block : (s : List ℕ) (name : Span) (bs : List ℕ) (x y : Left (Result Body Refusal)) → BlockModes s x y → ImportModes s (with_name name bs x) (with_name name bs y)
unfolding with_name import_of
import_block s name bs x y (inl e) = inl (ap (with_name name bs) e)
import_block s name bs x y (inr e) = inr (ap (import_of name) e.0, e.1, ap (import_of name) e.2, e.3)

pub import_modes : (s : List ℕ) (at u : ℕ) → ImportModes s (import_at true s at u) (import_at false s at u)
unfolding import_at after_name
import_modes s at u =
    ⊎_elim (λ e. named (line_at false s at u 8 123) e)
    (λ e. let bs = value_bytes (value_at s at) in
    inr (ap (λ a. (after_name true s u bs a).answer) e.0, e.1, ap (λ a. (after_name false s u bs a).answer) e.2, four_or_six e.1 e.3))
    (line_modes s at u 8 123 (omega arith))
  where
    by_name : (a : Result (Cursor × ℕ) Refusal) → ImportModes s (after_name true s u (value_bytes (value_at s at)) a) (after_name false s u (value_bytes (value_at s at)) a)
    by_name (Ok (c, n)) =
        import_block s (held u (n - u)) (value_bytes (value_at s at)) (block_at true s c.at n 8) (block_at false s c.at n 8)
        (block_begun s c.at n 8)
    by_name (Err r) = inl refl

    named : (a : Result (Cursor × ℕ) Refusal) → line_at true s at u 8 123 ≡ a → ImportModes s (import_at true s at u) (after_name false s u (value_bytes (value_at s at)) a)
    named a e = subst (λ z. ImportModes s (after_name true s u (value_bytes (value_at s at)) z) (after_name false s u (value_bytes (value_at s at)) a)) (sym e)
        (by_name a)

abbrev pub IncludeModes : List ℕ → Left (Result (Cursor × ℕ × YangInclude) Refusal) → Left (Result (Cursor × ℕ × YangInclude) Refusal) → Type 0
IncludeModes s x y = (x ≡ y) ⊎ ((x.answer ≡ Err (cut_at (length s))) × (r : Refusal) × (y.answer ≡ Err r) × Old r)

include_block : (s : List ℕ) (name : Span) (bs : List ℕ) (x y : Left (Result Body Refusal)) → BlockModes s x y → IncludeModes s (block_of name bs x) (block_of name bs y)
unfolding block_of include_of
include_block s name bs x y (inl e) = inl (ap (block_of name bs) e)
include_block s name bs x y (inr e) = inr (ap (include_of name) e.0, e.1, ap (include_of name) e.2, e.3)

open_modes : (s : List ℕ) (g n : ℕ) (name : Span) (bs : List ℕ) → IncludeModes s (open_or_plain true s g n name bs) (open_or_plain false s g n name bs)
unfolding open_or_plain
open_modes s g n name bs =
    by_test (eqb (get_or s g 256) 123)
    (λ t. rw t (include_block s name bs (block_at true s (g + 1) n 9) (block_at false s (g + 1) n 9) (block_begun s (g + 1) n 9)))
    (λ t. inl (rw t refl))

-- behind a name at the text's end
plain_past : (s : List ℕ) (c : Cursor) (n : ℕ) (name : Span) (bs : List ℕ) → c.at ≡ length s
    → (open_or_plain false s (gap_end s c.at) n name bs).answer ≡ Err (record { number = 6; keyword = 9; at = gap_end s c.at })
unfolding open_or_plain plain_of due_at
plain_past s c n name bs e =
    let g = gap_end s c.at in
    let p : get_or s g 256 ≡ 256 = past s g (omega (arith, gap_from s c.at)) in
    let t : eqb (get_or s g 256) 123 ≡ false = rw p refl in
    rw t (ap (plain_of name n) (due_past s c.at 59 9 (omega arith) e))

pub include_modes : (s : List ℕ) (at u : ℕ) → IncludeModes s (include_at true s at u) (include_at false s at u)
unfolding include_at after_value
include_modes s at u =
    let bs = value_bytes (value_at s at) in
    ⊎_elim (λ e. subst (λ z. IncludeModes s (after_value true s u bs z) (include_at false s at u)) (sym e) (by_name (argument_at false s at u 9)))
    (λ e. let q = old (argument_open s at u 9 e.1) in inr (ap (λ a. (after_value true s u bs a).answer) e.0, q.0, q.1, q.2))
    (argument_modes s at u 9)
  where
    by_name : (a : Result (Cursor × ℕ) Refusal) → IncludeModes s (after_value true s u (value_bytes (value_at s at)) a) (after_value false s u (value_bytes (value_at s at)) a)
    by_name (Ok (c, n)) = open_modes s (gap_end s c.at) n (held u (n - u)) (value_bytes (value_at s at))
    by_name (Err r) = inl refl

    old : (argument_at false s at u 9 ≡ Err (record { number = 4; keyword = 9; at = length s }))
        ⊎ ((c : Cursor) × (n : ℕ) × (argument_at false s at u 9 ≡ Ok (c, n)) × (c.at ≡ length s))
        → (r : Refusal) × ((after_value false s u (value_bytes (value_at s at)) (argument_at false s at u 9)).answer ≡ Err r) × Old r
    old (inl e) =
        let r : Refusal = record { number = 4; keyword = 9; at = length s } in
        (r, ap (λ a. (after_value false s u (value_bytes (value_at s at)) a).answer) e, Memᴰ.head refl)
    old (inr e) =
        let r : Refusal = record { number = 6; keyword = 9; at = gap_end s e.0.at } in (
          r,
          ap (λ a. (after_value false s u (value_bytes (value_at s at)) a).answer) e.2
              ∙ plain_past s e.0 e.1 (held u (e.1 - u)) (value_bytes (value_at s at)) e.3,
          Memᴰ.tail (Memᴰ.head refl),
        )

-- ---- a step

abbrev OldNext : List ℕ → Result (Option Sofar) Refusal → Type 0
OldNext s (Ok (Some far)) = far.at ≡ length s
OldNext s (Ok None) = ⊥
OldNext s (Err r) = Old r

abbrev StepModes : List ℕ → Step → Step → Type 0
StepModes s x y = (x ≡ y) ⊎ ((x.answer ≡ Err (cut_at (length s))) × OldNext s y.answer)

import_step_lem : (s : List ℕ) (far : Sofar) (x y : Left (Result (Cursor × ℕ × YangImport) Refusal)) → ImportModes s x y
    → StepModes s (import_step far x.bytes x.answer) (import_step far y.bytes y.answer)
unfolding import_step
import_step_lem s far x y (inl e) = inl (ap (λ z. import_step far z.bytes z.answer) e)
import_step_lem s far x y (inr e) =
    inr (ap (λ a. (import_step far x.bytes a).answer) e.0, subst (λ a. OldNext s (import_step far y.bytes a).answer) (sym e.2) e.3)

include_step_lem : (s : List ℕ) (far : Sofar) (x y : Left (Result (Cursor × ℕ × YangInclude) Refusal)) → IncludeModes s x y
    → StepModes s (include_step far x.bytes x.answer) (include_step far y.bytes y.answer)
unfolding include_step
include_step_lem s far x y (inl e) = inl (ap (λ z. include_step far z.bytes z.answer) e)
include_step_lem s far x y (inr e) =
    inr (ap (λ a. (include_step far x.bytes a).answer) e.0, subst (λ a. OldNext s (include_step far y.bytes a).answer) (sym e.2) e.3)

-- where the rows are full, both are refused by 10
full_modes : (s : List ℕ) (rows k at : ℕ) (x y : Step) → StepModes s x y → StepModes s (unless_full rows k at x) (unless_full rows k at y)
unfolding unless_full
full_modes s rows k at x y m = by_test (leb 256 rows) (λ t. inl (rw t refl)) (λ t. rw t m)

token_step : (s : List ℕ) (far : Sofar) (x y : Result Cursor Refusal) → SameOrCut (length s) x y
    → StepModes s (adding (after_token far x) Deps.none) (adding (after_token far y) Deps.none)
unfolding after_token moved_to
token_step s far x y (inl e) = inl (ap (λ d. adding (after_token far d) Deps.none) e)
token_step s far x y (inr e) = inr (ap (after_token far) e.0, subst (λ d. OldNext s (after_token far d)) (sym e.2) e.3)

head_modes : (s : List ℕ) (far : Sofar) (g : ℕ) (h : Head) → g < length s → StepModes s (head_step true s far g h) (head_step false s far g h)
unfolding head_step import_here include_here
head_modes s far g (Import c) i =
    full_modes s far.imports 8 c.at _ _
    (import_step_lem s far (import_at true s c.at far.used) (import_at false s c.at far.used) (import_modes s c.at far.used))
head_modes s far g (Include c) i =
    full_modes s far.includes 9 c.at _ _
    (include_step_lem s far (include_at true s c.at far.used) (include_at false s c.at far.used) (include_modes s c.at far.used))
head_modes s far g (Last c) i = inl refl
head_modes s far g Other i = token_step s far (past_token true s g) (past_token false s g) (token_modes s g i)

step_modes : (s : List ℕ) (far : Sofar) → StepModes s (step_at true s far) (step_at false s far)
step_modes s far =
    let g = gap_end s far.at in
    by_test (leb (length s) g)
    (λ t. let h = leb-true (length s) g t in inl (step_past true s far refl h ∙ sym (step_past false s far refl h)))
    (λ t. let h = leb-false (length s) g t in
    of (step_head true s far refl h refl refl) (step_head false s far refl h refl refl) (head_modes s far g (head_at s g) h))
  where
    of : {x y v w : Step} → x ≡ v → y ≡ w → StepModes s v w → StepModes s x y
    of p q (inl e) = inl (p ∙ e ∙ sym q)
    of p q (inr e) = inr (ap (λ z. z.answer) p ∙ e.0, subst (λ z. OldNext s z.answer) (sym q) e.1)

-- ---- all of them

module _ (s : List ℕ) where
  abbrev ScanModes : Deps.Scan → Deps.Scan → Type 0
  ScanModes x y = WholeOrOld told_dependencies old_dependencies s x y

  abbrev BothScans : Scanning → Type 0
  BothScans g = ScanModes (scan_from true s g) (scan_from false s g)

  abbrev after : Scanning → Sofar → Scanning
  after g n = record { far = n; read = Deps.joined g.read (step_at false s g.far).adds }

  scans_are : {x y v w : Deps.Scan} → x ≡ v → y ≡ w → ScanModes v w → ScanModes x y
  scans_are p q (same e) = same (p ∙ e ∙ sym q)
  scans_are p q (cut e m) = cut (ap told_dependencies p ∙ e) (subst (λ z. Memᴰ (told_dependencies z).number old_dependencies) (sym q) m)

  -- at the text's end the scan is good
  scan_past : (g : Scanning) → g.far.at ≡ length s → told_dependencies (scan_from false s g) ≡ no_refusal
  scan_past g e =
      let h = ap (λ x. x.answer) (step_past false s g.far refl (omega (arith, gap_from s g.far.at))) in
      ap told_dependencies (scan_done false s g h)

  module _ (g : Scanning) (later : (n : Sofar) → (step_at false s g.far).answer ≡ Ok (Some n) → BothScans (after g n)) where
    scan_same : (x : Step) → step_at true s g.far ≡ x → step_at false s g.far ≡ x → (r : Result (Option Sofar) Refusal) → x.answer ≡ r → BothScans g
    scan_same x p q (Ok (Some n)) h =
        let m = ap (λ z. z.answer) q ∙ h in
        scans_are
        (scan_on true s g n (ap (λ z. z.answer) p ∙ h)
        ∙ ap (λ z. scan_from true s (record { far = n; read = Deps.joined g.read z.adds })) (p ∙ sym q))
        (scan_on false s g n m) (later n m)
    scan_same x p q (Ok None) h =
        same (scan_done true s g (ap (λ z. z.answer) p ∙ h)
        ∙ ap (λ z. Deps.good (Deps.joined g.read z.adds)) (p ∙ sym q)
        ∙ sym (scan_done false s g (ap (λ z. z.answer) q ∙ h)))
    scan_same x p q (Err r) h =
        same (scan_stop true s g r (ap (λ z. z.answer) p ∙ h)
        ∙ ap (λ z. Deps.bad r (Deps.joined g.read z.adds)) (p ∙ sym q)
        ∙ sym (scan_stop false s g r (ap (λ z. z.answer) q ∙ h)))

    scan_cut : (step_at true s g.far).answer ≡ Err (cut_at (length s)) → (r : Result (Option Sofar) Refusal) → (step_at false s g.far).answer ≡ r → OldNext s r → BothScans g
    scan_cut c (Ok (Some n)) h o =
        cut (ap told_dependencies (scan_stop true s g (cut_at (length s)) c))
        (Memᴰ.head (ap (λ x. x.number) (ap told_dependencies (scan_on false s g n h) ∙ scan_past (after g n) o)))
    scan_cut c (Ok None) h o = absurd o
    scan_cut c (Err r) h o =
        cut (ap told_dependencies (scan_stop true s g (cut_at (length s)) c))
        (subst (λ z. Memᴰ (told_dependencies z).number old_dependencies) (sym (scan_stop false s g r h)) (Memᴰ.tail o))

    scan_one : BothScans g
    scan_one =
        ⊎_elim (λ e. scan_same (step_at false s g.far) e refl (step_at false s g.far).answer refl)
        (λ e. scan_cut e.0 (step_at false s g.far).answer refl e.1) (step_modes s g.far)

  scan_modes : (g : Scanning) → BothScans g
  scan_modes =
      by_falling (λ g. length s - g.far.at) BothScans
      (λ g later. scan_one g
      (λ n h. let f = subst (StepWent s g.far (step_at false s g.far).adds) h (step_said false s g.far).went in
      later (after g n) (omega (arith, f.0, f.1))))

  pub scanned_whole : ScanModes (Deps.scanned true s) (Deps.scanned false s)
  unfolding Deps.scanned
  scanned_whole = scan_modes (record { far = Deps.start; read = Deps.none })

pub dependencies_whole : DependenciesWhole
unfolding Deps.dependencies Deps.if_fit
dependencies_whole s short = go (lent_at s short)
  where
    go : (l : Result (Unit {0}) Refusal) → WholeOrOld told_dependencies old_dependencies s (Deps.if_fit l (Deps.scanned true s)) (Deps.if_fit l (Deps.scanned false s))
    go (Ok tt) = scanned_whole s
    go (Err r) = same refl
