-- The values of an import and of an include: the name is read behind the keyword, the others in the block behind the name.
-- Assumes nothing.
use Rattle.std.specs.Prelude.{Some, Ok, Err, Result}
use Prim.Native.Nat.{ℕ, ◌+◌, ◌-◌, ◌<◌, ◌≤◌}
use mathlib.Core.Path.{◌≡◌, refl, ap, subst}
use mathlib.Core.Logic.{◌⊎◌, inl, inr, ⊎_elim}
use mathlib.Core.Bool.{true, false}
use mathlib.Core.List.{List, [], ◌++◌, append_assoc}
use native.Mathlib.Omega.{arith}
use lib.Dec.{eqb}
use lib.ListN.{length, length-append}
use Rattle.text.specs.Bytes.{look}
use Rattle.text.specs.Due.{due_here, due_at}
use Rattle.text.specs.Keyword.{match_at}
use Rattle.text.specs.Scan.{gap_end}
use Rattle.text.specs.Words.{import_word, include_word, prefix_word, revision_date_word}
use Rattle.text.specs.declared.Cursor.{Cursor}
use Rattle.text.proofs.Here.{by_test, never}
use Rattle.text_value.specs.Argument.{argument_at, line_at}
use Rattle.text_value.specs.Value.{value_at, value_bytes}
use Rattle.text_value.proofs.ArgumentLaws.{argument_far, line_far}
use Rattle.scan_rows.specs.Span.{held, missing}
use Rattle.scan_rows.specs.declared.Span.{Span}
use Rattle.scan_block.specs.Block.{Stored, block_turn, begun, block_at}
use Rattle.scan_imports.specs.Statement.{import_of, with_name, after_name, import_at, include_of, plain_of, block_of, open_or_plain, after_value, include_at}
use Rattle.scan_imports.proofs.StatementLaws.{of_prefixed, of_bare}
use Rattle.demands_values.specs.Behind.{Behind, Either, Unmet, MetLast, Opened, Ended, InBlock, NotInBlock}
use Rattle.demands_values.proofs.BehindLaws.{argument_value, line_value, behind_more, held_new, behind_new}
use Rattle.demands_values.proofs.BlockValues.{LineWon, BlockHas, block_has}
use Rattle.scan_block.specs.declared.Body.{Body}
use Rattle.scan_rows.specs.declared.YangImport.{YangImport}
use Rattle.scan_rows.specs.declared.YangInclude.{YangInclude}
use Rattle.text.specs.declared.Refusal.{Refusal}

-- what is said of the first state of the block that opens at c; u: the store's place there
module _ (s : List ℕ) (k end : ℕ) (c : Cursor) (brace : due_at s end 123 k ≡ Ok c) (u : ℕ) where
  abbrev begin : Stored
  begin = record { body = begun c.at u; bytes = [] }

  opened : (P : Stored → Type 0) → P begin → Opened s k end P
  opened P p = record { opens = c; brace = brace; used = u; holds = p }

  module _ (pre word store : List ℕ) (x : Span) where
    abbrev Last : Type 0
    Last = MetLast (block_turn false s k) (λ b. b.body.at) s word store begin x

    in_block : Last → InBlock s k end word store x
    in_block l = opened (λ g. MetLast (block_turn false s k) (λ b. b.body.at) s word store g x) l

    not_in : Unmet (block_turn false s k) (λ b. b.body.at) s word begin → NotInBlock s k end word
    not_in u = opened (Unmet (block_turn false s k) (λ b. b.body.at) s word) u

    either_in : LineWon s k pre word begin store missing x → Either (NotInBlock s k end word) (InBlock s k end word store) x
    either_in w = ⊎_elim (λ e. inl (e.0, not_in e.1)) (λ l. inr (in_block l)) w

    -- a present one is there
    present_in : x.present ≡ true → LineWon s k pre word begin store missing x → InBlock s k end word store x
    present_in t w = ⊎_elim (λ e. absurd (never (ap (λ y. y.present) e.0) t)) in_block w

-- ---- an import; p: its keyword's place, which ends at c

abbrev pub ImportHas : List ℕ → ℕ → List ℕ → Result (Cursor × ℕ × YangImport) Refusal → Type 0
ImportHas s p store (Ok (c, n, i)) =
    (name : Behind s import_word p store i.module_name) × InBlock s 8 name.end prefix_word store i.prefix
    × Either (NotInBlock s 8 name.end revision_date_word) (InBlock s 8 name.end revision_date_word store) i.revision_date
ImportHas s p store (Err r) = Unit {0}

-- pre: the bytes stored before it
module _ (s : List ℕ) (p : ℕ) (c : Cursor) (m : match_at s p import_word ≡ Some c) (u : ℕ) (pre : List ℕ) (count : u ≡ length pre) where
  name_has : (a : Result (Cursor × ℕ) Refusal) → line_at false s c.at u 8 123 ≡ a
      → ImportHas s p (pre ++ (after_name false s u (value_bytes (value_at s c.at)) a).bytes) (after_name false s u (value_bytes (value_at s c.at)) a).answer
  unfolding after_name with_name import_of
  name_has (Err r) h = tt
  name_has (Ok (d, n)) h =
      let b = block_at false s d.at n 8 in
      let at : n ≡ length (pre ++ bs) = omega (arith, count, f.2, length-append pre bs) in
      subst (λ l. ImportHas s p l (import_of (held u (n - u)) b.answer)) (append_assoc pre bs b.bytes)
      (of b.bytes b.answer (block_has s 8 (pre ++ bs) d.at n at))
    where
      bs : List ℕ
      bs = value_bytes (value_at s c.at)

      f : (c.at + length bs < d.at) × (d.at ≤ length s) × (n ≡ u + length bs)
      f = line_far false s c.at u 8 123 d n (omega arith) h

      of : (cs : List ℕ) (b : Result Body Refusal) → BlockHas s 8 (pre ++ bs) (record { body = begun d.at n; bytes = [] }) cs b
          → ImportHas s p (pre ++ bs ++ cs) (import_of (held u (n - u)) b)
      of cs (Err r) w = tt
      of cs (Ok y) w =
          let v = line_value s c.at u 8 123 d n h in
          let name = behind_more (pre ++ bs) cs (behind_new pre bs (held u (n - u)) m v.1 (held_new pre bs count f.2)) in
          let e = v.0 in
          let store = pre ++ bs ++ cs in
          by_test y.prefix.present
          (λ t. subst (ImportHas s p store) (of_prefixed (held u (n - u)) y t) (
            name,
            present_in s 8 e d v.2 n (pre ++ bs) prefix_word store y.prefix t (w.prefix refl),
            either_in s 8 e d v.2 n (pre ++ bs) revision_date_word store y.revision w.revision,
          ))
          (λ t. subst (ImportHas s p store) (of_bare (held u (n - u)) y t) tt)

  pub import_has : ImportHas s p (pre ++ (import_at false s c.at u).bytes) (import_at false s c.at u).answer
  unfolding import_at
  import_has = name_has (line_at false s c.at u 8 123) refl

-- ---- an include

abbrev pub NoRevision : List ℕ → ℕ → Type 0
NoRevision s end = Ended s 9 end ⊎ NotInBlock s 9 end revision_date_word

abbrev pub IncludeHas : List ℕ → ℕ → List ℕ → Result (Cursor × ℕ × YangInclude) Refusal → Type 0
IncludeHas s p store (Ok (c, n, i)) =
    (name : Behind s include_word p store i.submodule_name)
    × Either (NoRevision s name.end) (InBlock s 9 name.end revision_date_word store) i.revision_date
IncludeHas s p store (Err r) = Unit {0}

opens : (s : List ℕ) (at : ℕ) → eqb (look s (gap_end s at)) 123 ≡ true → due_at s at 123 9 ≡ Ok (record { at = gap_end s at + 1 })
unfolding due_at due_here
opens s at t = rw t refl

-- x: the name, n: the store's place behind it
module _ (s : List ℕ) (p : ℕ) (store : List ℕ) (x : Span) (n : ℕ) (count : n ≡ length store) (name : Behind s include_word p store x) where
  block_included : (c : Cursor) → due_at s name.end 123 9 ≡ Ok c → (cs : List ℕ) (b : Result Body Refusal)
      → BlockHas s 9 store (record { body = begun c.at n; bytes = [] }) cs b → IncludeHas s p (store ++ cs) (include_of x b)
  unfolding include_of
  block_included c h cs (Ok y) w =
      let revision = either_in s 9 name.end c h n store revision_date_word (store ++ cs) y.revision w.revision in
      (behind_more store cs name, ⊎_elim (λ e. inl (e.0, inr e.1)) (λ l. inr l) revision)
  block_included c h cs (Err r) w = tt

  plain_included : (d : Result Cursor Refusal) → due_at s name.end 59 9 ≡ d → IncludeHas s p store (plain_of x n d)
  unfolding plain_of
  plain_included (Ok c) h = (name, inl (refl, inl (c, h)))
  plain_included (Err r) h = tt

module _ (s : List ℕ) (p : ℕ) (c : Cursor) (m : match_at s p include_word ≡ Some c) (u : ℕ) (pre : List ℕ) (count : u ≡ length pre) where
  value_has : (a : Result (Cursor × ℕ) Refusal) → argument_at false s c.at u 9 ≡ a
      → IncludeHas s p (pre ++ (after_value false s u (value_bytes (value_at s c.at)) a).bytes) (after_value false s u (value_bytes (value_at s c.at)) a).answer
  unfolding after_value open_or_plain block_of due_at
  value_has (Err r) h = tt
  value_has (Ok (d, n)) h =
      let bs = value_bytes (value_at s c.at) in
      let f = argument_far false s c.at u 9 d n h in
      let x = held u (n - u) in
      let name = behind_new pre bs x m (argument_value s c.at u 9 d n h) (held_new pre bs count f.3) in
      let at : n ≡ length (pre ++ bs) = omega (arith, count, f.3, length-append pre bs) in
      let g = gap_end s d.at in
      let b = block_at false s (g + 1) n 9 in
      by_test (eqb (look s g) 123)
      (λ t. rw t (subst (λ l. IncludeHas s p l (include_of x b.answer)) (append_assoc pre bs b.bytes)
      (block_included s p (pre ++ bs) x n at name (record { at = g + 1 }) (opens s d.at t) b.bytes b.answer (block_has s 9 (pre ++ bs) (g + 1) n at))))
      (λ t. rw t (plain_included s p (pre ++ bs) x n at name (due_here s g 59 9) refl))

  pub include_has : IncludeHas s p (pre ++ (include_at false s c.at u).bytes) (include_at false s c.at u).answer
  unfolding include_at
  include_has = value_has (argument_at false s c.at u 9) refl
