-- What a proof uses of the definitions of `specs/Statement.antt`. Each law takes what the calls on the way answered.
-- Assumes nothing.
use Rattle.std.specs.Prelude.{Ok, Err, Result}
use mathlib.Core.Path.{◌≡◌, refl, sym, ap, ◌∙◌}
use mathlib.Core.Bool.{Bool, true, false}
use mathlib.Core.List.{List, ◌++◌}
use Prim.Native.Nat.{ℕ, ◌+◌, ◌-◌, ◌≤◌}
use native.Mathlib.Omega.{arith}
use lib.ListN.{length, get_or}
use lib.Seq.{sets}
use borrow.Author.Tests.{eq-eqb, ne_eqb}
use Rattle.text.specs.Due.{due_here}
use Rattle.text.specs.Scan.{gap_end}
use Rattle.text.specs.declared.Cursor.{Cursor}
use Rattle.text.specs.declared.Refusal.{Refusal}
use Rattle.text.proofs.Laws.{gap_from}
use Rattle.text_value.specs.Argument.{argument_at, line_at}
use Rattle.text_value.specs.Value.{value_at, value_bytes}
use Rattle.text_value.proofs.ArgumentLaws.{argument_far, argument_room, line_far}
use Rattle.text_value.proofs.JoinLaws.{sets_twice}
use Rattle.scan_rows.specs.Span.{held, missing}
use Rattle.scan_rows.specs.declared.Span.{Span}
use Rattle.scan_block.specs.Block.{block_at}
use Rattle.scan_imports.specs.Statement.{of_body, import_of, with_name, after_name, import_at, include_of, plain_of, block_of, open_or_plain, after_value, include_at}
use Rattle.scan_block.specs.declared.Body.{Body}
use Rattle.scan_block.proofs.InsideLaws.{Leaves, leaves}
use Rattle.scan_rows.specs.declared.YangImport.{YangImport}
use Rattle.scan_rows.specs.declared.YangInclude.{YangInclude}

-- ---- an import

module _ (x : Span) (b : Body) where
  pub of_prefixed : b.prefix.present ≡ true
      → Ok ((record { at = b.at }), b.used, (record { module_name = x; prefix = b.prefix; revision_date = b.revision })) ≡ of_body x b
  unfolding of_body
  of_prefixed h = rw h refl

  pub of_bare : b.prefix.present ≡ false → Err (record { number = 7; keyword = 8; at = b.at }) ≡ of_body x b
  unfolding of_body
  of_bare h = rw h refl

-- a: what reading the name and its brace answered; the store was d and is e then
module _ (w : Bool) (s : List ℕ) (at u : ℕ) (d : List ℕ) {a : Result (Cursor × ℕ) Refusal} {e : List ℕ} (ae : a ≡ line_at w s at u 8 123)
    (ee : e ≡ sets d u (value_bytes (value_at s at))) where
  pub import_refused : (r : Refusal) → a ≡ Err r → Leaves (import_at w s at u) d u (Err r) e
  unfolding import_at after_name
  import_refused r h = leaves (ap (after_name w s u (value_bytes (value_at s at))) (sym ae ∙ h)) d u (refl, ee)

  -- b: what the block answered; f: the store then
  module _ (c : Cursor) (n : ℕ) (h : a ≡ Ok (c, n)) {b : Result Body Refusal} {f : List ℕ} (l : Leaves (block_at w s c.at n 8) e n b f) where
    import_named : import_at w s at u ≡ with_name (held u (n - u)) (value_bytes (value_at s at)) (block_at w s c.at n 8)
    unfolding import_at after_name
    import_named = ap (after_name w s u (value_bytes (value_at s at))) (sym ae ∙ h)

    import_stored : f ≡ sets d u (value_bytes (value_at s at) ++ (block_at w s c.at n 8).bytes)
    import_stored =
        let far = line_far w s at u 8 123 c n (omega arith) (sym ae ∙ h) in
        sets_twice d e f u n (value_bytes (value_at s at)) (block_at w s c.at n 8).bytes ee far.2 l.1

    pub import_broken : (r : Refusal) → b ≡ Err r → Leaves (import_at w s at u) d u (Err r) f
    unfolding with_name import_of
    import_broken r k = leaves import_named d u (sym (ap (import_of (held u (n - u))) (sym l.0 ∙ k)), import_stored)

    pub import_whole : {x : Span} → x ≡ held u (n - u) → (y : Body) → b ≡ Ok y → {i : Result (Cursor × ℕ × YangImport) Refusal} → i ≡ of_body x y → Leaves (import_at w s at u) d u i f
    unfolding with_name import_of
    import_whole xe y k p =
        leaves import_named d u (p ∙ ap (λ z. of_body z y) xe ∙ sym (ap (import_of (held u (n - u))) (sym l.0 ∙ k)), import_stored)

-- ---- an include

pub argument_grows : (w : Bool) (s : List ℕ) (at u k : ℕ) (c : Cursor) (n : ℕ) {a : Result (Cursor × ℕ) Refusal} → a ≡ argument_at w s at u k → a ≡ Ok (c, n) → u ≤ n
argument_grows w s at u k c n ae h = omega (arith, argument_far w s at u k c n (sym ae ∙ h))

-- g after the gap: room in the store for the rest of the text stays
pub inner_room : (w : Bool) (s : List ℕ) (at u k m : ℕ) (c : Cursor) (n : ℕ) {a : Result (Cursor × ℕ) Refusal} → a ≡ argument_at w s at u k → a ≡ Ok (c, n) → {g : ℕ} → g
    ≡ gap_end s c.at
    → u + (length s - at) ≤ m → n + (length s - (g + 1)) ≤ m
inner_room w s at u k m c n ae h ge r = omega (arith, argument_room w s at u k m c n (sym ae ∙ h) r, gap_from s c.at)

-- a: what reading the name answered; the store was d and is e then
module _ (w : Bool) (s : List ℕ) (at u : ℕ) (d : List ℕ) {a : Result (Cursor × ℕ) Refusal} {e : List ℕ} (ae : a ≡ argument_at w s at u 9)
    (ee : e ≡ sets d u (value_bytes (value_at s at))) where
  pub include_refused : (r : Refusal) → a ≡ Err r → Leaves (include_at w s at u) d u (Err r) e
  unfolding include_at after_value
  include_refused r h = leaves (ap (after_value w s u (value_bytes (value_at s at))) (sym ae ∙ h)) d u (refl, ee)

  -- x: the name; g after the gap, p what stands there
  module _ (c : Cursor) (n : ℕ) (h : a ≡ Ok (c, n)) {x : Span} (xe : x ≡ held u (n - u)) {g p : ℕ} (ge : g ≡ gap_end s c.at) (pe : p ≡ get_or s g 256) where
    include_named : include_at w s at u ≡ open_or_plain w s g n x (value_bytes (value_at s at))
    unfolding include_at after_value
    include_named =
        ap (after_value w s u (value_bytes (value_at s at))) (sym ae ∙ h)
        ∙ ap (λ i. open_or_plain w s i n (held u (n - u)) (value_bytes (value_at s at))) (sym ge)
        ∙ ap (λ z. open_or_plain w s g n z (value_bytes (value_at s at))) (sym xe)

    -- r, f: what the block answered, and the store then
    pub include_open : p ≡ 123 → {r : Result (Cursor × ℕ × YangInclude) Refusal} {f : List ℕ} → r ≡ include_of x (block_at w s (g + 1) n 9).answer
        → f ≡ sets e n (block_at w s (g + 1) n 9).bytes → Leaves (include_at w s at u) d u r f
    unfolding open_or_plain block_of
    include_open k {r} {f} re fe =
        let l = argument_far w s at u 9 c n (sym ae ∙ h) in
        let q : include_at w s at u ≡ block_of x (value_bytes (value_at s at)) (block_at w s (g + 1) n 9)
        = include_named ∙ rw (eq-eqb (get_or s g 256) 123 (sym pe ∙ k)) refl in
        leaves q d u (re, sets_twice d e f u n (value_bytes (value_at s at)) (block_at w s (g + 1) n 9).bytes ee l.3 fe)

    -- t: what the semicolon answered
    module _ (m : p ≡ 123 → ⊥) {t : Result Cursor Refusal} (te : t ≡ due_here s g 59 9) where
      include_due : include_at w s at u ≡ record { answer = plain_of x n t; bytes = value_bytes (value_at s at) }
      unfolding open_or_plain
      include_due =
          include_named
          ∙ rw (ne_eqb (get_or s g 256) 123 (λ z. m (pe ∙ z))) (ap (λ z. record { answer = plain_of x n z; bytes = value_bytes (value_at s at) }) (sym te))

      pub include_other : (r : Refusal) → t ≡ Err r → Leaves (include_at w s at u) d u (Err r) e
      unfolding plain_of
      include_other r k = leaves include_due d u (sym (ap (plain_of x n) k), ee)

      pub include_plain : (y : Cursor) → t ≡ Ok y → {z : Span} → z ≡ missing
          → Leaves (include_at w s at u) d u (Ok (y, n, (record { submodule_name = x; revision_date = z }))) e
      unfolding plain_of
      include_plain y k ze =
          leaves include_due d u (ap (λ v. Ok (y, n, (record { submodule_name = x; revision_date = v }))) ze ∙ sym (ap (plain_of x n) k), ee)
