-- A value behind its keyword: it is written behind the bytes stored so far, and more bytes behind it change nothing.
-- Assumes nothing.
use Rattle.std.specs.Prelude.{Some, None, Ok, Err, Option, Result}
use Prim.Native.Nat.{ℕ, ◌+◌, ◌-◌, ◌<◌}
use mathlib.Core.Path.{◌≡◌, refl, sym, ap, ap₂, ◌∙◌}
use mathlib.Core.Logic.{◌⊎◌, inl, inr, ⊎_elim}
use mathlib.Core.Bool.{false}
use mathlib.Core.List.{List, ◌++◌}
use native.Mathlib.Omega.{arith}
use lib.ListN.{length, drop, length-append, length-drop}
use lib.Seq.{length-take-le}
use Rattle.text.specs.Due.{due_at}
use Rattle.text.specs.Keyword.{match_at}
use Rattle.text.specs.Turns.{Turn, after}
use Rattle.text.specs.declared.Cursor.{Cursor}
use Rattle.text.proofs.Here.{ok_pair_parts}
use Rattle.text.proofs.KeywordLaws.{match_one}
use Rattle.text_value.specs.Argument.{argument_of, breaks_off, argument_at, after_due, after_argument, line_at}
use Rattle.text_value.specs.Value.{Val, value, none, value_at, value_bytes}
use Rattle.scan_rows.specs.Span.{held, value_in}
use Rattle.scan_rows.specs.declared.Span.{Span}
use Rattle.scan_rows.proofs.Values.{value_more}
use Rattle.scan_metadata.proofs.ScanLaws.{within_new, value_new}
use Rattle.demands_values.specs.Behind.{Behind, Either, Met, MetFirst, MetLast, InBlock}
use Rattle.text.specs.declared.Refusal.{Refusal}

-- ---- a keyword's value, and the byte that is due behind it

module _ (s : List ℕ) (at u k : ℕ) where
  value_of : (w : Val) (c : Cursor) (n : ℕ) → argument_of s u k w ≡ Ok (c, n) → w ≡ value (value_bytes w) c.at
  unfolding argument_of value_bytes
  value_of (value bs e) c n h = let q = ok_pair_parts (record { at = e }) c (u + length bs) n h in ap (value bs) (ap (λ z. z.at) q.0)
  value_of (none e) c n h = let z : ◌≡◌ {A = ℕ} 0 1 = cc in absurd (omega arith)

  pub argument_value : (c : Cursor) (n : ℕ) → argument_at false s at u k ≡ Ok (c, n) → value_at s at ≡ value (value_bytes (value_at s at)) c.at
  unfolding argument_at breaks_off
  argument_value c n h = value_of (value_at s at) c n h

  module _ (b : ℕ) (c : Cursor) (n : ℕ) where
    due_of : (m : ℕ) (d : Result Cursor Refusal) → after_due m d ≡ Ok (c, n) → d ≡ Ok c
    unfolding after_due
    due_of m (Ok e) h = ap Ok (ok_pair_parts e c m n h).0
    due_of m (Err r) h = let z : ◌≡◌ {A = ℕ} 0 1 = cc in absurd (omega arith)

    line_of : (w : Val) → after_argument s k b (argument_of s u k w) ≡ Ok (c, n) → (e : ℕ) × (w ≡ value (value_bytes w) e) × (due_at s e b k ≡ Ok c)
    unfolding argument_of after_argument value_bytes
    line_of (value bs e) h = (e, refl, due_of (u + length bs) (due_at s e b k) h)
    line_of (none e) h = let z : ◌≡◌ {A = ℕ} 0 1 = cc in absurd (omega arith)

    pub line_value : line_at false s at u k b ≡ Ok (c, n) → (e : ℕ) × (value_at s at ≡ value (value_bytes (value_at s at)) e) × (due_at s e b k ≡ Ok c)
    unfolding line_at argument_at breaks_off
    line_value h = line_of (value_at s at) h

-- ---- at one place no other keyword matches

pub other_not : (s : List ℕ) (p : ℕ) (v w : List ℕ) {c : Cursor} → match_at s p v ≡ Some c → (v ≡ w → ⊥) → match_at s p w ≡ None
other_not s p v w {c} m other = of (match_at s p w) refl
  where
    of : (x : Option Cursor) → match_at s p w ≡ x → x ≡ None
    of (Some d) e = absurd (other (match_one s p v w c d m e))
    of None e = refl

-- ---- more bytes behind

pub either_map : (No : Type 0) (P Q : Span → Type 0) (x : Span) → (P x → Q x) → Either No P x → Either No Q x
either_map No P Q x f m = ⊎_elim (λ e. inl e) (λ p. inr (f p)) m

module _ {s : List ℕ} (bytes zs : List ℕ) {word : List ℕ} {x : Span} where
  abbrev pub behind_more : {p : ℕ} → Behind s word p bytes x → Behind s word p (bytes ++ zs) x
  behind_more b = record {
    after = b.after;
    matched = b.matched;
    end = b.end;
    read = b.read ∙ ap (λ v. value v b.end) (sym (value_more bytes zs x b.within));
    present = b.present;
    within = omega (arith, b.within, length-append bytes zs);
  }

  -- a scan by its step and its places
  module _ {A R : Type 0} {step : A → Turn A R} {at : A → ℕ} {g : A} where
    abbrev pub met_more : Met step at s word bytes g x → Met step at s word (bytes ++ zs) g x
    met_more m = record { state = m.state; reached = m.reached; value = behind_more m.value }

    pub last_more : MetLast step at s word bytes g x → MetLast step at s word (bytes ++ zs) g x
    last_more m = (met_more m.0, m.1)

    pub first_more : MetFirst step at s word bytes g x → MetFirst step at s word (bytes ++ zs) g x
    first_more m = (met_more m.0, m.1)

  pub block_more : {k end : ℕ} → InBlock s k end word bytes x → InBlock s k end word (bytes ++ zs) x
  block_more b = record { opens = b.opens; brace = b.brace; used = b.used; holds = last_more b.holds }

-- ---- the bytes of a value written behind those stored so far

pub held_new : (bytes bs : List ℕ) {u n : ℕ} → u ≡ length bytes → n ≡ u + length bs → held u (n - u) ≡ held (length bytes) (length bs)
held_new bytes bs h k = ap₂ held h (omega (arith, h, k))

abbrev pub behind_new : {s word : List ℕ} {p : ℕ} (bytes bs : List ℕ) {c : Cursor} {e : ℕ} (x : Span) → match_at s p word ≡ Some c
    → value_at s c.at ≡ value bs e → x ≡ held (length bytes) (length bs) → Behind s word p (bytes ++ bs) x
behind_new bytes bs {c} {e} x m h q = record {
  after = c;
  matched = m;
  end = e;
  read = h ∙ ap (λ v. value v e) (sym (value_new bytes bs x q));
  present = ap (λ y. y.present) q;
  within = within_new bytes bs x q;
}

-- ---- a value has one length: a span that is a byte shorter is not behind the keyword

module _ (s word : List ℕ) (p : ℕ) (store : List ℕ) where
  pub behind_size : (x : Span) → Behind s word p store x → length (value_in store x) ≡ x.size
  unfolding value_in
  behind_size x b = length-take-le x.size (drop x.start store) (omega (arith, b.within, length-drop x.start store))

  same_value : (x y : Span) → Behind s word p store x → Behind s word p store y → value_in store x ≡ value_in store y
  same_value x y b c =
      let e : b.after ≡ c.after = one_after (sym b.matched ∙ c.matched) in
      let q : value (value_in store x) b.end ≡ value (value_in store y) c.end
      = sym b.read ∙ ap (λ (z : Cursor). value_at s z.at) e ∙ c.read in
      cc
    where
      one_after : {a b : Cursor} → Some a ≡ Some b → a ≡ b
      one_after h = cc

  pub shorter_refused : (x : Span) → Behind s word p store x → 0 < x.size → Behind s word p store (held x.start (x.size - 1)) → ⊥
  shorter_refused x b some c =
      let y = held x.start (x.size - 1) in
      omega (arith, some, behind_size x b, behind_size y c, ap length (same_value x y b c))
