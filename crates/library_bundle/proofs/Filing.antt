-- One law for each way out of `file`.
-- Assumes nothing.
use Rattle.std.specs.Prelude.{Ok, Err}
use mathlib.Core.Path.{◌≡◌, refl, sym}
use mathlib.Core.List.{List}
use Prim.Native.Nat.{ℕ, ◌+◌, ◌-◌, ◌^◌, ◌≤◌, ◌<◌}
use native.Mathlib.Omega.{arith}
use lib.ListN.{length}
use mir.Syntax.{w64}
use mir.Val.{Fits}
use borrow.Author.Tests.{lt-ltb, le-ltb}
use Rattle.library_form.specs.Form.{good, bad, word_at, number_at}
use Rattle.library_form.proofs.Bounds.{number_end, name_end}
use Rattle.library_index.specs.Names.{new_name, names_in, Taken}
use Rattle.library_bundle.specs.Bundle.{text_of, body_at, filed_at}
use Rattle.library_bundle.specs.Reading.{FiledAs}
use Rattle.library_index.proofs.Taking.{new_read}

module _ (s tab : List ℕ) (i at : ℕ) {after : List ℕ} where
  pub no_name : {p : ℕ} → Taken s tab i at (Err p) after → FiledAs s tab i at (Err p) after
  unfolding filed_at
  no_name t = rw (← t.answer) refl

  module _ {word len : ℕ} (t : Taken s tab i at (Ok (word, len)) after) where
    named : new_name s (names_in s tab i) at ≡ good (word_at s word len) (word + len)
    named = sym t.answer

    pub end_fits : length s < 2 ^ 64 → Fits w64 (word + len)
    end_fits h = record { fits = omega (arith, (name_end s at (new_read s (names_in s tab i) at named).0).inside) }

    pub no_length : {p : ℕ} → bad p ≡ number_at s (word + len) → FiledAs s tab i at (Err p) after
    unfolding filed_at
    no_length e = rw (named, ← e) refl

    module _ {size from : ℕ} (e : good size from ≡ number_at s (word + len)) where
      pub body_in : from ≤ length s
      body_in = (number_end s (word + len) (sym e)).1

      pub cut : length s - from < size → FiledAs s tab i at (Err (word + len)) after
      unfolding filed_at body_at
      cut l = rw (named, ← e) (rw (lt-ltb _ _ l))

      pub entered : size ≤ length s - from → FiledAs s tab i at (Ok (from + size)) after
      unfolding filed_at body_at
      entered l = record {
        entry = text_of (word_at s word len) from size;
        kept = t.kept;
        read = rw (named, ← e) (rw (le-ltb _ _ l));
        indexed = t.indexed word len refl;
        names = t.names word len refl;
      }
