-- What the loop of `open` keeps, and one law for each way out.
-- Assumes nothing.
use Rattle.std.specs.Prelude.{Ok, Err}
use mathlib.Core.Path.{◌≡◌, refl, sym, ap, ◌∙◌}
use mathlib.Core.List.{List, [], ◌∷◌, ◌++◌, map-append}
use Prim.Native.Nat.{ℕ, suc, ◌+◌, ◌-◌, ◌≤◌, ◌<◌}
use native.Mathlib.Omega.{arith}
use lib.ListN.{length, length-map}
use borrow.Author.Tests.{lt-ltb, le-ltb}
use Rattle.library_form.specs.Form.{good, bad, bind, PlacedName, number_at, many}
use Rattle.library_form.proofs.Bounds.{number_end}
use Rattle.library_index.specs.Names.{names_in, Indexed, Cleared, Space}
use Rattle.library_index.proofs.Chain.{length_names}
use Rattle.library_index.proofs.Insert.{none_yet}
use Rattle.library_bundle.specs.Bundle.{most_bytes, most_texts, Text, filed_at, words, new_text, ended, texts_at, bundle_at}
use Rattle.library_bundle.specs.Reading.{table_words, counted, Sized, Sizes, Entered, FiledAs, OpenedAs}
use Rattle.library_bundle.proofs.Entries.{text_sized}

-- ---- one text more

pub words_snoc : (es : List Text) (e : Text) → words (es ++ (e ∷ [])) ≡ words es ++ (e.word ∷ [])
words_snoc es e = map-append (λ (e : Text). e.word) es (e ∷ [])

pub sizes_snoc : (s : List ℕ) (es : List Text) (e : Text) → Sizes s es → Sized s e → Sizes s (es ++ (e ∷ []))
sizes_snoc s [] e h k = (k, tt)
sizes_snoc s (d ∷ es) e h k = (h.0, sizes_snoc s es e h.1 k)

-- ---- the loop: what was read, and that the answer from the start is the answer from here

pub record Reading (s before tab : List ℕ) (count start i at : ℕ) : Type 0 where
  pub seen : List Text
  pub rest : many (new_text s) count [] start ≡ many (new_text s) (count - i) seen at
  pub room : i ≤ count
  pub within : at ≤ length s
  pub kept : length tab ≡ length before
  pub space : table_words ≤ length tab
  pub indexed : Indexed s tab i
  pub names : names_in s tab i ≡ words seen
  pub sizes : Sizes s seen

pub begun : (s before tab : List ℕ) (count start : ℕ) → Cleared before tab → start ≤ length s → table_words ≤ length before
    → Reading s tab tab count start 0 start
unfolding names_in
begun s before tab count start e l m = let z : count - 0 ≡ count = omega arith in record {
  seen = [];
  rest = rw z;
  room = omega arith;
  within = l;
  kept = refl;
  space = omega (arith, e.kept);
  indexed = none_yet s before tab e;
  names = refl;
  sizes = tt;
}

module _ (s before tab : List ℕ) (count start i at : ℕ) (g : Reading s before tab count start i at) where
  pub space_left : i < count → count ≤ most_texts → length s ≤ most_bytes → Space s tab i
  space_left h k l = record { indexed = g.indexed; free = omega (arith, g.space); small = omega arith; short = l }

  left : i < count → count - i ≡ suc (count - (i + 1))
  left h = omega arith

  next : i < count → many (new_text s) (count - i) g.seen at ≡ bind (filed_at s (names_in s tab i) at)
      (λ a n. many (new_text s) (count - (i + 1)) (g.seen ++ (a ∷ [])) n)
  unfolding many
  next h = rw (left h, g.names)

  pub stopped : {p : ℕ} (after : List ℕ) → i < count → FiledAs s tab i at (Err p) after → many (new_text s) count [] start ≡ bad p
  stopped {p} after h f = let k : filed_at s (names_in s tab i) at ≡ bad p = f in g.rest ∙ next h ∙ rw k

  more : {n : ℕ} {after : List ℕ} → i < count → Entered s tab i at n after → Reading s before after count start (i + 1) n
  more {n} {after} h k = record {
    seen = g.seen ++ (k.entry ∷ []);
    rest = g.rest ∙ next h ∙ rw k.read;
    room = omega arith;
    within = (text_sized s (names_in s tab i) at k.read).1;
    kept = k.kept ∙ g.kept;
    space = omega (arith, g.space, k.kept);
    indexed = k.indexed;
    names = k.names ∙ ap (λ (ws : List PlacedName). ws ++ (k.entry.word ∷ [])) g.names ∙ sym (words_snoc g.seen k.entry);
    sizes = sizes_snoc s g.seen k.entry g.sizes (text_sized s (names_in s tab i) at k.read).0;
  }

  pub further : {n : ℕ} {after : List ℕ} → i < count → FiledAs s tab i at (Ok n) after → Reading s before after count start (i + 1) n
  further h f = more h f

  pub all_read : count ≤ i → many (new_text s) count [] start ≡ good g.seen at
  unfolding many
  all_read h = let e : count - i ≡ 0 = omega arith in g.rest ∙ rw e

  pub all_counted : count ≤ i → length g.seen ≡ count
  all_counted h = sym (length-map g.seen (λ (e : Text). e.word)) ∙ sym (ap length g.names) ∙ length_names s tab i ∙ (omega (arith, g.room))

-- ---- the ways out

-- a wrong bundle leaves nothing to be held
refused : (s after : List ℕ) {p : ℕ} → bundle_at s ≡ bad p → OpenedAs s (Err p) after
refused s after {p} e = record { answer = sym (ap counted e); held = λ n q. let z : ◌≡◌ {A = ℕ} 0 1 = cc in absurd (omega arith) }

pub too_long : (s tab : List ℕ) → most_bytes < length s → OpenedAs s (Err 0) tab
unfolding bundle_at
too_long s tab h = refused s tab (rw (lt-ltb _ _ h))

module _ (s : List ℕ) (short : length s ≤ most_bytes) where
  pub no_count : (tab : List ℕ) {p : ℕ} → bad p ≡ number_at s 0 → OpenedAs s (Err p) tab
  unfolding bundle_at
  no_count tab e = refused s tab (rw (le-ltb _ _ short, ← e) refl)

  module _ {count start : ℕ} (e : good count start ≡ number_at s 0) where
    pub start_in : start ≤ length s
    start_in = (number_end s 0 (sym e)).1

    pub too_many : (tab : List ℕ) → most_texts < count → OpenedAs s (Err 0) tab
    unfolding bundle_at texts_at
    too_many tab h = refused s tab (rw (le-ltb _ _ short, ← e) (rw (lt-ltb _ _ h)))

    module _ (few : count ≤ most_texts) where
      whole : bundle_at s ≡ bind (many (new_text s) count [] start) (ended s)
      unfolding bundle_at texts_at
      whole = rw (le-ltb _ _ short, ← e) (rw (le-ltb _ _ few))

      module _ {before tab : List ℕ} {i at : ℕ} (g : Reading s before tab count start i at) where
        pub wrong_text : {p : ℕ} {after : List ℕ} → i < count → FiledAs s tab i at (Err p) after → OpenedAs s (Err p) after
        wrong_text {p} {after} h l = refused s after (whole ∙ rw (stopped s before tab count start i at g after h l))

        pub extra : count ≤ i → at < length s → OpenedAs s (Err at) tab
        extra h l = refused s tab (whole ∙ rw (all_read s before tab count start i at g h, lt-ltb _ _ l))

        pub opened : count ≤ i → length s ≤ at → OpenedAs s (Ok count) tab
        opened h l =
            let z : at ≡ length s = omega (arith, g.within) in
            let j : i ≡ count = omega (arith, g.room) in
            let b : bundle_at s ≡ good g.seen (length s) = whole ∙ rw (all_read s before tab count start i at g h, le-ltb _ _ l) (ap (good g.seen) z) in
            record {
              answer = sym (ap counted b ∙ ap (λ (k : ℕ). good k (length s)) (all_counted s before tab count start i at g h));
              held = λ n q. let k : i ≡ n = j ∙ (cc) in record {
                texts = g.seen;
                read = b;
                indexed = rw k at g.indexed;
                names = rw k at g.names;
                sizes = g.sizes;
              };
            }
