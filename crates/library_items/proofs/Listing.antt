-- The whole image: its sets one behind another, which are the abstract library's. One law for each way out of `list_items`.
-- Assumes nothing.
use mathlib.Core.Path.{◌≡◌, sym, ap, ◌∙◌}
use mathlib.Core.List.{List, []}
use Prim.Native.Nat.{ℕ, ◌≤◌}
use native.Mathlib.Omega.{arith}
use lib.ListN.{length}
use Rattle.library_form.specs.Form.{good, bad}
use Rattle.library_image.specs.Library.{Library}
use Rattle.library_image.specs.Image.{most_sets, count_at, image_at}
use Rattle.library_image.proofs.ImageLaws.{accepted}
use Rattle.library_lists.specs.Lists.{on_ans}
use Rattle.library_items.specs.Items.{items_of, library_of, items_at}
use Rattle.library_items.specs.Table.{table_words, items_in, each_counted, set_read, sets_read, value_or, Reads, Room, Itemized}
use Rattle.library_items.specs.declared.Reach.{Reach}
use Rattle.library_items.proofs.Ahead.{Ahead, ahead_done, counted_there, counted_begun}
use Rattle.library_items.proofs.Told.{library_told}

module _ (s : List ℕ) (i : Reads (image_at s)) where
  told : sets_read s 0 ≡ good (items_of i.value) i.end
  told = library_told s 0 (accepted s i.read).read

  sets_reads : Reads (sets_read s 0)
  sets_reads = record { value = items_of i.value; end = i.end; read = told }

  all_items : items_of i.value ≡ items_at s
  unfolding library_of
  all_items = ap (λ a. items_of (on_ans a (λ (l : Library) n. l) (λ p. []))) (sym i.read)

  empty_room : (tab : List ℕ) → table_words ≤ length tab → Room s tab 0 0
  empty_room tab h = record { short = (accepted s i.read).short; space = h; inside = omega arith; taken = omega arith; fits = λ k l. absurd (omega arith) }

  pub no_sets : {p : ℕ} → bad p ≡ count_at 0 most_sets s 0 → ⊥
  unfolding sets_read each_counted
  no_sets e = counted_there 0 most_sets s 0 _ e sets_reads

  pub sets_begun : (tab : List ℕ) {count first : ℕ} → good count first ≡ count_at 0 most_sets s 0 → table_words ≤ length tab
      → Ahead (set_read s) s tab 0 (sets_read s 0) tab (record { items = 0; at = first }) count 0
  unfolding sets_read
  sets_begun tab e h = counted_begun 0 most_sets s 0 e (set_read s) tab 0 (empty_room tab h) sets_reads

  module _ {before tab : List ℕ} {r : Reach} {count k : ℕ} (a : Ahead (set_read s) s before 0 (sets_read s 0) tab r count k) where
    pub all_listed : count ≤ k → Itemized s r.items tab
    unfolding items_in
    all_listed h =
        let g = ahead_done a h in
        let m = g.room in
        record {
          items = g.items ∙ ap (λ a. value_or [] a) told ∙ all_items;
          long = omega (arith, m.taken, m.inside, m.short, m.space);
          few = omega (arith, m.taken, m.inside, m.short);
          fits = m.fits;
        }

    pub length_kept : length tab ≡ length before
    length_kept = a.kept
