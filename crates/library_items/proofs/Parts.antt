-- Each part of the image by the parts of it: one law for each way out, of the theory of parts one behind another.
-- Assumes nothing.
use mathlib.Core.Path.{◌≡◌, sym, ◌∙◌}
use mathlib.Core.List.{List}
use mathlib.Core.Bool.{Bool, true, false}
use Prim.Native.Nat.{ℕ, ◌-◌, ◌≤◌}
use Rattle.library_form.specs.Form.{Ans, good, bad}
use Rattle.library_image.specs.Image.{most_modules, most_names, least_revisions, most_revisions, count_at}
use Rattle.library_items.specs.Items.{module_kind, submodule_kind, augmenting_kind, deviation_kind, import_only_kind, first_sub_kind, later_sub_kind}
use Rattle.library_items.specs.Table.{Items, and_then, each, each_counted, name_read, list_read, lists_read, revisions_read, entry_read, entries_read, set_read}
use Rattle.library_items.specs.Table.{Reads, Room, Gained}
use Rattle.library_items.specs.declared.Kind.{Kind}
use Rattle.library_items.specs.declared.Reach.{Reach}
use Rattle.library_items.proofs.Ahead.{first_reads, second_reads, gained_both, Ahead, ahead_done, each_begun, counted_there, counted_room}
use Rattle.library_items.proofs.Ahead.{counted_behind, counted_begun}

-- ---- a list

module _ (s tab : List ℕ) (n : ℕ) (kind : Kind) (at : ℕ) where
  pub no_list : {p : ℕ} → bad p ≡ count_at 0 most_names s at → Reads (list_read kind s at) → ⊥
  unfolding list_read each_counted
  no_list e r = counted_there 0 most_names s at _ e r

  pub list_begun : {count first : ℕ} → good count first ≡ count_at 0 most_names s at → Room s tab n at → Reads (list_read kind s at)
      → Ahead (name_read kind s) s tab n (list_read kind s at) tab (record { items = n; at = first }) count 0
  unfolding list_read
  list_begun e m r = counted_begun 0 most_names s at e (name_read kind s) tab n m r

-- ---- three lists

module _ (s tab : List ℕ) (n at : ℕ) where
  abbrev behind_submodules : ℕ → Ans Items
  behind_submodules m = and_then (list_read augmenting_kind s m) (list_read deviation_kind s)

  pub submodules_read : Reads (lists_read s at) → Reads (list_read submodule_kind s at)
  unfolding lists_read
  submodules_read r = first_reads _ behind_submodules r

  module _ {t₁ : List ℕ} {r₁ : Reach} (g₁ : Gained s tab n (list_read submodule_kind s at) r₁ t₁) where
    lists_behind : Reads (lists_read s at) → Reads (behind_submodules r₁.at)
    unfolding lists_read
    lists_behind r = second_reads _ behind_submodules g₁ r

    pub augmenting_read : Reads (lists_read s at) → Reads (list_read augmenting_kind s r₁.at)
    augmenting_read r = first_reads _ (list_read deviation_kind s) (lists_behind r)

    module _ {t₂ : List ℕ} {r₂ : Reach} (g₂ : Gained s t₁ r₁.items (list_read augmenting_kind s r₁.at) r₂ t₂) where
      pub deviations_read : Reads (lists_read s at) → Reads (list_read deviation_kind s r₂.at)
      deviations_read r = second_reads _ (list_read deviation_kind s) g₂ (lists_behind r)

      pub lists_taken : {t₃ : List ℕ} {r₃ : Reach} → Gained s t₂ r₂.items (list_read deviation_kind s r₂.at) r₃ t₃ → Reads (lists_read s at)
          → Gained s tab n (lists_read s at) r₃ t₃
      unfolding lists_read
      lists_taken g₃ r = gained_both _ behind_submodules g₁ (gained_both _ (list_read deviation_kind s) g₂ g₃ (lists_behind r)) r

-- ---- revisions

module _ (s tab : List ℕ) (n at : ℕ) where
  pub no_revisions : {p : ℕ} → bad p ≡ count_at least_revisions most_revisions s at → Reads (revisions_read s at) → ⊥
  unfolding revisions_read
  no_revisions e r = counted_there least_revisions most_revisions s at _ e r

  module _ {count first : ℕ} (e : good count first ≡ count_at least_revisions most_revisions s at) where
    abbrev later : ℕ → Ans Items
    later m = each (list_read later_sub_kind s) (count - 1) m

    opened : revisions_read s at ≡ and_then (list_read first_sub_kind s first) later
    unfolding revisions_read
    opened =
        counted_behind least_revisions most_revisions s at e
        (λ c n. and_then (list_read first_sub_kind s n) (λ m. each (list_read later_sub_kind s) (c - 1) m))

    behind_count : Reads (revisions_read s at) → Reads (and_then (list_read first_sub_kind s first) later)
    behind_count r = record { value = r.value; end = r.end; read = sym opened ∙ r.read }

    pub revisions_room : Room s tab n at → Room s tab n first
    revisions_room m = counted_room least_revisions most_revisions s at e tab n m

    pub first_read : Reads (revisions_read s at) → Reads (list_read first_sub_kind s first)
    first_read r = first_reads _ later (behind_count r)

    module _ {r : Reach} {after : List ℕ} (g : Gained s tab n (list_read first_sub_kind s first) r after) (h : Reads (revisions_read s at)) where
      pub revisions_begun : Ahead (list_read later_sub_kind s) s after r.items (later r.at) after r count 1
      revisions_begun = each_begun (list_read later_sub_kind s) count 1 g.room (second_reads _ later g (behind_count h))

      pub revisions_taken : {r₂ : Reach} {last : List ℕ} {i : ℕ} → Ahead (list_read later_sub_kind s) s after r.items (later r.at) last r₂ count i → count ≤ i
          → Gained s tab n (revisions_read s at) r₂ last
      revisions_taken a z = rw opened (gained_both _ later g (ahead_done a z) (behind_count h))

-- ---- entries

module _ (s tab : List ℕ) (n at : ℕ) (import_only : Bool) where
  module _ (d : import_only ≡ true) (r : Reads (entry_read import_only s at)) where
    by_import : entry_read import_only s at ≡ and_then (name_read import_only_kind s at) (revisions_read s)
    unfolding entry_read
    by_import = rw d

    import_reads : Reads (and_then (name_read import_only_kind s at) (revisions_read s))
    import_reads = record { value = r.value; end = r.end; read = sym by_import ∙ r.read }

    pub import_name_read : Reads (name_read import_only_kind s at)
    import_name_read = first_reads _ (revisions_read s) import_reads

    module _ {t₁ : List ℕ} {r₁ : Reach} (g : Gained s tab n (name_read import_only_kind s at) r₁ t₁) where
      pub revisions_read_lem : Reads (revisions_read s r₁.at)
      revisions_read_lem = second_reads _ (revisions_read s) g import_reads

      pub import_taken : {t₂ : List ℕ} {r₂ : Reach} → Gained s t₁ r₁.items (revisions_read s r₁.at) r₂ t₂
          → Gained s tab n (entry_read import_only s at) r₂ t₂
      import_taken h = rw by_import (gained_both _ (revisions_read s) g h import_reads)

  module _ (d : import_only ≡ false) (r : Reads (entry_read import_only s at)) where
    by_module : entry_read import_only s at ≡ and_then (name_read module_kind s at) (lists_read s)
    unfolding entry_read
    by_module = rw d

    module_reads : Reads (and_then (name_read module_kind s at) (lists_read s))
    module_reads = record { value = r.value; end = r.end; read = sym by_module ∙ r.read }

    pub module_name_read : Reads (name_read module_kind s at)
    module_name_read = first_reads _ (lists_read s) module_reads

    module _ {t₁ : List ℕ} {r₁ : Reach} (g : Gained s tab n (name_read module_kind s at) r₁ t₁) where
      pub lists_read_lem : Reads (lists_read s r₁.at)
      lists_read_lem = second_reads _ (lists_read s) g module_reads

      pub module_taken : {t₂ : List ℕ} {r₂ : Reach} → Gained s t₁ r₁.items (lists_read s r₁.at) r₂ t₂ → Gained s tab n (entry_read import_only s at) r₂ t₂
      module_taken h = rw by_module (gained_both _ (lists_read s) g h module_reads)

module _ (s tab : List ℕ) (n at : ℕ) (import_only : Bool) where
  pub no_entries : {p : ℕ} → bad p ≡ count_at 0 most_modules s at → Reads (entries_read import_only s at) → ⊥
  unfolding entries_read each_counted
  no_entries e r = counted_there 0 most_modules s at _ e r

  pub entries_begun : {count first : ℕ} → good count first ≡ count_at 0 most_modules s at → Room s tab n at → Reads (entries_read import_only s at)
      → Ahead (entry_read import_only s) s tab n (entries_read import_only s at) tab (record { items = n; at = first }) count 0
  unfolding entries_read
  entries_begun e m r = counted_begun 0 most_modules s at e (entry_read import_only s) tab n m r

-- ---- a set

module _ (s tab : List ℕ) (n at : ℕ) (r : Reads (set_read s at)) where
  pub modules_read : Reads (entries_read false s at)
  unfolding set_read
  modules_read = first_reads _ (entries_read true s) r

  module _ {t₁ : List ℕ} {r₁ : Reach} (g : Gained s tab n (entries_read false s at) r₁ t₁) where
    pub imports_read : Reads (entries_read true s r₁.at)
    unfolding set_read
    imports_read = second_reads _ (entries_read true s) g r

    pub set_taken : {t₂ : List ℕ} {r₂ : Reach} → Gained s t₁ r₁.items (entries_read true s r₁.at) r₂ t₂ → Gained s tab n (set_read s at) r₂ t₂
    unfolding set_read
    set_taken h = gained_both _ (entries_read true s) g h r
