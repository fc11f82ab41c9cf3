-- What the three loops of `search_submodule` keep, and one law for each way through them. At each place of the code the answer from the start is the
-- answer from here: what is left of the module, then of its set, then of the sets.
-- Assumes nothing.
use Rattle.std.specs.Prelude.{Ok, None, Result, Option}
use Rattle.std.proofs.Common.{Continue, Break}
use mathlib.Core.Path.{◌≡◌, refl, sym, ap, ◌∙◌}
use mathlib.Core.List.{List}
use mathlib.Core.Bool.{true, false}
use Prim.Native.Nat.{ℕ, ◌+◌, ◌-◌, ◌≤◌, ◌<◌}
use Rattle.library_form.specs.Form.{good, bad}
use Rattle.library_image.specs.Image.{most_sets, most_modules, count_at}
use Rattle.library_search.specs.Search.{Tried, and_then, tries, past, list_tried, found_by, submodule_count, lists_behind, entries_tried, word_tried}
use Rattle.library_search.specs.Search.{submodules_tried, set_submodules_tried, all_submodules_tried}
use Rattle.library_search.proofs.Loops.{begun, turn, spent, list_uncounted, list_begun}

module _ (s t : List ℕ) where
  abbrev whole : Result (Option (ℕ × ℕ)) ℕ
  whole = found_by (all_submodules_tried s t)

  -- what is found, by what the modules of a set come to that are left, and by what a module's submodules come to
  abbrev in_set : (sets i : ℕ) → Tried → Result (Option (ℕ × ℕ)) ℕ
  in_set sets i r = found_by (and_then (and_then r (entries_tried s t true false)) (tries (set_submodules_tried s t) (sets - (i + 1))))

  abbrev in_module : (sets i modules j : ℕ) → Tried → Result (Option (ℕ × ℕ)) ℕ
  in_module sets i modules j r =
      in_set sets i (and_then (and_then r (λ m. past (lists_behind s m))) (tries (submodules_tried s t) (modules - (j + 1))))

  -- at the head of the loops
  pub record Sets (sets i at : ℕ) (hit : Option (ℕ × ℕ)) : Type 0 where
    pub rest : whole ≡ found_by (tries (set_submodules_tried s t) (sets - i) at)
    pub none : hit ≡ None

  pub record Modules (sets i modules j at : ℕ) (hit : Option (ℕ × ℕ)) : Type 0 where
    pub rest : whole ≡ in_set sets i (tries (submodules_tried s t) (modules - j) at)
    pub none : hit ≡ None

  pub record Submodules (sets i modules j submodules k at : ℕ) (hit : Option (ℕ × ℕ)) : Type 0 where
    pub rest : whole ≡ in_module sets i modules j (tries (word_tried s t) (submodules - k) at)
    pub none : hit ≡ None

  pub no_image : {p : ℕ} → bad p ≡ count_at 0 most_sets s 0 → Ok None ≡ whole
  unfolding all_submodules_tried
  no_image e = ap found_by (list_uncounted (set_submodules_tried s t) most_sets s 0 e)

  pub image_opened : {n from : ℕ} → good n from ≡ count_at 0 most_sets s 0 → Sets n 0 from None
  unfolding all_submodules_tried
  image_opened e = record { rest = ap found_by (list_begun (set_submodules_tried s t) most_sets s 0 e).rest; none = refl }

  -- a set
  module _ (sets i at : ℕ) (hit : Option (ℕ × ℕ)) (o : Sets sets i at hit) where
    set_turn : i < sets → whole ≡ in_set sets i (list_tried most_modules (submodules_tried s t) s at)
    unfolding set_submodules_tried
    set_turn h = o.rest ∙ ap found_by (turn (set_submodules_tried s t) sets i at h)

    pub no_modules : {p : ℕ} → bad p ≡ count_at 0 most_modules s at → i < sets → Ok None ≡ whole
    no_modules e h = sym (set_turn h ∙ ap (in_set sets i) (sym (list_uncounted (submodules_tried s t) most_modules s at e)))

    pub set_entered : {n from : ℕ} → good n from ≡ count_at 0 most_modules s at → i < sets → Modules sets i n 0 from hit
    set_entered e h = record { rest = set_turn h ∙ ap (in_set sets i) (list_begun (submodules_tried s t) most_modules s at e).rest; none = o.none }

    -- behind the last of them
    pub used_up : sets ≤ i → Ok hit ≡ whole
    used_up h = ap Ok o.none ∙ sym (o.rest ∙ ap found_by (spent (set_submodules_tried s t) sets i at h))

  -- a module of it
  module _ (sets i modules j at : ℕ) (hit : Option (ℕ × ℕ)) (o : Modules sets i modules j at hit) where
    module_turn : j < modules → whole ≡ in_set sets i (and_then (submodules_tried s t at) (tries (submodules_tried s t) (modules - (j + 1))))
    module_turn h = o.rest ∙ ap (in_set sets i) (turn (submodules_tried s t) modules j at h)

    pub no_submodules : {p : ℕ} → bad p ≡ submodule_count s at → j < modules → Ok None ≡ whole
    unfolding submodules_tried
    no_submodules e h = sym (module_turn h ∙ rw (← e) refl)

    pub module_entered : {n from : ℕ} → good n from ≡ submodule_count s at → j < modules → Submodules sets i modules j n 0 from hit
    unfolding submodules_tried
    module_entered {n} {from} e h =
        record { rest = module_turn h ∙ rw (← e) (ap (in_module sets i modules j) (begun (word_tried s t) n from).rest); none = o.none }

    -- behind the last of them stand the import-only modules
    modules_done : modules ≤ j → whole ≡ found_by (and_then (entries_tried s t true false at) (tries (set_submodules_tried s t) (sets - (i + 1))))
    modules_done h = o.rest ∙ ap (in_set sets i) (spent (submodules_tried s t) modules j at h)

    pub imports_end : {h : Option (ℕ × ℕ)} → Break h ≡ entries_tried s t true false at → modules ≤ j → Ok h ≡ whole
    imports_end e h = sym (modules_done h ∙ ap (λ x. found_by (and_then x (tries (set_submodules_tried s t) (sets - (i + 1))))) (sym e))

    pub imports_passed : {n : ℕ} → Continue n ≡ entries_tried s t true false at → modules ≤ j → Sets sets (i + 1) n hit
    imports_passed e h = record {
      rest = modules_done h ∙ ap (λ x. found_by (and_then x (tries (set_submodules_tried s t) (sets - (i + 1))))) (sym e);
      none = o.none;
    }

  -- a submodule of it
  module _ (sets i modules j submodules k at : ℕ) (hit : Option (ℕ × ℕ)) (o : Submodules sets i modules j submodules k at hit) where
    word_turn : k < submodules → whole ≡ in_module sets i modules j (and_then (word_tried s t at) (tries (word_tried s t) (submodules - (k + 1))))
    word_turn h = o.rest ∙ ap (in_module sets i modules j) (turn (word_tried s t) submodules k at h)

    pub submodule_passed : {n : ℕ} → Continue n ≡ word_tried s t at → k < submodules → Submodules sets i modules j submodules (k + 1) n hit
    submodule_passed e h = record {
      rest = word_turn h ∙ ap (λ x. in_module sets i modules j (and_then x (tries (word_tried s t) (submodules - (k + 1))))) (sym e);
      none = o.none;
    }

    -- the label is left
    pub broken_off : {h : Option (ℕ × ℕ)} → Break h ≡ word_tried s t at → k < submodules → Ok h ≡ whole
    broken_off e h = sym (word_turn h ∙ ap (λ x. in_module sets i modules j (and_then x (tries (word_tried s t) (submodules - (k + 1))))) (sym e))

    -- behind the last of them stand two lists
    submodules_done : submodules ≤ k → whole ≡ in_set sets i (and_then (past (lists_behind s at)) (tries (submodules_tried s t) (modules - (j + 1))))
    submodules_done h = o.rest ∙ ap (in_module sets i modules j) (spent (word_tried s t) submodules k at h)

    pub no_lists : {p : ℕ} → bad p ≡ lists_behind s at → submodules ≤ k → Ok None ≡ whole
    no_lists e h = sym (submodules_done h ∙ rw (← e) refl)

    pub module_passed : {n : ℕ} → good tt n ≡ lists_behind s at → submodules ≤ k → Modules sets i modules (j + 1) n hit
    module_passed e h = record { rest = submodules_done h ∙ rw (← e) refl; none = o.none }
