-- A set, all sets and the whole image, from the readings of entries. One law for each way out.
-- Assumes nothing.
use Rattle.std.specs.Prelude.{Ok, Err, Result}
use mathlib.Core.Path.{◌≡◌, refl, sym, ap, ◌∙◌}
use mathlib.Core.List.{List, []}
use mathlib.Core.Bool.{Bool, true, false, cond}
use Prim.Native.Nat.{ℕ, ◌+◌, ◌≤◌, ◌<◌}
use native.Mathlib.Omega.{arith}
use lib.ListN.{length}
use lib.Dec.{ltb}
use borrow.Author.Tests.{lt-ltb, le-ltb}
use Rattle.library_form.specs.Form.{Ans, good, bad, bind}
use Rattle.library_image.specs.Library.{Module, ImportOnly, ModuleSet, Library}
use Rattle.library_image.specs.Image.{most_image, most_sets, most_modules, count_at, counted, module_at, import_only_at, set_at, library_at, image_at}
use Rattle.library_read.specs.Reading.{entries_at, Roomy, ReadAs}
use Rattle.library_lists.specs.Lists.{done}
use Rattle.library_lists.proofs.Counting.{done_bad, bind_bad, Going, going, further_behind, no_count, list_stopped, list_read}
use Rattle.library_read.proofs.Entries.{modules_entries, import_only_entries}

-- ---- the ways out of `read_set`

-- one reading after another, of which both are kept
both_behind : {A B C : Type 0} (f : A → B → C) (x : Ans A) (y : ℕ → Ans B) {n : ℕ} → good tt n ≡ done x
    → done (bind x (λ a k. bind (y k) (λ b m. good (f a b) m))) ≡ done (y n)
both_behind f (bad p) y e = let z : ◌≡◌ {A = ℕ} 0 1 = cc in absurd (omega arith)
both_behind {B = B} f (good a k) y {n} e = let z : k ≡ n = cc in go (y k) ∙ ap (λ (k : ℕ). done (y k)) z
  where
    go : (r : Ans B) → done (bind r (λ b m. good (f a b) m)) ≡ done r
    go (good b m) = refl
    go (bad p) = refl

-- a table that keeps its length keeps its room
pub still_roomy : (s tab after : List ℕ) {r : Result ℕ ℕ} {x : Ans Unit} → ReadAs r x tab after → Roomy s tab → Roomy s after
still_roomy s tab after a m = record { space = omega (arith, a.kept, m.space); short = m.short }

module _ (s : List ℕ) (at : ℕ) (tab after : List ℕ) where
  pub modules_stopped : {p : ℕ} → ReadAs (Err p) (done (entries_at false s at)) tab after → ReadAs (Err p) (done (set_at s [] at)) tab after
  unfolding set_at
  modules_stopped {p} a =
      let b : bad p ≡ done (counted 0 most_modules module_at s at) = a.answer ∙ sym (modules_entries s at) in
      record { answer = sym (ap done (bind_bad (counted 0 most_modules module_at s at) _ b)); kept = a.kept }

  pub set_read : {n : ℕ} → ReadAs (Ok n) (done (entries_at false s at)) tab after → (u : Result ℕ ℕ) (last : List ℕ)
      → ReadAs u (done (entries_at true s n)) after last → ReadAs u (done (set_at s [] at)) tab last
  unfolding set_at
  set_read {n} a u last k =
      let b : good tt n ≡ done (counted 0 most_modules module_at s at) = a.answer ∙ sym (modules_entries s at) in
      let set : List Module → List ImportOnly → ModuleSet = λ ms is. record { modules = ms; import_only = is } in
      record {
        answer = k.answer ∙ sym (import_only_entries s n) ∙ sym (both_behind set (counted 0 most_modules module_at s at)
            (counted 0 most_modules import_only_at s) b);
        kept = k.kept ∙ a.kept;
      }

-- ---- the ways out of `read_sets`

pub record Setting (s before tab : List ℕ) (count start i at : ℕ) : Type 0 where
  pub loop : Going (set_at s) count start i at
  pub room : Roomy s tab
  pub kept : length tab ≡ length before

module _ (s : List ℕ) where
  -- a set is read without a look at those before it
  alone : (seen : List ModuleSet) (at : ℕ) → set_at s [] at ≡ set_at s seen at
  unfolding set_at
  alone seen at = refl

  pub no_sets : (tab : List ℕ) {p : ℕ} → bad p ≡ count_at 0 most_sets s 0 → ReadAs (Err p) (done (library_at s 0)) tab tab
  unfolding library_at
  no_sets tab e = record { answer = no_count 0 most_sets s 0 set_at e; kept = refl }

  pub sets_begun : (tab : List ℕ) (count start : ℕ) → Roomy s tab → Setting s tab tab count start 0 start
  sets_begun tab count start m = record { loop = going (set_at s) count start; room = m; kept = refl }

  pub sets_further : {before tab : List ℕ} {count from i here : ℕ} → Setting s before tab count from i here → {n : ℕ} {after : List ℕ}
      → ReadAs (Ok n) (done (set_at s [] here)) tab after → i < count → Setting s before after count from (i + 1) n
  sets_further {before} {tab} {here = here} g {n} {after} a h = record {
    loop = further_behind (set_at s) g.loop (a.answer ∙ ap done (alone g.loop.seen here)) h;
    room = still_roomy s tab after a g.room;
    kept = a.kept ∙ g.kept;
  }

  module _ {count n : ℕ} (l : good count n ≡ count_at 0 most_sets s 0) {before tab : List ℕ} {i here : ℕ} (g : Setting s before tab count n i here) where
    pub sets_stopped : {p : ℕ} {after : List ℕ} → ReadAs (Err p) (done (set_at s [] here)) tab after → i < count
        → ReadAs (Err p) (done (library_at s 0)) before after
    unfolding library_at
    sets_stopped {p} a h =
        let b : set_at s g.loop.seen here ≡ bad p = done_bad _ (a.answer ∙ ap done (alone g.loop.seen here)) in
        record { answer = list_stopped 0 most_sets s 0 set_at l g.loop b h; kept = a.kept ∙ g.kept }

    pub sets_read : count ≤ i → ReadAs (Ok here) (done (library_at s 0)) before tab
    unfolding library_at
    sets_read h = record { answer = list_read 0 most_sets s 0 set_at l g.loop h; kept = g.kept }

-- ---- the ways out of `read_image`

module _ (s : List ℕ) where
  pub too_long : most_image < length s → bad 0 ≡ done (image_at s)
  unfolding image_at
  too_long h = rw (lt-ltb _ _ h)

  module _ (short : length s ≤ most_image) {tab after : List ℕ} where
    pub image_stopped : {p : ℕ} → ReadAs (Err p) (done (library_at s 0)) tab after → bad p ≡ done (image_at s)
    unfolding image_at
    image_stopped a = rw (le-ltb _ _ short, done_bad (library_at s 0) a.answer)

    module _ {n : ℕ} (a : ReadAs (Ok n) (done (library_at s 0)) tab after) where
      ended : done (image_at s) ≡ cond (ltb n (length s)) (bad n) (good tt n)
      unfolding image_at
      ended = rw (le-ltb _ _ short) (go (library_at s 0) a.answer)
        where
          test : (l : Library) (b : Bool) → done (cond b (bad n) (good l n)) ≡ cond b (bad n) (good tt n)
          test l true = refl
          test l false = refl

          go : (x : Ans Library) → good tt n ≡ done x → done (bind x (λ l m. cond (ltb m (length s)) (bad m) (good l m)))
              ≡ cond (ltb n (length s)) (bad n) (good tt n)
          go (good l m) h = let z : m ≡ n = cc in rw z (test l (ltb n (length s)))
          go (bad p) h = let z : ◌≡◌ {A = ℕ} 0 1 = cc in absurd (omega arith)

      pub extra : n < length s → bad n ≡ done (image_at s)
      extra h = sym (ended ∙ rw (lt-ltb _ _ h))

      pub whole : length s ≤ n → good tt n ≡ done (image_at s)
      whole h = sym (ended ∙ rw (le-ltb _ _ h))
