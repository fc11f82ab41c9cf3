-- Entries of a set, of which the code keeps the name alone: what it reads is what Image reads, with all but the name left out. And one law for each way
-- out of `take_entry` and `read_entries`.
-- Assumes nothing.
use Rattle.std.specs.Prelude.{Ok, Err, Result}
use mathlib.Core.Path.{◌≡◌, refl, sym, ap, ◌∙◌}
use mathlib.Core.List.{List, [], ◌∷◌, ◌++◌, map, map-append}
use mathlib.Core.Bool.{Bool, true, false}
use Prim.Native.Nat.{ℕ, zero, suc, ◌+◌, ◌^◌, ◌≤◌, ◌<◌}
use native.Mathlib.Omega.{arith}
use lib.ListN.{length}
use mir.Syntax.{w64}
use mir.Val.{Fits}
use Rattle.library_form.specs.Form.{Ans, good, bad, bind, PlacedName, word_at, many}
use Rattle.library_form.proofs.Bounds.{name_end}
use Rattle.library_index.proofs.Taking.{new_read}
use Rattle.library_index.specs.Names.{new_name, names_in, Indexed, Cleared, Space, Taken}
use Rattle.library_index.proofs.Insert.{none_yet}
use Rattle.library_image.specs.Library.{Module, ImportOnly}
use Rattle.library_image.specs.Image.{most_modules, most_names, least_revisions, most_revisions, Reader, count_at, counted, any_word, revision_at, module_at}
use Rattle.library_image.specs.Image.{import_only_at}
use Rattle.library_image.proofs.Steps.{count_good}
use Rattle.library_read.specs.Reading.{entry_at, entries_at, Entered, EntryTaken, Roomy, ReadAs}
use Rattle.library_lists.specs.Lists.{done, read_seen, list_at, rest_at}
use Rattle.library_lists.proofs.Counting.{Going, going, further, no_count, list_stopped, list_read}

-- ---- a reading, of which a part is kept

abbrev on_read : {A B : Type 0} → (A → B) → Ans A → Ans B
on_read f (good a n) = good (f a) n
on_read f (bad p) = bad p

done_read : {A B : Type 0} (f : A → B) (a : Ans A) → done (on_read f a) ≡ done a
done_read f (good a n) = refl
done_read f (bad p) = refl

-- two readers that agree so, agree so on counted lists
module _ {A B : Type 0} (f : A → B) (p : Reader A) (q : Reader B) (s : List ℕ)
    (same : (seen : List A) (at : ℕ) → on_read f (p s seen at) ≡ q s (map f seen) at) where
  many_same : (k : ℕ) (seen : List A) (at : ℕ) → on_read (map f) (many (p s) k seen at) ≡ many (q s) k (map f seen) at
  unfolding many
  many_same zero seen at = refl
  many_same (suc k) seen at = go (p s seen at) (same seen at) (λ a n. many_same k (seen ++ (a ∷ [])) n)
    where
      go : (r : Ans A) → on_read f r ≡ q s (map f seen) at → ((a : A) (n : ℕ)
          → on_read (map f) (many (p s) k (seen ++ (a ∷ [])) n) ≡ many (q s) k (map f (seen ++ (a ∷ []))) n)
          → on_read (map f) (bind r (λ a n. many (p s) k (seen ++ (a ∷ [])) n)) ≡ bind (q s (map f seen) at) (λ b n. many (q s) k (map f seen ++ (b ∷ [])) n)
      go (good a n) e ih = ih a n ∙ ap (λ (bs : List B). many (q s) k bs n) (map-append f seen (a ∷ []))
          ∙ ap (λ (r : Ans B). bind r (λ b n. many (q s) k (map f seen ++ (b ∷ [])) n)) e
      go (bad u) e ih = ap (λ (r : Ans B). bind r (λ b n. many (q s) k (map f seen ++ (b ∷ [])) n)) e

  counted_same : (least most at : ℕ) → done (counted least most p s at) ≡ done (counted least most q s at)
  unfolding counted
  counted_same least most at = go (count_at least most s at)
    where
      go : (r : Ans ℕ) → done (bind r (λ c n. many (p s) c [] n)) ≡ done (bind r (λ c n. many (q s) c [] n))
      go (good c n) = sym (done_read (map f) (many (p s) c [] n)) ∙ ap done (many_same c [] n)
      go (bad u) = refl

-- ---- modules and import-only modules

module_entry_lem : (s : List ℕ) (seen : List Module) (at : ℕ) → on_read (λ (m : Module). m.name) (module_at s seen at)
    ≡ entry_at false s (map (λ (m : Module). m.name) seen) at
unfolding module_at entry_at rest_at list_at
module_entry_lem s seen at = name (new_name s (map (λ (m : Module). m.name) seen) at)
  where
    deviations : (w : PlacedName) (a b : List PlacedName) (r : Ans (List PlacedName))
        → on_read (λ (m : Module). m.name) (bind r (λ c n. good (record { name = w; submodules = a; augmenting = b; deviations = c }) n))
        ≡ bind (done r) (λ u m. good w m)
    deviations w a b (good c n) = refl
    deviations w a b (bad p) = refl

    augmenting : (w : PlacedName) (a : List PlacedName) (r : Ans (List PlacedName))
        → on_read (λ (m : Module). m.name) (bind r (λ b n. bind (counted 0 most_names any_word s n)
        (λ c n. good (record { name = w; submodules = a; augmenting = b; deviations = c }) n)))
        ≡ bind (bind r (λ b n. done (counted 0 most_names any_word s n))) (λ u m. good w m)
    augmenting w a (good b n) = deviations w a b (counted 0 most_names any_word s n)
    augmenting w a (bad p) = refl

    submodules : (w : PlacedName) (r : Ans (List PlacedName))
        → on_read (λ (m : Module). m.name) (bind r (λ a n. bind (counted 0 most_names any_word s n)
        (λ b n. bind (counted 0 most_names any_word s n) (λ c n. good (record { name = w; submodules = a; augmenting = b; deviations = c }) n))))
        ≡ bind (bind r (λ a n. bind (counted 0 most_names any_word s n) (λ b n. done (counted 0 most_names any_word s n)))) (λ u m. good w m)
    submodules w (good a n) = augmenting w a (counted 0 most_names any_word s n)
    submodules w (bad p) = refl

    name : (r : Ans PlacedName)
        → on_read (λ (m : Module). m.name) (bind r (λ w n. bind (counted 0 most_names any_word s n)
        (λ a n. bind (counted 0 most_names any_word s n) (λ b n. bind (counted 0 most_names any_word s n)
        (λ c n. good (record { name = w; submodules = a; augmenting = b; deviations = c }) n)))))
        ≡ bind r (λ w n. bind (bind (counted 0 most_names any_word s n) (λ a n. bind (counted 0 most_names any_word s n)
        (λ b n. done (counted 0 most_names any_word s n)))) (λ u m. good w m))
    name (good w n) = submodules w (counted 0 most_names any_word s n)
    name (bad p) = refl

import_only_entry : (s : List ℕ) (seen : List ImportOnly) (at : ℕ) → on_read (λ (m : ImportOnly). m.name) (import_only_at s seen at)
    ≡ entry_at true s (map (λ (m : ImportOnly). m.name) seen) at
unfolding import_only_at entry_at rest_at
import_only_entry s seen at = name (new_name s (map (λ (m : ImportOnly). m.name) seen) at)
  where
    revisions : (w : PlacedName) (r : Ans (List (List PlacedName)))
        → on_read (λ (m : ImportOnly). m.name) (bind r (λ a n. good (record { name = w; revisions = a }) n)) ≡ bind (done r) (λ u m. good w m)
    revisions w (good a n) = refl
    revisions w (bad p) = refl

    name : (r : Ans PlacedName)
        → on_read (λ (m : ImportOnly). m.name) (bind r (λ w n. bind (counted least_revisions most_revisions revision_at s n)
        (λ a n. good (record { name = w; revisions = a }) n)))
        ≡ bind r (λ w n. bind (done (counted least_revisions most_revisions revision_at s n)) (λ u m. good w m))
    name (good w n) = revisions w (counted least_revisions most_revisions revision_at s n)
    name (bad p) = refl

pub modules_entries : (s : List ℕ) (at : ℕ) → done (counted 0 most_modules module_at s at) ≡ done (entries_at false s at)
unfolding entries_at
modules_entries s at = counted_same (λ (m : Module). m.name) module_at (entry_at false) s (module_entry_lem s) 0 most_modules at

pub import_only_entries : (s : List ℕ) (at : ℕ) → done (counted 0 most_modules import_only_at s at) ≡ done (entries_at true s at)
unfolding entries_at
import_only_entries s at = counted_same (λ (m : ImportOnly). m.name) import_only_at (entry_at true) s (import_only_entry s) 0 most_modules at

-- ---- the ways out of `take_entry`

module _ (import_only : Bool) (s tab : List ℕ) (i at : ℕ) (after : List ℕ) where
  pub name_refused : {p : ℕ} → Taken s tab i at (Err p) after → EntryTaken import_only s tab i at (Err p) after
  unfolding entry_at
  name_refused a = record { kept = a.kept; answer = rw (← a.answer) refl }

  module _ {first len : ℕ} (a : Taken s tab i at (Ok (first, len)) after) where
    it : new_name s (names_in s tab i) at ≡ good (word_at s first len) (first + len)
    it = sym a.answer

    pub name_fits : length s < 2 ^ 64 → Fits w64 (first + len)
    name_fits h = record { fits = omega (arith, (name_end s at (new_read s (names_in s tab i) at it).0).inside) }

    pub entry_taken : (u : Result ℕ ℕ) → read_seen u ≡ rest_at import_only s (first + len) → EntryTaken import_only s tab i at u after
    unfolding entry_at
    entry_taken (Ok n) f = record {
      kept = a.kept;
      answer = record { word = word_at s first len; read = rw (it, ← f); indexed = a.indexed first len refl; names = a.names first len refl };
    }
    entry_taken (Err p) f = record { kept = a.kept; answer = rw (it, ← f) }

-- ---- the loop of `read_entries`

-- those read are the table's names
pub record Entering (import_only : Bool) (s before tab : List ℕ) (count start i at : ℕ) : Type 0 where
  pub loop : Going (entry_at import_only s) count start i at
  pub few : count ≤ most_modules
  pub room : Roomy s tab
  pub kept : length tab ≡ length before
  pub indexed : Indexed s tab i
  pub names : names_in s tab i ≡ loop.seen

module _ (import_only : Bool) (s : List ℕ) where
  pub no_entries : (tab : List ℕ) (at : ℕ) {p : ℕ} → bad p ≡ count_at 0 most_modules s at → ReadAs (Err p) (done (entries_at import_only s at)) tab tab
  unfolding entries_at
  no_entries tab at e = record { answer = no_count 0 most_modules s at (entry_at import_only) e; kept = refl }

  pub entries_begun : (before tab : List ℕ) (at : ℕ) {count n : ℕ} → good count n ≡ count_at 0 most_modules s at → Cleared before tab → Roomy s before
      → Entering import_only s tab tab count n 0 n
  unfolding names_in going
  entries_begun before tab at {count} {n} e k m = record {
    loop = going (entry_at import_only s) count n;
    few = (count_good s 0 most_modules at (sym e)).few;
    room = record { space = omega (arith, k.kept, m.space); short = m.short };
    kept = refl;
    indexed = none_yet s before tab k;
    names = refl;
  }

  module _ {before tab : List ℕ} {count from i here : ℕ} (g : Entering import_only s before tab count from i here) where
    pub entry_space : i < count → Space s tab i
    entry_space h = record {
      indexed = g.indexed;
      free = omega (arith, g.room.space, g.few);
      small = omega (arith, g.few);
      short = omega (arith, g.room.short);
    }

    more : {n : ℕ} {after : List ℕ} → length after ≡ length tab → Entered import_only s tab i here n after → i < count
        → Entering import_only s before after count from (i + 1) n
    unfolding further
    more {n} l k h =
        let e : entry_at import_only s g.loop.seen here ≡ good k.word n = rw (← g.names) k.read in
        record {
          loop = further (entry_at import_only s) g.loop e h;
          few = g.few;
          room = record { space = omega (arith, l, g.room.space); short = g.room.short };
          kept = l ∙ g.kept;
          indexed = k.indexed;
          names = k.names ∙ ap (λ (ws : List PlacedName). ws ++ (k.word ∷ [])) g.names;
        }

    pub entries_further : {n : ℕ} {after : List ℕ} → EntryTaken import_only s tab i here (Ok n) after → i < count
        → Entering import_only s before after count from (i + 1) n
    entries_further a h = more a.kept a.answer h

  module _ (at : ℕ) {count n : ℕ} (l : good count n ≡ count_at 0 most_modules s at) {before cleared : List ℕ} (m : Cleared before cleared) {tab : List ℕ}
      {i here : ℕ} (g : Entering import_only s cleared tab count n i here) where
    pub entries_stopped : {p : ℕ} {after : List ℕ} → EntryTaken import_only s tab i here (Err p) after → i < count
        → ReadAs (Err p) (done (entries_at import_only s at)) before after
    unfolding entries_at
    entries_stopped {p} {after} a h =
        let d : entry_at import_only s g.loop.seen here ≡ bad p = rw (← g.names) a.answer in
        record {
          answer = list_stopped 0 most_modules s at (entry_at import_only) l g.loop d h;
          kept = a.kept ∙ g.kept ∙ m.kept;
        }

    pub entries_read_lem : count ≤ i → ReadAs (Ok here) (done (entries_at import_only s at)) before tab
    unfolding entries_at
    entries_read_lem h = record {
      answer = list_read 0 most_modules s at (entry_at import_only) l g.loop h;
      kept = g.kept ∙ m.kept;
    }
