-- A search through the bytes of a list that is read is the search for the first hit in what was read: each thing of the list is passed over the same
-- bytes that it was read from.
-- Assumes nothing.
use Rattle.std.specs.Prelude.{Err, Ok, None, Some, Result, Option}
use mathlib.Core.Path.{◌≡◌, refl, sym, ap, ◌∙◌}
use mathlib.Core.List.{List, [], ◌∷◌, ◌++◌, append_assoc, append-nil}
use mathlib.Core.Bool.{Bool, true, false, cond}
use Prim.Native.Nat.{ℕ, zero, suc, ◌≤◌, ◌<◌}
use lib.ListN.{length}
use Rattle.text.specs.Keyword.{same}
use Rattle.library_form.specs.Form.{Ans, good, PlacedName, many}
use Rattle.library_index.specs.Names.{first_by}
use Rattle.library_image.specs.Image.{most_revisions, Reader, count_at, counted}
use Rattle.library_image.proofs.Steps.{on_good}
use Rattle.library_lists.specs.Lists.{on_ans}
use Rattle.library_search.specs.Search.{Tried, and_then, tries, list_tried, found_by}
use Rattle.std.proofs.Common.{Continue, Break}

-- ---- what is found in a list

-- the first that is found
abbrev pub or_else : Result (Option (ℕ × ℕ)) ℕ → Result (Option (ℕ × ℕ)) ℕ → Result (Option (ℕ × ℕ)) ℕ
or_else (Ok (Some (p, r))) d = Ok (Some (p, r))
or_else (Ok None) d = d
or_else (Err p) d = Err p

abbrev pub first_hit : {A : Type 0} → (A → Result (Option (ℕ × ℕ)) ℕ) → List A → Result (Option (ℕ × ℕ)) ℕ
first_hit look [] = (Ok None)
first_hit look (a ∷ l) = or_else (look a) (first_hit look l)

pub or_nothing : (x : Result (Option (ℕ × ℕ)) ℕ) → or_else x (Ok None) ≡ x
or_nothing (Ok (Some (p, r))) = refl
or_nothing (Ok None) = refl
or_nothing (Err p) = refl

or_assoc : (x y z : Result (Option (ℕ × ℕ)) ℕ) → or_else (or_else x y) z ≡ or_else x (or_else y z)
or_assoc (Ok (Some (p, r))) y z = refl
or_assoc (Ok None) y z = refl
or_assoc (Err p) y z = refl

pub none_hit : {A : Type 0} (l : List A) → first_hit (λ (a : A). (Ok None)) l ≡ (Ok None)
none_hit [] = refl
none_hit (a ∷ l) = none_hit l

pub hit_append : {A : Type 0} (look : A → Result (Option (ℕ × ℕ)) ℕ) (l k : List A) → first_hit look (l ++ k) ≡ or_else (first_hit look l) (first_hit look k)
hit_append look [] k = refl
hit_append look (a ∷ l) k = ap (or_else (look a)) (hit_append look l k) ∙ sym (or_assoc (look a) (first_hit look l) (first_hit look k))

-- one that has the bytes t
module _ {A : Type 0} (name : A → PlacedName) (place revisions : A → ℕ) (t : List ℕ) where
  abbrev pub look_for : A → Result (Option (ℕ × ℕ)) ℕ
  look_for a = cond (same (name a).text t) (Ok (Some ((place a), (revisions a)))) (Ok None)

  pub hit_by : (l : List A) → first_hit look_for l ≡ first_by name (λ (a : A). Ok (Some ((place a), (revisions a)))) t l (Ok None)
  hit_by [] = refl
  hit_by (a ∷ l) = go (same (name a).text t) (hit_by l)
    where
      go : (b : Bool) → first_hit look_for l ≡ first_by name (λ (a : A). Ok (Some ((place a), (revisions a)))) t l (Ok None)
          → or_else (cond b (Ok (Some ((place a), (revisions a)))) (Ok None)) (first_hit look_for l)
          ≡ cond b (Ok (Some ((place a), (revisions a)))) (first_by name (λ (a : A). Ok (Some ((place a), (revisions a)))) t l (Ok None))
      go true ih = refl
      go false ih = ih

-- ---- what is found stands within the bytes, behind a length

pub record HitIn (s : List ℕ) (p r : ℕ) : Type 0 where
  pub later : 0 < p
  pub inside : p < length s
  pub few : r ≤ most_revisions

abbrev pub Fine : List ℕ → Result (Option (ℕ × ℕ)) ℕ → Type 0
Fine s (Ok (Some (p, r))) = HitIn s p r
Fine s (Ok None) = Unit
Fine s (Err p) = ⊥

pub or_fine : (s : List ℕ) (x y : Result (Option (ℕ × ℕ)) ℕ) → Fine s x → Fine s y → Fine s (or_else x y)
or_fine s (Ok (Some (p, r))) y h k = h
or_fine s (Ok None) y h k = k
or_fine s (Err p) y h k = h

-- ---- a thing that was read and passed

abbrev pub as_tried : Result (Option (ℕ × ℕ)) ℕ → ℕ → Tried
as_tried (Ok (Some (p, r))) n = Break (Some (p, r))
as_tried (Ok None) n = Continue n
as_tried (Err p) n = Break None

pub found_tried : (s : List ℕ) (x : Result (Option (ℕ × ℕ)) ℕ) (n : ℕ) → Fine s x → found_by (as_tried x n) ≡ x
found_tried s (Ok (Some (p, r))) n h = refl
found_tried s (Ok None) n h = refl
found_tried s (Err p) n h = absurd h

pub and_then_lem : (x y : Result (Option (ℕ × ℕ)) ℕ) (m n : ℕ) (k : ℕ → Tried) → k m ≡ as_tried y n → and_then (as_tried x m) k ≡ as_tried (or_else x y) n
and_then_lem (Ok (Some (p, r))) y m n k e = refl
and_then_lem (Ok None) y m n k e = e
and_then_lem (Err p) y m n k e = refl

-- what the search for x through some bytes comes to that were read up to n
pub record Passed (s : List ℕ) (r : Tried) (x : Result (Option (ℕ × ℕ)) ℕ) (n : ℕ) : Type 0 where
  pub tried : r ≡ as_tried x n
  pub fine : Fine s x

abbrev pub Passing : {A : Type 0} → Reader A → List ℕ → (ℕ → Tried) → (A → Result (Option (ℕ × ℕ)) ℕ) → Type 0
Passing {A} p s f look = (seen : List A) (at : ℕ) (a : A) (n : ℕ) → p s seen at ≡ good a n → Passed s (f at) (look a) n

-- what follows a good reading
pub on_read : {A B : Type 0} {r : Ans A} (f : A → ℕ → B) (g : ℕ → B) {a : A} {n : ℕ} → r ≡ good a n → on_ans r f g ≡ f a n
on_read f g e = ap (λ r. on_ans r f g) e

-- ---- counted lists

-- the things that were read behind those seen
pub record More {A : Type 0} (s : List ℕ) (look : A → Result (Option (ℕ × ℕ)) ℕ) (c : ℕ) (seen l : List A) (r : Tried) (n : ℕ) : Type 0 where
  pub more : List A
  pub behind : l ≡ seen ++ more
  pub long : length more ≡ c
  pub passed : Passed s r (first_hit look more) n

module _ {A : Type 0} (p : Reader A) (s : List ℕ) (f : ℕ → Tried) (look : A → Result (Option (ℕ × ℕ)) ℕ) (law : Passing p s f look) where
  many_tried : (c : ℕ) (seen : List A) (at : ℕ) {l : List A} {n : ℕ} → many (p s) c seen at ≡ good l n → More s look c seen l (tries f c at) n
  unfolding many tries
  many_tried zero seen at {l} {n} e =
      let x : seen ≡ l = cc in
      let y : at ≡ n = cc in
      record { more = []; behind = sym x ∙ sym (append-nil seen); long = refl; passed = record { tried = ap Continue y; fine = tt } }
  many_tried (suc k) seen at {l} {n} e =
      on_good (p s seen at) _ e (λ a m h g.
      let i = many_tried k (seen ++ (a ∷ [])) m g in
      let q = law seen at a m h in
      record {
        more = a ∷ i.more;
        behind = i.behind ∙ append_assoc seen (a ∷ []) i.more;
        long = ap suc i.long;
        passed = record {
          tried = ap (λ x. and_then x (tries f k)) q.tried ∙ and_then_lem (look a) (first_hit look i.more) m n (tries f k) i.passed.tried;
          fine = or_fine s (look a) (first_hit look i.more) q.fine i.passed.fine;
        };
      })

  -- a list of which the count was read already
  pub record Listed (least most at : ℕ) (l : List A) (n : ℕ) : Type 0 where
    pub from : ℕ
    pub count : count_at least most s at ≡ good (length l) from
    pub passed : Passed s (tries f (length l) from) (first_hit look l) n

  pub listed : (least most at : ℕ) {l : List A} {n : ℕ} → counted least most p s at ≡ good l n → Listed least most at l n
  unfolding counted
  listed least most at {l} {n} e =
      on_good (count_at least most s at) _ e (λ c m h g.
      let i = many_tried c [] m g in
      let x : length l ≡ c = ap length i.behind ∙ i.long in
      record {
        from = m;
        count = h ∙ ap (λ d. good d m) (sym x);
        passed = record {
          tried = ap (λ d. tries f d m) x ∙ i.passed.tried ∙ ap (λ k. as_tried (first_hit look k) n) (sym i.behind);
          fine = rw i.behind i.passed.fine;
        };
      })

  pub list_tried_lem : (most at : ℕ) {l : List A} {n : ℕ} → counted 0 most p s at ≡ good l n → Passed s (list_tried most f s at) (first_hit look l) n
  unfolding list_tried
  list_tried_lem most at {l} {n} e =
      let i = listed 0 most at e in
      record { tried = on_read _ _ i.count ∙ i.passed.tried; fine = i.passed.fine }
