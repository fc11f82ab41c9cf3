-- A reader and a writer agree: what was read is what would be written and is rightly formed, and what is rightly formed and written is read back. If
-- they agree on a thing they agree on counted lists of it: proved once, for names, modules, import-only modules, revisions and sets.
-- Assumes nothing.
use mathlib.Core.Path.{◌≡◌, refl, sym, ap, ap₂, ◌∙◌, subst}
use mathlib.Core.List.{List, [], ◌∷◌, ◌++◌, map, append-nil, map-append}
use Prim.Native.Nat.{ℕ, zero, suc, ◌+◌, ◌≤◌}
use native.Mathlib.Omega.{arith}
use lib.ListN.{length, length-append, length-map}
use lib.Seq.{append_snoc}
use Rattle.library_form.specs.Form.{good, most_number, many}
use Rattle.library_form.specs.Writer.{write_number, AllBytes}
use Rattle.library_image.specs.Image.{Reader, count_at, counted}
use Rattle.library_image.specs.ImageWriter.{write_each, write_list, EachOf, Listed}
use Rattle.library_form.proofs.Standing.{Wrote, wrote_none, wrote_join, number_wrote, Stands, stands_left, stands_right, number_stands}
use Rattle.library_image.proofs.Steps.{on_good, bind_good, carry, count_good, good_count}

-- what was read from `at` to n is a rightly formed b, written
pub record Forth {B : Type 0} (w : B → List ℕ) (Right : List B → B → Type 0) (s : List ℕ) (before : List B) (at : ℕ) (b : B) (n : ℕ) : Type 0 where
  pub wrote : Wrote s at (w b) n
  pub right : Right before b

-- b was read at `at`, up to its end
pub record Back {A B : Type 0} (p : Reader A) (f : A → B) (w : B → List ℕ) (s : List ℕ) (seen : List A) (at : ℕ) (b : B) : Type 0 where
  pub value : A
  pub plain : f value ≡ b
  pub read : p s seen at ≡ good value (at + length (w b))

-- the reader p of things that f makes plain agrees with the writer w of plain things that are rightly formed
pub record Lawful {A B : Type 0} (p : Reader A) (f : A → B) (w : B → List ℕ) (Right : List B → B → Type 0) : Type 0 where
  pub forth : (s : List ℕ) → AllBytes s → (seen : List A) (at : ℕ) {a : A} {n : ℕ} → p s seen at ≡ good a n → Forth w Right s (map f seen) at (f a) n
  pub back : (s : List ℕ) (seen : List A) (at : ℕ) (b : B) (rest : List ℕ) → Right (map f seen) b → Stands s at (w b) rest → Back p f w s seen at b

module _ {A B : Type 0} {p : Reader A} {f : A → B} {w : B → List ℕ} {Right : List B → B → Type 0} (law : Lawful p f w Right) where
  -- ---- what was read

  record Read (s : List ℕ) (k : ℕ) (seen : List A) (at : ℕ) (l : List A) (n : ℕ) : Type 0 where
    more : List A
    whole : seen ++ more ≡ l
    size : length more ≡ k
    wrote : Wrote s at (write_each w (map f more)) n
    each : EachOf Right (map f seen) (map f more)

  many_forth : (s : List ℕ) → AllBytes s → (k : ℕ) (seen : List A) (at : ℕ) {l : List A} {n : ℕ} → many (p s) k seen at ≡ good l n → Read s k seen at l n
  unfolding many write_each EachOf
  many_forth s bytes zero seen at e =
      carry (Read s zero seen at) e
      (record { more = []; whole = append-nil seen; size = refl; wrote = wrote_none s at; each = tt })
  many_forth s bytes (suc k) seen at {l} {n} e =
      on_good (p s seen at) _ e (λ a m e₁ e₂.
      let h = law.forth s bytes seen at e₁ in
      let r = many_forth s bytes k (seen ++ (a ∷ [])) m e₂ in
      record {
        more = a ∷ r.more;
        whole = sym (append_snoc seen a r.more) ∙ r.whole;
        size = ap suc r.size;
        wrote = wrote_join s at m n h.wrote r.wrote;
        each = (h.right, subst (λ x. EachOf Right x (map f r.more)) (map-append f seen (a ∷ [])) r.each);
      })

  -- ---- what is written

  record Made (s : List ℕ) (seen : List A) (at : ℕ) (bs : List B) : Type 0 where
    more : List A
    plain : map f more ≡ bs
    read : many (p s) (length bs) seen at ≡ good (seen ++ more) (at + length (write_each w bs))

  many_back : (s : List ℕ) (seen : List A) (at : ℕ) (bs : List B) (rest : List ℕ) → EachOf Right (map f seen) bs → Stands s at (write_each w bs) rest
      → Made s seen at bs
  unfolding many write_each EachOf
  many_back s seen at [] rest h t =
      let e : at ≡ at + 0 = omega arith in
      record { more = []; plain = refl; read = ap₂ good (sym (append-nil seen)) e }
  many_back s seen at (b ∷ bs) rest h t =
      let o = law.back s seen at b (write_each w bs ++ rest) h.0 (stands_left s at (w b) (write_each w bs) rest t) in
      let a = o.value in
      let x : map f (seen ++ (a ∷ [])) ≡ map f seen ++ (b ∷ []) = map-append f seen (a ∷ []) ∙ ap (λ y. map f seen ++ (y ∷ [])) o.plain in
      let r =
      many_back s (seen ++ (a ∷ [])) (at + length (w b)) bs rest (subst (λ y. EachOf Right y bs) (sym x) h.1)
      (stands_right s at (w b) (write_each w bs) rest t) in
      let d : at + length (w b) + length (write_each w bs) ≡ at + length (w b ++ write_each w bs) = omega (arith, length-append (w b) (write_each w bs)) in
      record {
        more = a ∷ r.more;
        plain = ap₂ ◌∷◌ o.plain r.plain;
        read =
            bind_good (λ a n. many (p s) (length bs) (seen ++ (a ∷ [])) n) o.read
            (r.read ∙ ap₂ good (append_snoc seen a r.more) d);
      }

  -- ---- counted

  module _ (least most : ℕ) (fits : most ≤ most_number) where
    counted_forth : (s : List ℕ) → AllBytes s → (before : List (List B)) (at : ℕ) {l : List A} {n : ℕ} → counted least most p s at ≡ good l n
        → Forth (write_list w) (λ before. Listed least most Right) s before at (map f l) n
    unfolding counted write_list
    counted_forth s bytes before at {l} {n} e =
        on_good (count_at least most s at) _ e (λ c m e₁ e₂.
        let k = count_good s least most at e₁ in
        let r = many_forth s bytes c [] m e₂ in
        let q : map f r.more ≡ map f l = ap (map f) r.whole in
        let z : length (map f l) ≡ c = ap length (sym q) ∙ length-map r.more f ∙ r.size in
        let v : Wrote s at (write_number (length (map f l))) m = rw z (number_wrote s bytes at k.number) in
        let u : Wrote s m (write_each w (map f l)) n = subst (λ x. Wrote s m (write_each w x) n) q r.wrote in
        record {
          wrote = wrote_join s at m n v u;
          right = record { enough = rw z k.enough; few = rw z k.few; each = subst (λ x. EachOf Right [] x) q r.each };
        })

    counted_back : (s : List ℕ) (seen : List (List A)) (at : ℕ) (bs : List B) (rest : List ℕ) → Listed least most Right bs → Stands s at (write_list w bs) rest
        → Back (λ s seen at. counted least most p s at) (map f) (write_list w) s seen at bs
    unfolding counted write_list
    counted_back s seen at bs rest h t =
        let v = write_number (length bs) in
        let i = h.few in
        let m = number_stands s at (length bs) (write_each w bs ++ rest) (omega arith) (stands_left s at v (write_each w bs) rest t) in
        let r = many_back s [] (at + length v) bs rest h.each (stands_right s at v (write_each w bs) rest t) in
        let d : at + length v + length (write_each w bs) ≡ at + length (v ++ write_each w bs) = omega (arith, length-append v (write_each w bs)) in
        record {
          value = r.more;
          plain = r.plain;
          read =
              bind_good (λ c n. many (p s) c [] n) (good_count s least most at (record { number = m; enough = h.enough; few = i }))
              (r.read ∙ ap (good r.more) d);
        }

    pub counted_lawful : Lawful (λ s seen at. counted least most p s at) (map f) (write_list w) (λ before. Listed least most Right)
    counted_lawful = record {
      forth = λ s bytes seen at e. counted_forth s bytes (map (map f) seen) at e;
      back = counted_back;
    }
