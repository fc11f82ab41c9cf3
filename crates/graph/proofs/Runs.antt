-- A run builds exactly if no step refuses and the different edges are within the limit; then the edges are the different ones that were asked for:
-- by recursion on the steps, since an edge that is present is not added again.
-- Assumes nothing.
use mathlib.Core.Path.{◌≡◌, refl, sym, ap, ◌∙◌, subst}
use mathlib.Core.List.Memᴰ
use mathlib.Core.List.{List, [], ◌∷◌, ◌++◌, map, flat_map, Memᴰ}
use mathlib.Core.List.{Nodup, concat-eq-append}
use mathlib.Core.Logic.{◌⊎◌, inl, inr, ⊎_elim, ∥∥₁_elim}
use mathlib.Core.HLevel.{⊥_prop}
use mathlib.Core.Bool.{Bool, true, false, cond}
use mathlib.Mathlib.Data.List.Nodup.{concat as nodup-snoc}
use Prim.Native.Nat.{ℕ, ◌+◌, ◌≤◌, ◌<◌}
use native.Mathlib.Omega.{arith}
use lib.ListN.{length, length-append}
use lib.Dec.{leb}
use borrow.Author.Tests.{leb-true, leb-false}
use Rattle.library_image.specs.Library.{Name}
use Rattle.text.specs.Refusal.{no_refusal}
use Rattle.graph.specs.Graph.{ScanAnswer, Edge, mem_e, Step, arc, stop, too_many_edges, Out, built, refused, then_o, add_by, step, run, graph, fault, on_out}
use Rattle.graph.specs.Graph.{walk_from}
use Rattle.graph.proofs.Tests.{both_bools, mem_e_mem, mem_mem_e}

-- no step refuses
abbrev pub Clean : List Step → Type 0
Clean t = (n : ℕ) (a : ScanAnswer) → Memᴰ (stop n a) t → ⊥

-- the different edges that are asked for, with no limit
abbrev pub put : List Edge → Edge → List Edge
put es e = cond (mem_e e es) es (es ++ (e ∷ []))

unfoldable pub adds : List Edge → List Step → List Edge
adds es [] = es
adds es (arc e ∷ t) = adds (put es e) t
adds es (stop n a ∷ t) = adds es t

-- ---- one edge

put_kept : (es : List Edge) (a e : Edge) → Memᴰ e es → Memᴰ e (put es a)
put_kept es a e m = go (mem_e a es)
  where
    go : (t : Bool) → Memᴰ e (cond t es (es ++ (a ∷ [])))
    go true = m
    go false = Memᴰ.append_left (a ∷ []) m

put_new : (es : List Edge) (e : Edge) → Memᴰ e (put es e)
put_new es e = go (mem_e e es) refl
  where
    go : (t : Bool) → mem_e e es ≡ t → Memᴰ e (cond t es (es ++ (e ∷ [])))
    go true q = mem_e_mem e es q
    go false q = Memᴰ.append_right es (Memᴰ.head refl)

put_only : (es : List Edge) (a e : Edge) → Memᴰ e (put es a) → Memᴰ e es ⊎ (e ≡ a)
put_only es a e m = go (mem_e a es) m
  where
    go : (t : Bool) → Memᴰ e (cond t es (es ++ (a ∷ []))) → Memᴰ e es ⊎ (e ≡ a)
    go true m = inl m
    go false m = ⊎_elim (λ o. inl o) (λ n. inr (Memᴰ.eq_of_singleton n)) (Memᴰ.append_cases es m)

put_nodup : (es : List Edge) (a : Edge) → Nodup es → Nodup (put es a)
put_nodup es a d = go (mem_e a es) refl
  where
    go : (t : Bool) → mem_e a es ≡ t → Nodup (cond t es (es ++ (a ∷ [])))
    go true q = d
    go false q = subst (λ l. Nodup l) (concat-eq-append es a) (nodup-snoc (λ m. ∥∥₁_elim m ⊥_prop (λ n. both_bools (mem_mem_e n) q)) d)

put_grows : (es : List Edge) (a : Edge) → length es ≤ length (put es a)
put_grows es a = go (mem_e a es)
  where
    go : (t : Bool) → length es ≤ length (cond t es (es ++ (a ∷ [])))
    go true = omega arith
    go false = omega (arith, length-append es (a ∷ []))

-- ---- all of them

pub adds_kept : (t : List Step) (es : List Edge) (e : Edge) → Memᴰ e es → Memᴰ e (adds es t)
unfolding adds
adds_kept [] es e m = m
adds_kept (arc a ∷ t) es e m = adds_kept t (put es a) e (put_kept es a e m)
adds_kept (stop n a ∷ t) es e m = adds_kept t es e m

pub adds_new : (t : List Step) (es : List Edge) (e : Edge) → Memᴰ (arc e) t → Memᴰ e (adds es t)
unfolding adds
adds_new [] es e m = absurd (Memᴰ.not-nil m)
adds_new (arc a ∷ t) es e m =
    ⊎_elim
    (λ p. let q : e ≡ a = cc in adds_kept t (put es a) e (subst (λ x. Memᴰ e (put es x)) q (put_new es e)))
    (λ n. adds_new t (put es a) e n) (Memᴰ.cases_cons m)
adds_new (stop k a ∷ t) es e m = ⊎_elim (λ p. let z : ◌≡◌ {A = ℕ} 0 1 = cc in absurd (omega arith)) (λ n. adds_new t es e n) (Memᴰ.cases_cons m)

pub adds_only : (t : List Step) (es : List Edge) (e : Edge) → Memᴰ e (adds es t) → Memᴰ e es ⊎ Memᴰ (arc e) t
unfolding adds
adds_only [] es e m = inl m
adds_only (arc a ∷ t) es e m =
    ⊎_elim (λ o. ⊎_elim (λ k. inl k) (λ p. inr (Memᴰ.head (ap arc p))) (put_only es a e o)) (λ n. inr (Memᴰ.tail n)) (adds_only t (put es a) e m)
adds_only (stop k a ∷ t) es e m = ⊎_elim (λ o. inl o) (λ n. inr (Memᴰ.tail n)) (adds_only t es e m)

pub adds_nodup : (t : List Step) (es : List Edge) → Nodup es → Nodup (adds es t)
unfolding adds
adds_nodup [] es d = d
adds_nodup (arc a ∷ t) es d = adds_nodup t (put es a) (put_nodup es a d)
adds_nodup (stop k a ∷ t) es d = adds_nodup t es d

adds_grow : (t : List Step) (es : List Edge) → length es ≤ length (adds es t)
unfolding adds
adds_grow [] es = omega arith
adds_grow (arc a ∷ t) es = omega (arith, put_grows es a, adds_grow t (put es a))
adds_grow (stop k a ∷ t) es = adds_grow t es

-- ---- a run that builds

pub record Ran (limit : ℕ) (es : List Edge) (t : List Step) (es₁ : List Edge) : Type 0 where
  pub clean : Clean t
  pub all : es₁ ≡ adds es t
  pub fits : length es ≤ limit → length es₁ ≤ limit

pub run_ran : (limit : ℕ) (t : List Step) (es es₁ : List Edge) → run limit es t ≡ built es₁ → Ran limit es t es₁
unfolding run adds add_by
run_ran limit [] es es₁ h =
    let q : es ≡ es₁ = cc in
    record { clean = λ n a m. Memᴰ.not-nil m; all = sym q; fits = λ k. subst (λ l. length l ≤ limit) q k }
run_ran limit (stop n a ∷ t) es es₁ h = let z : ◌≡◌ {A = ℕ} 0 1 = cc in absurd (omega arith)
run_ran limit (arc e ∷ t) es es₁ h =
    let r = go (mem_e e es) (leb limit (length es)) refl (λ es₂ h. run_ran limit t es₂ es₁ h) h in
    record { clean = r.0; all = r.1; fits = r.2 }
  where
    more : Clean t → Clean (arc e ∷ t)
    more c n a m = ⊎_elim (λ p. let z : ◌≡◌ {A = ℕ} 0 1 = cc in absurd (omega arith)) (c n a) (Memᴰ.cases_cons m)

    go : (b c : Bool) → leb limit (length es) ≡ c → ((es₂ : List Edge) → run limit es₂ t ≡ built es₁ → Ran limit es₂ t es₁)
        → then_o (cond b (built es) (cond c (refused too_many_edges no_refusal) (built (es ++ (e ∷ []))))) (λ es₂. run limit es₂ t) ≡ built es₁
        → Clean (arc e ∷ t) × (es₁ ≡ adds (cond b es (es ++ (e ∷ []))) t) × (length es ≤ limit → length es₁ ≤ limit)
    go true c q ih h = let r = ih es h in (more r.clean, r.all, r.fits)
    go false true q ih h = let z : ◌≡◌ {A = ℕ} 0 1 = cc in absurd (omega arith)
    go false false q ih h =
        let r = ih (es ++ (e ∷ [])) h in
        (more r.clean, r.all, λ k. r.fits (omega (arith, leb-false limit (length es) q, length-append es (e ∷ []))))

pub ran_run : (limit : ℕ) (t : List Step) (es : List Edge) → Clean t → length (adds es t) ≤ limit → run limit es t ≡ built (adds es t)
unfolding run adds add_by
ran_run limit [] es c k = refl
ran_run limit (stop n a ∷ t) es c k = absurd (c n a (Memᴰ.head refl))
ran_run limit (arc e ∷ t) es c k = go (mem_e e es) (leb limit (length es)) refl (λ es₂. ran_run limit t es₂ (λ n a m. c n a (Memᴰ.tail m))) k
  where
    go : (b d : Bool) → leb limit (length es) ≡ d → ((es₂ : List Edge) → length (adds es₂ t) ≤ limit → run limit es₂ t ≡ built (adds es₂ t))
        → length (adds (cond b es (es ++ (e ∷ []))) t) ≤ limit
        → then_o (cond b (built es) (cond d (refused too_many_edges no_refusal) (built (es ++ (e ∷ []))))) (λ es₂. run limit es₂ t)
        ≡ built (adds (cond b es (es ++ (e ∷ []))) t)
    go true d q ih k = ih es k
    go false true q ih k = absurd (omega (arith, leb-true limit (length es) q, length-append es (e ∷ []), adds_grow t (es ++ (e ∷ []))))
    go false false q ih k = ih (es ++ (e ∷ [])) k

-- ---- a run that is refused: by a step, or by more different edges than the limit

pub record Over (limit : ℕ) (es : List Edge) (t : List Step) (n : ℕ) (a : ScanAnswer) : Type 0 where
  pub number : too_many_edges ≡ n
  pub answer : no_refusal ≡ a
  pub edges : List Edge
  pub differ : Nodup edges
  pub many : limit < length edges
  pub asked : (e : Edge) → Memᴰ e edges → Memᴰ e es ⊎ Memᴰ (arc e) t

pub run_refused : (limit : ℕ) (t : List Step) (es : List Edge) (n : ℕ) (a : ScanAnswer) → Nodup es → run limit es t ≡ refused n a
    → Memᴰ (stop n a) t ⊎ Over limit es t n a
unfolding run add_by
run_refused limit [] es n a d h = let z : ◌≡◌ {A = ℕ} 0 1 = cc in absurd (omega arith)
run_refused limit (stop k b ∷ t) es n a d h = let p : n ≡ k = cc in let q : a ≡ b = cc in inl (Memᴰ.head (λ i. stop (p i) (q i)))
run_refused limit (arc e ∷ t) es n a d h = go (mem_e e es) (leb limit (length es)) refl refl (λ es₁. run_refused limit t es₁ n a) h
  where
    later : (es₁ : List Edge) → ((x : Edge) → Memᴰ x es₁ → Memᴰ x es ⊎ (x ≡ e)) → Memᴰ (stop n a) t ⊎ Over limit es₁ t n a
        → Memᴰ (stop n a) (arc e ∷ t) ⊎ Over limit es (arc e ∷ t) n a
    later es₁ f (inl m) = inl (Memᴰ.tail m)
    later es₁ f (inr o) =
        inr
        (record {
          number = o.number;
          answer = o.answer;
          edges = o.edges;
          differ = o.differ;
          many = o.many;
          asked = λ x m. ⊎_elim
              (λ k. ⊎_elim (λ j. inl j) (λ p. inr (Memᴰ.head (ap arc p))) (f x k)) (λ k. inr (Memᴰ.tail k)) (o.asked x m);
        })

    snoc : (x : Edge) → Memᴰ x (es ++ (e ∷ [])) → Memᴰ x es ⊎ (x ≡ e)
    snoc x m = ⊎_elim (λ o. inl o) (λ n. inr (Memᴰ.eq_of_singleton n)) (Memᴰ.append_cases es m)

    more : mem_e e es ≡ false → Nodup (es ++ (e ∷ []))
    more q = subst (λ b. Nodup (cond b es (es ++ (e ∷ [])))) q (put_nodup es e d)

    go : (b c : Bool) → mem_e e es ≡ b → leb limit (length es) ≡ c
        → ((es₁ : List Edge) → Nodup es₁ → run limit es₁ t ≡ refused n a → Memᴰ (stop n a) t ⊎ Over limit es₁ t n a)
        → then_o (cond b (built es) (cond c (refused too_many_edges no_refusal) (built (es ++ (e ∷ []))))) (λ es₁. run limit es₁ t) ≡ refused n a
        → Memᴰ (stop n a) (arc e ∷ t) ⊎ Over limit es (arc e ∷ t) n a
    go true c p q ih h = later es (λ x m. inl m) (ih es d h)
    go false true p q ih h =
        inr
        (record {
          number = cc;
          answer = cc;
          edges = es ++ (e ∷ []);
          differ = more p;
          many = omega
              (arith, leb-true limit (length es) q, length-append es (e ∷ []));
          asked = λ x m. ⊎_elim (λ o. inl o) (λ r. inr (Memᴰ.head (ap arc r)))
              (snoc x m);
        })
    go false false p q ih h = later (es ++ (e ∷ [])) snoc (ih (es ++ (e ∷ [])) (more p) h)

-- ---- one entry after another

pub run_append : (limit : ℕ) (t u : List Step) (es : List Edge) → run limit es (t ++ u) ≡ then_o (run limit es t) (λ es₁. run limit es₁ u)
unfolding run
run_append limit [] u es = refl
run_append limit (s ∷ t) u es = go (step limit es s) (λ es₁. run_append limit t u es₁)
  where
    go : (o : Out Edge) → ((es₁ : List Edge) → run limit es₁ (t ++ u) ≡ then_o (run limit es₁ t) (λ es₂. run limit es₂ u))
        → then_o o (λ es₁. run limit es₁ (t ++ u)) ≡ then_o (then_o o (λ es₁. run limit es₁ t)) (λ es₁. run limit es₁ u)
    go (built es₁) ih = ih es₁
    go (refused n a) ih = refl

module _ {A : Type 0} (f : A → List Step) (limit : ℕ) (ns : List Name) where
  pub walk_run : (l : List A) (k : ℕ) (es : List Edge) {ns₁ : List Name} {es₁ : List Edge} → walk_from limit ns k es (map f l) ≡ graph ns₁ es₁
      → (ns ≡ ns₁) × (run limit es (flat_map f l) ≡ built es₁)
  unfolding walk_from run flat_map
  walk_run [] k es h = (cc, cc)
  walk_run (x ∷ l) k es {ns₁} {es₁} h =
      let r = go (run limit es (f x)) (λ es₂ h. walk_run l (k + 1) es₂ h) h in
      (r.0, run_append limit (f x) (flat_map f l) es ∙ r.1)
    where
      go : (o : Out Edge)
          → ((es₂ : List Edge) → walk_from limit ns (k + 1) es₂ (map f l) ≡ graph ns₁ es₁ → (ns ≡ ns₁) × (run limit es₂ (flat_map f l) ≡ built es₁))
          → on_out o (λ es₂. walk_from limit ns (k + 1) es₂ (map f l)) (λ n a. fault n k a) ≡ graph ns₁ es₁
          → (ns ≡ ns₁) × (then_o o (λ es₂. run limit es₂ (flat_map f l)) ≡ built es₁)
      go (built es₂) ih h = ih es₂ h
      go (refused n a) ih h = let z : ◌≡◌ {A = ℕ} 0 1 = cc in absurd (omega arith)

  pub run_walk : (l : List A) (k : ℕ) (es : List Edge) {es₁ : List Edge} → run limit es (flat_map f l) ≡ built es₁
      → walk_from limit ns k es (map f l) ≡ graph ns es₁
  unfolding walk_from run flat_map
  run_walk [] k es h = let q : ◌≡◌ {A = Out Edge} (built es) (built _) = h in cc
  run_walk (x ∷ l) k es {es₁} h = go (run limit es (f x)) (λ es₂ h. run_walk l (k + 1) es₂ h) (sym (run_append limit (f x) (flat_map f l) es) ∙ h)
    where
      go : (o : Out Edge) → ((es₂ : List Edge) → run limit es₂ (flat_map f l) ≡ built es₁ → walk_from limit ns (k + 1) es₂ (map f l) ≡ graph ns es₁)
          → then_o o (λ es₂. run limit es₂ (flat_map f l)) ≡ built es₁
          → on_out o (λ es₂. walk_from limit ns (k + 1) es₂ (map f l)) (λ n a. fault n k a) ≡ graph ns es₁
      go (built es₂) ih h = ih es₂ h
      go (refused n a) ih h = let z : ◌≡◌ {A = ℕ} 0 1 = cc in absurd (omega arith)

  -- a walk that is refused stops in one of the entries, and runs through those before it
  pub record Stopped (l : List A) (k : ℕ) (es : List Edge) (n j : ℕ) (a : ScanAnswer) : Type 0 where
    pub before : List A
    pub at : A
    pub after : List A
    pub order : l ≡ before ++ (at ∷ after)
    pub number : j ≡ length before + k
    pub sofar : List Edge
    pub through : run limit es (flat_map f before) ≡ built sofar
    pub stopped : run limit sofar (f at) ≡ refused n a

  pub walk_refused : (l : List A) (k : ℕ) (es : List Edge) {n j : ℕ} {a : ScanAnswer} → walk_from limit ns k es (map f l) ≡ fault n j a → Stopped l k es n j a
  unfolding walk_from run flat_map
  walk_refused [] k es h = let z : ◌≡◌ {A = ℕ} 0 1 = cc in absurd (omega arith)
  walk_refused (x ∷ l) k es {n} {j} {a} h = go (run limit es (f x)) refl (λ es₁ h. walk_refused l (k + 1) es₁ h) h
    where
      go : (o : Out Edge) → run limit es (f x) ≡ o → ((es₁ : List Edge) → walk_from limit ns (k + 1) es₁ (map f l) ≡ fault n j a → Stopped l (k + 1) es₁ n j a)
          → on_out o (λ es₁. walk_from limit ns (k + 1) es₁ (map f l)) (λ n a. fault n k a) ≡ fault n j a → Stopped (x ∷ l) k es n j a
      go (built es₁) q ih h = let r = ih es₁ h in let e : j ≡ length r.before + (k + 1) = r.number in record {
        before = x ∷ r.before;
        at = r.at;
        after = r.after;
        order = ap (λ t. x ∷ t) r.order;
        number = omega arith;
        sofar = r.sofar;
        through = run_append limit (f x) (flat_map f r.before) es ∙ (ap (λ o. then_o o (λ es₂. run limit es₂ (flat_map f r.before))) q ∙ r.through);
        stopped = r.stopped;
      }
      go (refused m b) q ih h = let e : k ≡ j = cc in let c : m ≡ n = cc in let d : b ≡ a = cc in record {
        before = [];
        at = x;
        after = l;
        order = refl;
        number = omega arith;
        sofar = es;
        through = refl;
        stopped = q ∙ (λ i. refused (c i) (d i));
      }
