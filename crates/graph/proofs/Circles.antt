-- A text that was walked, met again: it adds nothing, and is too deep exactly if more includes lie below it than there is depth left. Texts that are being
-- walked and lead to each other are too deep at any depth.
-- Assumes nothing.
use Prim.Native.Nat.{ℕ, zero, suc, ◌≤◌}
use mathlib.Core.Path.{◌≡◌, refl, ap, ◌∙◌}
use mathlib.Core.Bool.{Bool, true, false, cond}
use mathlib.Core.List.{List, [], ◌∷◌, ◌++◌}
use native.Mathlib.Omega.{arith}
use lib.Dec.{leb}
use borrow.Author.Tests.{leb-true, leb-false, le-leb, lt-leb}
use Rattle.text.specs.Refusal.{no_refusal}
use Rattle.graph.specs.Graph.{no_included_text, too_deep, Out, built, refused, then_o}
use Rattle.graph.specs.Numbers.{Row, row, mem_r, add_row, Codes, codes, each_o, include_code, visit_codes, walk_codes}
use Rattle.graph.specs.Once.{raised, Grows, unless_deep, Done}
use Rattle.graph.proofs.Rowing.{each_append, add_there, Imported, imported_grows, imports_there}

abbrev pub deep : Out Row
deep = refused too_deep no_refusal

module _ (at : ℕ → Codes) (limit : ℕ) where
  -- the plain walk of an included text, where its own text has so much depth left
  abbrev pub under : (left u : ℕ) → List Row → Out Row
  under zero u rs = deep
  under (suc left) u rs = walk_codes at limit left no_included_text u rs

  pub plain_is : (left absent v : ℕ) (rs : List Row) → walk_codes at limit left absent v rs ≡ visit_codes limit (under left) absent v (at v) rs
  unfolding walk_codes
  plain_is zero absent v rs = refl
  plain_is (suc left) absent v rs = refl

  -- ---- walked, with h includes below
  pub done_grows : {h u : ℕ} {rs : List Row} (rs₁ : List Row) → Grows rs rs₁ → Done at limit h u rs → Done at limit h u rs₁
  done_grows rs₁ g d = record { again = λ left absent rs₂ k. d.again left absent rs₂ (λ r m. k r (g r m)) }

  -- includes of v that were walked, and how many lie below
  pub data Gone (v : ℕ) (rs : List Row) : List ℕ → ℕ → Type 0 where
    none : Gone v rs [] 0
    more : {cs : List ℕ} {h : ℕ} → Gone v rs cs h → (u k : ℕ) → mem_r (row u v) rs ≡ true → Done at limit k u rs
        → Gone v rs (cs ++ (suc (suc u) ∷ [])) (raised h k)

  pub gone_grows : {v : ℕ} {rs : List Row} {cs : List ℕ} {h : ℕ} (rs₁ : List Row) → Grows rs rs₁ → Gone v rs cs h → Gone v rs₁ cs h
  gone_grows rs₁ g none = none
  gone_grows {v} rs₁ g (more o u k m d) = more (gone_grows rs₁ g o) u k (g (row u v) m) (done_grows rs₁ g d)

  -- one include more, whose text has k below, where h lie below those before it
  one_more : (left h k u : ℕ) (rs : List Row) → ((absent : ℕ) (l : ℕ) → walk_codes at limit l absent u rs ≡ unless_deep k l rs)
      → then_o (unless_deep h left rs) (λ rs₁. then_o (under left u rs₁) built) ≡ unless_deep (raised h k) left rs
  one_more zero h k u rs d = go (leb h zero)
    where
      go : (b : Bool) → then_o (cond b (built rs) deep) (λ rs₁. deep) ≡ unless_deep (raised h k) zero rs
      go true = rw (lt-leb (raised h k) zero (omega arith)) refl
      go false = rw (lt-leb (raised h k) zero (omega arith)) refl
  one_more (suc l) h k u rs d = go (leb h (suc l)) refl
    where
      inner : (b : Bool) → leb k l ≡ b → h ≤ suc l → then_o (cond b (built rs) deep) built ≡ unless_deep (raised h k) (suc l) rs
      inner true q p = let e = leb-true k l q in rw (le-leb (raised h k) (suc l) (omega (arith, e, p))) refl
      inner false q p = let e = leb-false k l q in rw (lt-leb (raised h k) (suc l) (omega (arith, e))) refl

      go : (b : Bool) → leb h (suc l) ≡ b
          → then_o (cond b (built rs) deep) (λ rs₁. then_o (walk_codes at limit l no_included_text u rs₁) built) ≡ unless_deep (raised h k) (suc l) rs
      go true q = rw (d no_included_text l) (inner (leb k l) refl (leb-true h (suc l) q))
      go false q = let e = leb-false h (suc l) q in rw (lt-leb (raised h k) (suc l) (omega (arith, e))) refl

  -- the plain walk of such includes, met again
  pub gone_each : {v : ℕ} {rs : List Row} {cs : List ℕ} {h : ℕ} → Gone v rs cs h → (rs₁ : List Row) → Grows rs rs₁ → (left : ℕ)
      → each_o (include_code limit (under left) v) cs rs₁ ≡ unless_deep h left rs₁
  unfolding each_o
  gone_each none rs₁ g left = rw (le-leb 0 left (omega arith)) refl
  gone_each {v} (more {cs} {h} o u k m d) rs₁ g left =
      each_append (include_code limit (under left) v) cs (suc (suc u) ∷ []) rs₁
      ∙ rw (gone_each o rs₁ g left) (last (leb h left) ∙ one_more left h k u rs₁ (λ absent l. d.again l absent rs₁ g))
    where
      last : (b : Bool)
          → then_o (cond b (built rs₁) deep) (λ rs₂. then_o (then_o (add_row limit rs₂ (row u v)) (under left u)) built)
          ≡ then_o (cond b (built rs₁) deep) (λ rs₂. then_o (under left u rs₂) built)
      last true = rw (add_there limit (row u v) rs₁ (g (row u v) m)) refl
      last false = refl

  -- a text all of whose includes were walked
  pub text_done : (v : ℕ) (imports includes : List ℕ) (h : ℕ) (rs : List Row) → at v ≡ codes imports includes → Imported imports v rs
      → Gone v rs includes h → Done at limit h v rs
  text_done v imports includes h rs e i o = record {
    again = λ left absent rs₁ g.
        plain_is left absent v rs₁ ∙ ap (λ c. visit_codes limit (under left) absent v c rs₁) e
        ∙ ap (λ x. then_o x (each_o (include_code limit (under left) v) includes)) (imports_there limit v imports rs₁ (imported_grows imports v rs rs₁ g i))
        ∙ gone_each o rs₁ g left;
  }

  -- ---- being walked: its imports and some includes are done, and now it is at x
  pub record Frame (u x : ℕ) (rs : List Row) : Type 0 where
    pub imports : List ℕ
    pub before : List ℕ
    pub after : List ℕ
    pub height : ℕ
    pub text : at u ≡ codes imports (before ++ (suc (suc x) ∷ after))
    pub imported : Imported imports u rs
    pub gone : Gone u rs before height
    pub there : mem_r (row x u) rs ≡ true

  pub frame_grows : {u x : ℕ} {rs : List Row} (rs₁ : List Row) → Grows rs rs₁ → Frame u x rs → Frame u x rs₁
  frame_grows {u} {x} {rs} rs₁ g f = record {
    imports = f.imports;
    before = f.before;
    after = f.after;
    height = f.height;
    text = f.text;
    imported = imported_grows f.imports u rs rs₁ g f.imported;
    gone = gone_grows rs₁ g f.gone;
    there = g (row x u) f.there;
  }

  -- what is due of the include that it is at, is due of it
  pub framed : (left absent : ℕ) {u x : ℕ} {rs : List Row} (rs₁ : List Row) → Frame u x rs → Grows rs rs₁ → under left x rs₁ ≡ deep
      → walk_codes at limit left absent u rs₁ ≡ deep
  unfolding each_o
  framed left absent {u} {x} {rs} rs₁ f g e =
      plain_is left absent u rs₁ ∙ ap (λ c. visit_codes limit (under left) absent u c rs₁) f.text
      ∙ ap (λ y. then_o y (each_o (include_code limit (under left) u) (f.before ++ (suc (suc x) ∷ f.after))))
      (imports_there limit u f.imports rs₁ (imported_grows f.imports u rs rs₁ g f.imported))
      ∙ each_append (include_code limit (under left) u) f.before (suc (suc x) ∷ f.after) rs₁
      ∙ rw (gone_each f.gone rs₁ g left) (go (leb f.height left) f.after (g (row x u) f.there))
    where
      go : (b : Bool) (after : List ℕ) → mem_r (row x u) rs₁ ≡ true
          → then_o (cond b (built rs₁) deep) (each_o (include_code limit (under left) u) (suc (suc x) ∷ after)) ≡ deep
      go true after m = rw (add_there limit (row x u) rs₁ m) (rw e refl)
      go false after m = refl

  -- frames that lead to each other
  pub stuck : (S : ℕ → Type 0) (rs : List Row) → ((u : ℕ) → S u → (x : ℕ) × Frame u x rs × S x) → (left absent u : ℕ) → S u → (rs₁ : List Row) → Grows rs rs₁
      → walk_codes at limit left absent u rs₁ ≡ deep
  stuck S rs on zero absent u s rs₁ g = framed zero absent rs₁ (on u s).1 g refl
  stuck S rs on (suc left) absent u s rs₁ g = framed (suc left) absent rs₁ (on u s).1 g (stuck S rs on left no_included_text (on u s).0 (on u s).2 rs₁ g)
