-- The walk that remembers is the plain walk: the same rows in the same order, the same refusals.
-- Assumes nothing.
use Prim.Native.Nat.{ℕ, zero, suc}
use mathlib.Core.Path.{◌≡◌, refl, sym, ap, ◌∙◌, subst, subst₂}
use mathlib.Core.Logic.{◌⊎◌, inl, inr, ⊎_elim}
use mathlib.Core.Bool.{Bool, true, false, cond}
use mathlib.Core.List.{List, [], ◌∷◌, ◌++◌, append_assoc, append-nil}
use lib.Dec.{eqb, leb}
use borrow.Author.Tests.{eqb-true, eqb-false, eq-eqb, ne_eqb}
use Rattle.text.specs.Refusal.{no_refusal}
use Rattle.graph.specs.Graph.{no_included_text, too_deep, Out, built, refused, then_o}
use Rattle.graph.specs.Numbers.{Row, row, add_row, Codes, no_text, refused_scan, codes, each_o, import_code, include_code, visit_codes, walk_codes}
use Rattle.graph.specs.Once.{Mark, unread, reading, below, Marks, nothing_read, mark, Went, walked, halted, then_rows, then_w, includes_once, ended}
use Rattle.graph.specs.Once.{raised, visit_once, met, walk_once, below_once, Grows, Done, Between}
use Rattle.graph.proofs.Tests.{both_bools}
use Rattle.graph.proofs.Rowing.{same_rows, OnBuilt, Added, added, Imported, imported_grows, Imports, imports_done}
use Rattle.graph.proofs.Circles.{deep, under, plain_is, done_grows, Gone, none, more, gone_grows, text_done, Frame, frame_grows, stuck}

-- ---- marks

abbrev pub is_below : Mark → Bool
is_below (below h) = true
is_below unread = false
is_below reading = false

abbrev pub is_reading : Mark → Bool
is_reading reading = true
is_reading unread = false
is_reading (below h) = false

pub mark_here : (m : Marks) (v : ℕ) (x : Mark) → mark m v x v ≡ x
mark_here m v x = rw (eq-eqb v v refl) refl

mark_other : (m : Marks) (v : ℕ) (x : Mark) (u : ℕ) → (u ≡ v → ⊥) → mark m v x u ≡ m u
mark_other m v x u n = rw (ne_eqb u v n) refl

-- where v was marked, u is v, or has the mark that it had
mark_cases : (m : Marks) (v : ℕ) (x : Mark) (u : ℕ) {y : Mark} → mark m v x u ≡ y → ((u ≡ v) × (x ≡ y)) ⊎ ((u ≡ v → ⊥) × (m u ≡ y))
mark_cases m v x u {y} e = go (eqb u v) refl e
  where
    go : (b : Bool) → eqb u v ≡ b → cond b x (m u) ≡ y → ((u ≡ v) × (x ≡ y)) ⊎ ((u ≡ v → ⊥) × (m u ≡ y))
    go true q e = inl (eqb-true u v q, e)
    go false q e = inr (eqb-false u v q, e)

module _ (at : ℕ → Codes) (limit : ℕ) where
  pub once_is : (left absent v : ℕ) (rs : List Row) (m : Marks)
      → walk_once at limit left absent v rs m ≡ met (m v) left rs m (visit_once limit (below_once at limit left) absent v (at v) rs m)
  unfolding walk_once below_once
  once_is zero absent v rs m = refl
  once_is (suc left) absent v rs m = refl

  -- ---- what holds throughout

  pub record AllDone (m : Marks) (rs : List Row) : Type 0 where
    pub done : (u h : ℕ) → m u ≡ below h → Done at limit h u rs

  sound_grows : (m : Marks) (rs rs₁ : List Row) → Grows rs rs₁ → AllDone m rs → AllDone m rs₁
  sound_grows m rs rs₁ g s = record { done = λ u h e. done_grows at limit rs₁ g (s.done u h e) }

  -- each text that is being walked is at one that is being walked too, or at v
  pub record Open (m : Marks) (rs : List Row) (v : ℕ) : Type 0 where
    pub frame : (u : ℕ) → m u ≡ reading → (x : ℕ) × Frame at limit u x rs × ((m x ≡ reading) ⊎ (x ≡ v))

  pub record SameOpen (m m₁ : Marks) : Type 0 where
    pub there : (u : ℕ) → m u ≡ reading → m₁ u ≡ reading
    pub back : (u : ℕ) → m₁ u ≡ reading → m u ≡ reading

  -- v was walked: rows, marks and includes below, beside what the plain walk gives
  pub record WalkedThrough (m : Marks) (rs : List Row) (v : ℕ) (rs₁ : List Row) (m₁ : Marks) (h : ℕ) (plain : Out Row) : Type 0 where
    pub same : plain ≡ built rs₁
    pub grows : Grows rs rs₁
    pub sound : AllDone m₁ rs₁
    pub opens : SameOpen m m₁
    pub its : m₁ v ≡ below h

  abbrev pub Right : (m : Marks) (rs : List Row) (v : ℕ) → Went → Out Row → Type 0
  Right m rs v (walked rs₁ m₁ h) plain = WalkedThrough m rs v rs₁ m₁ h plain
  Right m rs v (halted n a) plain = plain ≡ refused n a

  -- some includes of v were walked
  record Along (imports : List ℕ) (m : Marks) (rs : List Row) (v : ℕ) (cs : List ℕ) (rs₁ : List Row) (m₁ : Marks) (h : ℕ) (plain : Out Row) : Type 0 where
    same : plain ≡ built rs₁
    grows : Grows rs rs₁
    sound : AllDone m₁ rs₁
    opens : SameOpen m m₁
    gone : Gone at limit v rs₁ cs h
    imported : Imported imports v rs₁

  abbrev RightAlong : (imports : List ℕ) (m : Marks) (rs : List Row) (v : ℕ) (cs : List ℕ) → Went → Out Row → Type 0
  RightAlong imports m rs v cs (walked rs₁ m₁ h) plain = Along imports m rs v cs rs₁ m₁ h plain
  RightAlong imports m rs v cs (halted n a) plain = plain ≡ refused n a

  -- v is being walked, the includes `before` are done
  record At (imports before cs : List ℕ) (h v : ℕ) (rs : List Row) (m : Marks) : Type 0 where
    text : at v ≡ codes imports (before ++ cs)
    imported : Imported imports v rs
    gone : Gone at limit v rs before h
    sound : AllDone m rs
    its : m v ≡ reading
    others : (u : ℕ) → m u ≡ reading → (u ≡ v → ⊥) → (x : ℕ) × Frame at limit u x rs × (m x ≡ reading)

  -- what is asked when v goes to its include u
  opened : (imports before cs : List ℕ) (h v u : ℕ) (rs : List Row) (m : Marks) → At imports before (suc (suc u) ∷ cs) h v rs m → (rs₁ : List Row)
      → Added (row u v) rs rs₁ → Open m rs₁ u
  opened imports before cs h v u rs m a rs₁ d = record { frame = λ w e. go w e (eqb w v) refl }
    where
      mine : Frame at limit v u rs₁
      mine = record {
        imports = imports;
        before = before;
        after = cs;
        height = h;
        text = a.text;
        imported = imported_grows imports v rs rs₁ d.grows a.imported;
        gone = gone_grows at limit rs₁ d.grows a.gone;
        there = d.there;
      }

      go : (w : ℕ) → m w ≡ reading → (b : Bool) → eqb w v ≡ b → (x : ℕ) × Frame at limit w x rs₁ × ((m x ≡ reading) ⊎ (x ≡ u))
      go w e true q = (u, subst (λ (z : ℕ). Frame at limit z u rs₁) (sym (eqb-true w v q)) mine, inr refl)
      go w e false q = let o = a.others w e (eqb-false w v q) in (o.0, frame_grows at limit rs₁ d.grows o.1, inl o.2)

  -- the next include
  next : (imports before cs : List ℕ) (h v u : ℕ) (rs : List Row) (m : Marks) → At imports before (suc (suc u) ∷ cs) h v rs m → (rs₁ : List Row)
      → Added (row u v) rs rs₁ → (rs₂ : List Row) (m₂ : Marks) (k : ℕ) {plain : Out Row} → WalkedThrough m rs₁ u rs₂ m₂ k plain
      → At imports (before ++ (suc (suc u) ∷ [])) cs (raised h k) v rs₂ m₂
  next imports before cs h v u rs m a rs₁ d rs₂ m₂ k t = record {
    text = a.text ∙ ap (codes imports) (sym (append_assoc before (suc (suc u) ∷ []) cs));
    imported = imported_grows imports v rs rs₂ grow a.imported;
    gone = more (gone_grows at limit rs₂ grow a.gone) u k (t.grows (row u v) d.there) (t.sound.done u k t.its);
    sound = t.sound;
    its = t.opens.there v a.its;
    others = λ w e n. let o = a.others w (t.opens.back w e) n in (o.0, frame_grows at limit rs₂ grow o.1, t.opens.there o.0 o.2);
  }
    where
      grow : Grows rs rs₂
      grow r p = t.grows r (d.grows r p)

  -- the walk of an included text is right
  abbrev RightBelow : (left : ℕ) → Type 0
  RightBelow left = (u : ℕ) (rs : List Row) (m : Marks) → AllDone m rs → Open m rs u → Right m rs u (below_once at limit left u rs m) (under at limit left u rs)

  -- all includes of v, from those that are done on
  along : (left : ℕ) → RightBelow left → (imports before cs : List ℕ) (h v : ℕ) (rs : List Row) (m : Marks) → At imports before cs h v rs m
      → RightAlong imports m rs v (before ++ cs)
      (includes_once limit (below_once at limit left) v cs rs m h) (each_o (include_code limit (under at limit left) v) cs rs)
  unfolding includes_once each_o
  along left right imports before [] h v rs m a = record {
    same = refl;
    grows = same_rows rs;
    sound = a.sound;
    opens = record { there = λ u e. e; back = λ u e. e };
    gone = subst (λ (cs : List ℕ). Gone at limit v rs cs h) (sym (append-nil before)) a.gone;
    imported = a.imported;
  }
  along left right imports before (zero ∷ cs) h v rs m a = refl
  along left right imports before (suc zero ∷ cs) h v rs m a = refl
  along left right imports before (suc (suc u) ∷ cs) h v rs m a =
      go (add_row limit rs (row u v)) (added limit (row u v) rs) (λ k rs₂ m₂ b. along left right imports (before ++ (suc (suc u) ∷ [])) cs k v rs₂ m₂ b)
    where
      on : List Row → Marks → ℕ → Went
      on rs₂ m₂ k = includes_once limit (below_once at limit left) v cs rs₂ m₂ k

      on_plain : List Row → Out Row
      on_plain rs₂ = each_o (include_code limit (under at limit left) v) cs rs₂

      Rest : Type 0
      Rest = (k : ℕ) (rs₂ : List Row) (m₂ : Marks) → At imports (before ++ (suc (suc u) ∷ [])) cs k v rs₂ m₂
          → RightAlong imports m₂ rs₂ v ((before ++ (suc (suc u) ∷ [])) ++ cs) (on rs₂ m₂ k) (on_plain rs₂)

      joined : (w : Went) (p : Out Row) (rs₂ : List Row) (m₂ : Marks) → Grows rs rs₂ → SameOpen m m₂
          → RightAlong imports m₂ rs₂ v ((before ++ (suc (suc u) ∷ [])) ++ cs) w p → RightAlong imports m rs v (before ++ (suc (suc u) ∷ cs)) w p
      joined (walked rs₃ m₃ k) p rs₂ m₂ g o r = record {
        same = r.same;
        grows = λ x q. r.grows x (g x q);
        sound = r.sound;
        opens = record { there = λ x e. r.opens.there x (o.there x e); back = λ x e. o.back x (r.opens.back x e) };
        gone = subst (λ (l : List ℕ). Gone at limit v rs₃ l k) (append_assoc before (suc (suc u) ∷ []) cs) r.gone;
        imported = r.imported;
      }
      joined (halted n x) p rs₂ m₂ g o r = r

      inside : (rs₁ : List Row) → Added (row u v) rs rs₁ → Rest → (w : Went) (p : Out Row) → Right m rs₁ u w p
          → RightAlong imports m rs v (before ++ (suc (suc u) ∷ cs)) (then_w w (λ rs₂ m₂ k. on rs₂ m₂ (raised h k))) (then_o p on_plain)
      inside rs₁ d rest (walked rs₂ m₂ k) p t =
          rw t.same (joined (on rs₂ m₂ (raised h k)) (on_plain rs₂) rs₂ m₂ (λ x q. t.grows x (d.grows x q)) t.opens
          (rest (raised h k) rs₂ m₂ (next imports before cs h v u rs m a rs₁ d rs₂ m₂ k t)))
      inside rs₁ d rest (halted n x) p t = rw t refl

      go : (o : Out Row) → OnBuilt o (Added (row u v) rs) → Rest
          → RightAlong imports m rs v (before ++ (suc (suc u) ∷ cs))
          (then_w (then_rows o (λ rs₁. below_once at limit left u rs₁ m)) (λ rs₂ m₂ k. on rs₂ m₂ (raised h k)))
          (then_o (then_o o (under at limit left u)) on_plain)
      go (built rs₁) d rest =
          inside rs₁ d rest (below_once at limit left u rs₁ m) (under at limit left u rs₁)
          (right u rs₁ m (sound_grows m rs rs₁ d.grows a.sound) (opened imports before cs h v u rs m a rs₁ d))
      go (refused n x) d rest = refl

  -- ---- a text that is not read yet

  not_reading : {A : Type 0} {x : Mark} → x ≡ unread → x ≡ reading → A
  not_reading p q = both_bools (ap is_reading q) (ap is_reading p)

  -- where v begins: its imports are done
  begun : (imports includes : List ℕ) (v : ℕ) (rs : List Row) (m : Marks) → at v ≡ codes imports includes → m v ≡ unread → AllDone m rs → Open m rs v
      → (rs₁ : List Row) → Imports imports v rs rs₁ → At imports [] includes 0 v rs₁ (mark m v reading)
  begun imports includes v rs m e f s o rs₁ i = record {
    text = e;
    imported = i.there;
    gone = none;
    its = mark_here m v reading;
    sound = record { done = λ u h q. done_grows at limit rs₁ i.grows (s.done u h (kept u h q)) };
    others = λ u q n. let k = o.frame u (sym (mark_other m v reading u n) ∙ q) in (k.0, frame_grows at limit rs₁ i.grows k.1, still k.0 k.2);
  }
    where
      kept : (u h : ℕ) → mark m v reading u ≡ below h → m u ≡ below h
      kept u h q = ⊎_elim (λ c. both_bools refl (ap is_reading c.1)) (λ c. c.1) (mark_cases m v reading u q)

      still : (x : ℕ) → (m x ≡ reading) ⊎ (x ≡ v) → mark m v reading x ≡ reading
      still x (inr p) = subst (λ (w : ℕ). mark m v reading w ≡ reading) (sym p) (mark_here m v reading)
      still x (inl q) = mark_other m v reading x (λ p. not_reading f (subst (λ (w : ℕ). m w ≡ reading) p q)) ∙ q

  -- where it ends
  finished : (imports includes : List ℕ) (v : ℕ) (rs : List Row) (m : Marks) → at v ≡ codes imports includes → m v ≡ unread → (rs₁ : List Row)
      → Grows rs rs₁ → (w : Went) (p : Out Row) → RightAlong imports (mark m v reading) rs₁ v includes w p → Right m rs v (then_w w (ended v)) p
  finished imports includes v rs m e f rs₁ g (walked rs₂ m₂ h) p a = record {
    same = a.same;
    grows = λ r q. a.grows r (g r q);
    its = mark_here m₂ v (below h);
    sound = record { done = λ u k q. ⊎_elim (here u k) (λ c. a.sound.done u k c.1) (mark_cases m₂ v (below h) u q) };
    opens = record { there = forth; back = backward };
  }
    where
      here : (u k : ℕ) → (u ≡ v) × (below h ≡ below k) → Done at limit k u rs₂
      here u k c =
          let e₁ : h ≡ k = cc c.1 in
          subst₂ (λ y w. Done at limit y w rs₂) e₁ (sym c.0) (text_done at limit v imports includes h rs₂ e a.imported a.gone)

      forth : (u : ℕ) → m u ≡ reading → mark m₂ v (below h) u ≡ reading
      forth u q =
          let n : u ≡ v → ⊥ = λ p. not_reading f (subst (λ (w : ℕ). m w ≡ reading) p q) in
          mark_other m₂ v (below h) u n ∙ a.opens.there u (mark_other m v reading u n ∙ q)

      backward : (u : ℕ) → mark m₂ v (below h) u ≡ reading → m u ≡ reading
      backward u q =
          ⊎_elim (λ c. both_bools refl (ap is_below c.1)) (λ c. sym (mark_other m v reading u c.0) ∙ a.opens.back u c.1)
          (mark_cases m₂ v (below h) u q)
  finished imports includes v rs m e f rs₁ g (halted n x) p a = a

  visited : (left : ℕ) → RightBelow left → (absent v : ℕ) (rs : List Row) (m : Marks) → m v ≡ unread → AllDone m rs → Open m rs v → (c : Codes) → at v ≡ c
      → Right m rs v (visit_once limit (below_once at limit left) absent v c rs m) (visit_codes limit (under at limit left) absent v c rs)
  visited left right absent v rs m f s o no_text e = refl
  visited left right absent v rs m f s o (refused_scan a) e = refl
  visited left right absent v rs m f s o (codes imports includes) e = go (each_o (import_code limit v) imports rs) (imports_done limit v imports rs)
    where
      all : List Row → Went
      all rs₁ = includes_once limit (below_once at limit left) v includes rs₁ (mark m v reading) 0

      all_plain : List Row → Out Row
      all_plain rs₁ = each_o (include_code limit (under at limit left) v) includes rs₁

      go : (x : Out Row) → OnBuilt x (Imports imports v rs) → Right m rs v (then_rows x (λ rs₁. then_w (all rs₁) (ended v))) (then_o x all_plain)
      go (built rs₁) i =
          finished imports includes v rs m e f rs₁ i.grows (all rs₁) (all_plain rs₁)
          (along left right imports [] includes 0 v rs₁ (mark m v reading) (begun imports includes v rs m e f s o rs₁ i))
      go (refused n x) i = refl

  -- ---- any text, by its mark

  by_mark : (left absent v : ℕ) (rs : List Row) (m : Marks) → AllDone m rs → Open m rs v → (x : Mark) → m v ≡ x → (w : Went)
      → (m v ≡ unread → Right m rs v w (walk_codes at limit left absent v rs)) → Right m rs v (met x left rs m w) (walk_codes at limit left absent v rs)
  by_mark left absent v rs m s o unread e w r = r e
  by_mark left absent v rs m s o reading e w r = stuck at limit (λ u. m u ≡ reading) rs on left absent v e rs (same_rows rs)
    where
      on : (u : ℕ) → m u ≡ reading → (x : ℕ) × Frame at limit u x rs × (m x ≡ reading)
      on u q = let k = o.frame u q in (k.0, k.1, go k.0 k.2)
        where
          go : (x : ℕ) → (m x ≡ reading) ⊎ (x ≡ v) → m x ≡ reading
          go x (inl p) = p
          go x (inr p) = subst (λ (z : ℕ). m z ≡ reading) (sym p) e
  by_mark left absent v rs m s o (below h) e w r = go (leb h left) ((s.done v h e).again left absent rs (same_rows rs))
    where
      go : (b : Bool) → walk_codes at limit left absent v rs ≡ cond b (built rs) deep
          → Right m rs v (cond b (walked rs m h) (halted too_deep no_refusal)) (walk_codes at limit left absent v rs)
      go true q = record { same = q; grows = same_rows rs; sound = s; opens = record { there = λ u p. p; back = λ u p. p }; its = e }
      go false q = q

  from_below : (left : ℕ) → RightBelow left → (absent v : ℕ) (rs : List Row) (m : Marks) → AllDone m rs → Open m rs v
      → Right m rs v (walk_once at limit left absent v rs m) (walk_codes at limit left absent v rs)
  from_below left right absent v rs m s o =
      rw (once_is left absent v rs m) (by_mark left absent v rs m s o (m v) refl (visit_once limit (below_once at limit left) absent v (at v) rs m)
      (λ f. rw (plain_is at limit left absent v rs) (visited left right absent v rs m f s o (at v) refl)))

  pub once_right : (left absent v : ℕ) (rs : List Row) (m : Marks) → AllDone m rs → Open m rs v
      → Right m rs v (walk_once at limit left absent v rs m) (walk_codes at limit left absent v rs)
  unfolding below_once
  once_right zero = from_below zero (λ u rs m s o. refl)
  once_right (suc left) = from_below (suc left) (once_right left no_included_text)

  -- ---- entries, one after another

  -- before the first entry nothing is read
  pub at_first : Between at limit nothing_read []
  at_first = record { done = λ u h e. both_bools refl (ap is_below (sym e)); closed = λ u e. both_bools refl (ap is_reading (sym e)) }

  -- between entries nothing is being walked: what an entry leaves is what the next one asks
  pub entry_right : (absent v : ℕ) (rs : List Row) (m : Marks) → Between at limit m rs → (left : ℕ)
      → Right m rs v (walk_once at limit left absent v rs m) (walk_codes at limit left absent v rs)
  entry_right absent v rs m b left =
      once_right left absent v rs m (record { done = b.done }) (record { frame = λ u e. absurd (b.closed u e) })

  pub between_through : {v : ℕ} {rs rs₁ : List Row} {m m₁ : Marks} {h : ℕ} {plain : Out Row} → Between at limit m rs → WalkedThrough m rs v rs₁ m₁ h plain
      → Between at limit m₁ rs₁
  between_through b t = record { done = t.sound.done; closed = λ u e. b.closed u (t.opens.back u e) }

  pub between_grows : (m : Marks) (rs rs₁ : List Row) → Grows rs rs₁ → Between at limit m rs → Between at limit m rs₁
  between_grows m rs rs₁ g b = record { done = (sound_grows m rs rs₁ g (record { done = b.done })).done; closed = b.closed }
