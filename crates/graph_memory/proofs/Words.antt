-- The words of the memory as marks: what is put down is the mark of one node and no other, and what lies above stays.
-- Assumes nothing.
use Prim.Native.Nat.{ℕ, ◌+◌, ◌-◌, ◌*◌, ◌≤◌, ◌<◌, max}
use mathlib.Core.Path.{◌≡◌, refl, sym, ap, ap₂, ◌∙◌, fun_ext}
use mathlib.Core.Bool.{Bool, true, false, cond, true≢false}
use mathlib.Core.List.{List}
use native.Mathlib.Omega.{arith}
use lib.Dec.{eqb, ltb, leb}
use mir.Syntax.{w64}
use mir.Val.{Fits}
use lib.ListN.{length, get_or, set, drop, length-set}
use lib.Seq.{get_or-set_same, get_or-set_other, drop-set-lt, drop-drop}
use borrow.Author.Tests.{ltb-true, lt-ltb, leb-true, le-leb, lt-leb, eqb-true, eqb-false, ne_eqb}
use Rattle.text_lent.specs.Padded.{zeros}
use Rattle.text_lent.proofs.Zeros.{zeros_zero}
use Rattle.graph.specs.Limits.{most_nodes}
use Rattle.graph.specs.Graph.{deepest}
use Rattle.graph.specs.Once.{Mark, unread, reading, below, Marks, nothing_read, raised}
use Rattle.graph.proofs.Remembering.{is_below}
use Rattle.graph_memory.specs.Memory.{memory_words, mark_of, height_in, remembered, recalled, StaysRead, Remembers}
use Rattle.graph_memory.specs.declared.Recalled.{Recalled}
use Rattle.graph_memory.specs.declared.Recalled.TheVariants.{Unread, Known, TooDeep}

-- lists that agree from a on agree from b on
pub later : (a b : ℕ) (x y : List ℕ) → a ≤ b → drop a x ≡ drop a y → drop b x ≡ drop b y
later a b x y h e = let q : a + (b - a) ≡ b = omega arith in rw (← q, ← drop-drop (b - a) a x, ← drop-drop (b - a) a y, e)

-- ---- the mark of a node

abbrev height_of : Mark → ℕ
height_of (below h) = h
height_of unread = 0
height_of reading = 0

pub node_mark : (levels : List ℕ) (v : ℕ) → v < most_nodes → remembered levels v ≡ mark_of (get_or levels (v * 2) 0) (height_in levels v)
unfolding remembered
node_mark levels v l = rw (lt-ltb v most_nodes l) refl

-- words that are the same up to the end of the memory
pub same_memory : (levels after : List ℕ) → ((j : ℕ) → j < memory_words → get_or after j 0 ≡ get_or levels j 0) → remembered after ≡ remembered levels
unfolding remembered
same_memory levels after e = fun_ext (λ u. go u (ltb u most_nodes) refl)
  where
    go : (u : ℕ) (b : Bool) → ltb u most_nodes ≡ b
        → cond b (mark_of (get_or after (u * 2) 0) (height_in after u)) unread ≡ cond b (mark_of (get_or levels (u * 2) 0) (height_in levels u)) unread
    go u true q =
        let l : u < most_nodes = ltb-true u most_nodes q in
        ap₂ mark_of (e (u * 2) (omega arith)) (e (u * 2 + 1) (omega arith))
    go u false q = refl

-- nothing is read where all words are 0
pub blank : (levels : List ℕ) (n : ℕ) → levels ≡ zeros n → remembered levels ≡ nothing_read
unfolding remembered
blank levels n z = fun_ext (λ u. go u (ltb u most_nodes) (ap (λ (l : List ℕ). get_or l (u * 2) 0) z ∙ zeros_zero n (u * 2)))
  where
    go : (u : ℕ) (b : Bool) → get_or levels (u * 2) 0 ≡ 0 → cond b (mark_of (get_or levels (u * 2) 0) (height_in levels u)) unread ≡ unread
    go u true q = rw q refl
    go u false q = refl

-- ---- the ways out of `recall`

abbrev pub is_known : Recalled → Bool
is_known Known = true
is_known Unread = false
is_known TooDeep = false

no_unread : Known ≡ Unread → ⊥
no_unread q = true≢false (ap is_known q)

no_deep : Known ≡ TooDeep → ⊥
no_deep q = true≢false (ap is_known q)

module _ (levels : List ℕ) (left v at : ℕ) (z : at ≡ v * 2) (l : v < most_nodes) where
  its : remembered levels v ≡ mark_of (get_or levels at 0) (get_or levels (at + 1) 0)
  its = rw z (node_mark levels v l)

  pub recall_unread : get_or levels at 0 ≡ 0 → Unread ≡ recalled left (remembered levels v)
  recall_unread e = rw (its, e) refl

  pub recall_circle : get_or levels at 0 ≡ 1 → TooDeep ≡ recalled left (remembered levels v)
  recall_circle e = rw (its, e) refl

  module _ (p : get_or levels at 0 ≡ 0 → ⊥) (q : get_or levels at 0 ≡ 1 → ⊥) (h : ℕ) (y : h ≡ get_or levels (at + 1) 0) where
    walked_mark : remembered levels v ≡ below h
    walked_mark = its ∙ rw (ne_eqb (get_or levels at 0) 0 p, ne_eqb (get_or levels at 0) 1 q, y) refl

    pub recall_deep : left < h → TooDeep ≡ recalled left (remembered levels v)
    recall_deep k = rw (walked_mark, lt-leb h left k) refl

    pub recall_known : h ≤ left → Known ≡ recalled left (remembered levels v)
    recall_known k = rw (walked_mark, le-leb h left k) refl

-- what is known: how many includes lie below it, and that there is so much depth left
pub known_height : (levels : List ℕ) (left v : ℕ) → v < most_nodes → Known ≡ recalled left (remembered levels v)
    → (remembered levels v ≡ below (height_in levels v)) × (height_in levels v ≤ left)
known_height levels left v l k = go (eqb (get_or levels (v * 2) 0) 0) (eqb (get_or levels (v * 2) 0) 1) (leb (height_in levels v) left) refl
    (node_mark levels v l)
    (k ∙ ap (recalled left) (node_mark levels v l))
  where
    go : (a b c : Bool) → leb (height_in levels v) left ≡ c → remembered levels v ≡ cond a unread (cond b reading (below (height_in levels v)))
        → Known ≡ recalled left (cond a unread (cond b reading (below (height_in levels v))))
        → (remembered levels v ≡ below (height_in levels v)) × (height_in levels v ≤ left)
    go true b c t e q = absurd (no_unread q)
    go false true c t e q = absurd (no_deep q)
    go false false true t e q = (e, leb-true (height_in levels v) left t)
    go false false false t e q = absurd (no_deep (q ∙ ap (λ (d : Bool). cond d Known TooDeep) t))

-- ---- the ways out of `raise`

module _ (levels : List ℕ) (u at : ℕ) (z : at ≡ u * 2) (h : ℕ) (y : h ≡ get_or levels (at + 1) 0) where
  its_own : h ≡ height_in levels u
  its_own = y ∙ ap (λ (j : ℕ). get_or levels (j + 1) 0) z

  pub raise_fits : height_in levels u ≤ deepest → Fits w64 (h + 1)
  raise_fits k = record { fits = omega (arith, its_own) }

  pub by_either : (most : ℕ) {r : ℕ} → r ≡ max most (h + 1) → r ≡ raised most (height_in levels u)
  by_either most k = omega (arith, its_own)

-- ---- the way out of `remember`

module _ (levels : List ℕ) (v state h at : ℕ) (r : memory_words ≤ length levels) (l : v < most_nodes) (z : at ≡ v * 2) where
  abbrev pub after : List ℕ
  after = set (set levels at state) (at + 1) h

  pub second_in : at + 1 < length (set levels at state)
  second_in = let q : length (set levels at state) ≡ length levels = length-set levels at state in omega arith

  its_state : get_or after (v * 2) 0 ≡ state
  its_state =
      get_or-set_other (set levels at state) (at + 1) (v * 2) h 0 (λ e. omega arith) ∙ ap (λ (j : ℕ). get_or (set levels at state) j 0) (sym z)
      ∙ get_or-set_same levels at state 0 (omega arith)

  its_height : height_in after v ≡ h
  its_height = ap (λ (j : ℕ). get_or after (j + 1) 0) (sym z) ∙ get_or-set_same (set levels at state) (at + 1) h 0 second_in

  other_word : (j : ℕ) → (j ≡ at → ⊥) → (j ≡ at + 1 → ⊥) → get_or after j 0 ≡ get_or levels j 0
  other_word j p q = get_or-set_other (set levels at state) (at + 1) j h 0 q ∙ get_or-set_other levels at j state 0 p

  marked : (u : ℕ) (b : Bool) → eqb u v ≡ b → remembered after u ≡ cond b (mark_of state h) (remembered levels u)
  unfolding remembered
  marked u true e =
      let q : u ≡ v = eqb-true u v e in
      ap (remembered after) q ∙ node_mark after v l ∙ ap₂ mark_of its_state its_height
  marked u false e =
      let n : (u ≡ v → ⊥) = eqb-false u v e in
      ap₂ (λ (a b : ℕ). cond (ltb u most_nodes) (mark_of a b) unread) (other_word (u * 2) (λ p. n (omega arith)) (λ p. omega arith))
      (other_word (u * 2 + 1) (λ p. omega arith) (λ p. n (omega arith)))

  pub remembers : Remembers levels v (mark_of state h) after
  remembers = record {
    marks = fun_ext (λ u. marked u (eqb u v) refl);
    above = drop-set-lt memory_words (set levels at state) (at + 1) h (omega arith) ∙ drop-set-lt memory_words levels at state (omega arith);
    long = length-set (set levels at state) (at + 1) h ∙ length-set levels at state;
  }

-- how many includes lie below a text that was walked
pub below_height : (levels : List ℕ) (v h : ℕ) → v < most_nodes → remembered levels v ≡ below h → height_in levels v ≡ h
below_height levels v h l e = go (eqb (get_or levels (v * 2) 0) 0) (eqb (get_or levels (v * 2) 0) 1) (sym (node_mark levels v l) ∙ e)
  where
    go : (a b : Bool) → cond a unread (cond b reading (below (height_in levels v))) ≡ below h → height_in levels v ≡ h
    go true b q = absurd (true≢false (sym (ap is_below q)))
    go false true q = absurd (true≢false (sym (ap is_below q)))
    go false false q = ap height_of q

-- ---- what stays read

pub stays_same : (levels : List ℕ) → StaysRead levels levels
stays_same levels = record { unread_before = λ u e. e }

pub stays_on : {levels after later : List ℕ} → StaysRead levels after → StaysRead after later → StaysRead levels later
stays_on p q = record { unread_before = λ u e. p.unread_before u (q.unread_before u e) }

-- what has the same marks
pub stays_equal : (levels after : List ℕ) → remembered after ≡ remembered levels → StaysRead levels after
stays_equal levels after q = record { unread_before = λ u e. ap (λ (m : Marks). m u) (sym q) ∙ e }

pub stays_marked : {levels : List ℕ} {v : ℕ} {x : Mark} {after : List ℕ} → Remembers levels v x after → (x ≡ unread → ⊥) → StaysRead levels after
stays_marked {levels} {v} {x} g n = record { unread_before = λ u e. go u (eqb u v) (ap (λ (m : Marks). m u) (sym g.marks) ∙ e) }
  where
    go : (u : ℕ) (b : Bool) → cond b x (remembered levels u) ≡ unread → remembered levels u ≡ unread
    go u true q = absurd (n q)
    go u false q = q
