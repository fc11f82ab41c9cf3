-- The values of the metadata scan: each stands in the store as it stands behind its keyword; of the statements with the keyword the last one counts, of prefix
-- and revision the first.
-- Assumes nothing.
use Rattle.std.specs.Prelude.{None, Ok, Err, Result}
use Prim.Native.Nat.{ℕ, zero, suc, ◌+◌, ◌-◌, ◌<◌}
use mathlib.Core.Path.{◌≡◌, refl, sym, ap, subst, ◌∙◌}
use mathlib.Core.Logic.{◌⊎◌, inl, inr, ⊎_elim}
use mathlib.Core.Bool.{Bool, true, false, cond}
use mathlib.Core.List.{List, [], ◌∷◌, ◌++◌, append-nil, append_assoc}
use native.Mathlib.Nat.{not-suc-le-zero}
use native.Mathlib.Omega.{arith}
use lib.ListN.{length}
use Rattle.text.specs.Keyword.{match_at}
use Rattle.text.specs.Scan.{gap_end}
use Rattle.text.specs.Turns.{stop, on}
use Rattle.text.specs.Words.{module_word, submodule_word, belongs_to_word, namespace_word, prefix_word, revision_word}
use Rattle.text.specs.declared.Refusal.{Refusal}
use Rattle.scan_rows.specs.Rows.{Each}
use Rattle.scan_rows.specs.declared.Span.{Span}
use Rattle.scan_rows.proofs.Laws.{each_of}
use Rattle.scan_newest.specs.Newest.{Revision}
use Rattle.scan_header.specs.declared.Heard.{Heard}
use Rattle.scan_header.specs.declared.Heard.TheVariants.{Value, Passed, Done}
use Rattle.scan_metadata.specs.Metadata.{Metadata, told, Reading, Scan, good, bad, ended, after_heard, metadata_turn, scan_from, scanned}
use Rattle.scan_metadata.proofs.ScanLaws.{heard, turn_falls, scan_value, scan_passed, scan_done, scan_refused_lem}
use Rattle.demands_values.specs.Behind.{Behind, begin, Unmet, Met, MetFirst, NameRead}
use Rattle.demands_values.proofs.Walks.{Won, unmet_stop, unmet_on, met_on, behind_here, behind_later}
use Rattle.demands_values.proofs.Walks.{met_here, won_on, first_here, first_on, reach_at}
use Rattle.demands_values.proofs.HeaderTurns.{Frees, WordGives, Turns, HeardHas, said_has}

-- ---- all of them; d: what was told at the end

module _ (s : List ℕ) where
  abbrev WordUnmet : List ℕ → Reading → Type 0
  WordUnmet word g = Unmet (metadata_turn false s) (λ b. b.at) s word g

  abbrev WordMet : List ℕ → List ℕ → Reading → Span → Type 0
  WordMet word store g x = Met (metadata_turn false s) (λ b. b.at) s word store g x

  abbrev WordFirst : List ℕ → List ℕ → Reading → Span → Type 0
  WordFirst word store g x = MetFirst (metadata_turn false s) (λ b. b.at) s word store g x

  -- the revisions that are read from the state g on
  unfoldable pub Revised : List ℕ → Reading → List Revision → Type 0
  Revised store g [] = WordUnmet revision_word g
  Revised store g (r ∷ rs) = WordFirst revision_word store g r.span × Each (λ q. WordMet revision_word store g q.span) rs

  pub record Ends (d : Metadata) (g : Reading) : Type 0 where
    pub rest : List ℕ
    pub grown : d.bytes ≡ g.read.bytes ++ rest
    pub name : ((d.name ≡ g.read.name) × WordUnmet module_word g × WordUnmet submodule_word g) ⊎ NameRead s d.bytes g d.name
    pub namespace : Won (metadata_turn false s) (λ b. b.at) s namespace_word g d.bytes g.read.namespace d.namespace
    pub parent : Won (metadata_turn false s) (λ b. b.at) s belongs_to_word g d.bytes g.read.parent d.parent
    pub prefix_kept : g.read.prefix.present ≡ true → d.prefix ≡ g.read.prefix
    pub prefix : g.read.prefix.present ≡ false → ((d.prefix ≡ g.read.prefix) × WordUnmet prefix_word g) ⊎ WordFirst prefix_word d.bytes g d.prefix
    pub new : List Revision
    pub revisions : d.revisions ≡ g.read.revisions ++ new
    pub revised : Revised d.bytes g new

  forward : (g h : Reading) → metadata_turn false s g ≡ on h → g.at < h.at
  forward g h t = omega (arith, turn_falls false s g h t)

  -- where the scan stops
  ends_stop : (g : Reading) (x : Scan) → metadata_turn false s g ≡ stop x → Frees s (gap_end s g.at) → Ends g.read g
  unfolding Revised
  ends_stop g x t f =
      let unmet : (word : List ℕ) → match_at s (gap_end s g.at) word ≡ None → WordUnmet word g
      = λ word. unmet_stop (metadata_turn false s) (λ b. b.at) forward s word t in
      record {
        rest = [];
        grown = sym (append-nil g.read.bytes);
        name = inl (refl, unmet module_word f.module_not, unmet submodule_word f.submodule_not);
        namespace = inl (refl, unmet namespace_word f.namespace_not);
        parent = inl (refl, unmet belongs_to_word f.parent_not);
        prefix_kept = λ e. refl;
        prefix = λ e. inl (refl, unmet prefix_word f.prefix_not);
        new = [];
        revisions = sym (append-nil g.read.revisions);
        revised = unmet revision_word f.revision_not;
      }

  -- over a turn from g to h
  module _ (d : Metadata) (g h : Reading) (t : metadata_turn false s g ≡ on h) (has : Turns s g h.read) (ends : Ends d h) where
    abbrev Free : List ℕ → Type 0
    Free word = match_at s (gap_end s g.at) word ≡ None

    unmet : (word : List ℕ) → Free word → WordUnmet word h → WordUnmet word g
    unmet word = unmet_on (metadata_turn false s) (λ b. b.at) forward s word t

    won : (word : List ℕ) (x y z : Span) → WordGives s word g h.read.bytes x y → Won (metadata_turn false s) (λ b. b.at) s word h d.bytes y z
        → Won (metadata_turn false s) (λ b. b.at) s word g d.bytes x z
    won word = won_on (metadata_turn false s) (λ b. b.at) forward s word t d.bytes h.read.bytes ends.rest ends.grown

    here : (word : List ℕ) (z : Span) → Behind s word (gap_end s g.at) h.read.bytes z → WordFirst word d.bytes g z
    here word = first_here (metadata_turn false s) (λ b. b.at) forward s word t d.bytes h.read.bytes ends.rest ends.grown

    later : (word : List ℕ) → Free word → (z : Span) → WordFirst word d.bytes h z → WordFirst word d.bytes g z
    later word = first_on (metadata_turn false s) (λ b. b.at) forward s word t d.bytes h.read.bytes ends.rest ends.grown

    -- the name, behind either keyword
    name_given : (d.name ≡ h.read.name) × WordUnmet module_word h × WordUnmet submodule_word h → (word : List ℕ) → (word ≡ module_word) ⊎ (word ≡ submodule_word)
        → Behind s word (gap_end s g.at) h.read.bytes h.read.name → NameRead s d.bytes g d.name
    name_given stays word either b = record {
      word = word;
      either = either;
      met =
          met_here (metadata_turn false s) (λ b. b.at) forward s word t d.bytes h.read.bytes ends.rest ends.grown d.name
          (subst (Behind s word (gap_end s g.at) h.read.bytes) (sym stays.0) b);
      no_module = behind_here (metadata_turn false s) (λ b. b.at) forward s module_word t stays.1;
      no_submodule = behind_here (metadata_turn false s) (λ b. b.at) forward s submodule_word t stays.2;
    }

    name_later : NameRead s d.bytes h d.name → NameRead s d.bytes g d.name
    name_later n =
        let l = reach_at (metadata_turn false s) (λ b. b.at) forward n.met.reached in
        record {
          word = n.word;
          either = n.either;
          met = met_on (metadata_turn false s) (λ b. b.at) forward s n.word t n.met;
          no_module = behind_later (metadata_turn false s) (λ b. b.at) forward s module_word t l n.no_module;
          no_submodule = behind_later (metadata_turn false s) (λ b. b.at) forward s submodule_word t l n.no_submodule;
        }

    name_on : ((d.name ≡ g.read.name) × WordUnmet module_word g × WordUnmet submodule_word g) ⊎ NameRead s d.bytes g d.name
    name_on =
        ⊎_elim (λ stays. ⊎_elim (λ b. inr (name_given stays b.0 b.1 b.2))
        (λ n. inl (stays.0 ∙ n.2, unmet module_word n.0 stays.1, unmet submodule_word n.1 stays.2)) has.name)
        (λ n. inr (name_later n)) ends.name

    -- the prefix, if none was read before
    prefix_on : g.read.prefix.present ≡ false → ((d.prefix ≡ g.read.prefix) × WordUnmet prefix_word g) ⊎ WordFirst prefix_word d.bytes g d.prefix
    prefix_on f =
        ⊎_elim (λ b. inr (here prefix_word d.prefix
        (subst (Behind s prefix_word (gap_end s g.at) h.read.bytes) (sym (ends.prefix_kept b.present)) b)))
        (λ n. ⊎_elim (λ e. inl (e.0 ∙ n.1, unmet prefix_word n.0 e.1)) (λ m. inr (later prefix_word n.0 d.prefix m))
        (ends.prefix (ap (λ x. x.present) n.1 ∙ f))) (has.prefix f)

    -- revisions
    mets : (rs : List Revision) → Each (λ q. WordMet revision_word d.bytes h q.span) rs → Each (λ q. WordMet revision_word d.bytes g q.span) rs
    mets rs m =
        each_of (λ q. WordMet revision_word d.bytes h q.span) (λ q. WordMet revision_word d.bytes g q.span)
        (λ q w. met_on (metadata_turn false s) (λ b. b.at) forward s revision_word t w) rs m

    revised_later : Free revision_word → (rs : List Revision) → Revised d.bytes h rs → Revised d.bytes g rs
    unfolding Revised
    revised_later n [] u = unmet revision_word n u
    revised_later n (r ∷ rs) w = (later revision_word n r.span w.0, mets rs w.1)

    revised_here : (r : Revision) → Behind s revision_word (gap_end s g.at) h.read.bytes r.span → (rs : List Revision) → Revised d.bytes h rs
        → Revised d.bytes g (r ∷ rs)
    unfolding Revised Each
    revised_here r b [] u = (here revision_word r.span b, tt)
    revised_here r b (q ∷ rs) w = (
      here revision_word r.span b,
      (met_on (metadata_turn false s) (λ b. b.at) forward s revision_word t w.0.0, mets rs w.1),
    )

    revisions_on : (new : List Revision) × (d.revisions ≡ g.read.revisions ++ new) × Revised d.bytes g new
    revisions_on =
        ⊎_elim
        (λ b. (
          b.0 ∷ ends.new,
          ends.revisions ∙ ap (λ l. l ++ ends.new) b.1 ∙ append_assoc g.read.revisions (b.0 ∷ []) ends.new,
          revised_here b.0 b.2 ends.new ends.revised,
        ))
        (λ n. (ends.new, ends.revisions ∙ ap (λ l. l ++ ends.new) n.0, revised_later n.1 ends.new ends.revised)) has.revision

    ends_on : Ends d g
    ends_on =
        let r = revisions_on in
        record {
          rest = has.part ++ ends.rest;
          grown = ends.grown ∙ ap (λ l. l ++ ends.rest) has.grown ∙ append_assoc g.read.bytes has.part ends.rest;
          name = name_on;
          namespace = won namespace_word g.read.namespace h.read.namespace d.namespace has.namespace ends.namespace;
          parent = won belongs_to_word g.read.parent h.read.parent d.parent has.parent ends.parent;
          prefix_kept = λ e. let k = has.prefix_kept e in ends.prefix_kept (ap (λ x. x.present) k ∙ e) ∙ k;
          prefix = prefix_on;
          new = r.0;
          revisions = r.1;
          revised = r.2;
        }

  ended_good : (m d : Metadata) (at : ℕ) → ended m at ≡ good d → m ≡ d
  unfolding ended
  ended_good m d at h = of m.name.present h
    where
      of : (t : Bool) → cond t (good m) (bad (record { number = 9; keyword = 0; at = at }) m.bytes) ≡ good d → m ≡ d
      of true e = cc
      of false e = let z : ◌≡◌ {A = ℕ} 0 1 = cc in absurd (omega arith)

  good_bad : {X : Type 0} {d : Metadata} {r : Refusal} {bs : List ℕ} → good d ≡ bad r bs → X
  good_bad h = let z : ◌≡◌ {A = ℕ} 0 1 = cc in absurd (omega arith)

  -- m: more than the bytes that are left
  from_ends : (d : Metadata) (m : ℕ) (g : Reading) → length s - g.at < m → scan_from false s g ≡ good d → Ends d g
  unfolding metadata_turn after_heard
  from_ends d zero g l e = absurd (not-suc-le-zero l)
  from_ends d (suc m) g l e = of (heard false s g).answer refl (said_has s g (length g.read.bytes) refl) (from_ends d m)
    where
      of : (r : Result Heard Refusal) → (heard false s g).answer ≡ r → HeardHas s g (heard false s g).bytes r
          → ((h : Reading) → length s - h.at < m → scan_from false s h ≡ good d → Ends d h) → Ends d g
      of (Ok (Value k x c n)) q has go =
          let h : Reading = record { at = c.at; read = told g.read k x (heard false s g).bytes } in
          let t : metadata_turn false s g ≡ on h = ap (after_heard g.read (heard false s g).bytes) q in
          ends_on d g h t has (go h (omega (arith, turn_falls false s g h t)) (sym (scan_value false s g k x c n q) ∙ e))
      of (Ok (Passed c)) q has go =
          let h : Reading = record { at = c.at; read = g.read } in
          let t : metadata_turn false s g ≡ on h = ap (after_heard g.read (heard false s g).bytes) q in
          ends_on d g h t has (go h (omega (arith, turn_falls false s g h t)) (sym (scan_passed false s g c q) ∙ e))
      of (Ok (Done c)) q has go =
          let k = ended_good g.read d c.at (sym (scan_done false s g c q) ∙ e) in
          subst (λ z. Ends z g) k (ends_stop g (ended g.read c.at) (ap (after_heard g.read (heard false s g).bytes) q) has)
      of (Err r) q has go = good_bad (sym e ∙ scan_refused_lem false s g r q)

  pub scan_ends : (d : Metadata) → scanned false s ≡ good d → Ends d begin
  unfolding scanned
  scan_ends d h = from_ends d (suc (length s)) begin (omega arith) h
