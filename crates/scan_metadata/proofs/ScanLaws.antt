-- The scan as a whole: each step comes nearer the text's end, so the turns end; each value lies in the bytes stored where its span says, and more
-- bytes behind change nothing of that, so it holds when the scan ends. w: the whole-text mode.
-- Assumes nothing.
use Rattle.std.specs.Prelude.{Ok, Err, Result}
use mathlib.Core.Path.{◌≡◌, refl, ap, subst, ◌∙◌}
use mathlib.Core.Bool.{Bool, true, false, cond}
use mathlib.Core.List.{List, [], ◌∷◌, ◌++◌}
use Prim.Native.Nat.{ℕ, suc, ◌+◌, ◌-◌, ◌<◌, ◌≤◌}
use native.Mathlib.Omega.{arith}
use lib.Dec.{eqb}
use lib.ListN.{length, take, length-append}
use lib.Seq.{take-length, drop-append_seam}
use Rattle.text.specs.Turns.{stop, on}
use Rattle.text.specs.declared.Cursor.{Cursor}
use Rattle.text.specs.declared.Refusal.{Refusal}
use Rattle.text.proofs.Here.{by_test}
use Rattle.text.proofs.Turns.{turns_stop, turns_on, turns_rule}
use Rattle.scan_rows.specs.Rows.{Each}
use Rattle.scan_rows.specs.Span.{held, value_in, Within}
use Rattle.scan_rows.specs.declared.Span.{Span}
use Rattle.scan_rows.proofs.Laws.{each_snoc, each_of}
use Rattle.scan_rows.proofs.Values.{value_more}
use Rattle.scan_newest.specs.Newest.{Revision, Read}
use Rattle.scan_newest.proofs.NewestLaws.{newest_within}
use Rattle.scan_header.specs.Header.{Said, said_at}
use Rattle.scan_header.specs.declared.Heard.{Heard}
use Rattle.scan_header.specs.declared.Heard.TheVariants.{Value, Passed, Done}
use Rattle.scan_header.proofs.SaidLaws.{said_value, said_passed, said_done, said_refused}
use Rattle.scan_metadata.specs.Metadata.{Metadata, nothing, told, first_of, values_of, Reading, Scan, good, bad, ended, after_heard, metadata_turn, scan_from}
use Rattle.scan_metadata.specs.Metadata.{scanned}
use Rattle.scan_metadata.proofs.ValuesLaws.{told_bytes}

-- ---- where the values lie

-- a revision that was read, with its value among the bytes
abbrev pub Kept : List ℕ → Revision → Type 0
Kept bytes r = Read r × Within (length bytes) r.span × (value_in bytes r.span ≡ r.value)

pub record Placed (m : Metadata) : Type 0 where
  pub name : Within (length m.bytes) m.name
  pub namespace : Within (length m.bytes) m.namespace
  pub prefix : Within (length m.bytes) m.prefix
  pub parent : Within (length m.bytes) m.parent
  pub revisions : Each (Kept m.bytes) m.revisions

-- the bytes bs behind
module _ (bytes bs : List ℕ) where
  within_more : (x : Span) → Within (length bytes) x → Within (length (bytes ++ bs)) x
  within_more x h = omega (arith, h, length-append bytes bs)

  kept_more : (r : Revision) → Kept bytes r → Kept (bytes ++ bs) r
  kept_more r h = (h.0, within_more r.span h.1, value_more bytes bs r.span h.1 ∙ h.2)

  pub each_more : (rs : List Revision) → Each (Kept bytes) rs → Each (Kept (bytes ++ bs)) rs
  each_more rs h = each_of (Kept bytes) (Kept (bytes ++ bs)) kept_more rs h

  -- they are a value themselves
  module _ (x : Span) (e : x ≡ held (length bytes) (length bs)) where
    pub within_new : Within (length (bytes ++ bs)) x
    within_new = rw e (omega (arith, length-append bytes bs))

    pub value_new : value_in (bytes ++ bs) x ≡ bs
    unfolding value_in
    value_new = rw e (ap (take (length bs)) (drop-append_seam bytes bs) ∙ take-length bs)

    kept_new : Kept (bytes ++ bs) (record { span = x; value = bs })
    kept_new = (ap (λ y. y.present) e, within_new, value_new)

pub placed_told : (m : Metadata) (k : ℕ) (x : Span) (bs : List ℕ) → x ≡ held (length m.bytes) (length bs) → Placed m → Placed (told m k x bs)
unfolding told
placed_told m k x bs e p =
    let more : (y : Span) → Within (length m.bytes) y → Within (length (m.bytes ++ bs)) y = within_more m.bytes bs in
    let new = within_new m.bytes bs x e in
    let rs = each_more m.bytes bs m.revisions p.revisions in
    let a = more m.name p.name in
    let b = more m.namespace p.namespace in
    let c = more m.prefix p.prefix in
    let d = more m.parent p.parent in
    by_test (eqb k 7)
    (λ t. rw t (record {
      name = a;
      namespace = b;
      prefix = c;
      parent = d;
      revisions = each_snoc (Kept (m.bytes ++ bs)) m.revisions
          (record { span = x; value = bs }) rs (kept_new m.bytes bs x e);
    }))
    (λ t. by_test (eqb k 3) (λ u. rw (t, u) (record { name = a; namespace = b; prefix = c; parent = new; revisions = rs }))
    (λ u. by_test (eqb k 4) (λ v. rw (t, u, v) (record { name = a; namespace = new; prefix = c; parent = d; revisions = rs }))
    (λ v. by_test (eqb k 5) (λ w. rw (t, u, v, w) (record { name = a; namespace = b; prefix = new; parent = d; revisions = rs }))
    (λ w. rw (t, u, v, w) (record { name = new; namespace = b; prefix = c; parent = d; revisions = rs })))))

-- all six
first_within : (n : ℕ) (rs : List Revision) → Each (λ r. Within n r.span) rs → Within n (first_of rs)
unfolding first_of Each
first_within n [] h = omega arith
first_within n (r ∷ rs) h = h.0

pub placed_within : (m : Metadata) → Placed m → Each (Within (length m.bytes)) (values_of m)
unfolding Each values_of
placed_within m p =
    let n = length m.bytes in
    let rs = each_of (Kept m.bytes) (λ r. Within n r.span) (λ r h. h.1) m.revisions p.revisions in
    (p.name, (p.namespace, (p.prefix, (first_within n m.revisions rs, (p.parent, (newest_within n m.revisions rs, tt))))))

-- ---- where the scan stands

pub record Sound (s : List ℕ) (g : Reading) : Type 0 where
  pub inside : g.at ≤ length s
  pub room : length g.read.bytes + (length s - g.at) ≤ length s
  pub placed : Placed g.read

pub sound_start : (s : List ℕ) → Sound s (record { at = 0; read = nothing })
unfolding Each
sound_start s = record {
  inside = omega arith;
  room = omega arith;
  placed = record { name = omega arith; namespace = omega arith; prefix = omega arith; parent = omega arith; revisions = tt };
}

-- what the step from there says
abbrev pub heard : Bool → List ℕ → Reading → Said
heard w s g = said_at w s g.at (length g.read.bytes) g.read.prefix.present

module _ (w : Bool) (s : List ℕ) (g : Reading) where
  module _ (f : Sound s g) where
    pub sound_told : (k : ℕ) (x : Span) (c : Cursor) (n : ℕ) → (heard w s g).answer ≡ Ok (Value k x c n)
        → Sound s (record { at = c.at; read = told g.read k x (heard w s g).bytes })
    sound_told k x c n h =
        let m = g.read in
        let bs = (heard w s g).bytes in
        let i = said_value w s g.at (length m.bytes) m.prefix.present k x c n h in
        let l : length (told m k x bs).bytes ≡ length m.bytes + length bs = ap length (told_bytes m k x bs) ∙ length-append m.bytes bs in
        record { inside = i.1; room = omega (arith, l, i.3, i.4, f.room); placed = placed_told m k x bs i.2 f.placed }

    pub sound_passed : (c : Cursor) → (heard w s g).answer ≡ Ok (Passed c) → Sound s (record { at = c.at; read = g.read })
    sound_passed c h =
        let i = said_passed w s g.at (length g.read.bytes) g.read.prefix.present c h in
        record { inside = i.1; room = omega (arith, i.0, i.1, f.room); placed = f.placed }

  -- the step comes nearer the end
  pub told_nearer : (k : ℕ) (x : Span) (c : Cursor) (n : ℕ) → (heard w s g).answer ≡ Ok (Value k x c n) → length s - c.at < length s - g.at
  told_nearer k x c n h =
      let i = said_value w s g.at (length g.read.bytes) g.read.prefix.present k x c n h in omega (arith, i.0, i.1)

  pub passed_nearer : (c : Cursor) → (heard w s g).answer ≡ Ok (Passed c) → length s - c.at < length s - g.at
  passed_nearer c h =
      let i = said_passed w s g.at (length g.read.bytes) g.read.prefix.present c h in omega (arith, i.0, i.1)

-- ---- the turns

module _ (w : Bool) (s : List ℕ) (g : Reading) where
  -- what holds behind a value and behind what is passed holds behind the turn
  turn_keeps : (P : Reading → Type 0)
      → ((k : ℕ) (x : Span) (c : Cursor) (n : ℕ) → (heard w s g).answer ≡ Ok (Value k x c n)
      → P (record { at = c.at; read = told g.read k x (heard w s g).bytes }))
      → ((c : Cursor) → (heard w s g).answer ≡ Ok (Passed c) → P (record { at = c.at; read = g.read }))
      → (h : Reading) → metadata_turn w s g ≡ on h → P h
  unfolding metadata_turn after_heard
  turn_keeps P v p h t = of (heard w s g).answer refl t
    where
      of : (r : Result Heard Refusal) → (heard w s g).answer ≡ r → after_heard g.read (heard w s g).bytes r ≡ on h → P h
      of (Ok (Value k x c n)) e t = let q : record { at = c.at; read = told g.read k x (heard w s g).bytes } ≡ h = cc in subst P q (v k x c n e)
      of (Ok (Passed c)) e t = let q : record { at = c.at; read = g.read } ≡ h = cc in subst P q (p c e)
      of (Ok (Done c)) e t = let z : ◌≡◌ {A = ℕ} 0 1 = cc in absurd (omega arith)
      of (Err r) e t = let z : ◌≡◌ {A = ℕ} 0 1 = cc in absurd (omega arith)

  pub turn_sound : Sound s g → (h : Reading) → metadata_turn w s g ≡ on h → Sound s h
  turn_sound f = turn_keeps (Sound s) (sound_told w s g f) (sound_passed w s g f)

  pub turn_falls : (h : Reading) → metadata_turn w s g ≡ on h → length s - h.at < length s - g.at
  turn_falls = turn_keeps (λ h. length s - h.at < length s - g.at) (told_nearer w s g) (passed_nearer w s g)

module _ (w : Bool) (s : List ℕ) (g : Reading) where
  pub scan_on : (h : Reading) → metadata_turn w s g ≡ on h → scan_from w s g ≡ scan_from w s h
  unfolding scan_from
  scan_on h t =
      turns_on (metadata_turn w s) (good nothing) (λ b. length s - b.at) (turn_falls w s)
      (suc (length s)) (suc (length s)) g h (omega arith) (omega arith) t

  pub scan_stop : (x : Scan) → metadata_turn w s g ≡ stop x → scan_from w s g ≡ x
  unfolding scan_from
  scan_stop x t = turns_stop (metadata_turn w s) (good nothing) (λ b. length s - b.at) (turn_falls w s) (suc (length s)) g x (omega arith) t

  turn_is : {r : Result Heard Refusal} → (heard w s g).answer ≡ r → metadata_turn w s g ≡ after_heard g.read (heard w s g).bytes r
  unfolding metadata_turn
  turn_is h = ap (after_heard g.read (heard w s g).bytes) h

  -- the step's answers
  pub scan_value : (k : ℕ) (x : Span) (c : Cursor) (n : ℕ) → (heard w s g).answer ≡ Ok (Value k x c n)
      → scan_from w s g ≡ scan_from w s (record { at = c.at; read = told g.read k x (heard w s g).bytes })
  unfolding after_heard
  scan_value k x c n h = scan_on _ (turn_is h)

  pub scan_passed : (c : Cursor) → (heard w s g).answer ≡ Ok (Passed c) → scan_from w s g ≡ scan_from w s (record { at = c.at; read = g.read })
  unfolding after_heard
  scan_passed c h = scan_on _ (turn_is h)

  pub scan_done : (c : Cursor) → (heard w s g).answer ≡ Ok (Done c) → scan_from w s g ≡ ended g.read c.at
  unfolding after_heard
  scan_done c h = scan_stop _ (turn_is h)

  pub scan_refused_lem : (r : Refusal) → (heard w s g).answer ≡ Err r → scan_from w s g ≡ bad r (g.read.bytes ++ (heard w s g).bytes)
  unfolding after_heard
  scan_refused_lem r h = scan_stop _ (turn_is h)

-- ---- the whole text

-- N: what holds of every refusal of a step, and of a missing name's
module _ (s : List ℕ) (N : Refusal → Type 0) where
  abbrev Ends : Scan → Type 0
  Ends (good m) = Placed m × (length m.bytes ≤ length s) × (m.name.present ≡ true)
  Ends (bad r bs) = (r.at ≤ length s) × (length bs ≤ length s) × N r

  ended_ends : (m : Metadata) (at : ℕ) → Placed m → length m.bytes ≤ length s → at ≤ length s → N (record { number = 9; keyword = 0; at = at })
      → Ends (ended m at)
  unfolding ended
  ended_ends m at p l k n = of m.name.present refl
    where
      of : (t : Bool) → m.name.present ≡ t → Ends (cond t (good m) (bad (record { number = 9; keyword = 0; at = at }) m.bytes))
      of true e = (p, l, e)
      of false e = (k, l, n)

  module _ (w : Bool) (no_name : (at : ℕ) → N (record { number = 9; keyword = 0; at = at }))
      (said : (at u : ℕ) (p : Bool) (r : Refusal) → (said_at w s at u p).answer ≡ Err r → N r) where
    stop_ends : (g : Reading) → Sound s g → (x : Scan) → metadata_turn w s g ≡ stop x → Ends x
    unfolding metadata_turn after_heard
    stop_ends g f x t = of (heard w s g).answer refl t
      where
        of : (r : Result Heard Refusal) → (heard w s g).answer ≡ r → after_heard g.read (heard w s g).bytes r ≡ stop x → Ends x
        of (Ok (Value k y c n)) e t = let z : ◌≡◌ {A = ℕ} 0 1 = cc in absurd (omega arith)
        of (Ok (Passed c)) e t = let z : ◌≡◌ {A = ℕ} 0 1 = cc in absurd (omega arith)
        of (Ok (Done c)) e t =
            let q : ended g.read c.at ≡ x = cc in
            let i = said_done w s g.at (length g.read.bytes) g.read.prefix.present f.inside c e in
            subst Ends q (ended_ends g.read c.at f.placed (omega (arith, f.room)) i.1 (no_name c.at))
        of (Err r) e t =
            let q : bad r (g.read.bytes ++ (heard w s g).bytes) ≡ x = cc in
            let i = said_refused w s g.at (length g.read.bytes) g.read.prefix.present r e in
            let l = length-append g.read.bytes (heard w s g).bytes in
            subst Ends q (i.0, omega (arith, i.1, f.room, l), said g.at (length g.read.bytes) g.read.prefix.present r e)

    from_ends : (g : Reading) → Sound s g → Ends (scan_from w s g)
    unfolding scan_from
    from_ends g =
        turns_rule (metadata_turn w s) (good nothing) (λ b. length s - b.at) (turn_falls w s) (λ a x. Sound s a → Ends x)
        (λ a x t f. stop_ends a f x t) (λ a b x t k f. k (turn_sound w s a f b t)) (suc (length s)) g (omega arith)

    scan_ends : (x : Scan) → scanned w s ≡ x → Ends x
    unfolding scanned
    scan_ends x h = subst Ends h (from_ends (record { at = 0; read = nothing }) (sound_start s))

-- for those who use a scan
module _ (w : Bool) (s : List ℕ) where
  any_ends : (x : Scan) → scanned w s ≡ x → Ends s (λ r. Unit {0}) x
  any_ends = scan_ends s (λ r. Unit {0}) w (λ at. tt) (λ at u p r h. tt)

  pub scan_placed : (m : Metadata) → scanned w s ≡ good m → Placed m
  scan_placed m h = (any_ends (good m) h).0

  pub scan_good : (m : Metadata) → scanned w s ≡ good m → Each (Within (length m.bytes)) (values_of m) × (length m.bytes ≤ length s)
      × (m.name.present ≡ true)
  scan_good m h = let i = any_ends (good m) h in (placed_within m i.0, i.1, i.2)

  pub scan_bad : (r : Refusal) (bs : List ℕ) → scanned w s ≡ bad r bs → (r.at ≤ length s) × (length bs ≤ length s)
  scan_bad r bs h = let i = any_ends (bad r bs) h in (i.0, i.1)

  -- a refusal has a number, if a step's has
  pub scan_number : ((at u : ℕ) (p : Bool) (r : Refusal) → (said_at w s at u p).answer ≡ Err r → 0 < r.number)
      → (r : Refusal) (bs : List ℕ) → scanned w s ≡ bad r bs → 0 < r.number
  scan_number n r bs h = (scan_ends s (λ q. 0 < q.number) w (λ at. omega arith) n (bad r bs) h).2
