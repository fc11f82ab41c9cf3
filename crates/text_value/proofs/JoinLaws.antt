-- What a proof uses of all that is added to a string, and of a whole value. Each addition takes its bytes and more, so the turns end and
-- there is room.
-- Assumes nothing.
use Rattle.std.specs.Prelude.{Some, None}
use mathlib.Core.Path.{◌≡◌, refl, sym, ap, ap₂, ◌∙◌}
use mathlib.Core.Bool.{Bool, true, false, cond}
use mathlib.Core.List.{List, [], ◌++◌}
use Prim.Native.Nat.{ℕ, suc, ◌+◌, ◌-◌, ◌<◌, ◌≤◌}
use native.Mathlib.Omega.{arith}
use lib.ListN.{length, get_or, length-append}
use lib.Seq.{sets, length-sets}
use lib.Dec.{eqb}
use borrow.Author.Tests.{eqb-true, eqb-false}
use Rattle.text.specs.Scan.{in_ident, gap_end, run_end}
use Rattle.text.specs.Class.{class_of}
use Rattle.text.specs.Keyword.{part}
use Rattle.text.specs.declared.Run.TheVariants.{Name}
use Rattle.text.specs.Turns.{stop, on}
use Rattle.text.proofs.Turns.{turns_stop, turns_on, turns_rule}
use Rattle.text.proofs.Here.{by_test, here, never}
use Rattle.text.proofs.Laws.{in_name, gap_from, gap_within, run_more, run_from, run_within}
use Rattle.text_string.specs.Str.{is_quote, Str, whole, cut, str_at}
use Rattle.text_value.specs.Value.{More, added, ends, broken, added_by, more_at, Bytes, add_to, join_turn, joined_with, joined, more_answer, more_bytes}
use Rattle.text_value.specs.Value.{join_answer, Val, value, none, of_string, name_at, value_here, value_at, starts_name, closed_more, closed_turn, closed_from}
use Rattle.text_value.specs.Value.{closed_string, closed_here, closed_at, value_answer, value_bytes, place_of}
use Rattle.text.proofs.Writing.{sets_append}
use Rattle.text_string.proofs.StrLaws.{whole_size}
use Rattle.text_value.specs.declared.Value.{Value}
use Rattle.text_value.proofs.ValueLaws.{part_length, more_plain, more_bare, more_string}

-- ---- how much an addition takes

added_is : (s : List ℕ) (t : Str) (cs : List ℕ) (e : ℕ) → added_by s t ≡ added cs e → t ≡ whole cs e
unfolding added_by
added_is s (whole bs end) cs e h = cc
added_is s cut cs e h = cc

ends_not : {m : More} {k : ℕ} {cs : List ℕ} {e : ℕ} → m ≡ ends k → m ≡ added cs e → ⊥
ends_not f g = let z : ◌≡◌ {A = ℕ} 0 1 = cc in omega arith

-- an addition stands within the text and takes its bytes and more
pub more_size : (s : List ℕ) (at : ℕ) (cs : List ℕ) (e : ℕ) → more_at s at ≡ added cs e → (at + length cs < e) × (e ≤ length s)
more_size s at cs e h =
    let g = gap_end s at in
    let w = gap_end s (g + 1) in
    by_test (eqb (get_or s g 256) 43)
    (λ p. by_test (is_quote (get_or s w 256))
    (λ q. omega (
      arith,
      whole_size s w cs e (added_is s (str_at s w) cs e (sym (more_string s at refl refl (eqb-true _ _ p) refl refl refl q) ∙ h)),
      gap_from s
          at,
      gap_from s (g + 1),
    ))
    (λ q. absurd (ends_not (more_bare s at refl refl (eqb-true _ _ p) refl refl refl q) h)))
    (λ p. absurd (ends_not (more_plain s at refl refl (eqb-false _ _ p)) h))

-- ---- the turns

to_on : (bs : List ℕ) (m : More) (b : Bytes) → add_to bs m ≡ on b → (cs : List ℕ) × (m ≡ added cs b.end)
unfolding add_to
to_on bs (added cs e) b h = (cs, cc)
to_on bs (ends e) b h = ([], cc)
to_on bs (broken e) b h = ([], cc)

join_falls : (s : List ℕ) (a b : Bytes) → join_turn s a ≡ on b → length s - b.end < length s - a.end
unfolding join_turn
join_falls s a b h =
    let m = to_on a.bytes (more_at s a.end) b h in
    omega (arith, more_size s a.end m.0 b.end m.1)

module _ (s bs : List ℕ) (at : ℕ) where
  -- a string is added
  pub join_on : (cs : List ℕ) (e : ℕ) → more_at s at ≡ added cs e → joined_with s bs at ≡ joined_with s (bs ++ cs) e
  unfolding joined_with join_turn add_to
  join_on cs e h =
      turns_on (join_turn s) (record { bytes = []; end = 0 }) (λ b. length s - b.end) (join_falls s)
      (suc (length s)) (suc (length s)) (record { bytes = bs; end = at }) (record { bytes = bs ++ cs; end = e })
      (omega arith) (omega arith) (ap (add_to bs) h)

  join_last : (r : Bytes) → add_to bs (more_at s at) ≡ stop r → joined_with s bs at ≡ r
  unfolding joined_with join_turn
  join_last r h =
      turns_stop (join_turn s) (record { bytes = []; end = 0 }) (λ b. length s - b.end) (join_falls s)
      (suc (length s)) (record { bytes = bs; end = at }) r (omega arith) h

  -- nothing more
  pub join_stop : (e : ℕ) → more_at s at ≡ ends e → joined_with s bs at ≡ record { bytes = bs; end = e }
  unfolding add_to
  join_stop e h = join_last (record { bytes = bs; end = e }) (ap (add_to bs) h)

  -- a string that never closes
  pub join_broken : (e : ℕ) → more_at s at ≡ broken e → joined_with s bs at ≡ record { bytes = bs; end = e }
  unfolding add_to
  join_broken e h = join_last (record { bytes = bs; end = e }) (ap (add_to bs) h)

-- ---- whether all that is added closes

closed_added : (m : More) (e : ℕ) → closed_more m ≡ on e → (cs : List ℕ) × (m ≡ added cs e)
unfolding closed_more
closed_added (added cs f) e h = (cs, cc)
closed_added (ends f) e h = ([], cc)
closed_added (broken f) e h = ([], cc)

closed_falls : (s : List ℕ) (a b : ℕ) → closed_turn s a ≡ on b → length s - b < length s - a
unfolding closed_turn
closed_falls s a b h = let m = closed_added (more_at s a) b h in omega (arith, more_size s a m.0 b m.1)

module _ (s : List ℕ) (at e : ℕ) where
  pub closed_on : (cs : List ℕ) → more_at s at ≡ added cs e → closed_from s at ≡ closed_from s e
  unfolding closed_from closed_turn closed_more
  closed_on cs h =
      turns_on (closed_turn s) true (λ i. length s - i) (closed_falls s)
      (suc (length s)) (suc (length s)) at e (omega arith) (omega arith) (ap closed_more h)

  closed_last : (b : Bool) → closed_more (more_at s at) ≡ stop b → closed_from s at ≡ b
  unfolding closed_from closed_turn
  closed_last b h = turns_stop (closed_turn s) true (λ i. length s - i) (closed_falls s) (suc (length s)) at b (omega arith) h

  pub closed_stop : more_at s at ≡ ends e → closed_from s at ≡ true
  unfolding closed_more
  closed_stop h = closed_last true (ap closed_more h)

  pub closed_broken : more_at s at ≡ broken e → closed_from s at ≡ false
  unfolding closed_more
  closed_broken h = closed_last false (ap closed_more h)

-- ---- what an answer says

pub added_answer : (n : ℕ) (m : More) (k : ℕ) → (more_answer n m).used ≡ Some k
    → (m ≡ added (more_bytes m) (more_answer n m).end.at) × (k ≡ n + length (more_bytes m))
unfolding more_answer more_bytes
added_answer n (added cs e) k h = (refl, cc)
added_answer n (ends e) k h = (cc, cc)
added_answer n (broken e) k h = (cc, cc)

-- nothing was added: the turn is the last; bs: what was added before
pub last_answer : (n : ℕ) (m : More) (bs : List ℕ) → (more_answer n m).used ≡ None
    → (add_to bs m ≡ stop (record { bytes = bs; end = (more_answer n m).end.at })) × (closed_more m ≡ stop (more_answer n m).closed) × (more_bytes m ≡ [])
unfolding more_answer more_bytes add_to closed_more
last_answer n (added cs e) bs h = let z : ◌≡◌ {A = ℕ} 0 1 = cc in absurd (omega arith)
last_answer n (ends e) bs h = (refl, refl, refl)
last_answer n (broken e) bs h = (refl, refl, refl)

-- a list stored after another
pub sets_twice : (d e f : List ℕ) (u n : ℕ) (bs cs : List ℕ) → e ≡ sets d u bs → n ≡ u + length bs → f ≡ sets e n cs → f ≡ sets d u (bs ++ cs)
sets_twice d e f u n bs cs h k g = g ∙ ap (λ l. sets l n cs) h ∙ ap (λ i. sets (sets d u bs) i cs) k ∙ sym (sets_append d u bs cs)

-- ---- the loop that reads them

-- the store was d and is e; the bytes of all that was added up to the place `at` stand in it from u up to n
pub record Joining (s d : List ℕ) (u from : ℕ) (e : List ℕ) (at n : ℕ) : Type 0 where
  pub bytes : List ℕ
  pub same : joined_with s bytes at ≡ joined s from
  pub closes : closed_from s at ≡ closed_from s from
  pub kept : e ≡ sets d u bytes
  pub count : n ≡ u + length bytes
  pub room : n + (length s - at) ≤ length d

module _ {s d : List ℕ} {u from : ℕ} where
  pub join_begun : u + (length s - from) ≤ length d → Joining s d u from d from u
  unfolding joined
  join_begun h = record { bytes = []; same = refl; closes = refl; kept = refl; count = omega arith; room = h }

  pub join_long : {e : List ℕ} {at n : ℕ} → Joining s d u from e at n → length e ≡ length d
  join_long j = ap length j.kept ∙ length-sets d u j.bytes

  -- p: what reading the next part answered
  module _ {e : List ℕ} {at n : ℕ} (j : Joining s d u from e at n) {p : Value} (pe : p ≡ more_answer n (more_at s at)) where
    part_added : (k : ℕ) → p.used ≡ Some k → (more_at s at ≡ added (more_bytes (more_at s at)) p.end.at) × (k ≡ n + length (more_bytes (more_at s at)))
    part_added k h =
        let m = added_answer n (more_at s at) k (sym (ap (λ (x : Value). x.used) pe) ∙ h) in
        (m.0 ∙ sym (ap (λ (x : Value). added (more_bytes (more_at s at)) x.end.at) pe), m.1)

    pub join_nearer : (k : ℕ) → p.used ≡ Some k → length s - p.end.at < length s - at
    join_nearer k h = omega (arith, more_size s at (more_bytes (more_at s at)) p.end.at (part_added k h).0)

    -- f: the store after it
    module _ {f : List ℕ} (fe : f ≡ sets e n (more_bytes (more_at s at))) where
      pub join_more : (k : ℕ) → p.used ≡ Some k → Joining s d u from f p.end.at k
      join_more k h =
          let cs = more_bytes (more_at s at) in
          let next = p.end.at in
          let m = part_added k h in
          record {
            bytes = j.bytes ++ cs;
            same = sym (join_on s j.bytes at cs next m.0) ∙ j.same;
            closes = sym (closed_on s at next cs m.0) ∙ j.closes;
            kept = sets_twice d e f u n j.bytes cs j.kept j.count fe;
            count = omega (arith, m.1, j.count, length-append j.bytes cs);
            room = omega (arith, m.1, j.room, more_size s at cs next m.0);
          }

      -- nothing is added: the loop is at its end
      pub join_done : p.used ≡ None
          → (record { end = p.end; used = Some n; closed = p.closed } ≡ join_answer u (closed_from s from) (joined s from)) × (f ≡ sets d u (joined s from).bytes)
      unfolding join_answer
      join_done h =
          let m = last_answer n (more_at s at) j.bytes (sym (ap (λ (x : Value). x.used) pe) ∙ h) in
          let w = m.0 ∙ sym (ap (λ (x : Value). stop (record { bytes = j.bytes; end = x.end.at })) pe) in
          let r : joined s from ≡ record { bytes = j.bytes; end = p.end.at } = sym j.same ∙ join_last s j.bytes at (record { bytes = j.bytes; end = p.end.at }) w in
          let o : closed_more (more_at s at) ≡ stop p.closed = m.1 ∙ sym (ap (λ (x : Value). stop x.closed) pe) in
          let y : p.closed ≡ closed_from s from = sym (closed_last s at p.end.at p.closed o) ∙ j.closes in
          (rw r (ap₂ (λ k x. record { end = p.end; used = Some k; closed = x }) j.count y), fe ∙ ap (sets e n) m.2 ∙ j.kept ∙ rw r)

-- ---- a value

-- b stands here, n whether a name begins so
module _ (s : List ℕ) (g : ℕ) {b : ℕ} {n : Bool} (be : b ≡ get_or s g 256) (ne : n ≡ starts_name b) where
  pub name_read : n ≡ true → {e : ℕ} → e ≡ run_end Name s g → name_at s g ≡ value (part s g e) e
  name_read m ee = let r : starts_name (get_or s g 256) ≡ true = cc in rw r (rw (← ee) refl)

  pub name_none : n ≡ false → name_at s g ≡ none g
  name_none m = let r : starts_name (get_or s g 256) ≡ false = cc in rw r refl

-- Each law takes what the calls on the way answered, in their order: g after the gap, b what stands there, t whether that is a quote, n
-- whether a name begins so.
module _ (s : List ℕ) (at : ℕ) {g b : ℕ} {t : Bool} (ge : g ≡ gap_end s at) (be : b ≡ get_or s g 256) (te : t ≡ is_quote b) where
  module _ (y : t ≡ true) where
    pub value_string : (bs : List ℕ) (e : ℕ) → str_at s g ≡ whole bs e → value_at s at ≡ value (bs ++ (joined s e).bytes) (joined s e).end
    unfolding value_at value_here of_string
    value_string bs e h = let q : is_quote (get_or s g 256) ≡ true = cc in rw (← ge) (rw q (rw h))

    pub value_cut : str_at s g ≡ cut → value_at s at ≡ none (length s)
    unfolding value_at value_here of_string
    value_cut h = let q : is_quote (get_or s g 256) ≡ true = cc in rw (← ge) (rw q (rw h))

  -- no quote: the value is a name, or none
  pub value_other : t ≡ false → value_at s at ≡ name_at s g
  unfolding value_at value_here
  value_other f = let q : is_quote (get_or s g 256) ≡ false = cc in rw (← ge) (rw q refl)

  module _ (f : t ≡ false) {n : Bool} (ne : n ≡ starts_name b) where
    pub value_name : n ≡ true → {e : ℕ} → e ≡ run_end Name s g → value_at s at ≡ value (part s g e) e
    value_name m ee = value_other f ∙ name_read s g be ne m ee

    pub value_none : n ≡ false → value_at s at ≡ none g
    value_none m = value_other f ∙ name_none s g be ne m

pub name_here : (s : List ℕ) (i : ℕ) {b : ℕ} {n : Bool} → b ≡ get_or s i 256 → n ≡ starts_name b → n ≡ true → i < length s
unfolding starts_name class_of
name_here s i be ne y = here s i (λ e. never (ne ∙ ap starts_name (be ∙ e)) y)

-- a string and what was added to it
pub read_joined : (u n : ℕ) (y : Bool) (bs : List ℕ) (j : Bytes) → n ≡ u + length bs → join_answer n y j ≡ value_answer u y (value (bs ++ j.bytes) j.end)
unfolding join_answer value_answer
read_joined u n y bs j k =
    let m : n + length j.bytes ≡ u + length (bs ++ j.bytes) = omega (arith, length-append bs j.bytes) in
    ap (λ i. record { end = record { at = j.end }; used = Some i; closed = y }) m

-- ---- how much a value takes

ends_is : {m : More} (a b : ℕ) → m ≡ ends a → m ≡ ends b → a ≡ b
ends_is a b e f = cc

ended_not : (s : List ℕ) (t : Str) (e : ℕ) → added_by s t ≡ ends e → ⊥
unfolding added_by
ended_not s (whole bs end) e h = let z : ◌≡◌ {A = ℕ} 0 1 = cc in omega arith
ended_not s cut e h = let z : ◌≡◌ {A = ℕ} 0 1 = cc in omega arith

-- where the value ends after a string
pub ends_size : (s : List ℕ) (at e : ℕ) → at ≤ length s → more_at s at ≡ ends e → (at ≤ e) × (e ≤ length s)
ends_size s at e l h =
    let g = gap_end s at in
    let w = gap_end s (g + 1) in
    by_test (eqb (get_or s g 256) 43)
    (λ p. let i = here s g (λ z. omega (arith, eqb-true (get_or s g 256) 43 p)) in
    let k = gap_within s (g + 1) (omega arith) in
    by_test (is_quote (get_or s w 256))
    (λ q. absurd (ended_not s (str_at s w) e (sym (more_string s at refl refl (eqb-true _ _ p) refl refl refl q) ∙ h)))
    (λ q. omega (arith, ends_is w e (more_bare s at refl refl (eqb-true _ _ p) refl refl refl q) h, gap_from s at, gap_from s (g + 1))))
    (λ p. omega (arith, ends_is g e (more_plain s at refl refl (eqb-false _ _ p)) h, gap_from s at, gap_within s at l))

broken_by : (s : List ℕ) (t : Str) (e : ℕ) → added_by s t ≡ broken e → e ≡ length s
unfolding added_by
broken_by s (whole bs end) e h = cc
broken_by s cut e h = cc

ends_whole : {m : More} {a e : ℕ} → m ≡ ends a → m ≡ broken e → ⊥
ends_whole f g = let z : ◌≡◌ {A = ℕ} 0 1 = cc in omega arith

-- a string that never closes takes the rest of the text
pub broken_size : (s : List ℕ) (at e : ℕ) → more_at s at ≡ broken e → e ≡ length s
broken_size s at e h =
    let g = gap_end s at in
    let w = gap_end s (g + 1) in
    by_test (eqb (get_or s g 256) 43)
    (λ p. by_test (is_quote (get_or s w 256))
    (λ q. broken_by s (str_at s w) e (sym (more_string s at refl refl (eqb-true _ _ p) refl refl refl q) ∙ h))
    (λ q. absurd (ends_whole (more_bare s at refl refl (eqb-true _ _ p) refl refl refl q) h)))
    (λ p. absurd (ends_whole (more_plain s at refl refl (eqb-false _ _ p)) h))

-- where a turn stops
to_stop : (s bs : List ℕ) (at : ℕ) (m : More) (r : Bytes) → at ≤ length s → more_at s at ≡ m → add_to bs m ≡ stop r
    → (at ≤ r.end) × (r.end ≤ length s) × (r.bytes ≡ bs)
unfolding add_to
to_stop s bs at (added cs e) r l k h = let z : ◌≡◌ {A = ℕ} 0 1 = cc in absurd (omega arith)
to_stop s bs at (ends e) r l k h =
    let n : e ≡ r.end = cc in
    let w = ends_size s at e l k in
    (omega arith, omega arith, cc)
to_stop s bs at (broken e) r l k h =
    let n : e ≡ r.end = cc in
    let w = broken_size s at e k in
    (omega arith, omega arith, cc)

to_more : (bs : List ℕ) (m : More) (b : Bytes) (cs : List ℕ) (e : ℕ) → add_to bs m ≡ on b → m ≡ added cs e → b.bytes ≡ bs ++ cs
unfolding add_to
to_more bs (added ds f) b cs e h k = cc
to_more bs (ends f) b cs e h k = cc
to_more bs (broken f) b cs e h k = cc

-- what is added is shorter than what was read
pub joined_size : (s : List ℕ) (at : ℕ) → at ≤ length s → (at + length (joined s at).bytes ≤ (joined s at).end) × ((joined s at).end ≤ length s)
unfolding joined joined_with join_turn
joined_size s at h =
    let all = turns_rule (join_turn s) (record { bytes = []; end = 0 }) (λ b. length s - b.end) (join_falls s)
    (λ a r. a.end ≤ length s → (a.end + length r.bytes ≤ r.end + length a.bytes) × (r.end ≤ length s))
    (λ a r e l. let m = to_stop s a.bytes a.end (more_at s a.end) r l refl e in omega (arith, m.0, m.1, ap length m.2))
    (λ a b r e k l. let m = to_on a.bytes (more_at s a.end) b e in
    let z = more_size s a.end m.0 b.end m.1 in
    omega (arith, k (omega arith), length-append a.bytes m.0, ap length (to_more a.bytes (more_at s a.end) b m.0 b.end e m.1)))
    (suc (length s)) (record { bytes = []; end = at }) (omega arith) h in
    omega (arith, all)

value_is : {v : Val} (bs cs : List ℕ) (e f : ℕ) → v ≡ value bs e → v ≡ value cs f → (bs ≡ cs) × (e ≡ f)
value_is bs cs e f h k = (cc, cc)

none_not : {v : Val} {k : ℕ} {bs : List ℕ} {e : ℕ} → v ≡ none k → v ≡ value bs e → ⊥
none_not f g = let z : ◌≡◌ {A = ℕ} 0 1 = cc in omega arith

-- a value stands within the text and takes its bytes at least
pub value_size : (s : List ℕ) (at : ℕ) (bs : List ℕ) (e : ℕ) → value_at s at ≡ value bs e → (at + length bs ≤ e) × (e ≤ length s)
value_size s at bs e h =
    let g = gap_end s at in
    by_test (is_quote (get_or s g 256))
    (λ q. by_str (str_at s g) refl q)
    (λ q. by_test (starts_name (get_or s g 256))
    (λ n. let i = name_here s g refl refl n in
    let r = run_end Name s g in
    let m = value_is bs (part s g r) e r h (value_name s at refl refl refl q refl n refl) in
    omega (
      arith,
      m.1,
      ap length m.0,
      part_length s g r (run_from Name s g)
          (run_within Name s g (omega arith)),
      gap_from s at,
      run_from Name s g,
      run_within Name s g (omega arith),
    ))
    (λ n. absurd (none_not (value_none s at refl refl refl q refl n) h)))
  where
    by_str : (t : Str) → str_at s (gap_end s at) ≡ t → is_quote (get_or s (gap_end s at) 256) ≡ true → (at + length bs ≤ e) × (e ≤ length s)
    by_str (whole cs f) k q =
        let m = value_is bs (cs ++ (joined s f).bytes) e (joined s f).end h (value_string s at refl refl refl q cs f k) in
        let z = whole_size s (gap_end s at) cs f k in
        omega (arith, m.1, ap length m.0, length-append cs (joined s f).bytes, joined_size s f (omega arith), gap_from s at)
    by_str cut k q = absurd (none_not (value_cut s at refl refl refl q k) h)

-- what is stored of a value fits the rest of the text
value_fits : (s : List ℕ) (at : ℕ) (v : Val) → value_at s at ≡ v → length (value_bytes v) ≤ length s - at
unfolding value_bytes
value_fits s at (value bs e) h = omega (arith, value_size s at bs e h)
value_fits s at (none e) h = omega arith

pub bytes_fit : (s : List ℕ) (at : ℕ) → length (value_bytes (value_at s at)) ≤ length s - at
bytes_fit s at = value_fits s at (value_at s at) refl

-- what begins a name belongs to it
pub starts_name_in : (b : ℕ) → starts_name b ≡ true → in_ident b ≡ true
unfolding starts_name in_ident
starts_name_in b h =
    by_test (eqb (class_of b) 2)
    (λ t. simp t)
    (λ t. by_test (eqb (class_of b) 3) (λ u. simp (t, u)) (λ u. let k : eqb b 95 ≡ true = simp (t, u) at h in simp (t, u, k)))

-- a name takes a byte at least
pub name_far : (s : List ℕ) (g : ℕ) → starts_name (get_or s g 256) ≡ true → g < run_end Name s g
name_far s g y =
    let l = name_here s g refl refl y in
    let e = in_name (get_or s g 256) (starts_name_in (get_or s g 256) y) in
    omega (arith, run_more Name s g l refl (sym e) refl, run_from Name s (g + 1))

-- a value is behind its start, stands within the text and takes its bytes at least
pub value_far : (s : List ℕ) (at : ℕ) (bs : List ℕ) (e : ℕ) → value_at s at ≡ value bs e → (at < e) × (at + length bs ≤ e) × (e ≤ length s)
value_far s at bs e h =
    let g = gap_end s at in
    let z = value_size s at bs e h in
    by_test (is_quote (get_or s g 256))
    (λ q. by_str (str_at s g) refl q)
    (λ q. by_test (starts_name (get_or s g 256))
    (λ n. let m = value_is bs (part s g (run_end Name s g)) e (run_end Name s g) h (value_name s at refl refl refl q refl n refl) in
    omega (arith, m.1, z, gap_from s at, name_far s g n))
    (λ n. absurd (none_not (value_none s at refl refl refl q refl n) h)))
  where
    by_str : (t : Str) → str_at s (gap_end s at) ≡ t → is_quote (get_or s (gap_end s at) 256) ≡ true → (at < e) × (at + length bs ≤ e) × (e ≤ length s)
    by_str (whole cs f) k q =
        let m = value_is bs (cs ++ (joined s f).bytes) e (joined s f).end h (value_string s at refl refl refl q cs f k) in
        let z = whole_size s (gap_end s at) cs f k in
        omega (arith, m.1, value_size s at bs e h, joined_size s f (omega arith), gap_from s at)
    by_str cut k q = absurd (none_not (value_cut s at refl refl refl q k) h)

none_is : {v : Val} (a b : ℕ) → v ≡ none a → v ≡ none b → a ≡ b
none_is a b e f = cc

-- where there is none, the scan stands within the text, if it did
pub none_size : (s : List ℕ) (at k : ℕ) → at ≤ length s → value_at s at ≡ none k → (at ≤ k) × (k ≤ length s)
none_size s at k l h =
    let g = gap_end s at in
    by_test (is_quote (get_or s g 256))
    (λ q. by_str (str_at s g) refl q)
    (λ q. by_test (starts_name (get_or s g 256))
    (λ n. absurd (none_not h (value_name s at refl refl refl q refl n refl)))
    (λ n. omega (arith, none_is g k (value_none s at refl refl refl q refl n) h, gap_from s at, gap_within s at l)))
  where
    by_str : (t : Str) → str_at s (gap_end s at) ≡ t → is_quote (get_or s (gap_end s at) 256) ≡ true → (at ≤ k) × (k ≤ length s)
    by_str (whole cs f) w q = absurd (none_not h (value_string s at refl refl refl q cs f w))
    by_str cut w q = omega (arith, none_is (length s) k (value_cut s at refl refl refl q w) h)

-- ---- where a value ends, whatever it stores

any_stop : (s : List ℕ) (a : Bytes) (m : More) (r : Bytes) → more_at s a.end ≡ m → add_to a.bytes m ≡ stop r → (cs : List ℕ)
    → (joined_with s cs a.end).end ≡ r.end
unfolding add_to
any_stop s a (added ds e) r k h cs = let z : ◌≡◌ {A = ℕ} 0 1 = cc in absurd (omega arith)
any_stop s a (ends e) r k h cs = let n : e ≡ r.end = cc in ap (λ b. b.end) (join_stop s cs a.end e k) ∙ n
any_stop s a (broken e) r k h cs = let n : e ≡ r.end = cc in ap (λ b. b.end) (join_broken s cs a.end e k) ∙ n

-- the place after all that is added does not depend on the bytes before
joined_any : (s cs : List ℕ) (at : ℕ) → (joined_with s cs at).end ≡ (joined s at).end
unfolding joined joined_with join_turn
joined_any s cs at =
    turns_rule (join_turn s) (record { bytes = []; end = 0 }) (λ b. length s - b.end) (join_falls s)
    (λ a r. (ds : List ℕ) → (joined_with s ds a.end).end ≡ r.end)
    (λ a r e. any_stop s a (more_at s a.end) r refl e)
    (λ a b r e k ds. let m = to_on a.bytes (more_at s a.end) b e in
    ap (λ x. x.end) (join_on s ds a.end m.0 b.end m.1) ∙ k (ds ++ m.0))
    (suc (length s)) (record { bytes = []; end = at }) (omega arith) cs

module _ (s : List ℕ) (at : ℕ) where
  pub joined_on : (cs : List ℕ) (e : ℕ) → more_at s at ≡ added cs e → (joined s at).end ≡ (joined s e).end
  joined_on cs e h = sym (joined_any s [] at) ∙ ap (λ b. b.end) (join_on s [] at cs e h) ∙ joined_any s cs e

  pub joined_stop : (e : ℕ) → more_at s at ≡ ends e → (joined s at).end ≡ e
  joined_stop e h = sym (joined_any s [] at) ∙ ap (λ b. b.end) (join_stop s [] at e h)

  pub joined_broken : (e : ℕ) → more_at s at ≡ broken e → (joined s at).end ≡ e
  joined_broken e h = sym (joined_any s [] at) ∙ ap (λ b. b.end) (join_broken s [] at e h)

-- ---- whether each string of a value closes

-- g after the gap, b what stands there, t whether that is a quote
module _ (s : List ℕ) (at : ℕ) {g b : ℕ} {t : Bool} (ge : g ≡ gap_end s at) (be : b ≡ get_or s g 256) (te : t ≡ is_quote b) where
  closed_here_lem : closed_at s at ≡ cond t (closed_string s (str_at s g)) true
  unfolding closed_at closed_here
  closed_here_lem = let q : is_quote (get_or s g 256) ≡ t = cc in rw (← ge) (rw q refl)

  module _ (y : t ≡ true) where
    closed_quote : closed_at s at ≡ closed_string s (str_at s g)
    closed_quote = closed_here_lem ∙ ap (λ k. cond k (closed_string s (str_at s g)) true) y

    pub closed_string_lem : (bs : List ℕ) (e : ℕ) → str_at s g ≡ whole bs e → closed_at s at ≡ closed_from s e
    unfolding closed_string
    closed_string_lem bs e h = closed_quote ∙ ap (closed_string s) h

    pub closed_cut : str_at s g ≡ cut → closed_at s at ≡ false
    unfolding closed_string
    closed_cut h = closed_quote ∙ ap (closed_string s) h

  -- a name has no string, and so has no value
  pub closed_name : t ≡ false → closed_at s at ≡ true
  closed_name f = closed_here_lem ∙ ap (λ k. cond k (closed_string s (str_at s g)) true) f

-- ---- where the scan stands

-- it is within the text, where the scan stands within it
pub place_size : (s : List ℕ) (at : ℕ) → at ≤ length s → (at ≤ place_of (value_at s at)) × (place_of (value_at s at) ≤ length s)
unfolding place_of
place_size s at l = by_val (value_at s at) refl
  where
    by_val : (v : Val) → value_at s at ≡ v → (at ≤ place_of v) × (place_of v ≤ length s)
    by_val (value bs e) h = omega (arith, value_size s at bs e h)
    by_val (none e) h = none_size s at e l h

-- ---- a value with a string that never closes ends at the text's end

stop_open : (m : More) → closed_more m ≡ stop false → (e : ℕ) × (m ≡ broken e)
unfolding closed_more
stop_open (added cs e) h = (e, cc)
stop_open (ends e) h = (e, cc)
stop_open (broken e) h = (e, refl)

open_joined : (s : List ℕ) (at : ℕ) → closed_from s at ≡ false → (joined s at).end ≡ length s
unfolding closed_from closed_turn
open_joined s at =
    turns_rule (closed_turn s) true (λ i. length s - i) (closed_falls s) (λ a r. r ≡ false → (joined s a).end ≡ length s)
    (λ a r e f. let m = stop_open (more_at s a) (e ∙ ap stop f) in joined_broken s a m.0 m.1 ∙ broken_size s a m.0 m.1)
    (λ a b r e k f. let m = closed_added (more_at s a) b e in joined_on s a m.0 b m.1 ∙ k f)
    (suc (length s)) at (omega arith)

pub open_place : (s : List ℕ) (at : ℕ) → closed_at s at ≡ false → place_of (value_at s at) ≡ length s
unfolding place_of
open_place s at h =
    by_test (is_quote (get_or s (gap_end s at) 256)) (λ q. by_str (str_at s (gap_end s at)) refl q)
    (λ q. absurd (never h (closed_name s at refl refl refl q)))
  where
    by_str : (t : Str) → str_at s (gap_end s at) ≡ t → is_quote (get_or s (gap_end s at) 256) ≡ true → place_of (value_at s at) ≡ length s
    by_str (whole bs e) k q =
        ap place_of (value_string s at refl refl refl q bs e k) ∙ open_joined s e (sym (closed_string_lem s at refl refl refl q bs e k) ∙ h)
    by_str cut k q = ap place_of (value_cut s at refl refl refl q k)
