-- The loop of the scan: what was read so far stands in the store and the six values, and the scan from here is the scan of the text.
-- w: the whole-text mode.
-- Assumes nothing.
use Rattle.std.specs.Prelude.{Ok, Err, Result}
use mathlib.Core.Path.{◌≡◌, refl, sym, ap, ◌∙◌}
use mathlib.Core.Bool.{Bool}
use mathlib.Core.List.{List, [], ◌++◌}
use Prim.Native.Nat.{ℕ, ◌+◌, ◌-◌, ◌<◌, ◌≤◌}
use native.Mathlib.Nat.{zero-add}
use native.Mathlib.Omega.{arith}
use lib.ListN.{length, get_or, length-append}
use lib.Seq.{sets, length-sets}
use Rattle.text.specs.declared.Cursor.{Cursor}
use Rattle.text.specs.declared.Refusal.{Refusal}
use Rattle.text.proofs.Writing.{sets_append}
use Rattle.scan_rows.specs.Rows.{Each}
use Rattle.scan_rows.specs.Span.{missing, value_in}
use Rattle.scan_rows.specs.declared.Span.{Span}
use Rattle.scan_rows.proofs.Laws.{each_of}
use Rattle.scan_rows.proofs.Values.{value_stored}
use Rattle.scan_newest.specs.Newest.{Revision, Read, newest, newest_from}
use Rattle.scan_newest.proofs.NewestLaws.{newest_valued}
use Rattle.scan_header.specs.Header.{said_at}
use Rattle.scan_header.specs.declared.Heard.{Heard}
use Rattle.scan_header.specs.declared.Heard.TheVariants.{Value, Passed, Done}
use Rattle.scan_header.proofs.SaidLaws.{said_value, said_passed, said_done, said_room}
use Rattle.scan_metadata.specs.Metadata.{Metadata, nothing, told, first_of, values_of, no_values, Reading, Scan, bad, ended, scan_from, scanned, refused_with}
use Rattle.scan_metadata.specs.Metadata.{answer_of, stored_of}
use Rattle.scan_metadata.specs.Promises.{Parses}
use Rattle.scan_metadata.specs.Values.{kept_in, ended_with}
use Rattle.scan_metadata.specs.declared.YangModuleMetadata.{YangModuleMetadata}
use Rattle.scan_metadata.proofs.ScanLaws.{Kept, each_more, within_new, value_new, Sound, sound_start, heard, sound_told, sound_passed, told_nearer}
use Rattle.scan_metadata.proofs.ScanLaws.{passed_nearer, scan_value, scan_passed, scan_done, scan_refused_lem}
use Rattle.scan_metadata.proofs.ValuesLaws.{values_prefix, kept_told, told_bytes, ended_is, stored_is}

-- ---- the store; bs: the bytes read

module _ (bs d : List ℕ) {e : List ℕ} (h : e ≡ sets d 0 bs) (room : length bs ≤ length d) where
  stored_newest : (rs : List Revision) → Each (Kept bs) rs → value_in e (newest rs).span ≡ (newest rs).value
  stored_newest rs k = newest_valued e rs (each_of (Kept bs) (λ r. value_in e r.span ≡ r.value)
      (λ r q. value_stored bs d r.span q.1 h room ∙ q.2) rs k)

-- ---- the invariant; d: the store at entry, e: now

pub record Sofar (w : Bool) (s d : List ℕ) (values : List Span) (at used : ℕ) (e : List ℕ) : Type 0 where
  pub read : Metadata
  pub held : values ≡ values_of read
  pub count : used ≡ length read.bytes
  pub stored : e ≡ sets d 0 read.bytes
  pub long : length s ≤ length d
  pub sound : Sound s (record { at = at; read = read })
  pub same : scan_from w s (record { at = at; read = read }) ≡ scanned w s

module _ {w : Bool} {s d : List ℕ} where
  pub loop_begin : {values : List Span} → values ≡ no_values → length s ≤ length d → Sofar w s d values 0 0 d
  unfolding values_of first_of newest newest_from scanned
  loop_begin v l = record { read = nothing; held = v; count = refl; stored = refl; long = l; sound = sound_start s; same = refl }

  module _ {values : List Span} {at used : ℕ} {e : List ℕ} (j : Sofar w s d values at used e) where
    -- what the step requires
    pub loop_room : used + (length s - at) ≤ length e
    loop_room = omega (arith, j.count, j.sound.room, j.long, ap length j.stored, length-sets d 0 j.read.bytes)

    -- the store is as long as it was
    pub loop_long : length e ≡ length d
    loop_long = ap length j.stored ∙ length-sets d 0 j.read.bytes

    abbrev here : Reading
    here = record { at = at; read = j.read }

    -- p: whether a prefix was read; r: what the step answered; e': the store then
    module _ {p : Bool} (pe : p ≡ (get_or values 2 missing).present) {r : Result Heard Refusal} (re : r ≡ (said_at w s at used p).answer)
        {e' : List ℕ} (ee : e' ≡ sets e used (said_at w s at used p).bytes) where
      step_is : said_at w s at used p ≡ heard w s here
      step_is =
          let q : p ≡ j.read.prefix.present = pe ∙ ap (λ vs. (get_or vs 2 missing).present) j.held ∙ ap (λ x. x.present) (values_prefix j.read) in
          ap (λ u. said_at w s at u p) j.count ∙ ap (said_at w s at (length j.read.bytes)) q

      step_answer : {x : Result Heard Refusal} → r ≡ x → (heard w s here).answer ≡ x
      step_answer h = sym (ap (λ y. y.answer) step_is) ∙ sym re ∙ h

      -- what is stored then
      step_stored : e' ≡ sets d 0 (j.read.bytes ++ (heard w s here).bytes)
      step_stored =
          let bs = j.read.bytes in
          let cs = (heard w s here).bytes in
          ee ∙ ap (λ y. sets e used y.bytes) step_is ∙ ap (λ l. sets l used cs) j.stored
          ∙ ap (λ n. sets (sets d 0 bs) n cs) (j.count ∙ sym (zero-add (length bs))) ∙ sym (sets_append d 0 bs cs)

      -- nothing is stored
      same_stored : (heard w s here).bytes ≡ [] → e' ≡ sets d 0 j.read.bytes
      same_stored h = ee ∙ ap (λ y. sets e used y.bytes) step_is ∙ ap (sets e used) h ∙ j.stored

      module _ (k : ℕ) (x : Span) (c : Cursor) (n : ℕ) (h : r ≡ Ok (Value k x c n)) where
        value_held : kept_in e' values k x ≡ values_of (told j.read k x (heard w s here).bytes)
        value_held =
            let m = j.read in
            let cs = (heard w s here).bytes in
            let i = said_value w s at (length m.bytes) m.prefix.present k x c n (step_answer h) in
            let u = said_room w s at (length m.bytes) m.prefix.present in
            let l : length (m.bytes ++ cs) ≤ length d = omega (arith, u, length-append m.bytes cs, j.sound.room, j.long) in
            ap (λ vs. kept_in e' vs k x) j.held
            ∙ kept_told e' m k x cs
            (each_of (Kept m.bytes) Read (λ r q. q.0) m.revisions j.sound.placed.revisions)
            (value_stored (m.bytes ++ cs) d x (within_new m.bytes cs x i.2) step_stored l ∙ value_new m.bytes cs x i.2)
            (stored_newest (m.bytes ++ cs) d step_stored l m.revisions (each_more m.bytes cs m.revisions j.sound.placed.revisions))

        pub loop_value : {values' : List Span} → values' ≡ kept_in e' values k x → Sofar w s d values' c.at n e'
        loop_value v =
            let m = j.read in
            let cs = (heard w s here).bytes in
            let i = said_value w s at (length m.bytes) m.prefix.present k x c n (step_answer h) in
            let b = told_bytes m k x cs in
            record {
              read = told m k x cs;
              held = v ∙ value_held;
              count = omega (arith, i.3, ap length b, length-append m.bytes cs);
              stored = step_stored ∙ ap (sets d 0) (sym b);
              long = j.long;
              sound = sound_told w s here j.sound k x c n (step_answer h);
              same = sym (scan_value w s here k x c n (step_answer h)) ∙ j.same;
            }

        pub loop_value_nearer : length s - c.at < length s - at
        loop_value_nearer = told_nearer w s here k x c n (step_answer h)

      module _ (c : Cursor) (h : r ≡ Ok (Passed c)) where
        pub loop_passed : Sofar w s d values c.at used e'
        loop_passed =
            let m = j.read in
            let i = said_passed w s at (length m.bytes) m.prefix.present c (step_answer h) in
            record {
              read = m;
              held = j.held;
              count = j.count;
              stored = same_stored i.2;
              long = j.long;
              sound = sound_passed w s here j.sound c (step_answer h);
              same = sym (scan_passed w s here c (step_answer h)) ∙ j.same;
            }

        pub loop_passed_nearer : length s - c.at < length s - at
        loop_passed_nearer = passed_nearer w s here c (step_answer h)

      -- x: the scan from here
      loop_ends : (x : Scan) → scan_from w s here ≡ x → {a : YangModuleMetadata} → a ≡ answer_of x → e' ≡ sets d 0 (stored_of x) → Parses w s d a e'
      loop_ends x q ae se =
          let k : x ≡ scanned w s = sym q ∙ j.same in
          record { answer = ae ∙ ap answer_of k; stored = se ∙ ap (λ y. sets d 0 (stored_of y)) k }

      pub loop_done : (c : Cursor) → r ≡ Ok (Done c) → {a : YangModuleMetadata} → a ≡ ended_with values used c.at → Parses w s d a e'
      loop_done c h ae =
          let m = j.read in
          let i = said_done w s at (length m.bytes) m.prefix.present j.sound.inside c (step_answer h) in
          loop_ends (ended m c.at) (scan_done w s here c (step_answer h))
          (ae ∙ ap (λ vs. ended_with vs used c.at) j.held ∙ ap (λ n. ended_with (values_of m) n c.at) j.count ∙ ended_is m c.at)
          (same_stored i.2 ∙ ap (sets d 0) (sym (stored_is m c.at)))

      pub loop_refused : (q : Refusal) → r ≡ Err q → {a : YangModuleMetadata} → a ≡ refused_with q → Parses w s d a e'
      unfolding answer_of stored_of
      loop_refused q h ae =
          loop_ends (bad q (j.read.bytes ++ (heard w s here).bytes))
          (scan_refused_lem w s here q (step_answer h)) ae step_stored
