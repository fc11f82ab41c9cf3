-- Inner answers in document 01's numbers: the laws on the refusals of the scans, read case by case.
-- Assumes nothing.
use Rattle.std.specs.Prelude.{Ok, Err, Some, None, Result, Option}
use Prim.Native.Nat.{ℕ, ◌≤◌, ◌<◌}
use mathlib.Core.Path.{◌≡◌, refl, sym, ap, subst, ◌∙◌}
use mathlib.Core.Bool.{Bool, true}
use mathlib.Core.Logic.{◌↔◌}
use mathlib.Core.List.{List, []}
use native.Mathlib.Omega.{arith}
use lib.ListN.{length, get_or}
use Rattle.text.specs.Refusal.{no_refusal}
use Rattle.text.specs.declared.Refusal.{Refusal}
use Rattle.text_lent.specs.Lent.{lent_at, lent_refusal}
use Rattle.scan_imports.specs.Statement.{import_at, import_refusal, include_at, include_refusal}
use Rattle.scan_header.specs.Header.{said_at, heard_refusal}
use Rattle.scan_header.specs.declared.Heard.{Heard}
use Rattle.scan_header.specs.declared.Heard.TheVariants.{Value, Passed, Done}
use Rattle.library_form.specs.Form.{Ans, good, bad}
use Rattle.library_index.proofs.Chain.{length_names}
use Rattle.library_image.specs.Image.{image_at}
use Rattle.library_image.specs.Library.{Library}
use Rattle.library_lists.specs.Lists.{done, read_seen}
use Rattle.library_read.specs.Reading.{read_number}
use Rattle.library_items.specs.Table.{Reads}
use Rattle.graph.specs.Limits.{most_nodes}
use Rattle.graph.specs.Nodes.{Mode}
use Rattle.graph_nodes.specs.Adding.{words_at, NodesAs, nodes_number}
use Rattle.host_words.specs.Words.{told_words}
use Rattle.demands_scans.specs.Refusals.{FirstRefusal, too_little, StatementRefusal, HeaderRefusal, ModeRefusal}
use Rattle.demands.specs.Answers.{Refuses, Answers}
use Rattle.demands_scans.proofs.ScanNumbers.{ImportedIs, IncludedIs, statement_number, LentIs, lent_is, first_unfit, first_number}
use Rattle.demands_scans.proofs.MetadataNumbers.{HeardIs, header_number}
use Rattle.demands_scans.proofs.WholeNumbers.{mode_number, import_mode, include_mode, heard_mode}
use Rattle.text.specs.declared.Cursor.{Cursor}
use Rattle.scan_rows.specs.declared.YangImport.{YangImport}
use Rattle.scan_rows.specs.declared.YangInclude.{YangInclude}

-- ---- an answer that is a refusal, and one that is none

-- gives: what the definition gives for a refusal; numbered: no refusal has the number 0
module _ {A : Type 0} (No : Refusal → A) (refusal : A → Refusal) (Due : Refusal → Type 0) where
  refused : (gives : (r : Refusal) → refusal (No r) ≡ r) (numbered : (r : Refusal) → Due r → r.number ≡ 0 → ⊥) (q : Refusal) → Due q
      → Refuses No refusal Due (No q)
  refused gives numbered q h =
      let some : (refusal (No q)).number ≡ 0 → ⊥ = λ z. numbered q h (ap (λ (r : Refusal). r.number) (sym (gives q)) ∙ z) in
      record {
        due = λ r e. let p = sym (gives q) ∙ ap refusal e ∙ gives r in (subst Due p h, gives q ∙ p);
        zero = (λ z. absurd (some z), λ f. absurd (f q refl));
        none = λ z. absurd (some z);
      }

  not_refused : (x : A) → refusal x ≡ no_refusal → ((r : Refusal) → x ≡ No r → ⊥) → Refuses No refusal Due x
  not_refused x e f = record { due = λ r h. absurd (f r h); zero = (λ z. f, λ h. ap (λ (r : Refusal). r.number) e); none = λ z. e }

-- ---- the scans

lent_refuses : (s : List ℕ) (short : Bool) (x : Result (Unit {0}) Refusal) → LentIs s short x → Refuses Err lent_refusal (FirstRefusal s short) x
unfolding lent_refusal
lent_refuses s short (Ok tt) h =
    not_refused Err lent_refusal (FirstRefusal s short) (Ok tt) refl (λ r e. let z : ◌≡◌ {A = ℕ} 0 1 = cc in omega arith)
lent_refuses s short (Err r) h = refused Err lent_refusal (FirstRefusal s short) (λ q. refl) (first_number s short) r h

-- D: which refusals can come in a mode
module _ (D : Refusal → Type 0) (numbered : (r : Refusal) → D r → r.number ≡ 0 → ⊥) where
  import_refuses : (x : Result (Cursor × ℕ × YangImport) Refusal) → ImportedIs D x → Refuses Err import_refusal D x
  unfolding import_refusal
  import_refuses (Ok (c, n, i)) h = not_refused Err import_refusal D (Ok (c, n, i)) refl (λ r e. let z : ◌≡◌ {A = ℕ} 0 1 = cc in omega arith)
  import_refuses (Err r) h = refused Err import_refusal D (λ q. refl) numbered r h

  include_refuses : (x : Result (Cursor × ℕ × YangInclude) Refusal) → IncludedIs D x → Refuses Err include_refusal D x
  unfolding include_refusal
  include_refuses (Ok (c, n, i)) h = not_refused Err include_refusal D (Ok (c, n, i)) refl (λ r e. let z : ◌≡◌ {A = ℕ} 0 1 = cc in omega arith)
  include_refuses (Err r) h = refused Err include_refusal D (λ q. refl) numbered r h

  heard_refuses : (x : Result Heard Refusal) → HeardIs D x → Refuses Err heard_refusal D x
  unfolding heard_refusal
  heard_refuses (Ok (Value k v c n)) h = not_refused Err heard_refusal D (Ok (Value k v c n)) refl (λ r e. let z : ◌≡◌ {A = ℕ} 0 1 = cc in omega arith)
  heard_refuses (Ok (Passed c)) h = not_refused Err heard_refusal D (Ok (Passed c)) refl (λ r e. let z : ◌≡◌ {A = ℕ} 0 1 = cc in omega arith)
  heard_refuses (Ok (Done c)) h = not_refused Err heard_refusal D (Ok (Done c)) refl (λ r e. let z : ◌≡◌ {A = ℕ} 0 1 = cc in omega arith)
  heard_refuses (Err r) h = refused Err heard_refusal D (λ q. refl) numbered r h

-- ---- images, nodes and look-ups

read_number_lem : (r : Result ℕ ℕ) (x : Ans Library) → read_seen r ≡ done x → ((read_number r ≡ 0) ↔ Reads x) × ((read_number r ≡ 20) ↔ ((p : ℕ) × (x ≡ bad p)))
unfolding read_number
read_number_lem (Ok n) (good l m) e = (
  (λ h. record { value = l; end = m; read = refl }, λ h. refl),
  (λ h. absurd (omega (arith, h)), λ h. let f = h.1 in let z : ◌≡◌ {A = ℕ} 0 1 = cc in absurd (omega arith)),
)
read_number_lem (Ok n) (bad p) e = let z : ◌≡◌ {A = ℕ} 0 1 = cc in absurd (omega arith)
read_number_lem (Err p) (good l m) e = let z : ◌≡◌ {A = ℕ} 0 1 = cc in absurd (omega arith)
read_number_lem (Err p) (bad q) e = (
  (λ h. absurd (omega (arith, h)), λ h. let f = h.read in let z : ◌≡◌ {A = ℕ} 0 1 = cc in absurd (omega arith)),
  (λ h. (q, refl), λ h. refl),
)

nodes_number_lem : (mode : Mode) (s after : List ℕ) (r : Option ℕ) → NodesAs mode r s after
    → ((nodes_number r ≡ 0) ↔ (length (words_at mode s) ≤ most_nodes)) × ((nodes_number r ≡ 30) ↔ (most_nodes < length (words_at mode s)))
unfolding nodes_number
nodes_number_lem mode s after (Some n) h =
    let e = length_names s after n in
    let f = ap length h.names in
    let k = h.few in
    ((λ z. omega (arith, e, f, k), λ z. refl), (λ z. absurd (omega (arith, z)), λ z. absurd (omega (arith, e, f, k, z))))
nodes_number_lem mode s after None h = ((λ z. absurd (omega (arith, z)), λ z. absurd (omega (arith, h, z))), (λ z. h, λ z. refl))

told_number : (number : ℕ) (x : Result (Option (ℕ × ℕ)) ℕ) → 0 < number → (get_or (told_words number x) 0 0 ≡ 0) ↔ ((p : ℕ) → x ≡ Err p → ⊥)
unfolding told_words
told_number number (Err p) h = (λ z. absurd (omega (arith, h, z)), λ f. absurd (f p refl))
told_number number (Ok None) h = (λ z p e. let y : ◌≡◌ {A = ℕ} 0 1 = cc in omega arith, λ f. refl)
told_number number (Ok (Some (a, b))) h = (λ z p e. let y : ◌≡◌ {A = ℕ} 0 1 = cc in omega arith, λ f. refl)

broken_number : (number p : ℕ) → get_or (told_words number (Err p)) 0 0 ≡ number
unfolding told_words
broken_number number p = refl

-- ---- not empty

-- a definition that forgets the refusals is none of these: of an empty text and too little lent it would have to give 2
pub not_forgotten : ((s : List ℕ) (short : Bool) → Refuses Err (λ x. no_refusal) (FirstRefusal s short) (lent_at s short)) → ⊥
not_forgotten h =
    let two : Refusal = record { number = 2; keyword = 0; at = 0 } in
    let e = ((h [] true).due two (first_unfit [] true two (too_little (omega arith) refl refl))).1 in
    omega (arith, ap (λ (r : Refusal). r.number) e)

pub answers : Answers
answers = record {
  lent = λ s short. lent_refuses s short (lent_at s short) (lent_is s short);
  lent_due = first_unfit;
  import = λ whole s at u.
      import_refuses (ModeRefusal whole (StatementRefusal 8) s) (mode_number (statement_number 8) s whole) (import_at whole s at u).answer
      (import_mode s at u whole);
  include = λ whole s at u.
      include_refuses (ModeRefusal whole (StatementRefusal 9) s) (mode_number (statement_number 9) s whole) (include_at whole s at u).answer
      (include_mode s at u whole);
  heard = λ whole s at u p.
      heard_refuses (ModeRefusal whole HeaderRefusal s) (mode_number header_number s whole) (said_at whole s at u p).answer (heard_mode s at u p whole);
  read = λ s r e. (read_number_lem r (image_at s) e).0;
  read_wrong = λ s r e. (read_number_lem r (image_at s) e).1;
  nodes = λ mode s tab {r} {after} c. (nodes_number_lem mode s after r c.answer).0;
  nodes_many = λ mode s tab {r} {after} c. (nodes_number_lem mode s after r c.answer).1;
  told = told_number;
  told_broken = broken_number;
}
