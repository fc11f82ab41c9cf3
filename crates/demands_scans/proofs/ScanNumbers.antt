-- The refusals of a scan in the old mode, by number and keyword: each comes from a place in the definitions that has both, and nothing on the way changes them.
-- A block ends before its turns do.
-- Assumes nothing.
use Rattle.std.specs.Prelude.{Some, None, Ok, Err, Option, Result}
use Prim.Native.Nat.{ℕ, suc, ◌+◌, ◌-◌, ◌≤◌}
use mathlib.Core.Path.{◌≡◌, refl, sym, ap, ◌∙◌, subst}
use mathlib.Core.Bool.{Bool, true, false, cond, ◌&&◌}
use mathlib.Core.Logic.{⊎_elim}
use mathlib.Core.List.{List, [], ◌∷◌, ◌++◌, Memᴰ}
use native.Mathlib.Omega.{arith}
use lib.Dec.{eqb, leb, ltb}
use lib.ListN.{length}
use borrow.Author.Tests.{eqb-true, eq-eqb, leb-true, ltb-true, ltb-false}
use Rattle.text.specs.Bytes.{look}
use Rattle.text.specs.Class.{within}
use Rattle.text.specs.Due.{due_number, due_here, due_at}
use Rattle.text.specs.Keyword.{match_at}
use Rattle.text.specs.Refusal.{MetHigh, refused_at}
use Rattle.text.specs.Scan.{gap_end}
use Rattle.text.specs.Turns.{stop}
use Rattle.text.specs.Words.{prefix_word, revision_date_word}
use Rattle.text.specs.declared.Refusal.{Refusal}
use Rattle.text.proofs.Here.{by_test, both}
use Rattle.text.proofs.HighLaws.{refused_met}
use Rattle.text.proofs.Turns.{turns_rule}
use Rattle.text_value.specs.Argument.{argument_of, breaks_off, argument_at, after_due, after_argument, line_at}
use Rattle.text_value.specs.Value.{Val, value, none, value_at}
use Rattle.text_past.specs.Past.{past_of}
use Rattle.text_skip.specs.Skip.{token_at, past_token}
use Rattle.text_statement.specs.Statement.{statement_at, past_statement}
use Rattle.text_skip.proofs.SkipLaws.{token_refused}
use Rattle.text_statement.proofs.StatementLaws.{statement_refused}
use Rattle.text_utf8.specs.Utf8.{wrong_from}
use Rattle.text_utf8.proofs.Utf8Laws.{wrong_within}
use Rattle.text_lent.specs.Lent.{lent_at}
use Rattle.text_lent.proofs.LentLaws.{lent_long, lent_short, lent_wrong, lent_fit}
use Rattle.scan_rows.specs.declared.Span.{Span}
use Rattle.scan_block.specs.Left.{Left, nothing}
use Rattle.scan_block.specs.Block.{or_line, revision_line, line_kind, with_value, with_skipped, after_kind, inside_here, inside_at, after_inside, block_turn, block_from}
use Rattle.scan_block.specs.Block.{begun, block_at}
use Rattle.scan_imports.specs.Statement.{of_body, import_of, with_name, after_name, import_at, include_of, plain_of, block_of, open_or_plain, after_value, include_at}
use Rattle.scan_block.specs.declared.Body.{Body}
use Rattle.scan_block.specs.declared.Inside.{Inside}
use Rattle.scan_block.specs.declared.Inside.TheVariants.{On, Closed}
use Rattle.scan_block.proofs.BlockLaws.{block_falls}
use Rattle.yangparser.specs.Dependencies as Deps
use Rattle.yangparser.specs.Dependencies.{Step, import_step, include_step, unless_full, import_here, include_here, after_token, head_step, step_here, step_at, after_step}
use Rattle.yangparser.specs.Dependencies.{scan_turn}
use Rattle.scan_head.specs.Head.{head_at}
use Rattle.yangparser.specs.declared.Sofar.{Sofar}
use Rattle.scan_head.specs.declared.Head.{Head}
use Rattle.scan_head.specs.declared.Head.TheVariants.{Import, Include, Last, Other}
use Rattle.demands_scans.specs.Refusals.{OneOf, FirstRefusal, too_long, too_little, not_utf8, Fits, RefusedAs, first, read, StatementRefusal, argument}
use Rattle.demands_scans.specs.Refusals.{prefix, no_prefix, block, DependenciesRefusal, import, include, rows, MetRefusal, high, other}
use Rattle.demands_scans.proofs.Loops.{turns_all}
use Rattle.text.specs.declared.Cursor.{Cursor}
use Rattle.text_past.specs.declared.How.{How}
use Rattle.scan_rows.specs.declared.YangImport.{YangImport}
use Rattle.scan_rows.specs.declared.YangInclude.{YangInclude}

-- ---- membership of numerals, by test

unfoldable pub is_one : ℕ → List ℕ → Bool
is_one n [] = false
is_one n (k ∷ ks) = cond (eqb n k) true (is_one n ks)

pub one_of : (n : ℕ) (ks : List ℕ) → is_one n ks ≡ true → Memᴰ n ks
unfolding is_one
one_of n [] h = let z : ◌≡◌ {A = ℕ} 0 1 = cc in absurd (omega arith)
one_of n (k ∷ ks) h = go (eqb n k) refl (one_of n ks) h
  where
    go : (t : Bool) → eqb n k ≡ t → (is_one n ks ≡ true → Memᴰ n ks) → cond t true (is_one n ks) ≡ true → Memᴰ n (k ∷ ks)
    go true q f h = Memᴰ.head (eqb-true n k q)
    go false q f h = Memᴰ.tail (f h)

pub is_one_lem : {n : ℕ} {ks : List ℕ} → Memᴰ n ks → is_one n ks ≡ true
unfolding is_one
is_one_lem {n} (Memᴰ.head {x = k} e) = rw (eq-eqb n k e)
is_one_lem {n} (Memᴰ.tail {x = k} m) = go (eqb n k) (is_one_lem m)
  where
    go : (t : Bool) {c : Bool} → c ≡ true → cond t true c ≡ true
    go true h = refl
    go false h = h

-- the numbers of what is read are 4 to 10
unfoldable pub are_read : List ℕ → Bool
are_read [] = true
are_read (k ∷ ks) = within 4 10 k && are_read ks

abbrev pub FourToTen : ℕ → Type 0
FourToTen n = (4 ≤ n) × (n ≤ 10)

pub read_number_lem : {n : ℕ} (ks : List ℕ) → Memᴰ n ks → are_read ks ≡ true → FourToTen n
unfolding are_read
read_number_lem {n = n} [] x'' f = elim x'' [ ]
read_number_lem {n} (k ∷ ks) (Memᴰ.head e) f =
    let w = both (leb 4 k) (leb k 10) (both (within 4 10 k) (are_read ks) f).0 in
    omega (arith, e, leb-true 4 k w.0, leb-true k 10 w.1)
read_number_lem {n} (k ∷ ks) (Memᴰ.tail m) f = read_number_lem ks m (both (within 4 10 k) (are_read ks) f).1

abbrev pub refusal : ℕ → ℕ → ℕ → Refusal
refusal n k at = record { number = n; keyword = k; at = at }

pub of : (numbers keywords : List ℕ) (n k at : ℕ) → is_one n numbers ≡ true → is_one k keywords ≡ true → OneOf numbers keywords (refusal n k at)
of numbers keywords n k at h i = record { number = one_of n numbers h; keyword = one_of k keywords i }

-- ---- what is refused for a value and the byte due after it has the keyword, and 4, 5 or 6; or it is a byte of 128 or more

module _ (P : Refusal → Type 0) where
  abbrev pub DueIs : Result Cursor Refusal → Type 0
  DueIs (Ok c) = Unit {0}
  DueIs (Err r) = P r

  abbrev pub ArgumentIs : Result (Cursor × ℕ) Refusal → Type 0
  ArgumentIs (Ok (c, n)) = Unit {0}
  ArgumentIs (Err r) = P r

-- or it is 3; Q: what is known of the others
module _ (s : List ℕ) (Q : Refusal → Type 0) where
  abbrev pub Met : Refusal → Type 0
  Met r = MetRefusal Q s r

  refused_is : (n k at : ℕ) → Q (refusal n k at) → Met (refused_at (look s at) n k at)
  refused_is n k at h =
      let r = refused_at (look s at) n k at in
      ⊎_elim high (λ e. other (subst Q (sym e) h)) (refused_met s n k at r refl)

  module _ (k : ℕ) where
    module _ (five : (at : ℕ) → Q (refusal 5 k at)) (six : (at : ℕ) → Q (refusal 6 k at)) where
      pub due_here_is : (at b : ℕ) → DueIs Met (due_here s at b k)
      unfolding due_here due_number
      due_here_is at b =
          by_test (eqb (look s at) b) (λ t. rw t tt)
          (λ t. rw t (by_test (eqb (look s at) 256) (λ v. rw v (refused_is 6 k at (six at))) (λ v. rw v (refused_is 5 k at (five at)))))

      pub due_is : (at b : ℕ) → DueIs Met (due_at s at b k)
      unfolding due_at
      due_is at b = due_here_is (gap_end s at) b

      pub line_is : (four : (at : ℕ) → Q (refusal 4 k at)) → (at u b : ℕ) → ArgumentIs Met (line_at false s at u k b)
      unfolding line_at argument_at breaks_off after_due after_argument argument_of
      line_is four at u b = go (value_at s at)
        where
          behind : (n : ℕ) (d : Result Cursor Refusal) → DueIs Met d → ArgumentIs Met (after_due n d)
          behind n (Ok c) h = tt
          behind n (Err r) h = h

          go : (v : Val) → ArgumentIs Met (after_argument s k b (argument_of s u k v))
          go (value bs e) = behind (u + length bs) (due_at s e b k) (due_is e b)
          go (none e) = refused_is 4 k e (four e)

    pub value_is : (four : (at : ℕ) → Q (refusal 4 k at)) → (at u : ℕ) → ArgumentIs Met (argument_at false s at u k)
    unfolding argument_at breaks_off argument_of
    value_is four at u = go (value_at s at)
      where
        go : (v : Val) → ArgumentIs Met (argument_of s u k v)
        go (value bs e) = tt
        go (none e) = refused_is 4 k e (four e)

  -- a skip refuses nothing else
  pub past_is : (m : ℕ) (x : Result (Cursor × How) Refusal) → ((r : Refusal) → x ≡ Err r → MetHigh s r) → DueIs Met (past_of false m x)
  unfolding past_of
  past_is m (Ok (c, h)) n = tt
  past_is m (Err r) n = high (n r refl)

-- ---- dependencies

pub statement_number : (k : ℕ) (q : Refusal) → StatementRefusal k q → FourToTen q.number
unfolding are_read
statement_number k q (argument o) = read_number_lem (4 ∷ 5 ∷ 6 ∷ []) o.number refl
statement_number k q (prefix e o) = read_number_lem (4 ∷ 5 ∷ 6 ∷ []) o.number refl
statement_number k q (no_prefix e o) = read_number_lem (7 ∷ []) o.number refl
statement_number k q (block o) = read_number_lem (8 ∷ []) o.number refl

pub dependencies_number : (q : Refusal) → DependenciesRefusal q → FourToTen q.number
unfolding are_read
dependencies_number q (import h) = statement_number 8 q h
dependencies_number q (include h) = statement_number 9 q h
dependencies_number q (rows o) = read_number_lem (10 ∷ []) o.number refl

-- in the statement of the keyword k, a value with the keyword j may be refused by 4, 5 and 6
abbrev Refusable : ℕ → ℕ → Type 0
Refusable k j = (n : ℕ) → is_one n (4 ∷ 5 ∷ 6 ∷ []) ≡ true → (at : ℕ) → StatementRefusal k (refusal n j at)

name_refusable : (k : ℕ) → Refusable k k
name_refusable k n h at = argument (record { number = one_of n (4 ∷ 5 ∷ 6 ∷ []) h; keyword = Memᴰ.head refl })

revision_refusable : (k : ℕ) → Refusable k 10
revision_refusable k n h at = argument (record { number = one_of n (4 ∷ 5 ∷ 6 ∷ []) h; keyword = Memᴰ.tail (Memᴰ.head refl) })

prefix_refusable : (k : ℕ) → k ≡ 8 → Refusable k 5
prefix_refusable k e n h at = prefix e (record { number = one_of n (4 ∷ 5 ∷ 6 ∷ []) h; keyword = Memᴰ.head refl })

module _ (s : List ℕ) (k : ℕ) where
  -- in the statement of the keyword k
  abbrev pub Stated : Refusal → Type 0
  Stated r = MetRefusal (StatementRefusal k) s r

  argument_is : (j : ℕ) → Refusable k j → (at u b : ℕ) → ArgumentIs Stated (line_at false s at u j b)
  unfolding is_one
  argument_is j f = line_is s (StatementRefusal k) j (f 5 refl) (f 6 refl) (f 4 refl)

  abbrev InsideIs : Result Inside Refusal → Type 0
  InsideIs (Ok (On b)) = Unit {0}
  InsideIs (Ok (Closed b)) = Unit {0}
  InsideIs (Err r) = Stated r

  abbrev BlockIs : Result Body Refusal → Type 0
  BlockIs (Ok b) = Unit {0}
  BlockIs (Err r) = Stated r

  with_value_is : (b : Body) (j : ℕ) (a : Result (Cursor × ℕ) Refusal) → ArgumentIs Stated a → InsideIs (with_value b j a)
  unfolding with_value
  with_value_is b j (Ok (c, n)) h = tt
  with_value_is b j (Err r) h = h

  with_skipped_is : (b : Body) (d : Result Cursor Refusal) → DueIs Stated d → InsideIs (with_skipped b d)
  unfolding with_skipped
  with_skipped_is b (Ok c) h = tt
  with_skipped_is b (Err r) h = h

  abbrev LineIs : Option (ℕ × Cursor) → Type 0
  LineIs (Some (j, c)) = Refusable k j
  LineIs None = Unit {0}

  or_line_is : (j : ℕ) → Refusable k j → (m : Option Cursor) (l : Option (ℕ × Cursor)) → LineIs l → LineIs (or_line j m l)
  unfolding or_line
  or_line_is j h (Some c) l i = h
  or_line_is j h None l i = i

  line_kind_is : (at : ℕ) → LineIs (line_kind s at k)
  unfolding line_kind
  line_kind_is at =
      let revision = or_line_is 10 (revision_refusable k) (match_at s at revision_date_word) None tt in
      by_test (eqb k 8)
      (λ t. rw t (or_line_is 5 (prefix_refusable k (eqb-true k 8 t)) (match_at s at prefix_word) (revision_line s at) revision)) (λ t. rw t revision)

  kind_is : (at : ℕ) (b : Body) (x : Option (ℕ × Cursor)) → LineIs x → InsideIs (after_kind false s at b x).answer
  unfolding after_kind past_statement
  kind_is at b (Some (j, c)) h = with_value_is b j (line_at false s c.at b.used j 59) (argument_is j h c.at b.used 59)
  kind_is at b None h =
      with_skipped_is b (past_statement false s at) (past_is s (StatementRefusal k) (length s) (statement_at s at) (statement_refused s at))

  inside_is : (b : Body) → InsideIs (inside_at false s k b).answer
  unfolding inside_at inside_here
  inside_is b =
      let g = gap_end s b.at in
      by_test (eqb (look s g) 256) (λ t. rw t (other (block (record { number = Memᴰ.head refl; keyword = Memᴰ.head refl }))))
      (λ t. rw t (by_test (eqb (look s g) 125) (λ v. rw v tt) (λ v. rw v (kind_is g b (line_kind s g k) (line_kind_is g)))))

  stop_is : (bs : List ℕ) (i : Result Inside Refusal) (r : Left (Result Body Refusal)) → InsideIs i → after_inside bs i ≡ stop r → BlockIs r.answer
  unfolding after_inside
  stop_is bs (Ok (On b)) r h e = let z : ◌≡◌ {A = ℕ} 0 1 = cc in absurd (omega arith)
  stop_is bs (Ok (Closed b)) r h e =
      let q : ◌≡◌ {A = Left (Result Body Refusal)} (record { answer = Ok b; bytes = bs }) r = cc in subst (λ (x : Left (Result Body Refusal)). BlockIs x.answer) q tt
  stop_is bs (Err d) r h e =
      let q : ◌≡◌ {A = Left (Result Body Refusal)} (record { answer = Err d; bytes = bs }) r = cc in subst (λ (x : Left (Result Body Refusal)). BlockIs x.answer) q h

  block_is : (at u : ℕ) → BlockIs (block_at false s at u k).answer
  unfolding block_at block_from block_turn
  block_is at u =
      turns_rule (block_turn false s k) (nothing (Err (refusal 0 0 0))) (λ b. length s - b.body.at) (block_falls false s k)
      (λ a r. BlockIs r.answer)
      (λ a r e. stop_is (a.bytes ++ (inside_at false s k a.body).bytes) (inside_at false s k a.body).answer r (inside_is a.body) e)
      (λ a b r e h. h) (suc (length s)) (record { body = begun at u; bytes = [] }) (omega arith)

abbrev pub ImportedIs : (Refusal → Type 0) → Result (Cursor × ℕ × YangImport) Refusal → Type 0
ImportedIs P (Ok (c, n, i)) = Unit {0}
ImportedIs P (Err r) = P r

abbrev pub IncludedIs : (Refusal → Type 0) → Result (Cursor × ℕ × YangInclude) Refusal → Type 0
IncludedIs P (Ok (c, n, i)) = Unit {0}
IncludedIs P (Err r) = P r

module _ (s : List ℕ) where
  body_is : (name : Span) (b : Result Body Refusal) → BlockIs s 8 b → ImportedIs (Stated s 8) (import_of name b)
  unfolding import_of of_body is_one
  body_is name (Ok b) h =
      by_test b.prefix.present (λ t. rw t tt) (λ t. rw t (other (no_prefix refl (of (7 ∷ []) (8 ∷ []) 7 8 b.at refl refl))))
  body_is name (Err r) h = h

  included_is : (name : Span) (b : Result Body Refusal) → BlockIs s 9 b → IncludedIs (Stated s 9) (include_of name b)
  unfolding include_of
  included_is name (Ok b) h = tt
  included_is name (Err r) h = h

  plain_is : (name : Span) (n : ℕ) (d : Result Cursor Refusal) → DueIs (Stated s 9) d → IncludedIs (Stated s 9) (plain_of name n d)
  unfolding plain_of
  plain_is name n (Ok c) h = tt
  plain_is name n (Err r) h = h

  name_is : (u : ℕ) (bytes : List ℕ) (a : Result (Cursor × ℕ) Refusal) → ArgumentIs (Stated s 8) a → ImportedIs (Stated s 8) (after_name false s u bytes a).answer
  unfolding after_name with_name
  name_is u bytes (Ok (c, n)) h = body_is _ (block_at false s c.at n 8).answer (block_is s 8 c.at n)
  name_is u bytes (Err r) h = h

  pub import_is : (at u : ℕ) → ImportedIs (Stated s 8) (import_at false s at u).answer
  unfolding import_at
  import_is at u = name_is u _ (line_at false s at u 8 123) (argument_is s 8 8 (name_refusable 8) at u 123)

  rest_is : (at n : ℕ) (name : Span) (bytes : List ℕ) → IncludedIs (Stated s 9) (open_or_plain false s at n name bytes).answer
  unfolding open_or_plain block_of is_one
  rest_is at n name bytes =
      by_test (eqb (look s at) 123) (λ t. rw t (included_is name (block_at false s (at + 1) n 9).answer (block_is s 9 (at + 1) n)))
      (λ t. let f = name_refusable 9 in
      rw t (plain_is name n (due_here s at 59 9) (due_here_is s (StatementRefusal 9) 9 (f 5 refl) (f 6 refl) at 59)))

  value_read_is : (u : ℕ) (bytes : List ℕ) (a : Result (Cursor × ℕ) Refusal) → ArgumentIs (Stated s 9) a
      → IncludedIs (Stated s 9) (after_value false s u bytes a).answer
  unfolding after_value
  value_read_is u bytes (Ok (c, n)) h = rest_is (gap_end s c.at) n _ bytes
  value_read_is u bytes (Err r) h = h

  pub include_is : (at u : ℕ) → IncludedIs (Stated s 9) (include_at false s at u).answer
  unfolding include_at is_one
  include_is at u = value_read_is u _ (argument_at false s at u 9) (value_is s (StatementRefusal 9) 9 (name_refusable 9 4 refl) at u)

-- ---- a step, and all of them

module _ (s : List ℕ) where
  abbrev Met_here : Refusal → Type 0
  Met_here r = MetRefusal DependenciesRefusal s r

  -- of a statement
  of_statement : (k : ℕ) (r : Refusal) → (StatementRefusal k r → DependenciesRefusal r) → Stated s k r → Met_here r
  of_statement k r f (high m) = high m
  of_statement k r f (other h) = other (f h)

  abbrev NextIs : Result (Option Sofar) Refusal → Type 0
  NextIs (Ok (Some far)) = Unit {0}
  NextIs (Ok None) = Unit {0}
  NextIs (Err r) = Met_here r

  full_is : (n k at : ℕ) (x : Step) → is_one k (8 ∷ 9 ∷ []) ≡ true → NextIs x.answer → NextIs (unless_full n k at x).answer
  unfolding unless_full is_one
  full_is n k at x own h =
      by_test (leb 256 n) (λ t. rw t (other (rows (of (10 ∷ []) (8 ∷ 9 ∷ []) 10 k at refl own)))) (λ t. rw t h)

  import_step_is : (far : Sofar) (bs : List ℕ) (i : Result (Cursor × ℕ × YangImport) Refusal) → ImportedIs (Stated s 8) i → NextIs (import_step far bs i).answer
  unfolding import_step
  import_step_is far bs (Ok (c, n, i)) h = tt
  import_step_is far bs (Err r) h = of_statement 8 r import h

  include_step_is : (far : Sofar) (bs : List ℕ) (i : Result (Cursor × ℕ × YangInclude) Refusal) → IncludedIs (Stated s 9) i → NextIs (include_step far bs i).answer
  unfolding include_step
  include_step_is far bs (Ok (c, n, i)) h = tt
  include_step_is far bs (Err r) h = of_statement 9 r include h

  token_is : (far : Sofar) (d : Result Cursor Refusal) → DueIs Met_here d → NextIs (after_token far d)
  unfolding after_token
  token_is far (Ok c) h = tt
  token_is far (Err r) h = h

  head_is : (far : Sofar) (at : ℕ) (w : Head) → NextIs (head_step false s far at w).answer
  unfolding head_step import_here include_here is_one past_token
  head_is far at (Import c) =
      full_is far.imports 8 c.at _ refl (import_step_is far _ (import_at false s c.at far.used).answer (import_is s c.at far.used))
  head_is far at (Include c) =
      full_is far.includes 9 c.at _ refl (include_step_is far _ (include_at false s c.at far.used).answer (include_is s c.at far.used))
  head_is far at (Last c) = tt
  head_is far at Other = token_is far (past_token false s at) (past_is s DependenciesRefusal (length s) (token_at s at) (token_refused s at))

  step_is : (far : Sofar) → NextIs (step_at false s far).answer
  unfolding step_at step_here
  step_is far =
      let g = gap_end s far.at in
      by_test (leb (length s) g) (λ t. rw t tt) (λ t. rw t (head_is far g (head_at s g)))

  abbrev pub ScanIs : Deps.Scan → Type 0
  ScanIs (Deps.good d) = Unit {0}
  ScanIs (Deps.bad r d) = Met_here r

  turn_is : (d : Deps.Dependencies) (x : Result (Option Sofar) Refusal) (r : Deps.Scan) → NextIs x → after_step d x ≡ stop r → ScanIs r
  unfolding after_step
  turn_is d (Ok (Some far)) r h e = let z : ◌≡◌ {A = ℕ} 0 1 = cc in absurd (omega arith)
  turn_is d (Ok None) r h e = let q : Deps.good d ≡ r = cc in subst ScanIs q tt
  turn_is d (Err x) r h e = let q : Deps.bad x d ≡ r = cc in subst ScanIs q h

  pub scanned_is : ScanIs (Deps.scanned false s)
  unfolding Deps.scanned Deps.scan_from scan_turn
  scanned_is =
      turns_all (scan_turn false s) (Deps.good Deps.none) ScanIs (λ a r e. turn_is _ (step_at false s a.far).answer r (step_is a.far) e) tt
      (suc (length s)) _

-- ---- what comes first

module _ (s : List ℕ) (short : Bool) where
  abbrev pub LentIs : Result (Unit {0}) Refusal → Type 0
  LentIs (Ok tt) = Fits s short
  LentIs (Err r) = FirstRefusal s short r

  pub lent_is : LentIs (lent_at s short)
  lent_is =
      let at = wrong_from s 0 in
      by_test (ltb 1048576 (length s))
      (λ t. let h = ltb-true 1048576 (length s) t in subst LentIs (lent_long s short h) (too_long h refl))
      (λ t. let f = ltb-false 1048576 (length s) t in
      by_test short (λ v. subst LentIs (lent_short s short f v) (too_little f v refl))
      (λ v. by_test (ltb at (length s)) (λ w. let h = ltb-true at (length s) w in subst LentIs (lent_wrong s short f v refl h) (not_utf8 f v h refl))
      (λ w. let h = ltb-false at (length s) w in
      let e : at ≡ length s = omega (arith, wrong_within s 0 (omega arith)) in
      subst LentIs (lent_fit s short f v refl h) (record { few = f; enough = v; utf8 = e }))))

  pub first_unfit : (r : Refusal) → FirstRefusal s short r → lent_at s short ≡ Err r
  first_unfit r (too_long h e) = sym (lent_long s short h) ∙ ap Err (sym e)
  first_unfit r (too_little f h e) = sym (lent_short s short f h) ∙ ap Err (sym e)
  first_unfit r (not_utf8 f v h e) = sym (lent_wrong s short f v refl h) ∙ ap Err (sym e)

  pub first_number : (r : Refusal) → FirstRefusal s short r → r.number ≡ 0 → ⊥
  first_number r (too_long h e) z = omega (arith, z, ap (λ q. q.number) e)
  first_number r (too_little h k e) z = omega (arith, z, ap (λ q. q.number) e)
  first_number r (not_utf8 h k l e) z = omega (arith, z, ap (λ q. q.number) e)

  EntryIs : Deps.Scan → Type 0
  EntryIs (Deps.good d) = Unit {0}
  EntryIs (Deps.bad r d) = RefusedAs (MetRefusal DependenciesRefusal s) s short r

  pub dependencies_refused : (r : Refusal) (d : Deps.Dependencies) → Deps.dependencies false s short ≡ Deps.bad r d → RefusedAs (MetRefusal DependenciesRefusal s) s short r
  unfolding Deps.dependencies Deps.if_fit EntryIs
  dependencies_refused r d e = subst EntryIs e (go (lent_at s short) lent_is)
    where
      scan : (x : Deps.Scan) → Fits s short → ScanIs s x → EntryIs x
      scan (Deps.good k) f h = tt
      scan (Deps.bad q k) f h = read f h

      go : (x : Result (Unit {0}) Refusal) → LentIs x → EntryIs (Deps.if_fit x (Deps.scanned false s))
      go (Ok tt) h = scan (Deps.scanned false s) h (scanned_is s)
      go (Err q) h = first h

  pub dependencies_first : (whole : Bool) (r : Refusal) → FirstRefusal s short r → Deps.dependencies whole s short ≡ Deps.bad r Deps.none
  unfolding Deps.dependencies Deps.if_fit
  dependencies_first whole r f = ap (λ x. Deps.if_fit x (Deps.scanned whole s)) (first_unfit r f)
