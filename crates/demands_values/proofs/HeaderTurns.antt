-- One turn of the metadata scan: which of the six keywords stands there, what it gives, and that all other values stay.
-- Assumes nothing.
use Rattle.std.specs.Prelude.{Some, None, Ok, Err, Option, Result}
use Prim.Native.Nat.{ℕ, ◌+◌, ◌-◌, ◌≤◌}
use mathlib.Core.Path.{◌≡◌, refl, sym, subst}
use mathlib.Core.Logic.{◌⊎◌, inl, inr}
use mathlib.Core.Bool.{Bool, true, false}
use mathlib.Core.List.{List, [], ◌∷◌, ◌++◌, append-nil}
use lib.Dec.{eqb, leb}
use lib.ListN.{length}
use borrow.Author.Tests.{leb-true}
use Rattle.text.specs.Keyword.{same, match_at}
use Rattle.text.specs.Scan.{gap_end}
use Rattle.text.specs.Words.{module_word, submodule_word, belongs_to_word, namespace_word, prefix_word, yang_version_word, revision_word}
use Rattle.text.specs.declared.Cursor.{Cursor}
use Rattle.text.proofs.Here.{by_test, both, never}
use Rattle.text.proofs.KeywordLaws.{same_yes, match_past}
use Rattle.text_value.specs.Argument.{argument_at}
use Rattle.text_value.specs.Value.{value_at, value_bytes}
use Rattle.text_value.proofs.ArgumentLaws.{argument_far}
use Rattle.text_skip.specs.Skip.{past_token, past_value}
use Rattle.text_statement.specs.Statement.{past_statement}
use Rattle.scan_rows.specs.Span.{held}
use Rattle.scan_rows.specs.declared.Span.{Span}
use Rattle.scan_newest.specs.Newest.{Revision}
use Rattle.scan_tag.specs.Tag.{last_tag, or_tag, data_at, tag_at}
use Rattle.scan_tag.specs.declared.Tag.{Tag}
use Rattle.scan_tag.specs.declared.Tag.TheVariants.{Statement}
use Rattle.scan_header.specs.Header.{after_value, passed, kept, with_rest, field_at, after_skipped, later_prefix, statement_said, tag_said}
use Rattle.scan_header.specs.Header.{said_here, said_at}
use Rattle.scan_header.specs.declared.Heard.{Heard}
use Rattle.scan_header.specs.declared.Heard.TheVariants.{Value, Passed, Done}
use Rattle.scan_metadata.specs.Metadata.{Metadata, told, Reading, metadata_turn}
use Rattle.demands_values.specs.Behind.{Behind}
use Rattle.demands_values.proofs.BehindLaws.{argument_value, other_not, held_new, behind_new}
use Rattle.demands_values.proofs.Walks.{Gives}
use Rattle.text.specs.declared.Refusal.{Refusal}

-- ---- the keywords at a place

-- two words that differ
apart : (v w : List ℕ) → same v w ≡ false → v ≡ w → ⊥
apart v w f e = never f (same_yes v w e)

-- none of the six that have a value in the record
pub record Frees (s : List ℕ) (p : ℕ) : Type 0 where
  pub module_not : match_at s p module_word ≡ None
  pub submodule_not : match_at s p submodule_word ≡ None
  pub parent_not : match_at s p belongs_to_word ≡ None
  pub namespace_not : match_at s p namespace_word ≡ None
  pub prefix_not : match_at s p prefix_word ≡ None
  pub revision_not : match_at s p revision_word ≡ None

frees_past : (s : List ℕ) (p : ℕ) → length s ≤ p → Frees s p
frees_past s p l =
    let no : (word : List ℕ) → match_at s p word ≡ None = λ word. match_past s p word l in
    record {
      module_not = no module_word;
      submodule_not = no submodule_word;
      parent_not = no belongs_to_word;
      namespace_not = no namespace_word;
      prefix_not = no prefix_word;
      revision_not = no revision_word;
    }

-- yang-version stands there
frees_version : (s : List ℕ) (p : ℕ) {c : Cursor} → match_at s p yang_version_word ≡ Some c → Frees s p
unfolding same
frees_version s p m =
    let no : (word : List ℕ) → same yang_version_word word ≡ false → match_at s p word ≡ None
    = λ word f. other_not s p yang_version_word word m (apart yang_version_word word f) in
    record {
      module_not = no module_word refl;
      submodule_not = no submodule_word refl;
      parent_not = no belongs_to_word refl;
      namespace_not = no namespace_word refl;
      prefix_not = no prefix_word refl;
      revision_not = no revision_word refl;
    }

-- ---- a turn from the state g; m: what was told behind it

-- the turn gives the name y, or x stays
abbrev pub NameGives : List ℕ → ℕ → List ℕ → Span → Span → Type 0
NameGives s p store x y =
    ((word : List ℕ) × ((word ≡ module_word) ⊎ (word ≡ submodule_word)) × Behind s word p store y)
    ⊎ ((match_at s p module_word ≡ None) × (match_at s p submodule_word ≡ None) × (y ≡ x))

-- it adds a revision, or none
abbrev pub RevisionGives : List ℕ → ℕ → List ℕ → List Revision → List Revision → Type 0
RevisionGives s p store rs qs =
    ((r : Revision) × (qs ≡ rs ++ r ∷ []) × Behind s revision_word p store r.span) ⊎ ((qs ≡ rs) × (match_at s p revision_word ≡ None))

abbrev pub WordGives : List ℕ → List ℕ → Reading → List ℕ → Span → Span → Type 0
WordGives s word g store x y = Gives (metadata_turn false s) (λ b. b.at) s word g store x y

pub record Turns (s : List ℕ) (g : Reading) (m : Metadata) : Type 0 where
  pub part : List ℕ
  pub grown : m.bytes ≡ g.read.bytes ++ part
  pub name : NameGives s (gap_end s g.at) m.bytes g.read.name m.name
  pub namespace : WordGives s namespace_word g m.bytes g.read.namespace m.namespace
  pub parent : WordGives s belongs_to_word g m.bytes g.read.parent m.parent
  pub prefix_kept : g.read.prefix.present ≡ true → m.prefix ≡ g.read.prefix
  pub prefix : g.read.prefix.present ≡ false → WordGives s prefix_word g m.bytes g.read.prefix m.prefix
  pub revision : RevisionGives s (gap_end s g.at) m.bytes g.read.revisions m.revisions

module _ (s : List ℕ) (g : Reading) where
  abbrev pub place : ℕ
  place = gap_end s g.at

  -- nothing is told
  passed_turn : Frees s place → Turns s g g.read
  passed_turn f = record {
    part = [];
    grown = sym (append-nil g.read.bytes);
    name = inr (f.module_not, f.submodule_not, refl);
    namespace = inr (f.namespace_not, refl);
    parent = inr (f.parent_not, refl);
    prefix_kept = λ t. refl;
    prefix = λ t. inr (f.prefix_not, refl);
    revision = inr (refl, f.revision_not);
  }

  -- a later prefix is passed
  later_turn : {c : Cursor} → match_at s place prefix_word ≡ Some c → g.read.prefix.present ≡ true → Turns s g g.read
  unfolding same
  later_turn m t =
      let no : (word : List ℕ) → same prefix_word word ≡ false → match_at s place word ≡ None
      = λ word f. other_not s place prefix_word word m (apart prefix_word word f) in
      record {
        part = [];
        grown = sym (append-nil g.read.bytes);
        name = inr (no module_word refl, no submodule_word refl, refl);
        namespace = inr (no namespace_word refl, refl);
        parent = inr (no belongs_to_word refl, refl);
        prefix_kept = λ t. refl;
        prefix = λ f. absurd (never f t);
        revision = inr (refl, no revision_word refl);
      }

  -- the keyword k with the word v, and a value x whose bytes are bs
  module _ (v : List ℕ) (c : Cursor) (m : match_at s place v ≡ Some c) (bs : List ℕ) (x : Span) (new : Behind s v place (g.read.bytes ++ bs) x) where
    no : (word : List ℕ) → same v word ≡ false → match_at s place word ≡ None
    no word f = other_not s place v word m (apart v word f)

    named : (k : ℕ) → eqb k 7 ≡ false → eqb k 3 ≡ false → eqb k 4 ≡ false → eqb k 5 ≡ false → (v ≡ module_word) ⊎ (v ≡ submodule_word)
        → same v namespace_word ≡ false → same v belongs_to_word ≡ false → same v prefix_word ≡ false → same v revision_word ≡ false
        → Turns s g (told g.read k x bs)
    unfolding told
    named k q₇ q₃ q₄ q₅ either n b p r =
        rw (q₇, q₃, q₄, q₅) (record {
          part = bs;
          grown = refl;
          name = inl (v, either, new);
          namespace = inr (no namespace_word n, refl);
          parent = inr (no belongs_to_word b, refl);
          prefix_kept = λ t. refl;
          prefix = λ t. inr (no prefix_word p, refl);
          revision = inr (refl, no revision_word r);
        })

    -- of any other keyword the name stays
    module _ (n₁ : same v module_word ≡ false) (n₂ : same v submodule_word ≡ false) where
      name_stays : NameGives s place (g.read.bytes ++ bs) g.read.name g.read.name
      name_stays = inr (no module_word n₁, no submodule_word n₂, refl)

      belongs : v ≡ belongs_to_word → same v namespace_word ≡ false → same v prefix_word ≡ false → same v revision_word ≡ false → Turns s g (told g.read 3 x bs)
      unfolding told
      belongs e n p r = record {
        part = bs;
        grown = refl;
        name = name_stays;
        namespace = inr (no namespace_word n, refl);
        parent = inl (subst (λ w. Behind s w place (g.read.bytes ++ bs) x) e new);
        prefix_kept = λ t. refl;
        prefix = λ t. inr (no prefix_word p, refl);
        revision = inr (refl, no revision_word r);
      }

      spaced : v ≡ namespace_word → same v belongs_to_word ≡ false → same v prefix_word ≡ false → same v revision_word ≡ false → Turns s g (told g.read 4 x bs)
      unfolding told
      spaced e b p r = record {
        part = bs;
        grown = refl;
        name = name_stays;
        namespace = inl (subst (λ w. Behind s w place (g.read.bytes ++ bs) x) e new);
        parent = inr (no belongs_to_word b, refl);
        prefix_kept = λ t. refl;
        prefix = λ t. inr (no prefix_word p, refl);
        revision = inr (refl, no revision_word r);
      }

      prefixed : v ≡ prefix_word → g.read.prefix.present ≡ false → same v namespace_word ≡ false → same v belongs_to_word ≡ false → same v revision_word ≡ false
          → Turns s g (told g.read 5 x bs)
      unfolding told
      prefixed e f n b r = record {
        part = bs;
        grown = refl;
        name = name_stays;
        namespace = inr (no namespace_word n, refl);
        parent = inr (no belongs_to_word b, refl);
        prefix_kept = λ t. absurd (never f t);
        prefix = λ t. inl (subst (λ w. Behind s w place (g.read.bytes ++ bs) x) e new);
        revision = inr (refl, no revision_word r);
      }

      revised : v ≡ revision_word → same v namespace_word ≡ false → same v belongs_to_word ≡ false → same v prefix_word ≡ false → Turns s g (told g.read 7 x bs)
      unfolding told
      revised e n b p = record {
        part = bs;
        grown = refl;
        name = name_stays;
        namespace = inr (no namespace_word n, refl);
        parent = inr (no belongs_to_word b, refl);
        prefix_kept = λ t. refl;
        prefix = λ t. inr (no prefix_word p, refl);
        revision = inl (record { span = x; value = bs }, refl, subst (λ w. Behind s w place (g.read.bytes ++ bs) x) e new);
      }

  -- ---- what a step that answered leaves

  abbrev pub HeardHas : List ℕ → Result Heard Refusal → Type 0
  HeardHas bs (Ok (Value k x c n)) = Turns s g (told g.read k x bs)
  HeardHas bs (Ok (Passed c)) = Turns s g g.read
  HeardHas bs (Ok (Done c)) = Frees s place
  HeardHas bs (Err r) = Unit {0}

  passed_has : Turns s g g.read → (d : Result Cursor Refusal) → HeardHas [] (passed d)
  unfolding passed
  passed_has h (Ok c) = h
  passed_has h (Err r) = tt

  skipped_has : Turns s g g.read → (k : ℕ) (x : Result Cursor Refusal) → HeardHas [] (after_skipped false s k x)
  unfolding after_skipped
  skipped_has h k (Ok c) = passed_has h (after_value false s c.at k)
  skipped_has h k (Err r) = tt

  abbrev pub has_prefix : Bool
  has_prefix = g.read.prefix.present

  -- the keyword k, which is not yang-version's, with the word v, which ends at c
  module _ (k : ℕ) (v : List ℕ) (c : Cursor) (m : match_at s place v ≡ Some c)
      (tell : later_prefix k has_prefix ≡ false → (bs : List ℕ) (x : Span) → Behind s v place (g.read.bytes ++ bs) x → Turns s g (told g.read k x bs))
      (later : later_prefix k has_prefix ≡ true → Turns s g g.read) (six : eqb k 6 ≡ false) where
    kept_has : later_prefix k has_prefix ≡ false → (bs : List ℕ) (u n : ℕ) (d : Result Cursor Refusal) → Behind s v place (g.read.bytes ++ bs) (held u (n - u))
        → HeardHas bs (kept k u n d)
    unfolding kept
    kept_has f bs u n (Ok e) h = tell f bs (held u (n - u)) h
    kept_has f bs u n (Err r) h = tt

    rest_has : later_prefix k has_prefix ≡ false → (u : ℕ) → u ≡ length g.read.bytes → (a : Result (Cursor × ℕ) Refusal) → argument_at false s c.at u k ≡ a
        → HeardHas (value_bytes (value_at s c.at)) (with_rest false s k u a)
    unfolding with_rest
    rest_has f u count (Ok (e, n)) h =
        let bs = value_bytes (value_at s c.at) in
        let far = argument_far false s c.at u k e n h in
        kept_has f bs u n (after_value false s e.at k)
        (behind_new g.read.bytes bs (held u (n - u)) m (argument_value s c.at u k e n h) (held_new g.read.bytes bs count far.3))
    rest_has f u count (Err r) h = tt

    statement_has : (u : ℕ) → u ≡ length g.read.bytes
        → HeardHas (statement_said false s c.at k u has_prefix).bytes (statement_said false s c.at k u has_prefix).answer
    unfolding statement_said field_at
    statement_has u count =
        rw six (by_test (later_prefix k has_prefix) (λ t. rw t (passed_has (later t) (past_statement false s c.at)))
        (λ t. rw t (rest_has t u count (argument_at false s c.at u k) refl)))

  -- ---- which keyword stands there; u: the store's next place

  module _ (u : ℕ) (count : u ≡ length g.read.bytes) where
    abbrev TagHas : Tag → Type 0
    TagHas t = HeardHas (tag_said false s place u has_prefix t).bytes (tag_said false s place u has_prefix t).answer

    or_has : (k : ℕ) (word : List ℕ) (t : Tag) → ((c : Cursor) → match_at s place word ≡ Some c → TagHas (Statement k c))
        → (match_at s place word ≡ None → TagHas t) → TagHas (or_tag k (match_at s place word) t)
    unfolding or_tag
    or_has k word t f h = of (match_at s place word) refl
      where
        of : (m : Option Cursor) → match_at s place word ≡ m → TagHas (or_tag k m t)
        of (Some c) e = f c e
        of None e = h e

    -- a keyword that is always read
    word_has : (k : ℕ) (word : List ℕ) → eqb k 6 ≡ false → eqb k 5 ≡ false
        → ((c : Cursor) → match_at s place word ≡ Some c → (bs : List ℕ) (x : Span) → Behind s word place (g.read.bytes ++ bs) x
        → Turns s g (told g.read k x bs)) → (t : Tag) → (match_at s place word ≡ None → TagHas t) → TagHas (or_tag k (match_at s place word) t)
    unfolding tag_said later_prefix
    word_has k word six five tell t h =
        or_has k word t (λ c m. statement_has k word c m (λ f. tell c m) (λ e. absurd (never five (both (eqb k 5) has_prefix e).0)) six u count) h

    prefix_has : (c : Cursor) → match_at s place prefix_word ≡ Some c → TagHas (Statement 5 c)
    unfolding tag_said later_prefix same
    prefix_has c m =
        statement_has 5 prefix_word c m (λ f bs x b. prefixed prefix_word c m bs x b refl refl refl f refl refl refl) (later_turn m) refl u count

    version_has : (c : Cursor) → match_at s place yang_version_word ≡ Some c → TagHas (Statement 6 c)
    unfolding tag_said statement_said
    version_has c m = skipped_has (passed_turn (frees_version s place m)) 6 (past_value false s c.at)

    last_has : Frees s place → (m : Option Cursor) → TagHas (last_tag m)
    unfolding last_tag tag_said
    last_has f (Some c) = f
    last_has f None = passed_has (passed_turn f) (past_token false s place)

    tag_has : TagHas (tag_at s place)
    unfolding tag_at same
    tag_has =
        word_has 1 module_word refl refl (λ c m bs x b. named module_word c m bs x b 1 refl refl refl refl (inl refl) refl refl refl refl) _
        (λ n₁. word_has 2 submodule_word refl refl (λ c m bs x b. named submodule_word c m bs x b 2 refl refl refl refl (inr refl) refl refl refl refl) _
        (λ n₂. word_has 3 belongs_to_word refl refl (λ c m bs x b. belongs belongs_to_word c m bs x b refl refl refl refl refl refl) _
        (λ n₃. word_has 4 namespace_word refl refl (λ c m bs x b. spaced namespace_word c m bs x b refl refl refl refl refl refl) _
        (λ n₄. or_has 5 prefix_word _ prefix_has
        (λ n₅. or_has 6 yang_version_word _ version_has
        (λ n₆. word_has 7 revision_word refl refl (λ c m bs x b. revised revision_word c m bs x b refl refl refl refl refl refl) _
        (λ n₇. last_has (record {
          module_not = n₁;
          submodule_not = n₂;
          parent_not = n₃;
          namespace_not = n₄;
          prefix_not = n₅;
          revision_not = n₇;
        }) (data_at s place))))))))

    pub said_has : HeardHas (said_at false s g.at u has_prefix).bytes (said_at false s g.at u has_prefix).answer
    unfolding said_at said_here
    said_has =
        by_test (leb (length s) place) (λ t. rw t (frees_past s place (leb-true (length s) place t))) (λ t. rw t tag_has)
