-- Metadata: name (last wins), parent (last wins), namespace (last wins), prefix (first wins), revision (first wins) and the newest revision. 9: metadata
-- without a name (keyword 0), where the scan stopped. 1 to 3 come first; 4 to 9 in reading order.
-- 2026-07: beside this mode there is a whole-text mode. In it the first string of a token or value that never closes, and the first skipped statement that the
-- text's end ends, is refused by 11.
-- Assumes nothing.
use Rattle.std.specs.Prelude.{ℕ, suc, Bool, cond, List, [], ◌∷◌, ◌++◌, eqb, length, Ok, Err, Result}
use Rattle.text.specs.Refusal.{no_refusal}
use Rattle.text.specs.Turns.{Turn, stop, on, turns}
use Rattle.text.specs.Words.{belongs_to_keyword, namespace_keyword, prefix_keyword, revision_keyword}
use Rattle.text.specs.declared.Refusal.{Refusal}
use Rattle.text_lent.specs.Lent.{lent_at}
use Rattle.scan_rows.specs.Span.{missing}
use Rattle.scan_rows.specs.declared.Span.{Span}
use Rattle.scan_newest.specs.Newest.{Revision, newest}
use Rattle.scan_header.specs.Header.{said_at}
use Rattle.scan_header.specs.declared.Heard.{Heard}
use Rattle.scan_header.specs.declared.Heard.TheVariants.{Value, Passed, Done}
use Rattle.scan_metadata.specs.declared.YangModuleMetadata.{YangModuleMetadata}

abbrev pub no_name : ℕ
no_name = 9

-- ---- what the scan reads: values, all revisions in order, and the bytes stored

pub record Metadata : Type 0 where
  pub name : Span
  pub namespace : Span
  pub prefix : Span
  pub parent : Span
  pub revisions : List Revision
  pub bytes : List ℕ

abbrev pub nothing : Metadata
nothing = record { name = missing; namespace = missing; prefix = missing; parent = missing; revisions = []; bytes = [] }

-- the value x of the keyword k, whose bytes are bs
unfoldable pub told : Metadata → ℕ → Span → List ℕ → Metadata
told m k x bs =
    cond (eqb k revision_keyword)
    (record {
      name = m.name;
      namespace = m.namespace;
      prefix = m.prefix;
      parent = m.parent;
      revisions = m.revisions ++ record { span = x; value = bs }
          ∷ [];
      bytes = m.bytes ++ bs;
    })
    (cond (eqb k belongs_to_keyword)
    (record { name = m.name; namespace = m.namespace; prefix = m.prefix; parent = x; revisions = m.revisions; bytes = m.bytes ++ bs })
    (cond (eqb k namespace_keyword)
    (record { name = m.name; namespace = x; prefix = m.prefix; parent = m.parent; revisions = m.revisions; bytes = m.bytes ++ bs })
    (cond (eqb k prefix_keyword)
    (record { name = m.name; namespace = m.namespace; prefix = x; parent = m.parent; revisions = m.revisions; bytes = m.bytes ++ bs })
    (record { name = x; namespace = m.namespace; prefix = m.prefix; parent = m.parent; revisions = m.revisions; bytes = m.bytes ++ bs }))))

-- ---- the six values: name, namespace, prefix, first revision, parent, newest

unfoldable pub first_of : List Revision → Span
first_of [] = missing
first_of (r ∷ rs) = r.span

unfoldable pub values_of : Metadata → List Span
values_of m = m.name ∷ m.namespace ∷ m.prefix ∷ first_of m.revisions ∷ m.parent ∷ (newest m.revisions).span ∷ []

abbrev pub no_values : List Span
no_values = missing ∷ missing ∷ missing ∷ missing ∷ missing ∷ missing ∷ []

-- ---- all statements

-- where the scan stands, and what it read so far
pub record Reading : Type 0 where
  pub at : ℕ
  pub read : Metadata

-- all that was read; or the refusal, and the bytes stored before it
pub data Scan : Type 0 where
  good : Metadata → Scan
  bad : Refusal → List ℕ → Scan

-- a name is required
unfoldable pub ended : Metadata → ℕ → Scan
ended m at = cond m.name.present (good m) (bad (record { number = no_name; keyword = 0; at = at }) m.bytes)

unfoldable pub after_heard : Metadata → List ℕ → Result Heard Refusal → Turn Reading Scan
after_heard m bs (Ok (Value k x c n)) = on (record { at = c.at; read = told m k x bs })
after_heard m bs (Ok (Passed c)) = on (record { at = c.at; read = m })
after_heard m bs (Ok (Done c)) = stop (ended m c.at)
after_heard m bs (Err r) = stop (bad r (m.bytes ++ bs))

-- whole: the whole-text mode
unfoldable pub metadata_turn : Bool → List ℕ → Reading → Turn Reading Scan
metadata_turn whole s g =
    after_heard g.read (said_at whole s g.at (length g.read.bytes) g.read.prefix.present).bytes
    (said_at whole s g.at (length g.read.bytes) g.read.prefix.present).answer

unfoldable pub scan_from : Bool → List ℕ → Reading → Scan
scan_from whole s g = turns (metadata_turn whole s) (good nothing) (suc (length s)) g

unfoldable pub scanned : Bool → List ℕ → Scan
scanned whole s = scan_from whole s (record { at = 0; read = nothing })

-- ---- with the checks that come first; short: whether something lent is too short

unfoldable pub if_fit : Result (Unit {0}) Refusal → Scan → Scan
if_fit (Ok tt) x = x
if_fit (Err r) x = bad r []

unfoldable pub metadata : Bool → List ℕ → Bool → Scan
metadata whole s short = if_fit (lent_at s short) (scanned whole s)

-- ---- what is answered, written and kept

-- a refusal leaves no value
unfoldable pub refused_with : Refusal → YangModuleMetadata
refused_with r = record { values = no_values; answer = r; used = 0 }

abbrev pub good_with : List Span → ℕ → YangModuleMetadata
good_with vs n = record { values = vs; answer = no_refusal; used = n }

unfoldable pub answer_of : Scan → YangModuleMetadata
answer_of (good m) = good_with (values_of m) (length m.bytes)
answer_of (bad r bs) = refused_with r

-- what the inner scan stores, on a refusal too
unfoldable pub stored_of : Scan → List ℕ
stored_of (good m) = m.bytes
stored_of (bad r bs) = bs

-- what the entry leaves: every refusal leaves store and record zero
unfoldable pub kept_of : Scan → List ℕ
kept_of (good m) = m.bytes
kept_of (bad r bs) = []
