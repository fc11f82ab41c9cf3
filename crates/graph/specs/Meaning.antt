-- What is read and what is an edge, with no order, depth or fuel in it; and what a refusal means, with the depth and the order of entries that the rules have.
-- Assumes nothing.
use Rattle.std.specs.Prelude.{ℕ, zero, suc, ◌+◌, ◌≤◌, ◌<◌, ◌≡◌, length}
use mathlib.Core.List.{List, [], ◌∷◌, ◌++◌, Memᴰ, Nodup}
use Rattle.library_image.specs.Library.{Name, PlainModule, PlainImportOnly, PlainLibrary, modules_of, import_only_of}
use Rattle.graph.specs.Nodes.{Mode, nodes_of}
use Rattle.text.specs.Refusal.{no_refusal}
use Rattle.graph.specs.Graph.{ScanAnswer, Text, missing, refusing, deps, no_entry_text, no_included_text, scan_refused, unknown_module, unknown_submodule}
use Rattle.graph.specs.Graph.{no_node, too_deep, too_many_nodes, too_many_edges, Edge, Entry, entries, entry_names, submodule_names}

-- as in every image: no import-only module is without a revision
abbrev pub Revised : PlainLibrary → Type 0
Revised l = (i : PlainImportOnly) → Memᴰ i (import_only_of l) → (subs : List Name) × Memᴰ subs i.revisions

-- ---- what is read, and what is an edge

-- the text of v imports u; the text of v includes u
pub record Imports (text : Name → Text) (v u : Name) : Type 0 where
  pub imports : List Name
  pub includes : List Name
  pub scan : text v ≡ deps imports includes
  pub one : Memᴰ u imports

pub record Includes (text : Name → Text) (v u : Name) : Type 0 where
  pub imports : List Name
  pub includes : List Name
  pub scan : text v ≡ deps imports includes
  pub one : Memᴰ u includes

-- the text of v is read
pub data Reads (text : Name → Text) (l : PlainLibrary) : Name → Type 0 where
  entry : {v : Name} → Memᴰ v (entry_names l) → Reads text l v
  included : {v u : Name} → Reads text l v → Includes text v u → Reads text l u

-- there is an edge from u to v
pub data IsEdge (text : Name → Text) (l : PlainLibrary) (u v : Name) : Type 0 where
  imports : Reads text l v → Imports text v u → IsEdge text l u v
  includes : Reads text l v → Includes text v u → IsEdge text l u v
  augments : (m : PlainModule) → Memᴰ m (modules_of l) → u ≡ m.name → Memᴰ v m.augmenting → IsEdge text l u v
  deviates : (m : PlainModule) → Memᴰ m (modules_of l) → u ≡ m.name → Memᴰ v m.deviations → IsEdge text l u v

abbrev pub AllEdges : (Name → Text) → PlainLibrary → List Edge → Type 0
AllEdges text l es = (e : Edge) → Memᴰ e es → IsEdge text l e.from e.to

-- ---- what is refused

module _ (mode : Mode) (text : Name → Text) (l : PlainLibrary) where
  -- an include that the walk follows
  pub record Follows (v u : Name) : Type 0 where
    pub includes : Includes text v u
    pub listed : Memᴰ u (submodule_names l)
    pub node : Memᴰ u (nodes_of mode l)

  -- for the entry x the text of v is read with so much depth left: 8 for its own, one less for each include on the way
  pub data ReadAt (x : Entry) : ℕ → Name → Type 0 where
    entry : {v : Name} → v ≡ x.name → ReadAt x 8 v
    included : {left : ℕ} {v u : Name} → ReadAt x (suc left) v → Follows v u → ReadAt x left u

  -- what the walk of the entry x may be refused for
  pub data Fault (x : Entry) : ℕ → ScanAnswer → Type 0 where
    entry_missing : text x.name ≡ missing → Fault x no_entry_text no_refusal
    include_missing : {left : ℕ} {v u : Name} → ReadAt x (suc left) v → Follows v u → text u ≡ missing → Fault x no_included_text no_refusal
    scan_refused_lem : {left : ℕ} {v : Name} {a : ScanAnswer} → ReadAt x left v → text v ≡ refusing a → Fault x scan_refused a
    import_unknown : {left : ℕ} {v u : Name} → ReadAt x left v → Imports text v u → ¬ Memᴰ u (entry_names l) → Fault x unknown_module no_refusal
    listed_unknown : {u : Name} → Memᴰ u x.lists → ¬ Memᴰ u (entry_names l) → Fault x unknown_module no_refusal
    include_unknown : {left : ℕ} {v u : Name} → ReadAt x left v → Includes text v u → ¬ Memᴰ u (submodule_names l)
        → Fault x unknown_submodule no_refusal
    include_no_node : {left : ℕ} {v u : Name} → ReadAt x left v → Includes text v u → Memᴰ u (submodule_names l)
        → ¬ Memᴰ u (nodes_of mode l) → Fault x no_node no_refusal
    too_deep_lem : {v u : Name} → ReadAt x zero v → Follows v u → Fault x too_deep no_refusal

  -- the entry x gives an edge from u to v: by a text that is read for it, or by its lists; what is a fault gives none
  pub data Gives (x : Entry) (u v : Name) : Type 0 where
    imports : {left : ℕ} → ReadAt x left v → Imports text v u → Memᴰ u (entry_names l) → Gives x u v
    includes : {left : ℕ} → ReadAt x left v → Follows v u → Gives x u v
    lists : u ≡ x.name → Memᴰ v x.lists → Memᴰ v (entry_names l) → Gives x u v

  -- one of the entries xs gives it
  pub record GivenBy (xs : List Entry) (e : Edge) : Type 0 where
    pub giver : Entry
    pub one : Memᴰ giver xs
    pub gives : Gives giver e.from e.to

  abbrev pub AllGivenBy : List Entry → List Edge → Type 0
  AllGivenBy xs es = (e : Edge) → Memᴰ e es → GivenBy xs e

  abbrev pub Faultless : Entry → Type 0
  Faultless x = (n : ℕ) (a : ScanAnswer) → ¬ Fault x n a

  -- what it takes to be built: the names within their limit, no entry with a fault, and no more different edges than their limit
  pub record Sound (node_limit edge_limit : ℕ) : Type 0 where
    pub nodes : length (nodes_of mode l) ≤ node_limit
    pub faults : (x : Entry) → Memᴰ x (entries l) → Faultless x
    pub edges : (es : List Edge) → Nodup es → AllEdges text l es → length es ≤ edge_limit

  -- x is the k-th entry, and no entry before it has a fault
  pub record FirstAt (k : ℕ) (x : Entry) : Type 0 where
    pub before : List Entry
    pub after : List Entry
    pub order : entries l ≡ before ++ (x ∷ after)
    pub number : k ≡ length before + 1
    pub faultless : (y : Entry) → Memᴰ y before → Faultless y

  -- why it is refused, by number, entry and the scan's answer
  pub data Cause (node_limit edge_limit : ℕ) : ℕ → ℕ → ScanAnswer → Type 0 where
    names : node_limit < length (nodes_of mode l) → Cause node_limit edge_limit too_many_nodes 0 no_refusal
    by_fault : {n k : ℕ} {a : ScanAnswer} (x : Entry) → FirstAt k x → Fault x n a → Cause node_limit edge_limit n k a
    -- the entries before x give no more different edges than the limit, and with x there are more
    edges : {k : ℕ} (x : Entry) (f : FirstAt k x) → ((es : List Edge) → Nodup es → AllGivenBy f.before es → length es ≤ edge_limit)
        → (es : List Edge) → Nodup es → AllGivenBy (f.before ++ (x ∷ [])) es → edge_limit < length es
        → Cause node_limit edge_limit too_many_edges k no_refusal
