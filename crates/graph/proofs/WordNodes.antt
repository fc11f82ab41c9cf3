-- The names of the nodes with their places are the nodes of the library without places: whether a name is added hangs on names alone.
-- Assumes nothing.
use mathlib.Core.Path.{◌≡◌, refl, sym, ap, ap₂, ◌∙◌}
use mathlib.Core.Bool.{Bool, true, false, cond}
use mathlib.Core.List.{List, [], ◌∷◌, ◌++◌, map, map-append, flat_map}
use Rattle.library_form.specs.Form.{PlacedName}
use Rattle.library_image.specs.Library.{Name, Module, ImportOnly, Library, plain_name, plain_module, plain_import_only, plain}
use Rattle.library_index.specs.Names.{among, add_new, add_all}
use Rattle.library_index.proofs.First.{among_map}
use Rattle.graph.specs.Nodes.{Mode, pass_over, complete, Group, module_group, revision_groups, set_groups, groups, add_group, add_groups, nodes_by, itself, memb}
use Rattle.graph.specs.Nodes.{word_nodes, nodes_of}
use Rattle.graph.specs.Demand3.{group_names, all_names}

abbrev texts : List PlacedName → List Name
texts ws = map plain_name ws

abbrev plain_group : Group PlacedName → Group Name
plain_group g = record { head = plain_name g.head; subs = texts g.subs }

-- ---- one after another

pub among_names : (u : Name) (ws : List PlacedName) → among plain_name u ws ≡ memb u (map plain_name ws)
among_names u ws = sym (among_map itself plain_name u ws)

snoc_names : (ns : List PlacedName) (w : PlacedName) → texts (ns ++ (w ∷ [])) ≡ texts ns ++ (plain_name w ∷ [])
snoc_names ns w = map-append plain_name ns (w ∷ [])

node_added : (ns : List PlacedName) (w : PlacedName) → texts (add_new plain_name ns w) ≡ add_new itself (texts ns) (plain_name w)
node_added ns w = go (among plain_name (plain_name w) ns) ∙ ap (λ b. cond b (texts ns) (texts ns ++ (plain_name w ∷ []))) (among_names (plain_name w) ns)
  where
    go : (b : Bool) → texts (cond b ns (ns ++ (w ∷ []))) ≡ cond b (texts ns) (texts ns ++ (plain_name w ∷ []))
    go true = refl
    go false = snoc_names ns w

pub nodes_added : (ws ns : List PlacedName) → map plain_name (add_all plain_name ns ws) ≡ add_all itself (map plain_name ns) (map plain_name ws)
unfolding add_all
nodes_added [] ns = refl
nodes_added (w ∷ ws) ns = nodes_added ws (add_new plain_name ns w) ∙ ap (λ l. add_all itself l (texts ws)) (node_added ns w)

group_added : (mode : Mode) (ns : List PlacedName) (g : Group PlacedName)
    → texts (add_group plain_name mode ns g) ≡ add_group itself mode (texts ns) (plain_group g)
group_added pass_over ns g =
    go (among plain_name (plain_name g.head) ns)
    ∙ ap (λ b. cond b (texts ns) (add_all itself (texts ns ++ (plain_name g.head ∷ [])) (texts g.subs))) (among_names (plain_name g.head) ns)
  where
    go : (b : Bool)
        → texts (cond b ns (add_all plain_name (ns ++ (g.head ∷ [])) g.subs))
        ≡ cond b (texts ns) (add_all itself (texts ns ++ (plain_name g.head ∷ [])) (texts g.subs))
    go true = refl
    go false = nodes_added g.subs (ns ++ (g.head ∷ [])) ∙ ap (λ l. add_all itself l (texts g.subs)) (snoc_names ns g.head)
group_added complete ns g = nodes_added (g.head ∷ g.subs) ns

groups_added : (mode : Mode) (gs : List (Group PlacedName)) (ns : List PlacedName)
    → texts (add_groups plain_name mode ns gs) ≡ add_groups itself mode (texts ns) (map plain_group gs)
unfolding add_groups
groups_added mode [] ns = refl
groups_added mode (g ∷ gs) ns =
    groups_added mode gs (add_group plain_name mode ns g) ∙ ap (λ l. add_groups itself mode l (map plain_group gs)) (group_added mode ns g)

-- ---- the groups without places

modules_plain : (ms : List Module) → map plain_group (map module_group ms) ≡ map module_group (map plain_module ms)
modules_plain [] = refl
modules_plain (m ∷ ms) = ap (λ l. module_group (plain_module m) ∷ l) (modules_plain ms)

revisions_plain : (w : PlacedName) (rs : List (List PlacedName))
    → map plain_group (map (λ (subs : List PlacedName). record { head = w; subs = subs }) rs)
    ≡ map (λ (subs : List Name). record { head = plain_name w; subs = subs }) (map (map plain_name) rs)
revisions_plain w [] = refl
revisions_plain w (r ∷ rs) = ap (λ (l : List (Group Name)). record { head = plain_name w; subs = texts r } ∷ l) (revisions_plain w rs)

imports_plain : (is : List ImportOnly) → map plain_group (flat_map revision_groups is) ≡ flat_map revision_groups (map plain_import_only is)
unfolding flat_map
imports_plain [] = refl
imports_plain (i ∷ is) =
    map-append plain_group (revision_groups i) (flat_map revision_groups is) ∙ ap₂ ◌++◌ (revisions_plain i.name i.revisions) (imports_plain is)

groups_plain : (l : Library) → map plain_group (groups l) ≡ groups (plain l)
unfolding flat_map
groups_plain [] = refl
groups_plain (s ∷ l) = map-append plain_group (set_groups s) (groups l)
    ∙ ap₂ ◌++◌ (map-append plain_group (map module_group s.modules) (flat_map revision_groups s.import_only)
    ∙ ap₂ ◌++◌ (modules_plain s.modules) (imports_plain s.import_only)) (groups_plain l)

pub node_names : (mode : Mode) (l : Library) → map plain_name (word_nodes mode l) ≡ nodes_of mode (plain l)
unfolding nodes_by
node_names mode l = groups_added mode (groups l) [] ∙ ap (add_groups itself mode []) (groups_plain l)

-- all names that may become nodes, without places
group_names_plain : (gs : List (Group PlacedName)) → map plain_name (flat_map group_names gs) ≡ flat_map group_names (map plain_group gs)
unfolding flat_map
group_names_plain [] = refl
group_names_plain (g ∷ gs) = map-append plain_name (group_names g) (flat_map group_names gs) ∙ ap (λ l. texts (group_names g) ++ l) (group_names_plain gs)

pub names_plain : (l : Library) → map plain_name (flat_map group_names (groups l)) ≡ all_names (plain l)
names_plain l = group_names_plain (groups l) ∙ ap (flat_map group_names) (groups_plain l)
