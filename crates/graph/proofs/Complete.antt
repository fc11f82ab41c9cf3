-- The mode `complete`: a group adds each of its names that is new, so all groups together add all names, one after another.
-- Assumes nothing.
use Prim.Native.Nat.{ℕ, ◌<◌}
use mathlib.Core.Path.{◌≡◌, refl, sym, ap, ◌∙◌, subst}
use mathlib.Core.Bool.{cond}
use mathlib.Core.List.Perm
use mathlib.Core.List.{List, [], ◌∷◌, ◌++◌, map, flat_map, Memᴰ}
use mathlib.Core.List.{Nodup}
use native.Mathlib.Omega.{arith}
use lib.ListN.{length}
use lib.Dec.{ltb}
use borrow.Author.Tests.{lt-ltb}
use Rattle.text.specs.Refusal.{no_refusal}
use Rattle.library_image.specs.Library.{Name, PlainLibrary, Library, plain_name, plain, modules_of}
use Rattle.library_index.specs.Names.{add_new, add_all}
use Rattle.graph.specs.Nodes.{Mode, pass_over, complete, Group, groups, add_groups, nodes_by, itself, nodes_of, word_nodes}
use Rattle.graph.specs.Graph.{ScanAnswer, Text, no_node, too_many_nodes, Entry, entries, entry_steps, submodule_names, world_over, fault}
use Rattle.graph.specs.Graph.{walk_from, graph_of}
use Rattle.graph.specs.Meaning.{Fault, entry_missing, include_missing, scan_refused_lem, import_unknown, listed_unknown, include_unknown}
use Rattle.graph.specs.Meaning.{include_no_node, too_deep_lem, Cause, names, by_fault, edges}
use Rattle.graph.specs.Demand3.{group_names, all_names, Once}
use Rattle.graph.specs.Complete.{EachOnce, CompleteDemand3}
use Rattle.graph.proofs.Tests.{each_in}
use Rattle.graph.proofs.Sets.{submodule_out}
use Rattle.graph.proofs.Nodes.{names_new, groups_new, module_group_lem, nodes_differ, nodes_only, nodes_new}
use Rattle.graph.proofs.WordNodes.{names_plain}
use Rattle.graph.proofs.Faults.{fault_below}
use Rattle.graph.proofs.Spread.{perm_memᴰ, NodesIn, names_in, nodes_agree}
use Rattle.graph.proofs.Permuted.{names_perm, same_entries}
use Rattle.graph.proofs.Demand.{no_longer, demand3}

-- ---- all groups together

module _ {A : Type 0} (name : A → Name) where
  all_append : (xs ys ns : List A) → add_all name ns (xs ++ ys) ≡ add_all name (add_all name ns xs) ys
  unfolding add_all
  all_append [] ys ns = refl
  all_append (x ∷ xs) ys ns = all_append xs ys (add_new name ns x)

  groups_all : (gs : List (Group A)) (ns : List A) → add_groups name complete ns gs ≡ add_all name ns (flat_map group_names gs)
  unfolding add_groups flat_map add_all
  groups_all [] ns = refl
  groups_all (g ∷ gs) ns =
      groups_all gs (add_all name ns (group_names g)) ∙ sym (all_append (group_names g) (flat_map group_names gs) ns)

places_new : (mode : Mode) (l : Library) → Nodup (all_names (plain l)) → word_nodes mode l ≡ flat_map group_names (groups l)
unfolding nodes_by
places_new mode l d = groups_new plain_name mode (groups l) [] (subst (λ t. Nodup t) (sym (names_plain l)) d)

-- ---- all names are nodes

nodes_order : (l : PlainLibrary) → nodes_of complete l ≡ add_all itself [] (all_names l)
unfolding nodes_by
nodes_order l = groups_all itself (groups l) []

nodes_placed : (l : Library) → word_nodes complete l ≡ add_all plain_name [] (flat_map group_names (groups l))
unfolding nodes_by
nodes_placed l = groups_all plain_name (groups l) []

name_node : (l : PlainLibrary) (v : Name) → Memᴰ v (all_names l) → Memᴰ v (nodes_of complete l)
name_node l v m = subst (λ ns. Memᴰ v ns) (sym (nodes_order l)) (names_new (all_names l) [] v m)

pub nodes_each : (l : PlainLibrary) → EachOnce (nodes_of complete l) (all_names l)
nodes_each l = record { differ = nodes_differ complete l; same = λ v. (nodes_only complete l v, name_node l v) }

all_nodes_in : (l l₁ : PlainLibrary) → ((v : Name) → Memᴰ v (all_names l) → Memᴰ v (all_names l₁)) → NodesIn complete l l₁
all_nodes_in l l₁ f v m = name_node l₁ v (f v (nodes_only complete l v m))

-- two lists of the same names, each once, are equally long
pub as_many : (xs ys all : List Name) → EachOnce xs all → EachOnce ys all → length xs ≡ length ys
as_many xs ys all e f =
    omega
    (arith, no_longer xs ys e.differ (λ v m. (f.same v).1 ((e.same v).0 m)), no_longer ys xs f.differ (λ v m. (e.same v).1 ((f.same v).0 m)))

-- ---- 28 and 30

module _ (text : Name → Text) (l : PlainLibrary) where
  submodule_named : (v : Name) → Memᴰ v (submodule_names l) → Memᴰ v (all_names l)
  submodule_named v m = let q = submodule_out (modules_of l) m in each_in group_names (module_group_lem l q.1) (Memᴰ.tail q.2)

  fault_has_node : (x : Entry) {n : ℕ} {a : ScanAnswer} → Fault complete text l x n a → n ≡ 28 → ⊥
  fault_has_node x (entry_missing h) e = omega (arith, e)
  fault_has_node x (include_missing r f h) e = omega (arith, e)
  fault_has_node x (scan_refused_lem r h) e = omega (arith, e)
  fault_has_node x (import_unknown r i u) e = omega (arith, e)
  fault_has_node x (listed_unknown m u) e = omega (arith, e)
  fault_has_node x (include_unknown r i u) e = omega (arith, e)
  fault_has_node x (include_no_node {u = v} r i m u) e = u (name_node l v (submodule_named v m))
  fault_has_node x (too_deep_lem r f) e = omega (arith, e)

  module _ (node_limit edge_limit : ℕ) where
    pub cause_has_node : {n k : ℕ} {a : ScanAnswer} → Cause complete text l node_limit edge_limit n k a → n ≡ 28 → ⊥
    cause_has_node (names h) e = omega (arith, e)
    cause_has_node (by_fault x f g) e = fault_has_node x g e
    cause_has_node (edges x f w es d m h) e = omega (arith, e)

    pub cause_many : {n k : ℕ} {a : ScanAnswer} → Cause complete text l node_limit edge_limit n k a → n ≡ 30 → node_limit < length (nodes_of complete l)
    cause_many (names h) e = h
    cause_many (by_fault x f g) e = absurd (omega (arith, e, fault_below complete text l x g))
    cause_many (edges x f w es d m h) e = absurd (omega (arith, e))

    many_refused : node_limit < length (nodes_of complete l) → graph_of complete node_limit edge_limit text l ≡ fault too_many_nodes 0 no_refusal
    unfolding graph_of
    many_refused h = rw (lt-ltb node_limit (length (nodes_of complete l)) h)

    -- what is built and what is refused goes by the nodes alone
    by_nodes : {ns : List Name} (mode : Mode) → nodes_of mode l ≡ ns
        → graph_of mode node_limit edge_limit text l
        ≡ cond (ltb node_limit (length ns)) (fault too_many_nodes 0 no_refusal) (walk_from edge_limit ns 1 [] (map (entry_steps (world_over ns text l)) (entries l)))
    unfolding graph_of
    by_nodes mode e = ap (λ ns. cond (ltb node_limit (length ns)) (fault too_many_nodes 0 no_refusal)
        (walk_from edge_limit ns 1 [] (map (entry_steps (world_over ns text l)) (entries l)))) e

    same_graph : Once l → graph_of complete node_limit edge_limit text l ≡ graph_of pass_over node_limit edge_limit text l
    same_graph once = by_nodes complete (nodes_new complete l once.differ) ∙ sym (by_nodes pass_over (nodes_new pass_over l once.differ))

-- ---- the demand

pub complete_demand3 : (node_limit edge_limit : ℕ) (text : Name → Text) → CompleteDemand3 node_limit edge_limit text
complete_demand3 nl el text = record {
  order = nodes_order;
  placed = nodes_placed;
  all_once = nodes_each;
  right = λ l ns es h.
      let r = (demand3 complete nl el text).right l ns es h in
      (r, subst (λ ws. EachOnce ws (all_names l)) (sym r.nodes) (nodes_each l));
  has_node = λ l k a h. cause_has_node text l nl el ((demand3 complete nl el text).refused l no_node k a h) refl;
  too_many = λ l ws o.
      let q = as_many ws (nodes_of complete l) (all_names l) o (nodes_each l) in (
        λ x. let h = cause_many text l nl el ((demand3 complete nl el text).refused l too_many_nodes x.0 x.1 x.2) refl in omega (arith, h, q),
        λ h. (0, no_refusal, many_refused text l nl el (omega (arith, h, q))),
      );
  spread = λ l l₁ alike revised revised₁.
      nodes_agree complete nl el text l l₁ alike (all_nodes_in l l₁ (names_in alike.there revised₁)) (all_nodes_in l₁ l (names_in alike.back revised));
  permuted = λ l l₁ p.
      let q = names_perm p in
      nodes_agree complete nl el text l l₁ (same_entries p) (all_nodes_in l l₁ (λ v m. perm_memᴰ q m)) (all_nodes_in l₁ l (λ v m. perm_memᴰ (Perm.symm q) m));
  once = λ l o. same_graph text l nl el o;
  places = λ l o. places_new complete l o.differ ∙ sym (places_new pass_over l o.differ);
}
