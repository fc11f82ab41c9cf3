-- The graphs are computed; a built one is not refused, and names that are a permutation of others are among them.
-- Assumes nothing.
use Rattle.std.specs.Prelude.{Ok, Err, Result}
use Prim.Native.Nat.{ℕ, zero, suc, ◌<◌}
use mathlib.Core.Path.{◌≡◌, refl, sym, ◌∙◌, subst, subst₂}
use mathlib.Core.Bool.{Bool, true, false, cond}
use mathlib.Core.HLevel.{⊥_prop}
use mathlib.Core.Logic.{∥∥₁_elim}
use mathlib.Core.List.Memᴰ
use mathlib.Core.List.{List, [], ◌∷◌, flat_map, flatten, Memᴰ, Perm}
use mathlib.Core.List.Perm
use native.Mathlib.Omega.{arith}
use lib.ListN.{get_or}
use lib.Dec.{ltb}
use borrow.Author.Tests.{ltb-true}
use Rattle.library_form.specs.Writer.{AllBytes}
use Rattle.text.specs.declared.Refusal.{Refusal}
use Rattle.library_items.specs.Table.{Reads}
use Rattle.graph.specs.Demand3.{AlikeImport, Within, SameEntries, Permuted}
use Rattle.graph.proofs.Tests.{both_bools, mem_memb}
use Rattle.graph.specs.Once.{includes_once, walk_once, includes_read, walk_read, entries_read}
use Rattle.yanglib.specs.ToGraph.{graphed}
use Rattle.graph_tables.specs.Lengths.{is_too_short}
use Rattle.graph_build.specs.declared.GraphRefusal.{GraphRefusal}
use Rattle.text.specs.Class.{class_of}
use Rattle.text.specs.Due.{due_number, due_here, due_at}
use Rattle.text.specs.Keyword.{starts_ident, ends_keyword, same, part, keyword_at, match_at, or_match}
use Rattle.text.specs.Scan.{in_ident, in_run, span, run_end, pair_at, closing, block_end, comment_end, after_white, gap_turn, gap_end}
use Rattle.text.specs.Turns.{turns}
use Rattle.text_value.specs.Argument.{argument_of, breaks_off, argument_at, after_due}
use Rattle.text_string.specs.Str.{is_quote}
use Rattle.text_value.specs.Value.{starts_name, added_by, after_plus, joined_with, joined as joinedValue, of_string, value_here, value_at, value_bytes}
use Rattle.text_skip.specs.Skip.{closed_token, token_here}
use Rattle.text_statement.specs.Statement.{statement_at}
use Rattle.text_utf8.specs.Utf8.{wrong_from, char_turn, seq_len, char_len, one, two, three, second3, four, second4, tail}
use Rattle.text_lent.specs.Lent.{lent_at}
use Rattle.scan_block.specs.Block.{or_line}
use Rattle.scan_imports.specs.Statement.{plain_of, block_of, open_or_plain, after_value, include_at}
use Rattle.yangparser.specs.Dependencies.{joined, import_step, include_step, unless_full, import_here, include_here, moved_to, after_token, head_step, step_here, step_at}
use Rattle.yangparser.specs.Dependencies.{after_step, scan_turn, scan_from, scanned, if_fit, dependencies}
use Rattle.scan_head.specs.Head.{last_at, or_head, head_at}
use Rattle.library_form.specs.Form.{Ans, good, bad, groups, number_at, many, printable_at, name_body, name_at}
use Rattle.library_index.specs.Names.{among, add_all, new_name}
use Rattle.library_image.specs.Image.{count_at, counted, module_at, import_only_at, set_at, library_at, image_at}
use Rattle.library_image.specs.Library.{Name, PlainModule, PlainImportOnly, PlainLibrary, modules_of, import_only_of, submodules_of}
use Rattle.library_items.specs.Items.{library_of}
use Rattle.library_bundle.specs.Bundle.{body_at, filed_at, texts_at, bundle_at, look_up}
use Rattle.library_bundle.specs.Reading.{longest_of, longest_text}
use Rattle.scan_rows.specs.Span.{value_in}
use Rattle.graph_texts.specs.Texts.{import_names, include_names, scan_text, text_of}
use Rattle.graph.specs.Nodes.{pass_over, complete, add_groups, nodes_by}
use Rattle.text.specs.Refusal.{no_refusal, is_high, refused_at}
use Rattle.graph.specs.Graph.{text_steps, mem_e, add_by, run, walk_from, graph_of}
use Rattle.graph.specs.Numbers.{number_of, codes_at, each_o, mem_r}
use Rattle.graph_nodes.specs.Adding.{plain_at, words_at}
use Rattle.demands.specs.Demand3.{names, WellFormed, Alike, both_refused, both_built}
use Rattle.demands.specs.Once.{texts_read}
use Rattle.demands.specs.Demand3Needs.{lent, empty_first, full_first, includes, s_first, t_first, alone, Needed}

-- ---- well-formed, by test

unfoldable lows : List ℕ → Bool
lows [] = true
lows (x ∷ xs) = cond (ltb x 256) (lows xs) false

bytes_by : (s : List ℕ) → lows s ≡ true → AllBytes s
unfolding lows
bytes_by [] h k = omega arith
bytes_by (x ∷ xs) h k = go (ltb x 256) refl h (bytes_by xs) k
  where
    go : (t : Bool) → ltb x 256 ≡ t → cond t (lows xs) false ≡ true → (lows xs ≡ true → AllBytes xs) → (k : ℕ) → get_or (x ∷ xs) k 0 < 256
    go true q h f zero = ltb-true x 256 q
    go true q h f (suc k) = f h k
    go false q h f k = both_bools h refl

is_good : {A : Type 0} → Ans A → Bool
is_good (good a n) = true
is_good (bad p) = false

reads_by : {A : Type 0} (r : Ans A) → is_good r ≡ true → Reads r
unfolding is_good
reads_by (good a n) h = record { value = a; end = n; read = refl }
reads_by (bad p) h = both_bools h refl

formed_by : (s : List ℕ) → lows s ≡ true → is_good (image_at s) ≡ true → WellFormed s
formed_by s h k = record { bytes = bytes_by s h; reads = reads_by (image_at s) k }

pub formed : WellFormed empty_first × WellFormed full_first × WellFormed s_first × WellFormed t_first
unfolding lows is_good library_of image_at library_at set_at import_only_at module_at counted count_at new_name among name_at name_body printable_at many number_at groups
    same modules_of import_only_of
formed = (formed_by empty_first refl refl, formed_by full_first refl refl, formed_by s_first refl refl, formed_by t_first refl refl)

-- ---- the graphs

with_s : List Name
with_s = (98 ∷ []) ∷ (115 ∷ []) ∷ []

with_t : List Name
with_t = (98 ∷ []) ∷ (116 ∷ []) ∷ []

pub record Computed : Type 0 where
  empty : (graphed pass_over empty_first includes lent).answer ≡ Err (record { number = 28; entry = 1; scan = no_refusal; place = 0 })
  pub full : (graphed pass_over full_first includes lent).answer ≡ Ok (2, 1)
  s_first_lem : (graphed pass_over s_first alone lent).answer ≡ Ok (2, 0)
  s_names : names s_first (graphed pass_over s_first alone lent) ≡ with_s
  t_names : names t_first (graphed pass_over t_first alone lent) ≡ with_t
  -- and with all names as nodes
  pub empty_complete : (graphed complete empty_first includes lent).answer ≡ Ok (2, 1)
  pub s_complete : (graphed complete s_first alone lent).answer ≡ Ok (3, 0)
  pub read_once : texts_read pass_over full_first includes ≡ 0 ∷ 1 ∷ []

pub computed : Computed
unfolding with_s with_t texts_read entries_read walk_read includes_read walk_once includes_once codes_at each_o mem_r graphed is_too_short words_at number_of graph_of walk_from
    run add_by mem_e text_steps nodes_by add_groups add_all among text_of scan_text import_names include_names value_in longest_text longest_of look_up bundle_at texts_at
    filed_at body_at library_of image_at library_at set_at import_only_at module_at counted count_at new_name name_at name_body printable_at many number_at groups modules_of
    import_only_of submodules_of flat_map joined import_step include_step unless_full import_here include_here moved_to after_token head_step step_here step_at after_step
    scan_turn scan_from scanned lent_at if_fit dependencies or_match last_at or_head head_at or_line plain_of block_of open_or_plain after_value include_at argument_of
    breaks_off argument_at after_due is_quote starts_name added_by after_plus joined_with joinedValue of_string value_here value_at value_bytes closed_token token_here
    statement_at due_number due_here due_at starts_ident ends_keyword same part keyword_at match_at gap_end gap_turn after_white comment_end block_end closing pair_at run_end
    span in_run in_ident class_of turns refused_at is_high
    wrong_from char_turn seq_len char_len one two three second3 four second4 tail
computed = record {
  empty = refl;
  full = refl;
  s_first_lem = refl;
  s_names = refl;
  t_names = refl;
  empty_complete = refl;
  s_complete = refl;
  read_once = refl;
}

both_ways : {r : Result (ℕ × ℕ) GraphRefusal} {n m number entry place : ℕ} {a : Refusal} → r ≡ Ok (n, m) → r ≡ Err (record { number = number; entry = entry; scan = a; place = place }) → ⊥
both_ways h k = let e = sym h ∙ k in let z : ◌≡◌ {A = ℕ} 0 1 = cc in omega arith

once_unlike : ¬ Alike empty_first full_first (graphed pass_over empty_first includes lent) (graphed pass_over full_first includes lent)
once_unlike (both_refused h k) = both_ways computed.full k
once_unlike (both_built h k p q) = both_ways h computed.empty

not_among : ¬ Perm with_s with_t
unfolding with_s with_t among same
not_among p =
    ∥∥₁_elim ((Perm.mem_iff p).0 ∣ Memᴰ.tail (Memᴰ.head refl) ∣₁) ⊥_prop (λ (m : Memᴰ (115 ∷ []) with_t). both_bools (mem_memb m) refl)

single_unlike : ¬ Alike s_first t_first (graphed pass_over s_first alone lent) (graphed pass_over t_first alone lent)
single_unlike (both_refused h k) = both_ways computed.s_first_lem h
single_unlike (both_built h k p q) = not_among (subst₂ Perm computed.s_names computed.t_names p)

-- ---- the same entries

m_of : List Name → PlainModule
m_of subs = record { name = 109 ∷ []; submodules = subs; augmenting = []; deviations = [] }

pub permuted : Permuted (plain_at empty_first) (plain_at full_first)
unfolding m_of library_of image_at library_at set_at import_only_at module_at counted count_at new_name among name_at name_body printable_at many number_at groups same
    modules_of import_only_of
permuted = record { modules = Perm.swap (m_of ((115 ∷ []) ∷ [])) (m_of []) []; import_only = Perm.refl [] }

no_import_only : import_only_of (plain_at empty_first) ≡ []
unfolding library_of image_at library_at set_at import_only_at module_at counted count_at new_name among name_at name_body printable_at many number_at groups same modules_of
    import_only_of
no_import_only = refl

b_of : List (List Name) → PlainImportOnly
b_of rs = record { name = 98 ∷ []; revisions = rs }

set_of : List (List Name) → PlainLibrary
set_of rs = record { modules = []; import_only = b_of rs ∷ [] } ∷ []

within : (rs rs₁ : List (List Name)) → Perm (flatten rs) (flatten rs₁) → Within (set_of rs) (set_of rs₁)
unfolding b_of set_of modules_of import_only_of
within rs rs₁ p = record {
  modules = λ m k. absurd (Memᴰ.not-nil k);
  import_only = λ i k. let e = Memᴰ.eq_of_singleton k in
      let a : AlikeImport i (b_of rs₁) = subst (λ x. AlikeImport x (b_of rs₁)) (sym e) (record { name = refl; submodules = p }) in
      ∣ (b_of rs₁, Memᴰ.head refl, a) ∣₁;
}

pub same_entries : SameEntries (plain_at s_first) (plain_at t_first)
unfolding b_of set_of flatten library_of image_at library_at set_at import_only_at module_at counted count_at new_name among name_at name_body printable_at many number_at
    groups same modules_of import_only_of
same_entries =
    let s : List (List Name) = ((115 ∷ []) ∷ []) ∷ ((116 ∷ []) ∷ []) ∷ [] in
    let t : List (List Name) = ((116 ∷ []) ∷ []) ∷ ((115 ∷ []) ∷ []) ∷ [] in
    record { there = within s t (Perm.swap (116 ∷ []) (115 ∷ []) []); back = within t s (Perm.swap (115 ∷ []) (116 ∷ []) []) }

pub needed : Needed
needed = record {
  once = (record { first = formed.0; second = formed.1; unlike = once_unlike }, permuted, no_import_only);
  single = (record { first = formed.2; second = formed.3; unlike = single_unlike }, same_entries);
}
