-- Request 2026-10 by examples: what the walk with a memory draws, and which texts it reads, in order. It is computed.
-- Assumes nothing.
use Prim.Native.Nat.{ℕ, suc}
use mathlib.Core.Path.{◌≡◌, refl, sym}
use mathlib.Core.List.{List, [], ◌∷◌, map, Nodup}
use lib.ListN.{get_or}
use Rattle.text.specs.Refusal.{no_refusal}
use Rattle.graph.specs.Graph.{no_entry_text, scan_refused, too_deep, too_many_edges, deepest, add_by}
use Rattle.graph.specs.Numbers.{row, mem_r, Codes, no_text, refused_scan, codes, each_o, Drawing, drawn, faulty, EntryCode, draw_from}
use Rattle.graph.specs.Once.{nothing_read, Went, walked, halted, includes_once, walk_once, draw_once, includes_read, walk_read, entries_read}
use Rattle.graph.proofs.ReadOnce.{once_demand}

-- a text by the numbers of what it imports and includes
abbrev text : List ℕ → List ℕ → Codes
text is us = codes (map (λ u. suc u) is) (map (λ u. suc (suc u)) us)

-- a text that includes one, and one that includes nothing
abbrev to : ℕ → Codes
to u = text [] (u ∷ [])

abbrev empty : Codes
empty = text [] []

abbrev entry : ℕ → EntryCode
entry v = record { number = v; lists = [] }

-- the v-th text is that of the node v
record Example : Type 0 where
  limit : ℕ
  texts : List Codes
  entries : List EntryCode
  answer : Drawing
  read : List ℕ

abbrev at : List Codes → ℕ → Codes
at ts v = get_or ts v no_text

-- two entries that include one submodule
abbrev shared : Example
shared = record {
  limit = 8192;
  texts = to 2 ∷ to 2 ∷ text (1 ∷ []) [] ∷ [];
  entries = entry 0 ∷ entry 1 ∷ [];
  answer = drawn (row 2 0 ∷ row 1 2 ∷ row 2 1 ∷ []);
  read = 0 ∷ 2 ∷ 1 ∷ [];
}

-- nine includes, none below another
abbrev nine : Example
nine = record {
  limit = 8192;
  texts = text [] (1 ∷ 2 ∷ 3 ∷ 4 ∷ 5 ∷ 6 ∷ 7 ∷ 8 ∷ 9 ∷ [])
      ∷ empty ∷ empty ∷ empty ∷ empty ∷ empty ∷ empty ∷ empty ∷ empty ∷ empty ∷ [];
  entries = entry 0 ∷ [];
  answer = drawn (row 1 0 ∷ row 2 0 ∷ row 3 0 ∷ row 4 0 ∷ row 5 0 ∷ row 6 0 ∷ row 7 0 ∷ row 8 0 ∷ row 9 0 ∷ []);
  read = 0 ∷ 1 ∷ 2 ∷ 3 ∷ 4 ∷ 5 ∷ 6 ∷ 7 ∷ 8 ∷ 9 ∷ [];
}

examples : List Example
examples =
    shared ∷
    nine ∷
    -- 2 has two includes below it, 3 and 4. Entry 0 includes it. Entry 1 comes to it through 5, 6, 7, 8, 9: then 4 is at depth 8
    record {
      limit = 8192;
      texts = to 2 ∷ to 5 ∷ to 3 ∷ to 4 ∷ empty ∷ to 6 ∷ to 7 ∷ to 8 ∷ to 9 ∷ to 2 ∷ [];
      entries = entry 0 ∷ entry 1 ∷ [];
      answer = drawn (row 2 0 ∷ row 3 2 ∷ row 4 3 ∷ row 5 1 ∷ row 6 5 ∷ row 7 6 ∷ row 8 7 ∷ row 9 8 ∷ row 2 9 ∷ []);
      read = 0 ∷ 2 ∷ 3 ∷ 4 ∷ 1 ∷ 5 ∷ 6 ∷ 7 ∷ 8 ∷ 9 ∷ [];
    } ∷
    -- through one more, 10: then 4 is at depth 9, and it is told without reading 2 again
    record {
      limit = 8192;
      texts = to 2 ∷ to 5 ∷ to 3 ∷ to 4 ∷ empty ∷ to 6 ∷ to 7 ∷ to 8 ∷ to 9 ∷ to 10 ∷ to 2 ∷ [];
      entries = entry 0 ∷ entry 1 ∷ [];
      answer = faulty too_deep 2 no_refusal;
      read = 0 ∷ 2 ∷ 3 ∷ 4 ∷ 1 ∷ 5 ∷ 6 ∷ 7 ∷ 8 ∷ 9 ∷ 10 ∷ [];
    } ∷
    -- a text that includes itself is read once
    record { limit = 8192; texts = to 0 ∷ []; entries = entry 0 ∷ []; answer = faulty too_deep 1 no_refusal; read = 0 ∷ [] } ∷
    -- a module of two sets: its text is read once, and what it lists is gone through twice; where its text is refused, that is told of the first
    record {
      limit = 8192;
      texts = empty ∷ empty ∷ empty ∷ [];
      entries = record { number = 0; lists = 2 ∷ [] } ∷ record { number = 0; lists = 3 ∷ [] } ∷ [];
      answer = drawn (row 0 1 ∷ row 0 2 ∷ []);
      read = 0 ∷ [];
    } ∷
    record {
      limit = 8192;
      texts = refused_scan no_refusal ∷ [];
      entries = entry 0 ∷ entry 0 ∷ [];
      answer = faulty scan_refused 1 no_refusal;
      read = 0 ∷ [];
    } ∷
    -- a module that is a submodule too: 1 was read as an include of 0, and is an entry then
    record {
      limit = 8192;
      texts = to 1 ∷ text (0 ∷ []) [] ∷ [];
      entries = entry 0 ∷ entry 1 ∷ [];
      answer = drawn (row 1 0 ∷ row 0 1 ∷ []);
      read = 0 ∷ 1 ∷ [];
    } ∷
    -- the edge that closes a circle comes before the circle
    record { limit = 2; texts = to 1 ∷ to 0 ∷ []; entries = entry 0 ∷ []; answer = faulty too_deep 1 no_refusal; read = 0 ∷ 1 ∷ [] } ∷
    record { limit = 1; texts = to 1 ∷ to 0 ∷ []; entries = entry 0 ∷ []; answer = faulty too_many_edges 1 no_refusal; read = 0 ∷ 1 ∷ [] } ∷
    []

all_drawn : map (λ (x : Example). draw_once (at x.texts) x.limit 1 [] nothing_read x.entries) examples ≡ map (λ (x : Example). x.answer) examples
unfolding examples mem_r add_by each_o includes_once walk_once draw_once
all_drawn = refl

all_read : map (λ (x : Example). entries_read (at x.texts) x.limit [] nothing_read x.entries) examples ≡ map (λ (x : Example). x.read) examples
unfolding examples mem_r add_by each_o includes_once walk_once includes_read walk_read entries_read
all_read = refl

-- the longest chain is remembered, not how many there are
abbrev height_of : Went → ℕ
height_of (walked rs m h) = h
height_of (halted n a) = 0

chain_of_one : height_of (walk_once (at nine.texts) 8192 deepest no_entry_text 0 [] nothing_read) ≡ 1
unfolding mem_r add_by each_o includes_once walk_once
chain_of_one = refl

-- ---- the theorem at work

differ : Nodup shared.read
unfolding mem_r add_by each_o includes_once walk_once includes_read walk_read entries_read
differ = (once_demand (at shared.texts) 8192 shared.entries).once

plain : draw_from (at shared.texts) 8192 1 [] shared.entries ≡ shared.answer
unfolding mem_r add_by each_o includes_once walk_once draw_once
plain = sym (once_demand (at shared.texts) 8192 shared.entries).same
