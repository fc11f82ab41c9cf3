-- What the four stores of an edge leave.
-- Assumes nothing.
use mathlib.Core.Path.{◌∙◌}
use mathlib.Core.List.{List}
use Prim.Native.Nat.{ℕ, ◌+◌, ◌*◌, ◌<◌}
use native.Mathlib.Omega.{arith}
use lib.ListN.{length, get_or, set, length-set}
use lib.Seq.{get_or-set_same, get_or-set_other}
use Rattle.graph_edges.specs.Edges.{Puts, Laid}

module _ (edges chains : List ℕ) (count h : ℕ) (p : Puts edges chains count h) where
  -- the second word's place, after the first is written
  pub second_in : (from : ℕ) → count * 2 + 1 < length (set edges (count * 2) from)
  second_in from = rw length-set (omega (arith, p.few, p.long))

  pub head_in : (link : ℕ) → h < length (set chains (8192 + count) link)
  head_in link = rw length-set (omega (arith, p.low, p.wide))

  pub laid : {from to : ℕ} → Laid edges chains count h from to (set (set edges (count * 2) from) (count * 2 + 1) to)
      (set (set chains (8192 + count) (get_or chains h 0)) h (count + 1))
  laid {from} {to} =
      let link = get_or chains h 0 in
      record {
        kept_edges = length-set (set edges (count * 2) from) (count * 2 + 1) to ∙ length-set edges (count * 2) from;
        kept_chains = length-set (set chains (8192 + count) link) h (count + 1) ∙ length-set chains (8192 + count) link;
        from_of = get_or-set_other (set edges (count * 2) from) (count * 2 + 1) (count * 2) to 0 (λ e. omega arith)
            ∙ get_or-set_same edges (count * 2) from 0 (omega (arith, p.few, p.long));
        to_of = get_or-set_same (set edges (count * 2) from) (count * 2 + 1) to 0 (second_in from);
        link_of_lem = get_or-set_other (set chains (8192 + count) link) h (8192 + count) (count + 1) 0 (λ e. omega (arith, p.low))
            ∙ get_or-set_same chains (8192 + count) link 0 (omega (arith, p.few, p.wide));
        head_of = get_or-set_same (set chains (8192 + count) link) h (count + 1) 0 (head_in link);
        other_edges = λ j a b. get_or-set_other (set edges (count * 2) from) (count * 2 + 1) j to 0 b ∙ get_or-set_other edges (count * 2) j from 0 a;
        other_chains = λ j a b. get_or-set_other (set chains (8192 + count) link) h j (count + 1) 0 a ∙ get_or-set_other chains (8192 + count) j link 0 b;
      }
