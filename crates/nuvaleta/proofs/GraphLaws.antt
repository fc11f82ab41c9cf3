-- What is told of a graph, in words: its counts, entry and places are at most 16,777,216.
-- Assumes nothing.
use Rattle.std.specs.Prelude.{Ok, Err, Result}
use mathlib.Core.Path.{◌≡◌, sym, ap, subst, ◌∙◌}
use mathlib.Core.List.{List}
use Prim.Native.Nat.{ℕ}
use native.Mathlib.Omega.{arith}
use lib.ListN.{get_or}
use mir.Syntax.{w8}
use mir.Val.{Fits}
use Rattle.graph.specs.Nodes.{Mode}
use Rattle.yanglib.specs.ToGraph.{Leaves, graphed, AnswerFits}
use Rattle.graph_tables.specs.Lengths.{lengths_of}
use Rattle.graph_build.specs.declared.GraphRefusal.{GraphRefusal}
use Rattle.yanglib.proofs.Bounds.{answer_fits}
use Rattle.nuvaleta.specs.Words.{graph_words, GraphFits}
use Rattle.nuvaleta.specs.Graphs.{Drawn}

-- ---- what is told fits its words

answer_words : (x : Result (ℕ × ℕ) GraphRefusal) → AnswerFits x → GraphFits x
unfolding AnswerFits GraphFits
answer_words (Ok (n, m)) h = (omega (arith, h), omega (arith, h))
answer_words (Err r) h = let record { number = number; entry = entry; scan = a; place = place } = r in (omega (arith, h), omega (arith, h), omega (arith, h))

-- ---- the call

module _ (mode : Mode) (s b n e d f g l : List ℕ) {r : Result (ℕ × ℕ) GraphRefusal} {n₁ e₁ d₁ f₁ g₁ l₁ : List ℕ}
    (h : Leaves (graphed mode s b (lengths_of n e d f g l)) n e d f g l r n₁ e₁ d₁ f₁ g₁ l₁) where
  pub graph_fits : ((k : ℕ) → Fits w8 (get_or s k 0)) → GraphFits r
  graph_fits bytes =
      subst GraphFits (sym h.answer)
      (answer_words (graphed mode s b (lengths_of n e d f g l)).answer
      (answer_fits mode s b (λ k. omega (arith, (bytes k).fits)) (lengths_of n e d f g l)))

  -- the words are answered, and the first is returned
  pub graph_told : {w : List ℕ} → w ≡ graph_words r → Drawn (graphed mode s b (lengths_of n e d f g l)) n e d f g l (get_or w 0 0) n₁ e₁ d₁ f₁ g₁ l₁ w
  graph_told {w} v =
      let k = v ∙ ap graph_words h.answer in
      record {
        graph = subst (λ a. Leaves (graphed mode s b (lengths_of n e d f g l)) n e d f g l a n₁ e₁ d₁ f₁ g₁ l₁) h.answer h;
        told = record { number = ap (λ u. get_or u 0 0) k; answered = k };
      }
