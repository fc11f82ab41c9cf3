-- What is lent where nothing is too short.
-- Assumes nothing.
use mathlib.Core.Path.{◌≡◌}
use mathlib.Core.Bool.{false, ◌||◌}
use Prim.Native.Nat.{ℕ, ◌≤◌}
use lib.Dec.{ltb}
use borrow.Author.Tests.{ltb-false}
use Rattle.text.proofs.Here.{neither}
use Rattle.graph_tables.specs.Lengths.{Lengths, is_too_short}

-- nothing is too short
pub record Enough (longest : ℕ) (k : Lengths) : Type 0 where
  pub nodes : 2048 ≤ k.nodes
  pub edges : 16384 ≤ k.edges
  pub store : longest ≤ k.store
  pub imports : 1792 ≤ k.imports
  pub includes : 1280 ≤ k.includes
  pub levels : 4352 ≤ k.levels

pub long_enough : (longest : ℕ) (k : Lengths) → is_too_short longest k ≡ false → Enough longest k
unfolding is_too_short
long_enough longest k h =
    let n = ltb k.nodes 2048 in
    let e = ltb k.edges 16384 in
    let d = ltb k.store longest in
    let f = ltb k.imports 1792 in
    let g = ltb k.includes 1280 in
    let p = neither (n || e || d || f || g) (ltb k.levels 4352) h in
    let q = neither (n || e || d || f) g p.0 in
    let r = neither (n || e || d) f q.0 in
    let t = neither (n || e) d r.0 in
    let o = neither n e t.0 in
    record {
      nodes = ltb-false k.nodes 2048 o.0;
      edges = ltb-false k.edges 16384 o.1;
      store = ltb-false k.store longest t.1;
      imports = ltb-false k.imports 1792 r.1;
      includes = ltb-false k.includes 1280 q.1;
      levels = ltb-false k.levels 4352 p.1;
    }
