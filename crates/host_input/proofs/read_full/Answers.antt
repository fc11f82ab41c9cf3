-- The next bytes stand behind those that were read before.
use Rattle.std.proofs.Common.{◌≡◌, ℕ, ◌+◌, ◌≤◌, List, ◌++◌, length, take, sym, ap, subst, ◌∙◌, rules, length-take-le}
use Rattle.std.proofs.Math.Seq.{take-append-add, take-append-le}
use Rattle.std.specs.Io.KnownBytes.{Consumes}
use Rattle.std.proofs.KnownBytes.{Consumes-trans}
use Rattle.host_input.proofs.read_full.Goals as goal

take_further : (s read rest : List ℕ) (at n : ℕ) → at ≤ length s → n ≤ length read → take (at + n) (take at s ++ (read ++ rest)) ≡ take at s ++ take n read
take_further s read rest at n h k =
    ap (λ m. take (m + n) (take at s ++ (read ++ rest))) (sym (length-take-le at s h))
    ∙ take-append-add (take at s) (read ++ rest) n
    ∙ ap (λ l. take at s ++ l) (take-append-le n read rest k)

pub loop-done-preserved : goal.loop-done-preserved
loop-done-preserved g c =
    let read = c.in_ok-n.ensures in
    record {
      within = search rules;
      front = subst (Consumes _ _) (sym (take_further c.loop-done.space c.read.new.buf _ c.loop-done.done c.in_ok-n.n c.loop-done.invariant.within read.bound.0))
          (Consumes-trans _ _ _ _ _ c.loop-done.invariant.front read.bytes.0);
    }
