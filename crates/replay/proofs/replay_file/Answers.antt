-- `replay::replay_file`. Written out, since a search through a context with so large an array is slow.
-- Assumes nothing.
use Rattle.std.proofs.Common.{ℕ, sym, length-take-le}
use Rattle.std.proofs.Math.ListN.{length-replicate}
use Rattle.replay.proofs.replay_file.Goals as goal

pub slice_bounds-read_file-end : goal.slice_bounds-read_file-end
slice_bounds-read_file-end g c = sym (length-replicate {A = ℕ} 524288 0)

pub slice_bounds-space-end : goal.slice_bounds-space-end
slice_bounds-space-end g c = c.in_ok-n.ensures.bound.0

pub slice_bounds-replay_all-end : goal.slice_bounds-replay_all-end
slice_bounds-replay_all-end g c = sym (length-take-le _ _ c.in_ok-n.ensures.bound.0)

pub replay_all-requires : goal.replay_all-requires
replay_all-requires g c = c.requires
