-- `library_index::bucket`. The hash from here is the hash from the start.
-- Assumes nothing.
use Rattle.library_index.proofs.Chain.{Hashing}
use Rattle.library_index.proofs.bucket.Given as goal

abbrev pub invariant-loop-b : goal.invariant-loop-b
invariant-loop-b l = Hashing l.name l.h l.b-index
