-- `library_search::search_submodule`. Each way out is one law of Submodules.
-- Assumes nothing.
use Rattle.library_search.proofs.Submodules.{Sets, Modules, Submodules}
use Rattle.library_search.proofs.search_submodule.Given as goal

abbrev pub invariant-loop-k : goal.invariant-loop-k
invariant-loop-k l = Submodules l.s l.name l.sets l.i l.modules l.j l.submodules l.k l.at l.hit

abbrev pub invariant-loop-j : goal.invariant-loop-j
invariant-loop-j l = Modules l.s l.name l.sets l.i l.modules l.j l.at l.hit

abbrev pub invariant-search : goal.invariant-search
invariant-search l = Sets l.s l.name l.sets l.i l.at l.hit
