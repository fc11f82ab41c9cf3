use Rattle.std.proofs.lemmas.Result.{err_from_is_err_and}
use Rattle.graph_link.proofs.Naming.{naming_begins, all_named, named_wrong, named_on}
use Rattle.graph_link.proofs.link_imports.Goals as goal

pub loop-i-init : goal.loop-i-init
loop-i-init c = search naming_begins

pub returns-in_err-total : goal.returns-in_err-total
returns-in_err-total c =
    let p = err_from_is_err_and c.from_residual.result c.from_residual.ensures.1 in
    rw (p.1, p.2) (search (named_wrong, c.in_err-total.was))

pub loop-i-preserved : goal.loop-i-preserved
loop-i-preserved c = search (named_on, c.in_ok-total.was)

pub returns : goal.returns
returns c = search all_named
