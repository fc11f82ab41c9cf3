-- `graph_link::link_known`. Each way out is one law of Single.
-- Assumes nothing.
use Rattle.graph_link.proofs.Single.{unknown, one_more, full, listed_drew, import_drew}
use Rattle.graph_link.proofs.link_known.Goals.{then-given, else-given}
use Rattle.graph_link.proofs.link_known.Goals as goal

pub returns-in_default : goal.returns-in_default
returns-in_default c = search unknown

pub returns-in-Some-add_edge : goal.returns-in-Some-add_edge
returns-in-Some-add_edge c =
    elim c.if-given.branch [ then-given w ↦ search (listed_drew, one_more) fits 9000 | else-given w ↦ search (import_drew, one_more) fits 9000 ]

pub returns-in-None : goal.returns-in-None
returns-in-None c = elim c.if-given.branch [ then-given w ↦ search (listed_drew, full) fits 9000 | else-given w ↦ search (import_drew, full) fits 9000 ]
