-- `graph_visit::meet`. Each way out is one law of Visiting.
-- Assumes nothing.
use Rattle.graph_marks.proofs.Nodes.{desk_of}
use Rattle.graph_link.proofs.Single.{node_low}
use Rattle.graph_visit.proofs.Visiting.{visit_asked, met_deep, met_known, met_unread, kept_same}
use Rattle.graph_visit.proofs.meet.Goals as goal

pub visit-requires : goal.visit-requires
visit-requires c =
    (c.requires.0, c.requires.1, visit_asked _ _ _ _ c.recall.ensures c.in-Unread.is)

pub returns-in-TooDeep : goal.returns-in-TooDeep
returns-in-TooDeep c =
    (met_deep _ _ _ _ c.recall.ensures _ _ _ _ _ _ c.in-TooDeep.is c.stop_with.ensures, kept_same _ _ _ _ _)

pub returns-in-Known : goal.returns-in-Known
returns-in-Known c = (
  met_known _ _ _ _ c.recall.ensures _ _ _ _ _ _ c.in-Known.is (node_low _ _ _ _ (desk_of c.args.ground.nodes.found) _ c.requires.1)
      c.requires.0.edges_so_far,
  kept_same _ _ _ _ _,
)

pub returns-in-Unread : goal.returns-in-Unread
returns-in-Unread c =
    (met_unread _ _ _ _ c.recall.ensures _ _ _ _ _ _ c.in-Unread.is c.visit.ensures.0, c.visit.ensures.1)
