-- `order_ring::make_trail`. What each call asks and the last leaves, by the laws of Trails.
-- Assumes nothing.
use Rattle.order_ring.proofs.Trails.{marks, notes, look_in, goes, trailed}
use Rattle.order_ring.proofs.make_trail.Goals as goal

pub mark-requires : goal.mark-requires
mark-requires c = search marks

pub note_edges-requires : goal.note_edges-requires
note_edges-requires c = search notes

pub first_zero-start-requires : goal.first_zero-start-requires
first_zero-start-requires c = search look_in

pub go_back-requires : goal.go_back-requires
go_back-requires c = search goes

pub returns : goal.returns
returns c = search trailed
