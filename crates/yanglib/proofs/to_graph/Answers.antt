-- `yanglib::to_graph`. One law of Whole says what is left.
-- Assumes nothing.
use Rattle.yanglib.proofs.Whole.{now_zero, all_left}
use Rattle.yanglib.proofs.to_graph.Goals as goal

pub read_and_draw-graphed-requires : goal.read_and_draw-graphed-requires
read_and_draw-graphed-requires c =
    (now_zero c.args.nodes.now (c.fill.ensures.after (λ y e. e)), now_zero c.args.edges.now (c.fill-2.ensures.after (λ y e. e)))

pub returns : goal.returns
returns c =
    all_left _ _ _ _ _ _ _ _ _ _ _ (c.fill.ensures.after (λ y e. e)) (c.fill-2.ensures.after (λ y e. e))
    c.read_and_draw-graphed.ensures (c.fill-3.ensures.after (λ y e. e)) (c.fill-4.ensures.after (λ y e. e))
    (c.fill-5.ensures.after (λ y e. e)) (c.fill-6.ensures.after (λ y e. e))
