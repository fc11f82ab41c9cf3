use Rattle.library_index.proofs.Stores.{cleared}
use Rattle.library_index.proofs.clear.Goals as goal

pub returns : goal.returns
returns c = cleared c.args.tab.now c.fill.new.self c.requires (c.fill.ensures.after (λ y e. e))
