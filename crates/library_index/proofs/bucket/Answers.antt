use Rattle.library_index.proofs.Chain.{hash_begun, hash_more, hash_done}
use borrow.Author.Rules.{rules}
use Rattle.library_index.proofs.bucket.Goals as goal

pub loop-b-init : goal.loop-b-init
loop-b-init c = search hash_begun

pub loop-b-preserved : goal.loop-b-preserved
loop-b-preserved c = search hash_more

pub returns : goal.returns
returns c = (search hash_done, search rules)
