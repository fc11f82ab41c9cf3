-- `graph_memory::recall`. Each way out is one law of Words.
-- Assumes nothing.
use Rattle.graph_memory.proofs.Words.{recall_unread, recall_circle, recall_deep, recall_known}
use Rattle.std.proofs.Common.{arith}
use borrow.Author.Rules.{rules}
use Rattle.std.proofs.lemmas.Bool.Decides.{nat_tests}
use Rattle.graph_memory.proofs.recall.Goals.{then-state-eq-READING, else-state-eq-READING}
use Rattle.graph_memory.proofs.recall.Goals as goal

pub returns-then-state-eq0 : goal.returns-then-state-eq0
returns-then-state-eq0 c = search recall_unread

pub returns-then-left-of_word : goal.returns-then-left-of_word
returns-then-left-of_word c =
    elim c.if-state-eq-READING.branch [ then-state-eq-READING w ↦ search (rules, recall_circle) | else-state-eq-READING w ↦ search (rules, recall_deep) ]

pub returns-else-left-of_word : goal.returns-else-left-of_word
returns-else-left-of_word c =
    elim c.if-state-eq-READING.branch [ then-state-eq-READING w ↦ grind (arith, nat_tests) | else-state-eq-READING w ↦ search (rules, recall_known) ]
