use Rattle.std.proofs.Common.{◌≡◌, drop, map}
use Rattle.bd_text.specs.View.{node_of, nodes_of_all}
use Rattle.bd_text.specs.Written.{nesting}
use Rattle.bd_syntax.specs.Forms.{expression_of}
use Rattle.bd_syntax.specs.Reading.{each_form, expression_form}
use Rattle.bd_syntax.proofs.EachForm.{with_front}
use Rattle.bd_syntax.proofs.expression.+expression.Given as goal

abbrev pub decreases-expression : goal.decreases-expression
decreases-expression l = nesting (node_of l.tree.now)

abbrev pub invariant-loop-part : goal.invariant-loop-part
invariant-loop-part l = with_front (map expression_of l.parts.items) (each_form expression_form (nodes_of_all (drop l.part-index l.part-items))) ≡ each_form expression_form (nodes_of_all l.part-items)
