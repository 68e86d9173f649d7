use Rattle.std.proofs.Common.{◌≡◌, get_or, true, ap, sym, ◌∙◌}
use Rattle.bd_text.specs.View.{node_of, nodes_of_all}
use Rattle.bd_syntax.specs.Completion.{is_abstract}
use Rattle.bd_syntax.proofs.Completions.{before-first, from-first, before-none, from-none}
use Rattle.bd_syntax.proofs.completion.split_abstracts.Goals as goal

pub returns-then-is_abstract-clause-before : goal.returns-then-is_abstract-clause-before
returns-then-is_abstract-clause-before c =
    let parts = c.args.parts.now in
    let tree = c.index-parts-i.result in
    let is : is_abstract (node_of (get_or parts c.loop-i.i tree)) ≡ true = ap (λ t. is_abstract (node_of t)) (sym c.index-parts-i.is) ∙ sym c.is_abstract.ensures ∙ c.if-is_abstract.true in
    before-first tree parts c.loop-i.i c.loop-i-test.true c.loop-i.invariant is ∙ ap nodes_of_all (sym c.split_at.ensures.front)

pub returns-then-is_abstract-clause-others : goal.returns-then-is_abstract-clause-others
returns-then-is_abstract-clause-others c =
    let parts = c.args.parts.now in
    let tree = c.index-parts-i.result in
    let is : is_abstract (node_of (get_or parts c.loop-i.i tree)) ≡ true = ap (λ t. is_abstract (node_of t)) (sym c.index-parts-i.is) ∙ sym c.is_abstract.ensures ∙ c.if-is_abstract.true in
    from-first tree parts c.loop-i.i c.loop-i-test.true c.loop-i.invariant is ∙ ap nodes_of_all (sym c.split_at.ensures.back)

pub returns-clause-before : goal.returns-clause-before
returns-clause-before c = before-none c.args.parts.now c.loop-i.i c.loop-i-test.false c.loop-i.invariant

pub returns-clause-others : goal.returns-clause-others
returns-clause-others c = from-none c.args.parts.now c.loop-i.i c.loop-i-test.false c.loop-i.invariant
