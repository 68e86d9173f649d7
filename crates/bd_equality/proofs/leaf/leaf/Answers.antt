use Rattle.std.proofs.Common.{sym, ◌∙◌, eqb-true, option_copied}
use Rattle.bd_equality.proofs.Leaves.{leaf_of, whole_apart, Gives-itself, Gives-variable, Gives-marked, Gives-edge}
use Rattle.bd_equality.proofs.leaf.leaf.Goals as goal

pub returns-then-eq : goal.returns-then-eq
returns-then-eq c =
    Gives-itself c.args.flat.now.graph c.args.flat.now.syms (option_copied c.args.marked) c.args.prop.now c.mk_true.new.self c.args.a c.args.b c.mk_true.result
    (eqb-true c.args.a c.args.b (sym c.eq.ensures ∙ c.if-eq.true))
    c.mk_true.ensures.grows c.mk_true.ensures.within c.mk_true.ensures.form c.mk_true.ensures.truth

pub returns-then-a-b : goal.returns-then-a-b
returns-then-a-b c =
    let nodes = c.args.flat.now.graph in
    let plain = whole_apart nodes c.args.a c.args.b c.requires.whole (sym c.eq.ensures ∙ c.if-eq.false) in
    let la = leaf_of nodes c.node.ensures.graph c.args.flat.now.root c.args.flat.now.syms c.args.flat.now.flat c.args.a c.node.result.now c.requires.first c.node.ensures.node plain.0 c.word_variable-a.result c.word_variable-a.ensures in
    let lb = leaf_of nodes c.node.ensures.graph c.args.flat.now.root c.args.flat.now.syms c.args.flat.now.flat c.args.b c.node-2.result.now c.requires.second c.node-2.ensures.node plain.1 c.word_variable-b.result c.word_variable-b.ensures in
    Gives-variable nodes c.args.flat.now.syms (option_copied c.args.marked) c.args.a c.args.b c.word_variable-a.result c.word_variable-b.result la lb c.args.prop.now c.mk_true-then-a-b.new.self c.mk_true-then-a-b.result
    c.if-a-b.true c.mk_true-then-a-b.ensures.grows c.mk_true-then-a-b.ensures.within c.mk_true-then-a-b.ensures.form c.mk_true-then-a-b.ensures.truth

pub returns-in_ok-truth : goal.returns-in_ok-truth
returns-in_ok-truth c =
    let nodes = c.args.flat.now.graph in
    let plain = whole_apart nodes c.args.a c.args.b c.requires.whole (sym c.eq.ensures ∙ c.if-eq.false) in
    let la = leaf_of nodes c.node.ensures.graph c.args.flat.now.root c.args.flat.now.syms c.args.flat.now.flat c.args.a c.node.result.now c.requires.first c.node.ensures.node plain.0 c.word_variable-a.result c.word_variable-a.ensures in
    let lb = leaf_of nodes c.node.ensures.graph c.args.flat.now.root c.args.flat.now.syms c.args.flat.now.flat c.args.b c.node-2.result.now c.requires.second c.node-2.ensures.node plain.1 c.word_variable-b.result c.word_variable-b.ensures in
    Gives-marked nodes c.args.flat.now.syms (option_copied c.args.marked) c.args.a c.args.b c.word_variable-a.result c.word_variable-b.result la lb c.args.prop.now c.mk_true-then-has_either_mark.new.self c.mk_not.new.self c.in_ok-truth.truth c.mk_not.result
    c.if-a-b.false (sym c.has_either_mark.ensures ∙ c.if-has_either_mark.true) c.in_ok-truth.ensures.grows c.in_ok-truth.ensures.form c.in_ok-truth.ensures.truth
    c.mk_not.ensures.grows c.mk_not.ensures.within c.mk_not.ensures.form c.mk_not.ensures.truth

pub returns-else-has_either_mark : goal.returns-else-has_either_mark
returns-else-has_either_mark c =
    let nodes = c.args.flat.now.graph in
    let plain = whole_apart nodes c.args.a c.args.b c.requires.whole (sym c.eq.ensures ∙ c.if-eq.false) in
    let la = leaf_of nodes c.node.ensures.graph c.args.flat.now.root c.args.flat.now.syms c.args.flat.now.flat c.args.a c.node.result.now c.requires.first c.node.ensures.node plain.0 c.word_variable-a.result c.word_variable-a.ensures in
    let lb = leaf_of nodes c.node.ensures.graph c.args.flat.now.root c.args.flat.now.syms c.args.flat.now.flat c.args.b c.node-2.result.now c.requires.second c.node-2.ensures.node plain.1 c.word_variable-b.result c.word_variable-b.ensures in
    Gives-edge nodes c.args.flat.now.syms (option_copied c.args.marked) c.args.a c.args.b c.word_variable-a.result c.word_variable-b.result la lb c.args.prop.now c.mk_atom.new.self c.min.result c.max.result c.mk_atom.result
    c.if-a-b.false (sym c.has_either_mark.ensures ∙ c.if-has_either_mark.false) c.min.ensures c.max.ensures
    c.mk_atom.ensures.grows c.mk_atom.ensures.within c.mk_atom.ensures.form c.mk_atom.ensures.truth
