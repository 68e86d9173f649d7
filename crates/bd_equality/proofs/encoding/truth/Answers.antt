use Rattle.std.proofs.Common.{Some, ap, ◌∙◌, subst}
use Rattle.bd_equality.specs.declared.wanted.Wanted.TheVariants.{Truth}
use Rattle.bd_equality.specs.Made.{Term}
use Rattle.bd_equality.specs.inner.Split.{between}
use Rattle.bd_equality.specs.inner.Steps.{Include, IsNode}
use Rattle.bd_equality.proofs.Stepping.{Gives-same, Means-between, Means-equation, part_means}
use Rattle.bd_equality.proofs.Truths.{Gives-and, Gives-ite, Gives-not, Gives-or, Gives-pred, Gives-true, is_true_node}
use Rattle.bd_equality.proofs.encoding.truth.Goals as goal

pub returns-in-Not : goal.returns-in-Not
returns-in-Not c = λ marked h.
    let nodes = c.args.flat.now.graph in
    let syms = c.args.flat.now.syms in
    let p = c.args.prop.now in
    let s = c.args.settled.now in
    Gives-not nodes c.node.ensures.graph syms marked (Include syms s) p c.mk_not.new.self c.mk_not.ensures.grows c.mk_not.result c.mk_not.ensures.within c.args.id
    c.in-Not.a c.node-in-Not.result (c.node.ensures.node ∙ ap Some c.in-Not.is) (part_means nodes syms marked p s h (Truth c.in-Not.a) c.node-in-Not.result c.node-in-Not.ensures)
    c.mk_not.ensures.form c.mk_not.ensures.truth

pub returns-in-And : goal.returns-in-And
returns-in-And c = λ marked h.
    let nodes = c.args.flat.now.graph in
    let syms = c.args.flat.now.syms in
    let p = c.args.prop.now in
    let s = c.args.settled.now in
    Gives-and nodes c.node.ensures.graph syms marked (Include syms s) p c.mk_and.new.self c.mk_and.ensures.grows c.mk_and.result c.mk_and.ensures.within c.args.id
    c.in-And.a c.in-And.b c.node-a.result c.node-b.result (c.node.ensures.node ∙ ap Some c.in-And.is) (part_means nodes syms marked p s h (Truth c.in-And.a) c.node-a.result c.node-a.ensures)
    (part_means nodes syms marked p s h (Truth c.in-And.b) c.node-b.result c.node-b.ensures) c.mk_and.ensures.form c.mk_and.ensures.truth

pub returns-in-Or : goal.returns-in-Or
returns-in-Or c = λ marked h.
    let nodes = c.args.flat.now.graph in
    let syms = c.args.flat.now.syms in
    let p = c.args.prop.now in
    let s = c.args.settled.now in
    Gives-or nodes c.node.ensures.graph syms marked (Include syms s) p c.mk_or.new.self c.mk_or.ensures.grows c.mk_or.result c.mk_or.ensures.within c.args.id
    c.in-Or.a c.in-Or.b c.node-a-in-Or.result c.node-b-in-Or.result (c.node.ensures.node ∙ ap Some c.in-Or.is) (part_means nodes syms marked p s h (Truth c.in-Or.a) c.node-a-in-Or.result c.node-a-in-Or.ensures)
    (part_means nodes syms marked p s h (Truth c.in-Or.b) c.node-b-in-Or.result c.node-b-in-Or.ensures) c.mk_or.ensures.form c.mk_or.ensures.truth

pub returns-in-Ite : goal.returns-in-Ite
returns-in-Ite c = λ marked h.
    let nodes = c.args.flat.now.graph in
    let syms = c.args.flat.now.syms in
    let p = c.args.prop.now in
    let s = c.args.settled.now in
    Gives-ite nodes c.node.ensures.graph syms marked (Include syms s) p c.mk_ite.new.self c.mk_ite.ensures.grows c.mk_ite.result c.mk_ite.ensures.within c.args.id
    c.in-Ite.control c.in-Ite.yes c.in-Ite.no c.node-control.result c.node-yes.result c.node-no.result (c.node.ensures.node ∙ ap Some c.in-Ite.is)
    (part_means nodes syms marked p s h (Truth c.in-Ite.control) c.node-control.result c.node-control.ensures) (part_means nodes syms marked p s h (Truth c.in-Ite.yes) c.node-yes.result c.node-yes.ensures)
    (part_means nodes syms marked p s h (Truth c.in-Ite.no) c.node-no.result c.node-no.ensures) c.mk_ite.ensures.form c.mk_ite.ensures.truth

pub returns-in-Eq : goal.returns-in-Eq
returns-in-Eq c = λ marked h.
    let nodes = c.args.flat.now.graph in
    let syms = c.args.flat.now.syms in
    let p = c.args.prop.now in
    let s = c.args.settled.now in
    let x = c.node-in-Eq.result in
    let is = subst (λ w. IsNode s w x) c.between.ensures c.node-in-Eq.ensures in
    Gives-same nodes syms marked (Include syms s) p x (Term c.args.id)
    (Means-equation nodes syms marked c.node.ensures.graph (Include syms s) p c.args.id c.in-Eq.a c.in-Eq.b x (c.node.ensures.node ∙ ap Some c.in-Eq.is)
    (Means-between nodes syms marked (Include syms s) p c.in-Eq.a c.in-Eq.b x (part_means nodes syms marked p s h (between c.in-Eq.a c.in-Eq.b) x is)))

pub returns-in-Pred : goal.returns-in-Pred
returns-in-Pred c = λ marked h.
    let syms = c.args.flat.now.syms in
    Gives-pred c.args.flat.now.graph c.node.ensures.graph syms marked (Include syms c.args.settled.now) c.args.prop.now c.mk_atom.new.self c.mk_atom.ensures.grows c.mk_atom.result c.mk_atom.ensures.within c.args.id
    c.args.flat.now.root c.args.flat.now.flat c.in-Pred.sym c.in-Pred.field-1 c.symbol_variable.result (c.node.ensures.node ∙ ap Some c.in-Pred.is) c.symbol_variable.ensures c.mk_atom.ensures.form c.mk_atom.ensures.truth

pub returns-in_default : goal.returns-in_default
returns-in_default c = λ marked h.
    let syms = c.args.flat.now.syms in
    Gives-true c.args.flat.now.graph c.node.ensures.graph syms marked (Include syms c.args.settled.now) c.args.prop.now c.mk_true.new.self c.mk_true.ensures.grows c.mk_true.result c.mk_true.ensures.within c.args.id
    (is_true_node c.args.flat.now.graph c.node.ensures.graph c.args.flat.now.root syms c.args.flat.now.flat c.args.id c.node.result.now c.node.ensures.node c.requires.sorted.sorted
    c.in_default.not-Not c.in_default.not-And c.in_default.not-Or c.in_default.not-Ite c.in_default.not-Eq c.in_default.not-Pred)
    c.mk_true.ensures.form c.mk_true.ensures.truth
