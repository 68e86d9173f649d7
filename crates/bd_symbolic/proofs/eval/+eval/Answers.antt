use Rattle.std.proofs.Common.{◌≡◌, Ok, ◌&&◌, ◌||◌, true, false, sym, subst, rules, refl}
use Rattle.std.specs.List.{list_all, list_any}
use Rattle.bd_model.specs.DesignView.{design_view}
use Rattle.bd_model.specs.Value.{is_true}
use Rattle.bd_model.specs.declared.design.Sort.TheVariants as sort
use Rattle.bd_model.specs.ExprView.{expr_view, expr_views, Truth, Not, And, Or, Implies, Iff, Equal, Ite, Read, Write, Apply}
use Rattle.bd_model.specs.declared.expr.Expr.{the_lemmas}
use Rattle.bd_terms.specs.declared.node.Node.TheVariants as node
use Rattle.bd_terms.proofs.Growth.{HasSort-Extends}
use Rattle.bd_symbolic.specs.DesignSymbols.{GrowsWithin}
use Rattle.bd_symbolic.specs.inner.Names.{names_view}
use Rattle.bd_symbolic.specs.inner.Evaluates.{IsReady, DenoteWords}
use Rattle.bd_symbolic.proofs.Making.{called}
use Rattle.bd_symbolic.proofs.Growing.{Grows-none, Grows-trans, KeepsDesign-Grows}
use Rattle.bd_symbolic.proofs.Leaves.{expr_view-Bool, expr_view-Entry, expr_view-Input, expr_view-Local, expr_view-Not, expr_view-Implies, expr_view-Iff, expr_view-Equal, expr_view-Ite, expr_view-Read, expr_view-Write, expr_view-Apply, entry_bound, entry_arm, input_bound, input_arm, local_bound, local_arm}
use Rattle.bd_symbolic.proofs.Parts.{both, thrice, sorted_as, part_ready, joined_init, joined_ready, joined_sort, joined_step, all_done, any_done, all_starts, any_starts, and_assoc, gathered_done, gathered_init, gathered_ready, gathered_step, applies_to}
use Rattle.bd_symbolic.proofs.Applying.{apply_arm}
use Rattle.bd_symbolic.proofs.Arms.{as_form, sort_is, bool_arm, not_arm, implies_arm, iff_arm, equal_arm, ite_arm, read_arm, write_arm}
use Rattle.bd_list.proofs.Truths.{or_assoc}
use Rattle.bd_symbolic.proofs.eval.+eval.Goals as goal

pub eval-bounds-names-i : goal.eval-bounds-names-i
eval-bounds-names-i t c =
    entry_bound _ (names_view c.args.names.now) (expr_view c.args.expr.now) c.in-Entry.i (cc (expr_view-Entry c.in-Entry.i)) c.requires

pub eval-returns-in-Entry : goal.eval-returns-in-Entry
eval-returns-in-Entry t c =
    entry_arm _ (names_view c.args.names.now) (expr_view c.args.expr.now) c.in-Entry.i _ (cc (expr_view-Entry c.in-Entry.i)) c.requires

pub eval-bounds-names-i-in-Input : goal.eval-bounds-names-i-in-Input
eval-bounds-names-i-in-Input t c =
    input_bound _ (names_view c.args.names.now) (expr_view c.args.expr.now) c.in-Input.i (cc (expr_view-Input c.in-Input.i)) c.requires

pub eval-returns-in-Input : goal.eval-returns-in-Input
eval-returns-in-Input t c =
    input_arm _ (names_view c.args.names.now) (expr_view c.args.expr.now) c.in-Input.i _ (cc (expr_view-Input c.in-Input.i)) c.requires

pub eval-bounds-names-i-in-Local : goal.eval-bounds-names-i-in-Local
eval-bounds-names-i-in-Local t c =
    local_bound _ (names_view c.args.names.now) (expr_view c.args.expr.now) c.in-Local.i (cc (expr_view-Local c.in-Local.i)) c.requires

pub eval-returns-in-Local : goal.eval-returns-in-Local
eval-returns-in-Local t c =
    local_arm _ (names_view c.args.names.now) (expr_view c.args.expr.now) c.in-Local.i _ (cc (expr_view-Local c.in-Local.i)) c.requires

pub eval-returns-in-Bool : goal.eval-returns-in-Bool
eval-returns-in-Bool t c =
    let is : (expr_view c.args.expr.now) ≡ Truth c.in-Bool.value = cc (expr_view-Bool c.in-Bool.value) in
    as_form _ _ (names_view c.args.names.now) _ _ _ is (bool_arm (names_view c.args.names.now) c.in-Bool.value _ _ _ c.constant.ensures.extends c.constant.ensures.uses c.constant.ensures.denotes c.constant.ensures.sorted c.constant.ensures.made)

pub eval-returns-in_ok-part-in-Not : goal.eval-returns-in_ok-part-in-Not
eval-returns-in_ok-part-in-Not t c =
    let is : (expr_view c.args.expr.now) ≡ Not (expr_view c.deref.result.now) = cc (expr_view-Not c.in-Not.a) in
    as_form _ _ (names_view c.args.names.now) _ _ _ is (not_arm (names_view c.args.names.now) _ _ _ _ _ _ c.eval.ensures.grows c.mk_not.ensures.extends c.mk_not.ensures.uses c.in_ok-part-in-Not.ensures.term c.mk_not.ensures.denotes c.mk_not.ensures.sorted c.mk_not.ensures.simplified)

pub eval-apply-requires-clause-keeps : goal.eval-apply-requires-clause-keeps
eval-apply-requires-clause-keeps t c =
    KeepsDesign-Grows (design_view c.args.names.now.design.now) _ _ c.words_of.ensures.grows c.requires.terms.keeps

pub eval-apply-requires-clause-applies : goal.eval-apply-requires-clause-applies
eval-apply-requires-clause-applies t c =
    let words = subst (DenoteWords _ _ (names_view c.args.names.now) (expr_views c.in-Apply.parts)) (sym c.as_slice.ensures.value) c.in_ok-args-in-Apply.ensures.words in
    applies_to _ _ (names_view c.args.names.now) (expr_view c.args.expr.now) c.in-Apply.f (expr_views c.in-Apply.parts) _ (cc (expr_view-Apply c.in-Apply.f c.in-Apply.parts)) c.requires words

pub eval-returns-in_ok-args-in-Apply : goal.eval-returns-in_ok-args-in-Apply
eval-returns-in_ok-args-in-Apply t c =
    let is : (expr_view c.args.expr.now) ≡ Apply c.in-Apply.f (expr_views c.in-Apply.parts) = cc (expr_view-Apply c.in-Apply.f c.in-Apply.parts) in
    let words = subst (DenoteWords _ _ (names_view c.args.names.now) (expr_views c.in-Apply.parts)) (sym c.as_slice.ensures.value) c.in_ok-args-in-Apply.ensures.words in
    as_form _ _ (names_view c.args.names.now) _ _ _ is (apply_arm (names_view c.args.names.now) c.in-Apply.f (expr_views c.in-Apply.parts) _ _ _ _ _ c.words_of.ensures.grows c.apply.ensures.grows words c.apply.ensures.applied)

pub all_of-returns-in_err-all : goal.all_of-returns-in_err-all
all_of-returns-in_err-all t c =
    let g : GrowsWithin (design_view c.args.names.now.design.now) c.args.graph.now c.constant.new.graph = Grows-none (design_view c.args.names.now.design.now) _ _ c.constant.ensures.extends c.constant.ensures.uses in
    search (rules, g)

pub all_of-loop-part-init : goal.all_of-loop-part-init
all_of-loop-part-init t c =
    rw c.deref-part-items.ensures.value (joined_init (λ a b. a && b) (list_all is_true) node.And And true (λ b. refl) _ _ (names_view c.args.names.now) c.args.parts.now _ c.requires c.constant.ensures.extends c.constant.ensures.uses c.in_ok-all.ensures.denotes c.in_ok-all.ensures.sorted (all_starts _ (names_view c.args.names.now) (expr_views c.args.parts.now) _ c.in_ok-all.ensures.made))

pub all_of-eval-requires : goal.all_of-eval-requires
all_of-eval-requires t c =
    let r : IsReady c.loop-part.graph (names_view c.args.names.now) (expr_view c.part-item.result) = joined_ready (λ a b. a && b) (list_all is_true) node.And And _ _ (names_view c.args.names.now) (expr_views c.args.parts.now) c.deref-part-items.result.now c.loop-part.part-index c.loop-part.all c.part-item.result c.requires.terms c.loop-part-test.true c.part-item.is c.loop-part.invariant in
    (search (rules, the_lemmas), r)

pub all_of-returns-in_err-next : goal.all_of-returns-in_err-next
all_of-returns-in_err-next t c =
    let g : GrowsWithin (design_view c.args.names.now.design.now) c.args.graph.now c.eval.new.graph = Grows-trans (design_view c.args.names.now.design.now) _ _ _ c.loop-part.invariant.grows c.eval.ensures.grows in
    search (rules, g)

pub all_of-mk_and-requires-clause-first : goal.all_of-mk_and-requires-clause-first
all_of-mk_and-requires-clause-first t c =
    HasSort-Extends _ _ c.eval.ensures.grows.extends c.loop-part.all sort.Bool c.loop-part.invariant.sorted

pub all_of-mk_and-requires-clause-second : goal.all_of-mk_and-requires-clause-second
all_of-mk_and-requires-clause-second t c =
    joined_sort (λ a b. a && b) (list_all is_true) node.And And _ _ _ (names_view c.args.names.now) (expr_views c.args.parts.now) c.deref-part-items.result.now c.loop-part.part-index c.loop-part.all _ c.part-item.result c.requires.terms c.loop-part-test.true c.part-item.is c.loop-part.invariant c.in_ok-next.ensures.term

pub all_of-returns-in_err-all-2 : goal.all_of-returns-in_err-all-2
all_of-returns-in_err-all-2 t c =
    let g : GrowsWithin (design_view c.args.names.now.design.now) c.args.graph.now c.mk_and.new.self = Grows-trans (design_view c.args.names.now.design.now) _ _ _ (Grows-trans (design_view c.args.names.now.design.now) _ _ _ c.loop-part.invariant.grows c.eval.ensures.grows) (Grows-none (design_view c.args.names.now.design.now) _ _ c.mk_and.ensures.extends c.mk_and.ensures.uses) in
    search (rules, g)

pub all_of-loop-part-preserved : goal.all_of-loop-part-preserved
all_of-loop-part-preserved t c =
    joined_step (λ a b. a && b) (list_all is_true) node.And And (λ v vs. refl) and_assoc _ _ _ _ (names_view c.args.names.now) (expr_views c.args.parts.now) c.deref-part-items.result.now c.loop-part.part-index c.loop-part.all _ _ c.part-item.result c.requires.terms c.loop-part-test.true c.part-item.is c.loop-part.invariant c.eval.ensures.grows c.in_ok-next.ensures.term c.mk_and.ensures.extends c.mk_and.ensures.uses c.in_ok-all-2.ensures.denotes c.in_ok-all-2.ensures.sorted (called _ _ (node.And c.loop-part.all _) (Ok _) ((HasSort-Extends _ _ c.eval.ensures.grows.extends c.loop-part.all sort.Bool c.loop-part.invariant.sorted).inside, (c.in_ok-next.ensures.term.inside, tt)) c.in_ok-all-2.ensures.simplified)

pub all_of-returns : goal.all_of-returns
all_of-returns t c =
    all_done _ _ (names_view c.args.names.now) (expr_views c.args.parts.now) c.deref-part-items.result.now c.loop-part.part-index _ c.loop-part-test.false c.loop-part.invariant

pub any_of-returns-in_err-any : goal.any_of-returns-in_err-any
any_of-returns-in_err-any t c =
    let g : GrowsWithin (design_view c.args.names.now.design.now) c.args.graph.now c.constant.new.graph = Grows-none (design_view c.args.names.now.design.now) _ _ c.constant.ensures.extends c.constant.ensures.uses in
    search (rules, g)

pub any_of-loop-part-init : goal.any_of-loop-part-init
any_of-loop-part-init t c =
    rw c.deref-part-items.ensures.value (joined_init (λ a b. a || b) (list_any is_true) node.Or Or false (λ b. refl) _ _ (names_view c.args.names.now) c.args.parts.now _ c.requires c.constant.ensures.extends c.constant.ensures.uses c.in_ok-any.ensures.denotes c.in_ok-any.ensures.sorted (any_starts _ (names_view c.args.names.now) (expr_views c.args.parts.now) _ c.in_ok-any.ensures.made))

pub any_of-eval-requires : goal.any_of-eval-requires
any_of-eval-requires t c =
    let r : IsReady c.loop-part.graph (names_view c.args.names.now) (expr_view c.part-item.result) = joined_ready (λ a b. a || b) (list_any is_true) node.Or Or _ _ (names_view c.args.names.now) (expr_views c.args.parts.now) c.deref-part-items.result.now c.loop-part.part-index c.loop-part.any c.part-item.result c.requires.terms c.loop-part-test.true c.part-item.is c.loop-part.invariant in
    (search (rules, the_lemmas), r)

pub any_of-returns-in_err-next : goal.any_of-returns-in_err-next
any_of-returns-in_err-next t c =
    let g : GrowsWithin (design_view c.args.names.now.design.now) c.args.graph.now c.eval.new.graph = Grows-trans (design_view c.args.names.now.design.now) _ _ _ c.loop-part.invariant.grows c.eval.ensures.grows in
    search (rules, g)

pub any_of-mk_or-requires-clause-first : goal.any_of-mk_or-requires-clause-first
any_of-mk_or-requires-clause-first t c =
    HasSort-Extends _ _ c.eval.ensures.grows.extends c.loop-part.any sort.Bool c.loop-part.invariant.sorted

pub any_of-mk_or-requires-clause-second : goal.any_of-mk_or-requires-clause-second
any_of-mk_or-requires-clause-second t c =
    joined_sort (λ a b. a || b) (list_any is_true) node.Or Or _ _ _ (names_view c.args.names.now) (expr_views c.args.parts.now) c.deref-part-items.result.now c.loop-part.part-index c.loop-part.any _ c.part-item.result c.requires.terms c.loop-part-test.true c.part-item.is c.loop-part.invariant c.in_ok-next.ensures.term

pub any_of-returns-in_err-any-2 : goal.any_of-returns-in_err-any-2
any_of-returns-in_err-any-2 t c =
    let g : GrowsWithin (design_view c.args.names.now.design.now) c.args.graph.now c.mk_or.new.self = Grows-trans (design_view c.args.names.now.design.now) _ _ _ (Grows-trans (design_view c.args.names.now.design.now) _ _ _ c.loop-part.invariant.grows c.eval.ensures.grows) (Grows-none (design_view c.args.names.now.design.now) _ _ c.mk_or.ensures.extends c.mk_or.ensures.uses) in
    search (rules, g)

pub any_of-loop-part-preserved : goal.any_of-loop-part-preserved
any_of-loop-part-preserved t c =
    joined_step (λ a b. a || b) (list_any is_true) node.Or Or (λ v vs. refl) or_assoc _ _ _ _ (names_view c.args.names.now) (expr_views c.args.parts.now) c.deref-part-items.result.now c.loop-part.part-index c.loop-part.any _ _ c.part-item.result c.requires.terms c.loop-part-test.true c.part-item.is c.loop-part.invariant c.eval.ensures.grows c.in_ok-next.ensures.term c.mk_or.ensures.extends c.mk_or.ensures.uses c.in_ok-any-2.ensures.denotes c.in_ok-any-2.ensures.sorted (called _ _ (node.Or c.loop-part.any _) (Ok _) ((HasSort-Extends _ _ c.eval.ensures.grows.extends c.loop-part.any sort.Bool c.loop-part.invariant.sorted).inside, (c.in_ok-next.ensures.term.inside, tt)) c.in_ok-any-2.ensures.simplified)

pub any_of-returns : goal.any_of-returns
any_of-returns t c =
    any_done _ _ (names_view c.args.names.now) (expr_views c.args.parts.now) c.deref-part-items.result.now c.loop-part.part-index _ c.loop-part-test.false c.loop-part.invariant

pub words_of-loop-part-init : goal.words_of-loop-part-init
words_of-loop-part-init t c =
    rw (c.deref-part-items.ensures.value, c.new-args.ensures.items) (gathered_init _ (names_view c.args.names.now) c.args.parts.now c.requires)

pub words_of-eval-requires : goal.words_of-eval-requires
words_of-eval-requires t c =
    let r : IsReady c.loop-part.graph (names_view c.args.names.now) (expr_view c.part-item.result) = gathered_ready _ _ (names_view c.args.names.now) (expr_views c.args.parts.now) c.deref-part-items.result.now c.loop-part.part-index _ c.part-item.result c.requires.terms c.loop-part-test.true c.part-item.is c.loop-part.invariant in
    (search (rules, the_lemmas), r)

pub words_of-returns-in_err-eval : goal.words_of-returns-in_err-eval
words_of-returns-in_err-eval t c =
    let g : GrowsWithin (design_view c.args.names.now.design.now) c.args.graph.now c.eval.new.graph = Grows-trans (design_view c.args.names.now.design.now) _ _ _ c.loop-part.invariant.grows c.eval.ensures.grows in
    search (rules, g)

pub words_of-returns-in_err-push : goal.words_of-returns-in_err-push
words_of-returns-in_err-push t c =
    let g : GrowsWithin (design_view c.args.names.now.design.now) c.args.graph.now c.eval.new.graph = Grows-trans (design_view c.args.names.now.design.now) _ _ _ c.loop-part.invariant.grows c.eval.ensures.grows in
    search (rules, g)

pub words_of-loop-part-preserved : goal.words_of-loop-part-preserved
words_of-loop-part-preserved t c =
    rw c.in_ok-push.ensures.items (gathered_step _ _ _ (names_view c.args.names.now) (expr_views c.args.parts.now) c.deref-part-items.result.now c.loop-part.part-index _ _ c.part-item.result c.requires.terms c.loop-part-test.true c.part-item.is c.loop-part.invariant c.eval.ensures.grows c.in_ok-eval.ensures.term)

pub eval-eval-requires-in-Implies-2 : goal.eval-eval-requires-in-Implies-2
eval-eval-requires-in-Implies-2 t c =
    let is : (expr_view c.args.expr.now) ≡ Implies (expr_view c.deref-in-Implies.result.now) (expr_view c.deref-in-Implies-2.result.now) = cc (expr_view-Implies c.in-Implies.a c.in-Implies.b) in
    let h = sorted_as c.args.graph.now (names_view c.args.names.now) (expr_view c.args.expr.now) (Implies (expr_view c.deref-in-Implies.result.now) (expr_view c.deref-in-Implies-2.result.now)) is c.requires in
    (search (rules, the_lemmas), part_ready (names_view c.args.names.now) (expr_view c.deref-in-Implies-2.result.now) sort.Bool c.args.graph.now c.eval-in-Implies.new.graph c.eval-in-Implies.ensures.grows c.requires.terms h.2)

pub eval-returns-in_err-second-in-Implies : goal.eval-returns-in_err-second-in-Implies
eval-returns-in_err-second-in-Implies t c =
    let g : GrowsWithin (design_view c.args.names.now.design.now) c.args.graph.now c.eval-in-Implies-2.new.graph = Grows-trans (design_view c.args.names.now.design.now) _ _ _ c.eval-in-Implies.ensures.grows c.eval-in-Implies-2.ensures.grows in
    search (rules, g)

pub eval-implies-requires-clause-first : goal.eval-implies-requires-clause-first
eval-implies-requires-clause-first t c =
    let is : (expr_view c.args.expr.now) ≡ Implies (expr_view c.deref-in-Implies.result.now) (expr_view c.deref-in-Implies-2.result.now) = cc (expr_view-Implies c.in-Implies.a c.in-Implies.b) in
    let h = sorted_as c.args.graph.now (names_view c.args.names.now) (expr_view c.args.expr.now) (Implies (expr_view c.deref-in-Implies.result.now) (expr_view c.deref-in-Implies-2.result.now)) is c.requires in
    let p = both c.args.graph.now c.eval-in-Implies.new.graph c.eval-in-Implies-2.new.graph (names_view c.args.names.now) (expr_view c.deref-in-Implies.result.now) (expr_view c.deref-in-Implies-2.result.now) _ _ c.requires.terms c.eval-in-Implies.ensures.grows c.eval-in-Implies-2.ensures.grows c.in_ok-first-in-Implies.ensures.term c.in_ok-second-in-Implies.ensures.term in
    p.terms.0.sorted sort.Bool h.1

pub eval-implies-requires-clause-second : goal.eval-implies-requires-clause-second
eval-implies-requires-clause-second t c =
    let is : (expr_view c.args.expr.now) ≡ Implies (expr_view c.deref-in-Implies.result.now) (expr_view c.deref-in-Implies-2.result.now) = cc (expr_view-Implies c.in-Implies.a c.in-Implies.b) in
    let h = sorted_as c.args.graph.now (names_view c.args.names.now) (expr_view c.args.expr.now) (Implies (expr_view c.deref-in-Implies.result.now) (expr_view c.deref-in-Implies-2.result.now)) is c.requires in
    let p = both c.args.graph.now c.eval-in-Implies.new.graph c.eval-in-Implies-2.new.graph (names_view c.args.names.now) (expr_view c.deref-in-Implies.result.now) (expr_view c.deref-in-Implies-2.result.now) _ _ c.requires.terms c.eval-in-Implies.ensures.grows c.eval-in-Implies-2.ensures.grows c.in_ok-first-in-Implies.ensures.term c.in_ok-second-in-Implies.ensures.term in
    p.terms.1.sorted sort.Bool h.2

pub eval-returns-in_ok-second-in-Implies : goal.eval-returns-in_ok-second-in-Implies
eval-returns-in_ok-second-in-Implies t c =
    let is : (expr_view c.args.expr.now) ≡ Implies (expr_view c.deref-in-Implies.result.now) (expr_view c.deref-in-Implies-2.result.now) = cc (expr_view-Implies c.in-Implies.a c.in-Implies.b) in
    let p = both c.args.graph.now c.eval-in-Implies.new.graph c.eval-in-Implies-2.new.graph (names_view c.args.names.now) (expr_view c.deref-in-Implies.result.now) (expr_view c.deref-in-Implies-2.result.now) _ _ c.requires.terms c.eval-in-Implies.ensures.grows c.eval-in-Implies-2.ensures.grows c.in_ok-first-in-Implies.ensures.term c.in_ok-second-in-Implies.ensures.term in
    as_form _ _ (names_view c.args.names.now) _ _ _ is (implies_arm (names_view c.args.names.now) (expr_view c.deref-in-Implies.result.now) (expr_view c.deref-in-Implies-2.result.now) _ _ c.args.graph.now c.eval-in-Implies-2.new.graph _ _ p.grows c.implies.ensures.extends c.implies.ensures.uses p.terms.0 p.terms.1 c.implies.ensures.denotes c.implies.ensures.sorted c.implies.ensures.made)

pub eval-eval-requires-in-Iff-2 : goal.eval-eval-requires-in-Iff-2
eval-eval-requires-in-Iff-2 t c =
    let is : (expr_view c.args.expr.now) ≡ Iff (expr_view c.deref-in-Iff.result.now) (expr_view c.deref-in-Iff-2.result.now) = cc (expr_view-Iff c.in-Iff.a c.in-Iff.b) in
    let h = sorted_as c.args.graph.now (names_view c.args.names.now) (expr_view c.args.expr.now) (Iff (expr_view c.deref-in-Iff.result.now) (expr_view c.deref-in-Iff-2.result.now)) is c.requires in
    (search (rules, the_lemmas), part_ready (names_view c.args.names.now) (expr_view c.deref-in-Iff-2.result.now) sort.Bool c.args.graph.now c.eval-in-Iff.new.graph c.eval-in-Iff.ensures.grows c.requires.terms h.2)

pub eval-returns-in_err-second-in-Iff : goal.eval-returns-in_err-second-in-Iff
eval-returns-in_err-second-in-Iff t c =
    let g : GrowsWithin (design_view c.args.names.now.design.now) c.args.graph.now c.eval-in-Iff-2.new.graph = Grows-trans (design_view c.args.names.now.design.now) _ _ _ c.eval-in-Iff.ensures.grows c.eval-in-Iff-2.ensures.grows in
    search (rules, g)

pub eval-iff-requires-clause-first : goal.eval-iff-requires-clause-first
eval-iff-requires-clause-first t c =
    let is : (expr_view c.args.expr.now) ≡ Iff (expr_view c.deref-in-Iff.result.now) (expr_view c.deref-in-Iff-2.result.now) = cc (expr_view-Iff c.in-Iff.a c.in-Iff.b) in
    let h = sorted_as c.args.graph.now (names_view c.args.names.now) (expr_view c.args.expr.now) (Iff (expr_view c.deref-in-Iff.result.now) (expr_view c.deref-in-Iff-2.result.now)) is c.requires in
    let p = both c.args.graph.now c.eval-in-Iff.new.graph c.eval-in-Iff-2.new.graph (names_view c.args.names.now) (expr_view c.deref-in-Iff.result.now) (expr_view c.deref-in-Iff-2.result.now) _ _ c.requires.terms c.eval-in-Iff.ensures.grows c.eval-in-Iff-2.ensures.grows c.in_ok-first-in-Iff.ensures.term c.in_ok-second-in-Iff.ensures.term in
    p.terms.0.sorted sort.Bool h.1

pub eval-iff-requires-clause-second : goal.eval-iff-requires-clause-second
eval-iff-requires-clause-second t c =
    let is : (expr_view c.args.expr.now) ≡ Iff (expr_view c.deref-in-Iff.result.now) (expr_view c.deref-in-Iff-2.result.now) = cc (expr_view-Iff c.in-Iff.a c.in-Iff.b) in
    let h = sorted_as c.args.graph.now (names_view c.args.names.now) (expr_view c.args.expr.now) (Iff (expr_view c.deref-in-Iff.result.now) (expr_view c.deref-in-Iff-2.result.now)) is c.requires in
    let p = both c.args.graph.now c.eval-in-Iff.new.graph c.eval-in-Iff-2.new.graph (names_view c.args.names.now) (expr_view c.deref-in-Iff.result.now) (expr_view c.deref-in-Iff-2.result.now) _ _ c.requires.terms c.eval-in-Iff.ensures.grows c.eval-in-Iff-2.ensures.grows c.in_ok-first-in-Iff.ensures.term c.in_ok-second-in-Iff.ensures.term in
    p.terms.1.sorted sort.Bool h.2

pub eval-returns-in_ok-second-in-Iff : goal.eval-returns-in_ok-second-in-Iff
eval-returns-in_ok-second-in-Iff t c =
    let is : (expr_view c.args.expr.now) ≡ Iff (expr_view c.deref-in-Iff.result.now) (expr_view c.deref-in-Iff-2.result.now) = cc (expr_view-Iff c.in-Iff.a c.in-Iff.b) in
    let p = both c.args.graph.now c.eval-in-Iff.new.graph c.eval-in-Iff-2.new.graph (names_view c.args.names.now) (expr_view c.deref-in-Iff.result.now) (expr_view c.deref-in-Iff-2.result.now) _ _ c.requires.terms c.eval-in-Iff.ensures.grows c.eval-in-Iff-2.ensures.grows c.in_ok-first-in-Iff.ensures.term c.in_ok-second-in-Iff.ensures.term in
    as_form _ _ (names_view c.args.names.now) _ _ _ is (iff_arm (names_view c.args.names.now) (expr_view c.deref-in-Iff.result.now) (expr_view c.deref-in-Iff-2.result.now) _ _ c.args.graph.now c.eval-in-Iff-2.new.graph _ _ p.grows c.iff.ensures.extends c.iff.ensures.uses p.terms.0 p.terms.1 c.iff.ensures.denotes c.iff.ensures.sorted c.iff.ensures.made)

pub eval-eval-requires-in-Equal-2 : goal.eval-eval-requires-in-Equal-2
eval-eval-requires-in-Equal-2 t c =
    let is : (expr_view c.args.expr.now) ≡ Equal (expr_view c.deref-in-Equal.result.now) (expr_view c.deref-in-Equal-2.result.now) = cc (expr_view-Equal c.in-Equal.a c.in-Equal.b) in
    let h = sorted_as c.args.graph.now (names_view c.args.names.now) (expr_view c.args.expr.now) (Equal (expr_view c.deref-in-Equal.result.now) (expr_view c.deref-in-Equal-2.result.now)) is c.requires in
    (search (rules, the_lemmas), part_ready (names_view c.args.names.now) (expr_view c.deref-in-Equal-2.result.now) sort.Word c.args.graph.now c.eval-in-Equal.new.graph c.eval-in-Equal.ensures.grows c.requires.terms h.2)

pub eval-returns-in_err-second-in-Equal : goal.eval-returns-in_err-second-in-Equal
eval-returns-in_err-second-in-Equal t c =
    let g : GrowsWithin (design_view c.args.names.now.design.now) c.args.graph.now c.eval-in-Equal-2.new.graph = Grows-trans (design_view c.args.names.now.design.now) _ _ _ c.eval-in-Equal.ensures.grows c.eval-in-Equal-2.ensures.grows in
    search (rules, g)

pub eval-mk_eq-requires-clause-first : goal.eval-mk_eq-requires-clause-first
eval-mk_eq-requires-clause-first t c =
    let is : (expr_view c.args.expr.now) ≡ Equal (expr_view c.deref-in-Equal.result.now) (expr_view c.deref-in-Equal-2.result.now) = cc (expr_view-Equal c.in-Equal.a c.in-Equal.b) in
    let h = sorted_as c.args.graph.now (names_view c.args.names.now) (expr_view c.args.expr.now) (Equal (expr_view c.deref-in-Equal.result.now) (expr_view c.deref-in-Equal-2.result.now)) is c.requires in
    let p = both c.args.graph.now c.eval-in-Equal.new.graph c.eval-in-Equal-2.new.graph (names_view c.args.names.now) (expr_view c.deref-in-Equal.result.now) (expr_view c.deref-in-Equal-2.result.now) _ _ c.requires.terms c.eval-in-Equal.ensures.grows c.eval-in-Equal-2.ensures.grows c.in_ok-first-in-Equal.ensures.term c.in_ok-second-in-Equal.ensures.term in
    p.terms.0.sorted sort.Word h.1

pub eval-mk_eq-requires-clause-second : goal.eval-mk_eq-requires-clause-second
eval-mk_eq-requires-clause-second t c =
    let is : (expr_view c.args.expr.now) ≡ Equal (expr_view c.deref-in-Equal.result.now) (expr_view c.deref-in-Equal-2.result.now) = cc (expr_view-Equal c.in-Equal.a c.in-Equal.b) in
    let h = sorted_as c.args.graph.now (names_view c.args.names.now) (expr_view c.args.expr.now) (Equal (expr_view c.deref-in-Equal.result.now) (expr_view c.deref-in-Equal-2.result.now)) is c.requires in
    let p = both c.args.graph.now c.eval-in-Equal.new.graph c.eval-in-Equal-2.new.graph (names_view c.args.names.now) (expr_view c.deref-in-Equal.result.now) (expr_view c.deref-in-Equal-2.result.now) _ _ c.requires.terms c.eval-in-Equal.ensures.grows c.eval-in-Equal-2.ensures.grows c.in_ok-first-in-Equal.ensures.term c.in_ok-second-in-Equal.ensures.term in
    p.terms.1.sorted sort.Word h.2

pub eval-returns-in_ok-second-in-Equal : goal.eval-returns-in_ok-second-in-Equal
eval-returns-in_ok-second-in-Equal t c =
    let is : (expr_view c.args.expr.now) ≡ Equal (expr_view c.deref-in-Equal.result.now) (expr_view c.deref-in-Equal-2.result.now) = cc (expr_view-Equal c.in-Equal.a c.in-Equal.b) in
    let p = both c.args.graph.now c.eval-in-Equal.new.graph c.eval-in-Equal-2.new.graph (names_view c.args.names.now) (expr_view c.deref-in-Equal.result.now) (expr_view c.deref-in-Equal-2.result.now) _ _ c.requires.terms c.eval-in-Equal.ensures.grows c.eval-in-Equal-2.ensures.grows c.in_ok-first-in-Equal.ensures.term c.in_ok-second-in-Equal.ensures.term in
    as_form _ _ (names_view c.args.names.now) _ _ _ is (equal_arm (names_view c.args.names.now) (expr_view c.deref-in-Equal.result.now) (expr_view c.deref-in-Equal-2.result.now) _ _ c.args.graph.now c.eval-in-Equal-2.new.graph _ _ p.grows c.mk_eq.ensures.extends c.mk_eq.ensures.uses p.terms.0 p.terms.1 c.mk_eq.ensures.denotes c.mk_eq.ensures.sorted c.mk_eq.ensures.simplified)

pub eval-eval-requires-in-Read-2 : goal.eval-eval-requires-in-Read-2
eval-eval-requires-in-Read-2 t c =
    let is : (expr_view c.args.expr.now) ≡ Read (expr_view c.deref-in-Read.result.now) (expr_view c.deref-in-Read-2.result.now) = cc (expr_view-Read c.in-Read.m c.in-Read.a) in
    let h = sorted_as c.args.graph.now (names_view c.args.names.now) (expr_view c.args.expr.now) (Read (expr_view c.deref-in-Read.result.now) (expr_view c.deref-in-Read-2.result.now)) is c.requires in
    (search (rules, the_lemmas), part_ready (names_view c.args.names.now) (expr_view c.deref-in-Read-2.result.now) sort.Word c.args.graph.now c.eval-in-Read.new.graph c.eval-in-Read.ensures.grows c.requires.terms h.2)

pub eval-returns-in_err-address-in-Read : goal.eval-returns-in_err-address-in-Read
eval-returns-in_err-address-in-Read t c =
    let g : GrowsWithin (design_view c.args.names.now.design.now) c.args.graph.now c.eval-in-Read-2.new.graph = Grows-trans (design_view c.args.names.now.design.now) _ _ _ c.eval-in-Read.ensures.grows c.eval-in-Read-2.ensures.grows in
    search (rules, g)

pub eval-mk_read-requires-clause-memory : goal.eval-mk_read-requires-clause-memory
eval-mk_read-requires-clause-memory t c =
    let is : (expr_view c.args.expr.now) ≡ Read (expr_view c.deref-in-Read.result.now) (expr_view c.deref-in-Read-2.result.now) = cc (expr_view-Read c.in-Read.m c.in-Read.a) in
    let h = sorted_as c.args.graph.now (names_view c.args.names.now) (expr_view c.args.expr.now) (Read (expr_view c.deref-in-Read.result.now) (expr_view c.deref-in-Read-2.result.now)) is c.requires in
    let p = both c.args.graph.now c.eval-in-Read.new.graph c.eval-in-Read-2.new.graph (names_view c.args.names.now) (expr_view c.deref-in-Read.result.now) (expr_view c.deref-in-Read-2.result.now) _ _ c.requires.terms c.eval-in-Read.ensures.grows c.eval-in-Read-2.ensures.grows c.in_ok-memory-in-Read.ensures.term c.in_ok-address-in-Read.ensures.term in
    p.terms.0.sorted sort.Memory h.1

pub eval-mk_read-requires-clause-address : goal.eval-mk_read-requires-clause-address
eval-mk_read-requires-clause-address t c =
    let is : (expr_view c.args.expr.now) ≡ Read (expr_view c.deref-in-Read.result.now) (expr_view c.deref-in-Read-2.result.now) = cc (expr_view-Read c.in-Read.m c.in-Read.a) in
    let h = sorted_as c.args.graph.now (names_view c.args.names.now) (expr_view c.args.expr.now) (Read (expr_view c.deref-in-Read.result.now) (expr_view c.deref-in-Read-2.result.now)) is c.requires in
    let p = both c.args.graph.now c.eval-in-Read.new.graph c.eval-in-Read-2.new.graph (names_view c.args.names.now) (expr_view c.deref-in-Read.result.now) (expr_view c.deref-in-Read-2.result.now) _ _ c.requires.terms c.eval-in-Read.ensures.grows c.eval-in-Read-2.ensures.grows c.in_ok-memory-in-Read.ensures.term c.in_ok-address-in-Read.ensures.term in
    p.terms.1.sorted sort.Word h.2

pub eval-returns-in_ok-address-in-Read : goal.eval-returns-in_ok-address-in-Read
eval-returns-in_ok-address-in-Read t c =
    let is : (expr_view c.args.expr.now) ≡ Read (expr_view c.deref-in-Read.result.now) (expr_view c.deref-in-Read-2.result.now) = cc (expr_view-Read c.in-Read.m c.in-Read.a) in
    let p = both c.args.graph.now c.eval-in-Read.new.graph c.eval-in-Read-2.new.graph (names_view c.args.names.now) (expr_view c.deref-in-Read.result.now) (expr_view c.deref-in-Read-2.result.now) _ _ c.requires.terms c.eval-in-Read.ensures.grows c.eval-in-Read-2.ensures.grows c.in_ok-memory-in-Read.ensures.term c.in_ok-address-in-Read.ensures.term in
    as_form _ _ (names_view c.args.names.now) _ _ _ is (read_arm (names_view c.args.names.now) (expr_view c.deref-in-Read.result.now) (expr_view c.deref-in-Read-2.result.now) _ _ c.args.graph.now c.eval-in-Read-2.new.graph _ _ p.grows c.mk_read.ensures.extends c.mk_read.ensures.uses p.terms.0 p.terms.1 c.mk_read.ensures.denotes c.mk_read.ensures.sorted c.mk_read.ensures.simplified)

pub eval-eval-requires-in-Ite-2 : goal.eval-eval-requires-in-Ite-2
eval-eval-requires-in-Ite-2 t c =
    let is : (expr_view c.args.expr.now) ≡ Ite (expr_view c.deref-in-Ite.result.now) (expr_view c.deref-in-Ite-2.result.now) (expr_view c.in-Ite.b.value) = cc (expr_view-Ite c.in-Ite.p c.in-Ite.a c.in-Ite.b) in
    let h = sorted_as c.args.graph.now (names_view c.args.names.now) (expr_view c.args.expr.now) (Ite (expr_view c.deref-in-Ite.result.now) (expr_view c.deref-in-Ite-2.result.now) (expr_view c.in-Ite.b.value)) is c.requires in
    (search (rules, the_lemmas), part_ready (names_view c.args.names.now) (expr_view c.deref-in-Ite-2.result.now) c.requires.sorted.0 c.args.graph.now c.eval-in-Ite.new.graph c.eval-in-Ite.ensures.grows c.requires.terms h.1)

pub eval-returns-in_err-yes-in-Ite : goal.eval-returns-in_err-yes-in-Ite
eval-returns-in_err-yes-in-Ite t c =
    let g : GrowsWithin (design_view c.args.names.now.design.now) c.args.graph.now c.eval-in-Ite-2.new.graph = Grows-trans (design_view c.args.names.now.design.now) _ _ _ c.eval-in-Ite.ensures.grows c.eval-in-Ite-2.ensures.grows in
    search (rules, g)

pub eval-eval-requires-in-Ite-3 : goal.eval-eval-requires-in-Ite-3
eval-eval-requires-in-Ite-3 t c =
    let is : (expr_view c.args.expr.now) ≡ Ite (expr_view c.deref-in-Ite.result.now) (expr_view c.deref-in-Ite-2.result.now) (expr_view c.deref-in-Ite-3.result.now) = cc (expr_view-Ite c.in-Ite.p c.in-Ite.a c.in-Ite.b) in
    let h = sorted_as c.args.graph.now (names_view c.args.names.now) (expr_view c.args.expr.now) (Ite (expr_view c.deref-in-Ite.result.now) (expr_view c.deref-in-Ite-2.result.now) (expr_view c.deref-in-Ite-3.result.now)) is c.requires in
    (search (rules, the_lemmas), part_ready (names_view c.args.names.now) (expr_view c.deref-in-Ite-3.result.now) c.requires.sorted.0 c.args.graph.now c.eval-in-Ite-2.new.graph (Grows-trans (design_view c.args.names.now.design.now) _ _ _ c.eval-in-Ite.ensures.grows c.eval-in-Ite-2.ensures.grows) c.requires.terms h.2)

pub eval-returns-in_err-no-in-Ite : goal.eval-returns-in_err-no-in-Ite
eval-returns-in_err-no-in-Ite t c =
    let g : GrowsWithin (design_view c.args.names.now.design.now) c.args.graph.now c.eval-in-Ite-3.new.graph = Grows-trans (design_view c.args.names.now.design.now) _ _ _ c.eval-in-Ite.ensures.grows (Grows-trans (design_view c.args.names.now.design.now) _ _ _ c.eval-in-Ite-2.ensures.grows c.eval-in-Ite-3.ensures.grows) in
    search (rules, g)

pub eval-mk_ite-requires-clause-control : goal.eval-mk_ite-requires-clause-control
eval-mk_ite-requires-clause-control t c =
    let is : (expr_view c.args.expr.now) ≡ Ite (expr_view c.deref-in-Ite.result.now) (expr_view c.deref-in-Ite-2.result.now) (expr_view c.deref-in-Ite-3.result.now) = cc (expr_view-Ite c.in-Ite.p c.in-Ite.a c.in-Ite.b) in
    let h = sorted_as c.args.graph.now (names_view c.args.names.now) (expr_view c.args.expr.now) (Ite (expr_view c.deref-in-Ite.result.now) (expr_view c.deref-in-Ite-2.result.now) (expr_view c.deref-in-Ite-3.result.now)) is c.requires in
    let p = thrice c.args.graph.now c.eval-in-Ite.new.graph c.eval-in-Ite-2.new.graph c.eval-in-Ite-3.new.graph (names_view c.args.names.now) (expr_view c.deref-in-Ite.result.now) (expr_view c.deref-in-Ite-2.result.now) (expr_view c.deref-in-Ite-3.result.now) _ _ _ c.requires.terms c.eval-in-Ite.ensures.grows c.eval-in-Ite-2.ensures.grows c.eval-in-Ite-3.ensures.grows c.in_ok-control-in-Ite.ensures.term c.in_ok-yes-in-Ite.ensures.term c.in_ok-no-in-Ite.ensures.term in
    p.terms.0.sorted sort.Bool h.0

pub eval-mk_ite-requires-clause-no : goal.eval-mk_ite-requires-clause-no
eval-mk_ite-requires-clause-no t c =
    let is : (expr_view c.args.expr.now) ≡ Ite (expr_view c.deref-in-Ite.result.now) (expr_view c.deref-in-Ite-2.result.now) (expr_view c.deref-in-Ite-3.result.now) = cc (expr_view-Ite c.in-Ite.p c.in-Ite.a c.in-Ite.b) in
    let h = sorted_as c.args.graph.now (names_view c.args.names.now) (expr_view c.args.expr.now) (Ite (expr_view c.deref-in-Ite.result.now) (expr_view c.deref-in-Ite-2.result.now) (expr_view c.deref-in-Ite-3.result.now)) is c.requires in
    let p = thrice c.args.graph.now c.eval-in-Ite.new.graph c.eval-in-Ite-2.new.graph c.eval-in-Ite-3.new.graph (names_view c.args.names.now) (expr_view c.deref-in-Ite.result.now) (expr_view c.deref-in-Ite-2.result.now) (expr_view c.deref-in-Ite-3.result.now) _ _ _ c.requires.terms c.eval-in-Ite.ensures.grows c.eval-in-Ite-2.ensures.grows c.eval-in-Ite-3.ensures.grows c.in_ok-control-in-Ite.ensures.term c.in_ok-yes-in-Ite.ensures.term c.in_ok-no-in-Ite.ensures.term in
    sort_is _ _ _ c.requires.sorted.0 (sym (p.terms.1.sorted c.requires.sorted.0 h.1).sorted) (p.terms.2.sorted c.requires.sorted.0 h.2)

pub eval-returns-in_ok-no-in-Ite : goal.eval-returns-in_ok-no-in-Ite
eval-returns-in_ok-no-in-Ite t c =
    let is : (expr_view c.args.expr.now) ≡ Ite (expr_view c.deref-in-Ite.result.now) (expr_view c.deref-in-Ite-2.result.now) (expr_view c.deref-in-Ite-3.result.now) = cc (expr_view-Ite c.in-Ite.p c.in-Ite.a c.in-Ite.b) in
    let p = thrice c.args.graph.now c.eval-in-Ite.new.graph c.eval-in-Ite-2.new.graph c.eval-in-Ite-3.new.graph (names_view c.args.names.now) (expr_view c.deref-in-Ite.result.now) (expr_view c.deref-in-Ite-2.result.now) (expr_view c.deref-in-Ite-3.result.now) _ _ _ c.requires.terms c.eval-in-Ite.ensures.grows c.eval-in-Ite-2.ensures.grows c.eval-in-Ite-3.ensures.grows c.in_ok-control-in-Ite.ensures.term c.in_ok-yes-in-Ite.ensures.term c.in_ok-no-in-Ite.ensures.term in
    as_form _ _ (names_view c.args.names.now) _ _ _ is (ite_arm (names_view c.args.names.now) (expr_view c.deref-in-Ite.result.now) (expr_view c.deref-in-Ite-2.result.now) (expr_view c.deref-in-Ite-3.result.now) _ _ _ c.args.graph.now c.eval-in-Ite-3.new.graph _ _ p.grows c.mk_ite.ensures.extends c.mk_ite.ensures.uses p.terms.0 p.terms.1 p.terms.2 c.mk_ite.ensures.denotes c.mk_ite.ensures.sorted c.mk_ite.ensures.simplified)

pub eval-eval-requires-in-Write-2 : goal.eval-eval-requires-in-Write-2
eval-eval-requires-in-Write-2 t c =
    let is : (expr_view c.args.expr.now) ≡ Write (expr_view c.deref-in-Write.result.now) (expr_view c.deref-in-Write-2.result.now) (expr_view c.in-Write.d.value) = cc (expr_view-Write c.in-Write.m c.in-Write.a c.in-Write.d) in
    let h = sorted_as c.args.graph.now (names_view c.args.names.now) (expr_view c.args.expr.now) (Write (expr_view c.deref-in-Write.result.now) (expr_view c.deref-in-Write-2.result.now) (expr_view c.in-Write.d.value)) is c.requires in
    (search (rules, the_lemmas), part_ready (names_view c.args.names.now) (expr_view c.deref-in-Write-2.result.now) sort.Word c.args.graph.now c.eval-in-Write.new.graph c.eval-in-Write.ensures.grows c.requires.terms h.2)

pub eval-returns-in_err-address-in-Write : goal.eval-returns-in_err-address-in-Write
eval-returns-in_err-address-in-Write t c =
    let g : GrowsWithin (design_view c.args.names.now.design.now) c.args.graph.now c.eval-in-Write-2.new.graph = Grows-trans (design_view c.args.names.now.design.now) _ _ _ c.eval-in-Write.ensures.grows c.eval-in-Write-2.ensures.grows in
    search (rules, g)

pub eval-eval-requires-in-Write-3 : goal.eval-eval-requires-in-Write-3
eval-eval-requires-in-Write-3 t c =
    let is : (expr_view c.args.expr.now) ≡ Write (expr_view c.deref-in-Write.result.now) (expr_view c.deref-in-Write-2.result.now) (expr_view c.deref-in-Write-3.result.now) = cc (expr_view-Write c.in-Write.m c.in-Write.a c.in-Write.d) in
    let h = sorted_as c.args.graph.now (names_view c.args.names.now) (expr_view c.args.expr.now) (Write (expr_view c.deref-in-Write.result.now) (expr_view c.deref-in-Write-2.result.now) (expr_view c.deref-in-Write-3.result.now)) is c.requires in
    (search (rules, the_lemmas), part_ready (names_view c.args.names.now) (expr_view c.deref-in-Write-3.result.now) sort.Word c.args.graph.now c.eval-in-Write-2.new.graph (Grows-trans (design_view c.args.names.now.design.now) _ _ _ c.eval-in-Write.ensures.grows c.eval-in-Write-2.ensures.grows) c.requires.terms h.3)

pub eval-returns-in_err-word-in-Write : goal.eval-returns-in_err-word-in-Write
eval-returns-in_err-word-in-Write t c =
    let g : GrowsWithin (design_view c.args.names.now.design.now) c.args.graph.now c.eval-in-Write-3.new.graph = Grows-trans (design_view c.args.names.now.design.now) _ _ _ c.eval-in-Write.ensures.grows (Grows-trans (design_view c.args.names.now.design.now) _ _ _ c.eval-in-Write-2.ensures.grows c.eval-in-Write-3.ensures.grows) in
    search (rules, g)

pub eval-mk_write-requires-clause-memory : goal.eval-mk_write-requires-clause-memory
eval-mk_write-requires-clause-memory t c =
    let is : (expr_view c.args.expr.now) ≡ Write (expr_view c.deref-in-Write.result.now) (expr_view c.deref-in-Write-2.result.now) (expr_view c.deref-in-Write-3.result.now) = cc (expr_view-Write c.in-Write.m c.in-Write.a c.in-Write.d) in
    let h = sorted_as c.args.graph.now (names_view c.args.names.now) (expr_view c.args.expr.now) (Write (expr_view c.deref-in-Write.result.now) (expr_view c.deref-in-Write-2.result.now) (expr_view c.deref-in-Write-3.result.now)) is c.requires in
    let p = thrice c.args.graph.now c.eval-in-Write.new.graph c.eval-in-Write-2.new.graph c.eval-in-Write-3.new.graph (names_view c.args.names.now) (expr_view c.deref-in-Write.result.now) (expr_view c.deref-in-Write-2.result.now) (expr_view c.deref-in-Write-3.result.now) _ _ _ c.requires.terms c.eval-in-Write.ensures.grows c.eval-in-Write-2.ensures.grows c.eval-in-Write-3.ensures.grows c.in_ok-memory-in-Write.ensures.term c.in_ok-address-in-Write.ensures.term c.in_ok-word-in-Write.ensures.term in
    p.terms.0.sorted sort.Memory h.1

pub eval-mk_write-requires-clause-address : goal.eval-mk_write-requires-clause-address
eval-mk_write-requires-clause-address t c =
    let is : (expr_view c.args.expr.now) ≡ Write (expr_view c.deref-in-Write.result.now) (expr_view c.deref-in-Write-2.result.now) (expr_view c.deref-in-Write-3.result.now) = cc (expr_view-Write c.in-Write.m c.in-Write.a c.in-Write.d) in
    let h = sorted_as c.args.graph.now (names_view c.args.names.now) (expr_view c.args.expr.now) (Write (expr_view c.deref-in-Write.result.now) (expr_view c.deref-in-Write-2.result.now) (expr_view c.deref-in-Write-3.result.now)) is c.requires in
    let p = thrice c.args.graph.now c.eval-in-Write.new.graph c.eval-in-Write-2.new.graph c.eval-in-Write-3.new.graph (names_view c.args.names.now) (expr_view c.deref-in-Write.result.now) (expr_view c.deref-in-Write-2.result.now) (expr_view c.deref-in-Write-3.result.now) _ _ _ c.requires.terms c.eval-in-Write.ensures.grows c.eval-in-Write-2.ensures.grows c.eval-in-Write-3.ensures.grows c.in_ok-memory-in-Write.ensures.term c.in_ok-address-in-Write.ensures.term c.in_ok-word-in-Write.ensures.term in
    p.terms.1.sorted sort.Word h.2

pub eval-mk_write-requires-clause-word : goal.eval-mk_write-requires-clause-word
eval-mk_write-requires-clause-word t c =
    let is : (expr_view c.args.expr.now) ≡ Write (expr_view c.deref-in-Write.result.now) (expr_view c.deref-in-Write-2.result.now) (expr_view c.deref-in-Write-3.result.now) = cc (expr_view-Write c.in-Write.m c.in-Write.a c.in-Write.d) in
    let h = sorted_as c.args.graph.now (names_view c.args.names.now) (expr_view c.args.expr.now) (Write (expr_view c.deref-in-Write.result.now) (expr_view c.deref-in-Write-2.result.now) (expr_view c.deref-in-Write-3.result.now)) is c.requires in
    let p = thrice c.args.graph.now c.eval-in-Write.new.graph c.eval-in-Write-2.new.graph c.eval-in-Write-3.new.graph (names_view c.args.names.now) (expr_view c.deref-in-Write.result.now) (expr_view c.deref-in-Write-2.result.now) (expr_view c.deref-in-Write-3.result.now) _ _ _ c.requires.terms c.eval-in-Write.ensures.grows c.eval-in-Write-2.ensures.grows c.eval-in-Write-3.ensures.grows c.in_ok-memory-in-Write.ensures.term c.in_ok-address-in-Write.ensures.term c.in_ok-word-in-Write.ensures.term in
    p.terms.2.sorted sort.Word h.3

pub eval-returns-in_ok-word-in-Write : goal.eval-returns-in_ok-word-in-Write
eval-returns-in_ok-word-in-Write t c =
    let is : (expr_view c.args.expr.now) ≡ Write (expr_view c.deref-in-Write.result.now) (expr_view c.deref-in-Write-2.result.now) (expr_view c.deref-in-Write-3.result.now) = cc (expr_view-Write c.in-Write.m c.in-Write.a c.in-Write.d) in
    let p = thrice c.args.graph.now c.eval-in-Write.new.graph c.eval-in-Write-2.new.graph c.eval-in-Write-3.new.graph (names_view c.args.names.now) (expr_view c.deref-in-Write.result.now) (expr_view c.deref-in-Write-2.result.now) (expr_view c.deref-in-Write-3.result.now) _ _ _ c.requires.terms c.eval-in-Write.ensures.grows c.eval-in-Write-2.ensures.grows c.eval-in-Write-3.ensures.grows c.in_ok-memory-in-Write.ensures.term c.in_ok-address-in-Write.ensures.term c.in_ok-word-in-Write.ensures.term in
    as_form _ _ (names_view c.args.names.now) _ _ _ is (write_arm (names_view c.args.names.now) (expr_view c.deref-in-Write.result.now) (expr_view c.deref-in-Write-2.result.now) (expr_view c.deref-in-Write-3.result.now) _ _ _ c.args.graph.now c.eval-in-Write-3.new.graph _ _ p.grows c.mk_write.ensures.extends c.mk_write.ensures.uses p.terms.0 p.terms.1 p.terms.2 c.mk_write.ensures.denotes c.mk_write.ensures.sorted c.mk_write.ensures.simplified)

pub words_of-returns : goal.words_of-returns
words_of-returns t c = record {
  grows = c.loop-part.invariant.grows;
  words = gathered_done _ _ (names_view c.args.names.now) (expr_views c.args.parts.now) c.deref-part-items.result.now c.loop-part.part-index _ c.loop-part-test.false c.loop-part.invariant;
}
