-- The choice is built from the last row on.
use Rattle.std.proofs.Common.{◌≡◌, ◌-◌, ℕ, suc, length, slice_get, Some, nat_eq, if◌then◌else◌, ap, sym, ◌∙◌, subst, arith}
use Rattle.std.specs.List.{All}
use Rattle.std.proofs.lemmas.Option.{slice_get-get_or}
use Rattle.bd_model.specs.declared.design.Sort.{Sort}
use Rattle.bd_model.specs.declared.design.Sort.TheVariants as sort
use lib.Pointwise.{pointwise}
use Rattle.std.proofs.lemmas.List.{get_or_default}
use Rattle.bd_terms.specs.Denotation.{Denotes, Truth, denoted, truth, words}
use Rattle.bd_terms.specs.Graph.{HasSort, sort_at}
use Rattle.bd_terms.proofs.Growth.{All-HasSort-Extends, Extends-trans, HasSort-Extends}
use Rattle.bd_terms.specs.Renamed.{id_at}
use Rattle.bd_terms.specs.declared.node.Node.TheVariants.{Ite}
use Rattle.bd_walk.specs.Built.{IsBuilt}
use Rattle.bd_walk.proofs.Building.{IsBuilt-now}
use Rattle.bd_function.specs.Flattened.{IsEquality}
use Rattle.bd_function.proofs.Nesting.{IsNested, IsNested-start, IsNested-step, row-get, HasSort-known}
use Rattle.bd_function.proofs.nested.nested.Goals as goal

pub loop-index-init : goal.loop-index-init
loop-index-init c = IsNested-start c.args.graph.now c.args.variables.now c.args.rows.now c.args.args.now c.args.own c.requires.own

pub equal-requires-clause-left : goal.equal-requires-clause-left
equal-requires-clause-left c =
    let r = row-get c.args.graph.now c.args.variables.now (length c.args.args.now) (sort_at c.args.graph.now c.args.own) c.args.rows.now (c.loop-index.index - 1) c.index-rows-index.result c.requires.rows
    (slice_get-get_or c.args.rows.now (c.loop-index.index - 1) _ (omega arith) ∙ ap Some (sym c.index-rows-index.is)) in
    subst (λ l. All (λ a. HasSort c.loop-index.graph a sort.Word) l) (sym c.as_slice.ensures)
    (All-HasSort-Extends c.args.graph.now c.loop-index.graph c.loop-index.invariant.extends sort.Word c.index-rows-index.result.args r.arguments)

pub equal-requires-clause-right : goal.equal-requires-clause-right
equal-requires-clause-right c = All-HasSort-Extends c.args.graph.now c.loop-index.graph c.loop-index.invariant.extends sort.Word c.args.args.now c.requires.arguments

pub mk_ite-requires-clause-yes : goal.mk_ite-requires-clause-yes
mk_ite-requires-clause-yes c =
    let r = row-get c.args.graph.now c.args.variables.now (length c.args.args.now) (sort_at c.args.graph.now c.args.own) c.args.rows.now (c.loop-index.index - 1) c.index-rows-index.result c.requires.rows
    (slice_get-get_or c.args.rows.now (c.loop-index.index - 1) _ (omega arith) ∙ ap Some (sym c.index-rows-index.is)) in
    let var : c.index-variables-row.result ≡ id_at c.args.variables.now c.index-rows-index.result.var =
    c.index-variables-row.is ∙ sym (get_or_default c.args.variables.now c.index-rows-index.result.var 0 c.index-variables-row.result r.known) in
    subst (λ i. HasSort c.equal.new.graph i (sort_at c.equal.new.graph i)) (sym var)
    (HasSort-known c.equal.new.graph _ _ (HasSort-Extends c.args.graph.now c.equal.new.graph (Extends-trans c.args.graph.now c.loop-index.graph c.equal.new.graph c.loop-index.invariant.extends c.in_ok-same.ensures.extends) _ _ r.sorted))

pub mk_ite-requires-clause-no : goal.mk_ite-requires-clause-no
mk_ite-requires-clause-no c =
    let r = row-get c.args.graph.now c.args.variables.now (length c.args.args.now) (sort_at c.args.graph.now c.args.own) c.args.rows.now (c.loop-index.index - 1) c.index-rows-index.result c.requires.rows
    (slice_get-get_or c.args.rows.now (c.loop-index.index - 1) _ (omega arith) ∙ ap Some (sym c.index-rows-index.is)) in
    let var : c.index-variables-row.result ≡ id_at c.args.variables.now c.index-rows-index.result.var =
    c.index-variables-row.is ∙ sym (get_or_default c.args.variables.now c.index-rows-index.result.var 0 c.index-variables-row.result r.known) in
    let yes = HasSort-Extends c.args.graph.now c.equal.new.graph (Extends-trans c.args.graph.now c.loop-index.graph c.equal.new.graph c.loop-index.invariant.extends c.in_ok-same.ensures.extends) _ _ r.sorted in
    subst (λ i. HasSort c.equal.new.graph c.loop-index.term (sort_at c.equal.new.graph i)) (sym var)
    (subst (HasSort c.equal.new.graph c.loop-index.term) (sym yes.sorted)
    (HasSort-Extends c.loop-index.graph c.equal.new.graph c.in_ok-same.ensures.extends c.loop-index.term _ c.loop-index.invariant.sorted))

pub loop-index-preserved : goal.loop-index-preserved
loop-index-preserved c =
    let k : ℕ = c.loop-index.index - 1 in
    let next : c.loop-index.index ≡ suc k = omega arith in
    let at : slice_get c.args.rows.now k ≡ Some c.index-rows-index.result = slice_get-get_or c.args.rows.now k _ (omega arith) ∙ ap Some (sym c.index-rows-index.is) in
    let s : Sort = sort_at c.args.graph.now c.args.own in
    let r = row-get c.args.graph.now c.args.variables.now (length c.args.args.now) s c.args.rows.now k c.index-rows-index.result c.requires.rows at in
    let var : c.index-variables-row.result ≡ id_at c.args.variables.now c.index-rows-index.result.var =
    c.index-variables-row.is ∙ sym (get_or_default c.args.variables.now c.index-rows-index.result.var 0 c.index-variables-row.result r.known) in
    let yes = HasSort-Extends c.args.graph.now c.equal.new.graph (Extends-trans c.args.graph.now c.loop-index.graph c.equal.new.graph c.loop-index.invariant.extends c.in_ok-same.ensures.extends) _ _ r.sorted in
    IsNested-step c.args.graph.now c.loop-index.graph c.equal.new.graph c.mk_ite.new.self c.args.variables.now c.args.rows.now c.args.args.now c.args.own k
    c.loop-index.term c.in_ok-same.same c.in_ok-term.term c.index-rows-index.result c.requires.arguments c.requires.rows at
    (subst (λ n. IsNested c.args.graph.now c.loop-index.graph c.args.variables.now c.args.rows.now c.args.args.now c.args.own n c.loop-index.term) next c.loop-index.invariant)
    c.in_ok-same.ensures.extends c.in_ok-same.ensures.uses
    (subst (λ l. Denotes c.equal.new.graph c.in_ok-same.same (λ w. Truth (pointwise nat_eq (words w c.loop-index.graph l) (words w c.loop-index.graph c.args.args.now)))) c.as_slice.ensures c.in_ok-same.ensures.denotes)
    c.in_ok-term.ensures.extends c.in_ok-term.ensures.uses
    (subst (λ j. Denotes c.mk_ite.new.self c.in_ok-term.term (λ w. if truth w c.equal.new.graph c.in_ok-same.same then denoted w c.equal.new.graph j else denoted w c.equal.new.graph c.loop-index.term)) var c.in_ok-term.ensures.denotes)
    (subst (HasSort c.mk_ite.new.self c.in_ok-term.term) (ap (sort_at c.equal.new.graph) var ∙ yes.sorted) c.in_ok-term.ensures.sorted) c.in_ok-term.ensures.graph
    (subst (λ l. IsEquality c.equal.new.graph l c.args.args.now c.in_ok-same.same) c.as_slice.ensures c.in_ok-same.ensures.made)
    (subst (λ j. IsBuilt c.mk_ite.new.self (Ite c.in_ok-same.same j c.loop-index.term) c.in_ok-term.term) var
    (IsBuilt-now c.equal.new.graph c.mk_ite.new.self (Ite c.in_ok-same.same c.index-variables-row.result c.loop-index.term) c.in_ok-term.term (
      c.in_ok-same.ensures.sorted,
      subst (λ i. HasSort c.equal.new.graph i (sort_at c.equal.new.graph i)) (sym var) (HasSort-known c.equal.new.graph _ _ yes),
      subst (λ i. HasSort c.equal.new.graph c.loop-index.term (sort_at c.equal.new.graph i)) (sym var)
          (subst (HasSort c.equal.new.graph c.loop-index.term) (sym yes.sorted)
          (HasSort-Extends c.loop-index.graph c.equal.new.graph c.in_ok-same.ensures.extends c.loop-index.term _ c.loop-index.invariant.sorted)),
    ) c.in_ok-term.ensures.simplified))

pub returns-clause-denotes : goal.returns-clause-denotes
returns-clause-denotes c =
    let last : c.loop-index.index ≡ 0 = omega arith in
    let whole = subst (λ n. IsNested c.args.graph.now c.loop-index.graph c.args.variables.now c.args.rows.now c.args.args.now c.args.own n c.loop-index.term) last c.loop-index.invariant in
    whole.denotes

pub returns-clause-made : goal.returns-clause-made
returns-clause-made c =
    let last : c.loop-index.index ≡ 0 = omega arith in
    (subst (λ n. IsNested c.args.graph.now c.loop-index.graph c.args.variables.now c.args.rows.now c.args.args.now c.args.own n c.loop-index.term) last c.loop-index.invariant).made
