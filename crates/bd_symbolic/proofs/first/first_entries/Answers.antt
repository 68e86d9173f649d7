use Rattle.std.proofs.Common.{◌≡◌, ◌+◌, ◌∙◌, Some, refl, sym, subst, arith}
use Rattle.std.specs.Prelude.{slice_get}
use Rattle.bd_model.specs.DesignView.{design_view}
use Rattle.bd_model.specs.Lawful.{entry_sorts}
use Rattle.bd_model.specs.declared.design.Entry as entry
use Rattle.bd_terms.specs.declared.node.Sym.TheVariants as symbol
use Rattle.bd_symbolic.specs.DesignSymbols.{sort_use}
use Rattle.bd_symbolic.specs.inner.First.{KeepsUse}
use Rattle.bd_symbolic.proofs.Gathering.{map-front, map-none}
use Rattle.bd_symbolic.proofs.Firsts.{FirstsDone, item_there, entry_declared, entry_first, firsts_init, firsts_keep, firsts_grow, firsts_step, firsts_done}
use Rattle.bd_symbolic.proofs.first.first_entries.Goals as goal

pub loop-entry-init : goal.loop-entry-init
loop-entry-init c = rw (c.as_slice-entry-items.ensures, c.new-entries.ensures) (firsts_init (design_view c.args.design.now) (λ x. symbol.Entry x) 0 c.args.graph.now (entry_sorts (design_view c.args.design.now).pipe))

pub first_entry-requires : goal.first_entry-requires
first_entry-requires c =
    let there : slice_get c.args.design.now.pipe.entries c.loop-entry.entry-index ≡ Some c.entry-item.result = item_there _ _ _ _ c.as_slice-entry-items.ensures c.loop-entry-test.true c.entry-item.is in
    let place : c.loop-entry.entry-index ≡ c.len-place.result = sym (c.len-place.ensures ∙ c.loop-entry.invariant.count) in
    record {
      keeps = subst (λ i. KeepsUse c.loop-entry.graph (sort_use (symbol.Entry i) c.entry-item.result.sort)) place
          (firsts_keep (design_view c.args.design.now) (λ x. symbol.Entry x) 0 c.args.graph.now c.loop-entry.graph _ _ _ _ (sort_use (symbol.Entry c.loop-entry.entry-index) c.entry-item.result.sort) c.requires.keeps c.loop-entry.invariant
          (entry_declared (design_view c.args.design.now) c.loop-entry.entry-index c.entry-item.result c.entry-item.result.sort there refl));
    }

pub returns-in_err-first_entry-clause-grows : goal.returns-in_err-first_entry-clause-grows
returns-in_err-first_entry-clause-grows c =
    let there : slice_get c.args.design.now.pipe.entries c.loop-entry.entry-index ≡ Some c.entry-item.result = item_there _ _ _ _ c.as_slice-entry-items.ensures c.loop-entry-test.true c.entry-item.is in
    let place : c.len-place.result ≡ 0 + c.loop-entry.entry-index = omega (arith, c.len-place.ensures, c.loop-entry.invariant.count) in
    firsts_grow (design_view c.args.design.now) (λ x. symbol.Entry x) 0 c.args.graph.now c.loop-entry.graph c.first_entry.new.graph _ _ _ _ c.len-place.result c.entry-item.result.sort place
    c.loop-entry.invariant (entry_first (design_view c.args.design.now) c.loop-entry.entry-index c.entry-item.result there) c.first_entry.ensures.extends c.first_entry.ensures.uses

pub returns-in_err-push-clause-grows : goal.returns-in_err-push-clause-grows
returns-in_err-push-clause-grows c =
    let there : slice_get c.args.design.now.pipe.entries c.loop-entry.entry-index ≡ Some c.entry-item.result = item_there _ _ _ _ c.as_slice-entry-items.ensures c.loop-entry-test.true c.entry-item.is in
    let place : c.len-place.result ≡ 0 + c.loop-entry.entry-index = omega (arith, c.len-place.ensures, c.loop-entry.invariant.count) in
    firsts_grow (design_view c.args.design.now) (λ x. symbol.Entry x) 0 c.args.graph.now c.loop-entry.graph c.first_entry.new.graph _ _ _ _ c.len-place.result c.entry-item.result.sort place
    c.loop-entry.invariant (entry_first (design_view c.args.design.now) c.loop-entry.entry-index c.entry-item.result there) c.first_entry.ensures.extends c.first_entry.ensures.uses

pub loop-entry-preserved : goal.loop-entry-preserved
loop-entry-preserved c =
    let there : slice_get c.args.design.now.pipe.entries c.loop-entry.entry-index ≡ Some c.entry-item.result = item_there _ _ _ _ c.as_slice-entry-items.ensures c.loop-entry-test.true c.entry-item.is in
    let place : c.len-place.result ≡ 0 + c.loop-entry.entry-index = omega (arith, c.len-place.ensures, c.loop-entry.invariant.count) in
    let here = subst (λ rest. FirstsDone (design_view c.args.design.now) (λ x. symbol.Entry x) 0 c.args.graph.now c.loop-entry.graph (entry_sorts (design_view c.args.design.now).pipe) rest c.loop-entry.entry-index c.loop-entry.entries)
    (map-front (λ (x : entry.Entry). x.sort) c.as_slice-entry-items.result.now c.loop-entry.entry-index c.entry-item.result c.loop-entry-test.true c.entry-item.is) c.loop-entry.invariant in
    rw c.in_ok-push.ensures.ok (firsts_step (design_view c.args.design.now) (λ x. symbol.Entry x) 0 c.args.graph.now c.loop-entry.graph c.first_entry.new.graph _ _ _ _ _ _ c.len-place.result place here
    (entry_first (design_view c.args.design.now) c.loop-entry.entry-index c.entry-item.result there) c.first_entry.ensures.extends c.first_entry.ensures.uses c.in_ok-first_entry.ensures.term)

pub returns-clause-terms : goal.returns-clause-terms
returns-clause-terms c =
    firsts_done (design_view c.args.design.now) (λ x. symbol.Entry x) 0 c.args.graph.now c.loop-entry.graph (entry_sorts (design_view c.args.design.now).pipe) c.loop-entry.entry-index _
    (subst (λ rest. FirstsDone (design_view c.args.design.now) (λ x. symbol.Entry x) 0 c.args.graph.now c.loop-entry.graph (entry_sorts (design_view c.args.design.now).pipe) rest c.loop-entry.entry-index c.loop-entry.entries)
    (map-none (λ (x : entry.Entry). x.sort) c.as_slice-entry-items.result.now c.loop-entry.entry-index c.loop-entry-test.false) c.loop-entry.invariant)
