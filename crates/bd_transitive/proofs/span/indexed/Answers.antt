use Rattle.std.proofs.Common.{[], ◌++◌, ◌∷◌, sym, ap, take, ◌∙◌, arith}
use Rattle.std.proofs.lemmas.List.{take_more, take_all}
use Rattle.indexmap.specs.IndexSet.{insert_all, insert_key}
use Rattle.indexmap.proofs.SetLemmas.{set_all_push, set_all_distinct}
use Rattle.bd_transitive.proofs.span.indexed.Goals as goal

pub loop-item-preserved : goal.loop-item-preserved
loop-item-preserved g c =
    let eq = g.T.PartialEq.eq in
    let xs = c.args.items.now in
    let i = c.loop-item.item-index in
    let x = c.item-item.result in
    c.in_ok-insert.ensures.keys
    ∙ ap (λ ks. insert_key eq ks x) c.loop-item.invariant
    ∙ sym (set_all_push eq [] (take i xs) x)
    ∙ ap (λ y. insert_all eq [] (take i xs ++ y ∷ [])) c.item-item.is
    ∙ ap (insert_all eq []) (sym (take_more xs i x (omega arith)))

pub returns : goal.returns
returns g c =
    let eq = g.T.PartialEq.eq in
    c.loop-item.invariant ∙ ap (insert_all eq []) (take_all c.loop-item.item-index c.args.items.now (omega arith)) ∙ set_all_distinct g.met.T.Eq.laws [] c.args.items.now c.requires
