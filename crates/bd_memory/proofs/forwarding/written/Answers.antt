-- The equality is built, and the ite over it.
use Rattle.std.proofs.Common.{◌∙◌, refl, subst, sym}
use Rattle.bd_model.specs.declared.design.Sort.TheVariants as sort
use Rattle.bd_terms.specs.Graph.{HasSort, sort_at}
use Rattle.bd_terms.proofs.Growth.{HasSort-Extends, sort_at-Extends}
use Rattle.bd_memory.proofs.FromBelow.{written-Grows, written-Means}
use Rattle.bd_memory.proofs.Making.{written-made}
use Rattle.bd_memory.proofs.forwarding.written.Goals as goal

pub mk_ite-requires-clause-no : goal.mk_ite-requires-clause-no
mk_ite-requires-clause-no c =
    subst (HasSort c.mk_eq.new.self c.args.rest)
    (sym (sort_at-Extends c.args.graph.now c.mk_eq.new.self c.mk_eq.ensures.extends c.args.word c.requires.word.inside ∙ c.requires.word.sorted))
    (HasSort-Extends c.args.graph.now c.mk_eq.new.self c.mk_eq.ensures.extends c.args.rest sort.Word c.requires.rest)

pub returns-clause-means : goal.returns-clause-means
returns-clause-means c =
    written-Means c.args.graph.now c.mk_eq.new.self c.mk_ite.new.self c.mk_eq.ensures.extends c.mk_eq.ensures.graph
    c.in_ok-same.same c.args.at c.args.address c.args.word c.args.rest c.in_ok-same.ensures.denotes c.requires.word c.requires.rest
    c.mk_ite.result c.mk_ite.ensures.denotes c.mk_ite.ensures.sorted

pub returns-clause-grows : goal.returns-clause-grows
returns-clause-grows c =
    written-Grows c.args.graph.now c.mk_eq.new.self c.mk_ite.new.self c.in_ok-same.same c.args.at c.args.address c.args.word c.args.rest
    c.in_ok-same.ensures.simplified c.mk_eq.ensures.extends c.mk_eq.ensures.uses c.mk_eq.ensures.graph
    c.mk_ite.result c.mk_ite.ensures.simplified c.mk_ite.ensures.extends c.mk_ite.ensures.uses c.mk_ite.ensures.graph

pub returns-clause-made : goal.returns-clause-made
returns-clause-made c =
    let e = c.mk_eq.ensures.extends in
    let no =
    subst (HasSort c.mk_eq.new.self c.args.rest)
    (sym (sort_at-Extends c.args.graph.now c.mk_eq.new.self e c.args.word c.requires.word.inside ∙ c.requires.word.sorted))
    (HasSort-Extends c.args.graph.now c.mk_eq.new.self e c.args.rest sort.Word c.requires.rest) in
    let yes : HasSort c.mk_eq.new.self c.args.word (sort_at c.mk_eq.new.self c.args.word) = record { inside = (HasSort-Extends c.args.graph.now c.mk_eq.new.self e c.args.word sort.Word c.requires.word).inside; sorted = refl } in
    written-made c.args.graph.now c.mk_eq.new.self c.mk_ite.new.self c.in_ok-same.same c.args.at c.args.address c.args.word c.args.rest c.requires.address c.requires.at
    c.in_ok-same.ensures.simplified (c.in_ok-same.ensures.sorted, yes, no) c.mk_ite.ensures.extends c.mk_ite.result c.mk_ite.ensures.simplified
