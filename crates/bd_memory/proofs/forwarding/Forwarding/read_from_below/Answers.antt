-- The read of a write, of an ite and of first contents.
use Rattle.std.proofs.Common.{[], ◌∷◌, Some, refl, ap, sym, ◌∙◌, subst, arith}
use Rattle.std.proofs.lemmas.List.Elements.{All-cons, All-nil}
use Rattle.bd_model.specs.declared.design.Sort.TheVariants as sort
use Rattle.bd_terms.specs.declared.node.Node.TheVariants.{Write, Ite, Init, App}
use Rattle.bd_terms.specs.declared.node.Sym.TheVariants as symbol
use Rattle.bd_terms.specs.Graph.{HasSort, node_uses, sorts}
use Rattle.bd_terms.proofs.Graphs.{FitsSorts-get, sort_at-get}
use Rattle.bd_terms.proofs.Growth.{HasSort-Extends}
use Rattle.bd_terms.proofs.Reaching.{children-below}
use Rattle.bd_memory.proofs.Plain.{Bool-no_memory, Word-no_memory}
use Rattle.bd_memory.proofs.Growing.{Grows-Gives, IsForwarding-Grows, reached-KeepsSymbol}
use Rattle.bd_walk.proofs.Building.{IsBuilt-now}
use Rattle.bd_memory.specs.Forwarded.{OfInit}
use Rattle.bd_memory.proofs.Making.{ite-made, write-made}
use Rattle.bd_memory.proofs.FromBelow.{below-Means, init-Means, ite-Means, ite-sorts, memory-node, waits, write-Means}
use Rattle.bd_memory.proofs.forwarding.Forwarding.read_from_below.Goals as goal

pub returns-in_default-get-clause-step : goal.returns-in_default-get-clause-step
returns-in_default-get-clause-step g c =
    let there = c.node.ensures.node ∙ ap Some c.in-Write.is in
    let n = Write c.in-Write.below c.in-Write.at c.in-Write.word in
    waits c.args.old.now c.requires.0.source c.args.memory n there c.in-Write.below (0, omega arith, refl)
    (FitsSorts-get c.args.old.now c.requires.0.source c.args.memory n there).0
    c.args.self.now.reads c.args.address (sym c.get.ensures ∙ c.in_default-get.is)

pub place-at-requires : goal.place-at-requires
place-at-requires g c =
    let below = children-below c.args.old.now c.requires.0.source c.args.memory (Write c.in-Write.below c.in-Write.at c.in-Write.word) (c.node.ensures.node ∙ ap Some c.in-Write.is)
    c.in-Write.at (1, omega arith, refl) in
    omega (arith, below, c.requires.1.1.1.0)

pub place-word-requires : goal.place-word-requires
place-word-requires g c =
    let below = children-below c.args.old.now c.requires.0.source c.args.memory (Write c.in-Write.below c.in-Write.at c.in-Write.word) (c.node.ensures.node ∙ ap Some c.in-Write.is)
    c.in-Write.word (2, omega arith, refl) in
    omega (arith, below, c.requires.1.1.1.0)

pub written-requires-clause-at : goal.written-requires-clause-at
written-requires-clause-at g c =
    let there = c.node.ensures.node ∙ ap Some c.in-Write.is in
    let n = Write c.in-Write.below c.in-Write.at c.in-Write.word in
    (below-Means c.args.old.now g.root c.args.self.now.graph c.args.self.now.places.items c.args.self.now.reads c.requires.0
    c.args.memory n there c.requires.1.0 c.requires.1.1.1.0 c.in-Write.at sort.Word (1, omega arith, refl)
    (FitsSorts-get c.args.old.now c.requires.0.source c.args.memory n there).1 Word-no_memory c.place-at.result c.place-at.ensures).sorted

pub written-requires-clause-word : goal.written-requires-clause-word
written-requires-clause-word g c =
    let there = c.node.ensures.node ∙ ap Some c.in-Write.is in
    let n = Write c.in-Write.below c.in-Write.at c.in-Write.word in
    (below-Means c.args.old.now g.root c.args.self.now.graph c.args.self.now.places.items c.args.self.now.reads c.requires.0
    c.args.memory n there c.requires.1.0 c.requires.1.1.1.0 c.in-Write.word sort.Word (2, omega arith, refl)
    (FitsSorts-get c.args.old.now c.requires.0.source c.args.memory n there).2 Word-no_memory c.place-word.result c.place-word.ensures).sorted

pub written-requires-clause-rest : goal.written-requires-clause-rest
written-requires-clause-rest g c =
    (c.requires.0.words c.in-Write.below c.args.address c.in-Some.rest (sym c.get.ensures ∙ c.in-Some.is)).sorted

pub returns-in_default-get-2-clause-step : goal.returns-in_default-get-2-clause-step
returns-in_default-get-2-clause-step g c =
    let there = c.node.ensures.node ∙ ap Some c.in-Ite.is in
    waits c.args.old.now c.requires.0.source c.args.memory (Ite c.in-Ite.control c.in-Ite.yes c.in-Ite.no) there c.in-Ite.yes (1, omega arith, refl)
    (ite-sorts c.args.old.now c.requires.0.source c.args.memory c.in-Ite.control c.in-Ite.yes c.in-Ite.no there c.requires.1.1.0).0
    c.args.self.now.reads c.args.address (sym c.get-in-Ite.ensures ∙ c.in_default-get-2.is)

pub returns-in_default-get-3-clause-step : goal.returns-in_default-get-3-clause-step
returns-in_default-get-3-clause-step g c =
    let there = c.node.ensures.node ∙ ap Some c.in-Ite.is in
    waits c.args.old.now c.requires.0.source c.args.memory (Ite c.in-Ite.control c.in-Ite.yes c.in-Ite.no) there c.in-Ite.no (2, omega arith, refl)
    (ite-sorts c.args.old.now c.requires.0.source c.args.memory c.in-Ite.control c.in-Ite.yes c.in-Ite.no there c.requires.1.1.0).1
    c.args.self.now.reads c.args.address (sym c.get-in-Ite-2.ensures ∙ c.in_default-get-3.is)

pub place-control-requires : goal.place-control-requires
place-control-requires g c =
    let below = children-below c.args.old.now c.requires.0.source c.args.memory (Ite c.in-Ite.control c.in-Ite.yes c.in-Ite.no) (c.node.ensures.node ∙ ap Some c.in-Ite.is)
    c.in-Ite.control (0, omega arith, refl) in
    omega (arith, below, c.requires.1.1.1.0)

pub mk_ite-requires-clause-control : goal.mk_ite-requires-clause-control
mk_ite-requires-clause-control g c =
    let there = c.node.ensures.node ∙ ap Some c.in-Ite.is in
    let n = Ite c.in-Ite.control c.in-Ite.yes c.in-Ite.no in
    (below-Means c.args.old.now g.root c.args.self.now.graph c.args.self.now.places.items c.args.self.now.reads c.requires.0
    c.args.memory n there c.requires.1.0 c.requires.1.1.1.0 c.in-Ite.control sort.Bool (0, omega arith, refl)
    (FitsSorts-get c.args.old.now c.requires.0.source c.args.memory n there).0 Bool-no_memory c.place-control.result c.place-control.ensures).sorted

pub mk_ite-requires-clause-yes : goal.mk_ite-requires-clause-yes
mk_ite-requires-clause-yes g c =
    let h = (c.requires.0.words c.in-Ite.yes c.args.address c.in-Some-get.if_so (sym c.get-in-Ite.ensures ∙ c.in-Some-get.is)).sorted in
    subst (HasSort c.args.self.now.graph c.in-Some-get.if_so) (sym h.sorted) h

pub mk_ite-requires-clause-no : goal.mk_ite-requires-clause-no
mk_ite-requires-clause-no g c =
    let h = (c.requires.0.words c.in-Ite.yes c.args.address c.in-Some-get.if_so (sym c.get-in-Ite.ensures ∙ c.in-Some-get.is)).sorted in
    let k = (c.requires.0.words c.in-Ite.no c.args.address c.in-Some-get-2.if_not (sym c.get-in-Ite-2.ensures ∙ c.in-Some-get-2.is)).sorted in
    subst (HasSort c.args.self.now.graph c.in-Some-get-2.if_not) (sym h.sorted) k

pub mk_app-requires-clause-symbol : goal.mk_app-requires-clause-symbol
mk_app-requires-clause-symbol g c =
    reached-KeepsSymbol c.args.old.now g.root c.args.self.now.graph c.args.self.now.places.items c.args.self.now.reads c.requires.0
    c.args.memory (Init c.in-Init.entry) (c.node.ensures.node ∙ ap Some c.in-Init.is)
    (record { symbol = symbol.Entry c.in-Init.entry; arity = 1; sort = sort.Word }) (0, omega arith, refl)

pub returns-in_ok-written-in-Write-clause-step : goal.returns-in_ok-written-in-Write-clause-step
returns-in_ok-written-in-Write-clause-step g c =
    write-Means c.args.old.now g.root c.args.self.now.graph c.written.new.graph c.args.self.now.places.items c.args.self.now.reads c.requires.0
    c.args.memory c.in-Write.below c.in-Write.at c.in-Write.word (c.node.ensures.node ∙ ap Some c.in-Write.is) c.requires.1.0 c.requires.1.1.1.0
    c.args.address c.requires.1.1.1.1 c.in-Some.rest (sym c.get.ensures ∙ c.in-Some.is) c.place-at.result c.place-word.result c.place-at.ensures c.place-word.ensures
    c.in_ok-written-in-Write.ensures.grows.extends c.in_ok-written-in-Write.field-0 c.in_ok-written-in-Write.ensures.means

pub returns-in_ok-written-in-Write-clause-holds : goal.returns-in_ok-written-in-Write-clause-holds
returns-in_ok-written-in-Write-clause-holds g c =
    IsForwarding-Grows c.args.old.now g.root c.args.self.now.graph c.written.new.graph c.args.self.now.places.items c.args.self.now.reads [] c.requires.0
    c.in_ok-written-in-Write.ensures.grows (λ u p. absurd (omega (arith, p.1)))

pub returns-in_ok-written-in-Write-clause-address : goal.returns-in_ok-written-in-Write-clause-address
returns-in_ok-written-in-Write-clause-address g c =
    HasSort-Extends c.args.self.now.graph c.written.new.graph c.in_ok-written-in-Write.ensures.grows.extends c.args.address sort.Word c.requires.1.1.1.1

pub returns-in_ok-mk_ite-in-Ite-clause-step : goal.returns-in_ok-mk_ite-in-Ite-clause-step
returns-in_ok-mk_ite-in-Ite-clause-step g c =
    let h = (c.requires.0.words c.in-Ite.yes c.args.address c.in-Some-get.if_so (sym c.get-in-Ite.ensures ∙ c.in-Some-get.is)).sorted in
    ite-Means c.args.old.now g.root c.args.self.now.graph c.mk_ite.new.self c.args.self.now.places.items c.args.self.now.reads c.requires.0
    c.args.memory c.in-Ite.control c.in-Ite.yes c.in-Ite.no (c.node.ensures.node ∙ ap Some c.in-Ite.is) c.requires.1.0 c.requires.1.1.1.0
    c.args.address c.requires.1.1.1.1 c.in-Some-get.if_so c.in-Some-get-2.if_not
    (sym c.get-in-Ite.ensures ∙ c.in-Some-get.is) (sym c.get-in-Ite-2.ensures ∙ c.in-Some-get-2.is)
    c.place-control.result c.place-control.ensures c.mk_ite.ensures.extends c.in_ok-mk_ite-in-Ite.field-0
    (subst (HasSort c.mk_ite.new.self c.in_ok-mk_ite-in-Ite.field-0) h.sorted c.in_ok-mk_ite-in-Ite.ensures.sorted)
    (λ w. c.in_ok-mk_ite-in-Ite.ensures.denotes.is w)

pub returns-in_ok-mk_ite-in-Ite-clause-holds : goal.returns-in_ok-mk_ite-in-Ite-clause-holds
returns-in_ok-mk_ite-in-Ite-clause-holds g c =
    IsForwarding-Grows c.args.old.now g.root c.args.self.now.graph c.mk_ite.new.self c.args.self.now.places.items c.args.self.now.reads [] c.requires.0
    (Grows-Gives c.args.self.now.graph c.mk_ite.new.self [] c.in_ok-mk_ite-in-Ite.field-0 (Ite c.place-control.result c.in-Some-get.if_so c.in-Some-get-2.if_not) refl
    c.in_ok-mk_ite-in-Ite.ensures.simplified c.mk_ite.ensures.extends c.mk_ite.ensures.uses c.mk_ite.ensures.graph)
    (λ u p. absurd (omega (arith, p.1)))

pub returns-in_ok-mk_ite-in-Ite-clause-address : goal.returns-in_ok-mk_ite-in-Ite-clause-address
returns-in_ok-mk_ite-in-Ite-clause-address g c =
    HasSort-Extends c.args.self.now.graph c.mk_ite.new.self c.mk_ite.ensures.extends c.args.address sort.Word c.requires.1.1.1.1

pub returns-in_ok-mk_app-in-Init-clause-step : goal.returns-in_ok-mk_app-in-Init-clause-step
returns-in_ok-mk_app-in-Init-clause-step g c =
    init-Means c.args.old.now g.root c.args.self.now.graph c.mk_app.new.self c.args.self.now.places.items c.args.self.now.reads c.requires.0
    c.args.memory c.in-Init.entry (c.node.ensures.node ∙ ap Some c.in-Init.is) c.args.address c.requires.1.1.1.1 c.mk_app.ensures.extends
    c.in_ok-mk_app-in-Init.field-0 c.in_ok-mk_app-in-Init.ensures.sorted (λ w. c.in_ok-mk_app-in-Init.ensures.denotes.is w)

pub returns-in_ok-mk_app-in-Init-clause-holds : goal.returns-in_ok-mk_app-in-Init-clause-holds
returns-in_ok-mk_app-in-Init-clause-holds g c =
    let n = App (symbol.Entry c.in-Init.entry) (c.args.address ∷ []) in
    IsForwarding-Grows c.args.old.now g.root c.args.self.now.graph c.mk_app.new.self c.args.self.now.places.items c.args.self.now.reads (node_uses n) c.requires.0
    (Grows-Gives c.args.self.now.graph c.mk_app.new.self (node_uses n) c.in_ok-mk_app-in-Init.field-0 n refl
    c.in_ok-mk_app-in-Init.ensures.simplified c.mk_app.ensures.extends c.mk_app.ensures.uses c.mk_app.ensures.graph)
    (λ u p. record { id = c.args.memory; node = Init c.in-Init.entry; reached = c.requires.1.0; there = c.node.ensures.node ∙ ap Some c.in-Init.is; applies = p })

pub returns-in_ok-mk_app-in-Init-clause-address : goal.returns-in_ok-mk_app-in-Init-clause-address
returns-in_ok-mk_app-in-Init-clause-address g c =
    HasSort-Extends c.args.self.now.graph c.mk_app.new.self c.mk_app.ensures.extends c.args.address sort.Word c.requires.1.1.1.1

pub returns-in_ok-written-in-Write-clause-made : goal.returns-in_ok-written-in-Write-clause-made
returns-in_ok-written-in-Write-clause-made g c =
    write-made c.args.old.now g.root c.args.self.now.graph c.written.new.graph c.args.self.now.places.items c.args.self.now.reads c.requires.0
    c.args.memory c.in-Write.below c.in-Write.at c.in-Write.word (c.node.ensures.node ∙ ap Some c.in-Write.is) c.requires.1.0 c.requires.1.1.1.0
    c.args.address c.in-Some.rest (sym c.get.ensures ∙ c.in-Some.is) c.place-at.result c.place-word.result c.place-at.ensures c.place-word.ensures
    c.in_ok-written-in-Write.ensures.grows.extends c.in_ok-written-in-Write.field-0 c.in_ok-written-in-Write.ensures.made

pub returns-in_ok-mk_ite-in-Ite-clause-made : goal.returns-in_ok-mk_ite-in-Ite-clause-made
returns-in_ok-mk_ite-in-Ite-clause-made g c =
    let h = (c.requires.0.words c.in-Ite.yes c.args.address c.in-Some-get.if_so (sym c.get-in-Ite.ensures ∙ c.in-Some-get.is)).sorted in
    let k = (c.requires.0.words c.in-Ite.no c.args.address c.in-Some-get-2.if_not (sym c.get-in-Ite-2.ensures ∙ c.in-Some-get-2.is)).sorted in
    let there = c.node.ensures.node ∙ ap Some c.in-Ite.is in
    let control =
    (below-Means c.args.old.now g.root c.args.self.now.graph c.args.self.now.places.items c.args.self.now.reads c.requires.0
    c.args.memory (Ite c.in-Ite.control c.in-Ite.yes c.in-Ite.no) there c.requires.1.0 c.requires.1.1.1.0 c.in-Ite.control sort.Bool (0, omega arith, refl)
    (FitsSorts-get c.args.old.now c.requires.0.source c.args.memory (Ite c.in-Ite.control c.in-Ite.yes c.in-Ite.no) there).0 Bool-no_memory c.place-control.result c.place-control.ensures).sorted in
    ite-made c.args.old.now g.root c.args.self.now.graph c.mk_ite.new.self c.args.self.now.places.items c.args.self.now.reads c.requires.0
    c.args.memory c.in-Ite.control c.in-Ite.yes c.in-Ite.no there c.requires.1.0 c.requires.1.1.1.0
    c.args.address c.in-Some-get.if_so c.in-Some-get-2.if_not (sym c.get-in-Ite.ensures ∙ c.in-Some-get.is) (sym c.get-in-Ite-2.ensures ∙ c.in-Some-get-2.is)
    c.place-control.result c.place-control.ensures c.mk_ite.ensures.extends c.in_ok-mk_ite-in-Ite.field-0
    (IsBuilt-now c.args.self.now.graph c.mk_ite.new.self (Ite c.place-control.result c.in-Some-get.if_so c.in-Some-get-2.if_not) c.in_ok-mk_ite-in-Ite.field-0
    (control, subst (HasSort c.args.self.now.graph c.in-Some-get.if_so) (sym h.sorted) h, subst (HasSort c.args.self.now.graph c.in-Some-get-2.if_not) (sym h.sorted) k)
    c.in_ok-mk_ite-in-Ite.ensures.simplified)

pub returns-in_ok-mk_app-in-Init-clause-made : goal.returns-in_ok-mk_app-in-Init-clause-made
returns-in_ok-mk_app-in-Init-clause-made g c =
    let n = App (symbol.Entry c.in-Init.entry) (c.args.address ∷ []) in
    OfInit c.args.memory c.in-Init.entry c.args.address c.in_ok-mk_app-in-Init.field-0 (c.node.ensures.node ∙ ap Some c.in-Init.is)
    (IsBuilt-now c.args.self.now.graph c.mk_app.new.self n c.in_ok-mk_app-in-Init.field-0
    (All-cons (λ a. HasSort c.args.self.now.graph a sort.Word) c.args.address [] c.requires.1.1.1.1 (All-nil (λ a. HasSort c.args.self.now.graph a sort.Word)))
    c.in_ok-mk_app-in-Init.ensures.simplified)

pub returns-in_default : goal.returns-in_default
returns-in_default g c =
    absurd (memory-node (sorts c.args.old.now) c.node.result.now
    (sym (sort_at-get c.args.old.now c.requires.0.source c.args.memory c.node.result.now c.node.ensures.node) ∙ c.requires.1.1.0.sorted)
    c.in_default.not-Ite c.in_default.not-Write c.in_default.not-Init)
