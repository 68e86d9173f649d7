-- Each term is built over what its children became.
use Rattle.std.proofs.Common.{◌≡◌, ◌<◌, true, Some, Contains, refl, ap, sym, ◌∙◌, subst, arith, length}
use Rattle.std.specs.List.{All}
use Rattle.bd_model.specs.declared.design.Sort.TheVariants as sort
use Rattle.bd_terms.specs.declared.node.Node.TheVariants.{Read}
use Rattle.bd_terms.specs.Graph.{KeepsSymbol, Use, children, node_uses}
use Rattle.bd_terms.specs.Reaches.{Child}
use Rattle.bd_terms.specs.Renamed.{renamed}
use Rattle.bd_terms.proofs.Graphs.{FitsSorts-get, sort_at-get}
use Rattle.bd_terms.proofs.Places.{AllByRecursion-of}
use Rattle.bd_terms.proofs.Reaching.{children-below}
use Rattle.bd_memory.specs.Forwarded.{is_plain}
use Rattle.bd_memory.proofs.Plain.{Word-no_memory}
use Rattle.bd_memory.proofs.Moving.{next-renamed, plain-term, renamed-plain}
use Rattle.bd_memory.proofs.Growing.{next-IsForwarding, next-Means, reached-KeepsSymbol}
use Rattle.bd_memory.proofs.Making.{plain-made, read-made}
use Rattle.bd_memory.proofs.Next.{children-before, next-child, next-read}
use Rattle.bd_memory.proofs.forwarding.Forwarding.term.Goals as goal

pub place-address-requires : goal.place-address-requires
place-address-requires g c =
    children-below c.args.old.now c.requires.0.source (length c.args.self.now.places.items) (Read c.in-Read.memory c.in-Read.address) (c.requires.1.0 ∙ ap Some c.in-Read.is) c.in-Read.address (1, omega arith, refl)

pub read-requires : goal.read-requires
read-requires g c = (
  c.requires.0,
  (
    Child (length c.args.self.now.places.items) (Read c.in-Read.memory c.in-Read.address) c.in-Read.memory c.requires.1.1.0 (c.requires.1.0 ∙ ap Some c.in-Read.is) (0, omega arith, refl),
    (
      (FitsSorts-get c.args.old.now c.requires.0.source (length c.args.self.now.places.items) (Read c.in-Read.memory c.in-Read.address) (c.requires.1.0 ∙ ap Some c.in-Read.is)).0,
      (
        children-below c.args.old.now c.requires.0.source (length c.args.self.now.places.items) (Read c.in-Read.memory c.in-Read.address) (c.requires.1.0 ∙ ap Some c.in-Read.is) c.in-Read.memory (0, omega arith, refl),
        (next-child c.args.old.now g.root c.args.self.now.graph c.args.self.now.places.items c.args.self.now.reads c.requires.0 (Read c.in-Read.memory c.in-Read.address) (c.requires.1.0 ∙ ap Some c.in-Read.is) c.requires.1.1.0 c.in-Read.address sort.Word (1, omega arith, refl)
            (FitsSorts-get c.args.old.now c.requires.0.source (length c.args.self.now.places.items) (Read c.in-Read.memory c.in-Read.address) (c.requires.1.0 ∙ ap Some c.in-Read.is)).1 Word-no_memory c.place-address.result c.place-address.ensures).sorted,
      ),
    ),
  ),
)

pub returns-in-Read-clause-means : goal.returns-in-Read-clause-means
returns-in-Read-clause-means g c =
    next-read c.args.old.now g.root c.read.new.self.graph c.args.self.now.places.items c.read.new.self.places.items c.read.new.self.reads c.in-Read.memory c.in-Read.address c.place-address.result
    c.requires.0.source (c.requires.1.0 ∙ ap Some c.in-Read.is) c.requires.1.1.0 c.place-address.ensures c.read.result c.read.ensures.means c.read.ensures.holds c.read.ensures.places

pub renamed-requires : goal.renamed-requires
renamed-requires g c =
    subst (λ n. All (λ k. k < n) (children c.args.node.now)) (sym (ap length c.deref.ensures.value))
    (children-before c.args.old.now c.requires.0.source (length c.args.self.now.places.items) c.args.node.now c.requires.1.0)

pub build-requires-clause-fits : goal.build-requires-clause-fits
build-requires-clause-fits g c =
    (next-renamed c.args.old.now g.root c.args.self.now.graph c.args.self.now.places.items c.args.self.now.reads c.requires.0 c.args.node.now c.requires.1.0 c.requires.1.1.0 c.requires.1.1.1
    (plain-term c.args.old.now c.args.node.now (λ e. c.requires.1.1.1 (sort_at-get c.args.old.now c.requires.0.source (length c.args.self.now.places.items) c.args.node.now c.requires.1.0 ∙ e)) c.in_default.not-Read) c.in_ok-node-in_default.node (c.in_ok-node-in_default.ensures ∙ ap (λ l. renamed l c.args.node.now) c.deref.ensures.value)).fits

pub build-requires-clause-symbols : goal.build-requires-clause-symbols
build-requires-clause-symbols g c =
    let r =
    (next-renamed c.args.old.now g.root c.args.self.now.graph c.args.self.now.places.items c.args.self.now.reads c.requires.0 c.args.node.now c.requires.1.0 c.requires.1.1.0 c.requires.1.1.1
    (plain-term c.args.old.now c.args.node.now (λ e. c.requires.1.1.1 (sort_at-get c.args.old.now c.requires.0.source (length c.args.self.now.places.items) c.args.node.now c.requires.1.0 ∙ e)) c.in_default.not-Read) c.in_ok-node-in_default.node (c.in_ok-node-in_default.ensures ∙ ap (λ l. renamed l c.args.node.now) c.deref.ensures.value)) in
    AllByRecursion-of (λ (u : Use). KeepsSymbol c.args.self.now.graph u.symbol u.arity u.sort) (node_uses c.in_ok-node-in_default.node)
    (λ u p. reached-KeepsSymbol c.args.old.now g.root c.args.self.now.graph c.args.self.now.places.items c.args.self.now.reads c.requires.0 (length c.args.self.now.places.items) c.args.node.now c.requires.1.0 u
    (subst (λ l. Contains l u) r.uses p))

pub returns-in_ok-node-in_default-clause-means : goal.returns-in_ok-node-in_default-clause-means
returns-in_ok-node-in_default-clause-means g c =
    next-Means c.args.old.now c.args.self.now.graph c.build.new.self (length c.args.self.now.places.items) c.args.node.now c.in_ok-node-in_default.node c.requires.0.source c.requires.1.0
    (next-renamed c.args.old.now g.root c.args.self.now.graph c.args.self.now.places.items c.args.self.now.reads c.requires.0 c.args.node.now c.requires.1.0 c.requires.1.1.0 c.requires.1.1.1
    (plain-term c.args.old.now c.args.node.now (λ e. c.requires.1.1.1 (sort_at-get c.args.old.now c.requires.0.source (length c.args.self.now.places.items) c.args.node.now c.requires.1.0 ∙ e)) c.in_default.not-Read) c.in_ok-node-in_default.node (c.in_ok-node-in_default.ensures ∙ ap (λ l. renamed l c.args.node.now) c.deref.ensures.value))
    c.build.result c.build.ensures.denotes c.build.ensures.sorted

pub returns-in_ok-node-in_default-clause-holds : goal.returns-in_ok-node-in_default-clause-holds
returns-in_ok-node-in_default-clause-holds g c =
    next-IsForwarding c.args.old.now g.root c.args.self.now.graph c.build.new.self c.args.self.now.places.items c.args.self.now.reads (length c.args.self.now.places.items) c.args.node.now c.in_ok-node-in_default.node c.requires.0 c.requires.1.0 c.requires.1.1.0
    (next-renamed c.args.old.now g.root c.args.self.now.graph c.args.self.now.places.items c.args.self.now.reads c.requires.0 c.args.node.now c.requires.1.0 c.requires.1.1.0 c.requires.1.1.1
    (plain-term c.args.old.now c.args.node.now (λ e. c.requires.1.1.1 (sort_at-get c.args.old.now c.requires.0.source (length c.args.self.now.places.items) c.args.node.now c.requires.1.0 ∙ e)) c.in_default.not-Read) c.in_ok-node-in_default.node (c.in_ok-node-in_default.ensures ∙ ap (λ l. renamed l c.args.node.now) c.deref.ensures.value))
    (subst (λ n. is_plain n ≡ true) (sym (c.in_ok-node-in_default.ensures ∙ ap (λ l. renamed l c.args.node.now) c.deref.ensures.value))
    (renamed-plain c.args.self.now.places.items c.args.node.now (plain-term c.args.old.now c.args.node.now (λ e. c.requires.1.1.1 (sort_at-get c.args.old.now c.requires.0.source (length c.args.self.now.places.items) c.args.node.now c.requires.1.0 ∙ e)) c.in_default.not-Read)))
    c.build.result c.build.ensures.gives c.build.ensures.extends c.build.ensures.uses c.build.ensures.graph

pub returns-in-Read-clause-made : goal.returns-in-Read-clause-made
returns-in-Read-clause-made g c =
    read-made c.args.old.now g.root c.read.new.self.graph c.args.self.now.places.items c.read.new.self.places.items c.read.new.self.reads c.in-Read.memory c.in-Read.address c.place-address.result
    c.requires.0.source (c.requires.1.0 ∙ ap Some c.in-Read.is) c.requires.1.1.0 c.place-address.ensures c.read.result c.read.ensures.made c.read.ensures.holds c.read.ensures.places

pub returns-in_ok-node-in_default-clause-made : goal.returns-in_ok-node-in_default-clause-made
returns-in_ok-node-in_default-clause-made g c =
    let plain =
    plain-term c.args.old.now c.args.node.now (λ e. c.requires.1.1.1 (sort_at-get c.args.old.now c.requires.0.source (length c.args.self.now.places.items) c.args.node.now c.requires.1.0 ∙ e)) c.in_default.not-Read in
    let same = c.in_ok-node-in_default.ensures ∙ ap (λ l. renamed l c.args.node.now) c.deref.ensures.value in
    plain-made c.args.old.now g.root c.args.self.now.graph c.build.new.self c.args.self.now.places.items c.args.self.now.reads c.requires.0 c.args.node.now c.requires.1.0 c.requires.1.1.0 c.requires.1.1.1
    plain c.in_ok-node-in_default.node same
    (next-renamed c.args.old.now g.root c.args.self.now.graph c.args.self.now.places.items c.args.self.now.reads c.requires.0 c.args.node.now c.requires.1.0 c.requires.1.1.0 c.requires.1.1.1
    plain c.in_ok-node-in_default.node same).fits
    c.build.ensures.extends c.build.result c.build.ensures.gives
