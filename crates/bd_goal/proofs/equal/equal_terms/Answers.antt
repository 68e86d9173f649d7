use Rattle.std.proofs.Common.{[], Ok, sym, subst, rules}
use Rattle.bd_model.specs.declared.design.Sort.TheVariants as sort
use Rattle.bd_terms.specs.Graph.{AddsUses, Extends, HasSort}
use Rattle.bd_terms.proofs.Growth.{Extends-trans, HasSort-Extends, inside-Extends}
use Rattle.bd_symbolic.proofs.Arms.{sort_is}
use Rattle.bd_terms.specs.declared.node.Node.TheVariants as node
use Rattle.bd_terms.specs.declared.node.Sym.TheVariants as symbol
use Rattle.bd_symbolic.proofs.Making.{called, equivalence-called}
use Rattle.bd_goal.specs.inner.Shown.{EqualTerms, address_uses}
use Rattle.bd_goal.proofs.Equalling.{address_added, equal_bits, equal_reads, equal_words}
use Rattle.bd_goal.proofs.equal.equal_terms.Goals as goal

pub mk_ite-requires-clause-control : goal.mk_ite-requires-clause-control
mk_ite-requires-clause-control c = HasSort-Extends _ _ c.mk_not.ensures.extends c.args.our sort.Bool (subst (HasSort c.args.graph.now c.args.our) c.in-Bool.is c.requires.our)

pub mk_ite-requires-clause-no : goal.mk_ite-requires-clause-no
mk_ite-requires-clause-no c =
    sort_is _ _ _ sort.Bool (sym (HasSort-Extends _ _ c.mk_not.ensures.extends c.args.their sort.Bool (subst (HasSort c.args.graph.now c.args.their) c.in-Bool.is c.requires.their)).sorted) c.in_ok-denied-in-Bool.ensures.sorted

pub mk_read-requires-clause-memory : goal.mk_read-requires-clause-memory
mk_read-requires-clause-memory c = HasSort-Extends _ _ c.mk_app.ensures.extends c.args.our sort.Memory (subst (HasSort c.args.graph.now c.args.our) c.in-Memory.is c.requires.our)

pub mk_read-requires-in-Memory-clause-memory : goal.mk_read-requires-in-Memory-clause-memory
mk_read-requires-in-Memory-clause-memory c =
    HasSort-Extends _ _ (Extends-trans _ _ _ c.mk_app.ensures.extends c.mk_read.ensures.extends) c.args.their sort.Memory (subst (HasSort c.args.graph.now c.args.their) c.in-Memory.is c.requires.their)

pub mk_read-requires-in-Memory-clause-address : goal.mk_read-requires-in-Memory-clause-address
mk_read-requires-in-Memory-clause-address c = HasSort-Extends _ _ c.mk_read.ensures.extends _ sort.Word c.in_ok-place-in-Memory.ensures.sorted

pub returns-in_err-theirs-in-Memory : goal.returns-in_err-theirs-in-Memory
returns-in_err-theirs-in-Memory c =
    let grows : Extends c.args.graph.now c.mk_read-in-Memory.new.self = Extends-trans _ _ _ (Extends-trans _ _ _ c.mk_app.ensures.extends c.mk_read.ensures.extends) c.mk_read-in-Memory.ensures.extends in
    let uses : AddsUses c.args.graph.now c.mk_read-in-Memory.new.self (address_uses c.args.kind c.args.address) =
    subst (λ s. AddsUses c.args.graph.now c.mk_read-in-Memory.new.self (address_uses s c.args.address)) (sym c.in-Memory.is)
    (address_added _ _ _ c.args.address (address_added _ _ _ c.args.address c.mk_app.ensures.uses c.mk_read.ensures.uses) c.mk_read-in-Memory.ensures.uses) in
    search (rules, grows, uses)

pub mk_eq-requires-in-Memory-clause-first : goal.mk_eq-requires-in-Memory-clause-first
mk_eq-requires-in-Memory-clause-first c = HasSort-Extends _ _ c.mk_read-in-Memory.ensures.extends _ sort.Word c.in_ok-ours-in-Memory.ensures.sorted

pub returns-in_ok-denied-in-Bool : goal.returns-in_ok-denied-in-Bool
returns-in_ok-denied-in-Bool c =
    subst (λ s. EqualTerms c.args.graph.now c.mk_ite.new.self s c.args.our c.args.their c.args.address c.mk_ite.result) (sym c.in-Bool.is)
    (equal_bits _ _ _ c.args.our c.args.their _ c.args.address _ c.mk_not.ensures.graph (subst (HasSort c.args.graph.now c.args.our) c.in-Bool.is c.requires.our)
    (subst (HasSort c.args.graph.now c.args.their) c.in-Bool.is c.requires.their) c.mk_not.ensures.extends c.mk_not.ensures.uses c.in_ok-denied-in-Bool.ensures.denotes c.mk_ite.ensures.denotes c.mk_ite.ensures.sorted
    c.mk_ite.ensures.extends c.mk_ite.ensures.uses
    (equivalence-called _ _ _ c.args.our c.args.their _ c.mk_ite.result c.mk_not.ensures.extends c.mk_ite.ensures.extends c.requires.our.inside c.requires.their.inside c.in_ok-denied-in-Bool.ensures.sorted.inside c.in_ok-denied-in-Bool.ensures.simplified c.mk_ite.ensures.simplified))

pub returns-in_ok-theirs-in-Memory : goal.returns-in_ok-theirs-in-Memory
returns-in_ok-theirs-in-Memory c =
    subst (λ s. EqualTerms c.args.graph.now c.mk_eq-in-Memory.new.self s c.args.our c.args.their c.args.address c.mk_eq-in-Memory.result) (sym c.in-Memory.is)
    (equal_reads _ _ _ _ _ c.args.our c.args.their _ _ _ c.args.address _ (subst (HasSort c.args.graph.now c.args.our) c.in-Memory.is c.requires.our)
    (subst (HasSort c.args.graph.now c.args.their) c.in-Memory.is c.requires.their) c.mk_app.ensures.extends c.mk_app.ensures.uses c.in_ok-place-in-Memory.ensures.sorted c.in_ok-place-in-Memory.ensures.denotes
    c.mk_read.ensures.extends c.mk_read.ensures.uses c.in_ok-ours-in-Memory.ensures.sorted c.in_ok-ours-in-Memory.ensures.denotes
    c.mk_read-in-Memory.ensures.extends c.mk_read-in-Memory.ensures.uses c.in_ok-theirs-in-Memory.ensures.denotes
    c.mk_eq-in-Memory.ensures.denotes c.mk_eq-in-Memory.ensures.sorted c.mk_eq-in-Memory.ensures.extends c.mk_eq-in-Memory.ensures.uses
    (called _ _ (node.App (symbol.Address c.args.address) []) (Ok _) tt c.in_ok-place-in-Memory.ensures.simplified)
    (called _ _ (node.Read c.args.our c.in_ok-place-in-Memory.place) (Ok _) (inside-Extends _ _ c.mk_app.ensures.extends c.args.our c.requires.our.inside, (c.in_ok-place-in-Memory.ensures.sorted.inside, tt)) c.in_ok-ours-in-Memory.ensures.simplified)
    (called _ _ (node.Read c.args.their c.in_ok-place-in-Memory.place) (Ok _)
    (inside-Extends _ _ (Extends-trans _ _ _ c.mk_app.ensures.extends c.mk_read.ensures.extends) c.args.their c.requires.their.inside, (inside-Extends _ _ c.mk_read.ensures.extends _ c.in_ok-place-in-Memory.ensures.sorted.inside, tt)) c.in_ok-theirs-in-Memory.ensures.simplified)
    (called _ _ (node.Eq c.in_ok-ours-in-Memory.ours c.in_ok-theirs-in-Memory.theirs) c.mk_eq-in-Memory.result
    (inside-Extends _ _ c.mk_read-in-Memory.ensures.extends _ c.in_ok-ours-in-Memory.ensures.sorted.inside, (c.in_ok-theirs-in-Memory.ensures.sorted.inside, tt)) c.mk_eq-in-Memory.ensures.simplified))

pub returns-in-Word : goal.returns-in-Word
returns-in-Word c =
    subst (λ s. EqualTerms c.args.graph.now c.mk_eq.new.self s c.args.our c.args.their c.args.address c.mk_eq.result) (sym c.in-Word.is)
    (equal_words _ _ c.args.our c.args.their c.args.address c.mk_eq.result c.mk_eq.ensures.denotes c.mk_eq.ensures.sorted c.mk_eq.ensures.extends c.mk_eq.ensures.uses
    (called _ _ (node.Eq c.args.our c.args.their) c.mk_eq.result (c.requires.our.inside, (c.requires.their.inside, tt)) c.mk_eq.ensures.simplified))
