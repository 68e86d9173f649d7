-- What comes out is there, or is kept.
use Rattle.std.proofs.Common.{refl, subst}
use Rattle.bd_terms.specs.declared.simplify.Outcome.TheVariants.{Built}
use Rattle.bd_terms.specs.Simplified.{Gives}
use Rattle.bd_terms.proofs.Building.{Gives-Denotes, Gives-HasSort, simplified-FitsSorts, simplified-KeepsUses, kept-Denotes, kept-HasSort, kept-AddsUses}
use Rattle.bd_terms.proofs.graph.Graph.build.Goals as goal

pub keep-requires-clause-fits : goal.keep-requires-clause-fits
keep-requires-clause-fits c =
    simplified-FitsSorts c.args.self.now c.simplified.ensures.graph c.args.node c.in-Built.node c.requires.fits c.in-Built.ensures.outcome

pub keep-requires-clause-symbols : goal.keep-requires-clause-symbols
keep-requires-clause-symbols c =
    simplified-KeepsUses c.args.self.now c.simplified.ensures.graph c.args.node c.in-Built.node c.requires.fits c.requires.symbols c.in-Built.ensures.outcome

pub returns-in-Same-clause-denotes : goal.returns-in-Same-clause-denotes
returns-in-Same-clause-denotes c =
    Gives-Denotes c.args.self.now c.args.self.now c.simplified.ensures.graph c.simplified.ensures.graph c.in-Same.id c.args.node c.requires.fits
    (subst (Gives c.args.self.now c.args.self.now c.in-Same.id) c.in-Same.ensures.outcome (refl, refl))

pub returns-in-Same-clause-sorted : goal.returns-in-Same-clause-sorted
returns-in-Same-clause-sorted c =
    Gives-HasSort c.args.self.now c.args.self.now c.simplified.ensures.graph c.simplified.ensures.graph c.in-Same.id c.args.node c.requires.fits
    (subst (Gives c.args.self.now c.args.self.now c.in-Same.id) c.in-Same.ensures.outcome (refl, refl))

pub returns-in-Built-clause-denotes : goal.returns-in-Built-clause-denotes
returns-in-Built-clause-denotes c =
    kept-Denotes c.args.self.now c.keep.new.self c.simplified.ensures.graph c.keep.ensures.graph c.args.node (Built c.in-Built.node)
    c.requires.fits c.in-Built.ensures.outcome c.keep.result c.keep.ensures.holds

pub returns-in-Built-clause-sorted : goal.returns-in-Built-clause-sorted
returns-in-Built-clause-sorted c =
    kept-HasSort c.args.self.now c.keep.new.self c.simplified.ensures.graph c.keep.ensures.graph c.args.node (Built c.in-Built.node)
    c.requires.fits c.in-Built.ensures.outcome c.keep.result c.keep.ensures.holds

pub returns-in-Built-clause-uses : goal.returns-in-Built-clause-uses
returns-in-Built-clause-uses c =
    kept-AddsUses c.args.self.now c.keep.new.self c.simplified.ensures.graph c.args.node (Built c.in-Built.node) c.requires.fits c.in-Built.ensures.outcome
    c.keep.result c.keep.ensures.holds c.keep.ensures.err
