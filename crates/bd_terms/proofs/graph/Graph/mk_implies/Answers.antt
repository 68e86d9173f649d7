-- A disjunction with the negation.
use Rattle.std.proofs.Common.{◌≡◌, ◌||◌, Bool, Ok, Err, IfOk, Result, ℕ, List, not, ap, ap₂, ◌∙◌}
use Rattle.std.specs.declared.alloc.AllocError.{AllocError}
use Rattle.bd_model.specs.declared.design.Sort.TheVariants as sort
use Rattle.bd_terms.specs.declared.node.Node.{Node}
use Rattle.bd_terms.specs.Graph.{Extends, HasSort}
use Rattle.bd_terms.specs.Denotation.{Denotes, Truth, truth, truth_of}
use Rattle.bd_terms.proofs.Growth.{AddsUses-trans, HasSort-Extends, denoted-Extends}
use Rattle.bd_terms.proofs.graph.Graph.mk_implies.Goals as goal

implies_or : (old mid new : List Node) (a b n : ℕ) (r : Result ℕ AllocError) → Extends old mid → HasSort old b sort.Bool → Denotes mid n (λ w. Truth (not (truth w old a)))
    → IfOk r (λ id. Denotes new id (λ w. Truth (truth w mid n || truth w mid b))) → IfOk r (λ id. Denotes new id (λ w. Truth (not (truth w old a) || truth w old b)))
implies_or old mid new a b n (Ok id) e h d k = record {
  is = λ w. k.is w ∙ ap₂ (λ x y. Truth (x || y)) (ap truth_of (d.is w)) (ap truth_of (denoted-Extends w old mid e b h.inside));
}
implies_or old mid new a b n (Err x) e h d k = tt

pub mk_or-requires-clause-second : goal.mk_or-requires-clause-second
mk_or-requires-clause-second c = HasSort-Extends _ _ c.mk_not.ensures.extends c.args.b sort.Bool c.requires.second

pub returns-clause-denotes : goal.returns-clause-denotes
returns-clause-denotes c = implies_or _ _ _ _ _ _ c.mk_or.result c.mk_not.ensures.extends c.requires.second c.in_ok-denied.ensures.denotes c.mk_or.ensures.denotes

pub returns-clause-uses : goal.returns-clause-uses
returns-clause-uses c = AddsUses-trans _ _ _ _ c.mk_not.ensures.uses c.mk_or.ensures.uses
