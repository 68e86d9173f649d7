use Rattle.std.proofs.Common.{◌≡◌, ◌↔◌, ◌∙◌, ℕ, Contains, sym, subst}
use Rattle.bd_list.proofs.Results.{if_ok}
use Rattle.bd_transitive.specs.Edges.{IsEnd}
use Rattle.bd_transitive.proofs.elimination.ends.Goals as goal

pub returns-clause-ends : goal.returns-clause-ends
returns-clause-ends c =
    if_ok (λ s. s.keys ≡ c.as_slice.result.now) (λ s. (v : ℕ) → Contains s.keys v ↔ IsEnd c.args.edges.now v) c.indexed.result c.indexed.ensures
    (λ s is. subst (λ ks. (v : ℕ) → Contains ks v ↔ IsEnd c.args.edges.now v) (sym (is ∙ c.as_slice.ensures.value)) c.in_ok-vertices.ensures.ends)
