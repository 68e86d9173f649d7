use Rattle.std.proofs.Common.{◌↔◌, ◌≡◌, ℕ, Contains, List, length, ap, sym, ◌∙◌, subst}
use Rattle.std.proofs.lemmas.Result.{IfOk-weaker}
use Rattle.bd_terms.specs.declared.node.Sym.{Sym}
use Rattle.bd_diverse.specs.Positive.{IsPositive}
use Rattle.bd_diverse.specs.declared.occurrences.Occurrences.{Occurrences}
use Rattle.bd_diverse.specs.inner.Applied.{AppliesBelow, is_compared, is_reached}
use Rattle.bd_diverse.proofs.Applying.{positive_exact}
use Rattle.bd_diverse.proofs.finding.positive.Goals as goal

pub returns : goal.returns
returns c =
    let g = c.args.graph.now in
    let marks = c.in_ok-marks.marks.items in
    let compared = c.in_ok-compared.compared.keys in
    let among : (s : Sym) → Contains compared s ↔ AppliesBelow g (length g) (is_compared marks) s =
    subst (λ (l : List Occurrences). (s : Sym) → Contains compared s ↔ AppliesBelow g (length g) (is_compared l) s) c.deref.ensures.value c.in_ok-compared.ensures in
    IfOk-weaker c.uncompared.result
    (λ p. (s : Sym) → Contains p s ↔ (AppliesBelow g (length g) (is_reached c.deref-2.result.now) s × (¬ Contains compared s)))
    (λ p. (s : Sym) → Contains p s ↔ IsPositive g c.args.root s)
    (λ p h s.
    let e = positive_exact g c.args.root marks compared c.in_ok-marks.ensures.ways among s in
    let k = subst (λ (l : List Occurrences). Contains p s ↔ (AppliesBelow g (length g) (is_reached l) s × (¬ Contains compared s))) c.deref-2.ensures.value (h s) in
    (λ x. e.0 (k.0 x), λ x. k.1 (e.1 x)))
    c.uncompared.ensures
