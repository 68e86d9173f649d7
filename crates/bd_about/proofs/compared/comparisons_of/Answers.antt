use Rattle.std.proofs.Common.{◌≡◌, ◌∙◌, ℕ, Bool, List, Some, ap, slice_get}
use Rattle.std.specs.List.{list_any}
use Rattle.std.proofs.lemmas.Result.{IfOk-weaker}
use Rattle.bd_terms.specs.declared.node.Sym.{Sym}
use Rattle.bd_terms.specs.declared.node.Sym.TheVariants.{Function}
use Rattle.bd_about.specs.Equations.{compared_with, is_between, symbols_among}
use Rattle.bd_about.specs.inner.Owned.{is_owned}
use Rattle.bd_about.specs.inner.Paired.{has_pair}
use Rattle.bd_about.proofs.compared.comparisons_of.Goals as goal

pub returns-clause-lists : goal.returns-clause-lists
returns-clause-lists c =
    let pairs = c.in_ok-pairs.pairs in
    let owners = c.args.owners.now in
    let edges = c.args.edges.now in
    let syms = c.args.symbols.now in
    let same : (s : Sym) → has_pair pairs s ≡ (λ (t : Sym). list_any (is_between (is_owned owners) s t) edges) = λ s i t. c.in_ok-pairs.ensures s t i in
    IfOk-weaker c.comparisons.result
    (λ lists. (f : ℕ) (list : List Sym) → slice_get lists f ≡ Some list → list ≡ symbols_among (has_pair pairs (Function f)) syms)
    (λ lists. (f : ℕ) (list : List Sym) → slice_get lists f ≡ Some list → list ≡ compared_with (is_owned owners) edges syms (Function f))
    (λ lists h f list at. h f list at ∙ ap (λ (p : Sym → Bool). symbols_among p syms) (same (Function f)))
    c.comparisons.ensures.lists
