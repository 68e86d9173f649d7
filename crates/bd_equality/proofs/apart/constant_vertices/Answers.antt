use Rattle.std.proofs.Common.{◌≡◌, ◌↔◌, ℕ, Some, option_copied}
use Rattle.std.proofs.lemmas.Result.{IfOk-weaker}
use Rattle.bd_equality.specs.Edges.{IsConstant}
use Rattle.bd_equality.specs.inner.Apart.{IsListed}
use Rattle.bd_equality.specs.inner.Sets.{variable_of}
use Rattle.bd_equality.proofs.Constants.{listed_constants}
use Rattle.bd_equality.proofs.apart.constant_vertices.Goals as goal

pub returns : goal.returns
returns c =
    IfOk-weaker c.known_constants.result
    (λ k. (f x : ℕ) → (variable_of k f ≡ Some x) ↔ IsListed c.args.flat.now.syms c.in_ok-vertices.vertices f x)
    (λ k. (f x : ℕ) → (variable_of k f ≡ Some x) ↔ IsConstant c.args.flat.now.graph c.args.flat.now.syms (option_copied c.args.marked) f x)
    (λ k h. listed_constants c.args.flat.now.graph c.args.flat.now.syms (option_copied c.args.marked) c.in_ok-vertices.vertices k c.in_ok-vertices.ensures h)
    c.known_constants.ensures
