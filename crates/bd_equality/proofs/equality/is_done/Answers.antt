use Rattle.std.proofs.Common.{true, sym, subst}
use Rattle.bd_equality.specs.inner.Rows.{RestIs}
use Rattle.bd_equality.proofs.equality.is_done.Goals as goal

pub returns-in-Term : goal.returns-in-Term
returns-in-Term c = λ e v. subst (λ r. RestIs c.args.graph.now r v true) (sym c.in-Term.is) (c.is_true.ensures e v)
