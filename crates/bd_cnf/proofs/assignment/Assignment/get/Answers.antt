use Rattle.std.proofs.Common.{refl, ◌∙◌, sym, ap}
use Rattle.std.specs.BTreeMap.{is_at}
use Rattle.std.specs.FinMap as map
use Rattle.std.specs.Ordering.{nat_cmp}
use Rattle.bd_cnf.proofs.Maps.{get-lookup}
use Rattle.bd_cnf.proofs.assignment.Assignment.get.Goals as goal

pub returns : goal.returns
returns c =
    c.copied.ensures ∙ c.get.ensures.value ∙ sym (get-lookup (λ q. is_at (nat_cmp q)) (λ q k. refl) c.self.inside.values.entries c.args.var)
    ∙ ap (λ m. map.get m c.args.var) c.self.view_is
