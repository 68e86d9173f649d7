use Rattle.std.proofs.Common.{refl, ◌∙◌, ap}
use Rattle.std.specs.BTreeMap.{is_at}
use Rattle.std.specs.FinMap as map
use Rattle.std.specs.Ordering.{nat_cmp}
use Rattle.bd_cnf.proofs.Maps.{from_entries_inserted}
use Rattle.bd_cnf.proofs.assignment.Assignment.set.Goals as goal

pub returns-clause-ok : goal.returns-clause-ok
returns-clause-ok c =
    from_entries_inserted (λ q. is_at (nat_cmp q)) (λ q k. refl) c.self.inside.values.entries c.insert.new.self.entries c.args.var c.args.value c.in_ok-insert.ensures.updates.0
    ∙ ap (λ m. map.insert m c.args.var c.args.value) c.self.view_is
