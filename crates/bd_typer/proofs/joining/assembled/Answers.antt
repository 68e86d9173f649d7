use Rattle.std.proofs.Common.{◌≡◌, ℕ, List, ◌++◌, map, ap, ◌∙◌}
use Rattle.bd_model.specs.DesignView.{exact_view, local_view}
use Rattle.bd_model.specs.ExprView.{expr_view}
use Rattle.bd_typer.proofs.joining.assembled.Goals as goal

pub returns : goal.returns
returns c = λ before.
    let groups : c.in_ok-distinct.distinct ≡ c.args.machines.pipe.typed.distinct ++ c.args.machines.spec.typed.distinct =
    c.in_ok-distinct.ensures
    ∙ ap (λ (xs : List (List ℕ)). xs ++ c.machine_parts-spec.result.distinct) c.machine_parts-pipe.ensures.distinct
    ∙ ap (λ (xs : List (List ℕ)). c.args.machines.pipe.typed.distinct ++ xs) c.machine_parts-spec.ensures.distinct in
    λ i. record {
      pipe = c.machine_parts-pipe.ensures.machine before i;
      spec = c.machine_parts-spec.ensures.machine c.args.machines.symbols i;
      symbols = c.args.machines.symbols;
      visible = c.in_ok-visible.ensures i;
      flush = c.first_count.ensures i;
      steps = c.first_count-2.ensures i;
      inv_locals = map local_view c.args.inv.locals;
      inv = expr_view c.args.inv.value;
      exact = map exact_view (c.machine_parts-pipe.ensures.exact i);
      distinct = groups i;
    }
