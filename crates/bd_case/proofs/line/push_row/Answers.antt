use Rattle.std.proofs.Common.{◌≡◌, ◌++◌, ◌∷◌, [], get_or, ap, ◌∙◌}
use Rattle.std.specs.Fmt.{decimal}
use Rattle.bd_case.proofs.Remaining.{all_short, arg_step}
use Rattle.bd_case.proofs.line.push_row.Goals as goal

pub loop-arg-preserved : goal.loop-arg-preserved
loop-arg-preserved c =
    let e : c.push.new.self.items ≡ (c.loop-arg.out.items ++ decimal (get_or c.args.args.now c.loop-arg.arg-index 0)) ++ 32 ∷ [] =
    c.in_ok-push.ensures.items ∙ ap (λ o. o ++ 32 ∷ []) c.in_ok-push_word.ensures.text in
    rw e (arg_step c.loop-arg.out.items c.args.args.now c.loop-arg.arg-index c.args.value _ c.loop-arg-test.true c.loop-arg.invariant)

pub returns-clause-short : goal.returns-clause-short
returns-clause-short c = record { args = all_short c.args.args.now (λ k. (c.type_inv.args k).fits); value = c.in_ok-push_scalar.ensures.short }
