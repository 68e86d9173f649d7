use Rattle.std.proofs.Common.{◌≡◌, ◌∙◌, ◌++◌, ◌∷◌, [], ap}
use Rattle.bd_prop.specs.declared.choices.Choice.TheVariants.{Test}
use Rattle.bd_prop.proofs.gathering.branches.Goals as goal

pub returns : goal.returns
returns c =
    c.from_vec.ensures ∙ c.in_ok-extend_from_slice-2.ensures.items ∙ ap (λ l. l ++ c.args.no.now) (c.in_ok-extend_from_slice.ensures.items
    ∙ ap (λ l. l ++ c.args.yes.now) (c.in_ok-push.ensures.items ∙ ap (λ l. l ++ Test c.args.control ∷ []) c.in_ok-items.ensures.items))
