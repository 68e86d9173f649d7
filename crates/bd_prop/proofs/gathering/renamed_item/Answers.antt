use Rattle.std.proofs.Common.{◌≡◌, ◌∙◌, [], ◌∷◌, refl, sym, subst}
use Rattle.bd_prop.specs.Gathered.{AreRenamed}
use Rattle.bd_prop.specs.declared.choices.Choice.TheVariants.{Test, Leaf}
use Rattle.bd_prop.proofs.gathering.renamed_item.Goals as goal

pub returns-in_ok-id-in-Test-clause-renamed : goal.returns-in_ok-id-in-Test-clause-renamed
returns-in_ok-id-in-Test-clause-renamed c =
    subst (λ item. AreRenamed c.placed_at.new.prop c.args.entries.now (item ∷ []) (Test c.in_ok-id-in-Test.id ∷ [])) (sym c.in-Test.is)
    (c.in_ok-id-in-Test.id, [], refl, c.in_ok-id-in-Test.ensures.placed, refl)

pub returns-in_ok-id-in-Leaf-clause-renamed : goal.returns-in_ok-id-in-Leaf-clause-renamed
returns-in_ok-id-in-Leaf-clause-renamed c =
    subst (λ item. AreRenamed c.placed_at-in-Leaf.new.prop c.args.entries.now (item ∷ []) (Leaf c.in_ok-id-in-Leaf.id ∷ [])) (sym c.in-Leaf.is)
    (c.in_ok-id-in-Leaf.id, [], refl, c.in_ok-id-in-Leaf.ensures.placed, refl)
