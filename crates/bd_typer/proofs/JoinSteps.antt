-- Joining files, step by step.
use Rattle.std.proofs.Common.{◌≡◌, ℕ, List, length, Some, Ok, true, false, refl, ap, sym, ◌∙◌, subst}
use Rattle.std.specs.Prelude.{replicate}
use Rattle.bd_model.specs.Abstraction.{given}
use Rattle.bd_model.specs.declared.design.Symbol as symbol
use Rattle.bd_model.specs.declared.design.Sort.TheVariants as sorts
use Rattle.bd_model.specs.ExprView.{ExprView, Truth}
use Rattle.bd_syntax.specs.Completion.{CompView}
use Rattle.bd_syntax.specs.Forms.{ItemView, InvView}
use Rattle.bd_syntax.specs.Reading.{Fails}
use Rattle.bd_text.specs.declared.fault.TextFault.{TextFault}
use Rattle.bd_typer.specs.Completions.{typed_abstracts}
use Rattle.bd_typer.specs.Faults.{◌>>=◌}
use Rattle.bd_typer.specs.NameMap.{NameMap, Scope, scope_of}
use Rattle.bd_typer.specs.Typing.{typed}
use Rattle.bd_typer.specs.Walk.{Typed, typed_items}
use Rattle.bd_typer.specs.Joined.{start, typed_machine, typed_completion, typed_inv}
use Rattle.bd_typer.proofs.Loops.{fails_then}

module _ (others : NameMap) (symbols : List symbol.Symbol) (items : List ItemView) (scope : Scope) (first : Typed) (scope-is : scope ≡ scope_of others symbols items) (first-is : first ≡ start scope.names (length scope.entries)) where
  begins : first ≡ start (scope_of others symbols items).names (length (scope_of others symbols items).entries)
  begins = first-is ∙ ap (λ (s : Scope). start s.names (length s.entries)) scope-is

  pub machine_fails : (fault : TextFault) → Fails fault (typed_items true first items) → Fails fault (typed_machine others symbols items)
  unfolding typed_machine
  machine_fails fault h = fails_then fault _ _ (subst (λ t. Fails fault (typed_items true t items)) begins h)

  pub machine_done : (t : Typed) → typed_items true first items ≡ Ok t → typed_machine others symbols items ≡ Ok (record { entries = scope.entries; symbols = scope.symbols; typed = t })
  unfolding typed_machine
  machine_done t h =
      ap (λ r. r >>= λ u. Ok (record { entries = (scope_of others symbols items).entries; symbols = (scope_of others symbols items).symbols; typed = u })) (subst (λ u. typed_items true u items ≡ Ok t) begins h)
      ∙ ap (λ (s : Scope). Ok (record { entries = s.entries; symbols = s.symbols; typed = t })) (sym scope-is)

module _ (names : NameMap) (inv : InvView) (first : Typed) (first-is : first ≡ start names 0) where
  pub lets_fail : (fault : TextFault) → Fails fault (typed_items false first inv.items) → Fails fault (typed_inv names (Some inv))
  unfolding typed_inv
  lets_fail fault h = fails_then fault _ _ (subst (λ t. Fails fault (typed_items false t inv.items)) first-is h)

  module _ (t : Typed) (lets : typed_items false first inv.items ≡ Ok t) where
    walked : typed_items false (start names 0) inv.items ≡ Ok t
    walked = subst (λ u. typed_items false u inv.items ≡ Ok t) first-is lets

    pub value_fails : (fault : TextFault) → Fails fault (typed t.names false sorts.Bool inv.value) → Fails fault (typed_inv names (Some inv))
    unfolding typed_inv
    value_fails fault h = rw walked (fails_then fault (typed t.names false sorts.Bool inv.value) (λ e. Ok (record { locals = t.locals; value = e })) h)

    pub inv_done : (e : ExprView) → typed t.names false sorts.Bool inv.value ≡ Ok e → typed_inv names (Some inv) ≡ Ok (record { locals = t.locals; value = e })
    unfolding typed_inv
    inv_done e h = rw (walked, h) refl

module _ (names spec : NameMap) (entries : ℕ) (comp : CompView) (first : Typed) (first-is : first ≡ start names 0) where
  pub completion_lets_fail : (fault : TextFault) → Fails fault (typed_items false first comp.lets) → Fails fault (typed_completion names spec entries (Some comp))
  unfolding typed_completion
  completion_lets_fail fault h = fails_then fault _ _ (subst (λ t. Fails fault (typed_items false t comp.lets)) first-is h)

  module _ (t : Typed) (lets : typed_items false first comp.lets ≡ Ok t) where
    lets_walked : typed_items false (start names 0) comp.lets ≡ Ok t
    lets_walked = subst (λ u. typed_items false u comp.lets ≡ Ok t) first-is lets

    pub parts_fail : (fault : TextFault) → Fails fault (typed_abstracts t.names spec (replicate entries (Truth false)) comp.parts) → Fails fault (typed_completion names spec entries (Some comp))
    unfolding typed_completion
    parts_fail fault h = rw lets_walked (fails_then fault (typed_abstracts t.names spec (replicate entries (Truth false)) comp.parts) (λ parts. Ok (given t.locals parts)) h)

    pub completion_done : (parts : List ExprView) → typed_abstracts t.names spec (replicate entries (Truth false)) comp.parts ≡ Ok parts → typed_completion names spec entries (Some comp) ≡ Ok (given t.locals parts)
    unfolding typed_completion
    completion_done parts h = rw (lets_walked, h) refl
