-- The parts of an expression are typed one after the other.
use Rattle.std.proofs.Common.{◌≡◌, ℕ, zero, suc, ◌+◌, ◌<◌, ◌≤◌, Bool, List, [], ◌∷◌, length, get_or, drop, Ok, refl, ap, sym, ◌∙◌, subst, arith}
use Rattle.std.proofs.lemmas.List.{at_drop_more, at_drop_all}
use Rattle.bd_model.specs.ExprView.{ExprView}
use Rattle.bd_model.specs.declared.design.Sort.{Sort}
use Rattle.bd_syntax.specs.Forms.{Expressions, application, expression_of, expressions_of_all, expression_count}
use Rattle.bd_syntax.specs.Words.{operator_of}
use Rattle.bd_syntax.specs.WellFormed.{expression_nesting, nesting_of_all}
use Rattle.bd_syntax.specs.Reading.{Fails}
use Rattle.bd_syntax.specs.declared.form.Form.{Form}
use Rattle.bd_syntax.specs.declared.form.Spot.{Spot}
use Rattle.bd_text.specs.declared.fault.TextFault.{TextFault}
use Rattle.bd_typer.specs.declared.operation.Operation.{Operation}
use Rattle.bd_typer.specs.Faults.{◌>>=◌}
use Rattle.bd_typer.specs.NameMap.{NameMap}
use Rattle.bd_typer.specs.Typing.{operation, part_sort, built, typed, typed_parts}
use Rattle.bd_typer.proofs.Loops.{fails_then}

-- a part nests no deeper than all parts
pub nesting-part : (forms : List Form) (i : ℕ) (d : Form) → i < length forms → expression_nesting (expression_of (get_or forms i d)) ≤ nesting_of_all (expressions_of_all forms)
nesting-part [] i d lt = absurd (omega arith)
nesting-part (f ∷ forms) zero d lt = omega arith
nesting-part (f ∷ forms) (suc i) d lt = omega (arith, nesting-part forms i d (omega arith))

-- a list whose operation is known
module _ (names : NameMap) (inputs : Bool) (want : Sort) (offset : ℕ) (head : Spot) (parts : Expressions) where
  pub parts_fail : (how : Operation) (fault : TextFault) → operation names want offset head (expression_count parts) (operator_of head.text) ≡ Ok how → Fails fault (typed_parts names inputs how want 0 parts)
      → Fails fault (typed names inputs want (application offset head parts))
  parts_fail how fault is h = rw is (fails_then fault (typed_parts names inputs how want 0 parts) (λ xs. Ok (built how xs)) h)

  pub parts_done : (how : Operation) (xs : List ExprView) → operation names want offset head (expression_count parts) (operator_of head.text) ≡ Ok how → typed_parts names inputs how want 0 parts ≡ Ok xs
      → typed names inputs want (application offset head parts) ≡ Ok (built how xs)
  parts_done how xs is h = rw (is, h) refl

module _ (names : NameMap) (inputs : Bool) (how : Operation) (want : Sort) (place : ℕ) (forms : List Form) (i : ℕ) (form : Form) (lt : i < length forms) (is : form ≡ get_or forms i form) where
  part_first : typed_parts names inputs how want place (expressions_of_all (drop i forms))
      ≡ (typed names inputs (part_sort how want place) (expression_of form) >>= λ x. typed_parts names inputs how want (place + 1) (expressions_of_all (drop (i + 1) forms)) >>= λ xs. Ok (x ∷ xs))
  part_first =
      at_drop_more (λ fs. typed_parts names inputs how want place (expressions_of_all fs)) forms i form lt
      ∙ ap (λ f. typed names inputs (part_sort how want place) (expression_of f) >>= λ x. typed_parts names inputs how want (place + 1) (expressions_of_all (drop (i + 1) forms)) >>= λ xs. Ok (x ∷ xs)) (sym is)

  pub part_fails : (fault : TextFault) → Fails fault (typed names inputs (part_sort how want place) (expression_of form)) → Fails fault (typed_parts names inputs how want place (expressions_of_all (drop i forms)))
  part_fails fault h = subst (Fails fault) (sym part_first) (fails_then fault (typed names inputs (part_sort how want place) (expression_of form)) _ h)

  pub part_done : (x : ExprView) → typed names inputs (part_sort how want place) (expression_of form) ≡ Ok x
      → typed_parts names inputs how want place (expressions_of_all (drop i forms)) ≡ (typed_parts names inputs how want (place + 1) (expressions_of_all (drop (i + 1) forms)) >>= λ xs. Ok (x ∷ xs))
  part_done x h = part_first ∙ ap (λ r. r >>= λ y. typed_parts names inputs how want (place + 1) (expressions_of_all (drop (i + 1) forms)) >>= λ xs. Ok (y ∷ xs)) h

pub no_more_parts : (names : NameMap) (inputs : Bool) (how : Operation) (want : Sort) (place : ℕ) (forms : List Form) (i : ℕ) → length forms ≤ i → typed_parts names inputs how want place (expressions_of_all (drop i forms)) ≡ Ok []
no_more_parts names inputs how want place forms i past = at_drop_all (λ fs. typed_parts names inputs how want place (expressions_of_all fs)) forms i past
