-- An expression's parts are read one after the other.
use Rattle.std.proofs.Common.{◌≡◌, ℕ, ◌<◌, ◌≤◌, List, ◌∷◌, length, get_or, Result, Ok, Err, refl, ap, ◌∙◌, arith}
use Rattle.bd_text.specs.Nodes.{list, Nodes, no_nodes, node, node_count}
use Rattle.bd_text.specs.Written.{nesting, nesting_inside}
use Rattle.bd_text.specs.View.{node_of, nodes_of_all}
use Rattle.bd_text.specs.declared.tree.Tree.{Tree}
use Rattle.bd_text.proofs.Views.{nesting-part}
use Rattle.bd_syntax.specs.Words.{operator_of}
use Rattle.bd_syntax.specs.Forms.{Expression, application, Expressions, expression, expressions_from}
use Rattle.bd_syntax.specs.Reading.{Fault, ◌>>=◌, each_form, first_form, others, operator_form, expression_form, argument_forms, expression_forms, Fails}
use Rattle.bd_text.specs.declared.fault.TextFault.{TextFault}
use Rattle.bd_text.specs.declared.fault.TextFault.TheVariants as faults
use Rattle.bd_syntax.specs.declared.form.Spot.{Spot}

abbrev done : List Expression → Result Expressions Fault
done es = Ok (expressions_from es)

regroup : (e : Expression) (reading : Result (List Expression) Fault) → ((reading >>= done) >>= λ es. Ok (expression e es)) ≡ ((reading >>= λ es. Ok (e ∷ es)) >>= done)
regroup e (Ok es) = refl
regroup e (Err fault) = refl

one_more : (reading : Result Expression Fault) (rest : Result (List Expression) Fault) → (reading >>= λ e. (rest >>= done) >>= λ es. Ok (expression e es)) ≡ ((reading >>= λ e. rest >>= λ es. Ok (e ∷ es)) >>= done)
one_more (Ok e) rest = regroup e rest
one_more (Err fault) rest = refl

pub expression_forms-each : (ts : Nodes) → expression_forms ts ≡ (each_form expression_form ts >>= done)
expression_forms-each no_nodes = refl
expression_forms-each (node t ts) =
    ap (λ rest. expression_form t >>= λ e. rest >>= λ es. Ok (expression e es)) (expression_forms-each ts)
    ∙ one_more (expression_form t) (each_form expression_form ts)

argument_forms-others : (ts : Nodes) → argument_forms ts ≡ expression_forms (others ts)
argument_forms-others no_nodes = refl
argument_forms-others (node t ts) = refl

rebind : (offset : ℕ) (head : Spot) (reading : Result (List Expression) Fault) → ((reading >>= done) >>= λ es. Ok (application offset head es)) ≡ (reading >>= λ es. Ok (application offset head (expressions_from es)))
rebind offset head (Ok es) = refl
rebind offset head (Err fault) = refl

-- a list whose first part has been tested
module _ (offset : ℕ) (ts : Nodes) (head : Spot) (n : ℕ) (first : first_form offset ts ≡ Ok head) (count : node_count (others ts) ≡ n) where
  application_form : (us : Nodes) → others ts ≡ us → operator_form offset head n (operator_of head.text) ≡ Ok head
      → expression_form (list offset ts) ≡ (each_form expression_form us >>= λ es. Ok (application offset head (expressions_from es)))
  application_form us rest tested =
      let inside : argument_forms ts ≡ (each_form expression_form us >>= done) =
      argument_forms-others ts ∙ ap expression_forms rest ∙ expression_forms-each us in
      rw (first, count, tested, inside) (rebind offset head (each_form expression_form us))

  pub arguments_fail : (us : Nodes) (fault : TextFault) → others ts ≡ us → operator_form offset head n (operator_of head.text) ≡ Ok head
      → Fails fault (each_form expression_form us) → Fails fault (expression_form (list offset ts))
  arguments_fail us faults.Memory rest tested h = tt
  arguments_fail us (faults.Bad at code) rest tested h =
      application_form us rest tested ∙ ap (λ reading. reading >>= λ es. Ok (application offset head (expressions_from es))) h

  pub arguments_done : (us : Nodes) (es : List Expression) → others ts ≡ us → operator_form offset head n (operator_of head.text) ≡ Ok head
      → each_form expression_form us ≡ Ok es → expression_form (list offset ts) ≡ Ok (application offset head (expressions_from es))
  arguments_done us es rest tested h =
      application_form us rest tested ∙ ap (λ reading. reading >>= λ es. Ok (application offset head (expressions_from es))) h

-- what stands in a list nests less deep than the list
nesting_inside-others : (ts : Nodes) → nesting_inside (others ts) ≤ nesting_inside ts
nesting_inside-others no_nodes = omega arith
nesting_inside-others (node t ts) = omega arith

pub nesting-argument : (ts : Nodes) (parts : List Tree) (i : ℕ) (part : Tree) → others ts ≡ nodes_of_all parts → i < length parts → part ≡ get_or parts i part
    → nesting (node_of part) ≤ nesting_inside ts
nesting-argument ts parts i part rest lt is =
    omega (arith, nesting_inside-others ts, ap nesting_inside rest, nesting-part parts i part lt, ap (λ t. nesting (node_of t)) is)
