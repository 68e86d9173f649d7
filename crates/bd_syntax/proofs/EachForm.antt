-- Reading trees one after the other, as a loop does.
use Rattle.std.proofs.Common.{◌≡◌, ℕ, ◌+◌, ◌≤◌, ◌<◌, List, [], ◌∷◌, ◌++◌, length, get_or, drop, Result, Ok, Err, refl, sym, ap, ◌∙◌, append_assoc}
use Rattle.std.proofs.lemmas.List.{append-nil}
use Rattle.std.proofs.lemmas.List.{at_drop_more, at_drop_all}
use Rattle.bd_text.specs.Nodes.{Node}
use Rattle.bd_text.specs.View.{node_of, nodes_of_all}
use Rattle.bd_text.specs.declared.tree.Tree.{Tree}
use Rattle.bd_syntax.specs.Reading.{Fault, ◌>>=◌, Fails, each_form}
use Rattle.bd_text.specs.declared.fault.TextFault.{TextFault}
use Rattle.bd_text.specs.declared.fault.TextFault.TheVariants as faults

-- what was read before, and what is still read
abbrev pub with_front : {A : Type 0} → List A → Result (List A) Fault → Result (List A) Fault
with_front front reading = reading >>= λ xs. Ok (front ++ xs)

regroup : {A : Type 0} (front : List A) (x : A) (reading : Result (List A) Fault) → with_front front (reading >>= λ xs. Ok (x ∷ xs)) ≡ with_front (front ++ x ∷ []) reading
regroup front x (Ok xs) = ap Ok (simp append_assoc)
regroup front x (Err fault) = refl

module _ {A : Type 0} (form : Node → Result A Fault) (trees : List Tree) (front : List A) (i : ℕ) (tree : Tree) (total : Result (List A) Fault) where
  -- one more tree was read
  pub goes_on : (x : A) → i < length trees → tree ≡ get_or trees i tree → form (node_of tree) ≡ Ok x
      → with_front front (each_form form (nodes_of_all (drop i trees))) ≡ total
      → with_front (front ++ x ∷ []) (each_form form (nodes_of_all (drop (i + 1) trees))) ≡ total
  goes_on x lt is h so_far =
      let rest = each_form form (nodes_of_all (drop (i + 1) trees)) in
      let step : with_front front (each_form form (nodes_of_all (drop i trees))) ≡ with_front front (form (node_of tree) >>= λ y. rest >>= λ ys. Ok (y ∷ ys)) =
      at_drop_more (λ ts. with_front front (each_form form (nodes_of_all ts))) trees i tree lt
      ∙ ap (λ t. with_front front (form (node_of t) >>= λ y. rest >>= λ ys. Ok (y ∷ ys))) (sym is) in
      let one : with_front front (each_form form (nodes_of_all (drop i trees))) ≡ with_front (front ++ x ∷ []) rest =
      step ∙ ap (λ r. with_front front (r >>= λ y. rest >>= λ ys. Ok (y ∷ ys))) h ∙ regroup front x rest in
      sym one ∙ so_far

  -- a tree has a fault
  pub ends : (fault : TextFault) → i < length trees → tree ≡ get_or trees i tree → Fails fault (form (node_of tree))
      → with_front front (each_form form (nodes_of_all (drop i trees))) ≡ total → Fails fault total
  ends faults.Memory lt is h so_far = tt
  ends (faults.Bad offset code) lt is h so_far =
      let rest = each_form form (nodes_of_all (drop (i + 1) trees)) in
      let step : with_front front (each_form form (nodes_of_all (drop i trees))) ≡ with_front front (form (node_of tree) >>= λ y. rest >>= λ ys. Ok (y ∷ ys)) =
      at_drop_more (λ ts. with_front front (each_form form (nodes_of_all ts))) trees i tree lt
      ∙ ap (λ t. with_front front (form (node_of t) >>= λ y. rest >>= λ ys. Ok (y ∷ ys))) (sym is) in
      sym so_far ∙ step ∙ ap (λ r. with_front front (r >>= λ y. rest >>= λ ys. Ok (y ∷ ys))) h

-- all were read
pub is_done : {A : Type 0} (form : Node → Result A Fault) (trees : List Tree) (front : List A) (i : ℕ) (total : Result (List A) Fault) → length trees ≤ i
    → with_front front (each_form form (nodes_of_all (drop i trees))) ≡ total → total ≡ Ok front
is_done form trees front i total le so_far =
    sym so_far ∙ at_drop_all (λ ts. with_front front (each_form form (nodes_of_all ts))) trees i le ∙ ap Ok (append-nil front)
