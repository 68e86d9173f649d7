-- What is known of the clause that is made of a sorted copy, said of the literals that were given.
use Rattle.std.proofs.Common.{◌≡◌, List, Option, Some, None, IfSome, IfNone, IsNone, ◌↔◌, refl, sym, ap, ◌∙◌}
use Rattle.std.specs.List.Sorted.{IsPermutation}
use Rattle.std.proofs.lemmas.Bool.{true≢false}
use Rattle.std.proofs.lemmas.List.Sorted.{list_any-IsPermutation}
use Rattle.bd_cnf.specs.Literal.{Literal, negate, literal_eq, has_literal}
use Rattle.bd_cnf.specs.Clause.{IsRising, SameLiterals, IsTautology, KeepsWithin, HasSameValue, IsAlwaysTrue}
use Rattle.bd_cnf.proofs.Literals.{same_value, tautology_value, within_of_same}
use Rattle.bd_cnf.proofs.Rising.{rising_not_tautology}

pub same_sorted : (given copy sorted s : List Literal) → copy ≡ given → IsPermutation copy sorted → s ≡ sorted → SameLiterals s given
same_sorted given copy sorted s e moved is l =
    ap (λ (ls : List Literal). has_literal ls l) is ∙ sym (list_any-IsPermutation (literal_eq l) copy sorted moved) ∙ ap (λ (ls : List Literal). has_literal ls l) e

tautology_of_same : (c d : List Literal) → SameLiterals c d → IsTautology c → IsTautology d
tautology_of_same c d same (l, here, there) = (l, sym (same l) ∙ here, sym (same (negate l)) ∙ there)

module _ (s given : List Literal) (same : SameLiterals s given) where
  pub made_literals : (o : Option (List Literal)) → IfSome o (λ c. SameLiterals c s) → IfSome o (λ c. SameLiterals c given)
  made_literals (Some c) h = λ l. h l ∙ same l
  made_literals None h = h

  pub made_within : (o : Option (List Literal)) → IfSome o (λ c. SameLiterals c s) → IfSome o (KeepsWithin given)
  made_within (Some c) h = λ vars low. within_of_same vars c given (λ l. h l ∙ same l) low
  made_within None h = h

  pub made_value : (o : Option (List Literal)) → IfSome o (λ c. SameLiterals c s) → IfSome o (HasSameValue given)
  made_value (Some c) h = λ v. same_value v c given (λ l. h l ∙ same l)
  made_value None h = h

  pub made_none : (o : Option (List Literal)) → IfSome o IsRising → IfSome o (λ c. SameLiterals c s) → IfNone o (IsTautology s) → IsNone o ↔ IsTautology given
  made_none (Some c) up h t = (λ none. absurd (true≢false none), λ bad. absurd (rising_not_tautology 0 c up (tautology_of_same given c (λ l. sym (h l ∙ same l)) bad)))
  made_none None up h t = (λ _. tautology_of_same s given same t, λ _. refl)

  pub made_none_value : (o : Option (List Literal)) → IfNone o (IsTautology s) → IfNone o (IsAlwaysTrue given)
  made_none_value (Some c) t = t
  made_none_value None t = λ v. tautology_value v given (tautology_of_same s given same t)
