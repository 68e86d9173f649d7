-- Lists of literals as clauses: joined, and their value.
use Rattle.std.proofs.Common.{◌≡◌, ℕ, Bool, true, ◌&&◌, List, [], ◌∷◌, ◌++◌, ap, sym, ◌∙◌, subst, inl, inr, Option, None, Some, get_or, unwrap_or}
use Rattle.std.proofs.lemmas.List.{append_assoc}
use Rattle.bd_cnf.specs.Literal.{Literal, literal}
use Rattle.bd_cnf.specs.Clause.{clauses_value}
use Rattle.bd_cnf.proofs.Literals.{same_value, tautology_value}
use Rattle.bd_tseitin.specs.Definition.{AreClauses}
use Rattle.bd_tseitin.specs.inner.Step.{Pushes, known}

pub AreClauses-append : (ds es cs fs : List (List Literal)) → AreClauses ds cs → AreClauses es fs → AreClauses (ds ++ es) (cs ++ fs)
AreClauses-append [] es cs fs left right = subst (λ xs. AreClauses es (xs ++ fs)) (sym left) right
AreClauses-append (d ∷ ds) es cs fs (inl (always, left)) right = inl (always, AreClauses-append ds es cs fs left right)
AreClauses-append (d ∷ ds) es cs fs (inr (c, rest, is, same, left)) right = inr (c, rest ++ fs, ap (λ xs. xs ++ fs) is, same, AreClauses-append ds es rest fs left right)

pub Pushes-join : (ds es old mid new : List (List Literal)) → Pushes old ds mid → Pushes mid es new → Pushes old (ds ++ es) new
Pushes-join ds es old mid new (some, mid_is, left) (more, new_is, right) =
    (some ++ more, new_is ∙ ap (λ xs. xs ++ more) mid_is ∙ append_assoc old some more, AreClauses-append ds es some more left right)

-- the clauses have the value of the lists
pub value-AreClauses : (v : ℕ → Bool) (ds cs : List (List Literal)) → AreClauses ds cs → clauses_value v cs ≡ clauses_value v ds
value-AreClauses v [] cs is = ap (clauses_value v) is
value-AreClauses v (d ∷ ds) cs (inl (always, rest)) = value-AreClauses v ds cs rest ∙ ap (λ b. b && clauses_value v ds) (sym (tautology_value v d always))
value-AreClauses v (d ∷ ds) cs (inr (c, rest, is, same, left)) =
    ap (clauses_value v) is ∙ (λ i. same_value v c d same i && value-AreClauses v ds rest left i)

-- the literal that the table has
pub known_is : (ls : List (Option Literal)) (id : ℕ) (l : Literal) → get_or ls id None ≡ Some l → l ≡ known ls id
known_is ls id l at = sym (ap (λ o. unwrap_or o (literal 0 true)) at)
