-- The signs of the variables of literals that have no complements.
use Rattle.std.proofs.Common.{◌≡◌, ◌⊎◌, ℕ, Bool, true, false, not, ◌||◌, ◌&&◌, cond, eqb, List, [], ◌∷◌, ◌++◌, Option, None, Some, refl, sym, ap, ◌∙◌, subst, inl, inr}
use Rattle.std.specs.Map.{lookup}
use Rattle.std.proofs.lemmas.Bool.{cases_Bool, eq-eqb, eqb-true, false_from_ne_true, false≢true, or_cases}
use Rattle.bd_cnf.specs.Literal.{Literal, literal, literal_eq, negate, has_literal}
use Rattle.bd_cnf.specs.Clause.{IsTautology}
use Rattle.bd_cnf.proofs.Literals.{has-push, literal_eq-true, negate_apart, negate_twice}
use Rattle.bd_proof_text.specs.inner.Signs.{HasSigns, is_sign}

eqb-swap : (a b : ℕ) → eqb a b ≡ eqb b a
eqb-swap a b = elim (cases_Bool (eqb a b)) [
  | inl e ↦ e ∙ sym (eq-eqb b a (sym (eqb-true a b e)))
  | inr e ↦ e ∙ sym (false_from_ne_true (eqb b a) (λ h. false≢true (sym e ∙ eq-eqb a b (sym (eqb-true b a h)))))
]

-- the sign that a variable has where its literal is put after the others, none of which is its complement
with-sign : (o : Option Bool) (p s : Bool) → is_sign o (not p) ≡ false → (is_sign o s || cond s p (not p)) ≡ cond p s (not s)
with-sign None true true h = refl
with-sign None true false h = refl
with-sign None false true h = refl
with-sign None false false h = refl
with-sign (Some true) true true h = refl
with-sign (Some true) true false h = refl
with-sign (Some true) false s h = absurd (false≢true (sym h))
with-sign (Some false) true s h = absurd (false≢true (sym h))
with-sign (Some false) false true h = refl
with-sign (Some false) false false h = refl

or-none : (b : Bool) → (b || false) ≡ b
or-none true = refl
or-none false = refl

pub push-sign : (es es' : List (ℕ × Bool)) (ls : List Literal) (l : Literal) → HasSigns es ls → has_literal ls (negate l) ≡ false
    → ((y : ℕ) → lookup (λ z. eqb y z) es' ≡ cond (eqb l.var y) (Some l.positive) (lookup (λ z. eqb y z) es)) → HasSigns es' (ls ++ l ∷ [])
push-sign es es' ls l has apart step = record {
  each = λ x s. has-push ls l (literal x s) ∙ ap (λ t. t || literal_eq (literal x s) l) (has.each x s) ∙ by x s (cases_Bool (eqb l.var x)) ∙ ap (λ o. is_sign o s) (sym (step x));
}
  where
    by : (x : ℕ) (s : Bool) → (eqb l.var x ≡ true) ⊎ (eqb l.var x ≡ false)
        → (is_sign (lookup (λ z. eqb x z) es) s || literal_eq (literal x s) l) ≡ is_sign (cond (eqb l.var x) (Some l.positive) (lookup (λ z. eqb x z) es)) s
    by x s (inl e) =
        let vars : l.var ≡ x = eqb-true l.var x e in
        let other : is_sign (lookup (λ z. eqb l.var z) es) (not l.positive) ≡ false = sym (has.each l.var (not l.positive)) ∙ apart in
        let mine : is_sign (lookup (λ z. eqb x z) es) (not l.positive) ≡ false = subst (λ y. is_sign (lookup (λ z. eqb y z) es) (not l.positive) ≡ false) vars other in
        ap (λ t. is_sign (lookup (λ z. eqb x z) es) s || (t && cond s l.positive (not l.positive))) (eqb-swap x l.var ∙ e)
        ∙ with-sign (lookup (λ z. eqb x z) es) l.positive s mine
        ∙ ap (λ t. is_sign (cond t (Some l.positive) (lookup (λ z. eqb x z) es)) s) (sym e)
    by x s (inr e) =
        ap (λ t. is_sign (lookup (λ z. eqb x z) es) s || (t && cond s l.positive (not l.positive))) (eqb-swap x l.var ∙ e)
        ∙ or-none (is_sign (lookup (λ z. eqb x z) es) s)
        ∙ ap (λ t. is_sign (cond t (Some l.positive) (lookup (λ z. eqb x z) es)) s) (sym e)

-- whether the literal's complement is there, as the map tells
pub tested : (es : List (ℕ × Bool)) (ls : List Literal) (l : Literal) → HasSigns es ls → (x : ℕ) (p : Bool) (o : Option Bool) → x ≡ l.var → p ≡ l.positive → o ≡ lookup (λ z. eqb x z) es
    → has_literal ls (negate l) ≡ is_sign o (not p)
tested es ls l has x p o vars signs found =
    has.each l.var (not l.positive) ∙ (λ i. is_sign (lookup (λ z. eqb (sym vars i) z) es) (not (sym signs i))) ∙ ap (λ r. is_sign r (not p)) (sym found)

-- where it isn't there, the literals with this one have no complements
pub push-apart : (ls : List Literal) (l : Literal) → (IsTautology ls → ⊥) → has_literal ls (negate l) ≡ false → IsTautology (ls ++ l ∷ []) → ⊥
push-apart ls l free apart (k, here, there) = by (or_cases _ _ (sym (has-push ls l k) ∙ here)) (or_cases _ _ (sym (has-push ls l (negate k)) ∙ there))
  where
    clash : has_literal ls (negate l) ≡ true → ⊥
    clash h = false≢true (sym apart ∙ h)

    by : (has_literal ls k ≡ true) ⊎ (literal_eq k l ≡ true) → (has_literal ls (negate k) ≡ true) ⊎ (literal_eq (negate k) l ≡ true) → ⊥
    by (inl h) (inl h') = free (k, h, h')
    by (inl h) (inr e) =
        let is : k ≡ negate l = sym (negate_twice k) ∙ ap negate (literal_eq-true (negate k) l e) in clash (subst (λ (m : Literal). has_literal ls m ≡ true) is h)
    by (inr e) (inl h') = clash (subst (λ (m : Literal). has_literal ls (negate m) ≡ true) (literal_eq-true k l e) h')
    by (inr e) (inr e') = negate_apart k (literal_eq-true k l e ∙ sym (literal_eq-true (negate k) l e'))
