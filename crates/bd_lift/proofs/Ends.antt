-- Ends of edges, and the words of variables.
use Rattle.std.proofs.Common.{◌≡◌, ℕ, zero, suc, ◌+◌, ◌*◌, ◌<◌, ◌==◌, ◌||◌, inl, inr, Bool, true, false, if◌then◌else◌, List, [], ◌∷◌, length, Contains, All, refl, ap, sym, ◌∙◌, subst, arith, eq-eqb}
use Rattle.std.specs.Prelude.{slice_index_or}
use Rattle.std.proofs.lemmas.Bool.{eqb-true, false≢true}
use Rattle.bd_transitive.specs.declared.graph.Edge.{Edge}
use Rattle.bd_transitive.specs.declared.graph.Order.{Order}
use Rattle.bd_transitive.specs.Edges.{IsEnd, Joins, JoinsAt}
use Rattle.bd_transitive.specs.Orders.{IsOrder, place}
use Rattle.bd_transitive.specs.Triangle.{class_of}
use Rattle.bd_lift.specs.Decoded.{decoded_word, is_end}
use Rattle.bd_list.proofs.Truths.{or_left, or_right, or_cases}

joins-test : (e : Edge) (x y : ℕ) → Joins e x y → ((e.from == x) || (e.to == x)) ≡ true
joins-test e x y (inl h) = or_left (e.from == x) (e.to == x) (eq-eqb e.from x h.0)
joins-test e x y (inr h) = or_right (e.from == x) (e.to == x) (eq-eqb e.to x h.1)

end-at : (edges : List Edge) (k x y : ℕ) → JoinsAt edges k x y → is_end edges x ≡ true
end-at [] k x y h = absurd h
end-at (e ∷ edges) zero x y h = or_left ((e.from == x) || (e.to == x)) (is_end edges x) (joins-test e x y h)
end-at (e ∷ edges) (suc k) x y h = or_right ((e.from == x) || (e.to == x)) (is_end edges x) (end-at edges k x y h)

pub is_end-yes : (edges : List Edge) (x : ℕ) → IsEnd edges x → is_end edges x ≡ true
is_end-yes edges x h = end-at edges h.1.0 x h.0 h.1.1

later : (e : Edge) (edges : List Edge) (x : ℕ) → IsEnd edges x → IsEnd (e ∷ edges) x
later e edges x h = (h.0, (suc h.1.0, h.1.1))

pub is_end-of : (edges : List Edge) (x : ℕ) → is_end edges x ≡ true → IsEnd edges x
is_end-of [] x h = absurd (false≢true h)
is_end-of (e ∷ edges) x h = elim (or_cases ((e.from == x) || (e.to == x)) (is_end edges x) h) [
  | inl p ↦ elim (or_cases (e.from == x) (e.to == x) p) [
    | inl q ↦ (e.to, (0, inl (eqb-true e.from x q, refl)))
    | inr q ↦ (e.from, (0, inr (refl, eqb-true e.to x q)))
  ]
  | inr p ↦ later e edges x (is_end-of edges x p)
]

-- a variable is an end, or in no edge
pub data Placed (order : Order) (classes : List ℕ) (x : ℕ) : Type 0 where
  Ends : IsEnd order.edges x → decoded_word order classes x ≡ class_of order.vertices classes x → decoded_word order classes x < length order.vertices → Placed order classes x
  Alone : (IsEnd order.edges x → ⊥) → decoded_word order classes x ≡ length order.vertices + 2 * x → Placed order classes x

class-below : (n : ℕ) (classes : List ℕ) (p : ℕ) → All (λ c. c < n) classes → 0 < n → slice_index_or classes p 0 < n
class-below n [] p h z = z
class-below n (c ∷ classes) zero h z = h 0 0 (omega arith)
class-below n (c ∷ classes) (suc p) h z = class-below n classes p (λ k d l. h (suc k) d (omega (arith, l))) z

pub placed : (order : Order) (classes : List ℕ) (x : ℕ) → IsOrder order → All (λ c. c < length order.vertices) classes → Placed order classes x
placed order classes x o below = tested (is_end order.edges x) refl
  where
    tested : (t : Bool) → is_end order.edges x ≡ t → Placed order classes x
    tested true e =
        let end = is_end-of order.edges x e in
        let there : Contains order.vertices x = o.ends x end in
        let some : 0 < length order.vertices = omega (arith, there.1) in
        let is : decoded_word order classes x ≡ class_of order.vertices classes x = ap (λ t. if t then class_of order.vertices classes x else length order.vertices + 2 * x) e in
        Ends end is (subst (λ n. n < length order.vertices) (sym is) (class-below (length order.vertices) classes (place order.vertices x) below some))
    tested false e =
        Alone (λ end. false≢true (sym e ∙ is_end-yes order.edges x end)) (ap (λ t. if t then class_of order.vertices classes x else length order.vertices + 2 * x) e)
