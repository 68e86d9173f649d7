-- The vertices of a formula, from its nodes.
use Rattle.std.proofs.Common.{◌≡◌, ℕ, ◌+◌, ◌<◌, ◌≤◌, ◌⊎◌, ◌↔◌, inl, inr, ◌==◌, Bool, true, false, List, [], Option, Some, IsTrue, slice_get, length, refl, ap, sym, ◌∙◌, subst, arith, eqb-true, eq-eqb, if◌then◌else◌}
use Rattle.std.proofs.lemmas.Bool.{true≢false, false≢true}
use Rattle.std.proofs.lemmas.Option.{same_Some, slice_get_within}
use Rattle.bd_list.proofs.Numbers.{below_last}
use Rattle.bd_model.specs.declared.design.Sort.TheVariants as sort
use Rattle.bd_terms.specs.declared.node.Sym.{Sym}
use Rattle.bd_terms.specs.declared.node.Sym.TheVariants.{Var}
use Rattle.bd_terms.specs.declared.node.Node.{Node}
use Rattle.bd_terms.specs.declared.node.Node.TheVariants.{App}
use Rattle.bd_terms.specs.Graph.{IsGraph}
use Rattle.bd_terms.proofs.Graphs.{sort_at-get}
use Rattle.bd_function.specs.declared.flat.FlatSym.{FlatSym}
use Rattle.bd_function.specs.Flat.{IsFlat}
use Rattle.bd_function.specs.Values.{is_marked}
use Rattle.bd_equality.specs.Encoding.{IsVariable, has_mark}
use Rattle.bd_equality.specs.Edges.{IsVertex}
use Rattle.bd_equality.specs.Made.{symbol_variable}
use Rattle.bd_equality.proofs.Finding.{app_of, applies_use}
use Rattle.bd_equality.proofs.Flats.{word_is}

-- so far the vertices of the first nodes are there
pub record HasVertices (nodes : List Node) (marked : Option (List ℕ)) (count : ℕ) (vertices : List ℕ) : Type 0 where
  pub sound : (x : ℕ) → is_marked vertices x ≡ true → IsVertex nodes marked x
  pub complete : (k x : ℕ) (args : List ℕ) → k < count → slice_get nodes k ≡ Some (App (Var x) args) → has_mark marked x ≡ false → is_marked vertices x ≡ true

pub HasVertices-start : (nodes : List Node) (marked : Option (List ℕ)) (vertices : List ℕ) → vertices ≡ [] → HasVertices nodes marked 0 vertices
HasVertices-start nodes marked vertices e = record {
  sound = λ x h. absurd (false≢true (ap (λ l. is_marked l x) (sym e) ∙ h));
  complete = λ k x args lt. absurd (omega arith);
}

module _ (nodes : List Node) (marked : Option (List ℕ)) (count : ℕ) where
  App-symbol : (s : Sym) (args : List ℕ) (x : ℕ) (args' : List ℕ) → ◌≡◌ {A = Option Node} (Some (App s args)) (Some (App (Var x) args')) → s ≡ Var x
  App-symbol s args x args' e = cc

  -- a further vertex
  pub HasVertices-more : IsGraph nodes → (root : ℕ) (syms : List FlatSym) → IsFlat nodes root syms → (s : Sym) (args : List ℕ) (y : ℕ) (vertices new : List ℕ) → HasVertices nodes marked count vertices
      → slice_get nodes count ≡ Some (App s args) → y ≡ symbol_variable s → has_mark marked y ≡ false → ((x : ℕ) → is_marked new x ≡ (if y == x then true else is_marked vertices x)) → HasVertices nodes marked (count + 1) new
  HasVertices-more g root syms flat s args y vertices new h there is none has = record {
    sound = λ x k. sound_by x (y == x) refl k;
    complete = λ k x args' l at m. complete_by x (y == x) refl (elim (below_last k count l) [
      | inl q ↦ inl (h.complete k x args' q at m)
      | inr q ↦ inr (is ∙ ap symbol_variable (App-symbol s args x args' (sym there ∙ ap (slice_get nodes) (sym q) ∙ at)))
    ]);
  }
    where
      vertex : IsVertex nodes marked y
      vertex = record {
        variable = subst (IsVariable nodes sort.Word) (sym is) (word_is nodes g root syms flat count (App s args) there (sort_at-get nodes g count (App s args) there) refl).0;
        unmarked = none;
      }

      sound_by : (x : ℕ) (b : Bool) → (y == x) ≡ b → is_marked new x ≡ true → IsVertex nodes marked x
      sound_by x true e k = subst (IsVertex nodes marked) (eqb-true y x e) vertex
      sound_by x false e k = h.sound x (sym (has x ∙ ap (λ b. if b then true else is_marked vertices x) e) ∙ k)

      complete_by : (x : ℕ) (b : Bool) → (y == x) ≡ b → (is_marked vertices x ≡ true) ⊎ (y ≡ x) → is_marked new x ≡ true
      complete_by x true e k = has x ∙ ap (λ b. if b then true else is_marked vertices x) e
      complete_by x false e (inl q) = has x ∙ ap (λ b. if b then true else is_marked vertices x) e ∙ q
      complete_by x false e (inr q) = absurd (true≢false (sym (eq-eqb y x q) ∙ e))

  -- no vertex
  pub HasVertices-pass : (vertices : List ℕ) (node : Node) → HasVertices nodes marked count vertices → slice_get nodes count ≡ Some node
      → ((x : ℕ) (args : List ℕ) → node ≡ App (Var x) args → has_mark marked x ≡ false → ⊥) → HasVertices nodes marked (count + 1) vertices
  HasVertices-pass vertices node h there none = record {
    sound = h.sound;
    complete = λ k x args l at m. elim (below_last k count l) [
      | inl q ↦ h.complete k x args q at m
      | inr q ↦ absurd (none x args (same_Some node (App (Var x) args) (sym there ∙ ap (slice_get nodes) (sym q) ∙ at)) m)
    ];
  }

  pub HasVertices-end : (vertices : List ℕ) → HasVertices nodes marked count vertices → length nodes ≤ count → (x : ℕ) → IsTrue (is_marked vertices x) ↔ IsVertex nodes marked x
  HasVertices-end vertices h all x = (
    h.sound x,
    λ v.
        let a = applies_use nodes _ v.variable in
        let app = app_of a.node x a.applies in
        let lt = slice_get_within nodes a.id a.node a.there in
        h.complete a.id x app.args (omega (arith, lt)) (a.there ∙ ap Some app.is) v.unmarked,
  )
