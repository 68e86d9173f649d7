-- The constants that are kept so far.
use Rattle.std.proofs.Common.{◌≡◌, ◌≢◌, ℕ, ◌+◌, ◌<◌, ◌≤◌, ◌⊎◌, ◌↔◌, inl, inr, ◌==◌, Bool, true, false, List, [], Option, Some, IsTrue, slice_get, length, refl, ap, sym, ◌∙◌, subst, arith, eqb-true, eq-eqb, if◌then◌else◌}
use Rattle.std.proofs.lemmas.Bool.{cases_lt, true≢false}
use Rattle.std.proofs.lemmas.Option.{none-some, same_Some, slice_get-get_or}
use Rattle.bd_terms.specs.declared.node.Sym.TheVariants.{Function}
use Rattle.bd_terms.specs.declared.node.Node.{Node}
use Rattle.bd_function.specs.declared.flat.FlatSym.{FlatSym}
use Rattle.bd_function.specs.Flat.{IsFlat}
use Rattle.bd_function.specs.Values.{is_marked}
use Rattle.bd_terms.proofs.Places.{Contains-get}
use Rattle.bd_equality.specs.Edges.{IsConstant, IsVertex}
use Rattle.bd_equality.specs.inner.Apart.{AddsConstant, IsFirst, IsListed}
use Rattle.bd_equality.specs.inner.Sets.{variable_of}

-- the constants of the first symbols are kept, and no other ones
pub record IsKept (syms : List FlatSym) (vertices : List ℕ) (count : ℕ) (variables : List (ℕ × ℕ)) : Type 0 where
  pub sound : (f x : ℕ) → variable_of variables f ≡ Some x → IsListed syms vertices f x
  pub complete : (k : ℕ) (holder : FlatSym) (f x : ℕ) → k < count → slice_get syms k ≡ Some holder → IsFirst holder f x → is_marked vertices x ≡ true → variable_of variables f ≡ Some x

pub IsKept-start : (syms : List FlatSym) (vertices : List ℕ) (variables : List (ℕ × ℕ)) → variables ≡ [] → IsKept syms vertices 0 variables
IsKept-start syms vertices variables e = record {
  sound = λ f x h. absurd (none-some x (ap (λ l. variable_of l f) (sym e) ∙ h));
  complete = λ k holder f x lt. absurd (omega arith);
}

pub IsKept-step : (nodes : List Node) (root : ℕ) (syms : List FlatSym) → IsFlat nodes root syms → (vertices : List ℕ) (count : ℕ) (old new : List (ℕ × ℕ)) (holder : FlatSym) → slice_get syms count ≡ Some holder
    → IsKept syms vertices count old → AddsConstant vertices holder old new → IsKept syms vertices (count + 1) new
IsKept-step nodes root syms flat vertices count old new holder there h a = record {
  sound = λ f x k. elim (a.among f x k) [
    | inl q ↦ h.sound f x q
    | inr q ↦ record { holder = holder; listed = Contains-get syms count holder there; first = q.0; vertex = q.1 }
  ];
  complete = λ k other f x lt at first vertex. elim (cases_lt k count) [
    | inl q ↦
        let differs : holder.sym ≢ Function f = λ same.
        let e : k ≡ count = flat.once k count other holder at there (first.same ∙ sym same) in absurd (omega arith) in
        a.others f differs ∙ h.complete k other f x q at first vertex
    | inr q ↦
        let e : k ≡ count = omega arith in
        let same : holder ≡ other = same_Some holder other (sym there ∙ ap (slice_get syms) (sym e) ∙ at) in
        a.added f x (subst (λ s. IsFirst s f x) (sym same) first) vertex
  ];
}

pub IsKept-end : (syms : List FlatSym) (vertices : List ℕ) (count : ℕ) (variables : List (ℕ × ℕ)) → length syms ≤ count → IsKept syms vertices count variables
    → (f x : ℕ) → (variable_of variables f ≡ Some x) ↔ IsListed syms vertices f x
IsKept-end syms vertices count variables all h f x = (
  h.sound f x,
  λ c.
      let i = c.listed.0 in
      let at : slice_get syms i ≡ Some c.holder = slice_get-get_or syms i c.holder c.listed.1 ∙ ap Some c.listed.2 in
      h.complete i c.holder f x (omega (arith, c.listed.1)) at c.first c.vertex,
)

-- the listed constants are those of the formula
pub listed_constants : (nodes : List Node) (syms : List FlatSym) (marked : Option (List ℕ)) (vertices : List ℕ) (variables : List (ℕ × ℕ))
    → ((x : ℕ) → IsTrue (is_marked vertices x) ↔ IsVertex nodes marked x) → ((f x : ℕ) → (variable_of variables f ≡ Some x) ↔ IsListed syms vertices f x)
    → (f x : ℕ) → (variable_of variables f ≡ Some x) ↔ IsConstant nodes syms marked f x
listed_constants nodes syms marked vertices variables are h f x = (
  λ k.
      let s = (h f x).0 k in
      record {
        holder = s.holder;
        row = s.first.row;
        listed = s.listed;
        same = s.first.same;
        first = s.first.first;
        plain = s.first.plain;
        variable = s.first.variable;
        vertex = (are x).0 s.vertex;
      },
  λ c. (h f x).1 (record {
    holder = c.holder;
    listed = c.listed;
    first = record { row = c.row; same = c.same; first = c.first; plain = c.plain; variable = c.variable };
    vertex = (are x).1 c.vertex;
  }),
)

-- a symbol's constant is kept if its variable is a vertex
module _ (vertices : List ℕ) (holder : FlatSym) (r : Option (ℕ × ℕ)) (are : (f x : ℕ) → (r ≡ Some (f, x)) ↔ IsFirst holder f x) (old : List (ℕ × ℕ)) where
  module _ (g y : ℕ) (is : r ≡ Some (g, y)) where
    same_first : (f x : ℕ) → IsFirst holder f x → (g ≡ f) × (y ≡ x)
    same_first f x first =
        let e = same_Some {A = ℕ × ℕ} (g, y) (f, x) (sym is ∙ (are f x).1 first) in (ap (λ (p : ℕ × ℕ). p.0) e, ap (λ (p : ℕ × ℕ). p.1) e)

    pub AddsConstant-unmarked : is_marked vertices y ≡ false → AddsConstant vertices holder old old
    AddsConstant-unmarked none = record {
      added = λ f x first vertex. absurd (true≢false (sym vertex ∙ ap (is_marked vertices) (sym (same_first f x first).1) ∙ none));
      others = λ f other. refl;
      among = λ f x h. inl h;
    }

    module _ (marked : is_marked vertices y ≡ true) (new : List (ℕ × ℕ)) (keeps : (f : ℕ) → variable_of new f ≡ (if g == f then Some y else variable_of old f)) where
      others_by : (f : ℕ) (b : Bool) → (g == f) ≡ b → holder.sym ≢ Function f → variable_of new f ≡ variable_of old f
      others_by f true e other = absurd (other (((are g y).0 is).same ∙ ap Function (eqb-true g f e)))
      others_by f false e other = keeps f ∙ ap (λ b. if b then Some y else variable_of old f) e

      among_by : (f x : ℕ) (b : Bool) → (g == f) ≡ b → variable_of new f ≡ Some x → (variable_of old f ≡ Some x) ⊎ (IsFirst holder f x × (is_marked vertices x ≡ true))
      among_by f x true e h =
          let same : y ≡ x = same_Some y x (sym (keeps f ∙ ap (λ b. if b then Some y else variable_of old f) e) ∙ h) in
          inr (subst (λ z. IsFirst holder z x) (eqb-true g f e) (subst (IsFirst holder g) same ((are g y).0 is)), subst (λ z. is_marked vertices z ≡ true) same marked)
      among_by f x false e h = inl (sym (keeps f ∙ ap (λ b. if b then Some y else variable_of old f) e) ∙ h)

      pub AddsConstant-some : AddsConstant vertices holder old new
      AddsConstant-some = record {
        added = λ f x first vertex.
            let s = same_first f x first in
            keeps f ∙ ap (λ b. if b then Some y else variable_of old f) (eq-eqb g f s.0) ∙ ap Some s.1;
        others = λ f other. others_by f (g == f) refl other;
        among = λ f x h. among_by f x (g == f) refl h;
      }

  pub AddsConstant-none : ((p : ℕ × ℕ) → r ≡ Some p → ⊥) → AddsConstant vertices holder old old
  AddsConstant-none none = record {
    added = λ f x first vertex. absurd (none (f, x) ((are f x).1 first));
    others = λ f other. refl;
    among = λ f x h. inl h;
  }
