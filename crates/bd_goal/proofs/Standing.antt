-- What the invariant and an abstraction come out as.
use Rattle.std.proofs.Common.{◌≡◌, ℕ, List, [], ◌∷◌, map, length, ap, sym, ◌∙◌}
use Rattle.std.specs.Prelude.{IfOk, Result, Ok, Err, not}
use Rattle.std.specs.declared.alloc.AllocError.{AllocError}
use Rattle.std.specs.List.{AllByRecursion, AllZip}
use Rattle.std.proofs.lemmas.List.{length-map}
use Rattle.bd_model.specs.ExprView.{ExprView}
use Rattle.bd_model.specs.DesignView.{DesignView, ExactView, LocalView}
use Rattle.bd_model.specs.Value.{value_of, env_of, is_true}
use Rattle.bd_model.specs.Cycle.{flush, flushed, invariant, look}
use Rattle.bd_model.specs.Lawful.{HasSort, IsLawful, IsLawfulExact, entry_sorts}
use Rattle.bd_model.specs.Conditions.{MeetsInvariant}
use Rattle.bd_model.specs.Fits.{Fits}
use Rattle.bd_model.specs.declared.case.Case.{Case}
use Rattle.bd_model.specs.declared.design.Sort.TheVariants as sort
use Rattle.bd_model.specs.declared.design.Entry as entry
use Rattle.bd_model.specs.declared.table.Scalar.{Scalar}
use Rattle.bd_model.specs.declared.table.Table.{Table}
use Rattle.bd_model.specs.declared.table.Value.{Value}
use Rattle.bd_model.proofs.Pairs.{AllZip-map_first}
use Rattle.bd_terms.specs.declared.node.Node.{Node}
use Rattle.bd_terms.specs.Graph.{HasSort as TermHasSort}
use Rattle.bd_terms.specs.Denotation.{World, Denotes, Truth, truth, truth_of}
use Rattle.bd_symbolic.specs.declared.state.SymState.{SymState}
use Rattle.bd_symbolic.specs.Symbolic.{DenotesExpr, DenoteValues, HaveSorts, terms_of}
use Rattle.bd_symbolic.specs.States.{DenotesFlush, DenotesState, StateHasSorts, port_sorts}
use Rattle.bd_symbolic.proofs.Denoting.{truth_of-value}
use Rattle.bd_model.specs.Abstraction.{IsLawfulGiven, values_by}
use Rattle.bd_goal.specs.Claims.{Claims, case_world}
use Rattle.bd_goal.specs.Formula.{IsOutside}
use Rattle.bd_goal.specs.inner.Shown.{AreConditions, DenoteConditions, Says, StandsFor}
use Rattle.bd_goal.proofs.Lists.{zip-length}
use Rattle.bd_goal.proofs.Showing.{Says-not}
use Rattle.bd_goal.proofs.Named.{Gathered, IsNamed, alone-denotes, named_context, term-value}

-- the term of the invariant says it
pub invariant-says : (d : DesignView) (old mid new : List Node) (state alone : SymState) (lets : List ℕ) (id : ℕ) → IsNamed d [] old mid alone d.inv_locals lets → alone.entries ≡ state.entries → alone.inputs ≡ []
    → DenotesExpr mid new (terms_of d alone lets) d.inv id
    → (w : World) (interp : List Table) (values : List Value) (scalars : List Scalar) → DenotesState d w old state interp values scalars → Says w new id (MeetsInvariant d interp values)
invariant-says d old mid new state alone lets id named entries inputs t w interp values scalars now =
    let is : truth w new id ≡ invariant d interp values =
    ap truth_of (term-value d [] old mid new alone d.inv_locals lets d.inv id named t w interp values [] (alone-denotes d w old state alone interp values scalars entries inputs now))
    ∙ truth_of-value (value_of (env_of d.inv_locals interp values []) d.inv) in
    (λ h. sym is ∙ h, λ h. is ∙ h)

pub entry-count : (d : DesignView) (nodes : List Node) (state : SymState) → StateHasSorts d.pipe nodes state → length state.entries ≡ length d.pipe.entries
entry-count d nodes state h = zip-length _ state.entries (entry_sorts d.pipe) h.entries ∙ length-map d.pipe.entries (λ (x : entry.Entry). x.sort)

-- what is visible once the pipeline is flushed
pub flushing-stands : (d : DesignView) (old new : List Node) (state after visible : SymState) → StateHasSorts d.pipe new after → DenotesFlush d old new state after → visible.inputs ≡ []
    → ((nodes : List Node) → HaveSorts nodes after.entries (entry_sorts d.pipe) → HaveSorts nodes visible.entries (entry_sorts d.spec))
    → ((w : World) (nodes : List Node) (values : List Value) → DenoteValues w nodes after.entries values → DenoteValues w nodes visible.entries (look d values))
    → StandsFor d old new state (flushed d) visible
flushing-stands d old new state after visible sorted t none sorts looks = record {
  sorted = record { sorted = sorts new sorted.entries; inputs = none };
  denotes = λ w interp values inputs now. looks w new (flush d interp values) (t.denotes w interp values inputs now);
}

-- the given expressions have the sorts of the visible entries
pub given-sorts : (d : DesignView) (locals : List LocalView) (exprs : List ExprView) → IsLawfulGiven d locals exprs → AllZip (λ s t. HasSort (named_context d [] locals) t s) (entry_sorts d.spec) exprs
given-sorts d locals exprs h = (AllZip-map_first (λ s t. HasSort (named_context d [] locals) t s) (λ (x : entry.Entry). x.sort) d.spec.entries exprs).1 h.parts

-- and their values are what the state stands for
pub given-stands : (d : DesignView) (old new : List Node) (state alone : SymState) (locals : List LocalView) (exprs : List ExprView) (visible : SymState) → alone.entries ≡ state.entries → alone.inputs ≡ [] → visible.inputs ≡ []
    → Gathered d old new alone locals (entry_sorts d.spec) exprs visible.entries → StandsFor d old new state (values_by locals exprs) visible
given-stands d old new state alone locals exprs visible entries inputs none h = record {
  sorted = record { sorted = h.sorted; inputs = none };
  denotes = λ w interp values scalars now. h.denotes w interp values [] (alone-denotes d w old state alone interp values scalars entries inputs now);
}

exact-sorts_of : (d : DesignView) (exact : List ExactView) → AllByRecursion (IsLawfulExact d) exact
    → AllZip (λ s t. HasSort (named_context d (port_sorts d.pipe) d.pipe.locals) t s) (map (λ (e : ExactView). sort.Bool) exact) (map (λ (e : ExactView). e.when) exact)
exact-sorts_of d [] h = tt
exact-sorts_of d (e ∷ exact) h = (h.0.when, exact-sorts_of d exact h.1)

-- the conditions of exact items are truth values
pub exact-sorts : (d : DesignView) → IsLawful d → AllZip (λ s t. HasSort (named_context d (port_sorts d.pipe) d.pipe.locals) t s) (map (λ (e : ExactView). sort.Bool) d.exact) (map (λ (e : ExactView). e.when) d.exact)
exact-sorts d lawful = exact-sorts_of d d.exact lawful.exact

bools : (nodes : List Node) (ids : List ℕ) (exact : List ExactView) → HaveSorts nodes ids (map (λ (e : ExactView). sort.Bool) exact) → AllByRecursion (λ id. TermHasSort nodes id sort.Bool) ids
bools nodes [] exact h = tt
bools nodes (id ∷ ids) [] h = absurd h
bools nodes (id ∷ ids) (e ∷ exact) h = (h.0, bools nodes ids exact h.1)

truths : (w : World) (nodes : List Node) (f : ExprView → Value) (ids : List ℕ) (exact : List ExactView) → DenoteValues w nodes ids (map f (map (λ (e : ExactView). e.when) exact))
    → AllZip (λ id (e : ExactView). truth w nodes id ≡ is_true (f e.when)) ids exact
truths w nodes f [] [] h = tt
truths w nodes f [] (e ∷ exact) h = absurd h
truths w nodes f (id ∷ ids) [] h = absurd h
truths w nodes f (id ∷ ids) (e ∷ exact) h = (ap truth_of h.0 ∙ truth_of-value (f e.when), truths w nodes f ids exact h.1)

-- the terms of the exact items' conditions
pub conditions-are : (d : DesignView) (old new : List Node) (state : SymState) (whens : List ℕ)
    → Gathered d old new state d.pipe.locals (map (λ (e : ExactView). sort.Bool) d.exact) (map (λ (e : ExactView). e.when) d.exact) whens → AreConditions d new whens
conditions-are d old new state whens h = record {
  count = zip-length (TermHasSort new) whens (map (λ (e : ExactView). sort.Bool) d.exact) h.sorted ∙ length-map d.exact (λ (e : ExactView). sort.Bool);
  sorted = bools new whens d.exact h.sorted;
}

pub conditions-denote : (d : DesignView) (old new : List Node) (state : SymState) (whens : List ℕ)
    → Gathered d old new state d.pipe.locals (map (λ (e : ExactView). sort.Bool) d.exact) (map (λ (e : ExactView). e.when) d.exact) whens
    → (w : World) (interp : List Table) (values : List Value) (inputs : List Scalar) → DenotesState d w old state interp values inputs → DenoteConditions d w new whens interp values inputs
conditions-denote d old new state whens h w interp values inputs now =
    truths w new (value_of (env_of d.pipe.locals interp values inputs)) whens d.exact (h.denotes w interp values inputs now)

pub invariant-said : (d : DesignView) (old mid new : List Node) (state alone : SymState) (lets : List ℕ) (r : Result ℕ AllocError) → IsNamed d [] old mid alone d.inv_locals lets → alone.entries ≡ state.entries → alone.inputs ≡ []
    → IfOk r (DenotesExpr mid new (terms_of d alone lets) d.inv)
    → IfOk r (λ id. (w : World) (interp : List Table) (values : List Value) (scalars : List Scalar) → DenotesState d w old state interp values scalars → Says w new id (MeetsInvariant d interp values))
invariant-said d old mid new state alone lets (Ok id) named entries inputs t = invariant-says d old mid new state alone lets id named entries inputs t
invariant-said d old mid new state alone lets (Err e) named entries inputs t = tt

-- that it is false
pub outside-claimed : (d : DesignView) (old new : List Node) (a : ℕ) (r : Result ℕ AllocError) → ((c : Case) (q : List ℕ) → Fits d c → Says (case_world c q) old a (MeetsInvariant d c.interp c.state))
    → IfOk r (λ id. Denotes new id (λ w. Truth (not (truth w old a)))) → IfOk r (Claims d (IsOutside d) new)
outside-claimed d old new a (Ok id) h is = record { means = λ c q fits. Says-not (case_world c q) old new a id (MeetsInvariant d c.interp c.state) (h c q fits) is }
outside-claimed d old new a (Err e) h is = tt

-- the call that takes what is visible of the flushed state
pub flushing-stood : (d : DesignView) (old new : List Node) (state after : SymState) (r : Result SymState AllocError) → StateHasSorts d.pipe new after → DenotesFlush d old new state after → IfOk r (λ visible. visible.inputs ≡ [])
    → IfOk r (λ visible. (nodes : List Node) → HaveSorts nodes after.entries (entry_sorts d.pipe) → HaveSorts nodes visible.entries (entry_sorts d.spec))
    → IfOk r (λ visible. (w : World) (nodes : List Node) (values : List Value) → DenoteValues w nodes after.entries values → DenoteValues w nodes visible.entries (look d values))
    → IfOk r (λ visible. StandsFor d old new state (flushed d) visible)
flushing-stood d old new state after (Ok visible) sorted t none sorts looks = flushing-stands d old new state after visible sorted t none sorts looks
flushing-stood d old new state after (Err e) sorted t none sorts looks = tt
