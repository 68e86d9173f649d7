-- Terms of expressions over a state's terms and lets of their own.
use Rattle.std.proofs.Common.{◌≡◌, ℕ, zero, suc, ◌+◌, ◌≤◌, List, [], ◌∷◌, ◌++◌, map, take, length, refl, sym, subst, arith}
use Rattle.std.specs.Prelude.{Some, slice_get}
use Rattle.std.specs.List.{AllZip}
use Rattle.std.proofs.lemmas.List.{take_all}
use Rattle.bd_model.specs.ExprView.{ExprView}
use Rattle.bd_model.specs.DesignView.{DesignView, LocalView}
use Rattle.bd_model.specs.Value.{value_of, env_of}
use Rattle.bd_model.specs.Lawful.{Context, HasSort, LetsHaveSorts, entry_sorts}
use Rattle.bd_model.specs.declared.design.Sort.{Sort}
use Rattle.bd_model.specs.declared.table.Scalar.{Scalar}
use Rattle.bd_model.specs.declared.table.Table.{Table}
use Rattle.bd_model.specs.declared.table.Value.{Value}
use Rattle.bd_model.specs.declared.table.Value.TheVariants as value
use Rattle.bd_model.proofs.Pairs.{AllZip-append}
use Rattle.bd_terms.specs.declared.node.Node.{Node}
use Rattle.bd_terms.specs.Graph.{sort_at}
use Rattle.bd_terms.specs.Denotation.{World, denoted}
use Rattle.bd_terms.specs.Graph.{HasSort as TermHasSort}
use Rattle.bd_symbolic.specs.World.{denotes_value}
use Rattle.bd_symbolic.specs.declared.state.SymState.{SymState}
use Rattle.bd_symbolic.specs.DesignSymbols.{GrowsWithin, KeepsDesign}
use Rattle.bd_symbolic.specs.Made.{AreMadeOver, IsMade}
use Rattle.bd_symbolic.proofs.Making.{each-Extends, lets-Extends}
use Rattle.bd_symbolic.specs.Symbolic.{AreTerms, DenotesExpr, DenoteValues, HaveSorts, context_in, terms_of}
use Rattle.bd_symbolic.specs.States.{DenoteLets, DenotesState, StateHasSorts, local_sorts, port_sorts}
use Rattle.bd_symbolic.proofs.Growing.{Denote-Extends, Grows-trans, KeepsDesign-Grows}
use Rattle.bd_goal.proofs.Lists.{take-next, zip-length}
use Rattle.bd_list.proofs.Pushed.{map-push}
use Rattle.bd_symbolic.proofs.States.{HaveSorts-inside, HaveSorts-Extends, HaveSorts-sorts}

-- the sorts in force over a state with inputs of these sorts, after lets
abbrev pub named_context : DesignView → List Sort → List LocalView → Context
named_context d ports locals = record { symbols = d.symbols; entries = entry_sorts d.pipe; inputs = ports; locals = local_sorts locals }

-- a state of terms, with inputs of these sorts
pub record IsStated (d : DesignView) (ports : List Sort) (nodes : List Node) (state : SymState) : Type 0 where
  pub keeps : KeepsDesign d nodes
  pub entries : HaveSorts nodes state.entries (entry_sorts d.pipe)
  pub inputs : HaveSorts nodes state.inputs ports

-- and the terms of lets over it
pub record IsNamed (d : DesignView) (ports : List Sort) (old mid : List Node) (state : SymState) (locals : List LocalView) (lets : List ℕ) : Type 0 where
  pub stated : IsStated d ports old state
  pub grows : GrowsWithin d old mid
  pub let_terms : DenoteLets d old mid state locals lets

pub stated-terms : (d : DesignView) (ports : List Sort) (nodes : List Node) (state : SymState) → IsStated d ports nodes state → AreTerms nodes (terms_of d state [])
stated-terms d ports nodes state h = record {
  keeps = h.keeps;
  entries = HaveSorts-inside nodes state.entries (entry_sorts d.pipe) h.entries;
  inputs = HaveSorts-inside nodes state.inputs ports h.inputs;
  lets = tt;
}

stated-context : (d : DesignView) (ports : List Sort) (nodes : List Node) (state : SymState) → IsStated d ports nodes state → context_in nodes (terms_of d state []) ≡ named_context d ports []
stated-context d ports nodes state h =
    let one : map (sort_at nodes) state.entries ≡ entry_sorts d.pipe = HaveSorts-sorts nodes state.entries (entry_sorts d.pipe) h.entries in
    let two : map (sort_at nodes) state.inputs ≡ ports = HaveSorts-sorts nodes state.inputs ports h.inputs in
    λ i. record { symbols = d.symbols; entries = one i; inputs = two i; locals = [] }

pub stated-lets : (d : DesignView) (ports : List Sort) (nodes : List Node) (state : SymState) (locals : List LocalView) → IsStated d ports nodes state
    → LetsHaveSorts (named_context d ports []) locals → LetsHaveSorts (context_in nodes (terms_of d state [])) locals
stated-lets d ports nodes state locals h k = subst (λ c. LetsHaveSorts c locals) (sym (stated-context d ports nodes state h)) k

pub stated-later : (d : DesignView) (ports : List Sort) (old new : List Node) (state : SymState) → GrowsWithin d old new → IsStated d ports old state → IsStated d ports new state
stated-later d ports old new state g h = record {
  keeps = KeepsDesign-Grows d old new g h.keeps;
  entries = HaveSorts-Extends old new g.extends state.entries (entry_sorts d.pipe) h.entries;
  inputs = HaveSorts-Extends old new g.extends state.inputs ports h.inputs;
}

pub named-terms : (d : DesignView) (ports : List Sort) (old mid : List Node) (state : SymState) (locals : List LocalView) (lets : List ℕ) → IsNamed d ports old mid state locals lets → AreTerms mid (terms_of d state lets)
named-terms d ports old mid state locals lets h =
    let now = stated-later d ports old mid state h.grows h.stated in
    record {
      keeps = now.keeps;
      entries = HaveSorts-inside mid state.entries (entry_sorts d.pipe) now.entries;
      inputs = HaveSorts-inside mid state.inputs ports now.inputs;
      lets = HaveSorts-inside mid lets (local_sorts locals) h.let_terms.sorted;
    }

named-context : (d : DesignView) (ports : List Sort) (old mid : List Node) (state : SymState) (locals : List LocalView) (lets : List ℕ) → IsNamed d ports old mid state locals lets
    → context_in mid (terms_of d state lets) ≡ named_context d ports locals
named-context d ports old mid state locals lets h =
    let now = stated-later d ports old mid state h.grows h.stated in
    let one : map (sort_at mid) state.entries ≡ entry_sorts d.pipe = HaveSorts-sorts mid state.entries (entry_sorts d.pipe) now.entries in
    let two : map (sort_at mid) state.inputs ≡ ports = HaveSorts-sorts mid state.inputs ports now.inputs in
    let three : map (sort_at mid) lets ≡ local_sorts locals = HaveSorts-sorts mid lets (local_sorts locals) h.let_terms.sorted in
    λ i. record { symbols = d.symbols; entries = one i; inputs = two i; locals = three i }

pub named-sort : (d : DesignView) (ports : List Sort) (old mid : List Node) (state : SymState) (locals : List LocalView) (lets : List ℕ) (e : ExprView) (s : Sort) → IsNamed d ports old mid state locals lets
    → HasSort (named_context d ports locals) e s → (u : Sort) × HasSort (context_in mid (terms_of d state lets)) e u
named-sort d ports old mid state locals lets e s h k = (s, subst (λ c. HasSort c e s) (sym (named-context d ports old mid state locals lets h)) k)

pub named-later : (d : DesignView) (ports : List Sort) (old mid new : List Node) (state : SymState) (locals : List LocalView) (lets : List ℕ) → GrowsWithin d mid new → IsNamed d ports old mid state locals lets → IsNamed d ports old new state locals lets
named-later d ports old mid new state locals lets g h = record {
  stated = h.stated;
  grows = Grows-trans d old mid new h.grows g;
  let_terms = record {
    sorted = HaveSorts-Extends mid new g.extends lets (local_sorts locals) h.let_terms.sorted;
    denotes = λ w interp values inputs k. Denote-Extends _ w mid new g.extends lets _ (HaveSorts-inside mid lets (local_sorts locals) h.let_terms.sorted) (h.let_terms.denotes w interp values inputs k);
    made = lets-Extends mid new g.extends d state [] locals lets h.let_terms.made;
  };
}

-- the term of an expression has its sort
pub term-sort : (d : DesignView) (ports : List Sort) (old mid new : List Node) (state : SymState) (locals : List LocalView) (lets : List ℕ) (e : ExprView) (s : Sort) (id : ℕ) → IsNamed d ports old mid state locals lets
    → HasSort (named_context d ports locals) e s → DenotesExpr mid new (terms_of d state lets) e id → TermHasSort new id s
term-sort d ports old mid new state locals lets e s id h k t = t.sorted s (subst (λ c. HasSort c e s) (sym (named-context d ports old mid state locals lets h)) k)

-- and denotes its value
pub term-value : (d : DesignView) (ports : List Sort) (old mid new : List Node) (state : SymState) (locals : List LocalView) (lets : List ℕ) (e : ExprView) (id : ℕ) → IsNamed d ports old mid state locals lets
    → DenotesExpr mid new (terms_of d state lets) e id → (w : World) (interp : List Table) (values : List Value) (inputs : List Scalar) → DenotesState d w old state interp values inputs
    → denoted w new id ≡ denotes_value (value_of (env_of locals interp values inputs) e)
term-value d ports old mid new state locals lets e id h t w interp values inputs k =
    t.denotes w (env_of locals interp values inputs) (record {
      world = k.world;
      state = Denote-Extends _ w old mid h.grows.extends state.entries values (HaveSorts-inside old state.entries (entry_sorts d.pipe) h.stated.entries) k.entries;
      inputs = Denote-Extends _ w old mid h.grows.extends state.inputs inputs (HaveSorts-inside old state.inputs ports h.stated.inputs) k.inputs;
      locals = h.let_terms.denotes w interp values inputs k;
    })

-- a list of terms for the first expressions
pub record Gathers (d : DesignView) (ports : List Sort) (old cur : List Node) (state : SymState) (locals : List LocalView) (lets : List ℕ) (sorts : List Sort) (es : List ExprView) (i : ℕ) (ids : List ℕ) : Type 0 where
  pub named : IsNamed d ports old cur state locals lets
  pub sorted : HaveSorts cur ids (take i sorts)
  pub denotes : (w : World) (interp : List Table) (values : List Value) (inputs : List Scalar) → DenotesState d w old state interp values inputs
      → DenoteValues w cur ids (map (value_of (env_of locals interp values inputs)) (take i es))
  pub made : AllZip (IsMade cur (terms_of d state lets)) (take i es) ids

pub gathers-none : (d : DesignView) (ports : List Sort) (old cur : List Node) (state : SymState) (locals : List LocalView) (lets : List ℕ) (sorts : List Sort) (es : List ExprView) → IsNamed d ports old cur state locals lets
    → Gathers d ports old cur state locals lets sorts es 0 []
gathers-none d ports old cur state locals lets sorts es h = record { named = h; sorted = tt; denotes = λ w interp values inputs k. tt; made = tt }

-- the expression of a place has the sort of its place
pub sort-there : (c : Context) (sorts : List Sort) (es : List ExprView) (i : ℕ) (e : ExprView) → AllZip (λ s t. HasSort c t s) sorts es → slice_get es i ≡ Some e → (s : Sort) × (slice_get sorts i ≡ Some s) × HasSort c e s
sort-there c [] [] i e h there = absurd (cc there)
sort-there c [] (t ∷ es) i e h there = absurd h
sort-there c (s ∷ sorts) [] i e h there = absurd h
sort-there c (s ∷ sorts) (t ∷ es) zero e h there = let same : t ≡ e = cc there in (s, refl, subst (λ x. HasSort c x s) same h.0)
sort-there c (s ∷ sorts) (t ∷ es) (suc i) e h there = sort-there c sorts es i e h.1 there

-- one term more
pub gathers-next : (d : DesignView) (ports : List Sort) (old cur new : List Node) (state : SymState) (locals : List LocalView) (lets : List ℕ) (sorts : List Sort) (es : List ExprView) (i : ℕ) (ids : List ℕ) (e : ExprView) (id : ℕ)
    → AllZip (λ s t. HasSort (named_context d ports locals) t s) sorts es → slice_get es i ≡ Some e
    → Gathers d ports old cur state locals lets sorts es i ids → GrowsWithin d cur new → DenotesExpr cur new (terms_of d state lets) e id → Gathers d ports old new state locals lets sorts es (i + 1) (ids ++ id ∷ [])
gathers-next d ports old cur new state locals lets sorts es i ids e id have there h g t =
    let found = sort-there (named_context d ports locals) sorts es i e have there in
    record {
      named = named-later d ports old cur new state locals lets g h.named;
      sorted =
          rw (take-next sorts i found.0 found.1)
          (AllZip-append (TermHasSort new) ids (take i sorts) id found.0 (HaveSorts-Extends cur new g.extends ids (take i sorts) h.sorted)
          (term-sort d ports old cur new state locals lets e found.0 id h.named found.2 t));
      denotes = λ w interp values inputs k.
          let f : ExprView → Value = value_of (env_of locals interp values inputs) in
          rw (take-next es i e there, map-push f (take i es) e)
          (AllZip-append (λ id v. denoted w new id ≡ denotes_value v) ids (map f (take i es)) id (f e)
          (Denote-Extends _ w cur new g.extends ids (map f (take i es)) (HaveSorts-inside cur ids (take i sorts) h.sorted) (h.denotes w interp values inputs k))
          (term-value d ports old cur new state locals lets e id h.named t w interp values inputs k));
      made =
          rw (take-next es i e there)
          (AllZip-append (IsMade new (terms_of d state lets)) (take i es) ids e id (each-Extends cur new g.extends (terms_of d state lets) (take i es) ids h.made) t.made);
    }

pub gathers-ready : (d : DesignView) (ports : List Sort) (old cur : List Node) (state : SymState) (locals : List LocalView) (lets : List ℕ) (sorts : List Sort) (es : List ExprView) (i : ℕ) (ids : List ℕ) (e : ExprView)
    → AllZip (λ s t. HasSort (named_context d ports locals) t s) sorts es → slice_get es i ≡ Some e
    → Gathers d ports old cur state locals lets sorts es i ids → (u : Sort) × HasSort (context_in cur (terms_of d state lets)) e u
gathers-ready d ports old cur state locals lets sorts es i ids e have there h =
    let found = sort-there (named_context d ports locals) sorts es i e have there in
    named-sort d ports old cur state locals lets e found.0 h.named found.2

-- all of them
pub record Gathered (d : DesignView) (old new : List Node) (state : SymState) (locals : List LocalView) (sorts : List Sort) (es : List ExprView) (ids : List ℕ) : Type 0 where
  pub sorted : HaveSorts new ids sorts
  pub denotes : (w : World) (interp : List Table) (values : List Value) (inputs : List Scalar) → DenotesState d w old state interp values inputs
      → DenoteValues w new ids (map (value_of (env_of locals interp values inputs)) es)
  pub made : AreMadeOver new d state locals es ids

pub gathers-all : (d : DesignView) (ports : List Sort) (old cur : List Node) (state : SymState) (locals : List LocalView) (lets : List ℕ) (sorts : List Sort) (es : List ExprView) (i : ℕ) (ids : List ℕ)
    → AllZip (λ s t. HasSort (named_context d ports locals) t s) sorts es → length es ≤ i → Gathers d ports old cur state locals lets sorts es i ids → Gathered d old cur state locals sorts es ids
gathers-all d ports old cur state locals lets sorts es i ids have past h =
    let same : length sorts ≡ length es = zip-length (λ s t. HasSort (named_context d ports locals) t s) sorts es have in
    record {
      sorted = subst (HaveSorts cur ids) (take_all i sorts (omega arith)) h.sorted;
      denotes = λ w interp values inputs k. subst (λ l. DenoteValues w cur ids (map (value_of (env_of locals interp values inputs)) l)) (take_all i es past) (h.denotes w interp values inputs k);
      made = record {
        lets = lets;
        first = h.named.let_terms.made;
        made = subst (λ l. AllZip (IsMade cur (terms_of d state lets)) l ids) (take_all i es past) h.made;
      };
    }

-- a state without its inputs
pub alone-stated : (d : DesignView) (nodes : List Node) (state alone : SymState) → KeepsDesign d nodes → StateHasSorts d.pipe nodes state → alone.entries ≡ state.entries → alone.inputs ≡ [] → IsStated d [] nodes alone
alone-stated d nodes state alone keeps sorted entries inputs = record {
  keeps = keeps;
  entries = subst (λ l. HaveSorts nodes l (entry_sorts d.pipe)) (sym entries) sorted.entries;
  inputs = subst (λ l. HaveSorts nodes l []) (sym inputs) tt;
}

pub alone-denotes : (d : DesignView) (w : World) (nodes : List Node) (state alone : SymState) (interp : List Table) (values : List Value) (scalars : List Scalar) → alone.entries ≡ state.entries → alone.inputs ≡ []
    → DenotesState d w nodes state interp values scalars → DenotesState d w nodes alone interp values []
alone-denotes d w nodes state alone interp values scalars entries inputs now = record {
  world = now.world;
  entries = subst (λ l. DenoteValues w nodes l values) (sym entries) now.entries;
  inputs = subst (λ l. AllZip (λ id x. denoted w nodes id ≡ denotes_value (value.Scalar x)) l []) (sym inputs) tt;
}

-- a state with its inputs
pub whole-stated : (d : DesignView) (nodes : List Node) (state : SymState) → KeepsDesign d nodes → StateHasSorts d.pipe nodes state → IsStated d (port_sorts d.pipe) nodes state
whole-stated d nodes state keeps sorted = record { keeps = keeps; entries = sorted.entries; inputs = sorted.inputs }
