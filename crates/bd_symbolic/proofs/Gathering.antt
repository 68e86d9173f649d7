-- Terms of lets and of lists of expressions, one by one.
use Rattle.std.proofs.Common.{◌≡◌, ℕ, suc, ◌+◌, ◌<◌, ◌≤◌, ◌++◌, List, [], ◌∷◌, map, drop, get_or, length, refl, ap, sym, ◌∙◌, subst, add-one, drop-cons, append-nil, append_assoc}
use Rattle.std.specs.List.{AllZip, AllByRecursion}
use Rattle.std.proofs.lemmas.List.{drop_all}
use Rattle.bd_list.specs.Grown.{grown}
use Rattle.bd_model.specs.ExprView.{ExprView}
use Rattle.bd_model.specs.DesignView.{DesignView, LocalView}
use Rattle.bd_model.specs.Value.{Env, value_of, let_value, let_values}
use Rattle.bd_model.specs.Lawful.{HasSort, LetsHaveSorts}
use Rattle.bd_model.specs.declared.design.Sort.{Sort}
use Rattle.bd_model.specs.declared.table.Scalar.{Scalar}
use Rattle.bd_model.specs.declared.table.Table.{Table}
use Rattle.bd_model.specs.declared.table.Value.{Value}
use Rattle.bd_model.specs.declared.table.Value.TheVariants as value
use Rattle.bd_model.proofs.Pairs.{AllZip-append}
use Rattle.bd_terms.specs.declared.node.Node.{Node}
use Rattle.bd_terms.specs.Graph.{Extends, sort_at}
use Rattle.bd_terms.specs.Graph.{HasSort as TermHasSort}
use Rattle.bd_terms.specs.Denotation.{World, denoted}
use Rattle.bd_symbolic.specs.World.{denotes_value}
use Rattle.bd_symbolic.specs.DesignSymbols.{GrowsWithin}
use Rattle.bd_terms.proofs.Growth.{Extends-self, Extends-trans}
use Rattle.bd_symbolic.specs.Made.{AreLets, IsMade}
use Rattle.bd_symbolic.specs.Symbolic.{Terms, HaveSorts, AreInside, AreTerms, DenoteEnv, DenoteValues, DenotesExpr, context_in, terms_of}
use Rattle.bd_symbolic.specs.States.{DenotesState, DenoteLets, local_sorts}
use Rattle.bd_symbolic.specs.inner.Evaluates.{DenoteExprs, HasSomeSort}
use Rattle.bd_symbolic.specs.declared.state.SymState.{SymState}
use Rattle.bd_symbolic.proofs.Growing.{Grows-self, Grows-trans, KeepsDesign-Grows, AreInside-Extends, sorts-Extends, context_in-Grows, Denote-Extends}
use Rattle.bd_symbolic.proofs.Making.{made-Extends}
use Rattle.bd_symbolic.proofs.Denoting.{Denotes-later, Denotes-earlier}
use Rattle.bd_symbolic.proofs.States.{HaveSorts-given}

-- the items that are left, one by one, as they are seen
pub map-front : {A B : Type 0} (f : A → B) (items : List A) (i : ℕ) (x : A) → i < length items → x ≡ get_or items i x → map f (drop i items) ≡ f x ∷ map f (drop (i + 1) items)
map-front f items i x within is = ap (map f) (front items i x within is) where
  front : {A : Type 0} (items : List A) (i : ℕ) (x : A) → i < length items → x ≡ get_or items i x → drop i items ≡ x ∷ drop (i + 1) items
  front items i x within is = rw (add-one, drop-cons items i x) (ap (λ y. y ∷ drop (suc i) items) (sym is))

pub map-none : {A B : Type 0} (f : A → B) (items : List A) (i : ℕ) → length items ≤ i → map f (drop i items) ≡ []
map-none f items i past = ap (map f) (drop_all i items past)

inside_push : (nodes : List Node) (ids : List ℕ) (id : ℕ) → AreInside nodes ids → id < length nodes → AreInside nodes (ids ++ id ∷ [])
inside_push nodes [] id h k = (k, tt)
inside_push nodes (x ∷ ids) id h k = (h.0, inside_push nodes ids id h.1 k)

sorts_push : (nodes : List Node) (ids : List ℕ) (id : ℕ) (s : Sort) → sort_at nodes id ≡ s → map (sort_at nodes) (ids ++ id ∷ []) ≡ map (sort_at nodes) ids ++ s ∷ []
sorts_push nodes [] id s h = ap (λ x. x ∷ []) h
sorts_push nodes (x ∷ ids) id s h = ap (λ xs. sort_at nodes x ∷ xs) (sorts_push nodes ids id s h)

-- the lets so far have their terms, and the rest is to come
pub record LetsDone (d : DesignView) (old new : List Node) (state : SymState) (locals rest : List LocalView) (lets : List ℕ) : Type 0 where
  pub grows : GrowsWithin d old new
  pub inside : AreInside new lets
  pub sorts : map (sort_at new) lets ++ local_sorts rest ≡ local_sorts locals
  pub left : LetsHaveSorts (context_in new (terms_of d state lets)) rest
  pub denotes : (w : World) (interp : List Table) (values : List Value) (inputs : List Scalar) → DenotesState d w old state interp values inputs
      → (done : List Value) × DenoteValues w new lets done × (grown (let_value interp values inputs) done rest ≡ let_values interp values inputs locals)
  pub made : (later : List Node) (ids : List ℕ) → Extends new later → AreLets later d state lets rest ids → AreLets later d state [] locals ids

pub lets_init : (d : DesignView) (old : List Node) (state : SymState) (locals : List LocalView) → LetsHaveSorts (context_in old (terms_of d state [])) locals → LetsDone d old old state locals locals []
lets_init d old state locals h = record {
  grows = Grows-self d old;
  inside = tt;
  sorts = refl;
  left = h;
  denotes = λ w interp values inputs k. ([], tt, refl);
  made = λ later ids more j. j;
}

-- the terms that the next let stands over
pub lets_terms : (d : DesignView) (old new : List Node) (state : SymState) (locals rest : List LocalView) (lets : List ℕ) → AreTerms old (terms_of d state []) → LetsDone d old new state locals rest lets → AreTerms new (terms_of d state lets)
lets_terms d old new state locals rest lets k h = record {
  keeps = KeepsDesign-Grows d old new h.grows k.keeps;
  entries = AreInside-Extends old new h.grows.extends state.entries k.entries;
  inputs = AreInside-Extends old new h.grows.extends state.inputs k.inputs;
  lets = h.inside;
}

-- one let more
pub lets_step : (d : DesignView) (old mid next : List Node) (state : SymState) (locals : List LocalView) (l : LocalView) (rest : List LocalView) (lets : List ℕ) (id : ℕ) → AreTerms old (terms_of d state [])
    → LetsDone d old mid state locals (l ∷ rest) lets → GrowsWithin d mid next → DenotesExpr mid next (terms_of d state lets) l.value id → LetsDone d old next state locals rest (lets ++ id ∷ [])
lets_step d old mid next state locals l rest lets id k h g e =
    let terms : AreTerms mid (terms_of d state lets) = lets_terms d old mid state locals (l ∷ rest) lets k h in
    let sorted : TermHasSort next id l.sort = e.sorted l.sort h.left.0 in
    let entries : map (sort_at next) state.entries ≡ map (sort_at mid) state.entries = sorts-Extends mid next g.extends state.entries terms.entries in
    let inputs : map (sort_at next) state.inputs ≡ map (sort_at mid) state.inputs = sorts-Extends mid next g.extends state.inputs terms.inputs in
    let same : map (sort_at next) lets ≡ map (sort_at mid) lets = sorts-Extends mid next g.extends lets h.inside in
    let pushed : map (sort_at next) (lets ++ id ∷ []) ≡ map (sort_at mid) lets ++ l.sort ∷ [] = sorts_push next lets id l.sort sorted.sorted ∙ ap (λ xs. xs ++ l.sort ∷ []) same in
    let context : context_in next (terms_of d state (lets ++ id ∷ [])) ≡ record (context_in mid (terms_of d state lets)) { locals = map (sort_at mid) lets ++ l.sort ∷ [] } = cc in
    record {
      grows = Grows-trans d old mid next h.grows g;
      inside = inside_push next lets id (AreInside-Extends mid next g.extends lets h.inside) e.inside;
      sorts = ap (λ xs. xs ++ local_sorts rest) pushed ∙ append_assoc (map (sort_at mid) lets) (l.sort ∷ []) (local_sorts rest) ∙ h.sorts;
      left = subst (λ c. LetsHaveSorts c rest) (sym context) h.left.1;
      denotes = λ w interp values inputs p.
          let one = h.denotes w interp values inputs p in
          let env : Env = record { interp = interp; state = values; inputs = inputs; locals = one.0 } in
          let here : DenoteEnv w mid (terms_of d state lets) env = record {
            world = p.world;
            state = Denote-Extends denotes_value w old mid h.grows.extends state.entries values k.entries p.entries;
            inputs = Denote-Extends (λ x. denotes_value (value.Scalar x)) w old mid h.grows.extends state.inputs inputs k.inputs p.inputs;
            locals = one.1;
          } in (
            one.0 ++ let_value interp values inputs one.0 l ∷ [],
            AllZip-append (λ x v. denoted w next x ≡ denotes_value v) lets one.0 id (value_of env l.value)
                (Denote-Extends denotes_value w mid next g.extends lets one.0 h.inside one.1) (e.denotes w env here),
            one.2,
          );
      made = λ later ids more j.
          h.made later ids (Extends-trans mid next later g.extends more) (id, made-Extends next later more (terms_of d state lets) l.value id e.made, j);
    }

pub lets_done : (d : DesignView) (old new : List Node) (state : SymState) (locals : List LocalView) (lets : List ℕ) → LetsDone d old new state locals [] lets → DenoteLets d old new state locals lets
lets_done d old new state locals lets h = record {
  sorted = subst (HaveSorts new lets) (sym (append-nil (map (sort_at new) lets)) ∙ h.sorts) (HaveSorts-given new lets h.inside);
  denotes = λ w interp values inputs k. let one = h.denotes w interp values inputs k in subst (DenoteValues w new lets) one.2 one.1;
  made = h.made new lets (Extends-self new) refl;
}

-- the expressions so far have their terms, and the rest is to come
pub record ExprsDone (old new : List Node) (t : Terms) (es rest : List ExprView) (ids : List ℕ) : Type 0 where
  pub grows : GrowsWithin t.design old new
  pub left : AllByRecursion (HasSomeSort (context_in old t)) rest
  pub done : List ExprView
  pub whole : done ++ rest ≡ es
  pub terms : DenoteExprs old new t done ids

pub exprs_init : (old : List Node) (t : Terms) (es : List ExprView) → AllByRecursion (HasSomeSort (context_in old t)) es → ExprsDone old old t es es []
exprs_init old t es h = record { grows = Grows-self t.design old; left = h; done = []; whole = refl; terms = tt }

Denote-later : (t : Terms) (old mid new : List Node) → GrowsWithin t.design mid new → (es : List ExprView) (ids : List ℕ) → DenoteExprs old mid t es ids → DenoteExprs old new t es ids
Denote-later t old mid new g [] [] h = tt
Denote-later t old mid new g [] (id ∷ ids) h = absurd h
Denote-later t old mid new g (e ∷ es) [] h = absurd h
Denote-later t old mid new g (e ∷ es) (id ∷ ids) h = (Denotes-later t e id old mid new g h.0, Denote-later t old mid new g es ids h.1)

pub exprs_sort : (old mid : List Node) (t : Terms) (es : List ExprView) (e : ExprView) (rest : List ExprView) (ids : List ℕ) → AreTerms old t → ExprsDone old mid t es (e ∷ rest) ids → HasSomeSort (context_in mid t) e
exprs_sort old mid t es e rest ids k h = (h.left.0.0, subst (λ c. HasSort c e h.left.0.0) (sym (context_in-Grows t old mid h.grows k)) h.left.0.1)

-- one expression more
pub exprs_step : (old mid next : List Node) (t : Terms) (es : List ExprView) (e : ExprView) (rest : List ExprView) (ids : List ℕ) (id : ℕ) → AreTerms old t
    → ExprsDone old mid t es (e ∷ rest) ids → GrowsWithin t.design mid next → DenotesExpr mid next t e id → ExprsDone old next t es rest (ids ++ id ∷ [])
exprs_step old mid next t es e rest ids id k h g x = record {
  grows = Grows-trans t.design old mid next h.grows g;
  left = h.left.1;
  done = h.done ++ e ∷ [];
  whole = append_assoc h.done (e ∷ []) rest ∙ h.whole;
  terms = AllZip-append (DenotesExpr old next t) h.done ids e id (Denote-later t old mid next g h.done ids h.terms) (Denotes-earlier t e id old mid next h.grows k x);
}

pub exprs_done : (old new : List Node) (t : Terms) (es : List ExprView) (ids : List ℕ) → ExprsDone old new t es [] ids → DenoteExprs old new t es ids
exprs_done old new t es ids h = subst (λ xs. DenoteExprs old new t xs ids) (sym (append-nil h.done) ∙ h.whole) h.terms

-- the terms have the sorts of the expressions
pub exprs_sorted : (old new : List Node) (t : Terms) (es : List ExprView) (ids : List ℕ) (sorts : List Sort) → DenoteExprs old new t es ids → AllZip (λ s e. HasSort (context_in old t) e s) sorts es → HaveSorts new ids sorts
exprs_sorted old new t [] [] [] h k = tt
exprs_sorted old new t [] [] (s ∷ sorts) h k = absurd k
exprs_sorted old new t [] (id ∷ ids) sorts h k = absurd h
exprs_sorted old new t (e ∷ es) [] sorts h k = absurd h
exprs_sorted old new t (e ∷ es) (id ∷ ids) [] h k = absurd k
exprs_sorted old new t (e ∷ es) (id ∷ ids) (s ∷ sorts) h k = (h.0.sorted s k.0, exprs_sorted old new t es ids sorts h.1 k.1)

-- and denote their values
pub exprs_values : (old new : List Node) (t : Terms) (w : World) (env : Env) (es : List ExprView) (ids : List ℕ) → DenoteEnv w old t env → DenoteExprs old new t es ids → DenoteValues w new ids (map (value_of env) es)
exprs_values old new t w env [] [] k h = tt
exprs_values old new t w env [] (id ∷ ids) k h = absurd h
exprs_values old new t w env (e ∷ es) [] k h = absurd h
exprs_values old new t w env (e ∷ es) (id ∷ ids) k h = (h.0.denotes w env k, exprs_values old new t w env es ids k h.1)

-- and were made of them
pub exprs_made : (old new : List Node) (t : Terms) (es : List ExprView) (ids : List ℕ) → DenoteExprs old new t es ids → AllZip (IsMade new t) es ids
exprs_made old new t [] [] h = tt
exprs_made old new t [] (id ∷ ids) h = absurd h
exprs_made old new t (e ∷ es) [] h = absurd h
exprs_made old new t (e ∷ es) (id ∷ ids) h = (h.0.made, exprs_made old new t es ids h.1)
