-- Expressions that use no input have one value whatever the inputs are, so the inputs of a flush cycle fit.
use Rattle.std.proofs.Common.{◌≡◌, ◌≢◌, ℕ, zero, suc, Bool, false, List, [], ◌∷◌, ◌++◌, map, refl, ap, sym, ◌∙◌}
use Rattle.std.specs.Prelude.{◌||◌, slice_index_or}
use Rattle.std.specs.List.{AllByRecursion}
use Rattle.bd_list.specs.Grown.{grown}
use Rattle.bd_model.specs.ExprView.{ExprView, ExprViews, Truth, Entry, Input, Local, Not, And, Or, Implies, Iff, Equal, Ite, Read, Write, Apply, no_exprs, expr}
use Rattle.bd_model.specs.DesignView.{DesignView, LocalView, PortView}
use Rattle.bd_model.specs.Value.{Env, value_of, values_of, truth, scalar_of, let_value, env_of}
use Rattle.bd_model.specs.Cycle.{idle_inputs}
use Rattle.bd_model.specs.Fits.{scalar_sort, value_sort, InterpFits, StateFits, InputsFit, ScalarsFit}
use Rattle.bd_model.specs.Lawful.{uses_input, any_uses_input, input_flags, context_of, IsLawfulPort, IsLawful}
use Rattle.bd_model.specs.declared.table.Scalar.{Scalar}
use Rattle.bd_model.specs.declared.table.Scalar.TheVariants as scalar
use Rattle.bd_model.specs.declared.table.Table.{Table}
use Rattle.bd_model.specs.declared.table.Value.{Value}
use Rattle.bd_model.specs.declared.table.Value.TheVariants as value
use Rattle.bd_model.specs.declared.design.Sort.{Sort}
use Rattle.bd_model.specs.declared.design.Sort.TheVariants as sort
use Rattle.bd_model.proofs.SortLemmas.{EnvFits-env_of, value_sort-value_of}
use Rattle.bd_list.proofs.Truths.{neither}

-- values that are equal where no flag is set
abbrev pub AgreeUnless : List Bool → List Value → List Value → Type 0
AgreeUnless [] [] [] = Unit {0}
AgreeUnless (flag ∷ flags) (v ∷ vs) (w ∷ ws) = (flag ≡ false → v ≡ w) × AgreeUnless flags vs ws
AgreeUnless flags vs ws = ⊥

AgreeUnless-push : (flags : List Bool) (vs ws : List Value) (flag : Bool) (v w : Value) → AgreeUnless flags vs ws → (flag ≡ false → v ≡ w) → AgreeUnless (flags ++ flag ∷ []) (vs ++ v ∷ []) (ws ++ w ∷ [])
AgreeUnless-push [] [] [] flag v w h k = (k, tt)
AgreeUnless-push (f ∷ flags) (x ∷ vs) (y ∷ ws) flag v w h k = (h.0, AgreeUnless-push flags vs ws flag v w h.1 k)
AgreeUnless-push flags vs ws flag v w h k = absurd h

AgreeUnless-at : (flags : List Bool) (vs ws : List Value) (d : Value) → AgreeUnless flags vs ws → (i : ℕ) → slice_index_or flags i false ≡ false → slice_index_or vs i d ≡ slice_index_or ws i d
AgreeUnless-at [] [] [] d h i off = refl
AgreeUnless-at (f ∷ flags) (x ∷ vs) (y ∷ ws) d h zero off = h.0 off
AgreeUnless-at (f ∷ flags) (x ∷ vs) (y ∷ ws) d h (suc i) off = AgreeUnless-at flags vs ws d h.1 i off
AgreeUnless-at flags vs ws d h i off = absurd h

-- two environments that differ in the inputs, and in lets that use them
pub record SameButInputs (flags : List Bool) (e f : Env) : Type 0 where
  pub interp : e.interp ≡ f.interp
  pub state : e.state ≡ f.state
  pub locals : AgreeUnless flags e.locals f.locals

mutual
  pub value_of-no_input : (flags : List Bool) (e f : Env) → SameButInputs flags e f → (t : ExprView) → uses_input flags t ≡ false → value_of e t ≡ value_of f t
  value_of-no_input flags e f h (Truth b) off = refl
  value_of-no_input flags e f h (Entry i) off = rw h.state
  value_of-no_input flags e f h (Input i) off = absurd (cc off)
  value_of-no_input flags e f h (Local i) off = AgreeUnless-at flags e.locals f.locals (truth false) h.locals i off
  value_of-no_input flags e f h (Not t) off = rw (value_of-no_input flags e f h t off)
  value_of-no_input flags e f h (And ts) off = rw (values_of-no_input flags e f h ts off)
  value_of-no_input flags e f h (Or ts) off = rw (values_of-no_input flags e f h ts off)
  value_of-no_input flags e f h (Implies a b) off =
      let parts = neither _ _ off in rw (value_of-no_input flags e f h a parts.0, value_of-no_input flags e f h b parts.1)
  value_of-no_input flags e f h (Iff a b) off =
      let parts = neither _ _ off in rw (value_of-no_input flags e f h a parts.0, value_of-no_input flags e f h b parts.1)
  value_of-no_input flags e f h (Equal a b) off =
      let parts = neither _ _ off in rw (value_of-no_input flags e f h a parts.0, value_of-no_input flags e f h b parts.1)
  value_of-no_input flags e f h (Ite p a b) off =
      let parts = neither _ _ off in
      let front = neither _ _ parts.0 in
      rw (value_of-no_input flags e f h p front.0, value_of-no_input flags e f h a front.1, value_of-no_input flags e f h b parts.1)
  value_of-no_input flags e f h (Read m a) off =
      let parts = neither _ _ off in rw (value_of-no_input flags e f h m parts.0, value_of-no_input flags e f h a parts.1)
  value_of-no_input flags e f h (Write m a d) off =
      let parts = neither _ _ off in
      let front = neither _ _ parts.0 in
      rw (value_of-no_input flags e f h m front.0, value_of-no_input flags e f h a front.1, value_of-no_input flags e f h d parts.1)
  value_of-no_input flags e f h (Apply g ts) off = rw (values_of-no_input flags e f h ts off, h.interp)

  pub values_of-no_input : (flags : List Bool) (e f : Env) → SameButInputs flags e f → (ts : ExprViews) → any_uses_input flags ts ≡ false → values_of e ts ≡ values_of f ts
  values_of-no_input flags e f h no_exprs off = refl
  values_of-no_input flags e f h (expr t ts) off =
      let parts = neither _ _ off in rw (value_of-no_input flags e f h t parts.0, values_of-no_input flags e f h ts parts.1)

-- lets that use no input have one value
lets_agree : (interp : List Table) (state : List Value) (xs ys : List Scalar) (ls : List LocalView) (flags : List Bool) (vs ws : List Value) → AgreeUnless flags vs ws
    → AgreeUnless (grown (λ earlier (l : LocalView). uses_input earlier l.value) flags ls) (grown (let_value interp state xs) vs ls) (grown (let_value interp state ys) ws ls)
lets_agree interp state xs ys [] flags vs ws h = h
lets_agree interp state xs ys (l ∷ ls) flags vs ws h =
    lets_agree interp state xs ys ls _ _ _
    (AgreeUnless-push flags vs ws (uses_input flags l.value) _ _ h (λ off. value_of-no_input flags _ _ (record { interp = refl; state = refl; locals = h }) l.value off))

-- an expression of a machine that uses no input, also through lets, has one value whatever the inputs are
pub value_of-whatever_inputs : (locals : List LocalView) (interp : List Table) (state : List Value) (xs ys : List Scalar) (t : ExprView) → uses_input (input_flags locals) t ≡ false
    → value_of (env_of locals interp state xs) t ≡ value_of (env_of locals interp state ys) t
value_of-whatever_inputs locals interp state xs ys t off =
    value_of-no_input (input_flags locals) _ _ (record { interp = refl; state = refl; locals = lets_agree interp state xs ys locals [] [] [] tt }) t off

-- some scalar of a sort
some_scalar : Sort → Scalar
some_scalar sort.Bool = scalar.Bool false
some_scalar sort.Word = scalar.Word 0
some_scalar sort.Memory = scalar.Bool false

scalar_sort-some : (s : Sort) → s ≢ sort.Memory → scalar_sort (some_scalar s) ≡ s
unfolding some_scalar
scalar_sort-some sort.Bool h = refl
scalar_sort-some sort.Word h = refl
scalar_sort-some sort.Memory h = absurd (h refl)

scalar_sort-scalar_of : (v : Value) (s : Sort) → value_sort v ≡ s → s ≢ sort.Memory → scalar_sort (scalar_of v) ≡ s
scalar_sort-scalar_of (value.Scalar x) s h k = h
scalar_sort-scalar_of (value.Memory m) s h k = absurd (k (sym h))

-- inputs of each port's sort
some_inputs_fit : (d : DesignView) (ports : List PortView) → AllByRecursion (IsLawfulPort d) ports → ScalarsFit ports (map (λ (p : PortView). some_scalar p.sort) ports)
some_inputs_fit d [] h = tt
some_inputs_fit d (p ∷ ports) h = (scalar_sort-some p.sort h.0.sort, some_inputs_fit d ports h.1)

idle_values_fit : (d : DesignView) (interp : List Table) (state : List Value) → IsLawful d → InterpFits d interp → StateFits d state → (ports : List PortView) → AllByRecursion (IsLawfulPort d) ports
    → ScalarsFit ports (map (λ (p : PortView). scalar_of (value_of (env_of d.pipe.locals interp state []) p.idle)) ports)
idle_values_fit d interp state lawful fits h [] k = tt
idle_values_fit d interp state lawful fits h (p ∷ ports) k =
    let inputs = map (λ (q : PortView). some_scalar q.sort) d.pipe.ports in
    let env = EnvFits-env_of d d.pipe interp state inputs lawful.pipe fits h (some_inputs_fit d d.pipe.ports lawful.ports) in
    let one = value_of-whatever_inputs d.pipe.locals interp state [] inputs p.idle k.0.no_input in (
      scalar_sort-scalar_of _ p.sort (one_sort _ _ _ one (value_sort-value_of (context_of d d.pipe) _ env p.idle p.sort k.0.idle)) k.0.sort,
      idle_values_fit d interp state lawful fits h ports k.1,
    ) where
      one_sort : (v w : Value) (s : Sort) → v ≡ w → value_sort w ≡ s → value_sort v ≡ s
      one_sort v w s e q = ap value_sort e ∙ q

-- the inputs of a flush cycle fit
pub InputsFit-idle_inputs : (d : DesignView) (interp : List Table) (state : List Value) → IsLawful d → InterpFits d interp → StateFits d state → InputsFit d (idle_inputs d.pipe interp state)
InputsFit-idle_inputs d interp state lawful fits h = idle_values_fit d interp state lawful fits h d.pipe.ports lawful.ports
