-- For which numbers of steps the cycle stands.
use Rattle.std.proofs.Common.{◌≡◌, ◌≢◌, ℕ, suc, ◌+◌, ◌≤◌, ◌<◌, ◌⊎◌, inl, inr, Bool, true, false, ◌&&◌, ◌||◌, ◌==◌, not, List, [], ◌∷◌, drop, length, map, refl, ap, sym, ◌∙◌, subst, arith, eqb-true, eq-eqb, true≢false}
use Rattle.std.specs.Prelude.{◌↔◌, ◌*◌, IsTrue, IfOk, Result, Ok, Err, Some, slice_get, slice_index_or}
use Rattle.std.specs.declared.alloc.AllocError.{AllocError}
use Rattle.std.specs.List.{AllByRecursion, AllZip}
use Rattle.std.proofs.Math.Path.{fun_ext}
use Rattle.std.proofs.lemmas.List.{drop_all}
use Rattle.std.proofs.lemmas.Result.{IfOk-weaker}
use Rattle.std.proofs.lemmas.Nat.{mul-add-lt}
use Rattle.bd_model.specs.DesignView.{DesignView, ExactView}
use Rattle.bd_model.specs.Value.{Env, value_of, env_of, is_true}
use Rattle.bd_model.specs.Cycle.{step, spec_steps}
use Rattle.bd_model.specs.Lawful.{entry_sorts}
use Rattle.bd_model.specs.Conditions.{AllowsCount, IsAllowed}
use Rattle.bd_model.specs.declared.design.Sort.TheVariants as sort
use Rattle.bd_model.specs.declared.table.Scalar.{Scalar}
use Rattle.bd_model.specs.declared.table.Table.{Table}
use Rattle.bd_model.specs.declared.table.Value.{Value}
use Rattle.bd_terms.specs.declared.node.Node.{Node}
use Rattle.bd_terms.specs.declared.node.Node.TheVariants as node
use Rattle.bd_terms.specs.declared.node.Sym.TheVariants as symbol
use Rattle.bd_terms.specs.Graph.{AddsUses, Extends}
use Rattle.bd_terms.specs.Denotation.{World, Denotes, Truth, applied, truth, truth_of}
use Rattle.bd_terms.proofs.Growth.{AddsUses-trans, Extends-self, Extends-trans, HasSort-Extends}
use Rattle.bd_symbolic.specs.DesignSymbols.{GrowsWithin}
use Rattle.bd_symbolic.specs.States.{DenotesSpecStep, DenotesState, DenotesStep, StateHasSorts}
use Rattle.bd_symbolic.specs.Symbolic.{DenoteScalars, DenoteValues, HaveSorts}
use Rattle.bd_symbolic.specs.declared.state.SymState.{SymState}
use Rattle.bd_symbolic.proofs.Growing.{Denote-Extends}
use Rattle.bd_goal.specs.Symbols.{GrowsKnown}
use Rattle.bd_goal.specs.Formula.{EqualAt, EqualFrom, address_count, address_number, memory_count}
use Rattle.bd_symbolic.specs.Made.{AreMadeOver, Called}
use Rattle.bd_symbolic.proofs.Making.{called-Extends, over-Extends}
use Rattle.bd_goal.specs.Made.{AllowFrom, AreEqual, IsAllowance, IsCommuting, IsStanding, IsUnless, StandsFrom}
use Rattle.bd_goal.proofs.Making.{allowance-Extends, equal-Extends, item-is, standing-Extends, unless-Extends}
use Rattle.bd_goal.specs.inner.Shown.{AreConditions, DenoteConditions, EqualIn, IsVisible, Says, StandsIn, StandsUpTo}
use Rattle.bd_goal.proofs.Equalling.{AreBelow}
use Rattle.bd_goal.proofs.Known.{Known-none, Known-trans, Known-within}
use Rattle.bd_goal.proofs.Showing.{IsVisible-later, Says-and, Says-later, Says-or, Says-same, values-later}
use Rattle.bd_goal.proofs.Lists.{drop-there, zip-there}
use Rattle.bd_terms.proofs.Places.{AllByRecursion-get}
use Rattle.bd_terms.specs.Graph.{HasSort as TermHasSort}
use Rattle.bd_symbolic.proofs.Arms.{truth-Extends}
use Rattle.bd_symbolic.proofs.States.{HaveSorts-inside}

-- where the names stand before the cycle
abbrev env_before : DesignView → List Table → List Value → List Scalar → Env
env_before d interp values inputs = env_of d.pipe.locals interp values inputs

-- the first i exact items allow the count where the term is true, and the rest is to come
pub record Allows (d : DesignView) (old cur : List Node) (whens : List ℕ) (j i all : ℕ) : Type 0 where
  pub extends : Extends old cur
  pub uses : AddsUses old cur []
  pub sorted : TermHasSort cur all sort.Bool
  pub says : (w : World) (interp : List Table) (values : List Value) (inputs : List Scalar) → DenoteConditions d w old whens interp values inputs
      → (IsTrue (truth w cur all) × AllByRecursion (AllowsCount (env_before d interp values inputs) j) (drop i d.exact)) ↔ AllByRecursion (AllowsCount (env_before d interp values inputs) j) d.exact
  pub made : (later : List Node) (id : ℕ) → Extends cur later → AllowFrom later j whens i all (drop i d.exact) id → IsAllowance later d whens j id

pub allows-none : (d : DesignView) (old cur : List Node) (whens : List ℕ) (j all : ℕ) → Extends old cur → AddsUses old cur [] → TermHasSort cur all sort.Bool → Denotes cur all (λ w. Truth true) → Called cur node.True all → Allows d old cur whens j 0 all
allows-none d old cur whens j all e u s is c = record {
  extends = e;
  uses = u;
  sorted = s;
  says = λ w interp values inputs denote. (λ h. h.1, λ h. (ap truth_of (is.is w), h));
  made = λ later id more k. (all, called-Extends cur later more node.True all c, k);
}

-- an item of this count, or one whose condition is false
one-allows : (count j : ℕ) (is_free when : Bool) → IsTrue is_free ↔ (count ≡ j) → IsTrue (is_free || not when) ↔ (IsTrue when → count ≡ j)
one-allows count j true when h = (λ t w. h.0 refl, λ f. refl)
one-allows count j false true h = (λ t w. absurd (true≢false (sym t)), λ f. absurd (true≢false (sym (h.1 (f refl)))))
one-allows count j false false h = (λ t w. absurd (true≢false (sym w)), λ f. refl)

allows-joined : (p q r : Bool) (One Rest Front Whole : Type 0) → r ≡ (p && q) → IsTrue q ↔ One → Front ≡ (One × Rest) → (IsTrue p × Front) ↔ Whole → (IsTrue r × Rest) ↔ Whole
allows-joined p q r One Rest Front Whole e one same whole = by_first p refl where
  by_first : (b : Bool) → p ≡ b → (IsTrue r × Rest) ↔ Whole
  by_first true f = (
    λ h. whole.0 (f, subst (λ T. T) (sym same) (one.0 (sym (e ∙ ap (λ k. k && q) f) ∙ h.0), h.1)),
    λ h. let k = subst (λ T. T) same (whole.1 h).1 in (e ∙ ap (λ k. k && q) f ∙ one.1 k.0, k.1),
  )
  by_first false f = (
    λ h. absurd (true≢false (sym h.0 ∙ e ∙ ap (λ k. k && q) f)),
    λ h. absurd (true≢false (sym (whole.1 h).0 ∙ f)),
  )

pub condition-sorted : (d : DesignView) (old : List Node) (whens : List ℕ) → AreConditions d old whens → (i when : ℕ) → slice_get whens i ≡ Some when → TermHasSort old when sort.Bool
condition-sorted d old whens h i when there = AllByRecursion-get (λ k. TermHasSort old k sort.Bool) whens i when h.sorted there

pub allows-next : (d : DesignView) (old cur mid new : List Node) (whens : List ℕ) (j i all when one id : ℕ) (is_free : Bool) (x : ExactView) → AreConditions d old whens → slice_get d.exact i ≡ Some x → slice_get whens i ≡ Some when
    → IsTrue is_free ↔ (x.count ≡ j) → Allows d old cur whens j i all
    → Extends cur mid → AddsUses cur mid [] → Denotes mid one (λ w. Truth (is_free || not (truth w cur when)))
    → Extends mid new → AddsUses mid new [] → TermHasSort new id sort.Bool → Denotes new id (λ w. Truth (truth w mid all && truth w mid one))
    → is_free ≡ (x.count == j) → IsUnless mid is_free when one → Called new (node.And all one) id
    → Allows d old new whens j (i + 1) id
allows-next d old cur mid new whens j i all when one id is_free x known there at free h e u denied e' u' s is same c1 c2 = record {
  extends = Extends-trans old mid new (Extends-trans old cur mid h.extends e) e';
  uses = AddsUses-trans old mid new [] (AddsUses-trans old cur mid [] h.uses u) u';
  sorted = s;
  says = λ w interp values inputs denote.
      let env : Env = env_before d interp values inputs in
      let found = zip-there _ whens d.exact i when denote at in
      let same_item : found.0 ≡ x = cc (found.1, there) in
      let meant : truth w cur when ≡ is_true (value_of env x.when) =
      truth-Extends w old cur h.extends when sort.Bool (condition-sorted d old whens known i when at) ∙ found.2 ∙ ap (λ (y : ExactView). is_true (value_of env y.when)) same_item in
      let free_or : truth w mid one ≡ (is_free || not (is_true (value_of env x.when))) = ap truth_of (denied.is w) ∙ ap (λ k. is_free || not k) meant in
      let kept : truth w mid all ≡ truth w cur all = truth-Extends w cur mid e all sort.Bool h.sorted in
      let both : truth w new id ≡ (truth w cur all && (is_free || not (is_true (value_of env x.when)))) =
      ap truth_of (is.is w) ∙ ap (λ k. k && truth w mid one) kept ∙ ap (λ k. truth w cur all && k) free_or in
      allows-joined (truth w cur all) (is_free || not (is_true (value_of env x.when))) (truth w new id)
      (AllowsCount env j x) (AllByRecursion (AllowsCount env j) (drop (i + 1) d.exact)) (AllByRecursion (AllowsCount env j) (drop i d.exact)) (AllByRecursion (AllowsCount env j) d.exact)
      both (one-allows x.count j is_free (is_true (value_of env x.when)) free) (ap (λ l. AllByRecursion (AllowsCount env j) l) (drop-there d.exact i x there)) (h.says w interp values inputs denote);
  made = λ later k more r.
      let from : Extends mid later = Extends-trans mid new later e' more in
      let placed : IsUnless later (x.count == j) (slice_index_or whens i 0) one =
      subst (λ b. IsUnless later b (slice_index_or whens i 0) one) same (subst (λ a. IsUnless later is_free a one) (item-is whens i when at) (unless-Extends mid later from is_free when one c1)) in
      h.made later k (Extends-trans cur mid later e from)
      (subst (λ l. AllowFrom later j whens i all l k) (sym (drop-there d.exact i x there)) (one, id, placed, called-Extends new later more (node.And all one) id c2, r));
}

pub allows-all : (d : DesignView) (old cur : List Node) (whens : List ℕ) (j i all : ℕ) → length d.exact ≤ i → Allows d old cur whens j i all
    → (w : World) (interp : List Table) (values : List Value) (inputs : List Scalar) → DenoteConditions d w old whens interp values inputs → Says w cur all (IsAllowed d interp values inputs j)
allows-all d old cur whens j i all past h w interp values inputs denote =
    let both = h.says w interp values inputs denote in
    (λ t. both.0 (t, subst (λ l. AllByRecursion (AllowsCount (env_before d interp values inputs) j) l) (sym (drop_all i d.exact past)) tt), λ k. (both.1 k).0)

-- after the last item the calls are those for what is allowed
pub allows-made : (d : DesignView) (old cur : List Node) (whens : List ℕ) (j i all : ℕ) → length d.exact ≤ i → Allows d old cur whens j i all → IsAllowance cur d whens j all
allows-made d old cur whens j i all past h = h.made cur all (Extends-self cur) (subst (λ l. AllowFrom cur j whens i all l all) (sym (drop_all i d.exact past)) refl)

conditions-later_all : (old new : List Node) → Extends old new → (whens : List ℕ) → AllByRecursion (λ id. TermHasSort old id sort.Bool) whens → AllByRecursion (λ id. TermHasSort new id sort.Bool) whens
conditions-later_all old new e [] h = tt
conditions-later_all old new e (id ∷ whens) h = (HasSort-Extends old new e id sort.Bool h.0, conditions-later_all old new e whens h.1)

conditions-later_shows : (w : World) (env : Env) (old new : List Node) → Extends old new → (whens : List ℕ) (exact : List ExactView) → AllByRecursion (λ id. TermHasSort old id sort.Bool) whens
    → AllZip (λ id (x : ExactView). truth w old id ≡ is_true (value_of env x.when)) whens exact → AllZip (λ id (x : ExactView). truth w new id ≡ is_true (value_of env x.when)) whens exact
conditions-later_shows w env old new e [] [] h k = tt
conditions-later_shows w env old new e [] (x ∷ exact) h k = absurd k
conditions-later_shows w env old new e (id ∷ whens) [] h k = absurd k
conditions-later_shows w env old new e (id ∷ whens) (x ∷ exact) h k = (truth-Extends w old new e id sort.Bool h.0 ∙ k.0, conditions-later_shows w env old new e whens exact h.1 k.1)

pub conditions-later : (d : DesignView) (old new : List Node) → Extends old new → (whens : List ℕ) → AreConditions d old whens → AreConditions d new whens
conditions-later d old new e whens h = record { count = h.count; sorted = conditions-later_all old new e whens h.sorted }

pub DenoteConditions-later : (d : DesignView) (w : World) (old new : List Node) → Extends old new → (whens : List ℕ) (interp : List Table) (values : List Value) (inputs : List Scalar) → AreConditions d old whens
    → DenoteConditions d w old whens interp values inputs → DenoteConditions d w new whens interp values inputs
DenoteConditions-later d w old new e whens interp values inputs h k = conditions-later_shows w (env_before d interp values inputs) old new e whens d.exact h.sorted k

-- what the terms denote where the cycle stands for some number of steps up to i exactly if the term is true
pub record CommutesSoFar (d : DesignView) (w : World) (cur : List Node) (whens : List ℕ) (after joined : SymState) (first i any : ℕ)
    (interp : List Table) (values : List Value) (inputs : List Scalar) (a b : List Value) : Type 0 where
  pub conditions : DenoteConditions d w cur whens interp values inputs
  pub after_values : DenoteValues w cur after.entries b
  pub joined_values : DenoteValues w cur joined.entries (spec_steps i d interp a)
  pub says : Says w cur any (StandsUpTo d w interp values inputs first a b i)

-- the loop over the numbers of steps, after i of them, where the terms of a state and of two visible states stood in the
-- graph before it
pub record Commuting (d : DesignView) (old cur : List Node) (state : SymState) (whens : List ℕ) (before after joined : SymState) (first i any : ℕ) : Type 0 where
  pub grows : GrowsKnown d (first + address_count d) old cur
  pub sorted : TermHasSort cur any sort.Bool
  pub conditions : AreConditions d cur whens
  pub after_sorted : IsVisible d cur after
  pub joined_sorted : IsVisible d cur joined
  pub so_far : (w : World) (interp : List Table) (values : List Value) (inputs : List Scalar) (a b : List Value)
      → DenotesState d w old state interp values inputs → DenoteValues w old before.entries a → DenoteValues w old after.entries b
      → CommutesSoFar d w cur whens after joined first i any interp values inputs a b
  pub made : (later : List Node) (left id : ℕ) → Extends cur later → i + left ≡ d.steps → StandsFrom later d whens after.entries first i joined any left id → IsCommuting later d state before after.entries first id

-- what the term of one number of steps says
abbrev pub SaysStands : DesignView → List Node → List Node → List ℕ → List ℕ → List ℕ → ℕ → ℕ → ℕ → Type 0
SaysStands d old new whens after joined first j id =
    (w : World) (interp : List Table) (values : List Value) (inputs : List Scalar) (b c : List Value)
    → DenoteConditions d w old whens interp values inputs → DenoteValues w old after b → DenoteValues w old joined c
    → Says w new id (IsAllowed d interp values inputs j × EqualIn w (λ m. first + address_number d m j) b c)

-- no steps
pub commuting-none : (d : DesignView) (g0 g1 g2 : List Node) (state : SymState) (whens : List ℕ) (before after : SymState) (first any : ℕ) → GrowsWithin d g0 g1 → AreConditions d g1 whens
    → ((w : World) (interp : List Table) (values : List Value) (inputs : List Scalar) → DenotesState d w g0 state interp values inputs → DenoteConditions d w g1 whens interp values inputs)
    → IsVisible d g0 after → IsVisible d g0 before → GrowsKnown d (first + address_count d) g1 g2
    → TermHasSort g2 any sort.Bool → SaysStands d g1 g2 whens after.entries before.entries first 0 any
    → AreMadeOver g1 d state d.pipe.locals (map (λ (x : ExactView). x.when) d.exact) whens → IsStanding g2 d whens after.entries before.entries first 0 any → Commuting d g0 g2 state whens before after before first 0 any
commuting-none d g0 g1 g2 state whens before after first any f conditions denote vb vj g s says over stands =
    let whole = Known-trans d (first + address_count d) g0 g1 g2 (Known-within d (first + address_count d) g0 g1 f) g in
    record {
      grows = whole;
      sorted = s;
      conditions = conditions-later d g1 g2 g.extends whens conditions;
      after_sorted = IsVisible-later d g0 g2 whole.extends after vb;
      joined_sorted = IsVisible-later d g0 g2 whole.extends before vj;
      so_far = λ w interp values inputs a b hs ha hb.
          let hc = denote w interp values inputs hs in
          record {
            conditions = DenoteConditions-later d w g1 g2 g.extends whens interp values inputs conditions hc;
            after_values = values-later w g0 g2 whole.extends after.entries (entry_sorts d.spec) b vb.sorted hb;
            joined_values = values-later w g0 g2 whole.extends before.entries (entry_sorts d.spec) a vj.sorted ha;
            says = Says-same w g2 any (StandsIn d w interp values inputs first a b 0) (StandsUpTo d w interp values inputs first a b 0)
                (λ h. (0, omega arith, h), λ h. subst (StandsIn d w interp values inputs first a b) (nothing h.0 h.1) h.2)
                (says w interp values inputs b a hc (values-later w g0 g1 f.extends after.entries (entry_sorts d.spec) b vb.sorted hb) (values-later w g0 g1 f.extends before.entries (entry_sorts d.spec) a vj.sorted ha));
          };
      made = λ later left id more all h. record {
        whens = whens;
        none = any;
        conditions = over-Extends g1 later (Extends-trans g1 g2 later g.extends more) d state d.pipe.locals (map (λ (x : ExactView). x.when) d.exact) whens over;
        no_steps = standing-Extends g2 later more d whens after.entries before.entries first 0 any stands;
        steps = subst (λ n. StandsFrom later d whens after.entries first 0 before any n id) (whole_left left d.steps all) h;
      };
    } where
      whole_left : (n m : ℕ) → 0 + n ≡ m → n ≡ m
      whole_left n m h = omega (arith, h)

      nothing : (j : ℕ) → j ≤ 0 → j ≡ 0
      nothing j h = omega (arith, h)

up_to : (P : ℕ → Type 0) (i : ℕ) → (((j : ℕ) × (j ≤ i) × P j) ⊎ P (suc i)) ↔ ((j : ℕ) × (j ≤ suc i) × P j)
up_to P i = (
  λ h. elim h [ inl w ↦ (w.0, omega (arith, w.1), w.2) | inr p ↦ (suc i, omega arith, p) ],
  λ w. elim (equal_or w.0 (w.0 == suc i) refl) [ inl e ↦ inr (subst P e w.2) | inr n ↦ inl (w.0, below w.0 w.1 n, w.2) ],
) where
  equal_or : (j : ℕ) (b : Bool) → (j == suc i) ≡ b → (j ≡ suc i) ⊎ (j ≢ suc i)
  equal_or j true e = inl (eqb-true j (suc i) e)
  equal_or j false e = inr (λ same. true≢false (sym (eq-eqb j (suc i) same) ∙ e))

  below : (j : ℕ) → j ≤ suc i → j ≢ suc i → j ≤ i
  below j h n = omega (arith, h, n)

-- one step more
commuting-next : (d : DesignView) (old cur mid next new : List Node) (state : SymState) (whens : List ℕ) (before after joined stepped : SymState) (first i any one id : ℕ) → Commuting d old cur state whens before after joined first i any
    → GrowsWithin d cur mid → IsVisible d mid stepped → DenotesSpecStep d cur mid joined stepped → GrowsKnown d (first + address_count d) mid next
    → TermHasSort next one sort.Bool → SaysStands d mid next whens after.entries stepped.entries first (suc i) one
    → Extends next new → AddsUses next new [] → TermHasSort new id sort.Bool → Denotes new id (λ w. Truth (truth w next any || truth w next one))
    → AreMadeOver mid d joined d.spec.locals d.spec.nexts stepped.entries → IsStanding next d whens after.entries stepped.entries first (i + 1) one → Called new (node.Or any one) id
    → Commuting d old new state whens before after stepped first (suc i) id
commuting-next d old cur mid next new state whens before after joined stepped first i any one id h g va sa f so says e u s is over stands c =
    let n : ℕ = first + address_count d in
    let rest : GrowsKnown d n mid new = Known-trans d n mid next new f (Known-none d n next new e u) in
    let whole : GrowsKnown d n cur new = Known-trans d n cur mid new (Known-within d n cur mid g) rest in
    let front : GrowsKnown d n cur next = Known-trans d n cur mid next (Known-within d n cur mid g) f in
    record {
      grows = Known-trans d n old cur new h.grows whole;
      sorted = s;
      conditions = conditions-later d cur new whole.extends whens h.conditions;
      after_sorted = IsVisible-later d cur new whole.extends after h.after_sorted;
      joined_sorted = IsVisible-later d mid new rest.extends stepped va;
      so_far = λ w interp values inputs a b hs ha hb.
          let now = h.so_far w interp values inputs a b hs ha hb in
          let moved : DenoteValues w mid stepped.entries (spec_steps (suc i) d interp a) = sa.denotes w interp (spec_steps i d interp a) hs.world now.joined_values in
          let said : Says w next one (StandsIn d w interp values inputs first a b (suc i)) =
          says w interp values inputs b (spec_steps (suc i) d interp a) (DenoteConditions-later d w cur mid g.extends whens interp values inputs h.conditions now.conditions)
          (values-later w cur mid g.extends after.entries (entry_sorts d.spec) b h.after_sorted.sorted now.after_values) moved in
          record {
            conditions = DenoteConditions-later d w cur new whole.extends whens interp values inputs h.conditions now.conditions;
            after_values = values-later w cur new whole.extends after.entries (entry_sorts d.spec) b h.after_sorted.sorted now.after_values;
            joined_values = values-later w mid new rest.extends stepped.entries (entry_sorts d.spec) (spec_steps (suc i) d interp a) va.sorted moved;
            says =
                Says-same w new id (StandsUpTo d w interp values inputs first a b i ⊎ StandsIn d w interp values inputs first a b (suc i)) (StandsUpTo d w interp values inputs first a b (suc i))
                (up_to (StandsIn d w interp values inputs first a b) i)
                (Says-or w next new any one id (StandsUpTo d w interp values inputs first a b i) (StandsIn d w interp values inputs first a b (suc i))
                (Says-later w cur next any sort.Bool (StandsUpTo d w interp values inputs first a b i) front.extends h.sorted now.says) said is);
          };
      made = λ later left k more all r.
          let from : Extends next later = Extends-trans next new later e more in
          h.made later (suc left) k (Extends-trans cur new later whole.extends more) (one_more i left d.steps all) (
            stepped,
            one,
            id,
            va.inputs,
            over-Extends mid later (Extends-trans mid new later rest.extends more) d joined d.spec.locals d.spec.nexts stepped.entries over,
            standing-Extends next later from d whens after.entries stepped.entries first (i + 1) one stands,
            called-Extends new later more (node.Or any one) id c,
            subst (λ n. StandsFrom later d whens after.entries first n stepped id left k) (plain i) r,
          );
    } where
      one_more : (i left n : ℕ) → suc i + left ≡ n → i + suc left ≡ n
      one_more i left n h = omega (arith, h)

      plain : (i : ℕ) → suc i ≡ i + 1
      plain i = omega arith

pub commuting-more : (d : DesignView) (old cur mid next new : List Node) (state : SymState) (whens : List ℕ) (before after joined stepped : SymState) (first i any one id : ℕ) → Commuting d old cur state whens before after joined first i any
    → GrowsWithin d cur mid → IsVisible d mid stepped → DenotesSpecStep d cur mid joined stepped → GrowsKnown d (first + address_count d) mid next
    → TermHasSort next one sort.Bool → SaysStands d mid next whens after.entries stepped.entries first (i + 1) one
    → Extends next new → AddsUses next new [] → TermHasSort new id sort.Bool → Denotes new id (λ w. Truth (truth w next any || truth w next one))
    → AreMadeOver mid d joined d.spec.locals d.spec.nexts stepped.entries → IsStanding next d whens after.entries stepped.entries first (i + 1) one → Called new (node.Or any one) id
    → Commuting d old new state whens before after stepped first (i + 1) id
commuting-more d old cur mid next new state whens before after joined stepped first i any one id h g va sa f so says e u s is over stands c =
    let more : i + 1 ≡ suc i = omega arith in
    subst (λ k. Commuting d old new state whens before after stepped first k id) (sym more)
    (commuting-next d old cur mid next new state whens before after joined stepped first i any one id h g va sa f so
    (subst (λ k. SaysStands d mid next whens after.entries stepped.entries first k one) more says) e u s is over stands c)

-- the loop done, the term says whether the cycle stands for some number of steps
pub commutes-said : (d : DesignView) (old cur : List Node) (state : SymState) (whens : List ℕ) (before after joined : SymState) (first i any : ℕ) → i ≡ d.steps → Commuting d old cur state whens before after joined first i any
    → (w : World) (interp : List Table) (values : List Value) (inputs : List Scalar) (a b : List Value) → DenotesState d w old state interp values inputs → DenoteValues w old before.entries a → DenoteValues w old after.entries b
    → Says w cur any (StandsUpTo d w interp values inputs first a b d.steps)
commutes-said d old cur state whens before after joined first i any last h w interp values inputs a b hs ha hb =
    subst (λ k. Says w cur any (StandsUpTo d w interp values inputs first a b k)) last (h.so_far w interp values inputs a b hs ha hb).says

-- and the calls are those for it
pub commutes-made : (d : DesignView) (old cur : List Node) (state : SymState) (whens : List ℕ) (before after joined : SymState) (first i any : ℕ) → i ≡ d.steps → Commuting d old cur state whens before after joined first i any
    → IsCommuting cur d state before after.entries first any
commutes-made d old cur state whens before after joined first i any last h = h.made cur 0 any (Extends-self cur) (omega (arith, last)) refl

-- the calls for a number of steps
pub stands-made : (d : DesignView) (g1 g2 g3 : List Node) (whens after joined : List ℕ) (first j x y : ℕ) (r : Result ℕ AllocError) → Extends g1 g2 → Extends g2 g3 → IsAllowance g1 d whens j x → AreEqual g2 d after joined (first + j) (d.steps + 1) y
    → IfOk r (Called g3 (node.And x y)) → IfOk r (IsStanding g3 d whens after joined first j)
stands-made d g1 g2 g3 whens after joined first j x y r e f h k c =
    IfOk-weaker r (Called g3 (node.And x y)) (IsStanding g3 d whens after joined first j)
    (λ id n. (x, y, allowance-Extends g1 g3 (Extends-trans g1 g2 g3 e f) d whens j x h, equal-Extends g2 g3 f d after joined (first + j) (d.steps + 1) y k, n)) c

-- memories that are read at the addresses of a number of steps
placed : (d : DesignView) (w : World) (first j : ℕ) (a b : List Value) → EqualIn w (λ m. m * (d.steps + 1) + (first + j)) a b ↔ EqualIn w (λ m. first + address_number d m j) a b
placed d w first j a b =
    let same : (λ (m : ℕ). applied w (symbol.Address (m * (d.steps + 1) + (first + j))) []) ≡ (λ (m : ℕ). applied w (symbol.Address (first + address_number d m j)) []) =
    fun_ext (λ m. ap (λ k. applied w (symbol.Address k) []) (moved (m * (d.steps + 1)))) in
    (subst (λ f. EqualFrom f 0 a b) same, subst (λ f. EqualFrom f 0 a b) (sym same)) where
      moved : (k : ℕ) → k + (first + j) ≡ first + (k + j)
      moved k = omega arith

-- so many steps are allowed and the two states are equal
pub stands-said : (d : DesignView) (g0 g1 g2 g3 : List Node) (whens after joined : List ℕ) (first j x y : ℕ) (r : Result ℕ AllocError) → Extends g0 g1 → Extends g1 g2 → TermHasSort g1 x sort.Bool
    → ((w : World) (interp : List Table) (values : List Value) (inputs : List Scalar) → DenoteConditions d w g0 whens interp values inputs → Says w g1 x (IsAllowed d interp values inputs j))
    → HaveSorts g0 after (entry_sorts d.spec) → HaveSorts g0 joined (entry_sorts d.spec)
    → ((w : World) (a b : List Value) → DenoteValues w g1 after a → DenoteValues w g1 joined b → Says w g2 y (EqualIn w (λ m. m * (d.steps + 1) + (first + j)) a b))
    → IfOk r (λ id. Denotes g3 id (λ w. Truth (truth w g2 x && truth w g2 y)))
    → IfOk r (SaysStands d g0 g3 whens after joined first j)
stands-said d g0 g1 g2 g3 whens after joined first j x y (Err e) e1 e2 s allowed ib ij same t = tt
stands-said d g0 g1 g2 g3 whens after joined first j x y (Ok id) e1 e2 s allowed ib ij same t = λ w interp values inputs b c hc hb hj.
    Says-and w g2 g3 x y id (IsAllowed d interp values inputs j) (EqualIn w (λ m. first + address_number d m j) b c)
    (Says-later w g1 g2 x sort.Bool (IsAllowed d interp values inputs j) e2 s (allowed w interp values inputs hc))
    (Says-same w g2 y (EqualIn w (λ m. m * (d.steps + 1) + (first + j)) b c) (EqualIn w (λ m. first + address_number d m j) b c) (placed d w first j b c)
    (same w b c (values-later w g0 g1 e1 after (entry_sorts d.spec) b ib hb) (values-later w g0 g1 e1 joined (entry_sorts d.spec) c ij hj))) t

-- memories that are read at the address of their number
pub plain-address : (q : List ℕ) (a b : List Value) → EqualAt (λ m. m * 1 + 0) q a b ↔ EqualAt (λ m. m) q a b
plain-address q a b =
    let same : (λ (m : ℕ). slice_index_or q (m * 1 + 0) 0) ≡ (λ (m : ℕ). slice_index_or q m 0) = fun_ext (λ m. ap (λ k. slice_index_or q k 0) (once m)) in
    (subst (λ f. EqualFrom f 0 a b) same, subst (λ f. EqualFrom f 0 a b) (sym same)) where
      once : (m : ℕ) → m * 1 + 0 ≡ m
      once m = omega arith

-- the address of each memory for each number of steps is one of a cycle's
pub below-count : (d : DesignView) (first j : ℕ) → j ≤ d.steps → AreBelow d (first + j) (d.steps + 1) (first + address_count d)
below-count d first j few m inside =
    let within : m * (d.steps + 1) + j < (d.steps + 1) * memory_count d = mul-add-lt m (d.steps + 1) j (memory_count d) inside (omega (arith, few)) in
    omega (arith, within)

-- the state after a cycle
pub next-denotes : (d : DesignView) (w : World) (old new : List Node) (state next : SymState) (interp : List Table) (values : List Value) (inputs : List Scalar) → Extends old new → StateHasSorts d.pipe old state
    → DenotesStep d old new state next → next.inputs ≡ state.inputs → DenotesState d w old state interp values inputs → DenotesState d w new next interp (step d.pipe interp values inputs) inputs
next-denotes d w old new state next interp values inputs e sorted t same now = record {
  world = now.world;
  entries = t.denotes w interp values inputs now;
  inputs = subst (λ l. DenoteScalars w new l inputs) (sym same) (Denote-Extends _ w old new e state.inputs inputs (HaveSorts-inside old state.inputs _ sorted.inputs) now.inputs);
}
