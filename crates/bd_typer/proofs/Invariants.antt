-- The invariant of a design: its lets and its expression, which use no input.
use Rattle.std.proofs.Common.{◌≡◌, ℕ, ◌+◌, ◌≤◌, Bool, true, false, cond, List, [], ◌∷◌, ◌++◌, length, Option, Some, None, Ok, refl, sym, ◌∙◌, subst, arith, length-append}
use Rattle.std.specs.Prelude.{slice_get, IfSome}
use Rattle.std.specs.List.{AllByRecursion}
use Rattle.bd_model.specs.ExprView.{ExprView, Truth}
use Rattle.bd_model.specs.DesignView.{LocalView}
use Rattle.bd_model.specs.Lawful.{Context, HasSort, LetsHaveSorts, IsWithinLimits, uses_input}
use Rattle.bd_model.specs.declared.design.Sort.{Sort}
use Rattle.bd_model.specs.declared.design.Sort.TheVariants as sorts
use Rattle.bd_model.specs.declared.design.Symbol as symbol
use Rattle.bd_syntax.specs.Words.{same_text}
use Rattle.bd_syntax.specs.Forms.{Expression, ItemView, latch_item, memory_item, input_item, function_item, predicate_item, let_item, next_item, flush_item, steps_item, exact_item, distinct_item, InvView}
use Rattle.bd_syntax.specs.WellFormed.{IsExpression, IsLimited, IsLimitedItem, IsItem}
use Rattle.bd_syntax.specs.declared.head.Place.TheVariants as places
use Rattle.bd_syntax.specs.declared.form.Spot.{Spot}
use Rattle.bd_typer.specs.declared.names.Meaning.{Meaning}
use Rattle.bd_typer.specs.declared.names.Meaning.TheVariants.{Entry, Input, Symbol, Local, Later}
use Rattle.bd_typer.specs.Faults.{◌>>=◌}
use Rattle.bd_typer.specs.Given.{IsInvFile}
use Rattle.bd_typer.specs.Joined.{start, TypedInv, typed_inv}
use Rattle.bd_typer.specs.NameMap.{NameMap, declare, shared_meaning, shared_names}
use Rattle.bd_typer.specs.Typing.{typed}
use Rattle.bd_typer.specs.Walk.{Typed, with_local, typed_let, typed_item, typed_items}
use Rattle.bd_typer.proofs.Lists.{get-left, get-end}
use Rattle.bd_typer.proofs.Sound.{Fits, NamesFit, then_ok}
use Rattle.bd_typer.proofs.TypedItems.{local_sorts, local_end, map_append, lets-push, all-push, typed_within}
use Rattle.bd_model.specs.Limits.{longest_text}

-- the names that an invariant may use
abbrev pub inv_names : List symbol.Symbol → List Sort → List LocalView → Context
inv_names symbols entries locals = record { symbols = symbols; entries = entries; inputs = []; locals = local_sorts locals }

-- an invariant that is gone through
pub record InvIs (symbols : List symbol.Symbol) (entries : List Sort) (locals : List LocalView) (value : ExprView) : Type 0 where
  pub lets : LetsHaveSorts (inv_names symbols entries []) locals
  pub let_limits : AllByRecursion (λ (l : LocalView). IsWithinLimits l.value) locals
  pub sort : HasSort (inv_names symbols entries locals) value sorts.Bool
  pub limits : IsWithinLimits value
  pub count : length locals ≤ longest_text

module _ (symbols : List symbol.Symbol) (entries : List Sort) where
  -- the lets so far
  pub record LetsAre (t : Typed) : Type 0 where
    pub names : NamesFit (inv_names symbols entries t.locals) t.flags false t.names
    pub flag_count : length t.flags ≡ length t.locals
    pub lets : LetsHaveSorts (inv_names symbols entries []) t.locals
    pub limits : AllByRecursion (λ (l : LocalView). IsWithinLimits l.value) t.locals

  fits_more : (locals : List LocalView) (flags : List Bool) (l : LocalView) (uses : Bool) (m : Meaning) → Fits (inv_names symbols entries locals) flags false m → Fits (inv_names symbols entries (locals ++ l ∷ [])) (flags ++ uses ∷ []) false m
  fits_more locals flags l uses (Entry n s) h = h
  fits_more locals flags l uses (Input n s) h = h
  fits_more locals flags l uses (Symbol n a p) h = h
  fits_more locals flags l uses (Local n s u) h = (
    subst (λ ss. slice_get ss n ≡ Some s) (sym (map_append (λ (x : LocalView). x.sort) locals (l ∷ []))) (get-left (local_sorts locals) (l.sort ∷ []) n s h.0),
    get-left flags (uses ∷ []) n u h.1,
  )
  fits_more locals flags l uses Later h = tt

  names_more : (names : NameMap) (locals : List LocalView) (flags : List Bool) (name : List ℕ) (l : LocalView) (uses : Bool) → NamesFit (inv_names symbols entries locals) flags false names → length flags ≡ length locals
      → NamesFit (inv_names symbols entries (locals ++ l ∷ [])) (flags ++ uses ∷ []) false (declare names name (Local (length locals) l.sort uses))
  names_more names locals flags name l uses fits count q m h = by_word (same_text name q) h where
    new : Fits (inv_names symbols entries (locals ++ l ∷ [])) (flags ++ uses ∷ []) false (Local (length locals) l.sort uses)
    new = (local_end locals l, subst (λ n. slice_get (flags ++ uses ∷ []) n ≡ Some uses) count (get-end flags uses))

    by_word : (b : Bool) → cond b (Some (Local (length locals) l.sort uses)) (names q) ≡ Some m → Fits (inv_names symbols entries (locals ++ l ∷ [])) (flags ++ uses ∷ []) false m
    by_word true e = let same : Local (length locals) l.sort uses ≡ m = cc e in subst (Fits (inv_names symbols entries (locals ++ l ∷ [])) (flags ++ uses ∷ []) false) same new
    by_word false e = fits_more locals flags l uses m (fits q m e)

  let_is : (t u : Typed) (name : Spot) (sort : Sort) (value : Expression) → LetsAre t → IsExpression value → IsLimited value → typed_let false t name sort value ≡ Ok u → LetsAre u × (length u.locals ≤ length t.locals + 1)
  unfolding typed_let
  let_is t u name sort value ok is limited h =
      let p = then_ok (typed t.names false sort value) (λ e. Ok (with_local t name.text sort e)) u h in
      let e : with_local t name.text sort p.0 ≡ u = cc p.2 in
      let one = typed_within (inv_names symbols entries t.locals) t.flags t.names false sort value p.0 ok.names is limited p.1 in
      let uses : Bool = uses_input t.flags p.0 in
      let l : LocalView = record { sort = sort; value = p.0 } in
      subst (λ v. LetsAre v × (length v.locals ≤ length t.locals + 1)) e (
        record {
          names = names_more t.names t.locals t.flags name.text l uses ok.names ok.flag_count;
          flag_count = omega (arith, ok.flag_count, length-append t.flags (uses ∷ []), length-append t.locals (l ∷ []));
          lets = lets-push (inv_names symbols entries []) t.locals l ok.lets one.sort;
          limits = all-push (λ (x : LocalView). IsWithinLimits x.value) t.locals l ok.limits one.limits;
        },
        omega (arith, length-append t.locals (l ∷ [])),
      )

  -- an invariant has lets alone
  item_is : (t u : Typed) (item : ItemView) → LetsAre t → IsItem places.Invariant item → IsLimitedItem item → typed_item false t item ≡ Ok u → LetsAre u × (length u.locals ≤ length t.locals + 1)
  item_is t u (let_item offset name sort value) ok is limited h = let_is t u name sort value ok is.parts.1 limited h
  item_is t u (latch_item offset name sort) ok is limited h = absurd (cc is.fits)
  item_is t u (memory_item offset name) ok is limited h = absurd (cc is.fits)
  item_is t u (input_item offset name sort idle) ok is limited h = absurd (cc is.fits)
  item_is t u (function_item offset name arity) ok is limited h = absurd (cc is.fits)
  item_is t u (predicate_item offset name arity) ok is limited h = absurd (cc is.fits)
  item_is t u (next_item offset name value) ok is limited h = absurd (cc is.fits)
  item_is t u (flush_item offset count) ok is limited h = absurd (cc is.fits)
  item_is t u (steps_item offset count) ok is limited h = absurd (cc is.fits)
  item_is t u (exact_item offset count when) ok is limited h = absurd (cc is.fits)
  item_is t u (distinct_item offset names) ok is limited h = absurd (cc is.fits)

  pub items_are : (items : List ItemView) (t u : Typed) → LetsAre t → AllByRecursion (IsItem places.Invariant) items → AllByRecursion IsLimitedItem items → typed_items false t items ≡ Ok u → LetsAre u × (length u.locals ≤ length t.locals + length items)
  items_are [] t u ok is limited h =
      let e : t ≡ u = cc h in
      subst (λ v. LetsAre v × (length v.locals ≤ length t.locals + 0)) e (ok, omega arith)
  items_are (item ∷ items) t u ok is limited h =
      let p = then_ok (typed_item false t item) (λ v. typed_items false v items) u h in
      let first = item_is t p.0 item ok is.0 limited.0 p.1 in
      let rest = items_are items p.0 u first.0 is.1 limited.1 p.2 in
      (rest.0, omega (arith, first.1, rest.1))

  pub inv_is : (names : NameMap) (inv : Option InvView) (i : TypedInv) → NamesFit (inv_names symbols entries []) [] false names → IfSome inv IsInvFile → typed_inv names inv ≡ Ok i → InvIs symbols entries i.locals i.value
  unfolding typed_inv
  inv_is names None i fits given h =
      let e : record { locals = []; value = Truth true } ≡ i = cc h in
      subst (λ (j : TypedInv). InvIs symbols entries j.locals j.value) e (record { lets = tt; let_limits = tt; sort = refl; limits = (omega arith, omega arith); count = omega arith })
  inv_is names (Some inv) i fits given h =
      let p = then_ok (typed_items false (start names 0) inv.items) (λ t. typed t.names false sorts.Bool inv.value >>= λ e. Ok (record { locals = t.locals; value = e })) i h in
      let q = then_ok (typed p.0.names false sorts.Bool inv.value) (λ e. Ok (record { locals = p.0.locals; value = e })) i p.2 in
      let made : TypedInv = record { locals = p.0.locals; value = q.0 } in
      let e : made ≡ i = cc q.2 in
      let lets = items_are inv.items (start names 0) p.0 (record { names = fits; flag_count = refl; lets = tt; limits = tt }) given.formed.items given.limited.items.each p.1 in
      let value = typed_within (inv_names symbols entries p.0.locals) p.0.flags p.0.names false sorts.Bool inv.value q.0 lets.0.names given.formed.value given.limited.value q.1 in
      subst (λ (j : TypedInv). InvIs symbols entries j.locals j.value) e (record {
        lets = lets.0.lets;
        let_limits = lets.0.limits;
        sort = value.sort;
        limits = value.limits;
        count = omega (arith, lets.1, given.limited.items.count);
      })

  -- the names that both machines give to an invariant
  pub shared_fit : (pipe_locals spec_locals : List LocalView) (pipe_flags spec_flags : List Bool) (spec_entries pipe_inputs spec_inputs : List Sort) (pipe spec : NameMap)
      → NamesFit (record { symbols = symbols; entries = entries; inputs = pipe_inputs; locals = local_sorts pipe_locals }) pipe_flags true pipe
      → NamesFit (record { symbols = symbols; entries = spec_entries; inputs = spec_inputs; locals = local_sorts spec_locals }) spec_flags true spec
      → NamesFit (inv_names symbols entries []) [] false (shared_names pipe spec)
  shared_fit pipe_locals spec_locals pipe_flags spec_flags spec_entries pipe_inputs spec_inputs pipe spec p s q m h = by_pipe (pipe q) (spec q) refl refl h where
    of_spec : (o : Option Meaning) → spec q ≡ o → shared_meaning None o ≡ Some m → Fits (inv_names symbols entries []) [] false m
    of_spec None e g = absurd (cc g)
    of_spec (Some (Entry n t)) e g = absurd (cc g)
    of_spec (Some (Input n t)) e g = absurd (cc g)
    of_spec (Some (Symbol n a b)) e g = let same : Symbol n a b ≡ m = cc g in subst (Fits (inv_names symbols entries []) [] false) same (s q (Symbol n a b) e)
    of_spec (Some (Local n t u)) e g = absurd (cc g)
    of_spec (Some Later) e g = absurd (cc g)

    local_as_none : (n : ℕ) (t : Sort) (u : Bool) (o : Option Meaning) → shared_meaning None o ≡ shared_meaning (Some (Local n t u)) o
    local_as_none n t u None = refl
    local_as_none n t u (Some (Entry k x)) = refl
    local_as_none n t u (Some (Input k x)) = refl
    local_as_none n t u (Some (Symbol k a b)) = refl
    local_as_none n t u (Some (Local k x y)) = refl
    local_as_none n t u (Some Later) = refl

    later_as_none : (o : Option Meaning) → shared_meaning None o ≡ shared_meaning (Some Later) o
    later_as_none None = refl
    later_as_none (Some (Entry k x)) = refl
    later_as_none (Some (Input k x)) = refl
    later_as_none (Some (Symbol k a b)) = refl
    later_as_none (Some (Local k x y)) = refl
    later_as_none (Some Later) = refl

    by_pipe : (k o : Option Meaning) → pipe q ≡ k → spec q ≡ o → shared_meaning k o ≡ Some m → Fits (inv_names symbols entries []) [] false m
    by_pipe None o e f g = of_spec o f g
    by_pipe (Some (Entry n t)) o e f g = let same : Entry n t ≡ m = cc g in subst (Fits (inv_names symbols entries []) [] false) same (p q (Entry n t) e)
    by_pipe (Some (Input n t)) o e f g = let same : Input n t ≡ m = cc g in subst (Fits (inv_names symbols entries []) [] false) same (λ off. absurd (cc off))
    by_pipe (Some (Symbol n a b)) o e f g = let same : Symbol n a b ≡ m = cc g in subst (Fits (inv_names symbols entries []) [] false) same (p q (Symbol n a b) e)
    by_pipe (Some (Local n t u)) o e f g = of_spec o f (local_as_none n t u o ∙ g)
    by_pipe (Some Later) o e f g = of_spec o f (later_as_none o ∙ g)
