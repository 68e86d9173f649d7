-- The application of a symbol of the design.
use Rattle.std.proofs.Common.{◌≡◌, ℕ, ◌<◌, length, Bool, true, false, List, [], ◌∷◌, Result, Ok, Err, IfOk, Some, refl, ap, ap₂, sym, ◌∙◌, subst}
use Rattle.std.specs.Prelude.{slice_get, if◌then◌else◌}
use Rattle.std.specs.List.{All, AllByRecursion}
use Rattle.std.specs.declared.alloc.AllocError.{AllocError}
use Rattle.std.proofs.lemmas.List.Elements.{All-weaker, recursion_from_All}
use Rattle.bd_model.specs.DesignView.{DesignView}
use Rattle.bd_model.specs.ExprView.{ExprViews, Apply}
use Rattle.bd_model.specs.Table.{at}
use Rattle.bd_model.specs.Value.{table_of, no_table, scalar_truth, scalar_word}
use Rattle.bd_model.specs.Fits.{TableFits, result_sort, scalar_sort}
use Rattle.bd_model.specs.declared.design.Sort.{Sort}
use Rattle.bd_model.specs.declared.design.Sort.TheVariants as sort
use Rattle.bd_model.specs.declared.design.Symbol.{Symbol}
use Rattle.bd_model.specs.declared.table.Scalar.{Scalar}
use Rattle.bd_model.specs.declared.table.Scalar.TheVariants as scalar
use Rattle.bd_model.specs.declared.table.Table.{Table}
use Rattle.bd_model.proofs.Pairs.{AllZip-at}
use Rattle.bd_model.proofs.SortLemmas.{at-sort}
use Rattle.bd_terms.specs.declared.node.Sym.TheVariants as symbol
use Rattle.bd_terms.specs.declared.node.Node.{Node}
use Rattle.bd_terms.specs.declared.node.Node.TheVariants as node
use Rattle.bd_terms.specs.Simplified.{Gives, simplified}
use Rattle.bd_terms.specs.Graph.{AddsUses, Extends, KeepsSymbol, Use}
use Rattle.bd_terms.specs.Graph.{HasSort as TermHasSort}
use Rattle.bd_terms.specs.Denotation.{World, Denotes, Truth, Word, applied, holds, words}
use Rattle.bd_symbolic.specs.World.{IsWorldOf, denotes_scalar}
use Rattle.bd_symbolic.specs.DesignSymbols.{IsDeclared, KeepsDesign, GrowsWithin, function_use}
use Rattle.bd_symbolic.specs.Made.{Called, symbol_node}
use Rattle.bd_symbolic.specs.Symbolic.{Terms}
use Rattle.bd_symbolic.specs.inner.Evaluates.{Applied, DenoteWords, Evaluates}
use Rattle.bd_symbolic.proofs.Making.{called, mades-Extends}
use Rattle.bd_symbolic.proofs.Growing.{Grows-by, Grows-trans}
use Rattle.bd_list.proofs.Membership.{Contains-one}

pub result_sort-true : (y : Symbol) → y.predicate ≡ true → sort.Bool ≡ result_sort y
result_sort-true y h = ap (λ (b : Bool). let s : Sort = if b then sort.Bool else sort.Word in s) (sym h)

pub result_sort-false : (y : Symbol) → y.predicate ≡ false → sort.Word ≡ result_sort y
result_sort-false y h = ap (λ (b : Bool). let s : Sort = if b then sort.Bool else sort.Word in s) (sym h)

same_arity : (d : DesignView) (f n : ℕ) (y z : Symbol) → slice_get d.symbols f ≡ Some y → slice_get d.symbols f ≡ Some z → n ≡ z.arity → n ≡ y.arity
same_arity d f n y z h k e = let same : z ≡ y = cc in e ∙ ap (λ (x : Symbol). x.arity) same

-- so many arguments, as the design asks
abbrev pub TakesArguments : DesignView → ℕ → ℕ → Type 0
TakesArguments d f n = (y : Symbol) × (slice_get d.symbols f ≡ Some y) × (n ≡ y.arity)

arity_is : (d : DesignView) (f n : ℕ) (y : Symbol) → slice_get d.symbols f ≡ Some y → TakesArguments d f n → n ≡ y.arity
arity_is d f n y h t = same_arity d f n y t.0 h t.1 t.2

pub function_declared : (d : DesignView) (f n : ℕ) (s : Sort) (y : Symbol) → slice_get d.symbols f ≡ Some y → TakesArguments d f n → s ≡ result_sort y → IsDeclared d (record { symbol = symbol.Function f; arity = n; sort = s })
function_declared d f n s y h t e = ap (function_use f) h ∙ ap₂ (λ (m : ℕ) (r : Sort). let u : Use = record { symbol = symbol.Function f; arity = m; sort = r } in Some u) (sym (arity_is d f n y h t)) (sym e)

pub keeps_function : (d : DesignView) (nodes : List Node) (f n : ℕ) (s : Sort) (y : Symbol) → KeepsDesign d nodes → slice_get d.symbols f ≡ Some y → TakesArguments d f n → s ≡ result_sort y → KeepsSymbol nodes (symbol.Function f) n s
keeps_function d nodes f n s y k h t e = k.keeps (record { symbol = symbol.Function f; arity = n; sort = s }) (function_declared d f n s y h t e)

pub Grows-one : (d : DesignView) (old new : List Node) (u : Use) → IsDeclared d u → Extends old new → AddsUses old new (u ∷ []) → GrowsWithin d old new
Grows-one d old new u is e a = Grows-by d old new (u ∷ []) e a (λ v p. subst (IsDeclared d) (Contains-one u v p) is)

table_sort : (d : DesignView) (interp : List Table) (w : World) (f : ℕ) (y : Symbol) (args : List ℕ) → IsWorldOf d interp w → slice_get d.symbols f ≡ Some y → scalar_sort (at (table_of interp f) args) ≡ result_sort y
table_sort d interp w f y args h there = at-sort y (table_of interp f) (AllZip-at TableFits d.symbols interp no_table h.fits.tables f y there) args

scalar_is_truth : (x : Scalar) → scalar_sort x ≡ sort.Bool → Truth (scalar_truth x) ≡ denotes_scalar x
scalar_is_truth (scalar.Bool b) h = refl
scalar_is_truth (scalar.Word n) h = cc

scalar_is_word : (x : Scalar) → scalar_sort x ≡ sort.Word → Word (scalar_word x) ≡ denotes_scalar x
scalar_is_word (scalar.Bool b) h = cc
scalar_is_word (scalar.Word n) h = refl

words_inside : (nodes : List Node) (args : List ℕ) → All (λ a. TermHasSort nodes a sort.Word) args → AllByRecursion (λ a. a < length nodes) args
words_inside nodes args h = recursion_from_All (λ a. a < length nodes) args (All-weaker (λ a. TermHasSort nodes a sort.Word) (λ a. a < length nodes) (λ a k. k.inside) args h)

same_sort : (d : DesignView) (f : ℕ) (y z : Symbol) (s : Sort) → slice_get d.symbols f ≡ Some y → slice_get d.symbols f ≡ Some z → s ≡ result_sort y → s ≡ result_sort z
same_sort d f y z s h k e = let same : y ≡ z = cc in e ∙ ap result_sort same

pub applied_pred : (d : DesignView) (old new : List Node) (f : ℕ) (args : List ℕ) (y : Symbol) (r : Result ℕ AllocError) → slice_get d.symbols f ≡ Some y → sort.Bool ≡ result_sort y
    → IfOk r (λ id. Denotes new id (λ w. Truth (holds w (symbol.Function f) (words w old args)))) → IfOk r (λ id. TermHasSort new id sort.Bool)
    → IfOk r (Called new (symbol_node (slice_get d.symbols f) f args)) → IfOk r (Applied d old new f args)
applied_pred d old new f args y (Ok id) h e q s m = record {
  inside = s.inside;
  sorted = λ z k. subst (TermHasSort new id) (same_sort d f y z sort.Bool h k e) s;
  denotes = λ w interp k. q.is w ∙ ap (λ t. Truth (scalar_truth (at t (words w old args)))) (k.functions f)
      ∙ scalar_is_truth (at (table_of interp f) (words w old args)) (table_sort d interp w f y (words w old args) k h ∙ sym e);
  made = m;
}
applied_pred d old new f args y (Err x) h e q s m = tt

pub applied_app : (d : DesignView) (old new : List Node) (f : ℕ) (args : List ℕ) (y : Symbol) (r : Result ℕ AllocError) → slice_get d.symbols f ≡ Some y → sort.Word ≡ result_sort y
    → IfOk r (λ id. Denotes new id (λ w. Word (applied w (symbol.Function f) (words w old args)))) → IfOk r (λ id. TermHasSort new id sort.Word)
    → IfOk r (Called new (symbol_node (slice_get d.symbols f) f args)) → IfOk r (Applied d old new f args)
applied_app d old new f args y (Ok id) h e q s m = record {
  inside = s.inside;
  sorted = λ z k. subst (TermHasSort new id) (same_sort d f y z sort.Word h k e) s;
  denotes = λ w interp k. q.is w ∙ ap (λ t. Word (scalar_word (at t (words w old args)))) (k.functions f)
      ∙ scalar_is_word (at (table_of interp f) (words w old args)) (table_sort d interp w f y (words w old args) k h ∙ sym e);
  made = m;
}
applied_app d old new f args y (Err x) h e q s m = tt

-- the call by which a predicate is applied, and a function
pub called_pred : (d : DesignView) (old new : List Node) (f : ℕ) (args : List ℕ) (y : Symbol) (r : Result ℕ AllocError) → slice_get d.symbols f ≡ Some y → y.predicate ≡ true → All (λ a. TermHasSort old a sort.Word) args
    → IfOk r (λ id. Gives old new id (simplified old (node.Pred (symbol.Function f) args))) → IfOk r (Called new (symbol_node (slice_get d.symbols f) f args))
called_pred d old new f args y r h e all g =
    let same : node.Pred (symbol.Function f) args ≡ symbol_node (slice_get d.symbols f) f args = sym (ap (λ o. symbol_node o f args) h ∙ ap (λ b. let n : Node = if b then node.Pred (symbol.Function f) args else node.App (symbol.Function f) args in n) e) in
    subst (λ n. IfOk r (Called new n)) same (called old new (node.Pred (symbol.Function f) args) r (words_inside old args all) g)

pub called_app : (d : DesignView) (old new : List Node) (f : ℕ) (args : List ℕ) (y : Symbol) (r : Result ℕ AllocError) → slice_get d.symbols f ≡ Some y → y.predicate ≡ false → All (λ a. TermHasSort old a sort.Word) args
    → IfOk r (λ id. Gives old new id (simplified old (node.App (symbol.Function f) args))) → IfOk r (Called new (symbol_node (slice_get d.symbols f) f args))
called_app d old new f args y r h e all g =
    let same : node.App (symbol.Function f) args ≡ symbol_node (slice_get d.symbols f) f args = sym (ap (λ o. symbol_node o f args) h ∙ ap (λ b. let n : Node = if b then node.Pred (symbol.Function f) args else node.App (symbol.Function f) args in n) e) in
    subst (λ n. IfOk r (Called new n)) same (called old new (node.App (symbol.Function f) args) r (words_inside old args all) g)

-- an application to the words of its arguments
pub apply_arm : (t : Terms) (f : ℕ) (es : ExprViews) (args : List ℕ) (old mid new : List Node) (r : Result ℕ AllocError) → GrowsWithin t.design old mid → GrowsWithin t.design mid new → DenoteWords old mid t es args
    → IfOk r (Applied t.design mid new f args) → Evaluates old new t (Apply f es) r
apply_arm t f es args old mid new (Ok id) p q h a = record {
  grows = Grows-trans t.design old mid new p q;
  term = record {
    inside = a.inside;
    sorted = λ s k. subst (TermHasSort new id) (sym k.0.2) (a.sorted k.0.0 k.0.1);
    denotes = λ w env k. a.denotes w env.interp k.world ∙ ap (λ ws. denotes_scalar (at (table_of env.interp f) ws)) (h.denotes w env k);
    made = (args, mades-Extends mid new q.extends t es args h.made, a.made);
  };
}
apply_arm t f es args old mid new (Err x) p q h a = record { grows = Grows-trans t.design old mid new p q; term = tt }
