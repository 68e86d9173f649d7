-- The first row with the arguments counts: leaving out a row whose arguments stand before changes no value.
use Rattle.std.proofs.Common.{◌≡◌, ℕ, ◌+◌, ◌*◌, ◌==◌, ◌&&◌, not, Bool, true, false, if◌then◌else◌, List, [], ◌∷◌, ◌++◌, map, nat_eq, All, Contains, Vec, is_some, Option, Some, None, refl, ap, sym, ◌∙◌, subst, inl, inr, true≢false}
use Rattle.std.specs.List.{AllByRecursion, IsDistinct}
use Rattle.std.specs.Map.{keys_of, lookup}
use Rattle.std.specs.declared.alloc.Global.{Global}
use Rattle.std.specs.Cmp.Lexicographic.{nat_list_eq_equiv}
use Rattle.std.proofs.lemmas.List.{map-append}
use Rattle.std.proofs.lemmas.List.Elements.{All-contains, All-contains_itself, All-from_recursion, All-head, All-weaker, Contains-append_left, Contains-push, Contains-push_cases, recursion_from_All}
use lib.Pointwise.{pointwise}
use Rattle.bd_model.specs.declared.design.Sort.{Sort}
use Rattle.bd_model.specs.declared.design.Sort.TheVariants as sort
use Rattle.bd_model.specs.declared.design.Symbol.{Symbol}
use Rattle.bd_model.specs.declared.table.Scalar.{Scalar}
use Rattle.bd_model.specs.declared.table.Scalar.TheVariants as scalar
use Rattle.bd_model.specs.declared.table.Row.{Row}
use Rattle.bd_model.specs.declared.table.Slot.{Slot}
use Rattle.bd_model.specs.declared.table.Table.{Table}
use Rattle.bd_model.specs.Fits.{result_sort}
use Rattle.bd_model.specs.Table.{at, row_value}
use Rattle.bd_model.specs.Value.{no_table, scalar_word, slot_of}
use Rattle.bd_symbolic.specs.World.{value_table}
use Rattle.bd_terms.specs.declared.node.Sym.{Sym}
use Rattle.bd_function.specs.declared.symbol_tables.SymTable.{SymTable}
use Rattle.bd_function.specs.Tables.{is_symbol, world_of_tables}
use Rattle.bd_function.proofs.Applying.{pointwise-same}
use Rattle.bd_function.proofs.LaterVariables.{pointwise-equal}
use Rattle.bd_lift.specs.Counting.{AddressesDiffer, ArgumentsDiffer, ValueCounts}
use Rattle.bd_lift.specs.inner.Built.{entry_value, function_default, function_table, has_no_row, scalar_as}
use Rattle.bd_lift.specs.inner.First.{AreAlike, AreEnough, HaveSameValues, RowsDiffer, entry_row}
use Rattle.bd_lift.proofs.Tables.{AreRowsOf, IsRowOf, one-argument, slots-rows, sort_arity, sort_result}
use Rattle.bd_list.proofs.Membership.{Contains-none}

abbrev pub Entries : Type 0
Entries = List (Vec ℕ Global × Scalar)

pub row_value-append : (xs ys : List Row) (args : List ℕ) (d : Scalar) → row_value (xs ++ ys) args d ≡ row_value xs args (row_value ys args d)
row_value-append [] ys args d = refl
row_value-append (x ∷ xs) ys args d = ap (λ v. if pointwise nat_eq x.args args then x.value else v) (row_value-append xs ys args d)

if-met : (t : Bool) (v x y : Scalar) → t ≡ true → (if t then v else x) ≡ (if t then v else y)
if-met true v x y h = refl
if-met false v x y h = absurd (true≢false (sym h))

met-first : (es : Entries) (p : Vec ℕ Global × Scalar) (args : List ℕ) (d e : Scalar) → is_some (lookup (λ (k : Vec ℕ Global). pointwise nat_eq args k.items) (p ∷ es)) ≡ true
    → (is_some (lookup (λ (k : Vec ℕ Global). pointwise nat_eq args k.items) es) ≡ true → row_value (map entry_row es) args d ≡ row_value (map entry_row es) args e)
    → (t : Bool) → pointwise nat_eq args p.0.items ≡ t → row_value (map entry_row (p ∷ es)) args d ≡ row_value (map entry_row (p ∷ es)) args e
met-first es p args d e h rest true is = if-met (pointwise nat_eq p.0.items args) p.1 _ _ (nat_list_eq_equiv.symm p.0.items args ∙ is)
met-first es p args d e h rest false is =
    ap (λ v. if pointwise nat_eq p.0.items args then p.1 else v) (rest (sym (ap (λ t. is_some (if t then Some p.1 else lookup (λ (k : Vec ℕ Global). pointwise nat_eq args k.items) es)) is) ∙ h))

-- at arguments that have a row the default doesn't count
met : (es : Entries) (args : List ℕ) (d e : Scalar) → is_some (lookup (λ (k : Vec ℕ Global). pointwise nat_eq args k.items) es) ≡ true → row_value (map entry_row es) args d ≡ row_value (map entry_row es) args e
met [] args d e h = absurd (true≢false (sym h))
met (p ∷ es) args d e h = met-first es p args d e h (met es args d e) (pointwise nat_eq args p.0.items) refl

-- the first row counts
pub shadowed : (es : Entries) (r : Row) → is_some (lookup (λ (k : Vec ℕ Global). pointwise nat_eq r.args k.items) es) ≡ true → HaveSameValues (map entry_row es) (map entry_row es ++ r ∷ [])
shadowed es r h args d = tested (pointwise nat_eq r.args args) refl ∙ sym (row_value-append (map entry_row es) (r ∷ []) args d)
  where
    tested : (t : Bool) → pointwise nat_eq r.args args ≡ t → row_value (map entry_row es) args d ≡ row_value (map entry_row es) args (if pointwise nat_eq r.args args then r.value else d)
    tested true is = met es args d _ (subst (λ l. is_some (lookup (λ (k : Vec ℕ Global). pointwise nat_eq l k.items) es) ≡ true) (pointwise-equal r.args args is) h)
    tested false is = sym (ap (λ t. row_value (map entry_row es) args (if t then r.value else d)) is)

-- a new row goes last
pub put-new : (es new : Entries) (k : Vec ℕ Global) (r : Row) → k.items ≡ r.args → new ≡ es ++ (k, r.value) ∷ [] → map entry_row new ≡ map entry_row es ++ r ∷ []
put-new es new k r same is = ap (map entry_row) is ∙ map-append entry_row es ((k, r.value) ∷ []) ∙ ap (λ l. map entry_row es ++ record { args = l; value = r.value } ∷ []) same

none-from : {X : Type 0} → (o : Option X) → is_some o ≡ false → o ≡ None
none-from (Some x) h = absurd (true≢false h)
none-from None h = refl

pub unmet : (es : Entries) (k : Vec ℕ Global) (args : List ℕ) → k.items ≡ args → is_some (lookup (λ (y : Vec ℕ Global). pointwise nat_eq args y.items) es) ≡ false → lookup (λ (y : Vec ℕ Global). pointwise nat_eq k.items y.items) es ≡ None
unmet es k args same h = none-from _ (ap (λ l. is_some (lookup (λ (y : Vec ℕ Global). pointwise nat_eq l y.items) es)) same ∙ h)

-- one row more
pub HaveSameValues-push : (old those new : List Row) (r : Row) → HaveSameValues old those → HaveSameValues new (old ++ r ∷ []) → HaveSameValues new (those ++ r ∷ [])
HaveSameValues-push old those new r h k args d =
    k args d ∙ row_value-append old (r ∷ []) args d ∙ h args (row_value (r ∷ []) args d) ∙ sym (row_value-append those (r ∷ []) args d)

pub among-push : (old those new : List Row) (r : Row) → All (Contains those) old → All (Contains (old ++ r ∷ [])) new → All (Contains (those ++ r ∷ [])) new
among-push old those new r h k = All-weaker (Contains (old ++ r ∷ [])) (Contains (those ++ r ∷ [])) (λ x p. elim (Contains-push_cases old r x p) [
  | inl q ↦ Contains-append_left those (r ∷ []) x (All-contains (Contains those) old x h q)
  | inr e ↦ subst (Contains (those ++ r ∷ [])) e (Contains-push those r)
]) new k

-- the keys of a map are distinct, so the arguments of its rows are
pub differ-keys : (es : Entries) → IsDistinct (λ (x y : Vec ℕ Global). pointwise nat_eq x.items y.items) (keys_of es) → ArgumentsDiffer (map entry_row es)
unfolding IsDistinct
differ-keys [] h = h
differ-keys (p ∷ es) h = (rest es h.0, differ-keys es h.1)
  where
    rest : (es : Entries) → AllByRecursion (λ (y : Vec ℕ Global). pointwise nat_eq p.0.items y.items ≡ false) (keys_of es) → AllByRecursion (λ y. pointwise nat_eq p.0.items y ≡ false) (map (λ (r : Row). r.args) (map entry_row es))
    rest [] h = h
    rest (q ∷ es) h = (h.0, rest es h.1)

-- they are of the same arity and sort
pub AreRowsOf-enough : (arity : ℕ) (s : Sort) (rows some : List Row) → AreEnough rows some → AreRowsOf arity s rows → AreRowsOf arity s some
AreRowsOf-enough arity s rows some f h =
    recursion_from_All (IsRowOf arity s) some (All-weaker (Contains rows) (IsRowOf arity s) (λ x p. All-contains (IsRowOf arity s) rows x (All-from_recursion (IsRowOf arity s) rows h) p) some f.among)

-- and there is one where there were rows
has_no_row-enough : (rows some : List Row) → AreEnough rows some → has_no_row some ≡ has_no_row rows
has_no_row-enough [] [] f = refl
has_no_row-enough [] (q ∷ some) f = absurd (Contains-none q (All-head (Contains []) q some f.among))
has_no_row-enough (r ∷ rows) (q ∷ some) f = refl
has_no_row-enough (r ∷ rows) [] f =
    let one = f.same r.args (scalar.Bool true) ∙ ap (λ t. if t then r.value else row_value rows r.args (scalar.Bool true)) (pointwise-same r.args) in
    let other = f.same r.args (scalar.Bool false) ∙ ap (λ t. if t then r.value else row_value rows r.args (scalar.Bool false)) (pointwise-same r.args) in
    let bad : scalar.Bool true ≡ scalar.Bool false = one ∙ sym other in
    cc

-- a table with enough of the rows
pub record HasEnough (t some : Table) : Type 0 where
  pub default : some.default ≡ t.default
  pub rows : AreEnough t.rows some.rows

-- so a constant's default is the same
pub function_default-enough : (classes f : ℕ) (y : Symbol) (t some : Table) → HasEnough t some → function_default classes f y some ≡ function_default classes f y t
function_default-enough classes f y t some h =
    let none = has_no_row-enough t.rows some.rows h.rows in
    λ i. if (none i && (y.arity == 0)) && not y.predicate then scalar.Word (classes + 2 * f + 1) else scalar_as (result_sort y) (h.default i)

if-rows : (b : Bool) (rows first : List Row) → HaveSameValues first rows → (args : List ℕ) (x y : Scalar) → x ≡ y → row_value (if b then [] else first) args x ≡ row_value (if b then [] else rows) args y
if-rows true rows first h args x y e = e
if-rows false rows first h args x y e = h args x ∙ ap (row_value rows args) e

-- a function's table with enough rows has the same values
pub function-enough : (classes f : ℕ) (y : Symbol) (t some : Table) → HasEnough t some → (args : List ℕ) → at (function_table classes f y some) args ≡ at (function_table classes f y t) args
function-enough classes f y t some h args =
    if-rows (y.arity == 0) t.rows some.rows h.rows.same args _ _ (function_default-enough classes f y t some h)

-- and so has an entry's
pub entry-enough : (s : Sort) (t some : Table) → HasEnough t some → AreRowsOf (sort_arity s) (sort_result s) t.rows → (args : List ℕ) → at (value_table (entry_value s some)) args ≡ at (value_table (entry_value s t)) args
entry-enough sort.Bool t some h rows args = ap (scalar_as sort.Bool) h.default
entry-enough sort.Word t some h rows args = ap (scalar_as sort.Word) h.default
entry-enough sort.Memory t some h rows args =
    let mine = slots-rows some.rows (AreRowsOf-enough 1 sort.Word t.rows some.rows h.rows rows) in
    let those = slots-rows t.rows rows in
    (λ i. row_value (mine i) args (scalar.Word (scalar_word (h.default i))))
    ∙ h.rows.same args (scalar.Word (scalar_word t.default))
    ∙ sym (ap (λ l. row_value l args (scalar.Word (scalar_word t.default))) those)

and-true : (t : Bool) → (t && true) ≡ false → t ≡ false
and-true true h = h
and-true false h = refl

-- memories' addresses are their rows' arguments
pub addresses-differ : (rows : List Row) → AreRowsOf 1 sort.Word rows → ArgumentsDiffer rows → AddressesDiffer (map slot_of rows)
unfolding IsDistinct
addresses-differ [] a h = h
addresses-differ (r ∷ rows) a h = (rest rows a.1 h.0, addresses-differ rows a.1 h.1)
  where
    rest : (rows : List Row) → AreRowsOf 1 sort.Word rows → AllByRecursion (λ y. pointwise nat_eq r.args y ≡ false) (map (λ (q : Row). q.args) rows) → AllByRecursion (λ y. nat_eq (slot_of r).address y ≡ false) (map (λ (s : Slot). s.address) (map slot_of rows))
    rest [] b k = k
    rest (q ∷ rows) b k =
        let mine = one-argument r.args a.0.arity_is in
        let other = one-argument q.args b.0.arity_is in
        (and-true (nat_eq (slot_of r).address (slot_of q).address) ((λ i. pointwise nat_eq (mine i) (other i)) ∙ k.0), rest rows b.1 k.1)

pub entry-differ : (s : Sort) (t : Table) → AreRowsOf (sort_arity s) (sort_result s) t.rows → ArgumentsDiffer t.rows → ValueCounts (entry_value s t)
entry-differ sort.Bool t a h = tt
entry-differ sort.Word t a h = tt
entry-differ sort.Memory t a h = addresses-differ t.rows a h

none-differ : ArgumentsDiffer []
unfolding IsDistinct
none-differ = tt

if-differ : (b : Bool) (rows : List Row) → ArgumentsDiffer rows → ArgumentsDiffer (if b then [] else rows)
if-differ true rows h = none-differ
if-differ false rows h = h

pub function-differ : (classes f : ℕ) (y : Symbol) (t : Table) → ArgumentsDiffer t.rows → ArgumentsDiffer (function_table classes f y t).rows
function-differ classes f y t h = if-differ (y.arity == 0) t.rows h

same-enough : (t : Table) → HasEnough t t
same-enough t = record { default = refl; rows = record { same = λ args d. refl; among = All-contains_itself t.rows } }

-- tables are alike themselves
pub AreAlike-same : (tables : List SymTable) → AreAlike tables tables
AreAlike-same [] = tt
AreAlike-same (t ∷ tables) =
    let e = same-enough t.table in
    (record { symbol = refl; default = e.default; rows = e.rows }, AreAlike-same tables)

if-enough : (b : Bool) (t u x y : Table) → HasEnough t x → HasEnough u y → HasEnough (if b then t else u) (if b then x else y)
if-enough true t u x y h k = h
if-enough false t u x y h k = k

-- in the world of tables that are alike each symbol has enough of its rows
pub world-enough : (tables some : List SymTable) → AreAlike tables some → (k : Sym) → HasEnough (world_of_tables tables k) (world_of_tables some k)
world-enough [] [] h k = same-enough no_table
world-enough [] (u ∷ some) h k = absurd h
world-enough (t ∷ tables) [] h k = absurd h
world-enough (t ∷ tables) (u ∷ some) h k =
    subst (λ s. HasEnough (if is_symbol t.sym k then t.table else world_of_tables tables k) (if is_symbol s k then u.table else world_of_tables some k)) (sym h.0.symbol)
    (if-enough (is_symbol t.sym k) t.table (world_of_tables tables k) u.table (world_of_tables some k) (record { default = h.0.default; rows = h.0.rows }) (world-enough tables some h.1 k))

if-either : (b : Bool) (t u : Table) → ArgumentsDiffer t.rows → ArgumentsDiffer u.rows → ArgumentsDiffer (if b then t else u).rows
if-either true t u h k = h
if-either false t u h k = k

-- and no two of them have the same arguments where no two of its table have
pub world-differ : (tables : List SymTable) → RowsDiffer tables → (k : Sym) → ArgumentsDiffer (world_of_tables tables k).rows
world-differ [] h k = none-differ
world-differ (t ∷ tables) h k = if-either (is_symbol t.sym k) t.table (world_of_tables tables k) h.0 (world-differ tables h.1 k)

pub RowsDiffer-push : (tables : List SymTable) (t : SymTable) → RowsDiffer tables → ArgumentsDiffer t.table.rows → RowsDiffer (tables ++ t ∷ [])
RowsDiffer-push [] t h k = (k, tt)
RowsDiffer-push (u ∷ tables) t h k = (h.0, RowsDiffer-push tables t h.1 k)
