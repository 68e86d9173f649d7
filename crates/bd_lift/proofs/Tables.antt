-- What a table of rows is at arguments, as a constant, as a memory, and as a function's table.
use Rattle.std.proofs.Common.{◌≡◌, ◌≢◌, ℕ, ◌+◌, ◌*◌, ◌==◌, ◌&&◌, not, Bool, true, false, if◌then◌else◌, List, [], ◌∷◌, length, map, nat_eq, refl, ap, sym, ◌∙◌, subst, arith, eq-eqb}
use Rattle.std.specs.Prelude.{slice_index_or}
use Rattle.std.specs.List.{AllByRecursion}
use Rattle.std.proofs.lemmas.Bool.{eqb-true, false≢true}
use lib.Pointwise.{pointwise}
use Rattle.bd_model.specs.declared.design.Sort.{Sort}
use Rattle.bd_model.specs.declared.design.Sort.TheVariants as sort
use Rattle.bd_model.specs.declared.design.Symbol.{Symbol}
use Rattle.bd_model.specs.declared.table.Scalar.{Scalar}
use Rattle.bd_model.specs.declared.table.Scalar.TheVariants as scalar
use Rattle.bd_model.specs.declared.table.Row.{Row}
use Rattle.bd_model.specs.declared.table.Table.{Table}
use Rattle.bd_model.specs.Fits.{RowFits, TableFits, result_sort, scalar_sort, value_sort}
use Rattle.bd_model.specs.Table.{at, row_value}
use Rattle.bd_model.specs.Value.{scalar_word, slot_of}
use Rattle.bd_symbolic.specs.DesignSymbols.{sort_use}
use Rattle.bd_symbolic.specs.World.{constant, slot_row, value_table}
use Rattle.bd_terms.specs.declared.node.Sym.{Sym}
use Rattle.bd_function.specs.Tables.{default_by, default_of, table_with, zero_like}
use Rattle.bd_lift.specs.inner.Built.{entry_value, function_default, function_table, has_no_row, scalar_as}

-- a row of so many arguments, with a value of the sort
pub record IsRowOf (arity : ℕ) (s : Sort) (r : Row) : Type 0 where
  pub arity_is : length r.args ≡ arity
  pub sorted : scalar_sort r.value ≡ s

abbrev pub AreRowsOf : ℕ → Sort → List Row → Type 0
AreRowsOf arity s rows = AllByRecursion (IsRowOf arity s) rows

empty : {X : Type 0} → (xs : List X) → length xs ≡ 0 → xs ≡ []
empty [] h = refl
empty (x ∷ xs) h = absurd (omega (arith, h))

pub scalar_as-same : (s : Sort) (x : Scalar) → scalar_sort x ≡ s → scalar_as s x ≡ x
scalar_as-same sort.Bool (scalar.Bool b) h = refl
scalar_as-same sort.Bool (scalar.Word n) h = cc
scalar_as-same sort.Word (scalar.Bool b) h = cc
scalar_as-same sort.Word (scalar.Word n) h = refl
scalar_as-same sort.Memory (scalar.Bool b) h = cc
scalar_as-same sort.Memory (scalar.Word n) h = cc

pub scalar_as-sort : (s : Sort) (x : Scalar) → s ≢ sort.Memory → scalar_sort (scalar_as s x) ≡ s
scalar_as-sort sort.Bool x h = refl
scalar_as-sort sort.Word x h = refl
scalar_as-sort sort.Memory x h = absurd (h refl)

zero_like-sort : (x : Scalar) → scalar_sort (zero_like x) ≡ scalar_sort x
zero_like-sort (scalar.Bool b) = refl
zero_like-sort (scalar.Word n) = refl

default_by-sort : (args : List ℕ) (x : Scalar) → scalar_sort (default_by args x) ≡ scalar_sort x
default_by-sort [] x = refl
default_by-sort (a ∷ args) x = zero_like-sort x

-- the default has the rows' sort
pub default-sort : (arity : ℕ) (s : Sort) (rows : List Row) → AreRowsOf arity s rows → has_no_row rows ≡ false → scalar_sort (default_of rows) ≡ s
default-sort arity s [] h n = absurd (false≢true (sym n))
default-sort arity s (r ∷ rows) h n = default_by-sort r.args r.value ∙ h.0.sorted

past-rows : (s : Sort) (rows : List Row) (a : ℕ) (args : List ℕ) (d : Scalar) → AreRowsOf 0 s rows → row_value rows (a ∷ args) d ≡ d
past-rows s [] a args d h = refl
past-rows s (r ∷ rows) a args d h =
    let none = empty r.args h.0.arity_is in
    ap (λ l. if pointwise nat_eq l (a ∷ args) then r.value else row_value rows (a ∷ args) d) none ∙ past-rows s rows a args d h.1

-- a table whose rows have no arguments has its default everywhere
pub at-constant : (s : Sort) (rows : List Row) → AreRowsOf 0 s rows → (args : List ℕ) → at (table_with rows) args ≡ default_of rows
at-constant s [] h args = refl
at-constant s (r ∷ rows) h [] =
    let none = empty r.args h.0.arity_is in
    ap (λ l. if pointwise nat_eq l [] then r.value else row_value rows [] (default_of (r ∷ rows))) none ∙ sym (ap (λ l. default_by l r.value) none)
at-constant s (r ∷ rows) h (a ∷ args) = past-rows s (r ∷ rows) a args (default_of (r ∷ rows)) h

-- so it is as the constant
pub constant-alike : (s k : Sort) (rows : List Row) → AreRowsOf 0 s rows → has_no_row rows ≡ false → s ≡ k → (args : List ℕ) → at (constant (scalar_as k (default_of rows))) args ≡ at (table_with rows) args
constant-alike s k rows h n e args = scalar_as-same k (default_of rows) (default-sort 0 s rows h n ∙ e) ∙ sym (at-constant s rows h args)

-- a function's default where its table has rows
pub default-given : (classes f : ℕ) (y : Symbol) (t : Table) → has_no_row t.rows ≡ false → function_default classes f y t ≡ scalar_as (result_sort y) t.default
default-given classes f y t h =
    ap (λ b. if (b && (y.arity == 0)) && not y.predicate then scalar.Word (classes + 2 * f + 1) else scalar_as (result_sort y) t.default) h

-- and a constant's where it has none
pub default-own : (classes f : ℕ) (y : Symbol) (t : Table) → has_no_row t.rows ≡ true → y.arity ≡ 0 → y.predicate ≡ false → function_default classes f y t ≡ scalar.Word (classes + 2 * f + 1)
default-own classes f y t h a p =
    let none : (y.arity == 0) ≡ true = eq-eqb y.arity 0 a in
    λ i. if (h i && none i) && not (p i) then scalar.Word (classes + 2 * f + 1) else scalar_as (result_sort y) t.default

if-sort : (b p : Bool) (k : ℕ) (x : Scalar) → scalar_sort (if b && not p then scalar.Word k else scalar_as (if p then sort.Bool else sort.Word) x) ≡ (if p then sort.Bool else sort.Word)
if-sort true true k x = refl
if-sort true false k x = refl
if-sort false true k x = refl
if-sort false false k x = refl

if-rows : (P : Row → Type 0) (b : Bool) (rows : List Row) → AllByRecursion P rows → AllByRecursion P (if b then [] else rows)
if-rows P true rows h = tt
if-rows P false rows h = h

rows-fit : (y : Symbol) (rows : List Row) → AreRowsOf y.arity (result_sort y) rows → AllByRecursion (RowFits y) rows
rows-fit y [] h = tt
rows-fit y (r ∷ rows) h = (record { arity = h.0.arity_is; value = h.0.sorted }, rows-fit y rows h.1)

-- a function's table fits it
pub function-fits : (classes f : ℕ) (y : Symbol) (t : Table) → AreRowsOf y.arity (result_sort y) t.rows → TableFits y (function_table classes f y t)
function-fits classes f y t h = record {
  default = if-sort (has_no_row t.rows && (y.arity == 0)) y.predicate (classes + 2 * f + 1) t.default;
  rows = if-rows (RowFits y) (y.arity == 0) t.rows (rows-fit y t.rows h);
}

-- and has the values of the table that it comes from
pub function-alike : (classes f : ℕ) (y : Symbol) (rows : List Row) → AreRowsOf y.arity (result_sort y) rows → has_no_row rows ≡ false → (args : List ℕ)
    → at (function_table classes f y (table_with rows)) args ≡ at (table_with rows) args
function-alike classes f y rows h n args =
    let default : function_default classes f y (table_with rows) ≡ default_of rows =
    default-given classes f y (table_with rows) n ∙ scalar_as-same (result_sort y) (default_of rows) (default-sort y.arity (result_sort y) rows h n) in
    ap (row_value (if y.arity == 0 then [] else rows) args) default ∙ tested (y.arity == 0) refl
  where
    tested : (b : Bool) → (y.arity == 0) ≡ b → row_value (if y.arity == 0 then [] else rows) args (default_of rows) ≡ at (table_with rows) args
    tested true e =
        ap (λ b. row_value (if b then [] else rows) args (default_of rows)) e
        ∙ sym (at-constant (result_sort y) rows (subst (λ a. AreRowsOf a (result_sort y) rows) (eqb-true y.arity 0 e) h) args)
    tested false e = ap (λ b. row_value (if b then [] else rows) args (default_of rows)) e

pub one-argument : (args : List ℕ) → length args ≡ 1 → slice_index_or args 0 0 ∷ [] ≡ args
one-argument [] h = absurd (omega (arith, h))
one-argument (a ∷ []) h = refl
one-argument (a ∷ b ∷ args) h = absurd (omega (arith, h))

word-same : (x : Scalar) → scalar_sort x ≡ sort.Word → scalar.Word (scalar_word x) ≡ x
word-same x h = scalar_as-same sort.Word x h

pub slots-rows : (rows : List Row) → AreRowsOf 1 sort.Word rows → map slot_row (map slot_of rows) ≡ rows
slots-rows [] h = refl
slots-rows (r ∷ rows) h =
    let args = one-argument r.args h.0.arity_is in
    let value = word-same r.value h.0.sorted in
    let rest = slots-rows rows h.1 in
    λ i. record { args = args i; value = value i } ∷ rest i

-- the arity and sort of what an entry of the sort first holds
abbrev pub sort_arity : Sort → ℕ
sort_arity sort.Bool = 0
sort_arity sort.Word = 0
sort_arity sort.Memory = 1

abbrev pub sort_result : Sort → Sort
sort_result sort.Bool = sort.Bool
sort_result sort.Word = sort.Word
sort_result sort.Memory = sort.Word

-- the arity and sort of a latch, memory or input
pub use-arity : (k : Sym) (s : Sort) → (sort_use k s).arity ≡ sort_arity s
use-arity k sort.Bool = refl
use-arity k sort.Word = refl
use-arity k sort.Memory = refl

pub use-sort : (k : Sym) (s : Sort) → (sort_use k s).sort ≡ sort_result s
use-sort k sort.Bool = refl
use-sort k sort.Word = refl
use-sort k sort.Memory = refl

-- an entry has the values of its table
pub entry-alike : (s : Sort) (rows : List Row) → AreRowsOf (sort_arity s) (sort_result s) rows → has_no_row rows ≡ false → (args : List ℕ) → at (value_table (entry_value s (table_with rows))) args ≡ at (table_with rows) args
entry-alike sort.Bool rows h n args = constant-alike sort.Bool sort.Bool rows h n refl args
entry-alike sort.Word rows h n args = constant-alike sort.Word sort.Word rows h n refl args
entry-alike sort.Memory rows h n args =
    let default = word-same (default_of rows) (default-sort 1 sort.Word rows h n) in
    let slots = slots-rows rows h in
    λ i. row_value (slots i) args (default i)

pub entry-sort : (s : Sort) (t : Table) → value_sort (entry_value s t) ≡ s
entry-sort sort.Bool t = refl
entry-sort sort.Word t = refl
entry-sort sort.Memory t = refl
