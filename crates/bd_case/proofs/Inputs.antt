-- The inputs of a trail, as a table for each input and back.
use Rattle.std.proofs.Common.{◌≡◌, ℕ, zero, suc, ◌+◌, ◌<◌, false, List, [], ◌∷◌, length, map, drop, refl, sym, ap, ◌∙◌, add-one, arith}
use Rattle.std.specs.Prelude.{slice_index_or}
use Rattle.std.specs.List.{AllByRecursion}
use Rattle.std.proofs.lemmas.List.{length-map, get_or-map, drop_all, drop_more}
use Rattle.std.proofs.lemmas.Slice.Zip.{AllZip-long}
use Rattle.bd_model.specs.DesignView.{PortView}
use Rattle.bd_model.specs.Fits.{scalar_sort, ScalarsFit}
use Rattle.bd_model.specs.declared.table.Scalar.{Scalar}
use Rattle.bd_model.specs.declared.table.Scalar.TheVariants as scalar
use Rattle.bd_model.specs.declared.table.Row.{Row}
use Rattle.bd_model.specs.declared.design.Sort.{Sort}
use Rattle.bd_model.specs.declared.design.Sort.TheVariants as sort
use Rattle.bd_case.specs.Content.{IsShortScalar, IsShortRow, IsShortTable, column, default_of, value_row, values_table, input_tables, value_in, inputs_from}

-- ---- the values of one input

pub length-column : (i : ℕ) (inputs : List (List Scalar)) → length (column i inputs) ≡ length inputs
length-column i inputs = length-map inputs (λ xs. slice_index_or xs i (scalar.Bool false))

pub values_back : (xs : List Scalar) → map (λ (r : Row). r.value) (map value_row xs) ≡ xs
values_back [] = refl
values_back (x ∷ xs) = ap (λ rest. x ∷ rest) (values_back xs)

-- the value in a cycle of what has a value in each
value_in-values : (s : Sort) (i m : ℕ) (inputs : List (List Scalar)) → m < length inputs → value_in m (values_table s (column i inputs)) ≡ slice_index_or (slice_index_or inputs m []) i (scalar.Bool false)
value_in-values s i m inputs lt =
    ap (λ xs. slice_index_or xs m (default_of s)) (values_back (column i inputs)) ∙ get_or-map (λ xs. slice_index_or xs i (scalar.Bool false)) inputs m [] (default_of s) lt

-- ---- the inputs of one cycle

-- the values of the inputs from some place on, in a cycle
row_back : (ps : List PortView) (i m : ℕ) (inputs : List (List Scalar)) → m < length inputs → length (slice_index_or inputs m []) ≡ i + length ps
    → map (value_in m) (input_tables i ps inputs) ≡ drop i (slice_index_or inputs m [])
row_back [] i m inputs lt long = sym (drop_all i (slice_index_or inputs m []) (omega (arith, long)))
row_back (p ∷ ps) i m inputs lt long =
    let first = value_in-values p.sort i m inputs lt in
    let rest = row_back ps (i + 1) m inputs lt (omega (arith, long)) in
    let step : drop i (slice_index_or inputs m []) ≡ slice_index_or (slice_index_or inputs m []) i (scalar.Bool false) ∷ drop (i + 1) (slice_index_or inputs m []) =
    drop_more (slice_index_or inputs m []) i (scalar.Bool false) (omega (arith, long)) in
    rw (first, rest) (sym step)

each_at : {A : Type 0} (P : A → Type 0) (xs : List A) (m : ℕ) (d : A) → AllByRecursion P xs → m < length xs → P (slice_index_or xs m d)
each_at P [] m d all lt = absurd (omega (arith, lt))
each_at P (x ∷ xs) zero d all lt = all.0
each_at P (x ∷ xs) (suc m) d all lt = each_at P xs m d all.1 (omega (arith, lt))

rows_back : (ps : List PortView) (inputs : List (List Scalar)) (n cycles : ℕ) → n + cycles ≡ length inputs → AllByRecursion (λ xs. length xs ≡ length ps) inputs
    → inputs_from n cycles (input_tables 0 ps inputs) ≡ drop n inputs
rows_back ps inputs n zero all long = sym (drop_all n inputs (omega (arith, all)))
rows_back ps inputs n (suc cycles) all long =
    let lt : n < length inputs = omega (arith, all) in
    let size = each_at (λ xs. length xs ≡ length ps) inputs n [] long lt in
    let first : map (value_in n) (input_tables 0 ps inputs) ≡ slice_index_or inputs n [] = row_back ps 0 n inputs lt (omega (arith, size)) in
    let rest = rows_back ps inputs (n + 1) cycles (omega (arith, all)) long in
    rw (first, rest) (sym (drop_more inputs n [] lt))

fit_sizes : (ps : List PortView) (inputs : List (List Scalar)) → AllByRecursion (ScalarsFit ps) inputs → AllByRecursion (λ xs. length xs ≡ length ps) inputs
fit_sizes ps [] all = tt
fit_sizes ps (xs ∷ rest) all = (AllZip-long (λ (p : PortView) x. scalar_sort x ≡ p.sort) ps xs all.0, fit_sizes ps rest all.1)

-- the tables of fitting inputs give the inputs back
pub inputs_back : (ps : List PortView) (inputs : List (List Scalar)) → AllByRecursion (ScalarsFit ps) inputs → inputs_from 0 (length inputs) (input_tables 0 ps inputs) ≡ inputs
inputs_back ps inputs fit = rows_back ps inputs 0 (length inputs) (omega arith) (fit_sizes ps inputs fit)

-- ---- sorts

-- the inputs from this place on fit
abbrev pub FitFrom : ℕ → List PortView → List (List Scalar) → Type 0
FitFrom i ps inputs = AllByRecursion (λ xs. ScalarsFit ps (drop i xs)) inputs

first_fits : (p : PortView) (ps : List PortView) (i : ℕ) (xs : List Scalar) → ScalarsFit (p ∷ ps) (drop i xs) → (scalar_sort (slice_index_or xs i (scalar.Bool false)) ≡ p.sort) × ScalarsFit ps (drop (suc i) xs)
first_fits p ps zero [] fit = absurd fit
first_fits p ps zero (x ∷ xs) fit = (fit.0, fit.1)
first_fits p ps (suc i) [] fit = absurd fit
first_fits p ps (suc i) (x ∷ xs) fit = first_fits p ps i xs fit

pub column_fits : (p : PortView) (ps : List PortView) (i : ℕ) (inputs : List (List Scalar)) → FitFrom i (p ∷ ps) inputs → AllByRecursion (λ x. scalar_sort x ≡ p.sort) (column i inputs) × FitFrom (i + 1) ps inputs
column_fits p ps i [] fit = (tt, tt)
column_fits p ps i (xs ∷ rest) fit =
    let first = first_fits p ps i xs fit.0 in
    let others = column_fits p ps i rest fit.1 in
    let next : ScalarsFit ps (drop (i + 1) xs) = rw add-one first.1 in
    ((first.0, others.0), (next, others.1))

-- ---- words of 64 bits

short_value : (xs : List Scalar) (i : ℕ) → AllByRecursion IsShortScalar xs → IsShortScalar (slice_index_or xs i (scalar.Bool false))
short_value [] i short = tt
short_value (x ∷ xs) zero short = short.0
short_value (x ∷ xs) (suc i) short = short_value xs i short.1

short_column : (i : ℕ) (inputs : List (List Scalar)) → AllByRecursion (AllByRecursion IsShortScalar) inputs → AllByRecursion IsShortScalar (column i inputs)
short_column i [] short = tt
short_column i (xs ∷ rest) short = (short_value xs i short.0, short_column i rest short.1)

short_default : (s : Sort) → IsShortScalar (default_of s)
short_default sort.Bool = tt
short_default sort.Word = omega arith
short_default sort.Memory = omega arith

short_rows : (xs : List Scalar) → AllByRecursion IsShortScalar xs → AllByRecursion IsShortRow (map value_row xs)
short_rows [] short = tt
short_rows (x ∷ xs) short = (record { args = tt; value = short.0 }, short_rows xs short.1)

-- what has short values is a short table
pub short_values : (s : Sort) (xs : List Scalar) → AllByRecursion IsShortScalar xs → IsShortTable (values_table s xs)
short_values s xs short = record { default = short_default s; rows = short_rows xs short }

pub short_inputs : (i : ℕ) (ps : List PortView) (inputs : List (List Scalar)) → AllByRecursion (AllByRecursion IsShortScalar) inputs → AllByRecursion IsShortTable (input_tables i ps inputs)
short_inputs i [] inputs short = tt
short_inputs i (p ∷ ps) inputs short = (short_values p.sort (column i inputs) (short_column i inputs short), short_inputs (i + 1) ps inputs short)
