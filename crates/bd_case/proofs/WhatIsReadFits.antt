-- A trail that is read fits a lawful design, and has as many cycles as its text says.
use Rattle.std.proofs.Common.{◌≡◌, ◌≢◌, ℕ, zero, suc, ◌+◌, Bool, true, false, cond, eqb, List, [], ◌∷◌, ◌++◌, length, map, take, drop, set, Option, Some, None, Result, Ok, Err, refl, sym, ap, ◌∙◌, ◌-◌, ◌≤◌, subst, arith, append_assoc}
use Rattle.std.specs.Prelude.{codes, IfOk, nat_eq, nat_le, slice_get, slice_index_or, ◌&&◌}
use Rattle.std.specs.List.{AllByRecursion, AllZip, list_any, zip}
use Rattle.std.proofs.lemmas.Bool.{eqb-true, leb-true, both_ways}
use Rattle.std.proofs.lemmas.List.{length-append, length-map}
use lib.Pointwise.{pointwise}
use Rattle.bd_text.specs.declared.code.Code.TheVariants.{WrongSort, WrongArity, NotDistinct}
use Rattle.bd_syntax.specs.Words.{same_text}
use Rattle.bd_text.specs.Nodes.{Node, atom, list, Nodes, no_nodes, node, node_count}
use Rattle.bd_syntax.specs.Reading.{Fault, ◌>>=◌, refused, name_form, first_form, others, each_form, before_last, last_node, headed_form, end_form, offset_of, number_form, is_number, number_of}
use Rattle.bd_syntax.proofs.Results.{holds_then, holds_if, anything, split_and}
use Rattle.bd_model.specs.DesignView.{DesignView, PortView}
use Rattle.bd_model.specs.Lawful.{IsLawful, IsLawfulGroup, IsLawfulPort, IsConstant}
use Rattle.bd_model.specs.Value.{table_of, no_table}
use Rattle.bd_model.specs.Table.{row_value}
use Rattle.bd_model.specs.Fits.{scalar_sort, value_sort, RowFits, TableFits, KeepsApart, ScalarsFit, InputsFit, Fits, TrailFits}
use Rattle.bd_model.specs.declared.table.Scalar.{Scalar}
use Rattle.bd_model.specs.declared.table.Scalar.TheVariants as scalar
use Rattle.bd_model.specs.declared.table.Row.{Row}
use Rattle.bd_model.specs.declared.table.Table.{Table}
use Rattle.bd_model.specs.declared.design.Sort.{Sort}
use Rattle.bd_model.specs.declared.design.Sort.TheVariants as sort
use Rattle.bd_model.specs.declared.design.Symbol.{Symbol}
use Rattle.bd_model.specs.declared.design.Entry.{Entry}
use Rattle.bd_model.specs.declared.case.Case.{Case}
use Rattle.bd_model.specs.declared.case.Trail.{Trail}
use Rattle.bd_model.proofs.Pairs.{AllZip-at}
use Rattle.bd_case.specs.Kinds.{subject_text, head_of, is_input, is_apart, may_lack, symbol_kind, symbol_kinds, sort_kind, entry_kind, input_kind, kinds}
use Rattle.bd_case.specs.Content.{constant_table, default_of, value_of_table, value_in, inputs_from, trail_from, trail_of, case_of}
use Rattle.bd_case.specs.Reading.{truth_form, word_form, scalar_form, last_form, row_parts, counted_form, row_form, kept, table_form, value_form, values_form, defaulted_form, content_form, place_of, kind_at, place_form, parts_form, head_form, entry_form, entries_form, given_or, whole_form, repeats, constants, distinct_form, version_part, cycles_part, layout_part, HasCycles, layout_form, file_form, nothing_given, walk_form, text_form}
use Rattle.bd_case.specs.declared.kind.Subject.{Subject}
use Rattle.bd_case.specs.declared.kind.Subject.TheVariants as subjects
use Rattle.bd_case.specs.declared.kind.Layout.{Layout}
use Rattle.bd_case.specs.declared.kind.Version.{Version}
use Rattle.bd_case.specs.declared.kind.EntryHead.{EntryHead}
use Rattle.bd_case.specs.declared.kind.EntryKind.{EntryKind}
use Rattle.bd_case.proofs.Rows.{IsRowOf, IsTableOf}
use Rattle.bd_case.proofs.Constants.{repeats-differ}
use Rattle.bd_case.proofs.Contents.{symbol_head-tabled}
use Rattle.bd_case.proofs.ReadsBack.{length-symbol_kinds, sort_tabled}
use Rattle.bd_model.specs.Limits.{most_cycles}
use Rattle.bd_list.proofs.Truths.{or_left, or_right, neither}

-- ---- values, rows and tables

-- a kind of words or truth values
abbrev IsScalarKind : EntryKind → Type 0
IsScalarKind kind = kind.sort ≢ sort.Memory

-- that of an input has rows without arguments
record IsPlainKind (kind : EntryKind) : Type 0 where
  scalar : IsScalarKind kind
  input : is_input kind.head ≡ true → (kind.arity ≡ 0) × (kind.apart ≡ false)

holds_either : {A : Type 0} (P : A → Type 0) (b : Bool) (x : A) (r : Result A Fault) → P x → IfOk r P → IfOk (cond b (Ok x) r) P
holds_either P true x r h g = h
holds_either P false x r h g = g

truth_sorted : (t : Node) → IfOk (truth_form t) (λ x. scalar_sort x ≡ sort.Bool)
unfolding truth_form
truth_sorted (list offset parts) = tt
truth_sorted (atom offset text) =
    holds_either (λ x. scalar_sort x ≡ sort.Bool) (same_text text (codes "true")) (scalar.Bool true) _ refl
    (holds_if (λ x. scalar_sort x ≡ sort.Bool) (same_text text (codes "false")) (scalar.Bool false) (record { offset = offset; code = WrongSort }) (λ e. refl))

scalar_sorted : (s : Sort) (t : Node) → s ≢ sort.Memory → IfOk (scalar_form s t) (λ x. scalar_sort x ≡ s)
unfolding scalar_form
scalar_sorted sort.Bool t ne = truth_sorted t
scalar_sorted sort.Word t ne = holds_then (λ _. Unit {0}) (λ x. scalar_sort x ≡ sort.Word) (word_form t) (λ n. Ok (scalar.Word n)) (anything (word_form t)) (λ n h. refl)
scalar_sorted sort.Memory t ne = absurd (ne refl)

last_sorted : (s : Sort) (offset : ℕ) (r : Option Node) → s ≢ sort.Memory → IfOk (last_form s offset r) (λ x. scalar_sort x ≡ s)
last_sorted s offset None ne = tt
last_sorted s offset (Some t) ne = scalar_sorted s t ne

words_count : (ts : Nodes) → IfOk (each_form word_form ts) (λ ns. length ns ≡ node_count ts)
words_count no_nodes = refl
words_count (node t ts) =
    holds_then (λ _. Unit {0}) (λ ns. length ns ≡ 1 + node_count ts) (word_form t) (λ n. each_form word_form ts >>= λ ns. Ok (n ∷ ns)) (anything (word_form t))
    (λ n h. holds_then (λ ns. length ns ≡ node_count ts) (λ ns. length ns ≡ 1 + node_count ts) (each_form word_form ts) (λ ns. Ok (n ∷ ns)) (words_count ts) (λ ns g. omega arith))

before_last-count : (ts : Nodes) → node_count (before_last ts) ≡ node_count ts - 1
before_last-count no_nodes = refl
before_last-count (node t no_nodes) = refl
before_last-count (node t (node u us)) = let rest = before_last-count (node u us) in omega arith

row_holds : (kind : EntryKind) (t : Node) → IsScalarKind kind → IfOk (row_form kind t) (IsRowOf kind)
unfolding counted_form row_parts
row_holds kind (atom offset text) ne = tt
row_holds kind (list offset parts) ne = elim (eqb (node_count parts) (kind.arity + 1)) as (λ b. (eqb (node_count parts) (kind.arity + 1) ≡ b) → IfOk (cond b (row_parts kind.sort offset parts) (refused offset WrongArity)) (IsRowOf kind)) [
  | true ↦ (λ is.
      let count : node_count parts ≡ kind.arity + 1 = eqb-true _ _ is in
      let before = before_last-count parts in
      holds_then (λ ns. length ns ≡ node_count (before_last parts)) (IsRowOf kind) (each_form word_form (before_last parts)) _ (words_count (before_last parts))
      (λ ns size. holds_then (λ x. scalar_sort x ≡ kind.sort) (IsRowOf kind) (last_form kind.sort offset (last_node parts)) _ (last_sorted kind.sort offset (last_node parts) ne)
      (λ x sorted. record { arity = omega arith; value = sorted })))
  | false ↦ (λ is. tt)
] refl

rows_hold : (kind : EntryKind) (ts : Nodes) → IsScalarKind kind → IfOk (each_form (row_form kind) ts) (AllByRecursion (IsRowOf kind))
rows_hold kind no_nodes ne = tt
rows_hold kind (node t ts) ne =
    holds_then (IsRowOf kind) (AllByRecursion (IsRowOf kind)) (row_form kind t) (λ r. each_form (row_form kind) ts >>= λ rs. Ok (r ∷ rs)) (row_holds kind t ne)
    (λ r h. holds_then (AllByRecursion (IsRowOf kind)) (AllByRecursion (IsRowOf kind)) (each_form (row_form kind) ts) (λ rs. Ok (r ∷ rs)) (rows_hold kind ts ne) (λ rs g. (h, g)))

either_sorted : (b : Bool) (x y : Scalar) (s : Sort) → scalar_sort x ≡ s → scalar_sort y ≡ s → scalar_sort (cond b x y) ≡ s
either_sorted true x y s p q = p
either_sorted false x y s p q = q

row_value-sorted : (kind : EntryKind) (rs : List Row) (args : List ℕ) (x : Scalar) → AllByRecursion (IsRowOf kind) rs → scalar_sort x ≡ kind.sort → scalar_sort (row_value rs args x) ≡ kind.sort
row_value-sorted kind [] args x rows sorted = sorted
row_value-sorted kind (r ∷ rs) args x rows sorted =
    either_sorted (pointwise nat_eq r.args args) r.value (row_value rs args x) kind.sort rows.0.value (row_value-sorted kind rs args x rows.1 sorted)

kept_holds : (kind : EntryKind) (apart : Bool) (t : Table) → kind.apart ≡ apart → scalar_sort t.default ≡ kind.sort → AllByRecursion (IsRowOf kind) t.rows → IsTableOf kind (kept apart t)
kept_holds kind true t is default rows = record { default = row_value-sorted kind t.rows [] t.default rows default; rows = tt; apart = λ e. refl }
kept_holds kind false t is default rows = record { default = default; rows = rows; apart = λ e. absurd (cc) }

table_holds : (kind : EntryKind) (t : Node) (ts : Nodes) → IsScalarKind kind → IfOk (table_form kind t ts) (IsTableOf kind)
unfolding table_form
table_holds kind t ts ne =
    holds_then (λ x. scalar_sort x ≡ kind.sort) (IsTableOf kind) (scalar_form kind.sort t) _ (scalar_sorted kind.sort t ne)
    (λ x default. holds_then (AllByRecursion (IsRowOf kind)) (IsTableOf kind) (each_form (row_form kind) ts) _ (rows_hold kind ts ne)
    (λ rs rows. kept_holds kind kind.apart (record { default = x; rows = rs }) refl default rows))

-- ---- what was given

abbrev IsGiven : EntryKind → Option Table → Type 0
IsGiven kind None = Unit {0}
IsGiven kind (Some t) = IsTableOf kind t

default_sorted : (s : Sort) → s ≢ sort.Memory → scalar_sort (default_of s) ≡ s
default_sorted sort.Bool ne = refl
default_sorted sort.Word ne = refl
default_sorted sort.Memory ne = absurd (ne refl)

value_holds : (kind : EntryKind) (t : Node) → IsScalarKind kind → kind.arity ≡ 0 → IfOk (value_form kind.sort t) (IsRowOf kind)
value_holds kind t ne none =
    holds_then (λ x. scalar_sort x ≡ kind.sort) (IsRowOf kind) (scalar_form kind.sort t) _ (scalar_sorted kind.sort t ne) (λ x sorted. record { arity = sym none; value = sorted })

value_rows_hold : (kind : EntryKind) (ts : Nodes) → IsScalarKind kind → kind.arity ≡ 0 → IfOk (each_form (value_form kind.sort) ts) (AllByRecursion (IsRowOf kind))
value_rows_hold kind no_nodes ne none = tt
value_rows_hold kind (node t ts) ne none =
    holds_then (IsRowOf kind) (AllByRecursion (IsRowOf kind)) (value_form kind.sort t) (λ r. each_form (value_form kind.sort) ts >>= λ rs. Ok (r ∷ rs)) (value_holds kind t ne none)
    (λ r h. holds_then (AllByRecursion (IsRowOf kind)) (AllByRecursion (IsRowOf kind)) (each_form (value_form kind.sort) ts) (λ rs. Ok (r ∷ rs)) (value_rows_hold kind ts ne none) (λ rs g. (h, g)))

values_hold : (kind : EntryKind) (ts : Nodes) → IsScalarKind kind → (kind.arity ≡ 0) × (kind.apart ≡ false) → IfOk (values_form kind.sort ts) (IsTableOf kind)
unfolding values_form
values_hold kind ts ne plain =
    holds_then (AllByRecursion (IsRowOf kind)) (IsTableOf kind) (each_form (value_form kind.sort) ts) _ (value_rows_hold kind ts ne plain.0)
    (λ rows h. record { default = default_sorted kind.sort ne; rows = h; apart = λ e. absurd (both_ways _ plain.1 e) })

defaulted_holds : (kind : EntryKind) (offset : ℕ) (ts : Nodes) → IsScalarKind kind → IfOk (defaulted_form kind offset ts) (IsTableOf kind)
defaulted_holds kind offset no_nodes ne = tt
defaulted_holds kind offset (node t ts) ne = table_holds kind t ts ne

content_holds : (kind : EntryKind) (offset : ℕ) (ts : Nodes) → IsPlainKind kind → IfOk (content_form kind offset ts) (IsTableOf kind)
content_holds kind offset ts plain = elim (is_input kind.head) as
    (λ b. (is_input kind.head ≡ b) → IfOk (cond b (values_form kind.sort ts) (defaulted_form kind offset ts)) (IsTableOf kind)) [
      | true ↦ (λ is. values_hold kind ts plain.scalar (plain.input is))
      | false ↦ (λ is. defaulted_holds kind offset ts plain.scalar)
    ] refl

set_given : (ks : List EntryKind) (given : List (Option Table)) (i : ℕ) (t : Table) → AllZip IsGiven ks given → IsTableOf (kind_at ks i) t → AllZip IsGiven ks (set given i (Some t))
set_given [] [] i t all fits = tt
set_given [] (g ∷ given) i t all fits = absurd all
set_given (k ∷ ks) [] i t all fits = absurd all
set_given (k ∷ ks) (g ∷ given) zero t all fits = (fits, all.1)
set_given (k ∷ ks) (g ∷ given) (suc i) t all fits = (all.0, set_given ks given i t all.1 fits)

kind_at-plain : (ks : List EntryKind) (i : ℕ) → AllByRecursion IsPlainKind ks → IsPlainKind (kind_at ks i)
kind_at-plain [] i all = record { scalar = λ e. absurd (cc e); input = λ e. (refl, refl) }
kind_at-plain (k ∷ ks) zero all = all.0
kind_at-plain (k ∷ ks) (suc i) all = kind_at-plain ks i all.1

module _ (layout : Layout) (d : DesignView) (plain : AllByRecursion IsPlainKind (kinds layout.version d)) where
  parts_hold : (given : List (Option Table)) (offset : ℕ) (head : EntryHead) (ts : Nodes) → AllZip IsGiven (kinds layout.version d) given → IfOk (parts_form layout d given offset head ts) (AllZip IsGiven (kinds layout.version d))
  unfolding parts_form
  parts_hold given offset head no_nodes all = tt
  parts_hold given offset head (node t ts) all =
      holds_then (λ _. Unit {0}) (AllZip IsGiven (kinds layout.version d)) (name_form t) _ (anything (name_form t))
      (λ name h. holds_then (λ _. Unit {0}) (AllZip IsGiven (kinds layout.version d)) (place_form (kinds layout.version d) given head name.offset (place_of name.text _)) _ (anything _)
      (λ i g. holds_then (IsTableOf (kind_at (kinds layout.version d) i)) (AllZip IsGiven (kinds layout.version d)) (content_form (kind_at (kinds layout.version d) i) offset ts) _ (content_holds (kind_at (kinds layout.version d) i) offset ts (kind_at-plain (kinds layout.version d) i plain))
      (λ table fits. set_given (kinds layout.version d) given i table all fits)))

  entry_holds : (given : List (Option Table)) (t : Node) → AllZip IsGiven (kinds layout.version d) given → IfOk (entry_form layout d given t) (AllZip IsGiven (kinds layout.version d))
  unfolding entry_form
  entry_holds given (atom offset text) all = tt
  entry_holds given (list offset parts) all =
      holds_then (λ _. Unit {0}) (AllZip IsGiven (kinds layout.version d)) (first_form offset parts) _ (anything (first_form offset parts))
      (λ first h. holds_then (λ _. Unit {0}) (AllZip IsGiven (kinds layout.version d)) (head_form layout.cycles offset (node_count (others parts)) (head_of layout.version first.text)) _ (anything _)
      (λ head g. parts_hold given offset head (others parts) all))

  entries_hold : (given : List (Option Table)) (ts : Nodes) → AllZip IsGiven (kinds layout.version d) given → IfOk (entries_form layout d given ts) (AllZip IsGiven (kinds layout.version d))
  entries_hold given no_nodes all = all
  entries_hold given (node t ts) all =
      holds_then (AllZip IsGiven (kinds layout.version d)) (AllZip IsGiven (kinds layout.version d)) (entry_form layout d given t) _ (entry_holds given t all)
      (λ more h. entries_hold more ts h)

nothing_holds : (ks : List EntryKind) → AllZip IsGiven ks (nothing_given ks)
nothing_holds [] = tt
nothing_holds (k ∷ ks) = (tt, nothing_holds ks)

given_or-holds : (offset : ℕ) (kind : EntryKind) (g : Option Table) → IsPlainKind kind → IsGiven kind g → IfOk (given_or offset kind g) (IsTableOf kind)
given_or-holds offset kind (Some t) ne fits = fits
given_or-holds offset kind None ne fits =
    holds_if (IsTableOf kind) (may_lack kind.head) (constant_table (default_of kind.sort)) _ (λ e. record { default = default_sorted kind.sort ne.scalar; rows = tt; apart = λ a. refl })

whole_holds : (offset : ℕ) (ks : List EntryKind) (given : List (Option Table)) → AllByRecursion IsPlainKind ks → AllZip IsGiven ks given → IfOk (whole_form offset ks given) (AllZip IsTableOf ks)
whole_holds offset [] [] scalars all = tt
whole_holds offset [] (g ∷ given) scalars all = absurd all
whole_holds offset (k ∷ ks) [] scalars all = absurd all
whole_holds offset (k ∷ ks) (g ∷ given) scalars all =
    holds_then (IsTableOf k) (AllZip IsTableOf (k ∷ ks)) (given_or offset k g) _ (given_or-holds offset k g scalars.0 all.0)
    (λ t h. holds_then (AllZip IsTableOf ks) (AllZip IsTableOf (k ∷ ks)) (whole_form offset ks given) _ (whole_holds offset ks given scalars.1 all.1) (λ ts g. (h, g)))

-- ---- the kinds of a lawful design are plain

symbols_plain : (version : Version) (distinct : List (List ℕ)) (f : ℕ) (ys : List Symbol) → AllByRecursion IsPlainKind (symbol_kinds version distinct f ys)
symbols_plain version distinct f [] = tt
symbols_plain version distinct f (y ∷ ys) =
    (record { scalar = result_scalar y.predicate; input = λ e. absurd (both_ways _ (symbol_head-tabled version (is_apart distinct f) y.predicate) e) }, symbols_plain version distinct (f + 1) ys)
  where
    result_scalar : (predicate : Bool) → cond predicate sort.Bool sort.Word ≢ sort.Memory
    result_scalar true = λ e. absurd (cc e)
    result_scalar false = λ e. absurd (cc e)

sort_scalar : (s : Sort) → IsScalarKind (sort_kind s)
sort_scalar sort.Bool = λ e. absurd (cc e)
sort_scalar sort.Word = λ e. absurd (cc e)
sort_scalar sort.Memory = λ e. absurd (cc e)

entries_plain : (es : List Entry) → AllByRecursion IsPlainKind (map entry_kind es)
entries_plain [] = tt
entries_plain (e ∷ es) = (record { scalar = sort_scalar e.sort; input = λ h. absurd (both_ways _ (sort_tabled e.sort) h) }, entries_plain es)

inputs_plain : (d : DesignView) (ps : List PortView) → AllByRecursion (IsLawfulPort d) ps → AllByRecursion IsPlainKind (map (λ (p : PortView). input_kind p.sort) ps)
inputs_plain d [] all = tt
inputs_plain d (p ∷ ps) all = (record { scalar = all.0.sort; input = λ e. (refl, refl) }, inputs_plain d ps all.1)

pub both_all : {A : Type 0} (P : A → Type 0) (xs ys : List A) → AllByRecursion P xs → AllByRecursion P ys → AllByRecursion P (xs ++ ys)
both_all P [] ys p q = q
both_all P (x ∷ xs) ys p q = (p.0, both_all P xs ys p.1 q)

kinds_plain : (version : Version) (d : DesignView) → IsLawful d → AllByRecursion IsPlainKind (kinds version d)
kinds_plain version d lawful =
    both_all IsPlainKind (symbol_kinds version d.distinct 0 d.symbols ++ map entry_kind d.pipe.entries) _
    (both_all IsPlainKind (symbol_kinds version d.distinct 0 d.symbols) _ (symbols_plain version d.distinct 0 d.symbols) (entries_plain d.pipe.entries))
    (inputs_plain d d.pipe.ports lawful.ports)

-- ---- from tables to the trail

first_part : {A B : Type 0} (R : A → B → Type 0) (xs us : List A) (zs : List B) → AllZip R (xs ++ us) zs → AllZip R xs (take (length xs) zs)
first_part R [] us zs all = tt
first_part R (x ∷ xs) us [] all = absurd all
first_part R (x ∷ xs) us (z ∷ zs) all = (all.0, first_part R xs us zs all.1)

last_part : {A B : Type 0} (R : A → B → Type 0) (xs us : List A) (zs : List B) → AllZip R (xs ++ us) zs → AllZip R us (drop (length xs) zs)
last_part R [] us zs all = all
last_part R (x ∷ xs) us [] all = absurd all
last_part R (x ∷ xs) us (z ∷ zs) all = last_part R xs us zs all.1

rows_fit : (version : Version) (apart : Bool) (y : Symbol) (rs : List Row) → AllByRecursion (IsRowOf (symbol_kind version apart y)) rs → AllByRecursion (RowFits y) rs
rows_fit version apart y [] all = tt
rows_fit version apart y (r ∷ rs) all = (record { arity = all.0.arity; value = all.0.value }, rows_fit version apart y rs all.1)

tables_fit : (version : Version) (distinct : List (List ℕ)) (f : ℕ) (ys : List Symbol) (ts : List Table) → AllZip IsTableOf (symbol_kinds version distinct f ys) ts → AllZip TableFits ys ts
tables_fit version distinct f [] [] all = tt
tables_fit version distinct f [] (t ∷ ts) all = absurd all
tables_fit version distinct f (y ∷ ys) [] all = absurd all
tables_fit version distinct f (y ∷ ys) (t ∷ ts) all =
    (record { default = all.0.default; rows = rows_fit version (is_apart distinct f) y t.rows all.0.rows }, tables_fit version distinct (f + 1) ys ts all.1)

value_fits : (s : Sort) (t : Table) → IsTableOf (sort_kind s) t → value_sort (value_of_table s t) ≡ s
value_fits sort.Bool t fits = fits.default
value_fits sort.Word t fits = fits.default
value_fits sort.Memory t fits = refl

state_fits : (es : List Entry) (ks : List EntryKind) (ts : List Table) → AllZip IsTableOf (map entry_kind es ++ ks) ts
    → AllZip (λ (e : Entry) v. value_sort v ≡ e.sort) es (map (λ (p : Entry × Table). value_of_table p.0.sort p.1) (zip es ts))
state_fits [] ks ts all = tt
state_fits (e ∷ es) ks [] all = absurd all
state_fits (e ∷ es) ks (t ∷ ts) all = (value_fits e.sort t all.0, state_fits es ks ts all.1)

value_in-sorted : (kind : EntryKind) (n : ℕ) (rs : List Row) (x : Scalar) → AllByRecursion (IsRowOf kind) rs → scalar_sort x ≡ kind.sort
    → scalar_sort (slice_index_or (map (λ (r : Row). r.value) rs) n x) ≡ kind.sort
value_in-sorted kind n [] x rows sorted = sorted
value_in-sorted kind zero (r ∷ rs) x rows sorted = rows.0.value
value_in-sorted kind (suc n) (r ∷ rs) x rows sorted = value_in-sorted kind n rs x rows.1 sorted

inputs_fit : (n : ℕ) (ps : List PortView) (ts : List Table) → AllZip IsTableOf (map (λ (p : PortView). input_kind p.sort) ps) ts → ScalarsFit ps (map (value_in n) ts)
inputs_fit n [] [] all = tt
inputs_fit n [] (t ∷ ts) all = absurd all
inputs_fit n (p ∷ ps) [] all = absurd all
inputs_fit n (p ∷ ps) (t ∷ ts) all = (value_in-sorted (input_kind p.sort) n t.rows t.default all.0.rows all.0.default, inputs_fit n ps ts all.1)

cycles_fit : (n cycles : ℕ) (ps : List PortView) (ts : List Table) → AllZip IsTableOf (map (λ (p : PortView). input_kind p.sort) ps) ts → AllByRecursion (ScalarsFit ps) (inputs_from n cycles ts)
cycles_fit n zero ps ts all = tt
cycles_fit n (suc cycles) ps ts all = (inputs_fit n ps ts all, cycles_fit (n + 1) cycles ps ts all)

-- ---- constants that are kept apart

symbol_kinds-get : (version : Version) (distinct : List (List ℕ)) (f : ℕ) (ys : List Symbol) (i : ℕ) (y : Symbol) → slice_get ys i ≡ Some y
    → slice_get (symbol_kinds version distinct f ys) i ≡ Some (symbol_kind version (is_apart distinct (f + i)) y)
symbol_kinds-get version distinct f [] i y e = absurd (cc)
symbol_kinds-get version distinct f (z ∷ ys) zero y e =
    let same : z ≡ y = cc in
    let here : f ≡ f + 0 = omega arith in
    ap Some (ap (λ x. symbol_kind version (is_apart distinct f) x) same ∙ ap (λ n. symbol_kind version (is_apart distinct n) y) here)
symbol_kinds-get version distinct f (z ∷ ys) (suc i) y e =
    let next : f + 1 + i ≡ f + suc i = omega arith in
    symbol_kinds-get version distinct (f + 1) ys i y e ∙ ap (λ n. Some (symbol_kind version (is_apart distinct n) y)) next

module _ (version : Version) (d : DesignView) (interp : List Table) (tables : AllZip IsTableOf (symbol_kinds version d.distinct 0 d.symbols) interp) where
  without_rows : (f : ℕ) → IsConstant d f → is_apart d.distinct f ≡ true → (table_of interp f).rows ≡ []
  without_rows f constant apart =
      let y = constant.0 in
      let here : 0 + f ≡ f = omega arith in
      let fits : IsTableOf (symbol_kind version (is_apart d.distinct (0 + f)) y) (table_of interp f) =
      AllZip-at IsTableOf (symbol_kinds version d.distinct 0 d.symbols) interp no_table tables f _ (symbol_kinds-get version d.distinct 0 d.symbols f y constant.1) in
      fits.apart (ap (is_apart d.distinct) here ∙ apart)

  members_without_rows : (group : List ℕ) → AllByRecursion (IsConstant d) group → ((f : ℕ) → list_any (nat_eq f) group ≡ true → is_apart d.distinct f ≡ true) → AllByRecursion (λ f. (table_of interp f).rows ≡ []) group
  members_without_rows [] all inside = tt
  members_without_rows (f ∷ fs) all inside =
      let here : nat_eq f f ≡ true = grind arith in (
        without_rows f all.0 (inside f (or_left (nat_eq f f) (list_any (nat_eq f) fs) here)),
        members_without_rows fs all.1 (λ g e. inside g (or_right (nat_eq g f) (list_any (nat_eq g) fs) e)),
      )

  groups_apart : (groups : List (List ℕ)) → AllByRecursion (IsLawfulGroup d) groups → list_any (λ group. repeats [] (constants interp group)) groups ≡ false
      → ((f : ℕ) → is_apart groups f ≡ true → is_apart d.distinct f ≡ true) → AllByRecursion (KeepsApart interp) groups
  groups_apart [] lawful none inside = tt
  groups_apart (g ∷ gs) lawful none inside =
      let split = neither (repeats [] (constants interp g)) (list_any (λ group. repeats [] (constants interp group)) gs) none in (
        record {
          no_rows = members_without_rows g lawful.0.constants (λ f e. inside f (or_left (list_any (nat_eq f) g) (is_apart gs f) e));
          different = repeats-differ interp g split.0;
        },
        groups_apart gs lawful.1 split.1 (λ f e. inside f (or_right (list_any (nat_eq f) g) (is_apart gs f) e)),
      )

-- ---- the whole text

trail_fits : (version : Version) (cycles : ℕ) (d : DesignView) (ts : List Table) → IsLawful d → AllZip IsTableOf (kinds version d) ts
    → list_any (λ group. repeats [] (constants (trail_from d cycles ts).interp group)) d.distinct ≡ false → TrailFits d (trail_from d cycles ts)
trail_fits version cycles d ts lawful all none =
    let ks = symbol_kinds version d.distinct 0 d.symbols in
    let es = map entry_kind d.pipe.entries in
    let ps = map (λ (p : PortView). input_kind p.sort) d.pipe.ports in
    let n : length ks ≡ length d.symbols = length-symbol_kinds version d.distinct 0 d.symbols in
    let m : length (ks ++ es) ≡ length d.symbols + length d.pipe.entries = length-append ks es ∙ (let k = length-map d.pipe.entries entry_kind in omega arith) in
    let grouped : AllZip IsTableOf (ks ++ (es ++ ps)) ts = subst (λ xs. AllZip IsTableOf xs ts) (append_assoc ks es ps) all in
    let symbols : AllZip IsTableOf ks (take (length d.symbols) ts) = subst (λ k. AllZip IsTableOf ks (take k ts)) n (first_part IsTableOf ks (es ++ ps) ts grouped) in
    let rest : AllZip IsTableOf (es ++ ps) (drop (length d.symbols) ts) = subst (λ k. AllZip IsTableOf (es ++ ps) (drop k ts)) n (last_part IsTableOf ks (es ++ ps) ts grouped) in
    let last : AllZip IsTableOf ps (drop (length d.symbols + length d.pipe.entries) ts) = subst (λ k. AllZip IsTableOf ps (drop k ts)) m (last_part IsTableOf (ks ++ es) ps ts all) in
    record {
      interp = record {
        tables = tables_fit version d.distinct 0 d.symbols (take (length d.symbols) ts) symbols;
        apart = groups_apart version d (take (length d.symbols) ts) symbols d.distinct lawful.distinct none (λ f e. e);
      };
      state = state_fits d.pipe.entries ps (drop (length d.symbols) ts) rest;
      inputs = cycles_fit 0 cycles d.pipe.ports (drop (length d.symbols + length d.pipe.entries) ts) last;
    }

distinct_holds : (version : Version) (cycles : ℕ) (d : DesignView) (ts : List Table) (offset : ℕ) → IsLawful d → AllZip IsTableOf (kinds version d) ts → IfOk (distinct_form d.distinct offset (trail_from d cycles ts)) (TrailFits d)
distinct_holds version cycles d ts offset lawful all = elim (list_any (λ group. repeats [] (constants (trail_from d cycles ts).interp group)) d.distinct) as
    (λ b. (list_any (λ group. repeats [] (constants (trail_from d cycles ts).interp group)) d.distinct ≡ b) → IfOk (cond b (refused offset NotDistinct) (Ok (trail_from d cycles ts))) (TrailFits d)) [
      | true ↦ (λ is. tt)
      | false ↦ (λ is. trail_fits version cycles d ts lawful all is)
    ] refl

walk_form-fits : (layout : Layout) (d : DesignView) (offset : ℕ) (parts : Nodes) → IsLawful d → IfOk (walk_form layout d offset parts) (TrailFits d)
unfolding walk_form
walk_form-fits layout d offset parts lawful =
    let version = layout.version in
    let plain = kinds_plain version d lawful in
    holds_then (AllZip IsGiven (kinds version d)) (TrailFits d) (entries_form layout d (nothing_given (kinds version d)) parts) _ (entries_hold layout d plain (nothing_given (kinds version d)) parts (nothing_holds (kinds version d)))
    (λ given all. holds_then (AllZip IsTableOf (kinds version d)) (TrailFits d) (whole_form offset (kinds version d) given) _ (whole_holds offset (kinds version d) given plain all)
    (λ tables fits. distinct_holds version layout.cycles d tables offset lawful fits))

-- what is read fits
pub text_form-fits : (subject : Subject) (d : DesignView) (trees : Nodes) → IsLawful d → IfOk (text_form subject d trees) (TrailFits d)
unfolding text_form
text_form-fits subject d trees lawful =
    holds_then (λ _. Unit {0}) (TrailFits d) (file_form subject trees) _ (anything (file_form subject trees)) (λ file h. walk_form-fits file.1.0 d file.0 file.1.1 lawful)

-- ---- the number of cycles

length-inputs_from : (n cycles : ℕ) (ts : List Table) → length (inputs_from n cycles ts) ≡ cycles
length-inputs_from n zero ts = refl
length-inputs_from n (suc cycles) ts = let rest = length-inputs_from (n + 1) cycles ts in omega arith

distinct_cycles : (cycles : ℕ) (d : DesignView) (ts : List Table) (offset : ℕ) → IfOk (distinct_form d.distinct offset (trail_from d cycles ts)) (λ t. length t.inputs ≡ cycles)
distinct_cycles cycles d ts offset = elim (list_any (λ group. repeats [] (constants (trail_from d cycles ts).interp group)) d.distinct) as
    (λ b. IfOk (cond b (refused offset NotDistinct) (Ok (trail_from d cycles ts))) (λ (t : Trail). length t.inputs ≡ cycles)) [
      | true ↦ tt
      | false ↦ length-inputs_from 0 cycles (drop (length d.symbols + length d.pipe.entries) ts)
    ]

walk_form-cycles : (layout : Layout) (d : DesignView) (offset : ℕ) (parts : Nodes) → IfOk (walk_form layout d offset parts) (λ t. length t.inputs ≡ layout.cycles)
unfolding walk_form
walk_form-cycles layout d offset parts =
    holds_then (λ _. Unit {0}) (λ t. length t.inputs ≡ layout.cycles) (entries_form layout d (nothing_given (kinds layout.version d)) parts) _ (anything _)
    (λ given all. holds_then (λ _. Unit {0}) (λ t. length t.inputs ≡ layout.cycles) (whole_form offset (kinds layout.version d) given) _ (anything _)
    (λ tables fits. distinct_cycles layout.cycles d tables offset))

number_within : (most : ℕ) (t : Node) → IfOk (number_form most t) (λ n. n ≤ most)
unfolding number_form
number_within most (list offset parts) = tt
number_within most (atom offset text) =
    holds_if (λ n. n ≤ most) (is_number text && nat_le (number_of text) most) (number_of text) _ (λ e. leb-true _ _ (split_and (is_number text) (nat_le (number_of text) most) e).1)

cycles_within : (offset : ℕ) (r : Result ℕ Fault) → IfOk r (λ n. n ≤ most_cycles) → IfOk (cycles_part offset r) (λ l. HasCycles subjects.Trail l.cycles)
cycles_within offset (Ok n) h = h
cycles_within offset (Err e) h = tt

version_cycles : (t : Node) → IfOk (version_part t) (λ l. HasCycles subjects.Case l.cycles)
version_cycles (list offset parts) = tt
version_cycles (atom offset text) =
    holds_either (λ (l : Layout). l.cycles ≡ 1) (same_text text (codes "1")) _ _ refl
    (holds_if (λ (l : Layout). l.cycles ≡ 1) (same_text text (codes "2")) _ _ (λ e. refl))

part_cycles : (subject : Subject) (t : Node) → IfOk (layout_part subject t) (λ l. HasCycles subject l.cycles)
part_cycles subjects.Case t = version_cycles t
part_cycles subjects.Trail t = cycles_within (offset_of t) (number_form most_cycles t) (number_within most_cycles t)

layout_cycles : (subject : Subject) (offset : ℕ) (ts : Nodes) → IfOk (layout_form subject offset ts) (λ p. HasCycles subject p.0.cycles)
layout_cycles subject offset no_nodes = tt
layout_cycles subject offset (node t ts) = holds_then (λ l. HasCycles subject l.cycles) (λ p. HasCycles subject p.0.cycles) (layout_part subject t) _ (part_cycles subject t) (λ l h. h)

file_cycles : (subject : Subject) (trees : Nodes) → IfOk (file_form subject trees) (λ f. HasCycles subject f.1.0.cycles)
file_cycles subject no_nodes = tt
file_cycles subject (node t ts) =
    holds_then (λ _. Unit {0}) (λ f. HasCycles subject f.1.0.cycles) (headed_form (subject_text subject) t) _ (anything _)
    (λ inside h. holds_then (λ p. HasCycles subject p.0.cycles) (λ f. HasCycles subject f.1.0.cycles) (layout_form subject inside.0 inside.1) _ (layout_cycles subject inside.0 inside.1)
    (λ content g. holds_then (λ _. Unit {0}) (λ f. HasCycles subject f.1.0.cycles) (end_form ts) _ (anything _) (λ end k. g)))

-- what is read has as many cycles as it may have
pub text_form-cycles : (subject : Subject) (d : DesignView) (trees : Nodes) → IfOk (text_form subject d trees) (λ t. HasCycles subject (length t.inputs))
unfolding text_form
text_form-cycles subject d trees =
    holds_then (λ f. HasCycles subject f.1.0.cycles) (λ t. HasCycles subject (length t.inputs)) (file_form subject trees) _ (file_cycles subject trees)
    (λ file h. holds_as (λ (t : Trail). length t.inputs ≡ file.1.0.cycles) (λ t. HasCycles subject (length t.inputs)) (walk_form file.1.0 d file.0 file.1.1) (walk_form-cycles file.1.0 d file.0 file.1.1)
    (λ t same. subst (HasCycles subject) (sym same) h))
  where
    holds_as : {A : Type 0} (P Q : A → Type 0) (r : Result A Fault) → IfOk r P → ((x : A) → P x → Q x) → IfOk r Q
    holds_as P Q (Ok x) h f = f x h
    holds_as P Q (Err e) h f = tt

-- ---- cases

pub fits_once : (d : DesignView) (c : Case) → Fits d c → TrailFits d (trail_of c)
fits_once d c fits = record { interp = fits.interp; state = fits.state; inputs = (fits.inputs, tt) }
