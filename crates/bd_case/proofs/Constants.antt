-- Constants that are kept apart have different values, and the test of it says so.
use Rattle.std.proofs.Common.{◌≡◌, ◌≢◌, ℕ, zero, suc, ◌<◌, Bool, false, List, [], ◌∷◌, ◌++◌, length, get_or, Ok, refl, sym, ap, ◌∙◌, arith}
use Rattle.std.specs.Prelude.{◌||◌, nat_eq}
use Rattle.std.specs.List.{AllByRecursion, AllZip, AllPairs, list_any}
use Rattle.std.proofs.lemmas.List.{length-map, get_or-map}
use Rattle.std.proofs.lemmas.List.Folds.{list_any-append}
use Rattle.std.proofs.lemmas.List.Elements.{All-from_recursion}
use Rattle.std.proofs.lemmas.List.Kept.{AllPairs-cons}
use Rattle.bd_model.specs.DesignView.{DesignView}
use Rattle.bd_model.specs.Lawful.{IsLawful, IsLawfulGroup, IsConstant}
use Rattle.bd_model.specs.Value.{table_of, no_table}
use Rattle.bd_model.specs.Fits.{scalar_sort, TableFits, DefaultsDiffer, KeepsApart, TrailFits}
use Rattle.bd_model.specs.declared.table.Scalar.{Scalar}
use Rattle.bd_model.specs.declared.table.Scalar.TheVariants as scalar
use Rattle.bd_model.specs.declared.table.Table.{Table}
use Rattle.bd_model.specs.declared.design.Sort.TheVariants as sort
use Rattle.bd_model.specs.declared.case.Trail.{Trail}
use Rattle.bd_model.proofs.Pairs.{AllZip-at}
use Rattle.bd_model.specs.Value.{scalar_word}
use Rattle.bd_case.specs.Reading.{repeats, constants, distinct_form}
use Rattle.bd_list.proofs.Truths.{neither}

-- ---- a list without repeats

-- none of them stands among the others
abbrev NoneOf : List ℕ → List ℕ → Type 0
NoneOf before xs = AllByRecursion (λ x. list_any (nat_eq x) before ≡ false) xs

each_get : (P : ℕ → Type 0) (xs : List ℕ) → ((k : ℕ) → k < length xs → P (get_or xs k 0)) → AllByRecursion P xs
each_get P [] h = tt
each_get P (x ∷ xs) h = (h zero (omega arith), each_get P xs (λ k lt. h (suc k) (omega arith)))

other_value : (before : List ℕ) (x y : ℕ) → x ≢ y → list_any (nat_eq y) before ≡ false → list_any (nat_eq y) (before ++ x ∷ []) ≡ false
other_value before x y ne none =
    let differs : nat_eq y x ≡ false = grind arith in
    list_any-append (nat_eq y) before (x ∷ []) ∙ (let both : (list_any (nat_eq y) before || (nat_eq y x || false)) ≡ false = rw (none, differs) refl in both)

more_before : (before : List ℕ) (x : ℕ) (xs : List ℕ) → AllByRecursion (λ y. x ≢ y) xs → NoneOf before xs → NoneOf (before ++ x ∷ []) xs
more_before before x [] other none = tt
more_before before x (y ∷ ys) other none = (other_value before x y other.0 none.0, more_before before x ys other.1 none.1)

different-repeats : (before xs : List ℕ) → AllPairs ◌≢◌ xs → NoneOf before xs → repeats before xs ≡ false
different-repeats before [] different none = refl
different-repeats before (x ∷ xs) different none =
    let others : AllByRecursion (λ y. x ≢ y) xs = each_get (λ y. x ≢ y) xs (λ k lt. different zero (suc k) 0 (omega arith) (omega arith)) in
    let first = none.0 in
    let rest = different-repeats (before ++ x ∷ []) xs (λ i j d below within. different (suc i) (suc j) d (omega arith) (omega arith)) (more_before before x xs others none.1) in
    rw (first, rest) refl

none_of_nothing : (xs : List ℕ) → NoneOf [] xs
none_of_nothing [] = tt
none_of_nothing (x ∷ xs) = (refl, none_of_nothing xs)

fewer_before : (before : List ℕ) (x : ℕ) (xs : List ℕ) → NoneOf (before ++ x ∷ []) xs → AllByRecursion (λ y. x ≢ y) xs × NoneOf before xs
fewer_before before x [] none = (tt, tt)
fewer_before before x (y ∷ ys) none =
    let split = neither (list_any (nat_eq y) before) (nat_eq y x || false) (sym (list_any-append (nat_eq y) before (x ∷ [])) ∙ none.0) in
    let differs = (neither (nat_eq y x) false split.1).0 in
    let rest = fewer_before before x ys none.1 in
    (((λ e. absurd (grind (arith, differs))), rest.0), (split.0, rest.1))

repeats-none : (before xs : List ℕ) → repeats before xs ≡ false → NoneOf before xs
repeats-none before [] e = tt
repeats-none before (x ∷ xs) e =
    let split = neither (list_any (nat_eq x) before) (repeats (before ++ x ∷ []) xs) e in
    (split.0, (fewer_before before x xs (repeats-none (before ++ x ∷ []) xs split.1)).1)

repeats-different : (before xs : List ℕ) → repeats before xs ≡ false → AllPairs ◌≢◌ xs
repeats-different before [] e = λ i j d below within. absurd (omega arith)
repeats-different before (x ∷ xs) e =
    let split = neither (list_any (nat_eq x) before) (repeats (before ++ x ∷ []) xs) e in
    let others = (fewer_before before x xs (repeats-none (before ++ x ∷ []) xs split.1)).0 in
    AllPairs-cons ◌≢◌ x xs (All-from_recursion (λ y. x ≢ y) xs others) (repeats-different (before ++ x ∷ []) xs split.1)

-- ---- the values of constants

scalar_word-injective : (x y : Scalar) → scalar_sort x ≡ sort.Word → scalar_sort y ≡ sort.Word → scalar_word x ≡ scalar_word y → x ≡ y
scalar_word-injective (scalar.Bool b) y p q e = absurd (cc)
scalar_word-injective (scalar.Word n) (scalar.Bool b) p q e = absurd (cc)
scalar_word-injective (scalar.Word n) (scalar.Word m) p q e = ap scalar.Word e

abbrev IsWordAt : List Table → ℕ → Type 0
IsWordAt interp f = scalar_sort (table_of interp f).default ≡ sort.Word

each_at : (P : ℕ → Type 0) (xs : List ℕ) (i : ℕ) → AllByRecursion P xs → i < length xs → P (get_or xs i 0)
each_at P [] i h lt = absurd (omega arith)
each_at P (x ∷ xs) zero h lt = h.0
each_at P (x ∷ xs) (suc i) h lt = each_at P xs i h.1 (omega arith)

constant_word : (d : DesignView) (interp : List Table) (f : ℕ) → AllZip TableFits d.symbols interp → IsConstant d f → IsWordAt interp f
constant_word d interp f tables constant =
    let fits : TableFits constant.0 (table_of interp f) = AllZip-at TableFits d.symbols interp no_table tables f constant.0 constant.1 in
    let no_predicate = constant.3 in
    fits.default ∙ rw no_predicate refl

constants_words : (d : DesignView) (interp : List Table) (group : List ℕ) → AllZip TableFits d.symbols interp → AllByRecursion (IsConstant d) group → AllByRecursion (IsWordAt interp) group
constants_words d interp [] tables h = tt
constants_words d interp (f ∷ fs) tables h = (constant_word d interp f tables h.0, constants_words d interp fs tables h.1)

differ-values : (interp : List Table) (group : List ℕ) → AllByRecursion (IsWordAt interp) group → AllPairs (DefaultsDiffer interp) group → AllPairs ◌≢◌ (constants interp group)
differ-values interp group words different = λ i j d below within e.
    let value = λ (f : ℕ). scalar_word (table_of interp f).default in
    let size = length-map group value in
    let at_j : j < length group = omega arith in
    let at_i : i < length group = omega arith in
    different i j 0 below at_j
    (scalar_word-injective _ _ (each_at (IsWordAt interp) group i words at_i) (each_at (IsWordAt interp) group j words at_j)
    (sym (get_or-map value group i 0 d at_i) ∙ e ∙ get_or-map value group j 0 d at_j))

values-differ : (interp : List Table) (group : List ℕ) → AllPairs ◌≢◌ (constants interp group) → AllPairs (DefaultsDiffer interp) group
values-differ interp group different = λ i j d below within e.
    let value = λ (f : ℕ). scalar_word (table_of interp f).default in
    let size = length-map group value in
    different i j 0 below (omega arith)
    (get_or-map value group i d 0 (omega arith) ∙ ap scalar_word e ∙ sym (get_or-map value group j d 0 (omega arith)))

-- constants that are kept apart have no value twice
pub apart-repeats : (d : DesignView) (interp : List Table) (group : List ℕ) → AllZip TableFits d.symbols interp → IsLawfulGroup d group → KeepsApart interp group → repeats [] (constants interp group) ≡ false
apart-repeats d interp group tables lawful apart =
    different-repeats [] (constants interp group) (differ-values interp group (constants_words d interp group tables lawful.constants) apart.different) (none_of_nothing (constants interp group))

pub repeats-differ : (interp : List Table) (group : List ℕ) → repeats [] (constants interp group) ≡ false → AllPairs (DefaultsDiffer interp) group
repeats-differ interp group e = values-differ interp group (repeats-different [] (constants interp group) e)

no_group_repeats : (d : DesignView) (interp : List Table) (groups : List (List ℕ)) → AllZip TableFits d.symbols interp → AllByRecursion (IsLawfulGroup d) groups → AllByRecursion (KeepsApart interp) groups
    → list_any (λ group. repeats [] (constants interp group)) groups ≡ false
no_group_repeats d interp [] tables lawful apart = refl
no_group_repeats d interp (g ∷ gs) tables lawful apart =
    let first = apart-repeats d interp g tables lawful.0 apart.0 in
    let rest = no_group_repeats d interp gs tables lawful.1 apart.1 in
    rw (first, rest) refl

pub distinct_form-fits : (d : DesignView) (t : Trail) (offset : ℕ) → IsLawful d → TrailFits d t → distinct_form d.distinct offset t ≡ Ok t
distinct_form-fits d t offset lawful fits =
    let test = no_group_repeats d t.interp d.distinct fits.interp.tables lawful.distinct fits.interp.apart in
    rw test refl
