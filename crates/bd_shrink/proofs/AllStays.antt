-- A case of which all stays is left as it is.
use Rattle.std.proofs.Common.{◌≡◌, ℕ, suc, ◌+◌, ◌<◌, List, [], ◌∷◌, ◌++◌, length, drop, get_or, append_assoc, refl, sym, ◌∙◌, ap, subst, add-one, drop-cons}
use Rattle.std.specs.Prelude.{replicate}
use Rattle.std.proofs.lemmas.List.{append-nil}
use Rattle.std.specs.List.{flat_map}
use Rattle.bd_model.specs.declared.table.Scalar.{Scalar}
use Rattle.bd_model.specs.declared.table.Row.{Row}
use Rattle.bd_model.specs.declared.table.Table.{Table}
use Rattle.bd_model.specs.declared.table.Slot.{Slot}
use Rattle.bd_model.specs.declared.table.Value.{Value}
use Rattle.bd_model.specs.declared.table.Value.TheVariants as value
use Rattle.bd_model.specs.declared.case.Case.{Case}
use Rattle.bd_shrink.specs.Remnant.{first_fate, row_left, slot_left, scalar_left, each_left, after_each, after_one, after_table, table_left, after_value, value_left, values_left, scalars_left, remnant}
use Rattle.bd_shrink.specs.inner.Whole.{stay_table, stay_value}
use Rattle.bd_shrink.specs.declared.fate.Fate.{Fate}
use Rattle.bd_shrink.specs.declared.fate.Fate.TheVariants.{Stays}

-- a list each item of which takes one fate
ones_stay : {X : Type 0} (left : List Fate → X → List X) → ((fs : List Fate) (x : X) → left (Stays ∷ fs) x ≡ x ∷ []) → (xs : List X) (rest : List Fate)
    → each_left left after_one (replicate (length xs) Stays ++ rest) xs ≡ xs
ones_stay left h [] rest = refl
ones_stay left h (x ∷ xs) rest =
    let fates = replicate (length xs) Stays ++ rest in
    ap (λ ys. ys ++ each_left left after_one fates xs) (h fates x) ∙ ap (λ ys. x ∷ ys) (ones_stay left h xs rest)

after_ones : {X : Type 0} (xs : List X) (rest : List Fate) → after_each after_one (replicate (length xs) Stays ++ rest) xs ≡ rest
after_ones [] rest = refl
after_ones (x ∷ xs) rest = after_ones xs rest

-- a list each item of which takes the fates of its parts
each_stays : {X : Type 0} (left : List Fate → X → List X) (after : List Fate → X → List Fate) (stay : X → List Fate)
    → ((x : X) (fs : List Fate) → left (stay x ++ fs) x ≡ x ∷ []) → ((x : X) (fs : List Fate) → after (stay x ++ fs) x ≡ fs) → (xs : List X) (rest : List Fate)
    → each_left left after (flat_map stay xs ++ rest) xs ≡ xs
each_stays left after stay h g [] rest = refl
each_stays left after stay h g (x ∷ xs) rest =
    let fates = flat_map stay xs ++ rest in
    let whole : each_left left after (stay x ++ fates) (x ∷ xs) ≡ x ∷ xs =
    ap (λ ys. ys ++ each_left left after (after (stay x ++ fates) x) xs) (h x fates)
    ∙ ap (λ fs. x ∷ each_left left after fs xs) (g x fates)
    ∙ ap (λ ys. x ∷ ys) (each_stays left after stay h g xs rest) in
    ap (λ fs. each_left left after fs (x ∷ xs)) (append_assoc (stay x) (flat_map stay xs) rest) ∙ whole

after_all : {X : Type 0} (after : List Fate → X → List Fate) (stay : X → List Fate) → ((x : X) (fs : List Fate) → after (stay x ++ fs) x ≡ fs) → (xs : List X) (rest : List Fate)
    → after_each after (flat_map stay xs ++ rest) xs ≡ rest
after_all after stay g [] rest = refl
after_all after stay g (x ∷ xs) rest =
    let fates = flat_map stay xs ++ rest in
    ap (λ fs. after_each after (after fs x) xs) (append_assoc (stay x) (flat_map stay xs) rest)
    ∙ ap (λ fs. after_each after fs xs) (g x fates)
    ∙ after_all after stay g xs rest

table_stays : (t : Table) (fs : List Fate) → table_left (stay_table t ++ fs) t ≡ t
table_stays t fs = ap (λ (rs : List Row). record { default = t.default; rows = rs }) (ones_stay (λ (fs : List Fate) (r : Row). row_left (first_fate fs) r) (λ fs r. refl) t.rows fs)

value_stays : (v : Value) (fs : List Fate) → value_left (stay_value v ++ fs) v ≡ v
value_stays (value.Scalar x) fs = refl
value_stays (value.Memory m) fs =
    ap (λ (ss : List Slot). value.Memory (record { default = m.default; rows = ss })) (ones_stay (λ (fs : List Fate) (s : Slot). slot_left (first_fate fs) s) (λ fs s. refl) m.rows fs)

table_ends : (t : Table) (fs : List Fate) → after_table (stay_table t ++ fs) t ≡ fs
table_ends t fs = after_ones t.rows fs

value_ends : (v : Value) (fs : List Fate) → after_value (stay_value v ++ fs) v ≡ fs
value_ends (value.Scalar x) fs = refl
value_ends (value.Memory m) fs = after_ones m.rows fs

parts : (i j : List Table) (s t : List Value) (x y : List Scalar) → i ≡ j → s ≡ t → x ≡ y
    → (let c : Case = record { interp = i; state = s; inputs = x } in c) ≡ record { interp = j; state = t; inputs = y }
parts i j s t x y e f g = rw (e, f, g)

case_stays : (c : Case) (inputs : List Fate) → inputs ≡ replicate (length c.inputs) Stays ++ [] → remnant (flat_map stay_table c.interp ++ (flat_map stay_value c.state ++ inputs)) c ≡ c
case_stays c inputs e =
    let table = λ (fs : List Fate) (t : Table). table_left fs t ∷ [] in
    let value = λ (fs : List Fate) (v : Value). value_left fs v ∷ [] in
    let scalar = λ (fs : List Fate) (x : Scalar). scalar_left (first_fate fs) x ∷ [] in
    let state_fates = flat_map stay_value c.state ++ inputs in
    let interp = each_stays table after_table stay_table (λ t fs. ap (λ u. u ∷ []) (table_stays t fs)) table_ends c.interp state_fates in
    let next = after_all after_table stay_table table_ends c.interp state_fates in
    let state = each_stays value after_value stay_value (λ v fs. ap (λ u. u ∷ []) (value_stays v fs)) value_ends c.state inputs in
    let last = after_all after_value stay_value value_ends c.state inputs in
    let scalars = ones_stay scalar (λ fs x. refl) c.inputs [] in
    parts _ c.interp _ c.state _ c.inputs interp (ap (λ fs. values_left fs c.state) next ∙ state)
    (ap (λ fs. scalars_left (after_each after_value fs c.state) c.inputs) next ∙ ap (λ fs. scalars_left fs c.inputs) (last ∙ e) ∙ scalars)

-- the fates that were put one after another leave the case as it is
pub whole_stays : (c : Case) (none tables values all : List Fate) → none ≡ [] → tables ≡ none ++ flat_map stay_table c.interp → values ≡ tables ++ flat_map stay_value c.state
    → all ≡ values ++ replicate (length c.inputs) Stays → remnant all c ≡ c
whole_stays c none tables values all e0 e1 e2 e3 =
    let a = flat_map stay_table c.interp in
    let b = flat_map stay_value c.state in
    let r = replicate (length c.inputs) Stays in
    let joined : all ≡ a ++ (b ++ r) = e3 ∙ ap (λ fs. fs ++ r) (e2 ∙ ap (λ fs. fs ++ b) (e1 ∙ ap (λ fs. fs ++ a) e0)) ∙ append_assoc a b r in
    ap (λ fs. remnant fs c) joined ∙ case_stays c r (sym (append-nil r))
