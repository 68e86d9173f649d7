-- What is still to come of a list, one step on and at the end.
use Rattle.std.proofs.Common.{◌≡◌, ℕ, zero, suc, ◌^◌, ◌+◌, ◌<◌, ◌≤◌, ◌-◌, Bool, true, false, cond, List, [], ◌∷◌, ◌++◌, length, map, drop, get_or, Option, Some, option_map, refl, sym, ap, ◌∙◌, arith, append_assoc}
use Rattle.std.specs.List.{AllByRecursion}
use Rattle.std.specs.Fmt.{decimal}
use Rattle.std.proofs.lemmas.List.{append-nil, at_drop_more, at_drop_all}
use Rattle.bd_text.specs.View.{nodes_from}
use Rattle.bd_text.specs.Written.{written_parts, written_rest}
use Rattle.bd_model.specs.declared.table.Scalar.{Scalar}
use Rattle.bd_case.specs.Text.{word_node, scalar_node}
use Rattle.bd_model.specs.declared.table.Table.{Table}
use Rattle.bd_case.specs.Content.{IsShort, value_in, inputs_from}
use Rattle.bd_case.specs.Reading.{place_of}
use Rattle.bd_syntax.specs.Words.{same_text}
use Rattle.bd_case.proofs.Places.{option_map-next}

-- ---- items of a list

pub map_step : {B C : Type 0} (g : B → C) (out : List C) (xs : List B) (i : ℕ) (d : B) (total : List C) → i < length xs
    → out ++ map g (drop i xs) ≡ total → (out ++ g (get_or xs i d) ∷ []) ++ map g (drop (i + 1) xs) ≡ total
map_step g out xs i d total lt e =
    append_assoc out (g (get_or xs i d) ∷ []) (map g (drop (i + 1) xs)) ∙ sym (at_drop_more (λ ys. out ++ map g ys) xs i d lt) ∙ e

pub map_end : {B C : Type 0} (g : B → C) (out : List C) (xs : List B) (i : ℕ) (total : List C) → length xs ≤ i
    → out ++ map g (drop i xs) ≡ total → out ≡ total
map_end g out xs i total le e = sym (append-nil out) ∙ sym (at_drop_all (λ ys. out ++ map g ys) xs i le) ∙ e

-- ---- arguments of a row

nonempty_rest : (ns : List ℕ) (x : Scalar) → written_rest (nodes_from (map word_node ns ++ scalar_node x ∷ [])) ≡ 32 ∷ written_parts (nodes_from (map word_node ns ++ scalar_node x ∷ []))
nonempty_rest [] x = refl
nonempty_rest (n ∷ ns) x = refl

pub arg_step : (out args : List ℕ) (i : ℕ) (x : Scalar) (total : List ℕ) → i < length args
    → out ++ written_parts (nodes_from (map word_node (drop i args) ++ scalar_node x ∷ [])) ≡ total
    → ((out ++ decimal (get_or args i 0)) ++ 32 ∷ []) ++ written_parts (nodes_from (map word_node (drop (i + 1) args) ++ scalar_node x ∷ [])) ≡ total
arg_step out args i x total lt e =
    let rest = drop (i + 1) args in
    let word = decimal (get_or args i 0) in
    let more = written_parts (nodes_from (map word_node rest ++ scalar_node x ∷ [])) in
    let joined : ((out ++ word) ++ 32 ∷ []) ++ more ≡ out ++ (word ++ 32 ∷ more) = simp append_assoc in
    joined
    ∙ ap (λ r. out ++ (word ++ r)) (sym (nonempty_rest rest x))
    ∙ sym (at_drop_more (λ ys. out ++ written_parts (nodes_from (map word_node ys ++ scalar_node x ∷ []))) args i 0 lt)
    ∙ e

-- ---- places of names

pick : (b : Bool) (i : ℕ) (r : Option ℕ) → cond b (Some i) (option_map (λ k. i + 1 + k) r) ≡ option_map (λ k. i + k) (cond b (Some 0) (option_map suc r))
pick true i r = ap Some (omega arith)
pick false i r = sym (option_map-next i r)

pub place_step : (names : List (List ℕ)) (at : ℕ) (key q : List ℕ) (old new : Option ℕ) → 0 < at → at ≤ length names → key ≡ get_or names (at - 1) []
    → old ≡ option_map (λ k. at + k) (place_of q (drop at names)) → new ≡ cond (same_text key q) (Some (at - 1)) old
    → new ≡ option_map (λ k. at - 1 + k) (place_of q (drop (at - 1) names))
place_step names at key q old new positive within is before after =
    let i = at - 1 in
    let next : at ≡ i + 1 = omega arith in
    let r = place_of q (drop (i + 1) names) in
    let earlier : old ≡ option_map (λ k. i + 1 + k) r = before ∙ ap (λ n. option_map (λ k. n + k) (place_of q (drop n names))) next in
    after
    ∙ ap (cond (same_text key q) (Some i)) earlier
    ∙ pick (same_text key q) i r
    ∙ ap (λ n. option_map (λ k. i + k) (cond (same_text n q) (Some 0) (option_map suc r))) is
    ∙ sym (at_drop_more (λ ns. option_map (λ k. i + k) (place_of q ns)) names i [] (omega arith))

pub all_short : (ns : List ℕ) → ((k : ℕ) → get_or ns k 0 < 2 ^ 64) → AllByRecursion IsShort ns
all_short [] h = tt
all_short (n ∷ ns) h = (h zero, all_short ns (λ k. h (suc k)))

-- ---- cycles

left : (n i : ℕ) → i < n → n - i ≡ suc (n - (i + 1))
left n i h = omega arith

-- the inputs of one cycle more
pub inputs_step : (out new : List (List Scalar)) (x : List Scalar) (n i : ℕ) (tables : List Table) (total : List (List Scalar)) → i < n → x ≡ map (value_in i) tables → new ≡ out ++ x ∷ []
    → out ++ inputs_from i (n - i) tables ≡ total → new ++ inputs_from (i + 1) (n - (i + 1)) tables ≡ total
inputs_step out new x n i tables total lt is put e =
    let more : inputs_from i (n - i) tables ≡ map (value_in i) tables ∷ inputs_from (i + 1) (n - (i + 1)) tables = ap (λ k. inputs_from i k tables) (left n i lt) in
    rw (put, is) (append_assoc out (map (value_in i) tables ∷ []) (inputs_from (i + 1) (n - (i + 1)) tables) ∙ sym (ap (λ xs. out ++ xs) more) ∙ e)
