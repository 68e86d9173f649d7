-- What is left of two lists at the end, where one of them has none left.
use Rattle.std.proofs.Common.{◌≡◌, ℕ, ◌≤◌, min, List, [], ◌∷◌, ◌++◌, length, map, drop, Option, Result, Ok, refl, sym, ap, ◌∙◌, inl, inr, ◌⊎◌, arith}
use Rattle.std.specs.List.{zip, flat_map}
use Rattle.std.proofs.lemmas.Bool.{cases_lt}
use Rattle.std.proofs.lemmas.List.{append-nil, drop_all}
use Rattle.bd_text.specs.Nodes.{Node}
use Rattle.bd_syntax.specs.Reading.{Fault}
use Rattle.bd_syntax.proofs.EachForm.{with_front}
use Rattle.bd_model.specs.declared.table.Table.{Table}
use Rattle.bd_model.specs.declared.table.Value.{Value}
use Rattle.bd_model.specs.declared.design.Symbol.{Symbol}
use Rattle.bd_model.specs.declared.design.Entry.{Entry}
use Rattle.bd_case.specs.Reading.{whole_form}
use Rattle.bd_case.specs.Text.{symbol_nodes, state_nodes}
use Rattle.bd_case.specs.declared.kind.Version.{Version}
use Rattle.bd_case.specs.declared.kind.EntryKind.{EntryKind}

abbrev EitherEmpty : {A B : Type 0} → List A → List B → Type 0
EitherEmpty xs ys = (xs ≡ []) ⊎ (ys ≡ [])

nothing_more : {C : Type 0} (out rest total : List C) → rest ≡ [] → out ++ rest ≡ total → out ≡ total
nothing_more out rest total none e = sym (append-nil out) ∙ sym (ap (λ r. out ++ r) none) ∙ e

zip_none : {A B : Type 0} (xs : List A) (ys : List B) → EitherEmpty xs ys → zip xs ys ≡ []
zip_none [] ys h = refl
zip_none (x ∷ xs) [] h = refl
zip_none (x ∷ xs) (y ∷ ys) (inl h) = absurd (cc)
zip_none (x ∷ xs) (y ∷ ys) (inr h) = absurd (cc)

pub zip_end : {A B C : Type 0} (g : A × B → C) (out : List C) (xs : List A) (ys : List B) (total : List C) → EitherEmpty xs ys
    → out ++ map g (zip xs ys) ≡ total → out ≡ total
zip_end g out xs ys total h e = nothing_more out (map g (zip xs ys)) total (ap (map g) (zip_none xs ys h)) e

state_none : (es : List Entry) (vs : List Value) → EitherEmpty es vs → state_nodes es vs ≡ []
state_none [] vs h = refl
state_none (e ∷ es) [] h = refl
state_none (e ∷ es) (v ∷ vs) (inl h) = absurd (cc)
state_none (e ∷ es) (v ∷ vs) (inr h) = absurd (cc)

pub state_end : (line : Node → List ℕ) (out : List ℕ) (es : List Entry) (vs : List Value) (total : List ℕ) → EitherEmpty es vs
    → out ++ flat_map line (state_nodes es vs) ≡ total → out ≡ total
state_end line out es vs total h e = nothing_more out (flat_map line (state_nodes es vs)) total (ap (flat_map line) (state_none es vs h)) e

symbols_none : (version : Version) (distinct : List (List ℕ)) (f : ℕ) (ys : List Symbol) (ts : List Table) → EitherEmpty ys ts → symbol_nodes version distinct f ys ts ≡ []
symbols_none version distinct f [] ts h = refl
symbols_none version distinct f (y ∷ ys) [] h = refl
symbols_none version distinct f (y ∷ ys) (t ∷ ts) (inl h) = absurd (cc)
symbols_none version distinct f (y ∷ ys) (t ∷ ts) (inr h) = absurd (cc)

either_done : (f : ℕ) (ys : List Symbol) (ts : List Table) → min (length ys) (length ts) ≤ f → EitherEmpty (drop f ys) (drop f ts)
either_done f ys ts le =
    elim (cases_lt f (length ys)) [ inl lt ↦ inr (drop_all f ts (omega arith)) | inr past ↦ inl (drop_all f ys past) ]

pub symbols_end : (line : Node → List ℕ) (out : List ℕ) (version : Version) (distinct : List (List ℕ)) (f : ℕ) (ys : List Symbol) (ts : List Table) (total : List ℕ)
    → min (length ys) (length ts) ≤ f → out ++ flat_map line (symbol_nodes version distinct f (drop f ys) (drop f ts)) ≡ total → out ≡ total
symbols_end line out version distinct f ys ts total le e =
    nothing_more out (flat_map line (symbol_nodes version distinct f (drop f ys) (drop f ts))) total
    (ap (flat_map line) (symbols_none version distinct f (drop f ys) (drop f ts) (either_done f ys ts le))) e

-- ---- everything that a case gives

whole_none : (offset : ℕ) (ks : List EntryKind) (given : List (Option Table)) → EitherEmpty ks given → whole_form offset ks given ≡ Ok []
whole_none offset [] given h = refl
whole_none offset (k ∷ ks) [] h = refl
whole_none offset (k ∷ ks) (g ∷ given) (inl h) = absurd (cc)
whole_none offset (k ∷ ks) (g ∷ given) (inr h) = absurd (cc)

pub whole_end : (offset : ℕ) (ks : List EntryKind) (given : List (Option Table)) (front : List Table) (total : Result (List Table) Fault) → EitherEmpty ks given
    → with_front front (whole_form offset ks given) ≡ total → total ≡ Ok front
whole_end offset ks given front total h e =
    sym e ∙ ap (with_front front) (whole_none offset ks given h) ∙ ap Ok (append-nil front)
