-- The names, symbols and visible entries of a design.
use Rattle.std.proofs.Common.{◌≡◌, ◌≢◌, ⊎_elim, inl, inr, ℕ, suc, ◌+◌, ◌<◌, ◌≤◌, List, [], ◌∷◌, ◌++◌, length, map, Option, Some, None, refl, ap, sym, ◌∙◌, subst, arith}
use Rattle.std.specs.Prelude.{◌⊎◌, slice_get}
use Rattle.std.specs.List.{filter_map, AllByRecursion, AllPairs, AllZip}
use Rattle.std.proofs.lemmas.List.Elements.{All-from_recursion}
use Rattle.std.proofs.lemmas.List.Kept.{AllPairs-cons}
use Rattle.bd_model.specs.DesignView.{PortView}
use Rattle.bd_model.specs.Name.{IsName}
use Rattle.bd_model.specs.declared.design.Entry as entry
use Rattle.bd_model.specs.declared.design.Symbol as symbol
use Rattle.bd_syntax.specs.Forms.{ItemView}
use Rattle.bd_typer.specs.declared.names.Meaning.{Meaning}
use Rattle.bd_typer.specs.declared.names.Meaning.TheVariants.{Entry, Input, Symbol}
use Rattle.bd_typer.specs.Joined.{entry_place, TypedMachine}
use Rattle.bd_typer.specs.NameMap.{no_names}
use Rattle.bd_typer.proofs.Faultless.{IsShared}
use Rattle.bd_typer.proofs.Machines.{MachineIs, was_unknown, shared_stands, mapped_length}
use Rattle.bd_typer.proofs.DeclaredNames.{input_entry}
use Rattle.bd_typer.proofs.TypedItems.{port_entry}

pub all_from : {X : Type 0} (P : X → Type 0) (xs : List X) → ((n : ℕ) (x : X) → slice_get xs n ≡ Some x → P x) → AllByRecursion P xs
all_from P [] h = tt
all_from P (x ∷ xs) h = (h 0 x refl, all_from P xs (λ n y there. h (suc n) y there))

all_map : {X Y : Type 0} (P : Y → Type 0) (f : X → Y) (xs : List X) → AllByRecursion (λ x. P (f x)) xs → AllByRecursion P (map f xs)
all_map P f [] h = tt
all_map P f (x ∷ xs) h = (h.0, all_map P f xs h.1)

pub all_append : {X : Type 0} (P : X → Type 0) (xs ys : List X) → AllByRecursion P xs → AllByRecursion P ys → AllByRecursion P (xs ++ ys)
all_append P [] ys h g = g
all_append P (x ∷ xs) ys h g = (h.0, all_append P xs ys h.1 g)

append_length : {X : Type 0} (xs ys : List X) → length (xs ++ ys) ≡ length xs + length ys
append_length [] ys = omega arith
append_length (x ∷ xs) ys = omega (arith, append_length xs ys)

-- ---- items that tell their places are different

-- from a place on
abbrev pub AtPlaces : {X : Type 0} → (X → ℕ) → ℕ → List X → Type 0
AtPlaces tag k [] = Unit {0}
AtPlaces tag k (x ∷ xs) = (tag x ≡ k) × AtPlaces tag (k + 1) xs

module _ {X : Type 0} (tag : X → ℕ) where
  placed_append : (k : ℕ) (xs ys : List X) → AtPlaces tag k xs → AtPlaces tag (k + length xs) ys → AtPlaces tag k (xs ++ ys)
  placed_append k [] ys h g = let e : k + 0 ≡ k = omega arith in subst (λ n. AtPlaces tag n ys) e g
  placed_append k (x ∷ xs) ys h g =
      let e : k + length (x ∷ xs) ≡ (k + 1) + length xs = omega arith in
      (h.0, placed_append (k + 1) xs ys h.1 (subst (λ n. AtPlaces tag n ys) e g))

  later : (x : X) (k : ℕ) (xs : List X) → tag x < k → AtPlaces tag k xs → AllByRecursion (λ y. x ≢ y) xs
  later x k [] lt h = tt
  later x k (y ∷ ys) lt h = (λ same. absurd (omega (arith, h.0, ap tag same)), later x (k + 1) ys (omega arith) h.1)

  pub different : (k : ℕ) (xs : List X) → AtPlaces tag k xs → AllPairs ◌≢◌ xs
  different k [] h = λ i j d lt within. absurd (omega (arith, within))
  different k (x ∷ xs) h = AllPairs-cons ◌≢◌ x xs (All-from_recursion (λ y. x ≢ y) xs (later x (k + 1) xs (omega (arith, h.0)) h.1)) (different (k + 1) xs h.1)

placed_map : {X Y : Type 0} (tag : Y → ℕ) (g : X → Y) (k : ℕ) (xs : List X) → ((n : ℕ) (x : X) → slice_get xs n ≡ Some x → tag (g x) ≡ k + n) → AtPlaces tag k (map g xs)
placed_map tag g k [] h = tt
placed_map tag g k (x ∷ xs) h = (omega (arith, h 0 x refl), placed_map tag g (k + 1) xs (λ n y there. omega (arith, h (suc n) y there)))

-- ---- names

-- what a name means in the first file, else in the second
abbrev or_second : Option Meaning → Option Meaning → Option Meaning
or_second (Some m) second = Some m
or_second None second = second

-- the place among the symbols, entries and inputs of a design
abbrev place : ℕ → ℕ → Option Meaning → ℕ
place symbols entries (Some (Symbol n a p)) = n
place symbols entries (Some (Entry n s)) = symbols + n
place symbols entries (Some (Input n s)) = (symbols + entries) + n
place symbols entries _ = 0

port_names : (ports : List PortView) → map (λ (e : entry.Entry). e.name) (map port_entry ports) ≡ map (λ (p : PortView). p.name) ports
port_names [] = refl
port_names (p ∷ ports) = ap (λ ns. p.name ∷ ns) (port_names ports)

abbrev name_at : Option entry.Entry → List ℕ
name_at None = []
name_at (Some e) = e.name

module _ (pipe_items spec_items : List ItemView) (pipe spec : TypedMachine) (p : MachineIs spec.symbols no_names [] pipe_items pipe) (s : MachineIs spec.symbols pipe.typed.names pipe.symbols spec_items spec) where
  abbrev inputs : List entry.Entry
  inputs = filter_map input_entry pipe_items

  -- a symbol is one of the pipeline, or of the specification and unknown there
  symbol_meant : (n : ℕ) (y : symbol.Symbol) → slice_get spec.symbols n ≡ Some y
      → (p.names y.name ≡ Some (Symbol n y.arity y.predicate)) ⊎ ((p.names y.name ≡ None) × (s.names y.name ≡ Some (Symbol n y.arity y.predicate)))
  symbol_meant n y there = ⊎_elim
      (λ (q : slice_get pipe.symbols n ≡ Some y). ⊎_elim (λ (r : None ≡ Some y). absurd (cc r)) (λ r. inl r.0) (p.scope.symbols_named n y q))
      (λ q. inr (was_unknown spec.symbols no_names [] pipe_items pipe p y.name q.1, q.0))
      (s.scope.symbols_named n y there)

  symbol_well : (n : ℕ) (y : symbol.Symbol) → slice_get spec.symbols n ≡ Some y → IsName y.name × (y.arity ≤ 8)
  symbol_well n y there = ⊎_elim (λ q. p.scope.well y.name (Symbol n y.arity y.predicate) q) (λ q. s.scope.well y.name (Symbol n y.arity y.predicate) q.1) (symbol_meant n y there)

  pub arities_small : AllByRecursion (λ (y : symbol.Symbol). y.arity ≤ 8) spec.symbols
  arities_small = all_from (λ (y : symbol.Symbol). y.arity ≤ 8) spec.symbols (λ n y there. (symbol_well n y there).1)

  abbrev tag : List ℕ → ℕ
  tag q = place (length spec.symbols) (length pipe.entries) (or_second (p.names q) (s.names q))

  symbol_tag : (n : ℕ) (y : symbol.Symbol) → slice_get spec.symbols n ≡ Some y → tag y.name ≡ n
  symbol_tag n y there = ⊎_elim
      (λ (q : p.names y.name ≡ Some (Symbol n y.arity y.predicate)). rw q refl)
      (λ (q : (p.names y.name ≡ None) × (s.names y.name ≡ Some (Symbol n y.arity y.predicate))). rw (q.0, q.1) refl)
      (symbol_meant n y there)

  entry_tag : (n : ℕ) (e : entry.Entry) → slice_get pipe.entries n ≡ Some e → tag e.name ≡ length spec.symbols + n
  entry_tag n e there = rw (p.scope.entries_named n e there) refl

  input_tag : (n : ℕ) (e : entry.Entry) → slice_get inputs n ≡ Some e → tag e.name ≡ (length spec.symbols + length pipe.entries) + n
  input_tag n e there = rw (p.scope.inputs_named n e there) refl

  abbrev symbol_names : List (List ℕ)
  symbol_names = map (λ (y : symbol.Symbol). y.name) spec.symbols

  abbrev entry_names : List (List ℕ)
  entry_names = map (λ (e : entry.Entry). e.name) pipe.entries

  inputs_named : map (λ (e : entry.Entry). e.name) inputs ≡ map (λ (q : PortView). q.name) pipe.typed.ports
  inputs_named = ap (map (λ (e : entry.Entry). e.name)) (sym p.ports) ∙ port_names pipe.typed.ports

  -- the names of the symbols, the pipeline's entries and its inputs
  pub names_well : AllByRecursion IsName ((symbol_names ++ entry_names) ++ map (λ (q : PortView). q.name) pipe.typed.ports)
  names_well = subst (λ ns. AllByRecursion IsName ((symbol_names ++ entry_names) ++ ns)) inputs_named
      (all_append IsName (symbol_names ++ entry_names) _
      (all_append IsName symbol_names entry_names
      (all_map IsName (λ (y : symbol.Symbol). y.name) spec.symbols (all_from (λ (y : symbol.Symbol). IsName y.name) spec.symbols (λ n y there. (symbol_well n y there).0)))
      (all_map IsName (λ (e : entry.Entry). e.name) pipe.entries (all_from (λ (e : entry.Entry). IsName e.name) pipe.entries (λ n e there. (p.scope.well e.name (Entry n e.sort) (p.scope.entries_named n e there)).0))))
      (all_map IsName (λ (e : entry.Entry). e.name) inputs (all_from (λ (e : entry.Entry). IsName e.name) inputs (λ n e there. (p.scope.well e.name (Input n e.sort) (p.scope.inputs_named n e there)).0))))

  pub names_different : AllPairs ◌≢◌ ((symbol_names ++ entry_names) ++ map (λ (q : PortView). q.name) pipe.typed.ports)
  names_different =
      let symbols_placed : AtPlaces tag 0 symbol_names = placed_map tag (λ (y : symbol.Symbol). y.name) 0 spec.symbols (λ n y there. omega (arith, symbol_tag n y there)) in
      let entries_placed : AtPlaces tag (length spec.symbols) entry_names = placed_map tag (λ (e : entry.Entry). e.name) (length spec.symbols) pipe.entries entry_tag in
      let inputs_placed : AtPlaces tag (length spec.symbols + length pipe.entries) (map (λ (e : entry.Entry). e.name) inputs) = placed_map tag (λ (e : entry.Entry). e.name) (length spec.symbols + length pipe.entries) inputs input_tag in
      let e : length spec.symbols ≡ 0 + length symbol_names = omega (arith, mapped_length (λ (y : symbol.Symbol). y.name) spec.symbols) in
      let g : length spec.symbols + length pipe.entries ≡ 0 + length (symbol_names ++ entry_names) =
      omega (arith, append_length symbol_names entry_names, mapped_length (λ (y : symbol.Symbol). y.name) spec.symbols, mapped_length (λ (x : entry.Entry). x.name) pipe.entries) in
      subst (λ ns. AllPairs ◌≢◌ ((symbol_names ++ entry_names) ++ ns)) inputs_named
      (different tag 0 _ (placed_append tag 0 (symbol_names ++ entry_names) _
      (placed_append tag 0 symbol_names entry_names symbols_placed (subst (λ n. AtPlaces tag n entry_names) e entries_placed))
      (subst (λ n. AtPlaces tag n (map (λ (x : entry.Entry). x.name) inputs)) g inputs_placed)))

  -- ---- what is visible

  abbrev visible : List entry.Entry → List ℕ
  visible xs = map (λ (x : entry.Entry). entry_place (pipe.typed.names x.name)) xs

  visible_there : (xs : List entry.Entry) → AllByRecursion (IsShared pipe.typed.names) xs → AllZip (λ (x : entry.Entry) i. slice_get pipe.entries i ≡ Some x) xs (visible xs)
  visible_there [] h = tt
  visible_there (x ∷ xs) h = (shared_stands spec.symbols no_names [] pipe_items pipe p x h.0, visible_there xs h.1)

  abbrev spec_place : ℕ → ℕ
  spec_place i = entry_place (s.names (name_at (slice_get pipe.entries i)))

  visible_placed : (k : ℕ) (xs : List entry.Entry) (vs : List ℕ) → AllZip (λ (x : entry.Entry) i. slice_get pipe.entries i ≡ Some x) xs vs → ((n : ℕ) (x : entry.Entry) → slice_get xs n ≡ Some x → entry_place (s.names x.name) ≡ k + n) → AtPlaces spec_place k vs
  visible_placed k [] [] h g = tt
  visible_placed k [] (v ∷ vs) h g = absurd h
  visible_placed k (x ∷ xs) [] h g = absurd h
  visible_placed k (x ∷ xs) (v ∷ vs) h g =
      let here : spec_place v ≡ k + 0 = ap (λ o. entry_place (s.names (name_at o))) h.0 ∙ g 0 x refl in
      (omega (arith, here), visible_placed (k + 1) xs vs h.1 (λ n y there. omega (arith, g (suc n) y there)))

  module _ (shared : AllByRecursion (IsShared pipe.typed.names) spec.entries) where
    pub visible_stands : AllZip (λ (x : entry.Entry) i. slice_get pipe.entries i ≡ Some x) spec.entries (visible spec.entries)
    visible_stands = visible_there spec.entries shared

    pub visible_different : AllPairs ◌≢◌ (visible spec.entries)
    visible_different = different spec_place 0 (visible spec.entries)
        (visible_placed 0 spec.entries (visible spec.entries) visible_stands (λ n x there. omega (arith, ap entry_place (s.scope.entries_named n x there))))
