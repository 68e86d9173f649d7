-- A machine file that is gone through: what its names mean, its entries and inputs, and its expressions.
use Rattle.std.proofs.Common.{◌≡◌, ℕ, Bool, zero, suc, ◌+◌, ◌≤◌, List, [], ◌∷◌, length, map, get_or, true, false, Option, Some, None, Ok, refl, ap, sym, ◌∙◌, subst, arith, inl, ⊎_elim}
use Rattle.std.specs.Prelude.{slice_get}
use Rattle.std.specs.List.{filter_map, cons_option, AllByRecursion, AllZip}
use Rattle.std.proofs.lemmas.List.{length-replicate}
use Rattle.bd_model.specs.ExprView.{ExprView, Truth}
use Rattle.bd_model.specs.DesignView.{DesignView, LocalView, PortView}
use Rattle.bd_model.specs.Lawful.{Context, HasSort, LetsHaveSorts, IsWithinLimits, context_of, IsLawfulMachine}
use Rattle.bd_model.specs.declared.design.Sort.{Sort}
use Rattle.bd_model.specs.declared.design.Entry as entry
use Rattle.bd_model.specs.declared.design.Symbol as symbol
use Rattle.bd_syntax.specs.Forms.{ItemView}
use Rattle.bd_syntax.specs.WellFormed.{HasParts, AreLimited}
use Rattle.bd_typer.specs.declared.names.Meaning.{Meaning}
use Rattle.bd_typer.specs.declared.names.Meaning.TheVariants.{Entry, Input, Symbol, Local, Later}
use Rattle.bd_typer.specs.Declarations.{next_name}
use Rattle.bd_typer.specs.Joined.{start, entry_place, TypedMachine, typed_machine, machine_of}
use Rattle.bd_typer.specs.Across.{is_entry}
use Rattle.bd_typer.specs.NameMap.{NameMap, no_names, Scope, scope_of}
use Rattle.bd_typer.specs.Repeats.{no_texts, with_names, NameSet}
use Rattle.bd_typer.specs.Walk.{Typed, typed_items}
use Rattle.bd_typer.proofs.Faultless.{IsDeclared, IsShared, entries_given}
use Rattle.bd_typer.proofs.DeclaredNames.{Stands, OthersStand, Agrees, IsScope, ScopeIs, scope_done, input_entry, declared_entry, entries_are, symbols_within}
use Rattle.bd_typer.proofs.Sound.{then_ok, same_sort-true}
use Rattle.bd_typer.proofs.TypedItems.{Fixed, FixedStands, IsLetNow, WalkIs, IsTyped, context, sorts_of, local_sorts, port_entry, items_are, items_add}
use Rattle.bd_model.specs.Limits.{longest_text}

pub at_place : {X : Type 0} (P : X → Type 0) (xs : List X) (n : ℕ) (x : X) → AllByRecursion P xs → slice_get xs n ≡ Some x → P x
at_place P [] n x h there = absurd (cc there)
at_place P (y ∷ xs) zero x h there = let e : y ≡ x = cc there in subst P e h.0
at_place P (y ∷ xs) (suc n) x h there = at_place P xs n x h.1 there

pub all_weaker : {X : Type 0} (P Q : X → Type 0) → ((x : X) → P x → Q x) → (xs : List X) → AllByRecursion P xs → AllByRecursion Q xs
all_weaker P Q f [] h = tt
all_weaker P Q f (x ∷ xs) h = (f x h.0, all_weaker P Q f xs h.1)

pub zip_from : {X Y : Type 0} (R : X → Y → Type 0) (xs : List X) (ys : List Y) (d : Y) → length ys ≡ length xs → ((n : ℕ) (x : X) → slice_get xs n ≡ Some x → R x (get_or ys n d)) → AllZip R xs ys
zip_from R [] [] d same h = tt
zip_from R [] (y ∷ ys) d same h = absurd (omega arith)
zip_from R (x ∷ xs) [] d same h = absurd (omega arith)
zip_from R (x ∷ xs) (y ∷ ys) d same h = (h 0 x refl, zip_from R xs ys d (omega arith) (λ n z there. h (suc n) z there))

pub zip_weaker : {X Y : Type 0} (R Q : X → Y → Type 0) → ((x : X) (y : Y) → R x y → Q x y) → (xs : List X) (ys : List Y) → AllZip R xs ys → AllZip Q xs ys
zip_weaker R Q f [] [] h = tt
zip_weaker R Q f [] (y ∷ ys) h = absurd h
zip_weaker R Q f (x ∷ xs) [] h = absurd h
zip_weaker R Q f (x ∷ xs) (y ∷ ys) h = (f x y h.0, zip_weaker R Q f xs ys h.1)

pub zip_right : {X Y : Type 0} (R : X → Y → Type 0) (P : Y → Type 0) → ((x : X) (y : Y) → R x y → P y) → (xs : List X) (ys : List Y) → AllZip R xs ys → AllByRecursion P ys
zip_right R P f [] [] h = tt
zip_right R P f [] (y ∷ ys) h = absurd h
zip_right R P f (x ∷ xs) [] h = absurd h
zip_right R P f (x ∷ xs) (y ∷ ys) h = (f x y h.0, zip_right R P f xs ys h.1)

one_more : {X : Type 0} (o : Option X) (xs : List X) → length (cons_option o xs) ≤ length xs + 1
one_more None xs = omega arith
one_more (Some x) xs = omega arith

pub filtered_within : {X Y : Type 0} (f : X → Option Y) (xs : List X) → length (filter_map f xs) ≤ length xs
filtered_within f [] = omega arith
filtered_within f (x ∷ xs) = omega (arith, filtered_within f xs, one_more (f x) (filter_map f xs))

pub mapped_length : {X Y : Type 0} (f : X → Y) (xs : List X) → length (map f xs) ≡ length xs
mapped_length f [] = refl
mapped_length f (x ∷ xs) = ap suc (mapped_length f xs)

pub port_sorts : (ports : List PortView) → sorts_of (map port_entry ports) ≡ map (λ (p : PortView). p.sort) ports
port_sorts [] = refl
port_sorts (p ∷ ports) = ap (λ ss. p.sort ∷ ss) (port_sorts ports)

-- what is fixed of a machine file, where these are the symbols of the design
abbrev pub fixed_of : List symbol.Symbol → List ItemView → TypedMachine → NameMap → Fixed
fixed_of all items m names = record { symbols = all; entries = m.entries; inputs = filter_map input_entry items; names = names }

abbrev pub given_of : List ItemView → NameSet
given_of items = with_names no_texts (filter_map next_name items)

pub record MachineIs (all : List symbol.Symbol) (others : NameMap) (first : List symbol.Symbol) (items : List ItemView) (m : TypedMachine) : Type 0 where
  pub names : NameMap
  pub seen : NameSet
  pub scope : IsScope others first names m.entries (filter_map input_entry items) m.symbols seen
  pub stands : FixedStands (fixed_of all items m names)
  pub walk : WalkIs (fixed_of all items m names) m.typed m.typed (given_of items)
  pub ports : map port_entry m.typed.ports ≡ filter_map input_entry items
  pub given : (n : ℕ) (e : entry.Entry) → slice_get m.entries n ≡ Some e → given_of items e.name ≡ true
  pub entries : m.entries ≡ filter_map declared_entry items
  pub local_count : length m.typed.locals ≤ length items
  pub exact_count : length m.typed.exact ≤ length items
  pub group_count : length m.typed.distinct ≤ length items
  pub symbol_count : length m.symbols ≤ length first + length items

abbrev nothing_declared : List symbol.Symbol → Scope
nothing_declared first = record { names = no_names; entries = []; inputs = 0; symbols = first }

begins : (others : NameMap) (first : List symbol.Symbol) → ScopeIs others first (nothing_declared first) [] no_texts
begins others first = record {
  scope-is = record {
    back = λ q m h. absurd (cc h);
    entries_named = λ n e h. absurd (cc h);
    inputs_named = λ n e h. absurd (cc h);
    symbols_named = λ n y h. inl h;
    kept = λ n y h. h;
    seen_names = λ q m h. absurd (cc h);
    well = λ q m h. absurd (cc h);
  };
  count = refl;
}

stands_in : (entries inputs : List entry.Entry) (symbols all : List symbol.Symbol) → ((n : ℕ) (y : symbol.Symbol) → slice_get symbols n ≡ Some y → slice_get all n ≡ Some y)
    → (q : List ℕ) (m : Meaning) → Stands entries inputs symbols q m → Stands entries inputs all q m
stands_in entries inputs symbols all kept q (Entry n s) h = h
stands_in entries inputs symbols all kept q (Input n s) h = h
stands_in entries inputs symbols all kept q (Symbol n a p) h = kept n _ h
stands_in entries inputs symbols all kept q (Local n s u) h = h
stands_in entries inputs symbols all kept q Later h = h

-- before the first item
walk_begins : (f : Fixed) (final : Typed) → WalkIs f final (start f.names (length f.entries)) no_texts
walk_begins f final = record {
  names = λ q. inl refl;
  flag_count = refl;
  flags = refl;
  lets = tt;
  let_limits = tt;
  ports = tt;
  exact = tt;
  groups = tt;
  next_count = length-replicate (length f.entries) (Truth false);
  nexts = λ q n s there meant. absurd (cc there);
}

module _ (all : List symbol.Symbol) (others : NameMap) (first : List symbol.Symbol) (items : List ItemView) (m : TypedMachine) where
  pub machine_is : OthersStand others first → IsDeclared items → AllByRecursion (Agrees others) items → AllByRecursion HasParts items → AreLimited items → typed_machine others first items ≡ Ok m
      → ((n : ℕ) (y : symbol.Symbol) → slice_get m.symbols n ≡ Some y → slice_get all n ≡ Some y) → MachineIs all others first items m
  unfolding typed_machine
  machine_is stand declared agree parts limited h kept =
      let s : Scope = scope_of others first items in
      let p = then_ok (typed_items true (start s.names (length s.entries)) items) (λ t. Ok (record { entries = s.entries; symbols = s.symbols; typed = t })) m h in
      let made : TypedMachine = record { entries = s.entries; symbols = s.symbols; typed = p.0 } in
      let e : made ≡ m = cc p.2 in
      let done = scope_done others first stand items (nothing_declared first) [] no_texts (begins others first) declared.once agree parts in
      let kept' : (n : ℕ) (y : symbol.Symbol) → slice_get s.symbols n ≡ Some y → slice_get all n ≡ Some y = subst (λ (k : TypedMachine). (n : ℕ) (y : symbol.Symbol) → slice_get k.symbols n ≡ Some y → slice_get all n ≡ Some y) (sym e) kept in
      let f : Fixed = fixed_of all items made s.names in
      let stands : FixedStands f = λ q k there. stands_in s.entries (filter_map input_entry items) s.symbols all kept' q k (done.done.scope-is.back q k there) in
      let adds = items_add items (start s.names (length s.entries)) p.0 p.1 in
      let is : s.entries ≡ filter_map declared_entry items = entries_are others items (nothing_declared first) in
      subst (MachineIs all others first items) e (record {
        names = s.names;
        seen = done.seen;
        scope = done.done.scope-is;
        stands = stands;
        walk = items_are f stands p.0 items (start s.names (length s.entries)) no_texts (walk_begins f p.0) parts limited.each done.later p.1;
        ports = adds.ports;
        given = λ n x there. at_place (λ (x : entry.Entry). given_of items x.name ≡ true) (filter_map declared_entry items) n x (entries_given items declared) (subst (λ xs. slice_get xs n ≡ Some x) is there);
        entries = is;
        local_count = omega (arith, adds.locals);
        exact_count = omega (arith, adds.exact);
        group_count = omega (arith, adds.distinct);
        symbol_count = symbols_within others items (nothing_declared first);
      })

-- an entry of this sort
meant_entry : (s : Sort) (o : Option Meaning) → is_entry s o ≡ true → (n : ℕ) × (o ≡ Some (Entry n s))
meant_entry s None h = absurd (cc h)
meant_entry s (Some (Entry n t)) h = (n, ap (λ z. Some (Entry n z)) (same_sort-true t s h))
meant_entry s (Some (Input n t)) h = absurd (cc h)
meant_entry s (Some (Symbol n a p)) h = absurd (cc h)
meant_entry s (Some (Local n t u)) h = absurd (cc h)
meant_entry s (Some Later) h = absurd (cc h)

module _ (all : List symbol.Symbol) (others : NameMap) (first : List symbol.Symbol) (items : List ItemView) (m : TypedMachine) (is : MachineIs all others first items m) where
  abbrev f : Fixed
  f = fixed_of all items m is.names

  abbrev IsLet : List ℕ → Option Meaning → Type 0
  IsLet q o = IsLetNow f m.typed.locals m.typed.flags q o

  -- names in force after the items mean what they meant before them, lets aside
  pub was_unknown : (q : List ℕ) → m.typed.names q ≡ None → is.names q ≡ None
  was_unknown q h = ⊎_elim (λ (p : m.typed.names q ≡ is.names q). sym p ∙ h) (λ (p : IsLet q (m.typed.names q)). absurd (subst (IsLet q) h p)) (is.walk.names q)

  pub was_symbol : (q : List ℕ) (n a : ℕ) (b : Bool) → m.typed.names q ≡ Some (Symbol n a b) → is.names q ≡ Some (Symbol n a b)
  was_symbol q n a b h = ⊎_elim (λ (p : m.typed.names q ≡ is.names q). sym p ∙ h) (λ (p : IsLet q (m.typed.names q)). absurd (subst (IsLet q) h p)) (is.walk.names q)

  pub was_entry : (q : List ℕ) (n : ℕ) (s : Sort) → m.typed.names q ≡ Some (Entry n s) → is.names q ≡ Some (Entry n s)
  was_entry q n s h = ⊎_elim (λ (p : m.typed.names q ≡ is.names q). sym p ∙ h) (λ (p : IsLet q (m.typed.names q)). absurd (subst (IsLet q) h p)) (is.walk.names q)

  pub symbols_stand : OthersStand m.typed.names m.symbols
  symbols_stand q n a b h = is.scope.back q (Symbol n a b) (was_symbol q n a b h)

  -- an entry that the other file shares stands at its place
  pub shared_stands : (x : entry.Entry) → IsShared m.typed.names x → slice_get m.entries (entry_place (m.typed.names x.name)) ≡ Some x
  shared_stands x h =
      let meant = meant_entry x.sort (m.typed.names x.name) h in
      let there : slice_get m.entries meant.0 ≡ Some x = is.scope.back x.name (Entry meant.0 x.sort) (was_entry x.name meant.0 x.sort meant.1) in
      subst (λ o. slice_get m.entries (entry_place o) ≡ Some x) (sym meant.1) there

  pub inputs_are : sorts_of (filter_map input_entry items) ≡ map (λ (p : PortView). p.sort) m.typed.ports
  inputs_are = ap sorts_of (sym is.ports) ∙ port_sorts m.typed.ports

  pub port_count : length m.typed.ports ≤ length items
  port_count = omega (arith, mapped_length port_entry m.typed.ports, ap length is.ports, filtered_within input_entry items)

  pub entry_count : length m.entries ≤ length items
  entry_count = omega (arith, ap length is.entries, filtered_within declared_entry items)

  abbrev Next : entry.Entry → ExprView → Type 0
  Next x e = IsTyped (context f m.typed.locals) m.typed.flags true x.sort e

  nexts_typed : AllZip Next m.entries m.typed.nexts
  nexts_typed = zip_from Next m.entries m.typed.nexts (Truth false) is.walk.next_count
      (λ n x there. is.walk.nexts x.name n x.sort (is.given n x there) (is.scope.entries_named n x there))

-- a machine of a design that has its symbols
module _ (d : DesignView) (others : NameMap) (first : List symbol.Symbol) (items : List ItemView) (m : TypedMachine) (is : MachineIs d.symbols others first items m) where
  pub context_is : (locals : List LocalView) → context (fixed_of d.symbols items m is.names) locals ≡ record (context_of d (machine_of m)) { locals = local_sorts locals }
  context_is locals = ap (λ (ins : List Sort). context_with ins locals) (inputs_are d.symbols others first items m is) where
    context_with : List Sort → List LocalView → Context
    context_with ins ls = record { symbols = d.symbols; entries = sorts_of m.entries; inputs = ins; locals = local_sorts ls }

  pub has_sort : (e : ExprView) (s : Sort) → HasSort (context (fixed_of d.symbols items m is.names) m.typed.locals) e s → HasSort (context_of d (machine_of m)) e s
  has_sort e s h = subst (λ c. HasSort c e s) (context_is m.typed.locals) h

  pub machine_lawful : length items ≤ longest_text → IsLawfulMachine d (machine_of m)
  machine_lawful few =
      let next : entry.Entry → ExprView → Type 0 = λ x e. IsTyped (context (fixed_of d.symbols items m is.names) m.typed.locals) m.typed.flags true x.sort e in
      let nexts : AllZip next m.entries m.typed.nexts = nexts_typed d.symbols others first items m is in
      record {
        locals = subst (λ c. LetsHaveSorts c m.typed.locals) (context_is []) is.walk.lets;
        nexts = zip_weaker next (λ (x : entry.Entry) e. HasSort (context_of d (machine_of m)) e x.sort) (λ x e h. has_sort e x.sort h.sort) m.entries m.typed.nexts nexts;
        local_limits = is.walk.let_limits;
        next_limits = zip_right next IsWithinLimits (λ x e h. h.limits) m.entries m.typed.nexts nexts;
        short = (
          omega (arith, few, entry_count d.symbols others first items m is),
          omega (arith, few, port_count d.symbols others first items m is),
          omega (arith, few, is.local_count),
        );
      }
