-- What holds of the expressions of a machine file, once all its items are gone through.
use Rattle.std.proofs.Common.{◌≡◌, ◌≢◌, ⊎_elim, inl, inr, ℕ, zero, suc, ◌+◌, ◌<◌, ◌≤◌, Bool, true, false, cond, List, [], ◌∷◌, ◌++◌, length, map, set, get_or, Option, Some, None, Result, Ok, refl, ap, sym, ◌∙◌, subst, arith, length-append, append_assoc}
use Rattle.std.specs.Prelude.{◌⊎◌, ◌==◌, ◌&&◌, not, slice_get, if◌then◌else◌}
use Rattle.std.specs.List.{filter_map, cons_option, AllByRecursion, AllPairs}
use Rattle.std.proofs.lemmas.List.{append-nil, map_push}
use Rattle.std.proofs.lemmas.Bool.Decides.{nat_tests}
use Rattle.std.proofs.lemmas.Option.{slice_get_within}
use Rattle.std.proofs.lemmas.Grind.{get_or-set_at}
use Rattle.std.proofs.lemmas.List.{get_or-set_other, length-set}
use Rattle.std.proofs.lemmas.List.Elements.{All-from_recursion}
use Rattle.std.proofs.lemmas.List.Kept.{AllPairs-cons}
use Rattle.std.proofs.lemmas.Bool.{cases_eq}
use Rattle.bd_list.proofs.Grown.{grown-push}
use Rattle.bd_model.specs.ExprView.{ExprView, Truth}
use Rattle.bd_model.specs.DesignView.{LocalView, PortView, ExactView}
use Rattle.bd_model.specs.Lawful.{Context, HasSort, LetsHaveSorts, uses_input, input_flags, IsWithinLimits}
use Rattle.bd_model.specs.declared.design.Sort.{Sort}
use Rattle.bd_model.specs.declared.design.Sort.TheVariants as sorts
use Rattle.bd_model.specs.declared.design.Entry as entry
use Rattle.bd_model.specs.declared.design.Symbol as symbol
use Rattle.bd_syntax.proofs.Results.{split_and}
use Rattle.bd_syntax.specs.Words.{same_text}
use Rattle.bd_syntax.specs.Forms.{Expression, ItemView, latch_item, memory_item, input_item, function_item, predicate_item, let_item, next_item, flush_item, steps_item, exact_item, distinct_item}
use Rattle.bd_syntax.specs.WellFormed.{IsExpression, IsLimited, IsLimitedItem, HasParts}
use Rattle.bd_syntax.specs.Reading.{Fault, refused}
use Rattle.bd_syntax.specs.declared.form.Spot.{Spot}
use Rattle.bd_typer.specs.declared.names.Meaning.{Meaning}
use Rattle.bd_typer.specs.declared.names.Meaning.TheVariants.{Entry, Input, Symbol, Local, Later}
use Rattle.bd_typer.specs.Faults.{◌>>=◌}
use Rattle.bd_typer.specs.Declarations.{next_name}
use Rattle.bd_typer.specs.NameMap.{NameMap, declare}
use Rattle.bd_typer.specs.Typing.{typed}
use Rattle.bd_typer.specs.Walk.{Typed, typed_input, with_local, typed_let, entry_named, typed_next, typed_exact, constant_named, constants, typed_distinct, typed_item, typed_items}
use Rattle.bd_typer.proofs.Lists.{some_is, same_text-true, same_text-same, get-left, get-end}
use Rattle.bd_typer.specs.Repeats.{NameSet, no_texts, with_text, with_names}
use Rattle.bd_typer.proofs.DeclaredNames.{Stands, LetIsLater, input_entry}
use Rattle.bd_text.specs.declared.code.Code.TheVariants.{DeclaredTwice}
use Rattle.bd_typer.proofs.Sound.{Fits, NamesFit, typed_sound, then_ok, passes}
use Rattle.bd_model.specs.Limits.{longest_text, most_items}

-- an expression of a sort, that uses no input where none may be used, within the limits
pub record IsTyped (c : Context) (flags : List Bool) (inputs : Bool) (s : Sort) (e : ExprView) : Type 0 where
  pub sort : HasSort c e s
  pub no_input : inputs ≡ false → uses_input flags e ≡ false
  pub limits : IsWithinLimits e

pub typed_within : (c : Context) (flags : List Bool) (names : NameMap) (inputs : Bool) (want : Sort) (source : Expression) (e : ExprView) → NamesFit c flags inputs names → IsExpression source → IsLimited source
    → typed names inputs want source ≡ Ok e → IsTyped c flags inputs want e
typed_within c flags names inputs want source e fits is limited h =
    let s = typed_sound c flags names inputs want source e fits is h in record {
      sort = s.sort;
      no_input = s.no_input;
      limits = (omega (arith, s.deep, limited.nesting), omega (arith, s.wide longest_text limited.parts));
    }

-- one let more
pub lets-push : (c : Context) (ls : List LocalView) (l : LocalView) → LetsHaveSorts c ls → HasSort (record c { locals = c.locals ++ map (λ (x : LocalView). x.sort) ls }) l.value l.sort → LetsHaveSorts c (ls ++ l ∷ [])
lets-push c [] l h k = (rw append-nil at k, tt)
lets-push c (x ∷ ls) l h k =
    (h.0, lets-push (record c { locals = c.locals ++ x.sort ∷ [] }) ls l h.1 (subst (λ ss. HasSort (record c { locals = ss }) l.value l.sort) (sym (append_assoc c.locals (x.sort ∷ []) (map (λ (x : LocalView). x.sort) ls))) k))

pub all-push : {X : Type 0} (P : X → Type 0) (xs : List X) (x : X) → AllByRecursion P xs → P x → AllByRecursion P (xs ++ x ∷ [])
all-push P [] x h p = (p, tt)
all-push P (y ∷ xs) x h p = (h.0, all-push P xs x h.1 p)

abbrev entry_at : List ℕ → Sort → entry.Entry
entry_at name sort = record { name = name; sort = sort }

abbrev constant_at : List ℕ → symbol.Symbol
constant_at name = record { name = name; arity = 0; predicate = false }

-- what is fixed of a machine file: the symbols of the design, its entries and inputs, and what its names meant before
-- its expressions
pub record Fixed : Type 0 where
  pub symbols : List symbol.Symbol
  pub entries : List entry.Entry
  pub inputs : List entry.Entry
  pub names : NameMap

abbrev pub sorts_of : List entry.Entry → List Sort
sorts_of es = map (λ (e : entry.Entry). e.sort) es

abbrev pub local_sorts : List LocalView → List Sort
local_sorts ls = map (λ (l : LocalView). l.sort) ls

abbrev pub context : Fixed → List LocalView → Context
context f locals = record { symbols = f.symbols; entries = sorts_of f.entries; inputs = sorts_of f.inputs; locals = local_sorts locals }

-- names mean what they meant, or a let that was one before its item
abbrev pub IsLetNow : Fixed → List LocalView → List Bool → List ℕ → Option Meaning → Type 0
IsLetNow f locals flags q (Some (Local n s u)) = (f.names q ≡ Some Later) × (slice_get (local_sorts locals) n ≡ Some s) × (slice_get flags n ≡ Some u)
IsLetNow f locals flags q _ = ⊥

abbrev pub NamesAre : Fixed → NameMap → List LocalView → List Bool → Type 0
NamesAre f names locals flags = (q : List ℕ) → (names q ≡ f.names q) ⊎ IsLetNow f locals flags q (names q)

-- what the names of the file meant stands
abbrev pub FixedStands : Fixed → Type 0
FixedStands f = (q : List ℕ) (m : Meaning) → f.names q ≡ Some m → Stands f.entries f.inputs f.symbols q m

-- a group of constants, each once
pub record IsGroup (symbols : List symbol.Symbol) (group : List ℕ) : Type 0 where
  pub two : 2 ≤ length group
  pub different : AllPairs ◌≢◌ group
  pub constants : AllByRecursion (λ i. (y : symbol.Symbol) × (slice_get symbols i ≡ Some y) × (y.arity ≡ 0) × (y.predicate ≡ false)) group
  pub short : length group ≤ most_items

get-map : {X Y : Type 0} (g : X → Y) (xs : List X) (n : ℕ) (x : X) → slice_get xs n ≡ Some x → slice_get (map g xs) n ≡ Some (g x)
get-map g [] n x h = absurd (cc h)
get-map g (y ∷ xs) zero x h = let e : y ≡ x = cc h in ap (λ z. Some (g z)) e
get-map g (y ∷ xs) (suc n) x h = get-map g xs n x h

pub map_append : {X Y : Type 0} (g : X → Y) (xs ys : List X) → map g (xs ++ ys) ≡ map g xs ++ map g ys
map_append g [] ys = refl
map_append g (x ∷ xs) ys = ap (λ zs. g x ∷ zs) (map_append g xs ys)

-- lets and flags grow
pub record Grows (t u : Typed) : Type 0 where
  pub locals : List LocalView
  pub flags : List Bool
  pub locals-are : u.locals ≡ t.locals ++ locals
  pub flags-are : u.flags ≡ t.flags ++ flags

grows_not : (t u : Typed) → t.locals ≡ u.locals → t.flags ≡ u.flags → Grows t u
grows_not t u e f = record { locals = []; flags = []; locals-are = sym e ∙ sym (append-nil t.locals); flags-are = sym f ∙ sym (append-nil t.flags) }

grows_then : (t u v : Typed) → Grows t u → Grows u v → Grows t v
grows_then t u v g h = record {
  locals = g.locals ++ h.locals;
  flags = g.flags ++ h.flags;
  locals-are = h.locals-are ∙ ap (λ xs. xs ++ h.locals) g.locals-are ∙ append_assoc t.locals g.locals h.locals;
  flags-are = h.flags-are ∙ ap (λ xs. xs ++ h.flags) g.flags-are ∙ append_assoc t.flags g.flags h.flags;
}

-- what a file's names meant fits where its lets and flags are any
fixed_fits : (f : Fixed) (locals : List LocalView) (flags : List Bool) (inputs : Bool) (q : List ℕ) (m : Meaning) → Stands f.entries f.inputs f.symbols q m → Fits (context f locals) flags inputs m
fixed_fits f locals flags inputs q (Entry n s) h = get-map (λ (e : entry.Entry). e.sort) f.entries n _ h
fixed_fits f locals flags inputs q (Input n s) h = λ on. get-map (λ (e : entry.Entry). e.sort) f.inputs n _ h
fixed_fits f locals flags inputs q (Symbol n a p) h = (record { name = q; arity = a; predicate = p }, h, refl, refl)
fixed_fits f locals flags inputs q (Local n s u) h = absurd h
fixed_fits f locals flags inputs q Later h = tt

-- names in force fit, where lets and flags have grown since
names_fit : (f : Fixed) (names : NameMap) (locals : List LocalView) (flags : List Bool) (inputs : Bool) → FixedStands f → NamesAre f names locals flags → (locals' : List LocalView) (flags' : List Bool) (more : List LocalView) (further : List Bool)
    → locals' ≡ locals ++ more → flags' ≡ flags ++ further → NamesFit (context f locals') flags' inputs names
names_fit f names locals flags inputs stands are locals' flags' more further e g q m h = ⊎_elim
    (λ (p : names q ≡ f.names q). fixed_fits f locals' flags' inputs q m (stands q m (sym p ∙ h)))
    (λ p. is_let m (subst (IsLetNow f locals flags q) h p))
    (are q) where
      is_let : (k : Meaning) → IsLetNow f locals flags q (Some k) → Fits (context f locals') flags' inputs k
      is_let (Local n s u) p = (
        subst (λ ss. slice_get ss n ≡ Some s) (sym (ap local_sorts e ∙ map_append (λ (l : LocalView). l.sort) locals more)) (get-left (local_sorts locals) (local_sorts more) n s p.1),
        subst (λ fs. slice_get fs n ≡ Some u) (sym g) (get-left flags further n u p.2),
      )
      is_let (Entry n s) p = absurd p
      is_let (Input n s) p = absurd p
      is_let (Symbol n a b) p = absurd p
      is_let Later p = absurd p

pub local_end : (ls : List LocalView) (l : LocalView) → slice_get (local_sorts (ls ++ l ∷ [])) (length ls) ≡ Some l.sort
local_end [] l = refl
local_end (x ∷ ls) l = local_end ls l

-- a let stays one when lets are added
let_more : (f : Fixed) (locals : List LocalView) (flags : List Bool) (l : LocalView) (uses : Bool) (q : List ℕ) (m : Option Meaning) → IsLetNow f locals flags q m → IsLetNow f (locals ++ l ∷ []) (flags ++ uses ∷ []) q m
let_more f locals flags l uses q (Some (Local n s u)) p = (
  p.0,
  subst (λ ss. slice_get ss n ≡ Some s) (sym (map_append (λ (x : LocalView). x.sort) locals (l ∷ []))) (get-left (local_sorts locals) (l.sort ∷ []) n s p.1),
  get-left flags (uses ∷ []) n u p.2,
)
let_more f locals flags l uses q (Some (Entry n s)) p = absurd p
let_more f locals flags l uses q (Some (Input n s)) p = absurd p
let_more f locals flags l uses q (Some (Symbol n a b)) p = absurd p
let_more f locals flags l uses q (Some Later) p = absurd p
let_more f locals flags l uses q None p = absurd p

-- the names in force once a let is declared
names_more : (f : Fixed) (names : NameMap) (locals : List LocalView) (flags : List Bool) → NamesAre f names locals flags → length flags ≡ length locals → (name : List ℕ) (l : LocalView) (uses : Bool) → f.names name ≡ Some Later
    → NamesAre f (declare names name (Local (length locals) l.sort uses)) (locals ++ l ∷ []) (flags ++ uses ∷ [])
names_more f names locals flags are count name l uses later q = by_word (same_text name q) refl where
  by_word : (b : Bool) → same_text name q ≡ b → (cond b (Some (Local (length locals) l.sort uses)) (names q) ≡ f.names q) ⊎ IsLetNow f (locals ++ l ∷ []) (flags ++ uses ∷ []) q (cond b (Some (Local (length locals) l.sort uses)) (names q))
  by_word true e = inr (
    subst (λ t. f.names t ≡ Some Later) (same_text-true name q e) later,
    local_end locals l,
    subst (λ n. slice_get (flags ++ uses ∷ []) n ≡ Some uses) count (get-end flags uses),
  )
  by_word false e = ⊎_elim (λ p. inl p) (λ p. inr (let_more f locals flags l uses q (names q) p)) (are q)

-- ---- the parts of a walk

pub record IsPort (f : Fixed) (final : Typed) (p : PortView) : Type 0 where
  pub sort : p.sort ≢ sorts.Memory
  pub idle : IsTyped (context f final.locals) final.flags false p.sort p.idle

pub record IsExact (f : Fixed) (final : Typed) (e : ExactView) : Type 0 where
  pub count : e.count ≤ 8
  pub when : IsTyped (context f final.locals) final.flags true sorts.Bool e.when

abbrev pub next_at : Typed → ℕ → ExprView
next_at t n = get_or t.nexts n (Truth false)

-- what holds of the items gone through, where these have a next
pub record WalkIs (f : Fixed) (final t : Typed) (given : NameSet) : Type 0 where
  pub names : NamesAre f t.names t.locals t.flags
  pub flag_count : length t.flags ≡ length t.locals
  pub flags : t.flags ≡ input_flags t.locals
  pub lets : LetsHaveSorts (context f []) t.locals
  pub let_limits : AllByRecursion (λ (l : LocalView). IsWithinLimits l.value) t.locals
  pub ports : AllByRecursion (IsPort f final) t.ports
  pub exact : AllByRecursion (IsExact f final) t.exact
  pub groups : AllByRecursion (IsGroup f.symbols) t.distinct
  pub next_count : length t.nexts ≡ length f.entries
  pub nexts : (q : List ℕ) (n : ℕ) (s : Sort) → given q ≡ true → f.names q ≡ Some (Entry n s) → IsTyped (context f final.locals) final.flags true s (next_at t n)

-- a name that is that of an entry
pub named_entry : (offset : ℕ) (m : Option Meaning) (v : ℕ × Sort) → entry_named offset m ≡ Ok v → m ≡ Some (Entry v.0 v.1)
named_entry offset (Some (Entry n s)) v h = let e : (n, s) ≡ v = cc h in ap (λ (w : ℕ × Sort). Some (Entry w.0 w.1)) e
named_entry offset (Some (Input n s)) v h = absurd (cc h)
named_entry offset (Some (Symbol n a b)) v h = absurd (cc h)
named_entry offset (Some (Local n s u)) v h = absurd (cc h)
named_entry offset (Some Later) v h = absurd (cc h)
named_entry offset None v h = absurd (cc h)

-- a name of an entry meant it before
entry_meant : (f : Fixed) (names : NameMap) (locals : List LocalView) (flags : List Bool) → NamesAre f names locals flags → (offset : ℕ) (q : List ℕ) (v : ℕ × Sort) → entry_named offset (names q) ≡ Ok v → f.names q ≡ Some (Entry v.0 v.1)
entry_meant f names locals flags are offset q v h = ⊎_elim
    (λ (p : names q ≡ f.names q). named_entry offset (f.names q) v (subst (λ m. entry_named offset m ≡ Ok v) p h))
    (λ p. absurd (no_let (names q) h p))
    (are q) where
      no_let : (m : Option Meaning) → entry_named offset m ≡ Ok v → IsLetNow f locals flags q m → ⊥
      no_let (Some (Entry n s)) h p = p
      no_let (Some (Input n s)) h p = p
      no_let (Some (Symbol n a b)) h p = p
      no_let (Some (Local n s u)) h p = absurd (cc h)
      no_let (Some Later) h p = p
      no_let None h p = p

-- the next value of one entry is set
next_set : (f : Fixed) (stands : FixedStands f) (final t : Typed) (given : NameSet) → WalkIs f final t given → (name : List ℕ) (n : ℕ) (s : Sort) (e : ExprView) → f.names name ≡ Some (Entry n s) → IsTyped (context f final.locals) final.flags true s e
    → (q : List ℕ) (k : ℕ) (r : Sort) → with_text given name q ≡ true → f.names q ≡ Some (Entry k r) → IsTyped (context f final.locals) final.flags true r (get_or (set t.nexts n e) k (Truth false))
next_set f stands final t given ok name n s e is one q k r there meant = by_place (cases_eq n k) where
  at_n : slice_get f.entries n ≡ Some (record { name = name; sort = s })
  at_n = stands name (Entry n s) is

  at_k : slice_get f.entries k ≡ Some (record { name = q; sort = r })
  at_k = stands q (Entry k r) meant

  was_given : n ≢ k → given q ≡ true
  was_given apart = by_word (same_text name q) refl there where
    by_word : (b : Bool) → same_text name q ≡ b → cond b true (given q) ≡ true → given q ≡ true
    by_word false w h = h
    by_word true w h =
        let same : name ≡ q = same_text-true name q w in
        let found : f.names q ≡ Some (Entry n s) = subst (λ t. f.names t ≡ Some (Entry n s)) same is in
        let e : n ≡ k = cc (found, meant) in
        absurd (apart e)

  by_place : (n ≡ k) ⊎ (n ≢ k) → IsTyped (context f final.locals) final.flags true r (get_or (set t.nexts n e) k (Truth false))
  by_place (inl same) =
      let both : Some (entry_at name s) ≡ Some (entry_at q r) = sym at_n ∙ ap (slice_get f.entries) same ∙ at_k in
      let sorts : s ≡ r = ap (λ (x : entry.Entry). x.sort) (some_is (entry_at name s) (entry_at q r) both) in
      let within : n < length t.nexts = omega (arith, ok.next_count, slice_get_within f.entries n _ at_n) in
      let set_there : get_or (set t.nexts n e) k (Truth false) ≡ e = get_or-set_at t.nexts n k e (Truth false) (sym same) within in
      subst (λ x. IsTyped (context f final.locals) final.flags true r x) (sym set_there) (subst (λ z. IsTyped (context f final.locals) final.flags true z e) sorts one)
  by_place (inr apart) =
      subst (λ x. IsTyped (context f final.locals) final.flags true r x) (sym (get_or-set_other t.nexts n k e (Truth false) (λ x. apart (sym x)))) (ok.nexts q k r (was_given apart) meant)

-- ---- groups of constants

-- a constant that is there under a name that wasn't named before
abbrev IsNewConstant : List symbol.Symbol → NameSet → ℕ → Type 0
IsNewConstant symbols before i = (q : List ℕ) × (before q ≡ false) × (slice_get symbols i ≡ Some (record { name = q; arity = 0; predicate = false }))

is_not : (b : Bool) → not b ≡ true → b ≡ false
is_not true h = absurd (cc h)
is_not false h = refl

constant_meant : (f : Fixed) (names : NameMap) (locals : List LocalView) (flags : List Bool) → NamesAre f names locals flags → (offset : ℕ) (q : List ℕ) (i : ℕ) → constant_named offset (names q) ≡ Ok i → f.names q ≡ Some (Symbol i 0 false)
constant_meant f names locals flags are offset q i h = ⊎_elim
    (λ (p : names q ≡ f.names q). is_constant (f.names q) (subst (λ m. constant_named offset m ≡ Ok i) p h))
    (λ p. absurd (no_let (names q) h p))
    (are q) where
      is_constant : (m : Option Meaning) → constant_named offset m ≡ Ok i → m ≡ Some (Symbol i 0 false)
      is_constant (Some (Symbol n a b)) h =
          let p = passes ((a == 0) && not b) n i _ h in
          let e = split_and (a == 0) (not b) p.0 in
          let zero-is : a ≡ 0 = grind (arith, nat_tests, e.0) in
          let false-is : b ≡ false = is_not b e.1 in
          rw (zero-is, false-is, p.1) refl
      is_constant (Some (Entry n s)) h = absurd (cc h)
      is_constant (Some (Input n s)) h = absurd (cc h)
      is_constant (Some (Local n s u)) h = absurd (cc h)
      is_constant (Some Later) h = absurd (cc h)
      is_constant None h = absurd (cc h)

      not-true : (b : Bool) → not b ≡ true → b ≡ false
      not-true true h = absurd (cc h)
      not-true false h = refl

      no_let : (m : Option Meaning) → constant_named offset m ≡ Ok i → IsLetNow f locals flags q m → ⊥
      no_let (Some (Entry n s)) h p = p
      no_let (Some (Input n s)) h p = p
      no_let (Some (Symbol n a b)) h p = p
      no_let (Some (Local n s u)) h p = absurd (cc h)
      no_let (Some Later) h p = p
      no_let None h p = p

-- a name that isn't named before, nor is the one named now
later_new : (symbols : List symbol.Symbol) (before : NameSet) (name : List ℕ) (i : ℕ) → IsNewConstant symbols (with_text before name) i → IsNewConstant symbols before i
later_new symbols before name i (q, new, there) = by_word (same_text name q) new where
  by_word : (b : Bool) → cond b true (before q) ≡ false → IsNewConstant symbols before i
  by_word true h = absurd (cc h)
  by_word false h = (q, h, there)

all_later_new : (symbols : List symbol.Symbol) (before : NameSet) (name : List ℕ) (group : List ℕ) → AllByRecursion (IsNewConstant symbols (with_text before name)) group → AllByRecursion (IsNewConstant symbols before) group
all_later_new symbols before name [] h = tt
all_later_new symbols before name (i ∷ group) h = (later_new symbols before name i h.0, all_later_new symbols before name group h.1)

-- a constant of one name isn't that of another
apart_from : (symbols : List symbol.Symbol) (before : NameSet) (name : List ℕ) (i : ℕ) → slice_get symbols i ≡ Some (record { name = name; arity = 0; predicate = false }) → (group : List ℕ) → AllByRecursion (IsNewConstant symbols (with_text before name)) group
    → AllByRecursion (λ j. i ≢ j) group
apart_from symbols before name i there [] h = tt
apart_from symbols before name i there (j ∷ group) h = (differs h.0, apart_from symbols before name i there group h.1) where
  differs : IsNewConstant symbols (with_text before name) j → i ≢ j
  differs (q, new, found) same =
      let both : Some (constant_at name) ≡ Some (constant_at q) = sym there ∙ ap (slice_get symbols) same ∙ found in
      let names : name ≡ q = ap (λ (y : symbol.Symbol). y.name) (some_is (constant_at name) (constant_at q) both) in
      let word : same_text name q ≡ true = subst (λ t. same_text name t ≡ true) names (same_text-same name) in
      let seen : with_text before name q ≡ true = rw word refl in
      absurd (cc (seen, new))

abbrev not_before : Spot → Bool → Result (Unit {0}) Fault
not_before name b = if b then refused name.offset DeclaredTwice else Ok (tt {0})

record AreConstants (symbols : List symbol.Symbol) (before : NameSet) (n : ℕ) (group : List ℕ) : Type 0 where
  count : length group ≡ n
  different : AllPairs ◌≢◌ group
  new : AllByRecursion (IsNewConstant symbols before) group

no_pairs : AllPairs (◌≢◌ {A = ℕ}) []
no_pairs i j d lt within = absurd (omega arith)

constants_are : (f : Fixed) (stands : FixedStands f) (names : NameMap) (locals : List LocalView) (flags : List Bool) → NamesAre f names locals flags → (before : NameSet) (spots : List Spot) (group : List ℕ) → constants names before spots ≡ Ok group
    → AreConstants f.symbols before (length spots) group
constants_are f stands names locals flags are before [] [] h = record { count = refl; different = no_pairs; new = tt }
constants_are f stands names locals flags are before [] (i ∷ group) h = absurd (cc h)
constants_are f stands names locals flags are before (name ∷ spots) all h =
    let p = then_ok (constant_named name.offset (names name.text)) (λ number. (not_before name (before name.text)) >>= λ new. constants names (with_text before name.text) spots >>= λ numbers. Ok (number ∷ numbers)) all h in
    let q = then_ok (not_before name (before name.text)) (λ new. constants names (with_text before name.text) spots >>= λ numbers. Ok (p.0 ∷ numbers)) all p.2 in
    let r = then_ok (constants names (with_text before name.text) spots) (λ numbers. Ok (p.0 ∷ numbers)) all q.2 in
    let e : p.0 ∷ r.0 ≡ all = cc r.2 in
    let rest = constants_are f stands names locals flags are (with_text before name.text) spots r.0 r.1 in
    let there = stands name.text (Symbol p.0 0 false) (constant_meant f names locals flags are name.offset name.text p.0 p.1) in
    subst (AreConstants f.symbols before (length (name ∷ spots))) e (record {
      count = omega (arith, rest.count);
      different = AllPairs-cons ◌≢◌ p.0 r.0 (All-from_recursion (λ j. p.0 ≢ j) r.0 (apart_from f.symbols before name.text p.0 there r.0 rest.new)) rest.different;
      new = ((name.text, is_new (before name.text) q.1, there), all_later_new f.symbols before name.text r.0 rest.new);
    }) where
      is_new : (b : Bool) → not_before name b ≡ Ok tt → b ≡ false
      is_new true h = absurd (cc h)
      is_new false h = refl

constants_of : (symbols : List symbol.Symbol) (before : NameSet) (group : List ℕ) → AllByRecursion (IsNewConstant symbols before) group
    → AllByRecursion (λ i. (y : symbol.Symbol) × (slice_get symbols i ≡ Some y) × (y.arity ≡ 0) × (y.predicate ≡ false)) group
constants_of symbols before [] h = tt
constants_of symbols before (i ∷ group) (new, rest) = ((record { name = new.0; arity = 0; predicate = false }, new.2, refl, refl), constants_of symbols before group rest)

module _ (f : Fixed) (stands : FixedStands f) (final t : Typed) (given : NameSet) (ok : WalkIs f final t given) where
  -- names that are in force fit at the end
  fits_then : (inputs : Bool) → Grows t final → NamesFit (context f final.locals) final.flags inputs t.names
  fits_then inputs g = names_fit f t.names t.locals t.flags inputs stands ok.names final.locals final.flags g.locals g.flags g.locals-are g.flags-are

  -- and now
  pub fits_now : (inputs : Bool) → NamesFit (context f t.locals) t.flags inputs t.names
  fits_now inputs = names_fit f t.names t.locals t.flags inputs stands ok.names t.locals t.flags [] [] (sym (append-nil t.locals)) (sym (append-nil t.flags))

  input_is : (name : Spot) (sort : Sort) (idle : Expression) (u : Typed) → sort ≢ sorts.Memory → IsExpression idle → IsLimited idle → Grows t final → typed_input t name sort idle ≡ Ok u → WalkIs f final u given
  unfolding typed_input
  input_is name sort idle u scalar is limited g h =
      let p = then_ok (typed t.names false sort idle) (λ e. Ok (record t { ports = t.ports ++ record { name = name.text; sort = sort; idle = e } ∷ [] })) u h in
      let e : record t { ports = t.ports ++ record { name = name.text; sort = sort; idle = p.0 } ∷ [] } ≡ u = cc p.2 in
      subst (λ v. WalkIs f final v given) e (record {
        names = ok.names;
        flag_count = ok.flag_count;
        flags = ok.flags;
        lets = ok.lets;
        let_limits = ok.let_limits;
        ports = all-push (IsPort f final) t.ports _ ok.ports (record { sort = scalar; idle = typed_within (context f final.locals) final.flags t.names false sort idle p.0 (fits_then false g) is limited p.1 });
        exact = ok.exact;
        groups = ok.groups;
        next_count = ok.next_count;
        nexts = ok.nexts;
      })

  exact_is : (count : ℕ) (when : Expression) (u : Typed) → count ≤ 8 → IsExpression when → IsLimited when → Grows t final → typed_exact t count when ≡ Ok u → WalkIs f final u given
  unfolding typed_exact
  exact_is count when u few is limited g h =
      let p = then_ok (typed t.names true sorts.Bool when) (λ e. Ok (record t { exact = t.exact ++ record { count = count; when = e } ∷ [] })) u h in
      let e : record t { exact = t.exact ++ record { count = count; when = p.0 } ∷ [] } ≡ u = cc p.2 in
      subst (λ v. WalkIs f final v given) e (record {
        names = ok.names;
        flag_count = ok.flag_count;
        flags = ok.flags;
        lets = ok.lets;
        let_limits = ok.let_limits;
        ports = ok.ports;
        exact = all-push (IsExact f final) t.exact _ ok.exact (record { count = few; when = typed_within (context f final.locals) final.flags t.names true sorts.Bool when p.0 (fits_then true g) is limited p.1 });
        groups = ok.groups;
        next_count = ok.next_count;
        nexts = ok.nexts;
      })

  -- a let
  let_is : (name : Spot) (sort : Sort) (value : Expression) (u : Typed) → f.names name.text ≡ Some Later → IsExpression value → IsLimited value → typed_let true t name sort value ≡ Ok u → WalkIs f final u given
  unfolding typed_let
  let_is name sort value u later is limited h =
      let p = then_ok (typed t.names true sort value) (λ e. Ok (with_local t name.text sort e)) u h in
      let e : with_local t name.text sort p.0 ≡ u = cc p.2 in
      let one = typed_within (context f t.locals) t.flags t.names true sort value p.0 (fits_now true) is limited p.1 in
      let uses : Bool = uses_input t.flags p.0 in
      let l : LocalView = record { sort = sort; value = p.0 } in
      subst (λ v. WalkIs f final v given) e (record {
        names = names_more f t.names t.locals t.flags ok.names ok.flag_count name.text l uses later;
        flag_count = omega (arith, ok.flag_count, length-append t.flags (uses ∷ []), length-append t.locals (l ∷ []));
        flags = ap (λ fs. fs ++ uses_input fs p.0 ∷ []) ok.flags ∙ sym (grown-push (λ earlier (x : LocalView). uses_input earlier x.value) [] t.locals l);
        lets = lets-push (context f []) t.locals l ok.lets one.sort;
        let_limits = all-push (λ (x : LocalView). IsWithinLimits x.value) t.locals l ok.let_limits one.limits;
        ports = ok.ports;
        exact = ok.exact;
        groups = ok.groups;
        next_count = ok.next_count;
        nexts = ok.nexts;
      })

  -- a next
  next_is : (name : Spot) (value : Expression) (u : Typed) → IsExpression value → IsLimited value → Grows t final → typed_next t name value ≡ Ok u → WalkIs f final u (with_text given name.text)
  unfolding typed_next
  next_is name value u is limited g h =
      let p = then_ok (entry_named name.offset (t.names name.text)) (λ entry. typed t.names true entry.1 value >>= λ e. Ok (record t { nexts = set t.nexts entry.0 e })) u h in
      let q = then_ok (typed t.names true p.0.1 value) (λ e. Ok (record t { nexts = set t.nexts p.0.0 e })) u p.2 in
      let e : record t { nexts = set t.nexts p.0.0 q.0 } ≡ u = cc q.2 in
      let one = typed_within (context f final.locals) final.flags t.names true p.0.1 value q.0 (fits_then true g) is limited q.1 in
      let meant = entry_meant f t.names t.locals t.flags ok.names name.offset name.text p.0 p.1 in
      subst (λ v. WalkIs f final v (with_text given name.text)) e (record {
        names = ok.names;
        flag_count = ok.flag_count;
        flags = ok.flags;
        lets = ok.lets;
        let_limits = ok.let_limits;
        ports = ok.ports;
        exact = ok.exact;
        groups = ok.groups;
        next_count = length-set t.nexts p.0.0 q.0 ∙ ok.next_count;
        nexts = next_set f stands final t given ok name.text p.0.0 p.0.1 q.0 meant one;
      })

  -- a distinct item
  distinct_is : (names : List Spot) (u : Typed) → 2 ≤ length names → length names ≤ longest_text → typed_distinct t names ≡ Ok u → WalkIs f final u given
  unfolding typed_distinct
  distinct_is names u two short h =
      let p = then_ok (constants t.names no_texts names) (λ group. Ok (record t { distinct = t.distinct ++ group ∷ [] })) u h in
      let e : record t { distinct = t.distinct ++ p.0 ∷ [] } ≡ u = cc p.2 in
      let group = constants_are f stands t.names t.locals t.flags ok.names no_texts names p.0 p.1 in
      subst (λ v. WalkIs f final v given) e (record {
        names = ok.names;
        flag_count = ok.flag_count;
        flags = ok.flags;
        lets = ok.lets;
        let_limits = ok.let_limits;
        ports = ok.ports;
        exact = ok.exact;
        groups = all-push (IsGroup f.symbols) t.distinct p.0 ok.groups (record { two = omega (arith, group.count); different = group.different; constants = constants_of f.symbols no_texts p.0 group.new; short = omega (arith, group.count) });
        next_count = ok.next_count;
        nexts = ok.nexts;
      })

-- ---- all items

abbrev pub port_entry : PortView → entry.Entry
port_entry p = record { name = p.name; sort = p.sort }

-- what an item adds
pub record Adds (t u : Typed) (inputs : List entry.Entry) : Type 0 where
  pub grows : Grows t u
  pub ports : map port_entry u.ports ≡ map port_entry t.ports ++ inputs
  pub locals : length u.locals ≤ length t.locals + 1
  pub exact : length u.exact ≤ length t.exact + 1
  pub distinct : length u.distinct ≤ length t.distinct + 1

-- an item without an expression
adds_nothing : (t u : Typed) → t ≡ u → Adds t u []
adds_nothing t u e = subst (λ v. Adds t v []) e (record { grows = grows_not t t refl refl; ports = sym (append-nil (map port_entry t.ports)); locals = omega arith; exact = omega arith; distinct = omega arith })

pub item_adds : (inputs : Bool) (t u : Typed) (item : ItemView) → typed_item inputs t item ≡ Ok u → Adds t u (cons_option (input_entry item) [])
unfolding typed_input typed_let typed_next typed_exact typed_distinct
item_adds inputs t u (latch_item offset name sort) h = adds_nothing t u (cc h)
item_adds inputs t u (memory_item offset name) h = adds_nothing t u (cc h)
item_adds inputs t u (function_item offset name arity) h = adds_nothing t u (cc h)
item_adds inputs t u (predicate_item offset name arity) h = adds_nothing t u (cc h)
item_adds inputs t u (flush_item offset count) h = adds_nothing t u (cc h)
item_adds inputs t u (steps_item offset count) h = adds_nothing t u (cc h)
item_adds inputs t u (input_item offset name sort idle) h =
    let p = then_ok (typed t.names false sort idle) (λ e. Ok (record t { ports = t.ports ++ record { name = name.text; sort = sort; idle = e } ∷ [] })) u h in
    let e : record t { ports = t.ports ++ record { name = name.text; sort = sort; idle = p.0 } ∷ [] } ≡ u = cc p.2 in
    subst (λ v. Adds t v (record { name = name.text; sort = sort } ∷ [])) e (record {
      grows = grows_not t _ refl refl;
      ports = map_push port_entry t.ports (record { name = name.text; sort = sort; idle = p.0 });
      locals = omega arith;
      exact = omega arith;
      distinct = omega arith;
    })
item_adds inputs t u (let_item offset name sort value) h =
    let p = then_ok (typed t.names inputs sort value) (λ e. Ok (with_local t name.text sort e)) u h in
    let e : with_local t name.text sort p.0 ≡ u = cc p.2 in
    subst (λ v. Adds t v []) e (record {
      grows = record { locals = record { sort = sort; value = p.0 } ∷ []; flags = uses_input t.flags p.0 ∷ []; locals-are = refl; flags-are = refl };
      ports = sym (append-nil (map port_entry t.ports));
      locals = omega (arith, length-append t.locals (record { sort = sort; value = p.0 } ∷ []));
      exact = omega arith;
      distinct = omega arith;
    })
item_adds inputs t u (next_item offset name value) h =
    let p = then_ok (entry_named name.offset (t.names name.text)) (λ entry. typed t.names true entry.1 value >>= λ e. Ok (record t { nexts = set t.nexts entry.0 e })) u h in
    let q = then_ok (typed t.names true p.0.1 value) (λ e. Ok (record t { nexts = set t.nexts p.0.0 e })) u p.2 in
    let e : record t { nexts = set t.nexts p.0.0 q.0 } ≡ u = cc q.2 in
    subst (λ v. Adds t v []) e (record { grows = grows_not t _ refl refl; ports = sym (append-nil (map port_entry t.ports)); locals = omega arith; exact = omega arith; distinct = omega arith })
item_adds inputs t u (exact_item offset count when) h =
    let p = then_ok (typed t.names true sorts.Bool when) (λ e. Ok (record t { exact = t.exact ++ record { count = count; when = e } ∷ [] })) u h in
    let e : record t { exact = t.exact ++ record { count = count; when = p.0 } ∷ [] } ≡ u = cc p.2 in
    subst (λ v. Adds t v []) e (record {
      grows = grows_not t _ refl refl;
      ports = sym (append-nil (map port_entry t.ports));
      locals = omega arith;
      exact = omega (arith, length-append t.exact (record { count = count; when = p.0 } ∷ []));
      distinct = omega arith;
    })
item_adds inputs t u (distinct_item offset names) h =
    let p = then_ok (constants t.names no_texts names) (λ group. Ok (record t { distinct = t.distinct ++ group ∷ [] })) u h in
    let e : record t { distinct = t.distinct ++ p.0 ∷ [] } ≡ u = cc p.2 in
    subst (λ v. Adds t v []) e (record {
      grows = grows_not t _ refl refl;
      ports = sym (append-nil (map port_entry t.ports));
      locals = omega arith;
      exact = omega arith;
      distinct = omega (arith, length-append t.distinct (p.0 ∷ []));
    })

pub record AddAll (t u : Typed) (inputs : List entry.Entry) (n : ℕ) : Type 0 where
  pub grows : Grows t u
  pub ports : map port_entry u.ports ≡ map port_entry t.ports ++ inputs
  pub locals : length u.locals ≤ length t.locals + n
  pub exact : length u.exact ≤ length t.exact + n
  pub distinct : length u.distinct ≤ length t.distinct + n

adds_then : (t u v : Typed) (item : ItemView) (items : List ItemView) → Adds t u (cons_option (input_entry item) []) → AddAll u v (filter_map input_entry items) (length items)
    → AddAll t v (filter_map input_entry (item ∷ items)) (length (item ∷ items))
adds_then t u v item items a b = record {
  grows = grows_then t u v a.grows b.grows;
  ports = b.ports ∙ ap (λ xs. xs ++ filter_map input_entry items) a.ports ∙ append_assoc (map port_entry t.ports) (cons_option (input_entry item) []) (filter_map input_entry items) ∙ ap (λ xs. map port_entry t.ports ++ xs) (one (input_entry item));
  locals = omega (arith, a.locals, b.locals);
  exact = omega (arith, a.exact, b.exact);
  distinct = omega (arith, a.distinct, b.distinct);
} where
  one : (o : Option entry.Entry) → cons_option o [] ++ filter_map input_entry items ≡ cons_option o (filter_map input_entry items)
  one None = refl
  one (Some e) = refl

pub items_add : (items : List ItemView) (t u : Typed) → typed_items true t items ≡ Ok u → AddAll t u (filter_map input_entry items) (length items)
items_add [] t u h =
    let a = adds_nothing t u (cc h) in
    let e : t ≡ u = cc h in
    record { grows = a.grows; ports = a.ports; locals = omega (arith, ap (λ (x : Typed). length x.locals) e); exact = omega (arith, ap (λ (x : Typed). length x.exact) e); distinct = omega (arith, ap (λ (x : Typed). length x.distinct) e) }
items_add (item ∷ items) t u h =
    let p = then_ok (typed_item true t item) (λ v. typed_items true v items) u h in
    adds_then t p.0 u item items (item_adds true t p.0 item p.1) (items_add items p.0 u p.2)

module _ (f : Fixed) (stands : FixedStands f) (final : Typed) where
  -- one item is gone through
  item_is : (item : ItemView) (t u : Typed) (given : NameSet) → WalkIs f final t given → HasParts item → IsLimitedItem item → LetIsLater f.names item → Grows u final → typed_item true t item ≡ Ok u
      → WalkIs f final u (with_names given (cons_option (next_name item) []))
  item_is (latch_item offset name sort) t u given ok parts limited later g h = let e : t ≡ u = cc h in subst (λ v. WalkIs f final v given) e ok
  item_is (memory_item offset name) t u given ok parts limited later g h = let e : t ≡ u = cc h in subst (λ v. WalkIs f final v given) e ok
  item_is (function_item offset name arity) t u given ok parts limited later g h = let e : t ≡ u = cc h in subst (λ v. WalkIs f final v given) e ok
  item_is (predicate_item offset name arity) t u given ok parts limited later g h = let e : t ≡ u = cc h in subst (λ v. WalkIs f final v given) e ok
  item_is (flush_item offset count) t u given ok parts limited later g h = let e : t ≡ u = cc h in subst (λ v. WalkIs f final v given) e ok
  item_is (steps_item offset count) t u given ok parts limited later g h = let e : t ≡ u = cc h in subst (λ v. WalkIs f final v given) e ok
  item_is (input_item offset name sort idle) t u given ok parts limited later g h =
      input_is f stands final t given ok name sort idle u parts.1 parts.2 limited (grows_then t u final (item_adds true t u (input_item offset name sort idle) h).grows g) h
  item_is (let_item offset name sort value) t u given ok parts limited later g h = let_is f stands final t given ok name sort value u later parts.1 limited h
  item_is (next_item offset name value) t u given ok parts limited later g h =
      next_is f stands final t given ok name value u parts.1 limited (grows_then t u final (item_adds true t u (next_item offset name value) h).grows g) h
  item_is (exact_item offset count when) t u given ok parts limited later g h =
      exact_is f stands final t given ok count when u parts.0 parts.1 limited (grows_then t u final (item_adds true t u (exact_item offset count when) h).grows g) h
  item_is (distinct_item offset names) t u given ok parts limited later g h = distinct_is f stands final t given ok names u parts.0 limited h

  -- all items are
  pub items_are : (items : List ItemView) (t : Typed) (given : NameSet) → WalkIs f final t given → AllByRecursion HasParts items → AllByRecursion IsLimitedItem items → AllByRecursion (LetIsLater f.names) items → typed_items true t items ≡ Ok final
      → WalkIs f final final (with_names given (filter_map next_name items))
  items_are [] t given ok parts limited later h = let e : t ≡ final = cc h in subst (λ v. WalkIs f final v given) e ok
  items_are (item ∷ items) t given ok parts limited later h =
      let p = then_ok (typed_item true t item) (λ v. typed_items true v items) final h in
      let rest = items_are items p.0 (with_names given (cons_option (next_name item) [])) (item_is item t p.0 given ok parts.0 limited.0 later.0 (items_add items p.0 final p.2).grows p.1) parts.1 limited.1 later.1 p.2 in
      subst (WalkIs f final final) (one (next_name item)) rest where
        one : (o : Option Spot) → with_names (with_names given (cons_option o [])) (filter_map next_name items) ≡ with_names given (cons_option o (filter_map next_name items))
        one None = refl
        one (Some name) = refl
