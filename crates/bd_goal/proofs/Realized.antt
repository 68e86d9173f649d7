-- Each world that keeps the constants apart is, on the design's symbols and the fresh addresses, that of a fitting case.
use Rattle.std.proofs.Common.{◌≡◌, ◌≢◌, ℕ, zero, suc, ◌+◌, ◌<◌, inl, inr, Bool, true, false, ◌&&◌, ◌==◌, if◌then◌else◌, List, [], ◌∷◌, length, slice_get, slice_index_or, map, Some, None, Option, refl, ap, sym, ◌∙◌, subst, arith, eqb-true, eq-eqb, true≢false}
use Rattle.std.specs.Prelude.{nat_eq}
use Rattle.std.specs.List.{AllZip, AllByRecursion, AllPairs}
use Rattle.std.specs.Cmp.Lexicographic.{same_text}
use Rattle.std.proofs.lemmas.Option.{same_Some}
use Rattle.bd_terms.proofs.Places.{AllByRecursion-get}
use lib.Pointwise.{pointwise}
use Rattle.bd_model.specs.Table.{row_value, at}
use Rattle.bd_model.specs.Value.{truth, table_of, no_table, scalar_word}
use Rattle.bd_model.specs.DesignView.{DesignView, PortView}
use Rattle.bd_model.specs.Fits.{scalar_sort, value_sort, result_sort, RowFits, TableFits, DefaultsDiffer, KeepsApart, Fits}
use Rattle.bd_model.specs.Lawful.{IsLawfulGroup, IsConstant}
use Rattle.bd_model.specs.declared.case.Case.{Case}
use Rattle.bd_model.specs.declared.design.Sort.{Sort}
use Rattle.bd_model.specs.declared.design.Sort.TheVariants as sort
use Rattle.bd_model.specs.declared.design.Symbol.{Symbol}
use Rattle.bd_model.specs.declared.design.Entry as entry
use Rattle.bd_model.specs.declared.table.Scalar.{Scalar}
use Rattle.bd_model.specs.declared.table.Scalar.TheVariants as scalar
use Rattle.bd_model.specs.declared.table.Row.{Row}
use Rattle.bd_model.specs.declared.table.Slot.{Slot}
use Rattle.bd_model.specs.declared.table.Table.{Table}
use Rattle.bd_model.specs.declared.table.Memory.{Memory}
use Rattle.bd_model.specs.declared.table.Value.{Value}
use Rattle.bd_model.specs.declared.table.Value.TheVariants as value
use Rattle.bd_terms.specs.declared.node.Sym.{Sym}
use Rattle.bd_terms.specs.declared.node.Sym.TheVariants as symbol
use Rattle.bd_terms.specs.Graph.{Use}
use Rattle.bd_terms.specs.Denotation.{World, applied}
use Rattle.bd_symbolic.specs.World.{constant, slot_row, value_table}
use Rattle.bd_symbolic.specs.DesignSymbols.{declared_use, function_use, entry_use, port_use, sort_use}
use Rattle.bd_symbolic.specs.Widened.{HasLawfulSymbols}
use Rattle.bd_goal.specs.Symbols.{IsKnown}
use Rattle.bd_terms.specs.Valid.{KeepsConstantsApart}
use Rattle.bd_goal.specs.Claims.{case_world}
use Rattle.bd_goal.proofs.Alike.{as_sort, GivesSame}
use Rattle.bd_goal.proofs.Telling.{listed, get-listed}

-- the rows with so many arguments, with values of the sort
abbrev kept_rows : ℕ → Sort → List Row → List Row
kept_rows n s [] = []
kept_rows n s (r ∷ rs) = if length r.args == n then record { args = r.args; value = as_sort s r.value } ∷ kept_rows n s rs else kept_rows n s rs

-- the table as one of an arity and a sort; where there is no argument, its value alone
abbrev table_as : ℕ → Sort → Table → Table
table_as zero s t = constant (as_sort s (at t []))
table_as (suc n) s t = record { default = as_sort s t.default; rows = kept_rows (suc n) s t.rows }

kept-value : (n : ℕ) (s : Sort) (rs : List Row) (d : Scalar) (args : List ℕ) → length args ≡ n → row_value (kept_rows n s rs) args (as_sort s d) ≡ as_sort s (row_value rs args d)
kept-value n s [] d args h = refl
kept-value n s (r ∷ rs) d args h = cases (length r.args == n) refl (pointwise nat_eq r.args args) refl (kept-value n s rs d args h) where
  cases : (b : Bool) → (length r.args == n) ≡ b → (m : Bool) → pointwise nat_eq r.args args ≡ m → row_value (kept_rows n s rs) args (as_sort s d) ≡ as_sort s (row_value rs args d)
      → row_value (if b then record { args = r.args; value = as_sort s r.value } ∷ kept_rows n s rs else kept_rows n s rs) args (as_sort s d) ≡ as_sort s (if m then r.value else row_value rs args d)
  cases true e true f rest = rw f refl
  cases true e false f rest = rw f rest
  cases false e true f rest =
      let same : r.args ≡ args = same_text r.args args (sym f) in
      absurd (true≢false (sym (eq-eqb (length r.args) n (ap length same ∙ h)) ∙ e))
  cases false e false f rest = rest

none_given : (args : List ℕ) → length args ≡ 0 → [] ≡ args
none_given [] h = refl
none_given (a ∷ args) h = absurd (omega (arith, h))

-- it gives the value of the sort to so many arguments
at-table_as : (n : ℕ) (s : Sort) (t : Table) (args : List ℕ) → length args ≡ n → at (table_as n s t) args ≡ as_sort s (at t args)
at-table_as zero s t args h = ap (λ l. as_sort s (at t l)) (none_given args h)
at-table_as (suc n) s t args h = kept-value (suc n) s t.rows t.default args h

as_sort-twice : (s : Sort) (x : Scalar) → as_sort s (as_sort s x) ≡ as_sort s x
as_sort-twice sort.Bool x = refl
as_sort-twice sort.Word x = refl
as_sort-twice sort.Memory x = refl

scalar_sort-result : (y : Symbol) (x : Scalar) → scalar_sort (as_sort (result_sort y) x) ≡ result_sort y
scalar_sort-result y x = cases y.predicate where
  cases : (b : Bool) → scalar_sort (as_sort (if b then sort.Bool else sort.Word) x) ≡ (if b then sort.Bool else sort.Word)
  cases true = refl
  cases false = refl

kept-fits : (y : Symbol) (n : ℕ) → n ≡ y.arity → (rs : List Row) → AllByRecursion (RowFits y) (kept_rows n (result_sort y) rs)
kept-fits y n same [] = tt
kept-fits y n same (r ∷ rs) = cases (length r.args == n) refl (kept-fits y n same rs) where
  cases : (b : Bool) → (length r.args == n) ≡ b → AllByRecursion (RowFits y) (kept_rows n (result_sort y) rs)
      → AllByRecursion (RowFits y) (if b then record { args = r.args; value = as_sort (result_sort y) r.value } ∷ kept_rows n (result_sort y) rs else kept_rows n (result_sort y) rs)
  cases true e rest = (record { arity = eqb-true (length r.args) n e ∙ same; value = scalar_sort-result y r.value }, rest)
  cases false e rest = rest

table_as-fits : (y : Symbol) (n : ℕ) → n ≡ y.arity → (t : Table) → TableFits y (table_as n (result_sort y) t)
table_as-fits y zero same t = record { default = scalar_sort-result y (at t []); rows = tt }
table_as-fits y (suc n) same t = record { default = scalar_sort-result y t.default; rows = kept-fits y (suc n) same t.rows }

-- a value for each item, by its number from n
abbrev numbered : {X Y : Type 0} → (ℕ → X → Y) → ℕ → List X → List Y
numbered g n [] = []
numbered g n (x ∷ xs) = g n x ∷ numbered g (suc n) xs

get-numbered : {X Y : Type 0} → (g : ℕ → X → Y) (n : ℕ) (xs : List X) (i : ℕ) (x : X) (d : Y) → slice_get xs i ≡ Some x → slice_index_or (numbered g n xs) i d ≡ g (n + i) x
get-numbered g n [] i x d h = absurd (cc h)
get-numbered g n (z ∷ xs) zero x d h = let same : z ≡ x = cc h in let e : n ≡ n + 0 = omega arith in ap (λ y. g n y) same ∙ ap (λ k. g k x) e
get-numbered g n (z ∷ xs) (suc i) x d h = let e : suc n + i ≡ n + suc i = omega arith in get-numbered g (suc n) xs i x d h ∙ ap (λ k. g k x) e

get-numbered_zero : {X Y : Type 0} → (g : ℕ → X → Y) (xs : List X) (i : ℕ) (x : X) (d : Y) → slice_get xs i ≡ Some x → slice_index_or (numbered g 0 xs) i d ≡ g i x
get-numbered_zero g xs i x d h = let e : 0 + i ≡ i = omega arith in get-numbered g 0 xs i x d h ∙ ap (λ k. g k x) e

AllZip-numbered : {X Y : Type 0} → (P : X → Type 0) (R : X → Y → Type 0) (g : ℕ → X → Y) → ((i : ℕ) (x : X) → P x → R x (g i x)) → (n : ℕ) (xs : List X) → AllByRecursion P xs → AllZip R xs (numbered g n xs)
AllZip-numbered P R g h n [] a = tt
AllZip-numbered P R g h n (x ∷ xs) a = (h n x a.0, AllZip-numbered P R g h (suc n) xs a.1)

each_any : {X : Type 0} → (xs : List X) → AllByRecursion (λ (x : X). Unit {0}) xs
each_any [] = tt
each_any (x ∷ xs) = (tt, each_any xs)

-- the memory that a table reads as, by its rows with one argument
abbrev slots_with : List ℕ → Scalar → List Slot → List Slot
slots_with [] v rest = rest
slots_with (a ∷ []) v rest = record { address = a; value = scalar_word v } ∷ rest
slots_with (a ∷ b ∷ args) v rest = rest

abbrev slots : List Row → List Slot
slots [] = []
slots (r ∷ rs) = slots_with r.args r.value (slots rs)

abbrev memory_in : Table → Memory
memory_in t = record { default = scalar_word t.default; rows = slots t.rows }

slots-value : (rs : List Row) (a : ℕ) (d : Scalar) → scalar_word (row_value (map slot_row (slots rs)) (a ∷ []) (scalar.Word (scalar_word d))) ≡ scalar_word (row_value rs (a ∷ []) d)
slots-value [] a d = refl
slots-value (r ∷ rs) a d = cases r.args (slots-value rs a d) where
  found : (b : Bool) → scalar_word (row_value (map slot_row (slots rs)) (a ∷ []) (scalar.Word (scalar_word d))) ≡ scalar_word (row_value rs (a ∷ []) d)
      → scalar_word (if b then scalar.Word (scalar_word r.value) else row_value (map slot_row (slots rs)) (a ∷ []) (scalar.Word (scalar_word d))) ≡ scalar_word (if b then r.value else row_value rs (a ∷ []) d)
  found true rest = refl
  found false rest = rest

  missed : (b : Bool) → b ≡ false → scalar_word (row_value (map slot_row (slots rs)) (a ∷ []) (scalar.Word (scalar_word d))) ≡ scalar_word (row_value rs (a ∷ []) d)
      → scalar_word (row_value (map slot_row (slots rs)) (a ∷ []) (scalar.Word (scalar_word d))) ≡ scalar_word (if b then r.value else row_value rs (a ∷ []) d)
  missed true e rest = absurd (true≢false e)
  missed false e rest = rest

  ends : (b : Bool) → (b && false) ≡ false
  ends true = refl
  ends false = refl

  cases : (args : List ℕ) → scalar_word (row_value (map slot_row (slots rs)) (a ∷ []) (scalar.Word (scalar_word d))) ≡ scalar_word (row_value rs (a ∷ []) d)
      → scalar_word (row_value (map slot_row (slots_with args r.value (slots rs))) (a ∷ []) (scalar.Word (scalar_word d))) ≡ scalar_word (if pointwise nat_eq args (a ∷ []) then r.value else row_value rs (a ∷ []) d)
  cases [] rest = rest
  cases (x ∷ []) rest = found (pointwise nat_eq (x ∷ []) (a ∷ [])) rest
  cases (x ∷ y ∷ args) rest = missed (pointwise nat_eq (x ∷ y ∷ args) (a ∷ [])) (ends (nat_eq x a)) rest

-- the value of an entry in a world
abbrev value_in : World → ℕ → Sort → Value
value_in w i sort.Bool = value.Scalar (as_sort sort.Bool (at (w (symbol.Entry i)) []))
value_in w i sort.Word = value.Scalar (as_sort sort.Word (at (w (symbol.Entry i)) []))
value_in w i sort.Memory = value.Memory (memory_in (w (symbol.Entry i)))

value_in-sort : (w : World) (i : ℕ) (s : Sort) → value_sort (value_in w i s) ≡ s
value_in-sort w i sort.Bool = refl
value_in-sort w i sort.Word = refl
value_in-sort w i sort.Memory = refl

abbrev symbol_table : World → ℕ → Symbol → Table
symbol_table w f y = table_as y.arity (result_sort y) (w (symbol.Function f))

abbrev port_value : World → ℕ → PortView → Scalar
port_value w i p = as_sort p.sort (at (w (symbol.Input i)) [])

-- the case of a world
abbrev pub case_of : DesignView → World → Case
case_of d w = record {
  interp = numbered (symbol_table w) 0 d.symbols;
  state = numbered (λ i (x : entry.Entry). value_in w i x.sort) 0 d.pipe.entries;
  inputs = numbered (port_value w) 0 d.pipe.ports;
}

-- the words of the first n addresses in a world
abbrev pub words_of : ℕ → World → List ℕ
words_of n w = listed (λ i. applied w (symbol.Address i) []) n

-- the table of a constant is its word alone
constant-table : (d : DesignView) (w : World) (f : ℕ) → IsConstant d f → table_of (case_of d w).interp f ≡ constant (scalar.Word (applied w (symbol.Function f) []))
constant-table d w f (y, there, arity, function) =
    get-numbered_zero (symbol_table w) d.symbols f y no_table there
    ∙ ap (λ n. table_as n (result_sort y) (w (symbol.Function f))) arity
    ∙ ap (λ (b : Bool). table_as 0 (if b then sort.Bool else sort.Word) (w (symbol.Function f))) function

pub each-at : {X : Type 0} → (P : X → Type 0) (xs : List X) → AllByRecursion P xs → (i : ℕ) (d : X) → i < length xs → P (slice_index_or xs i d)
each-at P [] h i d within = absurd (omega (arith, within))
each-at P (x ∷ xs) h zero d within = h.0
each-at P (x ∷ xs) h (suc i) d within = each-at P xs h.1 i d (omega (arith, within))

no_rows-of : (d : DesignView) (w : World) (group : List ℕ) → AllByRecursion (IsConstant d) group → AllByRecursion (λ f. (table_of (case_of d w).interp f).rows ≡ []) group
no_rows-of d w [] h = tt
no_rows-of d w (f ∷ group) h = (ap (λ (t : Table). t.rows) (constant-table d w f h.0), no_rows-of d w group h.1)

defaults-differ : (d : DesignView) (w : World) (f g : ℕ) → IsConstant d f → IsConstant d g → applied w (symbol.Function f) [] ≢ applied w (symbol.Function g) [] → DefaultsDiffer (case_of d w).interp f g
defaults-differ d w f g a b differ same =
    differ (cc (ap (λ (t : Table). t.default) (constant-table d w f a), ap (λ (t : Table). t.default) (constant-table d w g b), same))

groups-apart : (d : DesignView) (w : World) (groups : List (List ℕ)) → AllByRecursion (IsLawfulGroup d) groups
    → AllByRecursion (AllPairs (λ f g. applied w (symbol.Function f) [] ≢ applied w (symbol.Function g) [])) groups → AllByRecursion (KeepsApart (case_of d w).interp) groups
groups-apart d w [] lawful h = tt
groups-apart d w (group ∷ groups) lawful h = (
  record {
    no_rows = no_rows-of d w group lawful.0.constants;
    different = λ i j e below within.
        defaults-differ d w (slice_index_or group i e) (slice_index_or group j e) (each-at (IsConstant d) group lawful.0.constants i e (omega arith)) (each-at (IsConstant d) group lawful.0.constants j e within)
        (h.0 i j e below within);
  },
  groups-apart d w groups lawful.1 h.1,
)

scalar_sort-as : (s : Sort) (x : Scalar) → s ≢ sort.Memory → scalar_sort (as_sort s x) ≡ s
scalar_sort-as sort.Bool x h = refl
scalar_sort-as sort.Word x h = refl
scalar_sort-as sort.Memory x h = absurd (h refl)

-- it fits
pub case_of-fits : (d : DesignView) (w : World) → HasLawfulSymbols d → KeepsConstantsApart d w → Fits d (case_of d w)
case_of-fits d w lawful apart = record {
  interp = record {
    tables = AllZip-numbered (λ (y : Symbol). Unit {0}) TableFits (symbol_table w) (λ f y _. table_as-fits y y.arity refl (w (symbol.Function f))) 0 d.symbols (each_any d.symbols);
    apart = groups-apart d w d.distinct lawful.distinct apart;
  };
  state = AllZip-numbered (λ (x : entry.Entry). Unit {0}) (λ (x : entry.Entry) v. value_sort v ≡ x.sort) (λ i (x : entry.Entry). value_in w i x.sort) (λ i x _. value_in-sort w i x.sort) 0 d.pipe.entries (each_any d.pipe.entries);
  inputs = AllZip-numbered (λ (p : PortView). p.sort ≢ sort.Memory) (λ (p : PortView) x. scalar_sort x ≡ p.sort) (port_value w) (λ i p h. scalar_sort-as p.sort (at (w (symbol.Input i)) []) h) 0 d.pipe.ports lawful.inputs;
}

-- a symbol whose table is its value alone
constant-gives : (v w : World) (s : Sym) (sort : Sort) → w s ≡ constant (as_sort sort (at (v s) [])) → GivesSame v w (record { symbol = s; arity = 0; sort = sort })
constant-gives v w s sort e args none =
    sym (
    ap (λ (t : Table). as_sort sort (at t args)) e
    ∙ as_sort-twice sort (at (v s) [])
    ∙ ap (λ l. as_sort sort (at (v s) l)) (none_given args none)
    )

memory-gives : (v w : World) (s : Sym) → w s ≡ value_table (value.Memory (memory_in (v s))) → GivesSame v w (record { symbol = s; arity = 1; sort = sort.Word })
memory-gives v w s e [] one = absurd (omega (arith, one))
memory-gives v w s e (a ∷ b ∷ args) one = absurd (omega (arith, one))
memory-gives v w s e (a ∷ []) one =
    sym (ap (λ (t : Table). scalar.Word (scalar_word (at t (a ∷ [])))) e ∙ ap scalar.Word (slots-value (v s).rows a (v s).default))

table-gives : (v w : World) (f : ℕ) (y : Symbol) → w (symbol.Function f) ≡ symbol_table v f y → GivesSame v w (record { symbol = symbol.Function f; arity = y.arity; sort = result_sort y })
table-gives v w f y e args size =
    sym (
    ap (λ (t : Table). as_sort (result_sort y) (at t args)) e
    ∙ ap (λ x. as_sort (result_sort y) x) (at-table_as y.arity (result_sort y) (v (symbol.Function f)) args size)
    ∙ as_sort-twice (result_sort y) (at (v (symbol.Function f)) args)
    )

entry-gives : (v w : World) (i : ℕ) (s : Sort) → w (symbol.Entry i) ≡ value_table (value_in v i s) → GivesSame v w (sort_use (symbol.Entry i) s)
entry-gives v w i sort.Bool e = constant-gives v w (symbol.Entry i) sort.Bool e
entry-gives v w i sort.Word e = constant-gives v w (symbol.Entry i) sort.Word e
entry-gives v w i sort.Memory e = memory-gives v w (symbol.Entry i) e

input-gives : (v w : World) (i : ℕ) (s : Sort) → s ≢ sort.Memory → w (symbol.Input i) ≡ constant (as_sort s (at (v (symbol.Input i)) [])) → GivesSame v w (sort_use (symbol.Input i) s)
input-gives v w i sort.Bool h e = constant-gives v w (symbol.Input i) sort.Bool e
input-gives v w i sort.Word h e = constant-gives v w (symbol.Input i) sort.Word e
input-gives v w i sort.Memory h e = absurd (h refl)

-- the world of the case
abbrev world_again : DesignView → ℕ → World → World
world_again d n w = case_world (case_of d w) (words_of n w)

function_known : (d : DesignView) (n : ℕ) (w : World) (f : ℕ) (u : Use) (o : Option Symbol) → slice_get d.symbols f ≡ o → function_use f o ≡ Some u → GivesSame w (world_again d n w) u
function_known d n w f u None there h = absurd (cc h)
function_known d n w f u (Some y) there h =
    subst (GivesSame w (world_again d n w)) (same_Some _ u h) (table-gives w (world_again d n w) f y (get-numbered_zero (symbol_table w) d.symbols f y no_table there))

entry_known : (d : DesignView) (n : ℕ) (w : World) (i : ℕ) (u : Use) (o : Option entry.Entry) → slice_get d.pipe.entries i ≡ o → entry_use i o ≡ Some u → GivesSame w (world_again d n w) u
entry_known d n w i u None there h = absurd (cc h)
entry_known d n w i u (Some x) there h =
    subst (GivesSame w (world_again d n w)) (same_Some _ u h)
    (entry-gives w (world_again d n w) i x.sort (ap value_table (get-numbered_zero (λ i (x : entry.Entry). value_in w i x.sort) d.pipe.entries i x (truth false) there)))

port_known : (d : DesignView) (n : ℕ) (w : World) → HasLawfulSymbols d → (i : ℕ) (u : Use) (o : Option PortView) → slice_get d.pipe.ports i ≡ o → port_use i o ≡ Some u → GivesSame w (world_again d n w) u
port_known d n w lawful i u None there h = absurd (cc h)
port_known d n w lawful i u (Some p) there h =
    subst (GivesSame w (world_again d n w)) (same_Some _ u h)
    (input-gives w (world_again d n w) i p.sort (AllByRecursion-get (λ (p : PortView). p.sort ≢ sort.Memory) d.pipe.ports i p lawful.inputs there)
    (ap constant (get-numbered_zero (port_value w) d.pipe.ports i p (scalar.Bool false) there)))

declared-gives : (d : DesignView) (n : ℕ) (w : World) → HasLawfulSymbols d → (s : Sym) (u : Use) → declared_use d s ≡ Some u → GivesSame w (world_again d n w) u
declared-gives d n w lawful (symbol.Function f) u h = function_known d n w f u (slice_get d.symbols f) refl h
declared-gives d n w lawful (symbol.Entry i) u h = entry_known d n w i u (slice_get d.pipe.entries i) refl h
declared-gives d n w lawful (symbol.Input i) u h = port_known d n w lawful i u (slice_get d.pipe.ports i) refl h
declared-gives d n w lawful (symbol.Address i) u h = absurd (cc h)
declared-gives d n w lawful (symbol.Var v) u h = absurd (cc h)

-- and gives each symbol of the design, and the addresses, the same values
pub known-gives : (d : DesignView) (n : ℕ) (w : World) → HasLawfulSymbols d → (u : Use) → IsKnown d n u → GivesSame w (case_world (case_of d w) (words_of n w)) u
known-gives d n w lawful u (inl declared) = declared-gives d n w lawful u.symbol u declared
known-gives d n w lawful u (inr (i, below, is)) =
    subst (GivesSame w (world_again d n w)) (sym is)
    (constant-gives w (world_again d n w) (symbol.Address i) sort.Word (ap (λ k. constant (scalar.Word k)) (get-listed (λ i. applied w (symbol.Address i) []) n i below)))
