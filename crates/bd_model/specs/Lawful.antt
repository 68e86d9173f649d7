-- Designs such as the reader gives, point by point.
use Rattle.std.specs.Prelude.{◌≡◌, ◌≢◌, ◌≤◌, ℕ, Bool, true, false, ◌||◌, List, [], ◌∷◌, ◌++◌, map, length, slice_get, slice_index_or, Some}
use Rattle.std.specs.List.{AllZip, AllByRecursion, AllPairs}
use Rattle.bd_list.specs.Grown.{grown}
use Rattle.bd_model.specs.ExprView.{ExprView, ExprViews, Truth, Entry, Input, Local, Not, And, Or, Implies, Iff, Equal, Ite, Read, Write, Apply, no_exprs, expr, count_of, depth, width}
use Rattle.bd_model.specs.DesignView.{DesignView, MachineView, LocalView, PortView, ExactView}
use Rattle.bd_model.specs.Fits.{result_sort}
use Rattle.bd_model.specs.Name.{IsName}
use Rattle.bd_model.specs.declared.design.Sort.{Sort}
use Rattle.bd_model.specs.declared.design.Sort.TheVariants as sort
use Rattle.bd_model.specs.declared.design.Symbol.{Symbol}
use Rattle.bd_model.specs.declared.design.Entry as entry
use Rattle.bd_model.specs.Limits.{most_items}

-- the sorts of the names in force
pub record Context : Type 0 where
  pub symbols : List Symbol
  pub entries : List Sort
  pub inputs : List Sort
  pub locals : List Sort

-- the symbol f takes so many arguments and gives a value of this sort
abbrev pub Applies : Context → ℕ → ℕ → Sort → Type 0
Applies c f arguments s =
    (y : Symbol) × (slice_get c.symbols f ≡ Some y) × (s ≡ result_sort y) × (arguments ≡ y.arity)

abbrev mutual
  -- an expression has a sort
  pub HasSort : Context → ExprView → Sort → Type 0
  HasSort c (Truth b) s = s ≡ sort.Bool
  HasSort c (Entry i) s = slice_get c.entries i ≡ Some s
  HasSort c (Input i) s = slice_get c.inputs i ≡ Some s
  HasSort c (Local i) s = slice_get c.locals i ≡ Some s
  HasSort c (Not e) s = (s ≡ sort.Bool) × HasSort c e sort.Bool
  HasSort c (And es) s = (s ≡ sort.Bool) × (2 ≤ count_of es) × HaveSort c es sort.Bool
  HasSort c (Or es) s = (s ≡ sort.Bool) × (2 ≤ count_of es) × HaveSort c es sort.Bool
  HasSort c (Implies a b) s = (s ≡ sort.Bool) × HasSort c a sort.Bool × HasSort c b sort.Bool
  HasSort c (Iff a b) s = (s ≡ sort.Bool) × HasSort c a sort.Bool × HasSort c b sort.Bool
  HasSort c (Equal a b) s = (s ≡ sort.Bool) × HasSort c a sort.Word × HasSort c b sort.Word
  HasSort c (Ite p a b) s = HasSort c p sort.Bool × HasSort c a s × HasSort c b s
  HasSort c (Read m a) s = (s ≡ sort.Word) × HasSort c m sort.Memory × HasSort c a sort.Word
  HasSort c (Write m a d) s =
      (s ≡ sort.Memory) × HasSort c m sort.Memory × HasSort c a sort.Word × HasSort c d sort.Word
  HasSort c (Apply f es) s = Applies c f (count_of es) s × HaveSort c es sort.Word

  pub HaveSort : Context → ExprViews → Sort → Type 0
  HaveSort c no_exprs s = Unit {0}
  HaveSort c (expr e es) s = HasSort c e s × HaveSort c es s

-- each let has its sort, and uses earlier lets alone
abbrev pub LetsHaveSorts : Context → List LocalView → Type 0
LetsHaveSorts c [] = Unit {0}
LetsHaveSorts c (l ∷ ls) =
    HasSort c l.value l.sort × LetsHaveSorts (record c { locals = c.locals ++ l.sort ∷ [] }) ls

-- whether an expression uses an input, also through lets, of which flags says whether they do
abbrev mutual
  pub uses_input : List Bool → ExprView → Bool
  uses_input flags (Truth b) = false
  uses_input flags (Entry i) = false
  uses_input flags (Input i) = true
  uses_input flags (Local i) = slice_index_or flags i false
  uses_input flags (Not e) = uses_input flags e
  uses_input flags (And es) = any_uses_input flags es
  uses_input flags (Or es) = any_uses_input flags es
  uses_input flags (Implies a b) = uses_input flags a || uses_input flags b
  uses_input flags (Iff a b) = uses_input flags a || uses_input flags b
  uses_input flags (Equal a b) = uses_input flags a || uses_input flags b
  uses_input flags (Ite p a b) = (uses_input flags p || uses_input flags a) || uses_input flags b
  uses_input flags (Read m a) = uses_input flags m || uses_input flags a
  uses_input flags (Write m a d) = (uses_input flags m || uses_input flags a) || uses_input flags d
  uses_input flags (Apply f es) = any_uses_input flags es

  pub any_uses_input : List Bool → ExprViews → Bool
  any_uses_input flags no_exprs = false
  any_uses_input flags (expr e es) = uses_input flags e || any_uses_input flags es

-- whether each let uses an input, also through the earlier ones
abbrev pub input_flags : List LocalView → List Bool
input_flags locals = grown (λ earlier (l : LocalView). uses_input earlier l.value) [] locals

-- the most parts of any list, and the deepest nesting
abbrev pub IsWithinLimits : ExprView → Type 0
IsWithinLimits e = (depth e ≤ 200) × (width e ≤ most_items)

abbrev pub IsShort : {X : Type 0} → List X → Type 0
IsShort xs = length xs ≤ most_items

abbrev pub entry_sorts : MachineView → List Sort
entry_sorts m = map (λ (x : entry.Entry). x.sort) m.entries

-- the sorts in force in a machine's expressions after its lets
abbrev pub context_of : DesignView → MachineView → Context
context_of d m = record {
  symbols = d.symbols;
  entries = entry_sorts m;
  inputs = map (λ (p : PortView). p.sort) m.ports;
  locals = map (λ (l : LocalView). l.sort) m.locals;
}

-- the sorts in force in the invariant, which uses no input
abbrev pub inv_context : DesignView → Context
inv_context d = record {
  symbols = d.symbols;
  entries = entry_sorts d.pipe;
  inputs = [];
  locals = map (λ (l : LocalView). l.sort) d.inv_locals;
}

abbrev pub without_lets : Context → Context
without_lets c = record c { locals = [] }

pub record IsLawfulMachine (d : DesignView) (m : MachineView) : Type 0 where
  pub locals : LetsHaveSorts (without_lets (context_of d m)) m.locals
  pub nexts : AllZip (λ (x : entry.Entry) e. HasSort (context_of d m) e x.sort) m.entries m.nexts
  pub local_limits : AllByRecursion (λ (l : LocalView). IsWithinLimits l.value) m.locals
  pub next_limits : AllByRecursion IsWithinLimits m.nexts
  pub short : IsShort m.entries × IsShort m.ports × IsShort m.locals

pub record IsLawfulPort (d : DesignView) (p : PortView) : Type 0 where
  pub sort : p.sort ≢ sort.Memory
  pub idle : HasSort (context_of d d.pipe) p.idle p.sort
  pub no_input : uses_input (input_flags d.pipe.locals) p.idle ≡ false
  pub limits : IsWithinLimits p.idle

pub record IsLawfulExact (d : DesignView) (e : ExactView) : Type 0 where
  pub count : e.count ≤ 8
  pub when : HasSort (context_of d d.pipe) e.when sort.Bool
  pub limits : IsWithinLimits e.when

-- a function of arity 0
abbrev pub IsConstant : DesignView → ℕ → Type 0
IsConstant d f =
    (y : Symbol) × (slice_get d.symbols f ≡ Some y) × (y.arity ≡ 0) × (y.predicate ≡ false)

-- two or more different constants
pub record IsLawfulGroup (d : DesignView) (group : List ℕ) : Type 0 where
  pub two : 2 ≤ length group
  pub different : AllPairs ◌≢◌ group
  pub constants : AllByRecursion (IsConstant d) group
  pub short : IsShort group

abbrev pub all_names : DesignView → List (List ℕ)
all_names d =
    (map (λ (y : Symbol). y.name) d.symbols ++ map (λ (x : entry.Entry). x.name) d.pipe.entries)
    ++ map (λ (p : PortView). p.name) d.pipe.ports

-- a machine has this entry, with its name and sort, at a place
abbrev pub IsEntryAt : MachineView → entry.Entry → ℕ → Type 0
IsEntryAt m x i = slice_get m.entries i ≡ Some x

pub record IsLawful (d : DesignView) : Type 0 where
  pub pipe : IsLawfulMachine d d.pipe
  pub spec : IsLawfulMachine d d.spec
  pub ports : AllByRecursion (IsLawfulPort d) d.pipe.ports
  pub no_spec_inputs : d.spec.ports ≡ []
  pub inv_locals : LetsHaveSorts (without_lets (inv_context d)) d.inv_locals
  pub inv : HasSort (inv_context d) d.inv sort.Bool
  pub inv_local_limits : AllByRecursion (λ (l : LocalView). IsWithinLimits l.value) d.inv_locals
  pub inv_limits : IsWithinLimits d.inv
  pub exact : AllByRecursion (IsLawfulExact d) d.exact
  pub distinct : AllByRecursion (IsLawfulGroup d) d.distinct
  pub names : AllByRecursion IsName (all_names d)
  pub different_names : AllPairs ◌≢◌ (all_names d)
  pub visible : AllZip (IsEntryAt d.pipe) d.spec.entries d.visible
  pub visible_once : AllPairs ◌≢◌ d.visible
  pub arities : AllByRecursion (λ (y : Symbol). y.arity ≤ 8) d.symbols
  pub flush : d.flush ≤ 64
  pub steps : d.steps ≤ 8
  pub short : IsShort d.symbols × IsShort d.inv_locals × IsShort d.exact × IsShort d.distinct
