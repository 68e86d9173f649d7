-- Which calls of the constructors made the root of a question: form by form as the formula says it, so that a root that
-- says the same by another form is refused.
use Rattle.std.specs.Prelude.{◌≡◌, ◌+◌, ◌*◌, ◌==◌, ℕ, zero, suc, Bool, true, false, List, [], ◌∷◌, map, slice_index_or, if◌then◌else◌}
use Rattle.bd_model.specs.DesignView.{DesignView, ExactView, local_view}
use Rattle.bd_model.specs.ExprView.{expr_views, list_of_views}
use Rattle.bd_model.specs.declared.design.Sort.{Sort}
use Rattle.bd_model.specs.declared.design.Sort.TheVariants as sort
use Rattle.bd_model.specs.declared.design.Entry as entry
use Rattle.bd_terms.specs.declared.node.Sym.TheVariants as symbol
use Rattle.bd_terms.specs.declared.node.Node.{Node}
use Rattle.bd_terms.specs.declared.node.Node.TheVariants as node
use Rattle.bd_symbolic.specs.Made.{AreFirstEntries, AreFirstInputs, AreFlushed, AreMadeOver, Called, IsEquivalence, IsFirstState, IsImplication}
use Rattle.bd_symbolic.specs.declared.state.SymState.{SymState}
use Rattle.bd_model.specs.declared.abstraction.Abstraction.{Abstraction}
use Rattle.bd_model.specs.declared.abstraction.Abstraction.TheVariants as abstraction
use Rattle.bd_goal.specs.Formula.{address_count, is_memory}

-- a state in which what uses no input is made
abbrev pub alone : SymState → SymState
alone state = record state { inputs = [] }

-- the invariant
abbrev pub IsInvariant : List Node → DesignView → SymState → ℕ → Type 0
IsInvariant nodes d state id =
    AreMadeOver nodes d (alone state) d.inv_locals (d.inv ∷ []) (id ∷ [])

-- the visible entries that a state stands for
abbrev pub AreVisible : List Node → DesignView → Abstraction → SymState → List ℕ → Type 0
AreVisible nodes d abstraction.Flushing state ids =
    (flushed : List ℕ) × AreFlushed nodes d d.flush state flushed
    × (ids ≡ map (λ i. slice_index_or flushed i 0) d.visible)
AreVisible nodes d (abstraction.Given lets parts) state ids =
    AreMadeOver nodes d (alone state) (map local_view lets) (list_of_views (expr_views parts)) ids

-- two terms of a sort are equal, memories where they are read at the address of a number
abbrev pub IsEquation : List Node → Sort → ℕ → ℕ → ℕ → ℕ → Type 0
IsEquation nodes sort.Bool a b number id = IsEquivalence nodes a b id
IsEquation nodes sort.Word a b number id = Called nodes (node.Eq a b) id
IsEquation nodes sort.Memory a b number id =
    (place : ℕ) × (x : ℕ) × (y : ℕ) × Called nodes (node.App (symbol.Address number) []) place
    × Called nodes (node.Read a place) x × Called nodes (node.Read b place) y
    × Called nodes (node.Eq x y) id

-- the entries from place i on are equal, joined to the term so far, where the next memory has the address of this number
-- and the stride leads to that of the one after it
abbrev pub AreEqualFrom : List Node → List ℕ → List ℕ → ℕ → ℕ → ℕ → ℕ → List entry.Entry → ℕ → Type 0
AreEqualFrom nodes ours theirs stride i number done [] id = id ≡ done
AreEqualFrom nodes ours theirs stride i number done (x ∷ entries) id =
    (one : ℕ) × (next : ℕ)
    × IsEquation nodes x.sort (slice_index_or ours i 0) (slice_index_or theirs i 0) number one
    × Called nodes (node.And done one) next
    × AreEqualFrom nodes ours theirs stride (i + 1) (number + (if is_memory x.sort then stride else 0)) next entries id

-- two visible states are equal
abbrev pub AreEqual : List Node → DesignView → List ℕ → List ℕ → ℕ → ℕ → ℕ → Type 0
AreEqual nodes d ours theirs first stride id =
    (yes : ℕ) × Called nodes node.True yes
    × AreEqualFrom nodes ours theirs stride 0 first yes d.spec.entries id

-- true if the count is free, else the negation of a condition
abbrev pub IsUnless : List Node → Bool → ℕ → ℕ → Type 0
IsUnless nodes true when id = Called nodes node.True id
IsUnless nodes false when id = Called nodes (node.Not when) id

-- the items from place i on allow j steps, joined to the term so far
abbrev pub AllowFrom : List Node → ℕ → List ℕ → ℕ → ℕ → List ExactView → ℕ → Type 0
AllowFrom nodes j whens i done [] id = id ≡ done
AllowFrom nodes j whens i done (x ∷ exact) id =
    (one : ℕ) × (next : ℕ) × IsUnless nodes (x.count == j) (slice_index_or whens i 0) one
    × Called nodes (node.And done one) next × AllowFrom nodes j whens (i + 1) next exact id

-- j steps are allowed
abbrev pub IsAllowance : List Node → DesignView → List ℕ → ℕ → ℕ → Type 0
IsAllowance nodes d whens j id =
    (yes : ℕ) × Called nodes node.True yes × AllowFrom nodes j whens 0 yes d.exact id

-- the cycle stands for j steps
abbrev pub IsStanding : List Node → DesignView → List ℕ → List ℕ → List ℕ → ℕ → ℕ → ℕ → Type 0
IsStanding nodes d whens after joined first j id =
    (allowed : ℕ) × (same : ℕ) × IsAllowance nodes d whens j allowed
    × AreEqual nodes d after joined (first + j) (d.steps + 1) same
    × Called nodes (node.And allowed same) id

-- or for one of so many numbers of steps after j, each from the visible state of the one before it
abbrev pub StandsFrom : List Node → DesignView → List ℕ → List ℕ → ℕ → ℕ → SymState → ℕ → ℕ → ℕ → Type 0
StandsFrom nodes d whens after first j joined done zero id = id ≡ done
StandsFrom nodes d whens after first j joined done (suc left) id =
    (next : SymState) × (one : ℕ) × (any : ℕ)
    × (next.inputs ≡ []) × AreMadeOver nodes d joined d.spec.locals d.spec.nexts next.entries
    × IsStanding nodes d whens after next.entries first (j + 1) one
    × Called nodes (node.Or done one) any
    × StandsFrom nodes d whens after first (j + 1) next any left id

-- the cycle from a state commutes from one visible state to the other
pub record IsCommuting (nodes : List Node) (d : DesignView) (state before : SymState) (after : List ℕ) (first id : ℕ) : Type 0 where
  pub whens : List ℕ
  pub none : ℕ
  pub conditions : AreMadeOver nodes d state d.pipe.locals (map (λ (x : ExactView). x.when) d.exact) whens
  pub no_steps : IsStanding nodes d whens after before.entries first 0 none
  pub steps : StandsFrom nodes d whens after first 0 before none d.steps id

-- the correspondence formula by an abstraction
pub record IsCorrespondence (nodes : List Node) (d : DesignView) (abs : Abstraction) (root : ℕ) : Type 0 where
  pub state : SymState
  pub next : SymState
  pub before : SymState
  pub after : List ℕ
  pub inside : ℕ
  pub kept : ℕ
  pub commutes : ℕ
  pub holds : ℕ
  pub is_first : IsFirstState d nodes state
  pub is_next : AreMadeOver nodes d state d.pipe.locals d.pipe.nexts next.entries
  pub same_inputs : next.inputs ≡ state.inputs
  pub is_inside : IsInvariant nodes d state inside
  pub is_kept : IsInvariant nodes d next kept
  pub is_after : AreVisible nodes d abs next after
  pub is_before : AreVisible nodes d abs state before.entries
  pub no_inputs : before.inputs ≡ []
  pub is_commuting : IsCommuting nodes d state before after 0 commutes
  pub joined : Called nodes (node.And kept commutes) holds
  pub implied : IsImplication nodes inside holds root

-- that the abstraction agrees with flushing
pub record IsAgreement (nodes : List Node) (d : DesignView) (abs : Abstraction) (root : ℕ) : Type 0 where
  pub state : SymState
  pub given : List ℕ
  pub flushed : List ℕ
  pub inside : ℕ
  pub same : ℕ
  pub is_first : IsFirstState d nodes state
  pub is_inside : IsInvariant nodes d state inside
  pub is_given : AreVisible nodes d abs state given
  pub is_flushed : AreVisible nodes d abstraction.Flushing state flushed
  pub are_equal : AreEqual nodes d given flushed 0 1 same
  pub implied : IsImplication nodes inside same root

-- that the invariant is false in the first state
pub record IsDenial (nodes : List Node) (d : DesignView) (root : ℕ) : Type 0 where
  pub state : SymState
  pub inside : ℕ
  pub is_first : IsFirstState d nodes state
  pub is_inside : IsInvariant nodes d state inside
  pub denied : Called nodes (node.Not inside) root

-- the start of a run: the terms of the first state's entries, what it is flushed to, that the invariant is true in it,
-- and true
pub record IsStart (nodes : List Node) (d : DesignView) (entries : List ℕ) (flushed : SymState) (inside yes : ℕ) : Type 0 where
  pub inputs : List ℕ
  pub are_entries : AreFirstEntries d nodes entries
  pub are_inputs : AreFirstInputs d 0 nodes inputs
  pub is_inside : IsInvariant nodes d (record { entries = entries; inputs = inputs }) inside
  pub is_flushed : AreVisible nodes d abstraction.Flushing (record { entries = entries; inputs = inputs }) flushed.entries
  pub no_inputs : flushed.inputs ≡ []
  pub is_yes : Called nodes node.True yes

-- a cycle of a run, by its number from 0: that it commutes is joined to the term so far
pub record IsCycleOfRun (nodes : List Node) (d : DesignView) (cycle : ℕ) (entries : List ℕ) (before : SymState) (done : ℕ) (next after : SymState) (id : ℕ) : Type 0 where
  pub inputs : List ℕ
  pub one : ℕ
  pub are_inputs : AreFirstInputs d cycle nodes inputs
  pub is_next : AreMadeOver nodes d (record { entries = entries; inputs = inputs }) d.pipe.locals d.pipe.nexts next.entries
  pub same_inputs : next.inputs ≡ inputs
  pub is_after : AreVisible nodes d abstraction.Flushing next after.entries
  pub no_inputs : after.inputs ≡ []
  pub is_commuting : IsCommuting nodes d (record { entries = entries; inputs = inputs }) before after.entries (cycle * address_count d) one
  pub joined : Called nodes (node.And done one) id

-- so many cycles from this number on
abbrev pub CyclesFrom : List Node → DesignView → ℕ → List ℕ → SymState → ℕ → ℕ → ℕ → Type 0
CyclesFrom nodes d cycle entries before done zero id = id ≡ done
CyclesFrom nodes d cycle entries before done (suc left) id =
    (next : SymState) × (after : SymState) × (joined : ℕ)
    × IsCycleOfRun nodes d cycle entries before done next after joined
    × CyclesFrom nodes d (cycle + 1) next.entries after joined left id

-- a run of so many cycles, and the terms that the invariant is true before it and that each cycle commutes
pub record IsRunOf (nodes : List Node) (d : DesignView) (cycles inside all : ℕ) : Type 0 where
  pub entries : List ℕ
  pub flushed : SymState
  pub yes : ℕ
  pub start : IsStart nodes d entries flushed inside yes
  pub cycles_made : CyclesFrom nodes d 0 entries flushed yes cycles all

-- the formula of a bounded run: true where there is no cycle
abbrev pub IsBoundedRoot : List Node → DesignView → ℕ → ℕ → Type 0
IsBoundedRoot nodes d zero root = Called nodes node.True root
IsBoundedRoot nodes d (suc n) root =
    (inside : ℕ) × (all : ℕ) × IsRunOf nodes d (suc n) inside all × IsImplication nodes inside all root
