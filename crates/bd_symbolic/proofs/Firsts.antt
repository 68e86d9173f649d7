-- The terms of entries and inputs before the first cycle.
use Rattle.std.proofs.Common.{◌≡◌, ◌≢◌, ℕ, zero, suc, ◌+◌, ◌*◌, ◌&&◌, true, false, ◌++◌, List, [], ◌∷◌, map, length, Some, Result, Ok, Err, IfOk, refl, ap, sym, ◌∙◌, subst, arith, append-nil, append_assoc, length-append, zero-add, get_or, ◌<◌, true≢false}
use denote.Enum.Bare.{sameb}
use Rattle.bd_model.specs.contracts.design.Sort.{the_type}
use Rattle.std.specs.Prelude.{◌==◌, slice_get, slice_index_or, if◌then◌else◌}
use Rattle.std.specs.List.{AllZip, AllByRecursion}
use Rattle.std.specs.declared.alloc.AllocError.{AllocError}
use Rattle.std.proofs.Math.Path.{fun_ext}
use Rattle.std.proofs.lemmas.List.{length-map}
use Rattle.std.proofs.lemmas.Option.{slice_get-get_or}
use Rattle.bd_model.specs.DesignView.{DesignView, PortView, design_view, port_view}
use Rattle.bd_model.specs.Table.{at, read, row_value, slot_value}
use Rattle.bd_model.specs.Value.{scalar_word, scalar_truth, truth}
use Rattle.bd_model.specs.Fits.{scalar_sort, value_sort}
use Rattle.bd_model.specs.Lawful.{entry_sorts}
use Rattle.bd_model.specs.declared.design.Design.{Design}
use Rattle.bd_model.specs.declared.design.Sort.{Sort}
use Rattle.bd_model.specs.declared.design.Sort.TheVariants as sort
use Rattle.bd_model.specs.declared.design.Entry as entry
use Rattle.bd_model.specs.declared.table.Scalar.TheVariants as scalar
use Rattle.bd_model.specs.declared.table.Slot.{Slot}
use Rattle.bd_model.specs.declared.table.Memory.{Memory}
use Rattle.bd_model.specs.declared.table.Value.{Value}
use Rattle.bd_model.specs.declared.table.Value.TheVariants as value
use Rattle.bd_model.proofs.Pairs.{AllZip-map_first}
use Rattle.bd_terms.specs.declared.node.Node.{Node}
use Rattle.bd_terms.specs.declared.node.Node.TheVariants as node
use Rattle.bd_terms.specs.declared.node.Sym.{Sym}
use Rattle.bd_terms.specs.declared.node.Sym.TheVariants as symbol
use Rattle.bd_terms.specs.Graph.{AddsUses, Extends, Use}
use Rattle.bd_terms.specs.Graph.{HasSort as TermHasSort}
use Rattle.bd_terms.specs.Denotation.{World, Denotes, Truth, Word, Contents, applied, holds, denoted}
use Rattle.bd_terms.proofs.Growth.{HasSort-Extends, denoted-Extends}
use Rattle.bd_symbolic.specs.World.{slot_row, value_table, denotes_value, world_of}
use Rattle.bd_symbolic.specs.DesignSymbols.{IsDeclared, KeepsDesign, GrowsWithin, sort_use, entry_use, port_use}
use Rattle.bd_symbolic.specs.Made.{AreFirst, Called, first_node}
use Rattle.bd_symbolic.specs.Symbolic.{HaveSorts}
use Rattle.bd_symbolic.specs.States.{StateHasSorts, DenotesCases, DenotesEntries, DenotesInputs, port_sorts}
use Rattle.bd_symbolic.specs.Widened.{widened}
use Rattle.bd_symbolic.specs.inner.First.{KeepsUse, IsFirstTerm, FirstTerms}
use Rattle.bd_symbolic.specs.declared.state.SymState.{SymState}
use Rattle.bd_symbolic.proofs.Growing.{Grows-self, Grows-trans, KeepsDesign-Grows}
use Rattle.bd_symbolic.proofs.Making.{called-Extends}
use Rattle.bd_symbolic.proofs.Applying.{Grows-one}
use Rattle.bd_symbolic.proofs.Worlds.{IsWorldOf-world_of}
use Rattle.bd_symbolic.proofs.Widening.{repeated-there}

-- the table of a memory has at an address what the memory reads there
slots_read : (rows : List Slot) (a default : ℕ) → scalar_word (row_value (map slot_row rows) (a ∷ []) (scalar.Word default)) ≡ slot_value rows a default
slots_read [] a default = refl
slots_read (s ∷ rows) a default =
    elim (s.address == a) as (λ b. scalar_word (if b && true then scalar.Word s.value else row_value (map slot_row rows) (a ∷ []) (scalar.Word default)) ≡ (if b then s.value else slot_value rows a default)) [ true ↦ refl | false ↦ slots_read rows a default ]

memory_read : (m : Memory) → (λ a. scalar_word (at (value_table (value.Memory m)) (a ∷ []))) ≡ read m
memory_read m = fun_ext (λ a. slots_read m.rows a m.default)

-- the first contents of a memory, where their table is that of the memory
pub first_memory : (nodes : List Node) (e : ℕ) (r : Result ℕ AllocError) → IfOk r (λ id. Denotes nodes id (λ w. Contents (λ a. applied w (symbol.Entry e) (a ∷ [])))) → IfOk r (λ id. TermHasSort nodes id sort.Memory) → IfOk r (Called nodes (node.Init e))
    → IfOk r (IsFirstTerm nodes (symbol.Entry e) sort.Memory)
first_memory nodes e (Err x) d h m = tt
first_memory nodes e (Ok id) d h m = record { sorted = h; denotes = λ w v k is. d.is w ∙ ap (λ t. Contents (λ a. scalar_word (at t (a ∷ [])))) is ∙ same v k; made = m } where
  same : (v : Value) → value_sort v ≡ sort.Memory → Contents (λ a. scalar_word (at (value_table v) (a ∷ []))) ≡ denotes_value v
  same (value.Memory m) k = ap Contents (memory_read m)
  same (value.Scalar (scalar.Bool b)) k = absurd (cc k)
  same (value.Scalar (scalar.Word n)) k = absurd (cc k)

-- a truth value, and a word, where their table is that of the value
pub first_truth : (nodes : List Node) (s : Sym) (t : Sort) (r : Result ℕ AllocError) → t ≡ sort.Bool → IfOk r (λ id. Denotes nodes id (λ w. Truth (holds w s []))) → IfOk r (λ id. TermHasSort nodes id sort.Bool) → IfOk r (Called nodes (node.Pred s []))
    → IfOk r (IsFirstTerm nodes s t)
first_truth nodes s t (Err x) e d h m = tt
first_truth nodes s t (Ok id) e d h m = subst (λ u. IsFirstTerm nodes s u id) (sym e) (record { sorted = h; denotes = λ w v k is. d.is w ∙ ap (λ x. Truth (scalar_truth (at x []))) is ∙ same v k; made = m }) where
  same : (v : Value) → value_sort v ≡ sort.Bool → Truth (scalar_truth (at (value_table v) [])) ≡ denotes_value v
  same (value.Scalar (scalar.Bool b)) k = refl
  same (value.Scalar (scalar.Word n)) k = absurd (cc k)
  same (value.Memory m) k = absurd (cc k)

pub first_word : (nodes : List Node) (s : Sym) (t : Sort) (r : Result ℕ AllocError) → t ≡ sort.Word → IfOk r (λ id. Denotes nodes id (λ w. Word (applied w s []))) → IfOk r (λ id. TermHasSort nodes id sort.Word) → IfOk r (Called nodes (node.App s []))
    → IfOk r (IsFirstTerm nodes s t)
first_word nodes s t (Err x) e d h m = tt
first_word nodes s t (Ok id) e d h m = subst (λ u. IsFirstTerm nodes s u id) (sym e) (record { sorted = h; denotes = λ w v k is. d.is w ∙ ap (λ x. Word (scalar_word (at x []))) is ∙ same v k; made = m }) where
  same : (v : Value) → value_sort v ≡ sort.Word → Word (scalar_word (at (value_table v) [])) ≡ denotes_value v
  same (value.Scalar (scalar.Bool b)) k = absurd (cc k)
  same (value.Scalar (scalar.Word n)) k = refl
  same (value.Memory m) k = absurd (cc k)

pub is_bool : (t : Sort) → sameb the_type t sort.Bool ≡ true → t ≡ sort.Bool
is_bool sort.Bool h = refl
is_bool sort.Word h = absurd (true≢false (sym h))
is_bool sort.Memory h = absurd (true≢false (sym h))

pub word_left : (t : Sort) → sameb the_type t sort.Bool ≡ false → t ≢ sort.Memory → t ≡ sort.Word
word_left sort.Bool h k = absurd (true≢false h)
word_left sort.Word h k = refl
word_left sort.Memory h k = absurd (k refl)

first-Extends : (old new : List Node) → Extends old new → (s : Sym) (t : Sort) (id : ℕ) → IsFirstTerm old s t id → IsFirstTerm new s t id
first-Extends old new e s t id h = record {
  sorted = HasSort-Extends old new e id t h.sorted;
  denotes = λ w v k is. denoted-Extends w old new e id h.sorted.inside ∙ h.denotes w v k is;
  made = called-Extends old new e (first_node s t) id h.made;
}

-- one term more, where the graph has grown
pub firsts_push : (symbols : ℕ → Sym) (old new : List Node) → Extends old new → (n : ℕ) (ids : List ℕ) (sorts : List Sort) (id : ℕ) (s : Sort) → FirstTerms symbols old n ids sorts → IsFirstTerm new (symbols (n + length ids)) s id
    → FirstTerms symbols new n (ids ++ id ∷ []) (sorts ++ s ∷ [])
firsts_push symbols old new e n [] [] id s h k = (subst (λ m. IsFirstTerm new (symbols m) s id) (omega arith) k, tt)
firsts_push symbols old new e n [] (t ∷ sorts) id s h k = absurd h
firsts_push symbols old new e n (x ∷ ids) [] id s h k = absurd h
firsts_push symbols old new e n (x ∷ ids) (t ∷ sorts) id s h k =
    (first-Extends old new e (symbols n) t x h.0, firsts_push symbols old new e (suc n) ids sorts id s h.1 (subst (λ m. IsFirstTerm new (symbols m) s id) (omega arith) k))

pub firsts-Extends : (symbols : ℕ → Sym) (old new : List Node) → Extends old new → (n : ℕ) (ids : List ℕ) (sorts : List Sort) → FirstTerms symbols old n ids sorts → FirstTerms symbols new n ids sorts
firsts-Extends symbols old new e n [] [] h = tt
firsts-Extends symbols old new e n [] (t ∷ sorts) h = absurd h
firsts-Extends symbols old new e n (x ∷ ids) [] h = absurd h
firsts-Extends symbols old new e n (x ∷ ids) (t ∷ sorts) h = (first-Extends old new e (symbols n) t x h.0, firsts-Extends symbols old new e (suc n) ids sorts h.1)

pub firsts_sorted : (symbols : ℕ → Sym) (nodes : List Node) (n : ℕ) (ids : List ℕ) (sorts : List Sort) → FirstTerms symbols nodes n ids sorts → HaveSorts nodes ids sorts
firsts_sorted symbols nodes n [] [] h = tt
firsts_sorted symbols nodes n [] (t ∷ sorts) h = absurd h
firsts_sorted symbols nodes n (x ∷ ids) [] h = absurd h
firsts_sorted symbols nodes n (x ∷ ids) (t ∷ sorts) h = (h.0.sorted, firsts_sorted symbols nodes (suc n) ids sorts h.1)

pub firsts_made : (symbols : ℕ → Sym) (nodes : List Node) (n : ℕ) (ids : List ℕ) (sorts : List Sort) → FirstTerms symbols nodes n ids sorts → AreFirst symbols nodes n ids sorts
firsts_made symbols nodes n [] [] h = tt
firsts_made symbols nodes n [] (t ∷ sorts) h = absurd h
firsts_made symbols nodes n (x ∷ ids) [] h = absurd h
firsts_made symbols nodes n (x ∷ ids) (t ∷ sorts) h = (h.0.made, firsts_made symbols nodes (suc n) ids sorts h.1)

-- what they denote in a world that has the values' tables for the symbols
firsts_denote : {V : Type 0} (f : V → Value) (d : V) (symbols : ℕ → Sym) (nodes : List Node) (w : World) (n : ℕ) (ids : List ℕ) (sorts : List Sort) (values : List V) → FirstTerms symbols nodes n ids sorts
    → AllZip (λ s v. value_sort (f v) ≡ s) sorts values → ((k : ℕ) → k < length values → w (symbols (n + k)) ≡ value_table (f (slice_index_or values k d))) → AllZip (λ id v. denoted w nodes id ≡ denotes_value (f v)) ids values
firsts_denote f d symbols nodes w n [] [] [] h k is = tt
firsts_denote f d symbols nodes w n [] [] (v ∷ values) h k is = absurd k
firsts_denote f d symbols nodes w n [] (t ∷ sorts) values h k is = absurd h
firsts_denote f d symbols nodes w n (x ∷ ids) [] values h k is = absurd h
firsts_denote f d symbols nodes w n (x ∷ ids) (t ∷ sorts) [] h k is = absurd k
firsts_denote f d symbols nodes w n (x ∷ ids) (t ∷ sorts) (v ∷ values) h k is = (
  h.0.denotes w (f v) k.0 (subst (λ m. w (symbols m) ≡ value_table (f v)) (omega arith) (is zero (omega arith))),
  firsts_denote f d symbols nodes w (suc n) ids sorts values h.1 k.1
      (λ i within. subst (λ m. w (symbols m) ≡ value_table (f (slice_index_or values i d))) (omega arith) (is (suc i) (omega (arith, within)))),
)

-- the terms of entries denote the values of a state
pub entries_denote : (d : DesignView) (nodes : List Node) (ids : List ℕ) → FirstTerms symbol.Entry nodes 0 ids (entry_sorts d.pipe) → DenotesEntries d nodes ids
entries_denote d nodes ids h = record {
  denotes = λ w values fits is.
      firsts_denote (λ v. v) (truth false) symbol.Entry nodes w 0 ids (entry_sorts d.pipe) values h
      ((AllZip-map_first (λ s v. value_sort v ≡ s) (λ (x : entry.Entry). x.sort) d.pipe.entries values).1 fits)
      (λ i within. subst (λ m. w (symbol.Entry m) ≡ value_table (slice_index_or values i (truth false))) (sym (zero-add i)) (is i within));
}

-- and those of inputs the scalars of their cycle
pub inputs_denote : (d : DesignView) (cycle : ℕ) (nodes : List Node) (ids : List ℕ) → FirstTerms symbol.Input nodes (cycle * length d.pipe.ports) ids (port_sorts d.pipe) → DenotesInputs d cycle nodes ids
inputs_denote d cycle nodes ids h = record {
  denotes = λ w scalars fits is.
      firsts_denote value.Scalar (scalar.Bool false) symbol.Input nodes w (cycle * length d.pipe.ports) ids (port_sorts d.pipe) scalars h
      ((AllZip-map_first (λ s x. scalar_sort x ≡ s) (λ (p : PortView). p.sort) d.pipe.ports scalars).1 fits)
      is;
}

-- the sort of each entry and input, and the terms before the first cycle
pub state_sorted : (d : DesignView) (nodes : List Node) (state : SymState) → FirstTerms symbol.Entry nodes 0 state.entries (entry_sorts d.pipe) → FirstTerms symbol.Input nodes (0 * length d.pipe.ports) state.inputs (port_sorts d.pipe) → StateHasSorts d.pipe nodes state
state_sorted d nodes state h k = record {
  entries = firsts_sorted symbol.Entry nodes 0 state.entries (entry_sorts d.pipe) h;
  inputs = firsts_sorted symbol.Input nodes (0 * length d.pipe.ports) state.inputs (port_sorts d.pipe) k;
}

pub state_denotes : (d : DesignView) (nodes : List Node) (state : SymState) → FirstTerms symbol.Entry nodes 0 state.entries (entry_sorts d.pipe) → FirstTerms symbol.Input nodes (0 * length d.pipe.ports) state.inputs (port_sorts d.pipe) → DenotesCases d nodes state
state_denotes d nodes state h k = record {
  denotes = λ c addresses fits.
      let w : World = world_of c.interp c.state c.inputs addresses in
      record {
        world = IsWorldOf-world_of d c.interp c.state c.inputs addresses fits.interp;
        entries = (entries_denote d nodes state.entries h).denotes w c.state fits.state (λ i within. refl);
        inputs = (inputs_denote d 0 nodes state.inputs k).denotes w c.inputs fits.inputs
            (λ i within. subst (λ m. w (symbol.Input m) ≡ value_table (value.Scalar (slice_index_or c.inputs i (scalar.Bool false)))) (first (length d.pipe.ports) i) refl);
      };
} where
  first : (n i : ℕ) → i ≡ 0 * n + i
  first n i = omega arith

-- the design declares the symbol of each entry, and of each input
pub entry_declared : (d : DesignView) (i : ℕ) (x : entry.Entry) (s : Sort) → slice_get d.pipe.entries i ≡ Some x → x.sort ≡ s → IsDeclared d (sort_use (symbol.Entry i) s)
entry_declared d i x sort.Bool h e = ap (entry_use i) h ∙ ap (λ t. Some (sort_use (symbol.Entry i) t)) e
entry_declared d i x sort.Word h e = ap (entry_use i) h ∙ ap (λ t. Some (sort_use (symbol.Entry i) t)) e
entry_declared d i x sort.Memory h e = ap (entry_use i) h ∙ ap (λ t. Some (sort_use (symbol.Entry i) t)) e

pub entry_first : (d : DesignView) (i : ℕ) (x : entry.Entry) → slice_get d.pipe.entries i ≡ Some x → IsDeclared d (sort_use (symbol.Entry (0 + i)) x.sort)
entry_first d i x h = subst (λ n. IsDeclared d (sort_use (symbol.Entry n) x.sort)) (sym (zero-add i)) (entry_declared d i x x.sort h refl)

pub port_declared : (d : DesignView) (i : ℕ) (p : PortView) (s : Sort) → slice_get d.pipe.ports i ≡ Some p → p.sort ≡ s → IsDeclared d (sort_use (symbol.Input i) s)
port_declared d i p sort.Bool h e = ap (port_use i) h ∙ ap (λ t. Some (sort_use (symbol.Input i) t)) e
port_declared d i p sort.Word h e = ap (port_use i) h ∙ ap (λ t. Some (sort_use (symbol.Input i) t)) e
port_declared d i p sort.Memory h e = ap (port_use i) h ∙ ap (λ t. Some (sort_use (symbol.Input i) t)) e

-- and that of each input in a cycle
pub cycle_declared : (d : DesignView) (cycle i : ℕ) (p : PortView) (s : Sort) → slice_get d.pipe.ports i ≡ Some p → p.sort ≡ s → IsDeclared (widened d (cycle + 1)) (sort_use (symbol.Input (cycle * length d.pipe.ports + i)) s)
cycle_declared d cycle i p s there e =
    port_declared (widened d (cycle + 1)) (cycle * length d.pipe.ports + i) p s (repeated-there (cycle + 1) cycle d.pipe.ports i p (omega arith) there) e

-- the number of the next input
pub input-next : (d : Design) (cycle len count index : ℕ) → len ≡ length d.pipe.ports → count ≡ index → cycle * len + count ≡ cycle * length (design_view d).pipe.ports + index
input-next d cycle len count index e f =
    ap (λ k. cycle * k + count) (e ∙ sym (length-map d.pipe.ports port_view)) ∙ ap (λ k. cycle * length (design_view d).pipe.ports + k) f

abbrev pub sorts_of_ports : List PortView → List Sort
sorts_of_ports ports = map (λ (p : PortView). p.sort) ports

-- the first n entries, or inputs, have their terms, numbered from a first one, and the rest is to come
pub record FirstsDone (d : DesignView) (symbols : ℕ → Sym) (first : ℕ) (old new : List Node) (sorts rest : List Sort) (n : ℕ) (ids : List ℕ) : Type 0 where
  pub grows : GrowsWithin d old new
  pub done : List Sort
  pub whole : done ++ rest ≡ sorts
  pub count : length ids ≡ n
  pub terms : FirstTerms symbols new first ids done

pub firsts_init : (d : DesignView) (symbols : ℕ → Sym) (first : ℕ) (old : List Node) (sorts : List Sort) → FirstsDone d symbols first old old sorts sorts 0 []
firsts_init d symbols first old sorts = record { grows = Grows-self d old; done = []; whole = refl; count = refl; terms = tt }

pub firsts_keep : (d : DesignView) (symbols : ℕ → Sym) (first : ℕ) (old mid : List Node) (sorts rest : List Sort) (n : ℕ) (ids : List ℕ) (u : Use) → KeepsDesign d old → FirstsDone d symbols first old mid sorts rest n ids → IsDeclared d u → KeepsUse mid u
firsts_keep d symbols first old mid sorts rest n ids u k h is = (KeepsDesign-Grows d old mid h.grows k).keeps u is

-- an item of a list, at its place
pub item_there : {A : Type 0} (all items : List A) (i : ℕ) (x : A) → items ≡ all → i < length items → x ≡ get_or items i x → slice_get all i ≡ Some x
item_there all items i x same within is = subst (λ xs. slice_get xs i ≡ Some x) same (slice_get-get_or items i x within ∙ ap Some (sym is))

get_seen : {A B : Type 0} (f : A → B) (xs : List A) (i : ℕ) (x : A) → slice_get xs i ≡ Some x → slice_get (map f xs) i ≡ Some (f x)
get_seen f [] i x h = absurd (cc h)
get_seen f (y ∷ xs) zero x h = let same : y ≡ x = cc in ap (λ z. Some (f z)) same
get_seen f (y ∷ xs) (suc i) x h = get_seen f xs i x h

-- the same as it is seen
pub item_seen : {A B : Type 0} (f : A → B) (all items : List A) (i : ℕ) (x : A) → items ≡ all → i < length items → x ≡ get_or items i x → slice_get (map f all) i ≡ Some (f x)
item_seen f all items i x same within is = get_seen f all i x (item_there all items i x same within is)

-- what is true of each item
pub item_of_all : {A : Type 0} (P : A → Type 0) (xs : List A) (i : ℕ) (x : A) → AllByRecursion P xs → slice_get xs i ≡ Some x → P x
item_of_all P [] i x h k = absurd (cc k)
item_of_all P (y ∷ xs) zero x h k = let same : y ≡ x = cc in subst P same h.0
item_of_all P (y ∷ xs) (suc i) x h k = item_of_all P xs i x h.1 k

-- the graph, grown by the term of the symbol at a place
pub firsts_grow : (d : DesignView) (symbols : ℕ → Sym) (first : ℕ) (old mid next : List Node) (sorts rest : List Sort) (n : ℕ) (ids : List ℕ) (place : ℕ) (s : Sort) → place ≡ first + n → FirstsDone d symbols first old mid sorts rest n ids → IsDeclared d (sort_use (symbols (first + n)) s)
    → Extends mid next → AddsUses mid next (sort_use (symbols place) s ∷ []) → GrowsWithin d old next
firsts_grow d symbols first old mid next sorts rest n ids place s same h is e u =
    Grows-trans d old mid next h.grows (Grows-one d mid next (sort_use (symbols (first + n)) s) is e (subst (λ m. AddsUses mid next (sort_use (symbols m) s ∷ [])) same u))

-- one term more
pub firsts_step : (d : DesignView) (symbols : ℕ → Sym) (first : ℕ) (old mid next : List Node) (sorts : List Sort) (s : Sort) (rest : List Sort) (n : ℕ) (ids : List ℕ) (id place : ℕ) → place ≡ first + n → FirstsDone d symbols first old mid sorts (s ∷ rest) n ids
    → IsDeclared d (sort_use (symbols (first + n)) s) → Extends mid next → AddsUses mid next (sort_use (symbols place) s ∷ []) → IsFirstTerm next (symbols place) s id → FirstsDone d symbols first old next sorts rest (n + 1) (ids ++ id ∷ [])
firsts_step d symbols first old mid next sorts s rest n ids id place same h is e u k = record {
  grows = firsts_grow d symbols first old mid next sorts (s ∷ rest) n ids place s same h is e u;
  done = h.done ++ s ∷ [];
  whole = append_assoc h.done (s ∷ []) rest ∙ h.whole;
  count = omega (arith, length-append ids (id ∷ []), h.count);
  terms = firsts_push symbols mid next e first ids h.done id s h.terms (subst (λ m. IsFirstTerm next (symbols m) s id) (omega (arith, same, h.count)) k);
}

pub firsts_done : (d : DesignView) (symbols : ℕ → Sym) (first : ℕ) (old new : List Node) (sorts : List Sort) (n : ℕ) (ids : List ℕ) → FirstsDone d symbols first old new sorts [] n ids → FirstTerms symbols new first ids sorts
firsts_done d symbols first old new sorts n ids h = subst (FirstTerms symbols new first ids) (sym (append-nil h.done) ∙ h.whole) h.terms
