-- The terms of a flat graph are of no memory, so scalars say what they denote.
use Rattle.std.proofs.Common.{◌≡◌, ℕ, zero, suc, ◌+◌, ◌<◌, Bool, true, false, not, ◌&&◌, ◌||◌, ◌==◌, if◌then◌else◌, List, [], ◌∷◌, ◌++◌, length, map, take, slice_get, Some, Contains, refl, ap, sym, ◌∙◌, arith}
use Rattle.std.specs.Prelude.{slice_index_or}
use Rattle.std.proofs.lemmas.Bool.{false≢true}
use Rattle.std.proofs.lemmas.Option.{get_or_from_slice_get, slice_get-get_or, slice_get_within}
use Rattle.std.proofs.lemmas.List.{take_more}
use Rattle.bd_list.proofs.Grown.{grown-push}
use Rattle.bd_model.specs.declared.design.Sort.TheVariants as sort
use Rattle.bd_model.specs.declared.table.Scalar.{Scalar}
use Rattle.bd_model.specs.declared.table.Scalar.TheVariants as scalar
use Rattle.bd_model.specs.Table.{at}
use Rattle.bd_model.specs.Value.{scalar_truth, scalar_word}
use Rattle.bd_terms.specs.declared.node.Sym.{Sym}
use Rattle.bd_terms.specs.declared.node.Sym.TheVariants.{Function, Entry, Input, Address, Var}
use Rattle.bd_terms.specs.declared.node.Node.{Node}
use Rattle.bd_terms.specs.declared.node.Node.TheVariants.{True, Not, And, Or, Ite, Eq, App, Pred, Read, Write, Init}
use Rattle.bd_terms.specs.Graph.{HasSort, IsGraph, Use, node_sort, sort_at, sorts, uses}
use Rattle.bd_terms.specs.Denotation.{Truth, Word, at_place, node_value, truth_of, values, word_of, words}
use Rattle.bd_terms.proofs.Graphs.{FitsSorts-get, sort_at-get}
use Rattle.bd_terms.proofs.Older.{Reaches-below}
use Rattle.bd_terms.proofs.Reaching.{children-below}
use Rattle.bd_terms.proofs.Symbols.{uses-get}
use Rattle.bd_function.specs.declared.flat.FlatRow.{FlatRow}
use Rattle.bd_function.specs.declared.flat.FlatSym.{FlatSym}
use Rattle.bd_function.specs.Flat.{IsFlat, ReachesNoMemory, is_variable, row_of, under}
use Rattle.bd_function.specs.Tables.{sym_table, table_with}
use Rattle.bd_function.specs.inner.Scalars.{as_denoted, node_scalar, row_from, scalar_at, sym_table_from, symbol_value, word_at}
use Rattle.bd_function.specs.inner.Taken.{IsPlain}
use Rattle.bd_list.proofs.Membership.{first, second}
use Rattle.bd_list.proofs.Pushed.{map-push}

-- a root of a graph in which no term is a memory reaches none
pub ReachesNoMemory-all : (nodes : List Node) → IsGraph nodes → (root : ℕ) → root < length nodes → ((id : ℕ) → HasSort nodes id sort.Memory → ⊥) → ReachesNoMemory nodes root
ReachesNoMemory-all nodes g root inside none = record {
  none = λ id r m.
      let below = Reaches-below nodes g root id r in
      none id (record { inside = omega (arith, below, inside); sorted = m });
}

-- a node whose children are no memories is none, where first contents aren't applied
not_memory : (nodes : List Node) → IsGraph nodes → ((u : Use) → Contains (uses nodes) u → is_variable u.symbol ≡ true) → (i : ℕ) (node : Node) → slice_get nodes i ≡ Some node
    → ((c : ℕ) → c < i → sort_at nodes c ≡ sort.Memory → ⊥) → node_sort (sorts nodes) node ≡ sort.Memory → ⊥
not_memory nodes g vars i True at h e = cc
not_memory nodes g vars i (Not a) at h e = cc
not_memory nodes g vars i (And a b) at h e = cc
not_memory nodes g vars i (Or a b) at h e = cc
not_memory nodes g vars i (Ite c a b) at h e = h a (children-below nodes g i (Ite c a b) at a (second c a (b ∷ []))) e
not_memory nodes g vars i (Eq a b) at h e = cc
not_memory nodes g vars i (App s args) at h e = cc
not_memory nodes g vars i (Pred s args) at h e = cc
not_memory nodes g vars i (Read m a) at h e = cc
not_memory nodes g vars i (Write m a d) at h e = h m (children-below nodes g i (Write m a d) at m (first m (a ∷ d ∷ []))) (FitsSorts-get nodes g i (Write m a d) at).0.sorted
not_memory nodes g vars i (Init k) at h e = absurd (false≢true (vars (record { symbol = Entry k; arity = 1; sort = sort.Word }) (uses-get nodes i (Init k) at _ (first _ []))))

no_memory-below : (nodes : List Node) → IsGraph nodes → ((u : Use) → Contains (uses nodes) u → is_variable u.symbol ≡ true) → (n i : ℕ) → i < n → i < length nodes → sort_at nodes i ≡ sort.Memory → ⊥
no_memory-below nodes g vars zero i lt inside e = absurd (omega arith)
no_memory-below nodes g vars (suc n) i lt inside e =
    let node = slice_index_or nodes i True in
    let there : slice_get nodes i ≡ Some node = slice_get-get_or nodes i True inside in
    not_memory nodes g vars i node there (λ c below. no_memory-below nodes g vars n c (omega (arith, below, lt)) (omega (arith, below, inside))) (sym (sort_at-get nodes g i node there) ∙ e)

-- no term of a graph that applies variables alone is a memory
pub no_memory : (nodes : List Node) → IsGraph nodes → ((u : Use) → Contains (uses nodes) u → is_variable u.symbol ≡ true) → (id : ℕ) → HasSort nodes id sort.Memory → ⊥
no_memory nodes g vars id h = no_memory-below nodes g vars (suc id) id (omega arith) h.inside h.sorted

plain_by : (nodes : List Node) → IsGraph nodes → ((id : ℕ) → HasSort nodes id sort.Memory → ⊥) → (i : ℕ) (node : Node) → slice_get nodes i ≡ Some node → IsPlain node
plain_by nodes g none i True at = tt
plain_by nodes g none i (Not a) at = tt
plain_by nodes g none i (And a b) at = tt
plain_by nodes g none i (Or a b) at = tt
plain_by nodes g none i (Ite c a b) at = tt
plain_by nodes g none i (Eq a b) at = tt
plain_by nodes g none i (App s args) at = tt
plain_by nodes g none i (Pred s args) at = tt
plain_by nodes g none i (Read m a) at = none m (FitsSorts-get nodes g i (Read m a) at).0
plain_by nodes g none i (Write m a d) at = none i (record { inside = slice_get_within nodes i _ at; sorted = sort_at-get nodes g i (Write m a d) at })
plain_by nodes g none i (Init e) at = none i (record { inside = slice_get_within nodes i _ at; sorted = sort_at-get nodes g i (Init e) at })

-- and each node is of none
pub IsFlat-plain : (nodes : List Node) (root : ℕ) (syms : List FlatSym) → IsGraph nodes → IsFlat nodes root syms → (i : ℕ) (node : Node) → slice_get nodes i ≡ Some node → IsPlain node
IsFlat-plain nodes root syms g f = plain_by nodes g (no_memory nodes g f.variables)

-- scalars as denotations
pub at_denoted : (done : List Scalar) (a : ℕ) → at_place (map as_denoted done) a ≡ as_denoted (scalar_at done a)
at_denoted [] a = refl
at_denoted (x ∷ xs) zero = refl
at_denoted (x ∷ xs) (suc a) = at_denoted xs a

pub truth_denoted : (x : Scalar) → truth_of (as_denoted x) ≡ scalar_truth x
truth_denoted (scalar.Bool b) = refl
truth_denoted (scalar.Word n) = refl

pub word_denoted : (x : Scalar) → word_of (as_denoted x) ≡ scalar_word x
word_denoted (scalar.Bool b) = refl
word_denoted (scalar.Word n) = refl

truth_is : (done : List Scalar) (a : ℕ) → truth_of (at_place (map as_denoted done) a) ≡ scalar_truth (scalar_at done a)
truth_is done a = ap truth_of (at_denoted done a) ∙ truth_denoted (scalar_at done a)

word_is : (done : List Scalar) (a : ℕ) → word_of (at_place (map as_denoted done) a) ≡ scalar_word (scalar_at done a)
word_is done a = ap word_of (at_denoted done a) ∙ word_denoted (scalar_at done a)

pub as_denoted-if : (t : Bool) (x y : Scalar) → as_denoted (if t then x else y) ≡ (if t then as_denoted x else as_denoted y)
as_denoted-if true x y = refl
as_denoted-if false x y = refl

at-under : (v : ℕ → Scalar) (s : Sym) (args : List ℕ) → at (under v s) args ≡ symbol_value v s
at-under v (Function x) args = refl
at-under v (Entry x) args = refl
at-under v (Input x) args = refl
at-under v (Address x) args = refl
at-under v (Var x) args = refl

-- what a node of no memory denotes
node_denoted : (v : ℕ → Scalar) (done : List Scalar) (node : Node) → IsPlain node → node_value (under v) (map as_denoted done) node ≡ as_denoted (node_scalar v done node)
node_denoted v done True p = refl
node_denoted v done (Not a) p = let x = truth_is done a in λ i. Truth (not (x i))
node_denoted v done (And a b) p = let x = truth_is done a in let y = truth_is done b in λ i. Truth (x i && y i)
node_denoted v done (Or a b) p = let x = truth_is done a in let y = truth_is done b in λ i. Truth (x i || y i)
node_denoted v done (Ite c a b) p =
    let t = truth_is done c in let x = at_denoted done a in let y = at_denoted done b in
    (λ i. if t i then x i else y i) ∙ sym (as_denoted-if (scalar_truth (scalar_at done c)) (scalar_at done a) (scalar_at done b))
node_denoted v done (Eq a b) p = let x = word_is done a in let y = word_is done b in λ i. Truth (x i == y i)
node_denoted v done (App s args) p = ap (λ x. Word (scalar_word x)) (at-under v s (map (λ a. word_of (at_place (map as_denoted done) a)) args))
node_denoted v done (Pred s args) p = ap (λ x. Truth (scalar_truth x)) (at-under v s (map (λ a. word_of (at_place (map as_denoted done) a)) args))
node_denoted v done (Read m a) p = absurd p
node_denoted v done (Write m a d) p = absurd p
node_denoted v done (Init e) p = absurd p

-- a node more
pub evaluated-more : (v : ℕ → Scalar) (nodes : List Node) (i : ℕ) (node : Node) (done : List Scalar) → slice_get nodes i ≡ Some node → IsPlain node
    → map as_denoted done ≡ values (under v) (take i nodes) → map as_denoted (done ++ node_scalar v done node ∷ []) ≡ values (under v) (take (i + 1) nodes)
evaluated-more v nodes i node done at plain h =
    map-push as_denoted done (node_scalar v done node)
    ∙ ap (λ d. map as_denoted done ++ d ∷ []) (sym (node_denoted v done node plain))
    ∙ (λ k. h k ++ node_value (under v) (h k) node ∷ [])
    ∙ sym (grown-push (node_value (under v)) [] (take i nodes) node)
    ∙ ap (values (under v)) (sym (take-get nodes i node at))
  where
    take-get : (xs : List Node) (k : ℕ) (x : Node) → slice_get xs k ≡ Some x → take (k + 1) xs ≡ take k xs ++ x ∷ []
    take-get xs k x e = take_more xs k x (slice_get_within xs k x e) ∙ ap (λ y. take k xs ++ y ∷ []) (get_or_from_slice_get xs k x x e)

args_from : (v : ℕ → Scalar) (nodes : List Node) (done : List Scalar) → map as_denoted done ≡ values (under v) nodes → (args : List ℕ) → map (word_at done) args ≡ words (under v) nodes args
args_from v nodes done h [] = refl
args_from v nodes done h (a ∷ args) =
    let head : word_at done a ≡ word_of (at_place (values (under v) nodes) a) = sym (word_is done a) ∙ ap (λ vs. word_of (at_place vs a)) h in
    let tail = args_from v nodes done h args in
    λ i. head i ∷ tail i

rows_from : (v : ℕ → Scalar) (nodes : List Node) (done : List Scalar) → map as_denoted done ≡ values (under v) nodes → (rows : List FlatRow) → map (row_from v done) rows ≡ map (row_of v nodes) rows
rows_from v nodes done h [] = refl
rows_from v nodes done h (r ∷ rows) =
    let head = args_from v nodes done h r.args in
    let tail = rows_from v nodes done h rows in
    λ i. record { args = head i; value = v r.var } ∷ tail i

-- the tables from the terms' scalars are those of the rows
pub sym_tables_from : (v : ℕ → Scalar) (nodes : List Node) (done : List Scalar) → map as_denoted done ≡ values (under v) nodes → (syms : List FlatSym)
    → map (sym_table_from v done) syms ≡ map (sym_table v nodes) syms
sym_tables_from v nodes done h [] = refl
sym_tables_from v nodes done h (s ∷ syms) =
    let head = rows_from v nodes done h s.rows in
    let tail = sym_tables_from v nodes done h syms in
    λ i. record { sym = s.sym; table = table_with (head i) } ∷ tail i
