-- Trees level by level, as contracts see them.
use Rattle.std.proofs.Common.{◌≡◌, ℕ, zero, suc, ◌<◌, ◌≤◌, List, [], ◌∷◌, ◌++◌, length, Option, Some, None, option_map, slice_get, get_or, Bor, refl, sym, ap, ◌∙◌, arith, rules}
use Rattle.std.specs.Option.{option_copied}
use Rattle.std.specs.Slice.{IsItemAt}
use Rattle.std.proofs.lemmas.Option.{slice_get_past, slice_get-get_or}
use Rattle.bd_text.specs.Nodes.{atom, list, node, node_count, node_at, add_node}
use Rattle.bd_text.specs.Written.{nesting, nesting_inside}
use Rattle.bd_text.specs.View.{node_of, nodes_of, nodes_of_all}
use Rattle.bd_text.specs.declared.tree.Tree.{Tree}
use Rattle.bd_text.specs.declared.tree.Tree.TheVariants.{Atom, List as ListOf}
use Rattle.bd_text.specs.declared.tree.Tree.{the_lemmas}
use Rattle.bd_text.specs.declared.tree.Trees.{Trees}

pub node_of-Atom : (offset : ℕ) (text : List ℕ) → node_of (Atom offset text) ≡ atom offset text
node_of-Atom offset text = search (rules, the_lemmas)

pub node_of-List : (offset : ℕ) (parts : Trees) → node_of (ListOf offset parts) ≡ list offset (nodes_of parts)
node_of-List offset parts = search (rules, the_lemmas)

pub nodes_of_all-push : (ts : List Tree) (t : Tree) → nodes_of_all (ts ++ t ∷ []) ≡ add_node (nodes_of_all ts) (node_of t)
nodes_of_all-push [] t = refl
nodes_of_all-push (u ∷ us) t = ap (node (node_of u)) (nodes_of_all-push us t)

pub node_count-nodes_of_all : (ts : List Tree) → node_count (nodes_of_all ts) ≡ length ts
node_count-nodes_of_all [] = refl
node_count-nodes_of_all (t ∷ ts) = omega (arith, node_count-nodes_of_all ts)

pub nodes_of-items : (ts : Trees) → nodes_of ts ≡ nodes_of_all ts.items.items
nodes_of-items ts = search (rules, the_lemmas)

pub node_at-nodes_of_all : (ts : List Tree) (i : ℕ) → node_at (nodes_of_all ts) i ≡ option_map node_of (slice_get ts i)
node_at-nodes_of_all [] i = refl
node_at-nodes_of_all (t ∷ ts) zero = refl
node_at-nodes_of_all (t ∷ ts) (suc i) = node_at-nodes_of_all ts i

pub node_at-within : (ts : List Tree) (i : ℕ) (d : Tree) → i < length ts → node_at (nodes_of_all ts) i ≡ Some (node_of (get_or ts i d))
node_at-within [] i d lt = absurd (omega arith)
node_at-within (t ∷ ts) zero d lt = refl
node_at-within (t ∷ ts) (suc i) d lt = node_at-within ts i d (omega arith)

-- what `get` of a slice gives
pub copied_item : (ts : List Tree) (i : ℕ) (r : Option (Bor Tree)) → IsItemAt ts i r → option_copied r ≡ slice_get ts i
copied_item ts i None h = sym (slice_get_past ts i h.3)
copied_item ts i (Some x) h = sym (slice_get-get_or ts i x.now h.3.0 ∙ ap Some (sym h.1))

-- a part of a list nests less deep than the list: a measure for recursions over trees
pub nesting-part : (ts : List Tree) (i : ℕ) (d : Tree) → i < length ts → nesting (node_of (get_or ts i d)) ≤ nesting_inside (nodes_of_all ts)
nesting-part [] i d lt = absurd (omega arith)
nesting-part (t ∷ ts) zero d lt = omega arith
nesting-part (t ∷ ts) (suc i) d lt = omega (arith, nesting-part ts i d (omega arith))
