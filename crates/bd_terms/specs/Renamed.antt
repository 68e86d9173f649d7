-- Terms carried over to another graph, where each has a new place.
use Rattle.std.specs.Prelude.{ℕ, List, map, slice_index_or}
use Rattle.bd_terms.specs.declared.node.Node.{Node}
use Rattle.bd_terms.specs.declared.node.Node.TheVariants.{True, Not, And, Or, Ite, Eq, App, Pred, Read, Write, Init}

-- the place that a place has in the new graph
abbrev pub id_at : List ℕ → ℕ → ℕ
id_at ids place = slice_index_or ids place 0

-- the node over the places that its children have in the new graph
abbrev pub renamed : List ℕ → Node → Node
renamed ids True = True
renamed ids (Not a) = Not (id_at ids a)
renamed ids (And a b) = And (id_at ids a) (id_at ids b)
renamed ids (Or a b) = Or (id_at ids a) (id_at ids b)
renamed ids (Ite c a b) = Ite (id_at ids c) (id_at ids a) (id_at ids b)
renamed ids (Eq a b) = Eq (id_at ids a) (id_at ids b)
renamed ids (App s args) = App s (map (id_at ids) args)
renamed ids (Pred s args) = Pred s (map (id_at ids) args)
renamed ids (Read m a) = Read (id_at ids m) (id_at ids a)
renamed ids (Write m a d) = Write (id_at ids m) (id_at ids a) (id_at ids d)
renamed ids (Init e) = Init e
