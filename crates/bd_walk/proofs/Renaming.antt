-- A term over the places of its children in another graph.
use Rattle.std.proofs.Common.{◌≡◌, ℕ, List, [], ◌∷◌, map, Contains, refl, ap, sym, subst}
use Rattle.std.specs.List.{All}
use Rattle.std.proofs.lemmas.List.{length-map}
use Rattle.std.proofs.lemmas.List.Elements.{All-nil, All-cons, All-head, All-tail, Contains-append_right}
use Rattle.bd_model.specs.declared.design.Sort.{Sort}
use Rattle.bd_model.specs.declared.design.Sort.TheVariants as sort
use Rattle.bd_terms.specs.declared.node.Node.{Node}
use Rattle.bd_terms.specs.declared.node.Node.TheVariants.{True, Not, And, Or, Ite, Eq, App, Pred, Read, Write, Init}
use Rattle.bd_terms.specs.Graph.{FitsSorts, HasSort, children, node_sort, node_uses, sorts, sort_at}
use Rattle.bd_terms.specs.Denotation.{World, Word, Truth, applied, denoted, holds, node_value, values, words}
use Rattle.bd_terms.specs.Renamed.{id_at, renamed}
use Rattle.bd_walk.specs.inner.Carrying.{AllMean, Means}
use Rattle.bd_list.proofs.Membership.{first, second, third}

child-means : (old new : List Node) (ids cs : List ℕ) → AllMean old new ids cs → (c : ℕ) (s : Sort) → Contains cs c → HasSort old c s → Means new (id_at ids c) s (λ w. denoted w old c)
child-means old new ids cs m c s p h = subst (λ t. Means new (id_at ids c) t (λ w. denoted w old c)) h.sorted (m c p)

-- the renamed term fits the new graph, and has the sort, value and symbol of the old one
pub record IsRenamed (old new : List Node) (node n : Node) : Type 0 where
  pub fits : FitsSorts new n
  pub sorted : node_sort (sorts new) n ≡ node_sort (sorts old) node
  pub value : (w : World) → node_value w (values w new) n ≡ node_value w (values w old) node
  pub uses : node_uses n ≡ node_uses node

args-fit : (old new : List Node) (ids args : List ℕ) → AllMean old new ids args → All (λ a. HasSort old a sort.Word) args → All (λ a. HasSort new a sort.Word) (map (id_at ids) args)
args-fit old new ids [] m h = All-nil (λ a. HasSort new a sort.Word)
args-fit old new ids (a ∷ args) m h =
    All-cons (λ x. HasSort new x sort.Word) (id_at ids a) (map (id_at ids) args)
    (child-means old new ids (a ∷ args) m a sort.Word (first a args) (All-head (λ x. HasSort old x sort.Word) a args h)).sorted
    (args-fit old new ids args (λ c p. m c (Contains-append_right (a ∷ []) args c p)) (All-tail (λ x. HasSort old x sort.Word) a args h))

args-same : (w : World) (old new : List Node) (ids args : List ℕ) → AllMean old new ids args → words w new (map (id_at ids) args) ≡ words w old args
args-same w old new ids [] m = refl
args-same w old new ids (a ∷ args) m =
    let head : denoted w new (id_at ids a) ≡ denoted w old a = (m a (first a args)).denotes.is w in
    let tail : words w new (map (id_at ids) args) ≡ words w old args = args-same w old new ids args (λ c p. m c (Contains-append_right (a ∷ []) args c p)) in
    cc (head, tail)

-- so it is where its children are what they were
pub renames : (old new : List Node) (ids : List ℕ) (node : Node) → FitsSorts old node → AllMean old new ids (children node) → IsRenamed old new node (renamed ids node)
renames old new ids True h m = record { fits = tt; sorted = refl; value = λ w. refl; uses = refl }
renames old new ids (Not a) h m =
    let x = child-means old new ids (a ∷ []) m a sort.Bool (first a []) h in
    record { fits = x.sorted; sorted = refl; value = λ w. rw (x.denotes.is w) refl; uses = refl }
renames old new ids (And a b) h m =
    let x = child-means old new ids (a ∷ b ∷ []) m a sort.Bool (first a (b ∷ [])) h.0 in
    let y = child-means old new ids (a ∷ b ∷ []) m b sort.Bool (second a b []) h.1 in
    record { fits = (x.sorted, y.sorted); sorted = refl; value = λ w. rw (x.denotes.is w, y.denotes.is w) refl; uses = refl }
renames old new ids (Or a b) h m =
    let x = child-means old new ids (a ∷ b ∷ []) m a sort.Bool (first a (b ∷ [])) h.0 in
    let y = child-means old new ids (a ∷ b ∷ []) m b sort.Bool (second a b []) h.1 in
    record { fits = (x.sorted, y.sorted); sorted = refl; value = λ w. rw (x.denotes.is w, y.denotes.is w) refl; uses = refl }
renames old new ids (Ite c a b) h m =
    let x = child-means old new ids (c ∷ a ∷ b ∷ []) m c sort.Bool (first c (a ∷ b ∷ [])) h.0 in
    let y = child-means old new ids (c ∷ a ∷ b ∷ []) m a (sort_at old a) (second c a (b ∷ [])) h.1 in
    let z = child-means old new ids (c ∷ a ∷ b ∷ []) m b (sort_at old a) (third c a b []) h.2 in
    let same : sort_at new (id_at ids a) ≡ sort_at old a = y.sorted.sorted in
    record {
      fits = (x.sorted, subst (HasSort new (id_at ids a)) (sym same) y.sorted, subst (HasSort new (id_at ids b)) (sym same) z.sorted);
      sorted = same;
      value = λ w. rw (x.denotes.is w, y.denotes.is w, z.denotes.is w) refl;
      uses = refl;
    }
renames old new ids (Eq a b) h m =
    let x = child-means old new ids (a ∷ b ∷ []) m a sort.Word (first a (b ∷ [])) h.0 in
    let y = child-means old new ids (a ∷ b ∷ []) m b sort.Word (second a b []) h.1 in
    record { fits = (x.sorted, y.sorted); sorted = refl; value = λ w. rw (x.denotes.is w, y.denotes.is w) refl; uses = refl }
renames old new ids (App s args) h m = record {
  fits = args-fit old new ids args m h;
  sorted = refl;
  value = λ w. ap (λ l. Word (applied w s l)) (args-same w old new ids args m);
  uses = ap (λ n. record { symbol = s; arity = n; sort = sort.Word } ∷ []) (length-map args (id_at ids));
}
renames old new ids (Pred s args) h m = record {
  fits = args-fit old new ids args m h;
  sorted = refl;
  value = λ w. ap (λ l. Truth (holds w s l)) (args-same w old new ids args m);
  uses = ap (λ n. record { symbol = s; arity = n; sort = sort.Bool } ∷ []) (length-map args (id_at ids));
}
renames old new ids (Read a b) h m =
    let x = child-means old new ids (a ∷ b ∷ []) m a sort.Memory (first a (b ∷ [])) h.0 in
    let y = child-means old new ids (a ∷ b ∷ []) m b sort.Word (second a b []) h.1 in
    record { fits = (x.sorted, y.sorted); sorted = refl; value = λ w. rw (x.denotes.is w, y.denotes.is w) refl; uses = refl }
renames old new ids (Write a b d) h m =
    let x = child-means old new ids (a ∷ b ∷ d ∷ []) m a sort.Memory (first a (b ∷ d ∷ [])) h.0 in
    let y = child-means old new ids (a ∷ b ∷ d ∷ []) m b sort.Word (second a b (d ∷ [])) h.1 in
    let z = child-means old new ids (a ∷ b ∷ d ∷ []) m d sort.Word (third a b d []) h.2 in
    record { fits = (x.sorted, y.sorted, z.sorted); sorted = refl; value = λ w. rw (x.denotes.is w, y.denotes.is w, z.denotes.is w) refl; uses = refl }
renames old new ids (Init e) h m = record { fits = tt; sorted = refl; value = λ w. refl; uses = refl }
