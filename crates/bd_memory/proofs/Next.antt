-- The next term of the old graph.
use Rattle.std.proofs.Common.{◌≡◌, ◌≢◌, ℕ, ◌<◌, ◌≤◌, List, [], ◌∷◌, ◌++◌, length, slice_get, take, Some, Contains, Result, Ok, Err, IfOk, OnOk, refl, ap, sym, ◌∙◌, subst, arith}
use Rattle.std.specs.List.{All}
use Rattle.std.specs.declared.alloc.AllocError.{AllocError}
use Rattle.std.proofs.lemmas.Option.{slice_get_within}
use Rattle.std.proofs.lemmas.List.{length-take-le}
use Rattle.bd_model.specs.declared.design.Sort.{Sort}
use Rattle.bd_model.specs.declared.design.Sort.TheVariants as sort
use Rattle.bd_terms.specs.declared.node.Node.{Node}
use Rattle.bd_terms.specs.declared.node.Node.TheVariants.{Read}
use Rattle.bd_terms.specs.Graph.{HasSort, IsGraph, children, sort_at}
use Rattle.bd_terms.specs.Reaches.{Reaches, Root}
use Rattle.bd_terms.specs.Denotation.{Word, contents, denoted, word, word_of}
use Rattle.bd_terms.proofs.Graphs.{FitsSorts-get, sort_at-get}
use Rattle.bd_terms.proofs.Reaching.{children-below, children-inside}
use Rattle.bd_terms.proofs.Denotations.{denoted-get}
use Rattle.bd_memory.specs.declared.reads.ReadKey.{ReadKey}
use Rattle.bd_memory.specs.declared.forwarding.Forwarding.{Forwarding}
use Rattle.bd_walk.specs.inner.Carrying.{Means}
use Rattle.bd_memory.specs.inner.Forwarding.{Follows, Holds, IsForwarding, IsMadeAt, place, word_at}
use Rattle.bd_memory.proofs.Plain.{Bool-no_memory, Word-no_memory}
use Rattle.bd_memory.proofs.Moving.{child-means, passed-mean}
use Rattle.bd_memory.proofs.Growing.{IsForwarding-push}

-- what a term stands over is before it
pub children-before : (old : List Node) → IsGraph old → (here : ℕ) (node : Node) → slice_get old here ≡ Some node → All (λ c. c < here) (children node)
children-before old g here node there =
    let inside : here < length old = slice_get_within old here node there in
    let size : length (take here old) ≡ here = length-take-le here old (omega (arith, inside)) in
    subst (λ n. All (λ c. c < n) (children node)) size (children-inside (take here old) node (g.fits here node there))

-- what a child of the next term became
pub next-child : (old : List Node) (root : ℕ) (new : List Node) (places : List ℕ) (reads : List (ReadKey × ℕ)) → IsForwarding old root new places reads
    → (node : Node) → slice_get old (length places) ≡ Some node → Reaches old root (length places)
    → (c : ℕ) (s : Sort) → Contains (children node) c → HasSort old c s → s ≢ sort.Memory → (c' : ℕ) → c' ≡ place places c → Means new c' s (λ w. denoted w old c)
next-child old root new places reads f node there r c s p h apart c' e =
    subst (λ x. Means new x s (λ w. denoted w old c)) (sym e)
    (child-means old new places (children node)
    (passed-mean old root new places reads f (length places) node there r (λ k q. children-below old f.source (length places) node there k q))
    c s p h apart)

-- a read is the word that its memory has at its address
pub next-read : (old : List Node) (root : ℕ) (new' : List Node) (places places' : List ℕ) (reads' : List (ReadKey × ℕ)) (m a a' : ℕ) → IsGraph old → slice_get old (length places) ≡ Some (Read m a) → Reaches old root (length places)
    → a' ≡ place places a → (r : Result ℕ AllocError) → IfOk r (λ id. Means new' id sort.Word (word_at old new' m a'))
    → OnOk r (IsForwarding old root new' places' reads') → OnOk r (places' ≡ places)
    → IfOk r (λ id. Means new' id (sort_at old (length places)) (λ w. denoted w old (length places)))
next-read old root new' places places' reads' m a a' g there reach e (Ok id) means f' same =
    let f = subst (λ l. IsForwarding old root new' l reads') same f' in
    let address = next-child old root new' places reads' f (Read m a) there reach a sort.Word (1, omega arith, refl) (FitsSorts-get old g (length places) (Read m a) there).1 Word-no_memory a' e in
    record {
      sorted = subst (HasSort new' id) (sym (sort_at-get old g (length places) (Read m a) there)) means.sorted;
      denotes = record {
        is = λ w.
            let same_word : word w new' a' ≡ word w old a = ap word_of (address.denotes.is w) in
            means.denotes.is w ∙ ap (λ n. Word (contents w old m n)) same_word ∙ sym (denoted-get w old g (length places) (Read m a) there);
      };
    }
next-read old root new' places places' reads' m a a' g there reach e (Err x) means f' same = tt

-- so many terms are passed
pub record IsPassed (old : List Node) (root : ℕ) (f : Forwarding) (index : ℕ) : Type 0 where
  pub holds : Holds old root f
  pub size : length f.places.items ≡ index

-- a term more is passed
pub IsPassed-push : (old : List Node) (root : ℕ) (new : List Node) (places places' : List ℕ) (reads : List (ReadKey × ℕ)) (id place' : ℕ) → IsForwarding old root new places reads → id ≡ length places
    → Follows old root new id place' → IsMadeAt old root new id place' → places' ≡ places ++ place' ∷ [] → IsForwarding old root new places' reads
IsPassed-push old root new places places' reads id place' f same h made e =
    subst (λ l. IsForwarding old root new l reads) (sym e)
    (IsForwarding-push old root new places reads place' f (subst (λ n. Follows old root new n place') same h) (subst (λ n. IsMadeAt old root new n place') same made))

-- where all are passed, the root is
pub root-Means : (old : List Node) (top : ℕ) (new : List Node) (places : List ℕ) (reads : List (ReadKey × ℕ)) (root place' : ℕ) → IsForwarding old top new places reads → HasSort old top sort.Bool
    → length old ≤ length places → root ≡ top → place' ≡ place places root → Means new place' sort.Bool (λ w. denoted w old top)
root-Means old top new places reads root place' f h all same e =
    let inside : top < length places = omega (arith, all, h.inside) in
    subst (λ x. Means new x sort.Bool (λ w. denoted w old top)) (sym (e ∙ ap (place places) same))
    (subst (λ s. Means new (place places top) s (λ w. denoted w old top)) h.sorted
    (f.terms top inside Root (λ q. Bool-no_memory (sym h.sorted ∙ q))))
