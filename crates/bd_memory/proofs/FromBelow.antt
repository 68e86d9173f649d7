-- The read of a memory, from the reads of the memories right below it (Burch and Dill 1994).
use Rattle.std.proofs.Common.{◌≡◌, ℕ, ◌<◌, Bool, true, false, ◌==◌, if◌then◌else◌, List, [], ◌∷◌, length, slice_get, Some, None, Contains, Result, Ok, Err, IfOk, OnOk, refl, ap, sym, ◌∙◌, subst, arith}
use Rattle.std.specs.declared.alloc.AllocError.{AllocError}
use Rattle.bd_model.specs.declared.design.Sort.{Sort}
use Rattle.bd_model.specs.declared.design.Sort.TheVariants as sort
use Rattle.bd_terms.specs.declared.node.Node.{Node}
use Rattle.bd_terms.specs.declared.node.Node.TheVariants.{True, Not, And, Or, Ite, Eq, App, Pred, Read, Write, Init}
use Rattle.bd_terms.specs.declared.node.Sym.TheVariants as symbol
use Rattle.bd_terms.specs.Graph.{AddsUses, Extends, HasSort, IsGraph, children, node_sort, sorts, sort_at}
use Rattle.bd_terms.specs.Reaches.{Reaches, Root, Child}
use Rattle.bd_terms.specs.Denotation.{World, Denoted, Word, applied, contents, contents_of, truth, truth_of, Denotes, Truth, denoted, word, word_of, words, written}
use Rattle.bd_terms.proofs.Graphs.{FitsSorts-get, sort_at-get}
use Rattle.bd_terms.proofs.Denotations.{denoted-get}
use Rattle.bd_terms.proofs.Growth.{denoted-Extends, HasSort-Extends}
use Rattle.bd_terms.proofs.Reaching.{children-below}
use Rattle.bd_terms.proofs.Simplifying.{denoted-word}
use Rattle.bd_terms.proofs.Growth.{sort_at-Extends}
use Rattle.bd_terms.specs.Simplified.{Gives, simplified}
use Rattle.bd_memory.specs.declared.reads.ReadKey.{ReadKey}
use Rattle.bd_memory.specs.inner.Reads.{known}
use Rattle.bd_walk.specs.inner.Carrying.{Means}
use Rattle.bd_memory.specs.inner.Forwarding.{Grows, IsForwarding, place, word_at}
use Rattle.bd_memory.proofs.Plain.{Bool-no_memory, Word-no_memory}
use Rattle.bd_memory.proofs.Moving.{child-means, passed-mean}
use Rattle.bd_memory.proofs.Growing.{Grows-Gives, Grows-trans, Means-value, word_at-Extends}

-- what a child of a memory that is no memory became
pub below-Means : (old : List Node) (root : ℕ) (new : List Node) (places : List ℕ) (reads : List (ReadKey × ℕ)) → IsForwarding old root new places reads
    → (m : ℕ) (node : Node) → slice_get old m ≡ Some node → Reaches old root m → m < length places
    → (c : ℕ) (s : Sort) → Contains (children node) c → HasSort old c s → (s ≡ sort.Memory → ⊥) → (c' : ℕ) → c' ≡ place places c → Means new c' s (λ w. denoted w old c)
below-Means old root new places reads f m node there r inside c s p h apart c' e =
    subst (λ x. Means new x s (λ w. denoted w old c)) (sym e)
    (child-means old new places (children node)
    (passed-mean old root new places reads f m node there r (λ k q. let below = children-below old f.source m node there k q in omega (arith, below, inside)))
    c s p h apart)

pub write-Means : (old : List Node) (root : ℕ) (new new' : List Node) (places : List ℕ) (reads : List (ReadKey × ℕ)) → IsForwarding old root new places reads
    → (m below at d : ℕ) → slice_get old m ≡ Some (Write below at d) → Reaches old root m → m < length places
    → (b : ℕ) → HasSort new b sort.Word → (rest : ℕ) → known reads below b ≡ Some rest
    → (at' d' : ℕ) → at' ≡ place places at → d' ≡ place places d → Extends new new'
    → (id : ℕ) → Means new' id sort.Word (λ w. Word (if word w new b == word w new at' then word w new d' else word w new rest))
    → Means new' id sort.Word (word_at old new' m b)
write-Means old root new new' places reads f m below at d there r inside b sorted rest known at' d' ea ed ext id means =
    let fits = FitsSorts-get old f.source m (Write below at d) there in
    let address = below-Means old root new places reads f m (Write below at d) there r inside at sort.Word (1, omega arith, refl) fits.1 Word-no_memory at' ea in
    let datum = below-Means old root new places reads f m (Write below at d) there r inside d sort.Word (2, omega arith, refl) fits.2 Word-no_memory d' ed in
    let under = f.words below b rest known in
    Means-value new' id sort.Word _ (word_at old new' m b) means (λ w.
    let first : word w new at' ≡ word w old at = ap word_of (address.denotes.is w) in
    let second : word w new d' ≡ word w old d = ap word_of (datum.denotes.is w) in
    let third : word w new rest ≡ contents w old below (word w new b) = ap word_of (under.denotes.is w) in
    let here : contents w old m ≡ written (contents w old below) (word w old at) (word w old d) = ap contents_of (denoted-get w old f.source m (Write below at d) there) in
    ap (λ x. Word (if word w new b == x then word w new d' else word w new rest)) first
    ∙ ap (λ x. Word (if word w new b == word w old at then x else word w new rest)) second
    ∙ ap (λ x. Word (if word w new b == word w old at then word w old d else x)) third
    ∙ ap (λ k. Word (k (word w new b))) (sym here)
    ∙ word_at-Extends w old new new' ext m b sorted.inside)

ite-word : (t : Bool) (x y : Denoted) (k l : Denoted) (b : ℕ) → x ≡ Word (contents_of k b) → y ≡ Word (contents_of l b)
    → (if t then x else y) ≡ Word (contents_of (if t then k else l) b)
ite-word true x y k l b p q = p
ite-word false x y k l b p q = q

pub ite-Means : (old : List Node) (root : ℕ) (new new' : List Node) (places : List ℕ) (reads : List (ReadKey × ℕ)) → IsForwarding old root new places reads
    → (m c so apart : ℕ) → slice_get old m ≡ Some (Ite c so apart) → Reaches old root m → m < length places
    → (b : ℕ) → HasSort new b sort.Word → (x y : ℕ) → known reads so b ≡ Some x → known reads apart b ≡ Some y
    → (c' : ℕ) → c' ≡ place places c → Extends new new'
    → (id : ℕ) → HasSort new' id sort.Word → ((w : World) → denoted w new' id ≡ (if truth w new c' then denoted w new x else denoted w new y))
    → Means new' id sort.Word (word_at old new' m b)
ite-Means old root new new' places reads f m c so apart there r inside b sorted x y kx ky c' ec ext id s is = record {
  sorted = s;
  denotes = record {
    is = λ w.
        let fits = FitsSorts-get old f.source m (Ite c so apart) there in
        let control = below-Means old root new places reads f m (Ite c so apart) there r inside c sort.Bool (0, omega arith, refl) fits.0 Bool-no_memory c' ec in
        let one = (f.words so b x kx).denotes.is w in
        let two = (f.words apart b y ky).denotes.is w in
        let same : truth w new c' ≡ truth w old c = ap truth_of (control.denotes.is w) in
        let here = denoted-get w old f.source m (Ite c so apart) there in
        is w
        ∙ ap (λ t. if t then denoted w new x else denoted w new y) same
        ∙ ite-word (truth w old c) (denoted w new x) (denoted w new y) (denoted w old so) (denoted w old apart) (word w new b) one two
        ∙ ap (λ k. Word (contents_of k (word w new b))) (sym here)
        ∙ word_at-Extends w old new new' ext m b sorted.inside;
  };
}

pub init-Means : (old : List Node) (root : ℕ) (new new' : List Node) (places : List ℕ) (reads : List (ReadKey × ℕ)) → IsForwarding old root new places reads
    → (m e : ℕ) → slice_get old m ≡ Some (Init e) → (b : ℕ) → HasSort new b sort.Word → Extends new new'
    → (id : ℕ) → HasSort new' id sort.Word → ((w : World) → denoted w new' id ≡ Word (applied w (symbol.Entry e) (words w new (b ∷ []))))
    → Means new' id sort.Word (word_at old new' m b)
init-Means old root new new' places reads f m e there b sorted ext id s is = record {
  sorted = s;
  denotes = record {
    is = λ w.
        is w
        ∙ ap (λ k. Word (contents_of k (word w new b))) (sym (denoted-get w old f.source m (Init e) there))
        ∙ word_at-Extends w old new new' ext m b sorted.inside;
  };
}

if-word : (t : Bool) (x y : Denoted) (k l : ℕ) → x ≡ Word k → y ≡ Word l → (if t then x else y) ≡ Word (if t then k else l)
if-word true x y k l p q = p
if-word false x y k l p q = q

grown-word : (w : World) (old new : List Node) → Extends old new → IsGraph new → (id : ℕ) → HasSort old id sort.Word → denoted w new id ≡ Word (word w old id)
grown-word w old new e g id h =
    denoted-word w new g id (HasSort-Extends old new e id sort.Word h) ∙ ap (λ d. Word (word_of d)) (denoted-Extends w old new e id h.inside)

-- the ite of words by an equality of words
pub written-Means : (old mid new : List Node) → Extends old mid → IsGraph mid → (same a b d rest : ℕ) → Denotes mid same (λ w. Truth (word w old b == word w old a))
    → HasSort old d sort.Word → HasSort old rest sort.Word → (r : Result ℕ AllocError)
    → IfOk r (λ id. Denotes new id (λ w. if truth w mid same then denoted w mid d else denoted w mid rest)) → IfOk r (λ id. HasSort new id (sort_at mid d))
    → IfOk r (λ id. Means new id sort.Word (λ w. Word (if word w old b == word w old a then word w old d else word w old rest)))
written-Means old mid new e g same a b d rest is hd hr (Ok id) means s = record {
  sorted = subst (HasSort new id) (sort_at-Extends old mid e d hd.inside ∙ hd.sorted) s;
  denotes = record {
    is = λ w.
        means.is w
        ∙ ap (λ t. if t then denoted w mid d else denoted w mid rest) (ap truth_of (is.is w))
        ∙ if-word (word w old b == word w old a) (denoted w mid d) (denoted w mid rest) (word w old d) (word w old rest)
        (grown-word w old mid e g d hd) (grown-word w old mid e g rest hr);
  };
}
written-Means old mid new e g same a b d rest is hd hr (Err x) means s = tt

pub written-Grows : (old mid new : List Node) (same a b d rest : ℕ)
    → Gives old mid same (simplified old (Eq b a)) → Extends old mid → AddsUses old mid [] → IsGraph mid → (r : Result ℕ AllocError)
    → IfOk r (λ id. Gives mid new id (simplified mid (Ite same d rest))) → Extends mid new → AddsUses mid new [] → IsGraph new
    → OnOk r (Grows old new [])
written-Grows old mid new same a b d rest h e u g (Ok id) h' e' u' g' =
    Grows-trans old mid new [] (Grows-Gives old mid [] same (Eq b a) refl h e u g) (Grows-Gives mid new [] id (Ite same d rest) refl h' e' u' g')
written-Grows old mid new same a b d rest h e u g (Err x) h' e' u' g' = tt

-- the read of a memory waits for that of a memory right below it
pub waits : (old : List Node) → IsGraph old → (m : ℕ) (node : Node) → slice_get old m ≡ Some node → (c : ℕ) → Contains (children node) c → HasSort old c sort.Memory
    → (reads : List (ReadKey × ℕ)) (b : ℕ) → known reads c b ≡ None → (c < m) × HasSort old c sort.Memory × Reaches old m c × (known reads c b ≡ None)
waits old g m node there c p h reads b none = (children-below old g m node there c p, h, Child m node c Root there p, none)

-- an ite that is a memory is one of memories
pub ite-sorts : (old : List Node) → IsGraph old → (m c so other : ℕ) → slice_get old m ≡ Some (Ite c so other) → HasSort old m sort.Memory → HasSort old so sort.Memory × HasSort old other sort.Memory
ite-sorts old g m c so other there h =
    let fits = FitsSorts-get old g m (Ite c so other) there in
    let same : sort_at old so ≡ sort.Memory = sym (sort_at-get old g m (Ite c so other) there) ∙ h.sorted in
    (subst (HasSort old so) same fits.1, subst (HasSort old other) same fits.2)

-- memories are ites, writes and first contents
pub memory-node : (sorts : List Sort) (n : Node) → node_sort sorts n ≡ sort.Memory → ((c a b : ℕ) → n ≡ Ite c a b → ⊥) → ((m a d : ℕ) → n ≡ Write m a d → ⊥) → ((e : ℕ) → n ≡ Init e → ⊥) → ⊥
memory-node sorts True h i w e = Bool-no_memory h
memory-node sorts (Not a) h i w e = Bool-no_memory h
memory-node sorts (And a b) h i w e = Bool-no_memory h
memory-node sorts (Or a b) h i w e = Bool-no_memory h
memory-node sorts (Ite c a b) h i w e = i c a b refl
memory-node sorts (Eq a b) h i w e = Bool-no_memory h
memory-node sorts (App s args) h i w e = Word-no_memory h
memory-node sorts (Pred s args) h i w e = Bool-no_memory h
memory-node sorts (Read m a) h i w e = Word-no_memory h
memory-node sorts (Write m a d) h i w e = w m a d refl
memory-node sorts (Init x) h i w e = e x refl
