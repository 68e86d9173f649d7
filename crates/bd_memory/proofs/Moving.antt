-- A term over what its children became.
use Rattle.std.proofs.Common.{◌≡◌, ◌≢◌, ℕ, ◌<◌, inl, inr, true, List, [], ◌∷◌, length, slice_get, Some, Contains, refl, sym, ◌∙◌, subst, arith, true≢false}
use Rattle.std.proofs.lemmas.List.Elements.{All-contains, Contains-append_cases}
use Rattle.bd_model.specs.declared.design.Sort.{Sort}
use Rattle.bd_model.specs.declared.design.Sort.TheVariants as sort
use Rattle.bd_terms.specs.declared.node.Node.{Node}
use Rattle.bd_terms.specs.declared.node.Node.TheVariants.{True, Not, And, Or, Ite, Eq, App, Pred, Read, Write, Init}
use Rattle.bd_terms.specs.Graph.{FitsSorts, HasSort, children, node_sort, sorts, sort_at}
use Rattle.bd_terms.specs.Reaches.{Reaches, Child}
use Rattle.bd_terms.specs.Renamed.{renamed}
use Rattle.bd_terms.specs.Denotation.{denoted}
use Rattle.bd_terms.proofs.Graphs.{FitsSorts-get, sort_at-get}
use Rattle.bd_terms.proofs.Reaching.{children-below}
use Rattle.bd_walk.specs.inner.Carrying.{Means}
use Rattle.bd_walk.proofs.Renaming.{IsRenamed, renames}
use Rattle.bd_memory.specs.declared.reads.ReadKey.{ReadKey}
use Rattle.bd_memory.specs.Forwarded.{is_plain}
use Rattle.bd_memory.specs.inner.Forwarding.{IsForwarding, place}
use Rattle.bd_memory.proofs.Plain.{Bool-no_memory, Word-no_memory}
use Rattle.bd_list.proofs.Membership.{Contains-one}

-- each of these that is no memory stays what it is where it is moved
abbrev pub AllMean : List Node → List Node → List ℕ → List ℕ → Type 0
AllMean old new places cs = (c : ℕ) → Contains cs c → sort_at old c ≢ sort.Memory → Means new (place places c) (sort_at old c) (λ w. denoted w old c)

pub child-means : (old new : List Node) (places cs : List ℕ) → AllMean old new places cs → (c : ℕ) (s : Sort) → Contains cs c → HasSort old c s → s ≢ sort.Memory → Means new (place places c) s (λ w. denoted w old c)
child-means old new places cs m c s p h apart =
    subst (λ t. Means new (place places c) t (λ w. denoted w old c)) h.sorted (m c p (λ e. apart (sym h.sorted ∙ e)))

-- none of these is a memory
abbrev pub NoMemories : List Node → List ℕ → Type 0
NoMemories old cs = (c : ℕ) → Contains cs c → sort_at old c ≢ sort.Memory

one : (old : List Node) (a : ℕ) → sort_at old a ≢ sort.Memory → NoMemories old (a ∷ [])
one old a h c p = subst (λ k. sort_at old k ≢ sort.Memory) (Contains-one a c p) h

more : (old : List Node) (a : ℕ) (cs : List ℕ) → sort_at old a ≢ sort.Memory → NoMemories old cs → NoMemories old (a ∷ cs)
more old a cs h k c p = elim (Contains-append_cases (a ∷ []) cs c p) [ inl q ↦ one old a h c q | inr q ↦ k c q ]

none : (old : List Node) → NoMemories old []
none old c p = absurd (omega (arith, p.1))

sorted-apart : (old : List Node) (a : ℕ) (s : Sort) → HasSort old a s → s ≢ sort.Memory → sort_at old a ≢ sort.Memory
sorted-apart old a s h apart e = apart (sym h.sorted ∙ e)

-- a plain term that is no memory stands over none
pub plain-children : (old : List Node) (node : Node) → FitsSorts old node → node_sort (sorts old) node ≢ sort.Memory → is_plain node ≡ true → NoMemories old (children node)
plain-children old True h apart p = none old
plain-children old (Not a) h apart p = one old a (sorted-apart old a sort.Bool h Bool-no_memory)
plain-children old (And a b) h apart p = more old a (b ∷ []) (sorted-apart old a sort.Bool h.0 Bool-no_memory) (one old b (sorted-apart old b sort.Bool h.1 Bool-no_memory))
plain-children old (Or a b) h apart p = more old a (b ∷ []) (sorted-apart old a sort.Bool h.0 Bool-no_memory) (one old b (sorted-apart old b sort.Bool h.1 Bool-no_memory))
plain-children old (Ite c a b) h apart p =
    more old c (a ∷ b ∷ []) (sorted-apart old c sort.Bool h.0 Bool-no_memory) (more old a (b ∷ []) apart (one old b (sorted-apart old b (sort_at old a) h.2 apart)))
plain-children old (Eq a b) h apart p = more old a (b ∷ []) (sorted-apart old a sort.Word h.0 Word-no_memory) (one old b (sorted-apart old b sort.Word h.1 Word-no_memory))
plain-children old (App s args) h apart p = λ c q. sorted-apart old c sort.Word (All-contains (λ a. HasSort old a sort.Word) args c h q) Word-no_memory
plain-children old (Pred s args) h apart p = λ c q. sorted-apart old c sort.Word (All-contains (λ a. HasSort old a sort.Word) args c h q) Word-no_memory
plain-children old (Read m a) h apart p = absurd (true≢false (sym p))
plain-children old (Write m a d) h apart p = absurd (true≢false (sym p))
plain-children old (Init e) h apart p = absurd (true≢false (sym p))

-- the children of a reached term that is passed are passed
pub passed-mean : (old : List Node) (root : ℕ) (new : List Node) (places : List ℕ) (reads : List (ReadKey × ℕ)) → IsForwarding old root new places reads
    → (id : ℕ) (node : Node) → slice_get old id ≡ Some node → Reaches old root id → ((c : ℕ) → Contains (children node) c → c < length places) → AllMean old new places (children node)
passed-mean old root new places reads f id node there r below c p apart = f.terms c (below c p) (Child id node c r there p) apart

-- a term that is no memory and reads none is plain
pub plain-term : (old : List Node) (node : Node) → node_sort (sorts old) node ≢ sort.Memory → ((m a : ℕ) → node ≢ Read m a) → is_plain node ≡ true
plain-term old True apart h = refl
plain-term old (Not a) apart h = refl
plain-term old (And a b) apart h = refl
plain-term old (Or a b) apart h = refl
plain-term old (Ite c a b) apart h = refl
plain-term old (Eq a b) apart h = refl
plain-term old (App s args) apart h = refl
plain-term old (Pred s args) apart h = refl
plain-term old (Read m a) apart h = absurd (h m a refl)
plain-term old (Write m a d) apart h = absurd (apart refl)
plain-term old (Init e) apart h = absurd (apart refl)

pub renamed-plain : (places : List ℕ) (node : Node) → is_plain node ≡ true → is_plain (renamed places node) ≡ true
renamed-plain places True p = refl
renamed-plain places (Not a) p = refl
renamed-plain places (And a b) p = refl
renamed-plain places (Or a b) p = refl
renamed-plain places (Ite c a b) p = refl
renamed-plain places (Eq a b) p = refl
renamed-plain places (App s args) p = refl
renamed-plain places (Pred s args) p = refl
renamed-plain places (Read m a) p = p
renamed-plain places (Write m a d) p = p
renamed-plain places (Init e) p = p

-- the next term, over the new places of its children
pub next-renamed : (old : List Node) (root : ℕ) (new : List Node) (places : List ℕ) (reads : List (ReadKey × ℕ)) → IsForwarding old root new places reads
    → (node : Node) → slice_get old (length places) ≡ Some node → Reaches old root (length places) → sort_at old (length places) ≢ sort.Memory
    → is_plain node ≡ true → (n : Node) → n ≡ renamed places node → IsRenamed old new node n
next-renamed old root new places reads f node there r apart p n same =
    let fits = FitsSorts-get old f.source (length places) node there in
    let below = passed-mean old root new places reads f (length places) node there r (λ c q. children-below old f.source (length places) node there c q) in
    subst (IsRenamed old new node) (sym same)
    (renames old new places node fits
    (λ c q. below c q (plain-children old node fits (λ e. apart (sort_at-get old f.source (length places) node there ∙ e)) p c q)))
