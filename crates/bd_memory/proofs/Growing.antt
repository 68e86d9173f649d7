-- What is forwarded stays so when the new graph grows.
use Rattle.std.proofs.Common.{◌≡◌, ◌≢◌, ℕ, zero, suc, ◌+◌, ◌<◌, ◌⊎◌, inl, inr, true, List, [], ◌∷◌, ◌++◌, length, slice_get, Some, Contains, Result, Ok, Err, IfOk, OnOk, refl, ap, sym, ◌∙◌, subst, arith, length-append}
use Rattle.std.specs.declared.alloc.AllocError.{AllocError}
use Rattle.std.proofs.lemmas.Option.{same_Some}
use Rattle.std.proofs.lemmas.List.{get_or_append_left}
use Rattle.std.proofs.Math.Seq.{get_or-append_seam}
use Rattle.std.proofs.lemmas.List.Elements.{Contains-append_cases}
use Rattle.bd_model.specs.declared.design.Sort.{Sort}
use Rattle.bd_model.specs.declared.design.Sort.TheVariants as sort
use Rattle.bd_terms.specs.declared.node.Node.{Node}
use Rattle.bd_terms.specs.Graph.{AddsUses, Extends, HasSort, IsGraph, KeepsSymbol, Use, node_sort, node_uses, sort_at, sorts, uses}
use Rattle.bd_terms.specs.Reaches.{Reaches, ReachesUse}
use Rattle.bd_terms.specs.Simplified.{Gives, simplified}
use Rattle.bd_terms.specs.Denotation.{World, Denoted, Denotes, Word, contents, denoted, node_value, values, word_of}
use Rattle.bd_terms.proofs.Growth.{HasSort-Extends, Denotes-Extends, denoted-Extends, Extends-trans, AddsUses-trans}
use Rattle.bd_terms.proofs.Symbols.{uses-get}
use Rattle.bd_terms.proofs.Graphs.{sort_at-get}
use Rattle.bd_terms.proofs.Denotations.{denoted-get}
use Rattle.bd_memory.specs.declared.reads.ReadKey.{ReadKey}
use Rattle.bd_memory.specs.inner.Reads.{known}
use Rattle.bd_walk.specs.inner.Carrying.{Means}
use Rattle.bd_memory.specs.Forwarded.{is_plain}
use Rattle.bd_memory.specs.inner.Forwarding.{Grows, IsForwarding, place, word_at}
use Rattle.bd_memory.proofs.Plain.{Gives-IsPlain}
use Rattle.bd_walk.proofs.Renaming.{IsRenamed}
use Rattle.bd_memory.specs.Forwarded.{Forwarded, Term, At}
use Rattle.bd_memory.proofs.Making.{Forwarded-Extends}

pub Means-Extends : (old new : List Node) → Extends old new → (id : ℕ) (s : Sort) (value : World → Denoted) → Means old id s value → Means new id s value
Means-Extends old new e id s value m = record {
  sorted = HasSort-Extends old new e id s m.sorted;
  denotes = Denotes-Extends old new e id value m.sorted.inside m.denotes;
}

pub Means-value : (nodes : List Node) (id : ℕ) (s : Sort) (v u : World → Denoted) → Means nodes id s v → ((w : World) → v w ≡ u w) → Means nodes id s u
Means-value nodes id s v u m h = record { sorted = m.sorted; denotes = record { is = λ w. m.denotes.is w ∙ h w } }

pub word_at-Extends : (w : World) (old new new' : List Node) → Extends new new' → (m b : ℕ) → b < length new → word_at old new m b w ≡ word_at old new' m b w
word_at-Extends w old new new' e m b h =
    ap (λ d. Word (contents w old m (word_of d))) (sym (denoted-Extends w new new' e b h))

-- a graph that grows by what the old root reaches
pub IsForwarding-Grows : (old : List Node) (root : ℕ) (new new' : List Node) (places : List ℕ) (reads : List (ReadKey × ℕ)) (more : List Use)
    → IsForwarding old root new places reads → Grows new new' more → ((u : Use) → Contains more u → ReachesUse old root u) → IsForwarding old root new' places reads
IsForwarding-Grows old root new new' places reads more f g h = record {
  source = f.source;
  graph = g.graph;
  plain = g.plain f.plain;
  applies = record {
    reached = λ u p. elim (Contains-append_cases (uses new) more u (g.uses.within u p)) [ inl q ↦ f.applies.reached u q | inr q ↦ h u q ];
  };
  terms = λ k inside r apart. Means-Extends new new' g.extends (place places k) (sort_at old k) (λ w. denoted w old k) (f.terms k inside r apart);
  addresses = λ m b id e. HasSort-Extends new new' g.extends b sort.Word (f.addresses m b id e);
  words = λ m b id e.
      Means-value new' id sort.Word (word_at old new m b) (word_at old new' m b)
      (Means-Extends new new' g.extends id sort.Word (word_at old new m b) (f.words m b id e))
      (λ w. word_at-Extends w old new new' g.extends m b (f.addresses m b id e).inside);
  made_terms = λ k inside r apart. Forwarded-Extends old new new' g.extends (Term k) (place places k) (f.made_terms k inside r apart);
  made_words = λ m b id e. Forwarded-Extends old new new' g.extends (At m b) id (f.made_words m b id e);
}

-- a plain term that is built
pub Grows-Gives : (new new' : List Node) (more : List Use) (id : ℕ) (node : Node) → is_plain node ≡ true → Gives new new' id (simplified new node) → Extends new new' → AddsUses new new' more → IsGraph new' → Grows new new' more
Grows-Gives new new' more id node p h e a g = record { extends = e; uses = a; graph = g; plain = Gives-IsPlain new new' id node p h }

pub Grows-trans : (a b c : List Node) (more : List Use) → Grows a b more → Grows b c more → Grows a c more
Grows-trans a b c more p q = record {
  extends = Extends-trans a b c p.extends q.extends;
  uses = AddsUses-trans a b c more p.uses q.uses;
  graph = q.graph;
  plain = λ x. q.plain (p.plain x);
}

-- the next term, built
pub next-Means : (old new new' : List Node) (here : ℕ) (node n : Node) → IsGraph old → slice_get old here ≡ Some node → IsRenamed old new node n → (r : Result ℕ AllocError)
    → IfOk r (λ id. Denotes new' id (λ w. node_value w (values w new) n)) → IfOk r (λ id. HasSort new' id (node_sort (sorts new) n))
    → IfOk r (λ id. Means new' id (sort_at old here) (λ w. denoted w old here))
next-Means old new new' here node n g there m (Ok id) d s = record {
  sorted = subst (HasSort new' id) (m.sorted ∙ sym (sort_at-get old g here node there)) s;
  denotes = record { is = λ w. d.is w ∙ m.value w ∙ sym (denoted-get w old g here node there) };
}
next-Means old new new' here node n g there m (Err x) d s = tt

pub next-IsForwarding : (old : List Node) (root : ℕ) (new new' : List Node) (places : List ℕ) (reads : List (ReadKey × ℕ)) (here : ℕ) (node n : Node)
    → IsForwarding old root new places reads → slice_get old here ≡ Some node → Reaches old root here → IsRenamed old new node n → is_plain n ≡ true → (r : Result ℕ AllocError)
    → IfOk r (λ id. Gives new new' id (simplified new n)) → Extends new new' → AddsUses new new' (node_uses n) → IsGraph new'
    → OnOk r (IsForwarding old root new' places reads)
next-IsForwarding old root new new' places reads here node n f there reach m plain (Ok id) h e a g =
    IsForwarding-Grows old root new new' places reads (node_uses n) f (Grows-Gives new new' (node_uses n) id n plain h e a g)
    (λ u p. record { id = here; node = node; reached = reach; there = there; applies = subst (λ l. Contains l u) m.uses p })
next-IsForwarding old root new new' places reads here node n f there reach m plain (Err x) h e a g = tt

-- a symbol that a reached term applies keeps its arity and sort in the new graph
pub reached-KeepsSymbol : (old : List Node) (root : ℕ) (new : List Node) (places : List ℕ) (reads : List (ReadKey × ℕ)) → IsForwarding old root new places reads
    → (i : ℕ) (node : Node) → slice_get old i ≡ Some node → (u : Use) → Contains (node_uses node) u → KeepsSymbol new u.symbol u.arity u.sort
reached-KeepsSymbol old root new places reads f i node there u p = record {
  keeps = λ v q.
      let r = f.applies.reached v q in
      (f.source.consistent u (uses-get old i node there u p)).keeps v (uses-get old r.id r.node r.there v r.applies);
}

-- a place more
pub IsForwarding-push : (old : List Node) (root : ℕ) (new : List Node) (places : List ℕ) (reads : List (ReadKey × ℕ)) (id : ℕ) → IsForwarding old root new places reads
    → (Reaches old root (length places) → sort_at old (length places) ≢ sort.Memory → Means new id (sort_at old (length places)) (λ w. denoted w old (length places)))
    → (Reaches old root (length places) → sort_at old (length places) ≢ sort.Memory → Forwarded old new (Term (length places)) id)
    → IsForwarding old root new (places ++ id ∷ []) reads
IsForwarding-push old root new places reads id f h made = record {
  source = f.source;
  graph = f.graph;
  plain = f.plain;
  applies = f.applies;
  terms = λ k inside r apart. elim (last-cases k (length places) (omega (arith, inside, length-append places (id ∷ [])))) [
    | inl lt ↦ subst (λ x. Means new x (sort_at old k) (λ w. denoted w old k)) (sym (get_or_append_left places (id ∷ []) 0 k lt)) (f.terms k lt r apart)
    | inr e ↦
        subst (λ j. Means new (place (places ++ id ∷ []) j) (sort_at old j) (λ w. denoted w old j)) (sym e)
        (subst (λ x. Means new x (sort_at old (length places)) (λ w. denoted w old (length places))) (sym (get_or-append_seam places id [] 0))
        (h (subst (Reaches old root) e r) (subst (λ j. sort_at old j ≢ sort.Memory) e apart)))
  ];
  addresses = f.addresses;
  words = f.words;
  made_terms = λ k inside r apart. elim (last-cases k (length places) (omega (arith, inside, length-append places (id ∷ [])))) [
    | inl lt ↦ subst (Forwarded old new (Term k)) (sym (get_or_append_left places (id ∷ []) 0 k lt)) (f.made_terms k lt r apart)
    | inr e ↦
        subst (λ j. Forwarded old new (Term j) (place (places ++ id ∷ []) j)) (sym e)
        (subst (Forwarded old new (Term (length places))) (sym (get_or-append_seam places id [] 0))
        (made (subst (Reaches old root) e r) (subst (λ j. sort_at old j ≢ sort.Memory) e apart)))
  ];
  made_words = f.made_words;
}
  where
    last-cases : (k n : ℕ) → k < n + 1 → (k < n) ⊎ (k ≡ n)
    last-cases zero zero h = inr refl
    last-cases zero (suc n) h = inl (omega arith)
    last-cases (suc k) zero h = absurd (omega arith)
    last-cases (suc k) (suc n) h = elim (last-cases k n (omega (arith, h))) [ inl p ↦ inl (omega (arith, p)) | inr e ↦ inr (ap suc e) ]

-- a read more
pub IsForwarding-keep : (old : List Node) (root : ℕ) (new : List Node) (places : List ℕ) (reads reads' : List (ReadKey × ℕ)) (m b id : ℕ) → IsForwarding old root new places reads
    → HasSort new b sort.Word → Means new id sort.Word (word_at old new m b) → Forwarded old new (At m b) id
    → ((n a : ℕ) → (known reads' n a ≡ known reads n a) ⊎ ((known reads' n a ≡ Some id) × (n ≡ m) × (a ≡ b)))
    → IsForwarding old root new places reads'
IsForwarding-keep old root new places reads reads' m b id f sorted means made h = record {
  source = f.source;
  graph = f.graph;
  plain = f.plain;
  applies = f.applies;
  terms = f.terms;
  addresses = λ n a x e. elim (h n a) [
    | inl same ↦ f.addresses n a x (sym same ∙ e)
    | inr p ↦ subst (λ y. HasSort new y sort.Word) (sym p.2) sorted
  ];
  words = λ n a x e. elim (h n a) [
    | inl same ↦ f.words n a x (sym same ∙ e)
    | inr p ↦
        subst (λ y. Means new y sort.Word (word_at old new n a)) (same_Some id x (sym p.0 ∙ e))
        (subst (λ y. Means new id sort.Word (word_at old new y a)) (sym p.1) (subst (λ y. Means new id sort.Word (word_at old new m y)) (sym p.2) means))
  ];
  made_terms = f.made_terms;
  made_words = λ n a x e. elim (h n a) [
    | inl same ↦ f.made_words n a x (sym same ∙ e)
    | inr p ↦
        subst (Forwarded old new (At n a)) (same_Some id x (sym p.0 ∙ e))
        (subst (λ y. Forwarded old new (At y a) id) (sym p.1) (subst (λ y. Forwarded old new (At m y) id) (sym p.2) made))
  ];
}
