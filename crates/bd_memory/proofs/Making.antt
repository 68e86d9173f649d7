-- What each term is made from.
use Rattle.std.proofs.Common.{◌≡◌, ◌≢◌, ℕ, ◌<◌, ◌≤◌, true, List, [], ◌∷◌, length, slice_get, Some, Contains, Result, Ok, Err, IfOk, OnOk, refl, ap, sym, ◌∙◌, subst, arith}
use Rattle.std.specs.declared.alloc.AllocError.{AllocError}
use Rattle.bd_model.specs.declared.design.Sort.{Sort}
use Rattle.bd_model.specs.declared.design.Sort.TheVariants as sort
use Rattle.bd_terms.specs.declared.node.Node.{Node}
use Rattle.bd_terms.specs.declared.node.Node.TheVariants.{Ite, Eq, App, Read, Write, Init}
use Rattle.bd_terms.specs.declared.node.Sym.TheVariants as symbol
use Rattle.bd_terms.specs.Graph.{Extends, FitsSorts, HasSort, IsGraph, children, sort_at}
use Rattle.bd_terms.specs.Reaches.{Reaches, Root, Child}
use Rattle.bd_terms.specs.Renamed.{id_at, renamed}
use Rattle.bd_terms.specs.Simplified.{Gives, simplified}
use Rattle.bd_terms.proofs.Graphs.{FitsSorts-get, sort_at-get}
use Rattle.bd_terms.proofs.Reaching.{children-below}
use Rattle.bd_walk.specs.Built.{IsBuilt}
use Rattle.bd_walk.proofs.Building.{IsBuilt-Extends, IsBuilt-now}
use Rattle.bd_memory.specs.declared.reads.ReadKey.{ReadKey}
use Rattle.bd_memory.specs.Forwarded.{Forwarded, Subject, Term, At, OfPlain, OfRead, OfWrite, OfIte, OfInit, is_plain}
use Rattle.bd_memory.specs.inner.Reads.{known}
use Rattle.bd_memory.specs.inner.Forwarding.{IsForwarding, IsWritten, place}
use Rattle.bd_memory.proofs.Plain.{Bool-no_memory, Word-no_memory}
use Rattle.bd_memory.proofs.Moving.{plain-children}

-- it stays so when the graph grows
module _ (old a b : List Node) (e : Extends a b) where
  pub Forwarded-Extends : (s : Subject) (id : ℕ) → Forwarded old a s id → Forwarded old b s id
  Forwarded-Extends _ _ (OfPlain i node places id there plain below k) =
      OfPlain i node places id there plain (λ c p. Forwarded-Extends (Term c) (id_at places c) (below c p)) (IsBuilt-Extends a b e (renamed places node) id k)
  Forwarded-Extends _ _ (OfRead i m x y id there f g) = OfRead i m x y id there (Forwarded-Extends (Term x) y f) (Forwarded-Extends (At m y) id g)
  Forwarded-Extends _ _ (OfWrite m below at d w x y z same id there f g h k l) =
      OfWrite m below at d w x y z same id there (Forwarded-Extends (Term at) x f) (Forwarded-Extends (Term d) y g) (Forwarded-Extends (At below w) z h)
      (IsBuilt-Extends a b e (Eq w x) same k) (IsBuilt-Extends a b e (Ite same y z) id l)
  Forwarded-Extends _ _ (OfIte m c so other w x y z id there f g h k) =
      OfIte m c so other w x y z id there (Forwarded-Extends (Term c) x f) (Forwarded-Extends (At so w) y g) (Forwarded-Extends (At other w) z h) (IsBuilt-Extends a b e (Ite x y z) id k)
  Forwarded-Extends _ _ (OfInit m x w id there k) = OfInit m x w id there (IsBuilt-Extends a b e (App (symbol.Entry x) (w ∷ [])) id k)

-- what a child of a reached term that is passed, or is next, is made into
pub child-made : (old : List Node) (root : ℕ) (new : List Node) (places : List ℕ) (reads : List (ReadKey × ℕ)) → IsForwarding old root new places reads
    → (m : ℕ) (node : Node) → slice_get old m ≡ Some node → Reaches old root m → m ≤ length places
    → (c : ℕ) (s : Sort) → Contains (children node) c → HasSort old c s → s ≢ sort.Memory → (c' : ℕ) → c' ≡ place places c → Forwarded old new (Term c) c'
child-made old root new places reads f m node there r inside c s p h apart c' e =
    let below = children-below old f.source m node there c p in
    subst (Forwarded old new (Term c)) (sym e) (f.made_terms c (omega (arith, below, inside)) (Child m node c r there p) (λ q. apart (sym h.sorted ∙ q)))

-- the two steps of a read of a write
pub written-made : (old mid new : List Node) (same at address d rest : ℕ) → HasSort old address sort.Word → HasSort old at sort.Word
    → Gives old mid same (simplified old (Eq address at)) → FitsSorts mid (Ite same d rest) → Extends mid new → (r : Result ℕ AllocError)
    → IfOk r (λ id. Gives mid new id (simplified mid (Ite same d rest))) → IfOk r (IsWritten new at d address rest)
written-made old mid new same at address d rest ha hb gives fits ext (Ok id) h = record {
  same = same;
  equation = IsBuilt-Extends mid new ext (Eq address at) same (IsBuilt-now old mid (Eq address at) same (ha, hb) gives);
  chosen = IsBuilt-now mid new (Ite same d rest) id fits h;
}
written-made old mid new same at address d rest ha hb gives fits ext (Err x) h = tt

pub write-made : (old : List Node) (root : ℕ) (new new' : List Node) (places : List ℕ) (reads : List (ReadKey × ℕ)) → IsForwarding old root new places reads
    → (m below at d : ℕ) → slice_get old m ≡ Some (Write below at d) → Reaches old root m → m < length places
    → (b rest : ℕ) → known reads below b ≡ Some rest
    → (at' d' : ℕ) → at' ≡ place places at → d' ≡ place places d → Extends new new'
    → (id : ℕ) → IsWritten new' at' d' b rest id → Forwarded old new' (At m b) id
write-made old root new new' places reads f m below at d there r inside b rest known at' d' ea ed ext id w =
    let fits = FitsSorts-get old f.source m (Write below at d) there in
    let n = Write below at d in
    OfWrite m below at d b at' d' rest w.same id there
    (Forwarded-Extends old new new' ext (Term at) at' (child-made old root new places reads f m n there r (omega (arith, inside)) at sort.Word (1, omega arith, refl) fits.1 Word-no_memory at' ea))
    (Forwarded-Extends old new new' ext (Term d) d' (child-made old root new places reads f m n there r (omega (arith, inside)) d sort.Word (2, omega arith, refl) fits.2 Word-no_memory d' ed))
    (Forwarded-Extends old new new' ext (At below b) rest (f.made_words below b rest known))
    w.equation w.chosen

pub ite-made : (old : List Node) (root : ℕ) (new new' : List Node) (places : List ℕ) (reads : List (ReadKey × ℕ)) → IsForwarding old root new places reads
    → (m c so other : ℕ) → slice_get old m ≡ Some (Ite c so other) → Reaches old root m → m < length places
    → (b x y : ℕ) → known reads so b ≡ Some x → known reads other b ≡ Some y
    → (c' : ℕ) → c' ≡ place places c → Extends new new'
    → (id : ℕ) → IsBuilt new' (Ite c' x y) id → Forwarded old new' (At m b) id
ite-made old root new new' places reads f m c so other there r inside b x y kx ky c' ec ext id k =
    let fits = FitsSorts-get old f.source m (Ite c so other) there in
    OfIte m c so other b c' x y id there
    (Forwarded-Extends old new new' ext (Term c) c' (child-made old root new places reads f m (Ite c so other) there r (omega (arith, inside)) c sort.Bool (0, omega arith, refl) fits.0 Bool-no_memory c' ec))
    (Forwarded-Extends old new new' ext (At so b) x (f.made_words so b x kx))
    (Forwarded-Extends old new new' ext (At other b) y (f.made_words other b y ky))
    k

-- a read is made for the word that its memory has at its address
pub read-made : (old : List Node) (root : ℕ) (new' : List Node) (places places' : List ℕ) (reads' : List (ReadKey × ℕ)) (m a a' : ℕ) → IsGraph old → slice_get old (length places) ≡ Some (Read m a) → Reaches old root (length places)
    → a' ≡ place places a → (r : Result ℕ AllocError) → IfOk r (Forwarded old new' (At m a'))
    → OnOk r (IsForwarding old root new' places' reads') → OnOk r (places' ≡ places)
    → IfOk r (Forwarded old new' (Term (length places)))
read-made old root new' places places' reads' m a a' g there reach e (Ok id) made f' same =
    let f = subst (λ l. IsForwarding old root new' l reads') same f' in
    OfRead (length places) m a a' id there
    (child-made old root new' places reads' f (length places) (Read m a) there reach (omega arith) a sort.Word (1, omega arith, refl) (FitsSorts-get old g (length places) (Read m a) there).1 Word-no_memory a' e)
    made
read-made old root new' places places' reads' m a a' g there reach e (Err x) made f' same = tt

-- and a plain term from what its children became
pub plain-made : (old : List Node) (root : ℕ) (new new' : List Node) (places : List ℕ) (reads : List (ReadKey × ℕ)) → IsForwarding old root new places reads
    → (node : Node) → slice_get old (length places) ≡ Some node → Reaches old root (length places) → sort_at old (length places) ≢ sort.Memory
    → is_plain node ≡ true → (n : Node) → n ≡ renamed places node → FitsSorts new n → Extends new new' → (r : Result ℕ AllocError)
    → IfOk r (λ id. Gives new new' id (simplified new n)) → IfOk r (Forwarded old new' (Term (length places)))
plain-made old root new new' places reads f node there r apart p n same fits ext (Ok id) h =
    let below = λ (c : ℕ) (q : Contains (children node) c). (children-below old f.source (length places) node there c q) in
    let apart_below = plain-children old node (FitsSorts-get old f.source (length places) node there) (λ e. apart (sort_at-get old f.source (length places) node there ∙ e)) p in
    OfPlain (length places) node places id there p
    (λ c q. Forwarded-Extends old new new' ext (Term c) (id_at places c) (f.made_terms c (below c q) (Child (length places) node c r there q) (apart_below c q)))
    (subst (λ x. IsBuilt new' x id) same (IsBuilt-now new new' n id fits h))
plain-made old root new new' places reads f node there r apart p n same fits ext (Err x) h = tt

-- where all are passed, the root is made
pub root-made : (old : List Node) (top : ℕ) (new : List Node) (places : List ℕ) (reads : List (ReadKey × ℕ)) (root place' : ℕ) → IsForwarding old top new places reads → HasSort old top sort.Bool
    → length old ≤ length places → root ≡ top → place' ≡ place places root → Forwarded old new (Term top) place'
root-made old top new places reads root place' f h all same e =
    let inside : top < length places = omega (arith, all, h.inside) in
    subst (Forwarded old new (Term top)) (sym (e ∙ ap (place places) same)) (f.made_terms top inside Root (λ q. Bool-no_memory (sym h.sorted ∙ q)))
