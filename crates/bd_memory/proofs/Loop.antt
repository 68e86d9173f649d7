-- What the loop of a read keeps, and that it ends.
use Rattle.std.proofs.Common.{◌≡◌, ℕ, suc, ◌+◌, ◌-◌, ◌<◌, List, [], ◌∷◌, ◌++◌, length, Some, if◌then◌else◌, ap, sym, ◌∙◌, subst, arith, length-append}
use Rattle.bd_model.specs.declared.design.Sort.TheVariants as sort
use Rattle.bd_terms.specs.declared.node.Node.{Node}
use Rattle.bd_terms.specs.Graph.{HasSort}
use Rattle.bd_memory.specs.declared.reads.ReadKey.{ReadKey}
use Rattle.bd_memory.specs.declared.forwarding.Forwarding.{Forwarding}
use Rattle.bd_memory.specs.declared.forwarding.ReadState.TheVariants.{Waits, Word as Given}
use Rattle.bd_memory.specs.inner.Reads.{is_read, known}
use Rattle.bd_memory.specs.inner.Forwarding.{Holds, IsForwarding, IsMadeState, IsReadState}
use Rattle.bd_memory.proofs.Growing.{IsForwarding-keep}
use Rattle.bd_memory.proofs.Waiting.{IsWaiting, IsWaiting-pop, IsWaiting-push, kept-cases, kept-there, missing, missing-less}

pub record IsReading (old : List Node) (root : ℕ) (places : List ℕ) (f : Forwarding) (b top : ℕ) (waiting : List ℕ) (here : ℕ) : Type 0 where
  pub holds : Holds old root f
  pub address : HasSort f.graph b sort.Word
  pub places_stay : f.places.items ≡ places
  pub waits : IsWaiting old root (length places) f.reads b top waiting here

-- the one at hand waits
pub IsReading-push : (old : List Node) (root : ℕ) (places : List ℕ) (f f' : Forwarding) (b top : ℕ) (waiting waiting' : List ℕ) (here below : ℕ) → IsReading old root places f b top waiting here
    → Holds old root f' → HasSort f'.graph b sort.Word → f'.places.items ≡ f.places.items → f'.reads ≡ f.reads
    → IsReadState old f' here b (Waits below) → waiting' ≡ waiting ++ here ∷ [] → IsReading old root places f' b top waiting' below
IsReading-push old root places f f' b top waiting waiting' here below r h a same reads s e = record {
  holds = h;
  address = a;
  places_stay = same ∙ r.places_stay;
  waits =
      subst (λ l. IsWaiting old root (length places) f'.reads b top l below) (sym e)
      (IsWaiting-push old root (length places) f'.reads b top waiting here below
      (subst (λ l. IsWaiting old root (length places) l b top waiting here) (sym reads) r.waits) s);
}

-- its read is kept
pub kept-Holds : (old : List Node) (root : ℕ) (f : Forwarding) (reads : List (ReadKey × ℕ)) (b here id : ℕ)
    → Holds old root f → HasSort f.graph b sort.Word → IsReadState old f here b (Given id) → IsMadeState old f here b (Given id)
    → ((n a : ℕ) → known reads n a ≡ (if is_read here b n a then Some id else known f.reads n a))
    → IsForwarding old root f.graph f.places.items reads
kept-Holds old root f reads b here id h a s made k =
    IsForwarding-keep old root f.graph f.places.items f.reads reads here b id h a s made (kept-cases f.reads reads here b id k)

-- and the one above it is at hand
pub popped-waits : (old : List Node) (root : ℕ) (places : List ℕ) (f f' : Forwarding) (reads : List (ReadKey × ℕ)) (b top : ℕ) (waiting rest : List ℕ) (here above id : ℕ) → IsReading old root places f b top waiting here
    → f'.reads ≡ f.reads → ((n a : ℕ) → known reads n a ≡ (if is_read here b n a then Some id else known f'.reads n a)) → waiting ≡ rest ++ above ∷ []
    → IsWaiting old root (length places) reads b top rest above
popped-waits old root places f f' reads b top waiting rest here above id r same k e =
    IsWaiting-pop old root (length places) f'.reads reads b top waiting rest here above id
    (subst (λ l. IsWaiting old root (length places) l b top waiting here) (sym same) r.waits) k e

pub popped-smaller : (old : List Node) (root : ℕ) (places : List ℕ) (f f' : Forwarding) (reads : List (ReadKey × ℕ)) (b top : ℕ) (waiting rest : List ℕ) (here above id : ℕ) → IsReading old root places f b top waiting here
    → f'.reads ≡ f.reads → ((n a : ℕ) → known reads n a ≡ (if is_read here b n a then Some id else known f'.reads n a)) → waiting ≡ rest ++ above ∷ []
    → missing reads b (length places) + missing reads b (length places) + (length places - length rest) < missing f.reads b (length places) + missing f.reads b (length places) + (length places - length waiting)
popped-smaller old root places f f' reads b top waiting rest here above id r same k e =
    let w = subst (λ l. IsWaiting old root (length places) l b top waiting here) (sym same) r.waits in
    let less : suc (missing reads b (length places)) ≡ missing f'.reads b (length places) =
    missing-less f'.reads reads here b id (length places) k w.now.unread (kept-there f'.reads reads here b id k) w.now.inside in
    let before : missing f'.reads b (length places) ≡ missing f.reads b (length places) = ap (λ l. missing l b (length places)) same in
    let size : length waiting ≡ length rest + 1 = ap length e ∙ length-append rest (above ∷ []) in
    omega (arith, less, before, size, w.room)
