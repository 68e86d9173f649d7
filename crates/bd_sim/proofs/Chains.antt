-- What writes over other memories make, from their places among the writes.
use Rattle.std.proofs.Common.{◌≡◌, ℕ, ◌+◌, ◌<◌, ◌≤◌, List, [], ◌∷◌, ◌++◌, length, map, slice_index_or, take, drop, false, refl, ap, sym, ◌∙◌, arith, take-append-drop, length-append}
use Rattle.std.proofs.lemmas.List.{length-take-le, drop_more, get_or_past}
use Rattle.std.specs.List.{All}
use Rattle.std.proofs.lemmas.List.Elements.{All-head, All-tail}
use Rattle.bd_list.proofs.Grown.{get-grown_at, get-grown_front, length-grown}
use Rattle.bd_sim.specs.declared.writes.Chain.TheVariants as chain
use Rattle.bd_sim.specs.declared.writes.Write.{Write}
use Rattle.bd_model.specs.declared.table.Value.{Value}
use Rattle.bd_model.specs.declared.table.Value.TheVariants as value
use Rattle.bd_model.specs.Value.{memory_of, truth}
use Rattle.bd_sim.specs.declared.writes.Memories.{Memories}
use Rattle.bd_sim.specs.declared.writes.Kept.{Kept}
use Rattle.bd_sim.specs.declared.writes.Kept.TheVariants as kept
use Rattle.bd_sim.specs.inner.Writes.{zeros, chain_in, made_by, written, kept_value, Grows, IsMade}
use Rattle.bd_sim.specs.inner.Env.{env_view, IsMadeWhole}
use Rattle.bd_sim.specs.declared.value.Env as concrete

-- the memory at a write's place is the one that it makes of those before it, whatever comes after it
pub chain-written : (state given : List Value) (writes : List Write) (place : ℕ) (w : Write) → place < length writes → slice_index_or writes place w ≡ w → chain_in state given (made_by state given writes) (chain.Written place) ≡ written state given (made_by state given (take place writes)) w
chain-written state given writes place w within at =
    let front : List Write = take place writes in
    let rest : List Write = drop (place + 1) writes in
    let split : writes ≡ front ++ w ∷ rest =
    sym (take-append-drop place writes) ∙ ap (λ r. front ++ r) (drop_more writes place w within ∙ ap (λ x. x ∷ rest) at) in
    let size : length front ≡ place = length-take-le place writes (omega (arith, within)) in
    ap (λ ws. slice_index_or (made_by state given ws) place zeros) split
    ∙ ap (λ n. slice_index_or (made_by state given (front ++ w ∷ rest)) n zeros) (sym size)
    ∙ get-grown_at (written state given) front w rest zeros

-- a place past the writes is the memory of zeros
pub chain-past : (state given : List Value) (writes : List Write) (place : ℕ) → length writes ≤ place → chain_in state given (made_by state given writes) (chain.Written place) ≡ zeros
chain-past state given writes place past =
    get_or_past (made_by state given writes) place zeros (omega (arith, past, length-grown (written state given) [] writes))

-- one write more makes one memory more
pub chain-last : (state given : List Value) (writes : List Write) (w : Write) → chain_in state given (made_by state given (writes ++ w ∷ [])) (chain.Written (length writes)) ≡ written state given (made_by state given writes) w
chain-last state given writes w = get-grown_at (written state given) writes w [] zeros

-- and those before it stay
pub kept-stays : (m n : Memories) (w : Write) → n.state ≡ m.state → n.given ≡ m.given → n.writes.items ≡ m.writes.items ++ w ∷ [] → (k : Kept) → IsMade m k → IsMade n k × (kept_value n k ≡ kept_value m k)
kept-stays m n w s g is (kept.Scalar x) made = (tt, refl)
kept-stays m n w s g is (kept.Memory chain.Zeros) made = (tt, refl)
kept-stays m n w s g is (kept.Memory (chain.Entry i)) made = (tt, ap (λ xs. value.Memory (memory_of (slice_index_or xs.now i (truth false)))) s)
kept-stays m n w s g is (kept.Memory (chain.Given i)) made = (tt, ap (λ xs. value.Memory (memory_of (slice_index_or xs.now i (truth false)))) g)
kept-stays m n w s g is (kept.Memory (chain.Written place)) made = (
  omega (arith, made, ap length is, length-append m.writes.items (w ∷ [])),
  ap value.Memory
      (ap (λ ws. slice_index_or (made_by n.state.now n.given.now ws) place zeros) is
      ∙ ap (λ xs. slice_index_or (made_by xs.now n.given.now (m.writes.items ++ w ∷ [])) place zeros) s
      ∙ ap (λ xs. slice_index_or (made_by m.state.now xs.now (m.writes.items ++ w ∷ [])) place zeros) g
      ∙ get-grown_front (written m.state.now m.given.now) m.writes.items (w ∷ []) place zeros made),
)

values-grow : (m n : Memories) → Grows m n → (lets : List Kept) → All (IsMade m) lets → map (kept_value n) lets ≡ map (kept_value m) lets
values-grow m n grows [] all = refl
values-grow m n grows (k ∷ ks) all =
    ap (λ v. v ∷ map (kept_value n) ks) (grows.2 k (All-head (IsMade m) k ks all)).1
    ∙ ap (λ vs. kept_value m k ∷ vs) (values-grow m n grows ks (All-tail (IsMade m) k ks all))

-- so names stand for what they stood for
pub view-grows : (e : concrete.Env) (n : Memories) → Grows e.memories n → IsMadeWhole e → env_view (record e { memories = n }) ≡ env_view e
view-grows e n grows all =
    ap (λ s. record (env_view (record e { memories = n })) { state = s.now }) grows.0
    ∙ ap (λ g. record (env_view e) { locals = g.now ++ map (kept_value n) e.lets.items }) grows.1
    ∙ ap (λ vs. record (env_view e) { locals = e.memories.given.now ++ vs }) (values-grow e.memories n grows e.lets.items all)
