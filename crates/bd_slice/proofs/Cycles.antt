-- States of another case, followed through cycles.
use Rattle.std.proofs.Common.{◌≡◌, ℕ, zero, suc, ◌+◌, ◌<◌, ◌≤◌, List, [], ◌∷◌, ◌++◌, length, take, get_or, map, refl, sym, ap, subst, ◌∙◌, arith, add-one}
use Rattle.std.specs.List.{AllZip}
use Rattle.std.proofs.lemmas.List.{take_all, take_more}
use Rattle.bd_list.proofs.Grown.{grown-push}
use Rattle.bd_model.specs.ExprView.{expr_view}
use Rattle.bd_model.specs.DesignView.{MachineView, DesignView, local_view}
use Rattle.bd_model.specs.Cycle.{step, idle_inputs, flush_cycles, spec_steps}
use Rattle.bd_model.specs.Value.{value_of, let_value, let_values}
use Rattle.bd_model.specs.Fits.{ValuesFit, value_sort}
use Rattle.bd_model.specs.declared.design.Local.{Local}
use Rattle.bd_model.specs.declared.design.Entry.{Entry}
use Rattle.bd_model.specs.declared.table.Scalar.{Scalar}
use Rattle.bd_model.specs.declared.table.Table.{Table}
use Rattle.bd_model.specs.declared.table.Value.{Value}
use Rattle.bd_list.proofs.Pushed.{map-push}

-- one item more on both sides
pub AllZip-push : {A B : Type 0} → (R : A → B → Type 0) (xs : List A) (ys : List B) (x : A) (y : B) → AllZip R xs ys → R x y → AllZip R (xs ++ x ∷ []) (ys ++ y ∷ [])
AllZip-push R [] [] x y h here = (here, tt)
AllZip-push R [] (b ∷ ys) x y h here = absurd h
AllZip-push R (a ∷ xs) [] x y h here = absurd h
AllZip-push R (a ∷ xs) (b ∷ ys) x y h here = (h.0, AllZip-push R xs ys x y h.1 here)

pub AllZip-length : {A B : Type 0} → (R : A → B → Type 0) (xs : List A) (ys : List B) → AllZip R xs ys → length xs ≡ length ys
AllZip-length R [] [] h = refl
AllZip-length R [] (b ∷ ys) h = absurd h
AllZip-length R (a ∷ xs) [] h = absurd h
AllZip-length R (a ∷ xs) (b ∷ ys) h = ap suc (AllZip-length R xs ys h.1)

mapped_here : {X Y : Type 0} → (f : X → Y) (xs : List X) (i : ℕ) (d : X) → i < length xs → map f (take (i + 1) xs) ≡ map f (take i xs) ++ f (get_or xs i d) ∷ []
mapped_here f xs i d within = ap (map f) (take_more xs i d within) ∙ map-push f (take i xs) (get_or xs i d)

-- one item more, where the other list has one at its place
pub zip_more : {A X B : Type 0} → (R : A → B → Type 0) (done new : List A) (f : X → B) (xs : List X) (i : ℕ) (d : X) (x : A) → i < length xs → AllZip R done (map f (take i xs)) → new ≡ done ++ x ∷ [] → R x (f (get_or xs i d))
    → AllZip R new (map f (take (i + 1) xs))
zip_more R done new f xs i d x within before put here =
    let more = mapped_here f xs i d within in
    rw (put, more) (AllZip-push R done (map f (take i xs)) x (f (get_or xs i d)) before here)

-- the last flush cycle
pub flush_last : (n : ℕ) (m : MachineView) (interp : List Table) (s : List Value) → flush_cycles (suc n) m interp s ≡ step m interp (flush_cycles n m interp s) (idle_inputs m interp (flush_cycles n m interp s))
flush_last zero m interp s = refl
flush_last (suc n) m interp s = flush_last n m interp (step m interp s (idle_inputs m interp s))

pub flush_next : (n : ℕ) (m : MachineView) (interp : List Table) (s : List Value) → flush_cycles (n + 1) m interp s ≡ step m interp (flush_cycles n m interp s) (idle_inputs m interp (flush_cycles n m interp s))
flush_next n m interp s = let e : n + 1 ≡ suc n = rw add-one in ap (λ k. flush_cycles k m interp s) e ∙ flush_last n m interp s

-- one step of the specification more
pub spec_next : (n : ℕ) (d : DesignView) (interp : List Table) (a : List Value) → spec_steps (n + 1) d interp a ≡ step d.spec interp (spec_steps n d interp a) []
spec_next n d interp a = let e : n + 1 ≡ suc n = rw add-one in ap (λ k. spec_steps k d interp a) e

-- one let more
pub let_more : (interp : List Table) (state : List Value) (inputs : List Scalar) (ls : List Local) (i : ℕ) (l : Local) → i < length ls → l ≡ get_or ls i l
    → let_values interp state inputs (map local_view (take (i + 1) ls))
    ≡ let_values interp state inputs (map local_view (take i ls)) ++ value_of (record { interp = interp; state = state; inputs = inputs; locals = let_values interp state inputs (map local_view (take i ls)) }) (expr_view l.value) ∷ []
let_more interp state inputs ls i l within is =
    ap (λ xs. let_values interp state inputs xs) (mapped_here local_view ls i l within ∙ ap (λ y. map local_view (take i ls) ++ local_view y ∷ []) (sym is))
    ∙ grown-push (let_value interp state inputs) [] (map local_view (take i ls)) (local_view l)

-- two states that fit have entries of the same sorts
pub same_sorts : (entries : List Entry) (vs ws : List Value) (i : ℕ) (d : Value) → ValuesFit entries vs → ValuesFit entries ws → i < length vs → (i < length ws) × (value_sort (get_or ws i d) ≡ value_sort (get_or vs i d))
same_sorts [] [] ws i d f g within = absurd (omega (arith, within))
same_sorts [] (v ∷ vs) ws i d f g within = absurd f
same_sorts (e ∷ es) [] ws i d f g within = absurd f
same_sorts (e ∷ es) (v ∷ vs) [] i d f g within = absurd g
same_sorts (e ∷ es) (v ∷ vs) (w ∷ ws) zero d f g within = (omega arith, g.0 ∙ sym f.0)
same_sorts (e ∷ es) (v ∷ vs) (w ∷ ws) (suc i) d f g within =
    let rest = same_sorts es vs ws i d f.1 g.1 (omega (arith, within)) in (omega (arith, rest.0), rest.1)

-- one item more, where the item is the one at its place
pub zip_item : {A X B : Type 0} → (R : A → B → Type 0) (done new : List A) (f : X → B) (xs : List X) (i : ℕ) (x : X) (a : A) → i < length xs → x ≡ get_or xs i x → AllZip R done (map f (take i xs)) → new ≡ done ++ a ∷ [] → R a (f x)
    → AllZip R new (map f (take (i + 1) xs))
zip_item {A} {X} {B} R done new f xs i x a within is before put here =
    zip_more R done new f xs i x a within before put (subst (λ (z : X). R a (f z)) is here)

-- one item more of the front of a list
pub zip_take : {A B : Type 0} → (R : A → B → Type 0) (done new : List A) (ys : List B) (i : ℕ) (d : B) (a : A) → i < length ys → AllZip R done (take i ys) → new ≡ done ++ a ∷ [] → R a (get_or ys i d) → AllZip R new (take (i + 1) ys)
zip_take R done new ys i d a within before put here =
    let more = take_more ys i d within in rw (put, more) (AllZip-push R done (take i ys) a (get_or ys i d) before here)

pub zip_all : {A B : Type 0} → (R : A → B → Type 0) (done : List A) (ys : List B) (i : ℕ) → length ys ≤ i → AllZip R done (take i ys) → AllZip R done ys
zip_all R done ys i past h = rw (take_all i ys past) at h

-- two states or lists of inputs that fit are of one length
pub same_lengths : {X Y : Type 0} → (R : X → Y → Type 0) (xs : List X) (vs ws : List Y) → AllZip R xs vs → AllZip R xs ws → length ws ≡ length vs
same_lengths R xs vs ws f g = sym (AllZip-length R xs ws g) ∙ AllZip-length R xs vs f
