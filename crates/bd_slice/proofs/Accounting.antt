-- What the facts of a value of a run account for, from what is found of its expression.
use Rattle.std.proofs.Common.{◌≡◌, ℕ, zero, suc, ◌<◌, ◌≤◌, ◌+◌, Bool, true, false, List, [], ◌∷◌, ◌++◌, length, map, take, slice_get, Option, None, Some, refl, sym, ap, subst, ◌∙◌, arith, length-append, append_assoc, append-nil}
use Rattle.std.specs.Prelude.{slice_index_or, unwrap_or, option_map}
use Rattle.std.proofs.lemmas.List.{take_at, take_all}
use Rattle.std.proofs.lemmas.Option.{none-some, slice_get-get_or, slice_get-map}
use Rattle.std.proofs.lemmas.Bool.{false≢true}
use Rattle.bd_list.specs.Grown.{grown}
use Rattle.bd_list.proofs.Grown.{grown-append, get-grown_at, length-grown}
use Rattle.bd_model.specs.DesignView.{DesignView, MachineView, LocalView, PortView}
use Rattle.bd_model.specs.ExprView.{ExprView}
use Rattle.bd_model.specs.Cycle.{step}
use Rattle.bd_model.specs.Lawful.{IsLawful, IsLawfulPort, uses_input, input_flags}
use Rattle.std.specs.List.{AllByRecursion}
use Rattle.bd_model.specs.Value.{Env, env_of, value_of, let_value, scalar_of, truth}
use Rattle.bd_model.specs.declared.case.Case.{Case}
use Rattle.bd_model.specs.declared.table.Scalar.{Scalar}
use Rattle.bd_model.specs.declared.table.Value.{Value}
use Rattle.bd_model.proofs.NoInput.{value_of-whatever_inputs}
use Rattle.bd_slice.specs.Columns.{column_state}
use Rattle.bd_slice.specs.History.{HasColumn, HasCycle, moment_in}
use Rattle.bd_slice.specs.Reasons.{AllHold, IsFound, IsReason, is_given}
use Rattle.bd_slice.specs.Run.{state_at, inputs_in, let_values_in, lets_of, env_in, subject_value}
use Rattle.bd_slice.specs.inner.Accounts.{Accounts, IsFlushCycle, IsReasonFor, entry_in, entry_subject, env_after, let_subject, machine_in, part_of}
use Rattle.bd_slice.specs.inner.Found.{IsAt, Explained, env_at}
use Rattle.bd_slice.specs.inner.Leads.{LeadsTo}
use Rattle.bd_slice.specs.declared.finding.Found.{Found}
use Rattle.bd_slice.specs.declared.subject.Fact.{Fact}
use Rattle.bd_slice.specs.declared.subject.Finding.TheVariants as finding
use Rattle.bd_slice.specs.declared.finding.Here.{Here}
use Rattle.bd_slice.specs.declared.moment.Moment.{Moment}
use Rattle.bd_slice.specs.declared.place.Column.{Column}
use Rattle.bd_slice.specs.declared.place.Column.TheVariants as column
use Rattle.bd_slice.specs.declared.subject.Cycle.{Cycle}
use Rattle.bd_slice.specs.declared.subject.Cycle.TheVariants as cycle
use Rattle.bd_slice.specs.declared.subject.Subject.{Subject}
use Rattle.bd_slice.specs.declared.subject.Subject.TheVariants as subject
use Rattle.bd_slice.proofs.Cycles.{flush_next, spec_next}

-- ---- the front of lists
take_front_count : {X : Type 0} → (n : ℕ) (vs ws : List X) → length vs ≡ length ws → take (length (take n vs)) ws ≡ take n ws
take_front_count zero [] ws h = refl
take_front_count zero (v ∷ vs) ws h = refl
take_front_count (suc n) [] [] h = refl
take_front_count (suc n) [] (w ∷ ws) h = absurd (omega (arith, h))
take_front_count (suc n) (v ∷ vs) [] h = absurd (omega (arith, h))
take_front_count (suc n) (v ∷ vs) (w ∷ ws) h = ap (λ xs. w ∷ xs) (take_front_count n vs ws (omega (arith, h)))

some_same : {X : Type 0} → (x y : X) → Some x ≡ Some y → x ≡ y
some_same x y h = ap (λ o. unwrap_or o x) h

-- where an item stands
split_at : {X : Type 0} → (xs : List X) (i : ℕ) (x : X) → slice_get xs i ≡ Some x → (front : List X) × (rest : List X) × (xs ≡ front ++ x ∷ rest) × (length front ≡ i)
split_at [] i x h = absurd (none-some x h)
split_at (y ∷ ys) zero x h = ([], ys, ap (λ z. z ∷ ys) (some_same y x h), refl)
split_at (y ∷ ys) (suc i) x h =
    let s = split_at ys i x h in (y ∷ s.0, s.1, ap (λ zs. y ∷ zs) s.2, ap suc s.3)

-- values that are done stand first
grown_rest : {X Y : Type 0} → (f : List Y → X → Y) (done : List Y) (xs : List X) → (rest : List Y) × (grown f done xs ≡ done ++ rest)
grown_rest f done [] = ([], sym (append-nil done))
grown_rest f done (x ∷ xs) =
    let s = grown_rest f (done ++ f done x ∷ []) xs in (f done x ∷ s.0, s.1 ∙ append_assoc done (f done x ∷ []) s.0)

-- a value is that of its item after the values before it
grown_item : {X Y : Type 0} → (f : List Y → X → Y) (xs : List X) (i : ℕ) (x : X) (d : Y) → slice_get xs i ≡ Some x → slice_index_or (grown f [] xs) i d ≡ f (take i (grown f [] xs)) x
grown_item {X} {Y} f xs i x d h =
    let s = split_at xs i x h in
    let done : List Y = grown f [] s.0 in
    let size : length done ≡ i = omega (arith, length-grown f [] s.0, s.3) in
    let rest = grown_rest f done (x ∷ s.1) in
    let whole : grown f [] xs ≡ done ++ rest.0 = ap (grown f []) s.2 ∙ grown-append f [] s.0 (x ∷ s.1) ∙ rest.1 in
    let front : take i (grown f [] xs) ≡ done = ap (take i) whole ∙ take_at done rest.0 i size in
    ap (λ zs. slice_index_or (grown f [] zs) i d) s.2 ∙ ap (λ n. slice_index_or (grown f [] (s.0 ++ x ∷ s.1)) n d) (sym s.3) ∙ get-grown_at f s.0 x s.1 d ∙ ap (λ vs. f vs x) (sym front)

past_end : {X : Type 0} → (xs : List X) (i : ℕ) (d : X) → slice_get xs i ≡ None → slice_index_or xs i d ≡ d
past_end [] i d h = refl
past_end (x ∷ xs) zero d h = absurd (none-some x (sym h))
past_end (x ∷ xs) (suc i) d h = past_end xs i d h

past_length : {X Y : Type 0} → (xs : List X) (ys : List Y) (i : ℕ) → length xs ≡ length ys → slice_get ys i ≡ None → slice_get xs i ≡ None
past_length [] ys i e h = refl
past_length (x ∷ xs) [] i e h = absurd (omega (arith, e))
past_length (x ∷ xs) (y ∷ ys) zero e h = absurd (none-some y (sym h))
past_length (x ∷ xs) (y ∷ ys) (suc i) e h = past_length xs ys i (omega (arith, e)) h

mapped_item : {X Y : Type 0} → (f : X → Y) (xs : List X) (i : ℕ) (x : X) (d : Y) → slice_get xs i ≡ Some x → slice_index_or (map f xs) i d ≡ f x
mapped_item f [] i x d h = absurd (none-some x h)
mapped_item f (y ∷ ys) zero x d h = ap f (some_same y x h)
mapped_item f (y ∷ ys) (suc i) x d h = mapped_item f ys i x d h

mapped_past : {X Y : Type 0} → (f : X → Y) (xs : List X) (i : ℕ) (d : Y) → slice_get xs i ≡ None → slice_index_or (map f xs) i d ≡ d
mapped_past f [] i d h = refl
mapped_past f (y ∷ ys) zero d h = absurd (none-some y (sym h))
mapped_past f (y ∷ ys) (suc i) d h = mapped_past f ys i d h

-- ---- the lets of a cycle
pub count_lets : (d : DesignView) (o : Case) (which : Cycle) → length (let_values_in d o which) ≡ length (lets_of d which)
count_lets d o which = omega (arith, length-grown (let_value o.interp (state_at d o which) (inputs_in d o which)) [] (lets_of d which))

same_count : (d : DesignView) (c o : Case) (which : Cycle) → length (let_values_in d c which) ≡ length (let_values_in d o which)
same_count d c o which = count_lets d c which ∙ sym (count_lets d o which)

-- after all of its lets a cycle's names stand for what they do in it
pub all_lets : (d : DesignView) (o : Case) (which : Cycle) (count : ℕ) → count ≡ length (lets_of d which) → env_after d o which count ≡ env_in d o which
all_lets d o which count is =
    ap (λ (vs : List Value). record { interp = o.interp; state = state_at d o which; inputs = inputs_in d o which; locals = vs })
    (take_all count (let_values_in d o which) (omega (arith, is, count_lets d o which)))

pub let_at : (d : DesignView) (o : Case) (which : Cycle) (i : ℕ) (l : LocalView) → slice_get (lets_of d which) i ≡ Some l → slice_index_or (let_values_in d o which) i (truth false) ≡ value_of (env_after d o which i) l.value
let_at d o which i l h = grown_item (let_value o.interp (state_at d o which) (inputs_in d o which)) (lets_of d which) i l (truth false) h

pub let_past : (d : DesignView) (o : Case) (which : Cycle) (i : ℕ) → slice_get (lets_of d which) i ≡ None → slice_index_or (let_values_in d o which) i (truth false) ≡ truth false
let_past d o which i h = past_end (let_values_in d o which) i (truth false) (past_length (let_values_in d o which) (lets_of d which) i (count_lets d o which) h)

-- ---- what is found of an expression accounts for its value
pub accounts_item : (d : DesignView) (h : Here) (count : ℕ) (m : Env → Scalar) (f : Found) → h.moment.now ≡ moment_in d h.case.now h.cycle → h.lets.now ≡ take count h.moment.now.lets → Explained h m f
    → Accounts d h.case.now (λ o. m (env_after d o h.cycle count)) f
accounts_item d h count m f moment lets by =
    let values : List Value = let_values_in d h.case.now h.cycle in
    let front : h.lets.now ≡ take count values = lets ∙ ap (λ (x : Moment). take count x.lets) moment in
    let same : (o : Case) → take (length h.lets.now) (let_values_in d o h.cycle) ≡ take count (let_values_in d o h.cycle) =
    λ o. ap (λ (vs : List Value). take (length vs) (let_values_in d o h.cycle)) front ∙ take_front_count count values (let_values_in d o h.cycle) (same_count d h.case.now o h.cycle) in
    record {
      facts = by.holds d (record { moment = moment; lets = front ∙ sym (same h.case.now) });
      local = λ o all. ap (λ (vs : List Value). m (record { interp = o.interp; state = state_at d o h.cycle; inputs = inputs_in d o h.cycle; locals = vs })) (sym (same o)) ∙ by.local d o all;
    }

-- a value that is the same in each case rests on nothing
pub accounts_nothing : (d : DesignView) (c : Case) (m : Case → Scalar) (f : Found) → f.facts.items ≡ [] → ((o : Case) → m o ≡ f.value) → Accounts d c m f
accounts_nothing d c m f none same = record { facts = subst (AllHold d c) (sym none) tt; local = λ o all. same o }

-- the same value, said otherwise
pub accounts_same : (d : DesignView) (c : Case) (m n : Case → Scalar) (f : Found) → ((o : Case) → n o ≡ m o) → Accounts d c m f → Accounts d c n f
accounts_same d c m n f same by = record { facts = by.facts; local = λ o all. same o ∙ by.local o all }

-- so it is a reason
pub reason_of : (d : DesignView) (c : Case) (s : Subject) (f : Found) → Accounts d c (λ o. subject_value d o s) f → IsReasonFor d c s f
reason_of d c s f by = record { value = by.local c by.facts; facts = by.facts; local = λ given o all. by.local o all }

-- ---- what cycles lead to
pub led_to : (d : DesignView) (o : Case) (which : Cycle) (k : Column) → LeadsTo which k → column_state d o k ≡ step (machine_in d which) o.interp (state_at d o which) (inputs_in d o which)
led_to d o cycle.Case k h = ap (column_state d o) h
led_to d o (cycle.FlushBefore n) k h = ap (column_state d o) h ∙ flush_next n d.pipe o.interp o.state
led_to d o (cycle.FlushAfter n) k h = ap (column_state d o) h ∙ flush_next n d.pipe o.interp (step d.pipe o.interp o.state o.inputs)
led_to d o (cycle.Step n) k h = ap (column_state d o) h ∙ spec_next n d o.interp (column_state d o (column.Steps 0))
led_to d o cycle.Invariant k h = absurd h

-- the lets of a cycle that leads somewhere are its machine's
pub lets_leading : (d : DesignView) (which : Cycle) (k : Column) → LeadsTo which k → (machine_in d which).locals ≡ lets_of d which
lets_leading d cycle.Case k h = refl
lets_leading d (cycle.FlushBefore n) k h = refl
lets_leading d (cycle.FlushAfter n) k h = refl
lets_leading d (cycle.Step n) k h = refl
lets_leading d cycle.Invariant k h = absurd h

-- an entry in a column is its next value in the cycle that ends there
pub entry_next : (d : DesignView) (o : Case) (which : Cycle) (k : Column) (count i : ℕ) (e : ExprView) → LeadsTo which k → count ≡ length (lets_of d which) → slice_get (machine_in d which).nexts i ≡ Some e
    → slice_index_or (column_state d o k) i (truth false) ≡ value_of (env_after d o which count) e
entry_next d o which k count i e leads is h =
    let env : (machine_in d which).locals ≡ lets_of d which = lets_leading d which k leads in
    ap (λ (vs : List Value). slice_index_or vs i (truth false)) (led_to d o which k leads)
    ∙ mapped_item (value_of (env_of (machine_in d which).locals o.interp (state_at d o which) (inputs_in d o which))) (machine_in d which).nexts i e (truth false) h
    ∙ ap (λ (ls : List LocalView). value_of (env_of ls o.interp (state_at d o which) (inputs_in d o which)) e) env
    ∙ ap (λ (v : Env). value_of v e) (sym (all_lets d o which count is))

pub entry_past : (d : DesignView) (o : Case) (which : Cycle) (k : Column) (i : ℕ) → LeadsTo which k → slice_get (machine_in d which).nexts i ≡ None → slice_index_or (column_state d o k) i (truth false) ≡ truth false
entry_past d o which k i leads h =
    ap (λ (vs : List Value). slice_index_or vs i (truth false)) (led_to d o which k leads)
    ∙ mapped_past (value_of (env_of (machine_in d which).locals o.interp (state_at d o which) (inputs_in d o which))) (machine_in d which).nexts i (truth false) h

-- ---- the inputs of a flush cycle
idle_at : (d : DesignView) (o : Case) (which : Cycle) (i : ℕ) → IsFlushCycle which → inputs_in d o which ≡ map (λ (p : PortView). scalar_of (value_of (env_of d.pipe.locals o.interp (state_at d o which) []) p.idle)) d.pipe.ports
idle_at d o (cycle.FlushBefore n) i h = refl
idle_at d o (cycle.FlushAfter n) i h = refl
idle_at d o cycle.Case i h = absurd h
idle_at d o (cycle.Step n) i h = absurd h
idle_at d o cycle.Invariant i h = absurd h

idle_lets : (d : DesignView) (which : Cycle) → IsFlushCycle which → lets_of d which ≡ d.pipe.locals
idle_lets d (cycle.FlushBefore n) h = refl
idle_lets d (cycle.FlushAfter n) h = refl
idle_lets d cycle.Case h = absurd h
idle_lets d (cycle.Step n) h = absurd h
idle_lets d cycle.Invariant h = absurd h

pub input_idle : (d : DesignView) (o : Case) (which : Cycle) (count i : ℕ) (p : PortView) → IsFlushCycle which → count ≡ length d.pipe.locals → slice_get d.pipe.ports i ≡ Some p → uses_input (input_flags d.pipe.locals) p.idle ≡ false
    → slice_index_or (inputs_in d o which) i (Scalar.Bool false) ≡ scalar_of (value_of (env_after d o which count) p.idle)
input_idle d o which count i p flushes is h no_input =
    let lets : lets_of d which ≡ d.pipe.locals = idle_lets d which flushes in
    let size : count ≡ length (lets_of d which) = is ∙ ap length (sym lets) in
    ap (λ (xs : List Scalar). slice_index_or xs i (Scalar.Bool false)) (idle_at d o which i flushes)
    ∙ mapped_item (λ (p : PortView). scalar_of (value_of (env_of d.pipe.locals o.interp (state_at d o which) []) p.idle)) d.pipe.ports i p (Scalar.Bool false) h
    ∙ ap scalar_of (value_of-whatever_inputs d.pipe.locals o.interp (state_at d o which) [] (inputs_in d o which) p.idle no_input
    ∙ ap (λ (ls : List LocalView). value_of (env_of ls o.interp (state_at d o which) (inputs_in d o which)) p.idle) (sym lets)
    ∙ ap (λ (v : Env). value_of v p.idle) (sym (all_lets d o which count size)))

pub input_past : (d : DesignView) (o : Case) (which : Cycle) (i : ℕ) → IsFlushCycle which → slice_get d.pipe.ports i ≡ None → slice_index_or (inputs_in d o which) i (Scalar.Bool false) ≡ Scalar.Bool false
input_past d o which i flushes h =
    ap (λ (xs : List Scalar). slice_index_or xs i (Scalar.Bool false)) (idle_at d o which i flushes)
    ∙ mapped_past (λ (p : PortView). scalar_of (value_of (env_of d.pipe.locals o.interp (state_at d o which) []) p.idle)) d.pipe.ports i (Scalar.Bool false) h

-- ---- what is taken over where the specification begins
pub entry_seen : (d : DesignView) (o : Case) (i place : ℕ) → slice_get d.visible i ≡ Some place
    → slice_index_or (column_state d o (column.Steps 0)) i (truth false) ≡ slice_index_or (column_state d o (column.Before d.flush)) place (truth false)
entry_seen d o i place h = mapped_item (λ (j : ℕ). slice_index_or (column_state d o (column.Before d.flush)) j (truth false)) d.visible i place (truth false) h

pub entry_unseen : (d : DesignView) (o : Case) (i : ℕ) → slice_get d.visible i ≡ None → slice_index_or (column_state d o (column.Steps 0)) i (truth false) ≡ truth false
entry_unseen d o i h = mapped_past (λ (j : ℕ). slice_index_or (column_state d o (column.Before d.flush)) j (truth false)) d.visible i (truth false) h

-- ---- so these are reasons
let_part : (d : DesignView) (o : Case) (which : Cycle) (i : ℕ) (part : Option ℕ) → subject_value d o (let_subject which i part) ≡ part_of part (slice_index_or (let_values_in d o which) i (truth false))
let_part d o which i None = refl
let_part d o which i (Some a) = refl

pub let_reason : (d : DesignView) (c : Case) (which : Cycle) (i : ℕ) (part : Option ℕ) (l : LocalView) (e : ExprView) (f : Found) → slice_get (lets_of d which) i ≡ Some l → l.value ≡ e
    → Accounts d c (λ o. part_of part (value_of (env_after d o which i) e)) f → IsReasonFor d c (let_subject which i part) f
let_reason d c which i part l e f at is by =
    reason_of d c (let_subject which i part) f (accounts_same d c (λ o. part_of part (value_of (env_after d o which i) e)) (λ o. subject_value d o (let_subject which i part)) f
    (λ o. let_part d o which i part ∙ ap (part_of part) (let_at d o which i l at ∙ ap (value_of (env_after d o which i)) is)) by)

pub no_let_reason : (d : DesignView) (c : Case) (which : Cycle) (i : ℕ) (part : Option ℕ) (f : Found) → slice_get (lets_of d which) i ≡ None → f.facts.items ≡ [] → f.value ≡ part_of part (truth false) → IsReasonFor d c (let_subject which i part) f
no_let_reason d c which i part f past none is =
    reason_of d c (let_subject which i part) f (accounts_nothing d c (λ o. subject_value d o (let_subject which i part)) f none (λ o. let_part d o which i part ∙ ap (part_of part) (let_past d o which i past) ∙ sym is))

entry_part : (d : DesignView) (o : Case) (k : Column) (i : ℕ) (part : Option ℕ) → subject_value d o (entry_subject k i part) ≡ entry_in d o k i part
entry_part d o k i None = refl
entry_part d o k i (Some a) = refl

pub entry_reason : (d : DesignView) (c : Case) (k : Column) (i : ℕ) (part : Option ℕ) (f : Found) → Accounts d c (λ o. entry_in d o k i part) f → IsReasonFor d c (entry_subject k i part) f
entry_reason d c k i part f by = reason_of d c (entry_subject k i part) f (accounts_same d c (λ o. entry_in d o k i part) (λ o. subject_value d o (entry_subject k i part)) f (λ o. entry_part d o k i part) by)

given_entry : (i : ℕ) (part : Option ℕ) → is_given (entry_subject (column.Before 0) i part) ≡ true
given_entry i None = refl
given_entry i (Some a) = refl

-- the case's own
pub given_reason : (d : DesignView) (c : Case) (s : Subject) (f : Found) → is_given s ≡ true → f.facts.items ≡ [] → subject_value d c s ≡ f.value → IsReasonFor d c s f
given_reason d c s f given none is = record {
  value = is;
  facts = subst (AllHold d c) (sym none) tt;
  local = λ not o all. absurd (false≢true (sym not ∙ given));
}

pub given_entry_reason : (d : DesignView) (c : Case) (k : Column) (i : ℕ) (part : Option ℕ) (f : Found) → k ≡ column.Before 0 → f.facts.items ≡ [] → f.value ≡ part_of part (slice_index_or c.state i (truth false)) → IsReasonFor d c (entry_subject k i part) f
given_entry_reason d c k i part f first none is =
    subst (λ (j : Column). IsReasonFor d c (entry_subject j i part) f) (sym first) (given_reason d c (entry_subject (column.Before 0) i part) f (given_entry i part) none (entry_part d c (column.Before 0) i part ∙ sym is))

pub next_accounts : (d : DesignView) (c : Case) (which : Cycle) (k : Column) (count i : ℕ) (part : Option ℕ) (e : ExprView) (f : Found) → LeadsTo which k → count ≡ length (lets_of d which) → slice_get (machine_in d which).nexts i ≡ Some e
    → Accounts d c (λ o. part_of part (value_of (env_after d o which count) e)) f → Accounts d c (λ o. entry_in d o k i part) f
next_accounts d c which k count i part e f leads is at by =
    accounts_same d c (λ o. part_of part (value_of (env_after d o which count) e)) (λ o. entry_in d o k i part) f (λ o. ap (part_of part) (entry_next d o which k count i e leads is at)) by

pub no_next_accounts : (d : DesignView) (c : Case) (which : Cycle) (k : Column) (i : ℕ) (part : Option ℕ) (f : Found) → LeadsTo which k → slice_get (machine_in d which).nexts i ≡ None → f.facts.items ≡ [] → f.value ≡ part_of part (truth false)
    → Accounts d c (λ o. entry_in d o k i part) f
no_next_accounts d c which k i part f leads past none is =
    accounts_nothing d c (λ o. entry_in d o k i part) f none (λ o. ap (part_of part) (entry_past d o which k i leads past) ∙ sym is)

pub idle_reason : (d : DesignView) (c : Case) (which : Cycle) (count i : ℕ) (p : PortView) (e : ExprView) (f : Found) → IsLawful d → IsFlushCycle which → count ≡ length d.pipe.locals → slice_get d.pipe.ports i ≡ Some p → p.idle ≡ e
    → Accounts d c (λ o. scalar_of (value_of (env_after d o which count) e)) f → IsReasonFor d c (subject.Input which i) f
idle_reason d c which count i p e f lawful flushes is at same by =
    reason_of d c (subject.Input which i) f (accounts_same d c (λ o. scalar_of (value_of (env_after d o which count) e)) (λ o. subject_value d o (subject.Input which i)) f
    (λ o. input_idle d o which count i p flushes is at (port_at d.pipe.ports i p lawful.ports at) ∙ ap (λ x. scalar_of (value_of (env_after d o which count) x)) same) by)
  where
    port_at : (ps : List PortView) (i : ℕ) (p : PortView) → AllByRecursion (IsLawfulPort d) ps → slice_get ps i ≡ Some p → uses_input (input_flags d.pipe.locals) p.idle ≡ false
    port_at [] i p h at = absurd (none-some p at)
    port_at (q ∷ ps) zero p h at = ap (λ (x : PortView). uses_input (input_flags d.pipe.locals) x.idle) (sym (some_same q p at)) ∙ h.0.no_input
    port_at (q ∷ ps) (suc i) p h at = port_at ps i p h.1 at

pub no_idle_reason : (d : DesignView) (c : Case) (which : Cycle) (i : ℕ) (f : Found) → IsFlushCycle which → slice_get d.pipe.ports i ≡ None → f.facts.items ≡ [] → f.value ≡ Scalar.Bool false → IsReasonFor d c (subject.Input which i) f
no_idle_reason d c which i f flushes past none is =
    reason_of d c (subject.Input which i) f (accounts_nothing d c (λ o. subject_value d o (subject.Input which i)) f none (λ o. input_past d o which i flushes past ∙ sym is))

-- an input where a cycle has none
pub no_input_reason : (d : DesignView) (c : Case) (which : Cycle) (i : ℕ) (f : Found) → ((o : Case) → inputs_in d o which ≡ []) → f.facts.items ≡ [] → f.value ≡ Scalar.Bool false → IsReasonFor d c (subject.Input which i) f
no_input_reason d c which i f nothing none is =
    reason_of d c (subject.Input which i) f (accounts_nothing d c (λ o. subject_value d o (subject.Input which i)) f none (λ o. ap (λ (xs : List Scalar). slice_index_or xs i (Scalar.Bool false)) (nothing o) ∙ sym is))

pub invariant_reason : (d : DesignView) (c : Case) (count : ℕ) (f : Found) → count ≡ length d.inv_locals → Accounts d c (λ o. scalar_of (value_of (env_after d o cycle.Invariant count) d.inv)) f → IsReasonFor d c subject.Invariant f
invariant_reason d c count f is by =
    reason_of d c subject.Invariant f (accounts_same d c (λ o. scalar_of (value_of (env_after d o cycle.Invariant count) d.inv)) (λ o. subject_value d o subject.Invariant) f
    (λ o. ap (λ (v : Env). scalar_of (value_of v d.inv)) (sym (all_lets d o cycle.Invariant count is))) by)

-- what is taken over rests on the entry that is seen
pub seen_accounts : (d : DesignView) (c : Case) (i place : ℕ) (part : Option ℕ) (s : Subject) (x : Fact) (f : Found) → slice_get d.visible i ≡ Some place → s ≡ entry_subject (column.Before d.flush) place part
    → f.value ≡ entry_in d c (column.Before d.flush) place part → x.finding ≡ finding.Rests s f.value → f.facts.items ≡ x ∷ [] → Accounts d c (λ o. entry_in d o (column.Steps 0) i part) f
seen_accounts d c i place part s x f at named is told one =
    let same : (o : Case) → entry_in d o (column.Steps 0) i part ≡ subject_value d o s =
    λ o. ap (part_of part) (entry_seen d o i place at) ∙ sym (entry_part d o (column.Before d.flush) place part) ∙ ap (subject_value d o) (sym named) in
    record {
      facts = subst (AllHold d c) (sym one) (subst (IsFound d c) (sym told) (ap (subject_value d c) named ∙ entry_part d c (column.Before d.flush) place part ∙ sym is), tt);
      local = λ o all. same o ∙ subst (IsFound d o) told (subst (AllHold d o) one all).0;
    }

pub unseen_accounts : (d : DesignView) (c : Case) (i : ℕ) (part : Option ℕ) (f : Found) → slice_get d.visible i ≡ None → f.facts.items ≡ [] → f.value ≡ part_of part (truth false) → Accounts d c (λ o. entry_in d o (column.Steps 0) i part) f
unseen_accounts d c i part f past none is =
    accounts_nothing d c (λ o. entry_in d o (column.Steps 0) i part) f none (λ o. ap (part_of part) (entry_unseen d o i past) ∙ sym is)

-- ---- what a list has at a place, as a look-up says it
pub got : {X : Type 0} → (xs : List X) (i : ℕ) (x : X) → i < length xs → x ≡ slice_index_or xs i x → slice_get xs i ≡ Some x
got xs i x within is = slice_get-get_or xs i x within ∙ ap Some (sym is)

pub got_view : {X Y : Type 0} → (v : X → Y) (xs : List X) (ys : List Y) (i : ℕ) (x : X) → map v xs ≡ ys → slice_get xs i ≡ Some x → slice_get ys i ≡ Some (v x)
got_view v xs ys i x is h = ap (λ zs. slice_get zs i) (sym is) ∙ slice_get-map v xs i ∙ ap (option_map v) h

pub gone_view : {X Y : Type 0} → (v : X → Y) (xs : List X) (ys : List Y) (i : ℕ) → map v xs ≡ ys → slice_get xs i ≡ None → slice_get ys i ≡ None
gone_view v xs ys i is h = ap (λ zs. slice_get zs i) (sym is) ∙ slice_get-map v xs i ∙ ap (option_map v) h

length_mapped : {X Y : Type 0} → (v : X → Y) (xs : List X) → length (map v xs) ≡ length xs
length_mapped v [] = refl
length_mapped v (x ∷ xs) = ap suc (length_mapped v xs)

pub view_count : {X Y : Type 0} → (v : X → Y) (xs : List X) (ys : List Y) (n : ℕ) → n ≡ length xs → map v xs ≡ ys → n ≡ length ys
view_count v xs ys n is view = is ∙ sym (length_mapped v xs) ∙ ap length view

-- a cycle that leads to a state of the diagram is one of the run
pub has_led : (d : DesignView) (which : Cycle) (k : Column) → LeadsTo which k → HasColumn d k → HasCycle d which
has_led d cycle.Case k h has = tt
has_led d (cycle.FlushBefore n) k h has = let at : n + 1 ≤ d.flush = subst (HasColumn d) h has in omega (arith, at)
has_led d (cycle.FlushAfter n) k h has = let at : n + 1 ≤ d.flush = subst (HasColumn d) h has in omega (arith, at)
has_led d (cycle.Step n) k h has = let at : n + 1 ≤ d.steps = subst (HasColumn d) h has in omega (arith, at)
has_led d cycle.Invariant k h has = tt
