-- What the names of a machine file mean, once all its items are declared and no name is declared twice.
use Rattle.std.proofs.Common.{◌≡◌, ⊎_elim, inl, inr, ℕ, ◌+◌, ◌≤◌, Bool, true, false, cond, List, [], ◌∷◌, ◌++◌, length, Option, Some, None, refl, ap, sym, ◌∙◌, subst, arith, length-append, append_assoc}
use Rattle.std.specs.Prelude.{◌⊎◌, ◌==◌, slice_get, fold}
use Rattle.std.specs.List.{filter_map, cons_option, AllByRecursion}
use Rattle.std.proofs.lemmas.Bool.Decides.{nat_tests}
use Rattle.std.proofs.lemmas.List.{append-nil}
use Rattle.bd_model.specs.declared.design.Sort.{Sort}
use Rattle.bd_model.specs.declared.design.Sort.TheVariants as sorts
use Rattle.bd_model.specs.declared.design.Entry as entry
use Rattle.bd_model.specs.declared.design.Symbol as symbol
use Rattle.bd_model.specs.Name.{IsName}
use Rattle.bd_syntax.proofs.Results.{split_and}
use Rattle.bd_syntax.specs.WellFormed.{HasParts}
use Rattle.bd_syntax.specs.Words.{same_text}
use Rattle.bd_syntax.specs.Forms.{ItemView, latch_item, memory_item, input_item, function_item, predicate_item, let_item, next_item, flush_item, steps_item, exact_item, distinct_item}
use Rattle.bd_syntax.specs.declared.form.Spot.{Spot}
use Rattle.bd_typer.specs.declared.names.Meaning.{Meaning}
use Rattle.bd_typer.specs.declared.names.Meaning.TheVariants.{Entry, Input, Symbol, Local, Later}
use Rattle.bd_typer.specs.Across.{agrees, same_truth}
use Rattle.bd_typer.specs.Declarations.{declared_name}
use Rattle.bd_typer.specs.NameMap.{NameMap, declare, Scope, with_entry, with_input, with_symbol, with_item}
use Rattle.bd_typer.specs.Repeats.{NameSet, with_text, repeated}
use Rattle.bd_typer.proofs.Lists.{same_text-true, same_text-same, get-left, get-end, get-push}

-- an input as a name with its sort
abbrev pub input_entry : ItemView → Option entry.Entry
input_entry (input_item offset name sort idle) = Some (record { name = name.text; sort = sort })
input_entry _ = None

-- the other file has a function or predicate alike, or none of the name
abbrev pub Agrees : NameMap → ItemView → Type 0
Agrees others (function_item offset name arity) = agrees arity false (others name.text) ≡ true
Agrees others (predicate_item offset name arity) = agrees arity true (others name.text) ≡ true
Agrees others _ = Unit {0}

abbrev pub LetIsLater : NameMap → ItemView → Type 0
LetIsLater names (let_item offset name sort value) = names name.text ≡ Some Later
LetIsLater names _ = Unit {0}

abbrev entry_of : List ℕ → Sort → entry.Entry
entry_of name sort = record { name = name; sort = sort }

abbrev symbol_of : List ℕ → ℕ → Bool → symbol.Symbol
symbol_of name arity predicate = record { name = name; arity = arity; predicate = predicate }

-- what a meaning says of what is declared
abbrev pub Stands : List entry.Entry → List entry.Entry → List symbol.Symbol → List ℕ → Meaning → Type 0
Stands entries inputs symbols name (Entry n s) = slice_get entries n ≡ Some (record { name = name; sort = s })
Stands entries inputs symbols name (Input n s) = slice_get inputs n ≡ Some (record { name = name; sort = s })
Stands entries inputs symbols name (Symbol n a p) = slice_get symbols n ≡ Some (record { name = name; arity = a; predicate = p })
Stands entries inputs symbols name (Local n s u) = ⊥
Stands entries inputs symbols name Later = Unit {0}

-- a symbol takes at most 8 words
abbrev pub IsSmall : Meaning → Type 0
IsSmall (Symbol n a p) = a ≤ 8
IsSmall _ = Unit {0}

-- names and what is declared go together; first are the symbols of the other file
pub record IsScope (others : NameMap) (first : List symbol.Symbol) (names : NameMap) (entries inputs : List entry.Entry) (symbols : List symbol.Symbol) (seen : NameSet) : Type 0 where
  pub back : (q : List ℕ) (m : Meaning) → names q ≡ Some m → Stands entries inputs symbols q m
  pub entries_named : (n : ℕ) (e : entry.Entry) → slice_get entries n ≡ Some e → names e.name ≡ Some (Entry n e.sort)
  pub inputs_named : (n : ℕ) (e : entry.Entry) → slice_get inputs n ≡ Some e → names e.name ≡ Some (Input n e.sort)
  pub symbols_named : (n : ℕ) (y : symbol.Symbol) → slice_get symbols n ≡ Some y
      → (slice_get first n ≡ Some y) ⊎ ((names y.name ≡ Some (Symbol n y.arity y.predicate)) × (others y.name ≡ None))
  pub kept : (n : ℕ) (y : symbol.Symbol) → slice_get first n ≡ Some y → slice_get symbols n ≡ Some y
  pub seen_names : (q : List ℕ) (m : Meaning) → names q ≡ Some m → seen q ≡ true
  pub well : (q : List ℕ) (m : Meaning) → names q ≡ Some m → IsName q × IsSmall m

-- one more name, which is new
module _ {others : NameMap} {first : List symbol.Symbol} {names : NameMap} {entries inputs : List entry.Entry} {symbols : List symbol.Symbol} {seen : NameSet}
    (ok : IsScope others first names entries inputs symbols seen) (name : List ℕ) (m : Meaning) (new : seen name ≡ false) where
  -- it isn't one of those before it
  differs : (q : List ℕ) (k : Meaning) → names q ≡ Some k → same_text name q ≡ false
  differs q k h = by_word (same_text name q) refl where
    by_word : (b : Bool) → same_text name q ≡ b → same_text name q ≡ false
    by_word false e = e
    by_word true e =
        let same : name ≡ q = same_text-true name q e in
        let there : seen q ≡ true = ok.seen_names q k h in
        let gone : seen q ≡ false = subst (λ t. seen t ≡ false) same new in
        absurd (cc (there, gone))

  stays : (q : List ℕ) (k : Meaning) → names q ≡ Some k → declare names name m q ≡ Some k
  stays q k h = rw (differs q k h) h

  found : declare names name m name ≡ Some m
  found = rw (same_text-same name) refl

  -- what is found is the new one, or one before
  one_of : (q : List ℕ) (k : Meaning) → declare names name m q ≡ Some k → ((name ≡ q) × (m ≡ k)) ⊎ (names q ≡ Some k)
  one_of q k h = by_word (same_text name q) refl h where
    by_word : (b : Bool) → same_text name q ≡ b → cond b (Some m) (names q) ≡ Some k → ((name ≡ q) × (m ≡ k)) ⊎ (names q ≡ Some k)
    by_word true e h = inl (same_text-true name q e, cc h)
    by_word false e h = inr h

  seen_more : (q : List ℕ) (k : Meaning) → declare names name m q ≡ Some k → with_text seen name q ≡ true
  seen_more q k h = ⊎_elim
      (λ p. subst (λ t. with_text seen name t ≡ true) p.0 (rw (same_text-same name) refl))
      (λ (p : names q ≡ Some k). rw (differs q k p) (ok.seen_names q k p))
      (one_of q k h)

  module _ (entries' inputs' : List entry.Entry) (symbols' : List symbol.Symbol)
      (more_entries : (n : ℕ) (e : entry.Entry) → slice_get entries n ≡ Some e → slice_get entries' n ≡ Some e)
      (more_inputs : (n : ℕ) (e : entry.Entry) → slice_get inputs n ≡ Some e → slice_get inputs' n ≡ Some e)
      (more_symbols : (n : ℕ) (y : symbol.Symbol) → slice_get symbols n ≡ Some y → slice_get symbols' n ≡ Some y)
      (entry_or : (n : ℕ) (e : entry.Entry) → slice_get entries' n ≡ Some e → (slice_get entries n ≡ Some e) ⊎ ((name ≡ e.name) × (m ≡ Entry n e.sort)))
      (input_or : (n : ℕ) (e : entry.Entry) → slice_get inputs' n ≡ Some e → (slice_get inputs n ≡ Some e) ⊎ ((name ≡ e.name) × (m ≡ Input n e.sort)))
      (symbol_or : (n : ℕ) (y : symbol.Symbol) → slice_get symbols' n ≡ Some y → (slice_get symbols n ≡ Some y) ⊎ ((name ≡ y.name) × (m ≡ Symbol n y.arity y.predicate) × (others name ≡ None)))
      (stands : Stands entries' inputs' symbols' name m) (is : IsName name) (small : IsSmall m) where
    stands_more : (q : List ℕ) (k : Meaning) → Stands entries inputs symbols q k → Stands entries' inputs' symbols' q k
    stands_more q (Entry n s) h = more_entries n _ h
    stands_more q (Input n s) h = more_inputs n _ h
    stands_more q (Symbol n a p) h = more_symbols n _ h
    stands_more q (Local n s u) h = h
    stands_more q Later h = tt

    named : (q : List ℕ) (k : Meaning) → name ≡ q → m ≡ k → declare names name m q ≡ Some k
    named q k e f = subst (λ t. declare names name m t ≡ Some k) e (found ∙ ap Some f)

    pub declared : IsScope others first (declare names name m) entries' inputs' symbols' (with_text seen name)
    declared = record {
      back = λ q k h. ⊎_elim
          (λ p. subst (λ t. Stands entries' inputs' symbols' t k) p.0 (subst (Stands entries' inputs' symbols' name) p.1 stands))
          (λ (p : names q ≡ Some k). stands_more q k (ok.back q k p))
          (one_of q k h);
      entries_named = λ n e h. ⊎_elim (λ p. stays e.name _ (ok.entries_named n e p)) (λ p. named e.name _ p.0 p.1) (entry_or n e h);
      inputs_named = λ n e h. ⊎_elim (λ p. stays e.name _ (ok.inputs_named n e p)) (λ p. named e.name _ p.0 p.1) (input_or n e h);
      symbols_named = λ n y h. ⊎_elim
          (λ p. ⊎_elim (λ q. inl q) (λ q. inr (stays y.name _ q.0, q.1)) (ok.symbols_named n y p))
          (λ p. inr (named y.name _ p.0 p.1, subst (λ t. others t ≡ None) p.0 p.2))
          (symbol_or n y h);
      kept = λ n y h. more_symbols n y (ok.kept n y h);
      seen_names = seen_more;
      well = λ q k h. ⊎_elim
          (λ p. (subst IsName p.0 is, subst IsSmall p.1 small))
          (λ (p : names q ≡ Some k). ok.well q k p)
          (one_of q k h);
    }

-- the symbols of the other file stand among the first
abbrev pub OthersStand : NameMap → List symbol.Symbol → Type 0
OthersStand others first = (q : List ℕ) (n a : ℕ) (p : Bool) → others q ≡ Some (Symbol n a p) → slice_get first n ≡ Some (record { name = q; arity = a; predicate = p })

pub record ScopeIs (others : NameMap) (first : List symbol.Symbol) (scope : Scope) (inputs : List entry.Entry) (seen : NameSet) : Type 0 where
  pub scope-is : IsScope others first scope.names scope.entries inputs scope.symbols seen
  pub count : scope.inputs ≡ length inputs

same_truth-true : (a b : Bool) → same_truth a b ≡ true → a ≡ b
same_truth-true true true h = refl
same_truth-true true false h = absurd (cc h)
same_truth-true false true h = absurd (cc h)
same_truth-true false false h = refl

module _ (others : NameMap) (first : List symbol.Symbol) (stand : OthersStand others first) (scope : Scope) (inputs : List entry.Entry) (seen : NameSet) (ok : ScopeIs others first scope inputs seen) (name : List ℕ) (new : seen name ≡ false) (is-name : IsName name) where
  entry_ok : (sort : Sort) → ScopeIs others first (with_entry scope name sort) inputs (with_text seen name)
  entry_ok sort = record {
    scope-is = declared ok.scope-is name (Entry (length scope.entries) sort) new (scope.entries ++ entry_of name sort ∷ []) inputs scope.symbols
        (λ n e h. get-left scope.entries (entry_of name sort ∷ []) n e h) (λ n e h. h) (λ n y h. h)
        (λ n e h. ⊎_elim (λ p. inl p) (λ p. let s : sort ≡ e.sort = ap (λ (x : entry.Entry). x.sort) p.1 in inr (ap (λ (x : entry.Entry). x.name) p.1, cc (p.0, s))) (get-push scope.entries (entry_of name sort) e n h))
        (λ n e h. inl h) (λ n y h. inl h) (get-end scope.entries (entry_of name sort)) is-name tt;
    count = ok.count;
  }

  input_ok : (sort : Sort) → ScopeIs others first (with_input scope name sort) (inputs ++ entry_of name sort ∷ []) (with_text seen name)
  input_ok sort =
      let number : Input (length inputs) sort ≡ Input scope.inputs sort = ap (λ n. Input n sort) (sym ok.count) in
      record {
        scope-is = subst (λ m. IsScope others first (declare scope.names name m) scope.entries (inputs ++ entry_of name sort ∷ []) scope.symbols (with_text seen name)) number
            (declared ok.scope-is name (Input (length inputs) sort) new scope.entries (inputs ++ entry_of name sort ∷ []) scope.symbols
            (λ n e h. h) (λ n e h. get-left inputs (entry_of name sort ∷ []) n e h) (λ n y h. h)
            (λ n e h. inl h)
            (λ n e h. ⊎_elim (λ p. inl p) (λ p. let s : sort ≡ e.sort = ap (λ (x : entry.Entry). x.sort) p.1 in inr (ap (λ (x : entry.Entry). x.name) p.1, cc (p.0, s))) (get-push inputs (entry_of name sort) e n h))
            (λ n y h. inl h) (get-end inputs (entry_of name sort)) is-name tt);
        count = omega (arith, ok.count, length-append inputs (entry_of name sort ∷ []));
      }

  later_ok : ScopeIs others first (record scope { names = declare scope.names name Later }) inputs (with_text seen name)
  later_ok = record {
    scope-is = declared ok.scope-is name Later new scope.entries inputs scope.symbols
        (λ n e h. h) (λ n e h. h) (λ n y h. h) (λ n e h. inl h) (λ n e h. inl h) (λ n y h. inl h) tt is-name tt;
    count = ok.count;
  }

  symbol_ok : (arity : ℕ) (predicate : Bool) → arity ≤ 8 → (o : Option Meaning) → others name ≡ o → agrees arity predicate o ≡ true → ScopeIs others first (with_symbol scope name arity predicate o) inputs (with_text seen name)
  symbol_ok arity predicate small None is h = record {
    scope-is = declared ok.scope-is name (Symbol (length scope.symbols) arity predicate) new scope.entries inputs (scope.symbols ++ symbol_of name arity predicate ∷ [])
        (λ n e h. h) (λ n e h. h) (λ n y h. get-left scope.symbols (symbol_of name arity predicate ∷ []) n y h)
        (λ n e h. inl h) (λ n e h. inl h)
        (λ n y h. ⊎_elim (λ p. inl p)
        (λ p. let a : arity ≡ y.arity = ap (λ (x : symbol.Symbol). x.arity) p.1 in let b : predicate ≡ y.predicate = ap (λ (x : symbol.Symbol). x.predicate) p.1 in
        inr (ap (λ (x : symbol.Symbol). x.name) p.1, cc (p.0, a, b), is))
        (get-push scope.symbols (symbol_of name arity predicate) y n h))
        (get-end scope.symbols (symbol_of name arity predicate)) is-name small;
    count = ok.count;
  }
  symbol_ok arity predicate small (Some (Symbol n a p)) is h =
      let q = split_and (a == arity) (same_truth p predicate) h in
      let e : a ≡ arity = grind (arith, nat_tests, q.0) in
      let f : p ≡ predicate = same_truth-true p predicate q.1 in
      let there : slice_get scope.symbols n ≡ Some (symbol_of name arity predicate) =
      ok.scope-is.kept n (symbol_of name arity predicate) (subst (λ b. slice_get first n ≡ Some (symbol_of name b predicate)) e (subst (λ b. slice_get first n ≡ Some (symbol_of name a b)) f (stand name n a p is))) in
      record {
        scope-is = declared ok.scope-is name (Symbol n arity predicate) new scope.entries inputs scope.symbols
            (λ n e h. h) (λ n e h. h) (λ n y h. h) (λ n e h. inl h) (λ n e h. inl h) (λ n y h. inl h) there is-name small;
        count = ok.count;
      }
  symbol_ok arity predicate small (Some (Entry n s)) is h = absurd (cc h)
  symbol_ok arity predicate small (Some (Input n s)) is h = absurd (cc h)
  symbol_ok arity predicate small (Some (Local n s u)) is h = absurd (cc h)
  symbol_ok arity predicate small (Some Later) is h = absurd (cc h)

-- the first of names of which none is repeated
pub first_new : (seen : NameSet) (name : Spot) (names : List Spot) → repeated seen (name ∷ names) ≡ [] → (seen name.text ≡ false) × (repeated (with_text seen name.text) names ≡ [])
first_new seen name names h = by_test (seen name.text) refl h where
  by_test : (b : Bool) → seen name.text ≡ b → cond b (name ∷ repeated (with_text seen name.text) names) (repeated (with_text seen name.text) names) ≡ [] → (seen name.text ≡ false) × (repeated (with_text seen name.text) names ≡ [])
  by_test true e h = absurd (cc h)
  by_test false e h = (e, h)

-- what holds once all items are declared
pub record ScopeDone (others : NameMap) (first : List symbol.Symbol) (scope : Scope) (inputs : List entry.Entry) (items : List ItemView) : Type 0 where
  pub seen : NameSet
  pub done : ScopeIs others first (fold (with_item others) scope items) (inputs ++ filter_map input_entry items) seen
  pub stay : (q : List ℕ) (m : Meaning) → scope.names q ≡ Some m → (fold (with_item others) scope items).names q ≡ Some m
  pub later : AllByRecursion (LetIsLater (fold (with_item others) scope items).names) items

module _ (others : NameMap) (first : List symbol.Symbol) where
  -- one item more
  one_more : (item : ItemView) (items : List ItemView) (scope : Scope) (inputs inputs' : List entry.Entry) → ScopeDone others first (with_item others scope item) inputs' items
      → ((q : List ℕ) (m : Meaning) → scope.names q ≡ Some m → (with_item others scope item).names q ≡ Some m)
      → ((names : NameMap) → ((q : List ℕ) (m : Meaning) → (with_item others scope item).names q ≡ Some m → names q ≡ Some m) → LetIsLater names item)
      → inputs' ++ filter_map input_entry items ≡ inputs ++ filter_map input_entry (item ∷ items) → ScopeDone others first scope inputs (item ∷ items)
  one_more item items scope inputs inputs' rest stays there same = record {
    seen = rest.seen;
    done = subst (λ ins. ScopeIs others first (fold (with_item others) scope (item ∷ items)) ins rest.seen) same rest.done;
    stay = λ q m h. rest.stay q m (stays q m h);
    later = (there _ rest.stay, rest.later);
  }

  symbol_stays : (scope : Scope) (inputs : List entry.Entry) (seen : NameSet) → ScopeIs others first scope inputs seen → (name : List ℕ) → seen name ≡ false → (arity : ℕ) (predicate : Bool) (o : Option Meaning)
      → (q : List ℕ) (m : Meaning) → scope.names q ≡ Some m → (with_symbol scope name arity predicate o).names q ≡ Some m
  symbol_stays scope inputs seen ok name new arity predicate None = stays ok.scope-is name _ new
  symbol_stays scope inputs seen ok name new arity predicate (Some (Symbol n a p)) = stays ok.scope-is name _ new
  symbol_stays scope inputs seen ok name new arity predicate (Some (Entry n s)) = stays ok.scope-is name _ new
  symbol_stays scope inputs seen ok name new arity predicate (Some (Input n s)) = stays ok.scope-is name _ new
  symbol_stays scope inputs seen ok name new arity predicate (Some (Local n s u)) = stays ok.scope-is name _ new
  symbol_stays scope inputs seen ok name new arity predicate (Some Later) = stays ok.scope-is name _ new

module _ (others : NameMap) (first : List symbol.Symbol) (stand : OthersStand others first) where
  pub scope_done : (items : List ItemView) (scope : Scope) (inputs : List entry.Entry) (seen : NameSet) → ScopeIs others first scope inputs seen → repeated seen (filter_map declared_name items) ≡ [] → AllByRecursion (Agrees others) items → AllByRecursion HasParts items
      → ScopeDone others first scope inputs items
  scope_done [] scope inputs seen ok fresh agree parts = record { seen = seen; done = rw append-nil ok; stay = λ q m h. h; later = tt }
  scope_done (latch_item offset name sort ∷ items) scope inputs seen ok fresh agree parts =
      let p = first_new seen name (filter_map declared_name items) fresh in
      one_more others first (latch_item offset name sort) items scope inputs inputs
      (scope_done items (with_entry scope name.text sort) inputs (with_text seen name.text) (entry_ok others first stand scope inputs seen ok name.text p.0 parts.0.0 sort) p.1 agree.1 parts.1)
      (stays ok.scope-is name.text _ p.0) (λ names h. tt) refl
  scope_done (memory_item offset name ∷ items) scope inputs seen ok fresh agree parts =
      let p = first_new seen name (filter_map declared_name items) fresh in
      one_more others first (memory_item offset name) items scope inputs inputs
      (scope_done items (with_entry scope name.text sorts.Memory) inputs (with_text seen name.text) (entry_ok others first stand scope inputs seen ok name.text p.0 parts.0 sorts.Memory) p.1 agree.1 parts.1)
      (stays ok.scope-is name.text _ p.0) (λ names h. tt) refl
  scope_done (input_item offset name sort idle ∷ items) scope inputs seen ok fresh agree parts =
      let p = first_new seen name (filter_map declared_name items) fresh in
      one_more others first (input_item offset name sort idle) items scope inputs (inputs ++ entry_of name.text sort ∷ [])
      (scope_done items (with_input scope name.text sort) (inputs ++ entry_of name.text sort ∷ []) (with_text seen name.text) (input_ok others first stand scope inputs seen ok name.text p.0 parts.0.0 sort) p.1 agree.1 parts.1)
      (stays ok.scope-is name.text _ p.0) (λ names h. tt) (simp append_assoc)
  scope_done (function_item offset name arity ∷ items) scope inputs seen ok fresh agree parts =
      let p = first_new seen name (filter_map declared_name items) fresh in
      one_more others first (function_item offset name arity) items scope inputs inputs
      (scope_done items (with_symbol scope name.text arity false (others name.text)) inputs (with_text seen name.text) (symbol_ok others first stand scope inputs seen ok name.text p.0 parts.0.0 arity false parts.0.1 (others name.text) refl agree.0) p.1 agree.1 parts.1)
      (symbol_stays others first scope inputs seen ok name.text p.0 arity false (others name.text)) (λ names h. tt) refl
  scope_done (predicate_item offset name arity ∷ items) scope inputs seen ok fresh agree parts =
      let p = first_new seen name (filter_map declared_name items) fresh in
      one_more others first (predicate_item offset name arity) items scope inputs inputs
      (scope_done items (with_symbol scope name.text arity true (others name.text)) inputs (with_text seen name.text) (symbol_ok others first stand scope inputs seen ok name.text p.0 parts.0.0 arity true parts.0.1 (others name.text) refl agree.0) p.1 agree.1 parts.1)
      (symbol_stays others first scope inputs seen ok name.text p.0 arity true (others name.text)) (λ names h. tt) refl
  scope_done (let_item offset name sort value ∷ items) scope inputs seen ok fresh agree parts =
      let p = first_new seen name (filter_map declared_name items) fresh in
      one_more others first (let_item offset name sort value) items scope inputs inputs
      (scope_done items (record scope { names = declare scope.names name.text Later }) inputs (with_text seen name.text) (later_ok others first stand scope inputs seen ok name.text p.0 parts.0.0) p.1 agree.1 parts.1)
      (stays ok.scope-is name.text _ p.0) (λ names h. h name.text Later (found ok.scope-is name.text Later p.0)) refl
  scope_done (next_item offset name value ∷ items) scope inputs seen ok fresh agree parts =
      one_more others first (next_item offset name value) items scope inputs inputs (scope_done items scope inputs seen ok fresh agree.1 parts.1) (λ q m h. h) (λ names h. tt) refl
  scope_done (flush_item offset count ∷ items) scope inputs seen ok fresh agree parts =
      one_more others first (flush_item offset count) items scope inputs inputs (scope_done items scope inputs seen ok fresh agree.1 parts.1) (λ q m h. h) (λ names h. tt) refl
  scope_done (steps_item offset count ∷ items) scope inputs seen ok fresh agree parts =
      one_more others first (steps_item offset count) items scope inputs inputs (scope_done items scope inputs seen ok fresh agree.1 parts.1) (λ q m h. h) (λ names h. tt) refl
  scope_done (exact_item offset count when ∷ items) scope inputs seen ok fresh agree parts =
      one_more others first (exact_item offset count when) items scope inputs inputs (scope_done items scope inputs seen ok fresh agree.1 parts.1) (λ q m h. h) (λ names h. tt) refl
  scope_done (distinct_item offset names ∷ items) scope inputs seen ok fresh agree parts =
      one_more others first (distinct_item offset names) items scope inputs inputs (scope_done items scope inputs seen ok fresh agree.1 parts.1) (λ q m h. h) (λ names h. tt) refl

-- ---- how many there are

pub record GrowsByOne (s u : Scope) : Type 0 where
  pub entries : length u.entries ≤ length s.entries + 1
  pub inputs : u.inputs ≤ s.inputs + 1
  pub symbols : length u.symbols ≤ length s.symbols + 1

symbol_grows : (s : Scope) (name : List ℕ) (arity : ℕ) (predicate : Bool) (o : Option Meaning) → GrowsByOne s (with_symbol s name arity predicate o)
symbol_grows s name arity predicate None = record { entries = omega arith; inputs = omega arith; symbols = omega (arith, length-append s.symbols (symbol_of name arity predicate ∷ [])) }
symbol_grows s name arity predicate (Some (Symbol n a p)) = record { entries = omega arith; inputs = omega arith; symbols = omega arith }
symbol_grows s name arity predicate (Some (Entry n x)) = record { entries = omega arith; inputs = omega arith; symbols = omega (arith, length-append s.symbols (symbol_of name arity predicate ∷ [])) }
symbol_grows s name arity predicate (Some (Input n x)) = record { entries = omega arith; inputs = omega arith; symbols = omega (arith, length-append s.symbols (symbol_of name arity predicate ∷ [])) }
symbol_grows s name arity predicate (Some (Local n x u)) = record { entries = omega arith; inputs = omega arith; symbols = omega (arith, length-append s.symbols (symbol_of name arity predicate ∷ [])) }
symbol_grows s name arity predicate (Some Later) = record { entries = omega arith; inputs = omega arith; symbols = omega (arith, length-append s.symbols (symbol_of name arity predicate ∷ [])) }

grows_not : (s u : Scope) → s.entries ≡ u.entries → s.inputs ≡ u.inputs → s.symbols ≡ u.symbols → GrowsByOne s u
grows_not s u e f g = record { entries = omega (arith, ap length e); inputs = omega arith; symbols = omega (arith, ap length g) }

pub item_grows : (others : NameMap) (s : Scope) (item : ItemView) → GrowsByOne s (with_item others s item)
item_grows others s (latch_item offset name sort) = record { entries = omega (arith, length-append s.entries (entry_of name.text sort ∷ [])); inputs = omega arith; symbols = omega arith }
item_grows others s (memory_item offset name) = record { entries = omega (arith, length-append s.entries (entry_of name.text sorts.Memory ∷ [])); inputs = omega arith; symbols = omega arith }
item_grows others s (input_item offset name sort idle) = record { entries = omega arith; inputs = omega arith; symbols = omega arith }
item_grows others s (function_item offset name arity) = symbol_grows s name.text arity false (others name.text)
item_grows others s (predicate_item offset name arity) = symbol_grows s name.text arity true (others name.text)
item_grows others s (let_item offset name sort value) = grows_not s _ refl refl refl
item_grows others s (next_item offset name value) = grows_not s s refl refl refl
item_grows others s (flush_item offset count) = grows_not s s refl refl refl
item_grows others s (steps_item offset count) = grows_not s s refl refl refl
item_grows others s (exact_item offset count when) = grows_not s s refl refl refl
item_grows others s (distinct_item offset names) = grows_not s s refl refl refl

-- ---- which entries there are

abbrev pub declared_entry : ItemView → Option entry.Entry
declared_entry (latch_item offset name sort) = Some (record { name = name.text; sort = sort })
declared_entry (memory_item offset name) = Some (record { name = name.text; sort = sorts.Memory })
declared_entry _ = None

symbol_entries : (s : Scope) (name : List ℕ) (arity : ℕ) (predicate : Bool) (o : Option Meaning) → (with_symbol s name arity predicate o).entries ≡ s.entries
symbol_entries s name arity predicate None = refl
symbol_entries s name arity predicate (Some (Symbol n a p)) = refl
symbol_entries s name arity predicate (Some (Entry n x)) = refl
symbol_entries s name arity predicate (Some (Input n x)) = refl
symbol_entries s name arity predicate (Some (Local n x u)) = refl
symbol_entries s name arity predicate (Some Later) = refl

item_entries : (others : NameMap) (s : Scope) (item : ItemView) → (with_item others s item).entries ≡ s.entries ++ cons_option (declared_entry item) []
item_entries others s (latch_item offset name sort) = refl
item_entries others s (memory_item offset name) = refl
item_entries others s (input_item offset name sort idle) = sym (append-nil s.entries)
item_entries others s (function_item offset name arity) = symbol_entries s name.text arity false (others name.text) ∙ sym (append-nil s.entries)
item_entries others s (predicate_item offset name arity) = symbol_entries s name.text arity true (others name.text) ∙ sym (append-nil s.entries)
item_entries others s (let_item offset name sort value) = sym (append-nil s.entries)
item_entries others s (next_item offset name value) = sym (append-nil s.entries)
item_entries others s (flush_item offset count) = sym (append-nil s.entries)
item_entries others s (steps_item offset count) = sym (append-nil s.entries)
item_entries others s (exact_item offset count when) = sym (append-nil s.entries)
item_entries others s (distinct_item offset names) = sym (append-nil s.entries)

pub entries_are : (others : NameMap) (items : List ItemView) (s : Scope) → (fold (with_item others) s items).entries ≡ s.entries ++ filter_map declared_entry items
entries_are others [] s = sym (append-nil s.entries)
entries_are others (item ∷ items) s =
    entries_are others items (with_item others s item)
    ∙ ap (λ xs. xs ++ filter_map declared_entry items) (item_entries others s item)
    ∙ append_assoc s.entries (cons_option (declared_entry item) []) (filter_map declared_entry items)
    ∙ ap (λ xs. s.entries ++ xs) (one (declared_entry item)) where
      one : (o : Option entry.Entry) → cons_option o [] ++ filter_map declared_entry items ≡ cons_option o (filter_map declared_entry items)
      one None = refl
      one (Some e) = refl

-- so many symbols at most
pub symbols_within : (others : NameMap) (items : List ItemView) (s : Scope) → length (fold (with_item others) s items).symbols ≤ length s.symbols + length items
symbols_within others [] s = omega arith
symbols_within others (item ∷ items) s = omega (arith, symbols_within others items (with_item others s item), (item_grows others s item).symbols)
