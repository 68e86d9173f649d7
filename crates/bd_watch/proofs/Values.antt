-- The tables beside a trail, as literals are assigned and taken back.
use Rattle.std.proofs.Common.{◌≡◌, ◌≢◌, ℕ, ◌+◌, ◌*◌, ◌<◌, ◌≤◌, Bool, true, false, not, cond, List, [], ◌∷◌, ◌++◌, ◌||◌, ◌-◌, Option, None, Some, is_some, length, get_or, take, append-nil, refl, sym, ap, ◌∙◌, subst, inl, inr, arith, length-append, get_or-set_other, get_or-set_same}
use Rattle.std.specs.List.{enumerate_from, filter_map, cons_option}
use Rattle.std.proofs.lemmas.List.FromFn.{length-enumerate_from}
use Rattle.std.specs.Option.{option_to_list}
use Rattle.std.proofs.Math.ListN.{set, length-set}
use Rattle.std.proofs.lemmas.Bool.{false≢true, true≢false, cases_eq, false_from_ne_true}
use Rattle.std.proofs.lemmas.List.{get_or_append_left, length-map, get_or_push, length_push, get_or-map, take_at}
use Rattle.std.proofs.lemmas.List.Elements.{All-push, filter_map-append}
use Rattle.std.proofs.Math.Bool.{or-false}
use Rattle.bd_cnf.specs.Literal.{Literal, literal, literal_eq, negate, has_literal, has_variable}
use Rattle.bd_cnf.specs.Standing.{IsBelow}
use Rattle.bd_cnf.proofs.Literals.{has-push, literal_eq-true, has_at}
use Rattle.bd_cnf.proofs.Closed.{has_variable_of}
use Rattle.bd_lrat.specs.Log.{HaveDifferentVariables}
use Rattle.bd_cnf.specs.Packed.{literal_index}
use Rattle.bd_watch.specs.Levels.{Assigned, literals}
use Rattle.bd_watch.specs.Trails.{LeveledTrail, leveled, IsLeveled, decision_places, place_of_decision}
use Rattle.bd_watch.proofs.Placed.{literals-append}
use Rattle.bd_watch.proofs.Different.{different_push, different_front, different_room}
use Rattle.bd_watch.proofs.Parts.{not_true, unassigned_from, has_pushed}

-- an index says its literal
pub same_index : (l m : Literal) → literal_index l ≡ literal_index m → l ≡ m
same_index l m e = let both = parts l.var m.var l.positive m.positive e in λ i. record { var = both.0 i; positive = both.1 i }
  where
    parts : (v w : ℕ) (p q : Bool) → 2 * v + cond p 0 1 ≡ 2 * w + cond q 0 1 → (v ≡ w) × (p ≡ q)
    parts v w true true e = (omega arith, refl)
    parts v w true false e = absurd (omega arith)
    parts v w false true e = absurd (omega arith)
    parts v w false false e = (omega arith, refl)

pub other_index : (l m : Literal) → literal_index l ≢ literal_index m → literal_eq l m ≡ false
other_index l m apart = false_from_ne_true _ (λ e. apart (ap literal_index (literal_eq-true l m e)))

-- a variable below the limit has its codes below twice the limit
pub index_below : (l : Literal) (n : ℕ) → l.var < n → literal_index l < 2 * n
index_below l n h = go l.positive
  where
    go : (p : Bool) → 2 * l.var + cond p 0 1 < 2 * n
    go true = omega arith
    go false = omega arith

enumerate_append : {X : Type 0} → (n : ℕ) (xs : List X) (x : X) → enumerate_from n (xs ++ x ∷ []) ≡ enumerate_from n xs ++ (n + length xs, x) ∷ []
enumerate_append n [] x = ap (λ k. (k, x) ∷ []) (let same : n ≡ n + 0 = omega arith in same)
enumerate_append n (y ∷ ys) x =
    ap (λ ps. (n, y) ∷ ps) (enumerate_append (n + 1) ys x ∙ ap (λ k. enumerate_from (n + 1) ys ++ (k, x) ∷ []) (let same : (n + 1) + length ys ≡ n + length (y ∷ ys) = omega arith in same))

-- the places of decisions, with one entry more
pub places_push : (entries : List Assigned) (a : Assigned) → decision_places (entries ++ a ∷ []) ≡ decision_places entries ++ option_to_list (place_of_decision (length entries) a.reason)
places_push entries a =
    ap (filter_map (λ (p : ℕ × Assigned). place_of_decision p.0 p.1.reason)) (enumerate_append 0 entries a)
    ∙ filter_map-append (λ (p : ℕ × Assigned). place_of_decision p.0 p.1.reason) (enumerate_from 0 entries) ((0 + length entries, a) ∷ [])
    ∙ ap (λ ps. decision_places entries ++ ps) (last a.reason ∙ ap (λ n. option_to_list (place_of_decision n a.reason)) (let same : 0 + length entries ≡ length entries = omega arith in same))
  where
    last : (r : Option ℕ) → filter_map (λ (p : ℕ × Assigned). place_of_decision p.0 p.1.reason) ((0 + length entries, record { literal = a.literal; reason = r }) ∷ []) ≡ option_to_list (place_of_decision (0 + length entries) r)
    last None = refl
    last (Some id) = refl

pub literal_at : (entries : List Assigned) (p : ℕ) (d : Assigned) → p < length entries → get_or (literals entries) p d.literal ≡ (get_or entries p d).literal
literal_at entries p d h = get_or-map (λ (a : Assigned). a.literal) entries p d d.literal h

-- the literal at a place has its variable on the trail
pub variable_at : (entries : List Assigned) (p : ℕ) (d : Assigned) → p < length entries → has_variable (literals entries) (get_or entries p d).literal.var ≡ true
variable_at entries p d h =
    let size : length (literals entries) ≡ length entries = length-map entries (λ (a : Assigned). a.literal) in
    has_variable_of (literals entries) (get_or entries p d).literal (has_at p (literals entries) d.literal (get_or entries p d).literal (omega arith) (sym (literal_at entries p d h)))

module _ (holds : List Bool) (places starts : List ℕ) (entries : List Assigned) (room starts_room : ℕ) where
  -- one entry more
  pub leveled_push : (a : Assigned) (new : List ℕ) → IsLeveled holds places starts entries room starts_room → a.literal.var < length places → has_variable (literals entries) a.literal.var ≡ false → new ≡ decision_places (entries ++ a ∷ []) → IsLeveled (set holds (literal_index a.literal) true) (set places a.literal.var (length entries)) new (entries ++ a ∷ []) room starts_room
  leveled_push a new is low free started = record {
    agrees = agrees;
    twice = length-set holds (literal_index a.literal) true ∙ is.twice ∙ ap (λ n. 2 * n) (sym size);
    within = subst (λ n. IsBelow n (literals (entries ++ a ∷ []))) (sym size) (subst (IsBelow (length places)) (sym whole) (All-push (λ (l : Literal). l.var < length places) (literals entries) a.literal is.within low));
    different = subst HaveDifferentVariables (sym whole) (different_push (literals entries) a.literal is.different free);
    placed = placed;
    started = started;
    packable = omega (arith, is.packable, size);
    room = omega (arith, is.room, size);
    starts_room = omega (arith, is.starts_room, size);
  }
    where
      l : Literal
      l = a.literal

      size : length (set places l.var (length entries)) ≡ length places
      size = length-set places l.var (length entries)

      whole : literals (entries ++ a ∷ []) ≡ literals entries ++ l ∷ []
      whole = literals-append entries (a ∷ [])

      here : literal_index l < length holds
      here = omega (arith, index_below l (length places) low, is.twice)

      agrees : (m : Literal) → literal_index m < length (set holds (literal_index l) true) → get_or (set holds (literal_index l) true) (literal_index m) false ≡ has_literal (literals (entries ++ a ∷ [])) m
      agrees m h =
          elim (cases_eq (literal_index m) (literal_index l)) [
            | inl e ↦
                let same : m ≡ l = same_index m l e in
                ap (λ n. get_or (set holds (literal_index l) true) n false) e ∙ get_or-set_same holds (literal_index l) true false here
                ∙ sym (ap (λ ls. has_literal ls m) whole ∙ ap (has_literal (literals entries ++ l ∷ [])) same ∙ has_pushed (literals entries) l)
            | inr apart ↦
                get_or-set_other holds (literal_index l) (literal_index m) true false apart
                ∙ is.agrees m (omega (arith, length-set holds (literal_index l) true))
                ∙ sym (ap (λ ls. has_literal ls m) whole ∙ has-push (literals entries) l m ∙ ap (λ b. has_literal (literals entries) m || b) (other_index m l apart) ∙ or-false (has_literal (literals entries) m))
          ]

      placed : (p : ℕ) (d : Assigned) → p < length (entries ++ a ∷ []) → get_or (set places l.var (length entries)) (get_or (entries ++ a ∷ []) p d).literal.var 0 ≡ p
      placed p d h =
          elim (cases_eq p (length entries)) [
            | inl e ↦
                let last : get_or (entries ++ a ∷ []) p d ≡ a = get_or_push entries a d p (sym e) in
                ap (λ (x : Assigned). get_or (set places l.var (length entries)) x.literal.var 0) last ∙ get_or-set_same places l.var (length entries) 0 low ∙ sym e
            | inr apart ↦
                let long : length (entries ++ a ∷ []) ≡ length entries + 1 = length_push entries a in
                let old : p < length entries = omega (arith, apart) in
                let kept : get_or (entries ++ a ∷ []) p d ≡ get_or entries p d = get_or_append_left entries (a ∷ []) d p old in
                let other : (get_or entries p d).literal.var ≡ l.var → ⊥ = λ e. false≢true (sym free ∙ subst (λ v. has_variable (literals entries) v ≡ true) e (variable_at entries p d old)) in
                ap (λ (x : Assigned). get_or (set places l.var (length entries)) x.literal.var 0) kept
                ∙ get_or-set_other places l.var (get_or entries p d).literal.var (length entries) 0 other
                ∙ is.placed p d old
          ]

  -- room for one entry more
  pub leveled_room : (l : Literal) → IsLeveled holds places starts entries room starts_room → l.var < length places → has_variable (literals entries) l.var ≡ false → length entries < length places
  leveled_room l is low free =
      let size : length (literals entries) ≡ length entries = length-map entries (λ (a : Assigned). a.literal) in
      let under : length (literals entries) < length places = different_room (length places) (literals entries) l is.different is.within free low in
      omega arith

-- the last entry taken back
pub leveled_pop : (holds : List Bool) (places starts new : List ℕ) (entries : List Assigned) (a : Assigned) (room starts_room : ℕ) → IsLeveled holds places starts (entries ++ a ∷ []) room starts_room → new ≡ decision_places entries → IsLeveled (set holds (literal_index a.literal) false) places new entries room starts_room
leveled_pop holds places starts new entries a room starts_room is started = record {
  agrees = agrees;
  twice = length-set holds (literal_index l) false ∙ is.twice;
  within = λ k d h. subst (λ (m : Literal). m.var < length places) (get_or_append_left (literals entries) (l ∷ []) d k h) (below k d (omega (arith, length_push (literals entries) l)));
  different = front.0;
  placed = λ p d h. ap (λ (x : Assigned). get_or places x.literal.var 0) (sym (get_or_append_left entries (a ∷ []) d p h)) ∙ is.placed p d (omega (arith, length_push entries a));
  started = started;
  packable = is.packable;
  room = is.room;
  starts_room = is.starts_room;
}
  where
    l : Literal
    l = a.literal

    whole : literals (entries ++ a ∷ []) ≡ literals entries ++ l ∷ []
    whole = literals-append entries (a ∷ [])

    below : IsBelow (length places) (literals entries ++ l ∷ [])
    below = subst (IsBelow (length places)) whole is.within

    front : HaveDifferentVariables (literals entries) × (has_variable (literals entries) l.var ≡ false)
    front = different_front (literals entries) l (subst HaveDifferentVariables whole is.different)

    low : l.var < length places
    low = subst (λ (m : Literal). m.var < length places) (get_or_push (literals entries) l l (length (literals entries)) refl) (below (length (literals entries)) l (omega (arith, length_push (literals entries) l)))

    here : literal_index l < length holds
    here = omega (arith, index_below l (length places) low, is.twice)

    agrees : (m : Literal) → literal_index m < length (set holds (literal_index l) false) → get_or (set holds (literal_index l) false) (literal_index m) false ≡ has_literal (literals entries) m
    agrees m h =
        elim (cases_eq (literal_index m) (literal_index l)) [
          | inl e ↦
              let same : m ≡ l = same_index m l e in
              ap (λ n. get_or (set holds (literal_index l) false) n false) e ∙ get_or-set_same holds (literal_index l) false false here
              ∙ sym (ap (has_literal (literals entries)) same ∙ not_true (literals entries) l front.1)
          | inr apart ↦
              get_or-set_other holds (literal_index l) (literal_index m) false false apart
              ∙ is.agrees m (omega (arith, length-set holds (literal_index l) false))
              ∙ ap (λ ls. has_literal ls m) whole ∙ has-push (literals entries) l m ∙ ap (λ b. has_literal (literals entries) m || b) (other_index m l apart) ∙ or-false (has_literal (literals entries) m)
        ]

-- the fields after an assignment
pub leveled_pushed : (holds : List Bool) (places starts new : List ℕ) (entries after : List Assigned) (a : Assigned) (room starts_room now_room now_starts_room index variable count : ℕ) → IsLeveled holds places starts entries room starts_room → (a.literal.var < length places) × (has_variable (literals entries) a.literal.var ≡ false) → index ≡ literal_index a.literal → variable ≡ a.literal.var → count ≡ length entries → after ≡ entries ++ a ∷ [] → new ≡ decision_places after → now_room ≡ room → now_starts_room ≡ starts_room → IsLeveled (set holds index true) (set places variable count) new after now_room now_starts_room
leveled_pushed holds places starts new entries after a room starts_room now_room now_starts_room index variable count is free same_index same_variable same_count pushed started same_room same_starts_room =
    subst (λ n. IsLeveled (set holds n true) (set places variable count) new after now_room now_starts_room) (sym same_index)
    (subst (λ n. IsLeveled (set holds (literal_index a.literal) true) (set places n count) new after now_room now_starts_room) (sym same_variable)
    (subst (λ n. IsLeveled (set holds (literal_index a.literal) true) (set places a.literal.var n) new after now_room now_starts_room) (sym same_count)
    (subst (λ n. IsLeveled (set holds (literal_index a.literal) true) (set places a.literal.var (length entries)) new after n now_starts_room) (sym same_room)
    (subst (λ n. IsLeveled (set holds (literal_index a.literal) true) (set places a.literal.var (length entries)) new after room n) (sym same_starts_room)
    (subst (λ es. IsLeveled (set holds (literal_index a.literal) true) (set places a.literal.var (length entries)) new es room starts_room) (sym pushed)
    (leveled_push holds places starts entries room starts_room a new is free.0 free.1 (started ∙ ap decision_places pushed)))))))

-- and after it is taken back
pub leveled_popped : (holds : List Bool) (places starts new : List ℕ) (before entries : List Assigned) (a : Assigned) (room starts_room now_room now_starts_room index : ℕ) → IsLeveled holds places starts before room starts_room → before ≡ entries ++ a ∷ [] → index ≡ literal_index a.literal → new ≡ decision_places entries → now_room ≡ room → now_starts_room ≡ starts_room → IsLeveled (set holds index false) places new entries now_room now_starts_room
leveled_popped holds places starts new before entries a room starts_room now_room now_starts_room index is popped same_index started same_room same_starts_room =
    subst (λ n. IsLeveled (set holds n false) places new entries now_room now_starts_room) (sym same_index)
    (subst (λ n. IsLeveled (set holds (literal_index a.literal) false) places new entries n now_starts_room) (sym same_room)
    (subst (λ n. IsLeveled (set holds (literal_index a.literal) false) places new entries room n) (sym same_starts_room)
    (leveled_pop holds places starts new entries a room starts_room (subst (λ es. IsLeveled holds places starts es room starts_room) popped is) started)))

-- the last entry's literal has room
pub leveled_last : (holds : List Bool) (places starts : List ℕ) (before entries : List Assigned) (a : Assigned) (room starts_room : ℕ) → IsLeveled holds places starts before room starts_room → before ≡ entries ++ a ∷ [] → (a.literal.var < length places) × (literal_index a.literal < length holds)
leveled_last holds places starts before entries a room starts_room is popped =
    let whole : literals before ≡ literals entries ++ a.literal ∷ [] = ap literals popped ∙ literals-append entries (a ∷ []) in
    let below : IsBelow (length places) (literals entries ++ a.literal ∷ []) = subst (IsBelow (length places)) whole is.within in
    let low : a.literal.var < length places = subst (λ (m : Literal). m.var < length places) (get_or_push (literals entries) a.literal a.literal (length (literals entries)) refl) (below (length (literals entries)) a.literal (omega (arith, length_push (literals entries) a.literal))) in
    (low, omega (arith, index_below a.literal (length places) low, is.twice))

-- what a free variable of the trail that is seen says of the fields
pub leveled_free : (places : List ℕ) (entries : List Assigned) (now : LeveledTrail) (l m : Literal) → leveled (length places) entries ≡ now → l.var < now.limit → has_variable (literals now.entries) l.var ≡ false → m ≡ l → (m.var < length places) × (has_variable (literals entries) m.var ≡ false)
leveled_free places entries now l m seen low free same = (
  subst (λ (k : Literal). k.var < length places) (sym same) (subst (λ (t : LeveledTrail). l.var < t.limit) (sym seen) low),
  subst (λ (k : Literal). has_variable (literals entries) k.var ≡ false) (sym same) (subst (λ (t : LeveledTrail). has_variable (literals t.entries) l.var ≡ false) (sym seen) free),
)

-- there are no more decisions than entries
pub places_bounded : (entries : List Assigned) → length (decision_places entries) ≤ length entries
places_bounded entries = omega (arith, shorter (λ (p : ℕ × Assigned). place_of_decision p.0 p.1.reason) (enumerate_from 0 entries), length-enumerate_from 0 entries)
  where
    shorter : {X Y : Type 0} (f : X → Option Y) → (xs : List X) → length (filter_map f xs) ≤ length xs
    shorter f [] = omega arith
    shorter {Y = Y} f (x ∷ xs) = first (shorter f xs) (f x)
      where
        first : length (filter_map f xs) ≤ length xs → (o : Option Y) → length (cons_option o (filter_map f xs)) ≤ length (x ∷ xs)
        first rest None = omega arith
        first rest (Some y) = omega arith

-- the places of decisions after a decision, an implied literal, and the last of either taken back
pub decided_places : (starts new : List ℕ) (n : ℕ) (entries after : List Assigned) (a : Assigned) → starts ≡ decision_places entries → new ≡ starts ++ n ∷ [] → n ≡ length entries → after ≡ entries ++ a ∷ [] → a.reason ≡ None → new ≡ decision_places after
decided_places starts new n entries after a is pushed same more none =
    pushed ∙ ap (λ ns. ns ++ n ∷ []) is ∙ ap (λ k. decision_places entries ++ k ∷ []) same
    ∙ sym (ap decision_places more ∙ places_push entries a ∙ ap (λ r. decision_places entries ++ option_to_list (place_of_decision (length entries) r)) none)

pub implied_places : (starts : List ℕ) (entries after : List Assigned) (a : Assigned) (id : ℕ) → starts ≡ decision_places entries → after ≡ entries ++ a ∷ [] → a.reason ≡ Some id → starts ≡ decision_places after
implied_places starts entries after a id is more some =
    is ∙ sym (ap decision_places more ∙ places_push entries a ∙ ap (λ r. decision_places entries ++ option_to_list (place_of_decision (length entries) r)) some ∙ append-nil (decision_places entries))

no_reason : (r : Option ℕ) → is_some r ≡ false → r ≡ None
no_reason None h = refl
no_reason (Some id) h = absurd (true≢false h)

pub undecided_places : (starts new : List ℕ) (count : ℕ) (before entries : List Assigned) (a : Assigned) (r : Option ℕ) → starts ≡ decision_places before → before ≡ entries ++ a ∷ [] → r ≡ a.reason → is_some r ≡ false → count ≡ length starts → new ≡ take (count - 1) starts → new ≡ decision_places entries
undecided_places starts new count before entries a r is popped same none size shorter =
    let whole : starts ≡ decision_places entries ++ length entries ∷ [] = is ∙ ap decision_places popped ∙ places_push entries a ∙ ap (λ q. decision_places entries ++ option_to_list (place_of_decision (length entries) q)) (sym same ∙ no_reason r none) in
    let long : length starts ≡ length (decision_places entries) + 1 = ap length whole ∙ length_push (decision_places entries) (length entries) in
    shorter ∙ ap (take (count - 1)) whole ∙ take_at (decision_places entries) (length entries ∷ []) (count - 1) (omega arith)

pub unimplied_places : (starts : List ℕ) (before entries : List Assigned) (a : Assigned) (r : Option ℕ) → starts ≡ decision_places before → before ≡ entries ++ a ∷ [] → r ≡ a.reason → is_some r ≡ true → starts ≡ decision_places entries
unimplied_places starts before entries a r is popped same some =
    is ∙ ap decision_places popped ∙ places_push entries a ∙ ap (λ q. decision_places entries ++ option_to_list (place_of_decision (length entries) q)) (sym same) ∙ nothing r some
  where
    nothing : (q : Option ℕ) → is_some q ≡ true → decision_places entries ++ option_to_list (place_of_decision (length entries) q) ≡ decision_places entries
    nothing None h = absurd (false≢true h)
    nothing (Some id) h = append-nil (decision_places entries)

-- a variable is free where neither of its literals is true
pub free_test : (ls : List Literal) (var : ℕ) (l : Literal) (a b : Bool) → l ≡ literal var true → a ≡ has_literal ls l → b ≡ has_literal ls (negate l) → a ≡ false → not b ≡ not (has_variable ls var)
free_test ls var l a b same on off none = ap not (first b refl)
  where
    var_is : l.var ≡ var
    var_is = ap (λ (k : Literal). k.var) same

    first : (x : Bool) → b ≡ x → b ≡ has_variable ls var
    first true e = e ∙ sym (subst (λ v. has_variable ls v ≡ true) var_is (has_variable_of ls (negate l) (sym off ∙ e)))
    first false e = e ∙ sym (subst (λ v. has_variable ls v ≡ false) var_is (unassigned_from ls l (sym on ∙ none) (sym off ∙ e)))

pub taken_test : (ls : List Literal) (var : ℕ) (l : Literal) (a : Bool) → l ≡ literal var true → a ≡ has_literal ls l → a ≡ true → not a ≡ not (has_variable ls var)
taken_test ls var l a same on some = ap not (some ∙ sym (subst (λ v. has_variable ls v ≡ true) (ap (λ (k : Literal). k.var) same) (has_variable_of ls l (sym on ∙ some))))

-- an entry more where there is room
pub pushed_room : (places : List ℕ) (entries after : List Assigned) (a : Assigned) (var place : ℕ) → length entries < length places → after ≡ entries ++ a ∷ [] → length after ≤ length (set places var place)
pushed_room places entries after a var place room e = omega (arith, ap length e, length-append entries (a ∷ []), length-set places var place)
