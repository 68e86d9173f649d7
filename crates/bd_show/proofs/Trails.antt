-- What is said of a trail, whose cycles are those of the design without its start.
use Rattle.std.proofs.Common.{◌≡◌, ◌≢◌, ◌∙◌, ℕ, zero, suc, List, [], ◌∷◌, ◌++◌, ap, refl, sym, subst, take, true}
use Rattle.std.specs.Prelude.{Option, Some, None, Result, IfOk}
use Rattle.std.specs.declared.alloc.AllocError.{AllocError}
use Rattle.std.proofs.lemmas.List.{append-nil, append_assoc}
use Rattle.std.proofs.lemmas.Result.{IfOk-weaker}
use Rattle.bd_app.specs.Retrace.{retraced_words}
use Rattle.bd_model.specs.Conditions.{Commutes}
use Rattle.bd_model.specs.Cycle.{after, flushed, inputs_at, spec_steps, state_after, step}
use Rattle.bd_model.specs.DesignView.{DesignView}
use Rattle.bd_model.specs.Lawful.{IsLawful}
use Rattle.bd_model.specs.Same.{Same}
use Rattle.bd_model.specs.TrailJudged.{IsTrailJudged}
use Rattle.bd_model.specs.declared.case.Condition.TheVariants.{Commute}
use Rattle.bd_model.specs.declared.case.Judged.TheVariants as of_case
use Rattle.bd_model.specs.declared.case.Trail.{Trail}
use Rattle.bd_model.specs.declared.case.TrailJudged.{TrailJudged}
use Rattle.bd_model.specs.declared.case.TrailJudged.TheVariants.{Holds, Outside, Broken}
use Rattle.bd_model.specs.declared.table.Scalar.{Scalar}
use Rattle.bd_model.specs.declared.table.Table.{Table}
use Rattle.bd_model.specs.declared.table.Value.{Value}
use Rattle.bd_about.proofs.Changed.{without_invariant_lawful}
use Rattle.bd_picture.specs.Page.{IsPage}
use Rattle.bd_picture.specs.Sentence.{sentence}
use Rattle.bd_show.specs.Files.{AreTrail, Texts}
use Rattle.bd_show.specs.Meaning.{IsShown, IsTrailShown, Says, Show, show}
use Rattle.bd_show.specs.Trails.{cycle_case, cycles_text, unstarted}
use Rattle.bd_show.specs.declared.answer.Ended.{Ended}
use Rattle.bd_show.specs.declared.answer.Ended.TheVariants.{Traced}
use Rattle.bd_show.specs.declared.show.Showing.{Showing}
use Rattle.bd_show.specs.inner.Answered.{IsBreaking, IsBreakingIf, IsDrawn, IsTrailPage, IsTrailSeen}
use Rattle.bd_app.specs.Loading.{bytes_of}

-- ---- the start counts in no cycle

steps_same : (j : ℕ) (d : DesignView) (interp : List Table) (a : List Value) → spec_steps j (unstarted d) interp a ≡ spec_steps j d interp a
steps_same zero d interp a = refl
steps_same (suc j) d interp a = ap (λ s. step d.spec interp s []) (steps_same j d interp a)

after_same : (d : DesignView) (interp : List Table) (state : List Value) (inputs : List (List Scalar)) → after (unstarted d) interp state inputs ≡ after d interp state inputs
after_same d interp state [] = refl
after_same d interp state (x ∷ xs) = after_same d interp (step d.pipe interp state x) xs

commutes_same : (d : DesignView) (interp : List Table) (state : List Value) (inputs : List Scalar) → Commutes (unstarted d) interp state inputs → Commutes d interp state inputs
commutes_same d interp state inputs (j, few, stands) =
    (j, few, (stands.0, subst (λ s. Same (flushed d interp (step d.pipe interp state inputs)) s) (steps_same j d interp (flushed d interp state)) stands.1))

-- a cycle that commutes in the design without its start does so in the design
cycle_same : (d : DesignView) (t : Trail) (n : ℕ) → Commutes (unstarted d) t.interp (state_after (unstarted d) t n) (inputs_at t n) → Commutes d t.interp (state_after d t n) (inputs_at t n)
cycle_same d t n commutes =
    subst (λ s. Commutes d t.interp s (inputs_at t n)) (after_same d t.interp t.state (take n t.inputs)) (commutes_same d t.interp (state_after (unstarted d) t n) (inputs_at t n) commutes)

breaks : (d : DesignView) (t : Trail) (cycle : ℕ) → IsTrailJudged d t (Broken cycle) → IsBreaking (unstarted d) t cycle
breaks d t cycle (inside, (n, counts, first)) =
    record { place = n; is_place = counts; within = first.within; case_judged = (refl, refl, λ commutes. first.broken (cycle_same d t n commutes)) }

-- the cycle of a trail that is judged to break does so as a case too
pub breaking : (d e : DesignView) (t : Trail) (j : TrailJudged) → e ≡ unstarted d → IsTrailJudged d t j → IsBreakingIf e t j
breaking d e t j is judged = λ cycle same.
    subst (λ x. IsBreaking x t cycle) (sym is) (breaks d t cycle (subst (IsTrailJudged d t) same judged))

pub unstarted_lawful : (d e : DesignView) → e ≡ unstarted d → IsLawful d → IsLawful e
unstarted_lawful d e is h = subst IsLawful (sym is) (without_invariant_lawful d h)

-- ---- what is seen of a trail

-- its lines, an empty line and what is drawn
after_lines : (words cycles drawn : List ℕ) → ((words ++ 10 ∷ cycles) ++ 10 ∷ []) ++ drawn ≡ words ++ 10 ∷ (cycles ++ 10 ∷ drawn)
after_lines words cycles drawn = append_assoc (words ++ 10 ∷ cycles) (10 ∷ []) drawn ∙ append_assoc words (10 ∷ cycles) (10 ∷ drawn)

-- a cycle that breaks is shown as a case
shown_cycle : (d : DesignView) (t : Trail) (cycle : ℕ) (b : IsBreaking d t cycle) (title drawn : List ℕ) → title ≡ sentence d (of_case.Broken Commute) → ((rest : List ℕ) × (drawn ≡ title ++ rest))
    → IsShown true d (cycle_case d t b.place) (of_case.Broken Commute) drawn
shown_cycle d t cycle b title drawn is (rest, begins) = record {
  is_judged = b.case_judged;
  shown = cycle_case d t b.place;
  left = refl;
  shown_judged = b.case_judged;
  rest = rest;
  begins = begins ∙ ap (λ x. x ++ rest) is;
}

broken_shown : (d : DesignView) (t : Trail) (cycle : ℕ) (title drawn text : List ℕ) → IsBreaking d t cycle → title ≡ sentence d (of_case.Broken Commute) → ((rest : List ℕ) × (drawn ≡ title ++ rest))
    → text ≡ ((retraced_words (Broken cycle) ++ 10 ∷ cycles_text d.pipe.ports 1 t.inputs) ++ 10 ∷ []) ++ drawn → IsTrailShown d t (Broken cycle) text
broken_shown d t cycle title drawn text b named begins is = record {
  shown = 10 ∷ drawn;
  is_shown = record { place = b.place; is_place = b.is_place; drawn = drawn; is_drawn = shown_cycle d t cycle b title drawn named begins; begins = refl };
  lines = is ∙ after_lines (retraced_words (Broken cycle)) (cycles_text d.pipe.ports 1 t.inputs) drawn;
}

-- of the cycle that breaks: the lines of its trail, an empty line and the picture
pub break_shown : (d : DesignView) (t : Trail) (cycle : ℕ) (title drawn slice lines apart text : List ℕ) → IsBreaking d t cycle → title ≡ sentence d (of_case.Broken Commute) → ((rest : List ℕ) × (drawn ≡ title ++ rest))
    → slice ≡ drawn → lines ≡ retraced_words (Broken cycle) ++ 10 ∷ cycles_text d.pipe.ports 1 t.inputs → apart ≡ lines ++ 10 ∷ [] → text ≡ apart ++ slice → IsTrailShown d t (Broken cycle) text
break_shown d t cycle title drawn slice lines apart text b named begins same are ends is =
    broken_shown d t cycle title drawn text b named begins (is ∙ ap (λ s. apart ++ s) same ∙ ap (λ l. l ++ drawn) (ends ∙ ap (λ l. l ++ 10 ∷ []) are))

broken_seen : (d : DesignView) (t : Trail) (cycle : ℕ) (title drawn page text : List ℕ) → IsBreaking d t cycle → title ≡ sentence d (of_case.Broken Commute) → ((rest : List ℕ) × (drawn ≡ title ++ rest))
    → IsPage title page → text ≡ ((retraced_words (Broken cycle) ++ 10 ∷ cycles_text d.pipe.ports 1 t.inputs) ++ 10 ∷ []) ++ drawn
    → IsTrailSeen d t (Broken cycle) (Traced (Broken cycle)) text (Some page)
broken_seen d t cycle title drawn page text b named begins titled is = record {
  ended = refl;
  shown = broken_shown d t cycle title drawn text b named begins is;
  drawn = subst (λ x. IsPage x page) named titled;
}

-- of a trail with a cycle that breaks: its lines, an empty line and the picture, of which the page is made too
pub break_seen : (d : DesignView) (t : Trail) (j : TrailJudged) (cycle : ℕ) (title drawn slice page lines apart text : List ℕ) → j ≡ Broken cycle → IsBreaking d t cycle
    → title ≡ sentence d (of_case.Broken Commute) → ((rest : List ℕ) × (drawn ≡ title ++ rest)) → slice ≡ drawn → IsPage title page
    → lines ≡ retraced_words j ++ 10 ∷ cycles_text d.pipe.ports 1 t.inputs → apart ≡ lines ++ 10 ∷ [] → text ≡ apart ++ slice
    → IsTrailSeen d t j (Traced j) text (Some page)
break_seen d t j cycle title drawn slice page lines apart text broken b named begins same titled are ends is =
    let whole = is ∙ ap (λ s. apart ++ s) same ∙ ap (λ l. l ++ drawn) (ends ∙ ap (λ l. l ++ 10 ∷ []) (are ∙ ap (λ x. retraced_words x ++ 10 ∷ cycles_text d.pipe.ports 1 t.inputs) broken)) in
    subst (λ x. IsTrailSeen d t x (Traced x) text (Some page)) (sym broken) (broken_seen d t cycle title drawn page text b named begins titled whole)

-- of a trail in which no cycle breaks: its lines, and no page
pub lines_seen : (d : DesignView) (t : Trail) (j : TrailJudged) (text : List ℕ) → ((cycle : ℕ) → j ≢ Broken cycle) → text ≡ retraced_words j ++ 10 ∷ cycles_text d.pipe.ports 1 t.inputs
    → IsTrailSeen d t j (Traced j) text None
lines_seen d t (Broken cycle) text whole is = absurd (whole cycle refl)
lines_seen d t Holds text whole is = record {
  ended = refl;
  shown = record { shown = []; is_shown = refl; lines = is ∙ ap (λ l. retraced_words Holds ++ 10 ∷ l) (sym (append-nil (cycles_text d.pipe.ports 1 t.inputs))) };
  drawn = refl;
}
lines_seen d t Outside text whole is = record {
  ended = refl;
  shown = record { shown = []; is_shown = refl; lines = is ∙ ap (λ l. retraced_words Outside ++ 10 ∷ l) (sym (append-nil (cycles_text d.pipe.ports 1 t.inputs))) };
  drawn = refl;
}

-- ---- and so of its texts

page_same : (d : DesignView) (j : TrailJudged) (page : Option (List ℕ)) → IsTrailPage (unstarted d) j page → IsTrailPage d j page
page_same d (Broken cycle) page is = is
page_same d Holds page is = is
page_same d Outside page is = is

says : (q : Show) (texts : Texts) (d e : DesignView) (t : Trail) (j : TrailJudged) (x : Ended) (text : List ℕ) (page : Option (List ℕ)) → texts.comp ≡ None → e ≡ unstarted d → AreTrail texts d t → IsTrailJudged d t j
    → IsTrailSeen e t j x text page → Says (show q) texts x text
says q texts d e t j x text page alone is trail judged seen =
    subst (λ y. Says (show q) texts y text) (sym seen.ended) (alone, (d, t, trail, record { is_judged = judged; shown = subst (λ y. IsTrailShown y t j text) is seen.shown }))

draws : (texts : Texts) (d e : DesignView) (t : Trail) (j : TrailJudged) (x : Ended) (text : List ℕ) (page : Option (List ℕ)) → e ≡ unstarted d → AreTrail texts d t
    → IsTrailSeen e t j x text page → IsDrawn texts x page
draws texts d e t j x text page is trail seen =
    subst (λ y. IsDrawn texts y page) (sym seen.ended) (d, trail.design, page_same d j page (subst (λ y. IsTrailPage y j page) is seen.drawn))

pub seen_says : (q : Show) (texts : Texts) (d e : DesignView) (t : Trail) (j : TrailJudged) (r : Result Showing AllocError) → texts.comp ≡ None → e ≡ unstarted d → AreTrail texts d t → IsTrailJudged d t j
    → IfOk r (λ s. IsTrailSeen e t j s.answer.ended s.answer.text.items (bytes_of s.page)) → IfOk r (λ s. Says (show q) texts s.answer.ended s.answer.text.items)
seen_says q texts d e t j r alone is trail judged seen =
    IfOk-weaker r _ _ (λ s h. says q texts d e t j s.answer.ended s.answer.text.items (bytes_of s.page) alone is trail judged h) seen

pub seen_drawn : (texts : Texts) (d e : DesignView) (t : Trail) (j : TrailJudged) (r : Result Showing AllocError) → e ≡ unstarted d → AreTrail texts d t
    → IfOk r (λ s. IsTrailSeen e t j s.answer.ended s.answer.text.items (bytes_of s.page)) → IfOk r (λ s. IsDrawn texts s.answer.ended (bytes_of s.page))
seen_drawn texts d e t j r is trail seen =
    IfOk-weaker r _ _ (λ s h. draws texts d e t j s.answer.ended s.answer.text.items (bytes_of s.page) is trail h) seen
