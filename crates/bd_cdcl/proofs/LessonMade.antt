-- The lesson of an analysis.
use Rattle.std.proofs.Common.{◌≡◌, ℕ, ◌<◌, ◌≤◌, true, false, List, [], ◌∷◌, ◌++◌, Option, get_or, drop, map, reverse, refl, sym, ap, ◌∙◌, subst, arith}
use Rattle.std.specs.Prelude.{IfSome, IfNone, unwrap_or}
use Rattle.std.proofs.lemmas.List.{map-append}
use Rattle.bd_cnf.specs.Literal.{Literal, negate, has_literal, has_variable}
use Rattle.bd_cnf.specs.Clause.{IsRising, SameLiterals, IsTautology}
use Rattle.bd_cnf.specs.Standing.{Standing}
use Rattle.bd_cnf.proofs.Literals.{has_at}
use Rattle.bd_lrat.specs.declared.line.Hint.{Hint}
use Rattle.bd_lrat.specs.declared.line.Hint.TheVariants as hint
use Rattle.bd_lrat.specs.Database.{numbered}
use Rattle.bd_lrat.specs.Propagation.{Conflict, propagate}
use Rattle.bd_watch.specs.declared.watch.Watch.{Watch}
use Rattle.bd_watch.specs.Levels.{literals}
use Rattle.bd_watch.specs.Trails.{IsDecisionAt, IsLastStart, IsStartFrom}
use Rattle.bd_watch.specs.Watching.{front, IsAsserting, IsConflict}
use Rattle.bd_watch.specs.Watch.{IsWatching}
use Rattle.bd_watch.proofs.Parts.{all_has, has_negated, negated_has}
use Rattle.bd_cdcl.specs.declared.cdcl.analyze.Analysis.{Analysis}
use Rattle.bd_cdcl.specs.declared.cdcl.learn.Lesson.{Lesson}
use Rattle.bd_cdcl.specs.declared.cdcl.learn.Second.{Second}
use Rattle.bd_cdcl.specs.inner.Analysis.{IsUnique}
use Rattle.bd_cdcl.specs.inner.Deletions.{IsReduced}
use Rattle.bd_cdcl.specs.inner.Analyses.{Analyzed, IsSecond, IsLesson}
use Rattle.bd_cdcl.proofs.AnalysisSteps.{analysis_follows, analysis_asserts, analysis_no_tautology}
use Rattle.bd_cdcl.proofs.DeletedClauses.{propagate_in}
use Rattle.bd_cdcl.proofs.LessonLevels.{asserting_at, floor_low, pair_there, two_there, rest_some, IsCut, is_cut}

module _ (watch : Watch) (start id : ℕ) (a : Analysis) (is : Analyzed watch start id a) where
  -- and no literal with its negation
  pub kept_no_tautology : IsWatching watch → IsTautology a.kept.items → ⊥
  kept_no_tautology watching (l, here, there) = analysis_no_tautology (numbered watch.clauses) watch.trail.entries start is.conflict a.marks.items 0 a.kept.items is.analyzes.resolved watching.complete is.analyzes.analyzing l here there

  pub lesson_is : (lesson : Lesson) (s : Second) (rest : List Literal) (o : Option ℕ) → IsWatching watch → IsLastStart watch.trail.entries start → IsConflict (numbered watch.clauses) watch.trail.entries id → rest ≡ drop 1 a.kept.items → lesson.first ≡ get_or a.kept.items 0 lesson.first → lesson.second ≡ s.literal → lesson.backjump ≡ unwrap_or o start → SameLiterals lesson.clause a.kept.items → IsRising lesson.clause → IsSecond watch.trail.entries rest s → IfSome o (IsStartFrom watch.trail.entries s.floor) → IfNone o ((p : ℕ) → IsDecisionAt watch.trail.entries p → p < s.floor) → lesson.hints ≡ map hint.Unit (reverse a.ids.items ++ id ∷ []) → IsLesson watch start lesson
  lesson_is lesson s rest o watching last at_end rest_is first_is second_is cut_is same rising second found none hints =
      let (u, ks, e, unique) = analysis_asserts (numbered watch.clauses) watch.trail.entries start is.conflict a.marks.items a.kept.items is.analyzes.resolved is.analyzes.analyzing in
      build u ks e unique
    where
      low : (l : Literal) → has_literal lesson.clause l ≡ true → l.var < watch.trail.limit
      low l h = all_has (λ (m : Literal). m.var < watch.trail.limit) (literals watch.trail.entries) (negate l) watching.below (is.analyzes.analyzing.kept_false l (sym (same l) ∙ h))

      follows : (standing : Standing) → IsReduced watch.clauses watch.trail.entries standing → propagate standing (map negate lesson.clause) lesson.hints ≡ Conflict
      follows standing reduced =
          subst (λ hs. propagate standing (map negate lesson.clause) hs ≡ Conflict) (sym (hints ∙ map-append hint.Unit (reverse a.ids.items) (id ∷ []) ∙ ap (λ (hs : List Hint). hs ++ hint.Unit id ∷ []) (sym is.analyzes.ids)))
          (propagate_in watch.clauses watch.trail.entries standing watching.complete reduced is.analyzes.resolved (map negate lesson.clause) id is.analyzes.there at_end
          ∙ analysis_follows (numbered watch.clauses) watch.trail.entries start is.conflict a.marks.items a.kept.items (map negate lesson.clause) is.analyzes.resolved id watching.complete is.analyzes.analyzing is.stands
          (λ l h. sym (same (negate l)) ∙ has_negated lesson.clause l h)
          (λ l h. negated_has lesson.clause l (same l ∙ h)))

      build : (u : Literal) (ks : List Literal) → a.kept.items ≡ u ∷ ks → IsUnique watch.trail.entries a.marks.items start 0 u ks → IsLesson watch start lesson
      build u ks e unique =
          let first_u : lesson.first ≡ u = first_is ∙ ap (λ ls. get_or ls 0 lesson.first) e in
          let rest_ks : rest ≡ ks = rest_is ∙ ap (drop 1) e in
          let so : SameLiterals lesson.clause (u ∷ ks) = subst (SameLiterals lesson.clause) e same in
          let by : IsSecond watch.trail.entries ks s = subst (λ ls. IsSecond watch.trail.entries ls s) rest_ks second in
          let cut : IsCut watch.trail.entries start s.floor lesson.backjump = subst (IsCut watch.trail.entries start s.floor) (sym cut_is) (is_cut watch.trail.entries start s.floor o last (floor_low watch.trail.entries start a.marks.items u ks lesson.clause s unique by so last) found none) in
          let at : (place : ℕ) → s.floor ≤ place → place ≤ start → IsAsserting (front watch.trail.entries place) lesson.clause lesson.first = λ place l h. subst (IsAsserting (front watch.trail.entries place) lesson.clause) (sym first_u) (asserting_at watch.trail.entries start a.marks.items u ks lesson.clause s unique by so last place l h) in
          record {
            rising = rising;
            below = λ k d h. low (get_or lesson.clause k d) (has_at k lesson.clause d (get_or lesson.clause k d) h refl);
            follows = follows;
            fresh = at start (omega (arith, cut.low, cut.high)) (omega arith);
            decision = cut.decision;
            asserting = at lesson.backjump cut.low cut.high;
            pair = λ long.
                let both = pair_there watch.trail.entries start a.marks.items u ks lesson.clause s unique by so last (rest_some watch.trail.entries start a.marks.items u ks lesson.clause s unique by so last long rising) in
                (subst (λ (l : Literal). has_literal lesson.clause l ≡ true) (sym second_is) both.0, λ f. both.1 (sym first_u ∙ f ∙ second_is));
            levels = λ p h d.
                let before : p < s.floor = cut.before p h d in
                (two_there watch.trail.entries start a.marks.items u ks lesson.clause s unique by so last (by.some (omega arith)), subst (λ (l : Literal). has_variable (front watch.trail.entries p) l.var ≡ false) (sym second_is) (by.free p before));
          }
