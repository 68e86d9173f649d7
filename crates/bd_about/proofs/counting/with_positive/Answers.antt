use Rattle.std.proofs.Common.{◌≡◌, ◌+◌, ◌++◌, ◌∷◌, ◌∙◌, ℕ, [], List, Some, ap, length, length-append, refl, slice_get, subst, sym}
use Rattle.bd_terms.specs.declared.node.Sym.{Sym}
use Rattle.bd_about.specs.declared.counting.Applied.{Applied}
use Rattle.bd_about.specs.declared.tallying.Tally.{Tally}
use Rattle.bd_about.specs.inner.Counted.{IsItemOf}
use Rattle.bd_about.proofs.WithParts.{each_more}
use Rattle.bd_about.proofs.counting.with_positive.Goals as goal

items-more : (rows : List ℕ) (es cs : List Tally) (among : List Sym) (applied new : List Applied) (item : Applied) (f : ℕ) → new ≡ applied ++ item ∷ [] → length applied ≡ f
    → ((k : ℕ) (a : Applied) → slice_get applied k ≡ Some a → IsItemOf rows es cs among k a) → IsItemOf rows es cs among f item
    → (k : ℕ) (a : Applied) → slice_get new k ≡ Some a → IsItemOf rows es cs among k a
items-more rows es cs among applied new item f pushed size before here k a at =
    each_more (λ j (x : Applied). IsItemOf rows es cs among j x) applied item before (subst (λ j. IsItemOf rows es cs among j item) (sym size) here) k a (ap (λ xs. slice_get xs k) (sym pushed) ∙ at)

pushed-size : (applied new : List Applied) (item : Applied) (f : ℕ) → new ≡ applied ++ item ∷ [] → length applied ≡ f → length new ≡ f + 1
pushed-size applied new item f pushed size = ap length pushed ∙ length-append applied (item ∷ []) ∙ ap (λ n. n + 1) size

pub loop-f-preserved : goal.loop-f-preserved
loop-f-preserved c = record {
  size = pushed-size c.loop-f.applied c.push.new.self _ c.loop-f.f c.in_ok-push.ensures.ok c.loop-f.invariant.size;
  each = items-more c.args.rows.now c.args.equations.now c.args.clauses.now c.args.symbols.now c.loop-f.applied c.push.new.self _ c.loop-f.f c.in_ok-push.ensures.ok c.loop-f.invariant.size c.loop-f.invariant.each
      (record { count = refl; positive = c.has.ensures; equations_are = refl; clauses_are = refl });
}
