use Rattle.std.proofs.Common.{◌≡◌, ◌∙◌, ◌<◌, ◌≤◌, ℕ, slice_index, List, All, length, map, sym, ap, subst}
use Rattle.std.specs.List.{IsDistinct}
use Rattle.std.specs.Prelude.{nat_eq}
use Rattle.std.proofs.lemmas.Bool.Decides.{Decides-eqb}
use Rattle.std.proofs.lemmas.List.{length-map}
use Rattle.std.proofs.lemmas.Map.Made.{IsDistinct-from_AllPairs}
use Rattle.bd_transitive.specs.declared.span.Span.{Span}
use Rattle.bd_transitive.specs.Triangle.{AgreesWithClasses, BeginClasses, class_of, value_at}
use Rattle.bd_transitive.specs.inner.Spans.{span_of, IsSpan}
use Rattle.bd_transitive.specs.inner.Links.{AreLinks, AreFollowed}
use Rattle.bd_transitive.proofs.OrderSpans.{complete_from_order}
use Rattle.bd_transitive.proofs.ClassesAgree.{classes_agree, classes_begin, classes_below}
use Rattle.bd_transitive.proofs.equivalence.classes.Goals as goal

pub indexed-requires : goal.indexed-requires
indexed-requires c = subst (IsDistinct nat_eq) (sym c.as_slice.ensures) (IsDistinct-from_AllPairs Decides-eqb c.args.order.now.vertices c.requires.order.vertices)

pub links-requires : goal.links-requires
links-requires c =
    let vs = c.args.order.now.vertices in
    let es = c.args.order.now.edges in
    let keys : c.in_ok-vertices.vertices.keys ≡ vs = c.in_ok-vertices.ensures ∙ c.as_slice.ensures in
    let is : c.deref.result.now ≡ map (span_of vs) es = c.deref.ensures.value ∙ c.in_ok-spans.ensures ∙ (λ j. map (span_of (keys j)) (c.as_slice-2.ensures j)) in
    let count : c.len.result ≡ length vs = c.len.ensures.len ∙ ap length keys in
    record {
      bounded = subst (λ n. All (IsSpan n) c.deref.result.now) (sym count) (subst (All (IsSpan (length vs))) (sym is) (complete_from_order c.args.order.now c.requires.order).bounded);
      values = ap length c.as_slice-3.ensures ∙ c.requires.values ∙ sym (length-map es (span_of vs)) ∙ ap length (sym is);
    }

pub followed-requires : goal.followed-requires
followed-requires c =
    let linked = c.in_ok-links.ensures in
    subst (λ (l : List ℕ). (p : ℕ) → p < length l → (p ≤ slice_index l p) × (slice_index l p < length l)) (sym c.deref-2.ensures.value)
    (subst (λ (n : ℕ). (p : ℕ) → p < n → (p ≤ slice_index c.in_ok-links.links.items p) × (slice_index c.in_ok-links.links.items p < n)) (sym linked.size) linked.bounded)

pub returns : goal.returns
returns c =
    let order = c.args.order.now in
    let vs = order.vertices in
    let es = order.edges in
    let values = c.args.values.now in
    let links = c.in_ok-links.links.items in
    let ends = c.in_ok-followed.field-0.items in
    let keys : c.in_ok-vertices.vertices.keys ≡ vs = c.in_ok-vertices.ensures ∙ c.as_slice.ensures in
    let is : c.deref.result.now ≡ map (span_of vs) es = c.deref.ensures.value ∙ c.in_ok-spans.ensures ∙ (λ j. map (span_of (keys j)) (c.as_slice-2.ensures j)) in
    let count : c.len.result ≡ length vs = c.len.ensures.len ∙ ap length keys in
    let linked : AreLinks (map (span_of vs) es) (value_at values) (length vs) (length (map (span_of vs) es)) links =
    subst (λ (s : List Span). AreLinks s (value_at values) (length vs) (length s) links) is
    (subst (λ (n : ℕ). AreLinks c.deref.result.now (value_at values) n (length c.deref.result.now) links) count
    (subst (λ v. AreLinks c.deref.result.now (value_at v) c.len.result (length c.deref.result.now) links) c.as_slice-3.ensures c.in_ok-links.ensures)) in
    let followed : AreFollowed links ends 0 = subst (λ l. AreFollowed l ends 0) c.deref-2.ensures.value c.in_ok-followed.ensures in
    record {
      agrees = subst (λ (l : List ℕ). AgreesWithClasses es (value_at values) (class_of vs l)) (sym c.from_vec.ensures) (classes_agree order c.requires.order (value_at values) c.requires.meets links ends linked followed);
      new = subst (BeginClasses order (value_at values)) (sym c.from_vec.ensures) (classes_begin order c.requires.order (value_at values) links ends linked followed);
      all = ap length c.from_vec.ensures ∙ followed.size ∙ linked.size;
      below = subst (λ (l : List ℕ). All (λ class. class < length vs) l) (sym c.from_vec.ensures) (classes_below links ends (length vs) linked.size followed);
    }
