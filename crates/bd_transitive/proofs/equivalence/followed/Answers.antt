use Rattle.std.proofs.Common.{◌≡◌, ◌+◌, ◌-◌, ◌<◌, ℕ, get_or, set, length, sym, subst, arith}
use Rattle.std.proofs.lemmas.List.{get_or_read}
use Rattle.bd_transitive.specs.inner.Links.{AreFollowed}
use Rattle.bd_transitive.proofs.Linking.{followed_none, followed_more, ahead_less}
use Rattle.bd_transitive.proofs.equivalence.followed.Goals as goal

pub loop-place-init : goal.loop-place-init
loop-place-init c = record {
  done = followed_none c.args.links.now c.in_ok-ends.ends.items c.in_ok-ends.ensures.size c.in_ok-ends.ensures.own;
  ahead = c.in_ok-ends.ensures.own;
}

pub loop-place-preserved : goal.loop-place-preserved
loop-place-preserved c =
    let links = c.args.links.now in
    let ends = c.loop-place.ends.items in
    let n = c.loop-place.place - 1 in
    let positive = c.loop-place-test.true in
    let up_to = c.loop-place.auto.place in
    let place_is : c.loop-place.place ≡ n + 1 = omega arith in
    let within : n < length links = omega arith in
    let done = subst (AreFollowed links ends) place_is c.loop-place.invariant.done in
    let ahead : (p : ℕ) → p < n + 1 → get_or ends p 0 ≡ p = λ p lt. c.loop-place.invariant.ahead p (omega arith) in
    let size = done.size in
    let next = (c.requires n within).1 in
    let is : c.index.result.now ≡ get_or ends (get_or links n 0) 0 = get_or_read ends (get_or links n 0) c.index.result.now (omega arith) c.index.ensures 0 in
    subst (λ (x : ℕ). record { done : AreFollowed links (set ends n x) n; ahead : (p : ℕ) → p < n → get_or (set ends n x) p 0 ≡ p }) (sym is) record {
      done = followed_more links ends n within c.requires done ahead;
      ahead = ahead_less links ends n within c.requires done ahead;
    }
