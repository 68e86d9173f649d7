use Rattle.std.proofs.Common.{◌≡◌, ◌++◌, ◌∷◌, [], map, slice_get, refl, ap, sym, ◌∙◌, inl, inr, arith}
use Rattle.std.proofs.lemmas.Grind.{common_steps}
use Rattle.bd_terms.proofs.Places.{IsDistinct-place}
use Rattle.bd_terms.specs.contracts.node.SymEq.TheImpl.Laws.{laws-law}
use Rattle.bd_function.specs.declared.flat.FlatSym.{FlatSym}
use Rattle.bd_function.proofs.Rows.{Named, named-get, named-push, sym_same}
use Rattle.bd_function.proofs.eliminate.place.Goals as goal

pub returns-in_ok-push : goal.returns-in_ok-push
returns-in_ok-push c =
    let more : c.insert_full.new.self.keys ≡ c.args.taken.now.symbols.keys ++ c.args.sym ∷ [] = grind (arith, common_steps) in
    let rows : c.push.new.self.items ≡ c.args.taken.now.rows.items ++ (record { sym = c.args.sym; rows = [] }) ∷ [] =
    c.in_ok-push.ensures.items ∙ ap (λ l. c.args.taken.now.rows.items ++ (record { sym = c.args.sym; rows = l }) ∷ []) c.new-rows.ensures in
    let named : map (λ (s : FlatSym). s.sym) c.push.new.self.items ≡ c.insert_full.new.self.keys =
    ap (map (λ (s : FlatSym). s.sym)) rows ∙ named-push c.args.taken.now.rows.items c.args.sym ∙ ap (λ l. l ++ c.args.sym ∷ []) c.requires ∙ sym more in
    let stored = c.in_ok-place.ensures.stored in
    let n : Named c.push.new.self.items c.in_ok-place.place stored.0 = named-get c.push.new.self.items c.in_ok-place.place stored.0 (ap (λ l. slice_get l c.in_ok-place.place) named ∙ stored.1) in
    record { graph = refl; variables = refl; named = named; once = IsDistinct-place _ laws-law.refl c.insert_full.new.self.keys c.in_ok-place.ensures.unique; holder = n.holder; there = n.there; same = n.same ∙ sym (sym_same c.args.sym stored.0 stored.2); adds = inr rows }

pub returns-else-is_new : goal.returns-else-is_new
returns-else-is_new c =
    let more : c.insert_full.new.self.keys ≡ c.args.taken.now.symbols.keys = grind (arith, common_steps) in
    let named : map (λ (s : FlatSym). s.sym) c.args.taken.now.rows.items ≡ c.insert_full.new.self.keys = c.requires ∙ sym more in
    let stored = c.in_ok-place.ensures.stored in
    let n : Named c.args.taken.now.rows.items c.in_ok-place.place stored.0 = named-get c.args.taken.now.rows.items c.in_ok-place.place stored.0 (ap (λ l. slice_get l c.in_ok-place.place) named ∙ stored.1) in
    record { graph = refl; variables = refl; named = named; once = IsDistinct-place _ laws-law.refl c.insert_full.new.self.keys c.in_ok-place.ensures.unique; holder = n.holder; there = n.there; same = n.same ∙ sym (sym_same c.args.sym stored.0 stored.2); adds = inl refl }
