use Rattle.std.proofs.Common.{◌≡◌, ◌∙◌, ◌++◌, ◌∷◌, ℕ, List, [], append_assoc, codes, subst, sym}
use Rattle.bd_files.specs.Devices.{PutsOrFaults}
use Rattle.bd_files.specs.Pieces.{PutsInPieces}
use Rattle.bd_app.specs.Pieces.{proof_pieces}
use Rattle.bd_app.proofs.proof_fault.put_parts.Goals as goal

-- eleven lists one after another, nested to either side
nested : (a b c d e f g h i j k : List ℕ)
    → (((((((((a ++ b) ++ c) ++ d) ++ e) ++ f) ++ g) ++ h) ++ i) ++ j) ++ k ≡ a ++ (b ++ (c ++ (d ++ (e ++ (f ++ (g ++ (h ++ (i ++ (j ++ k)))))))))
nested a b c d e f g h i j k =
    append_assoc ((((((((a ++ b) ++ c) ++ d) ++ e) ++ f) ++ g) ++ h) ++ i) j k
    ∙ append_assoc (((((((a ++ b) ++ c) ++ d) ++ e) ++ f) ++ g) ++ h) i (j ++ k)
    ∙ append_assoc ((((((a ++ b) ++ c) ++ d) ++ e) ++ f) ++ g) h (i ++ (j ++ k))
    ∙ append_assoc (((((a ++ b) ++ c) ++ d) ++ e) ++ f) g (h ++ (i ++ (j ++ k)))
    ∙ append_assoc ((((a ++ b) ++ c) ++ d) ++ e) f (g ++ (h ++ (i ++ (j ++ k))))
    ∙ append_assoc (((a ++ b) ++ c) ++ d) e (f ++ (g ++ (h ++ (i ++ (j ++ k)))))
    ∙ append_assoc ((a ++ b) ++ c) d (e ++ (f ++ (g ++ (h ++ (i ++ (j ++ k))))))
    ∙ append_assoc (a ++ b) c (d ++ (e ++ (f ++ (g ++ (h ++ (i ++ (j ++ k)))))))
    ∙ append_assoc a b (c ++ (d ++ (e ++ (f ++ (g ++ (h ++ (i ++ (j ++ k))))))))

pub returns-clause-line : goal.returns-clause-line
returns-clause-line g c =
    let a = c.args in
    subst (λ line. PutsOrFaults g.E.Sink.written g.E.Sink.faults a.err.now c.put_text.new.err line)
    (sym (nested (codes "proof:") a.line.now (codes ":") a.column.now (codes ": ") a.code.now (codes " ") a.text.now a.words.now a.number.now (10 ∷ []))) c.put_text.ensures.text

pub returns-clause-pieces : goal.returns-clause-pieces
returns-clause-pieces g c =
    let a = c.args in
    subst (λ line. PutsInPieces g.E.Sink.written g.E.Sink.faults g.E.Sink.puts a.err.now c.put_text.new.err line proof_pieces)
    (sym (nested (codes "proof:") a.line.now (codes ":") a.column.now (codes ": ") a.code.now (codes " ") a.text.now a.words.now a.number.now (10 ∷ []))) c.put_text.ensures.pieces
