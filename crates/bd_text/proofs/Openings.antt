-- The open lists of a reader, as its definitions see them.
use Rattle.std.proofs.Common.{◌≡◌, ℕ, ◌+◌, ◌<◌, List, [], ◌∷◌, ◌++◌, map, reverse, length, get_or, ap, ◌∙◌}
use Rattle.std.proofs.lemmas.List.{map_push, reverse-append, length-reverse, length-map}
use Rattle.bd_text.specs.Nodes.{Nodes}
use Rattle.bd_text.specs.Faults.{OnBad}
use Rattle.bd_text.specs.inner.Progress.{opening_of, openings_of, IsReadTo, ClosesList}
use Rattle.bd_text.specs.declared.code.Code.{Code}
use Rattle.bd_text.specs.declared.fault.TextFault.{TextFault}
use Rattle.bd_text.specs.declared.fault.TextFault.TheVariants.{Bad, Memory}
use Rattle.bd_text.specs.declared.read.OpenList.{OpenList}
use Rattle.bd_text.proofs.Steps.{step_close}

pub openings_of-push : (ls : List OpenList) (l : OpenList) → openings_of (ls ++ l ∷ []) ≡ opening_of l ∷ openings_of ls
openings_of-push ls l = ap reverse (map_push opening_of ls l) ∙ reverse-append (map opening_of ls) (opening_of l ∷ [])

pub length-openings_of : (ls : List OpenList) → length (openings_of ls) ≡ length ls
length-openings_of ls = length-reverse (map opening_of ls) ∙ length-map ls opening_of

pub OnBad-weaker : (fault : TextFault) (P Q : ℕ → Code → Type 0) → ((o : ℕ) (code : Code) → P o code → Q o code) → OnBad fault P → OnBad fault Q
OnBad-weaker (Bad o code) P Q h p = h o code p
OnBad-weaker Memory P Q h p = tt

pub step_closes : (s : List ℕ) (at : ℕ) (parts : Nodes) (ls : List (ℕ × Nodes)) (new_parts : Nodes) (new_ls : List (ℕ × Nodes)) → IsReadTo s at parts ls
    → at < length s → get_or s at 0 ≡ 41 → ClosesList parts ls new_parts new_ls → IsReadTo s (at + 1) new_parts new_ls
step_closes s at parts [] new_parts new_ls r lt is h = absurd h
step_closes s at parts (l ∷ ls) new_parts new_ls r lt is h = rw (h.0, h.1) (step_close s at parts l ls r lt is)
