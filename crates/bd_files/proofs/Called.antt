-- Calls one after another.
use Rattle.std.proofs.Common.{◌∙◌, List, [], ◌++◌, Option, Some, None, ap, append-nil, append_assoc, sym}
use Rattle.bd_files.specs.Devices.{Call, Makes}

-- no call was made of an object that stands
pub makes_none : (o : Option (List Call)) → Makes o o []
makes_none None = tt
makes_none (Some made) = sym (append-nil made)

-- some calls, and then others
pub makes_then : (a b c : Option (List Call)) (xs ys : List Call) → Makes a b xs → Makes b c ys → Makes a c (xs ++ ys)
makes_then None None None xs ys first second = tt
makes_then None None (Some c) xs ys first second = absurd second
makes_then None (Some b) c xs ys first second = absurd first
makes_then (Some a) None None xs ys first second = tt
makes_then (Some a) None (Some c) xs ys first second = absurd second
makes_then (Some a) (Some b) None xs ys first second = tt
makes_then (Some a) (Some b) (Some c) xs ys first second =
    second ∙ ap (λ made. made ++ ys) first ∙ append_assoc a xs ys
