use Rattle.std.proofs.Common.{◌≡◌, ◌+◌, ℕ, List, Vec, Global, Result, Ok, Err, sym, ap, subst, take}
use Rattle.std.specs.Prelude.{Option, Some, None, IfSome, IfOk}
use Rattle.bd_files.specs.Devices.{Held, IsLoaded}
use Rattle.bd_host.specs.Disk.{Opens}
use Rattle.bd_host.proofs.real_files.load_file.Goals as goal

-- what is read of a file to its end, or past the most bytes, is what is held under its name
loaded : {E : Type 0} (held : Option Held) (name : List ℕ) (most : ℕ) (remaining : Option (List ℕ)) (r : Result (Vec ℕ Global) E) → Opens held name remaining
    → IfSome remaining (λ input. IfOk r (λ bytes. bytes.items ≡ take (most + 1) input)) → IfOk r (λ bytes. IsLoaded held name most bytes.items)
loaded held name most remaining (Err e) opened read = tt
loaded None name most remaining (Ok bytes) opened read = tt
loaded (Some held) name most remaining (Ok bytes) opened read =
    let here : bytes.items ≡ take (most + 1) opened.0 = subst (λ o. IfSome o (λ input. bytes.items ≡ take (most + 1) input)) opened.2 read in
    rw opened.1 (ap Some (sym here))

pub returns-clause-loaded : goal.returns-clause-loaded
returns-clause-loaded g c = loaded (g.D.Disk.held c.args.disk.now) c.args.name.now c.args.most _ c.read_bytes.result c.in-Ok.ensures.told c.read_bytes.ensures.first
