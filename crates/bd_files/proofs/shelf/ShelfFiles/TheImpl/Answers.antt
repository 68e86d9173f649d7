use Rattle.std.proofs.Common.{rules, ap, ◌∙◌}
use Rattle.std.proofs.lemmas.Result.{on_ok_weaker}
use Rattle.bd_files.specs.Shelf.{ShelfState, bytes_of}
use Rattle.bd_files.proofs.Lookups.{bytes_of-put_file, keeps_others}
use Rattle.bd_files.proofs.shelf.ShelfFiles.TheImpl.Goals as goal

pub save-tells : goal.save-tells
save-tells c =
    let old = c.args.self.now in
    let name = c.args.name.now in
    let bytes = c.args.bytes.now in
    record {
      saved = on_ok_weaker c.result (λ is. ap (λ (shelf : ShelfState). bytes_of shelf.held name) is ∙ bytes_of-put_file old.held name bytes) c.ensures.ok;
      keeps_others = λ other. keeps_others c.result old c.new.self.now name bytes other c.ensures.ok c.ensures.failed c.ensures.memory;
      called = c.ensures.called;
      never_falls = search rules;
      failed_rose = search rules;
      failed_blames = search rules;
      else_keeps_blame = search rules;
    }
