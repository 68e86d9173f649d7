use Rattle.std.proofs.Common.{Some, ap, refl, sym}
use Rattle.bd_app.specs.Words.{texts_of}
use Rattle.bd_files.specs.Shelf.{bytes_of, files_of}
use Rattle.bd_web.specs.Handed.{back_parts}
use Rattle.bd_web.proofs.Coming.{begins, folder_seen, page_seen}
use Rattle.bd_web.proofs.page.run_between.Goals as goal

pub returns-in-Ok-clause-ran : goal.returns-in-Ok-clause-ran
returns-in-Ok-clause-ran c =
    let folder = c.run-status.new.files in
    record {
      parts = back_parts c.written.result.now c.written-2.result.now (files_of c.files.result.now);
      run = record {
        left = folder_seen folder.files folder.faults;
        out = page_seen c.run-status.new.out;
        err = page_seen c.run-status.new.err;
        ends = begins (texts_of c.args.words.now) c.run-status.result c.args.folder.now c.args.out.now c.args.err.now _ _ _ _ _ c.requires.folder c.requires.out c.requires.err c.run-status.ensures;
        put = c.written.result.now;
        said = c.written-2.result.now;
        files' = files_of c.files.result.now;
        put_is = ap Some (sym c.written.ensures);
        said_is = ap Some (sym c.written-2.ensures);
        files_are = ap (λ files. Some (bytes_of files)) (sym c.files.ensures);
        comes_back = refl;
      };
      laid = c.in-Ok.ensures;
    }
