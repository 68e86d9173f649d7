use Rattle.std.proofs.Common.{ap}
use Rattle.bd_app.specs.Meaning.{files_seen}
use Rattle.bd_app.specs.Program.{sink_seen}
use Rattle.bd_app.specs.Words.{texts_of}
use Rattle.bd_app.specs.declared.answer.Ended.TheVariants.{Usage}
use Rattle.bd_app.proofs.Answered.{answered, before_out, headline, out_rises, put_once, silent, untaken}
use Rattle.bd_app.proofs.Pieces.{in_pieces_seen}
use Rattle.bd_app.proofs.program.run.Goals as goal

pub returns-clause-correct : goal.returns-clause-correct
returns-clause-correct g c =
    let r = c.answer_of-answer in
    let put = c.put_report-ended in
    (headline (texts_of c.args.words.now) put.result (files_seen g.F.Files.held g.F.Files.faults g.F.Files.blame g.F.Files.calls c.args.files.now) (files_seen g.F.Files.held g.F.Files.faults g.F.Files.blame g.F.Files.calls r.new.files)
    (sink_seen g.O.Sink.written g.O.Sink.faults g.O.Sink.puts c.args.out.now) (sink_seen g.O.Sink.written g.O.Sink.faults g.O.Sink.puts put.new.out)
    (λ none. untaken _ _ r.result put.result _ _ put.ensures.fault put.ensures.report (r.ensures.usage none))
    (λ q asks. answered _ _ q r.result put.result _ _ _ _ put.ensures.fault put.ensures.report put.ensures.once (r.ensures.done q asks))).correct

pub returns-clause-wrong : goal.returns-clause-wrong
returns-clause-wrong g c =
    let r = c.answer_of-answer in
    let put = c.put_report-ended in
    (headline (texts_of c.args.words.now) put.result (files_seen g.F.Files.held g.F.Files.faults g.F.Files.blame g.F.Files.calls c.args.files.now) (files_seen g.F.Files.held g.F.Files.faults g.F.Files.blame g.F.Files.calls r.new.files)
    (sink_seen g.O.Sink.written g.O.Sink.faults g.O.Sink.puts c.args.out.now) (sink_seen g.O.Sink.written g.O.Sink.faults g.O.Sink.puts put.new.out)
    (λ none. untaken _ _ r.result put.result _ _ put.ensures.fault put.ensures.report (r.ensures.usage none))
    (λ q asks. answered _ _ q r.result put.result _ _ _ _ put.ensures.fault put.ensures.report put.ensures.once (r.ensures.done q asks))).wrong

pub returns-clause-void : goal.returns-clause-void
returns-clause-void g c =
    let r = c.answer_of-answer in
    let put = c.put_report-ended in
    (headline (texts_of c.args.words.now) put.result (files_seen g.F.Files.held g.F.Files.faults g.F.Files.blame g.F.Files.calls c.args.files.now) (files_seen g.F.Files.held g.F.Files.faults g.F.Files.blame g.F.Files.calls r.new.files)
    (sink_seen g.O.Sink.written g.O.Sink.faults g.O.Sink.puts c.args.out.now) (sink_seen g.O.Sink.written g.O.Sink.faults g.O.Sink.puts put.new.out)
    (λ none. untaken _ _ r.result put.result _ _ put.ensures.fault put.ensures.report (r.ensures.usage none))
    (λ q asks. answered _ _ q r.result put.result _ _ _ _ put.ensures.fault put.ensures.report put.ensures.once (r.ensures.done q asks))).void

pub returns-clause-proved : goal.returns-clause-proved
returns-clause-proved g c =
    let r = c.answer_of-answer in
    let put = c.put_report-ended in
    (headline (texts_of c.args.words.now) put.result (files_seen g.F.Files.held g.F.Files.faults g.F.Files.blame g.F.Files.calls c.args.files.now) (files_seen g.F.Files.held g.F.Files.faults g.F.Files.blame g.F.Files.calls r.new.files)
    (sink_seen g.O.Sink.written g.O.Sink.faults g.O.Sink.puts c.args.out.now) (sink_seen g.O.Sink.written g.O.Sink.faults g.O.Sink.puts put.new.out)
    (λ none. untaken _ _ r.result put.result _ _ put.ensures.fault put.ensures.report (r.ensures.usage none))
    (λ q asks. answered _ _ q r.result put.result _ _ _ _ put.ensures.fault put.ensures.report put.ensures.once (r.ensures.done q asks))).proved

pub returns-clause-kept : goal.returns-clause-kept
returns-clause-kept g c =
    let r = c.answer_of-answer in
    let put = c.put_report-ended in
    (headline (texts_of c.args.words.now) put.result (files_seen g.F.Files.held g.F.Files.faults g.F.Files.blame g.F.Files.calls c.args.files.now) (files_seen g.F.Files.held g.F.Files.faults g.F.Files.blame g.F.Files.calls r.new.files)
    (sink_seen g.O.Sink.written g.O.Sink.faults g.O.Sink.puts c.args.out.now) (sink_seen g.O.Sink.written g.O.Sink.faults g.O.Sink.puts put.new.out)
    (λ none. untaken _ _ r.result put.result _ _ put.ensures.fault put.ensures.report (r.ensures.usage none))
    (λ q asks. answered _ _ q r.result put.result _ _ _ _ put.ensures.fault put.ensures.report put.ensures.once (r.ensures.done q asks))).kept

pub returns-clause-broken : goal.returns-clause-broken
returns-clause-broken g c =
    let r = c.answer_of-answer in
    let put = c.put_report-ended in
    (headline (texts_of c.args.words.now) put.result (files_seen g.F.Files.held g.F.Files.faults g.F.Files.blame g.F.Files.calls c.args.files.now) (files_seen g.F.Files.held g.F.Files.faults g.F.Files.blame g.F.Files.calls r.new.files)
    (sink_seen g.O.Sink.written g.O.Sink.faults g.O.Sink.puts c.args.out.now) (sink_seen g.O.Sink.written g.O.Sink.faults g.O.Sink.puts put.new.out)
    (λ none. untaken _ _ r.result put.result _ _ put.ensures.fault put.ensures.report (r.ensures.usage none))
    (λ q asks. answered _ _ q r.result put.result _ _ _ _ put.ensures.fault put.ensures.report put.ensures.once (r.ensures.done q asks))).broken

pub returns-clause-right_by : goal.returns-clause-right_by
returns-clause-right_by g c =
    let r = c.answer_of-answer in
    let put = c.put_report-ended in
    (headline (texts_of c.args.words.now) put.result (files_seen g.F.Files.held g.F.Files.faults g.F.Files.blame g.F.Files.calls c.args.files.now) (files_seen g.F.Files.held g.F.Files.faults g.F.Files.blame g.F.Files.calls r.new.files)
    (sink_seen g.O.Sink.written g.O.Sink.faults g.O.Sink.puts c.args.out.now) (sink_seen g.O.Sink.written g.O.Sink.faults g.O.Sink.puts put.new.out)
    (λ none. untaken _ _ r.result put.result _ _ put.ensures.fault put.ensures.report (r.ensures.usage none))
    (λ q asks. answered _ _ q r.result put.result _ _ _ _ put.ensures.fault put.ensures.report put.ensures.once (r.ensures.done q asks))).right_by

pub returns-clause-wrong_by : goal.returns-clause-wrong_by
returns-clause-wrong_by g c =
    let r = c.answer_of-answer in
    let put = c.put_report-ended in
    (headline (texts_of c.args.words.now) put.result (files_seen g.F.Files.held g.F.Files.faults g.F.Files.blame g.F.Files.calls c.args.files.now) (files_seen g.F.Files.held g.F.Files.faults g.F.Files.blame g.F.Files.calls r.new.files)
    (sink_seen g.O.Sink.written g.O.Sink.faults g.O.Sink.puts c.args.out.now) (sink_seen g.O.Sink.written g.O.Sink.faults g.O.Sink.puts put.new.out)
    (λ none. untaken _ _ r.result put.result _ _ put.ensures.fault put.ensures.report (r.ensures.usage none))
    (λ q asks. answered _ _ q r.result put.result _ _ _ _ put.ensures.fault put.ensures.report put.ensures.once (r.ensures.done q asks))).wrong_by

pub returns-clause-agrees : goal.returns-clause-agrees
returns-clause-agrees g c =
    let r = c.answer_of-answer in
    let put = c.put_report-ended in
    (headline (texts_of c.args.words.now) put.result (files_seen g.F.Files.held g.F.Files.faults g.F.Files.blame g.F.Files.calls c.args.files.now) (files_seen g.F.Files.held g.F.Files.faults g.F.Files.blame g.F.Files.calls r.new.files)
    (sink_seen g.O.Sink.written g.O.Sink.faults g.O.Sink.puts c.args.out.now) (sink_seen g.O.Sink.written g.O.Sink.faults g.O.Sink.puts put.new.out)
    (λ none. untaken _ _ r.result put.result _ _ put.ensures.fault put.ensures.report (r.ensures.usage none))
    (λ q asks. answered _ _ q r.result put.result _ _ _ _ put.ensures.fault put.ensures.report put.ensures.once (r.ensures.done q asks))).agrees

pub returns-clause-differs : goal.returns-clause-differs
returns-clause-differs g c =
    let r = c.answer_of-answer in
    let put = c.put_report-ended in
    (headline (texts_of c.args.words.now) put.result (files_seen g.F.Files.held g.F.Files.faults g.F.Files.blame g.F.Files.calls c.args.files.now) (files_seen g.F.Files.held g.F.Files.faults g.F.Files.blame g.F.Files.calls r.new.files)
    (sink_seen g.O.Sink.written g.O.Sink.faults g.O.Sink.puts c.args.out.now) (sink_seen g.O.Sink.written g.O.Sink.faults g.O.Sink.puts put.new.out)
    (λ none. untaken _ _ r.result put.result _ _ put.ensures.fault put.ensures.report (r.ensures.usage none))
    (λ q asks. answered _ _ q r.result put.result _ _ _ _ put.ensures.fault put.ensures.report put.ensures.once (r.ensures.done q asks))).differs

pub returns-clause-run : goal.returns-clause-run
returns-clause-run g c =
    let r = c.answer_of-answer in
    let put = c.put_report-ended in
    record {
      headline = headline (texts_of c.args.words.now) put.result (files_seen g.F.Files.held g.F.Files.faults g.F.Files.blame g.F.Files.calls c.args.files.now) (files_seen g.F.Files.held g.F.Files.faults g.F.Files.blame g.F.Files.calls r.new.files)
          (sink_seen g.O.Sink.written g.O.Sink.faults g.O.Sink.puts c.args.out.now) (sink_seen g.O.Sink.written g.O.Sink.faults g.O.Sink.puts put.new.out)
          (λ none. untaken _ _ r.result put.result _ _ put.ensures.fault put.ensures.report (r.ensures.usage none))
          (λ q asks. answered _ _ q r.result put.result _ _ _ _ put.ensures.fault put.ensures.report put.ensures.once (r.ensures.done q asks));
      usage_only = λ is. r.ensures.usage_only (before_out _ _ r.result put.result _ _ put.ensures.fault put.ensures.report Usage (λ h. cc h) is);
      usage = λ none. untaken _ _ r.result put.result _ _ put.ensures.fault put.ensures.report (r.ensures.usage none);
      untouched = λ none. ap (files_seen g.F.Files.held g.F.Files.faults g.F.Files.blame g.F.Files.calls) (r.ensures.untouched none);
      answered = λ q asks. answered _ _ q r.result put.result _ _ _ _ put.ensures.fault put.ensures.report put.ensures.once (r.ensures.done q asks);
      out_rose = λ is. out_rises _ _ _ r.result put.result _ _ put.ensures.fault put.ensures.report r.ensures.report is;
      silent = λ quiet other. ap (sink_seen g.O.Sink.written g.O.Sink.faults g.O.Sink.puts) (silent _ _ r.result put.result _ _ put.ensures.fault put.ensures.report r.ensures.report quiet other);
      line = c.put_line.ensures.line;
      line_puts = in_pieces_seen g.E.Sink.written g.E.Sink.faults g.E.Sink.puts c.put_line.ensures.pieces;
      no_line = λ reported. ap (sink_seen g.E.Sink.written g.E.Sink.faults g.E.Sink.puts) (c.put_line.ensures.no_line reported);
      files_never_fall = r.ensures.never_falls;
      out_never_falls = put.ensures.never_falls;
      err_never_falls = c.put_line.ensures.never_falls;
    }

pub returns-clause-silent : goal.returns-clause-silent
returns-clause-silent g c = λ quiet other.
    let r = c.answer_of-answer in
    let put = c.put_report-ended in
    silent _ _ r.result put.result _ _ put.ensures.fault put.ensures.report r.ensures.report quiet other

pub returns-clause-calls : goal.returns-clause-calls
returns-clause-calls g c = λ q asks.
    let r = c.answer_of-answer in
    let put = c.put_report-ended in
    (answered _ _ q r.result put.result (files_seen g.F.Files.held g.F.Files.faults g.F.Files.blame g.F.Files.calls c.args.files.now) (files_seen g.F.Files.held g.F.Files.faults g.F.Files.blame g.F.Files.calls r.new.files)
    (sink_seen g.O.Sink.written g.O.Sink.faults g.O.Sink.puts c.args.out.now) (sink_seen g.O.Sink.written g.O.Sink.faults g.O.Sink.puts put.new.out)
    put.ensures.fault put.ensures.report put.ensures.once (r.ensures.done q asks)).effects.called

pub returns-clause-one_put : goal.returns-clause-one_put
returns-clause-one_put g c = λ either.
    let r = c.answer_of-answer in
    let put = c.put_report-ended in
    put_once _ _ r.result put.result put.ensures.fault put.ensures.once either
