use Rattle.tabled.proofs.Names.{Err, Ok, PutsOutput, Result, TableError, block, refl, sends-along, sent_since, table_text, with_feed}
use Rattle.tabled_line.proofs.Sending.{finished}
use Rattle.tabled.proofs.BytesSince.{puts_writes}
use Rattle.tabled.proofs.Outputs.{either_output, output_of, output_refused, since_put, feed_none, feed_some}
use Rattle.tabled.proofs.program.print_blocked.Goals as goal

pub returns-in-Err : goal.returns-in-Err
returns-in-Err g c =
    let name = g.B.WriterStart.name in
    let held = g.B.WriterStart.held in
    let a = block g.W.Write.contents c.args.sink in
    let b = block g.W.Write.contents c.render.new.sink.sink in
    let r : Result (Unit {0}) TableError = Err c.in-Err.error in
    let h : PutsOutput c.args.plan c.as_str-text.result.now (sent_since name held a).bytes r (sent_since name held b).bytes =
    output_refused (Unit {0}) c.args.plan c.as_str-text.result.now (sent_since name held a) (sent_since name held b) c.in-Err.error r refl c.in-Err.ensures.rendered in
    let p = since_put c.args.plan _ _ c.as_str-text.ensures.value name held a b r c.requires.name c.requires.held h in
    record { put = p.0; advanced = p.1 }

pub returns-then-is_empty : goal.returns-then-is_empty
returns-then-is_empty g c =
    let name = g.B.WriterStart.name in
    let held = g.B.WriterStart.held in
    let text = c.as_str-text.result.now in
    let a = block g.W.Write.contents c.args.sink in
    let b = block g.W.Write.contents c.render.new.sink.sink in
    let r : Result (Unit {0}) TableError = Ok tt in
    let s = c.in-Ok.ensures.rendered in
    let h : PutsOutput c.args.plan text (sent_since name held a).bytes r (sent_since name held b).bytes =
    record {
      output = with_feed (table_text s.table);
      is_output = output_of c.args.plan text _ _ s;
      puts = (sends-along _ _ _ _ s.sends (feed_none c.args.plan text s.table c.if-is_empty.ensures s.is_planned)).added;
    } in
    let p = since_put c.args.plan _ _ c.as_str-text.ensures.value name held a b r c.requires.name c.requires.held h in
    record { put = p.0; advanced = p.1 }

pub returns : goal.returns
returns g c =
    let name = g.B.WriterStart.name in
    let held = g.B.WriterStart.held in
    let text = c.as_str-text.result.now in
    let a = block g.W.Write.contents c.args.sink in
    let b = block g.W.Write.contents c.write_text-result.new.self.sink in
    let r = c.write_text-result.result in
    let s = c.in-Ok.ensures.rendered in
    let h : PutsOutput c.args.plan text (sent_since name held a).bytes r (sent_since name held b).bytes =
    record {
      output = with_feed (table_text s.table);
      is_output = either_output c.args.plan text _ _ _ r _ c.write_text-result.ensures.written (output_of c.args.plan text _ _ s);
      puts = puts_writes _ _ r _
          (finished _ _ _ _ s.sends c.write_text-result.ensures.written (feed_some c.args.plan text s.table c.if-is_empty.ensures s.is_planned));
    } in
    let p = since_put c.args.plan _ _ c.as_str-text.ensures.value name held a b r c.requires.name c.requires.held h in
    record { put = p.0; advanced = p.1 }
