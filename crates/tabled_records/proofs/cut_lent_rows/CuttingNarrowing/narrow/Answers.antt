use Rattle.tabled_records.proofs.Names.{ap, append-nil, arith, cond, subst, sym, take, text_columns}
use Rattle.std.proofs.Common.{encode_utf8}
use Rattle.tabled_records.proofs.Names.{◌++◌, ◌∙◌}
use Rattle.tabled_records.proofs.CutLent.{cuts-one_line, cuts-wide, front-bytes}
use Rattle.tabled_text.proofs.CutText.{cut-text}
use Rattle.tabled_text.specs.Cut.{IsCutAt}
use Rattle.tabled_records.proofs.cut_lent_rows.CuttingNarrowing.narrow.Goals as goal

pub returns-in_ok-push-in-Some-default-true : goal.returns-in_ok-push-in-Some-default-true
returns-in_ok-push-in-Some-default-true c =
    let n = c.args.n in
    let line = c.args.line.now in
    let own : IsCutAt n line c.in-Some-default-true.bytes 1 =
    subst (λ b. IsCutAt n line c.in-Some-default-true.bytes (cond b 1 0)) c.in-Some-default-true.field-0-1-test c.in-Some-default-true.ensures in
    let wide = cuts-wide n line (omega (arith, c.if-columns-n.false, c.requires.columns)) in
    record {
      same = c.in_ok-push-in-Some-default-true.ensures.bytes
          ∙ ap (λ front. front ++ encode_utf8 0xFFFD)
          (c.in_ok-push_str-in-Some-default-true.ensures.bytes
          ∙ ap (λ front. front ++ c.range.result.now) c.clear.ensures.bytes
          ∙ c.range.ensures.value ∙ front-bytes c.in-Some-default-true.bytes line)
          ∙ ap (λ fill. take c.in-Some-default-true.bytes line ++ fill) (sym (append-nil (encode_utf8 0xFFFD)))
          ∙ sym own.same ∙ sym wide;
      columns_are = own.columns_are ∙ ap text_columns (sym wide);
      lines_are = sym (cuts-one_line n line c.utf8.line c.requires.one);
    }

pub returns-in_ok-append_cut-in-None : goal.returns-in_ok-append_cut-in-None
returns-in_ok-append_cut-in-None c =
    let n = c.args.n in
    let line = c.args.line.now in
    let own = c.in_ok-append_cut-in-None.ensures.added in
    let same = own.added ∙ ap (λ front. front ++ own.piece) c.clear-in-None.ensures.bytes ∙ cut-text c.utf8.line own.cut
    ∙ sym (cuts-wide n line (omega (arith, c.if-columns-n.false, c.requires.columns))) in
    record {
      same = same;
      columns_are = c.text_width.ensures.value ∙ ap text_columns (c.as_str.ensures.value ∙ same);
      lines_are = sym (cuts-one_line n line c.utf8.line c.requires.one);
    }
