use Rattle.tabled_line.proofs.Names.{[], ap, rule_line, sym, unwrap_or, ◌++◌, ◌∙◌, ◌∷◌}
use Rattle.tabled_line.proofs.Sending.{sent-ok}
use Rattle.tabled_line.proofs.line_printer.CachedRule.lay_out.Goals as goal

pub returns-clause-kept : goal.returns-clause-kept
returns-clause-kept g c = λ line is whole.
    let sheet = g.C.TableColumns.sheet c.args.columns.now in
    let feed = c.in-Ok.ensures.written in
    let rule = sent-ok c.write_rule_line.result (sym c.is_ok-self.ensures.value ∙ whole) c.write_rule_line.ensures in
    rule.added ∙ ap (λ u. u ++ rule_line sheet c.args.line) (feed.added ∙ ap (λ u. u ++ (10 ∷ [])) c.clear.ensures)
    ∙ ap (λ k. 10 ∷ rule_line sheet k) (ap (λ o. unwrap_or o c.args.line) is)
