use Rattle.tabled_records.proofs.Names.{[], append-nil, sym, ◌∙◌}
use Rattle.std.proofs.lemmas.Result.{on_ok_weaker}
use Rattle.tabled_records.proofs.ToldTexts.{told-none}
use Rattle.tabled_records.proofs.narrowed_texts.CellNarrower.push.Goals as goal

pub returns-then-n-eq0-clause-ok : goal.returns-then-n-eq0-clause-ok
returns-then-n-eq0-clause-ok g c =
    let s = c.args.self.now in
    on_ok_weaker c.push.result
    (λ e. record {
      told = (c.args.columns, 1);
      added = e;
      more = [];
      made = sym (append-nil s.texts.made);
      is_told = told-none (g.N.Narrowing.makes s.narrowing) (g.N.Narrowing.tells s.narrowing) c.args.width c.args.text.now (c.args.columns, 1)
          s.texts.made (sym c.unwrap_or-n.ensures ∙ c.if-n-eq0.true);
    })
    c.push.ensures.ok
