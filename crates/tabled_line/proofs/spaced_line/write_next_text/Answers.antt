use Rattle.tabled_line.proofs.Names.{ap, append-nil, append_assoc, cell_piece, eqb-true, fill, has_bar, length, piece, refl, sym, ◌++◌, ◌∙◌}
use Rattle.tabled_line.proofs.Owing.{but-stopped, owes-nothing}
use Rattle.tabled_line.proofs.Sending.{further, sends-none}
use Rattle.tabled_line.proofs.Placing.{no-text, spaced-parts}
use Rattle.tabled_line.proofs.spaced_line.write_next_text.Goals as goal

pub returns-in_err-write_separator-in-Some : goal.returns-in_err-write_separator-in-Some
returns-in_err-write_separator-in-Some g c =
    let placed = c.in-Some.placed in
    let frame = (g.R.Row.sheet c.args.row.now).columns.frame in
    but-stopped _ _ (placed.text.now ++ fill 32 placed.behind) (sends-none _)
    (c.in_err-write_separator-in-Some.ensures frame c.requires.bar) c.from_residual.ensures.1
    (spaced-parts (g.R.Row.sheet c.args.row.now) c.args.spaced.now.line.index c.args.column placed c.args.spaced.now.behind c.in-Some.ensures)

pub returns-then-is_empty : goal.returns-then-is_empty
returns-then-is_empty g c =
    let placed = c.in-Some.placed in
    let frame = (g.R.Row.sheet c.args.row.now).columns.frame in
    let none = no-text placed.text.now (eqb-true (length placed.text.now) 0 (sym c.is_empty.ensures ∙ c.if-is_empty.true)) in
    let sent = fill 32 c.args.spaced.now.behind ++ (piece (has_bar frame c.args.column) frame.inner.main ++ fill 32 placed.before) in
    record {
      sent = sent;
      sends = c.in_ok-write_separator-in-Some.ensures frame c.requires.bar;
      whole = ap (λ t. sent ++ (t ++ fill 32 placed.behind)) none
          ∙ sym (spaced-parts (g.R.Row.sheet c.args.row.now) c.args.spaced.now.line.index c.args.column placed
          c.args.spaced.now.behind c.in-Some.ensures);
    }

pub returns-in_err-write_text-in-Some : goal.returns-in_err-write_text-in-Some
returns-in_err-write_text-in-Some g c =
    let placed = c.in-Some.placed in
    let frame = (g.R.Row.sheet c.args.row.now).columns.frame in
    but-stopped _ _ (fill 32 placed.behind) (c.in_ok-write_separator-in-Some.ensures frame c.requires.bar)
    c.in_err-write_text-in-Some.ensures.written
    c.from_residual-in_err-write_text-in-Some.ensures.1
    (spaced-parts (g.R.Row.sheet c.args.row.now) c.args.spaced.now.line.index c.args.column placed c.args.spaced.now.behind c.in-Some.ensures)

pub returns-in_ok-write_text-in-Some : goal.returns-in_ok-write_text-in-Some
returns-in_ok-write_text-in-Some g c =
    let placed = c.in-Some.placed in
    let frame = (g.R.Row.sheet c.args.row.now).columns.frame in
    record {
      sent = _;
      sends = further (c.in_ok-write_separator-in-Some.ensures frame c.requires.bar) c.in_ok-write_text-in-Some.ensures.written refl;
      whole = append_assoc _ placed.text.now (fill 32 placed.behind)
          ∙ sym (spaced-parts (g.R.Row.sheet c.args.row.now) c.args.spaced.now.line.index c.args.column placed c.args.spaced.now.behind c.in-Some.ensures);
    }

pub returns-in_err-write_spaces-in-None : goal.returns-in_err-write_spaces-in-None
returns-in_err-write_spaces-in-None g c =
    but-stopped _ _ (cell_piece (g.R.Row.sheet c.args.row.now) c.args.spaced.now.line.index c.args.column) (sends-none _) c.in_err-write_spaces-in-None.ensures
    c.from_residual-in_err-write_spaces-in-None.ensures.1 refl

pub returns-in_err-write_cell-in-None : goal.returns-in_err-write_cell-in-None
returns-in_err-write_cell-in-None g c =
    but-stopped _ _ _ c.in_ok-write_spaces-in-None.ensures c.in_err-write_cell-in-None.ensures
    c.from_residual-in_err-write_cell-in-None.ensures.1 (ap (λ u. fill 32 c.args.spaced.now.behind ++ u) (sym (append-nil _)))

pub returns-in_ok-write_cell-in-None : goal.returns-in_ok-write_cell-in-None
returns-in_ok-write_cell-in-None g c =
    owes-nothing _ (further c.in_ok-write_spaces-in-None.ensures c.in_ok-write_cell-in-None.ensures refl)
