use Rattle.tabled_text.proofs.Names.{IsCharBoundary, IsUtf8-from_ascii, ap, arith, subst, sym, take, true, ◌∙◌, ◌≡◌}
use Rattle.std.proofs.lemmas.Str.{IsCharBoundary-from_take}
use Rattle.tabled_text.proofs.CutWhole.{IsParted-short}
use Rattle.tabled_text.proofs.Pieces.{IsAscii-printable, is_printable, parted-printable}
use Rattle.tabled_text.proofs.cut.part.Goals as goal

pub returns-then-text-n-clause-parted : goal.returns-then-text-n-clause-parted
returns-then-text-n-clause-parted c = IsParted-short c.args.n c.args.text.now c.utf8.text (omega arith)

pub split_at-requires-then-is_run : goal.split_at-requires-then-is_run
split_at-requires-then-is_run c =
    let n = c.args.n in
    let text = c.args.text.now in
    let front : c.split_at.result.0.now ≡ take n text = c.split_at.ensures.front ∙ ap (take n) c.as_bytes.ensures.value in
    let all : is_printable (take n text) ≡ true = ap is_printable (sym front) ∙ sym c.is_run.ensures ∙ c.if-is_run.true in
    IsCharBoundary-from_take text n c.utf8.text (omega arith) (IsUtf8-from_ascii (take n text) (IsAscii-printable (take n text) all))

pub returns-then-is_run-clause-parted : goal.returns-then-is_run-clause-parted
returns-then-is_run-clause-parted c =
    let n = c.args.n in
    let text = c.args.text.now in
    let front : c.split_at.result.0.now ≡ take n text = c.split_at.ensures.front ∙ ap (take n) c.as_bytes.ensures.value in
    let all : is_printable (take n text) ≡ true = ap is_printable (sym front) ∙ sym c.is_run.ensures ∙ c.if-is_run.true in
    parted-printable n text c.split_at-then-is_run.result.0.now c.split_at-then-is_run.result.1.now (omega arith) all
    c.split_at-then-is_run.ensures.front c.split_at-then-is_run.ensures.back

pub returns-then-is_run-clause-boundary : goal.returns-then-is_run-clause-boundary
returns-then-is_run-clause-boundary c =
    let n = c.args.n in
    let text = c.args.text.now in
    let front : c.split_at.result.0.now ≡ take n text = c.split_at.ensures.front ∙ ap (take n) c.as_bytes.ensures.value in
    let all : is_printable (take n text) ≡ true = ap is_printable (sym front) ∙ sym c.is_run.ensures ∙ c.if-is_run.true in
    subst (IsCharBoundary text) (sym c.split_at-then-is_run.ensures.front_len)
    (IsCharBoundary-from_take text n c.utf8.text (omega arith) (IsUtf8-from_ascii (take n text) (IsAscii-printable (take n text) all)))
