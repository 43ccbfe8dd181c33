use Rattle.tabled_text.proofs.Names.{BeginsBy, IsLetter, subst, sym}
use Rattle.tabled_text.proofs.LetterLemmas.{IsSplitLetter}
use Rattle.tabled_text.proofs.LetterLines.{AreRead, known-one, known-three, known-two}
use Rattle.tabled_text.proofs.line_ends.split_known_letter.Goals as goal
use Rattle.tabled_text.proofs.line_ends.split_known_letter.Goals.{else-lead-lt128+else-lead-lt224, else-lead-lt128+then-lead-lt224}
use Rattle.tabled_text.proofs.line_ends.split_known_letter.Goals.{then-lead-lt128}

pub split_at-requires : goal.split_at-requires
split_at-requires c =
    let text = c.args.text.now in
    let read : AreRead text c.as_bytes.result.now = record {
      same = c.as_bytes.ensures.value;
      utf8 = c.utf8.text;
      letters = c.requires.letters;
      some = c.requires.some;
    } in
    let split : IsSplitLetter text c.if-lead-lt128.bytes.0 c.if-lead-lt128.bytes.1 = elim c.if-lead-lt128.branch [
      | then-lead-lt128 w ↦ known-one read w.bytes-is w.if-lead-lt128.true
      | else-lead-lt128+then-lead-lt224 w ↦ known-two read w.bytes-is w.if-lead-lt128.false w.if-lead-lt224.true
      | else-lead-lt128+else-lead-lt224 w ↦ known-three read w.bytes-is w.if-lead-lt224.false
    ] in
    split.at

pub returns : goal.returns
returns c =
    let text = c.args.text.now in
    let read : AreRead text c.as_bytes.result.now = record {
      same = c.as_bytes.ensures.value;
      utf8 = c.utf8.text;
      letters = c.requires.letters;
      some = c.requires.some;
    } in
    let split : IsSplitLetter text c.if-lead-lt128.bytes.0 c.if-lead-lt128.bytes.1 = elim c.if-lead-lt128.branch [
      | then-lead-lt128 w ↦ known-one read w.bytes-is w.if-lead-lt128.true
      | else-lead-lt128+then-lead-lt224 w ↦ known-two read w.bytes-is w.if-lead-lt128.false w.if-lead-lt224.true
      | else-lead-lt128+else-lead-lt224 w ↦ known-three read w.bytes-is w.if-lead-lt224.false
    ] in
    subst (BeginsBy (λ x. IsLetter x c.if-lead-lt128.bytes.1) text) (sym c.split_at.ensures.back) split.begins
