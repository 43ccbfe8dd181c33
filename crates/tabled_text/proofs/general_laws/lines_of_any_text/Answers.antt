use Rattle.tabled_text.proofs.LineLaws.{frame-append, frame-one, line-append, line-each, line-frame, line-framed, line-pieces, pieces-line}
use Rattle.tabled_text.proofs.general_laws.lines_of_any_text.Goals as goal

pub returns : goal.returns
returns g = record {
  frame = λ text n p. line-frame p;
  one = frame-one;
  frames = λ front back m n p q. frame-append p q;
  joined = λ front back m n p q h. line-append p q h;
  framed = λ left line right k n l p x q. line-framed p x q;
  pieces = λ first m pieces f h b. line-pieces first m f pieces h b;
  ended = λ pieces last m l h b. pieces-line pieces last m l h b;
  each = line-each;
}
