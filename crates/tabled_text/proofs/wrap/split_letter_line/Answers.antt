use Rattle.tabled_text.proofs.Names.{IsLetterLine, IsUtf8-past_char, [], arith, subst, sym, ◌∙◌, ◌∷◌, ◌≡◌}
use Rattle.tabled_text.proofs.CutLemmas.{front_boundary, front_taken}
use Rattle.tabled_text.proofs.LetterPieces.{letter-alone, letter-none, letter-piece, letter-replaced}
use Rattle.tabled_text.proofs.wrap.split_letter_line.Goals as goal

pub split_at-requires : goal.split_at-requires
split_at-requires c =
    let b = c.in-Some.ensures in
    front_boundary _ _ b.parts (IsUtf8-past_char c.args.text.now c.in-Some.after.now b.first c.utf8.text b.parts)

pub returns-then-n-gt1 : goal.returns-then-n-gt1
returns-then-n-gt1 c =
    let piece = c.split_piece.result in
    letter-piece c.args.n piece.1 c.args.text.now piece.0.now piece.2.now c.requires.letters c.split_piece.ensures.piece
    c.requires.some (λ small. absurd (omega arith)) c.split_piece.ensures.most

pub returns-in_default : goal.returns-in_default
returns-in_default c = letter-none c.args.n c.args.text.now c.utf8.text c.in_default.ensures

pub returns-then-count-gt1 : goal.returns-then-count-gt1
returns-then-count-gt1 c =
    let one : c.args.n ≡ 1 = omega arith in
    subst (λ k. IsLetterLine k c.args.text.now (0xEF ∷ 0xBF ∷ 0xBD ∷ []) 1 c.in-Some.after.now) (sym one)
    (letter-replaced c.in-Some.count c.args.text.now c.in-Some.after.now c.utf8.text c.requires.letters c.in-Some.ensures (omega arith))

pub returns : goal.returns
returns c =
    let b = c.in-Some.ensures in
    let one : c.args.n ≡ 1 = omega arith in
    subst (λ k. IsLetterLine k c.args.text.now c.split_at.result.0.now 1 c.in-Some.after.now) (sym one)
    (letter-alone c.in-Some.count c.args.text.now c.in-Some.after.now c.utf8.text c.requires.letters b c.split_at.result.0.now
    (c.split_at.ensures.front ∙ front_taken _ _ b.parts) (omega arith))
