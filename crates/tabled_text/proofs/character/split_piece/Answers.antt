use Rattle.tabled_text.proofs.Names.{BeginsBy, IsPiece, List, [], ap, arith, char_count, chars, get_or, subst, sym, ℕ, ◌+◌, ◌-◌, ◌<◌, ◌∙◌}
use Rattle.tabled_text.proofs.Names.{◌∷◌, ◌≡◌}
use Rattle.tabled_text.proofs.CutLemmas.{front_boundary, front_taken}
use Rattle.tabled_text.proofs.LetterPieces.{letters-taken}
use Rattle.tabled_text.proofs.Pieces.{Taken-more}
use Rattle.tabled_text.proofs.character.split_piece.Goals as goal
use Rattle.tabled_text.proofs.character.split_piece.Goals.{in-Some+then-count-n, in_default}

pub chars-init : goal.chars-init
chars-init c =
    let e = c.split_letters-columns.ensures in
    letters-taken c.args.n c.split_letters-columns.result.1 e.parts e.front e.rest e.letters e.fits

pub chars-preserved : goal.chars-preserved
chars-preserved c =
    let fits = c.chars.invariant.is.fits in
    Taken-more c.args.n c.args.text.now c.chars.columns c.in-Some.count c.chars.rest.now c.in-Some.after.now c.chars.invariant c.in-Some.ensures (omega arith)

pub chars-smaller : goal.chars-smaller
chars-smaller c = c.in-Some.ensures.shorter

pub split_at-requires : goal.split_at-requires
split_at-requires c = front_boundary _ _ c.chars.invariant.is.parts c.chars.invariant.is.rest_utf8

pub returns-clause-piece : goal.returns-clause-piece
returns-clause-piece c =
    let t = c.chars.invariant in
    subst (λ l. IsPiece c.args.n c.args.text.now l c.chars.columns c.chars.rest.now) (sym (c.split_at.ensures.front ∙ front_taken _ _ t.is.parts)) t.is

-- a character that counts more than is left
passes : (n columns count : ℕ) (rest after : List ℕ) → BeginsBy (λ c. count ≡ char_count c) rest after → n - columns < count
    → (d : ℕ) (ds : List ℕ) → chars rest ≡ d ∷ ds → n < columns + char_count d
passes n columns count rest after b far d ds e =
    let same : b.first ≡ d = ap (λ l. get_or l 0 0) (sym b.characters ∙ e) in
    let is = b.is in
    omega (arith, ap char_count same)

pub returns-clause-most : goal.returns-clause-most
returns-clause-most c = λ d ds e. elim c.match-split_count.branch [
  | in-Some+then-count-n b ↦ passes c.args.n c.chars.columns b.in-Some.count c.chars.rest.now b.in-Some.after.now b.in-Some.ensures b.if-count-n.true d ds e
  | in_default b ↦ absurd (let clash : d ∷ ds ≡ [] = sym e ∙ b.in_default.ensures in cc)
]
