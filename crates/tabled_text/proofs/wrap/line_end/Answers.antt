use Rattle.tabled_text.proofs.Names.{BreaksAt, IsCharBoundary-from_ascii, IsSplitAt, ap, arith, get_or, subst, sym, ◌-◌, ◌∙◌}
use Rattle.tabled_text.proofs.Pieces.{IsAscii-printable}
use Rattle.tabled_text.proofs.WordBreaks.{breaks-before, breaks-full, breaks-inside, breaks-one, breaks-word, passes, word-split}
use Rattle.tabled_text.proofs.wrap.line_end.Goals as goal

pub split_at-requires : goal.split_at-requires
split_at-requires c = IsCharBoundary-from_ascii c.args.line.now c.after_space-at.result
    (IsAscii-printable c.args.line.now c.requires.printable) (omega (arith, c.after_space-at.ensures.within))

pub returns-then-not-words : goal.returns-then-not-words
returns-then-not-words c =
    subst (λ words. BreaksAt c.args.n words c.args.line.now c.args.n) (sym c.if-not-words.true)
    (breaks-full c.args.n c.args.line.now c.requires.some c.requires.printable c.requires.more)

pub returns-then-next-eq32 : goal.returns-then-next-eq32
returns-then-next-eq32 c =
    subst (λ words. BreaksAt c.args.n words c.args.line.now c.args.n) (sym c.if-not-words.false)
    (breaks-before c.args.n c.args.line.now c.requires.some c.requires.printable c.requires.more
    (ap (λ bytes. get_or bytes c.args.n 0) (sym c.as_bytes-bytes.ensures.value) ∙ c.if-next-eq32.true))

pub returns-then-width-n : goal.returns-then-width-n
returns-then-width-n c =
    let n = c.args.n in
    let at = c.after_space-at.result in
    let split = subst (λ l. IsSplitAt 32 l c.split_at_byte.result.0.now c.split_at_byte.result.1) c.split_at.ensures.back c.split_at_byte.ensures in
    subst (λ words. BreaksAt n words c.args.line.now n) (sym c.if-not-words.false)
    (breaks-inside n at (n - at) c.args.line.now c.split_at_byte.result.0.now c.requires.some c.requires.printable c.requires.more
    (omega (arith, c.after_space-at.ensures.within))
    (λ some. ap (λ bytes. get_or bytes (at - 1) 0) (sym c.as_bytes-bytes.ensures.value) ∙ c.after_space-at.ensures.space some)
    (word-split _ _ _ split) (omega arith))

pub returns-then-at-eq0 : goal.returns-then-at-eq0
returns-then-at-eq0 c =
    let at = c.after_space-at.result in
    subst (λ words. BreaksAt c.args.n words c.args.line.now c.args.n) (sym c.if-not-words.false)
    (breaks-one c.args.n c.args.line.now c.requires.some c.requires.printable c.requires.more
    (λ j to is. c.after_space-at.ensures.none j (omega arith) to (ap (λ bytes. get_or bytes j 0) c.as_bytes-bytes.ensures.value ∙ is))
    (λ is. c.if-next-eq32.false (ap (λ bytes. get_or bytes c.args.n 0) c.as_bytes-bytes.ensures.value ∙ is)))

pub returns : goal.returns
returns c =
    let n = c.args.n in
    let at = c.after_space-at.result in
    let line = c.args.line.now in
    let word = c.split_at_byte.result.0.now in
    let split = subst (λ l. IsSplitAt 32 l word c.split_at_byte.result.1) c.split_at.ensures.back c.split_at_byte.ensures in
    subst (λ words. BreaksAt n words line at) (sym c.if-not-words.false)
    (breaks-word n at line word c.split_at_byte.result.1 c.requires.some c.requires.printable c.after_space-at.ensures.within
    c.requires.more
    (λ some. ap (λ bytes. get_or bytes (at - 1) 0) (sym c.as_bytes-bytes.ensures.value) ∙ c.after_space-at.ensures.space some) split
    (omega arith)
    (passes n at line word c.requires.more c.after_space-at.ensures.within (word-split _ _ _ split)
    (λ j from to is. c.after_space-at.ensures.none j from to (ap (λ bytes. get_or bytes j 0) c.as_bytes-bytes.ensures.value ∙ is))
    (λ is. c.if-next-eq32.false (ap (λ bytes. get_or bytes n 0) c.as_bytes-bytes.ensures.value ∙ is))))
