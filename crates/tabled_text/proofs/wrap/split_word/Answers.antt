use Rattle.tabled_text.proofs.Names.{Bor, IfSome, IsSplitAt, IsUtf8, List, None, Option, Some, ap, arith, length, length-drop, ℕ, ◌+◌, ◌<◌}
use Rattle.tabled_text.proofs.Searched.{words-split}
use Rattle.tabled_text.proofs.wrap.split_word.Goals as goal

after_is : (text front : List ℕ) (after : Option (Bor (List ℕ))) → IsSplitAt 32 text front after
    → IfSome after (λ rest. IsUtf8 rest.now × (length rest.now < length text))
after_is text front None s = tt
after_is text front (Some rest) s =
    let h = s.after_is in let l = h.0 in (h.2, omega (arith, ap length h.1, length-drop (length front + 1) text))

pub returns-clause-words : goal.returns-clause-words
returns-clause-words c = words-split c.args.text.now c.split_at_byte.result.0.now c.split_at_byte.result.1 c.split_at_byte.ensures

pub returns-clause-word : goal.returns-clause-word
returns-clause-word c = c.split_at_byte.ensures.utf8

pub returns-clause-after : goal.returns-clause-after
returns-clause-after c = after_is c.args.text.now c.split_at_byte.result.0.now c.split_at_byte.result.1 c.split_at_byte.ensures
