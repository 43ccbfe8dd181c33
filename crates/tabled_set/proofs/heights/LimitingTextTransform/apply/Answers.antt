use Rattle.tabled_set.proofs.Names.{List, [], ap, append-nil, arith, cond, encode_ascii, false, join_with_byte, lines_left, lit<, nat_lt}
use Rattle.tabled_set.proofs.Names.{nat_tests, string_bytes, suc, sym, take, true, zero, ℕ, ◌++◌, ◌-◌, ◌<◌, ◌∙◌, ◌∷◌, ◌≡◌}
use Rattle.tabled_set.proofs.JoinedLines.{appended, appended-all, appended-more}
use Rattle.tabled_set.proofs.heights.LimitingTextTransform.apply.Goals.{then-left-content_size+in_ok-push, else-left-content_size}
use Rattle.tabled_set.proofs.heights.LimitingTextTransform.apply.Goals as goal

pub loop-line-init : goal.loop-line-init
loop-line-init c =
    let n = c.args.content_size in
    let left = lines_left c.into_iter-line-iterator.result in
    let all = ap lines_left c.into_iter-line-iterator.ensures.into_iter_gives ∙ c.lines-line-items.ensures in
    let none : nat_lt n n ≡ false = grind (arith, nat_tests) in (
      ap (λ bytes. bytes ++ appended (nat_lt n n) (take n left)) c.clear.ensures.bytes
          ∙ ap (λ b. appended b (take n left)) none
          ∙ appended-all (take n left)
          ∙ ap (λ lines. join_with_byte 10 (take n lines)) all,
      omega arith,
    )

-- one of the lines that are kept
more-lines : (left : ℕ) (line : List ℕ) (lines : List (List ℕ)) → 0 < left → take left (line ∷ lines) ≡ line ∷ take (left - 1) lines
more-lines zero line lines some = absurd (omega arith)
more-lines (suc n) line lines some = let e : n ≡ suc n - 1 = omega arith in ap (λ k. line ∷ take k lines) e

pub loop-line-preserved : goal.loop-line-preserved
loop-line-preserved c =
    let n = c.args.content_size in
    let left = c.loop-line.left in
    let front = string_bytes c.loop-line.out in
    let line = c.in-Some.line.now in
    let rest = lines_left c.next.new.self in
    let begun : nat_lt (left - 1) n ≡ true = grind (arith, nat_tests, c.loop-line.invariant.1, c.if-left-eq0.false) in
    let feed : string_bytes c.if-left-content_size.out ≡ front ++ cond (nat_lt left n) (10 ∷ []) [] = elim c.if-left-content_size.branch [
      | then-left-content_size+in_ok-push w ↦
          let kept : nat_lt left n ≡ true = grind (arith, nat_tests, w.if-left-content_size.true) in
          ap string_bytes w.out-is ∙ (w.in_ok-push.ensures.bytes ∙ ap (λ l. front ++ l) (encode_ascii 10 (lit< tt) ∙ ap (λ b. cond b (10 ∷ []) []) (sym kept)))
      | else-left-content_size w ↦
          let first : nat_lt left n ≡ false = grind (arith, nat_tests, w.if-left-content_size.false) in
          ap string_bytes w.out-is ∙ (sym (append-nil front) ∙ ap (λ b. front ++ cond b (10 ∷ []) []) (sym first))
    ] in (
      ap (λ b. string_bytes c.push_str.new.self ++ appended b (take (left - 1) rest)) begun
          ∙ ap (λ bytes. bytes ++ appended true (take (left - 1) rest)) (c.in_ok-push_str.ensures.bytes ∙ ap (λ bytes. bytes ++ line) feed)
          ∙ sym (appended-more (nat_lt left n) front line (take (left - 1) rest))
          ∙ ap (λ lines. front ++ appended (nat_lt left n) lines) (sym (ap (take left) c.in-Some.ensures.steps ∙ more-lines left line rest (grind (arith, nat_tests, c.if-left-eq0.false))))
          ∙ c.loop-line.invariant.0,
      omega (arith, c.loop-line.invariant.1),
    )
