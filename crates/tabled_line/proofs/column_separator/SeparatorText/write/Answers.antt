use Rattle.tabled_line.proofs.Names.{IsCharBoundary, IsCharBoundary-after_ascii, IsCharBoundary-before_ascii, IsUtf8-from_is_utf8, ap}
use Rattle.tabled_line.proofs.Names.{append_assoc, arith, cases_lt, fill, get_or, inl, inr, length, lit<, piece, refl, separator_text}
use Rattle.tabled_line.proofs.Names.{slice_range, subst, sym, ◌++◌, ◌+◌, ◌-◌, ◌<◌, ◌∙◌, ◌≡◌, ◌≤◌}
use Rattle.std.proofs.lemmas.Str.{IsCharBoundary-end}
use Rattle.tabled_line.proofs.Fills.{fill-first_bytes}
use Rattle.tabled_line.proofs.SeparatorTexts.{separator-last_bytes, separator-length, separator-part, separator-parts}
use Rattle.tabled_line.proofs.Sending.{finished, further, stopped, stopped-first}
use Rattle.tabled_line.proofs.column_separator.SeparatorText.write.Goals as goal

pub overflow_sub-end-2 : goal.overflow_sub-end-2
overflow_sub-end-2 g c = omega (arith, ap length c.args.self.now.whole, separator-length c.args.self.now.bar 64 64)

pub range-requires-clause-start_le_end : goal.range-requires-clause-start_le_end
range-requires-clause-start_le_end g c = omega (arith, ap length c.args.self.now.whole, separator-length c.args.self.now.bar 64 64)

pub range-requires-clause-start_boundary : goal.range-requires-clause-start_boundary
range-requires-clause-start_boundary g c = λ some.
    let text = c.args.self.now.text.now in
    let bar = c.args.self.now.bar in
    let i = 64 - c.min-first.result in
    let long : 64 ≤ length text = omega (arith, ap length c.args.self.now.whole, separator-length bar 64 64) in
    let byte : get_or text (i - 1) 0 < 128 =
    subst (λ t. get_or t (i - 1) 0 < 128) (sym c.args.self.now.whole) (fill-first_bytes 32 64 (i - 1) (piece bar.there bar.main ++ fill 32 64) (lit< tt) (omega arith)) in
    let next : i - 1 + 1 ≡ i = omega (arith, some) in
    subst (IsCharBoundary text) next (IsCharBoundary-after_ascii text (i - 1) (IsUtf8-from_is_utf8 text c.args.self.now.utf8) (omega arith) byte)

pub range-requires-clause-end_boundary : goal.range-requires-clause-end_boundary
range-requires-clause-end_boundary g c =
    let text = c.args.self.now.text.now in
    let bar = c.args.self.now.bar in
    let i = length text - (64 - c.min-last.result) in
    let same = c.args.self.now.whole in
    let behind : IsCharBoundary text (length text) = IsCharBoundary-end text in
    elim (cases_lt c.min-last.result 64) [
      | inl more ↦
          let last : get_or (separator_text bar 64 64) i 0 < 128 = separator-last_bytes bar 64 64 i (omega (arith, ap length same)) (omega (arith, ap length same, separator-length bar 64 64)) in
          IsCharBoundary-before_ascii text i (omega (arith, ap length same, separator-length bar 64 64)) (subst (λ t. get_or t i 0 < 128) (sym same) last)
      | inr none ↦
          let whole : length text ≡ i = omega (arith, none) in
          subst (IsCharBoundary text) whole behind
    ]

pub returns-in_err-write_spaces : goal.returns-in_err-write_spaces
returns-in_err-write_spaces g c =
    stopped-first _ _ (separator_text c.args.self.now.bar c.min-first.result c.min-last.result ++ fill 32 (c.args.before - c.min-last.result))
    c.in_err-write_spaces.ensures c.from_residual.ensures.1
    (separator-parts c.args.self.now.bar c.args.behind c.args.before c.min-first.result c.min-last.result (omega arith) (omega arith))

pub returns-in_err-write_text : goal.returns-in_err-write_text
returns-in_err-write_text g c =
    let bar = c.args.self.now.bar in
    let first = c.min-first.result in
    let last = c.min-last.result in
    let part : c.range.result.now ≡ separator_text bar first last =
    c.range.ensures.value ∙ ap (λ t. slice_range t (64 - first) (length t - (64 - last))) c.args.self.now.whole
    ∙ separator-part bar 64 first last (omega arith) (omega arith) in
    stopped _ _ (fill 32 (c.args.before - last)) c.in_ok-write_spaces.ensures c.in_err-write_text.ensures.written
    c.from_residual-in_err-write_text.ensures.1
    (separator-parts bar c.args.behind c.args.before first last (omega arith) (omega arith)
    ∙ ap (λ u. fill 32 (c.args.behind - first) ++ (u ++ fill 32 (c.args.before - last))) (sym part))

pub returns : goal.returns
returns g c =
    let bar = c.args.self.now.bar in
    let first = c.min-first.result in
    let last = c.min-last.result in
    let part : c.range.result.now ≡ separator_text bar first last =
    c.range.ensures.value ∙ ap (λ t. slice_range t (64 - first) (length t - (64 - last))) c.args.self.now.whole
    ∙ separator-part bar 64 first last (omega arith) (omega arith) in
    finished _ _ _ _ (further c.in_ok-write_spaces.ensures c.in_ok-write_text.ensures.written refl) c.write_spaces-2.ensures
    (separator-parts bar c.args.behind c.args.before first last (omega arith) (omega arith)
    ∙ ap (λ u. fill 32 (c.args.behind - first) ++ (u ++ fill 32 (c.args.before - last))) (sym part)
    ∙ sym (append_assoc (fill 32 (c.args.behind - first)) c.range.result.now (fill 32 (c.args.before - last))))
